-- The seven words of a head, and the words of the forms that call a service, as functions. This file serves the contracts of this
-- crate's tests and the proofs above alone.
use Rattle.std.specs.Prelude.{ℕ, ◌+◌, ◌-◌, ◌==◌, ◌&&◌, ◌||◌, nat_le, Bool, false, if◌then◌else◌, Option, Some, None, List}
use Rattle.mips_isa.specs.declared.instr.Instr.{Instr}
use Rattle.mips_isa.specs.declared.instr.Instr.TheVariants.{Sll, Beq, Ori, Addu, Xor, Xori}
use Rattle.mips_text.specs.Text.{instr_at}
use Rattle.lint_words.specs.Words.{code_of}
use Rattle.lint_words.specs.Around.{starts_at}
use Rattle.lint_words.specs.Windows.{serving}

-- The words of a head.
abbrev pub is_differs : Option Instr → Bool
is_differs (Some (Xori rt rs imm)) = (rt == 24) && (rs == 24)
is_differs _ = false

abbrev pub is_nop : Option Instr → Bool
is_nop (Some (Sll rd rt sh)) = (rd == 0) && ((rt == 0) && (sh == 0))
is_nop _ = false

abbrev pub is_adjusts : Option Instr → Bool
is_adjusts (Some (Xor rd rs rt)) = (rd == 24) && ((rs == 24) && (rt == 28))
is_adjusts _ = false

abbrev pub is_ori : Option Instr → ℕ → Bool
is_ori (Some (Ori rt rs imm)) r = (rt == r) && (rs == 0)
is_ori _ r = false

abbrev pub is_beq : Option Instr → ℕ → ℕ → Bool
is_beq (Some (Beq x y imm)) r q = (x == r) && ((y == q) && (imm == 2))
is_beq _ r q = false

abbrev pub is_code : Option ℕ → ℕ → Bool
is_code None n = false
is_code (Some code) n = code == n

abbrev pub head_at : List ℕ → ℕ → Bool
head_at text u =
    is_differs (instr_at text u) && ((is_adjusts (instr_at text (u + 4)) || is_nop (instr_at text (u + 4))) && (
    is_ori (instr_at text (u + 8)) 1 && (is_ori (instr_at text (u + 12)) 28 && (is_beq (instr_at text (u + 16)) 24 1 && (
    is_nop (instr_at text (u + 20)) && is_code (code_of (instr_at text (u + 24))) 2)))))

abbrev pub head_start : List ℕ → List Bool → ℕ → Bool
head_start text bits u = starts_at bits u && head_at text u

abbrev pub in_head : List ℕ → List Bool → ℕ → Bool
in_head text bits a =
    head_start text bits a || (head_start text bits (a - 4) || (head_start text bits (a - 8) || (head_start text bits (a - 12) || (
    head_start text bits (a - 16) || (head_start text bits (a - 20) || head_start text bits (a - 24))))))

-- The forms of services.
abbrev pub is_choice : Option Instr → ℕ → Bool
is_choice (Some (Ori rt rs imm)) n = (rt == 2) && ((rs == 0) && (imm == n))
is_choice _ n = false

abbrev pub moved_to : Option Instr → Option ℕ
moved_to (Some (Addu rd rs rt)) = if (rs == 2) && (rt == 0) then Some rd else None
moved_to _ = None

abbrev pub paired : ℕ → ℕ → Bool
paired m s = ((nat_le 4 m && nat_le m 13) && (s == m + 10)) || (((m == 29) && (s == 30)) || ((m == 31) && (s == 25)))

abbrev pub moves_pair : Option ℕ → Option ℕ → Bool
moves_pair (Some m) (Some s) = paired m s
moves_pair _ _ = false

abbrev pub service_at : List ℕ → (n c : ℕ) → Bool
service_at text n c = is_beq (instr_at text c) 4 14 &&
    (is_choice (instr_at text (c + 4)) n && (is_code (code_of (instr_at text (c + 8))) 1 && serving (instr_at text (c + 12))))

abbrev pub output_at : List ℕ → ℕ → Bool
output_at text c = service_at text 1 c

abbrev pub exit_at : List ℕ → ℕ → Bool
exit_at text c = service_at text 17 c && is_code (code_of (instr_at text (c + 16))) 1

abbrev pub input_at : List ℕ → ℕ → Bool
input_at text c = is_choice (instr_at text c) 5 &&
    (serving (instr_at text (c + 4)) && moves_pair (moved_to (instr_at text (c + 8))) (moved_to (instr_at text (c + 12))))

abbrev pub form_at : List ℕ → ℕ → Bool
form_at text c = output_at text c || (exit_at text c || input_at text c)

-- A word of a form behind its first.
abbrev pub form_behind : List ℕ → ℕ → Bool
form_behind text a = form_at text (a - 4) || (form_at text (a - 8) || (form_at text (a - 12) || exit_at text (a - 16)))

abbrev pub in_form : List ℕ → ℕ → Bool
in_form text a = form_at text a || form_behind text a
