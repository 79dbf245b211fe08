-- The next words and the ten rules, as functions of the words around one word of the text and of a table of the starts. This file
-- serves private contracts alone; Rules.antt has the rules.
use Rattle.std.specs.Prelude.{ℕ, ◌+◌, ◌-◌, ◌==◌, ◌&&◌, ◌||◌, not, Bool, true, false, if◌then◌else◌, Option, Some, None, List, length}
use Rattle.mips_isa.specs.declared.instr.Instr.{Instr}
use Rattle.mips_isa.specs.declared.instr.Instr.TheVariants.{Mfhi, Mflo, J, Jal, Beq, Bne, Lw, Sw}
use Rattle.mips_isa.specs.Rows.{row, pair_of}
use Rattle.mips_isa.specs.Machine.{is_product}
use Rattle.mips_text.specs.Text.{instr_at, branch_goal, jump_goal}
use Rattle.mips_faults.specs.Faults.{in_even, in_odd}
use Rattle.mips_text.specs.Typing.{Role, master, shadow, signs}
use Rattle.lint_words.specs.Words.{code_of, skipped, in_words}
use Rattle.lint_words.specs.Around.{starts_at, reads_by, uses_by, jumps_by, in_slot, reporting, is_some, near_before, far_before}
use Rattle.lint_words.specs.Windows.{critical, check_at}
use Rattle.lint_words.specs.Shapes.{is_nop, head_at, in_head, output_at, exit_at, input_at, form_behind, in_form}
use Rattle.harden_lint.specs.StreamTests.{of, streams_by, guarded, implies, products}

-- The next words.
abbrev pub goal_of : Option Instr → ℕ → Option ℕ
goal_of (Some (J target)) j = Some (jump_goal j target)
goal_of (Some (Jal target)) j = Some (jump_goal j target)
goal_of (Some (Beq x y imm)) j = Some (branch_goal j imm)
goal_of (Some (Bne x y imm)) j = Some (branch_goal j imm)
goal_of _ j = None

abbrev pub is_branch : Option Instr → Bool
is_branch (Some (Beq x y imm)) = true
is_branch (Some (Bne x y imm)) = true
is_branch _ = false

abbrev pub first_next : List ℕ → ℕ → Option ℕ
first_next text a = if in_slot text a then goal_of (instr_at text (a - 4)) (a - 4) else (if is_some (code_of (instr_at text a)) then None else Some (a + 4))

abbrev pub second_next : List ℕ → ℕ → Option ℕ
second_next text a = if is_branch (instr_at text (a - 4)) && not (reporting (skipped text (a - 4))) then Some (a + 4) else None

-- The rules, each at a word of the text.
abbrev pub is_instr : Option Instr → Bool
is_instr None = false
is_instr (Some i) = true

abbrev pub keeps_one : Role → ℕ → Bool
keeps_one X r = (r == 0) || ((r == 2) || of X r)

abbrev pub keeps_pair : Role → ℕ × ℕ → Bool
keeps_pair X p = keeps_one X p.0 && keeps_one X p.1

abbrev pub of_stream : Option Instr → Role → Bool
of_stream None X = true
of_stream (Some i) X = keeps_pair X (pair_of (row i).writes) && keeps_pair X (pair_of (row i).reads)

abbrev pub one_stream : Option Instr → Bool
one_stream o = of_stream o master || (of_stream o shadow || of_stream o signs)

abbrev pub half_of : Option Instr → Option ℕ
half_of (Some (Mfhi rd)) = Some rd
half_of (Some (Mflo rd)) = Some rd
half_of _ = None

abbrev pub half_kept : List ℕ → List Bool → ℕ → Option ℕ → Bool
half_kept text bits a None = true
half_kept text bits a (Some rd) = (rd == 0) || ((of master rd && products text bits master a) || (of shadow rd && products text bits shadow a))

abbrev pub rule_2 : List ℕ → List Bool → ℕ → Bool
rule_2 text bits a = implies (starts_at bits a) (head_at text a)

abbrev pub rule_3 : List ℕ → List Bool → ℕ → Bool
rule_3 text bits a = (streams_by (check_at text a) || (in_head text bits a || one_stream (instr_at text a))) &&
    half_kept text bits a (half_of (instr_at text a))

abbrev pub operand_kept : List ℕ → List Bool → (a r : ℕ) → Bool
operand_kept text bits a r = implies (critical text a r) ((r == 0) || (guarded text bits a r || input_at text (a - 4)))

abbrev pub operands_kept : List ℕ → List Bool → ℕ → Option Instr → Bool
operands_kept text bits a None = true
operands_kept text bits a (Some i) = operand_kept text bits a (pair_of (row i).reads).0 && operand_kept text bits a (pair_of (row i).reads).1

abbrev pub rule_4 : List ℕ → List Bool → ℕ → Bool
rule_4 text bits a = operands_kept text bits a (instr_at text a)

-- A load's register is not read by the next words.
abbrev pub loaded : Option Instr → Option ℕ
loaded (Some (Lw rt rs imm)) = Some rt
loaded _ = None

abbrev pub clear_of : List ℕ → ℕ → Option ℕ → Bool
clear_of text rt None = true
clear_of text rt (Some b) = not (reads_by (instr_at text b) rt)

abbrev pub load_kept : List ℕ → ℕ → Option ℕ → Bool
load_kept text a None = true
load_kept text a (Some rt) = (rt == 0) || (clear_of text rt (first_next text a) && clear_of text rt (second_next text a))

-- A word is behind a mfhi or mflo, or behind such a word.
abbrev pub is_half : Option Instr → Bool
is_half (Some (Mfhi rd)) = true
is_half (Some (Mflo rd)) = true
is_half _ = false

abbrev pub moves_before : List ℕ → List Bool → ℕ → Bool
moves_before text bits a = not (starts_at bits a) &&
    ((near_before text a && is_half (instr_at text (a - 4))) || (far_before text a && is_half (instr_at text (a - 8))))

abbrev pub moves_twice : List ℕ → List Bool → ℕ → Bool
moves_twice text bits a = not (starts_at bits a) &&
    ((near_before text a && moves_before text bits (a - 4)) || (far_before text a && moves_before text bits (a - 8)))

abbrev pub product_at : Option Instr → Bool
product_at None = false
product_at (Some i) = is_product i

abbrev pub rule_5 : List ℕ → List Bool → ℕ → Bool
rule_5 text bits a =
    load_kept text a (loaded (instr_at text a)) && (
    implies (product_at (instr_at text a)) (not (moves_before text bits a) && not (moves_twice text bits a)) &&
    not (jumps_by (instr_at text a) && in_slot text a))

abbrev pub inside_by : List ℕ → Option ℕ → Bool
inside_by text None = true
inside_by text (Some b) = in_words (length text) b

abbrev pub rule_6 : List ℕ → ℕ → Bool
rule_6 text a = inside_by text (first_next text a) && inside_by text (second_next text a)

abbrev pub held : Option Instr → Bool
held (Some (Lw rt rs imm)) = in_even rt || in_odd rt
held (Some (Sw rt rs imm)) = in_even rt || in_odd rt
held _ = true

abbrev pub signs_pair : ℕ × ℕ → Bool
signs_pair p = of signs p.0 || of signs p.1

abbrev pub uses_signs : Option Instr → Bool
uses_signs None = false
uses_signs (Some i) = signs_pair (pair_of (row i).writes) || signs_pair (pair_of (row i).reads)

abbrev pub rule_8 : List ℕ → List Bool → ℕ → Bool
rule_8 text bits a = implies (uses_signs (instr_at text a)) (in_head text bits a)

abbrev pub rule_9 : List ℕ → List Bool → ℕ → Bool
rule_9 text bits a = implies (uses_by (instr_at text a) 2) (in_form text a) && implies (starts_at bits a) (not (form_behind text a))

abbrev pub choosing : List ℕ → ℕ → Bool
choosing text a = output_at text (a - 4) || exit_at text (a - 4)

abbrev pub rule_10 : List ℕ → List Bool → ℕ → Bool
rule_10 text bits a = implies (in_slot text a) (not (starts_at bits a) && (is_nop (instr_at text a) || choosing text a))

-- The lowest rule that is broken at a word of the text, or 0.
abbrev pub first_rule : List ℕ → List Bool → ℕ → ℕ
first_rule text bits a =
    if not (is_instr (instr_at text a)) then 1 else (
    if not (rule_2 text bits a) then 2 else (
    if not (rule_3 text bits a) then 3 else (
    if not (rule_4 text bits a) then 4 else (
    if not (rule_5 text bits a) then 5 else (
    if not (rule_6 text a) then 6 else (
    if not (held (instr_at text a)) then 7 else (
    if not (rule_8 text bits a) then 8 else (
    if not (rule_9 text bits a) then 9 else (
    if not (rule_10 text bits a) then 10 else 0)))))))))
