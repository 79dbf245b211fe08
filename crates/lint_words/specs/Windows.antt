-- Checks and windows as functions. This file serves the contracts of this crate's tests and the proofs above alone.
use Rattle.std.specs.Prelude.{ℕ, ◌+◌, ◌-◌, ◌==◌, ◌&&◌, ◌||◌, nat_le, not, Bool, true, false, if◌then◌else◌, Option, Some, None, List}
use Rattle.mips_isa.specs.declared.instr.Instr.{Instr}
use Rattle.mips_isa.specs.declared.instr.Instr.TheVariants.{Jr, Syscall, Beq, Bne, Sw}
use Rattle.mips_text.specs.Text.{instr_at}
use Rattle.lint_words.specs.Words.{code_of, skipped}
use Rattle.lint_words.specs.Around.{reads_by, writes_by, reporting}

-- What an instruction reads in a critical way; skip is the code of the break that it skips.
abbrev pub critical_by : Option Instr → Option ℕ → ℕ → Bool
critical_by (Some (Sw rt rs imm)) skip r = r == rs
critical_by (Some (Beq x y imm)) skip r = not (reporting skip) && ((r == x) || (r == y))
critical_by (Some (Bne x y imm)) skip r = not (reporting skip) && ((r == x) || (r == y))
critical_by (Some (Jr rs)) skip r = r == rs
critical_by (Some Syscall) skip r = r == 4
critical_by _ skip r = false

abbrev pub critical : List ℕ → (u r : ℕ) → Bool
critical text u r = critical_by (instr_at text u) (skipped text u) r

-- A use of the register at a or behind it, among the four words behind c, before which it is not written.
abbrev pub use_at : List ℕ → (r a u : ℕ) → Bool
use_at text r a u = nat_le a u && critical text u r

abbrev pub await_3 : List ℕ → (r c a : ℕ) → Bool
await_3 text r c a = use_at text r a (c + 12) || (not (writes_by (instr_at text (c + 12)) r) && use_at text r a (c + 16))

abbrev pub await_2 : List ℕ → (r c a : ℕ) → Bool
await_2 text r c a = use_at text r a (c + 8) || (not (writes_by (instr_at text (c + 8)) r) && await_3 text r c a)

abbrev pub awaits : List ℕ → (r c a : ℕ) → Bool
awaits text r c a = use_at text r a (c + 4) || (not (writes_by (instr_at text (c + 4)) r) && await_2 text r c a)

-- The registers that a check compares: two, different, neither of them 0.
abbrev pub is_one : Option ℕ → Bool
is_one None = false
is_one (Some code) = code == 1

abbrev pub compared_by : (x y imm : ℕ) → Option ℕ → Option (ℕ × ℕ)
compared_by x y imm code = if (imm == 2) && (is_one code && (not (x == y) && (not (x == 0) && not (y == 0)))) then Some (x, y) else None

abbrev pub compared : Option Instr → Option ℕ → Option (ℕ × ℕ)
compared (Some (Beq x y imm)) code = compared_by x y imm code
compared _ code = None

abbrev pub check_at : List ℕ → ℕ → Option (ℕ × ℕ)
check_at text c = compared (instr_at text c) (code_of (instr_at text (c + 8)))

-- The window of the check at c.
abbrev pub window_by : List ℕ → Option (ℕ × ℕ) → (r c a : ℕ) → Bool
window_by text None r c a = false
window_by text (Some p) r c a = ((r == p.0) || (r == p.1)) && (nat_le (c + 4) a && awaits text r c a)

abbrev pub window : List ℕ → (r c a : ℕ) → Bool
window text r c a = window_by text (check_at text c) r c a

-- A pair is a window of the text: by a check, or register 2 by a service.
abbrev pub serving : Option Instr → Bool
serving (Some Syscall) = true
serving _ = false

abbrev pub service_near : List ℕ → ℕ → Bool
service_near text a = serving (instr_at text a) || (serving (instr_at text (a - 4)) && reads_by (instr_at text a) 2)

abbrev pub near : List ℕ → (a r : ℕ) → Bool
near text a r =
    (window text r (a - 4) a || (window text r (a - 8) a || (window text r (a - 12) a || window text r (a - 16) a))) ||
    ((r == 2) && service_near text a)
