-- One step of an audit, as functions and on the way through the run. This file serves private contracts alone.
use Rattle.std.specs.Prelude.{◌≡◌, ◌<◌, ℕ, ◌+◌, ◌*◌, ◌%◌, ◌==◌, ◌&&◌, ◌||◌, not, Bool, true, false, if◌then◌else◌, Option, Some, None, List, length}
use Rattle.std.specs.Prelude.{get_or, Result, Ok, Err}
use Rattle.hard_words.specs.Words.{extended}
use Rattle.mips_isa.specs.declared.instr.Instr.{Instr}
use Rattle.mips_isa.specs.declared.instr.Instr.TheVariants.{Jr, Lw, Sw}
use Rattle.mips_isa.specs.declared.instr.End.{End}
use Rattle.mips_isa.specs.declared.instr.End.TheVariants as ends
use Rattle.mips_isa.specs.Machine.{State, reg, plus, text_place}
use Rattle.mips_text.specs.Text.{InText, instr_at}
use Rattle.mips_isa.specs.Image.{ImageFields}
use Rattle.mips_faults.specs.Faults.{in_even, in_odd, PlacedFor, UnreportedFor}
use Rattle.lint_words.specs.Around.{starts_at}
use Rattle.run_audit.specs.declared.error.AuditError.{AuditError}
use Rattle.run_audit.specs.declared.error.AuditError.TheVariants as errors
use Rattle.run_audit.specs.declared.turns.Turn.{Turn}
use Rattle.run_audit.specs.declared.turns.Turn.TheVariants as turns
use Rattle.run_audit.specs.Audits.{clean, Passes, IsRefused}

-- A table of some addresses: a bit for each word of the text.
pub record Bits (text : List ℕ) (S : ℕ → Type 0) (bits : List Bool) : Type 0 where
  pub len : length bits ≡ length text
  pub sound : (k : ℕ) → k < length text → get_or bits k false ≡ true → S (0x00400000 + 4 * k)
  pub complete : (w : ℕ) → S w → InText text w → get_or bits (text_place w) false ≡ true

-- A load or store of a register is at an address of the register's half.
abbrev pub in_half : (rt address : ℕ) → Bool
in_half rt address = (not (in_even rt) || (address % 8 == 0)) && (not (in_odd rt) || (address % 8 == 4))

-- Loads, stores and returns, as a placed state asks for them.
abbrev pub stands_by : Option Instr → List Bool → State → Bool
stands_by (Some (Lw rt rs imm)) bits s = in_half rt (plus (reg s rs) (extended imm))
stands_by (Some (Sw rt rs imm)) bits s = in_half rt (plus (reg s rs) (extended imm))
stands_by (Some (Jr rs)) bits s = starts_at bits (reg s rs)
stands_by _ bits s = true

abbrev pub stands : List ℕ → List Bool → State → Bool
stands text bits s = stands_by (instr_at text s.pc) bits s

-- What a step tells: whether its state stands so, and how the run ended with it, if it did.
abbrev pub told_by : Bool → Option End → Turn
told_by stood (Some (ends.Exception code at)) = turns.Misplaced
told_by stood (Some (ends.Reported code at)) = if stood then turns.Reported else turns.Misplaced
told_by stood _ = if stood then turns.Clean else turns.Misplaced

-- The clean run as far as it has come.
pub record Passed (i : ImageFields) (input : List ℕ) (n : ℕ) : Type 0 where
  pub going : (m : ℕ) → m < n → (clean i input m).end ≡ None
  pub placed : PlacedFor i input n
  pub unreported : UnreportedFor i input n

-- What the audit answers.
abbrev pub Judged : ImageFields → List ℕ → (steps : ℕ) → Result ℕ AuditError → Type 0
Judged i input steps (Ok made) = Passes i input steps made
Judged i input steps (Err errors.OutOfMemory) = Unit {0}
Judged i input steps (Err error) = IsRefused i input steps error
