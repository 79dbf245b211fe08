-- What a well typed text promises of its runs under one fault. The theorems are the project's own.
use Rattle.std.specs.Prelude.{◌≡◌, ◌≤◌, ◌<◌, ℕ, true, Some, None, List, ◌⊎◌}
use Rattle.hard_words.specs.Words.{AreWords}
use Rattle.hard_words.specs.declared.ChangeKind.TheVariants.{Flip}
use Rattle.hard_words.specs.declared.SetPlace.{SetPlace}
use Rattle.hard_words.specs.declared.SetPlace.TheVariants.{Reg}
use Rattle.mips_isa.specs.declared.instr.Instr.{Instr}
use Rattle.mips_isa.specs.Machine.{is_jump}
use Rattle.mips_isa.specs.Image.{ImageFields}
use Rattle.mips_text.specs.Text.{IsText, InText, At, Near}
use Rattle.mips_text.specs.Blocks.{IsStart, InSpan, Succ, IsAlias}
use Rattle.mips_faults.specs.Faults.{image_run, Unseen, Told, IsSet, IsDetected, Detects, Caught, PlacedFor, Placed, UnreportedFor, Unreported}
use Rattle.harden_lint.specs.declared.TypingRow.{TypingRow}
use Rattle.harden_lint.specs.Rows.{Typed}

-- A place that is no window at an address; only registers have windows.
abbrev pub IsFree : List ℕ → ℕ → SetPlace → Type 0
IsFree text a (Reg r) = Near text a r → ⊥
IsFree text a _ = Unit {0}

-- Of a well typed text whose run is placed and does not report in its first N steps: a word put in any place that is no window is
-- unseen or told after every number of steps up to N.
abbrev pub ShowsWithin : Type 0
ShowsWithin = (i : ImageFields) (input : List ℕ) (N : ℕ) (rows : List TypingRow) → IsText i.text → Typed i.text i.entry rows → PlacedFor i input N →
    UnreportedFor i input N → (n : ℕ) (place : SetPlace) (word : ℕ) → IsSet place word → IsFree i.text (image_run i input None n).state.pc place →
    (k : ℕ) → k ≤ N → IsDetected i input n place word k

-- The same with no bound: of a well typed text whose run is placed and never reports.
abbrev pub Shows : Type 0
Shows = (i : ImageFields) (input : List ℕ) (rows : List TypingRow) → IsText i.text → Typed i.text i.entry rows → Placed i input → Unreported i input →
    (n : ℕ) (place : SetPlace) (word : ℕ) → IsFree i.text (image_run i input None n).state.pc place → Detects i input n place word

-- A bit inverted in a register just before step n is unseen or told after k steps.
abbrev pub FlipShown : ImageFields → List ℕ → (n r bit k : ℕ) → Type 0
FlipShown i input n r bit k =
    Unseen (image_run i input (Some (record { step = n; kind = Flip r bit })) k) (image_run i input None k) ⊎
    Told (image_run i input (Some (record { step = n; kind = Flip r bit })) k) (image_run i input None k)

-- The bounded form for a bit inverted in a register, and the one with no bound.
abbrev pub ShowsFlipWithin : Type 0
ShowsFlipWithin = (i : ImageFields) (input : List ℕ) (N : ℕ) (rows : List TypingRow) → IsText i.text → Typed i.text i.entry rows →
    PlacedFor i input N → UnreportedFor i input N → (n r bit : ℕ) → 1 ≤ r → (Near i.text (image_run i input None n).state.pc r → ⊥) →
    (k : ℕ) → k ≤ N → FlipShown i input n r bit k

abbrev pub ShowsFlip : Type 0
ShowsFlip = (i : ImageFields) (input : List ℕ) (rows : List TypingRow) → IsText i.text → Typed i.text i.entry rows → Placed i input →
    Unreported i input → (n r bit : ℕ) → 1 ≤ r → (Near i.text (image_run i input None n).state.pc r → ⊥) → (k : ℕ) → FlipShown i input n r bit k

-- Of a well typed text whose run is placed and never reports: a branch or jump of the block at u that is led to another start w,
-- neither a successor of u nor an alias, is caught.
abbrev pub Catches : Type 0
Catches = (i : ImageFields) (input : List ℕ) (rows : List TypingRow) → IsText i.text → Typed i.text i.entry rows → Placed i input →
    Unreported i input → (n u w : ℕ) (jump : Instr) → (image_run i input None n).state.end ≡ None →
    At i.text (image_run i input None n).state.pc jump → is_jump jump ≡ true → InSpan i.text i.entry u (image_run i input None n).state.pc →
    IsStart i.text i.entry w → (Succ i.text i.entry u w → ⊥) → (IsAlias i.text i.entry u w → ⊥) → Caught i input n w

-- A window is at a word of the text, and, where these are words, of one of the 32 registers.
abbrev pub WindowsInside : Type 0
WindowsInside = (text : List ℕ) (a r : ℕ) → AreWords text → Near text a r → InText text a × (r < 32)
