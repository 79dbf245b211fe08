-- What the audit of an image tells of its clean run, the run without a change on some words of input: where it stands at a state
-- that is not placed, where it reports, or how long it goes on; and what holds of a run that passes. The notions are the
-- project's own; the lint, the windows, and what it means that a fault is unseen or told are those of the crates below.
use Rattle.std.specs.Prelude.{◌≡◌, ◌≢◌, ◌≤◌, ◌<◌, ℕ, ◌+◌, ◌⊎◌, Some, None, List, length, Result, Err}
use Rattle.hard_words.specs.declared.SetPlace.{SetPlace}
use Rattle.mips_isa.specs.declared.instr.End.TheVariants.{Reported}
use Rattle.mips_isa.specs.Machine.{State}
use Rattle.mips_isa.specs.Image.{ImageFields}
use Rattle.mips_text.specs.Text.{IsText, Near}
use Rattle.mips_faults.specs.Faults.{image_run, IsSet, IsDetected, IsPlaced, PlacedFor, UnreportedFor}
use Rattle.harden_lint.specs.Rules.{WellTyped, BadAt}
use Rattle.harden_lint.specs.Theorems.{IsFree, FlipShown}
use Rattle.lint_words.specs.WindowList.{AreWindows}
use Rattle.run_audit.specs.declared.error.AuditError.{AuditError}
use Rattle.run_audit.specs.declared.error.AuditError.TheVariants as errors

-- The state of the clean run after some steps.
abbrev pub clean : ImageFields → List ℕ → ℕ → State
clean i input n = (image_run i input None n).state

-- A text that the lint accepts, and the first step of the clean run, below a bound, that is made at a state that is not placed;
-- `at` is where it stands.
pub record Misplaces (i : ImageFields) (input : List ℕ) (steps step at : ℕ) : Type 0 where
  pub typed : WellTyped i.text i.entry
  pub below : step < steps
  pub before : PlacedFor i input step
  pub going : (clean i input step).end ≡ None
  pub broken : IsPlaced i.entry (clean i input step) → ⊥
  pub stands : at ≡ (clean i input step).pc

-- A text that the lint accepts, and the step of the clean run, below a bound, that ends it by a report, all steps up to it being
-- made at placed states.
pub record Reports (i : ImageFields) (input : List ℕ) (steps step : ℕ) : Type 0 where
  pub typed : WellTyped i.text i.entry
  pub below : step < steps
  pub placed : PlacedFor i input (step + 1)
  pub going : (clean i input step).end ≡ None
  pub code : ℕ
  pub at : ℕ
  pub reported : (clean i input (step + 1)).end ≡ Some (Reported code at)

-- A text that the lint accepts, and a clean run that below the bound is placed and does not report; `made` steps are made until
-- its end, or up to the bound where it has no end by then.
pub record Passes (i : ImageFields) (input : List ℕ) (steps made : ℕ) : Type 0 where
  pub typed : WellTyped i.text i.entry
  pub placed : PlacedFor i input steps
  pub unreported : UnreportedFor i input steps
  pub within : made ≤ steps
  pub going : (n : ℕ) → n < made → (clean i input n).end ≡ None
  pub ended : made < steps → (clean i input made).end ≢ None

-- Why an audit does not pass: what the lint refuses, or what of these the clean run does.
abbrev pub IsRefused : ImageFields → List ℕ → (steps : ℕ) → AuditError → Type 0
IsRefused i input steps (errors.Lint address rule) = BadAt i.text i.entry address rule
IsRefused i input steps (errors.Misplaced step at) = Misplaces i input steps step at
IsRefused i input steps (errors.Reports step) = Reports i input steps step
IsRefused i input steps errors.OutOfMemory = ⊥

-- Each run passes or is refused.
abbrev pub PassesOrRefused : Type 0
PassesOrRefused = (i : ImageFields) (input : List ℕ) (steps : ℕ) → IsText i.text →
    ((made : ℕ) × Passes i input steps made) ⊎ ((error : AuditError) × IsRefused i input steps error)

-- No run passes and is refused.
abbrev pub NeverBoth : Type 0
NeverBoth = (i : ImageFields) (input : List ℕ) (steps made : ℕ) (error : AuditError) → Passes i input steps made → IsRefused i input steps error → ⊥

-- What holds of a run that passes: each word that a fault puts in a place that is no window, just before any step, is unseen or told
-- after every number of steps up to the bound; only registers have windows. And so is each inverted bit of a register from 1 on.
pub record AuditedRun (i : ImageFields) (input : List ℕ) (steps : ℕ) : Type 0 where
  pub words : (step : ℕ) (place : SetPlace) (word : ℕ) → IsSet place word → IsFree i.text (clean i input step).pc place →
      (k : ℕ) → k ≤ steps → IsDetected i input step place word k
  pub bits : (step r bit : ℕ) → 1 ≤ r → (Near i.text (clean i input step).pc r → ⊥) →
      (k : ℕ) → k ≤ steps → FlipShown i input step r bit k

-- An audit had the memory that it asked for.
abbrev pub IsAnswered : Result ℕ AuditError → Type 0
IsAnswered answer = answer ≡ Err errors.OutOfMemory → ⊥

-- A text has so many windows: a list of all of them, each once, is so long.
pub record CountsWindows (text : List ℕ) (count : ℕ) : Type 0 where
  pub list : List (ℕ × ℕ)
  pub are : AreWindows text list
  pub long : length list ≡ count
