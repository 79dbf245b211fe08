-- What flips of single bits come to, and how often each. The notions are the project's own, after the experiments of the articles on
-- EDDI and CFCSS (IEEE Transactions on Reliability 51(1), 2002).
use Rattle.std.specs.Prelude.{◌≡◌, ◌<◌, ℕ, ◌+◌, ◌%◌, zero, suc, Option, Some, None, List, Contains}
use Rattle.hard_runs.specs.Observed.{Prefix, Seen}
use Rattle.hard_words.specs.declared.Change.{Change}
use Rattle.hard_words.specs.declared.ChangeKind.TheVariants.{Flip}
use Rattle.mips_isa.specs.declared.instr.End.{End}
use Rattle.mips_isa.specs.declared.instr.End.TheVariants.{Exited, Trapped, Starved, Reported, Exception, Hazard}
use Rattle.mips_isa.specs.Runs.{observed}
use Rattle.mips_isa.specs.Image.{ImageFields, boot_state}
use Rattle.mips_faults.specs.Faults.{image_run}
use Rattle.fault_campaign.specs.declared.outcome.Outcome.{Outcome}
use Rattle.fault_campaign.specs.declared.outcome.Outcome.TheVariants as outcomes
use Rattle.fault_campaign.specs.declared.outcome.Tally.{Tally}

-- The flip that is tried in a register at a step: of one bit, another at each step.
abbrev pub flip_at : (n r : ℕ) → Change
flip_at n r = record { step = n; kind = Flip r ((n + r) % 32) }

-- What an end tells, where the words before it are the beginning of those of the clean run.
abbrev pub told : Option End → Outcome
told None = outcomes.Silent
told (Some (Exited word)) = outcomes.Silent
told (Some (Trapped number)) = outcomes.Silent
told (Some Starved) = outcomes.Silent
told (Some (Reported code at)) = outcomes.Reported
told (Some (Exception code at)) = outcomes.Exception
told (Some (Hazard at)) = outcomes.Silent

-- Output and end are those of the clean run.
abbrev pub IsSame : (faulty clean : Seen End) → Type 0
IsSame faulty clean = (faulty.output ≡ clean.output) × (faulty.end ≡ clean.end)

-- What a run with a flip comes to beside the clean run, each seen after as many steps.
pub data ComesTo (faulty clean : Seen End) : Outcome → Type 0 where
  same : IsSame faulty clean → ComesTo faulty clean outcomes.Same
  begins : (IsSame faulty clean → ⊥) → Prefix faulty.output clean.output → ComesTo faulty clean (told faulty.end)
  differs : (Prefix faulty.output clean.output → ⊥) → ComesTo faulty clean outcomes.Silent

-- The address of the clean run at a step and a register are a window that the image lists.
abbrev pub IsWindowed : ImageFields → List ℕ → (n r : ℕ) → Type 0
IsWindowed i input n r = Contains i.windows ((image_run i input None n).state.pc, r)

-- What the flip of a register at a step comes to: a window is not tried.
pub data Tries (i : ImageFields) (input : List ℕ) (steps n r : ℕ) : Outcome → Type 0 where
  windowed : IsWindowed i input n r → Tries i input steps n r outcomes.Windowed
  tried : {o : Outcome} → (IsWindowed i input n r → ⊥) →
      ComesTo (observed (boot_state i input) (Some (flip_at n r)) steps) (observed (boot_state i input) None steps) o →
      Tries i input steps n r o

-- No flips.
abbrev pub no_flips : Tally
no_flips = record { same = 0; reported = 0; exception = 0; windowed = 0; silent = 0 }

-- One flip more.
abbrev pub counted : Outcome → Tally → Tally
counted outcomes.Same t = record t { same = t.same + 1 }
counted outcomes.Reported t = record t { reported = t.reported + 1 }
counted outcomes.Exception t = record t { exception = t.exception + 1 }
counted outcomes.Windowed t = record t { windowed = t.windowed + 1 }
counted outcomes.Silent t = record t { silent = t.silent + 1 }

-- The counts of the flips of registers 1 to 31 at the steps from one up to another, and of registers 1 to r at that one.
pub data Counts (i : ImageFields) (input : List ℕ) (steps from : ℕ) : (n r : ℕ) → Tally → Type 0 where
  none : Counts i input steps from from 0 no_flips
  register : {n r : ℕ} {t : Tally} (o : Outcome) → r < 31 → Counts i input steps from n r t → Tries i input steps n (suc r) o →
      Counts i input steps from n (suc r) (counted o t)
  next_step : {n : ℕ} {t : Tally} → Counts i input steps from n 31 t → Counts i input steps from (suc n) 0 t

-- The tally of a campaign: the counts of the flips of registers 1 to 31 at the steps from one up to another.
abbrev pub IsTally : ImageFields → List ℕ → (steps from to : ℕ) → Tally → Type 0
IsTally i input steps from to tally = Counts i input steps from to 0 tally
