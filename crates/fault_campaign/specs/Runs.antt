-- What the parts of a campaign keep. This file serves private contracts alone.
use Rattle.std.specs.Prelude.{◌≡◌, ◌<◌, ◌≤◌, ℕ, ◌+◌, ◌-◌, None, List, length, slice_index}
use Rattle.elf_image.specs.Bounds.{Fits}
use Rattle.elf_image.specs.Layout.{fields_of}
use Rattle.mips_isa.specs.Image.{ImageFields, boot_state}
use Rattle.mips_isa.specs.Machine.{State}
use Rattle.mips_isa.specs.Runs.{run}
use Rattle.fault_campaign.specs.declared.flips.Trial.{Trial}
use Rattle.fault_campaign.specs.declared.outcome.Tally.{Tally}
use Rattle.fault_campaign.specs.declared.runs.CleanRun.{CleanRun}

-- The text and the input are the same.
pub record KeepsText (before after : State) : Type 0 where
  pub text : after.text ≡ before.text
  pub feed : after.feed ≡ before.feed

-- The addresses at the first steps of the run from a state.
pub record AreAddresses (s : State) (count : ℕ) (noted : List ℕ) : Type 0 where
  pub each : length noted ≡ count
  pub are : (k : ℕ) → k < count → slice_index noted k ≡ (run s None k).state.pc

-- The run from a state without a flip: its words and its end after so many steps, and its addresses at some of the steps.
pub record IsClean (s : State) (steps from to : ℕ) (clean : CleanRun) : Type 0 where
  pub output : clean.output.items ≡ (run s None steps).output
  pub end : clean.end ≡ (run s None steps).state.end
  pub each : length clean.addresses.items ≡ to - from
  pub addresses : (k : ℕ) → k < to - from → slice_index clean.addresses.items k ≡ (run s None (from + k)).state.pc

-- The image of a trial.
abbrev pub image_of : Trial → ImageFields
image_of t = fields_of t.image.now

-- A machine is ready for the flips of a trial: it has the text of the image, and the clean run is that of the image on its input.
pub record IsReady (t : Trial) (m : State) : Type 0 where
  pub fits : Fits (image_of t)
  pub text : m.text ≡ t.image.now.text
  pub clean : IsClean (boot_state (image_of t) m.feed) t.steps t.from t.to t.clean
  pub order : t.from ≤ t.to
  pub within : t.to ≤ t.steps
  pub few : t.steps ≤ 10000000

-- The counts are below a bound.
pub record AreBelow (t : Tally) (bound : ℕ) : Type 0 where
  pub same : t.same < bound
  pub reported : t.reported < bound
  pub exception : t.exception < bound
  pub windowed : t.windowed < bound
  pub silent : t.silent < bound
