-- For private contracts alone: the file of the image of a source, and what is told of its run.
use Rattle.std.specs.Prelude.{ℕ, ◌≡◌, List, [], length, None}
use Rattle.compile_rules.specs.Compiled.{IsAccepted, Compiles}
use Rattle.elf_image.specs.Held.{IsImage}
use Rattle.elf_image.specs.Layout.{image_bytes}
use Rattle.mips_isa.specs.Image.{ImageFields, boot_state}
use Rattle.mips_isa.specs.Runs.{run}
use Rattle.fault_replay.specs.Counts.{counted}
use Rattle.hardcc_core.specs.declared.self_file.Summary.{Summary}

pub record IsSelfRun (source : List ℕ) (steps : ℕ) (file : List ℕ) (told : Summary) : Type 0 where
  pub accepted : IsAccepted source
  pub fields : ImageFields
  pub image : IsImage file fields
  pub written : file ≡ image_bytes fields
  pub compiles : Compiles source fields
  pub bytes : told.bytes ≡ length source
  pub counted : told.counted ≡ counted (run (boot_state fields []) None steps).output
  pub end : told.end ≡ (run (boot_state fields []) None steps).state.end
