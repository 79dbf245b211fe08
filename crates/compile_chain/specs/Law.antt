-- How the tree's side and the side of the blocks come together: an image that does what the blocks do is the hardened image of the tree.
use Rattle.std.specs.Prelude.{◌≡◌, ◌≤◌, ℕ, ◌*◌, None, List, Ok}
use Rattle.hard_runs.specs.Observed.{SameObserved}
use Rattle.hard_words.specs.Words.{AreWords}
use Rattle.mips_isa.specs.Runs.{observed}
use Rattle.mips_isa.specs.Image.{ImageFields, boot_state}
use Rattle.mips_faults.specs.Faults.{Placed}
use Rattle.c_syntax.specs.declared.tree.Program.{Program}
use Rattle.c_meaning.specs.Meaning.{source_names}
use Rattle.c_syntax.specs.Shaped.{Shaped}
use Rattle.check_rules.specs.Limits.{Resolved, checked}
use Rattle.check_rules.specs.Resolution.{IsChecked}
use Rattle.mid_blocks.specs.declared.code.Mid.{Mid}
use Rattle.mid_blocks.specs.Size.{words}
use Rattle.frame_plan.specs.Frames.{cells}
use Rattle.double_law.specs.Runs.{blocks_seen}
use Rattle.lint_theorem.specs.Hardened.{IsHardened}
use Rattle.compile_rules.specs.Same.{program_seen}
use Rattle.lower_rules.specs.Lowered.{IsLowered}
use Rattle.compile_rules.specs.Hardened.{Hardened}

-- The blocks do what the tree does, on each input of words.
abbrev pub LoweredRuns : Type 0
LoweredRuns = (program : Program) (c : Resolved) (mid : Mid) → Shaped program → checked source_names program ≡ Ok c → IsLowered c mid →
    (input : List ℕ) → AreWords input → SameObserved (blocks_seen mid input) (program_seen program input)

-- What is asked of an image of the blocks: it does what they do, it is hardened, its run is placed, and it has memory for their globals and
-- their stack.
pub record IsImageOfLowered (mid : Mid) (image : ImageFields) : Type 0 where
  pub same : (input : List ℕ) → AreWords input → SameObserved (observed (boot_state image input) None) (blocks_seen mid input)
  pub hardened : IsHardened image
  pub placed : (input : List ℕ) → AreWords input → Placed image input
  pub memory : image.memory_words ≡ 2 * cells mid

-- Then the image is the hardened image of the tree, with at most 65,536 words of memory.
abbrev pub LoweredIsHardened : Type 0
LoweredIsHardened = (program : Program) (c : Resolved) (mid : Mid) (image : ImageFields) → Shaped program → checked source_names program ≡ Ok c →
    IsLowered c mid → IsImageOfLowered mid image → Hardened program image × (image.memory_words ≤ 65536)

-- And where the tree is checked the blocks come to at most 62,914,560 words.
abbrev pub LoweredIsSmall : Type 0
LoweredIsSmall = (c : Resolved) (mid : Mid) → IsChecked c → IsLowered c mid → words mid ≤ 62914560
