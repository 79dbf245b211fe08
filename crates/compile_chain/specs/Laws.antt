-- How the layers come together: a tree without fault, lowered, doubled and laid out as an image, gives a hardened image of the tree.
use Rattle.std.specs.Prelude.{◌≡◌, ◌≤◌, ℕ, ◌+◌, ◌*◌, None, List, Ok, length, sum_by}
use Rattle.hard_runs.specs.Observed.{SameObserved}
use Rattle.hard_words.specs.Words.{AreWords}
use Rattle.mips_isa.specs.Runs.{observed}
use Rattle.mips_isa.specs.Image.{ImageFields, boot_state}
use Rattle.mips_faults.specs.Faults.{Placed}
use Rattle.c_syntax.specs.declared.tree.Program.{Program}
use Rattle.c_meaning.specs.Meaning.{source_names}
use Rattle.c_syntax.specs.Shaped.{Shaped}
use Rattle.c_syntax.specs.Sizes.{program_nodes}
use Rattle.check_rules.specs.Limits.{Resolved, checked}
use Rattle.check_rules.specs.Resolution.{IsChecked}
use Rattle.mid_blocks.specs.declared.code.Mid.{Mid}
use Rattle.hard_items.specs.declared.code.HardProgram.{HardProgram}
use Rattle.hard_items.specs.Run.{item_run}
use Rattle.hard_items.specs.Counts.{room, branches}
use Rattle.hard_items.specs.Counted.{HasNoFreeNop}
use Rattle.frame_plan.specs.Frames.{cells}
use Rattle.double_law.specs.Law.{RunsAsBlocks}
use Rattle.double_law.specs.Laws.{CountsFit}
use Rattle.lint_theorem.specs.Hardened.{IsHardened}
use Rattle.lower_rules.specs.Lowered.{IsLowered}
use Rattle.compile_rules.specs.Hardened.{Hardened, IsWithin}

-- What each layer says of what it was given.
pub record IsCompiled (program : Program) (c : Resolved) (mid : Mid) (p : HardProgram) (image : ImageFields) : Type 0 where
  -- the tree has no fault, and this is the tree with positions for names
  pub shaped : Shaped program
  pub resolved : checked source_names program ≡ Ok c
  -- lowered to blocks
  pub lowered : IsLowered c mid
  -- doubled
  pub runs : RunsAsBlocks mid p
  pub counts : CountsFit mid p
  pub memory : p.memory_words ≡ 2 * cells mid
  -- and made into an image
  pub same : (input : List ℕ) → AreWords input → SameObserved (observed (boot_state image input) None) (item_run p input)
  pub hardened : IsHardened image
  pub placed : (input : List ℕ) → AreWords input → Placed image input
  pub image_memory : image.memory_words ≡ p.memory_words
  pub words : length image.text ≤ room p

abbrev pub CompiledIsHardened : Type 0
CompiledIsHardened = (program : Program) (c : Resolved) (mid : Mid) (p : HardProgram) (image : ImageFields) → IsCompiled program c mid p image →
    Hardened program image × IsWithin (program_nodes c.program) image

-- What making an image asks of the size of a program of items: no free nop, at most 65,535 blocks with one more for each branch, and room
-- for at most 66,060,288 words.
pub record CanBecomeImage (p : HardProgram) : Type 0 where
  pub no_free_nop : HasNoFreeNop p
  pub few_blocks : length p.blocks + sum_by (λ b. branches b.items) p.blocks ≤ 65535
  pub few_words : room p ≤ 66060288

-- A doubled program has such a size where the tree is checked.
abbrev pub CanBeHardened : Type 0
CanBeHardened = (c : Resolved) (mid : Mid) (p : HardProgram) → IsChecked c → IsLowered c mid → CountsFit mid p → CanBecomeImage p
