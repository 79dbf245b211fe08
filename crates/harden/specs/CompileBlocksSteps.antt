-- For private contracts alone: the places of variables, and the program of items in two streams to which a program in blocks is doubled.
use Rattle.std.specs.Prelude.{◌≡◌, ◌≤◌, ℕ, ◌*◌, List, Some, length, slice_get}
use Rattle.mid_blocks.specs.declared.code.Mid.{Mid}
use Rattle.mid_blocks.specs.declared.code.MidFunction.{MidFunction}
use Rattle.mid_blocks.specs.declared.places.Places.{Places}
use Rattle.register_halves.specs.Assigned.{AreAssigned}
use Rattle.mid_blocks.specs.Leaf.{IsOneLeaf}
use Rattle.frame_plan.specs.Frames.{cells}
use Rattle.hard_items.specs.declared.code.HardProgram.{HardProgram}
use Rattle.hard_items.specs.Rules.{Twin}
use Rattle.hard_items.specs.Counts.{reloads}
use Rattle.double_law.specs.Law.{RunsAsBlocks}
use Rattle.double_law.specs.Laws.{CountsFit}

-- Each function has its places, in the eight pairs and in slots.
pub record AreAllAssigned (mid : Mid) (places : List Places) : Type 0 where
  pub one_each : length places ≡ length mid.functions
  pub each : (n : ℕ) (f : MidFunction) → slice_get mid.functions n ≡ Some f → (at : Places) × (slice_get places n ≡ Some at) × AreAssigned f 8 at

-- The doubled program. Where the program is one small leaf, it loads twice through the stack pointers: where that returns.
pub record IsDoubled (mid : Mid) (p : HardProgram) : Type 0 where
  pub runs : RunsAsBlocks mid p
  pub twin : Twin p
  pub counts : CountsFit mid p
  pub memory : p.memory_words ≡ 2 * cells mid
  pub few_reloads : IsOneLeaf mid → reloads p ≤ 2
