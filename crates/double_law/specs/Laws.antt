-- What else is true of doubled programs, from the items alone.
use Rattle.std.specs.Prelude.{◌≡◌, ◌≤◌, ◌+◌, List, length, sum_by}
use Rattle.mid_blocks.specs.declared.code.Mid.{Mid}
use Rattle.mid_blocks.specs.declared.places.Places.{Places}
use Rattle.mid_blocks.specs.Size.{words, block_count, branch_count}
use Rattle.hard_items.specs.declared.code.HardProgram.{HardProgram}
use Rattle.hard_items.specs.Rules.{Twin}
use Rattle.hard_items.specs.Counts.{room, branches}
use Rattle.hard_items.specs.Counted.{HasNoFreeNop, AreBusy}
use Rattle.double_law.specs.Law.{Doubles}
use Rattle.double_law.specs.Ways.{NamesWays}

-- A doubled program that names the ways of its blocks is well formed, and its streams are twins.
abbrev pub DoubledTwin : Type 0
DoubledTwin = (mid : Mid) (places : List Places) (p : HardProgram) → Doubles mid places p → NamesWays mid p → Twin p

-- A doubled program has two blocks and no branch more, comes to at most the words of what it was made from, has no nop outside a
-- form, and each item of a stream touches a register.
pub record CountsFit (mid : Mid) (p : HardProgram) : Type 0 where
  pub blocks : length p.blocks ≡ block_count mid + 2
  pub branches_same : sum_by (λ b. branches b.items) p.blocks ≡ branch_count mid
  pub room_fits : room p ≤ words mid
  pub no_free_nop : HasNoFreeNop p
  pub busy : AreBusy p

abbrev pub DoubledCounts : Type 0
DoubledCounts = (mid : Mid) (places : List Places) (p : HardProgram) → Doubles mid places p → CountsFit mid p
