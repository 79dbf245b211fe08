-- What the new order keeps.
use Rattle.std.specs.Prelude.{◌≡◌, ◌≤◌, length, sum_by}
use Rattle.hard_items.specs.declared.code.HardProgram.{HardProgram}
use Rattle.hard_items.specs.Counts.{room, reloads, branches}
use Rattle.hard_items.specs.Counted.{HasNoFreeNop}

-- What is counted stays, and the room isn't raised where no nop is free.
pub record KeepsCounts (p q : HardProgram) : Type 0 where
  pub blocks : length q.blocks ≡ length p.blocks
  pub branches_same : sum_by (λ b. branches b.items) q.blocks ≡ sum_by (λ b. branches b.items) p.blocks
  pub reloads_same : reloads q ≡ reloads p
  pub room_not_raised : HasNoFreeNop p → room q ≤ room p
