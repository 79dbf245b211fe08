-- What setting the checks keeps.
use Rattle.std.specs.Prelude.{◌≡◌, ℕ, length, sum_by}
use Rattle.hard_items.specs.declared.code.HardProgram.{HardProgram}
use Rattle.hard_items.specs.Run.{items_of}
use Rattle.hard_items.specs.Counts.{room, reloads, branches, free_nops}
use Rattle.hard_items.specs.Counted.{of_streams}

-- What is counted stays, and so do the items of the streams.
pub record SameCounts (p q : HardProgram) : Type 0 where
  pub blocks : length q.blocks ≡ length p.blocks
  pub branches_same : sum_by (λ b. branches b.items) q.blocks ≡ sum_by (λ b. branches b.items) p.blocks
  pub reloads_same : reloads q ≡ reloads p
  pub free_nops_same : (b : ℕ) → free_nops (items_of q b) ≡ free_nops (items_of p b)
  pub room_same : room q ≡ room p
  pub streams_same : (b : ℕ) → of_streams (items_of q b) ≡ of_streams (items_of p b)
