-- What the splitting of critical edges keeps.
use Rattle.std.specs.Prelude.{◌≡◌, ◌≤◌, ◌<◌, ◌+◌, ◌*◌, ℕ, length, sum_by, count_by}
use Rattle.hard_items.specs.declared.code.HardProgram.{HardProgram}
use Rattle.hard_items.specs.Run.{items_of, is_call}
use Rattle.hard_items.specs.WellFormed.{WellFormed}
use Rattle.hard_items.specs.Forms.{Formed}
use Rattle.hard_items.specs.Rules.{Apart}
use Rattle.hard_items.specs.Counts.{Turned, TurnedThrough, branches, reloads, room}
use Rattle.far_branches.specs.Widen.{widened}
use Rattle.layout_moves_law.specs.WidenLawLaw.{KeepsRuns}
use Rattle.layout_moves_law.specs.Smooth.{Smooth}
use Rattle.edge_split.specs.Split.{smoothed}

-- No edge of the split form is critical.
abbrev pub SmoothedIsSmooth : Type 0
SmoothedIsSmooth = (p : HardProgram) → WellFormed p → ((b : ℕ) → b < length p.blocks → Formed (items_of p b)) → length p.blocks ≤ 65535 → Smooth (smoothed p)

-- The split form runs the same. Its streams are apart, and it is guarded, calm and never reports where the program does so.
abbrev pub SmoothedKeepsRuns : Type 0
SmoothedKeepsRuns = (p : HardProgram) → Apart p → length p.blocks ≤ 65535 → KeepsRuns p (smoothed p)

-- What is counted: at most two blocks more a branch and one more a call, as many branches and loads through the stack pointers, and
-- room for at most 45 words more a block. The streams still take turns.
pub record KeepsCounts (p q : HardProgram) : Type 0 where
  pub blocks : length q.blocks ≤ length p.blocks + 2 * sum_by (λ k. branches k.items) p.blocks + sum_by (λ k. count_by (λ i. is_call i.instr) k.items) p.blocks
  pub branches_same : sum_by (λ k. branches k.items) q.blocks ≡ sum_by (λ k. branches k.items) p.blocks
  pub reloads_same : reloads q ≡ reloads p
  pub room_within : room q ≤ room p + 45 * length p.blocks
  pub turned : Turned p → Turned q
  pub turned_through : TurnedThrough p → TurnedThrough q

abbrev pub SmoothedKeepsCounts : Type 0
SmoothedKeepsCounts = (p : HardProgram) → Apart p → KeepsCounts p (smoothed p)

-- The far form of branches keeps that no edge is critical.
abbrev pub WidenedKeepsSmooth : Type 0
WidenedKeepsSmooth = (p : HardProgram) → WellFormed p → ((b : ℕ) → b < length p.blocks → Formed (items_of p b)) → length p.blocks ≤ 65535 → Smooth p → Smooth (widened p)
