-- What the far form of branches keeps.
use Rattle.std.specs.Prelude.{◌≡◌, ◌≤◌, ◌+◌, ◌*◌, ℕ, length, sum_by}
use Rattle.hard_items.specs.declared.code.HardProgram.{HardProgram}
use Rattle.hard_items.specs.declared.code.Signed.{Signed}
use Rattle.hard_items.specs.Heads.{headed}
use Rattle.hard_items.specs.Run.{items_of}
use Rattle.hard_items.specs.Rules.{Apart, Guarded, NeverReports}
use Rattle.hard_items.specs.Counts.{Calm, Turned, TurnedThrough, branches, reloads, room}
use Rattle.hard_items.specs.Runs.{SameRuns}
use Rattle.layout_law.specs.Layout.{words, address}
use Rattle.layout_law.specs.Level.{AllReach, MarksFit, Laying}
use Rattle.far_branches.specs.Widen.{widened}

-- One program runs as another whose streams are apart, and keeps what that has.
pub record KeepsRuns (p q : HardProgram) : Type 0 where
  pub same_runs : SameRuns p q
  pub apart : Apart q
  pub never_reports : NeverReports p → NeverReports q
  pub guarded : Guarded p → Guarded q
  pub calm : Calm p → Calm q

-- The far form runs the same. Its streams are apart, and it is guarded, calm and never reports where the program does so.
abbrev pub WidenedKeepsRuns : Type 0
WidenedKeepsRuns = (p : HardProgram) → Apart p → length p.blocks ≤ 65535 → KeepsRuns p (widened p)

-- What is counted: at most one block more a branch, as many branches and loads through the stack pointers, and with seven words a head
-- no more words than the program can come to. The streams still take turns.
pub record KeepsCounts (p q : HardProgram) : Type 0 where
  pub blocks : length q.blocks ≤ length p.blocks + sum_by (λ k. branches k.items) p.blocks
  pub branches_same : sum_by (λ k. branches k.items) q.blocks ≡ sum_by (λ k. branches k.items) p.blocks
  pub reloads_same : reloads q ≡ reloads p
  pub words_within : words q.blocks + 7 * length q.blocks ≤ room p
  pub turned : Turned p → Turned q
  pub turned_through : TurnedThrough p → TurnedThrough q

abbrev pub WidenedKeepsCounts : Type 0
WidenedKeepsCounts = (p : HardProgram) → Apart p → KeepsCounts p (widened p)

-- In the far form, with heads or without, each branch reaches its block.
abbrev pub WidenedReaches : Type 0
WidenedReaches = (p : HardProgram) (s : Signed) → Apart p → s.program ≡ widened p → (n : ℕ) → AllReach (headed s) (address (headed s) n) (items_of (headed s) n)

-- The far form of a calm program with the marks of its blocks, or with none, can be laid out, if the program can come to no more words
-- than a text may have.
abbrev pub WidenedCanBeLaid : Type 0
WidenedCanBeLaid = (p : HardProgram) (s : Signed) → Apart p → Calm p → length p.blocks ≤ 65535 → s.program ≡ widened p → MarksFit s →
    room p ≤ 66060288 → Laying s
