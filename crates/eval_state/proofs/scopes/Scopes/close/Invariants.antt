use Rattle.std.proofs.Common.{◌≡◌, length, reverse}
use Rattle.c_meaning.specs.Run.{without_first}
use Rattle.eval_state.specs.Cells.{scopes_of, Kept}
use Rattle.eval_state.proofs.scopes.Scopes.close.Given as goal

abbrev pub invariant-loop-self : goal.invariant-loop-self
invariant-loop-self l = Kept l.self-inside.first l.self-inside.latest.items l.self-inside.cells.items × (without_first (scopes_of (reverse l.self-inside.cells.items)) ≡ without_first l.fn.self)

abbrev pub decreases-loop-self : goal.decreases-loop-self
decreases-loop-self l = length l.self-inside.cells.items
