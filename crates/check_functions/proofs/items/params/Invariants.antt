use Rattle.std.proofs.Common.{◌≡◌, ◌+◌, ◌≤◌, ◌++◌, reverse, length, Ok}
use Rattle.check_rules.specs.Fault.{◌>>=◌}
use Rattle.check_rules.specs.Walk.{walk_params}
use Rattle.check_scopes.proofs.Turns.{onto_front}
use Rattle.check_functions.proofs.items.params.Given as goal

abbrev pub invariant-loop-p : goal.invariant-loop-p
invariant-loop-p l = record { count : length l.ps + length l.turned ≡ length l.fn.ps; same : l.ps ++ reverse l.turned ≡ l.fn.ps }

abbrev pub decreases-loop-p : goal.decreases-loop-p
decreases-loop-p l = length l.ps

abbrev pub invariant-loop-p-2 : goal.invariant-loop-p-2
invariant-loop-p-2 l = record {
  room : length l.scopes.decls + length l.turned ≤ length l.fn.scopes.decls + length l.fn.ps;
  rest : walk_params l.fn.ps l.fn.scopes ≡ walk_params (reverse l.turned) l.scopes >>= onto_front l.all;
}

abbrev pub decreases-loop-p-2 : goal.decreases-loop-p-2
decreases-loop-p-2 l = length l.turned
