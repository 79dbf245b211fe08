use Rattle.std.proofs.Common.{◌≡◌, ◌+◌, ◌≤◌, ◌++◌, map, sum, reverse, length}
use Rattle.c_syntax.specs.Sizes.{global_nodes}
use Rattle.check_rules.specs.Fault.{◌>>=◌}
use Rattle.check_rules.specs.Walk.{walk_globals}
use Rattle.check_scopes.proofs.Turns.{onto_front}
use Rattle.check_globals.proofs.variables.globals.Given as goal

abbrev pub invariant-loop-g : goal.invariant-loop-g
invariant-loop-g l = l.gs ++ reverse l.turned ≡ l.fn.gs

abbrev pub decreases-loop-g : goal.decreases-loop-g
decreases-loop-g l = length l.gs

abbrev pub invariant-loop-g-2 : goal.invariant-loop-g-2
invariant-loop-g-2 l = record {
  room : length l.scopes.decls + sum (map global_nodes (reverse l.turned)) ≤ length l.fn.scopes.decls + sum (map global_nodes l.fn.gs);
  rest : walk_globals l.fn.gs l.fn.scopes ≡ walk_globals (reverse l.turned) l.scopes >>= onto_front l.all;
}

abbrev pub decreases-loop-g-2 : goal.decreases-loop-g-2
decreases-loop-g-2 l = length l.turned
