use Rattle.std.proofs.Common.{◌≡◌, ◌+◌, ◌≤◌, ◌++◌, map, sum, reverse, length}
use Rattle.std.specs.BTreeSet.{contains}
use Rattle.std.specs.Ordering.{nat_cmp}
use Rattle.c_syntax.specs.Sizes.{item_nodes}
use Rattle.check_rules.specs.Fault.{◌>>=◌}
use Rattle.check_rules.specs.Walk.{walk_items}
use Rattle.check_scopes.proofs.Turns.{onto_front}
use Rattle.c_check.proofs.external.items.Given as goal

abbrev pub invariant-loop-i : goal.invariant-loop-i
invariant-loop-i l = l.is ++ reverse l.turned ≡ l.fn.is

abbrev pub decreases-loop-i : goal.decreases-loop-i
decreases-loop-i l = length l.is

abbrev pub invariant-loop-i-2 : goal.invariant-loop-i-2
invariant-loop-i-2 l = record {
  room : length l.scopes.decls + sum (map item_nodes (reverse l.turned)) ≤ length l.fn.scopes.decls + sum (map item_nodes l.fn.is);
  rest : walk_items (λ name. contains nat_cmp l.bodies name) l.fn.is l.fn.scopes ≡ walk_items (λ name. contains nat_cmp l.bodies name) (reverse l.turned) l.scopes >>= onto_front l.all;
}

abbrev pub decreases-loop-i-2 : goal.decreases-loop-i-2
decreases-loop-i-2 l = length l.turned
