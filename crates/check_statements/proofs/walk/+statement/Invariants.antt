use Rattle.std.proofs.Common.{◌≡◌, ℕ, ◌+◌, ◌*◌, ◌≤◌, ◌++◌, map, sum, reverse, length, Option, Ok}
use Rattle.c_syntax.specs.Sizes.{or_zero, statement_nodes, clause_nodes}
use Rattle.check_rules.specs.Fault.{◌>>=◌}
use Rattle.check_rules.specs.Walk.{statement_walk, clause_walk, walk_each, walk_clauses}
use Rattle.check_scopes.proofs.Turns.{onto_front}
use Rattle.check_statements.proofs.walk.+statement.Given as goal

abbrev pub decreases-statement : goal.decreases-statement
decreases-statement l = 4 * statement_nodes l.c

abbrev pub decreases-otherwise : goal.decreases-otherwise
decreases-otherwise l = 4 * or_zero statement_nodes l.c + 1

abbrev pub decreases-statements : goal.decreases-statements
decreases-statements l = 4 * sum (map statement_nodes l.body) + 1

abbrev pub invariant-statements-loop-c : goal.invariant-statements-loop-c
invariant-statements-loop-c l = l.body ++ reverse l.turned ≡ l.fn.body

abbrev pub decreases-statements-loop-c : goal.decreases-statements-loop-c
decreases-statements-loop-c l = length l.body

abbrev pub invariant-statements-loop-c-2 : goal.invariant-statements-loop-c-2
invariant-statements-loop-c-2 l = record {
  fewer : sum (map statement_nodes (reverse l.turned)) ≤ sum (map statement_nodes l.fn.body);
  room : length l.scopes.decls + sum (map statement_nodes (reverse l.turned)) ≤ length l.fn.scopes.decls + sum (map statement_nodes l.fn.body);
  rest : walk_each (map statement_walk l.fn.body) l.around l.fn.scopes ≡ walk_each (map statement_walk (reverse l.turned)) l.around l.scopes >>= onto_front l.all;
}

abbrev pub decreases-statements-loop-c-2 : goal.decreases-statements-loop-c-2
decreases-statements-loop-c-2 l = length l.turned

abbrev pub decreases-clause : goal.decreases-clause
decreases-clause l = 4 * clause_nodes l.c + 2

abbrev pub decreases-each_clause : goal.decreases-each_clause
decreases-each_clause l = 4 * sum (map clause_nodes l.cs) + 3

abbrev pub invariant-each_clause-loop-c : goal.invariant-each_clause-loop-c
invariant-each_clause-loop-c l = l.cs ++ reverse l.turned ≡ l.fn.cs

abbrev pub decreases-each_clause-loop-c : goal.decreases-each_clause-loop-c
decreases-each_clause-loop-c l = length l.cs

abbrev pub invariant-each_clause-loop-c-2 : goal.invariant-each_clause-loop-c-2
invariant-each_clause-loop-c-2 l = record {
  fewer : sum (map clause_nodes (reverse l.turned)) ≤ sum (map clause_nodes l.fn.cs);
  room : length l.scopes.decls + sum (map clause_nodes (reverse l.turned)) ≤ length l.fn.scopes.decls + sum (map clause_nodes l.fn.cs);
  rest : walk_clauses (map clause_walk l.fn.cs) l.fn.labels l.around l.fn.scopes ≡ walk_clauses (map clause_walk (reverse l.turned)) l.labels l.around l.scopes >>= onto_front l.all;
}

abbrev pub decreases-each_clause-loop-c-2 : goal.decreases-each_clause-loop-c-2
decreases-each_clause-loop-c-2 l = length l.turned
