use Rattle.std.proofs.Common.{◌≡◌, ◌+◌, ◌*◌, ◌++◌, map, sum, drop}
use Rattle.c_syntax.specs.Sizes.{statement_nodes, clause_nodes}
use Rattle.lower_rules.specs.Statements.{low_statement, low_clause, list_blocks, list_lines, clauses_blocks, clauses_lines}
use Rattle.lower_expressions.specs.Names.{names_of}
use Rattle.lower_expressions.specs.Written.{written}
use Rattle.lower_statements.specs.Contexts.{context_of}
use Rattle.lower_statements.proofs.lines.+statements.Given as goal

abbrev pub decreases-statement : goal.decreases-statement
decreases-statement l = 4 * statement_nodes l.c.now

abbrev pub decreases-statements : goal.decreases-statements
decreases-statements l = 4 * sum (map statement_nodes l.body.now) + 1

abbrev pub decreases-put_clauses : goal.decreases-put_clauses
decreases-put_clauses l = 4 * sum (map clause_nodes l.clauses.now) + 2

abbrev pub decreases-put_switch : goal.decreases-put_switch
decreases-put_switch l = 4 * sum (map clause_nodes l.clauses.now) + 3

abbrev pub decreases-put_if : goal.decreases-put_if
decreases-put_if l = 4 * statement_nodes l.yes.now + 1

abbrev pub decreases-put_if_else : goal.decreases-put_if_else
decreases-put_if_else l = 4 * (statement_nodes l.yes.now + statement_nodes l.no.now) + 1

abbrev pub decreases-put_while : goal.decreases-put_while
decreases-put_while l = 4 * statement_nodes l.body.now + 1

abbrev pub decreases-put_do : goal.decreases-put_do
decreases-put_do l = 4 * statement_nodes l.body.now + 1

abbrev pub decreases-put_for : goal.decreases-put_for
decreases-put_for l = 4 * (statement_nodes l.first.now + statement_nodes l.body.now) + 1

abbrev pub invariant-statements-loop-c : goal.invariant-statements-loop-c
invariant-statements-loop-c l = record {
  put : written l.out ++ list_lines (map (low_statement (names_of l.table)) (drop l.c-index l.body)) (context_of l.to) l.block ≡ written l.initial.out ++ list_lines (map (low_statement (names_of l.table)) l.body) (context_of l.to) l.fn.b;
  count : l.block + list_blocks (map (low_statement (names_of l.table)) (drop l.c-index l.body)) ≡ l.fn.b + list_blocks (map (low_statement (names_of l.table)) l.body);
}

abbrev pub invariant-put_clauses-loop-clause : goal.invariant-put_clauses-loop-clause
invariant-put_clauses-loop-clause l = record {
  put : written l.out ++ clauses_lines (map (low_clause (names_of l.table)) (drop l.clause-index l.clauses)) (context_of l.to) l.at ≡ written l.initial.out ++ clauses_lines (map (low_clause (names_of l.table)) l.clauses) (context_of l.to) l.fn.first;
  count : l.at + clauses_blocks (map (low_clause (names_of l.table)) (drop l.clause-index l.clauses)) ≡ l.fn.first + clauses_blocks (map (low_clause (names_of l.table)) l.clauses);
}
