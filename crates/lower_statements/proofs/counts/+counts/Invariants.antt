use Rattle.std.proofs.Common.{◌≡◌, ◌+◌, ◌*◌, map, sum, drop}
use Rattle.c_syntax.specs.Sizes.{statement_nodes, clause_nodes}
use Rattle.lower_rules.specs.Statements.{low_statement, low_clause, list_blocks, clauses_blocks}
use Rattle.lower_expressions.specs.Names.{names_of}
use Rattle.lower_statements.proofs.counts.+counts.Given as goal

abbrev pub decreases-statement_blocks : goal.decreases-statement_blocks
decreases-statement_blocks l = 4 * statement_nodes l.c.now

abbrev pub decreases-list_blocks : goal.decreases-list_blocks
decreases-list_blocks l = 4 * sum (map statement_nodes l.body.now) + 1

abbrev pub decreases-clauses_blocks : goal.decreases-clauses_blocks
decreases-clauses_blocks l = 4 * sum (map clause_nodes l.clauses.now) + 2

abbrev pub invariant-list_blocks-loop-c : goal.invariant-list_blocks-loop-c
invariant-list_blocks-loop-c l = l.count + list_blocks (map (low_statement (names_of l.table)) (drop l.c-index l.body)) ≡ list_blocks (map (low_statement (names_of l.table)) l.body)

abbrev pub invariant-clauses_blocks-loop-clause : goal.invariant-clauses_blocks-loop-clause
invariant-clauses_blocks-loop-clause l = l.count + clauses_blocks (map (low_clause (names_of l.table)) (drop l.clause-index l.clauses)) ≡ clauses_blocks (map (low_clause (names_of l.table)) l.clauses)
