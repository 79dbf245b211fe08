use Rattle.std.proofs.Common.{◌≡◌, ◌+◌, map, drop}
use Rattle.lower_rules.specs.Statements.{low_clause, cases_count}
use Rattle.lower_expressions.specs.Names.{names_of}
use Rattle.lower_statements.proofs.labels.cases_count.Given as goal

abbrev pub invariant-loop-clause : goal.invariant-loop-clause
invariant-loop-clause l = l.count + cases_count (map (low_clause (names_of l.table)) (drop l.clause-index l.clauses)) ≡ cases_count (map (low_clause (names_of l.table)) l.clauses)
