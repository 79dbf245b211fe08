use Rattle.std.proofs.Common.{◌≡◌, ◌+◌, ◌++◌, map, drop}
use Rattle.lower_rules.specs.Statements.{low_clause, cases_lines, clauses_blocks}
use Rattle.lower_expressions.specs.Names.{names_of}
use Rattle.lower_expressions.specs.Written.{written}
use Rattle.lower_statements.proofs.labels.put_cases.Given as goal

abbrev pub invariant-loop-clause : goal.invariant-loop-clause
invariant-loop-clause l = record {
  put : written l.out ++ cases_lines (map (low_clause (names_of l.table)) (drop l.clause-index l.clauses)) l.at l.t ≡ written l.initial.out ++ cases_lines (map (low_clause (names_of l.table)) l.clauses) l.fn.first l.t;
  count : l.at + clauses_blocks (map (low_clause (names_of l.table)) (drop l.clause-index l.clauses)) ≡ l.fn.first + clauses_blocks (map (low_clause (names_of l.table)) l.clauses);
}
