use Rattle.std.proofs.Common.{◌≡◌, ◌+◌, map, drop, None}
use Rattle.lower_rules.specs.Statements.{low_clause, block_of, clauses_blocks}
use Rattle.lower_expressions.specs.Names.{names_of}
use Rattle.lower_statements.proofs.labels.default_block.Given as goal

abbrev pub invariant-loop-clause : goal.invariant-loop-clause
invariant-loop-clause l = record {
  found : block_of None (map (low_clause (names_of l.table)) (drop l.clause-index l.clauses)) l.at ≡ block_of None (map (low_clause (names_of l.table)) l.clauses) l.fn.first;
  count : l.at + clauses_blocks (map (low_clause (names_of l.table)) (drop l.clause-index l.clauses)) ≡ l.fn.first + clauses_blocks (map (low_clause (names_of l.table)) l.clauses);
}
