use Rattle.std.proofs.Common.{◌≡◌, ◌+◌, map, drop}
use Rattle.lower_rules.specs.Statements.{low_local, list_blocks}
use Rattle.lower_expressions.specs.Names.{names_of}
use Rattle.lower_statements.proofs.counts.local_blocks.Given as goal

abbrev pub invariant-loop-d : goal.invariant-loop-d
invariant-loop-d l = l.count + list_blocks (map (low_local (names_of l.table)) (drop l.d-index l.locals)) ≡ list_blocks (map (low_local (names_of l.table)) l.locals)
