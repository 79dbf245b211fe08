use Rattle.std.proofs.Common.{◌≡◌, ◌+◌, ◌++◌, map, drop}
use Rattle.lower_rules.specs.Statements.{low_local, list_blocks, list_lines}
use Rattle.lower_expressions.specs.Names.{names_of}
use Rattle.lower_expressions.specs.Written.{written}
use Rattle.lower_statements.specs.Contexts.{context_of}
use Rattle.lower_statements.proofs.steps.put_locals.Given as goal

abbrev pub invariant-loop-d : goal.invariant-loop-d
invariant-loop-d l = record {
  put : written l.out ++ list_lines (map (low_local (names_of l.table)) (drop l.d-index l.locals)) (context_of l.to) l.block ≡ written l.initial.out ++ list_lines (map (low_local (names_of l.table)) l.locals) (context_of l.to) l.fn.b;
  count : l.block + list_blocks (map (low_local (names_of l.table)) (drop l.d-index l.locals)) ≡ l.fn.b + list_blocks (map (low_local (names_of l.table)) l.locals);
}
