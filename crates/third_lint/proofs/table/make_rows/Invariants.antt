use Rattle.third_lint.specs.Masks.{RowsTo}
use Rattle.third_lint.proofs.table.make_rows.Given as goal

abbrev pub invariant-loop-k : goal.invariant-loop-k
invariant-loop-k l = RowsTo l.text l.starts l.entered l.k l.rows.items
