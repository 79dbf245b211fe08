use Rattle.harden_lint.specs.Masks.{RowsTo}
use Rattle.harden_lint.proofs.table.make_rows.Given as goal

abbrev pub invariant-loop-k : goal.invariant-loop-k
invariant-loop-k l = RowsTo l.text l.bits l.k l.rows.items
