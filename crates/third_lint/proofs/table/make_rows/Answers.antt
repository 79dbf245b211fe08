use Rattle.std.proofs.Common.{arith, ℕ, ◌+◌, sym, subst}
use Rattle.third_lint.specs.Masks.{RowsTo}
use Rattle.third_lint.proofs.MaskBits.{more_rows}
use Rattle.third_lint.proofs.table.make_rows.Goals as goal

pub loop-k-preserved : goal.loop-k-preserved
loop-k-preserved c = subst (RowsTo c.args.text.now c.args.starts.now c.args.entered.now (c.loop-k.k + 1)) (sym c.in_ok-push.ensures.items) (more_rows c.args.text.now c.args.starts.now c.args.entered.now c.loop-k.k c.loop-k.rows.items c.row_at.result c.loop-k.invariant c.row_at.ensures)

pub returns : goal.returns
returns c = subst (λ (n : ℕ). RowsTo c.args.text.now c.args.starts.now c.args.entered.now n c.loop-k.rows.items) (omega (arith, c.loop-k-test.false, c.loop-k.auto, c.len-k-end.ensures)) c.loop-k.invariant
