use Rattle.std.proofs.Common.{arith, rules, ap, sym, ◌∙◌}
use Rattle.register_liveness.specs.Uses.{then_use, line_use}
use Rattle.mid_blocks.specs.Lines.{line_of}
use Rattle.std.specs.Prelude.{slice_get}
use Rattle.register_liveness.proofs.Rows.{first_more, row_done, line_exists}
use Rattle.register_liveness.proofs.uses.block_uses.Goals as goal

pub meet_line-requires : goal.meet_line-requires
meet_line-requires c = line_exists c.args.block.now c.loop-before.before c.args.variables _ (omega arith) c.loop-before.invariant.one_each c.requires

pub meet_line-requires-2 : goal.meet_line-requires-2
meet_line-requires-2 c = line_exists c.args.block.now c.len-steps.result c.args.variables _ (omega arith) c.loop-before.invariant.one_each c.requires

pub loop-before-preserved : goal.loop-before-preserved
loop-before-preserved c = record {
  one_each = search rules;
  met = λ v h. c.in_ok-meet_line.ensures.each v (omega arith)
      ∙ ap (λ u. then_use u (line_use v (line_of (slice_get c.args.block.now.steps c.loop-before.before) c.args.block.now.end))) (c.loop-before.invariant.met v h)
      ∙ sym (first_more c.args.block.now v c.loop-before.before (omega arith));
}

pub returns-clause-each : goal.returns-clause-each
returns-clause-each c = λ v h. row_done c.args.block.now c.loop-before.row.items c.meet_line-2.new.row.items v c.loop-before.before c.len-steps.result (omega arith) (omega arith)
    (c.in_ok-meet_line-2.ensures.each v (omega arith)) (c.loop-before.invariant.met v h)
