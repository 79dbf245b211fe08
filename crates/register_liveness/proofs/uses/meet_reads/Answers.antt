use Rattle.register_liveness.specs.declared.uses.FirstUse.TheVariants.{Untouched}
use Rattle.std.proofs.Common.{ap, ◌∙◌, get_or, arith, rules}
use Rattle.register_liveness.proofs.Rows.{read_more}
use Rattle.register_liveness.proofs.uses.meet_reads.Goals as goal

pub loop-v-preserved : goal.loop-v-preserved
loop-v-preserved c = record {
  same_length = search rules;
  met = λ v h. ap (λ r. get_or r v Untouched) c.meet.ensures
      ∙ read_more c.args.row.now.items c.loop-v.row.items c.args.reads.now c.loop-v.v-index v c.loop-v-test.true
      (omega (arith, c.requires c.loop-v.v-index 0 c.loop-v-test.true, c.loop-v.row.ok)) (c.loop-v.invariant.met v h);
}
