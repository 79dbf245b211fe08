use Rattle.std.proofs.Common.{◌<◌, refl, sym, arith, subst, length, get_or}
use Rattle.std.specs.Prelude.{slice_index}
use Rattle.edge_split.specs.declared.plan.Plan.TheVariants as made
use Rattle.edge_split.specs.Built.{plan_as, AllThere}
use Rattle.edge_split.proofs.Built.{one_more_block}
use Rattle.edge_split.proofs.critical.put_blocks.Goals as goal

pub put_block-requires-clause-there : goal.put_block-requires-clause-there
put_block-requires-clause-there c =
    let h : c.loop-number.number < length c.args.blocks.now = omega arith in
    subst (AllThere (length c.args.places.now)) (sym c.index-blocks-number.is) (c.requires.there c.loop-number.number c.index-blocks-number.result h)

pub loop-number-preserved : goal.loop-number-preserved
loop-number-preserved c =
    let h : c.loop-number.number < length c.args.blocks.now = omega arith in
    one_more_block (slice_index c.args.places.now) (λ b. plan_as (get_or c.args.plans.now b made.Keep)) c.loop-number.number c.args.blocks.now c.index-blocks-number.result (plan_as (get_or c.args.plans.now c.loop-number.number made.Keep))
    c.loop-number.out.items c.put_block.new.out.items _ h c.index-blocks-number.is refl c.loop-number.invariant c.in_ok-put_block.ensures
