use Rattle.std.proofs.Common.{◌∷◌, [], map, ap, sym, ◌∙◌, arith, refl, length-append}
use Rattle.mid_blocks.specs.Pruned.{renumbered_block}
use Rattle.mid_prune.specs.Counts.{numbers_by}
use Rattle.mid_prune.proofs.Keeping.{blocks_more, marked_none}
use Rattle.mid_prune.proofs.pruning.prune_each.Goals as goal

pub loop-block-init : goal.loop-block-init
loop-block-init c = record {
  kept = c.new-kept.ensures.items ∙ sym (ap (λ l. map (renumbered_block (numbers_by c.args.callees.now c.args.marks.now) 0) l) (marked_none c.args.marks.now));
  at = refl;
}

pub loop-block-preserved : goal.loop-block-preserved
loop-block-preserved c = record {
  kept = blocks_more (renumbered_block (numbers_by c.args.callees.now c.args.marks.now) 0) c.args.marks.now c.loop-block.yielded c.in-Some.block c.loop-block.at c.loop-block.kept.items c.keep_block.new.kept.items c.loop-block.invariant.kept c.loop-block.invariant.at c.in_ok-keep_block.ensures;
  at = omega (arith, c.loop-block.invariant.at, length-append c.loop-block.yielded (c.in-Some.block ∷ []));
}
