use Rattle.std.proofs.Common.{◌≡◌, length, map}
use Rattle.mid_blocks.specs.Pruned.{marked, renumbered_block}
use Rattle.mid_prune.specs.Counts.{numbers_by}
use Rattle.mid_prune.proofs.pruning.prune_each.Given as goal

abbrev pub invariant-loop-block : goal.invariant-loop-block
invariant-loop-block l = record {
  kept : l.kept.items ≡ map (renumbered_block (numbers_by l.callees l.marks) 0) (marked l.marks l.yielded);
  at : l.at ≡ length l.yielded;
}
