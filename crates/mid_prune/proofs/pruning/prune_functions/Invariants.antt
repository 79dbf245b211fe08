use Rattle.std.proofs.Common.{◌≡◌, length}
use Rattle.mid_blocks.specs.Pruned.{marked, pruned_from}
use Rattle.mid_prune.proofs.pruning.prune_functions.Given as goal

abbrev pub invariant-loop-code : goal.invariant-loop-code
invariant-loop-code l = record {
  kept : l.kept.items ≡ marked l.callees (pruned_from l.marks 0 l.yielded);
  at : l.at ≡ length l.yielded;
}
