use Rattle.std.proofs.Common.{◌≡◌, take}
use Rattle.mid_blocks.specs.Pruned.{function_marks}
use Rattle.mid_prune.proofs.marks.function_marks.Given as goal

abbrev pub invariant-loop-blocks : goal.invariant-loop-blocks
invariant-loop-blocks l = l.list.items ≡ function_marks (take l.blocks-index l.marks)
