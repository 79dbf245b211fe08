use Rattle.std.proofs.Common.{take}
use Rattle.std.specs.List.{list_any}
use Rattle.mid_blocks.specs.Tested.{is_it, AreRaised}
use Rattle.mid_blocks.specs.Valid.{target}
use Rattle.mid_code.proofs.marks.raise_named.Given as goal

abbrev pub invariant-loop-block : goal.invariant-loop-block
invariant-loop-block l = AreRaised (λ x. list_any (λ y. is_it (target y.end) x) (take l.block-index l.blocks)) l.low l.initial.marks l.marks
