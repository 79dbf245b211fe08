use Rattle.std.proofs.Common.{◌≡◌, length}
use Rattle.signature_assign.specs.Pass.{Work}
use Rattle.signature_assign.specs.Settle.{Settling}
use Rattle.signature_assign.proofs.Weight.{weight}
use Rattle.signature_assign.proofs.groups.settle.Given as goal

abbrev pub invariant-loop-w : goal.invariant-loop-w
invariant-loop-w l = record {
  long : length l.labels ≡ length l.fn.labels;
  long_done : length l.done ≡ length l.fn.done;
  settling : Settling l.successors l.none l.root l.labels l.done l.waiting.items;
}

abbrev pub decreases-loop-w : goal.decreases-loop-w
decreases-loop-w l = weight l.none (record { labels = l.labels; waiting = l.waiting.items })
