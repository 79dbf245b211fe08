use Rattle.std.proofs.Common.{◌≡◌, length, drop}
use Rattle.signature_assign.specs.Pass.{Looking, looked}
use Rattle.signature_assign.proofs.groups.look.Given as goal

abbrev pub invariant-loop-p : goal.invariant-loop-p
invariant-loop-p l = record {
  long : length l.labels ≡ length l.fn.labels;
  long_done : length l.done ≡ length l.fn.done;
  passes : looked l.successors l.two l.none l.root (drop l.p-index l.before) (record { work = record { labels = l.labels; waiting = l.waiting.items }; done = l.done }) ≡ looked l.successors l.two l.none l.root l.before (record { work = record { labels = l.fn.labels; waiting = l.fn.waiting.items }; done = l.fn.done });
}
