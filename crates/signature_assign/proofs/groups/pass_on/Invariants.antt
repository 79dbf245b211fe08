use Rattle.std.proofs.Common.{◌≡◌, length, drop}
use Rattle.signature_assign.specs.Pass.{Work, passed}
use Rattle.signature_assign.proofs.groups.pass_on.Given as goal

abbrev pub invariant-loop-v : goal.invariant-loop-v
invariant-loop-v l = record {
  long : length l.labels ≡ length l.fn.labels;
  passes : passed l.two l.none l.root (drop l.v-index l.next) (record { labels = l.labels; waiting = l.waiting.items }) ≡ passed l.two l.none l.root l.next (record { labels = l.fn.labels; waiting = l.fn.waiting.items });
}
