use Rattle.std.proofs.Common.{◌≡◌, []}
use Rattle.signature_assign.specs.Settle.{Rounds}
use Rattle.signature_assign.proofs.groups.rounds.Given as goal

abbrev pub invariant-loop-root : goal.invariant-loop-root
invariant-loop-root l = record {
  going : Rounds l.successors l.none l.root l.labels l.done;
  quiet : l.waiting.items ≡ [];
}
