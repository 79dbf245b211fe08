use Rattle.std.proofs.Common.{◌≡◌, ◌≤◌}
use Rattle.std.specs.Prelude.{IsTrue}
use Rattle.eval_show.specs.Turns.{Goes, left}
use Rattle.eval_show.proofs.show.show_words.Given as goal

abbrev pub invariant-loop-error : goal.invariant-loop-error
invariant-loop-error g l = record {
  tells : g.O.Sink.tells l.out ≡ g.O.Sink.tells l.fn.out;
  faults : g.O.Sink.faults l.fn.out ≤ g.O.Sink.faults l.out;
  goes : Goes (IsTrue (g.O.Sink.tells l.fn.out)) (g.O.Sink.written l.fn.out) (g.O.Sink.written l.out) l.fn.run l.run;
}

abbrev pub decreases-loop-error : goal.decreases-loop-error
decreases-loop-error g l = left l.run
