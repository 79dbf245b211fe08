use Rattle.std.proofs.Common.{subst}
use Rattle.std.specs.Prelude.{IsTrue, OnErr}
use Rattle.c_meaning.specs.Meaning.{CRan}
use Rattle.hard_shelf.specs.Outside.{AppendsPart}
use Rattle.eval_show.specs.EvalLines.{shown}
use Rattle.eval_show.proofs.Showing.{rest_is}
use Rattle.eval_show.proofs.show.show_run.Goals as goal

pub returns-in-Ok-clause-part : goal.returns-in-Ok-clause-part
returns-in-Ok-clause-part g c =
    subst (λ (ran : CRan). OnErr c.show_all.result (IsTrue (g.O.Sink.tells c.args.out.now) → AppendsPart (g.O.Sink.written c.args.out.now) (g.O.Sink.written c.show_all.new.out) (shown ran)))
    (rest_is _ c.in-Ok.run' c.in-Ok.ensures) c.show_all.ensures.part
