use Rattle.std.proofs.Common.{◌∙◌, subst}
use Rattle.std.specs.Prelude.{IsTrue, Ok}
use Rattle.c_eval.specs.Running.{Answers}
use Rattle.c_eval.specs.declared.turn.Turn.{Turn}
use Rattle.eval_show.proofs.Showing.{put, stopped}
use Rattle.eval_show.proofs.show.show_turn.Goals as goal

pub returns-in-Err-write-clause-shown : goal.returns-in-Err-write-clause-shown
returns-in-Err-write-clause-shown g c = (
  c.in-Err-write.ensures.fault,
  stopped (IsTrue (g.O.Sink.tells c.args.out.now)) (g.O.Sink.written c.args.out.now) (g.O.Sink.written c.write.new.self) c.as_slice.result.now c.in-Ok-Put.word c.args.run.now c.turn.new.self
      (subst (λ (t : Turn). Answers (Ok t) c.args.run.now c.turn.new.self) c.in-Ok-Put.field-0-is c.in-Ok-Put.ensures) (c.as_slice.ensures.value ∙ c.word_line.ensures) c.in-Err-write.ensures.part,
)

pub returns-in-Ok-clause-shown : goal.returns-in-Ok-clause-shown
returns-in-Ok-clause-shown g c =
    put (IsTrue (g.O.Sink.tells c.args.out.now)) (g.O.Sink.written c.args.out.now) (g.O.Sink.written c.write.new.self) c.as_slice.result.now c.in-Ok-Put.word c.args.run.now c.turn.new.self
    (subst (λ (t : Turn). Answers (Ok t) c.args.run.now c.turn.new.self) c.in-Ok-Put.field-0-is c.in-Ok-Put.ensures) (c.as_slice.ensures.value ∙ c.word_line.ensures) c.in-Ok.ensures.ok
