use Rattle.std.proofs.Common.{arith, ◌∙◌, subst, sym}
use Rattle.std.specs.Prelude.{IsTrue}
use Rattle.eval_show.proofs.Showing.{goes_none, goes_on, some_words, turn_part}
use Rattle.eval_show.proofs.show.show_words.Goals as goal

pub returns-in-Err-clause-part : goal.returns-in-Err-clause-part
returns-in-Err-clause-part g c =
    let i = c.loop-error.invariant in
    some_words (IsTrue (g.O.Sink.tells c.args.out.now)) (IsTrue (g.O.Sink.tells c.loop-error.out)) (g.O.Sink.written c.args.out.now) (g.O.Sink.written c.loop-error.out) (g.O.Sink.written c.show_turn.new.out)
    c.args.run.now c.loop-error.run (λ t. subst IsTrue (sym i.tells) t) i.goes (turn_part _ _ _ _ c.loop-error.run c.show_turn.new.run c.in-Err.error c.in-Err.ensures.shown)

pub loop-error-preserved : goal.loop-error-preserved
loop-error-preserved g c =
    let i = c.loop-error.invariant in
    record {
      tells = c.show_turn.ensures.tells ∙ i.tells;
      faults = omega (arith, i.faults, c.show_turn.ensures.count);
      goes = goes_on (IsTrue (g.O.Sink.tells c.args.out.now)) (IsTrue (g.O.Sink.tells c.loop-error.out)) (g.O.Sink.written c.args.out.now) (g.O.Sink.written c.loop-error.out) (g.O.Sink.written c.show_turn.new.out)
          c.args.run.now c.loop-error.run c.show_turn.new.run (λ t. subst IsTrue (sym i.tells) t) i.goes (goes_none _ _ _ (Unit {0}) c.loop-error.run c.show_turn.new.run c.in-Ok-None.field-0 c.in-Ok-None.field-0-is c.in-Ok-None.ensures.shown);
    }
