use Rattle.std.proofs.Common.{subst, sym}
use Rattle.std.specs.Prelude.{IsTrue}
use Rattle.eval_show.specs.Turns.{rest}
use Rattle.eval_show.proofs.Showing.{end_part, words_part}
use Rattle.eval_show.proofs.show.show_all.Goals as goal

pub returns-in-Err-clause-part : goal.returns-in-Err-clause-part
returns-in-Err-clause-part g c = λ t. words_part (g.O.Sink.written c.args.out.now) (g.O.Sink.written c.show_words.new.out) (rest c.args.run) (c.in-Err.ensures.part t)

pub returns-in-Err-show_end-clause-part : goal.returns-in-Err-show_end-clause-part
returns-in-Err-show_end-clause-part g c =
    end_part (IsTrue (g.O.Sink.tells c.args.out.now)) (IsTrue (g.O.Sink.tells c.show_words.new.out)) (g.O.Sink.written c.args.out.now) (g.O.Sink.written c.show_words.new.out) (g.O.Sink.written c.show_end.new.out)
    (rest c.args.run) c.in-Ok.end (λ t. subst IsTrue (sym c.show_words.ensures.tells) t) c.in-Ok.ensures.end c.in-Ok.ensures.ok c.in-Err-show_end.ensures.part
