use Rattle.std.proofs.Common.{arith, ◌≡◌, ◌<◌, ◌∙◌, ap, sym, subst, length, List, Option, ℕ}
use Rattle.mid_blocks.specs.Run.{Variables, with_word}
use Rattle.test_oracle.specs.Locals.{variables_of}
use Rattle.test_oracle.proofs.Variables.{written}
use Rattle.test_oracle.proofs.locals.Locals.put.Goals as goal

pub returns : goal.returns
returns c =
    let with : Variables → Variables = λ variables. with_word variables c.args.to c.args.word in
    let e : c.reach.new.self ≡ c.self.inside.words.items = grind (arith, c.self.view_is) in
    let P : List (Option ℕ) → Type 0 = λ words. c.args.to < length words in
    written c.self.inside.words.items c.args.to c.args.word (subst P e c.in_ok-reach.ensures.reaches)
    ∙ ap with (ap variables_of (sym e) ∙ c.in_ok-reach.ensures.same)
