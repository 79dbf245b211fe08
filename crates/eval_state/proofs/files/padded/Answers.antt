use Rattle.std.proofs.Common.{◌≡◌, ◌≤◌, ◌<◌, ℕ, ◌∙◌, sym, ap, arith, length}
use Rattle.std.proofs.lemmas.List.{length-take, length_push}
use Rattle.c_meaning.specs.Meaning.{padded}
use Rattle.eval_state.proofs.Padding.{padded_take, padded_push, padded_all}
use Rattle.eval_state.proofs.files.padded.Goals as goal

pub loop-words-init : goal.loop-words-init
loop-words-init c = rw c.truncate.ensures.items (omega (arith, length-take c.args.count c.args.words.items), padded_take c.args.count c.args.words.items)

pub loop-words-preserved : goal.loop-words-preserved
loop-words-preserved c =
    let below : length c.loop-words.words.items < c.args.count = omega (arith, c.len.ensures, c.loop-words-test.true) in
    rw c.in_ok-push.ensures.items (omega (arith, length_push c.loop-words.words.items 0), padded_push c.args.count c.loop-words.words.items below ∙ c.loop-words.invariant.1)

pub returns : goal.returns
returns c =
    let all : length c.loop-words.words.items ≡ c.args.count = omega (arith, c.len.ensures, c.loop-words-test.false, c.loop-words.invariant.0) in
    padded_all c.args.count c.loop-words.words.items all ∙ c.loop-words.invariant.1
