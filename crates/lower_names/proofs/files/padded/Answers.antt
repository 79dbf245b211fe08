use Rattle.std.proofs.Common.{◌≡◌, ◌<◌, ◌∙◌, ap, arith, length}
use Rattle.std.proofs.lemmas.List.{length-take, length_push}
use Rattle.c_meaning.specs.Meaning.{padded}
use Rattle.lower_names.proofs.Joined.{padded_take, padded_push, padded_all}
use Rattle.lower_names.proofs.files.padded.Goals as goal

pub loop-list-init : goal.loop-list-init
loop-list-init c =
    rw c.truncate.ensures.items (omega (arith, length-take c.args.count c.into_vec-list.result.items), padded_take c.args.count c.into_vec-list.result.items ∙ ap (padded c.args.count) c.into_vec-list.ensures)

pub loop-list-preserved : goal.loop-list-preserved
loop-list-preserved c =
    let below : length c.loop-list.list.items < c.args.count = omega (arith, c.len.ensures, c.loop-list-test.true) in
    rw c.in_ok-push.ensures.items (omega (arith, length_push c.loop-list.list.items 0), padded_push c.args.count c.loop-list.list.items below ∙ c.loop-list.invariant.1)

pub returns : goal.returns
returns c =
    let all : length c.loop-list.list.items ≡ c.args.count = omega (arith, c.len.ensures, c.loop-list-test.false, c.loop-list.invariant.0) in
    c.from_vec.ensures ∙ padded_all c.args.count c.loop-list.list.items all ∙ c.loop-list.invariant.1
