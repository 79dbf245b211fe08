use Rattle.std.proofs.Common.{◌≡◌, ◌<◌, ℕ, Bool, true, List, length, get_or, ap, sym, subst, ◌∙◌}
use Rattle.std.specs.Prelude.{slice_set}
use Rattle.mid_prune.specs.declared.reaching.Spot.{Spot}
use Rattle.mid_prune.specs.Work.{Work}
use Rattle.mid_prune.proofs.Marking.{marks_at, put_new, put_old}
use Rattle.mid_prune.proofs.reaching.put.Goals as goal

pub raise-requires : goal.raise-requires
raise-requires c = subst (λ (bs : List Bool). c.args.block < length bs) (sym (marks_at c.args.marks.now c.args.function c.index-marks-function-then-not-get.result c.requires.0)) c.requires.1

pub returns-in_ok-push : goal.returns-in_ok-push
returns-in_ok-push c =
    let marks : List (List Bool) = c.args.marks.now in
    let f : ℕ = c.args.function in
    let d = c.index-marks-function.result in
    let e = c.index-marks-function-then-not-get.result in
    let same : get_or marks f e ≡ get_or marks f d = marks_at marks f e c.requires.0 ∙ sym (marks_at marks f d c.requires.0) in
    let v : Work = record { marks = slice_set marks f c.raise.new.self; waiting = c.push.new.self.items } in
    put_new f c.args.block (record { marks = marks; waiting = c.args.waiting.now.items }) v d c.get.result c.requires.0 c.get.ensures c.if-not-get.true
    (ap (λ (bs : List Bool). let x : Work = record { marks = slice_set marks f bs; waiting = c.push.new.self.items } in x) (c.raise.ensures ∙ ap (λ (bs : List Bool). slice_set bs c.args.block true) same)
    ∙ ap (λ (ss : List Spot). let x : Work = record { marks = slice_set marks f (slice_set (get_or marks f d) c.args.block true); waiting = ss } in x) c.in_ok-push.ensures.items)

pub returns-else-not-get : goal.returns-else-not-get
returns-else-not-get c =
    put_old c.args.function c.args.block (record { marks = c.args.marks.now; waiting = c.args.waiting.now.items }) c.index-marks-function.result c.get.result c.requires.0 c.get.ensures c.if-not-get.false
