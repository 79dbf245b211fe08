use Rattle.std.proofs.Common.{◌≡◌, ◌+◌, get_or, take, set, [], ◌∷◌, ◌++◌, sym, ◌∙◌, arith, subst}
use Rattle.std.proofs.lemmas.List.{take_more}
use Rattle.c_calls.specs.Search.{Marked}
use Rattle.c_calls.proofs.Searches.{marked_old, marked_new}
use Rattle.c_calls.proofs.search.mark.Goals as goal
use Rattle.c_calls.proofs.search.mark.Goals.{then-marks-name+in_ok-push, else-marks-name}

pub loop-name-preserved : goal.loop-name-preserved
loop-name-preserved c =
    let names = c.args.names.now in
    let i = c.loop-name.name-index in
    let y = get_or names i 0 in
    let e : take (i + 1) names ≡ take i names ++ y ∷ [] = take_more names i 0 c.loop-name-test.true in
    subst (λ ns. Marked ns c.args.stamp c.args.marks.now c.args.waiting.now c.if-marks-name.marks c.if-marks-name.waiting) (sym e)
    (elim c.if-marks-name.branch [
      | then-marks-name+in_ok-push w ↦
          let p = w.waiting-is ∙ w.in_ok-push.ensures.ok in
          let m = marked_new (take i names) c.args.stamp c.args.marks.now c.args.waiting.now c.loop-name.marks c.loop-name.waiting y c.loop-name.invariant (omega (arith, c.requires i 0 c.loop-name-test.true)) w.if-marks-name.true in
          subst (λ ms. Marked (take i names ++ y ∷ []) c.args.stamp c.args.marks.now c.args.waiting.now ms c.if-marks-name.waiting) (sym w.marks-is)
          (subst (λ ws. Marked (take i names ++ y ∷ []) c.args.stamp c.args.marks.now c.args.waiting.now (set c.loop-name.marks y c.args.stamp) ws) (sym p) m)
      | else-marks-name w ↦
          let m = marked_old (take i names) c.args.stamp c.args.marks.now c.args.waiting.now c.loop-name.marks c.loop-name.waiting y c.loop-name.invariant w.if-marks-name.false in
          subst (λ ms. Marked (take i names ++ y ∷ []) c.args.stamp c.args.marks.now c.args.waiting.now ms c.if-marks-name.waiting) (sym w.marks-is)
          (subst (λ ws. Marked (take i names ++ y ∷ []) c.args.stamp c.args.marks.now c.args.waiting.now c.loop-name.marks ws) (sym w.waiting-is) m)
    ])
