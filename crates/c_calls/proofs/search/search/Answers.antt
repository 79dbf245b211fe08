use Rattle.std.proofs.Common.{◌<◌, length, get_or, ◌++◌, ◌∷◌, [], sym, ◌∙◌, ap, arith, subst}
use Rattle.c_calls.specs.Search.{Marked}
use Rattle.c_calls.proofs.Searches.{Searching, searching_first, searching_on, searched}
use Rattle.c_calls.proofs.search.search.Goals as goal

pub loop-done-init : goal.loop-done-init
loop-done-init c =
    let e = c.in_ok-push.ensures.ok ∙ ap (λ w. w ++ c.args.start ∷ []) c.new-waiting.ensures in
    record {
      searching = subst (λ w. Searching c.args.graph.now c.args.start c.args.stamp c.args.marks.now w 0) (sym e) (searching_first c.args.graph.now c.args.start c.args.stamp c.args.marks.now c.requires.fresh);
      closed = c.len-closed.ensures.closed;
      long = c.requires.long;
    }

pub loop-done-preserved : goal.loop-done-preserved
loop-done-preserved c =
    let g = c.args.graph.now in
    let m = c.in_ok-mark.ensures in
    let e = c.callees.ensures ∙ ap (λ w. get_or g (get_or w c.loop-done.done 0) []) c.as_slice.ensures in
    let lt : c.loop-done.done < length c.loop-done.waiting = omega (arith, c.len.ensures, c.loop-done-test.true) in
    record {
      searching = searching_on g c.args.start c.args.stamp c.loop-done.marks c.loop-done.waiting c.mark.new.marks c.mark.new.waiting c.loop-done.done c.loop-done.invariant.searching lt
          (subst (λ names. Marked names c.args.stamp c.loop-done.marks c.loop-done.waiting c.mark.new.marks c.mark.new.waiting) e m);
      closed = c.loop-done.invariant.closed;
      long = m.long ∙ c.loop-done.invariant.long;
    }

pub returns-clause-marked : goal.returns-clause-marked
returns-clause-marked c =
    searched c.args.graph.now c.args.start c.args.stamp c.loop-done.marks c.loop-done.waiting c.loop-done.done c.loop-done.invariant.searching (omega (arith, c.len.ensures, c.loop-done-test.false))
