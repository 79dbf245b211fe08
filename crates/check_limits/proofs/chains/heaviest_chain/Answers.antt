use Rattle.std.proofs.Common.{◌≡◌, ◌+◌, suc, get_or, refl, arith, ◌∙◌, ap, subst, sym}
use Rattle.check_limits.specs.Tables.{AreFurther}
use Rattle.check_limits.proofs.ChainWeights.{IsRound, is_begun, round_on, round_still}
use Rattle.check_limits.proofs.chains.heaviest_chain.Goals as goal

pub returns-then-are_same : goal.returns-then-are_same
returns-then-are_same c =
    let g = c.args.graph.now in
    let w = c.args.weights.now in
    let m = c.args.from in
    let r = c.args.reached.now in
    let further = subst (λ numbers. AreFurther g w m r numbers c.in_ok-next.next) c.as_slice.ensures c.in_ok-next.ensures in
    let same = sym c.as_slice-in-loop-done.ensures ∙ c.if-are_same.ensures refl ∙ c.as_slice-in-loop-done-2.ensures in
    c.weight_under.ensures ∙ ap (λ l. get_or l m 0) c.as_slice-then-are_same.ensures
    ∙ round_still g w m r c.requires c.loop-done.done c.args.most c.loop-done.numbers c.in_ok-next.next c.loop-done.invariant.within c.loop-done.invariant.numbers further same m (is_begun m r)

pub loop-done-preserved : goal.loop-done-preserved
loop-done-preserved c =
    let g = c.args.graph.now in
    let w = c.args.weights.now in
    let m = c.args.from in
    let r = c.args.reached.now in
    let further = subst (λ numbers. AreFurther g w m r numbers c.in_ok-next.next) c.as_slice.ensures c.in_ok-next.ensures in
    let e : suc c.loop-done.done ≡ c.loop-done.done + 1 = omega arith in
    record {
      within = omega arith;
      numbers = subst (λ n. IsRound g w m r c.requires n c.in_ok-next.next) e (round_on g w m r c.requires c.loop-done.done c.loop-done.numbers c.in_ok-next.next c.loop-done.invariant.numbers further);
    }
