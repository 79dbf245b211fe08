use Rattle.std.proofs.Common.{◌≡◌, ◌==◌, map, ap, ◌∙◌, arith}
use Rattle.std.proofs.lemmas.List.{take_all}
use Rattle.std.proofs.lemmas.Grind.{common_steps}
use Rattle.c_calls.proofs.Chains.{are_reached, are_followed}
use Rattle.c_calls.proofs.search.reached_from.Goals as goal

pub returns : goal.returns
returns c =
    let e : c.deref-mark-items.result.now ≡ c.search.new.marks = grind (arith, common_steps) in
    let is = c.loop-mark.invariant ∙ ap (map (λ m. m == 1)) (take_all c.loop-mark.mark-index c.deref-mark-items.result.now c.loop-mark-test.false ∙ e) in
    record {
      reached = are_reached c.args.graph.now c.args.name c.search.new.marks c.loop-mark.reached.items is c.in_ok-search.ensures.marked;
      followed = are_followed c.args.graph.now c.args.name c.search.new.marks c.loop-mark.reached.items is c.in_ok-search.ensures.marked;
    }
