use Rattle.std.proofs.Common.{◌+◌, map, sum, true, false, length, ap, ◌∙◌, sym, subst}
use Rattle.c_syntax.specs.Sizes.{greatest}
use Rattle.c_syntax.specs.Costs.{function_weight}
use Rattle.c_syntax.specs.Graph.{functions}
use Rattle.c_calls.specs.Reached.{AreFollowed}
use Rattle.check_limits.specs.Calls.{capped}
use Rattle.check_limits.specs.Tables.{chosen, chain_over}
use Rattle.check_limits.proofs.StoreWords.{counter_flat, counter_deep, pairs_flat, pairs_deep}
use Rattle.check_limits.proofs.ChainWeights.{same_chain}
use Rattle.check_limits.proofs.call_pairs.call_pairs.Goals as goal

pub heaviest_chain-requires : goal.heaviest_chain-requires
heaviest_chain-requires c = subst (AreFollowed c.in_ok-graph.graph c.args.from) (sym c.deref-then-deep-eq0.ensures.value) c.in_ok-reached.ensures.followed

pub returns-then-deep-eq0-clause-counter : goal.returns-then-deep-eq0-clause-counter
returns-then-deep-eq0-clause-counter c =
    let items = c.args.items.now in
    let m = c.args.from in
    let r = c.in_ok-reached.reached.items in
    let s = c.in_ok-recursive.recursive.items in
    let d = c.deepest-deep.ensures ∙ ap (λ l. capped (greatest (map (λ f. function_weight f + 2) (chosen m l c.deref-2.result.now true items)))) c.deref.ensures.value ∙ ap (λ l. capped (greatest (map (λ f. function_weight f + 2) (chosen m r l true items)))) c.deref-2.ensures.value in
    counter_flat items m r s (c.in_ok-reached.ensures.reached items c.in_ok-graph.ensures) (c.in_ok-recursive.ensures items c.in_ok-graph.ensures) c.deepest-deep.result d c.if-deep-eq0.true

pub returns-then-deep-eq0-clause-pairs : goal.returns-then-deep-eq0-clause-pairs
returns-then-deep-eq0-clause-pairs c =
    let items = c.args.items.now in
    let m = c.args.from in
    let r = c.in_ok-reached.reached.items in
    let s = c.in_ok-recursive.recursive.items in
    let d = c.deepest-deep.ensures ∙ ap (λ l. capped (greatest (map (λ f. function_weight f + 2) (chosen m l c.deref-2.result.now true items)))) c.deref.ensures.value ∙ ap (λ l. capped (greatest (map (λ f. function_weight f + 2) (chosen m r l true items)))) c.deref-2.ensures.value in
    let heaviest = c.in_ok-pairs.ensures ∙ ap (λ n. capped (chain_over c.in_ok-graph.graph c.args.weights.now n m)) c.count_functions-most.ensures ∙ same_chain items c.in_ok-graph.graph c.args.weights.now c.in_ok-graph.ensures c.requires (length (functions items)) m in
    pairs_flat items m r s (c.in_ok-reached.ensures.reached items c.in_ok-graph.ensures) (c.in_ok-recursive.ensures items c.in_ok-graph.ensures) c.deepest-deep.result d
    c.in_ok-pairs.pairs c.if-deep-eq0.true heaviest

pub returns-clause-counter : goal.returns-clause-counter
returns-clause-counter c =
    let items = c.args.items.now in
    let m = c.args.from in
    let r = c.in_ok-reached.reached.items in
    let s = c.in_ok-recursive.recursive.items in
    let d = c.deepest-deep.ensures ∙ ap (λ l. capped (greatest (map (λ f. function_weight f + 2) (chosen m l c.deref-2.result.now true items)))) c.deref.ensures.value ∙ ap (λ l. capped (greatest (map (λ f. function_weight f + 2) (chosen m r l true items)))) c.deref-2.ensures.value in
    counter_deep items m r s (c.in_ok-reached.ensures.reached items c.in_ok-graph.ensures) (c.in_ok-recursive.ensures items c.in_ok-graph.ensures) c.deepest-deep.result d c.if-deep-eq0.false

pub returns-clause-pairs : goal.returns-clause-pairs
returns-clause-pairs c =
    let items = c.args.items.now in
    let m = c.args.from in
    let r = c.in_ok-reached.reached.items in
    let s = c.in_ok-recursive.recursive.items in
    let d = c.deepest-deep.ensures ∙ ap (λ l. capped (greatest (map (λ f. function_weight f + 2) (chosen m l c.deref-2.result.now true items)))) c.deref.ensures.value ∙ ap (λ l. capped (greatest (map (λ f. function_weight f + 2) (chosen m r l true items)))) c.deref-2.ensures.value in
    let f = c.flat_weights-flat.ensures ∙ ap (λ l. capped (sum (map function_weight (chosen m l c.deref-else-deep-eq0-2.result.now false items)))) c.deref-else-deep-eq0.ensures.value ∙ ap (λ l. capped (sum (map function_weight (chosen m r l false items)))) c.deref-else-deep-eq0-2.ensures.value in
    pairs_deep items m r s (c.in_ok-reached.ensures.reached items c.in_ok-graph.ensures) (c.in_ok-recursive.ensures items c.in_ok-graph.ensures) c.deepest-deep.result d
    c.flat_weights-flat.result c.saturating_mul-calls.result c.saturating_add-pairs.result c.if-deep-eq0.false f c.saturating_mul-calls.ensures c.saturating_add-pairs.ensures
