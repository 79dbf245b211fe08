use Rattle.std.proofs.Common.{◌≡◌, Bool, List, [], ap, sym, subst, ◌∙◌}
use Rattle.mid_prune.specs.declared.reaching.Spot.{Spot}
use Rattle.mid_prune.specs.Work.{Work, IsThere, put, Working}
use Rattle.mid_prune.proofs.Marking.{unmarked}
use Rattle.mid_prune.proofs.Spreading.{starts, start_there}
use Rattle.mid_prune.proofs.reaching.search.Goals as goal

pub put-requires : goal.put-requires
put-requires c = subst (λ (ms : List (List Bool)). IsThere ms 0 0) (sym c.requires.unmarked) (start_there c.args.mid.now c.requires.inside)

pub spread-requires-clause-begun : goal.spread-requires-clause-begun
spread-requires-clause-begun c =
    let first : Work = record { marks = c.args.marks.now; waiting = c.new-waiting.result.items } in
    let e : first ≡ record { marks = unmarked c.args.mid.now.functions; waiting = [] } =
    ap (λ (ms : List (List Bool)). let x : Work = record { marks = ms; waiting = c.new-waiting.result.items } in x) c.requires.unmarked
    ∙ ap (λ (ss : List Spot). let x : Work = record { marks = unmarked c.args.mid.now.functions; waiting = ss } in x) c.new-waiting.ensures.items in
    subst (Working c.args.mid.now) (sym (c.in_ok-put.ensures ∙ ap (put 0 0) e)) (starts c.args.mid.now c.requires.inside)
