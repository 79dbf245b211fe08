use Rattle.std.proofs.Common.{◌≡◌, ◌+◌, ◌<◌, ◌++◌, ◌∷◌, [], None, get_or, length, arith, sym, ◌∙◌, subst}
use Rattle.std.proofs.lemmas.List.{get_or_read}
use Rattle.register_halves.proofs.Gathered.{AreSpansBelow, span_more, span_none, spans_all, live_within}
use Rattle.register_halves.proofs.gather.spans_of.Goals as goal
use Rattle.register_halves.proofs.gather.spans_of.Goals.{in-Some+in_ok-push-in-Some, in-None}

pub loop-variable-preserved : goal.loop-variable-preserved
loop-variable-preserved c =
    let l : c.loop-variable.variable < length c.args.lives.now.extents.items = omega (arith, c.requires.met.one_each) in
    let at : c.index.result.now ≡ get_or c.args.lives.now.extents.items c.loop-variable.variable None = get_or_read c.args.lives.now.extents.items c.loop-variable.variable c.index.result.now l c.index.ensures None in
    elim c.match-index.branch [
      | in-Some+in_ok-push-in-Some w ↦
          let items : c.match-index.spans.items ≡ c.loop-variable.spans.items ++ record { variable = c.loop-variable.variable; from = w.in-Some.e.from; to = w.in-Some.e.to } ∷ [] = cc (w.in_ok-push-in-Some.ensures.items) in
          subst (AreSpansBelow c.args.function.now (c.loop-variable.variable + 1)) (sym items)
          (span_more c.args.function.now c.args.lives.now.extents.items c.loop-variable.variable c.loop-variable.spans.items w.in-Some.e c.requires.met c.requires.held (sym at ∙ w.in-Some.is) c.loop-variable.invariant)
      | in-None w ↦
          let items : c.match-index.spans.items ≡ c.loop-variable.spans.items = cc in
          subst (AreSpansBelow c.args.function.now (c.loop-variable.variable + 1)) (sym items)
          (span_none c.args.function.now c.args.lives.now.extents.items c.loop-variable.variable c.loop-variable.spans.items c.requires.held (sym at ∙ w.in-None.is) c.loop-variable.invariant)
    ]

pub returns : goal.returns
returns c = spans_all c.args.function.now c.loop-variable.variable c.loop-variable.spans.items
    (λ v at live. let l : v < length c.args.lives.now.extents.items = live_within c.args.function.now c.args.lives.now.extents.items v at (c.requires.held v at live) in omega (arith, l, c.requires.met.one_each)) c.loop-variable.invariant
