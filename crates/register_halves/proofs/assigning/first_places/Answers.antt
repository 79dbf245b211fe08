use Rattle.std.proofs.Common.{◌≡◌, ℕ, ◌+◌, ◌<◌, ◌++◌, ◌∷◌, [], false, get_or, length, arith, sym, ap, ◌∙◌, subst}
use Rattle.std.proofs.lemmas.List.{get_or_read}
use Rattle.mid_blocks.specs.declared.places.Place.TheVariants.{Pair, Slot}
use Rattle.mid_blocks.specs.Liveness.{own_slot}
use Rattle.register_halves.proofs.Starting.{StartsSoFar, starts_slot, starts_pair}
use Rattle.register_halves.proofs.assigning.first_places.Goals as goal
use Rattle.register_halves.proofs.assigning.first_places.Goals.{then-index+in_ok-push, else-index+in_ok-push-2}

pub loop-v-preserved : goal.loop-v-preserved
loop-v-preserved c =
    let l : c.loop-v.v < length c.args.lives.now.across.items = omega (arith, c.requires.lives.one_each) in
    let at : c.index.result.now ≡ get_or c.args.lives.now.across.items c.loop-v.v false = get_or_read c.args.lives.now.across.items c.loop-v.v c.index.result.now l c.index.ensures false in
    elim c.if-index.branch [
      | then-index+in_ok-push w ↦
          let items : c.if-index.places.items ≡ c.loop-v.places.items ++ Slot w.own_slot.result ∷ [] = cc (w.in_ok-push.ensures.items) in
          let items' : c.if-index.places.items ≡ c.loop-v.places.items ++ Slot (own_slot c.args.function.now c.loop-v.v) ∷ [] = items ∙ ap (λ (x : ℕ). c.loop-v.places.items ++ Slot x ∷ []) w.own_slot.ensures in
          subst (StartsSoFar c.args.function.now (c.loop-v.v + 1)) (sym items') (starts_slot c.args.function.now c.loop-v.v c.loop-v.places.items (c.requires.lives.across c.loop-v.v (sym at ∙ w.if-index.true)) c.loop-v.invariant)
      | else-index+in_ok-push-2 w ↦
          let items : c.if-index.places.items ≡ c.loop-v.places.items ++ Pair 0 ∷ [] = cc (w.in_ok-push-2.ensures.items) in
          subst (StartsSoFar c.args.function.now (c.loop-v.v + 1)) (sym items) (starts_pair c.args.function.now c.loop-v.v c.loop-v.places.items (c.requires.lives.not_across c.loop-v.v (omega arith) (sym at ∙ w.if-index.false)) c.loop-v.invariant)
    ]
