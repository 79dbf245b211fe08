use Rattle.std.proofs.Common.{◌≡◌, ◌∷◌, [], List, length, refl, sym, ◌∙◌, arith}
use Rattle.std.specs.Vec.Iter.{into_iter_items, into_iter_len}
use Rattle.std.specs.declared.vec.IntoIter.{IntoIter}

no_items : {X : Type 0} (l : List X) → length l ≡ 0 → l ≡ []
no_items [] h = refl
no_items (x ∷ xs) h = absurd (omega arith)

-- an iterator whose length is 0 has no more items
nothing_left : {X Z : Type 0} (it : IntoIter X Z) → into_iter_len it ≡ 0 → into_iter_items it ≡ []
nothing_left it h = no_items (into_iter_items it) (sym it.rest.ok.0 ∙ h)
