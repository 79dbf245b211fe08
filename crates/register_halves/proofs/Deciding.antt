-- When places fit, from what the tests tell.
use Rattle.std.proofs.Common.{◌≡◌, ℕ, ◌<◌, Bool, false, List, length, Option, Some, sym, ap, ◌∙◌, arith, inl, inr, get_or}
use Rattle.std.specs.Prelude.{slice_get, IfOk, Result, Ok, Err}
use Rattle.std.proofs.lemmas.Bool.{cases_Bool}
use Rattle.mid_blocks.specs.declared.code.MidFunction.{MidFunction}
use Rattle.mid_blocks.specs.declared.places.Place.{Place}
use Rattle.mid_blocks.specs.declared.places.Place.TheVariants.{Pair, Slot}
use Rattle.mid_blocks.specs.declared.places.Places.{Places}
use Rattle.mid_blocks.specs.Lines.{lines}
use Rattle.mid_blocks.specs.Liveness.{IsLive, PlacesFit}
use Rattle.mid_blocks.specs.Valid.{ValidFunction}
use Rattle.register_liveness.specs.declared.extents.Extent.{Extent}
use Rattle.register_liveness.specs.Met.{AreLives}
use Rattle.register_halves.specs.Fit.{PairsExist, FitWithin, IsUnfit, AreOwn, NoneAcross}
use Rattle.mid_blocks.proofs.Positions.{get_within}
use Rattle.register_liveness.proofs.Meeting.{across_from, across_to}
use Rattle.register_liveness.proofs.Living.{live_position}
use Rattle.register_halves.proofs.Taking.{slots_differ}

pub if_ok_both : {T E : Type 0} (r : Result T E) (P Q R : T → Type 0) → ((x : T) → P x → Q x → R x) → IfOk r P → IfOk r Q → IfOk r R
if_ok_both (Ok x) P Q R h p q = h x p q
if_ok_both (Err e) P Q R h p q = p

module _ (f : MidFunction) (valid : ValidFunction f) where
  pub pairs_there : (list : List Place) → length list ≡ f.variables → AreOwn f list f.variables → PairsExist list
  pairs_there list e own v k p = omega (arith, own.pairs v k (omega (arith, get_within list v (Pair k) p, e)) p)

  pub unfit : (places : Places) (list : List Place) → list ≡ places.list → IsUnfit f list → PlacesFit f places → ⊥
  unfit places list e u fit =
      u.differ (fit.apart u.other u.one u.at (Pair u.pair) u.other_live u.one_live (ap (λ (xs : List Place). slice_get xs u.other) (sym e) ∙ u.other_in) (ap (λ (xs : List Place). slice_get xs u.one) (sym e) ∙ u.one_in))

  pub none_across : (places : Places) (list : List Place) (extents : List (Option Extent)) (across : List Bool) → list ≡ places.list → AreLives f extents across → PlacesFit f places → NoneAcross list across f.variables
  none_across places list extents across e lives fit v k l m p =
      let a = across_from f v (lives.across v m) in
      fit.across_in_slots v a.0 k a.1 (ap (λ (xs : List Place). slice_get xs v) (sym e) ∙ p)

  pub own_from : (places : Places) (list : List Place) → list ≡ places.list → PlacesFit f places → AreOwn f list f.variables
  own_from places list e fit = record {
    pairs = λ v k l p. fit.pairs_exist v k (ap (λ (xs : List Place). slice_get xs v) (sym e) ∙ p);
    slots = λ v s l p. fit.own_slots v s (ap (λ (xs : List Place). slice_get xs v) (sym e) ∙ p);
  }

  same_place : (list : List Place) → length list ≡ f.variables → AreOwn f list f.variables → FitWithin f list 0 (length (lines f)) → (v w at : ℕ) (place : Place) → IsLive f v at → IsLive f w at → slice_get list v ≡ Some place → slice_get list w ≡ Some place → v ≡ w
  same_place list e own fits v w at (Pair k) lv lw pv pw = fits at (omega arith) (live_position f valid v at lv) v w k lv lw pv pw
  same_place list e own fits v w at (Slot s) lv lw pv pw =
      let vl : v < f.variables = omega (arith, get_within list v (Slot s) pv, e) in
      let wl : w < f.variables = omega (arith, get_within list w (Slot s) pw, e) in
      slots_differ f 8 v w valid.params_fit valid.variables_fit vl wl (sym (own.slots v s vl pv) ∙ own.slots w s wl pw)

  pub fit_from : (places : Places) (list : List Place) (extents : List (Option Extent)) (across : List Bool) → list ≡ places.list → length list ≡ f.variables → AreOwn f list f.variables → AreLives f extents across → NoneAcross list across f.variables → FitWithin f list 0 (length (lines f)) → PlacesFit f places
  fit_from places list extents across e len own lives none fits =
      let here : (v : ℕ) → slice_get list v ≡ slice_get places.list v = λ v. ap (λ (xs : List Place). slice_get xs v) e in
      let within : (v : ℕ) (p : Place) → slice_get places.list v ≡ Some p → v < f.variables = λ v p h. omega (arith, get_within list v p (here v ∙ h), len) in
      record {
        one_each = ap length (sym e) ∙ len;
        pairs_exist = λ v k p. own.pairs v k (within v (Pair k) p) (here v ∙ p);
        own_slots = λ v s p. own.slots v s (within v (Slot s) p) (here v ∙ p);
        across_in_slots = λ v at k l p. elim (cases_Bool (get_or across v false)) [
          | inl t ↦ none v k (within v (Pair k) p) t (here v ∙ p)
          | inr n ↦ lives.not_across v (within v (Pair k) p) n (across_to f v at l)
        ];
        apart = λ v w at place lv lw pv pw. same_place list len own fits v w at place lv lw (here v ∙ pv) (here w ∙ pw);
      }
