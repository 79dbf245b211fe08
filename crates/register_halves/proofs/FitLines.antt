-- From those that hold pairs behind a line to those at it, and whether the places fit there.
use Rattle.std.proofs.Common.{◌≡◌, ◌≢◌, ℕ, ◌<◌, List, [], ◌∷◌, Option, Some, None, sym, ap, ◌∙◌, subst, inl, inr}
use Rattle.std.specs.Prelude.{slice_get, ◌⊎◌}
use Rattle.std.specs.List.{Contains}
use Rattle.mid_blocks.specs.declared.code.MidFunction.{MidFunction}
use Rattle.mid_blocks.specs.declared.places.Place.{Place}
use Rattle.mid_blocks.specs.Lines.{Line, line_reads, line_writes}
use Rattle.mid_blocks.specs.Liveness.{LineAt, IsWanted, IsLive, written, wanted, parameter}
use Rattle.register_halves.specs.Fit.{Adds, Clash, Drops, Holds, AddsParams, ClashParams, HasRoom, IsUnfit, FitsAt, IsWantedBehind, PairsExist}
use Rattle.register_halves.proofs.Fitting.{holds_same, holds_adds, holds_drops, holds_apart, holds_params, Sharing, clash_shares, clash_params_shares}
use Rattle.register_liveness.proofs.Links.{only_one}
use Rattle.mid_blocks.proofs.LiveLines.{wanted_by, wanted_from, live_by}

module _ (f : MidFunction) (places : List Place) (at : ℕ) (line : Line) (there : LineAt f at line) where
  -- what is wanted behind the line and not written by it
  abbrev pub IsPassed : ℕ → Type 0
  IsPassed v = IsWantedBehind f at line v × (line_writes line ≢ Some v)

  pub drop_written : (now after : List (Option ℕ)) (v : ℕ) → line_writes line ≡ Some v → Holds places now (IsWantedBehind f at line) → Drops now after v → Holds places after IsPassed
  drop_written now after v w h d = holds_same places after (λ u. IsWantedBehind f at line u × (u ≢ v)) IsPassed
      (λ u s. (s.0, λ e. s.1 (let both : Some v ≡ Some u = sym w ∙ e in let same : v ≡ u = cc in sym same)))
      (λ u s. (s.0, λ e. s.1 (w ∙ ap Some (sym e)))) (holds_drops places now after (IsWantedBehind f at line) v h d)

  pub keep_all : (now : List (Option ℕ)) → line_writes line ≡ None → Holds places now (IsWantedBehind f at line) → Holds places now IsPassed
  keep_all now w h = holds_same places now (IsWantedBehind f at line) IsPassed (λ u s. (s, λ e. let bad : None ≡ Some u = sym w ∙ e in cc)) (λ u s. s.0) h

  to_wanted : (v : ℕ) → IsPassed v ⊎ Contains (line_reads line) v → IsWanted f v at
  to_wanted v (inl p) = wanted_from f at line there v (inr (p.1, p.0))
  to_wanted v (inr c) = wanted_from f at line there v (inl c)

  from_wanted : (v : ℕ) → IsWanted f v at → IsPassed v ⊎ Contains (line_reads line) v
  from_wanted v w = elim (wanted_by f at line there v w) [ inl c ↦ inr c | inr p ↦ inl (p.1, p.0) ]

  pub hold_at : (now after : List (Option ℕ)) (reads : List ℕ) → reads ≡ line_reads line → Holds places now IsPassed → Adds places now after reads → Holds places after (λ v. IsWanted f v at)
  hold_at now after reads e h a = holds_same places after (λ v. IsPassed v ⊎ Contains (line_reads line) v) (λ v. IsWanted f v at) to_wanted from_wanted
      (holds_adds places now after IsPassed (line_reads line) h (subst (Adds places now after) e a))

  unfit_by : (S : ℕ → Type 0) → ((v : ℕ) → S v → IsLive f v at) → Sharing places S → IsUnfit f places
  unfit_by S live s = record { at = at; pair = s.pair; one = s.one; other = s.other; one_live = live s.one s.has_one; other_live = live s.other s.has_other; one_in = s.one_in; other_in = s.other_in; differ = s.differ }

  pub unfit_reads : (now : List (Option ℕ)) (reads : List ℕ) → reads ≡ line_reads line → Holds places now IsPassed → Clash places now reads → IsUnfit f places
  unfit_reads now reads e h c = unfit_by (λ v. IsPassed v ⊎ Contains (line_reads line) v) (λ v s. wanted (to_wanted v s)) (clash_shares places now IsPassed (line_reads line) h (subst (Clash places now) e c))

  -- ---- the check: with the parameters at position 0

  abbrev pub IsIn : ℕ → Type 0
  IsIn v = IsWanted f v at ⊎ ((v < f.params) × (at ≡ 0))

  in_live : (v : ℕ) → IsIn v → IsLive f v at
  in_live v (inl w) = wanted w
  in_live v (inr p) = parameter p.0 p.1

  pub in_first : (now after : List (Option ℕ)) → at ≡ 0 → Holds places now (λ v. IsWanted f v at) → AddsParams f places now after → Holds places after IsIn
  in_first now after z h a = holds_same places after (λ v. IsWanted f v at ⊎ (v < f.params)) IsIn
      (λ v s. elim s [ inl w ↦ inl w | inr l ↦ inr (l, z) ]) (λ v s. elim s [ inl w ↦ inl w | inr p ↦ inr p.0 ]) (holds_params places now after (λ v. IsWanted f v at) f.params h a)

  pub in_later : (now : List (Option ℕ)) → (at ≡ 0 → ⊥) → Holds places now (λ v. IsWanted f v at) → Holds places now IsIn
  in_later now n h = holds_same places now (λ v. IsWanted f v at) IsIn (λ v s. inl s) (λ v s. elim s [ inl w ↦ w | inr p ↦ absurd (n p.1) ]) h

  pub unfit_params : (now : List (Option ℕ)) → at ≡ 0 → Holds places now (λ v. IsWanted f v at) → ClashParams f places now → IsUnfit f places
  unfit_params now z h c = unfit_by (λ v. IsWanted f v at ⊎ (v < f.params)) (λ v s. elim s [ inl w ↦ wanted w | inr l ↦ parameter l z ]) (clash_params_shares places f now (λ v. IsWanted f v at) h c)

  pub unfit_write : (now : List (Option ℕ)) (w : ℕ) → line_writes line ≡ Some w → Holds places now IsIn → Clash places now (w ∷ []) → IsUnfit f places
  unfit_write now w e h c = unfit_by (λ v. IsIn v ⊎ Contains (w ∷ []) v) (λ v s. elim s [ inl i ↦ in_live v i | inr k ↦ written line there (e ∙ ap Some (only_one w v k)) ]) (clash_shares places now IsIn (w ∷ []) h c)

  -- a live variable is in the set or written
  in_or_written : (v : ℕ) → IsLive f v at → IsIn v ⊎ (line_writes line ≡ Some v)
  in_or_written v l = elim (live_by f at line there v l) [ inl w ↦ inl (inl w) | inr r ↦ elim r [ inl w ↦ inr w | inr p ↦ inl (inr p) ] ]

  pub fits_without : (now : List (Option ℕ)) → PairsExist places → line_writes line ≡ None → Holds places now IsIn → FitsAt f places at
  fits_without now pairs none h v u k lv lu pv pu = elim (in_or_written v lv) [
    | inl a ↦ elim (in_or_written u lu) [
      | inl b ↦ holds_apart places now IsIn h k v u (pairs v k pv) a b pv pu
      | inr b ↦ absurd (let bad : None ≡ Some u = sym none ∙ b in cc)
    ]
    | inr a ↦ absurd (let bad : None ≡ Some v = sym none ∙ a in cc)
  ]

  pub fits_with : (now : List (Option ℕ)) (w : ℕ) → PairsExist places → line_writes line ≡ Some w → Holds places now IsIn → HasRoom places now w → FitsAt f places at
  fits_with now w pairs e h room v u k lv lu pv pu =
      let is_w : (x : ℕ) → line_writes line ≡ Some x → w ≡ x = λ x h'. let both : Some w ≡ Some x = sym e ∙ h' in cc in
      elim (in_or_written v lv) [
        | inl a ↦ elim (in_or_written u lu) [
          | inl b ↦ holds_apart places now IsIn h k v u (pairs v k pv) a b pv pu
          | inr b ↦ let same = is_w u b in room k v (pairs v k pv) (ap (slice_get places) same ∙ pu) (h.complete k v (pairs v k pv) pv a) ∙ same
        ]
        | inr a ↦ elim (in_or_written u lu) [
          | inl b ↦ let same = is_w v a in sym (room k u (pairs u k pu) (ap (slice_get places) same ∙ pv) (h.complete k u (pairs u k pu) pu b) ∙ same)
          | inr b ↦ sym (is_w v a) ∙ is_w u b
        ]
      ]
