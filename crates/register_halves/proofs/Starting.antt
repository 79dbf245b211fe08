-- The places at the start, and the spans of the variables that are live across no Call.
use Rattle.std.proofs.Common.{◌≡◌, ◌≢◌, ℕ, ◌+◌, ◌<◌, ◌≤◌, List, [], ◌∷◌, ◌++◌, length, Some, refl, sym, ap, ◌∙◌, subst, arith, inl, inr, get_or, set, length-set}
use Rattle.std.specs.Prelude.{slice_get, ◌⊎◌}
use Rattle.std.specs.List.{All, AllPairs, Any, Contains, swap}
use Rattle.std.specs.List.Sorted.{IsPermutation, IsNonDecreasingBy}
use Rattle.std.proofs.lemmas.Bool.{cases_lt, cases_eq}
use Rattle.std.proofs.lemmas.List.{get_or_append_left, get_or_push, get_or_default, length_push, get_or-set_same, get_or-set_other}
use Rattle.std.proofs.lemmas.List.Edits.{swap_is, length-swap}
use Rattle.std.proofs.lemmas.List.Elements.{All-push, Contains-push_cases, Contains-get_or}
use Rattle.std.proofs.lemmas.List.Quantifiers.{all_pairs_push}
use Rattle.std.proofs.lemmas.List.Sorted.{All-permutation, Contains-permutation, IsPermutation-keeps}
use Rattle.mid_blocks.specs.declared.code.MidFunction.{MidFunction}
use Rattle.mid_blocks.specs.declared.places.Place.{Place}
use Rattle.mid_blocks.specs.declared.places.Place.TheVariants.{Pair, Slot}
use Rattle.mid_blocks.specs.Liveness.{IsLiveAcross, own_slot}
use Rattle.register_halves.specs.declared.gather.Span.{Span}
use Rattle.register_liveness.specs.Met.{CallBefore}
use Rattle.register_halves.specs.Spans.{IsSpan, AreSpans}
use Rattle.register_halves.specs.Assigned.{IsLocal, AreLocals, IsStart}
use Rattle.mid_blocks.proofs.Positions.{get_within, get_left, get_right}
use Rattle.register_liveness.proofs.Meeting.{across_from, across_to}

module _ (f : MidFunction) where
  -- the places of the variables below one
  pub record StartsSoFar (n : ℕ) (places : List Place) : Type 0 where
    pub one_each : length places ≡ n
    pub own : (v slot : ℕ) → slice_get places v ≡ Some (Slot slot) → slot ≡ own_slot f v
    pub first : (v k : ℕ) → slice_get places v ≡ Some (Pair k) → k ≡ 0
    pub across : (v at k : ℕ) → IsLiveAcross f v at → slice_get places v ≡ Some (Pair k) → ⊥
    pub only_across : (v slot : ℕ) → IsLocal f v → slice_get places v ≡ Some (Slot slot) → ⊥

  pub starts_none : StartsSoFar 0 []
  starts_none = record { one_each = refl; own = λ v s h. absurd (cc); first = λ v k h. absurd (cc); across = λ v at k l h. absurd (cc); only_across = λ v s l h. absurd (cc) }

  pushed : (places : List Place) (n : ℕ) (p q : Place) (v : ℕ) → length places ≡ n → slice_get (places ++ p ∷ []) v ≡ Some q → (slice_get places v ≡ Some q) ⊎ ((v ≡ n) × (p ≡ q))
  pushed places n p q v e h = elim (cases_lt v n) [
    | inl l ↦ inl (sym (get_left places (p ∷ []) v (omega arith)) ∙ h)
    | inr g ↦
        let w : v < length (places ++ p ∷ []) = get_within (places ++ p ∷ []) v q h in
        let same : v ≡ n = omega (arith, w, length_push places p) in
        let there : slice_get (places ++ p ∷ []) v ≡ Some p = get_right places (p ∷ []) 0 v (omega arith) in
        let both : Some p ≡ Some q = sym there ∙ h in
        inr (same, cc)
  ]

  pub starts_slot : (n : ℕ) (places : List Place) → CallBefore f n → StartsSoFar n places → StartsSoFar (n + 1) (places ++ Slot (own_slot f n) ∷ [])
  starts_slot n places call s =
      let at_call = across_from f n call in
      record {
        one_each = omega (arith, length_push places (Slot (own_slot f n)), s.one_each);
        own = λ v slot h. elim (pushed places n (Slot (own_slot f n)) (Slot slot) v s.one_each h) [ inl a ↦ s.own v slot a | inr b ↦ (let e : own_slot f n ≡ slot = cc (b.1) in sym e ∙ ap (own_slot f) (sym b.0)) ];
        first = λ v k h. elim (pushed places n (Slot (own_slot f n)) (Pair k) v s.one_each h) [ inl a ↦ s.first v k a | inr b ↦ absurd (cc (b.1)) ];
        across = λ v at k l h. elim (pushed places n (Slot (own_slot f n)) (Pair k) v s.one_each h) [ inl a ↦ s.across v at k l a | inr b ↦ absurd (cc (b.1)) ];
        only_across = λ v slot loc h. elim (pushed places n (Slot (own_slot f n)) (Slot slot) v s.one_each h) [ inl a ↦ s.only_across v slot loc a | inr b ↦ loc at_call.0 (subst (λ (x : ℕ). IsLiveAcross f x at_call.0) (sym b.0) at_call.1) ];
      }

  pub starts_pair : (n : ℕ) (places : List Place) → (CallBefore f n → ⊥) → StartsSoFar n places → StartsSoFar (n + 1) (places ++ Pair 0 ∷ [])
  starts_pair n places none s = record {
    one_each = omega (arith, length_push places (Pair 0), s.one_each);
    own = λ v slot h. elim (pushed places n (Pair 0) (Slot slot) v s.one_each h) [ inl a ↦ s.own v slot a | inr b ↦ absurd (cc (b.1)) ];
    first = λ v k h. elim (pushed places n (Pair 0) (Pair k) v s.one_each h) [ inl a ↦ s.first v k a | inr b ↦ (let e : 0 ≡ k = cc (b.1) in sym e) ];
    across = λ v at k l h. elim (pushed places n (Pair 0) (Pair k) v s.one_each h) [ inl a ↦ s.across v at k l a | inr b ↦ none (across_to f n at (subst (λ (x : ℕ). IsLiveAcross f x at) b.0 l)) ];
    only_across = λ v slot loc h. elim (pushed places n (Pair 0) (Slot slot) v s.one_each h) [ inl a ↦ s.only_across v slot loc a | inr b ↦ absurd (cc (b.1)) ];
  }

  pub starts_all : (n : ℕ) (places : List Place) → n ≡ f.variables → StartsSoFar n places → IsStart f places
  starts_all n places e s = record { one_each = s.one_each ∙ e; own = s.own; first = s.first; across = s.across; only_across = s.only_across }

  -- ---- the spans of the variables that are live across no Call

  pub record LocalsSoFar (spans : List Span) (n : ℕ) (locals : List Span) : Type 0 where
    pub each : All (λ s. IsSpan f s × IsLocal f s.variable × (s.variable < f.variables)) locals
    pub from_spans : (s : Span) → Contains locals s → (k : ℕ) × (k < n) × (get_or spans k s ≡ s)
    pub every : (k : ℕ) (d : Span) → k < n → IsLocal f (get_or spans k d).variable → Any (λ s. s.variable ≡ (get_or spans k d).variable) locals
    pub distinct : AllPairs (λ s t. s.variable ≢ t.variable) locals

  pub locals_none : (spans : List Span) → LocalsSoFar spans 0 []
  locals_none spans = record { each = λ k d l. absurd (omega arith); from_spans = λ s c. absurd (omega (arith, c.1)); every = λ k d l loc. absurd (omega arith); distinct = λ i j d l m. absurd (omega arith) }

  any_push : (xs : List Span) (y : Span) (v : ℕ) → Any (λ s. s.variable ≡ v) xs → Any (λ s. s.variable ≡ v) (xs ++ y ∷ [])
  any_push xs y v a = (a.0, a.1, omega (arith, a.2, length_push xs y), get_or_append_left xs (y ∷ []) a.1 a.0 a.2 ∙ a.3, a.4)

  any_new : (xs : List Span) (y : Span) → Any (λ s. s.variable ≡ y.variable) (xs ++ y ∷ [])
  any_new xs y = (length xs, y, omega (arith, length_push xs y), get_or_push xs y y (length xs) refl, refl)

  pub local_more : (spans : List Span) (n : ℕ) (locals : List Span) (s : Span) → AreSpans f spans → n < length spans → get_or spans n s ≡ s → s.variable < f.variables → IsLocal f s.variable → LocalsSoFar spans n locals → LocalsSoFar spans (n + 1) (locals ++ s ∷ [])
  local_more spans n locals s are l is exists loc so_far = record {
    each = All-push (λ t. IsSpan f t × IsLocal f t.variable × (t.variable < f.variables)) locals s so_far.each (subst (IsSpan f) is (are.each n s l), loc, exists);
    from_spans = λ t c. elim (Contains-push_cases locals s t c) [
      | inl h ↦ (let r = so_far.from_spans t h in (r.0, omega (arith, r.1), r.2))
      | inr e ↦ (n, omega arith, subst (λ (x : Span). get_or spans n x ≡ x) e is)
    ];
    every = λ k d lk lo. elim (cases_lt k n) [
      | inl lt ↦ any_push locals s (get_or spans k d).variable (so_far.every k d lt lo)
      | inr ge ↦
          let e : k ≡ n = omega arith in
          let same : get_or spans k d ≡ s = ap (λ (j : ℕ). get_or spans j d) e ∙ get_or_default spans n d s l ∙ is in
          subst (λ (x : Span). Any (λ t. t.variable ≡ x.variable) (locals ++ s ∷ [])) (sym same) (any_new locals s)
    ];
    distinct = all_pairs_push (λ t u. t.variable ≢ u.variable) locals s so_far.distinct (λ k d lk.
        let r = so_far.from_spans (get_or locals k d) (Contains-get_or locals k d lk) in
        let rises : (get_or spans r.0 (get_or locals k d)).variable < (get_or spans n (get_or locals k d)).variable = are.ascending r.0 n (get_or locals k d) r.1 l in
        let left : (get_or spans r.0 (get_or locals k d)).variable ≡ (get_or locals k d).variable = ap (λ (x : Span). x.variable) r.2 in
        let right : (get_or spans n (get_or locals k d)).variable ≡ s.variable = ap (λ (x : Span). x.variable) (get_or_default spans n (get_or locals k d) s l ∙ is) in
        λ e. omega (arith, rises, left, right, e));
  }

  pub local_none : (spans : List Span) (n : ℕ) (locals : List Span) (s : Span) → n < length spans → get_or spans n s ≡ s → (IsLocal f s.variable → ⊥) → LocalsSoFar spans n locals → LocalsSoFar spans (n + 1) locals
  local_none spans n locals s l is not_local so_far = record {
    each = so_far.each;
    from_spans = λ t c. let r = so_far.from_spans t c in (r.0, omega (arith, r.1), r.2);
    every = λ k d lk lo. elim (cases_lt k n) [
      | inl lt ↦ so_far.every k d lt lo
      | inr ge ↦
          let e : k ≡ n = omega arith in
          let same : get_or spans k d ≡ s = ap (λ (j : ℕ). get_or spans j d) e ∙ get_or_default spans n d s l ∙ is in
          absurd (not_local (subst (λ (x : Span). IsLocal f x.variable) same lo))
    ];
    distinct = so_far.distinct;
  }

  -- items that differ in pairs do so in another order
  data Source (i j k n : ℕ) : Type 0 where
    at_j : k ≡ j → n ≡ i → Source i j k n
    at_i : k ≡ i → (k ≡ j → ⊥) → n ≡ j → Source i j k n
    elsewhere : (k ≡ i → ⊥) → (k ≡ j → ⊥) → n ≡ k → Source i j k n

  source : (xs : List Span) (i j k : ℕ) (d : Span) → i < length xs → j < length xs → k < length xs → (n : ℕ) × (n < length xs) × Source i j k n × (get_or (swap xs i j) k d ≡ get_or xs n d)
  source xs i j k d li lj lk =
      let is = swap_is xs i j d li lj in
      elim (cases_eq k j) [
        | inl e ↦ (i, li, at_j e refl, ap (λ (ys : List Span). get_or ys k d) (sym is) ∙ ap (λ (m : ℕ). get_or (set (set xs i (get_or xs j d)) j (get_or xs i d)) m d) e ∙ get_or-set_same (set xs i (get_or xs j d)) j (get_or xs i d) d (omega (arith, length-set xs i (get_or xs j d))))
        | inr n ↦ elim (cases_eq k i) [
          | inl e ↦ (j, lj, at_i e n refl, ap (λ (ys : List Span). get_or ys k d) (sym is) ∙ get_or-set_other (set xs i (get_or xs j d)) j k (get_or xs i d) d n ∙ ap (λ (m : ℕ). get_or (set xs i (get_or xs j d)) m d) e ∙ get_or-set_same xs i (get_or xs j d) d li)
          | inr m ↦ (k, lk, elsewhere m n refl, ap (λ (ys : List Span). get_or ys k d) (sym is) ∙ get_or-set_other (set xs i (get_or xs j d)) j k (get_or xs i d) d n ∙ get_or-set_other xs i k (get_or xs j d) d m)
        ]
      ]

  sources_differ : (i j a b n m : ℕ) → (a ≡ b → ⊥) → Source i j a n → Source i j b m → n ≡ m → ⊥
  sources_differ i j a b n m ne (at_j e f) (at_j g h) x = ne (omega arith)
  sources_differ i j a b n m ne (at_j e f) (at_i g k h) x = k (omega arith)
  sources_differ i j a b n m ne (at_j e f) (elsewhere g k h) x = g (omega arith)
  sources_differ i j a b n m ne (at_i e q f) (at_j g h) x = q (omega arith)
  sources_differ i j a b n m ne (at_i e q f) (at_i g k h) x = ne (omega arith)
  sources_differ i j a b n m ne (at_i e q f) (elsewhere g k h) x = k (omega arith)
  sources_differ i j a b n m ne (elsewhere e q f) (at_j g h) x = e (omega arith)
  sources_differ i j a b n m ne (elsewhere e q f) (at_i g k h) x = q (omega arith)
  sources_differ i j a b n m ne (elsewhere e q f) (elsewhere g k h) x = ne (omega arith)

  distinct_both : (xs : List Span) → AllPairs (λ s t. s.variable ≢ t.variable) xs → (n m : ℕ) (d : Span) → n < length xs → m < length xs → (n ≡ m → ⊥) → (get_or xs n d).variable ≢ (get_or xs m d).variable
  distinct_both xs h n m d ln lm ne = elim (cases_lt n m) [
    | inl l ↦ h n m d l lm
    | inr g ↦ elim (cases_lt m n) [ inl l ↦ (λ e. h m n d l ln (sym e)) | inr k ↦ absurd (ne (omega arith)) ]
  ]

  distinct_swap : (xs : List Span) (i j : ℕ) → i < length xs → j < length xs → AllPairs (λ s t. s.variable ≢ t.variable) xs → AllPairs (λ s t. s.variable ≢ t.variable) (swap xs i j)
  distinct_swap xs i j li lj h a b d lab lb =
      let len : length (swap xs i j) ≡ length xs = length-swap xs i j in
      let p = source xs i j a d li lj (omega arith) in
      let q = source xs i j b d li lj (omega arith) in
      let differ = distinct_both xs h p.0 q.0 d p.1 q.1 (sources_differ i j a b p.0 q.0 (λ e. omega arith) p.2 q.2) in
      λ e. differ (ap (λ (x : Span). x.variable) (sym p.3) ∙ e ∙ ap (λ (x : Span). x.variable) q.3)

  pub locals_sorted : (spans locals sorted : List Span) (n : ℕ) → AreSpans f spans → length spans ≤ n → LocalsSoFar spans n locals → IsPermutation locals sorted → IsNonDecreasingBy (λ s. s.from) sorted → AreLocals f sorted
  locals_sorted spans locals sorted n are le s perm order = record {
    each = All-permutation (λ t. IsSpan f t × IsLocal f t.variable × (t.variable < f.variables)) locals sorted perm s.each;
    every = λ v at loc live.
        let a = are.every v at live in
        let at_a : get_or spans a.0 a.1 ≡ a.1 = a.3 in
        let loc' : IsLocal f (get_or spans a.0 a.1).variable = subst (IsLocal f) (sym (ap (λ (x : Span). x.variable) at_a ∙ a.4)) loc in
        let b = s.every a.0 a.1 (omega (arith, a.2)) loc' in
        let c = Contains-permutation locals sorted b.1 perm (b.0, b.2, b.3) in
        (c.0, b.1, c.1, c.2, b.4 ∙ ap (λ (x : Span). x.variable) at_a ∙ a.4);
    distinct = IsPermutation-keeps locals (AllPairs (λ s t. s.variable ≢ t.variable)) s.distinct (λ l i j li lj h. distinct_swap l i j li lj h) sorted perm;
    sorted = order;
  }
