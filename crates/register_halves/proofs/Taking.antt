-- Spans by ascending start each take a pair that is free, else a slot: no two in one pair overlap, and a slot is taken only where all
-- pairs are taken by spans that overlap there.
use Rattle.std.proofs.Common.{◌≡◌, ◌≢◌, ℕ, zero, suc, ◌+◌, ◌-◌, ◌<◌, ◌≤◌, Bool, true, false, cond, ◌&&◌, List, [], ◌∷◌, ◌++◌, map, length, take, Some, refl, sym, ap, ◌∙◌, subst, arith, inl, inr, get_or, length-set, ltb, leb}
use Rattle.std.specs.Prelude.{slice_get, slice_set, ◌⊎◌, count_by}
use Rattle.std.specs.List.{All, AllByRecursion, AllPairs, Contains, filter}
use Rattle.std.proofs.lemmas.Bool.{cases_lt, cases_eq, cases_Bool, lt-ltb, le-ltb, le-leb, lt-leb, leb-true, and_parts}
use Rattle.std.proofs.lemmas.List.{get_or-set_same, get_or-set_other, get_or_append_left, get_or_push, get_or_default, get_or-take, length_push, length-map, length-take, take_more, take_all}
use Rattle.std.proofs.lemmas.List.Sums.{sum_by-set, sum_by_push, sum_by-cons, length-filter}
use Rattle.std.proofs.lemmas.List.Elements.{Contains-push_cases, All-from_recursion, recursion_from_All}
use Rattle.mid_blocks.specs.declared.code.MidFunction.{MidFunction}
use Rattle.mid_blocks.specs.declared.places.Place.{Place}
use Rattle.mid_blocks.specs.declared.places.Place.TheVariants.{Pair, Slot}
use Rattle.mid_blocks.specs.declared.places.Places.{Places}
use Rattle.mid_blocks.specs.Liveness.{IsLive, IsLiveAcross, own_slot}
use Rattle.register_halves.specs.declared.gather.Span.{Span}
use Rattle.register_halves.specs.Spans.{IsSpan}
use Rattle.register_halves.specs.Assigned.{InSpan, IsLocal, FewOverlap, AreAssigned, AreLocals, IsStart, IsTaken}
use Rattle.mid_blocks.proofs.Positions.{get_within}

pub get_set_same : {X : Type 0} (xs : List X) (i : ℕ) (y : X) → i < length xs → slice_get (slice_set xs i y) i ≡ Some y
get_set_same [] i y h = absurd (omega arith)
get_set_same (x ∷ xs) zero y h = refl
get_set_same (x ∷ xs) (suc i) y h = get_set_same xs i y (omega arith)

pub get_set_other : {X : Type 0} (xs : List X) (i j : ℕ) (y : X) → (j ≡ i → ⊥) → slice_get (slice_set xs i y) j ≡ slice_get xs j
get_set_other [] i j y h = refl
get_set_other (x ∷ xs) zero zero y h = absurd (h refl)
get_set_other (x ∷ xs) zero (suc j) y h = refl
get_set_other (x ∷ xs) (suc i) zero y h = refl
get_set_other (x ∷ xs) (suc i) (suc j) y h = get_set_other xs i j y (λ e. h (ap suc e))

-- a span covers a position
abbrev pub covers : ℕ → Span → Bool
covers at s = leb s.from at && leb at s.to

covers_by : (at : ℕ) (s : Span) → s.from ≤ at → covers at s ≡ ltb at (s.to + 1)
covers_by at s h = rw (le-leb s.from at h) (elim (cases_lt s.to at) [
  | inl l ↦ lt-leb at s.to l ∙ sym (le-ltb at (s.to + 1) (omega arith))
  | inr g ↦ le-leb at s.to g ∙ sym (lt-ltb at (s.to + 1) (omega arith))
])

-- ---- distinct items, by recursion

EachPair : {X : Type 0} → (X → X → Type 0) → List X → Type 0
EachPair R [] = Unit {0}
EachPair R (x ∷ xs) = AllByRecursion (R x) xs × EachPair R xs

each_pair : {X : Type 0} (R : X → X → Type 0) (xs : List X) → AllPairs R xs → EachPair R xs
unfolding EachPair
each_pair R [] h = tt
each_pair R (x ∷ xs) h = (recursion_from_All (R x) xs (λ k d l. h 0 (suc k) d (omega arith) (omega arith)), each_pair R xs (λ i j d l m. h (suc i) (suc j) d (omega arith) (omega arith)))

all_pairs : {X : Type 0} (R : X → X → Type 0) (xs : List X) → EachPair R xs → AllPairs R xs
unfolding EachPair
all_pairs R [] h i j d l m = absurd (omega arith)
all_pairs R (x ∷ xs) h i zero d l m = absurd (omega arith)
all_pairs R (x ∷ xs) h zero (suc j) d l m = All-from_recursion (R x) xs h.0 j d (omega arith)
all_pairs R (x ∷ xs) h (suc i) (suc j) d l m = all_pairs R xs h.1 i j d (omega arith) (omega arith)

count_all : (p : ℕ → Bool) (xs : List ℕ) → ((k : ℕ) → k < length xs → p (get_or xs k 0) ≡ true) → count_by p xs ≡ length xs
count_all p [] h = refl
count_all p (x ∷ xs) h =
    let one : ◌≡◌ {A = ℕ} (cond (p x) 1 0) 1 = ap (λ (b : Bool). cond b 1 0) (h 0 (omega arith)) in
    omega (arith, sum_by-cons (λ x. cond (p x) 1 0) x xs, one, count_all p xs (λ k l. h (suc k) (omega arith)))

rest_differ : (p : Span → Bool) (v : ℕ) (xs : List Span) → AllByRecursion (λ t. v ≢ t.variable) xs → AllByRecursion (λ w. v ≢ w) (map (λ (t : Span). t.variable) (filter p xs))
rest_differ p v [] h = tt
rest_differ p v (x ∷ xs) h = elim (cases_Bool (p x)) [
  | inl y ↦ subst (λ (b : Bool). AllByRecursion (λ w. v ≢ w) (map (λ (t : Span). t.variable) (cond b (x ∷ filter p xs) (filter p xs)))) (sym y) (h.0, rest_differ p v xs h.1)
  | inr n ↦ subst (λ (b : Bool). AllByRecursion (λ w. v ≢ w) (map (λ (t : Span). t.variable) (cond b (x ∷ filter p xs) (filter p xs)))) (sym n) (rest_differ p v xs h.1)
]

count_none : (p : ℕ → Bool) (xs : List ℕ) → ((k : ℕ) → k < length xs → p (get_or xs k 0) ≡ false) → count_by p xs ≡ 0
count_none p [] h = refl
count_none p (x ∷ xs) h =
    let none : ◌≡◌ {A = ℕ} (cond (p x) 1 0) 0 = ap (λ (b : Bool). cond b 1 0) (h 0 (omega arith)) in
    omega (arith, sum_by-cons (λ x. cond (p x) 1 0) x xs, none, count_none p xs (λ k l. h (suc k) (omega arith)))

-- the variables of those spans that pass a test
distinct_rec : (p : Span → Bool) (xs : List Span) → EachPair (λ t u. t.variable ≢ u.variable) xs → EachPair ◌≢◌ (map (λ (t : Span). t.variable) (filter p xs))
unfolding EachPair
distinct_rec p [] h = tt
distinct_rec p (x ∷ xs) h = elim (cases_Bool (p x)) [
  | inl y ↦ subst (λ (b : Bool). EachPair ◌≢◌ (map (λ (t : Span). t.variable) (cond b (x ∷ filter p xs) (filter p xs)))) (sym y)
      (rest_differ p x.variable xs h.0, distinct_rec p xs h.1)
  | inr n ↦ subst (λ (b : Bool). EachPair ◌≢◌ (map (λ (t : Span). t.variable) (cond b (x ∷ filter p xs) (filter p xs)))) (sym n) (distinct_rec p xs h.1)
]

distinct_covers : (p : Span → Bool) (xs : List Span) → AllPairs (λ t u. t.variable ≢ u.variable) xs → AllPairs ◌≢◌ (map (λ (t : Span). t.variable) (filter p xs))
distinct_covers p xs h = all_pairs ◌≢◌ (map (λ (t : Span). t.variable) (filter p xs)) (distinct_rec p xs (each_pair (λ t u. t.variable ≢ u.variable) xs h))

module _ (f : MidFunction) (pairs : ℕ) where
  over_rec : (at : ℕ) (xs : List Span) → ((t : Span) → Contains xs t → IsSpan f t × IsLocal f t.variable) → AllByRecursion (λ v. IsLocal f v × InSpan f v at) (map (λ (t : Span). t.variable) (filter (covers at) xs))
  over_rec at [] h = tt
  over_rec at (x ∷ xs) h =
      let rest = over_rec at xs (λ t c. h t (suc c.0, omega (arith, c.1), c.2)) in
      elim (cases_Bool (covers at x)) [
        | inl y ↦
            let both = and_parts (leb x.from at) (leb at x.to) y in
            let this = h x (0, omega arith, refl) in
            let in_span : InSpan f x.variable at = record { from = x.from; to = x.to; live_from = this.0.first; live_to = this.0.last; above = leb-true x.from at both.0; below = leb-true at x.to both.1 } in
            subst (λ (b : Bool). AllByRecursion (λ v. IsLocal f v × InSpan f v at) (map (λ (t : Span). t.variable) (cond b (x ∷ filter (covers at) xs) (filter (covers at) xs)))) (sym y) ((this.1, in_span), rest)
        | inr n ↦ subst (λ (b : Bool). AllByRecursion (λ v. IsLocal f v × InSpan f v at) (map (λ (t : Span). t.variable) (cond b (x ∷ filter (covers at) xs) (filter (covers at) xs)))) (sym n) rest
      ]

  over : (at : ℕ) (xs : List Span) → ((t : Span) → Contains xs t → IsSpan f t × IsLocal f t.variable) → All (λ v. IsLocal f v × InSpan f v at) (map (λ (t : Span). t.variable) (filter (covers at) xs))
  over at xs h = All-from_recursion (λ v. IsLocal f v × InSpan f v at) (map (λ (t : Span). t.variable) (filter (covers at) xs)) (over_rec at xs h)

  -- places on the way, with the spans done so far, all from `least` at the latest, and the first position where each pair is free
  pub record Assigns (places : List Place) (free : List ℕ) (done : List Span) (least : ℕ) : Type 0 where
    pub one_each : length places ≡ f.variables
    pub pair_each : length free ≡ pairs
    pub own : (v slot : ℕ) → slice_get places v ≡ Some (Slot slot) → slot ≡ own_slot f v
    pub in_pairs : (v k : ℕ) → slice_get places v ≡ Some (Pair k) → k < pairs
    pub across : (v at k : ℕ) → IsLiveAcross f v at → slice_get places v ≡ Some (Pair k) → ⊥
    pub behind : (s : Span) (k : ℕ) → Contains done s → slice_get places s.variable ≡ Some (Pair k) → s.to < get_or free k 0
    pub apart : (s t : Span) (k : ℕ) → Contains done s → Contains done t → (s.variable ≡ t.variable → ⊥) → slice_get places s.variable ≡ Some (Pair k) → slice_get places t.variable ≡ Some (Pair k) → (s.to < t.from) ⊎ (t.to < s.from)
    pub counted : (at : ℕ) → least ≤ at → count_by (λ x. ltb at x) free ≤ count_by (covers at) done
    pub none_spilled : FewOverlap f pairs → (v slot : ℕ) → IsLocal f v → slice_get places v ≡ Some (Slot slot) → ⊥

  -- what a new span brings
  pub record Comes (done : List Span) (least : ℕ) (s : Span) : Type 0 where
    pub sorted : least ≤ s.from
    pub proper : s.from ≤ s.to
    pub exists : s.variable < f.variables
    pub fresh : (t : Span) → Contains done t → t.variable ≡ s.variable → ⊥
    pub is_local : IsLocal f s.variable

  module _ (places : List Place) (free : List ℕ) (done : List Span) (least : ℕ) (s : Span) (a : Assigns places free done least) (new : Comes done least s) where
    there : (p : Place) → slice_get (slice_set places s.variable p) s.variable ≡ Some p
    there p = get_set_same places s.variable p (omega (arith, a.one_each, new.exists))

    other : (p : Place) (v : ℕ) → (v ≡ s.variable → ⊥) → slice_get (slice_set places s.variable p) v ≡ slice_get places v
    other p v n = get_set_other places s.variable v p n

    pub takes_pair : (k : ℕ) → k < pairs → get_or free k 0 ≤ s.from → Assigns (slice_set places s.variable (Pair k)) (slice_set free k (s.to + 1)) (done ++ s ∷ []) s.from
    takes_pair k lk le =
        let kf : k < length free = omega (arith, a.pair_each) in
        record {
          one_each = length-set places s.variable (Pair k) ∙ a.one_each;
          pair_each = length-set free k (s.to + 1) ∙ a.pair_each;
          own = λ v slot h. elim (cases_eq v s.variable) [
            | inl e ↦ absurd (let bad : Some (Pair k) ≡ Some (Slot slot) = sym (there (Pair k)) ∙ ap (slice_get (slice_set places s.variable (Pair k))) (sym e) ∙ h in cc)
            | inr n ↦ a.own v slot (sym (other (Pair k) v n) ∙ h)
          ];
          in_pairs = λ v j h. elim (cases_eq v s.variable) [
            | inl e ↦ let same : Some (Pair k) ≡ Some (Pair j) = sym (there (Pair k)) ∙ ap (slice_get (slice_set places s.variable (Pair k))) (sym e) ∙ h in let same' : k ≡ j = cc in omega arith
            | inr n ↦ a.in_pairs v j (sym (other (Pair k) v n) ∙ h)
          ];
          across = λ v at j l h. elim (cases_eq v s.variable) [
            | inl e ↦ new.is_local at (subst (λ (x : ℕ). IsLiveAcross f x at) e l)
            | inr n ↦ a.across v at j l (sym (other (Pair k) v n) ∙ h)
          ];
          behind = λ t j c h. elim (Contains-push_cases done s t c) [
            | inl d ↦
                let h' = sym (other (Pair k) t.variable (new.fresh t d)) ∙ h in
                elim (cases_eq j k) [
                  | inl e ↦
                      let b : t.to < get_or free j 0 = a.behind t j d h' in
                      let at_j : get_or free j 0 ≡ get_or free k 0 = ap (λ (i : ℕ). get_or free i 0) e in
                      let now : get_or (slice_set free k (s.to + 1)) j 0 ≡ s.to + 1 = ap (λ (i : ℕ). get_or (slice_set free k (s.to + 1)) i 0) e ∙ get_or-set_same free k (s.to + 1) 0 kf in
                      omega (arith, b, at_j, now, le, new.proper)
                  | inr n ↦ let now : get_or (slice_set free k (s.to + 1)) j 0 ≡ get_or free j 0 = get_or-set_other free k j (s.to + 1) 0 n in omega (arith, a.behind t j d h', now)
                ]
            | inr e ↦
                let h' : slice_get (slice_set places s.variable (Pair k)) s.variable ≡ Some (Pair j) = ap (λ (x : Span). slice_get (slice_set places s.variable (Pair k)) x.variable) e ∙ h in
                let same : Some (Pair k) ≡ Some (Pair j) = sym (there (Pair k)) ∙ h' in
                let same' : k ≡ j = cc in
                let now : get_or (slice_set free k (s.to + 1)) j 0 ≡ s.to + 1 = ap (λ (i : ℕ). get_or (slice_set free k (s.to + 1)) i 0) (sym same') ∙ get_or-set_same free k (s.to + 1) 0 kf in
                let to_is : s.to ≡ t.to = ap (λ (x : Span). x.to) e in
                omega (arith, now, to_is)
          ];
          apart = λ t u j c d n h i. elim (Contains-push_cases done s t c) [
            | inl ct ↦
                let h' = sym (other (Pair k) t.variable (new.fresh t ct)) ∙ h in
                elim (Contains-push_cases done s u d) [
                  | inl cu ↦ a.apart t u j ct cu n h' (sym (other (Pair k) u.variable (new.fresh u cu)) ∙ i)
                  | inr e ↦
                      let i' : slice_get (slice_set places s.variable (Pair k)) s.variable ≡ Some (Pair j) = ap (λ (x : Span). slice_get (slice_set places s.variable (Pair k)) x.variable) e ∙ i in
                      let same : Some (Pair k) ≡ Some (Pair j) = sym (there (Pair k)) ∙ i' in
                      let same' : k ≡ j = cc in
                      let at_j : get_or free j 0 ≡ get_or free k 0 = ap (λ (x : ℕ). get_or free x 0) (sym same') in
                      let from_is : s.from ≡ u.from = ap (λ (x : Span). x.from) e in
                      inl (omega (arith, a.behind t j ct h', at_j, from_is, le))
                ]
            | inr e ↦
                let h' : slice_get (slice_set places s.variable (Pair k)) s.variable ≡ Some (Pair j) = ap (λ (x : Span). slice_get (slice_set places s.variable (Pair k)) x.variable) e ∙ h in
                let same : Some (Pair k) ≡ Some (Pair j) = sym (there (Pair k)) ∙ h' in
                let same' : k ≡ j = cc in
                let at_j : get_or free j 0 ≡ get_or free k 0 = ap (λ (x : ℕ). get_or free x 0) (sym same') in
                let from_is : s.from ≡ t.from = ap (λ (x : Span). x.from) e in
                elim (Contains-push_cases done s u d) [
                  | inl cu ↦ inr (omega (arith, a.behind u j cu (sym (other (Pair k) u.variable (new.fresh u cu)) ∙ i), at_j, from_is, le))
                  | inr e' ↦ absurd (n (ap (λ (x : Span). x.variable) (sym e ∙ e')))
                ]
          ];
          counted = λ at l.
              let c0 = a.counted at (omega (arith, new.sorted)) in
              let free_k : ◌≡◌ {A = ℕ} (cond (ltb at (get_or free k 0)) 1 0) 0 = ap (λ (b : Bool). cond b 1 0) (le-ltb at (get_or free k 0) (omega arith)) in
              let new_k : ◌≡◌ {A = ℕ} (cond (covers at s) 1 0) (cond (ltb at (s.to + 1)) 1 0) = ap (λ (b : Bool). cond b 1 0) (covers_by at s l) in
              omega (arith, c0, free_k, new_k, sum_by-set (λ x. cond (ltb at x) 1 0) free k (s.to + 1) 0 kf, sum_by_push (λ x. cond (covers at x) 1 0) done s);
          none_spilled = λ few v slot loc h. elim (cases_eq v s.variable) [
            | inl e ↦ (let bad : Some (Pair k) ≡ Some (Slot slot) = sym (there (Pair k)) ∙ ap (slice_get (slice_set places s.variable (Pair k))) (sym e) ∙ h in absurd (cc))
            | inr n ↦ a.none_spilled few v slot loc (sym (other (Pair k) v n) ∙ h)
          ];
        }

    -- the rest: no pair is free, and the variable takes its slot
    pub takes_slot : ((k : ℕ) → k < pairs → s.from < get_or free k 0) → ((t : Span) → Contains (done ++ s ∷ []) t → IsSpan f t × IsLocal f t.variable) → AllPairs (λ t u. t.variable ≢ u.variable) (done ++ s ∷ [])
        → Assigns (slice_set places s.variable (Slot (own_slot f s.variable))) free (done ++ s ∷ []) s.from
    takes_slot busy spans distinct =
        let slot : Place = Slot (own_slot f s.variable) in
        let not_pair : (v k : ℕ) → v ≡ s.variable → slice_get (slice_set places s.variable slot) v ≡ Some (Pair k) → ⊥ = λ v k e h. let bad : Some (Slot (own_slot f s.variable)) ≡ Some (Pair k) = sym (there slot) ∙ ap (slice_get (slice_set places s.variable slot)) (sym e) ∙ h in cc in
        let kept : (v k : ℕ) → slice_get (slice_set places s.variable slot) v ≡ Some (Pair k) → slice_get places v ≡ Some (Pair k) = λ v k h. elim (cases_eq v s.variable) [ inl e ↦ absurd (not_pair v k e h) | inr n ↦ sym (other slot v n) ∙ h ] in
        let old : (t : Span) (k : ℕ) → Contains (done ++ s ∷ []) t → slice_get (slice_set places s.variable slot) t.variable ≡ Some (Pair k) → Contains done t = λ t k c h. elim (Contains-push_cases done s t c) [
          | inl d ↦ d
          | inr e ↦ absurd (not_pair t.variable k (ap (λ (x : Span). x.variable) (sym e)) h)
        ] in
        record {
          one_each = length-set places s.variable slot ∙ a.one_each;
          pair_each = a.pair_each;
          own = λ v j h. elim (cases_eq v s.variable) [
            | inl e ↦ (let same : Some (Slot (own_slot f s.variable)) ≡ Some (Slot j) = sym (there slot) ∙ ap (slice_get (slice_set places s.variable slot)) (sym e) ∙ h in let same' : own_slot f s.variable ≡ j = cc in sym same' ∙ ap (own_slot f) (sym e))
            | inr n ↦ a.own v j (sym (other slot v n) ∙ h)
          ];
          in_pairs = λ v k h. a.in_pairs v k (kept v k h);
          across = λ v at k l h. a.across v at k l (kept v k h);
          behind = λ t k c h. a.behind t k (old t k c h) (kept t.variable k h);
          apart = λ t u k c d n h i. a.apart t u k (old t k c h) (old u k d i) n (kept t.variable k h) (kept u.variable k i);
          counted = λ at l. omega (arith, a.counted at (omega (arith, new.sorted)), sum_by_push (λ x. cond (covers at x) 1 0) done s);
          none_spilled = λ few v j loc h. elim (cases_eq v s.variable) [
            | inl e ↦
                let all_busy : count_by (λ x. ltb s.from x) free ≡ length free = count_all (λ x. ltb s.from x) free (λ k l. lt-ltb s.from (get_or free k 0) (busy k (omega (arith, a.pair_each)))) in
                let here : covers s.from s ≡ true = covers_by s.from s (omega arith) ∙ lt-ltb s.from (s.to + 1) (omega (arith, new.proper)) in
                let one : ◌≡◌ {A = ℕ} (cond (covers s.from s) 1 0) 1 = ap (λ (b : Bool). cond b 1 0) here in
                let all_of = over s.from (done ++ s ∷ []) spans in
                let most : length (map (λ (t : Span). t.variable) (filter (covers s.from) (done ++ s ∷ []))) ≤ pairs =
                few s.from (map (λ (t : Span). t.variable) (filter (covers s.from) (done ++ s ∷ []))) (distinct_covers (covers s.from) (done ++ s ∷ []) distinct) all_of in
                let count : length (map (λ (t : Span). t.variable) (filter (covers s.from) (done ++ s ∷ []))) ≡ count_by (covers s.from) (done ++ s ∷ []) = length-map (filter (covers s.from) (done ++ s ∷ [])) (λ (t : Span). t.variable) ∙ length-filter (covers s.from) (done ++ s ∷ []) in
                absurd (omega (arith, all_busy, most, count, one, a.pair_each, a.counted s.from new.sorted, sum_by_push (λ x. cond (covers s.from x) 1 0) done s))
            | inr n ↦ a.none_spilled few v j loc (sym (other slot v n) ∙ h)
          ];
        }

  -- ---- the start, and the end

  pub assigns_none : (places : List Place) (free : List ℕ) → 0 < pairs → IsStart f places → length free ≡ pairs → ((k : ℕ) → k < pairs → get_or free k 0 ≡ 0) → Assigns places free [] 0
  assigns_none places free some s e zeros = record {
    one_each = s.one_each;
    pair_each = e;
    own = s.own;
    in_pairs = λ v k h. omega (arith, s.first v k h);
    across = s.across;
    behind = λ t k c h. absurd (omega (arith, c.1));
    apart = λ t u k c d n h i. absurd (omega (arith, c.1));
    counted = λ at l. let none : count_by (λ x. ltb at x) free ≡ 0 = count_none (λ x. ltb at x) free (λ k lk. le-ltb at (get_or free k 0) (omega (arith, zeros k (omega arith)))) in omega arith;
    none_spilled = λ few v slot loc h. s.only_across v slot loc h;
  }

  -- the slots of two variables are two slots
  pub slots_differ : (v w : ℕ) → f.params ≤ f.variables → f.variables < f.pairs → v < f.variables → w < f.variables → own_slot f v ≡ own_slot f w → v ≡ w
  slots_differ v w p q l m e = elim (cases_lt v f.params) [
    | inl a ↦ elim (cases_lt w f.params) [
      | inl b ↦ (let e1 : own_slot f v ≡ f.pairs - 2 - v = ap (λ (t : Bool). cond t (f.pairs - 2 - v) (v - f.params)) (lt-ltb v f.params a) in let e2 : own_slot f w ≡ f.pairs - 2 - w = ap (λ (t : Bool). cond t (f.pairs - 2 - w) (w - f.params)) (lt-ltb w f.params b) in omega arith)
      | inr b ↦ (let e1 : own_slot f v ≡ f.pairs - 2 - v = ap (λ (t : Bool). cond t (f.pairs - 2 - v) (v - f.params)) (lt-ltb v f.params a) in let e2 : own_slot f w ≡ w - f.params = ap (λ (t : Bool). cond t (f.pairs - 2 - w) (w - f.params)) (le-ltb w f.params b) in absurd (omega arith))
    ]
    | inr a ↦ elim (cases_lt w f.params) [
      | inl b ↦ (let e1 : own_slot f v ≡ v - f.params = ap (λ (t : Bool). cond t (f.pairs - 2 - v) (v - f.params)) (le-ltb v f.params a) in let e2 : own_slot f w ≡ f.pairs - 2 - w = ap (λ (t : Bool). cond t (f.pairs - 2 - w) (w - f.params)) (lt-ltb w f.params b) in absurd (omega arith))
      | inr b ↦ (let e1 : own_slot f v ≡ v - f.params = ap (λ (t : Bool). cond t (f.pairs - 2 - v) (v - f.params)) (le-ltb v f.params a) in let e2 : own_slot f w ≡ w - f.params = ap (λ (t : Bool). cond t (f.pairs - 2 - w) (w - f.params)) (le-ltb w f.params b) in omega arith)
    ]
  ]

  -- it is told of each variable whether it is live across a Call
  pub Told : Type 0
  Told = (v : ℕ) → v < f.variables → ((at : ℕ) × IsLiveAcross f v at) ⊎ IsLocal f v

  -- the span of a variable that is live across no Call
  span_of : (locals : List Span) → AreLocals f locals → (v at : ℕ) → IsLocal f v → IsLive f v at → (s : Span) × Contains locals s × (s.variable ≡ v) × (s.from ≤ at) × (at ≤ s.to)
  span_of locals are v at loc live =
      let a = are.every v at loc live in
      let span = (are.each a.0 a.1 a.2).0 in
      let span' : IsSpan f a.1 = subst (IsSpan f) a.3 span in
      let bounds = span'.holds_all at (subst (λ (x : ℕ). IsLive f x at) (sym a.4) live) in
      (a.1, (a.0, a.2, a.3), a.4, bounds.0, bounds.1)

  in_pair : (places : List Place) (locals : List Span) → AreLocals f locals → IsTaken f pairs locals places → (v w at k : ℕ) → IsLive f v at → IsLive f w at → slice_get places v ≡ Some (Pair k) → slice_get places w ≡ Some (Pair k) → v ≡ w
  in_pair places locals are a v w at k lv lw pv pw =
      let local : (u : ℕ) → slice_get places u ≡ Some (Pair k) → IsLocal f u = λ u h i l. a.across u i k l h in
      let s = span_of locals are v at (local v pv) lv in
      let t = span_of locals are w at (local w pw) lw in
      elim (cases_eq v w) [
        | inl e ↦ e
        | inr n ↦ absurd (elim (a.apart s.0 t.0 k s.1 t.1 (λ e. n (sym s.2 ∙ e ∙ t.2)) (ap (slice_get places) s.2 ∙ pv) (ap (slice_get places) t.2 ∙ pw)) [
          | inl d ↦ omega (arith, d, s.3, s.4, t.3, t.4)
          | inr d ↦ omega (arith, d, s.3, s.4, t.3, t.4)
        ])
      ]

  same_place : (places : Places) (locals : List Span) → AreLocals f locals → IsTaken f pairs locals places.list → f.params ≤ f.variables → f.variables < f.pairs → (v w at : ℕ) (place : Place) → IsLive f v at → IsLive f w at → slice_get places.list v ≡ Some place → slice_get places.list w ≡ Some place → v ≡ w
  same_place places locals are a p q v w at (Pair k) lv lw pv pw = in_pair places.list locals are a v w at k lv lw pv pw
  same_place places locals are a p q v w at (Slot slot) lv lw pv pw =
      slots_differ v w p q (omega (arith, get_within places.list v (Slot slot) pv, a.one_each)) (omega (arith, get_within places.list w (Slot slot) pw, a.one_each)) (sym (a.own v slot pv) ∙ a.own w slot pw)

  pub assigned_all : f.params ≤ f.variables → f.variables < f.pairs → pairs ≤ 8 → (places : Places) (locals : List Span) → AreLocals f locals → IsTaken f pairs locals places.list → AreAssigned f pairs places
  assigned_all p q most places locals are a = record {
    fit = record {
      one_each = a.one_each;
      pairs_exist = λ v k h. omega (arith, a.in_pairs v k h);
      own_slots = a.own;
      across_in_slots = λ v at k l h. a.across v at k l h;
      apart = λ v w at place lv lw pv pw. same_place places locals are a p q v w at place lv lw pv pw;
    };
    in_pairs = a.in_pairs;
    none_spilled = a.none_spilled;
  }

  -- ---- the loop over the spans

  -- so many spans are done, and all others start at `least` or behind
  pub record TakenSoFar (locals : List Span) (places : List Place) (free : List ℕ) (n : ℕ) : Type 0 where
    pub least : ℕ
    pub assigns : Assigns places free (take n locals) least
    pub behind : (k : ℕ) (d : Span) → n ≤ k → k < length locals → least ≤ (get_or locals k d).from

  pub taken_none : (locals : List Span) (places : List Place) (free : List ℕ) → 0 < pairs → IsStart f places → length free ≡ pairs → ((k : ℕ) → k < pairs → get_or free k 0 ≡ 0) → TakenSoFar locals places free 0
  taken_none locals places free some s e zeros = record { least = 0; assigns = assigns_none places free some s e zeros; behind = λ k d l m. omega arith }

  pub taken_all : (locals : List Span) (places : List Place) (free : List ℕ) (n : ℕ) → length locals ≤ n → TakenSoFar locals places free n → IsTaken f pairs locals places
  taken_all locals places free n le t =
      let e : take n locals ≡ locals = take_all n locals le in
      let a : Assigns places free locals t.least = subst (λ (xs : List Span). Assigns places free xs t.least) e t.assigns in
      record { one_each = a.one_each; own = a.own; in_pairs = a.in_pairs; across = a.across; apart = λ s u k c d m h i. a.apart s u k c d m h i; none_spilled = a.none_spilled }

  -- the next span
  module _ (locals : List Span) (places : List Place) (free : List ℕ) (n : ℕ) (s : Span) (are : AreLocals f locals) (l : n < length locals) (is : get_or locals n s ≡ s) (t : TakenSoFar locals places free n) where
    more : take (n + 1) locals ≡ take n locals ++ s ∷ []
    more = take_more locals n s l ∙ ap (λ (x : Span). take n locals ++ x ∷ []) is

    this : IsSpan f s × IsLocal f s.variable × (s.variable < f.variables)
    this = subst (λ (x : Span). IsSpan f x × IsLocal f x.variable × (x.variable < f.variables)) is (are.each n s l)

    distinct_so_far : AllPairs (λ u w. u.variable ≢ w.variable) (take n locals ++ s ∷ [])
    distinct_so_far = subst (AllPairs (λ u w. u.variable ≢ w.variable)) more
        (λ i j d a b.
        let lt : j < length locals ⊎ ⊥ = inl (omega (arith, b, length-take (n + 1) locals)) in
        let lj : j < n + 1 = omega (arith, b, length-take (n + 1) locals) in
        let ej : get_or (take (n + 1) locals) j d ≡ get_or locals j d = get_or-take (n + 1) locals j d lj in
        let ei : get_or (take (n + 1) locals) i d ≡ get_or locals i d = get_or-take (n + 1) locals i d (omega arith) in
        λ same. are.distinct i j d a (omega (arith, b, length-take (n + 1) locals)) (ap (λ (x : Span). x.variable) (sym ei) ∙ same ∙ ap (λ (x : Span). x.variable) ej))

    comes : Comes (take n locals) t.least s
    comes = record {
      sorted = omega (arith, t.behind n s (omega arith) l, ap (λ (x : Span). x.from) is);
      proper = let b = this.0.holds_all s.from this.0.first in b.1;
      exists = this.2;
      fresh = λ u c e. distinct_so_far c.0 (length (take n locals)) s c.1 (omega (arith, length_push (take n locals) s))
          (ap (λ (x : Span). x.variable) (get_or_append_left (take n locals) (s ∷ []) s c.0 c.1 ∙ get_or_default (take n locals) c.0 s u c.1 ∙ c.2) ∙ e ∙ ap (λ (x : Span). x.variable) (sym (get_or_push (take n locals) s s (length (take n locals)) refl)));
      is_local = this.1;
    }

    next_behind : (k : ℕ) (d : Span) → n + 1 ≤ k → k < length locals → s.from ≤ (get_or locals k d).from
    next_behind k d a b = let order : (get_or locals n d).from ≤ (get_or locals k d).from = are.sorted n k d (omega arith) b in omega (arith, order, ap (λ (x : Span). x.from) (get_or_default locals n d s l ∙ is))

    pub pair_taken : (k : ℕ) → k < length free → get_or free k 0 ≤ s.from → TakenSoFar locals (slice_set places s.variable (Pair k)) (slice_set free k (s.to + 1)) (n + 1)
    pair_taken k lk le = record {
      least = s.from;
      assigns = subst (λ (xs : List Span). Assigns (slice_set places s.variable (Pair k)) (slice_set free k (s.to + 1)) xs s.from) (sym more)
          (takes_pair places free (take n locals) t.least s t.assigns comes k (omega (arith, t.assigns.pair_each)) le);
      behind = next_behind;
    }

    pub slot_taken : ((k : ℕ) → k < length free → s.from < get_or free k 0) → TakenSoFar locals (slice_set places s.variable (Slot (own_slot f s.variable))) free (n + 1)
    slot_taken busy = record {
      least = s.from;
      assigns = subst (λ (xs : List Span). Assigns (slice_set places s.variable (Slot (own_slot f s.variable))) free xs s.from) (sym more)
          (takes_slot places free (take n locals) t.least s t.assigns comes (λ k lk. busy k (omega (arith, t.assigns.pair_each)))
          (λ u c.
          let c' : Contains (take (n + 1) locals) u = subst (λ (xs : List Span). Contains xs u) (sym more) c in
          let lk : c'.0 < length locals = omega (arith, c'.1, length-take (n + 1) locals) in
          let e : get_or locals c'.0 u ≡ u = sym (get_or-take (n + 1) locals c'.0 u (omega (arith, c'.1, length-take (n + 1) locals))) ∙ c'.2 in
          let both = subst (λ (x : Span). IsSpan f x × IsLocal f x.variable × (x.variable < f.variables)) e (are.each c'.0 u lk) in
          (both.0, both.1))
          distinct_so_far);
      behind = next_behind;
    }
