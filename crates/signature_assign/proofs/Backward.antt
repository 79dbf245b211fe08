-- The lists of predecessors: in order, each once, exactly those that lead to a block.
use Rattle.std.proofs.Common.{◌≡◌, ◌≢◌, ◌≤◌, ◌<◌, ℕ, zero, suc, ◌+◌, arith, ap, refl, sym, ◌∙◌, subst, List, [], ◌∷◌, ◌++◌, length, map, get_or, replicate, true, false, Bool, cond, inl, inr, length-set, eqb-true, eq-eqb, Option, Some, None, drop, drop-cons}
use Rattle.std.specs.Prelude.{◌⊎◌, ◌↔◌, ◌==◌, ◌||◌, nat_le, if◌then◌else◌, slice_get, slice_index, slice_index_or, slice_set}
use Rattle.std.specs.List.{list_any, All, Contains}
use Rattle.std.proofs.lemmas.Bool.{cases_eq, cases_lt, cases_Bool, ne_eqb, leb-true, le-leb, lt-leb}
use Rattle.std.proofs.lemmas.List.{get_or-set_same, get_or-set_other, get_or-replicate, length-replicate, append-nil, append_assoc, get_or_read}
use Rattle.std.proofs.lemmas.List.Elements.{All-tail, All-head}
use Rattle.std.proofs.lemmas.List.Folds.{Any-from_list_any, list_any-from_Any}
use Rattle.sign_law.specs.Graph.{IsSucc, HasTwo}
use Rattle.sign_law.specs.Signs.{AreFirst}
use Rattle.signature_assign.specs.Settle.{IsGraph}
use Rattle.signature_assign.specs.Edges.{added, turned, backward, twos, AreEdges, first_before}

-- ---- membership

pub contains_head : (x : ℕ) (xs : List ℕ) → Contains (x ∷ xs) x
contains_head x xs = (0, omega arith, refl)

pub contains_tail : (x : ℕ) (xs : List ℕ) (y : ℕ) → Contains xs y → Contains (x ∷ xs) y
contains_tail x xs y (k, l, e) = (suc k, omega arith, e)

pub contains_cases : (x : ℕ) (xs : List ℕ) (y : ℕ) → Contains (x ∷ xs) y → (x ≡ y) ⊎ Contains xs y
contains_cases x xs y (zero, l, e) = inl e
contains_cases x xs y (suc k, l, e) = inr (k, omega arith, e)

none_in : (y : ℕ) → Contains [] y → ⊥
none_in y c = omega (arith, c.1)

pub any_contains : (next : List ℕ) (v : ℕ) → list_any (λ x. x == v) next ≡ true → Contains next v
any_contains next v h =
    let a = Any-from_list_any (λ x. x == v) next h in
    let P : ℕ → Type 0 = λ z. get_or next a.0 z ≡ z in
    (a.0, a.2, subst P (eqb-true a.1 v a.4) a.3)

pub contains_any : (next : List ℕ) (v : ℕ) → Contains next v → list_any (λ x. x == v) next ≡ true
contains_any next v (k, l, e) = list_any-from_Any (λ x. x == v) next (k, v, l, e, eq-eqb v v refl)

-- ---- ascending lists

abbrev above_head : ℕ → List ℕ → Type 0
above_head x [] = Unit {0}
above_head x (y ∷ ys) = x < y

abbrev pub ascends : List ℕ → Type 0
ascends [] = Unit {0}
ascends (x ∷ xs) = above_head x xs × ascends xs

pub ascends_from : (xs : List ℕ) → ((k c d : ℕ) → slice_get xs k ≡ Some c → slice_get xs (k + 1) ≡ Some d → c < d) → ascends xs
ascends_from [] h = tt
ascends_from (x ∷ []) h = (tt, tt)
ascends_from (x ∷ y ∷ ys) h = (h 0 x y refl refl, ascends_from (y ∷ ys) (λ k c d a b. let e : suc k + 1 ≡ suc (k + 1) = omega arith in h (suc k) c d a (ap (slice_get (x ∷ y ∷ ys)) e ∙ b)))

not_among : (x : ℕ) (xs : List ℕ) → above_head x xs → ascends xs → list_any (λ z. z == x) xs ≡ false
not_among x [] h a = refl
not_among x (y ∷ []) h a = ap (λ b. b || false) (ne_eqb y x (λ e. omega arith))
not_among x (y ∷ z ∷ zs) h (k, a) = ap (λ b. b || list_any (λ w. w == x) (z ∷ zs)) (ne_eqb y x (λ e. omega arith)) ∙ not_among x (z ∷ zs) (omega (arith, h, k)) a

-- ---- one block's edges

abbrev passes_to : ℕ → List ℕ → ℕ → List ℕ
passes_to p next v = if list_any (λ x. x == v) next then p ∷ [] else []

pub added_long : (p : ℕ) (next : List ℕ) (lists : List (List ℕ)) → length (added p next lists) ≡ length lists
added_long p [] lists = refl
added_long p (s ∷ ss) lists = added_long p ss (slice_set lists s (get_or lists s [] ++ p ∷ [])) ∙ length-set lists s (get_or lists s [] ++ p ∷ [])

one_more : (p s : ℕ) (ss : List ℕ) (lists : List (List ℕ)) (v : ℕ) → s < length lists → above_head s ss → ascends ss
    → get_or (slice_set lists s (get_or lists s [] ++ p ∷ [])) v [] ++ passes_to p ss v ≡ get_or lists v [] ++ passes_to p (s ∷ ss) v
one_more p s ss lists v l h a = elim (cases_eq s v) [
  | inl e ↦
      let gone : list_any (λ x. x == v) ss ≡ false = subst (λ (w : ℕ). list_any (λ x. x == w) ss ≡ false) e (not_among s ss h a) in
      let there : get_or (slice_set lists s (get_or lists s [] ++ p ∷ [])) v [] ≡ get_or lists v [] ++ p ∷ [] =
      subst (λ (w : ℕ). get_or (slice_set lists s (get_or lists s [] ++ p ∷ [])) w [] ≡ get_or lists w [] ++ p ∷ []) e (get_or-set_same lists s (get_or lists s [] ++ p ∷ []) [] l) in
      ap (λ (b : Bool). get_or (slice_set lists s (get_or lists s [] ++ p ∷ [])) v [] ++ (if b then p ∷ [] else [])) gone ∙ append-nil (get_or (slice_set lists s (get_or lists s [] ++ p ∷ [])) v [])
      ∙ there ∙ ap (λ (b : Bool). get_or lists v [] ++ (if b || list_any (λ x. x == v) ss then p ∷ [] else [])) (sym (eq-eqb s v e))
  | inr n ↦
      ap (λ (xs : List ℕ). xs ++ passes_to p ss v) (get_or-set_other lists s v (get_or lists s [] ++ p ∷ []) [] (λ q. n (sym q)))
      ∙ ap (λ (b : Bool). get_or lists v [] ++ (if b || list_any (λ x. x == v) ss then p ∷ [] else [])) (sym (ne_eqb s v n))
]

added_at : (p : ℕ) (next : List ℕ) (lists : List (List ℕ)) (v n : ℕ) → length lists ≡ n → ascends next → All (λ s. s < n) next → get_or (added p next lists) v [] ≡ get_or lists v [] ++ passes_to p next v
added_at p [] lists v n e a l = sym (append-nil (get_or lists v []))
added_at p (s ∷ ss) lists v n e (h, a) l =
    let ls : s < n = All-head (λ x. x < n) s ss l in
    added_at p ss (slice_set lists s (get_or lists s [] ++ p ∷ [])) v n (length-set lists s (get_or lists s [] ++ p ∷ []) ∙ e) a (All-tail (λ x. x < n) s ss l)
    ∙ one_more p s ss lists v (omega (arith, ls, e)) h a

-- ---- all blocks' edges

abbrev pub preds : ℕ → List (List ℕ) → ℕ → List ℕ
preds p [] v = []
preds p (next ∷ rest) v = passes_to p next v ++ preds (p + 1) rest v

abbrev pub fits : ℕ → List (List ℕ) → Type 0
fits n [] = Unit {0}
fits n (next ∷ rest) = (ascends next × All (λ s. s < n) next) × fits n rest

pub fits_from : (n : ℕ) (succs : List (List ℕ)) → ((u : ℕ) → u < length succs → ascends (get_or succs u []) × All (λ s. s < n) (get_or succs u [])) → fits n succs
fits_from n [] h = tt
fits_from n (next ∷ rest) h = (h 0 (omega arith), fits_from n rest (λ u l. h (suc u) (omega arith)))

pub turned_long : (p : ℕ) (succs lists : List (List ℕ)) → length (turned p succs lists) ≡ length lists
turned_long p [] lists = refl
turned_long p (next ∷ rest) lists = turned_long (p + 1) rest (added p next lists) ∙ added_long p next lists

pub turned_at : (p : ℕ) (succs lists : List (List ℕ)) (v n : ℕ) → length lists ≡ n → fits n succs → get_or (turned p succs lists) v [] ≡ get_or lists v [] ++ preds p succs v
turned_at p [] lists v n e f = sym (append-nil (get_or lists v []))
turned_at p (next ∷ rest) lists v n e f =
    turned_at (p + 1) rest (added p next lists) v n (added_long p next lists ∙ e) f.1
    ∙ ap (λ (xs : List ℕ). xs ++ preds (p + 1) rest v) (added_at p next lists v n e f.0.0 f.0.1)
    ∙ append_assoc (get_or lists v []) (passes_to p next v) (preds (p + 1) rest v)

same_at : (n v : ℕ) (e : List ℕ) → get_or (replicate n e) v e ≡ e
same_at zero v e = refl
same_at (suc n) zero e = refl
same_at (suc n) (suc v) e = same_at n v e

-- ---- what the lists hold

pub with_it : (k : ℕ) (next : List ℕ) (rest : List (List ℕ)) (v : ℕ) → list_any (λ x. x == v) next ≡ true → preds k (next ∷ rest) v ≡ k ∷ preds (k + 1) rest v
with_it k next rest v h = ap (λ (b : Bool). (if b then k ∷ [] else []) ++ preds (k + 1) rest v) h

pub without_it : (k : ℕ) (next : List ℕ) (rest : List (List ℕ)) (v : ℕ) → list_any (λ x. x == v) next ≡ false → preds k (next ∷ rest) v ≡ preds (k + 1) rest v
without_it k next rest v h = ap (λ (b : Bool). (if b then k ∷ [] else []) ++ preds (k + 1) rest v) h

pub sound : (k : ℕ) (succs : List (List ℕ)) (v p : ℕ) → Contains (preds k succs v) p → (j : ℕ) × (p ≡ k + j) × Contains (get_or succs j []) v
sound k [] v p c = absurd (none_in p c)
sound k (next ∷ rest) v p c = elim (cases_Bool (list_any (λ x. x == v) next)) [
  | inl t ↦ elim (contains_cases k (preds (k + 1) rest v) p (subst (λ (xs : List ℕ). Contains xs p) (with_it k next rest v t) c)) [
    | inl e ↦ (0, omega arith, any_contains next v t)
    | inr d ↦ let r = sound (k + 1) rest v p d in (suc r.0, omega (arith, r.1), r.2)
  ]
  | inr t ↦ let r = sound (k + 1) rest v p (subst (λ (xs : List ℕ). Contains xs p) (without_it k next rest v t) c) in (suc r.0, omega (arith, r.1), r.2)
]

pub complete : (k : ℕ) (succs : List (List ℕ)) (v j : ℕ) → Contains (get_or succs j []) v → Contains (preds k succs v) (k + j)
complete k [] v j c = absurd (none_in v c)
complete k (next ∷ rest) v zero c =
    let e : k ≡ k + 0 = omega arith in
    subst (λ (xs : List ℕ). Contains xs (k + 0)) (sym (with_it k next rest v (contains_any next v c))) (subst (Contains (k ∷ preds (k + 1) rest v)) e (contains_head k (preds (k + 1) rest v)))
complete k (next ∷ rest) v (suc j) c =
    let e : k + 1 + j ≡ k + suc j = omega arith in
    let r : Contains (preds (k + 1) rest v) (k + suc j) = subst (Contains (preds (k + 1) rest v)) e (complete (k + 1) rest v j c) in
    elim (cases_Bool (list_any (λ x. x == v) next)) [
      | inl t ↦ subst (λ (xs : List ℕ). Contains xs (k + suc j)) (sym (with_it k next rest v t)) (contains_tail k (preds (k + 1) rest v) (k + suc j) r)
      | inr t ↦ subst (λ (xs : List ℕ). Contains xs (k + suc j)) (sym (without_it k next rest v t)) r
    ]

pub first_least : (k : ℕ) (succs : List (List ℕ)) (v p : ℕ) → Contains (preds k succs v) p → slice_index (preds k succs v) 0 ≤ p
first_least k [] v p c = absurd (none_in p c)
first_least k (next ∷ rest) v p c = elim (cases_Bool (list_any (λ x. x == v) next)) [
  | inl t ↦ let s = sound k (next ∷ rest) v p c in omega (arith, s.1, ap (λ (xs : List ℕ). slice_index xs 0) (with_it k next rest v t))
  | inr t ↦
      let r = first_least (k + 1) rest v p (subst (λ (xs : List ℕ). Contains xs p) (without_it k next rest v t) c) in
      omega (arith, r, ap (λ (xs : List ℕ). slice_index xs 0) (without_it k next rest v t))
]

pub at_in : (xs : List ℕ) (i : ℕ) → i < length xs → Contains xs (get_or xs i 0)
at_in [] i l = absurd (omega arith)
at_in (x ∷ xs) zero l = contains_head x xs
at_in (x ∷ xs) (suc i) l = contains_tail x xs (get_or xs i 0) (at_in xs i (omega arith))

pub two_differ : (k : ℕ) (succs : List (List ℕ)) (v : ℕ) → 2 ≤ length (preds k succs v) → slice_index (preds k succs v) 0 ≡ slice_index (preds k succs v) 1 → ⊥
two_differ k [] v l e = omega arith
two_differ k (next ∷ rest) v l e = elim (cases_Bool (list_any (λ x. x == v) next)) [
  | inl t ↦
      let w = with_it k next rest v t in
      let long : 1 ≤ length (preds (k + 1) rest v) = omega (arith, l, ap length w) in
      let s = sound (k + 1) rest v (get_or (preds (k + 1) rest v) 0 0) (at_in (preds (k + 1) rest v) 0 (omega (arith, long))) in
      omega (arith, s.1, e, ap (λ (xs : List ℕ). slice_index xs 0) w, ap (λ (xs : List ℕ). slice_index xs 1) w)
  | inr t ↦
      let w = without_it k next rest v t in
      two_differ (k + 1) rest v (subst (λ (xs : List ℕ). 2 ≤ length xs) w l) (subst (λ (xs : List ℕ). slice_index xs 0 ≡ slice_index xs 1) w e)
]

one_same : (xs : List ℕ) (p q : ℕ) → length xs ≤ 1 → Contains xs p → Contains xs q → p ≡ q
one_same [] p q l a b = absurd (none_in p a)
one_same (x ∷ []) p q l a b = elim (contains_cases x [] p a) [
  | inl e ↦ elim (contains_cases x [] q b) [ inl f ↦ sym e ∙ f | inr c ↦ absurd (none_in q c) ]
  | inr c ↦ absurd (none_in p c)
]
one_same (x ∷ y ∷ ys) p q l a b = absurd (omega arith)

-- ---- the whole graph

twos_at : (lists : List (List ℕ)) (v : ℕ) → slice_index_or (twos lists) v false ≡ nat_le 2 (length (get_or lists v []))
twos_at [] v = refl
twos_at (l ∷ ls) zero = refl
twos_at (l ∷ ls) (suc v) = twos_at ls v

twos_long : (lists : List (List ℕ)) → length (twos lists) ≡ length lists
twos_long [] = refl
twos_long (l ∷ ls) = ap suc (twos_long ls)

past : (lists : List (List ℕ)) (u : ℕ) → length lists ≤ u → get_or lists u [] ≡ []
past [] u h = refl
past (l ∷ ls) zero h = absurd (omega arith)
past (l ∷ ls) (suc u) h = past ls u (omega arith)

pub in_range : (succs : List (List ℕ)) (u w : ℕ) → IsSucc succs u w → u < length succs
in_range succs u w c = elim (cases_lt u (length succs)) [
  | inl l ↦ l
  | inr g ↦ absurd (none_in w (subst (λ (xs : List ℕ). Contains xs w) (past succs u g) c))
]

read_same : (xs : List ℕ) (k d : ℕ) → k < length xs → get_or xs k (get_or xs k d) ≡ get_or xs k d
read_same [] k d l = absurd (omega arith)
read_same (x ∷ xs) zero d l = refl
read_same (x ∷ xs) (suc k) d l = read_same xs k d (omega arith)

pub all_of : (P : ℕ → Type 0) (xs : List ℕ) → ((v : ℕ) → Contains xs v → P v) → All P xs
all_of P xs h k d l = h (get_or xs k d) (k, l, read_same xs k d l)

module _ (succs : List (List ℕ)) (edges : AreEdges succs) where
  pub all_within : (u : ℕ) → All (λ s. s < length succs) (get_or succs u [])
  all_within u = all_of (λ s. s < length succs) (get_or succs u []) (λ v c. edges.within u v c)

  pub backward_at : (v : ℕ) → get_or (backward succs) v [] ≡ preds 0 succs v
  backward_at v =
      turned_at 0 succs (replicate (length succs) []) v (length succs) (length-replicate {A = List ℕ} (length succs) [])
      (fits_from (length succs) succs (λ u l. (ascends_from (get_or succs u []) (edges.ascend u), all_within u)))
      ∙ ap (λ (xs : List ℕ). xs ++ preds 0 succs v) (same_at (length succs) v [])

  led_by : (v p : ℕ) → Contains (get_or (backward succs) v []) p → IsSucc succs p v
  led_by v p c =
      let s = sound 0 succs v p (subst (λ (xs : List ℕ). Contains xs p) (backward_at v) c) in
      let e : s.0 ≡ p = omega (arith, s.1) in
      subst (λ (u : ℕ). IsSucc succs u v) e s.2

  leads_to : (v p : ℕ) → IsSucc succs p v → Contains (get_or (backward succs) v []) p
  leads_to v p c =
      let e : 0 + p ≡ p = omega arith in
      subst (λ (xs : List ℕ). Contains xs p) (sym (backward_at v)) (subst (Contains (preds 0 succs v)) e (complete 0 succs v p c))

  pub at_most_one : (p q w : ℕ) → length (get_or (backward succs) w []) ≤ 1 → IsSucc succs p w → IsSucc succs q w → p ≡ q
  at_most_one p q w l a b = one_same (get_or (backward succs) w []) p q l (leads_to w p a) (leads_to w q b)

  pub two_of : (v : ℕ) → 2 ≤ length (get_or (backward succs) v []) → HasTwo (IsSucc succs) v
  two_of v l =
      let xs = get_or (backward succs) v [] in
      let e = backward_at v in
      record {
        one = get_or (get_or (backward succs) v []) 0 0;
        other = get_or (get_or (backward succs) v []) 1 0;
        differ = λ s. two_differ 0 succs v (subst (λ (xs : List ℕ). 2 ≤ length xs) e l) (subst (λ (xs : List ℕ). slice_index xs 0 ≡ slice_index xs 1) e s);
        by_one = led_by v (get_or (get_or (backward succs) v []) 0 0) (at_in (get_or (backward succs) v []) 0 (omega arith));
        by_other = led_by v (get_or (get_or (backward succs) v []) 1 0) (at_in (get_or (backward succs) v []) 1 (omega arith));
      }

  pub has_two : (v : ℕ) → (slice_index_or (twos (backward succs)) v false ≡ true) ↔ HasTwo (IsSucc succs) v
  has_two v = (
    λ t. two_of v (leb-true 2 (length (get_or (backward succs) v [])) (sym (twos_at (backward succs) v) ∙ t)),
    λ h. twos_at (backward succs) v ∙ le-leb 2 (length (get_or (backward succs) v [])) (elim (cases_lt (length (get_or (backward succs) v [])) 2) [
      | inl l ↦ absurd (h.differ (at_most_one h.one h.other v (omega arith) h.by_one h.by_other))
      | inr g ↦ g
    ]),
  )

  pub graph_of : (n : ℕ) → n ≡ length succs → IsGraph succs (backward succs) (twos (backward succs)) n
  graph_of n e = record {
    size = sym e;
    size_back = turned_long 0 succs (replicate (length succs) []) ∙ length-replicate {A = List ℕ} (length succs) [] ∙ sym e;
    size_two = twos_long (backward succs) ∙ turned_long 0 succs (replicate (length succs) []) ∙ length-replicate {A = List ℕ} (length succs) [] ∙ sym e;
    inside = λ p v c. let l = edges.within p v c in omega arith;
    back = λ p v. (led_by v p, leads_to v p);
    twos = has_two;
  }

  pub two_long : length (twos (backward succs)) ≡ length succs
  two_long = twos_long (backward succs) ∙ turned_long 0 succs (replicate (length succs) []) ∙ length-replicate {A = List ℕ} (length succs) []

  pub first_of : AreFirst (IsSucc succs) (first_before (backward succs))
  first_of = record {
    leads = λ q w c.
        let d : Contains (get_or (backward succs) w []) q = leads_to w q c in
        led_by w (get_or (get_or (backward succs) w []) 0 0) (at_in (get_or (backward succs) w []) 0 (omega (arith, d.1)));
    earliest = λ q w c.
        let d : Contains (preds 0 succs w) q = subst (λ (xs : List ℕ). Contains xs q) (backward_at w) (leads_to w q c) in
        omega (arith, first_least 0 succs w q d, ap (λ (xs : List ℕ). slice_index xs 0) (backward_at w));
  }

-- ---- one block more

pub slice_within : (succs : List (List ℕ)) (i n : ℕ) (item slice : List ℕ) → AreEdges succs → i < length succs → item ≡ get_or succs i item → slice ≡ item → n ≡ length succs → All (λ s. s < n) slice
slice_within succs i n item slice edges l is s e =
    let same : slice ≡ get_or succs i [] = s ∙ get_or_read succs i item l is [] in
    subst (λ (xs : List ℕ). All (λ v. v < n) xs) (sym same) (subst (λ (m : ℕ). All (λ v. v < m) (get_or succs i [])) (sym e) (all_within succs edges i))

pub turn_more : (succs lists lists' back : List (List ℕ)) (i block : ℕ) (item slice : List ℕ) → i < length succs → item ≡ get_or succs i item → slice ≡ item → lists' ≡ added block slice lists
    → turned block (drop i succs) lists ≡ back → turned (block + 1) (drop (i + 1) succs) lists' ≡ back
turn_more succs lists lists' back i block item slice l is s e h =
    let same : slice ≡ get_or succs i [] = s ∙ get_or_read succs i item l is [] in
    let one : i + 1 ≡ suc i = omega arith in
    ap (λ (k : ℕ). turned (block + 1) (drop k succs) lists') one ∙ ap (turned (block + 1) (drop (suc i) succs)) (e ∙ ap (λ (xs : List ℕ). added block xs lists) same)
    ∙ ap (λ (xs : List (List ℕ)). turned block xs lists) (sym (drop-cons succs i [] l)) ∙ h
