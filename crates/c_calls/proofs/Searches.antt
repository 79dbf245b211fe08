-- A search marks exactly the names that calls lead to from its start.
use Rattle.std.proofs.Common.{◌≡◌, ◌≢◌, ℕ, zero, suc, ◌+◌, ◌<◌, ◌≤◌, Bool, true, false, eqb, List, [], ◌∷◌, ◌++◌, length, get_or, set, Contains, refl, sym, ap, ◌∙◌, subst, arith, inl, inr, ◌⊎◌, ◌↔◌}
use Rattle.std.proofs.lemmas.Bool.{eq-eqb, eqb-true}
use Rattle.std.proofs.lemmas.List.{get_or_append_left, append_assoc, append-nil, length-append, length_push, length-set, get_or-set_same, get_or-set_other, get_or_default}
use Rattle.std.proofs.lemmas.List.Elements.{All-push, All-nil, All-weaker, All-contains, Contains-append_left, Contains-append_cases, Contains-push, Contains-push_cases, Contains-get_or}
use Rattle.c_calls.specs.Lists.{Leads, direct, through}
use Rattle.c_calls.specs.Search.{unmarked, Marked}

-- ---- marks

unmarked_set : (stamp : ℕ) (marks : List ℕ) (i : ℕ) → i < length marks → get_or marks i 0 ≢ stamp → unmarked stamp (set marks i stamp) + 1 ≡ unmarked stamp marks
unmarked_set stamp [] i lt ne = absurd (omega arith)
unmarked_set stamp (m ∷ ms) zero lt ne = let p : eqb stamp stamp ≡ true = eq-eqb stamp stamp refl in let q : eqb m stamp ≡ false = other m ne in rw (p, q) (omega arith)
  where
    other : (m : ℕ) → m ≢ stamp → eqb m stamp ≡ false
    other m ne = by_test (eqb m stamp) (λ t. absurd (ne (eqb-true m stamp t))) (λ n. n)
      where
        by_test : {A : Type 0} (a : Bool) → (a ≡ true → A) → (a ≡ false → A) → A
        by_test true f g = f refl
        by_test false f g = g refl
unmarked_set stamp (m ∷ ms) (suc i) lt ne = omega (arith, unmarked_set stamp ms i (omega arith) ne)

pub marked_none : (stamp : ℕ) (marks waiting : List ℕ) → Marked [] stamp marks waiting marks waiting
marked_none stamp marks waiting = record {
  long = refl;
  each = λ x c. absurd (omega (arith, c.1));
  others = λ x. inl refl;
  more = ([], sym (append-nil waiting), All-nil (Contains []));
  count = refl;
}

module _ (names : List ℕ) (stamp : ℕ) (marks waiting marks' waiting' : List ℕ) (y : ℕ) (m : Marked names stamp marks waiting marks' waiting') where
  wider : (x : ℕ) → Contains names x → Contains (names ++ y ∷ []) x
  wider x = Contains-append_left names (y ∷ []) x

  pub marked_old : get_or marks' y 0 ≡ stamp → Marked (names ++ y ∷ []) stamp marks waiting marks' waiting'
  marked_old is = record {
    long = m.long;
    each = λ x c. each x (Contains-push_cases names y x c);
    others = λ x. others x (m.others x);
    more = (m.more.0, m.more.1, All-weaker (Contains names) (Contains (names ++ y ∷ [])) wider m.more.0 m.more.2);
    count = m.count;
  }
    where
      each : (x : ℕ) → Contains names x ⊎ (y ≡ x) → get_or marks' x 0 ≡ stamp
      each x (inl c) = m.each x c
      each x (inr e) = subst (λ z. get_or marks' z 0 ≡ stamp) e is

      others : (x : ℕ) → (get_or marks' x 0 ≡ get_or marks x 0) ⊎ ((get_or marks' x 0 ≡ stamp) × Contains names x × Contains waiting' x) →
          (get_or marks' x 0 ≡ get_or marks x 0) ⊎ ((get_or marks' x 0 ≡ stamp) × Contains (names ++ y ∷ []) x × Contains waiting' x)
      others x (inl e) = inl e
      others x (inr h) = inr (h.0, wider x h.1, h.2)

  pub marked_new : y < length marks' → get_or marks' y 0 ≢ stamp → Marked (names ++ y ∷ []) stamp marks waiting (set marks' y stamp) (waiting' ++ y ∷ [])
  marked_new lt ne = record {
    long = length-set marks' y stamp ∙ m.long;
    each = λ x c. each x (Contains-push_cases names y x c);
    others = λ x. by_place x (eqb x y) refl;
    more = (
      m.more.0 ++ y ∷ [],
      ap (λ w. w ++ y ∷ []) m.more.1 ∙ append_assoc waiting m.more.0 (y ∷ []),
      All-push (Contains (names ++ y ∷ [])) m.more.0 y (All-weaker (Contains names) (Contains (names ++ y ∷ [])) wider m.more.0 m.more.2) (Contains-push names y),
    );
    count = omega (arith, m.count, unmarked_set stamp marks' y lt ne, length_push waiting' y);
  }
    where
      same_here : get_or (set marks' y stamp) y 0 ≡ stamp
      same_here = get_or-set_same marks' y stamp 0 lt

      still : (x : ℕ) (b : Bool) → eqb x y ≡ b → get_or marks' x 0 ≡ stamp → get_or (set marks' y stamp) x 0 ≡ stamp
      still x true e h = subst (λ z. get_or (set marks' y stamp) z 0 ≡ stamp) (sym (eqb-true x y e)) same_here
      still x false e h = get_or-set_other marks' y x stamp 0 (λ p. clash (eq-eqb x y p) e) ∙ h
        where
          clash : {b : Bool} → b ≡ true → b ≡ false → ⊥
          clash t n = cc

      each : (x : ℕ) → Contains names x ⊎ (y ≡ x) → get_or (set marks' y stamp) x 0 ≡ stamp
      each x (inl c) = still x (eqb x y) refl (m.each x c)
      each x (inr e) = subst (λ z. get_or (set marks' y stamp) z 0 ≡ stamp) e same_here

      by_place : (x : ℕ) (b : Bool) → eqb x y ≡ b → (get_or (set marks' y stamp) x 0 ≡ get_or marks x 0) ⊎ ((get_or (set marks' y stamp) x 0 ≡ stamp) × Contains (names ++ y ∷ []) x × Contains (waiting' ++ y ∷ []) x)
      by_place x true e = let p = sym (eqb-true x y e) in inr (subst (λ z. get_or (set marks' y stamp) z 0 ≡ stamp) p same_here, subst (Contains (names ++ y ∷ [])) p (Contains-push names y), subst (Contains (waiting' ++ y ∷ [])) p (Contains-push waiting' y))
      by_place x false e = elsewhere (m.others x)
        where
          clash : {b : Bool} → b ≡ true → b ≡ false → ⊥
          clash t n = cc

          same : get_or (set marks' y stamp) x 0 ≡ get_or marks' x 0
          same = get_or-set_other marks' y x stamp 0 (λ p. clash (eq-eqb x y p) e)

          elsewhere : (get_or marks' x 0 ≡ get_or marks x 0) ⊎ ((get_or marks' x 0 ≡ stamp) × Contains names x × Contains waiting' x) →
              (get_or (set marks' y stamp) x 0 ≡ get_or marks x 0) ⊎ ((get_or (set marks' y stamp) x 0 ≡ stamp) × Contains (names ++ y ∷ []) x × Contains (waiting' ++ y ∷ []) x)
          elsewhere (inl h) = inl (same ∙ h)
          elsewhere (inr h) = inr (same ∙ h.0, wider x h.1, Contains-append_left waiting' (y ∷ []) x h.2)

-- ---- what a search has found so far

pub leads_on : (lists : List (List ℕ)) (a b c : ℕ) → Leads lists a b → Contains (get_or lists b []) c → Leads lists a c
leads_on lists a b c (direct h) k = through b h (direct k)
leads_on lists a b c (through n h rest) k = through n h (leads_on lists n b c rest k)

-- those that wait up to `done` have been looked at
pub record Searching (lists : List (List ℕ)) (start stamp : ℕ) (marks waiting : List ℕ) (done : ℕ) : Type 0 where
  pub first : (0 < length waiting) × (get_or waiting 0 0 ≡ start)
  pub reached : (x : ℕ) → Contains waiting x → (x ≡ start) ⊎ Leads lists start x
  pub marked : (x : ℕ) → get_or marks x 0 ≡ stamp → Leads lists start x × Contains waiting x
  pub closed : (k x : ℕ) → k < done → Contains (get_or lists (get_or waiting k 0) []) x → get_or marks x 0 ≡ stamp
  pub below : (x : ℕ) → get_or marks x 0 ≤ stamp
  pub count : length waiting + unmarked stamp marks ≡ 1 + length marks
  pub within : done ≤ length waiting

all_unmarked : (stamp : ℕ) (marks : List ℕ) → ((x : ℕ) → get_or marks x 0 < stamp) → unmarked stamp marks ≡ length marks
all_unmarked stamp [] fresh = refl
all_unmarked stamp (m ∷ ms) fresh = let q : eqb m stamp ≡ false = other (eqb m stamp) refl in let r = all_unmarked stamp ms (λ x. fresh (suc x)) in rw q (omega (arith, r))
  where
    other : (b : Bool) → eqb m stamp ≡ b → eqb m stamp ≡ false
    other true e = absurd (omega (arith, eqb-true m stamp e, fresh 0))
    other false e = e

pub searching_first : (lists : List (List ℕ)) (start stamp : ℕ) (marks : List ℕ) → ((x : ℕ) → get_or marks x 0 < stamp) → Searching lists start stamp marks ([] ++ start ∷ []) 0
searching_first lists start stamp marks fresh = record {
  first = (omega arith, refl);
  reached = λ x c. only x (Contains-push_cases [] start x c);
  marked = λ x e. absurd (omega (arith, fresh x, e));
  closed = λ k x lt c. absurd (omega arith);
  below = λ x. omega (arith, fresh x);
  count = omega (arith, all_unmarked stamp marks fresh);
  within = omega arith;
}
  where
    only : (x : ℕ) → Contains [] x ⊎ (start ≡ x) → (x ≡ start) ⊎ Leads lists start x
    only x (inl c) = absurd (omega (arith, c.1))
    only x (inr e) = inl (sym e)

module _ (lists : List (List ℕ)) (start stamp : ℕ) (marks waiting marks' waiting' : List ℕ) (done : ℕ) (s : Searching lists start stamp marks waiting done) where
  leads_next : (x : ℕ) → (get_or waiting done 0 ≡ start) ⊎ Leads lists start (get_or waiting done 0) → Contains (get_or lists (get_or waiting done 0) []) x → Leads lists start x
  leads_next x (inl e) c = direct (subst (λ n. Contains (get_or lists n []) x) e c)
  leads_next x (inr h) c = leads_on lists start (get_or waiting done 0) x h c

  pub searching_on : done < length waiting → Marked (get_or lists (get_or waiting done 0) []) stamp marks waiting marks' waiting' → Searching lists start stamp marks' waiting' (done + 1)
  searching_on lt m = record {
    first = (omega (arith, s.first.0, longer), same 0 s.first.0 ∙ s.first.1);
    reached = λ x c. found x (Contains-append_cases waiting m.more.0 x (subst (λ w. Contains w x) m.more.1 c));
    marked = λ x e. known x e (m.others x);
    closed = λ k x le c. looked_at k x le c (eqb k done) refl;
    below = λ x. bound x (m.others x);
    count = omega (arith, m.count, s.count, m.long);
    within = omega (arith, longer, lt);
  }
    where
      longer : length waiting' ≡ length waiting + length m.more.0
      longer = ap length m.more.1 ∙ length-append waiting m.more.0

      same : (k : ℕ) → k < length waiting → get_or waiting' k 0 ≡ get_or waiting k 0
      same k l = ap (λ w. get_or w k 0) m.more.1 ∙ get_or_append_left waiting m.more.0 0 k l

      next : (x : ℕ) → Contains (get_or lists (get_or waiting done 0) []) x → Leads lists start x
      next x c = leads_next x (s.reached (get_or waiting done 0) (Contains-get_or waiting done 0 lt)) c

      found : (x : ℕ) → Contains waiting x ⊎ Contains m.more.0 x → (x ≡ start) ⊎ Leads lists start x
      found x (inl c) = s.reached x c
      found x (inr c) = inr (next x (All-contains (Contains (get_or lists (get_or waiting done 0) [])) m.more.0 x m.more.2 c))

      known : (x : ℕ) → get_or marks' x 0 ≡ stamp → (get_or marks' x 0 ≡ get_or marks x 0) ⊎ ((get_or marks' x 0 ≡ stamp) × Contains (get_or lists (get_or waiting done 0) []) x × Contains waiting' x) → Leads lists start x × Contains waiting' x
      known x e (inl h) = let k = s.marked x (sym h ∙ e) in (k.0, subst (λ w. Contains w x) (sym m.more.1) (Contains-append_left waiting m.more.0 x k.1))
      known x e (inr h) = (next x h.1, h.2)

      kept : (x : ℕ) → get_or marks x 0 ≡ stamp → (get_or marks' x 0 ≡ get_or marks x 0) ⊎ ((get_or marks' x 0 ≡ stamp) × Contains (get_or lists (get_or waiting done 0) []) x × Contains waiting' x) → get_or marks' x 0 ≡ stamp
      kept x e (inl h) = h ∙ e
      kept x e (inr h) = h.0

      looked_at : (k x : ℕ) → k < done + 1 → Contains (get_or lists (get_or waiting' k 0) []) x → (b : Bool) → eqb k done ≡ b → get_or marks' x 0 ≡ stamp
      looked_at k x le c true e = m.each x (subst (λ n. Contains (get_or lists (get_or waiting n 0) []) x) (eqb-true k done e) (subst (λ n. Contains (get_or lists n []) x) (same k (omega (arith, eqb-true k done e, lt))) c))
      looked_at k x le c false e =
          let ne : k ≢ done = λ p. clash (eq-eqb k done p) e in
          let l : k < done = omega (arith, ne, le) in
          kept x (s.closed k x l (subst (λ n. Contains (get_or lists n []) x) (same k (omega (arith, l, lt))) c)) (m.others x)
        where
          clash : {b : Bool} → b ≡ true → b ≡ false → ⊥
          clash t n = cc

      bound : (x : ℕ) → (get_or marks' x 0 ≡ get_or marks x 0) ⊎ ((get_or marks' x 0 ≡ stamp) × Contains (get_or lists (get_or waiting done 0) []) x × Contains waiting' x) → get_or marks' x 0 ≤ stamp
      bound x (inl h) = omega (arith, h, s.below x)
      bound x (inr h) = omega (arith, h.0)

module _ (lists : List (List ℕ)) (start stamp : ℕ) (marks waiting : List ℕ) (done : ℕ) (s : Searching lists start stamp marks waiting done) where
  pub searched : length waiting ≤ done → (x : ℕ) → (get_or marks x 0 ≡ stamp) ↔ Leads lists start x
  searched le x = (λ e. (s.marked x e).0, λ h. all_marked start x h (0, s.first.0, s.first.1))
    where
      -- a name that waits, by its place
      place : (n : ℕ) → Contains waiting n → (k : ℕ) × (k < length waiting) × (get_or waiting k 0 ≡ n)
      place n c = (c.0, c.1, get_or_default waiting c.0 0 n c.1 ∙ c.2)

      marked_to : (from to : ℕ) → Contains (get_or lists from []) to → (k : ℕ) × (k < length waiting) × (get_or waiting k 0 ≡ from) → get_or marks to 0 ≡ stamp
      marked_to from to c w = s.closed w.0 to (omega (arith, w.1, le)) (subst (λ n. Contains (get_or lists n []) to) (sym w.2) c)

      all_marked : (from to : ℕ) → Leads lists from to → (k : ℕ) × (k < length waiting) × (get_or waiting k 0 ≡ from) → get_or marks to 0 ≡ stamp
      all_marked from to (direct c) w = marked_to from to c w
      all_marked from to (through name c rest) w = all_marked name to rest (place name (s.marked name (marked_to from name c w)).1)
