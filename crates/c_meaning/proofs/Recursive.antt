-- A function is recursive exactly where a chain of calls leads back to it: a chain without a function twice is no longer than the list of
-- the functions.
use Rattle.std.proofs.Common.{◌≡◌, ℕ, zero, suc, ◌+◌, ◌≤◌, Bool, true, false, ◌||◌, ◌&&◌, ◌==◌, eqb, List, [], ◌∷◌, map, find, length, Contains, ◌-◌, refl, sym, ap, ◌∙◌, subst, arith}
use Rattle.std.specs.List.{list_any, IsDistinct, AllByRecursion}
use Rattle.std.specs.Set.{is_member}
use Rattle.std.specs.Cmp.{IsEquivalence}
use Rattle.std.proofs.lemmas.Bool.{eq-eqb, eqb-true}
use Rattle.std.proofs.lemmas.List.Folds.{Any-from_list_any, list_any-from_Any}
use Rattle.std.proofs.lemmas.Map.Keys.{IsDistinct-cons, IsDistinct-tail}
use Rattle.std.proofs.lemmas.Map.Made.{length-le_from_is_member}
use Rattle.c_syntax.specs.declared.tree.Function.{Function}
use Rattle.c_syntax.specs.declared.tree.TopItem.{TopItem}
use Rattle.c_syntax.specs.Graph.{functions, has_body, calls_of, callees, leads, Chain, direct, through}
use Rattle.c_meaning.specs.Laws.{RecursiveIsChain}

-- ---- booleans and lists

or_left : (a b : Bool) → a ≡ true → (a || b) ≡ true
or_left true b h = refl
or_left false b h = absurd cc

or_right : (a b : Bool) → b ≡ true → (a || b) ≡ true
or_right true b h = refl
or_right false b h = h

either : {A : Type 0} (a b : Bool) → (a || b) ≡ true → (a ≡ true → A) → (b ≡ true → A) → A
either true b h f g = f refl
either false b h f g = g h

by_test : {A : Type 0} (a : Bool) → (a ≡ true → A) → (a ≡ false → A) → A
by_test true f g = f refl
by_test false f g = g refl

swapped : (x y : ℕ) → eqb x y ≡ true → eqb y x ≡ true
swapped x y h = eq-eqb y x (sym (eqb-true x y h))

symmetric : (x y : ℕ) → eqb x y ≡ eqb y x
symmetric x y = by_test (eqb x y) (λ t. t ∙ sym (swapped x y t)) (λ n. by_test (eqb y x) (λ t. absurd (clash (swapped y x t) n)) (λ m. n ∙ sym m))
  where
    clash : {b : Bool} → b ≡ true → b ≡ false → ⊥
    clash h g = cc

same : IsEquivalence eqb
same = record { refl = λ x. eq-eqb x x refl; symm = symmetric; congr = λ x y z e. ap (λ w. eqb w z) (eqb-true x y e) }

alone : (x : ℕ) → IsDistinct eqb (x ∷ [])
unfolding IsDistinct
alone x = (tt, tt)

none_same : (x : ℕ) (xs : List ℕ) → is_member eqb xs x ≡ false → AllByRecursion (λ y. eqb x y ≡ false) xs
none_same x [] h = tt
none_same x (y ∷ ys) h = neither (eqb x y) (is_member eqb ys x) h (none_same x ys)
  where
    neither : (a b : Bool) → (a || b) ≡ false → (b ≡ false → AllByRecursion (λ z. eqb x z ≡ false) ys) → (a ≡ false) × AllByRecursion (λ z. eqb x z ≡ false) ys
    neither true b e f = absurd cc
    neither false b e f = (refl, f e)

find_skips : (p : Function → Bool) (f : Function) (fs : List Function) → p f ≡ false → find p (f ∷ fs) ≡ find p fs
find_skips p f fs h = rw h refl

and_false : (a b : Bool) → a ≡ false → (a && b) ≡ false
and_false true b h = absurd cc
and_false false b h = refl

length_map : (fs : List Function) → length (map (λ (f : Function). f.name) fs) ≡ length fs
length_map [] = refl
length_map (f ∷ fs) = ap suc (length_map fs)

-- a function that calls one has a body
named : (x : ℕ) (fs : List Function) (y : ℕ) → Contains (calls_of (find (λ f. f.name == x && has_body f.body) fs)) y → is_member eqb (map (λ (f : Function). f.name) fs) x ≡ true
named x [] y c = absurd (omega (arith, c.1))
named x (f ∷ fs) y c =
    by_test (eqb x f.name) (λ t. or_left (eqb x f.name) (is_member eqb (map (λ (g : Function). g.name) fs) x) t)
    (λ n. or_right (eqb x f.name) (is_member eqb (map (λ (g : Function). g.name) fs) x)
    (named x fs y (subst (λ o. Contains (calls_of o) y) (find_skips (λ g. g.name == x && has_body g.body) f fs (and_false (f.name == x) (has_body f.body) (symmetric f.name x ∙ n))) c)))

module _ (items : List TopItem) where
  -- ---- chains of a bounded length

  some_callee : (p : ℕ → Bool) (from x : ℕ) → Contains (callees items from) x → p x ≡ true → list_any p (callees items from) ≡ true
  some_callee p from x c h = list_any-from_Any p (callees items from) (c.0, x, c.1, c.2, h)

  chain_of : (n from to : ℕ) → leads items n from to ≡ true → Chain items from to
  chain_of zero from to h = absurd cc
  chain_of (suc n) from to h =
      let a = Any-from_list_any (λ name. (name == to) || leads items n name to) (callees items from) h in
      either (a.1 == to) (leads items n a.1 to) a.4
      (λ t. direct (subst (λ z. Contains (callees items from) z) (eqb-true a.1 to t) (a.0, a.2, a.3)))
      (λ t. through a.1 (a.0, a.2, a.3) (chain_of n a.1 to t))

  leads_more : (n from to : ℕ) → leads items n from to ≡ true → leads items (suc n) from to ≡ true
  leads_more zero from to h = absurd cc
  leads_more (suc n) from to h =
      let a = Any-from_list_any (λ name. (name == to) || leads items n name to) (callees items from) h in
      some_callee (λ name. (name == to) || leads items (suc n) name to) from a.1 (a.0, a.2, a.3)
      (either (a.1 == to) (leads items n a.1 to) a.4 (λ t. or_left (a.1 == to) (leads items (suc n) a.1 to) t) (λ t. or_right (a.1 == to) (leads items (suc n) a.1 to) (leads_more n a.1 to t)))

  leads_up : (d n from to : ℕ) → leads items n from to ≡ true → leads items (d + n) from to ≡ true
  leads_up zero n from to h = let e : 0 + n ≡ n = omega arith in rw e h
  leads_up (suc d) n from to h = let e : suc d + n ≡ suc (d + n) = omega arith in rw e (leads_more (d + n) from to (leads_up d n from to h))

  leads_within : (m n from to : ℕ) → m ≤ n → leads items m from to ≡ true → leads items n from to ≡ true
  leads_within m n from to le h = let e : n ≡ (n - m) + m = omega (arith, le) in rw e (leads_up (n - m) m from to h)

  -- ---- the functions that a chain passes

  data Trail (to : ℕ) : ℕ → List ℕ → Type 0 where
    last : {from : ℕ} → Contains (callees items from) to → Trail to from (from ∷ [])
    further : {from : ℕ} {xs : List ℕ} (y : ℕ) → Contains (callees items from) y → Trail to y xs → Trail to from (from ∷ xs)

  trail_of : (from to : ℕ) → Chain items from to → (xs : List ℕ) × Trail to from xs
  trail_of from to (direct c) = (from ∷ [], last c)
  trail_of from to (through name c rest) = let t = trail_of name to rest in (from ∷ t.0, further name c t.1)

  trail_leads : (to from : ℕ) (xs : List ℕ) → Trail to from xs → leads items (length xs) from to ≡ true
  trail_leads to from _ (last c) = some_callee (λ name. (name == to) || false) from to c (or_left (to == to) false (eq-eqb to to refl))
  trail_leads to from _ (further {xs} y c t) = some_callee (λ name. (name == to) || leads items (length xs) name to) from y c (or_right (y == to) (leads items (length xs) y to) (trail_leads to y xs t))

  -- from one of its functions on
  cut : (to from y : ℕ) (xs : List ℕ) → Trail to y xs → IsDistinct eqb xs → is_member eqb xs from ≡ true → (zs : List ℕ) × Trail to from zs × IsDistinct eqb zs
  cut to from y _ (last c) d m = either (eqb from y) false m (λ t. (from ∷ [], last (subst (λ z. Contains (callees items z) to) (sym (eqb-true from y t)) c), alone from)) (λ t. absurd cc)
  cut to from y _ (further {xs} z c t) d m =
      either (eqb from y) (is_member eqb xs from) m
      (λ e. (from ∷ xs, further z (subst (λ w. Contains (callees items w) z) (sym (eqb-true from y e)) c) t, subst (λ w. IsDistinct eqb (w ∷ xs)) (sym (eqb-true from y e)) d))
      (λ e. cut to from z xs t (IsDistinct-tail eqb y xs d) e)

  no_twice : (to from : ℕ) (xs : List ℕ) → Trail to from xs → (zs : List ℕ) × Trail to from zs × IsDistinct eqb zs
  no_twice to from _ (last c) = (from ∷ [], last c, alone from)
  no_twice to from _ (further {xs} y c t) =
      let r = no_twice to y xs t in
      by_test (is_member eqb r.0 from) (λ m. cut to from y r.0 r.1 r.2 m) (λ m. (from ∷ r.0, further y c r.1, IsDistinct-cons eqb from r.0 (none_same from r.0 m) r.2))

  -- each of them has a body
  abbrev names : List ℕ
  names = map (λ (f : Function). f.name) (functions items)

  trail_named : (to from : ℕ) (xs : List ℕ) → Trail to from xs → (q : ℕ) → is_member eqb xs q ≡ true → is_member eqb names q ≡ true
  trail_named to from _ (last c) q m = either (eqb q from) false m (λ e. named q (functions items) to (subst (λ z. Contains (callees items z) to) (sym (eqb-true q from e)) c)) (λ e. absurd cc)
  trail_named to from _ (further {xs} y c t) q m = either (eqb q from) (is_member eqb xs q) m (λ e. named q (functions items) y (subst (λ z. Contains (callees items z) y) (sym (eqb-true q from e)) c)) (λ e. trail_named to y xs t q e)

  leads_of : (from to : ℕ) → Chain items from to → leads items (length (functions items)) from to ≡ true
  leads_of from to c =
      let t = trail_of from to c in
      let z = no_twice to from t.0 t.1 in
      leads_within (length z.0) (length (functions items)) from to (omega (arith, length-le_from_is_member same z.0 names z.2 (trail_named to from z.0 z.1), length_map (functions items))) (trail_leads to from z.0 z.1)

pub recursive_is_chain : RecursiveIsChain
recursive_is_chain items name = (λ h. chain_of items (length (functions items)) name name h, λ c. leads_of items name name c)
