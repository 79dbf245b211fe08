-- Rounds of chains of calls: each goes one call further, and where one changes nothing no later one does.
use Rattle.std.proofs.Common.{◌≡◌, ℕ, zero, suc, ◌+◌, ◌-◌, ◌≤◌, Bool, true, false, ◌||◌, ◌==◌, List, [], ◌∷◌, map, length, get_or, Contains, inl, inr, refl, sym, ap, subst, arith}
use Rattle.std.proofs.lemmas.Bool.{eqb-true, eq-eqb}
use Rattle.c_syntax.specs.declared.tree.TopItem.{TopItem}
use Rattle.c_syntax.specs.declared.tree.TopItem.TheVariants as item
use Rattle.c_syntax.specs.Sizes.{greatest}
use Rattle.c_syntax.specs.Graph.{functions, callees}
use Rattle.check_rules.specs.Limits.{chain_in}
use Rattle.c_calls.specs.Reached.{IsGraph, AreFollowed}
use Rattle.check_limits.specs.Calls.{capped}
use Rattle.check_limits.specs.Tables.{AreWeights, is_wanted, chain_over, AreFurther}

pub functions_fewer : (items : List TopItem) → length (functions items) ≤ length items
functions_fewer [] = omega arith
functions_fewer (item.Globals gs ∷ rest) = omega (arith, functions_fewer rest)
functions_fewer (item.Function f ∷ rest) = omega (arith, functions_fewer rest)

-- ---- the greatest of a list

later : (x : ℕ) (xs : List ℕ) (y : ℕ) → Contains xs y → Contains (x ∷ xs) y
later x xs y c = (suc c.0, omega (arith, c.1), c.2)

greatest_capped : (f g : ℕ → ℕ) (l : List ℕ) → ((y : ℕ) → Contains l y → f y ≡ capped (g y)) → greatest (map f l) ≡ capped (greatest (map g l))
greatest_capped f g [] h = refl
greatest_capped f g (x ∷ xs) h = omega (arith, h x (0, omega arith, refl), greatest_capped f g xs (λ y c. h y (later x xs y c)))

greatest_same : (f g : ℕ → ℕ) (l : List ℕ) → ((y : ℕ) → capped (f y) ≡ capped (g y)) → capped (greatest (map f l)) ≡ capped (greatest (map g l))
greatest_same f g [] h = refl
greatest_same f g (x ∷ xs) h = omega (arith, h x, greatest_same f g xs h)

-- ---- rounds

-- the function that is begun with is wanted
pub is_begun : (from : ℕ) (reached : List Bool) → is_wanted from reached from ≡ true
is_begun from reached = ap (λ a. a || get_or reached from false) (eq-eqb from from refl)

either : {A : Type 0} (a b : Bool) → (a || b) ≡ true → (a ≡ true → A) → (b ≡ true → A) → A
either true b h f g = f refl
either false b h f g = g h

or_right : (a b : Bool) → b ≡ true → (a || b) ≡ true
or_right true b h = refl
or_right false b h = h

module _ (lists : List (List ℕ)) (weights : List ℕ) (from : ℕ) (reached : List Bool) (followed : AreFollowed lists from reached) where
  abbrev pub IsRound : ℕ → List ℕ → Type 0
  IsRound n numbers = (name : ℕ) → is_wanted from reached name ≡ true → get_or numbers name 0 ≡ capped (chain_over lists weights n name)

  wanted_on : (name to : ℕ) → is_wanted from reached name ≡ true → Contains (get_or lists name []) to → is_wanted from reached to ≡ true
  wanted_on name to w c =
      or_right (to == from) (get_or reached to false)
      (either (name == from) (get_or reached name false) w (λ t. followed name to (inl (eqb-true name from t)) c) (λ t. followed name to (inr t) c))

  pub round_on : (n : ℕ) (numbers next : List ℕ) → IsRound n numbers → AreFurther lists weights from reached numbers next → IsRound (suc n) next
  round_on n numbers next h further name w =
      let l = get_or lists name [] in
      let e : greatest (map (λ y. get_or numbers y 0) l) ≡ capped (greatest (map (chain_over lists weights n) l)) = greatest_capped (λ y. get_or numbers y 0) (chain_over lists weights n) l (λ y c. h y (wanted_on name y w c)) in
      omega (arith, further name w, e)

  still : (n : ℕ) (numbers : List ℕ) → IsRound n numbers → AreFurther lists weights from reached numbers numbers → (d : ℕ) → IsRound (d + n) numbers
  still n numbers h further zero = let e : 0 + n ≡ n = omega arith in subst (λ m. IsRound m numbers) (sym e) h
  still n numbers h further (suc d) = let e : suc d + n ≡ suc (d + n) = omega arith in subst (λ m. IsRound m numbers) (sym e) (round_on (d + n) numbers numbers (still n numbers h further d) further)

  pub round_still : (n most : ℕ) (numbers next : List ℕ) → n ≤ most → IsRound n numbers → AreFurther lists weights from reached numbers next → next ≡ numbers → IsRound most next
  round_still n most numbers next le h further same =
      let e : most - n + n ≡ most = omega (arith, le) in
      subst (IsRound most) (sym same) (subst (λ m. IsRound m numbers) e (still n numbers h (subst (AreFurther lists weights from reached numbers) same further) (most - n)))

-- ---- the same by the items of a program

pub same_chain : (items : List TopItem) (lists : List (List ℕ)) (weights : List ℕ) → IsGraph items lists → AreWeights items weights → (n name : ℕ) → capped (chain_over lists weights n name) ≡ capped (chain_in items n name)
same_chain items lists weights g h zero name = refl
same_chain items lists weights g h (suc n) name =
    let e : capped (greatest (map (chain_over lists weights n) (callees items name))) ≡ capped (greatest (map (chain_in items n) (callees items name))) = greatest_same (chain_over lists weights n) (chain_in items n) (callees items name) (same_chain items lists weights g h n) in
    let d : greatest (map (chain_over lists weights n) (get_or lists name [])) ≡ greatest (map (chain_over lists weights n) (callees items name)) = ap (λ l. greatest (map (chain_over lists weights n) l)) (g name) in
    omega (arith, e, d, h name)
