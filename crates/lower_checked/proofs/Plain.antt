-- A function that calls no function with a body is not recursive.
use Rattle.std.proofs.Common.{◌≡◌, ℕ, zero, suc, Bool, true, false, ◌||◌, List, [], ◌∷◌, length, Option, Some, None, refl, ap, ◌∙◌, arith, ◌==◌}
use Rattle.std.specs.Prelude.{Contains}
use Rattle.std.specs.List.{list_any}
use Rattle.std.proofs.lemmas.Bool.{ne_eqb}
use Rattle.c_syntax.specs.declared.tree.Function.{Function}
use Rattle.c_syntax.specs.declared.tree.TopItem.{TopItem}
use Rattle.c_syntax.specs.Graph.{functions, function_named, body_calls, calls_of, leads, is_recursive}

or_false : (a b : Bool) → a ≡ false → b ≡ false → (a || b) ≡ false
or_false false b e h = h
or_false true b e h = absurd cc

any_false : (f : ℕ → Bool) (cs : List ℕ) → ((m : ℕ) → Contains cs m → f m ≡ false) → list_any f cs ≡ false
any_false f [] h = refl
any_false f (m ∷ cs) h = or_false (f m) (list_any f cs) (h m (0, omega arith, refl)) (any_false f cs (λ k c. h k (suc c.0, omega (arith, c.1), c.2)))

none_some : (o : Option Function) (f : Function) → o ≡ None → o ≡ Some f → ⊥
none_some o f a b = absurd cc

module _ (items : List TopItem) where
  -- no call leads on from a name without a body
  leads_none : (n from to : ℕ) → function_named from items ≡ None → leads items n from to ≡ false
  leads_none zero from to none = refl
  leads_none (suc n) from to none = ap (λ (o : Option Function). list_any (λ name. name == to || leads items n name to) (calls_of o)) none

  module _ (main : Function) (name : ℕ) (is : function_named name items ≡ Some main) (alone : (m : ℕ) → Contains (body_calls main.body) m → function_named m items ≡ None) where
    step_none : (n m : ℕ) → Contains (body_calls main.body) m → (m == name || leads items n m name) ≡ false
    step_none n m c = or_false (m == name) (leads items n m name)
        (ne_eqb m name (λ e. none_some (function_named m items) main (alone m c) (ap (λ k. function_named k items) e ∙ is))) (leads_none n m name (alone m c))

    leads_back : (n : ℕ) → leads items n name name ≡ false
    leads_back zero = refl
    leads_back (suc n) = ap (λ (o : Option Function). list_any (λ m. m == name || leads items n m name) (calls_of o)) is
        ∙ any_false (λ m. m == name || leads items n m name) (body_calls main.body) (step_none n)

    pub not_recursive : is_recursive items name ≡ false
    not_recursive = leads_back (length (functions items))
