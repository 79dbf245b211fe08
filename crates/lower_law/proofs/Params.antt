-- Parameters that have names, each its own, have the first variables.
use Rattle.std.proofs.Common.{◌≡◌, ℕ, suc, ◌+◌, Bool, true, false, not, List, [], ◌∷◌, ◌++◌, map, length, Option, Some, None, refl, sym, ap, ◌∙◌, subst, if◌then◌else◌, ◌==◌, arith, flat_map}
use Rattle.std.proofs.lemmas.Bool.{eq-eqb, false≢true}
use Rattle.std.proofs.lemmas.List.{length-append}
use Rattle.c_syntax.specs.declared.tree.Param.{Param}
use Rattle.c_syntax.specs.declared.tree.Function.{Function}
use Rattle.c_syntax.specs.declared.tree.TopItem.{TopItem}
use Rattle.c_meaning.specs.Operators.{is_unsigned_type}
use Rattle.c_syntax.specs.Graph.{body_of}
use Rattle.c_meaning.specs.Meaning.{Names}
use Rattle.lower_rules.specs.Bindings.{Bindings}
use Rattle.lower_rules.specs.Scoping.{in_scope, are_apart}
use Rattle.lower_rules.specs.Programs.{Variable, param_variable, param_variables, declared, variables_of, place_of, unsigned_in, bindings_of}
use Rattle.lower_law.proofs.Expressions.{both}
use Rattle.lower_law.proofs.Calls.{ParamsFit}

abbrev names_of : List Variable → List ℕ
names_of vs = map (λ v. v.name) vs

not_false : (b : Bool) → not b ≡ true → b ≡ false
not_false true h = absurd (false≢true h)
not_false false h = refl

place_skip : (n i j : ℕ) (front ys : List Variable) → i + length front ≡ j → in_scope n (names_of front) ≡ false → place_of n i (front ++ ys) ≡ place_of n j ys
place_skip n i j [] ys e h = let same : i ≡ j = omega (arith, e) in ap (λ m. place_of n m ys) same
place_skip n i j (v ∷ front) ys e h = by (v.name == n) h (λ h'. place_skip n (suc i) j front ys (omega (arith, e)) h')
  where
    by : (b : Bool) → (if b then true else in_scope n (names_of front)) ≡ false → (in_scope n (names_of front) ≡ false → place_of n (suc i) (front ++ ys) ≡ place_of n j ys) → (if b then Some i else place_of n (suc i) (front ++ ys)) ≡ place_of n j ys
    by true h' ih = absurd (false≢true (sym h'))
    by false h' ih = ih h'

type_skip : (n : ℕ) (front ys : List Variable) → in_scope n (names_of front) ≡ false → unsigned_in n (front ++ ys) ≡ unsigned_in n ys
type_skip n [] ys h = refl
type_skip n (v ∷ front) ys h = by (v.name == n) h (λ h'. type_skip n front ys h')
  where
    by : (b : Bool) → (if b then true else in_scope n (names_of front)) ≡ false → (in_scope n (names_of front) ≡ false → unsigned_in n (front ++ ys) ≡ unsigned_in n ys) → (if b then v.is_unsigned else unsigned_in n (front ++ ys)) ≡ unsigned_in n ys
    by true h' ih = absurd (false≢true (sym h'))
    by false h' ih = ih h'

names_and : (front : List Variable) (v : Variable) → names_of (front ++ v ∷ []) ≡ names_of front ++ v.name ∷ []
names_and [] v = refl
names_and (x ∷ front) v = ap (λ l. x.name ∷ l) (names_and front v)

one_more : (front : List Variable) (v : Variable) (ys : List Variable) → front ++ v ∷ ys ≡ (front ++ v ∷ []) ++ ys
one_more [] v ys = refl
one_more (x ∷ front) v ys = ap (λ l. x ∷ l) (one_more front v ys)

module _ (names : Bindings) (all : List Variable) (variable_is : (n : ℕ) → names.variable n ≡ place_of n 0 all) (type_is : (n : ℕ) → names.local_unsigned n ≡ unsigned_in n all) where
  fit_from : (ps : List Param) (front rest : List Variable) (i : ℕ) → length front ≡ i → all ≡ front ++ (param_variables ps ++ rest) → are_apart (names_of front) (map (λ p. p.name) ps) ≡ true → ParamsFit names i ps
  fit_from [] front rest i long is h = tt
  fit_from (p ∷ ps) front rest i long is h = by p.name refl is h (λ front' i' long' is' h'. fit_from ps front' rest i' long' is' h')
    where
      u : Bool
      u = is_unsigned_type p.ty

      by : (o : Option ℕ) → p.name ≡ o → all ≡ front ++ ((param_variable o u ++ param_variables ps) ++ rest) → are_apart (names_of front) (o ∷ map (λ (q : Param). q.name) ps) ≡ true
          → ((front' : List Variable) (i' : ℕ) → length front' ≡ i' → all ≡ front' ++ (param_variables ps ++ rest) → are_apart (names_of front') (map (λ (q : Param). q.name) ps) ≡ true → ParamsFit names i' ps) → ParamsFit names i (p ∷ ps)
      by None e is' h' ih = absurd (false≢true h')
      by (Some n) e is' h' ih =
          let v : Variable = record { name = n; is_unsigned = u } in
          let ys : List Variable = param_variables ps ++ rest in
          let z = both (not (in_scope n (names_of front))) (are_apart (names_of front ++ n ∷ []) (map (λ (q : Param). q.name) ps)) h' in
          let new : in_scope n (names_of front) ≡ false = not_false (in_scope n (names_of front)) z.0 in
          let self : (n == n) ≡ true = eq-eqb n n refl in (
            (
              n,
              e,
              variable_is n ∙ ap (place_of n 0) is' ∙ place_skip n 0 i front (v ∷ ys) (omega (arith, long)) new ∙ ap (λ (b : Bool). if b then Some i else place_of n (suc i) ys) self,
              type_is n ∙ ap (unsigned_in n) is' ∙ type_skip n front (v ∷ ys) new ∙ ap (λ (b : Bool). if b then u else unsigned_in n ys) self,
            ),
            ih (front ++ v ∷ []) (i + 1) (omega (arith, long, length-append front (v ∷ []))) (is' ∙ one_more front v ys) (subst (λ l. are_apart l (map (λ (q : Param). q.name) ps) ≡ true) (sym (names_and front v)) z.1),
          )

-- the parameters of a function fit where they are apart
pub params_fit : (names : Names) (items : List TopItem) (f : Function) → are_apart [] (map (λ (p : Param). p.name) f.params) ≡ true → ParamsFit (bindings_of names items f) 0 f.params
params_fit names items f h = fit_from (bindings_of names items f) (variables_of f) (λ n. refl) (λ n. refl) f.params [] (flat_map declared (body_of f.body)) 0 refl refl h
