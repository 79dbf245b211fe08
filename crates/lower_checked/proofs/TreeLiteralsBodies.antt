-- The cases in the bodies of functions, where they are words in each item.
use Rattle.std.proofs.Common.{◌≡◌, ℕ, zero, suc, Bool, true, false, not, List, [], ◌∷◌, ◌++◌, Some, refl, ◌∙◌, subst, ◌==◌}
use Rattle.std.specs.Prelude.{slice_get, filter}
use Rattle.std.specs.List.{list_all}
use Rattle.std.proofs.lemmas.Bool.{and_parts}
use Rattle.std.proofs.lemmas.List.Folds.{list_all-append}
use Rattle.c_syntax.specs.declared.tree.Function.{Function}
use Rattle.c_syntax.specs.declared.tree.TopItem.{TopItem}
use Rattle.c_syntax.specs.declared.tree.TopItem.TheVariants as item
use Rattle.c_syntax.specs.Graph.{functions, has_body, body_of}
use Rattle.c_meaning.specs.Meaning.{Names}
use Rattle.c_syntax.specs.Graph.{with_bodies}
use Rattle.lower_rules.specs.Labels.{cases_are_words, CasesAreWords}
use Rattle.lower_checked.specs.Cases.{item_cases}

abbrev in_body : Function → Bool
in_body f = list_all cases_are_words (body_of f.body)

of_functions : (items : List TopItem) → list_all item_cases items ≡ true → list_all in_body (functions items) ≡ true
of_functions [] h = refl
of_functions (item.Globals gs ∷ items) h = of_functions items h
of_functions (item.Function f ∷ items) h =
    let p = and_parts (in_body f) (list_all item_cases items) h in
    let here : in_body f ≡ true = p.0 in
    rw here (of_functions items p.1)

filtered : {A : Type 0} (p keep : A → Bool) (xs : List A) → list_all p xs ≡ true → list_all p (filter keep xs) ≡ true
filtered p keep [] h = refl
filtered p keep (x ∷ xs) h = let q = and_parts (p x) (list_all p xs) h in by (keep x) refl q.0 (filtered p keep xs q.1)
  where
    by : (b : Bool) → keep x ≡ b → p x ≡ true → list_all p (filter keep xs) ≡ true → list_all p (filter keep (x ∷ xs)) ≡ true
    by true e here rest = rw (e, here) rest
    by false e here rest = rw e rest

at_place : {A : Type 0} (p : A → Bool) (xs : List A) (n : ℕ) (x : A) → list_all p xs ≡ true → slice_get xs n ≡ Some x → p x ≡ true
at_place p [] n x h is = absurd cc
at_place p (y ∷ xs) zero x h is = let same : y ≡ x = cc in subst (λ z. p z ≡ true) same (and_parts (p y) (list_all p xs) h).0
at_place p (y ∷ xs) (suc n) x h is = at_place p xs n x (and_parts (p y) (list_all p xs) h).1 is

pub in_every_body : (items : List TopItem) → list_all item_cases items ≡ true → (names : Names) → CasesAreWords names items
in_every_body items h names number f is =
    let all : list_all in_body (with_bodies items) ≡ true = filtered in_body (λ f. has_body f.body) (functions items) (of_functions items h) in
    let first : List Function = filter (λ f. f.name == names.main) (with_bodies items) in
    let rest : List Function = filter (λ f. not (f.name == names.main)) (with_bodies items) in
    let one : list_all in_body first ≡ true = filtered in_body (λ f. f.name == names.main) (with_bodies items) all in
    let two : list_all in_body rest ≡ true = filtered in_body (λ f. not (f.name == names.main)) (with_bodies items) all in
    let both : list_all in_body (first ++ rest) ≡ true = list_all-append in_body first rest ∙ rw (one, two) refl in
    at_place in_body (first ++ rest) number f both is
