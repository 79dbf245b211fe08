-- The sizes of external declarations, one and all.
use Rattle.std.proofs.Common.{◌≡◌, ℕ, zero, suc, ◌+◌, ◌*◌, ◌<◌, ◌≤◌, ◌==◌, Bool, true, false, cond, List, [], ◌∷◌, ◌++◌, map, sum, length, get_or, Option, Some, None, refl, ap, ◌∙◌, arith, filter}
use Rattle.std.proofs.lemmas.List.{map-append, length-append, length-map}
use Rattle.std.proofs.lemmas.List.Concat.{flat_map-append}
use Rattle.std.proofs.lemmas.List.Elements.{filter-append}
use Rattle.std.proofs.lemmas.List.Sums.{sum_by-cons}
use Rattle.c_syntax.specs.declared.tree.GlobalVar.{GlobalVar}
use Rattle.c_syntax.specs.declared.tree.Stmt.{Stmt}
use Rattle.c_syntax.specs.declared.tree.Function.{Function}
use Rattle.c_syntax.specs.declared.tree.TopItem.{TopItem}
use Rattle.c_syntax.specs.declared.tree.TopItem.TheVariants as item
use Rattle.c_syntax.specs.Graph.{functions, functions_of, has_body}
use Rattle.c_syntax.specs.Sizes.{global_nodes, function_nodes, item_nodes}
use Rattle.c_meaning.specs.Meaning.{global, globals, globals_of}
use Rattle.c_syntax.specs.Labels.{bare_clauses}
use Rattle.lower_rules.specs.Programs as programs
use Rattle.c_syntax.specs.Graph.{with_bodies}
use Rattle.lower_rules.specs.Programs.{in_number_order, shapes}
use Rattle.lower_expressions.specs.declared.table.Shape.{Shape}
use Rattle.lower_expressions.specs.Names.{shape_of}
use Rattle.lower_names.specs.Calls.{picks, chosen}

bodies-append : (xs ys : List TopItem) → with_bodies (xs ++ ys) ≡ with_bodies xs ++ with_bodies ys
bodies-append xs ys =
    ap (λ (fs : List Function). filter (λ f. has_body f.body) fs) (flat_map-append functions_of xs ys)
    ∙ filter-append (λ f. has_body f.body) (functions xs) (functions ys)

-- ---- sizes of one declaration and of all

-- one of them is at most their sum
pub one_of_sum : {A : Type 0} (size : A → ℕ) (xs : List A) (i : ℕ) (x : A) → i < length xs → x ≡ get_or xs i x → size x ≤ sum (map size xs)
one_of_sum size [] i x l e = absurd (omega arith)
one_of_sum size (y ∷ ys) zero x l e = let h : size x ≡ size y = ap size e in omega (arith, h, sum_by-cons (λ m. m) (size y) (map size ys))
one_of_sum size (y ∷ ys) (suc i) x l e = omega (arith, one_of_sum size ys i x (omega arith) e, sum_by-cons (λ m. m) (size y) (map size ys))

abbrev bare_in : TopItem → ℕ
bare_in x = sum (map bare_clauses (with_bodies (x ∷ [])))

sum-append : (ms ns : List ℕ) → sum (ms ++ ns) ≡ sum ms + sum ns
sum-append [] ns = omega arith
sum-append (m ∷ ms) ns = omega (arith, sum_by-cons (λ k. k) m (ms ++ ns), sum_by-cons (λ k. k) m ms, sum-append ms ns)

bare_all : (xs : List TopItem) → sum (map bare_clauses (with_bodies xs)) ≡ sum (map bare_in xs)
bare_all [] = refl
bare_all (x ∷ xs) =
    let split : sum (map bare_clauses (with_bodies (x ∷ xs))) ≡ bare_in x + sum (map bare_clauses (with_bodies xs)) =
    ap (λ fs. sum (map bare_clauses fs)) (bodies-append (x ∷ []) xs)
    ∙ ap sum (map-append bare_clauses (with_bodies (x ∷ [])) (with_bodies xs))
    ∙ sum-append (map bare_clauses (with_bodies (x ∷ []))) (map bare_clauses (with_bodies xs)) in
    omega (arith, split, bare_all xs, sum_by-cons (λ k. k) (bare_in x) (map bare_in xs))

pub none_bare : (xs : List TopItem) (i : ℕ) (x : TopItem) → i < length xs → x ≡ get_or xs i x → sum (map bare_clauses (with_bodies xs)) ≡ 0 → sum (map bare_clauses (with_bodies (x ∷ []))) ≡ 0
none_bare xs i x l e z = omega (arith, one_of_sum bare_in xs i x l e, bare_all xs, z)

-- ---- few functions and globals

filter_few : {A : Type 0} (p : A → Bool) (xs : List A) → length (filter p xs) ≤ length xs
filter_few p [] = omega arith
filter_few {A} p (x ∷ xs) = here (p x) (filter_few p xs)
  where
    here : (b : Bool) → length (filter p xs) ≤ length xs → length (cond b (x ∷ filter p xs) (filter p xs)) ≤ suc (length xs)
    here true ih = omega arith
    here false ih = omega arith

functions_few : (xs : List TopItem) → length (functions xs) ≤ sum (map item_nodes xs)
functions_few [] = omega arith
functions_few (x ∷ xs) = omega (arith, length-append (functions_of x) (functions xs), one x, functions_few xs, sum_by-cons (λ m. m) (item_nodes x) (map item_nodes xs))
  where
    some : (f : Function) → 1 ≤ function_nodes f.body f.params
    some f = here f.body
      where
        here : (b : Option (List Stmt)) → 1 ≤ function_nodes b f.params
        here None = omega arith
        here (Some body) = omega arith

    one : (y : TopItem) → length (functions_of y) ≤ item_nodes y
    one (item.Globals gs) = omega arith
    one (item.Function f) = omega (arith, some f)

pub order_few : (main : ℕ) (xs : List TopItem) → length (in_number_order main xs) ≤ 2 * sum (map item_nodes xs)
order_few main xs =
    omega (arith, length-append (chosen true main xs) (chosen false main xs), filter_few (λ f. picks true (f.name == main)) (with_bodies xs), filter_few (λ f. picks false (f.name == main)) (with_bodies xs), filter_few (λ f. has_body f.body) (functions xs), functions_few xs)

variables_few : (gs : List GlobalVar) → length gs ≤ sum (map global_nodes gs)
variables_few [] = omega arith
variables_few (g ∷ gs) = omega (arith, variables_few gs, sum_by-cons (λ m. m) (global_nodes g) (map global_nodes gs))

all_globals_few : (xs : List TopItem) → length (globals xs) ≤ sum (map item_nodes xs)
all_globals_few [] = omega arith
all_globals_few (x ∷ xs) = omega (arith, length-append (globals_of x) (globals xs), one x, all_globals_few xs, sum_by-cons (λ m. m) (item_nodes x) (map item_nodes xs))
  where
    one : (y : TopItem) → length (globals_of y) ≤ item_nodes y
    one (item.Globals gs) = omega (arith, length-map gs global, variables_few gs)
    one (item.Function f) = omega arith

pub globals_few : (xs : List TopItem) (gs : List Shape) → map shape_of gs ≡ shapes xs → length gs ≤ sum (map item_nodes xs)
globals_few xs gs e = omega (arith, length-map gs shape_of, ap length e, length-map (globals xs) programs.shape_of, all_globals_few xs)
