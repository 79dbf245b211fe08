-- Where the first variable of a name stands at file scope, and what is read and changed there.
use Rattle.std.proofs.Common.{◌≡◌, ℕ, zero, suc, ◌+◌, ◌<◌, ◌≤◌, ◌==◌, ◌&&◌, Bool, true, false, List, [], ◌∷◌, ◌++◌, length, map, Option, Some, None, if◌then◌else◌, refl, sym, ap, ◌∙◌, subst, arith, get_or, option_map, ◌-◌}
use Rattle.std.specs.List.{slice_get}
use Rattle.std.specs.Prelude.{slice_set}
use Rattle.std.proofs.lemmas.Bool.{eqb-true, eqb-false, eq-eqb, ne_eqb}
use Rattle.c_meaning.specs.Run as run
use Rattle.c_meaning.specs.Run.{find_global, change_global}
use Rattle.eval_state.specs.declared.files.Object.{Object}
use Rattle.eval_state.specs.declared.files.FileVariable.{FileVariable}
use Rattle.eval_state.specs.Files.{object_of, global_of, first_from, is_named, HasFirst, Notes, changed_at, ChangesAt, with_word, with_element}
use Rattle.eval_state.specs.declared.files.Object.TheVariants as an_object

-- ---- the first element that passes a test

pub first_push : {X : Type 0} (test : X → Bool) (k : ℕ) (xs : List X) (x : X) → first_from test k (xs ++ x ∷ []) ≡ (if first_from test k xs == 0 then (if test x then suc (k + length xs) else 0) else first_from test k xs)
first_push test k [] x = elim (test x) as (λ b. (if b then suc k else 0) ≡ (if b then suc (k + 0) else 0)) [ true ↦ omega arith | false ↦ refl ]
first_push test k (y ∷ xs) x = here (test y) (first_push test (suc k) xs x)
  where
    more : suc (suc k + length xs) ≡ suc (k + suc (length xs))
    more = omega arith

    here : (b : Bool) → first_from test (suc k) (xs ++ x ∷ []) ≡ (if first_from test (suc k) xs == 0 then (if test x then suc (suc k + length xs) else 0) else first_from test (suc k) xs) → (if b then suc k else first_from test (suc k) (xs ++ x ∷ [])) ≡ (if (if b then suc k else first_from test (suc k) xs) == 0 then (if test x then suc (k + suc (length xs)) else 0) else (if b then suc k else first_from test (suc k) xs))
    here true ih = ap (λ b. if b then (if test x then suc (k + suc (length xs)) else 0) else suc k) (sym (ne_eqb (suc k) 0 (omega arith)))
    here false ih = ih ∙ ap (λ n. if first_from test (suc k) xs == 0 then (if test x then n else 0) else first_from test (suc k) xs) more

first_above : {X : Type 0} (test : X → Bool) (k i : ℕ) (xs : List X) → first_from test k xs ≡ suc i → k ≤ i
first_above test k i [] e = absurd (omega arith)
first_above test k i (x ∷ xs) e = here (test x) (λ y. first_above test (suc k) i xs y) e
  where
    here : (b : Bool) → (first_from test (suc k) xs ≡ suc i → suc k ≤ i) → (if b then suc k else first_from test (suc k) xs) ≡ suc i → k ≤ i
    here true ih e = omega arith
    here false ih e = let h : suc k ≤ i = ih e in omega arith

-- ---- variables at file scope

-- the first variable of a name stands here
pub record First (name at : ℕ) (vs : List FileVariable) : Type 0 where
  pub variable : FileVariable
  pub got : slice_get vs at ≡ Some variable
  pub value : find_global name (map global_of vs) ≡ Some (object_of variable.object)
  pub changes : (change : Object → Object) (change' : run.Object → run.Object) → ((o : Object) → object_of (change o) ≡ change' (object_of o)) → map global_of (slice_set vs at (record { name = variable.name; object = change variable.object })) ≡ change_global name change' (map global_of vs)
  pub names : (change : Object → Object) (q j : ℕ) → first_from (is_named q) j (slice_set vs at (record { name = variable.name; object = change variable.object })) ≡ first_from (is_named q) j vs

first_stands : (name k at i : ℕ) (vs : List FileVariable) → first_from (is_named name) k vs ≡ suc i → k + at ≡ i → First name at vs
first_stands name k at i [] e a = absurd (omega arith)
first_stands name k zero i (v ∷ vs) e a = here (v.name == name) refl e
  where
    here : (b : Bool) → (v.name == name) ≡ b → (if b then suc k else first_from (is_named name) (suc k) vs) ≡ suc i → First name zero (v ∷ vs)
    here true y e = record {
      variable = v;
      got = refl;
      value = ap (λ b. if b then Some (object_of v.object) else find_global name (map global_of vs)) y;
      changes = λ change change' same. rw y (ap (λ (o : run.Object). record { name = v.name; object = o } ∷ map global_of vs) (same v.object));
      names = λ change q j. refl;
    }
    here false y e = absurd (let h : suc k ≤ i = first_above (is_named name) (suc k) i vs e in omega arith)
first_stands name k (suc at) i (v ∷ vs) e a = here (v.name == name) refl (λ x y. first_stands name (suc k) at i vs x y) e
  where
    here : (b : Bool) → (v.name == name) ≡ b → (first_from (is_named name) (suc k) vs ≡ suc i → suc k + at ≡ i → First name at vs) → (if b then suc k else first_from (is_named name) (suc k) vs) ≡ suc i → First name (suc at) (v ∷ vs)
    here true y ih e = absurd (omega arith)
    here false y ih e =
        let f = ih e (omega arith) in
        record {
          variable = f.variable;
          got = f.got;
          value = ap (λ b. if b then Some (object_of v.object) else find_global name (map global_of vs)) y ∙ f.value;
          changes = λ change change' same. rw y (ap (λ gs. global_of v ∷ gs) (f.changes change change' same));
          names = λ change q j. ap (λ n. if v.name == q then suc j else n) (f.names change q (suc j));
        }

pub stands_at : (name i : ℕ) (vs : List FileVariable) → first_from (is_named name) 0 vs ≡ suc i → First name i vs
stands_at name i vs e = first_stands name 0 i i vs e (omega arith)

-- there is none
pub record NoFirst (name : ℕ) (vs : List FileVariable) : Type 0 where
  pub value : find_global name (map global_of vs) ≡ None
  pub changes : (change : run.Object → run.Object) → change_global name change (map global_of vs) ≡ map global_of vs

pub none_stands : (name k : ℕ) (vs : List FileVariable) → first_from (is_named name) k vs ≡ 0 → NoFirst name vs
none_stands name k [] e = record { value = refl; changes = λ change. refl }
none_stands name k (v ∷ vs) e = here (v.name == name) refl (λ x. none_stands name (suc k) vs x) e
  where
    here : (b : Bool) → (v.name == name) ≡ b → (first_from (is_named name) (suc k) vs ≡ 0 → NoFirst name vs) → (if b then suc k else first_from (is_named name) (suc k) vs) ≡ 0 → NoFirst name (v ∷ vs)
    here true y ih e = absurd (omega arith)
    here false y ih e =
        let n = ih e in
        record {
          value = ap (λ b. if b then Some (object_of v.object) else find_global name (map global_of vs)) y ∙ n.value;
          changes = λ change. rw y (ap (λ gs. global_of v ∷ gs) (n.changes change));
        }

-- a variable more
pub pushed : (table grown noted : List ℕ) (vs : List FileVariable) (v : FileVariable) → HasFirst table vs → ((k : ℕ) → get_or grown k 0 ≡ get_or table k 0) → Notes grown v.name (length vs + 1) noted → HasFirst noted (vs ++ v ∷ [])
pushed table grown noted vs v has same notes name =
    notes name ∙ ap (λ n. if name == v.name && n == 0 then length vs + 1 else n) (same name ∙ has name) ∙ here (v.name == name) refl ∙ sym (first_push (is_named name) 0 vs v)
  where
    all : length vs + 1 ≡ suc (0 + length vs)
    all = omega arith

    old : ℕ
    old = first_from (is_named name) 0 vs

    here : (b : Bool) → (v.name == name) ≡ b → (if name == v.name && first_from (is_named name) 0 vs == 0 then length vs + 1 else first_from (is_named name) 0 vs) ≡ (if first_from (is_named name) 0 vs == 0 then (if v.name == name then suc (0 + length vs) else 0) else first_from (is_named name) 0 vs)
    here true y = rw (y, eq-eqb name v.name (sym (eqb-true v.name name y)), all) refl
    here false y = rw (y, ne_eqb name v.name (λ e. eqb-false v.name name y (sym e))) (none (first_from (is_named name) 0 vs == 0) refl)
      where
        none : (b : Bool) → (first_from (is_named name) 0 vs == 0) ≡ b → first_from (is_named name) 0 vs ≡ (if b then 0 else first_from (is_named name) 0 vs)
        none true z = eqb-true (first_from (is_named name) 0 vs) 0 z
        none false z = refl

-- ---- as the functions over variables need it

first_is : (name at : ℕ) (table : List ℕ) (vs : List FileVariable) → HasFirst table vs → at ≡ get_or table name 0 → (at ≡ 0 → ⊥) → first_from (is_named name) 0 vs ≡ suc (at - 1)
first_is name at table vs has e z = let h : at ≡ first_from (is_named name) 0 vs = e ∙ has name in omega arith

pub no_object : (name : ℕ) (table : List ℕ) (vs : List FileVariable) (view : List run.Global) → HasFirst table vs → map global_of vs ≡ view → get_or table name 0 ≡ 0 → find_global name view ≡ None
no_object name table vs view has is z = ap (find_global name) (sym is) ∙ (none_stands name 0 vs (sym (has name) ∙ z)).value

pub object_found : (name at : ℕ) (table : List ℕ) (vs : List FileVariable) (view : List run.Global) → HasFirst table vs → map global_of vs ≡ view → at ≡ get_or table name 0 → (at ≡ 0 → ⊥) → option_map (λ (v : FileVariable). object_of v.object) (slice_get vs (at - 1)) ≡ find_global name view
object_found name at table vs view has is e z =
    let f = stands_at name (at - 1) vs (first_is name at table vs has e z) in
    ap (option_map (λ (v : FileVariable). object_of v.object)) f.got ∙ sym f.value ∙ ap (find_global name) is

pub record Put (name : ℕ) (change : run.Object → run.Object) (table : List ℕ) (view : List run.Global) (after : List FileVariable) : Type 0 where
  pub first : HasFirst table after
  pub view_is : map global_of after ≡ change_global name change view

pub put_first : (name at : ℕ) (change : Object → Object) (change' : run.Object → run.Object) (table : List ℕ) (vs after : List FileVariable) (view : List run.Global) → ((o : Object) → object_of (change o) ≡ change' (object_of o)) → HasFirst table vs → map global_of vs ≡ view → at ≡ get_or table name 0 → (at ≡ 0 → ⊥) → ChangesAt change (at - 1) vs after → Put name change' table view after
put_first name at change change' table vs after view same has is e z changes =
    let f = stands_at name (at - 1) vs (first_is name at table vs has e z) in
    let new : after ≡ slice_set vs (at - 1) (record { name = f.variable.name; object = change f.variable.object }) = changes ∙ ap (λ o. changed_at change (at - 1) o vs) f.got in
    record {
      first = λ q. has q ∙ sym (f.names change q 0) ∙ ap (first_from (is_named q) 0) (sym new);
      view_is = ap (map global_of) new ∙ f.changes change change' same ∙ ap (change_global name change') is;
    }

pub put_no_first : (name : ℕ) (change : run.Object → run.Object) (table : List ℕ) (vs : List FileVariable) (view : List run.Global) → HasFirst table vs → map global_of vs ≡ view → get_or table name 0 ≡ 0 → view ≡ change_global name change view
put_no_first name change table vs view has is z = sym is ∙ sym ((none_stands name 0 vs (sym (has name) ∙ z)).changes change) ∙ ap (change_global name change) is

pub word_same : (word : ℕ) (o : Object) → object_of (with_word word o) ≡ run.put_scalar word (object_of o)
word_same word (an_object.Scalar v) = refl
word_same word (an_object.Array is_unsigned words) = refl

pub element_same : (index word : ℕ) (o : Object) → object_of (with_element index word o) ≡ run.put_element index word (object_of o)
element_same index word (an_object.Scalar v) = refl
element_same index word (an_object.Array is_unsigned words) = refl
