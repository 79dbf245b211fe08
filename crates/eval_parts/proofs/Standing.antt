-- Where the function of each name stands in a program.
use Rattle.std.proofs.Common.{◌≡◌, ℕ, zero, suc, ◌+◌, ◌-◌, ◌<◌, ◌≤◌, ◌==◌, ◌&&◌, Bool, true, false, List, [], ◌∷◌, ◌++◌, length, take, Some, None, if◌then◌else◌, cond, refl, sym, ap, ◌∙◌, subst, arith, get_or, add-one}
use Rattle.std.specs.List.{slice_get}
use Rattle.std.proofs.Math.Seq.{take-suc}
use Rattle.std.proofs.lemmas.Bool.{eqb-true}
use Rattle.std.proofs.lemmas.List.{length-take-le}
use Rattle.c_syntax.specs.declared.tree.TopItem.{TopItem}
use Rattle.c_syntax.specs.declared.tree.TopItem.TheVariants as item
use Rattle.c_syntax.specs.Graph.{function_named, defines}
use Rattle.eval_state.specs.Files.{first_from}
use Rattle.eval_state.proofs.Firsts.{first_push}
use Rattle.eval_parts.specs.Tables.{HasFunctions, NotesItem, function_in}

above : (test : TopItem → Bool) (k i : ℕ) (xs : List TopItem) → first_from test k xs ≡ suc i → k ≤ i
above test k i [] e = absurd (omega arith)
above test k i (x ∷ xs) e = here (test x) (λ y. above test (suc k) i xs y) e
  where
    here : (b : Bool) → (first_from test (suc k) xs ≡ suc i → suc k ≤ i) → (if b then suc k else first_from test (suc k) xs) ≡ suc i → k ≤ i
    here true ih e = omega arith
    here false ih e = let h : suc k ≤ i = ih e in omega arith

-- the function of a name stands here
pub record Found (name at : ℕ) (items : List TopItem) : Type 0 where
  pub it : TopItem
  pub got : slice_get items at ≡ Some it
  pub named : function_in it ≡ function_named name items

found : (name k at i : ℕ) (items : List TopItem) → first_from (defines name) k items ≡ suc i → k + at ≡ i → Found name at items
found name k at i [] e a = absurd (omega arith)
found name k zero i (item.Globals gs ∷ rest) e a = absurd (let h : suc k ≤ i = above (defines name) (suc k) i rest e in omega arith)
found name k zero i (item.Function f ∷ rest) e a = here (defines name (item.Function f)) refl e
  where
    here : (b : Bool) → defines name (item.Function f) ≡ b → (if b then suc k else first_from (defines name) (suc k) rest) ≡ suc i → Found name zero (item.Function f ∷ rest)
    here true y e = record { it = item.Function f; got = refl; named = sym (ap (λ b. cond b (Some f) (function_named name rest)) y) }
    here false y e = absurd (let h : suc k ≤ i = above (defines name) (suc k) i rest e in omega arith)
found name k (suc at) i (item.Globals gs ∷ rest) e a =
    let f = found name (suc k) at i rest e (omega arith) in
    record { it = f.it; got = f.got; named = f.named }
found name k (suc at) i (item.Function f ∷ rest) e a = here (defines name (item.Function f)) refl (λ x y. found name (suc k) at i rest x y) e
  where
    here : (b : Bool) → defines name (item.Function f) ≡ b → (first_from (defines name) (suc k) rest ≡ suc i → suc k + at ≡ i → Found name at rest) → (if b then suc k else first_from (defines name) (suc k) rest) ≡ suc i → Found name (suc at) (item.Function f ∷ rest)
    here true y ih e = absurd (omega arith)
    here false y ih e =
        let g = ih e (omega arith) in
        record { it = g.it; got = g.got; named = g.named ∙ sym (ap (λ b. cond b (Some f) (function_named name rest)) y) }

none : (name k : ℕ) (items : List TopItem) → first_from (defines name) k items ≡ 0 → function_named name items ≡ None
none name k [] e = refl
none name k (item.Globals gs ∷ rest) e = none name (suc k) rest e
none name k (item.Function f ∷ rest) e = here (defines name (item.Function f)) refl (λ x. none name (suc k) rest x) e
  where
    here : (b : Bool) → defines name (item.Function f) ≡ b → (first_from (defines name) (suc k) rest ≡ 0 → function_named name rest ≡ None) → (if b then suc k else first_from (defines name) (suc k) rest) ≡ 0 → function_named name (item.Function f ∷ rest) ≡ None
    here true y ih e = absurd (omega arith)
    here false y ih e = ap (λ b. cond b (Some f) (function_named name rest)) y ∙ ih e

-- ---- as the functions over tables need it

pub no_function : (name : ℕ) (table : List ℕ) (items : List TopItem) → HasFunctions table items → get_or table name 0 ≡ 0 → function_named name items ≡ None
no_function name table items has z = none name 0 items (sym (has name) ∙ z)

stands : (name at : ℕ) (table : List ℕ) (items : List TopItem) → HasFunctions table items → at ≡ get_or table name 0 → (at ≡ 0 → ⊥) → Found name (at - 1) items
stands name at table items has e z =
    let h : at ≡ first_from (defines name) 0 items = e ∙ has name in
    let first : first_from (defines name) 0 items ≡ suc (at - 1) = omega arith in
    found name 0 (at - 1) (at - 1) items first (omega arith)

pub function_at : (name at : ℕ) (table : List ℕ) (items : List TopItem) (it : TopItem) → HasFunctions table items → at ≡ get_or table name 0 → (at ≡ 0 → ⊥) → Some it ≡ slice_get items (at - 1) → function_in it ≡ function_named name items
function_at name at table items it has e z is =
    let f = stands name at table items has e z in
    let same : it ≡ f.it = cc (f.got, is) in
    ap function_in same ∙ f.named

pub some_function : (name at : ℕ) (table : List ℕ) (items : List TopItem) → HasFunctions table items → at ≡ get_or table name 0 → (at ≡ 0 → ⊥) → None ≡ slice_get items (at - 1) → ⊥
some_function name at table items has e z is =
    let f = stands name at table items has e z in
    cc (f.got, is)

-- ---- an item more

pub noted : (table after : List ℕ) (items : List TopItem) (it : TopItem) (number : ℕ) → HasFunctions table items → number ≡ length items + 1 → NotesItem it number table after → HasFunctions after (items ++ it ∷ [])
noted table after items it number has is notes name =
    notes name ∙ ap (λ n. if defines name it && n == 0 then number else n) (has name) ∙ here (defines name it) ∙ sym (first_push (defines name) 0 items it)
  where
    all : number ≡ suc (0 + length items)
    all = omega arith

    here : (b : Bool) → (if b && first_from (defines name) 0 items == 0 then number else first_from (defines name) 0 items) ≡ (if first_from (defines name) 0 items == 0 then (if b then suc (0 + length items) else 0) else first_from (defines name) 0 items)
    here true = ap (λ n. if first_from (defines name) 0 items == 0 then n else first_from (defines name) 0 items) all
    here false = zero_or (first_from (defines name) 0 items == 0) refl
      where
        zero_or : (b : Bool) → (first_from (defines name) 0 items == 0) ≡ b → first_from (defines name) 0 items ≡ (if b then 0 else first_from (defines name) 0 items)
        zero_or true z = eqb-true (first_from (defines name) 0 items) 0 z
        zero_or false z = refl

pub noted_next : (table after : List ℕ) (items : List TopItem) (i number : ℕ) (it : TopItem) → i < length items → it ≡ get_or items i it → HasFunctions table (take i items) → number ≡ i + 1 → NotesItem it number table after → HasFunctions after (take (i + 1) items)
noted_next table after items i number it below is has that notes =
    let shorter : length (take i items) ≡ i = length-take-le i items (omega arith) in
    let whole : take (i + 1) items ≡ take i items ++ it ∷ [] = rw add-one (take-suc items i it below ∙ ap (λ (x : TopItem). take i items ++ x ∷ []) (sym is)) in
    subst (HasFunctions after) (sym whole) (noted table after (take i items) it number has (omega arith) notes)
