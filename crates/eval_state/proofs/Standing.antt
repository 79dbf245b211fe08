-- Where the newest variable of a name stands in a call's cells, and what it means for the scopes.
use Rattle.std.proofs.Common.{◌≡◌, ℕ, zero, suc, ◌+◌, ◌-◌, ◌^◌, ◌<◌, ◌≤◌, ◌==◌, Bool, true, false, List, [], ◌∷◌, ◌++◌, length, reverse, Option, Some, None, if◌then◌else◌, refl, sym, ap, ◌∙◌, subst, arith}
use Rattle.std.specs.List.{slice_get}
use Rattle.std.specs.Prelude.{slice_set}
use Rattle.std.proofs.lemmas.List.{reverse-append, reverse-reverse, length-reverse}
use Rattle.std.proofs.lemmas.Bool.{eqb-true, eqb-false, eq-eqb, ne_eqb}
use Rattle.c_meaning.specs.declared.run.Value.{Value}
use Rattle.c_meaning.specs.Operators.{value}
use Rattle.c_meaning.specs.Run.{Entry, innermost, put_innermost, entered, find_entry, put_entry, is_some_value, without_first, or_else}
use Rattle.eval_state.specs.declared.scopes.Held.{Held}
use Rattle.eval_state.specs.declared.scopes.Cell.{Cell}
use Rattle.eval_state.specs.declared.scopes.Cell.TheVariants as cell
use Rattle.eval_state.specs.Cells.{scopes_of, newest, Hides, offset, Kept}

-- ---- the newest entry

abbrev entry : ℕ → Value → Entry
entry n v = record { name = n; value = v }

pub innermost_entered : (p n : ℕ) (v : Value) (ss : List (List Entry)) → innermost p (entered n v ss) ≡ (if n == p then Some v else innermost p ss)
innermost_entered p n v [] = elim (n == p) as (λ b. or_else (if b then Some v else None) None ≡ (if b then Some v else None)) [ true ↦ refl | false ↦ refl ]
innermost_entered p n v (s ∷ ss) = elim (n == p) as (λ b. or_else (if b then Some v else find_entry p s) (innermost p ss) ≡ (if b then Some v else or_else (find_entry p s) (innermost p ss))) [ true ↦ refl | false ↦ refl ]

pub put_entered : (p n word : ℕ) (v : Value) (ss : List (List Entry)) → put_innermost p word (entered n v ss) ≡ (if n == p then entered n (value word v.is_unsigned) ss else entered n v (put_innermost p word ss))
put_entered p n word v [] =
    elim (n == p) as (λ b. (if is_some_value (if b then Some v else None) then (if b then entry n (value word v.is_unsigned) ∷ [] else entry n v ∷ []) ∷ [] else (entry n v ∷ []) ∷ []) ≡ (if b then entered n (value word v.is_unsigned) [] else entered n v []))
    [ true ↦ refl | false ↦ refl ]
put_entered p n word v (s ∷ ss) =
    elim (n == p) as (λ b. (if is_some_value (if b then Some v else find_entry p s) then (if b then entry n (value word v.is_unsigned) ∷ s else entry n v ∷ put_entry p word s) ∷ ss else (entry n v ∷ s) ∷ put_innermost p word ss) ≡ (if b then entered n (value word v.is_unsigned) (s ∷ ss) else entered n v (put_innermost p word (s ∷ ss))))
    [ true ↦ refl | false ↦ in_scope (find_entry p s) ]
  where
    in_scope : (o : Option Value) → (if is_some_value o then (entry n v ∷ put_entry p word s) ∷ ss else (entry n v ∷ s) ∷ put_innermost p word ss) ≡ entered n v (if is_some_value o then put_entry p word s ∷ ss else s ∷ put_innermost p word ss)
    in_scope (Some x) = refl
    in_scope None = refl

pub without_entered : (n : ℕ) (v : Value) (ss : List (List Entry)) → without_first (entered n v ss) ≡ without_first ss
without_entered n v [] = refl
without_entered n v (s ∷ ss) = refl

-- ---- cells by their number, counted from the oldest

-- the cell below which there are so many
abbrev pub cell_at : ℕ → List Cell → Option Cell
cell_at i [] = None
cell_at i (c ∷ cs) = if i == length cs then Some c else cell_at i cs

-- it is replaced
abbrev pub with_cell : ℕ → Cell → List Cell → List Cell
with_cell i new [] = []
with_cell i new (c ∷ cs) = if i == length cs then new ∷ cs else c ∷ with_cell i new cs

suc_test : (i n : ℕ) → (suc i == suc n) ≡ (i == n)
suc_test i n = here (i == n) refl
  where
    here : (b : Bool) → (i == n) ≡ b → (suc i == suc n) ≡ b
    here true y = eq-eqb (suc i) (suc n) (ap suc (eqb-true i n y))
    here false y = ne_eqb (suc i) (suc n) (λ e. eqb-false i n y (omega arith))

get_last : (xs : List Cell) (c : Cell) (i : ℕ) → slice_get (xs ++ c ∷ []) i ≡ (if i == length xs then Some c else slice_get xs i)
get_last [] c zero = refl
get_last [] c (suc i) = sym (ap (λ b. if b then Some c else None) (ne_eqb (suc i) 0 (omega arith)))
get_last (x ∷ xs) c zero = sym (ap (λ b. if b then Some c else Some x) (ne_eqb 0 (suc (length xs)) (omega arith)))
get_last (x ∷ xs) c (suc i) = get_last xs c i ∙ ap (λ b. if b then Some c else slice_get xs i) (sym (suc_test i (length xs)))

set_last : (xs : List Cell) (c new : Cell) (i : ℕ) → slice_set (xs ++ c ∷ []) i new ≡ (if i == length xs then xs ++ new ∷ [] else slice_set xs i new ++ c ∷ [])
set_last [] c new zero = refl
set_last [] c new (suc i) = sym (ap (λ b. if b then new ∷ [] else c ∷ []) (ne_eqb (suc i) 0 (omega arith)))
set_last (x ∷ xs) c new zero = sym (ap (λ b. if b then (x ∷ xs) ++ new ∷ [] else new ∷ xs ++ c ∷ []) (ne_eqb 0 (suc (length xs)) (omega arith)))
set_last (x ∷ xs) c new (suc i) =
    ap (λ ys. x ∷ ys) (set_last xs c new i)
    ∙ elim (i == length xs) as (λ b. x ∷ (if b then xs ++ new ∷ [] else slice_set xs i new ++ c ∷ []) ≡ (if b then (x ∷ xs) ++ new ∷ [] else (x ∷ slice_set xs i new) ++ c ∷ [])) [ true ↦ refl | false ↦ refl ]
    ∙ ap (λ b. if b then (x ∷ xs) ++ new ∷ [] else (x ∷ slice_set xs i new) ++ c ∷ []) (sym (suc_test i (length xs)))

get_reversed : (i : ℕ) (cs : List Cell) → slice_get (reverse cs) i ≡ cell_at i cs
get_reversed i [] = refl
get_reversed i (c ∷ cs) =
    ap (λ l. slice_get l i) (reverse-append (c ∷ []) cs) ∙ get_last (reverse cs) c i ∙ ap (λ n. if i == n then Some c else slice_get (reverse cs) i) (length-reverse cs) ∙ ap (λ o. if i == length cs then Some c else o) (get_reversed i cs)

pub get_is : (i : ℕ) (xs : List Cell) → slice_get xs i ≡ cell_at i (reverse xs)
get_is i xs = ap (λ l. slice_get l i) (sym (reverse-reverse xs)) ∙ get_reversed i (reverse xs)

set_reversed : (i : ℕ) (new : Cell) (cs : List Cell) → slice_set (reverse cs) i new ≡ reverse (with_cell i new cs)
set_reversed i new [] = refl
set_reversed i new (c ∷ cs) =
    ap (λ l. slice_set l i new) (reverse-append (c ∷ []) cs) ∙ set_last (reverse cs) c new i ∙ ap (λ n. if i == n then reverse cs ++ new ∷ [] else slice_set (reverse cs) i new ++ c ∷ []) (length-reverse cs) ∙ chosen (i == length cs) (set_reversed i new cs)
  where
    chosen : (b : Bool) → slice_set (reverse cs) i new ≡ reverse (with_cell i new cs) → (if b then reverse cs ++ new ∷ [] else slice_set (reverse cs) i new ++ c ∷ []) ≡ reverse (if b then new ∷ cs else c ∷ with_cell i new cs)
    chosen true ih = sym (reverse-append (new ∷ []) cs)
    chosen false ih = ap (λ l. l ++ c ∷ []) ih ∙ sym (reverse-append (c ∷ []) (with_cell i new cs))

pub set_is : (i : ℕ) (new : Cell) (xs : List Cell) → reverse (slice_set xs i new) ≡ with_cell i new (reverse xs)
set_is i new xs = ap (λ l. reverse (slice_set l i new)) (sym (reverse-reverse xs)) ∙ ap reverse (set_reversed i new (reverse xs)) ∙ reverse-reverse (with_cell i new (reverse xs))

-- ---- the newest variable of a name

pub newest_within : (p : ℕ) (cs : List Cell) → newest p cs ≤ length cs
newest_within p [] = omega arith
newest_within p (cell.Open ∷ cs) = let h : newest p cs ≤ length cs = newest_within p cs in omega arith
newest_within p (cell.Holds v ∷ cs) =
    let h : newest p cs ≤ length cs = newest_within p cs in
    elim (v.name == p) as (λ b. (if b then suc (length cs) else newest p cs) ≤ suc (length cs)) [ true ↦ omega arith | false ↦ omega arith ]

pub none_there : (p : ℕ) (cs : List Cell) → newest p cs ≡ 0 → innermost p (scopes_of cs) ≡ None
none_there p [] z = refl
none_there p (cell.Open ∷ cs) z = none_there p cs z
none_there p (cell.Holds v ∷ cs) z = innermost_entered p v.name v.value (scopes_of cs) ∙ here (v.name == p) z (λ k. none_there p cs k)
  where
    here : (b : Bool) → (if b then suc (length cs) else newest p cs) ≡ 0 → (newest p cs ≡ 0 → innermost p (scopes_of cs) ≡ None) → (if b then Some v.value else innermost p (scopes_of cs)) ≡ None
    here true z ih = absurd (omega arith)
    here false z ih = ih z

-- where it stands there is a variable of that name, and its value is the one that is in force
pub record Stands (p i : ℕ) (cs : List Cell) : Type 0 where
  pub held : Held
  pub is : cell_at i cs ≡ Some (cell.Holds held)
  pub name_is : held.name ≡ p
  pub value_is : innermost p (scopes_of cs) ≡ Some held.value

pub stands : (p i : ℕ) (cs : List Cell) → newest p cs ≡ suc i → Stands p i cs
stands p i [] e = absurd (omega arith)
stands p i (cell.Open ∷ cs) e =
    let s = stands p i cs e in
    let apart : (i == length cs) ≡ false = ne_eqb i (length cs) (let w : newest p cs ≤ length cs = newest_within p cs in omega arith) in
    record { held = s.held; is = ap (λ b. if b then Some cell.Open else cell_at i cs) apart ∙ s.is; name_is = s.name_is; value_is = s.value_is }
stands p i (cell.Holds v ∷ cs) e = here (v.name == p) refl (λ k. stands p i cs k)
  where
    here : (b : Bool) → (v.name == p) ≡ b → (newest p cs ≡ suc i → Stands p i cs) → Stands p i (cell.Holds v ∷ cs)
    here true y ih =
        let at : suc (length cs) ≡ suc i = sym (ap (λ b. if b then suc (length cs) else newest p cs) y) ∙ e in
        let same : (i == length cs) ≡ true = eq-eqb i (length cs) (omega arith) in
        record {
          held = v;
          is = ap (λ b. if b then Some (cell.Holds v) else cell_at i cs) same;
          name_is = eqb-true v.name p y;
          value_is = innermost_entered p v.name v.value (scopes_of cs) ∙ ap (λ b. if b then Some v.value else innermost p (scopes_of cs)) y;
        }
    here false y ih =
        let below : newest p cs ≡ suc i = sym (ap (λ b. if b then suc (length cs) else newest p cs) y) ∙ e in
        let s = ih below in
        let apart : (i == length cs) ≡ false = ne_eqb i (length cs) (let w : newest p cs ≤ length cs = newest_within p cs in omega arith) in
        record {
          held = s.held;
          is = ap (λ b. if b then Some (cell.Holds v) else cell_at i cs) apart ∙ s.is;
          name_is = s.name_is;
          value_is = innermost_entered p v.name v.value (scopes_of cs) ∙ ap (λ b. if b then Some v.value else innermost p (scopes_of cs)) y ∙ s.value_is;
        }
