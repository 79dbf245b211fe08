-- What is found, stored and left out, as the functions over cells need it.
use Rattle.std.proofs.Common.{◌≡◌, ◌≢◌, ℕ, zero, suc, ◌+◌, ◌-◌, ◌^◌, ◌<◌, ◌≤◌, Bool, true, false, List, [], ◌∷◌, ◌++◌, length, reverse, Option, Some, None, option_map, refl, sym, ap, ◌∙◌, subst, arith, get_or, zero-add}
use Rattle.std.specs.List.{slice_get}
use Rattle.std.specs.Prelude.{slice_set}
use Rattle.std.proofs.lemmas.List.{reverse-append, length_push}
use Rattle.c_meaning.specs.declared.run.Value.{Value}
use Rattle.c_meaning.specs.Run.{Entry, innermost, put_innermost, is_some_value, without_first, entered, or_else, find_entry}
use Rattle.eval_state.specs.declared.scopes.Held.{Held}
use Rattle.eval_state.specs.declared.scopes.Cell.{Cell}
use Rattle.eval_state.specs.declared.scopes.Cell.TheVariants as cell
use Rattle.eval_state.specs.Cells.{scopes_of, newest, Hides, offset, Kept, held_of, with_stored, StoresAt, Leaves}
use Rattle.eval_state.proofs.Standing.{cell_at, none_there, Stands, stands, get_is, without_entered}
use Rattle.eval_state.proofs.Stores.{Stored, stored_keeps, left_keeps, reopened_keeps, entered_keeps}

pub not_there : (first name : ℕ) (table : List ℕ) (cells : List Cell) (view : List (List Entry)) → Kept first table cells → name < 2 ^ 32 → scopes_of (reverse cells) ≡ view → get_or table (offset first name) 0 ≡ 0 → innermost name view ≡ None
not_there first name table cells view k small is z = ap (innermost name) (sym is) ∙ none_there name (reverse cells) (sym (k.finds name small) ∙ z)

there : (first at name : ℕ) (table : List ℕ) (cells : List Cell) → Kept first table cells → name < 2 ^ 32 → at ≡ get_or table (offset first name) 0 → (at ≡ 0 → ⊥) → newest name (reverse cells) ≡ suc (at - 1)
there first at name table cells k small e z = let h : at ≡ newest name (reverse cells) = e ∙ k.finds name small in omega arith

pub looked_up : (first at name : ℕ) (table : List ℕ) (cells : List Cell) (view : List (List Entry)) → Kept first table cells → name < 2 ^ 32 → scopes_of (reverse cells) ≡ view → at ≡ get_or table (offset first name) 0 → (at ≡ 0 → ⊥) → option_map (λ (h : Held). h.value) (held_of (slice_get cells (at - 1))) ≡ innermost name view
looked_up first at name table cells view k small is e z =
    let s = stands name (at - 1) (reverse cells) (there first at name table cells k small e z) in
    ap (λ o. option_map (λ (h : Held). h.value) (held_of o)) (get_is (at - 1) cells ∙ s.is) ∙ sym s.value_is ∙ ap (innermost name) is

-- ---- a store

pub put_nothing : (name word : ℕ) (ss : List (List Entry)) → innermost name ss ≡ None → put_innermost name word ss ≡ ss
put_nothing name word [] e = refl
put_nothing name word (s ∷ ss) e = here (find_entry name s) refl (λ x. put_nothing name word ss x) e
  where
    here : (o : Option Value) → find_entry name s ≡ o → (innermost name ss ≡ None → put_innermost name word ss ≡ ss) → or_else o (innermost name ss) ≡ None → put_innermost name word (s ∷ ss) ≡ s ∷ ss
    here (Some v) y ih e = cc
    here None y ih e = rw y (ap (λ r. s ∷ r) (ih e))

pub put_none : (first name word : ℕ) (table : List ℕ) (cells : List Cell) (view : List (List Entry)) → Kept first table cells → name < 2 ^ 32 → scopes_of (reverse cells) ≡ view → get_or table (offset first name) 0 ≡ 0 → view ≡ put_innermost name word view
put_none first name word table cells view k small is z = sym (put_nothing name word view (not_there first name table cells view k small is z))

pub put_there : (first at name word : ℕ) (table : List ℕ) (cells after : List Cell) → Kept first table cells → name < 2 ^ 32 → at ≡ get_or table (offset first name) 0 → (at ≡ 0 → ⊥) → StoresAt (at - 1) word cells after → Stored first table name word cells after
put_there first at name word table cells after k small e z stores =
    let n = there first at name table cells k small e z in
    let s = stands name (at - 1) (reverse cells) n in
    subst (Stored first table name word cells)
    (sym (stores ∙ ap (λ o. with_stored (held_of o) (at - 1) word cells) (get_is (at - 1) cells ∙ s.is)))
    (stored_keeps first table cells (at - 1) word name s.held k n s.is)

pub is_there : (first at name : ℕ) (table : List ℕ) (cells : List Cell) (view : List (List Entry)) → Kept first table cells → name < 2 ^ 32 → scopes_of (reverse cells) ≡ view → at ≡ get_or table (offset first name) 0 → (at ≡ 0 → ⊥) → is_some_value (innermost name view) ≡ true
is_there first at name table cells view k small is e z =
    let s = stands name (at - 1) (reverse cells) (there first at name table cells k small e z) in
    ap is_some_value (ap (innermost name) (sym is) ∙ s.value_is)

-- ---- a table that begins anew

pub rebased : (first other : ℕ) (table : List ℕ) (cells : List Cell) → table ≡ [] → Kept first table cells → Kept other table cells
rebased first other table cells none k = record {
  finds = λ name small. ap (λ t. get_or t (offset other name) 0) none ∙ sym (ap (λ t. get_or t (offset first name) 0) none) ∙ k.finds name small;
  hides = k.hides;
}

-- ---- a table that has grown

pub grown : (first : ℕ) (table more : List ℕ) (cells : List Cell) → ((k : ℕ) → get_or more k 0 ≡ get_or table k 0) → Kept first table cells → Kept first more cells
grown first table more cells same k = record {
  finds = λ name small. same (offset first name) ∙ k.finds name small;
  hides = k.hides;
}

-- ---- a new variable

pub entered_view : (cells : List Cell) (h : Held) → scopes_of (reverse (cells ++ cell.Holds h ∷ [])) ≡ entered h.name h.value (scopes_of (reverse cells))
entered_view cells h = ap scopes_of (reverse-append cells (cell.Holds h ∷ []))

-- ---- the newest cell left out

pub leaves_variable : (cells after : List Cell) (h : Held) → cells ≡ after ++ cell.Holds h ∷ [] → Leaves true cells after
leaves_variable cells after h e = (
  ap (λ cs. without_first (scopes_of (reverse cs))) e ∙ ap (λ cs. without_first (scopes_of cs)) (reverse-append after (cell.Holds h ∷ [])) ∙ without_entered h.name h.value (scopes_of (reverse after)),
  let l : length cells ≡ length after + 1 = ap length e ∙ length_push after (cell.Holds h) in omega arith,
)

pub leaves_open : (cells after : List Cell) → cells ≡ after ++ cell.Open ∷ [] → Leaves false cells after
leaves_open cells after e = ap (λ cs. without_first (scopes_of (reverse cs))) e ∙ ap (λ cs. without_first (scopes_of cs)) (reverse-append after (cell.Open ∷ []))
