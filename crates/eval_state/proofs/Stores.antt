-- What a store, a new variable and the end of one leave of where the variables of a call stand.
use Rattle.std.proofs.Common.{◌≡◌, ◌≢◌, ℕ, zero, suc, ◌+◌, ◌-◌, ◌^◌, ◌<◌, ◌≤◌, ◌==◌, Bool, true, false, List, [], ◌∷◌, ◌++◌, length, reverse, Option, Some, None, if◌then◌else◌, refl, sym, ap, ◌∙◌, subst, arith, get_or, ◌⊎◌, inl, inr}
use Rattle.std.specs.Prelude.{slice_set, nat_le}
use Rattle.std.proofs.lemmas.List.{reverse-append, reverse-reverse, length-reverse, get_or-set_same, get_or-set_other, get_or_past}
use Rattle.std.proofs.lemmas.Bool.{eqb-true, eqb-false, eq-eqb, ne_eqb, leb-true, leb-false, cases_lt}
use Rattle.c_meaning.specs.declared.run.Value.{Value}
use Rattle.c_meaning.specs.Operators.{value}
use Rattle.c_meaning.specs.Run.{Entry, innermost, put_innermost, entered}
use Rattle.eval_state.specs.declared.scopes.Held.{Held}
use Rattle.eval_state.specs.declared.scopes.Cell.{Cell}
use Rattle.eval_state.specs.declared.scopes.Cell.TheVariants as cell
use Rattle.eval_state.specs.Cells.{scopes_of, newest, Hides, offset, Kept, with_word}
use Rattle.eval_state.proofs.Standing.{cell_at, with_cell, newest_within, put_entered, set_is}

-- ---- a store

length_with : (i : ℕ) (new : Cell) (cs : List Cell) → length (with_cell i new cs) ≡ length cs
length_with i new [] = refl
length_with i new (c ∷ cs) = elim (i == length cs) as (λ b. length (if b then new ∷ cs else c ∷ with_cell i new cs) ≡ suc (length cs)) [ true ↦ refl | false ↦ ap suc (length_with i new cs) ]

newest_stays : (i word q : ℕ) (h : Held) (cs : List Cell) → cell_at i cs ≡ Some (cell.Holds h) → newest q (with_cell i (cell.Holds (with_word word h)) cs) ≡ newest q cs
newest_stays i word q h [] e = refl
newest_stays i word q h (cell.Open ∷ cs) e = here (i == length cs) (λ k. newest_stays i word q h cs k) e
  where
    here : (b : Bool) → (cell_at i cs ≡ Some (cell.Holds h) → newest q (with_cell i (cell.Holds (with_word word h)) cs) ≡ newest q cs) → (if b then Some cell.Open else cell_at i cs) ≡ Some (cell.Holds h) → newest q (if b then cell.Holds (with_word word h) ∷ cs else cell.Open ∷ with_cell i (cell.Holds (with_word word h)) cs) ≡ newest q cs
    here true ih e = cc
    here false ih e = ih e
newest_stays i word q h (cell.Holds v ∷ cs) e = here (i == length cs) (λ k. newest_stays i word q h cs k) e
  where
    here : (b : Bool) → (cell_at i cs ≡ Some (cell.Holds h) → newest q (with_cell i (cell.Holds (with_word word h)) cs) ≡ newest q cs) → (if b then Some (cell.Holds v) else cell_at i cs) ≡ Some (cell.Holds h) → newest q (if b then cell.Holds (with_word word h) ∷ cs else cell.Holds v ∷ with_cell i (cell.Holds (with_word word h)) cs) ≡ (if v.name == q then suc (length cs) else newest q cs)
    here true ih e = let same : h ≡ v = cc in ap (λ (x : Held). if x.name == q then suc (length cs) else newest q cs) same
    here false ih e = rw (length_with i (cell.Holds (with_word word h)) cs, ih e) refl

hides_stay : (i word : ℕ) (h : Held) (cs : List Cell) → cell_at i cs ≡ Some (cell.Holds h) → Hides cs → Hides (with_cell i (cell.Holds (with_word word h)) cs)
hides_stay i word h [] e k = tt
hides_stay i word h (cell.Open ∷ cs) e k = here (i == length cs) (λ x. hides_stay i word h cs x) e
  where
    here : (b : Bool) → (cell_at i cs ≡ Some (cell.Holds h) → Hides cs → Hides (with_cell i (cell.Holds (with_word word h)) cs)) → (if b then Some cell.Open else cell_at i cs) ≡ Some (cell.Holds h) → Hides (if b then cell.Holds (with_word word h) ∷ cs else cell.Open ∷ with_cell i (cell.Holds (with_word word h)) cs)
    here true ih e = absurd (let wrong : cell.Open ≡ cell.Holds h = cc in cc)
    here false ih e = ih e k
hides_stay i word h (cell.Holds v ∷ cs) e k = here (i == length cs) (λ x. hides_stay i word h cs x) e
  where
    here : (b : Bool) → (cell_at i cs ≡ Some (cell.Holds h) → Hides cs → Hides (with_cell i (cell.Holds (with_word word h)) cs)) → (if b then Some (cell.Holds v) else cell_at i cs) ≡ Some (cell.Holds h) → Hides (if b then cell.Holds (with_word word h) ∷ cs else cell.Holds v ∷ with_cell i (cell.Holds (with_word word h)) cs)
    here true ih e = let same : v ≡ h = cc in (ap (λ (x : Held). x.hidden) (sym same) ∙ k.0 ∙ ap (λ (x : Held). newest x.name cs) same, k.1)
    here false ih e = (k.0 ∙ sym (newest_stays i word v.name h cs e), ih e k.1)

stored_cells : (i word p : ℕ) (h : Held) (cs : List Cell) → newest p cs ≡ suc i → cell_at i cs ≡ Some (cell.Holds h) → scopes_of (with_cell i (cell.Holds (with_word word h)) cs) ≡ put_innermost p word (scopes_of cs)
stored_cells i word p h [] n e = refl
stored_cells i word p h (cell.Open ∷ cs) n e = here (i == length cs) (λ x. stored_cells i word p h cs x) e
  where
    here : (b : Bool) → (newest p cs ≡ suc i → cell_at i cs ≡ Some (cell.Holds h) → scopes_of (with_cell i (cell.Holds (with_word word h)) cs) ≡ put_innermost p word (scopes_of cs)) → (if b then Some cell.Open else cell_at i cs) ≡ Some (cell.Holds h) → scopes_of (if b then cell.Holds (with_word word h) ∷ cs else cell.Open ∷ with_cell i (cell.Holds (with_word word h)) cs) ≡ [] ∷ put_innermost p word (scopes_of cs)
    here true ih e = absurd (let wrong : cell.Open ≡ cell.Holds h = cc in cc)
    here false ih e = ap (λ ss. [] ∷ ss) (ih n e)
stored_cells i word p h (cell.Holds v ∷ cs) n e = here (v.name == p) refl n (λ x. stored_cells i word p h cs x) ∙ sym (put_entered p v.name word v.value (scopes_of cs))
  where
    here : (b : Bool) → (v.name == p) ≡ b → (if b then suc (length cs) else newest p cs) ≡ suc i → (newest p cs ≡ suc i → cell_at i cs ≡ Some (cell.Holds h) → scopes_of (with_cell i (cell.Holds (with_word word h)) cs) ≡ put_innermost p word (scopes_of cs)) → scopes_of (if i == length cs then cell.Holds (with_word word h) ∷ cs else cell.Holds v ∷ with_cell i (cell.Holds (with_word word h)) cs) ≡ (if v.name == p then entered v.name (value word v.value.is_unsigned) (scopes_of cs) else entered v.name v.value (put_innermost p word (scopes_of cs)))
    here true y n ih =
        let top : (i == length cs) ≡ true = eq-eqb i (length cs) (omega arith) in
        let held : Some (cell.Holds v) ≡ Some (cell.Holds h) = sym (ap (λ b. if b then Some (cell.Holds v) else cell_at i cs) top) ∙ e in
        let same : h ≡ v = cc in
        rw (top, y) (ap (λ (x : Held). entered x.name (value word x.value.is_unsigned) (scopes_of cs)) same)
    here false y n ih =
        let lower : (i == length cs) ≡ false = ne_eqb i (length cs) (let w : newest p cs ≤ length cs = newest_within p cs in omega arith) in
        let held : cell_at i cs ≡ Some (cell.Holds h) = sym (ap (λ b. if b then Some (cell.Holds v) else cell_at i cs) lower) ∙ e in
        rw (lower, y) (ap (entered v.name v.value) (ih n held))

-- the cell of the newest variable of a name has another word
pub record Stored (first : ℕ) (table : List ℕ) (p word : ℕ) (cells after : List Cell) : Type 0 where
  pub kept : Kept first table after
  pub view : scopes_of (reverse after) ≡ put_innermost p word (scopes_of (reverse cells))

pub stored_keeps : (first : ℕ) (table : List ℕ) (xs : List Cell) (i word p : ℕ) (h : Held) → Kept first table xs → newest p (reverse xs) ≡ suc i → cell_at i (reverse xs) ≡ Some (cell.Holds h) → Stored first table p word xs (slice_set xs i (cell.Holds (with_word word h)))
stored_keeps first table xs i word p h k n e =
    let is = set_is i (cell.Holds (with_word word h)) xs in
    record {
      kept = record {
        finds = λ name small. k.finds name small ∙ sym (newest_stays i word name h (reverse xs) e) ∙ sym (ap (newest name) is);
        hides = subst Hides (sym is) (hides_stay i word h (reverse xs) e k.hides);
      };
      view = ap scopes_of is ∙ stored_cells i word p h (reverse xs) n e;
    }

-- ---- a new scope and a new variable

pub opened_keeps : (first : ℕ) (table : List ℕ) (xs : List Cell) → Kept first table xs → Kept first table (xs ++ cell.Open ∷ [])
opened_keeps first table xs k = record {
  finds = λ name small. k.finds name small ∙ sym (ap (newest name) (reverse-append xs (cell.Open ∷ [])));
  hides = subst Hides (sym (reverse-append xs (cell.Open ∷ []))) k.hides;
}

pub offset_differs : (first p n : ℕ) → first < 2 ^ 32 → p < 2 ^ 32 → n < 2 ^ 32 → p ≢ n → offset first p ≢ offset first n
offset_differs first p n f a b d e = here (nat_le first p) (nat_le first n) refl refl e
  where
    here : (x y : Bool) → nat_le first p ≡ x → nat_le first n ≡ y → (if x then p - first else (p + 2 ^ 32) - first) ≡ (if y then n - first else (n + 2 ^ 32) - first) → ⊥
    here true true u v e = let g : first ≤ p = leb-true first p u in let h : first ≤ n = leb-true first n v in d (omega arith)
    here true false u v e = let g : first ≤ p = leb-true first p u in let h : n < first = leb-false first n v in omega arith
    here false true u v e = let g : p < first = leb-false first p u in let h : first ≤ n = leb-true first n v in omega arith
    here false false u v e = let g : p < first = leb-false first p u in let h : n < first = leb-false first n v in d (omega arith)

pub entered_keeps : (first : ℕ) (table : List ℕ) (xs : List Cell) (h : Held) → first < 2 ^ 32 → h.name < 2 ^ 32 → offset first h.name < length table → Kept first table xs → h.hidden ≡ get_or table (offset first h.name) 0 → Kept first (slice_set table (offset first h.name) (suc (length xs))) (xs ++ cell.Holds h ∷ [])
entered_keeps first table xs h f small room k hidden = record {
  finds = λ name bound. find name bound ∙ sym (ap (newest name) (reverse-append xs (cell.Holds h ∷ [])));
  hides = subst Hides (sym (reverse-append xs (cell.Holds h ∷ []))) (hidden ∙ k.finds h.name small, k.hides);
}
  where
    find : (name : ℕ) → name < 2 ^ 32 → get_or (slice_set table (offset first h.name) (suc (length xs))) (offset first name) 0 ≡ (if h.name == name then suc (length (reverse xs)) else newest name (reverse xs))
    find name bound = here (h.name == name) refl
      where
        here : (b : Bool) → (h.name == name) ≡ b → get_or (slice_set table (offset first h.name) (suc (length xs))) (offset first name) 0 ≡ (if b then suc (length (reverse xs)) else newest name (reverse xs))
        here true y = ap (λ n. get_or (slice_set table (offset first h.name) (suc (length xs))) (offset first n) 0) (sym (eqb-true h.name name y)) ∙ get_or-set_same table (offset first h.name) (suc (length xs)) 0 room ∙ ap suc (sym (length-reverse xs))
        here false y = get_or-set_other table (offset first h.name) (offset first name) (suc (length xs)) 0 (offset_differs first name h.name f bound small (λ same. eqb-false h.name name y (sym same))) ∙ k.finds name bound

-- ---- the end of a scope and of a variable

pub reopened_keeps : (first : ℕ) (table : List ℕ) (xs : List Cell) → Kept first table (xs ++ cell.Open ∷ []) → Kept first table xs
reopened_keeps first table xs k = record {
  finds = λ name small. k.finds name small ∙ ap (newest name) (reverse-append xs (cell.Open ∷ []));
  hides = subst Hides (reverse-append xs (cell.Open ∷ [])) k.hides;
}

newest_is : (first : ℕ) (table : List ℕ) (xs : List Cell) (h : Held) → h.name < 2 ^ 32 → Kept first table (xs ++ cell.Holds h ∷ []) → get_or table (offset first h.name) 0 ≡ suc (length (reverse xs))
newest_is first table xs h small k = k.finds h.name small ∙ ap (newest h.name) (reverse-append xs (cell.Holds h ∷ [])) ∙ ap (λ b. if b then suc (length (reverse xs)) else newest h.name (reverse xs)) (eq-eqb h.name h.name refl)

pub has_room : (first : ℕ) (table : List ℕ) (xs : List Cell) (h : Held) → h.name < 2 ^ 32 → Kept first table (xs ++ cell.Holds h ∷ []) → offset first h.name < length table
has_room first table xs h small k =
    let is : get_or table (offset first h.name) 0 ≡ suc (length (reverse xs)) = newest_is first table xs h small k in
    inside (cases_lt (offset first h.name) (length table)) is
  where
    inside : (offset first h.name < length table) ⊎ (length table ≤ offset first h.name) → get_or table (offset first h.name) 0 ≡ suc (length (reverse xs)) → offset first h.name < length table
    inside (inl l) is = l
    inside (inr g) is = absurd (let z : get_or table (offset first h.name) 0 ≡ 0 = get_or_past table (offset first h.name) 0 g in omega arith)

pub left_keeps : (first : ℕ) (table : List ℕ) (xs : List Cell) (h : Held) → first < 2 ^ 32 → h.name < 2 ^ 32 → Kept first table (xs ++ cell.Holds h ∷ []) → Kept first (slice_set table (offset first h.name) h.hidden) xs
left_keeps first table xs h f small k = record {
  finds = find;
  hides = hides.1;
}
  where
    hides : Hides (cell.Holds h ∷ reverse xs)
    hides = subst Hides (reverse-append xs (cell.Holds h ∷ [])) k.hides

    find : (name : ℕ) → name < 2 ^ 32 → get_or (slice_set table (offset first h.name) h.hidden) (offset first name) 0 ≡ newest name (reverse xs)
    find name bound = here (h.name == name) refl
      where
        here : (b : Bool) → (h.name == name) ≡ b → get_or (slice_set table (offset first h.name) h.hidden) (offset first name) 0 ≡ newest name (reverse xs)
        here true y = ap (λ n. get_or (slice_set table (offset first h.name) h.hidden) (offset first n) 0) (sym (eqb-true h.name name y)) ∙ get_or-set_same table (offset first h.name) h.hidden 0 (has_room first table xs h small k) ∙ hides.0 ∙ ap (λ n. newest n (reverse xs)) (eqb-true h.name name y)
        here false y =
            get_or-set_other table (offset first h.name) (offset first name) h.hidden 0 (offset_differs first name h.name f bound small (λ same. eqb-false h.name name y (sym same))) ∙ k.finds name bound
            ∙ ap (newest name) (reverse-append xs (cell.Holds h ∷ [])) ∙ ap (λ b. if b then suc (length (reverse xs)) else newest name (reverse xs)) y
