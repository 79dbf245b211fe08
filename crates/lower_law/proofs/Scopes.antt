-- Names and the entries that they designate, through stores and new entries.
use Rattle.std.proofs.Common.{◌≡◌, ℕ, Bool, true, false, List, [], ◌∷◌, map, Option, Some, None, refl, sym, ap, ◌∙◌, if◌then◌else◌, ◌==◌}
use Rattle.std.proofs.lemmas.Bool.{eqb-true, ne_eqb, false≢true}
use Rattle.c_meaning.specs.declared.run.Value.{Value}
use Rattle.c_meaning.specs.Operators.{value}
use Rattle.c_meaning.specs.Run.{Entry, find_entry, or_else, innermost, put_entry, put_innermost, is_some_value, entered, without_first}
use Rattle.lower_rules.specs.Scoping.{in_scope, in_scopes, with_name}

abbrev pub entry_name : Entry → ℕ
entry_name e = e.name

abbrev pub scope_names : List (List Entry) → List (List ℕ)
scope_names scopes = map (map entry_name) scopes

-- ---- a name in force has an entry

found_by : (b : Bool) (x : Value) (o : Option Value) (r : Bool) → (r ≡ true → (v : Value) × (o ≡ Some v)) → (if b then true else r) ≡ true → (v : Value) × ((if b then Some x else o) ≡ Some v)
found_by true x o r f h = (x, refl)
found_by false x o r f h = f h

pub found : (n : ℕ) (es : List Entry) → in_scope n (map entry_name es) ≡ true → (v : Value) × (find_entry n es ≡ Some v)
found n [] h = absurd (false≢true h)
found n (e ∷ es) h = found_by (e.name == n) e.value (find_entry n es) (in_scope n (map entry_name es)) (found n es) h

missing_by : (b : Bool) (x : Value) (o : Option Value) (r : Bool) → (r ≡ false → o ≡ None) → (if b then true else r) ≡ false → (if b then Some x else o) ≡ None
missing_by true x o r f h = absurd (false≢true (sym h))
missing_by false x o r f h = f h

pub missing : (n : ℕ) (es : List Entry) → in_scope n (map entry_name es) ≡ false → find_entry n es ≡ None
missing n [] h = refl
missing n (e ∷ es) h = missing_by (e.name == n) e.value (find_entry n es) (in_scope n (map entry_name es)) (missing n es) h

pub innermost_found : (n : ℕ) (scopes : List (List Entry)) → in_scopes n (scope_names scopes) ≡ true → (v : Value) × (innermost n scopes ≡ Some v)
innermost_found n [] h = absurd (false≢true h)
innermost_found n (es ∷ scopes) h = by (innermost_found n scopes) (in_scope n (map entry_name es)) refl h
  where
    by : (in_scopes n (scope_names scopes) ≡ true → (v : Value) × (innermost n scopes ≡ Some v)) → (b : Bool) → in_scope n (map entry_name es) ≡ b → (if b then true else in_scopes n (scope_names scopes)) ≡ true → (v : Value) × (or_else (find_entry n es) (innermost n scopes) ≡ Some v)
    by ih true is h' = let f = found n es is in (f.0, ap (λ o. or_else o (innermost n scopes)) f.1)
    by ih false is h' = let f = ih h' in (f.0, ap (λ o. or_else o (innermost n scopes)) (missing n es is) ∙ f.1)

-- ---- stores

put_names_entry : (n w : ℕ) (es : List Entry) → map entry_name (put_entry n w es) ≡ map entry_name es
put_names_entry n w [] = refl
put_names_entry n w (e ∷ es) = by (put_names_entry n w es) (e.name == n)
  where
    by : map entry_name (put_entry n w es) ≡ map entry_name es → (b : Bool) → map entry_name (if b then record { name = e.name; value = value w e.value.is_unsigned } ∷ es else e ∷ put_entry n w es) ≡ e.name ∷ map entry_name es
    by ih true = refl
    by ih false = ap (λ ns. e.name ∷ ns) ih

pub put_names : (n w : ℕ) (scopes : List (List Entry)) → scope_names (put_innermost n w scopes) ≡ scope_names scopes
put_names n w [] = refl
put_names n w (es ∷ scopes) = by (put_names n w scopes) (is_some_value (find_entry n es))
  where
    by : scope_names (put_innermost n w scopes) ≡ scope_names scopes → (b : Bool) → scope_names (if b then put_entry n w es ∷ scopes else es ∷ put_innermost n w scopes) ≡ map entry_name es ∷ scope_names scopes
    by ih true = ap (λ ns. ns ∷ scope_names scopes) (put_names_entry n w es)
    by ih false = ap (λ ns. map entry_name es ∷ ns) ih

put_same_entry : (n w : ℕ) (v : Value) (es : List Entry) → find_entry n es ≡ Some v → find_entry n (put_entry n w es) ≡ Some (value w v.is_unsigned)
put_same_entry n w v [] h = cc
put_same_entry n w v (e ∷ es) h = by (put_same_entry n w v es) (e.name == n) refl h
  where
    by : (find_entry n es ≡ Some v → find_entry n (put_entry n w es) ≡ Some (value w v.is_unsigned)) → (b : Bool) → (e.name == n) ≡ b → (if b then Some e.value else find_entry n es) ≡ Some v → find_entry n (if b then record { name = e.name; value = value w e.value.is_unsigned } ∷ es else e ∷ put_entry n w es) ≡ Some (value w v.is_unsigned)
    by ih true is h' = let same : e.value ≡ v = cc in ap (λ (b : Bool). if b then Some (value w e.value.is_unsigned) else find_entry n es) is ∙ ap (λ (x : Value). Some (value w x.is_unsigned)) same
    by ih false is h' = ap (λ (b : Bool). if b then Some e.value else find_entry n (put_entry n w es)) is ∙ ih h'

put_other_entry : (m n w : ℕ) (es : List Entry) → (m ≡ n → ⊥) → find_entry m (put_entry n w es) ≡ find_entry m es
put_other_entry m n w [] ne = refl
put_other_entry m n w (e ∷ es) ne = by (put_other_entry m n w es ne) (e.name == n) refl
  where
    by : find_entry m (put_entry n w es) ≡ find_entry m es → (b : Bool) → (e.name == n) ≡ b → find_entry m (if b then record { name = e.name; value = value w e.value.is_unsigned } ∷ es else e ∷ put_entry n w es) ≡ (if e.name == m then Some e.value else find_entry m es)
    by ih true is =
        let other : (e.name == m) ≡ false = ne_eqb e.name m (λ same. ne (sym same ∙ eqb-true e.name n is)) in
        ap (λ (b : Bool). if b then Some (value w e.value.is_unsigned) else find_entry m es) other ∙ sym (ap (λ (b : Bool). if b then Some e.value else find_entry m es) other)
    by ih false is = ap (λ o. if e.name == m then Some e.value else o) ih

pub innermost_put_same : (n w : ℕ) (v : Value) (scopes : List (List Entry)) → innermost n scopes ≡ Some v → innermost n (put_innermost n w scopes) ≡ Some (value w v.is_unsigned)
innermost_put_same n w v [] h = cc
innermost_put_same n w v (es ∷ scopes) h = by (innermost_put_same n w v scopes) (find_entry n es) refl h
  where
    by : (innermost n scopes ≡ Some v → innermost n (put_innermost n w scopes) ≡ Some (value w v.is_unsigned)) → (o : Option Value) → find_entry n es ≡ o → or_else o (innermost n scopes) ≡ Some v → innermost n (if is_some_value o then put_entry n w es ∷ scopes else es ∷ put_innermost n w scopes) ≡ Some (value w v.is_unsigned)
    by ih (Some x) is h' = ap (λ y. or_else y (innermost n scopes)) (put_same_entry n w v es (is ∙ h'))
    by ih None is h' = ap (λ y. or_else y (innermost n (put_innermost n w scopes))) is ∙ ih h'

pub innermost_put_other : (m n w : ℕ) (scopes : List (List Entry)) → (m ≡ n → ⊥) → innermost m (put_innermost n w scopes) ≡ innermost m scopes
innermost_put_other m n w [] ne = refl
innermost_put_other m n w (es ∷ scopes) ne = by (innermost_put_other m n w scopes ne) (is_some_value (find_entry n es))
  where
    by : innermost m (put_innermost n w scopes) ≡ innermost m scopes → (b : Bool) → innermost m (if b then put_entry n w es ∷ scopes else es ∷ put_innermost n w scopes) ≡ or_else (find_entry m es) (innermost m scopes)
    by ih true = ap (λ o. or_else o (innermost m scopes)) (put_other_entry m n w es ne)
    by ih false = ap (λ o. or_else (find_entry m es) o) ih

-- ---- new entries and the end of a scope

pub entered_names : (n : ℕ) (v : Value) (scopes : List (List Entry)) → scope_names (entered n v scopes) ≡ with_name n (scope_names scopes)
entered_names n v [] = refl
entered_names n v (es ∷ scopes) = refl

pub innermost_entered : (m n : ℕ) (v : Value) (scopes : List (List Entry)) → innermost m (entered n v scopes) ≡ (if n == m then Some v else innermost m scopes)
innermost_entered m n v [] = by (n == m)
  where
    by : (b : Bool) → or_else (if b then Some v else None) None ≡ (if b then Some v else None)
    by true = refl
    by false = refl
innermost_entered m n v (es ∷ scopes) = by (n == m)
  where
    by : (b : Bool) → or_else (if b then Some v else find_entry m es) (innermost m scopes) ≡ (if b then Some v else or_else (find_entry m es) (innermost m scopes))
    by true = refl
    by false = refl

entry_there : (n : ℕ) (es : List Entry) (v : Value) → find_entry n es ≡ Some v → in_scope n (map entry_name es) ≡ true
entry_there n [] v h = cc
entry_there n (e ∷ es) v h = by (entry_there n es v) (e.name == n) h
  where
    by : (find_entry n es ≡ Some v → in_scope n (map entry_name es) ≡ true) → (b : Bool) → (if b then Some e.value else find_entry n es) ≡ Some v → (if b then true else in_scope n (map entry_name es)) ≡ true
    by ih true h' = refl
    by ih false h' = ih h'

true_if : (b c : Bool) → c ≡ true → (if b then true else c) ≡ true
true_if true c h = refl
true_if false c h = h

innermost_there : (n : ℕ) (scopes : List (List Entry)) (v : Value) → innermost n scopes ≡ Some v → in_scopes n (scope_names scopes) ≡ true
innermost_there n [] v h = cc
innermost_there n (es ∷ scopes) v h = by (innermost_there n scopes v) (find_entry n es) refl h
  where
    by : (innermost n scopes ≡ Some v → in_scopes n (scope_names scopes) ≡ true) → (o : Option Value) → find_entry n es ≡ o → or_else o (innermost n scopes) ≡ Some v → (if in_scope n (map entry_name es) then true else in_scopes n (scope_names scopes)) ≡ true
    by ih (Some x) is h' = ap (λ (b : Bool). if b then true else in_scopes n (scope_names scopes)) (entry_there n es x is)
    by ih None is h' = true_if (in_scope n (map entry_name es)) (in_scopes n (scope_names scopes)) (ih h')

-- what is found outside is found, where the names of the innermost scope are others
pub innermost_closed : (n : ℕ) (v : Value) (first : List ℕ) (rest : List (List ℕ)) (scopes : List (List Entry)) → scope_names scopes ≡ first ∷ rest → (in_scopes n rest ≡ true → in_scope n first ≡ false) → innermost n (without_first scopes) ≡ Some v → innermost n scopes ≡ Some v
innermost_closed n v first rest [] names other h = cc
innermost_closed n v first rest (es ∷ scopes) names other h =
    let e1 : map entry_name es ≡ first = cc in
    let e2 : scope_names scopes ≡ rest = cc in
    let there : in_scopes n (scope_names scopes) ≡ true = innermost_there n scopes v h in
    ap (λ o. or_else o (innermost n scopes)) (missing n es (ap (in_scope n) e1 ∙ other (ap (in_scopes n) (sym e2) ∙ there))) ∙ h
