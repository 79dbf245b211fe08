-- The scopes of two runs side by side: the same entries under names and under positions.
use Rattle.std.proofs.Common.{◌≡◌, ℕ, Bool, true, false, List, [], ◌∷◌, map, Option, Some, None, refl, sym, ap, ◌∙◌, ◌==◌}
use Rattle.std.proofs.lemmas.Bool.{eq-eqb, ne_eqb}
use Rattle.c_meaning.specs.declared.run.Value.{Value}
use Rattle.c_meaning.specs.Operators.{value}
use Rattle.c_meaning.specs.Run.{Entry, find_entry, innermost, put_entry, put_innermost}
use Rattle.check_rules.specs.declared.names.Known.{Known}
use Rattle.check_rules.specs.declared.names.Binding.{Binding}
use Rattle.check_rules.specs.Scopes.{Scope, lookup, innermost_known}
use Rattle.check_law.proofs.Positions.{onto, stacked, NotIn, Distinct, not_in_rest, distinct_rest, not_found, not_found_in}

-- a variable of a block: its name, its declaration, its value
pub record Cell : Type 0 where
  pub name : ℕ
  pub known : Known
  pub value : Value

abbrev pub binding_of : Cell → Binding
binding_of c = record { name = c.name; known = c.known }

abbrev pub named : Cell → Entry
named c = record { name = c.name; value = c.value }

abbrev pub placed : Cell → Entry
placed c = record { name = c.known.position; value = c.value }

-- ---- one scope

-- a word stored under a name, and under its position
pub record PutBoth (n : ℕ) (d : Known) (word : ℕ) (cs : List Cell) : Type 0 where
  pub cells : List Cell
  pub same : map binding_of cells ≡ map binding_of cs
  pub left : put_entry n word (map named cs) ≡ map named cells
  pub right : put_entry d.position word (map placed cs) ≡ map placed cells

pub record InBoth (n : ℕ) (d : Known) (cs : List Cell) : Type 0 where
  pub value : Value
  pub left : find_entry n (map named cs) ≡ Some value
  pub right : find_entry d.position (map placed cs) ≡ Some value
  pub put : (word : ℕ) → PutBoth n d word cs

abbrev stored_cell : ℕ → Cell → Cell
stored_cell word c = record { name = c.name; known = c.known; value = value word c.value.is_unsigned }

in_both : (n : ℕ) (d : Known) (cs : List Cell) (ps : List ℕ) → Distinct (onto (map binding_of cs) ps) → lookup n (map binding_of cs) ≡ Some d → InBoth n d cs
in_both n d [] ps x is = absurd cc
in_both n d (c ∷ cs) ps x is = at (c.name == n) refl (λ h. in_both n d cs ps x.1 h)
  where
    at : (b : Bool) → (c.name == n) ≡ b → (lookup n (map binding_of cs) ≡ Some d → InBoth n d cs) → InBoth n d (c ∷ cs)
    at true same go =
        let h = rw same at is in
        let e : c.known ≡ d = cc in
        let f : (c.known.position == d.position) ≡ true = eq-eqb c.known.position d.position (ap (λ k. k.position) e) in
        record {
          value = c.value;
          left = rw same refl;
          right = rw f refl;
          put = λ word. record { cells = stored_cell word c ∷ cs; same = refl; left = rw same refl; right = rw f refl };
        }
    at false other go =
        let h = rw other at is in
        let t = go h in
        let f : (c.known.position == d.position) ≡ false = ne_eqb c.known.position d.position (not_found c.known.position (map binding_of cs) ps n d x.0 h) in
        record {
          value = t.value;
          left = rw other t.left;
          right = rw f t.right;
          put = λ word. record { cells = c ∷ (t.put word).cells; same = ap (λ l. binding_of c ∷ l) (t.put word).same; left = rw other (ap (λ l. named c ∷ l) (t.put word).left); right = rw f (ap (λ l. placed c ∷ l) (t.put word).right) };
        }

not_named : (n : ℕ) (cs : List Cell) → lookup n (map binding_of cs) ≡ None → find_entry n (map named cs) ≡ None
not_named n [] is = refl
not_named n (c ∷ cs) is = at (c.name == n) refl (λ h. not_named n cs h)
  where
    at : (b : Bool) → (c.name == n) ≡ b → (lookup n (map binding_of cs) ≡ None → find_entry n (map named cs) ≡ None) → find_entry n (map named (c ∷ cs)) ≡ None
    at true same go = let h = rw same at is in absurd cc
    at false other go = let h = rw other at is in rw other (go h)

not_placed : (p : ℕ) (cs : List Cell) (ps : List ℕ) → NotIn p (onto (map binding_of cs) ps) → find_entry p (map placed cs) ≡ None
not_placed p [] ps x = refl
not_placed p (c ∷ cs) ps x = let f : (c.known.position == p) ≡ false = ne_eqb c.known.position p (λ e. x.0 (sym e)) in rw f (not_placed p cs ps x.1)

-- ---- scopes

abbrev pub static : List (List Cell) → List Scope
static = map (map binding_of)

abbrev pub by_name : List (List Cell) → List (List Entry)
by_name = map (map named)

abbrev pub by_position : List (List Cell) → List (List Entry)
by_position = map (map placed)

pub record PutAll (n : ℕ) (d : Known) (word : ℕ) (css : List (List Cell)) : Type 0 where
  pub cells : List (List Cell)
  pub same : static cells ≡ static css
  pub left : put_innermost n word (by_name css) ≡ by_name cells
  pub right : put_innermost d.position word (by_position css) ≡ by_position cells

pub record InAll (n : ℕ) (d : Known) (css : List (List Cell)) : Type 0 where
  pub value : Value
  pub left : innermost n (by_name css) ≡ Some value
  pub right : innermost d.position (by_position css) ≡ Some value
  pub put : (word : ℕ) → PutAll n d word css

-- a position found behind a scope isn't in it
not_before : (cs : List Cell) (ss : List Scope) (ps : List ℕ) (n : ℕ) (d : Known) → Distinct (onto (map binding_of cs) (stacked ss ps)) → innermost_known n ss ≡ Some d → find_entry d.position (map placed cs) ≡ None
not_before [] ss ps n d x is = refl
not_before (c ∷ cs) ss ps n d x is =
    let f : (c.known.position == d.position) ≡ false = ne_eqb c.known.position d.position (not_found_in c.known.position ss ps n d (not_in_rest c.known.position (map binding_of cs) (stacked ss ps) x.0) is) in
    rw f (not_before cs ss ps n d x.1 is)

pub in_all : (n : ℕ) (d : Known) (css : List (List Cell)) (ps : List ℕ) → Distinct (stacked (static css) ps) → innermost_known n (static css) ≡ Some d → InAll n d css
in_all n d [] ps x is = absurd cc
in_all n d (cs ∷ css) ps x is = at (lookup n (map binding_of cs)) refl (λ h. in_all n d css ps (distinct_rest (map binding_of cs) (stacked (static css) ps) x) h)
  where
    at : (o : Option Known) → lookup n (map binding_of cs) ≡ o → (innermost_known n (static css) ≡ Some d → InAll n d css) → InAll n d (cs ∷ css)
    at (Some k) found go =
        let h = rw found at is in
        let t = in_both n d cs (stacked (static css) ps) x (found ∙ h) in
        record {
          value = t.value;
          left = rw t.left refl;
          right = rw t.right refl;
          put = λ word. record { cells = (t.put word).cells ∷ css; same = ap (λ l. l ∷ static css) (t.put word).same; left = rw t.left (ap (λ l. l ∷ by_name css) (t.put word).left); right = rw t.right (ap (λ l. l ∷ by_position css) (t.put word).right) };
        }
    at None found go =
        let h = rw found at is in
        let t = go h in
        let l = not_named n cs found in
        let r = not_before cs (static css) ps n d x h in
        record {
          value = t.value;
          left = rw l t.left;
          right = rw r t.right;
          put = λ word. record { cells = cs ∷ (t.put word).cells; same = ap (λ l. map binding_of cs ∷ l) (t.put word).same; left = rw l (ap (λ l. map named cs ∷ l) (t.put word).left); right = rw r (ap (λ l. map placed cs ∷ l) (t.put word).right) };
        }

pub not_in_scopes : (n : ℕ) (css : List (List Cell)) → innermost_known n (static css) ≡ None → innermost n (by_name css) ≡ None
not_in_scopes n [] is = refl
not_in_scopes n (cs ∷ css) is = at (lookup n (map binding_of cs)) refl (λ h. not_in_scopes n css h)
  where
    at : (o : Option Known) → lookup n (map binding_of cs) ≡ o → (innermost_known n (static css) ≡ None → innermost n (by_name css) ≡ None) → innermost n (by_name (cs ∷ css)) ≡ None
    at (Some k) found go = let h = rw found at is in absurd cc
    at None found go = let h = rw found at is in let l = not_named n cs found in rw l (go h)

pub not_in_positions : (p : ℕ) (css : List (List Cell)) (ps : List ℕ) → NotIn p (stacked (static css) ps) → innermost p (by_position css) ≡ None
not_in_positions p [] ps x = refl
not_in_positions p (cs ∷ css) ps x = let r = not_placed p cs (stacked (static css) ps) x in rw r (not_in_positions p css ps (not_in_rest p (map binding_of cs) (stacked (static css) ps) x))
