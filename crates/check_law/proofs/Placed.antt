-- Scopes in which each name is the position of its declaration.
use Rattle.std.proofs.Common.{◌≡◌, ℕ, ◌+◌, Bool, true, false, List, [], ◌∷◌, ◌++◌, map, length, Option, Some, None, refl, sym, ap, ◌∙◌, subst, ◌==◌, arith, length-append}
use Rattle.std.proofs.lemmas.Bool.{eq-eqb, ne_eqb}
use Rattle.c_meaning.specs.Run.{without_first}
use Rattle.check_rules.specs.declared.decl.Decl.{Decl}
use Rattle.check_rules.specs.declared.names.Kind.{Kind}
use Rattle.check_rules.specs.declared.names.Known.{Known}
use Rattle.check_rules.specs.declared.names.Binding.{Binding}
use Rattle.check_rules.specs.Scopes.{Scope, lookup, innermost_known, Walking, in_force, binding, enter_file, enter_block, entered, is_new, opened, closed}
use Rattle.check_law.proofs.Positions.{onto, stacked, NotIn, Distinct, Below, below_more, not_in_below, not_in_rest, distinct_rest, below_rest, some_known, not_found, clear}

abbrev pub placed : Binding → Binding
placed b = record { name = b.known.position; known = b.known }

-- the state of the walk over positions, with the positions of the functions whose bodies have come
abbrev pub again : List ℕ → Walking → Walking
again bodies w = record { file = map placed w.file; blocks = map (map placed) w.blocks; decls = w.decls; bodies = bodies }

-- the positions in force differ, and all are of declarations so far
pub record Apart (w : Walking) : Type 0 where
  pub distinct : Distinct (stacked w.blocks (onto w.file []))
  pub below : Below (length w.decls) (stacked w.blocks (onto w.file []))

-- ---- look-ups

pub found_again : (s : Scope) (ps : List ℕ) (n : ℕ) (d : Known) → Distinct (onto s ps) → lookup n s ≡ Some d → lookup d.position (map placed s) ≡ Some d
found_again [] ps n d x is = absurd cc
found_again (b ∷ bs) ps n d x is = at (b.name == n) refl (λ h. found_again bs ps n d x.1 h)
  where
    at : (t : Bool) → (b.name == n) ≡ t → (lookup n bs ≡ Some d → lookup d.position (map placed bs) ≡ Some d) → lookup d.position (map placed (b ∷ bs)) ≡ Some d
    at true same go =
        let h = rw same at is in
        let q : b.known ≡ d = some_known b.known d h in
        let e : (b.known.position == d.position) ≡ true = eq-eqb b.known.position d.position (ap (λ k. k.position) q) in
        rw e (ap Some q)
    at false other go =
        let h = rw other at is in
        let e : (b.known.position == d.position) ≡ false = ne_eqb b.known.position d.position (not_found b.known.position bs ps n d x.0 h) in
        rw e (go h)

pub none_again : (p : ℕ) (s : Scope) (ps : List ℕ) → NotIn p (onto s ps) → lookup p (map placed s) ≡ None
none_again p [] ps x = refl
none_again p (b ∷ bs) ps x =
    let e : (b.known.position == p) ≡ false = ne_eqb b.known.position p (λ q. x.0 (sym q)) in
    rw e (none_again p bs ps x.1)

not_found_stack : (p : ℕ) (ss : List Scope) (ps : List ℕ) (n : ℕ) (d : Known) → NotIn p (stacked ss ps) → innermost_known n ss ≡ Some d → p ≡ d.position → ⊥
not_found_stack p [] ps n d x is e = absurd cc
not_found_stack p (s ∷ ss) ps n d x is e = at (lookup n s) refl (λ h. not_found_stack p ss ps n d (not_in_rest p s (stacked ss ps) x) h e)
  where
    at : (o : Option Known) → lookup n s ≡ o → (innermost_known n ss ≡ Some d → ⊥) → ⊥
    at (Some k) found go = let h = rw found at is in not_found p s (stacked ss ps) n d x (found ∙ h) e
    at None none go = let h = rw none at is in go h

-- what is declared further out isn't in an inner scope
others : (s : Scope) (ss : List Scope) (ps : List ℕ) (n : ℕ) (d : Known) → Distinct (onto s (stacked ss ps)) → innermost_known n ss ≡ Some d → NotIn d.position (onto s [])
others [] ss ps n d x is = tt
others (b ∷ bs) ss ps n d x is = ((λ e. not_found_stack b.known.position ss ps n d (not_in_rest b.known.position bs (stacked ss ps) x.0) is (sym e)), others bs ss ps n d x.1 is)

pub innermost_again : (L : List Scope) (ps : List ℕ) (n : ℕ) (d : Known) → Distinct (stacked L ps) → innermost_known n L ≡ Some d → innermost_known d.position (map (map placed) L) ≡ Some d
innermost_again [] ps n d x is = absurd cc
innermost_again (s ∷ ss) ps n d x is = at (lookup n s) refl (λ h. innermost_again ss ps n d (distinct_rest s (stacked ss ps) x) h)
  where
    at : (o : Option Known) → lookup n s ≡ o → (innermost_known n ss ≡ Some d → innermost_known d.position (map (map placed) ss) ≡ Some d) → innermost_known d.position (map (map placed) (s ∷ ss)) ≡ Some d
    at (Some k) found go =
        let h = rw found at is in
        let f = found_again s (stacked ss ps) n d x (found ∙ h) in
        rw f refl
    at None none go =
        let h = rw none at is in
        let f = none_again d.position s [] (others s ss ps n d x h) in
        rw f (go h)

pub innermost_none : (p : ℕ) (L : List Scope) (ps : List ℕ) → NotIn p (stacked L ps) → innermost_known p (map (map placed) L) ≡ None
innermost_none p [] ps x = refl
innermost_none p (s ∷ ss) ps x =
    let f = none_again p s (stacked ss ps) x in
    rw f (innermost_none p ss ps (not_in_rest p s (stacked ss ps) x))

pub distinct_under : (L : List Scope) (ps : List ℕ) → Distinct (stacked L ps) → Distinct ps
distinct_under [] ps x = x
distinct_under (s ∷ ss) ps x = distinct_under ss ps (distinct_rest s (stacked ss ps) x)

pub below_under : (n : ℕ) (L : List Scope) (ps : List ℕ) → Below n (stacked L ps) → Below n ps
below_under n [] ps x = x
below_under n (s ∷ ss) ps x = below_under n ss ps (below_rest n s (stacked ss ps) x)

-- what a name designates its position designates
pub in_force_again : (bodies : List ℕ) (w : Walking) → Apart w → (n : ℕ) (d : Known) → in_force w n ≡ Some d → in_force (again bodies w) d.position ≡ Some d
in_force_again bodies w a n d is = at (innermost_known n w.blocks) refl
  where
    at : (o : Option Known) → innermost_known n w.blocks ≡ o → in_force (again bodies w) d.position ≡ Some d
    at (Some k) found =
        let h = rw found at is in
        let f = innermost_again w.blocks (onto w.file []) n d a.distinct (found ∙ h) in
        rw f refl
    at None none =
        let h = rw none at is in
        let f = innermost_none d.position w.blocks [] (clear w.blocks w.file n d a.distinct h) in
        rw f (found_again w.file [] n d (distinct_under w.blocks (onto w.file []) a.distinct) h)

-- ---- scopes that open, close and grow

pub apart_opened : (w : Walking) → Apart w → Apart (opened w)
apart_opened w a = record { distinct = a.distinct; below = a.below }

closed_distinct : (L : List Scope) (ps : List ℕ) → Distinct (stacked L ps) → Distinct (stacked (without_first L) ps)
closed_distinct [] ps x = x
closed_distinct (s ∷ ss) ps x = distinct_rest s (stacked ss ps) x

closed_below : (n : ℕ) (L : List Scope) (ps : List ℕ) → Below n (stacked L ps) → Below n (stacked (without_first L) ps)
closed_below n [] ps x = x
closed_below n (s ∷ ss) ps x = below_rest n s (stacked ss ps) x

pub apart_closed : (w : Walking) → Apart w → Apart (closed w)
apart_closed w a = record { distinct = closed_distinct w.blocks (onto w.file []) a.distinct; below = closed_below (length w.decls) w.blocks (onto w.file []) a.below }

pub apart_outside : (w : Walking) (blocks : List Scope) (bodies : List ℕ) → ((ps : List ℕ) → stacked blocks ps ≡ ps) → Apart w → Apart (record { file = w.file; blocks = blocks; decls = w.decls; bodies = bodies })
apart_outside w blocks bodies none a = record {
  distinct = subst Distinct (sym (none (onto w.file []))) (distinct_under w.blocks (onto w.file []) a.distinct);
  below = subst (Below (length w.decls)) (sym (none (onto w.file []))) (below_under (length w.decls) w.blocks (onto w.file []) a.below);
}

one_more : (ds : List Decl) (d : Decl) → length (ds ++ d ∷ []) ≡ length ds + 1
one_more ds d = length-append ds (d ∷ [])

entered_positions : (b : Binding) (L : List Scope) (ps : List ℕ) → stacked (entered b L) ps ≡ b.known.position ∷ stacked L ps
entered_positions b [] ps = refl
entered_positions b (s ∷ ss) ps = refl

pub apart_entered : (n : ℕ) (k : Kind) (decl : Decl) (w : Walking) → Apart w → Apart (enter_block n k decl w)
apart_entered n k decl w a =
    let e = one_more w.decls decl in
    let ps : List ℕ = stacked w.blocks (onto w.file []) in
    record {
      distinct = subst Distinct (sym (entered_positions (binding n k w) w.blocks (onto w.file []))) (not_in_below (length w.decls) ps a.below, a.distinct);
      below = subst (Below (length (w.decls ++ decl ∷ []))) (sym (entered_positions (binding n k w) w.blocks (onto w.file []))) (omega (arith, e), below_more (length w.decls) (length (w.decls ++ decl ∷ [])) ps (omega (arith, e)) a.below);
    }

pub apart_file : (n : ℕ) (k : Kind) (decl : Decl) (w : Walking) → w.blocks ≡ [] → Apart w → Apart (enter_file n k decl w)
apart_file n k decl w none a =
    let e = one_more w.decls decl in
    let x : Distinct (onto w.file []) = distinct_under w.blocks (onto w.file []) a.distinct in
    let b : Below (length w.decls) (onto w.file []) = below_under (length w.decls) w.blocks (onto w.file []) a.below in
    record {
      distinct = subst (λ L. Distinct (stacked L (length w.decls ∷ onto w.file []))) (sym none) (not_in_below (length w.decls) (onto w.file []) b, x);
      below = subst (λ L. Below (length (w.decls ++ decl ∷ [])) (stacked L (length w.decls ∷ onto w.file []))) (sym none) (omega (arith, e), below_more (length w.decls) (length (w.decls ++ decl ∷ [])) (onto w.file []) (omega (arith, e)) b);
    }

entered_again : (b : Binding) (L : List Scope) → entered (placed b) (map (map placed) L) ≡ map (map placed) (entered b L)
entered_again b [] = refl
entered_again b (s ∷ ss) = refl

without_first_again : (L : List Scope) → without_first (map (map placed) L) ≡ map (map placed) (without_first L)
without_first_again [] = refl
without_first_again (s ∷ ss) = refl

pub closed_again : (bodies : List ℕ) (w : Walking) → closed (again bodies w) ≡ again bodies (closed w)
closed_again bodies w = ap (λ L. record { file = map placed w.file; blocks = L; decls = w.decls; bodies = bodies }) (without_first_again w.blocks)

-- a position comes into force as its own name
pub enter_block_again : (bodies : List ℕ) (n : ℕ) (k : Kind) (decl : Decl) (w : Walking) → enter_block (length w.decls) k decl (again bodies w) ≡ again bodies (enter_block n k decl w)
enter_block_again bodies n k decl w = ap (λ L. record { file = map placed w.file; blocks = L; decls = w.decls ++ decl ∷ []; bodies = bodies }) (entered_again (binding n k w) w.blocks)

-- a new position is new in every scope
new_in : (p : ℕ) (L : List Scope) (ps : List ℕ) → NotIn p (stacked L ps) → is_new p (map (map placed) L) ≡ true
new_in p [] ps x = refl
new_in p (s ∷ ss) ps x = let f = none_again p s (stacked ss ps) x in rw f refl

pub new_again : (w : Walking) → Apart w → is_new (length w.decls) (map (map placed) w.blocks) ≡ true
new_again w a = new_in (length w.decls) w.blocks (onto w.file []) (not_in_below (length w.decls) (stacked w.blocks (onto w.file [])) a.below)

pub new_file_again : (w : Walking) → Apart w → lookup (length w.decls) (map placed w.file) ≡ None
new_file_again w a = none_again (length w.decls) w.file [] (not_in_below (length w.decls) (onto w.file []) (below_under (length w.decls) w.blocks (onto w.file []) a.below))
