-- Positions of declarations: those in force differ, and new ones differ from them.
use Rattle.std.proofs.Common.{◌≡◌, ℕ, ◌<◌, ◌≤◌, Bool, true, false, List, [], ◌∷◌, Option, Some, None, refl, sym, ap, ◌∙◌, subst, ◌==◌, arith}
use Rattle.std.proofs.lemmas.Bool.{eqb-true}
use Rattle.check_rules.specs.declared.names.Known.{Known}
use Rattle.check_rules.specs.Scopes.{Scope, lookup, innermost_known}

-- in front of others
abbrev pub onto : Scope → List ℕ → List ℕ
onto [] ps = ps
onto (b ∷ bs) ps = b.known.position ∷ onto bs ps

abbrev pub stacked : List Scope → List ℕ → List ℕ
stacked [] ps = ps
stacked (scope ∷ scopes) ps = onto scope (stacked scopes ps)

abbrev pub NotIn : ℕ → List ℕ → Type 0
NotIn p [] = Unit {0}
NotIn p (q ∷ qs) = (p ≡ q → ⊥) × NotIn p qs

abbrev pub Distinct : List ℕ → Type 0
Distinct [] = Unit {0}
Distinct (p ∷ ps) = NotIn p ps × Distinct ps

abbrev pub Below : ℕ → List ℕ → Type 0
Below n [] = Unit {0}
Below n (p ∷ ps) = (p < n) × Below n ps

pub below_more : (n m : ℕ) (ps : List ℕ) → n ≤ m → Below n ps → Below m ps
below_more n m [] le b = tt
below_more n m (p ∷ ps) le b = (omega (arith, b.0), below_more n m ps le b.1)

pub not_in_below : (n : ℕ) (ps : List ℕ) → Below n ps → NotIn n ps
not_in_below n [] b = tt
not_in_below n (p ∷ ps) b = ((λ e. omega (arith, b.0, e)), not_in_below n ps b.1)

-- a scope's end
pub not_in_rest : (p : ℕ) (s : Scope) (ps : List ℕ) → NotIn p (onto s ps) → NotIn p ps
not_in_rest p [] ps x = x
not_in_rest p (b ∷ bs) ps x = not_in_rest p bs ps x.1

pub distinct_rest : (s : Scope) (ps : List ℕ) → Distinct (onto s ps) → Distinct ps
distinct_rest [] ps x = x
distinct_rest (b ∷ bs) ps x = distinct_rest bs ps x.1

pub below_rest : (n : ℕ) (s : Scope) (ps : List ℕ) → Below n (onto s ps) → Below n ps
below_rest n [] ps x = x
below_rest n (b ∷ bs) ps x = below_rest n bs ps x.1

-- what a name designates is among them
pub some_known : (d e : Known) → Some d ≡ Some e → d ≡ e
some_known d e is = cc

pub not_found : (p : ℕ) (s : Scope) (ps : List ℕ) (n : ℕ) (d : Known) → NotIn p (onto s ps) → lookup n s ≡ Some d → p ≡ d.position → ⊥
not_found p [] ps n d x is e = absurd cc
not_found p (b ∷ bs) ps n d x is e = at (b.name == n) refl (λ h. not_found p bs ps n d x.1 h e)
  where
    at : (t : Bool) → (b.name == n) ≡ t → (lookup n bs ≡ Some d → ⊥) → ⊥
    at true same go = let h = rw same at is in x.0 (e ∙ sym (ap (λ k. k.position) (some_known b.known d h)))
    at false other go = let h = rw other at is in go h

pub not_found_in : (p : ℕ) (ss : List Scope) (ps : List ℕ) (n : ℕ) (d : Known) → NotIn p (stacked ss ps) → innermost_known n ss ≡ Some d → p ≡ d.position → ⊥
not_found_in p [] ps n d x is e = absurd cc
not_found_in p (s ∷ ss) ps n d x is e = at (lookup n s) refl (λ h. not_found_in p ss ps n d (not_in_rest p s (stacked ss ps) x) h e)
  where
    at : (o : Option Known) → lookup n s ≡ o → (innermost_known n ss ≡ Some d → ⊥) → ⊥
    at (Some k) found go = let h = rw found at is in not_found p s (stacked ss ps) n d x (found ∙ h) e
    at None found go = let h = rw found at is in go h

-- no other position is that of something behind
pub behind : (s : Scope) (ps : List ℕ) (n : ℕ) (d : Known) (m : ℕ) (k : Known) (t : Scope) (qs : List ℕ) → ps ≡ onto t qs → Distinct (onto s ps) → lookup n s ≡ Some d → lookup m t ≡ Some k → d.position ≡ k.position → ⊥
behind [] ps n d m k t qs eq x is js e = absurd cc
behind (b ∷ bs) ps n d m k t qs eq x is js e = at (b.name == n) refl (λ h. behind bs ps n d m k t qs eq x.1 h js e)
  where
    at : (o : Bool) → (b.name == n) ≡ o → (lookup n bs ≡ Some d → ⊥) → ⊥
    at true same go = let h = rw same at is in not_found b.known.position t qs m k (subst (NotIn b.known.position) eq (not_in_rest b.known.position bs ps x.0)) js (ap (λ v. v.position) (some_known b.known d h) ∙ e)
    at false other go = let h = rw other at is in go h

-- in one scope a position is that of one name
pub one_name : (s : Scope) (ps : List ℕ) (n : ℕ) (d : Known) (m : ℕ) (k : Known) → Distinct (onto s ps) → lookup n s ≡ Some d → lookup m s ≡ Some k → d.position ≡ k.position → n ≡ m
one_name [] ps n d m k x is js e = absurd cc
one_name (b ∷ bs) ps n d m k x is js e = at (b.name == n) (b.name == m) refl refl (λ h g. one_name bs ps n d m k x.1 h g e)
  where
    at : (o o' : Bool) → (b.name == n) ≡ o → (b.name == m) ≡ o' → (lookup n bs ≡ Some d → lookup m bs ≡ Some k → n ≡ m) → n ≡ m
    at true true p q go = sym (eqb-true b.name n p) ∙ eqb-true b.name m q
    at true false p q go = let h = rw p at is in let g = rw q at js in absurd (not_found b.known.position bs ps m k x.0 g (ap (λ v. v.position) (some_known b.known d h) ∙ e))
    at false true p q go = let h = rw p at is in let g = rw q at js in absurd (not_found b.known.position bs ps n d x.0 h (ap (λ v. v.position) (some_known b.known k g) ∙ sym e))
    at false false p q go = let h = rw p at is in let g = rw q at js in go h g

pub not_in_stack : (p : ℕ) (ss : List Scope) (ps : List ℕ) → NotIn p (stacked ss ps) → NotIn p ps
not_in_stack p [] ps x = x
not_in_stack p (s ∷ ss) ps x = not_in_stack p ss ps (not_in_rest p s (stacked ss ps) x)

clear_scope : (s : Scope) (ss : List Scope) (file : Scope) (n : ℕ) (d : Known) → Distinct (onto s (stacked ss (onto file []))) → lookup n file ≡ Some d → NotIn d.position (stacked ss []) → NotIn d.position (onto s (stacked ss []))
clear_scope [] ss file n d x is rest = rest
clear_scope (b ∷ bs) ss file n d x is rest =
    ((λ e. not_found b.known.position file [] n d (not_in_stack b.known.position ss (onto file []) (not_in_rest b.known.position bs (stacked ss (onto file [])) x.0)) is (sym e)), clear_scope bs ss file n d x.1 is rest)

-- a position at file scope is none of a block
pub clear : (ss : List Scope) (file : Scope) (n : ℕ) (d : Known) → Distinct (stacked ss (onto file [])) → lookup n file ≡ Some d → NotIn d.position (stacked ss [])
clear [] file n d x is = tt
clear (s ∷ ss) file n d x is = clear_scope s ss file n d x is (clear ss file n d (distinct_rest s (stacked ss (onto file [])) x) is)

-- what a name designates is one
pub same_known : (n m : ℕ) (s : Scope) (d e : Known) → n ≡ m → lookup n s ≡ Some d → lookup m s ≡ Some e → d ≡ e
same_known n m s d e q p r = some_known d e (sym p ∙ ap (λ x. lookup x s) q ∙ r)
