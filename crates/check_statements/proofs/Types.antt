-- Lists of types that are compared element by element.
use Rattle.std.proofs.Common.{◌≡◌, ℕ, zero, suc, ◌<◌, ◌≤◌, Bool, true, false, List, [], ◌∷◌, length, drop, nat_eq, refl, sym, ap, ◌∙◌, arith}
use Rattle.std.proofs.lemmas.Bool.{eq-eqb, ne_eqb, eqb-true, eqb-false}
use Rattle.c_syntax.specs.declared.tree.Ty.{Ty}
use Rattle.c_syntax.specs.declared.tree.Param.{Param}
use Rattle.check_rules.specs.Walk.{same_types, param_types}

same_successors : (a b : ℕ) → nat_eq a b ≡ nat_eq (suc a) (suc b)
same_successors a b = at (nat_eq a b) refl
  where
    at : (t : Bool) → nat_eq a b ≡ t → nat_eq a b ≡ nat_eq (suc a) (suc b)
    at true e = e ∙ sym (eq-eqb (suc a) (suc b) (ap suc (eqb-true a b e)))
    at false e = e ∙ sym (ne_eqb (suc a) (suc b) (λ q. eqb-false a b e (omega (arith, q))))

pub no_types_left : (ps : List Param) (i : ℕ) → i ≤ length ps → same_types [] (param_types (drop i ps)) ≡ nat_eq i (length ps)
no_types_left [] zero le = refl
no_types_left [] (suc i) le = absurd (omega arith)
no_types_left (p ∷ ps) zero le = sym (ne_eqb 0 (length (p ∷ ps)) (λ e. omega (arith, e)))
no_types_left (p ∷ ps) (suc i) le = no_types_left ps i (omega arith) ∙ same_successors i (length ps)

pub no_params_left : (ts : List Ty) (i : ℕ) → i ≤ length ts → same_types (drop i ts) [] ≡ nat_eq i (length ts)
no_params_left [] zero le = refl
no_params_left [] (suc i) le = absurd (omega arith)
no_params_left (t ∷ ts) zero le = sym (ne_eqb 0 (length (t ∷ ts)) (λ e. omega (arith, e)))
no_params_left (t ∷ ts) (suc i) le = no_params_left ts i (omega arith) ∙ same_successors i (length ts)

drop_all : {A : Type 0} (xs : List A) (i : ℕ) → i ≡ length xs → drop i xs ≡ []
drop_all [] zero e = refl
drop_all [] (suc i) e = absurd (omega (arith, e))
drop_all (x ∷ xs) zero e = absurd (omega (arith, e))
drop_all (x ∷ xs) (suc i) e = drop_all xs i (omega (arith, e))

pub types_end : (ts : List Ty) (ps : List Param) (i : ℕ) → i ≡ length ts → i ≤ length ps → same_types (drop i ts) (param_types (drop i ps)) ≡ same_types ts (param_types ps) → nat_eq i (length ps) ≡ same_types ts (param_types ps)
types_end ts ps i e le same = sym (no_types_left ps i le) ∙ ap (λ l. same_types l (param_types (drop i ps))) (sym (drop_all ts i e)) ∙ same

pub params_end : (ts : List Ty) (ps : List Param) (i : ℕ) → i ≡ length ps → i ≤ length ts → same_types (drop i ts) (param_types (drop i ps)) ≡ same_types ts (param_types ps) → nat_eq i (length ts) ≡ same_types ts (param_types ps)
params_end ts ps i e le same = sym (no_params_left ts i le) ∙ ap (λ l. same_types (drop i ts) (param_types l)) (sym (drop_all ps i e)) ∙ same
