-- Variables and returns, element by element.
use Rattle.std.proofs.Common.{◌≡◌, ℕ, zero, suc, ◌++◌, ◌<◌, ◌||◌, Bool, true, false, List, [], ◌∷◌, map, length, get_or, refl, sym, ap, ◌∙◌, arith, flat_map}
use Rattle.c_syntax.specs.declared.tree.Param.{Param}
use Rattle.c_syntax.specs.declared.tree.Stmt.{Stmt}
use Rattle.lower_rules.specs.Programs.{Variable, param_variables, declared, some_of}
use Rattle.lower_names.specs.Parts.{variable_of_param}

pub params_joined : (ps : List Param) → flat_map variable_of_param ps ≡ param_variables ps
params_joined [] = refl
params_joined (p ∷ ps) = ap (λ (vs : List Variable). variable_of_param p ++ vs) (params_joined ps)

pub body_joined : (cs : List Stmt) → flat_map (λ vs. vs) (map declared cs) ≡ flat_map declared cs
body_joined [] = refl
body_joined (c ∷ cs) = ap (λ (vs : List Variable). declared c ++ vs) (body_joined cs)

-- where one element returns a value, some of them does
pub some_found : {A : Type 0} (f : A → Bool) (xs : List A) (i : ℕ) (x : A) → i < length xs → x ≡ get_or xs i x → f x ≡ true → true ≡ some_of (map f xs)
some_found f [] i x l e h = absurd (omega arith)
some_found f (y ∷ ys) zero x l e h = ap (λ b. b || some_of (map f ys)) (sym h ∙ ap f e)
some_found f (y ∷ ys) (suc i) x l e h = here (f y) (some_found f ys i x (omega arith) e h)
  where
    here : (b : Bool) → true ≡ some_of (map f ys) → true ≡ (b || some_of (map f ys))
    here true ih = refl
    here false ih = ih
