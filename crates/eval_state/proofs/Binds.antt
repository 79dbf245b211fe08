-- Where the arguments end, no parameter is left to take one.
use Rattle.std.proofs.Common.{◌≡◌, ℕ, zero, suc, List, [], ◌∷◌, ◌++◌, length, ◌≤◌, drop, refl, sym, ap, ◌∙◌}
use Rattle.std.proofs.lemmas.List.{drop_all}
use Rattle.c_syntax.specs.declared.tree.Param.{Param}
use Rattle.c_meaning.specs.declared.run.Value.{Value}
use Rattle.c_meaning.specs.Run.{Entry}
use Rattle.c_meaning.specs.Meaning.{bound}

bound_none : (ps : List Param) → bound ps [] ≡ []
bound_none [] = refl
bound_none (p ∷ ps) = refl

pub all_bound : (ps : List Param) (vs : List Value) (i : ℕ) (scope : List Entry) (scopes : List (List Entry)) → length vs ≤ i → scopes ≡ scope ∷ [] → bound ps vs ≡ bound (drop i ps) (drop i vs) ++ scope → scopes ≡ bound ps vs ∷ []
all_bound ps vs i scope scopes e s b = s ∙ ap (λ (l : List Entry). l ∷ []) (sym (b ∙ ap (λ x. bound (drop i ps) x ++ scope) (drop_all i vs e) ∙ ap (λ x. x ++ scope) (bound_none (drop i ps))))
