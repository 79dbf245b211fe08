-- What is looked up by names after the walk, for private contracts alone.
use Rattle.std.specs.Prelude.{◌≡◌, ℕ, zero, suc, ◌+◌, Bool, true, false, not, ◌&&◌, ◌||◌, ◌==◌, if◌then◌else◌, List, [], ◌∷◌, map, filter, Option, Some, None}
use Rattle.std.specs.Prelude.{slice_index_or}
use Rattle.c_syntax.specs.declared.tree.Function.{Function}
use Rattle.c_syntax.specs.declared.tree.TopItem.{TopItem}
use Rattle.c_syntax.specs.declared.tree.Clause.{Clause, fold-Clause}
use Rattle.c_syntax.specs.Sizes.{greatest}
use Rattle.check_limits.specs.Calls.{capped}
use Rattle.check_rules.specs.Limits.{CallSite, statement_calls_step, clause_calls_step, bodies, weight_named}

-- under each name the weight of its function, 0 where the program has no body for it
abbrev pub AreWeights : List TopItem → List ℕ → Type 0
AreWeights items weights = (name : ℕ) → slice_index_or weights name 0 ≡ capped (weight_named items name)

-- the calls in a clause of a `switch`
abbrev pub clause_calls : Clause → List CallSite
clause_calls = fold-Clause (List CallSite) (List CallSite) statement_calls_step clause_calls_step

-- whether the function of a name is neither there before the text nor has a weight
abbrev pub lacks : List ℕ → ℕ → Bool
lacks weights name = not (name == 1) && (not (name == 2) && (slice_index_or weights name 0 == 0))

-- the byte of the first call of such a function
abbrev pub first_lacking : List ℕ → List CallSite → Option ℕ
first_lacking weights [] = None
first_lacking weights (c ∷ cs) = if lacks weights c.name then Some c.at else first_lacking weights cs

-- the weight under a name, and the greatest chain of one that it calls, down to n calls
abbrev pub chain_over : List (List ℕ) → List ℕ → ℕ → ℕ → ℕ
chain_over lists weights zero name = 0
chain_over lists weights (suc n) name = slice_index_or weights name 0 + greatest (map (chain_over lists weights n) (slice_index_or lists name []))

-- the functions with bodies that a function reaches, itself among them, which reach themselves or don't
abbrev pub chosen : ℕ → List Bool → List Bool → Bool → List TopItem → List Function
chosen from reached recursive is_deep items =
    filter (λ f. (f.name == from || slice_index_or reached f.name false) && (if slice_index_or recursive f.name false then is_deep else
    not is_deep)) (bodies items)

-- whether a function is the one that is begun with, or one that it reaches
abbrev pub is_wanted : ℕ → List Bool → ℕ → Bool
is_wanted from reached name = name == from || slice_index_or reached name false

-- under each name that is wanted its weight, and the greatest number under one that its function calls
abbrev pub AreFurther : List (List ℕ) → List ℕ → ℕ → List Bool → List ℕ → List ℕ → Type 0
AreFurther lists weights from reached numbers next =
    (name : ℕ) → is_wanted from reached name ≡ true → slice_index_or next name 0 ≡
    capped (slice_index_or weights name 0 + greatest (map (λ n. slice_index_or numbers n 0) (slice_index_or lists name [])))
