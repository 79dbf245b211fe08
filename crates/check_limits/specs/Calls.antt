-- The pairs that the chains of calls from a function take at most (the project's own; ISO/IEC 9899:1999, 5.2.4.1).
use Rattle.std.specs.Prelude.{ℕ, ◌+◌, ◌-◌, ◌*◌, ◌^◌, min, Bool, true, false, not, ◌&&◌, ◌||◌, ◌==◌, if◌then◌else◌, List, [], ◌∷◌, map, filter, sum}
use Rattle.c_syntax.specs.declared.tree.Function.{Function}
use Rattle.c_syntax.specs.declared.tree.TopItem.{TopItem}
use Rattle.c_syntax.specs.Sizes.{greatest}
use Rattle.c_syntax.specs.Costs.{function_weight}
use Rattle.c_syntax.specs.Graph.{is_recursive}
use Rattle.check_rules.specs.Limits.{bodies, reaches, chain}

-- a number as far as 64 bits go
abbrev pub capped : ℕ → ℕ
capped n = min n (2 ^ 64 - 1)

-- the functions with bodies that one reaches, itself among them, which reach themselves or don't
abbrev pub reached_from : ℕ → List TopItem → Bool → List Function
reached_from from items is_deep =
    filter (λ f. (f.name == from || reaches items from f.name) && (if is_recursive items f.name then is_deep else not is_deep)) (bodies items)

-- one for the counter of nested calls, where a function reaches itself
abbrev pub counter_pairs : List Function → ℕ
counter_pairs [] = 0
counter_pairs (f ∷ fs) = 1

-- where a function reaches none that reaches itself, its greatest chain; else room for 257 calls of such functions, and one of each other function
abbrev pub call_pairs_of : ℕ → List TopItem → List Function → ℕ
call_pairs_of from items [] = chain items from
call_pairs_of from items (f ∷ fs) = 257 * greatest (map (λ g. function_weight g + 2) (f ∷ fs)) + sum (map function_weight (reached_from from items false))

abbrev pub call_pairs : ℕ → List TopItem → ℕ
call_pairs from items = call_pairs_of from items (reached_from from items true)
