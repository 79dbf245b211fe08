-- How many pairs all chains of calls that begin at a function take at most together on the stack.
use Rattle.std.specs.Prelude.{ℕ, zero, suc, ◌+◌, ◌*◌, Bool, true, false, not, ◌&&◌, ◌||◌}
use Rattle.std.specs.Prelude.{if◌then◌else◌, ◌==◌, List, [], ◌∷◌, map, filter, sum, length, Option, Some, None}
use Rattle.c_syntax.specs.declared.tree.Function.{Function}
use Rattle.c_syntax.specs.declared.tree.TopItem.{TopItem}
use Rattle.c_syntax.specs.Sizes.{greatest}
use Rattle.c_syntax.specs.Costs.{function_weight}
use Rattle.c_syntax.specs.Graph.{functions, function_named, callees, leads, is_recursive}
use Rattle.c_syntax.specs.Graph.{with_bodies}

-- whether calls lead from one function to another
abbrev pub reaches : List TopItem → ℕ → ℕ → Bool
reaches items from to = leads items (length (functions items)) from to

-- the functions with bodies that one reaches, itself among them, which reach themselves or don't
abbrev pub within : List TopItem → ℕ → Bool → List Function
within items from is_deep =
    filter (λ f. (f.name == from || reaches items from f.name) && (if is_recursive items f.name then is_deep else not is_deep)) (with_bodies items)

abbrev pub weight_if : Option Function → ℕ
weight_if None = 0
weight_if (Some f) = function_weight f

-- the weight of a function, and the greatest chain of one that it calls, down to n calls
abbrev pub chain_in : List TopItem → ℕ → ℕ → ℕ
chain_in items zero name = 0
chain_in items (suc n) name = weight_if (function_named name items) + greatest (map (chain_in items n) (callees items name))

-- where a function reaches none that reaches itself, its greatest chain; else room for 257 calls of such functions, and one of each other function
abbrev pub room_of : List TopItem → ℕ → List Function → ℕ
room_of items from [] = chain_in items (length (functions items)) from
room_of items from (f ∷ fs) = 257 * greatest (map (λ g. function_weight g + 2) (f ∷ fs)) + sum (map function_weight (within items from false))

abbrev pub room : List TopItem → ℕ → ℕ
room items from = room_of items from (within items from true)
