-- What holds of a checked program, whose names are positions.
use Rattle.std.specs.Prelude.{◌≡◌, ℕ, ◌+◌, ◌≤◌, true, List, [], ◌∷◌, map, sum, length, Some, slice_get}
use Rattle.c_syntax.specs.declared.tree.Function.{Function}
use Rattle.c_syntax.specs.Graph.{function_named}
use Rattle.c_syntax.specs.Costs.{function_weight, program_cost}
use Rattle.c_meaning.specs.Meaning.{globals}
use Rattle.check_rules.specs.Limits.{Resolved, resolved_names, global_pairs}
use Rattle.check_rules.specs.Resolution.{IsChecked}
use Rattle.c_syntax.specs.Graph.{with_bodies}
use Rattle.lower_rules.specs.Programs.{in_number_order, object_words}
use Rattle.lower_rules.specs.Room.{within, room}
use Rattle.lower_calls_law.specs.LoweringChainsLaws.{OneEach}

-- there is a function with a body, `main`, and it has no parameters
pub record Main (c : Resolved) : Type 0 where
  pub some_body : 1 ≤ length (with_bodies c.program.items)
  pub main : Function
  pub main_is : function_named c.main c.program.items ≡ Some main
  pub no_params : length main.params ≡ 0

abbrev pub HasMain : Type 0
HasMain = (c : Resolved) → IsChecked c → Main c

-- it costs few blocks
abbrev pub HasFewBlocks : Type 0
HasFewBlocks = (c : Resolved) → IsChecked c → program_cost c.program ≤ 16000

-- a call of a function takes at most 4,000 pairs
abbrev pub HasLightFrames : Type 0
HasLightFrames = (c : Resolved) (number : ℕ) (f : Function) → IsChecked c →
    slice_get (in_number_order c.main c.program.items) number ≡ Some f → function_weight f ≤ 4000

-- each function with a body is the first of its name
abbrev pub HasOneEach : Type 0
HasOneEach = (c : Resolved) → IsChecked c → OneEach (resolved_names c) c.program.items

-- ---- room

-- the pair of the counter of nested calls, where there is a function that reaches itself
abbrev pub counter_pairs : List Function → ℕ
counter_pairs [] = 0
counter_pairs (f ∷ fs) = 1

-- the variables at file scope, the counter where `main` reaches a function that reaches itself, and the chains of calls of `main` have room
pub record Room (c : Resolved) : Type 0 where
  pub words : sum (map length (map (λ g. object_words g.object) (globals c.program.items))) ≡ global_pairs c.program.items
  pub fits : global_pairs c.program.items + counter_pairs (within c.program.items c.main true) + room c.program.items c.main ≤ 32768

abbrev pub HasRoom : Type 0
HasRoom = (c : Resolved) → IsChecked c → Room c
