-- The limits that a program keeps which is lowered to a valid one. Each can be tested; a checked program keeps them.
use Rattle.std.specs.Prelude.{◌≡◌, ℕ, ◌+◌, ◌≤◌, map, sum, length, Some, slice_get}
use Rattle.c_syntax.specs.declared.tree.Function.{Function}
use Rattle.c_syntax.specs.declared.tree.Program.{Program}
use Rattle.c_syntax.specs.Graph.{function_named}
use Rattle.c_syntax.specs.Costs.{function_weight}
use Rattle.c_syntax.specs.Sizes.{program_nodes}
use Rattle.c_meaning.specs.Meaning.{Names}
use Rattle.c_syntax.specs.Graph.{with_bodies}
use Rattle.lower_rules.specs.Programs.{in_number_order, low_program}
use Rattle.c_syntax.specs.Labels.{bare_clauses}

pub record Within (names : Names) (program : Program) (chain_pairs : ℕ) : Type 0 where
  -- each function with a body is the first of its name
  pub one_each : (number : ℕ) (f : Function) → slice_get (in_number_order names.main program.items) number ≡ Some f →
      function_named f.name program.items ≡ Some f
  -- and a call of it takes at most 4,000 pairs
  pub light : (number : ℕ) (f : Function) → slice_get (in_number_order names.main program.items) number ≡ Some f → function_weight f ≤ 4000
  -- the variables at file scope and the chains of calls have room
  pub has_room : sum (map length (low_program names program chain_pairs).globals) + chain_pairs ≤ 32768
  -- the tree has at most as many nodes as a source has bytes
  pub few_nodes : program_nodes program ≤ 1048576
  -- each clause of a `switch` has a label
  pub labelled : sum (map bare_clauses (with_bodies program.items)) ≡ 0
