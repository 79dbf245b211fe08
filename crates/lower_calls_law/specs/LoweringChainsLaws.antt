-- The calls of a lowered program have room.
use Rattle.std.specs.Prelude.{◌≡◌, ℕ, ◌≤◌, Bool, List, Some, slice_get}
use Rattle.c_syntax.specs.declared.tree.Function.{Function}
use Rattle.c_syntax.specs.declared.tree.TopItem.{TopItem}
use Rattle.c_syntax.specs.declared.tree.Program.{Program}
use Rattle.c_syntax.specs.Graph.{function_named}
use Rattle.c_meaning.specs.Meaning.{Names}
use Rattle.mid_blocks.specs.Bounds.{Shallow}
use Rattle.lower_rules.specs.Programs.{in_number_order, low_program}
use Rattle.mid_blocks.specs.Pruned.{pruned, Closed}
use Rattle.lower_rules.specs.Fitting.{Fitting}
use Rattle.lower_rules.specs.Room.{room}

-- each function with a body is the first of its name
abbrev pub OneEach : Names → List TopItem → Type 0
OneEach names items = (number : ℕ) (f : Function) → slice_get (in_number_order names.main items) number ≡ Some f → function_named f.name items ≡ Some f

-- where the room that is allowed is at least what the chains of calls of `main` take
abbrev pub ShallowInRoom : Type 0
ShallowInRoom = (names : Names) (program : Program) (chain_pairs : ℕ) (marks : List (List Bool)) → Fitting names program.items →
    OneEach names program.items → Closed (low_program names program chain_pairs) marks → room program.items names.main ≤ chain_pairs →
    Shallow (pruned marks (low_program names program chain_pairs))
