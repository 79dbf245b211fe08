-- That each end of a block of a lowered program leads to blocks that are there.
use Rattle.std.specs.Prelude.{◌≡◌, ℕ, ◌≤◌, Some, slice_get}
use Rattle.c_syntax.specs.declared.tree.Function.{Function}
use Rattle.c_syntax.specs.declared.tree.Program.{Program}
use Rattle.c_syntax.specs.Costs.{function_weight}
use Rattle.c_meaning.specs.Meaning.{Names}
use Rattle.lower_rules.specs.Programs.{in_number_order, low_program}
use Rattle.lower_rules.specs.Fitting.{Fitting}
use Rattle.lower_calls_law.specs.LoweringChainsLaws.{OneEach}
use Rattle.mid_blocks.specs.Leads.{LeadsInside}

abbrev pub LowersInside : Type 0
LowersInside = (names : Names) (program : Program) (chain_pairs : ℕ) → Fitting names program.items → OneEach names program.items →
    ((number : ℕ) (f : Function) → slice_get (in_number_order names.main program.items) number ≡ Some f → function_weight f ≤ 4000) →
    LeadsInside (low_program names program chain_pairs)
