-- That a program whose names have been replaced by positions is one that has been checked.
use Rattle.std.specs.Prelude.{◌≡◌, ◌≤◌, Ok}
use Rattle.c_syntax.specs.declared.tree.Program.{Program}
use Rattle.c_syntax.specs.Shaped.{Shaped}
use Rattle.c_syntax.specs.Sizes.{program_nodes}
use Rattle.c_meaning.specs.Meaning.{source_names}
use Rattle.check_rules.specs.Limits.{Resolved, checked}
use Rattle.check_rules.specs.Resolution.{most_nodes, IsChecked}

-- what the walk gives of a program passes it again: it has the same shape and as many nodes, it has no fault, and it stays as it is
abbrev pub CheckedAgain : Type 0
CheckedAgain = (program : Program) (c : Resolved) → Shaped program → program_nodes program ≤ most_nodes → checked source_names program ≡ Ok c → IsChecked c

-- it has as many nodes
abbrev pub NodesStay : Type 0
NodesStay = (program : Program) (c : Resolved) → Shaped program → checked source_names program ≡ Ok c → program_nodes c.program ≡ program_nodes program
