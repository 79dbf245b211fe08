-- A light `main` that calls nothing, and that it stays so where names become positions.
use Rattle.std.specs.Prelude.{◌≡◌, ◌≤◌, ℕ, Some, None, Ok, Contains}
use Rattle.c_syntax.specs.declared.tree.Function.{Function}
use Rattle.c_syntax.specs.declared.tree.Program.{Program}
use Rattle.c_syntax.specs.Shaped.{Shaped}
use Rattle.c_syntax.specs.Costs.{function_weight}
use Rattle.c_syntax.specs.Graph.{function_named, body_calls}
use Rattle.c_meaning.specs.Meaning.{Names, source_names}
use Rattle.check_rules.specs.Limits.{Resolved, checked, resolved_names}
use Rattle.check_rules.specs.Leaf.{IsLightLeaf}

-- of a program without fault it is so of the program whose names are positions
abbrev pub StaysLight : Type 0
StaysLight = (program : Program) (c : Resolved) → Shaped program → checked source_names program ≡ Ok c →
    IsLightLeaf source_names program → IsLightLeaf (resolved_names c) c.program
