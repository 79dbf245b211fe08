-- That a program whose names have been replaced by positions has as many clauses without a label as before.
use Rattle.std.specs.Prelude.{◌≡◌, map, sum, Ok}
use Rattle.c_syntax.specs.declared.tree.Program.{Program}
use Rattle.c_meaning.specs.Meaning.{source_names}
use Rattle.check_rules.specs.Limits.{Resolved, checked}
use Rattle.c_syntax.specs.Labels.{bare_clauses}
use Rattle.c_syntax.specs.Graph.{with_bodies}

-- no clause of a `switch` comes to be without a label
abbrev pub StaysLabelled : Type 0
StaysLabelled = (program : Program) (c : Resolved) → checked source_names program ≡ Ok c →
    sum (map bare_clauses (with_bodies program.items)) ≡ 0 → sum (map bare_clauses (with_bodies c.program.items)) ≡ 0
