-- That the names of a program can be replaced by positions, and what holds of the program after that.
use Rattle.std.specs.Prelude.{◌≡◌, ℕ, ◌≤◌, List, None, Ok}
use Rattle.c_syntax.specs.declared.tree.Program.{Program}
use Rattle.c_syntax.specs.Shaped.{Shaped}
use Rattle.c_syntax.specs.Sizes.{program_nodes}
use Rattle.c_meaning.specs.Meaning.{run_of, c_run, source_names}
use Rattle.check_rules.specs.Limits.{Resolved, checked, first_fault, resolved_names}

-- a program without fault and the program whose names are positions have the same run, for every input and every fuel
abbrev pub SameRun : Type 0
SameRun = (program : Program) (c : Resolved) → Shaped program → checked source_names program ≡ Ok c →
    (input : List ℕ) (fuel : ℕ) → c_run program input fuel ≡ run_of (resolved_names c) c.program input fuel

-- the most nodes of a program, as many as a source of the greatest length has bytes
abbrev pub most_nodes : ℕ
most_nodes = 1048576

-- a program whose names are positions: the walk, which takes each position for a name, finds no fault in it and changes nothing, neither
-- the program nor a declaration nor the position of `main`
pub record IsChecked (c : Resolved) : Type 0 where
  pub shaped : Shaped c.program
  pub few_nodes : program_nodes c.program ≤ most_nodes
  pub faultless : first_fault (resolved_names c) c.program ≡ None
  pub unchanged : checked (resolved_names c) c.program ≡ Ok c
