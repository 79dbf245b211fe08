-- A lowered program of which only what is reached is left is valid.
use Rattle.std.specs.Prelude.{ℕ, Bool, List}
use Rattle.c_syntax.specs.declared.tree.Program.{Program}
use Rattle.c_meaning.specs.Meaning.{Names}
use Rattle.mid_blocks.specs.Valid.{Valid}
use Rattle.lower_rules.specs.Programs.{low_program}
use Rattle.mid_blocks.specs.Pruned.{pruned, Closed, OnlyReached}
use Rattle.lower_rules.specs.Fitting.{Fitting}
use Rattle.lower_valid_law.specs.Within.{Within}

-- where its tree fits and keeps the limits
abbrev pub IsValid : Type 0
IsValid = (names : Names) (program : Program) (chain_pairs : ℕ) (marks : List (List Bool)) → Fitting names program.items →
    Within names program chain_pairs → Closed (low_program names program chain_pairs) marks → OnlyReached (low_program names program chain_pairs) marks →
    Valid (pruned marks (low_program names program chain_pairs))
