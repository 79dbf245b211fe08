-- What a program with a light `main` that calls nothing is lowered to.
use Rattle.std.specs.Prelude.{ℕ, Bool, List}
use Rattle.c_syntax.specs.declared.tree.Program.{Program}
use Rattle.c_meaning.specs.Meaning.{Names}
use Rattle.check_rules.specs.Leaf.{IsLightLeaf}
use Rattle.lower_rules.specs.Programs.{low_program}
use Rattle.mid_blocks.specs.Pruned.{pruned, Closed, OnlyReached}
use Rattle.mid_blocks.specs.Leaf.{IsOneLeaf}

-- Where only what is reached is left of the lowered program, one function is left, which has few variables and calls nothing.
abbrev pub LightLeafIsSmall : Type 0
LightLeafIsSmall = (names : Names) (program : Program) (chain_pairs : ℕ) (marks : List (List Bool)) → IsLightLeaf names program →
    Closed (low_program names program chain_pairs) marks → OnlyReached (low_program names program chain_pairs) marks →
    IsOneLeaf (pruned marks (low_program names program chain_pairs))
