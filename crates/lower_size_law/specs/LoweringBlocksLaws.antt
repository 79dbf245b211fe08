-- How many blocks a lowered program comes to of which only what is reached is left.
use Rattle.std.specs.Prelude.{◌≡◌, ℕ, ◌+◌, ◌≤◌, Bool, List, map, sum}
use Rattle.c_syntax.specs.declared.tree.Program.{Program}
use Rattle.c_syntax.specs.Costs.{program_cost}
use Rattle.c_meaning.specs.Meaning.{Names}
use Rattle.mid_blocks.specs.Size.{block_count, branch_count}
use Rattle.c_syntax.specs.Graph.{with_bodies}
use Rattle.lower_rules.specs.Programs.{low_program}
use Rattle.mid_blocks.specs.Pruned.{pruned, OnlyReached}
use Rattle.c_syntax.specs.Labels.{bare_clauses}

-- its blocks, and those that end by a Branch once more, and two for the whole are at most what its tree costs, where each clause of a `switch`
-- has a label
abbrev pub FewBlocks : Type 0
FewBlocks = (names : Names) (program : Program) (chain_pairs : ℕ) (marks : List (List Bool)) →
    sum (map bare_clauses (with_bodies program.items)) ≡ 0 → OnlyReached (low_program names program chain_pairs) marks →
    block_count (pruned marks (low_program names program chain_pairs)) + branch_count (pruned marks (low_program names program chain_pairs)) + 2
    ≤ program_cost program
