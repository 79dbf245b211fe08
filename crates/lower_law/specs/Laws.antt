-- What holds of a lowered program of which what isn't reached is left out.
use Rattle.std.specs.Prelude.{◌≡◌, ℕ, ◌*◌, ◌≤◌, Bool, List, map, sum, length, Option, Some, slice_get}
use Rattle.hard_words.specs.Words.{AreWords}
use Rattle.hard_runs.specs.Observed.{SameObserved}
use Rattle.c_syntax.specs.declared.tree.Program.{Program}
use Rattle.c_syntax.specs.Sizes.{program_nodes}
use Rattle.c_meaning.specs.Meaning.{Names}
use Rattle.mid_blocks.specs.declared.code.MidEnd.TheVariants.{Call}
use Rattle.mid_blocks.specs.declared.code.MidFunction.{MidFunction}
use Rattle.mid_blocks.specs.declared.code.Mid.{Mid}
use Rattle.mid_blocks.specs.Valid.{EndsBy}
use Rattle.mid_blocks.specs.Run.{block_run}
use Rattle.mid_blocks.specs.Bounds.{Proper, Shallow}
use Rattle.mid_blocks.specs.Size.{words}
use Rattle.c_syntax.specs.Graph.{with_bodies}
use Rattle.lower_rules.specs.Programs.{low_program}
use Rattle.mid_blocks.specs.Pruned.{pruned, Closed, OnlyReached}
use Rattle.lower_rules.specs.Seen.{c_observed}
use Rattle.lower_rules.specs.Fitting.{Fitting}
use Rattle.lower_rules.specs.Chains.{Chain, counts, deeper}
use Rattle.c_syntax.specs.Labels.{bare_clauses}

-- it runs as its tree does, observed from outside
abbrev pub RunsAsTree : Type 0
RunsAsTree = (names : Names) (program : Program) (chain_pairs : ℕ) (marks : List (List Bool)) (input : List ℕ) → Fitting names program.items →
    Closed (low_program names program chain_pairs) marks → AreWords input →
    SameObserved (block_run (pruned marks (low_program names program chain_pairs)) input) (c_observed names program input)

-- what comes next in a run reads only what was written, within its global
abbrev pub StaysProper : Type 0
StaysProper = (names : Names) (program : Program) (chain_pairs : ℕ) (marks : List (List Bool)) → Fitting names program.items →
    Closed (low_program names program chain_pairs) marks →
    Proper (pruned marks (low_program names program chain_pairs))

-- the calls of a run have room, where each chain of calls has
abbrev pub StaysShallow : Type 0
StaysShallow = (names : Names) (program : Program) (chain_pairs : ℕ) (marks : List (List Bool)) (chain : ℕ → ℕ → ℕ) → Fitting names program.items →
    Closed (low_program names program chain_pairs) marks →
    Chain (low_program names program chain_pairs) (counts names program.items) chain → chain (deeper (counts names program.items 0) 0) 0 ≤ chain_pairs →
    Shallow (pruned marks (low_program names program chain_pairs))

-- it comes to at most 60 words for each node of the tree, where each clause of a `switch` has a label
abbrev pub FewWords : Type 0
FewWords = (names : Names) (program : Program) (chain_pairs : ℕ) (marks : List (List Bool)) → 1 ≤ length (with_bodies program.items) →
    sum (map bare_clauses (with_bodies program.items)) ≡ 0 →
    words (pruned marks (low_program names program chain_pairs)) ≤ 60 * program_nodes program

-- where function 0 calls nothing, and only what is reached is marked, no other function is left
abbrev pub OnlyMainStays : Type 0
OnlyMainStays = (mid : Mid) (marks : List (List Bool)) → OnlyReached mid marks →
    ((code : MidFunction) (block function : ℕ) (args : List ℕ) (result : Option ℕ) → slice_get mid.functions 0 ≡ Some code →
    EndsBy code block (Call function args result) → ⊥) →
    length (pruned marks mid).functions ≤ 1
