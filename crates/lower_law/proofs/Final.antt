-- A lowered program without what isn't reached: it runs as its tree, what comes next is proper, and calls have the room that is allowed for them.
use Rattle.std.proofs.Common.{ℕ, ◌≤◌, Bool, List}
use Rattle.hard_runs.specs.Observed.{SameObserved}
use Rattle.c_syntax.specs.declared.tree.Program.{Program}
use Rattle.c_meaning.specs.Meaning.{Names}
use Rattle.mid_blocks.specs.declared.code.Mid.{Mid}
use Rattle.mid_blocks.specs.Run.{block_run}
use Rattle.mid_blocks.specs.Bounds.{Proper, Shallow}
use Rattle.lower_rules.specs.Programs.{low_program}
use Rattle.mid_blocks.specs.Pruned.{pruned, Closed, numbers_of}
use Rattle.lower_law.proofs.Globals.{AreSmall}
use Rattle.lower_law.proofs.Plans.{small_of, lowered_same, lowered_proper, lowered_shallow}
use Rattle.lower_law.proofs.Pruning.{Marked, pruned_same}
use Rattle.lower_law.specs.Laws.{RunsAsTree, StaysProper, StaysShallow, FewWords, OnlyMainStays}
use Rattle.lower_law.proofs.ProgramSizes.{few_pruned_words}
use Rattle.lower_law.proofs.OnlyMain.{only_main}
use Rattle.lower_law.proofs.Renumbering.{keeps_same, keeps_proper, keeps_shallow}
use Rattle.lower_rules.specs.Seen.{c_observed}
use Rattle.lower_rules.specs.Chains.{deeper, counts, Chain}
use Rattle.lower_rules.specs.Fitting.{Fitting}

module _ (names : Names) (program : Program) (chain_pairs : ℕ) (ok : Fitting names program.items) (marks : List (List Bool)) (closed : Closed (low_program names program chain_pairs) marks) where
  abbrev raw : Mid
  raw = low_program names program chain_pairs

  abbrev pub lowered : Mid
  lowered = pruned marks raw

  pub runs_as_tree : (input : List ℕ) → AreSmall input → SameObserved (block_run lowered input) (c_observed names program input)
  runs_as_tree input small = keeps_same raw lowered (numbers_of marks) (Marked raw marks closed) (pruned_same raw marks closed) (c_observed names program input) input (lowered_same names program chain_pairs ok input small)

  pub is_proper : Proper lowered
  is_proper = keeps_proper raw lowered (numbers_of marks) (Marked raw marks closed) (pruned_same raw marks closed) (lowered_proper names program chain_pairs ok)

  pub is_shallow : (chain : ℕ → ℕ → ℕ) → Chain raw (counts names program.items) chain → chain (deeper (counts names program.items 0) 0) 0 ≤ chain_pairs → Shallow lowered
  is_shallow chain c room = keeps_shallow raw lowered (numbers_of marks) (Marked raw marks closed) (pruned_same raw marks closed) (lowered_shallow names program chain_pairs ok chain c room)

-- the laws as they are promised
pub runs : RunsAsTree
runs names program chain_pairs marks input ok closed small = runs_as_tree names program chain_pairs ok marks closed input (small_of input small)

pub proper : StaysProper
proper names program chain_pairs marks ok closed = is_proper names program chain_pairs ok marks closed

pub shallow : StaysShallow
shallow names program chain_pairs marks chain ok closed c room = is_shallow names program chain_pairs ok marks closed chain c room

pub few : FewWords
few names program chain_pairs marks some labelled = few_pruned_words names program chain_pairs marks some labelled

pub alone : OnlyMainStays
alone mid marks only no_call = only_main mid no_call marks only
