-- What a checked program is lowered to.
use Rattle.std.specs.Prelude.{◌≤◌, ℕ, ◌+◌, ◌*◌, List}
use Rattle.hard_runs.specs.Observed.{SameObserved}
use Rattle.hard_words.specs.Words.{AreWords}
use Rattle.c_syntax.specs.Sizes.{program_nodes}
use Rattle.check_rules.specs.Limits.{Resolved, resolved_names}
use Rattle.mid_blocks.specs.declared.code.Mid.{Mid}
use Rattle.mid_blocks.specs.Run.{block_run}
use Rattle.mid_blocks.specs.Valid.{Valid}
use Rattle.mid_blocks.specs.Bounds.{Shallow, Proper}
use Rattle.mid_blocks.specs.Size.{words, block_count, branch_count}
use Rattle.lower_rules.specs.Seen.{c_observed}
use Rattle.mid_blocks.specs.Words.{HasWords}

-- The program in blocks does what the tree does, is what the passes below ask for, comes to at most 60 words a node, and to at most
-- 16,000 blocks, two that stand before its functions and one more for each branch among them.
pub record IsLowered (c : Resolved) (mid : Mid) : Type 0 where
  pub runs : (input : List ℕ) → AreWords input → SameObserved (block_run mid input) (c_observed (resolved_names c) c.program input)
  pub valid : Valid mid
  pub shallow : Shallow mid
  pub proper : Proper mid
  pub has_words : HasWords mid
  pub few_words : words mid ≤ 60 * program_nodes c.program
  pub few_blocks : block_count mid + branch_count mid + 2 ≤ 16000
