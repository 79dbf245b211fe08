-- The counts of marks from which the new numbers are read; these definitions serve private contracts alone.
use Rattle.std.specs.Prelude.{◌≡◌, ℕ, ◌+◌, ◌≤◌, List, Bool, length, get_or}
use Rattle.mid_blocks.specs.Renumbered.{Numbers}
use Rattle.mid_blocks.specs.Pruned.{marked_before}

-- at each place the number of those that are marked before it, and behind the last place the number of all
pub record AreCounts (marks : List Bool) (counts : List ℕ) : Type 0 where
  pub one_more : length counts ≡ length marks + 1
  pub each : (i : ℕ) → i ≤ length marks → get_or counts i 0 ≡ marked_before marks i

-- the numbers by the marks of the functions and of the blocks of one function
abbrev pub numbers_by : List Bool → List Bool → Numbers
numbers_by functions blocks = record { function = marked_before functions; block = λ f. marked_before blocks }
