-- The lines of a campaign: a line for each outcome, in the order of the tally, with how many flips came to it.
use Rattle.std.specs.Prelude.{ℕ, List, ◌++◌, codes, decimal}
use Rattle.fault_campaign.specs.declared.outcome.Tally.{Tally}
use Rattle.fault_replay.specs.Show.{line}

-- an outcome, by its name, and how many came to it
unfoldable pub outcome_line : (name : List ℕ) (count : ℕ) → List ℕ
outcome_line name count = line (name ++ decimal count)

abbrev pub tally_lines : Tally → List ℕ
tally_lines tally =
    outcome_line (codes "same ") tally.same ++ (outcome_line (codes "reported ") tally.reported
    ++ (outcome_line (codes "exception ") tally.exception ++ (outcome_line (codes "windowed ") tally.windowed ++ outcome_line (codes "silent ") tally.silent)))
