-- The lines of `selfrun`: how many bytes the source has, how many words the run put out, their sum modulo 2^32, and how the run stands.
use Rattle.std.specs.Prelude.{ℕ, List, ◌++◌, Option, codes}
use Rattle.fault_replay.specs.Show.{end_line}
use Rattle.mips_isa.specs.Runs.{Ran}
use Rattle.mips_isa.specs.declared.instr.End.{End}
use Rattle.fault_replay.specs.Counts.{counted}
use Rattle.fault_replay.specs.declared.count.Counted.{Counted}
use Rattle.fault_campaign.specs.Tallies.{outcome_line}

abbrev pub summary_lines : (bytes : ℕ) → Counted → Option End → List ℕ
summary_lines bytes c end =
    outcome_line (codes "source ") bytes ++ (outcome_line (codes "outputs ") c.outputs ++ (outcome_line (codes "sum ") c.total ++ end_line end))

abbrev pub summary : (bytes : ℕ) → Ran → List ℕ
summary bytes ran = summary_lines bytes (counted ran.output) ran.state.end
