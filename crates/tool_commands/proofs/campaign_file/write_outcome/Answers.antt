use Rattle.std.proofs.Common.{◌∙◌}
use Rattle.fault_campaign.specs.Tallies.{outcome_line}
use Rattle.tool_outcomes.proofs.Writing.{line_last}
use Rattle.tool_commands.proofs.campaign_file.write_outcome.Goals as goal

pub returns-clause-writes : goal.returns-clause-writes
returns-clause-writes g c =
    line_last _ _ _ _ c.as_slice.result.now (outcome_line c.args.name.now c.args.count) _ (c.as_slice.ensures.value ∙ c.outcome_line.ensures) c.write.ensures.ok c.write.ensures.fault c.write.ensures.part
