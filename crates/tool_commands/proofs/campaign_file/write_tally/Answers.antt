use Rattle.std.proofs.Common.{◌++◌, refl}
use Rattle.std.specs.Prelude.{codes}
use Rattle.fault_campaign.specs.declared.outcome.Tally.{Tally}
use Rattle.fault_campaign.specs.Tallies.{outcome_line}
use Rattle.tool_outcomes.proofs.Reading.{rises}
use Rattle.tool_outcomes.proofs.Writing.{writes_front, writes_behind}
use Rattle.tool_commands.proofs.campaign_file.write_tally.Goals as goal

pub returns-in-Err-clause-writes : goal.returns-in-Err-clause-writes
returns-in-Err-clause-writes g c =
    let t : Tally = c.args.tally in
    writes_front _ _ _ _ (outcome_line (codes "same ") t.same) (outcome_line (codes "reported ") t.reported ++ (outcome_line (codes "exception ") t.exception ++ (outcome_line (codes "windowed ") t.windowed ++ outcome_line (codes "silent ") t.silent))) _ _ refl c.in-Err.ensures.writes

pub returns-in-Ok-clause-writes : goal.returns-in-Ok-clause-writes
returns-in-Ok-clause-writes g c =
    let t : Tally = c.args.tally in
    writes_behind (g.O.Sink.tells c.args.out.now) (g.O.Sink.tells c.write_outcome.new.out) (g.O.Sink.written c.args.out.now) (g.O.Sink.written c.write_outcome.new.out) _ _ _
    (outcome_line (codes "same ") t.same) (outcome_line (codes "reported ") t.reported ++ (outcome_line (codes "exception ") t.exception ++ (outcome_line (codes "windowed ") t.windowed ++ outcome_line (codes "silent ") t.silent))) _
    c.write_outcome.ensures.tells c.in-Ok.ensures.writes.ok (λ rose. rises _ _ _ c.write_outcome.ensures.count rose) c.write_noticed.ensures.writes
