use Rattle.std.proofs.Common.{◌++◌, ◌∙◌, refl}
use Rattle.std.specs.Prelude.{codes}
use Rattle.fault_replay.specs.Show.{end_line}
use Rattle.hardcc_core.specs.declared.self_file.Summary.{Summary}
use Rattle.fault_campaign.specs.Tallies.{outcome_line}
use Rattle.tool_outcomes.proofs.Reading.{rises}
use Rattle.tool_outcomes.proofs.Writing.{writes_front, writes_behind, line_last}
use Rattle.hardcc_core.proofs.self_file.write_counted.Goals as goal

pub returns-in-Err-clause-writes : goal.returns-in-Err-clause-writes
returns-in-Err-clause-writes g c =
    let t : Summary = c.args.told in
    writes_front _ _ _ _ (outcome_line (codes "outputs ") t.counted.outputs) (outcome_line (codes "sum ") t.counted.total ++ end_line t.end) _ _ refl c.in-Err.ensures.writes

pub returns-in-Ok-clause-writes : goal.returns-in-Ok-clause-writes
returns-in-Ok-clause-writes g c =
    let t : Summary = c.args.told in
    writes_behind (g.O.Sink.tells c.args.out.now) (g.O.Sink.tells c.write_outcome.new.out) (g.O.Sink.written c.args.out.now) (g.O.Sink.written c.write_outcome.new.out) _ _ _
    (outcome_line (codes "outputs ") t.counted.outputs) (outcome_line (codes "sum ") t.counted.total ++ end_line t.end) _
    c.write_outcome.ensures.tells c.in-Ok.ensures.writes.ok (λ rose. rises _ _ _ c.write_outcome.ensures.count rose) c.write_total.ensures.writes
