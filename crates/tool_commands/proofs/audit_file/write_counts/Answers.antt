use Rattle.std.proofs.Common.{◌∙◌}
use Rattle.run_audit.specs.AuditLines.{steps_line, windows_line}
use Rattle.tool_outcomes.proofs.Reading.{rises}
use Rattle.tool_outcomes.proofs.Writing.{line_front, line_behind, line_last}
use Rattle.tool_commands.proofs.audit_file.write_counts.Goals as goal

pub returns-in-Err-clause-writes : goal.returns-in-Err-clause-writes
returns-in-Err-clause-writes g c =
    line_front _ _ _ _ c.as_slice.result.now (steps_line c.args.passed.made) (windows_line c.args.passed.windows) _
    (c.as_slice.ensures.value ∙ c.steps_line.ensures) c.in-Err.ensures.fault c.in-Err.ensures.part

pub returns-in-Ok-clause-writes : goal.returns-in-Ok-clause-writes
returns-in-Ok-clause-writes g c =
    line_behind (g.O.Sink.tells c.args.out.now) (g.O.Sink.tells c.write.new.self) (g.O.Sink.written c.args.out.now) (g.O.Sink.written c.write.new.self) (g.O.Sink.written c.write-in-Ok.new.self) _ _
    c.as_slice.result.now (steps_line c.args.passed.made) (windows_line c.args.passed.windows) _
    c.write.ensures.tells c.in-Ok.ensures.ok (c.as_slice.ensures.value ∙ c.steps_line.ensures) (λ rose. rises _ _ _ c.write.ensures.count rose)
    (line_last _ _ _ _ c.as_slice-in-Ok.result.now (windows_line c.args.passed.windows) _ (c.as_slice-in-Ok.ensures.value ∙ c.windows_line.ensures) c.write-in-Ok.ensures.ok c.write-in-Ok.ensures.fault c.write-in-Ok.ensures.part)
