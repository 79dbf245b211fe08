use Rattle.std.proofs.Common.{refl}
use Rattle.tool_commands.proofs.audit_file.pass.Goals as goal

pub returns-in-Err-clause-refused : goal.returns-in-Err-clause-refused
returns-in-Err-clause-refused c = λ apart. (c.in-Err.ensures.refuses (λ q. apart (cc)) c.in-Err.error).0 refl

pub returns-clause-passed : goal.returns-clause-passed
returns-clause-passed c = record {
  passes = (c.in-Ok.ensures.passes (λ q. cc) c.in-Ok.made).0 refl;
  windows = c.in-Ok-window_count.ensures;
  run = c.in-Ok.ensures.run;
}
