-- For private contracts alone: what is told of an audit that passes.
use Rattle.std.specs.Prelude.{ℕ, List}
use Rattle.mips_isa.specs.Image.{ImageFields}
use Rattle.run_audit.specs.Audits.{Passes, AuditedRun, CountsWindows}
use Rattle.tool_commands.specs.declared.audit_file.Passed.{Passed}

-- The run passes, with so many steps and windows, and what holds of such a run.
pub record IsPassed (i : ImageFields) (input : List ℕ) (steps : ℕ) (passed : Passed) : Type 0 where
  pub passes : Passes i input steps passed.made
  pub windows : CountsWindows i.text passed.windows
  pub run : AuditedRun i input steps
