-- What the audit makes of a refusal of the lint. This file serves private contracts alone.
use Rattle.harden_lint.specs.declared.error.LintError.{LintError}
use Rattle.harden_lint.specs.declared.error.LintError.TheVariants as lints
use Rattle.run_audit.specs.declared.error.AuditError.{AuditError}
use Rattle.run_audit.specs.declared.error.AuditError.TheVariants as errors

abbrev pub of_lint : LintError → AuditError
of_lint (lints.BadAt address rule) = errors.Lint address rule
of_lint lints.OutOfMemory = errors.OutOfMemory
