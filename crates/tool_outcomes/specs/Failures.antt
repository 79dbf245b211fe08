-- Why a command isn't done: the status and the line of each reason.
use Rattle.std.specs.Prelude.{ℕ, List, [], Result, Ok, Err}
use Rattle.eval_show.specs.declared.show.ShowError.{ShowError}
use Rattle.eval_show.specs.declared.show.ShowError.TheVariants as shows
use Rattle.run_audit.specs.declared.error.AuditError.{AuditError}
use Rattle.run_audit.specs.declared.error.AuditError.TheVariants as audits
use Rattle.tool_outcomes.specs.declared.failure.Failure.{Failure}
use Rattle.tool_outcomes.specs.declared.failure.Failure.TheVariants.{Source, Image, LargeImage, Fault, LargeFault, Input, LargeInput, Shelf, Memory}
use Rattle.tool_outcomes.specs.RefusalLines.{source_line, image_line, image_too_large, fault_line, fault_too_large, input_line, input_too_large}

abbrev pub status_of : Failure → ℕ
status_of (Source refusal) = 3
status_of (Image error) = 4
status_of LargeImage = 4
status_of (Fault error) = 5
status_of LargeFault = 5
status_of (Input error) = 6
status_of LargeInput = 6
status_of Shelf = 7
status_of Memory = 9

-- the line that says so; nothing is said of the shelf and of memory
abbrev pub line_of : Failure → List ℕ
line_of (Source refusal) = source_line refusal
line_of (Image error) = image_line error
line_of LargeImage = image_too_large
line_of (Fault error) = fault_line error
line_of LargeFault = fault_too_large
line_of (Input error) = input_line error
line_of LargeInput = input_too_large
line_of Shelf = []
line_of Memory = []

-- the status of an audit that does not pass, or that had no memory
abbrev pub audit_status : AuditError → ℕ
audit_status (audits.Lint address rule) = 10
audit_status (audits.Reports step) = 10
audit_status (audits.Misplaced step at) = 10
audit_status audits.OutOfMemory = 9

-- the status of a run that was shown whole, or not
abbrev pub run_status : Result (Unit {0}) ShowError → ℕ
run_status (Ok done) = 0
run_status (Err shows.Sink) = 8
run_status (Err shows.OutOfMemory) = 9
