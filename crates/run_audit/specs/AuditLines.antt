-- The lines that are shown of an audit: where it passes, that it does, how many steps its run made, and how many windows the text
-- has; else why it does not pass, and nothing where there was no memory.
use Rattle.std.specs.Prelude.{ℕ, List, [], ◌++◌, codes, decimal}
use Rattle.fault_replay.specs.Show.{line, address}
use Rattle.run_audit.specs.declared.error.AuditError.{AuditError}
use Rattle.run_audit.specs.declared.error.AuditError.TheVariants as errors

-- the lines of an audit that passes
abbrev pub yes_line : List ℕ
yes_line = line (codes "audit yes")

unfoldable pub steps_line : (made : ℕ) → List ℕ
steps_line made = line (codes "steps " ++ decimal made)

unfoldable pub windows_line : (count : ℕ) → List ℕ
windows_line count = line (codes "windows " ++ decimal count)

abbrev pub passed_lines : (made count : ℕ) → List ℕ
passed_lines made count = yes_line ++ (steps_line made ++ windows_line count)

-- the line of one that does not
unfoldable pub lint_line : (address rule : ℕ) → List ℕ
lint_line at rule = line (codes "audit no: lint rule " ++ decimal rule ++ codes " at " ++ address at)

unfoldable pub reported_line : (step : ℕ) → List ℕ
reported_line step = line (codes "audit no: reported at step " ++ decimal step)

unfoldable pub misplaced_line : (step at : ℕ) → List ℕ
misplaced_line step at = line (codes "audit no: misplaced at " ++ address at ++ codes ", step " ++ decimal step)

abbrev pub no_line : AuditError → List ℕ
no_line (errors.Lint at rule) = lint_line at rule
no_line (errors.Reports step) = reported_line step
no_line (errors.Misplaced step at) = misplaced_line step at
no_line errors.OutOfMemory = []
