use Rattle.std.proofs.Common.{◌≡◌, sym, subst}
use Rattle.std.specs.Prelude.{Result, IfOk}
use Rattle.hard_words.specs.declared.Change.{Change}
use Rattle.hard_lines.specs.declared.faults.FaultError.{FaultError}
use Rattle.hard_lines.specs.Faults.{IsInBounds}
use Rattle.hard_lines.proofs.FaultBounds.{change_bounds}
use Rattle.hard_lines.proofs.faults.read_fault.Goals as goal

pub returns-clause-bounds : goal.returns-clause-bounds
returns-clause-bounds c = subst (λ (r : Result Change FaultError). IfOk r IsInBounds) (sym c.change_of.ensures) (change_bounds c.line_of.result.now)
