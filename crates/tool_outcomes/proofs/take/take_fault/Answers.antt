use Rattle.std.proofs.Common.{◌≤◌, ℕ, List, Some, Err, length, arith, ap, sym, ◌∙◌}
use Rattle.tool_outcomes.specs.declared.failure.Failure.TheVariants.{LargeFault}
use Rattle.tool_outcomes.specs.Files.{FaultFile, LongFault, BadFault, longest_fault}
use Rattle.tool_outcomes.proofs.Reading.{none_reads, bad_reads}
use Rattle.tool_outcomes.proofs.take.take_fault.Goals as goal

-- the file is not taken
pub returns-in-Err-clause-reads : goal.returns-in-Err-clause-reads
returns-in-Err-clause-reads g c =
    none_reads _ _ _ (FaultFile c.args.name.now) _ longest_fault LargeFault c.in-Err.failure (λ bytes long. LongFault c.args.name.now long) c.in-Err.ensures.explained (λ e. c.in-Err.ensures.shelf (ap Err e))

-- the fault of the text is why
pub returns-clause-reads : goal.returns-clause-reads
returns-clause-reads g c =
    let bytes : List ℕ = c.deref.result.now in
    let short : length bytes ≤ longest_fault = omega (arith, c.in-Ok.ensures.short, ap length c.deref.ensures.value) in
    bad_reads _ _ _ (FaultFile c.args.name.now) _ bytes _ (λ e. cc) (λ t. c.in-Ok.ensures.held t ∙ ap Some (sym c.deref.ensures.value))
    (BadFault c.args.name.now c.in-Err-read_fault.error short (sym c.in-Err-read_fault.ensures.change))
