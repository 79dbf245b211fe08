use Rattle.std.proofs.Common.{◌≤◌, ℕ, List, Some, Err, length, arith, ap, sym, ◌∙◌}
use Rattle.tool_outcomes.specs.declared.failure.Failure.TheVariants.{LargeInput}
use Rattle.tool_outcomes.specs.Files.{InputFile, LongInput, longest_input}
use Rattle.tool_outcomes.proofs.Reading.{none_reads, either_reads, bad_input}
use Rattle.tool_outcomes.proofs.take.take_input.Goals as goal

-- the file is not taken
pub returns-in-Err-clause-reads : goal.returns-in-Err-clause-reads
returns-in-Err-clause-reads g c =
    none_reads _ _ _ (InputFile c.args.name.now) _ longest_input LargeInput c.in-Err.failure (λ bytes long. LongInput c.args.name.now long) c.in-Err.ensures.explained (λ e. c.in-Err.ensures.shelf (ap Err e))

-- the fault of the text is why
pub returns-clause-reads : goal.returns-clause-reads
returns-clause-reads g c =
    let bytes : List ℕ = c.deref.result.now in
    let short : length bytes ≤ longest_input = omega (arith, c.in-Ok.ensures.short, ap length c.deref.ensures.value) in
    either_reads _ _ _ (InputFile c.args.name.now) _ bytes c.input_failure.result (λ t. c.in-Ok.ensures.held t ∙ ap Some (sym c.deref.ensures.value))
    (bad_input c.args.name.now bytes c.in-Err-read_inputs.error c.input_failure.result short c.in-Err-read_inputs.ensures.err c.input_failure.ensures)
