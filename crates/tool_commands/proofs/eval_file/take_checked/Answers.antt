use Rattle.std.proofs.Common.{◌∙◌, Some, Err, ap, sym}
use Rattle.compile_rules.specs.declared.refusal.Refusal.TheVariants.{TooLong}
use Rattle.tool_outcomes.specs.declared.failure.Failure.TheVariants.{Source}
use Rattle.compile_rules.specs.Compiled.{IsCheckedSource, longest_source}
use Rattle.tool_outcomes.specs.Files.{SourceFile, BadSource}
use Rattle.tool_outcomes.proofs.Reading.{none_reads, compiled_reads}
use Rattle.tool_commands.proofs.eval_file.take_checked.Goals as goal

-- the file is not taken
pub returns-in-Err-clause-reads : goal.returns-in-Err-clause-reads
returns-in-Err-clause-reads g c =
    none_reads _ _ _ (SourceFile c.args.source.now) _ longest_source (Source TooLong) c.in-Err.failure (λ bytes long. BadSource c.args.source.now TooLong long) c.in-Err.ensures.explained (λ e. c.in-Err.ensures.shelf (ap Err e))

-- it is checked, or refused
pub returns-in-Ok-clause-reads : goal.returns-in-Ok-clause-reads
returns-in-Ok-clause-reads g c =
    compiled_reads _ _ _ c.args.source.now c.deref.result.now (λ bytes made. IsCheckedSource bytes made) c.checked.result
    (λ t. c.in-Ok.ensures.held t ∙ ap Some (sym c.deref.ensures.value)) c.checked.ensures.ok c.checked.ensures.explained
