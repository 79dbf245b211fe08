use Rattle.std.proofs.Common.{◌≤◌, ℕ, List, Some, Err, length, arith, ap, sym, ◌∙◌, refl}
use Rattle.tool_outcomes.specs.declared.failure.Failure.TheVariants.{LargeImage}
use Rattle.tool_outcomes.specs.Files.{ImageFile, LongImage, longest_image}
use Rattle.tool_outcomes.proofs.Reading.{none_reads, either_reads, bad_image}
use Rattle.tool_outcomes.proofs.take.take_image.Goals as goal

-- the file is not taken
pub returns-in-Err-clause-reads : goal.returns-in-Err-clause-reads
returns-in-Err-clause-reads g c =
    none_reads _ _ _ (ImageFile c.args.name.now) _ longest_image LargeImage c.in-Err.failure (λ bytes long. LongImage c.args.name.now long) c.in-Err.ensures.explained (λ e. c.in-Err.ensures.shelf (ap Err e))

-- the fault of the bytes is why
pub returns-clause-reads : goal.returns-clause-reads
returns-clause-reads g c =
    let bytes : List ℕ = c.deref.result.now in
    let short : length bytes ≤ longest_image = omega (arith, c.in-Ok.ensures.short, ap length c.deref.ensures.value) in
    either_reads _ _ _ (ImageFile c.args.name.now) _ bytes c.image_failure.result (λ t. c.in-Ok.ensures.held t ∙ ap Some (sym c.deref.ensures.value))
    (bad_image c.args.name.now bytes c.in-Err-read_image.error c.image_failure.result short (λ apart. c.in-Err-read_image.ensures.first c.in-Err-read_image.error refl apart) c.image_failure.ensures)
