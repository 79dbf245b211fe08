use Rattle.layout_facts.proofs.LaidSignsWhole.{signed_is_laid}
use Rattle.layout_facts.proofs.laid_signs.signed_is_laid.Goals as goal

pub returns : goal.returns
returns c = signed_is_laid
