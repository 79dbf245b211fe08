use Rattle.layout_law.proofs.Signed as proof
use Rattle.layout_law.proofs.words_never_report.Goals as goal

pub returns : goal.returns
returns c = proof.signed_unreported
