use Rattle.layout_moves_law.proofs.SmoothLawSmooth.{smooth_words_have_no_alias}
use Rattle.layout_moves_law.proofs.smooth_law.smooth_words_have_no_alias.Goals as goal

pub returns : goal.returns
returns c = smooth_words_have_no_alias
