use Rattle.third_lint.proofs.Few.{few_windows}
use Rattle.third_lint.proofs.laws.few_windows.Goals as goal

pub returns : goal.returns
returns c = few_windows
