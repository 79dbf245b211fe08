use Rattle.third_lint.proofs.Few.{four_registers}
use Rattle.third_lint.proofs.laws.four_registers.Goals as goal

pub returns : goal.returns
returns c = four_registers
