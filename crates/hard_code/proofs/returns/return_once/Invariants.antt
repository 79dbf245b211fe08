use Rattle.hard_code.proofs.Once.{OnceBelow}
use Rattle.hard_code.proofs.returns.return_once.Given as goal

abbrev pub invariant-loop-block : goal.invariant-loop-block
invariant-loop-block l = OnceBelow l.blocks l.entries l.last l.block
