use Rattle.std.proofs.Common.{◌≡◌, map}
use Rattle.compare_pass.specs.Guarding.{checked_block}
use Rattle.compare_pass.proofs.pass.guard_blocks.Given as goal

abbrev pub invariant-loop-block : goal.invariant-loop-block
invariant-loop-block l = l.out.items ≡ map checked_block l.yielded
