use Rattle.std.proofs.Common.{◌≡◌, ◌++◌, drop}
use Rattle.duplicate_pass.specs.Doubled.{function_blocks}
use Rattle.duplicate_pass.proofs.blocks.put_function.Given as goal

abbrev pub invariant-loop-block : goal.invariant-loop-block
invariant-loop-block l = l.out ++ function_blocks l.fn.mid l.fn.number l.block l.fn.function l.fn.places (drop l.block l.fn.function.blocks)
    ≡ l.fn.out ++ function_blocks l.fn.mid l.fn.number 0 l.fn.function l.fn.places l.fn.function.blocks
