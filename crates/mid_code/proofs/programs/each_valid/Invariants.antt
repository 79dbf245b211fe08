use Rattle.std.specs.List.{AllWithin}
use Rattle.mid_blocks.specs.Valid.{ValidFunction}
use Rattle.mid_code.proofs.programs.each_valid.Given as goal

abbrev pub invariant-loop-function : goal.invariant-loop-function
invariant-loop-function l = AllWithin ValidFunction l.functions 0 l.function-index
