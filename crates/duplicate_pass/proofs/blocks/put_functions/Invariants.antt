use Rattle.std.proofs.Common.{◌≡◌, ◌++◌, drop}
use Rattle.duplicate_pass.specs.Doubled.{program_blocks}
use Rattle.duplicate_pass.proofs.blocks.put_functions.Given as goal

abbrev pub invariant-loop-function : goal.invariant-loop-function
invariant-loop-function l = record {
  put : l.out ++ program_blocks l.mid l.number (drop l.function-index l.mid.functions) (drop l.function-index l.places) ≡ l.initial.out ++ program_blocks l.mid 0 l.mid.functions l.places;
  count : l.number ≡ l.function-index;
}
