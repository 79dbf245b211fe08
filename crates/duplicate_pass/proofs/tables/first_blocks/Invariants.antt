use Rattle.std.proofs.Common.{◌≡◌, ◌+◌, ◌<◌, ◌^◌, length, map, sum, ◌++◌, drop}
use Rattle.duplicate_pass.specs.Emits.{firsts_from}
use Rattle.duplicate_pass.proofs.tables.first_blocks.Given as goal

abbrev pub invariant-loop-function : goal.invariant-loop-function
invariant-loop-function l = record {
  put : l.out.items ++ firsts_from l.first (drop l.function-index l.functions) ≡ firsts_from 2 l.functions;
  few : l.first + sum (map (λ f. length f.blocks) (drop l.function-index l.functions)) < 2 ^ 32;
}
