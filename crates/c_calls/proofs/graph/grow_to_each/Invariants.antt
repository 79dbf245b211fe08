use Rattle.std.proofs.Common.{◌<◌, length, take}
use Rattle.std.specs.List.{All}
use Rattle.c_calls.specs.Lists.{Grown}
use Rattle.c_calls.proofs.graph.grow_to_each.Given as goal

abbrev pub invariant-loop-name : goal.invariant-loop-name
invariant-loop-name l = record { grown : Grown l.fn.lists l.lists; within : All (λ name. name < length l.lists) (take l.name-index l.names) }
