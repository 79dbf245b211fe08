use Rattle.std.proofs.Common.{◌≡◌, ◌++◌, replicate}
use Rattle.hard_items.specs.Streams.{plain, nop}
use Rattle.hard_items.specs.declared.code.Class.TheVariants.{Master}
use Rattle.block_schedule.proofs.spaces.put_nops.Given as goal

abbrev pub invariant-loop-placed : goal.invariant-loop-placed
invariant-loop-placed l = l.out.items ≡ l.initial.out.items ++ replicate l.placed (plain nop Master)
