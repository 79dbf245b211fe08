use Rattle.std.proofs.Common.{take}
use Rattle.eval_parts.specs.Tables.{HasFunctions}
use Rattle.eval_parts.proofs.code.functions.Given as goal

abbrev pub invariant-loop-i : goal.invariant-loop-i
invariant-loop-i l = HasFunctions l.table.items (take l.i l.items)
