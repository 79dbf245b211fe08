use Rattle.std.proofs.Common.{◌≡◌, take}
use Rattle.c_meaning.specs.Meaning.{globals}
use Rattle.eval_state.proofs.files.Files.start.Given as goal

abbrev pub invariant-loop-item : goal.invariant-loop-item
invariant-loop-item l = l.files ≡ globals (take l.item-index l.items)
