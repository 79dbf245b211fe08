use Rattle.std.proofs.Common.{◌≡◌, ◌+◌, take, length}
use Rattle.lower_names.specs.Calls.{chosen, NotesFrom}
use Rattle.lower_names.proofs.calls.note_all.Given as goal

abbrev pub invariant-loop-item : goal.invariant-loop-item
invariant-loop-item l = (l.next ≡ l.number + length (chosen l.of_main l.main (take l.item-index l.items))) × NotesFrom l.number (chosen l.of_main l.main (take l.item-index l.items)) l.fn.all.items l.all.items
