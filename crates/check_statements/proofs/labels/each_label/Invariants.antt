use Rattle.std.proofs.Common.{◌≡◌, ◌++◌, reverse, length, Ok}
use Rattle.check_rules.specs.Fault.{◌>>=◌}
use Rattle.check_rules.specs.Walk.{walk_labels}
use Rattle.check_scopes.proofs.Turns.{onto_front}
use Rattle.check_statements.proofs.labels.each_label.Given as goal

abbrev pub invariant-loop-l : goal.invariant-loop-l
invariant-loop-l l = l.ls ++ reverse l.turned ≡ l.fn.ls

abbrev pub decreases-loop-l : goal.decreases-loop-l
decreases-loop-l l = length l.ls

abbrev pub invariant-loop-l-2 : goal.invariant-loop-l-2
invariant-loop-l-2 l = walk_labels l.fn.ls l.fn.labels l.scopes ≡ walk_labels (reverse l.turned) l.labels l.scopes >>= onto_front l.all

abbrev pub decreases-loop-l-2 : goal.decreases-loop-l-2
decreases-loop-l-2 l = length l.turned
