use Rattle.std.proofs.Common.{◌≡◌}
use Rattle.c_meaning.specs.Meaning.{padded}
use Rattle.check_scopes.proofs.pending.padded.Given as goal

abbrev pub invariant-loop-i : goal.invariant-loop-i
invariant-loop-i l = l.words.items ≡ padded l.i l.first
