use Rattle.std.proofs.Common.{◌≡◌, take, map}
use Rattle.c_meaning.specs.Meaning.{constant}
use Rattle.lower_names.proofs.files.constants.Given as goal

abbrev pub invariant-loop-e : goal.invariant-loop-e
invariant-loop-e l = l.words ≡ map constant (take l.e-index l.list)
