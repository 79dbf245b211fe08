use Rattle.std.proofs.Common.{◌≡◌, ◌++◌, take, map}
use Rattle.c_meaning.specs.Meaning as meaning
use Rattle.lower_rules.specs.Programs as programs
use Rattle.lower_names.proofs.files.push_shapes.Given as goal

abbrev pub invariant-loop-g : goal.invariant-loop-g
invariant-loop-g l = l.out ≡ l.fn.out ++ map programs.shape_of (map meaning.global (take l.g-index l.variables))
