use Rattle.std.proofs.Common.{◌≡◌, ◌++◌, take, map}
use Rattle.c_meaning.specs.Meaning as meaning
use Rattle.lower_names.specs.Files.{words_of}
use Rattle.lower_names.proofs.files.push_words.Given as goal

abbrev pub invariant-loop-g : goal.invariant-loop-g
invariant-loop-g l = l.out ≡ l.fn.out ++ map words_of (map meaning.global (take l.g-index l.variables))
