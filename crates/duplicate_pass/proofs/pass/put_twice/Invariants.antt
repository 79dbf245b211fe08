use Rattle.std.proofs.Common.{◌≡◌, ◌++◌, drop}
use Rattle.double_law.specs.Program.{doubled}
use Rattle.duplicate_pass.proofs.pass.put_twice.Given as goal

abbrev pub invariant-loop-word : goal.invariant-loop-word
invariant-loop-word l = record {
  put : l.out ++ doubled (drop l.word-index l.words) ≡ l.initial.out ++ doubled l.words;
}
