use Rattle.std.proofs.Common.{◌≡◌, ◌++◌, drop}
use Rattle.std.specs.Prelude.{flat_map}
use Rattle.double_law.specs.Program.{doubled}
use Rattle.duplicate_pass.proofs.pass.doubled_words.Given as goal

abbrev pub invariant-loop-global : goal.invariant-loop-global
invariant-loop-global l = record {
  put : l.out ++ doubled (flat_map (λ words. words) (drop l.global-index l.globals)) ≡ doubled (flat_map (λ words. words) l.globals);
}
