use Rattle.std.proofs.Common.{◌≡◌, ◌*◌, ◌++◌}
use Rattle.program_maker.specs.Draws.{start, draw}
use Rattle.program_maker.specs.Text.{functions_text}
use Rattle.program_maker.proofs.program.put_functions.Given as goal

abbrev pub invariant-loop-k : goal.invariant-loop-k
invariant-loop-k l = record {
  text : l.text.items ≡ l.initial.text.items ++ functions_text l.number l.k;
  last : l.draws.last ≡ draw (start l.number) (8 * l.k);
}
