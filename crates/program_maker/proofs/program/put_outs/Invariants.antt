use Rattle.std.proofs.Common.{◌≡◌, ◌++◌}
use Rattle.program_maker.specs.Text.{outs_text}
use Rattle.program_maker.proofs.program.put_outs.Given as goal

abbrev pub invariant-loop-k : goal.invariant-loop-k
invariant-loop-k l = l.text.items ≡ l.initial.text.items ++ outs_text l.k
