use Rattle.std.proofs.Common.{◌≡◌, ◌≤◌, vec_len}
use Rattle.test_oracle.specs.Locals.{variables_of}
use Rattle.test_oracle.proofs.locals.Locals.reach.Given as goal

abbrev pub invariant-loop-at : goal.invariant-loop-at
invariant-loop-at l = record { long : l.at ≤ vec_len l.self-inside.words; same : variables_of l.self-inside.words.items ≡ variables_of l.initial.self-inside.words.items }
