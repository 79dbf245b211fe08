use Rattle.std.proofs.Common.{◌≡◌, ◌++◌, ◌*◌, drop, map}
use Rattle.frame_plan.proofs.numbers.frame_bytes.Given as goal

abbrev pub invariant-loop-function : goal.invariant-loop-function
invariant-loop-function l = l.out.items ++ map (λ f. 8 * f.pairs) (drop l.function-index l.functions) ≡ map (λ f. 8 * f.pairs) l.functions
