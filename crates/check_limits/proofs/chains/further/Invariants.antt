use Rattle.std.proofs.Common.{◌≡◌, ℕ, ◌+◌, ◌<◌, map, length, get_or, [], true}
use Rattle.c_syntax.specs.Sizes.{greatest}
use Rattle.check_limits.specs.Calls.{capped}
use Rattle.check_limits.specs.Tables.{is_wanted}
use Rattle.check_limits.proofs.chains.further.Given as goal

abbrev pub invariant-loop-name : goal.invariant-loop-name
invariant-loop-name l = record {
  size : length l.next ≡ l.name;
  below : (k : ℕ) → k < l.name → is_wanted l.from l.reached k ≡ true → get_or l.next k 0 ≡ capped (get_or l.weights k 0 + greatest (map (λ n. get_or l.numbers n 0) (get_or l.graph k [])));
}
