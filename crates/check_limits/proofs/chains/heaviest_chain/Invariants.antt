use Rattle.std.proofs.Common.{◌≡◌, ℕ, ◌-◌, ◌≤◌, get_or, true}
use Rattle.check_limits.specs.Calls.{capped}
use Rattle.check_limits.specs.Tables.{is_wanted, chain_over}
use Rattle.check_limits.proofs.chains.heaviest_chain.Given as goal

abbrev pub invariant-loop-done : goal.invariant-loop-done
invariant-loop-done l = record {
  within : l.done ≤ l.most;
  numbers : (name : ℕ) → is_wanted l.from l.reached name ≡ true → get_or l.numbers name 0 ≡ capped (chain_over l.graph l.weights l.done name);
}

abbrev pub decreases-loop-done : goal.decreases-loop-done
decreases-loop-done l = l.most - l.done
