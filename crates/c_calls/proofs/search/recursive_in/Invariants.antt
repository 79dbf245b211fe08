use Rattle.std.proofs.Common.{◌≡◌, ℕ, ◌+◌, ◌<◌, length, get_or, false, IsTrue, ◌↔◌}
use Rattle.c_calls.specs.Lists.{Leads}
use Rattle.c_calls.proofs.search.recursive_in.Given as goal

abbrev pub invariant-loop-name : goal.invariant-loop-name
invariant-loop-name l = record {
  long : length l.marks.items ≡ length l.graph;
  stamps : (x : ℕ) → get_or l.marks.items x 0 < l.name + 1;
  size : length l.recursive.items ≡ l.name;
  answers : (k : ℕ) → k < l.name → IsTrue (get_or l.recursive.items k false) ↔ Leads l.graph k k;
}
