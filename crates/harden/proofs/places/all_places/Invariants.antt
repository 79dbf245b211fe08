use Rattle.std.proofs.Common.{◌≡◌, length}
use Rattle.harden.specs.Blocks.{FitTo}
use Rattle.harden.proofs.places.all_places.Given as goal

abbrev pub invariant-loop-function : goal.invariant-loop-function
invariant-loop-function l = record {
  fit : FitTo l.mid l.function-index l.out.items;
  count : length l.out.items ≡ l.function-index;
}
