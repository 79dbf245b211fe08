use Rattle.std.proofs.Common.{◌≡◌, ◌+◌, ◌<◌, ◌≤◌, length}
use Rattle.register_halves.specs.Fit.{HoldAt, FitWithin}
use Rattle.register_halves.proofs.fit.fit_block.Given as goal

abbrev pub invariant-loop-before : goal.invariant-loop-before
invariant-loop-before l = record {
  within : l.before ≤ length l.block.steps;
  eight : 0 < l.first + l.before → length l.now.items ≡ 8;
  here : 0 < l.first + l.before → HoldAt l.function l.places l.now.items (l.first + l.before);
  fits : FitWithin l.function l.places (l.first + l.before) (l.first + length l.block.steps + 1);
}

abbrev pub decreases-loop-before : goal.decreases-loop-before
decreases-loop-before l = l.before
