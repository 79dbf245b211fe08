use Rattle.std.proofs.Common.{◌≡◌}
use Rattle.mid_blocks.specs.Lines.{first_of}
use Rattle.register_halves.specs.Fit.{FitWithin}
use Rattle.register_halves.proofs.fit.fit_blocks.Given as goal

abbrev pub invariant-loop-block : goal.invariant-loop-block
invariant-loop-block l = record {
  at : l.number ≡ l.block-index;
  fits : FitWithin l.function l.places 0 (first_of l.function l.block-index);
}
