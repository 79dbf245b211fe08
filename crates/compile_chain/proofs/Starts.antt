-- The starts of an image.
use Rattle.std.proofs.Common.{◌≤◌, ℕ, arith, List}
use Rattle.mips_text.specs.Starts.{HasFewStarts}

-- where at most n addresses are starts, at most m are, if n is at most m
pub at_most : (text : List ℕ) (entry n m : ℕ) → n ≤ m → HasFewStarts text entry n → HasFewStarts text entry m
at_most text entry n m h s = record { list = s.list; few = omega (arith, s.few, h); all = s.all }
