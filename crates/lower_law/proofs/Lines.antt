-- Lines that stand in a function, and the place behind them.
use Rattle.std.proofs.Common.{◌≡◌, ℕ, ◌+◌, List, [], ◌∷◌, ◌++◌, Some, refl}
use Rattle.mid_blocks.specs.declared.code.MidFunction.{MidFunction}
use Rattle.mid_blocks.specs.Lines.{Line, Step, End, line_at}

-- where a call stands: in a block, with so many steps of it done
pub record Spot : Type 0 where
  pub block : ℕ
  pub step : ℕ

abbrev pub spot : ℕ → ℕ → Spot
spot block step = record { block = block; step = step }

-- the start of a block
abbrev pub start : ℕ → Spot
start block = spot block 0

-- behind a line that stands there
abbrev pub behind : Spot → Line → Spot
behind at (Step step) = spot at.block (at.step + 1)
behind at (End end) = spot (at.block + 1) 0

abbrev pub past : Spot → List Line → Spot
past at [] = at
past at (line ∷ lines) = past (behind at line) lines

pub past-append : (at : Spot) (xs ys : List Line) → past at (xs ++ ys) ≡ past (past at xs) ys
past-append at [] ys = refl
past-append at (x ∷ xs) ys = past-append (behind at x) xs ys

-- the lines stand there one after the other
abbrev pub Stands : MidFunction → Spot → List Line → Type 0
Stands f at [] = Unit {0}
Stands f at (line ∷ lines) = (line_at f at.block at.step ≡ Some line) × Stands f (behind at line) lines

pub stands_front : (f : MidFunction) (at : Spot) (xs ys : List Line) → Stands f at (xs ++ ys) → Stands f at xs
stands_front f at [] ys h = tt
stands_front f at (x ∷ xs) ys h = (h.0, stands_front f (behind at x) xs ys h.1)

pub stands_back : (f : MidFunction) (at : Spot) (xs ys : List Line) → Stands f at (xs ++ ys) → Stands f (past at xs) ys
stands_back f at [] ys h = h
stands_back f at (x ∷ xs) ys h = stands_back f (behind at x) xs ys h.1
