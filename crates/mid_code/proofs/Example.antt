-- A check by hand: a program that puts out a word and the sum of two.
use Rattle.std.specs.Prelude.{◌≡◌, [], ◌∷◌, Some, refl}
use Rattle.mid_blocks.specs.declared.code.MidOp.TheVariants.{Add}
use Rattle.mid_blocks.specs.declared.code.MidStep.TheVariants.{Constant, Input, Output, Operate}
use Rattle.mid_blocks.specs.declared.code.MidEnd.TheVariants.{Call, Return, Jump}
use Rattle.mid_blocks.specs.declared.code.Mid.{Mid}
use Rattle.mid_blocks.specs.declared.code.RunEnd.TheVariants.{Exited, Starved}
use Rattle.mid_blocks.specs.Run.{block_run}

-- main() { out_word(5); return add(in_word(), 7); }
example : Mid
example = record {
  functions = record { params = 0; variables = 2; pairs = 3; blocks = record { steps = Constant 0 5 ∷ Output 0 ∷ Input 0 ∷ Constant 1 7 ∷ []; end = Call 1 (0 ∷ 1 ∷ []) (Some 0) } ∷ record { steps = []; end = Return (Some 0) } ∷ [] }
      ∷ record { params = 2; variables = 3; pairs = 4; blocks = record { steps = Operate Add 2 0 1 ∷ []; end = Jump 1 } ∷ record { steps = []; end = Return (Some 2) } ∷ [] } ∷ [];
  globals = [];
  chain_pairs = 7;
}

runs : block_run example (3 ∷ []) 9 ≡ record { output = 5 ∷ []; end = Some (Exited 10) }
unfolding example
runs = refl

starves : block_run example [] 9 ≡ record { output = 5 ∷ []; end = Some Starved }
unfolding example
starves = refl
