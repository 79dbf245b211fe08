-- Programs of one small function that calls nothing, a leaf of the tree of calls.
use Rattle.std.specs.Prelude.{◌≡◌, ◌≤◌, false, length}
use Rattle.std.specs.List.{All}
use Rattle.mid_blocks.specs.declared.code.MidFunction.{MidFunction}
use Rattle.mid_blocks.specs.declared.code.Mid.{Mid}
use Rattle.mid_blocks.specs.Valid.{is_call}

-- The function has at most eight variables, and calls nothing.
pub record IsSmallLeaf (f : MidFunction) : Type 0 where
  pub few : f.variables ≤ 8
  pub calls_nothing : All (λ b. is_call b.end ≡ false) f.blocks

-- The program is one such function.
pub record IsOneLeaf (mid : Mid) : Type 0 where
  pub one : length mid.functions ≤ 1
  pub each : All IsSmallLeaf mid.functions
