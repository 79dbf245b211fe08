-- How many starts of blocks a text has.
use Rattle.std.specs.Prelude.{◌≤◌, ℕ, List, length, Contains}
use Rattle.mips_text.specs.Blocks.{IsStart}

-- At most n addresses are starts of blocks of a text: each start stands in a list of so many.
pub record HasFewStarts (text : List ℕ) (entry n : ℕ) : Type 0 where
  pub list : List ℕ
  pub few : length list ≤ n
  pub all : (w : ℕ) → IsStart text entry w → Contains list w
