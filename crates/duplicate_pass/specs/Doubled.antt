-- The whole program that a program in blocks becomes: its blocks with their successors, in order.
use Rattle.std.specs.Prelude.{ℕ, ◌+◌, ◌*◌, List, [], ◌∷◌, ◌++◌, flat_map, length, map}
use Rattle.std.specs.List.{range_with_len}
use Rattle.hard_items.specs.declared.code.HardBlock.{HardBlock}
use Rattle.hard_items.specs.declared.code.HardProgram.{HardProgram}
use Rattle.mid_blocks.specs.declared.code.MidBlock.{MidBlock}
use Rattle.mid_blocks.specs.declared.code.MidFunction.{MidFunction}
use Rattle.mid_blocks.specs.declared.code.Mid.{Mid}
use Rattle.mid_blocks.specs.declared.places.Places.{Places}
use Rattle.frame_plan.specs.Frames.{cells}
use Rattle.double_law.specs.Ways.{successors}
use Rattle.double_law.specs.Program.{first_block, start_items, body_items, first_items, exit_items, doubled}

-- ---- the blocks

abbrev pub doubled_block : Mid → (n b : ℕ) → MidFunction → Places → MidBlock → HardBlock
doubled_block mid n b f at k = record { items = start_items f at b ++ body_items mid n f at k; successors = successors mid n b k.end }

-- The blocks of a function, from one on.
abbrev pub function_blocks : Mid → (n b : ℕ) → MidFunction → Places → List MidBlock → List HardBlock
function_blocks mid n b f at [] = []
function_blocks mid n b f at (k ∷ more) = doubled_block mid n b f at k ∷ function_blocks mid n (b + 1) f at more

-- The blocks of functions, from one on, each with its places.
abbrev pub program_blocks : Mid → ℕ → List MidFunction → List Places → List HardBlock
program_blocks mid n [] places = []
program_blocks mid n (f ∷ fs) [] = []
program_blocks mid n (f ∷ fs) (at ∷ more) = function_blocks mid n 0 f at f.blocks ++ program_blocks mid (n + 1) fs more

-- ---- the program

-- The first block calls function 0, the second exits with what it returned.
abbrev pub first_one : Mid → HardBlock
first_one mid = record { items = first_items mid; successors = first_block mid 0 ∷ [] }

abbrev pub exit_one : HardBlock
exit_one = record { items = exit_items; successors = [] }

abbrev pub doubled_program : Mid → List Places → HardProgram
doubled_program mid places = record {
  blocks = first_one mid ∷ exit_one ∷ program_blocks mid 0 mid.functions places;
  entries = map (first_block mid) (range_with_len 0 (length mid.functions));
  initial = doubled (flat_map (λ words. words) mid.globals);
  memory_words = 2 * cells mid;
}
