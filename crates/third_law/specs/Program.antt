-- The words that a program in blocks becomes.
use Rattle.std.specs.Prelude.{ℕ, ◌+◌, ◌*◌, ◌/◌, ◌%◌, ◌^◌, zero, suc, List, [], ◌∷◌, ◌++◌, flat_map, length, map, sum, take, Option, Some, None}
use Rattle.std.specs.Prelude.{slice_get}
use Rattle.mips_isa.specs.declared.instr.Instr.{Instr}
use Rattle.mips_isa.specs.declared.instr.Instr.TheVariants as mips
use Rattle.mips_isa.specs.Table.{encoding}
use Rattle.mips_isa.specs.Image.{ImageFields}
use Rattle.mid_blocks.specs.declared.code.MidEnd.{MidEnd}
use Rattle.mid_blocks.specs.declared.code.MidEnd.TheVariants.{Jump, Branch, Call, Return}
use Rattle.mid_blocks.specs.declared.code.MidBlock.{MidBlock}
use Rattle.mid_blocks.specs.declared.code.MidFunction.{MidFunction}
use Rattle.mid_blocks.specs.declared.code.Mid.{Mid}
use Rattle.mid_blocks.specs.declared.places.Places.{Places}
use Rattle.frame_plan.specs.Frames.{global_cell, global_length, cells}
use Rattle.third_law.specs.declared.roles.Role.TheVariants.{Stack}
use Rattle.third_law.specs.Roles.{reg_in, each}
use Rattle.third_law.specs.Emitted.{step_code, end_code, enter_code, result_code, call_code, service_code}

-- The address of a cell: each takes sixteen bytes, of which the last four aren't used.
abbrev pub cell_address : ℕ → ℕ
cell_address c = 0x10010000 + 16 * c

-- The number of the first block of a function: two blocks stand before all functions.
abbrev pub first_block : Mid → ℕ → ℕ
first_block mid f = 2 + sum (map (λ g. length g.blocks) (take f mid.functions))

-- ---- blocks

-- The words with which a block begins, by the end of the block before it.
abbrev pub behind_end : Places → MidEnd → List Instr
behind_end places (Jump to) = []
behind_end places (Branch v when to) = []
behind_end places (Call function args result) = result_code places result
behind_end places (Return from) = []

abbrev pub behind_block : Places → Option MidBlock → List Instr
behind_block places None = []
behind_block places (Some b) = behind_end places b.end

abbrev pub start_code : MidFunction → Places → ℕ → List Instr
start_code f places zero = enter_code places f.pairs f.params
start_code f places (suc b) = behind_block places (slice_get f.blocks b)

-- The words of the steps, and those of the end, where the blocks have these addresses.
abbrev pub body_code : (ℕ → ℕ) → Mid → (n b : ℕ) → MidFunction → Places → MidBlock → List Instr
body_code at mid n b f places k =
    flat_map (step_code (λ g. cell_address (global_cell mid g)) (global_length mid) places) k.steps ++
    end_code at (first_block mid) (first_block mid n + b) (first_block mid n) f.pairs places k.end

abbrev pub block_code : (ℕ → ℕ) → Mid → (n b : ℕ) → MidFunction → Places → MidBlock → List Instr
block_code at mid n b f places k = start_code f places b ++ body_code at mid n b f places k

-- The first block of the program sets the stack pointers and calls function 0; the second exits with what it returned.
abbrev pub first_code : (ℕ → ℕ) → Mid → List Instr
first_code at mid =
    each (λ t. mips.Lui (reg_in t Stack) (cell_address (cells mid) / 2 ^ 16)) ++ (
    each (λ t. mips.Ori (reg_in t Stack) (reg_in t Stack) (cell_address (cells mid) % 2 ^ 16)) ++
    call_code (at (first_block mid 0)) (at 1))

abbrev pub exit_code : List Instr
exit_code = service_code 17 ++ mips.Break 0 ∷ []

-- ---- the text

-- The blocks of a function, from one on.
abbrev pub function_code : (ℕ → ℕ) → Mid → (n b : ℕ) → MidFunction → Places → List MidBlock → List (List Instr)
function_code at mid n b f places [] = []
function_code at mid n b f places (k ∷ more) = block_code at mid n b f places k ∷ function_code at mid n (b + 1) f places more

-- The blocks of functions, from one on, each with its places.
abbrev pub functions_code : (ℕ → ℕ) → Mid → ℕ → List MidFunction → List Places → List (List Instr)
functions_code at mid n [] places = []
functions_code at mid n (f ∷ fs) [] = []
functions_code at mid n (f ∷ fs) (p ∷ more) = function_code at mid n 0 f p f.blocks ++ functions_code at mid (n + 1) fs more

-- All blocks, in order.
abbrev pub code_at : (ℕ → ℕ) → Mid → List Places → List (List Instr)
code_at at mid places = first_code at mid ∷ exit_code ∷ functions_code at mid 0 mid.functions places

-- The address of each block, from one on, where the first stands at an address.
abbrev pub starts_from : ℕ → List (List Instr) → List ℕ
starts_from at [] = []
starts_from at (k ∷ more) = at ∷ starts_from (at + 4 * length k) more

-- A number of a list, or 0.
abbrev pub looked_up : List ℕ → ℕ → ℕ
looked_up starts b = Rattle.std.specs.Prelude.slice_index_or starts b 0

-- The address of each block. How many words a block takes doesn't hang on the addresses, so they are counted with all addresses 0.
abbrev pub starts : Mid → List Places → List ℕ
starts mid places = starts_from 0x00400000 (code_at (looked_up []) mid places)

-- The instructions of the text, block by block, and its words.
abbrev pub third_code : Mid → List Places → List (List Instr)
third_code mid places = code_at (looked_up (starts mid places)) mid places

abbrev pub third_text : Mid → List Places → List ℕ
third_text mid places = map encoding (flat_map (λ k. k) (third_code mid places))

-- ---- the image

-- Each word three times, and a 0.
abbrev pub tripled : List ℕ → List ℕ
tripled words = flat_map (λ w. w ∷ w ∷ w ∷ 0 ∷ []) words

-- The image in which these words run: the entry is the first word.
abbrev pub third_image : Mid → List ℕ → ImageFields
third_image mid text = record {
  entry = 0x00400000;
  text = text;
  initial = tripled (flat_map (λ words. words) mid.globals);
  memory_words = 4 * cells mid;
  windows = [];
  aliases = [];
}
