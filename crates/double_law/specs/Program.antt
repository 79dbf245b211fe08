-- The program that a program in blocks becomes.
use Rattle.std.specs.Prelude.{◌≡◌, ◌<◌, ℕ, ◌+◌, ◌*◌, ◌-◌, ◌/◌, ◌%◌, ◌^◌, zero, suc, List, [], ◌∷◌, ◌++◌, flat_map, length, map, sum, take, Option}
use Rattle.std.specs.Prelude.{Some, None, slice_get, slice_index_or}
use Rattle.mips_isa.specs.declared.instr.Instr.TheVariants as mips
use Rattle.hard_items.specs.declared.code.Class.TheVariants as class
use Rattle.hard_items.specs.declared.code.Item.{Item}
use Rattle.hard_items.specs.declared.code.HardProgram.{HardProgram}
use Rattle.hard_items.specs.Streams.{plain}
use Rattle.hard_items.specs.Run.{items_of}
use Rattle.mid_blocks.specs.declared.code.MidEnd.{MidEnd}
use Rattle.mid_blocks.specs.declared.code.MidEnd.TheVariants.{Jump, Branch, Call, Return}
use Rattle.mid_blocks.specs.declared.code.MidBlock.{MidBlock}
use Rattle.mid_blocks.specs.declared.code.MidFunction.{MidFunction}
use Rattle.mid_blocks.specs.declared.code.Mid.{Mid}
use Rattle.mid_blocks.specs.declared.places.Places.{Places}
use Rattle.double_law.specs.declared.roles.Role.TheVariants.{Stack}
use Rattle.double_law.specs.Roles.{reg_in, both}
use Rattle.frame_plan.specs.Frames.{cell_address, global_cell, global_length, cells}
use Rattle.double_law.specs.Emitted.{step_items, end_items, enter_items, result_items, call_items, service_items}

-- The number of the first block of a function: two blocks stand before all functions.
abbrev pub first_block : Mid → ℕ → ℕ
first_block mid f = 2 + sum (map (λ g. length g.blocks) (take f mid.functions))

-- ---- blocks

-- The items with which a block begins, by the end of the block before it.
abbrev pub behind_end : Places → MidEnd → List Item
behind_end places (Jump to) = []
behind_end places (Branch v when to) = []
behind_end places (Call function args result) = result_items places result
behind_end places (Return from) = []

abbrev pub behind_block : Places → Option MidBlock → List Item
behind_block places None = []
behind_block places (Some b) = behind_end places b.end

abbrev pub start_items : MidFunction → Places → ℕ → List Item
start_items f places zero = enter_items places f.pairs f.params
start_items f places (suc b) = behind_block places (slice_get f.blocks b)

abbrev pub body_items : Mid → ℕ → MidFunction → Places → MidBlock → List Item
body_items mid n f places b =
    flat_map (step_items (λ g. cell_address (global_cell mid g)) (global_length mid) places) b.steps ++
    end_items (first_block mid n) f.pairs places b.end

-- The first block of the program sets the stack pointers and calls function 0; the second exits with what it returned.
abbrev pub first_items : Mid → List Item
first_items mid =
    both (λ t. mips.Lui (reg_in t Stack) (cell_address (cells mid) / 2 ^ 16)) ++ (
    both (λ t. mips.Ori (reg_in t Stack) (reg_in t Stack) (cell_address (cells mid) % 2 ^ 16)) ++
    call_items 0)

abbrev pub exit_items : List Item
exit_items = service_items 17 ++ plain (mips.Break 1) class.Act ∷ []

-- Each word twice.
abbrev pub doubled : List ℕ → List ℕ
doubled words = flat_map (λ w. w ∷ w ∷ []) words

-- A program is what a program in blocks becomes with its variables in these places.
pub record IsDoubled (mid : Mid) (places : List Places) (p : HardProgram) : Type 0 where
  pub first : items_of p 0 ≡ first_items mid
  pub exit : items_of p 1 ≡ exit_items
  pub block : (n b : ℕ) (f : MidFunction) (at : Places) (block : MidBlock) → slice_get mid.functions n ≡ Some f →
      slice_get places n ≡ Some at → slice_get f.blocks b ≡ Some block →
      items_of p (first_block mid n + b) ≡ start_items f at b ++ body_items mid n f at block
  pub blocks_long : length p.blocks ≡ 2 + sum (map (λ f. length f.blocks) mid.functions)
  pub entries_long : length p.entries ≡ length mid.functions
  pub entries : (n : ℕ) → n < length mid.functions → Rattle.std.specs.Prelude.slice_index p.entries n ≡ first_block mid n
  pub initial : p.initial ≡ doubled (flat_map (λ words. words) mid.globals)
  pub memory : p.memory_words ≡ 2 * cells mid
