-- A program in blocks without the blocks and functions that are not marked: what is left has its old order, and its ends the new numbers.
use Rattle.std.specs.Prelude.{◌≡◌, ℕ, zero, suc, ◌+◌, Bool, true, false, ◌&&◌, List, [], ◌∷◌, map, Option, Some, slice_get}
use Rattle.mid_blocks.specs.declared.code.MidEnd.{MidEnd}
use Rattle.mid_blocks.specs.declared.code.MidEnd.TheVariants.{Jump, Branch, Call, Return}
use Rattle.mid_blocks.specs.declared.code.MidBlock.{MidBlock}
use Rattle.mid_blocks.specs.declared.code.MidFunction.{MidFunction}
use Rattle.mid_blocks.specs.declared.code.Mid.{Mid}
use Rattle.mid_blocks.specs.Valid.{target, falls_on, EndsBy}
use Rattle.mid_blocks.specs.Renumbered.{Numbers, renumbered_end}

-- ---- marks of a list

abbrev pub is_marked : List Bool → ℕ → Bool
is_marked [] i = false
is_marked (b ∷ bs) zero = b
is_marked (b ∷ bs) (suc i) = is_marked bs i

-- how many are marked before the i-th
abbrev pub marked_before : List Bool → ℕ → ℕ
marked_before [] i = 0
marked_before (b ∷ bs) zero = 0
marked_before (true ∷ bs) (suc i) = suc (marked_before bs i)
marked_before (false ∷ bs) (suc i) = marked_before bs i

abbrev pub marked : {A : Type 0} → List Bool → List A → List A
marked [] xs = []
marked (b ∷ bs) [] = []
marked (true ∷ bs) (x ∷ xs) = x ∷ marked bs xs
marked (false ∷ bs) (x ∷ xs) = marked bs xs

-- ---- marks of a program: of each function's blocks

abbrev pub marks_of : List (List Bool) → ℕ → List Bool
marks_of [] f = []
marks_of (bs ∷ bss) zero = bs
marks_of (bs ∷ bss) (suc f) = marks_of bss f

-- a function is marked where its first block is
abbrev pub function_marks : List (List Bool) → List Bool
function_marks marks = map (λ bs. is_marked bs 0) marks

abbrev pub is_marked_block : List (List Bool) → ℕ → ℕ → Bool
is_marked_block marks f block = is_marked (marks_of marks f) block

abbrev pub numbers_of : List (List Bool) → Numbers
numbers_of marks = record {
  function = marked_before (function_marks marks);
  block = λ f. marked_before (marks_of marks f);
}

abbrev pub renumbered_block : Numbers → ℕ → MidBlock → MidBlock
renumbered_block new f b = record { steps = b.steps; end = renumbered_end new f b.end }

abbrev pub pruned_function : List (List Bool) → ℕ → MidFunction → MidFunction
pruned_function marks f code = record code { blocks = map (renumbered_block (numbers_of marks) f) (marked (marks_of marks f) code.blocks) }

-- the functions from the i-th on
abbrev pub pruned_from : List (List Bool) → ℕ → List MidFunction → List MidFunction
pruned_from marks i [] = []
pruned_from marks i (f ∷ fs) = pruned_function marks i f ∷ pruned_from marks (suc i) fs

abbrev pub pruned : List (List Bool) → Mid → Mid
pruned marks mid = record mid { functions = marked (function_marks marks) (pruned_from marks 0 mid.functions) }

-- ---- marks that are closed: where a marked block leads to is marked

abbrev pub leads_to_marked : List (List Bool) → ℕ → ℕ → MidEnd → Bool
leads_to_marked marks f block (Jump to) = is_marked_block marks f to
leads_to_marked marks f block (Branch test when to) = is_marked_block marks f to && is_marked_block marks f (block + 1)
leads_to_marked marks f block (Call function args result) = is_marked_block marks function 0 && is_marked_block marks f (block + 1)
leads_to_marked marks f block (Return from) = true

pub record Closed (mid : Mid) (marks : List (List Bool)) : Type 0 where
  pub main : is_marked_block marks 0 0 ≡ true
  pub first : (f block : ℕ) → is_marked_block marks f block ≡ true → is_marked_block marks f 0 ≡ true
  pub leads : (f block : ℕ) (code : MidFunction) (b : MidBlock) → slice_get mid.functions f ≡ Some code → slice_get code.blocks block ≡ Some b →
      is_marked_block marks f block ≡ true → leads_to_marked marks f block b.end ≡ true

-- ---- and only what can be reached is marked

-- the first block of `main` is reached, and where a block that is reached leads, and the functions that it calls
pub data ReachedIn (mid : Mid) : ℕ → ℕ → Type 0 where
  begin : ReachedIn mid 0 0
  jumped : (f block to : ℕ) (code : MidFunction) (end : MidEnd) → ReachedIn mid f block → slice_get mid.functions f ≡ Some code → EndsBy code block end →
      target end ≡ Some to → ReachedIn mid f to
  fallen : (f block : ℕ) (code : MidFunction) (end : MidEnd) → ReachedIn mid f block → slice_get mid.functions f ≡ Some code → EndsBy code block end →
      falls_on end ≡ true → ReachedIn mid f (block + 1)
  called : (f block function : ℕ) (code : MidFunction) (args : List ℕ) (result : Option ℕ) → ReachedIn mid f block →
      slice_get mid.functions f ≡ Some code → EndsBy code block (Call function args result) → ReachedIn mid function 0

pub record OnlyReached (mid : Mid) (marks : List (List Bool)) : Type 0 where
  pub reached : (f block : ℕ) → is_marked_block marks f block ≡ true → ReachedIn mid f block
