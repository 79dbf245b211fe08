-- A program in blocks of which only some blocks and functions are kept, under new numbers: those that can be reached.
use Rattle.std.specs.Prelude.{◌≡◌, ℕ, ◌+◌, true, List, Option, Some, None, slice_get}
use Rattle.mid_blocks.specs.declared.code.MidEnd.{MidEnd}
use Rattle.mid_blocks.specs.declared.code.MidEnd.TheVariants.{Jump, Branch, Call, Return}
use Rattle.mid_blocks.specs.declared.code.MidFunction.{MidFunction}
use Rattle.mid_blocks.specs.declared.code.Mid.{Mid}
use Rattle.mid_blocks.specs.Lines.{Line, Step, End}
use Rattle.mid_blocks.specs.Run.{line_in_function}
use Rattle.mid_blocks.specs.Bounds.{pairs_of}
use Rattle.mid_blocks.specs.Valid.{target, falls_on, EndsBy}

-- a block can be reached: it is the first, or a block that can be reached leads to it
pub data Reached (f : MidFunction) : ℕ → Type 0 where
  first : Reached f 0
  jumped : (block to : ℕ) (end : MidEnd) → Reached f block → EndsBy f block end → target end ≡ Some to → Reached f to
  fallen : (block : ℕ) (end : MidEnd) → Reached f block → EndsBy f block end → falls_on end ≡ true → Reached f (block + 1)

-- new numbers
pub record Numbers : Type 0 where
  pub function : ℕ → ℕ
  pub block : ℕ → ℕ → ℕ

abbrev pub renumbered_end : Numbers → ℕ → MidEnd → MidEnd
renumbered_end new f (Jump to) = Jump (new.block f to)
renumbered_end new f (Branch test when to) = Branch test when (new.block f to)
renumbered_end new f (Call function args result) = Call (new.function function) args result
renumbered_end new f (Return from) = Return from

abbrev pub renumbered_line : Numbers → ℕ → Option Line → Option Line
renumbered_line new f None = None
renumbered_line new f (Some (Step step)) = Some (Step step)
renumbered_line new f (Some (End end)) = Some (End (renumbered_end new f end))

abbrev pub line_of : Mid → ℕ → ℕ → ℕ → Option Line
line_of mid f block step =
    line_in_function (slice_get mid.functions f) (record { function = f; block = block; step = step; variables = λ v. None; result = None })

-- the second program is the first, with the blocks that are kept under new numbers
pub record Renumbered (first second : Mid) (new : Numbers) (Kept : ℕ → ℕ → Type 0) : Type 0 where
  pub globals_are : second.globals ≡ first.globals
  pub chain_pairs_are : second.chain_pairs ≡ first.chain_pairs
  pub pairs_are : (f block : ℕ) → Kept f block → pairs_of (slice_get second.functions (new.function f)) ≡ pairs_of (slice_get first.functions f)
  pub main_kept : Kept 0 0
  pub main_is : new.function 0 ≡ 0
  pub begins : (f : ℕ) → Kept f 0 → new.block f 0 ≡ 0
  pub lines : (f block step : ℕ) → Kept f block → line_of second (new.function f) (new.block f block) step ≡ renumbered_line new f (line_of first f block step)
  -- where a kept block leads to is kept
  pub goes : (f block step to : ℕ) (end : MidEnd) → Kept f block → line_of first f block step ≡ Some (End end) → target end ≡ Some to → Kept f to
  pub falls : (f block step : ℕ) (end : MidEnd) → Kept f block → line_of first f block step ≡ Some (End end) → falls_on end ≡ true →
      Kept f (block + 1) × (new.block f (block + 1) ≡ new.block f block + 1)
  pub calls : (f block step function : ℕ) (args : List ℕ) (result : Option ℕ) → Kept f block →
      line_of first f block step ≡ Some (End (Call function args result)) → Kept function 0
