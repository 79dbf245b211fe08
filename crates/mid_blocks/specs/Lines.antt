-- The lines of a function: each step and each end of a block is a line. What a line reads, what it writes, and where it leads.
use Rattle.std.specs.Prelude.{ℕ, ◌+◌, List, [], ◌∷◌, ◌++◌, map, flat_map, length, Option, Some, None, slice_get, take}
use Rattle.mid_blocks.specs.declared.code.MidStep.{MidStep}
use Rattle.mid_blocks.specs.declared.code.MidStep.TheVariants.{Constant, Copy, Operate, Guard, Load, Store, Input, Output, Deep}
use Rattle.mid_blocks.specs.declared.code.MidEnd.{MidEnd}
use Rattle.mid_blocks.specs.declared.code.MidEnd.TheVariants.{Jump, Branch, Call, Return}
use Rattle.mid_blocks.specs.declared.code.MidBlock.{MidBlock}
use Rattle.mid_blocks.specs.declared.code.MidFunction.{MidFunction}

pub data Line : Type 0 where
  Step : MidStep → Line
  End : MidEnd → Line

-- the line of a block with so many steps before it: a step, and behind the last step the end
abbrev pub line_of : Option MidStep → MidEnd → Line
line_of (Some step) end = Step step
line_of None end = End end

abbrev pub line_in : Option MidBlock → ℕ → Option Line
line_in None n = None
line_in (Some block) n = Some (line_of (slice_get block.steps n) block.end)

-- the line of a function in a block, with so many steps before it in that block
abbrev pub line_at : MidFunction → ℕ → ℕ → Option Line
line_at f block n = line_in (slice_get f.blocks block) n

-- ---- what a line reads and writes

abbrev pub one_or_none : Option ℕ → List ℕ
one_or_none None = []
one_or_none (Some v) = v ∷ []

abbrev pub step_reads : MidStep → List ℕ
step_reads (Constant to word) = []
step_reads (Copy to from) = from ∷ []
step_reads (Operate op to left right) = left ∷ right ∷ []
step_reads (Guard global index) = index ∷ []
step_reads (Load to global index) = one_or_none index
step_reads (Store global index from) = one_or_none index ++ from ∷ []
step_reads (Input to) = []
step_reads (Output from) = from ∷ []
step_reads (Deep test) = test ∷ []

abbrev pub step_writes : MidStep → Option ℕ
step_writes (Constant to word) = Some to
step_writes (Copy to from) = Some to
step_writes (Operate op to left right) = Some to
step_writes (Guard global index) = None
step_writes (Load to global index) = Some to
step_writes (Store global index from) = None
step_writes (Input to) = Some to
step_writes (Output from) = None
step_writes (Deep test) = None

abbrev pub end_reads : MidEnd → List ℕ
end_reads (Jump to) = []
end_reads (Branch test when to) = test ∷ []
end_reads (Call function args result) = args
end_reads (Return from) = one_or_none from

-- a call writes its result where it returns
abbrev pub end_writes : MidEnd → Option ℕ
end_writes (Jump to) = None
end_writes (Branch test when to) = None
end_writes (Call function args result) = result
end_writes (Return from) = None

abbrev pub line_reads : Line → List ℕ
line_reads (Step step) = step_reads step
line_reads (End end) = end_reads end

abbrev pub line_writes : Line → Option ℕ
line_writes (Step step) = step_writes step
line_writes (End end) = end_writes end

-- ---- positions: the lines of a function in order, counted from 0

abbrev pub block_lines : MidBlock → List Line
block_lines block = map Step block.steps ++ End block.end ∷ []

abbrev pub lines : MidFunction → List Line
lines f = flat_map block_lines f.blocks

-- the position of the first line of a block
abbrev pub first_of : MidFunction → ℕ → ℕ
first_of f block = length (flat_map block_lines (take block f.blocks))

-- the positions to which the line at a position may lead; a call leads to the line where it goes on
abbrev pub leads_to : MidFunction → ℕ → Line → List ℕ
leads_to f at (Step step) = (at + 1) ∷ []
leads_to f at (End (Jump to)) = first_of f to ∷ []
leads_to f at (End (Branch test when to)) = (at + 1) ∷ first_of f to ∷ []
leads_to f at (End (Call function args result)) = (at + 1) ∷ []
leads_to f at (End (Return from)) = []
