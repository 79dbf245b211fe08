-- The most words that a program in blocks can come to: of each line, by its kind, the words of its forms with all variables in slots, with
-- checks, nops, heads and far forms counted. The table is the project's own.
use Rattle.std.specs.Prelude.{ℕ, ◌+◌, ◌*◌, map, sum, length, Option, Some, None}
use Rattle.mid_blocks.specs.declared.code.MidOp.{MidOp}
use Rattle.mid_blocks.specs.declared.code.MidOp.TheVariants.{Add, Sub, Mul, Div, DivU, Rem, RemU, Shl, Shr, Sar, And, Or, Xor, Lt, LtU, Eq, Ne}
use Rattle.mid_blocks.specs.declared.code.MidStep.{MidStep}
use Rattle.mid_blocks.specs.declared.code.MidStep.TheVariants.{Constant, Copy, Operate, Guard, Load, Store, Input, Output, Deep}
use Rattle.mid_blocks.specs.declared.code.MidEnd.{MidEnd}
use Rattle.mid_blocks.specs.declared.code.MidEnd.TheVariants.{Jump, Branch, Call, Return}
use Rattle.mid_blocks.specs.declared.code.MidBlock.{MidBlock}
use Rattle.mid_blocks.specs.declared.code.MidFunction.{MidFunction}
use Rattle.mid_blocks.specs.declared.code.Mid.{Mid}

-- a product and a quotient move from HI or LO, a division tests its divisor, and one with sign its operands
abbrev pub operation_words : MidOp → ℕ
operation_words Add = 18
operation_words Sub = 18
operation_words Mul = 24
operation_words Div = 56
operation_words DivU = 34
operation_words Rem = 56
operation_words RemU = 34
operation_words Shl = 18
operation_words Shr = 18
operation_words Sar = 18
operation_words And = 18
operation_words Or = 18
operation_words Xor = 18
operation_words Lt = 18
operation_words LtU = 18
operation_words Eq = 20
operation_words Ne = 20

-- a load or a store, with an index or without
abbrev pub access_words : Option ℕ → ℕ
access_words None = 14
access_words (Some index) = 22

abbrev pub step_words : MidStep → ℕ
step_words (Constant to word) = 12
step_words (Copy to from) = 12
step_words (Operate op to left right) = operation_words op
step_words (Guard global index) = 12
step_words (Load to global index) = access_words index
step_words (Store global index from) = access_words index
step_words (Input to) = 12
step_words (Output from) = 8
step_words (Deep test) = 10

-- a word returned or a word that takes a result
abbrev pub result_words : Option ℕ → ℕ
result_words None = 0
result_words (Some to) = 8

abbrev pub returned_words : Option ℕ → ℕ
returned_words None = 9
returned_words (Some from) = 11

-- the head of a block, seven words, is counted with its end
abbrev pub end_words : MidEnd → ℕ
end_words (Jump to) = 9
end_words (Branch test when to) = 25
end_words (Call function args result) = 11 + 12 * length args + result_words result
end_words (Return from) = returned_words from

abbrev pub block_words : MidBlock → ℕ
block_words block = sum (map step_words block.steps) + end_words block.end

-- a function counts the words of its entry, with a load of each parameter, and of its return
abbrev pub function_words : MidFunction → ℕ
function_words f = 10 + 4 * f.params + 11 + sum (map block_words f.blocks)

-- blocks 0 and 1, which call `main` and exit, come to 27
abbrev pub words : Mid → ℕ
words mid = 27 + sum (map function_words mid.functions)

-- ---- blocks

abbrev pub is_branch : MidEnd → ℕ
is_branch (Jump to) = 0
is_branch (Branch test when to) = 1
is_branch (Call function args result) = 0
is_branch (Return from) = 0

-- the blocks of a program
abbrev pub block_count : Mid → ℕ
block_count mid = sum (map (λ f. length f.blocks) mid.functions)

-- and those that end by a Branch
abbrev pub branch_count : Mid → ℕ
branch_count mid = sum (map (λ f. sum (map (λ b. is_branch b.end) f.blocks)) mid.functions)
