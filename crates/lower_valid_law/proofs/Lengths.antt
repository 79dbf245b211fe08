-- A program has at most as many lines as words.
use Rattle.std.proofs.Common.{◌≡◌, ℕ, zero, suc, ◌≤◌, List, [], ◌∷◌, map, sum, length, Option, Some, None, ap, arith, length-append}
use Rattle.std.specs.Prelude.{slice_get}
use Rattle.std.specs.List.{flat_map}
use Rattle.std.proofs.lemmas.List.Sums.{sum_by-cons}
use Rattle.std.proofs.lemmas.List.{length-map}
use Rattle.mid_blocks.specs.declared.code.MidOp.{MidOp}
use Rattle.mid_blocks.specs.declared.code.MidOp.TheVariants.{Add, Sub, Mul, Div, DivU, Rem, RemU, Shl, Shr, Sar, And, Or, Xor, Lt, LtU, Eq, Ne}
use Rattle.mid_blocks.specs.declared.code.MidStep.{MidStep}
use Rattle.mid_blocks.specs.declared.code.MidStep.TheVariants.{Constant, Copy, Operate, Guard, Load, Store, Input, Output, Deep}
use Rattle.mid_blocks.specs.declared.code.MidEnd.{MidEnd}
use Rattle.mid_blocks.specs.declared.code.MidEnd.TheVariants.{Jump, Branch, Call, Return}
use Rattle.mid_blocks.specs.declared.code.MidBlock.{MidBlock}
use Rattle.mid_blocks.specs.declared.code.MidFunction.{MidFunction}
use Rattle.mid_blocks.specs.Lines.{Step, End, block_lines, lines}
use Rattle.mid_blocks.specs.Size.{operation_words, access_words, step_words, end_words, block_words, function_words}

operation_some : (op : MidOp) → 1 ≤ operation_words op
operation_some Add = omega arith
operation_some Sub = omega arith
operation_some Mul = omega arith
operation_some Div = omega arith
operation_some DivU = omega arith
operation_some Rem = omega arith
operation_some RemU = omega arith
operation_some Shl = omega arith
operation_some Shr = omega arith
operation_some Sar = omega arith
operation_some And = omega arith
operation_some Or = omega arith
operation_some Xor = omega arith
operation_some Lt = omega arith
operation_some LtU = omega arith
operation_some Eq = omega arith
operation_some Ne = omega arith

access_some : (i : Option ℕ) → 1 ≤ access_words i
access_some None = omega arith
access_some (Some i) = omega arith

step_some : (s : MidStep) → 1 ≤ step_words s
step_some (Constant to word) = omega arith
step_some (Copy to from) = omega arith
step_some (Operate op to left right) = operation_some op
step_some (Guard global index) = omega arith
step_some (Load to global index) = access_some index
step_some (Store global index from) = access_some index
step_some (Input to) = omega arith
step_some (Output from) = omega arith
step_some (Deep test) = omega arith

end_some : (e : MidEnd) → 1 ≤ end_words e
end_some (Jump to) = omega arith
end_some (Branch test when to) = omega arith
end_some (Call function args result) = omega arith
end_some (Return None) = omega arith
end_some (Return (Some r)) = omega arith

steps_some : (ss : List MidStep) → length ss ≤ sum (map step_words ss)
steps_some [] = omega arith
steps_some (s ∷ ss) = omega (arith, step_some s, steps_some ss, sum_by-cons (λ n. n) (step_words s) (map step_words ss))

block_some : (b : MidBlock) → length (block_lines b) ≤ block_words b
block_some b = omega (arith, length-append (map Step b.steps) (End b.end ∷ []), length-map b.steps Step, steps_some b.steps, end_some b.end)

blocks_some : (bs : List MidBlock) → length (flat_map block_lines bs) ≤ sum (map block_words bs)
blocks_some [] = omega arith
blocks_some (b ∷ bs) = omega (arith, length-append (block_lines b) (flat_map block_lines bs), block_some b, blocks_some bs, sum_by-cons (λ n. n) (block_words b) (map block_words bs))

pub function_some : (f : MidFunction) → length (lines f) ≤ function_words f
function_some f = omega (arith, blocks_some f.blocks)

pub functions_some : (fs : List MidFunction) → sum (map (λ f. length (lines f)) fs) ≤ sum (map function_words fs)
functions_some [] = omega arith
functions_some (f ∷ fs) = omega (arith, function_some f, functions_some fs, sum_by-cons (λ n. n) (function_words f) (map function_words fs), sum_by-cons (λ n. n) (length (lines f)) (map (λ (g : MidFunction). length (lines g)) fs))

pub one_words : (fs : List MidFunction) (k : ℕ) (f : MidFunction) → slice_get fs k ≡ Some f → function_words f ≤ sum (map function_words fs)
one_words [] k f h = absurd (cc)
one_words (g ∷ fs) zero f h = let same : g ≡ f = cc in omega (arith, sum_by-cons (λ n. n) (function_words g) (map function_words fs), ap function_words same)
one_words (g ∷ fs) (suc k) f h = omega (arith, sum_by-cons (λ n. n) (function_words g) (map function_words fs), one_words fs k f h)
