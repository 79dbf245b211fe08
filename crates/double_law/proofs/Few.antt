-- A valid program has few blocks, since each ends by a line.
use Rattle.std.proofs.Common.{◌≡◌, ◌≤◌, ◌<◌, ℕ, zero, suc, ◌+◌, ◌^◌, arith, ap, refl, sym, ◌∙◌, subst, List, [], ◌∷◌, ◌++◌, length, map, flat_map, sum, length-append}
use Rattle.mid_blocks.specs.declared.code.MidFunction.{MidFunction}
use Rattle.mid_blocks.specs.declared.code.MidBlock.{MidBlock}
use Rattle.mid_blocks.specs.declared.code.Mid.{Mid}
use Rattle.mid_blocks.specs.Lines.{End, Step, block_lines, lines}
use Rattle.mid_blocks.specs.Valid.{Valid}
use Rattle.hard_words.proofs.Sums.{sum_cons}

blocks_end : (bs : List MidBlock) → length bs ≤ length (flat_map block_lines bs)
blocks_end [] = Rattle.std.proofs.Common.zero-le
blocks_end (b ∷ bs) = more (length bs) (length (flat_map block_lines bs)) (length (block_lines b)) (length (block_lines b ++ flat_map block_lines bs)) (length (map Step b.steps))
    (length-append (block_lines b) (flat_map block_lines bs)) (length-append (map Step b.steps) (End b.end ∷ [])) (blocks_end bs)
  where
    more : (n m k t s : ℕ) → t ≡ k + m → k ≡ s + 1 → n ≤ m → suc n ≤ t
    more n m k t s e g h = omega arith

all_end : (fs : List MidFunction) → sum (map (λ (f : MidFunction). length f.blocks) fs) ≤ sum (map (λ (f : MidFunction). length (lines f)) fs)
all_end [] = Rattle.std.proofs.Common.zero-le
all_end (f ∷ fs) = add (sum (map (λ (f : MidFunction). length f.blocks) (f ∷ fs))) (sum (map (λ (f : MidFunction). length (lines f)) (f ∷ fs)))
    (length f.blocks) (length (lines f)) (sum (map (λ (f : MidFunction). length f.blocks) fs)) (sum (map (λ (f : MidFunction). length (lines f)) fs))
    (sum_cons (length f.blocks) (map (λ (f : MidFunction). length f.blocks) fs)) (sum_cons (length (lines f)) (map (λ (f : MidFunction). length (lines f)) fs)) (blocks_end f.blocks) (all_end fs)
  where
    add : (s t a b x y : ℕ) → s ≡ a + x → t ≡ b + y → a ≤ b → x ≤ y → s ≤ t
    add s t a b x y e g h k = omega arith

-- The blocks of all functions and the two before them are fewer than 2^32.
pub few_blocks : (mid : Mid) (n : ℕ) → Valid mid → n ≡ 2 + sum (map (λ (f : MidFunction). length f.blocks) mid.functions) → n < 2 ^ 32
few_blocks mid n v e = few n (sum (map (λ (f : MidFunction). length f.blocks) mid.functions)) (sum (map (λ (f : MidFunction). length (lines f)) mid.functions)) e (all_end mid.functions) v.few_lines
  where
    few : (n s l : ℕ) → n ≡ 2 + s → s ≤ l → l ≤ 62914560 → n < 2 ^ 32
    few n s l e h k = omega arith
