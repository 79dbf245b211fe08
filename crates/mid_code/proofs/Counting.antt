-- Counts of lines that stay few.
use Rattle.std.proofs.Common.{◌≡◌, ℕ, ◌+◌, ◌-◌, ◌<◌, ◌≤◌, false, List, map, length, take, None, sym, ap, subst, arith, inl, inr, get_or}
use Rattle.std.specs.Prelude.{nat_le}
use Rattle.std.specs.List.{flat_map, sum, AllWithin, All}
use Rattle.std.proofs.lemmas.List.Folds.{length-flat_map-take}
use Rattle.std.proofs.lemmas.Bool.{cases_lt, lt-leb}
use Rattle.std.proofs.lemmas.List.Elements.{at_read}
use Rattle.std.proofs.lemmas.List.Sums.{sum-map, sum_by-take-le, sum_by_more}
use Rattle.std.proofs.lemmas.Bool.Decides.{nat_tests}
use Rattle.mid_blocks.specs.declared.code.MidBlock.{MidBlock}
use Rattle.mid_blocks.specs.Lines.{block_lines}
use Rattle.mid_blocks.specs.Tested.{few}
use Rattle.mid_blocks.proofs.Positions.{block_length}

few_none : (n : ℕ) → 62914560 < n → few n ≡ None
few_none n h = grind (arith, nat_tests)

-- a block with which the lines are too many
pub too_many : (blocks : List MidBlock) (before lines i : ℕ) (block : MidBlock) → i < length blocks → block ≡ get_or blocks i block
    → lines ≡ before + length (flat_map block_lines (take i blocks)) → lines ≤ 62914560 → 62914560 - lines ≤ length block.steps → few (before + length (flat_map block_lines blocks)) ≡ None
too_many blocks before lines i block l is e most h =
    few_none (before + length (flat_map block_lines blocks))
    (omega (arith, length-flat_map-take block_lines blocks i block l, ap (λ (b : MidBlock). length (block_lines b)) is, block_length block.steps block.end))

pub few_is_none : (n : ℕ) → None ≡ few n → 62914560 < n
few_is_none n h = elim (cases_lt 62914560 n) [ inl l ↦ l | inr g ↦ absurd (grind (arith, nat_tests)) ]

-- an item with which the sum passes a bound
pub sum_past : {X : Type 0} (g : X → ℕ) (xs : List X) (i : ℕ) (x : X) (more most : ℕ) → i < length xs → x ≡ get_or xs i x → most < sum (map g (take i xs)) + g x + more → false ≡ nat_le (sum (map g xs) + more) most
sum_past g xs i x more most l is h =
    sym (lt-leb (sum (map g xs) + more) most (omega (arith, sum-map g xs, sum-map g (take i xs), sum_by-take-le g xs (i + 1), sum_by_more g xs i x l, ap g is)))

pub sum_past_0 : {X : Type 0} (g : X → ℕ) (xs : List X) (i : ℕ) (x : X) (most : ℕ) → i < length xs → x ≡ get_or xs i x → most < sum (map g (take i xs)) + g x → false ≡ nat_le (sum (map g xs)) most
sum_past_0 g xs i x most l is h =
    sym (lt-leb (sum (map g xs)) most (omega (arith, sum-map g xs, sum-map g (take i xs), sum_by-take-le g xs (i + 1), sum_by_more g xs i x l, ap g is)))

pub within_more : {X : Type 0} (P : X → Type 0) (xs : List X) (i : ℕ) (x : X) → i < length xs → x ≡ get_or xs i x → AllWithin P xs 0 i → P x → AllWithin P xs 0 (i + 1)
within_more P xs i x l is all one k d z h = elim (cases_lt k i) [
  | inl a ↦ all k d z a
  | inr b ↦ let same : i ≡ k = omega arith in subst (λ (j : ℕ). P (get_or xs j d)) same (at_read xs P i x l is one d)
]

pub all_within : {X : Type 0} (P : X → Type 0) (xs : List X) (i : ℕ) → length xs ≤ i → AllWithin P xs 0 i → All P xs
all_within P xs i le all k d l = all k d (omega arith) (omega arith)
