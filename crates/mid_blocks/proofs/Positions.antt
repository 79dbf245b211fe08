-- Where the lines of a function stand: a position is a block and a number of lines before it in the block.
use Rattle.std.proofs.Common.{◌≡◌, ℕ, zero, suc, ◌+◌, ◌<◌, ◌≤◌, List, [], ◌∷◌, ◌++◌, map, length, take, drop, Some, refl, ap, ◌∙◌, subst, arith, length-append, ◌-◌, inl, inr}
use Rattle.std.specs.Prelude.{slice_get}
use Rattle.std.specs.List.{flat_map}
use Rattle.std.proofs.lemmas.Bool.{cases_lt}
use Rattle.mid_blocks.specs.declared.code.MidStep.{MidStep}
use Rattle.mid_blocks.specs.declared.code.MidEnd.{MidEnd}
use Rattle.mid_blocks.specs.declared.code.MidBlock.{MidBlock}
use Rattle.mid_blocks.specs.declared.code.MidFunction.{MidFunction}
use Rattle.mid_blocks.specs.Lines.{Step, End, line_of, block_lines, lines, first_of}

pub get_left : {A : Type 0} (xs ys : List A) (n : ℕ) → n < length xs → slice_get (xs ++ ys) n ≡ slice_get xs n
get_left [] ys n h = absurd (omega arith)
get_left (x ∷ xs) ys zero h = refl
get_left (x ∷ xs) ys (suc n) h = get_left xs ys n (omega arith)

pub get_right : {A : Type 0} (xs ys : List A) (n m : ℕ) → m ≡ length xs + n → slice_get (xs ++ ys) m ≡ slice_get ys n
get_right [] ys n m h = ap (slice_get ys) (omega arith)
get_right (x ∷ xs) ys n zero h = absurd (omega arith)
get_right (x ∷ xs) ys n (suc m) h = get_right xs ys n m (omega arith)

pub get_within : {A : Type 0} (xs : List A) (n : ℕ) (x : A) → slice_get xs n ≡ Some x → n < length xs
get_within [] n x h = absurd (cc)
get_within (y ∷ ys) zero x h = omega arith
get_within (y ∷ ys) (suc n) x h = let k : n < length ys = get_within ys n x h in omega arith

pub got : {A : Type 0} (xs : List A) (n : ℕ) → n < length xs → (x : A) × (slice_get xs n ≡ Some x)
got [] n h = absurd (omega arith)
got (y ∷ ys) zero h = (y, refl)
got (y ∷ ys) (suc n) h = got ys n (omega arith)

-- ---- the pieces of a list that is joined of pieces

module _ {X A : Type 0} (g : X → List A) where
  abbrev pub first : List X → ℕ → ℕ
  first xs b = length (flat_map g (take b xs))

  pub first_next : (xs : List X) (b : ℕ) (x : X) → slice_get xs b ≡ Some x → first xs (suc b) ≡ first xs b + length (g x)
  first_next [] b x h = absurd (cc)
  first_next (y ∷ ys) zero x h = let e : y ≡ x = cc in subst (λ (z : X). length (g y ++ []) ≡ 0 + length (g z)) e (omega (arith, length-append (g y) []))
  first_next (y ∷ ys) (suc b) x h =
      omega (arith, first_next ys b x h, length-append (g y) (flat_map g (take (suc b) ys)), length-append (g y) (flat_map g (take b ys)))

  pub at_first : (xs : List X) (b n : ℕ) (x : X) → slice_get xs b ≡ Some x → n < length (g x) → slice_get (flat_map g xs) (first xs b + n) ≡ slice_get (g x) n
  at_first [] b n x h l = absurd (cc)
  at_first (y ∷ ys) zero n x h l =
      let e : y ≡ x = cc in
      subst (λ (z : X). n < length (g z) → slice_get (g y ++ flat_map g ys) (0 + n) ≡ slice_get (g z) n) e
      (λ k. ap (slice_get (g y ++ flat_map g ys)) (omega arith) ∙ get_left (g y) (flat_map g ys) n k) l
  at_first (y ∷ ys) (suc b) n x h l =
      get_right (g y) (flat_map g ys) (first ys b + n) (first (y ∷ ys) (suc b) + n) (omega (arith, length-append (g y) (flat_map g (take b ys)))) ∙ at_first ys b n x h l

  pub record Part (xs : List X) (at : ℕ) : Type 0 where
    pub piece : ℕ
    pub offset : ℕ
    pub item : X
    pub is : slice_get xs piece ≡ Some item
    pub within : offset < length (g item)
    pub place : at ≡ first xs piece + offset

  pub part_of : (xs : List X) (at : ℕ) → at < length (flat_map g xs) → Part xs at
  part_of [] at h = absurd (omega arith)
  part_of (y ∷ ys) at h = elim (cases_lt at (length (g y))) as (λ _. Part (y ∷ ys) at) [
    | inl l ↦ record { piece = 0; offset = at; item = y; is = refl; within = l; place = omega arith }
    | inr l ↦
        let le : at - length (g y) < length (flat_map g ys) = omega (arith, length-append (g y) (flat_map g ys)) in
        let p = part_of ys (at - length (g y)) le in
        record { piece = suc p.piece; offset = p.offset; item = p.item; is = p.is; within = p.within; place = omega (arith, p.place, length-append (g y) (flat_map g (take p.piece ys))) }
  ]

-- ---- the lines of a block

pub block_line : (steps : List MidStep) (end : MidEnd) (n : ℕ) → n ≤ length steps → slice_get (map Step steps ++ End end ∷ []) n ≡ Some (line_of (slice_get steps n) end)
block_line [] end zero h = refl
block_line [] end (suc n) h = absurd (omega arith)
block_line (s ∷ ss) end zero h = refl
block_line (s ∷ ss) end (suc n) h = block_line ss end n (omega arith)

pub block_rest : (steps : List MidStep) (end : MidEnd) (n : ℕ) → n ≤ length steps → drop n (map Step steps ++ End end ∷ []) ≡ line_of (slice_get steps n) end ∷ drop (suc n) (map Step steps ++ End end ∷ [])
block_rest [] end zero h = refl
block_rest [] end (suc n) h = absurd (omega arith)
block_rest (s ∷ ss) end zero h = refl
block_rest (s ∷ ss) end (suc n) h = block_rest ss end n (omega arith)

pub block_after : (steps : List MidStep) (end : MidEnd) → drop (suc (length steps)) (map Step steps ++ End end ∷ []) ≡ []
block_after [] end = refl
block_after (s ∷ ss) end = block_after ss end

pub block_length : (steps : List MidStep) (end : MidEnd) → length (map Step steps ++ End end ∷ []) ≡ length steps + 1
block_length [] end = refl
block_length (s ∷ ss) end = omega (arith, block_length ss end)

-- the line is a step before the end, and there the end
pub step_line : (steps : List MidStep) (end : MidEnd) (n : ℕ) → n < length steps → (s : MidStep) × (slice_get steps n ≡ Some s) × (line_of (slice_get steps n) end ≡ Step s)
step_line [] end n h = absurd (omega arith)
step_line (s ∷ ss) end zero h = (s, refl, refl)
step_line (s ∷ ss) end (suc n) h = step_line ss end n (omega arith)

pub end_line : (steps : List MidStep) (end : MidEnd) → line_of (slice_get steps (length steps)) end ≡ End end
end_line [] end = refl
end_line (s ∷ ss) end = end_line ss end

-- ---- the lines of a function

module _ (f : MidFunction) where
  pub line_there : (b n : ℕ) (block : MidBlock) → slice_get f.blocks b ≡ Some block → n ≤ length block.steps → slice_get (lines f) (first_of f b + n) ≡ Some (line_of (slice_get block.steps n) block.end)
  line_there b n block is h =
      at_first block_lines f.blocks b n block is (omega (arith, block_length block.steps block.end)) ∙ block_line block.steps block.end n h

  pub first_behind : (b : ℕ) (block : MidBlock) → slice_get f.blocks b ≡ Some block → first_of f (b + 1) ≡ first_of f b + length block.steps + 1
  first_behind b block is =
      let one : b + 1 ≡ suc b = omega arith in
      omega (arith, ap (first_of f) one, first_next block_lines f.blocks b block is, block_length block.steps block.end)

  pub record Spot (at : ℕ) : Type 0 where
    pub number : ℕ
    pub before : ℕ
    pub block : MidBlock
    pub is : slice_get f.blocks number ≡ Some block
    pub within : before ≤ length block.steps
    pub place : at ≡ first_of f number + before

  pub spot_of : (at : ℕ) → at < length (lines f) → Spot at
  spot_of at h =
      let p = part_of block_lines f.blocks at h in
      record { number = p.piece; before = p.offset; block = p.item; is = p.is; within = omega (arith, p.within, block_length p.item.steps p.item.end); place = p.place }
