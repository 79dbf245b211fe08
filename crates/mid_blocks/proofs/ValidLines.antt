-- What a valid function gives at its blocks and lines.
use Rattle.std.proofs.Common.{◌≡◌, ℕ, ◌+◌, ◌<◌, ◌≤◌, List, [], ◌∷◌, ◌++◌, length, take, drop, Some, refl, sym, ap, ◌∙◌, subst, arith, get_or, length-append}
use Rattle.std.specs.Prelude.{slice_get, IsTrue}
use Rattle.std.specs.List.{All, flat_map}
use Rattle.std.proofs.lemmas.List.{take-append-drop, take_all}
use Rattle.std.proofs.lemmas.List.Concat.{flat_map-append}
use Rattle.std.proofs.lemmas.Option.{get_or_from_slice_get, slice_get-get_or, slice_get_read}
use Rattle.mid_blocks.specs.declared.code.MidBlock.{MidBlock}
use Rattle.mid_blocks.specs.declared.code.MidFunction.{MidFunction}
use Rattle.mid_blocks.specs.Lines.{Line, block_lines, lines, first_of}
use Rattle.mid_blocks.specs.Valid.{ValidFunction, line_variables, IsTarget, IsBehind, target, falls_on}
use Rattle.mid_blocks.proofs.Positions.{get_within, at_first, block_length, first_behind}

module _ (f : MidFunction) where
  pub block_variables : ValidFunction f → (b : ℕ) (block : MidBlock) → slice_get f.blocks b ≡ Some block → All (λ line. All (λ v. v < f.variables) (line_variables line)) (block_lines block)
  block_variables valid b block is k d l =
      let there = at_first block_lines f.blocks b k block is l in
      let line : Line = get_or (block_lines block) k d in
      let got : slice_get (lines f) (first_of f b + k) ≡ Some line = there ∙ slice_get-get_or (block_lines block) k d l in
      subst (λ (x : Line). All (λ v. v < f.variables) (line_variables x)) (get_or_from_slice_get (lines f) (first_of f b + k) line d got)
      (valid.variables_exist (first_of f b + k) d (get_within (lines f) (first_of f b + k) line got))

  pub is_target : (b : ℕ) (block : MidBlock) (to : ℕ) → slice_get f.blocks b ≡ Some block → target block.end ≡ Some to → IsTarget f to
  is_target b block to is t = (b, block, get_within f.blocks b block is, get_or_from_slice_get f.blocks b block block is, t)

  pub is_behind : (b : ℕ) (block : MidBlock) → slice_get f.blocks b ≡ Some block → IsTrue (falls_on block.end) → IsBehind falls_on f (b + 1)
  is_behind b block is t = (b, block.end, (block, is, refl), t, refl)

  -- the first position of a block is a position, and blocks are at most as many as lines
  pub first_le : (b : ℕ) → first_of f b ≤ length (lines f)
  first_le b =
      let e : length (lines f) ≡ length (flat_map block_lines (take b f.blocks ++ drop b f.blocks)) = ap (λ xs. length (flat_map block_lines xs)) (sym (take-append-drop b f.blocks)) in
      omega (arith, e, ap length (flat_map-append block_lines (take b f.blocks) (drop b f.blocks)), length-append (flat_map block_lines (take b f.blocks)) (flat_map block_lines (drop b f.blocks)))

  pub first_last : (n : ℕ) → length f.blocks ≤ n → first_of f n ≡ length (lines f)
  first_last n le = ap (λ bs. length (flat_map block_lines bs)) (take_all n f.blocks le)

pub blocks_below : (bs : List MidBlock) → length bs ≤ length (flat_map block_lines bs)
blocks_below [] = omega arith
blocks_below (b ∷ bs) = omega (arith, blocks_below bs, length-append (block_lines b) (flat_map block_lines bs), block_length b.steps b.end)

pub few_blocks : (f : MidFunction) → ValidFunction f → length f.blocks ≤ 62914560
few_blocks f valid = omega (arith, blocks_below f.blocks, valid.few_lines)

pub block_there : (blocks items : List MidBlock) (i : ℕ) (x : MidBlock) → items ≡ blocks → i < length items → x ≡ get_or items i x → slice_get blocks i ≡ Some x
block_there blocks items i x e l h = subst (λ (bs : List MidBlock). slice_get bs i ≡ Some x) e (slice_get_read items (length items) i x refl l h)

pub block_fits : (f : MidFunction) → ValidFunction f → (b : ℕ) (block : MidBlock) → slice_get f.blocks b ≡ Some block → first_of f b + length block.steps + 1 ≤ 62914560
block_fits f valid b block is = omega (arith, first_behind f b block is, first_le f (b + 1), valid.few_lines)
