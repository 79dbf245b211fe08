-- The extents of all positions where a variable is met hold all where it is live.
use Rattle.std.proofs.Common.{◌≡◌, ℕ, ◌+◌, ◌<◌, ◌≤◌, Bool, true, false, List, [], ◌∷◌, ◌++◌, length, Option, Some, None, sym, ap, ◌∙◌, subst, arith, inl, inr, get_or}
use Rattle.std.specs.List.{All}
use Rattle.std.proofs.lemmas.Bool.{cases_lt}
use Rattle.std.proofs.lemmas.List.{get_or_append_left, get_or_push}
use Rattle.std.proofs.lemmas.List.Elements.{All-contains}
use Rattle.mid_blocks.specs.declared.code.MidFunction.{MidFunction}
use Rattle.mid_blocks.specs.Lines.{line_reads, lines, first_of}
use Rattle.mid_blocks.specs.Liveness.{IsWanted, here, later, IsLive, written, wanted, parameter}
use Rattle.mid_blocks.specs.Valid.{ValidFunction}
use Rattle.register_liveness.specs.declared.extents.Extent.{Extent}
use Rattle.register_liveness.specs.Search.{AreWantedAt, IsMarked}
use Rattle.register_liveness.specs.Met.{IsMet, by_read, by_write, by_first, by_last, by_call, Holds, Held, HasLines, HasBlock, CallBefore}
use Rattle.mid_blocks.proofs.Positions.{get_within}
use Rattle.mid_blocks.proofs.ValidLines.{blocks_below}
use Rattle.register_liveness.proofs.Valid.{successors_exist}
use Rattle.register_liveness.proofs.Searching.{marked_push}
use Rattle.register_liveness.proofs.Meeting.{between}
use Rattle.register_liveness.proofs.Widening.{reads_met, block_kept}

holds_between : (o : Option Extent) (low at high : ℕ) → low ≤ at → at ≤ high → Holds o low → Holds o high → Holds o at
holds_between None low at high a b h k = h
holds_between (Some e) low at high a b h k = (omega (arith, h.0), omega (arith, k.1))

module _ (f : MidFunction) where
  pub wanted_exists : ValidFunction f → (v at : ℕ) → IsWanted f v at → v < f.variables
  wanted_exists valid v _ (here at line there c) = All-contains (λ v. v < f.variables) (line_reads line) v (λ k d l. (reads_met f valid at line there k d l).0) c
  wanted_exists valid v _ (later at next line there w c h) = wanted_exists valid v next h

  pub met_held : ValidFunction f → (xs : List (Option Extent)) → ((u : ℕ) → u < f.params → Held xs u 0) → HasLines f xs (length (lines f)) → ((u b : ℕ) → u < f.variables → b < length f.blocks → IsWanted f u (first_of f b) → HasBlock f xs u b)
      → (v at : ℕ) → IsMet f v at → Held xs v at
  met_held valid xs params all blocks v _ (by_read at line there c) = All-contains (λ v. Held xs v at) (line_reads line) v (all at line (get_within (lines f) at line there) there).reads c
  met_held valid xs params all blocks v _ (by_write at line there w) = (all at line (get_within (lines f) at line there) there).writes v w
  met_held valid xs params all blocks v _ (by_first b l w) = (blocks v b (wanted_exists valid v (first_of f b) w) l w).first
  met_held valid xs params all blocks v _ (by_last b s block is c w) = (blocks v s (wanted_exists valid v (first_of f s) w) (successors_exist f valid b block s is c) w).lasts b block is c
  met_held valid xs params all blocks v _ (by_call l) = params v l

  pub live_held : ValidFunction f → (xs : List (Option Extent)) → ((u : ℕ) → u < f.params → Held xs u 0) → HasLines f xs (length (lines f)) → ((u b : ℕ) → u < f.variables → b < length f.blocks → IsWanted f u (first_of f b) → HasBlock f xs u b)
      → (v at : ℕ) → IsLive f v at → Held xs v at
  live_held valid xs params all blocks v at live =
      let b = between f v at (successors_exist f valid) live in
      holds_between (get_or xs v None) b.low at b.high b.above b.below (met_held valid xs params all blocks v b.low b.met_low) (met_held valid xs params all blocks v b.high b.met_high)

  -- one more variable
  pub blocks_more : (xs ys : List (Option Extent)) (v : ℕ) (found : List ℕ) → ((u p : ℕ) → Held xs u p → Held ys u p) → AreWantedAt f v found → All (λ b. HasBlock f ys v b) found
      → ((u b : ℕ) → u < v → b < length f.blocks → IsWanted f u (first_of f b) → HasBlock f xs u b) → (u b : ℕ) → u < v + 1 → b < length f.blocks → IsWanted f u (first_of f b) → HasBlock f ys u b
  blocks_more xs ys v found kept are has blocks u b l lb w = elim (cases_lt u v) [
    | inl lt ↦ block_kept f xs ys u b kept (blocks u b lt lb w)
    | inr ge ↦
        let e : v ≡ u = omega arith in
        subst (λ (x : ℕ). HasBlock f ys x b) e (All-contains (HasBlock f ys v) found b has (are.complete b lb (subst (λ (x : ℕ). IsWanted f x (first_of f b)) (sym e) w)))
  ]

  pub across_more : (marks : List Bool) (v : ℕ) (r : Bool) → length marks ≡ v → (r ≡ true → CallBefore f v) → ((u : ℕ) → IsMarked marks u → CallBefore f u) → (u : ℕ) → IsMarked (marks ++ r ∷ []) u → CallBefore f u
  across_more marks v r e if_true all u h = elim (marked_push marks r v u e h) [ inl m ↦ all u m | inr m ↦ subst (CallBefore f) (sym m.0) (if_true m.1) ]

  pub not_across_more : (marks : List Bool) (v : ℕ) (r : Bool) → length marks ≡ v → (r ≡ false → CallBefore f v → ⊥) → ((u : ℕ) → u < v → get_or marks u false ≡ false → CallBefore f u → ⊥) → (u : ℕ) → u < v + 1 → get_or (marks ++ r ∷ []) u false ≡ false → CallBefore f u → ⊥
  not_across_more marks v r e if_false all u l h c = elim (cases_lt u v) [
    | inl lt ↦ all u lt (sym (get_or_append_left marks (r ∷ []) false u (omega arith)) ∙ h) c
    | inr ge ↦
        let same : u ≡ v = omega arith in
        if_false (sym (get_or_push marks r false v e) ∙ ap (λ (k : ℕ). get_or (marks ++ r ∷ []) k false) (sym same) ∙ h) (subst (CallBefore f) same c)
  ]

  wanted_position : (v at : ℕ) → IsWanted f v at → at < length (lines f)
  wanted_position v _ (here at line there c) = get_within (lines f) at line there
  wanted_position v _ (later at next line there w c h) = get_within (lines f) at line there

  -- a variable is live at positions only
  pub live_position : ValidFunction f → (v at : ℕ) → IsLive f v at → at < length (lines f)
  live_position valid v at (written line there w) = get_within (lines f) at line there
  live_position valid v at (wanted h) = wanted_position v at h
  live_position valid v at (parameter l z) = omega (arith, z, valid.has_block, blocks_below f.blocks)
