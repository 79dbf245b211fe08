-- Each block of a doubled program consists of forms that fit and have no checks.
use Rattle.std.proofs.Common.{false, ◌≡◌, ◌≢◌, ◌≤◌, ◌<◌, ℕ, zero, suc, ◌+◌, ◌-◌, ◌/◌, ◌%◌, ◌^◌, arith, ap, refl, sym, ◌∙◌, subst, List, [], ◌∷◌, ◌++◌, length, map, take, sum, inl, inr, flat_map, ⊎_elim}
use Rattle.std.specs.Prelude.{Option, Some, None, ◌⊎◌, slice_get, Contains}
use Rattle.mips_isa.specs.declared.instr.Instr.TheVariants as mips
use Rattle.mid_blocks.specs.declared.code.MidStep.{MidStep}
use Rattle.mid_blocks.specs.declared.code.MidEnd.{MidEnd}
use Rattle.mid_blocks.specs.declared.code.MidEnd.TheVariants as line
use Rattle.mid_blocks.specs.declared.code.MidBlock.{MidBlock}
use Rattle.mid_blocks.specs.declared.code.MidFunction.{MidFunction}
use Rattle.mid_blocks.specs.declared.code.Mid.{Mid}
use Rattle.mid_blocks.specs.declared.places.Places.{Places}
use Rattle.mid_blocks.specs.Lines.{Line, Step, End, one_or_none}
use Rattle.mid_blocks.specs.Liveness.{PlacesFit}
use Rattle.mid_blocks.specs.Valid.{Valid, ValidFunction, line_variables}
use Rattle.hard_items.specs.declared.code.Item.{Item}
use Rattle.hard_items.specs.declared.code.HardProgram.{HardProgram}
use Rattle.hard_items.specs.Forms.{AreBare, Close, Call, Exit}
use Rattle.hard_items.specs.Run.{items_of}
use Rattle.double_law.specs.declared.roles.Role.TheVariants.{Stack}
use Rattle.double_law.specs.Roles.{reg_in, both}
use Rattle.double_law.specs.Emitted.{place_of, step_items, end_items, call_items}
use Rattle.frame_plan.specs.Frames.{cell_address, global_cell, global_length, cells}
use Rattle.double_law.specs.Program.{first_block, start_items, body_items, behind_block, behind_end, first_items, IsDoubled}
use Rattle.double_law.proofs.Places.{PlaceFits}
use Rattle.hard_words.proofs.Sums.{sum_cons}
use Rattle.double_law.proofs.Relation.{StepAt, EndAt}
use Rattle.double_law.proofs.Flows.{step_line, end_line, in_front, at_end, named_below, fits_below, param_below}
use Rattle.double_law.specs.Law.{AllFit}
use Rattle.double_law.proofs.Wiring.{all_at}
use Rattle.double_law.proofs.Formed.{Made, MadeBlock, made_nothing, made_then, block_then, made_step, made_end, made_enter, made_result, made_call, made_exit, close_of, made_lui, made_ori_self, StepPlacesFit, EndPlacesFit, EachFits}

order : (x k : ℕ) → (x < k) ⊎ (k ≤ x)
order x zero = inr Rattle.std.proofs.Common.zero-le
order zero (suc k) = inl (Rattle.std.proofs.Common.zero-lt-suc k)
order (suc x) (suc k) = ⊎_elim (λ l. inl (Rattle.std.proofs.Common.suc-le-suc l)) (λ l. inr (Rattle.std.proofs.Common.suc-le-suc l)) (order x k)

first_in : (x : ℕ) (xs : List ℕ) → Contains (x ∷ xs) x
first_in x xs = (0, Rattle.std.proofs.Common.zero-lt-suc (length xs), refl)

next_in : (x y : ℕ) (xs : List ℕ) → Contains xs y → Contains (x ∷ xs) y
next_in x y xs c = (suc c.0, Rattle.std.proofs.Common.suc-le-suc c.1, c.2)

-- ---- a step and an end name variables whose places fit

abbrev pub Fitting : ℕ → Places → List ℕ → Type 0
Fitting q at vs = (v : ℕ) → Contains vs v → PlaceFits q (place_of at v)

pub step_fits : (q : ℕ) (at : Places) (s : MidStep) → Fitting q at (line_variables (Step s)) → StepPlacesFit q at s
step_fits q at (MidStep.Constant to w) f = f to (first_in to [])
step_fits q at (MidStep.Copy to from) f = (f to (next_in from to (to ∷ []) (first_in to [])), f from (first_in from (to ∷ [])))
step_fits q at (MidStep.Operate o to left right) f = (f to (next_in left to (right ∷ to ∷ []) (next_in right to (to ∷ []) (first_in to []))), f left (first_in left (right ∷ to ∷ [])), f right (next_in left right (right ∷ to ∷ []) (first_in right (to ∷ []))))
step_fits q at (MidStep.Guard g index) f = f index (first_in index [])
step_fits q at (MidStep.Load to g None) f = (f to (first_in to []), tt)
step_fits q at (MidStep.Load to g (Some i)) f = (f to (next_in i to (to ∷ []) (first_in to [])), f i (first_in i (to ∷ [])))
step_fits q at (MidStep.Store g None from) f = (tt, f from (first_in from []))
step_fits q at (MidStep.Store g (Some i) from) f = (f i (first_in i (from ∷ [])), f from (next_in i from (from ∷ []) (first_in from [])))
step_fits q at (MidStep.Input to) f = f to (first_in to [])
step_fits q at (MidStep.Output from) f = f from (first_in from [])
step_fits q at (MidStep.Deep v) f = f v (first_in v [])

each_fits : (q : ℕ) (at : Places) (vs : List ℕ) → Fitting q at vs → EachFits q at vs
each_fits q at [] f = tt
each_fits q at (v ∷ vs) f = (f v (first_in v vs), each_fits q at vs (λ w c. f w (next_in v w vs c)))

pub end_fits : (q : ℕ) (at : Places) (e : MidEnd) → Fitting q at (line_variables (End e)) → EndPlacesFit q at e
end_fits q at (line.Jump to) f = tt
end_fits q at (line.Branch v when to) f = f v (first_in v [])
end_fits q at (line.Call g args result) f = each_fits q at args (λ v c. f v (in_front args (one_or_none result) v c))
end_fits q at (line.Return None) f = tt
end_fits q at (line.Return (Some v)) f = f v (first_in v [])

-- ---- the blocks of a function

made_steps : (address size : ℕ → ℕ) (at : Places) (xs : List MidStep) → ((k : ℕ) (s : MidStep) → slice_get xs k ≡ Some s → Made (step_items address size at s)) → Made (flat_map (step_items address size at) xs)
made_steps address size at [] h = made_nothing
made_steps address size at (s ∷ xs) h = made_then (step_items address size at s) (flat_map (step_items address size at) xs) (h 0 s refl) (made_steps address size at xs (λ k z e. h (suc k) z e))

module _ (f : MidFunction) (at : Places) (vf : ValidFunction f) (pf : PlacesFit f at) where
  step_made : (address size : ℕ → ℕ) (b k : ℕ) (block : MidBlock) (s : MidStep) → slice_get f.blocks b ≡ Some block → slice_get block.steps k ≡ Some s → Made (step_items address size at s)
  step_made address size b k block s e g =
      let there : StepAt f b k s = record { block = block; is_block = e; is_step = g } in
      made_step address size f.pairs at s vf.pairs_fit (step_fits f.pairs at s (λ v c. fits_below f at vf pf v (named_below f at vf pf (Rattle.mid_blocks.specs.Lines.first_of f b + k) (Step s) v (step_line f b k s there) c)))

  pub end_variables : (b : ℕ) (block : MidBlock) → slice_get f.blocks b ≡ Some block → Fitting f.pairs at (line_variables (End block.end))
  end_variables b block e v c =
      let there : EndAt f b (length block.steps) block.end = record { block = block; is_block = e; is_last = refl; is_end = refl } in
      fits_below f at vf pf v (named_below f at vf pf (Rattle.mid_blocks.specs.Lines.first_of f b + length block.steps) (End block.end) v (end_line f b (length block.steps) block.end there) c)

  result_made : (e : MidEnd) → Fitting f.pairs at (line_variables (End e)) → Made (behind_end at e)
  result_made (line.Jump to) h = made_nothing
  result_made (line.Branch v when to) h = made_nothing
  result_made (line.Call g args None) h = made_nothing
  result_made (line.Call g args (Some v)) h = made_result f.pairs (place_of at v) vf.pairs_fit (h v (at_end args v))
  result_made (line.Return from) h = made_nothing

  start_made : (b : ℕ) → Made (start_items f at b)
  start_made zero = made_enter f.pairs f.params at (λ j. ⊎_elim (λ l. inl (subst (λ (k : ℕ). PlaceFits f.pairs (place_of at k)) (sym (Rattle.std.proofs.Common.zero-add j)) (fits_below f at vf pf j (param_below f at vf pf j l)))) (λ l. inr l) (order j f.params))
  start_made (suc b) = by_block (slice_get f.blocks b) refl
    where
      by_block : (o : Option MidBlock) → slice_get f.blocks b ≡ o → Made (behind_block at o)
      by_block None e = made_nothing
      by_block (Some x) e = result_made x.end (end_variables b x e)

  pub block_made : (mid : Mid) (n b : ℕ) (block : MidBlock) → slice_get f.blocks b ≡ Some block → MadeBlock (start_items f at b ++ body_items mid n f at block) (close_of (first_block mid n) at block.end)
  block_made mid n b block e =
      let address : ℕ → ℕ = λ g. cell_address (global_cell mid g) in
      let size : ℕ → ℕ = global_length mid in
      block_then (start_items f at b) (body_items mid n f at block) (close_of (first_block mid n) at block.end) (start_made b)
      (block_then (flat_map (step_items address size at) block.steps) (end_items (first_block mid n) f.pairs at block.end) (close_of (first_block mid n) at block.end)
      (made_steps address size at block.steps (λ k s g. step_made address size b k block s e g))
      (made_end (first_block mid n) f.pairs at block.end (end_fits f.pairs at block.end (end_variables b block e))))

pub first_made : (mid : Mid) → MadeBlock (first_items mid) (Call 0)
first_made mid = block_then (both (λ t. mips.Lui (reg_in t Stack) (cell_address (cells mid) / 2 ^ 16))) (both (λ t. mips.Ori (reg_in t Stack) (reg_in t Stack) (cell_address (cells mid) % 2 ^ 16)) ++ call_items 0) (Call 0) (made_lui Stack (cell_address (cells mid) / 2 ^ 16) tt)
    (block_then (both (λ t. mips.Ori (reg_in t Stack) (reg_in t Stack) (cell_address (cells mid) % 2 ^ 16))) (call_items 0) (Call 0) (made_ori_self Stack (cell_address (cells mid) % 2 ^ 16) tt) (made_call 0))

-- ---- each number is one of a block

-- The block of a number, counted over all functions.
pub record Found (fs : List MidFunction) (x : ℕ) : Type 0 where
  pub n : ℕ
  pub b : ℕ
  pub f : MidFunction
  pub block : MidBlock
  pub is_function : slice_get fs n ≡ Some f
  pub is_block : slice_get f.blocks b ≡ Some block
  pub counts : x ≡ sum (map (λ (g : MidFunction). length g.blocks) (take n fs)) + b

pub find : (fs : List MidFunction) (x : ℕ) → x < sum (map (λ (g : MidFunction). length g.blocks) fs) → Found fs x
find [] x h = absurd (Rattle.std.proofs.Common.not-suc-le-zero h)
find (f ∷ fs) x h = ⊎_elim inside (λ l. beyond l (find fs (x - length f.blocks) (less x (length f.blocks) rest total l))) (order x (length f.blocks))
  where
    rest : ℕ
    rest = sum (map (λ (g : MidFunction). length g.blocks) fs)

    total : x < length f.blocks + rest
    total = subst (λ (k : ℕ). x < k) (sum_cons (length f.blocks) (map (λ (g : MidFunction). length g.blocks) fs)) h

    inside : x < length f.blocks → Found (f ∷ fs) x
    inside l = let t : (blk : MidBlock) × (slice_get f.blocks x ≡ Some blk) = Rattle.double_law.proofs.Wiring.there f.blocks x l in
        record { n = 0; b = x; f = f; block = t.0; is_function = refl; is_block = t.1; counts = sym (Rattle.std.proofs.Common.zero-add x) }

    less : (x k r : ℕ) → x < k + r → k ≤ x → x - k < r
    less x k r h l = omega arith

    joined : (x k s b t : ℕ) → k ≤ x → x - k ≡ s + b → t ≡ k + s → x ≡ t + b
    joined x k s b t l e g = omega arith

    beyond : length f.blocks ≤ x → Found fs (x - length f.blocks) → Found (f ∷ fs) x
    beyond l r =
        record {
          n = suc r.n;
          b = r.b;
          f = r.f;
          block = r.block;
          is_function = r.is_function;
          is_block = r.is_block;
          counts = joined x (length f.blocks) (sum (map (λ (g : MidFunction). length g.blocks) (take r.n fs))) r.b (sum (map (λ (g : MidFunction). length g.blocks) (take (suc r.n) (f ∷ fs)))) l r.counts (sum_cons (length f.blocks) (map (λ (g : MidFunction). length g.blocks) (take r.n fs)));
        }

bare_of : (xs : List Item) (c : Close) → MadeBlock xs c → AreBare xs
bare_of xs c m = record { formed = record { forms = m.forms; close = c; is = m.is; fit = m.fit; close_fits = m.close_fits }; bare = m.bare; close = m.bare_close }

pub all_bare : (mid : Mid) (places : List Places) (p : HardProgram) → Valid mid → IsDoubled mid places p → AllFit mid places → (b : ℕ) → b < length p.blocks → AreBare (items_of p b)
all_bare mid places p valid is fit zero h = bare_of (items_of p 0) (Call 0) (subst (λ (xs : List Item). MadeBlock xs (Call 0)) (sym is.first) (first_made mid))
all_bare mid places p valid is fit (suc zero) h = bare_of (items_of p 1) (Exit false) (subst (λ (xs : List Item). MadeBlock xs (Exit false)) (sym is.exit) made_exit)
all_bare mid places p valid is fit (suc (suc x)) h =
    let r : Found mid.functions x = find mid.functions x (less x (sum (map (λ (g : MidFunction). length g.blocks) mid.functions)) (subst (λ (k : ℕ). suc (suc x) < k) is.blocks_long h)) in
    let a : (at : Places) × (slice_get places r.n ≡ Some at) × PlacesFit r.f at = fit r.n r.f r.is_function in
    let number : first_block mid r.n + r.b ≡ suc (suc x) = counted x (sum (map (λ (g : MidFunction). length g.blocks) (take r.n mid.functions))) r.b r.counts in
    bare_of (items_of p (suc (suc x))) (close_of (first_block mid r.n) a.0 r.block.end) (subst (λ (xs : List Item). MadeBlock xs (close_of (first_block mid r.n) a.0 r.block.end)) (sym (is.block r.n r.b r.f a.0 r.block r.is_function a.1 r.is_block) ∙ ap (λ (k : ℕ). items_of p k) number)
    (block_made r.f a.0 (all_at ValidFunction mid.functions r.n r.f valid.functions_valid r.is_function) a.2 mid r.n r.b r.block r.is_block))
  where
    less : (x n : ℕ) → suc (suc x) < 2 + n → x < n
    less x n h = omega arith

    counted : (x s b : ℕ) → x ≡ s + b → 2 + s + b ≡ suc (suc x)
    counted x s b e = omega arith
