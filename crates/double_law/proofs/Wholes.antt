-- What each block of a doubled program fits, and the words that it comes to.
use Rattle.std.proofs.Common.{◌≡◌, ◌≢◌, ◌≤◌, ◌<◌, ℕ, zero, suc, ◌+◌, ◌-◌, ◌*◌, ◌/◌, ◌%◌, ◌^◌, arith, ap, refl, sym, ◌∙◌, subst, List, [], ◌∷◌, ◌++◌, Bool, true, false, inl, inr, length, map, take, flat_map, sum, le_refl, le_trans, zero-le, zero-add, ⊎_elim}
use Rattle.std.specs.Prelude.{Option, Some, None, slice_get, slice_index_or}
use Rattle.std.proofs.lemmas.Bool.{cases_lt}
use Rattle.mips_isa.specs.declared.instr.Instr.TheVariants as mips
use Rattle.hard_items.specs.declared.code.Item.{Item}
use Rattle.hard_items.specs.declared.code.HardProgram.{HardProgram}
use Rattle.hard_items.specs.Run.{items_of}
use Rattle.hard_items.specs.Forms.{Close, Call, Exit}
use Rattle.mid_blocks.specs.declared.code.MidStep.{MidStep}
use Rattle.mid_blocks.specs.declared.code.MidEnd.{MidEnd}
use Rattle.mid_blocks.specs.declared.code.MidEnd.TheVariants as line
use Rattle.mid_blocks.specs.declared.code.MidBlock.{MidBlock}
use Rattle.mid_blocks.specs.declared.code.MidFunction.{MidFunction}
use Rattle.mid_blocks.specs.declared.code.Mid.{Mid}
use Rattle.mid_blocks.specs.declared.places.Places.{Places}
use Rattle.mid_blocks.specs.Lines.{Step, End, first_of}
use Rattle.mid_blocks.specs.Liveness.{PlacesFit}
use Rattle.mid_blocks.specs.Valid.{ValidFunction, line_variables}
use Rattle.mid_blocks.specs.Size.{step_words}
use Rattle.frame_plan.specs.Frames.{cell_address, global_cell, global_length, global_cells, cells}
use Rattle.double_law.specs.declared.roles.Role.TheVariants.{Stack}
use Rattle.double_law.specs.Roles.{reg_in, both}
use Rattle.double_law.specs.Emitted.{place_of, step_items, end_items, call_items}
use Rattle.double_law.specs.Program.{first_block, start_items, behind_end, behind_block, body_items, first_items}
use Rattle.double_law.specs.Law.{Doubles}
use Rattle.hard_words.proofs.Sums.{sum_cons}
use Rattle.double_law.proofs.Relation.{StepAt}
use Rattle.double_law.proofs.Places.{PlaceFits}
use Rattle.double_law.proofs.Flows.{step_line, at_end, named_below, fits_below, param_below}
use Rattle.double_law.proofs.Formed.{close_of}
use Rattle.double_law.proofs.Blocks.{Fitting, step_fits, end_fits, end_variables}
use Rattle.double_law.proofs.Emits.{Emits, emits_nothing, emits_then, emits_more, emits_step, emits_lui, emits_ori_self, WordFits}
use Rattle.double_law.proofs.Closed.{EmitsBlock, block_then, closed_call, closed_exit, emits_end, emits_result, emits_enter, close_words}
use Rattle.double_law.proofs.BlockKinds.{Kind, is_first, is_exit, is_inner}

-- ---- numbers of globals

part_le : (xs : List (List ℕ)) (g : ℕ) → sum (map length (take g xs)) ≤ sum (map length xs)
part_le xs zero = zero-le
part_le [] (suc g) = le_refl (sum (map (λ (x : List ℕ). length x) []))
part_le (x ∷ xs) (suc g) = more (length x) (sum (map length (take g xs))) (sum (map length xs)) (sum (map length (take (suc g) (x ∷ xs)))) (sum (map length (x ∷ xs))) (sum_cons (length x) (map length (take g xs))) (sum_cons (length x) (map length xs)) (part_le xs g)
  where
    more : (n a b s t : ℕ) → s ≡ n + a → t ≡ n + b → a ≤ b → s ≤ t
    more n a b s t e f h = omega arith

one_le : (xs : List (List ℕ)) (g : ℕ) → length (slice_index_or xs g []) ≤ sum (map length xs)
one_le [] g = zero-le
one_le (x ∷ xs) zero = more (length x) (sum (map length xs)) (sum (map length (x ∷ xs))) (sum_cons (length x) (map length xs))
  where
    more : (n s t : ℕ) → t ≡ n + s → n ≤ t
    more n s t e = omega arith
one_le (x ∷ xs) (suc g) = more (length x) (length (slice_index_or xs g [])) (sum (map length xs)) (sum (map length (x ∷ xs))) (sum_cons (length x) (map length xs)) (one_le xs g)
  where
    more : (n a s t : ℕ) → t ≡ n + s → a ≤ s → a ≤ t
    more n a s t e h = omega arith

-- ---- starts, steps and ends

-- The words of a start, by the end of the block before it, or of a function's first block.
abbrev pub taken_words : MidEnd → ℕ
taken_words (line.Jump to) = 0
taken_words (line.Branch v when to) = 0
taken_words (line.Call g args None) = 0
taken_words (line.Call g args (Some v)) = 8
taken_words (line.Return from) = 0

abbrev pub before_words : Option MidBlock → ℕ
before_words None = 0
before_words (Some b) = taken_words b.end

abbrev pub start_words : MidFunction → ℕ → ℕ
start_words f zero = 2 + (8 + 4 * f.params)
start_words f (suc b) = before_words (slice_get f.blocks b)

-- The words of a block without its head.
abbrev pub whole_words : MidFunction → ℕ → MidBlock → ℕ
whole_words f b x = start_words f b + (sum (map step_words x.steps) + close_words x.end)

emits_steps : (address size : ℕ → ℕ) (at : Places) (xs : List MidStep) → ((k : ℕ) (s : MidStep) → slice_get xs k ≡ Some s → Emits (step_words s) (step_items address size at s)) → Emits (sum (map step_words xs)) (flat_map (step_items address size at) xs)
emits_steps address size at [] h = emits_nothing
emits_steps address size at (s ∷ xs) h = emits_more (step_words s + sum (map step_words xs)) (sum (map step_words (s ∷ xs))) (flat_map (step_items address size at) (s ∷ xs)) (equal (sum (map step_words (s ∷ xs))) (step_words s + sum (map step_words xs)) (sum_cons (step_words s) (map step_words xs)))
    (emits_then (step_words s) (sum (map step_words xs)) (step_items address size at s) (flat_map (step_items address size at) xs) (h 0 s refl) (emits_steps address size at xs (λ k z e. h (suc k) z e)))
  where
    equal : (s t : ℕ) → s ≡ t → t ≤ s
    equal s t e = omega arith

result_words_are : (q : ℕ) (at : Places) (e : MidEnd) → q ≤ 4002 → Fitting q at (line_variables (End e)) → Emits (taken_words e) (behind_end at e)
result_words_are q at (line.Jump to) m h = emits_nothing
result_words_are q at (line.Branch v when to) m h = emits_nothing
result_words_are q at (line.Call g args None) m h = emits_nothing
result_words_are q at (line.Call g args (Some v)) m h = emits_result q (place_of at v) m (h v (at_end args v))
result_words_are q at (line.Return from) m h = emits_nothing

-- The words of a block of a doubled program.
abbrev pub words_of : (mid : Mid) (places : List Places) (x : ℕ) (c : Close) → Kind mid places x c → ℕ
words_of mid places x c (is_first e q) = 8
words_of mid places x c (is_exit e q) = 5
words_of mid places x c (is_inner i q) = whole_words i.f i.b i.block

module _ (mid : Mid) (places : List Places) (p : HardProgram) (d : Doubles mid places p) where
  address_small : (g : ℕ) → cell_address (global_cell mid g) < 2 ^ 31
  address_small g = small (global_cell mid g) (global_cells mid) mid.chain_pairs (part_le mid.globals g) d.valid.store_fits
    where
      small : (c g q : ℕ) → c ≤ g → g + q ≤ 32768 → 0x10010000 + 8 * c < 2 ^ 31
      small c g q h k = omega arith

  size_small : (g : ℕ) → global_length mid g < 2 ^ 16
  size_small g = small (global_length mid g) (global_cells mid) mid.chain_pairs (one_le mid.globals g) d.valid.store_fits
    where
      small : (c g q : ℕ) → c ≤ g → g + q ≤ 32768 → c < 2 ^ 16
      small c g q h k = omega arith

  word_fits : (n b k : ℕ) (f : MidFunction) (x : MidBlock) (s : MidStep) → slice_get mid.functions n ≡ Some f → slice_get f.blocks b ≡ Some x → slice_get x.steps k ≡ Some s → WordFits s
  word_fits n b k f x (MidStep.Constant to w) e g h = d.words.constants n b k to w f x e g h
  word_fits n b k f x (MidStep.Copy to from) e g h = tt
  word_fits n b k f x (MidStep.Operate o to left right) e g h = tt
  word_fits n b k f x (MidStep.Guard global index) e g h = tt
  word_fits n b k f x (MidStep.Load to global index) e g h = tt
  word_fits n b k f x (MidStep.Store global index from) e g h = tt
  word_fits n b k f x (MidStep.Input to) e g h = tt
  word_fits n b k f x (MidStep.Output from) e g h = tt
  word_fits n b k f x (MidStep.Deep v) e g h = tt

  module _ (n : ℕ) (f : MidFunction) (at : Places) (is : slice_get mid.functions n ≡ Some f) (vf : ValidFunction f) (pf : PlacesFit f at) where
    step_is : (b k : ℕ) (x : MidBlock) (s : MidStep) → slice_get f.blocks b ≡ Some x → slice_get x.steps k ≡ Some s → Emits (step_words s) (step_items (λ g. cell_address (global_cell mid g)) (global_length mid) at s)
    step_is b k x s e g =
        let there : StepAt f b k s = record { block = x; is_block = e; is_step = g } in
        emits_step (λ g. cell_address (global_cell mid g)) (global_length mid) f.pairs at s vf.pairs_fit address_small size_small (word_fits n b k f x s is e g)
        (step_fits f.pairs at s (λ v c. fits_below f at vf pf v (named_below f at vf pf (first_of f b + k) (Step s) v (step_line f b k s there) c)))

    start_is : (b : ℕ) → Emits (start_words f b) (start_items f at b)
    start_is zero = emits_enter f.pairs f.params at vf.pairs_fit (some_pairs f.variables f.pairs vf.variables_fit) (λ j. ⊎_elim (λ l. inl (subst (λ (k : ℕ). PlaceFits f.pairs (place_of at k)) (sym (zero-add j)) (fits_below f at vf pf j (param_below f at vf pf j l)))) (λ l. inr l) (cases_lt j f.params))
      where
        some_pairs : (v q : ℕ) → v < q → 0 < q
        some_pairs v q h = omega arith
    start_is (suc b) = by_block (slice_get f.blocks b) refl
      where
        by_block : (o : Option MidBlock) → slice_get f.blocks b ≡ o → Emits (before_words o) (behind_block at o)
        by_block None e = emits_nothing
        by_block (Some x) e = result_words_are f.pairs at x.end vf.pairs_fit (end_variables f at vf pf b x e)

    pub whole_is : (b : ℕ) (x : MidBlock) → slice_get f.blocks b ≡ Some x → EmitsBlock (whole_words f b x) (close_of (first_block mid n) at x.end) (start_items f at b ++ body_items mid n f at x)
    whole_is b x e =
        let address : ℕ → ℕ = λ g. cell_address (global_cell mid g) in
        let size : ℕ → ℕ = global_length mid in
        let c : Close = close_of (first_block mid n) at x.end in
        block_then (start_words f b) (sum (map step_words x.steps) + close_words x.end) c (start_items f at b) (body_items mid n f at x) (start_is b)
        (block_then (sum (map step_words x.steps)) (close_words x.end) c (flat_map (step_items address size at) x.steps) (end_items (first_block mid n) f.pairs at x.end)
        (emits_steps address size at x.steps (λ k s g. step_is b k x s e g))
        (emits_end (first_block mid n) f.pairs at x.end vf.pairs_fit (end_fits f.pairs at x.end (end_variables f at vf pf b x e))))

  high_small : cell_address (cells mid) / 2 ^ 16 < 2 ^ 16
  high_small = small (cells mid) d.valid.store_fits
    where
      small : (c : ℕ) → c ≤ 32768 → (0x10010000 + 8 * c) / 2 ^ 16 < 2 ^ 16
      small c h = omega arith

  first_is : EmitsBlock 8 (Call 0) (first_items mid)
  first_is = block_then 2 6 (Call 0) (both (λ t. mips.Lui (reg_in t Stack) (cell_address (cells mid) / 2 ^ 16))) (both (λ t. mips.Ori (reg_in t Stack) (reg_in t Stack) (cell_address (cells mid) % 2 ^ 16)) ++ call_items 0)
      (emits_lui Stack (cell_address (cells mid) / 2 ^ 16) high_small tt)
      (block_then 2 4 (Call 0) (both (λ t. mips.Ori (reg_in t Stack) (reg_in t Stack) (cell_address (cells mid) % 2 ^ 16))) (call_items 0)
      (emits_ori_self Stack (cell_address (cells mid) % 2 ^ 16) (Rattle.std.proofs.Common.mod-lt (cell_address (cells mid)) (omega arith)) tt) (closed_call 0))

  pub emits_of : (x : ℕ) (c : Close) (k : Kind mid places x c) → EmitsBlock (words_of mid places x c k) c (items_of p x)
  emits_of x c (is_first e q) = subst (λ (z : Close). EmitsBlock 8 z (items_of p x)) (sym q) (subst (λ (xs : List Item). EmitsBlock 8 (Call 0) xs) (sym (ap (λ (z : ℕ). items_of p z) e ∙ d.emitted.first)) first_is)
  emits_of x c (is_exit e q) = subst (λ (z : Close). EmitsBlock 5 z (items_of p x)) (sym q) (subst (λ (xs : List Item). EmitsBlock 5 (Exit false) xs) (sym (ap (λ (z : ℕ). items_of p z) e ∙ d.emitted.exit)) closed_exit)
  emits_of x c (is_inner i q) = subst (λ (z : Close). EmitsBlock (whole_words i.f i.b i.block) z (items_of p x)) (sym q)
      (subst (λ (xs : List Item). EmitsBlock (whole_words i.f i.b i.block) (close_of (first_block mid i.n) i.at i.block.end) xs)
      (sym (ap (λ (z : ℕ). items_of p z) i.number ∙ d.emitted.block i.n i.b i.f i.at i.block i.is_function i.has_places i.is_block))
      (whole_is i.n i.f i.at i.is_function (Rattle.double_law.proofs.Wiring.all_at ValidFunction mid.functions i.n i.f d.valid.functions_valid i.is_function) i.fit i.b i.block i.is_block))
