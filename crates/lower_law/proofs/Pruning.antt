-- What is left of a program whose marks are closed is that program under new numbers.
use Rattle.std.proofs.Common.{◌≡◌, ℕ, zero, suc, ◌+◌, Bool, true, false, List, [], ◌∷◌, Option, Some, None, refl, ap, ◌∙◌, subst, arith, option_map}
use Rattle.std.specs.Prelude.{slice_get}
use Rattle.std.proofs.lemmas.Bool.{false≢true}
use Rattle.std.proofs.lemmas.Option.{slice_get-map}
use Rattle.mid_blocks.specs.declared.code.MidStep.{MidStep}
use Rattle.mid_blocks.specs.declared.code.MidEnd.{MidEnd}
use Rattle.mid_blocks.specs.declared.code.MidEnd.TheVariants.{Jump, Branch, Call, Return}
use Rattle.mid_blocks.specs.declared.code.MidBlock.{MidBlock}
use Rattle.mid_blocks.specs.declared.code.MidFunction.{MidFunction}
use Rattle.mid_blocks.specs.declared.code.Mid.{Mid}
use Rattle.mid_blocks.specs.Lines.{End, line_in, line_of as line_or_end}
use Rattle.mid_blocks.specs.Run.{Active, line_in_function}
use Rattle.mid_blocks.specs.Bounds.{pairs_of}
use Rattle.mid_blocks.specs.Valid.{target, falls_on}
use Rattle.mid_blocks.specs.Renumbered.{Numbers, renumbered_end, renumbered_line, line_of, Renumbered}
use Rattle.lower_law.proofs.Expressions.{both}
use Rattle.mid_blocks.specs.Pruned.{is_marked, marked_before, marked, marks_of, function_marks, is_marked_block, numbers_of, renumbered_block, pruned_function, pruned_from, pruned, leads_to_marked, Closed}

-- ---- lists

pub marked_at : {A : Type 0} (bs : List Bool) (xs : List A) (i : ℕ) → is_marked bs i ≡ true → slice_get (marked bs xs) (marked_before bs i) ≡ slice_get xs i
marked_at [] xs i h = absurd (false≢true h)
marked_at (b ∷ bs) [] i h = refl
marked_at (true ∷ bs) (x ∷ xs) zero h = refl
marked_at (false ∷ bs) (x ∷ xs) zero h = absurd (false≢true h)
marked_at (true ∷ bs) (x ∷ xs) (suc i) h = marked_at bs xs i h
marked_at (false ∷ bs) (x ∷ xs) (suc i) h = marked_at bs xs i h

pub marked_next : (bs : List Bool) (i : ℕ) → is_marked bs i ≡ true → marked_before bs (suc i) ≡ suc (marked_before bs i)
marked_next [] i h = absurd (false≢true h)
marked_next (true ∷ []) zero h = refl
marked_next (true ∷ (b ∷ bs)) zero h = refl
marked_next (false ∷ bs) zero h = absurd (false≢true h)
marked_next (true ∷ bs) (suc i) h = ap suc (marked_next bs i h)
marked_next (false ∷ bs) (suc i) h = marked_next bs i h

before_none : (bs : List Bool) → marked_before bs 0 ≡ 0
before_none [] = refl
before_none (b ∷ bs) = refl

pub function_mark : (marks : List (List Bool)) (f : ℕ) → is_marked (function_marks marks) f ≡ is_marked (marks_of marks f) 0
function_mark [] f = refl
function_mark (bs ∷ marks) zero = refl
function_mark (bs ∷ marks) (suc f) = function_mark marks f

pub pruned_at : (marks : List (List Bool)) (i f j : ℕ) (fs : List MidFunction) → i + f ≡ j → slice_get (pruned_from marks i fs) f ≡ option_map (pruned_function marks j) (slice_get fs f)
pruned_at marks i f j [] e = refl
pruned_at marks i zero j (code ∷ fs) e = let e' : i ≡ j = omega (arith, e) in ap (λ n. Some (pruned_function marks n code)) e'
pruned_at marks i (suc f) j (code ∷ fs) e = pruned_at marks (suc i) f j fs (omega (arith, e))

-- ---- lines

line_same : (new : Numbers) (f : ℕ) (o : Option MidBlock) (step : ℕ) → line_in (option_map (renumbered_block new f) o) step ≡ renumbered_line new f (line_in o step)
line_same new f None step = refl
line_same new f (Some b) step = by (slice_get b.steps step)
  where
    by : (o : Option MidStep) → Some (line_or_end o (renumbered_end new f b.end)) ≡ renumbered_line new f (Some (line_or_end o b.end))
    by None = refl
    by (Some s) = refl

module _ (mid : Mid) (marks : List (List Bool)) (closed : Closed mid marks) where
  abbrev new : Numbers
  new = numbers_of marks

  abbrev pub Marked : ℕ → ℕ → Type 0
  Marked f block = is_marked_block marks f block ≡ true

  lines_same : (f block step : ℕ) → Marked f block → line_of (pruned marks mid) (new.function f) (new.block f block) step ≡ renumbered_line new f (line_of mid f block step)
  lines_same f block step m =
      let call : Active = record { function = new.function f; block = new.block f block; step = step; variables = λ v. None; result = None } in
      ap (λ o. line_in_function o call) (marked_at (function_marks marks) (pruned_from marks 0 mid.functions) f (function_mark marks f ∙ closed.first f block m) ∙ pruned_at marks 0 f f mid.functions (omega arith))
      ∙ by (slice_get mid.functions f)
    where
      by : (o : Option MidFunction) → line_in_function (option_map (pruned_function marks f) o) (record { function = new.function f; block = new.block f block; step = step; variables = λ v. None; result = None }) ≡ renumbered_line new f (line_in_function o (record { function = f; block = block; step = step; variables = λ v. None; result = None }))
      by None = refl
      by (Some code) =
          ap (λ x. line_in x step) (slice_get-map (renumbered_block new f) (marked (marks_of marks f) code.blocks) (new.block f block) ∙ ap (option_map (renumbered_block new f)) (marked_at (marks_of marks f) code.blocks block m))
          ∙ line_same new f (slice_get code.blocks block) step

  pairs_same : (f block : ℕ) → Marked f block → pairs_of (slice_get (pruned marks mid).functions (new.function f)) ≡ pairs_of (slice_get mid.functions f)
  pairs_same f block m =
      ap pairs_of (marked_at (function_marks marks) (pruned_from marks 0 mid.functions) f (function_mark marks f ∙ closed.first f block m) ∙ pruned_at marks 0 f f mid.functions (omega arith))
      ∙ by (slice_get mid.functions f)
    where
      by : (o : Option MidFunction) → pairs_of (option_map (pruned_function marks f) o) ≡ pairs_of o
      by None = refl
      by (Some code) = refl

  record EndOf (f block : ℕ) (end : MidEnd) : Type 0 where
    pub code : MidFunction
    pub b : MidBlock
    pub is : slice_get mid.functions f ≡ Some code
    pub at : slice_get code.blocks block ≡ Some b
    pub end_is : b.end ≡ end

  end_of : (f block step : ℕ) (end : MidEnd) → line_of mid f block step ≡ Some (End end) → EndOf f block end
  end_of f block step end h = in_program (slice_get mid.functions f) refl h
    where
      in_block : (code : MidFunction) (b : MidBlock) (o : Option MidStep) → slice_get mid.functions f ≡ Some code → slice_get code.blocks block ≡ Some b → Some (line_or_end o b.end) ≡ Some (End end) → EndOf f block end
      in_block code b None is at e = let same : b.end ≡ end = cc in record { code = code; b = b; is = is; at = at; end_is = same }
      in_block code b (Some s) is at e = cc

      in_code : (code : MidFunction) (o : Option MidBlock) → slice_get mid.functions f ≡ Some code → slice_get code.blocks block ≡ o → line_in o step ≡ Some (End end) → EndOf f block end
      in_code code None is at e = cc
      in_code code (Some b) is at e = in_block code b (slice_get b.steps step) is at e

      in_program : (o : Option MidFunction) → slice_get mid.functions f ≡ o → line_in_function o (record { function = f; block = block; step = step; variables = λ v. None; result = None }) ≡ Some (End end) → EndOf f block end
      in_program None is e = cc
      in_program (Some code) is e = in_code code (slice_get code.blocks block) is refl e

  leads_on : (f block step : ℕ) (end : MidEnd) → Marked f block → line_of mid f block step ≡ Some (End end) → leads_to_marked marks f block end ≡ true
  leads_on f block step end m h = let x = end_of f block step end h in subst (λ e. leads_to_marked marks f block e ≡ true) x.end_is (closed.leads f block x.code x.b x.is x.at m)

  goes_on : (f block to : ℕ) (end : MidEnd) → target end ≡ Some to → leads_to_marked marks f block end ≡ true → Marked f to
  goes_on f block to (Jump there) e h = let same : there ≡ to = cc in subst (λ n. Marked f n) same h
  goes_on f block to (Branch test when there) e h = let same : there ≡ to = cc in subst (λ n. Marked f n) same (both (is_marked_block marks f there) (is_marked_block marks f (block + 1)) h).0
  goes_on f block to (Call function args result) e h = cc
  goes_on f block to (Return from) e h = cc

  falls_to : (f block : ℕ) (end : MidEnd) → falls_on end ≡ true → leads_to_marked marks f block end ≡ true → Marked f (block + 1)
  falls_to f block (Jump there) e h = absurd (false≢true e)
  falls_to f block (Branch test when there) e h = (both (is_marked_block marks f there) (is_marked_block marks f (block + 1)) h).1
  falls_to f block (Call function args result) e h = (both (is_marked_block marks function 0) (is_marked_block marks f (block + 1)) h).1
  falls_to f block (Return from) e h = absurd (false≢true e)

  next_number : (f block : ℕ) → Marked f block → new.block f (block + 1) ≡ new.block f block + 1
  next_number f block m =
      let e : block + 1 ≡ suc block = omega arith in
      let n = marked_next (marks_of marks f) block m in
      ap (new.block f) e ∙ omega (arith, n)

  -- what is left is the program under new numbers
  pub pruned_same : Renumbered mid (pruned marks mid) (numbers_of marks) Marked
  pruned_same = record {
    globals_are = refl;
    chain_pairs_are = refl;
    pairs_are = pairs_same;
    main_kept = closed.main;
    main_is = before_none (function_marks marks);
    begins = λ f m. before_none (marks_of marks f);
    lines = lines_same;
    goes = λ f block step to end m is e. goes_on f block to end e (leads_on f block step end m is);
    falls = λ f block step end m is e. (falls_to f block end e (leads_on f block step end m is), next_number f block m);
    calls = λ f block step function args result m is. (both (is_marked_block marks function 0) (is_marked_block marks f (block + 1)) (leads_on f block step (Call function args result) m is)).0;
  }
