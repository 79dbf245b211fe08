-- The numbers in a lowered program are words.
use Rattle.std.proofs.Common.{◌≡◌, ℕ, zero, suc, ◌+◌, ◌<◌, ◌≤◌, ◌^◌, Bool, true, false, List, [], ◌∷◌, ◌++◌, map, length, Some, None, refl, ap, ◌∙◌, arith, if◌then◌else◌}
use Rattle.std.specs.Prelude.{slice_get, nat_lt}
use Rattle.std.specs.List.{All}
use Rattle.std.proofs.lemmas.Bool.{ltb-true}
use Rattle.hard_words.specs.Words.{AreWords}
use Rattle.c_syntax.specs.declared.tree.Stmt.{Stmt}
use Rattle.c_syntax.specs.declared.tree.Function.{Function}
use Rattle.c_syntax.specs.declared.tree.TopItem.{TopItem}
use Rattle.c_meaning.specs.Run.{Global}
use Rattle.c_syntax.specs.Graph.{body_of, is_recursive}
use Rattle.c_syntax.specs.Costs.{statement_temps}
use Rattle.c_syntax.specs.Sizes.{greatest}
use Rattle.c_meaning.specs.Meaning.{globals}
use Rattle.mid_blocks.specs.declared.code.MidStep.{MidStep}
use Rattle.mid_blocks.specs.declared.code.MidStep.TheVariants.{Constant}
use Rattle.mid_blocks.specs.declared.code.MidEnd.TheVariants.{Jump, Return}
use Rattle.mid_blocks.specs.declared.code.MidBlock.{MidBlock}
use Rattle.mid_blocks.specs.declared.code.MidFunction.{MidFunction}
use Rattle.mid_blocks.specs.Lines.{Line, Step, End}
use Rattle.lower_rules.specs.Bindings.{Bindings}
use Rattle.lower_rules.specs.Statements.{Context, LowStmt, low_list, low_statement}
use Rattle.lower_rules.specs.Functions.{Counter, cut, begin_lines, end_lines, fallen_off, returned_from}
use Rattle.lower_rules.specs.Programs.{some_of, returns_value, object_words, any_recursive, in_number_order, bindings_of, free_of, counter_of, low_function, low_program}
use Rattle.mid_blocks.specs.Pruned.{marked, marks_of, function_marks, renumbered_block, numbers_of, pruned_function, pruned_from, pruned}
use Rattle.lower_rules.specs.Fitting.{param_names, has_value_in, AreWordsAll}
use Rattle.lower_size_law.specs.LoweringWordsLaws.{StaysWords}
use Rattle.lower_size_law.proofs.Narrow.{step_wide, wide, wide-append, wide_join}
use Rattle.lower_size_law.proofs.NarrowStatements.{body_narrow}

-- ---- lines and blocks

none_some : {A : Type 0} (n : ℕ) (x : A) → slice_get [] n ≡ Some x → ⊥
none_some n x h = cc

wide_steps : (steps : List MidStep) (s : MidStep) (ls : List Line) → wide (map Step (steps ++ s ∷ []) ++ ls) ≡ wide (map Step steps ++ (Step s ∷ ls))
wide_steps [] s ls = refl
wide_steps (x ∷ steps) s ls = ap (λ n. step_wide x + n) (wide_steps steps s ls)

step_in : (steps : List MidStep) (ls : List Line) (k : ℕ) (s : MidStep) → slice_get steps k ≡ Some s → step_wide s ≤ wide (map Step steps ++ ls)
step_in [] ls k s h = absurd (none_some k s h)
step_in (x ∷ steps) ls zero s h = let same : x ≡ s = cc in omega (arith, ap step_wide same)
step_in (x ∷ steps) ls (suc k) s h = omega (arith, step_in steps ls k s h)

-- the steps of a block stand among the lines
block_in : (n k : ℕ) (steps : List MidStep) (ls : List Line) (b : MidBlock) (s : MidStep) → slice_get (cut steps ls) n ≡ Some b → slice_get b.steps k ≡ Some s → step_wide s ≤ wide (map Step steps ++ ls)
block_in n k steps [] b s h at = absurd (none_some n b h)
block_in n k steps (Step x ∷ ls) b s h at = omega (arith, wide_steps steps x ls, block_in n k (steps ++ x ∷ []) ls b s h at)
block_in zero k steps (End e ∷ ls) b s h at =
    let same : record { steps = steps; end = e } ≡ b = cc in
    step_in steps (End e ∷ ls) k s (ap (λ (y : MidBlock). slice_get y.steps k) same ∙ at)
block_in (suc n) k steps (End e ∷ ls) b s h at = omega (arith, block_in n k [] ls b s h at, wide-append (map Step steps) (End e ∷ ls))

-- ---- functions

begin_narrow : (r : Bool) (g s : ℕ) → wide (begin_lines (if r then Some (let c : Counter = record { global = g; spare = s } in c) else None)) ≡ 0
begin_narrow true g s = refl
begin_narrow false g s = refl

end_narrow : (r : Bool) (g s : ℕ) → wide (end_lines (if r then Some (let c : Counter = record { global = g; spare = s } in c) else None)) ≡ 0
end_narrow true g s = refl
end_narrow false g s = refl

fallen_narrow : (b : Bool) (free : ℕ) → wide (fallen_off b free) ≡ 0
fallen_narrow true free = refl
fallen_narrow false free = refl

marked_from : {A : Type 0} (bs : List Bool) (xs : List A) (i : ℕ) (x : A) → slice_get (marked bs xs) i ≡ Some x → (j : ℕ) × (slice_get xs j ≡ Some x)
marked_from [] xs i x h = absurd (none_some i x h)
marked_from (b ∷ bs) [] i x h = absurd (none_some i x h)
marked_from (true ∷ bs) (y ∷ xs) zero x h = (0, h)
marked_from (true ∷ bs) (y ∷ xs) (suc i) x h = let r = marked_from bs xs i x h in (suc r.0, r.1)
marked_from (false ∷ bs) (y ∷ xs) i x h = let r = marked_from bs xs i x h in (suc r.0, r.1)

pruned_in : (marks : List (List Bool)) (i k : ℕ) (fs : List MidFunction) (p : MidFunction) → slice_get (pruned_from marks i fs) k ≡ Some p → (j : ℕ) × (f : MidFunction) × (slice_get fs k ≡ Some f) × (pruned_function marks j f ≡ p)
pruned_in marks i k [] p h = absurd (none_some k p h)
pruned_in marks i zero (f ∷ fs) p h = let same : pruned_function marks i f ≡ p = cc in (i, f, refl, same)
pruned_in marks i (suc k) (f ∷ fs) p h = pruned_in marks (suc i) k fs p h

mapped_in : {A B : Type 0} (g : A → B) (xs : List A) (k : ℕ) (y : B) → slice_get (map g xs) k ≡ Some y → (x : A) × (slice_get xs k ≡ Some x) × (g x ≡ y)
mapped_in g [] k y h = absurd (none_some k y h)
mapped_in g (x ∷ xs) zero y h = let same : g x ≡ y = cc in (x, refl, same)
mapped_in g (x ∷ xs) (suc k) y h = mapped_in g xs k y h

is_small : (to w : ℕ) → step_wide (Constant to w) ≤ 0 → w < 2 ^ 32
is_small to w h = by (nat_lt w (2 ^ 32)) refl h
  where
    by : (b : Bool) → nat_lt w (2 ^ 32) ≡ b → (let n : ℕ = if nat_lt w (2 ^ 32) then 0 else 1 in n) ≤ 0 → w < 2 ^ 32
    by true e le = ltb-true w (2 ^ 32) e
    by false e le = absurd (omega (arith, ap (λ (b : Bool). let n : ℕ = if b then 0 else 1 in n) e, le))

-- ---- globals

zero_word : AreWords (0 ∷ [])
zero_word zero e lt = omega arith
zero_word (suc i) e lt = absurd (omega arith)

words_and : (gs : List Global) (r : Bool) → AreWordsAll gs → All AreWords (map (λ (g : Global). object_words g.object) gs ++ (let x : List (List ℕ) = if r then (0 ∷ []) ∷ [] else [] in x))
words_and [] true h zero d lt = zero_word
words_and [] true h (suc k) d lt = absurd (omega arith)
words_and [] false h k d lt = absurd (omega arith)
words_and (g ∷ gs) r h zero d lt = h 0 g (omega arith)
words_and (g ∷ gs) r h (suc k) d lt = words_and gs r (λ i x l. h (suc i) x (omega (arith, l))) k d (omega (arith, lt))

pub words_stay : StaysWords
words_stay names program chain_pairs marks ok one_each cases = record { constants = constants; globals = words_and (globals program.items) (any_recursive program.items) ok.small_globals }
  where
    items : List TopItem
    items = program.items

    narrow_function : (number : ℕ) (f : Function) → slice_get (in_number_order names.main program.items) number ≡ Some f → (n k : ℕ) (b : MidBlock) (s : MidStep) → slice_get (low_function names program.items f).blocks n ≡ Some b → slice_get b.steps k ≡ Some s → step_wide s ≤ 0
    narrow_function number f at n k b s h st =
        let binds : Bindings = bindings_of names program.items f in
        let body : List Stmt = body_of f.body in
        let value : Bool = some_of (map returns_value body) in
        let free : ℕ = free_of f in
        let r : Bool = is_recursive program.items f.name in
        let g : ℕ = length (globals program.items) in
        let spare : ℕ = free + greatest (map statement_temps body) in
        let c : LowStmt = low_list (map (low_statement binds) body) in
        let last : ℕ = c.blocks + 1 in
        let context : Context = record { breaks_to = 0; continues_to = 0; returns_to = last; free = free } in
        let front : List Line = c.lines context 0 in
        let ending : List Line = end_lines (counter_of program.items f) ++ End (Return (returned_from value free)) ∷ [] in
        let rest : List Line = fallen_off value free ++ (End (Jump last) ∷ ending) in
        let e0 : wide ending ≡ 0 = wide_join (end_lines (counter_of program.items f)) (End (Return (returned_from value free)) ∷ []) (end_narrow r g spare) refl in
        let e1 : wide rest ≡ 0 = wide_join (fallen_off value free) (End (Jump last) ∷ ending) (fallen_narrow value free) (omega (arith, e0)) in
        let fits = ok.body_fits f.name f (one_each number f at) in
        let e2 : wide (front ++ rest) ≡ 0 = wide_join front rest ((body_narrow binds body (record { breaks = false; continues = false; returns = has_value_in f }) (param_names f.params ∷ []) fits (cases number f at)).none context 0) e1 in
        let e3 : wide (begin_lines (counter_of program.items f) ++ (front ++ rest)) ≡ 0 = wide_join (begin_lines (counter_of program.items f)) (front ++ rest) (begin_narrow r g spare) e2 in
        omega (arith, e3, block_in n k [] (begin_lines (counter_of program.items f) ++ (front ++ rest)) b s h st)

    constants : (n b k to w : ℕ) (f : MidFunction) (block : MidBlock) → slice_get (pruned marks (low_program names program chain_pairs)).functions n ≡ Some f → slice_get f.blocks b ≡ Some block → slice_get block.steps k ≡ Some (Constant to w) → w < 2 ^ 32
    constants n b k to w f block at_f at_b at_s =
        let kept = marked_from (function_marks marks) (pruned_from marks 0 (low_program names program chain_pairs).functions) n f at_f in
        let old = pruned_in marks 0 kept.0 (low_program names program chain_pairs).functions f kept.1 in
        let source = mapped_in (low_function names program.items) (in_number_order names.main program.items) kept.0 old.1 old.2 in
        let here : slice_get (pruned_function marks old.0 old.1).blocks b ≡ Some block = ap (λ (y : MidFunction). slice_get y.blocks b) old.3 ∙ at_b in
        let new = mapped_in (renumbered_block (numbers_of marks) old.0) (marked (marks_of marks old.0) old.1.blocks) b block here in
        let raw = marked_from (marks_of marks old.0) old.1.blocks b new.0 new.1 in
        let raw_at : slice_get (low_function names program.items source.0).blocks raw.0 ≡ Some new.0 = ap (λ (y : MidFunction). slice_get y.blocks raw.0) source.2 ∙ raw.1 in
        let step_at : slice_get new.0.steps k ≡ Some (Constant to w) = ap (λ (y : MidBlock). slice_get y.steps k) new.2 ∙ at_s in
        is_small to w (narrow_function kept.0 source.0 source.1 raw.0 k new.0 (Constant to w) raw_at step_at)
