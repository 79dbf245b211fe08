-- A lowered program of which only what is reached is left is valid.
use Rattle.std.proofs.Common.{◌≡◌, ◌⊎◌, inl, inr, ℕ, zero, suc, ◌+◌, ◌<◌, ◌≤◌, Bool, true, false, List, [], ◌∷◌, ◌++◌, map, length, Option, Some, None, refl, sym, ap, ◌∙◌, subst, arith, option_map, if◌then◌else◌, ◌==◌, find, get_or}
use Rattle.std.specs.Prelude.{slice_get, nat_lt}
use Rattle.std.specs.List.{All, Any}
use Rattle.std.proofs.lemmas.Bool.{false≢true, eqb-true, ltb-true}
use Rattle.std.proofs.lemmas.Option.{slice_get-map, slice_get-get_or}
use Rattle.c_syntax.specs.declared.tree.Function.{Function}
use Rattle.c_syntax.specs.declared.tree.TopItem.{TopItem}
use Rattle.c_syntax.specs.declared.tree.Program.{Program}
use Rattle.c_meaning.specs.Meaning.{Names}
use Rattle.mid_blocks.specs.declared.code.MidStep.{MidStep}
use Rattle.mid_blocks.specs.declared.code.MidEnd.{MidEnd}
use Rattle.mid_blocks.specs.declared.code.MidEnd.TheVariants.{Jump, Branch, Call, Return}
use Rattle.mid_blocks.specs.declared.code.MidBlock.{MidBlock}
use Rattle.mid_blocks.specs.declared.code.MidFunction.{MidFunction}
use Rattle.mid_blocks.specs.declared.code.Mid.{Mid}
use Rattle.mid_blocks.specs.Lines.{Line, Step, End, block_lines, lines}
use Rattle.mid_blocks.specs.Size.{words}
use Rattle.mid_blocks.specs.Valid.{ValidFunction, Valid, IsCalled, IsUsed, step_global, EndsBy}
use Rattle.mid_blocks.specs.Tested.{is_below, takes}
use Rattle.mid_blocks.proofs.Positions.{got}
use Rattle.mid_blocks.specs.Renumbered.{Numbers, renumbered_end}
use Rattle.mid_blocks.specs.Pruned.{marked_before, marks_of, function_marks, is_marked_block, numbers_of, renumbered_block, pruned_function, pruned_from, pruned, leads_to_marked, Closed, ReachedIn, begin, jumped, fallen, called, OnlyReached}
use Rattle.c_syntax.specs.Graph.{with_bodies}
use Rattle.lower_rules.specs.Programs.{in_number_order, low_function, low_program}
use Rattle.lower_rules.specs.Fitting.{Fitting}
use Rattle.lower_law.proofs.Expressions.{both}
use Rattle.lower_law.proofs.Pruning.{marked_at, function_mark, pruned_at}
use Rattle.lower_law.proofs.Plans.{first_is, function_at, number_main}
use Rattle.lower_law.proofs.ProgramSizes.{few_pruned_words}
use Rattle.lower_valid_law.specs.Within.{Within}
use Rattle.lower_valid_law.specs.Laws.{IsValid}
use Rattle.lower_valid_law.proofs.Clean.{line_odd, odds}
use Rattle.lower_valid_law.proofs.Blocks.{odds-append}
use Rattle.lower_valid_law.proofs.Kept.{Source, source, before_first}
use Rattle.lower_valid_law.proofs.PrunedFunction.{any_at, at_any, Raw, reached_kept, from_block, to_block, valid}
use Rattle.lower_valid_law.proofs.Functions.{raw_function}
use Rattle.lower_valid_law.proofs.Lengths.{function_some, functions_some, one_words}

-- ---- lines that aren't odd

module _ (count : ℕ) (fits : ℕ → ℕ → Bool) where
  step_even : (steps : List MidStep) (rest : List Line) (i : ℕ) (s : MidStep) → slice_get steps i ≡ Some s → line_odd count fits (Step s) ≤ odds count fits (map Step steps ++ rest)
  step_even [] rest i s h = absurd (cc)
  step_even (x ∷ steps) rest zero s h = let same : x ≡ s = cc in omega (arith, ap (λ (y : MidStep). line_odd count fits (Step y)) same)
  step_even (x ∷ steps) rest (suc i) s h = omega (arith, step_even steps rest i s h)

  below_even : (s : MidStep) (g : ℕ) → step_global s ≡ Some g → line_odd count fits (Step s) ≤ 1 → g < count
  below_even s g is h = by (nat_lt g count) refl (subst (λ o. (let n : ℕ = if is_below count o then 0 else 2 in n) ≤ 1) is h)
    where
      by : (b : Bool) → nat_lt g count ≡ b → (let n : ℕ = if nat_lt g count then 0 else 2 in n) ≤ 1 → g < count
      by true e le = ltb-true g count e
      by false e le = absurd (omega (arith, ap (λ (b : Bool). let n : ℕ = if b then 0 else 2 in n) e, le))

  fits_even : (function n : ℕ) → (let k : ℕ = if fits function n then 0 else 2 in k) ≤ 1 → fits function n ≡ true
  fits_even function n h = by (fits function n) refl h
    where
      by : (b : Bool) → fits function n ≡ b → (let k : ℕ = if fits function n then 0 else 2 in k) ≤ 1 → fits function n ≡ true
      by true e le = e
      by false e le = absurd (omega (arith, ap (λ (b : Bool). let k : ℕ = if b then 0 else 2 in k) e, le))

taken : (o : Option MidFunction) (n : ℕ) → takes o n ≡ true → (f : MidFunction) × (o ≡ Some f) × (n ≡ f.params)
taken None n h = absurd (false≢true h)
taken (Some f) n h = (f, refl, sym (eqb-true f.params n h))

old_call : (new : Numbers) (f function : ℕ) (args : List ℕ) (result : Option ℕ) (e : MidEnd) → renumbered_end new f e ≡ Call function args result → (old : ℕ) × (e ≡ Call old args result) × (new.function old ≡ function)
old_call new f function args result (Jump to) h = absurd (cc)
old_call new f function args result (Branch t w to) h = absurd (cc)
old_call new f function args result (Call g as' r) h =
    let a : new.function g ≡ function = cc in
    let b : as' ≡ args = cc in
    let c : r ≡ result = cc in (g, cc, a)
old_call new f function args result (Return r) h = absurd (cc)

module _ (names : Names) (program : Program) (chain_pairs : ℕ) (marks : List (List Bool)) (ok : Fitting names program.items) (within : Within names program chain_pairs) (closed : Closed (low_program names program chain_pairs) marks) (only : OnlyReached (low_program names program chain_pairs) marks) where
  abbrev items : List TopItem
  items = program.items

  abbrev mid : Mid
  mid = low_program names program chain_pairs

  abbrev low : Mid
  low = pruned marks mid

  abbrev new : Numbers
  new = numbers_of marks

  abbrev count : ℕ
  count = length mid.globals

  abbrev fits : ℕ → ℕ → Bool
  fits number n = takes (slice_get mid.functions number) n

  raw_at : (j : ℕ) (code : MidFunction) → slice_get mid.functions j ≡ Some code → Raw count fits code
  raw_at j code h = by (slice_get (in_number_order names.main items) j) refl (sym (slice_get-map (low_function names items) (in_number_order names.main items) j) ∙ h)
    where
      by : (o : Option Function) → slice_get (in_number_order names.main items) j ≡ o → option_map (low_function names items) o ≡ Some code → Raw count fits code
      by None at e = absurd (cc)
      by (Some f) at e =
          let same : low_function names items f ≡ code = cc in
          subst (λ (x : MidFunction). Raw count fits x) same (raw_function names program chain_pairs ok f (within.one_each j f at) (within.light j f at))

  -- a function that is left, under its old number
  record FromFunction (x : ℕ) (p : MidFunction) : Type 0 where
    pub j : ℕ
    pub code : MidFunction
    pub code_is : slice_get mid.functions j ≡ Some code
    pub kept : is_marked_block marks j 0 ≡ true
    pub number : new.function j ≡ x
    pub is : pruned_function marks j code ≡ p

  from_function : (x : ℕ) (p : MidFunction) → slice_get low.functions x ≡ Some p → FromFunction x p
  from_function x p h =
      let s = source (function_marks marks) (pruned_from marks 0 mid.functions) x p h in
      by s (slice_get mid.functions s.at) refl (sym (pruned_at marks 0 s.at s.at mid.functions (omega arith)) ∙ s.is)
    where
      by : (s : Source (function_marks marks) (pruned_from marks 0 mid.functions) x p) (o : Option MidFunction) → slice_get mid.functions s.at ≡ o → option_map (pruned_function marks s.at) o ≡ Some p → FromFunction x p
      by s None at e = absurd (cc)
      by s (Some code) at e = let same : pruned_function marks s.at code ≡ p = cc in record { j = s.at; code = code; code_is = at; kept = sym (function_mark marks s.at) ∙ s.kept; number = s.new; is = same }

  to_function : (j : ℕ) (code : MidFunction) → is_marked_block marks j 0 ≡ true → slice_get mid.functions j ≡ Some code → slice_get low.functions (new.function j) ≡ Some (pruned_function marks j code)
  to_function j code k at =
      marked_at (function_marks marks) (pruned_from marks 0 mid.functions) j (function_mark marks j ∙ k) ∙ pruned_at marks 0 j j mid.functions (omega arith) ∙ ap (option_map (pruned_function marks j)) at

  -- a block of a function that is left, under old numbers
  record Block (p : MidFunction) (b' : MidBlock) : Type 0 where
    pub j : ℕ
    pub code : MidFunction
    pub n : ℕ
    pub b : MidBlock
    pub code_is : slice_get mid.functions j ≡ Some code
    pub at : slice_get code.blocks n ≡ Some b
    pub kept : is_marked_block marks j n ≡ true
    pub is : renumbered_block new j b ≡ b'
    pub even : odds count fits (block_lines b) ≤ 1

  block_of : (x k : ℕ) (p : MidFunction) (b' : MidBlock) → slice_get low.functions x ≡ Some p → slice_get p.blocks k ≡ Some b' → Block p b'
  block_of x k p b' h at =
      let f = from_function x p h in
      let raw = raw_at f.j f.code f.code_is in
      let here : slice_get (pruned_function marks f.j f.code).blocks k ≡ Some b' = ap (λ (y : MidFunction). slice_get y.blocks k) f.is ∙ at in
      let s = from_block mid marks closed only count fits f.j f.code f.code_is f.kept raw k b' here in
      record { j = f.j; code = f.code; n = s.n; b = s.b; code_is = f.code_is; at = s.at; kept = s.kept; is = s.is; even = raw.odd s.n s.b s.at }

  -- ---- words

  some_bodies : 1 ≤ length (with_bodies items)
  some_bodies = by (with_bodies items) (first_is names items names.main ok.main ok.main_is)
    where
      by : (fs : List Function) → find (λ f. f.name == names.main) fs ≡ Some ok.main → 1 ≤ length fs
      by [] h = absurd (cc)
      by (f ∷ fs) h = omega arith

  few_words : words low ≤ 62914560
  few_words = omega (arith, few_pruned_words names program chain_pairs marks some_bodies within.labelled, within.few_nodes)

  few_in : (x : ℕ) (p : MidFunction) → slice_get low.functions x ≡ Some p → length (lines p) ≤ 62914560
  few_in x p h = omega (arith, function_some p, one_words low.functions x p h, few_words)

  -- ---- the fields

  functions_valid : All ValidFunction low.functions
  functions_valid x d lt =
      let p : MidFunction = get_or low.functions x d in
      let at : slice_get low.functions x ≡ Some p = slice_get-get_or low.functions x d lt in
      let f = from_function x p at in
      subst ValidFunction f.is (valid mid marks closed only count fits f.j f.code f.code_is f.kept (raw_at f.j f.code f.code_is) (subst (λ (y : MidFunction). length (lines y) ≤ 62914560) (sym f.is) (few_in x p at)))

  main_fits : (main : MidFunction) × (slice_get low.functions 0 ≡ Some main) × (main.params ≡ 0)
  main_fits =
      let code : MidFunction = low_function names items ok.main in
      let at : slice_get mid.functions 0 ≡ Some code =
      slice_get-map (low_function names items) (in_number_order names.main items) 0
      ∙ ap (λ k. option_map (low_function names items) (slice_get (in_number_order names.main items) k)) (sym (number_main names items ok.main ok.main_is))
      ∙ ap (option_map (low_function names items)) (function_at names items names.main ok.main ok.main_is) in
      (pruned_function marks 0 code, ap (slice_get low.functions) (sym (before_first (function_marks marks))) ∙ to_function 0 code closed.main at, ok.no_params)

  globals_exist : (global : ℕ) → IsUsed low global → global < length low.globals
  globals_exist global used =
      let f = any_at (λ (x : MidFunction). Any (λ b. Any (λ step. step_global step ≡ Some global) b.steps) x.blocks) low.functions used in
      let b = any_at (λ (x : MidBlock). Any (λ step. step_global step ≡ Some global) x.steps) f.1.blocks f.3 in
      let s = any_at (λ step. step_global step ≡ Some global) b.1.steps b.3 in
      let o = block_of f.0 b.0 f.1 b.1 f.2 b.2 in
      let there : slice_get o.b.steps s.0 ≡ Some s.1 = ap (λ (x : MidBlock). slice_get x.steps s.0) o.is ∙ s.2 in
      let one = step_even count fits o.b.steps (End o.b.end ∷ []) s.0 s.1 there in
      below_even count fits s.1 global s.3 (omega (arith, one, o.even))

  calls_fit : (function : ℕ) (args : List ℕ) → IsCalled low function args → (f : MidFunction) × (slice_get low.functions function ≡ Some f) × (length args ≡ f.params)
  calls_fit function args is =
      let f = any_at (λ (x : MidFunction). Any (λ (b : MidBlock). (result : Option ℕ) × (b.end ≡ Call function args result)) x.blocks) low.functions is in
      let b = any_at (λ (x : MidBlock). (result : Option ℕ) × (x.end ≡ Call function args result)) f.1.blocks f.3 in
      let o = block_of f.0 b.0 f.1 b.1 f.2 b.2 in
      let result : Option ℕ = b.3.0 in
      let e : renumbered_end new o.j o.b.end ≡ Call function args result = ap (λ (x : MidBlock). x.end) o.is ∙ b.3.1 in
      let c = old_call new o.j function args result o.b.end e in
      let odd : odds count fits (map Step o.b.steps ++ End (Call c.0 args result) ∷ []) ≤ 1 = subst (λ (x : MidEnd). odds count fits (map Step o.b.steps ++ End x ∷ []) ≤ 1) c.1 o.even in
      let fit : fits c.0 (length args) ≡ true = fits_even count fits c.0 (length args) (omega (arith, odd, odds-append count fits (map Step o.b.steps) (End (Call c.0 args result) ∷ []))) in
      let t = taken (slice_get mid.functions c.0) (length args) fit in
      let leads : leads_to_marked marks o.j o.n (Call c.0 args result) ≡ true = subst (λ x. leads_to_marked marks o.j o.n x ≡ true) c.1 (closed.leads o.j o.n o.code o.b o.code_is o.at o.kept) in
      let kept : is_marked_block marks c.0 0 ≡ true = (both (is_marked_block marks c.0 0) (is_marked_block marks o.j (o.n + 1)) leads).0 in
      (pruned_function marks c.0 t.0, ap (slice_get low.functions) (sym c.2) ∙ to_function c.0 t.0 kept t.1, t.2)

  -- what calls a function that is reached
  record Caller (g : ℕ) : Type 0 where
    pub j : ℕ
    pub n : ℕ
    pub code : MidFunction
    pub args : List ℕ
    pub result : Option ℕ
    pub reached : ReachedIn mid j n
    pub code_is : slice_get mid.functions j ≡ Some code
    pub ends : EndsBy code n (Call g args result)

  caller : (g n : ℕ) → ReachedIn mid g n → (g ≡ 0) ⊎ Caller g
  caller g n begin = inl refl
  caller g n (jumped g' m to code end r is ends t) = caller g' m r
  caller g n (fallen g' m code end r is ends t) = caller g' m r
  caller g n (called g' m function code args result r is ends) = inr (record { j = g'; n = m; code = code; args = args; result = result; reached = r; code_is = is; ends = ends })

  each_called : (x : ℕ) → 0 < x → x < length low.functions → (args : List ℕ) × IsCalled low x args
  each_called x lt there =
      let p = got low.functions x there in
      let f = from_function x p.0 p.1 in
      by f (caller f.j 0 (only.reached f.j 0 f.kept))
    where
      by : {p : MidFunction} (f : FromFunction x p) → (f.j ≡ 0) ⊎ Caller f.j → (args : List ℕ) × IsCalled low x args
      by f (inl zero_is) = absurd (omega (arith, lt, f.number, ap new.function zero_is, before_first (function_marks marks)))
      by f (inr c) =
          let kept : is_marked_block marks c.j c.n ≡ true = reached_kept mid marks closed c.j c.n c.reached in
          let first : is_marked_block marks c.j 0 ≡ true = closed.first c.j c.n kept in
          let b : MidBlock = c.ends.0 in
          let block = to_block mid marks closed only count fits c.j c.code c.code_is first (raw_at c.j c.code c.code_is) c.n b kept c.ends.1 in
          let end_is : renumbered_end new c.j b.end ≡ Call x c.args c.result = ap (renumbered_end new c.j) c.ends.2 ∙ ap (λ k. Call k c.args c.result) f.number in (
            c.args,
            at_any (λ (y : MidFunction). Any (λ (z : MidBlock). (result : Option ℕ) × (z.end ≡ Call x c.args result)) y.blocks) low.functions (new.function c.j) (pruned_function marks c.j c.code) (to_function c.j c.code first c.code_is)
                (at_any (λ (z : MidBlock). (result : Option ℕ) × (z.end ≡ Call x c.args result)) (pruned_function marks c.j c.code).blocks (marked_before (marks_of marks c.j) c.n) (renumbered_block new c.j b) block (c.result, end_is)),
          )

  all_valid : Valid low
  all_valid = record {
    functions_valid = functions_valid;
    main_fits = main_fits;
    globals_exist = globals_exist;
    calls_fit = calls_fit;
    each_called = each_called;
    store_fits = within.has_room;
    few_lines = omega (arith, functions_some low.functions, few_words);
  }

pub is_valid : IsValid
is_valid names program chain_pairs marks ok within closed only = all_valid names program chain_pairs marks ok within closed only
