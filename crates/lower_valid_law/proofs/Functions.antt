-- A function of a lowered program: its variables are enough, what it names is there, and its jumps are well aimed.
use Rattle.std.proofs.Common.{◌≡◌, ◌≢◌, ℕ, ◌+◌, ◌<◌, ◌≤◌, Bool, true, false, List, [], ◌∷◌, ◌++◌, map, length, Option, Some, None, refl, sym, ap, ◌∙◌, subst, arith, append_assoc, length-append, if◌then◌else◌, ◌==◌, option_map, ⊎_elim}
use Rattle.std.specs.Prelude.{slice_get, nat_lt}
use Rattle.std.proofs.lemmas.Bool.{false≢true, eq-eqb, lt-ltb, cases_lt}
use Rattle.std.proofs.lemmas.List.{length-map}
use Rattle.std.proofs.lemmas.Option.{slice_get-map}
use Rattle.c_syntax.specs.declared.tree.Stmt.{Stmt}
use Rattle.c_syntax.specs.declared.tree.Function.{Function}
use Rattle.c_syntax.specs.declared.tree.TopItem.{TopItem}
use Rattle.c_syntax.specs.declared.tree.Program.{Program}
use Rattle.c_syntax.specs.Graph.{body_of, function_named, is_recursive}
use Rattle.c_syntax.specs.Costs.{statement_temps, function_weight}
use Rattle.c_syntax.specs.Sizes.{greatest}
use Rattle.c_meaning.specs.Run.{Global}
use Rattle.c_meaning.specs.Meaning.{Names, globals}
use Rattle.mid_blocks.specs.declared.code.MidEnd.TheVariants.{Jump, Return}
use Rattle.mid_blocks.specs.declared.code.MidFunction.{MidFunction}
use Rattle.mid_blocks.specs.declared.code.Mid.{Mid}
use Rattle.mid_blocks.specs.Lines.{Line, End}
use Rattle.mid_blocks.specs.Tested.{takes}
use Rattle.lower_rules.specs.Bindings.{Bindings, Callee, InWord, OutWord, Defined, defined_callee, callee_of}
use Rattle.lower_rules.specs.Scoping.{Around, fitting_statement, list_fits}
use Rattle.lower_rules.specs.Statements.{Context, LowStmt, low_list, low_statement}
use Rattle.lower_rules.specs.Functions.{Counter, cut, begin_lines, end_lines, fallen_off, returned_from}
use Rattle.c_syntax.specs.Graph.{with_bodies}
use Rattle.lower_rules.specs.Programs.{variables_of, some_of, returns_value, in_number_order, number_of, shapes, any_recursive, bindings_of, free_of, counter_of, shape_of, object_words, low_function, low_program}
use Rattle.lower_rules.specs.Fitting.{param_names, has_value_in, Fitting}
use Rattle.lower_law.proofs.Places.{place_below}
use Rattle.lower_law.proofs.Plans.{first_is, function_at, some_recursive}
use Rattle.lower_valid_law.proofs.Clean.{top, odds, Clean, none_clean, line_clean, join_clean, more_clean, symbol_there}
use Rattle.lower_valid_law.proofs.TidyStatements.{body_clean_lines}
use Rattle.lower_valid_law.proofs.Aims.{ends, named, named-append, quiet, Seg, seg_more, seg_steps, seg_return, seg_join, seg_jump_on, seg_inside, behind_rest, behind_middle, other}
use Rattle.lower_valid_law.proofs.AimsStatements.{Clear, body_aim}
use Rattle.lower_valid_law.proofs.Blocks.{count_blocks, block_named, block_calls, block_next, block_top, block_odd, odds-append, cut_odd}
use Rattle.lower_valid_law.proofs.Declared.{free_most, returns_need}
use Rattle.lower_valid_law.proofs.PrunedFunction.{Raw}

top_join : (xs ys : List Line) (m : ℕ) → top xs ≤ m → top ys ≤ m → top (xs ++ ys) ≤ m
top_join [] ys m a b = b
top_join (x ∷ xs) ys m a b = omega (arith, a, top_join xs ys m (omega (arith, a)) b)

-- ---- the counter of a recursive function

abbrev counter_if : Bool → ℕ → ℕ → Option Counter
counter_if r global spare = if r then Some (record { global = global; spare = spare }) else None

abbrev two_if : Bool → ℕ
two_if r = if r then 2 else 0

begin_steps : (r : Bool) (g s : ℕ) → ends (begin_lines (counter_if r g s)) ≡ 0
begin_steps true g s = refl
begin_steps false g s = refl

end_steps : (r : Bool) (g s : ℕ) → ends (end_lines (counter_if r g s)) ≡ 0
end_steps true g s = refl
end_steps false g s = refl

fallen_steps : (b : Bool) (free : ℕ) → ends (fallen_off b free) ≡ 0
fallen_steps true free = refl
fallen_steps false free = refl

module _ (count : ℕ) (fits : ℕ → ℕ → Bool) where
  load_odd : (g : ℕ) → g < count → (let n : ℕ = if nat_lt g count then 0 else 2 in n) ≡ 0
  load_odd g h = ap (λ (b : Bool). let n : ℕ = if b then 0 else 2 in n) (lt-ltb g count h)

  begin_clean : (r : Bool) (g s m : ℕ) → (r ≡ true → g < count) → s + two_if r ≤ m → Clean count fits (begin_lines (counter_if r g s)) m
  begin_clean true g s m h le = record { top_in = omega (arith, le); no_odd = omega (arith, load_odd g (h refl)) }
  begin_clean false g s m h le = none_clean count fits m

  end_clean : (r : Bool) (g s m : ℕ) → (r ≡ true → g < count) → s + two_if r ≤ m → Clean count fits (end_lines (counter_if r g s)) m
  end_clean true g s m h le = record { top_in = omega (arith, le); no_odd = omega (arith, load_odd g (h refl)) }
  end_clean false g s m h le = none_clean count fits m

  fallen_clean : (b : Bool) (free m : ℕ) → (b ≡ true → free < m) → Clean count fits (fallen_off b free) m
  fallen_clean true free m h = let lt = h refl in record { top_in = omega (arith, lt); no_odd = refl }
  fallen_clean false free m h = none_clean count fits m

  return_top : (b : Bool) (free m : ℕ) → (b ≡ true → free < m) → top (End (Return (returned_from b free)) ∷ []) ≤ m
  return_top true free m h = let lt = h refl in omega (arith, lt)
  return_top false free m h = omega arith

module _ (names : Names) (program : Program) (chain_pairs : ℕ) where
  abbrev items : List TopItem
  items = program.items

  abbrev mid : Mid
  mid = low_program names program chain_pairs

  abbrev pub count : ℕ
  count = length (low_program names program chain_pairs).globals

  -- a function is there and takes so many arguments
  abbrev pub fits : ℕ → ℕ → Bool
  fits number n = takes (slice_get (low_program names program chain_pairs).functions number) n

  pub function_there : (name : ℕ) (g : Function) → function_named name items ≡ Some g → slice_get mid.functions (number_of names items name) ≡ Some (low_function names items g)
  function_there name g is = slice_get-map (low_function names items) (in_number_order names.main items) (number_of names items name) ∙ ap (option_map (low_function names items)) (function_at names items name g is)

  known : (name number arity : ℕ) (void u : Bool) → callee_of names items (number_of names items) name ≡ Defined number arity void u → fits number arity ≡ true
  known name number arity void u h = by (name == names.in_word) (name == names.out_word) (function_named name items) refl h
    where
      by : (a b : Bool) (o : Option Function) → function_named name items ≡ o → (let y : Callee = if a then InWord else (if b then OutWord else defined_callee (number_of names items name) o) in y) ≡ Defined number arity void u → fits number arity ≡ true
      by true b o is e = absurd (cc)
      by false true o is e = absurd (cc)
      by false false None is e = absurd (cc)
      by false false (Some g) is e =
          let same : number_of names items name ≡ number = cc in
          let long : length g.params ≡ arity = cc in
          ap (λ k. takes (slice_get mid.functions k) arity) (sym same) ∙ ap (λ o. takes o arity) (function_there name g is) ∙ eq-eqb (length g.params) arity long

  enough : length (shapes items) ≤ count
  enough = omega (arith, length-map (globals items) shape_of, length-map (globals items) (λ (g : Global). object_words g.object), length-append (map (λ (g : Global). object_words g.object) (globals items)) (let x : List (List ℕ) = if any_recursive items then (0 ∷ []) ∷ [] else [] in x))

  module _ (ok : Fitting names items) (f : Function) (f_is : function_named f.name items ≡ Some f) (light : function_weight f ≤ 4000) where
    abbrev binds : Bindings
    binds = bindings_of names items f

    abbrev body : List Stmt
    body = body_of f.body

    abbrev value : Bool
    value = some_of (map returns_value body)

    abbrev free : ℕ
    free = free_of f

    abbrev most : ℕ
    most = greatest (map statement_temps body)

    abbrev r : Bool
    r = is_recursive items f.name

    abbrev code : MidFunction
    code = low_function names items f

    abbrev c : LowStmt
    c = low_list (map (low_statement binds) body)

    abbrev last : ℕ
    last = c.blocks + 1

    abbrev context : Context
    context = record { breaks_to = 0; continues_to = 0; returns_to = last; free = free }

    abbrev around : Around
    around = record { breaks = false; continues = false; returns = has_value_in f }

    abbrev begin_ : List Line
    begin_ = begin_lines (counter_of items f)

    abbrev end_ : List Line
    end_ = end_lines (counter_of items f)

    abbrev fallen_ : List Line
    fallen_ = fallen_off value free

    abbrev return_ : Line
    return_ = End (Return (returned_from value free))

    abbrev front : List Line
    front = c.lines context 0

    abbrev lines : List Line
    lines = begin_ ++ (front ++ (fallen_ ++ (End (Jump last) ∷ (end_ ++ return_ ∷ []))))

    abbrev before : List Line
    before = begin_ ++ (front ++ (fallen_ ++ (End (Jump last) ∷ end_)))

    lines_are : lines ≡ before ++ return_ ∷ []
    lines_are = simp append_assoc

    body_fits : list_fits (map (fitting_statement binds) body) around (param_names f.params ∷ []) ≡ true
    body_fits = ok.body_fits f.name f f_is

    counter_there : r ≡ true → length (globals items) < count
    counter_there h =
        let some : any_recursive items ≡ true = some_recursive (is_recursive items) f.name (with_bodies items) f (first_is names items f.name f f_is) h in
        let one : length (let x : List (List ℕ) = if any_recursive items then (0 ∷ []) ∷ [] else [] in x) ≡ 1 = ap (λ (b : Bool). length (let x : List (List ℕ) = if b then (0 ∷ []) ∷ [] else [] in x)) some in
        omega (arith, one, length-map (globals items) (λ (g : Global). object_words g.object), length-append (map (λ (g : Global). object_words g.object) (globals items)) (let x : List (List ℕ) = if any_recursive items then (0 ∷ []) ∷ [] else [] in x))

    vars : free + most + two_if r ≤ code.variables
    vars = omega (arith, free_most f)

    below : (name v : ℕ) → binds.variable name ≡ Some v → v < free
    below name v h = omega (arith, place_below name 0 v (variables_of f) h)

    needs : value ≡ true → free < code.variables
    needs h = omega (arith, returns_need f h, vars)

    -- ---- what the lines name

    before_clean : Clean count fits before code.variables
    before_clean =
        join_clean count fits begin_ _ code.variables (begin_clean count fits r (length (globals items)) (free + most) code.variables counter_there vars)
        (join_clean count fits front _ code.variables
        (more_clean count fits front (free + most) code.variables (omega (arith, vars)) (body_clean_lines count fits free binds (symbol_there count fits free binds below enough) known below body around (param_names f.params ∷ []) body_fits context 0 (omega arith)))
        (join_clean count fits fallen_ _ code.variables (fallen_clean count fits value free code.variables needs)
        (line_clean count fits (End (Jump last)) end_ code.variables (omega arith) refl (end_clean count fits r (length (globals items)) (free + most) code.variables counter_there vars))))

    lines_top : top lines ≤ code.variables
    lines_top = subst (λ ls. top ls ≤ code.variables) (sym lines_are) (top_join before (return_ ∷ []) code.variables before_clean.top_in (return_top count fits value free code.variables needs))

    lines_odd : odds count fits lines ≤ 1
    lines_odd = subst (λ ls. odds count fits ls ≤ 1) (sym lines_are) (omega (arith, odds-append count fits before (return_ ∷ []), before_clean.no_odd))

    -- ---- where the jumps go

    front_seg : (y : ℕ) → Seg (last ≢ y) y 0 c.blocks front
    front_seg y = seg_more (Clear y around context) (last ≢ y) y 0 c.blocks front (λ o. record { breaks = λ h. absurd (false≢true h); continues = λ h. absurd (false≢true h); returns = o })
        ((body_aim y binds body around (param_names f.params ∷ []) body_fits).seg context 0)

    lines_seg : (y : ℕ) → Seg (Unit {0}) y 0 (last + 1) lines
    lines_seg y =
        let O : Type 0 = Unit {0} × (last ≢ y) in
        let ending : List Line = end_ ++ return_ ∷ [] in
        let rest : List Line = fallen_ ++ (End (Jump last) ∷ ending) in
        let all : Seg O y 0 (last + 1) lines = seg_join O y 0 0 0 (last + 1) (last + 1) begin_ _ (omega arith) (omega arith) (seg_steps O y 0 begin_ (begin_steps r (length (globals items)) (free + most)))
        (seg_join O y 0 c.blocks c.blocks 2 (last + 1) front _ (omega arith) (omega arith) (seg_more (last ≢ y) O y 0 c.blocks front (λ o. o.1) (front_seg y))
        (seg_join O y c.blocks c.blocks 0 2 2 fallen_ _ (omega arith) refl (seg_steps O y c.blocks fallen_ (fallen_steps value free))
        (seg_jump_on O y c.blocks last 1 last ending refl (λ o. o.1)
        (seg_join O y last last 0 1 1 end_ _ (omega arith) refl (seg_steps O y last end_ (end_steps r (length (globals items)) (free + most))) (seg_return O y last (returned_from value free)))))) in
        seg_inside (Unit {0}) y 0 (last + 1) last lines (omega arith) (omega arith)
        (λ e. behind_rest y 0 0 0 begin_ (front ++ rest) (omega arith) (begin_steps r (length (globals items)) (free + most)) (omega (arith, e))
        (behind_rest y 0 c.blocks c.blocks front rest (omega arith) (front_seg y).ends_are (omega (arith, e))
        (behind_middle y c.blocks 0 last fallen_ ending (fallen_steps value free) (omega (arith, e))))) all

    -- no jump goes past the last block
    lines_past : (y : ℕ) → last < y → named y lines ≡ 0
    lines_past y lt =
        let ending : List Line = end_ ++ return_ ∷ [] in
        let rest : List Line = fallen_ ++ (End (Jump last) ∷ ending) in
        let ne : last ≢ y = λ e. absurd (omega (arith, e, lt)) in
        omega (
          arith,
          named-append y begin_ (front ++ rest),
          named-append y front rest,
          named-append y fallen_ (End (Jump last) ∷ ending),
          named-append y end_ (return_ ∷ []),
          quiet y begin_ (begin_steps r (length (globals items)) (free + most)),
          (front_seg y).above ne (omega (arith, lt)),
          quiet y fallen_ (fallen_steps value free),
          other last y ne,
          quiet y end_ (end_steps r (length (globals items)) (free + most)),
        )

    -- ---- the function

    pub raw_function : Raw (length (low_program names program chain_pairs).globals) (λ number n. takes (slice_get (low_program names program chain_pairs).functions number) n) (low_function names items f)
    raw_function = record {
      some = omega (arith, count_blocks [] lines, (lines_seg 0).ends_are);
      in_range = λ n y b at t.
          let one = block_named y n [] lines b at t in
          let long : length code.blocks ≡ last + 1 = omega (arith, count_blocks [] lines, (lines_seg 0).ends_are) in
          ⊎_elim (λ lt. absurd (omega (arith, one, lines_past y lt))) (λ le. omega (arith, long, le)) (cases_lt last y);
      not_first = λ n b at t. absurd (omega (arith, block_named 0 n [] lines b at t, (lines_seg 0).below tt (omega arith)));
      apart = λ n m y b d at_b at_d goes calls is. absurd (omega (arith, block_named y n [] lines b at_b goes, block_calls y 0 m [] lines d at_d calls (omega (arith, is)), (lines_seg y).apart tt));
      next = λ n b at t.
          let at' : slice_get (cut [] (before ++ return_ ∷ [])) n ≡ Some b = ap (λ ls. slice_get (cut [] ls) n) (sym lines_are) ∙ at in
          subst (λ ls. n + 1 < length (cut [] ls)) (sym lines_are) (block_next n [] before (Return (returned_from value free)) b refl at' t);
      tops = λ n b at. omega (arith, block_top n [] lines b at, lines_top);
      odd = λ n b at. omega (arith, block_odd count fits n [] lines b at, lines_odd);
      one = omega (arith, cut_odd count fits [] lines, lines_odd);
      params_fit = omega arith;
      variables_fit = omega arith;
      pairs_fit = pairs_small r;
    }
      where
        pairs_small : (b : Bool) → function_weight f + (let n : ℕ = if b then 2 else 0 in n) ≤ 4002
        pairs_small true = omega (arith, light)
        pairs_small false = omega (arith, light)
