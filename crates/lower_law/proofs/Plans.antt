-- A program whose bodies fit is lowered to a program in blocks that stands to it, and in which all that comes next is proper.
use Rattle.std.proofs.Common.{◌≡◌, ℕ, suc, ◌+◌, ◌<◌, ◌≤◌, Bool, true, false, not, cond, ◌&&◌, ◌||◌, List, [], ◌∷◌, ◌++◌, map, length, Option, Some, None, refl, sym, ap, ◌∙◌, subst, if◌then◌else◌, ◌==◌, arith, filter, find, option_map}
use Rattle.std.specs.Prelude.{slice_get}
use Rattle.std.specs.List.{list_any}
use Rattle.std.proofs.lemmas.Bool.{eqb-true, eqb-false, ne_eqb}
use Rattle.std.proofs.lemmas.Option.{slice_get-map}
use Rattle.std.proofs.lemmas.List.{length-map}
use Rattle.hard_runs.specs.Observed.{SameObserved}
use Rattle.c_syntax.specs.declared.tree.Function.{Function}
use Rattle.c_syntax.specs.declared.tree.TopItem.{TopItem}
use Rattle.c_syntax.specs.declared.tree.Program.{Program}
use Rattle.c_syntax.specs.Graph.{functions, has_body, body_of, function_named, is_recursive}
use Rattle.c_syntax.specs.Costs.{statement_temps}
use Rattle.c_syntax.specs.Sizes.{greatest}
use Rattle.c_meaning.specs.Meaning.{Names, globals}
use Rattle.c_meaning.specs.Run.{Global, State}
use Rattle.mid_blocks.specs.declared.code.MidFunction.{MidFunction}
use Rattle.mid_blocks.specs.declared.code.Mid.{Mid}
use Rattle.mid_blocks.specs.declared.code.MidEnd.TheVariants.{Call}
use Rattle.mid_blocks.specs.Lines.{Line, End, line_at}
use Rattle.mid_blocks.specs.Run.{BlockState, Variables, block_run, block_state}
use Rattle.hard_words.specs.Words.{AreWords}
use Rattle.mid_blocks.specs.Bounds.{Proper, ProperLine, Shallow}
use Rattle.lower_rules.specs.Bindings.{Bindings, callee_of}
use Rattle.lower_rules.specs.Scoping.{fitting_statement, list_fits}
use Rattle.lower_rules.specs.Functions.{Counter, body_lines}
use Rattle.c_syntax.specs.Graph.{with_bodies}
use Rattle.lower_rules.specs.Programs.{object_words, variables_of, in_number_order, number_in, number_of, shapes, any_recursive, bindings_of, free_of, counter_of, low_function, low_program}
use Rattle.lower_law.proofs.Lines.{Spot, Stands, start}
use Rattle.lower_law.proofs.Machine.{Frame, Setting, machine, globals_words}
use Rattle.lower_law.proofs.Globals.{AreSmall, AreSmallGlobals}
use Rattle.lower_law.proofs.Calls.{Plan, frame_of, CountedBy, ParamsFit}
use Rattle.lower_law.proofs.Cut.{body_stands}
use Rattle.lower_law.proofs.SomeTemps.{recursive_temps}
use Rattle.lower_law.proofs.Params.{params_fit}
use Rattle.lower_law.proofs.Places.{place_below, place_apart}
use Rattle.lower_law.proofs.Whole.{Start, same_run}
use Rattle.lower_law.proofs.ShallowRuns.{RoomFor, IsFine, room_good, room_enters, all_shallow}
use Rattle.lower_law.proofs.ProperRuns.{IsProper, all_good, proper_good}
use Rattle.lower_rules.specs.Chains.{recursive_one, counts, deeper, Chain}
use Rattle.lower_rules.specs.Fitting.{param_names, has_value_in, AreWordsAll, Fitting}
use Rattle.lower_rules.specs.Seen.{c_observed}

-- ---- the numbers of functions

-- the first function of that name
abbrev first_with : ℕ → List Function → Option Function
first_with name fs = find (λ f. f.name == name) fs

first_body : (name : ℕ) (fs : List Function) → find (λ f. f.name == name && has_body f.body) fs ≡ first_with name (filter (λ f. has_body f.body) fs)
first_body name [] = refl
first_body name (f ∷ fs) = by (f.name == name) (has_body f.body) refl (first_body name fs)
  where
    with_b : List Function
    with_b = filter (λ g. has_body g.body) fs

    both : Option Function
    both = find (λ g. g.name == name && has_body g.body) fs

    by : (b c : Bool) → (f.name == name) ≡ b → both ≡ first_with name with_b → cond (b && c) (Some f) both ≡ first_with name (cond c (f ∷ with_b) with_b)
    by true true is ih = ap (λ (z : Bool). cond z (Some f) (first_with name with_b)) (sym is)
    by true false is ih = ih
    by false true is ih = ih ∙ ap (λ (z : Bool). cond z (Some f) (first_with name with_b)) (sym is)
    by false false is ih = ih

-- it stands at its number
numbered : (name : ℕ) (fs : List Function) (f : Function) → first_with name fs ≡ Some f → slice_get fs (number_in name fs) ≡ Some f
numbered name [] f h = cc
numbered name (g ∷ fs) f h = by (g.name == name) (numbered name fs f) h
  where
    by : (b : Bool) → (first_with name fs ≡ Some f → slice_get fs (number_in name fs) ≡ Some f) → cond b (Some g) (first_with name fs) ≡ Some f → slice_get (g ∷ fs) (if b then 0 else suc (number_in name fs)) ≡ Some f
    by true ih e = e
    by false ih e = ih e

-- the function of that name leads where those of that name come first
record Leads (main : ℕ) (fs : List Function) (f : Function) : Type 0 where
  pub more : List Function
  pub is : fs ≡ f ∷ more
  pub named : (f.name == main) ≡ true

main_leads : (main : ℕ) (fs rest : List Function) (f : Function) → first_with main fs ≡ Some f → Leads main (filter (λ g. g.name == main) fs ++ rest) f
main_leads main [] rest f h = cc
main_leads main (g ∷ fs) rest f h = by (g.name == main) refl (main_leads main fs rest f) h
  where
    mains : List Function
    mains = filter (λ x. x.name == main) fs

    by : (b : Bool) → (g.name == main) ≡ b → (first_with main fs ≡ Some f → Leads main (mains ++ rest) f) → cond b (Some g) (first_with main fs) ≡ Some f → Leads main (cond b (g ∷ mains) mains ++ rest) f
    by true is ih e = let same : g ≡ f = cc in record { more = mains ++ rest; is = ap (λ x. x ∷ (mains ++ rest)) same; named = ap (λ (x : Function). x.name == main) (sym same) ∙ is }
    by false is ih e = ih e

passes_main : (name main : ℕ) (fs rest : List Function) → (name ≡ main → ⊥) → first_with name (filter (λ g. g.name == main) fs ++ rest) ≡ first_with name rest
passes_main name main [] rest ne = refl
passes_main name main (g ∷ fs) rest ne = by (g.name == main) refl (passes_main name main fs rest ne)
  where
    mains : List Function
    mains = filter (λ x. x.name == main) fs

    by : (b : Bool) → (g.name == main) ≡ b → first_with name (mains ++ rest) ≡ first_with name rest → first_with name (cond b (g ∷ mains) mains ++ rest) ≡ first_with name rest
    by true is ih = ap (λ (z : Bool). cond z (Some g) (first_with name (mains ++ rest))) (ne_eqb g.name name (λ e. ne (sym e ∙ eqb-true g.name main is))) ∙ ih
    by false is ih = ih

others : (name main : ℕ) (fs : List Function) → (name ≡ main → ⊥) → first_with name (filter (λ g. not (g.name == main)) fs) ≡ first_with name fs
others name main [] ne = refl
others name main (g ∷ fs) ne = by (g.name == main) refl (others name main fs ne)
  where
    rest : List Function
    rest = filter (λ x. not (x.name == main)) fs

    by : (b : Bool) → (g.name == main) ≡ b → first_with name rest ≡ first_with name fs → first_with name (cond (not b) (g ∷ rest) rest) ≡ cond (g.name == name) (Some g) (first_with name fs)
    by true is ih = ih ∙ ap (λ (z : Bool). cond z (Some g) (first_with name fs)) (sym (ne_eqb g.name name (λ e. ne (sym e ∙ eqb-true g.name main is))))
    by false is ih = ap (λ o. cond (g.name == name) (Some g) o) ih

module _ (names : Names) (items : List TopItem) where
  abbrev bodies : List Function
  bodies = with_bodies items

  abbrev order : List Function
  order = in_number_order names.main items

  pub first_is : (name : ℕ) (f : Function) → function_named name items ≡ Some f → first_with name bodies ≡ Some f
  first_is name f h = sym (first_body name (functions items)) ∙ h

  main_order : (f : Function) → function_named names.main items ≡ Some f → Leads names.main order f
  main_order f h = main_leads names.main bodies (filter (λ g. not (g.name == names.main)) bodies) f (first_is names.main f h)

  pub number_main : (f : Function) → function_named names.main items ≡ Some f → number_of names items names.main ≡ 0
  number_main f h = let l = main_order f h in ap (number_in names.main) l.is ∙ ap (λ (z : Bool). if z then 0 else suc (number_in names.main l.more)) l.named

  first_order : (name : ℕ) (f : Function) → function_named name items ≡ Some f → first_with name order ≡ Some f
  first_order name f h = by (name == names.main) refl
    where
      by : (b : Bool) → (name == names.main) ≡ b → first_with name order ≡ Some f
      by true is =
          let e = eqb-true name names.main is in
          let l = main_order f (ap (λ n. function_named n items) (sym e) ∙ h) in
          ap (λ n. first_with n order) e ∙ ap (first_with names.main) l.is ∙ ap (λ (z : Bool). cond z (Some f) (first_with names.main l.more)) l.named
      by false is =
          let ne = eqb-false name names.main is in
          passes_main name names.main bodies (filter (λ g. not (g.name == names.main)) bodies) ne ∙ others name names.main bodies ne ∙ first_is name f h

  pub function_at : (name : ℕ) (f : Function) → function_named name items ≡ Some f → slice_get order (number_of names items name) ≡ Some f
  function_at name f h = numbered name order f (first_order name f h)

-- ---- what is asked of a program

pub some_recursive : (p : ℕ → Bool) (name : ℕ) (fs : List Function) (f : Function) → first_with name fs ≡ Some f → p name ≡ true → list_any (λ (g : Function). p g.name) fs ≡ true
some_recursive p name [] f h r = cc
some_recursive p name (g ∷ fs) f h r = by (g.name == name) refl (λ e. some_recursive p name fs f e r) h
  where
    by : (b : Bool) → (g.name == name) ≡ b → (first_with name fs ≡ Some f → list_any (λ (x : Function). p x.name) fs ≡ true) → cond b (Some g) (first_with name fs) ≡ Some f → (p g.name || list_any (λ (x : Function). p x.name) fs) ≡ true
    by true is ih e = ap (λ z. z || list_any (λ (x : Function). p x.name) fs) (ap p (eqb-true g.name name is) ∙ r)
    by false is ih e = or_true (p g.name) (ih e)
      where
        or_true : (x : Bool) {y : Bool} → y ≡ true → (x || y) ≡ true
        or_true true e' = refl
        or_true false e' = e'

pub small_of : (words : List ℕ) → AreWords words → AreSmall words
small_of [] h = tt
small_of (w ∷ ws) h = (h 0 w (omega arith), small_of ws (λ i d lt. h (suc i) d (omega (arith, lt))))

small_all : (gs : List Global) → AreWordsAll gs → AreSmallGlobals gs
small_all [] h = tt
small_all (g ∷ gs) h = (small_of (object_words g.object) (h 0 g (omega arith)), small_all gs (λ i d lt. h (suc i) d (omega (arith, lt))))

-- what is to be shown of states, by the frames that can come; `counts` are the numbers of recursive functions
pub record Frames (mid : Mid) (extra : ℕ → List (List ℕ)) (counts : ℕ → Bool) : Type 1 where
  pub Good : BlockState → Type 0
  pub Room : ℕ → Frame → Type 0
  pub good : (depth : ℕ) (fr : Frame) → Room depth fr → (at : Spot) (vars : Variables) (s : State) (line : Line) → line_at fr.code at.block at.step ≡ Some line → ProperLine line vars (globals_words s.globals ++ extra s.active) → Good (machine (record { mid = mid; Good = Good; extra = extra }) fr at vars s)
  pub enters : (depth : ℕ) (fr : Frame) (number : ℕ) (code : MidFunction) (at : Spot) (vars : Variables) (result : Option ℕ) (args : List ℕ) → depth ≤ 256 → Room depth fr → slice_get mid.functions number ≡ Some code → line_at fr.code at.block at.step ≡ Some (End (Call number args result)) → Room (deeper (counts number) depth) (frame_of number code result fr at vars)
  pub begins : (code : MidFunction) → slice_get mid.functions 0 ≡ Some code → Room (deeper (counts 0) 0) (record { function = 0; code = code; result = None; callers = [] })

module _ (names : Names) (program : Program) (chain_pairs : ℕ) where
  abbrev items : List TopItem
  items = program.items

  abbrev mid : Mid
  mid = low_program names program chain_pairs

  -- the counter, where there is one
  abbrev pub counter_words : ℕ → List (List ℕ)
  counter_words a = if any_recursive items then ((a ∷ []) ∷ []) else []

  abbrev no_bindings : Bindings
  no_bindings = record { variable = λ name. None; local_unsigned = λ name. false; globals = shapes items; callee = callee_of names items (number_of names items) }

  -- what belongs to a name that has a function
  abbrev bindings_for : Option Function → Bindings
  bindings_for None = no_bindings
  bindings_for (Some f) = bindings_of names items f

  abbrev free_for : Option Function → ℕ
  free_for None = 0
  free_for (Some f) = free_of f

  abbrev value_for : Option Function → Bool
  value_for None = false
  value_for (Some f) = has_value_in f

  abbrev counter_for : Option Function → Option Counter
  counter_for None = None
  counter_for (Some f) = counter_of items f

  abbrev code_for : Option Function → MidFunction
  code_for None = record { params = 0; variables = 0; pairs = 0; blocks = [] }
  code_for (Some f) = low_function names items f

  apart_for : (o : Option Function) (m n i : ℕ) → (bindings_for o).variable m ≡ Some i → (bindings_for o).variable n ≡ Some i → m ≡ n
  apart_for None m n i p q = cc
  apart_for (Some f) m n i p q = place_apart m n 0 i (variables_of f) p q

  below_for : (o : Option Function) (n i : ℕ) → (bindings_for o).variable n ≡ Some i → i < free_for o
  below_for None n i p = cc
  below_for (Some f) n i p = omega (arith, place_below n 0 i (variables_of f) p)

  callees_for : (o : Option Function) (called : ℕ) → (bindings_for o).callee called ≡ callee_of names items (number_of names items) called
  callees_for None called = refl
  callees_for (Some f) called = refl

  globals_for : (o : Option Function) → (bindings_for o).globals ≡ shapes items
  globals_for None = refl
  globals_for (Some f) = refl

  pub name_is : (name : ℕ) (f : Function) → function_named name items ≡ Some f → f.name ≡ name
  name_is name f h = by (functions items) h
    where
      by : (fs : List Function) → find (λ g. g.name == name && has_body g.body) fs ≡ Some f → f.name ≡ name
      by [] e = cc
      by (g ∷ fs) e = at (g.name == name) (has_body g.body) refl e (by fs)
        where
          at : (b c : Bool) → (g.name == name) ≡ b → cond (b && c) (Some g) (find (λ x. x.name == name && has_body x.body) fs) ≡ Some f → (find (λ x. x.name == name && has_body x.body) fs ≡ Some f → f.name ≡ name) → f.name ≡ name
          at true true is e' ih = let same : g ≡ f = cc in ap (λ (x : Function). x.name) (sym same) ∙ eqb-true g.name name is
          at true false is e' ih = ih e'
          at false c is e' ih = ih e'

  counts_is : (name : ℕ) (f : Function) → function_named name items ≡ Some f → counts names items (number_of names items name) ≡ is_recursive items name
  counts_is name f is = ap (recursive_one items) (function_at names items name f is) ∙ ap (is_recursive items) (name_is name f is)

  uncounted_for : (name : ℕ) (f : Function) → function_named name items ≡ Some f → is_recursive items name ≡ false → counter_for (function_named name items) ≡ None
  uncounted_for name f is plain =
      ap counter_for is
      ∙ ap (λ (b : Bool). if b then Some (let c : Counter = record { global = length (globals items); spare = free_of f + greatest (map statement_temps (body_of f.body)) } in c) else None) (ap (is_recursive items) (name_is name f is) ∙ plain)

  module _ (ok : Fitting names program.items) (frames : Frames (low_program names program chain_pairs) counter_words (counts names items)) where
    abbrev k : Setting
    k = record { mid = mid; Good = frames.Good; extra = counter_words }

    counted_for : (name : ℕ) (f : Function) → function_named name items ≡ Some f → is_recursive items name ≡ true → CountedBy k (counter_for (function_named name items)) (length (shapes items)) (free_for (function_named name items))
    counted_for name f is counts =
        let some : any_recursive items ≡ true = some_recursive (is_recursive items) name (with_bodies items) f (first_is names items name f is) counts in
        let few = recursive_temps program.items name f is counts in
        let above : free_of f < free_of f + greatest (map statement_temps (body_of f.body)) = omega (arith, few) in
        let c : Option Counter = Some (record { global = length (globals items); spare = free_of f + greatest (map statement_temps (body_of f.body)) }) in
        let long : length (shapes items) ≡ length (globals items) = length-map (globals items) _ in
        record {
          spare = free_of f + greatest (map statement_temps (body_of f.body));
          is = ap counter_for is ∙ ap (λ (b : Bool). if b then c else None) (ap (is_recursive items) (name_is name f is) ∙ counts) ∙ ap (λ n. let x : Option Counter = Some (record { global = n; spare = free_of f + greatest (map statement_temps (body_of f.body)) }) in x) (sym long);
          above = subst (λ o. free_for o < free_of f + greatest (map statement_temps (body_of f.body))) (sym is) above;
          extra_is = λ a. ap (λ (b : Bool). let x : List (List ℕ) = if b then ((a ∷ []) ∷ []) else [] in x) some;
        }

    pub plan : Plan k program.items names
    plan = record {
      bindings = λ name. bindings_for (function_named name items);
      free = λ name. free_for (function_named name items);
      has_value = λ name. value_for (function_named name items);
      code = λ name. code_for (function_named name items);
      number = number_of names items;
      globals = shapes items;
      counter = λ name. counter_for (function_named name items);
      apart = λ name. apart_for (function_named name items);
      below = λ name. below_for (function_named name items);
      callees = λ name. callees_for (function_named name items);
      globals_are = λ name. globals_for (function_named name items);
      placed = placed_for;
      stands = stands_for;
      params_fit = λ name f is. subst (λ o. ParamsFit (bindings_for o) 0 f.params) (sym is) (params_fit names program.items f (ok.params_apart name f is));
      body_fits = λ name f is. ap (λ o. list_fits (map (fitting_statement (bindings_for o)) (body_of f.body)) (record { breaks = false; continues = false; returns = value_for o }) (param_names f.params ∷ [])) is ∙ ok.body_fits name f is;
      uncounted = uncounted_for;
      counted_by = counted_for;
      no_in_word = ok.no_in_word;
      no_out_word = ok.no_out_word;
      Room = frames.Room;
      good = frames.good;
      enters = λ depth fr name called f at vars result args few room number code is line. subst (λ r. frames.Room (deeper r depth) (frame_of (number_of names items called) (code_for (function_named called items)) result fr at vars)) (counts_is called f is) (frames.enters depth fr (number_of names items called) (code_for (function_named called items)) at vars result args few room (placed_for called f is) line);
    }
      where
        placed_for : (name : ℕ) (f : Function) → function_named name items ≡ Some f → slice_get mid.functions (number_of names items name) ≡ Some (code_for (function_named name items))
        placed_for name f is = slice_get-map (low_function names items) (in_number_order names.main items) (number_of names items name) ∙ ap (option_map (low_function names items)) (function_at names items name f is) ∙ ap (λ o. Some (code_for o)) (sym is)

        stands_for : (name : ℕ) (f : Function) → function_named name items ≡ Some f → Stands (code_for (function_named name items)) (start 0) (body_lines (bindings_for (function_named name items)) (value_for (function_named name items)) (free_for (function_named name items)) (counter_for (function_named name items)) (body_of f.body))
        stands_for name f is = subst (λ o. Stands (code_for o) (start 0) (body_lines (bindings_for o) (value_for o) (free_for o) (counter_for o) (body_of f.body))) (sym is) (body_stands (low_function names items f) (bindings_of names items f) (has_value_in f) (free_of f) (counter_of items f) (body_of f.body) refl)

    pub begin : Start k program.items names plan
    unfolding plan
    begin = record {
      main = ok.main;
      main_is = ok.main_is;
      main_first = number_main names items ok.main ok.main_is;
      no_params = ok.no_params;
      room = subst (λ r. frames.Room (deeper r 0) (record { function = 0; code = plan.code names.main; result = None; callers = [] })) (ap (counts names items) (sym (number_main names items ok.main ok.main_is)) ∙ counts_is names.main ok.main ok.main_is) (frames.begins (plan.code names.main) (ap (slice_get mid.functions) (sym (number_main names items ok.main ok.main_is)) ∙ plan.placed names.main ok.main ok.main_is));
      globals_are = refl;
      shapes_are = refl;
      small_globals = small_all (globals items) ok.small_globals;
    }

    pub low_same : (input : List ℕ) → AreSmall input → SameObserved (block_run (low_program names program chain_pairs) input) (c_observed names program input)
    low_same input small = same_run k program names plan begin input small

    pub low_good : (input : List ℕ) → AreWords input → (n : ℕ) → (block_state mid input n).end ≡ None → frames.Good (block_state mid input n)
    low_good input words n running = all_good k program names plan begin input (small_of input words) n running

  abbrev proper_frames : Frames (low_program names program chain_pairs) counter_words (counts names items)
  proper_frames = record {
    Good = IsProper mid;
    Room = λ depth fr. slice_get mid.functions fr.function ≡ Some fr.code;
    good = λ depth fr room at vars s line is proper. proper_good mid counter_words fr room at vars s line is proper;
    enters = λ depth fr number code at vars result args few room is line. is;
    begins = λ code is. is;
  }

  -- the run of the lowered program is the run of the tree, observed from outside
  pub lowered_same : Fitting names program.items → (input : List ℕ) → AreSmall input → SameObserved (block_run (low_program names program chain_pairs) input) (c_observed names program input)
  lowered_same ok input small = low_same ok proper_frames input small

  -- what comes next is proper, in each state
  pub lowered_proper : Fitting names program.items → Proper (low_program names program chain_pairs)
  lowered_proper ok input n line words running is = low_good ok proper_frames input words n running line is

  -- where each chain of calls has room for its pairs, no state has more
  pub lowered_shallow : Fitting names program.items → (chain : ℕ → ℕ → ℕ) → Chain (low_program names program chain_pairs) (counts names items) chain → chain (deeper (counts names items 0) 0) 0 ≤ chain_pairs → Shallow (low_program names program chain_pairs)
  lowered_shallow ok chain c room input n words =
      all_shallow (k ok frames) program names (plan ok frames) (begin ok frames) input (small_of input words) (λ b fine. fine.1) n
    where
      frames : Frames (low_program names program chain_pairs) counter_words (counts names items)
      frames = record {
        Good = IsFine mid;
        Room = RoomFor mid chain;
        good = room_good mid counter_words (counts names items) chain c;
        enters = room_enters mid (counts names items) chain c;
        begins = λ code is. record { placed = is; room = omega (arith, room) };
      }
