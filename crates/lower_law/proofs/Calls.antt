-- Calls do what they mean, by induction on how many may be open.
use Rattle.std.proofs.Common.{◌≡◌, ℕ, zero, suc, ◌+◌, ◌-◌, ◌<◌, ◌≤◌, ◌^◌, ◌%◌, Bool, true, false, not, List, [], ◌∷◌, ◌++◌, map, length, Option, Some, None, Ok, refl, sym, ap, ◌∙◌, subst, if◌then◌else◌, ◌==◌, arith, inl, inr}
use Rattle.std.specs.Prelude.{slice_get, IsSome, ◌⊎◌}
use Rattle.std.specs.List.{AllByRecursion}
use Rattle.std.proofs.lemmas.Bool.{eqb-true, eqb-false, false≢true}
use Rattle.c_meaning.specs.declared.run.Value.{Value}
use Rattle.c_meaning.specs.declared.run.Flow.{Flow}
use Rattle.c_meaning.specs.declared.run.Flow.TheVariants.{Normal, Breaks, Continues, Returns}
use Rattle.c_syntax.specs.declared.tree.Param.{Param}
use Rattle.c_syntax.specs.declared.tree.Function.{Function}
use Rattle.c_syntax.specs.declared.tree.TopItem.{TopItem}
use Rattle.c_syntax.specs.declared.tree.Stmt.{Stmt}
use Rattle.c_meaning.specs.Operators.{value, is_unsigned_type, converted}
use Rattle.c_meaning.specs.Run.{Entry, Global, State, Outcome, Gives, Ends, Run, and_then, pure, find_entry, or_else, innermost, next_of, spend}
use Rattle.c_syntax.specs.Graph.{body_of, function_named, is_recursive}
use Rattle.c_meaning.specs.Meaning.{Calls, Names, statement, in_order, bind, bound, call_result, in_body, enter_function, returns_unsigned, call_in_word, call_out_word, call_at, calls}
use Rattle.mid_blocks.specs.declared.code.MidFunction.{MidFunction}
use Rattle.mid_blocks.specs.declared.code.MidStep.TheVariants.{Constant, Input, Output, Operate, Load, Store, Deep}
use Rattle.mid_blocks.specs.declared.code.MidEnd.TheVariants.{Jump, Call, Return}
use Rattle.mid_blocks.specs.declared.code.RunEnd.TheVariants as end
use Rattle.mid_blocks.specs.Lines.{Line, Step, End, line_at, one_or_none}
use Rattle.mid_blocks.specs.Run.{BlockState, Variables, word_in, word_or_zero, index_in, with_word, with_result, takes_in, passes, ends, do_line, operate, sets_or_traps, global_in, truth as truth_word}
use Rattle.mid_blocks.specs.Bounds.{ProperLine}
use Rattle.lower_rules.specs.Bindings.{GlobalShape, Bindings, InWord, OutWord, callee_of, defined_callee, is_void_type, callee_takes, callee_unsigned, callee_void}
use Rattle.lower_rules.specs.Scoping.{Scopes, Around, fitting_statement, list_fits}
use Rattle.lower_rules.specs.Expressions.{from_on, result_in, callee_lines}
use Rattle.lower_rules.specs.Statements.{Context, LowStmt, low_statement, low_list}
use Rattle.lower_rules.specs.Functions.{Counter, begin_lines, end_lines, fallen_off, returned_from, body_lines}
use Rattle.mid_blocks.specs.declared.code.MidOp.TheVariants as op
use Rattle.std.specs.Prelude.{slice_set, slice_index_or}
use Rattle.std.proofs.Math.Seq.{get_or-append_seam, set-append_seam}
use Rattle.c_meaning.specs.Run.{begin_if}
use Rattle.lower_law.proofs.Lines.{Spot, start, past, Stands, stands_front, stands_back}
use Rattle.lower_law.proofs.Machine.{Frame, Setting, machine, at_spot, Fits, Comes, comes_by, comes_on, Does, does_nothing, does_then, does_later, does_cross, does_spend, globals_words}
use Rattle.lower_law.proofs.Scopes.{entry_name, scope_names}
use Rattle.lower_law.proofs.Globals.{AreSmall, AreSmallGlobals}
use Rattle.lower_law.proofs.Holds.{Body, Held, Holds, Kept, holds_kept, kept_with, with_same, with_other, is_some_from, next, temps_here}
use Rattle.lower_law.proofs.Values.{ValueAt, value_put, does_line, then_constant}
use Rattle.lower_law.proofs.Expressions.{ArgsAt, CallsMeet, then_jump}
use Rattle.lower_law.proofs.Statements.{Inner, HoldsInner, ListAt, Substatement, follows_stmt, list_does, list_ends}
use Rattle.lower_rules.specs.Programs.{shape_of}
use Rattle.lower_rules.specs.Chains.{deeper}
use Rattle.lower_rules.specs.Fitting.{param_names}

-- ---- parameters

-- the parameters from the i-th on have the variables from i on, of their types
abbrev pub ParamsFit : Bindings → ℕ → List Param → Type 0
ParamsFit names i [] = Unit {0}
ParamsFit names i (p ∷ ps) = ((n : ℕ) × (p.name ≡ Some n) × (names.variable n ≡ Some i) × (names.local_unsigned n ≡ is_unsigned_type p.ty)) × ParamsFit names (i + 1) ps

abbrev pub value_words : List Value → List ℕ
value_words vs = map (λ v. v.word) vs

names_append : (xs ys : List Entry) → map entry_name (xs ++ ys) ≡ map entry_name xs ++ map entry_name ys
names_append [] ys = refl
names_append (x ∷ xs) ys = ap (λ l. x.name ∷ l) (names_append xs ys)

bound_names : (names : Bindings) (i : ℕ) (ps : List Param) (vs : List Value) → ParamsFit names i ps → length vs ≡ length ps → map entry_name (bound ps vs) ≡ param_names ps
bound_names names i [] vs fit e = refl
bound_names names i (p ∷ ps) [] fit e = absurd (omega (arith, e))
bound_names names i (p ∷ ps) (v ∷ vs) fit e =
    let n : ℕ = fit.0.0 in
    ap (λ o. map entry_name (bound ps vs ++ bind o (is_unsigned_type p.ty) v)) fit.0.1 ∙ names_append (bound ps vs) (bind (Some n) (is_unsigned_type p.ty) v)
    ∙ ap (λ l. l ++ n ∷ []) (bound_names names (i + 1) ps vs fit.1 (omega (arith, e))) ∙ ap (λ o. param_names ps ++ one_or_none o) (sym fit.0.1)

-- the words behind the first i
abbrev Behind : Variables → ℕ → List Value → Type 0
Behind vars i [] = Unit {0}
Behind vars i (v ∷ vs) = ((vars i ≡ Some v.word) × (v.word < 2 ^ 32)) × Behind vars (i + 1) vs

find_either : (n : ℕ) (xs ys : List Entry) (v : Value) → find_entry n (xs ++ ys) ≡ Some v → (find_entry n xs ≡ Some v) ⊎ (find_entry n ys ≡ Some v)
find_either n [] ys v h = inr h
find_either n (e ∷ xs) ys v h = by (find_either n xs ys v) (e.name == n) h
  where
    by : (find_entry n (xs ++ ys) ≡ Some v → (find_entry n xs ≡ Some v) ⊎ (find_entry n ys ≡ Some v)) → (b : Bool) → (if b then Some e.value else find_entry n (xs ++ ys)) ≡ Some v → ((if b then Some e.value else find_entry n xs) ≡ Some v) ⊎ (find_entry n ys ≡ Some v)
    by ih true h' = inl h'
    by ih false h' = ih h'

bound_held : (b : Body) (i : ℕ) (ps : List Param) (vs : List Value) (vars : Variables) → ParamsFit b.names i ps → Behind vars i vs → (n : ℕ) (v : Value) → find_entry n (bound ps vs) ≡ Some v → Held b vars n v
bound_held b i [] vs vars fit words n v e = cc
bound_held b i (p ∷ ps) [] vars fit words n v e = cc
bound_held b i (p ∷ ps) (x ∷ vs) vars fit words n v e =
    let m : ℕ = fit.0.0 in
    by (bound_held b (i + 1) ps vs vars fit.1 words.1 n v) (m == n) refl
    (find_either n (bound ps vs) (bind (Some m) (is_unsigned_type p.ty) x) v (ap (λ o. find_entry n (bound ps vs ++ bind o (is_unsigned_type p.ty) x)) (sym fit.0.1) ∙ e))
  where
    by : (find_entry n (bound ps vs) ≡ Some v → Held b vars n v) → (c : Bool) → (fit.0.0 == n) ≡ c → (find_entry n (bound ps vs) ≡ Some v) ⊎ ((if fit.0.0 == n then Some (converted (is_unsigned_type p.ty) x) else None) ≡ Some v) → Held b vars n v
    by ih c is (inl e') = ih e'
    by ih true is (inr e') =
        let mn : fit.0.0 ≡ n = eqb-true fit.0.0 n is in
        let z : Some (converted (is_unsigned_type p.ty) x) ≡ Some v = ap (λ (c : Bool). if c then Some (converted (is_unsigned_type p.ty) x) else None) (sym is) ∙ e' in
        let v_is : converted (is_unsigned_type p.ty) x ≡ v = cc in
        subst (λ y. Held b vars n y) v_is (subst (λ j. Held b vars j (converted (is_unsigned_type p.ty) x)) mn (record { variable = i; is = fit.0.2; word = words.0.0; typed = sym fit.0.3; small = words.0.1 }))
    by ih false is (inr e') =
        let z : ◌≡◌ {A = Option Value} None (Some v) = ap (λ (c : Bool). if c then Some (converted (is_unsigned_type p.ty) x) else None) (sym is) ∙ e' in cc

behind_from : (g : Variables) (i t : ℕ) (vars : Variables) (vs : List Value) → ((j : ℕ) → g (i + j) ≡ slice_get (value_words vs) j) → ArgsAt vars t vs → Behind g i vs
behind_from g i t vars [] same h = tt
behind_from g i t vars (v ∷ vs) same h =
    let e : i + 0 ≡ i = omega arith in
    ((ap g (sym e) ∙ same 0, h.0.1), behind_from g (i + 1) (t + 1) vars vs (λ j. let e' : i + 1 + j ≡ i + suc j = omega arith in ap g e' ∙ same (suc j)) h.1)

behind_words : (t : ℕ) (vars : Variables) (vs : List Value) → ArgsAt vars t vs → Behind (slice_get (value_words vs)) 0 vs
behind_words t vars vs h = behind_from (slice_get (value_words vs)) 0 t vars vs (λ j. let e : 0 + j ≡ j = omega arith in ap (slice_get (value_words vs)) e) h

args_words : (vars : Variables) (t : ℕ) (vs : List Value) → ArgsAt vars t vs → map (word_in vars) (from_on (length vs) t) ≡ value_words vs
args_words vars t [] h = refl
args_words vars t (v ∷ vs) h = ap (λ x. word_or_zero x ∷ map (word_in vars) (from_on (length vs) (t + 1))) h.0.0 ∙ ap (λ l. v.word ∷ l) (args_words vars (t + 1) vs h.1)

args_written : (vars : Variables) (t : ℕ) (vs : List Value) → ArgsAt vars t vs → AllByRecursion (λ v. IsSome (vars v)) (from_on (length vs) t)
args_written vars t [] h = tt
args_written vars t (v ∷ vs) h = (is_some_from (vars t) v.word h.0.0, args_written vars (t + 1) vs h.1)

-- ---- a program in blocks beside its tree

-- the call of a function: the caller goes on behind its spot
abbrev pub frame_of : ℕ → MidFunction → Option ℕ → Frame → Spot → Variables → Frame
frame_of number code result fr at vars = record { function = number; code = code; result = result; callers = at_spot fr (start (at.block + 1)) vars ∷ fr.callers }

-- the counter of a recursive function: the last global, and variables behind those that its body uses
pub record CountedBy (k : Setting) (counter : Option Counter) (globals free : ℕ) : Type 0 where
  pub spare : ℕ
  pub is : counter ≡ Some (record { global = globals; spare = spare })
  pub above : free < spare
  pub extra_is : (a : ℕ) → k.extra a ≡ (a ∷ []) ∷ []

-- each function with a body stands among the functions of the program, lowered
pub record Plan (k : Setting) (items : List TopItem) (names : Names) : Type 1 where
  pub bindings : ℕ → Bindings
  pub free : ℕ → ℕ
  pub has_value : ℕ → Bool
  pub code : ℕ → MidFunction
  pub number : ℕ → ℕ
  pub globals : List GlobalShape
  pub counter : ℕ → Option Counter
  pub apart : (name m n i : ℕ) → (bindings name).variable m ≡ Some i → (bindings name).variable n ≡ Some i → m ≡ n
  pub below : (name n i : ℕ) → (bindings name).variable n ≡ Some i → i < free name
  pub callees : (name called : ℕ) → (bindings name).callee called ≡ callee_of names items number called
  pub globals_are : (name : ℕ) → (bindings name).globals ≡ globals
  pub placed : (name : ℕ) (f : Function) → function_named name items ≡ Some f → slice_get k.mid.functions (number name) ≡ Some (code name)
  pub stands : (name : ℕ) (f : Function) → function_named name items ≡ Some f → Stands (code name) (start 0) (body_lines (bindings name) (has_value name) (free name) (counter name) (body_of f.body))
  pub params_fit : (name : ℕ) (f : Function) → function_named name items ≡ Some f → ParamsFit (bindings name) 0 f.params
  pub body_fits : (name : ℕ) (f : Function) → function_named name items ≡ Some f → list_fits (map (fitting_statement (bindings name)) (body_of f.body)) (record { breaks = false; continues = false; returns = has_value name }) (param_names f.params ∷ []) ≡ true
  pub uncounted : (name : ℕ) (f : Function) → function_named name items ≡ Some f → is_recursive items name ≡ false → counter name ≡ None
  pub counted_by : (name : ℕ) (f : Function) → function_named name items ≡ Some f → is_recursive items name ≡ true → CountedBy k (counter name) (length globals) (free name)
  pub no_in_word : function_named names.in_word items ≡ None
  pub no_out_word : function_named names.out_word items ≡ None
  -- the frames that can come, with how many calls of recursive functions are active where their bodies run
  pub Room : ℕ → Frame → Type 0
  pub good : (depth : ℕ) (fr : Frame) → Room depth fr → (at : Spot) (vars : Variables) (s : State) (line : Line) → line_at fr.code at.block at.step ≡ Some line → ProperLine line vars (globals_words s.globals ++ k.extra s.active) → k.Good (machine k fr at vars s)
  pub enters : (depth : ℕ) (fr : Frame) (name called : ℕ) (f : Function) (at : Spot) (vars : Variables) (result : Option ℕ) (args : List ℕ) → depth ≤ 256 → Room depth fr → fr.function ≡ number name → fr.code ≡ code name → function_named called items ≡ Some f → line_at fr.code at.block at.step ≡ Some (End (Call (number called) args result)) → Room (deeper (is_recursive items called) depth) (frame_of (number called) (code called) result fr at vars)

module _ (k : Setting) (items : List TopItem) (names : Names) (p : Plan k items names) where
  abbrev pub body_at : ℕ → ℕ → ℕ → Body
  body_at name level active = record { names = p.bindings name; free = p.free name; apart = p.apart name; below = p.below name; level = level; active = active }

  -- the frame is one of the function of that name
  pub record Of (name : ℕ) (f : Function) (fr : Frame) : Type 0 where
    pub is : function_named name items ≡ Some f
    pub function_is : fr.function ≡ p.number name
    pub code_is : fr.code ≡ p.code name
    pub depth : ℕ
    pub room : p.Room depth fr

  pub fits : (name : ℕ) (f : Function) (fr : Frame) → Of name f fr → Fits k fr
  fits name f fr o = record {
    is = ap (slice_get k.mid.functions) o.function_is ∙ p.placed name f o.is ∙ ap Some (sym o.code_is);
    good = p.good o.depth fr o.room;
  }

  -- what holds at the return of a call
  pub record BodyAt (name : ℕ) (f : Function) (a : ℕ) (scopes : List (List Entry)) (goal : Spot) (v : Value) (s : State) (at : Spot) (vars : Variables) : Type 0 where
    pub at_is : at ≡ goal
    pub word : index_in vars (returned_from (p.has_value name) (p.free name)) ≡ v.word
    pub written : AllByRecursion (λ i. IsSome (vars i)) (one_or_none (returned_from (p.has_value name) (p.free name)))
    pub typed : v.is_unsigned ≡ is_unsigned_type f.ty
    pub small : v.word < 2 ^ 32
    pub scopes_are : s.scopes ≡ scopes
    pub shapes_are : map shape_of s.globals ≡ p.globals
    pub small_globals : AreSmallGlobals s.globals
    pub small_input : AreSmall s.input
    pub active_is : s.active ≡ a

  module _ (name : ℕ) (f : Function) (fr : Frame) (of : Of name f fr) (n a : ℕ) (meets : CallsMeet k (body_at name n a) fr (calls names items n)) where
    abbrev b : Body
    b = body_at name n a

    abbrev functions : Calls
    functions = calls names items n

    with_proofs : List Stmt → List (Substatement k b fr (fits name f fr of) functions meets)
    with_proofs [] = []
    with_proofs (c ∷ cs) = (c, follows_stmt k b fr (fits name f fr of) functions meets c) ∷ with_proofs cs

    same_list : (cs : List Stmt) → map (λ c. c.0) (with_proofs cs) ≡ cs
    unfolding with_proofs
    same_list [] = refl
    same_list (c ∷ cs) = ap (λ l. c ∷ l) (same_list cs)

    abbrev the_body : List Stmt
    the_body = body_of f.body

    abbrev low_body : LowStmt
    low_body = low_list (map (low_statement b.names) the_body)

    abbrev last : ℕ
    last = low_body.blocks + 1

    abbrev to : Context
    to = record { breaks_to = 0; continues_to = 0; returns_to = last; free = b.free }

    abbrev around : Around
    around = record { breaks = false; continues = false; returns = p.has_value name }

    abbrev tail : List Line
    tail = fallen_off (p.has_value name) b.free ++ (End (Jump last) ∷ (end_lines (p.counter name) ++ End (Return (returned_from (p.has_value name) b.free)) ∷ []))

    -- where the body begins
    abbrev pub at_body : Spot
    at_body = past (start 0) (begin_lines (p.counter name))

    abbrev front : List Line
    front = low_body.lines to 0

    pub all_stands : Stands fr.code (start 0) (begin_lines (p.counter name) ++ (front ++ tail))
    all_stands = subst (λ c. Stands c (start 0) (begin_lines (p.counter name) ++ (front ++ tail))) (sym of.code_is) (p.stands name f of.is)

    body_stands : Stands fr.code at_body (front ++ tail)
    body_stands = stands_back fr.code (start 0) (begin_lines (p.counter name)) (front ++ tail) all_stands

    begin_block : (c : Option Counter) → (past (start 0) (begin_lines c)).block ≡ 0
    begin_block None = refl
    begin_block (Some c) = refl

    front_ends : (past at_body front).block ≡ low_body.blocks
    front_ends = subst (λ (cs : List Stmt). (past at_body ((low_list (map (low_statement b.names) cs)).lines to 0)).block ≡ 0 + (low_list (map (low_statement b.names) cs)).blocks) (same_list the_body)
        (list_ends k b fr (fits name f fr of) functions meets (with_proofs the_body) to at_body 0 (begin_block (p.counter name))) ∙ (let g : 0 + low_body.blocks ≡ low_body.blocks = omega arith in g)

    statements_do : (scopes : Scopes) (s : State) (vars : Variables) → list_fits (map (fitting_statement b.names) the_body) around scopes ≡ true → Inner [] scopes → Holds b scopes s vars
        → Does k fr (ListAt k b fr (fits name f fr of) functions meets to around [] (past at_body front)) (machine k fr at_body vars s) s.fuel (in_order (map (λ c. c functions) (map statement the_body)) s)
    statements_do scopes s vars fit i h =
        subst (λ (cs : List Stmt). list_fits (map (fitting_statement b.names) cs) around scopes ≡ true → Stands fr.code at_body ((low_list (map (low_statement b.names) cs)).lines to 0)
        → Does k fr (ListAt k b fr (fits name f fr of) functions meets to around [] (past at_body ((low_list (map (low_statement b.names) cs)).lines to 0))) (machine k fr at_body vars s) s.fuel (in_order (map (λ c. c functions) (map statement cs)) s)) (same_list the_body)
        (λ fit' st. list_does k b fr (fits name f fr of) functions meets (with_proofs the_body) to around [] scopes s at_body vars 0 refl (begin_block (p.counter name)) fit' i h st) fit (stands_front fr.code at_body front tail body_stands)

    -- the state in which a body begins
    pub record Ready (s : State) : Type 0 where
      pub fuel_below : s.fuel < n
      pub shapes_are : map shape_of s.globals ≡ p.globals
      pub small_globals : AreSmallGlobals s.globals
      pub small_input : AreSmall s.input
      pub active_is : s.active ≡ a

    or_none : (o : Option Value) → or_else o None ≡ o
    or_none (Some v) = refl
    or_none None = refl

    holds_first : (t : ℕ) (before : Variables) (vs : List Value) (s : State) → ArgsAt before t vs → length vs ≡ length f.params → Ready s → Holds b (param_names f.params ∷ []) (record s { scopes = bound f.params vs ∷ [] }) (slice_get (value_words vs))
    holds_first t before vs s args count r = record {
      scopes_are = ap (λ (l : List ℕ). l ∷ []) (bound_names b.names 0 f.params vs (p.params_fit name f of.is) count);
      each = λ m v e. bound_held b 0 f.params vs (slice_get (value_words vs)) (p.params_fit name f of.is) (behind_words t before vs args) m v (sym (or_none (find_entry m (bound f.params vs))) ∙ e);
      shapes_are = r.shapes_are ∙ sym (p.globals_are name);
      small_globals = r.small_globals;
      small_input = r.small_input;
      fuel_below = r.fuel_below;
      active_is = r.active_is;
    }

    abbrev pub ending : Bool → List Line
    ending h = end_lines (p.counter name) ++ End (Return (returned_from h b.free)) ∷ []

    abbrev tail_of : Bool → List Line
    tail_of h = fallen_off h b.free ++ (End (Jump last) ∷ ending h)

    ending_at : (h : Bool) (at : Spot) → at.block ≡ low_body.blocks → Stands fr.code at (tail_of h) → Stands fr.code (start last) (ending h)
    ending_at true at e st = subst (λ m. Stands fr.code (start (m + 1)) (ending true)) e st.1.1
    ending_at false at e st = subst (λ m. Stands fr.code (start (m + 1)) (ending false)) e st.1

    pub ending_stands : Stands fr.code (start last) (ending (p.has_value name))
    ending_stands = ending_at (p.has_value name) (past at_body front) front_ends (stands_back fr.code at_body front tail body_stands)

    -- the outer states of a body agree in what stays
    abbrev u : Bool
    u = is_unsigned_type f.ty

    at_return : (scopes : List (List Entry)) (v : Value) (s : State) (vars : Variables) → HoldsInner k b fr (fits name f fr of) functions meets [] s vars → index_in vars (returned_from (p.has_value name) b.free) ≡ v.word → AllByRecursion (λ i. IsSome (vars i)) (one_or_none (returned_from (p.has_value name) b.free)) → v.word < 2 ^ 32 → BodyAt name f a scopes (start last) (value v.word u) (record s { scopes = scopes }) (start last) vars
    at_return scopes v s vars h word written small = record {
      at_is = refl;
      word = word;
      written = written;
      typed = refl;
      small = small;
      scopes_are = refl;
      shapes_are = h.holds.shapes_are ∙ p.globals_are name;
      small_globals = h.holds.small_globals;
      small_input = h.holds.small_input;
      active_is = h.holds.active_is;
    }

    inner_kept : (s : State) (vars : Variables) (w : ℕ) → HoldsInner k b fr (fits name f fr of) functions meets [] s vars → HoldsInner k b fr (fits name f fr of) functions meets [] s (with_word vars b.free w)
    inner_kept s vars w h = record { scopes = h.scopes; inner = h.inner; holds = holds_kept b h.scopes s vars (with_word vars b.free w) b.free (omega arith) (kept_with b.free b.free w vars (omega arith)) h.holds }

    fallen_does : (scopes : List (List Entry)) (s : State) (vars : Variables) (h : Bool) → p.has_value name ≡ h → HoldsInner k b fr (fits name f fr of) functions meets [] s vars → (at : Spot) → Stands fr.code at (tail_of h) → Does k fr (BodyAt name f a scopes (start last)) (machine k fr at vars s) s.fuel (Gives (value 0 u) (record s { scopes = scopes }))
    fallen_does scopes s vars true e h at st =
        let post = BodyAt name f a scopes (start last) in
        let s3 : State = record s { scopes = scopes } in
        let vars1 : Variables = with_word vars b.free 0 in
        let r : (x : Bool) → x ≡ true → index_in vars1 (returned_from x b.free) ≡ 0 = λ x ex. ap (λ y. index_in vars1 (returned_from y b.free)) ex ∙ ap word_or_zero (with_same vars b.free 0) in
        let w : (x : Bool) → x ≡ true → AllByRecursion (λ i. IsSome (vars1 i)) (one_or_none (returned_from x b.free)) = λ x ex. subst (λ y. AllByRecursion (λ i. IsSome (vars1 i)) (one_or_none (returned_from y b.free))) (sym ex) (is_some_from (vars1 b.free) 0 (with_same vars b.free 0), tt) in
        then_constant k fr (fits name f fr of) post at vars s b.free 0 s.fuel (Gives (value 0 u) s3) st.0
        (then_jump k b fr (fits name f fr of) functions meets post (next at) vars1 s last s.fuel (Gives (value 0 u) s3) st.1.0
        (does_nothing k fr post (start last) vars1 s3 (value 0 u) (at_return scopes (value 0 u) s vars1 (inner_kept s vars 0 h) (r (p.has_value name) e) (w (p.has_value name) e) (omega arith))))
    fallen_does scopes s vars false e h at st =
        let post = BodyAt name f a scopes (start last) in
        let s3 : State = record s { scopes = scopes } in
        then_jump k b fr (fits name f fr of) functions meets post at vars s last s.fuel (Gives (value 0 u) s3) st.0
        (does_nothing k fr post (start last) vars s3 (value 0 u) (at_return scopes (value 0 u) s vars h (ap (λ y. index_in vars (returned_from y b.free)) e) (subst (λ y. AllByRecursion (λ i. IsSome (vars i)) (one_or_none (returned_from y b.free))) (sym e) tt) (omega arith)))

    returned_word : (h : Bool) (v : Value) (vars : Variables) → (h ≡ true → vars b.free ≡ Some v.word) → (h ≡ false → v.word ≡ 0) → (index_in vars (returned_from h b.free) ≡ v.word) × AllByRecursion (λ i. IsSome (vars i)) (one_or_none (returned_from h b.free))
    returned_word true v vars word none = (ap word_or_zero (word refl), (is_some_from (vars b.free) v.word (word refl), tt))
    returned_word false v vars word none = (sym (none refl), tt)

    flow_ends : (scopes : List (List Entry)) (flow : Flow) (s : State) (at : Spot) (vars : Variables) → ListAt k b fr (fits name f fr of) functions meets to around [] (past at_body front) flow s at vars → Does k fr (BodyAt name f a scopes (start last)) (machine k fr at vars s) s.fuel (Gives (call_result u flow) (record s { scopes = scopes }))
    flow_ends scopes Normal s at vars h = subst (λ z. Does k fr (BodyAt name f a scopes (start last)) (machine k fr z vars s) s.fuel (Gives (value 0 u) (record s { scopes = scopes }))) (sym h.0) (fallen_does scopes s vars (p.has_value name) refl h.1 (past at_body front) (stands_back fr.code at_body front tail body_stands))
    flow_ends scopes Breaks s at vars h = absurd (false≢true h.0)
    flow_ends scopes Continues s at vars h = absurd (false≢true h.0)
    flow_ends scopes (Returns v) s at vars h =
        let s3 : State = record s { scopes = scopes } in
        let w = returned_word (p.has_value name) v vars h.0.word h.0.none in
        then_jump k b fr (fits name f fr of) functions meets (BodyAt name f a scopes (start last)) at vars s last s.fuel (Gives (value v.word u) s3) h.1
        (does_nothing k fr (BodyAt name f a scopes (start last)) (start last) vars s3 (value v.word u) (at_return scopes v s vars h.2 w.0 w.1 h.0.small))

    pub body_does : (t : ℕ) (before : Variables) (vs : List Value) (s : State) (vars : Variables) → ArgsAt before t vs → length vs ≡ length f.params → Ready s → Kept b.free (slice_get (value_words vs)) vars → Does k fr (BodyAt name f a s.scopes (start last)) (machine k fr at_body vars s) s.fuel (in_body functions f vs s)
    body_does t before vs s vars args count r kept =
        let s1 : State = record s { scopes = bound f.params vs ∷ [] } in
        does_then k fr (ListAt k b fr (fits name f fr of) functions meets to around [] (past at_body front)) (BodyAt name f a s.scopes (start last)) (machine k fr at_body vars s) s.fuel (in_order (map (λ c. c functions) (map statement the_body)) s1) (λ flow s2. Gives (call_result u flow) (record s2 { scopes = s.scopes }))
        (statements_do (param_names f.params ∷ []) s1 vars (p.body_fits name f of.is) (record { first = param_names f.params; is = refl; apart = λ m e. absurd (false≢true e) }) (holds_kept b (param_names f.params ∷ []) s1 (slice_get (value_words vs)) vars b.free (omega arith) kept (holds_first t before vs s args count r)))
        (λ flow s2 at2 vars2 h le. flow_ends s.scopes flow s2 at2 vars2 h)

  -- ---- counting

  -- the counter's global holds the number
  counter_holds : (s : State) → map shape_of s.globals ≡ p.globals → k.extra s.active ≡ (s.active ∷ []) ∷ [] → global_in (globals_words s.globals ++ k.extra s.active) (length p.globals) ≡ s.active ∷ []
  counter_holds s shapes extra =
      let n : length (globals_words s.globals) ≡ length p.globals = same_length s.globals ∙ ap (λ (l : List GlobalShape). length l) shapes in
      ap (λ e. global_in (globals_words s.globals ++ e) (length p.globals)) extra ∙ ap (global_in (globals_words s.globals ++ (s.active ∷ []) ∷ [])) (sym n) ∙ get_or-append_seam (globals_words s.globals) (s.active ∷ []) [] []
    where
      same_length : (gs : List Global) → length (globals_words gs) ≡ length (map shape_of gs)
      same_length [] = refl
      same_length (g ∷ gs) = ap suc (same_length gs)

  counter_set : (s : State) (w : ℕ) → map shape_of s.globals ≡ p.globals → ((a : ℕ) → k.extra a ≡ (a ∷ []) ∷ []) → slice_set (globals_words s.globals ++ k.extra s.active) (length p.globals) (w ∷ []) ≡ globals_words s.globals ++ k.extra w
  counter_set s w shapes extra =
      let n : length (globals_words s.globals) ≡ length p.globals = same_length s.globals ∙ ap (λ (l : List GlobalShape). length l) shapes in
      ap (λ e. slice_set (globals_words s.globals ++ e) (length p.globals) (w ∷ [])) (extra s.active) ∙ ap (λ i. slice_set (globals_words s.globals ++ (s.active ∷ []) ∷ []) i (w ∷ [])) (sym n) ∙ set-append_seam (globals_words s.globals) (s.active ∷ []) [] (w ∷ []) ∙ ap (λ e. globals_words s.globals ++ e) (sym (extra w))
    where
      same_length : (gs : List Global) → length (globals_words gs) ≡ length (map shape_of gs)
      same_length [] = refl
      same_length (g ∷ gs) = ap suc (same_length gs)

  module _ (name : ℕ) (f : Function) (fr : Frame) (of : Of name f fr) (c : CountedBy k (p.counter name) (length p.globals) (p.free name)) where
    abbrev sp : ℕ
    sp = c.spare

    abbrev g : ℕ
    g = length p.globals

    module _ (Q : Variables → Type 0) where
      -- from one spot to another with the variables below the spare ones kept
      pub record Leads (from to' : Spot) (vars : Variables) (s s' : State) : Type 0 where
        pub vars' : Variables
        pub comes : Comes k (machine k fr from vars s) 0 (machine k fr to' vars' s')
        pub kept : Kept sp vars vars'
        pub fact : Q vars'

      line_on : (from mid' to' : Spot) (vars vars1 : Variables) (s s1 s2 : State) (line : Line) → line_at fr.code from.block from.step ≡ Some line → ProperLine line vars (globals_words s.globals ++ k.extra s.active) → do_line (Some line) (machine k fr from vars s) ≡ machine k fr mid' vars1 s1 → Kept sp vars vars1 → Leads mid' to' vars1 s1 s2 → Leads from to' vars s s2
      line_on from mid' to' vars vars1 s s1 s2 line is proper does kept l = record {
        vars' = l.vars';
        comes = comes_on k (machine k fr from vars s) (machine k fr mid' vars1 s1) (machine k fr to' l.vars' s2) 1 0 0 (omega arith) (comes_by k fr (fits name f fr of) from vars s line (machine k fr mid' vars1 s1) is proper does) l.comes;
        kept = record { at = λ i lt. l.kept.at i lt ∙ kept.at i lt };
        fact = l.fact;
      }

      here_leads : (at : Spot) (vars : Variables) (s : State) → Q vars → Leads at at vars s s
      here_leads at vars s fact = record { vars' = vars; comes = record { steps = 0; enough = omega arith; goes = refl }; kept = record { at = λ i lt. refl }; fact = fact }

      kept_at : (i w : ℕ) (vars : Variables) → sp ≤ i → Kept sp vars (with_word vars i w)
      kept_at i w vars le = kept_with sp i w vars le

      -- the number into sp
      load_on : (at to' : Spot) (vars : Variables) (s s2 : State) → map shape_of s.globals ≡ p.globals → line_at fr.code at.block at.step ≡ Some (Step (Load sp g None)) → Leads (next at) to' (with_word vars sp s.active) s s2 → Leads at to' vars s s2
      load_on at to' vars s s2 shapes is l =
          let e = counter_holds s shapes (c.extra_is s.active) in
          line_on at (next at) to' vars (with_word vars sp s.active) s s s2 (Step (Load sp g None)) is (record { reads_written = tt; index_fits = subst (λ ws. 0 < length ws) (sym e) (omega arith) })
          (ap (λ ws. machine k fr (next at) (with_word vars sp (slice_index_or ws 0 0)) s) e) (kept_at sp s.active vars (omega arith)) l

      constant_on : (at to' : Spot) (vars : Variables) (s s2 : State) (w : ℕ) → line_at fr.code at.block at.step ≡ Some (Step (Constant (sp + 1) w)) → Leads (next at) to' (with_word vars (sp + 1) w) s s2 → Leads at to' vars s s2
      constant_on at to' vars s s2 w is l = line_on at (next at) to' vars (with_word vars (sp + 1) w) s s s2 (Step (Constant (sp + 1) w)) is (record { reads_written = tt; index_fits = tt }) refl (kept_at (sp + 1) w vars (omega arith)) l

      operate_on : (at to' : Spot) (vars : Variables) (s s2 : State) (o : _) (i x y w : ℕ) → sp ≤ i → line_at fr.code at.block at.step ≡ Some (Step (Operate o i sp (sp + 1))) → vars sp ≡ Some x → vars (sp + 1) ≡ Some y → operate o x y ≡ Ok w → Leads (next at) to' (with_word vars i w) s s2 → Leads at to' vars s s2
      operate_on at to' vars s s2 o i x y w le is ex ey r l = line_on at (next at) to' vars (with_word vars i w) s s s2 (Step (Operate o i sp (sp + 1))) is
          (record { reads_written = (is_some_from (vars sp) x ex, (is_some_from (vars (sp + 1)) y ey, tt)); index_fits = tt })
          (ap (λ z. sets_or_traps (machine k fr at vars s) i (operate o (word_or_zero z) (word_or_zero (vars (sp + 1))))) ex ∙ ap (λ z. sets_or_traps (machine k fr at vars s) i (operate o x (word_or_zero z))) ey ∙ ap (sets_or_traps (machine k fr at vars s) i) r)
          (kept_at i w vars le) l

      -- the number out of sp
      store_on : (at to' : Spot) (vars : Variables) (s s2 : State) (w : ℕ) → map shape_of s.globals ≡ p.globals → line_at fr.code at.block at.step ≡ Some (Step (Store g None sp)) → vars sp ≡ Some w → Leads (next at) to' vars (record s { active = w }) s2 → Leads at to' vars s s2
      store_on at to' vars s s2 w shapes is e l =
          let h = counter_holds s shapes (c.extra_is s.active) in
          line_on at (next at) to' vars vars s (record s { active = w }) s2 (Step (Store g None sp)) is (record { reads_written = (is_some_from (vars sp) w e, tt); index_fits = subst (λ ws. 0 < length ws) (sym h) (omega arith) })
          (ap (λ z. with_globals at vars s (slice_set (globals_words s.globals ++ k.extra s.active) g (slice_set (global_in (globals_words s.globals ++ k.extra s.active) g) 0 (word_or_zero z)))) e
          ∙ ap (λ ws. with_globals at vars s (slice_set (globals_words s.globals ++ k.extra s.active) g (slice_set ws 0 w))) h
          ∙ ap (with_globals at vars s) (counter_set s w shapes c.extra_is))
          (record { at = λ i lt. refl }) l
        where
          with_globals : Spot → Variables → State → List (List ℕ) → BlockState
          with_globals at' vars' s' gs = record (machine k fr (next at') vars' s') { globals = gs }

      -- the start of a call: the number is tested, and raised
      counted_test : (vars : Variables) (s : State) → map shape_of s.globals ≡ p.globals → line_at fr.code 0 0 ≡ Some (Step (Load sp g None)) → line_at fr.code 0 (0 + 1) ≡ Some (Step (Constant (sp + 1) 256)) → line_at fr.code 0 (0 + 1 + 1) ≡ Some (Step (Operate op.Ne (sp + 1) sp (sp + 1)))
          → (s2 : State) (to' : Spot) → Leads (next (next (next (start 0)))) to' (with_word (with_word (with_word vars sp s.active) (sp + 1) 256) (sp + 1) (truth_word (not (s.active == 256)))) s s2 → Leads (start 0) to' vars s s2
      counted_test vars s shapes st0 st1 st2 s2 to' l =
          let v1 : Variables = with_word vars sp s.active in
          let v2 : Variables = with_word v1 (sp + 1) 256 in
          load_on (start 0) to' vars s s2 shapes st0
          (constant_on (next (start 0)) to' v1 s s2 256 st1
          (operate_on (next (next (start 0))) to' v2 s s2 op.Ne (sp + 1) s.active 256 (truth_word (not (s.active == 256))) (omega arith) st2 (with_other v1 (sp + 1) sp 256 (λ q. omega (arith, q)) ∙ with_same vars sp s.active) (with_same v1 (sp + 1) 256) refl l))

    abbrev N : Variables → Type 0
    N v = Unit {0}

    -- the end of a call: the number is lowered
    pub lowers : (at : Spot) (vars : Variables) (s : State) (a : ℕ) → s.active ≡ suc a → a ≤ 256 → map shape_of s.globals ≡ p.globals → Stands fr.code at (end_lines (p.counter name)) → Leads N at (past at (end_lines (p.counter name))) vars s (record s { active = a })
    lowers at vars s a e le shapes st =
        subst (λ o. Stands fr.code at (end_lines o) → Leads N at (past at (end_lines o)) vars s (record s { active = a })) (sym c.is) (λ st'.
        let v1 : Variables = with_word vars sp s.active in
        let v2 : Variables = with_word v1 (sp + 1) 1 in
        let v3 : Variables = with_word v2 sp a in
        let less : (s.active + (2 ^ 32 - 1)) % 2 ^ 32 ≡ a = omega (arith, e, le) in
        let goal : Spot = next (next (next (next at))) in
        load_on N at goal vars s (record s { active = a }) shapes st'.0
        (constant_on N (next at) goal v1 s (record s { active = a }) 1 st'.1.0
        (operate_on N (next (next at)) goal v2 s (record s { active = a }) op.Sub sp s.active 1 a (omega arith) st'.1.1.0 (with_other v1 (sp + 1) sp 1 (λ q. omega (arith, q)) ∙ with_same vars sp s.active) (with_same v1 (sp + 1) 1) (ap Ok less)
        (store_on N (next (next (next at))) goal v3 s (record s { active = a }) a shapes st'.1.1.1.0 (with_same v2 sp a) (here_leads N goal v3 (record s { active = a }) tt))))) st

    pub raises : (vars : Variables) (s : State) → (s.active == 256) ≡ false → s.active ≤ 256 → map shape_of s.globals ≡ p.globals → Stands fr.code (start 0) (begin_lines (p.counter name)) → Leads N (start 0) (past (start 0) (begin_lines (p.counter name))) vars s (record s { active = suc s.active })
    raises vars s few le shapes st =
        subst (λ o. Stands fr.code (start 0) (begin_lines o) → Leads N (start 0) (past (start 0) (begin_lines o)) vars s (record s { active = suc s.active })) (sym c.is) (λ st'.
        let v3 : Variables = with_word (with_word (with_word vars sp s.active) (sp + 1) 256) (sp + 1) (truth_word (not (s.active == 256))) in
        let a4 : Spot = next (next (next (next (start 0)))) in
        let goal : Spot = next (next (next a4)) in
        let s2 : State = record s { active = suc s.active } in
        let v5 : Variables = with_word v3 (sp + 1) 1 in
        let v6 : Variables = with_word v5 sp (suc s.active) in
        let x : ℕ = truth_word (not (s.active == 256)) in
        let one : x ≡ 1 = ap (λ (b : Bool). truth_word (not b)) few in
        let has : v3 (sp + 1) ≡ Some 1 = with_same (with_word (with_word vars sp s.active) (sp + 1) 256) (sp + 1) x ∙ ap Some one in
        let has' : v3 sp ≡ Some s.active = with_other (with_word (with_word vars sp s.active) (sp + 1) 256) (sp + 1) sp x (λ q. omega (arith, q)) ∙ with_other (with_word vars sp s.active) (sp + 1) sp 256 (λ q. omega (arith, q)) ∙ with_same vars sp s.active in
        let more : (s.active + 1) % 2 ^ 32 ≡ suc s.active = omega (arith, le) in
        counted_test N vars s shapes st'.0 st'.1.0 st'.1.1.0 s2 goal
        (line_on N (next (next (next (start 0)))) a4 goal v3 v3 s s s2 (Step (Deep (sp + 1))) st'.1.1.1.0 (record { reads_written = (is_some_from (v3 (sp + 1)) 1 has, tt); index_fits = tt })
        (ap (λ (z : Option ℕ). let m : BlockState = if word_or_zero z == 0 then ends (machine k fr (next (next (next (start 0)))) v3 s) (end.Trapped 9) else passes (machine k fr (next (next (next (start 0)))) v3 s) in m) has) (record { at = λ i lt. refl })
        (constant_on N a4 goal v3 s s2 1 st'.1.1.1.1.0
        (operate_on N (next a4) goal v5 s s2 op.Add sp s.active 1 (suc s.active) (omega arith) st'.1.1.1.1.1.0 (with_other v3 (sp + 1) sp 1 (λ q. omega (arith, q)) ∙ has') (with_same v3 (sp + 1) 1) (ap Ok more)
        (store_on N (next (next a4)) goal v6 s s2 (suc s.active) shapes st'.1.1.1.1.1.1.0 (with_same v5 sp (suc s.active)) (here_leads N goal v6 s2 tt)))))) st

    pub record Deeper (vars : Variables) (s : State) : Type 0 where
      pub last : BlockState
      pub comes : Comes k (machine k fr (start 0) vars s) 0 last
      pub end_is : last.end ≡ Some (end.Trapped 9)
      pub output_is : last.output ≡ s.output

    pub too_deep : (vars : Variables) (s : State) → (s.active == 256) ≡ true → map shape_of s.globals ≡ p.globals → Stands fr.code (start 0) (begin_lines (p.counter name)) → Deeper vars s
    too_deep vars s many shapes st =
        subst (λ o. Stands fr.code (start 0) (begin_lines o) → Deeper vars s) (sym c.is) (λ st'.
        let v3 : Variables = with_word (with_word (with_word vars sp s.active) (sp + 1) 256) (sp + 1) (truth_word (not (s.active == 256))) in
        let a3 : Spot = next (next (next (start 0))) in
        let x : ℕ = truth_word (not (s.active == 256)) in
        let zero' : x ≡ 0 = ap (λ (b : Bool). truth_word (not b)) many in
        let has : v3 (sp + 1) ≡ Some 0 = with_same (with_word (with_word vars sp s.active) (sp + 1) 256) (sp + 1) x ∙ ap Some zero' in
        let l = counted_test (λ v. v (sp + 1) ≡ Some 0) vars s shapes st'.0 st'.1.0 st'.1.1.0 s a3 (here_leads (λ v. v (sp + 1) ≡ Some 0) a3 v3 s has) in
        let stop : BlockState = ends (machine k fr a3 l.vars' s) (end.Trapped 9) in
        let last = comes_by k fr (fits name f fr of) a3 l.vars' s (Step (Deep (sp + 1))) stop st'.1.1.1.0 (record { reads_written = (is_some_from (l.vars' (sp + 1)) 0 l.fact, tt); index_fits = tt })
        (ap (λ (z : Option ℕ). let m : BlockState = if word_or_zero z == 0 then ends (machine k fr a3 l.vars' s) (end.Trapped 9) else passes (machine k fr a3 l.vars' s) in m) l.fact) in
        record { last = stop; comes = comes_on k (machine k fr (start 0) vars s) (machine k fr a3 l.vars' s) stop 0 1 0 (omega arith) l.comes last; end_is = refl; output_is = refl }) st

  -- ---- a call of a function with a body

  result_kept : (void : Bool) (t w i : ℕ) (vars : Variables) → i < t → with_result vars (result_in void t) w i ≡ vars i
  result_kept true t w i vars lt = refl
  result_kept false t w i vars lt = with_other vars t i w (λ e. omega (arith, e, lt))

  result_word : (void : Bool) (t w : ℕ) (vars : Variables) → void ≡ false → with_result vars (result_in void t) w t ≡ Some w
  result_word true t w vars e = absurd (false≢true (sym e))
  result_word false t w vars e = with_same vars t w

  unpure : (fr : Frame) (post : Value → State → Spot → Variables → Type 0) (m : BlockState) (fuel : ℕ) (o : Outcome Value) → Does k fr post m fuel (and_then o pure) → Does k fr post m fuel o
  unpure fr post m fuel (Gives v s1) x = x
  unpure fr post m fuel (Ends e1 out) x = x

  abbrev pub last_of : ℕ → Function → ℕ
  last_of name f = (low_list (map (low_statement (p.bindings name)) (body_of f.body))).blocks + 1

  pub index_kept : (h : Bool) (i : ℕ) (vars vars' : Variables) → vars' i ≡ vars i → index_in vars' (returned_from h i) ≡ index_in vars (returned_from h i)
  index_kept true i vars vars' e = ap word_or_zero e
  index_kept false i vars vars' e = refl

  pub written_kept : (h : Bool) (i : ℕ) (vars vars' : Variables) → vars' i ≡ vars i → AllByRecursion (λ j. IsSome (vars j)) (one_or_none (returned_from h i)) → AllByRecursion (λ j. IsSome (vars' j)) (one_or_none (returned_from h i))
  written_kept true i vars vars' e w = (subst (λ o. IsSome o) (sym e) w.0, tt)
  written_kept false i vars vars' e w = tt

  regroup : {A B C : Type 0} (o : Outcome A) (go : A → Run B) (fin : B → Run C) → and_then (and_then o go) fin ≡ and_then o (λ x s. and_then (go x s) fin)
  regroup (Gives x s) go fin = refl
  regroup (Ends e out) go fin = refl

  module _ (n a name : ℕ) (f : Function) (fr : Frame) (of : Of name f fr) (few : a ≤ 256) (deep : of.depth ≡ a) where
    abbrev here : Body
    here = body_at name (suc n) a

    -- the caller holds what it held
    holds_back : (scopes : Scopes) (void : Bool) (t w : ℕ) (s s3 : State) (vars : Variables) → here.free ≤ t → Holds here scopes s vars → s3.scopes ≡ s.scopes → map shape_of s3.globals ≡ p.globals → AreSmallGlobals s3.globals → AreSmall s3.input → s3.fuel < suc n → s3.active ≡ a → Holds here scopes s3 (with_result vars (result_in void t) w)
    holds_back scopes void t w s s3 vars le h same shapes small_g small_i below active = record {
      scopes_are = ap scope_names same ∙ h.scopes_are;
      each = λ m v e. let x = h.each m v (ap (innermost m) (sym same) ∙ e) in record { variable = x.variable; is = x.is; word = result_kept void t w x.variable vars (omega (arith, le, here.below m x.variable x.is)) ∙ x.word; typed = x.typed; small = x.small };
      shapes_are = shapes ∙ sym (p.globals_are name);
      small_globals = small_g;
      small_input = small_i;
      fuel_below = below;
      active_is = active;
    }

    module _ (called : ℕ) (g : Function) (is : function_named called items ≡ Some g) (ih : (a' : ℕ) → a' ≤ 256 → (fr' : Frame) (of' : Of called g fr') → of'.depth ≡ a' → CallsMeet k (body_at called n a') fr' (calls names items n)) (vs : List Value) (scopes : Scopes) (s : State) (at : Spot) (vars : Variables) (t : ℕ) (count : length vs ≡ length g.params) (args : ArgsAt vars t vs) (hold : Holds here scopes s vars) (le : here.free ≤ t) (line : line_at fr.code at.block at.step ≡ Some (End (Call (p.number called) (from_on (length vs) t) (result_in (is_void_type g.ty) t)))) where
      abbrev void : Bool
      void = is_void_type g.ty

      abbrev result : Option ℕ
      result = result_in void t

      abbrev fr' : Frame
      fr' = frame_of (p.number called) (p.code called) result fr at vars

      abbrev of' : Of called g fr'
      of' = record { is = is; function_is = refl; code_is = refl; depth = deeper (is_recursive items called) of.depth; room = p.enters of.depth fr name called g at vars result (from_on (length vs) t) (omega (arith, few, deep)) of.room of.function_is of.code_is is line }

      abbrev post : Value → State → Spot → Variables → Type 0
      post = ValueAt here scopes (is_unsigned_type g.ty) void t (start (at.block + 1)) vars

      abbrev words : Variables
      words = slice_get (value_words vs)

      called_comes : Comes k (machine k fr at vars s) 1 (machine k fr' (start 0) words s)
      called_comes = comes_by k fr (fits name f fr of) at vars s (End (Call (p.number called) (from_on (length vs) t) result)) (machine k fr' (start 0) words s) line (record { reads_written = args_written vars t vs args; index_fits = tt }) (ap (λ ws. machine k fr' (start 0) (slice_get ws) s) (args_words vars t vs args))

      -- the word is returned
      returns_do : (at4 : Spot) (vars4 : Variables) (s4 : State) (v : Value) → line_at fr'.code at4.block at4.step ≡ Some (End (Return (returned_from (p.has_value called) (p.free called)))) → index_in vars4 (returned_from (p.has_value called) (p.free called)) ≡ v.word → AllByRecursion (λ i. IsSome (vars4 i)) (one_or_none (returned_from (p.has_value called) (p.free called)))
          → v.is_unsigned ≡ is_unsigned_type g.ty → v.word < 2 ^ 32 → s4.scopes ≡ s.scopes → map shape_of s4.globals ≡ p.globals → AreSmallGlobals s4.globals → AreSmall s4.input → s4.fuel < suc n → s4.active ≡ a → Does k fr post (machine k fr' at4 vars4 s4) s4.fuel (Gives v s4)
      returns_do at4 vars4 s4 v is4 word written typed small same shapes small_g small_i below active =
          let back : BlockState = machine k fr (start (at.block + 1)) (with_result vars result v.word) s4 in
          let returns = comes_by k fr' (fits called g fr' of') at4 vars4 s4 (End (Return (returned_from (p.has_value called) (p.free called)))) back is4 (record { reads_written = written; index_fits = tt }) (ap (λ w. machine k fr (start (at.block + 1)) (with_result vars result w) s4) word) in
          does_later k fr post (machine k fr' at4 vars4 s4) back 1 s4.fuel (Gives v s4) returns
          (does_nothing k fr post (start (at.block + 1)) (with_result vars result v.word) s4 v (record {
            at_is = refl;
            holds = holds_back scopes void t v.word s s4 vars le hold same shapes small_g small_i below active;
            word = λ q. result_word void t v.word vars q;
            typed = typed;
            small = small;
            kept = record { at = λ i fi it. result_kept void t v.word i vars it };
          }))

      -- a function that isn't counted
      plain_call : is_recursive items called ≡ false → Does k fr post (machine k fr at vars s) s.fuel (and_then (spend s) (λ u. in_body (calls names items n) g vs))
      plain_call plain =
          let m = ih a few fr' of' (ap (λ r. deeper r of.depth) plain ∙ deep) in
          let none = p.uncounted called g is plain in
          does_spend k fr post (machine k fr at vars s) (machine k fr' (start 0) words s) s (λ u. in_body (calls names items n) g vs) called_comes refl refl
          (λ left e. let s1 : State = record s { fuel = left } in
          unpure fr post (machine k fr' (start 0) words s) left (in_body (calls names items n) g vs s1)
          (does_cross k fr fr' (BodyAt called g a s.scopes (start (last_of called g))) post (machine k fr' (start 0) words s) left (in_body (calls names items n) g vs s1) pure
          (subst (λ c. Does k fr' (BodyAt called g a s.scopes (start (last_of called g))) (machine k fr' (past (start 0) (begin_lines c)) words s1) left (in_body (calls names items n) g vs s1)) none
          (body_does called g fr' of' n a m t vars vs s1 words args count (record { fuel_below = omega (arith, e, hold.fuel_below); shapes_are = hold.shapes_are ∙ p.globals_are name; small_globals = hold.small_globals; small_input = hold.small_input; active_is = hold.active_is }) (record { at = λ i lt. refl })))
          (λ v s3 at3 vars3 h le3.
          let ends_here = subst (λ c. Stands fr'.code (start (last_of called g)) (end_lines c ++ End (Return (returned_from (p.has_value called) (p.free called))) ∷ [])) none (ending_stands called g fr' of' n a m) in
          returns_do at3 vars3 s3 v (ap (λ z. line_at fr'.code z.block z.step) h.at_is ∙ ends_here.0) h.word h.written h.typed h.small h.scopes_are h.shapes_are h.small_globals h.small_input (omega (arith, e, le3, hold.fuel_below)) h.active_is)))

      -- a recursive function
      counted_call : is_recursive items called ≡ true → (c : Bool) → (s.active == 256) ≡ c → Does k fr post (machine k fr at vars s) s.fuel (and_then (begin_if c s) (λ before s1. and_then (and_then (spend s1) (λ u. in_body (calls names items n) g vs)) (λ v s3. Gives v (record s3 { active = before }))))
      counted_call counts true many =
          let cb = p.counted_by called g is counts in
          let st = stands_front fr'.code (start 0) (begin_lines (p.counter called)) _ (p.stands called g is) in
          let d = too_deep called g fr' of' cb words s many (hold.shapes_are ∙ p.globals_are name) st in
          record { last = d.last; comes = comes_on k (machine k fr at vars s) (machine k fr' (start 0) words s) d.last 1 0 0 (omega arith) called_comes d.comes; end_is = d.end_is; output_is = d.output_is }
      counted_call counts false fewer =
          let cb = p.counted_by called g is counts in
          let is_a : s.active ≡ a = hold.active_is in
          let not_most : s.active ≡ 256 → ⊥ = eqb-false s.active 256 fewer in
          let a' : ℕ = suc s.active in
          let few' : a' ≤ 256 = omega (arith, is_a, few, not_most) in
          let m = ih a' few' fr' of' (ap (λ r. deeper r of.depth) counts ∙ ap suc (deep ∙ sym is_a)) in
          let st = stands_front fr'.code (start 0) (begin_lines (p.counter called)) _ (all_stands called g fr' of' n a' m) in
          let l = raises called g fr' of' cb words s fewer (omega (arith, is_a, few)) (hold.shapes_are ∙ p.globals_are name) st in
          let sp : State = record s { active = a' } in
          let inside : BlockState = machine k fr' (past (start 0) (begin_lines (p.counter called))) l.vars' sp in
          let last : Spot = start (last_of called g) in
          subst (λ o. Does k fr post (machine k fr at vars s) s.fuel o) (sym (regroup (spend sp) (λ u. in_body (calls names items n) g vs) (λ v s3. Gives v (record s3 { active = s.active }))))
          (does_spend k fr post (machine k fr at vars s) inside sp (λ u s1. and_then (in_body (calls names items n) g vs s1) (λ v s3. Gives v (record s3 { active = s.active }))) (comes_on k (machine k fr at vars s) (machine k fr' (start 0) words s) inside 1 0 1 (omega arith) called_comes l.comes) refl refl
          (λ left e. let s1 : State = record sp { fuel = left } in
          does_cross k fr fr' (BodyAt called g a' s.scopes last) post inside left (in_body (calls names items n) g vs s1) (λ v s3. Gives v (record s3 { active = s.active }))
          (body_does called g fr' of' n a' m t vars vs s1 l.vars' args count (record { fuel_below = omega (arith, e, hold.fuel_below); shapes_are = hold.shapes_are ∙ p.globals_are name; small_globals = hold.small_globals; small_input = hold.small_input; active_is = refl }) (record { at = λ i lt. l.kept.at i (omega (arith, lt, cb.above)) }))
          (λ v s3 at3 vars3 h le3.
          let all = ending_stands called g fr' of' n a' m in
          let low = lowers called g fr' of' cb last vars3 s3 s.active h.active_is (omega (arith, is_a, few)) h.shapes_are (stands_front fr'.code last (end_lines (p.counter called)) _ all) in
          let s4 : State = record s3 { active = s.active } in
          let at4 : Spot = past last (end_lines (p.counter called)) in
          let same : low.vars' (p.free called) ≡ vars3 (p.free called) = low.kept.at (p.free called) cb.above in
          does_later k fr post (machine k fr' at3 vars3 s3) (machine k fr' at4 low.vars' s4) 0 s3.fuel (Gives v s4) (subst (λ z. Comes k (machine k fr' z vars3 s3) 0 (machine k fr' at4 low.vars' s4)) (sym h.at_is) low.comes)
          (returns_do at4 low.vars' s4 v (stands_back fr'.code last (end_lines (p.counter called)) _ all).0 (index_kept (p.has_value called) (p.free called) vars3 low.vars' same ∙ h.word) (written_kept (p.has_value called) (p.free called) vars3 low.vars' same h.written) h.typed h.small h.scopes_are h.shapes_are h.small_globals h.small_input (omega (arith, e, le3, hold.fuel_below)) is_a))))

      function_does : (r : Bool) → is_recursive items called ≡ r → Does k fr post (machine k fr at vars s) s.fuel (enter_function (calls names items n) r (Some g) vs s)
      function_does false plain = plain_call plain
      function_does true counts = counted_call counts (s.active == 256) refl

    -- ---- `in_word` and `out_word`

    in_word_does : (vs : List Value) (scopes : Scopes) (s : State) (at : Spot) (vars : Variables) (t : ℕ) → Holds here scopes s vars → here.free ≤ t → line_at fr.code at.block at.step ≡ Some (Step (Input t)) → Does k fr (ValueAt here scopes false false t (next at) vars) (machine k fr at vars s) s.fuel (call_in_word s)
    in_word_does vs scopes s at vars t hold le line = by s.input refl
      where
        by : (l : List ℕ) → s.input ≡ l → Does k fr (ValueAt here scopes false false t (next at) vars) (machine k fr at vars s) s.fuel (and_then (next_of l s) (λ word. pure (value word false)))
        by [] e = record {
          last = ends (machine k fr at vars s) end.Starved;
          comes = let x = comes_by k fr (fits name f fr of) at vars s (Step (Input t)) (ends (machine k fr at vars s) end.Starved) line (record { reads_written = tt; index_fits = tt }) (ap (takes_in (machine k fr at vars s) t) e) in record { steps = x.steps; enough = omega arith; goes = x.goes };
          end_is = refl;
          output_is = refl;
        }
        by (w ∷ rest) e =
            let s1 : State = record s { input = rest } in
            let small : AreSmall (w ∷ rest) = subst (λ (l : List ℕ). AreSmall l) e hold.small_input in
            let h1 : Holds here scopes s1 vars = record { scopes_are = hold.scopes_are; each = hold.each; shapes_are = hold.shapes_are; small_globals = hold.small_globals; small_input = small.1; fuel_below = hold.fuel_below; active_is = hold.active_is } in
            does_line k fr (fits name f fr of) (ValueAt here scopes false false t (next at) vars) at (next at) vars (with_word vars t w) s s1 (Step (Input t)) s.fuel (Gives (value w false) s1) line (record { reads_written = tt; index_fits = tt }) (ap (takes_in (machine k fr at vars s) t) e)
            (does_nothing k fr (ValueAt here scopes false false t (next at) vars) (next at) (with_word vars t w) s1 (value w false) (value_put here scopes false false t (next at) vars vars (value w false) s1 le h1 refl small.0 (temps_here here.free t vars)))

    out_word_does : (vs : List Value) (scopes : Scopes) (s : State) (at : Spot) (vars : Variables) (t : ℕ) → length vs ≡ 1 → ArgsAt vars t vs → Holds here scopes s vars → line_at fr.code at.block at.step ≡ Some (Step (Output t)) → Does k fr (ValueAt here scopes false true t (next at) vars) (machine k fr at vars s) s.fuel (call_out_word vs s)
    out_word_does [] scopes s at vars t count args hold line = absurd (omega (arith, count))
    out_word_does (v ∷ vs) scopes s at vars t count args hold line =
        let s1 : State = record s { output = s.output ++ v.word ∷ [] } in
        does_line k fr (fits name f fr of) (ValueAt here scopes false true t (next at) vars) at (next at) vars vars s s1 (Step (Output t)) s.fuel (Gives (value 0 false) s1) line (record { reads_written = (is_some_from (vars t) v.word args.0.0, tt); index_fits = tt })
        (ap (λ (x : Option ℕ). let m : BlockState = record (passes (machine k fr at vars s)) { output = s.output ++ word_or_zero x ∷ [] } in m) args.0.0)
        (does_nothing k fr (ValueAt here scopes false true t (next at) vars) (next at) vars s1 (value 0 false) (record {
          at_is = refl;
          holds = record { scopes_are = hold.scopes_are; each = hold.each; shapes_are = hold.shapes_are; small_globals = hold.small_globals; small_input = hold.small_input; fuel_below = hold.fuel_below; active_is = hold.active_is };
          word = λ q. absurd (false≢true (sym q));
          typed = refl;
          small = omega arith;
          kept = temps_here here.free t vars;
        }))

    -- ---- whatever is called

    callee_does : (called : ℕ) (b1 b2 : Bool) (o : Option Function) → function_named called items ≡ o → ((g : Function) → function_named called items ≡ Some g → (a' : ℕ) → a' ≤ 256 → (fr' : Frame) (of' : Of called g fr') → of'.depth ≡ a' → CallsMeet k (body_at called n a') fr' (calls names items n)) → (vs : List Value) (scopes : Scopes) (s : State) (at : Spot) (vars : Variables) (t : ℕ)
        → callee_takes (if b1 then InWord else (if b2 then OutWord else defined_callee (p.number called) o)) (length vs) ≡ true → ArgsAt vars t vs → Holds here scopes s vars → here.free ≤ t → Stands fr.code at (callee_lines (if b1 then InWord else (if b2 then OutWord else defined_callee (p.number called) o)) (length vs) t)
        → Does k fr (ValueAt here scopes (callee_unsigned (if b1 then InWord else (if b2 then OutWord else defined_callee (p.number called) o))) (callee_void (if b1 then InWord else (if b2 then OutWord else defined_callee (p.number called) o))) t (past at (callee_lines (if b1 then InWord else (if b2 then OutWord else defined_callee (p.number called) o)) (length vs) t)) vars) (machine k fr at vars s) s.fuel ((if b1 then call_in_word else (if b2 then call_out_word vs else enter_function (calls names items n) (is_recursive items called) o vs)) s)
    callee_does called true b2 o is ih vs scopes s at vars t takes args hold le st = in_word_does vs scopes s at vars t hold le st.0
    callee_does called false true o is ih vs scopes s at vars t takes args hold le st = out_word_does vs scopes s at vars t (eqb-true (length vs) 1 takes) args hold st.0
    callee_does called false false None is ih vs scopes s at vars t takes args hold le st = absurd (false≢true takes)
    callee_does called false false (Some h) is ih vs scopes s at vars t takes args hold le st = function_does called h is (ih h is) vs scopes s at vars t (eqb-true (length vs) (length h.params) takes) args hold le st.0 (is_recursive items called) refl

  callee_type : (called : ℕ) → returns_unsigned (function_named called items) ≡ callee_unsigned (callee_of names items p.number called)
  callee_type called = by (called == names.in_word) (called == names.out_word) refl refl
    where
      of_found : (o : Option Function) → returns_unsigned o ≡ callee_unsigned (defined_callee (p.number called) o)
      of_found None = refl
      of_found (Some g) = refl

      by : (b1 b2 : Bool) → (called == names.in_word) ≡ b1 → (called == names.out_word) ≡ b2 → returns_unsigned (function_named called items) ≡ callee_unsigned (if b1 then InWord else (if b2 then OutWord else defined_callee (p.number called) (function_named called items)))
      by true b2 e1 e2 = ap (λ c. returns_unsigned (function_named c items)) (eqb-true called names.in_word e1) ∙ ap returns_unsigned p.no_in_word
      by false true e1 e2 = ap (λ c. returns_unsigned (function_named c items)) (eqb-true called names.out_word e2) ∙ ap returns_unsigned p.no_out_word
      by false false e1 e2 = of_found (function_named called items)

  pub meets : (n a name : ℕ) (f : Function) (fr : Frame) → a ≤ 256 → (of : Of name f fr) → of.depth ≡ a → CallsMeet k (body_at name n a) fr (calls names items n)
  meets zero a name f fr few of deep = record {
    typed = λ called. callee_type called ∙ ap callee_unsigned (sym (p.callees name called));
    call = λ called vs scopes s at vars t takes args hold le st. absurd (omega (arith, hold.fuel_below));
  }
  meets (suc n) a name f fr few of deep = record {
    typed = λ called. callee_type called ∙ ap callee_unsigned (sym (p.callees name called));
    call = λ called vs scopes s at vars t takes args hold le st.
        subst (λ y. callee_takes y (length vs) ≡ true → Stands fr.code at (callee_lines y (length vs) t) → Does k fr (ValueAt (body_at name (suc n) a) scopes (callee_unsigned y) (callee_void y) t (past at (callee_lines y (length vs) t)) vars) (machine k fr at vars s) s.fuel (call_at names items (suc n) called vs s)) (sym (p.callees name called))
        (λ takes' st'. callee_does n a name f fr of few deep called (called == names.in_word) (called == names.out_word) (function_named called items) refl (λ g is a' few' fr' of' deep'. meets n a' called g fr' few' of' deep') vs scopes s at vars t takes' args hold le st') takes st;
  }
