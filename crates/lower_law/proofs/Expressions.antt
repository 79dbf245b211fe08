-- What the lines of an expression do is what the expression means.
use Rattle.std.proofs.Common.{◌≡◌, ℕ, ◌+◌, ◌<◌, ◌≤◌, ◌^◌, Bool, true, false, not, ◌&&◌, List, [], ◌∷◌, ◌++◌, map, length, Option, Some, None, Ok, refl, sym, ap, ◌∙◌, subst, if◌then◌else◌, ◌==◌, arith}
use Rattle.std.specs.Prelude.{nat_lt}
use Rattle.std.proofs.lemmas.Bool.{ltb-true, false≢true, not-true}
use Rattle.c_meaning.specs.declared.run.Value.{Value}
use Rattle.c_meaning.specs.declared.run.EvalEnd.TheVariants.{Trapped}
use Rattle.c_syntax.specs.declared.tree.BinaryOp.{BinaryOp}
use Rattle.c_syntax.specs.declared.tree.BinaryOp.TheVariants as c
use Rattle.c_syntax.specs.declared.tree.UnaryOp.{UnaryOp}
use Rattle.c_syntax.specs.declared.tree.UnaryOp.TheVariants as unary
use Rattle.c_syntax.specs.declared.tree.Expr.{Expr, roll-Expr, map-Expr, ind-Expr, fold-roll-Expr}
use Rattle.c_syntax.specs.declared.tree.Expr.TheOpen.{Expr-F}
use Rattle.c_meaning.specs.Operators.{value, truth, is_zero, common, converted, binary_type, operand_type, operate, unary_type, operate_unary, bumped}
use Rattle.c_meaning.specs.Run.{State, Outcome, Gives, Ends, Run, and_then, ◌>>=◌, pure, lift, local_or, find_global, designated, object_type, below_length}
use Rattle.c_meaning.specs.declared.run.Place.{Place}
use Rattle.c_meaning.specs.declared.run.Place.TheVariants.{Variable, Element}
use Rattle.c_meaning.specs.Meaning.{Calls, Meaning, fetch, store, indexed, values, binary, tested, logic, choose, assign_with, bump, expression_step, expression}
use Rattle.mid_blocks.specs.declared.code.MidStep.TheVariants.{Constant, Operate, Guard}
use Rattle.mid_blocks.specs.declared.code.MidEnd.TheVariants.{Jump, Branch}
use Rattle.mid_blocks.specs.declared.code.RunEnd.TheVariants as end
use Rattle.mid_blocks.specs.Lines.{Line, Step, End, line_at}
use Rattle.mid_blocks.specs.Run.{BlockState, Variables, word_or_zero, with_word, global_in, passes, ends, goes_to, is_taken, do_line}
use Rattle.lower_rules.specs.Bindings.{GlobalShape, Bindings, Callee, Array as ArraySymbol, symbol, position, name_unsigned, callee_unsigned, callee_void, callee_takes}
use Rattle.lower_rules.specs.Scoping.{Scopes, Fit, fit_step, fitting, has_value, have_values, is_array_name}
use Rattle.lower_rules.specs.Expressions.{Target, Neither, Named, Indexed, LowExpr, plain, low_place, low_step, low, binary_lines, unary_lines, read_step, write_step, guard_step, target_symbol, beside, moved_down, test_lines, truth_lines, logic_lines, choose_lines, args_blocks, args_lines, callee_lines, callee_blocks, fetch_lines, assign_lines, assign_by_lines, assign_with_lines, bump_operation, bump_result, bump_lines}
use Rattle.lower_law.proofs.Lines.{Spot, start, past, Stands, stands_front, stands_back, past-append}
use Rattle.lower_law.proofs.Machine.{Frame, Setting, machine, Fits, Does, does_nothing, does_more}
use Rattle.lower_law.proofs.Holds.{Body, Holds, Kept, kept_with, Temps, temps_of, temps_here, temps_on, holds_kept, with_same, with_other, is_some_from, next, globals_now, AtPlace, named, indexed as element_at, place_kept, fetched, stored_at, target_unsigned, ArrayAt, array_now, symbol_array, Agree, types_agree}
use Rattle.lower_law.proofs.Values.{ValueAt, TestAt, PlaceAt, value_put, does_line, then_at, does_trap, then_constant, then_copy, then_operate, binary_does, unary_does}
use Rattle.lower_law.proofs.Operators.{is_direct}
use Rattle.c_meaning.specs.Run as run
use Rattle.mid_blocks.specs.Run as mid_run
use Rattle.lower_rules.specs.Bindings as bindings

-- ---- tests

pub both : (a b : Bool) → (a && b) ≡ true → (a ≡ true) × (b ≡ true)
both true b h = (refl, h)
both false b h = absurd (false≢true h)

pub value_fits : (f : Fit) (scopes : Scopes) → has_value f scopes ≡ true → (f.is_void ≡ false) × (f.fits scopes ≡ true)
value_fits f scopes h = let x = both (not f.is_void) (f.fits scopes) h in (not-true f.is_void x.0, x.1)

-- ---- arguments

-- the variables from t on hold the words of values
abbrev pub ArgsAt : Variables → ℕ → List Value → Type 0
ArgsAt vars t [] = Unit {0}
ArgsAt vars t (v ∷ vs) = ((vars t ≡ Some v.word) × (v.word < 2 ^ 32)) × ArgsAt vars (t + 1) vs

pub args_kept : (t u : ℕ) (vars vars' : Variables) (vs : List Value) → ((i : ℕ) → t ≤ i → vars' i ≡ vars i) → ArgsAt vars t vs → ArgsAt vars' t vs
args_kept t u vars vars' [] k h = tt
args_kept t u vars vars' (v ∷ vs) k h = ((k t (omega arith) ∙ h.0.0, h.0.1), args_kept (t + 1) u vars vars' vs (λ i le. k i (omega (arith, le))) h.1)

-- a call does what it means, where its arguments are evaluated
pub record CallsMeet (k : Setting) (b : Body) (fr : Frame) (functions : Calls) : Type 0 where
  pub typed : (name : ℕ) → functions.is_unsigned name ≡ callee_unsigned (b.names.callee name)
  pub call : (name : ℕ) (vs : List Value) (scopes : Scopes) (s : State) (at : Spot) (vars : Variables) (t : ℕ) → callee_takes (b.names.callee name) (length vs) ≡ true → ArgsAt vars t vs → Holds b scopes s vars → b.free ≤ t → Stands fr.code at (callee_lines (b.names.callee name) (length vs) t)
      → Does k fr (ValueAt b scopes (callee_unsigned (b.names.callee name)) (callee_void (b.names.callee name)) t (past at (callee_lines (b.names.callee name) (length vs) t)) vars) (machine k fr at vars s) s.fuel (functions.call name vs s)

module _ (k : Setting) (b : Body) (fr : Frame) (ok : Fits k fr) (functions : Calls) (meets : CallsMeet k b fr functions) where
  -- ---- single lines

  pub then_jump : {A : Type 0} (post : A → State → Spot → Variables → Type 0) (at : Spot) (vars : Variables) (s : State) (to fuel : ℕ) (o : Outcome A) → line_at fr.code at.block at.step ≡ Some (End (Jump to)) → Does k fr post (machine k fr (start to) vars s) fuel o → Does k fr post (machine k fr at vars s) fuel o
  then_jump post at vars s to fuel o is d = does_line k fr ok post at (start to) vars vars s s (End (Jump to)) fuel o is (record { reads_written = tt; index_fits = tt }) refl d

  branches : (at : Spot) (vars : Variables) (s : State) (t w holds_at fails_at : ℕ) (holds_next : Bool) → vars t ≡ Some w → (if holds_next then holds_at else fails_at) ≡ at.block + 1 → do_line (Some (End (Branch t (not holds_next) (if holds_next then fails_at else holds_at)))) (machine k fr at vars s) ≡ machine k fr (start (if w == 0 then fails_at else holds_at)) vars s
  branches at vars s t w holds_at fails_at true e f = ap (λ x. goes_to (machine k fr at vars s) (if word_or_zero x == 0 then fails_at else (at.block + 1))) e ∙ ap (λ n. machine k fr (start (if w == 0 then fails_at else n)) vars s) (sym f)
  branches at vars s t w holds_at fails_at false e f = ap (λ x. goes_to (machine k fr at vars s) (if not (word_or_zero x == 0) then holds_at else (at.block + 1))) e ∙ by (w == 0)
    where
      by : (z : Bool) → machine k fr (start (if not z then holds_at else (at.block + 1))) vars s ≡ machine k fr (start (if z then fails_at else holds_at)) vars s
      by true = ap (λ n. machine k fr (start n) vars s) (sym f)
      by false = refl

  then_fetch : {A : Type 0} (post : A → State → Spot → Variables → Type 0) (scopes : Scopes) (at : Spot) (vars : Variables) (s : State) (y : Target) (p : Place) (t to : ℕ) (go : Value → Run A) → Holds b scopes s vars → AtPlace b scopes vars t y p → line_at fr.code at.block at.step ≡ Some (Step (read_step (target_symbol b.names y) t to)) → ((v : Value) → v.is_unsigned ≡ target_unsigned b y → v.word < 2 ^ 32 → Does k fr post (machine k fr (next at) (with_word vars to v.word) s) s.fuel (go v s)) → Does k fr post (machine k fr at vars s) s.fuel (and_then (fetch p s) go)
  then_fetch post scopes at vars s y p t to go h a is f =
      let x = fetched k b scopes s vars y p t to h a in
      subst (λ o. Does k fr post (machine k fr at vars s) s.fuel (and_then o go)) (sym x.gives)
      (does_line k fr ok post at (next at) vars (with_word vars to x.value.word) s s (Step (read_step (target_symbol b.names y) t to)) s.fuel (go x.value s) is x.reads.proper (x.reads.does fr at) (f x.value x.typed x.small))

  then_store : {A : Type 0} (post : A → State → Spot → Variables → Type 0) (scopes : Scopes) (at : Spot) (vars : Variables) (s : State) (y : Target) (p : Place) (t from w : ℕ) (go : Value → Run A) → Holds b scopes s vars → AtPlace b scopes vars t y p → vars from ≡ Some w → w < 2 ^ 32 → line_at fr.code at.block at.step ≡ Some (Step (write_step (target_symbol b.names y) t from))
      → ((v : Value) (s' : State) (vars' : Variables) → v.word ≡ w → v.is_unsigned ≡ target_unsigned b y → Holds b scopes s' vars' → ((i : ℕ) → b.free ≤ i → vars' i ≡ vars i) → Does k fr post (machine k fr (next at) vars' s') s'.fuel (go v s')) → Does k fr post (machine k fr at vars s) s.fuel (and_then (store p w s) go)
  then_store post scopes at vars s y p t from w go h a e lt is f =
      let x = stored_at k b scopes s vars y p t from w h a e lt in
      subst (λ o. Does k fr post (machine k fr at vars s) s.fuel (and_then o go)) (sym x.gives)
      (does_line k fr ok post at (next at) vars x.vars' s x.after (Step (write_step (target_symbol b.names y) t from)) s.fuel (go x.value x.after) is x.writes.proper (x.writes.does fr at)
      (subst (λ n. Does k fr post (machine k fr (next at) x.vars' x.after) n (go x.value x.after)) x.fuel_is (f x.value x.after x.vars' x.word_is x.typed x.holds x.kept)))

  -- ---- what is shown of an expression

  pub record Follows (x : Meaning) (l : LowExpr) (f : Fit) : Type 0 where
    pub same_void : l.is_void ≡ f.is_void
    pub typed : (scopes : Scopes) (types : ℕ → Bool) → Agree b scopes types → f.fits scopes ≡ true → x.is_unsigned types functions.is_unsigned ≡ l.is_unsigned
    pub place_typed : f.is_place ≡ true → target_unsigned b l.target ≡ l.is_unsigned
    pub value_ends : (at : Spot) (n t : ℕ) → at.block ≡ n → (past at (l.value n t)).block ≡ n + l.blocks
    pub value : (scopes : Scopes) (s : State) (at : Spot) (vars : Variables) (n t : ℕ) → at.block ≡ n → f.fits scopes ≡ true → Holds b scopes s vars → b.free ≤ t → Stands fr.code at (l.value n t)
        → Does k fr (ValueAt b scopes l.is_unsigned l.is_void t (past at (l.value n t)) vars) (machine k fr at vars s) s.fuel (x.value functions s)
    pub condition_ends : (at : Spot) (n t holds_at fails_at : ℕ) (holds_next : Bool) → at.block ≡ n → past at (l.condition n t holds_at fails_at holds_next) ≡ start (n + l.condition_blocks)
    pub condition : (scopes : Scopes) (s : State) (at : Spot) (vars : Variables) (n t holds_at fails_at : ℕ) (holds_next : Bool) → at.block ≡ n → f.fits scopes ≡ true → f.is_void ≡ false → Holds b scopes s vars → b.free ≤ t → (if holds_next then holds_at else fails_at) ≡ n + l.condition_blocks → Stands fr.code at (l.condition n t holds_at fails_at holds_next)
        → Does k fr (TestAt b scopes t holds_at fails_at vars) (machine k fr at vars s) s.fuel (x.value functions s)
    pub place_ends : (at : Spot) (n t : ℕ) → at.block ≡ n → (past at (l.place n t)).block ≡ n + l.place_blocks
    pub place : (scopes : Scopes) (s : State) (at : Spot) (vars : Variables) (n t : ℕ) → at.block ≡ n → f.is_place ≡ true → f.fits scopes ≡ true → Holds b scopes s vars → b.free ≤ t → Stands fr.code at (l.place n t)
        → Does k fr (PlaceAt b scopes t l.target (past at (l.place n t)) vars) (machine k fr at vars s) s.fuel (x.place functions s)

  -- ---- a value that is tested

  test_ends : (value : ℕ → ℕ → List Line) (blocks : ℕ) (at : Spot) (n t holds_at fails_at : ℕ) (holds_next : Bool) → (past at (value n t)).block ≡ n + blocks → past at (test_lines value n t holds_at fails_at holds_next) ≡ start (n + (blocks + 1))
  test_ends value blocks at n t holds_at fails_at holds_next e =
      let g : (past at (value n t)).block + 1 ≡ n + (blocks + 1) = omega (arith, e) in
      past-append at (value n t) (End (Branch t (not holds_next) (if holds_next then fails_at else holds_at)) ∷ []) ∙ ap start g

  test_does : (m : Run Value) (value : ℕ → ℕ → List Line) (blocks : ℕ) (u : Bool) (scopes : Scopes) (s : State) (at : Spot) (vars : Variables) (n t holds_at fails_at : ℕ) (holds_next : Bool) → (past at (value n t)).block ≡ n + blocks → (if holds_next then holds_at else fails_at) ≡ n + (blocks + 1) → Stands fr.code at (test_lines value n t holds_at fails_at holds_next)
      → (Stands fr.code at (value n t) → Does k fr (ValueAt b scopes u false t (past at (value n t)) vars) (machine k fr at vars s) s.fuel (m s))
      → Does k fr (TestAt b scopes t holds_at fails_at vars) (machine k fr at vars s) s.fuel (m s)
  test_does m value blocks u scopes s at vars n t holds_at fails_at holds_next e f st d =
      let last : List Line = End (Branch t (not holds_next) (if holds_next then fails_at else holds_at)) ∷ [] in
      let back = stands_back fr.code at (value n t) last st in
      let post = TestAt b scopes t holds_at fails_at vars in
      tested_after (m s) (then_at k fr ok (ValueAt b scopes u false t (past at (value n t)) vars) (λ v. past at (value n t)) (λ v s1 at1 vars1 h. h.at_is) post (machine k fr at vars s) s.fuel (m s) pure (d (stands_front fr.code at (value n t) last st))
      (λ v s1 vars1 h.
      does_line k fr ok post (past at (value n t)) (start (if v.word == 0 then fails_at else holds_at)) vars1 vars1 s1 s1 (End (Branch t (not holds_next) (if holds_next then fails_at else holds_at))) s1.fuel (Gives v s1) back.0
      (record { reads_written = (is_some_from (vars1 t) v.word (h.word refl), tt); index_fits = tt })
      (branches (past at (value n t)) vars1 s1 t v.word holds_at fails_at holds_next (h.word refl) (omega (arith, e, f)))
      (does_nothing k fr post (start (if v.word == 0 then fails_at else holds_at)) vars1 s1 v (record { at_is = refl; holds = h.holds; kept = h.kept }))))
    where
      tested_after : (o : Outcome Value) → Does k fr (TestAt b scopes t holds_at fails_at vars) (machine k fr at vars s) s.fuel (and_then o pure) → Does k fr (TestAt b scopes t holds_at fails_at vars) (machine k fr at vars s) s.fuel o
      tested_after (Gives v s1) x = x
      tested_after (Ends e1 out) x = x

  -- ---- a condition that makes a value, and parts of it

  abbrev pub IsTruth : Value → Type 0
  IsTruth v = (t : Bool) × (v ≡ truth t)

  pub record TruthAt (scopes : Scopes) (t holds_at fails_at : ℕ) (before : Variables) (v : Value) (s : State) (at : Spot) (vars : Variables) : Type 0 where
    tested : TestAt b scopes t holds_at fails_at before v s at vars
    is_truth : IsTruth v

  logic_ends : (is_and : Bool) (left right : LowExpr) → ((at : Spot) (n t h f : ℕ) (next : Bool) → at.block ≡ n → past at (left.condition n t h f next) ≡ start (n + left.condition_blocks)) → ((at : Spot) (n t h f : ℕ) (next : Bool) → at.block ≡ n → past at (right.condition n t h f next) ≡ start (n + right.condition_blocks))
      → (at : Spot) (n t h f : ℕ) (next : Bool) → at.block ≡ n → past at (logic_lines is_and left right n t h f next) ≡ start (n + (left.condition_blocks + right.condition_blocks))
  logic_ends true left right p q at n t h f nx e =
      let m : ℕ = n + left.condition_blocks in
      let g : m + right.condition_blocks ≡ n + (left.condition_blocks + right.condition_blocks) = omega arith in
      past-append at (left.condition n t m f true) (right.condition m t h f nx) ∙ ap (λ z. past z (right.condition m t h f nx)) (p at n t m f true e) ∙ q (start m) m t h f nx refl ∙ ap start g
  logic_ends false left right p q at n t h f nx e =
      let m : ℕ = n + left.condition_blocks in
      let g : m + right.condition_blocks ≡ n + (left.condition_blocks + right.condition_blocks) = omega arith in
      past-append at (left.condition n t h m false) (right.condition m t h f nx) ∙ ap (λ z. past z (right.condition m t h f nx)) (p at n t h m false e) ∙ q (start m) m t h f nx refl ∙ ap start g

  zero_of_truth : (d : Bool) → is_zero (truth d) ≡ not d
  zero_of_truth true = refl
  zero_of_truth false = refl

  not_not : (d : Bool) → not (not d) ≡ d
  not_not true = refl
  not_not false = refl

  -- a truth, where the machine stands already where it leads
  truth_here : (scopes : Scopes) (t h f : ℕ) (before vars : Variables) (s : State) (d : Bool) → Holds b scopes s vars → Temps b.free t before vars → Does k fr (TruthAt scopes t h f before) (machine k fr (start (if d then h else f)) vars s) s.fuel (Gives (truth d) s)
  truth_here scopes t h f before vars s d hold kept = does_nothing k fr (TruthAt scopes t h f before) (start (if d then h else f)) vars s (truth d) (record {
    tested = record { at_is = by d; holds = hold; kept = kept };
    is_truth = (d, refl);
  })
    where
      by : (d' : Bool) → start (if d' then h else f) ≡ start (if is_zero (truth d') then f else h)
      by true = refl
      by false = refl

  -- the right operand decides
  right_decides : (x : Meaning) (l : LowExpr) (fi : Fit) → Follows x l fi → (scopes : Scopes) (s : State) (before vars : Variables) (n t h f : ℕ) (nx : Bool) → fi.fits scopes ≡ true → fi.is_void ≡ false → Holds b scopes s vars → Temps b.free t before vars → b.free ≤ t → (if nx then h else f) ≡ n + l.condition_blocks → Stands fr.code (start n) (l.condition n t h f nx) → Does k fr (TruthAt scopes t h f before) (machine k fr (start n) vars s) s.fuel (tested (x.value functions) s)
  right_decides x l fi p scopes s before vars n t h f nx fits not_void hold kept le falls st =
      then_at k fr ok (TestAt b scopes t h f vars) (λ y. start (if is_zero y then f else h)) (λ v s1 at1 vars1 z. z.at_is) (TruthAt scopes t h f before) (machine k fr (start n) vars s) s.fuel (x.value functions s) (λ y. pure (truth (not (is_zero y))))
      (p.condition scopes s (start n) vars n t h f nx refl fits not_void hold le falls st)
      (λ y s1 vars1 z. by y (is_zero y) s1 vars1 (temps_on b.free t t before vars vars1 (omega arith) kept z.kept) z.holds)
    where
      by : (y : Value) (d : Bool) (s1 : State) (vars1 : Variables) → Temps b.free t before vars1 → Holds b scopes s1 vars1 → Does k fr (TruthAt scopes t h f before) (machine k fr (start (if d then f else h)) vars1 s1) s1.fuel (Gives (truth (not d)) s1)
      by y true s1 vars1 kp z = truth_here scopes t h f before vars1 s1 false z kp
      by y false s1 vars1 kp z = truth_here scopes t h f before vars1 s1 true z kp

  logic_does : (is_and : Bool) (x1 x2 : Meaning) (l1 l2 : LowExpr) (f1 f2 : Fit) → Follows x1 l1 f1 → Follows x2 l2 f2 → (scopes : Scopes) (s : State) (at : Spot) (vars : Variables) (n t h f : ℕ) (nx : Bool) → at.block ≡ n → f1.fits scopes ≡ true → f1.is_void ≡ false → f2.fits scopes ≡ true → f2.is_void ≡ false → Holds b scopes s vars → b.free ≤ t → (if nx then h else f) ≡ n + (l1.condition_blocks + l2.condition_blocks) → Stands fr.code at (logic_lines is_and l1 l2 n t h f nx)
      → Does k fr (TruthAt scopes t h f vars) (machine k fr at vars s) s.fuel (logic is_and (x1.value functions) (x2.value functions) s)
  logic_does true x1 x2 l1 l2 f1 f2 p1 p2 scopes s at vars n t h f nx e fit1 v1 fit2 v2 hold le falls st =
      let m : ℕ = n + l1.condition_blocks in
      let left : List Line = l1.condition n t m f true in
      let right : List Line = l2.condition m t h f nx in
      let st2 = subst (λ z. Stands fr.code z right) (p1.condition_ends at n t m f true e) (stands_back fr.code at left right st) in
      let falls2 : (if nx then h else f) ≡ m + l2.condition_blocks = omega (arith, falls) in
      then_at k fr ok (TestAt b scopes t m f vars) (λ y. start (if is_zero y then f else m)) (λ v s1 at1 vars1 z. z.at_is) (TruthAt scopes t h f vars) (machine k fr at vars s) s.fuel (x1.value functions s) (λ y. if is_zero y then pure (truth false) else tested (x2.value functions))
      (p1.condition scopes s at vars n t m f true e fit1 v1 hold le refl (stands_front fr.code at left right st))
      (λ y s1 vars1 z. by st2 falls2 y (is_zero y) s1 vars1 z.kept z.holds)
    where
      by : Stands fr.code (start (n + l1.condition_blocks)) (l2.condition (n + l1.condition_blocks) t h f nx) → (if nx then h else f) ≡ n + l1.condition_blocks + l2.condition_blocks → (y : Value) (d : Bool) (s1 : State) (vars1 : Variables) → Temps b.free t vars vars1 → Holds b scopes s1 vars1 → Does k fr (TruthAt scopes t h f vars) (machine k fr (start (if d then f else (n + l1.condition_blocks))) vars1 s1) s1.fuel ((if d then pure (truth false) else tested (x2.value functions)) s1)
      by st2 falls2 y true s1 vars1 kp z = truth_here scopes t h f vars vars1 s1 false z kp
      by st2 falls2 y false s1 vars1 kp z = right_decides x2 l2 f2 p2 scopes s1 vars vars1 (n + l1.condition_blocks) t h f nx fit2 v2 z kp le falls2 st2
  logic_does false x1 x2 l1 l2 f1 f2 p1 p2 scopes s at vars n t h f nx e fit1 v1 fit2 v2 hold le falls st =
      let m : ℕ = n + l1.condition_blocks in
      let left : List Line = l1.condition n t h m false in
      let right : List Line = l2.condition m t h f nx in
      let st2 = subst (λ z. Stands fr.code z right) (p1.condition_ends at n t h m false e) (stands_back fr.code at left right st) in
      let falls2 : (if nx then h else f) ≡ m + l2.condition_blocks = omega (arith, falls) in
      then_at k fr ok (TestAt b scopes t h m vars) (λ y. start (if is_zero y then m else h)) (λ v s1 at1 vars1 z. z.at_is) (TruthAt scopes t h f vars) (machine k fr at vars s) s.fuel (x1.value functions s) (λ y. if is_zero y then tested (x2.value functions) else pure (truth true))
      (p1.condition scopes s at vars n t h m false e fit1 v1 hold le refl (stands_front fr.code at left right st))
      (λ y s1 vars1 z. by st2 falls2 y (is_zero y) s1 vars1 z.kept z.holds)
    where
      by : Stands fr.code (start (n + l1.condition_blocks)) (l2.condition (n + l1.condition_blocks) t h f nx) → (if nx then h else f) ≡ n + l1.condition_blocks + l2.condition_blocks → (y : Value) (d : Bool) (s1 : State) (vars1 : Variables) → Temps b.free t vars vars1 → Holds b scopes s1 vars1 → Does k fr (TruthAt scopes t h f vars) (machine k fr (start (if d then (n + l1.condition_blocks) else h)) vars1 s1) s1.fuel ((if d then tested (x2.value functions) else pure (truth true)) s1)
      by st2 falls2 y true s1 vars1 kp z = right_decides x2 l2 f2 p2 scopes s1 vars vars1 (n + l1.condition_blocks) t h f nx fit2 v2 z kp le falls2 st2
      by st2 falls2 y false s1 vars1 kp z = truth_here scopes t h f vars vars1 s1 true z kp

  -- 1 or 0 by a condition
  truth_ends : (blocks : ℕ) (condition : ℕ → ℕ → ℕ → ℕ → Bool → List Line) → (at : Spot) (n t : ℕ) → past at (condition n t (n + blocks) (n + blocks + 1) true) ≡ start (n + blocks) → past at (truth_lines blocks condition n t) ≡ start (n + (blocks + 2))
  truth_ends blocks condition at n t e =
      let g : n + blocks + 1 + 1 ≡ n + (blocks + 2) = omega arith in
      let rest : List Line = Step (Constant t 1) ∷ End (Jump (n + blocks + 2)) ∷ Step (Constant t 0) ∷ End (Jump (n + blocks + 2)) ∷ [] in
      past-append at (condition n t (n + blocks) (n + blocks + 1) true) rest ∙ ap (λ z. past z rest) e ∙ ap start g

  truth_does : (m : Run Value) (blocks : ℕ) (condition : ℕ → ℕ → ℕ → ℕ → Bool → List Line) (scopes : Scopes) (s : State) (at : Spot) (vars : Variables) (n t : ℕ) → b.free ≤ t → past at (condition n t (n + blocks) (n + blocks + 1) true) ≡ start (n + blocks) → Stands fr.code at (truth_lines blocks condition n t)
      → (Stands fr.code at (condition n t (n + blocks) (n + blocks + 1) true) → Does k fr (TruthAt scopes t (n + blocks) (n + blocks + 1) vars) (machine k fr at vars s) s.fuel (m s))
      → Does k fr (ValueAt b scopes false false t (past at (truth_lines blocks condition n t)) vars) (machine k fr at vars s) s.fuel (m s)
  truth_does m blocks condition scopes s at vars n t le e st d =
      let rest : List Line = Step (Constant t 1) ∷ End (Jump (n + blocks + 2)) ∷ Step (Constant t 0) ∷ End (Jump (n + blocks + 2)) ∷ [] in
      let front : List Line = condition n t (n + blocks) (n + blocks + 1) true in
      let back = subst (λ z. Stands fr.code z rest) e (stands_back fr.code at front rest st) in
      let post = ValueAt b scopes false false t (past at (truth_lines blocks condition n t)) vars in
      let goal : start (n + blocks + 2) ≡ past at (truth_lines blocks condition n t) = let g : n + blocks + 2 ≡ n + (blocks + 2) = omega arith in ap start g ∙ sym (truth_ends blocks condition at n t e) in
      unpure (m s) (then_at k fr ok (TruthAt scopes t (n + blocks) (n + blocks + 1) vars) (λ v. start (if is_zero v then (n + blocks + 1) else (n + blocks))) (λ v s1 at1 vars1 h. h.tested.at_is) post (machine k fr at vars s) s.fuel (m s) pure (d (stands_front fr.code at front rest st))
      (λ v s1 vars1 h. subst (λ z. Does k fr post (machine k fr (start (if is_zero z then (n + blocks + 1) else (n + blocks))) vars1 s1) s1.fuel (Gives z s1)) (sym h.is_truth.1) (by back goal h.is_truth.0 s1 vars1 h.tested.holds h.tested.kept)))
    where
      unpure : (o : Outcome Value) → Does k fr (ValueAt b scopes false false t (past at (truth_lines blocks condition n t)) vars) (machine k fr at vars s) s.fuel (and_then o pure) → Does k fr (ValueAt b scopes false false t (past at (truth_lines blocks condition n t)) vars) (machine k fr at vars s) s.fuel o
      unpure (Gives v s1) x = x
      unpure (Ends e1 out) x = x

      made : start (n + blocks + 2) ≡ past at (truth_lines blocks condition n t) → (w : ℕ) (s1 : State) (vars1 : Variables) → w < 2 ^ 32 → Holds b scopes s1 vars1 → Temps b.free t vars vars1 → Does k fr (ValueAt b scopes false false t (past at (truth_lines blocks condition n t)) vars) (machine k fr (start (n + blocks + 2)) (with_word vars1 t w) s1) s1.fuel (Gives (value w false) s1)
      made goal w s1 vars1 lt h kp = subst (λ z. Does k fr (ValueAt b scopes false false t z vars) (machine k fr (start (n + blocks + 2)) (with_word vars1 t w) s1) s1.fuel (Gives (value w false) s1)) goal
          (does_nothing k fr (ValueAt b scopes false false t (start (n + blocks + 2)) vars) (start (n + blocks + 2)) (with_word vars1 t w) s1 (value w false) (value_put b scopes false false t (start (n + blocks + 2)) vars vars1 (value w false) s1 le h refl lt kp))

      by : Stands fr.code (start (n + blocks)) (Step (Constant t 1) ∷ End (Jump (n + blocks + 2)) ∷ Step (Constant t 0) ∷ End (Jump (n + blocks + 2)) ∷ []) → start (n + blocks + 2) ≡ past at (truth_lines blocks condition n t) → (d : Bool) (s1 : State) (vars1 : Variables) → Holds b scopes s1 vars1 → Temps b.free t vars vars1
          → Does k fr (ValueAt b scopes false false t (past at (truth_lines blocks condition n t)) vars) (machine k fr (start (if is_zero (truth d) then (n + blocks + 1) else (n + blocks))) vars1 s1) s1.fuel (Gives (truth d) s1)
      by back goal true s1 vars1 h kp =
          let post = ValueAt b scopes false false t (past at (truth_lines blocks condition n t)) vars in
          then_constant k fr ok post (start (n + blocks)) vars1 s1 t 1 s1.fuel (Gives (truth true) s1) back.0
          (then_jump post (next (start (n + blocks))) (with_word vars1 t 1) s1 (n + blocks + 2) s1.fuel (Gives (truth true) s1) back.1.0 (made goal 1 s1 vars1 (omega arith) h kp))
      by back goal false s1 vars1 h kp =
          let post = ValueAt b scopes false false t (past at (truth_lines blocks condition n t)) vars in
          then_constant k fr ok post (start (n + blocks + 1)) vars1 s1 t 0 s1.fuel (Gives (truth false) s1) back.1.1.0
          (then_jump post (next (start (n + blocks + 1))) (with_word vars1 t 0) s1 (n + blocks + 2) s1.fuel (Gives (truth false) s1) back.1.1.1.0 (made goal 0 s1 vars1 (omega arith) h kp))

  -- ---- `?:`

  choose_ends : (lt la lb : LowExpr) (at : Spot) (n t : ℕ) → past at (lt.condition n t (n + lt.condition_blocks) (n + lt.condition_blocks + la.blocks + 1) true) ≡ start (n + lt.condition_blocks) → ((m : ℕ) → (past (start m) (la.value m t)).block ≡ m + la.blocks) → ((m : ℕ) → (past (start m) (lb.value m t)).block ≡ m + lb.blocks)
      → (past (start (n + lt.condition_blocks)) (la.value (n + lt.condition_blocks) t ++ (End (Jump (n + lt.condition_blocks + la.blocks + 1 + lb.blocks + 1)) ∷ [])) ≡ start (n + lt.condition_blocks + la.blocks + 1)) × (past at (choose_lines lt la lb n t) ≡ start (n + lt.condition_blocks + la.blocks + 1 + lb.blocks + 1))
  choose_ends lt la lb at n t e pa pb =
      let yes_at : ℕ = n + lt.condition_blocks in
      let no_at : ℕ = yes_at + la.blocks + 1 in
      let join : ℕ = no_at + lb.blocks + 1 in
      let test : List Line = lt.condition n t yes_at no_at true in
      let tail : List Line = lb.value no_at t ++ End (Jump join) ∷ [] in
      let first : past (start yes_at) (la.value yes_at t ++ (End (Jump join) ∷ [])) ≡ start no_at = past-append (start yes_at) (la.value yes_at t) (End (Jump join) ∷ []) ∙ ap (λ m. start (m + 1)) (pa yes_at) in
      let second : past (start no_at) tail ≡ start join = past-append (start no_at) (lb.value no_at t) (End (Jump join) ∷ []) ∙ ap (λ m. start (m + 1)) (pb no_at) in (
        first,
        past-append at test (la.value yes_at t ++ (End (Jump join) ∷ tail)) ∙ ap (λ z. past z (la.value yes_at t ++ (End (Jump join) ∷ tail))) e
            ∙ past-append (start yes_at) (la.value yes_at t) (End (Jump join) ∷ tail) ∙ ap (λ m. past (start (m + 1)) tail) (pa yes_at) ∙ second,
      )

  choose_does : (is_unsigned : (ℕ → Bool) → Bool) (xt xa xb : Meaning) (lt la lb : LowExpr) (ft fa fb : Fit) → Follows xt lt ft → Follows xa la fa → Follows xb lb fb → (scopes : Scopes) (s : State) (at : Spot) (vars : Variables) (n t : ℕ) → at.block ≡ n → ft.fits scopes ≡ true → ft.is_void ≡ false → fa.fits scopes ≡ true → fa.is_void ≡ false → fb.fits scopes ≡ true → fb.is_void ≡ false → ((types : ℕ → Bool) → Agree b scopes types → is_unsigned types ≡ common la.is_unsigned lb.is_unsigned) → Holds b scopes s vars → b.free ≤ t → Stands fr.code at (choose_lines lt la lb n t)
      → Does k fr (ValueAt b scopes (common la.is_unsigned lb.is_unsigned) false t (past at (choose_lines lt la lb n t)) vars) (machine k fr at vars s) s.fuel (choose is_unsigned (xt.value functions) (xa.value functions) (xb.value functions) s)
  choose_does is_unsigned xt xa xb lt la lb ft fa fb pt pa pb scopes s at vars n t e fit_t vt fit_a va fit_b vb types hold le st =
      let yes_at : ℕ = n + lt.condition_blocks in
      let no_at : ℕ = yes_at + la.blocks + 1 in
      let join : ℕ = no_at + lb.blocks + 1 in
      let test : List Line = lt.condition n t yes_at no_at true in
      let tail : List Line = lb.value no_at t ++ End (Jump join) ∷ [] in
      let rest : List Line = la.value yes_at t ++ (End (Jump join) ∷ tail) in
      let ends_t = pt.condition_ends at n t yes_at no_at true e in
      let all = choose_ends lt la lb at n t ends_t (λ m. pa.value_ends (start m) m t refl) (λ m. pb.value_ends (start m) m t refl) in
      let st1 = subst (λ z. Stands fr.code z rest) ends_t (stands_back fr.code at test rest st) in
      let st_a = stands_front fr.code (start yes_at) (la.value yes_at t) (End (Jump join) ∷ tail) st1 in
      let st2 = stands_back fr.code (start yes_at) (la.value yes_at t) (End (Jump join) ∷ tail) st1 in
      let to_no : past (past (start yes_at) (la.value yes_at t)) (End (Jump join) ∷ []) ≡ start no_at = ap (λ m. start (m + 1)) (pa.value_ends (start yes_at) yes_at t refl) in
      let st_tail = subst (λ z. Stands fr.code z tail) to_no st2.1 in
      let st_b = stands_front fr.code (start no_at) (lb.value no_at t) (End (Jump join) ∷ []) st_tail in
      let st_j = stands_back fr.code (start no_at) (lb.value no_at t) (End (Jump join) ∷ []) st_tail in
      let goal : start join ≡ past at (choose_lines lt la lb n t) = sym all.1 in
      let post = ValueAt b scopes (common la.is_unsigned lb.is_unsigned) false t (past at (choose_lines lt la lb n t)) vars in
      then_at k fr ok (TestAt b scopes t yes_at no_at vars) (λ y. start (if is_zero y then no_at else yes_at)) (λ v s1 at1 vars1 z. z.at_is) post (machine k fr at vars s) s.fuel (xt.value functions s)
      (λ y s1. and_then ((if is_zero y then xb.value functions else xa.value functions) s1) (λ v. pure (converted (is_unsigned (λ name. object_type (designated name s1))) v)))
      (pt.condition scopes s at vars n t yes_at no_at true e fit_t vt hold le refl (stands_front fr.code at test rest st))
      (λ y s1 vars1 z. by (is_zero y) s1 vars1 z.holds z.kept
      (arm xb lb fb pb no_at s1 vars1 z.holds z.kept vb fit_b (types (λ name. object_type (designated name s1)) (types_agree k b scopes s1 vars1 z.holds)) goal st_b st_j.0)
      (arm xa la fa pa yes_at s1 vars1 z.holds z.kept va fit_a (types (λ name. object_type (designated name s1)) (types_agree k b scopes s1 vars1 z.holds)) goal st_a st2.0))
    where
      -- an arm, and the jump behind it
      arm : (x : Meaning) (l : LowExpr) (f : Fit) → Follows x l f → (m : ℕ) (s1 : State) (vars1 : Variables) → Holds b scopes s1 vars1 → Temps b.free t vars vars1 → f.is_void ≡ false → f.fits scopes ≡ true → is_unsigned (λ name. object_type (designated name s1)) ≡ common la.is_unsigned lb.is_unsigned → {join : ℕ} → start join ≡ past at (choose_lines lt la lb n t) → Stands fr.code (start m) (l.value m t) → line_at fr.code (past (start m) (l.value m t)).block (past (start m) (l.value m t)).step ≡ Some (End (Jump join))
          → Does k fr (ValueAt b scopes (common la.is_unsigned lb.is_unsigned) false t (past at (choose_lines lt la lb n t)) vars) (machine k fr (start m) vars1 s1) s1.fuel (and_then (x.value functions s1) (λ v. pure (converted (is_unsigned (λ name. object_type (designated name s1))) v)))
      arm x l f p m s1 vars1 h kp not_void fits type {join} goal st_v is =
          let u : Bool = is_unsigned (λ name. object_type (designated name s1)) in
          let post = ValueAt b scopes (common la.is_unsigned lb.is_unsigned) false t (past at (choose_lines lt la lb n t)) vars in
          then_at k fr ok (ValueAt b scopes l.is_unsigned l.is_void t (past (start m) (l.value m t)) vars1) (λ v. past (start m) (l.value m t)) (λ v s2 at2 vars2 z. z.at_is) post (machine k fr (start m) vars1 s1) s1.fuel (x.value functions s1) (λ v. pure (converted u v))
          (p.value scopes s1 (start m) vars1 m t refl fits h le st_v)
          (λ v s2 vars2 z. then_jump post (past (start m) (l.value m t)) vars2 s2 join s2.fuel (Gives (converted u v) s2) is
          (does_nothing k fr post (start join) vars2 s2 (converted u v) (record { at_is = goal; holds = z.holds; word = λ q. z.word (p.same_void ∙ not_void); typed = type; small = z.small; kept = temps_on b.free t t vars vars1 vars2 (omega arith) kp z.kept })))

      by : (d : Bool) (s1 : State) (vars1 : Variables) → Holds b scopes s1 vars1 → Temps b.free t vars vars1
          → Does k fr (ValueAt b scopes (common la.is_unsigned lb.is_unsigned) false t (past at (choose_lines lt la lb n t)) vars) (machine k fr (start (n + lt.condition_blocks + la.blocks + 1)) vars1 s1) s1.fuel (and_then (xb.value functions s1) (λ v. pure (converted (is_unsigned (λ name. object_type (designated name s1))) v)))
          → Does k fr (ValueAt b scopes (common la.is_unsigned lb.is_unsigned) false t (past at (choose_lines lt la lb n t)) vars) (machine k fr (start (n + lt.condition_blocks)) vars1 s1) s1.fuel (and_then (xa.value functions s1) (λ v. pure (converted (is_unsigned (λ name. object_type (designated name s1))) v)))
          → Does k fr (ValueAt b scopes (common la.is_unsigned lb.is_unsigned) false t (past at (choose_lines lt la lb n t)) vars) (machine k fr (start (if d then (n + lt.condition_blocks + la.blocks + 1) else (n + lt.condition_blocks))) vars1 s1) s1.fuel (and_then ((if d then xb.value functions else xa.value functions) s1) (λ v. pure (converted (is_unsigned (λ name. object_type (designated name s1))) v)))
      by true s1 vars1 h kp on_b on_a = on_b
      by false s1 vars1 h kp on_b on_a = on_a

  -- ---- arguments and calls

  abbrev pub Part : Type 0
  Part = (e : Expr) × Follows (expression e) (low b.names e) (fitting b.names e)

  abbrev exprs : List Part → List Expr
  exprs es = map (λ e. e.0) es

  abbrev lows : List Part → List LowExpr
  lows es = map (low b.names) (exprs es)

  abbrev fits_of : List Part → List Fit
  fits_of es = map (fitting b.names) (exprs es)

  pub record ArgsDone (scopes : Scopes) (t count : ℕ) (goal : Spot) (before : Variables) (vs : List Value) (s : State) (at : Spot) (vars : Variables) : Type 0 where
    pub at_is : at ≡ goal
    pub holds : Holds b scopes s vars
    pub args : ArgsAt vars t vs
    pub count_is : length vs ≡ count
    pub kept : Temps b.free t before vars

  args_ends : (es : List Part) (at : Spot) (n t : ℕ) → at.block ≡ n → (past at (args_lines (lows es) n t)).block ≡ n + args_blocks (lows es)
  args_ends [] at n t e = omega (arith, e)
  args_ends (x ∷ es) at n t e =
      let l : LowExpr = low b.names x.0 in
      let first = x.1.value_ends at n t e in
      let rest = args_ends es (past at (l.value n t)) (n + l.blocks) (t + 1) first in
      ap (λ z. z.block) (past-append at (l.value n t) (args_lines (lows es) (n + l.blocks) (t + 1))) ∙ rest ∙ (let g : n + l.blocks + args_blocks (lows es) ≡ n + (l.blocks + args_blocks (lows es)) = omega arith in g)

  args_do : (es : List Part) (scopes : Scopes) (s : State) (at : Spot) (vars : Variables) (n t : ℕ) → at.block ≡ n → have_values (fits_of es) scopes ≡ true → Holds b scopes s vars → b.free ≤ t → Stands fr.code at (args_lines (lows es) n t)
      → Does k fr (ArgsDone scopes t (length es) (past at (args_lines (lows es) n t)) vars) (machine k fr at vars s) s.fuel (values (map (λ e. e.value functions) (map expression (exprs es))) s)
  args_do [] scopes s at vars n t e fit h le st = does_nothing k fr (ArgsDone scopes t 0 at vars) at vars s [] (record { at_is = refl; holds = h; args = tt; count_is = refl; kept = temps_here b.free t vars })
  args_do (x ∷ es) scopes s at vars n t e fit h le st =
      let l : LowExpr = low b.names x.0 in
      let rest : List Line = args_lines (lows es) (n + l.blocks) (t + 1) in
      let at1 : Spot = past at (l.value n t) in
      let g : past at1 rest ≡ past at (l.value n t ++ rest) = sym (past-append at (l.value n t) rest) in
      let fits = both (has_value (fitting b.names x.0) scopes) (have_values (fits_of es) scopes) fit in
      let fit1 = value_fits (fitting b.names x.0) scopes fits.0 in
      let post = ArgsDone scopes t (length (x ∷ es)) (past at (l.value n t ++ rest)) vars in
      then_at k fr ok (ValueAt b scopes l.is_unsigned l.is_void t at1 vars) (λ v. at1) (λ v s1 a1 vars1 z. z.at_is) post (machine k fr at vars s) s.fuel ((expression x.0).value functions s)
      (λ v s1. and_then (values (map (λ e'. e'.value functions) (map expression (exprs es))) s1) (λ vs. pure (v ∷ vs)))
      (x.1.value scopes s at vars n t e fit1.1 h le (stands_front fr.code at (l.value n t) rest st))
      (λ v s1 vars1 z.
      then_at k fr ok (ArgsDone scopes (t + 1) (length es) (past at1 rest) vars1) (λ vs. past at1 rest) (λ vs s2 a2 vars2 y. y.at_is) post (machine k fr at1 vars1 s1) s1.fuel (values (map (λ e'. e'.value functions) (map expression (exprs es))) s1) (λ vs. pure (v ∷ vs))
      (args_do es scopes s1 at1 vars1 (n + l.blocks) (t + 1) (x.1.value_ends at n t e) fits.1 z.holds (omega (arith, le)) (stands_back fr.code at (l.value n t) rest st))
      (λ vs s2 vars2 y. does_nothing k fr post (past at1 rest) vars2 s2 (v ∷ vs) (record {
        at_is = g;
        holds = y.holds;
        args = ((y.kept.at t le (omega arith) ∙ z.word (x.1.same_void ∙ fit1.0), z.small), y.args);
        count_is = omega (arith, y.count_is);
        kept = temps_on b.free t (t + 1) vars vars1 vars2 (omega arith) z.kept y.kept;
      })))

  callee_ends : (y : Callee) (count t m : ℕ) (at : Spot) → at.block ≡ m → (past at (callee_lines y count t)).block ≡ m + callee_blocks y
  callee_ends y count t m at e = by y
    where
      by : (z : Callee) → (past at (callee_lines z count t)).block ≡ m + callee_blocks z
      by Callee.InWord = omega (arith, e)
      by Callee.OutWord = omega (arith, e)
      by (Callee.Defined number arity is_void is_unsigned) = omega (arith, e)
      by Callee.NoFunction = omega (arith, e)

  -- ---- places

  -- the place, and what it holds
  fetch_does : (m : Run Place) (y : Target) (lines : List Line) (u : Bool) (scopes : Scopes) (s : State) (at : Spot) (vars : Variables) (t : ℕ) → b.free ≤ t → target_unsigned b y ≡ u → Stands fr.code at (lines ++ Step (read_step (target_symbol b.names y) t t) ∷ [])
      → (Stands fr.code at lines → Does k fr (PlaceAt b scopes t y (past at lines) vars) (machine k fr at vars s) s.fuel (m s))
      → Does k fr (ValueAt b scopes u false t (past at (lines ++ Step (read_step (target_symbol b.names y) t t) ∷ [])) vars) (machine k fr at vars s) s.fuel (and_then (m s) fetch)
  fetch_does m y lines u scopes s at vars t le type st d =
      let last : List Line = Step (read_step (target_symbol b.names y) t t) ∷ [] in
      let back = stands_back fr.code at lines last st in
      let goal : next (past at lines) ≡ past at (lines ++ last) = sym (past-append at lines last) in
      let post = ValueAt b scopes u false t (past at (lines ++ last)) vars in
      then_at k fr ok (PlaceAt b scopes t y (past at lines) vars) (λ p. past at lines) (λ p s1 at1 vars1 z. z.at_is) post (machine k fr at vars s) s.fuel (m s) fetch (d (stands_front fr.code at lines last st))
      (λ p s1 vars1 z. unpure (machine k fr (past at lines) vars1 s1) s1.fuel (fetch p s1) (then_fetch post scopes (past at lines) vars1 s1 y p t t pure z.holds z.place back.0
      (λ v typed small. subst (λ g. Does k fr (ValueAt b scopes u false t g vars) (machine k fr (next (past at lines)) (with_word vars1 t v.word) s1) s1.fuel (Gives v s1)) goal
      (does_nothing k fr (ValueAt b scopes u false t (next (past at lines)) vars) (next (past at lines)) (with_word vars1 t v.word) s1 v (value_put b scopes u false t (next (past at lines)) vars vars1 v s1 le z.holds (typed ∙ type) small z.kept)))))
    where
      unpure : (m1 : BlockState) (f1 : ℕ) (o : Outcome Value) → Does k fr (ValueAt b scopes u false t (past at (lines ++ Step (read_step (target_symbol b.names y) t t) ∷ [])) vars) m1 f1 (and_then o pure) → Does k fr (ValueAt b scopes u false t (past at (lines ++ Step (read_step (target_symbol b.names y) t t) ∷ [])) vars) m1 f1 o
      unpure m1 f1 (Gives v s1) x = x
      unpure m1 f1 (Ends e1 out) x = x

  abbrev checked : Bool → Run (Unit {0})
  checked d = if d then pure tt else run.stop (Trapped 8)

  same_shape : (n : ℕ) (g g' : GlobalShape) (find : Option GlobalShape) → find ≡ Some g → find ≡ Some g' → g ≡ g'
  same_shape n g g' find p q = cc

  -- the index, and its test
  index_does : (n0 : ℕ) (x : Meaning) (l : LowExpr) (f : Fit) → Follows x l f → (scopes : Scopes) (s : State) (at : Spot) (vars : Variables) (n t : ℕ) → at.block ≡ n → is_array_name b.names n0 ≡ true → f.is_void ≡ false → f.fits scopes ≡ true → Holds b scopes s vars → b.free ≤ t → Stands fr.code at (l.value n t ++ Step (guard_step (symbol b.names n0) t) ∷ [])
      → Does k fr (PlaceAt b scopes t (Indexed n0) (past at (l.value n t ++ Step (guard_step (symbol b.names n0) t) ∷ [])) vars) (machine k fr at vars s) s.fuel (indexed n0 (x.value functions) s)
  index_does n0 x l f p scopes s at vars n t e array not_void fits h le st =
      let last : List Line = Step (guard_step (symbol b.names n0) t) ∷ [] in
      let at1 : Spot = past at (l.value n t) in
      let back = stands_back fr.code at (l.value n t) last st in
      let goal : next at1 ≡ past at (l.value n t ++ last) = sym (past-append at (l.value n t) last) in
      let post = PlaceAt b scopes t (Indexed n0) (past at (l.value n t ++ last)) vars in
      then_at k fr ok (ValueAt b scopes l.is_unsigned l.is_void t at1 vars) (λ v. at1) (λ v s1 a1 vars1 z. z.at_is) post (machine k fr at vars s) s.fuel (x.value functions s) _
      (p.value scopes s at vars n t e fits h le (stands_front fr.code at (l.value n t) last st))
      (λ v s1 vars1 z. guarded v s1 vars1 z goal back.0 (array_now k b scopes s1 vars1 n0 z.holds array))
    where
      guarded : (v : Value) (s1 : State) (vars1 : Variables) → ValueAt b scopes l.is_unsigned l.is_void t (past at (l.value n t)) vars v s1 (past at (l.value n t)) vars1 → next (past at (l.value n t)) ≡ past at (l.value n t ++ Step (guard_step (symbol b.names n0) t) ∷ []) → line_at fr.code (past at (l.value n t)).block (past at (l.value n t)).step ≡ Some (Step (guard_step (symbol b.names n0) t)) → ArrayAt k b s1 n0
          → Does k fr (PlaceAt b scopes t (Indexed n0) (past at (l.value n t ++ Step (guard_step (symbol b.names n0) t) ∷ [])) vars) (machine k fr (past at (l.value n t)) vars1 s1) s1.fuel (and_then (below_length v.word (designated n0 s1) s1) (λ u. pure (Element n0 v.word)))
      guarded v s1 vars1 z goal is a =
          let at1 : Spot = past at (l.value n t) in
          let post = PlaceAt b scopes t (Indexed n0) (past at (l.value n t ++ Step (guard_step (symbol b.names n0) t) ∷ [])) vars in
          let g : ℕ = position n0 b.names.globals in
          let step_is : guard_step (symbol b.names n0) t ≡ Guard g t = ap (λ y. guard_step y t) (symbol_array b n0 a.shape a.no_variable a.shape_is a.is_array) in
          let is' : line_at fr.code at1.block at1.step ≡ Some (Step (Guard g t)) = is ∙ ap (λ y. Some (Step y)) step_is in
          let has : vars1 t ≡ Some v.word = z.word (p.same_void ∙ not_void) in
          let found : designated n0 s1 ≡ Some (run.Array a.is_unsigned a.words) = ap (λ o. local_or o (find_global n0 s1.globals)) a.not_local ∙ a.is in
          subst (λ o. Does k fr post (machine k fr at1 vars1 s1) s1.fuel (and_then (below_length v.word o s1) (λ u. pure (Element n0 v.word)))) (sym found)
          (by (nat_lt v.word (length a.words)) refl is' has)
        where
          guard_is : (d : Bool) → nat_lt v.word (length a.words) ≡ d → vars1 t ≡ Some v.word → do_line (Some (Step (Guard (position n0 b.names.globals) t))) (machine k fr (past at (l.value n t)) vars1 s1) ≡ (if d then passes (machine k fr (past at (l.value n t)) vars1 s1) else ends (machine k fr (past at (l.value n t)) vars1 s1) (end.Trapped 8))
          guard_is d lt has = ap (λ y. if nat_lt (word_or_zero y) (length (global_in (globals_now k s1) (position n0 b.names.globals))) then passes (machine k fr (past at (l.value n t)) vars1 s1) else ends (machine k fr (past at (l.value n t)) vars1 s1) (end.Trapped 8)) has
              ∙ ap (λ ws. if nat_lt v.word (length ws) then passes (machine k fr (past at (l.value n t)) vars1 s1) else ends (machine k fr (past at (l.value n t)) vars1 s1) (end.Trapped 8)) a.words_are
              ∙ ap (λ (c : Bool). if c then passes (machine k fr (past at (l.value n t)) vars1 s1) else ends (machine k fr (past at (l.value n t)) vars1 s1) (end.Trapped 8)) lt

          by : (d : Bool) → nat_lt v.word (length a.words) ≡ d → line_at fr.code (past at (l.value n t)).block (past at (l.value n t)).step ≡ Some (Step (Guard (position n0 b.names.globals) t)) → vars1 t ≡ Some v.word
              → Does k fr (PlaceAt b scopes t (Indexed n0) (past at (l.value n t ++ Step (guard_step (symbol b.names n0) t) ∷ [])) vars) (machine k fr (past at (l.value n t)) vars1 s1) s1.fuel (and_then (checked d s1) (λ u. pure (Element n0 v.word)))
          by true lt is' has = does_line k fr ok (PlaceAt b scopes t (Indexed n0) (past at (l.value n t ++ Step (guard_step (symbol b.names n0) t) ∷ [])) vars) (past at (l.value n t)) (next (past at (l.value n t))) vars1 vars1 s1 s1 (Step (Guard (position n0 b.names.globals) t)) s1.fuel (Gives (Element n0 v.word) s1) is'
              (record { reads_written = (is_some_from (vars1 t) v.word has, tt); index_fits = tt }) (guard_is true lt has)
              (does_nothing k fr (PlaceAt b scopes t (Indexed n0) (past at (l.value n t ++ Step (guard_step (symbol b.names n0) t) ∷ [])) vars) (next (past at (l.value n t))) vars1 s1 (Element n0 v.word)
              (record { at_is = goal; holds = z.holds; place = element_at n0 v.word array has (λ g' q. let same = same_shape n0 g' a.shape (bindings.find_shape n0 b.names.globals) q a.shape_is in let m : g'.words ≡ a.shape.words = ap (λ (y : GlobalShape). y.words) same in omega (arith, m, a.long, ltb-true v.word (length a.words) lt)); kept = z.kept }))
          by false lt is' has = does_trap k fr ok (PlaceAt b scopes t (Indexed n0) (past at (l.value n t ++ Step (guard_step (symbol b.names n0) t) ∷ [])) vars) (past at (l.value n t)) vars1 s1 (Step (Guard (position n0 b.names.globals) t)) s1.fuel 8 is'
              (record { reads_written = (is_some_from (vars1 t) v.word has, tt); index_fits = tt }) (guard_is false lt has)

  -- ---- stores

  beside_ge : (y : Target) (t : ℕ) → t ≤ beside y t
  beside_ge Neither t = omega arith
  beside_ge (Named n) t = omega arith
  beside_ge (Indexed n) t = omega arith

  unpure : (post : Value → State → Spot → Variables → Type 0) (m : BlockState) (fuel : ℕ) (o : Outcome Value) → Does k fr post m fuel (and_then o pure) → Does k fr post m fuel o
  unpure post m fuel (Gives v s1) x = x
  unpure post m fuel (Ends e1 out) x = x

  -- the word of u comes down to t
  moved_does : (scopes scopes' : Scopes) (y : Target) (p : Place) (u : Bool) (s : State) (at goal : Spot) (before vars0 vars : Variables) (t : ℕ) (v : Value) → AtPlace b scopes' vars0 t y p → b.free ≤ t → Holds b scopes s vars → vars (beside y t) ≡ Some v.word → v.is_unsigned ≡ u → v.word < 2 ^ 32 → Temps b.free t before vars → past at (moved_down y t (beside y t)) ≡ goal → Stands fr.code at (moved_down y t (beside y t)) → Does k fr (ValueAt b scopes u false t goal before) (machine k fr at vars s) s.fuel (Gives v s)
  moved_does scopes scopes' _ _ u s at goal before vars0 vars t v (named n f) le h has typed small kp g st =
      does_nothing k fr (ValueAt b scopes u false t goal before) at vars s v (record { at_is = g; holds = h; word = λ q. has; typed = typed; small = small; kept = kp })
  moved_does scopes scopes' _ _ u s at goal before vars0 vars t v (element_at n i f e lt) le h has typed small kp g st =
      then_copy k fr ok (ValueAt b scopes u false t goal before) at vars s t (t + 1) v.word s.fuel (Gives v s) st.0 has
      (subst (λ z. Does k fr (ValueAt b scopes u false t z before) (machine k fr (next at) (with_word vars t v.word) s) s.fuel (Gives v s)) g
      (does_nothing k fr (ValueAt b scopes u false t (next at) before) (next at) (with_word vars t v.word) s v (value_put b scopes u false t (next at) before vars v s le h typed small kp)))

  -- a store of the word in u, and the word brought down
  store_does : (scopes : Scopes) (y : Target) (p : Place) (s : State) (at goal : Spot) (before vars : Variables) (t : ℕ) (w : ℕ) → AtPlace b scopes vars t y p → b.free ≤ t → Holds b scopes s vars → vars (beside y t) ≡ Some w → w < 2 ^ 32 → Temps b.free t before vars → past at (Step (write_step (target_symbol b.names y) t (beside y t)) ∷ moved_down y t (beside y t)) ≡ goal → Stands fr.code at (Step (write_step (target_symbol b.names y) t (beside y t)) ∷ moved_down y t (beside y t))
      → Does k fr (ValueAt b scopes (target_unsigned b y) false t goal before) (machine k fr at vars s) s.fuel (store p w s)
  store_does scopes y p s at goal before vars t w a le h has lt kp g st =
      let post = ValueAt b scopes (target_unsigned b y) false t goal before in
      unpure post (machine k fr at vars s) s.fuel (store p w s) (then_store post scopes at vars s y p t (beside y t) w pure h a has lt st.0
      (λ v s' vars' word typed h' kept. moved_does scopes scopes y p (target_unsigned b y) s' (next at) goal before vars vars' t v a le h' (kept (beside y t) (omega (arith, le, beside_ge y t)) ∙ has ∙ ap Some (sym word)) typed (subst (λ n. n < 2 ^ 32) (sym word) lt)
      (record { at = λ i fi it. kept i fi ∙ kp.at i fi it }) g st.1))

  same_beside : (y : Target) (t : ℕ) (vars vars' : Variables) → b.free ≤ t → Temps b.free (beside y t) vars vars' → beside y t ≡ t + 1 → vars' t ≡ vars t
  same_beside y t vars vars' le kp e = kp.at t le (omega (arith, e))

  assign_does : (xp xr : Meaning) (lp lr : LowExpr) (fp fv : Fit) → Follows xp lp fp → Follows xr lr fv → (scopes : Scopes) (s : State) (at : Spot) (vars : Variables) (n t : ℕ) → at.block ≡ n → fp.is_place ≡ true → fp.fits scopes ≡ true → fv.is_void ≡ false → fv.fits scopes ≡ true → Holds b scopes s vars → b.free ≤ t → Stands fr.code at (assign_lines b.names lp lr n t (beside lp.target t))
      → Does k fr (ValueAt b scopes lp.is_unsigned false t (past at (assign_lines b.names lp lr n t (beside lp.target t))) vars) (machine k fr at vars s) s.fuel (assign_with None (xp.place functions) (xr.value functions) s)
  assign_does xp xr lp lr fp fv pp pr scopes s at vars n t e place fit_p not_void fit_v hold le st =
      let y : Target = lp.target in
      let u : ℕ = beside y t in
      let m : ℕ = n + lp.place_blocks in
      let tail : List Line = Step (write_step (target_symbol b.names y) t u) ∷ moved_down y t u in
      let rest : List Line = lr.value m u ++ tail in
      let at1 : Spot = past at (lp.place n t) in
      let at2 : Spot = past at1 (lr.value m u) in
      let goal : Spot = past at (lp.place n t ++ rest) in
      let st1 = stands_back fr.code at (lp.place n t) rest st in
      let g : past at2 tail ≡ goal = sym (past-append at (lp.place n t) rest ∙ past-append at1 (lr.value m u) tail) in
      let post = ValueAt b scopes lp.is_unsigned false t goal vars in
      then_at k fr ok (PlaceAt b scopes t y at1 vars) (λ p. at1) (λ p s1 a1 vars1 z. z.at_is) post (machine k fr at vars s) s.fuel (xp.place functions s) _
      (pp.place scopes s at vars n t e place fit_p hold le (stands_front fr.code at (lp.place n t) rest st))
      (λ p s1 vars1 z. then_at k fr ok (ValueAt b scopes lr.is_unsigned lr.is_void u at2 vars1) (λ v. at2) (λ v s2 a2 vars2 w. w.at_is) post (machine k fr at1 vars1 s1) s1.fuel (xr.value functions s1) _
      (pr.value scopes s1 at1 vars1 m u (pp.place_ends at n t e) fit_v z.holds (omega (arith, le, beside_ge y t)) (stands_front fr.code at1 (lr.value m u) tail st1))
      (λ v s2 vars2 w. subst (λ q. Does k fr (ValueAt b scopes q false t goal vars) (machine k fr at2 vars2 s2) s2.fuel (store p v.word s2)) (pp.place_typed place)
      (store_does scopes y p s2 at2 goal vars vars2 t v.word (place_kept b scopes vars1 vars2 t y p (same_beside y t vars1 vars2 le w.kept) z.place) le w.holds (w.word (pr.same_void ∙ not_void)) w.small (temps_on b.free t u vars vars1 vars2 (beside_ge y t) z.kept w.kept) g (stands_back fr.code at1 (lr.value m u) tail st1))))

  comparison_is_int : (op : BinaryOp) (u v : Bool) → is_direct op ≡ false → binary_type op u v ≡ false
  comparison_is_int c.Mul u v d = absurd (false≢true (sym d))
  comparison_is_int c.Div u v d = absurd (false≢true (sym d))
  comparison_is_int c.Rem u v d = absurd (false≢true (sym d))
  comparison_is_int c.Add u v d = absurd (false≢true (sym d))
  comparison_is_int c.Sub u v d = absurd (false≢true (sym d))
  comparison_is_int c.Shl u v d = absurd (false≢true (sym d))
  comparison_is_int c.Shr u v d = absurd (false≢true (sym d))
  comparison_is_int c.Lt u v d = refl
  comparison_is_int c.Gt u v d = refl
  comparison_is_int c.Le u v d = refl
  comparison_is_int c.Ge u v d = refl
  comparison_is_int c.Eq u v d = refl
  comparison_is_int c.Ne u v d = refl
  comparison_is_int c.And u v d = absurd (false≢true (sym d))
  comparison_is_int c.Xor u v d = absurd (false≢true (sym d))
  comparison_is_int c.Or u v d = absurd (false≢true (sym d))

  -- an operator on two values
  operate_does : (op : BinaryOp) (x y : Value) (xu yu : Bool) (scopes : Scopes) (s : State) (at : Spot) (vars : Variables) (t : ℕ) → b.free ≤ t → Holds b scopes s vars → x.is_unsigned ≡ xu → y.is_unsigned ≡ yu → vars t ≡ Some x.word → vars (t + 1) ≡ Some y.word → x.word < 2 ^ 32 → y.word < 2 ^ 32 → Stands fr.code at (binary_lines op (operand_type op xu yu) t (t + 1))
      → Does k fr (ValueAt b scopes (binary_type op xu yu) false t (past at (binary_lines op (operand_type op xu yu) t (t + 1))) vars) (machine k fr at vars s) s.fuel (lift (operate op x y) s)
  operate_does op x y xu yu scopes s at vars t le h ex ey hx hy lx ly st =
      subst (λ z. Does k fr (ValueAt b scopes (binary_type op xu yu) false t (past at (binary_lines op (operand_type op xu yu) t (t + 1))) vars) (machine k fr at vars s) s.fuel (lift (operate op (value x.word z) y) s)) (sym ex)
      (subst (λ z. Does k fr (ValueAt b scopes (binary_type op xu yu) false t (past at (binary_lines op (operand_type op xu yu) t (t + 1))) vars) (machine k fr at vars s) s.fuel (lift (operate op (value x.word xu) (value y.word z)) s)) (sym ey)
      (binary_does k fr ok b scopes op (operand_type op xu yu) (binary_type op xu yu) t x.word y.word at vars s le h st hx hy lx ly (comparison_is_int op xu yu)))

  assign_by_does : (op : BinaryOp) (xp xr : Meaning) (lp lr : LowExpr) (fp fv : Fit) → Follows xp lp fp → Follows xr lr fv → (scopes : Scopes) (s : State) (at : Spot) (vars : Variables) (n t : ℕ) → at.block ≡ n → fp.is_place ≡ true → fp.fits scopes ≡ true → fv.is_void ≡ false → fv.fits scopes ≡ true → Holds b scopes s vars → b.free ≤ t → Stands fr.code at (assign_by_lines b.names op lp lr n t (beside lp.target t))
      → Does k fr (ValueAt b scopes lp.is_unsigned false t (past at (assign_by_lines b.names op lp lr n t (beside lp.target t))) vars) (machine k fr at vars s) s.fuel (assign_with (Some op) (xp.place functions) (xr.value functions) s)
  assign_by_does op xp xr lp lr fp fv pp pr scopes s at vars n t e place fit_p not_void fit_v hold le st =
      let y : Target = lp.target in
      let u : ℕ = beside y t in
      let ge : t ≤ u = beside_ge y t in
      let m : ℕ = n + lp.place_blocks in
      let tail : List Line = Step (write_step (target_symbol b.names y) t u) ∷ moved_down y t u in
      let ops : List Line = binary_lines op (operand_type op lp.is_unsigned lr.is_unsigned) u (u + 1) in
      let right : List Line = lr.value m (u + 1) in
      let rest : List Line = Step (read_step (target_symbol b.names y) t u) ∷ (right ++ (ops ++ tail)) in
      let at1 : Spot = past at (lp.place n t) in
      let at2 : Spot = past (next at1) right in
      let at3 : Spot = past at2 ops in
      let goal : Spot = past at (lp.place n t ++ rest) in
      let st1 = stands_back fr.code at (lp.place n t) rest st in
      let st2 = stands_back fr.code (next at1) right (ops ++ tail) st1.1 in
      let st3 = stands_back fr.code at2 ops tail st2 in
      let g : past at3 tail ≡ goal = sym (past-append at (lp.place n t) rest ∙ past-append (next at1) right (ops ++ tail) ∙ past-append at2 ops tail) in
      let post = ValueAt b scopes lp.is_unsigned false t goal vars in
      then_at k fr ok (PlaceAt b scopes t y at1 vars) (λ p. at1) (λ p s1 a1 vars1 z. z.at_is) post (machine k fr at vars s) s.fuel (xp.place functions s) _
      (pp.place scopes s at vars n t e place fit_p hold le (stands_front fr.code at (lp.place n t) rest st))
      (λ p s1 vars1 z. then_fetch post scopes at1 vars1 s1 y p t u _ z.holds z.place st1.0
      (λ old old_typed old_small.
      let vars2 : Variables = with_word vars1 u old.word in
      let k2 : Temps b.free u vars1 vars2 = temps_of b.free u vars1 vars2 (kept_with u u old.word vars1 (omega arith)) in
      then_at k fr ok (ValueAt b scopes lr.is_unsigned lr.is_void (u + 1) at2 vars2) (λ v. at2) (λ v s3 a3 vars3 w. w.at_is) post (machine k fr (next at1) vars2 s1) s1.fuel (xr.value functions s1) _
      (pr.value scopes s1 (next at1) vars2 m (u + 1) (pp.place_ends at n t e) fit_v (holds_kept b scopes s1 vars1 vars2 u (omega (arith, le, ge)) (kept_with u u old.word vars1 (omega arith)) z.holds) (omega (arith, le, ge)) (stands_front fr.code (next at1) right (ops ++ tail) st1.1))
      (λ v s3 vars3 w. then_at k fr ok (ValueAt b scopes (binary_type op lp.is_unsigned lr.is_unsigned) false u at3 vars3) (λ v. at3) (λ v s4 a4 vars4 q. q.at_is) post (machine k fr at2 vars3 s3) s3.fuel (lift (operate op old v) s3) _
      (operate_does op old v lp.is_unsigned lr.is_unsigned scopes s3 at2 vars3 u (omega (arith, le, ge)) w.holds (old_typed ∙ pp.place_typed place) w.typed (w.kept.at u (omega (arith, le, ge)) (omega arith) ∙ with_same vars1 u old.word) (w.word (pr.same_void ∙ not_void)) old_small w.small (stands_front fr.code at2 ops tail st2))
      (λ new s4 vars4 q. subst (λ j. Does k fr (ValueAt b scopes j false t goal vars) (machine k fr at3 vars4 s4) s4.fuel (store p new.word s4)) (pp.place_typed place)
      (store_does scopes y p s4 at3 goal vars vars4 t new.word
      (place_kept b scopes vars1 vars4 t y p (λ eq. q.kept.at t le (omega (arith, eq)) ∙ w.kept.at t le (omega (arith, eq)) ∙ k2.at t le (omega (arith, eq))) z.place) le q.holds (q.word refl) q.small
      (temps_on b.free t u vars vars1 vars4 ge z.kept (temps_on b.free u u vars1 vars2 vars4 (omega arith) k2 (temps_on b.free u u vars2 vars3 vars4 (omega arith) (record { at = λ i fi it. w.kept.at i fi (omega (arith, it)) }) q.kept))) g st3)))))

  -- ---- `++` and `--`

  bumped_is : (up : Bool) (w : ℕ) → mid_run.operate (bump_operation up) w 1 ≡ Ok (bumped up w)
  bumped_is true w = refl
  bumped_is false w = refl

  bumped_small : (up : Bool) (w : ℕ) → bumped up w < 2 ^ 32
  bumped_small true w = omega arith
  bumped_small false w = omega arith

  bump_does : (up before : Bool) (xp : Meaning) (lp : LowExpr) (fp : Fit) → Follows xp lp fp → (scopes : Scopes) (s : State) (at : Spot) (vars : Variables) (n t : ℕ) → at.block ≡ n → fp.is_place ≡ true → fp.fits scopes ≡ true → Holds b scopes s vars → b.free ≤ t → Stands fr.code at (bump_lines b.names up before lp n t (beside lp.target t))
      → Does k fr (ValueAt b scopes lp.is_unsigned false t (past at (bump_lines b.names up before lp n t (beside lp.target t))) vars) (machine k fr at vars s) s.fuel (bump up before (xp.place functions) s)
  bump_does up before xp lp fp pp scopes s at vars n t e place fit_p hold le st =
      let y : Target = lp.target in
      let u : ℕ = beside y t in
      let ge : t ≤ u = beside_ge y t in
      let last : List Line = bump_result before y t u in
      let rest : List Line = Step (read_step (target_symbol b.names y) t u) ∷ Step (Constant (u + 1) 1) ∷ Step (Operate (bump_operation up) (u + 1) u (u + 1)) ∷ Step (write_step (target_symbol b.names y) t (u + 1)) ∷ last in
      let at1 : Spot = past at (lp.place n t) in
      let at5 : Spot = next (next (next (next at1))) in
      let goal : Spot = past at (lp.place n t ++ rest) in
      let st1 = stands_back fr.code at (lp.place n t) rest st in
      let g : past at5 last ≡ goal = sym (past-append at (lp.place n t) rest) in
      let post = ValueAt b scopes lp.is_unsigned false t goal vars in
      then_at k fr ok (PlaceAt b scopes t y at1 vars) (λ p. at1) (λ p s1 a1 vars1 z. z.at_is) post (machine k fr at vars s) s.fuel (xp.place functions s) _
      (pp.place scopes s at vars n t e place fit_p hold le (stands_front fr.code at (lp.place n t) rest st))
      (λ p s1 vars1 z. then_fetch post scopes at1 vars1 s1 y p t u _ z.holds z.place st1.0
      (λ old old_typed old_small.
      let w : ℕ = bumped up old.word in
      let vars2 : Variables = with_word vars1 u old.word in
      let vars3 : Variables = with_word vars2 (u + 1) 1 in
      let vars4 : Variables = with_word vars3 (u + 1) w in
      let k2 : Kept u vars1 vars2 = kept_with u u old.word vars1 (omega arith) in
      let k3 : Kept u vars1 vars3 = record { at = λ i lt. with_other vars2 (u + 1) i 1 (λ q. omega (arith, q, lt)) ∙ k2.at i lt } in
      let k4 : Kept u vars1 vars4 = record { at = λ i lt. with_other vars3 (u + 1) i w (λ q. omega (arith, q, lt)) ∙ k3.at i lt } in
      let has_old : vars4 u ≡ Some old.word = with_other vars3 (u + 1) u w (λ q. omega (arith, q)) ∙ with_other vars2 (u + 1) u 1 (λ q. omega (arith, q)) ∙ with_same vars1 u old.word in
      let h4 = holds_kept b scopes s1 vars1 vars4 u (omega (arith, le, ge)) k4 z.holds in
      then_constant k fr ok post (next at1) vars2 s1 (u + 1) 1 s1.fuel _ st1.1.0
      (then_operate k fr ok post (next (next at1)) vars3 s1 (bump_operation up) (u + 1) u (u + 1) old.word 1 w s1.fuel _ st1.1.1.0 (with_other vars2 (u + 1) u 1 (λ q. omega (arith, q)) ∙ with_same vars1 u old.word) (with_same vars2 (u + 1) 1) (bumped_is up old.word)
      (then_store post scopes (next (next (next at1))) vars4 s1 y p t (u + 1) w _ h4 (place_kept b scopes vars1 vars4 t y p (λ eq. k4.at t (omega (arith, eq))) z.place) (with_same vars3 (u + 1) w) (bumped_small up old.word) st1.1.1.1.0
      (λ new s5 vars5 word typed h5 kept.
      let has5 : vars5 u ≡ Some old.word = kept u (omega (arith, le, ge)) ∙ has_old in
      let new5 : vars5 (u + 1) ≡ Some new.word = kept (u + 1) (omega (arith, le, ge)) ∙ with_same vars3 (u + 1) w ∙ ap Some (sym word) in
      let kp5 : Temps b.free t vars vars5 = record { at = λ i fi it. kept i fi ∙ k4.at i (omega (arith, it, ge)) ∙ z.kept.at i fi it } in
      result before p z.place old new s5 vars5 (old_typed ∙ pp.place_typed place) (typed ∙ pp.place_typed place) old_small (subst (λ q. q < 2 ^ 32) (sym word) (bumped_small up old.word)) h5 has5 new5 kp5 g st1.1.1.1.1)))))
    where
      result : (bf : Bool) (p : Place) {vars1 : Variables} → AtPlace b scopes vars1 t lp.target p → (old new : Value) (s5 : State) (vars5 : Variables) → old.is_unsigned ≡ lp.is_unsigned → new.is_unsigned ≡ lp.is_unsigned → old.word < 2 ^ 32 → new.word < 2 ^ 32 → Holds b scopes s5 vars5 → vars5 (beside lp.target t) ≡ Some old.word → vars5 (beside lp.target t + 1) ≡ Some new.word → Temps b.free t vars vars5 → {at5 goal : Spot} → past at5 (bump_result bf lp.target t (beside lp.target t)) ≡ goal → Stands fr.code at5 (bump_result bf lp.target t (beside lp.target t))
          → Does k fr (ValueAt b scopes lp.is_unsigned false t goal vars) (machine k fr at5 vars5 s5) s5.fuel (Gives (if bf then new else old) s5)
      result true p a old new s5 vars5 ot nt os ns h5 has5 new5 kp5 {at5} {goal} g st5 =
          then_copy k fr ok (ValueAt b scopes lp.is_unsigned false t goal vars) at5 vars5 s5 t (beside lp.target t + 1) new.word s5.fuel (Gives new s5) st5.0 new5
          (subst (λ z. Does k fr (ValueAt b scopes lp.is_unsigned false t z vars) (machine k fr (next at5) (with_word vars5 t new.word) s5) s5.fuel (Gives new s5)) g
          (does_nothing k fr (ValueAt b scopes lp.is_unsigned false t (next at5) vars) (next at5) (with_word vars5 t new.word) s5 new (value_put b scopes lp.is_unsigned false t (next at5) vars vars5 new s5 le h5 nt ns kp5)))
      result false p {vars1} a old new s5 vars5 ot nt os ns h5 has5 new5 kp5 {at5} {goal} g st5 = moved_does scopes scopes lp.target p lp.is_unsigned s5 at5 goal vars vars1 vars5 t old a le h5 has5 ot os kp5 g st5

  -- ---- each construct

  -- a value that is no place, and a condition by its value
  plain_follows : (x : Meaning) (blocks : ℕ) (lines : ℕ → ℕ → List Line) (u void : Bool) (f : Fit) → void ≡ f.is_void → f.is_place ≡ false
      → ((scopes : Scopes) (types : ℕ → Bool) → Agree b scopes types → f.fits scopes ≡ true → x.is_unsigned types functions.is_unsigned ≡ u)
      → ((at : Spot) (n t : ℕ) → at.block ≡ n → (past at (lines n t)).block ≡ n + blocks)
      → ((scopes : Scopes) (s : State) (at : Spot) (vars : Variables) (n t : ℕ) → at.block ≡ n → f.fits scopes ≡ true → Holds b scopes s vars → b.free ≤ t → Stands fr.code at (lines n t) → Does k fr (ValueAt b scopes u void t (past at (lines n t)) vars) (machine k fr at vars s) s.fuel (x.value functions s))
      → Follows x (record (plain blocks lines u) { is_void = void }) f
  plain_follows x blocks lines u void f same not_place typed ends does = record {
    same_void = same;
    typed = typed;
    place_typed = λ p. absurd (false≢true (sym not_place ∙ p));
    value_ends = ends;
    value = does;
    condition_ends = λ at n t h fa nx e. test_ends lines blocks at n t h fa nx (ends at n t e);
    condition = λ scopes s at vars n t h fa nx e fit not_void hold le falls st.
        test_does (x.value functions) lines blocks u scopes s at vars n t h fa nx (ends at n t e) falls st
        (λ st1. subst (λ v. Does k fr (ValueAt b scopes u v t (past at (lines n t)) vars) (machine k fr at vars s) s.fuel (x.value functions s)) (same ∙ not_void) (does scopes s at vars n t e fit hold le st1));
    place_ends = λ at n t e. omega (arith, e);
    place = λ scopes s at vars n t e p fit hold le st. absurd (false≢true (sym not_place ∙ p));
  }

  literal_follows : (word : ℕ) (u : Bool) (at0 : ℕ) → Follows (expression_step (Expr-F.Literal word u at0)) (low_step b.names (Expr-F.Literal word u at0)) (fit_step b.names (Expr-F.Literal word u at0))
  literal_follows word u at0 = plain_follows (expression_step (Expr-F.Literal word u at0)) 0 (λ n t. Step (Constant t word) ∷ []) u false (fit_step b.names (Expr-F.Literal word u at0)) refl refl (λ scopes types a f. refl) (λ at n t e. omega (arith, e))
      (λ scopes s at vars n t e fit hold le st. then_constant k fr ok (ValueAt b scopes u false t (next at) vars) at vars s t word s.fuel (Gives (value word u) s) st.0
      (does_nothing k fr (ValueAt b scopes u false t (next at) vars) (next at) (with_word vars t word) s (value word u) (value_put b scopes u false t (next at) vars vars (value word u) s le hold refl (ltb-true word (2 ^ 32) fit) (temps_here b.free t vars))))

  -- a place, as a value and as a condition
  place_follows : (x : Meaning) (name : ℕ) (y : Target) (blocks : ℕ) (lines : ℕ → ℕ → List Line) (f : Fit) → f.is_void ≡ false → target_unsigned b y ≡ name_unsigned b.names name
      → ((s : State) → x.value functions s ≡ and_then (x.place functions s) fetch)
      → ((scopes : Scopes) (types : ℕ → Bool) → Agree b scopes types → f.fits scopes ≡ true → x.is_unsigned types functions.is_unsigned ≡ name_unsigned b.names name)
      → ((at : Spot) (n t : ℕ) → at.block ≡ n → (past at (lines n t)).block ≡ n + blocks)
      → ((scopes : Scopes) (s : State) (at : Spot) (vars : Variables) (n t : ℕ) → at.block ≡ n → f.fits scopes ≡ true → Holds b scopes s vars → b.free ≤ t → Stands fr.code at (lines n t) → Does k fr (PlaceAt b scopes t y (past at (lines n t)) vars) (machine k fr at vars s) s.fuel (x.place functions s))
      → Follows x (low_place b.names name y blocks lines) f
  place_follows x name y blocks lines f not_void type fetches typed ends does = record {
    same_void = sym not_void;
    typed = typed;
    place_typed = λ p. type;
    value_ends = ends_value;
    value = does_value;
    condition_ends = λ at n t h fa nx e. test_ends (fetch_lines b.names y lines) blocks at n t h fa nx (ends_value at n t e);
    condition = λ scopes s at vars n t h fa nx e fit nv hold le falls st. test_does (x.value functions) (fetch_lines b.names y lines) blocks (name_unsigned b.names name) scopes s at vars n t h fa nx (ends_value at n t e) falls st (does_value scopes s at vars n t e fit hold le);
    place_ends = ends;
    place = λ scopes s at vars n t e p fit hold le st. does scopes s at vars n t e fit hold le st;
  }
    where
      ends_value : (at : Spot) (n t : ℕ) → at.block ≡ n → (past at (fetch_lines b.names y lines n t)).block ≡ n + blocks
      ends_value at n t e = ap (λ z. z.block) (past-append at (lines n t) (Step (read_step (target_symbol b.names y) t t) ∷ [])) ∙ ends at n t e

      does_value : (scopes : Scopes) (s : State) (at : Spot) (vars : Variables) (n t : ℕ) → at.block ≡ n → f.fits scopes ≡ true → Holds b scopes s vars → b.free ≤ t → Stands fr.code at (fetch_lines b.names y lines n t) → Does k fr (ValueAt b scopes (name_unsigned b.names name) false t (past at (fetch_lines b.names y lines n t)) vars) (machine k fr at vars s) s.fuel (x.value functions s)
      does_value scopes s at vars n t e fit hold le st = subst (λ o. Does k fr (ValueAt b scopes (name_unsigned b.names name) false t (past at (fetch_lines b.names y lines n t)) vars) (machine k fr at vars s) s.fuel o) (sym (fetches s))
          (fetch_does (x.place functions) y (lines n t) (name_unsigned b.names name) scopes s at vars t le type st (does scopes s at vars n t e fit hold le))

  name_follows : (name at0 : ℕ) → Follows (expression_step (Expr-F.Name name at0)) (low_step b.names (Expr-F.Name name at0)) (fit_step b.names (Expr-F.Name name at0))
  name_follows name at0 = place_follows (expression_step (Expr-F.Name name at0)) name (Named name) 0 (λ n t. []) (fit_step b.names (Expr-F.Name name at0)) refl refl (λ s. refl) (λ scopes types a f. a.on_variable name f) (λ at n t e. omega (arith, e))
      (λ scopes s at vars n t e fit hold le st. does_nothing k fr (PlaceAt b scopes t (Named name) at vars) at vars s (Variable name) (record { at_is = refl; holds = hold; place = named name fit; kept = temps_here b.free t vars }))

  index_follows : (name : ℕ) (x : Meaning) (l : LowExpr) (f : Fit) (at0 : ℕ) → Follows x l f → Follows (expression_step (Expr-F.Index name x at0)) (low_step b.names (Expr-F.Index name l at0)) (fit_step b.names (Expr-F.Index name f at0))
  index_follows name x l f at0 p = place_follows (expression_step (Expr-F.Index name x at0)) name (Indexed name) l.blocks (λ n t. l.value n t ++ Step (guard_step (symbol b.names name) t) ∷ []) (fit_step b.names (Expr-F.Index name f at0)) refl refl (λ s. refl)
      (λ scopes types a fit. a.on_array name (both (is_array_name b.names name) (has_value f scopes) fit).0)
      (λ at n t e. ap (λ z. z.block) (past-append at (l.value n t) (Step (guard_step (symbol b.names name) t) ∷ [])) ∙ p.value_ends at n t e)
      (λ scopes s at vars n t e fit hold le st. let q = both (is_array_name b.names name) (has_value f scopes) fit in let r = value_fits f scopes q.1 in index_does name x l f p scopes s at vars n t e q.0 r.0 r.1 hold le st)

  call_follows : (name : ℕ) (es : List Part) (at0 : ℕ) → Follows (expression_step (Expr-F.Call name (map expression (exprs es)) at0)) (low_step b.names (Expr-F.Call name (lows es) at0)) (fit_step b.names (Expr-F.Call name (fits_of es) at0))
  call_follows name es at0 =
      let y : Callee = b.names.callee name in
      plain_follows (expression_step (Expr-F.Call name (map expression (exprs es)) at0)) (args_blocks (lows es) + callee_blocks y) (λ n t. args_lines (lows es) n t ++ callee_lines y (length (lows es)) t) (callee_unsigned y) (callee_void y) (fit_step b.names (Expr-F.Call name (fits_of es) at0)) refl refl (λ scopes types a f. meets.typed name) ends does
    where
      count : (es' : List Part) → (length (lows es') ≡ length es') × (length (fits_of es') ≡ length es')
      count [] = (refl, refl)
      count (x ∷ es') = let c = count es' in (omega (arith, c.0), omega (arith, c.1))

      ends : (at : Spot) (n t : ℕ) → at.block ≡ n → (past at (args_lines (lows es) n t ++ callee_lines (b.names.callee name) (length (lows es)) t)).block ≡ n + (args_blocks (lows es) + callee_blocks (b.names.callee name))
      ends at n t e = ap (λ z. z.block) (past-append at (args_lines (lows es) n t) (callee_lines (b.names.callee name) (length (lows es)) t)) ∙ callee_ends (b.names.callee name) (length (lows es)) t (n + args_blocks (lows es)) (past at (args_lines (lows es) n t)) (args_ends es at n t e) ∙ (let g : n + args_blocks (lows es) + callee_blocks (b.names.callee name) ≡ n + (args_blocks (lows es) + callee_blocks (b.names.callee name)) = omega arith in g)

      does : (scopes : Scopes) (s : State) (at : Spot) (vars : Variables) (n t : ℕ) → at.block ≡ n → (callee_takes (b.names.callee name) (length (fits_of es)) && have_values (fits_of es) scopes) ≡ true → Holds b scopes s vars → b.free ≤ t → Stands fr.code at (args_lines (lows es) n t ++ callee_lines (b.names.callee name) (length (lows es)) t)
          → Does k fr (ValueAt b scopes (callee_unsigned (b.names.callee name)) (callee_void (b.names.callee name)) t (past at (args_lines (lows es) n t ++ callee_lines (b.names.callee name) (length (lows es)) t)) vars) (machine k fr at vars s) s.fuel (and_then (values (map (λ e. e.value functions) (map expression (exprs es))) s) (functions.call name))
      does scopes s at vars n t e fit hold le st =
          let y : Callee = b.names.callee name in
          let args : List Line = args_lines (lows es) n t in
          let last : List Line = callee_lines y (length (lows es)) t in
          let at1 : Spot = past at args in
          let fits = both (callee_takes y (length (fits_of es))) (have_values (fits_of es) scopes) fit in
          let goal : past at1 last ≡ past at (args ++ last) = sym (past-append at args last) in
          let post = ValueAt b scopes (callee_unsigned y) (callee_void y) t (past at (args ++ last)) vars in
          then_at k fr ok (ArgsDone scopes t (length es) at1 vars) (λ vs. at1) (λ vs s1 a1 vars1 z. z.at_is) post (machine k fr at vars s) s.fuel (values (map (λ e'. e'.value functions) (map expression (exprs es))) s) (functions.call name)
          (args_do es scopes s at vars n t e fits.1 hold le (stands_front fr.code at args last st))
          (λ vs s1 vars1 z.
          let same : length (lows es) ≡ length vs = omega (arith, (count es).0, z.count_is) in
          does_more k fr (ValueAt b scopes (callee_unsigned y) (callee_void y) t (past at1 (callee_lines y (length vs) t)) vars1) post (machine k fr at1 vars1 s1) s1.fuel (functions.call name vs s1)
          (meets.call name vs scopes s1 at1 vars1 t (let as_many : length (fits_of es) ≡ length vs = omega (arith, z.count_is, (count es).1) in subst (λ m. callee_takes y m ≡ true) as_many fits.0) z.args z.holds le (subst (λ m. Stands fr.code at1 (callee_lines y m t)) same (stands_back fr.code at args last st)))
          (λ v s2 at2 vars2 w. record { at_is = w.at_is ∙ ap (λ m. past at1 (callee_lines y m t)) (sym same) ∙ goal; holds = w.holds; word = w.word; typed = w.typed; small = w.small; kept = temps_on b.free t t vars vars1 vars2 (omega arith) z.kept w.kept }))

  unary_value_ends : (op : UnaryOp) (l : LowExpr) → ((at : Spot) (n t : ℕ) → at.block ≡ n → (past at (l.value n t)).block ≡ n + l.blocks) → (at : Spot) (n t : ℕ) → at.block ≡ n → (past at (l.value n t ++ unary_lines op t (t + 1))).block ≡ n + l.blocks
  unary_value_ends op l p at n t e = ap (λ z. z.block) (past-append at (l.value n t) (unary_lines op t (t + 1))) ∙ by op (past at (l.value n t)) ∙ p at n t e
    where
      by : (o : UnaryOp) (a : Spot) → (past a (unary_lines o t (t + 1))).block ≡ a.block
      by unary.Minus a = refl
      by unary.Plus a = refl
      by unary.Flip a = refl
      by unary.Not a = refl

  unary_value : (op : UnaryOp) (x : Meaning) (l : LowExpr) (f : Fit) → Follows x l f → (scopes : Scopes) (s : State) (at : Spot) (vars : Variables) (n t : ℕ) → at.block ≡ n → has_value f scopes ≡ true → Holds b scopes s vars → b.free ≤ t → Stands fr.code at (l.value n t ++ unary_lines op t (t + 1))
      → Does k fr (ValueAt b scopes (unary_type op l.is_unsigned) false t (past at (l.value n t ++ unary_lines op t (t + 1))) vars) (machine k fr at vars s) s.fuel (and_then (x.value functions s) (λ v. pure (operate_unary op v)))
  unary_value op x l f p scopes s at vars n t e fit hold le st =
      let last : List Line = unary_lines op t (t + 1) in
      let at1 : Spot = past at (l.value n t) in
      let r = value_fits f scopes fit in
      let post = ValueAt b scopes (unary_type op l.is_unsigned) false t (past at (l.value n t ++ last)) vars in
      then_at k fr ok (ValueAt b scopes l.is_unsigned l.is_void t at1 vars) (λ v. at1) (λ v s1 a1 vars1 z. z.at_is) post (machine k fr at vars s) s.fuel (x.value functions s) (λ v. pure (operate_unary op v))
      (p.value scopes s at vars n t e r.1 hold le (stands_front fr.code at (l.value n t) last st))
      (λ v s1 vars1 z. does_more k fr (ValueAt b scopes (unary_type op v.is_unsigned) false t (past at1 last) vars1) post (machine k fr at1 vars1 s1) s1.fuel (Gives (operate_unary op v) s1)
      (unary_does k fr ok b scopes op t v at1 vars1 s1 le z.holds (stands_back fr.code at (l.value n t) last st) (z.word (p.same_void ∙ r.0)) z.small)
      (λ v2 s2 at2 vars2 w. record { at_is = w.at_is ∙ sym (past-append at (l.value n t) last); holds = w.holds; word = w.word; typed = w.typed ∙ ap (unary_type op) z.typed; small = w.small; kept = temps_on b.free t t vars vars1 vars2 (omega arith) z.kept w.kept }))

  -- `!` turns a condition round
  not_condition : (x : Meaning) (l : LowExpr) (f : Fit) → Follows x l f → (scopes : Scopes) (s : State) (at : Spot) (vars : Variables) (n t h fa : ℕ) (nx : Bool) → at.block ≡ n → has_value f scopes ≡ true → Holds b scopes s vars → b.free ≤ t → (if nx then h else fa) ≡ n + l.condition_blocks → Stands fr.code at (l.condition n t fa h (not nx))
      → Does k fr (TestAt b scopes t h fa vars) (machine k fr at vars s) s.fuel (and_then (x.value functions s) (λ v. pure (operate_unary unary.Not v)))
  not_condition x l f p scopes s at vars n t h fa nx e fit hold le falls st =
      let r = value_fits f scopes fit in
      let post = TestAt b scopes t h fa vars in
      then_at k fr ok (TestAt b scopes t fa h vars) (λ v. start (if is_zero v then h else fa)) (λ v s1 a1 vars1 z. z.at_is) post (machine k fr at vars s) s.fuel (x.value functions s) (λ v. pure (operate_unary unary.Not v))
      (p.condition scopes s at vars n t fa h (not nx) e r.1 r.0 hold le (turned nx ∙ falls) st)
      (λ v s1 vars1 z. does_nothing k fr post (start (if is_zero v then h else fa)) vars1 s1 (operate_unary unary.Not v) (record { at_is = by (v.word == 0); holds = z.holds; kept = z.kept }))
    where
      turned : (d : Bool) → (if not d then fa else h) ≡ (if d then h else fa)
      turned true = refl
      turned false = refl

      by : (d : Bool) → start (if d then h else fa) ≡ start (if is_zero (truth d) then fa else h)
      by true = refl
      by false = refl

  unary_follows : (op : UnaryOp) (x : Meaning) (l : LowExpr) (f : Fit) (at0 : ℕ) → Follows x l f → Follows (expression_step (Expr-F.Unary op x at0)) (low_step b.names (Expr-F.Unary op l at0)) (fit_step b.names (Expr-F.Unary op f at0))
  unary_follows op x l f at0 p = by op
    where
      as_plain : (o : UnaryOp) → Follows (expression_step (Expr-F.Unary o x at0)) (plain l.blocks (λ n t. l.value n t ++ unary_lines o t (t + 1)) (unary_type o l.is_unsigned)) (fit_step b.names (Expr-F.Unary o f at0))
      as_plain o = plain_follows (expression_step (Expr-F.Unary o x at0)) l.blocks (λ n t. l.value n t ++ unary_lines o t (t + 1)) (unary_type o l.is_unsigned) false (fit_step b.names (Expr-F.Unary o f at0)) refl refl
          (λ scopes types a fit. ap (unary_type o) (p.typed scopes types a (value_fits f scopes fit).1)) (unary_value_ends o l p.value_ends) (unary_value o x l f p)

      by : (o : UnaryOp) → Follows (expression_step (Expr-F.Unary o x at0)) (low_step b.names (Expr-F.Unary o l at0)) (fit_step b.names (Expr-F.Unary o f at0))
      by unary.Minus = as_plain unary.Minus
      by unary.Plus = as_plain unary.Plus
      by unary.Flip = as_plain unary.Flip
      by unary.Not = let q = as_plain unary.Not in record {
        same_void = q.same_void;
        typed = q.typed;
        place_typed = q.place_typed;
        value_ends = q.value_ends;
        value = q.value;
        condition_ends = λ at n t h fa nx e. p.condition_ends at n t fa h (not nx) e;
        condition = λ scopes s at vars n t h fa nx e fit not_void hold le falls st. not_condition x l f p scopes s at vars n t h fa nx e fit hold le falls st;
        place_ends = q.place_ends;
        place = q.place;
      }

  abbrev two_lines : BinaryOp → LowExpr → LowExpr → ℕ → ℕ → List Line
  two_lines op l1 l2 n t = l1.value n t ++ (l2.value (n + l1.blocks) (t + 1) ++ binary_lines op (operand_type op l1.is_unsigned l2.is_unsigned) t (t + 1))

  binary_follows : (op : BinaryOp) (x1 x2 : Meaning) (l1 l2 : LowExpr) (f1 f2 : Fit) (at0 : ℕ) → Follows x1 l1 f1 → Follows x2 l2 f2 → Follows (expression_step (Expr-F.Binary op x1 x2 at0)) (low_step b.names (Expr-F.Binary op l1 l2 at0)) (fit_step b.names (Expr-F.Binary op f1 f2 at0))
  binary_follows op x1 x2 l1 l2 f1 f2 at0 p q = plain_follows (expression_step (Expr-F.Binary op x1 x2 at0)) (l1.blocks + l2.blocks) (two_lines op l1 l2) (binary_type op l1.is_unsigned l2.is_unsigned) false (fit_step b.names (Expr-F.Binary op f1 f2 at0)) refl refl
      (λ scopes types a fit. let z = both (has_value f1 scopes) (has_value f2 scopes) fit in ap (λ w. binary_type op w (x2.is_unsigned types functions.is_unsigned)) (p.typed scopes types a (value_fits f1 scopes z.0).1) ∙ ap (binary_type op l1.is_unsigned) (q.typed scopes types a (value_fits f2 scopes z.1).1))
      ends does
    where
      ops_end : (o : BinaryOp) (u : Bool) (a : Spot) (t : ℕ) → (past a (binary_lines o u t (t + 1))).block ≡ a.block
      ops_end c.Mul u a t = refl
      ops_end c.Div u a t = refl
      ops_end c.Rem u a t = refl
      ops_end c.Add u a t = refl
      ops_end c.Sub u a t = refl
      ops_end c.Shl u a t = refl
      ops_end c.Shr u a t = refl
      ops_end c.Lt u a t = refl
      ops_end c.Gt u a t = refl
      ops_end c.Le u a t = refl
      ops_end c.Ge u a t = refl
      ops_end c.Eq u a t = refl
      ops_end c.Ne u a t = refl
      ops_end c.And u a t = refl
      ops_end c.Xor u a t = refl
      ops_end c.Or u a t = refl

      ends : (at : Spot) (n t : ℕ) → at.block ≡ n → (past at (two_lines op l1 l2 n t)).block ≡ n + (l1.blocks + l2.blocks)
      ends at n t e =
          let m : ℕ = n + l1.blocks in
          let ops : List Line = binary_lines op (operand_type op l1.is_unsigned l2.is_unsigned) t (t + 1) in
          let g : m + l2.blocks ≡ n + (l1.blocks + l2.blocks) = omega arith in
          ap (λ z. z.block) (past-append at (l1.value n t) (l2.value m (t + 1) ++ ops) ∙ past-append (past at (l1.value n t)) (l2.value m (t + 1)) ops)
          ∙ ops_end op (operand_type op l1.is_unsigned l2.is_unsigned) (past (past at (l1.value n t)) (l2.value m (t + 1))) t
          ∙ q.value_ends (past at (l1.value n t)) m (t + 1) (p.value_ends at n t e) ∙ g

      does : (scopes : Scopes) (s : State) (at : Spot) (vars : Variables) (n t : ℕ) → at.block ≡ n → (has_value f1 scopes && has_value f2 scopes) ≡ true → Holds b scopes s vars → b.free ≤ t → Stands fr.code at (two_lines op l1 l2 n t) → Does k fr (ValueAt b scopes (binary_type op l1.is_unsigned l2.is_unsigned) false t (past at (two_lines op l1 l2 n t)) vars) (machine k fr at vars s) s.fuel (binary op (x1.value functions) (x2.value functions) s)
      does scopes s at vars n t e fit hold le st =
          let m : ℕ = n + l1.blocks in
          let ops : List Line = binary_lines op (operand_type op l1.is_unsigned l2.is_unsigned) t (t + 1) in
          let right : List Line = l2.value m (t + 1) in
          let at1 : Spot = past at (l1.value n t) in
          let at2 : Spot = past at1 right in
          let z = both (has_value f1 scopes) (has_value f2 scopes) fit in
          let r1 = value_fits f1 scopes z.0 in
          let r2 = value_fits f2 scopes z.1 in
          let st1 = stands_back fr.code at (l1.value n t) (right ++ ops) st in
          let goal : past at2 ops ≡ past at (l1.value n t ++ (right ++ ops)) = sym (past-append at (l1.value n t) (right ++ ops) ∙ past-append at1 right ops) in
          let post = ValueAt b scopes (binary_type op l1.is_unsigned l2.is_unsigned) false t (past at (l1.value n t ++ (right ++ ops))) vars in
          then_at k fr ok (ValueAt b scopes l1.is_unsigned l1.is_void t at1 vars) (λ v. at1) (λ v s1 a1 vars1 w. w.at_is) post (machine k fr at vars s) s.fuel (x1.value functions s) _
          (p.value scopes s at vars n t e r1.1 hold le (stands_front fr.code at (l1.value n t) (right ++ ops) st))
          (λ x s1 vars1 w. then_at k fr ok (ValueAt b scopes l2.is_unsigned l2.is_void (t + 1) at2 vars1) (λ v. at2) (λ v s2 a2 vars2 w2. w2.at_is) post (machine k fr at1 vars1 s1) s1.fuel (x2.value functions s1) _
          (q.value scopes s1 at1 vars1 m (t + 1) (p.value_ends at n t e) r2.1 w.holds (omega (arith, le)) (stands_front fr.code at1 right ops st1))
          (λ y s2 vars2 w2. does_more k fr (ValueAt b scopes (binary_type op l1.is_unsigned l2.is_unsigned) false t (past at2 ops) vars2) post (machine k fr at2 vars2 s2) s2.fuel (lift (operate op x y) s2)
          (operate_does op x y l1.is_unsigned l2.is_unsigned scopes s2 at2 vars2 t le w2.holds w.typed w2.typed (w2.kept.at t le (omega arith) ∙ w.word (p.same_void ∙ r1.0)) (w2.word (q.same_void ∙ r2.0)) w.small w2.small (stands_back fr.code at1 right ops st1))
          (λ v s3 at3 vars3 w3. record { at_is = w3.at_is ∙ goal; holds = w3.holds; word = w3.word; typed = w3.typed; small = w3.small; kept = temps_on b.free t t vars vars1 vars3 (omega arith) w.kept (temps_on b.free t t vars1 vars2 vars3 (omega arith) (record { at = λ i fi it. w2.kept.at i fi (omega (arith, it)) }) w3.kept) })))

  logic_follows : (is_and : Bool) (x1 x2 : Meaning) (l1 l2 : LowExpr) (f1 f2 : Fit) (at0 : ℕ) → Follows x1 l1 f1 → Follows x2 l2 f2 → Follows (expression_step (Expr-F.Logic is_and x1 x2 at0)) (low_step b.names (Expr-F.Logic is_and l1 l2 at0)) (fit_step b.names (Expr-F.Logic is_and f1 f2 at0))
  logic_follows is_and x1 x2 l1 l2 f1 f2 at0 p q =
      let blocks : ℕ = l1.condition_blocks + l2.condition_blocks in
      let r = plain_follows (expression_step (Expr-F.Logic is_and x1 x2 at0)) (blocks + 2) (truth_lines blocks (logic_lines is_and l1 l2)) false false (fit_step b.names (Expr-F.Logic is_and f1 f2 at0)) refl refl (λ scopes types a f. refl)
      (λ at n t e. ap (λ z. z.block) (truth_ends blocks (logic_lines is_and l1 l2) at n t (logic_ends is_and l1 l2 p.condition_ends q.condition_ends at n t (n + blocks) (n + blocks + 1) true e)))
      (λ scopes s at vars n t e fit hold le st. truth_does (logic is_and (x1.value functions) (x2.value functions)) blocks (logic_lines is_and l1 l2) scopes s at vars n t le (logic_ends is_and l1 l2 p.condition_ends q.condition_ends at n t (n + blocks) (n + blocks + 1) true e) st
      (λ st1. let z = both (has_value f1 scopes) (has_value f2 scopes) fit in let r1 = value_fits f1 scopes z.0 in let r2 = value_fits f2 scopes z.1 in
      logic_does is_and x1 x2 l1 l2 f1 f2 p q scopes s at vars n t (n + blocks) (n + blocks + 1) true e r1.1 r1.0 r2.1 r2.0 hold le refl st1)) in
      record {
        same_void = r.same_void;
        typed = r.typed;
        place_typed = r.place_typed;
        value_ends = r.value_ends;
        value = r.value;
        condition_ends = λ at n t h fa nx e. logic_ends is_and l1 l2 p.condition_ends q.condition_ends at n t h fa nx e;
        condition = λ scopes s at vars n t h fa nx e fit not_void hold le falls st.
            let z = both (has_value f1 scopes) (has_value f2 scopes) fit in let r1 = value_fits f1 scopes z.0 in let r2 = value_fits f2 scopes z.1 in
            does_more k fr (TruthAt scopes t h fa vars) (TestAt b scopes t h fa vars) (machine k fr at vars s) s.fuel (logic is_and (x1.value functions) (x2.value functions) s)
            (logic_does is_and x1 x2 l1 l2 f1 f2 p q scopes s at vars n t h fa nx e r1.1 r1.0 r2.1 r2.0 hold le falls st)
            (λ v s1 at1 vars1 w. w.tested);
        place_ends = r.place_ends;
        place = r.place;
      }

  choose_follows : (xt xa xb : Meaning) (lt la lb : LowExpr) (ft fa fb : Fit) (at0 : ℕ) → Follows xt lt ft → Follows xa la fa → Follows xb lb fb → Follows (expression_step (Expr-F.Choose xt xa xb at0)) (low_step b.names (Expr-F.Choose lt la lb at0)) (fit_step b.names (Expr-F.Choose ft fa fb at0))
  choose_follows xt xa xb lt la lb ft fa fb at0 pt pa pb = plain_follows (expression_step (Expr-F.Choose xt xa xb at0)) (lt.condition_blocks + la.blocks + 1 + lb.blocks + 1) (choose_lines lt la lb) (common la.is_unsigned lb.is_unsigned) false (fit_step b.names (Expr-F.Choose ft fa fb at0)) refl refl
      (λ scopes types a fit. let z = parts scopes fit in type types scopes a (value_fits fa scopes z.1.0).1 (value_fits fb scopes z.1.1).1)
      (λ at n t e. ap (λ z. z.block) (choose_ends lt la lb at n t (pt.condition_ends at n t (n + lt.condition_blocks) (n + lt.condition_blocks + la.blocks + 1) true e) (λ m. pa.value_ends (start m) m t refl) (λ m. pb.value_ends (start m) m t refl)).1 ∙ (let g : n + lt.condition_blocks + la.blocks + 1 + lb.blocks + 1 ≡ n + (lt.condition_blocks + la.blocks + 1 + lb.blocks + 1) = omega arith in g))
      (λ scopes s at vars n t e fit hold le st. let z = parts scopes fit in let rt = value_fits ft scopes z.0 in let ra = value_fits fa scopes z.1.0 in let rb = value_fits fb scopes z.1.1 in
      choose_does (λ names. common (xa.is_unsigned names functions.is_unsigned) (xb.is_unsigned names functions.is_unsigned)) xt xa xb lt la lb ft fa fb pt pa pb scopes s at vars n t e rt.1 rt.0 ra.1 ra.0 rb.1 rb.0 (λ types a. type types scopes a ra.1 rb.1) hold le st)
    where
      parts : (scopes : Scopes) → (has_value ft scopes && (has_value fa scopes && has_value fb scopes)) ≡ true → (has_value ft scopes ≡ true) × ((has_value fa scopes ≡ true) × (has_value fb scopes ≡ true))
      parts scopes fit = let z = both (has_value ft scopes) (has_value fa scopes && has_value fb scopes) fit in (z.0, both (has_value fa scopes) (has_value fb scopes) z.1)

      type : (types : ℕ → Bool) (scopes : Scopes) → Agree b scopes types → fa.fits scopes ≡ true → fb.fits scopes ≡ true → common (xa.is_unsigned types functions.is_unsigned) (xb.is_unsigned types functions.is_unsigned) ≡ common la.is_unsigned lb.is_unsigned
      type types scopes a f1 f2 = ap (λ w. common w (xb.is_unsigned types functions.is_unsigned)) (pa.typed scopes types a f1) ∙ ap (common la.is_unsigned) (pb.typed scopes types a f2)

  assign_follows : (op : Option BinaryOp) (xp xr : Meaning) (lp lr : LowExpr) (fp fv : Fit) (at0 : ℕ) → Follows xp lp fp → Follows xr lr fv → Follows (expression_step (Expr-F.Assign op xp xr at0)) (low_step b.names (Expr-F.Assign op lp lr at0)) (fit_step b.names (Expr-F.Assign op fp fv at0))
  assign_follows op xp xr lp lr fp fv at0 pp pr = plain_follows (expression_step (Expr-F.Assign op xp xr at0)) (lp.place_blocks + lr.blocks) (λ n t. assign_with_lines b.names op lp lr n t (beside lp.target t)) lp.is_unsigned false (fit_step b.names (Expr-F.Assign op fp fv at0)) refl refl
      (λ scopes types a fit. pp.typed scopes types a (parts scopes fit).0.1)
      (ends op)
      (λ scopes s at vars n t e fit hold le st. let z = parts scopes fit in let r = value_fits fv scopes z.1 in does op scopes s at vars n t e z.0.0 z.0.1 r.0 r.1 hold le st)
    where
      parts : (scopes : Scopes) → ((fp.is_place && fp.fits scopes) && has_value fv scopes) ≡ true → ((fp.is_place ≡ true) × (fp.fits scopes ≡ true)) × (has_value fv scopes ≡ true)
      parts scopes fit = let z = both (fp.is_place && fp.fits scopes) (has_value fv scopes) fit in (both fp.is_place (fp.fits scopes) z.0, z.1)

      moved_ends : (y : Target) (t : ℕ) (a : Spot) → (past a (moved_down y t (beside y t))).block ≡ a.block
      moved_ends Neither t a = refl
      moved_ends (Named n) t a = refl
      moved_ends (Indexed n) t a = refl

      ops_end : (o : BinaryOp) (u : Bool) (a : Spot) (t : ℕ) → (past a (binary_lines o u t (t + 1))).block ≡ a.block
      ops_end c.Mul u a t = refl
      ops_end c.Div u a t = refl
      ops_end c.Rem u a t = refl
      ops_end c.Add u a t = refl
      ops_end c.Sub u a t = refl
      ops_end c.Shl u a t = refl
      ops_end c.Shr u a t = refl
      ops_end c.Lt u a t = refl
      ops_end c.Gt u a t = refl
      ops_end c.Le u a t = refl
      ops_end c.Ge u a t = refl
      ops_end c.Eq u a t = refl
      ops_end c.Ne u a t = refl
      ops_end c.And u a t = refl
      ops_end c.Xor u a t = refl
      ops_end c.Or u a t = refl

      ends : (o : Option BinaryOp) (at : Spot) (n t : ℕ) → at.block ≡ n → (past at (assign_with_lines b.names o lp lr n t (beside lp.target t))).block ≡ n + (lp.place_blocks + lr.blocks)
      ends None at n t e =
          let y : Target = lp.target in let u : ℕ = beside y t in let m : ℕ = n + lp.place_blocks in
          let tail : List Line = Step (write_step (target_symbol b.names y) t u) ∷ moved_down y t u in
          let at1 : Spot = past at (lp.place n t) in
          let g : m + lr.blocks ≡ n + (lp.place_blocks + lr.blocks) = omega arith in
          ap (λ z. z.block) (past-append at (lp.place n t) (lr.value m u ++ tail) ∙ past-append at1 (lr.value m u) tail)
          ∙ moved_ends y t (next (past at1 (lr.value m u))) ∙ pr.value_ends at1 m u (pp.place_ends at n t e) ∙ g
      ends (Some o) at n t e =
          let y : Target = lp.target in let u : ℕ = beside y t in let m : ℕ = n + lp.place_blocks in
          let tail : List Line = Step (write_step (target_symbol b.names y) t u) ∷ moved_down y t u in
          let ops : List Line = binary_lines o (operand_type o lp.is_unsigned lr.is_unsigned) u (u + 1) in
          let right : List Line = lr.value m (u + 1) in
          let at1 : Spot = past at (lp.place n t) in
          let at2 : Spot = past (next at1) right in
          let g : m + lr.blocks ≡ n + (lp.place_blocks + lr.blocks) = omega arith in
          ap (λ z. z.block) (past-append at (lp.place n t) (Step (read_step (target_symbol b.names y) t u) ∷ (right ++ (ops ++ tail))) ∙ past-append (next at1) right (ops ++ tail) ∙ past-append at2 ops tail)
          ∙ moved_ends y t (next (past at2 ops)) ∙ ops_end o (operand_type o lp.is_unsigned lr.is_unsigned) at2 u ∙ pr.value_ends (next at1) m (u + 1) (pp.place_ends at n t e) ∙ g

      does : (o : Option BinaryOp) (scopes : Scopes) (s : State) (at : Spot) (vars : Variables) (n t : ℕ) → at.block ≡ n → fp.is_place ≡ true → fp.fits scopes ≡ true → fv.is_void ≡ false → fv.fits scopes ≡ true → Holds b scopes s vars → b.free ≤ t → Stands fr.code at (assign_with_lines b.names o lp lr n t (beside lp.target t))
          → Does k fr (ValueAt b scopes lp.is_unsigned false t (past at (assign_with_lines b.names o lp lr n t (beside lp.target t))) vars) (machine k fr at vars s) s.fuel (assign_with o (xp.place functions) (xr.value functions) s)
      does None scopes s at vars n t e place fit_p not_void fit_v hold le st = assign_does xp xr lp lr fp fv pp pr scopes s at vars n t e place fit_p not_void fit_v hold le st
      does (Some o) scopes s at vars n t e place fit_p not_void fit_v hold le st = assign_by_does o xp xr lp lr fp fv pp pr scopes s at vars n t e place fit_p not_void fit_v hold le st

  bump_follows : (up before : Bool) (xp : Meaning) (lp : LowExpr) (fp : Fit) (at0 : ℕ) → Follows xp lp fp → Follows (expression_step (Expr-F.Bump up before xp at0)) (low_step b.names (Expr-F.Bump up before lp at0)) (fit_step b.names (Expr-F.Bump up before fp at0))
  bump_follows up before xp lp fp at0 pp = plain_follows (expression_step (Expr-F.Bump up before xp at0)) lp.place_blocks (λ n t. bump_lines b.names up before lp n t (beside lp.target t)) lp.is_unsigned false (fit_step b.names (Expr-F.Bump up before fp at0)) refl refl
      (λ scopes types a fit. pp.typed scopes types a (both fp.is_place (fp.fits scopes) fit).1)
      (λ at n t e. ap (λ z. z.block) (past-append at (lp.place n t) (Step (read_step (target_symbol b.names lp.target) t (beside lp.target t)) ∷ Step (Constant (beside lp.target t + 1) 1) ∷ Step (Operate (bump_operation up) (beside lp.target t + 1) (beside lp.target t) (beside lp.target t + 1)) ∷ Step (write_step (target_symbol b.names lp.target) t (beside lp.target t + 1)) ∷ bump_result before lp.target t (beside lp.target t)))
      ∙ result_ends before lp.target t (beside lp.target t) (next (next (next (next (past at (lp.place n t)))))) ∙ pp.place_ends at n t e)
      (λ scopes s at vars n t e fit hold le st. let z = both fp.is_place (fp.fits scopes) fit in bump_does up before xp lp fp pp scopes s at vars n t e z.0 z.1 hold le st)
    where
      result_ends : (bf : Bool) (y : Target) (t u : ℕ) (a : Spot) → (past a (bump_result bf y t u)).block ≡ a.block
      result_ends true y t u a = refl
      result_ends false Neither t u a = refl
      result_ends false (Named n) t u a = refl
      result_ends false (Indexed n) t u a = refl

  comma_follows : (x1 x2 : Meaning) (l1 l2 : LowExpr) (f1 f2 : Fit) (at0 : ℕ) → Follows x1 l1 f1 → Follows x2 l2 f2 → Follows (expression_step (Expr-F.Comma x1 x2 at0)) (low_step b.names (Expr-F.Comma l1 l2 at0)) (fit_step b.names (Expr-F.Comma f1 f2 at0))
  comma_follows x1 x2 l1 l2 f1 f2 at0 p q = plain_follows (expression_step (Expr-F.Comma x1 x2 at0)) (l1.blocks + l2.blocks) (λ n t. l1.value n t ++ l2.value (n + l1.blocks) t) l2.is_unsigned l2.is_void (fit_step b.names (Expr-F.Comma f1 f2 at0)) q.same_void refl
      (λ scopes types a fit. q.typed scopes types a (both (f1.fits scopes) (f2.fits scopes) fit).1)
      (λ at n t e. ap (λ z. z.block) (past-append at (l1.value n t) (l2.value (n + l1.blocks) t)) ∙ q.value_ends (past at (l1.value n t)) (n + l1.blocks) t (p.value_ends at n t e) ∙ (let g : n + l1.blocks + l2.blocks ≡ n + (l1.blocks + l2.blocks) = omega arith in g))
      (λ scopes s at vars n t e fit hold le st.
      let z = both (f1.fits scopes) (f2.fits scopes) fit in
      let right : List Line = l2.value (n + l1.blocks) t in
      let at1 : Spot = past at (l1.value n t) in
      let post = ValueAt b scopes l2.is_unsigned l2.is_void t (past at (l1.value n t ++ right)) vars in
      then_at k fr ok (ValueAt b scopes l1.is_unsigned l1.is_void t at1 vars) (λ v. at1) (λ v s1 a1 vars1 w. w.at_is) post (machine k fr at vars s) s.fuel (x1.value functions s) (λ v. x2.value functions)
      (p.value scopes s at vars n t e z.0 hold le (stands_front fr.code at (l1.value n t) right st))
      (λ v s1 vars1 w. does_more k fr (ValueAt b scopes l2.is_unsigned l2.is_void t (past at1 right) vars1) post (machine k fr at1 vars1 s1) s1.fuel (x2.value functions s1)
      (q.value scopes s1 at1 vars1 (n + l1.blocks) t (p.value_ends at n t e) z.1 w.holds le (stands_back fr.code at (l1.value n t) right st))
      (λ v2 s2 at2 vars2 w2. record { at_is = w2.at_is ∙ sym (past-append at (l1.value n t) right); holds = w2.holds; word = w2.word; typed = w2.typed; small = w2.small; kept = temps_on b.free t t vars vars1 vars2 (omega arith) w.kept w2.kept })))

  -- ---- every expression

  bare : Expr-F Part → Expr-F Expr
  bare y = map-Expr Part Expr (λ e. e.0) y

  each_follows : (y : Expr-F Part) → Follows (expression_step (map-Expr Expr Meaning expression (bare y))) (low_step b.names (map-Expr Expr LowExpr (low b.names) (bare y))) (fit_step b.names (map-Expr Expr Fit (fitting b.names) (bare y)))
  unfolding bare
  each_follows (Expr-F.Literal word u at0) = literal_follows word u at0
  each_follows (Expr-F.Name name at0) = name_follows name at0
  each_follows (Expr-F.Index name i at0) = index_follows name (expression i.0) (low b.names i.0) (fitting b.names i.0) at0 i.1
  each_follows (Expr-F.Call name args at0) = call_follows name args at0
  each_follows (Expr-F.Unary op x at0) = unary_follows op (expression x.0) (low b.names x.0) (fitting b.names x.0) at0 x.1
  each_follows (Expr-F.Binary op x y at0) = binary_follows op (expression x.0) (expression y.0) (low b.names x.0) (low b.names y.0) (fitting b.names x.0) (fitting b.names y.0) at0 x.1 y.1
  each_follows (Expr-F.Logic is_and x y at0) = logic_follows is_and (expression x.0) (expression y.0) (low b.names x.0) (low b.names y.0) (fitting b.names x.0) (fitting b.names y.0) at0 x.1 y.1
  each_follows (Expr-F.Choose t x y at0) = choose_follows (expression t.0) (expression x.0) (expression y.0) (low b.names t.0) (low b.names x.0) (low b.names y.0) (fitting b.names t.0) (fitting b.names x.0) (fitting b.names y.0) at0 t.1 x.1 y.1
  each_follows (Expr-F.Assign op x y at0) = assign_follows op (expression x.0) (expression y.0) (low b.names x.0) (low b.names y.0) (fitting b.names x.0) (fitting b.names y.0) at0 x.1 y.1
  each_follows (Expr-F.Bump up before x at0) = bump_follows up before (expression x.0) (low b.names x.0) (fitting b.names x.0) at0 x.1
  each_follows (Expr-F.Comma x y at0) = comma_follows (expression x.0) (expression y.0) (low b.names x.0) (low b.names y.0) (fitting b.names x.0) (fitting b.names y.0) at0 x.1 y.1
  each_follows (Expr-F.Paren x at0) = x.1

  pub follows : (e : Expr) → Follows (expression e) (low b.names e) (fitting b.names e)
  unfolding bare
  follows = ind-Expr (λ e. Follows (expression e) (low b.names e) (fitting b.names e)) (λ x y is. subst (λ z. Follows (expression (roll-Expr z)) (low b.names (roll-Expr z)) (fitting b.names (roll-Expr z))) is
      (rw (fold-roll-Expr Meaning expression_step (bare y), fold-roll-Expr LowExpr (low_step b.names) (bare y), fold-roll-Expr Fit (fit_step b.names) (bare y)) (each_follows y)))
