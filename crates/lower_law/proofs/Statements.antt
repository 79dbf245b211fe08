-- What the lines of a statement do is what the statement means.
use Rattle.std.proofs.Common.{◌≡◌, ℕ, zero, suc, ◌+◌, ◌-◌, ◌<◌, ◌≤◌, ◌^◌, Bool, true, false, not, ◌&&◌, ◌||◌, List, [], ◌∷◌, ◌++◌, map, Option, Some, None, refl, sym, ap, ◌∙◌, subst, if◌then◌else◌, ◌==◌, arith}
use Rattle.std.proofs.lemmas.Bool.{eqb-true, eqb-false, ne_eqb, eq-eqb, false≢true, not-true}
use Rattle.c_meaning.specs.declared.run.Value.{Value}
use Rattle.c_meaning.specs.declared.run.Flow.{Flow}
use Rattle.c_meaning.specs.declared.run.Flow.TheVariants.{Normal, Breaks, Continues, Returns}
use Rattle.c_syntax.specs.declared.tree.Expr.{Expr}
use Rattle.c_syntax.specs.declared.tree.Local.{Local}
use Rattle.c_syntax.specs.declared.tree.Stmt.{Stmt, roll-Stmt, map-Stmt, ind-Stmt, fold-roll-Stmt}
use Rattle.c_syntax.specs.declared.tree.Clause.{Clause, roll-Clause, map-Clause, fold-roll-Clause}
use Rattle.c_syntax.specs.declared.tree.Stmt.TheOpen.{Stmt-F, Clause-F}
use Rattle.std.specs.List.{list_any}
use Rattle.c_meaning.specs.Operators.{value, truth, is_zero, is_unsigned_type}
use Rattle.c_meaning.specs.Run.{State, Outcome, Gives, Ends, Run, and_then, ◌>>◌, pure, innermost, put_innermost, stored, without_first, entered, write, spend, spend_from}
use Rattle.c_meaning.specs.Meaning.{Calls, expression, Statement, statement, statement_step, Labelled, is_label, from_label, or_those, chosen, after_switch, switch, clause, clause_step, if_normal, in_order, in_scope, value_if, initialise, declare, after_body, turns, loop, do_loop, test_or_true, next_or_nothing, for_loop, returned}
use Rattle.mid_blocks.specs.declared.code.MidStep.TheVariants.{Constant, Copy, Operate}
use Rattle.mid_blocks.specs.declared.code.MidEnd.TheVariants.{Jump, Branch}
use Rattle.mid_blocks.specs.Lines.{Line, Step, End, line_at}
use Rattle.mid_blocks.specs.declared.code.MidOp.TheVariants.{Eq}
use Rattle.mid_blocks.specs.Run.{BlockState, Variables, with_word, word_or_zero, goes_to, truth as truth_word}
use Rattle.lower_rules.specs.Scoping.{Scopes, in_scope as is_in_scope, in_scopes, with_name, fitting, has_value, has_value_if, fits_if, Around, inside_loop, FitStmt, fits_alone, list_fits, list_after, has_variable, same_type, fit_local, value_where_due, FitClause, each_alone, each_clause, inside_switch, fit_clause_step, fitting_clause, fit_statement_step, fitting_statement}
use Rattle.lower_rules.specs.Expressions.{LowExpr, low}
use Rattle.lower_rules.specs.Statements.{Context, LowStmt, in_loop, value_blocks, value_lines, test_blocks, test_lines_if, low_if, list_blocks, list_lines, local_variable, first_lines, low_local, low_list, low_selection, low_while, low_do, low_for, LowClause, low_clause_step, case_count, case_lines, cases_count, cases_lines, block_of, clauses_blocks, clauses_lines, low_switch, low_clause, low_statement_step, low_statement}
use Rattle.lower_law.proofs.Lines.{Spot, start, past, Stands, stands_front, stands_back, past-append}
use Rattle.lower_law.proofs.Machine.{Frame, Setting, machine, Fits, Comes, comes_by, comes_on, Does, does_nothing, does_more, does_then, does_after, does_later}
use Rattle.lower_law.proofs.Scopes.{scope_names, innermost_found, innermost_entered, entered_names, innermost_closed}
use Rattle.lower_law.proofs.Holds.{Body, Held, Holds, Kept, holds_kept, with_same, with_other, is_some_from, holds_put, next}
use Rattle.lower_law.proofs.Values.{ValueAt, TestAt, then_at, then_constant, then_copy}
use Rattle.lower_law.proofs.Expressions.{CallsMeet, both, value_fits, then_jump, Follows, follows}

-- ---- scopes

-- one scope inside others, with other names than theirs
pub record Inner (outer : Scopes) (scopes : Scopes) : Type 0 where
  pub first : List ℕ
  pub is : scopes ≡ first ∷ outer
  pub apart : (n : ℕ) → in_scopes n outer ≡ true → is_in_scope n first ≡ false

pub inner_new : (outer : Scopes) → Inner outer ([] ∷ outer)
inner_new outer = record { first = []; is = refl; apart = λ n h. refl }

true_or : (c b : Bool) → b ≡ true → (if c then true else b) ≡ true
true_or true b h = refl
true_or false b h = h

inner_named : (outer scopes : Scopes) (name : ℕ) → in_scopes name scopes ≡ false → Inner outer scopes → Inner outer (with_name name scopes)
inner_named outer scopes name fresh i = record {
  first = name ∷ i.first;
  is = ap (with_name name) i.is;
  apart = λ n h.
      let other : (name == n) ≡ false = ne_eqb name n (λ e. let x : in_scopes name scopes ≡ true = ap (in_scopes name) i.is ∙ true_or (is_in_scope name i.first) (in_scopes name outer) (ap (λ m. in_scopes m outer) e ∙ h) in absurd (false≢true (sym fresh ∙ x))) in
      ap (λ (c : Bool). if c then true else is_in_scope n i.first) other ∙ i.apart n h;
}

pub close_holds : (b : Body) (outer scopes : Scopes) (s : State) (vars : Variables) → Inner outer scopes → Holds b scopes s vars → Holds b outer (record s { scopes = without_first s.scopes }) vars
close_holds b outer scopes s vars i h = record {
  scopes_are = closed s.scopes (h.scopes_are ∙ i.is);
  each = λ n v e. h.each n v (innermost_closed n v i.first outer s.scopes (h.scopes_are ∙ i.is) (i.apart n) e);
  shapes_are = h.shapes_are;
  small_globals = h.small_globals;
  small_input = h.small_input;
  fuel_below = h.fuel_below;
  active_is = h.active_is;
}
  where
    closed : (xs : _) → scope_names xs ≡ i.first ∷ outer → scope_names (without_first xs) ≡ outer
    closed [] e = cc
    closed (x ∷ xs) e = cc

pub open_holds : (b : Body) (scopes : Scopes) (s : State) (vars : Variables) → Holds b scopes s vars → Holds b ([] ∷ scopes) (record s { scopes = [] ∷ s.scopes }) vars
open_holds b scopes s vars h = record {
  scopes_are = ap (λ (l : Scopes). [] ∷ l) h.scopes_are;
  each = λ n v e. h.each n v e;
  shapes_are = h.shapes_are;
  small_globals = h.small_globals;
  small_input = h.small_input;
  fuel_below = h.fuel_below;
  active_is = h.active_is;
}

-- a new entry with 0, and its variable with 0
holds_entered : (b : Body) (scopes : Scopes) (s : State) (vars : Variables) (n i : ℕ) (u : Bool) → b.names.variable n ≡ Some i → b.names.local_unsigned n ≡ u → Holds b scopes s vars → Holds b (with_name n scopes) (record s { scopes = entered n (value 0 u) s.scopes }) (with_word vars i 0)
holds_entered b scopes s vars n i u is type h = record {
  scopes_are = entered_names n (value 0 u) s.scopes ∙ ap (with_name n) h.scopes_are;
  each = λ m v e. by m v (n == m) refl (sym (innermost_entered m n (value 0 u) s.scopes) ∙ e);
  shapes_are = h.shapes_are;
  small_globals = h.small_globals;
  small_input = h.small_input;
  fuel_below = h.fuel_below;
  active_is = h.active_is;
}
  where
    by : (m : ℕ) (v : Value) (c : Bool) → (n == m) ≡ c → (if c then Some (value 0 u) else innermost m s.scopes) ≡ Some v → Held b (with_word vars i 0) m v
    by m v true same e =
        let nm : n ≡ m = eqb-true n m same in
        let v_is : value 0 u ≡ v = cc in
        subst (λ y. Held b (with_word vars i 0) m y) v_is (subst (λ j. Held b (with_word vars i 0) j (value 0 u)) nm (record { variable = i; is = is; word = with_same vars i 0; typed = sym type; small = omega arith }))
    by m v false other e =
        let y = h.each m v e in
        record { variable = y.variable; is = y.is; word = with_other vars i y.variable 0 (λ same. eqb-false n m other (b.apart n m i is (y.is ∙ ap Some same))) ∙ y.word; typed = y.typed; small = y.small }

in_with_name : (n : ℕ) (scopes : Scopes) → in_scopes n (with_name n scopes) ≡ true
in_with_name n [] = ap (λ (c : Bool). if (if c then true else false) then true else false) (eq-eqb n n refl)
in_with_name n (x ∷ scopes) = ap (λ (c : Bool). if (if c then true else is_in_scope n x) then true else in_scopes n scopes) (eq-eqb n n refl)

same_types : (a b : Bool) → same_type a b ≡ true → a ≡ b
same_types true b h = sym h
same_types false b h = sym (not-true b h)

variable_there : (o : Option ℕ) → has_variable o ≡ true → (i : ℕ) × (o ≡ Some i)
variable_there None h = absurd (false≢true h)
variable_there (Some i) h = (i, refl)

module _ (k : Setting) (b : Body) (fr : Frame) (ok : Fits k fr) (functions : Calls) (meets : CallsMeet k b fr functions) where
  -- the machine stands at a jump to a block
  abbrev pub Jumps : Spot → ℕ → Type 0
  Jumps at to = line_at fr.code at.block at.step ≡ Some (End (Jump to))

  -- the word that is returned stands in the first free variable, where the function returns values; else it is 0
  pub record ReturnedAt (returns : Bool) (v : Value) (vars : Variables) : Type 0 where
    pub word : returns ≡ true → vars b.free ≡ Some v.word
    pub none : returns ≡ false → v.word ≡ 0
    pub small : v.word < 2 ^ 32

  -- where a statement leads: behind it, or to a jump
  abbrev pub FlowAt : Context → Around → Scopes → Scopes → Spot → Flow → State → Spot → Variables → Type 0
  FlowAt to around scopes after goal Normal s at vars = (at ≡ goal) × Holds b after s vars
  FlowAt to around scopes after goal Breaks s at vars = (around.breaks ≡ true) × Jumps at to.breaks_to × Holds b scopes s vars
  FlowAt to around scopes after goal Continues s at vars = (around.continues ≡ true) × Jumps at to.continues_to × Holds b scopes s vars
  FlowAt to around scopes after goal (Returns v) s at vars = ReturnedAt around.returns v vars × Jumps at to.returns_to × Holds b scopes s vars

  -- some scope inside the outer ones
  pub record HoldsInner (outer : Scopes) (s : State) (vars : Variables) : Type 0 where
    pub scopes : Scopes
    pub inner : Inner outer scopes
    pub holds : Holds b scopes s vars

  -- the same of a list of statements in one scope
  abbrev pub ListAt : Context → Around → Scopes → Spot → Flow → State → Spot → Variables → Type 0
  ListAt to around outer goal Normal s at vars = (at ≡ goal) × HoldsInner outer s vars
  ListAt to around outer goal Breaks s at vars = (around.breaks ≡ true) × Jumps at to.breaks_to × HoldsInner outer s vars
  ListAt to around outer goal Continues s at vars = (around.continues ≡ true) × Jumps at to.continues_to × HoldsInner outer s vars
  ListAt to around outer goal (Returns v) s at vars = ReturnedAt around.returns v vars × Jumps at to.returns_to × HoldsInner outer s vars

  pub record FollowsStmt (x : Statement) (l : LowStmt) (f : FitStmt) : Type 0 where
    pub keeps : f.is_declaration ≡ false → (scopes : Scopes) → f.after scopes ≡ scopes
    pub grows : (around : Around) (outer scopes : Scopes) → f.fits around scopes ≡ true → Inner outer scopes → Inner outer (f.after scopes)
    pub ends : (to : Context) (at : Spot) (n : ℕ) → at.block ≡ n → (past at (l.lines to n)).block ≡ n + l.blocks
    pub does : (to : Context) (around : Around) (scopes : Scopes) (s : State) (at : Spot) (vars : Variables) (n : ℕ) → to.free ≡ b.free → at.block ≡ n → f.fits around scopes ≡ true → Holds b scopes s vars → Stands fr.code at (l.lines to n)
        → Does k fr (FlowAt to around scopes (f.after scopes) (past at (l.lines to n))) (machine k fr at vars s) s.fuel (x functions s)

  abbrev pub Substatement : Type 0
  Substatement = (c : Stmt) × FollowsStmt (statement c) (low_statement b.names c) (fitting_statement b.names c)

  -- ---- steps that pay for what is spent

  then_owed : {A B : Type 0} (mid : A → State → Spot → Variables → Type 0) (post : B → State → Spot → Variables → Type 0) (b0 b1 : BlockState) (fuel : ℕ) (o : Outcome A) (go : A → Run B) → Comes k b0 1 b1 → Does k fr mid b1 fuel o → ((a : A) (s : State) (at : Spot) (vars : Variables) → mid a s at vars → s.fuel ≤ fuel → Comes k b0 (1 + (fuel - s.fuel)) (machine k fr at vars s) → Does k fr post b0 fuel (go a s)) → Does k fr post b0 fuel (and_then o go)
  then_owed mid post b0 b1 fuel (Gives a s) go p d f = f a s d.at d.vars d.holds d.no_more (comes_on k b0 b1 (machine k fr d.at d.vars s) 1 (fuel - s.fuel) (1 + (fuel - s.fuel)) (omega arith) p d.comes)
  then_owed mid post b0 b1 fuel (Ends end output) go p d f = does_later k fr post b0 b1 1 fuel (Ends end output) p d

  spends : {A : Type 0} (post : A → State → Spot → Variables → Type 0) (b0 : BlockState) (at : Spot) (vars : Variables) (s : State) (fuel : ℕ) (go : Unit {0} → Run A) → s.fuel ≤ fuel → Comes k b0 (1 + (fuel - s.fuel)) (machine k fr at vars s) → ((left : ℕ) → s.fuel ≡ suc left → Does k fr post (machine k fr at vars s) left (go tt (record s { fuel = left }))) → Does k fr post b0 fuel (and_then (spend s) go)
  spends post b0 at vars s fuel go le p f = by s.fuel refl
    where
      by : (n : ℕ) → s.fuel ≡ n → Does k fr post b0 fuel (and_then (spend_from n s) go)
      by zero e = record { last = machine k fr at vars s; comes = record { steps = p.steps; enough = omega (arith, p.enough, e, le); goes = p.goes }; end_is = refl; output_is = refl }
      by (suc left) e = does_after k fr post b0 (machine k fr at vars s) (1 + (fuel - s.fuel)) fuel left (go tt (record s { fuel = left })) (omega (arith, e, le)) (omega (arith, e, le)) p (f left e)

  jump_comes : (at : Spot) (vars : Variables) (s : State) (to : ℕ) → Jumps at to → Comes k (machine k fr at vars s) 1 (machine k fr (start to) vars s)
  jump_comes at vars s to is = comes_by k fr ok at vars s (End (Jump to)) (machine k fr (start to) vars s) is (record { reads_written = tt; index_fits = tt }) refl

  -- ---- loops

  -- what is done after each turn leads to a jump to the head
  pub record NextAt (scopes : Scopes) (head : ℕ) (u : Unit {0}) (s : State) (at : Spot) (vars : Variables) : Type 0 where
    pub jumps : Jumps at head
    pub holds : Holds b scopes s vars

  module _ (to : Context) (around : Around) (scopes : Scopes) (head inside after exit : ℕ) (bottom : Spot) (test : Run Value) (next : Run (Unit {0})) (body : Run Flow) (at_bottom : Jumps bottom after)
      (on_test : (s : State) (vars : Variables) → Holds b scopes s vars → Does k fr (TestAt b scopes b.free inside exit vars) (machine k fr (start head) vars s) s.fuel (test s))
      (on_body : (s : State) (vars : Variables) → Holds b scopes s vars → Does k fr (FlowAt (in_loop exit after to) (inside_loop around) scopes scopes bottom) (machine k fr (start inside) vars s) s.fuel (body s))
      (on_next : (s : State) (at : Spot) (vars : Variables) → Jumps at after → Holds b scopes s vars → Does k fr (NextAt scopes head) (machine k fr at vars s) s.fuel (next s)) where
    -- after the body
    body_ends : (again : Run Flow) → ((s : State) (at : Spot) (vars : Variables) → Jumps at after → Holds b scopes s vars → Does k fr (FlowAt to around scopes scopes (start exit)) (machine k fr at vars s) s.fuel (again s)) → (flow : Flow) (s : State) (at : Spot) (vars : Variables) → FlowAt (in_loop exit after to) (inside_loop around) scopes scopes bottom flow s at vars → Does k fr (FlowAt to around scopes scopes (start exit)) (machine k fr at vars s) s.fuel (after_body flow again s)
    body_ends again go Normal s at vars h = go s at vars (ap (λ z. line_at fr.code z.block z.step) h.0 ∙ at_bottom) h.1
    body_ends again go Continues s at vars h = go s at vars h.1 h.2
    body_ends again go Breaks s at vars h = then_jump k b fr ok functions meets (FlowAt to around scopes scopes (start exit)) at vars s exit s.fuel (Gives Normal s) h.1 (does_nothing k fr (FlowAt to around scopes scopes (start exit)) (start exit) vars s Normal (refl, h.2))
    body_ends again go (Returns v) s at vars h = does_nothing k fr (FlowAt to around scopes scopes (start exit)) at vars s (Returns v) h

    pub turns_do : (n : ℕ) (s : State) (at : Spot) (vars : Variables) → s.fuel < n → Jumps at head → Holds b scopes s vars → Does k fr (FlowAt to around scopes scopes (start exit)) (machine k fr at vars s) s.fuel (turns n test next body s)
    turns_do zero s at vars lt j h = absurd (omega (arith, lt))
    turns_do (suc n) s at vars lt j h =
        then_owed (TestAt b scopes b.free inside exit vars) (FlowAt to around scopes scopes (start exit)) (machine k fr at vars s) (machine k fr (start head) vars s) s.fuel (test s) _ (jump_comes at vars s head j) (on_test s vars h)
        (λ v s1 at1 vars1 z le p. turn (λ s' at' vars' lt' j' h'. turns_do n s' at' vars' lt' j' h') v (is_zero v) s1 at1 vars1 z.at_is z.holds le p)
      where
        again_does : ((s' : State) (at' : Spot) (vars' : Variables) → s'.fuel < n → Jumps at' head → Holds b scopes s' vars' → Does k fr (FlowAt to around scopes scopes (start exit)) (machine k fr at' vars' s') s'.fuel (turns n test next body s')) → (s1 : State) (at1 : Spot) (vars1 : Variables) → s1.fuel < n → Jumps at1 after → Holds b scopes s1 vars1 → Does k fr (FlowAt to around scopes scopes (start exit)) (machine k fr at1 vars1 s1) s1.fuel (and_then (next s1) (λ u. turns n test next body))
        again_does ih s1 at1 vars1 lt1 j1 h1 = does_then k fr (NextAt scopes head) (FlowAt to around scopes scopes (start exit)) (machine k fr at1 vars1 s1) s1.fuel (next s1) (λ u. turns n test next body) (on_next s1 at1 vars1 j1 h1) (λ u s2 at2 vars2 z le2. ih s2 at2 vars2 (omega (arith, lt1, le2)) z.jumps z.holds)

        body_ends_below : (m : ℕ) → m < n → ((s' : State) (at' : Spot) (vars' : Variables) → s'.fuel < n → Jumps at' head → Holds b scopes s' vars' → Does k fr (FlowAt to around scopes scopes (start exit)) (machine k fr at' vars' s') s'.fuel (turns n test next body s')) → (flow : Flow) (s1 : State) (at1 : Spot) (vars1 : Variables) → s1.fuel ≤ m → FlowAt (in_loop exit after to) (inside_loop around) scopes scopes bottom flow s1 at1 vars1 → Does k fr (FlowAt to around scopes scopes (start exit)) (machine k fr at1 vars1 s1) s1.fuel (after_body flow (next >> turns n test next body) s1)
        body_ends_below m ltm ih Normal s1 at1 vars1 le1 z = again_does ih s1 at1 vars1 (omega (arith, le1, ltm)) (ap (λ y. line_at fr.code y.block y.step) z.0 ∙ at_bottom) z.1
        body_ends_below m ltm ih Continues s1 at1 vars1 le1 z = again_does ih s1 at1 vars1 (omega (arith, le1, ltm)) z.1 z.2
        body_ends_below m ltm ih Breaks s1 at1 vars1 le1 z = then_jump k b fr ok functions meets (FlowAt to around scopes scopes (start exit)) at1 vars1 s1 exit s1.fuel (Gives Normal s1) z.1 (does_nothing k fr (FlowAt to around scopes scopes (start exit)) (start exit) vars1 s1 Normal (refl, z.2))
        body_ends_below m ltm ih (Returns v) s1 at1 vars1 le1 z = does_nothing k fr (FlowAt to around scopes scopes (start exit)) at1 vars1 s1 (Returns v) z

        turn : ((s' : State) (at' : Spot) (vars' : Variables) → s'.fuel < n → Jumps at' head → Holds b scopes s' vars' → Does k fr (FlowAt to around scopes scopes (start exit)) (machine k fr at' vars' s') s'.fuel (turns n test next body s')) → (v : Value) (c : Bool) (s1 : State) (at1 : Spot) (vars1 : Variables) → at1 ≡ start (if c then exit else inside) → Holds b scopes s1 vars1 → s1.fuel ≤ s.fuel → Comes k (machine k fr at vars s) (1 + (s.fuel - s1.fuel)) (machine k fr at1 vars1 s1)
            → Does k fr (FlowAt to around scopes scopes (start exit)) (machine k fr at vars s) s.fuel ((if c then pure Normal else (λ s'. and_then (spend s') (λ u s''. and_then (body s'') (λ flow. after_body flow (next >> turns n test next body))))) s1)
        turn ih v true s1 at1 vars1 is h1 le p = does_after k fr (FlowAt to around scopes scopes (start exit)) (machine k fr at vars s) (machine k fr at1 vars1 s1) (1 + (s.fuel - s1.fuel)) s.fuel s1.fuel (Gives Normal s1) (omega (arith, le)) le p (does_nothing k fr (FlowAt to around scopes scopes (start exit)) at1 vars1 s1 Normal (is, h1))
        turn ih v false s1 at1 vars1 is h1 le p =
            spends (FlowAt to around scopes scopes (start exit)) (machine k fr at vars s) at1 vars1 s1 s.fuel (λ u s''. and_then (body s'') (λ flow. after_body flow (next >> turns n test next body))) le p
            (λ left e. let s2 : State = record s1 { fuel = left } in
            does_then k fr (FlowAt (in_loop exit after to) (inside_loop around) scopes scopes bottom) (FlowAt to around scopes scopes (start exit)) (machine k fr at1 vars1 s1) left (body s2) (λ flow. after_body flow (next >> turns n test next body))
            (subst (λ z. Does k fr (FlowAt (in_loop exit after to) (inside_loop around) scopes scopes bottom) (machine k fr z vars1 s1) left (body s2)) (sym is) (on_body s2 vars1 (record { scopes_are = h1.scopes_are; each = h1.each; shapes_are = h1.shapes_are; small_globals = h1.small_globals; small_input = h1.small_input; fuel_below = omega (arith, e, h1.fuel_below); active_is = h1.active_is })))
            (λ flow s3 at3 vars3 z le3. body_ends_below left (omega (arith, e, le, lt)) ih flow s3 at3 vars3 le3 z))

    pub loop_does : (s : State) (at : Spot) (vars : Variables) → Jumps at head → Holds b scopes s vars → Does k fr (FlowAt to around scopes scopes (start exit)) (machine k fr at vars s) s.fuel (loop test next body s)
    loop_does s at vars j h = turns_do (suc s.fuel) s at vars (omega arith) j h

    -- the body is done once before
    pub do_loop_does : (s : State) (at : Spot) (vars : Variables) → Jumps at inside → Holds b scopes s vars → Does k fr (FlowAt to around scopes scopes (start exit)) (machine k fr at vars s) s.fuel (and_then (spend s) (λ u s1. and_then (body s1) (λ flow. after_body flow (next >> loop test next body))))
    do_loop_does s at vars j h =
        let p = jump_comes at vars s inside j in
        spends (FlowAt to around scopes scopes (start exit)) (machine k fr at vars s) (start inside) vars s s.fuel (λ u s1. and_then (body s1) (λ flow. after_body flow (next >> loop test next body))) (omega arith) (record { steps = p.steps; enough = omega (arith, p.enough); goes = p.goes })
        (λ left e. let s2 : State = record s { fuel = left } in
        does_then k fr (FlowAt (in_loop exit after to) (inside_loop around) scopes scopes bottom) (FlowAt to around scopes scopes (start exit)) (machine k fr (start inside) vars s) left (body s2) (λ flow. after_body flow (next >> loop test next body))
        (on_body s2 vars (record { scopes_are = h.scopes_are; each = h.each; shapes_are = h.shapes_are; small_globals = h.small_globals; small_input = h.small_input; fuel_below = omega (arith, e, h.fuel_below); active_is = h.active_is }))
        (λ flow s3 at3 vars3 z le3. body_ends (next >> loop test next body) (λ s4 at4 vars4 j4 h4. does_then k fr (NextAt scopes head) (FlowAt to around scopes scopes (start exit)) (machine k fr at4 vars4 s4) s4.fuel (next s4) (λ u. loop test next body) (on_next s4 at4 vars4 j4 h4) (λ u s5 at5 vars5 w le5. loop_does s5 at5 vars5 w.jumps w.holds)) flow s3 at3 vars3 z))

  -- ---- expressions in statements

  abbrev on : (e : Expr) → Follows k b fr ok functions meets (expression e) (low b.names e) (fitting b.names e)
  on e = follows k b fr ok functions meets e

  -- an expression whose value is dropped
  dropped_does : (e : Expr) (to : Context) (around : Around) (scopes : Scopes) (s : State) (at : Spot) (vars : Variables) (n : ℕ) → to.free ≡ b.free → at.block ≡ n → (fitting b.names e).fits scopes ≡ true → Holds b scopes s vars → Stands fr.code at ((low b.names e).value n to.free)
      → Does k fr (FlowAt to around scopes scopes (past at ((low b.names e).value n to.free))) (machine k fr at vars s) s.fuel (and_then ((expression e).value functions s) (λ v. pure Normal))
  dropped_does e to around scopes s at vars n free is fit h st =
      let l : LowExpr = low b.names e in
      then_at k fr ok (ValueAt b scopes l.is_unsigned l.is_void to.free (past at (l.value n to.free)) vars) (λ v. past at (l.value n to.free)) (λ v s1 a1 vars1 z. z.at_is) (FlowAt to around scopes scopes (past at (l.value n to.free))) (machine k fr at vars s) s.fuel ((expression e).value functions s) (λ v. pure Normal)
      ((on e).value scopes s at vars n to.free is fit h (omega (arith, free)) st)
      (λ v s1 vars1 z. does_nothing k fr (FlowAt to around scopes scopes (past at (l.value n to.free))) (past at (l.value n to.free)) vars1 s1 Normal (refl, z.holds))

  -- ---- lists

  abbrev stmts : List Substatement → List Stmt
  stmts cs = map (λ c. c.0) cs

  abbrev lows : List Substatement → List LowStmt
  lows cs = map (low_statement b.names) (stmts cs)

  abbrev fits_of : List Substatement → List FitStmt
  fits_of cs = map (fitting_statement b.names) (stmts cs)

  pub list_ends : (cs : List Substatement) (to : Context) (at : Spot) (n : ℕ) → at.block ≡ n → (past at (list_lines (lows cs) to n)).block ≡ n + list_blocks (lows cs)
  list_ends [] to at n e = omega (arith, e)
  list_ends (c ∷ cs) to at n e =
      let l : LowStmt = low_statement b.names c.0 in
      let rest : List Line = list_lines (lows cs) to (n + l.blocks) in
      let g : n + l.blocks + list_blocks (lows cs) ≡ n + (l.blocks + list_blocks (lows cs)) = omega arith in
      ap (λ z. z.block) (past-append at (l.lines to n) rest) ∙ list_ends cs to (past at (l.lines to n)) (n + l.blocks) (c.1.ends to at n e) ∙ g

  -- what a statement in a list leaves to the rest
  list_after_one : (to : Context) (around : Around) (outer scopes after : Scopes) (at1 goal : Spot) (rest : Run Flow) → Inner outer scopes → ((s1 : State) (vars1 : Variables) → Holds b after s1 vars1 → Does k fr (ListAt to around outer goal) (machine k fr at1 vars1 s1) s1.fuel (rest s1)) → (flow : Flow) (s1 : State) (at : Spot) (vars1 : Variables) → FlowAt to around scopes after at1 flow s1 at vars1 → Does k fr (ListAt to around outer goal) (machine k fr at vars1 s1) s1.fuel (if_normal flow rest s1)
  list_after_one to around outer scopes after at1 goal rest i go Normal s1 at vars1 h = subst (λ z. Does k fr (ListAt to around outer goal) (machine k fr z vars1 s1) s1.fuel (rest s1)) (sym h.0) (go s1 vars1 h.1)
  list_after_one to around outer scopes after at1 goal rest i go Breaks s1 at vars1 h = does_nothing k fr (ListAt to around outer goal) at vars1 s1 Breaks (h.0, h.1, record { scopes = scopes; inner = i; holds = h.2 })
  list_after_one to around outer scopes after at1 goal rest i go Continues s1 at vars1 h = does_nothing k fr (ListAt to around outer goal) at vars1 s1 Continues (h.0, h.1, record { scopes = scopes; inner = i; holds = h.2 })
  list_after_one to around outer scopes after at1 goal rest i go (Returns v) s1 at vars1 h = does_nothing k fr (ListAt to around outer goal) at vars1 s1 (Returns v) (h.0, h.1, record { scopes = scopes; inner = i; holds = h.2 })

  pub list_does : (cs : List Substatement) (to : Context) (around : Around) (outer scopes : Scopes) (s : State) (at : Spot) (vars : Variables) (n : ℕ) → to.free ≡ b.free → at.block ≡ n → list_fits (fits_of cs) around scopes ≡ true → Inner outer scopes → Holds b scopes s vars → Stands fr.code at (list_lines (lows cs) to n)
      → Does k fr (ListAt to around outer (past at (list_lines (lows cs) to n))) (machine k fr at vars s) s.fuel (in_order (map (λ c. c functions) (map statement (stmts cs))) s)
  list_does [] to around outer scopes s at vars n free is fit i h st = does_nothing k fr (ListAt to around outer at) at vars s Normal (refl, record { scopes = scopes; inner = i; holds = h })
  list_does (c ∷ cs) to around outer scopes s at vars n free is fit i h st =
      let l : LowStmt = low_statement b.names c.0 in
      let f : FitStmt = fitting_statement b.names c.0 in
      let rest : List Line = list_lines (lows cs) to (n + l.blocks) in
      let at1 : Spot = past at (l.lines to n) in
      let z = both (f.fits around scopes) (list_fits (fits_of cs) around (f.after scopes)) fit in
      let goal : past at1 rest ≡ past at (l.lines to n ++ rest) = sym (past-append at (l.lines to n) rest) in
      subst (λ g. Does k fr (ListAt to around outer g) (machine k fr at vars s) s.fuel (in_order (map (λ c'. c' functions) (map statement (stmts (c ∷ cs)))) s)) goal
      (does_then k fr (FlowAt to around scopes (f.after scopes) at1) (ListAt to around outer (past at1 rest)) (machine k fr at vars s) s.fuel (statement c.0 functions s) (λ flow. if_normal flow (in_order (map (λ c'. c' functions) (map statement (stmts cs)))))
      (c.1.does to around scopes s at vars n free is z.0 h (stands_front fr.code at (l.lines to n) rest st))
      (λ flow s1 a1 vars1 w le. list_after_one to around outer scopes (f.after scopes) at1 (past at1 rest) (in_order (map (λ c'. c' functions) (map statement (stmts cs)))) i
      (λ s2 vars2 h2. list_does cs to around outer (f.after scopes) s2 at1 vars2 (n + l.blocks) free (c.1.ends to at n is) z.1 (c.1.grows around outer scopes z.0 i) h2 (stands_back fr.code at (l.lines to n) rest st))
      flow s1 a1 vars1 w))

  -- the end of a scope
  closed_at : (to : Context) (around : Around) (scopes : Scopes) (goal : Spot) (flow : Flow) (s : State) (at : Spot) (vars : Variables) → ListAt to around scopes goal flow s at vars → FlowAt to around scopes scopes goal flow (record s { scopes = without_first s.scopes }) at vars
  closed_at to around scopes goal Normal s at vars h = (h.0, close_holds b scopes h.1.scopes s vars h.1.inner h.1.holds)
  closed_at to around scopes goal Breaks s at vars h = (h.0, h.1, close_holds b scopes h.2.scopes s vars h.2.inner h.2.holds)
  closed_at to around scopes goal Continues s at vars h = (h.0, h.1, close_holds b scopes h.2.scopes s vars h.2.inner h.2.holds)
  closed_at to around scopes goal (Returns v) s at vars h = (h.0, h.1, close_holds b scopes h.2.scopes s vars h.2.inner h.2.holds)

  scope_does : (to : Context) (around : Around) (scopes : Scopes) (goal : Spot) (part : Run Flow) (s : State) (at : Spot) (vars : Variables) → Does k fr (ListAt to around scopes goal) (machine k fr at vars s) s.fuel (part (record s { scopes = [] ∷ s.scopes })) → Does k fr (FlowAt to around scopes scopes goal) (machine k fr at vars s) s.fuel (in_scope part s)
  scope_does to around scopes goal part s at vars d = does_then k fr (ListAt to around scopes goal) (FlowAt to around scopes scopes goal) (machine k fr at vars s) s.fuel (part (record s { scopes = [] ∷ s.scopes })) (λ flow s1. Gives flow (record s1 { scopes = without_first s1.scopes })) d
      (λ flow s1 at1 vars1 h le. does_nothing k fr (FlowAt to around scopes scopes goal) at1 vars1 (record s1 { scopes = without_first s1.scopes }) flow (closed_at to around scopes goal flow s1 at1 vars1 h))

  -- ---- declarations

  first_ends : (e : Option Expr) (v t : ℕ) (at : Spot) (n : ℕ) → at.block ≡ n → (past at (first_lines (low_if b.names e) v n t)).block ≡ n + value_blocks (low_if b.names e)
  first_ends None v t at n is = omega (arith, is)
  first_ends (Some e) v t at n is = ap (λ z. z.block) (past-append at ((low b.names e).value n t) (Step (Copy v t) ∷ [])) ∙ (on e).value_ends at n t is

  abbrev DeclaredAt : Scopes → Spot → Flow → State → Spot → Variables → Type 0
  DeclaredAt after goal flow s at vars = (flow ≡ Normal) × (at ≡ goal) × Holds b after s vars

  initialised : (name i : ℕ) (e : Option Expr) (scopes : Scopes) (s : State) (at : Spot) (vars : Variables) (n t : ℕ) → t ≡ b.free → at.block ≡ n → b.names.variable name ≡ Some i → in_scopes name scopes ≡ true → has_value_if b.names e scopes ≡ true → Holds b scopes s vars → Stands fr.code at (first_lines (low_if b.names e) i n t)
      → Does k fr (DeclaredAt scopes (past at (first_lines (low_if b.names e) i n t))) (machine k fr at vars s) s.fuel (and_then (initialise name (value_if functions e) s) (λ u. pure Normal))
  initialised name i None scopes s at vars n t free is variable there fit h st = does_nothing k fr (DeclaredAt scopes at) at vars s Normal (refl, refl, h)
  initialised name i (Some e) scopes s at vars n t free is variable there fit h st =
      let l : LowExpr = low b.names e in
      let r = value_fits (fitting b.names e) scopes fit in
      let last : List Line = Step (Copy i t) ∷ [] in
      let at1 : Spot = past at (l.value n t) in
      let goal : next at1 ≡ past at (l.value n t ++ last) = sym (past-append at (l.value n t) last) in
      regroup ((expression e).value functions s)
      (then_at k fr ok (ValueAt b scopes l.is_unsigned l.is_void t at1 vars) (λ v. at1) (λ v s1 a1 vars1 z. z.at_is) (DeclaredAt scopes (past at (l.value n t ++ last))) (machine k fr at vars s) s.fuel ((expression e).value functions s) (λ v s1. Gives Normal (stored (innermost name s1.scopes) name v.word s1))
      ((on e).value scopes s at vars n t is r.1 h (omega (arith, free)) (stands_front fr.code at (l.value n t) last st))
      (λ v s1 vars1 z.
      let found = innermost_found name s1.scopes (ap (in_scopes name) z.holds.scopes_are ∙ there) in
      let x : Held b vars1 name found.0 = z.holds.each name found.0 found.1 in
      let same : x.variable ≡ i = let y : Some x.variable ≡ Some i = sym x.is ∙ variable in cc in
      let s2 : State = record s1 { scopes = put_innermost name v.word s1.scopes } in
      let h2 = holds_put b scopes s1 vars1 name v.word found.0 x found.1 z.small z.holds in
      subst (λ o. Does k fr (DeclaredAt scopes (past at (l.value n t ++ last))) (machine k fr at1 vars1 s1) s1.fuel (Gives Normal (stored o name v.word s1))) (sym found.1)
      (then_copy k fr ok (DeclaredAt scopes (past at (l.value n t ++ last))) at1 vars1 s1 i t v.word s1.fuel (Gives Normal s2) (stands_back fr.code at (l.value n t) last st).0 (z.word ((on e).same_void ∙ r.0))
      (does_nothing k fr (DeclaredAt scopes (past at (l.value n t ++ last))) (next at1) (with_word vars1 i v.word) s2 Normal (refl, goal, subst (λ j. Holds b scopes s2 (with_word vars1 j v.word)) same h2)))))
    where
      regroup : (o : Outcome Value) → Does k fr (DeclaredAt scopes (past at ((low b.names e).value n t ++ Step (Copy i t) ∷ []))) (machine k fr at vars s) s.fuel (and_then o (λ v s1. Gives Normal (stored (innermost name s1.scopes) name v.word s1)))
          → Does k fr (DeclaredAt scopes (past at ((low b.names e).value n t ++ Step (Copy i t) ∷ []))) (machine k fr at vars s) s.fuel (and_then (and_then o (λ v. write name v.word)) (λ u. pure Normal))
      regroup (Gives v s1) d = d
      regroup (Ends e1 out) d = d

  pub record LocalFits (d : Local) (scopes : Scopes) : Type 0 where
    pub fresh : in_scopes d.name scopes ≡ false
    pub variable : ℕ
    pub is : b.names.variable d.name ≡ Some variable
    pub typed : b.names.local_unsigned d.name ≡ is_unsigned_type d.ty
    pub first : has_value_if b.names d.first (with_name d.name scopes) ≡ true

  local_fits : (d : Local) (around : Around) (scopes : Scopes) → (fit_local b.names d).fits around scopes ≡ true → LocalFits d scopes
  local_fits d around scopes fit =
      let z = both (not (in_scopes d.name scopes) && (has_variable (b.names.variable d.name) && same_type (b.names.local_unsigned d.name) (is_unsigned_type d.ty))) (has_value_if b.names d.first (with_name d.name scopes)) fit in
      let y = both (not (in_scopes d.name scopes)) (has_variable (b.names.variable d.name) && same_type (b.names.local_unsigned d.name) (is_unsigned_type d.ty)) z.0 in
      let x = both (has_variable (b.names.variable d.name)) (same_type (b.names.local_unsigned d.name) (is_unsigned_type d.ty)) y.1 in
      let v = variable_there (b.names.variable d.name) x.0 in
      record { fresh = not-true (in_scopes d.name scopes) y.0; variable = v.0; is = v.1; typed = same_types (b.names.local_unsigned d.name) (is_unsigned_type d.ty) x.1; first = z.1 }

  local_ends : (d : Local) (to : Context) (at : Spot) (n : ℕ) → at.block ≡ n → (past at ((low_local b.names d).lines to n)).block ≡ n + (low_local b.names d).blocks
  local_ends d to at n is = first_ends d.first (local_variable (b.names.variable d.name)) to.free (next at) n is

  local_does : (d : Local) (to : Context) (around : Around) (scopes : Scopes) (s : State) (at : Spot) (vars : Variables) (n : ℕ) → to.free ≡ b.free → at.block ≡ n → (fit_local b.names d).fits around scopes ≡ true → Holds b scopes s vars → Stands fr.code at ((low_local b.names d).lines to n)
      → Does k fr (DeclaredAt (with_name d.name scopes) (past at ((low_local b.names d).lines to n))) (machine k fr at vars s) s.fuel (declare functions d s)
  local_does d to around scopes s at vars n free is fit h st =
      let q = local_fits d around scopes fit in
      let variable : local_variable (b.names.variable d.name) ≡ q.variable = ap local_variable q.is in
      let s1 : State = record s { scopes = entered d.name (value 0 (is_unsigned_type d.ty)) s.scopes } in
      let h1 = holds_entered b scopes s vars d.name q.variable (is_unsigned_type d.ty) q.is q.typed h in
      let rest = λ (i : ℕ). first_lines (low_if b.names d.first) i n to.free in
      let st' = subst (λ i. Stands fr.code at (Step (Constant i 0) ∷ rest i)) variable st in
      subst (λ i. Does k fr (DeclaredAt (with_name d.name scopes) (past at (Step (Constant i 0) ∷ rest i))) (machine k fr at vars s) s.fuel (declare functions d s)) (sym variable)
      (then_constant k fr ok (DeclaredAt (with_name d.name scopes) (past at (Step (Constant q.variable 0) ∷ rest q.variable))) at vars s q.variable 0 s.fuel (declare functions d s) st'.0
      (initialised d.name q.variable d.first (with_name d.name scopes) s1 (next at) (with_word vars q.variable 0) n to.free free is q.is (in_with_name d.name scopes) q.first h1 st'.1))

  locals_grow : (ds : List Local) (around : Around) (outer scopes : Scopes) → list_fits (map (fit_local b.names) ds) around scopes ≡ true → Inner outer scopes → Inner outer (list_after (map (fit_local b.names) ds) scopes)
  locals_grow [] around outer scopes fit i = i
  locals_grow (d ∷ ds) around outer scopes fit i =
      let z = both ((fit_local b.names d).fits around scopes) (list_fits (map (fit_local b.names) ds) around (with_name d.name scopes)) fit in
      locals_grow ds around outer (with_name d.name scopes) z.1 (inner_named outer scopes d.name (local_fits d around scopes z.0).fresh i)

  locals_end : (ds : List Local) (to : Context) (at : Spot) (n : ℕ) → at.block ≡ n → (past at (list_lines (map (low_local b.names) ds) to n)).block ≡ n + list_blocks (map (low_local b.names) ds)
  locals_end [] to at n is = omega (arith, is)
  locals_end (d ∷ ds) to at n is =
      let l : LowStmt = low_local b.names d in
      let g : n + l.blocks + list_blocks (map (low_local b.names) ds) ≡ n + (l.blocks + list_blocks (map (low_local b.names) ds)) = omega arith in
      ap (λ z. z.block) (past-append at (l.lines to n) (list_lines (map (low_local b.names) ds) to (n + l.blocks))) ∙ locals_end ds to (past at (l.lines to n)) (n + l.blocks) (local_ends d to at n is) ∙ g

  locals_do : (ds : List Local) (to : Context) (around : Around) (scopes : Scopes) (s : State) (at : Spot) (vars : Variables) (n : ℕ) → to.free ≡ b.free → at.block ≡ n → list_fits (map (fit_local b.names) ds) around scopes ≡ true → Holds b scopes s vars → Stands fr.code at (list_lines (map (low_local b.names) ds) to n)
      → Does k fr (DeclaredAt (list_after (map (fit_local b.names) ds) scopes) (past at (list_lines (map (low_local b.names) ds) to n))) (machine k fr at vars s) s.fuel (in_order (map (declare functions) ds) s)
  locals_do [] to around scopes s at vars n free is fit h st = does_nothing k fr (DeclaredAt scopes at) at vars s Normal (refl, refl, h)
  locals_do (d ∷ ds) to around scopes s at vars n free is fit h st =
      let l : LowStmt = low_local b.names d in
      let rest : List Line = list_lines (map (low_local b.names) ds) to (n + l.blocks) in
      let at1 : Spot = past at (l.lines to n) in
      let after : Scopes = list_after (map (fit_local b.names) ds) (with_name d.name scopes) in
      let z = both ((fit_local b.names d).fits around scopes) (list_fits (map (fit_local b.names) ds) around (with_name d.name scopes)) fit in
      let goal : past at1 rest ≡ past at (l.lines to n ++ rest) = sym (past-append at (l.lines to n) rest) in
      subst (λ g. Does k fr (DeclaredAt after g) (machine k fr at vars s) s.fuel (in_order (map (declare functions) (d ∷ ds)) s)) goal
      (does_then k fr (DeclaredAt (with_name d.name scopes) at1) (DeclaredAt after (past at1 rest)) (machine k fr at vars s) s.fuel (declare functions d s) (λ flow. if_normal flow (in_order (map (declare functions) ds)))
      (local_does d to around scopes s at vars n free is z.0 h (stands_front fr.code at (l.lines to n) rest st))
      (λ flow s1 a1 vars1 w le. subst (λ f. Does k fr (DeclaredAt after (past at1 rest)) (machine k fr a1 vars1 s1) s1.fuel (if_normal f (in_order (map (declare functions) ds)) s1)) (sym w.0)
      (subst (λ y. Does k fr (DeclaredAt after (past at1 rest)) (machine k fr y vars1 s1) s1.fuel (in_order (map (declare functions) ds) s1)) (sym w.1)
      (locals_do ds to around (with_name d.name scopes) s1 at1 vars1 (n + l.blocks) free (local_ends d to at n is) z.1 w.2 (stands_back fr.code at (l.lines to n) rest st)))))

  declared_flow : (to : Context) (around : Around) (scopes after : Scopes) (goal : Spot) (flow : Flow) (s : State) (at : Spot) (vars : Variables) → DeclaredAt after goal flow s at vars → FlowAt to around scopes after goal flow s at vars
  declared_flow to around scopes after goal flow s at vars h = subst (λ f. FlowAt to around scopes after goal f s at vars) (sym h.0) (h.1, h.2)

  -- ---- jumps and returns

  returned_does : (e : Option Expr) (to : Context) (around : Around) (scopes : Scopes) (s : State) (at : Spot) (vars : Variables) (n : ℕ) (goal : Spot) → to.free ≡ b.free → at.block ≡ n → value_where_due b.names e around scopes ≡ true → Holds b scopes s vars → Stands fr.code at (value_lines (low_if b.names e) n to.free ++ End (Jump to.returns_to) ∷ [])
      → Does k fr (FlowAt to around scopes scopes goal) (machine k fr at vars s) s.fuel (returned (value_if functions e) s)
  returned_does None to around scopes s at vars n goal free is fit h st =
      does_nothing k fr (FlowAt to around scopes scopes goal) at vars s (Returns (value 0 false)) (record { word = λ r. absurd (false≢true (sym (not-true around.returns fit) ∙ r)); none = λ r. refl; small = omega arith }, st.0, h)
  returned_does (Some e) to around scopes s at vars n goal free is fit h st =
      let l : LowExpr = low b.names e in
      let z = both around.returns (has_value (fitting b.names e) scopes) fit in
      let r = value_fits (fitting b.names e) scopes z.1 in
      let last : List Line = End (Jump to.returns_to) ∷ [] in
      let at1 : Spot = past at (l.value n to.free) in
      then_at k fr ok (ValueAt b scopes l.is_unsigned l.is_void to.free at1 vars) (λ v. at1) (λ v s1 a1 vars1 w. w.at_is) (FlowAt to around scopes scopes goal) (machine k fr at vars s) s.fuel ((expression e).value functions s) (λ v. pure (Returns v))
      ((on e).value scopes s at vars n to.free is r.1 h (omega (arith, free)) (stands_front fr.code at (l.value n to.free) last st))
      (λ v s1 vars1 w. does_nothing k fr (FlowAt to around scopes scopes goal) at1 vars1 s1 (Returns v)
      (record { word = λ q. ap vars1 (sym free) ∙ w.word ((on e).same_void ∙ r.0); none = λ q. absurd (false≢true (sym q ∙ z.0)); small = w.small }, (stands_back fr.code at (l.value n to.free) last st).0, w.holds))

  returned_ends : (e : Option Expr) (to : Context) (at : Spot) (n : ℕ) → at.block ≡ n → (past at (value_lines (low_if b.names e) n to.free ++ End (Jump to.returns_to) ∷ [])).block ≡ n + (value_blocks (low_if b.names e) + 1)
  returned_ends None to at n is = omega (arith, is)
  returned_ends (Some e) to at n is =
      let v = (on e).value_ends at n to.free is in
      ap (λ z. z.block) (past-append at ((low b.names e).value n to.free) (End (Jump to.returns_to) ∷ [])) ∙ (let g : (past at ((low b.names e).value n to.free)).block + 1 ≡ n + ((low b.names e).blocks + 1) = omega (arith, v) in g)

  -- ---- selection

  -- behind a substatement, the jump to what follows
  then_join : (to : Context) (around : Around) (scopes : Scopes) (bottom goal : Spot) (join : ℕ) (m : BlockState) (fuel : ℕ) (o : Outcome Flow) → Jumps bottom join → start join ≡ goal → Does k fr (FlowAt to around scopes scopes bottom) m fuel o → Does k fr (FlowAt to around scopes scopes goal) m fuel o
  then_join to around scopes bottom goal join m fuel (Ends end out) j g d = d
  then_join to around scopes bottom goal join m fuel (Gives Normal s) j g d =
      does_after k fr (FlowAt to around scopes scopes goal) m (machine k fr d.at d.vars s) (fuel - s.fuel) fuel s.fuel (Gives Normal s) (omega (arith, d.no_more)) d.no_more d.comes
      (then_jump k b fr ok functions meets (FlowAt to around scopes scopes goal) d.at d.vars s join s.fuel (Gives Normal s) (ap (λ z. line_at fr.code z.block z.step) d.holds.0 ∙ j) (does_nothing k fr (FlowAt to around scopes scopes goal) (start join) d.vars s Normal (g, d.holds.1)))
  then_join to around scopes bottom goal join m fuel (Gives Breaks s) j g d = record { at = d.at; vars = d.vars; comes = d.comes; no_more = d.no_more; holds = d.holds }
  then_join to around scopes bottom goal join m fuel (Gives Continues s) j g d = record { at = d.at; vars = d.vars; comes = d.comes; no_more = d.no_more; holds = d.holds }
  then_join to around scopes bottom goal join m fuel (Gives (Returns v) s) j g d = record { at = d.at; vars = d.vars; comes = d.comes; no_more = d.no_more; holds = d.holds }

  pub record AloneFits (f : FitStmt) (around : Around) (scopes : Scopes) : Type 0 where
    pub after : f.is_declaration ≡ false
    pub fits : f.fits around scopes ≡ true

  alone : (f : FitStmt) (around : Around) (scopes : Scopes) → fits_alone f around scopes ≡ true → AloneFits f around scopes
  alone f around scopes h = let z = both (not f.is_declaration) (f.fits around scopes) h in record { after = not-true f.is_declaration z.0; fits = z.1 }

  alone_does : (x : Statement) (l : LowStmt) (f : FitStmt) → FollowsStmt x l f → (to : Context) (around : Around) (scopes : Scopes) (s : State) (at : Spot) (vars : Variables) (n : ℕ) → to.free ≡ b.free → at.block ≡ n → fits_alone f around scopes ≡ true → Holds b scopes s vars → Stands fr.code at (l.lines to n) → Does k fr (FlowAt to around scopes scopes (past at (l.lines to n))) (machine k fr at vars s) s.fuel (x functions s)
  alone_does x l f p to around scopes s at vars n free is fit h st =
      let z = alone f around scopes fit in
      subst (λ sc. Does k fr (FlowAt to around scopes sc (past at (l.lines to n))) (machine k fr at vars s) s.fuel (x functions s)) (p.keeps z.after scopes) (p.does to around scopes s at vars n free is z.fits h st)

  block_end : (at : Spot) (lines : List Line) (e : _) (m : ℕ) → (past at lines).block ≡ m → past at (lines ++ End e ∷ []) ≡ start (m + 1)
  block_end at lines e m is = past-append at lines (End e ∷ []) ∙ ap (λ n. start (n + 1)) is

  if_does : (test : Expr) (xa : Statement) (la : LowStmt) (fa : FitStmt) → FollowsStmt xa la fa → (to : Context) (around : Around) (scopes : Scopes) (s : State) (at : Spot) (vars : Variables) (n : ℕ) → to.free ≡ b.free → at.block ≡ n → has_value (fitting b.names test) scopes ≡ true → fits_alone fa around scopes ≡ true → Holds b scopes s vars → Stands fr.code at ((low_selection (low b.names test) la None).lines to n)
      → Does k fr (FlowAt to around scopes scopes (start (n + (low b.names test).condition_blocks + la.blocks + 1))) (machine k fr at vars s) s.fuel (and_then ((expression test).value functions s) (λ t. if is_zero t then pure Normal else xa functions))
  if_does test xa la fa p to around scopes s at vars n free is fit_t fit_a h st =
      let l : LowExpr = low b.names test in
      let yes_at : ℕ = n + l.condition_blocks in
      let join : ℕ = yes_at + la.blocks + 1 in
      let cond : List Line = l.condition n to.free yes_at join true in
      let rest : List Line = la.lines to yes_at ++ End (Jump join) ∷ [] in
      let r = value_fits (fitting b.names test) scopes fit_t in
      let st1 = subst (λ z. Stands fr.code z rest) ((on test).condition_ends at n to.free yes_at join true is) (stands_back fr.code at cond rest st) in
      let bottom : Spot = past (start yes_at) (la.lines to yes_at) in
      let j = (stands_back fr.code (start yes_at) (la.lines to yes_at) (End (Jump join) ∷ []) st1).0 in
      let post = FlowAt to around scopes scopes (start join) in
      then_at k fr ok (TestAt b scopes to.free yes_at join vars) (λ t. start (if is_zero t then join else yes_at)) (λ v s1 a1 vars1 z. z.at_is) post (machine k fr at vars s) s.fuel ((expression test).value functions s) (λ t. if is_zero t then pure Normal else xa functions)
      ((on test).condition scopes s at vars n to.free yes_at join true is r.1 r.0 h (omega (arith, free)) refl (stands_front fr.code at cond rest st))
      (λ t s1 vars1 z. by (is_zero t) s1 vars1 z.holds
      (then_join to around scopes bottom (start join) join (machine k fr (start yes_at) vars1 s1) s1.fuel (xa functions s1) j refl (alone_does xa la fa p to around scopes s1 (start yes_at) vars1 yes_at free refl fit_a z.holds (stands_front fr.code (start yes_at) (la.lines to yes_at) (End (Jump join) ∷ []) st1))))
    where
      by : (c : Bool) (s1 : State) (vars1 : Variables) → Holds b scopes s1 vars1
          → Does k fr (FlowAt to around scopes scopes (start (n + (low b.names test).condition_blocks + la.blocks + 1))) (machine k fr (start (n + (low b.names test).condition_blocks)) vars1 s1) s1.fuel (xa functions s1)
          → Does k fr (FlowAt to around scopes scopes (start (n + (low b.names test).condition_blocks + la.blocks + 1))) (machine k fr (start (if c then (n + (low b.names test).condition_blocks + la.blocks + 1) else (n + (low b.names test).condition_blocks))) vars1 s1) s1.fuel ((if c then pure Normal else xa functions) s1)
      by true s1 vars1 h1 d = does_nothing k fr (FlowAt to around scopes scopes (start (n + (low b.names test).condition_blocks + la.blocks + 1))) (start (n + (low b.names test).condition_blocks + la.blocks + 1)) vars1 s1 Normal (refl, h1)
      by false s1 vars1 h1 d = d

  if_else_does : (test : Expr) (xa xc : Statement) (la lc : LowStmt) (fa fc : FitStmt) → FollowsStmt xa la fa → FollowsStmt xc lc fc → (to : Context) (around : Around) (scopes : Scopes) (s : State) (at : Spot) (vars : Variables) (n : ℕ) → to.free ≡ b.free → at.block ≡ n → has_value (fitting b.names test) scopes ≡ true → fits_alone fa around scopes ≡ true → fits_alone fc around scopes ≡ true → Holds b scopes s vars → Stands fr.code at ((low_selection (low b.names test) la (Some lc)).lines to n)
      → Does k fr (FlowAt to around scopes scopes (start (n + (low b.names test).condition_blocks + la.blocks + 1 + lc.blocks + 1))) (machine k fr at vars s) s.fuel (and_then ((expression test).value functions s) (λ t. if is_zero t then xc functions else xa functions))
  if_else_does test xa xc la lc fa fc p q to around scopes s at vars n free is fit_t fit_a fit_c h st =
      let l : LowExpr = low b.names test in
      let yes_at : ℕ = n + l.condition_blocks in
      let no_at : ℕ = yes_at + la.blocks + 1 in
      let join : ℕ = no_at + lc.blocks + 1 in
      let cond : List Line = l.condition n to.free yes_at no_at true in
      let tail : List Line = lc.lines to no_at ++ End (Jump join) ∷ [] in
      let rest : List Line = la.lines to yes_at ++ (End (Jump join) ∷ tail) in
      let r = value_fits (fitting b.names test) scopes fit_t in
      let st1 = subst (λ z. Stands fr.code z rest) ((on test).condition_ends at n to.free yes_at no_at true is) (stands_back fr.code at cond rest st) in
      let bottom_a : Spot = past (start yes_at) (la.lines to yes_at) in
      let st2 = stands_back fr.code (start yes_at) (la.lines to yes_at) (End (Jump join) ∷ tail) st1 in
      let to_no : start (bottom_a.block + 1) ≡ start no_at = ap (λ m. start (m + 1)) (p.ends to (start yes_at) yes_at refl) in
      let st3 = subst (λ z. Stands fr.code z tail) to_no st2.1 in
      let bottom_c : Spot = past (start no_at) (lc.lines to no_at) in
      let j = (stands_back fr.code (start no_at) (lc.lines to no_at) (End (Jump join) ∷ []) st3).0 in
      let post = FlowAt to around scopes scopes (start join) in
      then_at k fr ok (TestAt b scopes to.free yes_at no_at vars) (λ t. start (if is_zero t then no_at else yes_at)) (λ v s1 a1 vars1 z. z.at_is) post (machine k fr at vars s) s.fuel ((expression test).value functions s) (λ t. if is_zero t then xc functions else xa functions)
      ((on test).condition scopes s at vars n to.free yes_at no_at true is r.1 r.0 h (omega (arith, free)) refl (stands_front fr.code at cond rest st))
      (λ t s1 vars1 z. by (is_zero t) s1 vars1
      (then_join to around scopes bottom_c (start join) join (machine k fr (start no_at) vars1 s1) s1.fuel (xc functions s1) j refl (alone_does xc lc fc q to around scopes s1 (start no_at) vars1 no_at free refl fit_c z.holds (stands_front fr.code (start no_at) (lc.lines to no_at) (End (Jump join) ∷ []) st3)))
      (then_join to around scopes bottom_a (start join) join (machine k fr (start yes_at) vars1 s1) s1.fuel (xa functions s1) st2.0 refl (alone_does xa la fa p to around scopes s1 (start yes_at) vars1 yes_at free refl fit_a z.holds (stands_front fr.code (start yes_at) (la.lines to yes_at) (End (Jump join) ∷ tail) st1))))
    where
      by : (c : Bool) (s1 : State) (vars1 : Variables)
          → Does k fr (FlowAt to around scopes scopes (start (n + (low b.names test).condition_blocks + la.blocks + 1 + lc.blocks + 1))) (machine k fr (start (n + (low b.names test).condition_blocks + la.blocks + 1)) vars1 s1) s1.fuel (xc functions s1)
          → Does k fr (FlowAt to around scopes scopes (start (n + (low b.names test).condition_blocks + la.blocks + 1 + lc.blocks + 1))) (machine k fr (start (n + (low b.names test).condition_blocks)) vars1 s1) s1.fuel (xa functions s1)
          → Does k fr (FlowAt to around scopes scopes (start (n + (low b.names test).condition_blocks + la.blocks + 1 + lc.blocks + 1))) (machine k fr (start (if c then (n + (low b.names test).condition_blocks + la.blocks + 1) else (n + (low b.names test).condition_blocks))) vars1 s1) s1.fuel ((if c then xc functions else xa functions) s1)
      by true s1 vars1 on_c on_a = on_c
      by false s1 vars1 on_c on_a = on_a

  -- ---- the three loops

  jump_on : (scopes : Scopes) (head : ℕ) (s : State) (at : Spot) (vars : Variables) → Jumps at head → Holds b scopes s vars → Does k fr (NextAt scopes head) (machine k fr at vars s) s.fuel (Gives tt s)
  jump_on scopes head s at vars j h = does_nothing k fr (NextAt scopes head) at vars s tt (record { jumps = j; holds = h })

  while_end : (test : Expr) (lb : LowStmt) (to : Context) (at : Spot) (n : ℕ) → at.block ≡ n → ((c : Context) (m : ℕ) → (past (start m) (lb.lines c m)).block ≡ m + lb.blocks) → past at ((low_while (low b.names test) lb).lines to n) ≡ start (n + 1 + (low b.names test).condition_blocks + lb.blocks + 1)
  while_end test lb to at n is pb =
      let l : LowExpr = low b.names test in
      let head : ℕ = n + 1 in
      let inside : ℕ = head + l.condition_blocks in
      let exit : ℕ = inside + lb.blocks + 1 in
      let cond : List Line = l.condition head to.free inside exit true in
      let rest : List Line = lb.lines (in_loop exit head to) inside ++ End (Jump head) ∷ [] in
      ap (λ m. past (start (m + 1)) (cond ++ rest)) is ∙ past-append (start head) cond rest ∙ ap (λ z. past z rest) ((on test).condition_ends (start head) head to.free inside exit true refl) ∙ block_end (start inside) (lb.lines (in_loop exit head to) inside) (Jump head) (inside + lb.blocks) (pb (in_loop exit head to) inside)

  while_does : (test : Expr) (xb : Statement) (lb : LowStmt) (fb : FitStmt) → FollowsStmt xb lb fb → (to : Context) (around : Around) (scopes : Scopes) (s : State) (at : Spot) (vars : Variables) (n : ℕ) → to.free ≡ b.free → at.block ≡ n → has_value (fitting b.names test) scopes ≡ true → fits_alone fb (inside_loop around) scopes ≡ true → Holds b scopes s vars → Stands fr.code at ((low_while (low b.names test) lb).lines to n)
      → Does k fr (FlowAt to around scopes scopes (past at ((low_while (low b.names test) lb).lines to n))) (machine k fr at vars s) s.fuel (loop ((expression test).value functions) (pure tt) (xb functions) s)
  while_does test xb lb fb p to around scopes s at vars n free is fit_t fit_b h st =
      let l : LowExpr = low b.names test in
      let head : ℕ = n + 1 in
      let inside : ℕ = head + l.condition_blocks in
      let exit : ℕ = inside + lb.blocks + 1 in
      let to1 : Context = in_loop exit head to in
      let cond : List Line = l.condition head to.free inside exit true in
      let inner : List Line = lb.lines to1 inside in
      let rest : List Line = inner ++ End (Jump head) ∷ [] in
      let r = value_fits (fitting b.names test) scopes fit_t in
      let st0 = subst (λ m. Stands fr.code (start (m + 1)) (cond ++ rest)) is st.1 in
      let st_c = stands_front fr.code (start head) cond rest st0 in
      let st1 = subst (λ z. Stands fr.code z rest) ((on test).condition_ends (start head) head to.free inside exit true refl) (stands_back fr.code (start head) cond rest st0) in
      let st_b = stands_front fr.code (start inside) inner (End (Jump head) ∷ []) st1 in
      let bottom : Spot = past (start inside) inner in
      let j = (stands_back fr.code (start inside) inner (End (Jump head) ∷ []) st1).0 in
      subst (λ g. Does k fr (FlowAt to around scopes scopes g) (machine k fr at vars s) s.fuel (loop ((expression test).value functions) (pure tt) (xb functions) s)) (sym (while_end test lb to at n is (λ c m. p.ends c (start m) m refl)))
      (loop_does to around scopes head inside head exit bottom ((expression test).value functions) (pure tt) (xb functions) j
      (λ s1 vars1 h1. subst (λ t. Does k fr (TestAt b scopes t inside exit vars1) (machine k fr (start head) vars1 s1) s1.fuel ((expression test).value functions s1)) free ((on test).condition scopes s1 (start head) vars1 head to.free inside exit true refl r.1 r.0 h1 (omega (arith, free)) refl st_c))
      (λ s1 vars1 h1. alone_does xb lb fb p to1 (inside_loop around) scopes s1 (start inside) vars1 inside free refl fit_b h1 st_b)
      (λ s1 at1 vars1 j1 h1. jump_on scopes head s1 at1 vars1 j1 h1)
      s at vars st.0 h)

  do_end : (test : Expr) (lb : LowStmt) (to : Context) (at : Spot) (n : ℕ) → at.block ≡ n → ((c : Context) (m : ℕ) → (past (start m) (lb.lines c m)).block ≡ m + lb.blocks) → past at ((low_do lb (low b.names test)).lines to n) ≡ start (n + 1 + lb.blocks + 1 + (low b.names test).condition_blocks)
  do_end test lb to at n is pb =
      let l : LowExpr = low b.names test in
      let inside : ℕ = n + 1 in
      let head : ℕ = inside + lb.blocks + 1 in
      let exit : ℕ = head + l.condition_blocks in
      let cond : List Line = l.condition head to.free inside exit false in
      let inner : List Line = lb.lines (in_loop exit head to) inside in
      ap (λ m. past (start (m + 1)) (inner ++ (End (Jump head) ∷ cond))) is ∙ past-append (start inside) inner (End (Jump head) ∷ cond) ∙ ap (λ m. past (start (m + 1)) cond) (pb (in_loop exit head to) inside) ∙ (on test).condition_ends (start head) head to.free inside exit false refl

  do_does : (test : Expr) (xb : Statement) (lb : LowStmt) (fb : FitStmt) → FollowsStmt xb lb fb → (to : Context) (around : Around) (scopes : Scopes) (s : State) (at : Spot) (vars : Variables) (n : ℕ) → to.free ≡ b.free → at.block ≡ n → has_value (fitting b.names test) scopes ≡ true → fits_alone fb (inside_loop around) scopes ≡ true → Holds b scopes s vars → Stands fr.code at ((low_do lb (low b.names test)).lines to n)
      → Does k fr (FlowAt to around scopes scopes (past at ((low_do lb (low b.names test)).lines to n))) (machine k fr at vars s) s.fuel (do_loop ((expression test).value functions) (xb functions) s)
  do_does test xb lb fb p to around scopes s at vars n free is fit_t fit_b h st =
      let l : LowExpr = low b.names test in
      let inside : ℕ = n + 1 in
      let head : ℕ = inside + lb.blocks + 1 in
      let exit : ℕ = head + l.condition_blocks in
      let to1 : Context = in_loop exit head to in
      let cond : List Line = l.condition head to.free inside exit false in
      let inner : List Line = lb.lines to1 inside in
      let r = value_fits (fitting b.names test) scopes fit_t in
      let st0 = subst (λ m. Stands fr.code (start (m + 1)) (inner ++ (End (Jump head) ∷ cond))) is st.1 in
      let st_b = stands_front fr.code (start inside) inner (End (Jump head) ∷ cond) st0 in
      let bottom : Spot = past (start inside) inner in
      let st1 = stands_back fr.code (start inside) inner (End (Jump head) ∷ cond) st0 in
      let st_c = subst (λ m. Stands fr.code (start (m + 1)) cond) (p.ends to1 (start inside) inside refl) st1.1 in
      subst (λ g. Does k fr (FlowAt to around scopes scopes g) (machine k fr at vars s) s.fuel (do_loop ((expression test).value functions) (xb functions) s)) (sym (do_end test lb to at n is (λ c m. p.ends c (start m) m refl)))
      (do_loop_does to around scopes head inside head exit bottom ((expression test).value functions) (pure tt) (xb functions) st1.0
      (λ s1 vars1 h1. subst (λ t. Does k fr (TestAt b scopes t inside exit vars1) (machine k fr (start head) vars1 s1) s1.fuel ((expression test).value functions s1)) free ((on test).condition scopes s1 (start head) vars1 head to.free inside exit false refl r.1 r.0 h1 (omega (arith, free)) refl st_c))
      (λ s1 vars1 h1. alone_does xb lb fb p to1 (inside_loop around) scopes s1 (start inside) vars1 inside free refl fit_b h1 st_b)
      (λ s1 at1 vars1 j1 h1. jump_on scopes head s1 at1 vars1 j1 h1)
      s at vars st.0 h)

  -- a test that may be left out, and what is done after each turn
  test_if_end : (e : Option Expr) (n t h f : ℕ) → past (start n) (test_lines_if (low_if b.names e) n t h f) ≡ start (n + test_blocks (low_if b.names e))
  test_if_end None n t h f = let g : n ≡ n + 0 = omega arith in ap start g
  test_if_end (Some e) n t h f = (on e).condition_ends (start n) n t h f true refl

  test_if_does : (e : Option Expr) (scopes : Scopes) (s : State) (vars : Variables) (n t f : ℕ) → t ≡ b.free → has_value_if b.names e scopes ≡ true → Holds b scopes s vars → Stands fr.code (start n) (test_lines_if (low_if b.names e) n t (n + test_blocks (low_if b.names e)) f) → Does k fr (TestAt b scopes b.free (n + test_blocks (low_if b.names e)) f vars) (machine k fr (start n) vars s) s.fuel (test_or_true (value_if functions e) s)
  test_if_does None scopes s vars n t f free fit h st = does_nothing k fr (TestAt b scopes b.free (n + 0) f vars) (start n) vars s (truth true) (record { at_is = let g : n ≡ n + 0 = omega arith in ap start g; holds = h; kept = record { at = λ i fi it. refl } })
  test_if_does (Some e) scopes s vars n t f free fit h st =
      let r = value_fits (fitting b.names e) scopes fit in
      subst (λ t'. Does k fr (TestAt b scopes t' (n + (low b.names e).condition_blocks) f vars) (machine k fr (start n) vars s) s.fuel ((expression e).value functions s)) free
      ((on e).condition scopes s (start n) vars n t (n + (low b.names e).condition_blocks) f true refl r.1 r.0 h (omega (arith, free)) refl st)

  value_if_end : (e : Option Expr) (n t : ℕ) → (past (start n) (value_lines (low_if b.names e) n t)).block ≡ n + value_blocks (low_if b.names e)
  value_if_end None n t = omega arith
  value_if_end (Some e) n t = (on e).value_ends (start n) n t refl

  next_if_does : (e : Option Expr) (scopes : Scopes) (s : State) (at : Spot) (vars : Variables) (n t head : ℕ) → t ≡ b.free → fits_if b.names e scopes ≡ true → Jumps at n → Holds b scopes s vars → Stands fr.code (start n) (value_lines (low_if b.names e) n t ++ End (Jump head) ∷ []) → Does k fr (NextAt scopes head) (machine k fr at vars s) s.fuel (next_or_nothing (value_if functions e) s)
  next_if_does None scopes s at vars n t head free fit j h st = then_jump k b fr ok functions meets (NextAt scopes head) at vars s n s.fuel (Gives tt s) j (jump_on scopes head s (start n) vars st.0 h)
  next_if_does (Some e) scopes s at vars n t head free fit j h st =
      let l : LowExpr = low b.names e in
      let last : List Line = End (Jump head) ∷ [] in
      then_jump k b fr ok functions meets (NextAt scopes head) at vars s n s.fuel _ j
      (then_at k fr ok (ValueAt b scopes l.is_unsigned l.is_void t (past (start n) (l.value n t)) vars) (λ v. past (start n) (l.value n t)) (λ v s1 a1 vars1 z. z.at_is) (NextAt scopes head) (machine k fr (start n) vars s) s.fuel ((expression e).value functions s) (λ v. pure tt)
      ((on e).value scopes s (start n) vars n t refl fit h (omega (arith, free)) (stands_front fr.code (start n) (l.value n t) last st))
      (λ v s1 vars1 z. jump_on scopes head s1 (past (start n) (l.value n t)) vars1 (stands_back fr.code (start n) (l.value n t) last st).0 z.holds))

  flow_list : (to : Context) (around : Around) (outer scopes : Scopes) (goal : Spot) → Inner outer scopes → (flow : Flow) (s : State) (at : Spot) (vars : Variables) → FlowAt to around scopes scopes goal flow s at vars → ListAt to around outer goal flow s at vars
  flow_list to around outer scopes goal i Normal s at vars h = (h.0, record { scopes = scopes; inner = i; holds = h.1 })
  flow_list to around outer scopes goal i Breaks s at vars h = (h.0, h.1, record { scopes = scopes; inner = i; holds = h.2 })
  flow_list to around outer scopes goal i Continues s at vars h = (h.0, h.1, record { scopes = scopes; inner = i; holds = h.2 })
  flow_list to around outer scopes goal i (Returns v) s at vars h = (h.0, h.1, record { scopes = scopes; inner = i; holds = h.2 })

  module _ (x1 xb : Statement) (l1 lb : LowStmt) (f1 fb : FitStmt) (p1 : FollowsStmt x1 l1 f1) (pb : FollowsStmt xb lb fb) (test next' : Option Expr) (to : Context) (n : ℕ) where
    abbrev for_head : ℕ
    for_head = n + l1.blocks + 1

    abbrev for_inside : ℕ
    for_inside = for_head + test_blocks (low_if b.names test)

    abbrev for_after : ℕ
    for_after = for_inside + lb.blocks + 1

    abbrev for_exit : ℕ
    for_exit = for_after + value_blocks (low_if b.names next') + 1

    abbrev for_to : Context
    for_to = in_loop for_exit for_after to

    abbrev for_test : List Line
    for_test = test_lines_if (low_if b.names test) for_head to.free for_inside for_exit

    abbrev for_body : List Line
    for_body = lb.lines for_to for_inside

    abbrev for_next : List Line
    for_next = value_lines (low_if b.names next') for_after to.free ++ End (Jump for_head) ∷ []

    abbrev for_rest : List Line
    for_rest = for_test ++ (for_body ++ (End (Jump for_after) ∷ for_next))

    for_end : (at : Spot) → at.block ≡ n → past at ((low_for l1 (low_if b.names test) (low_if b.names next') lb).lines to n) ≡ start for_exit
    for_end at is =
        past-append at (l1.lines to n) (End (Jump for_head) ∷ for_rest) ∙ ap (λ m. past (start (m + 1)) for_rest) (p1.ends to at n is)
        ∙ past-append (start for_head) for_test (for_body ++ (End (Jump for_after) ∷ for_next)) ∙ ap (λ z. past z (for_body ++ (End (Jump for_after) ∷ for_next))) (test_if_end test for_head to.free for_inside for_exit)
        ∙ past-append (start for_inside) for_body (End (Jump for_after) ∷ for_next) ∙ ap (λ m. past (start (m + 1)) for_next) (pb.ends for_to (start for_inside) for_inside refl)
        ∙ block_end (start for_after) (value_lines (low_if b.names next') for_after to.free) (Jump for_head) (for_after + value_blocks (low_if b.names next')) (value_if_end next' for_after to.free)

    for_does : (around : Around) (scopes : Scopes) (s : State) (at : Spot) (vars : Variables) → to.free ≡ b.free → at.block ≡ n → f1.fits (record around { breaks = false; continues = false }) ([] ∷ scopes) ≡ true → has_value_if b.names test (f1.after ([] ∷ scopes)) ≡ true → fits_if b.names next' (f1.after ([] ∷ scopes)) ≡ true → fits_alone fb (inside_loop around) (f1.after ([] ∷ scopes)) ≡ true → Holds b scopes s vars → Stands fr.code at ((low_for l1 (low_if b.names test) (low_if b.names next') lb).lines to n)
        → Does k fr (FlowAt to around scopes scopes (past at ((low_for l1 (low_if b.names test) (low_if b.names next') lb).lines to n))) (machine k fr at vars s) s.fuel (in_scope (for_loop (x1 functions) (test_or_true (value_if functions test)) (next_or_nothing (value_if functions next')) (xb functions)) s)
    for_does around scopes s at vars free is fit1 fit_t fit_n fit_b h st =
        let around1 : Around = record around { breaks = false; continues = false } in
        let inner : Scopes = f1.after ([] ∷ scopes) in
        let at1 : Spot = past at (l1.lines to n) in
        let st1 = stands_back fr.code at (l1.lines to n) (End (Jump for_head) ∷ for_rest) st in
        let st2 = subst (λ m. Stands fr.code (start (m + 1)) for_rest) (p1.ends to at n is) st1.1 in
        let st_t = stands_front fr.code (start for_head) for_test (for_body ++ (End (Jump for_after) ∷ for_next)) st2 in
        let st3 = subst (λ z. Stands fr.code z (for_body ++ (End (Jump for_after) ∷ for_next))) (test_if_end test for_head to.free for_inside for_exit) (stands_back fr.code (start for_head) for_test (for_body ++ (End (Jump for_after) ∷ for_next)) st2) in
        let st_b = stands_front fr.code (start for_inside) for_body (End (Jump for_after) ∷ for_next) st3 in
        let bottom : Spot = past (start for_inside) for_body in
        let st4 = stands_back fr.code (start for_inside) for_body (End (Jump for_after) ∷ for_next) st3 in
        let st_n = subst (λ m. Stands fr.code (start (m + 1)) for_next) (pb.ends for_to (start for_inside) for_inside refl) st4.1 in
        let goal : Spot = start for_exit in
        let the_loop : Run Flow = loop (test_or_true (value_if functions test)) (next_or_nothing (value_if functions next')) (xb functions) in
        subst (λ g. Does k fr (FlowAt to around scopes scopes g) (machine k fr at vars s) s.fuel (in_scope (for_loop (x1 functions) (test_or_true (value_if functions test)) (next_or_nothing (value_if functions next')) (xb functions)) s)) (sym (for_end at is))
        (scope_does to around scopes goal (for_loop (x1 functions) (test_or_true (value_if functions test)) (next_or_nothing (value_if functions next')) (xb functions)) s at vars
        (does_then k fr (FlowAt to around1 ([] ∷ scopes) inner at1) (ListAt to around scopes goal) (machine k fr at vars s) s.fuel (x1 functions (record s { scopes = [] ∷ s.scopes })) (λ flow. if_normal flow the_loop)
        (p1.does to around1 ([] ∷ scopes) (record s { scopes = [] ∷ s.scopes }) at vars n free is fit1 (open_holds b scopes s vars h) (stands_front fr.code at (l1.lines to n) (End (Jump for_head) ∷ for_rest) st))
        (λ flow s1 a1 vars1 w le. by flow s1 a1 vars1 w
        (λ j h1. does_more k fr (FlowAt to around inner inner goal) (ListAt to around scopes goal) (machine k fr a1 vars1 s1) s1.fuel (the_loop s1)
        (loop_does to around inner for_head for_inside for_after for_exit bottom (test_or_true (value_if functions test)) (next_or_nothing (value_if functions next')) (xb functions) st4.0
        (λ s2 vars2 h2. test_if_does test inner s2 vars2 for_head to.free for_exit free fit_t h2 st_t)
        (λ s2 vars2 h2. alone_does xb lb fb pb for_to (inside_loop around) inner s2 (start for_inside) vars2 for_inside free refl fit_b h2 st_b)
        (λ s2 at2 vars2 j2 h2. next_if_does next' inner s2 at2 vars2 for_after to.free for_head free fit_n j2 h2 st_n)
        s1 a1 vars1 j h1)
        (flow_list to around scopes inner goal (p1.grows around1 scopes ([] ∷ scopes) fit1 (inner_new scopes)))) st1.0)))
      where
        by : (flow : Flow) (s1 : State) (a1 : Spot) (vars1 : Variables) → FlowAt to (record around { breaks = false; continues = false }) ([] ∷ scopes) (f1.after ([] ∷ scopes)) (past at (l1.lines to n)) flow s1 a1 vars1
            → (Jumps a1 for_head → Holds b (f1.after ([] ∷ scopes)) s1 vars1 → Does k fr (ListAt to around scopes (start for_exit)) (machine k fr a1 vars1 s1) s1.fuel (loop (test_or_true (value_if functions test)) (next_or_nothing (value_if functions next')) (xb functions) s1))
            → Jumps (past at (l1.lines to n)) for_head
            → Does k fr (ListAt to around scopes (start for_exit)) (machine k fr a1 vars1 s1) s1.fuel (if_normal flow (loop (test_or_true (value_if functions test)) (next_or_nothing (value_if functions next')) (xb functions)) s1)
        by Normal s1 a1 vars1 w go j = go (ap (λ z. line_at fr.code z.block z.step) w.0 ∙ j) w.1
        by Breaks s1 a1 vars1 w go j = absurd (false≢true w.0)
        by Continues s1 a1 vars1 w go j = absurd (false≢true w.0)
        by (Returns v) s1 a1 vars1 w go j = does_nothing k fr (ListAt to around scopes (start for_exit)) a1 vars1 s1 (Returns v) (record { word = w.0.word; none = w.0.none; small = w.0.small }, w.1, record { scopes = [] ∷ scopes; inner = inner_new scopes; holds = w.2 })

  -- ---- `switch`

  -- a part of a run that changes free variables alone, from one spot to another
  pub record Passes (t : ℕ) (vars : Variables) (s : State) (from to' : Spot) : Type 0 where
    pub vars' : Variables
    pub comes : Comes k (machine k fr from vars s) 0 (machine k fr to' vars' s)
    pub kept : Kept t vars vars'

  passes_here : (t : ℕ) (vars : Variables) (s : State) (at : Spot) → Passes t vars s at at
  passes_here t vars s at = record { vars' = vars; comes = record { steps = 0; enough = omega arith; goes = refl }; kept = record { at = λ i lt. refl } }

  passes_on : (t : ℕ) (vars : Variables) (s : State) (a1 a2 a3 : Spot) (p : Passes t vars s a1 a2) → Passes t p.vars' s a2 a3 → Passes t vars s a1 a3
  passes_on t vars s a1 a2 a3 p q = record { vars' = q.vars'; comes = comes_on k (machine k fr a1 vars s) (machine k fr a2 p.vars' s) (machine k fr a3 q.vars' s) 0 0 0 (omega arith) p.comes q.comes; kept = record { at = λ i lt. q.kept.at i lt ∙ p.kept.at i lt } }

  -- one case: the word is compared, and where it is the same the machine goes to the clause
  one_case : (w word to' t : ℕ) (vars : Variables) (s : State) (at : Spot) → vars t ≡ Some w → Stands fr.code at (Step (Constant (t + 1) word) ∷ Step (Operate Eq (t + 1) t (t + 1)) ∷ End (Branch (t + 1) true to') ∷ []) → Passes (t + 1) vars s at (start (if w == word then to' else (at.block + 1)))
  one_case w word to' t vars s at has st =
      let vars1 : Variables = with_word vars (t + 1) word in
      let x : ℕ = truth_word (w == word) in
      let vars2 : Variables = with_word vars1 (t + 1) x in
      let at2 : Spot = next (next at) in
      let goal : Spot = start (if w == word then to' else (at.block + 1)) in
      let c1 = comes_by k fr ok at vars s (Step (Constant (t + 1) word)) (machine k fr (next at) vars1 s) st.0 (record { reads_written = tt; index_fits = tt }) refl in
      let has1 : vars1 t ≡ Some w = with_other vars (t + 1) t word (λ e. omega (arith, e)) ∙ has in
      let c2 = comes_by k fr ok (next at) vars1 s (Step (Operate Eq (t + 1) t (t + 1))) (machine k fr at2 vars2 s) st.1.0
      (record { reads_written = (is_some_from (vars1 t) w has1, (is_some_from (vars1 (t + 1)) word (with_same vars (t + 1) word), tt)); index_fits = tt })
      (ap (λ z. machine k fr at2 (with_word vars1 (t + 1) (truth_word (word_or_zero z == word_or_zero (vars1 (t + 1))))) s) has1 ∙ ap (λ z. machine k fr at2 (with_word vars1 (t + 1) (truth_word (w == word_or_zero z))) s) (with_same vars (t + 1) word)) in
      let c3 = comes_by k fr ok at2 vars2 s (End (Branch (t + 1) true to')) (machine k fr goal vars2 s) st.1.1.0
      (record { reads_written = (is_some_from (vars2 (t + 1)) x (with_same vars1 (t + 1) x), tt); index_fits = tt })
      (ap (λ z. goes_to (machine k fr at2 vars2 s) (if not (word_or_zero z == 0) then to' else (at.block + 1))) (with_same vars1 (t + 1) x) ∙ by vars2 (w == word)) in
      record {
        vars' = vars2;
        comes = comes_on k (machine k fr at vars s) (machine k fr (next at) vars1 s) (machine k fr goal vars2 s) 1 1 0 (omega arith) c1 (comes_on k (machine k fr (next at) vars1 s) (machine k fr at2 vars2 s) (machine k fr goal vars2 s) 1 1 1 (omega arith) c2 c3);
        kept = record { at = λ i lt. with_other vars1 (t + 1) i x (λ e. omega (arith, e, lt)) ∙ with_other vars (t + 1) i word (λ e. omega (arith, e, lt)) };
      }
    where
      by : (vars2 : Variables) (c : Bool) → machine k fr (start (if not (truth_word c == 0) then to' else (at.block + 1))) vars2 s ≡ machine k fr (start (if c then to' else (at.block + 1))) vars2 s
      by vars2 true = refl
      by vars2 false = refl

  labels_pass : (ls : List (Option ℕ)) (w to' t : ℕ) (vars : Variables) (s : State) (at : Spot) → vars t ≡ Some w → Stands fr.code at (case_lines ls to' t) → Passes (t + 1) vars s at (if list_any (is_label (Some w)) ls then start to' else past at (case_lines ls to' t))
  labels_pass [] w to' t vars s at has st = passes_here (t + 1) vars s at
  labels_pass (None ∷ ls) w to' t vars s at has st = labels_pass ls w to' t vars s at has st
  labels_pass (Some word ∷ ls) w to' t vars s at has st =
      by (w == word) (one_case w word to' t vars s at has (st.0, (st.1.0, (st.1.1.0, tt)))) (λ vars1 has1. labels_pass ls w to' t vars1 s (start (at.block + 1)) has1 st.1.1.1)
    where
      by : (c : Bool) → Passes (t + 1) vars s at (start (if c then to' else (at.block + 1))) → ((vars1 : Variables) → vars1 t ≡ Some w → Passes (t + 1) vars1 s (start (at.block + 1)) (if list_any (is_label (Some w)) ls then start to' else past (start (at.block + 1)) (case_lines ls to' t))) → Passes (t + 1) vars s at (if c || list_any (is_label (Some w)) ls then start to' else past (start (at.block + 1)) (case_lines ls to' t))
      by true p go = p
      by false p go = passes_on (t + 1) vars s at (start (at.block + 1)) (if list_any (is_label (Some w)) ls then start to' else past (start (at.block + 1)) (case_lines ls to' t)) p (go p.vars' (p.kept.at t (omega arith) ∙ has))

  case_ends : (ls : List (Option ℕ)) (to' t : ℕ) (at : Spot) → (past at (case_lines ls to' t)).block ≡ at.block + case_count ls
  case_ends [] to' t at = omega arith
  case_ends (None ∷ ls) to' t at = case_ends ls to' t at
  case_ends (Some word ∷ ls) to' t at = case_ends ls to' t (start (at.block + 1)) ∙ (let e : at.block + 1 + case_count ls ≡ at.block + (1 + case_count ls) = omega arith in e)

  -- whether a clause has the label
  has_label : Option ℕ → List LowClause → Bool
  has_label l [] = false
  has_label l (c ∷ cs) = if list_any (is_label l) c.labels then true else has_label l cs

  cases_pass : (cs : List LowClause) (w m t : ℕ) (vars : Variables) (s : State) (at : Spot) → vars t ≡ Some w → Stands fr.code at (cases_lines cs m t) → Passes (t + 1) vars s at (if has_label (Some w) cs then start (block_of (Some w) cs m) else past at (cases_lines cs m t))
  unfolding has_label
  cases_pass [] w m t vars s at has st = passes_here (t + 1) vars s at
  cases_pass (c ∷ cs) w m t vars s at has st =
      let rest : List Line = cases_lines cs (m + c.body.blocks + 1) t in
      let at1 : Spot = past at (case_lines c.labels m t) in
      subst (λ z. Passes (t + 1) vars s at (if (if list_any (is_label (Some w)) c.labels then true else has_label (Some w) cs) then start (if list_any (is_label (Some w)) c.labels then m else block_of (Some w) cs (m + c.body.blocks + 1)) else z)) (sym (past-append at (case_lines c.labels m t) rest))
      (by (list_any (is_label (Some w)) c.labels) (labels_pass c.labels w m t vars s at has (stands_front fr.code at (case_lines c.labels m t) rest st)) (λ vars1 has1. cases_pass cs w (m + c.body.blocks + 1) t vars1 s at1 has1 (stands_back fr.code at (case_lines c.labels m t) rest st)))
    where
      by : (b1 : Bool) → Passes (t + 1) vars s at (if b1 then start m else past at (case_lines c.labels m t)) → ((vars1 : Variables) → vars1 t ≡ Some w → Passes (t + 1) vars1 s (past at (case_lines c.labels m t)) (if has_label (Some w) cs then start (block_of (Some w) cs (m + c.body.blocks + 1)) else past (past at (case_lines c.labels m t)) (cases_lines cs (m + c.body.blocks + 1) t)))
          → Passes (t + 1) vars s at (if (if b1 then true else has_label (Some w) cs) then start (if b1 then m else block_of (Some w) cs (m + c.body.blocks + 1)) else past (past at (case_lines c.labels m t)) (cases_lines cs (m + c.body.blocks + 1) t))
      by true p go = p
      by false p go = passes_on (t + 1) vars s at (past at (case_lines c.labels m t)) (if has_label (Some w) cs then start (block_of (Some w) cs (m + c.body.blocks + 1)) else past (past at (case_lines c.labels m t)) (cases_lines cs (m + c.body.blocks + 1) t)) p (go p.vars' (p.kept.at t (omega arith) ∙ has))

  cases_end : (cs : List LowClause) (m t : ℕ) (at : Spot) → (past at (cases_lines cs m t)).block ≡ at.block + cases_count cs
  cases_end [] m t at = omega arith
  cases_end (c ∷ cs) m t at =
      let j : ℕ = m + c.body.blocks + 1 in
      let e1 = case_ends c.labels m t at in
      let e2 = cases_end cs j t (past at (case_lines c.labels m t)) in
      ap (λ z. z.block) (past-append at (case_lines c.labels m t) (cases_lines cs j t)) ∙ (let g : (past (past at (case_lines c.labels m t)) (cases_lines cs j t)).block ≡ at.block + (case_count c.labels + cases_count cs) = omega (arith, e1, e2) in g)

  -- ---- the statements of clauses

  pub record FollowsClause (x : Labelled) (l : LowClause) (f : FitClause) : Type 0 where
    pub labels_are : x.labels ≡ l.labels
    pub ends : (to : Context) (n : ℕ) → (past (start n) (l.body.lines to n)).block ≡ n + l.body.blocks
    pub does : (to : Context) (around : Around) (scopes : Scopes) (s : State) (vars : Variables) (n : ℕ) → to.free ≡ b.free → f.fits around scopes ≡ true → Holds b scopes s vars → Stands fr.code (start n) (l.body.lines to n)
        → Does k fr (FlowAt to around scopes scopes (past (start n) (l.body.lines to n))) (machine k fr (start n) vars s) s.fuel (x.body functions s)

  -- statements of which none is a declaration
  alone_after : (to : Context) (around : Around) (scopes : Scopes) (at1 goal : Spot) (rest : Run Flow) → ((s1 : State) (vars1 : Variables) → Holds b scopes s1 vars1 → Does k fr (FlowAt to around scopes scopes goal) (machine k fr at1 vars1 s1) s1.fuel (rest s1)) → (flow : Flow) (s1 : State) (at : Spot) (vars1 : Variables) → FlowAt to around scopes scopes at1 flow s1 at vars1 → Does k fr (FlowAt to around scopes scopes goal) (machine k fr at vars1 s1) s1.fuel (if_normal flow rest s1)
  alone_after to around scopes at1 goal rest go Normal s1 at vars1 h = subst (λ z. Does k fr (FlowAt to around scopes scopes goal) (machine k fr z vars1 s1) s1.fuel (rest s1)) (sym h.0) (go s1 vars1 h.1)
  alone_after to around scopes at1 goal rest go Breaks s1 at vars1 h = does_nothing k fr (FlowAt to around scopes scopes goal) at vars1 s1 Breaks h
  alone_after to around scopes at1 goal rest go Continues s1 at vars1 h = does_nothing k fr (FlowAt to around scopes scopes goal) at vars1 s1 Continues h
  alone_after to around scopes at1 goal rest go (Returns v) s1 at vars1 h = does_nothing k fr (FlowAt to around scopes scopes goal) at vars1 s1 (Returns v) h

  plain_list_does : (cs : List Substatement) (to : Context) (around : Around) (scopes : Scopes) (s : State) (at : Spot) (vars : Variables) (n : ℕ) → to.free ≡ b.free → at.block ≡ n → each_alone (fits_of cs) around scopes ≡ true → Holds b scopes s vars → Stands fr.code at (list_lines (lows cs) to n)
      → Does k fr (FlowAt to around scopes scopes (past at (list_lines (lows cs) to n))) (machine k fr at vars s) s.fuel (in_order (map (λ c. c functions) (map statement (stmts cs))) s)
  plain_list_does [] to around scopes s at vars n free is fit h st = does_nothing k fr (FlowAt to around scopes scopes at) at vars s Normal (refl, h)
  plain_list_does (c ∷ cs) to around scopes s at vars n free is fit h st =
      let l : LowStmt = low_statement b.names c.0 in
      let f : FitStmt = fitting_statement b.names c.0 in
      let rest : List Line = list_lines (lows cs) to (n + l.blocks) in
      let at1 : Spot = past at (l.lines to n) in
      let z = both (fits_alone f around scopes) (each_alone (fits_of cs) around scopes) fit in
      let goal : past at1 rest ≡ past at (l.lines to n ++ rest) = sym (past-append at (l.lines to n) rest) in
      subst (λ g. Does k fr (FlowAt to around scopes scopes g) (machine k fr at vars s) s.fuel (in_order (map (λ c'. c' functions) (map statement (stmts (c ∷ cs)))) s)) goal
      (does_then k fr (FlowAt to around scopes scopes at1) (FlowAt to around scopes scopes (past at1 rest)) (machine k fr at vars s) s.fuel (statement c.0 functions s) (λ flow. if_normal flow (in_order (map (λ c'. c' functions) (map statement (stmts cs)))))
      (alone_does (statement c.0) l f c.1 to around scopes s at vars n free is z.0 h (stands_front fr.code at (l.lines to n) rest st))
      (λ flow s1 a1 vars1 w le. alone_after to around scopes at1 (past at1 rest) (in_order (map (λ c'. c' functions) (map statement (stmts cs))))
      (λ s2 vars2 h2. plain_list_does cs to around scopes s2 at1 vars2 (n + l.blocks) free (c.1.ends to at n is) z.1 h2 (stands_back fr.code at (l.lines to n) rest st)) flow s1 a1 vars1 w))

  abbrev pub Subclause : Type 0
  Subclause = (c : Clause) × FollowsClause (clause c) (low_clause b.names c) (fitting_clause b.names c)

  abbrev clauses_c : List Subclause → List Labelled
  clauses_c cs = map clause (map (λ c. c.0) cs)

  abbrev clauses_l : List Subclause → List LowClause
  clauses_l cs = map (low_clause b.names) (map (λ c. c.0) cs)

  abbrev clauses_f : List Subclause → List FitClause
  clauses_f cs = map (fitting_clause b.names) (map (λ c. c.0) cs)

  clauses_end : (cs : List Subclause) (to : Context) (m : ℕ) → past (start m) (clauses_lines (clauses_l cs) to m) ≡ start (m + clauses_blocks (clauses_l cs))
  clauses_end [] to m = let e : m ≡ m + 0 = omega arith in ap start e
  clauses_end (c ∷ cs) to m =
      let l : LowClause = low_clause b.names c.0 in
      let j : ℕ = m + l.body.blocks + 1 in
      past-append (start m) (l.body.lines to m) (End (Jump j) ∷ clauses_lines (clauses_l cs) to j) ∙ ap (λ i. past (start (i + 1)) (clauses_lines (clauses_l cs) to j)) (c.1.ends to m) ∙ clauses_end cs to j
      ∙ (let e : j + clauses_blocks (clauses_l cs) ≡ m + (l.body.blocks + 1 + clauses_blocks (clauses_l cs)) = omega arith in ap start e)

  -- the clauses from one on, one after the other
  clauses_do : (cs : List Subclause) (to : Context) (around : Around) (scopes : Scopes) (s : State) (vars : Variables) (m exit : ℕ) → to.free ≡ b.free → m + clauses_blocks (clauses_l cs) ≡ exit → each_clause (clauses_f cs) around scopes ≡ true → Holds b scopes s vars → Stands fr.code (start m) (clauses_lines (clauses_l cs) to m)
      → Does k fr (FlowAt to around scopes scopes (start exit)) (machine k fr (start m) vars s) s.fuel (in_order (map (λ c. c.body functions) (clauses_c cs)) s)
  clauses_do [] to around scopes s vars m exit free e fit h st = does_nothing k fr (FlowAt to around scopes scopes (start exit)) (start m) vars s Normal (let g : m ≡ exit = omega (arith, e) in ap start g, h)
  clauses_do (c ∷ cs) to around scopes s vars m exit free e fit h st =
      let l : LowClause = low_clause b.names c.0 in
      let j : ℕ = m + l.body.blocks + 1 in
      let rest : List Line = clauses_lines (clauses_l cs) to j in
      let z = both ((fitting_clause b.names c.0).fits around scopes) (each_clause (clauses_f cs) around scopes) fit in
      let bottom : Spot = past (start m) (l.body.lines to m) in
      let st1 = stands_back fr.code (start m) (l.body.lines to m) (End (Jump j) ∷ rest) st in
      let st2 = subst (λ i. Stands fr.code (start (i + 1)) rest) (c.1.ends to m) st1.1 in
      does_then k fr (FlowAt to around scopes scopes bottom) (FlowAt to around scopes scopes (start exit)) (machine k fr (start m) vars s) s.fuel ((clause c.0).body functions s) (λ flow. if_normal flow (in_order (map (λ c'. c'.body functions) (clauses_c cs))))
      (c.1.does to around scopes s vars m free z.0 h (stands_front fr.code (start m) (l.body.lines to m) (End (Jump j) ∷ rest) st))
      (λ flow s1 a1 vars1 w le. alone_after to around scopes bottom (start exit) (in_order (map (λ c'. c'.body functions) (clauses_c cs)))
      (λ s2 vars2 h2. then_jump k b fr ok functions meets (FlowAt to around scopes scopes (start exit)) bottom vars2 s2 j s2.fuel (in_order (map (λ c'. c'.body functions) (clauses_c cs)) s2) st1.0
      (clauses_do cs to around scopes s2 vars2 j exit free (omega (arith, e)) z.1 h2 st2)) flow s1 a1 vars1 w)

  -- the clauses from a label on
  from_does : (l : Option ℕ) (cs : List Subclause) (to : Context) (around : Around) (scopes : Scopes) (s : State) (vars : Variables) (m exit : ℕ) → to.free ≡ b.free → m + clauses_blocks (clauses_l cs) ≡ exit → each_clause (clauses_f cs) around scopes ≡ true → Holds b scopes s vars → Stands fr.code (start m) (clauses_lines (clauses_l cs) to m)
      → Does k fr (FlowAt to around scopes scopes (start exit)) (machine k fr (start (block_of l (clauses_l cs) m)) vars s) s.fuel (in_order (map (λ c. c.body functions) (from_label l (clauses_c cs))) s)
  from_does l [] to around scopes s vars m exit free e fit h st = does_nothing k fr (FlowAt to around scopes scopes (start exit)) (start m) vars s Normal (let g : m ≡ exit = omega (arith, e) in ap start g, h)
  from_does l (c ∷ cs) to around scopes s vars m exit free e fit h st =
      let lc : LowClause = low_clause b.names c.0 in
      let j : ℕ = m + lc.body.blocks + 1 in
      let rest : List Line = clauses_lines (clauses_l cs) to j in
      let z = both ((fitting_clause b.names c.0).fits around scopes) (each_clause (clauses_f cs) around scopes) fit in
      let st1 = stands_back fr.code (start m) (lc.body.lines to m) (End (Jump j) ∷ rest) st in
      let st2 = subst (λ i. Stands fr.code (start (i + 1)) rest) (c.1.ends to m) st1.1 in
      subst (λ ls. Does k fr (FlowAt to around scopes scopes (start exit)) (machine k fr (start (block_of l (clauses_l (c ∷ cs)) m)) vars s) s.fuel (in_order (map (λ c'. c'.body functions) (if list_any (is_label l) ls then clauses_c (c ∷ cs) else from_label l (clauses_c cs))) s)) (sym c.1.labels_are)
      (by (list_any (is_label l) lc.labels) (clauses_do (c ∷ cs) to around scopes s vars m exit free e fit h st) (from_does l cs to around scopes s vars j exit free (omega (arith, e)) z.1 h st2))
    where
      by : (b1 : Bool) → Does k fr (FlowAt to around scopes scopes (start exit)) (machine k fr (start m) vars s) s.fuel (in_order (map (λ c'. c'.body functions) (clauses_c (c ∷ cs))) s) → Does k fr (FlowAt to around scopes scopes (start exit)) (machine k fr (start (block_of l (clauses_l cs) (m + (low_clause b.names c.0).body.blocks + 1))) vars s) s.fuel (in_order (map (λ c'. c'.body functions) (from_label l (clauses_c cs))) s)
          → Does k fr (FlowAt to around scopes scopes (start exit)) (machine k fr (start (if b1 then m else block_of l (clauses_l cs) (m + (low_clause b.names c.0).body.blocks + 1))) vars s) s.fuel (in_order (map (λ c'. c'.body functions) (if b1 then clauses_c (c ∷ cs) else from_label l (clauses_c cs))) s)
      by true p q = p
      by false p q = q

  -- what is chosen
  is_found : (l : Option ℕ) (cs : List Subclause) → has_label l (clauses_l cs) ≡ true → (others : List Labelled) → or_those (from_label l (clauses_c cs)) others ≡ from_label l (clauses_c cs)
  unfolding has_label
  is_found l [] h others = absurd (false≢true h)
  is_found l (c ∷ cs) h others = ap (λ ls. or_those (if list_any (is_label l) ls then clauses_c (c ∷ cs) else from_label l (clauses_c cs)) others) c.1.labels_are ∙ by (list_any (is_label l) (low_clause b.names c.0).labels) h (λ h'. is_found l cs h' others) ∙ ap (λ ls. if list_any (is_label l) ls then clauses_c (c ∷ cs) else from_label l (clauses_c cs)) (sym c.1.labels_are)
    where
      by : (b1 : Bool) → (if b1 then true else has_label l (clauses_l cs)) ≡ true → (has_label l (clauses_l cs) ≡ true → or_those (from_label l (clauses_c cs)) others ≡ from_label l (clauses_c cs)) → or_those (if b1 then clauses_c (c ∷ cs) else from_label l (clauses_c cs)) others ≡ (if b1 then clauses_c (c ∷ cs) else from_label l (clauses_c cs))
      by true h' ih = refl
      by false h' ih = ih h'

  not_found : (l : Option ℕ) (cs : List Subclause) → has_label l (clauses_l cs) ≡ false → from_label l (clauses_c cs) ≡ []
  unfolding has_label
  not_found l [] h = refl
  not_found l (c ∷ cs) h = ap (λ ls. if list_any (is_label l) ls then clauses_c (c ∷ cs) else from_label l (clauses_c cs)) c.1.labels_are ∙ by (list_any (is_label l) (low_clause b.names c.0).labels) h (not_found l cs)
    where
      by : (b1 : Bool) → (if b1 then true else has_label l (clauses_l cs)) ≡ false → (has_label l (clauses_l cs) ≡ false → from_label l (clauses_c cs) ≡ []) → (if b1 then clauses_c (c ∷ cs) else from_label l (clauses_c cs)) ≡ []
      by true h' ih = absurd (false≢true (sym h'))
      by false h' ih = ih h'

  switch_end : (test : Expr) (cs : List Subclause) (to : Context) (at : Spot) (n : ℕ) → at.block ≡ n → past at ((low_switch (low b.names test) (clauses_l cs)).lines to n) ≡ start (n + (low b.names test).blocks + cases_count (clauses_l cs) + 1 + clauses_blocks (clauses_l cs))
  switch_end test cs to at n is =
      let l : LowExpr = low b.names test in
      let ls : List LowClause = clauses_l cs in
      let first : ℕ = n + l.blocks + cases_count ls + 1 in
      let to1 : Context = record to { breaks_to = first + clauses_blocks ls } in
      let cases : List Line = cases_lines ls first to.free in
      let rest : List Line = End (Jump (block_of None ls first)) ∷ clauses_lines ls to1 first in
      let at1 : Spot = past at (l.value n to.free) in
      let e1 = (on test).value_ends at n to.free is in
      let e2 = cases_end ls first to.free at1 in
      let e : (past at1 cases).block + 1 ≡ first = omega (arith, e1, e2) in
      past-append at (l.value n to.free) (cases ++ rest) ∙ past-append at1 cases rest ∙ ap (λ m. past (start m) (clauses_lines ls to1 first)) e ∙ clauses_end cs to1 first

  -- behind the clauses
  switched : (to : Context) (around : Around) (scopes : Scopes) (exit : ℕ) (flow : Flow) (s : State) (at : Spot) (vars : Variables) → FlowAt (record to { breaks_to = exit }) (inside_switch around) scopes scopes (start exit) flow s at vars → Does k fr (FlowAt to around scopes scopes (start exit)) (machine k fr at vars s) s.fuel (Gives (after_switch flow) s)
  switched to around scopes exit Normal s at vars h = does_nothing k fr (FlowAt to around scopes scopes (start exit)) at vars s Normal h
  switched to around scopes exit Breaks s at vars h = then_jump k b fr ok functions meets (FlowAt to around scopes scopes (start exit)) at vars s exit s.fuel (Gives Normal s) h.1 (does_nothing k fr (FlowAt to around scopes scopes (start exit)) (start exit) vars s Normal (refl, h.2))
  switched to around scopes exit Continues s at vars h = does_nothing k fr (FlowAt to around scopes scopes (start exit)) at vars s Continues h
  switched to around scopes exit (Returns v) s at vars h = does_nothing k fr (FlowAt to around scopes scopes (start exit)) at vars s (Returns v) (record { word = h.0.word; none = h.0.none; small = h.0.small }, h.1, h.2)

  switch_does : (test : Expr) (cs : List Subclause) (to : Context) (around : Around) (scopes : Scopes) (s : State) (at : Spot) (vars : Variables) (n : ℕ) → to.free ≡ b.free → at.block ≡ n → has_value (fitting b.names test) scopes ≡ true → each_clause (clauses_f cs) (inside_switch around) scopes ≡ true → Holds b scopes s vars → Stands fr.code at ((low_switch (low b.names test) (clauses_l cs)).lines to n)
      → Does k fr (FlowAt to around scopes scopes (past at ((low_switch (low b.names test) (clauses_l cs)).lines to n))) (machine k fr at vars s) s.fuel (switch ((expression test).value functions) (clauses_c cs) functions s)
  switch_does test cs to around scopes s at vars n free is fit_t fit_c h st =
      let l : LowExpr = low b.names test in
      let ls : List LowClause = clauses_l cs in
      let first : ℕ = n + l.blocks + cases_count ls + 1 in
      let exit : ℕ = first + clauses_blocks ls in
      let to1 : Context = record to { breaks_to = exit } in
      let around1 : Around = inside_switch around in
      let cases : List Line = cases_lines ls first to.free in
      let bodies : List Line = clauses_lines ls to1 first in
      let rest : List Line = End (Jump (block_of None ls first)) ∷ bodies in
      let at1 : Spot = past at (l.value n to.free) in
      let at2 : Spot = past at1 cases in
      let r = value_fits (fitting b.names test) scopes fit_t in
      let st1 = stands_back fr.code at (l.value n to.free) (cases ++ rest) st in
      let st2 = stands_back fr.code at1 cases rest st1 in
      let e1 = (on test).value_ends at n to.free is in
      let e2 = cases_end ls first to.free at1 in
      let e : at2.block + 1 ≡ first = omega (arith, e1, e2) in
      let st3 = subst (λ m. Stands fr.code (start m) bodies) e st2.1 in
      let post = FlowAt to around scopes scopes (start exit) in
      let inside = FlowAt to1 around1 scopes scopes (start exit) in
      subst (λ g. Does k fr (FlowAt to around scopes scopes g) (machine k fr at vars s) s.fuel (switch ((expression test).value functions) (clauses_c cs) functions s)) (sym (switch_end test cs to at n is))
      (then_at k fr ok (ValueAt b scopes l.is_unsigned l.is_void to.free at1 vars) (λ v. at1) (λ v s1 a1 vars1 z. z.at_is) post (machine k fr at vars s) s.fuel ((expression test).value functions s)
      (λ v s1. and_then (in_order (map (λ c. c.body functions) (chosen v.word (clauses_c cs))) s1) (λ flow. pure (after_switch flow)))
      ((on test).value scopes s at vars n to.free is r.1 h (omega (arith, free)) (stands_front fr.code at (l.value n to.free) (cases ++ rest) st))
      (λ v s1 vars1 z.
      let p = cases_pass ls v.word first to.free vars1 s1 at1 (z.word ((on test).same_void ∙ r.0)) (stands_front fr.code at1 cases rest st1) in
      let h2 = holds_kept b scopes s1 vars1 p.vars' (to.free + 1) (omega (arith, free)) p.kept z.holds in
      does_then k fr inside post (machine k fr at1 vars1 s1) s1.fuel (in_order (map (λ c. c.body functions) (chosen v.word (clauses_c cs))) s1) (λ flow. pure (after_switch flow))
      (by v s1 vars1 (has_label (Some v.word) ls) refl p h2 st2.0 st3)
      (λ flow s3 at3 vars3 w le. switched to around scopes exit flow s3 at3 vars3 w)))
    where
      by : (v : Value) (s1 : State) (vars1 : Variables) (c : Bool) → has_label (Some v.word) (clauses_l cs) ≡ c
          → (p : Passes (to.free + 1) vars1 s1 (past at ((low b.names test).value n to.free)) (if has_label (Some v.word) (clauses_l cs) then start (block_of (Some v.word) (clauses_l cs) (n + (low b.names test).blocks + cases_count (clauses_l cs) + 1)) else past (past at ((low b.names test).value n to.free)) (cases_lines (clauses_l cs) (n + (low b.names test).blocks + cases_count (clauses_l cs) + 1) to.free)))
          → Holds b scopes s1 p.vars'
          → Jumps (past (past at ((low b.names test).value n to.free)) (cases_lines (clauses_l cs) (n + (low b.names test).blocks + cases_count (clauses_l cs) + 1) to.free)) (block_of None (clauses_l cs) (n + (low b.names test).blocks + cases_count (clauses_l cs) + 1))
          → Stands fr.code (start (n + (low b.names test).blocks + cases_count (clauses_l cs) + 1)) (clauses_lines (clauses_l cs) (record to { breaks_to = n + (low b.names test).blocks + cases_count (clauses_l cs) + 1 + clauses_blocks (clauses_l cs) }) (n + (low b.names test).blocks + cases_count (clauses_l cs) + 1))
          → Does k fr (FlowAt (record to { breaks_to = n + (low b.names test).blocks + cases_count (clauses_l cs) + 1 + clauses_blocks (clauses_l cs) }) (inside_switch around) scopes scopes (start (n + (low b.names test).blocks + cases_count (clauses_l cs) + 1 + clauses_blocks (clauses_l cs)))) (machine k fr (past at ((low b.names test).value n to.free)) vars1 s1) s1.fuel (in_order (map (λ c'. c'.body functions) (chosen v.word (clauses_c cs))) s1)
      by v s1 vars1 true found p h2 j st3 =
          let first : ℕ = n + (low b.names test).blocks + cases_count (clauses_l cs) + 1 in
          let exit : ℕ = first + clauses_blocks (clauses_l cs) in
          let to1 : Context = record to { breaks_to = exit } in
          let at1 : Spot = past at ((low b.names test).value n to.free) in
          let inside = FlowAt to1 (inside_switch around) scopes scopes (start exit) in
          let goes = subst (λ (c' : Bool). Comes k (machine k fr at1 vars1 s1) 0 (machine k fr (if c' then start (block_of (Some v.word) (clauses_l cs) first) else past at1 (cases_lines (clauses_l cs) first to.free)) p.vars' s1)) found p.comes in
          subst (λ xs. Does k fr inside (machine k fr at1 vars1 s1) s1.fuel (in_order (map (λ c'. c'.body functions) xs) s1)) (sym (is_found (Some v.word) cs found (from_label None (clauses_c cs))))
          (does_later k fr inside (machine k fr at1 vars1 s1) (machine k fr (start (block_of (Some v.word) (clauses_l cs) first)) p.vars' s1) 0 s1.fuel (in_order (map (λ c'. c'.body functions) (from_label (Some v.word) (clauses_c cs))) s1) goes
          (from_does (Some v.word) cs to1 (inside_switch around) scopes s1 p.vars' first exit free refl fit_c h2 st3))
      by v s1 vars1 false missed p h2 j st3 =
          let first : ℕ = n + (low b.names test).blocks + cases_count (clauses_l cs) + 1 in
          let exit : ℕ = first + clauses_blocks (clauses_l cs) in
          let to1 : Context = record to { breaks_to = exit } in
          let at1 : Spot = past at ((low b.names test).value n to.free) in
          let at2 : Spot = past at1 (cases_lines (clauses_l cs) first to.free) in
          let inside = FlowAt to1 (inside_switch around) scopes scopes (start exit) in
          let goes = subst (λ (c' : Bool). Comes k (machine k fr at1 vars1 s1) 0 (machine k fr (if c' then start (block_of (Some v.word) (clauses_l cs) first) else at2) p.vars' s1)) missed p.comes in
          subst (λ xs. Does k fr inside (machine k fr at1 vars1 s1) s1.fuel (in_order (map (λ c'. c'.body functions) xs) s1)) (sym (ap (λ xs. or_those xs (from_label None (clauses_c cs))) (not_found (Some v.word) cs missed)))
          (does_later k fr inside (machine k fr at1 vars1 s1) (machine k fr at2 p.vars' s1) 0 s1.fuel (in_order (map (λ c'. c'.body functions) (from_label None (clauses_c cs))) s1) goes
          (then_jump k b fr ok functions meets inside at2 p.vars' s1 (block_of None (clauses_l cs) first) s1.fuel (in_order (map (λ c'. c'.body functions) (from_label None (clauses_c cs))) s1) j
          (from_does None cs to1 (inside_switch around) scopes s1 p.vars' first exit free refl fit_c h2 st3)))

  -- ---- every statement

  -- a statement that is no declaration
  alone_follows : (x : Statement) (l : LowStmt) (fits : Around → Scopes → Bool) → ((to : Context) (at : Spot) (n : ℕ) → at.block ≡ n → (past at (l.lines to n)).block ≡ n + l.blocks)
      → ((to : Context) (around : Around) (scopes : Scopes) (s : State) (at : Spot) (vars : Variables) (n : ℕ) → to.free ≡ b.free → at.block ≡ n → fits around scopes ≡ true → Holds b scopes s vars → Stands fr.code at (l.lines to n) → Does k fr (FlowAt to around scopes scopes (past at (l.lines to n))) (machine k fr at vars s) s.fuel (x functions s))
      → FollowsStmt x l (record { fits = fits; after = λ scopes. scopes; is_declaration = false })
  alone_follows x l fits ends does = record { keeps = λ d scopes. refl; grows = λ around outer scopes fit i. i; ends = ends; does = does }

  declare_follows : (ds : List Local) → FollowsStmt (statement_step (Stmt-F.Declare ds)) (low_statement_step b.names (Stmt-F.Declare ds)) (fit_statement_step b.names (Stmt-F.Declare ds))
  declare_follows ds = record {
    keeps = λ d scopes. absurd (false≢true (sym d));
    grows = λ around outer scopes fit i. locals_grow ds around outer scopes fit i;
    ends = locals_end ds;
    does = λ to around scopes s at vars n free is fit h st.
        does_more k fr (DeclaredAt (list_after (map (fit_local b.names) ds) scopes) (past at (list_lines (map (low_local b.names) ds) to n))) (FlowAt to around scopes (list_after (map (fit_local b.names) ds) scopes) (past at (list_lines (map (low_local b.names) ds) to n))) (machine k fr at vars s) s.fuel (in_order (map (declare functions) ds) s)
        (locals_do ds to around scopes s at vars n free is fit h st)
        (λ flow s1 at1 vars1 w. declared_flow to around scopes (list_after (map (fit_local b.names) ds) scopes) (past at (list_lines (map (low_local b.names) ds) to n)) flow s1 at1 vars1 w);
  }

  bare : Stmt-F Substatement Subclause → Stmt-F Stmt Clause
  bare y = map-Stmt Substatement Subclause Stmt Clause (λ c. c.0) (λ c. c.0) y

  bare_clause : Clause-F Substatement Subclause → Clause-F Stmt Clause
  bare_clause y = map-Clause Substatement Subclause Stmt Clause (λ c. c.0) (λ c. c.0) y

  clause_follows : (y : Clause-F Substatement Subclause) → FollowsClause (clause_step (map-Clause Stmt Clause Statement Labelled statement clause (bare_clause y))) (low_clause_step (map-Clause Stmt Clause LowStmt LowClause (low_statement b.names) (low_clause b.names) (bare_clause y))) (fit_clause_step (map-Clause Stmt Clause FitStmt FitClause (fitting_statement b.names) (fitting_clause b.names) (bare_clause y)))
  unfolding bare_clause
  clause_follows y = record {
    labels_are = refl;
    ends = λ to n. list_ends y.body to (start n) n refl;
    does = λ to around scopes s vars n free fit h st. plain_list_does y.body to around scopes s (start n) vars n free refl fit h st;
  }

  each_follows : (y : Stmt-F Substatement Subclause) → FollowsStmt (statement_step (map-Stmt Stmt Clause Statement Labelled statement clause (bare y))) (low_statement_step b.names (map-Stmt Stmt Clause LowStmt LowClause (low_statement b.names) (low_clause b.names) (bare y))) (fit_statement_step b.names (map-Stmt Stmt Clause FitStmt FitClause (fitting_statement b.names) (fitting_clause b.names) (bare y)))
  unfolding bare
  each_follows Stmt-F.Empty = alone_follows (λ functions'. pure Normal) (record { blocks = 0; lines = λ to n. [] }) (λ around scopes. true) (λ to at n is. omega (arith, is)) (λ to around scopes s at vars n free is fit h st. does_nothing k fr (FlowAt to around scopes scopes at) at vars s Normal (refl, h))
  each_follows (Stmt-F.Value e) = alone_follows (statement_step (Stmt-F.Value e)) (low_statement_step b.names (Stmt-F.Value e)) (λ around scopes. (fitting b.names e).fits scopes) (λ to at n is. (on e).value_ends at n to.free is) (λ to around scopes s at vars n free is fit h st. dropped_does e to around scopes s at vars n free is fit h st)
  each_follows (Stmt-F.Declare ds) = declare_follows ds
  each_follows (Stmt-F.Block cs) = alone_follows (statement_step (Stmt-F.Block (map statement (stmts cs)))) (low_list (lows cs)) (λ around scopes. list_fits (fits_of cs) around ([] ∷ scopes)) (λ to at n is. list_ends cs to at n is)
      (λ to around scopes s at vars n free is fit h st. scope_does to around scopes (past at (list_lines (lows cs) to n)) (in_order (map (λ c. c functions) (map statement (stmts cs)))) s at vars
      (list_does cs to around scopes ([] ∷ scopes) (record s { scopes = [] ∷ s.scopes }) at vars n free is fit (inner_new scopes) (open_holds b scopes s vars h) st))
  each_follows (Stmt-F.If test a None) =
      let la : LowStmt = low_statement b.names a.0 in
      let l : LowExpr = low b.names test in
      let join : ℕ → ℕ = λ n. n + l.condition_blocks + la.blocks + 1 in
      let over : (to : Context) (at : Spot) (n : ℕ) → at.block ≡ n → past at ((low_selection l la None).lines to n) ≡ start (join n) =
      λ to at n is. past-append at (l.condition n to.free (n + l.condition_blocks) (join n) true) (la.lines to (n + l.condition_blocks) ++ End (Jump (join n)) ∷ []) ∙ ap (λ z. past z (la.lines to (n + l.condition_blocks) ++ End (Jump (join n)) ∷ [])) ((on test).condition_ends at n to.free (n + l.condition_blocks) (join n) true is)
      ∙ block_end (start (n + l.condition_blocks)) (la.lines to (n + l.condition_blocks)) (Jump (join n)) (n + l.condition_blocks + la.blocks) (a.1.ends to (start (n + l.condition_blocks)) (n + l.condition_blocks) refl) in
      alone_follows (statement_step (Stmt-F.If test (statement a.0) None)) (low_selection l la None) (λ around scopes. has_value (fitting b.names test) scopes && (fits_alone (fitting_statement b.names a.0) around scopes && true))
      (λ to at n is. ap (λ z. z.block) (over to at n is) ∙ (let g : join n ≡ n + (l.condition_blocks + la.blocks + 1) = omega arith in g))
      (λ to around scopes s at vars n free is fit h st.
      let z = both (has_value (fitting b.names test) scopes) (fits_alone (fitting_statement b.names a.0) around scopes && true) fit in
      let y = both (fits_alone (fitting_statement b.names a.0) around scopes) true z.1 in
      subst (λ g. Does k fr (FlowAt to around scopes scopes g) (machine k fr at vars s) s.fuel (statement_step (Stmt-F.If test (statement a.0) None) functions s)) (sym (over to at n is))
      (if_does test (statement a.0) la (fitting_statement b.names a.0) a.1 to around scopes s at vars n free is z.0 y.0 h st))
  each_follows (Stmt-F.If test a (Some c)) =
      let la : LowStmt = low_statement b.names a.0 in
      let lc : LowStmt = low_statement b.names c.0 in
      let l : LowExpr = low b.names test in
      let yes_at : ℕ → ℕ = λ n. n + l.condition_blocks in
      let no_at : ℕ → ℕ = λ n. n + l.condition_blocks + la.blocks + 1 in
      let join : ℕ → ℕ = λ n. n + l.condition_blocks + la.blocks + 1 + lc.blocks + 1 in
      let over : (to : Context) (at : Spot) (n : ℕ) → at.block ≡ n → past at ((low_selection l la (Some lc)).lines to n) ≡ start (join n) =
      λ to at n is. past-append at (l.condition n to.free (yes_at n) (no_at n) true) (la.lines to (yes_at n) ++ (End (Jump (join n)) ∷ (lc.lines to (no_at n) ++ End (Jump (join n)) ∷ []))) ∙ ap (λ z. past z (la.lines to (yes_at n) ++ (End (Jump (join n)) ∷ (lc.lines to (no_at n) ++ End (Jump (join n)) ∷ [])))) ((on test).condition_ends at n to.free (yes_at n) (no_at n) true is)
      ∙ past-append (start (yes_at n)) (la.lines to (yes_at n)) (End (Jump (join n)) ∷ (lc.lines to (no_at n) ++ End (Jump (join n)) ∷ [])) ∙ ap (λ m. past (start (m + 1)) (lc.lines to (no_at n) ++ End (Jump (join n)) ∷ [])) (a.1.ends to (start (yes_at n)) (yes_at n) refl)
      ∙ block_end (start (no_at n)) (lc.lines to (no_at n)) (Jump (join n)) (no_at n + lc.blocks) (c.1.ends to (start (no_at n)) (no_at n) refl) in
      alone_follows (statement_step (Stmt-F.If test (statement a.0) (Some (statement c.0)))) (low_selection l la (Some lc)) (λ around scopes. has_value (fitting b.names test) scopes && (fits_alone (fitting_statement b.names a.0) around scopes && fits_alone (fitting_statement b.names c.0) around scopes))
      (λ to at n is. ap (λ z. z.block) (over to at n is) ∙ (let g : join n ≡ n + (l.condition_blocks + la.blocks + 1 + lc.blocks + 1) = omega arith in g))
      (λ to around scopes s at vars n free is fit h st.
      let z = both (has_value (fitting b.names test) scopes) (fits_alone (fitting_statement b.names a.0) around scopes && fits_alone (fitting_statement b.names c.0) around scopes) fit in
      let y = both (fits_alone (fitting_statement b.names a.0) around scopes) (fits_alone (fitting_statement b.names c.0) around scopes) z.1 in
      subst (λ g. Does k fr (FlowAt to around scopes scopes g) (machine k fr at vars s) s.fuel (statement_step (Stmt-F.If test (statement a.0) (Some (statement c.0))) functions s)) (sym (over to at n is))
      (if_else_does test (statement a.0) (statement c.0) la lc (fitting_statement b.names a.0) (fitting_statement b.names c.0) a.1 c.1 to around scopes s at vars n free is z.0 y.0 y.1 h st))
  each_follows (Stmt-F.While test body) =
      let lb : LowStmt = low_statement b.names body.0 in
      alone_follows (statement_step (Stmt-F.While test (statement body.0))) (low_while (low b.names test) lb) (λ around scopes. has_value (fitting b.names test) scopes && fits_alone (fitting_statement b.names body.0) (inside_loop around) scopes)
      (λ to at n is. ap (λ z. z.block) (while_end test lb to at n is (λ c m. body.1.ends c (start m) m refl)) ∙ (let g : n + 1 + (low b.names test).condition_blocks + lb.blocks + 1 ≡ n + (1 + (low b.names test).condition_blocks + lb.blocks + 1) = omega arith in g))
      (λ to around scopes s at vars n free is fit h st. let z = both (has_value (fitting b.names test) scopes) (fits_alone (fitting_statement b.names body.0) (inside_loop around) scopes) fit in
      while_does test (statement body.0) lb (fitting_statement b.names body.0) body.1 to around scopes s at vars n free is z.0 z.1 h st)
  each_follows (Stmt-F.Do body test) =
      let lb : LowStmt = low_statement b.names body.0 in
      alone_follows (statement_step (Stmt-F.Do (statement body.0) test)) (low_do lb (low b.names test)) (λ around scopes. has_value (fitting b.names test) scopes && fits_alone (fitting_statement b.names body.0) (inside_loop around) scopes)
      (λ to at n is. ap (λ z. z.block) (do_end test lb to at n is (λ c m. body.1.ends c (start m) m refl)) ∙ (let g : n + 1 + lb.blocks + 1 + (low b.names test).condition_blocks ≡ n + (1 + lb.blocks + 1 + (low b.names test).condition_blocks) = omega arith in g))
      (λ to around scopes s at vars n free is fit h st. let z = both (has_value (fitting b.names test) scopes) (fits_alone (fitting_statement b.names body.0) (inside_loop around) scopes) fit in
      do_does test (statement body.0) lb (fitting_statement b.names body.0) body.1 to around scopes s at vars n free is z.0 z.1 h st)
  each_follows (Stmt-F.For first test next' body) =
      let l1 : LowStmt = low_statement b.names first.0 in
      let lb : LowStmt = low_statement b.names body.0 in
      let f1 : FitStmt = fitting_statement b.names first.0 in
      let fb : FitStmt = fitting_statement b.names body.0 in
      alone_follows (statement_step (Stmt-F.For (statement first.0) test next' (statement body.0))) (low_for l1 (low_if b.names test) (low_if b.names next') lb)
      (λ around scopes. f1.fits (record around { breaks = false; continues = false }) ([] ∷ scopes) && (has_value_if b.names test (f1.after ([] ∷ scopes)) && (fits_if b.names next' (f1.after ([] ∷ scopes)) && fits_alone fb (inside_loop around) (f1.after ([] ∷ scopes)))))
      (λ to at n is. ap (λ z. z.block) (for_end (statement first.0) (statement body.0) l1 lb f1 fb first.1 body.1 test next' to n at is)
      ∙ (let g : n + l1.blocks + 1 + test_blocks (low_if b.names test) + lb.blocks + 1 + value_blocks (low_if b.names next') + 1 ≡ n + (l1.blocks + 1 + test_blocks (low_if b.names test) + lb.blocks + 1 + value_blocks (low_if b.names next') + 1) = omega arith in g))
      (λ to around scopes s at vars n free is fit h st.
      let inner : Scopes = f1.after ([] ∷ scopes) in
      let z = both (f1.fits (record around { breaks = false; continues = false }) ([] ∷ scopes)) (has_value_if b.names test inner && (fits_if b.names next' inner && fits_alone fb (inside_loop around) inner)) fit in
      let y = both (has_value_if b.names test inner) (fits_if b.names next' inner && fits_alone fb (inside_loop around) inner) z.1 in
      let x = both (fits_if b.names next' inner) (fits_alone fb (inside_loop around) inner) y.1 in
      for_does (statement first.0) (statement body.0) l1 lb f1 fb first.1 body.1 test next' to n around scopes s at vars free is z.0 y.0 x.0 x.1 h st)
  each_follows (Stmt-F.Switch test cs) =
      alone_follows (statement_step (Stmt-F.Switch test (clauses_c cs))) (low_switch (low b.names test) (clauses_l cs)) (λ around scopes. has_value (fitting b.names test) scopes && each_clause (clauses_f cs) (inside_switch around) scopes)
      (λ to at n is. ap (λ z. z.block) (switch_end test cs to at n is) ∙ (let g : n + (low b.names test).blocks + cases_count (clauses_l cs) + 1 + clauses_blocks (clauses_l cs) ≡ n + ((low b.names test).blocks + cases_count (clauses_l cs) + 1 + clauses_blocks (clauses_l cs)) = omega arith in g))
      (λ to around scopes s at vars n free is fit h st. let z = both (has_value (fitting b.names test) scopes) (each_clause (clauses_f cs) (inside_switch around) scopes) fit in
      switch_does test cs to around scopes s at vars n free is z.0 z.1 h st)
  each_follows (Stmt-F.Break at0) = alone_follows (statement_step (Stmt-F.Break at0)) (low_statement_step b.names (Stmt-F.Break at0)) (λ around scopes. around.breaks) (λ to at n is. omega (arith, is)) (λ to around scopes s at vars n free is fit h st. does_nothing k fr (FlowAt to around scopes scopes (start (at.block + 1))) at vars s Breaks (fit, st.0, h))
  each_follows (Stmt-F.Continue at0) = alone_follows (statement_step (Stmt-F.Continue at0)) (low_statement_step b.names (Stmt-F.Continue at0)) (λ around scopes. around.continues) (λ to at n is. omega (arith, is)) (λ to around scopes s at vars n free is fit h st. does_nothing k fr (FlowAt to around scopes scopes (start (at.block + 1))) at vars s Continues (fit, st.0, h))
  each_follows (Stmt-F.Return e at0) = alone_follows (statement_step (Stmt-F.Return e at0)) (low_statement_step b.names (Stmt-F.Return e at0)) (value_where_due b.names e) (returned_ends e) (λ to around scopes s at vars n free is fit h st. returned_does e to around scopes s at vars n (past at (value_lines (low_if b.names e) n to.free ++ End (Jump to.returns_to) ∷ [])) free is fit h st)

  pub follows_stmt : (c : Stmt) → FollowsStmt (statement c) (low_statement b.names c) (fitting_statement b.names c)
  unfolding bare bare_clause
  follows_stmt = ind-Stmt (λ c. FollowsStmt (statement c) (low_statement b.names c) (fitting_statement b.names c)) (λ c. FollowsClause (clause c) (low_clause b.names c) (fitting_clause b.names c))
      (λ x y is. subst (λ z. FollowsStmt (statement (roll-Stmt z)) (low_statement b.names (roll-Stmt z)) (fitting_statement b.names (roll-Stmt z))) is
      (rw (fold-roll-Stmt Statement Labelled statement_step clause_step (bare y), fold-roll-Stmt LowStmt LowClause (low_statement_step b.names) low_clause_step (bare y), fold-roll-Stmt FitStmt FitClause (fit_statement_step b.names) fit_clause_step (bare y)) (each_follows y)))
      (λ x y is. subst (λ z. FollowsClause (clause (roll-Clause z)) (low_clause b.names (roll-Clause z)) (fitting_clause b.names (roll-Clause z))) is
      (rw (fold-roll-Clause Statement Labelled statement_step clause_step (bare_clause y), fold-roll-Clause LowStmt LowClause (low_statement_step b.names) low_clause_step (bare_clause y), fold-roll-Clause FitStmt FitClause (fit_statement_step b.names) fit_clause_step (bare_clause y)) (clause_follows y)))
