-- A statement that the walk leaves as it is fits, and the names that it declares come in ascending order.
use Rattle.std.proofs.Common.{◌≡◌, ℕ, suc, ◌≤◌, Bool, true, false, not, ◌&&◌, ◌||◌, List, [], ◌∷◌, ◌++◌, map, flat_map, length, Option, Some, None, refl, sym, ap, ◌∙◌, subst, arith}
use Rattle.std.proofs.lemmas.Bool.{or_from, or_left, or_right}
use Rattle.c_syntax.specs.declared.tree.Ty.{Ty}
use Rattle.c_syntax.specs.declared.tree.Expr.{Expr}
use Rattle.c_syntax.specs.declared.tree.Local.{Local}
use Rattle.c_syntax.specs.declared.tree.Label.{Label}
use Rattle.c_syntax.specs.declared.tree.Clause.{Clause, roll-Clause, map-Clause, fold-Clause, fold-roll-Clause}
use Rattle.c_syntax.specs.declared.tree.Stmt.{Stmt, roll-Stmt, map-Stmt, ind-Stmt, fold-roll-Stmt}
use Rattle.c_syntax.specs.declared.tree.Stmt as stmt
use Rattle.c_syntax.specs.declared.tree.Stmt.TheOpen.{Stmt-F, Clause-F}
use Rattle.c_syntax.specs.declared.tree.Stmt.TheVariants.{rolls-Declare, rolls-Block, rolls-If, rolls-While, rolls-Do, rolls-For, rolls-Switch}
use Rattle.c_meaning.specs.Operators.{is_unsigned_type}
use Rattle.c_meaning.specs.Run.{without_first}
use Rattle.c_syntax.specs.Shaped.{each, Form, is_substatement, plain, form_step, clause_form_step, form}
use Rattle.c_syntax.specs.Literals.{all_true, literals_are_words, if_there as literals_if, local_literals, label_literals, statement_literals_step, clause_literals_step, statement_literals, clause_literals}
use Rattle.std.specs.List.{list_all}
use Rattle.check_rules.specs.declared.error.CheckKind.TheVariants.{BreakOutside, BadReturn}
use Rattle.check_rules.specs.declared.names.Kind.TheVariants.{Scalar}
use Rattle.check_rules.specs.declared.names.Around.{Around}
use Rattle.check_rules.specs.Fault.{require}
use Rattle.check_rules.specs.Scopes.{Scope, Walking, in_force, binding, enter_block, is_new, opened, closed}
use Rattle.check_rules.specs.Limits.{CallSite, joined, of_option, expression_calls, local_calls, label_calls, statement_calls_step, clause_calls_step, statement_calls}
use Rattle.check_rules.specs.Walk.{is_void, with_value, any_expression, if_there, new_name, variable, walk_local, walk_locals, looping, switching, Labels, no_labels, StatementWalk, ClauseWalk, walk_each, walk_else, walk_labels, walk_clauses, is_good_return, statement_walk_step, clause_walk_step, statement_walk, clause_walk}
use Rattle.check_law.proofs.Yields.{Yields, yields_ok, yields_then, yields_after, required}
use Rattle.check_law.proofs.Unchanged.{and_true}
use Rattle.lower_rules.specs.Bindings.{GlobalShape, Bindings, Callee}
use Rattle.lower_rules.specs.Scoping as low
use Rattle.lower_rules.specs.Scoping.{Scopes, with_name, in_scopes, same_type, has_variable, has_value, fitting, has_value_if, fits_if, inside_loop, inside_switch, FitStmt, FitClause, fit_statement, fits_alone, fits_alone_if, list_fits, list_after, each_alone, each_clause, fit_local, fit_statement_step, fit_clause_step, fitting_statement, fitting_clause}
use Rattle.lower_rules.specs.Programs.{Variable, place_of, unsigned_in, local_variables, declared_step, declared_in_clause, declared, some_of, is_there, returns_step, returns_in_clause, returns_value}
use Rattle.lower_checked.proofs.Ascends.{Ascends, ascends_both, variable_name, Held, HeldEach, held_both}
use Rattle.lower_checked.proofs.Layers.{same_layer, same_clause}
use Rattle.lower_checked.proofs.FitExpressions.{both_true, Good, good_both, fits_value, expression_fits}
use Rattle.lower_checked.proofs.CheckedFitsInside.{bindings, scopes_of, MeantFile, new_scopes, Inside, inside_opened, inside_closed, inside_entered, one_more, scopes_entered, tail_entered, meant_inside}

abbrev pub clause_calls : Clause → List CallSite
clause_calls = fold-Clause (List CallSite) (List CallSite) statement_calls_step clause_calls_step

abbrev pub clause_declares : Clause → List Variable
clause_declares = fold-Clause (List Variable) (List Variable) declared_step declared_in_clause

abbrev pub clause_form : Clause → Bool
clause_form = fold-Clause Form Bool form_step clause_form_step

abbrev pub clause_returns : Clause → Bool
clause_returns = fold-Clause Bool Bool returns_step returns_in_clause

abbrev pub LowFits : Type 0
LowFits = low.Around → Scopes → Bool

same_as_itself : (b : Bool) → same_type b b ≡ true
same_as_itself true = refl
same_as_itself false = refl

module _ (variables : List Variable) (shapes : List GlobalShape) (callee : ℕ → Callee) (known : ℕ → Bool) (file : Scope) (meant : MeantFile variables shapes callee known file) (returning : Bool) where
  abbrev b : Bindings
  b = bindings variables shapes callee

  -- ---- expressions

  value_fits : (w : Walking) (e : Expr) → Yields (with_value e w) (λ e'. Inside variables file w → Good known (literals_are_words e) (expression_calls e) → has_value (fitting b e) (scopes_of w.blocks) ≡ true)
  value_fits w e = record {
    if_ok = λ e' is i g.
        let m = meant_inside variables shapes callee known file meant w i in
        (fits_value b known (in_force w) (scopes_of w.blocks) m (expression_fits b known (in_force w) (scopes_of w.blocks) m e)).if_ok e' is g;
  }

  any_fits : (w : Walking) (e : Expr) → Yields (any_expression e w) (λ e'. Inside variables file w → Good known (literals_are_words e) (expression_calls e) → (fitting b e).fits (scopes_of w.blocks) ≡ true)
  any_fits w e = record {
    if_ok = λ e' is i g.
        let m = meant_inside variables shapes callee known file meant w i in
        ((expression_fits b known (in_force w) (scopes_of w.blocks) m e).by.if_ok e' is g).fits;
  }

  value_if_fits : (w : Walking) (o : Option Expr) → Yields (if_there with_value o w) (λ o'. Inside variables file w → Good known (literals_if literals_are_words o) (of_option expression_calls o) → has_value_if b o (scopes_of w.blocks) ≡ true)
  value_if_fits w None = yields_ok None (λ i g. refl)
  value_if_fits w (Some e) = yields_then (value_fits w e) (λ e' p. yields_ok (Some e') p)

  any_if_fits : (w : Walking) (o : Option Expr) → Yields (if_there any_expression o w) (λ o'. Inside variables file w → Good known (literals_if literals_are_words o) (of_option expression_calls o) → fits_if b o (scopes_of w.blocks) ≡ true)
  any_if_fits w None = yields_ok None (λ i g. refl)
  any_if_fits w (Some e) = yields_then (any_fits w e) (λ e' p. yields_ok (Some e') p)

  -- ---- what is asked of a part, and what is found

  -- what stands around a part in lowering allows as much as in the walk
  pub record Suits (around : Around) (a : low.Around) : Type 0 where
    pub breaks : (around.in_loop || around.in_switch) ≡ true → a.breaks ≡ true
    pub continues : around.in_loop ≡ true → a.continues ≡ true
    pub returns : a.returns ≡ returning
    pub void : is_void around.ty ≡ true → returning ≡ false

  pub record Fine (vs : List Variable) (shaped literals : Bool) (calls : List CallSite) (gives : Bool) : Type 0 where
    pub held : HeldEach variables vs
    pub shape : shaped ≡ true
    pub good : Good known literals calls
    pub gave : gives ≡ true → returning ≡ true

  pub record Rest (around : Around) (w r : Walking) (fits : LowFits) : Type 0 where
    pub inside : Inside variables file r
    pub fit : (a : low.Around) → Suits around a → fits a (scopes_of w.blocks) ≡ true

  -- a part of a body, from before it to behind it
  pub record Facts (around : Around) (w r : Walking) (fits : LowFits) (vs : List Variable) (shaped literals : Bool) (calls : List CallSite) (gives : Bool) : Type 0 where
    pub same_file : r.file ≡ w.file
    pub same_bodies : r.bodies ≡ w.bodies
    pub ascends : Ascends variable_name (length w.decls) vs (length r.decls)
    pub tail : without_first r.blocks ≡ without_first w.blocks
    pub no_value : is_void around.ty ≡ true → gives ≡ false
    pub rest : Inside variables file w → Fine vs shaped literals calls gives → Rest around w r fits

  -- one that leaves the scopes
  pub record Still (around : Around) (w r : Walking) (fits : LowFits) (vs : List Variable) (shaped literals : Bool) (calls : List CallSite) (gives : Bool) : Type 0 where
    pub facts : Facts around w r fits vs shaped literals calls gives
    pub still : shaped ≡ true → r.blocks ≡ w.blocks

  pub record Steady (around : Around) (w r : Walking) (f : FitStmt) (vs : List Variable) (o : Form) (literals : Bool) (calls : List CallSite) (gives : Bool) : Type 0 where
    pub facts : Facts around w r f.fits vs o.is_shaped literals calls gives
    pub declares : f.is_declaration ≡ o.is_declaration
    pub still : o.is_declaration ≡ false → o.is_shaped ≡ true → r.blocks ≡ w.blocks
    pub after : o.is_shaped ≡ true → scopes_of r.blocks ≡ f.after (scopes_of w.blocks)
    pub first : Inside variables file w → Fine vs o.is_shaped literals calls gives → o.is_clause ≡ true → (a : low.Around) → f.fits a (scopes_of w.blocks) ≡ true

  -- ---- parts one after another

  fine_both : (vs vs' : List Variable) (s s' l l' : Bool) (cs cs' : List CallSite) (v v' : Bool) → Fine (vs ++ vs') (s && s') (l && l') (cs ++ cs') (v || v') → Fine vs s l cs v × Fine vs' s' l' cs' v'
  fine_both vs vs' s s' l l' cs cs' v v' n =
      let h = held_both variables vs vs' n.held in
      let p = and_true s s' n.shape in
      let g = good_both known l l' cs cs' n.good in
      (record { held = h.0; shape = p.0; good = g.0; gave = λ t. n.gave (or_left v v' t) }, record { held = h.1; shape = p.1; good = g.1; gave = λ t. n.gave (or_right v v' t) })

  still_none : (around : Around) (w : Walking) → Still around w w (λ a s. true) [] true true [] false
  still_none around w = record {
    facts = record { same_file = refl; same_bodies = refl; ascends = omega arith; tail = refl; no_value = λ t. refl; rest = λ i n. record { inside = i; fit = λ a s. refl } };
    still = λ s. refl;
  }

  still_both : {around : Around} {w w1 w2 : Walking} {fits fits' : LowFits} {vs vs' : List Variable} {s s' l l' : Bool} {cs cs' : List CallSite} {v v' : Bool} → Still around w w1 fits vs s l cs v → Still around w1 w2 fits' vs' s' l' cs' v' → Still around w w2 (λ a x. fits a x && fits' a x) (vs ++ vs') (s && s') (l && l') (cs ++ cs') (v || v')
  still_both {around = around} {w = w} {w1 = w1} {w2 = w2} {fits = fits} {fits' = fits'} {vs = vs} {vs' = vs'} {s = s} {s' = s'} {l = l} {l' = l'} {cs = cs} {cs' = cs'} {v = v} {v' = v'} x y = record {
    facts = record {
      same_file = y.facts.same_file ∙ x.facts.same_file;
      same_bodies = y.facts.same_bodies ∙ x.facts.same_bodies;
      ascends = ascends_both variable_name (length w.decls) vs (length w1.decls) vs' (length w2.decls) x.facts.ascends y.facts.ascends;
      tail = y.facts.tail ∙ x.facts.tail;
      no_value = λ t. or_from v v' (x.facts.no_value t) (y.facts.no_value t);
      rest = λ i n.
          let m = fine_both vs vs' s s' l l' cs cs' v v' n in
          let r1 = x.facts.rest i m.0 in
          let r2 = y.facts.rest r1.inside m.1 in
          record { inside = r2.inside; fit = λ a u. both_true (fits a (scopes_of w.blocks)) (fits' a (scopes_of w.blocks)) (r1.fit a u) (subst (λ L. fits' a (scopes_of L) ≡ true) (x.still m.0.shape) (r2.fit a u)) };
    };
    still = λ t. let p = and_true s s' t in y.still p.1 ∙ x.still p.0;
  }

  -- a statement where no declaration can stand
  still_alone : {around : Around} {w r : Walking} {f : FitStmt} {vs : List Variable} {o : Form} {l : Bool} {cs : List CallSite} {v : Bool} → Steady around w r f vs o l cs v → Still around w r (fits_alone f) vs (is_substatement o) l cs v
  still_alone {around = around} {w = w} {f = f} {o = o} x = record {
    facts = record {
      same_file = x.facts.same_file;
      same_bodies = x.facts.same_bodies;
      ascends = x.facts.ascends;
      tail = x.facts.tail;
      no_value = x.facts.no_value;
      rest = λ i n.
          let p = and_true (not o.is_declaration) o.is_shaped n.shape in
          let r1 = x.facts.rest i (record { held = n.held; shape = p.1; good = n.good; gave = n.gave }) in
          record { inside = r1.inside; fit = λ a u. both_true (not f.is_declaration) (f.fits a (scopes_of w.blocks)) (ap not x.declares ∙ p.0) (r1.fit a u) };
    };
    still = λ t. let p = and_true (not o.is_declaration) o.is_shaped t in x.still (no_declaration o.is_declaration p.0) p.1;
  }
    where
      no_declaration : (d : Bool) → not d ≡ true → d ≡ false
      no_declaration true is = absurd cc
      no_declaration false is = refl

  -- an expression before it
  still_tested : {around : Around} {w r : Walking} {fits : LowFits} {vs : List Variable} {s l : Bool} {cs : List CallSite} {v : Bool} (l0 : Bool) (cs0 : List CallSite) (test : Scopes → Bool) → (Inside variables file w → Good known l0 cs0 → test (scopes_of w.blocks) ≡ true) → Still around w r fits vs s l cs v → Still around w r (λ a x. test x && fits a x) vs s (l0 && l) (cs0 ++ cs) v
  still_tested {w = w} {fits = fits} {l = l} {cs = cs} l0 cs0 test p x = record {
    facts = record {
      same_file = x.facts.same_file;
      same_bodies = x.facts.same_bodies;
      ascends = x.facts.ascends;
      tail = x.facts.tail;
      no_value = x.facts.no_value;
      rest = λ i n.
          let g = good_both known l0 l cs0 cs n.good in
          let r1 = x.facts.rest i (record { held = n.held; shape = n.shape; good = g.1; gave = n.gave }) in
          record { inside = r1.inside; fit = λ a u. both_true (test (scopes_of w.blocks)) (fits a (scopes_of w.blocks)) (p i g.0) (r1.fit a u) };
    };
    still = x.still;
  }

  -- an expression behind it
  still_then : {around : Around} {w r : Walking} {fits : LowFits} {vs : List Variable} {s l : Bool} {cs : List CallSite} {v : Bool} (l0 : Bool) (cs0 : List CallSite) (test : Scopes → Bool) → (Inside variables file r → Good known l0 cs0 → test (scopes_of r.blocks) ≡ true) → Still around w r fits vs s l cs v → Still around w r (λ a x. test x && fits a x) vs s (l && l0) (cs ++ cs0) v
  still_then {w = w} {fits = fits} {l = l} {cs = cs} l0 cs0 test p x = record {
    facts = record {
      same_file = x.facts.same_file;
      same_bodies = x.facts.same_bodies;
      ascends = x.facts.ascends;
      tail = x.facts.tail;
      no_value = x.facts.no_value;
      rest = λ i n.
          let g = good_both known l l0 cs cs0 n.good in
          let r1 = x.facts.rest i (record { held = n.held; shape = n.shape; good = g.0; gave = n.gave }) in
          record { inside = r1.inside; fit = λ a u. both_true (test (scopes_of w.blocks)) (fits a (scopes_of w.blocks)) (subst (λ L. test (scopes_of L) ≡ true) (x.still n.shape) (p r1.inside g.1)) (r1.fit a u) };
    };
    still = x.still;
  }

  -- inside of what changes what stands around
  still_around : {around outer : Around} {w r : Walking} {fits : LowFits} {vs : List Variable} {s l : Bool} {cs : List CallSite} {v : Bool} (change : low.Around → low.Around) → around.ty ≡ outer.ty → ((a : low.Around) → Suits outer a → Suits around (change a)) → Still around w r fits vs s l cs v → Still outer w r (λ a x. fits (change a) x) vs s l cs v
  still_around change ty suits x = record {
    facts = record {
      same_file = x.facts.same_file;
      same_bodies = x.facts.same_bodies;
      ascends = x.facts.ascends;
      tail = x.facts.tail;
      no_value = λ t. x.facts.no_value (ap is_void ty ∙ t);
      rest = λ i n. let r1 = x.facts.rest i n in record { inside = r1.inside; fit = λ a u. r1.fit (change a) (suits a u) };
    };
    still = x.still;
  }

  suits_loop : (around : Around) (a : low.Around) → Suits around a → Suits (looping around) (inside_loop a)
  suits_loop around a u = record { breaks = λ t. refl; continues = λ t. refl; returns = u.returns; void = u.void }

  suits_switch : (around : Around) (a : low.Around) → Suits around a → Suits (switching around) (inside_switch a)
  suits_switch around a u = record { breaks = λ t. refl; continues = u.continues; returns = u.returns; void = u.void }

  still_loop : {around : Around} {w r : Walking} {fits : LowFits} {vs : List Variable} {s l : Bool} {cs : List CallSite} {v : Bool} → Still (looping around) w r fits vs s l cs v → Still around w r (λ a x. fits (inside_loop a) x) vs s l cs v
  still_loop {around = around} x = still_around inside_loop refl (suits_loop around) x

  still_switch : {around : Around} {w r : Walking} {fits : LowFits} {vs : List Variable} {s l : Bool} {cs : List CallSite} {v : Bool} → Still (switching around) w r fits vs s l cs v → Still around w r (λ a x. fits (inside_switch a) x) vs s l cs v
  still_switch {around = around} x = still_around inside_switch refl (suits_switch around) x

  -- a statement that is neither a declaration nor a clause
  steady : {around : Around} {w r : Walking} {fits : LowFits} {vs : List Variable} {s l : Bool} {cs : List CallSite} {v : Bool} → Still around w r fits vs s l cs v → Steady around w r (fit_statement fits) vs (plain s) l cs v
  steady x = record { facts = x.facts; declares = refl; still = λ d s. x.still s; after = λ s. ap scopes_of (x.still s); first = λ i n is. absurd cc }

  -- one without declarations and statements in it
  leaf : (around : Around) (w : Walking) (fits : LowFits) (l : Bool) (cs : List CallSite) (v : Bool) → (is_void around.ty ≡ true → v ≡ false) → (Inside variables file w → Fine [] true l cs v → (a : low.Around) → Suits around a → fits a (scopes_of w.blocks) ≡ true) → Still around w w fits [] true l cs v
  leaf around w fits l cs v void p = record {
    facts = record { same_file = refl; same_bodies = refl; ascends = omega arith; tail = refl; no_value = void; rest = λ i n. record { inside = i; fit = p i n } };
    still = λ s. refl;
  }

  -- ---- declarations (6.7)

  pub record LocalRest (d : Local) (w r : Walking) : Type 0 where
    pub inside : Inside variables file r
    pub fit : (a : low.Around) → (fit_local b d).fits a (scopes_of w.blocks) ≡ true

  pub record LocalFacts (d : Local) (w r : Walking) : Type 0 where
    pub same_file : r.file ≡ w.file
    pub same_bodies : r.bodies ≡ w.bodies
    pub from : length w.decls ≤ d.name
    pub to : suc d.name ≤ length r.decls
    pub tail : without_first r.blocks ≡ without_first w.blocks
    pub after : scopes_of r.blocks ≡ with_name d.name (scopes_of w.blocks)
    pub rest : Inside variables file w → Held variables (record { name = d.name; is_unsigned = is_unsigned_type d.ty }) → Good known (local_literals d) (local_calls d) → LocalRest d w r

  local_fits : (d : Local) (w : Walking) → Yields (walk_local d w) (λ r. r.0 ≡ d → LocalFacts d w r.1)
  local_fits d w =
      let w1 : Walking = enter_block d.name (Scalar d.is_const) (variable d.ty d.is_const) w in
      yields_after {m = new_name (is_new d.name w.blocks) d.at} (λ new. yields_then (value_if_fits w1 d.first) (λ first p. yields_ok (record d { name = length w.decls; first = first }, w1) (λ is.
      let e = one_more variables w.decls (variable d.ty d.is_const) in
      let n : d.name ≡ length w.decls = sym (ap (λ (x : Local). x.name) is) in
      let z : scopes_of w1.blocks ≡ with_name d.name (scopes_of w.blocks) = scopes_entered (binding d.name (Scalar d.is_const) w) w.blocks in
      record {
        same_file = refl;
        same_bodies = refl;
        from = omega (arith, n);
        to = omega (arith, n, e);
        tail = tail_entered (binding d.name (Scalar d.is_const) w) w.blocks;
        after = z;
        rest = λ i h g.
            let i1 = inside_entered variables file d.name d.is_const (variable d.ty d.is_const) w n h.variable i in
            let t1 : in_scopes d.name (scopes_of w.blocks) ≡ false = new_scopes variables (length w.decls) d.name w.blocks (omega (arith, n)) i.blocks in
            let t2 : has_variable (place_of d.name 0 variables) ≡ true = h.variable in
            let t3 : same_type (unsigned_in d.name variables) (is_unsigned_type d.ty) ≡ true = ap (λ x. same_type x (is_unsigned_type d.ty)) h.type ∙ same_as_itself (is_unsigned_type d.ty) in
            let t4 : has_value_if b d.first (with_name d.name (scopes_of w.blocks)) ≡ true = subst (λ x. has_value_if b d.first x ≡ true) z (p i1 g) in
            record { inside = i1; fit = λ a. rw (t1, t2, t3, t4) refl };
      })))

  pub record LocalsFacts (ds : List Local) (w r : Walking) : Type 0 where
    pub same_file : r.file ≡ w.file
    pub same_bodies : r.bodies ≡ w.bodies
    pub ascends : Ascends variable_name (length w.decls) (local_variables ds) (length r.decls)
    pub tail : without_first r.blocks ≡ without_first w.blocks
    pub after : scopes_of r.blocks ≡ list_after (map (fit_local b) ds) (scopes_of w.blocks)
    pub rest : Inside variables file w → HeldEach variables (local_variables ds) → Good known (list_all local_literals ds) (joined (map local_calls ds)) → Inside variables file r × ((a : low.Around) → list_fits (map (fit_local b) ds) a (scopes_of w.blocks) ≡ true)

  locals_fit : (ds : List Local) (w : Walking) → Yields (walk_locals ds w) (λ r. r.0 ≡ ds → LocalsFacts ds w r.1)
  locals_fit [] w = yields_ok ([], w) (λ is. record { same_file = refl; same_bodies = refl; ascends = omega arith; tail = refl; after = refl; rest = λ i h g. (i, λ a. refl) })
  locals_fit (d ∷ ds) w = yields_then (local_fits d w) (λ r1 p. yields_then (locals_fit ds r1.1) (λ r2 q. yields_ok (r1.0 ∷ r2.0, r2.1) (λ is.
      let x = p cc in
      let y = q cc in
      record {
        same_file = y.same_file ∙ x.same_file;
        same_bodies = y.same_bodies ∙ x.same_bodies;
        ascends = ascends_both variable_name (length w.decls) (record { name = d.name; is_unsigned = is_unsigned_type d.ty } ∷ []) (length (r1.1).decls) (local_variables ds) (length (r2.1).decls) (x.from, x.to) y.ascends;
        tail = y.tail ∙ x.tail;
        after = y.after ∙ ap (list_after (map (fit_local b) ds)) x.after;
        rest = λ i h g.
            let k = good_both known (local_literals d) (list_all local_literals ds) (local_calls d) (joined (map local_calls ds)) g in
            let u = x.rest i h.0 k.0 in
            let v = y.rest u.inside h.1 k.1 in
            (v.0, λ a. both_true ((fit_local b d).fits a (scopes_of w.blocks)) (list_fits (map (fit_local b) ds) a (with_name d.name (scopes_of w.blocks))) (u.fit a) (subst (λ z. list_fits (map (fit_local b) ds) a z ≡ true) x.after (v.1 a)));
      })))

  -- ---- statements (6.8)

  pub record Fits (x : StatementWalk) (c : Stmt) (f : FitStmt) (vs : List Variable) (o : Form) (literals : Bool) (calls : List CallSite) (gives : Bool) : Type 0 where
    pub by : (around : Around) (w : Walking) → Yields (x around w) (λ r. r.0 ≡ c → Steady around w r.1 f vs o literals calls gives)

  pub record ClauseFits (x : ClauseWalk) (c : Clause) (f : FitClause) (vs : List Variable) (shaped literals : Bool) (calls : List CallSite) (gives : Bool) : Type 0 where
    pub by : (labels : Labels) (around : Around) (w : Walking) → Yields (x labels around w) (λ r. r.0 ≡ c → Still around w r.2 f.fits vs shaped literals calls gives)

  abbrev pub StatementFits : Stmt → Type 0
  StatementFits c = Fits (statement_walk c) c (fitting_statement b c) (declared c) (form c) (statement_literals c) (statement_calls c) (returns_value c)

  abbrev OneClauseFits : Clause → Type 0
  OneClauseFits c = ClauseFits (clause_walk c) c (fitting_clause b c) (clause_declares c) (clause_form c) (clause_literals c) (clause_calls c) (clause_returns c)

  abbrev Part : Type 0
  Part = (c : Stmt) × StatementFits c

  abbrev ClausePart : Type 0
  ClausePart = (c : Clause) × OneClauseFits c

  abbrev bare : Stmt-F Part ClausePart → Stmt-F Stmt Clause
  bare y = map-Stmt Part ClausePart Stmt Clause (λ c. c.0) (λ c. c.0) y

  abbrev bare_clause : Clause-F Part ClausePart → Clause-F Stmt Clause
  bare_clause y = map-Clause Part ClausePart Stmt Clause (λ c. c.0) (λ c. c.0) y

  abbrev StatementsFit : List Stmt → Type 0
  StatementsFit [] = Unit {0}
  StatementsFit (c ∷ cs) = StatementFits c × StatementsFit cs

  abbrev bares : List Part → List Stmt
  bares cs = map (λ c. c.0) cs

  each_part : (cs : List Part) → StatementsFit (bares cs)
  each_part [] = tt
  each_part (c ∷ cs) = (c.1, each_part cs)

  abbrev pub ListFacts : Around → Walking → Walking → List Stmt → Type 0
  ListFacts around w r cs = Facts around w r (list_fits (map (fitting_statement b) cs)) (flat_map (λ vs. vs) (map declared cs)) (each (λ c. c.is_shaped) (map form cs)) (all_true (map statement_literals cs)) (joined (map statement_calls cs)) (some_of (map returns_value cs))

  list_fit : (cs : List Stmt) → StatementsFit cs → (around : Around) (w : Walking) → Yields (walk_each (map statement_walk cs) around w) (λ r. r.0 ≡ cs → ListFacts around w r.1 cs)
  list_fit [] h around w = yields_ok ([], w) (λ is. record { same_file = refl; same_bodies = refl; ascends = omega arith; tail = refl; no_value = λ t. refl; rest = λ i n. record { inside = i; fit = λ a u. refl } })
  list_fit (c ∷ cs) h around w = yields_then (h.0.by around w) (λ r1 p. yields_then (list_fit cs h.1 around r1.1) (λ r2 q. yields_ok (r1.0 ∷ r2.0, r2.1) (λ is.
      let x = p cc in
      let y = q cc in
      let f : FitStmt = fitting_statement b c in
      let fs : List FitStmt = map (fitting_statement b) cs in
      record {
        same_file = y.same_file ∙ x.facts.same_file;
        same_bodies = y.same_bodies ∙ x.facts.same_bodies;
        ascends = ascends_both variable_name (length w.decls) (declared c) (length (r1.1).decls) (flat_map (λ vs. vs) (map declared cs)) (length (r2.1).decls) x.facts.ascends y.ascends;
        tail = y.tail ∙ x.facts.tail;
        no_value = λ t. or_from (returns_value c) (some_of (map returns_value cs)) (x.facts.no_value t) (y.no_value t);
        rest = λ i n.
            let m = fine_both (declared c) (flat_map (λ vs. vs) (map declared cs)) (form c).is_shaped (each (λ c. c.is_shaped) (map form cs)) (statement_literals c) (all_true (map statement_literals cs)) (statement_calls c) (joined (map statement_calls cs)) (returns_value c) (some_of (map returns_value cs)) n in
            let u1 = x.facts.rest i m.0 in
            let u2 = y.rest u1.inside m.1 in
            record { inside = u2.inside; fit = λ a u. both_true (f.fits a (scopes_of w.blocks)) (list_fits fs a (f.after (scopes_of w.blocks))) (u1.fit a u) (subst (λ z. list_fits fs a z ≡ true) (x.after m.0.shape) (u2.fit a u)) };
      })))

  -- statements of a clause
  alone_fit : (cs : List Stmt) → StatementsFit cs → (around : Around) (w : Walking) → Yields (walk_each (map statement_walk cs) around w) (λ r. r.0 ≡ cs → Still around w r.1 (each_alone (map (fitting_statement b) cs)) (flat_map (λ vs. vs) (map declared cs)) (each is_substatement (map form cs)) (all_true (map statement_literals cs)) (joined (map statement_calls cs)) (some_of (map returns_value cs)))
  alone_fit [] h around w = yields_ok ([], w) (λ is. still_none around w)
  alone_fit (c ∷ cs) h around w = yields_then (h.0.by around w) (λ r1 p. yields_then (alone_fit cs h.1 around r1.1) (λ r2 q. yields_ok (r1.0 ∷ r2.0, r2.1) (λ is.
      let x = p cc in
      let y = q cc in
      still_both (still_alone x) y)))

  abbrev bare_clauses : List ClausePart → List Clause
  bare_clauses cs = map (λ c. c.0) cs

  clauses_fit : (cs : List ClausePart) (labels : Labels) (around : Around) (w : Walking) → Yields (walk_clauses (map clause_walk (bare_clauses cs)) labels around w) (λ r. r.0 ≡ bare_clauses cs → Still around w r.1 (each_clause (map (fitting_clause b) (bare_clauses cs))) (flat_map (λ vs. vs) (map clause_declares (bare_clauses cs))) (each (λ c. c) (map clause_form (bare_clauses cs))) (all_true (map clause_literals (bare_clauses cs))) (joined (map clause_calls (bare_clauses cs))) (some_of (map clause_returns (bare_clauses cs))))
  clauses_fit [] labels around w = yields_ok ([], w) (λ is. still_none around w)
  clauses_fit (c ∷ cs) labels around w = yields_then (c.1.by labels around w) (λ r1 p. yields_then (clauses_fit cs r1.1 around r1.2) (λ r2 q. yields_ok (r1.0 ∷ r2.0, r2.1) (λ is.
      let x = p cc in
      let y = q cc in
      still_both x y)))

  else_fits : (c : Part) (around : Around) (w : Walking) → Yields (walk_else (Some (statement_walk c.0)) around w) (λ r. r.0 ≡ Some c.0 → Steady around w r.1 (fitting_statement b c.0) (declared c.0) (form c.0) (statement_literals c.0) (statement_calls c.0) (returns_value c.0))
  else_fits c around w = yields_then (c.1.by around w) (λ r q. yields_ok (Some r.0, r.1) (λ is. q cc))

  -- labels before it
  still_past : {around : Around} {w r : Walking} {fits : LowFits} {vs : List Variable} {s l : Bool} {cs : List CallSite} {v : Bool} (l0 : Bool) (cs0 : List CallSite) → Still around w r fits vs s l cs v → Still around w r fits vs s (l0 && l) (cs0 ++ cs) v
  still_past {l = l} {cs = cs} l0 cs0 x = record {
    facts = record {
      same_file = x.facts.same_file;
      same_bodies = x.facts.same_bodies;
      ascends = x.facts.ascends;
      tail = x.facts.tail;
      no_value = x.facts.no_value;
      rest = λ i n. let g = good_both known l0 l cs0 cs n.good in x.facts.rest i (record { held = n.held; shape = n.shape; good = g.1; gave = n.gave });
    };
    still = x.still;
  }

  -- a scope of its own
  still_block : {around : Around} {w r : Walking} {fits : LowFits} {vs : List Variable} {s l : Bool} {cs : List CallSite} {v : Bool} → Facts around (opened w) r fits vs s l cs v → Still around w (closed r) (λ a x. fits a ([] ∷ x)) vs s l cs v
  still_block {w = w} {r = r} x = record {
    facts = record {
      same_file = x.same_file;
      same_bodies = x.same_bodies;
      ascends = x.ascends;
      tail = ap without_first x.tail;
      no_value = x.no_value;
      rest = λ i n. let u1 = x.rest (inside_opened variables file w i) n in record { inside = inside_closed variables file r u1.inside; fit = λ a u. u1.fit a u };
    };
    still = λ t. x.tail;
  }

  abbrev outside : low.Around → low.Around
  outside a = record a { breaks = false; continues = false }

  -- the first clause of a `for`, and what follows in its scope
  still_for : {around : Around} {w w1 r : Walking} {f : FitStmt} {fits : LowFits} {o : Form} {vs vs' : List Variable} {s' l l' : Bool} {cs cs' : List CallSite} {v v' : Bool} → Steady around (opened w) w1 f vs o l cs v → Still around w1 r fits vs' s' l' cs' v' →
      Still around w (closed r) (λ a x. f.fits (outside a) ([] ∷ x) && fits a (f.after ([] ∷ x))) (vs ++ vs') ((o.is_clause && o.is_shaped) && s') (l && l') (cs ++ cs') (v || v')
  still_for {around = around} {w = w} {w1 = w1} {r = r} {f = f} {fits = fits} {o = o} {vs = vs} {vs' = vs'} {s' = s'} {l = l} {l' = l'} {cs = cs} {cs' = cs'} {v = v} {v' = v'} x y =
      let t : without_first r.blocks ≡ w.blocks = y.facts.tail ∙ x.facts.tail in
      record {
        facts = record {
          same_file = y.facts.same_file ∙ x.facts.same_file;
          same_bodies = y.facts.same_bodies ∙ x.facts.same_bodies;
          ascends = ascends_both variable_name (length w.decls) vs (length w1.decls) vs' (length r.decls) x.facts.ascends y.facts.ascends;
          tail = ap without_first t;
          no_value = λ z. or_from v v' (x.facts.no_value z) (y.facts.no_value z);
          rest = λ i n.
              let m = fine_both vs vs' (o.is_clause && o.is_shaped) s' l l' cs cs' v v' n in
              let p = and_true o.is_clause o.is_shaped m.0.shape in
              let n1 : Fine vs o.is_shaped l cs v = record { held = m.0.held; shape = p.1; good = m.0.good; gave = m.0.gave } in
              let i1 = inside_opened variables file w i in
              let u1 = x.facts.rest i1 n1 in
              let u2 = y.facts.rest u1.inside m.1 in
              record {
                inside = inside_closed variables file r u2.inside;
                fit = λ a u. both_true (f.fits (outside a) ([] ∷ scopes_of w.blocks)) (fits a (f.after ([] ∷ scopes_of w.blocks))) (x.first i1 n1 p.0 (outside a)) (subst (λ z. fits a z ≡ true) (x.after p.1) (u2.fit a u));
              };
        };
        still = λ z. t;
      }

  -- an expression, or nothing
  simple : (around : Around) (w : Walking) (test : Scopes → Bool) (l : Bool) (cs : List CallSite) → (Inside variables file w → Good known l cs → test (scopes_of w.blocks) ≡ true) → Steady around w w (fit_statement (λ a x. test x)) [] (record { is_declaration = false; is_clause = true; is_shaped = true }) l cs false
  simple around w test l cs p = record {
    facts = record { same_file = refl; same_bodies = refl; ascends = omega arith; tail = refl; no_value = λ t. refl; rest = λ i n. record { inside = i; fit = λ a u. p i n.good } };
    declares = refl;
    still = λ d s. refl;
    after = λ s. refl;
    first = λ i n c a. p i n.good;
  }

  good_return : (ty : Ty) (e : Option Expr) → is_good_return ty e ≡ true → is_void ty ≡ true → is_there e ≡ false
  good_return ty None is v = refl
  good_return ty (Some e) is v = let h = rw v at is in absurd cc

  return_fits : (around : Around) (w : Walking) (e : Option Expr) → is_good_return around.ty e ≡ true → (Inside variables file w → Good known (literals_if literals_are_words e) (of_option expression_calls e) → has_value_if b e (scopes_of w.blocks) ≡ true) →
      Inside variables file w → Fine [] true (literals_if literals_are_words e) (of_option expression_calls e) (is_there e) → (a : low.Around) → Suits around a → low.value_where_due b e a (scopes_of w.blocks) ≡ true
  return_fits around w None is p i n a u = ap not (u.returns ∙ u.void is)
  return_fits around w (Some e) is p i n a u = both_true a.returns (has_value (fitting b e) (scopes_of w.blocks)) (u.returns ∙ n.gave refl) (p i n.good)

  abbrev StepFits : Stmt-F Stmt Clause → Type 0
  StepFits y = Fits (statement_walk_step (map-Stmt Stmt Clause StatementWalk ClauseWalk statement_walk clause_walk y)) (roll-Stmt y) (fit_statement_step b (map-Stmt Stmt Clause FitStmt FitClause (fitting_statement b) (fitting_clause b) y))
      (declared_step (map-Stmt Stmt Clause (List Variable) (List Variable) declared clause_declares y)) (form_step (map-Stmt Stmt Clause Form Bool form clause_form y)) (statement_literals_step (map-Stmt Stmt Clause Bool Bool statement_literals clause_literals y))
      (statement_calls_step (map-Stmt Stmt Clause (List CallSite) (List CallSite) statement_calls clause_calls y)) (returns_step (map-Stmt Stmt Clause Bool Bool returns_value clause_returns y))

  each_fits : (y : Stmt-F Part ClausePart) → StepFits (bare y)
  each_fits Stmt-F.Empty = record { by = λ around w. yields_ok (stmt.Empty, w) (λ is. simple around w (λ x. true) true [] (λ i g. refl)) }
  each_fits (Stmt-F.Value e) = record { by = λ around w. yields_then (any_fits w e) (λ e' p. yields_ok (stmt.Value e', w) (λ is. simple around w (λ x. (fitting b e).fits x) (literals_are_words e) (expression_calls e) p)) }
  each_fits (Stmt-F.Declare ds) = record {
    by = λ around w. yields_then (locals_fit ds w) (λ r p. yields_ok (stmt.Declare r.0, r.1) (λ is.
        let e = same_layer (Stmt-F.Declare r.0) (Stmt-F.Declare ds) (rolls-Declare r.0 ∙ is) in
        let x = p cc in
        record {
          facts = record { same_file = x.same_file; same_bodies = x.same_bodies; ascends = x.ascends; tail = x.tail; no_value = λ t. refl; rest = λ i n. let u = x.rest i n.held n.good in record { inside = u.0; fit = λ a z. u.1 a } };
          declares = refl;
          still = λ d s. absurd cc;
          after = λ s. x.after;
          first = λ i n c a. (x.rest i n.held n.good).1 a;
        }));
  }
  each_fits (Stmt-F.Block cs) = record {
    by = λ around w. yields_then (list_fit (bares cs) (each_part cs) around (opened w)) (λ r p. yields_ok (stmt.Block r.0, closed r.1) (λ is.
        let e = same_layer (Stmt-F.Block r.0) (Stmt-F.Block (bares cs)) (rolls-Block r.0 ∙ is) in
        let x = p cc in
        steady (still_block x)));
  }
  each_fits (Stmt-F.If t c None) = record {
    by = λ around w. yields_then (value_fits w t) (λ t' p. yields_then (c.1.by around w) (λ r q. yields_ok (stmt.If t' r.0 None, r.1) (λ is.
        let e = same_layer (Stmt-F.If t' r.0 None) (Stmt-F.If t c.0 None) (rolls-If t' r.0 None ∙ is) in
        let x = q cc in
        steady (still_tested (literals_are_words t) (expression_calls t) (λ z. has_value (fitting b t) z) p (still_both (still_alone x) (still_none around r.1))))));
  }
  each_fits (Stmt-F.If t c (Some d)) = record {
    by = λ around w. yields_then (value_fits w t) (λ t' p. yields_then (c.1.by around w) (λ r1 q. yields_then (else_fits d around r1.1) (λ r2 o. yields_ok (stmt.If t' r1.0 r2.0, r2.1) (λ is.
        let e = same_layer (Stmt-F.If t' r1.0 r2.0) (Stmt-F.If t c.0 (Some d.0)) (rolls-If t' r1.0 r2.0 ∙ is) in
        let x = q cc in
        let y = o cc in
        steady (still_tested (literals_are_words t) (expression_calls t) (λ z. has_value (fitting b t) z) p (still_both (still_alone x) (still_alone y)))))));
  }
  each_fits (Stmt-F.While t c) = record {
    by = λ around w. yields_then (value_fits w t) (λ t' p. yields_then (c.1.by (looping around) w) (λ r q. yields_ok (stmt.While t' r.0, r.1) (λ is.
        let e = same_layer (Stmt-F.While t' r.0) (Stmt-F.While t c.0) (rolls-While t' r.0 ∙ is) in
        let x = q cc in
        steady (still_tested (literals_are_words t) (expression_calls t) (λ z. has_value (fitting b t) z) p (still_loop (still_alone x))))));
  }
  each_fits (Stmt-F.Do c t) = record {
    by = λ around w. yields_then (c.1.by (looping around) w) (λ r q. yields_then (value_fits r.1 t) (λ t' p. yields_ok (stmt.Do r.0 t', r.1) (λ is.
        let e = same_layer (Stmt-F.Do r.0 t') (Stmt-F.Do c.0 t) (rolls-Do r.0 t' ∙ is) in
        let x = q cc in
        steady (still_then (literals_are_words t) (expression_calls t) (λ z. has_value (fitting b t) z) p (still_loop (still_alone x))))));
  }
  each_fits (Stmt-F.For first t next c) = record {
    by = λ around w. yields_then (first.1.by around (opened w)) (λ r1 p. yields_then (value_if_fits r1.1 t) (λ t' u. yields_then (any_if_fits r1.1 next) (λ n' v. yields_then (c.1.by (looping around) r1.1) (λ r2 q. yields_ok (stmt.For r1.0 t' n' r2.0, closed r2.1) (λ is.
        let e = same_layer (Stmt-F.For r1.0 t' n' r2.0) (Stmt-F.For first.0 t next c.0) (rolls-For r1.0 t' n' r2.0 ∙ is) in
        let x = p cc in
        let y = q cc in
        steady (still_for x (still_tested (literals_if literals_are_words t) (of_option expression_calls t) (has_value_if b t) u (still_tested (literals_if literals_are_words next) (of_option expression_calls next) (fits_if b next) v (still_loop (still_alone y))))))))));
  }
  each_fits (Stmt-F.Switch t cs) = record {
    by = λ around w. yields_then (value_fits w t) (λ t' p. yields_then (clauses_fit cs no_labels (switching around) w) (λ r q. yields_ok (stmt.Switch t' r.0, r.1) (λ is.
        let e = same_layer (Stmt-F.Switch t' r.0) (Stmt-F.Switch t (bare_clauses cs)) (rolls-Switch t' r.0 ∙ is) in
        let x = q cc in
        steady (still_tested (literals_are_words t) (expression_calls t) (λ z. has_value (fitting b t) z) p (still_switch x)))));
  }
  each_fits (Stmt-F.Break at) = record { by = λ around w. yields_after {m = require (around.in_loop || around.in_switch) BreakOutside at} (λ ok. yields_ok (stmt.Break at, w) (λ is. steady (leaf around w (λ a x. a.breaks) true [] false (λ t. refl) (λ i n a u. u.breaks (required (around.in_loop || around.in_switch) BreakOutside at ok))))) }
  each_fits (Stmt-F.Continue at) = record { by = λ around w. yields_after {m = require around.in_loop BreakOutside at} (λ ok. yields_ok (stmt.Continue at, w) (λ is. steady (leaf around w (λ a x. a.continues) true [] false (λ t. refl) (λ i n a u. u.continues (required around.in_loop BreakOutside at ok))))) }
  each_fits (Stmt-F.Return e at) = record {
    by = λ around w. yields_after {m = require (is_good_return around.ty e) BadReturn at} (λ ok. yields_then (value_if_fits w e) (λ e' p. yields_ok (stmt.Return e' at, w) (λ is.
        let good = required (is_good_return around.ty e) BadReturn at ok in
        steady (leaf around w (low.value_where_due b e) (literals_if literals_are_words e) (of_option expression_calls e) (is_there e) (good_return around.ty e good) (return_fits around w e good p)))));
  }

  each_clause_fits : (y : Clause-F Part ClausePart) → ClauseFits (clause_walk_step (map-Clause Stmt Clause StatementWalk ClauseWalk statement_walk clause_walk (bare_clause y))) (roll-Clause (bare_clause y)) (fit_clause_step (map-Clause Stmt Clause FitStmt FitClause (fitting_statement b) (fitting_clause b) (bare_clause y)))
      (declared_in_clause (map-Clause Stmt Clause (List Variable) (List Variable) declared clause_declares (bare_clause y))) (clause_form_step (map-Clause Stmt Clause Form Bool form clause_form (bare_clause y))) (clause_literals_step (map-Clause Stmt Clause Bool Bool statement_literals clause_literals (bare_clause y)))
      (clause_calls_step (map-Clause Stmt Clause (List CallSite) (List CallSite) statement_calls clause_calls (bare_clause y))) (returns_in_clause (map-Clause Stmt Clause Bool Bool returns_value clause_returns (bare_clause y)))
  each_clause_fits y = record {
    by = λ labels around w. yields_then {A = List Label × Labels} {m = walk_labels y.labels labels w} {P = λ r. Unit {0}} (record { if_ok = λ r is. tt }) (λ r1 u. yields_then (alone_fit (bares y.body) (each_part y.body) around w) (λ r2 q. yields_ok (record { labels = r1.0; body = r2.0 }, r1.1, r2.1) (λ is.
        let e = same_clause (record { labels = r1.0; body = r2.0 }) (bare_clause y) is in
        let x = q (ap (λ z. z.body) e) in
        still_past (list_all label_literals y.labels) (joined (map label_calls y.labels)) x)));
  }

  pub statement_fits : (c : Stmt) → StatementFits c
  statement_fits = ind-Stmt StatementFits OneClauseFits
      (λ x y is. subst (λ z. StatementFits (roll-Stmt z)) is (rw (fold-roll-Stmt StatementWalk ClauseWalk statement_walk_step clause_walk_step (bare y), fold-roll-Stmt FitStmt FitClause (fit_statement_step b) fit_clause_step (bare y), fold-roll-Stmt (List Variable) (List Variable) declared_step declared_in_clause (bare y), fold-roll-Stmt Form Bool form_step clause_form_step (bare y), fold-roll-Stmt Bool Bool statement_literals_step clause_literals_step (bare y), fold-roll-Stmt (List CallSite) (List CallSite) statement_calls_step clause_calls_step (bare y), fold-roll-Stmt Bool Bool returns_step returns_in_clause (bare y)) (each_fits y)))
      (λ x y is. subst (λ z. OneClauseFits (roll-Clause z)) is (rw (fold-roll-Clause StatementWalk ClauseWalk statement_walk_step clause_walk_step (bare_clause y), fold-roll-Clause FitStmt FitClause (fit_statement_step b) fit_clause_step (bare_clause y), fold-roll-Clause (List Variable) (List Variable) declared_step declared_in_clause (bare_clause y), fold-roll-Clause Form Bool form_step clause_form_step (bare_clause y), fold-roll-Clause Bool Bool statement_literals_step clause_literals_step (bare_clause y), fold-roll-Clause (List CallSite) (List CallSite) statement_calls_step clause_calls_step (bare_clause y), fold-roll-Clause Bool Bool returns_step returns_in_clause (bare_clause y)) (each_clause_fits y)))

  all_fit : (cs : List Stmt) → StatementsFit cs
  all_fit [] = tt
  all_fit (c ∷ cs) = (statement_fits c, all_fit cs)

  -- the statements of a body
  pub body_fits : (cs : List Stmt) (around : Around) (w : Walking) → Yields (walk_each (map statement_walk cs) around w) (λ r. r.0 ≡ cs → ListFacts around w r.1 cs)
  body_fits cs around w = list_fit cs (all_fit cs) around w
