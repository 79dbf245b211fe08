-- The lines of a statement that fits: its variables lie within its temporaries, what it names is there, and it doesn't return by itself.
use Rattle.std.proofs.Common.{◌≡◌, ℕ, ◌+◌, ◌<◌, ◌≤◌, max, Bool, true, false, not, List, [], ◌∷◌, ◌++◌, map, Option, Some, None, refl, subst, arith}
use Rattle.std.specs.Prelude.{◌&&◌}
use Rattle.std.proofs.lemmas.Bool.{and_parts}
use Rattle.c_syntax.specs.declared.tree.Expr.{Expr}
use Rattle.c_syntax.specs.declared.tree.Local.{Local}
use Rattle.c_syntax.specs.declared.tree.Stmt.{Stmt, roll-Stmt, map-Stmt, ind-Stmt, fold-roll-Stmt}
use Rattle.c_syntax.specs.declared.tree.Clause.{Clause, roll-Clause, map-Clause, fold-roll-Clause}
use Rattle.c_syntax.specs.declared.tree.Stmt.TheOpen.{Stmt-F, Clause-F}
use Rattle.c_meaning.specs.Operators.{is_unsigned_type}
use Rattle.c_syntax.specs.Sizes.{greatest, or_zero}
use Rattle.c_syntax.specs.Costs.{need, temps, local_temps, label_temps, statement_temps_step, clause_temps_step, statement_temps, clause_temps}
use Rattle.mid_blocks.specs.declared.code.MidOp.TheVariants.{Eq}
use Rattle.mid_blocks.specs.declared.code.MidStep.TheVariants.{Constant, Copy, Operate}
use Rattle.mid_blocks.specs.declared.code.MidEnd.TheVariants.{Jump, Branch}
use Rattle.mid_blocks.specs.Lines.{Line, Step, End}
use Rattle.lower_rules.specs.Bindings.{Bindings, Defined, symbol}
use Rattle.lower_rules.specs.Expressions.{low}
use Rattle.lower_rules.specs.Statements.{Context, LowStmt, in_loop, value_blocks, value_lines, test_blocks, test_lines_if, low_if, list_lines, local_variable, first_lines, low_local, low_selection, low_while, low_do, low_for, LowClause, low_clause_step, case_lines, cases_count, cases_lines, block_of, clauses_blocks, clauses_lines, low_switch, low_clause, low_statement_step, low_statement}
use Rattle.lower_rules.specs.Scoping.{Scopes, with_name, in_scopes, Around, inside_loop, inside_switch, FitStmt, FitClause, fitting, has_value, has_value_if, fits_if, fits_alone, list_fits, has_variable, same_type, fit_local, value_where_due, each_alone, each_clause, fit_clause_step, fit_statement_step, fitting_statement, fitting_clause}
use Rattle.lower_valid_law.proofs.Clean.{Clean, none_clean, line_clean, join_clean, more_clean, Exists}
use Rattle.lower_valid_law.proofs.Tidy.{Tidy, tidy}

module _ (globals : ℕ) (fits : ℕ → ℕ → Bool) (free : ℕ) (names : Bindings) (there : (name : ℕ) → Exists globals fits free (symbol names name)) (known : (name number arity : ℕ) (void u : Bool) → names.callee name ≡ Defined number arity void u → fits number arity ≡ true) (below : (name v : ℕ) → names.variable name ≡ Some v → v < free) where
  abbrev Fine : List Line → ℕ → Type 0
  Fine lines most = Clean globals fits lines most

  pub record TidyStmt (l : LowStmt) (m : ℕ) : Type 0 where
    pub clean : (to : Context) (b : ℕ) → free ≤ to.free → Clean globals fits (l.lines to b) (to.free + m)

  pub record ReadyStmt (l : LowStmt) (m : ℕ) (f : FitStmt) : Type 0 where
    pub tidy : (around : Around) (scopes : Scopes) → f.fits around scopes ≡ true → TidyStmt l m

  record ReadyClause (c : LowClause) (m : ℕ) (f : FitClause) : Type 0 where
    pub tidy : (around : Around) (scopes : Scopes) → f.fits around scopes ≡ true → TidyStmt c.body m

  of : (e : Expr) (scopes : Scopes) → (fitting names e).fits scopes ≡ true → Tidy globals fits free names there known (low names e) (need e)
  of e scopes h = tidy globals fits free names there known e scopes h

  valued : (e : Expr) (scopes : Scopes) → has_value (fitting names e) scopes ≡ true → Tidy globals fits free names there known (low names e) (need e)
  valued e scopes h = of e scopes (and_parts (not (fitting names e).is_void) ((fitting names e).fits scopes) h).1

  jump_clean : (to m : ℕ) → Fine (End (Jump to) ∷ []) m
  jump_clean to m = record { top_in = omega arith; no_odd = refl }

  if_value_clean : (e : Option Expr) (scopes : Scopes) → fits_if names e scopes ≡ true → (b t : ℕ) → free ≤ t → Fine (value_lines (low_if names e) b t) (t + or_zero temps e)
  if_value_clean None scopes h b t le = none_clean globals fits (t + 0)
  if_value_clean (Some e) scopes h b t le = (of e scopes h).value_clean b t le

  if_test_clean : (e : Option Expr) (scopes : Scopes) → has_value_if names e scopes ≡ true → (b t h f : ℕ) → free ≤ t → Fine (test_lines_if (low_if names e) b t h f) (t + or_zero temps e)
  if_test_clean None scopes v b t h f le = none_clean globals fits (t + 0)
  if_test_clean (Some e) scopes v b t h f le = (valued e scopes v).condition_clean b t h f true le

  -- ---- declarations

  local_below : (o : Option ℕ) (x : Bool) → ((v : ℕ) → o ≡ Some v → v < free) → (has_variable o && x) ≡ true → local_variable o < free
  local_below None x h t = absurd (cc)
  local_below (Some v) x h t = h v refl

  local_ready : (d : Local) → ReadyStmt (low_local names d) (local_temps d) (fit_local names d)
  local_ready d = record {
    tidy = λ around scopes h.
        let p = and_parts (not (in_scopes d.name scopes) && (has_variable (names.variable d.name) && same_type (names.local_unsigned d.name) (is_unsigned_type d.ty))) (has_value_if names d.first (with_name d.name scopes)) h in
        let q = and_parts (not (in_scopes d.name scopes)) (has_variable (names.variable d.name) && same_type (names.local_unsigned d.name) (is_unsigned_type d.ty)) p.0 in
        let lt : local_variable (names.variable d.name) < free = local_below (names.variable d.name) (same_type (names.local_unsigned d.name) (is_unsigned_type d.ty)) (below d.name) q.1 in
        record { clean = λ to b le. by d.first (with_name d.name scopes) p.1 (local_variable (names.variable d.name)) lt to b le };
  }
    where
      by : (o : Option Expr) (scopes : Scopes) → has_value_if names o scopes ≡ true → (v : ℕ) → v < free → (to : Context) (b : ℕ) → free ≤ to.free → Fine (Step (Constant v 0) ∷ first_lines (low_if names o) v b to.free) (to.free + or_zero temps o)
      by None scopes h v lt to b le = record { top_in = omega (arith, lt, le); no_odd = refl }
      by (Some e) scopes h v lt to b le =
          let x = valued e scopes h in
          line_clean globals fits (Step (Constant v 0)) _ (to.free + temps e) (omega (arith, lt, le)) refl
          (join_clean globals fits ((low names e).value b to.free) (Step (Copy v to.free) ∷ []) (to.free + temps e) (x.value_clean b to.free le) (record { top_in = omega (arith, lt, le, x.some); no_odd = refl }))

  locals_clean : (ds : List Local) (around : Around) (scopes : Scopes) → list_fits (map (fit_local names) ds) around scopes ≡ true → (to : Context) (b : ℕ) → free ≤ to.free → Fine (list_lines (map (low_local names) ds) to b) (to.free + greatest (map local_temps ds))
  locals_clean [] around scopes h to b le = none_clean globals fits (to.free + 0)
  locals_clean (d ∷ ds) around scopes h to b le =
      let p = and_parts ((fit_local names d).fits around scopes) (list_fits (map (fit_local names) ds) around (with_name d.name scopes)) h in
      let m : ℕ = to.free + greatest (map local_temps (d ∷ ds)) in
      join_clean globals fits ((low_local names d).lines to b) _ m
      (more_clean globals fits _ (to.free + local_temps d) m (omega arith) (((local_ready d).tidy around scopes p.0).clean to b le))
      (more_clean globals fits _ (to.free + greatest (map local_temps ds)) m (omega arith) (locals_clean ds around (with_name d.name scopes) p.1 to (b + (low_local names d).blocks) le))

  -- ---- one after another

  abbrev ReadyOf : Stmt → Type 0
  ReadyOf c = ReadyStmt (low_statement names c) (statement_temps c) (fitting_statement names c)

  abbrev ReadyClauseOf : Clause → Type 0
  ReadyClauseOf c = ReadyClause (low_clause names c) (clause_temps c) (fitting_clause names c)

  abbrev Part : Type 0
  Part = (c : Stmt) × ReadyOf c

  abbrev ClausePart : Type 0
  ClausePart = (c : Clause) × ReadyClauseOf c

  abbrev stmts : List Part → List Stmt
  stmts cs = map (λ c. c.0) cs

  abbrev the_clauses : List ClausePart → List Clause
  the_clauses cs = map (λ c. c.0) cs

  list_clean : (cs : List Part) (around : Around) (scopes : Scopes) → list_fits (map (fitting_statement names) (stmts cs)) around scopes ≡ true → (to : Context) (b : ℕ) → free ≤ to.free → Fine (list_lines (map (low_statement names) (stmts cs)) to b) (to.free + greatest (map statement_temps (stmts cs)))
  list_clean [] around scopes h to b le = none_clean globals fits (to.free + 0)
  list_clean (c ∷ cs) around scopes h to b le =
      let f : FitStmt = fitting_statement names c.0 in
      let p = and_parts (f.fits around scopes) (list_fits (map (fitting_statement names) (stmts cs)) around (f.after scopes)) h in
      let m : ℕ = to.free + greatest (map statement_temps (stmts (c ∷ cs))) in
      join_clean globals fits ((low_statement names c.0).lines to b) _ m
      (more_clean globals fits _ (to.free + statement_temps c.0) m (omega arith) ((c.1.tidy around scopes p.0).clean to b le))
      (more_clean globals fits _ (to.free + greatest (map statement_temps (stmts cs))) m (omega arith) (list_clean cs around (f.after scopes) p.1 to (b + (low_statement names c.0).blocks) le))

  alone_clean : (cs : List Part) (around : Around) (scopes : Scopes) → each_alone (map (fitting_statement names) (stmts cs)) around scopes ≡ true → (to : Context) (b : ℕ) → free ≤ to.free → Fine (list_lines (map (low_statement names) (stmts cs)) to b) (to.free + greatest (map statement_temps (stmts cs)))
  alone_clean [] around scopes h to b le = none_clean globals fits (to.free + 0)
  alone_clean (c ∷ cs) around scopes h to b le =
      let f : FitStmt = fitting_statement names c.0 in
      let p = and_parts (fits_alone f around scopes) (each_alone (map (fitting_statement names) (stmts cs)) around scopes) h in
      let q = and_parts (not f.is_declaration) (f.fits around scopes) p.0 in
      let m : ℕ = to.free + greatest (map statement_temps (stmts (c ∷ cs))) in
      join_clean globals fits ((low_statement names c.0).lines to b) _ m
      (more_clean globals fits _ (to.free + statement_temps c.0) m (omega arith) ((c.1.tidy around scopes q.1).clean to b le))
      (more_clean globals fits _ (to.free + greatest (map statement_temps (stmts cs))) m (omega arith) (alone_clean cs around scopes p.1 to (b + (low_statement names c.0).blocks) le))

  -- a part where a declaration can't stand
  alone : (c : Part) (around : Around) (scopes : Scopes) → fits_alone (fitting_statement names c.0) around scopes ≡ true → TidyStmt (low_statement names c.0) (statement_temps c.0)
  alone c around scopes h = c.1.tidy around scopes (and_parts (not (fitting_statement names c.0).is_declaration) ((fitting_statement names c.0).fits around scopes) h).1

  -- ---- selection and loops

  test_clean : (e : Expr) (scopes : Scopes) → has_value (fitting names e) scopes ≡ true → (b t h f : ℕ) (nx : Bool) (m : ℕ) → free ≤ t → t + temps e ≤ m → Fine ((low names e).condition b t h f nx) m
  test_clean e scopes v b t h f nx m le most = more_clean globals fits _ (t + temps e) m most ((valued e scopes v).condition_clean b t h f nx le)

  body_clean : (l : LowStmt) (n : ℕ) → TidyStmt l n → (to : Context) (b m : ℕ) → free ≤ to.free → to.free + n ≤ m → Fine (l.lines to b) m
  body_clean l n p to b m le most = more_clean globals fits _ (to.free + n) m most (p.clean to b le)

  while_tidy : (e : Expr) (scopes : Scopes) → has_value (fitting names e) scopes ≡ true → (l : LowStmt) (n : ℕ) → TidyStmt l n → TidyStmt (low_while (low names e) l) (max (temps e) n)
  while_tidy e scopes v l n p = record {
    clean = λ to b le.
        let head : ℕ = b + 1 in let inside : ℕ = head + (low names e).condition_blocks in let exit : ℕ = inside + l.blocks + 1 in
        let m : ℕ = to.free + max (temps e) n in
        line_clean globals fits (End (Jump head)) _ m (omega arith) refl
        (join_clean globals fits _ _ m (test_clean e scopes v head to.free inside exit true m le (omega arith))
        (join_clean globals fits _ _ m (body_clean l n p (in_loop exit head to) inside m le (omega arith)) (jump_clean head m)));
  }

  do_tidy : (e : Expr) (scopes : Scopes) → has_value (fitting names e) scopes ≡ true → (l : LowStmt) (n : ℕ) → TidyStmt l n → TidyStmt (low_do l (low names e)) (max n (temps e))
  do_tidy e scopes v l n p = record {
    clean = λ to b le.
        let inside : ℕ = b + 1 in let head : ℕ = inside + l.blocks + 1 in let exit : ℕ = head + (low names e).condition_blocks in
        let m : ℕ = to.free + max n (temps e) in
        line_clean globals fits (End (Jump inside)) _ m (omega arith) refl
        (join_clean globals fits _ _ m (body_clean l n p (in_loop exit head to) inside m le (omega arith))
        (line_clean globals fits (End (Jump head)) _ m (omega arith) refl (test_clean e scopes v head to.free inside exit false m le (omega arith))));
  }

  for_tidy : (test next : Option Expr) (scopes : Scopes) → has_value_if names test scopes ≡ true → fits_if names next scopes ≡ true → (l1 l2 : LowStmt) (n1 n2 : ℕ) → TidyStmt l1 n1 → TidyStmt l2 n2 → TidyStmt (low_for l1 (low_if names test) (low_if names next) l2) (max n1 (max (or_zero temps test) (max (or_zero temps next) n2)))
  for_tidy test next scopes v f l1 l2 n1 n2 p q = record {
    clean = λ to b le.
        let head : ℕ = b + l1.blocks + 1 in let inside : ℕ = head + test_blocks (low_if names test) in let after : ℕ = inside + l2.blocks + 1 in let exit : ℕ = after + value_blocks (low_if names next) + 1 in
        let m : ℕ = to.free + max n1 (max (or_zero temps test) (max (or_zero temps next) n2)) in
        join_clean globals fits _ _ m (body_clean l1 n1 p to b m le (omega arith))
        (line_clean globals fits (End (Jump head)) _ m (omega arith) refl
        (join_clean globals fits _ _ m (more_clean globals fits _ (to.free + or_zero temps test) m (omega arith) (if_test_clean test scopes v head to.free inside exit le))
        (join_clean globals fits _ _ m (body_clean l2 n2 q (in_loop exit after to) inside m le (omega arith))
        (line_clean globals fits (End (Jump after)) _ m (omega arith) refl
        (join_clean globals fits _ _ m (more_clean globals fits _ (to.free + or_zero temps next) m (omega arith) (if_value_clean next scopes f after to.free le)) (jump_clean head m))))));
  }

  if_tidy : (e : Expr) (scopes : Scopes) → has_value (fitting names e) scopes ≡ true → (l : LowStmt) (n : ℕ) → TidyStmt l n → TidyStmt (low_selection (low names e) l None) (max (temps e) (max n 0))
  if_tidy e scopes v l n p = record {
    clean = λ to b le.
        let holds : ℕ = b + (low names e).condition_blocks in let join : ℕ = holds + l.blocks + 1 in
        let m : ℕ = to.free + max (temps e) (max n 0) in
        join_clean globals fits _ _ m (test_clean e scopes v b to.free holds join true m le (omega arith))
        (join_clean globals fits _ _ m (body_clean l n p to holds m le (omega arith)) (jump_clean join m));
  }

  if_else_tidy : (e : Expr) (scopes : Scopes) → has_value (fitting names e) scopes ≡ true → (l1 l2 : LowStmt) (n1 n2 : ℕ) → TidyStmt l1 n1 → TidyStmt l2 n2 → TidyStmt (low_selection (low names e) l1 (Some l2)) (max (temps e) (max n1 n2))
  if_else_tidy e scopes v l1 l2 n1 n2 p q = record {
    clean = λ to b le.
        let holds : ℕ = b + (low names e).condition_blocks in let fails : ℕ = holds + l1.blocks + 1 in let join : ℕ = fails + l2.blocks + 1 in
        let m : ℕ = to.free + max (temps e) (max n1 n2) in
        join_clean globals fits _ _ m (test_clean e scopes v b to.free holds fails true m le (omega arith))
        (join_clean globals fits _ _ m (body_clean l1 n1 p to holds m le (omega arith))
        (line_clean globals fits (End (Jump join)) _ m (omega arith) refl
        (join_clean globals fits _ _ m (body_clean l2 n2 q to fails m le (omega arith)) (jump_clean join m))));
  }

  -- ---- `switch`

  case_clean : (ls : List (Option ℕ)) (at t m : ℕ) → t + 2 ≤ m → Fine (case_lines ls at t) m
  case_clean [] at t m le = none_clean globals fits m
  case_clean (None ∷ ls) at t m le = case_clean ls at t m le
  case_clean (Some word ∷ ls) at t m le =
      line_clean globals fits (Step (Constant (t + 1) word)) _ m (omega (arith, le)) refl
      (line_clean globals fits (Step (Operate Eq (t + 1) t (t + 1))) _ m (omega (arith, le)) refl
      (line_clean globals fits (End (Branch (t + 1) true at)) _ m (omega (arith, le)) refl (case_clean ls at t m le)))

  cases_clean : (cs : List LowClause) (at t m : ℕ) → t + 2 ≤ m → Fine (cases_lines cs at t) m
  cases_clean [] at t m le = none_clean globals fits m
  cases_clean (c ∷ cs) at t m le = join_clean globals fits (case_lines c.labels at t) _ m (case_clean c.labels at t m le) (cases_clean cs (at + c.body.blocks + 1) t m le)

  clauses_clean : (cs : List ClausePart) (around : Around) (scopes : Scopes) → each_clause (map (fitting_clause names) (the_clauses cs)) around scopes ≡ true → (to : Context) (b : ℕ) → free ≤ to.free → Fine (clauses_lines (map (low_clause names) (the_clauses cs)) to b) (to.free + greatest (map clause_temps (the_clauses cs)))
  clauses_clean [] around scopes h to b le = none_clean globals fits (to.free + 0)
  clauses_clean (c ∷ cs) around scopes h to b le =
      let l : LowClause = low_clause names c.0 in
      let p = and_parts ((fitting_clause names c.0).fits around scopes) (each_clause (map (fitting_clause names) (the_clauses cs)) around scopes) h in
      let m : ℕ = to.free + greatest (map clause_temps (the_clauses (c ∷ cs))) in
      join_clean globals fits (l.body.lines to b) _ m (body_clean l.body (clause_temps c.0) (c.1.tidy around scopes p.0) to b m le (omega arith))
      (line_clean globals fits (End (Jump (b + l.body.blocks + 1))) _ m (omega arith) refl
      (more_clean globals fits _ (to.free + greatest (map clause_temps (the_clauses cs))) m (omega arith) (clauses_clean cs around scopes p.1 to (b + l.body.blocks + 1) le)))

  switch_tidy : (e : Expr) (cs : List ClausePart) (around : Around) (scopes : Scopes) → has_value (fitting names e) scopes ≡ true → each_clause (map (fitting_clause names) (the_clauses cs)) around scopes ≡ true → TidyStmt (low_switch (low names e) (map (low_clause names) (the_clauses cs))) (max (max (temps e) 2) (greatest (map clause_temps (the_clauses cs))))
  switch_tidy e cs around scopes v h = record {
    clean = λ to b le.
        let ls : List LowClause = map (low_clause names) (the_clauses cs) in
        let first : ℕ = b + (low names e).blocks + cases_count ls + 1 in
        let to' : Context = record to { breaks_to = first + clauses_blocks ls } in
        let m : ℕ = to.free + max (max (temps e) 2) (greatest (map clause_temps (the_clauses cs))) in
        join_clean globals fits ((low names e).value b to.free) _ m (more_clean globals fits _ (to.free + temps e) m (omega arith) ((valued e scopes v).value_clean b to.free le))
        (join_clean globals fits (cases_lines ls first to.free) _ m (cases_clean ls first to.free m (omega arith))
        (line_clean globals fits (End (Jump (block_of None ls first))) _ m (omega arith) refl
        (more_clean globals fits _ (to.free + greatest (map clause_temps (the_clauses cs))) m (omega arith) (clauses_clean cs around scopes h to' first le))));
  }

  -- ---- all statements

  bare : Stmt-F Part ClausePart → Stmt-F Stmt Clause
  bare y = map-Stmt Part ClausePart Stmt Clause (λ c. c.0) (λ c. c.0) y

  bare_clause : Clause-F Part ClausePart → Clause-F Stmt Clause
  bare_clause y = map-Clause Part ClausePart Stmt Clause (λ c. c.0) (λ c. c.0) y

  clause_ready : (y : Clause-F Part ClausePart) → ReadyClause (low_clause_step (map-Clause Stmt Clause LowStmt LowClause (low_statement names) (low_clause names) (bare_clause y))) (clause_temps_step (map-Clause Stmt Clause ℕ ℕ statement_temps clause_temps (bare_clause y))) (fit_clause_step (map-Clause Stmt Clause FitStmt FitClause (fitting_statement names) (fitting_clause names) (bare_clause y)))
  unfolding bare_clause
  clause_ready y = record {
    tidy = λ around scopes h. record {
      clean = λ to b le.
          let labels : ℕ = greatest (map label_temps y.labels) in
          let own : ℕ = greatest (map statement_temps (stmts y.body)) in
          more_clean globals fits (list_lines (map (low_statement names) (stmts y.body)) to b) (to.free + own) (to.free + max labels own) (omega arith) (alone_clean y.body around scopes h to b le);
    };
  }

  return_clean : (e : Option Expr) (around : Around) (scopes : Scopes) → value_where_due names e around scopes ≡ true → (to : Context) (b : ℕ) → free ≤ to.free → Fine (value_lines (low_if names e) b to.free ++ End (Jump to.returns_to) ∷ []) (to.free + or_zero temps e)
  return_clean None around scopes h to b le = jump_clean to.returns_to (to.free + 0)
  return_clean (Some e) around scopes h to b le =
      let p = and_parts around.returns (has_value (fitting names e) scopes) h in
      join_clean globals fits ((low names e).value b to.free) _ (to.free + temps e) ((valued e scopes p.1).value_clean b to.free le) (jump_clean to.returns_to (to.free + temps e))

  abbrev Each : Stmt-F Part ClausePart → Type 0
  Each y = (around : Around) (scopes : Scopes) → (fit_statement_step names (map-Stmt Stmt Clause FitStmt FitClause (fitting_statement names) (fitting_clause names) (bare y))).fits around scopes ≡ true → TidyStmt (low_statement_step names (map-Stmt Stmt Clause LowStmt LowClause (low_statement names) (low_clause names) (bare y))) (statement_temps_step (map-Stmt Stmt Clause ℕ ℕ statement_temps clause_temps (bare y)))

  each_ready : (y : Stmt-F Part ClausePart) → Each y
  unfolding bare
  each_ready Stmt-F.Empty around scopes h = record { clean = λ to b le. none_clean globals fits (to.free + 0) }
  each_ready (Stmt-F.Value e) around scopes h = record { clean = λ to b le. (of e scopes h).value_clean b to.free le }
  each_ready (Stmt-F.Declare ds) around scopes h = record { clean = λ to b le. locals_clean ds around scopes h to b le }
  each_ready (Stmt-F.Block cs) around scopes h = record { clean = λ to b le. list_clean cs around ([] ∷ scopes) h to b le }
  each_ready (Stmt-F.If e a None) around scopes h =
      let p = and_parts (has_value (fitting names e) scopes) (fits_alone (fitting_statement names a.0) around scopes && true) h in
      let q = and_parts (fits_alone (fitting_statement names a.0) around scopes) true p.1 in
      if_tidy e scopes p.0 (low_statement names a.0) (statement_temps a.0) (alone a around scopes q.0)
  each_ready (Stmt-F.If e a (Some c)) around scopes h =
      let p = and_parts (has_value (fitting names e) scopes) (fits_alone (fitting_statement names a.0) around scopes && fits_alone (fitting_statement names c.0) around scopes) h in
      let q = and_parts (fits_alone (fitting_statement names a.0) around scopes) (fits_alone (fitting_statement names c.0) around scopes) p.1 in
      if_else_tidy e scopes p.0 (low_statement names a.0) (low_statement names c.0) (statement_temps a.0) (statement_temps c.0) (alone a around scopes q.0) (alone c around scopes q.1)
  each_ready (Stmt-F.While e a) around scopes h =
      let p = and_parts (has_value (fitting names e) scopes) (fits_alone (fitting_statement names a.0) (inside_loop around) scopes) h in
      while_tidy e scopes p.0 (low_statement names a.0) (statement_temps a.0) (alone a (inside_loop around) scopes p.1)
  each_ready (Stmt-F.Do a e) around scopes h =
      let p = and_parts (has_value (fitting names e) scopes) (fits_alone (fitting_statement names a.0) (inside_loop around) scopes) h in
      do_tidy e scopes p.0 (low_statement names a.0) (statement_temps a.0) (alone a (inside_loop around) scopes p.1)
  each_ready (Stmt-F.For a test next c) around scopes h =
      let f : FitStmt = fitting_statement names a.0 in
      let s : Scopes = f.after ([] ∷ scopes) in
      let p = and_parts (f.fits (record around { breaks = false; continues = false }) ([] ∷ scopes)) (has_value_if names test s && (fits_if names next s && fits_alone (fitting_statement names c.0) (inside_loop around) s)) h in
      let q = and_parts (has_value_if names test s) (fits_if names next s && fits_alone (fitting_statement names c.0) (inside_loop around) s) p.1 in
      let r = and_parts (fits_if names next s) (fits_alone (fitting_statement names c.0) (inside_loop around) s) q.1 in
      for_tidy test next s q.0 r.0 (low_statement names a.0) (low_statement names c.0) (statement_temps a.0) (statement_temps c.0) (a.1.tidy (record around { breaks = false; continues = false }) ([] ∷ scopes) p.0) (alone c (inside_loop around) s r.1)
  each_ready (Stmt-F.Switch e cs) around scopes h =
      let p = and_parts (has_value (fitting names e) scopes) (each_clause (map (fitting_clause names) (the_clauses cs)) (inside_switch around) scopes) h in
      switch_tidy e cs (inside_switch around) scopes p.0 p.1
  each_ready (Stmt-F.Break at) around scopes h = record { clean = λ to b le. jump_clean to.breaks_to (to.free + 0) }
  each_ready (Stmt-F.Continue at) around scopes h = record { clean = λ to b le. jump_clean to.continues_to (to.free + 0) }
  each_ready (Stmt-F.Return e at) around scopes h = record { clean = λ to b le. return_clean e around scopes h to b le }

  ready : (c : Stmt) → ReadyOf c
  unfolding bare bare_clause
  ready = ind-Stmt ReadyOf ReadyClauseOf
      (λ x y is. subst (λ z. ReadyOf (roll-Stmt z)) is
      (rw (fold-roll-Stmt LowStmt LowClause (low_statement_step names) low_clause_step (bare y), fold-roll-Stmt ℕ ℕ statement_temps_step clause_temps_step (bare y), fold-roll-Stmt FitStmt FitClause (fit_statement_step names) fit_clause_step (bare y)) (record { tidy = each_ready y })))
      (λ x y is. subst (λ z. ReadyClauseOf (roll-Clause z)) is
      (rw (fold-roll-Clause LowStmt LowClause (low_statement_step names) low_clause_step (bare_clause y), fold-roll-Clause ℕ ℕ statement_temps_step clause_temps_step (bare_clause y), fold-roll-Clause FitStmt FitClause (fit_statement_step names) fit_clause_step (bare_clause y)) (clause_ready y)))

  -- the statements of a body
  pub body_clean_lines : (cs : List Stmt) (around : Around) (scopes : Scopes) → list_fits (map (fitting_statement names) cs) around scopes ≡ true → (to : Context) (b : ℕ) → free ≤ to.free → Clean globals fits (list_lines (map (low_statement names) cs) to b) (to.free + greatest (map statement_temps cs))
  body_clean_lines [] around scopes h to b le = none_clean globals fits (to.free + 0)
  body_clean_lines (c ∷ cs) around scopes h to b le =
      let f : FitStmt = fitting_statement names c in
      let p = and_parts (f.fits around scopes) (list_fits (map (fitting_statement names) cs) around (f.after scopes)) h in
      let m : ℕ = to.free + greatest (map statement_temps (c ∷ cs)) in
      join_clean globals fits ((low_statement names c).lines to b) _ m
      (more_clean globals fits _ (to.free + statement_temps c) m (omega arith) (((ready c).tidy around scopes p.0).clean to b le))
      (more_clean globals fits _ (to.free + greatest (map statement_temps cs)) m (omega arith) (body_clean_lines cs around (f.after scopes) p.1 to (b + (low_statement names c).blocks) le))
