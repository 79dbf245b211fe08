-- The constants in the lines of a statement that fits are words, where the words of its cases are.
use Rattle.std.proofs.Common.{◌≡◌, ℕ, ◌+◌, ◌^◌, Bool, true, false, not, List, [], ◌∷◌, ◌++◌, map, Option, Some, None, refl, ap, subst, if◌then◌else◌, arith}
use Rattle.std.specs.Prelude.{◌&&◌, nat_lt}
use Rattle.std.specs.List.{list_all}
use Rattle.std.proofs.lemmas.Bool.{and_parts}
use Rattle.c_syntax.specs.declared.tree.Expr.{Expr}
use Rattle.c_syntax.specs.declared.tree.Local.{Local}
use Rattle.c_syntax.specs.declared.tree.Label.{Label}
use Rattle.c_syntax.specs.declared.tree.Stmt.{Stmt, roll-Stmt, map-Stmt, ind-Stmt, fold-roll-Stmt}
use Rattle.c_syntax.specs.declared.tree.Clause.{Clause, roll-Clause, map-Clause, fold-roll-Clause}
use Rattle.c_syntax.specs.declared.tree.Stmt.TheOpen.{Stmt-F, Clause-F}
use Rattle.c_meaning.specs.Operators.{is_unsigned_type}
use Rattle.c_meaning.specs.Meaning.{label_word}
use Rattle.mid_blocks.specs.declared.code.MidStep.TheVariants.{Constant, Copy}
use Rattle.mid_blocks.specs.declared.code.MidEnd.TheVariants.{Jump}
use Rattle.mid_blocks.specs.Lines.{Line, Step, End}
use Rattle.lower_rules.specs.Bindings.{Bindings}
use Rattle.lower_rules.specs.Expressions.{low}
use Rattle.lower_rules.specs.Statements.{Context, LowStmt, in_loop, value_blocks, value_lines, test_blocks, test_lines_if, low_if, local_variable, first_lines, low_local, low_list, low_selection, low_while, low_do, low_for, LowClause, low_clause_step, case_lines, cases_count, cases_lines, clauses_blocks, clauses_lines, low_switch, low_clause, low_statement_step, low_statement}
use Rattle.lower_rules.specs.Scoping.{Scopes, with_name, in_scopes, Around, inside_loop, inside_switch, FitStmt, FitClause, fitting, has_value, has_value_if, fits_if, fits_alone, list_fits, has_variable, same_type, fit_local, value_where_due, each_alone, each_clause, fit_clause_step, fit_statement_step, fitting_statement, fitting_clause}
use Rattle.lower_rules.specs.Labels.{is_word, all_true, cases_step, clause_cases_step, cases_are_words, clause_cases_are_words}
use Rattle.lower_size_law.proofs.Narrow.{wide, wide_join, Narrow, narrow}

module _ (names : Bindings) where
  pub record NarrowStmt (l : LowStmt) : Type 0 where
    pub none : (to : Context) (b : ℕ) → wide (l.lines to b) ≡ 0

  record Ready (l : LowStmt) (f : FitStmt) (cases : Bool) : Type 0 where
    pub narrow : (around : Around) (scopes : Scopes) → f.fits around scopes ≡ true → cases ≡ true → NarrowStmt l

  record ReadyClause (c : LowClause) (f : FitClause) (cases : Bool) : Type 0 where
    pub labels : cases ≡ true → (at t : ℕ) → wide (case_lines c.labels at t) ≡ 0
    pub narrow : (around : Around) (scopes : Scopes) → f.fits around scopes ≡ true → cases ≡ true → NarrowStmt c.body

  of : (e : Expr) (scopes : Scopes) → (fitting names e).fits scopes ≡ true → Narrow (low names e)
  of e scopes h = narrow names e scopes h

  valued : (e : Expr) (scopes : Scopes) → has_value (fitting names e) scopes ≡ true → Narrow (low names e)
  valued e scopes h = of e scopes (and_parts (not (fitting names e).is_void) ((fitting names e).fits scopes) h).1

  if_value : (e : Option Expr) (scopes : Scopes) → fits_if names e scopes ≡ true → (b t : ℕ) → wide (value_lines (low_if names e) b t) ≡ 0
  if_value None scopes h b t = refl
  if_value (Some e) scopes h b t = (of e scopes h).value b t

  if_test : (e : Option Expr) (scopes : Scopes) → has_value_if names e scopes ≡ true → (b t h f : ℕ) → wide (test_lines_if (low_if names e) b t h f) ≡ 0
  if_test None scopes v b t h f = refl
  if_test (Some e) scopes v b t h f = (valued e scopes v).condition b t h f true

  -- ---- declarations

  local_narrow : (d : Local) (around : Around) (scopes : Scopes) → (fit_local names d).fits around scopes ≡ true → NarrowStmt (low_local names d)
  local_narrow d around scopes h =
      let p = and_parts (not (in_scopes d.name scopes) && (has_variable (names.variable d.name) && same_type (names.local_unsigned d.name) (is_unsigned_type d.ty))) (has_value_if names d.first (with_name d.name scopes)) h in
      record { none = λ to b. by d.first (with_name d.name scopes) p.1 (local_variable (names.variable d.name)) to b }
    where
      by : (o : Option Expr) (scopes : Scopes) → has_value_if names o scopes ≡ true → (v : ℕ) (to : Context) (b : ℕ) → wide (Step (Constant v 0) ∷ first_lines (low_if names o) v b to.free) ≡ 0
      by None scopes h v to b = refl
      by (Some e) scopes h v to b = omega (arith, wide_join ((low names e).value b to.free) (Step (Copy v to.free) ∷ []) ((valued e scopes h).value b to.free) refl)

  locals_narrow : (ds : List Local) (around : Around) (scopes : Scopes) → list_fits (map (fit_local names) ds) around scopes ≡ true → NarrowStmt (low_list (map (low_local names) ds))
  locals_narrow [] around scopes h = record { none = λ to b. refl }
  locals_narrow (d ∷ ds) around scopes h =
      let p = and_parts ((fit_local names d).fits around scopes) (list_fits (map (fit_local names) ds) around (with_name d.name scopes)) h in
      record { none = λ to b. wide_join ((low_local names d).lines to b) _ ((local_narrow d around scopes p.0).none to b) ((locals_narrow ds around (with_name d.name scopes) p.1).none to (b + (low_local names d).blocks)) }

  -- ---- one after another

  abbrev ReadyOf : Stmt → Type 0
  ReadyOf c = Ready (low_statement names c) (fitting_statement names c) (cases_are_words c)

  abbrev ClauseOf : Clause → Type 0
  ClauseOf c = ReadyClause (low_clause names c) (fitting_clause names c) (clause_cases_are_words c)

  abbrev Part : Type 0
  Part = (c : Stmt) × ReadyOf c

  abbrev ClausePart : Type 0
  ClausePart = (c : Clause) × ClauseOf c

  abbrev stmts : List Part → List Stmt
  stmts cs = map (λ c. c.0) cs

  abbrev the_clauses : List ClausePart → List Clause
  the_clauses cs = map (λ c. c.0) cs

  list_narrow : (cs : List Part) (around : Around) (scopes : Scopes) → list_fits (map (fitting_statement names) (stmts cs)) around scopes ≡ true → all_true (map cases_are_words (stmts cs)) ≡ true → NarrowStmt (low_list (map (low_statement names) (stmts cs)))
  list_narrow [] around scopes h w = record { none = λ to b. refl }
  list_narrow (c ∷ cs) around scopes h w =
      let f : FitStmt = fitting_statement names c.0 in
      let p = and_parts (f.fits around scopes) (list_fits (map (fitting_statement names) (stmts cs)) around (f.after scopes)) h in
      let q = and_parts (cases_are_words c.0) (all_true (map cases_are_words (stmts cs))) w in
      record { none = λ to b. wide_join ((low_statement names c.0).lines to b) _ ((c.1.narrow around scopes p.0 q.0).none to b) ((list_narrow cs around (f.after scopes) p.1 q.1).none to (b + (low_statement names c.0).blocks)) }

  alone_narrow : (cs : List Part) (around : Around) (scopes : Scopes) → each_alone (map (fitting_statement names) (stmts cs)) around scopes ≡ true → all_true (map cases_are_words (stmts cs)) ≡ true → NarrowStmt (low_list (map (low_statement names) (stmts cs)))
  alone_narrow [] around scopes h w = record { none = λ to b. refl }
  alone_narrow (c ∷ cs) around scopes h w =
      let f : FitStmt = fitting_statement names c.0 in
      let p = and_parts (fits_alone f around scopes) (each_alone (map (fitting_statement names) (stmts cs)) around scopes) h in
      let q = and_parts (not f.is_declaration) (f.fits around scopes) p.0 in
      let v = and_parts (cases_are_words c.0) (all_true (map cases_are_words (stmts cs))) w in
      record { none = λ to b. wide_join ((low_statement names c.0).lines to b) _ ((c.1.narrow around scopes q.1 v.0).none to b) ((alone_narrow cs around scopes p.1 v.1).none to (b + (low_statement names c.0).blocks)) }

  alone : (c : Part) (around : Around) (scopes : Scopes) → fits_alone (fitting_statement names c.0) around scopes ≡ true → cases_are_words c.0 ≡ true → NarrowStmt (low_statement names c.0)
  alone c around scopes h w = c.1.narrow around scopes (and_parts (not (fitting_statement names c.0).is_declaration) ((fitting_statement names c.0).fits around scopes) h).1 w

  -- ---- selection and loops

  while_narrow : (e : Expr) (scopes : Scopes) → has_value (fitting names e) scopes ≡ true → (l : LowStmt) → NarrowStmt l → NarrowStmt (low_while (low names e) l)
  while_narrow e scopes v l p = record {
    none = λ to b.
        let head : ℕ = b + 1 in let inside : ℕ = head + (low names e).condition_blocks in let exit : ℕ = inside + l.blocks + 1 in
        let body : List Line = l.lines (in_loop exit head to) inside in
        omega (arith, wide_join ((low names e).condition head to.free inside exit true) (body ++ End (Jump head) ∷ []) ((valued e scopes v).condition head to.free inside exit true) (wide_join body (End (Jump head) ∷ []) (p.none (in_loop exit head to) inside) refl));
  }

  do_narrow : (e : Expr) (scopes : Scopes) → has_value (fitting names e) scopes ≡ true → (l : LowStmt) → NarrowStmt l → NarrowStmt (low_do l (low names e))
  do_narrow e scopes v l p = record {
    none = λ to b.
        let inside : ℕ = b + 1 in let head : ℕ = inside + l.blocks + 1 in let exit : ℕ = head + (low names e).condition_blocks in
        let test : List Line = (low names e).condition head to.free inside exit false in
        let one : wide test ≡ 0 = (valued e scopes v).condition head to.free inside exit false in
        omega (arith, wide_join (l.lines (in_loop exit head to) inside) (End (Jump head) ∷ test) (p.none (in_loop exit head to) inside) (omega (arith, one)));
  }

  for_narrow : (test next : Option Expr) (scopes : Scopes) → has_value_if names test scopes ≡ true → fits_if names next scopes ≡ true → (l1 l2 : LowStmt) → NarrowStmt l1 → NarrowStmt l2 → NarrowStmt (low_for l1 (low_if names test) (low_if names next) l2)
  for_narrow test next scopes v f l1 l2 p q = record {
    none = λ to b.
        let head : ℕ = b + l1.blocks + 1 in let inside : ℕ = head + test_blocks (low_if names test) in let after : ℕ = inside + l2.blocks + 1 in let exit : ℕ = after + value_blocks (low_if names next) + 1 in
        let r4 : List Line = value_lines (low_if names next) after to.free ++ End (Jump head) ∷ [] in
        let r3 : List Line = l2.lines (in_loop exit after to) inside ++ (End (Jump after) ∷ r4) in
        let r2 : List Line = test_lines_if (low_if names test) head to.free inside exit ++ r3 in
        let e4 : wide r4 ≡ 0 = wide_join (value_lines (low_if names next) after to.free) (End (Jump head) ∷ []) (if_value next scopes f after to.free) refl in
        let e3 : wide r3 ≡ 0 = wide_join (l2.lines (in_loop exit after to) inside) (End (Jump after) ∷ r4) (q.none (in_loop exit after to) inside) (omega (arith, e4)) in
        let e2 : wide r2 ≡ 0 = wide_join (test_lines_if (low_if names test) head to.free inside exit) r3 (if_test test scopes v head to.free inside exit) e3 in
        wide_join (l1.lines to b) (End (Jump head) ∷ r2) (p.none to b) (omega (arith, e2));
  }

  if_narrow : (e : Expr) (scopes : Scopes) → has_value (fitting names e) scopes ≡ true → (l : LowStmt) → NarrowStmt l → NarrowStmt (low_selection (low names e) l None)
  if_narrow e scopes v l p = record {
    none = λ to b.
        let holds : ℕ = b + (low names e).condition_blocks in let join : ℕ = holds + l.blocks + 1 in
        wide_join ((low names e).condition b to.free holds join true) _ ((valued e scopes v).condition b to.free holds join true) (wide_join (l.lines to holds) (End (Jump join) ∷ []) (p.none to holds) refl);
  }

  if_else_narrow : (e : Expr) (scopes : Scopes) → has_value (fitting names e) scopes ≡ true → (l1 l2 : LowStmt) → NarrowStmt l1 → NarrowStmt l2 → NarrowStmt (low_selection (low names e) l1 (Some l2))
  if_else_narrow e scopes v l1 l2 p q = record {
    none = λ to b.
        let holds : ℕ = b + (low names e).condition_blocks in let fails : ℕ = holds + l1.blocks + 1 in let join : ℕ = fails + l2.blocks + 1 in
        let tail : wide (l2.lines to fails ++ End (Jump join) ∷ []) ≡ 0 = wide_join (l2.lines to fails) (End (Jump join) ∷ []) (q.none to fails) refl in
        wide_join ((low names e).condition b to.free holds fails true) _ ((valued e scopes v).condition b to.free holds fails true) (wide_join (l1.lines to holds) _ (p.none to holds) (omega (arith, tail)));
  }

  -- ---- `switch`

  labels_narrow : (ls : List Label) → list_all (λ (l : Label). is_word (label_word l)) ls ≡ true → (at t : ℕ) → wide (case_lines (map label_word ls) at t) ≡ 0
  labels_narrow [] h at t = refl
  labels_narrow (l ∷ ls) h at t =
      let p = and_parts (is_word (label_word l)) (list_all (λ (k : Label). is_word (label_word k)) ls) h in
      by (label_word l) p.0 (labels_narrow ls p.1 at t)
    where
      by : (o : Option ℕ) → is_word o ≡ true → wide (case_lines (map label_word ls) at t) ≡ 0 → wide (case_lines (o ∷ map label_word ls) at t) ≡ 0
      by None w e = e
      by (Some word) w e = let small : (let n : ℕ = if nat_lt word (2 ^ 32) then 0 else 1 in n) ≡ 0 = ap (λ (b : Bool). let n : ℕ = if b then 0 else 1 in n) w in omega (arith, small, e)

  record AllNarrow (cs : List LowClause) : Type 0 where
    pub cases : (at t : ℕ) → wide (cases_lines cs at t) ≡ 0
    pub none : (to : Context) (b : ℕ) → wide (clauses_lines cs to b) ≡ 0

  clauses_narrow : (cs : List ClausePart) (around : Around) (scopes : Scopes) → each_clause (map (fitting_clause names) (the_clauses cs)) around scopes ≡ true → all_true (map clause_cases_are_words (the_clauses cs)) ≡ true → AllNarrow (map (low_clause names) (the_clauses cs))
  clauses_narrow [] around scopes h w = record { cases = λ at t. refl; none = λ to b. refl }
  clauses_narrow (c ∷ cs) around scopes h w =
      let l : LowClause = low_clause names c.0 in
      let ls : List LowClause = map (low_clause names) (the_clauses cs) in
      let p = and_parts ((fitting_clause names c.0).fits around scopes) (each_clause (map (fitting_clause names) (the_clauses cs)) around scopes) h in
      let q = and_parts (clause_cases_are_words c.0) (all_true (map clause_cases_are_words (the_clauses cs))) w in
      let r = clauses_narrow cs around scopes p.1 q.1 in
      record {
        cases = λ at t. wide_join (case_lines l.labels at t) (cases_lines ls (at + l.body.blocks + 1) t) (c.1.labels q.0 at t) (r.cases (at + l.body.blocks + 1) t);
        none = λ to b. wide_join (l.body.lines to b) _ ((c.1.narrow around scopes p.0 q.0).none to b) (omega (arith, r.none to (b + l.body.blocks + 1)));
      }

  switch_narrow : (e : Expr) (scopes : Scopes) → has_value (fitting names e) scopes ≡ true → (cs : List LowClause) → AllNarrow cs → NarrowStmt (low_switch (low names e) cs)
  switch_narrow e scopes v cs p = record {
    none = λ to b.
        let first : ℕ = b + (low names e).blocks + cases_count cs + 1 in
        let to' : Context = record to { breaks_to = first + clauses_blocks cs } in
        wide_join ((low names e).value b to.free) _ ((valued e scopes v).value b to.free) (wide_join (cases_lines cs first to.free) _ (p.cases first to.free) (omega (arith, p.none to' first)));
  }

  -- ---- all statements

  return_narrow : (e : Option Expr) (around : Around) (scopes : Scopes) → value_where_due names e around scopes ≡ true → (to : Context) (b : ℕ) → wide (value_lines (low_if names e) b to.free ++ End (Jump to.returns_to) ∷ []) ≡ 0
  return_narrow None around scopes h to b = refl
  return_narrow (Some e) around scopes h to b =
      let p = and_parts around.returns (has_value (fitting names e) scopes) h in
      wide_join ((low names e).value b to.free) (End (Jump to.returns_to) ∷ []) ((valued e scopes p.1).value b to.free) refl

  bare : Stmt-F Part ClausePart → Stmt-F Stmt Clause
  bare y = map-Stmt Part ClausePart Stmt Clause (λ c. c.0) (λ c. c.0) y

  bare_clause : Clause-F Part ClausePart → Clause-F Stmt Clause
  bare_clause y = map-Clause Part ClausePart Stmt Clause (λ c. c.0) (λ c. c.0) y

  clause_ready : (y : Clause-F Part ClausePart) → ReadyClause (low_clause_step (map-Clause Stmt Clause LowStmt LowClause (low_statement names) (low_clause names) (bare_clause y))) (fit_clause_step (map-Clause Stmt Clause FitStmt FitClause (fitting_statement names) (fitting_clause names) (bare_clause y))) (clause_cases_step (map-Clause Stmt Clause Bool Bool cases_are_words clause_cases_are_words (bare_clause y)))
  unfolding bare_clause
  clause_ready y = record {
    labels = λ w at t. labels_narrow y.labels (and_parts (list_all (λ (l : Label). is_word (label_word l)) y.labels) (all_true (map cases_are_words (stmts y.body))) w).0 at t;
    narrow = λ around scopes h w. alone_narrow y.body around scopes h (and_parts (list_all (λ (l : Label). is_word (label_word l)) y.labels) (all_true (map cases_are_words (stmts y.body))) w).1;
  }

  abbrev Each : Stmt-F Part ClausePart → Type 0
  Each y = (around : Around) (scopes : Scopes) → (fit_statement_step names (map-Stmt Stmt Clause FitStmt FitClause (fitting_statement names) (fitting_clause names) (bare y))).fits around scopes ≡ true → cases_step (map-Stmt Stmt Clause Bool Bool cases_are_words clause_cases_are_words (bare y)) ≡ true → NarrowStmt (low_statement_step names (map-Stmt Stmt Clause LowStmt LowClause (low_statement names) (low_clause names) (bare y)))

  each_ready : (y : Stmt-F Part ClausePart) → Each y
  unfolding bare
  each_ready Stmt-F.Empty around scopes h w = record { none = λ to b. refl }
  each_ready (Stmt-F.Value e) around scopes h w = record { none = λ to b. (of e scopes h).value b to.free }
  each_ready (Stmt-F.Declare ds) around scopes h w = locals_narrow ds around scopes h
  each_ready (Stmt-F.Block cs) around scopes h w = list_narrow cs around ([] ∷ scopes) h w
  each_ready (Stmt-F.If e a None) around scopes h w =
      let p = and_parts (has_value (fitting names e) scopes) (fits_alone (fitting_statement names a.0) around scopes && true) h in
      let q = and_parts (fits_alone (fitting_statement names a.0) around scopes) true p.1 in
      if_narrow e scopes p.0 (low_statement names a.0) (alone a around scopes q.0 (and_parts (cases_are_words a.0) true w).0)
  each_ready (Stmt-F.If e a (Some c)) around scopes h w =
      let p = and_parts (has_value (fitting names e) scopes) (fits_alone (fitting_statement names a.0) around scopes && fits_alone (fitting_statement names c.0) around scopes) h in
      let q = and_parts (fits_alone (fitting_statement names a.0) around scopes) (fits_alone (fitting_statement names c.0) around scopes) p.1 in
      let v = and_parts (cases_are_words a.0) (cases_are_words c.0) w in
      if_else_narrow e scopes p.0 (low_statement names a.0) (low_statement names c.0) (alone a around scopes q.0 v.0) (alone c around scopes q.1 v.1)
  each_ready (Stmt-F.While e a) around scopes h w =
      let p = and_parts (has_value (fitting names e) scopes) (fits_alone (fitting_statement names a.0) (inside_loop around) scopes) h in
      while_narrow e scopes p.0 (low_statement names a.0) (alone a (inside_loop around) scopes p.1 w)
  each_ready (Stmt-F.Do a e) around scopes h w =
      let p = and_parts (has_value (fitting names e) scopes) (fits_alone (fitting_statement names a.0) (inside_loop around) scopes) h in
      do_narrow e scopes p.0 (low_statement names a.0) (alone a (inside_loop around) scopes p.1 w)
  each_ready (Stmt-F.For a test next c) around scopes h w =
      let f : FitStmt = fitting_statement names a.0 in
      let s : Scopes = f.after ([] ∷ scopes) in
      let p = and_parts (f.fits (record around { breaks = false; continues = false }) ([] ∷ scopes)) (has_value_if names test s && (fits_if names next s && fits_alone (fitting_statement names c.0) (inside_loop around) s)) h in
      let q = and_parts (has_value_if names test s) (fits_if names next s && fits_alone (fitting_statement names c.0) (inside_loop around) s) p.1 in
      let r = and_parts (fits_if names next s) (fits_alone (fitting_statement names c.0) (inside_loop around) s) q.1 in
      let v = and_parts (cases_are_words a.0) (cases_are_words c.0) w in
      for_narrow test next s q.0 r.0 (low_statement names a.0) (low_statement names c.0) (a.1.narrow (record around { breaks = false; continues = false }) ([] ∷ scopes) p.0 v.0) (alone c (inside_loop around) s r.1 v.1)
  each_ready (Stmt-F.Switch e cs) around scopes h w =
      let p = and_parts (has_value (fitting names e) scopes) (each_clause (map (fitting_clause names) (the_clauses cs)) (inside_switch around) scopes) h in
      switch_narrow e scopes p.0 (map (low_clause names) (the_clauses cs)) (clauses_narrow cs (inside_switch around) scopes p.1 w)
  each_ready (Stmt-F.Break at) around scopes h w = record { none = λ to b. refl }
  each_ready (Stmt-F.Continue at) around scopes h w = record { none = λ to b. refl }
  each_ready (Stmt-F.Return e at) around scopes h w = record { none = λ to b. return_narrow e around scopes h to b }

  ready : (c : Stmt) → ReadyOf c
  unfolding bare bare_clause
  ready = ind-Stmt ReadyOf ClauseOf
      (λ x y is. subst (λ z. ReadyOf (roll-Stmt z)) is
      (rw (fold-roll-Stmt LowStmt LowClause (low_statement_step names) low_clause_step (bare y), fold-roll-Stmt FitStmt FitClause (fit_statement_step names) fit_clause_step (bare y), fold-roll-Stmt Bool Bool cases_step clause_cases_step (bare y)) (record { narrow = each_ready y })))
      (λ x y is. subst (λ z. ClauseOf (roll-Clause z)) is
      (rw (fold-roll-Clause LowStmt LowClause (low_statement_step names) low_clause_step (bare_clause y), fold-roll-Clause FitStmt FitClause (fit_statement_step names) fit_clause_step (bare_clause y), fold-roll-Clause Bool Bool cases_step clause_cases_step (bare_clause y)) (clause_ready y)))

  -- the statements of a body
  pub body_narrow : (cs : List Stmt) (around : Around) (scopes : Scopes) → list_fits (map (fitting_statement names) cs) around scopes ≡ true → list_all cases_are_words cs ≡ true → NarrowStmt (low_list (map (low_statement names) cs))
  body_narrow [] around scopes h w = record { none = λ to b. refl }
  body_narrow (c ∷ cs) around scopes h w =
      let f : FitStmt = fitting_statement names c in
      let p = and_parts (f.fits around scopes) (list_fits (map (fitting_statement names) cs) around (f.after scopes)) h in
      let q = and_parts (cases_are_words c) (list_all cases_are_words cs) w in
      record { none = λ to b. wide_join ((low_statement names c).lines to b) _ (((ready c).narrow around scopes p.0 q.0).none to b) ((body_narrow cs around (f.after scopes) p.1 q.1).none to (b + (low_statement names c).blocks)) }
