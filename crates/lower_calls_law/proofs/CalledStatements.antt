-- The calls in the lines of a statement: at most as many of a function as the statement names it.
use Rattle.std.proofs.Common.{◌≡◌, ℕ, suc, ◌+◌, ◌≤◌, Bool, true, false, not, List, [], ◌∷◌, ◌++◌, map, length, Option, Some, None, refl, sym, ap, subst, if◌then◌else◌, arith, flat_map}
use Rattle.c_syntax.specs.declared.tree.Expr.{Expr}
use Rattle.c_syntax.specs.declared.tree.Local.{Local}
use Rattle.c_syntax.specs.declared.tree.Stmt.{Stmt, roll-Stmt, map-Stmt, ind-Stmt, fold-roll-Stmt}
use Rattle.c_syntax.specs.declared.tree.Clause.{Clause, roll-Clause, map-Clause, fold-roll-Clause}
use Rattle.c_syntax.specs.declared.tree.Stmt.TheOpen.{Stmt-F, Clause-F}
use Rattle.c_syntax.specs.Graph.{or_none, expression_calls, local_calls, label_calls, statement_calls_step, clause_calls_step, statement_calls, clause_calls}
use Rattle.mid_blocks.specs.declared.code.MidStep.TheVariants.{Constant, Copy}
use Rattle.mid_blocks.specs.declared.code.MidEnd.TheVariants.{Jump}
use Rattle.mid_blocks.specs.Lines.{Line, Step, End}
use Rattle.lower_rules.specs.Bindings.{Bindings}
use Rattle.lower_rules.specs.Expressions.{LowExpr, low}
use Rattle.lower_rules.specs.Statements.{Context, LowStmt, in_loop, value_blocks, value_lines, test_blocks, test_lines_if, low_if, list_lines, local_variable, first_lines, low_local, low_list, low_selection, low_while, low_do, low_for, LowClause, low_clause_step, case_lines, cases_count, cases_lines, block_of, clauses_blocks, clauses_lines, low_switch, low_clause, low_statement_step, low_statement}
use Rattle.lower_calls_law.proofs.Called.{called, called-append, hits, hits-append, Calls, expression_calls_most}

module _ (k : ℕ) (names : Bindings) where
  abbrev hit : List ℕ → ℕ
  hit ns = hits names k ns

  pub record CallsStmt (l : LowStmt) (calls : List ℕ) : Type 0 where
    pub most : (to : Context) (b : ℕ) → called k (l.lines to b) ≤ hits names k calls

  record CallsClause (c : LowClause) (calls : List ℕ) : Type 0 where
    pub most : (to : Context) (b : ℕ) → called k (c.body.lines to b) ≤ hits names k calls

  of : (e : Expr) → Calls k (low names e) (hits names k (expression_calls e))
  of e = expression_calls_most k names e

  if_value : (e : Option Expr) (b t : ℕ) → called k (value_lines (low_if names e) b t) ≤ hits names k (or_none expression_calls e)
  if_value None b t = omega arith
  if_value (Some e) b t = (of e).value b t

  if_test : (e : Option Expr) (b t h f : ℕ) → called k (test_lines_if (low_if names e) b t h f) ≤ hits names k (or_none expression_calls e)
  if_test None b t h f = omega arith
  if_test (Some e) b t h f = (of e).condition b t h f true

  local_most : (d : Local) → CallsStmt (low_local names d) (local_calls d)
  local_most d = record { most = λ to b. by d.first (local_variable (names.variable d.name)) to b }
    where
      by : (o : Option Expr) (v : ℕ) (to : Context) (b : ℕ) → called k (Step (Constant v 0) ∷ first_lines (low_if names o) v b to.free) ≤ hits names k (or_none expression_calls o)
      by None v to b = omega arith
      by (Some e) v to b = omega (arith, called-append k ((low names e).value b to.free) (Step (Copy v to.free) ∷ []), (of e).value b to.free)

  both : (l : LowStmt) (ls : List LowStmt) (xs ys : List ℕ) → CallsStmt l xs → CallsStmt (low_list ls) ys → CallsStmt (low_list (l ∷ ls)) (xs ++ ys)
  both l ls xs ys p q = record { most = λ to b. omega (arith, hits-append names k xs ys, called-append k (l.lines to b) (list_lines ls to (b + l.blocks)), p.most to b, q.most to (b + l.blocks)) }

  none : CallsStmt (low_list []) []
  none = record { most = λ to b. omega arith }

  locals_most : (ds : List Local) → CallsStmt (low_list (map (low_local names) ds)) (flat_map local_calls ds)
  locals_most [] = none
  locals_most (d ∷ ds) = both (low_local names d) (map (low_local names) ds) (local_calls d) (flat_map local_calls ds) (local_most d) (locals_most ds)

  abbrev CallsOf : Stmt → Type 0
  CallsOf c = CallsStmt (low_statement names c) (statement_calls c)

  abbrev ClauseOf : Clause → Type 0
  ClauseOf c = CallsClause (low_clause names c) (clause_calls c)

  abbrev Part : Type 0
  Part = (c : Stmt) × CallsOf c

  abbrev ClausePart : Type 0
  ClausePart = (c : Clause) × ClauseOf c

  abbrev stmts : List Part → List Stmt
  stmts cs = map (λ c. c.0) cs

  abbrev the_clauses : List ClausePart → List Clause
  the_clauses cs = map (λ c. c.0) cs

  list_most : (cs : List Part) → CallsStmt (low_list (map (low_statement names) (stmts cs))) (flat_map (λ calls. calls) (map statement_calls (stmts cs)))
  list_most [] = none
  list_most (c ∷ cs) = both (low_statement names c.0) (map (low_statement names) (stmts cs)) (statement_calls c.0) (flat_map (λ calls. calls) (map statement_calls (stmts cs))) c.1 (list_most cs)

  -- ---- selection and loops

  while_most : (e : Expr) (l : LowStmt) (xs : List ℕ) → CallsStmt l xs → CallsStmt (low_while (low names e) l) (expression_calls e ++ xs)
  while_most e l xs p = record {
    most = λ to b.
        let head : ℕ = b + 1 in let inside : ℕ = head + (low names e).condition_blocks in let exit : ℕ = inside + l.blocks + 1 in
        let body : List Line = l.lines (in_loop exit head to) inside in
        omega (arith, hits-append names k (expression_calls e) xs, called-append k ((low names e).condition head to.free inside exit true) (body ++ End (Jump head) ∷ []), called-append k body (End (Jump head) ∷ []), (of e).condition head to.free inside exit true, p.most (in_loop exit head to) inside);
  }

  do_most : (e : Expr) (l : LowStmt) (xs : List ℕ) → CallsStmt l xs → CallsStmt (low_do l (low names e)) (xs ++ expression_calls e)
  do_most e l xs p = record {
    most = λ to b.
        let inside : ℕ = b + 1 in let head : ℕ = inside + l.blocks + 1 in let exit : ℕ = head + (low names e).condition_blocks in
        let test : List Line = (low names e).condition head to.free inside exit false in
        omega (arith, hits-append names k xs (expression_calls e), called-append k (l.lines (in_loop exit head to) inside) (End (Jump head) ∷ test), (of e).condition head to.free inside exit false, p.most (in_loop exit head to) inside);
  }

  for_most : (test next : Option Expr) (l1 l2 : LowStmt) (xs ys : List ℕ) → CallsStmt l1 xs → CallsStmt l2 ys → CallsStmt (low_for l1 (low_if names test) (low_if names next) l2) (xs ++ or_none expression_calls test ++ or_none expression_calls next ++ ys)
  for_most test next l1 l2 xs ys p q = record {
    most = λ to b.
        let head : ℕ = b + l1.blocks + 1 in let inside : ℕ = head + test_blocks (low_if names test) in let after : ℕ = inside + l2.blocks + 1 in let exit : ℕ = after + value_blocks (low_if names next) + 1 in
        let ts : List ℕ = or_none expression_calls test in let ns : List ℕ = or_none expression_calls next in
        let r4 : List Line = value_lines (low_if names next) after to.free ++ End (Jump head) ∷ [] in
        let r3 : List Line = l2.lines (in_loop exit after to) inside ++ (End (Jump after) ∷ r4) in
        omega (
          arith,
          hits-append names k (xs ++ ts ++ ns) ys,
          hits-append names k (xs ++ ts) ns,
          hits-append names k xs ts,
          called-append k (l1.lines to b) (End (Jump head) ∷ (test_lines_if (low_if names test) head to.free inside exit ++ r3)),
          called-append k (test_lines_if (low_if names test) head to.free inside exit) r3,
          called-append k (l2.lines (in_loop exit after to) inside) (End (Jump after) ∷ r4),
          called-append k (value_lines (low_if names next) after to.free) (End (Jump head) ∷ []),
          p.most to b,
          if_test test head to.free inside exit,
          q.most (in_loop exit after to) inside,
          if_value next after to.free,
        );
  }

  if_most : (e : Expr) (l : LowStmt) (xs : List ℕ) → CallsStmt l xs → CallsStmt (low_selection (low names e) l None) (expression_calls e ++ xs ++ [])
  if_most e l xs p = record {
    most = λ to b.
        let holds : ℕ = b + (low names e).condition_blocks in let join : ℕ = holds + l.blocks + 1 in
        omega (arith, hits-append names k (expression_calls e ++ xs) [], hits-append names k (expression_calls e) xs, called-append k ((low names e).condition b to.free holds join true) (l.lines to holds ++ End (Jump join) ∷ []), called-append k (l.lines to holds) (End (Jump join) ∷ []), (of e).condition b to.free holds join true, p.most to holds);
  }

  if_else_most : (e : Expr) (l1 l2 : LowStmt) (xs ys : List ℕ) → CallsStmt l1 xs → CallsStmt l2 ys → CallsStmt (low_selection (low names e) l1 (Some l2)) (expression_calls e ++ xs ++ ys)
  if_else_most e l1 l2 xs ys p q = record {
    most = λ to b.
        let holds : ℕ = b + (low names e).condition_blocks in let fails : ℕ = holds + l1.blocks + 1 in let join : ℕ = fails + l2.blocks + 1 in
        let tail : List Line = l2.lines to fails ++ End (Jump join) ∷ [] in
        omega (
          arith,
          hits-append names k (expression_calls e ++ xs) ys,
          hits-append names k (expression_calls e) xs,
          called-append k ((low names e).condition b to.free holds fails true) (l1.lines to holds ++ (End (Jump join) ∷ tail)),
          called-append k (l1.lines to holds) (End (Jump join) ∷ tail),
          called-append k (l2.lines to fails) (End (Jump join) ∷ []),
          (of e).condition b to.free holds fails true,
          p.most to holds,
          q.most to fails,
        );
  }

  -- ---- `switch`

  case_none : (ls : List (Option ℕ)) (at t : ℕ) → called k (case_lines ls at t) ≡ 0
  case_none [] at t = refl
  case_none (None ∷ ls) at t = case_none ls at t
  case_none (Some word ∷ ls) at t = omega (arith, case_none ls at t)

  cases_none : (cs : List LowClause) (at t : ℕ) → called k (cases_lines cs at t) ≡ 0
  cases_none [] at t = refl
  cases_none (c ∷ cs) at t = omega (arith, called-append k (case_lines c.labels at t) (cases_lines cs (at + c.body.blocks + 1) t), case_none c.labels at t, cases_none cs (at + c.body.blocks + 1) t)

  clauses_most : (cs : List ClausePart) (to : Context) (b : ℕ) → called k (clauses_lines (map (low_clause names) (the_clauses cs)) to b) ≤ hits names k (flat_map (λ calls. calls) (map clause_calls (the_clauses cs)))
  clauses_most [] to b = omega arith
  clauses_most (c ∷ cs) to b =
      let l : LowClause = low_clause names c.0 in
      let ls : List LowClause = map (low_clause names) (the_clauses cs) in
      omega (arith, hits-append names k (clause_calls c.0) (flat_map (λ calls. calls) (map clause_calls (the_clauses cs))), called-append k (l.body.lines to b) (End (Jump (b + l.body.blocks + 1)) ∷ clauses_lines ls to (b + l.body.blocks + 1)), c.1.most to b, clauses_most cs to (b + l.body.blocks + 1))

  switch_most : (e : Expr) (cs : List ClausePart) → CallsStmt (low_switch (low names e) (map (low_clause names) (the_clauses cs))) (expression_calls e ++ flat_map (λ calls. calls) (map clause_calls (the_clauses cs)))
  switch_most e cs = record {
    most = λ to b.
        let ls : List LowClause = map (low_clause names) (the_clauses cs) in
        let first : ℕ = b + (low names e).blocks + cases_count ls + 1 in
        let to' : Context = record to { breaks_to = first + clauses_blocks ls } in
        let jump : List Line = End (Jump (block_of None ls first)) ∷ clauses_lines ls to' first in
        omega (arith, hits-append names k (expression_calls e) (flat_map (λ calls. calls) (map clause_calls (the_clauses cs))), called-append k ((low names e).value b to.free) (cases_lines ls first to.free ++ jump), called-append k (cases_lines ls first to.free) jump, (of e).value b to.free, cases_none ls first to.free, clauses_most cs to' first);
  }

  -- ---- all statements

  bare : Stmt-F Part ClausePart → Stmt-F Stmt Clause
  bare y = map-Stmt Part ClausePart Stmt Clause (λ c. c.0) (λ c. c.0) y

  bare_clause : Clause-F Part ClausePart → Clause-F Stmt Clause
  bare_clause y = map-Clause Part ClausePart Stmt Clause (λ c. c.0) (λ c. c.0) y

  clause_most : (y : Clause-F Part ClausePart) → CallsClause (low_clause_step (map-Clause Stmt Clause LowStmt LowClause (low_statement names) (low_clause names) (bare_clause y))) (clause_calls_step (map-Clause Stmt Clause (List ℕ) (List ℕ) statement_calls clause_calls (bare_clause y)))
  unfolding bare_clause
  clause_most y = record { most = λ to b. omega (arith, (list_most y.body).most to b, hits-append names k (flat_map label_calls y.labels) (flat_map (λ calls. calls) (map statement_calls (stmts y.body)))) }

  each_most : (y : Stmt-F Part ClausePart) → CallsStmt (low_statement_step names (map-Stmt Stmt Clause LowStmt LowClause (low_statement names) (low_clause names) (bare y))) (statement_calls_step (map-Stmt Stmt Clause (List ℕ) (List ℕ) statement_calls clause_calls (bare y)))
  unfolding bare
  each_most Stmt-F.Empty = none
  each_most (Stmt-F.Value e) = record { most = λ to b. (of e).value b to.free }
  each_most (Stmt-F.Declare ds) = locals_most ds
  each_most (Stmt-F.Block cs) = list_most cs
  each_most (Stmt-F.If e a None) = if_most e (low_statement names a.0) (statement_calls a.0) a.1
  each_most (Stmt-F.If e a (Some c)) = if_else_most e (low_statement names a.0) (low_statement names c.0) (statement_calls a.0) (statement_calls c.0) a.1 c.1
  each_most (Stmt-F.While e a) = while_most e (low_statement names a.0) (statement_calls a.0) a.1
  each_most (Stmt-F.Do a e) = do_most e (low_statement names a.0) (statement_calls a.0) a.1
  each_most (Stmt-F.For a test next c) = for_most test next (low_statement names a.0) (low_statement names c.0) (statement_calls a.0) (statement_calls c.0) a.1 c.1
  each_most (Stmt-F.Switch e cs) = switch_most e cs
  each_most (Stmt-F.Break at) = record { most = λ to b. omega arith }
  each_most (Stmt-F.Continue at) = record { most = λ to b. omega arith }
  each_most (Stmt-F.Return e at) = record { most = λ to b. omega (arith, called-append k (value_lines (low_if names e) b to.free) (End (Jump to.returns_to) ∷ []), if_value e b to.free) }

  most : (c : Stmt) → CallsOf c
  unfolding bare bare_clause
  most = ind-Stmt CallsOf ClauseOf
      (λ x y is. subst (λ z. CallsOf (roll-Stmt z)) is
      (rw (fold-roll-Stmt LowStmt LowClause (low_statement_step names) low_clause_step (bare y), fold-roll-Stmt (List ℕ) (List ℕ) statement_calls_step clause_calls_step (bare y)) (each_most y)))
      (λ x y is. subst (λ z. ClauseOf (roll-Clause z)) is
      (rw (fold-roll-Clause LowStmt LowClause (low_statement_step names) low_clause_step (bare_clause y), fold-roll-Clause (List ℕ) (List ℕ) statement_calls_step clause_calls_step (bare_clause y)) (clause_most y)))

  -- the statements of a body
  pub body_most : (cs : List Stmt) → CallsStmt (low_list (map (low_statement names) cs)) (flat_map statement_calls cs)
  body_most [] = none
  body_most (c ∷ cs) = both (low_statement names c) (map (low_statement names) cs) (statement_calls c) (flat_map statement_calls cs) (most c) (body_most cs)
