-- How many words the lines of a statement come to, by its nodes.
use Rattle.std.proofs.Common.{ℕ, ◌+◌, ◌*◌, ◌≤◌, Bool, true, false, List, [], ◌∷◌, ◌++◌, map, sum, Option, Some, None, subst, arith}
use Rattle.std.proofs.lemmas.List.Sums.{sum_by-cons}
use Rattle.c_syntax.specs.declared.tree.Expr.{Expr}
use Rattle.c_syntax.specs.declared.tree.Local.{Local}
use Rattle.c_syntax.specs.declared.tree.Label.{Label}
use Rattle.c_syntax.specs.declared.tree.Label.TheVariants as label
use Rattle.c_syntax.specs.declared.tree.Stmt.{Stmt, roll-Stmt, map-Stmt, ind-Stmt, fold-roll-Stmt}
use Rattle.c_syntax.specs.declared.tree.Clause.{Clause, roll-Clause, map-Clause, fold-roll-Clause}
use Rattle.c_syntax.specs.declared.tree.Stmt.TheOpen.{Stmt-F, Clause-F}
use Rattle.c_syntax.specs.declared.tree.TopItem.{TopItem}
use Rattle.c_meaning.specs.Meaning.{label_word}
use Rattle.c_syntax.specs.Sizes.{or_zero, expression_nodes, local_nodes, statement_nodes_step, label_nodes, clause_nodes_step, statement_nodes, clause_nodes}
use Rattle.c_syntax.specs.Costs.{call_cost}
use Rattle.mid_blocks.specs.declared.code.MidEnd.TheVariants.{Jump}
use Rattle.mid_blocks.specs.declared.code.MidStep.TheVariants.{Constant, Copy}
use Rattle.mid_blocks.specs.Lines.{Line, Step, End}
use Rattle.lower_rules.specs.Bindings.{Bindings}
use Rattle.lower_rules.specs.Expressions.{low, callee_blocks}
use Rattle.lower_rules.specs.Statements.{Context, LowStmt, in_loop, value_blocks, value_lines, test_blocks, test_lines_if, low_if, list_lines, local_variable, first_lines, low_local, low_selection, low_while, low_do, low_for, LowClause, low_clause_step, case_lines, cases_count, cases_lines, block_of, clauses_blocks, clauses_lines, low_switch, low_clause, low_statement_step, low_statement}
use Rattle.c_syntax.specs.Labels.{none_first, unlabelled_step, unlabelled_clause_step, unlabelled, unlabelled_in_clause}
use Rattle.lower_law.proofs.ExpressionSizes.{words, words-append, sized}

-- ---- bounds

pub record SizedStmt (l : LowStmt) (nodes bare : ℕ) : Type 0 where
  pub few : (to : Context) (b : ℕ) → words (l.lines to b) ≤ 60 * nodes + 9 * bare

pub record SizedClause (c : LowClause) (nodes bare : ℕ) : Type 0 where
  pub few : (to : Context) (b at t : ℕ) → words (case_lines c.labels at t) + 9 + words (c.body.lines to b) ≤ 60 * nodes + 9 * bare

module _ (items : List TopItem) (names : Bindings) (calls_cost : (name : ℕ) → callee_blocks (names.callee name) ≤ call_cost items name) where
  abbrev SizedStmtOf : Stmt → Type 0
  SizedStmtOf c = SizedStmt (low_statement names c) (statement_nodes c) (unlabelled c)

  abbrev SizedClauseOf : Clause → Type 0
  SizedClauseOf c = SizedClause (low_clause names c) (clause_nodes c) (unlabelled_in_clause c)

  abbrev Part : Type 0
  Part = (c : Stmt) × SizedStmtOf c

  abbrev ClausePart : Type 0
  ClausePart = (c : Clause) × SizedClauseOf c

  abbrev stmts : List Part → List Stmt
  stmts cs = map (λ c. c.0) cs

  abbrev the_clauses : List ClausePart → List Clause
  the_clauses cs = map (λ c. c.0) cs

  value_few : (e : Expr) (n t : ℕ) → words ((low names e).value n t) + 34 ≤ 60 * expression_nodes e
  value_few e n t = (sized items names calls_cost e).value_words n t

  test_few : (e : Expr) (n t h f : ℕ) (nx : Bool) → words ((low names e).condition n t h f nx) + 9 ≤ 60 * expression_nodes e
  test_few e n t h f nx = (sized items names calls_cost e).condition_words n t h f nx

  if_value_few : (e : Option Expr) (n t : ℕ) → words (value_lines (low_if names e) n t) ≤ 60 * or_zero expression_nodes e
  if_value_few None n t = omega arith
  if_value_few (Some e) n t = let a = value_few e n t in omega (arith, a)

  if_test_few : (e : Option Expr) (n t h f : ℕ) → words (test_lines_if (low_if names e) n t h f) ≤ 60 * or_zero expression_nodes e
  if_test_few None n t h f = omega arith
  if_test_few (Some e) n t h f = let a = test_few e n t h f true in omega (arith, a)

  local_few : (d : Local) (to : Context) (b : ℕ) → words ((low_local names d).lines to b) ≤ 60 * local_nodes d
  local_few d to b = by d.first
    where
      v : ℕ
      v = local_variable (names.variable d.name)

      by : (o : Option Expr) → words (Step (Constant v 0) ∷ first_lines (low_if names o) v b to.free) ≤ 60 * (1 + or_zero expression_nodes o)
      by None = omega arith
      by (Some e) = let a = value_few e b to.free in let s = words-append ((low names e).value b to.free) (Step (Copy v to.free) ∷ []) in omega (arith, a, s)

  locals_few : (ds : List Local) (to : Context) (b : ℕ) → words (list_lines (map (low_local names) ds) to b) ≤ 60 * sum (map local_nodes ds)
  locals_few [] to b = omega arith
  locals_few (d ∷ ds) to b =
      let l : LowStmt = low_local names d in
      let s = words-append (l.lines to b) (list_lines (map (low_local names) ds) to (b + l.blocks)) in
      let total = sum_by-cons (λ m. m) (local_nodes d) (map local_nodes ds) in
      omega (arith, s, total, local_few d to b, locals_few ds to (b + l.blocks))

  list_few : (cs : List Part) (to : Context) (b : ℕ) → words (list_lines (map (low_statement names) (stmts cs)) to b) ≤ 60 * sum (map statement_nodes (stmts cs)) + 9 * sum (map unlabelled (stmts cs))
  list_few [] to b = omega arith
  list_few (c ∷ cs) to b =
      let l : LowStmt = low_statement names c.0 in
      let s = words-append (l.lines to b) (list_lines (map (low_statement names) (stmts cs)) to (b + l.blocks)) in
      let total = sum_by-cons (λ m. m) (statement_nodes c.0) (map statement_nodes (stmts cs)) in
      let bare_total = sum_by-cons (λ m. m) (unlabelled c.0) (map unlabelled (stmts cs)) in
      omega (arith, s, total, bare_total, c.1.few to b, list_few cs to (b + l.blocks))

  -- ---- selection and loops

  while_sized : (e : Expr) (l : LowStmt) (m bare : ℕ) → SizedStmt l m bare → SizedStmt (low_while (low names e) l) (1 + expression_nodes e + m) bare
  while_sized e l m bare p = record {
    few = λ to b.
        let head : ℕ = b + 1 in let inside : ℕ = head + (low names e).condition_blocks in let exit : ℕ = inside + l.blocks + 1 in
        let body : List Line = l.lines (in_loop exit head to) inside in
        let s1 = words-append ((low names e).condition head to.free inside exit true) (body ++ End (Jump head) ∷ []) in
        let s2 = words-append body (End (Jump head) ∷ []) in
        omega (arith, s1, s2, test_few e head to.free inside exit true, p.few (in_loop exit head to) inside);
  }

  do_sized : (e : Expr) (l : LowStmt) (m bare : ℕ) → SizedStmt l m bare → SizedStmt (low_do l (low names e)) (1 + m + expression_nodes e) bare
  do_sized e l m bare p = record {
    few = λ to b.
        let inside : ℕ = b + 1 in let head : ℕ = inside + l.blocks + 1 in let exit : ℕ = head + (low names e).condition_blocks in
        let test : List Line = (low names e).condition head to.free inside exit false in
        let s1 = words-append (l.lines (in_loop exit head to) inside) (End (Jump head) ∷ test) in
        omega (arith, s1, test_few e head to.free inside exit false, p.few (in_loop exit head to) inside);
  }

  for_sized : (test next : Option Expr) (l1 l2 : LowStmt) (m1 m2 b1 b2 : ℕ) → SizedStmt l1 m1 b1 → SizedStmt l2 m2 b2 → SizedStmt (low_for l1 (low_if names test) (low_if names next) l2) (1 + m1 + or_zero expression_nodes test + or_zero expression_nodes next + m2) (b1 + b2)
  for_sized test next l1 l2 m1 m2 b1 b2 p q = record {
    few = λ to b.
        let head : ℕ = b + l1.blocks + 1 in let inside : ℕ = head + test_blocks (low_if names test) in let after : ℕ = inside + l2.blocks + 1 in let exit : ℕ = after + value_blocks (low_if names next) + 1 in
        let t : List Line = test_lines_if (low_if names test) head to.free inside exit in
        let body : List Line = l2.lines (in_loop exit after to) inside in
        let n : List Line = value_lines (low_if names next) after to.free in
        let s1 = words-append (l1.lines to b) (End (Jump head) ∷ (t ++ (body ++ (End (Jump after) ∷ (n ++ End (Jump head) ∷ []))))) in
        let s2 = words-append t (body ++ (End (Jump after) ∷ (n ++ End (Jump head) ∷ []))) in
        let s3 = words-append body (End (Jump after) ∷ (n ++ End (Jump head) ∷ [])) in
        let s4 = words-append n (End (Jump head) ∷ []) in
        omega (arith, s1, s2, s3, s4, p.few to b, if_test_few test head to.free inside exit, q.few (in_loop exit after to) inside, if_value_few next after to.free);
  }

  if_sized : (e : Expr) (l : LowStmt) (m bare : ℕ) → SizedStmt l m bare → SizedStmt (low_selection (low names e) l None) (1 + expression_nodes e + m + 0) (bare + 0)
  if_sized e l m bare p = record {
    few = λ to b.
        let holds : ℕ = b + (low names e).condition_blocks in let join : ℕ = holds + l.blocks + 1 in
        let s1 = words-append ((low names e).condition b to.free holds join true) (l.lines to holds ++ End (Jump join) ∷ []) in
        let s2 = words-append (l.lines to holds) (End (Jump join) ∷ []) in
        omega (arith, s1, s2, test_few e b to.free holds join true, p.few to holds);
  }

  if_else_sized : (e : Expr) (l1 l2 : LowStmt) (m1 m2 b1 b2 : ℕ) → SizedStmt l1 m1 b1 → SizedStmt l2 m2 b2 → SizedStmt (low_selection (low names e) l1 (Some l2)) (1 + expression_nodes e + m1 + m2) (b1 + b2)
  if_else_sized e l1 l2 m1 m2 b1 b2 p q = record {
    few = λ to b.
        let holds : ℕ = b + (low names e).condition_blocks in let fails : ℕ = holds + l1.blocks + 1 in let join : ℕ = fails + l2.blocks + 1 in
        let s1 = words-append ((low names e).condition b to.free holds fails true) (l1.lines to holds ++ (End (Jump join) ∷ (l2.lines to fails ++ End (Jump join) ∷ []))) in
        let s2 = words-append (l1.lines to holds) (End (Jump join) ∷ (l2.lines to fails ++ End (Jump join) ∷ [])) in
        let s3 = words-append (l2.lines to fails) (End (Jump join) ∷ []) in
        omega (arith, s1, s2, s3, test_few e b to.free holds fails true, p.few to holds, q.few to fails);
  }

  -- ---- `switch`

  labels_few : (ls : List Label) (at t : ℕ) → words (case_lines (map label_word ls) at t) + 9 ≤ 60 * sum (map label_nodes ls) + 9 * none_first ls
  labels_few [] at t = omega arith
  labels_few (l ∷ ls) at t = by l (labels_few ls at t)
    where
      most : (ks : List Label) → none_first ks ≤ 1
      most [] = omega arith
      most (k ∷ ks) = omega arith

      by : (l' : Label) → words (case_lines (map label_word ls) at t) + 9 ≤ 60 * sum (map label_nodes ls) + 9 * none_first ls → words (case_lines (map label_word (l' ∷ ls)) at t) + 9 ≤ 60 * sum (map label_nodes (l' ∷ ls)) + 9 * 0
      by (label.Case e at') rest = let total = sum_by-cons (λ m. m) (label_nodes (label.Case e at')) (map label_nodes ls) in let a = value_few e 0 0 in omega (arith, total, rest, most ls, a)
      by (label.Otherwise at') rest = let total = sum_by-cons (λ m. m) (label_nodes (label.Otherwise at')) (map label_nodes ls) in omega (arith, total, rest, most ls)

  clauses_few : (cs : List ClausePart) (to : Context) (b at t : ℕ) → words (cases_lines (map (low_clause names) (the_clauses cs)) at t) + words (clauses_lines (map (low_clause names) (the_clauses cs)) to b) ≤ 60 * sum (map clause_nodes (the_clauses cs)) + 9 * sum (map unlabelled_in_clause (the_clauses cs))
  clauses_few [] to b at t = omega arith
  clauses_few (c ∷ cs) to b at t =
      let l : LowClause = low_clause names c.0 in
      let ls : List LowClause = map (low_clause names) (the_clauses cs) in
      let s1 = words-append (case_lines l.labels at t) (cases_lines ls (at + l.body.blocks + 1) t) in
      let s2 = words-append (l.body.lines to b) (End (Jump (b + l.body.blocks + 1)) ∷ clauses_lines ls to (b + l.body.blocks + 1)) in
      let total = sum_by-cons (λ m. m) (clause_nodes c.0) (map clause_nodes (the_clauses cs)) in
      let bare_total = sum_by-cons (λ m. m) (unlabelled_in_clause c.0) (map unlabelled_in_clause (the_clauses cs)) in
      omega (arith, s1, s2, total, bare_total, c.1.few to b at t, clauses_few cs to (b + l.body.blocks + 1) (at + l.body.blocks + 1) t)

  switch_sized : (e : Expr) (cs : List ClausePart) → SizedStmt (low_switch (low names e) (map (low_clause names) (the_clauses cs))) (1 + expression_nodes e + sum (map clause_nodes (the_clauses cs))) (sum (map unlabelled_in_clause (the_clauses cs)))
  switch_sized e cs = record {
    few = λ to b.
        let ls : List LowClause = map (low_clause names) (the_clauses cs) in
        let first : ℕ = b + (low names e).blocks + cases_count ls + 1 in
        let to' : Context = record to { breaks_to = first + clauses_blocks ls } in
        let s1 = words-append ((low names e).value b to.free) (cases_lines ls first to.free ++ (End (Jump (block_of None ls first)) ∷ clauses_lines ls to' first)) in
        let s2 = words-append (cases_lines ls first to.free) (End (Jump (block_of None ls first)) ∷ clauses_lines ls to' first) in
        omega (arith, s1, s2, value_few e b to.free, clauses_few cs to' first first to.free);
  }

  -- ---- all statements

  bare : Stmt-F Part ClausePart → Stmt-F Stmt Clause
  bare y = map-Stmt Part ClausePart Stmt Clause (λ c. c.0) (λ c. c.0) y

  bare_clause : Clause-F Part ClausePart → Clause-F Stmt Clause
  bare_clause y = map-Clause Part ClausePart Stmt Clause (λ c. c.0) (λ c. c.0) y

  clause_sized : (y : Clause-F Part ClausePart) → SizedClause (low_clause_step (map-Clause Stmt Clause LowStmt LowClause (low_statement names) (low_clause names) (bare_clause y))) (clause_nodes_step (map-Clause Stmt Clause ℕ ℕ statement_nodes clause_nodes (bare_clause y))) (unlabelled_clause_step (map-Clause Stmt Clause ℕ ℕ unlabelled unlabelled_in_clause (bare_clause y)))
  unfolding bare_clause
  clause_sized y = record { few = λ to b at t. omega (arith, labels_few y.labels at t, list_few y.body to b) }

  each_sized : (y : Stmt-F Part ClausePart) → SizedStmt (low_statement_step names (map-Stmt Stmt Clause LowStmt LowClause (low_statement names) (low_clause names) (bare y))) (statement_nodes_step (map-Stmt Stmt Clause ℕ ℕ statement_nodes clause_nodes (bare y))) (unlabelled_step (map-Stmt Stmt Clause ℕ ℕ unlabelled unlabelled_in_clause (bare y)))
  unfolding bare
  each_sized Stmt-F.Empty = record { few = λ to b. omega arith }
  each_sized (Stmt-F.Value e) = record { few = λ to b. omega (arith, value_few e b to.free) }
  each_sized (Stmt-F.Declare ds) = record { few = λ to b. omega (arith, locals_few ds to b) }
  each_sized (Stmt-F.Block cs) = record { few = λ to b. omega (arith, list_few cs to b) }
  each_sized (Stmt-F.If e a None) = if_sized e (low_statement names a.0) (statement_nodes a.0) (unlabelled a.0) a.1
  each_sized (Stmt-F.If e a (Some c)) = if_else_sized e (low_statement names a.0) (low_statement names c.0) (statement_nodes a.0) (statement_nodes c.0) (unlabelled a.0) (unlabelled c.0) a.1 c.1
  each_sized (Stmt-F.While e a) = while_sized e (low_statement names a.0) (statement_nodes a.0) (unlabelled a.0) a.1
  each_sized (Stmt-F.Do a e) = do_sized e (low_statement names a.0) (statement_nodes a.0) (unlabelled a.0) a.1
  each_sized (Stmt-F.For a test next c) = for_sized test next (low_statement names a.0) (low_statement names c.0) (statement_nodes a.0) (statement_nodes c.0) (unlabelled a.0) (unlabelled c.0) a.1 c.1
  each_sized (Stmt-F.Switch e cs) = switch_sized e cs
  each_sized (Stmt-F.Break at) = record { few = λ to b. omega arith }
  each_sized (Stmt-F.Continue at) = record { few = λ to b. omega arith }
  each_sized (Stmt-F.Return e at) = record { few = λ to b. let s = words-append (value_lines (low_if names e) b to.free) (End (Jump to.returns_to) ∷ []) in omega (arith, s, if_value_few e b to.free) }

  -- the lines of a statement come to at most 60 words a node
  pub sized_statement : (c : Stmt) → SizedStmt (low_statement names c) (statement_nodes c) (unlabelled c)
  unfolding bare bare_clause
  sized_statement = ind-Stmt SizedStmtOf SizedClauseOf
      (λ x y is. subst (λ z. SizedStmtOf (roll-Stmt z)) is
      (rw (fold-roll-Stmt LowStmt LowClause (low_statement_step names) low_clause_step (bare y), fold-roll-Stmt ℕ ℕ statement_nodes_step clause_nodes_step (bare y), fold-roll-Stmt ℕ ℕ unlabelled_step unlabelled_clause_step (bare y)) (each_sized y)))
      (λ x y is. subst (λ z. SizedClauseOf (roll-Clause z)) is
      (rw (fold-roll-Clause LowStmt LowClause (low_statement_step names) low_clause_step (bare_clause y), fold-roll-Clause ℕ ℕ statement_nodes_step clause_nodes_step (bare_clause y), fold-roll-Clause ℕ ℕ unlabelled_step unlabelled_clause_step (bare_clause y)) (clause_sized y)))
