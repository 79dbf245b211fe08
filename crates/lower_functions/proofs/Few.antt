-- An expression and a statement have few blocks, temporaries and variables, by their nodes.
use Rattle.std.proofs.Common.{◌≡◌, ℕ, suc, ◌+◌, ◌*◌, ◌≤◌, max, Bool, true, false, List, [], ◌∷◌, map, sum, length, Option, Some, None, if◌then◌else◌, refl, subst, arith}
use Rattle.std.proofs.lemmas.List.Sums.{sum_by-cons}
use Rattle.c_syntax.specs.declared.tree.BinaryOp.{BinaryOp}
use Rattle.c_syntax.specs.declared.tree.UnaryOp.{UnaryOp}
use Rattle.c_syntax.specs.declared.tree.UnaryOp.TheVariants as unary
use Rattle.c_syntax.specs.declared.tree.Expr.{Expr, roll-Expr, map-Expr, ind-Expr, fold-roll-Expr}
use Rattle.c_syntax.specs.declared.tree.Expr.TheOpen.{Expr-F}
use Rattle.c_syntax.specs.declared.tree.Local.{Local}
use Rattle.c_syntax.specs.declared.tree.Label.{Label}
use Rattle.c_syntax.specs.declared.tree.Label.TheVariants as label
use Rattle.c_syntax.specs.declared.tree.Stmt.{Stmt, roll-Stmt, map-Stmt, ind-Stmt, fold-roll-Stmt}
use Rattle.c_syntax.specs.declared.tree.Clause.{Clause, roll-Clause, map-Clause, fold-roll-Clause}
use Rattle.c_syntax.specs.declared.tree.Stmt.TheOpen.{Stmt-F, Clause-F}
use Rattle.c_meaning.specs.Meaning.{label_word}
use Rattle.c_syntax.specs.Sizes.{greatest, or_zero, expression_nodes, expression_nodes_step, local_nodes, label_nodes, statement_nodes_step, clause_nodes_step, statement_nodes, clause_nodes}
use Rattle.c_syntax.specs.Costs.{Need, need, need_step, argument_temps, assign_temps, old_temps, bump_temps, temps, local_temps, label_temps, statement_temps_step, clause_temps_step, statement_temps, clause_temps, statement_locals_step, clause_locals_step, statement_locals, clause_locals}
use Rattle.lower_rules.specs.Bindings.{Bindings, Callee, InWord, OutWord, Defined, NoFunction}
use Rattle.lower_rules.specs.Expressions.{LowExpr, low_step, low, low_unary, args_blocks, callee_blocks}
use Rattle.lower_rules.specs.Statements.{LowStmt, value_blocks, test_blocks, low_if, list_blocks, low_list, low_local, LowClause, low_clause_step, case_count, cases_count, clauses_blocks, low_statement_step, low_statement, low_clause}
use Rattle.c_syntax.specs.Labels.{none_first, unlabelled_step, unlabelled_clause_step, unlabelled, unlabelled_in_clause}

-- ---- expressions

pub record FewExpr (l : LowExpr) (n : Need) (nodes : ℕ) : Type 0 where
  pub value : l.blocks + 3 ≤ 4 * nodes
  pub condition : l.condition_blocks + 2 ≤ 4 * nodes
  pub place : l.place_blocks ≤ 4 * nodes
  pub temps : n.temps ≤ nodes
  pub index : n.is_index ≡ true → 2 ≤ nodes

module _ (names : Bindings) where
  abbrev FewOf : Expr → Type 0
  FewOf e = FewExpr (low names e) (need e) (expression_nodes e)

  abbrev Item : Type 0
  Item = (e : Expr) × FewOf e

  abbrev exprs : List Item → List Expr
  exprs es = map (λ e. e.0) es

  args_few : (es : List Item) → args_blocks (map (low names) (exprs es)) ≤ 4 * sum (map expression_nodes (exprs es))
  args_few [] = omega arith
  args_few (e ∷ es) = omega (arith, sum_by-cons (λ m. m) (expression_nodes e.0) (map expression_nodes (exprs es)), e.1.value, args_few es)

  args_temps : (i : ℕ) (es : List Item) → argument_temps i (map need (exprs es)) ≤ i + sum (map expression_nodes (exprs es))
  args_temps i [] = omega arith
  args_temps i (e ∷ es) = omega (arith, sum_by-cons (λ m. m) (expression_nodes e.0) (map expression_nodes (exprs es)), e.1.value, e.1.temps, args_temps (suc i) es)

  call_few : (y : Callee) → callee_blocks y ≤ 1
  call_few InWord = omega arith
  call_few OutWord = omega arith
  call_few (Defined number arity is_void is_unsigned) = omega arith
  call_few NoFunction = omega arith

  unary_few : (op : UnaryOp) (l : LowExpr) (n : Need) (m : ℕ) → FewExpr l n m → (low_unary op l).condition_blocks + 2 ≤ 4 * (1 + m)
  unary_few unary.Minus l n m p = omega (arith, p.value)
  unary_few unary.Plus l n m p = omega (arith, p.value)
  unary_few unary.Flip l n m p = omega (arith, p.value)
  unary_few unary.Not l n m p = omega (arith, p.condition)

  old_few : (op : Option BinaryOp) → old_temps op ≤ 1
  old_few None = omega arith
  old_few (Some op) = omega arith

  assign_few : (op : Option BinaryOp) (l : LowExpr) (n : Need) (m r k : ℕ) → FewExpr l n m → r ≤ k → 1 ≤ k → assign_temps op n r ≤ 1 + m + k
  assign_few op l n m r k p le some = by n.is_index
    where
      o : old_temps op ≤ 1
      o = old_few op

      by : (b : Bool) → (if b then max n.temps (1 + old_temps op + r) else old_temps op + r) ≤ 1 + m + k
      by true = omega (arith, p.temps, p.value, o)
      by false = omega (arith, p.temps, o)

  bump_few : (l : LowExpr) (n : Need) (m : ℕ) → FewExpr l n m → bump_temps n ≤ 1 + m
  bump_few l n m p = by n.is_index p.index
    where
      by : (b : Bool) → (b ≡ true → 2 ≤ m) → (if b then max n.temps 3 else 2) ≤ 1 + m
      by true h = omega (arith, p.temps, h refl)
      by false h = omega (arith, p.value)

  bare_expr : Expr-F Item → Expr-F Expr
  bare_expr x = map-Expr Item Expr (λ e. e.0) x

  each_few : (x : Expr-F Item) → FewExpr (low_step names (map-Expr Expr LowExpr (low names) (bare_expr x))) (need_step (map-Expr Expr Need need (bare_expr x))) (expression_nodes_step (map-Expr Expr ℕ expression_nodes (bare_expr x)))
  unfolding bare_expr
  each_few (Expr-F.Literal word u at) = record { value = omega arith; condition = omega arith; place = omega arith; temps = omega arith; index = λ h. cc }
  each_few (Expr-F.Name name at) = record { value = omega arith; condition = omega arith; place = omega arith; temps = omega arith; index = λ h. cc }
  each_few (Expr-F.Index name e at) = record { value = omega (arith, e.1.value); condition = omega (arith, e.1.value); place = omega (arith, e.1.value); temps = omega (arith, e.1.temps); index = λ h. omega (arith, e.1.value) }
  each_few (Expr-F.Call name es at) = record {
    value = omega (arith, args_few es, call_few (names.callee name));
    condition = omega (arith, args_few es, call_few (names.callee name));
    place = omega arith;
    temps = omega (arith, args_temps 0 es);
    index = λ h. cc;
  }
  each_few (Expr-F.Unary op e at) = record {
    value = omega (arith, e.1.value);
    condition = unary_few op (low names e.0) (need e.0) (expression_nodes e.0) e.1;
    place = omega arith;
    temps = omega (arith, e.1.temps, e.1.value);
    index = λ h. cc;
  }
  each_few (Expr-F.Binary op a b at) = record { value = omega (arith, a.1.value, b.1.value); condition = omega (arith, a.1.value, b.1.value); place = omega arith; temps = omega (arith, a.1.temps, b.1.temps); index = λ h. cc }
  each_few (Expr-F.Logic is_and a b at) = record { value = omega (arith, a.1.condition, b.1.condition); condition = omega (arith, a.1.condition, b.1.condition); place = omega arith; temps = omega (arith, a.1.temps, b.1.temps); index = λ h. cc }
  each_few (Expr-F.Choose t a b at) = record {
    value = omega (arith, t.1.condition, a.1.value, b.1.value);
    condition = omega (arith, t.1.condition, a.1.value, b.1.value);
    place = omega arith;
    temps = omega (arith, t.1.temps, a.1.temps, b.1.temps);
    index = λ h. cc;
  }
  each_few (Expr-F.Assign op p e at) = record {
    value = omega (arith, p.1.place, e.1.value);
    condition = omega (arith, p.1.place, e.1.value);
    place = omega arith;
    temps = assign_few op (low names p.0) (need p.0) (expression_nodes p.0) (temps e.0) (expression_nodes e.0) p.1 e.1.temps (omega (arith, e.1.value));
    index = λ h. cc;
  }
  each_few (Expr-F.Bump up before p at) = record { value = omega (arith, p.1.place); condition = omega (arith, p.1.place); place = omega arith; temps = bump_few (low names p.0) (need p.0) (expression_nodes p.0) p.1; index = λ h. cc }
  each_few (Expr-F.Comma a b at) = record { value = omega (arith, a.1.value, b.1.value); condition = omega (arith, a.1.value, b.1.value); place = omega arith; temps = omega (arith, a.1.temps, b.1.temps); index = λ h. cc }
  each_few (Expr-F.Paren e at) = record { value = omega (arith, e.1.value); condition = omega (arith, e.1.condition); place = omega (arith, e.1.place); temps = omega (arith, e.1.temps); index = λ h. omega (arith, e.1.value) }

  pub few : (e : Expr) → FewOf e
  unfolding bare_expr
  few = ind-Expr FewOf
      (λ x y is. subst (λ z. FewOf (roll-Expr z)) is
      (rw (fold-roll-Expr LowExpr (low_step names) (bare_expr y), fold-roll-Expr Need need_step (bare_expr y), fold-roll-Expr ℕ expression_nodes_step (bare_expr y)) (each_few y)))

-- ---- statements

pub record FewStmt (l : LowStmt) (nodes bare most locals : ℕ) : Type 0 where
  pub blocks : l.blocks ≤ 4 * nodes + bare
  pub temps : most ≤ nodes
  pub locals_few : locals ≤ nodes

pub record FewClause (c : LowClause) (nodes bare most locals : ℕ) : Type 0 where
  pub blocks : case_count c.labels + (c.body.blocks + 1) ≤ 4 * nodes + bare
  pub temps : most ≤ nodes
  pub locals_few : locals ≤ nodes

module _ (names : Bindings) where
  abbrev StmtOf : Stmt → Type 0
  StmtOf c = FewStmt (low_statement names c) (statement_nodes c) (unlabelled c) (statement_temps c) (statement_locals c)

  abbrev ClauseOf : Clause → Type 0
  ClauseOf c = FewClause (low_clause names c) (clause_nodes c) (unlabelled_in_clause c) (clause_temps c) (clause_locals c)

  abbrev Part : Type 0
  Part = (c : Stmt) × StmtOf c

  abbrev ClausePart : Type 0
  ClausePart = (c : Clause) × ClauseOf c

  abbrev stmts : List Part → List Stmt
  stmts cs = map (λ c. c.0) cs

  abbrev the_clauses : List ClausePart → List Clause
  the_clauses cs = map (λ c. c.0) cs

  if_value : (e : Option Expr) → value_blocks (low_if names e) ≤ 4 * or_zero expression_nodes e
  if_value None = omega arith
  if_value (Some e) = omega (arith, (few names e).value)

  if_test : (e : Option Expr) → test_blocks (low_if names e) ≤ 4 * or_zero expression_nodes e
  if_test None = omega arith
  if_test (Some e) = omega (arith, (few names e).condition)

  if_temps : (e : Option Expr) → or_zero temps e ≤ or_zero expression_nodes e
  if_temps None = omega arith
  if_temps (Some e) = (few names e).temps

  locals_blocks : (ds : List Local) → list_blocks (map (low_local names) ds) ≤ 4 * sum (map local_nodes ds)
  locals_blocks [] = omega arith
  locals_blocks (d ∷ ds) = omega (arith, sum_by-cons (λ m. m) (local_nodes d) (map local_nodes ds), if_value d.first, locals_blocks ds)

  locals_temps : (ds : List Local) → greatest (map local_temps ds) ≤ sum (map local_nodes ds)
  locals_temps [] = omega arith
  locals_temps (d ∷ ds) = omega (arith, sum_by-cons (λ m. m) (local_nodes d) (map local_nodes ds), if_temps d.first, locals_temps ds)

  locals_count : (ds : List Local) → length ds ≤ sum (map local_nodes ds)
  locals_count [] = omega arith
  locals_count (d ∷ ds) = omega (arith, sum_by-cons (λ m. m) (local_nodes d) (map local_nodes ds), locals_count ds)

  list_few : (cs : List Part) → FewStmt (low_list (map (low_statement names) (stmts cs))) (sum (map statement_nodes (stmts cs))) (sum (map unlabelled (stmts cs))) (greatest (map statement_temps (stmts cs))) (sum (map statement_locals (stmts cs)))
  list_few [] = record { blocks = omega arith; temps = omega arith; locals_few = omega arith }
  list_few (c ∷ cs) =
      let r = list_few cs in
      let n = sum_by-cons (λ m. m) (statement_nodes c.0) (map statement_nodes (stmts cs)) in
      let u = sum_by-cons (λ m. m) (unlabelled c.0) (map unlabelled (stmts cs)) in
      let l = sum_by-cons (λ m. m) (statement_locals c.0) (map statement_locals (stmts cs)) in
      record { blocks = omega (arith, n, u, c.1.blocks, r.blocks); temps = omega (arith, n, c.1.temps, r.temps); locals_few = omega (arith, n, l, c.1.locals_few, r.locals_few) }

  -- ---- `switch`

  most_none : (ks : List Label) → none_first ks ≤ 1
  most_none [] = omega arith
  most_none (k ∷ ks) = omega arith

  labels_few : (ls : List Label) → case_count (map label_word ls) + 1 ≤ 4 * sum (map label_nodes ls) + none_first ls
  labels_few [] = omega arith
  labels_few (l ∷ ls) = by l (labels_few ls)
    where
      by : (k : Label) → case_count (map label_word ls) + 1 ≤ 4 * sum (map label_nodes ls) + none_first ls → case_count (map label_word (k ∷ ls)) + 1 ≤ 4 * sum (map label_nodes (k ∷ ls)) + 0
      by (label.Case e at) rest = let total = sum_by-cons (λ m. m) (label_nodes (label.Case e at)) (map label_nodes ls) in omega (arith, total, rest, most_none ls)
      by (label.Otherwise at) rest = let total = sum_by-cons (λ m. m) (label_nodes (label.Otherwise at)) (map label_nodes ls) in omega (arith, total, rest, most_none ls)

  labels_temps : (ls : List Label) → greatest (map label_temps ls) ≤ sum (map label_nodes ls)
  labels_temps [] = omega arith
  labels_temps (l ∷ ls) = by l (labels_temps ls)
    where
      by : (k : Label) → greatest (map label_temps ls) ≤ sum (map label_nodes ls) → greatest (map label_temps (k ∷ ls)) ≤ sum (map label_nodes (k ∷ ls))
      by (label.Case e at) rest = let total = sum_by-cons (λ m. m) (label_nodes (label.Case e at)) (map label_nodes ls) in omega (arith, total, rest, (few names e).temps)
      by (label.Otherwise at) rest = let total = sum_by-cons (λ m. m) (label_nodes (label.Otherwise at)) (map label_nodes ls) in omega (arith, total, rest)

  pub record FewClauses (cs : List ClausePart) : Type 0 where
    pub blocks : cases_count (map (low_clause names) (the_clauses cs)) + clauses_blocks (map (low_clause names) (the_clauses cs)) ≤ 4 * sum (map clause_nodes (the_clauses cs)) + sum (map unlabelled_in_clause (the_clauses cs))
    pub temps : greatest (map clause_temps (the_clauses cs)) ≤ sum (map clause_nodes (the_clauses cs))
    pub locals_few : sum (map clause_locals (the_clauses cs)) ≤ sum (map clause_nodes (the_clauses cs))

  clauses_few : (cs : List ClausePart) → FewClauses cs
  clauses_few [] = record { blocks = omega arith; temps = omega arith; locals_few = omega arith }
  clauses_few (c ∷ cs) =
      let r = clauses_few cs in
      let n = sum_by-cons (λ m. m) (clause_nodes c.0) (map clause_nodes (the_clauses cs)) in
      let u = sum_by-cons (λ m. m) (unlabelled_in_clause c.0) (map unlabelled_in_clause (the_clauses cs)) in
      let l = sum_by-cons (λ m. m) (clause_locals c.0) (map clause_locals (the_clauses cs)) in
      record { blocks = omega (arith, n, u, c.1.blocks, r.blocks); temps = omega (arith, n, c.1.temps, r.temps); locals_few = omega (arith, n, l, c.1.locals_few, r.locals_few) }

  -- ---- all statements

  bare : Stmt-F Part ClausePart → Stmt-F Stmt Clause
  bare y = map-Stmt Part ClausePart Stmt Clause (λ c. c.0) (λ c. c.0) y

  bare_clause : Clause-F Part ClausePart → Clause-F Stmt Clause
  bare_clause y = map-Clause Part ClausePart Stmt Clause (λ c. c.0) (λ c. c.0) y

  clause_few : (y : Clause-F Part ClausePart) → FewClause (low_clause_step (map-Clause Stmt Clause LowStmt LowClause (low_statement names) (low_clause names) (bare_clause y))) (clause_nodes_step (map-Clause Stmt Clause ℕ ℕ statement_nodes clause_nodes (bare_clause y))) (unlabelled_clause_step (map-Clause Stmt Clause ℕ ℕ unlabelled unlabelled_in_clause (bare_clause y))) (clause_temps_step (map-Clause Stmt Clause ℕ ℕ statement_temps clause_temps (bare_clause y))) (clause_locals_step (map-Clause Stmt Clause ℕ ℕ statement_locals clause_locals (bare_clause y)))
  unfolding bare_clause
  clause_few y =
      let r = list_few y.body in
      record { blocks = omega (arith, labels_few y.labels, r.blocks); temps = omega (arith, labels_temps y.labels, r.temps); locals_few = omega (arith, r.locals_few) }

  each : (y : Stmt-F Part ClausePart) → FewStmt (low_statement_step names (map-Stmt Stmt Clause LowStmt LowClause (low_statement names) (low_clause names) (bare y))) (statement_nodes_step (map-Stmt Stmt Clause ℕ ℕ statement_nodes clause_nodes (bare y))) (unlabelled_step (map-Stmt Stmt Clause ℕ ℕ unlabelled unlabelled_in_clause (bare y))) (statement_temps_step (map-Stmt Stmt Clause ℕ ℕ statement_temps clause_temps (bare y))) (statement_locals_step (map-Stmt Stmt Clause ℕ ℕ statement_locals clause_locals (bare y)))
  unfolding bare
  each Stmt-F.Empty = record { blocks = omega arith; temps = omega arith; locals_few = omega arith }
  each (Stmt-F.Value e) = let p = few names e in record { blocks = omega (arith, p.value); temps = omega (arith, p.temps); locals_few = omega arith }
  each (Stmt-F.Declare ds) = record { blocks = omega (arith, locals_blocks ds); temps = omega (arith, locals_temps ds); locals_few = omega (arith, locals_count ds) }
  each (Stmt-F.Block cs) = let r = list_few cs in record { blocks = omega (arith, r.blocks); temps = omega (arith, r.temps); locals_few = omega (arith, r.locals_few) }
  each (Stmt-F.If e a None) = let p = few names e in record { blocks = omega (arith, p.condition, a.1.blocks); temps = omega (arith, p.temps, a.1.temps); locals_few = omega (arith, a.1.locals_few) }
  each (Stmt-F.If e a (Some c)) = let p = few names e in record { blocks = omega (arith, p.condition, a.1.blocks, c.1.blocks); temps = omega (arith, p.temps, a.1.temps, c.1.temps); locals_few = omega (arith, a.1.locals_few, c.1.locals_few) }
  each (Stmt-F.While e a) = let p = few names e in record { blocks = omega (arith, p.condition, a.1.blocks); temps = omega (arith, p.temps, a.1.temps); locals_few = omega (arith, a.1.locals_few) }
  each (Stmt-F.Do a e) = let p = few names e in record { blocks = omega (arith, p.condition, a.1.blocks); temps = omega (arith, p.temps, a.1.temps); locals_few = omega (arith, a.1.locals_few) }
  each (Stmt-F.For a test next c) = record {
    blocks = omega (arith, if_test test, if_value next, a.1.blocks, c.1.blocks);
    temps = omega (arith, if_temps test, if_temps next, a.1.temps, c.1.temps);
    locals_few = omega (arith, a.1.locals_few, c.1.locals_few);
  }
  each (Stmt-F.Switch e cs) = let p = few names e in let r = clauses_few cs in record { blocks = omega (arith, p.value, r.blocks); temps = omega (arith, p.value, p.temps, r.temps); locals_few = omega (arith, r.locals_few) }
  each (Stmt-F.Break at) = record { blocks = omega arith; temps = omega arith; locals_few = omega arith }
  each (Stmt-F.Continue at) = record { blocks = omega arith; temps = omega arith; locals_few = omega arith }
  each (Stmt-F.Return e at) = record { blocks = omega (arith, if_value e); temps = omega (arith, if_temps e); locals_few = omega arith }

  few_statement : (c : Stmt) → StmtOf c
  unfolding bare bare_clause
  few_statement = ind-Stmt StmtOf ClauseOf
      (λ x y is. subst (λ z. StmtOf (roll-Stmt z)) is
      (rw (fold-roll-Stmt LowStmt LowClause (low_statement_step names) low_clause_step (bare y), fold-roll-Stmt ℕ ℕ statement_nodes_step clause_nodes_step (bare y), fold-roll-Stmt ℕ ℕ unlabelled_step unlabelled_clause_step (bare y), fold-roll-Stmt ℕ ℕ statement_temps_step clause_temps_step (bare y), fold-roll-Stmt ℕ ℕ statement_locals_step clause_locals_step (bare y)) (each y)))
      (λ x y is. subst (λ z. ClauseOf (roll-Clause z)) is
      (rw (fold-roll-Clause LowStmt LowClause (low_statement_step names) low_clause_step (bare_clause y), fold-roll-Clause ℕ ℕ statement_nodes_step clause_nodes_step (bare_clause y), fold-roll-Clause ℕ ℕ unlabelled_step unlabelled_clause_step (bare_clause y), fold-roll-Clause ℕ ℕ statement_temps_step clause_temps_step (bare_clause y), fold-roll-Clause ℕ ℕ statement_locals_step clause_locals_step (bare_clause y)) (clause_few y)))

  -- a body has few blocks, temporaries and variables
  pub few_body : (cs : List Stmt) → FewStmt (low_list (map (low_statement names) cs)) (sum (map statement_nodes cs)) (sum (map unlabelled cs)) (greatest (map statement_temps cs)) (sum (map statement_locals cs))
  few_body [] = record { blocks = omega arith; temps = omega arith; locals_few = omega arith }
  few_body (c ∷ cs) =
      let r = few_body cs in
      let x = few_statement c in
      let n = sum_by-cons (λ m. m) (statement_nodes c) (map statement_nodes cs) in
      let u = sum_by-cons (λ m. m) (unlabelled c) (map unlabelled cs) in
      let l = sum_by-cons (λ m. m) (statement_locals c) (map statement_locals cs) in
      record { blocks = omega (arith, n, u, x.blocks, r.blocks); temps = omega (arith, n, x.temps, r.temps); locals_few = omega (arith, n, l, x.locals_few, r.locals_few) }
