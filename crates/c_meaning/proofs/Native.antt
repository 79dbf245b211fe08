-- Folds over trees by recursions that compute, and that they are the folds.
use Rattle.std.proofs.Common.{◌≡◌, List, [], ◌∷◌, map, Option, Some, None, refl, sym, ap, ◌∙◌, subst}
use Rattle.c_syntax.specs.declared.tree.Expr.{Expr, Literal, Name, Call', roll-Expr, map-Expr, ind-Expr, fold-Expr, fold-roll-Expr, Row_of-Expr, end_of-Expr, more_of-Expr, items-the_row-Expr, items_hidden-the_row-Expr-1}
use Rattle.c_syntax.specs.declared.tree.Expr.TheOpen.{Expr-F}
use Rattle.c_syntax.specs.declared.tree.Expr.TheBlock.{shape-the_row-Expr-0, hidden-the_row-Expr-0, shape-the_row-Expr-1, hidden-the_row-Expr-1}
use Rattle.c_syntax.specs.declared.tree.Expr.TheVariants.{rolls-Literal, rolls-Name, rolls-Index, rolls-Call, rolls-Unary, rolls-Binary, rolls-Logic, rolls-Choose, rolls-Assign, rolls-Bump, rolls-Comma, rolls-Paren}
use Rattle.c_syntax.specs.declared.tree.Clause.{Clause, roll-Clause, map-Clause, fold-Clause, fold-roll-Clause, out-Clause}
use Rattle.c_syntax.specs.declared.tree.Stmt.{Stmt, Empty, Value as Evaluate, Declare, Block', Switch', Break, Continue, Return, Held-Stmt-If-2, None', roll-Stmt, map-Stmt, ind-Stmt, fold-Stmt, fold-roll-Stmt, Row_of-Stmt, end_of-Stmt, more_of-Stmt, Row_of-Clause, end_of-Clause, more_of-Clause, items-the_row-Stmt, items_hidden-the_row-Stmt-0, items_shown-the_row-Stmt-0, items-the_row-Clause, items_hidden-the_row-Clause-2}
use Rattle.c_syntax.specs.declared.tree.Stmt.TheOpen.{Stmt-F, Clause-F}
use Rattle.c_syntax.specs.declared.tree.Stmt.TheBlock.{shape-the_row-Stmt-0, hidden-the_row-Stmt-0, shape-the_row-Stmt-1, hidden-the_row-Stmt-1, shape-the_row-Clause-2, hidden-the_row-Clause-2}
use Rattle.c_syntax.specs.declared.tree.Stmt.TheVariants.{rolls-Empty, rolls-Value, rolls-Declare, rolls-Block, rolls-If, rolls-While, rolls-Do, rolls-For, rolls-Switch, rolls-Break, rolls-Continue, rolls-Return}
use denote.Hole.Carrier.{hidden}
use Rattle.c_meaning.proofs.Patterns.{index', unary', binary', logic', choose', assign', bump', comma', paren', if', some', while', do', for'}

-- ---- expressions

module _ (A : Type 0) (step : Expr-F A → A) where
  abbrev mutual
    pub native : Expr → A
    native (Literal word u at) = step (Expr-F.Literal word u at)
    native (Name name at) = step (Expr-F.Name name at)
    native (index' name i at) = step (Expr-F.Index name (native i) at)
    native (Call' name shape args at) = step (Expr-F.Call name (natives args) at)
    native (unary' op e at) = step (Expr-F.Unary op (native e) at)
    native (binary' op l r at) = step (Expr-F.Binary op (native l) (native r) at)
    native (logic' is_and l r at) = step (Expr-F.Logic is_and (native l) (native r) at)
    native (choose' t a b at) = step (Expr-F.Choose (native t) (native a) (native b) at)
    native (assign' op p v at) = step (Expr-F.Assign op (native p) (native v) at)
    native (bump' up before p at) = step (Expr-F.Bump up before (native p) at)
    native (comma' l r at) = step (Expr-F.Comma (native l) (native r) at)
    native (paren' e at) = step (Expr-F.Paren (native e) at)

    pub natives : {m : _} → Row_of-Expr m → List A
    natives end_of-Expr = []
    natives (more_of-Expr e rest) = native e ∷ natives rest

  natives_items : {m : _} (row : Row_of-Expr m) → natives row ≡ map native (items-the_row-Expr m row)
  natives_items end_of-Expr = refl
  natives_items (more_of-Expr e rest) = ap (λ es. native e ∷ es) (natives_items rest)

  abbrev folded : Expr → A
  folded = fold-Expr A step

  abbrev Part : Type 0
  Part = (e : Expr) × (native e ≡ folded e)

  list_is : (es : List Part) → map native (map (λ e. e.0) es) ≡ map folded (map (λ e. e.0) es)
  list_is [] = refl
  list_is (e ∷ es) = ap (λ x. x ∷ map native (map (λ e. e.0) es)) e.1 ∙ ap (λ xs. folded e.0 ∷ xs) (list_is es)

  native_is : (y : Expr-F Part) → native (roll-Expr (map-Expr Part Expr (λ e. e.0) y)) ≡ step (map-Expr Expr A folded (map-Expr Part Expr (λ e. e.0) y))
  unfolding shape-the_row-Expr-0 hidden-the_row-Expr-0 shape-the_row-Expr-1 hidden-the_row-Expr-1 hidden
  native_is (Expr-F.Literal word u at) = ap native (rolls-Literal word u at)
  native_is (Expr-F.Name name at) = ap native (rolls-Name name at)
  native_is (Expr-F.Index name i at) = ap native (rolls-Index name i.0 at) ∙ ap (λ x. step (Expr-F.Index name x at)) i.1
  native_is (Expr-F.Call name args at) = ap native (rolls-Call name (map (λ e. e.0) args) at) ∙ ap (λ xs. step (Expr-F.Call name xs at)) (natives_items {m = _} (hidden-the_row-Expr-1 (map (λ e. e.0) args)) ∙ ap (map native) (items_hidden-the_row-Expr-1 (map (λ e. e.0) args)) ∙ list_is args)
  native_is (Expr-F.Unary op e at) = ap native (rolls-Unary op e.0 at) ∙ ap (λ x. step (Expr-F.Unary op x at)) e.1
  native_is (Expr-F.Binary op l r at) = ap native (rolls-Binary op l.0 r.0 at) ∙ ap (λ x. step (Expr-F.Binary op x (native r.0) at)) l.1 ∙ ap (λ x. step (Expr-F.Binary op (folded l.0) x at)) r.1
  native_is (Expr-F.Logic is_and l r at) = ap native (rolls-Logic is_and l.0 r.0 at) ∙ ap (λ x. step (Expr-F.Logic is_and x (native r.0) at)) l.1 ∙ ap (λ x. step (Expr-F.Logic is_and (folded l.0) x at)) r.1
  native_is (Expr-F.Choose t a b at) = ap native (rolls-Choose t.0 a.0 b.0 at) ∙ ap (λ x. step (Expr-F.Choose x (native a.0) (native b.0) at)) t.1 ∙ ap (λ x. step (Expr-F.Choose (folded t.0) x (native b.0) at)) a.1 ∙ ap (λ x. step (Expr-F.Choose (folded t.0) (folded a.0) x at)) b.1
  native_is (Expr-F.Assign op p v at) = ap native (rolls-Assign op p.0 v.0 at) ∙ ap (λ x. step (Expr-F.Assign op x (native v.0) at)) p.1 ∙ ap (λ x. step (Expr-F.Assign op (folded p.0) x at)) v.1
  native_is (Expr-F.Bump up before p at) = ap native (rolls-Bump up before p.0 at) ∙ ap (λ x. step (Expr-F.Bump up before x at)) p.1
  native_is (Expr-F.Comma l r at) = ap native (rolls-Comma l.0 r.0 at) ∙ ap (λ x. step (Expr-F.Comma x (native r.0) at)) l.1 ∙ ap (λ x. step (Expr-F.Comma (folded l.0) x at)) r.1
  native_is (Expr-F.Paren e at) = ap native (rolls-Paren e.0 at) ∙ ap (λ x. step (Expr-F.Paren x at)) e.1

  pub native_expression : (e : Expr) → native e ≡ fold-Expr A step e
  native_expression = ind-Expr (λ e. native e ≡ folded e) (λ x y is. subst (λ z. native (roll-Expr z) ≡ folded (roll-Expr z)) is (native_is y ∙ sym (fold-roll-Expr A step (map-Expr Part Expr (λ e. e.0) y))))

-- ---- statements

both : {A : Type 0} {x y : A} {xs ys : List A} → x ≡ y → xs ≡ ys → x ∷ xs ≡ y ∷ ys
both {y = y} {xs = xs} e es = ap (λ z. z ∷ xs) e ∙ ap (λ zs. y ∷ zs) es

module _ (A A' : Type 0) (step : Stmt-F A A' → A) (step' : Clause-F A A' → A') where
  abbrev mutual
    pub native_statement : Stmt → A
    native_statement Empty = step Stmt-F.Empty
    native_statement (Evaluate e) = step (Stmt-F.Value e)
    native_statement (Declare locals) = step (Stmt-F.Declare locals)
    native_statement (Block' shape body) = step (Stmt-F.Block (native_statements body))
    native_statement (if' t a b) = step (Stmt-F.If t (native_statement a) (native_else b))
    native_statement (while' t b) = step (Stmt-F.While t (native_statement b))
    native_statement (do' b t) = step (Stmt-F.Do (native_statement b) t)
    native_statement (for' f t n b) = step (Stmt-F.For (native_statement f) t n (native_statement b))
    native_statement (Switch' t shape clauses) = step (Stmt-F.Switch t (native_clauses clauses))
    native_statement (Break at) = step (Stmt-F.Break at)
    native_statement (Continue at) = step (Stmt-F.Continue at)
    native_statement (Return e at) = step (Stmt-F.Return e at)

    pub native_statements : {m : _} → Row_of-Stmt m → List A
    native_statements end_of-Stmt = []
    native_statements (more_of-Stmt c rest) = native_statement c ∷ native_statements rest

    pub native_clauses : {m : _} → Row_of-Clause m → List A'
    native_clauses end_of-Clause = []
    native_clauses (more_of-Clause labels shape body rest) = step' (record { labels = labels; body = native_statements body }) ∷ native_clauses rest

    pub native_else : Held-Stmt-If-2 → Option A
    native_else None' = None
    native_else (some' c) = Some (native_statement c)

  statements_items : {m : _} (row : Row_of-Stmt m) → native_statements row ≡ map native_statement (items-the_row-Stmt m row)
  statements_items end_of-Stmt = refl
  statements_items (more_of-Stmt c rest) = ap (λ cs. native_statement c ∷ cs) (statements_items rest)

  abbrev native_clause : Clause → A'
  native_clause c = step' (record { labels = (out-Clause c).labels; body = map native_statement (out-Clause c).body })

  clauses_items : {m : _} (row : Row_of-Clause m) → native_clauses row ≡ map native_clause (items-the_row-Clause m row)
  clauses_items end_of-Clause = refl
  clauses_items (more_of-Clause labels shape body rest) = both (ap (λ cs. step' (record { labels = labels; body = cs })) (statements_items body ∙ sym (ap (map native_statement) (items_shown-the_row-Stmt-0 shape body)))) (clauses_items rest)

  abbrev statement_folded : Stmt → A
  statement_folded = fold-Stmt A A' step step'

  abbrev clause_folded : Clause → A'
  clause_folded = fold-Clause A A' step step'

  abbrev Sub : Type 0
  Sub = (c : Stmt) × (native_statement c ≡ statement_folded c)

  abbrev SubClause : Type 0
  SubClause = (c : Clause) × (native_clause c ≡ clause_folded c)

  statements_are : (cs : List Sub) → map native_statement (map (λ c. c.0) cs) ≡ map statement_folded (map (λ c. c.0) cs)
  statements_are [] = refl
  statements_are (c ∷ cs) = ap (λ x. x ∷ map native_statement (map (λ c'. c'.0) cs)) c.1 ∙ ap (λ xs. statement_folded c.0 ∷ xs) (statements_are cs)

  clauses_are : (cs : List SubClause) → map native_clause (map (λ c. c.0) cs) ≡ map clause_folded (map (λ c. c.0) cs)
  clauses_are [] = refl
  clauses_are (c ∷ cs) = ap (λ x. x ∷ map native_clause (map (λ c'. c'.0) cs)) c.1 ∙ ap (λ xs. clause_folded c.0 ∷ xs) (clauses_are cs)

  abbrev bare : Stmt-F Sub SubClause → Stmt-F Stmt Clause
  bare y = map-Stmt Sub SubClause Stmt Clause (λ c. c.0) (λ c. c.0) y

  statement_is : (y : Stmt-F Sub SubClause) → native_statement (roll-Stmt (bare y)) ≡ step (map-Stmt Stmt Clause A A' statement_folded clause_folded (bare y))
  unfolding shape-the_row-Stmt-0 hidden-the_row-Stmt-0 shape-the_row-Stmt-1 hidden-the_row-Stmt-1 shape-the_row-Clause-2 hidden-the_row-Clause-2 hidden
  statement_is Stmt-F.Empty = ap native_statement rolls-Empty
  statement_is (Stmt-F.Value e) = ap native_statement (rolls-Value e)
  statement_is (Stmt-F.Declare locals) = ap native_statement (rolls-Declare locals)
  statement_is (Stmt-F.Block cs) = ap native_statement (rolls-Block (map (λ c. c.0) cs)) ∙ ap (λ xs. step (Stmt-F.Block xs)) (statements_items {m = _} (hidden-the_row-Stmt-0 (map (λ c. c.0) cs)) ∙ ap (map native_statement) (items_hidden-the_row-Stmt-0 (map (λ c. c.0) cs)) ∙ statements_are cs)
  statement_is (Stmt-F.If t a None) = ap native_statement (rolls-If t a.0 None) ∙ ap (λ x. step (Stmt-F.If t x None)) a.1
  statement_is (Stmt-F.If t a (Some b)) = ap native_statement (rolls-If t a.0 (Some b.0)) ∙ ap (λ x. step (Stmt-F.If t x (Some (native_statement b.0)))) a.1 ∙ ap (λ x. step (Stmt-F.If t (statement_folded a.0) (Some x))) b.1
  statement_is (Stmt-F.While t b) = ap native_statement (rolls-While t b.0) ∙ ap (λ x. step (Stmt-F.While t x)) b.1
  statement_is (Stmt-F.Do b t) = ap native_statement (rolls-Do b.0 t) ∙ ap (λ x. step (Stmt-F.Do x t)) b.1
  statement_is (Stmt-F.For f t n b) = ap native_statement (rolls-For f.0 t n b.0) ∙ ap (λ x. step (Stmt-F.For x t n (native_statement b.0))) f.1 ∙ ap (λ x. step (Stmt-F.For (statement_folded f.0) t n x)) b.1
  statement_is (Stmt-F.Switch t cs) = ap native_statement (rolls-Switch t (map (λ c. c.0) cs)) ∙ ap (λ xs. step (Stmt-F.Switch t xs)) (clauses_items {m = _} (hidden-the_row-Clause-2 (map (λ c. c.0) cs)) ∙ ap (map native_clause) (items_hidden-the_row-Clause-2 (map (λ c. c.0) cs)) ∙ clauses_are cs)
  statement_is (Stmt-F.Break at) = ap native_statement (rolls-Break at)
  statement_is (Stmt-F.Continue at) = ap native_statement (rolls-Continue at)
  statement_is (Stmt-F.Return e at) = ap native_statement (rolls-Return e at)

  clause_is : (y : Clause-F Sub SubClause) → native_clause (roll-Clause (map-Clause Sub SubClause Stmt Clause (λ c. c.0) (λ c. c.0) y)) ≡ step' (map-Clause Stmt Clause A A' statement_folded clause_folded (map-Clause Sub SubClause Stmt Clause (λ c. c.0) (λ c. c.0) y))
  clause_is y = ap (λ cs. step' (record { labels = y.labels; body = cs })) (statements_are y.body)

  pub native_statement_is : (c : Stmt) → native_statement c ≡ fold-Stmt A A' step step' c
  native_statement_is = ind-Stmt (λ c. native_statement c ≡ statement_folded c) (λ c. native_clause c ≡ clause_folded c)
      (λ x y is. subst (λ z. native_statement (roll-Stmt z) ≡ statement_folded (roll-Stmt z)) is (statement_is y ∙ sym (fold-roll-Stmt A A' step step' (bare y))))
      (λ x y is. subst (λ z. native_clause (roll-Clause z) ≡ clause_folded (roll-Clause z)) is (clause_is y ∙ sym (fold-roll-Clause A A' step step' (map-Clause Sub SubClause Stmt Clause (λ c. c.0) (λ c. c.0) y))))
