-- Lists of declarators, of statements and of clauses, an element at a time.
use Rattle.std.proofs.Common.{◌≡◌, ℕ, zero, suc, ◌+◌, ◌<◌, ◌≤◌, List, [], ◌∷◌, ◌++◌, map, sum, length, get_or, drop, drop-cons, sym, ap, ◌∙◌, append_assoc, arith}
use Rattle.std.proofs.lemmas.Grind.{common_steps}
use Rattle.c_syntax.specs.declared.tree.Stmt.{Stmt}
use Rattle.c_syntax.specs.declared.tree.Clause.{Clause, fold-roll-Clause}
use Rattle.c_syntax.specs.Sizes.{statement_nodes, statement_nodes_step, label_nodes, clause_nodes, clause_nodes_step}
use Rattle.mid_blocks.specs.declared.code.MidEnd.TheVariants.{Jump}
use Rattle.mid_blocks.specs.Lines.{Line, End}
use Rattle.lower_rules.specs.Bindings.{Bindings}
use Rattle.lower_rules.specs.Statements.{Context, LowStmt, LowClause, low_statement, low_statement_step, low_clause, low_clause_step, list_blocks, list_lines, clauses_blocks, clauses_lines}

next_place : (i : ℕ) → suc i ≡ i + 1
next_place i = omega arith

pub one_more : {A : Type 0} (xs : List A) (i : ℕ) (x : A) → i < length xs → x ≡ get_or xs i x → drop i xs ≡ x ∷ drop (i + 1) xs
one_more {A} xs i x h e =
    drop-cons xs i x h ∙ ap (λ (y : A). y ∷ drop (suc i) xs) (sym e) ∙ ap (λ (n : ℕ). x ∷ drop n xs) (next_place i)

sum_more : (n : ℕ) (ns : List ℕ) → sum (n ∷ ns) ≡ n + sum ns
sum_more n ns = grind (arith, common_steps)

-- what an element adds is at most what all add
pub item_most : {A : Type 0} (f : A → ℕ) (xs : List A) (i : ℕ) (x : A) → i < length xs → x ≡ get_or xs i x → f x ≤ sum (map f xs)
item_most f [] i x l e = absurd (omega arith)
item_most f (y ∷ ys) zero x l e = let h : f x ≡ f y = ap f e in omega (arith, sum_more (f y) (map f ys))
item_most f (y ∷ ys) (suc i) x l e = let h : f x ≤ sum (map f ys) = item_most f ys i x (omega arith) e in omega (arith, sum_more (f y) (map f ys))

-- ---- declarators and statements

pub next_blocks : {A : Type 0} (f : A → LowStmt) (xs : List A) (i : ℕ) (x : A) → i < length xs → x ≡ get_or xs i x →
    list_blocks (map f (drop i xs)) ≡ (f x).blocks + list_blocks (map f (drop (i + 1) xs))
next_blocks {A} f xs i x h e = ap (λ (ys : List A). list_blocks (map f ys)) (one_more xs i x h e)

pub next_lines : {A : Type 0} (f : A → LowStmt) (w w' : List Line) (xs : List A) (i : ℕ) (x : A) (to : Context) (b b' : ℕ) → i < length xs → x ≡ get_or xs i x →
    w' ≡ w ++ (f x).lines to b → b' ≡ b + (f x).blocks →
    w' ++ list_lines (map f (drop (i + 1) xs)) to b' ≡ w ++ list_lines (map f (drop i xs)) to b
next_lines {A} f w w' xs i x to b b' h e p q =
    ap (λ (z : List Line). z ++ list_lines (map f (drop (i + 1) xs)) to b') p
    ∙ append_assoc w ((f x).lines to b) (list_lines (map f (drop (i + 1) xs)) to b')
    ∙ ap (λ (z : ℕ). w ++ ((f x).lines to b ++ list_lines (map f (drop (i + 1) xs)) to z)) q
    ∙ sym (ap (λ (ys : List A). w ++ list_lines (map f ys) to b) (one_more xs i x h e))

-- ---- clauses

clause_lowered : (names : Bindings) (x : Clause) → low_clause names x ≡ low_clause_step (record { labels = x.labels; body = map (low_statement names) x.body })
clause_lowered names x = fold-roll-Clause LowStmt LowClause (low_statement_step names) low_clause_step (record { labels = x.labels; body = x.body })

pub clause_blocks : (names : Bindings) (x : Clause) (body : List Stmt) → body ≡ x.body → (low_clause names x).body.blocks ≡ list_blocks (map (low_statement names) body)
clause_blocks names x body e =
    ap (λ (c : LowClause). c.body.blocks) (clause_lowered names x) ∙ sym (ap (λ (ys : List Stmt). list_blocks (map (low_statement names) ys)) e)

pub clause_lines : (names : Bindings) (x : Clause) (body : List Stmt) (to : Context) (at : ℕ) → body ≡ x.body →
    (low_clause names x).body.lines to at ≡ list_lines (map (low_statement names) body) to at
clause_lines names x body to at e =
    ap (λ (c : LowClause). c.body.lines to at) (clause_lowered names x) ∙ sym (ap (λ (ys : List Stmt). list_lines (map (low_statement names) ys) to at) e)

pub clause_most : (x : Clause) (body : List Stmt) → body ≡ x.body → sum (map statement_nodes body) ≤ clause_nodes x
clause_most x body e =
    by (sum (map statement_nodes body)) (sum (map statement_nodes x.body)) (sum (map label_nodes x.labels)) (clause_nodes x) (ap (λ (ys : List Stmt). sum (map statement_nodes ys)) e)
    (fold-roll-Clause ℕ ℕ statement_nodes_step clause_nodes_step (record { labels = x.labels; body = x.body }))
  where
    by : (a b n c : ℕ) → a ≡ b → c ≡ n + b → a ≤ c
    by a b n c h k = omega arith

pub next_clause_blocks : {A : Type 0} (f : A → LowClause) (xs : List A) (i : ℕ) (x : A) → i < length xs → x ≡ get_or xs i x →
    clauses_blocks (map f (drop i xs)) ≡ (f x).body.blocks + 1 + clauses_blocks (map f (drop (i + 1) xs))
next_clause_blocks {A} f xs i x h e = ap (λ (ys : List A). clauses_blocks (map f ys)) (one_more xs i x h e)

pub next_clause_lines : {A : Type 0} (f : A → LowClause) (w v w' : List Line) (xs : List A) (i : ℕ) (x : A) (to : Context) (at at' : ℕ) → i < length xs → x ≡ get_or xs i x →
    v ≡ w ++ (f x).body.lines to at → w' ≡ v ++ End (Jump at') ∷ [] → at' ≡ at + (f x).body.blocks + 1 →
    w' ++ clauses_lines (map f (drop (i + 1) xs)) to at' ≡ w ++ clauses_lines (map f (drop i xs)) to at
next_clause_lines {A} f w v w' xs i x to at at' h e p r q =
    ap (λ (z : List Line). z ++ clauses_lines (map f (drop (i + 1) xs)) to at') r
    ∙ append_assoc v (End (Jump at') ∷ []) (clauses_lines (map f (drop (i + 1) xs)) to at')
    ∙ ap (λ (z : List Line). z ++ (End (Jump at') ∷ clauses_lines (map f (drop (i + 1) xs)) to at')) p
    ∙ append_assoc w ((f x).body.lines to at) (End (Jump at') ∷ clauses_lines (map f (drop (i + 1) xs)) to at')
    ∙ ap (λ (z : ℕ). w ++ ((f x).body.lines to at ++ (End (Jump z) ∷ clauses_lines (map f (drop (i + 1) xs)) to z))) q
    ∙ sym (ap (λ (ys : List A). w ++ clauses_lines (map f ys) to at) (one_more xs i x h e))
