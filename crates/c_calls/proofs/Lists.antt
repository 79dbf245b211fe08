-- The names that an expression and a statement call, at each constructor with parts, and lists of them that are added one after another.
use Rattle.std.proofs.Common.{◌≡◌, ℕ, Bool, List, ◌∷◌, ◌++◌, Option, Some, None, ◌⊎◌, inl, inr, sym, ap, ◌∙◌, append_assoc}
use Rattle.std.specs.List.{flat_map}
use Rattle.std.proofs.lemmas.List.Folds.{flat_map-map}
use Rattle.c_syntax.specs.declared.tree.BinaryOp.{BinaryOp}
use Rattle.c_syntax.specs.declared.tree.Expr.{Expr, Call, Binary, Logic, Choose, Assign, Comma, fold-roll-Expr}
use Rattle.c_syntax.specs.declared.tree.Expr.TheOpen.{Expr-F}
use Rattle.c_syntax.specs.declared.tree.Expr.TheVariants.{rolls-Call, rolls-Binary, rolls-Logic, rolls-Choose, rolls-Assign, rolls-Comma}
use Rattle.c_syntax.specs.declared.tree.Label.{Label}
use Rattle.c_syntax.specs.declared.tree.Clause.{Clause, fold-roll-Clause}
use Rattle.c_syntax.specs.declared.tree.Stmt.{Stmt, fold-roll-Stmt}
use Rattle.c_syntax.specs.declared.tree.Stmt as stmt
use Rattle.c_syntax.specs.declared.tree.Stmt.TheOpen.{Stmt-F}
use Rattle.c_syntax.specs.declared.tree.Stmt.TheVariants.{rolls-Block, rolls-If, rolls-While, rolls-Do, rolls-For, rolls-Switch}
use Rattle.c_syntax.specs.Graph.{or_none, expression_calls_step, expression_calls, label_calls, statement_calls_step, clause_calls_step, statement_calls, clause_calls}

-- ---- lists added one after another

pub after_two : (old mid new a b whole : List ℕ) → mid ≡ old ++ a → new ≡ mid ++ b → whole ≡ a ++ b → new ≡ old ++ whole
after_two old mid new a b whole p q r = q ∙ ap (λ m. m ++ b) p ∙ append_assoc old a b ∙ ap (λ w. old ++ w) (sym r)

-- ---- expressions

pub calls-Call : (name : ℕ) (args : List Expr) (at : ℕ) → expression_calls (Call name args at) ≡ name ∷ flat_map expression_calls args
calls-Call name args at =
    ap expression_calls (sym (rolls-Call name args at)) ∙ fold-roll-Expr (List ℕ) expression_calls_step (Expr-F.Call name args at)
    ∙ ap (λ l. name ∷ l) (flat_map-map (λ l. l) expression_calls args)

pub calls-Binary : (op : BinaryOp) (left : Expr) (right : Expr) (at : ℕ) → expression_calls (Binary op left right at) ≡ expression_calls left ++ expression_calls right
calls-Binary op left right at = ap expression_calls (sym (rolls-Binary op left right at)) ∙ fold-roll-Expr (List ℕ) expression_calls_step (Expr-F.Binary op left right at)

pub calls-Logic : (is_and : Bool) (left : Expr) (right : Expr) (at : ℕ) → expression_calls (Logic is_and left right at) ≡ expression_calls left ++ expression_calls right
calls-Logic is_and left right at = ap expression_calls (sym (rolls-Logic is_and left right at)) ∙ fold-roll-Expr (List ℕ) expression_calls_step (Expr-F.Logic is_and left right at)

pub calls-Assign : (op : Option BinaryOp) (left : Expr) (right : Expr) (at : ℕ) → expression_calls (Assign op left right at) ≡ expression_calls left ++ expression_calls right
calls-Assign op left right at = ap expression_calls (sym (rolls-Assign op left right at)) ∙ fold-roll-Expr (List ℕ) expression_calls_step (Expr-F.Assign op left right at)

pub calls-Comma : (left : Expr) (right : Expr) (at : ℕ) → expression_calls (Comma left right at) ≡ expression_calls left ++ expression_calls right
calls-Comma left right at = ap expression_calls (sym (rolls-Comma left right at)) ∙ fold-roll-Expr (List ℕ) expression_calls_step (Expr-F.Comma left right at)

pub calls-Choose : (test : Expr) (a : Expr) (b : Expr) (at : ℕ) → expression_calls (Choose test a b at) ≡ expression_calls test ++ expression_calls a ++ expression_calls b
calls-Choose test a b at = ap expression_calls (sym (rolls-Choose test a b at)) ∙ fold-roll-Expr (List ℕ) expression_calls_step (Expr-F.Choose test a b at)

-- the operators with two operands that are evaluated in order
pub calls_of_two : (e left right : Expr) →
    ((op : BinaryOp) × (at : ℕ) × (e ≡ Binary op left right at)) ⊎ (((is_and : Bool) × (at : ℕ) × (e ≡ Logic is_and left right at)) ⊎ (((at : ℕ) × (e ≡ Comma left right at)) ⊎ ((op : Option BinaryOp) × (at : ℕ) × (e ≡ Assign op left right at)))) →
    expression_calls e ≡ expression_calls left ++ expression_calls right
calls_of_two e left right (inl h) = ap expression_calls h.2 ∙ calls-Binary h.0 left right h.1
calls_of_two e left right (inr (inl h)) = ap expression_calls h.2 ∙ calls-Logic h.0 left right h.1
calls_of_two e left right (inr (inr (inl h))) = ap expression_calls h.1 ∙ calls-Comma left right h.0
calls_of_two e left right (inr (inr (inr h))) = ap expression_calls h.2 ∙ calls-Assign h.0 left right h.1

-- ---- statements

pub calls-Block : (body : List Stmt) → statement_calls (stmt.Block body) ≡ flat_map statement_calls body
calls-Block body = ap statement_calls (sym (rolls-Block body)) ∙ fold-roll-Stmt (List ℕ) (List ℕ) statement_calls_step clause_calls_step (Stmt-F.Block body)
    ∙ flat_map-map (λ l. l) statement_calls body

pub calls-If : (test : Expr) (a : Stmt) (b : Option Stmt) → statement_calls (stmt.If test a b) ≡ expression_calls test ++ statement_calls a ++ or_none statement_calls b
calls-If test a None = ap statement_calls (sym (rolls-If test a None)) ∙ fold-roll-Stmt (List ℕ) (List ℕ) statement_calls_step clause_calls_step (Stmt-F.If test a None)
calls-If test a (Some b) = ap statement_calls (sym (rolls-If test a (Some b))) ∙ fold-roll-Stmt (List ℕ) (List ℕ) statement_calls_step clause_calls_step (Stmt-F.If test a (Some b))

pub calls-While : (test : Expr) (body : Stmt) → statement_calls (stmt.While test body) ≡ expression_calls test ++ statement_calls body
calls-While test body = ap statement_calls (sym (rolls-While test body)) ∙ fold-roll-Stmt (List ℕ) (List ℕ) statement_calls_step clause_calls_step (Stmt-F.While test body)

pub calls-Do : (body : Stmt) (test : Expr) → statement_calls (stmt.Do body test) ≡ statement_calls body ++ expression_calls test
calls-Do body test = ap statement_calls (sym (rolls-Do body test)) ∙ fold-roll-Stmt (List ℕ) (List ℕ) statement_calls_step clause_calls_step (Stmt-F.Do body test)

pub calls-For : (first : Stmt) (test : Option Expr) (next : Option Expr) (body : Stmt) → statement_calls (stmt.For first test next body) ≡ statement_calls first ++ or_none expression_calls test ++ or_none expression_calls next ++ statement_calls body
calls-For first test next body = ap statement_calls (sym (rolls-For first test next body)) ∙ fold-roll-Stmt (List ℕ) (List ℕ) statement_calls_step clause_calls_step (Stmt-F.For first test next body)

pub calls-Switch : (test : Expr) (clauses : List Clause) → statement_calls (stmt.Switch test clauses) ≡ expression_calls test ++ flat_map clause_calls clauses
calls-Switch test clauses = ap statement_calls (sym (rolls-Switch test clauses)) ∙ fold-roll-Stmt (List ℕ) (List ℕ) statement_calls_step clause_calls_step (Stmt-F.Switch test clauses)
    ∙ ap (λ l. expression_calls test ++ l) (flat_map-map (λ l. l) clause_calls clauses)

pub calls-Clause : (labels : List Label) (body : List Stmt) → clause_calls (record { labels = labels; body = body }) ≡ flat_map label_calls labels ++ flat_map statement_calls body
calls-Clause labels body =
    fold-roll-Clause (List ℕ) (List ℕ) statement_calls_step clause_calls_step (record { labels = labels; body = body })
    ∙ ap (λ l. flat_map label_calls labels ++ l) (flat_map-map (λ l. l) statement_calls body)
