-- The first call of a function without body in lists of calls, and the calls of an expression and of a statement at each constructor with parts.
use Rattle.std.proofs.Common.{◌≡◌, ℕ, ◌+◌, ◌<◌, Bool, true, false, List, [], ◌∷◌, ◌++◌, map, take, length, get_or, Option, Some, None, ◌⊎◌, inl, inr, refl, sym, ap, ◌∙◌, append-nil, if◌then◌else◌}
use Rattle.std.specs.List.{flat_map, filter}
use Rattle.std.specs.Option.{option_or}
use Rattle.std.proofs.lemmas.List.{take_more, map-append}
use Rattle.std.proofs.lemmas.List.Concat.{flat_map-append}
use Rattle.std.proofs.lemmas.List.Elements.{filter-append}
use Rattle.c_syntax.specs.declared.tree.BinaryOp.{BinaryOp}
use Rattle.c_syntax.specs.declared.tree.Expr.{Expr, Call, Binary, Logic, Choose, Assign, Comma}
use Rattle.c_syntax.specs.declared.tree.Clause.{Clause}
use Rattle.c_syntax.specs.declared.tree.Stmt.{Stmt}
use Rattle.c_syntax.specs.declared.tree.Stmt as stmt
use Rattle.c_syntax.specs.declared.tree.TopItem.{TopItem}
use Rattle.c_syntax.specs.Graph.{functions, functions_of, has_body}
use Rattle.check_rules.specs.Limits.{CallSite, joined, of_option, calls_step, expression_calls, label_calls, statement_calls_step, clause_calls_step, statement_calls, body_calls, bodies}
use Rattle.check_rules.proofs.Views.{at-Call, at-Binary, at-Logic, at-Choose, at-Assign, at-Comma, on-Block, on-If, on-While, on-Do, on-For, on-Switch, on-clause}
use Rattle.check_limits.specs.Tables.{lacks, first_lacking, clause_calls}

-- ---- lists

one_more : (b : Bool) (at : ℕ) (l m r : Option ℕ) → l ≡ option_or m r → (if b then Some at else l) ≡ option_or (if b then Some at else m) r
one_more true at l m r e = refl
one_more false at l m r e = e

pub lacking_append : (w : List ℕ) (xs ys : List CallSite) → first_lacking w (xs ++ ys) ≡ option_or (first_lacking w xs) (first_lacking w ys)
lacking_append w [] ys = refl
lacking_append w (c ∷ cs) ys = one_more (lacks w c.name) c.at (first_lacking w (cs ++ ys)) (first_lacking w cs) (first_lacking w ys) (lacking_append w cs ys)

-- of two parts
pub first_of : (w : List ℕ) (l r o : Option ℕ) (xs ys zs : List CallSite) → l ≡ first_lacking w xs → r ≡ first_lacking w ys → o ≡ option_or l r → zs ≡ xs ++ ys → o ≡ first_lacking w zs
first_of w l r o xs ys zs p q h e = h ∙ ap (λ a. option_or a r) p ∙ ap (option_or (first_lacking w xs)) q ∙ sym (lacking_append w xs ys) ∙ ap (first_lacking w) (sym e)

-- of one more in a list
joined_more : {A : Type 0} (f : A → List CallSite) (all : List A) (i : ℕ) (a : A) → i < length all → a ≡ get_or all i a → joined (map f (take (i + 1) all)) ≡ joined (map f (take i all)) ++ f a
joined_more f all i a lt is =
    ap (λ l. joined (map f l)) (take_more all i a lt ∙ ap (λ x. take i all ++ x ∷ []) (sym is)) ∙ ap joined (map-append f (take i all) (a ∷ []))
    ∙ flat_map-append (λ l. l) (map f (take i all)) (f a ∷ []) ∙ ap (λ l. joined (map f (take i all)) ++ l) (append-nil (f a))

pub first_more : {A : Type 0} (w : List ℕ) (f : A → List CallSite) (all : List A) (i : ℕ) (a : A) (l r o : Option ℕ) → i < length all → a ≡ get_or all i a →
    l ≡ first_lacking w (joined (map f (take i all))) → r ≡ first_lacking w (f a) → o ≡ option_or l r → o ≡ first_lacking w (joined (map f (take (i + 1) all)))
first_more w f all i a l r o lt is p q h = first_of w l r o (joined (map f (take i all))) (f a) (joined (map f (take (i + 1) all))) p q h (joined_more f all i a lt is)

bodies_append : (xs ys : List TopItem) → bodies (xs ++ ys) ≡ bodies xs ++ bodies ys
bodies_append xs ys = ap (filter (λ f. has_body f.body)) (flat_map-append functions_of xs ys) ∙ filter-append (λ f. has_body f.body) (functions xs) (functions ys)

pub bodies_more : (all : List TopItem) (i : ℕ) (a : TopItem) → i < length all → a ≡ get_or all i a → bodies (take (i + 1) all) ≡ bodies (take i all) ++ bodies (a ∷ [])
bodies_more all i a lt is = ap bodies (take_more all i a lt ∙ ap (λ x. take i all ++ x ∷ []) (sym is)) ∙ bodies_append (take i all) (a ∷ [])

pub body_calls_more : (all : List TopItem) (i : ℕ) (a : TopItem) → i < length all → a ≡ get_or all i a →
    flat_map body_calls (bodies (take (i + 1) all)) ≡ flat_map body_calls (bodies (take i all)) ++ flat_map body_calls (bodies (a ∷ []))
body_calls_more all i a lt is = ap (flat_map body_calls) (bodies_more all i a lt is) ∙ flat_map-append body_calls (bodies (take i all)) (bodies (a ∷ []))

-- ---- expressions

abbrev Sites : Type 0
Sites = List CallSite

pub calls-Call : (name : ℕ) (args : List Expr) (at : ℕ) → expression_calls (Call name args at) ≡ (record { name = name; at = at } ∷ []) ++ joined (map expression_calls args)
calls-Call name args at = at-Call Sites calls_step name args at

pub calls-Choose : (test a b : Expr) (at : ℕ) → expression_calls (Choose test a b at) ≡ expression_calls test ++ (expression_calls a ++ expression_calls b)
calls-Choose test a b at = at-Choose Sites calls_step test a b at

-- the operators with two operands that are evaluated in order
pub calls_of_two : (e left right : Expr) →
    ((op : BinaryOp) × (at : ℕ) × (e ≡ Binary op left right at)) ⊎ (((is_and : Bool) × (at : ℕ) × (e ≡ Logic is_and left right at)) ⊎ (((at : ℕ) × (e ≡ Comma left right at)) ⊎ ((op : Option BinaryOp) × (at : ℕ) × (e ≡ Assign op left right at)))) →
    expression_calls e ≡ expression_calls left ++ expression_calls right
calls_of_two e left right (inl h) = ap expression_calls h.2 ∙ at-Binary Sites calls_step h.0 left right h.1
calls_of_two e left right (inr (inl h)) = ap expression_calls h.2 ∙ at-Logic Sites calls_step h.0 left right h.1
calls_of_two e left right (inr (inr (inl h))) = ap expression_calls h.1 ∙ at-Comma Sites calls_step left right h.0
calls_of_two e left right (inr (inr (inr h))) = ap expression_calls h.2 ∙ at-Assign Sites calls_step h.0 left right h.1

-- ---- statements

pub calls-Block : (body : List Stmt) → statement_calls (stmt.Block body) ≡ joined (map statement_calls body)
calls-Block body = on-Block Sites Sites statement_calls_step clause_calls_step body

pub calls-If : (test : Expr) (a : Stmt) (b : Option Stmt) → statement_calls (stmt.If test a b) ≡ expression_calls test ++ (statement_calls a ++ of_option statement_calls b)
calls-If test a None = on-If Sites Sites statement_calls_step clause_calls_step test a None
calls-If test a (Some b) = on-If Sites Sites statement_calls_step clause_calls_step test a (Some b)

pub calls-While : (test : Expr) (body : Stmt) → statement_calls (stmt.While test body) ≡ expression_calls test ++ statement_calls body
calls-While test body = on-While Sites Sites statement_calls_step clause_calls_step test body

pub calls-Do : (body : Stmt) (test : Expr) → statement_calls (stmt.Do body test) ≡ statement_calls body ++ expression_calls test
calls-Do body test = on-Do Sites Sites statement_calls_step clause_calls_step body test

pub calls-For : (first : Stmt) (test next : Option Expr) (body : Stmt) → statement_calls (stmt.For first test next body) ≡ statement_calls first ++ (of_option expression_calls test ++ (of_option expression_calls next ++ statement_calls body))
calls-For first test next body = on-For Sites Sites statement_calls_step clause_calls_step first test next body

pub calls-Switch : (test : Expr) (clauses : List Clause) → statement_calls (stmt.Switch test clauses) ≡ expression_calls test ++ joined (map clause_calls clauses)
calls-Switch test clauses = on-Switch Sites Sites statement_calls_step clause_calls_step test clauses

pub calls-Clause : (c : Clause) → clause_calls c ≡ joined (map label_calls c.labels) ++ joined (map statement_calls c.body)
calls-Clause c = on-clause Sites Sites statement_calls_step clause_calls_step c.labels c.body
