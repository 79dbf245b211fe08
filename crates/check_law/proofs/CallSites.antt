-- The names of the calls in the order of the walk are the names that a body calls.
use Rattle.std.proofs.Common.{◌≡◌, ℕ, Bool, true, false, not, List, [], ◌∷◌, ◌++◌, map, find, flat_map, Option, Some, None, refl, ap, ◌∙◌, subst}
use Rattle.std.proofs.lemmas.List.{map-append}
use Rattle.c_syntax.specs.declared.tree.Expr.{Expr, roll-Expr, map-Expr, ind-Expr, fold-roll-Expr}
use Rattle.c_syntax.specs.declared.tree.Expr.TheOpen.{Expr-F}
use Rattle.c_syntax.specs.declared.tree.Local.{Local}
use Rattle.c_syntax.specs.declared.tree.Label.{Label}
use Rattle.c_syntax.specs.declared.tree.Label.TheVariants as label
use Rattle.c_syntax.specs.declared.tree.Clause.{Clause, roll-Clause, map-Clause, fold-Clause, fold-roll-Clause}
use Rattle.c_syntax.specs.declared.tree.Stmt.{Stmt, roll-Stmt, map-Stmt, ind-Stmt, fold-roll-Stmt}
use Rattle.c_syntax.specs.declared.tree.Stmt.TheOpen.{Stmt-F, Clause-F}
use Rattle.c_syntax.specs.declared.tree.Function.{Function}
use Rattle.c_syntax.specs.Shaped.{each}
use Rattle.c_syntax.specs.Graph as graph
use Rattle.check_rules.specs.Limits.{CallSite, joined, of_option, calls_step, expression_calls, local_calls, label_calls, statement_calls_step, clause_calls_step, statement_calls, body_calls}

abbrev named : List CallSite → List ℕ
named = map (λ c. c.name)

both_named : (a b : List CallSite) (x y : List ℕ) → named a ≡ x → named b ≡ y → named (a ++ b) ≡ x ++ y
both_named a b x y p q = map-append (λ c. c.name) a b ∙ ap (λ l. l ++ named b) p ∙ ap (λ l. x ++ l) q

-- lists of parts
all_named : {A : Type 0} (sites : A → List CallSite) (calls : A → List ℕ) → ((a : A) → named (sites a) ≡ calls a) → (xs : List A) → named (joined (map sites xs)) ≡ flat_map calls xs
all_named sites calls same [] = refl
all_named sites calls same (a ∷ xs) = both_named (sites a) (joined (map sites xs)) (calls a) (flat_map calls xs) (same a) (all_named sites calls same xs)

flat_map_map : {A B : Type 0} (f : A → List B) (xs : List A) → flat_map (λ l. l) (map f xs) ≡ flat_map f xs
flat_map_map f [] = refl
flat_map_map f (x ∷ xs) = ap (λ l. f x ++ l) (flat_map_map f xs)

-- the same where each part carries the fact
parts_named : {A : Type 0} (sites : A → List CallSite) (calls : A → List ℕ) → (xs : List ((a : A) × (named (sites a) ≡ calls a))) → named (joined (map sites (map (λ x. x.0) xs))) ≡ flat_map (λ l. l) (map calls (map (λ x. x.0) xs))
parts_named sites calls [] = refl
parts_named sites calls (x ∷ xs) = both_named (sites x.0) (joined (map sites (map (λ x. x.0) xs))) (calls x.0) (flat_map (λ l. l) (map calls (map (λ x. x.0) xs))) x.1 (parts_named sites calls xs)

-- ---- expressions

abbrev Part : Type 0
Part = (e : Expr) × (named (expression_calls e) ≡ graph.expression_calls e)

abbrev bare : Expr-F Part → Expr-F Expr
bare y = map-Expr Part Expr (λ e. e.0) y

abbrev s : Expr → List CallSite
s = expression_calls

abbrev g : Expr → List ℕ
g = graph.expression_calls

each_named : (y : Expr-F Part) → named (calls_step (map-Expr Expr (List CallSite) expression_calls (bare y))) ≡ graph.expression_calls_step (map-Expr Expr (List ℕ) graph.expression_calls (bare y))
each_named (Expr-F.Literal word u at) = refl
each_named (Expr-F.Name name at) = refl
each_named (Expr-F.Index name i at) = i.1
each_named (Expr-F.Call name args at) = ap (λ l. name ∷ l) (parts_named expression_calls graph.expression_calls args)
each_named (Expr-F.Unary op e at) = e.1
each_named (Expr-F.Binary op l r at) = both_named (s l.0) (s r.0) (g l.0) (g r.0) l.1 r.1
each_named (Expr-F.Logic is_and l r at) = both_named (s l.0) (s r.0) (g l.0) (g r.0) l.1 r.1
each_named (Expr-F.Choose t a b at) = both_named (s t.0) (s a.0 ++ s b.0) (g t.0) (g a.0 ++ g b.0) t.1 (both_named (s a.0) (s b.0) (g a.0) (g b.0) a.1 b.1) ∙ regrouped (g t.0) (g a.0) (g b.0)
  where
    regrouped : (a b c : List ℕ) → a ++ (b ++ c) ≡ a ++ b ++ c
    regrouped [] b c = refl
    regrouped (x ∷ a) b c = ap (λ l. x ∷ l) (regrouped a b c)
each_named (Expr-F.Assign op p v at) = both_named (s p.0) (s v.0) (g p.0) (g v.0) p.1 v.1
each_named (Expr-F.Bump up before p at) = p.1
each_named (Expr-F.Comma l r at) = both_named (s l.0) (s r.0) (g l.0) (g r.0) l.1 r.1
each_named (Expr-F.Paren e at) = e.1

pub expression_named : (e : Expr) → named (expression_calls e) ≡ graph.expression_calls e
expression_named = ind-Expr (λ e. named (expression_calls e) ≡ graph.expression_calls e) (λ x y is. subst (λ z. named (expression_calls (roll-Expr z)) ≡ graph.expression_calls (roll-Expr z)) is (rw (fold-roll-Expr (List CallSite) calls_step (bare y), fold-roll-Expr (List ℕ) graph.expression_calls_step (bare y)) (each_named y)))

option_named : (o : Option Expr) → named (of_option expression_calls o) ≡ graph.or_none graph.expression_calls o
option_named None = refl
option_named (Some e) = expression_named e

local_named : (d : Local) → named (local_calls d) ≡ graph.local_calls d
local_named d = option_named d.first

label_named : (l : Label) → named (label_calls l) ≡ graph.label_calls l
label_named (label.Case e at) = expression_named e
label_named (label.Otherwise at) = refl

-- ---- statements

abbrev StatementPart : Type 0
StatementPart = (c : Stmt) × (named (statement_calls c) ≡ graph.statement_calls c)

abbrev clause_sites : Clause → List CallSite
clause_sites = fold-Clause (List CallSite) (List CallSite) statement_calls_step clause_calls_step

abbrev ClausePart : Type 0
ClausePart = (c : Clause) × (named (clause_sites c) ≡ graph.clause_calls c)

abbrev bare_statement : Stmt-F StatementPart ClausePart → Stmt-F Stmt Clause
bare_statement y = map-Stmt StatementPart ClausePart Stmt Clause (λ c. c.0) (λ c. c.0) y

abbrev bare_clause : Clause-F StatementPart ClausePart → Clause-F Stmt Clause
bare_clause y = map-Clause StatementPart ClausePart Stmt Clause (λ c. c.0) (λ c. c.0) y

abbrev ss : Stmt → List CallSite
ss = statement_calls

abbrev gs : Stmt → List ℕ
gs = graph.statement_calls

abbrev so : Option Expr → List CallSite
so = of_option expression_calls

abbrev go : Option Expr → List ℕ
go = graph.or_none graph.expression_calls

append_right : (a b c : List ℕ) → a ++ (b ++ c) ≡ a ++ b ++ c
append_right [] b c = refl
append_right (x ∷ a) b c = ap (λ l. x ∷ l) (append_right a b c)

each_statement : (y : Stmt-F StatementPart ClausePart) → named (statement_calls_step (map-Stmt Stmt Clause (List CallSite) (List CallSite) statement_calls clause_sites (bare_statement y))) ≡ graph.statement_calls_step (map-Stmt Stmt Clause (List ℕ) (List ℕ) graph.statement_calls graph.clause_calls (bare_statement y))
each_statement Stmt-F.Empty = refl
each_statement (Stmt-F.Value e) = expression_named e
each_statement (Stmt-F.Declare ds) = all_named local_calls graph.local_calls local_named ds
each_statement (Stmt-F.Block cs) = parts_named statement_calls graph.statement_calls cs
each_statement (Stmt-F.If t a None) = both_named (s t) (ss a.0 ++ []) (g t) (gs a.0 ++ []) (expression_named t) (both_named (ss a.0) [] (gs a.0) [] a.1 refl) ∙ append_right (g t) (gs a.0) []
each_statement (Stmt-F.If t a (Some b)) = both_named (s t) (ss a.0 ++ ss b.0) (g t) (gs a.0 ++ gs b.0) (expression_named t) (both_named (ss a.0) (ss b.0) (gs a.0) (gs b.0) a.1 b.1) ∙ append_right (g t) (gs a.0) (gs b.0)
each_statement (Stmt-F.While t b) = both_named (s t) (ss b.0) (g t) (gs b.0) (expression_named t) b.1
each_statement (Stmt-F.Do b t) = both_named (ss b.0) (s t) (gs b.0) (g t) b.1 (expression_named t)
each_statement (Stmt-F.For first t next b) = both_named (ss first.0) (so t ++ (so next ++ ss b.0)) (gs first.0) (go t ++ (go next ++ gs b.0)) first.1 (both_named (so t) (so next ++ ss b.0) (go t) (go next ++ gs b.0) (option_named t) (both_named (so next) (ss b.0) (go next) (gs b.0) (option_named next) b.1))
    ∙ append_right (gs first.0) (go t) (go next ++ gs b.0) ∙ append_right (gs first.0 ++ go t) (go next) (gs b.0)
each_statement (Stmt-F.Switch t cs) = both_named (s t) (joined (map clause_sites (map (λ c. c.0) cs))) (g t) (flat_map (λ l. l) (map graph.clause_calls (map (λ c. c.0) cs))) (expression_named t) (parts_named clause_sites graph.clause_calls cs)
each_statement (Stmt-F.Break at) = refl
each_statement (Stmt-F.Continue at) = refl
each_statement (Stmt-F.Return e at) = option_named e

each_clause : (y : Clause-F StatementPart ClausePart) → named (clause_calls_step (map-Clause Stmt Clause (List CallSite) (List CallSite) statement_calls clause_sites (bare_clause y))) ≡ graph.clause_calls_step (map-Clause Stmt Clause (List ℕ) (List ℕ) graph.statement_calls graph.clause_calls (bare_clause y))
each_clause y = both_named (joined (map label_calls y.labels)) (joined (map statement_calls (map (λ c. c.0) y.body))) (flat_map graph.label_calls y.labels) (flat_map (λ l. l) (map graph.statement_calls (map (λ c. c.0) y.body))) (all_named label_calls graph.label_calls label_named y.labels) (parts_named statement_calls graph.statement_calls y.body)

statement_named : (c : Stmt) → named (statement_calls c) ≡ graph.statement_calls c
statement_named = ind-Stmt (λ c. named (statement_calls c) ≡ graph.statement_calls c) (λ c. named (clause_sites c) ≡ graph.clause_calls c)
    (λ x y is. subst (λ z. named (statement_calls (roll-Stmt z)) ≡ graph.statement_calls (roll-Stmt z)) is (rw (fold-roll-Stmt (List CallSite) (List CallSite) statement_calls_step clause_calls_step (bare_statement y), fold-roll-Stmt (List ℕ) (List ℕ) graph.statement_calls_step graph.clause_calls_step (bare_statement y)) (each_statement y)))
    (λ x y is. subst (λ z. named (clause_sites (roll-Clause z)) ≡ graph.clause_calls (roll-Clause z)) is (rw (fold-roll-Clause (List CallSite) (List CallSite) statement_calls_step clause_calls_step (bare_clause y), fold-roll-Clause (List ℕ) (List ℕ) graph.statement_calls_step graph.clause_calls_step (bare_clause y)) (each_clause y)))

body_named : (f : Function) → named (body_calls f) ≡ graph.body_calls f.body
body_named f = all_named statement_calls graph.statement_calls statement_named (graph.body_of f.body)

pub bodies_named : (fs : List Function) → named (flat_map body_calls fs) ≡ flat_map (λ f. graph.body_calls f.body) fs
bodies_named [] = refl
bodies_named (f ∷ fs) = both_named (body_calls f) (flat_map body_calls fs) (graph.body_calls f.body) (flat_map (λ f. graph.body_calls f.body) fs) (body_named f) (bodies_named fs)

-- ---- no call of a name that fails a test

pub all_pass : (fails : ℕ → Bool) (cs : List CallSite) → find (λ c. fails c.name) cs ≡ None → each (λ n. not (fails n)) (named cs) ≡ true
all_pass fails [] is = refl
all_pass fails (c ∷ cs) is = at (fails c.name) refl (all_pass fails cs)
  where
    at : (b : Bool) → fails c.name ≡ b → (find (λ c. fails c.name) cs ≡ None → each (λ n. not (fails n)) (named cs) ≡ true) → each (λ n. not (fails n)) (named (c ∷ cs)) ≡ true
    at true t go = let h = rw t at is in absurd cc
    at false t go = let h = rw t at is in let r = go h in rw (t, r) refl

pub none_fails : (fails : ℕ → Bool) (cs : List CallSite) → each (λ n. not (fails n)) (named cs) ≡ true → find (λ c. fails c.name) cs ≡ None
none_fails fails [] is = refl
none_fails fails (c ∷ cs) is = at (fails c.name) refl (none_fails fails cs)
  where
    at : (b : Bool) → fails c.name ≡ b → (each (λ n. not (fails n)) (named cs) ≡ true → find (λ c. fails c.name) cs ≡ None) → find (λ c. fails c.name) (c ∷ cs) ≡ None
    at true t go = let h = rw t at is in absurd cc
    at false t go = let h = rw t at is in let r = go h in rw (t, r) refl
