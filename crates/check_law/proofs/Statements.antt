-- What the walk gives of a statement has as many clauses without a label as the statement.
use Rattle.std.proofs.Common.{◌≡◌, ℕ, ◌+◌, ◌||◌, List, [], ◌∷◌, map, sum, Option, Some, None, Ok, Err, refl, ap, ◌∙◌, subst}
use Rattle.c_syntax.specs.declared.tree.Expr.{Expr}
use Rattle.c_syntax.specs.declared.tree.Label.{Label}
use Rattle.c_syntax.specs.declared.tree.Clause.{Clause, roll-Clause, map-Clause, fold-roll-Clause}
use Rattle.c_syntax.specs.declared.tree.Stmt.{Stmt, roll-Stmt, map-Stmt, ind-Stmt, fold-roll-Stmt}
use Rattle.c_syntax.specs.declared.tree.Stmt as stmt
use Rattle.c_syntax.specs.declared.tree.Stmt.TheOpen.{Stmt-F, Clause-F}
use Rattle.c_syntax.specs.Sizes.{or_zero}
use Rattle.check_rules.specs.declared.error.CheckKind.TheVariants.{BreakOutside, BadReturn}
use Rattle.check_rules.specs.declared.names.Around.{Around}
use Rattle.check_rules.specs.Fault.{Walk, ◌>>=◌, require}
use Rattle.check_rules.specs.Scopes.{Walking, opened, closed}
use Rattle.check_rules.specs.Walk.{with_value, any_expression, if_there, walk_locals, looping, switching, Labels, no_labels, StatementWalk, ClauseWalk, walk_each, walk_label, walk_labels, walk_clauses, is_good_return, statement_walk_step, clause_walk_step, statement_walk, clause_walk}
use Rattle.check_law.proofs.Yields.{Yields, yields_ok, yields_err, yields_then, yields_after}
use Rattle.check_rules.proofs.Views.{on-Empty, on-Value, on-Declare, on-Block, on-If, on-While, on-Do, on-For, on-Switch, on-Break, on-Continue, on-Return, on-clause}
use Rattle.c_syntax.specs.Labels.{none_first, unlabelled_step, unlabelled_clause_step, unlabelled, unlabelled_in_clause}

-- whatever a part of the walk gives
pub yields_any : {A B : Type 0} {go : A → Walk B} {Q : B → Type 0} (m : Walk A) → ((a : A) → Yields (go a) Q) → Yields (m >>= go) Q
yields_any (Ok a) f = f a
yields_any (Err e) f = yields_err e

both_kept : {X : Type 0} (f : X → ℕ) (c' : X) (n : ℕ) (cs' : List X) (ns : List ℕ) → f c' ≡ n → map f cs' ≡ ns → map f (c' ∷ cs') ≡ n ∷ ns
both_kept f c' n cs' ns p q = ap (λ x. x ∷ map f cs') p ∙ ap (λ xs. n ∷ xs) q

-- the walk gives as many
pub record Keeps (x : StatementWalk) (n : ℕ) : Type 0 where
  pub by : (around : Around) (w : Walking) → Yields (x around w) (λ r. unlabelled r.0 ≡ n)

record KeepsClause (y : ClauseWalk) (n : ℕ) : Type 0 where
  by : (labels : Labels) (around : Around) (w : Walking) → Yields (y labels around w) (λ r. unlabelled_in_clause r.0 ≡ n)

abbrev Part : Type 0
Part = (c : Stmt) × Keeps (statement_walk c) (unlabelled c)

abbrev ClausePart : Type 0
ClausePart = (c : Clause) × KeepsClause (clause_walk c) (unlabelled_in_clause c)

abbrev bare : Stmt-F Part ClausePart → Stmt-F Stmt Clause
bare y = map-Stmt Part ClausePart Stmt Clause (λ c. c.0) (λ c. c.0) y

abbrev bare_clause : Clause-F Part ClausePart → Clause-F Stmt Clause
bare_clause y = map-Clause Part ClausePart Stmt Clause (λ c. c.0) (λ c. c.0) y

labels_kept : (ls : List Label) (labels : Labels) (w : Walking) → Yields (walk_labels ls labels w) (λ r. none_first r.0 ≡ none_first ls)
labels_kept [] labels w = yields_ok ([], labels) refl
labels_kept (l ∷ ls) labels w = yields_any (walk_label l labels w) (λ r1. yields_any (walk_labels ls r1.1 w) (λ r2. yields_ok (r1.0 ∷ r2.0, r2.1) refl))

keeps_each : (cs : List Part) (around : Around) (w : Walking) → Yields (walk_each (map statement_walk (map (λ c. c.0) cs)) around w) (λ r. map unlabelled r.0 ≡ map unlabelled (map (λ c. c.0) cs))
keeps_each [] around w = yields_ok ([], w) refl
keeps_each (c ∷ cs) around w = yields_then (c.1.by around w) (λ r1 p. yields_then (keeps_each cs around r1.1) (λ r2 q. yields_ok (r1.0 ∷ r2.0, r2.1) (both_kept unlabelled r1.0 (unlabelled c.0) r2.0 (map unlabelled (map (λ c. c.0) cs)) p q)))

keeps_clauses : (cs : List ClausePart) (labels : Labels) (around : Around) (w : Walking) → Yields (walk_clauses (map clause_walk (map (λ c. c.0) cs)) labels around w) (λ r. map unlabelled_in_clause r.0 ≡ map unlabelled_in_clause (map (λ c. c.0) cs))
keeps_clauses [] labels around w = yields_ok ([], w) refl
keeps_clauses (c ∷ cs) labels around w = yields_then (c.1.by labels around w) (λ r1 p. yields_then (keeps_clauses cs r1.1 around r1.2) (λ r2 q. yields_ok (r1.0 ∷ r2.0, r2.1) (both_kept unlabelled_in_clause r1.0 (unlabelled_in_clause c.0) r2.0 (map unlabelled_in_clause (map (λ c. c.0) cs)) p q)))

-- `if` and its parts
count-If : (t : Expr) (a : Stmt) (o : Option Stmt) → unlabelled (stmt.If t a o) ≡ unlabelled a + or_zero unlabelled o
count-If t a None = on-If ℕ ℕ unlabelled_step unlabelled_clause_step t a None
count-If t a (Some b) = on-If ℕ ℕ unlabelled_step unlabelled_clause_step t a (Some b)

sums : {a b m n : ℕ} → a ≡ m → b ≡ n → a + b ≡ m + n
sums p q = rw (p, q) refl

each_statement : (y : Stmt-F Part ClausePart) → Keeps (statement_walk_step (map-Stmt Stmt Clause StatementWalk ClauseWalk statement_walk clause_walk (bare y))) (unlabelled_step (map-Stmt Stmt Clause ℕ ℕ unlabelled unlabelled_in_clause (bare y)))
each_statement Stmt-F.Empty = record { by = λ around w. yields_ok (stmt.Empty, w) (on-Empty ℕ ℕ unlabelled_step unlabelled_clause_step) }
each_statement (Stmt-F.Value e) = record { by = λ around w. yields_any (any_expression e w) (λ e'. yields_ok (stmt.Value e', w) (on-Value ℕ ℕ unlabelled_step unlabelled_clause_step e')) }
each_statement (Stmt-F.Declare ds) = record { by = λ around w. yields_any (walk_locals ds w) (λ r. yields_ok (stmt.Declare r.0, r.1) (on-Declare ℕ ℕ unlabelled_step unlabelled_clause_step r.0)) }
each_statement (Stmt-F.Block cs) = record { by = λ around w. yields_then (keeps_each cs around (opened w)) (λ r p. yields_ok (stmt.Block r.0, closed r.1) (on-Block ℕ ℕ unlabelled_step unlabelled_clause_step r.0 ∙ ap sum p)) }
each_statement (Stmt-F.If t b None) = record { by = λ around w. yields_any (with_value t w) (λ t'. yields_then (b.1.by around w) (λ r p. yields_ok (stmt.If t' r.0 None, r.1) (count-If t' r.0 None ∙ ap (λ n. n + 0) p))) }
each_statement (Stmt-F.If t b (Some c)) = record {
  by = λ around w. yields_any (with_value t w) (λ t'. yields_then (b.1.by around w) (λ r1 p. yields_then {P = λ r. or_zero unlabelled r.0 ≡ unlabelled c.0} (yields_then (c.1.by around r1.1) (λ r q. yields_ok (Some r.0, r.1) q)) (λ r2 q. yields_ok (stmt.If t' r1.0 r2.0, r2.1) (count-If t' r1.0 r2.0 ∙ sums p q))));
}
each_statement (Stmt-F.While t b) = record { by = λ around w. yields_any (with_value t w) (λ t'. yields_then (b.1.by (looping around) w) (λ r p. yields_ok (stmt.While t' r.0, r.1) (on-While ℕ ℕ unlabelled_step unlabelled_clause_step t' r.0 ∙ p))) }
each_statement (Stmt-F.Do b t) = record { by = λ around w. yields_then (b.1.by (looping around) w) (λ r p. yields_any (with_value t r.1) (λ t'. yields_ok (stmt.Do r.0 t', r.1) (on-Do ℕ ℕ unlabelled_step unlabelled_clause_step r.0 t' ∙ p))) }
each_statement (Stmt-F.For first t next b) = record {
  by = λ around w. yields_then (first.1.by around (opened w)) (λ r1 p. yields_any (if_there with_value t r1.1) (λ t'. yields_any (if_there any_expression next r1.1) (λ n'. yields_then (b.1.by (looping around) r1.1) (λ r2 q. yields_ok (stmt.For r1.0 t' n' r2.0, closed r2.1) (on-For ℕ ℕ unlabelled_step unlabelled_clause_step r1.0 t' n' r2.0 ∙ sums p q)))));
}
each_statement (Stmt-F.Switch t cs) = record { by = λ around w. yields_any (with_value t w) (λ t'. yields_then (keeps_clauses cs no_labels (switching around) w) (λ r p. yields_ok (stmt.Switch t' r.0, r.1) (on-Switch ℕ ℕ unlabelled_step unlabelled_clause_step t' r.0 ∙ ap sum p))) }
each_statement (Stmt-F.Break at) = record { by = λ around w. yields_after {m = require (around.in_loop || around.in_switch) BreakOutside at} (λ ok. yields_ok (stmt.Break at, w) (on-Break ℕ ℕ unlabelled_step unlabelled_clause_step at)) }
each_statement (Stmt-F.Continue at) = record { by = λ around w. yields_after {m = require around.in_loop BreakOutside at} (λ ok. yields_ok (stmt.Continue at, w) (on-Continue ℕ ℕ unlabelled_step unlabelled_clause_step at)) }
each_statement (Stmt-F.Return e at) = record { by = λ around w. yields_after {m = require (is_good_return around.ty e) BadReturn at} (λ ok. yields_any (if_there with_value e w) (λ e'. yields_ok (stmt.Return e' at, w) (on-Return ℕ ℕ unlabelled_step unlabelled_clause_step e' at))) }

each_clause : (y : Clause-F Part ClausePart) → KeepsClause (clause_walk_step (map-Clause Stmt Clause StatementWalk ClauseWalk statement_walk clause_walk (bare_clause y))) (unlabelled_clause_step (map-Clause Stmt Clause ℕ ℕ unlabelled unlabelled_in_clause (bare_clause y)))
each_clause y = record { by = λ labels around w. yields_then (labels_kept y.labels labels w) (λ r1 s. yields_then (keeps_each y.body around w) (λ r2 p. yields_ok (record { labels = r1.0; body = r2.0 }, r1.1, r2.1) (on-clause ℕ ℕ unlabelled_step unlabelled_clause_step r1.0 r2.0 ∙ sums s (ap sum p)))) }

keeps : (c : Stmt) → Keeps (statement_walk c) (unlabelled c)
keeps = ind-Stmt (λ c. Keeps (statement_walk c) (unlabelled c)) (λ c. KeepsClause (clause_walk c) (unlabelled_in_clause c))
    (λ x y is. subst (λ z. Keeps (statement_walk (roll-Stmt z)) (unlabelled (roll-Stmt z))) is (rw (fold-roll-Stmt StatementWalk ClauseWalk statement_walk_step clause_walk_step (bare y), fold-roll-Stmt ℕ ℕ unlabelled_step unlabelled_clause_step (bare y)) (each_statement y)))
    (λ x y is. subst (λ z. KeepsClause (clause_walk (roll-Clause z)) (unlabelled_in_clause (roll-Clause z))) is (rw (fold-roll-Clause StatementWalk ClauseWalk statement_walk_step clause_walk_step (bare_clause y), fold-roll-Clause ℕ ℕ unlabelled_step unlabelled_clause_step (bare_clause y)) (each_clause y)))

-- statements one after another
pub body_kept : (cs : List Stmt) (around : Around) (w : Walking) → Yields (walk_each (map statement_walk cs) around w) (λ r. map unlabelled r.0 ≡ map unlabelled cs)
body_kept [] around w = yields_ok ([], w) refl
body_kept (c ∷ cs) around w = yields_then ((keeps c).by around w) (λ r1 p. yields_then (body_kept cs around r1.1) (λ r2 q. yields_ok (r1.0 ∷ r2.0, r2.1) (both_kept unlabelled r1.0 (unlabelled c) r2.0 (map unlabelled cs) p q)))
