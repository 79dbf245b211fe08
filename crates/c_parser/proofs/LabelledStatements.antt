-- No clause in a statement that tokens spell is without a label.
use Rattle.std.proofs.Common.{◌≡◌, ℕ, ◌+◌, List, ◌∷◌, map, Option, Some, None, refl, arith}
use Rattle.std.specs.Prelude.{sum}
use Rattle.std.proofs.lemmas.List.Sums.{sum_by-cons}
use Rattle.c_lexer.specs.declared.token.Token.{Token}
use Rattle.c_syntax.specs.declared.tree.Expr.{Expr}
use Rattle.c_syntax.specs.declared.tree.Local.{Local}
use Rattle.c_syntax.specs.declared.tree.Label.{Label}
use Rattle.c_syntax.specs.declared.tree.Clause.{Clause}
use Rattle.c_syntax.specs.declared.tree.Stmt.{Stmt, Empty, Value, Declare, Block, If, While, Do, For, Switch, Break, Continue, Return}
use Rattle.c_syntax.specs.declared.tree.Stmt.TheFolds.{the_lemmas}
use Rattle.c_syntax.specs.Sizes.{or_zero}
use Rattle.c_grammar.specs.Statements.{ReadsFirst, first_declare, first_value, first_empty, ReadsStatement, ReadsBody, empty, value, block, if_only, if_else, while, do_while, for, switch, break, continue, return, no_more, declare, next, ReadsLabels, last_label, next_label, clause_of, ReadsStatements, no_statement, ReadsClauses, no_clause}
use Rattle.c_grammar.specs.Statements.ReadsStatements.{statement as further_statement}
use Rattle.c_grammar.specs.Statements.ReadsClauses.{clause as further_clause}
use Rattle.c_syntax.specs.Labels.{none_first, unlabelled, unlabelled_in_clause}

-- ---- how many stand in a statement

count_empty : unlabelled Empty ≡ 0
count_empty = simp the_lemmas

count_value : (e : Expr) → unlabelled (Value e) ≡ 0
count_value e = simp the_lemmas

count_declare : (ls : List Local) → unlabelled (Declare ls) ≡ 0
count_declare ls = simp the_lemmas

count_block : (body : List Stmt) → unlabelled (Block body) ≡ sum (map unlabelled body)
count_block body = simp the_lemmas

count_if : (test : Expr) (a : Stmt) (b : Option Stmt) → unlabelled (If test a b) ≡ unlabelled a + or_zero unlabelled b
count_if test a None = simp the_lemmas
count_if test a (Some b) = simp the_lemmas

count_while : (test : Expr) (body : Stmt) → unlabelled (While test body) ≡ unlabelled body
count_while test body = simp the_lemmas

count_do : (body : Stmt) (test : Expr) → unlabelled (Do body test) ≡ unlabelled body
count_do body test = simp the_lemmas

count_for : (first : Stmt) (test after : Option Expr) (body : Stmt) → unlabelled (For first test after body) ≡ unlabelled first + unlabelled body
count_for first test after body = simp the_lemmas

count_switch : (test : Expr) (clauses : List Clause) → unlabelled (Switch test clauses) ≡ sum (map unlabelled_in_clause clauses)
count_switch test clauses = simp the_lemmas

count_break : (at : ℕ) → unlabelled (Break at) ≡ 0
count_break at = simp the_lemmas

count_continue : (at : ℕ) → unlabelled (Continue at) ≡ 0
count_continue at = simp the_lemmas

count_return : (e : Option Expr) (at : ℕ) → unlabelled (Return e at) ≡ 0
count_return e at = simp the_lemmas

count_clause : (ls : List Label) (cs : List Stmt) → unlabelled_in_clause (clause_of ls cs) ≡ none_first ls + sum (map unlabelled cs)
count_clause ls cs = simp the_lemmas

sum_of : {A : Type 0} (count : A → ℕ) (x : A) (xs : List A) → sum (map count (x ∷ xs)) ≡ count x + sum (map count xs)
sum_of count x xs = sum_by-cons (λ m. m) (count x) (map count xs)

-- ---- none

labels_none : (ts : List Token) (ls : List Label) → ReadsLabels ts ls → none_first ls ≡ 0
labels_none _ _ (last_label d) = refl
labels_none _ _ (next_label d ds) = refl

first_none : (ts : List Token) (c : Stmt) → ReadsFirst ts c → unlabelled c ≡ 0
first_none _ _ (first_declare {ts} {ls} d) = count_declare ls
first_none _ _ (first_value {ts} {e} p d) = count_value e
first_none _ _ (first_empty p) = count_empty

mutual
  statement_none : (ts : List Token) (c : Stmt) → ReadsStatement ts c → unlabelled c ≡ 0
  statement_none _ _ (empty p) = count_empty
  statement_none _ _ (value {ts} {e} p d) = count_value e
  statement_none _ _ (block {ts} {body} p q d) = omega (arith, count_block body, body_none ts body d)
  statement_none _ _ (if_only {a} {b} {test} {c} p q r d f) = omega (arith, count_if test c None, statement_none b c f)
  statement_none _ _ (if_else {a} {b} {c} {test} {x} {y} p q r s o d f g) = omega (arith, count_if test x (Some y), statement_none b x f, statement_none c y g)
  statement_none _ _ (while {a} {b} {test} {body} p q r d f) = omega (arith, count_while test body, statement_none b body f)
  statement_none _ _ (do_while {a} {b} {test} {body} p q r s t d f) = omega (arith, count_do body test, statement_none a body d)
  statement_none _ _ (for {a} {b} {c} {d} {first} {body} {test} {next = after} p q r s x y z f) = omega (arith, count_for first test after body, first_none a first x, statement_none d body f)
  statement_none _ _ (switch {a} {b} {test} {clauses} p q r s t d ds) = omega (arith, count_switch test clauses, clauses_none b clauses ds)
  statement_none _ _ (break p q) = count_break p.at
  statement_none _ _ (continue p q) = count_continue p.at
  statement_none _ _ (return {ts} {e} p q d) = count_return e p.at

  pub body_none : (ts : List Token) (body : List Stmt) → ReadsBody ts body → sum (map unlabelled body) ≡ 0
  body_none _ _ no_more = refl
  body_none _ _ (declare {a} {b} {ls} {body} d ds) = omega (arith, sum_of unlabelled (Declare ls) body, count_declare ls, body_none b body ds)
  body_none _ _ (next {a} {b} {c} {body} d ds) = omega (arith, sum_of unlabelled c body, statement_none a c d, body_none b body ds)

  statements_none : (ts : List Token) (cs : List Stmt) → ReadsStatements ts cs → sum (map unlabelled cs) ≡ 0
  statements_none _ _ no_statement = refl
  statements_none _ _ (further_statement {a} {b} {c} {cs} d ds) = omega (arith, sum_of unlabelled c cs, statement_none a c d, statements_none b cs ds)

  clauses_none : (ts : List Token) (clauses : List Clause) → ReadsClauses ts clauses → sum (map unlabelled_in_clause clauses) ≡ 0
  clauses_none _ _ no_clause = refl
  clauses_none _ _ (further_clause {a} {b} {d} {ls} {cs} {more} x y h z) = omega (arith, sum_of unlabelled_in_clause (clause_of ls cs) more, count_clause ls cs, labels_none a ls x, statements_none b cs y, clauses_none d more z)
