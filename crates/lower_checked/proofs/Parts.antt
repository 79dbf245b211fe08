-- Where it holds of the parts of a level of a tree, it holds of the level.
use Rattle.std.proofs.Common.{◌≡◌, ℕ, ◌≤◌, Bool, true, List, map, take, length, refl, sym, ap, ◌∙◌}
use Rattle.std.specs.Prelude.{◌&&◌}
use Rattle.std.specs.List.{list_all}
use Rattle.std.proofs.lemmas.List.{take_all}
use Rattle.std.proofs.lemmas.List.Folds.{list_all-map}
use Rattle.c_syntax.specs.declared.tree.Expr.{Expr, Call}
use Rattle.c_syntax.specs.declared.tree.Expr.TheFolds.{the_lemmas as of_expressions}
use Rattle.c_syntax.specs.declared.tree.Label.{Label}
use Rattle.c_syntax.specs.declared.tree.Clause.{Clause}
use Rattle.c_syntax.specs.declared.tree.Stmt.{Stmt, Block, Switch}
use Rattle.c_syntax.specs.declared.tree.Stmt.TheFolds.{the_lemmas as of_statements}
use Rattle.c_syntax.specs.Literals.{all_true, literals_are_words, label_literals, statement_literals, clause_literals}
use Rattle.lower_rules.specs.Labels.{cases_are_words, clause_cases_are_words}
use Rattle.lower_checked.specs.Cases.{label_case}

all_of : {A : Type 0} (f : A → Bool) (xs ys : List A) → xs ≡ ys → list_all f xs ≡ true → all_true (map f ys) ≡ true
all_of f xs ys e h = list_all-map (λ b. b) f ys ∙ ap (list_all f) (sym e) ∙ h

-- at the end of a list
pub to_the_end : {A : Type 0} (f : A → Bool) (xs : List A) (i : ℕ) → length xs ≤ i → list_all f (take i xs) ≡ true → list_all f xs ≡ true
to_the_end f xs i le h = ap (list_all f) (sym (take_all i xs le)) ∙ h

both : {a b : Bool} → a ≡ true → b ≡ true → (a && b) ≡ true
both p q = rw (p, q) refl

-- ---- literals

literals-Call : (name : ℕ) (args : List Expr) (at : ℕ) → literals_are_words (Call name args at) ≡ all_true (map literals_are_words args)
literals-Call name args at = simp of_expressions

literals-Block : (body : List Stmt) → statement_literals (Block body) ≡ all_true (map statement_literals body)
literals-Block body = simp of_statements

literals-Switch : (test : Expr) (clauses : List Clause) → statement_literals (Switch test clauses) ≡ (literals_are_words test && all_true (map clause_literals clauses))
literals-Switch test clauses = simp of_statements

literals-clause : (c : Clause) → clause_literals c ≡ (list_all label_literals c.labels && all_true (map statement_literals c.body))
literals-clause c = simp of_statements

pub call_literals : (e : Expr) (name : ℕ) (args xs : List Expr) (at : ℕ) → e ≡ Call name args at → xs ≡ args → list_all literals_are_words xs ≡ true → literals_are_words e ≡ true
call_literals e name args xs at is same h = ap literals_are_words is ∙ literals-Call name args at ∙ all_of literals_are_words xs args same h

pub block_literals : (c : Stmt) (body xs : List Stmt) → c ≡ Block body → xs ≡ body → list_all statement_literals xs ≡ true → statement_literals c ≡ true
block_literals c body xs is same h = ap statement_literals is ∙ literals-Block body ∙ all_of statement_literals xs body same h

pub switch_literals : (c : Stmt) (test : Expr) (clauses xs : List Clause) → c ≡ Switch test clauses → xs ≡ clauses → literals_are_words test ≡ true → list_all clause_literals xs ≡ true → statement_literals c ≡ true
switch_literals c test clauses xs is same t h = ap statement_literals is ∙ literals-Switch test clauses ∙ both t (all_of clause_literals xs clauses same h)

pub whole_literals : (c : Clause) (ls : List Label) (xs : List Stmt) → ls ≡ c.labels → xs ≡ c.body → list_all label_literals ls ≡ true → list_all statement_literals xs ≡ true → clause_literals c ≡ true
whole_literals c ls xs e same l h = literals-clause c ∙ both (ap (list_all label_literals) (sym e) ∙ l) (all_of statement_literals xs c.body same h)

-- ---- cases

cases-Block : (body : List Stmt) → cases_are_words (Block body) ≡ all_true (map cases_are_words body)
cases-Block body = simp of_statements

cases-Switch : (test : Expr) (clauses : List Clause) → cases_are_words (Switch test clauses) ≡ all_true (map clause_cases_are_words clauses)
cases-Switch test clauses = simp of_statements

cases-clause : (c : Clause) → clause_cases_are_words c ≡ (list_all label_case c.labels && all_true (map cases_are_words c.body))
cases-clause c = simp of_statements

pub block_cases : (c : Stmt) (body xs : List Stmt) → c ≡ Block body → xs ≡ body → list_all cases_are_words xs ≡ true → cases_are_words c ≡ true
block_cases c body xs is same h = ap cases_are_words is ∙ cases-Block body ∙ all_of cases_are_words xs body same h

pub switch_cases : (c : Stmt) (test : Expr) (clauses xs : List Clause) → c ≡ Switch test clauses → xs ≡ clauses → list_all clause_cases_are_words xs ≡ true → cases_are_words c ≡ true
switch_cases c test clauses xs is same h = ap cases_are_words is ∙ cases-Switch test clauses ∙ all_of clause_cases_are_words xs clauses same h

pub whole_cases : (c : Clause) (ls : List Label) (xs : List Stmt) → ls ≡ c.labels → xs ≡ c.body → list_all label_case ls ≡ true → list_all cases_are_words xs ≡ true → clause_cases_are_words c ≡ true
whole_cases c ls xs e same l h = cases-clause c ∙ both (ap (list_all label_case) (sym e) ∙ l) (all_of cases_are_words xs c.body same h)
