-- Each tree of the grammar is shaped: no variable is void, declarations stand where they may, and parameters have names.
use Rattle.std.proofs.Common.{◌≡◌, Bool, true, false, List, [], ◌∷◌, map, Option, Some, None, refl, sym, ap, ◌∙◌}
use Rattle.std.specs.Prelude.{not, ◌&&◌, ◌||◌, if◌then◌else◌}
use Rattle.c_lexer.specs.declared.token.Token.{Token}
use Rattle.c_syntax.specs.Shaped.{each, is_value_type, Form, plain, is_substatement, is_shaped_local, form_step, clause_form_step, form, is_shaped_statement, is_shaped_global, is_shaped_param, has_name, is_shaped_body, is_shaped_item, Shaped}
use Rattle.c_syntax.specs.declared.tree.Expr.{Expr}
use Rattle.c_syntax.specs.declared.tree.Ty.{Ty}
use Rattle.c_syntax.specs.declared.tree.Ty.TheVariants as types
use Rattle.c_syntax.specs.declared.tree.Local.{Local}
use Rattle.c_syntax.specs.declared.tree.Clause.{Clause, fold-Clause}
use Rattle.c_syntax.specs.declared.tree.Stmt.{Stmt, Declare, Block, If, While, Do, For, Switch}
use Rattle.c_syntax.specs.declared.tree.Stmt.TheFolds.{the_lemmas}
use Rattle.c_syntax.specs.declared.tree.GlobalVar.{GlobalVar}
use Rattle.c_syntax.specs.declared.tree.Param.{Param}
use Rattle.c_syntax.specs.declared.tree.TopItem.{TopItem}
use Rattle.c_syntax.specs.declared.tree.Program.{Program}
use Rattle.c_grammar.specs.declared.specifiers.Specifiers.{Specifiers}
use Rattle.c_grammar.specs.Specifiers.{is_value, is_local, type_of}
use Rattle.c_grammar.specs.Lists.{Separated, one}
use Rattle.c_grammar.specs.Lists.Separated.{more as further}
use Rattle.c_grammar.specs.Statements.{ReadsLocal, bare, valued, Declares, declares, ReadsFirst, first_declare, first_value, first_empty, ReadsStatement, ReadsBody, empty, value, block, if_only, if_else, while, do_while, for, switch, break, continue, return, no_more, declare, next, clause_of, ReadsStatements, no_statement, ReadsClauses, no_clause}
use Rattle.c_grammar.specs.Statements.ReadsStatements.{statement as further_statement}
use Rattle.c_grammar.specs.Statements.ReadsClauses.{clause as further_clause}
use Rattle.c_grammar.specs.Items.{ReadsGlobal, scalar, scalar_valued, array, array_valued, ReadsParam, named, unnamed, ReadsParams, nothing, void, params, ReadsItem, globals, prototype, function, ReadsItems, end, item, Tree}
use Rattle.c_grammar.proofs.Options.{clash}

-- ---- tests that hold together

and_true : (a b : Bool) → a ≡ true → b ≡ true → (a && b) ≡ true
and_true true b h g = g
and_true false b h g = h

and_left : (a b : Bool) → (a && b) ≡ true → a ≡ true
and_left true b h = refl
and_left false b h = h

and_right : (a b : Bool) → (a && b) ≡ true → b ≡ true
and_right true b h = h
and_right false b h = absurd (clash h refl)

not_true : (b : Bool) → not b ≡ true → b ≡ false
not_true true h = sym h
not_true false h = refl

-- a test that holds of each part of a list with commas
separated_each : {A : Type 0} (R : List Token → A → Type 0) (test : A → Bool) → ((ts : List Token) (x : A) → R ts x → test x ≡ true) → (ts : List Token) (xs : List A) → Separated R ts xs → each test xs ≡ true
separated_each R test h _ _ (one {ts} {x} d) = and_true (test x) true (h ts x d) refl
separated_each R test h _ _ (further {a} {b} {x} {xs} p d ds) = and_true (test x) (each test xs) (h a x d) (separated_each R test h b xs ds)

-- ---- types of values

not_void : (void unsigned : Bool) → void ≡ false → is_value_type (if void then types.Void else (if unsigned then types.Unsigned else types.Int)) ≡ true
not_void true unsigned h = sym h
not_void false true h = refl
not_void false false h = refl

value_type : (s : Specifiers) → is_value s ≡ true → is_value_type (type_of s) ≡ true
value_type s h = not_void s.void s.unsigned (not_true s.void (and_right ((s.int || s.signed || s.unsigned) && not (s.signed && s.unsigned)) (not s.void) h))

local_type : (s : Specifiers) → is_local s ≡ true → is_value_type (type_of s) ≡ true
local_type s h = value_type s (and_left (is_value s) (not s.is_static) h)

-- ---- declarations and statements

local_shaped : (ty : Ty) (c : Bool) → is_value_type ty ≡ true → (ts : List Token) (l : Local) → ReadsLocal ty c ts l → is_shaped_local l ≡ true
local_shaped ty c h _ _ (bare n p) = h
local_shaped ty c h _ _ (valued n p q d) = h

declares_shaped : (ts : List Token) (ls : List Local) → Declares ts ls → each is_shaped_local ls ≡ true
declares_shaped _ ls (declares {a} {b} {s} p d i ds) = separated_each (ReadsLocal (type_of s) s.is_const) is_shaped_local (local_shaped (type_of s) s.is_const (local_type s i)) b ls ds

-- the forms of a body's statements, and the statements themselves
each_form : (body : List Stmt) → each (λ (f : Form). f.is_shaped) (map form body) ≡ each is_shaped_statement body
each_form [] = refl
each_form (c ∷ body) = ap (λ b. is_shaped_statement c && b) (each_form body)

form_declare : (ls : List Local) → form (Declare ls) ≡ record { is_declaration = true; is_clause = true; is_shaped = each is_shaped_local ls }
form_declare ls = simp the_lemmas

form_block : (body : List Stmt) → form (Block body) ≡ plain (each (λ (f : Form). f.is_shaped) (map form body))
form_block body = simp the_lemmas

form_if : (test : Expr) (a : Stmt) → form (If test a None) ≡ plain (is_substatement (form a) && true)
form_if test a = simp the_lemmas

form_else : (test : Expr) (a b : Stmt) → form (If test a (Some b)) ≡ plain (is_substatement (form a) && is_substatement (form b))
form_else test a b = simp the_lemmas

form_while : (test : Expr) (body : Stmt) → form (While test body) ≡ plain (is_substatement (form body))
form_while test body = simp the_lemmas

form_do : (body : Stmt) (test : Expr) → form (Do body test) ≡ plain (is_substatement (form body))
form_do body test = simp the_lemmas

form_for : (first : Stmt) (test after : Option Expr) (body : Stmt) → form (For first test after body) ≡ plain (((form first).is_clause && (form first).is_shaped) && is_substatement (form body))
form_for first test after body = simp the_lemmas

-- the statements of a clause of a `switch` are no declarations
abbrev clause_shaped : Clause → Bool
clause_shaped = fold-Clause Form Bool form_step clause_form_step

form_switch : (test : Expr) (clauses : List Clause) → form (Switch test clauses) ≡ plain (each (λ (b : Bool). b) (map clause_shaped clauses))
form_switch test clauses = simp the_lemmas

form_clause : (ls : List _) (cs : List Stmt) → clause_shaped (clause_of ls cs) ≡ each is_substatement (map form cs)
form_clause ls cs = simp the_lemmas

first_shaped : (ts : List Token) (c : Stmt) → ReadsFirst ts c → ((form c).is_clause && (form c).is_shaped) ≡ true
first_shaped _ _ (first_declare {ts} {ls} d) = ap (λ (f : Form). f.is_clause && f.is_shaped) (form_declare ls) ∙ declares_shaped ts ls d
first_shaped _ _ (first_value p d) = simp the_lemmas
first_shaped _ _ (first_empty p) = simp the_lemmas

mutual
  statement_shaped : (ts : List Token) (c : Stmt) → ReadsStatement ts c → is_substatement (form c) ≡ true
  statement_shaped _ _ (empty p) = simp the_lemmas
  statement_shaped _ _ (value p d) = simp the_lemmas
  statement_shaped _ _ (block {ts} {body} p q d) = ap is_substatement (form_block body) ∙ each_form body ∙ body_shaped ts body d
  statement_shaped _ _ (if_only {b} {test} {c} p q r d f) = ap is_substatement (form_if test c) ∙ and_true (is_substatement (form c)) true (statement_shaped b c f) refl
  statement_shaped _ _ (if_else {b} {c} {test} {x} {y} p q r s i d f g) = ap is_substatement (form_else test x y) ∙ and_true (is_substatement (form x)) (is_substatement (form y)) (statement_shaped b x f) (statement_shaped c y g)
  statement_shaped _ _ (while {b} {test} {body} p q r d f) = ap is_substatement (form_while test body) ∙ statement_shaped b body f
  statement_shaped _ _ (do_while {a} {test} {body} p q r s t f d) = ap is_substatement (form_do body test) ∙ statement_shaped a body f
  statement_shaped _ _ (for {a} {d} {first} {body} {test} {next = after} p q r s i t u f) = ap is_substatement (form_for first test after body) ∙ and_true ((form first).is_clause && (form first).is_shaped) (is_substatement (form body)) (first_shaped a first i) (statement_shaped d body f)
  statement_shaped _ _ (switch {b} {test} {clauses} p q r s t d f) = ap is_substatement (form_switch test clauses) ∙ clauses_shaped b clauses f
  statement_shaped _ _ (break p q) = simp the_lemmas
  statement_shaped _ _ (continue p q) = simp the_lemmas
  statement_shaped _ _ (return p q d) = simp the_lemmas

  body_shaped : (ts : List Token) (body : List Stmt) → ReadsBody ts body → each is_shaped_statement body ≡ true
  body_shaped _ _ no_more = refl
  body_shaped _ _ (declare {a} {b} {ls} {body} d ds) = and_true (is_shaped_statement (Declare ls)) (each is_shaped_statement body) (ap (λ (f : Form). f.is_shaped) (form_declare ls) ∙ declares_shaped a ls d) (body_shaped b body ds)
  body_shaped _ _ (next {a} {b} {c} {body} d ds) = and_true (is_shaped_statement c) (each is_shaped_statement body) (and_right (not (form c).is_declaration) (is_shaped_statement c) (statement_shaped a c d)) (body_shaped b body ds)

  statements_shaped : (ts : List Token) (cs : List Stmt) → ReadsStatements ts cs → each is_substatement (map form cs) ≡ true
  statements_shaped _ _ no_statement = refl
  statements_shaped _ _ (further_statement {a} {b} {c} {cs} d ds) = and_true (is_substatement (form c)) (each is_substatement (map form cs)) (statement_shaped a c d) (statements_shaped b cs ds)

  clauses_shaped : (ts : List Token) (clauses : List Clause) → ReadsClauses ts clauses → each (λ (b : Bool). b) (map clause_shaped clauses) ≡ true
  clauses_shaped _ _ no_clause = refl
  clauses_shaped _ _ (further_clause {b} {d} {ls} {cs} {more} x y h z) = and_true (clause_shaped (clause_of ls cs)) (each (λ (b : Bool). b) (map clause_shaped more)) (form_clause ls cs ∙ statements_shaped b cs y) (clauses_shaped d more z)

-- ---- items

global_shaped : (ty : Ty) (c : Bool) → is_value_type ty ≡ true → (ts : List Token) (g : GlobalVar) → ReadsGlobal ty c ts g → is_shaped_global g ≡ true
global_shaped ty c h _ _ (scalar n p) = and_true (is_value_type ty) true h refl
global_shaped ty c h _ _ (scalar_valued n p q d) = and_true (is_value_type ty) true h refl
global_shaped ty c h _ _ (array n p q r d) = and_true (is_value_type ty) true h refl
global_shaped ty c h _ _ (array_valued n p q r s t u d ds f) = and_true (is_value_type ty) true h refl

param_shaped : (ts : List Token) (p : Param) → ReadsParam ts p → is_shaped_param p ≡ true
param_shaped _ _ (named {s} n p d i) = local_type s i
param_shaped _ _ (unnamed {s} d i) = local_type s i

params_shaped : (ts : List Token) (ps : List Param) → ReadsParams ts ps → each is_shaped_param ps ≡ true
params_shaped _ _ nothing = refl
params_shaped _ _ (void p) = refl
params_shaped _ _ (params {ts} {ps} d) = separated_each ReadsParam is_shaped_param param_shaped ts ps d

item_shaped : (ts : List Token) (i : TopItem) → ReadsItem ts i → is_shaped_item i ≡ true
item_shaped _ _ (globals {b} {s} {gs} p d i ds) = separated_each (ReadsGlobal (type_of s) s.is_const) is_shaped_global (global_shaped (type_of s) s.is_const (value_type s i)) b gs ds
item_shaped _ _ (prototype {b} {ps} n p q r t d i ds) = and_true (each is_shaped_param ps) true (params_shaped b ps ds) refl
item_shaped _ _ (function {b} {c} {ps} {body} n p q r t u d i ds f g) = and_true (each is_shaped_param ps) (is_shaped_body ps (Some body)) (params_shaped b ps ds) (and_true (each (λ (q : Param). has_name q.name) ps) (each is_shaped_statement body) f (body_shaped c body g))

items_shaped : (ts : List Token) (is : List TopItem) → ReadsItems ts is → each is_shaped_item is ≡ true
items_shaped _ _ end = refl
items_shaped _ _ (item {a} {b} {i} {is} d ds) = and_true (is_shaped_item i) (each is_shaped_item is) (item_shaped a i d) (items_shaped b is ds)

-- what the grammar gives is shaped
pub is_shaped : (ts : List Token) (t : Program) → Tree ts t → Shaped t
is_shaped ts t d = items_shaped ts t.items d
