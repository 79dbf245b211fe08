-- A statement has at most as many nodes as tokens.
use Rattle.std.proofs.Common.{◌≡◌, ◌≤◌, ◌+◌, ◌++◌, ℕ, Bool, List, [], ◌∷◌, map, Option, Some, None, refl, arith, length}
use Rattle.std.specs.Prelude.{sum}
use Rattle.std.proofs.lemmas.List.{length-append}
use Rattle.c_lexer.specs.declared.token.Token.{Token}
use Rattle.c_lexer.specs.declared.token.TokenKind.TheVariants as kinds
use Rattle.c_lexer.specs.declared.token.Keyword.TheVariants as words
use Rattle.c_lexer.specs.declared.token.Punct.TheVariants as signs
use Rattle.c_syntax.specs.Sizes.{expression_nodes, label_nodes, clause_nodes, statement_nodes, local_nodes, or_zero}
use Rattle.c_syntax.specs.declared.tree.Expr.{Expr}
use Rattle.c_syntax.specs.declared.tree.Ty.{Ty}
use Rattle.c_syntax.specs.declared.tree.Local.{Local}
use Rattle.c_syntax.specs.declared.tree.Label.{Label}
use Rattle.c_syntax.specs.declared.tree.Clause.{Clause}
use Rattle.c_syntax.specs.declared.tree.Stmt.{Stmt, Empty, Value, Declare, Block, If, While, Do, For, Switch, Break, Continue, Return}
use Rattle.c_syntax.specs.declared.tree.Stmt.TheFolds.{the_lemmas}
use Rattle.c_grammar.specs.Places.{mark, sign, word}
use Rattle.c_grammar.specs.Specifiers.{is_local, type_of}
use Rattle.c_grammar.specs.Lists.{Separated, one}
use Rattle.c_grammar.specs.Lists.Separated.{more as further}
use Rattle.c_grammar.specs.Statements.{ReadsMaybe, nothing, just, ReadsLocal, bare, valued, Declares, declares, ReadsFirst, first_declare, first_value, first_empty, ReadsStatement, ReadsBody, empty, value, block, if_only, if_else, while, do_while, for, switch, break, continue, return, no_more, declare, next, ReadsLabel, case, default, ReadsLabels, last_label, next_label, clause_of, ReadsStatements, no_statement, ReadsClauses, no_clause}
use Rattle.c_grammar.specs.Statements.ReadsStatements.{statement as further_statement}
use Rattle.c_grammar.specs.Statements.ReadsClauses.{clause as further_clause}
use Rattle.c_grammar.proofs.Options.{length-cons}
use Rattle.c_grammar.proofs.CompleteLists.{Specified, spells_first}
use Rattle.c_grammar.proofs.NodeCounts.{nodes as expression_count, between, sum-nil, sum_map-cons}

-- two tokens before others
pub opened : (t u : Token) (ts : List Token) → length (t ∷ u ∷ ts) ≡ 2 + length ts
opened t u ts = omega (arith, length-cons t (u ∷ ts), length-cons u ts)

-- the parts of a list with commas have no more nodes than it has tokens, where each has no more than its own
pub separated_count : {A : Type 0} (R : List Token → A → Type 0) (count : A → ℕ) → ((ts : List Token) (x : A) → R ts x → count x ≤ length ts) → (ts : List Token) (xs : List A) → Separated R ts xs → sum (map count xs) ≤ length ts
separated_count R count h _ _ (one {ts} {x} d) = omega (arith, h ts x d, sum_map-cons count x [], sum-nil)
separated_count R count h _ _ (further {a} {b} {x} {xs} p d ds) = omega (arith, h a x d, sum_map-cons count x xs, separated_count R count h b xs ds, between a (sign signs.Comma p) b)

local_count : (ty : Ty) (c : Bool) (ts : List Token) (l : Local) → ReadsLocal ty c ts l → local_nodes l ≤ length ts
local_count ty c _ _ (bare n p) = omega (arith, length-cons (mark (kinds.Name n) p) [])
local_count ty c _ _ (valued {ts} {e} n p q d) = omega (arith, expression_count d, length-cons (mark (kinds.Name n) p) (sign signs.Equal q ∷ ts), length-cons (sign signs.Equal q) ts)

-- with a node for the declaration itself
declare_count : (ts : List Token) (ls : List Local) → Declares ts ls → 1 + sum (map local_nodes ls) ≤ length ts
declare_count _ ls (declares {a} {b} {s} p d i ds) = let f : Specified a = spells_first a s is_local d i refl in omega (arith, separated_count (ReadsLocal (type_of s) s.is_const) local_nodes (local_count (type_of s) s.is_const) b ls ds, length-append a (b ++ sign signs.Semicolon p ∷ []), between b (sign signs.Semicolon p) [])

-- an expression that may be left out
maybe_count : (ts : List Token) (e : Option Expr) → ReadsMaybe ts e → or_zero expression_nodes e ≤ length ts
maybe_count _ _ nothing = omega arith
maybe_count _ _ (just d) = expression_count d

nodes_empty : statement_nodes Empty ≡ 1
nodes_empty = simp the_lemmas

nodes_value : (e : Expr) → statement_nodes (Value e) ≡ 1 + expression_nodes e
nodes_value e = simp the_lemmas

nodes_declare : (ls : List Local) → statement_nodes (Declare ls) ≡ 1 + sum (map local_nodes ls)
nodes_declare ls = simp the_lemmas

nodes_block : (body : List Stmt) → statement_nodes (Block body) ≡ 1 + sum (map statement_nodes body)
nodes_block body = simp the_lemmas

nodes_if : (test : Expr) (a : Stmt) (b : Option Stmt) → statement_nodes (If test a b) ≡ 1 + expression_nodes test + statement_nodes a + or_zero statement_nodes b
nodes_if test a None = simp the_lemmas
nodes_if test a (Some b) = simp the_lemmas

nodes_while : (test : Expr) (body : Stmt) → statement_nodes (While test body) ≡ 1 + expression_nodes test + statement_nodes body
nodes_while test body = simp the_lemmas

nodes_do : (body : Stmt) (test : Expr) → statement_nodes (Do body test) ≡ 1 + statement_nodes body + expression_nodes test
nodes_do body test = simp the_lemmas

nodes_for : (first : Stmt) (test after : Option Expr) (body : Stmt) → statement_nodes (For first test after body) ≡ 1 + statement_nodes first + or_zero expression_nodes test + or_zero expression_nodes after + statement_nodes body
nodes_for first test after body = simp the_lemmas

nodes_switch : (test : Expr) (clauses : List Clause) → statement_nodes (Switch test clauses) ≡ 1 + expression_nodes test + sum (map clause_nodes clauses)
nodes_switch test clauses = simp the_lemmas

nodes_clause : (ls : List Label) (cs : List Stmt) → clause_nodes (clause_of ls cs) ≡ sum (map label_nodes ls) + sum (map statement_nodes cs)
nodes_clause ls cs = simp the_lemmas

nodes_break : (at : ℕ) → statement_nodes (Break at) ≡ 1
nodes_break at = simp the_lemmas

nodes_continue : (at : ℕ) → statement_nodes (Continue at) ≡ 1
nodes_continue at = simp the_lemmas

nodes_return : (e : Option Expr) (at : ℕ) → statement_nodes (Return e at) ≡ 1 + or_zero expression_nodes e
nodes_return e at = simp the_lemmas

first_count : (ts : List Token) (c : Stmt) → ReadsFirst ts c → statement_nodes c ≤ length ts
first_count _ _ (first_declare {ts} {ls} d) = omega (arith, nodes_declare ls, declare_count ts ls d)
first_count _ _ (first_value {ts} {e} p d) = omega (arith, nodes_value e, expression_count d, between ts (sign signs.Semicolon p) [])
first_count _ _ (first_empty p) = omega (arith, nodes_empty, length-cons (sign signs.Semicolon p) [])

label_count : (ts : List Token) (l : Label) → ReadsLabel ts l → label_nodes l ≤ length ts
label_count _ _ (case {ts} {e} p q d) = omega (arith, expression_count d, length-cons (word words.Case p) (ts ++ sign signs.Colon q ∷ []), between ts (sign signs.Colon q) [])
label_count _ _ (default p q) = omega (arith, length-cons (word words.Default p) (sign signs.Colon q ∷ []))

labels_count : (ts : List Token) (ls : List Label) → ReadsLabels ts ls → sum (map label_nodes ls) ≤ length ts
labels_count _ _ (last_label {ts} {l} d) = omega (arith, label_count ts l d, sum_map-cons label_nodes l [], sum-nil)
labels_count _ _ (next_label {a} {b} {l} {ls} d ds) = omega (arith, label_count a l d, labels_count b ls ds, sum_map-cons label_nodes l ls, length-append a b)

mutual
  pub statement_count : (ts : List Token) (c : Stmt) → ReadsStatement ts c → statement_nodes c ≤ length ts
  statement_count _ _ (empty p) = omega (arith, nodes_empty, length-cons (sign signs.Semicolon p) [])
  statement_count _ _ (value {ts} {e} p d) = omega (arith, nodes_value e, expression_count d, between ts (sign signs.Semicolon p) [])
  statement_count _ _ (block {ts} {body} p q d) = omega (arith, nodes_block body, body_count ts body d, length-cons (sign signs.OpenBrace p) (ts ++ sign signs.CloseBrace q ∷ []), between ts (sign signs.CloseBrace q) [])
  statement_count _ _ (if_only {a} {b} {test} {c} p q r d f) = omega (arith, nodes_if test c None, expression_count d, statement_count b c f, opened (word words.If p) (sign signs.OpenParen q) (a ++ sign signs.CloseParen r ∷ b), between a (sign signs.CloseParen r) b)
  statement_count _ _ (if_else {a} {b} {c} {test} {x} {y} p q r s i d f g) = omega (arith, nodes_if test x (Some y), expression_count d, statement_count b x f, statement_count c y g, opened (word words.If p) (sign signs.OpenParen q) (a ++ sign signs.CloseParen r ∷ (b ++ word words.Else s ∷ c)), between a (sign signs.CloseParen r) (b ++ word words.Else s ∷ c), between b (word words.Else s) c)
  statement_count _ _ (while {a} {b} {test} {body} p q r d f) = omega (arith, nodes_while test body, expression_count d, statement_count b body f, opened (word words.While p) (sign signs.OpenParen q) (a ++ sign signs.CloseParen r ∷ b), between a (sign signs.CloseParen r) b)
  statement_count _ _ (do_while {a} {b} {test} {body} p q r s t f d) = omega (arith, nodes_do body test, expression_count d, statement_count a body f, length-cons (word words.Do p) (a ++ word words.While q ∷ sign signs.OpenParen r ∷ (b ++ sign signs.CloseParen s ∷ sign signs.Semicolon t ∷ [])), between a (word words.While q) (sign signs.OpenParen r ∷ (b ++ sign signs.CloseParen s ∷ sign signs.Semicolon t ∷ [])), length-cons (sign signs.OpenParen r) (b ++ sign signs.CloseParen s ∷ sign signs.Semicolon t ∷ []), between b (sign signs.CloseParen s) (sign signs.Semicolon t ∷ []))
  statement_count _ _ (for {a} {b} {c} {d} {first} {body} {test} {next = after} p q r s i t u f) = omega (arith, nodes_for first test after body, first_count a first i, maybe_count b test t, maybe_count c after u, statement_count d body f, opened (word words.For p) (sign signs.OpenParen q) (a ++ (b ++ sign signs.Semicolon r ∷ (c ++ sign signs.CloseParen s ∷ d))), length-append a (b ++ sign signs.Semicolon r ∷ (c ++ sign signs.CloseParen s ∷ d)), between b (sign signs.Semicolon r) (c ++ sign signs.CloseParen s ∷ d), between c (sign signs.CloseParen s) d)
  statement_count _ _ (switch {a} {b} {test} {clauses} p q r s t d f) = omega (arith, nodes_switch test clauses, expression_count d, clauses_count b clauses f, opened (word words.Switch p) (sign signs.OpenParen q) (a ++ sign signs.CloseParen r ∷ sign signs.OpenBrace s ∷ (b ++ sign signs.CloseBrace t ∷ [])), between a (sign signs.CloseParen r) (sign signs.OpenBrace s ∷ (b ++ sign signs.CloseBrace t ∷ [])), length-cons (sign signs.OpenBrace s) (b ++ sign signs.CloseBrace t ∷ []), between b (sign signs.CloseBrace t) [])
  statement_count _ _ (break p q) = omega (arith, nodes_break p.at, length-cons (word words.Break p) (sign signs.Semicolon q ∷ []))
  statement_count _ _ (continue p q) = omega (arith, nodes_continue p.at, length-cons (word words.Continue p) (sign signs.Semicolon q ∷ []))
  statement_count _ _ (return {ts} {e} p q d) = omega (arith, nodes_return e p.at, maybe_count ts e d, length-cons (word words.Return p) (ts ++ sign signs.Semicolon q ∷ []), between ts (sign signs.Semicolon q) [])

  pub body_count : (ts : List Token) (body : List Stmt) → ReadsBody ts body → sum (map statement_nodes body) ≤ length ts
  body_count _ _ no_more = omega (arith, sum-nil)
  body_count _ _ (declare {a} {b} {ls} {body} d ds) = omega (arith, nodes_declare ls, declare_count a ls d, body_count b body ds, sum_map-cons statement_nodes (Declare ls) body, length-append a b)
  body_count _ _ (next {a} {b} {c} {body} d ds) = omega (arith, statement_count a c d, body_count b body ds, sum_map-cons statement_nodes c body, length-append a b)

  statements_count : (ts : List Token) (cs : List Stmt) → ReadsStatements ts cs → sum (map statement_nodes cs) ≤ length ts
  statements_count _ _ no_statement = omega (arith, sum-nil)
  statements_count _ _ (further_statement {a} {b} {c} {cs} d ds) = omega (arith, statement_count a c d, statements_count b cs ds, sum_map-cons statement_nodes c cs, length-append a b)

  clauses_count : (ts : List Token) (clauses : List Clause) → ReadsClauses ts clauses → sum (map clause_nodes clauses) ≤ length ts
  clauses_count _ _ no_clause = omega (arith, sum-nil)
  clauses_count _ _ (further_clause {a} {b} {d} {ls} {cs} {more} x y h z) = omega (arith, nodes_clause ls cs, labels_count a ls x, statements_count b cs y, clauses_count d more z, sum_map-cons clause_nodes (clause_of ls cs) more, length-append a (b ++ d), length-append b d)
