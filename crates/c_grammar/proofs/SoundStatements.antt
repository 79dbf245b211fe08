-- What is read of statements is in the grammar.
use Rattle.std.proofs.Common.{◌≡◌, ◌≤◌, ◌++◌, ℕ, zero, suc, Bool, true, false, List, [], ◌∷◌, map, Option, Some, None, refl, sym, ap, ◌∙◌, arith, subst, length, inl, inr}
use Rattle.std.specs.Prelude.{if◌then◌else◌}
use Rattle.std.proofs.lemmas.List.{append_assoc, append-nil}
use Rattle.c_lexer.specs.declared.token.Token.{Token}
use Rattle.c_lexer.specs.declared.token.TokenKind.{TokenKind}
use Rattle.c_lexer.specs.declared.token.TokenKind.TheVariants as kinds
use Rattle.c_lexer.specs.declared.token.Keyword.{Keyword}
use Rattle.c_lexer.specs.declared.token.Keyword.TheVariants as words
use Rattle.c_lexer.specs.declared.token.Punct.TheVariants as signs
use Rattle.c_syntax.specs.Sizes.{expression_depth, label_depth, clause_depth, statement_depth, local_depth, or_zero, greatest}
use Rattle.c_syntax.specs.declared.tree.Expr.{Expr}
use Rattle.c_syntax.specs.declared.tree.Local.{Local}
use Rattle.c_syntax.specs.declared.tree.Label.{Label}
use Rattle.c_syntax.specs.declared.tree.Label.TheVariants as labels
use Rattle.c_syntax.specs.declared.tree.Clause.{Clause}
use Rattle.c_syntax.specs.declared.tree.Stmt.{Stmt, Value, Declare, Block, If, While, Do, For, Switch, Break, Continue, Return}
use Rattle.c_grammar.specs.Places.{Place, mark, sign, word}
use Rattle.c_grammar.specs.Expressions.{comma, cond, Reads}
use Rattle.c_grammar.specs.Statements.{is_open, ReadsMaybe, nothing, just, Declares, ReadsFirst, first_declare, first_value, first_empty, ReadsStatement, ReadsBody, empty, value, block, if_only, if_else, while, do_while, for, switch, break, continue, return, no_more, declare, next, ReadsLabel, case, default, ReadsLabels, last_label, next_label, clause_of, ReadsStatements, no_statement, ReadsClauses, no_clause}
use Rattle.c_grammar.specs.Statements.ReadsStatements.{statement as further_statement}
use Rattle.c_grammar.specs.Statements.ReadsClauses.{clause as further_clause}
use Rattle.c_grammar.specs.ReadExpressions.{Read, ◌>>=◌, read, after, closed, is_close_paren, is_colon}
use Rattle.c_grammar.specs.ReadStatements.{is_semicolon, is_open_paren, is_while, is_specifier, starts_here, declaration, value_from, maybe, maybe_before, maybe_at, clause, clause_at, tested, part, body_at, body, else_at, after_then, if_from, while_from, do_from, for_head, for_from, return_from, statement_at, statement, is_opening_brace, is_close_brace, is_label, ends_labels, ends_statements, until, all_until, label, label_at, begins_label, switch_clause, switch_head, switch_from}
use Rattle.c_grammar.proofs.Options.{some_is, none_is, clash, bind_some, bind_after, guard_some, place_of, after_mark, closes, joins}
use Rattle.c_grammar.proofs.Sound.{sound as expression_sound, Found, close_paren_is, colon_is}
use Rattle.c_grammar.proofs.SoundLists.{FoundOf, SoundPart, found_is, choice_some, semicolon_is, sizes, declaration_sound}
use Rattle.c_grammar.proofs.CompleteStatements.{NoElse, begins_with_labels}
use Rattle.c_grammar.proofs.StatementParts.{depth_empty, depth_value, depth_declare, depth_block, depth_if_only, depth_if_else, depth_while, depth_do, depth_for, depth_switch, depth_clause, depth_break, depth_continue, depth_return, open_empty, open_value, open_block, open_if_else, open_while, open_do, open_for, open_switch, open_break, open_continue, open_return}

-- The tokens begin with a spelling of the statement, and no `else` stands behind it where it is open.
pub record FoundStatement (n : ℕ) (ts : List Token) (y : Stmt × List Token) : Type 0 where
  pub front : List Token
  pub split : ts ≡ front ++ y.1
  pub reads : ReadsStatement front y.0
  pub deep : statement_depth y.0 ≤ n
  pub greedy : is_open y.0 ≡ true → NoElse y.1

abbrev pub Sound : ℕ → (List Token → Read Stmt) → Type 0
Sound n self = (ts : List Token) (y : Stmt × List Token) → self ts ≡ Some y → FoundStatement n ts y

statement_is : {n : ℕ} {ts : List Token} {x y : Stmt × List Token} → FoundStatement n ts x → Some x ≡ Some y → FoundStatement n ts y
statement_is {n} {ts} f h = subst (λ z. FoundStatement n ts z) (some_is h) f

shut : {A : Type 0} {b : Bool} → b ≡ false → b ≡ true → A
shut h g = absurd (clash g h)

open_paren_is : (kind : TokenKind) → is_open_paren kind ≡ true → kind ≡ kinds.Sign signs.OpenParen
open_paren_is (kinds.Sign signs.OpenParen) h = refl
open_paren_is _ h = absurd cc

while_is : (kind : TokenKind) → is_while kind ≡ true → kind ≡ kinds.Word words.While
while_is (kinds.Word words.While) h = refl
while_is _ h = absurd cc

-- an expression with its semicolon
value_sound : (n : ℕ) → SoundPart (λ ts c. (a : List Token) × (e : Expr) × (p : Place) × (ts ≡ a ++ sign signs.Semicolon p ∷ []) × Reads comma a e × (c ≡ Value e)) (value_from n) statement_depth (suc n)
value_sound n ts y h = let r : (x : Expr × List Token) × (read n comma ts ≡ Some x) × ((after is_semicolon x.1 >>= λ rest. Some (Value x.0, rest)) ≡ Some y) = bind_some (read n comma ts) (λ x. after is_semicolon x.1 >>= λ rest. Some (Value x.0, rest)) y h in let q : (rest : List Token) × (after is_semicolon r.0.1 ≡ Some rest) × (Some (Value r.0.0, rest) ≡ Some y) = bind_some (after is_semicolon r.0.1) (λ rest. Some (Value r.0.0, rest)) y r.2 in let b : Found comma n ts r.0 = expression_sound n comma ts r.0 r.1 in let c : (p : Place) × (r.0.1 ≡ sign signs.Semicolon p ∷ q.0) = after_mark is_semicolon (kinds.Sign signs.Semicolon) semicolon_is r.0.1 q.0 q.1 in found_is (record { front = b.front ++ sign signs.Semicolon c.0 ∷ []; split = closes ts b.front r.0.1 q.0 (sign signs.Semicolon c.0) b.split c.1; reads = (b.front, r.0.0, c.0, refl, b.reads, refl); deep = omega (arith, depth_value r.0.0, b.deep) }) q.2

value_statement : (n : ℕ) (ts : List Token) (y : Stmt × List Token) → value_from n ts ≡ Some y → FoundStatement (suc n) ts y
value_statement n ts y h = let f = value_sound n ts y h in let reads : ReadsStatement f.front y.0 = subst (λ us. ReadsStatement us y.0) (sym f.reads.3) (subst (λ c. ReadsStatement (f.reads.0 ++ sign signs.Semicolon f.reads.2 ∷ []) c) (sym f.reads.5) (value f.reads.2 f.reads.4)) in record { front = f.front; split = f.split; reads = reads; deep = f.deep; greedy = shut (ap is_open f.reads.5 ∙ open_value f.reads.1) }

-- an expression between parentheses
record FoundTest (n : ℕ) (ts : List Token) (y : Expr × List Token) : Type 0 where
  front : List Token
  open_at : Place
  close_at : Place
  split : ts ≡ sign signs.OpenParen open_at ∷ (front ++ sign signs.CloseParen close_at ∷ y.1)
  reads : Reads comma front y.0
  deep : expression_depth y.0 ≤ n

tested_sound : (n : ℕ) (ts : List Token) (y : Expr × List Token) → tested n ts ≡ Some y → FoundTest n ts y
tested_sound n ts y h = let r : (a : List Token) × (after is_open_paren ts ≡ Some a) × ((read n comma a >>= λ x. after is_close_paren x.1 >>= λ rest. Some (x.0, rest)) ≡ Some y) = bind_some (after is_open_paren ts) (λ a. read n comma a >>= λ x. after is_close_paren x.1 >>= λ rest. Some (x.0, rest)) y h in let q : (x : Expr × List Token) × (read n comma r.0 ≡ Some x) × ((after is_close_paren x.1 >>= λ rest. Some (x.0, rest)) ≡ Some y) = bind_some (read n comma r.0) (λ x. after is_close_paren x.1 >>= λ rest. Some (x.0, rest)) y r.2 in let z : (rest : List Token) × (after is_close_paren q.0.1 ≡ Some rest) × (Some (q.0.0, rest) ≡ Some y) = bind_some (after is_close_paren q.0.1) (λ rest. Some (q.0.0, rest)) y q.2 in let o : (p : Place) × (ts ≡ sign signs.OpenParen p ∷ r.0) = after_mark is_open_paren (kinds.Sign signs.OpenParen) open_paren_is ts r.0 r.1 in let b : Found comma n r.0 q.0 = expression_sound n comma r.0 q.0 q.1 in let c : (p : Place) × (q.0.1 ≡ sign signs.CloseParen p ∷ z.0) = after_mark is_close_paren (kinds.Sign signs.CloseParen) close_paren_is q.0.1 z.0 z.1 in subst (λ w. FoundTest n ts w) (some_is z.2) (record { front = b.front; open_at = o.0; close_at = c.0; split = o.1 ∙ ap (λ us. sign signs.OpenParen o.0 ∷ us) (b.split ∙ ap (λ us. b.front ++ us) c.1); reads = b.reads; deep = b.deep })

-- where a test and a statement were read behind it, all of it is split so
behind : (ts a b rest c : List Token) (p q : Place) → ts ≡ sign signs.OpenParen p ∷ (a ++ sign signs.CloseParen q ∷ b) → b ≡ c ++ rest → ts ≡ (sign signs.OpenParen p ∷ (a ++ sign signs.CloseParen q ∷ c)) ++ rest
behind ts a b rest c p q h g = h ∙ ap (λ us. sign signs.OpenParen p ∷ (a ++ sign signs.CloseParen q ∷ us)) g ∙ ap (λ us. sign signs.OpenParen p ∷ us) (sym (append_assoc a (sign signs.CloseParen q ∷ c) rest))

if_only_found : (n : ℕ) (p : Place) (ts : List Token) (x : Expr × List Token) (y : Stmt × List Token) → FoundTest n ts x → FoundStatement n x.1 y → NoElse y.1 → FoundStatement (suc n) (word words.If p ∷ ts) (If x.0 y.0 None, y.1)
if_only_found n p ts x y f g e = record { front = word words.If p ∷ sign signs.OpenParen f.open_at ∷ (f.front ++ sign signs.CloseParen f.close_at ∷ g.front); split = ap (λ us. word words.If p ∷ us) (behind ts f.front x.1 y.1 g.front f.open_at f.close_at f.split g.split); reads = if_only p f.open_at f.close_at f.reads g.reads; deep = omega (arith, depth_if_only x.0 y.0, f.deep, g.deep); greedy = λ o. e }

not_open : (b : Bool) → (b ≡ true → ⊥) → b ≡ false
not_open true h = absurd (h refl)
not_open false h = refl

else_sound : (n : ℕ) (self : List Token → Read Stmt) → Sound n self → (p : Place) (ts : List Token) (x : Expr × List Token) (a : Stmt) (kind : TokenKind) (q : Place) (us : List Token) (y : Stmt × List Token) → FoundTest n ts x → FoundStatement n x.1 (a, mark kind q ∷ us) → else_at self x.0 a kind (mark kind q) us ≡ Some y → FoundStatement (suc n) (word words.If p ∷ ts) y
else_sound n self s p ts x a (kinds.Word words.Else) q us y f g h = let r : (z : Stmt × List Token) × (self us ≡ Some z) × (Some (If x.0 a (Some z.0), z.1) ≡ Some y) = bind_some (self us) (λ z. Some (If x.0 a (Some z.0), z.1)) y h in let b : FoundStatement n us r.0 = s us r.0 r.1 in statement_is (record { front = word words.If p ∷ sign signs.OpenParen f.open_at ∷ (f.front ++ sign signs.CloseParen f.close_at ∷ (g.front ++ word words.Else q ∷ b.front)); split = ap (λ us. word words.If p ∷ us) (behind ts f.front x.1 r.0.1 (g.front ++ word words.Else q ∷ b.front) f.open_at f.close_at f.split (joins x.1 g.front us b.front r.0.1 (word words.Else q) g.split b.split)); reads = if_else p f.open_at f.close_at q (not_open (is_open a) (λ o. clash refl (g.greedy o))) f.reads g.reads b.reads; deep = omega (arith, depth_if_else x.0 a r.0.0, f.deep, g.deep, b.deep); greedy = λ o. b.greedy (sym (open_if_else x.0 a r.0.0) ∙ o) }) r.2
else_sound n self s p ts x a kind q us y f g h = statement_is (if_only_found n p ts x (a, mark kind q ∷ us) f g refl) h

then_sound : (n : ℕ) (self : List Token → Read Stmt) → Sound n self → (p : Place) (ts : List Token) (x : Expr × List Token) (a : Stmt) (us : List Token) (y : Stmt × List Token) → FoundTest n ts x → FoundStatement n x.1 (a, us) → after_then self x.0 a us ≡ Some y → FoundStatement (suc n) (word words.If p ∷ ts) y
then_sound n self s p ts x a [] y f g h = statement_is (if_only_found n p ts x (a, []) f g tt) h
then_sound n self s p ts x a (t ∷ us) y f g h = else_sound n self s p ts x a t.kind (place_of t) us y f g h

if_sound : (n : ℕ) (self : List Token → Read Stmt) → Sound n self → (p : Place) (ts : List Token) (y : Stmt × List Token) → if_from self n ts ≡ Some y → FoundStatement (suc n) (word words.If p ∷ ts) y
if_sound n self s p ts y h = let r : (x : Expr × List Token) × (tested n ts ≡ Some x) × ((self x.1 >>= λ y. after_then self x.0 y.0 y.1) ≡ Some y) = bind_some (tested n ts) (λ x. self x.1 >>= λ y. after_then self x.0 y.0 y.1) y h in let q : (z : Stmt × List Token) × (self r.0.1 ≡ Some z) × (after_then self r.0.0 z.0 z.1 ≡ Some y) = bind_some (self r.0.1) (λ y. after_then self r.0.0 y.0 y.1) y r.2 in then_sound n self s p ts r.0 q.0.0 q.0.1 y (tested_sound n ts r.0 r.1) (s r.0.1 q.0 q.1) q.2

while_sound : (n : ℕ) (self : List Token → Read Stmt) → Sound n self → (p : Place) (ts : List Token) (y : Stmt × List Token) → while_from self n ts ≡ Some y → FoundStatement (suc n) (word words.While p ∷ ts) y
while_sound n self s p ts y h = let r : (x : Expr × List Token) × (tested n ts ≡ Some x) × ((self x.1 >>= λ y. Some (While x.0 y.0, y.1)) ≡ Some y) = bind_some (tested n ts) (λ x. self x.1 >>= λ y. Some (While x.0 y.0, y.1)) y h in let q : (z : Stmt × List Token) × (self r.0.1 ≡ Some z) × (Some (While r.0.0 z.0, z.1) ≡ Some y) = bind_some (self r.0.1) (λ y. Some (While r.0.0 y.0, y.1)) y r.2 in let f : FoundTest n ts r.0 = tested_sound n ts r.0 r.1 in let g : FoundStatement n r.0.1 q.0 = s r.0.1 q.0 q.1 in statement_is (record { front = word words.While p ∷ sign signs.OpenParen f.open_at ∷ (f.front ++ sign signs.CloseParen f.close_at ∷ g.front); split = ap (λ us. word words.While p ∷ us) (behind ts f.front r.0.1 q.0.1 g.front f.open_at f.close_at f.split g.split); reads = while p f.open_at f.close_at f.reads g.reads; deep = omega (arith, depth_while r.0.0 q.0.0, f.deep, g.deep); greedy = λ o. g.greedy (sym (open_while r.0.0 q.0.0) ∙ o) }) q.2

do_sound : (n : ℕ) (self : List Token → Read Stmt) → Sound n self → (p : Place) (ts : List Token) (y : Stmt × List Token) → do_from self n ts ≡ Some y → FoundStatement (suc n) (word words.Do p ∷ ts) y
do_sound n self s p ts y h = let r : (x : Stmt × List Token) × (self ts ≡ Some x) × ((after is_while x.1 >>= λ a. tested n a >>= λ y. after is_semicolon y.1 >>= λ rest. Some (Do x.0 y.0, rest)) ≡ Some y) = bind_some (self ts) (λ x. after is_while x.1 >>= λ a. tested n a >>= λ y. after is_semicolon y.1 >>= λ rest. Some (Do x.0 y.0, rest)) y h in let a : (us : List Token) × (after is_while r.0.1 ≡ Some us) × ((tested n us >>= λ y. after is_semicolon y.1 >>= λ rest. Some (Do r.0.0 y.0, rest)) ≡ Some y) = bind_some (after is_while r.0.1) (λ a. tested n a >>= λ y. after is_semicolon y.1 >>= λ rest. Some (Do r.0.0 y.0, rest)) y r.2 in let z : (x : Expr × List Token) × (tested n a.0 ≡ Some x) × ((after is_semicolon x.1 >>= λ rest. Some (Do r.0.0 x.0, rest)) ≡ Some y) = bind_some (tested n a.0) (λ y. after is_semicolon y.1 >>= λ rest. Some (Do r.0.0 y.0, rest)) y a.2 in let v : (rest : List Token) × (after is_semicolon z.0.1 ≡ Some rest) × (Some (Do r.0.0 z.0.0, rest) ≡ Some y) = bind_some (after is_semicolon z.0.1) (λ rest. Some (Do r.0.0 z.0.0, rest)) y z.2 in let f : FoundStatement n ts r.0 = s ts r.0 r.1 in let w : (q : Place) × (r.0.1 ≡ word words.While q ∷ a.0) = after_mark is_while (kinds.Word words.While) while_is r.0.1 a.0 a.1 in let g : FoundTest n a.0 z.0 = tested_sound n a.0 z.0 z.1 in let e : (q : Place) × (z.0.1 ≡ sign signs.Semicolon q ∷ v.0) = after_mark is_semicolon (kinds.Sign signs.Semicolon) semicolon_is z.0.1 v.0 v.1 in statement_is (record { front = word words.Do p ∷ (f.front ++ word words.While w.0 ∷ sign signs.OpenParen g.open_at ∷ (g.front ++ sign signs.CloseParen g.close_at ∷ sign signs.Semicolon e.0 ∷ [])); split = ap (λ us. word words.Do p ∷ us) (joins ts f.front a.0 (sign signs.OpenParen g.open_at ∷ (g.front ++ sign signs.CloseParen g.close_at ∷ sign signs.Semicolon e.0 ∷ [])) v.0 (word words.While w.0) (f.split ∙ ap (λ us. f.front ++ us) w.1) (behind a.0 g.front z.0.1 v.0 (sign signs.Semicolon e.0 ∷ []) g.open_at g.close_at g.split e.1)); reads = do_while p w.0 g.open_at g.close_at e.0 f.reads g.reads; deep = omega (arith, depth_do r.0.0 z.0.0, f.deep, g.deep); greedy = shut (open_do r.0.0 z.0.0) }) v.2

-- an expression that may be left out
maybe_at_sound : (n : ℕ) (b : Bool) → SoundPart ReadsMaybe (maybe_at n b) (or_zero expression_depth) n
maybe_at_sound n true ts y h = let r : (x : Expr × List Token) × (read n comma ts ≡ Some x) × (Some (Some x.0, x.1) ≡ Some y) = bind_some (read n comma ts) (λ x. Some (Some x.0, x.1)) y h in let b : Found comma n ts r.0 = expression_sound n comma ts r.0 r.1 in found_is (record { front = b.front; split = b.split; reads = just b.reads; deep = b.deep }) r.2
maybe_at_sound n false ts y h = found_is (record { front = []; split = refl; reads = nothing; deep = omega arith }) h

maybe_sound : (n : ℕ) → SoundPart ReadsMaybe (maybe n) (or_zero expression_depth) n
maybe_sound n ts y h = maybe_at_sound n (starts_here ts) ts y h

-- the first clause of a `for`
clause_value : (n : ℕ) (ts : List Token) (y : Stmt × List Token) → value_from n ts ≡ Some y → FoundOf ReadsFirst statement_depth (suc n) ts y
clause_value n ts y h = let f = value_sound n ts y h in let reads : ReadsFirst f.front y.0 = subst (λ us. ReadsFirst us y.0) (sym f.reads.3) (subst (λ c. ReadsFirst (f.reads.0 ++ sign signs.Semicolon f.reads.2 ∷ []) c) (sym f.reads.5) (first_value f.reads.2 f.reads.4)) in record { front = f.front; split = f.split; reads = reads; deep = f.deep }

clause_declare : (n : ℕ) (ts : List Token) (y : Stmt × List Token) → (declaration n ts >>= λ x. Some (Declare x.0, x.1)) ≡ Some y → FoundOf ReadsFirst statement_depth (suc n) ts y
clause_declare n ts y h = let r : (x : List Local × List Token) × (declaration n ts ≡ Some x) × (Some (Declare x.0, x.1) ≡ Some y) = bind_some (declaration n ts) (λ x. Some (Declare x.0, x.1)) y h in let f : FoundOf Declares (sizes local_depth) n ts r.0 = declaration_sound n ts r.0 r.1 in found_is (record { front = f.front; split = f.split; reads = first_declare f.reads; deep = omega (arith, depth_declare r.0.0, f.deep) }) r.2

clause_either : (n : ℕ) (b : Bool) (ts : List Token) (y : Stmt × List Token) → (if b then (declaration n ts >>= λ x. Some (Declare x.0, x.1)) else value_from n ts) ≡ Some y → FoundOf ReadsFirst statement_depth (suc n) ts y
clause_either n true ts y h = clause_declare n ts y h
clause_either n false ts y h = clause_value n ts y h

clause_at_sound : (n : ℕ) (kind : TokenKind) (p : Place) (ts : List Token) (y : Stmt × List Token) → clause_at n kind (mark kind p) ts ≡ Some y → FoundOf ReadsFirst statement_depth (suc n) (mark kind p ∷ ts) y
clause_at_sound n (kinds.Sign signs.Semicolon) p ts y h = found_is (record { front = sign signs.Semicolon p ∷ []; split = refl; reads = first_empty p; deep = omega (arith, depth_empty) }) h
clause_at_sound n kind p ts y h = clause_either n (is_specifier kind) (mark kind p ∷ ts) y h

clause_sound : (n : ℕ) → SoundPart ReadsFirst (clause n) statement_depth n
clause_sound zero ts y h = absurd (none_is h)
clause_sound (suc n) [] y h = absurd (none_is h)
clause_sound (suc n) (t ∷ ts) y h = clause_at_sound n t.kind (place_of t) ts y h

for_found : (n : ℕ) (p : Place) (ts a b c : List Token) (x : Stmt × List Token) (u z : Option Expr × List Token) (w y : Stmt × List Token) → ((q : Place) × (ts ≡ sign signs.OpenParen q ∷ a)) → FoundOf ReadsFirst statement_depth n a x → FoundOf ReadsMaybe (or_zero expression_depth) n x.1 u → ((q : Place) × (u.1 ≡ sign signs.Semicolon q ∷ b)) → FoundOf ReadsMaybe (or_zero expression_depth) n b z → ((q : Place) × (z.1 ≡ sign signs.CloseParen q ∷ c)) → FoundStatement n c w → Some (For x.0 u.0 z.0 w.0, w.1) ≡ Some y → FoundStatement (suc n) (word words.For p ∷ ts) y
for_found n p ts a b c x u z w y o f g i j k l h = let inner : x.1 ≡ (g.front ++ sign signs.Semicolon i.0 ∷ (j.front ++ sign signs.CloseParen k.0 ∷ l.front)) ++ w.1 = joins x.1 g.front b (j.front ++ sign signs.CloseParen k.0 ∷ l.front) w.1 (sign signs.Semicolon i.0) (g.split ∙ ap (λ us. g.front ++ us) i.1) (joins b j.front c l.front w.1 (sign signs.CloseParen k.0) (j.split ∙ ap (λ us. j.front ++ us) k.1) l.split) in statement_is (record { front = word words.For p ∷ sign signs.OpenParen o.0 ∷ (f.front ++ (g.front ++ sign signs.Semicolon i.0 ∷ (j.front ++ sign signs.CloseParen k.0 ∷ l.front))); split = ap (λ us. word words.For p ∷ us) (o.1 ∙ ap (λ us. sign signs.OpenParen o.0 ∷ us) (f.split ∙ ap (λ us. f.front ++ us) inner ∙ sym (append_assoc f.front (g.front ++ sign signs.Semicolon i.0 ∷ (j.front ++ sign signs.CloseParen k.0 ∷ l.front)) w.1))); reads = for p o.0 i.0 k.0 f.reads g.reads j.reads l.reads; deep = omega (arith, depth_for x.0 u.0 z.0 w.0, f.deep, g.deep, j.deep, l.deep); greedy = λ m. l.greedy (sym (open_for x.0 u.0 z.0 w.0) ∙ m) }) h

-- what stands between the parentheses of a `for`, part by part
record FoundHead (n : ℕ) (ts : List Token) (k : (Stmt × Option Expr × Option Expr) × List Token) : Type 0 where
  a : List Token
  b : List Token
  c : List Token
  x : Stmt × List Token
  u : Option Expr × List Token
  z : Option Expr × List Token
  opens : (q : Place) × (ts ≡ sign signs.OpenParen q ∷ a)
  first : FoundOf ReadsFirst statement_depth n a x
  test : FoundOf ReadsMaybe (or_zero expression_depth) n x.1 u
  parts : (q : Place) × (u.1 ≡ sign signs.Semicolon q ∷ b)
  after : FoundOf ReadsMaybe (or_zero expression_depth) n b z
  closes : (q : Place) × (z.1 ≡ sign signs.CloseParen q ∷ c)
  is : ((x.0, u.0, z.0), c) ≡ k

for_head_sound : (n : ℕ) (ts : List Token) (k : (Stmt × Option Expr × Option Expr) × List Token) → for_head n ts ≡ Some k → FoundHead n ts k
for_head_sound n ts k h =
    let a : (us : List Token) × (after is_open_paren ts ≡ Some us) × ((clause n us >>= λ x. maybe_before is_semicolon n x.1 >>= λ y. maybe_before is_close_paren n y.1 >>= λ z. Some ((x.0, y.0, z.0), z.1)) ≡ Some k) = bind_some (after is_open_paren ts) (λ us. clause n us >>= λ x. maybe_before is_semicolon n x.1 >>= λ y. maybe_before is_close_paren n y.1 >>= λ z. Some ((x.0, y.0, z.0), z.1)) k h in
    let x : (x : Stmt × List Token) × (clause n a.0 ≡ Some x) × ((maybe_before is_semicolon n x.1 >>= λ y. maybe_before is_close_paren n y.1 >>= λ z. Some ((x.0, y.0, z.0), z.1)) ≡ Some k) = bind_some (clause n a.0) (λ x. maybe_before is_semicolon n x.1 >>= λ y. maybe_before is_close_paren n y.1 >>= λ z. Some ((x.0, y.0, z.0), z.1)) k a.2 in
    let u : (v : Option Expr × List Token) × (maybe n x.0.1 ≡ Some v) × ((after is_semicolon v.1 >>= λ b. maybe_before is_close_paren n b >>= λ z. Some ((x.0.0, v.0, z.0), z.1)) ≡ Some k) = bind_some (maybe n x.0.1) (λ v. after is_semicolon v.1 >>= λ b. maybe_before is_close_paren n b >>= λ z. Some ((x.0.0, v.0, z.0), z.1)) k (sym (bind_after (maybe n x.0.1) is_semicolon (λ y. maybe_before is_close_paren n y.1 >>= λ z. Some ((x.0.0, y.0, z.0), z.1))) ∙ x.2) in
    let b : (us : List Token) × (after is_semicolon u.0.1 ≡ Some us) × ((maybe_before is_close_paren n us >>= λ z. Some ((x.0.0, u.0.0, z.0), z.1)) ≡ Some k) = bind_some (after is_semicolon u.0.1) (λ us. maybe_before is_close_paren n us >>= λ z. Some ((x.0.0, u.0.0, z.0), z.1)) k u.2 in
    let z : (v : Option Expr × List Token) × (maybe n b.0 ≡ Some v) × ((after is_close_paren v.1 >>= λ c. Some ((x.0.0, u.0.0, v.0), c)) ≡ Some k) = bind_some (maybe n b.0) (λ v. after is_close_paren v.1 >>= λ c. Some ((x.0.0, u.0.0, v.0), c)) k (sym (bind_after (maybe n b.0) is_close_paren (λ z. Some ((x.0.0, u.0.0, z.0), z.1))) ∙ b.2) in
    let c : (us : List Token) × (after is_close_paren z.0.1 ≡ Some us) × (Some ((x.0.0, u.0.0, z.0.0), us) ≡ Some k) = bind_some (after is_close_paren z.0.1) (λ us. Some ((x.0.0, u.0.0, z.0.0), us)) k z.2 in
    record {
      a = a.0;
      b = b.0;
      c = c.0;
      x = x.0;
      u = u.0;
      z = z.0;
      opens = after_mark is_open_paren (kinds.Sign signs.OpenParen) open_paren_is ts a.0 a.1;
      first = clause_sound n a.0 x.0 x.1;
      test = maybe_sound n x.0.1 u.0 u.1;
      parts = after_mark is_semicolon (kinds.Sign signs.Semicolon) semicolon_is u.0.1 b.0 b.1;
      after = maybe_sound n b.0 z.0 z.1;
      closes = after_mark is_close_paren (kinds.Sign signs.CloseParen) close_paren_is z.0.1 c.0 c.1;
      is = some_is c.2;
    }

for_sound : (n : ℕ) (self : List Token → Read Stmt) → Sound n self → (p : Place) (ts : List Token) (y : Stmt × List Token) → for_from self n ts ≡ Some y → FoundStatement (suc n) (word words.For p ∷ ts) y
for_sound n self s p ts y h =
    let k : (k : (Stmt × Option Expr × Option Expr) × List Token) × (for_head n ts ≡ Some k) × ((self k.1 >>= λ w. Some (For k.0.0 k.0.1 k.0.2 w.0, w.1)) ≡ Some y) = bind_some (for_head n ts) (λ k. self k.1 >>= λ w. Some (For k.0.0 k.0.1 k.0.2 w.0, w.1)) y h in
    let f : FoundHead n ts k.0 = for_head_sound n ts k.0 k.1 in
    let g : (self f.c >>= λ w. Some (For f.x.0 f.u.0 f.z.0 w.0, w.1)) ≡ Some y = subst (λ k. (self k.1 >>= λ w. Some (For k.0.0 k.0.1 k.0.2 w.0, w.1)) ≡ Some y) (sym f.is) k.2 in
    let w : (v : Stmt × List Token) × (self f.c ≡ Some v) × (Some (For f.x.0 f.u.0 f.z.0 v.0, v.1) ≡ Some y) = bind_some (self f.c) (λ w. Some (For f.x.0 f.u.0 f.z.0 w.0, w.1)) y g in
    for_found n p ts f.a f.b f.c f.x f.u f.z w.0 y f.opens f.first f.test f.parts f.after f.closes (s f.c w.0 w.1) w.2

return_sound : (n : ℕ) (p : Place) (ts : List Token) (y : Stmt × List Token) → return_from n p.at ts ≡ Some y → FoundStatement (suc n) (word words.Return p ∷ ts) y
return_sound n p ts y h = let r : (x : Option Expr × List Token) × (maybe n ts ≡ Some x) × ((after is_semicolon x.1 >>= λ rest. Some (Return x.0 p.at, rest)) ≡ Some y) = bind_some (maybe n ts) (λ x. after is_semicolon x.1 >>= λ rest. Some (Return x.0 p.at, rest)) y (sym (bind_after (maybe n ts) is_semicolon (λ x. Some (Return x.0 p.at, x.1))) ∙ h) in let q : (rest : List Token) × (after is_semicolon r.0.1 ≡ Some rest) × (Some (Return r.0.0 p.at, rest) ≡ Some y) = bind_some (after is_semicolon r.0.1) (λ rest. Some (Return r.0.0 p.at, rest)) y r.2 in let f : FoundOf ReadsMaybe (or_zero expression_depth) n ts r.0 = maybe_sound n ts r.0 r.1 in let c : (z : Place) × (r.0.1 ≡ sign signs.Semicolon z ∷ q.0) = after_mark is_semicolon (kinds.Sign signs.Semicolon) semicolon_is r.0.1 q.0 q.1 in statement_is (record { front = word words.Return p ∷ (f.front ++ sign signs.Semicolon c.0 ∷ []); split = ap (λ us. word words.Return p ∷ us) (closes ts f.front r.0.1 q.0 (sign signs.Semicolon c.0) f.split c.1); reads = return p c.0 f.reads; deep = omega (arith, depth_return r.0.0 p.at, f.deep); greedy = shut (open_return r.0.0 p.at) }) q.2

-- the parts of a block
pub record FoundBody (n : ℕ) (ts : List Token) (y : List Stmt × List Token) : Type 0 where
  pub front : List Token
  pub close : Place
  pub split : ts ≡ front ++ sign signs.CloseBrace close ∷ y.1
  pub reads : ReadsBody front y.0
  pub deep : greatest (map statement_depth y.0) ≤ n

body_is : {n : ℕ} {ts : List Token} {x y : List Stmt × List Token} → FoundBody n ts x → Some x ≡ Some y → FoundBody n ts y
body_is {n} {ts} f h = subst (λ z. FoundBody n ts z) (some_is h) f

abbrev SoundBody : ℕ → (List Token → Read (List Stmt)) → Type 0
SoundBody n go = (ts : List Token) (y : List Stmt × List Token) → go ts ≡ Some y → FoundBody n ts y

-- a declaration or a statement, as a part
part_sound : (n : ℕ) (self : List Token → Read Stmt) → Sound n self → (b : Bool) → SoundPart (λ ts c. (ds : List Token) (cs : List Stmt) → ReadsBody ds cs → ReadsBody (ts ++ ds) (c ∷ cs)) (part self n b) statement_depth n
part_sound zero self s true ts y h = absurd (none_is h)
part_sound (suc n) self s true ts y h = let r : (x : List Local × List Token) × (declaration n ts ≡ Some x) × (Some (Declare x.0, x.1) ≡ Some y) = bind_some (declaration n ts) (λ x. Some (Declare x.0, x.1)) y h in let f : FoundOf Declares (sizes local_depth) n ts r.0 = declaration_sound n ts r.0 r.1 in found_is (record { front = f.front; split = f.split; reads = λ ds cs d. declare f.reads d; deep = omega (arith, depth_declare r.0.0, f.deep) }) r.2
part_sound n self s false ts y h = let f : FoundStatement n ts y = s ts y h in record { front = f.front; split = f.split; reads = λ ds cs d. next f.reads d; deep = f.deep }

body_at_sound : (n : ℕ) (self : List Token → Read Stmt) → Sound n self → (go : List Token → Read (List Stmt)) → SoundBody n go → (kind : TokenKind) (p : Place) (ts : List Token) (y : List Stmt × List Token) → body_at self n go kind (mark kind p) ts ≡ Some y → FoundBody n (mark kind p ∷ ts) y
body_at_sound n self s go g (kinds.Sign signs.CloseBrace) p ts y h = body_is (record { front = []; close = p; split = refl; reads = no_more; deep = omega arith }) h
body_at_sound n self s go g kind p ts y h = let all : List Token = mark kind p ∷ ts in let r : (x : Stmt × List Token) × (part self n (is_specifier kind) all ≡ Some x) × ((go x.1 >>= λ y. Some (x.0 ∷ y.0, y.1)) ≡ Some y) = bind_some (part self n (is_specifier kind) all) (λ x. go x.1 >>= λ y. Some (x.0 ∷ y.0, y.1)) y h in let q : (x : List Stmt × List Token) × (go r.0.1 ≡ Some x) × (Some (r.0.0 ∷ x.0, x.1) ≡ Some y) = bind_some (go r.0.1) (λ y. Some (r.0.0 ∷ y.0, y.1)) y r.2 in let f = part_sound n self s (is_specifier kind) all r.0 r.1 in let b : FoundBody n r.0.1 q.0 = g r.0.1 q.0 q.1 in body_is (record { front = f.front ++ b.front; close = b.close; split = f.split ∙ ap (λ us. f.front ++ us) b.split ∙ sym (append_assoc f.front b.front (sign signs.CloseBrace b.close ∷ q.0.1)); reads = f.reads b.front q.0.0 b.reads; deep = omega (arith, f.deep, b.deep) }) q.2

pub body_sound : (n : ℕ) (self : List Token → Read Stmt) → Sound n self → (f : ℕ) → SoundBody n (body self n f)
body_sound n self s zero ts y h = absurd (none_is h)
body_sound n self s (suc f) [] y h = absurd (none_is h)
body_sound n self s (suc f) (t ∷ ts) y h = body_at_sound n self s (body self n f) (body_sound n self s f) t.kind (place_of t) ts y h

block_sound : (n : ℕ) (self : List Token → Read Stmt) → Sound n self → (p : Place) (ts : List Token) (y : Stmt × List Token) → (body self n (suc (length ts)) ts >>= λ x. Some (Block x.0, x.1)) ≡ Some y → FoundStatement (suc n) (sign signs.OpenBrace p ∷ ts) y
block_sound n self s p ts y h = let r : (x : List Stmt × List Token) × (body self n (suc (length ts)) ts ≡ Some x) × (Some (Block x.0, x.1) ≡ Some y) = bind_some (body self n (suc (length ts)) ts) (λ x. Some (Block x.0, x.1)) y h in let f : FoundBody n ts r.0 = body_sound n self s (suc (length ts)) ts r.0 r.1 in statement_is (record { front = sign signs.OpenBrace p ∷ (f.front ++ sign signs.CloseBrace f.close ∷ []); split = ap (λ us. sign signs.OpenBrace p ∷ us) (closes ts f.front (sign signs.CloseBrace f.close ∷ r.0.1) r.0.1 (sign signs.CloseBrace f.close) f.split refl); reads = block p f.close f.reads; deep = omega (arith, depth_block r.0.0, f.deep); greedy = shut (open_block r.0.0) }) r.2

-- ---- parts up to a token that ends them

-- the parts of a list one behind the other
pub data Many {A : Type 0} (R : List Token → A → Type 0) : List Token → List A → Type 0 where
  none : Many R [] []
  more : {a b : List Token} {x : A} {xs : List A} → R a x → Many R b xs → Many R (a ++ b) (x ∷ xs)

-- at its first token the list ends
pub record Ended (ends : TokenKind → Bool) (ts : List Token) : Type 0 where
  pub first : Token
  pub rest : List Token
  pub is : ts ≡ first ∷ rest
  pub ends_it : ends first.kind ≡ true

pub record FoundList {A : Type 0} (R : List Token → A → Type 0) (size : A → ℕ) (ends : TokenKind → Bool) (n : ℕ) (ts : List Token) (y : List A × List Token) : Type 0 where
  pub front : List Token
  pub split : ts ≡ front ++ y.1
  pub reads : Many R front y.0
  pub deep : sizes size y.0 ≤ n
  pub ended : Ended ends y.1

list_is : {A : Type 0} {R : List Token → A → Type 0} {size : A → ℕ} {ends : TokenKind → Bool} {n : ℕ} {ts : List Token} {x y : List A × List Token} → FoundList R size ends n ts x → Some x ≡ Some y → FoundList R size ends n ts y
list_is {A} {R} {size} {ends} {n} {ts} f h = subst (λ z. FoundList R size ends n ts z) (some_is h) f

pub until_sound : {A : Type 0} (R : List Token → A → Type 0) (size : A → ℕ) (ends : TokenKind → Bool) (item : List Token → Read A) (n : ℕ) → SoundPart R item size n → (f : ℕ) (ts : List Token) (y : List A × List Token) → until ends item f ts ≡ Some y → FoundList R size ends n ts y
until_sound R size ends item n s zero ts y h = absurd (none_is h)
until_sound R size ends item n s (suc f) [] y h = absurd (none_is h)
until_sound {A} R size ends item n s (suc f) (t ∷ ts) y h = elim (choice_some (ends t.kind) (Some ([], t ∷ ts)) (item (t ∷ ts) >>= λ x. until ends item f x.1 >>= λ y. Some (x.0 ∷ y.0, y.1)) y h) [ inl c ↦ list_is (record { front = []; split = refl; reads = none; deep = omega arith; ended = record { first = t; rest = ts; is = refl; ends_it = c.0 } }) c.1 | inr c ↦ (let r : (x : A × List Token) × (item (t ∷ ts) ≡ Some x) × ((until ends item f x.1 >>= λ y. Some (x.0 ∷ y.0, y.1)) ≡ Some y) = bind_some (item (t ∷ ts)) (λ x. until ends item f x.1 >>= λ y. Some (x.0 ∷ y.0, y.1)) y c.1 in let q : (z : List A × List Token) × (until ends item f r.0.1 ≡ Some z) × (Some (r.0.0 ∷ z.0, z.1) ≡ Some y) = bind_some (until ends item f r.0.1) (λ y. Some (r.0.0 ∷ y.0, y.1)) y r.2 in let a : FoundOf R size n (t ∷ ts) r.0 = s (t ∷ ts) r.0 r.1 in let b : FoundList R size ends n r.0.1 q.0 = until_sound R size ends item n s f r.0.1 q.0 q.1 in list_is (record { front = a.front ++ b.front; split = a.split ∙ ap (λ us. a.front ++ us) b.split ∙ sym (append_assoc a.front b.front q.0.1); reads = more a.reads b.reads; deep = omega (arith, a.deep, b.deep); ended = b.ended }) q.2) ]

-- ---- labels

label_at_sound : (n : ℕ) (kind : TokenKind) (p : Place) (ts : List Token) (y : Label × List Token) → label_at n kind p.at ts ≡ Some y → FoundOf ReadsLabel label_depth n (mark kind p ∷ ts) y
label_at_sound n (kinds.Word words.Case) p ts y h = let r : (x : Expr × List Token) × (read n cond ts ≡ Some x) × ((after is_colon x.1 >>= λ rest. Some (labels.Case x.0 p.at, rest)) ≡ Some y) = bind_some (read n cond ts) (λ x. after is_colon x.1 >>= λ rest. Some (labels.Case x.0 p.at, rest)) y h in let q : (rest : List Token) × (after is_colon r.0.1 ≡ Some rest) × (Some (labels.Case r.0.0 p.at, rest) ≡ Some y) = bind_some (after is_colon r.0.1) (λ rest. Some (labels.Case r.0.0 p.at, rest)) y r.2 in let b : Found cond n ts r.0 = expression_sound n cond ts r.0 r.1 in let c : (q' : Place) × (r.0.1 ≡ sign signs.Colon q' ∷ q.0) = after_mark is_colon (kinds.Sign signs.Colon) colon_is r.0.1 q.0 q.1 in found_is (record { front = word words.Case p ∷ (b.front ++ sign signs.Colon c.0 ∷ []); split = ap (λ us. word words.Case p ∷ us) (closes ts b.front r.0.1 q.0 (sign signs.Colon c.0) b.split c.1); reads = case p c.0 b.reads; deep = b.deep }) q.2
label_at_sound n (kinds.Word words.Default) p ts y h = let q : (rest : List Token) × (after is_colon ts ≡ Some rest) × (Some (labels.Otherwise p.at, rest) ≡ Some y) = bind_some (after is_colon ts) (λ rest. Some (labels.Otherwise p.at, rest)) y h in let c : (q' : Place) × (ts ≡ sign signs.Colon q' ∷ q.0) = after_mark is_colon (kinds.Sign signs.Colon) colon_is ts q.0 q.1 in found_is (record { front = word words.Default p ∷ sign signs.Colon c.0 ∷ []; split = ap (λ us. word words.Default p ∷ us) c.1; reads = default p c.0; deep = omega arith }) q.2
label_at_sound n _ p ts y h = absurd (none_is h)

pub label_sound : (n : ℕ) → SoundPart ReadsLabel (label n) label_depth n
label_sound n [] y h = absurd (none_is h)
label_sound n (t ∷ ts) y h = label_at_sound n t.kind (place_of t) ts y h

labels_are : (ts : List Token) (l : Label) (ls : List Label) → Many ReadsLabel ts (l ∷ ls) → ReadsLabels ts (l ∷ ls)
labels_are _ l [] (more {a} d none) = subst (λ us. ReadsLabels us (l ∷ [])) (sym (append-nil a)) (last_label d)
labels_are _ l (l' ∷ ls) (more {a} {b} d ds) = next_label d (labels_are b l' ls ds)

statements_are : (ts : List Token) (cs : List Stmt) → Many ReadsStatement ts cs → ReadsStatements ts cs
statements_are _ _ none = no_statement
statements_are _ _ (more {b} {xs} d ds) = further_statement d (statements_are b xs ds)

-- ---- clauses

brace_is : (kind : TokenKind) → is_opening_brace kind ≡ true → kind ≡ kinds.Sign signs.OpenBrace
brace_is (kinds.Sign signs.OpenBrace) h = refl
brace_is _ h = absurd cc

close_brace_is : (kind : TokenKind) → is_close_brace kind ≡ true → kind ≡ kinds.Sign signs.CloseBrace
close_brace_is (kinds.Sign signs.CloseBrace) h = refl
close_brace_is _ h = absurd cc

-- where both labels and statements end stands the brace
both_end : (kind : TokenKind) → ends_labels kind ≡ true → ends_statements kind ≡ true → is_close_brace kind ≡ true
both_end (kinds.Sign signs.CloseBrace) h g = refl
both_end (kinds.Word words.Case) h g = absurd (clash h refl)
both_end (kinds.Word words.Default) h g = absurd (clash h refl)
both_end _ h g = absurd (clash g refl)

-- a clause, its parts, and what stands behind it
pub record FoundClause (n : ℕ) (ts : List Token) (y : Clause × List Token) : Type 0 where
  pub front : List Token
  pub split : ts ≡ front ++ y.1
  pub ls : List Label
  pub cs : List Stmt
  pub is : y.0 ≡ clause_of ls cs
  pub reads : (d : List Token) (more : List Clause) → (cs ≡ [] → more ≡ []) → ReadsClauses d more → ReadsClauses (front ++ d) (clause_of ls cs ∷ more)
  pub deep : clause_depth y.0 ≤ n
  pub ended : cs ≡ [] → Ended is_close_brace y.1
  pub begins : (t : Token) × (us : List Token) × (front ≡ t ∷ us)

many_nil : {A : Type 0} {R : List Token → A → Type 0} {ts : List Token} {xs : List A} → Many R ts xs → xs ≡ [] → ts ≡ []
many_nil none e = refl
many_nil (more {x} {xs} d ds) e = absurd (cons_nil e)
  where
    cons_nil : x ∷ xs ≡ [] → ⊥
    cons_nil z = cc

-- whether the first token is of a kind
first_is : (TokenKind → Bool) → List Token → Bool
first_is is [] = false
first_is is (t ∷ ts) = is t.kind

first_same : (is : TokenKind → Bool) (t u : Token) (ts us : List Token) → t ∷ ts ≡ u ∷ us → is t.kind ≡ is u.kind
unfolding first_is
first_same is t u ts us h = ap (first_is is) h

label_ended : (kind : TokenKind) → ends_labels kind ≡ true → is_label kind ≡ false
label_ended (kinds.Word words.Case) z = sym z
label_ended (kinds.Word words.Default) z = sym z
label_ended _ z = refl

no_labels : (ts rest : List Token) → begins_label ts ≡ true → Ended ends_labels rest → ts ≡ rest → ⊥
no_labels ts rest h e g = clash (sym (ap begins_label (g ∙ e.is)) ∙ h) (label_ended e.first.kind e.ends_it)

brace_follows : (mid rest : List Token) → mid ≡ rest → Ended ends_labels mid → Ended ends_statements rest → Ended is_close_brace rest
brace_follows mid rest h a b = record { first = b.first; rest = b.rest; is = b.is; ends_it = both_end b.first.kind (sym (first_same ends_labels a.first b.first a.rest b.rest (sym a.is ∙ h ∙ b.is)) ∙ a.ends_it) b.ends_it }

clause_found : (n : ℕ) (ts : List Token) (ls : List Label) (mid : List Token) (cs : List Stmt) (rest : List Token) → begins_label ts ≡ true → FoundList ReadsLabel label_depth ends_labels n ts (ls, mid) → FoundList ReadsStatement statement_depth ends_statements n mid (cs, rest) → FoundClause n ts (clause_of ls cs, rest)
clause_found n ts [] mid cs rest h a b = absurd (no_labels ts mid h a.ended (a.split ∙ ap (λ us. us ++ mid) (many_nil a.reads refl)))
clause_found n ts (l ∷ ls) mid cs rest h a b =
    let labelled : ReadsLabels a.front (l ∷ ls) = labels_are a.front l ls a.reads in
    let m = begins_with_labels labelled in
    record {
      front = a.front ++ b.front;
      split = a.split ∙ ap (λ us. a.front ++ us) b.split ∙ sym (append_assoc a.front b.front rest);
      ls = l ∷ ls;
      cs = cs;
      is = refl;
      reads = λ d more e z. subst (λ us. ReadsClauses us (clause_of (l ∷ ls) cs ∷ more)) (sym (append_assoc a.front b.front d)) (further_clause labelled (statements_are b.front cs b.reads) e z);
      deep = omega (arith, depth_clause (l ∷ ls) cs, a.deep, b.deep);
      ended = λ e. brace_follows mid rest (b.split ∙ ap (λ us. us ++ rest) (many_nil b.reads e)) a.ended b.ended;
      begins = (m.0, m.1 ++ b.front, ap (λ us. us ++ b.front) m.2);
    }

clause_is : {n : ℕ} {ts : List Token} {x y : Clause × List Token} → FoundClause n ts x → Some x ≡ Some y → FoundClause n ts y
clause_is {n} {ts} f h = subst (λ z. FoundClause n ts z) (some_is h) f

-- a statement, without what is said of an `else` behind it
statement_part : (n : ℕ) (self : List Token → Read Stmt) → Sound n self → SoundPart ReadsStatement self statement_depth n
statement_part n self s ts y h = let f : FoundStatement n ts y = s ts y h in record { front = f.front; split = f.split; reads = f.reads; deep = f.deep }

pub switch_clause_sound : (n : ℕ) (self : List Token → Read Stmt) → Sound n self → (ts : List Token) (y : Clause × List Token) → switch_clause self n ts ≡ Some y → FoundClause n ts y
switch_clause_sound n self s ts y h =
    let g : (begins_label ts ≡ true) × ((all_until ends_labels (label n) ts >>= λ x. all_until ends_statements self x.1 >>= λ y. Some (clause_of x.0 y.0, y.1)) ≡ Some y) = guard_some (begins_label ts) (all_until ends_labels (label n) ts >>= λ x. all_until ends_statements self x.1 >>= λ y. Some (clause_of x.0 y.0, y.1)) y h in
    let r : (x : List Label × List Token) × (all_until ends_labels (label n) ts ≡ Some x) × ((all_until ends_statements self x.1 >>= λ y. Some (clause_of x.0 y.0, y.1)) ≡ Some y) = bind_some (all_until ends_labels (label n) ts) (λ x. all_until ends_statements self x.1 >>= λ y. Some (clause_of x.0 y.0, y.1)) y g.1 in
    let q : (z : List Stmt × List Token) × (all_until ends_statements self r.0.1 ≡ Some z) × (Some (clause_of r.0.0 z.0, z.1) ≡ Some y) = bind_some (all_until ends_statements self r.0.1) (λ y. Some (clause_of r.0.0 y.0, y.1)) y r.2 in
    clause_is (clause_found n ts r.0.0 r.0.1 q.0.0 q.0.1 g.0 (until_sound ReadsLabel label_depth ends_labels (label n) n (label_sound n) (suc (length ts)) ts r.0 r.1) (until_sound ReadsStatement statement_depth ends_statements self n (statement_part n self s) (suc (length r.0.1)) r.0.1 q.0 q.1)) q.2

-- the clauses of a `switch`, none where its brace is first
record FoundClauses (n : ℕ) (ts : List Token) (y : List Clause × List Token) : Type 0 where
  front : List Token
  split : ts ≡ front ++ y.1
  reads : ReadsClauses front y.0
  deep : greatest (map clause_depth y.0) ≤ n
  stops : Ended is_close_brace ts → y.0 ≡ []

clauses_are : {n : ℕ} {ts : List Token} {x y : List Clause × List Token} → FoundClauses n ts x → Some x ≡ Some y → FoundClauses n ts y
clauses_are {n} {ts} f h = subst (λ z. FoundClauses n ts z) (some_is h) f

one_clause : (n : ℕ) (t : Token) (ts : List Token) (x : Clause × List Token) (z : List Clause × List Token) → is_close_brace t.kind ≡ false → FoundClause n (t ∷ ts) x → FoundClauses n x.1 z → FoundClauses n (t ∷ ts) (x.0 ∷ z.0, z.1)
one_clause n t ts x z o a b = record {
  front = a.front ++ b.front;
  split = a.split ∙ ap (λ us. a.front ++ us) b.split ∙ sym (append_assoc a.front b.front z.1);
  reads = subst (λ c. ReadsClauses (a.front ++ b.front) (c ∷ z.0)) (sym a.is) (a.reads b.front z.0 (λ e. b.stops (a.ended e)) b.reads);
  deep = omega (arith, a.deep, b.deep);
  stops = λ e. absurd (clash (first_same is_close_brace t e.first ts e.rest e.is ∙ e.ends_it) o);
}

clauses_sound : (n : ℕ) (self : List Token → Read Stmt) → Sound n self → (f : ℕ) (ts : List Token) (y : List Clause × List Token) → until is_close_brace (switch_clause self n) f ts ≡ Some y → FoundClauses n ts y
clauses_sound n self s zero ts y h = absurd (none_is h)
clauses_sound n self s (suc f) [] y h = absurd (none_is h)
clauses_sound n self s (suc f) (t ∷ ts) y h = elim (choice_some (is_close_brace t.kind) (Some ([], t ∷ ts)) (switch_clause self n (t ∷ ts) >>= λ x. until is_close_brace (switch_clause self n) f x.1 >>= λ y. Some (x.0 ∷ y.0, y.1)) y h) [ inl c ↦ clauses_are (record { front = []; split = refl; reads = no_clause; deep = omega arith; stops = λ e. refl }) c.1 | inr c ↦ (let r : (x : Clause × List Token) × (switch_clause self n (t ∷ ts) ≡ Some x) × ((until is_close_brace (switch_clause self n) f x.1 >>= λ y. Some (x.0 ∷ y.0, y.1)) ≡ Some y) = bind_some (switch_clause self n (t ∷ ts)) (λ x. until is_close_brace (switch_clause self n) f x.1 >>= λ y. Some (x.0 ∷ y.0, y.1)) y c.1 in let q : (z : List Clause × List Token) × (until is_close_brace (switch_clause self n) f r.0.1 ≡ Some z) × (Some (r.0.0 ∷ z.0, z.1) ≡ Some y) = bind_some (until is_close_brace (switch_clause self n) f r.0.1) (λ y. Some (r.0.0 ∷ y.0, y.1)) y r.2 in clauses_are (one_clause n t ts r.0 q.0 c.0 (switch_clause_sound n self s (t ∷ ts) r.0 r.1) (clauses_sound n self s f r.0.1 q.0 q.1)) q.2) ]

switch_found : (n : ℕ) (p : Place) (ts a rest : List Token) (x : Expr × List Token) (y : List Clause × List Token) → FoundTest n ts x → ((q : Place) × (x.1 ≡ sign signs.OpenBrace q ∷ a)) → FoundClauses n a y → ((q : Place) × (y.1 ≡ sign signs.CloseBrace q ∷ rest)) → FoundStatement (suc n) (word words.Switch p ∷ ts) (Switch x.0 y.0, rest)
switch_found n p ts a rest x y f o g c = record {
  front = word words.Switch p ∷ sign signs.OpenParen f.open_at ∷ (f.front ++ sign signs.CloseParen f.close_at ∷ sign signs.OpenBrace o.0 ∷ (g.front ++ sign signs.CloseBrace c.0 ∷ []));
  split = ap (λ us. word words.Switch p ∷ us) (behind ts f.front x.1 rest (sign signs.OpenBrace o.0 ∷ (g.front ++ sign signs.CloseBrace c.0 ∷ [])) f.open_at f.close_at f.split (o.1 ∙ ap (λ us. sign signs.OpenBrace o.0 ∷ us) (closes a g.front y.1 rest (sign signs.CloseBrace c.0) g.split c.1)));
  reads = switch p f.open_at f.close_at o.0 c.0 f.reads g.reads;
  deep = omega (arith, depth_switch x.0 y.0, f.deep, g.deep);
  greedy = shut (open_switch x.0 y.0);
}

switch_sound : (n : ℕ) (self : List Token → Read Stmt) → Sound n self → (p : Place) (ts : List Token) (y : Stmt × List Token) → switch_from self n ts ≡ Some y → FoundStatement (suc n) (word words.Switch p ∷ ts) y
switch_sound n self s p ts y h =
    let k : (k : Expr × List Token) × (switch_head n ts ≡ Some k) × ((all_until is_close_brace (switch_clause self n) k.1 >>= λ y. closed is_close_brace (Switch k.0 y.0) y.1) ≡ Some y) = bind_some (switch_head n ts) (λ k. all_until is_close_brace (switch_clause self n) k.1 >>= λ y. closed is_close_brace (Switch k.0 y.0) y.1) y h in
    let r : (x : Expr × List Token) × (tested n ts ≡ Some x) × ((after is_opening_brace x.1 >>= λ a. Some (x.0, a)) ≡ Some k.0) = bind_some (tested n ts) (λ x. after is_opening_brace x.1 >>= λ a. Some (x.0, a)) k.0 k.1 in
    let a : (us : List Token) × (after is_opening_brace r.0.1 ≡ Some us) × (Some (r.0.0, us) ≡ Some k.0) = bind_some (after is_opening_brace r.0.1) (λ a. Some (r.0.0, a)) k.0 r.2 in
    let g : (all_until is_close_brace (switch_clause self n) a.0 >>= λ y. closed is_close_brace (Switch r.0.0 y.0) y.1) ≡ Some y = subst (λ k. (all_until is_close_brace (switch_clause self n) k.1 >>= λ y. closed is_close_brace (Switch k.0 y.0) y.1) ≡ Some y) (sym (some_is a.2)) k.2 in
    let z : (x : List Clause × List Token) × (all_until is_close_brace (switch_clause self n) a.0 ≡ Some x) × (closed is_close_brace (Switch r.0.0 x.0) x.1 ≡ Some y) = bind_some (all_until is_close_brace (switch_clause self n) a.0) (λ y. closed is_close_brace (Switch r.0.0 y.0) y.1) y g in
    let v : (rest : List Token) × (after is_close_brace z.0.1 ≡ Some rest) × (Some (Switch r.0.0 z.0.0, rest) ≡ Some y) = bind_some (after is_close_brace z.0.1) (λ rest. Some (Switch r.0.0 z.0.0, rest)) y z.2 in
    statement_is (switch_found n p ts a.0 v.0 r.0 z.0 (tested_sound n ts r.0 r.1) (after_mark is_opening_brace (kinds.Sign signs.OpenBrace) brace_is r.0.1 a.0 a.1) (clauses_sound n self s (suc (length a.0)) a.0 z.0 z.1) (after_mark is_close_brace (kinds.Sign signs.CloseBrace) close_brace_is z.0.1 v.0 v.1)) v.2

-- a word and its semicolon
word_sound : (n : ℕ) (w : Keyword) (c : ℕ → Stmt) → ((p q : Place) → ReadsStatement (word w p ∷ sign signs.Semicolon q ∷ []) (c p.at)) → ((at : ℕ) → statement_depth (c at) ≡ 1) → ((at : ℕ) → is_open (c at) ≡ false) → (p : Place) (ts : List Token) (y : Stmt × List Token) → (after is_semicolon ts >>= λ rest. Some (c p.at, rest)) ≡ Some y → FoundStatement (suc n) (word w p ∷ ts) y
word_sound n w c d deep o p ts y h = let r : (rest : List Token) × (after is_semicolon ts ≡ Some rest) × (Some (c p.at, rest) ≡ Some y) = bind_some (after is_semicolon ts) (λ rest. Some (c p.at, rest)) y h in let q : (q : Place) × (ts ≡ sign signs.Semicolon q ∷ r.0) = after_mark is_semicolon (kinds.Sign signs.Semicolon) semicolon_is ts r.0 r.1 in statement_is (record { front = word w p ∷ sign signs.Semicolon q.0 ∷ []; split = ap (λ us. word w p ∷ us) q.1; reads = d p q.0; deep = omega (arith, deep p.at); greedy = shut (o p.at) }) r.2

statement_at_sound : (n : ℕ) (self : List Token → Read Stmt) → Sound n self → (kind : TokenKind) (p : Place) (ts : List Token) (y : Stmt × List Token) → statement_at self n kind (mark kind p) ts ≡ Some y → FoundStatement (suc n) (mark kind p ∷ ts) y
statement_at_sound n self s (kinds.Sign signs.Semicolon) p ts y h = statement_is (record { front = sign signs.Semicolon p ∷ []; split = refl; reads = empty p; deep = omega (arith, depth_empty); greedy = shut open_empty }) h
statement_at_sound n self s (kinds.Sign signs.OpenBrace) p ts y h = block_sound n self s p ts y h
statement_at_sound n self s (kinds.Word words.If) p ts y h = if_sound n self s p ts y h
statement_at_sound n self s (kinds.Word words.While) p ts y h = while_sound n self s p ts y h
statement_at_sound n self s (kinds.Word words.Do) p ts y h = do_sound n self s p ts y h
statement_at_sound n self s (kinds.Word words.For) p ts y h = for_sound n self s p ts y h
statement_at_sound n self s (kinds.Word words.Switch) p ts y h = switch_sound n self s p ts y h
statement_at_sound n self s (kinds.Word words.Break) p ts y h = word_sound n words.Break Break break depth_break open_break p ts y h
statement_at_sound n self s (kinds.Word words.Continue) p ts y h = word_sound n words.Continue Continue continue depth_continue open_continue p ts y h
statement_at_sound n self s (kinds.Word words.Return) p ts y h = return_sound n p ts y h
statement_at_sound n self s kind p ts y h = value_statement n (mark kind p ∷ ts) y h

pub sound : (n : ℕ) → Sound n (statement n)
sound zero ts y h = absurd (none_is h)
sound (suc n) [] y h = absurd (none_is h)
sound (suc n) (t ∷ ts) y h = statement_at_sound n (statement n) (sound n) t.kind (place_of t) ts y h
