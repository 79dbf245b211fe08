-- What is in the grammar of statements is read.
use Rattle.std.proofs.Common.{◌≡◌, ◌≤◌, ◌<◌, ◌+◌, ◌++◌, ℕ, zero, suc, Bool, true, false, List, [], ◌∷◌, map, max, Option, Some, None, refl, sym, ap, ◌∙◌, arith, subst, length}
use Rattle.std.proofs.lemmas.List.{append_assoc, length-append}
use Rattle.c_lexer.specs.declared.token.Token.{Token}
use Rattle.c_lexer.specs.declared.token.TokenKind.{TokenKind}
use Rattle.c_lexer.specs.declared.token.TokenKind.TheVariants as kinds
use Rattle.c_lexer.specs.declared.token.Keyword.TheVariants as words
use Rattle.c_lexer.specs.declared.token.Punct.TheVariants as signs
use Rattle.c_syntax.specs.Sizes.{expression_depth, label_depth, clause_depth, statement_depth, or_zero, greatest}
use Rattle.c_syntax.specs.declared.tree.Expr.{Expr}
use Rattle.c_syntax.specs.declared.tree.Local.{Local}
use Rattle.c_syntax.specs.declared.tree.Label.{Label}
use Rattle.c_syntax.specs.declared.tree.Label.TheVariants as labels
use Rattle.c_syntax.specs.declared.tree.Clause.{Clause}
use Rattle.c_syntax.specs.declared.tree.Stmt.{Stmt, Empty, Value, Declare, Block, If, While, Do, For, Switch, Break, Continue, Return}
use Rattle.c_grammar.specs.Places.{Place, sign, word}
use Rattle.c_grammar.specs.Expressions.{comma, cond, Reads}
use Rattle.c_grammar.specs.Statements.{is_open, ReadsMaybe, nothing, just, Declares, ReadsFirst, first_declare, first_value, first_empty, ReadsStatement, ReadsBody, empty, value, block, if_only, if_else, while, do_while, for, switch, break, continue, return, no_more, declare, next, ReadsLabel, case, default, ReadsLabels, last_label, next_label, clause_of, ReadsStatements, no_statement, ReadsClauses, no_clause}
use Rattle.c_grammar.specs.Statements.ReadsStatements.{statement as further_statement}
use Rattle.c_grammar.specs.Statements.ReadsClauses.{clause as further_clause}
use Rattle.c_grammar.specs.ReadExpressions.{Read, ◌>>=◌, read, after, closed, is_close_paren, is_colon}
use Rattle.c_grammar.specs.ReadStatements.{is_semicolon, is_close_brace, is_while, is_specifier, starts, starts_here, declaration, declare_from, value_from, maybe, maybe_before, maybe_at, clause, clause_at, tested, part, body_at, body, else_at, after_then, if_from, while_from, do_from, for_head, for_from, return_from, statement_at, statement, is_opening_brace, is_label, ends_labels, ends_statements, until, all_until, label, begins_label, switch_clause, switch_from}
use Rattle.c_grammar.proofs.Options.{clash, bind_is, length-cons}
use Rattle.c_grammar.proofs.Tables.{head_looseness}
use Rattle.c_grammar.proofs.Complete.{is_read, begins, Begins}
use Rattle.c_grammar.proofs.CompleteLists.{declaration_whole, declares_specified, Specified}
use Rattle.c_grammar.proofs.StatementParts.{depth_value, depth_declare, depth_block, depth_if_only, depth_if_else, depth_while, depth_do, depth_for, depth_switch, depth_clause, depth_return, statement_positive, open_if_only, open_if_else, open_while, open_for}

abbrev pub is_else : TokenKind → Bool
is_else (kinds.Word words.Else) = true
is_else _ = false

abbrev pub NoElse : List Token → Type 0
NoElse [] = Unit {0}
NoElse (t ∷ ts) = is_else t.kind ≡ false

-- with a token of such a kind a statement can begin
pub record Opens (kind : TokenKind) : Type 0 where
  pub no_specifier : is_specifier kind ≡ false
  pub no_brace : is_close_brace kind ≡ false
  pub no_else : is_else kind ≡ false
  pub no_label : is_label kind ≡ false

starts_word : (kind : TokenKind) → starts kind ≡ true → Opens kind
starts_word (kinds.Word w) h = absurd (clash h refl)
starts_word (kinds.Sign signs.CloseBrace) h = absurd (clash h refl)
starts_word _ h = record { no_specifier = refl; no_brace = refl; no_else = refl; no_label = refl }

-- the tokens of a statement have a first one
abbrev pub BeginsStatement : List Token → Type 0
BeginsStatement ts = (t : Token) × (us : List Token) × (ts ≡ t ∷ us) × Opens t.kind

by_word : (t : Token) (us : List Token) → is_specifier t.kind ≡ false → is_close_brace t.kind ≡ false → is_else t.kind ≡ false → is_label t.kind ≡ false → BeginsStatement (t ∷ us)
by_word t us h g k l = (t, us, refl, record { no_specifier = h; no_brace = g; no_else = k; no_label = l })

by_expression : {ts : List Token} {e : Expr} (us : List Token) → Reads comma ts e → BeginsStatement (ts ++ us)
by_expression {ts} us d = let b : Begins ts = begins d in (b.0, b.1 ++ us, ap (λ x. x ++ us) b.2, starts_word b.0.kind b.3)

pub begins_statement : {ts : List Token} {c : Stmt} → ReadsStatement ts c → BeginsStatement ts
begins_statement (empty p) = by_word _ _ refl refl refl refl
begins_statement (value p d) = by_expression _ d
begins_statement (block p q d) = by_word _ _ refl refl refl refl
begins_statement (if_only p q r d f) = by_word _ _ refl refl refl refl
begins_statement (if_else p q r s i d f g) = by_word _ _ refl refl refl refl
begins_statement (while p q r d f) = by_word _ _ refl refl refl refl
begins_statement (do_while p q r s t d f) = by_word _ _ refl refl refl refl
begins_statement (for p q r s d f g k) = by_word _ _ refl refl refl refl
begins_statement (switch p q r s t d f) = by_word _ _ refl refl refl refl
begins_statement (break p q) = by_word _ _ refl refl refl refl
begins_statement (continue p q) = by_word _ _ refl refl refl refl
begins_statement (return p q d) = by_word _ _ refl refl refl refl

specifier_no_else : (kind : TokenKind) → is_specifier kind ≡ true → is_else kind ≡ false
specifier_no_else (kinds.Word words.Else) h = absurd (clash h refl)
specifier_no_else _ h = refl

pub specifier_no_brace : (kind : TokenKind) → is_specifier kind ≡ true → is_close_brace kind ≡ false
specifier_no_brace (kinds.Sign signs.CloseBrace) h = absurd (clash h refl)
specifier_no_brace _ h = refl

no_else_of : (ts : List Token) (t : Token) (us rest : List Token) → ts ≡ t ∷ us → is_else t.kind ≡ false → NoElse (ts ++ rest)
no_else_of ts t us rest h g = subst (λ x. NoElse (x ++ rest)) (sym h) g

body_no_else : {ts : List Token} {cs : List Stmt} → ReadsBody ts cs → (q : Place) (rest : List Token) → NoElse (ts ++ sign signs.CloseBrace q ∷ rest)
body_no_else no_more q rest = refl
body_no_else (declare {a} {b} {ls} {body} d ds) q rest = let s : Specified a = declares_specified a ls d in no_else_of (a ++ b) s.0 (s.1 ++ b) (sign signs.CloseBrace q ∷ rest) (ap (λ x. x ++ b) s.2) (specifier_no_else s.0.kind s.3)
body_no_else (next {a} {b} {c} {body} d ds) q rest = let s : BeginsStatement a = begins_statement d in no_else_of (a ++ b) s.0 (s.1 ++ b) (sign signs.CloseBrace q ∷ rest) (ap (λ x. x ++ b) s.2) s.3.no_else

-- It is read, before any rest that begins with no `else` where the statement is open.
abbrev pub Whole : List Token → Stmt → Type 0
Whole ts c = (n : ℕ) (rest : List Token) → statement_depth c ≤ n → (is_open c ≡ true → NoElse rest) → statement n (ts ++ rest) ≡ Some (c, rest)

abbrev pub WholeBody : List Token → List Stmt → Type 0
WholeBody ts cs = (n f : ℕ) (q : Place) (rest : List Token) → greatest (map statement_depth cs) ≤ n → length ts < f → body (statement n) n f (ts ++ sign signs.CloseBrace q ∷ rest) ≡ Some (cs, rest)

starts_value : (self : List Token → Read Stmt) (n : ℕ) (kind : TokenKind) (t : Token) (ts : List Token) → starts kind ≡ true → statement_at self n kind t ts ≡ value_from n (t ∷ ts)
starts_value self n (kinds.Sign signs.Semicolon) t ts h = absurd (clash h refl)
starts_value self n (kinds.Sign signs.OpenBrace) t ts h = absurd (clash h refl)
starts_value self n (kinds.Word w) t ts h = absurd (clash h refl)
starts_value self n _ t ts h = refl

value_whole : {ts : List Token} {e : Expr} (p : Place) → Reads comma ts e → (n : ℕ) (rest : List Token) → expression_depth e ≤ n → value_from n ((ts ++ sign signs.Semicolon p ∷ []) ++ rest) ≡ Some (Value e, rest)
value_whole {ts} {e} p d n rest h = ap (value_from n) (append_assoc ts (sign signs.Semicolon p ∷ []) rest) ∙ bind_is (λ x. after is_semicolon x.1 >>= λ rest. Some (Value x.0, rest)) (is_read d n (sign signs.Semicolon p ∷ rest) h (omega arith))

to_value : (n : ℕ) (all : List Token) (t : Token) (us : List Token) → all ≡ t ∷ us → starts t.kind ≡ true → statement (suc n) all ≡ value_from n all
to_value n all t us h g = ap (statement (suc n)) h ∙ starts_value (statement n) n t.kind t us g ∙ ap (value_from n) (sym h)

is_value : {ts : List Token} {e : Expr} (p : Place) → Reads comma ts e → Whole (ts ++ sign signs.Semicolon p ∷ []) (Value e)
is_value {ts} {e} p d zero rest h o = absurd (omega (arith, h, statement_positive (Value e)))
is_value {ts} {e} p d (suc n) rest h o = let b : Begins ts = begins d in to_value n ((ts ++ sign signs.Semicolon p ∷ []) ++ rest) b.0 ((b.1 ++ sign signs.Semicolon p ∷ []) ++ rest) (ap (λ x. (x ++ sign signs.Semicolon p ∷ []) ++ rest) b.2) b.3 ∙ value_whole p d n rest (omega (arith, h, depth_value e))

tested_whole : {a : List Token} {e : Expr} (q r : Place) → Reads comma a e → (n : ℕ) (rest : List Token) → expression_depth e ≤ n → tested n (sign signs.OpenParen q ∷ (a ++ sign signs.CloseParen r ∷ rest)) ≡ Some (e, rest)
tested_whole {a} {e} q r d n rest h = rw (is_read d n (sign signs.CloseParen r ∷ rest) h (omega arith)) refl

no_else_stops : (self : List Token → Read Stmt) (test : Expr) (c : Stmt) (kind : TokenKind) (t : Token) (ts : List Token) → is_else kind ≡ false → else_at self test c kind t ts ≡ Some (If test c None, t ∷ ts)
no_else_stops self test c (kinds.Word words.Else) t ts h = absurd (clash refl h)
no_else_stops self test c _ t ts h = refl

then_stops : (self : List Token → Read Stmt) (test : Expr) (c : Stmt) (rest : List Token) → NoElse rest → after_then self test c rest ≡ Some (If test c None, rest)
then_stops self test c [] h = refl
then_stops self test c (t ∷ ts) h = no_else_stops self test c t.kind t ts h

is_if_only : (a b : List Token) (test : Expr) (c : Stmt) (p q r : Place) → Reads comma a test → Whole b c → Whole (word words.If p ∷ sign signs.OpenParen q ∷ (a ++ sign signs.CloseParen r ∷ b)) (If test c None)
is_if_only a b test c p q r d w zero rest h o = absurd (omega (arith, h, statement_positive (If test c None)))
is_if_only a b test c p q r d w (suc n) rest h o = ap (λ us. if_from (statement n) n (sign signs.OpenParen q ∷ us)) (append_assoc a (sign signs.CloseParen r ∷ b) rest) ∙ bind_is (λ x. statement n x.1 >>= λ y. after_then (statement n) x.0 y.0 y.1) (tested_whole q r d n (b ++ rest) (omega (arith, h, depth_if_only test c))) ∙ bind_is (λ y. after_then (statement n) test y.0 y.1) (w n rest (omega (arith, h, depth_if_only test c)) (λ z. o (open_if_only test c))) ∙ then_stops (statement n) test c rest (o (open_if_only test c))

is_if_else : (a b c : List Token) (test : Expr) (x y : Stmt) (p q r s : Place) → is_open x ≡ false → Reads comma a test → Whole b x → Whole c y → Whole (word words.If p ∷ sign signs.OpenParen q ∷ (a ++ sign signs.CloseParen r ∷ (b ++ word words.Else s ∷ c))) (If test x (Some y))
is_if_else a b c test x y p q r s i d v w zero rest h o = absurd (omega (arith, h, statement_positive (If test x (Some y))))
is_if_else a b c test x y p q r s i d v w (suc n) rest h o = ap (λ us. if_from (statement n) n (sign signs.OpenParen q ∷ us)) (append_assoc a (sign signs.CloseParen r ∷ (b ++ word words.Else s ∷ c)) rest ∙ ap (λ us. a ++ sign signs.CloseParen r ∷ us) (append_assoc b (word words.Else s ∷ c) rest)) ∙ bind_is (λ x. statement n x.1 >>= λ y. after_then (statement n) x.0 y.0 y.1) (tested_whole q r d n (b ++ word words.Else s ∷ (c ++ rest)) (omega (arith, h, depth_if_else test x y))) ∙ bind_is (λ y. after_then (statement n) test y.0 y.1) (v n (word words.Else s ∷ (c ++ rest)) (omega (arith, h, depth_if_else test x y)) (λ z. absurd (clash z i))) ∙ bind_is (λ z. Some (If test x (Some z.0), z.1)) (w n rest (omega (arith, h, depth_if_else test x y)) (λ z. o (open_if_else test x y ∙ z)))

is_while_loop : (a b : List Token) (test : Expr) (c : Stmt) (p q r : Place) → Reads comma a test → Whole b c → Whole (word words.While p ∷ sign signs.OpenParen q ∷ (a ++ sign signs.CloseParen r ∷ b)) (While test c)
is_while_loop a b test c p q r d w zero rest h o = absurd (omega (arith, h, statement_positive (While test c)))
is_while_loop a b test c p q r d w (suc n) rest h o = ap (λ us. while_from (statement n) n (sign signs.OpenParen q ∷ us)) (append_assoc a (sign signs.CloseParen r ∷ b) rest) ∙ bind_is (λ x. statement n x.1 >>= λ y. Some (While x.0 y.0, y.1)) (tested_whole q r d n (b ++ rest) (omega (arith, h, depth_while test c))) ∙ bind_is (λ y. Some (While test y.0, y.1)) (w n rest (omega (arith, h, depth_while test c)) (λ z. o (open_while test c ∙ z)))

is_do : (a b : List Token) (c : Stmt) (test : Expr) (p q r s t : Place) → Whole a c → Reads comma b test → Whole (word words.Do p ∷ (a ++ word words.While q ∷ sign signs.OpenParen r ∷ (b ++ sign signs.CloseParen s ∷ sign signs.Semicolon t ∷ []))) (Do c test)
is_do a b c test p q r s t w d zero rest h o = absurd (omega (arith, h, statement_positive (Do c test)))
is_do a b c test p q r s t w d (suc n) rest h o = ap (do_from (statement n) n) (append_assoc a (word words.While q ∷ sign signs.OpenParen r ∷ (b ++ sign signs.CloseParen s ∷ sign signs.Semicolon t ∷ [])) rest ∙ ap (λ us. a ++ word words.While q ∷ sign signs.OpenParen r ∷ us) (append_assoc b (sign signs.CloseParen s ∷ sign signs.Semicolon t ∷ []) rest)) ∙ bind_is (λ x. after is_while x.1 >>= λ a. tested n a >>= λ y. after is_semicolon y.1 >>= λ rest. Some (Do x.0 y.0, rest)) (w n (word words.While q ∷ sign signs.OpenParen r ∷ (b ++ sign signs.CloseParen s ∷ sign signs.Semicolon t ∷ rest)) (omega (arith, h, depth_do c test)) (λ z. refl)) ∙ bind_is (λ y. after is_semicolon y.1 >>= λ rest. Some (Do c y.0, rest)) (tested_whole r s d n (sign signs.Semicolon t ∷ rest) (omega (arith, h, depth_do c test)))

-- an expression that may be left out, before `;` or `)`
maybe_whole : {ts : List Token} {e : Option Expr} → ReadsMaybe ts e → (n : ℕ) (t : Token) (rest : List Token) → or_zero expression_depth e ≤ n → starts t.kind ≡ false → 14 < head_looseness (t ∷ rest) → maybe n (ts ++ t ∷ rest) ≡ Some (e, t ∷ rest)
maybe_whole nothing n t rest h g k = ap (λ b. maybe_at n b (t ∷ rest)) g
maybe_whole (just {ts} {e} d) n t rest h g k = let b : Begins ts = begins d in ap (λ x. maybe_at n x (ts ++ t ∷ rest)) (ap (λ us. starts_here (us ++ t ∷ rest)) b.2 ∙ b.3) ∙ bind_is (λ x. Some (Some x.0, x.1)) (is_read d n (t ∷ rest) h k)

pub clause_declares : (n : ℕ) (kind : TokenKind) (t : Token) (ts : List Token) → is_specifier kind ≡ true → clause_at n kind t ts ≡ (declaration n (t ∷ ts) >>= λ x. Some (Declare x.0, x.1))
clause_declares n (kinds.Sign s) t ts h = absurd (clash h refl)
clause_declares n (kinds.Word w) t ts h = rw h refl
clause_declares n _ t ts h = absurd (clash h refl)

clause_values : (n : ℕ) (kind : TokenKind) (t : Token) (ts : List Token) → starts kind ≡ true → clause_at n kind t ts ≡ value_from n (t ∷ ts)
clause_values n (kinds.Sign signs.Semicolon) t ts h = absurd (clash h refl)
clause_values n (kinds.Word w) t ts h = absurd (clash h refl)
clause_values n _ t ts h = refl

clause_whole : {ts : List Token} {c : Stmt} → ReadsFirst ts c → (n : ℕ) (rest : List Token) → statement_depth c ≤ n → clause n (ts ++ rest) ≡ Some (c, rest)
clause_whole {ts} {c} d zero rest h = absurd (omega (arith, h, statement_positive c))
clause_whole (first_declare {ts} {ls} d) (suc n) rest h = let s : Specified ts = declares_specified ts ls d in let is : ts ++ rest ≡ s.0 ∷ (s.1 ++ rest) = ap (λ x. x ++ rest) s.2 in ap (clause (suc n)) is ∙ clause_declares n s.0.kind s.0 (s.1 ++ rest) s.3 ∙ ap (λ us. declaration n us >>= λ x. Some (Declare x.0, x.1)) (sym is) ∙ bind_is (λ x. Some (Declare x.0, x.1)) (declaration_whole ts ls d n rest (omega (arith, h, depth_declare ls)))
clause_whole (first_value {ts} {e} p d) (suc n) rest h = let b : Begins ts = begins d in let is : (ts ++ sign signs.Semicolon p ∷ []) ++ rest ≡ b.0 ∷ ((b.1 ++ sign signs.Semicolon p ∷ []) ++ rest) = ap (λ x. (x ++ sign signs.Semicolon p ∷ []) ++ rest) b.2 in ap (clause (suc n)) is ∙ clause_values n b.0.kind b.0 ((b.1 ++ sign signs.Semicolon p ∷ []) ++ rest) b.3 ∙ ap (value_from n) (sym is) ∙ value_whole p d n rest (omega (arith, h, depth_value e))
clause_whole (first_empty p) (suc n) rest h = refl

for_head_whole : (a b c : List Token) (x : Stmt) (y z : Option Expr) (q r s : Place) → ReadsFirst a x → ReadsMaybe b y → ReadsMaybe c z → (n : ℕ) (rest : List Token) → statement_depth x ≤ n → or_zero expression_depth y ≤ n → or_zero expression_depth z ≤ n → for_head n (sign signs.OpenParen q ∷ (a ++ (b ++ sign signs.Semicolon r ∷ (c ++ sign signs.CloseParen s ∷ rest)))) ≡ Some ((x, y, z), rest)
for_head_whole a b c x y z q r s i j k n rest f g h =
    bind_is (λ x. maybe_before is_semicolon n x.1 >>= λ y. maybe_before is_close_paren n y.1 >>= λ z. Some ((x.0, y.0, z.0), z.1)) (clause_whole i n (b ++ sign signs.Semicolon r ∷ (c ++ sign signs.CloseParen s ∷ rest)) f)
    ∙ bind_is (λ y. maybe_before is_close_paren n y.1 >>= λ z. Some ((x, y.0, z.0), z.1)) (bind_is (λ y. after is_semicolon y.1 >>= λ b. Some (y.0, b)) (maybe_whole j n (sign signs.Semicolon r) (c ++ sign signs.CloseParen s ∷ rest) g refl (omega arith)))
    ∙ bind_is (λ z. Some ((x, y, z.0), z.1)) (bind_is (λ z. after is_close_paren z.1 >>= λ c. Some (z.0, c)) (maybe_whole k n (sign signs.CloseParen s) rest h refl (omega arith)))

is_for : (a b c d : List Token) (x w : Stmt) (y z : Option Expr) (p q r s : Place) → ReadsFirst a x → ReadsMaybe b y → ReadsMaybe c z → Whole d w → Whole (word words.For p ∷ sign signs.OpenParen q ∷ (a ++ (b ++ sign signs.Semicolon r ∷ (c ++ sign signs.CloseParen s ∷ d)))) (For x y z w)
is_for a b c d x w y z p q r s i j k l zero rest h o = absurd (omega (arith, h, statement_positive (For x y z w)))
is_for a b c d x w y z p q r s i j k l (suc n) rest h o =
    let deep : statement_depth (For x y z w) ≡ 1 + max (statement_depth x) (max (or_zero expression_depth y) (max (or_zero expression_depth z) (statement_depth w))) = depth_for x y z w in
    ap (λ us. for_from (statement n) n (sign signs.OpenParen q ∷ us)) (append_assoc a (b ++ sign signs.Semicolon r ∷ (c ++ sign signs.CloseParen s ∷ d)) rest ∙ ap (λ us. a ++ us) (append_assoc b (sign signs.Semicolon r ∷ (c ++ sign signs.CloseParen s ∷ d)) rest ∙ ap (λ us. b ++ sign signs.Semicolon r ∷ us) (append_assoc c (sign signs.CloseParen s ∷ d) rest)))
    ∙ bind_is (λ h. statement n h.1 >>= λ w. Some (For h.0.0 h.0.1 h.0.2 w.0, w.1)) (for_head_whole a b c x y z q r s i j k n (d ++ rest) (omega (arith, h, deep)) (omega (arith, h, deep)) (omega (arith, h, deep)))
    ∙ bind_is (λ w. Some (For x y z w.0, w.1)) (l n rest (omega (arith, h, deep)) (λ m. o (open_for x y z w ∙ m)))

is_return : (ts : List Token) (e : Option Expr) (p q : Place) → ReadsMaybe ts e → Whole (word words.Return p ∷ (ts ++ sign signs.Semicolon q ∷ [])) (Return e p.at)
is_return ts e p q d zero rest h o = absurd (omega (arith, h, statement_positive (Return e p.at)))
is_return ts e p q d (suc n) rest h o = ap (return_from n p.at) (append_assoc ts (sign signs.Semicolon q ∷ []) rest) ∙ bind_is (λ x. Some (Return x.0 p.at, x.1)) (bind_is (λ x. after is_semicolon x.1 >>= λ rest. Some (x.0, rest)) (maybe_whole d n (sign signs.Semicolon q) rest (omega (arith, h, depth_return e p.at)) refl (omega arith)))

is_block : (ts : List Token) (cs : List Stmt) (p q : Place) → WholeBody ts cs → Whole (sign signs.OpenBrace p ∷ (ts ++ sign signs.CloseBrace q ∷ [])) (Block cs)
is_block ts cs p q w zero rest h o = absurd (omega (arith, h, statement_positive (Block cs)))
is_block ts cs p q w (suc n) rest h o = let all : List Token = ts ++ sign signs.CloseBrace q ∷ rest in ap (λ us. body (statement n) n (suc (length us)) us >>= λ x. Some (Block x.0, x.1)) (append_assoc ts (sign signs.CloseBrace q ∷ []) rest) ∙ bind_is (λ x. Some (Block x.0, x.1)) (w n (suc (length all)) q rest (omega (arith, h, depth_block cs)) (omega (arith, length-append ts (sign signs.CloseBrace q ∷ rest))))

is_empty : (p : Place) → Whole (sign signs.Semicolon p ∷ []) Empty
is_empty p zero rest h o = absurd (omega (arith, h, statement_positive Empty))
is_empty p (suc n) rest h o = refl

is_break : (p q : Place) → Whole (word words.Break p ∷ sign signs.Semicolon q ∷ []) (Break p.at)
is_break p q zero rest h o = absurd (omega (arith, h, statement_positive (Break p.at)))
is_break p q (suc n) rest h o = refl

is_continue : (p q : Place) → Whole (word words.Continue p ∷ sign signs.Semicolon q ∷ []) (Continue p.at)
is_continue p q zero rest h o = absurd (omega (arith, h, statement_positive (Continue p.at)))
is_continue p q (suc n) rest h o = refl

-- a part of a block that isn't its end
body_goes : (self : List Token → Read Stmt) (n : ℕ) (go : List Token → Read (List Stmt)) (kind : TokenKind) (t : Token) (ts : List Token) → is_close_brace kind ≡ false → body_at self n go kind t ts ≡ (part self n (is_specifier kind) (t ∷ ts) >>= λ x. go x.1 >>= λ y. Some (x.0 ∷ y.0, y.1))
body_goes self n go (kinds.Sign signs.CloseBrace) t ts h = absurd (clash refl h)
body_goes self n go _ t ts h = refl

pub body_step : (self : List Token → Read Stmt) (n f : ℕ) (all : List Token) (t : Token) (us : List Token) (b : Bool) → all ≡ t ∷ us → is_close_brace t.kind ≡ false → is_specifier t.kind ≡ b → body self n (suc f) all ≡ (part self n b all >>= λ x. body self n f x.1 >>= λ y. Some (x.0 ∷ y.0, y.1))
body_step self n f all t us b h g k = ap (body self n (suc f)) h ∙ body_goes self n (body self n f) t.kind t us g ∙ ap (λ z. part self n z (t ∷ us) >>= λ x. body self n f x.1 >>= λ y. Some (x.0 ∷ y.0, y.1)) k ∙ ap (λ us. part self n b us >>= λ x. body self n f x.1 >>= λ y. Some (x.0 ∷ y.0, y.1)) (sym h)

declare_whole : (ts : List Token) (ls : List Local) → Declares ts ls → (n : ℕ) (rest : List Token) → statement_depth (Declare ls) ≤ n → declare_from n (ts ++ rest) ≡ Some (Declare ls, rest)
declare_whole ts ls d zero rest h = absurd (omega (arith, h, statement_positive (Declare ls)))
declare_whole ts ls d (suc n) rest h = bind_is (λ x. Some (Declare x.0, x.1)) (declaration_whole ts ls d n rest (omega (arith, h, depth_declare ls)))

body_declare : (a b : List Token) (ls : List Local) (cs : List Stmt) → Declares a ls → WholeBody b cs → WholeBody (a ++ b) (Declare ls ∷ cs)
body_declare a b ls cs d w n zero q rest h g = absurd (omega (arith, g))
body_declare a b ls cs d w n (suc f) q rest h g = let s : Specified a = declares_specified a ls d in let all : List Token = b ++ sign signs.CloseBrace q ∷ rest in ap (body (statement n) n (suc f)) (append_assoc a b (sign signs.CloseBrace q ∷ rest)) ∙ body_step (statement n) n f (a ++ all) s.0 (s.1 ++ all) true (ap (λ x. x ++ all) s.2) (specifier_no_brace s.0.kind s.3) s.3 ∙ bind_is (λ x. body (statement n) n f x.1 >>= λ y. Some (x.0 ∷ y.0, y.1)) (declare_whole a ls d n all (omega (arith, h))) ∙ bind_is (λ y. Some (Declare ls ∷ y.0, y.1)) (w n f q rest (omega (arith, h)) (omega (arith, g, length-append a b, ap length s.2, length-cons s.0 s.1)))

body_next : (a b : List Token) (c : Stmt) (cs : List Stmt) → BeginsStatement a → ((q : Place) (rest : List Token) → NoElse (b ++ sign signs.CloseBrace q ∷ rest)) → Whole a c → WholeBody b cs → WholeBody (a ++ b) (c ∷ cs)
body_next a b c cs s e v w n zero q rest h g = absurd (omega (arith, g))
body_next a b c cs s e v w n (suc f) q rest h g = let all : List Token = b ++ sign signs.CloseBrace q ∷ rest in ap (body (statement n) n (suc f)) (append_assoc a b (sign signs.CloseBrace q ∷ rest)) ∙ body_step (statement n) n f (a ++ all) s.0 (s.1 ++ all) false (ap (λ x. x ++ all) s.2) s.3.no_brace s.3.no_specifier ∙ bind_is (λ x. body (statement n) n f x.1 >>= λ y. Some (x.0 ∷ y.0, y.1)) (v n all (omega (arith, h)) (λ z. e q rest)) ∙ bind_is (λ y. Some (c ∷ y.0, y.1)) (w n f q rest (omega (arith, h)) (omega (arith, g, length-append a b, ap length s.2, length-cons s.0 s.1)))

body_none : WholeBody [] []
body_none n zero q rest h g = absurd (omega (arith, g))
body_none n (suc f) q rest h g = refl

-- ---- parts up to a token that ends them

pub until_ends : {A : Type 0} (ends : TokenKind → Bool) (item : List Token → Read A) (f : ℕ) (t : Token) (rest : List Token) → ends t.kind ≡ true → until ends item (suc f) (t ∷ rest) ≡ Some ([], t ∷ rest)
until_ends ends item f t rest h = rw h refl

pub until_goes : {A : Type 0} (ends : TokenKind → Bool) (item : List Token → Read A) (f : ℕ) (all : List Token) (t : Token) (us : List Token) → all ≡ t ∷ us → ends t.kind ≡ false → until ends item (suc f) all ≡ (item all >>= λ x. until ends item f x.1 >>= λ y. Some (x.0 ∷ y.0, y.1))
until_goes ends item f all t us h g = ap (until ends item (suc f)) h ∙ rw g refl ∙ ap (λ us. item us >>= λ x. until ends item f x.1 >>= λ y. Some (x.0 ∷ y.0, y.1)) (sym h)

-- one part, and then the others
until_whole : {A : Type 0} (ends : TokenKind → Bool) (item : List Token → Read A) (f : ℕ) (a rest last : List Token) (t : Token) (us : List Token) (x : A) (xs : List A) → a ≡ t ∷ us → ends t.kind ≡ false → item (a ++ rest) ≡ Some (x, rest) → until ends item f rest ≡ Some (xs, last) → until ends item (suc f) (a ++ rest) ≡ Some (x ∷ xs, last)
until_whole ends item f a rest last t us x xs h g i k =
    until_goes ends item f (a ++ rest) t (us ++ rest) (ap (λ z. z ++ rest) h) g ∙ bind_is (λ x. until ends item f x.1 >>= λ y. Some (x.0 ∷ y.0, y.1)) i ∙ bind_is (λ y. Some (x ∷ y.0, y.1)) k

-- ---- labels

abbrev pub BeginsLabel : List Token → Type 0
BeginsLabel ts = (t : Token) × (us : List Token) × (ts ≡ t ∷ us) × (is_label t.kind ≡ true)

pub begins_with_label : {ts : List Token} {l : Label} → ReadsLabel ts l → BeginsLabel ts
begins_with_label (case p q d) = (_, _, refl, refl)
begins_with_label (default p q) = (_, _, refl, refl)

pub begins_with_labels : {ts : List Token} {ls : List Label} → ReadsLabels ts ls → BeginsLabel ts
begins_with_labels (last_label d) = begins_with_label d
begins_with_labels (next_label {a} {b} d ds) = let s : BeginsLabel a = begins_with_label d in (s.0, s.1 ++ b, ap (λ x. x ++ b) s.2, s.3)

label_whole : {ts : List Token} {l : Label} → ReadsLabel ts l → (n : ℕ) (rest : List Token) → label_depth l ≤ n → label n (ts ++ rest) ≡ Some (l, rest)
label_whole (case {ts} {e} p q d) n rest h = ap (λ us. read n cond us >>= λ x. after is_colon x.1 >>= λ rest. Some (labels.Case x.0 p.at, rest)) (append_assoc ts (sign signs.Colon q ∷ []) rest) ∙ bind_is (λ x. after is_colon x.1 >>= λ rest. Some (labels.Case x.0 p.at, rest)) (is_read d n (sign signs.Colon q ∷ rest) h (omega arith))
label_whole (default p q) n rest h = refl

pub not_ended : (kind : TokenKind) → is_label kind ≡ true → ends_labels kind ≡ false
not_ended kind h = rw h refl

labels_whole : {ts : List Token} {ls : List Label} → ReadsLabels ts ls → (n f : ℕ) (t : Token) (rest : List Token) → ends_labels t.kind ≡ true → greatest (map label_depth ls) ≤ n → length ts < f → until ends_labels (label n) f (ts ++ t ∷ rest) ≡ Some (ls, t ∷ rest)
labels_whole d n zero t rest e h g = absurd (omega (arith, g))
labels_whole (last_label {ts} {l} d) n (suc zero) t rest e h g = let s : BeginsLabel ts = begins_with_label d in absurd (omega (arith, g, ap length s.2, length-cons s.0 s.1))
labels_whole (last_label {ts} {l} d) n (suc (suc f)) t rest e h g =
    let s : BeginsLabel ts = begins_with_label d in
    until_whole ends_labels (label n) (suc f) ts (t ∷ rest) (t ∷ rest) s.0 s.1 l [] s.2 (not_ended s.0.kind s.3) (label_whole d n (t ∷ rest) (omega (arith, h))) (until_ends ends_labels (label n) f t rest e)
labels_whole (next_label {a} {b} {l} {ls} d ds) n (suc f) t rest e h g =
    let s : BeginsLabel a = begins_with_label d in
    ap (until ends_labels (label n) (suc f)) (append_assoc a b (t ∷ rest)) ∙ until_whole ends_labels (label n) f a (b ++ t ∷ rest) (t ∷ rest) s.0 s.1 l ls s.2 (not_ended s.0.kind s.3) (label_whole d n (b ++ t ∷ rest) (omega (arith, h))) (labels_whole ds n f t rest e (omega (arith, h)) (omega (arith, g, length-append a b, ap length s.2, length-cons s.0 s.1)))

-- ---- statements behind labels

abbrev WholeStatements : List Token → List Stmt → Type 0
WholeStatements ts cs = (n f : ℕ) (t : Token) (rest : List Token) → ends_statements t.kind ≡ true → greatest (map statement_depth cs) ≤ n → length ts < f → until ends_statements (statement n) f (ts ++ t ∷ rest) ≡ Some (cs, t ∷ rest)

goes_on : (kind : TokenKind) → is_close_brace kind ≡ false → is_label kind ≡ false → ends_statements kind ≡ false
goes_on (kinds.Sign signs.CloseBrace) h g = absurd (clash refl h)
goes_on _ h g = g

end_no_else : (kind : TokenKind) → ends_statements kind ≡ true → is_else kind ≡ false
end_no_else (kinds.Word words.Else) h = absurd (clash h refl)
end_no_else _ h = refl

label_no_brace : (kind : TokenKind) → is_label kind ≡ true → is_close_brace kind ≡ false
label_no_brace (kinds.Sign signs.CloseBrace) h = absurd (clash h refl)
label_no_brace _ h = refl

label_ends : (kind : TokenKind) → is_label kind ≡ true → ends_statements kind ≡ true
label_ends (kinds.Sign signs.CloseBrace) h = refl
label_ends _ h = h

pub no_label_ends : (kind : TokenKind) → is_label kind ≡ false → ends_labels kind ≡ true
no_label_ends kind h = rw h refl

statements_no_else : {ts : List Token} {cs : List Stmt} → ReadsStatements ts cs → (t : Token) (rest : List Token) → ends_statements t.kind ≡ true → NoElse (ts ++ t ∷ rest)
statements_no_else no_statement t rest e = end_no_else t.kind e
statements_no_else (further_statement {a} {b} {c} {cs} d ds) t rest e = let s : BeginsStatement a = begins_statement d in no_else_of (a ++ b) s.0 (s.1 ++ b) (t ∷ rest) (ap (λ x. x ++ b) s.2) s.3.no_else

statements_none : WholeStatements [] []
statements_none n zero t rest e h g = absurd (omega (arith, g))
statements_none n (suc f) t rest e h g = until_ends ends_statements (statement n) f t rest e

statements_next : (a b : List Token) (c : Stmt) (cs : List Stmt) → BeginsStatement a → ((t : Token) (rest : List Token) → ends_statements t.kind ≡ true → NoElse (b ++ t ∷ rest)) → Whole a c → WholeStatements b cs → WholeStatements (a ++ b) (c ∷ cs)
statements_next a b c cs s e v w n zero t rest z h g = absurd (omega (arith, g))
statements_next a b c cs s e v w n (suc f) t rest z h g =
    ap (until ends_statements (statement n) (suc f)) (append_assoc a b (t ∷ rest)) ∙ until_whole ends_statements (statement n) f a (b ++ t ∷ rest) (t ∷ rest) s.0 s.1 c cs s.2 (goes_on s.0.kind s.3.no_brace s.3.no_label) (v n (b ++ t ∷ rest) (omega (arith, h)) (λ x. e t rest z)) (w n f t rest z (omega (arith, h)) (omega (arith, g, length-append a b, ap length s.2, length-cons s.0 s.1)))

-- ---- clauses

abbrev WholeClauses : List Token → List Clause → Type 0
WholeClauses ts cs = (n f : ℕ) (q : Place) (rest : List Token) → greatest (map clause_depth cs) ≤ n → length ts < f → until is_close_brace (switch_clause (statement n) n) f (ts ++ sign signs.CloseBrace q ∷ rest) ≡ Some (cs, sign signs.CloseBrace q ∷ rest)

-- a first token of a kind
abbrev First : (TokenKind → Bool) → List Token → Type 0
First is ts = (t : Token) × (us : List Token) × (ts ≡ t ∷ us) × (is t.kind ≡ true)

-- behind the statements of a clause stands a label or the brace
after_statements : {d : List Token} {more : List Clause} → ReadsClauses d more → (q : Place) (rest : List Token) → First ends_statements (d ++ sign signs.CloseBrace q ∷ rest)
after_statements no_clause q rest = (sign signs.CloseBrace q, rest, refl, refl)
after_statements (further_clause {a} {b} {d} x y h z) q rest = let s : BeginsLabel a = begins_with_labels x in (s.0, (s.1 ++ (b ++ d)) ++ sign signs.CloseBrace q ∷ rest, ap (λ us. (us ++ (b ++ d)) ++ sign signs.CloseBrace q ∷ rest) s.2, label_ends s.0.kind s.3)

no_clauses : {d : List Token} {more : List Clause} → ReadsClauses d more → more ≡ [] → d ≡ []
no_clauses no_clause h = refl
no_clauses (further_clause x y g z) h = absurd (cons_nil h)
  where
    cons_nil : {c : Clause} {cs : List Clause} → c ∷ cs ≡ [] → ⊥
    cons_nil e = cc

-- behind the labels of a clause stands a statement or the brace
after_labels : {b d : List Token} {cs : List Stmt} {more : List Clause} → ReadsStatements b cs → (cs ≡ [] → more ≡ []) → ReadsClauses d more → (q : Place) (rest : List Token) → First ends_labels (b ++ (d ++ sign signs.CloseBrace q ∷ rest))
after_labels {d = d} no_statement h z q rest = (sign signs.CloseBrace q, rest, ap (λ us. us ++ sign signs.CloseBrace q ∷ rest) (no_clauses z (h refl)), refl)
after_labels {d = d} (further_statement {a} {b} c cs) h z q rest = let s : BeginsStatement a = begins_statement c in (s.0, (s.1 ++ b) ++ (d ++ sign signs.CloseBrace q ∷ rest), ap (λ us. (us ++ b) ++ (d ++ sign signs.CloseBrace q ∷ rest)) s.2, no_label_ends s.0.kind s.3.no_label)

begins_true : (ts : List Token) (t : Token) (us : List Token) → ts ≡ t ∷ us → is_label t.kind ≡ true → begins_label ts ≡ true
begins_true ts t us h g = ap begins_label h ∙ g

-- a clause is read before what can stand behind it
clause_read : (a b : List Token) (ls : List Label) (cs : List Stmt) → ReadsLabels a ls → WholeStatements b cs → (n : ℕ) (rest : List Token) → greatest (map label_depth ls) ≤ n → greatest (map statement_depth cs) ≤ n → First ends_labels (b ++ rest) → First ends_statements rest → switch_clause (statement n) n (a ++ (b ++ rest)) ≡ Some (clause_of ls cs, rest)
clause_read a b ls cs x w n rest deep deep' l s =
    let m : BeginsLabel a = begins_with_labels x in
    let first : all_until ends_labels (label n) (a ++ (b ++ rest)) ≡ Some (ls, b ++ rest) = ap (λ us. all_until ends_labels (label n) (a ++ us)) l.2 ∙ labels_whole x n (suc (length (a ++ l.0 ∷ l.1))) l.0 l.1 l.3 deep (omega (arith, length-append a (l.0 ∷ l.1))) ∙ ap (λ us. Some (ls, us)) (sym l.2) in
    let second : all_until ends_statements (statement n) (b ++ rest) ≡ Some (cs, rest) = ap (λ us. all_until ends_statements (statement n) (b ++ us)) s.2 ∙ w n (suc (length (b ++ s.0 ∷ s.1))) s.0 s.1 s.3 deep' (omega (arith, length-append b (s.0 ∷ s.1))) ∙ ap (λ us. Some (cs, us)) (sym s.2) in
    rw (begins_true (a ++ (b ++ rest)) m.0 (m.1 ++ (b ++ rest)) (ap (λ us. us ++ (b ++ rest)) m.2) m.3, first, second) refl

clauses_none : WholeClauses [] []
clauses_none n zero q rest h g = absurd (omega (arith, g))
clauses_none n (suc f) q rest h g = refl

clauses_next : (a b d : List Token) (ls : List Label) (cs : List Stmt) (more : List Clause) → ReadsLabels a ls → ReadsStatements b cs → (cs ≡ [] → more ≡ []) → ReadsClauses d more → WholeStatements b cs → WholeClauses d more → WholeClauses (a ++ (b ++ d)) (clause_of ls cs ∷ more)
clauses_next a b d ls cs more x y e z v w n zero q rest h g = absurd (omega (arith, g))
clauses_next a b d ls cs more x y e z v w n (suc f) q rest h g =
    let m : BeginsLabel a = begins_with_labels x in
    let brace : List Token = sign signs.CloseBrace q ∷ rest in
    let is : (a ++ (b ++ d)) ++ brace ≡ (a ++ b) ++ (d ++ brace) = append_assoc a (b ++ d) brace ∙ ap (λ us. a ++ us) (append_assoc b d brace) ∙ sym (append_assoc a b (d ++ brace)) in
    ap (until is_close_brace (switch_clause (statement n) n) (suc f)) is ∙ until_whole is_close_brace (switch_clause (statement n) n) f (a ++ b) (d ++ brace) brace m.0 (m.1 ++ b) (clause_of ls cs) more (ap (λ us. us ++ b) m.2) (label_no_brace m.0.kind m.3) (ap (switch_clause (statement n) n) (append_assoc a b (d ++ brace)) ∙ clause_read a b ls cs x v n (d ++ brace) (omega (arith, h, depth_clause ls cs)) (omega (arith, h, depth_clause ls cs)) (after_labels y e z q rest) (after_statements z q rest)) (w n f q rest (omega (arith, h)) (omega (arith, g, length-append a (b ++ d), length-append b d, ap length m.2, length-cons m.0 m.1)))

is_switch : (a b : List Token) (test : Expr) (clauses : List Clause) (p q r s t : Place) → Reads comma a test → WholeClauses b clauses → Whole (word words.Switch p ∷ sign signs.OpenParen q ∷ (a ++ sign signs.CloseParen r ∷ sign signs.OpenBrace s ∷ (b ++ sign signs.CloseBrace t ∷ []))) (Switch test clauses)
is_switch a b test clauses p q r s t d w zero rest h o = absurd (omega (arith, h, statement_positive (Switch test clauses)))
is_switch a b test clauses p q r s t d w (suc n) rest h o =
    let all : List Token = b ++ sign signs.CloseBrace t ∷ rest in
    ap (λ us. switch_from (statement n) n (sign signs.OpenParen q ∷ us)) (append_assoc a (sign signs.CloseParen r ∷ sign signs.OpenBrace s ∷ (b ++ sign signs.CloseBrace t ∷ [])) rest ∙ ap (λ us. a ++ sign signs.CloseParen r ∷ sign signs.OpenBrace s ∷ us) (append_assoc b (sign signs.CloseBrace t ∷ []) rest)) ∙ bind_is (λ x. all_until is_close_brace (switch_clause (statement n) n) x.1 >>= λ y. closed is_close_brace (Switch x.0 y.0) y.1) (bind_is (λ x. after is_opening_brace x.1 >>= λ a. Some (x.0, a)) (tested_whole q r d n (sign signs.OpenBrace s ∷ all) (omega (arith, h, depth_switch test clauses)))) ∙ bind_is (λ y. closed is_close_brace (Switch test y.0) y.1) (w n (suc (length all)) t rest (omega (arith, h, depth_switch test clauses)) (omega (arith, length-append b (sign signs.CloseBrace t ∷ rest))))

mutual
  pub complete : {ts : List Token} {c : Stmt} → ReadsStatement ts c → Whole ts c
  complete (empty p) = is_empty p
  complete (value p d) = is_value p d
  complete (block {ts} {body} p q d) = is_block ts body p q (complete_body d)
  complete (if_only {a} {b} {test} {c} p q r d f) = is_if_only a b test c p q r d (complete f)
  complete (if_else {a} {b} {c} {test} {x} {y} p q r s i d f g) = is_if_else a b c test x y p q r s i d (complete f) (complete g)
  complete (while {a} {b} {test} {body} p q r d f) = is_while_loop a b test body p q r d (complete f)
  complete (do_while {a} {b} {test} {body} p q r s t d f) = is_do a b body test p q r s t (complete d) f
  complete (for {a} {b} {c} {d} {first} {body} {test} {next} p q r s i j k l) = is_for a b c d first body test next p q r s i j k (complete l)
  complete (switch {a} {b} {test} {clauses} p q r s t d f) = is_switch a b test clauses p q r s t d (complete_clauses f)
  complete (break p q) = is_break p q
  complete (continue p q) = is_continue p q
  complete (return {ts} {e} p q d) = is_return ts e p q d

  pub complete_body : {ts : List Token} {cs : List Stmt} → ReadsBody ts cs → WholeBody ts cs
  complete_body no_more = body_none
  complete_body (declare {a} {b} {ls} {body} d ds) = body_declare a b ls body d (complete_body ds)
  complete_body (next {a} {b} {c} {body} d ds) = body_next a b c body (begins_statement d) (body_no_else ds) (complete d) (complete_body ds)

  complete_statements : {ts : List Token} {cs : List Stmt} → ReadsStatements ts cs → WholeStatements ts cs
  complete_statements no_statement = statements_none
  complete_statements (further_statement {a} {b} {c} {cs} d ds) = statements_next a b c cs (begins_statement d) (statements_no_else ds) (complete d) (complete_statements ds)

  complete_clauses : {ts : List Token} {cs : List Clause} → ReadsClauses ts cs → WholeClauses ts cs
  complete_clauses no_clause = clauses_none
  complete_clauses (further_clause {a} {b} {d} {ls} {cs} {more} x y e z) = clauses_next a b d ls cs more x y e z (complete_statements y) (complete_clauses z)
