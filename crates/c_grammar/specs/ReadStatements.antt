-- Reading declarations and statements, as functions on lists of tokens.
use Rattle.std.specs.Prelude.{ℕ, zero, suc, List, [], ◌∷◌, length, Option, Some, None, Bool, true, false, not, if◌then◌else◌}
use Rattle.c_lexer.specs.declared.token.Token.{Token}
use Rattle.c_lexer.specs.declared.token.TokenKind.{TokenKind}
use Rattle.c_lexer.specs.declared.token.TokenKind.TheVariants as kinds
use Rattle.c_lexer.specs.declared.token.Keyword.TheVariants as words
use Rattle.c_lexer.specs.declared.token.Punct.TheVariants as signs
use Rattle.c_syntax.specs.declared.tree.Expr.{Expr}
use Rattle.c_syntax.specs.declared.tree.Ty.{Ty}
use Rattle.c_syntax.specs.declared.tree.Local.{Local}
use Rattle.c_syntax.specs.declared.tree.Label.{Label}
use Rattle.c_syntax.specs.declared.tree.Label.TheVariants as labels
use Rattle.c_syntax.specs.declared.tree.Clause.{Clause}
use Rattle.c_syntax.specs.declared.tree.Stmt.{Stmt, Empty, Value, Declare, Block, If, While, Do, For, Switch, Break, Continue, Return}
use Rattle.c_grammar.specs.declared.operators.Prefix.{Prefix}
use Rattle.c_grammar.specs.declared.specifiers.Specifiers.{Specifiers}
use Rattle.c_grammar.specs.Operators.{prefix_at}
use Rattle.c_grammar.specs.Expressions.{comma, assign, cond}
use Rattle.c_grammar.specs.Statements.{clause_of}
use Rattle.c_grammar.specs.ReadExpressions.{Read, ◌>>=◌, read, after, closed, is_comma_sign, is_close_paren, is_colon}
use Rattle.c_grammar.specs.Specifiers.{no_words, with_word, is_local, type_of}

-- tests of one sign or one word
abbrev pub is_open_paren : TokenKind → Bool
is_open_paren (kinds.Sign signs.OpenParen) = true
is_open_paren _ = false

abbrev pub is_semicolon : TokenKind → Bool
is_semicolon (kinds.Sign signs.Semicolon) = true
is_semicolon _ = false

abbrev pub is_close_brace : TokenKind → Bool
is_close_brace (kinds.Sign signs.CloseBrace) = true
is_close_brace _ = false

abbrev pub is_opening_brace : TokenKind → Bool
is_opening_brace (kinds.Sign signs.OpenBrace) = true
is_opening_brace _ = false

-- whether a label begins with it
abbrev pub is_label : TokenKind → Bool
is_label (kinds.Word words.Case) = true
is_label (kinds.Word words.Default) = true
is_label _ = false

-- whether the labels before a statement end with it
abbrev pub ends_labels : TokenKind → Bool
ends_labels kind = not (is_label kind)

-- whether the statements behind a label end with it
abbrev pub ends_statements : TokenKind → Bool
ends_statements (kinds.Sign signs.CloseBrace) = true
ends_statements kind = is_label kind

abbrev pub is_while : TokenKind → Bool
is_while (kinds.Word words.While) = true
is_while _ = false

-- a word of a declaration's specifiers
abbrev pub is_specifier : TokenKind → Bool
is_specifier (kinds.Word words.Int) = true
is_specifier (kinds.Word words.Signed) = true
is_specifier (kinds.Word words.Unsigned) = true
is_specifier (kinds.Word words.Void) = true
is_specifier (kinds.Word words.Const) = true
is_specifier (kinds.Word words.Static) = true
is_specifier _ = false

-- whether a token of this kind can be an expression's first
abbrev pub starts_by : Option Prefix → TokenKind → Bool
starts_by (Some op) kind = true
starts_by None (kinds.Number value is_unsigned) = true
starts_by None (kinds.Name n) = true
starts_by None (kinds.Sign signs.OpenParen) = true
starts_by None _ = false

abbrev pub starts : TokenKind → Bool
starts kind = starts_by (prefix_at kind) kind

-- distinct words, as many as stand there
abbrev pub with_kind : TokenKind → Specifiers → Option Specifiers
with_kind (kinds.Word w) s = with_word w s
with_kind _ s = None

abbrev pub specifier_at : (Specifiers → Specifiers × List Token) → Specifiers → Token → List Token → Option Specifiers → Specifiers × List Token
specifier_at go s t ts None = (s, t ∷ ts)
specifier_at go s t ts (Some more) = go more

abbrev pub specifiers : Specifiers → List Token → Specifiers × List Token
specifiers s [] = (s, [])
specifiers s (t ∷ ts) = specifier_at (λ more. specifiers more ts) s t ts (with_kind t.kind s)

-- one or more, separated by commas
abbrev pub more_at : {A : Type 0} → (List Token → Read (List A)) → A → List Token → Read (List A)
more_at go x [] = Some (x ∷ [], [])
more_at go x (t ∷ ts) = if is_comma_sign t.kind then (go ts >>= λ y. Some (x ∷ y.0, y.1)) else Some (x ∷ [], t ∷ ts)

abbrev pub separated : {A : Type 0} → (List Token → Read A) → ℕ → List Token → Read (List A)
separated item zero ts = None
separated item (suc f) ts = item ts >>= λ x. more_at (separated item f) x.0 x.1

-- one declarator in a block; n is the depth that is left for its initialiser
abbrev pub local_of : Ty → Bool → ℕ → ℕ → Option Expr → Local
local_of ty is_const name at first = record { ty = ty; is_const = is_const; name = name; at = at; first = first }

abbrev pub local_value : ℕ → (Option Expr → Local) → TokenKind → Token → List Token → Read Local
local_value n make (kinds.Sign signs.Equal) t ts = read n assign ts >>= λ x. Some (make (Some x.0), x.1)
local_value n make _ t ts = Some (make None, t ∷ ts)

abbrev pub local_named : ℕ → (Option Expr → Local) → List Token → Read Local
local_named n make [] = Some (make None, [])
local_named n make (t ∷ ts) = local_value n make t.kind t ts

abbrev pub local_at : ℕ → Ty → Bool → TokenKind → ℕ → List Token → Read Local
local_at n ty is_const (kinds.Name name) at ts = local_named n (local_of ty is_const name at) ts
local_at n ty is_const _ at ts = None

abbrev pub local : ℕ → Ty → Bool → List Token → Read Local
local n ty is_const [] = None
local n ty is_const (t ∷ ts) = local_at n ty is_const t.kind t.at ts

-- a declaration in a block; n is the depth that is left for its initialisers
abbrev pub declaration_of : ℕ → Specifiers × List Token → Read (List Local)
declaration_of n s =
    if is_local s.0 then (separated (local n (type_of s.0) s.0.is_const) (length s.1) s.1 >>= λ x. closed is_semicolon x.0 x.1) else None

abbrev pub declaration : ℕ → List Token → Read (List Local)
declaration n ts = declaration_of n (specifiers no_words ts)

abbrev pub declared : ℕ → List Token → Read Stmt
declared n ts = declaration n ts >>= λ x. Some (Declare x.0, x.1)

-- a declaration that is a statement of depth n at most
abbrev pub declare_from : ℕ → List Token → Read Stmt
declare_from zero ts = None
declare_from (suc n) ts = declared n ts

-- an expression statement; n is the depth that is left for the expression
abbrev pub value_from : ℕ → List Token → Read Stmt
value_from n ts = read n comma ts >>= λ x. closed is_semicolon (Value x.0) x.1

-- an expression that may be left out
abbrev pub starts_here : List Token → Bool
starts_here [] = false
starts_here (t ∷ ts) = starts t.kind

abbrev pub maybe_at : ℕ → Bool → List Token → Read (Option Expr)
maybe_at n true ts = read n comma ts >>= λ x. Some (Some x.0, x.1)
maybe_at n false ts = Some (None, ts)

abbrev pub maybe : ℕ → List Token → Read (Option Expr)
maybe n ts = maybe_at n (starts_here ts) ts

-- an expression that may be left out, and the token behind it
abbrev pub maybe_before : (TokenKind → Bool) → ℕ → List Token → Read (Option Expr)
maybe_before is n ts = maybe n ts >>= λ x. closed is x.0 x.1

-- the first clause of a `for`, of depth n at most
abbrev pub clause_at : ℕ → TokenKind → Token → List Token → Read Stmt
clause_at n (kinds.Sign signs.Semicolon) t ts = Some (Empty, ts)
clause_at n kind t ts = if is_specifier kind then declared n (t ∷ ts) else value_from n (t ∷ ts)

abbrev pub clause_from : ℕ → List Token → Read Stmt
clause_from n [] = None
clause_from n (t ∷ ts) = clause_at n t.kind t ts

abbrev pub clause : ℕ → List Token → Read Stmt
clause zero ts = None
clause (suc n) ts = clause_from n ts

-- an expression between parentheses
abbrev pub tested : ℕ → List Token → Read Expr
tested n ts = after is_open_paren ts >>= λ a. read n comma a >>= λ x. closed is_close_paren x.0 x.1

-- the parts of a block, up to its brace; self reads a statement, and n is the depth that is left for each part
abbrev pub part : (List Token → Read Stmt) → ℕ → Bool → List Token → Read Stmt
part self n true ts = declare_from n ts
part self n false ts = self ts

abbrev pub body_at : (List Token → Read Stmt) → ℕ → (List Token → Read (List Stmt)) → TokenKind → Token → List Token → Read (List Stmt)
body_at self n go (kinds.Sign signs.CloseBrace) t ts = Some ([], ts)
body_at self n go kind t ts = part self n (is_specifier kind) (t ∷ ts) >>= λ x. go x.1 >>= λ y. Some (x.0 ∷ y.0, y.1)

abbrev pub body : (List Token → Read Stmt) → ℕ → ℕ → List Token → Read (List Stmt)
body self n zero ts = None
body self n (suc f) [] = None
body self n (suc f) (t ∷ ts) = body_at self n (body self n f) t.kind t ts

-- an `if` without `else`
abbrev pub ended : Expr → Stmt → List Token → Read Stmt
ended test a ts = Some (If test a None, ts)

-- what follows the first statement of an `if`
abbrev pub else_at : (List Token → Read Stmt) → Expr → Stmt → TokenKind → Token → List Token → Read Stmt
else_at self test a (kinds.Word words.Else) t ts = self ts >>= λ x. Some (If test a (Some x.0), x.1)
else_at self test a _ t ts = ended test a (t ∷ ts)

abbrev pub after_then : (List Token → Read Stmt) → Expr → Stmt → List Token → Read Stmt
after_then self test a [] = ended test a []
after_then self test a (t ∷ ts) = else_at self test a t.kind t ts

abbrev pub if_from : (List Token → Read Stmt) → ℕ → List Token → Read Stmt
if_from self n ts = tested n ts >>= λ x. self x.1 >>= λ y. after_then self x.0 y.0 y.1

abbrev pub while_from : (List Token → Read Stmt) → ℕ → List Token → Read Stmt
while_from self n ts = tested n ts >>= λ x. self x.1 >>= λ y. Some (While x.0 y.0, y.1)

-- what follows the body of a `do`
abbrev pub do_end : ℕ → Stmt → List Token → Read Stmt
do_end n body ts = after is_while ts >>= λ a. tested n a >>= λ y. closed is_semicolon (Do body y.0) y.1

abbrev pub do_from : (List Token → Read Stmt) → ℕ → List Token → Read Stmt
do_from self n ts = self ts >>= λ x. do_end n x.0 x.1

-- what stands between the parentheses of a `for`
abbrev pub for_head : ℕ → List Token → Read (Stmt × Option Expr × Option Expr)
for_head n ts =
    after is_open_paren ts >>= λ a. clause n a >>= λ x. maybe_before is_semicolon n x.1 >>= λ y. maybe_before is_close_paren n y.1 >>= λ z.
    Some ((x.0, y.0, z.0), z.1)

-- a `for` that is read whole
abbrev pub for_end : Stmt × Option Expr × Option Expr → Stmt → List Token → Read Stmt
for_end h body ts = Some (For h.0 h.1 h.2 body, ts)

abbrev pub for_from : (List Token → Read Stmt) → ℕ → List Token → Read Stmt
for_from self n ts = for_head n ts >>= λ h. self h.1 >>= λ w. for_end h.0 w.0 w.1

abbrev pub return_from : ℕ → ℕ → List Token → Read Stmt
return_from n at ts = maybe_before is_semicolon n ts >>= λ x. Some (Return x.0 at, x.1)

-- parts one behind the other, up to a token that ends them
abbrev pub until : {A : Type 0} → (TokenKind → Bool) → (List Token → Read A) → ℕ → List Token → Read (List A)
until ends item zero ts = None
until ends item (suc f) [] = None
until ends item (suc f) (t ∷ ts) = if ends t.kind then Some ([], t ∷ ts) else (item (t ∷ ts) >>= λ x. until ends item f x.1 >>= λ y. Some (x.0 ∷ y.0, y.1))

abbrev pub all_until : {A : Type 0} → (TokenKind → Bool) → (List Token → Read A) → List Token → Read (List A)
all_until ends item ts = until ends item (suc (length ts)) ts

-- a label; n is the depth that is left for its expression
abbrev pub label_at : ℕ → TokenKind → ℕ → List Token → Read Label
label_at n (kinds.Word words.Case) at ts = read n cond ts >>= λ x. after is_colon x.1 >>= λ rest. Some (labels.Case x.0 at, rest)
label_at n (kinds.Word words.Default) at ts = after is_colon ts >>= λ rest. Some (labels.Otherwise at, rest)
label_at n _ at ts = None

abbrev pub label : ℕ → List Token → Read Label
label n [] = None
label n (t ∷ ts) = label_at n t.kind t.at ts

-- a clause of a `switch`, which begins with a label
abbrev pub begins_label : List Token → Bool
begins_label [] = false
begins_label (t ∷ ts) = is_label t.kind

abbrev pub switch_clause : (List Token → Read Stmt) → ℕ → List Token → Read Clause
switch_clause self n ts =
    if begins_label ts then (all_until ends_labels (label n) ts >>= λ x. all_until ends_statements self x.1 >>= λ y. Some (clause_of x.0 y.0, y.1)) else None

-- what stands before the clauses of a `switch`
abbrev pub switch_head : ℕ → List Token → Read Expr
switch_head n ts = tested n ts >>= λ x. closed is_opening_brace x.0 x.1

abbrev pub switch_from : (List Token → Read Stmt) → ℕ → List Token → Read Stmt
switch_from self n ts = switch_head n ts >>= λ x. all_until is_close_brace (switch_clause self n) x.1 >>= λ y. closed is_close_brace (Switch x.0 y.0) y.1

abbrev pub statement_at : (List Token → Read Stmt) → ℕ → TokenKind → Token → List Token → Read Stmt
statement_at self n (kinds.Sign signs.Semicolon) t ts = Some (Empty, ts)
statement_at self n (kinds.Sign signs.OpenBrace) t ts = body self n (suc (length ts)) ts >>= λ x. Some (Block x.0, x.1)
statement_at self n (kinds.Word words.If) t ts = if_from self n ts
statement_at self n (kinds.Word words.While) t ts = while_from self n ts
statement_at self n (kinds.Word words.Do) t ts = do_from self n ts
statement_at self n (kinds.Word words.For) t ts = for_from self n ts
statement_at self n (kinds.Word words.Switch) t ts = switch_from self n ts
statement_at self n (kinds.Word words.Break) t ts = closed is_semicolon (Break t.at) ts
statement_at self n (kinds.Word words.Continue) t ts = closed is_semicolon (Continue t.at) ts
statement_at self n (kinds.Word words.Return) t ts = return_from n t.at ts
statement_at self n _ t ts = value_from n (t ∷ ts)

-- a statement of depth n at most
abbrev pub statement_from : (List Token → Read Stmt) → ℕ → List Token → Read Stmt
statement_from self n [] = None
statement_from self n (t ∷ ts) = statement_at self n t.kind t ts

abbrev pub statement : ℕ → List Token → Read Stmt
statement zero ts = None
statement (suc n) ts = statement_from (statement n) n ts
