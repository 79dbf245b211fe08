-- Reading an expression, as a function on lists of tokens.
use Rattle.std.specs.Prelude.{ℕ, zero, suc, List, [], ◌∷◌, length, Option, Some, None, Bool, true, false, if◌then◌else◌, nat_eq, nat_le}
use Rattle.c_lexer.specs.declared.token.Token.{Token}
use Rattle.c_lexer.specs.declared.token.TokenKind.{TokenKind}
use Rattle.c_lexer.specs.declared.token.TokenKind.TheVariants as kinds
use Rattle.c_lexer.specs.declared.token.Punct.TheVariants as signs
use Rattle.c_syntax.specs.declared.tree.BinaryOp.{BinaryOp}
use Rattle.c_syntax.specs.declared.tree.Expr.{Expr, Literal, Name, Index, Call, Choose, Assign, Bump, Comma, Paren, fold-Expr}
use Rattle.c_syntax.specs.declared.tree.Expr.TheOpen.{Expr-F}
use Rattle.c_grammar.specs.declared.operators.Infix.{Infix}
use Rattle.c_grammar.specs.declared.operators.Prefix.{Prefix}
use Rattle.c_grammar.specs.Operators.{infix_at, assignment_at, prefix_at, postfix_at, joined, prefixed}
use Rattle.c_grammar.specs.Expressions.{Level, comma, assign, cond, binary, postfix, primary}
use Rattle.c_syntax.specs.Sizes.{expression_depth as depth}

-- what is read, and the tokens after it
abbrev pub Read : Type 0 → Type 0
Read A = Option (A × List Token)

-- all of it has been read
abbrev pub found : {A : Type 0} → A → List Token → Read A
found x ts = Some (x, ts)

infixl 10 ◌>>=◌
-- reading on, where something was read
abbrev pub ◌>>=◌ : {A B : Type 0} → Option A → (A → Option B) → Option B
None >>= f = None
(Some x) >>= f = f x

-- how the parts of an expression are read, at each level
abbrev pub Reader : Type 0
Reader = Level → List Token → Read Expr

-- whether a tree has the form of a unary expression, the left side of an assignment
abbrev pub unary_step : Expr-F Bool → Bool
unary_step (Expr-F.Binary op left right at) = false
unary_step (Expr-F.Logic is_and left right at) = false
unary_step (Expr-F.Choose test a b at) = false
unary_step (Expr-F.Assign op place value at) = false
unary_step (Expr-F.Comma left right at) = false
unary_step _ = true

abbrev pub is_unary : Expr → Bool
is_unary = fold-Expr Bool unary_step

-- the first token's kind
abbrev pub kind_of : List Token → Option TokenKind
kind_of [] = None
kind_of (t ∷ ts) = Some t.kind

-- tests of one sign
abbrev pub is_close_paren : TokenKind → Bool
is_close_paren (kinds.Sign signs.CloseParen) = true
is_close_paren _ = false

abbrev pub is_close_bracket : TokenKind → Bool
is_close_bracket (kinds.Sign signs.CloseBracket) = true
is_close_bracket _ = false

abbrev pub is_colon : TokenKind → Bool
is_colon (kinds.Sign signs.Colon) = true
is_colon _ = false

abbrev pub is_comma_sign : TokenKind → Bool
is_comma_sign (kinds.Sign signs.Comma) = true
is_comma_sign _ = false

-- what stands behind a token of a kind
abbrev pub after : (TokenKind → Bool) → List Token → Option (List Token)
after is [] = None
after is (t ∷ ts) = if is t.kind then Some ts else None

-- what was read, with the token that stands behind it
abbrev pub closed : {A : Type 0} → (TokenKind → Bool) → A → List Token → Read A
closed is x ts = after is ts >>= λ rest. Some (x, rest)

-- arguments, up to the closing parenthesis
abbrev pub next_argument : (List Token → Read (List Expr)) → Expr → TokenKind → List Token → Read (List Expr)
next_argument rest e (kinds.Sign signs.Comma) ts = rest ts >>= λ x. Some (e ∷ x.0, x.1)
next_argument rest e (kinds.Sign signs.CloseParen) ts = Some (e ∷ [], ts)
next_argument rest e _ ts = None

abbrev pub after_argument : (List Token → Read (List Expr)) → Expr → List Token → Read (List Expr)
after_argument rest e [] = None
after_argument rest e (t ∷ ts) = next_argument rest e t.kind ts

abbrev pub arguments : Reader → ℕ → List Token → Read (List Expr)
arguments self zero ts = None
arguments self (suc f) ts = self assign ts >>= λ x. after_argument (arguments self f) x.0 x.1

abbrev pub call_at : Reader → Option TokenKind → List Token → Read (List Expr)
call_at self (Some (kinds.Sign signs.CloseParen)) ts = after is_close_paren ts >>= λ rest. Some ([], rest)
call_at self _ ts = arguments self (length ts) ts

-- what follows a name
abbrev pub named_at : Reader → ℕ → ℕ → TokenKind → Token → List Token → Read Expr
named_at self n at (kinds.Sign signs.OpenBracket) t ts = self comma ts >>= λ x. closed is_close_bracket (Index n x.0 at) x.1
named_at self n at (kinds.Sign signs.OpenParen) t ts = call_at self (kind_of ts) ts >>= λ x. Some (Call n x.0 at, x.1)
named_at self n at _ t ts = Some (Name n at, t ∷ ts)

abbrev pub named : Reader → ℕ → ℕ → List Token → Read Expr
named self n at [] = Some (Name n at, [])
named self n at (t ∷ ts) = named_at self n at t.kind t ts

abbrev pub primary_at : Reader → TokenKind → ℕ → List Token → Read Expr
primary_at self (kinds.Number value is_unsigned) at ts = Some (Literal value is_unsigned at, ts)
primary_at self (kinds.Name n) at ts = named self n at ts
primary_at self (kinds.Sign signs.OpenParen) at ts = self comma ts >>= λ x. closed is_close_paren (Paren x.0 at) x.1
primary_at self _ at ts = None

abbrev pub primary_from : Reader → List Token → Read Expr
primary_from self [] = None
primary_from self (t ∷ ts) = primary_at self t.kind t.at ts

-- further signs behind an operand; n is the depth that is left for it
abbrev pub bump_at : ℕ → (Expr → List Token → Read Expr) → Expr → Token → List Token → Option Bool → Read Expr
bump_at n go e t ts None = Some (e, t ∷ ts)
bump_at n go e t ts (Some up) = if nat_le (depth e) n then go (Bump up false e t.at) ts else None

abbrev pub bumps : ℕ → ℕ → Expr → List Token → Read Expr
bumps n zero e ts = None
bumps n (suc f) e [] = Some (e, [])
bumps n (suc f) e (t ∷ ts) = bump_at n (bumps n f) e t ts (postfix_at t.kind)

abbrev pub postfix_from : Reader → ℕ → List Token → Read Expr
postfix_from self n ts = primary_from self ts >>= λ x. bumps n (suc n) x.0 x.1

abbrev pub unary_at : Reader → ℕ → Token → List Token → Option Prefix → Read Expr
unary_at self n t ts (Some op) = self (binary zero) ts >>= λ x. Some (prefixed op x.0 t.at, x.1)
unary_at self n t ts None = postfix_from self n (t ∷ ts)

abbrev pub unary_from : Reader → ℕ → List Token → Read Expr
unary_from self n [] = None
unary_from self n (t ∷ ts) = unary_at self n t ts (prefix_at t.kind)

-- the operator, if it is one of this level
abbrev pub of_level : ℕ → Option (ℕ × Infix) → Option Infix
of_level k None = None
of_level k (Some x) = if nat_eq x.0 k then Some x.1 else None

-- one further operand; n is the depth that is left for each operand, go reads on
abbrev pub turn_at : Reader → ℕ → ℕ → (Expr → List Token → Read Expr) → Expr → Token → List Token → Option Infix → Read Expr
turn_at self n k go left t ts None = Some (left, t ∷ ts)
turn_at self n k go left t ts (Some op) = if nat_le (depth left) n then (self (binary k) ts >>= λ x. go (joined op left x.0 t.at) x.1) else None

-- further operands of level suc k, behind what has been read
abbrev pub chain : Reader → ℕ → ℕ → ℕ → Expr → List Token → Read Expr
chain self n k zero left ts = None
chain self n k (suc f) left [] = Some (left, [])
chain self n k (suc f) left (t ∷ ts) = turn_at self n k (chain self n k f) left t ts (of_level (suc k) (infix_at t.kind))

abbrev pub level : Reader → ℕ → ℕ → List Token → Read Expr
level self n zero ts = unary_from self n ts
level self n (suc k) ts = level self n k ts >>= λ x. chain self n k (suc n) x.0 x.1

-- what stands between `?` and `:`
abbrev pub middle : Reader → List Token → Read Expr
middle self ts = self comma ts >>= λ x. closed is_colon x.0 x.1

abbrev pub choose_at : Reader → ℕ → Expr → TokenKind → Token → List Token → Read Expr
choose_at self n test (kinds.Sign signs.Question) t ts =
    if nat_le (depth test) n then (middle self ts >>= λ x. self cond x.1 >>= λ y. Some (Choose test x.0 y.0 t.at, y.1)) else None
choose_at self n test _ t ts = Some (test, t ∷ ts)

abbrev pub after_test : Reader → ℕ → Expr → List Token → Read Expr
after_test self n test [] = Some (test, [])
after_test self n test (t ∷ ts) = choose_at self n test t.kind t ts

abbrev pub cond_from : Reader → ℕ → List Token → Read Expr
cond_from self n ts = level self n 10 ts >>= λ x. after_test self n x.0 x.1

abbrev pub assign_at : Reader → ℕ → Expr → Token → List Token → Option (Option BinaryOp) → Read Expr
assign_at self n place t ts (Some op) =
    if is_unary place then (if nat_le (depth place) n then (self assign ts >>= λ x. Some (Assign op place x.0 t.at, x.1)) else None) else None
assign_at self n place t ts None = Some (place, t ∷ ts)

abbrev pub after_place : Reader → ℕ → Expr → List Token → Read Expr
after_place self n place [] = Some (place, [])
after_place self n place (t ∷ ts) = assign_at self n place t ts (assignment_at t.kind)

abbrev pub assign_from : Reader → ℕ → List Token → Read Expr
assign_from self n ts = cond_from self n ts >>= λ x. after_place self n x.0 x.1

-- further operands of the comma operator
abbrev pub comma_at : Reader → ℕ → (Expr → List Token → Read Expr) → Expr → TokenKind → Token → List Token → Read Expr
comma_at self n go left (kinds.Sign signs.Comma) t ts = if nat_le (depth left) n then (self assign ts >>= λ x. go (Comma left x.0 t.at) x.1) else None
comma_at self n go left _ t ts = Some (left, t ∷ ts)

abbrev pub commas : Reader → ℕ → ℕ → Expr → List Token → Read Expr
commas self n zero left ts = None
commas self n (suc f) left [] = Some (left, [])
commas self n (suc f) left (t ∷ ts) = comma_at self n (commas self n f) left t.kind t ts

abbrev pub comma_from : Reader → ℕ → List Token → Read Expr
comma_from self n ts = assign_from self n ts >>= λ x. commas self n (suc n) x.0 x.1

-- one layer, whose parts have depth n at most
abbrev pub layer : Reader → ℕ → Reader
layer self n comma ts = comma_from self n ts
layer self n assign ts = assign_from self n ts
layer self n cond ts = cond_from self n ts
layer self n (binary k) ts = level self n k ts
layer self n postfix ts = postfix_from self n ts
layer self n primary ts = primary_from self ts

-- an expression of depth n at most
abbrev pub read : ℕ → Reader
read zero l ts = None
read (suc n) l ts = layer (read n) n l ts
