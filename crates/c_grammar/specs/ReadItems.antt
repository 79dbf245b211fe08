-- Reading the items of a program, as functions on lists of tokens. lim is the greatest depth of a length, an
-- initialiser and a body.
use Rattle.std.specs.Prelude.{ℕ, zero, suc, List, [], ◌∷◌, length, Option, Some, None, Bool, true, false, if◌then◌else◌}
use Rattle.c_lexer.specs.declared.token.Token.{Token}
use Rattle.c_lexer.specs.declared.token.TokenKind.{TokenKind}
use Rattle.c_lexer.specs.declared.token.TokenKind.TheVariants as kinds
use Rattle.c_lexer.specs.declared.token.Keyword.TheVariants as words
use Rattle.c_lexer.specs.declared.token.Punct.TheVariants as signs
use Rattle.c_syntax.specs.declared.tree.Expr.{Expr}
use Rattle.c_syntax.specs.declared.tree.Ty.{Ty}
use Rattle.c_syntax.specs.declared.tree.Stmt.{Stmt}
use Rattle.c_syntax.specs.declared.tree.Shape.{Shape}
use Rattle.c_syntax.specs.declared.tree.Shape.TheVariants as shapes
use Rattle.c_syntax.specs.declared.tree.GlobalVar.{GlobalVar}
use Rattle.c_syntax.specs.declared.tree.Param.{Param}
use Rattle.c_syntax.specs.declared.tree.Function.{Function}
use Rattle.c_syntax.specs.declared.tree.TopItem.{TopItem}
use Rattle.c_syntax.specs.declared.tree.TopItem.TheVariants as items
use Rattle.c_grammar.specs.declared.specifiers.Specifiers.{Specifiers}
use Rattle.c_grammar.specs.Expressions.{cond}
use Rattle.c_grammar.specs.ReadExpressions.{Read, ◌>>=◌, read, after, is_close_paren, is_close_bracket}
use Rattle.c_grammar.specs.Specifiers.{no_words, is_value, is_local, is_function, type_of}
use Rattle.c_grammar.specs.ReadStatements.{specifiers, separated, is_semicolon, is_close_brace, is_opening_brace, statement, body}
use Rattle.c_grammar.specs.Items.{first_at, all_named}

-- tests of one sign
-- initialisers, up to their brace
abbrev pub brace_at : (List Token → Read (List Expr)) → Expr → Bool → List Token → Read (List Expr)
brace_at go e true ts = after is_close_brace ts >>= λ rest. Some (e ∷ [], rest)
brace_at go e false ts = go ts >>= λ x. Some (e ∷ x.0, x.1)

abbrev pub ends_here : List Token → Bool
ends_here [] = false
ends_here (t ∷ ts) = is_close_brace t.kind

abbrev pub next_value : (List Token → Read (List Expr)) → Expr → TokenKind → List Token → Read (List Expr)
next_value go e (kinds.Sign signs.Comma) ts = brace_at go e (ends_here ts) ts
next_value go e (kinds.Sign signs.CloseBrace) ts = Some (e ∷ [], ts)
next_value go e _ ts = None

abbrev pub after_value : (List Token → Read (List Expr)) → Expr → List Token → Read (List Expr)
after_value go e [] = None
after_value go e (t ∷ ts) = next_value go e t.kind ts

abbrev pub values : ℕ → ℕ → List Token → Read (List Expr)
values lim zero ts = None
values lim (suc f) ts = read lim cond ts >>= λ x. after_value (values lim f) x.0 x.1

-- initialisers between braces
abbrev pub braced : ℕ → List Token → Read (List Expr)
braced lim ts = after is_opening_brace ts >>= λ a. values lim (length a) a

-- one initialiser without braces
abbrev pub one_value : ℕ → List Token → Read (List Expr)
one_value lim ts = read lim cond ts >>= λ x. Some (x.0 ∷ [], x.1)

-- a length between brackets, behind the first
abbrev pub length_at : ℕ → Bool → List Token → Read (Option Expr)
length_at lim true ts = after is_close_bracket ts >>= λ rest. Some (None, rest)
length_at lim false ts = read lim cond ts >>= λ x. after is_close_bracket x.1 >>= λ rest. Some (Some x.0, rest)

abbrev pub closes_here : List Token → Bool
closes_here [] = false
closes_here (t ∷ ts) = is_close_bracket t.kind

abbrev pub array_length : ℕ → List Token → Read (Option Expr)
array_length lim ts = length_at lim (closes_here ts) ts

-- what follows a declarator's name at file scope; make has the name
abbrev pub Maker : Type 0
Maker = Shape → List Expr → GlobalVar

-- the initialisers of an array, which may be left out
abbrev pub given_at : ℕ → TokenKind → Token → List Token → Read (List Expr)
given_at lim (kinds.Sign signs.Equal) t ts = braced lim ts
given_at lim _ t ts = Some ([], t ∷ ts)

abbrev pub given : ℕ → List Token → Read (List Expr)
given lim [] = Some ([], [])
given lim (t ∷ ts) = given_at lim t.kind t ts

abbrev pub after_array : ℕ → Maker → Option Expr → List Token → Read GlobalVar
after_array lim make l ts = given lim ts >>= λ x. Some (make (shapes.Array l) x.0, x.1)

abbrev pub array_from : ℕ → Maker → List Token → Read GlobalVar
array_from lim make ts = array_length lim ts >>= λ x. after_array lim make x.0 x.1

abbrev pub global_at : ℕ → Maker → TokenKind → Token → List Token → Read GlobalVar
global_at lim make (kinds.Sign signs.Equal) t ts = one_value lim ts >>= λ x. Some (make shapes.Scalar x.0, x.1)
global_at lim make (kinds.Sign signs.OpenBracket) t ts = array_from lim make ts
global_at lim make _ t ts = Some (make shapes.Scalar [], t ∷ ts)

abbrev pub global_named : ℕ → Maker → List Token → Read GlobalVar
global_named lim make [] = Some (make shapes.Scalar [], [])
global_named lim make (t ∷ ts) = global_at lim make t.kind t ts

abbrev pub global_of : Ty → Bool → ℕ → ℕ → Maker
global_of ty is_const name at shape first = record { ty = ty; is_const = is_const; name = name; at = at; shape = shape; first = first }

abbrev pub global_from : ℕ → Ty → Bool → TokenKind → ℕ → List Token → Read GlobalVar
global_from lim ty is_const (kinds.Name name) at ts = global_named lim (global_of ty is_const name at) ts
global_from lim ty is_const _ at ts = None

abbrev pub global : ℕ → Ty → Bool → List Token → Read GlobalVar
global lim ty is_const [] = None
global lim ty is_const (t ∷ ts) = global_from lim ty is_const t.kind t.at ts

-- a parameter, whose specifiers have been read; at is its first byte
abbrev pub param_at : Specifiers → ℕ → TokenKind → Token → List Token → Read Param
param_at s at (kinds.Name n) t ts = Some (record { ty = type_of s; is_const = s.is_const; name = Some n; at = t.at }, ts)
param_at s at _ t ts = Some (record { ty = type_of s; is_const = false; name = None; at = at }, t ∷ ts)

abbrev pub param_named : Specifiers → ℕ → List Token → Read Param
param_named s at [] = Some (record { ty = type_of s; is_const = false; name = None; at = at }, [])
param_named s at (t ∷ ts) = param_at s at t.kind t ts

abbrev pub param_of : ℕ → Specifiers × List Token → Read Param
param_of at s = if is_local s.0 then param_named s.0 at s.1 else None

abbrev pub param : List Token → Read Param
param ts = param_of (first_at ts) (specifiers no_words ts)

-- the parameters, one at least, up to the closing parenthesis
abbrev pub listed : List Token → Read (List Param)
listed ts = separated param (length ts) ts >>= λ x. after is_close_paren x.1 >>= λ rest. Some (x.0, rest)

abbrev pub params_at : TokenKind → Token → List Token → Read (List Param)
params_at (kinds.Sign signs.CloseParen) t ts = Some ([], ts)
params_at (kinds.Word words.Void) t ts = after is_close_paren ts >>= λ rest. Some ([], rest)
params_at _ t ts = listed (t ∷ ts)

abbrev pub params_from : List Token → Read (List Param)
params_from [] = None
params_from (t ∷ ts) = params_at t.kind t ts

-- the parts of a body of depth lim at most, up to its brace
abbrev pub body_from : ℕ → List Token → Read (List Stmt)
body_from zero ts = None
body_from (suc m) ts = body (statement m) m (suc (length ts)) ts

-- a function whose body follows, behind its brace
abbrev pub definition : ℕ → (Option (List Stmt) → Function) → List Token → Read TopItem
definition lim make ts = body_from lim ts >>= λ x. Some (items.Function (make (Some x.0)), x.1)

-- a function's end: a semicolon, or a body
abbrev pub function_at : ℕ → (Option (List Stmt) → Function) → List Param → TokenKind → List Token → Read TopItem
function_at lim make ps (kinds.Sign signs.Semicolon) ts = Some (items.Function (make None), ts)
function_at lim make ps (kinds.Sign signs.OpenBrace) ts = if all_named ps then definition lim make ts else None
function_at lim make ps _ ts = None

abbrev pub function_end : ℕ → (Option (List Stmt) → Function) → List Param → List Token → Read TopItem
function_end lim make ps [] = None
function_end lim make ps (t ∷ ts) = function_at lim make ps t.kind ts

abbrev pub function_of : Specifiers → ℕ → ℕ → List Param → Option (List Stmt) → Function
function_of s name at ps body = record { ty = type_of s; name = name; at = at; params = ps; body = body }

abbrev pub function_behind : ℕ → Specifiers → ℕ → ℕ → List Token → Read TopItem
function_behind lim s name at ts = params_from ts >>= λ x. function_end lim (function_of s name at x.0) x.0 x.1

abbrev pub function_from : ℕ → Specifiers → ℕ → ℕ → List Token → Read TopItem
function_from lim s name at ts = if is_function s then function_behind lim s name at ts else None

abbrev pub globals_behind : ℕ → Specifiers → List Token → Read TopItem
globals_behind lim s ts =
    separated (global lim (type_of s) s.is_const) (length ts) ts >>= λ x. after is_semicolon x.1 >>= λ rest. Some (items.Globals x.0, rest)

abbrev pub globals_from : ℕ → Specifiers → List Token → Read TopItem
globals_from lim s ts = if is_value s then globals_behind lim s ts else None

-- an item whose specifiers have been read: a function where a parenthesis follows its name
abbrev pub item_at : ℕ → Specifiers → ℕ → Token → TokenKind → Token → List Token → Read TopItem
item_at lim s name t (kinds.Sign signs.OpenParen) u us = function_from lim s name t.at us
item_at lim s name t _ u us = globals_from lim s (t ∷ u ∷ us)

abbrev pub item_behind : ℕ → Specifiers → ℕ → Token → List Token → Read TopItem
item_behind lim s name t [] = None
item_behind lim s name t (u ∷ us) = item_at lim s name t u.kind u us

abbrev pub item_named : ℕ → Specifiers → TokenKind → Token → List Token → Read TopItem
item_named lim s (kinds.Name name) t ts = item_behind lim s name t ts
item_named lim s _ t ts = None

abbrev pub item_of : ℕ → Specifiers × List Token → Read TopItem
item_of lim (s, []) = None
item_of lim (s, t ∷ ts) = item_named lim s t.kind t ts

abbrev pub item_from : ℕ → List Token → Read TopItem
item_from lim ts = item_of lim (specifiers no_words ts)

-- all items
abbrev pub program_items : ℕ → ℕ → List Token → Option (List TopItem)
program_items lim f [] = Some []
program_items lim zero (t ∷ ts) = None
program_items lim (suc f) (t ∷ ts) = item_from lim (t ∷ ts) >>= λ x. program_items lim f x.1 >>= λ is. Some (x.0 ∷ is)
