-- The operators of ISO/IEC 9899 6.5 by their signs.
use Rattle.std.specs.Prelude.{ℕ, Option, Some, None, Bool, true, false}
use Rattle.c_lexer.specs.declared.token.Punct.{Punct}
use Rattle.c_lexer.specs.declared.token.Punct.TheVariants as signs
use Rattle.c_lexer.specs.declared.token.TokenKind.{TokenKind}
use Rattle.c_lexer.specs.declared.token.TokenKind.TheVariants as kinds
use Rattle.c_syntax.specs.declared.tree.UnaryOp.TheVariants as unary
use Rattle.c_syntax.specs.declared.tree.BinaryOp.{BinaryOp}
use Rattle.c_syntax.specs.declared.tree.BinaryOp.TheVariants as binary
use Rattle.c_syntax.specs.declared.tree.Expr.{Expr, Unary, Binary, Logic, Bump}
use Rattle.c_grammar.specs.declared.operators.Infix.{Infix}
use Rattle.c_grammar.specs.declared.operators.Infix.TheVariants as infixes
use Rattle.c_grammar.specs.declared.operators.Prefix.{Prefix}
use Rattle.c_grammar.specs.declared.operators.Prefix.TheVariants as prefixes

-- The sign between two operands (6.5.5 to 6.5.14): its level, from 1, the tightest, to 10, and what it is.
abbrev pub infix_of : Punct → Option (ℕ × Infix)
infix_of signs.Star = Some (1, infixes.Plain binary.Mul)
infix_of signs.Slash = Some (1, infixes.Plain binary.Div)
infix_of signs.Percent = Some (1, infixes.Plain binary.Rem)
infix_of signs.Plus = Some (2, infixes.Plain binary.Add)
infix_of signs.Minus = Some (2, infixes.Plain binary.Sub)
infix_of signs.ShiftLeft = Some (3, infixes.Plain binary.Shl)
infix_of signs.ShiftRight = Some (3, infixes.Plain binary.Shr)
infix_of signs.Less = Some (4, infixes.Plain binary.Lt)
infix_of signs.Greater = Some (4, infixes.Plain binary.Gt)
infix_of signs.LessEqual = Some (4, infixes.Plain binary.Le)
infix_of signs.GreaterEqual = Some (4, infixes.Plain binary.Ge)
infix_of signs.EqualEqual = Some (5, infixes.Plain binary.Eq)
infix_of signs.NotEqual = Some (5, infixes.Plain binary.Ne)
infix_of signs.And = Some (6, infixes.Plain binary.And)
infix_of signs.Caret = Some (7, infixes.Plain binary.Xor)
infix_of signs.Or = Some (8, infixes.Plain binary.Or)
infix_of signs.AndAnd = Some (9, infixes.Logic true)
infix_of signs.OrOr = Some (10, infixes.Logic false)
infix_of _ = None

-- The sign of an assignment (6.5.16), and the operator of a compound one.
abbrev pub assignment_of : Punct → Option (Option BinaryOp)
assignment_of signs.Equal = Some None
assignment_of signs.PlusEqual = Some (Some binary.Add)
assignment_of signs.MinusEqual = Some (Some binary.Sub)
assignment_of signs.StarEqual = Some (Some binary.Mul)
assignment_of signs.SlashEqual = Some (Some binary.Div)
assignment_of signs.PercentEqual = Some (Some binary.Rem)
assignment_of signs.ShiftLeftEqual = Some (Some binary.Shl)
assignment_of signs.ShiftRightEqual = Some (Some binary.Shr)
assignment_of signs.AndEqual = Some (Some binary.And)
assignment_of signs.OrEqual = Some (Some binary.Or)
assignment_of signs.CaretEqual = Some (Some binary.Xor)
assignment_of _ = None

-- The sign before an operand (6.5.3): `++` and `--` are steps up and down.
abbrev pub prefix_of : Punct → Option Prefix
prefix_of signs.PlusPlus = Some (prefixes.Bump true)
prefix_of signs.MinusMinus = Some (prefixes.Bump false)
prefix_of signs.Minus = Some (prefixes.Plain unary.Minus)
prefix_of signs.Plus = Some (prefixes.Plain unary.Plus)
prefix_of signs.Tilde = Some (prefixes.Plain unary.Flip)
prefix_of signs.Bang = Some (prefixes.Plain unary.Not)
prefix_of _ = None

-- The sign behind an operand (6.5.2.4): true for `++`, false for `--`.
abbrev pub postfix_of : Punct → Option Bool
postfix_of signs.PlusPlus = Some true
postfix_of signs.MinusMinus = Some false
postfix_of _ = None

-- what a table says of a token, which may be no sign
abbrev pub of_sign : {A : Type 0} → (Punct → Option A) → TokenKind → Option A
of_sign table (kinds.Sign s) = table s
of_sign table _ = None

abbrev pub infix_at : TokenKind → Option (ℕ × Infix)
infix_at kind = of_sign infix_of kind

abbrev pub assignment_at : TokenKind → Option (Option BinaryOp)
assignment_at kind = of_sign assignment_of kind

abbrev pub prefix_at : TokenKind → Option Prefix
prefix_at kind = of_sign prefix_of kind

abbrev pub postfix_at : TokenKind → Option Bool
postfix_at kind = of_sign postfix_of kind

-- two operands joined by a sign between them
abbrev pub joined : Infix → Expr → Expr → ℕ → Expr
joined (infixes.Plain op) left right at = Binary op left right at
joined (infixes.Logic is_and) left right at = Logic is_and left right at

-- an operand with a sign before it
abbrev pub prefixed : Prefix → Expr → ℕ → Expr
prefixed (prefixes.Plain op) e at = Unary op e at
prefixed (prefixes.Bump up) e at = Bump up true e at
