-- How loosely a token goes on with an expression before it, against the tables of operators.
use Rattle.std.proofs.Common.{◌≡◌, ◌<◌, ℕ, suc, Bool, true, List, [], ◌∷◌, Option, Some, None, refl, ap, ◌∙◌, arith}
use Rattle.std.proofs.lemmas.Bool.{ne_eqb, eq-eqb, eqb-true}
use Rattle.std.specs.Prelude.{nat_eq}
use Rattle.c_lexer.specs.declared.token.Token.{Token}
use Rattle.c_lexer.specs.declared.token.TokenKind.{TokenKind}
use Rattle.c_lexer.specs.declared.token.TokenKind.TheVariants as kinds
use Rattle.c_lexer.specs.declared.token.Punct.{Punct}
use Rattle.c_lexer.specs.declared.token.Punct.TheVariants as signs
use Rattle.c_syntax.specs.declared.tree.BinaryOp.{BinaryOp}
use Rattle.c_grammar.specs.declared.operators.Infix.{Infix}
use Rattle.c_grammar.specs.declared.operators.Prefix.{Prefix}
use Rattle.c_grammar.specs.Operators.{infix_of, assignment_of, prefix_of, postfix_of, infix_at, assignment_at, postfix_at}
use Rattle.c_grammar.specs.ReadExpressions.{of_level}
use Rattle.c_grammar.specs.ReadStatements.{starts}
use Rattle.c_grammar.proofs.Options.{some_is, none_is, guard_some}

-- of a sign that is no infix operator
abbrev pub bare : Punct → ℕ
bare signs.OpenParen = 0
bare signs.OpenBracket = 0
bare signs.PlusPlus = 1
bare signs.MinusMinus = 1
bare signs.Question = 12
bare signs.Equal = 13
bare signs.PlusEqual = 13
bare signs.MinusEqual = 13
bare signs.StarEqual = 13
bare signs.SlashEqual = 13
bare signs.PercentEqual = 13
bare signs.ShiftLeftEqual = 13
bare signs.ShiftRightEqual = 13
bare signs.AndEqual = 13
bare signs.OrEqual = 13
bare signs.CaretEqual = 13
bare signs.Comma = 14
bare _ = 15

abbrev pub looseness_of : Option (ℕ × Infix) → Punct → ℕ
looseness_of (Some x) s = suc x.0
looseness_of None s = bare s

-- 0 goes on with a name, 1 with a primary expression, 2 to 11 are infix operators, 15 never goes on
abbrev pub looseness : TokenKind → ℕ
looseness (kinds.Sign s) = looseness_of (infix_of s) s
looseness _ = 15

abbrev pub head_looseness : List Token → ℕ
head_looseness [] = 15
head_looseness (t ∷ ts) = looseness t.kind

pub infix_loose : (s : Punct) (k : ℕ) (op : Infix) → infix_of s ≡ Some (k, op) → looseness (kinds.Sign s) ≡ suc k
infix_loose s k op h = rw h refl

level_stops : (k : ℕ) (o : Option (ℕ × Infix)) (s : Punct) → suc k < looseness_of o s → of_level k o ≡ None
level_stops k None s h = refl
level_stops k (Some x) s h = rw (ne_eqb x.0 k (λ e. omega (arith, e, h))) refl

pub infix_stops : (k : ℕ) (kind : TokenKind) → suc k < looseness kind → of_level k (infix_at kind) ≡ None
infix_stops k (kinds.Sign s) h = level_stops k (infix_of s) s h
infix_stops k _ h = refl

pub of_level_some : (k : ℕ) (o : Option (ℕ × Infix)) (op : Infix) → o ≡ Some (k, op) → of_level k o ≡ Some op
of_level_some k o op h = rw (h, eq-eqb k k refl) refl

pub of_level_is : (k : ℕ) (o : Option (ℕ × Infix)) (op : Infix) → of_level k o ≡ Some op → o ≡ Some (k, op)
of_level_is k None op h = absurd (none_is h)
of_level_is k (Some x) op h = let g : (nat_eq x.0 k ≡ true) × (Some x.1 ≡ Some op) = guard_some (nat_eq x.0 k) (Some x.1) op h in ap (λ i. Some (i, x.1)) (eqb-true x.0 k g.0) ∙ ap (λ i. Some (k, i)) (some_is g.1)

pub assignment_loose : (s : Punct) (op : Option BinaryOp) → assignment_of s ≡ Some op → looseness (kinds.Sign s) ≡ 13
assignment_loose signs.Equal op h = refl
assignment_loose signs.PlusEqual op h = refl
assignment_loose signs.MinusEqual op h = refl
assignment_loose signs.StarEqual op h = refl
assignment_loose signs.SlashEqual op h = refl
assignment_loose signs.PercentEqual op h = refl
assignment_loose signs.ShiftLeftEqual op h = refl
assignment_loose signs.ShiftRightEqual op h = refl
assignment_loose signs.AndEqual op h = refl
assignment_loose signs.OrEqual op h = refl
assignment_loose signs.CaretEqual op h = refl
assignment_loose _ op h = absurd (none_is h)

assignment_stops_at : (s : Punct) (o : Option (Option BinaryOp)) → assignment_of s ≡ o → 13 < looseness (kinds.Sign s) → assignment_of s ≡ None
assignment_stops_at s None h g = h
assignment_stops_at s (Some op) h g = absurd (omega (arith, g, assignment_loose s op h))

pub assignment_stops : (kind : TokenKind) → 13 < looseness kind → assignment_at kind ≡ None
assignment_stops (kinds.Sign s) h = assignment_stops_at s (assignment_of s) refl h
assignment_stops _ h = refl

pub postfix_loose : (s : Punct) (up : Bool) → postfix_of s ≡ Some up → looseness (kinds.Sign s) ≡ 1
postfix_loose signs.PlusPlus up h = refl
postfix_loose signs.MinusMinus up h = refl
postfix_loose _ up h = absurd (none_is h)

postfix_stops_at : (s : Punct) (o : Option Bool) → postfix_of s ≡ o → 1 < looseness (kinds.Sign s) → postfix_of s ≡ None
postfix_stops_at s None h g = h
postfix_stops_at s (Some up) h g = absurd (omega (arith, g, postfix_loose s up h))

pub postfix_stops : (kind : TokenKind) → 1 < looseness kind → postfix_at kind ≡ None
postfix_stops (kinds.Sign s) h = postfix_stops_at s (postfix_of s) refl h
postfix_stops _ h = refl

pub prefix_starts : (s : Punct) (op : Prefix) → prefix_of s ≡ Some op → starts (kinds.Sign s) ≡ true
prefix_starts s op h = rw h refl
