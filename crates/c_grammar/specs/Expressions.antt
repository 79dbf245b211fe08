-- Expressions: which tokens spell which tree, ISO/IEC 9899 6.5.1 to 6.5.17.
use Rattle.std.specs.Prelude.{ℕ, zero, suc, ◌≡◌, List, [], ◌∷◌, ◌++◌, Option, Some, Bool, false}
use Rattle.c_lexer.specs.declared.token.Token.{Token}
use Rattle.c_lexer.specs.declared.token.TokenKind.TheVariants as kinds
use Rattle.c_lexer.specs.declared.token.Punct.{Punct}
use Rattle.c_lexer.specs.declared.token.Punct.TheVariants as signs
use Rattle.c_syntax.specs.declared.tree.BinaryOp.{BinaryOp}
use Rattle.c_syntax.specs.declared.tree.Expr.{Expr, Literal, Name, Index, Call, Choose, Assign, Bump, Comma, Paren}
use Rattle.c_grammar.specs.declared.operators.Infix.{Infix}
use Rattle.c_grammar.specs.declared.operators.Prefix.{Prefix}
use Rattle.c_grammar.specs.Places.{Place, mark, sign}
use Rattle.c_grammar.specs.Operators.{infix_of, assignment_of, prefix_of, postfix_of, joined, prefixed}

-- Where an expression stands: each level holds the ones named after it. `binary 10` is logical OR, `binary 1`
-- multiplication, and `binary 0` a unary expression.
pub data Level : Type 0 where
  comma : Level
  assign : Level
  cond : Level
  binary : ℕ → Level
  postfix : Level
  primary : Level

mutual
  -- Reads l ts e: these tokens are a spelling of the expression, at this level of the grammar.
  pub data Reads : Level → List Token → Expr → Type 0 where
    comma_assign : {ts : List Token} {e : Expr} → Reads assign ts e → Reads comma ts e
    comma_both : {a b : List Token} {left right : Expr} (p : Place) → Reads comma a left → Reads assign b right →
        Reads comma (a ++ sign signs.Comma p ∷ b) (Comma left right p.at)
    assign_cond : {ts : List Token} {e : Expr} → Reads cond ts e → Reads assign ts e
    assign_to : {a b : List Token} {place value : Expr} {op : Option BinaryOp} (s : Punct) (p : Place) → assignment_of s ≡ Some op →
        Reads (binary zero) a place → Reads assign b value →
        Reads assign (a ++ sign s p ∷ b) (Assign op place value p.at)
    cond_binary : {ts : List Token} {e : Expr} → Reads (binary 10) ts e → Reads cond ts e
    choose : {a b c : List Token} {test x y : Expr} (p q : Place) → Reads (binary 10) a test → Reads comma b x → Reads cond c y →
        Reads cond (a ++ sign signs.Question p ∷ (b ++ sign signs.Colon q ∷ c)) (Choose test x y p.at)
    tighter : {k : ℕ} {ts : List Token} {e : Expr} → Reads (binary k) ts e → Reads (binary (suc k)) ts e
    both : {k : ℕ} {a b : List Token} {left right : Expr} {op : Infix} (s : Punct) (p : Place) → infix_of s ≡ Some (suc k, op) → Reads (binary (suc k)) a left →
        Reads (binary k) b right →
        Reads (binary (suc k)) (a ++ sign s p ∷ b) (joined op left right p.at)
    unary_postfix : {ts : List Token} {e : Expr} → Reads postfix ts e → Reads (binary zero) ts e
    unary : {ts : List Token} {e : Expr} {op : Prefix} (s : Punct) (p : Place) → prefix_of s ≡ Some op → Reads (binary zero) ts e →
        Reads (binary zero) (sign s p ∷ ts) (prefixed op e p.at)
    postfix_primary : {ts : List Token} {e : Expr} → Reads primary ts e → Reads postfix ts e
    bump : {ts : List Token} {e : Expr} {up : Bool} (s : Punct) (p : Place) → postfix_of s ≡ Some up → Reads postfix ts e →
        Reads postfix (ts ++ sign s p ∷ []) (Bump up false e p.at)
    literal : (value : ℕ) (is_unsigned : Bool) (p : Place) → Reads primary (mark (kinds.Number value is_unsigned) p ∷ []) (Literal value is_unsigned p.at)
    name : (n : ℕ) (p : Place) → Reads primary (mark (kinds.Name n) p ∷ []) (Name n p.at)
    index : {ts : List Token} {e : Expr} (n : ℕ) (p q r : Place) → Reads comma ts e →
        Reads primary (mark (kinds.Name n) p ∷ sign signs.OpenBracket q ∷ (ts ++ sign signs.CloseBracket r ∷ [])) (Index n e p.at)
    call_none : (n : ℕ) (p q r : Place) → Reads primary (mark (kinds.Name n) p ∷ sign signs.OpenParen q ∷ sign signs.CloseParen r ∷ []) (Call n [] p.at)
    call : {ts : List Token} {es : List Expr} (n : ℕ) (p q r : Place) → ReadsAll ts es →
        Reads primary (mark (kinds.Name n) p ∷ sign signs.OpenParen q ∷ (ts ++ sign signs.CloseParen r ∷ [])) (Call n es p.at)
    paren : {ts : List Token} {e : Expr} (p q : Place) → Reads comma ts e →
        Reads primary (sign signs.OpenParen p ∷ (ts ++ sign signs.CloseParen q ∷ [])) (Paren e p.at)

  -- One or more arguments, separated by commas.
  pub data ReadsAll : List Token → List Expr → Type 0 where
    one : {ts : List Token} {e : Expr} → Reads assign ts e → ReadsAll ts (e ∷ [])
    more : {a b : List Token} {e : Expr} {es : List Expr} (p : Place) → Reads assign a e → ReadsAll b es → ReadsAll (a ++ sign signs.Comma p ∷ b) (e ∷ es)
