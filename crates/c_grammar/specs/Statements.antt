-- Declarations and statements: which tokens spell which tree, ISO/IEC 9899 6.7 and 6.8.
use Rattle.std.specs.Prelude.{ℕ, ◌≡◌, List, [], ◌∷◌, ◌++◌, Option, Some, None, Bool, true, false}
use Rattle.c_lexer.specs.declared.token.Token.{Token}
use Rattle.c_lexer.specs.declared.token.TokenKind.TheVariants as kinds
use Rattle.c_lexer.specs.declared.token.Keyword.TheVariants as words
use Rattle.c_lexer.specs.declared.token.Punct.TheVariants as signs
use Rattle.c_syntax.specs.declared.tree.Expr.{Expr}
use Rattle.c_syntax.specs.declared.tree.Ty.{Ty}
use Rattle.c_syntax.specs.declared.tree.Local.{Local}
use Rattle.c_syntax.specs.declared.tree.Label.{Label}
use Rattle.c_syntax.specs.declared.tree.Label.TheVariants as labels
use Rattle.c_syntax.specs.declared.tree.Clause.{Clause}
use Rattle.c_syntax.specs.declared.tree.Stmt.{Stmt, Empty, Value, Declare, Block, If, While, Do, For, Switch, Break, Continue, Return, fold-Stmt}
use Rattle.c_syntax.specs.declared.tree.Stmt.TheOpen.{Stmt-F}
use Rattle.c_grammar.specs.Places.{Place, mark, sign, word}
use Rattle.c_grammar.specs.Expressions.{comma, assign, cond, Reads}
use Rattle.c_grammar.specs.Specifiers.{Spells, is_local, type_of}
use Rattle.c_grammar.specs.Lists.{Separated}

-- Whether an `else` behind it would belong to an `if` in it (6.8.4.1, 3).
abbrev pub open_step : Stmt-F Bool (Unit {0}) → Bool
open_step (Stmt-F.If test a None) = true
open_step (Stmt-F.If test a (Some b)) = b
open_step (Stmt-F.While test body) = body
open_step (Stmt-F.For first test next body) = body
open_step _ = false

abbrev pub is_open : Stmt → Bool
is_open = fold-Stmt Bool (Unit {0}) open_step (λ clause. tt)

-- An expression that may be left out.
pub data ReadsMaybe : List Token → Option Expr → Type 0 where
  nothing : ReadsMaybe [] None
  just : {ts : List Token} {e : Expr} → Reads comma ts e → ReadsMaybe ts (Some e)

-- One declarator of a declaration in a block (6.7.5), with its initialiser (6.7.8).
pub data ReadsLocal (ty : Ty) (is_const : Bool) : List Token → Local → Type 0 where
  bare : (n : ℕ) (p : Place) → ReadsLocal ty is_const (mark (kinds.Name n) p ∷ []) (record { ty = ty; is_const = is_const; name = n; at = p.at; first = None })
  valued : {ts : List Token} {e : Expr} (n : ℕ) (p q : Place) → Reads assign ts e →
      ReadsLocal ty is_const (mark (kinds.Name n) p ∷ sign signs.Equal q ∷ ts) (record { ty = ty; is_const = is_const; name = n; at = p.at; first = Some e })

-- A declaration in a block (6.7).
pub data Declares : List Token → List Local → Type 0 where
  declares : {a b : List Token} {s : _} {ls : List Local} (p : Place) → Spells a s → is_local s ≡ true → Separated (ReadsLocal (type_of s) s.is_const) b ls →
      Declares (a ++ (b ++ sign signs.Semicolon p ∷ [])) ls

-- The first clause of a `for`, with its semicolon (6.8.5.3).
pub data ReadsFirst : List Token → Stmt → Type 0 where
  first_declare : {ts : List Token} {ls : List Local} → Declares ts ls → ReadsFirst ts (Declare ls)
  first_value : {ts : List Token} {e : Expr} (p : Place) → Reads comma ts e → ReadsFirst (ts ++ sign signs.Semicolon p ∷ []) (Value e)
  first_empty : (p : Place) → ReadsFirst (sign signs.Semicolon p ∷ []) Empty

-- A label of a `switch` (6.8.1).
pub data ReadsLabel : List Token → Label → Type 0 where
  case : {ts : List Token} {e : Expr} (p q : Place) → Reads cond ts e → ReadsLabel (word words.Case p ∷ (ts ++ sign signs.Colon q ∷ [])) (labels.Case e p.at)
  default : (p q : Place) → ReadsLabel (word words.Default p ∷ sign signs.Colon q ∷ []) (labels.Otherwise p.at)

-- One label or more.
pub data ReadsLabels : List Token → List Label → Type 0 where
  last_label : {ts : List Token} {l : Label} → ReadsLabel ts l → ReadsLabels ts (l ∷ [])
  next_label : {a b : List Token} {l : Label} {ls : List Label} → ReadsLabel a l → ReadsLabels b ls → ReadsLabels (a ++ b) (l ∷ ls)

-- A clause of a `switch`.
abbrev pub clause_of : List Label → List Stmt → Clause
clause_of ls cs = record { labels = ls; body = cs }

mutual
  -- ReadsStatement ts c: these tokens are a spelling of the statement (6.8).
  pub data ReadsStatement : List Token → Stmt → Type 0 where
    empty : (p : Place) → ReadsStatement (sign signs.Semicolon p ∷ []) Empty
    value : {ts : List Token} {e : Expr} (p : Place) → Reads comma ts e → ReadsStatement (ts ++ sign signs.Semicolon p ∷ []) (Value e)
    block : {ts : List Token} {body : List Stmt} (p q : Place) → ReadsBody ts body →
        ReadsStatement (sign signs.OpenBrace p ∷ (ts ++ sign signs.CloseBrace q ∷ [])) (Block body)
    if_only : {a b : List Token} {test : Expr} {c : Stmt} (p q r : Place) → Reads comma a test → ReadsStatement b c →
        ReadsStatement (word words.If p ∷ sign signs.OpenParen q ∷ (a ++ sign signs.CloseParen r ∷ b)) (If test c None)
    if_else : {a b c : List Token} {test : Expr} {x y : Stmt} (p q r s : Place) → is_open x ≡ false → Reads comma a test → ReadsStatement b x →
        ReadsStatement c y →
        ReadsStatement (word words.If p ∷ sign signs.OpenParen q ∷ (a ++ sign signs.CloseParen r ∷ (b ++ word words.Else s ∷ c))) (If test x (Some y))
    while : {a b : List Token} {test : Expr} {body : Stmt} (p q r : Place) → Reads comma a test → ReadsStatement b body →
        ReadsStatement (word words.While p ∷ sign signs.OpenParen q ∷ (a ++ sign signs.CloseParen r ∷ b)) (While test body)
    do_while : {a b : List Token} {test : Expr} {body : Stmt} (p q r s t : Place) → ReadsStatement a body → Reads comma b test →
        ReadsStatement (word words.Do p ∷ (a ++ word words.While q ∷ sign signs.OpenParen r ∷ (b ++ sign signs.CloseParen s ∷ sign signs.Semicolon t ∷ [])))
        (Do body test)
    for : {a b c d : List Token} {first body : Stmt} {test next : Option Expr} (p q r s : Place) → ReadsFirst a first → ReadsMaybe b test → ReadsMaybe c next →
        ReadsStatement d body →
        ReadsStatement (word words.For p ∷ sign signs.OpenParen q ∷ (a ++ (b ++ sign signs.Semicolon r ∷ (c ++ sign signs.CloseParen s ∷ d))))
        (For first test next body)
    switch : {a b : List Token} {test : Expr} {clauses : List Clause} (p q r s t : Place) → Reads comma a test → ReadsClauses b clauses →
        ReadsStatement
        (word words.Switch p ∷ sign signs.OpenParen q ∷ (a ++ sign signs.CloseParen r ∷ sign signs.OpenBrace s ∷ (b ++ sign signs.CloseBrace t ∷ [])))
        (Switch test clauses)
    break : (p q : Place) → ReadsStatement (word words.Break p ∷ sign signs.Semicolon q ∷ []) (Break p.at)
    continue : (p q : Place) → ReadsStatement (word words.Continue p ∷ sign signs.Semicolon q ∷ []) (Continue p.at)
    return : {ts : List Token} {e : Option Expr} (p q : Place) → ReadsMaybe ts e →
        ReadsStatement (word words.Return p ∷ (ts ++ sign signs.Semicolon q ∷ [])) (Return e p.at)

  -- What stands between the braces of a block (6.8.2).
  pub data ReadsBody : List Token → List Stmt → Type 0 where
    no_more : ReadsBody [] []
    declare : {a b : List Token} {ls : List Local} {body : List Stmt} → Declares a ls → ReadsBody b body → ReadsBody (a ++ b) (Declare ls ∷ body)
    next : {a b : List Token} {c : Stmt} {body : List Stmt} → ReadsStatement a c → ReadsBody b body → ReadsBody (a ++ b) (c ∷ body)

  -- Statements one behind the other, none of them a declaration.
  pub data ReadsStatements : List Token → List Stmt → Type 0 where
    no_statement : ReadsStatements [] []
    statement : {a b : List Token} {c : Stmt} {cs : List Stmt} → ReadsStatement a c → ReadsStatements b cs → ReadsStatements (a ++ b) (c ∷ cs)

  -- What stands between the braces of a `switch` (6.8.4.2): only the last clause can have no statement.
  pub data ReadsClauses : List Token → List Clause → Type 0 where
    no_clause : ReadsClauses [] []
    clause : {a b d : List Token} {ls : List Label} {cs : List Stmt} {more : List Clause} → ReadsLabels a ls → ReadsStatements b cs → (cs ≡ [] → more ≡ []) →
        ReadsClauses d more →
        ReadsClauses (a ++ (b ++ d)) (clause_of ls cs ∷ more)
