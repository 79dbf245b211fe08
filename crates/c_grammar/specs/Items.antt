-- The items of a program: which tokens spell which tree, ISO/IEC 9899 6.7 and 6.9.
use Rattle.std.specs.Prelude.{ℕ, ◌≡◌, List, [], ◌∷◌, ◌++◌, Option, Some, None, Bool, true, false}
use Rattle.c_lexer.specs.declared.token.Token.{Token}
use Rattle.c_lexer.specs.declared.token.TokenKind.TheVariants as kinds
use Rattle.c_lexer.specs.declared.token.Keyword.TheVariants as words
use Rattle.c_lexer.specs.declared.token.Punct.TheVariants as signs
use Rattle.c_syntax.specs.declared.tree.Expr.{Expr}
use Rattle.c_syntax.specs.declared.tree.Ty.{Ty}
use Rattle.c_syntax.specs.declared.tree.Stmt.{Stmt}
use Rattle.c_syntax.specs.declared.tree.Shape.TheVariants as shapes
use Rattle.c_syntax.specs.declared.tree.GlobalVar.{GlobalVar}
use Rattle.c_syntax.specs.declared.tree.Param.{Param}
use Rattle.c_syntax.specs.declared.tree.TopItem.{TopItem}
use Rattle.c_syntax.specs.declared.tree.TopItem.TheVariants as items
use Rattle.c_syntax.specs.declared.tree.Program.{Program}
use Rattle.c_syntax.specs.Shaped.{each, has_name}
use Rattle.c_grammar.specs.declared.specifiers.Specifiers.{Specifiers}
use Rattle.c_grammar.specs.Places.{Place, mark, sign, word}
use Rattle.c_grammar.specs.Expressions.{cond, Reads}
use Rattle.c_grammar.specs.Specifiers.{Spells, is_value, is_local, is_function, type_of}
use Rattle.c_grammar.specs.Lists.{Separated}
use Rattle.c_grammar.specs.Statements.{ReadsBody}

-- The length of an array, which may be left out (6.7.5.2).
pub data ReadsLength : List Token → Option Expr → Type 0 where
  no_length : ReadsLength [] None
  a_length : {ts : List Token} {e : Expr} → Reads cond ts e → ReadsLength ts (Some e)

-- A last comma, which may be left out (6.7.8).
pub data LastComma : List Token → Type 0 where
  no_comma : LastComma []
  a_comma : (p : Place) → LastComma (sign signs.Comma p ∷ [])

-- One declarator at file scope (6.7.5), with its initialisers (6.7.8).
pub data ReadsGlobal (ty : Ty) (is_const : Bool) : List Token → GlobalVar → Type 0 where
  scalar : (n : ℕ) (p : Place) →
      ReadsGlobal ty is_const (mark (kinds.Name n) p ∷ []) (record { ty = ty; is_const = is_const; name = n; at = p.at; shape = shapes.Scalar; first = [] })
  scalar_valued : {ts : List Token} {e : Expr} (n : ℕ) (p q : Place) → Reads cond ts e →
      ReadsGlobal ty is_const (mark (kinds.Name n) p ∷ sign signs.Equal q ∷ ts)
      (record { ty = ty; is_const = is_const; name = n; at = p.at; shape = shapes.Scalar; first = e ∷ [] })
  array : {ts : List Token} {l : Option Expr} (n : ℕ) (p q r : Place) → ReadsLength ts l →
      ReadsGlobal ty is_const (mark (kinds.Name n) p ∷ sign signs.OpenBracket q ∷ (ts ++ sign signs.CloseBracket r ∷ []))
      (record { ty = ty; is_const = is_const; name = n; at = p.at; shape = shapes.Array l; first = [] })
  array_valued : {a b c : List Token} {l : Option Expr} {es : List Expr} (n : ℕ) (p q r s t u : Place) → ReadsLength a l → Separated (Reads cond) b es →
      LastComma c →
      ReadsGlobal ty is_const (mark (kinds.Name n) p ∷ sign signs.OpenBracket q ∷ (a ++ sign signs.CloseBracket r ∷ sign signs.Equal s ∷
      sign signs.OpenBrace t ∷ (b ++ (c ++ sign signs.CloseBrace u ∷ []))))
      (record { ty = ty; is_const = is_const; name = n; at = p.at; shape = shapes.Array l; first = es })

-- the byte of the first token, 0 where there is none
abbrev pub first_at : List Token → ℕ
first_at [] = 0
first_at (t ∷ ts) = t.at

-- A parameter (6.7.5.3); `const` has no effect where it has no name.
pub data ReadsParam : List Token → Param → Type 0 where
  named : {ts : List Token} {s : Specifiers} (n : ℕ) (p : Place) → Spells ts s → is_local s ≡ true →
      ReadsParam (ts ++ mark (kinds.Name n) p ∷ []) (record { ty = type_of s; is_const = s.is_const; name = Some n; at = p.at })
  unnamed : {ts : List Token} {s : Specifiers} → Spells ts s → is_local s ≡ true →
      ReadsParam ts (record { ty = type_of s; is_const = false; name = None; at = first_at ts })

-- The parameters of a function (6.7.5.3).
pub data ReadsParams : List Token → List Param → Type 0 where
  nothing : ReadsParams [] []
  void : (p : Place) → ReadsParams (word words.Void p ∷ []) []
  params : {ts : List Token} {ps : List Param} → Separated ReadsParam ts ps → ReadsParams ts ps

-- whether each parameter has a name (6.9.1, 5)
abbrev pub all_named : List Param → Bool
all_named ps = each (λ p. has_name p.name) ps

-- ReadsItem ts i: these tokens are a spelling of the item (6.9): variables, a function without a body, or one with it.
pub data ReadsItem : List Token → TopItem → Type 0 where
  globals : {a b : List Token} {s : Specifiers} {gs : List GlobalVar} (p : Place) → Spells a s → is_value s ≡ true →
      Separated (ReadsGlobal (type_of s) s.is_const) b gs →
      ReadsItem (a ++ (b ++ sign signs.Semicolon p ∷ [])) (items.Globals gs)
  prototype : {a b : List Token} {s : Specifiers} {ps : List Param} (n : ℕ) (p q r t : Place) → Spells a s → is_function s ≡ true → ReadsParams b ps →
      ReadsItem (a ++ mark (kinds.Name n) p ∷ sign signs.OpenParen q ∷ (b ++ sign signs.CloseParen r ∷ sign signs.Semicolon t ∷ []))
      (items.Function (record { ty = type_of s; name = n; at = p.at; params = ps; body = None }))
  function : {a b c : List Token} {s : Specifiers} {ps : List Param} {body : List Stmt} (n : ℕ) (p q r t u : Place) → Spells a s → is_function s ≡ true →
      ReadsParams b ps → all_named ps ≡ true → ReadsBody c body →
      ReadsItem
      (a ++ mark (kinds.Name n) p ∷ sign signs.OpenParen q ∷ (b ++ sign signs.CloseParen r ∷ sign signs.OpenBrace t ∷ (c ++ sign signs.CloseBrace u ∷ [])))
      (items.Function (record { ty = type_of s; name = n; at = p.at; params = ps; body = Some body }))

-- The items of a program, one behind the other.
pub data ReadsItems : List Token → List TopItem → Type 0 where
  end : ReadsItems [] []
  item : {a b : List Token} {i : TopItem} {is : List TopItem} → ReadsItem a i → ReadsItems b is → ReadsItems (a ++ b) (i ∷ is)

-- These tokens spell the program (6.9).
abbrev pub Tree : List Token → Program → Type 0
Tree tokens program = ReadsItems tokens program.items
