-- A tree has at most as many nodes as tokens.
use Rattle.std.proofs.Common.{◌≡◌, ◌≤◌, ◌+◌, ◌++◌, ℕ, Bool, false, List, [], ◌∷◌, map, Option, refl, arith, length}
use Rattle.std.specs.Prelude.{sum}
use Rattle.std.proofs.lemmas.List.{length-append}
use Rattle.std.proofs.lemmas.List.Sums.{sum_by-cons}
use Rattle.c_lexer.specs.declared.token.Token.{Token}
use Rattle.c_lexer.specs.declared.token.TokenKind.TheVariants as kinds
use Rattle.c_lexer.specs.declared.token.Punct.TheVariants as signs
use Rattle.c_syntax.specs.Sizes.{expression_nodes}
use Rattle.c_syntax.specs.declared.tree.BinaryOp.{BinaryOp}
use Rattle.c_syntax.specs.declared.tree.Expr.{Expr, Literal, Name, Index, Call, Choose, Assign, Bump, Comma, Paren}
use Rattle.c_syntax.specs.declared.tree.Expr.TheFolds.{the_lemmas}
use Rattle.c_grammar.specs.declared.operators.Infix.{Infix}
use Rattle.c_grammar.specs.declared.operators.Infix.TheVariants as infixes
use Rattle.c_grammar.specs.declared.operators.Prefix.{Prefix}
use Rattle.c_grammar.specs.declared.operators.Prefix.TheVariants as prefixes
use Rattle.c_grammar.specs.Places.{mark, sign}
use Rattle.c_grammar.specs.Operators.{joined, prefixed}
use Rattle.c_grammar.specs.Expressions.{Level, Reads, ReadsAll, comma_assign, comma_both, assign_cond, assign_to, cond_binary, choose, tighter, both, unary_postfix, unary, postfix_primary, bump, literal, name, index, call_none, call, paren, one, more}
use Rattle.c_grammar.proofs.Options.{length-cons}

nodes_literal : (v : ℕ) (u : Bool) (at : ℕ) → expression_nodes (Literal v u at) ≡ 1
nodes_literal v u at = simp the_lemmas

nodes_name : (v at : ℕ) → expression_nodes (Name v at) ≡ 1
nodes_name v at = simp the_lemmas

nodes_index : (n : ℕ) (e : Expr) (at : ℕ) → expression_nodes (Index n e at) ≡ 1 + expression_nodes e
nodes_index n e at = simp the_lemmas

nodes_call : (n : ℕ) (es : List Expr) (at : ℕ) → expression_nodes (Call n es at) ≡ 1 + sum (map expression_nodes es)
nodes_call n es at = simp the_lemmas

nodes_paren : (e : Expr) (at : ℕ) → expression_nodes (Paren e at) ≡ 1 + expression_nodes e
nodes_paren e at = simp the_lemmas

nodes_bump : (up before : Bool) (e : Expr) (at : ℕ) → expression_nodes (Bump up before e at) ≡ 1 + expression_nodes e
nodes_bump up before e at = simp the_lemmas

nodes_prefixed : (op : Prefix) (e : Expr) (at : ℕ) → expression_nodes (prefixed op e at) ≡ 1 + expression_nodes e
nodes_prefixed (prefixes.Plain op) e at = simp the_lemmas
nodes_prefixed (prefixes.Bump up) e at = simp the_lemmas

nodes_joined : (op : Infix) (l r : Expr) (at : ℕ) → expression_nodes (joined op l r at) ≡ 1 + expression_nodes l + expression_nodes r
nodes_joined (infixes.Plain op) l r at = simp the_lemmas
nodes_joined (infixes.Logic is_and) l r at = simp the_lemmas

nodes_comma : (l r : Expr) (at : ℕ) → expression_nodes (Comma l r at) ≡ 1 + expression_nodes l + expression_nodes r
nodes_comma l r at = simp the_lemmas

nodes_choose : (t a b : Expr) (at : ℕ) → expression_nodes (Choose t a b at) ≡ 1 + expression_nodes t + expression_nodes a + expression_nodes b
nodes_choose t a b at = simp the_lemmas

nodes_assign : (op : Option BinaryOp) (p v : Expr) (at : ℕ) → expression_nodes (Assign op p v at) ≡ 1 + expression_nodes p + expression_nodes v
nodes_assign op p v at = simp the_lemmas

-- the empty sum
pub sum-nil : sum [] ≡ 0
sum-nil = refl

-- a sum and its first part
pub sum-cons : (n : ℕ) (ns : List ℕ) → sum (n ∷ ns) ≡ n + sum ns
sum-cons n ns = sum_by-cons (λ m. m) n ns

-- the sum of a list's counts, with that of its first part
pub sum_map-cons : {A : Type 0} (count : A → ℕ) (x : A) (xs : List A) → sum (map count (x ∷ xs)) ≡ count x + sum (map count xs)
sum_map-cons count x xs = sum-cons (count x) (map count xs)

-- tokens on both sides of one
pub between : (a : List Token) (t : Token) (b : List Token) → length (a ++ t ∷ b) ≡ 1 + length a + length b
between a t b = omega (arith, length-append a (t ∷ b), length-cons t b)

mutual
  pub nodes : {l : Level} {ts : List Token} {e : Expr} → Reads l ts e → expression_nodes e ≤ length ts
  nodes (comma_assign d) = nodes d
  nodes (comma_both {a} {b} {left} {right} p d f) = omega (arith, nodes_comma left right p.at, nodes d, nodes f, between a (sign signs.Comma p) b)
  nodes (assign_cond d) = nodes d
  nodes (assign_to {a} {b} {place} {value} {op} s p i d f) = omega (arith, nodes_assign op place value p.at, nodes d, nodes f, between a (sign s p) b)
  nodes (cond_binary d) = nodes d
  nodes (choose {a} {b} {c} {test} {x} {y} p q d f g) = omega (arith, nodes_choose test x y p.at, nodes d, nodes f, nodes g, between a (sign signs.Question p) (b ++ sign signs.Colon q ∷ c), between b (sign signs.Colon q) c)
  nodes (tighter d) = nodes d
  nodes (both {k} {a} {b} {left} {right} {op} s p i d f) = omega (arith, nodes_joined op left right p.at, nodes d, nodes f, between a (sign s p) b)
  nodes (unary_postfix d) = nodes d
  nodes (unary {ts} {e} {op} s p i d) = omega (arith, nodes_prefixed op e p.at, nodes d, length-cons (sign s p) ts)
  nodes (postfix_primary d) = nodes d
  nodes (bump {ts} {e} {up} s p i d) = omega (arith, nodes_bump up false e p.at, nodes d, between ts (sign s p) [])
  nodes (literal value is_unsigned p) = omega (arith, nodes_literal value is_unsigned p.at, length-cons (mark (kinds.Number value is_unsigned) p) [])
  nodes (name n p) = omega (arith, nodes_name n p.at, length-cons (mark (kinds.Name n) p) [])
  nodes (index {ts} {e} n p q r d) = omega (arith, nodes_index n e p.at, nodes d, length-cons (mark (kinds.Name n) p) (sign signs.OpenBracket q ∷ (ts ++ sign signs.CloseBracket r ∷ [])), length-cons (sign signs.OpenBracket q) (ts ++ sign signs.CloseBracket r ∷ []), between ts (sign signs.CloseBracket r) [])
  nodes (call_none n p q r) = omega (arith, nodes_call n [] p.at, sum-nil, length-cons (mark (kinds.Name n) p) (sign signs.OpenParen q ∷ sign signs.CloseParen r ∷ []))
  nodes (call {ts} {es} n p q r d) = omega (arith, nodes_call n es p.at, nodes_all d, length-cons (mark (kinds.Name n) p) (sign signs.OpenParen q ∷ (ts ++ sign signs.CloseParen r ∷ [])), length-cons (sign signs.OpenParen q) (ts ++ sign signs.CloseParen r ∷ []), between ts (sign signs.CloseParen r) [])
  nodes (paren {ts} {e} p q d) = omega (arith, nodes_paren e p.at, nodes d, length-cons (sign signs.OpenParen p) (ts ++ sign signs.CloseParen q ∷ []), between ts (sign signs.CloseParen q) [])

  pub nodes_all : {ts : List Token} {es : List Expr} → ReadsAll ts es → sum (map expression_nodes es) ≤ length ts
  nodes_all (one {ts} {e} d) = omega (arith, nodes d, sum_map-cons expression_nodes e [], sum-nil)
  nodes_all (more {a} {b} {e} {es} p d ds) = omega (arith, nodes d, nodes_all ds, sum_map-cons expression_nodes e es, between a (sign signs.Comma p) b)
