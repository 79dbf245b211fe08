-- The calls of an expression whose names are positions are those of the expression with names.
use Rattle.std.proofs.Common.{◌≡◌, ℕ, true, List, [], ◌∷◌, ◌++◌, map, flat_map, Some, sym, subst}
use Rattle.c_syntax.specs.declared.tree.Expr.{Expr, Literal, Name, Index, Call, Unary, Binary, Logic, Choose, Assign, Bump, Comma, Paren, roll-Expr, map-Expr, ind-Expr, fold-roll-Expr}
use Rattle.c_syntax.specs.declared.tree.Expr.TheOpen.{Expr-F}
use Rattle.c_syntax.specs.Graph.{expression_calls, expression_calls_step}
use Rattle.check_rules.specs.declared.names.Known.{Known}
use Rattle.check_rules.specs.Scopes.{InForce}
use Rattle.check_rules.specs.Walk.{is_scalar, is_array, is_function, Walked, valued, assignable, valued_each, walk_step, walked}
use Rattle.check_law.proofs.Yields.{Yields, yields_ok, yields_then, yields_after, IsUsed, yields_used}
use Rattle.check_rules.proofs.Views.{at-Literal, at-Name, at-Index, at-Call, at-Unary, at-Binary, at-Logic, at-Choose, at-Assign, at-Bump, at-Comma, at-Paren}

-- names of functions and their positions
pub data Positions (names : InForce) : List ℕ → List ℕ → Type 0 where
  no_names : Positions names [] []
  a_name : {ns ps : List ℕ} (n : ℕ) (d : Known) → names n ≡ Some d → is_function d.kind ≡ true → Positions names ns ps → Positions names (n ∷ ns) (d.position ∷ ps)

pub both_positions : {names : InForce} {a a' b b' : List ℕ} → Positions names a a' → Positions names b b' → Positions names (a ++ b) (a' ++ b')
both_positions no_names q = q
both_positions (a_name n d is such p) q = a_name n d is such (both_positions p q)

pub along_positions : {names names' : InForce} {a a' : List ℕ} → ((n : ℕ) (d : Known) → is_function d.kind ≡ true → names n ≡ Some d → names' n ≡ Some d) → Positions names a a' → Positions names' a a'
along_positions f no_names = no_names
along_positions f (a_name n d is such p) = a_name n d (f n d such is) such (along_positions f p)

module _ (names : InForce) where
  pub record CallsOf (x : Walked) (cs : List ℕ) : Type 0 where
    pub by : Yields (x.walk names) (λ e'. Positions names cs (expression_calls e'))

  seen : {cs ps : List ℕ} (e' : Expr) → expression_calls e' ≡ ps → Positions names cs ps → Positions names cs (expression_calls e')
  seen {cs = cs} e' is p = subst (Positions names cs) (sym is) p

  pub calls_of_value : {x : Walked} {cs : List ℕ} → CallsOf x cs → Yields (valued x names) (λ e'. Positions names cs (expression_calls e'))
  calls_of_value c = yields_then c.by (λ e' p. yields_after (λ ok. yields_ok e' p))

  calls_of_place : {x : Walked} {cs : List ℕ} (at : ℕ) → CallsOf x cs → Yields (assignable x at names) (λ e'. Positions names cs (expression_calls e'))
  calls_of_place at c = yields_then (calls_of_value c) (λ e' p. yields_after (λ ok. yields_ok e' p))

  abbrev Part : Type 0
  Part = (e : Expr) × CallsOf (walked e) (expression_calls e)

  abbrev bare : Expr-F Part → Expr-F Expr
  bare y = map-Expr Part Expr (λ e. e.0) y

  calls_of_each : (es : List Part) → Yields (valued_each (map walked (map (λ e. e.0) es)) names) (λ es'. Positions names (flat_map (λ calls. calls) (map expression_calls (map (λ e. e.0) es))) (flat_map (λ calls. calls) (map expression_calls es')))
  calls_of_each [] = yields_ok [] no_names
  calls_of_each (e ∷ es) = yields_then (calls_of_value e.1) (λ e' p. yields_then (calls_of_each es) (λ es' q. yields_ok (e' ∷ es') (both_positions p q)))

  named : {cs ps : List ℕ} (name position : ℕ) → IsUsed is_function (names name) position → Positions names cs ps → Positions names (name ∷ cs) (position ∷ ps)
  named {cs = cs} {ps = ps} name position u p = subst (λ n. Positions names (name ∷ cs) (n ∷ ps)) u.at (a_name name u.known u.is u.such p)

  abbrev step : Expr-F (List ℕ) → List ℕ
  step = expression_calls_step

  each_calls : (y : Expr-F Part) → CallsOf (walk_step (map-Expr Expr Walked walked (bare y))) (expression_calls_step (map-Expr Expr (List ℕ) expression_calls (bare y)))
  each_calls (Expr-F.Literal word is_unsigned at) = record { by = yields_ok (Literal word is_unsigned at) (seen (Literal word is_unsigned at) (at-Literal (List ℕ) step word is_unsigned at) no_names) }
  each_calls (Expr-F.Name name at) = record { by = yields_then (yields_used is_scalar _ at (names name)) (λ position u. yields_ok (Name position at) (seen (Name position at) (at-Name (List ℕ) step position at) no_names)) }
  each_calls (Expr-F.Index name i at) = record { by = yields_then (yields_used is_array _ at (names name)) (λ position u. yields_then (calls_of_value i.1) (λ i' p. yields_ok (Index position i' at) (seen (Index position i' at) (at-Index (List ℕ) step position i' at) p))) }
  each_calls (Expr-F.Call name args at) = record { by = yields_then (yields_used is_function _ at (names name)) (λ position u. yields_then (calls_of_each args) (λ args' p. yields_after (λ ok. yields_ok (Call position args' at) (seen (Call position args' at) (at-Call (List ℕ) step position args' at) (named name position u p))))) }
  each_calls (Expr-F.Unary op e at) = record { by = yields_then (calls_of_value e.1) (λ e' p. yields_ok (Unary op e' at) (seen (Unary op e' at) (at-Unary (List ℕ) step op e' at) p)) }
  each_calls (Expr-F.Binary op l r at) = record { by = yields_then (calls_of_value l.1) (λ l' p. yields_then (calls_of_value r.1) (λ r' q. yields_ok (Binary op l' r' at) (seen (Binary op l' r' at) (at-Binary (List ℕ) step op l' r' at) (both_positions p q)))) }
  each_calls (Expr-F.Logic is_and l r at) = record { by = yields_then (calls_of_value l.1) (λ l' p. yields_then (calls_of_value r.1) (λ r' q. yields_ok (Logic is_and l' r' at) (seen (Logic is_and l' r' at) (at-Logic (List ℕ) step is_and l' r' at) (both_positions p q)))) }
  each_calls (Expr-F.Choose t a b at) = record { by = yields_then (calls_of_value t.1) (λ t' o. yields_then (calls_of_value a.1) (λ a' p. yields_then (calls_of_value b.1) (λ b' q. yields_ok (Choose t' a' b' at) (seen (Choose t' a' b' at) (at-Choose (List ℕ) step t' a' b' at) (both_positions (both_positions o p) q))))) }
  each_calls (Expr-F.Assign op p v at) = record { by = yields_then (calls_of_place at p.1) (λ p' x. yields_then (calls_of_value v.1) (λ v' y. yields_ok (Assign op p' v' at) (seen (Assign op p' v' at) (at-Assign (List ℕ) step op p' v' at) (both_positions x y)))) }
  each_calls (Expr-F.Bump up before p at) = record { by = yields_then (calls_of_place at p.1) (λ p' x. yields_ok (Bump up before p' at) (seen (Bump up before p' at) (at-Bump (List ℕ) step up before p' at) x)) }
  each_calls (Expr-F.Comma l r at) = record { by = yields_then l.1.by (λ l' p. yields_then r.1.by (λ r' q. yields_ok (Comma l' r' at) (seen (Comma l' r' at) (at-Comma (List ℕ) step l' r' at) (both_positions p q)))) }
  each_calls (Expr-F.Paren e at) = record { by = yields_then e.1.by (λ e' p. yields_ok (Paren e' at) (seen (Paren e' at) (at-Paren (List ℕ) step e' at) p)) }

  pub calls_resolve : (e : Expr) → CallsOf (walked e) (expression_calls e)
  calls_resolve = ind-Expr (λ e. CallsOf (walked e) (expression_calls e)) (λ x y is. subst (λ z. CallsOf (walked (roll-Expr z)) (expression_calls (roll-Expr z))) is (rw (fold-roll-Expr Walked walk_step (bare y), fold-roll-Expr (List ℕ) expression_calls_step (bare y)) (each_calls y)))
