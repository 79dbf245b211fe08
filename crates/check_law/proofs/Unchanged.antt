-- The walk leaves an expression without names as it is.
use Rattle.std.proofs.Common.{◌≡◌, ℕ, zero, suc, Bool, true, false, not, ◌&&◌, List, [], ◌∷◌, ◌++◌, flat_map, Some, None, refl, sym, ap, ◌∙◌, subst}
use Rattle.c_syntax.specs.declared.tree.Expr.{Expr, Literal, Unary, Binary, Logic, Choose, Comma, Paren, roll-Expr, map-Expr, ind-Expr, fold-roll-Expr}
use Rattle.c_syntax.specs.declared.tree.Expr.TheOpen.{Expr-F}
use Rattle.c_syntax.specs.declared.tree.Expr.TheVariants.{rolls-Literal, rolls-Unary, rolls-Binary, rolls-Logic, rolls-Choose, rolls-Comma, rolls-Paren}
use Rattle.c_syntax.specs.declared.tree.Label.{Label}
use Rattle.c_syntax.specs.declared.tree.Label.TheVariants as label
use Rattle.c_syntax.specs.declared.tree.Shape.{Shape}
use Rattle.c_syntax.specs.declared.tree.Shape.TheVariants as shape
use Rattle.c_syntax.specs.Graph.{expression_calls_step, expression_calls, label_calls}
use Rattle.c_meaning.specs.Meaning.{constant}
use Rattle.check_rules.specs.declared.error.CheckKind.TheVariants.{NotConstant, CaseTwice}
use Rattle.check_rules.specs.Fault.{require}
use Rattle.check_rules.specs.Scopes.{InForce, Walking, in_force}
use Rattle.check_rules.specs.Walk.{Walked, valued, walk_step, walked, with_value, place_of, is_free_step, is_free, has_constant_value, constant_part, Labels, is_among, walk_label, walk_labels, walk_initialisers, walk_shape}
use Rattle.check_law.proofs.Yields.{Yields, yields_ok, yields_err, yields_then, yields_after, required}

pub and_true : (a b : Bool) → (a && b) ≡ true → (a ≡ true) × (b ≡ true)
and_true true b is = (refl, is)
and_true false b is = absurd cc

module _ (names : InForce) where
  pub record Unchanged (x : Walked) (free : Bool) (e : Expr) : Type 0 where
    pub by : free ≡ true → Yields (x.walk names) (λ e'. e' ≡ e)

  unchanged_value : {x : Walked} {free : Bool} {e : Expr} → Unchanged x free e → free ≡ true → Yields (valued x names) (λ e'. e' ≡ e)
  unchanged_value u is = yields_then (u.by is) (λ e' same. yields_after (λ ok. yields_ok e' same))

  abbrev Part : Type 0
  Part = (e : Expr) × Unchanged (walked e) (is_free e) e

  abbrev bare : Expr-F Part → Expr-F Expr
  bare y = map-Expr Part Expr (λ e. e.0) y

  each_unchanged : (y : Expr-F Part) → Unchanged (walk_step (map-Expr Expr Walked walked (bare y))) (is_free_step (map-Expr Expr Bool is_free (bare y))) (roll-Expr (bare y))
  each_unchanged (Expr-F.Literal word is_unsigned at) = record { by = λ free. yields_ok (Literal word is_unsigned at) (sym (rolls-Literal word is_unsigned at)) }
  each_unchanged (Expr-F.Name name at) = record { by = λ free. absurd cc }
  each_unchanged (Expr-F.Index name i at) = record { by = λ free. absurd cc }
  each_unchanged (Expr-F.Call name args at) = record { by = λ free. absurd cc }
  each_unchanged (Expr-F.Unary op e at) = record { by = λ free. yields_then (unchanged_value e.1 free) (λ e' p. yields_ok (Unary op e' at) (ap (λ x. Unary op x at) p ∙ sym (rolls-Unary op e.0 at))) }
  each_unchanged (Expr-F.Binary op l r at) = record { by = λ free. let f = and_true (is_free l.0) (is_free r.0) free in yields_then (unchanged_value l.1 f.0) (λ l' p. yields_then (unchanged_value r.1 f.1) (λ r' q. yields_ok (Binary op l' r' at) (ap (λ x. Binary op x r' at) p ∙ ap (λ x. Binary op l.0 x at) q ∙ sym (rolls-Binary op l.0 r.0 at)))) }
  each_unchanged (Expr-F.Logic is_and l r at) = record { by = λ free. let f = and_true (is_free l.0) (is_free r.0) free in yields_then (unchanged_value l.1 f.0) (λ l' p. yields_then (unchanged_value r.1 f.1) (λ r' q. yields_ok (Logic is_and l' r' at) (ap (λ x. Logic is_and x r' at) p ∙ ap (λ x. Logic is_and l.0 x at) q ∙ sym (rolls-Logic is_and l.0 r.0 at)))) }
  each_unchanged (Expr-F.Choose t a b at) = record { by = λ free. let f = and_true (is_free t.0) (is_free a.0 && is_free b.0) free in let g = and_true (is_free a.0) (is_free b.0) f.1 in yields_then (unchanged_value t.1 f.0) (λ t' o. yields_then (unchanged_value a.1 g.0) (λ a' p. yields_then (unchanged_value b.1 g.1) (λ b' q. yields_ok (Choose t' a' b' at) (ap (λ x. Choose x a' b' at) o ∙ ap (λ x. Choose t.0 x b' at) p ∙ ap (λ x. Choose t.0 a.0 x at) q ∙ sym (rolls-Choose t.0 a.0 b.0 at))))) }
  each_unchanged (Expr-F.Assign op p v at) = record { by = λ free. absurd cc }
  each_unchanged (Expr-F.Bump up before p at) = record { by = λ free. absurd cc }
  each_unchanged (Expr-F.Comma l r at) = record { by = λ free. let f = and_true (is_free l.0) (is_free r.0) free in yields_then (l.1.by f.0) (λ l' p. yields_then (r.1.by f.1) (λ r' q. yields_ok (Comma l' r' at) (ap (λ x. Comma x r' at) p ∙ ap (λ x. Comma l.0 x at) q ∙ sym (rolls-Comma l.0 r.0 at)))) }
  each_unchanged (Expr-F.Paren e at) = record { by = λ free. yields_then (e.1.by free) (λ e' p. yields_ok (Paren e' at) (ap (λ x. Paren x at) p ∙ sym (rolls-Paren e.0 at))) }

  pub unchanged : (e : Expr) → Unchanged (walked e) (is_free e) e
  unchanged = ind-Expr (λ e. Unchanged (walked e) (is_free e) e) (λ x y is. subst (λ z. Unchanged (walked (roll-Expr z)) (is_free (roll-Expr z)) (roll-Expr z)) is (rw (fold-roll-Expr Walked walk_step (bare y), fold-roll-Expr Bool is_free_step (bare y)) (each_unchanged y)))

-- what passes as constant is free, so it stays as it is
pub constant_unchanged : (e : Expr) (w : Walking) → Yields (constant_part e w) (λ e'. e' ≡ e)
constant_unchanged e w = at (is_free e) refl
  where
    at : (b : Bool) → is_free e ≡ b → Yields (constant_part e w) (λ e'. e' ≡ e)
    at true is = yields_then (yields_then ((unchanged (in_force w) e).by is) (λ e' same. yields_after (λ ok. yields_ok e' same))) (λ e' same. yields_after (λ ok. yields_ok e' same))
    at false is = yields_then {m = with_value e w} {P = λ e'. Unit {0}} (record { if_ok = λ e' h. tt }) (λ e' u. yields_after {m = require (is_free e && has_constant_value e) NotConstant (place_of e)} (λ ok. let x = and_true (is_free e) (has_constant_value e) (required (is_free e && has_constant_value e) NotConstant (place_of e) ok) in let y : false ≡ true = sym is ∙ x.0 in absurd cc))

-- ---- and it calls nothing

record Uncalled (free : Bool) (cs : List ℕ) : Type 0 where
  by : free ≡ true → cs ≡ []

none_of_both : (a b : List ℕ) → a ≡ [] → b ≡ [] → a ++ b ≡ []
none_of_both a b p q = ap (λ x. x ++ b) p ∙ q

abbrev FreePart : Type 0
FreePart = (e : Expr) × Uncalled (is_free e) (expression_calls e)

each_uncalled : (y : Expr-F FreePart) → Uncalled (is_free_step (map-Expr Expr Bool is_free (map-Expr FreePart Expr (λ e. e.0) y))) (expression_calls_step (map-Expr Expr (List ℕ) expression_calls (map-Expr FreePart Expr (λ e. e.0) y)))
each_uncalled (Expr-F.Literal word is_unsigned at) = record { by = λ free. refl }
each_uncalled (Expr-F.Name name at) = record { by = λ free. absurd cc }
each_uncalled (Expr-F.Index name i at) = record { by = λ free. absurd cc }
each_uncalled (Expr-F.Call name args at) = record { by = λ free. absurd cc }
each_uncalled (Expr-F.Unary op e at) = record { by = e.1.by }
each_uncalled (Expr-F.Binary op l r at) = record { by = λ free. let f = and_true (is_free l.0) (is_free r.0) free in none_of_both (expression_calls l.0) (expression_calls r.0) (l.1.by f.0) (r.1.by f.1) }
each_uncalled (Expr-F.Logic is_and l r at) = record { by = λ free. let f = and_true (is_free l.0) (is_free r.0) free in none_of_both (expression_calls l.0) (expression_calls r.0) (l.1.by f.0) (r.1.by f.1) }
each_uncalled (Expr-F.Choose t a b at) = record { by = λ free. let f = and_true (is_free t.0) (is_free a.0 && is_free b.0) free in let g = and_true (is_free a.0) (is_free b.0) f.1 in none_of_both (expression_calls t.0 ++ expression_calls a.0) (expression_calls b.0) (none_of_both (expression_calls t.0) (expression_calls a.0) (t.1.by f.0) (a.1.by g.0)) (b.1.by g.1) }
each_uncalled (Expr-F.Assign op p v at) = record { by = λ free. absurd cc }
each_uncalled (Expr-F.Bump up before p at) = record { by = λ free. absurd cc }
each_uncalled (Expr-F.Comma l r at) = record { by = λ free. let f = and_true (is_free l.0) (is_free r.0) free in none_of_both (expression_calls l.0) (expression_calls r.0) (l.1.by f.0) (r.1.by f.1) }
each_uncalled (Expr-F.Paren e at) = record { by = e.1.by }

pub uncalled : (e : Expr) → is_free e ≡ true → expression_calls e ≡ []
uncalled e = (all e).by
  where
    all : (e : Expr) → Uncalled (is_free e) (expression_calls e)
    all = ind-Expr (λ e. Uncalled (is_free e) (expression_calls e)) (λ x y is. subst (λ z. Uncalled (is_free (roll-Expr z)) (expression_calls (roll-Expr z))) is (rw (fold-roll-Expr Bool is_free_step (map-Expr FreePart Expr (λ e. e.0) y), fold-roll-Expr (List ℕ) expression_calls_step (map-Expr FreePart Expr (λ e. e.0) y)) (each_uncalled y)))

pub constant_uncalled : (e : Expr) (w : Walking) → Yields (constant_part e w) (λ e'. expression_calls e ≡ [])
constant_uncalled e w = yields_then {m = with_value e w} {P = λ e'. Unit {0}} (record { if_ok = λ e' h. tt }) (λ e' u. yields_after {m = require (is_free e && has_constant_value e) NotConstant (place_of e)} (λ ok. yields_ok e' (uncalled e (and_true (is_free e) (has_constant_value e) (required (is_free e && has_constant_value e) NotConstant (place_of e) ok)).0)))

pub label_uncalled : (l : Label) (labels : Labels) (w : Walking) → Yields (walk_label l labels w) (λ r. label_calls l ≡ [])
label_uncalled (label.Case e at) labels w = yields_then (yields_then (constant_uncalled e w) (λ e' none. yields_ok {P = λ r. expression_calls e ≡ []} (e', constant e) none)) (λ r none. record { if_ok = λ r is. none })
label_uncalled (label.Otherwise at) labels w = record { if_ok = λ r is. refl }

pub labels_uncalled : (ls : List Label) (labels : Labels) (w : Walking) → Yields (walk_labels ls labels w) (λ r. flat_map label_calls ls ≡ [])
labels_uncalled [] labels w = yields_ok ([], labels) refl
labels_uncalled (l ∷ ls) labels w = yields_then (label_uncalled l labels w) (λ r1 p. yields_then (labels_uncalled ls r1.1 w) (λ r2 q. yields_ok (r1.0 ∷ r2.0, r2.1) (none_of_both (label_calls l) (flat_map label_calls ls) p q)))

-- ---- labels, initialisers and lengths

pub label_unchanged : (l : Label) (labels : Labels) (w : Walking) → Yields (walk_label l labels w) (λ r. r.0 ≡ l)
label_unchanged (label.Case e at) labels w = yields_then (yields_then (constant_unchanged e w) (λ e' same. yields_ok {P = λ r. r.0 ≡ e} (e', constant e) same)) (λ r same. yields_after {m = require (not (is_among r.1 labels.cases)) CaseTwice at} (λ ok. yields_ok _ (ap (λ x. label.Case x at) same)))
label_unchanged (label.Otherwise at) labels w = yields_after (λ ok. yields_ok _ refl)

pub labels_unchanged : (ls : List Label) (labels : Labels) (w : Walking) → Yields (walk_labels ls labels w) (λ r. r.0 ≡ ls)
labels_unchanged [] labels w = yields_ok ([], labels) refl
labels_unchanged (l ∷ ls) labels w = yields_then (label_unchanged l labels w) (λ r1 p. yields_then (labels_unchanged ls r1.1 w) (λ r2 q. yields_ok (r1.0 ∷ r2.0, r2.1) (ap (λ x. x ∷ r2.0) p ∙ ap (λ xs. l ∷ xs) q)))

pub initialisers_unchanged : (room : ℕ) (es : List Expr) (w : Walking) → Yields (walk_initialisers room es w) (λ es'. es' ≡ es)
initialisers_unchanged room [] w = yields_ok [] refl
initialisers_unchanged zero (e ∷ es) w = yields_err _
initialisers_unchanged (suc room) (e ∷ es) w = yields_then (constant_unchanged e w) (λ e' p. yields_then (initialisers_unchanged room es w) (λ es' q. yields_ok (e' ∷ es') (ap (λ x. x ∷ es') p ∙ ap (λ xs. e ∷ xs) q)))

pub shape_unchanged : (s : Shape) (w : Walking) → Yields (walk_shape s w) (λ s'. s' ≡ s)
shape_unchanged shape.Scalar w = yields_ok shape.Scalar refl
shape_unchanged (shape.Array None) w = yields_ok (shape.Array None) refl
shape_unchanged (shape.Array (Some e)) w = yields_then (yields_then (constant_unchanged e w) (λ e' p. yields_ok {P = λ o. o ≡ Some e} (Some e') (ap Some p))) (λ o p. yields_ok (shape.Array o) (ap shape.Array p))
