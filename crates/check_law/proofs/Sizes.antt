-- The sizes, the form and the costs of what the walk gives are those of what it took: they don't depend on names, but for the calls of
-- functions with bodies, which cost the same under a name and under its position.
use Rattle.std.proofs.Common.{◌≡◌, ℕ, ◌+◌, true, List, [], ◌∷◌, map, sum, length, Some, refl, sym, ap, ◌∙◌, subst}
use Rattle.c_syntax.specs.declared.tree.Expr.{Expr, Literal, Name, Index, Call, Unary, Binary, Logic, Choose, Assign, Bump, Comma, Paren, roll-Expr, map-Expr, ind-Expr, fold-Expr, fold-roll-Expr}
use Rattle.c_syntax.specs.declared.tree.Expr.TheOpen.{Expr-F}
use Rattle.c_syntax.specs.declared.tree.TopItem.{TopItem}
use Rattle.c_syntax.specs.Sizes.{expression_nodes_step, expression_nodes}
use Rattle.c_syntax.specs.Costs.{Need, need_step, need, call_cost, expression_cost_step, expression_cost}
use Rattle.check_rules.specs.declared.error.CheckKind.TheVariants.{VoidUsed, NotAssignable, NotScalar, NotAnArray, NotAFunction, ArgCount}
use Rattle.check_rules.specs.declared.names.Known.{Known}
use Rattle.check_rules.specs.Fault.{require, refuse}
use Rattle.check_rules.specs.Scopes.{InForce}
use Rattle.check_rules.specs.Walk.{is_scalar, is_array, is_function, takes, Walked, valued, assignable, valued_each, walk_step, walked}
use Rattle.check_law.proofs.Yields.{Yields, yields_ok, yields_then, yields_after, yields_used}
use Rattle.check_rules.proofs.Views.{at-Literal, at-Name, at-Index, at-Call, at-Unary, at-Binary, at-Logic, at-Choose, at-Assign, at-Bump, at-Comma, at-Paren}

-- ---- expressions

-- a level of an expression that names nothing
abbrev pub Nameless : {A : Type 0} → Expr-F A → Type 0
Nameless (Expr-F.Literal word u at) = Unit {0}
Nameless (Expr-F.Name name at) = ⊥
Nameless (Expr-F.Index name i at) = ⊥
Nameless (Expr-F.Call name args at) = ⊥
Nameless (Expr-F.Unary op e at) = Unit {0}
Nameless (Expr-F.Binary op l r at) = Unit {0}
Nameless (Expr-F.Logic is_and l r at) = Unit {0}
Nameless (Expr-F.Choose t a b at) = Unit {0}
Nameless (Expr-F.Assign op p v at) = Unit {0}
Nameless (Expr-F.Bump up before p at) = Unit {0}
Nameless (Expr-F.Comma l r at) = Unit {0}
Nameless (Expr-F.Paren e at) = Unit {0}

module _ (names : InForce) (A : Type 0) (step step' : Expr-F A → A) where
  -- two folds that agree under a name and under its position
  pub record Like : Type 0 where
    pub on_name : (n p at : ℕ) → step' (Expr-F.Name p at) ≡ step (Expr-F.Name n at)
    pub on_index : (n p : ℕ) (i : A) (at : ℕ) → step' (Expr-F.Index p i at) ≡ step (Expr-F.Index n i at)
    pub on_call : (n : ℕ) (d : Known) → names n ≡ Some d → is_function d.kind ≡ true → (args : List A) (at : ℕ) → step' (Expr-F.Call d.position args at) ≡ step (Expr-F.Call n args at)
    pub on_rest : (y : Expr-F A) → Nameless y → step' y ≡ step y

  module _ (like : Like) where
    abbrev old : Expr → A
    old = fold-Expr A step

    abbrev new : Expr → A
    new = fold-Expr A step'

    pub record Keeps (x : Walked) (a : A) : Type 0 where
      pub by : Yields (x.walk names) (λ e'. new e' ≡ a)

    pub keeps_value : {x : Walked} {a : A} → Keeps x a → Yields (valued x names) (λ e'. new e' ≡ a)
    keeps_value {x = x} k = yields_then k.by (λ e' p. yields_after {m = refuse (x.void_call names) VoidUsed} (λ ok. yields_ok e' p))

    keeps_place : {x : Walked} {a : A} (at : ℕ) → Keeps x a → Yields (assignable x at names) (λ e'. new e' ≡ a)
    keeps_place {x = x} at k = yields_then (keeps_value k) (λ e' p. yields_after {m = require (x.is_modifiable names) NotAssignable at} (λ ok. yields_ok e' p))

    abbrev Part : Type 0
    Part = (e : Expr) × Keeps (walked e) (old e)

    abbrev bare : Expr-F Part → Expr-F Expr
    bare y = map-Expr Part Expr (λ e. e.0) y

    both_kept : (e' : Expr) (a : A) (es' : List Expr) (as' : List A) → new e' ≡ a → map new es' ≡ as' → map new (e' ∷ es') ≡ a ∷ as'
    both_kept e' a es' as' p q = ap (λ x. x ∷ map new es') p ∙ ap (λ xs. a ∷ xs) q

    keeps_each : (es : List Part) → Yields (valued_each (map walked (map (λ e. e.0) es)) names) (λ es'. map new es' ≡ map old (map (λ e. e.0) es))
    keeps_each [] = yields_ok [] refl
    keeps_each (e ∷ es) = yields_then (keeps_value e.1) (λ e' p. yields_then (keeps_each es) (λ es' q. yields_ok (e' ∷ es') (both_kept e' (old e.0) es' (map old (map (λ e. e.0) es)) p q)))

    each_keeps : (y : Expr-F Part) → Keeps (walk_step (map-Expr Expr Walked walked (bare y))) (step (map-Expr Expr A old (bare y)))
    each_keeps (Expr-F.Literal word u at) = record { by = yields_ok (Literal word u at) (at-Literal A step' word u at ∙ like.on_rest (Expr-F.Literal word u at) tt) }
    each_keeps (Expr-F.Name name at) = record { by = yields_then (yields_used is_scalar NotScalar at (names name)) (λ position u. yields_ok (Name position at) (at-Name A step' position at ∙ like.on_name name position at)) }
    each_keeps (Expr-F.Index name i at) = record { by = yields_then (yields_used is_array NotAnArray at (names name)) (λ position u. yields_then (keeps_value i.1) (λ i' p. yields_ok (Index position i' at) (at-Index A step' position i' at ∙ ap (λ x. step' (Expr-F.Index position x at)) p ∙ like.on_index name position (old i.0) at))) }
    each_keeps (Expr-F.Call name args at) = record {
      by = yields_then (yields_used is_function NotAFunction at (names name)) (λ position u. yields_then (keeps_each args) (λ args' p. yields_after {m = require (takes (length (map walked (map (λ e. e.0) args))) (names name)) ArgCount at} (λ ok. yields_ok (Call position args' at)
          (at-Call A step' position args' at ∙ ap (λ x. step' (Expr-F.Call position x at)) p ∙ ap (λ q. step' (Expr-F.Call q (map old (map (λ e. e.0) args)) at)) (sym u.at) ∙ like.on_call name u.known u.is u.such (map old (map (λ e. e.0) args)) at))));
    }
    each_keeps (Expr-F.Unary op e at) = record { by = yields_then (keeps_value e.1) (λ e' p. yields_ok (Unary op e' at) (at-Unary A step' op e' at ∙ ap (λ x. step' (Expr-F.Unary op x at)) p ∙ like.on_rest (Expr-F.Unary op (old e.0) at) tt)) }
    each_keeps (Expr-F.Binary op l r at) = record { by = yields_then (keeps_value l.1) (λ l' p. yields_then (keeps_value r.1) (λ r' q. yields_ok (Binary op l' r' at) (at-Binary A step' op l' r' at ∙ ap (λ x. step' (Expr-F.Binary op x (new r') at)) p ∙ ap (λ x. step' (Expr-F.Binary op (old l.0) x at)) q ∙ like.on_rest (Expr-F.Binary op (old l.0) (old r.0) at) tt))) }
    each_keeps (Expr-F.Logic is_and l r at) = record { by = yields_then (keeps_value l.1) (λ l' p. yields_then (keeps_value r.1) (λ r' q. yields_ok (Logic is_and l' r' at) (at-Logic A step' is_and l' r' at ∙ ap (λ x. step' (Expr-F.Logic is_and x (new r') at)) p ∙ ap (λ x. step' (Expr-F.Logic is_and (old l.0) x at)) q ∙ like.on_rest (Expr-F.Logic is_and (old l.0) (old r.0) at) tt))) }
    each_keeps (Expr-F.Choose t a b at) = record { by = yields_then (keeps_value t.1) (λ t' o. yields_then (keeps_value a.1) (λ a' p. yields_then (keeps_value b.1) (λ b' q. yields_ok (Choose t' a' b' at) (at-Choose A step' t' a' b' at ∙ ap (λ x. step' (Expr-F.Choose x (new a') (new b') at)) o ∙ ap (λ x. step' (Expr-F.Choose (old t.0) x (new b') at)) p ∙ ap (λ x. step' (Expr-F.Choose (old t.0) (old a.0) x at)) q ∙ like.on_rest (Expr-F.Choose (old t.0) (old a.0) (old b.0) at) tt)))) }
    each_keeps (Expr-F.Assign op p v at) = record { by = yields_then (keeps_place at p.1) (λ p' x. yields_then (keeps_value v.1) (λ v' y. yields_ok (Assign op p' v' at) (at-Assign A step' op p' v' at ∙ ap (λ z. step' (Expr-F.Assign op z (new v') at)) x ∙ ap (λ z. step' (Expr-F.Assign op (old p.0) z at)) y ∙ like.on_rest (Expr-F.Assign op (old p.0) (old v.0) at) tt))) }
    each_keeps (Expr-F.Bump up before p at) = record { by = yields_then (keeps_place at p.1) (λ p' x. yields_ok (Bump up before p' at) (at-Bump A step' up before p' at ∙ ap (λ z. step' (Expr-F.Bump up before z at)) x ∙ like.on_rest (Expr-F.Bump up before (old p.0) at) tt)) }
    each_keeps (Expr-F.Comma l r at) = record { by = yields_then l.1.by (λ l' p. yields_then r.1.by (λ r' q. yields_ok (Comma l' r' at) (at-Comma A step' l' r' at ∙ ap (λ x. step' (Expr-F.Comma x (new r') at)) p ∙ ap (λ x. step' (Expr-F.Comma (old l.0) x at)) q ∙ like.on_rest (Expr-F.Comma (old l.0) (old r.0) at) tt))) }
    each_keeps (Expr-F.Paren e at) = record { by = yields_then e.1.by (λ e' p. yields_ok (Paren e' at) (at-Paren A step' e' at ∙ ap (λ x. step' (Expr-F.Paren x at)) p ∙ like.on_rest (Expr-F.Paren (old e.0) at) tt)) }

    pub keeps : (e : Expr) → Keeps (walked e) (old e)
    keeps = ind-Expr (λ e. Keeps (walked e) (old e)) (λ x y is. subst (λ z. Keeps (walked (roll-Expr z)) (old (roll-Expr z))) is (rw (fold-roll-Expr Walked walk_step (bare y), fold-roll-Expr A step (bare y)) (each_keeps y)))

-- ---- nodes, temporaries and costs

module _ (items items' : List TopItem) where
  -- what an expression and what the walk gives of it have in common
  pub record SameSizes (e e' : Expr) : Type 0 where
    pub nodes : expression_nodes e' ≡ expression_nodes e
    pub need : need e' ≡ need e
    pub cost : expression_cost items' e' ≡ expression_cost items e

module _ (names : InForce) where
  nodes_like : Like names ℕ expression_nodes_step expression_nodes_step
  nodes_like = record { on_name = λ n p at. refl; on_index = λ n p i at. refl; on_call = λ n d is such args at. refl; on_rest = λ y h. refl }

  need_like : Like names Need need_step need_step
  need_like = record { on_name = λ n p at. refl; on_index = λ n p i at. refl; on_call = λ n d is such args at. refl; on_rest = λ y h. refl }

  module _ (items items' : List TopItem) (calls : (n : ℕ) (d : Known) → names n ≡ Some d → is_function d.kind ≡ true → call_cost items' d.position ≡ call_cost items n) where
    rest_cost : (y : Expr-F ℕ) → Nameless y → expression_cost_step items' y ≡ expression_cost_step items y
    rest_cost (Expr-F.Literal word u at) h = refl
    rest_cost (Expr-F.Name name at) h = absurd h
    rest_cost (Expr-F.Index name i at) h = absurd h
    rest_cost (Expr-F.Call name args at) h = absurd h
    rest_cost (Expr-F.Unary op e at) h = refl
    rest_cost (Expr-F.Binary op l r at) h = refl
    rest_cost (Expr-F.Logic is_and l r at) h = refl
    rest_cost (Expr-F.Choose t a b at) h = refl
    rest_cost (Expr-F.Assign op p v at) h = refl
    rest_cost (Expr-F.Bump up before p at) h = refl
    rest_cost (Expr-F.Comma l r at) h = refl
    rest_cost (Expr-F.Paren e at) h = refl

    cost_like : Like names ℕ (expression_cost_step items) (expression_cost_step items')
    cost_like = record { on_name = λ n p at. refl; on_index = λ n p i at. refl; on_call = λ n d is such args at. ap (λ c. c + sum args) (calls n d is such); on_rest = rest_cost }

    pub any_sizes : (e : Expr) → Yields ((walked e).walk names) (SameSizes items items' e)
    any_sizes e = record {
      if_ok = λ e' is. record {
        nodes = (keeps names ℕ expression_nodes_step expression_nodes_step nodes_like e).by.if_ok e' is;
        need = (keeps names Need need_step need_step need_like e).by.if_ok e' is;
        cost = (keeps names ℕ (expression_cost_step items) (expression_cost_step items') cost_like e).by.if_ok e' is;
      };
    }

    pub value_sizes : (e : Expr) → Yields (valued (walked e) names) (SameSizes items items' e)
    value_sizes e = record {
      if_ok = λ e' is. record {
        nodes = (keeps_value names ℕ expression_nodes_step expression_nodes_step nodes_like (keeps names ℕ expression_nodes_step expression_nodes_step nodes_like e)).if_ok e' is;
        need = (keeps_value names Need need_step need_step need_like (keeps names Need need_step need_step need_like e)).if_ok e' is;
        cost = (keeps_value names ℕ (expression_cost_step items) (expression_cost_step items') cost_like (keeps names ℕ (expression_cost_step items) (expression_cost_step items') cost_like e)).if_ok e' is;
      };
    }
