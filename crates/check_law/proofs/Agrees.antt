-- An expression whose names are positions passes the walk in which each position designates its declaration, and stays as it is: each use agrees
-- with its declaration.
use Rattle.std.proofs.Common.{◌≡◌, ℕ, suc, Bool, true, List, [], ◌∷◌, map, length, Option, Some, None, Ok, refl, sym, ap, ◌∙◌, subst, if◌then◌else◌}
use Rattle.std.proofs.lemmas.List.{length-map}
use Rattle.c_syntax.specs.declared.tree.Expr.{Expr, Literal, Name, Index, Call, Unary, Binary, Logic, Choose, Assign, Bump, Comma, Paren, roll-Expr, map-Expr, ind-Expr, fold-roll-Expr}
use Rattle.c_syntax.specs.declared.tree.Expr.TheOpen.{Expr-F}
use Rattle.check_rules.specs.declared.error.CheckKind.{CheckKind}
use Rattle.check_rules.specs.declared.error.CheckKind.TheVariants.{NotScalar, NotAnArray, NotAFunction, ArgCount, NotAssignable, VoidUsed}
use Rattle.check_rules.specs.Fault.{require, refuse}
use Rattle.check_rules.specs.declared.names.Kind.{Kind}
use Rattle.check_rules.specs.declared.names.Known.{Known}
use Rattle.check_rules.specs.Scopes.{InForce}
use Rattle.check_rules.specs.Walk.{is_scalar, is_array, is_function, used, takes, returns_void, is_modifiable_name, Walked, valued, assignable, valued_each, walk_step, walked}
use Rattle.check_law.proofs.Yields.{Yields, yields_ok, yields_then, yields_after, required, IsUsed, yields_used}
use Rattle.check_rules.proofs.Views.{at-Literal, at-Name, at-Index, at-Call, at-Unary, at-Binary, at-Logic, at-Choose, at-Assign, at-Bump, at-Comma, at-Paren}

refused : (o : Option ℕ) (kind : CheckKind) → refuse o kind ≡ Ok tt → o ≡ None
refused None kind is = refl
refused (Some at) kind is = absurd cc

module _ (names names' : InForce) (agree : (n : ℕ) (d : Known) → names n ≡ Some d → names' d.position ≡ Some d) where
  -- it passes as it is, and stands for the same void call, and for a place of the same sort
  pub record Passes (x : Walked) (e' : Expr) : Type 0 where
    pub walk : (walked e').walk names' ≡ Ok e'
    pub void_call : (walked e').void_call names' ≡ x.void_call names
    pub is_modifiable : (walked e').is_modifiable names' ≡ x.is_modifiable names

  pub record Agrees (x : Walked) : Type 0 where
    pub by : Yields (x.walk names) (Passes x)

  pub record PassesValue (x : Walked) (e' : Expr) : Type 0 where
    pub value : valued (walked e') names' ≡ Ok e'
    pub passes : Passes x e'

  pub agrees_value : {x : Walked} → Agrees x → Yields (valued x names) (PassesValue x)
  agrees_value {x = x} a = yields_then a.by (λ e' p. yields_after {m = refuse (x.void_call names) VoidUsed} (λ ok.
      let none : (walked e').void_call names' ≡ None = p.void_call ∙ refused (x.void_call names) VoidUsed ok in
      let w = p.walk in
      yields_ok e' (record { value = rw (w, none) refl; passes = p })))

  agrees_place : {x : Walked} (at : ℕ) → Agrees x → Yields (assignable x at names) (λ e'. assignable (walked e') at names' ≡ Ok e')
  agrees_place {x = x} at a = yields_then (agrees_value a) (λ e' p. yields_after {m = require (x.is_modifiable names) NotAssignable at} (λ ok.
      let fits : (walked e').is_modifiable names' ≡ true = p.passes.is_modifiable ∙ required (x.is_modifiable names) NotAssignable at ok in
      let v = p.value in
      yields_ok e' (rw (v, fits) refl)))

  abbrev Part : Type 0
  Part = (e : Expr) × Agrees (walked e)

  abbrev bare : Expr-F Part → Expr-F Expr
  bare y = map-Expr Part Expr (λ e. e.0) y

  pub record PassesEach (xs : List Walked) (es' : List Expr) : Type 0 where
    pub walk : valued_each (map walked es') names' ≡ Ok es'
    pub count : length es' ≡ length xs

  agrees_each : (es : List Part) → Yields (valued_each (map walked (map (λ e. e.0) es)) names) (PassesEach (map walked (map (λ e. e.0) es)))
  agrees_each [] = yields_ok [] (record { walk = refl; count = refl })
  agrees_each (e ∷ es) = yields_then (agrees_value e.1) (λ e' p. yields_then (agrees_each es) (λ es' q.
      let v = p.value in
      let w = q.walk in
      yields_ok (e' ∷ es') (record { walk = rw (v, w) refl; count = ap suc q.count })))

  -- a position that is used
  use_again : (is_such : Kind → Bool) (otherwise : CheckKind) (at n position : ℕ) → IsUsed is_such (names n) position → used is_such otherwise at (names' position) ≡ Ok position
  use_again is_such otherwise at n position u =
      let h : names' position ≡ Some u.known = subst (λ p. names' p ≡ Some u.known) u.at (agree n u.known u.is) in
      let s = u.such in
      rw (h, s) (ap Ok u.at)

  same_use : {A : Type 0} (f : Option Known → A) (is_such : Kind → Bool) (n position : ℕ) → IsUsed is_such (names n) position → f (names' position) ≡ f (names n)
  same_use f is_such n position u = ap f (subst (λ p. names' p ≡ Some u.known) u.at (agree n u.known u.is) ∙ sym u.is)

  abbrev step : Expr-F Walked → Walked
  step = walk_step

  each_agrees : (y : Expr-F Part) → Agrees (walk_step (map-Expr Expr Walked walked (bare y)))
  each_agrees (Expr-F.Literal word u at) = record { by = let s = at-Literal Walked step word u at in yields_ok (Literal word u at) (record { walk = ap (λ m. m.walk names') s; void_call = ap (λ m. m.void_call names') s; is_modifiable = ap (λ m. m.is_modifiable names') s }) }
  each_agrees (Expr-F.Name name at) = record {
    by = yields_then (yields_used is_scalar NotScalar at (names name)) (λ position u.
        let s = at-Name Walked step position at in
        let r = use_again is_scalar NotScalar at name position u in
        yields_ok (Name position at) (record { walk = ap (λ m. m.walk names') s ∙ rw r refl; void_call = ap (λ m. m.void_call names') s; is_modifiable = ap (λ m. m.is_modifiable names') s ∙ same_use is_modifiable_name is_scalar name position u }));
  }
  each_agrees (Expr-F.Index name i at) = record {
    by = yields_then (yields_used is_array NotAnArray at (names name)) (λ position u. yields_then (agrees_value i.1) (λ i' p.
        let s = at-Index Walked step position i' at in
        let r = use_again is_array NotAnArray at name position u in
        let v = p.value in
        yields_ok (Index position i' at) (record { walk = ap (λ m. m.walk names') s ∙ rw (r, v) refl; void_call = ap (λ m. m.void_call names') s; is_modifiable = ap (λ m. m.is_modifiable names') s ∙ same_use is_modifiable_name is_array name position u })));
  }
  each_agrees (Expr-F.Call name args at) = record {
    by = yields_then (yields_used is_function NotAFunction at (names name)) (λ position u. yields_then (agrees_each args) (λ args' p. yields_after {m = require (takes (length (map walked (map (λ e. e.0) args))) (names name)) ArgCount at} (λ ok.
        let s = at-Call Walked step position args' at in
        let r = use_again is_function NotAFunction at name position u in
        let w = p.walk in
        let t : takes (length (map walked args')) (names' position) ≡ true = ap (λ n. takes n (names' position)) (length-map args' walked ∙ p.count) ∙ same_use (takes (length (map walked (map (λ e. e.0) args)))) is_function name position u ∙ required (takes (length (map walked (map (λ e. e.0) args))) (names name)) ArgCount at ok in
        yields_ok (Call position args' at) (record { walk = ap (λ m. m.walk names') s ∙ rw (r, w, t) refl; void_call = ap (λ m. m.void_call names') s ∙ same_use (λ o. if returns_void o then Some at else None) is_function name position u; is_modifiable = ap (λ m. m.is_modifiable names') s }))));
  }
  each_agrees (Expr-F.Unary op e at) = record {
    by = yields_then (agrees_value e.1) (λ e' p.
        let s = at-Unary Walked step op e' at in
        let v = p.value in
        yields_ok (Unary op e' at) (record { walk = ap (λ m. m.walk names') s ∙ rw v refl; void_call = ap (λ m. m.void_call names') s; is_modifiable = ap (λ m. m.is_modifiable names') s }));
  }
  each_agrees (Expr-F.Binary op l r at) = record {
    by = yields_then (agrees_value l.1) (λ l' p. yields_then (agrees_value r.1) (λ r' q.
        let s = at-Binary Walked step op l' r' at in
        let v = p.value in
        let w = q.value in
        yields_ok (Binary op l' r' at) (record { walk = ap (λ m. m.walk names') s ∙ rw (v, w) refl; void_call = ap (λ m. m.void_call names') s; is_modifiable = ap (λ m. m.is_modifiable names') s })));
  }
  each_agrees (Expr-F.Logic is_and l r at) = record {
    by = yields_then (agrees_value l.1) (λ l' p. yields_then (agrees_value r.1) (λ r' q.
        let s = at-Logic Walked step is_and l' r' at in
        let v = p.value in
        let w = q.value in
        yields_ok (Logic is_and l' r' at) (record { walk = ap (λ m. m.walk names') s ∙ rw (v, w) refl; void_call = ap (λ m. m.void_call names') s; is_modifiable = ap (λ m. m.is_modifiable names') s })));
  }
  each_agrees (Expr-F.Choose t a b at) = record {
    by = yields_then (agrees_value t.1) (λ t' o. yields_then (agrees_value a.1) (λ a' p. yields_then (agrees_value b.1) (λ b' q.
        let s = at-Choose Walked step t' a' b' at in
        let u = o.value in
        let v = p.value in
        let w = q.value in
        yields_ok (Choose t' a' b' at) (record { walk = ap (λ m. m.walk names') s ∙ rw (u, v, w) refl; void_call = ap (λ m. m.void_call names') s; is_modifiable = ap (λ m. m.is_modifiable names') s }))));
  }
  each_agrees (Expr-F.Assign op p v at) = record {
    by = yields_then (agrees_place at p.1) (λ p' x. yields_then (agrees_value v.1) (λ v' y.
        let s = at-Assign Walked step op p' v' at in
        let w = y.value in
        yields_ok (Assign op p' v' at) (record { walk = ap (λ m. m.walk names') s ∙ rw (x, w) refl; void_call = ap (λ m. m.void_call names') s; is_modifiable = ap (λ m. m.is_modifiable names') s })));
  }
  each_agrees (Expr-F.Bump up before p at) = record {
    by = yields_then (agrees_place at p.1) (λ p' x.
        let s = at-Bump Walked step up before p' at in
        yields_ok (Bump up before p' at) (record { walk = ap (λ m. m.walk names') s ∙ rw x refl; void_call = ap (λ m. m.void_call names') s; is_modifiable = ap (λ m. m.is_modifiable names') s }));
  }
  each_agrees (Expr-F.Comma l r at) = record {
    by = yields_then l.1.by (λ l' p. yields_then r.1.by (λ r' q.
        let s = at-Comma Walked step l' r' at in
        let v = p.walk in
        let w = q.walk in
        yields_ok (Comma l' r' at) (record { walk = ap (λ m. m.walk names') s ∙ rw (v, w) refl; void_call = ap (λ m. m.void_call names') s ∙ q.void_call; is_modifiable = ap (λ m. m.is_modifiable names') s })));
  }
  each_agrees (Expr-F.Paren e at) = record {
    by = yields_then e.1.by (λ e' p.
        let s = at-Paren Walked step e' at in
        let v = p.walk in
        yields_ok (Paren e' at) (record { walk = ap (λ m. m.walk names') s ∙ rw v refl; void_call = ap (λ m. m.void_call names') s ∙ p.void_call; is_modifiable = ap (λ m. m.is_modifiable names') s ∙ p.is_modifiable }));
  }

  pub agrees : (e : Expr) → Agrees (walked e)
  agrees = ind-Expr (λ e. Agrees (walked e)) (λ x y is. subst (λ z. Agrees (walked (roll-Expr z))) is (rw (fold-roll-Expr Walked walk_step (bare y)) (each_agrees y)))
