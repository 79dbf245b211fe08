-- An expression that passes the walk fits, where each name in force stands in lowering for what the walk took it for.
use Rattle.std.proofs.Common.{◌≡◌, ℕ, Bool, true, false, ◌&&◌, List, [], ◌∷◌, ◌++◌, map, length, Option, Some, None, Ok, refl, sym, ap, ◌∙◌, subst, if◌then◌else◌}
use Rattle.std.proofs.lemmas.List.{length-map}
use Rattle.c_syntax.specs.declared.tree.Expr.{Expr, Literal, Name, Index, Call, Unary, Binary, Logic, Choose, Assign, Bump, Comma, Paren, roll-Expr, map-Expr, ind-Expr, fold-roll-Expr}
use Rattle.c_syntax.specs.declared.tree.Expr.TheOpen.{Expr-F}
use Rattle.c_syntax.specs.Shaped.{each}
use Rattle.c_syntax.specs.Literals.{all_true, literals_step, literals_are_words}
use Rattle.check_rules.specs.declared.error.CheckKind.{CheckKind}
use Rattle.check_rules.specs.declared.error.CheckKind.TheVariants.{NotScalar, NotAnArray, NotAFunction, ArgCount, NotAssignable, VoidUsed}
use Rattle.check_rules.specs.Fault.{require, refuse}
use Rattle.check_rules.specs.declared.names.Known.{Known}
use Rattle.check_rules.specs.Scopes.{InForce}
use Rattle.check_rules.specs.Limits.{CallSite, joined, expression_calls, calls_step}
use Rattle.check_rules.specs.Walk.{is_scalar, is_array, is_function, takes, takes_kind, returns_void, returns_void_kind, Walked, valued, assignable, valued_each, walk_step, walked}
use Rattle.check_law.proofs.Yields.{Yields, yields_ok, yields_then, yields_after, required, yields_used}
use Rattle.check_law.proofs.Unchanged.{and_true}
use Rattle.lower_rules.specs.Bindings.{Bindings, callee_void, callee_takes}
use Rattle.lower_rules.specs.Scoping.{Scopes, is_variable, is_array_name, Fit, has_value, have_values, fit_step, fitting}

pub refused : (o : Option ℕ) (kind : CheckKind) → refuse o kind ≡ Ok tt → o ≡ None
refused None kind is = refl
refused (Some at) kind is = absurd cc

pub both_true : (a b : Bool) → a ≡ true → b ≡ true → (a && b) ≡ true
both_true a b p q = rw (p, q) refl

pub each_both : {A : Type 0} (test : A → Bool) (a b : List A) → each test (a ++ b) ≡ true → (each test a ≡ true) × (each test b ≡ true)
each_both test [] b h = (refl, h)
each_both test (n ∷ a) b h =
    let p = and_true (test n) (each test (a ++ b)) h in
    let q = each_both test a b p.1 in
    (both_true (test n) (each test a) p.0 q.0, q.1)

-- ---- what is asked of the literals and of the calls of a part

module _ (known : ℕ → Bool) where
  abbrev pub passes : CallSite → Bool
  passes c = known c.name

  -- its literals are words, and each function that it calls is known
  pub record Good (literals : Bool) (calls : List CallSite) : Type 0 where
    pub words : literals ≡ true
    pub all_known : each passes calls ≡ true

  pub good_both : (l l' : Bool) (cs cs' : List CallSite) → Good (l && l') (cs ++ cs') → Good l cs × Good l' cs'
  good_both l l' cs cs' g =
      let p = and_true l l' g.words in
      let q = each_both passes cs cs' g.all_known in
      (record { words = p.0; all_known = q.0 }, record { words = p.1; all_known = q.1 })

  pub good_three : (l l' l'' : Bool) (cs cs' cs'' : List CallSite) → Good (l && (l' && l'')) (cs ++ (cs' ++ cs'')) → Good l cs × Good l' cs' × Good l'' cs''
  good_three l l' l'' cs cs' cs'' g =
      let p = and_true l (l' && l'') g.words in
      let p' = and_true l' l'' p.1 in
      let q = each_both passes cs (cs' ++ cs'') g.all_known in
      let q' = each_both passes cs' cs'' q.1 in
      (record { words = p.0; all_known = q.0 }, record { words = p'.0; all_known = q'.0 }, record { words = p'.1; all_known = q'.1 })

-- ---- names in force

-- what a name in force stands for in lowering is what its declaration says
pub record Meant (b : Bindings) (known : ℕ → Bool) (names : InForce) (scopes : Scopes) : Type 0 where
  pub scalar : (n : ℕ) (d : Known) → names n ≡ Some d → is_scalar d.kind ≡ true → is_variable b scopes n ≡ true
  pub array : (n : ℕ) (d : Known) → names n ≡ Some d → is_array d.kind ≡ true → is_array_name b n ≡ true
  pub void : (n : ℕ) (d : Known) → names n ≡ Some d → is_function d.kind ≡ true → known n ≡ true → callee_void (b.callee n) ≡ returns_void_kind d.kind
  pub takes : (n : ℕ) (d : Known) (count : ℕ) → names n ≡ Some d → known n ≡ true → takes_kind count d.kind ≡ true → callee_takes (b.callee n) count ≡ true

module _ (b : Bindings) (known : ℕ → Bool) (names : InForce) (scopes : Scopes) (meant : Meant b known names scopes) where
  -- it fits; where it stands for no void call it has a value; and what can be stored into is a place
  pub record IsFit (x : Walked) (f : Fit) : Type 0 where
    pub fits : f.fits scopes ≡ true
    pub has : x.void_call names ≡ None → f.is_void ≡ false
    pub place : x.is_modifiable names ≡ true → f.is_place ≡ true

  pub record Fits (x : Walked) (f : Fit) (literals : Bool) (calls : List CallSite) : Type 0 where
    pub by : Yields (x.walk names) (λ e'. Good known literals calls → IsFit x f)

  pub fits_value : {x : Walked} {f : Fit} {literals : Bool} {calls : List CallSite} → Fits x f literals calls → Yields (valued x names) (λ e'. Good known literals calls → has_value f scopes ≡ true)
  fits_value {x = x} {f = f} p = yields_then p.by (λ e' q. yields_after {m = refuse (x.void_call names) VoidUsed} (λ ok. yields_ok e' (λ g.
      let r = q g in
      let v : f.is_void ≡ false = r.has (refused (x.void_call names) VoidUsed ok) in
      let w = r.fits in
      rw (v, w) refl)))

  fits_place : {x : Walked} {f : Fit} {literals : Bool} {calls : List CallSite} (at : ℕ) → Fits x f literals calls → Yields (assignable x at names) (λ e'. Good known literals calls → (f.is_place && f.fits scopes) ≡ true)
  fits_place {x = x} {f = f} at p = yields_then (yields_then p.by (λ e' q. yields_after {m = refuse (x.void_call names) VoidUsed} (λ ok. yields_ok e' q))) (λ e' q. yields_after {m = require (x.is_modifiable names) NotAssignable at} (λ ok. yields_ok e' (λ g.
      let r = q g in
      let v : f.is_place ≡ true = r.place (required (x.is_modifiable names) NotAssignable at ok) in
      let w = r.fits in
      rw (v, w) refl)))

  abbrev Part : Type 0
  Part = (e : Expr) × Fits (walked e) (fitting b e) (literals_are_words e) (expression_calls e)

  abbrev bare : Expr-F Part → Expr-F Expr
  bare y = map-Expr Part Expr (λ e. e.0) y

  abbrev exprs : List Part → List Expr
  exprs es = map (λ e. e.0) es

  fits_each : (es : List Part) → Yields (valued_each (map walked (exprs es)) names) (λ es'. Good known (all_true (map literals_are_words (exprs es))) (joined (map expression_calls (exprs es))) → have_values (map (fitting b) (exprs es)) scopes ≡ true)
  fits_each [] = yields_ok [] (λ g. refl)
  fits_each (e ∷ es) = yields_then (fits_value e.1) (λ e' p. yields_then (fits_each es) (λ es' q. yields_ok (e' ∷ es') (λ g.
      let h = good_both known (literals_are_words e.0) (all_true (map literals_are_words (exprs es))) (expression_calls e.0) (joined (map expression_calls (exprs es))) g in
      both_true (has_value (fitting b e.0) scopes) (have_values (map (fitting b) (exprs es)) scopes) (p h.0) (q h.1))))

  none_there : (x : Bool) (at : ℕ) → (if x then Some at else None) ≡ None → x ≡ false
  none_there true at is = absurd cc
  none_there false at is = refl

  abbrev StepFits : Expr-F Expr → Type 0
  StepFits y = Fits (walk_step (map-Expr Expr Walked walked y)) (fit_step b (map-Expr Expr Fit (fitting b) y)) (literals_step (map-Expr Expr Bool literals_are_words y)) (calls_step (map-Expr Expr (List CallSite) expression_calls y))

  each_fits : (y : Expr-F Part) → StepFits (bare y)
  each_fits (Expr-F.Literal word u at) = record { by = yields_ok (Literal word u at) (λ g. record { fits = g.words; has = λ is. refl; place = λ is. absurd cc }) }
  each_fits (Expr-F.Name name at) = record {
    by = yields_then (yields_used is_scalar NotScalar at (names name)) (λ position u. yields_ok (Name position at) (λ g. record { fits = meant.scalar name u.known u.is u.such; has = λ is. refl; place = λ is. refl }));
  }
  each_fits (Expr-F.Index name i at) = record {
    by = yields_then (yields_used is_array NotAnArray at (names name)) (λ position u. yields_then (fits_value i.1) (λ i' p. yields_ok (Index position i' at) (λ g. record {
      fits = both_true (is_array_name b name) (has_value (fitting b i.0) scopes) (meant.array name u.known u.is u.such) (p (record { words = g.words; all_known = g.all_known }));
      has = λ is. refl;
      place = λ is. refl;
    })));
  }
  each_fits (Expr-F.Call name args at) = record {
    by = yields_then (yields_used is_function NotAFunction at (names name)) (λ position u. yields_then (fits_each args) (λ args' p. yields_after {m = require (takes (length (map walked (exprs args))) (names name)) ArgCount at} (λ ok. yields_ok (Call position args' at) (λ g.
        let c = and_true (known name) (each (passes known) (joined (map expression_calls (exprs args)))) g.all_known in
        let count : length (map walked (exprs args)) ≡ length (map (fitting b) (exprs args)) = length-map (exprs args) walked ∙ sym (length-map (exprs args) (fitting b)) in
        let t : takes (length (map walked (exprs args))) (Some u.known) ≡ true = subst (λ o. takes (length (map walked (exprs args))) o ≡ true) u.is (required (takes (length (map walked (exprs args))) (names name)) ArgCount at ok) in
        let t' : takes_kind (length (map (fitting b) (exprs args))) u.known.kind ≡ true = subst (λ n. takes_kind n u.known.kind ≡ true) count t in
        record {
          fits = both_true (callee_takes (b.callee name) (length (map (fitting b) (exprs args)))) (have_values (map (fitting b) (exprs args)) scopes) (meant.takes name u.known (length (map (fitting b) (exprs args))) u.is c.0 t') (p (record { words = g.words; all_known = c.1 }));
          has = λ is. meant.void name u.known u.is u.such c.0 ∙ sym (ap returns_void u.is) ∙ none_there (returns_void (names name)) at is;
          place = λ is. absurd cc;
        }))));
  }
  each_fits (Expr-F.Unary op e at) = record { by = yields_then (fits_value e.1) (λ e' p. yields_ok (Unary op e' at) (λ g. record { fits = p (record { words = g.words; all_known = g.all_known }); has = λ is. refl; place = λ is. absurd cc })) }
  each_fits (Expr-F.Binary op l r at) = record {
    by = yields_then (fits_value l.1) (λ l' p. yields_then (fits_value r.1) (λ r' q. yields_ok (Binary op l' r' at) (λ g.
        let h = good_both known (literals_are_words l.0) (literals_are_words r.0) (expression_calls l.0) (expression_calls r.0) (record { words = g.words; all_known = g.all_known }) in
        record { fits = both_true (has_value (fitting b l.0) scopes) (has_value (fitting b r.0) scopes) (p h.0) (q h.1); has = λ is. refl; place = λ is. absurd cc })));
  }
  each_fits (Expr-F.Logic is_and l r at) = record {
    by = yields_then (fits_value l.1) (λ l' p. yields_then (fits_value r.1) (λ r' q. yields_ok (Logic is_and l' r' at) (λ g.
        let h = good_both known (literals_are_words l.0) (literals_are_words r.0) (expression_calls l.0) (expression_calls r.0) (record { words = g.words; all_known = g.all_known }) in
        record { fits = both_true (has_value (fitting b l.0) scopes) (has_value (fitting b r.0) scopes) (p h.0) (q h.1); has = λ is. refl; place = λ is. absurd cc })));
  }
  each_fits (Expr-F.Choose t x y at) = record {
    by = yields_then (fits_value t.1) (λ t' o. yields_then (fits_value x.1) (λ x' p. yields_then (fits_value y.1) (λ y' q. yields_ok (Choose t' x' y' at) (λ g.
        let h = good_three known (literals_are_words t.0) (literals_are_words x.0) (literals_are_words y.0) (expression_calls t.0) (expression_calls x.0) (expression_calls y.0) (record { words = g.words; all_known = g.all_known }) in
        record {
          fits = both_true (has_value (fitting b t.0) scopes) (has_value (fitting b x.0) scopes && has_value (fitting b y.0) scopes) (o h.0) (both_true (has_value (fitting b x.0) scopes) (has_value (fitting b y.0) scopes) (p h.1) (q h.2));
          has = λ is. refl;
          place = λ is. absurd cc;
        }))));
  }
  each_fits (Expr-F.Assign op p v at) = record {
    by = yields_then (fits_place at p.1) (λ p' x. yields_then (fits_value v.1) (λ v' y. yields_ok (Assign op p' v' at) (λ g.
        let h = good_both known (literals_are_words p.0) (literals_are_words v.0) (expression_calls p.0) (expression_calls v.0) (record { words = g.words; all_known = g.all_known }) in
        record { fits = both_true ((fitting b p.0).is_place && (fitting b p.0).fits scopes) (has_value (fitting b v.0) scopes) (x h.0) (y h.1); has = λ is. refl; place = λ is. absurd cc })));
  }
  each_fits (Expr-F.Bump up before p at) = record {
    by = yields_then (fits_place at p.1) (λ p' x. yields_ok (Bump up before p' at) (λ g. record { fits = x (record { words = g.words; all_known = g.all_known }); has = λ is. refl; place = λ is. absurd cc }));
  }
  each_fits (Expr-F.Comma l r at) = record {
    by = yields_then l.1.by (λ l' p. yields_then r.1.by (λ r' q. yields_ok (Comma l' r' at) (λ g.
        let h = good_both known (literals_are_words l.0) (literals_are_words r.0) (expression_calls l.0) (expression_calls r.0) (record { words = g.words; all_known = g.all_known }) in
        let x = p h.0 in
        let y = q h.1 in
        record { fits = both_true ((fitting b l.0).fits scopes) ((fitting b r.0).fits scopes) x.fits y.fits; has = y.has; place = λ is. absurd cc })));
  }
  each_fits (Expr-F.Paren e at) = record {
    by = yields_then e.1.by (λ e' p. yields_ok (Paren e' at) (λ g.
        let x = p (record { words = g.words; all_known = g.all_known }) in
        record { fits = x.fits; has = x.has; place = x.place }));
  }

  pub expression_fits : (e : Expr) → Fits (walked e) (fitting b e) (literals_are_words e) (expression_calls e)
  expression_fits = ind-Expr (λ e. Fits (walked e) (fitting b e) (literals_are_words e) (expression_calls e)) (λ x y is.
      subst (λ z. Fits (walked (roll-Expr z)) (fitting b (roll-Expr z)) (literals_are_words (roll-Expr z)) (expression_calls (roll-Expr z))) is
      (rw (fold-roll-Expr Walked walk_step (bare y), fold-roll-Expr Fit (fit_step b) (bare y), fold-roll-Expr Bool literals_step (bare y), fold-roll-Expr (List CallSite) calls_step (bare y)) (each_fits y)))
