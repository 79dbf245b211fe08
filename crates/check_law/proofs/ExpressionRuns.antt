-- An expression whose names are positions does the same as the expression with names, from all states in which they designate the same.
use Rattle.std.proofs.Common.{◌≡◌, ℕ, suc, Bool, true, false, List, [], ◌∷◌, map, length, Option, Some, None, Result, Ok, Err, refl, sym, ap, ◌∙◌, subst, if◌then◌else◌, not, nat_lt}
use Rattle.std.proofs.lemmas.List.{length-map}
use Rattle.c_meaning.specs.declared.run.Value.{Value}
use Rattle.c_meaning.specs.declared.run.EvalEnd.{EvalEnd}
use Rattle.c_meaning.specs.declared.run.EvalEnd.TheVariants.{Trapped, Starved}
use Rattle.c_meaning.specs.declared.run.Place.{Place}
use Rattle.c_meaning.specs.declared.run.Place.TheVariants.{Variable, Element}
use Rattle.c_syntax.specs.declared.tree.UnaryOp.{UnaryOp}
use Rattle.c_syntax.specs.declared.tree.BinaryOp.{BinaryOp}
use Rattle.c_syntax.specs.declared.tree.Expr.{Expr, Literal, Name, Index, Call, Unary, Binary, Logic, Choose, Assign, Bump, Comma, Paren, roll-Expr, map-Expr, ind-Expr, fold-roll-Expr}
use Rattle.c_syntax.specs.declared.tree.Expr.TheOpen.{Expr-F}
use Rattle.c_meaning.specs.Operators.{value, converted, truth, is_zero, common, binary_type, operate, unary_type, operate_unary, bumped}
use Rattle.c_meaning.specs.Run.{Object, Scalar, Array, State, Run, ◌>>=◌, pure, stop, lift, innermost, designated, object_type, types_now, scalar, read, element, read_element, below_length, check_index, stored, change_global, put_element, write, write_element}
use Rattle.c_meaning.specs.Meaning.{Calls, Meaning, fetch, put_at, store, indexed, values, binary, tested, logic, choose, assign_with, bump, no_place, expression_step, expression}
use Rattle.check_rules.specs.declared.names.Kind.{Kind}
use Rattle.check_rules.specs.declared.names.Known.{Known}
use Rattle.check_rules.specs.Scopes.{InForce}
use Rattle.check_rules.specs.Walk.{is_scalar, is_array, is_function, takes, takes_kind, Walked, valued, assignable, valued_each, walk_step, walked}
use Rattle.check_law.proofs.Yields.{Yields, yields_ok, yields_then, yields_after, required, IsUsed, yields_used}
use Rattle.check_law.proofs.Sims.{Alike, Sims, sims_then, Equal, sims_on, sims_if, sims_pure}
use Rattle.check_rules.proofs.Views.{at-Literal, at-Name, at-Index, at-Call, at-Unary, at-Binary, at-Logic, at-Choose, at-Assign, at-Bump, at-Comma, at-Paren}

-- related states: what a name designates in one its position designates in the other, and stores into both keep this
pub record Steps (names : InForce) (P : State → State → Type 0) : Type 0 where
  pub same_output : (s s' : State) → P s s' → s.output ≡ s'.output
  pub same_object : (s s' : State) → P s s' → (name : ℕ) (d : Known) → names name ≡ Some d → designated name s ≡ designated d.position s'
  pub on_write : (s s' : State) → P s s' → (name : ℕ) (d : Known) → names name ≡ Some d → (word : ℕ) → P (stored (innermost name s.scopes) name word s) (stored (innermost d.position s'.scopes) d.position word s')
  pub on_write_element : (s s' : State) → P s s' → (name : ℕ) (d : Known) → names name ≡ Some d → is_array d.kind ≡ true → (index word : ℕ) → P (record s { globals = change_global name (put_element index word) s.globals }) (record s' { globals = change_global d.position (put_element index word) s'.globals })

module _ (names : InForce) (P : State → State → Type 0) (k : Steps names P) where
  -- ---- steps

  pub sims_stop : {A : Type 0} (end : EvalEnd) → Sims P (stop {A = A} end) (stop {A = A} end) (Equal P)
  sims_stop end = record { by = λ s s' h. (refl, k.same_output s s' h) }

  stops : {A A' : Type 0} {post : A → A' → State → State → Type 0} (end : EvalEnd) → Sims P (stop {A = A} end) (stop {A = A'} end) post
  stops end = record { by = λ s s' h. (refl, k.same_output s s' h) }

  pub sims_lift : {A : Type 0} (r : Result A EvalEnd) → Sims P (lift r) (lift r) (Equal P)
  sims_lift (Ok a) = sims_pure a
  sims_lift (Err end) = sims_stop end

  scalar_alike : (s s' : State) → P s s' → (o : Option Object) → Alike (Equal P) (scalar o s) (scalar o s')
  scalar_alike s s' h (Some (Scalar v)) = (refl, h)
  scalar_alike s s' h (Some (Array u ws)) = (refl, k.same_output s s' h)
  scalar_alike s s' h None = (refl, k.same_output s s' h)

  pub sims_read : (name : ℕ) (d : Known) → names name ≡ Some d → Sims P (read name) (read d.position) (Equal P)
  sims_read name d is = record { by = λ s s' h. subst (λ o. Alike (Equal P) (scalar (designated name s) s) (scalar o s')) (k.same_object s s' h name d is) (scalar_alike s s' h (designated name s)) }

  element_alike : (i : ℕ) (s s' : State) → P s s' → (o : Option Object) → Alike (Equal P) (element i o s) (element i o s')
  element_alike i s s' h (Some (Scalar v)) = (refl, k.same_output s s' h)
  element_alike i s s' h (Some (Array u ws)) = (refl, h)
  element_alike i s s' h None = (refl, k.same_output s s' h)

  pub sims_read_element : (name i : ℕ) (d : Known) → names name ≡ Some d → Sims P (read_element name i) (read_element d.position i) (Equal P)
  sims_read_element name i d is = record { by = λ s s' h. subst (λ o. Alike (Equal P) (element i (designated name s) s) (element i o s')) (k.same_object s s' h name d is) (element_alike i s s' h (designated name s)) }

  if_below_alike : (s s' : State) → P s s' → (b : Bool) → Alike {A = Unit {0}} {A' = Unit {0}} (Equal P) ((if b then pure {A = Unit {0}} tt else stop (Trapped 8)) s) ((if b then pure {A = Unit {0}} tt else stop (Trapped 8)) s')
  if_below_alike s s' h true = (refl, h)
  if_below_alike s s' h false = (refl, k.same_output s s' h)

  below_alike : (i : ℕ) (s s' : State) → P s s' → (o : Option Object) → Alike (Equal P) (below_length i o s) (below_length i o s')
  below_alike i s s' h (Some (Scalar v)) = (refl, k.same_output s s' h)
  below_alike i s s' h (Some (Array u ws)) = if_below_alike s s' h (nat_lt i (length ws))
  below_alike i s s' h None = (refl, k.same_output s s' h)

  pub sims_check_index : (name i : ℕ) (d : Known) → names name ≡ Some d → Sims P (check_index name i) (check_index d.position i) (Equal P)
  sims_check_index name i d is = record { by = λ s s' h. subst (λ o. Alike (Equal P) (below_length i (designated name s) s) (below_length i o s')) (k.same_object s s' h name d is) (below_alike i s s' h (designated name s)) }

  pub sims_write : (name word : ℕ) (d : Known) → names name ≡ Some d → Sims P (write name word) (write d.position word) (Equal P)
  sims_write name word d is = record { by = λ s s' h. (refl, k.on_write s s' h name d is word) }

  sims_write_element : (name i word : ℕ) (d : Known) → names name ≡ Some d → is_array d.kind ≡ true → Sims P (write_element name i word) (write_element d.position i word) (Equal P)
  sims_write_element name i word d is such = record { by = λ s s' h. (refl, k.on_write_element s s' h name d is such i word) }

  -- the types of the names in force, and of their positions
  abbrev pub SameTypes : (ℕ → Bool) → (ℕ → Bool) → Type 0
  SameTypes types types' = (name : ℕ) (d : Known) → names name ≡ Some d → types name ≡ types' d.position

  -- whether the functions in force return unsigned
  abbrev pub SameReturns : (ℕ → Bool) → (ℕ → Bool) → Type 0
  SameReturns functions functions' = (name : ℕ) (d : Known) → names name ≡ Some d → is_function d.kind ≡ true → functions name ≡ functions' d.position

  sims_types_now : Sims P types_now types_now (λ types types' s s'. SameTypes types types' × P s s')
  sims_types_now = record { by = λ s s' h. ((λ name d is. ap object_type (k.same_object s s' h name d is)), h) }

  -- ---- places

  -- a name and its position, or the same element of an array
  pub data SamePlace : Place → Place → Type 0 where
    same_variable : (name : ℕ) (d : Known) → names name ≡ Some d → SamePlace (Variable name) (Variable d.position)
    same_element : (name : ℕ) (d : Known) → names name ≡ Some d → is_array d.kind ≡ true → (i : ℕ) → SamePlace (Element name i) (Element d.position i)

  abbrev At : Place → Place → State → State → Type 0
  At p p' s s' = SamePlace p p' × P s s'

  -- after related places
  at_place : {B B' : Type 0} {m m' : Run Place} {go : Place → Run B} {go' : Place → Run B'} {post : B → B' → State → State → Type 0} → Sims P m m' At → ((p p' : Place) → SamePlace p p' → Sims P (go p) (go' p') post) → Sims P (m >>= go) (m' >>= go') post
  at_place p q = sims_then p (λ x x'. record { by = λ s s' h. (q x x' h.0).by s s' h.1 })

  sims_fetch : {p p' : Place} → SamePlace p p' → Sims P (fetch p) (fetch p') (Equal P)
  sims_fetch (same_variable name d is) = sims_read name d is
  sims_fetch (same_element name d is such i) = sims_read_element name i d is

  sims_put_at : {p p' : Place} (word : ℕ) → SamePlace p p' → Sims P (put_at p word) (put_at p' word) (Equal P)
  sims_put_at word (same_variable name d is) = sims_write name word d is
  sims_put_at word (same_element name d is such i) = sims_write_element name i word d is such

  sims_store : (p p' : Place) (word : ℕ) → SamePlace p p' → Sims P (store p word) (store p' word) (Equal P)
  sims_store p p' word same = sims_on (sims_fetch same) (λ old. sims_on (sims_put_at word same) (λ u. sims_pure (value word old.is_unsigned)))

  sims_indexed : (name : ℕ) (d : Known) → names name ≡ Some d → is_array d.kind ≡ true → {i i' : Run Value} → Sims P i i' (Equal P) → Sims P (indexed name i) (indexed d.position i') At
  sims_indexed name d is such p = sims_on p (λ v. sims_on (sims_check_index name v.word d is) (λ u. record { by = λ s s' h. (same_element name d is such v.word, h) }))

  -- ---- operators

  sims_binary : (op : BinaryOp) {a a' b b' : Run Value} → Sims P a a' (Equal P) → Sims P b b' (Equal P) → Sims P (binary op a b) (binary op a' b') (Equal P)
  sims_binary op p q = sims_on p (λ x. sims_on q (λ y. sims_lift (operate op x y)))

  sims_tested : {a a' : Run Value} → Sims P a a' (Equal P) → Sims P (tested a) (tested a') (Equal P)
  sims_tested p = sims_on p (λ x. sims_pure (truth (not (is_zero x))))

  sims_logic : (is_and : Bool) {a a' b b' : Run Value} → Sims P a a' (Equal P) → Sims P b b' (Equal P) → Sims P (logic is_and a b) (logic is_and a' b') (Equal P)
  sims_logic true p q = sims_on p (λ x. sims_if (is_zero x) (sims_pure (truth false)) (sims_tested q))
  sims_logic false p q = sims_on p (λ x. sims_if (is_zero x) (sims_tested q) (sims_pure (truth true)))

  same_result : {A : Type 0} (a a' : A) → a ≡ a' → Sims P (pure a) (pure a') (Equal P)
  same_result a a' is = record { by = λ s s' h. (is, h) }

  sims_converted : (t t' : Bool) → t ≡ t' → {a a' : Run Value} → Sims P a a' (Equal P) → Sims P (a >>= (λ v. pure (converted t v))) (a' >>= (λ v. pure (converted t' v))) (Equal P)
  sims_converted t t' same p = sims_on p (λ v. same_result (converted t v) (converted t' v) (ap (λ b. converted b v) same))

  sims_choose : (t t' : (ℕ → Bool) → Bool) → ((types types' : ℕ → Bool) → SameTypes types types' → t types ≡ t' types') → {c c' a a' b b' : Run Value} → Sims P c c' (Equal P) → Sims P a a' (Equal P) → Sims P b b' (Equal P) → Sims P (choose t c a b) (choose t' c' a' b') (Equal P)
  sims_choose t t' same p q r = sims_on p (λ x. sims_then sims_types_now (λ types types'. record { by = λ s s' h. (sims_converted (t types) (t' types') (same types types' h.0) (sims_if (is_zero x) r q)).by s s' h.1 }))

  sims_assign : (op : Option BinaryOp) {p p' : Run Place} {a a' : Run Value} → Sims P p p' At → Sims P a a' (Equal P) → Sims P (assign_with op p a) (assign_with op p' a') (Equal P)
  sims_assign None at q = at_place at (λ p p' same. sims_on q (λ v. sims_store p p' v.word same))
  sims_assign (Some op) at q = at_place at (λ p p' same. sims_on (sims_fetch same) (λ old. sims_on q (λ v. sims_on (sims_lift (operate op old v)) (λ new. sims_store p p' new.word same))))

  sims_bump : (up before : Bool) {p p' : Run Place} → Sims P p p' At → Sims P (bump up before p) (bump up before p') (Equal P)
  sims_bump up before at = at_place at (λ p p' same. sims_on (sims_fetch same) (λ old. sims_on (sims_store p p' (bumped up old.word) same) (λ new. sims_pure (if before then new else old))))

  -- ---- expressions

  -- functions that do the same under a name in force and under its position, where they are given as many arguments as they take
  pub record SameCalls (functions functions' : Calls) : Type 0 where
    pub of_type : SameReturns functions.is_unsigned functions'.is_unsigned
    pub of_call : (name : ℕ) (d : Known) → names name ≡ Some d → (args : List Value) → takes_kind (length args) d.kind ≡ true → Sims P (functions.call name args) (functions'.call d.position args) (Equal P)

  -- the same type, value and place
  pub record Same (m m' : Meaning) : Type 0 where
    pub of_type : (types types' functions functions' : ℕ → Bool) → SameTypes types types' → SameReturns functions functions' → m.is_unsigned types functions ≡ m'.is_unsigned types' functions'
    pub of_value : (functions functions' : Calls) → SameCalls functions functions' → Sims P (m.value functions) (m'.value functions') (Equal P)
    pub of_place : (functions functions' : Calls) → SameCalls functions functions' → Sims P (m.place functions) (m'.place functions') At

  abbrev pub SameAs : Meaning → Expr → Type 0
  SameAs m e' = Same m (expression e')

  -- what the walk gives means the same
  pub record Resolves (x : Walked) (m : Meaning) : Type 0 where
    pub by : Yields (x.walk names) (SameAs m)

  seen : {m m' : Meaning} (e' : Expr) → expression e' ≡ m' → Same m m' → SameAs m e'
  seen {m = m} e' is same = subst (Same m) (sym is) same

  pub of_valued : {x : Walked} {m : Meaning} → Resolves x m → Yields (valued x names) (SameAs m)
  of_valued r = yields_then r.by (λ e' same. yields_after (λ ok. yields_ok e' same))

  of_assignable : {x : Walked} {m : Meaning} (at : ℕ) → Resolves x m → Yields (assignable x at names) (SameAs m)
  of_assignable at r = yields_then (of_valued r) (λ e' same. yields_after (λ ok. yields_ok e' same))

  no_place_same : (functions functions' : Calls) → SameCalls functions functions' → Sims P (no_place functions) (no_place functions') At
  no_place_same functions functions' c = stops Starved

  abbrev Part : Type 0
  Part = (e : Expr) × Resolves (walked e) (expression e)

  -- one to one
  pub data SameEach : List Meaning → List Expr → Type 0 where
    same_none : SameEach [] []
    same_also : {m : Meaning} {ms : List Meaning} {e' : Expr} {es' : List Expr} → SameAs m e' → SameEach ms es' → SameEach (m ∷ ms) (e' ∷ es')

  of_each : (es : List Part) → Yields (valued_each (map walked (map (λ e. e.0) es)) names) (SameEach (map expression (map (λ e. e.0) es)))
  of_each [] = yields_ok [] same_none
  of_each (e ∷ es) = yields_then (of_valued e.1) (λ e' same. yields_then (of_each es) (λ es' rest. yields_ok (e' ∷ es') (same_also same rest)))

  abbrev Lists : ℕ → List Value → List Value → State → State → Type 0
  Lists n vs vs' s s' = (vs ≡ vs') × (length vs ≡ n) × P s s'

  sims_values : (functions functions' : Calls) → SameCalls functions functions' → {ms : List Meaning} {es' : List Expr} → SameEach ms es' → Sims P (values (map (λ e. e.value functions) ms)) (values (map (λ e. e.value functions') (map expression es'))) (Lists (length ms))
  sims_values functions functions' c same_none = record { by = λ s s' h. (refl, refl, h) }
  sims_values functions functions' c (same_also {m = m} {ms = ms} {es' = es'} same rest) = sims_on (same.of_value functions functions' c) (λ v. sims_then (sims_values functions functions' c rest) (λ vs vs'. record { by = λ s s' h. (ap (λ l. v ∷ l) h.0, ap suc h.1, h.2) }))

  -- ---- the theorem

  -- a name that is used is in force
  abbrev Uses : (Kind → Bool) → ℕ → ℕ → Type 0
  Uses is_such name position = IsUsed is_such (names name) position

  with_position : (Q : ℕ → Type 0) {is_such : Kind → Bool} (name : ℕ) {position : ℕ} → Uses is_such name position → ((d : Known) → names name ≡ Some d → is_such d.kind ≡ true → Q d.position) → Q position
  with_position Q name u f = subst Q u.at (f u.known u.is u.such)

  same_literal : (word : ℕ) (is_unsigned : Bool) (at : ℕ) → SameAs (expression_step (Expr-F.Literal word is_unsigned at)) (Literal word is_unsigned at)
  same_literal word is_unsigned at = seen (Literal word is_unsigned at) (at-Literal Meaning expression_step word is_unsigned at) (record {
    of_type = λ types types' functions functions' t f. refl;
    of_value = λ functions functions' c. sims_pure (value word is_unsigned);
    of_place = no_place_same;
  })

  same_name : (name : ℕ) (d : Known) (at : ℕ) → names name ≡ Some d → SameAs (expression_step (Expr-F.Name name at)) (Name d.position at)
  same_name name d at is = seen (Name d.position at) (at-Name Meaning expression_step d.position at) (record {
    of_type = λ types types' functions functions' t f. t name d is;
    of_value = λ functions functions' c. sims_read name d is;
    of_place = λ functions functions' c. record { by = λ s s' h. (same_variable name d is, h) };
  })

  same_index : (name : ℕ) (d : Known) (m : Meaning) (i' : Expr) (at : ℕ) → names name ≡ Some d → is_array d.kind ≡ true → SameAs m i' → SameAs (expression_step (Expr-F.Index name m at)) (Index d.position i' at)
  same_index name d m i' at is such same = seen (Index d.position i' at) (at-Index Meaning expression_step d.position i' at) (record {
    of_type = λ types types' functions functions' t f. t name d is;
    of_value = λ functions functions' c. at_place (sims_indexed name d is such (same.of_value functions functions' c)) (λ p p' q. sims_fetch q);
    of_place = λ functions functions' c. sims_indexed name d is such (same.of_value functions functions' c);
  })

  same_call : (name : ℕ) (d : Known) (ms : List Meaning) (es' : List Expr) (at : ℕ) → names name ≡ Some d → is_function d.kind ≡ true → takes_kind (length ms) d.kind ≡ true → SameEach ms es' → SameAs (expression_step (Expr-F.Call name ms at)) (Call d.position es' at)
  same_call name d ms es' at is function such same = seen (Call d.position es' at) (at-Call Meaning expression_step d.position es' at) (record {
    of_type = λ types types' functions functions' t f. f name d is function;
    of_value = λ functions functions' c. sims_then (sims_values functions functions' c same) (λ vs vs'. record { by = λ s s' h. subst (λ l. Alike (Equal P) (functions.call name vs s) (functions'.call d.position l s')) h.0 ((c.of_call name d is vs (subst (λ n. takes_kind n d.kind ≡ true) (sym h.1) such)).by s s' h.2) });
    of_place = no_place_same;
  })

  same_unary : (op : UnaryOp) (m : Meaning) (e' : Expr) (at : ℕ) → SameAs m e' → SameAs (expression_step (Expr-F.Unary op m at)) (Unary op e' at)
  same_unary op m e' at same = seen (Unary op e' at) (at-Unary Meaning expression_step op e' at) (record {
    of_type = λ types types' functions functions' t f. ap (unary_type op) (same.of_type types types' functions functions' t f);
    of_value = λ functions functions' c. sims_on (same.of_value functions functions' c) (λ x. sims_pure (operate_unary op x));
    of_place = no_place_same;
  })

  same_binary : (op : BinaryOp) (l r : Meaning) (l' r' : Expr) (at : ℕ) → SameAs l l' → SameAs r r' → SameAs (expression_step (Expr-F.Binary op l r at)) (Binary op l' r' at)
  same_binary op l r l' r' at p q = seen (Binary op l' r' at) (at-Binary Meaning expression_step op l' r' at) (record {
    of_type = λ types types' functions functions' t f. ap (λ b. binary_type op b (r.is_unsigned types functions)) (p.of_type types types' functions functions' t f) ∙ ap (binary_type op ((expression l').is_unsigned types' functions')) (q.of_type types types' functions functions' t f);
    of_value = λ functions functions' c. sims_binary op (p.of_value functions functions' c) (q.of_value functions functions' c);
    of_place = no_place_same;
  })

  same_logic : (is_and : Bool) (l r : Meaning) (l' r' : Expr) (at : ℕ) → SameAs l l' → SameAs r r' → SameAs (expression_step (Expr-F.Logic is_and l r at)) (Logic is_and l' r' at)
  same_logic is_and l r l' r' at p q = seen (Logic is_and l' r' at) (at-Logic Meaning expression_step is_and l' r' at) (record {
    of_type = λ types types' functions functions' t f. refl;
    of_value = λ functions functions' c. sims_logic is_and (p.of_value functions functions' c) (q.of_value functions functions' c);
    of_place = no_place_same;
  })

  same_common : (a b : Meaning) (a' b' : Expr) → SameAs a a' → SameAs b b' → (types types' functions functions' : ℕ → Bool) → SameTypes types types' → SameReturns functions functions' → common (a.is_unsigned types functions) (b.is_unsigned types functions) ≡ common ((expression a').is_unsigned types' functions') ((expression b').is_unsigned types' functions')
  same_common a b a' b' p q types types' functions functions' t f = ap (λ x. common x (b.is_unsigned types functions)) (p.of_type types types' functions functions' t f) ∙ ap (common ((expression a').is_unsigned types' functions')) (q.of_type types types' functions functions' t f)

  same_choose : (x a b : Meaning) (x' a' b' : Expr) (at : ℕ) → SameAs x x' → SameAs a a' → SameAs b b' → SameAs (expression_step (Expr-F.Choose x a b at)) (Choose x' a' b' at)
  same_choose x a b x' a' b' at o p q = seen (Choose x' a' b' at) (at-Choose Meaning expression_step x' a' b' at) (record {
    of_type = same_common a b a' b' p q;
    of_value = λ functions functions' c. sims_choose _ _ (λ types types' t. same_common a b a' b' p q types types' functions.is_unsigned functions'.is_unsigned t c.of_type) (o.of_value functions functions' c) (p.of_value functions functions' c) (q.of_value functions functions' c);
    of_place = no_place_same;
  })

  same_assign : (op : Option BinaryOp) (p v : Meaning) (p' v' : Expr) (at : ℕ) → SameAs p p' → SameAs v v' → SameAs (expression_step (Expr-F.Assign op p v at)) (Assign op p' v' at)
  same_assign op p v p' v' at x y = seen (Assign op p' v' at) (at-Assign Meaning expression_step op p' v' at) (record {
    of_type = x.of_type;
    of_value = λ functions functions' c. sims_assign op (x.of_place functions functions' c) (y.of_value functions functions' c);
    of_place = no_place_same;
  })

  same_bump : (up before : Bool) (p : Meaning) (p' : Expr) (at : ℕ) → SameAs p p' → SameAs (expression_step (Expr-F.Bump up before p at)) (Bump up before p' at)
  same_bump up before p p' at x = seen (Bump up before p' at) (at-Bump Meaning expression_step up before p' at) (record {
    of_type = x.of_type;
    of_value = λ functions functions' c. sims_bump up before (x.of_place functions functions' c);
    of_place = no_place_same;
  })

  same_comma : (l r : Meaning) (l' r' : Expr) (at : ℕ) → SameAs l l' → SameAs r r' → SameAs (expression_step (Expr-F.Comma l r at)) (Comma l' r' at)
  same_comma l r l' r' at p q = seen (Comma l' r' at) (at-Comma Meaning expression_step l' r' at) (record {
    of_type = q.of_type;
    of_value = λ functions functions' c. sims_on (p.of_value functions functions' c) (λ x. q.of_value functions functions' c);
    of_place = no_place_same;
  })

  same_paren : (m : Meaning) (e' : Expr) (at : ℕ) → SameAs m e' → SameAs (expression_step (Expr-F.Paren m at)) (Paren e' at)
  same_paren m e' at same = seen (Paren e' at) (at-Paren Meaning expression_step e' at) same

  takes_these : (name : ℕ) (d : Known) → names name ≡ Some d → (es : List Expr) → takes (length (map walked es)) (names name) ≡ true → takes_kind (length (map expression es)) d.kind ≡ true
  takes_these name d is es t = subst (λ n. takes_kind n d.kind ≡ true) (length-map es walked ∙ sym (length-map es expression)) (subst (λ o. takes (length (map walked es)) o ≡ true) is t)

  abbrev bare : Expr-F Part → Expr-F Expr
  bare y = map-Expr Part Expr (λ e. e.0) y

  each_resolves : (y : Expr-F Part) → Resolves (walk_step (map-Expr Expr Walked walked (bare y))) (expression_step (map-Expr Expr Meaning expression (bare y)))
  each_resolves (Expr-F.Literal word is_unsigned at) = record { by = yields_ok (Literal word is_unsigned at) (same_literal word is_unsigned at) }
  each_resolves (Expr-F.Name name at) = record { by = yields_then (yields_used is_scalar _ at (names name)) (λ position u. yields_ok (Name position at) (with_position (λ n. SameAs (expression_step (Expr-F.Name name at)) (Name n at)) name u (λ d is such. same_name name d at is))) }
  each_resolves (Expr-F.Index name i at) = record { by = yields_then (yields_used is_array _ at (names name)) (λ position u. yields_then (of_valued i.1) (λ i' same. yields_ok (Index position i' at) (with_position (λ n. SameAs (expression_step (Expr-F.Index name (expression i.0) at)) (Index n i' at)) name u (λ d is such. same_index name d (expression i.0) i' at is such same)))) }
  each_resolves (Expr-F.Call name args at) = record { by = yields_then (yields_used is_function _ at (names name)) (λ position u. yields_then (of_each args) (λ args' same. yields_after (λ ok. yields_ok (Call position args' at) (with_position (λ n. SameAs (expression_step (Expr-F.Call name (map expression (map (λ e. e.0) args)) at)) (Call n args' at)) name u (λ d is such. same_call name d (map expression (map (λ e. e.0) args)) args' at is such (takes_these name d is (map (λ e. e.0) args) (required _ _ at ok)) same))))) }
  each_resolves (Expr-F.Unary op e at) = record { by = yields_then (of_valued e.1) (λ e' same. yields_ok (Unary op e' at) (same_unary op (expression e.0) e' at same)) }
  each_resolves (Expr-F.Binary op l r at) = record { by = yields_then (of_valued l.1) (λ l' p. yields_then (of_valued r.1) (λ r' q. yields_ok (Binary op l' r' at) (same_binary op (expression l.0) (expression r.0) l' r' at p q))) }
  each_resolves (Expr-F.Logic is_and l r at) = record { by = yields_then (of_valued l.1) (λ l' p. yields_then (of_valued r.1) (λ r' q. yields_ok (Logic is_and l' r' at) (same_logic is_and (expression l.0) (expression r.0) l' r' at p q))) }
  each_resolves (Expr-F.Choose x a b at) = record { by = yields_then (of_valued x.1) (λ x' o. yields_then (of_valued a.1) (λ a' p. yields_then (of_valued b.1) (λ b' q. yields_ok (Choose x' a' b' at) (same_choose (expression x.0) (expression a.0) (expression b.0) x' a' b' at o p q)))) }
  each_resolves (Expr-F.Assign op p v at) = record { by = yields_then (of_assignable at p.1) (λ p' x. yields_then (of_valued v.1) (λ v' y. yields_ok (Assign op p' v' at) (same_assign op (expression p.0) (expression v.0) p' v' at x y))) }
  each_resolves (Expr-F.Bump up before p at) = record { by = yields_then (of_assignable at p.1) (λ p' x. yields_ok (Bump up before p' at) (same_bump up before (expression p.0) p' at x)) }
  each_resolves (Expr-F.Comma l r at) = record { by = yields_then l.1.by (λ l' p. yields_then r.1.by (λ r' q. yields_ok (Comma l' r' at) (same_comma (expression l.0) (expression r.0) l' r' at p q))) }
  each_resolves (Expr-F.Paren e at) = record { by = yields_then e.1.by (λ e' same. yields_ok (Paren e' at) (same_paren (expression e.0) e' at same)) }

  pub resolves : (e : Expr) → Resolves (walked e) (expression e)
  resolves = ind-Expr (λ e. Resolves (walked e) (expression e)) (λ x y is. subst (λ z. Resolves (walked (roll-Expr z)) (expression (roll-Expr z))) is (subst (λ m. Resolves m (expression (roll-Expr (bare y)))) (sym (fold-roll-Expr Walked walk_step (bare y))) (subst (Resolves (walk_step (map-Expr Expr Walked walked (bare y)))) (sym (fold-roll-Expr Meaning expression_step (bare y))) (each_resolves y))))
