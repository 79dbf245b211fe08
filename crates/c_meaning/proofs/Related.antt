-- What holds of each step of a run holds of the meaning of every program: a relation between runs that each step keeps.
use Rattle.std.proofs.Common.{◌≡◌, ℕ, zero, suc, Bool, true, false, List, [], ◌∷◌, map, Option, Some, None, Result, Ok, Err, refl, sym, subst, if◌then◌else◌, ◌==◌, not, nat_lt, length, slice_index_or}
use Rattle.std.specs.List.{list_any}
use Rattle.c_meaning.specs.declared.run.Value.{Value}
use Rattle.c_meaning.specs.declared.run.Place.{Place}
use Rattle.c_meaning.specs.declared.run.Place.TheVariants.{Variable, Element}
use Rattle.c_meaning.specs.declared.run.EvalEnd.{EvalEnd}
use Rattle.c_meaning.specs.declared.run.EvalEnd.TheVariants.{Trapped, Starved, Going}
use Rattle.c_meaning.specs.declared.run.Flow.{Flow}
use Rattle.c_meaning.specs.declared.run.Flow.TheVariants.{Normal, Breaks, Continues, Returns}
use Rattle.c_syntax.specs.declared.tree.BinaryOp.{BinaryOp}
use Rattle.c_syntax.specs.declared.tree.Local.{Local}
use Rattle.c_syntax.specs.declared.tree.Function.{Function}
use Rattle.c_syntax.specs.declared.tree.TopItem.{TopItem}
use Rattle.c_syntax.specs.declared.tree.Expr.{Expr, roll-Expr, map-Expr, ind-Expr, fold-roll-Expr}
use Rattle.c_syntax.specs.declared.tree.Expr.TheOpen.{Expr-F}
use Rattle.c_syntax.specs.declared.tree.Clause.{Clause, roll-Clause, map-Clause, fold-roll-Clause}
use Rattle.c_syntax.specs.declared.tree.Stmt.{Stmt, roll-Stmt, map-Stmt, ind-Stmt, fold-roll-Stmt}
use Rattle.c_syntax.specs.declared.tree.Stmt.TheOpen.{Stmt-F, Clause-F}
use Rattle.c_meaning.specs.Operators.{value, is_unsigned_type, converted, truth, is_zero, common, operate, operate_unary, bumped}
use Rattle.c_meaning.specs.Run.{Entry, Object, Scalar, Array, Global, State, Outcome, Gives, Ends, Run, ◌>>=◌, pure, stop, lift, innermost, find_global, local_or, designated, object_type, types_now, scalar, read, element, read_element, below_length, check_index, stored, put_innermost, change_global, put_scalar, put_element, write, write_element, entered, enter, open_scope, close_scope, open_call, close_call, without_first, begin_active, end_active, counted, spend, put_out, take_in}
use Rattle.c_syntax.specs.Graph.{function_named, body_of, is_recursive}
use Rattle.c_meaning.specs.Meaning.{Calls, Meaning, fetch, put_at, store, indexed, values, binary, tested, logic, choose, assign_with, bump, no_place, expression_step, expression, Statement, if_normal, in_order, in_scope, value_if, initialise, declare, after_body, turns, loop, test_or_true, next_or_nothing, returned, Labelled, is_label, from_label, or_those, chosen, after_switch, switch, statement_step, clause_step, statement, clause, returns_unsigned, bound, call_result, in_body, enter_function, Names, first_word, call_at}

-- what a change of the variables alone, or an end that it meets, makes of a state
abbrev pub changed : {A : Type 0} → State → Result (A × List Global × List (List Entry)) EvalEnd → Outcome A
changed s (Ok (a, globals, scopes)) = Gives a (record s { globals = globals; scopes = scopes })
changed s (Err end) = Ends end s.output

-- a part that looks at the variables alone, and changes nothing else
pub record OnVariables {A : Type 0} (m : Run A) : Type 0 where
  pub change : List Global → List (List Entry) → Result (A × List Global × List (List Entry)) EvalEnd
  pub is : (s : State) → m s ≡ changed s (change s.globals s.scopes)

-- each step keeps the relation
pub record StepsKept (R : (A : Type 0) → Run A → Run A → Type 0) : Type 1 where
  pub on_pure : {A : Type 0} (a : A) → R A (pure a) (pure a)
  pub on_stop : {A : Type 0} (end : EvalEnd) → R A (stop end) (stop end)
  pub on_then : {A B : Type 0} {m m' : Run A} {go go' : A → Run B} → R A m m' → ((a : A) → R B (go a) (go' a)) → R B (m >>= go) (m' >>= go')
  pub on_variables : {A : Type 0} (m : Run A) → OnVariables m → R A m m
  pub on_put_out : (word : ℕ) → R (Unit {0}) (put_out word) (put_out word)
  pub on_take_in : R ℕ take_in take_in
  pub on_spend : R (Unit {0}) spend spend
  pub on_counted : {A : Type 0} {m m' : Run A} → R A m m' → R A (counted true m) (counted true m')

-- where the two ends of an active call keep it, what stands between them does
pub counted_from : (R : (A : Type 0) → Run A → Run A → Type 0) → ((A B : Type 0) (m m' : Run A) (go go' : A → Run B) → R A m m' → ((a : A) → R B (go a) (go' a)) → R B (m >>= go) (m' >>= go')) → ((A : Type 0) (a : A) → R A (pure a) (pure a)) → R ℕ begin_active begin_active → ((before : ℕ) → R (Unit {0}) (end_active before) (end_active before)) → (A : Type 0) (m m' : Run A) → R A m m' → R A (counted true m) (counted true m')
counted_from R on_then on_pure on_begin on_end A m m' p = on_then _ _ _ _ _ _ on_begin (λ before. on_then _ _ _ _ _ _ p (λ a. on_then _ _ _ _ _ _ (on_end before) (λ u. on_pure A a)))

-- and loops keep it
pub record IsKept (R : (A : Type 0) → Run A → Run A → Type 0) : Type 1 where
  pub steps : StepsKept R
  pub on_loop : (test test' : Run Value) (next next' : Run (Unit {0})) (body body' : Run Flow) → R Value test test' → R (Unit {0}) next next' → R Flow body body' → R Flow (loop test next body) (loop test' next' body')

-- ---- the steps that look at the variables alone

abbrev Change : Type 0 → Type 0
Change A = Result (A × List Global × List (List Entry)) EvalEnd

scalar_of : List Global → List (List Entry) → Option Object → Change Value
scalar_of g c (Some (Scalar v)) = Ok (v, g, c)
scalar_of g c (Some (Array u ws)) = Err Starved
scalar_of g c None = Err Starved

scalar_is : (s : State) (o : Option Object) → scalar o s ≡ changed s (scalar_of s.globals s.scopes o)
unfolding scalar_of
scalar_is s (Some (Scalar v)) = refl
scalar_is s (Some (Array u ws)) = refl
scalar_is s None = refl

pub on-read : (name : ℕ) → OnVariables (read name)
on-read name = record {
  change = λ g c. scalar_of g c (local_or (innermost name c) (find_global name g));
  is = λ s. scalar_is s (designated name s);
}

element_of : ℕ → List Global → List (List Entry) → Option Object → Change Value
element_of i g c (Some (Scalar v)) = Err Starved
element_of i g c (Some (Array u ws)) = Ok (value (slice_index_or ws i 0) u, g, c)
element_of i g c None = Err Starved

element_is : (i : ℕ) (s : State) (o : Option Object) → element i o s ≡ changed s (element_of i s.globals s.scopes o)
unfolding element_of
element_is i s (Some (Scalar v)) = refl
element_is i s (Some (Array u ws)) = refl
element_is i s None = refl

pub on-read_element : (name i : ℕ) → OnVariables (read_element name i)
on-read_element name i = record {
  change = λ g c. element_of i g c (local_or (innermost name c) (find_global name g));
  is = λ s. element_is i s (designated name s);
}

if_below : Bool → List Global → List (List Entry) → Change (Unit {0})
if_below true g c = Ok (tt, g, c)
if_below false g c = Err (Trapped 8)

if_below_is : (s : State) (b : Bool) → (if b then pure tt else stop (Trapped 8)) s ≡ changed s (if_below b s.globals s.scopes)
unfolding if_below
if_below_is s true = refl
if_below_is s false = refl

below_of : ℕ → List Global → List (List Entry) → Option Object → Change (Unit {0})
below_of i g c (Some (Scalar v)) = Err Starved
below_of i g c (Some (Array u ws)) = if_below (nat_lt i (length ws)) g c
below_of i g c None = Err Starved

below_is : (i : ℕ) (s : State) (o : Option Object) → below_length i o s ≡ changed s (below_of i s.globals s.scopes o)
unfolding below_of
below_is i s (Some (Scalar v)) = refl
below_is i s (Some (Array u ws)) = if_below_is s (nat_lt i (length ws))
below_is i s None = refl

pub on-check_index : (name i : ℕ) → OnVariables (check_index name i)
on-check_index name i = record {
  change = λ g c. below_of i g c (local_or (innermost name c) (find_global name g));
  is = λ s. below_is i s (designated name s);
}

stored_of : ℕ → ℕ → List Global → List (List Entry) → Option Value → Change (Unit {0})
stored_of name word g c (Some v) = Ok (tt, g, put_innermost name word c)
stored_of name word g c None = Ok (tt, change_global name (put_scalar word) g, c)

stored_is : (name word : ℕ) (s : State) (o : Option Value) → Gives tt (stored o name word s) ≡ changed s (stored_of name word s.globals s.scopes o)
unfolding stored_of
stored_is name word s (Some v) = refl
stored_is name word s None = refl

pub on-write : (name word : ℕ) → OnVariables (write name word)
on-write name word = record {
  change = λ g c. stored_of name word g c (innermost name c);
  is = λ s. stored_is name word s (innermost name s.scopes);
}

pub on-write_element : (name i word : ℕ) → OnVariables (write_element name i word)
on-write_element name i word = record { change = λ g c. Ok (tt, change_global name (put_element i word) g, c); is = λ s. refl }

pub on-types_now : OnVariables types_now
on-types_now = record { change = λ g c. Ok ((λ name. object_type (local_or (innermost name c) (find_global name g))), g, c); is = λ s. refl }

pub on-enter : (name : ℕ) (v : Value) → OnVariables (enter name v)
on-enter name v = record { change = λ g c. Ok (tt, g, entered name v c); is = λ s. refl }

pub on-open_scope : OnVariables open_scope
on-open_scope = record { change = λ g c. Ok (tt, g, [] ∷ c); is = λ s. refl }

pub on-close_scope : OnVariables close_scope
on-close_scope = record { change = λ g c. Ok (tt, g, without_first c); is = λ s. refl }

pub on-open_call : (parameters : List Entry) → OnVariables (open_call parameters)
on-open_call parameters = record { change = λ g c. Ok (c, g, parameters ∷ []); is = λ s. refl }

pub on-close_call : (scopes : List (List Entry)) → OnVariables (close_call scopes)
on-close_call scopes = record { change = λ g c. Ok (tt, g, scopes); is = λ s. refl }

-- ---- loops

module _ (R : (A : Type 0) → Run A → Run A → Type 0) (k : StepsKept R) where
  either : {A : Type 0} (b : Bool) {m m' n n' : Run A} → R A m m' → R A n n' → R A (if b then m else n) (if b then m' else n')
  either true p q = p
  either false p q = q

  again : (flow : Flow) {m m' : Run Flow} → R Flow m m' → R Flow (after_body flow m) (after_body flow m')
  again Normal p = p
  again Breaks p = k.on_pure Normal
  again Continues p = p
  again (Returns v) p = k.on_pure (Returns v)

  -- as many turns
  pub on_turns : (n : ℕ) (test test' : Run Value) (next next' : Run (Unit {0})) (body body' : Run Flow) → R Value test test' → R (Unit {0}) next next' → R Flow body body' → R Flow (turns n test next body) (turns n test' next' body')
  on_turns zero test test' next next' body body' t a b = k.on_stop Going
  on_turns (suc n) test test' next next' body body' t a b =
      k.on_then t (λ v. either (is_zero v) (k.on_pure Normal)
      (k.on_then k.on_spend (λ u. k.on_then b (λ flow. again flow (k.on_then a (λ w. on_turns n test test' next next' body body' t a b))))))

-- ---- expressions

module _ (R : (A : Type 0) → Run A → Run A → Type 0) (k : IsKept R) where
  pub on_lift : {A : Type 0} (r : Result A EvalEnd) → R A (lift r) (lift r)
  on_lift (Ok a) = k.steps.on_pure a
  on_lift (Err end) = k.steps.on_stop end

  pub on_if : {A : Type 0} (b : Bool) {m m' n n' : Run A} → R A m m' → R A n n' → R A (if b then m else n) (if b then m' else n')
  on_if true p q = p
  on_if false p q = q

  on_fetch : (p : Place) → R Value (fetch p) (fetch p)
  on_fetch (Variable name) = k.steps.on_variables (read name) (on-read name)
  on_fetch (Element name i) = k.steps.on_variables (read_element name i) (on-read_element name i)

  on_put_at : (p : Place) (word : ℕ) → R (Unit {0}) (put_at p word) (put_at p word)
  on_put_at (Variable name) word = k.steps.on_variables (write name word) (on-write name word)
  on_put_at (Element name i) word = k.steps.on_variables (write_element name i word) (on-write_element name i word)

  on_store : (p : Place) (word : ℕ) → R Value (store p word) (store p word)
  on_store p word = k.steps.on_then (on_fetch p) (λ old. k.steps.on_then (on_put_at p word) (λ u. k.steps.on_pure (value word old.is_unsigned)))

  on_indexed : (name : ℕ) (i i' : Run Value) → R Value i i' → R Place (indexed name i) (indexed name i')
  on_indexed name i i' p = k.steps.on_then p (λ v. k.steps.on_then (k.steps.on_variables (check_index name v.word) (on-check_index name v.word)) (λ u. k.steps.on_pure (Element name v.word)))

  on_binary : (op : BinaryOp) (a a' b b' : Run Value) → R Value a a' → R Value b b' → R Value (binary op a b) (binary op a' b')
  on_binary op a a' b b' p q = k.steps.on_then p (λ x. k.steps.on_then q (λ y. on_lift (operate op x y)))

  on_tested : (a a' : Run Value) → R Value a a' → R Value (tested a) (tested a')
  on_tested a a' p = k.steps.on_then p (λ x. k.steps.on_pure (truth (not (is_zero x))))

  on_logic : (is_and : Bool) (a a' b b' : Run Value) → R Value a a' → R Value b b' → R Value (logic is_and a b) (logic is_and a' b')
  on_logic true a a' b b' p q = k.steps.on_then p (λ x. on_if (is_zero x) (k.steps.on_pure (truth false)) (on_tested b b' q))
  on_logic false a a' b b' p q = k.steps.on_then p (λ x. on_if (is_zero x) (on_tested b b' q) (k.steps.on_pure (truth true)))

  on_choose : (t : (ℕ → Bool) → Bool) (c c' a a' b b' : Run Value) → R Value c c' → R Value a a' → R Value b b' → R Value (choose t c a b) (choose t c' a' b')
  on_choose t c c' a a' b b' p q r = k.steps.on_then p (λ x. k.steps.on_then (k.steps.on_variables types_now on-types_now) (λ types. k.steps.on_then (on_if (is_zero x) r q) (λ v. k.steps.on_pure (converted (t types) v))))

  on_assign_with : (op : Option BinaryOp) (p p' : Run Place) (a a' : Run Value) → R Place p p' → R Value a a' → R Value (assign_with op p a) (assign_with op p' a')
  on_assign_with None p p' a a' at q = k.steps.on_then at (λ place. k.steps.on_then q (λ v. on_store place v.word))
  on_assign_with (Some op) p p' a a' at q = k.steps.on_then at (λ place. k.steps.on_then (on_fetch place) (λ old. k.steps.on_then q (λ v. k.steps.on_then (on_lift (operate op old v)) (λ new. on_store place new.word))))

  on_bump : (up before : Bool) (p p' : Run Place) → R Place p p' → R Value (bump up before p) (bump up before p')
  on_bump up before p p' at = k.steps.on_then at (λ place. k.steps.on_then (on_fetch place) (λ old. k.steps.on_then (on_store place (bumped up old.word)) (λ new. k.steps.on_pure (if before then new else old))))

  -- calls at the same types that are related
  abbrev pub Same : (ℕ → List Value → Run Value) → (ℕ → List Value → Run Value) → Type 0
  Same call call' = (name : ℕ) (args : List Value) → R Value (call name args) (call' name args)

  abbrev pub with : (ℕ → Bool) → (ℕ → List Value → Run Value) → Calls
  with types call = record { is_unsigned = types; call = call }

  pub record KeptMeaning (x : Meaning) : Type 0 where
    pub of_value : (types : ℕ → Bool) (call call' : ℕ → List Value → Run Value) → Same call call' → R Value (x.value (with types call)) (x.value (with types call'))
    pub of_place : (types : ℕ → Bool) (call call' : ℕ → List Value → Run Value) → Same call call' → R Place (x.place (with types call)) (x.place (with types call'))

  abbrev Part : Type 0
  Part = (e : Expr) × KeptMeaning (expression e)

  on_values : (types : ℕ → Bool) (call call' : ℕ → List Value → Run Value) → Same call call' → (es : List Part) → R (List Value) (values (map (λ e. e.value (with types call)) (map expression (map (λ e. e.0) es)))) (values (map (λ e. e.value (with types call')) (map expression (map (λ e. e.0) es))))
  on_values types call call' c [] = k.steps.on_pure []
  on_values types call call' c (e ∷ es) = k.steps.on_then (e.1.of_value types call call' c) (λ v. k.steps.on_then (on_values types call call' c es) (λ vs. k.steps.on_pure (v ∷ vs)))

  no_place_kept : (types : ℕ → Bool) (call call' : ℕ → List Value → Run Value) → Same call call' → R Place (no_place (with types call)) (no_place (with types call'))
  no_place_kept types call call' c = k.steps.on_stop Starved

  on_expression : (y : Expr-F Part) → KeptMeaning (expression_step (map-Expr Expr Meaning expression (map-Expr Part Expr (λ e. e.0) y)))
  on_expression (Expr-F.Literal word is_unsigned at) = record { of_value = λ types call call' c. k.steps.on_pure (value word is_unsigned); of_place = no_place_kept }
  on_expression (Expr-F.Name name at) = record { of_value = λ types call call' c. k.steps.on_variables (read name) (on-read name); of_place = λ types call call' c. k.steps.on_pure (Variable name) }
  on_expression (Expr-F.Index name index at) = record {
    of_value = λ types call call' c. k.steps.on_then (on_indexed name _ _ (index.1.of_value types call call' c)) on_fetch;
    of_place = λ types call call' c. on_indexed name _ _ (index.1.of_value types call call' c);
  }
  on_expression (Expr-F.Call name args at) = record { of_value = λ types call call' c. k.steps.on_then (on_values types call call' c args) (λ vs. c name vs); of_place = no_place_kept }
  on_expression (Expr-F.Unary op operand at) = record { of_value = λ types call call' c. k.steps.on_then (operand.1.of_value types call call' c) (λ x. k.steps.on_pure (operate_unary op x)); of_place = no_place_kept }
  on_expression (Expr-F.Binary op left right at) = record { of_value = λ types call call' c. on_binary op _ _ _ _ (left.1.of_value types call call' c) (right.1.of_value types call call' c); of_place = no_place_kept }
  on_expression (Expr-F.Logic is_and left right at) = record { of_value = λ types call call' c. on_logic is_and _ _ _ _ (left.1.of_value types call call' c) (right.1.of_value types call call' c); of_place = no_place_kept }
  on_expression (Expr-F.Choose test a b at) = record {
    of_value = λ types call call' c. on_choose (λ names. common ((expression a.0).is_unsigned names types) ((expression b.0).is_unsigned names types)) _ _ _ _ _ _ (test.1.of_value types call call' c) (a.1.of_value types call call' c) (b.1.of_value types call call' c);
    of_place = no_place_kept;
  }
  on_expression (Expr-F.Assign op place right at) = record { of_value = λ types call call' c. on_assign_with op _ _ _ _ (place.1.of_place types call call' c) (right.1.of_value types call call' c); of_place = no_place_kept }
  on_expression (Expr-F.Bump up before place at) = record { of_value = λ types call call' c. on_bump up before _ _ (place.1.of_place types call call' c); of_place = no_place_kept }
  on_expression (Expr-F.Comma left right at) = record { of_value = λ types call call' c. k.steps.on_then (left.1.of_value types call call' c) (λ x. right.1.of_value types call call' c); of_place = no_place_kept }
  on_expression (Expr-F.Paren inner at) = inner.1

  pub kept_expression : (e : Expr) → KeptMeaning (expression e)
  kept_expression = ind-Expr (λ e. KeptMeaning (expression e)) (λ x y is. subst (λ z. KeptMeaning (expression (roll-Expr z))) is (subst KeptMeaning (sym (fold-roll-Expr Meaning expression_step (map-Expr Part Expr (λ e. e.0) y))) (on_expression y)))

  pub on_counted_if : {A : Type 0} (recursive : Bool) {m m' : Run A} → R A m m' → R A (counted recursive m) (counted recursive m')
  on_counted_if true p = k.steps.on_counted p
  on_counted_if false p = p

  -- ---- statements

  pub on_next : (flow : Flow) {m m' : Run Flow} → R Flow m m' → R Flow (if_normal flow m) (if_normal flow m')
  on_next Normal p = p
  on_next Breaks p = k.steps.on_pure Breaks
  on_next Continues p = k.steps.on_pure Continues
  on_next (Returns v) p = k.steps.on_pure (Returns v)

  pub on_after_body : (flow : Flow) {m m' : Run Flow} → R Flow m m' → R Flow (after_body flow m) (after_body flow m')
  on_after_body Normal p = p
  on_after_body Breaks p = k.steps.on_pure Normal
  on_after_body Continues p = p
  on_after_body (Returns v) p = k.steps.on_pure (Returns v)

  pub record KeptStatement (x : Statement) : Type 0 where
    pub at : (types : ℕ → Bool) (call call' : ℕ → List Value → Run Value) → Same call call' → R Flow (x (with types call)) (x (with types call'))

  -- a clause of a `switch` whose statements keep it
  pub record KeptClause (x : Labelled) : Type 0 where
    pub at : (types : ℕ → Bool) (call call' : ℕ → List Value → Run Value) → Same call call' → R Flow (x.body (with types call)) (x.body (with types call'))

  abbrev Substatement : Type 0
  Substatement = (c : Stmt) × KeptStatement (statement c)

  abbrev Subclause : Type 0
  Subclause = (c : Clause) × KeptClause (clause c)

  -- clauses that all keep it
  abbrev AllKept : List Labelled → Type 0
  AllKept [] = Unit {0}
  AllKept (c ∷ cs) = KeptClause c × AllKept cs

  all_kept : (cs : List Subclause) → AllKept (map clause (map (λ c. c.0) cs))
  all_kept [] = tt
  all_kept (c ∷ cs) = (c.1, all_kept cs)

  kept_or : (cs others : List Labelled) → AllKept cs → AllKept others → AllKept (or_those cs others)
  kept_or [] others a b = b
  kept_or (c ∷ cs) others a b = a

  kept_from : (l : Option ℕ) (cs : List Labelled) → AllKept cs → AllKept (from_label l cs)
  kept_from l [] a = tt
  kept_from l (c ∷ cs) a = found (list_any (is_label l) c.labels) (kept_from l cs a.1)
    where
      found : (b : Bool) → AllKept (from_label l cs) → AllKept (if b then c ∷ cs else from_label l cs)
      found true rest = a
      found false rest = rest

  kept_chosen : (word : ℕ) (cs : List Labelled) → AllKept cs → AllKept (chosen word cs)
  kept_chosen word cs a = kept_or (from_label (Some word) cs) (from_label None cs) (kept_from (Some word) cs a) (kept_from None cs a)

  on_clauses : (types : ℕ → Bool) (call call' : ℕ → List Value → Run Value) → Same call call' → (cs : List Labelled) → AllKept cs → R Flow (in_order (map (λ c. c.body (with types call)) cs)) (in_order (map (λ c. c.body (with types call')) cs))
  on_clauses types call call' c [] a = k.steps.on_pure Normal
  on_clauses types call call' c (x ∷ xs) a = k.steps.on_then (a.0.at types call call' c) (λ flow. on_next flow (on_clauses types call call' c xs a.1))

  on_switch : (types : ℕ → Bool) (call call' : ℕ → List Value → Run Value) → Same call call' → (test test' : Run Value) (cs : List Labelled) → R Value test test' → AllKept cs → R Flow (switch test cs (with types call)) (switch test' cs (with types call'))
  on_switch types call call' c test test' cs t a = k.steps.on_then t (λ v. k.steps.on_then (on_clauses types call call' c (chosen v.word cs) (kept_chosen v.word cs a)) (λ flow. k.steps.on_pure (after_switch flow)))

  on_order : (types : ℕ → Bool) (call call' : ℕ → List Value → Run Value) → Same call call' → (cs : List Substatement) → R Flow (in_order (map (λ c. c (with types call)) (map statement (map (λ c. c.0) cs)))) (in_order (map (λ c. c (with types call')) (map statement (map (λ c. c.0) cs))))
  on_order types call call' c [] = k.steps.on_pure Normal
  on_order types call call' c (x ∷ xs) = k.steps.on_then (x.1.at types call call' c) (λ flow. on_next flow (on_order types call call' c xs))

  on_scope : (b b' : Run Flow) → R Flow b b' → R Flow (in_scope b) (in_scope b')
  on_scope b b' p = k.steps.on_then (k.steps.on_variables open_scope on-open_scope) (λ u. k.steps.on_then p (λ flow. k.steps.on_then (k.steps.on_variables close_scope on-close_scope) (λ w. k.steps.on_pure flow)))

  on_initialise : (types : ℕ → Bool) (call call' : ℕ → List Value → Run Value) → Same call call' → (name : ℕ) (e : Option Expr) → R (Unit {0}) (initialise name (value_if (with types call) e)) (initialise name (value_if (with types call') e))
  on_initialise types call call' c name None = k.steps.on_pure tt
  on_initialise types call call' c name (Some e) = k.steps.on_then ((kept_expression e).of_value types call call' c) (λ v. k.steps.on_then (k.steps.on_variables (write name v.word) (on-write name v.word)) (λ u. k.steps.on_pure tt))

  on_locals : (types : ℕ → Bool) (call call' : ℕ → List Value → Run Value) → Same call call' → (ds : List Local) → R Flow (in_order (map (declare (with types call)) ds)) (in_order (map (declare (with types call')) ds))
  on_locals types call call' c [] = k.steps.on_pure Normal
  on_locals types call call' c (d ∷ ds) = k.steps.on_then (k.steps.on_then (k.steps.on_variables (enter d.name (value 0 (is_unsigned_type d.ty))) (on-enter d.name (value 0 (is_unsigned_type d.ty)))) (λ u. k.steps.on_then (on_initialise types call call' c d.name d.first) (λ w. k.steps.on_pure Normal))) (λ flow. on_next flow (on_locals types call call' c ds))

  on_returned : (types : ℕ → Bool) (call call' : ℕ → List Value → Run Value) → Same call call' → (e : Option Expr) → R Flow (returned (value_if (with types call) e)) (returned (value_if (with types call') e))
  on_returned types call call' c None = k.steps.on_pure (Returns (value 0 false))
  on_returned types call call' c (Some e) = k.steps.on_then ((kept_expression e).of_value types call call' c) (λ v. k.steps.on_pure (Returns v))

  on_test : (types : ℕ → Bool) (call call' : ℕ → List Value → Run Value) → Same call call' → (e : Option Expr) → R Value (test_or_true (value_if (with types call) e)) (test_or_true (value_if (with types call') e))
  on_test types call call' c None = k.steps.on_pure (truth true)
  on_test types call call' c (Some e) = (kept_expression e).of_value types call call' c

  on_next_value : (types : ℕ → Bool) (call call' : ℕ → List Value → Run Value) → Same call call' → (e : Option Expr) → R (Unit {0}) (next_or_nothing (value_if (with types call) e)) (next_or_nothing (value_if (with types call') e))
  on_next_value types call call' c None = k.steps.on_pure tt
  on_next_value types call call' c (Some e) = k.steps.on_then ((kept_expression e).of_value types call call' c) (λ v. k.steps.on_pure tt)

  on_statement : (y : Stmt-F Substatement Subclause) → KeptStatement (statement_step (map-Stmt Stmt Clause Statement Labelled statement clause (map-Stmt Substatement Subclause Stmt Clause (λ c. c.0) (λ c. c.0) y)))
  on_statement Stmt-F.Empty = record { at = λ types call call' c. k.steps.on_pure Normal }
  on_statement (Stmt-F.Value e) = record { at = λ types call call' c. k.steps.on_then ((kept_expression e).of_value types call call' c) (λ v. k.steps.on_pure Normal) }
  on_statement (Stmt-F.Declare ds) = record { at = λ types call call' c. on_locals types call call' c ds }
  on_statement (Stmt-F.Block cs) = record { at = λ types call call' c. on_scope _ _ (on_order types call call' c cs) }
  on_statement (Stmt-F.If t a None) = record { at = λ types call call' c. k.steps.on_then ((kept_expression t).of_value types call call' c) (λ v. on_if (is_zero v) (k.steps.on_pure Normal) (a.1.at types call call' c)) }
  on_statement (Stmt-F.If t a (Some b)) = record { at = λ types call call' c. k.steps.on_then ((kept_expression t).of_value types call call' c) (λ v. on_if (is_zero v) (b.1.at types call call' c) (a.1.at types call call' c)) }
  on_statement (Stmt-F.While t b) = record { at = λ types call call' c. k.on_loop _ _ _ _ _ _ ((kept_expression t).of_value types call call' c) (k.steps.on_pure tt) (b.1.at types call call' c) }
  on_statement (Stmt-F.Do b t) = record { at = λ types call call' c. k.steps.on_then k.steps.on_spend (λ u. k.steps.on_then (b.1.at types call call' c) (λ flow. on_after_body flow (k.on_loop _ _ _ _ _ _ ((kept_expression t).of_value types call call' c) (k.steps.on_pure tt) (b.1.at types call call' c)))) }
  on_statement (Stmt-F.For first test next body) = record { at = λ types call call' c. on_scope _ _ (k.steps.on_then (first.1.at types call call' c) (λ flow. on_next flow (k.on_loop _ _ _ _ _ _ (on_test types call call' c test) (on_next_value types call call' c next) (body.1.at types call call' c)))) }
  on_statement (Stmt-F.Switch t cs) = record { at = λ types call call' c. on_switch types call call' c _ _ (map clause (map (λ x. x.0) cs)) ((kept_expression t).of_value types call call' c) (all_kept cs) }
  on_statement (Stmt-F.Break at) = record { at = λ types call call' c. k.steps.on_pure Breaks }
  on_statement (Stmt-F.Continue at) = record { at = λ types call call' c. k.steps.on_pure Continues }
  on_statement (Stmt-F.Return e at) = record { at = λ types call call' c. on_returned types call call' c e }

  on_clause : (y : Clause-F Substatement Subclause) → KeptClause (clause_step (map-Clause Stmt Clause Statement Labelled statement clause (map-Clause Substatement Subclause Stmt Clause (λ c. c.0) (λ c. c.0) y)))
  on_clause y = record { at = λ types call call' c. on_order types call call' c y.body }

  pub kept_statement : (c : Stmt) → KeptStatement (statement c)
  kept_statement = ind-Stmt (λ c. KeptStatement (statement c)) (λ c. KeptClause (clause c))
      (λ x y is. subst (λ z. KeptStatement (statement (roll-Stmt z))) is (subst KeptStatement (sym (fold-roll-Stmt Statement Labelled statement_step clause_step (map-Stmt Substatement Subclause Stmt Clause (λ c. c.0) (λ c. c.0) y))) (on_statement y)))
      (λ x y is. subst (λ z. KeptClause (clause (roll-Clause z))) is (subst KeptClause (sym (fold-roll-Clause Statement Labelled statement_step clause_step (map-Clause Substatement Subclause Stmt Clause (λ c. c.0) (λ c. c.0) y))) (on_clause y)))

  -- ---- calls

  on_body : (types : ℕ → Bool) (call call' : ℕ → List Value → Run Value) → Same call call' → (cs : List Stmt) → R Flow (in_order (map (λ c. c (with types call)) (map statement cs))) (in_order (map (λ c. c (with types call')) (map statement cs)))
  on_body types call call' c [] = k.steps.on_pure Normal
  on_body types call call' c (x ∷ xs) = k.steps.on_then ((kept_statement x).at types call call' c) (λ flow. on_next flow (on_body types call call' c xs))

  pub on_in_body : (types : ℕ → Bool) (call call' : ℕ → List Value → Run Value) → Same call call' → (f : Function) (args : List Value) → R Value (in_body (with types call) f args) (in_body (with types call') f args)
  on_in_body types call call' c f args = k.steps.on_then (k.steps.on_variables (open_call (bound f.params args)) (on-open_call (bound f.params args))) (λ scopes. k.steps.on_then (on_body types call call' c (body_of f.body)) (λ flow. k.steps.on_then (k.steps.on_variables (close_call scopes) (on-close_call scopes)) (λ u. k.steps.on_pure (call_result (is_unsigned_type f.ty) flow))))

  pub on_enter_function : (types : ℕ → Bool) (call call' : ℕ → List Value → Run Value) → Same call call' → (recursive : Bool) (f : Option Function) (args : List Value) → R Value (enter_function (with types call) recursive f args) (enter_function (with types call') recursive f args)
  on_enter_function types call call' c recursive None args = k.steps.on_stop Starved
  on_enter_function types call call' c recursive (Some f) args = on_counted_if recursive (k.steps.on_then k.steps.on_spend (λ u. on_in_body types call call' c f args))

  -- a call at two levels, where the calls at the levels below are related
  pub on_call : (names : Names) (items : List TopItem) (n n' : ℕ) → Same (call_at names items n) (call_at names items n') → Same (call_at names items (suc n)) (call_at names items (suc n'))
  on_call names items n n' c name args =
      on_if (name == names.in_word) (k.steps.on_then k.steps.on_take_in (λ word. k.steps.on_pure (value word false)))
      (on_if (name == names.out_word) (k.steps.on_then (k.steps.on_put_out (first_word args)) (λ u. k.steps.on_pure (value 0 false)))
      (on_enter_function (λ f. returns_unsigned (function_named f items)) (call_at names items n) (call_at names items n') c (is_recursive items name) (function_named name items) args))
