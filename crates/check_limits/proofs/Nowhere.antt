-- Evaluating an expression where no name means anything: it gives a value and changes nothing, or ends; and it ends where it needs a variable or a function.
use Rattle.std.proofs.Common.{◌≡◌, ℕ, Bool, true, false, List, map, Option, Some, None, Result, Ok, Err, refl, sym, ap, ◌∙◌, subst, if◌then◌else◌, not, ◌⊎◌, inl, inr}
use Rattle.c_meaning.specs.declared.run.Value.{Value}
use Rattle.c_meaning.specs.declared.run.Place.{Place}
use Rattle.c_meaning.specs.declared.run.Place.TheVariants.{Variable, Element}
use Rattle.c_meaning.specs.declared.run.EvalEnd.{EvalEnd}
use Rattle.std.specs.Result.{IfOk, OnErr}
use Rattle.c_syntax.specs.declared.tree.UnaryOp.{UnaryOp}
use Rattle.c_syntax.specs.declared.tree.BinaryOp.{BinaryOp}
use Rattle.c_syntax.specs.declared.tree.Expr.{Expr, Name, Index, Call, Unary, Choose, Assign, Bump, Comma, roll-Expr, map-Expr, ind-Expr, fold-roll-Expr}
use Rattle.c_syntax.specs.declared.tree.Expr.TheOpen.{Expr-F}
use Rattle.c_meaning.specs.Operators.{converted, truth, is_zero, common, operate, operate_unary, bumped}
use Rattle.c_meaning.specs.Run.{Outcome, Gives, Ends, Run, and_then, ◌>>=◌, ◌>>◌, pure, lift, meaningless, check_index, types_now, object_type, designated}
use Rattle.c_meaning.specs.Meaning.{Meaning, fetch, store, indexed, values, tested, logic, choose, assign_with, bump, expression_step, expression, no_calls}
use Rattle.check_rules.specs.Walk.{has_result}
use Rattle.check_rules.proofs.Views.{at-Name, at-Index, at-Call, at-Unary, at-Choose, at-Assign, at-Bump, at-Comma}
use Rattle.check_expressions.specs.Constant.{nowhere, constant_outcome}

-- nothing is changed, where there is a result
abbrev pub Still : {A : Type 0} → Outcome A → Type 0
Still (Gives a s) = s ≡ nowhere
Still (Ends end output) = Unit {0}

abbrev pub Fails : {A : Type 0} → Outcome A → Type 0
Fails o = has_result o ≡ false

-- a place is that of a name
abbrev pub Named : Outcome Place → Type 0
Named (Gives (Variable name) s) = s ≡ nowhere
Named (Gives (Element name index) s) = ⊥
Named (Ends end output) = Unit {0}

-- ---- parts one after another

still_then : {A B : Type 0} (o : Outcome A) (go : A → Run B) → Still o → ((a : A) → Still (go a nowhere)) → Still (and_then o go)
still_then (Gives a s) go h g = subst (λ t. Still (go a t)) (sym h) (g a)
still_then (Ends end output) go h g = tt

still_fails : {A : Type 0} (o : Outcome A) → Fails o → Still o
still_fails (Gives a s) h = absurd cc
still_fails (Ends end output) h = tt

named_fails : (o : Outcome Place) → Fails o → Named o
named_fails (Gives p s) h = absurd cc
named_fails (Ends end output) h = tt

still_lift : {A : Type 0} (r : Result A EvalEnd) → Still (lift r nowhere)
still_lift (Ok a) = refl
still_lift (Err end) = tt

still_if : {A : Type 0} (b : Bool) (m n : Run A) → Still (m nowhere) → Still (n nowhere) → Still ((if b then m else n) nowhere)
still_if true m n h g = h
still_if false m n h g = g

still_tested : (m : Run Value) → Still (m nowhere) → Still (tested m nowhere)
still_tested m h = still_then (m nowhere) (λ x. pure (truth (not (is_zero x)))) h (λ x. refl)

still_logic : (is_and : Bool) (a b : Run Value) → Still (a nowhere) → Still (b nowhere) → Still (logic is_and a b nowhere)
still_logic true a b h g = still_then (a nowhere) (λ x. if is_zero x then pure (truth false) else tested b) h (λ x. still_if (is_zero x) (pure (truth false)) (tested b) refl (still_tested b g))
still_logic false a b h g = still_then (a nowhere) (λ x. if is_zero x then tested b else pure (truth true)) h (λ x. still_if (is_zero x) (tested b) (pure (truth true)) (still_tested b g) refl)

still_choose : (t : (ℕ → Bool) → Bool) (c a b : Run Value) → Still (c nowhere) → Still (a nowhere) → Still (b nowhere) → Still (choose t c a b nowhere)
still_choose t c a b h p q =
    still_then (c nowhere) (λ x. types_now >>= (λ types. (if is_zero x then b else a) >>= (λ v. pure (converted (t types) v)))) h
    (λ x. still_then ((if is_zero x then b else a) nowhere) (λ v. pure (converted (t (λ name. object_type (designated name nowhere))) v)) (still_if (is_zero x) b a q p) (λ v. refl))

-- what fails on any result without change fails
fails_then : {A B : Type 0} (o : Outcome A) (go : A → Run B) → Still o → ((a : A) → Fails (go a nowhere)) → Fails (and_then o go)
fails_then (Gives a s) go h g = subst (λ t. Fails (go a t)) (sym h) (g a)
fails_then (Ends end output) go h g = refl

pub fails_on : {A B : Type 0} (o : Outcome A) (go : A → Run B) → Fails o → Fails (and_then o go)
fails_on (Gives a s) go h = absurd cc
fails_on (Ends end output) go h = refl

fails_place : {B : Type 0} (o : Outcome Place) (go : Place → Run B) → Named o → ((name : ℕ) → Fails (go (Variable name) nowhere)) → Fails (and_then o go)
fails_place (Gives (Variable name) s) go h g = subst (λ t. Fails (go (Variable name) t)) (sym h) (g name)
fails_place (Gives (Element name index) s) go h g = absurd h
fails_place (Ends end output) go h g = refl

fails_called : {A : Type 0} (o : Outcome A) → Fails (and_then {B = Value} o (λ a. meaningless))
fails_called (Gives a s) = refl
fails_called (Ends end output) = refl

fails_indexed : (name : ℕ) (i : Run Value) → Still (i nowhere) → Fails (indexed name i nowhere)
fails_indexed name i h = fails_then (i nowhere) (λ v. check_index name v.word >> pure (Element name v.word)) h (λ v. refl)

fails_assign : (op : Option BinaryOp) (p : Run Place) (a : Run Value) → Named (p nowhere) → Still (a nowhere) → Fails (assign_with op p a nowhere)
fails_assign None p a h g = fails_place (p nowhere) (λ place. a >>= (λ v. store place v.word)) h (λ name. fails_then (a nowhere) (λ v. store (Variable name) v.word) g (λ v. refl))
fails_assign (Some op) p a h g = fails_place (p nowhere) (λ place. fetch place >>= (λ old. a >>= (λ v. lift (operate op old v) >>= (λ new. store place new.word)))) h (λ name. refl)

fails_bump : (up before : Bool) (p : Run Place) → Named (p nowhere) → Fails (bump up before p nowhere)
fails_bump up before p h = fails_place (p nowhere) (λ place. fetch place >>= (λ old. store place (bumped up old.word) >>= (λ new. pure (if before then new else old)))) h (λ name. refl)

-- ---- expressions

pub record Settled (x : Meaning) : Type 0 where
  pub of_value : Still (x.value no_calls nowhere)
  pub of_place : Named (x.place no_calls nowhere)

abbrev Part : Type 0
Part = (e : Expr) × Settled (expression e)

on_expression : (y : Expr-F Part) → Settled (expression_step (map-Expr Expr Meaning expression (map-Expr Part Expr (λ e. e.0) y)))
on_expression (Expr-F.Literal word is_unsigned at) = record { of_value = refl; of_place = tt }
on_expression (Expr-F.Name name at) = record { of_value = tt; of_place = refl }
on_expression (Expr-F.Index name index at) =
    let f = fails_indexed name ((expression index.0).value no_calls) index.1.of_value in
    record { of_value = still_fails _ (fails_on _ fetch f); of_place = named_fails _ f }
on_expression (Expr-F.Call name args at) = record { of_value = still_fails _ (fails_called (values (map (λ e. e.value no_calls) (map expression (map (λ e. e.0) args))) nowhere)); of_place = tt }
on_expression (Expr-F.Unary op operand at) = record { of_value = still_then _ (λ x. pure (operate_unary op x)) operand.1.of_value (λ x. refl); of_place = tt }
on_expression (Expr-F.Binary op left right at) = record {
  of_value = still_then _ (λ x. (expression right.0).value no_calls >>= (λ y. lift (operate op x y))) left.1.of_value (λ x. still_then _ (λ y. lift (operate op x y)) right.1.of_value (λ y. still_lift (operate op x y)));
  of_place = tt;
}
on_expression (Expr-F.Logic is_and left right at) = record { of_value = still_logic is_and _ _ left.1.of_value right.1.of_value; of_place = tt }
on_expression (Expr-F.Choose test a b at) = record {
  of_value = still_choose (λ types. common ((expression a.0).is_unsigned types no_calls.is_unsigned) ((expression b.0).is_unsigned types no_calls.is_unsigned)) ((expression test.0).value no_calls) ((expression a.0).value no_calls) ((expression b.0).value no_calls) test.1.of_value a.1.of_value b.1.of_value;
  of_place = tt;
}
on_expression (Expr-F.Assign op place right at) = record { of_value = still_fails _ (fails_assign op _ _ place.1.of_place right.1.of_value); of_place = tt }
on_expression (Expr-F.Bump up before place at) = record { of_value = still_fails _ (fails_bump up before ((expression place.0).place no_calls) place.1.of_place); of_place = tt }
on_expression (Expr-F.Comma left right at) = record { of_value = still_then _ (λ x. (expression right.0).value no_calls) left.1.of_value (λ x. right.1.of_value); of_place = tt }
on_expression (Expr-F.Paren inner at) = inner.1

pub settled : (e : Expr) → Settled (expression e)
settled = ind-Expr (λ e. Settled (expression e)) (λ x y is. subst (λ z. Settled (expression (roll-Expr z))) is (subst Settled (sym (fold-roll-Expr Meaning expression_step (map-Expr Part Expr (λ e. e.0) y))) (on_expression y)))

-- ---- what needs a variable or a function

fails-Index : (name : ℕ) (index : Expr) (at : ℕ) → Fails (constant_outcome (Index name index at))
fails-Index name index at = ap (λ m. has_result (m.value no_calls nowhere)) (at-Index Meaning expression_step name index at) ∙ fails_on _ fetch (fails_indexed name ((expression index).value no_calls) (settled index).of_value)

fails-Assign : (op : Option BinaryOp) (place right : Expr) (at : ℕ) → Fails (constant_outcome (Assign op place right at))
fails-Assign op place right at = ap (λ m. has_result (m.value no_calls nowhere)) (at-Assign Meaning expression_step op place right at) ∙ fails_assign op ((expression place).place no_calls) ((expression right).value no_calls) (settled place).of_place (settled right).of_value

fails-Bump : (up before : Bool) (place : Expr) (at : ℕ) → Fails (constant_outcome (Bump up before place at))
fails-Bump up before place at = ap (λ m. has_result (m.value no_calls nowhere)) (at-Bump Meaning expression_step up before place at) ∙ fails_bump up before ((expression place).place no_calls) (settled place).of_place

fails-Name : (name at : ℕ) → Fails (constant_outcome (Name name at))
fails-Name name at = ap (λ m. has_result (m.value no_calls nowhere)) (at-Name Meaning expression_step name at)

fails-Call : (name : ℕ) (args : List Expr) (at : ℕ) → Fails (constant_outcome (Call name args at))
fails-Call name args at = ap (λ m. has_result (m.value no_calls nowhere)) (at-Call Meaning expression_step name args at) ∙ fails_called (values (map (λ e. e.value no_calls) (map expression args)) nowhere)

pub fails_of_five : (e : Expr) →
    ((name : ℕ) × (at : ℕ) × (e ≡ Name name at)) ⊎ (((name : ℕ) × (index : Expr) × (at : ℕ) × (e ≡ Index name index at)) ⊎ (((name : ℕ) × (args : List Expr) × (at : ℕ) × (e ≡ Call name args at))
    ⊎ (((op : Option BinaryOp) × (place : Expr) × (right : Expr) × (at : ℕ) × (e ≡ Assign op place right at)) ⊎ ((up : Bool) × (before : Bool) × (place : Expr) × (at : ℕ) × (e ≡ Bump up before place at))))) →
    Fails (constant_outcome e)
fails_of_five e (inl h) = ap (λ x. has_result (constant_outcome x)) h.2 ∙ fails-Name h.0 h.1
fails_of_five e (inr (inl h)) = ap (λ x. has_result (constant_outcome x)) h.3 ∙ fails-Index h.0 h.1 h.2
fails_of_five e (inr (inr (inl h))) = ap (λ x. has_result (constant_outcome x)) h.3 ∙ fails-Call h.0 h.1 h.2
fails_of_five e (inr (inr (inr (inl h)))) = ap (λ x. has_result (constant_outcome x)) h.4 ∙ fails-Assign h.0 h.1 h.2 h.3
fails_of_five e (inr (inr (inr (inr h)))) = ap (λ x. has_result (constant_outcome x)) h.4 ∙ fails-Bump h.0 h.1 h.2 h.3

-- ---- what is evaluated part by part

pub fails-Unary : (e of' of'' : Expr) (op : UnaryOp) (at : ℕ) → e ≡ Unary op of'' at → of' ≡ of'' → Fails (constant_outcome of') → Fails (constant_outcome e)
fails-Unary e of' of'' op at is p h =
    ap (λ x. has_result (constant_outcome x)) is ∙ ap (λ m. has_result (m.value no_calls nowhere)) (at-Unary Meaning expression_step op of'' at)
    ∙ fails_on (constant_outcome of'') (λ x. pure (operate_unary op x)) (ap (λ x. has_result (constant_outcome x)) (sym p) ∙ h)

pub comma_outcome : (e l r : Expr) (at : ℕ) (l' r' : Expr) → e ≡ Comma l r at → l' ≡ l → r' ≡ r → constant_outcome e ≡ and_then (constant_outcome l') (λ _. (expression r').value no_calls)
comma_outcome e l r at l' r' is p q =
    ap constant_outcome is ∙ ap (λ m. m.value no_calls nowhere) (at-Comma Meaning expression_step l r at)
    ∙ ap (λ x. and_then (constant_outcome x) (λ _. (expression r).value no_calls)) (sym p) ∙ ap (λ x. and_then (constant_outcome l') (λ _. (expression x).value no_calls)) (sym q)

abbrev pub chosen_outcome : Expr → Expr → Expr → Outcome Value
chosen_outcome t a b = choose (λ types. common ((expression a).is_unsigned types no_calls.is_unsigned) ((expression b).is_unsigned types no_calls.is_unsigned)) ((expression t).value no_calls) ((expression a).value no_calls) ((expression b).value no_calls) nowhere

pub choose_outcome : (e t a b : Expr) (at : ℕ) (t' a' b' : Expr) → e ≡ Choose t a b at → t' ≡ t → a' ≡ a → b' ≡ b → constant_outcome e ≡ chosen_outcome t' a' b'
choose_outcome e t a b at t' a' b' is p q r =
    ap constant_outcome is ∙ ap (λ m. m.value no_calls nowhere) (at-Choose Meaning expression_step t a b at)
    ∙ ap (λ x. chosen_outcome x a b) (sym p) ∙ ap (λ x. chosen_outcome t' x b) (sym q) ∙ ap (λ x. chosen_outcome t' a' x) (sym r)

-- the same of an outcome that is another
pub ok_of : (r : Result Value EvalEnd) (o p : Outcome Value) → o ≡ p → IfOk r (λ v. p ≡ Gives v nowhere) → IfOk r (λ v. o ≡ Gives v nowhere)
ok_of (Ok v) o p e h = e ∙ h
ok_of (Err end) o p e h = tt

pub err_of : (r : Result Value EvalEnd) (o p : Outcome Value) → o ≡ p → OnErr r (has_result p ≡ false) → OnErr r (has_result o ≡ false)
err_of (Ok v) o p e h = tt
err_of (Err end) o p e h = ap has_result e ∙ h

pub on_err : {P : Type 0} (r : Result Value EvalEnd) → P → OnErr r P
on_err (Ok v) h = tt
on_err (Err end) h = h
