-- What each expression and each statement begins with.
use Rattle.std.proofs.Common.{◌≡◌, ℕ, zero, suc, Bool, true, false, List, [], ◌∷◌, ◌++◌, map, Option, Some, None, if◌then◌else◌, refl, sym, ap, ◌∙◌, subst, ◌-◌, arith}
use Rattle.std.specs.Borrow.{Bor}
use Rattle.c_meaning.specs.declared.run.Value.{Value}
use Rattle.c_meaning.specs.declared.run.Place.{Place}
use Rattle.c_meaning.specs.declared.run.Place.TheVariants.{Variable, Element}
use Rattle.c_syntax.specs.declared.tree.UnaryOp.{UnaryOp}
use Rattle.c_syntax.specs.declared.tree.BinaryOp.{BinaryOp}
use Rattle.c_syntax.specs.declared.tree.Expr.{Expr, Literal, Name, Index, Call, Unary, Binary, Logic, Choose, Assign, Bump, Comma, Paren}
use Rattle.c_syntax.specs.declared.tree.TopItem.{TopItem}
use Rattle.c_meaning.specs.Operators.{is_zero, converted, operate, operate_unary}
use Rattle.c_meaning.specs.Run.{State, Outcome, Gives, Ends, Run, and_then, pure, lift, types_now, ◌>>=◌}
use Rattle.c_meaning.specs.Meaning.{Meaning, expression, expression_step, Names, calls, indexed, fetch, store, assign_with}
use Rattle.eval_parts.specs.declared.part.Given.{Given}
use Rattle.eval_parts.specs.declared.part.Given.TheVariants as given
use Rattle.eval_parts.specs.declared.part.Now.{Now}
use Rattle.eval_parts.specs.declared.part.Now.TheVariants as now
use Rattle.eval_parts.specs.declared.part.OnValue.TheVariants as on_value
use Rattle.eval_parts.specs.declared.part.OnPlace.TheVariants as on_place
use Rattle.eval_parts.specs.declared.part.Frame.{Frame}
use Rattle.eval_parts.specs.declared.part.Frame.TheVariants as frame
use Rattle.eval_parts.specs.declared.part.Next.{Next}
use Rattle.eval_parts.specs.Parts.{start, follow, resumed, Begins, BeginsAs, one_of_turns, value_given, arms_type}
use Rattle.eval_parts.specs.declared.part.Loop.{Loop}
use Rattle.eval_parts.proofs.Folds.{at-Literal, at-Name, at-Index, at-Call, at-Unary, at-Binary, at-Logic, at-Choose, at-Assign, at-Bump, at-Comma, at-Paren}

-- a part with what follows it is the part with the frame that does what follows
pub grouped : {A B : Type 0} (g : A → Given) (h : B → Given) (o : Outcome A) (go : A → Run B) (f : Given → Run Given) → ((a : A) (s : State) → and_then (go a s) (λ b. pure (h b)) ≡ f (g a) s) → and_then (and_then o go) (λ b. pure (h b)) ≡ and_then (and_then o (λ a. pure (g a))) f
grouped g h (Gives a s) go f e = e a s
grouped g h (Ends end output) go f e = refl

pub begins_index : (e : Bor Expr) (name : ℕ) (index : Expr) (at : ℕ) (n : Next) → e.now ≡ Index name index at → n ≡ record { now = now.Place e; waiting = Some (frame.OnPlace on_place.Fetch) } → Begins (now.Expr e) n
begins_index e name index at n is that names items level s =
    rw (that, is, at-Index Meaning expression_step)
    (grouped {A = Place} {B = Value} given.Place given.Value (indexed name ((expression index).value (calls names items level)) s) fetch (resumed names items level (frame.OnPlace on_place.Fetch)) (λ a t. refl))

pub begins_unary : (e : Bor Expr) (op : UnaryOp) (x : Expr) (at : ℕ) (of : Bor Expr) (n : Next) → e.now ≡ Unary op x at → of.now ≡ x → n ≡ record { now = now.Expr of; waiting = Some (frame.OnValue (on_value.Unary op)) } → Begins (now.Expr e) n
begins_unary e op x at of n is a that names items level s =
    rw (that, is, at-Unary Meaning expression_step, ← a)
    (grouped {A = Value} {B = Value} given.Value given.Value ((expression of.now).value (calls names items level) s) (λ v. pure (operate_unary op v)) (resumed names items level (frame.OnValue (on_value.Unary op))) (λ v t. refl))

pub begins_choose : (e : Bor Expr) (x y z : Expr) (at : ℕ) (test second third : Bor Expr) (n : Next) → e.now ≡ Choose x y z at → test.now ≡ x → second.now ≡ y → third.now ≡ z → n ≡ record { now = now.Expr test; waiting = Some (frame.OnValue (on_value.Choose second third)) } → Begins (now.Expr e) n
begins_choose e x y z at test second third n is a b d that names items level s =
    let call = calls names items level in
    rw (that, is, at-Choose Meaning expression_step, ← a, ← b, ← d)
    (grouped {A = Value} {B = Value} given.Value given.Value ((expression test.now).value call s) (λ t. types_now >>= (λ types. (if is_zero t then (expression third.now).value call else (expression second.now).value call) >>= (λ v. pure (converted (arms_type call second.now third.now types) v)))) (resumed names items level (frame.OnValue (on_value.Choose second third))) (λ v t. refl))

assign_begins : (op : Option BinaryOp) (place right : Bor Expr) (names : Names) (items : List TopItem) (level : ℕ) (s : State) → value_given (assign_with op ((expression place.now).place (calls names items level)) ((expression right.now).value (calls names items level))) s ≡ follow names items level (record { now = now.Place place; waiting = Some (frame.OnPlace (on_place.Assign op right)) }) s
assign_begins None place right names items level s =
    let call = calls names items level in
    grouped {A = Place} {B = Value} given.Place given.Value ((expression place.now).place call s) (λ p. (expression right.now).value call >>= (λ v. store p v.word)) (resumed names items level (frame.OnPlace (on_place.Assign None right))) (λ p t. refl)
assign_begins (Some op) place right names items level s =
    let call = calls names items level in
    grouped {A = Place} {B = Value} given.Place given.Value ((expression place.now).place call s) (λ p. fetch p >>= (λ old. (expression right.now).value call >>= (λ v. lift (operate op old v) >>= (λ new. store p new.word)))) (resumed names items level (frame.OnPlace (on_place.Assign (Some op) right))) (λ p t. refl)

pub begins_assign : (e : Bor Expr) (op : Option BinaryOp) (x y : Expr) (at : ℕ) (place right : Bor Expr) (n : Next) → e.now ≡ Assign op x y at → place.now ≡ x → right.now ≡ y → n ≡ record { now = now.Place place; waiting = Some (frame.OnPlace (on_place.Assign op right)) } → Begins (now.Expr e) n
begins_assign e op x y at place right n is a b that names items level s =
    rw (that, is, at-Assign Meaning expression_step, ← a, ← b) (assign_begins op place right names items level s)

-- the turns of a loop, where there is one more
pub begins_turns : (left : ℕ) (l : Loop) (n : Next) → (left ≡ 0 → ⊥) → BeginsAs (one_of_turns (left - 1) l) n → Begins (now.Turns left l) n
begins_turns zero l n some b = absurd (some refl)
begins_turns (suc left) l n some b = subst (λ k. BeginsAs (one_of_turns k l) n) (omega arith) b

-- a compound assignment, once the place and the value that it holds are known
pub assigns_by : (operator : Option BinaryOp) (op : BinaryOp) (right : Bor Expr) (p : Place) (old : Value) (s : State) (n : Next) → operator ≡ Some op → fetch p s ≡ Gives old s → n ≡ record { now = now.Expr right; waiting = Some (frame.OnValue (on_value.StoreBy op p old)) } → (names : Names) (items : List TopItem) (level : ℕ) → resumed names items level (frame.OnPlace (on_place.Assign operator right)) (given.Place p) s ≡ follow names items level n s
assigns_by operator op right p old s n some is that names items level =
    rw (some, that, is)
    (grouped {A = Value} {B = Value} given.Value given.Value ((expression right.now).value (calls names items level) s) (λ v. lift (operate op old v) >>= (λ new. store p new.word)) (resumed names items level (frame.OnValue (on_value.StoreBy op p old))) (λ v t. refl))
