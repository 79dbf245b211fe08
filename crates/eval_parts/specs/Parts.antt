-- What the parts of a run do, and what waits for them.
use Rattle.std.specs.Prelude.{◌≡◌, ℕ, zero, suc, Bool, true, false, not, List, [], ◌∷◌, ◌++◌, map, option_map, Option, Some, None, if◌then◌else◌}
use Rattle.std.specs.List.{list_any}
use Rattle.std.specs.Borrow.{Bor}
use Rattle.c_meaning.specs.declared.run.Value.{Value}
use Rattle.c_meaning.specs.declared.run.Place.{Place}
use Rattle.c_meaning.specs.declared.run.Place.TheVariants.{Element}
use Rattle.c_meaning.specs.declared.run.Flow.{Flow}
use Rattle.c_meaning.specs.declared.run.Flow.TheVariants.{Normal, Breaks, Continues, Returns}
use Rattle.c_meaning.specs.declared.run.EvalEnd.{EvalEnd}
use Rattle.c_meaning.specs.declared.run.EvalEnd.TheVariants.{Starved, Exited}
use Rattle.c_syntax.specs.declared.tree.Expr.{Expr}
use Rattle.c_syntax.specs.declared.tree.Stmt.{Stmt}
use Rattle.c_syntax.specs.declared.tree.TopItem.{TopItem}
use Rattle.c_meaning.specs.Operators.{is_unsigned_type, converted, truth, is_zero, common, operate, operate_unary, bumped}
use Rattle.c_meaning.specs.Run.{State, Outcome, Gives, Ends, Run, and_then, ◌>>=◌, ◌>>◌, pure, stop, lift, meaningless, types_now, counted, designated}
use Rattle.c_meaning.specs.Run.{object_type, check_index, write, close_scope, close_call, end_active, spend}
use Rattle.c_meaning.specs.Meaning.{Calls, fetch, store, values, tested, Statement, expression, statement, clause, declare, in_order, in_scope, value_if}
use Rattle.c_meaning.specs.Meaning.{test_or_true, next_or_nothing, loop, turns, do_loop, for_loop, after_body, if_normal, or_nothing, chosen, after_switch}
use Rattle.c_meaning.specs.Meaning.{Labelled, from_label, or_those, is_label, label_word, call_result, in_body, Names, call_at, calls, CRan, bump, assign_with}
use Rattle.c_meaning.specs.Meaning.{returned, returns_unsigned, call_in_word}
use Rattle.c_syntax.specs.Graph.{function_named}
use Rattle.eval_parts.specs.declared.part.Given.{Given}
use Rattle.eval_parts.specs.declared.part.Given.TheVariants as given
use Rattle.eval_parts.specs.declared.part.Loop.{Loop}
use Rattle.eval_parts.specs.declared.part.Loop.TheVariants as a_loop
use Rattle.eval_parts.specs.declared.part.Now.{Now}
use Rattle.eval_parts.specs.declared.part.Now.TheVariants as now
use Rattle.eval_parts.specs.declared.part.OnValue.{OnValue}
use Rattle.eval_parts.specs.declared.part.OnValue.TheVariants as on_value
use Rattle.eval_parts.specs.declared.part.OnPlace.{OnPlace}
use Rattle.eval_parts.specs.declared.part.OnPlace.TheVariants as on_place
use Rattle.eval_parts.specs.declared.part.OnFlow.{OnFlow}
use Rattle.eval_parts.specs.declared.part.OnFlow.TheVariants as on_flow
use Rattle.eval_parts.specs.declared.part.Frame.{Frame}
use Rattle.eval_parts.specs.declared.part.Frame.TheVariants as frame
use Rattle.eval_parts.specs.declared.part.Next.{Next}
use Rattle.c_syntax.specs.declared.tree.Function.{Function}
use Rattle.c_syntax.specs.declared.tree.Clause.{Clause}
use Rattle.eval_state.specs.State.{Held, state}

-- ---- what begins

abbrev pub value_given : Run Value → Run Given
value_given m = m >>= (λ v. pure (given.Value v))

abbrev pub place_given : Run Place → Run Given
place_given m = m >>= (λ p. pure (given.Place p))

abbrev pub flow_given : Run Flow → Run Given
flow_given m = m >>= (λ f. pure (given.Flow f))

-- the test, the end and the body of a loop
abbrev pub test_of : Calls → Loop → Run Value
test_of call (a_loop.While test body) = (expression test.now).value call
test_of call (a_loop.For test next body) = test_or_true (value_if call test.now)

abbrev pub next_of : Calls → Loop → Run (Unit {0})
next_of call (a_loop.While test body) = pure tt
next_of call (a_loop.For test next body) = next_or_nothing (value_if call next.now)

abbrev pub body_is : Loop → Stmt
body_is (a_loop.While test body) = body.now
body_is (a_loop.For test next body) = body.now

abbrev pub body_of : Calls → Loop → Run Flow
body_of call l = statement (body_is l) call

-- at most so many turns of a loop
abbrev pub turns_of : Calls → ℕ → Loop → Run Flow
turns_of call n l = turns n (test_of call l) (next_of call l) (body_of call l)

abbrev pub loop_of : Calls → Loop → Run Flow
loop_of call l = loop (test_of call l) (next_of call l) (body_of call l)

-- statements in order
abbrev pub all_of : Calls → List Stmt → Run Flow
all_of call cs = in_order (map (λ c. c call) (map statement cs))

-- the clauses that are found, else those from `default` on where a `case` was sought
abbrev pub or_default : Option ℕ → List Labelled → List Clause → List Labelled
or_default None found all = found
or_default (Some word) found all = or_those found (from_label None (map clause all))

-- the statements of clauses in order
abbrev pub bodies : Calls → List Labelled → Run Flow
bodies call cs = in_order (map (λ c. c.body call) cs)

-- what a part that begins does, where at most `level` more calls may be open
abbrev pub start : Names → List TopItem → ℕ → Now → Run Given
start names items level (now.Expr e) = value_given ((expression e.now).value (calls names items level))
start names items level (now.Place e) = place_given ((expression e.now).place (calls names items level))
start names items level (now.Fetch p) = value_given (fetch p)
start names items level (now.Args name args vs) =
    value_given (values (map (λ e. e.value (calls names items level)) (map expression args.now)) >>= (λ ws. call_at names items level name (vs ++ ws)))
start names items level (now.Call name args) = value_given (call_at names items level name args)
start names items level (now.Enter name args) = value_given (call_at names items (suc level) name args)
start names items level (now.Function f args) = value_given (spend >> in_body (calls names items level) f.now args)
start names items level (now.Stmt c) = flow_given (statement c.now (calls names items level))
start names items level (now.Stmts cs) = flow_given (all_of (calls names items level) cs.now)
start names items level (now.Local d) = flow_given (declare (calls names items level) d.now)
start names items level (now.Locals ds) = flow_given (in_order (map (declare (calls names items level)) ds.now))
start names items level (now.Clauses cs) = flow_given (in_order (map (λ c. c.body (calls names items level)) (map clause cs.now)))
start names items level (now.Search word left all) =
    flow_given (bodies (calls names items level) (or_default word (from_label word (map clause left.now)) all.now))
start names items level (now.Labels word labels here left all) = flow_given (bodies (calls names items level)
    (if list_any (is_label word) (map label_word labels.now) then map clause here.now else or_default word (from_label word (map clause left.now)) all.now))
start names items level (now.Block cs) = flow_given (in_scope (all_of (calls names items level) cs.now))
start names items level (now.For first l) = let call = calls names items level in
    flow_given (in_scope (for_loop (statement first.now call) (test_of call l) (next_of call l) (body_of call l)))
start names items level (now.InFor first l) = let call = calls names items level in
    flow_given (for_loop (statement first.now call) (test_of call l) (next_of call l) (body_of call l))
start names items level (now.Do test body) = let call = calls names items level in
    flow_given (do_loop ((expression test.now).value call) (statement body.now call))
start names items level (now.Loop l) = flow_given (loop_of (calls names items level) l)
start names items level (now.Turns left l) = flow_given (turns_of (calls names items level) left l)
start names items level (now.Given g) = pure g
start names items level (now.Over end) = stop end

-- ---- what waits

-- the type of the second and third operand of `?:`
abbrev pub arms_type : Calls → Expr → Expr → (ℕ → Bool) → Bool
arms_type call a b types = common ((expression a).is_unsigned types call.is_unsigned) ((expression b).is_unsigned types call.is_unsigned)

abbrev pub with_value : Names → List TopItem → ℕ → OnValue → Value → Run Given
with_value names items level (on_value.IndexOf name) i = place_given (check_index name i.word >> pure (Element name i.word))
with_value names items level (on_value.Args name others vs) v = value_given (values
    (map (λ e. e.value (calls names items level)) (map expression others.now)) >>= (λ ws. call_at names items level name (vs ++ v ∷ ws)))
with_value names items level (on_value.Unary op) x = value_given (pure (operate_unary op x))
with_value names items level (on_value.Right op right) x = value_given ((expression right.now).value (calls names items level) >>= (λ y. lift (operate op x y)))
with_value names items level (on_value.Operate op x) y = value_given (lift (operate op x y))
with_value names items level (on_value.Logic true right) x =
    value_given (if is_zero x then pure (truth false) else tested ((expression right.now).value (calls names items level)))
with_value names items level (on_value.Logic false right) x =
    value_given (if is_zero x then tested ((expression right.now).value (calls names items level)) else pure (truth true))
with_value names items level on_value.Tested x = value_given (pure (truth (not (is_zero x))))
with_value names items level (on_value.Choose a b) t = let call = calls names items level in
    value_given (types_now >>= (λ types. (if is_zero t then (expression b.now).value call else (expression a.now).value call) >>=
    (λ v. pure (converted (arms_type call a.now b.now types) v))))
with_value names items level (on_value.Convert is_unsigned) v = value_given (pure (converted is_unsigned v))
with_value names items level (on_value.Store p) v = value_given (store p v.word)
with_value names items level (on_value.StoreBy op p old) v = value_given (lift (operate op old v) >>= (λ new. store p new.word))
with_value names items level (on_value.Second right) v = value_given ((expression right.now).value (calls names items level))
with_value names items level (on_value.EndActive before) v = value_given (end_active before.count >> pure v)
with_value names items level on_value.Discard v = flow_given (pure Normal)
with_value names items level (on_value.Initialise name) v = flow_given (write name v.word >> pure Normal)
with_value names items level (on_value.If a b) t =
    flow_given (if is_zero t then or_nothing (option_map statement b.now) (calls names items level) else statement a.now (calls names items level))
with_value names items level (on_value.Test left l) t = let call = calls names items level in
    flow_given (if is_zero t then pure Normal else (spend >> (body_of call l >>= (λ flow. after_body flow (next_of call l >> turns_of call left l)))))
with_value names items level (on_value.Next left l) v = flow_given (turns_of (calls names items level) left l)
with_value names items level (on_value.Switch cs) v =
    flow_given (in_order (map (λ c. c.body (calls names items level)) (chosen v.word (map clause cs.now))) >>= (λ flow. pure (after_switch flow)))
with_value names items level on_value.Return v = flow_given (pure (Returns v))

abbrev pub with_place : Names → List TopItem → ℕ → OnPlace → Place → Run Given
with_place names items level on_place.Fetch p = value_given (fetch p)
with_place names items level (on_place.Assign op right) p = value_given (assign_with op (pure p) ((expression right.now).value (calls names items level)))
with_place names items level (on_place.Bump up before) p = value_given (bump up before (pure p))

abbrev pub with_flow : Names → List TopItem → ℕ → OnFlow → Flow → Run Given
with_flow names items level (on_flow.Stmts cs) flow = flow_given (if_normal flow (all_of (calls names items level) cs.now))
with_flow names items level (on_flow.Locals ds) flow = flow_given (if_normal flow (in_order (map (declare (calls names items level)) ds.now)))
with_flow names items level (on_flow.Clauses cs) flow = flow_given (if_normal flow (in_order (map (λ c. c.body (calls names items level)) (map clause cs.now))))
with_flow names items level on_flow.CloseScope flow = flow_given (close_scope >> pure flow)
with_flow names items level (on_flow.Loop l) flow = flow_given (if_normal flow (loop_of (calls names items level) l))
with_flow names items level (on_flow.AfterFirst test body) flow = let call = calls names items level in
    flow_given (after_body flow (loop ((expression test.now).value call) (pure tt) (statement body.now call)))
with_flow names items level (on_flow.AfterTurn left l) flow = let call = calls names items level in
    flow_given (after_body flow (next_of call l >> turns_of call left l))
with_flow names items level on_flow.EndSwitch flow = flow_given (pure (after_switch flow))
with_flow names items level (on_flow.Leave scopes is_unsigned) flow = value_given (close_call scopes >> pure (call_result is_unsigned flow))

-- a frame that is given what it waits for; anything else can't come, and ends the run
abbrev pub resumed : Names → List TopItem → ℕ → Frame → Given → Run Given
resumed names items level (frame.OnValue f) (given.Value v) = with_value names items level f v
resumed names items level (frame.OnValue f) (given.Place p) = meaningless
resumed names items level (frame.OnValue f) (given.Flow flow) = meaningless
resumed names items level (frame.OnPlace f) (given.Value v) = meaningless
resumed names items level (frame.OnPlace f) (given.Place p) = with_place names items level f p
resumed names items level (frame.OnPlace f) (given.Flow flow) = meaningless
resumed names items level (frame.OnFlow f) (given.Value v) = meaningless
resumed names items level (frame.OnFlow f) (given.Place p) = meaningless
resumed names items level (frame.OnFlow f) (given.Flow flow) = with_flow names items level f flow

-- ---- one piece of work

abbrev pub waiting_on : Names → List TopItem → ℕ → Option Frame → Run Given → Run Given
waiting_on names items level None part = part
waiting_on names items level (Some f) part = part >>= resumed names items level f

abbrev pub follow : Names → List TopItem → ℕ → Next → Run Given
follow names items level next = waiting_on names items level next.waiting (start names items level next.now)

-- what a part does is what comes next, in every state
abbrev pub BeginsAs : (Names → List TopItem → ℕ → Run Given) → Next → Type 0
BeginsAs part next = (names : Names) (items : List TopItem) (level : ℕ) (s : State) → part names items level s ≡ follow names items level next s

abbrev pub Begins : Now → Next → Type 0
Begins n = BeginsAs (λ names items level. start names items level n)

-- a frame is taken off with what it waited for
abbrev pub Resumes : Frame → Given → Next → Type 0
Resumes f g = BeginsAs (λ names items level. resumed names items level f g)

-- `return`
abbrev pub returning : Option Expr → Names → List TopItem → ℕ → Run Given
returning e names items level = flow_given (returned (value_if (calls names items level) e))

-- one turn of a loop, where at most so many follow
abbrev pub one_of_turns : ℕ → Loop → Names → List TopItem → ℕ → Run Given
one_of_turns left l names items level = flow_given (turns_of (calls names items level) (suc left) l)

-- what a part does in the state before is what comes next in the state after
abbrev pub Does : (Names → List TopItem → ℕ → Run Given) → Held → Next → Held → Type 0
Does part before next after = (names : Names) (items : List TopItem) (level : ℕ) →
    part names items level (state before) ≡ follow names items level next (state after)

abbrev pub Works : Now → Held → Next → Held → Type 0
Works n = Does (λ names items level. start names items level n)

abbrev pub Takes : Frame → Given → Held → Next → Held → Type 0
Takes f g = Does (λ names items level. resumed names items level f g)

-- the parts that a frame does in more than one step
abbrev pub storing : Place → ℕ → Names → List TopItem → ℕ → Run Given
storing p word names items level = value_given (store p word)

-- in one program
abbrev pub DoesIn : List TopItem → (Names → ℕ → Run Given) → Held → Next → Held → Type 0
DoesIn items part before next after = (names : Names) (level : ℕ) → part names level (state before) ≡ follow names items level next (state after)

abbrev pub TakesIn : List TopItem → Frame → Given → Held → Next → Held → Type 0
TakesIn items f g = DoesIn items (λ names level. resumed names items level f g)

-- what comes after a flow, where the part before ended normally
abbrev pub if_normal_now : Flow → Now → Now
if_normal_now Normal next = next
if_normal_now Breaks next = now.Given (given.Flow Breaks)
if_normal_now Continues next = now.Given (given.Flow Continues)
if_normal_now (Returns v) next = now.Given (given.Flow (Returns v))

-- the type of an expression, where the variables in force are these
abbrev pub type_now : List TopItem → State → Expr → Bool
type_now items s e = (expression e).is_unsigned (λ name. object_type (designated name s)) (λ f. returns_unsigned (function_named f items))

-- a call of a function with a body, counted as active where it is recursive
abbrev pub counting : Bool → Function → List Value → Names → List TopItem → ℕ → Run Given
counting recursive f args names items level = value_given (counted recursive (spend >> in_body (calls names items level) f args))

-- a call of `in_word`
abbrev pub input_word : Names → List TopItem → ℕ → Run Given
input_word names items level = value_given call_in_word

-- the called function, in a program with these names
abbrev pub Enters : Names → List TopItem → ℕ → List Value → Held → Next → Held → Type 0
Enters names items name args before next after = (level : ℕ) → start names items level (now.Enter name args) (state before) ≡
    follow names items level next (state after)

-- the end of a run whose last part gives this
abbrev pub exit_of : Given → EvalEnd
exit_of (given.Value v) = Exited v.word
exit_of (given.Place p) = Starved
exit_of (given.Flow flow) = Starved
