-- How much work a run has left at most: each turn takes some of it. A loop that begins can have as many turns as there was fuel at the start;
-- what a call can cost at most is given for the present function.
use Rattle.std.specs.Prelude.{ℕ, zero, suc, ◌+◌, ◌*◌, ◌<◌, List, [], ◌∷◌, map, length, Option, None, Some}
use Rattle.c_syntax.specs.declared.tree.Expr.{Expr, fold-Expr}
use Rattle.c_syntax.specs.declared.tree.Expr.TheOpen.{Expr-F}
use Rattle.c_syntax.specs.declared.tree.Local.{Local}
use Rattle.c_syntax.specs.declared.tree.Clause.{Clause, fold-Clause}
use Rattle.c_syntax.specs.declared.tree.Stmt.{Stmt, fold-Stmt}
use Rattle.c_syntax.specs.declared.tree.Stmt.TheOpen.{Stmt-F, Clause-F}
use Rattle.c_syntax.specs.declared.tree.Function.{Function}
use Rattle.c_syntax.specs.declared.tree.TopItem.{TopItem}
use Rattle.c_syntax.specs.Sizes.{or_zero}
use Rattle.c_syntax.specs.Graph.{functions, body_of}
use Rattle.eval_parts.specs.declared.part.Loop.{Loop}
use Rattle.eval_parts.specs.declared.part.Loop.TheVariants as a_loop
use Rattle.eval_parts.specs.declared.part.Now.{Now}
use Rattle.eval_parts.specs.declared.part.Now.TheVariants as now
use Rattle.eval_parts.specs.declared.part.OnValue.{OnValue}
use Rattle.eval_parts.specs.declared.part.OnValue.TheVariants as on_value
use Rattle.eval_parts.specs.declared.part.OnPlace.{OnPlace}
use Rattle.eval_parts.specs.declared.part.OnPlace.TheVariants as on_place
use Rattle.eval_parts.specs.declared.part.OnFlow.{OnFlow}
use Rattle.eval_parts.specs.declared.part.OnFlow.TheVariants as on_flow
use Rattle.eval_parts.specs.declared.part.Frame.{Frame}
use Rattle.eval_parts.specs.declared.part.Frame.TheVariants as frame
use Rattle.eval_parts.specs.declared.part.Layer.{Layer}
use Rattle.eval_parts.specs.declared.part.Layer.TheVariants as layer
use Rattle.eval_parts.specs.declared.part.Next.{Next}

-- ---- expressions

-- arguments, and then the call
abbrev pub args_work : ℕ → List ℕ → ℕ
args_work call [] = call + 1
args_work call (n ∷ ns) = n + 3 + args_work call ns

abbrev pub expression_work_step : ℕ → Expr-F ℕ → ℕ
expression_work_step call (Expr-F.Literal word is_unsigned at) = 2
expression_work_step call (Expr-F.Name name at) = 2
expression_work_step call (Expr-F.Index name index at) = index + 4
expression_work_step call (Expr-F.Call name args at) = args_work call args
expression_work_step call (Expr-F.Unary op operand at) = operand + 2
expression_work_step call (Expr-F.Binary op left right at) = left + right + 4
expression_work_step call (Expr-F.Logic is_and left right at) = left + right + 4
expression_work_step call (Expr-F.Choose test a b at) = test + a + b + 4
expression_work_step call (Expr-F.Assign op place right at) = place + right + 4
expression_work_step call (Expr-F.Bump up before place at) = place + 2
expression_work_step call (Expr-F.Comma left right at) = left + right + 4
expression_work_step call (Expr-F.Paren inner at) = inner + 1

abbrev pub expression_work : ℕ → Expr → ℕ
expression_work call = fold-Expr ℕ (expression_work_step call)

-- ---- statements

-- statements in order
abbrev pub in_order_work : List ℕ → ℕ
in_order_work [] = 2
in_order_work (n ∷ ns) = n + 1 + in_order_work ns

abbrev pub local_work : ℕ → Local → ℕ
local_work call d = or_zero (expression_work call) d.first + 4

-- a turn of a loop, from the works of its test, of what is done after each turn, and of its body
abbrev pub round_work : ℕ → ℕ → ℕ → ℕ
round_work test next body = test + next + body + 9

-- at most so many turns
abbrev pub turns_work : ℕ → ℕ → ℕ
turns_work round zero = 1
turns_work round (suc left) = round + turns_work round left

-- a loop that begins
abbrev pub loop_work : ℕ → ℕ → ℕ
loop_work most round = turns_work round (suc most)

-- the statements of a clause, and its labels
pub record ClauseWork : Type 0 where
  pub labels : ℕ
  pub body : ℕ

abbrev pub clauses_work : List ClauseWork → ℕ
clauses_work [] = 2
clauses_work (c ∷ cs) = c.body + 1 + clauses_work cs

-- a search for a label, and then the clauses from there on
abbrev pub search_work : List ClauseWork → ℕ
search_work [] = 2
search_work (c ∷ cs) = c.labels + clauses_work (c ∷ cs) + search_work cs + 2

abbrev pub statement_work_step : ℕ → ℕ → Stmt-F ℕ ClauseWork → ℕ
statement_work_step most call Stmt-F.Empty = 2
statement_work_step most call (Stmt-F.Value e) = expression_work call e + 4
statement_work_step most call (Stmt-F.Declare locals) = in_order_work (map (local_work call) locals) + 1
statement_work_step most call (Stmt-F.Block body) = in_order_work body + 3
statement_work_step most call (Stmt-F.If test a b) = expression_work call test + a + or_zero (λ n. n) b + 6
statement_work_step most call (Stmt-F.While test body) = loop_work most (round_work (expression_work call test) 0 body) + 1
statement_work_step most call (Stmt-F.Do body test) = body + loop_work most (round_work (expression_work call test) 0 body) + 2
statement_work_step most call (Stmt-F.For first test next body) = first + loop_work most
    (round_work (or_zero (expression_work call) test) (or_zero (expression_work call) next) body) + 4
statement_work_step most call (Stmt-F.Switch test clauses) = expression_work call test + 2 * search_work clauses + 6
statement_work_step most call (Stmt-F.Break at) = 2
statement_work_step most call (Stmt-F.Continue at) = 2
statement_work_step most call (Stmt-F.Return e at) = or_zero (expression_work call) e + 4

abbrev pub clause_work_step : Clause-F ℕ ClauseWork → ClauseWork
clause_work_step c = record { labels = length c.labels; body = in_order_work c.body }

abbrev pub statement_work : ℕ → ℕ → Stmt → ℕ
statement_work most call = fold-Stmt ℕ ClauseWork (statement_work_step most call) clause_work_step

abbrev pub clause_work : ℕ → ℕ → Clause → ClauseWork
clause_work most call = fold-Clause ℕ ClauseWork (statement_work_step most call) clause_work_step

-- ---- functions

abbrev pub function_work : ℕ → ℕ → Function → ℕ
function_work most call f = in_order_work (map (statement_work most call) (body_of f.body))

-- all bodies together, one of which a call does
abbrev pub bodies_work : ℕ → ℕ → List Function → ℕ
bodies_work most call [] = 4
bodies_work most call (f ∷ fs) = function_work most call f + bodies_work most call fs

-- a call from a function in which at most so many more may be open
abbrev pub call_work : ℕ → List TopItem → ℕ → ℕ
call_work most items zero = 1
call_work most items (suc level) = bodies_work most (call_work most items level) (functions items) + 2

-- ---- a run that stands in the middle

abbrev pub round_of : ℕ → ℕ → Loop → ℕ
round_of most call (a_loop.While test body) = round_work (expression_work call test.now) 0 (statement_work most call body.now)
round_of most call (a_loop.For test next body) =
    round_work (or_zero (expression_work call) test.now) (or_zero (expression_work call) next.now) (statement_work most call body.now)

-- what is done after a turn, and the turns behind it
abbrev pub after_work : ℕ → Loop → ℕ
after_work call (a_loop.While test body) = 0
after_work call (a_loop.For test next body) = or_zero (expression_work call) next.now

abbrev pub body_work : ℕ → ℕ → Loop → ℕ
body_work most call (a_loop.While test body) = statement_work most call body.now
body_work most call (a_loop.For test next body) = statement_work most call body.now

abbrev pub searching : Option ℕ → ℕ → ℕ
searching None all = 0
searching (Some word) all = all + 1

abbrev pub now_work : ℕ → ℕ → List TopItem → Now → ℕ
now_work most call items (now.Expr e) = expression_work call e.now + 2
now_work most call items (now.Place e) = expression_work call e.now
now_work most call items (now.Fetch p) = 2
now_work most call items (now.Args name args vs) = args_work call (map (expression_work call) args.now)
now_work most call items (now.Call name args) = call
now_work most call items (now.Enter name args) = bodies_work most call (functions items)
now_work most call items (now.Function f args) = function_work most call f.now + 2
now_work most call items (now.Stmt c) = statement_work most call c.now
now_work most call items (now.Stmts cs) = in_order_work (map (statement_work most call) cs.now)
now_work most call items (now.Local d) = local_work call d.now
now_work most call items (now.Locals ds) = in_order_work (map (local_work call) ds.now)
now_work most call items (now.Clauses cs) = clauses_work (map (clause_work most call) cs.now)
now_work most call items (now.Search word left all) = search_work (map (clause_work most call) left.now) +
    searching word (search_work (map (clause_work most call) all.now))
now_work most call items (now.Labels word labels here left all) = length labels.now + clauses_work (map (clause_work most call) here.now) +
    search_work (map (clause_work most call) left.now) + 1 + searching word (search_work (map (clause_work most call) all.now))
now_work most call items (now.Block cs) = in_order_work (map (statement_work most call) cs.now) + 2
now_work most call items (now.For first l) = statement_work most call first.now + loop_work most (round_of most call l) + 3
now_work most call items (now.InFor first l) = statement_work most call first.now + loop_work most (round_of most call l) + 1
now_work most call items (now.Do test body) = statement_work most call body.now +
    loop_work most (round_work (expression_work call test.now) 0 (statement_work most call body.now)) + 1
now_work most call items (now.Loop l) = loop_work most (round_of most call l)
now_work most call items (now.Turns left l) = turns_work (round_of most call l) left
now_work most call items (now.Given g) = 1
now_work most call items (now.Over end) = 0

abbrev pub on_value_work : ℕ → ℕ → OnValue → ℕ
on_value_work most call (on_value.IndexOf name) = 1
on_value_work most call (on_value.Args name others vs) = args_work call (map (expression_work call) others.now)
on_value_work most call (on_value.Unary op) = 1
on_value_work most call (on_value.Right op right) = expression_work call right.now + 3
on_value_work most call (on_value.Operate op x) = 1
on_value_work most call (on_value.Logic is_and right) = expression_work call right.now + 3
on_value_work most call on_value.Tested = 1
on_value_work most call (on_value.Choose a b) = expression_work call a.now + expression_work call b.now + 3
on_value_work most call (on_value.Convert is_unsigned) = 1
on_value_work most call (on_value.Store p) = 1
on_value_work most call (on_value.StoreBy op p old) = 1
on_value_work most call (on_value.Second right) = expression_work call right.now + 2
on_value_work most call (on_value.EndActive before) = 1
on_value_work most call on_value.Discard = 1
on_value_work most call (on_value.Initialise name) = 1
on_value_work most call (on_value.If a b) = statement_work most call a.now + or_zero (statement_work most call) b.now + 1
on_value_work most call (on_value.Test left l) = body_work most call l + after_work call l + 5 + turns_work (round_of most call l) left
on_value_work most call (on_value.Next left l) = turns_work (round_of most call l) left
on_value_work most call (on_value.Switch cs) = 2 * search_work (map (clause_work most call) cs.now) + 3
on_value_work most call on_value.Return = 1

abbrev pub on_place_work : ℕ → OnPlace → ℕ
on_place_work call on_place.Fetch = 1
on_place_work call (on_place.Assign op right) = expression_work call right.now + 3
on_place_work call (on_place.Bump up before) = 1

abbrev pub on_flow_work : ℕ → ℕ → OnFlow → ℕ
on_flow_work most call (on_flow.Stmts cs) = in_order_work (map (statement_work most call) cs.now)
on_flow_work most call (on_flow.Locals ds) = in_order_work (map (local_work call) ds.now)
on_flow_work most call (on_flow.Clauses cs) = clauses_work (map (clause_work most call) cs.now)
on_flow_work most call on_flow.CloseScope = 1
on_flow_work most call (on_flow.Loop l) = loop_work most (round_of most call l)
on_flow_work most call (on_flow.AfterFirst test body) = loop_work most (round_work (expression_work call test.now) 0 (statement_work most call body.now))
on_flow_work most call (on_flow.AfterTurn left l) = after_work call l + 4 + turns_work (round_of most call l) left
on_flow_work most call on_flow.EndSwitch = 1
on_flow_work most call (on_flow.Leave scopes is_unsigned) = 1

abbrev pub frame_work : ℕ → ℕ → Frame → ℕ
frame_work most call (frame.OnValue f) = on_value_work most call f
frame_work most call (frame.OnPlace f) = on_place_work call f
frame_work most call (frame.OnFlow f) = on_flow_work most call f

abbrev pub waiting_work : ℕ → ℕ → Option Frame → ℕ
waiting_work most call None = 0
waiting_work most call (Some f) = frame_work most call f

abbrev pub next_work : ℕ → ℕ → List TopItem → Next → ℕ
next_work most call items next = now_work most call items next.now + waiting_work most call next.waiting

-- what comes next has less work than this, where at most so much fuel is left
abbrev pub Lighter : (ℕ → ℕ → List TopItem → ℕ) → Next → Type 0
Lighter work next = (most call : ℕ) (items : List TopItem) → next_work most call items next < work most call items

abbrev pub Falls : Now → Next → Type 0
Falls n = Lighter (λ most call items. now_work most call items n)

-- a frame is taken off with what it waited for
abbrev pub FallsFrom : Frame → Next → Type 0
FallsFrom f = Lighter (λ most call items. 1 + frame_work most call f)

-- what waits on the stack, the newest first
abbrev pub stack_work : ℕ → List TopItem → ℕ → List Layer → ℕ
stack_work most items level [] = 0
stack_work most items level (layer.Frame f ∷ layers) = frame_work most (call_work most items level) f + stack_work most items level layers
stack_work most items level (layer.Caller above ∷ layers) = 1 + stack_work most items above layers
