-- What the expressions, the statements and the whole programs of the C subset mean, by ISO/IEC 9899:1999. Where the standard leaves the
-- order of evaluation open, operands, arguments and initialisers are evaluated from left to right.
use Rattle.std.specs.Prelude.{ℕ, zero, suc, Bool, true, false, not, if◌then◌else◌, ◌==◌, List, [], ◌∷◌, ◌++◌, map, flat_map, length, Option, Some, None}
use Rattle.std.specs.List.{list_any}
use Rattle.c_syntax.specs.declared.tree.BinaryOp.{BinaryOp}
use Rattle.c_syntax.specs.declared.tree.Expr.{Expr, fold-Expr}
use Rattle.c_syntax.specs.declared.tree.Expr.TheOpen.{Expr-F}
use Rattle.c_syntax.specs.declared.tree.Local.{Local}
use Rattle.c_syntax.specs.declared.tree.Label.{Label}
use Rattle.c_syntax.specs.declared.tree.Label.TheVariants as label
use Rattle.c_syntax.specs.declared.tree.Clause.{Clause, fold-Clause}
use Rattle.c_syntax.specs.declared.tree.Stmt.{Stmt, fold-Stmt}
use Rattle.c_syntax.specs.declared.tree.Stmt.TheOpen.{Stmt-F, Clause-F}
use Rattle.c_syntax.specs.declared.tree.Shape.{Shape}
use Rattle.c_syntax.specs.declared.tree.Shape.TheVariants as shape
use Rattle.c_syntax.specs.declared.tree.GlobalVar.{GlobalVar}
use Rattle.c_syntax.specs.declared.tree.Param.{Param}
use Rattle.c_syntax.specs.declared.tree.Function.{Function}
use Rattle.c_syntax.specs.declared.tree.TopItem.{TopItem}
use Rattle.c_syntax.specs.declared.tree.TopItem.TheVariants as item
use Rattle.c_syntax.specs.declared.tree.Program.{Program}
use Rattle.c_meaning.specs.declared.run.Value.{Value}
use Rattle.c_meaning.specs.declared.run.Place.{Place}
use Rattle.c_meaning.specs.declared.run.Place.TheVariants.{Variable, Element}
use Rattle.c_meaning.specs.declared.run.Flow.{Flow}
use Rattle.c_meaning.specs.declared.run.Flow.TheVariants.{Normal, Breaks, Continues, Returns}
use Rattle.c_meaning.specs.declared.run.EvalEnd.{EvalEnd}
use Rattle.c_meaning.specs.declared.run.EvalEnd.TheVariants.{Exited, Going}
use Rattle.c_meaning.specs.Operators.{value, is_unsigned_type, converted, truth, is_zero, common, binary_type, operate, unary_type, operate_unary, bumped}
use Rattle.c_meaning.specs.Run.{Entry, Object, Scalar, Array, Global, State, Outcome, Gives, Ends, Run, ◌>>=◌, ◌>>◌, pure, stop, lift, meaningless, types_now}
use Rattle.c_meaning.specs.Run.{read, read_element, check_index, write, write_element, enter, open_scope, close_scope, open_call, close_call, counted, spend}
use Rattle.c_meaning.specs.Run.{put_out, take_in}
use Rattle.c_syntax.specs.Graph.{function_named, body_of, is_recursive}

-- ---- expressions (6.5)

-- the functions that a call can name: whether each returns unsigned, and what a call of it with these arguments does
pub record Calls : Type 0 where
  pub is_unsigned : ℕ → Bool
  pub call : ℕ → List Value → Run Value

-- an expression means its type, which the types of the variables and the functions decide; its value; and its place, where it has one
pub record Meaning : Type 0 where
  pub is_unsigned : (ℕ → Bool) → (ℕ → Bool) → Bool
  pub value : Calls → Run Value
  pub place : Calls → Run Place

-- the value that a place holds
abbrev pub fetch : Place → Run Value
fetch (Variable name) = read name
fetch (Element name index) = read_element name index

abbrev pub put_at : Place → ℕ → Run (Unit {0})
put_at (Variable name) word = write name word
put_at (Element name index) word = write_element name index word

-- 6.5.16: stores a word; the value of an assignment is that of its place after it, the word stored at the place's type
abbrev pub store : Place → ℕ → Run Value
store p word = do
  old ← fetch p
  put_at p word
  pure (value word old.is_unsigned)

-- 6.5.2.1: the index is evaluated and then tested
abbrev pub indexed : ℕ → Run Value → Run Place
indexed name index = do
  i ← index
  check_index name i.word
  pure (Element name i.word)

-- the values of a list, from left to right
abbrev pub values : List (Run Value) → Run (List Value)
values [] = pure []
values (e ∷ es) = do
  v ← e
  vs ← values es
  pure (v ∷ vs)

-- 6.5.2.2: the arguments are evaluated, and then the function is called
abbrev pub called : Calls → ℕ → List (Run Value) → Run Value
called functions name args = values args >>= functions.call name

-- 6.5.5 to 6.5.12: the left operand, the right operand, the operation
abbrev pub binary : BinaryOp → Run Value → Run Value → Run Value
binary op left right = do
  x ← left
  y ← right
  lift (operate op x y)

-- whether a value compares unequal to 0
abbrev pub tested : Run Value → Run Value
tested e = do
  x ← e
  pure (truth (not (is_zero x)))

-- 6.5.13: `&&` evaluates its right operand only where the left one compares unequal to 0; 6.5.14: `||` only where it compares equal
abbrev pub logic : Bool → Run Value → Run Value → Run Value
logic true left right = do
  x ← left
  if is_zero x then pure (truth false) else tested right
logic false left right = do
  x ← left
  if is_zero x then tested right else pure (truth true)

-- 6.5.15: one of the two arms is evaluated, and its value converted to their common type
abbrev pub choose : ((ℕ → Bool) → Bool) → Run Value → Run Value → Run Value → Run Value
choose is_unsigned test a b = do
  t ← test
  types ← types_now
  v ← if is_zero t then b else a
  pure (converted (is_unsigned types) v)

-- 6.5.16.1: the place, the right operand, the store
abbrev pub assign : Run Place → Run Value → Run Value
assign place right = do
  p ← place
  v ← right
  store p v.word

-- 6.5.16.2: the place, the value that it holds, the right operand, the operation, the store
abbrev pub assign_by : BinaryOp → Run Place → Run Value → Run Value
assign_by op place right = do
  p ← place
  old ← fetch p
  v ← right
  new ← lift (operate op old v)
  store p new.word

abbrev pub assign_with : Option BinaryOp → Run Place → Run Value → Run Value
assign_with None place right = assign place right
assign_with (Some op) place right = assign_by op place right

-- 6.5.3.1: `++` and `--` before their operand give the new value; 6.5.2.4: after it the old one
abbrev pub bump : Bool → Bool → Run Place → Run Value
bump up before place = do
  p ← place
  old ← fetch p
  new ← store p (bumped up old.word)
  pure (if before then new else old)

-- no place
abbrev pub no_place : Calls → Run Place
no_place functions = meaningless

-- one level of an expression, with the meaning of each operand in its place
abbrev pub expression_step : Expr-F Meaning → Meaning
-- 6.4.4.1
expression_step (Expr-F.Literal word is_unsigned at) = record {
  is_unsigned = λ types functions. is_unsigned;
  value = λ functions. pure (value word is_unsigned);
  place = no_place;
}
-- 6.5.1
expression_step (Expr-F.Name name at) = record {
  is_unsigned = λ types functions. types name;
  value = λ functions. read name;
  place = λ functions. pure (Variable name);
}
-- 6.5.2.1
expression_step (Expr-F.Index name index at) = record {
  is_unsigned = λ types functions. types name;
  value = λ functions. indexed name (index.value functions) >>= fetch;
  place = λ functions. indexed name (index.value functions);
}
-- 6.5.2.2
expression_step (Expr-F.Call name args at) = record {
  is_unsigned = λ types functions. functions name;
  value = λ functions. called functions name (map (λ e. e.value functions) args);
  place = no_place;
}
-- 6.5.3.3
expression_step (Expr-F.Unary op operand at) = record {
  is_unsigned = λ types functions. unary_type op (operand.is_unsigned types functions);
  value = λ functions. operand.value functions >>= (λ x. pure (operate_unary op x));
  place = no_place;
}
-- 6.5.5 to 6.5.12
expression_step (Expr-F.Binary op left right at) = record {
  is_unsigned = λ types functions. binary_type op (left.is_unsigned types functions) (right.is_unsigned types functions);
  value = λ functions. binary op (left.value functions) (right.value functions);
  place = no_place;
}
-- 6.5.13, 6.5.14
expression_step (Expr-F.Logic is_and left right at) = record {
  is_unsigned = λ types functions. false;
  value = λ functions. logic is_and (left.value functions) (right.value functions);
  place = no_place;
}
-- 6.5.15
expression_step (Expr-F.Choose test a b at) = record {
  is_unsigned = λ types functions. common (a.is_unsigned types functions) (b.is_unsigned types functions);
  value = λ functions. choose (λ types. common (a.is_unsigned types functions.is_unsigned) (b.is_unsigned types functions.is_unsigned)) (test.value functions)
      (a.value functions) (b.value functions);
  place = no_place;
}
-- 6.5.16: the type is that of the place
expression_step (Expr-F.Assign op place right at) = record {
  is_unsigned = λ types functions. place.is_unsigned types functions;
  value = λ functions. assign_with op (place.place functions) (right.value functions);
  place = no_place;
}
-- 6.5.2.4, 6.5.3.1
expression_step (Expr-F.Bump up before place at) = record {
  is_unsigned = λ types functions. place.is_unsigned types functions;
  value = λ functions. bump up before (place.place functions);
  place = no_place;
}
-- 6.5.17
expression_step (Expr-F.Comma left right at) = record {
  is_unsigned = λ types functions. right.is_unsigned types functions;
  value = λ functions. left.value functions >> right.value functions;
  place = no_place;
}
-- 6.5.1: parentheses change neither the type nor the value, and what is a place stays one
expression_step (Expr-F.Paren inner at) = inner

abbrev pub expression : Expr → Meaning
expression = fold-Expr Meaning expression_step

-- ---- constant expressions (6.6)

-- no function can be called
abbrev pub no_calls : Calls
no_calls = record { is_unsigned = λ name. false; call = λ name args. meaningless }

abbrev pub word_or_zero : Outcome Value → ℕ
word_or_zero (Gives v s) = v.word
word_or_zero (Ends end output) = 0

-- 6.6: the word of a constant expression, in which no variable and no function has a meaning
abbrev pub constant : Expr → ℕ
constant e = word_or_zero ((expression e).value no_calls (record { globals = []; scopes = []; input = []; output = []; fuel = 0; active = 0 }))

-- ---- statements (6.8)

-- what a statement does
abbrev pub Statement : Type 0
Statement = Calls → Run Flow

-- the next statement, where the one before ended normally
abbrev pub if_normal : Flow → Run Flow → Run Flow
if_normal Normal next = next
if_normal Breaks next = pure Breaks
if_normal Continues next = pure Continues
if_normal (Returns v) next = pure (Returns v)

-- 6.8.2: one after another
abbrev pub in_order : List (Run Flow) → Run Flow
in_order [] = pure Normal
in_order (c ∷ cs) = do
  flow ← c
  if_normal flow (in_order cs)

-- 6.8.2, 6.8.5.3: a part with a scope of its own
abbrev pub in_scope : Run Flow → Run Flow
in_scope part = do
  open_scope
  flow ← part
  close_scope
  pure flow

-- an expression that may be left out
abbrev pub value_if : Calls → Option Expr → Option (Run Value)
value_if functions None = None
value_if functions (Some e) = Some ((expression e).value functions)

-- 6.7.8: the initialiser, if there is one, is evaluated and stored as by an assignment
abbrev pub initialise : ℕ → Option (Run Value) → Run (Unit {0})
initialise name None = pure tt
initialise name (Some first) = do
  v ← first
  write name v.word
  pure tt

-- 6.7: a declarator first enters its name with 0, so that the name is in force in its own initialiser
abbrev pub declare : Calls → Local → Run Flow
declare functions d = do
  enter d.name (value 0 (is_unsigned_type d.ty))
  initialise d.name (value_if functions d.first)
  pure Normal

-- 6.8.4.1: the substatement after `else`, if there is one
abbrev pub or_nothing : Option Statement → Calls → Run Flow
or_nothing None functions = pure Normal
or_nothing (Some c) functions = c functions

-- after a loop's body: `break` ends the loop (6.8.6.3), after the end of the body and after `continue` it goes on (6.8.6.2)
abbrev pub after_body : Flow → Run Flow → Run Flow
after_body Normal again = again
after_body Continues again = again
after_body Breaks again = pure Normal
after_body (Returns v) again = pure (Returns v)

-- the turns of a loop, of which there are fewer than n: where the test compares unequal to 0 one is spent, and the body and then `next`
-- are done
abbrev pub turns : ℕ → Run Value → Run (Unit {0}) → Run Flow → Run Flow
turns zero test next body = stop Going
turns (suc n) test next body = do
  t ← test
  if is_zero t then pure Normal else (do
    spend
    flow ← body
    after_body flow (next >> turns n test next body))

-- 6.8.5: each turn spends one, so there are at most as many as there is fuel
abbrev pub loop : Run Value → Run (Unit {0}) → Run Flow → Run Flow
loop test next body = λ s. turns (suc s.fuel) test next body s

-- 6.8.5.2: the body is done once before the first test, and from there on as by `while`; this turn spends one too
abbrev pub do_loop : Run Value → Run Flow → Run Flow
do_loop test body = do
  spend
  flow ← body
  after_body flow (loop test (pure tt) body)

-- 6.8.5.3: a test that is left out compares unequal to 0
abbrev pub test_or_true : Option (Run Value) → Run Value
test_or_true None = pure (truth true)
test_or_true (Some test) = test

-- 6.8.5.3: the value of what is done after each turn is dropped
abbrev pub next_or_nothing : Option (Run Value) → Run (Unit {0})
next_or_nothing None = pure tt
next_or_nothing (Some next) = next >> pure tt

-- 6.8.5.3: the first clause, and then the loop
abbrev pub for_loop : Run Flow → Run Value → Run (Unit {0}) → Run Flow → Run Flow
for_loop first test next body = do
  flow ← first
  if_normal flow (loop test next body)

-- 6.8.6.4; `return;` gives 0
abbrev pub returned : Option (Run Value) → Run Flow
returned None = pure (Returns (value 0 false))
returned (Some e) = e >>= (λ v. pure (Returns v))

-- 6.8.1: the word of a `case`, converted to the type that is tested, which keeps it; none for `default`
abbrev pub label_word : Label → Option ℕ
label_word (label.Case e at) = Some (constant e)
label_word (label.Otherwise at) = None

-- a clause of a `switch`: the words of its labels, and what its statements do
pub record Labelled : Type 0 where
  pub labels : List (Option ℕ)
  pub body : Statement

abbrev pub is_label : Option ℕ → Option ℕ → Bool
is_label None None = true
is_label None (Some word') = false
is_label (Some word) None = false
is_label (Some word) (Some word') = word == word'

-- the clauses from the first one with that label on
abbrev pub from_label : Option ℕ → List Labelled → List Labelled
from_label l [] = []
from_label l (c ∷ cs) = if list_any (is_label l) c.labels then c ∷ cs else from_label l cs

abbrev pub or_those : List Labelled → List Labelled → List Labelled
or_those [] others = others
or_those (c ∷ cs) others = c ∷ cs

-- 6.8.4.2, 5: the clauses from the one with that `case` on, else from the one with `default`
abbrev pub chosen : ℕ → List Labelled → List Labelled
chosen word clauses = or_those (from_label (Some word) clauses) (from_label None clauses)

-- 6.8.6.3: `break` ends the `switch`
abbrev pub after_switch : Flow → Flow
after_switch Normal = Normal
after_switch Breaks = Normal
after_switch Continues = Continues
after_switch (Returns v) = Returns v

-- 6.8.4.2, 4: the controlling expression, and then the statements of the chosen clause and of those behind it
abbrev pub switch : Run Value → List Labelled → Statement
switch test clauses functions = do
  v ← test
  flow ← in_order (map (λ c. c.body functions) (chosen v.word clauses))
  pure (after_switch flow)

-- one level of a statement, with the meaning of each part in its place
abbrev pub statement_step : Stmt-F Statement Labelled → Statement
-- 6.8.3
statement_step Stmt-F.Empty functions = pure Normal
statement_step (Stmt-F.Value e) functions = (expression e).value functions >> pure Normal
-- 6.7
statement_step (Stmt-F.Declare locals) functions = in_order (map (declare functions) locals)
-- 6.8.2
statement_step (Stmt-F.Block body) functions = in_scope (in_order (map (λ c. c functions) body))
-- 6.8.4.1
statement_step (Stmt-F.If test a b) functions = (expression test).value functions >>= (λ t. if is_zero t then or_nothing b functions else a functions)
-- 6.8.5.1
statement_step (Stmt-F.While test body) functions = loop ((expression test).value functions) (pure tt) (body functions)
-- 6.8.5.2
statement_step (Stmt-F.Do body test) functions = do_loop ((expression test).value functions) (body functions)
-- 6.8.5.3
statement_step (Stmt-F.For first test next body) functions =
    in_scope (for_loop (first functions) (test_or_true (value_if functions test)) (next_or_nothing (value_if functions next)) (body functions))
-- 6.8.4.2
statement_step (Stmt-F.Switch test clauses) functions = switch ((expression test).value functions) clauses functions
-- 6.8.6.3
statement_step (Stmt-F.Break at) functions = pure Breaks
-- 6.8.6.2
statement_step (Stmt-F.Continue at) functions = pure Continues
-- 6.8.6.4
statement_step (Stmt-F.Return e at) functions = returned (value_if functions e)

abbrev pub clause_step : Clause-F Statement Labelled → Labelled
clause_step c = record { labels = map label_word c.labels; body = λ functions. in_order (map (λ s. s functions) c.body) }

abbrev pub statement : Stmt → Statement
statement = fold-Stmt Statement Labelled statement_step clause_step

abbrev pub clause : Clause → Labelled
clause = fold-Clause Statement Labelled statement_step clause_step

-- ---- calls (6.5.2.2, 6.9.1)

-- whether it returns unsigned
abbrev pub returns_unsigned : Option Function → Bool
returns_unsigned None = false
returns_unsigned (Some f) = is_unsigned_type f.ty

-- the entry of a parameter, with its argument converted to its type
abbrev pub bind : Option ℕ → Bool → Value → List Entry
bind None is_unsigned v = []
bind (Some name) is_unsigned v = record { name = name; value = converted is_unsigned v } ∷ []

-- 6.5.2.2, 7: each parameter takes its argument
abbrev pub bound : List Param → List Value → List Entry
bound [] vs = []
bound (p ∷ ps) [] = []
bound (p ∷ ps) (v ∷ vs) = bound ps vs ++ bind p.name (is_unsigned_type p.ty) v

-- 6.8.6.4, 3: the value returned, at the function's type; falling off the end returns 0
abbrev pub call_result : Bool → Flow → Value
call_result is_unsigned (Returns v) = converted is_unsigned v
call_result is_unsigned _ = value 0 is_unsigned

-- 6.9.1: the body in new scopes; it shares the outermost with the parameters
abbrev pub in_body : Calls → Function → List Value → Run Value
in_body functions f args = do
  scopes ← open_call (bound f.params args)
  flow ← in_order (map (λ c. c functions) (map statement (body_of f.body)))
  close_call scopes
  pure (call_result (is_unsigned_type f.ty) flow)

-- a call of a function with a body spends one before the body is entered; where the function is recursive the call is counted before that
abbrev pub enter_function : Calls → Bool → Option Function → List Value → Run Value
enter_function functions recursive None args = meaningless
enter_function functions recursive (Some f) args = counted recursive (spend >> in_body functions f args)

-- the names that mean `main`, and the two functions that are there without a body
pub record Names : Type 0 where
  pub main : ℕ
  pub in_word : ℕ
  pub out_word : ℕ

-- the numbers that the lexer gives these names
abbrev pub source_names : Names
source_names = record { main = 0; in_word = 1; out_word = 2 }

abbrev pub first_word : List Value → ℕ
first_word [] = 0
first_word (v ∷ vs) = v.word

-- `in_word()` gives the next word of the input as int
abbrev pub call_in_word : Run Value
call_in_word = take_in >>= (λ word. pure (value word false))

-- `out_word(e)` puts out a word, and is void
abbrev pub call_out_word : List Value → Run Value
call_out_word args = put_out (first_word args) >> pure (value 0 false)

-- what a call does, where fewer than n calls of functions with bodies are open in it
abbrev pub call_at : Names → List TopItem → ℕ → ℕ → List Value → Run Value
call_at names items zero name args = stop Going
call_at names items (suc n) name args =
    if name == names.in_word then call_in_word
    else (if name == names.out_word then call_out_word args
    else enter_function (record {
      is_unsigned = λ f. returns_unsigned (function_named f items);
      call = call_at names items n;
    }) (is_recursive items name) (function_named name items) args)

-- the functions of a program at a level of calls
abbrev pub calls : Names → List TopItem → ℕ → Calls
calls names items n = record { is_unsigned = λ f. returns_unsigned (function_named f items); call = call_at names items n }

-- ---- whole programs (5.1.2.2, 6.9)

-- the first n words of a list, with 0 for each that is missing (6.7.8, 21)
abbrev pub padded : ℕ → List ℕ → List ℕ
padded zero words = []
padded (suc n) [] = 0 ∷ padded n []
padded (suc n) (word ∷ words) = word ∷ padded n words

abbrev pub first_or_zero : List ℕ → ℕ
first_or_zero [] = 0
first_or_zero (word ∷ words) = word

-- 6.7.8, 22: an array without length has as many elements as initialisers
abbrev pub array_length : Option Expr → List ℕ → ℕ
array_length None words = length words
array_length (Some e) words = constant e

-- 6.7.8, 10: what isn't initialised is 0
abbrev pub initial : Shape → Bool → List ℕ → Object
initial shape.Scalar is_unsigned words = Scalar (value (first_or_zero words) is_unsigned)
initial (shape.Array length) is_unsigned words = Array is_unsigned (padded (array_length length words) words)

-- 6.9.2: a variable at file scope, as it is before the run
abbrev pub global : GlobalVar → Global
global g = record { name = g.name; object = initial g.shape (is_unsigned_type g.ty) (map constant g.first) }

abbrev pub globals_of : TopItem → List Global
globals_of (item.Globals gs) = map global gs
globals_of (item.Function f) = []

abbrev pub globals : List TopItem → List Global
globals = flat_map globals_of

-- 5.1.2: the state in which `main` is called
abbrev pub first_state : List TopItem → List ℕ → ℕ → State
first_state items input fuel = record { globals = globals items; scopes = []; input = input; output = []; fuel = fuel; active = 0 }

-- the output of a run with so much fuel, and how it ended; it ended as going exactly where the fuel was spent
pub record CRan : Type 0 where
  pub output : List ℕ
  pub end : EvalEnd

-- 5.1.2.2.3: the run ends with the word that `main` returns
abbrev pub ran : Outcome Value → CRan
ran (Gives v s) = record { output = s.output; end = Exited v.word }
ran (Ends end output) = record { output = output; end = end }

-- the run of a program in which these are the names
abbrev pub run_of : Names → Program → List ℕ → ℕ → CRan
run_of names program input fuel = ran ((calls names program.items (suc fuel)).call names.main [] (first_state program.items input fuel))

-- the run of a program as it stands in the source
abbrev pub c_run : Program → List ℕ → ℕ → CRan
c_run program input fuel = run_of source_names program input fuel
