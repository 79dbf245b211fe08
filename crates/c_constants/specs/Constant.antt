-- What evaluating a constant expression gives (6.6), in the state in which no name means anything.
use Rattle.std.specs.Prelude.{Bool, false, [], Result, Ok, Err}
use Rattle.c_syntax.specs.declared.tree.Expr.{Expr}
use Rattle.c_meaning.specs.declared.run.Value.{Value}
use Rattle.c_meaning.specs.declared.run.Place.{Place}
use Rattle.c_meaning.specs.declared.run.EvalEnd.{EvalEnd}
use Rattle.c_meaning.specs.Run.{State, Outcome, Gives, Ends}
use Rattle.c_meaning.specs.Meaning.{expression, no_calls}

abbrev pub nowhere : State
nowhere = record { globals = []; scopes = []; input = []; output = []; fuel = 0; active = 0 }

-- a result or an end, with nothing done
abbrev pub given : {A : Type 0} → Result A EvalEnd → Outcome A
given (Ok a) = Gives a nowhere
given (Err end) = Ends end []

abbrev pub constant_outcome : Expr → Outcome Value
constant_outcome e = (expression e).value no_calls nowhere

abbrev pub constant_place : Expr → Outcome Place
constant_place e = (expression e).place no_calls nowhere

abbrev pub constant_type : Expr → Bool
constant_type e = (expression e).is_unsigned (λ name. false) (λ name. false)
