-- The state of a run but for its output, and what its steps answer.
use Rattle.std.specs.Prelude.{ℕ, List, [], ◌∷◌, length, slice_index_or, nat_lt, Bool, if◌then◌else◌, Option, Some, None, Result, Ok, Err}
use Rattle.c_meaning.specs.declared.run.Value.{Value}
use Rattle.c_meaning.specs.declared.run.EvalEnd.{EvalEnd}
use Rattle.c_meaning.specs.declared.run.EvalEnd.TheVariants.{Starved, Trapped}
use Rattle.c_meaning.specs.Operators.{value}
use Rattle.c_meaning.specs.Run.{Entry, Object, Scalar, Array, Global, State, Outcome, Gives, Ends}
use Rattle.eval_state.specs.declared.active.Active.{Active}

-- the state of a run but for its output, which is handed out word by word
pub record Held : Type 0 where
  pub globals : List Global
  pub scopes : List (List Entry)
  pub input : List ℕ
  pub fuel : ℕ
  pub active : ℕ

-- the state where nothing was put out
abbrev pub state : Held → State
state h = record { globals = h.globals; scopes = h.scopes; input = h.input; output = []; fuel = h.fuel; active = h.active }

-- what a step answers, as the outcome of a run
abbrev pub settled : {A : Type 0} → Result A EvalEnd → State → Outcome A
settled (Ok a) s = Gives a s
settled (Err end) s = Ends end s.output

-- the number that is kept
abbrev pub number_of : Result Active EvalEnd → Result ℕ EvalEnd
number_of (Ok a) = Ok a.count
number_of (Err end) = Err end

-- ---- what a variable at file scope answers

abbrev pub scalar_of : Option Object → Result Value EvalEnd
scalar_of (Some (Scalar v)) = Ok v
scalar_of (Some (Array is_unsigned words)) = Err Starved
scalar_of None = Err Starved

abbrev pub element_of : ℕ → Option Object → Result Value EvalEnd
element_of index (Some (Scalar v)) = Err Starved
element_of index (Some (Array is_unsigned words)) = Ok (value (slice_index_or words index 0) is_unsigned)
element_of index None = Err Starved

abbrev pub index_of : ℕ → Option Object → Result (Unit {0}) EvalEnd
index_of index (Some (Scalar v)) = Err Starved
index_of index (Some (Array is_unsigned words)) = if nat_lt index (length words) then Ok tt else Err (Trapped 8)
index_of index None = Err Starved
