-- What a part of a C program does: it takes the state of a run to a result and a new state, or ends the run.
use Rattle.std.specs.Prelude.{ℕ, zero, suc, Bool, true, false, List, [], ◌∷◌, ◌++◌, Option, Some, None, if◌then◌else◌, ◌==◌, nat_lt, length, slice_index_or}
use Rattle.std.specs.Prelude.{slice_set, Result, Ok, Err}
use Rattle.c_meaning.specs.declared.run.Value.{Value}
use Rattle.c_meaning.specs.declared.run.EvalEnd.{EvalEnd}
use Rattle.c_meaning.specs.declared.run.EvalEnd.TheVariants.{Trapped, Starved, Going}
use Rattle.c_meaning.specs.Operators.{value}

-- a parameter or a variable of a block: its name, and its value with its type
pub record Entry : Type 0 where
  pub name : ℕ
  pub value : Value

-- what an identifier designates (6.2.5): a variable of one word, or an array of words of one type
pub data Object : Type 0 where
  Scalar : Value → Object
  Array : Bool → List ℕ → Object

-- a variable at file scope
pub record Global : Type 0 where
  pub name : ℕ
  pub object : Object

-- 5.1.2.3: the variables at file scope, the scopes of the present call (the innermost first, and in each the newest entry first), what
-- is left of the input, the output so far, the fuel that is left, and how many calls of recursive functions are active
pub record State : Type 0 where
  pub globals : List Global
  pub scopes : List (List Entry)
  pub input : List ℕ
  pub output : List ℕ
  pub fuel : ℕ
  pub active : ℕ

-- a result with the state after it, or an end with the output of the run
pub data Outcome (A : Type 0) : Type 0 where
  Gives : A → State → Outcome A
  Ends : EvalEnd → List ℕ → Outcome A

-- what a part of a program does
abbrev pub Run : Type 0 → Type 0
Run A = State → Outcome A

-- goes on from a result
abbrev pub and_then : {A B : Type 0} → Outcome A → (A → Run B) → Outcome B
and_then (Gives a s) go = go a s
and_then (Ends end output) go = Ends end output

-- one part, and then the part that its result chooses (5.1.2.3: each is complete before the next begins)
infixl 10 ◌>>=◌
abbrev pub ◌>>=◌ : {A B : Type 0} → Run A → (A → Run B) → Run B
m >>= go = λ s. and_then (m s) go

infixl 10 ◌>>◌
abbrev pub ◌>>◌ : {A B : Type 0} → Run A → Run B → Run B
m >> n = λ s. and_then (m s) (λ _. n)

-- a result and nothing done
abbrev pub pure : {A : Type 0} → A → Run A
pure a = λ s. Gives a s

-- ends the run
abbrev pub stop : {A : Type 0} → EvalEnd → Run A
stop end = λ s. Ends end s.output

-- a result or an end, with nothing done
abbrev pub lift : {A : Type 0} → Result A EvalEnd → Run A
lift (Ok a) = pure a
lift (Err end) = stop end

-- where a program has a fault, as a name without a declaration, ISO C gives it no meaning; here it ends
abbrev pub meaningless : {A : Type 0} → Run A
meaningless = stop Starved

-- ---- what a name designates

-- the entry of a name in one scope
abbrev pub find_entry : ℕ → List Entry → Option Value
find_entry name [] = None
find_entry name (e ∷ es) = if e.name == name then Some e.value else find_entry name es

-- the first of two, where there is one
abbrev pub or_else : {A : Type 0} → Option A → Option A → Option A
or_else (Some a) o = Some a
or_else None o = o

-- 6.2.1: the entry of the innermost scope that has the name
abbrev pub innermost : ℕ → List (List Entry) → Option Value
innermost name [] = None
innermost name (scope ∷ scopes) = or_else (find_entry name scope) (innermost name scopes)

-- the variable of that name at file scope
abbrev pub find_global : ℕ → List Global → Option Object
find_global name [] = None
find_global name (g ∷ gs) = if g.name == name then Some g.object else find_global name gs

-- 6.2.1: the entry of the call's scopes; where there is none, the variable at file scope
abbrev pub local_or : Option Value → Option Object → Option Object
local_or (Some v) o = Some (Scalar v)
local_or None o = o

abbrev pub designated : ℕ → State → Option Object
designated name s = local_or (innermost name s.scopes) (find_global name s.globals)

-- whether the variable, or the array's elements, are unsigned
abbrev pub object_type : Option Object → Bool
object_type (Some (Scalar v)) = v.is_unsigned
object_type (Some (Array is_unsigned words)) = is_unsigned
object_type None = false

-- the type of each name in force
abbrev pub types_now : Run (ℕ → Bool)
types_now = λ s. Gives (λ name. object_type (designated name s)) s

-- ---- reading

-- the value of a variable of one word
abbrev pub scalar : Option Object → Run Value
scalar (Some (Scalar v)) = pure v
scalar _ = meaningless

-- 6.3.2.1: the value of the variable that a name designates
abbrev pub read : ℕ → Run Value
read name = λ s. scalar (designated name s) s

-- the element of an array
abbrev pub element : ℕ → Option Object → Run Value
element index (Some (Array is_unsigned words)) = pure (value (slice_index_or words index 0) is_unsigned)
element index _ = meaningless

-- the value of an element, counted from 0
abbrev pub read_element : ℕ → ℕ → Run Value
read_element name index = λ s. element index (designated name s) s

-- where the index, as an unsigned word, isn't below the array's length, the run ends with trap 8
abbrev pub below_length : ℕ → Option Object → Run (Unit {0})
below_length index (Some (Array is_unsigned words)) = if nat_lt index (length words) then pure tt else stop (Trapped 8)
below_length index _ = meaningless

abbrev pub check_index : ℕ → ℕ → Run (Unit {0})
check_index name index = λ s. below_length index (designated name s) s

-- ---- storing; the type of what is stored into stays

-- a word stored into the entry of a name in one scope
abbrev pub put_entry : ℕ → ℕ → List Entry → List Entry
put_entry name word [] = []
put_entry name word (e ∷ es) =
    if e.name == name then record { name = e.name; value = value word e.value.is_unsigned } ∷ es else e ∷ put_entry name word es

abbrev pub is_some_value : Option Value → Bool
is_some_value (Some v) = true
is_some_value None = false

-- a word stored into the entry of the innermost scope that has the name
abbrev pub put_innermost : ℕ → ℕ → List (List Entry) → List (List Entry)
put_innermost name word [] = []
put_innermost name word (scope ∷ scopes) =
    if is_some_value (find_entry name scope) then put_entry name word scope ∷ scopes else scope ∷ put_innermost name word scopes

-- a word stored into a variable of one word
abbrev pub put_scalar : ℕ → Object → Object
put_scalar word (Scalar v) = Scalar (value word v.is_unsigned)
put_scalar word (Array is_unsigned words) = Array is_unsigned words

-- a word stored into an element
abbrev pub put_element : ℕ → ℕ → Object → Object
put_element index word (Scalar v) = Scalar v
put_element index word (Array is_unsigned words) = Array is_unsigned (slice_set words index word)

-- a change of the variable of that name at file scope
abbrev pub change_global : ℕ → (Object → Object) → List Global → List Global
change_global name change [] = []
change_global name change (g ∷ gs) =
    if g.name == name then record { name = g.name; object = change g.object } ∷ gs else g ∷ change_global name change gs

-- where a name has an entry in the call's scopes a store goes there, else to the variable at file scope
abbrev pub stored : Option Value → ℕ → ℕ → State → State
stored (Some v) name word s = record s { scopes = put_innermost name word s.scopes }
stored None name word s = record s { globals = change_global name (put_scalar word) s.globals }

abbrev pub write : ℕ → ℕ → Run (Unit {0})
write name word = λ s. Gives tt (stored (innermost name s.scopes) name word s)

-- a store into an element, counted from 0
abbrev pub write_element : ℕ → ℕ → ℕ → Run (Unit {0})
write_element name index word = λ s. Gives tt (record s { globals = change_global name (put_element index word) s.globals })

-- ---- scopes (6.2.1, 6.2.4)

-- a new entry in the innermost scope
abbrev pub entered : ℕ → Value → List (List Entry) → List (List Entry)
entered name v [] = (record { name = name; value = v } ∷ []) ∷ []
entered name v (scope ∷ scopes) = (record { name = name; value = v } ∷ scope) ∷ scopes

abbrev pub enter : ℕ → Value → Run (Unit {0})
enter name v = λ s. Gives tt (record s { scopes = entered name v s.scopes })

abbrev pub without_first : {A : Type 0} → List A → List A
without_first [] = []
without_first (x ∷ xs) = xs

-- a new innermost scope
abbrev pub open_scope : Run (Unit {0})
open_scope = λ s. Gives tt (record s { scopes = [] ∷ s.scopes })

-- the end of the innermost scope
abbrev pub close_scope : Run (Unit {0})
close_scope = λ s. Gives tt (record s { scopes = without_first s.scopes })

-- a call begins in one scope of its own; the scopes of the caller are what it gives
abbrev pub open_call : List Entry → Run (List (List Entry))
open_call parameters = λ s. Gives s.scopes (record s { scopes = parameters ∷ [] })

-- a call ends, and the caller's scopes are in force again
abbrev pub close_call : List (List Entry) → Run (Unit {0})
close_call scopes = λ s. Gives tt (record s { scopes = scopes })

-- ---- recursion (6.5.2.2, 11)

-- how many calls of recursive functions can be active; the limit is this project's own (5.2.4.1)
abbrev pub most_active : ℕ
most_active = 256

abbrev pub begin_if : Bool → Run ℕ
begin_if true = stop (Trapped 9)
begin_if false = λ s. Gives s.active (record s { active = suc s.active })

-- a call of a recursive function becomes active; where as many as the limit are, the run ends with trap 9; it gives how many were active before
abbrev pub begin_active : Run ℕ
begin_active = λ s. begin_if (s.active == most_active) s

-- it ends, and as many are active as before it
abbrev pub end_active : ℕ → Run (Unit {0})
end_active before = λ s. Gives tt (record s { active = before })

-- what a call does, counted as active where its function is recursive
abbrev pub counted : {A : Type 0} → Bool → Run A → Run A
counted false part = part
counted true part = do
  before ← begin_active
  a ← part
  end_active before
  pure a

-- ---- fuel, input and output

abbrev pub spend_from : ℕ → Run (Unit {0})
spend_from zero = stop Going
spend_from (suc left) = λ s. Gives tt (record s { fuel = left })

-- spends one; where none is left the run stands as going
abbrev pub spend : Run (Unit {0})
spend = λ s. spend_from s.fuel s

-- puts out a word
abbrev pub put_out : ℕ → Run (Unit {0})
put_out word = λ s. Gives tt (record s { output = s.output ++ word ∷ [] })

abbrev pub next_of : List ℕ → Run ℕ
next_of [] = stop Starved
next_of (word ∷ rest) = λ s. Gives word (record s { input = rest })

-- takes the next word of the input; where none is left the run is starved
abbrev pub take_in : Run ℕ
take_in = λ s. next_of s.input s
