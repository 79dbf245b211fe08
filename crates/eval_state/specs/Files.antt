-- The variables at file scope as the meaning of the language has them, and where each stands.
use Rattle.std.specs.Prelude.{◌≡◌, ℕ, suc, Bool, List, [], ◌∷◌, Option, Some, None, slice_index, slice_get, slice_set, if◌then◌else◌, ◌==◌, ◌&&◌}
use Rattle.c_meaning.specs.Operators.{value}
use Rattle.c_meaning.specs.Run as run
use Rattle.eval_state.specs.declared.files.Object.{Object}
use Rattle.eval_state.specs.declared.files.Object.TheVariants as an_object
use Rattle.eval_state.specs.declared.files.FileVariable.{FileVariable}

abbrev pub object_of : Object → run.Object
object_of (an_object.Scalar v) = run.Scalar v
object_of (an_object.Array is_unsigned words) = run.Array is_unsigned words

-- a variable at file scope
abbrev pub global_of : FileVariable → run.Global
global_of v = record { name = v.name; object = object_of v.object }

-- one more than the index of the first element that passes a test, where the list begins at an index; 0 where none passes
abbrev pub first_from : {X : Type 0} → (X → Bool) → ℕ → List X → ℕ
first_from test index [] = 0
first_from test index (x ∷ xs) = if test x then suc index else first_from test (suc index) xs

abbrev pub is_named : ℕ → FileVariable → Bool
is_named name v = v.name == name

-- a table has the first variable of each name
abbrev pub HasFirst : List ℕ → List FileVariable → Type 0
HasFirst table variables = (name : ℕ) → slice_index table name ≡ first_from (is_named name) 0 variables

-- a number noted for an index that has none
abbrev pub Notes : List ℕ → ℕ → ℕ → List ℕ → Type 0
Notes before index number after = (k : ℕ) → slice_index after k ≡ (if k == index && slice_index before k == 0 then number else slice_index before k)

abbrev pub with_word : ℕ → Object → Object
with_word word (an_object.Scalar v) = an_object.Scalar (value word v.is_unsigned)
with_word word (an_object.Array is_unsigned words) = an_object.Array is_unsigned words

abbrev pub with_element : ℕ → ℕ → Object → Object
with_element index word (an_object.Scalar v) = an_object.Scalar v
with_element index word (an_object.Array is_unsigned words) = an_object.Array is_unsigned (slice_set words index word)

-- the variable at an index is changed, where there is one
abbrev pub changed_at : (Object → Object) → ℕ → Option FileVariable → List FileVariable → List FileVariable
changed_at change index None variables = variables
changed_at change index (Some v) variables = slice_set variables index (record { name = v.name; object = change v.object })

abbrev pub ChangesAt : (Object → Object) → ℕ → List FileVariable → List FileVariable → Type 0
ChangesAt change index before after = after ≡ changed_at change index (slice_get before index) before
