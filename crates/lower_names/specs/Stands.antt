-- What names are known as in a function and outside of functions.
use Rattle.std.specs.Prelude.{◌≡◌, ℕ, suc, if◌then◌else◌, ◌==◌, List, [], ◌∷◌, slice_index_or}
use Rattle.lower_expressions.specs.declared.table.Symbol.TheVariants.{Local, Global, Array}
use Rattle.lower_expressions.specs.declared.table.Known.{Known}
use Rattle.lower_expressions.specs.declared.table.Variable.{Variable}
use Rattle.lower_expressions.specs.declared.table.Shape.{Shape}
use Rattle.lower_expressions.specs.Names.{unknown}

-- a global with a number
abbrev pub global_known : ℕ → Shape → Known
global_known number g = record { symbol = (if g.is_array then Array number else Global number); is_unsigned = g.is_unsigned }

-- a name among globals that are numbered from k on
abbrev pub among_globals : ℕ → ℕ → List Shape → Known
among_globals name k [] = unknown
among_globals name k (g ∷ gs) = if g.name == name then global_known k g else among_globals name (suc k) gs

-- a variable with a number
abbrev pub variable_known : ℕ → Variable → Known
variable_known number v = record { symbol = Local number; is_unsigned = v.is_unsigned }

-- a name among variables that are numbered from k on, where it is known as something else if it is no variable
abbrev pub among : ℕ → ℕ → List Variable → Known → Known
among name k [] other = other
among name k (v ∷ vs) other = if v.name == name then variable_known k v else among name (suc k) vs other

-- outside of functions a name stands for its global alone
abbrev pub KnownOutside : List Shape → List Known → Type 0
KnownOutside globals known = (name : ℕ) → slice_index_or known name unknown ≡ among_globals name 0 globals

-- in a function with these variables
abbrev pub KnownInside : List Variable → List Shape → List Known → Type 0
KnownInside variables globals known = (name : ℕ) → slice_index_or known name unknown ≡ among name 0 variables (among_globals name 0 globals)
