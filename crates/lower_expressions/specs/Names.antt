-- What the names of a table stand for.
use Rattle.std.specs.Prelude.{◌≡◌, ℕ, false, map, slice_index_or}
use Rattle.lower_rules.specs.Bindings as law
use Rattle.lower_rules.specs.Bindings.{Bindings, GlobalShape}
use Rattle.lower_rules.specs.Expressions as low
use Rattle.lower_rules.specs.Programs as programs
use Rattle.lower_expressions.specs.declared.table.Symbol.{Symbol}
use Rattle.lower_expressions.specs.declared.table.Symbol.TheVariants.{Local, Global, Array, Nothing}
use Rattle.lower_expressions.specs.declared.table.Target.{Target}
use Rattle.lower_expressions.specs.declared.table.Target.TheVariants.{Neither, Named, Indexed}
use Rattle.lower_expressions.specs.declared.table.Callee.{Callee}
use Rattle.lower_expressions.specs.declared.table.Callee.TheVariants.{InWord, OutWord, Defined, NoFunction}
use Rattle.lower_expressions.specs.declared.table.Known.{Known}
use Rattle.lower_expressions.specs.declared.table.Variable.{Variable}
use Rattle.lower_expressions.specs.declared.table.Shape.{Shape}
use Rattle.lower_expressions.specs.declared.table.Table.{Table}

abbrev pub symbol_of : Symbol → law.Symbol
symbol_of (Local v) = law.Local v
symbol_of (Global g) = law.Global g
symbol_of (Array g) = law.Array g
symbol_of Nothing = law.Nothing

abbrev pub target_of : Target → low.Target
target_of Neither = low.Neither
target_of (Named name) = low.Named name
target_of (Indexed name) = low.Indexed name

abbrev pub callee_of : Callee → law.Callee
callee_of InWord = law.InWord
callee_of OutWord = law.OutWord
callee_of (Defined number arity is_void is_unsigned) = law.Defined number arity is_void is_unsigned
callee_of NoFunction = law.NoFunction

abbrev pub variable_of : Variable → programs.Variable
variable_of v = record { name = v.name; is_unsigned = v.is_unsigned }

abbrev pub shape_of : Shape → GlobalShape
shape_of g = record { name = g.name; is_array = g.is_array; is_unsigned = g.is_unsigned; words = g.words }

-- what is known of a name that the table doesn't have
abbrev pub unknown : Known
unknown = record { symbol = Nothing; is_unsigned = false }

-- the variables and globals of a table, and what its names are called as
unfoldable pub names_of : Table → Bindings
names_of t = record {
  variable = λ name. programs.place_of name 0 (map variable_of t.variables.items);
  local_unsigned = λ name. programs.unsigned_in name (map variable_of t.variables.items);
  globals = map shape_of t.globals.items;
  callee = λ name. callee_of (slice_index_or t.callees.items name NoFunction);
}

-- each name is known as what it stands for
pub record AreKnown (t : Table) : Type 0 where
  pub symbols : (name : ℕ) → symbol_of (slice_index_or t.known.items name unknown).symbol ≡ law.symbol (names_of t) name
  pub types : (name : ℕ) → (slice_index_or t.known.items name unknown).is_unsigned ≡ law.name_unsigned (names_of t) name
