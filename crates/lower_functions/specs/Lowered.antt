-- What a function is lowered to, by what its names stand for and whether it is recursive.
use Rattle.std.specs.Prelude.{ℕ, ◌+◌, ◌-◌, ◌*◌, ◌<◌, ◌^◌, Bool, false, if◌then◌else◌, List, [], map, sum, length, Option, Some, None, slice_index_or}
use Rattle.c_syntax.specs.declared.tree.Function.{Function}
use Rattle.c_syntax.specs.Graph.{body_of}
use Rattle.c_syntax.specs.Sizes.{greatest, statement_nodes}
use Rattle.c_syntax.specs.Costs.{statement_temps, function_weight}
use Rattle.mid_blocks.specs.declared.code.MidFunction.{MidFunction}
use Rattle.lower_rules.specs.Bindings.{Bindings}
use Rattle.lower_rules.specs.Functions.{Counter, cut, body_lines}
use Rattle.lower_rules.specs.Statements.{low_list, low_statement}
use Rattle.lower_rules.specs.Programs as programs
use Rattle.lower_rules.specs.Programs.{variables_of, free_of, some_of, returns_value}
use Rattle.lower_expressions.specs.declared.table.Shape.{Shape}
use Rattle.lower_expressions.specs.declared.table.Callee.{Callee}
use Rattle.lower_expressions.specs.declared.table.Callee.TheVariants.{NoFunction}
use Rattle.lower_expressions.specs.Names.{callee_of, shape_of}

-- the names in a function, among these globals and callees
unfoldable pub bindings_in : List Shape → List Callee → List programs.Variable → Bindings
bindings_in globals callees variables = record {
  variable = λ name. programs.place_of name 0 variables;
  local_unsigned = λ name. programs.unsigned_in name variables;
  globals = map shape_of globals;
  callee = λ name. callee_of (slice_index_or callees name NoFunction);
}

abbrev pub extra_pairs : Bool → ℕ
extra_pairs recursive = if recursive then 2 else 0

-- a recursive function counts its active calls in the global behind all others
abbrev pub counter_with : ℕ → Bool → Function → Option Counter
counter_with globals recursive f =
    if recursive then Some (record { global = globals; spare = free_of f + greatest (map statement_temps (body_of f.body)) }) else None

-- where its names stand for this, and there are so many globals
abbrev pub low_with : Bindings → ℕ → Bool → Function → MidFunction
low_with names globals recursive f = record {
  params = length f.params;
  variables = function_weight f - 1 + extra_pairs recursive;
  pairs = function_weight f + extra_pairs recursive;
  blocks = cut [] (body_lines names (some_of (map returns_value (body_of f.body))) (free_of f) (counter_with globals recursive f) (body_of f.body));
}

-- whether a name is marked
abbrev pub is_marked : List Bool → ℕ → Bool
is_marked marks name = slice_index_or marks name false

-- where these globals and callees stand, and these functions are recursive
abbrev pub low_among : List Shape → List Callee → List Bool → Function → MidFunction
low_among globals callees recursive f = low_with (bindings_in globals callees (variables_of f)) (length globals) (is_marked recursive f.name) f

-- all numbers of a function are words
pub record HasNumbers (names : Bindings) (f : Function) : Type 0 where
  pub light : function_weight f + 2 < 2 ^ 32
  pub blocks : (low_list (map (low_statement names) (body_of f.body))).blocks + 1 < 2 ^ 32
  pub room : free_of f + 3 * sum (map statement_nodes (body_of f.body)) < 2 ^ 32
