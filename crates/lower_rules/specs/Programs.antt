-- A whole program in blocks, before unreached blocks and functions are left out: each function with a body under its number, `main` first.
use Rattle.std.specs.Prelude.{ℕ, suc, ◌+◌, ◌-◌, Bool, true, false, not, ◌||◌, if◌then◌else◌, ◌==◌}
use Rattle.std.specs.Prelude.{List, [], ◌∷◌, ◌++◌, map, flat_map, filter, length, Option, Some, None}
use Rattle.std.specs.List.{list_any}
use Rattle.c_syntax.specs.declared.tree.Expr.{Expr}
use Rattle.c_syntax.specs.declared.tree.Local.{Local}
use Rattle.c_syntax.specs.declared.tree.Stmt.{Stmt, fold-Stmt}
use Rattle.c_syntax.specs.declared.tree.Stmt.TheOpen.{Stmt-F, Clause-F}
use Rattle.c_syntax.specs.declared.tree.Param.{Param}
use Rattle.c_syntax.specs.declared.tree.Function.{Function}
use Rattle.c_syntax.specs.declared.tree.TopItem.{TopItem}
use Rattle.c_syntax.specs.declared.tree.Program.{Program}
use Rattle.c_meaning.specs.Operators.{is_unsigned_type}
use Rattle.c_meaning.specs.Run.{Object, Scalar, Array, Global}
use Rattle.c_syntax.specs.Graph.{functions, has_body, body_of, is_recursive}
use Rattle.c_syntax.specs.Costs.{statement_temps, function_weight}
use Rattle.c_syntax.specs.Sizes.{greatest}
use Rattle.c_meaning.specs.Meaning.{Names, globals}
use Rattle.mid_blocks.specs.declared.code.MidFunction.{MidFunction}
use Rattle.mid_blocks.specs.declared.code.Mid.{Mid}
use Rattle.lower_rules.specs.Bindings.{GlobalShape, Bindings, callee_of}
use Rattle.lower_rules.specs.Functions.{Counter, cut, body_lines}
use Rattle.c_syntax.specs.Graph.{with_bodies}

-- ---- the variables of a function: its parameters, and then those that its body declares, in the order of the text

pub record Variable : Type 0 where
  pub name : ℕ
  pub is_unsigned : Bool

abbrev pub param_variable : Option ℕ → Bool → List Variable
param_variable None u = []
param_variable (Some n) u = record { name = n; is_unsigned = u } ∷ []

abbrev pub param_variables : List Param → List Variable
param_variables [] = []
param_variables (p ∷ ps) = param_variable p.name (is_unsigned_type p.ty) ++ param_variables ps

abbrev pub local_variables : List Local → List Variable
local_variables ds = map (λ d. let v : Variable = record { name = d.name; is_unsigned = is_unsigned_type d.ty } in v) ds

abbrev pub if_there : Option (List Variable) → List Variable
if_there None = []
if_there (Some vs) = vs

abbrev pub declared_step : Stmt-F (List Variable) (List Variable) → List Variable
declared_step Stmt-F.Empty = []
declared_step (Stmt-F.Value e) = []
declared_step (Stmt-F.Declare locals) = local_variables locals
declared_step (Stmt-F.Block body) = flat_map (λ vs. vs) body
declared_step (Stmt-F.If test a b) = a ++ if_there b
declared_step (Stmt-F.While test body) = body
declared_step (Stmt-F.Do body test) = body
declared_step (Stmt-F.For first test next body) = first ++ body
declared_step (Stmt-F.Switch test clauses) = flat_map (λ vs. vs) clauses
declared_step (Stmt-F.Break at) = []
declared_step (Stmt-F.Continue at) = []
declared_step (Stmt-F.Return e at) = []

abbrev pub declared_in_clause : Clause-F (List Variable) (List Variable) → List Variable
declared_in_clause c = flat_map (λ vs. vs) c.body

abbrev pub declared : Stmt → List Variable
declared = fold-Stmt (List Variable) (List Variable) declared_step declared_in_clause

abbrev pub variables_of : Function → List Variable
variables_of f = param_variables f.params ++ flat_map declared (body_of f.body)

-- the place of a name in a list, counted from i
abbrev pub place_of : ℕ → ℕ → List Variable → Option ℕ
place_of name i [] = None
place_of name i (v ∷ vs) = if v.name == name then Some i else place_of name (suc i) vs

abbrev pub unsigned_in : ℕ → List Variable → Bool
unsigned_in name [] = false
unsigned_in name (v ∷ vs) = if v.name == name then v.is_unsigned else unsigned_in name vs

-- ---- whether some `return` has a value

abbrev pub is_there : Option Expr → Bool
is_there None = false
is_there (Some e) = true

abbrev pub or_false : Option Bool → Bool
or_false None = false
or_false (Some b) = b

abbrev pub some_of : List Bool → Bool
some_of bs = list_any (λ b. b) bs

abbrev pub returns_step : Stmt-F Bool Bool → Bool
returns_step Stmt-F.Empty = false
returns_step (Stmt-F.Value e) = false
returns_step (Stmt-F.Declare locals) = false
returns_step (Stmt-F.Block body) = some_of body
returns_step (Stmt-F.If test a b) = a || or_false b
returns_step (Stmt-F.While test body) = body
returns_step (Stmt-F.Do body test) = body
returns_step (Stmt-F.For first test next body) = first || body
returns_step (Stmt-F.Switch test clauses) = some_of clauses
returns_step (Stmt-F.Break at) = false
returns_step (Stmt-F.Continue at) = false
returns_step (Stmt-F.Return e at) = is_there e

abbrev pub returns_in_clause : Clause-F Bool Bool → Bool
returns_in_clause c = some_of c.body

abbrev pub returns_value : Stmt → Bool
returns_value = fold-Stmt Bool Bool returns_step returns_in_clause

-- ---- functions and their numbers

-- `main`, and then the others in the order of the text
abbrev pub in_number_order : ℕ → List TopItem → List Function
in_number_order main items = filter (λ f. f.name == main) (with_bodies items) ++ filter (λ f. not (f.name == main)) (with_bodies items)

abbrev pub number_in : ℕ → List Function → ℕ
number_in name [] = 0
number_in name (f ∷ fs) = if f.name == name then 0 else suc (number_in name fs)

abbrev pub number_of : Names → List TopItem → ℕ → ℕ
number_of names items name = number_in name (in_number_order names.main items)

-- ---- globals

abbrev pub is_array_object : Object → Bool
is_array_object (Scalar v) = false
is_array_object (Array is_unsigned words) = true

abbrev pub object_unsigned : Object → Bool
object_unsigned (Scalar v) = v.is_unsigned
object_unsigned (Array is_unsigned words) = is_unsigned

abbrev pub object_words : Object → List ℕ
object_words (Scalar v) = v.word ∷ []
object_words (Array is_unsigned words) = words

abbrev pub shape_of : Global → GlobalShape
shape_of g = record { name = g.name; is_array = is_array_object g.object; is_unsigned = object_unsigned g.object; words = length (object_words g.object) }

abbrev pub shapes : List TopItem → List GlobalShape
shapes items = map shape_of (globals items)

-- whether a function with a body reaches itself
abbrev pub any_recursive : List TopItem → Bool
any_recursive items = list_any (λ f. is_recursive items f.name) (with_bodies items)

-- ---- the whole

abbrev pub bindings_of : Names → List TopItem → Function → Bindings
bindings_of names items f = record {
  variable = λ name. place_of name 0 (variables_of f);
  local_unsigned = λ name. unsigned_in name (variables_of f);
  globals = shapes items;
  callee = callee_of names items (number_of names items);
}

abbrev pub free_of : Function → ℕ
free_of f = length (variables_of f)

-- a recursive function has two variables and two pairs more, behind all its temporaries
abbrev pub counter_of : List TopItem → Function → Option Counter
counter_of items f =
    if is_recursive items f.name then Some (record { global = length (globals items); spare = free_of f + greatest (map statement_temps (body_of f.body)) })
    else None

abbrev pub spare_pairs : List TopItem → Function → ℕ
spare_pairs items f = if is_recursive items f.name then 2 else 0

abbrev pub low_function : Names → List TopItem → Function → MidFunction
low_function names items f = record {
  params = length f.params;
  variables = function_weight f - 1 + spare_pairs items f;
  pairs = function_weight f + spare_pairs items f;
  blocks = cut [] (body_lines (bindings_of names items f) (some_of (map returns_value (body_of f.body))) (free_of f) (counter_of items f) (body_of f.body));
}

-- with the room that the checker found for the stack
abbrev pub low_program : Names → Program → ℕ → Mid
low_program names program chain_pairs = record {
  functions = map (low_function names program.items) (in_number_order names.main program.items);
  globals = map (λ g. object_words g.object) (globals program.items) ++ (if any_recursive program.items then (0 ∷ []) ∷ [] else []);
  chain_pairs = chain_pairs;
}
