-- What the names of a table stand for.
use Rattle.std.proofs.Common.{◌≡◌, List, map, refl, ap, ◌∙◌}
use Rattle.lower_rules.specs.Programs as programs
use Rattle.lower_expressions.specs.declared.table.Table.{Table}
use Rattle.lower_expressions.specs.declared.table.Shape.{Shape}
use Rattle.lower_expressions.specs.declared.table.Callee.{Callee}
use Rattle.lower_expressions.specs.Names.{variable_of, names_of}
use Rattle.lower_functions.specs.Lowered.{bindings_in}

names_are : (t : Table) → names_of t ≡ bindings_in t.globals.items t.callees.items (map variable_of t.variables.items)
unfolding names_of bindings_in
names_are t = refl

-- where the variables are those of a function
pub names_in : (t : Table) (globals : List Shape) (callees : List Callee) (found : List programs.Variable) → t.globals.items ≡ globals → t.callees.items ≡ callees → map variable_of t.variables.items ≡ found →
    names_of t ≡ bindings_in globals callees found
names_in t globals callees found g c v =
    names_are t
    ∙ ap (λ gs. bindings_in gs t.callees.items (map variable_of t.variables.items)) g
    ∙ ap (λ cs. bindings_in globals cs (map variable_of t.variables.items)) c
    ∙ ap (λ vs. bindings_in globals callees vs) v
