use Rattle.std.proofs.Common.{◌≡◌, length, map, arith, refl, ap, ◌∙◌}
use Rattle.lower_rules.specs.Programs.{shapes}
use Rattle.lower_expressions.specs.Names.{shape_of}
use Rattle.lower_names.specs.Calls.{meant}
use Rattle.lower_functions.proofs.Listed.{order_few, globals_few}
use Rattle.lower_functions.proofs.Agrees.{program_same}
use Rattle.lower_functions.proofs.whole.program.Goals as goal

pub outside-requires : goal.outside-requires
outside-requires c =
    omega (arith, globals_few c.args.items.now c.in_ok-found.found.items c.in_ok-found.ensures, ap length c.as_slice.ensures.value, c.requires.nodes)

pub table_of-requires : goal.table_of-requires
table_of-requires c = omega (arith, order_few c.args.names.main c.args.items.now, c.requires.nodes)

pub all_functions-requires-clause-few : goal.all_functions-requires-clause-few
all_functions-requires-clause-few c =
    omega (arith, globals_few c.args.items.now c.in_ok-found.found.items c.in_ok-found.ensures, ap length c.in_ok-table.ensures.globals, c.requires.nodes)

pub returns : goal.returns
returns c =
    let shaped : map shape_of c.in_ok-table.table.globals.items ≡ shapes c.args.items.now = ap (map shape_of) c.in_ok-table.ensures.globals ∙ c.in_ok-found.ensures in
    program_same (meant c.args.names) c.args.items.now c.in_ok-table.table.globals.items c.in_ok-table.table.callees.items c.args.recursive.now shaped c.in_ok-table.ensures.callees c.requires.recursive
    _ c.args.chain_pairs c.in_ok-functions.ensures c.in_ok-globals.ensures refl
