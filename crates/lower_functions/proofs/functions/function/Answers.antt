use Rattle.std.proofs.Common.{◌+◌, ◌≤◌, length, map, arith, ap, ◌∙◌}
use Rattle.std.proofs.lemmas.List.{length-map}
use Rattle.c_syntax.specs.Costs.{function_weight}
use Rattle.lower_rules.specs.Programs.{free_of, variables_of}
use Rattle.lower_expressions.specs.Names.{names_of, variable_of}
use Rattle.lower_functions.specs.Lowered.{low_with}
use Rattle.lower_functions.proofs.Numbered.{has_numbers, weight_most}
use Rattle.lower_functions.proofs.Named.{names_in}
use Rattle.lower_functions.proofs.functions.function.Goals as goal

pub enter-requires-clause-few : goal.enter-requires-clause-few
enter-requires-clause-few c = omega (arith, c.in_ok-variables.ensures.light, weight_most c.args.f.now, c.requires.nodes)

pub entered-requires-clause-numbers : goal.entered-requires-clause-numbers
entered-requires-clause-numbers c =
    let free : free_of c.args.f.now + 1 ≤ function_weight c.args.f.now =
    omega (arith, c.in_ok-variables.ensures.light, length-map c.in_ok-variables.variables.items variable_of, ap length c.in_ok-variables.ensures.variables) in
    has_numbers (names_of c.enter.new.table) c.args.f.now c.requires.nodes c.requires.labels free

pub returns-clause-function : goal.returns-clause-function
returns-clause-function c =
    let vs = ap (map variable_of) c.in_ok-enter.ensures.variables ∙ c.in_ok-variables.ensures.variables in
    let names = names_in c.enter.new.table c.args.table.now.globals.items c.args.table.now.callees.items (variables_of c.args.f.now) c.enter.ensures.globals c.enter.ensures.callees vs in
    c.in_ok-m.ensures
    ∙ ap (λ gs. low_with (names_of c.enter.new.table) (length gs) c.args.is_recursive c.args.f.now) c.enter.ensures.globals
    ∙ ap (λ ns. low_with ns (length c.args.table.now.globals.items) c.args.is_recursive c.args.f.now) names
