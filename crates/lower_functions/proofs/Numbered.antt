-- The numbers of a function of few nodes are words.
use Rattle.std.proofs.Common.{◌≡◌, ◌+◌, ◌*◌, ◌≤◌, List, [], length, Option, Some, None, false, arith}
use Rattle.c_syntax.specs.declared.tree.Param.{Param}
use Rattle.c_syntax.specs.declared.tree.Stmt.{Stmt}
use Rattle.c_syntax.specs.declared.tree.Function.{Function}
use Rattle.c_syntax.specs.Graph.{body_of}
use Rattle.c_syntax.specs.Sizes.{body_nodes, function_nodes}
use Rattle.c_syntax.specs.Costs.{function_weight}
use Rattle.lower_rules.specs.Bindings.{Bindings, NoFunction}
use Rattle.c_syntax.specs.Labels.{bare_clauses}
use Rattle.lower_rules.specs.Programs.{free_of}
use Rattle.lower_functions.specs.Lowered.{HasNumbers}
use Rattle.lower_functions.proofs.Few.{few_body}

nodes_most : (body : Option (List Stmt)) (ps : List Param) → 1 + length ps + body_nodes (body_of body) ≤ function_nodes body ps
nodes_most None ps = omega arith
nodes_most (Some body) ps = omega arith

-- at most twice its nodes
pub weight_most : (f : Function) → function_weight f ≤ 2 * function_nodes f.body f.params
weight_most f =
    let names : Bindings = record { variable = λ n. None; local_unsigned = λ n. false; globals = []; callee = λ n. NoFunction } in
    let b = few_body names (body_of f.body) in
    omega (arith, nodes_most f.body f.params, b.temps, b.locals_few)

pub has_numbers : (names : Bindings) (f : Function) → function_nodes f.body f.params ≤ 1048576 → bare_clauses f ≡ 0 → free_of f + 1 ≤ function_weight f → HasNumbers names f
has_numbers names f nodes labels free =
    let b = few_body names (body_of f.body) in
    let n = nodes_most f.body f.params in
    let w = weight_most f in
    record { light = omega (arith, w, nodes); blocks = omega (arith, n, nodes, b.blocks, labels); room = omega (arith, n, nodes, free, w) }
