use Rattle.std.proofs.Common.{◌+◌, ◌*◌, ◌<◌, map, sum, arith}
use Rattle.c_syntax.specs.Sizes.{statement_nodes, clause_nodes}
use Rattle.lower_rules.specs.Statements.{low_statement, low_clause}
use Rattle.lower_expressions.specs.Names.{names_of}
use Rattle.lower_statements.proofs.Lists.{item_most, next_blocks, next_clause_blocks, clause_blocks, clause_most}
use Rattle.lower_statements.proofs.counts.+counts.Goals as goal

pub list_blocks-statement_blocks-count-requires : goal.list_blocks-statement_blocks-count-requires
list_blocks-statement_blocks-count-requires t c =
    let h = item_most statement_nodes c.args.body.now c.loop-c.c-index c.c-item.result (omega (arith, c.loop-c-test.true)) c.c-item.is in
    let k = next_blocks (low_statement (names_of c.args.table.now)) c.args.body.now c.loop-c.c-index c.c-item.result (omega (arith, c.loop-c-test.true)) c.c-item.is in
    let less : 4 * statement_nodes c.c-item.result < t = omega (arith, h, c.decreases) in
    (less, omega (arith, k, c.loop-c.invariant, c.requires))

pub list_blocks-overflow_add-count : goal.list_blocks-overflow_add-count
list_blocks-overflow_add-count t c =
    let k = next_blocks (low_statement (names_of c.args.table.now)) c.args.body.now c.loop-c.c-index c.c-item.result (omega (arith, c.loop-c-test.true)) c.c-item.is in
    omega (arith, k, c.loop-c.invariant, c.requires, c.statement_blocks-count.ensures)

pub list_blocks-loop-c-preserved : goal.list_blocks-loop-c-preserved
list_blocks-loop-c-preserved t c =
    let k = next_blocks (low_statement (names_of c.args.table.now)) c.args.body.now c.loop-c.c-index c.c-item.result (omega (arith, c.loop-c-test.true)) c.c-item.is in
    omega (arith, k, c.loop-c.invariant, c.statement_blocks-count.ensures)

pub clauses_blocks-list_blocks-requires : goal.clauses_blocks-list_blocks-requires
clauses_blocks-list_blocks-requires t c =
    let h = item_most clause_nodes c.args.clauses.now c.loop-clause.clause-index c.clause-item.result (omega (arith, c.loop-clause-test.true)) c.clause-item.is in
    let n = clause_most c.clause-item.result c.as_slice.result.now c.as_slice.ensures in
    let k = next_clause_blocks (low_clause (names_of c.args.table.now)) c.args.clauses.now c.loop-clause.clause-index c.clause-item.result (omega (arith, c.loop-clause-test.true)) c.clause-item.is in
    let e = clause_blocks (names_of c.args.table.now) c.clause-item.result c.as_slice.result.now c.as_slice.ensures in
    let less : 4 * sum (map statement_nodes c.as_slice.result.now) + 1 < t = omega (arith, h, n, c.decreases) in
    (less, omega (arith, k, e, c.loop-clause.invariant, c.requires))

pub clauses_blocks-overflow_add-count : goal.clauses_blocks-overflow_add-count
clauses_blocks-overflow_add-count t c =
    let k = next_clause_blocks (low_clause (names_of c.args.table.now)) c.args.clauses.now c.loop-clause.clause-index c.clause-item.result (omega (arith, c.loop-clause-test.true)) c.clause-item.is in
    let e = clause_blocks (names_of c.args.table.now) c.clause-item.result c.as_slice.result.now c.as_slice.ensures in
    omega (arith, k, e, c.loop-clause.invariant, c.requires, c.list_blocks.ensures)

pub clauses_blocks-overflow_add-count-in-loop-clause : goal.clauses_blocks-overflow_add-count-in-loop-clause
clauses_blocks-overflow_add-count-in-loop-clause t c =
    let k = next_clause_blocks (low_clause (names_of c.args.table.now)) c.args.clauses.now c.loop-clause.clause-index c.clause-item.result (omega (arith, c.loop-clause-test.true)) c.clause-item.is in
    let e = clause_blocks (names_of c.args.table.now) c.clause-item.result c.as_slice.result.now c.as_slice.ensures in
    omega (arith, k, e, c.loop-clause.invariant, c.requires, c.list_blocks.ensures)

pub clauses_blocks-loop-clause-preserved : goal.clauses_blocks-loop-clause-preserved
clauses_blocks-loop-clause-preserved t c =
    let k = next_clause_blocks (low_clause (names_of c.args.table.now)) c.args.clauses.now c.loop-clause.clause-index c.clause-item.result (omega (arith, c.loop-clause-test.true)) c.clause-item.is in
    let e = clause_blocks (names_of c.args.table.now) c.clause-item.result c.as_slice.result.now c.as_slice.ensures in
    omega (arith, k, e, c.loop-clause.invariant, c.list_blocks.ensures)
