use Rattle.std.proofs.Common.{◌+◌, ◌*◌, ◌<◌, ◌++◌, ◌∙◌, map, sum, sym, ap, List, arith}
use Rattle.c_syntax.specs.Sizes.{statement_nodes, clause_nodes}
use Rattle.mid_blocks.specs.Lines.{Line}
use Rattle.lower_rules.specs.Statements.{low_statement, low_clause}
use Rattle.lower_expressions.specs.Names.{names_of}
use Rattle.lower_expressions.specs.Written.{written}
use Rattle.lower_statements.specs.Contexts.{context_of}
use Rattle.lower_statements.proofs.Lists.{item_most, next_blocks, next_lines, next_clause_blocks, next_clause_lines, clause_blocks, clause_lines, clause_most}
use Rattle.lower_statements.proofs.lines.+statements.Goals as goal

pub statements-statement-requires : goal.statements-statement-requires
statements-statement-requires t c =
    let h = item_most statement_nodes c.args.body.now c.loop-c.c-index c.c-item.result (omega (arith, c.loop-c-test.true)) c.c-item.is in
    let k = next_blocks (low_statement (names_of c.args.table.now)) c.args.body.now c.loop-c.c-index c.c-item.result (omega (arith, c.loop-c-test.true)) c.c-item.is in
    let less : 4 * statement_nodes c.c-item.result < t = omega (arith, h, c.decreases) in
    (less, (c.requires.known, (omega (arith, k, c.loop-c.invariant.count, c.requires.blocks), omega (arith, h, c.requires.room))))

pub statements-loop-c-preserved : goal.statements-loop-c-preserved
statements-loop-c-preserved t c =
    let k = next_blocks (low_statement (names_of c.args.table.now)) c.args.body.now c.loop-c.c-index c.c-item.result (omega (arith, c.loop-c-test.true)) c.c-item.is in record {
      put = next_lines (low_statement (names_of c.args.table.now)) (written c.loop-c.out) _ c.args.body.now c.loop-c.c-index c.c-item.result (context_of c.args.to) c.loop-c.block _ (omega (arith, c.loop-c-test.true)) c.c-item.is c.in_ok-block.ensures.lines c.in_ok-block.ensures.block ∙ c.loop-c.invariant.put;
      count = omega (arith, k, c.loop-c.invariant.count, c.in_ok-block.ensures.block);
    }

pub put_clauses-statements-requires : goal.put_clauses-statements-requires
put_clauses-statements-requires t c =
    let h = item_most clause_nodes c.args.clauses.now c.loop-clause.clause-index c.clause-item.result (omega (arith, c.loop-clause-test.true)) c.clause-item.is in
    let n = clause_most c.clause-item.result c.as_slice.result.now c.as_slice.ensures in
    let k = next_clause_blocks (low_clause (names_of c.args.table.now)) c.args.clauses.now c.loop-clause.clause-index c.clause-item.result (omega (arith, c.loop-clause-test.true)) c.clause-item.is in
    let e = clause_blocks (names_of c.args.table.now) c.clause-item.result c.as_slice.result.now c.as_slice.ensures in
    let less : 4 * sum (map statement_nodes c.as_slice.result.now) + 1 < t = omega (arith, h, n, c.decreases) in
    (less, (c.requires.known, (omega (arith, k, e, c.loop-clause.invariant.count, c.requires.blocks), omega (arith, h, n, c.requires.room))))

pub put_clauses-overflow_add-at : goal.put_clauses-overflow_add-at
put_clauses-overflow_add-at t c =
    let k = next_clause_blocks (low_clause (names_of c.args.table.now)) c.args.clauses.now c.loop-clause.clause-index c.clause-item.result (omega (arith, c.loop-clause-test.true)) c.clause-item.is in
    let e = clause_blocks (names_of c.args.table.now) c.clause-item.result c.as_slice.result.now c.as_slice.ensures in
    omega (arith, k, e, c.loop-clause.invariant.count, c.requires.blocks, c.in_ok-behind.ensures.block)

pub put_clauses-loop-clause-preserved : goal.put_clauses-loop-clause-preserved
put_clauses-loop-clause-preserved t c =
    let k = next_clause_blocks (low_clause (names_of c.args.table.now)) c.args.clauses.now c.loop-clause.clause-index c.clause-item.result (omega (arith, c.loop-clause-test.true)) c.clause-item.is in
    let e = clause_blocks (names_of c.args.table.now) c.clause-item.result c.as_slice.result.now c.as_slice.ensures in
    let l = clause_lines (names_of c.args.table.now) c.clause-item.result c.as_slice.result.now (context_of c.args.to) c.loop-clause.at c.as_slice.ensures in record {
      put = next_clause_lines (low_clause (names_of c.args.table.now)) (written c.loop-clause.out) _ _ c.args.clauses.now c.loop-clause.clause-index c.clause-item.result (context_of c.args.to) c.loop-clause.at _ (omega (arith, c.loop-clause-test.true)) c.clause-item.is
          (c.in_ok-behind.ensures.lines ∙ sym (ap (λ (ys : List Line). written c.loop-clause.out ++ ys) l)) c.in_ok-put_jump.ensures (omega (arith, e, c.in_ok-behind.ensures.block)) ∙ c.loop-clause.invariant.put;
      count = omega (arith, k, e, c.loop-clause.invariant.count, c.in_ok-behind.ensures.block);
    }
