use Rattle.std.proofs.Common.{map}
use Rattle.eval_parts.specs.declared.part.Now.TheVariants as now
use Rattle.eval_parts.specs.Work.{statement_work, local_work, clause_work}
use Rattle.eval_parts.proofs.Lessening.{some_work, some_clauses_work, falls_then}
use Rattle.eval_steps.proofs.steps.with_flow.Goals as goal

pub returns-in-Stmts-clause-falls : goal.returns-in-Stmts-clause-falls
returns-in-Stmts-clause-falls c = λ most call items.
    rw c.in-Stmts.is (falls_then c.args.flow (now.Stmts c.in-Stmts.list) c.goes.result (cc (c.goes.ensures, c.normal_then.ensures)) most call items (some_work (map (statement_work most call) c.in-Stmts.list.now)))

pub returns-in-Locals-clause-falls : goal.returns-in-Locals-clause-falls
returns-in-Locals-clause-falls c = λ most call items.
    rw c.in-Locals.is (falls_then c.args.flow (now.Locals c.in-Locals.list) c.goes-in-Locals.result (cc (c.goes-in-Locals.ensures, c.normal_then-in-Locals.ensures)) most call items (some_work (map (local_work call) c.in-Locals.list.now)))

pub returns-in-Clauses-clause-falls : goal.returns-in-Clauses-clause-falls
returns-in-Clauses-clause-falls c = λ most call items.
    rw c.in-Clauses.is (falls_then c.args.flow (now.Clauses c.in-Clauses.list) c.goes-in-Clauses.result (cc (c.goes-in-Clauses.ensures, c.normal_then-in-Clauses.ensures)) most call items (some_clauses_work (map (clause_work most call) c.in-Clauses.list.now)))
