use Rattle.lower_checked.proofs.Parts.{block_literals, switch_literals, whole_literals, block_cases, switch_cases, whole_cases}
use Rattle.lower_checked.proofs.statements.+statements.Goals as goal

pub clause_holds_words-returns-clause-literals : goal.clause_holds_words-returns-clause-literals
clause_holds_words-returns-clause-literals t c = whole_literals c.args.clause.now c.as_slice.result.now c.as_slice-2.result.now c.as_slice.ensures c.as_slice-2.ensures c.labels_hold_words.ensures.literals c.statements_hold_words.ensures.literals

pub clause_holds_words-returns-clause-cases : goal.clause_holds_words-returns-clause-cases
clause_holds_words-returns-clause-cases t c = whole_cases c.args.clause.now c.as_slice.result.now c.as_slice-2.result.now c.as_slice.ensures c.as_slice-2.ensures c.labels_hold_words.ensures.cases c.statements_hold_words.ensures.cases

pub statement_holds_words-returns-in-Block-clause-literals : goal.statement_holds_words-returns-in-Block-clause-literals
statement_holds_words-returns-in-Block-clause-literals t c = block_literals c.args.c.now c.in-Block.body c.as_slice-in-Block.result.now c.in-Block.is c.as_slice-in-Block.ensures c.statements_hold_words.ensures.literals

pub statement_holds_words-returns-in-Block-clause-cases : goal.statement_holds_words-returns-in-Block-clause-cases
statement_holds_words-returns-in-Block-clause-cases t c = block_cases c.args.c.now c.in-Block.body c.as_slice-in-Block.result.now c.in-Block.is c.as_slice-in-Block.ensures c.statements_hold_words.ensures.cases

pub statement_holds_words-returns-in-Switch-clause-literals : goal.statement_holds_words-returns-in-Switch-clause-literals
statement_holds_words-returns-in-Switch-clause-literals t c = switch_literals c.args.c.now c.in-Switch.test c.in-Switch.clauses c.as_slice-in-Switch.result.now c.in-Switch.is c.as_slice-in-Switch.ensures c.expression_holds_words-in-Switch.ensures c.clauses_hold_words.ensures.literals

pub statement_holds_words-returns-in-Switch-clause-cases : goal.statement_holds_words-returns-in-Switch-clause-cases
statement_holds_words-returns-in-Switch-clause-cases t c = switch_cases c.args.c.now c.in-Switch.test c.in-Switch.clauses c.as_slice-in-Switch.result.now c.in-Switch.is c.as_slice-in-Switch.ensures c.clauses_hold_words.ensures.cases
