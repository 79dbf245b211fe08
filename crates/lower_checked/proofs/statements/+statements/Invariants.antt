use Rattle.std.proofs.Common.{◌≡◌, true, take}
use Rattle.std.specs.List.{list_all}
use Rattle.c_syntax.specs.Literals.{statement_literals, clause_literals}
use Rattle.lower_rules.specs.Labels.{cases_are_words, clause_cases_are_words}
use Rattle.lower_checked.proofs.statements.+statements.Given as goal

abbrev pub invariant-clauses_hold_words-loop-clause : goal.invariant-clauses_hold_words-loop-clause
invariant-clauses_hold_words-loop-clause l = record { literals : list_all clause_literals (take l.clause-index l.clauses) ≡ true; cases : list_all clause_cases_are_words (take l.clause-index l.clauses) ≡ true }

abbrev pub invariant-statements_hold_words-loop-c : goal.invariant-statements_hold_words-loop-c
invariant-statements_hold_words-loop-c l = record { literals : list_all statement_literals (take l.c-index l.all) ≡ true; cases : list_all cases_are_words (take l.c-index l.all) ≡ true }
