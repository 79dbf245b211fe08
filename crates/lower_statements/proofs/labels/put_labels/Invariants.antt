use Rattle.std.proofs.Common.{◌≡◌, ◌++◌, map, drop}
use Rattle.c_meaning.specs.Meaning.{label_word}
use Rattle.lower_rules.specs.Statements.{case_lines}
use Rattle.lower_expressions.specs.Written.{written}
use Rattle.lower_statements.proofs.labels.put_labels.Given as goal

abbrev pub invariant-loop-label : goal.invariant-loop-label
invariant-loop-label l = written l.out ++ case_lines (map label_word (drop l.label-index l.labels)) l.at l.t ≡ written l.initial.out ++ case_lines (map label_word l.labels) l.at l.t
