use Rattle.std.proofs.Common.{◌≡◌, ◌+◌, map, drop}
use Rattle.c_meaning.specs.Meaning.{label_word}
use Rattle.lower_rules.specs.Statements.{case_count}
use Rattle.lower_statements.proofs.labels.case_count.Given as goal

abbrev pub invariant-loop-label : goal.invariant-loop-label
invariant-loop-label l = l.count + case_count (map label_word (drop l.label-index l.labels)) ≡ case_count (map label_word l.labels)
