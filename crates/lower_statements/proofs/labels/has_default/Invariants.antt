use Rattle.std.proofs.Common.{◌≡◌, map, drop, None}
use Rattle.std.specs.List.{list_any}
use Rattle.c_meaning.specs.Meaning.{label_word, is_label}
use Rattle.lower_statements.proofs.labels.has_default.Given as goal

abbrev pub invariant-loop-label : goal.invariant-loop-label
invariant-loop-label l = list_any (is_label None) (map label_word (drop l.label-index l.labels)) ≡ list_any (is_label None) (map label_word l.labels)
