use Rattle.lint_words.specs.Around.{starts_at}
use Rattle.third_lint.specs.RuleTests.{nexts_if}
use Rattle.third_lint.specs.Tables.{Table, Below}
use Rattle.third_lint.proofs.marks.find_twice.Given as goal

abbrev pub invariant-loop-k : goal.invariant-loop-k
invariant-loop-k l = Table l.text (Below (λ w. ⊥) (λ a. nexts_if l.text (starts_at l.after a) a) l.k) l.bits.items
