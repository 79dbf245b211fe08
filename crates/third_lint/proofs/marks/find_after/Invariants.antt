use Rattle.mips_text.specs.Text.{instr_at}
use Rattle.third_lint.specs.RuleTests.{is_half, nexts_if}
use Rattle.third_lint.specs.Tables.{Table, Below}
use Rattle.third_lint.proofs.marks.find_after.Given as goal

abbrev pub invariant-loop-k : goal.invariant-loop-k
invariant-loop-k l = Table l.text (Below (λ w. ⊥) (λ a. nexts_if l.text (is_half (instr_at l.text a)) a) l.k) l.bits.items
