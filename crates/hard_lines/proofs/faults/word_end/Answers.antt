use Rattle.std.proofs.Common.{length, arith, sym}
use Rattle.std.proofs.lemmas.List.Sums.{position_or_len_is}
use Rattle.hard_lines.specs.Faults.{is_gap}
use Rattle.hard_lines.proofs.faults.word_end.Goals as goal

pub returns : goal.returns
returns c = sym (position_or_len_is is_gap c.args.line.now (length c.args.line.now) 0 (omega arith) (λ k h. c.loop-at.invariant k (omega arith)) (λ h. absurd (omega arith)))
