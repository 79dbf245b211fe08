use Rattle.std.proofs.Common.{length, arith, sym}
use Rattle.std.proofs.lemmas.List.Sums.{position_or_len_is}
use Rattle.hard_lines.specs.Inputs.{is_line_feed}
use Rattle.hard_lines.proofs.inputs.line_end.Goals as goal

pub returns : goal.returns
returns c = sym (position_or_len_is is_line_feed c.args.text.now (length c.args.text.now) 0 (omega arith) (λ k h. c.loop-at.invariant k (omega arith)) (λ h. absurd (omega arith)))
