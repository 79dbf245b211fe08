use Rattle.std.proofs.Common.{◌-◌, Bool, subst}
use Rattle.std.specs.Prelude.{◌==◌, ◌&&◌}
use Rattle.lint_words.specs.Around.{is_some}
use Rattle.third_lint.specs.Shapes.{vote_at, both_at, answered}
use Rattle.third_lint.specs.Masks.{IsMask}
use Rattle.third_lint.proofs.MaskBits.{three_masks}
use Rattle.third_lint.proofs.masks.helper_mask.Goals as goal

pub returns : goal.returns
returns c = three_masks (λ r. (r == 1) && both_at c.args.text.now c.args.a) (λ r. (r == 3) && is_some (vote_at c.args.text.now (c.args.a - 12))) (λ r. (r == 2) && answered c.args.text.now c.args.a)
    c.bit_if-both.result c.bit_if-other.result c.bit_if-answer.result
    (subst (λ (z : Bool). IsMask (λ q. (q == 1) && z) c.bit_if-both.result) c.both_at.ensures c.bit_if-both.ensures)
    (subst (λ (z : Bool). IsMask (λ q. (q == 3) && z) c.bit_if-other.result) c.is_vote.ensures c.bit_if-other.ensures)
    (subst (λ (z : Bool). IsMask (λ q. (q == 2) && z) c.bit_if-answer.result) c.answered.ensures c.bit_if-answer.ensures)
