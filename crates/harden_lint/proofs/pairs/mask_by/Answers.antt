use Rattle.std.proofs.Common.{◌∙◌, sym, subst, Bool}
use Rattle.std.specs.Prelude.{◌==◌, ◌&&◌}
use Rattle.harden_lint.specs.Masks.{IsMask}
use Rattle.harden_lint.proofs.MaskBits.{window_of_check}
use Rattle.harden_lint.proofs.pairs.mask_by.Goals as goal

pub returns-in-Some : goal.returns-in-Some
returns-in-Some c = window_of_check c.args.text.now c.args.c c.args.a c.in-Some.x c.in-Some.y c.bit_if-left.result c.bit_if-right.result (sym c.check_at.ensures ∙ c.in-Some.is)
    (subst (λ (z : Bool). IsMask (λ q. (q == c.in-Some.x) && z) c.bit_if-left.result) c.window.ensures c.bit_if-left.ensures)
    (subst (λ (z : Bool). IsMask (λ q. (q == c.in-Some.y) && z) c.bit_if-right.result) c.window-in-Some.ensures c.bit_if-right.ensures)
