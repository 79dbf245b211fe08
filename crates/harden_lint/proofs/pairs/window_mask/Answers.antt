use Rattle.std.proofs.Common.{◌==◌, ◌&&◌, Bool, bit_or, subst}
use Rattle.lint_words.specs.Windows.{near}
use Rattle.harden_lint.specs.Masks.{IsMask}
use Rattle.harden_lint.proofs.MaskBits.{near_mask}
use Rattle.harden_lint.proofs.Windows.{near_window, window_near_is}
use Rattle.harden_lint.proofs.pairs.window_mask.Goals as goal

pub returns : goal.returns
returns c r h =
    let m : IsMask (λ q. near c.args.text.now c.args.a q) (bit_or (bit_or c.mask_by-first.result (bit_or c.mask_by-second.result (bit_or c.mask_by-third.result c.mask_by-fourth.result))) c.bit_if-service.result) = near_mask c.args.text.now c.args.a c.mask_by-first.result c.mask_by-second.result c.mask_by-third.result c.mask_by-fourth.result c.bit_if-service.result
    c.mask_by-first.ensures c.mask_by-second.ensures c.mask_by-third.ensures c.mask_by-fourth.ensures (subst (λ (z : Bool). IsMask (λ q. (q == 2) && z) c.bit_if-service.result) c.service_near.ensures c.bit_if-service.ensures) in
    ((λ b. near_window c.args.text.now c.args.a r c.requires.word ((m r).0 b).1), (λ n. (m r).1 (h, window_near_is c.args.text.now c.args.a r n)))
