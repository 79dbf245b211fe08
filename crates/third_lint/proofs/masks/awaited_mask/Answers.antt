use Rattle.std.proofs.Common.{ℕ, ◌-◌, Bool, bit_or}
use Rattle.std.specs.Prelude.{◌||◌}
use Rattle.third_lint.specs.Shapes.{awaited}
use Rattle.third_lint.proofs.MaskBits.{or_masks, three_masks}
use Rattle.third_lint.proofs.masks.awaited_mask.Goals as goal

pub returns : goal.returns
returns c =
    let f : ℕ → ℕ → Bool = λ n r. awaited c.args.text.now (c.args.a - n) c.args.a r in
    or_masks (λ r. f 20 r) (λ r. f 24 r || (f 28 r || f 32 r)) c.awaited_by-first.result (bit_or c.awaited_by-second.result (bit_or c.awaited_by-third.result c.awaited_by-fourth.result)) c.awaited_by-first.ensures
    (three_masks (λ r. f 24 r) (λ r. f 28 r) (λ r. f 32 r) c.awaited_by-second.result c.awaited_by-third.result c.awaited_by-fourth.result c.awaited_by-second.ensures c.awaited_by-third.ensures c.awaited_by-fourth.ensures)
