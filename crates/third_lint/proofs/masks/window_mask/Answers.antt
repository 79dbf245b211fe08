use Rattle.third_lint.proofs.MaskBits.{near_mask, window_of_mask}
use Rattle.third_lint.proofs.masks.window_mask.Goals as goal

pub returns : goal.returns
returns c r = window_of_mask c.args.text.now c.args.a _ r c.requires.word
    (near_mask c.args.text.now c.args.a c.settled_by-first.result c.settled_by-second.result c.awaited_mask-waiting.result c.helper_mask-helping.result
    c.settled_by-first.ensures c.settled_by-second.ensures c.awaited_mask-waiting.ensures c.helper_mask-helping.ensures)
