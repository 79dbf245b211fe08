use Rattle.std.proofs.Common.{◌≡◌, ◌<◌, sym, ◌∙◌, ap, ℕ, List, ◌++◌, arith, length}
use Rattle.hard_items.specs.Run.{items_of}
use Rattle.hard_items.specs.Heads.{headed}
use Rattle.layout_law.specs.Layout.{address, items_words}
use Rattle.code_layout.proofs.Written.{grows_at, all_blocks}
use Rattle.code_layout.proofs.laid.put_blocks.Goals as goal

pub loop-block-preserved : goal.loop-block-preserved
loop-block-preserved c =
    let h : c.loop-block.block < length c.args.signed.now.program.blocks = omega arith in
    c.in_ok-put_block.ensures ∙ (ap (λ (z : List ℕ). z ++ items_words (headed c.args.signed.now) c.loop-block.block (address (headed c.args.signed.now) c.loop-block.block) (items_of (headed c.args.signed.now) c.loop-block.block)) c.loop-block.invariant ∙ sym (grows_at c.args.signed.now c.loop-block.block h).grows)

pub returns : goal.returns
returns c = c.loop-block.invariant ∙ all_blocks c.args.signed.now c.loop-block.block (omega arith)
