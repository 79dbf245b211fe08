use Rattle.std.proofs.Common.{◌≡◌, take}
use Rattle.hard_items.specs.Heads.{headed}
use Rattle.layout_law.specs.Layout.{blocks_words}
use Rattle.code_layout.proofs.laid.put_blocks.Given as goal

abbrev pub invariant-loop-block : goal.invariant-loop-block
invariant-loop-block l = l.out.items ≡ blocks_words (headed l.signed) 0 0x00400000 (take l.block (headed l.signed).blocks)
