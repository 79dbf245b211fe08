use Rattle.std.proofs.Common.{◌≡◌, ◌<◌, ◌∙◌, sym, arith, subst, length}
use Rattle.far_branches.specs.Far.{AllThere}
use Rattle.far_branches.proofs.far.put_blocks.Goals as goal

pub put_block-requires-clause-there : goal.put_block-requires-clause-there
put_block-requires-clause-there c =
    let h : c.loop-number.number < length c.args.blocks.now = omega arith in
    subst (AllThere (length c.args.places.now)) (sym c.index-blocks-number.is) (c.requires.there c.loop-number.number c.index-blocks-number.result h)
