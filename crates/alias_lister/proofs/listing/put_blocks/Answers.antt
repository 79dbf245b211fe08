use Rattle.std.proofs.Common.{◌≡◌, ◌<◌, ◌∙◌, ℕ, List, length, subst, sym, arith, ◌++◌}
use Rattle.std.specs.List.{All}
use Rattle.alias_lister.specs.Listing.{leaves, members, mark_at, listed}
use Rattle.alias_lister.proofs.Members.{members_within}
use Rattle.alias_lister.proofs.Pairs.{group_is, one_listed}
use Rattle.alias_lister.proofs.listing.put_blocks.Goals as goal

pub put_block-requires-clause-group : goal.put_block-requires-clause-group
put_block-requires-clause-group c =
    let g : c.as_slice.result.now ≡ members (leaves (mark_at c.args.marks.now c.loop-number.number)) 0 c.args.marks.now =
    group_is c.args.groups.now c.args.marks.now c.loop-number.number c.index-groups-base.result c.as_slice.result.now c.requires.groups c.requires.many c.index-blocks-number.element_fits.fits c.index-blocks-number.element_fits2.fits c.index-groups-base.is c.as_slice.ensures in
    let long : length c.loop-number.stamps ≡ length c.args.blocks.now = c.loop-number.invariant.long in
    subst (λ (z : List ℕ). All (λ (w : ℕ). w < length c.loop-number.stamps) z) (sym g) (members_within (leaves (mark_at c.args.marks.now c.loop-number.number)) c.args.marks.now (length c.loop-number.stamps) (c.requires.marks ∙ sym long))

pub loop-number-preserved : goal.loop-number-preserved
loop-number-preserved c =
    let g : c.as_slice.result.now ≡ members (leaves (mark_at c.args.marks.now c.loop-number.number)) 0 c.args.marks.now =
    group_is c.args.groups.now c.args.marks.now c.loop-number.number c.index-groups-base.result c.as_slice.result.now c.requires.groups c.requires.many c.index-blocks-number.element_fits.fits c.index-blocks-number.element_fits2.fits c.index-groups-base.is c.as_slice.ensures in
    let here : c.loop-number.number < length c.args.blocks.now = omega arith in
    record {
      long = c.in_ok-put_block.ensures.length ∙ c.loop-number.invariant.long;
      fresh = c.in_ok-put_block.ensures.fresh;
      listed = one_listed c.args.marks.now c.args.blocks.now c.loop-number.number c.index-blocks-number.result c.as_slice-in-loop-number.result.now c.as_slice.result.now c.loop-number.out.items c.put_block.new.out.items
          (c.args.out.now.items ++ listed c.args.marks.now 0 c.args.blocks.now) here c.index-blocks-number.is c.as_slice-in-loop-number.ensures g c.in_ok-put_block.ensures.put c.loop-number.invariant.listed;
    }
