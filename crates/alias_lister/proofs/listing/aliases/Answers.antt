use Rattle.std.proofs.Common.{arith, ◌∙◌}
use Rattle.alias_lister.proofs.Members.{groups_many, groups_all}
use Rattle.alias_lister.proofs.Aliasing.{are_aliases, are_linked, edges_within, from_nothing}
use Rattle.alias_lister.proofs.listing.aliases.Goals as goal

pub put_blocks-requires-clause-next : goal.put_blocks-requires-clause-next
put_blocks-requires-clause-next c = edges_within c.args.signed.now c.as_slice-blocks.result.now c.requires.signs c.as_slice-blocks.ensures

pub put_blocks-requires-clause-many : goal.put_blocks-requires-clause-many
put_blocks-requires-clause-many c = groups_many c.as_slice-marks.result.now 65536 c.as_slice.result.now (omega arith) (c.as_slice.ensures.value ∙ c.in_ok-all_groups.ensures)

pub put_blocks-requires-clause-groups : goal.put_blocks-requires-clause-groups
put_blocks-requires-clause-groups c = groups_all c.as_slice-marks.result.now 65536 c.as_slice.result.now (omega arith) (c.as_slice.ensures.value ∙ c.in_ok-all_groups.ensures)

pub returns-clause-aliases : goal.returns-clause-aliases
returns-clause-aliases c = are_aliases c.args.signed.now c.put_blocks.new.out.items c.requires.signs
    (from_nothing c.new-out.result.items c.put_blocks.new.out.items c.as_slice-marks.result.now c.args.signed.now.marks c.as_slice-blocks.result.now c.args.signed.now.program.blocks c.new-out.ensures.items c.as_slice-marks.ensures c.as_slice-blocks.ensures c.in_ok-put_blocks.ensures)

pub returns-clause-linked : goal.returns-clause-linked
returns-clause-linked c = are_linked c.args.signed.now c.put_blocks.new.out.items c.requires.signs
    (from_nothing c.new-out.result.items c.put_blocks.new.out.items c.as_slice-marks.result.now c.args.signed.now.marks c.as_slice-blocks.result.now c.args.signed.now.program.blocks c.new-out.ensures.items c.as_slice-marks.ensures c.as_slice-blocks.ensures c.in_ok-put_blocks.ensures)
