use Rattle.std.proofs.Common.{ap, ◌∙◌, ◌++◌, [], ◌∷◌}
use Rattle.hard_items.specs.declared.code.HardBlock.{HardBlock}
use Rattle.duplicate_pass.proofs.Parts.{block_put}
use Rattle.duplicate_pass.proofs.blocks.put_block.Goals as goal

pub returns : goal.returns
returns c = c.in_ok-push.ensures.ok ∙ ap (λ (k : HardBlock). c.args.out.now ++ k ∷ [])
    (block_put c.args.mid.now c.args.number c.args.block c.args.function.now c.args.places.now c.args.addresses.now c.args.tables.now.firsts.items c.args.tables.now.returns.items
    c.requires.tables c.requires.exists c.requires.ready c.requires.there
    c.as_slice.result.now c.index-as_slice-block.result c.as_slice.ensures c.index-as_slice-block.is
    c.index-first.result.now c.index-first.ensures
    c.new-items.result c.put_start.new.out c.put_steps.new.out c.put_end.new.out c.as_slice-2.result.now c.in_ok-successors.successors
    c.new-items.ensures c.in_ok-put_start.ensures c.in_ok-put_steps.ensures c.as_slice-2.ensures c.in_ok-put_end.ensures c.in_ok-successors.ensures)
