use Rattle.std.proofs.Common.{◌≡◌, refl, sym, subst, ap, ℕ, List, ◌++◌}
use Rattle.std.specs.Prelude.{OnOk}
use Rattle.hard_items.specs.Run.{items_of}
use Rattle.hard_items.specs.Heads.{headed}
use Rattle.code_layout.specs.Starts.{AllPut, put_words}
use Rattle.code_layout.proofs.Written.{block_puts, marked_puts, bare_puts, put_same}
use Rattle.code_layout.proofs.laid.put_block.Goals as goal

pub bounds-starts-block : goal.bounds-starts-block
bounds-starts-block c = (block_puts c.args.signed.now c.args.block c.args.starts.now _ _ c.requires.laying c.requires.there c.requires.table refl refl).there

pub bounds-starts-block-2 : goal.bounds-starts-block-2
bounds-starts-block-2 c = (block_puts c.args.signed.now c.args.block c.args.starts.now _ _ c.requires.laying c.requires.there c.requires.table refl refl).next

pub put_headed-requires-clause-aligned : goal.put_headed-requires-clause-aligned
put_headed-requires-clause-aligned c = (marked_puts c.index-blocks-block.result c.requires.laying c.requires.there c.requires.table c.as_slice-entries.ensures c.as_slice-blocks.ensures c.index-blocks-block.is c.as_slice-items.ensures c.get.ensures c.in-Some.is).aligned

pub put_headed-requires-clause-low : goal.put_headed-requires-clause-low
put_headed-requires-clause-low c = (marked_puts c.index-blocks-block.result c.requires.laying c.requires.there c.requires.table c.as_slice-entries.ensures c.as_slice-blocks.ensures c.index-blocks-block.is c.as_slice-items.ensures c.get.ensures c.in-Some.is).low

pub put_headed-requires-clause-back_low : goal.put_headed-requires-clause-back_low
put_headed-requires-clause-back_low c = (marked_puts c.index-blocks-block.result c.requires.laying c.requires.there c.requires.table c.as_slice-entries.ensures c.as_slice-blocks.ensures c.index-blocks-block.is c.as_slice-items.ensures c.get.ensures c.in-Some.is).back_low

pub put_headed-requires-clause-fits : goal.put_headed-requires-clause-fits
put_headed-requires-clause-fits c = (marked_puts c.index-blocks-block.result c.requires.laying c.requires.there c.requires.table c.as_slice-entries.ensures c.as_slice-blocks.ensures c.index-blocks-block.is c.as_slice-items.ensures c.get.ensures c.in-Some.is).fits

pub put_items-requires-clause-aligned : goal.put_items-requires-clause-aligned
put_items-requires-clause-aligned c = (bare_puts c.index-blocks-block.result c.requires.laying c.requires.there c.requires.table c.as_slice-entries.ensures c.as_slice-blocks.ensures c.index-blocks-block.is c.as_slice-items.ensures c.get.ensures c.in-None.is).aligned

pub put_items-requires-clause-low : goal.put_items-requires-clause-low
put_items-requires-clause-low c = (bare_puts c.index-blocks-block.result c.requires.laying c.requires.there c.requires.table c.as_slice-entries.ensures c.as_slice-blocks.ensures c.index-blocks-block.is c.as_slice-items.ensures c.get.ensures c.in-None.is).low

pub put_items-requires-clause-back_low : goal.put_items-requires-clause-back_low
put_items-requires-clause-back_low c = (bare_puts c.index-blocks-block.result c.requires.laying c.requires.there c.requires.table c.as_slice-entries.ensures c.as_slice-blocks.ensures c.index-blocks-block.is c.as_slice-items.ensures c.get.ensures c.in-None.is).back_low

pub put_items-requires-clause-fits : goal.put_items-requires-clause-fits
put_items-requires-clause-fits c = (bare_puts c.index-blocks-block.result c.requires.laying c.requires.there c.requires.table c.as_slice-entries.ensures c.as_slice-blocks.ensures c.index-blocks-block.is c.as_slice-items.ensures c.get.ensures c.in-None.is).fits

pub returns-in-Some : goal.returns-in-Some
returns-in-Some c = put_same c.put_headed.result c.put_headed.new.out.items c.args.out.now.items c.put_headed.ensures (marked_puts c.index-blocks-block.result c.requires.laying c.requires.there c.requires.table c.as_slice-entries.ensures c.as_slice-blocks.ensures c.index-blocks-block.is c.as_slice-items.ensures c.get.ensures c.in-Some.is).same

pub returns-in-None : goal.returns-in-None
returns-in-None c = put_same c.put_items.result c.put_items.new.out.items c.args.out.now.items c.put_items.ensures (bare_puts c.index-blocks-block.result c.requires.laying c.requires.there c.requires.table c.as_slice-entries.ensures c.as_slice-blocks.ensures c.index-blocks-block.is c.as_slice-items.ensures c.get.ensures c.in-None.is).same
