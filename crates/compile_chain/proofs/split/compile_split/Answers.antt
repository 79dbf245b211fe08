use Rattle.elf_image.specs.Layout.{fields_of}
use Rattle.compile_chain.proofs.Sources.{compiles_split, labelled}
use Rattle.compile_chain.proofs.split.compile_split.Goals as goal

pub split_checked-requires-clause-labelled : goal.split_checked-requires-clause-labelled
split_checked-requires-clause-labelled c = labelled c.args.source.now c.in-Ok.checked c.parsed_is_labelled.ensures c.stays_labelled.ensures c.in-Ok.ensures.ok

pub returns-clause-ok : goal.returns-clause-ok
returns-clause-ok c = compiles_split c.args.source.now c.in-Ok.checked (fields_of c.in-Ok-split_checked.image) c.lowered_is_hardened.ensures c.nodes_stay.ensures c.stays_light.ensures c.in-Ok.ensures.ok c.in-Ok-split_checked.ensures
