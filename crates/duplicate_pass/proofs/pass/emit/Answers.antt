use Rattle.std.proofs.Common.{ℕ, List, ap, sym, ◌∙◌, subst, flat_map}
use Rattle.double_law.specs.Program.{doubled}
use Rattle.duplicate_pass.specs.Emits.{GlobalsKnown}
use Rattle.duplicate_pass.specs.Ready.{AllReady}
use Rattle.duplicate_pass.proofs.Facts.{globals_known, all_ready, count_few}
use Rattle.duplicate_pass.proofs.Doubled.{places_enough}
use Rattle.duplicate_pass.proofs.Parts.{program_put}
use Rattle.duplicate_pass.proofs.pass.emit.Goals as goal

pub put_functions-requires-clause-globals : goal.put_functions-requires-clause-globals
put_functions-requires-clause-globals c = subst (GlobalsKnown c.args.mid.now) (sym c.as_slice.ensures) (globals_known c.args.mid.now c.args.plan.now c.requires.valid c.requires.plan)

pub put_functions-requires-clause-few : goal.put_functions-requires-clause-few
put_functions-requires-clause-few c = count_few c.args.mid.now c.requires.valid

pub put_functions-requires-clause-ready : goal.put_functions-requires-clause-ready
put_functions-requires-clause-ready c = subst (λ (l : List ℕ). AllReady c.args.mid.now l c.args.places.now) (sym c.as_slice.ensures) (all_ready c.args.mid.now c.args.plan.now c.args.places.now c.requires.valid c.requires.fit c.requires.plan)

pub put_functions-requires-clause-places : goal.put_functions-requires-clause-places
put_functions-requires-clause-places c = places_enough c.args.mid.now c.args.places.now c.requires.fit

pub returns : goal.returns
returns c = program_put c.args.mid.now c.args.places.now c.in_ok-tables.tables.firsts.items c.in_ok-tables.tables.returns.items c.new-blocks.result c.put_outer.new.out c.blocks-3.inside.items.items c.from_vec.result c.in_ok-doubled_words.field-0 c.args.plan.now.memory_words
    c.in_ok-tables.ensures c.from_vec.ensures c.new-blocks.ensures c.in_ok-put_outer.ensures (c.blocks-3.view_is ∙ c.in_ok-put_functions.ensures) (c.in_ok-doubled_words.ensures ∙ ap (λ (gs : List (List ℕ)). doubled (flat_map (λ words. words) gs)) c.as_slice-2.ensures) c.requires.plan.memory_words
