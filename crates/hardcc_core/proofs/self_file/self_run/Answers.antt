use Rattle.std.proofs.Common.{◌≡◌, ◌∙◌, List, ℕ, [], Some, None, length, ap, refl, subst, sym}
use Rattle.std.specs.Prelude.{IsTrue}
use Rattle.elf_image.specs.Held.{IsImage}
use Rattle.mips_isa.specs.Image.{boot_state}
use Rattle.mips_isa.specs.Runs.{Ran, run}
use Rattle.program_maker.specs.Text.{made_text}
use Rattle.tool_words.specs.Commands.{SelfRun, self_image}
use Rattle.tool_outcomes.specs.Files.{Held}
use Rattle.tool_outcomes.specs.Summaries.{summary, summary_lines}
use Rattle.tool_outcomes.proofs.Calls.{refused_call, put_call}
use Rattle.tool_outcomes.proofs.Reading.{made_reads}
use Rattle.hardcc_core.proofs.self_file.self_run.Goals as goal

pub returns-in-Err : goal.returns-in-Err
returns-in-Err g c =
    let w = c.args.words.now in
    let old : Held = g.H.Shelf.held c.args.shelf.now in
    refused_call (IsTrue (g.H.Shelf.tells c.args.shelf.now)) old old _ _ (g.O.Sink.written c.args.out.now) (g.O.Sink.written c.report.new.out) _ (SelfRun w.number w.size w.steps) _
    c.in-Err.failure c.report.result (λ name. refl) (made_reads _ old _ w.number w.size c.in-Err.failure c.in-Err.ensures.explained) c.report.ensures.said c.report.ensures.silent

pub returns-in-Ok : goal.returns-in-Ok
returns-in-Ok g c =
    let w = c.args.words.now in
    let old : Held = g.H.Shelf.held c.args.shelf.now in
    let new : Held = g.H.Shelf.held c.put_and_tell.new.shelf in
    let is = c.in-Ok.ensures.ok in
    let told = c.in-Ok.told in
    let same : summary_lines told.bytes told.counted told.end ≡ summary (length (made_text w.number w.size)) (run (boot_state is.fields []) None w.steps) = rw (is.bytes, is.counted, is.end) refl in
    put_call (IsTrue (g.H.Shelf.tells c.args.shelf.now)) old new _ _ (g.O.Sink.written c.args.out.now) (g.O.Sink.written c.put_and_tell.new.out) _ (SelfRun w.number w.size w.steps) self_image c.deref.result.now _ c.put_and_tell.result
    (λ t. (((made_text w.number w.size, refl, is.accepted), tt), tt))
    (λ t. tt)
    (λ t put. (c.deref.result.now, put, (record { fields = is.fields; file = subst (λ (to : List ℕ). IsImage to is.fields) (sym c.deref.ensures.value) is.image; compiles = is.compiles }, c.deref.ensures.value ∙ is.written)))
    refl
    (λ t put. (c.deref.result.now, put, (is.fields, subst (λ (to : List ℕ). IsImage to is.fields) (sym c.deref.ensures.value) is.image, same)))
    c.put_and_tell.ensures
