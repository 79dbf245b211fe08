use Rattle.std.proofs.Common.{List, ℕ, refl, inl}
use Rattle.std.specs.Prelude.{IsTrue}
use Rattle.run_audit.specs.AuditLines.{passed_lines}
use Rattle.elf_image.specs.Layout.{fields_of}
use Rattle.mips_isa.specs.Image.{ImageFields}
use Rattle.run_audit.specs.Audits.{IsRefused, Passes, AuditedRun}
use Rattle.tool_words.specs.Commands.{Audit}
use Rattle.tool_outcomes.specs.Files.{Held}
use Rattle.tool_outcomes.specs.Outcomes.{TellsAudit}
use Rattle.tool_commands.specs.Passed.{IsPassed}
use Rattle.tool_outcomes.proofs.Calls.{refused_call, done_call, unpassed_call, run_of}
use Rattle.tool_commands.proofs.audit_file.audit_image.Goals as goal

pub returns-in-Err : goal.returns-in-Err
returns-in-Err g c =
    let w = c.args.words.now in
    refused_call (IsTrue (g.H.Shelf.tells c.args.shelf.now)) (g.H.Shelf.held c.args.shelf.now) _ _ _ (g.O.Sink.written c.args.out.now) (g.O.Sink.written c.report.new.out) _
    (Audit w.image.now w.input.now w.steps) _ c.in-Err.failure c.report.result c.in-Err.ensures.same c.in-Err.ensures.reads c.report.ensures.said c.report.ensures.silent

pub returns-in-Err-pass : goal.returns-in-Err-pass
returns-in-Err-pass g c =
    let w = c.args.words.now in
    let old : Held = g.H.Shelf.held c.args.shelf.now in
    let is = c.in-Ok.ensures.reads.ok in
    let error = c.in-Err-pass.error in
    unpassed_call (IsTrue (g.H.Shelf.tells c.args.shelf.now)) old _ _ _ (g.O.Sink.written c.args.out.now) (g.O.Sink.written c.report_error.new.out) _
    w.image.now w.input.now w.steps error c.report_error.result c.in-Ok.ensures.same
    (λ apart t. run_of old w.image.now w.input.now (λ (f : ImageFields) (n : List ℕ). IsRefused f n w.steps error) (fields_of c.in-Ok.loaded.image) c.in-Ok.loaded.feed.items
    (is t).0 (is t).1 (c.in-Err-pass.ensures.refused apart))
    c.report_error.ensures.said c.report_error.ensures.silent

pub returns-in-Ok-pass : goal.returns-in-Ok-pass
returns-in-Ok-pass g c =
    let w = c.args.words.now in
    let old : Held = g.H.Shelf.held c.args.shelf.now in
    let is = c.in-Ok.ensures.reads.ok in
    let fields : ImageFields = fields_of c.in-Ok.loaded.image in
    let numbers : List ℕ = c.in-Ok.loaded.feed.items in
    let passed = c.in-Ok-pass.passed in
    let held : IsPassed fields numbers w.steps passed = c.in-Ok-pass.ensures.passed in
    done_call (IsTrue (g.H.Shelf.tells c.args.shelf.now)) old _ _ _ (g.O.Sink.written c.args.out.now) (g.O.Sink.written c.write_passed.new.out) _
    (Audit w.image.now w.input.now w.steps) (passed_lines passed.made passed.windows) c.write_passed.result c.status_of_text.result c.in-Ok.ensures.same
    (λ t. (
      (((is t).0.0, (is t).0.1, (fields, (is t).0.2)), (((is t).1.0, (is t).1.1, (numbers, (is t).1.2)), tt)),
      run_of old w.image.now w.input.now (λ (f : ImageFields) (n : List ℕ). (made : ℕ) × Passes f n w.steps made) fields numbers (is t).0 (is t).1 (passed.made, held.passes),
    ))
    (λ t. run_of old w.image.now w.input.now (λ (f : ImageFields) (n : List ℕ). AuditedRun f n w.steps) fields numbers (is t).0 (is t).1 held.run)
    (λ t. tt)
    (λ t. run_of old w.image.now w.input.now (λ (f : ImageFields) (n : List ℕ). TellsAudit f n w.steps (passed_lines passed.made passed.windows)) fields numbers (is t).0 (is t).1
    (inl (passed.made, passed.windows, held.passes, held.windows, refl)))
    c.write_passed.ensures.writes c.status_of_text.ensures
