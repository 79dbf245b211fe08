use Rattle.std.proofs.Common.{List, ℕ, Some, ap, refl, inr}
use Rattle.std.specs.Prelude.{IsTrue}
use Rattle.elf_image.specs.Layout.{fields_of}
use Rattle.fault_replay.specs.Show.{shown}
use Rattle.hard_words.specs.declared.Change.{Change}
use Rattle.mips_isa.specs.Machine.{State}
use Rattle.mips_isa.specs.Runs.{run}
use Rattle.mips_machine.specs.View.{state_of}
use Rattle.tool_words.specs.Commands.{RunChanged}
use Rattle.tool_outcomes.proofs.Calls.{refused_call, done_call, memory_failed}
use Rattle.tool_commands.proofs.run_file.run_changed.Goals as goal

pub returns-in-Err : goal.returns-in-Err
returns-in-Err g c =
    let w = c.args.words.now in
    refused_call (IsTrue (g.H.Shelf.tells c.args.shelf.now)) (g.H.Shelf.held c.args.shelf.now) _ _ _ (g.O.Sink.written c.args.out.now) (g.O.Sink.written c.report.new.out) _
    (RunChanged w.image.now w.input.now w.steps w.fault.now) _ c.in-Err.failure c.report.result c.in-Err.ensures.same c.in-Err.ensures.reads c.report.ensures.said c.report.ensures.silent

pub returns-in-Ok-booted : goal.returns-in-Ok-booted
returns-in-Ok-booted g c =
    let w = c.args.words.now in
    let is = c.in-Ok.ensures.reads.ok in
    let fields = fields_of c.in-Ok.loaded.image in
    let numbers : List ℕ = c.in-Ok.loaded.feed.items in
    let change : Change = c.in-Ok.change in
    done_call (IsTrue (g.H.Shelf.tells c.args.shelf.now)) (g.H.Shelf.held c.args.shelf.now) _ _ _ (g.O.Sink.written c.args.out.now) (g.O.Sink.written c.replay.new.out) _
    (RunChanged w.image.now w.input.now w.steps w.fault.now) (shown (run (state_of c.in-Ok-booted.machine) (Some change) w.steps)) c.replay.result c.status_of_text.result c.in-Ok.ensures.same
    (λ t. ((((is t).0.0.0, (is t).0.0.1, (fields, (is t).0.0.2)), (((is t).0.1.0, (is t).0.1.1, (numbers, (is t).0.1.2)), (((is t).1.0, (is t).1.1, (change, (is t).1.2)), tt))), tt))
    (λ t. tt)
    (λ t. tt)
    (λ t. (
      (is t).1.0,
      (is t).1.1,
      (
        change,
        (is t).1.2,
        ((is t).0.0.0, (is t).0.0.1, (fields, (is t).0.0.2, ((is t).0.1.0, (is t).0.1.1, (numbers, (is t).0.1.2, ap (λ (s : State). shown (run s (Some change) w.steps)) c.in-Ok-booted.ensures)))),
      ),
    ))
    (record { ok = c.replay.ensures.ok; fault = c.replay.ensures.fault; part = c.replay.ensures.part }) c.status_of_text.ensures

pub returns-in-Err-booted : goal.returns-in-Err-booted
returns-in-Err-booted g c =
    let w = c.args.words.now in
    let quiet = c.report-in-Err-booted.ensures.silent (inr refl) in
    memory_failed (IsTrue (g.H.Shelf.tells c.args.shelf.now)) (g.H.Shelf.held c.args.shelf.now) _ _ _ (g.O.Sink.written c.args.out.now) (g.O.Sink.written c.report-in-Err-booted.new.out) _
    (RunChanged w.image.now w.input.now w.steps w.fault.now) c.report-in-Err-booted.result (λ t. c.in-Ok.ensures.same) quiet.0 quiet.1
