use Rattle.std.proofs.Common.{List, ℕ, ap, sym}
use Rattle.std.specs.Prelude.{IsTrue}
use Rattle.c_meaning.specs.Meaning.{run_of}
use Rattle.check_rules.specs.Limits.{Resolved, resolved_names}
use Rattle.compile_rules.proofs.Exclusive.{accepted}
use Rattle.eval_show.specs.EvalLines.{shown}
use Rattle.tool_words.specs.Commands.{Eval}
use Rattle.tool_outcomes.specs.Files.{Held}
use Rattle.tool_outcomes.proofs.Calls.{refused_call, shown_call}
use Rattle.tool_commands.proofs.eval_file.eval_source.Goals as goal

pub returns-in-Err : goal.returns-in-Err
returns-in-Err g c =
    let w = c.args.words.now in
    refused_call (IsTrue (g.H.Shelf.tells c.args.shelf.now)) (g.H.Shelf.held c.args.shelf.now) _ _ _ (g.O.Sink.written c.args.out.now) (g.O.Sink.written c.report.new.out) _
    (Eval w.source.now w.input.now w.turns) _ c.in-Err.failure c.report.result c.in-Err.ensures.same c.in-Err.ensures.reads c.report.ensures.said c.report.ensures.silent

pub returns-in-Ok : goal.returns-in-Ok
returns-in-Ok g c =
    let w = c.args.words.now in
    let old : Held = g.H.Shelf.held c.args.shelf.now in
    let is = c.in-Ok.ensures.reads.ok in
    let made : Resolved = c.in-Ok.checked in
    let numbers : List ℕ = c.in-Ok.feed.items in
    shown_call (IsTrue (g.H.Shelf.tells c.args.shelf.now)) old _ _ _ (g.O.Sink.written c.args.out.now) (g.O.Sink.written c.show_run.new.out) _
    w.source.now w.input.now w.turns (shown (run_of (resolved_names made) made.program numbers w.turns)) c.show_run.result c.status_of_run.result c.in-Ok.ensures.same
    (λ t. (((is t).0.0, (is t).0.1, accepted (is t).0.0 made (is t).0.2), (((is t).1.0, (is t).1.1, (numbers, (is t).1.2)), tt)))
    (λ t.
    let from = (is t).0.2 in
    ((is t).0.0, (is t).0.1, (from.program, from.is_source, ((is t).1.0, (is t).1.1, (numbers, (is t).1.2, ap shown (sym (c.same_run.ensures from.program made from.shaped from.is_checked numbers w.turns)))))))
    c.show_run.ensures.ok c.show_run.ensures.fault c.show_run.ensures.part c.status_of_run.ensures
