use Rattle.std.proofs.Common.{sym, subst, List, ℕ, refl}
use Rattle.std.specs.Prelude.{IsTrue}
use Rattle.tool_words.specs.Commands.{Command, Compile}
use Rattle.tool_outcomes.specs.Edges.{IsImageFor}
use Rattle.tool_outcomes.specs.Files.{Held}
use Rattle.tool_outcomes.proofs.Reading.{rises}
use Rattle.tool_outcomes.proofs.Calls.{refused_call, put_call, put_moved}
use Rattle.tool_commands.proofs.compile_source.compile_file.Goals as goal

pub returns-in-Err : goal.returns-in-Err
returns-in-Err g c =
    refused_call (IsTrue (g.H.Shelf.tells c.args.shelf.now)) (g.H.Shelf.held c.args.shelf.now) _ _ _ (g.O.Sink.written c.args.out.now) (g.O.Sink.written c.report.new.out) _ (Compile c.args.words.now.edges c.args.words.now.source.now c.args.words.now.image.now) _
    c.in-Err.failure c.report.result c.in-Err.ensures.same c.in-Err.ensures.reads c.report.ensures.said c.report.ensures.silent

pub returns-in-Ok : goal.returns-in-Ok
returns-in-Ok g c =
    let old : Held = g.H.Shelf.held c.args.shelf.now in
    let mid : Held = g.H.Shelf.held c.take_compiled.new.shelf in
    let new : Held = g.H.Shelf.held c.put_and_say.new.shelf in
    let command : Command = Compile c.args.words.now.edges c.args.words.now.source.now c.args.words.now.image.now in
    let is = c.in-Ok.ensures.reads.ok in
    put_call (IsTrue (g.H.Shelf.tells c.args.shelf.now)) old new _ _ (g.O.Sink.written c.args.out.now) (g.O.Sink.written c.put_and_say.new.out) _ command c.args.words.now.image.now c.deref.result.now _ c.put_and_say.result
    (λ t. ((((is t).0, (is t).1, (is t).2.0), tt), tt))
    (λ t. tt)
    (λ t put. ((is t).0, (is t).1, (c.deref.result.now, put, subst (λ (to : List ℕ). IsImageFor c.args.words.now.edges (is t).0 to) (sym c.deref.ensures.value) (is t).2.1)))
    refl (λ t put. refl)
    (put_moved _ _ old mid new _ _ _ _ _ _ _ _ _ _ c.in-Ok.ensures.tells c.in-Ok.ensures.same (λ rose. rises _ _ _ c.in-Ok.ensures.count rose) c.put_and_say.ensures)
