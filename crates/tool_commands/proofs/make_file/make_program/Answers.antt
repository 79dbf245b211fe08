use Rattle.std.proofs.Common.{◌∙◌, Some, ap, refl}
use Rattle.std.specs.Prelude.{IsTrue}
use Rattle.tool_words.specs.Commands.{Make}
use Rattle.tool_outcomes.specs.Files.{Held}
use Rattle.tool_outcomes.proofs.Calls.{put_call}
use Rattle.tool_commands.proofs.make_file.make_program.Goals as goal

pub returns-in-Ok : goal.returns-in-Ok
returns-in-Ok g c =
    let w = c.args.words.now in
    let old : Held = g.H.Shelf.held c.args.shelf.now in
    let new : Held = g.H.Shelf.held c.put_and_say.new.shelf in
    put_call (IsTrue (g.H.Shelf.tells c.args.shelf.now)) old new _ _ (g.O.Sink.written c.args.out.now) (g.O.Sink.written c.put_and_say.new.out) _ (Make w.number w.size w.out.now) w.out.now c.deref.result.now _
    c.put_and_say.result (λ t. (tt, tt)) (λ t. tt) (λ t put. put ∙ ap Some (c.deref.ensures.value ∙ c.in-Ok.ensures)) refl (λ t put. refl) c.put_and_say.ensures
