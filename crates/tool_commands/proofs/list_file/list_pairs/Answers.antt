use Rattle.std.proofs.Common.{refl}
use Rattle.std.specs.Prelude.{IsTrue}
use Rattle.elf_image.specs.Layout.{fields_of}
use Rattle.tool_words.specs.Commands.{ListPairs}
use Rattle.tool_outcomes.specs.Pairs.{pair_lines}
use Rattle.tool_outcomes.proofs.Calls.{refused_call, done_call}
use Rattle.tool_commands.proofs.list_file.list_pairs.Goals as goal

pub returns-in-Err : goal.returns-in-Err
returns-in-Err g c =
    refused_call (IsTrue (g.H.Shelf.tells c.args.shelf.now)) (g.H.Shelf.held c.args.shelf.now) _ _ _ (g.O.Sink.written c.args.out.now) (g.O.Sink.written c.report.new.out) _ (ListPairs c.args.words.now.image.now) _
    c.in-Err.failure c.report.result c.in-Err.ensures.same c.in-Err.ensures.reads c.report.ensures.said c.report.ensures.silent

pub returns-in-Ok : goal.returns-in-Ok
returns-in-Ok g c =
    let is = c.in-Ok.ensures.reads.ok in
    done_call (IsTrue (g.H.Shelf.tells c.args.shelf.now)) (g.H.Shelf.held c.args.shelf.now) _ _ _ (g.O.Sink.written c.args.out.now) (g.O.Sink.written c.write_pairs.new.out) _ (ListPairs c.args.words.now.image.now)
    (pair_lines (fields_of c.in-Ok.image)) c.write_pairs.result c.status_of_text.result c.in-Ok.ensures.same
    (λ t. ((((is t).0, (is t).1, (fields_of c.in-Ok.image, (is t).2)), tt), tt)) (λ t. tt) (λ t. tt)
    (λ t. ((is t).0, (is t).1, (fields_of c.in-Ok.image, (is t).2, refl)))
    c.write_pairs.ensures.writes c.status_of_text.ensures
