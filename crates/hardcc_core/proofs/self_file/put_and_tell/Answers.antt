use Rattle.std.specs.Prelude.{IsTrue}
use Rattle.tool_words.specs.Commands.{self_image}
use Rattle.tool_outcomes.specs.Summaries.{summary_lines}
use Rattle.tool_outcomes.proofs.Calls.{put_told}
use Rattle.hardcc_core.proofs.self_file.put_and_tell.Goals as goal

pub returns-in-Ok : goal.returns-in-Ok
returns-in-Ok g c =
    put_told (IsTrue (g.H.Shelf.tells c.args.shelf.now)) (g.H.Shelf.held c.args.shelf.now) (g.H.Shelf.held c.put.new.self) _ _ (g.O.Sink.written c.args.out.now) (g.O.Sink.written c.write_summary.new.out) _
    self_image c.args.file.now (summary_lines c.args.told.bytes c.args.told.counted c.args.told.end) c.write_summary.result c.status_of_text.result
    c.in-Ok.ensures.ok c.in-Ok.ensures.others c.write_summary.ensures.writes c.status_of_text.ensures
