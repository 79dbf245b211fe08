use Rattle.std.proofs.Common.{List, subst, inl}
use Rattle.std.specs.declared.alloc.Global.{Global}
use Rattle.std.specs.declared.string.String.{String}
use Rattle.std.specs.Prelude.{IsTrue}
use Rattle.hard_shelf.specs.Outside.{Rose}
use Rattle.tool_words.specs.Commands.{command}
use Rattle.tool_outcomes.specs.Files.{Held}
use Rattle.tool_outcomes.specs.Parts.{Leaves}
use Rattle.hardcc.proofs.run_words.Goals as goal

pub returns-in-Ok : goal.returns-in-Ok
returns-in-Ok g c =
    let old : Held = g.H.Shelf.held c.args.shelf.now in
    let new : Held = g.H.Shelf.held c.run_tool.new.shelf in
    let is = c.run_tool.ensures in
    inl (subst (λ (words : List (String Global)). Leaves (IsTrue (g.H.Shelf.tells c.args.shelf.now)) old new (Rose (g.H.Shelf.faults c.args.shelf.now) (g.H.Shelf.faults c.run_tool.new.shelf))
    (IsTrue (g.O.Sink.tells c.args.out.now)) (g.O.Sink.written c.args.out.now) (g.O.Sink.written c.run_tool.new.out) (Rose (g.O.Sink.faults c.args.out.now) (g.O.Sink.faults c.run_tool.new.out))
    (command words) c.run_tool.result) c.in-Ok.ensures (record {
      statuses = is.statuses;
      done = is.done;
      audited = is.audited;
      complete = is.complete;
      usage = is.usage;
      no_command = is.no_command;
      refused = is.refused;
      refuses = is.refuses;
      only_audits = is.only_audits;
      failed_audit = is.failed_audit;
      fails_audit = is.fails_audit;
      shelf_fault = is.shelf_fault;
      sink_fault = is.sink_fault;
      others = is.others;
      nothing_put = is.nothing_put;
      unless_accepted = is.unless_accepted;
      put_where_accepted = is.put_where_accepted;
      said = is.said;
      part_said = is.part_said;
      silent = is.silent;
      begun = is.begun;
    }))
