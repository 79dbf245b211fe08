use Rattle.std.proofs.Common.{arith, ◌∙◌}
use Rattle.std.proofs.lemmas.Result.{err_from_is_err_and}
use Rattle.tool_outcomes.specs.Pairs.{alias_line}
use Rattle.tool_outcomes.proofs.Reading.{rises}
use Rattle.tool_outcomes.proofs.Writing.{line_stopped}
use Rattle.tool_commands.proofs.list_file.write_aliases.Goals as goal

pub returns-in_err-write-clause-writes : goal.returns-in_err-write-clause-writes
returns-in_err-write-clause-writes g c =
    let i = c.loop-alias.invariant in
    let p = err_from_is_err_and c.from_residual.result c.from_residual.ensures.1 in
    rw p.1 (line_stopped (g.O.Sink.tells c.args.out.now) (g.O.Sink.tells c.loop-alias.out) (g.O.Sink.written c.args.out.now) (g.O.Sink.written c.loop-alias.out) (g.O.Sink.written c.write.new.self) _ _
    alias_line c.args.aliases.now c.loop-alias.alias-index (0, 0) c.as_slice.result.now _ i.tells (omega arith) i.written (λ rose. rises _ _ _ i.faults rose)
    (c.as_slice.ensures.value ∙ c.alias_line.ensures) c.in_err-write.ensures.fault c.in_err-write.ensures.part)
