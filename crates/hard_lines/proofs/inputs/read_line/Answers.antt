use Rattle.std.proofs.Common.{◌≡◌, ◌+◌, ◌++◌, take, drop, List, ℕ}
use Rattle.std.proofs.lemmas.Result.{err_from_is_err_and}
use Rattle.hard_lines.specs.Inputs.{placed_piece, placed_line}
use Rattle.hard_lines.proofs.Reading.{line_step_at, further, refuse}
use Rattle.hard_lines.proofs.inputs.read_line.Goals as goal

pub returns-in_err-read_piece-clause-err : goal.returns-in_err-read_piece-clause-err
returns-in_err-read_piece-clause-err c =
    let line : ℕ = c.args.line in
    let rest : List ℕ = c.loop-rest.rest.now in
    let end : ℕ = c.piece_end-end.result in
    let step : placed_line line rest ≡ placed_piece line (take end rest) ++ placed_line line (drop (end + 1) rest) = line_step_at line rest end c.piece_end-end.ensures in
    let p = err_from_is_err_and c.from_residual.result c.from_residual.ensures.1 in
    rw (p.1, p.2) (refuse _ _ _ _ _ _ _ step c.loop-rest.invariant c.in_err-read_piece.ensures.err)

pub loop-rest-preserved : goal.loop-rest-preserved
loop-rest-preserved c =
    let line : ℕ = c.args.line in
    let rest : List ℕ = c.loop-rest.rest.now in
    let end : ℕ = c.piece_end-end.result in
    let step : placed_line line rest ≡ placed_piece line (take end rest) ++ placed_line line (drop (end + 1) rest) = line_step_at line rest end c.piece_end-end.ensures in
    rw c.behind-rest.ensures (further _ _ _ _ _ _ _ step c.loop-rest.invariant c.in_ok-read_piece.ensures.ok)
