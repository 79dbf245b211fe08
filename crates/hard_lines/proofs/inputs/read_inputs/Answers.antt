use Rattle.std.proofs.Common.{◌≡◌, ◌+◌, ◌++◌, [], take, drop, List, ℕ, ap, arith, length, length-drop, subst}
use Rattle.std.specs.List.{slice_split}
use Rattle.std.proofs.lemmas.Grind.{common_steps}
use Rattle.std.proofs.lemmas.Result.{err_from_is_err_and}
use Rattle.hard_lines.specs.Inputs.{Placed, is_line_feed, placed, placed_lines, placed_line}
use Rattle.hard_lines.proofs.Reading.{Reading, positive, lines_step_at, further, finish, refuse, inputs_refused, few_taken}
use Rattle.hard_lines.proofs.inputs.read_inputs.Goals as goal

pub returns-in_err-read_line-clause-err : goal.returns-in_err-read_line-clause-err
returns-in_err-read_line-clause-err c =
    let line : ℕ = c.loop-rest.line in
    let rest : List ℕ = c.loop-rest.rest.now in
    let end : ℕ = c.line_end-end.result in
    let step : placed_lines line (slice_split is_line_feed rest) ≡ placed_line line (take end rest) ++ placed_lines (line + 1) (slice_split is_line_feed (drop (end + 1) rest)) = lines_step_at line rest end c.line_end-end.ensures in
    let p = err_from_is_err_and c.from_residual.result c.from_residual.ensures.1 in
    rw (p.1, p.2) (inputs_refused c.args.bytes.now _ (refuse _ _ _ _ _ _ _ step c.loop-rest.invariant.reading c.in_err-read_line.ensures.err))

pub loop-rest-preserved : goal.loop-rest-preserved
loop-rest-preserved c =
    let line : ℕ = c.loop-rest.line in
    let rest : List ℕ = c.loop-rest.rest.now in
    let end : ℕ = c.line_end-end.result in
    let step : placed_lines line (slice_split is_line_feed rest) ≡ placed_line line (take end rest) ++ placed_lines (line + 1) (slice_split is_line_feed (drop (end + 1) rest)) = lines_step_at line rest end c.line_end-end.ensures in
    record {
      reading = rw c.behind-rest.ensures (further _ _ _ _ _ _ _ step c.loop-rest.invariant.reading c.in_ok-read_line.ensures.ok);
      lines = omega (arith, positive _ _ c.is_empty.ensures c.loop-rest-test.true, ap length c.behind-rest.ensures, length-drop (end + 1) rest, c.loop-rest.invariant.lines);
    }

pub returns-clause-few : goal.returns-clause-few
returns-clause-few c =
    let all : List Placed = placed c.args.bytes.now in
    let numbers : List ℕ = c.loop-rest.numbers.items in
    let empty : c.loop-rest.rest.now ≡ [] = grind (arith, common_steps) in
    few_taken c.args.bytes.now numbers (finish all [] numbers
    (subst (λ (rest : List ℕ). Reading all (placed_lines c.loop-rest.line (slice_split is_line_feed rest)) [] numbers) empty c.loop-rest.invariant.reading))
