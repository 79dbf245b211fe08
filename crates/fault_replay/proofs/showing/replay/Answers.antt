use Rattle.std.proofs.Common.{arith, ◌≡◌, ◌++◌, ap, subst, sym, refl, ℕ, List}
use Rattle.std.specs.Prelude.{IsTrue}
use Rattle.std.proofs.lemmas.Result.{err_from_is_err_and, on_err_weaker}
use Rattle.mips_isa.specs.Machine.{State}
use Rattle.mips_isa.specs.Runs.{Ran, run}
use Rattle.mips_machine.specs.View.{state_of}
use Rattle.fault_replay.specs.Show.{word_lines, end_line, shown}
use Rattle.fault_replay.proofs.Parts.{Part, part_front, part_behind}
use Rattle.fault_replay.proofs.showing.replay.Goals as goal

pub returns-in_err-run_on-clause-part : goal.returns-in_err-run_on-clause-part
returns-in_err-run_on-clause-part g c =
    let R : Ran = run (state_of c.args.machine.now) c.args.change c.args.steps in
    let p = err_from_is_err_and c.from_residual.result c.from_residual.ensures.1 in
    rw p.1 (λ t. part_front _ _ (word_lines R.output) (shown R) (end_line R.state.end) refl (c.in_err-run_on.ensures.part t))

pub returns-in_err-run_on-clause-stopped : goal.returns-in_err-run_on-clause-stopped
returns-in_err-run_on-clause-stopped g c =
    let p = err_from_is_err_and c.from_residual.result c.from_residual.ensures.1 in
    let stopped = c.in_err-run_on.ensures.stopped in
    let R : Ran = run (state_of c.args.machine.now) c.args.change stopped.0 in
    rw p.1 (stopped.0, stopped.1, stopped.2, λ t. part_front _ _ (word_lines R.output) (shown R) (end_line R.state.end) refl (stopped.3 t))

pub returns-clause-stopped : goal.returns-clause-stopped
returns-clause-stopped g c =
    let R : Ran = run (state_of c.args.machine.now) c.args.change c.args.steps in
    let tail : end_line c.run_on.new.machine.end ≡ end_line R.state.end = ap (λ (q : State). end_line q.end) c.in_ok-run_on.ensures.state in
    on_err_weaker c.show_end.result (λ part. (
      c.args.steps,
      omega arith,
      c.in_ok-run_on.ensures.state,
      λ t.
          subst (λ (l : List ℕ). Part (g.O.Sink.written c.args.out.now) (g.O.Sink.written c.show_end.new.out) (word_lines R.output ++ l)) tail
          (part_behind _ (g.O.Sink.written c.run_on.new.out) _ (word_lines R.output) _ (c.in_ok-run_on.ensures.ok t) (part (subst IsTrue (sym c.run_on.ensures.tells) t))),
    )) c.show_end.ensures.part

pub returns-clause-part : goal.returns-clause-part
returns-clause-part g c =
    let R : Ran = run (state_of c.args.machine.now) c.args.change c.args.steps in
    let tail : end_line c.run_on.new.machine.end ≡ end_line R.state.end = ap (λ (q : State). end_line q.end) c.in_ok-run_on.ensures.state in
    on_err_weaker c.show_end.result (λ part t.
    subst (λ (l : List ℕ). Part (g.O.Sink.written c.args.out.now) (g.O.Sink.written c.show_end.new.out) (word_lines R.output ++ l)) tail
    (part_behind _ (g.O.Sink.written c.run_on.new.out) _ (word_lines R.output) _ (c.in_ok-run_on.ensures.ok t) (part (subst IsTrue (sym c.run_on.ensures.tells) t)))) c.show_end.ensures.part
