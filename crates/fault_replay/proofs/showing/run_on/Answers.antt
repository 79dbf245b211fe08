use Rattle.std.proofs.Common.{arith, ◌≡◌, ◌+◌, ◌≤◌, ◌++◌, append_assoc, ◌∙◌, ap, subst, sym, ℕ, List}
use Rattle.std.specs.Prelude.{IsTrue, Option}
use Rattle.std.proofs.lemmas.Result.{err_from_is_err_and}
use Rattle.hard_words.specs.declared.Change.{Change}
use Rattle.mips_isa.specs.Machine.{State}
use Rattle.mips_isa.specs.Runs.{Ran, run}
use Rattle.mips_machine.specs.View.{state_of}
use Rattle.fault_replay.specs.Show.{word_lines, line_if_any}
use Rattle.fault_replay.proofs.Turns.{ended_early, lines_grow, more_state, more_lines}
use Rattle.fault_replay.proofs.Parts.{Part, part_front, part_behind}
use Rattle.fault_replay.proofs.showing.run_on.Goals as goal

pub returns-then-is_some-clause-ok : goal.returns-then-is_some-clause-ok
returns-then-is_some-clause-ok g c =
    let s : State = state_of c.args.machine.now in
    let le : c.loop-n.n ≤ c.args.steps = omega arith in
    let whole : run s c.args.change c.args.steps ≡ run s c.args.change c.loop-n.n =
    ended_early s c.args.change c.loop-n.n c.args.steps (state_of c.loop-n.machine) _ le c.loop-n.invariant.state c.is_some.ensures c.if-is_some.true in
    λ t. c.loop-n.invariant.written t ∙ ap (λ (r : Ran). g.O.Sink.written c.args.out.now ++ word_lines r.output) (sym whole)

pub returns-then-is_some-clause-state : goal.returns-then-is_some-clause-state
returns-then-is_some-clause-state g c =
    let s : State = state_of c.args.machine.now in
    let le : c.loop-n.n ≤ c.args.steps = omega arith in
    let whole : run s c.args.change c.args.steps ≡ run s c.args.change c.loop-n.n =
    ended_early s c.args.change c.loop-n.n c.args.steps (state_of c.loop-n.machine) _ le c.loop-n.invariant.state c.is_some.ensures c.if-is_some.true in
    c.loop-n.invariant.state ∙ ap (λ (r : Ran). r.state) (sym whole)

pub returns-in_err-show_word-clause-part : goal.returns-in_err-show_word-clause-part
returns-in_err-show_word-clause-part g c =
    let i = c.loop-n.invariant in
    let s : State = state_of c.args.machine.now in
    let ch : Option Change = c.args.change in
    let n : ℕ = c.loop-n.n in
    let le : n + 1 ≤ c.args.steps = omega arith in
    let lines : word_lines (run s ch (n + 1)).output ≡ word_lines (run s ch n).output ++ line_if_any c.turned-word.result =
    more_lines s ch n (state_of c.loop-n.machine) (state_of c.turned-word.new.machine) c.turned-word.result i.state c.turned-word.ensures in
    let longer : (more : List ℕ) × (word_lines (run s ch c.args.steps).output ≡ word_lines (run s ch (n + 1)).output ++ more) = lines_grow s ch (n + 1) c.args.steps le in
    let p = err_from_is_err_and c.from_residual.result c.from_residual.ensures.1 in
    rw p.1 (λ t.
    let part : Part (g.O.Sink.written c.loop-n.out) (g.O.Sink.written c.show_word.new.out) (line_if_any c.turned-word.result) = c.in_err-show_word.ensures.part (subst IsTrue (sym i.tells) t) in
    part_front _ _ (word_lines (run s ch (n + 1)).output) _ longer.0 longer.1
    (subst (λ (l : List ℕ). Part (g.O.Sink.written c.args.out.now) (g.O.Sink.written c.show_word.new.out) l) (sym lines)
    (part_behind _ (g.O.Sink.written c.loop-n.out) _ (word_lines (run s ch n).output) _ (i.written t) part)))

pub returns-in_err-show_word-clause-stopped : goal.returns-in_err-show_word-clause-stopped
returns-in_err-show_word-clause-stopped g c =
    let i = c.loop-n.invariant in
    let s : State = state_of c.args.machine.now in
    let ch : Option Change = c.args.change in
    let n : ℕ = c.loop-n.n in
    let m : State = state_of c.loop-n.machine in
    let next : State = state_of c.turned-word.new.machine in
    let lines : word_lines (run s ch (n + 1)).output ≡ word_lines (run s ch n).output ++ line_if_any c.turned-word.result =
    more_lines s ch n m next c.turned-word.result i.state c.turned-word.ensures in
    let p = err_from_is_err_and c.from_residual.result c.from_residual.ensures.1 in
    rw p.1 (
      n + 1,
      omega arith,
      more_state s ch n m next c.turned-word.result i.state c.turned-word.ensures,
      λ t.
          subst (λ (l : List ℕ). Part (g.O.Sink.written c.args.out.now) (g.O.Sink.written c.show_word.new.out) l) (sym lines)
          (part_behind _ (g.O.Sink.written c.loop-n.out) _ (word_lines (run s ch n).output) _ (i.written t) (c.in_err-show_word.ensures.part (subst IsTrue (sym i.tells) t))),
    )

pub loop-n-preserved : goal.loop-n-preserved
loop-n-preserved g c =
    let i = c.loop-n.invariant in
    let s : State = state_of c.args.machine.now in
    let ch : Option Change = c.args.change in
    let n : ℕ = c.loop-n.n in
    let m : State = state_of c.loop-n.machine in
    let next : State = state_of c.turned-word.new.machine in
    record {
      tells = c.show_word.ensures.tells ∙ i.tells;
      faults = omega (arith, i.faults, c.show_word.ensures.count);
      written = λ t. c.in_ok-show_word.ensures.ok (subst IsTrue (sym i.tells) t)
          ∙ (ap (λ (l : List ℕ). l ++ line_if_any c.turned-word.result) (i.written t)
          ∙ (append_assoc (g.O.Sink.written c.args.out.now) (word_lines (run s ch n).output) (line_if_any c.turned-word.result)
          ∙ ap (λ (l : List ℕ). g.O.Sink.written c.args.out.now ++ l) (sym (more_lines s ch n m next c.turned-word.result i.state c.turned-word.ensures))));
      state = more_state s ch n m next c.turned-word.result i.state c.turned-word.ensures;
    }
