use Rattle.std.specs.Prelude.{Option, is_some}
use Rattle.mips_isa.specs.declared.instr.End.{End}
use Rattle.std.proofs.Common.{ap, ◌∙◌, ◌≤◌, ◌+◌, arith, subst, sym, ℕ, List}
use Rattle.test_oracle.specs.Standing.{Came}
use Rattle.test_oracle.proofs.Going.{came_first, came_on, came_ended}
use Rattle.test_oracle.proofs.running.run_on.Goals as goal

pub steps-init : goal.steps-init
steps-init c =
    subst (λ (l : List ℕ). Came c.args.program.now c.args.input.now 0 l c.args.runner.now) (sym c.new-output.ensures)
    (came_first c.args.program.now c.args.input.now c.args.runner.now c.requires.start)

pub returns-then-is_some : goal.returns-then-is_some
returns-then-is_some c =
    let le : c.steps.counter ≤ c.args.steps = omega arith in
    came_ended c.args.program.now c.args.input.now c.steps.counter c.args.steps _ c.steps.runner c.is_some.result (c.is_some.ensures ∙ ap (λ (o : Option End). is_some o) c.end.ensures) c.if-is_some.true le c.steps.invariant

pub steps-preserved : goal.steps-preserved
steps-preserved c =
    subst (λ (l : List ℕ). Came c.args.program.now c.args.input.now (c.steps.counter + 1) l c.step-word.new.self) (sym c.in_ok-put.ensures)
    (came_on c.args.program.now c.args.input.now c.steps.counter _ c.steps.runner c.step-word.new.self c.step-word.result c.steps.invariant c.step-word.ensures)
