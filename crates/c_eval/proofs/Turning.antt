-- Work is left as long as the run has not ended.
use Rattle.std.proofs.Common.{◌≡◌, ℕ, suc, ◌<◌, ◌≤◌, refl, arith}
use Rattle.c_meaning.specs.declared.run.EvalEnd.{EvalEnd}
use Rattle.eval_parts.specs.declared.part.Now.{Now}
use Rattle.eval_parts.specs.declared.part.Now.TheVariants as now
use Rattle.c_eval.specs.Rest.{or_ended}

pub at_most : (n : Now) (work : ℕ) → or_ended n work ≤ suc work
at_most (now.Over end) work = omega arith
at_most _ work = omega arith

pub not_ended : (n : Now) (work : ℕ) → ((end : EvalEnd) → n ≡ now.Over end → ⊥) → or_ended n work ≡ suc work
not_ended (now.Over end) work none = absurd (none end refl)
not_ended _ work none = refl

pub lessens : (before after : Now) (work_before work_after : ℕ) → ((end : EvalEnd) → before ≡ now.Over end → ⊥) → work_after < work_before → or_ended after work_after < or_ended before work_before
lessens before after work_before work_after none less =
    let a : or_ended after work_after ≤ suc work_after = at_most after work_after in
    let b : or_ended before work_before ≡ suc work_before = not_ended before work_before none in
    omega arith
