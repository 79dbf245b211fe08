use Rattle.std.proofs.Common.{◌≡◌, ◌<◌, subst}
use Rattle.eval_parts.specs.declared.part.Now.{Now}
use Rattle.c_eval.specs.Rest.{rest_of, work_of, or_ended}
use Rattle.c_eval.proofs.Turning.{lessens}
use Rattle.c_eval.proofs.machine.Machine.turn.Goals as goal

pub returns-in_ok-work-in_default : goal.returns-in_ok-work-in_default
returns-in_ok-work-in_default c =
    let before = c.args.self.now in
    let after = c.work.new.self in
    let less : or_ended after.now (work_of after after.now) < or_ended c.replace.result (work_of before c.replace.result) = lessens c.replace.result after.now (work_of before c.replace.result) (work_of after after.now) c.in_default.not-Over c.in_ok-work-in_default.ensures.falls in
    record {
      turned = subst (λ (n : Now). (rest_of before n ≡ rest_of after after.now) × (or_ended after.now (work_of after after.now) < or_ended n (work_of before n))) c.replace.ensures.value (c.in_ok-work-in_default.ensures.rest, less);
      wanting = tt;
    }
