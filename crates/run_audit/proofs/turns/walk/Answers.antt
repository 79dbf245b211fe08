use Rattle.std.proofs.Common.{◌≡◌, ℕ, List, arith, subst}
use Rattle.mips_machine.specs.View.{state_of}
use Rattle.run_audit.specs.Turns.{stands, told_by}
use Rattle.run_audit.specs.declared.turns.Turn.TheVariants as turns
use Rattle.run_audit.proofs.CleanRun.{none_passed, clean_turn, reported_turn, misplaced_turn, early, whole, end_none}
use Rattle.run_audit.proofs.turns.walk.Goals as goal

pub loop-n-init : goal.loop-n-init
loop-n-init c = λ i feed y e b h. record { typed = y; starts = b; is = h; passed = none_passed i feed }

pub loop-n-preserved : goal.loop-n-preserved
loop-n-preserved c = λ i feed y e b h.
    clean_turn i feed c.args.bits.now c.loop-n.n (state_of c.loop-n.machine) (state_of c.make_step.new.machine) (c.loop-n.invariant i feed y e b h)
    (end_none (state_of c.loop-n.machine) c.is_some.result c.is_some.ensures c.if-is_some.false) c.in-Clean.ensures.state
    (subst (λ (t : List ℕ). turns.Clean ≡ told_by (stands t c.args.bits.now (state_of c.loop-n.machine)) c.make_step.new.machine.end) e c.in-Clean.ensures.told)

pub returns-in-Reported : goal.returns-in-Reported
returns-in-Reported c = λ i feed y e b h.
    reported_turn i feed c.args.bits.now c.loop-n.n c.args.steps (state_of c.loop-n.machine) (state_of c.make_step.new.machine) (omega (arith, c.loop-n-test.true)) (c.loop-n.invariant i feed y e b h)
    (end_none (state_of c.loop-n.machine) c.is_some.result c.is_some.ensures c.if-is_some.false) c.in-Reported.ensures.state
    (subst (λ (t : List ℕ). turns.Reported ≡ told_by (stands t c.args.bits.now (state_of c.loop-n.machine)) c.make_step.new.machine.end) e c.in-Reported.ensures.told)

pub returns-in-Misplaced : goal.returns-in-Misplaced
returns-in-Misplaced c = λ i feed y e b h.
    misplaced_turn i feed c.args.bits.now c.loop-n.n c.args.steps (state_of c.loop-n.machine) (state_of c.make_step.new.machine) (omega (arith, c.loop-n-test.true)) (c.loop-n.invariant i feed y e b h)
    (end_none (state_of c.loop-n.machine) c.is_some.result c.is_some.ensures c.if-is_some.false) c.in-Misplaced.ensures.state
    (subst (λ (t : List ℕ). turns.Misplaced ≡ told_by (stands t c.args.bits.now (state_of c.loop-n.machine)) c.make_step.new.machine.end) e c.in-Misplaced.ensures.told)

pub returns-then-is_some : goal.returns-then-is_some
returns-then-is_some c = λ i feed y e b h.
    early c.end_stays.ensures i feed c.args.bits.now c.loop-n.n c.args.steps (state_of c.loop-n.machine) c.is_some.result (omega arith) (c.loop-n.invariant i feed y e b h) c.is_some.ensures c.if-is_some.true

pub returns : goal.returns
returns c = λ i feed y e b h. whole i feed c.args.bits.now c.loop-n.n c.args.steps (state_of c.loop-n.machine) (omega arith) (c.loop-n.invariant i feed y e b h)
