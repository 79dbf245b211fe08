-- What setting the checks and the order of the streams leave, one behind the other.
use Rattle.std.proofs.Common.{◌≡◌, ◌≤◌, ℕ, ◌+◌, arith, ap, sym, ◌∙◌, subst, List, length}
use Rattle.std.specs.Prelude.{not, true, ◌==◌, sum_by, All, Result, Ok, Err, IfOk}
use Rattle.std.specs.List.{list_any}
use Rattle.hard_runs.proofs.Observed.{same_transitive}
use Rattle.mips_isa.specs.declared.instr.End.{End}
use Rattle.hard_items.specs.declared.code.HardProgram.{HardProgram}
use Rattle.hard_items.specs.Run.{item_run}
use Rattle.hard_items.specs.Rules.{Apart, Guarded, NeverReports, Twin}
use Rattle.hard_items.specs.declared.code.Item.{Item}
use Rattle.hard_items.specs.Streams.{touched}
use Rattle.hard_items.specs.Counts.{Calm, Turned, TurnedThrough, branches, room}
use Rattle.hard_items.specs.Runs.{SameRuns}
use Rattle.hard_items.specs.Counted.{HasNoFreeNop, AreBusy}
use Rattle.compare_pass.specs.Guarding.{checked_program}
use Rattle.compare_pass.specs.Law.{SameCounts}
use Rattle.block_schedule.specs.Scheduling.{scheduled_program}
use Rattle.block_schedule.specs.Law.{KeepsCounts}
use Rattle.harden.specs.HardenChainSteps.{IsOrdered}

pub both_same : (p g q : HardProgram) → SameRuns p g → SameRuns g q → SameRuns p q
both_same p g q a b input w = same_transitive End (item_run q input) (item_run g input) (item_run p input) (b input w) (a input w)

-- what the order asks for stays with the checks
still_free : (p g : HardProgram) → SameCounts p g → HasNoFreeNop p → HasNoFreeNop g
still_free p g c free x = c.free_nops_same x ∙ free x

still_busy : (p g : HardProgram) → SameCounts p g → AreBusy p → AreBusy g
still_busy p g c busy x = subst (λ (l : List Item). All (λ i. list_any (λ r. not (r == 0)) (touched i.instr) ≡ true) l) (sym (c.streams_same x)) (busy x)

pub ordered : (p g q : HardProgram) → HasNoFreeNop p → AreBusy p → SameRuns p g → Guarded g → Twin g → SameCounts p g → g.initial ≡ p.initial → g.memory_words ≡ p.memory_words →
    SameRuns g q → Apart q → (NeverReports g → NeverReports q) → (Guarded g → Guarded q) → Calm q → KeepsCounts g q →
    (HasNoFreeNop g → AreBusy g → Turned q) → (HasNoFreeNop g → AreBusy g → TurnedThrough q) → q.initial ≡ g.initial → q.memory_words ≡ g.memory_words → IsOrdered p q
ordered p g q free busy a guarded twin c i m b apart quiet checks calm k turn through j n = record {
  comes = record {
    same_runs = both_same p g q a b;
    in_order = record {
      apart = apart;
      guarded = checks guarded;
      calm = calm;
      turned = turn (still_free p g c free) (still_busy p g c busy);
      turned_through = through (still_free p g c free) (still_busy p g c busy);
      never_reports = quiet twin.never_reports;
    };
    few = by (length q.blocks) (length p.blocks) (sum_by (λ b. branches b.items) q.blocks) (sum_by (λ b. branches b.items) p.blocks) blocks branches_same;
    room_within = subst (λ (z : ℕ). room q ≤ z) c.room_same (k.room_not_raised (still_free p g c free));
    reloads_same = k.reloads_same ∙ c.reloads_same;
    initial = j ∙ i;
    memory = n ∙ m;
  };
  blocks = blocks;
  branches_same = branches_same;
}
  where
    blocks : length q.blocks ≡ length p.blocks
    blocks = k.blocks ∙ c.blocks

    branches_same : sum_by (λ b. branches b.items) q.blocks ≡ sum_by (λ b. branches b.items) p.blocks
    branches_same = k.branches_same ∙ c.branches_same

    by : (a b x y : ℕ) → a ≡ b → x ≡ y → a + x ≤ b + y
    by a b x y e f = omega (arith, e, f)

-- what the order of a guarded program gives
pub order_given : {E : Type 0} (p g : HardProgram) (r : Result HardProgram E) → HasNoFreeNop p → AreBusy p → g ≡ checked_program p → SameRuns p g → Guarded g → Twin g → SameCounts p g →
    IfOk r (λ q. q ≡ scheduled_program g) → IfOk r (SameRuns g) → IfOk r Apart → IfOk r (λ q. NeverReports g → NeverReports q) → IfOk r (λ q. Guarded g → Guarded q) → IfOk r Calm → IfOk r (KeepsCounts g) →
    IfOk r (λ q. HasNoFreeNop g → AreBusy g → Turned q) → IfOk r (λ q. HasNoFreeNop g → AreBusy g → TurnedThrough q) → IfOk r (IsOrdered p)
order_given p g (Ok q) free busy is guarded_runs guarded twin c order b apart quiet checks calm k turn through =
    ordered p g q free busy guarded_runs guarded twin c (ap (λ (z : HardProgram). z.initial) is) (ap (λ (z : HardProgram). z.memory_words) is) b apart quiet checks calm k turn through
    (ap (λ (z : HardProgram). z.initial) order) (ap (λ (z : HardProgram). z.memory_words) order)
order_given p g (Err e) free busy is guarded_runs guarded twin c order b apart quiet checks calm k turn through = tt
