use Rattle.std.proofs.Common.{◌≡◌, ◌+◌, ℕ, length, ap, sym, ◌∙◌, arith}
use Rattle.mid_prune.proofs.Marking.{before_none, before_more, before_same, before_few, pushed_counts}
use Rattle.mid_prune.proofs.numbers.counts.Goals as goal
use Rattle.mid_prune.proofs.numbers.counts.Goals.{then-get, else-get}

pub loop-at-init : goal.loop-at-init
loop-at-init c = record {
  long = ap length c.new-counts.ensures.items;
  each = λ i h. absurd (omega (arith, h));
  here = sym (before_none c.args.marks.now);
}

pub overflow_add-count : goal.overflow_add-count
overflow_add-count c = omega (arith, c.loop-at.invariant.here, before_few c.args.marks.now c.loop-at.at)

pub loop-at-preserved : goal.loop-at-preserved
loop-at-preserved c = record {
  long = (pushed_counts c.args.marks.now c.loop-at.counts.items c.push.new.self.items c.loop-at.at c.loop-at.count c.loop-at.invariant.long c.loop-at.invariant.each c.loop-at.invariant.here c.in_ok-push.ensures.items).0;
  each = (pushed_counts c.args.marks.now c.loop-at.counts.items c.push.new.self.items c.loop-at.at c.loop-at.count c.loop-at.invariant.long c.loop-at.invariant.each c.loop-at.invariant.here c.in_ok-push.ensures.items).1;
  here = elim c.if-get.branch [
    | then-get w ↦ w.count-is ∙ ap (λ (n : ℕ). n + 1) c.loop-at.invariant.here ∙ sym (before_more c.args.marks.now c.loop-at.at (sym c.get.ensures ∙ w.if-get.true))
    | else-get w ↦ w.count-is ∙ c.loop-at.invariant.here ∙ sym (before_same c.args.marks.now c.loop-at.at (sym c.get.ensures ∙ w.if-get.false))
  ];
}

pub returns : goal.returns
returns c =
    let n : c.loop-at.at ≡ length c.args.marks.now = omega arith in
    let p = pushed_counts c.args.marks.now c.loop-at.counts.items c.push-2.new.self.items c.loop-at.at c.loop-at.count c.loop-at.invariant.long c.loop-at.invariant.each c.loop-at.invariant.here c.in_ok-push-2.ensures.items in
    record { one_more = p.0 ∙ ap (λ (x : ℕ). x + 1) n; each = λ i h. p.1 i (omega (arith, h, n)) }
