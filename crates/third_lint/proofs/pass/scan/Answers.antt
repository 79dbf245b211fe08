use Rattle.std.proofs.Common.{ℕ, ◌≡◌, ◌<◌, ◌+◌, ◌*◌, length, arith, sym, ◌∙◌, subst}
use Rattle.third_lint.specs.Outcome.{IsFirst, CleanTo}
use Rattle.third_lint.proofs.Exact.{clean_more, clean_none, bad_here}
use Rattle.third_lint.proofs.pass.scan.Goals as goal

inside : (k n m : ℕ) → n ≡ m → k < n → k < m
inside k n m e h = omega arith

pub loop-k-init : goal.loop-k-init
loop-k-init c = λ entry t. clean_none c.args.text.now entry

pub loop-k-preserved : goal.loop-k-preserved
loop-k-preserved c = λ entry t. clean_more c.args.text.now entry _ _ _ _ c.requires t c.loop-k.k (inside c.loop-k.k c.len-k-end.result (length c.args.text.now) c.len-k-end.ensures (omega (arith, c.loop-k-test.true, c.loop-k.auto)))
    (c.loop-k.invariant entry t) (sym c.first_rule-rule.ensures ∙ c.if-rule-ne0.false)

pub returns-then-rule-ne0 : goal.returns-then-rule-ne0
returns-then-rule-ne0 c = λ entry t.
    subst (λ (x : ℕ). IsFirst c.args.text.now entry (4194304 + 4 * c.loop-k.k) x) (sym c.first_rule-rule.ensures) (bad_here c.args.text.now entry _ _ _ _ c.requires t c.loop-k.k
    (inside c.loop-k.k c.len-k-end.result (length c.args.text.now) c.len-k-end.ensures (omega (arith, c.loop-k-test.true, c.loop-k.auto))) (c.loop-k.invariant entry t) (λ h. c.if-rule-ne0.true (c.first_rule-rule.ensures ∙ h)))

pub returns : goal.returns
returns c = λ entry t. subst (λ (x : ℕ). CleanTo c.args.text.now entry x) (omega (arith, c.loop-k-test.false, c.loop-k.auto, c.len-k-end.ensures)) (c.loop-k.invariant entry t)
