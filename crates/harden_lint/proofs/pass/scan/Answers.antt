use Rattle.std.proofs.Common.{ℕ, ◌≡◌, ◌<◌, ◌+◌, ◌*◌, length, arith, sym, ◌∙◌, subst}
use Rattle.harden_lint.specs.Outcome.{IsFirst, CleanTo}
use Rattle.harden_lint.specs.RuleTests.{first_rule}
use Rattle.harden_lint.proofs.Exact.{clean_more, clean_none, bad_here}
use Rattle.harden_lint.proofs.pass.scan.Goals as goal

to_zero : (x y : ℕ) → x ≡ y → x ≡ 0 → y ≡ 0
to_zero x y e h = sym e ∙ h

inside : (k n m : ℕ) → n ≡ m → k < n → k < m
inside k n m e h = omega arith

pub loop-k-init : goal.loop-k-init
loop-k-init c = λ entry out t. clean_none c.args.text.now entry c.args.bits.now out c.requires t

pub loop-k-preserved : goal.loop-k-preserved
loop-k-preserved c = λ entry out t. clean_more c.args.text.now entry c.args.bits.now out c.requires t c.loop-k.k (inside c.loop-k.k c.len-k-end.result (length c.args.text.now) c.len-k-end.ensures (omega (arith, c.loop-k-test.true, c.loop-k.auto))) (c.loop-k.invariant entry out t) (to_zero c.first_rule-rule.result (first_rule c.args.text.now c.args.bits.now (4194304 + 4 * c.loop-k.k)) c.first_rule-rule.ensures c.if-rule-ne0.false)

pub returns-then-rule-ne0 : goal.returns-then-rule-ne0
returns-then-rule-ne0 c = λ entry out t.
    let e : c.first_rule-rule.result ≡ first_rule c.args.text.now c.args.bits.now (4194304 + 4 * c.loop-k.k) = c.first_rule-rule.ensures in
    subst (λ (x : ℕ). IsFirst c.args.text.now entry (4194304 + 4 * c.loop-k.k) x) (sym e) (bad_here c.args.text.now entry c.args.bits.now out c.requires t c.loop-k.k (inside c.loop-k.k c.len-k-end.result (length c.args.text.now) c.len-k-end.ensures (omega (arith, c.loop-k-test.true, c.loop-k.auto))) (c.loop-k.invariant entry out t) (λ h. c.if-rule-ne0.true (e ∙ h)))

pub returns : goal.returns
returns c = λ entry out t. subst (λ (x : ℕ). CleanTo c.args.text.now entry x) (omega (arith, c.loop-k-test.false, c.loop-k.auto, c.len-k-end.ensures)) (c.loop-k.invariant entry out t)
