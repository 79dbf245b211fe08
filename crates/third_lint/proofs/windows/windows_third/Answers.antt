use Rattle.std.proofs.Common.{ℕ, ◌≡◌, ◌+◌, ◌*◌, List, arith, sym, subst}
use Rattle.third_lint.specs.WindowList.{WindowsBefore}
use Rattle.third_lint.proofs.MaskBits.{windows_law}
use Rattle.third_lint.proofs.WindowPass.{first_list, last_list}
use Rattle.third_lint.proofs.Few.{few_windows}
use Rattle.third_lint.proofs.windows.windows_third.Goals as goal

next_address : (k : ℕ) → 0x00400000 + 4 * k + 4 ≡ 0x00400000 + 4 * (k + 1)
next_address k = omega arith

pub loop-k-init : goal.loop-k-init
loop-k-init c = subst (λ (ws : List (ℕ × ℕ)). WindowsBefore c.args.text.now (0x00400000, 0) ws) (sym c.new-list.ensures.items) (first_list c.args.text.now (λ a r n. windows_law c.args.text.now a r n))

pub loop-k-preserved : goal.loop-k-preserved
loop-k-preserved c =
    subst (λ (x : ℕ). WindowsBefore c.args.text.now (x, 0) c.push_windows.new.list.items) (next_address c.loop-k.k)
    (subst (λ (t : List ℕ). WindowsBefore t (0x00400000 + 4 * c.loop-k.k + 4, 0) c.push_windows.new.list.items) c.in_ok-table.ensures c.in_ok-push_windows.ensures)

pub returns-clause-exact : goal.returns-clause-exact
returns-clause-exact c = last_list c.args.text.now c.loop-k.k c.loop-k.list.items (omega (arith, c.loop-k-test.false, c.loop-k.auto)) (λ a r n. windows_law c.args.text.now a r n) c.loop-k.invariant

pub returns-clause-few : goal.returns-clause-few
returns-clause-few c = few_windows c.args.text.now c.loop-k.list.items (last_list c.args.text.now c.loop-k.k c.loop-k.list.items (omega (arith, c.loop-k-test.false, c.loop-k.auto)) (λ a r n. windows_law c.args.text.now a r n) c.loop-k.invariant)
