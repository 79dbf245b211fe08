use Rattle.std.proofs.Common.{ℕ, ◌≡◌, ◌∙◌, ◌+◌, ◌*◌, List, arith, subst}
use Rattle.hard_words.specs.Words.{AreWords}
use Rattle.lint_words.specs.WindowList.{WindowsBefore}
use Rattle.window_lister.proofs.WindowPass.{last_list}
use Rattle.window_lister.proofs.listing.windows.Goals as goal

next_address : (k : ℕ) → 0x00400000 + 4 * k + 4 ≡ 0x00400000 + 4 * (k + 1)
next_address k = omega arith

pub loop-k-preserved : goal.loop-k-preserved
loop-k-preserved c =
    subst (λ (x : ℕ). WindowsBefore c.args.text.now (x, 0) c.push_windows.new.list.items) (next_address c.loop-k.k)
    (subst (λ (t : List ℕ). WindowsBefore t (0x00400000 + 4 * c.loop-k.k + 4, 0) c.push_windows.new.list.items) c.in_ok-table.ensures c.in_ok-push_windows.ensures)

pub returns : goal.returns
returns c =
    let words : AreWords c.args.text.now = subst AreWords (c.table.view_is ∙ c.in_ok-table.ensures) c.table.invariant.1 in
    last_list c.args.text.now c.loop-k.k c.loop-k.list.items (omega (arith, c.loop-k-test.false, c.loop-k.auto)) (λ a r n. c.windows_inside.ensures c.args.text.now a r words n) c.loop-k.invariant
