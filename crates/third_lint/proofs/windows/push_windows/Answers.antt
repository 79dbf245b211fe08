use Rattle.std.proofs.Common.{ℕ, ◌≡◌, ◌+◌, ◌++◌, arith, sym, ◌∙◌, refl, subst, List, [], ◌∷◌}
use Rattle.std.specs.Int.{bit_at}
use Rattle.std.proofs.lemmas.Nat.Bits.{bit_at-zero}
use Rattle.third_lint.specs.WindowList.{WindowsBefore}
use Rattle.third_lint.proofs.Places.{no_truth}
use Rattle.third_lint.proofs.MaskBits.{windows_law}
use Rattle.third_lint.proofs.WindowPass.{list_with, list_without, next_word, skip_word}
use Rattle.third_lint.proofs.windows.push_windows.Goals as goal
use Rattle.third_lint.proofs.windows.push_windows.Goals.{then-names+in_ok-push, else-names}

-- no register has its bit in a mask of none
no_bit : (mask r : ℕ) → mask ≡ 0 → bit_at mask r ≡ 1 → ⊥
no_bit mask r e h = apart (bit_at 0 r) (bit_at-zero r) (subst (λ (m : ℕ). bit_at m r ≡ 1) e h)
  where
    apart : (x : ℕ) → x ≡ 0 → x ≡ 1 → ⊥
    apart x h k = omega arith

pub loop-r-preserved : goal.loop-r-preserved
loop-r-preserved c = elim c.if-names.branch as (λ z. WindowsBefore c.args.text.now (c.args.a, c.loop-r.r + 1) c.if-names.list.items) [
  | then-names+in_ok-push w ↦
      let e : c.if-names.list.items ≡ c.loop-r.list.items ++ (c.args.a, c.loop-r.r) ∷ [] = rw w.list-is w.in_ok-push.ensures.items in
      subst (λ (v : List (ℕ × ℕ)). WindowsBefore c.args.text.now (c.args.a, c.loop-r.r + 1) v) (sym e)
      (list_with c.args.text.now c.args.a c.loop-r.r c.loop-r.list.items ((c.window_mask-mask.ensures c.loop-r.r).0 (c.names.ensures.0 w.if-names.true)) c.loop-r.invariant)
  | else-names w ↦
      let e : c.if-names.list.items ≡ c.loop-r.list.items = rw w.list-is refl in
      subst (λ (v : List (ℕ × ℕ)). WindowsBefore c.args.text.now (c.args.a, c.loop-r.r + 1) v) (sym e)
      (list_without c.args.text.now c.args.a c.loop-r.r c.loop-r.list.items (λ n. no_truth (sym w.if-names.false ∙ c.names.ensures.1 ((c.window_mask-mask.ensures c.loop-r.r).1 n))) c.loop-r.invariant)
]

pub returns-then-mask-eq0 : goal.returns-then-mask-eq0
returns-then-mask-eq0 c =
    skip_word c.args.text.now c.args.a c.args.list.now.items (λ a r n. windows_law c.args.text.now a r n) c.requires.word
    (λ r n. no_bit c.window_mask-mask.result r c.if-mask-eq0.true ((c.window_mask-mask.ensures r).1 n)) c.requires.before

pub returns : goal.returns
returns c = next_word c.args.text.now c.args.a c.loop-r.r c.loop-r.list.items (λ a r n. windows_law c.args.text.now a r n) c.requires.word (omega (arith, c.loop-r-test.false, c.loop-r.auto)) c.loop-r.invariant
