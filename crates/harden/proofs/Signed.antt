-- What the far form of branches and the signatures leave.
use Rattle.std.proofs.Common.{◌≡◌, ◌≤◌, ℕ, ◌+◌, ◌*◌, arith, ap, sym, ◌∙◌, subst, length, inr}
use Rattle.std.specs.Prelude.{sum_by, Result, IfOk}
use Rattle.hard_items.specs.declared.code.HardProgram.{HardProgram}
use Rattle.hard_items.specs.declared.code.Signed.{Signed}
use Rattle.hard_items.specs.Heads.{headed}
use Rattle.hard_items.specs.Rules.{Apart, Guarded, NeverReports}
use Rattle.hard_items.specs.Counts.{Calm, Turned, TurnedThrough, branches, reloads, room}
use Rattle.hard_items.specs.WellFormed.{WellFormed}
use Rattle.hard_items.specs.Runs.{SameRuns}
use Rattle.sign_law.specs.Marks.{HasSigns}
use Rattle.layout_law.specs.Layout.{words, text}
use Rattle.layout_law.proofs.Texts.{length_text}
use Rattle.layout_law.proofs.Signed.{text_length}
use Rattle.far_branches.specs.Widen.{widened}
use Rattle.layout_moves_law.specs.WidenLawLaw as wide
use Rattle.layout_moves_law.specs.WidenLawLaw.{WidenedKeepsRuns, WidenedKeepsCounts, WidenedReaches}
use Rattle.layout_moves_law.specs.SplitLawLaw.{WidenedKeepsSmooth}
use Rattle.layout_moves_law.specs.Smooth.{Smooth}
use Rattle.layout_hardened.specs.Laws.{CanBePrepared}
use Rattle.layout_hardened.proofs.Prepared.{mark_fits}
use Rattle.harden.proofs.Results.{for_ok, both_ok}
use Rattle.harden.specs.Image.{most_blocks}
use Rattle.harden.specs.HardenChainSteps.{IsInOrder, IsSignedOf}

-- few blocks, of a program and of its far form
pub narrow : (p : HardProgram) → most_blocks p ≤ 65535 → length p.blocks ≤ 65535
narrow p few = by (length p.blocks) (sum_by (λ b. branches b.items) p.blocks) few
  where
    by : (a b : ℕ) → a + b ≤ 65535 → a ≤ 65535
    by a b h = omega arith

within : (a b c : ℕ) → a ≤ b → b ≤ c → a ≤ c
within a b c h k = omega arith

module _ (p : HardProgram) (s : Signed) (g : IsInOrder p) (is : s.program ≡ widened p) (signs : HasSigns s) (few : most_blocks p ≤ 65535) (fits : room p ≤ 66060288)
    (keeps : WidenedKeepsRuns) (counts : WidenedKeepsCounts) (stays : WidenedKeepsSmooth) (reaches : WidenedReaches) (prepare : CanBePrepared) where
  k : wide.KeepsRuns p (widened p)
  k = keeps p g.apart (narrow p few)

  c : wide.KeepsCounts p (widened p)
  c = counts p g.apart

  small : length s.program.blocks ≤ most_blocks p
  small = subst (λ (z : HardProgram). length z.blocks ≤ most_blocks p) (sym is) c.blocks

  signed_few : length s.program.blocks ≤ 65535
  signed_few = within (length s.program.blocks) (most_blocks p) 65535 small few

  words_here : words s.program.blocks + 7 * length s.program.blocks ≤ room p
  words_here = subst (λ (z : HardProgram). words z.blocks + 7 * length z.blocks ≤ room p) (sym is) c.words_within

  size : words (headed s).blocks ≤ 66060288
  size = by (words (headed s).blocks) (length (text (headed s))) (words s.program.blocks) (length s.marks) (length s.program.blocks) (room p)
      (length_text (headed s)) (text_length s (inr signs.one_each, mark_fits s signs signed_few)) signs.one_each words_here fits
    where
      by : (a b w m l r : ℕ) → b ≡ a → b ≡ w + 7 * m → m ≡ l → w + 7 * l ≤ r → r ≤ 66060288 → a ≤ 66060288
      by a b w m l r e f h k x = omega arith

  pub signed_of : IsSignedOf p s
  signed_of = record {
    prepared = prepare s (subst Apart (sym is) k.apart) (subst Calm (sym is) (k.calm g.calm)) (subst NeverReports (sym is) (k.never_reports g.never_reports)) signs
        signed_few (λ n. reaches p s g.apart is n) size;
    guarded = subst Guarded (sym is) (k.guarded g.guarded);
    same_runs = subst (SameRuns p) (sym is) k.same_runs;
    few = small;
    words_within = words_here;
    reloads_same = subst (λ (z : HardProgram). reloads z ≡ reloads p) (sym is) c.reloads_same;
    initial = ap (λ (z : HardProgram). z.initial) is;
    memory = ap (λ (z : HardProgram). z.memory_words) is;
    smooth = λ h. subst Smooth (sym is) (stays p g.apart.well_formed g.apart.formed (narrow p few) h);
    turned = subst Turned (sym is) (c.turned g.turned);
    turned_through = subst TurnedThrough (sym is) (c.turned_through g.turned_through);
  }

-- ---- answers

-- the far form is well formed and has few blocks
pub wide_formed : (p w : HardProgram) → Apart p → length p.blocks ≤ 65535 → w ≡ widened p → WidenedKeepsRuns → WellFormed w
wide_formed p w a few is keeps = subst WellFormed (sym is) (keeps p a few).apart.well_formed

pub wide_is_few : (p w : HardProgram) → Apart p → w ≡ widened p → most_blocks p ≤ 65535 → WidenedKeepsCounts → length w.blocks ≤ 65535
wide_is_few p w a is few counts = subst (λ (z : HardProgram). length z.blocks ≤ 65535) (sym is) (within (length (widened p).blocks) (most_blocks p) 65535 (counts p a).blocks few)

pub sign_given : {E : Type 0} (p w : HardProgram) (r : Result Signed E) → IsInOrder p → w ≡ widened p → most_blocks p ≤ 65535 → room p ≤ 66060288 →
    WidenedKeepsRuns → WidenedKeepsCounts → WidenedKeepsSmooth → WidenedReaches → CanBePrepared → IfOk r (λ s. s.program ≡ w) → IfOk r HasSigns → IfOk r (IsSignedOf p)
sign_given p w r g is few fits keeps counts stays reaches prepare same signs =
    for_ok r (λ s. (s.program ≡ w) × HasSigns s) (IsSignedOf p) (both_ok r (λ s. s.program ≡ w) HasSigns same signs)
    (λ s h. signed_of p s g (h.0 ∙ is) h.1 few fits keeps counts stays reaches prepare)
