-- The far form can be laid out.
use Rattle.std.proofs.Common.{◌≡◌, ◌≤◌, ◌<◌, ℕ, ◌+◌, ◌*◌, suc, arith, ap, sym, subst, List, [], ◌∷◌, length}
use Rattle.std.specs.Prelude.{◌++◌, false}
use Rattle.std.proofs.lemmas.List.{length-append}
use Rattle.std.proofs.lemmas.List.Sums.{sum_by-cons}
use Rattle.hard_items.specs.declared.code.HardBlock.{HardBlock}
use Rattle.hard_items.specs.declared.code.HardProgram.{HardProgram}
use Rattle.hard_items.specs.declared.code.Mark.{Mark}
use Rattle.hard_items.specs.Heads.{headed, head_items, with_heads}
use Rattle.hard_items.specs.Run.{items_of}
use Rattle.hard_items.specs.WellFormed.{WellFormed}
use Rattle.hard_items.specs.Forms.{Formed, HalvesPair}
use Rattle.hard_items.specs.Counts.{Calm, room}
use Rattle.layout_law.specs.Layout.{words}
use Rattle.far_branches.specs.Widen.{far_relays, widened}
use Rattle.layout_moves_law.specs.WidenLawLaw.{KeepsRuns, WidenedKeepsCounts, WidenedReaches, WidenedCanBeLaid}
use Rattle.layout_moves_law.proofs.WidenLawRuns.{keeps_runs}
use Rattle.layout_moves_law.proofs.WidenLawCounts.{blocks_few, branches_same, reloads_same, words_within}
use Rattle.layout_moves_law.proofs.Turns.{turned_put, turned_through_put}
use Rattle.layout_moves_law.proofs.Far.{has_far}
use Rattle.layout_moves_law.proofs.Reach.{reaches}

pub keeps_counts : WidenedKeepsCounts
keeps_counts p a = record {
  blocks = blocks_few p;
  branches_same = branches_same p;
  reloads_same = reloads_same p;
  words_within = words_within p a.formed;
  turned = turned_put (far_relays p) p (widened p) (has_far p) a.formed;
  turned_through = turned_through_put (far_relays p) p (widened p) (has_far p) a.formed;
}

pub widened_reaches : WidenedReaches
widened_reaches p s a e n = reaches p s a.well_formed a.formed e n

-- A head has seven words.
heads_words : (ks : List HardBlock) (ms : List Mark) → words (with_heads ks ms) ≤ words ks + 7 * length ks
heads_words [] ms = omega arith
heads_words (k ∷ ks) [] = more (words (k ∷ ks)) (length (k ∷ ks))
  where
    more : (w l : ℕ) → w ≤ w + 7 * l
    more w l = omega arith
heads_words (k ∷ ks) (m ∷ ms) =
    more (words (with_heads (k ∷ ks) (m ∷ ms))) (words (k ∷ ks)) (length (head_items m ++ k.items)) (length k.items) (words (with_heads ks ms)) (words ks) (length ks)
    (sum_by-cons (λ (x : HardBlock). length x.items) (record { items = head_items m ++ k.items; successors = k.successors }) (with_heads ks ms)) (sum_by-cons (λ (x : HardBlock). length x.items) k ks) (length-append (head_items m) k.items) (heads_words ks ms)
  where
    more : (s t h i x y l : ℕ) → s ≡ h + x → t ≡ i + y → h ≡ 7 + i → x ≤ y + 7 * l → s ≤ t + 7 * suc l
    more s t h i x y l e f g k = omega arith

pub can_be_laid : WidenedCanBeLaid
can_be_laid p s a c few e m r =
    let k : KeepsRuns p (widened p) = keeps_runs p a few in
    record {
      well_formed = subst WellFormed (sym e) k.apart.well_formed;
      formed = subst (λ (q : HardProgram). (b : ℕ) → b < length q.blocks → Formed (items_of q b)) (sym e) k.apart.formed;
      halves = subst (λ (q : HardProgram). (b : ℕ) → HalvesPair (items_of q b) false) (sym e) k.apart.halves;
      calm = subst Calm (sym e) (k.calm c);
      marks = m;
      reach = λ n. reaches p s a.well_formed a.formed e n;
      size = small (words (headed s).blocks) (words s.program.blocks) (length s.program.blocks) (words (widened p).blocks) (length (widened p).blocks) (room p) (heads_words s.program.blocks s.marks) (ap (λ (q : HardProgram). words q.blocks) e) (ap (λ (q : HardProgram). length q.blocks) e) (words_within p a.formed) r;
    }
  where
    small : (h w l v n r : ℕ) → h ≤ w + 7 * l → w ≡ v → l ≡ n → v + 7 * n ≤ r → r ≤ 66060288 → h ≤ 66060288
    small h w l v n r g e f k i = omega arith
