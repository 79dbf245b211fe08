-- The program in its order with its critical edges split.
use Rattle.std.proofs.Common.{◌≡◌, ◌≤◌, ℕ, ◌+◌, ◌*◌, arith, sym, ◌∙◌, subst, length}
use Rattle.std.specs.Prelude.{sum_by, count_by, Result, IfOk}
use Rattle.hard_items.specs.declared.code.HardProgram.{HardProgram}
use Rattle.hard_items.specs.Run.{is_call}
use Rattle.hard_items.specs.Counts.{branches, room}
use Rattle.edge_split.specs.Split.{smoothed}
use Rattle.layout_moves_law.specs.WidenLawLaw.{KeepsRuns}
use Rattle.layout_moves_law.specs.SplitLawLaw.{KeepsCounts, SmoothedKeepsRuns, SmoothedKeepsCounts, SmoothedIsSmooth}
use Rattle.harden.proofs.Calls.{few_calls}
use Rattle.harden.proofs.Ordered.{both_same}
use Rattle.harden.proofs.Results.{for_ok}
use Rattle.harden.specs.Image.{most_split_blocks}
use Rattle.harden.specs.HardenChainSteps.{IsOrdered, IsOrderedSplit}

-- few blocks before the split
pub ordered_few : (p o : HardProgram) → IsOrdered p o → most_split_blocks p ≤ 65535 → length o.blocks ≤ 65535
ordered_few p o g few = by (length o.blocks) (length p.blocks) (sum_by (λ b. branches b.items) p.blocks) g.blocks few
  where
    by : (a b c : ℕ) → a ≡ b → 2 * b + 3 * c ≤ 65535 → a ≤ 65535
    by a b c e h = omega arith

module _ (p o : HardProgram) (g : IsOrdered p o) (few : most_split_blocks p ≤ 65535) (keeps : SmoothedKeepsRuns) (counts : SmoothedKeepsCounts) (smooth : SmoothedIsSmooth) where
  k : KeepsRuns o (smoothed o)
  k = keeps o g.comes.in_order.apart (ordered_few p o g few)

  c : KeepsCounts o (smoothed o)
  c = counts o g.comes.in_order.apart

  split_few : length (smoothed o).blocks + sum_by (λ b. branches b.items) (smoothed o).blocks ≤ most_split_blocks p
  split_few = by (length (smoothed o).blocks) (sum_by (λ b. branches b.items) (smoothed o).blocks) (length o.blocks) (sum_by (λ b. branches b.items) o.blocks)
      (sum_by (λ k. count_by (λ i. is_call i.instr) k.items) o.blocks) (length p.blocks) (sum_by (λ b. branches b.items) p.blocks)
      c.blocks c.branches_same (few_calls o g.comes.in_order.apart.well_formed) g.blocks g.branches_same
    where
      by : (a x b y n l m : ℕ) → a ≤ b + 2 * y + n → x ≡ y → n ≤ b → b ≡ l → y ≡ m → a + x ≤ 2 * l + 3 * m
      by a x b y n l m h e f i j = omega arith

  split_room : room (smoothed o) ≤ room p + 45 * length p.blocks
  split_room = by (room (smoothed o)) (room o) (room p) (length o.blocks) (length p.blocks) c.room_within g.comes.room_within g.blocks
    where
      by : (a b r l n : ℕ) → a ≤ b + 45 * l → b ≤ r → l ≡ n → a ≤ r + 45 * n
      by a b r l n h k e = omega arith

  made : IsOrderedSplit p (smoothed o)
  made = record {
    comes = record {
      same_runs = both_same p o (smoothed o) g.comes.same_runs k.same_runs;
      in_order = record {
        apart = k.apart;
        guarded = k.guarded g.comes.in_order.guarded;
        calm = k.calm g.comes.in_order.calm;
        turned = c.turned g.comes.in_order.turned;
        turned_through = c.turned_through g.comes.in_order.turned_through;
        never_reports = k.never_reports g.comes.in_order.never_reports;
      };
      few = split_few;
      room_within = split_room;
      reloads_same = c.reloads_same ∙ g.comes.reloads_same;
      initial = g.comes.initial;
      memory = g.comes.memory;
    };
    smooth = smooth o g.comes.in_order.apart.well_formed g.comes.in_order.apart.formed (ordered_few p o g few);
  }

  pub split_given : {E : Type 0} (r : Result HardProgram E) → IfOk r (λ q. q ≡ smoothed o) → IfOk r (IsOrderedSplit p)
  split_given r h = for_ok r (λ q. q ≡ smoothed o) (IsOrderedSplit p) h (λ q is. subst (IsOrderedSplit p) (sym is) made)
