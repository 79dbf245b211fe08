-- The passes one behind the other.
use Rattle.std.proofs.Common.{◌≡◌, ◌≤◌, ◌+◌, ◌*◌, ℕ, arith, le_trans, ap, refl, sym, ◌∙◌, subst, List, length, map}
use Rattle.std.specs.Prelude.{None, Result, Ok, Err, IfOk, sum, sum_by}
use Rattle.std.proofs.Math.Nat.{mul-le-mul}
use Rattle.hard_words.specs.Words.{AreWords}
use Rattle.hard_runs.proofs.Observed.{same_transitive}
use Rattle.mips_isa.specs.declared.instr.End.{End}
use Rattle.mips_isa.specs.Runs.{observed}
use Rattle.mips_isa.specs.Image.{ImageFields, boot_state}
use Rattle.mid_blocks.specs.declared.code.Mid.{Mid}
use Rattle.mid_blocks.specs.declared.places.Places.{Places}
use Rattle.mid_blocks.specs.Size.{words, block_count, branch_count}
use Rattle.frame_plan.specs.Frames.{cells}
use Rattle.hard_items.specs.declared.code.HardProgram.{HardProgram}
use Rattle.hard_items.specs.Run.{item_run}
use Rattle.hard_items.specs.Counts.{branches, reloads, room}
use Rattle.hard_items.specs.Rules.{Twin}
use Rattle.duplicate_pass.specs.Doubled.{doubled_program}
use Rattle.double_law.specs.Law.{RunsAsBlocks}
use Rattle.double_law.specs.DoubleReloadsLaw.{FewReloads}
use Rattle.register_halves.specs.Leaf.{LeafHasNoSlots}
use Rattle.double_law.specs.Runs.{blocks_seen}
use Rattle.double_law.specs.Laws.{CountsFit}
use Rattle.layout_hardened.specs.Law.{HardenedFits, AliasesAreFew}
use Rattle.harden.specs.Image.{most_blocks, most_split_blocks, IsImageWithin, IsImageOf, IsSplitImageOf}
use Rattle.harden.specs.Blocks.{IsReady, IsImageOfBlocks, IsImageOfBlocksWithin, IsSplitImageOfBlocks}
use Rattle.harden.specs.CompileBlocksSteps.{AreAllAssigned, IsDoubled}
use Rattle.harden.proofs.Leaf.{leaf_reloads}
use Rattle.harden.proofs.Starts.{listed}

-- ---- the premises of hardening

pub few_blocks : (mid : Mid) (p : HardProgram) → IsReady mid → CountsFit mid p → most_blocks p ≤ 16000
few_blocks mid p r c = by (length p.blocks) (sum_by (λ b. branches b.items) p.blocks) (block_count mid) (branch_count mid) c.blocks c.branches_same r.few_blocks
  where
    by : (l s b n : ℕ) → l ≡ b + 2 → s ≡ n → b + n + 2 ≤ 16000 → l + s ≤ 16000
    by l s b n e f h = omega (arith, e, f, h)

pub few_enough : (mid : Mid) (p : HardProgram) → IsReady mid → CountsFit mid p → most_blocks p ≤ 65535
few_enough mid p r c = by (most_blocks p) (few_blocks mid p r c)
  where
    by : (n : ℕ) → n ≤ 16000 → n ≤ 65535
    by n h = omega arith

pub room_enough : (mid : Mid) (p : HardProgram) → IsReady mid → CountsFit mid p → room p ≤ 66060288
room_enough mid p r c = by (room p) (words mid) c.room_fits r.few_words
  where
    by : (a b : ℕ) → a ≤ b → b ≤ 62914560 → a ≤ 66060288
    by a b h k = omega (arith, h, k)

-- with critical edges split
pub split_blocks : (mid : Mid) (p : HardProgram) → CountsFit mid p → most_split_blocks p ≤ 3 * (block_count mid + branch_count mid + 2)
split_blocks mid p c = by (length p.blocks) (sum_by (λ b. branches b.items) p.blocks) (block_count mid) (branch_count mid) c.blocks c.branches_same
  where
    by : (l s b n : ℕ) → l ≡ b + 2 → s ≡ n → 2 * l + 3 * s ≤ 3 * (b + n + 2)
    by l s b n e f = omega (arith, e, f)

pub split_few_enough : (mid : Mid) (p : HardProgram) → IsReady mid → CountsFit mid p → most_split_blocks p ≤ 65535
split_few_enough mid p r c = by (most_split_blocks p) (block_count mid + branch_count mid + 2) (split_blocks mid p c) r.few_blocks
  where
    by : (a n : ℕ) → a ≤ 3 * n → n ≤ 16000 → a ≤ 65535
    by a n h k = omega (arith, h, k)

pub split_room : (mid : Mid) (p : HardProgram) → CountsFit mid p → room p + 45 * length p.blocks ≤ words mid + 45 * (block_count mid + 2)
split_room mid p c = by (room p) (words mid) (length p.blocks) (block_count mid + 2) c.room_fits c.blocks
  where
    by : (a b l n : ℕ) → a ≤ b → l ≡ n → a + 45 * l ≤ b + 45 * n
    by a b l n h e = omega (arith, h, e)

pub split_room_enough : (mid : Mid) (p : HardProgram) → IsReady mid → CountsFit mid p → room p + 45 * length p.blocks ≤ 66060288
split_room_enough mid p r c = by (room p + 45 * length p.blocks) (words mid) (block_count mid) (branch_count mid) (split_room mid p c) r.few_words r.few_blocks
  where
    by : (a w b n : ℕ) → a ≤ w + 45 * (b + 2) → w ≤ 62914560 → b + n + 2 ≤ 16000 → a ≤ 66060288
    by a w b n h k l = omega (arith, h, k, l)

-- ---- the image

-- the memory of a doubled program
pub memory_most : (mid : Mid) (n : ℕ) → IsReady mid → n ≡ 2 * cells mid → n ≤ 65536
memory_most mid n r e = by n (cells mid) e (subst (λ (z : ℕ). z ≤ 32768) (sym (cells_are mid)) r.valid.store_fits)
  where
    cells_are : (mid : Mid) → cells mid ≡ sum (map length mid.globals) + mid.chain_pairs
    cells_are mid = refl

    by : (n c : ℕ) → n ≡ 2 * c → c ≤ 32768 → n ≤ 65536
    by n c e h = omega (arith, e, h)

within : (a b c : ℕ) → a ≤ b → b ≤ c → a ≤ c
within a b c h k = omega arith

-- an image of the doubled program is one of the blocks
image_within : (mid : Mid) (p : HardProgram) (i : ImageFields) (most_words most_starts m n : ℕ) → IsReady mid → IsDoubled mid p → AreWords i.text → IsImageWithin p i most_words most_starts →
    HardenedFits → length i.aliases ≤ 256000000 → most_words ≤ 66060288 → most_words ≤ m → most_starts ≤ n → IsImageOfBlocksWithin mid i m n
image_within mid p i most_words most_starts m n r d w g fits few room small starts = record {
  same = λ input a. same_transitive End (observed (boot_state i input) None) (item_run p input) (blocks_seen mid input) (g.same input a) (d.runs input a);
  entry = g.entry;
  typed = g.typed;
  hardened = g.hardened;
  placed = g.placed;
  unreported = g.unreported;
  fits = fits i most_starts g.place g.hardened g.starts (record {
    are_words = w;
    text = within (length i.text) most_words 66060288 g.words room;
    windows = g.few_windows;
    aliases = few;
    some_memory = subst (λ (n : ℕ). 1 ≤ n) (sym g.memory) d.twin.apart.well_formed.has_memory;
    memory = subst (λ (n : ℕ). n ≤ 65536) (sym g.memory) (memory_most mid p.memory_words r d.memory);
    initial = subst (λ (l : List ℕ). length l ≤ i.memory_words) (sym g.initial) (subst (λ (n : ℕ). length p.initial ≤ n) (sym g.memory) d.twin.apart.well_formed.initial_fits);
  });
  words = within (length i.text) most_words m g.words small;
  memory = g.memory ∙ d.memory;
  few_windows = g.few_windows;
  few_starts = listed i most_starts n g.place g.starts starts;
  no_dead_words = g.no_dead_words;
  in_turns = g.in_turns;
  few_loads = λ leaf. subst (λ (n : ℕ). n ≤ 2) (sym g.loads_same) (d.few_reloads leaf);
}

pub image_of_blocks : (mid : Mid) (p : HardProgram) (i : ImageFields) → IsReady mid → IsDoubled mid p → AreWords i.text → IsImageOf p i → HardenedFits → AliasesAreFew → IsImageOfBlocks mid i
image_of_blocks mid p i r d w g fits few =
    image_within mid p i (room p) (most_blocks p) (words mid) (block_count mid + branch_count mid + 2) r d w g fits
    (le_trans (few i (most_blocks p) g.place g.hardened g.starts) (mul-le-mul (few_blocks mid p r d.counts) (few_blocks mid p r d.counts)))
    (room_enough mid p r d.counts) d.counts.room_fits (by (length p.blocks) (sum_by (λ b. branches b.items) p.blocks) (block_count mid) (branch_count mid) d.counts.blocks d.counts.branches_same)
  where
    by : (l s b n : ℕ) → l ≡ b + 2 → s ≡ n → l + s ≤ b + n + 2
    by l s b n e f = omega (arith, e, f)

pub split_image_of_blocks : (mid : Mid) (p : HardProgram) (i : ImageFields) → IsReady mid → IsDoubled mid p → AreWords i.text → IsSplitImageOf p i → HardenedFits → IsSplitImageOfBlocks mid i
split_image_of_blocks mid p i r d w g fits = record {
  within = image_within mid p i (room p + 45 * length p.blocks) (most_split_blocks p) (words mid + 45 * (block_count mid + 2)) (3 * (block_count mid + branch_count mid + 2)) r d w g.within fits
      (none_few (length i.aliases) (ap length g.no_aliases.none_listed)) (split_room_enough mid p r d.counts) (split_room mid p d.counts) (split_blocks mid p d.counts);
  no_aliases = g.no_aliases;
}
  where
    none_few : (n : ℕ) → n ≡ 0 → n ≤ 256000000
    none_few n e = omega (arith, e)

-- what the doubling gives
pub doubled_of : {E : Type 0} (mid : Mid) (places : List Places) (r : Result HardProgram E) → IsReady mid → AreAllAssigned mid places → FewReloads → LeafHasNoSlots →
    IfOk r (λ p. p ≡ doubled_program mid places) → IfOk r (RunsAsBlocks mid) → IfOk r Twin → IfOk r (CountsFit mid) → IfOk r (IsDoubled mid)
doubled_of mid places (Ok p) ready assigned few law is runs twin counts = record {
  runs = runs;
  twin = twin;
  counts = counts;
  memory = ap (λ (q : HardProgram). q.memory_words) is;
  few_reloads = λ leaf. subst (λ (q : HardProgram). reloads q ≤ 2) (sym is) (leaf_reloads mid places ready assigned few law leaf);
}
doubled_of mid places (Err e) ready assigned few law is runs twin counts = tt
