-- The new order changes no count but that of nops, of which at most one comes for each load and two for each move.
use Rattle.std.proofs.Common.{◌≡◌, ◌≢◌, ◌≤◌, ◌<◌, ℕ, zero, suc, ◌+◌, ◌-◌, ◌*◌, arith, ap, refl, sym, ◌∙◌, subst, List, [], ◌∷◌, ◌++◌, append_assoc, length, map, replicate, Bool, true, false, cond, not, max, inl, inr, flat_map, sum_by}
use Rattle.std.specs.Prelude.{Option, Some, None, ◌&&◌, ◌==◌, count_by}
use Rattle.std.proofs.lemmas.List.Sums.{sum_by-cons, sum_by-append}
use Rattle.mips_isa.specs.declared.instr.Instr.{Instr}
use Rattle.mips_isa.specs.declared.instr.Instr.TheVariants as mips
use Rattle.mips_isa.specs.Machine.{is_jump, is_product, reads_of, among}
use Rattle.mips_isa.specs.Locality.{is_data, is_move}
use Rattle.hard_items.specs.declared.code.Class.{Class}
use Rattle.hard_items.specs.declared.code.Class.TheVariants as class
use Rattle.hard_items.specs.declared.code.Item.{Item}
use Rattle.hard_items.specs.declared.code.HardBlock.{HardBlock}
use Rattle.hard_items.specs.declared.code.HardProgram.{HardProgram}
use Rattle.hard_items.specs.Forms.{Each, Form, Alone, Product, Store, Test, Output, Takes, Idle, Close, form_items, close_items, FormFits, CloseFits}
use Rattle.mips_text.specs.Loads.{is_reload}
use Rattle.hard_items.specs.Counts.{loaded, quiet_after, is_break, free_nops, free_nops_behind, is_nop, is_branch, branches, nops_for, is_of_check, checks_wanted, checks_there, block_room}
use Rattle.block_schedule.specs.declared.unit.Whole.{Whole}
use Rattle.block_schedule.specs.declared.unit.Whole.TheVariants.{One, Two}
use Rattle.block_schedule.specs.Scheduling.{unit_items, class_of, units, units_behind, in_turn, by_stream, riffled, turned, wait, with_nops, scheduled, scheduled_block, scheduled_program}
use Rattle.block_schedule.specs.Merging.{Merge, done, first, second}
use Rattle.hard_items.specs.Counted.{HasNoFreeNop}
use Rattle.block_schedule.specs.Law.{KeepsCounts}
use Rattle.block_schedule.proofs.Leading.{InStretch, merge_in}
use Rattle.block_schedule.proofs.Parts.{idle, flat, flat_both, Spaced, nothing, unit, space, Stretched, Parts, part, closing, IsFixed, in_turn_merges}

by_all : (P : List Whole → Type 0) (c : Class) (a b d : List Whole) → P a → P b → P d → P (by_stream c a b d)
by_all P class.Master a b d x y z = x
by_all P class.Shadow a b d x y z = y
by_all P class.Check a b d x y z = z
by_all P class.Act a b d x y z = z
by_all P class.Head a b d x y z = z
by_all P class.Input a b d x y z = z

-- ---- sums over items in turn

module _ (m : Item → ℕ) where
  abbrev worth : List Item → ℕ
  worth xs = sum_by m xs

  worth_both : (us vs : List Whole) → worth (flat (us ++ vs)) ≡ worth (flat us) + worth (flat vs)
  worth_both us vs = ap worth (flat_both us vs) ∙ sum_by-append m (flat us) (flat vs)

  worth_cons : (u : Whole) (us : List Whole) → worth (flat (u ∷ us)) ≡ worth (unit_items u) + worth (flat us)
  worth_cons u us = sum_by-append m (unit_items u) (flat us)

  in_turn_worth : (ms ss : List Whole) → worth (flat (in_turn ms ss)) ≡ worth (flat ms) + worth (flat ss)
  in_turn_worth [] ss = sym (Rattle.std.proofs.Common.zero-add (worth (flat ss)))
  in_turn_worth (u ∷ ms) [] = sym (Rattle.std.proofs.Common.add-zero (worth (flat (u ∷ ms))))
  in_turn_worth (u ∷ ms) (v ∷ ss) = worth_cons u (v ∷ in_turn ms ss) ∙ (ap (λ (n : ℕ). worth (unit_items u) + n) (worth_cons v (in_turn ms ss) ∙ ap (λ (n : ℕ). worth (unit_items v) + n) (in_turn_worth ms ss)) ∙
      (swap (worth (unit_items u)) (worth (unit_items v)) (worth (flat ms)) (worth (flat ss)) ∙ (ap (λ (n : ℕ). n + (worth (unit_items v) + worth (flat ss))) (sym (worth_cons u ms)) ∙ ap (λ (n : ℕ). worth (flat (u ∷ ms)) + n) (sym (worth_cons v ss)))))
    where
      swap : (a b c d : ℕ) → a + (b + (c + d)) ≡ a + c + (b + d)
      swap a b c d = omega arith

  riffled_worth : (ms ss us : List Whole) → worth (flat (riffled ms ss us)) ≡ worth (flat ms) + worth (flat ss) + worth (flat us)
  riffled_worth ms ss [] = in_turn_worth ms ss ∙ sym (Rattle.std.proofs.Common.add-zero (worth (flat ms) + worth (flat ss)))
  riffled_worth ms ss (u ∷ us) =
      let M : ℕ = worth (flat ms) in
      let S : ℕ = worth (flat ss) in
      let U : ℕ = worth (flat us) in
      let one : worth (flat (u ∷ [])) ≡ worth (unit_items u) = ap worth (Rattle.std.proofs.Common.append-nil (unit_items u)) in
      by_all (λ z. worth (flat z) ≡ M + S + worth (flat (u ∷ us))) (class_of u) (riffled (ms ++ u ∷ []) ss us) (riffled ms (ss ++ u ∷ []) us) (in_turn ms ss ++ u ∷ riffled [] [] us)
      (riffled_worth (ms ++ u ∷ []) ss us ∙ (a M S U (worth (flat (ms ++ u ∷ []))) (worth (unit_items u)) (worth_both ms (u ∷ []) ∙ ap (λ (n : ℕ). M + n) one) ∙ ap (λ (n : ℕ). M + S + n) (sym (worth_cons u us))))
      (riffled_worth ms (ss ++ u ∷ []) us ∙ (b M S U (worth (flat (ss ++ u ∷ []))) (worth (unit_items u)) (worth_both ss (u ∷ []) ∙ ap (λ (n : ℕ). S + n) one) ∙ ap (λ (n : ℕ). M + S + n) (sym (worth_cons u us))))
      (worth_both (in_turn ms ss) (u ∷ riffled [] [] us) ∙ (c M S U (worth (flat (in_turn ms ss))) (worth (flat (u ∷ riffled [] [] us))) (worth (unit_items u)) (in_turn_worth ms ss) (worth_cons u (riffled [] [] us) ∙ ap (λ (n : ℕ). worth (unit_items u) + n) (riffled_worth [] [] us)) ∙ ap (λ (n : ℕ). M + S + n) (sym (worth_cons u us))))
    where
      a : (M S U x y : ℕ) → x ≡ M + y → x + S + U ≡ M + S + (y + U)
      a M S U x y e = omega arith

      b : (M S U x y : ℕ) → x ≡ S + y → M + x + U ≡ M + S + (y + U)
      b M S U x y e = omega arith

      c : (M S U x y z : ℕ) → x ≡ M + S → y ≡ z + (0 + 0 + U) → x + y ≡ M + S + (z + U)
      c M S U x y z e f = omega arith

  abbrev waiting : Option Item → ℕ
  waiting None = 0
  waiting (Some p) = m p

  units_worth : (w : Option Item) (xs : List Item) → worth (flat (units_behind w xs)) ≡ waiting w + worth xs
  units_worth None [] = refl
  units_worth (Some p) [] = one (m p)
    where
      one : (n : ℕ) → 0 + n ≡ n + 0
      one n = omega arith
  units_worth None (x ∷ xs) = elim (is_product x.instr) as (λ z. worth (flat (cond z (units_behind (Some x) xs) (One x ∷ units_behind None xs))) ≡ 0 + worth (x ∷ xs)) [
    | true ↦ units_worth (Some x) xs ∙ (front (m x) (worth xs) ∙ ap (λ (n : ℕ). 0 + n) (sym (sum_by-cons m x xs)))
    | false ↦ sum_by-cons m x (flat (units_behind None xs)) ∙ (ap (λ (n : ℕ). m x + n) (units_worth None xs) ∙ (back (m x) (worth xs) ∙ ap (λ (n : ℕ). 0 + n) (sym (sum_by-cons m x xs))))
  ]
    where
      front : (a b : ℕ) → a + b ≡ 0 + (a + b)
      front a b = omega arith

      back : (a b : ℕ) → a + (0 + b) ≡ 0 + (a + b)
      back a b = omega arith
  units_worth (Some p) (x ∷ xs) = sum_by-cons m p (x ∷ flat (units_behind None xs)) ∙ (ap (λ (n : ℕ). m p + n) (sum_by-cons m x (flat (units_behind None xs)) ∙ (ap (λ (n : ℕ). m x + n) (units_worth None xs) ∙ (zero_in (m x) (worth xs) ∙ sym (sum_by-cons m x xs)))))
    where
      zero_in : (a b : ℕ) → a + (0 + b) ≡ a + b
      zero_in a b = omega arith

  pub turned_worth : (xs : List Item) → worth (turned xs) ≡ worth xs
  turned_worth xs = riffled_worth [] [] (units xs) ∙ zeros (worth (flat (units xs))) (worth xs) (units_worth None xs)
    where
      zeros : (a b : ℕ) → a ≡ 0 + b → 0 + 0 + a ≡ b
      zeros a b e = omega arith

  module _ (no : m idle ≡ 0) where
    nops_worth : (n : ℕ) → worth (replicate n idle) ≡ 0
    nops_worth zero = refl
    nops_worth (suc n) = sum_by-cons m idle (replicate n idle) ∙ both (m idle) (worth (replicate n idle)) no (nops_worth n)
      where
        both : (a b : ℕ) → a ≡ 0 → b ≡ 0 → a + b ≡ 0
        both a b e f = omega arith

    spaced_worth : (last quiet : ℕ) (xs : List Item) → worth (with_nops last quiet xs) ≡ worth xs
    spaced_worth last quiet [] = refl
    spaced_worth last quiet (x ∷ xs) =
        let w : ℕ = wait last quiet x.instr in
        let rest : List Item = with_nops (loaded x.instr) (quiet_after x.instr (quiet - w)) xs in
        elim (is_break x.instr) as (λ z. worth (cond z (x ∷ with_nops last quiet xs) (replicate w idle ++ x ∷ rest)) ≡ worth (x ∷ xs)) [
          | true ↦ sum_by-cons m x (with_nops last quiet xs) ∙ (ap (λ (n : ℕ). m x + n) (spaced_worth last quiet xs) ∙ sym (sum_by-cons m x xs))
          | false ↦ sum_by-append m (replicate w idle) (x ∷ rest) ∙ (none (worth (replicate w idle)) (worth (x ∷ rest)) (nops_worth w) ∙ (sum_by-cons m x rest ∙ (ap (λ (n : ℕ). m x + n) (spaced_worth (loaded x.instr) (quiet_after x.instr (quiet - w)) xs) ∙ sym (sum_by-cons m x xs))))
        ]
      where
        none : (a b : ℕ) → a ≡ 0 → a + b ≡ b
        none a b e = omega arith

    pub same_worth : (xs : List Item) → worth (scheduled xs) ≡ worth xs
    same_worth xs = spaced_worth 0 0 (turned xs) ∙ turned_worth xs

-- ---- how many nops come

abbrev added : ℕ → ℕ → List Item → ℕ
added last quiet [] = 0
added last quiet (x ∷ xs) = cond (is_break x.instr) (added last quiet xs) (wait last quiet x.instr + added (loaded x.instr) (quiet_after x.instr (quiet - wait last quiet x.instr)) xs)

length_replicate : (n : ℕ) → length (replicate n idle) ≡ n
length_replicate zero = refl
length_replicate (suc n) = ap (λ (k : ℕ). suc k) (length_replicate n)

added_long : (last quiet : ℕ) (xs : List Item) → length (with_nops last quiet xs) ≡ added last quiet xs + length xs
added_long last quiet [] = refl
added_long last quiet (x ∷ xs) =
    let w : ℕ = wait last quiet x.instr in
    let q : ℕ = quiet_after x.instr (quiet - w) in
    let rest : List Item = with_nops (loaded x.instr) q xs in
    elim (is_break x.instr) as (λ z. length (cond z (x ∷ with_nops last quiet xs) (replicate w idle ++ x ∷ rest)) ≡ cond z (added last quiet xs) (w + added (loaded x.instr) q xs) + suc (length xs)) [
      | true ↦ up (length (with_nops last quiet xs)) (added last quiet xs) (length xs) (added_long last quiet xs)
      | false ↦ Rattle.std.proofs.Common.length-append (replicate w idle) (x ∷ rest) ∙ more (length (replicate w idle)) w (length rest) (added (loaded x.instr) q xs) (length xs) (length_replicate w) (added_long (loaded x.instr) q xs)
    ]
  where
    up : (a b c : ℕ) → a ≡ b + c → suc a ≡ b + suc c
    up a b c e = omega arith

    more : (a w b c d : ℕ) → a ≡ w → b ≡ c + d → a + suc b ≡ w + c + suc d
    more a w b c d e f = omega arith

-- What may still have to wait behind an item is paid by the item.
paid : (a p v : Bool) (l quiet w : ℕ) → w ≡ max (cond a 1 0) (cond p quiet 0) → (v ≡ true → p ≡ false) → (k : ℕ) → k ≡ cond (l == 0) 0 1 → (v ≡ true → k ≡ 0) →
    w + (k + cond v 2 ((quiet - w) - 1)) ≤ (cond a 1 0 + quiet) + (k + cond v 2 0)
paid true true true l quiet w e vp k f g = absurd (Rattle.std.proofs.Common.true≢false (vp refl))
paid false true true l quiet w e vp k f g = absurd (Rattle.std.proofs.Common.true≢false (vp refl))
paid true false true l quiet w e vp k f g = omega arith
paid false false true l quiet w e vp k f g = omega arith
paid true true false l quiet w e vp k f g = omega arith
paid true false false l quiet w e vp k f g = omega arith
paid false true false l quiet w e vp k f g = omega arith
paid false false false l quiet w e vp k f g = omega arith

move_plain : (x : Instr) → is_move x ≡ true → (is_product x ≡ false) × (loaded x ≡ 0)
move_plain (mips.Mfhi rd) h = (refl, refl)
move_plain (mips.Mflo rd) h = (refl, refl)
move_plain x h = absurd (Rattle.std.proofs.Common.true≢false (sym h))

nops_are : (z v : Bool) → (v ≡ true → z ≡ true) → cond (not z) 1 (cond v 2 0) ≡ cond z 0 1 + cond v 2 0
nops_are true true h = refl
nops_are true false h = refl
nops_are false true h = absurd (Rattle.std.proofs.Common.true≢false (sym (h refl)))
nops_are false false h = refl

zero_is : (n : ℕ) → n ≡ 0 → (n == 0) ≡ true
zero_is n h = grind arith

hazard_low : (z r : Bool) → cond (not z && r) 1 0 ≤ cond z 0 1
hazard_low true r = Rattle.std.proofs.Common.zero-le
hazard_low false true = Rattle.std.proofs.Common.le_refl 1
hazard_low false false = Rattle.std.proofs.Common.zero-le

pub added_paid : (xs : List Item) (last quiet : ℕ) → added last quiet xs ≤ (cond (last == 0) 0 1 + quiet) + sum_by nops_for xs
added_paid [] last quiet = Rattle.std.proofs.Common.zero-le
added_paid (x ∷ xs) last quiet =
    let w : ℕ = wait last quiet x.instr in
    let l : ℕ = loaded x.instr in
    let q : ℕ = quiet_after x.instr (quiet - w) in
    let z : ℕ = cond (last == 0) 0 1 in
    let k : ℕ = cond (l == 0) 0 1 in
    elim (is_break x.instr) as (λ b. cond b (added last quiet xs) (w + added l q xs) ≤ (z + quiet) + sum_by nops_for (x ∷ xs)) [
      | true ↦ subst (λ (n : ℕ). added last quiet xs ≤ (z + quiet) + n) (sym (sum_by-cons nops_for x xs)) (passes (added last quiet xs) (z + quiet) (nops_for x) (sum_by nops_for xs) (added_paid xs last quiet))
      | false ↦ subst (λ (n : ℕ). w + added l q xs ≤ (z + quiet) + n) (sym (sum_by-cons nops_for x xs))
          (pays w (added l q xs) k q (sum_by nops_for xs) (cond (not (last == 0) && among last (reads_of x.instr)) 1 0) z quiet (nops_for x) (k + cond (is_move x.instr) 2 0)
          (added_paid xs l q)
          (paid (not (last == 0) && among last (reads_of x.instr)) (is_product x.instr) (is_move x.instr) l quiet w refl (λ v. (move_plain x.instr v).0) k refl (λ v. ap (λ (y : Bool). cond y 0 1) (zero_is l (move_plain x.instr v).1)))
          (hazard_low (last == 0) (among last (reads_of x.instr)))
          (nops_are (l == 0) (is_move x.instr) (λ v. zero_is l (move_plain x.instr v).1)))
    ]
  where
    passes : (a b c d : ℕ) → a ≤ b + d → a ≤ b + (c + d)
    passes a b c d h = omega arith

    pays : (w r k q s a z quiet n m : ℕ) → r ≤ (k + q) + s → w + (k + q) ≤ (a + quiet) + m → a ≤ z → n ≡ m → w + r ≤ (z + quiet) + (n + s)
    pays w r k q s a z quiet n m h g e f = omega arith

-- ---- free nops

abbrev pub nopping : Item → ℕ
nopping i = cond (is_nop i.instr) 1 0

abbrev pub nops_in : List Item → ℕ
nops_in xs = sum_by nopping xs

data_stays : (x : Instr) → is_data x ≡ true → is_jump x ≡ false
data_stays (mips.Jr rs) h = absurd (Rattle.std.proofs.Common.true≢false (sym h))
data_stays (mips.J t) h = absurd (Rattle.std.proofs.Common.true≢false (sym h))
data_stays (mips.Jal t) h = absurd (Rattle.std.proofs.Common.true≢false (sym h))
data_stays (mips.Beq rs rt imm) h = absurd (Rattle.std.proofs.Common.true≢false (sym h))
data_stays (mips.Bne rs rt imm) h = absurd (Rattle.std.proofs.Common.true≢false (sym h))
data_stays x h = refl

and_true : (z : Bool) → (z && true) ≡ z
and_true true = refl
and_true false = refl

pub free_stretch : (xs rest : List Item) → Each InStretch xs → free_nops_behind false (xs ++ rest) ≡ nops_in xs + free_nops_behind false rest
free_stretch [] rest h = sym (Rattle.std.proofs.Common.zero-add (free_nops_behind false rest))
free_stretch (x ∷ xs) rest h =
    ap (λ (z : Bool). cond z 1 0 + free_nops_behind (is_jump x.instr) (xs ++ rest)) (and_true (is_nop x.instr)) ∙
    (ap (λ (z : Bool). nopping x + free_nops_behind z (xs ++ rest)) (data_stays x.instr h.0.0) ∙
    (ap (λ (n : ℕ). nopping x + n) (free_stretch xs rest h.1) ∙ (assoc (nopping x) (nops_in xs) (free_nops_behind false rest) ∙ ap (λ (n : ℕ). n + free_nops_behind false rest) (sym (sum_by-cons nopping x xs)))))
  where
    assoc : (a b c : ℕ) → a + (b + c) ≡ a + b + c
    assoc a b c = omega arith

abbrev pub slot_after : Bool → List Item → Bool
slot_after s [] = s
slot_after s (x ∷ xs) = slot_after (is_jump x.instr) xs

pub free_both : (s : Bool) (xs ys : List Item) → free_nops_behind s (xs ++ ys) ≡ free_nops_behind s xs + free_nops_behind (slot_after s xs) ys
free_both s [] ys = sym (Rattle.std.proofs.Common.zero-add (free_nops_behind s ys))
free_both s (x ∷ xs) ys = ap (λ (n : ℕ). cond (is_nop x.instr && not s) 1 0 + n) (free_both (is_jump x.instr) xs ys) ∙ assoc (cond (is_nop x.instr && not s) 1 0) (free_nops_behind (is_jump x.instr) xs) (free_nops_behind (slot_after (is_jump x.instr) xs) ys)
  where
    assoc : (a b c : ℕ) → a + (b + c) ≡ a + b + c
    assoc a b c = omega arith

pub no_slot : (f : Form) → IsFixed f → slot_after false (form_items f) ≡ false
no_slot (Alone i) h = absurd h
no_slot (Product i j) h = absurd h
no_slot (Store true v b o) h = refl
no_slot (Store false v b o) h = refl
no_slot (Test true r code) h = refl
no_slot (Test false r code) h = refl
no_slot (Output true) h = refl
no_slot (Output false) h = refl
no_slot (Takes r) h = refl
no_slot Idle h = refl

merge_worth : (m : Item → ℕ) (ms ss l : List Whole) → Merge ms ss l → sum_by m (flat l) ≡ sum_by m (flat ms) + sum_by m (flat ss)
merge_worth m ms ss l done = refl
merge_worth m ms ss l (first u us vs k r) = sum_by-append m (unit_items u) (flat k) ∙ (up (sum_by m (unit_items u)) (sum_by m (flat k)) (sum_by m (flat us)) (sum_by m (flat vs)) (merge_worth m us vs k r) ∙ ap (λ (n : ℕ). n + sum_by m (flat vs)) (sym (sum_by-append m (unit_items u) (flat us))))
  where
    up : (a b c d : ℕ) → b ≡ c + d → a + b ≡ a + c + d
    up a b c d e = omega arith
merge_worth m ms ss l (second u us vs k r) = sum_by-append m (unit_items u) (flat k) ∙ (up (sum_by m (unit_items u)) (sum_by m (flat k)) (sum_by m (flat us)) (sum_by m (flat vs)) (merge_worth m us vs k r) ∙ ap (λ (n : ℕ). sum_by m (flat us) + n) (sym (sum_by-append m (unit_items u) (flat vs))))
  where
    up : (a b c d : ℕ) → b ≡ c + d → a + b ≡ c + (a + d)
    up a b c d e = omega arith

ones : (xs : List Item) → sum_by (λ (i : Item). 1) xs ≡ length xs
ones [] = refl
ones (x ∷ xs) = sum_by-cons (λ (i : Item). 1) x xs ∙ (ap (λ (n : ℕ). 1 + n) (ones xs) ∙ one (length xs))
  where
    one : (n : ℕ) → 1 + n ≡ suc n
    one n = omega arith

merge_long : (ms ss l : List Whole) → Merge ms ss l → length (flat l) ≡ length (flat ms) + length (flat ss)
merge_long ms ss l r = sym (ones (flat l)) ∙ (merge_worth (λ (i : Item). 1) ms ss l r ∙ (ap (λ (n : ℕ). n + sum_by (λ (i : Item). 1) (flat ss)) (ones (flat ms)) ∙ ap (λ (n : ℕ). length (flat ms) + n) (ones (flat ss))))

spaced_count : (us : List Whole) (ys : List Item) → Spaced us ys → nops_in ys + length (flat us) ≡ nops_in (flat us) + length ys
spaced_count us ys nothing = refl
spaced_count us ys (unit u vs zs s) =
    let a : ℕ = nops_in (unit_items u) in
    let n : ℕ = length (unit_items u) in
    both (nops_in (unit_items u ++ zs)) (length (flat (u ∷ vs))) (nops_in (flat (u ∷ vs))) (length (unit_items u ++ zs)) a (nops_in zs) n (length (flat vs)) (nops_in (flat vs)) (length zs)
    (sum_by-append nopping (unit_items u) zs) (Rattle.std.proofs.Common.length-append (unit_items u) (flat vs)) (sum_by-append nopping (unit_items u) (flat vs)) (Rattle.std.proofs.Common.length-append (unit_items u) zs) (spaced_count vs zs s)
  where
    both : (x y z w a b n c d e : ℕ) → x ≡ a + b → y ≡ n + c → z ≡ a + d → w ≡ n + e → b + c ≡ d + e → x + y ≡ z + w
    both x y z w a b n c d e f g h i j = omega arith
spaced_count us ys (space vs zs s) = ap (λ (n : ℕ). n + length (flat vs)) (sum_by-cons nopping idle zs) ∙ up (nops_in zs) (length (flat vs)) (nops_in (flat vs)) (length zs) (spaced_count vs zs s)
  where
    up : (a b c d : ℕ) → a + b ≡ c + d → 1 + a + b ≡ c + suc d
    up a b c d e = omega arith

stretch_count : (old new : List Item) → Stretched old new → nops_in new + length old ≡ nops_in old + length new
stretch_count old new s =
    let k : List Whole = in_turn s.ms s.ss in
    let m : Merge s.ms s.ss k = in_turn_merges s.ms s.ss in
    same (nops_in new) (length old) (nops_in old) (length new) (length (flat k)) (nops_in (flat k))
    (ap (λ (l : List Item). length l) s.old_is ∙ (merge_long s.ms s.ss s.l s.before ∙ sym (merge_long s.ms s.ss k m)))
    (ap nops_in s.old_is ∙ (merge_worth nopping s.ms s.ss s.l s.before ∙ sym (merge_worth nopping s.ms s.ss k m)))
    (spaced_count k new s.new_is)
  where
    same : (a b c d e f : ℕ) → b ≡ e → c ≡ f → a + e ≡ f + d → a + b ≡ c + d
    same a b c d e f g h i = omega arith

spaced_in : (us : List Whole) (ys : List Item) → Spaced us ys → Each InStretch (flat us) → Each InStretch ys
spaced_in us ys nothing h = h
spaced_in us ys (unit (One i) vs zs s) h = (h.0, spaced_in vs zs s h.1)
spaced_in us ys (unit (Two i j) vs zs s) h = (h.0, (h.1.0, spaced_in vs zs s h.1.1))
spaced_in us ys (space vs zs s) h = ((refl, refl), spaced_in vs zs s h)

pub old_in : (old new : List Item) → Stretched old new → Each InStretch old
old_in old new s = subst (Each InStretch) (sym s.old_is) (merge_in s.ms s.ss s.l s.first_stream s.second_stream s.before)

pub new_in : (old new : List Item) → Stretched old new → Each InStretch new
new_in old new s = spaced_in (in_turn s.ms s.ss) new s.new_is (merge_in s.ms s.ss (in_turn s.ms s.ss) s.first_stream s.second_stream (in_turn_merges s.ms s.ss))

pub parts_free : (P : Form → Type 0) (R : Close → Type 0) (xs ys : List Item) → Parts P R xs ys → free_nops ys + length xs ≡ free_nops xs + length ys
parts_free P R xs ys (part old new s f p h us vs more) =
    let items : List Item = form_items f in
    let n : ℕ = free_nops items in
    all (free_nops ys) (length xs) (free_nops xs) (length ys) (nops_in new) (nops_in old) n (free_nops vs) (free_nops us) (length old) (length new) (length items) (length us) (length vs)
    (front new vs (new_in old new s)) (long old us) (front old us (old_in old new s)) (long new vs) (stretch_count old new s) (parts_free P R us vs more)
  where
    front : (new vs : List Item) → Each InStretch new → free_nops (new ++ (form_items f ++ vs)) ≡ nops_in new + (free_nops (form_items f) + free_nops vs)
    front new vs i = free_stretch new (form_items f ++ vs) i ∙ ap (λ (k : ℕ). nops_in new + k) (free_both false (form_items f) vs ∙ ap (λ (z : Bool). free_nops (form_items f) + free_nops_behind z vs) (no_slot f h))

    long : (old us : List Item) → length (old ++ (form_items f ++ us)) ≡ length old + (length (form_items f) + length us)
    long old us = Rattle.std.proofs.Common.length-append old (form_items f ++ us) ∙ ap (λ (k : ℕ). length old + k) (Rattle.std.proofs.Common.length-append (form_items f) us)

    all : (fy lx fx ly cn co n fv fu lo ln li lu lv : ℕ) → fy ≡ cn + (n + fv) → lx ≡ lo + (li + lu) → fx ≡ co + (n + fu) → ly ≡ ln + (li + lv) → cn + lo ≡ co + ln → fv + lu ≡ fu + lv → fy + lx ≡ fx + ly
    all fy lx fx ly cn co n fv fu lo ln li lu lv a b c d e g = omega arith
parts_free P R xs ys (closing old new s c r) =
    all (free_nops ys) (length xs) (free_nops xs) (length ys) (nops_in new) (nops_in old) (free_nops (close_items c)) (length old) (length new) (length (close_items c))
    (free_stretch new (close_items c) (new_in old new s)) (Rattle.std.proofs.Common.length-append old (close_items c)) (free_stretch old (close_items c) (old_in old new s)) (Rattle.std.proofs.Common.length-append new (close_items c)) (stretch_count old new s)
  where
    all : (fy lx fx ly cn co n lo ln li : ℕ) → fy ≡ cn + n → lx ≡ lo + li → fx ≡ co + n → ly ≡ ln + li → cn + lo ≡ co + ln → fy + lx ≡ fx + ly
    all fy lx fx ly cn co n lo ln li a b c d e = omega arith

-- ---- blocks

turned_long : (xs : List Item) → length (turned xs) ≡ length xs
turned_long xs = sym (ones (turned xs)) ∙ (turned_worth (λ (i : Item). 1) xs ∙ ones xs)

-- A block has at most as many nops more as its loads and moves may need.
few_nops : (xs : List Item) → (k : ℕ) × (length (scheduled xs) ≡ k + length xs) × (k ≤ sum_by nops_for xs)
few_nops xs = (
  added 0 0 (turned xs),
  added_long 0 0 (turned xs) ∙ ap (λ (n : ℕ). added 0 0 (turned xs) + n) (turned_long xs),
  low (added 0 0 (turned xs)) (sum_by nops_for (turned xs)) (sum_by nops_for xs) (added_paid (turned xs) 0 0) (turned_worth nops_for xs),
)
  where
    low : (a b c : ℕ) → a ≤ (0 + 0) + b → b ≡ c → a ≤ c
    low a b c h e = omega arith

same_branches : (xs : List Item) → branches (scheduled xs) ≡ branches xs
same_branches xs = same_worth (λ (i : Item). cond (is_branch i) 1 0) refl xs

same_reloads : (xs : List Item) → count_by (λ (i : Item). is_reload i.instr) (scheduled xs) ≡ count_by (λ (i : Item). is_reload i.instr) xs
same_reloads xs = same_worth (λ (i : Item). cond (is_reload i.instr) 1 0) refl xs

-- A block whose new order is told by its parts.
pub record Told (xs : List Item) : Type 0 where
  pub parts : Parts FormFits CloseFits xs (scheduled xs)
  pub no_free : free_nops xs ≡ 0

block_same : (xs : List Item) → Told xs → (free_nops (scheduled xs) ≤ sum_by nops_for xs) × ((length (scheduled xs) - free_nops (scheduled xs) - checks_there (scheduled xs)) + sum_by checks_wanted (scheduled xs) + 7 + 9 * branches (scheduled xs) ≡ (length xs - free_nops xs - checks_there xs) + sum_by checks_wanted xs + 7 + 9 * branches xs)
block_same xs t =
    let k : (k : ℕ) × (length (scheduled xs) ≡ k + length xs) × (k ≤ sum_by nops_for xs) = few_nops xs in
    let f : free_nops (scheduled xs) + length xs ≡ free_nops xs + length (scheduled xs) = parts_free FormFits CloseFits xs (scheduled xs) t.parts in (
      low (free_nops (scheduled xs)) (length xs) (free_nops xs) (length (scheduled xs)) k.0 (sum_by nops_for xs) f t.no_free k.1 k.2,
      room_is (length (scheduled xs)) (free_nops (scheduled xs)) (checks_there (scheduled xs)) (sum_by checks_wanted (scheduled xs)) (branches (scheduled xs)) (length xs) (free_nops xs) (checks_there xs) (sum_by checks_wanted xs) (branches xs)
          f t.no_free (same_worth (λ (i : Item). cond (is_of_check i.class) 1 0) refl xs) (same_worth checks_wanted refl xs) (same_branches xs),
    )
  where
    low : (fy lx fx ly k n : ℕ) → fy + lx ≡ fx + ly → fx ≡ 0 → ly ≡ k + lx → k ≤ n → fy ≤ n
    low fy lx fx ly k n a b c d = omega arith

    room_is : (ly fy cy wy by_ lx fx cx wx bx : ℕ) → fy + lx ≡ fx + ly → fx ≡ 0 → cy ≡ cx → wy ≡ wx → by_ ≡ bx → (ly - fy - cy) + wy + 7 + 9 * by_ ≡ (lx - fx - cx) + wx + 7 + 9 * bx
    room_is ly fy cy wy by_ lx fx cx wx bx a b c d e = omega arith

-- ---- programs

abbrev Blocks : List HardBlock → Type 0
Blocks bs = Each (λ (b : HardBlock). Told b.items) bs

same_length : (bs : List HardBlock) → length (map scheduled_block bs) ≡ length bs
same_length [] = refl
same_length (b ∷ bs) = ap (λ (n : ℕ). suc n) (same_length bs)

over_blocks : (F : List Item → ℕ) → ((xs : List Item) → F (scheduled xs) ≡ F xs) → (bs : List HardBlock) → sum_by (λ (b : HardBlock). F b.items) (map scheduled_block bs) ≡ sum_by (λ (b : HardBlock). F b.items) bs
over_blocks F h [] = refl
over_blocks F h (b ∷ bs) = sum_by-cons (λ (b : HardBlock). F b.items) (scheduled_block b) (map scheduled_block bs) ∙
    (both (F (scheduled b.items)) (F b.items) (sum_by (λ (b : HardBlock). F b.items) (map scheduled_block bs)) (sum_by (λ (b : HardBlock). F b.items) bs) (h b.items) (over_blocks F h bs) ∙ sym (sum_by-cons (λ (b : HardBlock). F b.items) b bs))
  where
    both : (a b c d : ℕ) → a ≡ b → c ≡ d → a + c ≡ b + d
    both a b c d e f = omega arith

abbrev rooms : List HardBlock → ℕ
rooms bs = sum_by block_room bs

abbrev frees : List HardBlock → ℕ
frees bs = sum_by (λ (b : HardBlock). free_nops b.items) bs

abbrev needs : List HardBlock → ℕ
needs bs = sum_by (λ (b : HardBlock). sum_by nops_for b.items) bs

same_rooms : (bs : List HardBlock) → Blocks bs → rooms (map scheduled_block bs) ≡ rooms bs
same_rooms [] h = refl
same_rooms (b ∷ bs) h = sum_by-cons block_room (scheduled_block b) (map scheduled_block bs) ∙
    (both (block_room (scheduled_block b)) (block_room b) (rooms (map scheduled_block bs)) (rooms bs) (block_same b.items h.0).1 (same_rooms bs h.1) ∙ sym (sum_by-cons block_room b bs))
  where
    both : (a b c d : ℕ) → a ≡ b → c ≡ d → a + c ≡ b + d
    both a b c d e f = omega arith

few_frees : (bs : List HardBlock) → Blocks bs → frees (map scheduled_block bs) ≤ needs bs
few_frees [] h = Rattle.std.proofs.Common.zero-le
few_frees (b ∷ bs) h =
    subst (λ (n : ℕ). n ≤ needs (b ∷ bs)) (sym (sum_by-cons (λ (b : HardBlock). free_nops b.items) (scheduled_block b) (map scheduled_block bs)))
    (subst (λ (n : ℕ). free_nops (scheduled b.items) + frees (map scheduled_block bs) ≤ n) (sym (sum_by-cons (λ (b : HardBlock). sum_by nops_for b.items) b bs))
    (both (free_nops (scheduled b.items)) (sum_by nops_for b.items) (frees (map scheduled_block bs)) (needs bs) (block_same b.items h.0).0 (few_frees bs h.1)))
  where
    both : (a b c d : ℕ) → a ≤ b → c ≤ d → a + c ≤ b + d
    both a b c d e f = omega arith

pub keeps_counts : (p : HardProgram) → (HasNoFreeNop p → Blocks p.blocks) → KeepsCounts p (scheduled_program p)
keeps_counts p h = record {
  blocks = same_length p.blocks;
  branches_same = over_blocks branches same_branches p.blocks;
  reloads_same = over_blocks (λ xs. count_by (λ (i : Item). is_reload i.instr) xs) same_reloads p.blocks;
  room_not_raised = λ n. low (rooms (map scheduled_block p.blocks)) (rooms p.blocks) (frees (map scheduled_block p.blocks)) (needs (map scheduled_block p.blocks)) (frees p.blocks) (needs p.blocks)
      (same_rooms p.blocks (h n)) (few_frees p.blocks (h n)) (over_blocks (λ xs. sum_by nops_for xs) (λ xs. same_worth nops_for refl xs) p.blocks);
}
  where
    low : (r' r f' n' f n : ℕ) → r' ≡ r → f' ≤ n → n' ≡ n → r' + max f' n' ≤ r + max f n
    low r' r f' n' f n a b c = omega arith
