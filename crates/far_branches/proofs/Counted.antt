-- The first blocks of functions and the words of functions, as lists.
use Rattle.std.proofs.Common.{◌≡◌, ◌≤◌, ◌<◌, ℕ, zero, suc, ◌+◌, arith, ap, refl, sym, ◌∙◌, subst, List, [], ◌∷◌, length, map, get_or, Bool, true, false, cond, inl, inr, ◌++◌, take, drop, replicate}
use Rattle.std.proofs.lemmas.List.{take-append-le, take_all}
use Rattle.std.specs.Prelude.{Option, Some, None, ◌⊎◌, ◌==◌, ◌||◌, nat_le, nat_lt, max, min, slice_get, slice_index, All}
use Rattle.std.specs.List.{range_with_len}
use Rattle.std.proofs.lemmas.List.FromFn.{length-range_with_len}
use Rattle.hard_items.specs.declared.code.Item.{Item}
use Rattle.hard_items.specs.declared.code.HardBlock.{HardBlock}
use Rattle.hard_items.specs.declared.code.HardProgram.{HardProgram}
use Rattle.hard_items.specs.Run.{items_of, block_items}
use Rattle.far_branches.specs.Widen.{function_start, words_of, is_large, first_goal, far_of}
use Rattle.far_branches.specs.Far.{has, starts_by, counted, sum_by_start, SumsAre, fars_by, far_list}

-- ---- the first block of a block's function

fs_low : (E : List ℕ) (b : ℕ) → function_start E b ≤ b
fs_low [] b = least b
  where
    least : (b : ℕ) → 0 ≤ b
    least b = omega arith
fs_low (e ∷ E) b = by (nat_le e b) refl (fs_low E b)
  where
    below : (e b x : ℕ) → nat_le e b ≡ true → x ≤ b → max e x ≤ b
    below e b x k h = grind arith

    by : (z : Bool) → nat_le e b ≡ z → function_start E b ≤ b → cond z (max e (function_start E b)) (function_start E b) ≤ b
    by true k h = below e b (function_start E b) k h
    by false k h = h

start_next : (E : List ℕ) (b : ℕ) → function_start E (suc b) ≡ cond (has (suc b) E) (suc b) (function_start E b)
start_next [] b = refl
start_next (e ∷ E) b = by (start_next E b) (nat_le e (suc b)) (nat_le e b) (e == suc b) (has (suc b) E) refl refl refl refl
  where
    top : (e b x : ℕ) → x ≤ suc b → (e == suc b) ≡ true → max e x ≡ suc b
    top e b x h k = grind arith

    le_top : (e b : ℕ) → (e == suc b) ≡ true → nat_le e (suc b) ≡ false → ⊥
    le_top e b h k = grind arith

    gone : (e b : ℕ) → (e == suc b) ≡ false → nat_le e (suc b) ≡ true → nat_le e b ≡ false → ⊥
    gone e b h k m = grind arith

    up : (e b : ℕ) → nat_le e (suc b) ≡ false → nat_le e b ≡ true → ⊥
    up e b h k = grind arith

    over : (e b : ℕ) → nat_le e b ≡ true → max e (suc b) ≡ suc b
    over e b h = grind arith

    by : function_start E (suc b) ≡ cond (has (suc b) E) (suc b) (function_start E b) → (x y z h : Bool) → nat_le e (suc b) ≡ x → nat_le e b ≡ y → (e == suc b) ≡ z → has (suc b) E ≡ h →
        cond x (max e (function_start E (suc b))) (function_start E (suc b)) ≡ cond (z || h) (suc b) (cond y (max e (function_start E b)) (function_start E b))
    by step true y true h p q r s = top e b (function_start E (suc b)) (fs_low E (suc b)) r
    by step false y true h p q r s = absurd (le_top e b r p)
    by step true true false true p q r s = ap (max e) (step ∙ ap (λ (w : Bool). cond w (suc b) (function_start E b)) s) ∙ over e b q
    by step true true false false p q r s = ap (max e) (step ∙ ap (λ (w : Bool). cond w (suc b) (function_start E b)) s)
    by step true false false h p q r s = absurd (gone e b r p q)
    by step false true false h p q r s = absurd (up e b p q)
    by step false false false h p q r s = step ∙ ap (λ (w : Bool). cond w (suc b) (function_start E b)) s

start_zero : (E : List ℕ) → function_start E 0 ≡ 0
start_zero E = none (function_start E 0) (fs_low E 0)
  where
    none : (n : ℕ) → n ≤ 0 → n ≡ 0
    none n h = omega arith

-- The start of the block before, or 0.
abbrev before : List ℕ → ℕ → ℕ
before E zero = 0
before E (suc b) = function_start E b

start_at : (E : List ℕ) (b last : ℕ) → last ≡ before E b → cond (has b E) b last ≡ function_start E b
start_at E zero last e = both (has 0 E) ∙ sym (start_zero E)
  where
    both : (z : Bool) → cond z 0 last ≡ 0
    both true = refl
    both false = e
start_at E (suc b) last e = ap (λ (z : ℕ). cond (has (suc b) E) (suc b) z) e ∙ sym (start_next E b)

starts_list : (E : List ℕ) (ms : List Bool) (at last : ℕ) → last ≡ before E at → ((m : ℕ) → m < length ms → get_or ms m false ≡ has (at + m) E) → starts_by at last ms ≡ map (function_start E) (range_with_len at (length ms))
starts_list E [] at last e f = refl
starts_list E (x ∷ ms) at last e f =
    let q : cond x at last ≡ function_start E at = ap (λ (z : Bool). cond z at last) (f 0 (least (length ms)) ∙ ap (λ (z : ℕ). has z E) (none at)) ∙ start_at E at last e in
    ap (λ (z : ℕ). z ∷ starts_by (at + 1) (cond x at last) ms) q ∙
    ap (λ (z : List ℕ). function_start E at ∷ z) (starts_list E ms (at + 1) (cond x at last) (q ∙ sym (ap (before E) (one at))) (λ m h. f (suc m) (up m (length ms) h) ∙ ap (λ (z : ℕ). has z E) (move at m)))
  where
    least : (n : ℕ) → 0 < suc n
    least n = omega arith

    none : (a : ℕ) → a + 0 ≡ a
    none a = omega arith

    one : (a : ℕ) → a + 1 ≡ suc a
    one a = omega arith

    up : (m n : ℕ) → m < n → suc m < suc n
    up m n h = omega arith

    move : (a m : ℕ) → a + suc m ≡ a + 1 + m
    move a m = omega arith

pub starts_are : (E : List ℕ) (zeros ms : List Bool) (n : ℕ) → ((k : ℕ) → get_or zeros k false ≡ false) → length ms ≡ n → ((k : ℕ) → get_or ms k false ≡ (get_or zeros k false || has k E)) → starts_by 0 0 ms ≡ map (function_start E) (range_with_len 0 n)
starts_are E zeros ms n z e f = starts_list E ms 0 0 refl (λ m h. f m ∙ (ap (λ (x : Bool). x || has m E) (z m) ∙ ap (λ (x : ℕ). has x E) (zero_left m))) ∙ ap (λ (x : ℕ). map (function_start E) (range_with_len 0 x)) e
  where
    zero_left : (m : ℕ) → m ≡ 0 + m
    zero_left m = omega arith

starts_low : (E : List ℕ) (at n m k d : ℕ) → at + n ≤ m → k < length (map (function_start E) (range_with_len at n)) → get_or (map (function_start E) (range_with_len at n)) k d < m
starts_low E at zero m k d h l = absurd (no k l)
  where
    no : (k : ℕ) → k < 0 → ⊥
    no k h = omega arith
starts_low E at (suc n) m zero d h l = less at n m (function_start E at) (fs_low E at) h
  where
    less : (a n m x : ℕ) → x ≤ a → a + suc n ≤ m → x < m
    less a n m x h k = omega arith
starts_low E at (suc n) m (suc k) d h l = starts_low E (at + 1) n m k d (more at n m h) (down k (length (map (function_start E) (range_with_len (at + 1) n))) l)
  where
    more : (a n m : ℕ) → a + suc n ≤ m → a + 1 + n ≤ m
    more a n m h = omega arith

    down : (k n : ℕ) → suc k < suc n → k < n
    down k n h = omega arith

length_map : (f : ℕ → ℕ) (xs : List ℕ) → length (map f xs) ≡ length xs
length_map f [] = refl
length_map f (x ∷ xs) = ap suc (length_map f xs)

pub record StartsFit (xs : List ℕ) (n : ℕ) : Type 0 where
  pub many : length xs ≡ n
  pub there : All (λ s. s < n) xs

pub starts_fit : (E : List ℕ) (n : ℕ) (xs : List ℕ) → xs ≡ map (function_start E) (range_with_len 0 n) → StartsFit xs n
starts_fit E n xs e = subst (λ (z : List ℕ). StartsFit z n) (sym e) (record { many = length_map (function_start E) (range_with_len 0 n) ∙ length-range_with_len 0 n; there = λ k d h. starts_low E 0 n n k d (zero_left n) h })
  where
    zero_left : (n : ℕ) → 0 + n ≤ n
    zero_left n = omega arith

-- ---- words of functions

start_read : (E : List ℕ) (at n k : ℕ) → k < n → slice_index (map (function_start E) (range_with_len at n)) k ≡ function_start E (at + k)
start_read E at zero k h = absurd (no k h)
  where
    no : (k : ℕ) → k < 0 → ⊥
    no k h = omega arith
start_read E at (suc n) zero h = ap (function_start E) (none at)
  where
    none : (a : ℕ) → a ≡ a + 0
    none a = omega arith
start_read E at (suc n) (suc k) h = start_read E (at + 1) n k (down k n h) ∙ ap (function_start E) (move at k)
  where
    down : (k n : ℕ) → suc k < suc n → k < n
    down k n h = omega arith

    move : (a m : ℕ) → a + 1 + m ≡ a + suc m
    move a m = omega arith

same_sums : (S E : List ℕ) (s b : ℕ) (ks : List HardBlock) → ((m : ℕ) → m < length ks → slice_index S (b + m) ≡ function_start E (b + m)) → sum_by_start S s b ks ≡ words_of E s b ks
same_sums S E s b [] f = refl
same_sums S E s b (k ∷ ks) f =
    both (cond (slice_index S b == s) (length k.items + 7) 0) (cond (function_start E b == s) (length k.items + 7) 0) (sum_by_start S s (b + 1) ks) (words_of E s (b + 1) ks)
    (ap (λ (z : ℕ). cond (z == s) (length k.items + 7) 0) (ap (slice_index S) (none b) ∙ (f 0 (least (length ks)) ∙ ap (function_start E) (sym (none b)))))
    (same_sums S E s (b + 1) ks (λ m h. ap (slice_index S) (move b m) ∙ (f (suc m) (up m (length ks) h) ∙ ap (function_start E) (sym (move b m)))))
  where
    both : (x y z w : ℕ) → x ≡ y → z ≡ w → x + z ≡ y + w
    both x y z w e f = cc

    least : (n : ℕ) → 0 < suc n
    least n = omega arith

    none : (a : ℕ) → a ≡ a + 0
    none a = omega arith

    up : (m n : ℕ) → m < n → suc m < suc n
    up m n h = omega arith

    move : (a m : ℕ) → a + 1 + m ≡ a + suc m
    move a m = omega arith

-- ---- the goals of far branches

fars_from : (p : HardProgram) (S W : List ℕ) (b : ℕ) (ks : List HardBlock) → ((m : ℕ) → m < length ks → nat_lt 30000 (slice_index W (slice_index S (b + m))) ≡ is_large p (b + m)) → ((m : ℕ) → m < length ks → block_items (slice_get ks m) ≡ items_of p (b + m)) → fars_by S W b ks ≡ map (far_of p) (range_with_len b (length ks))
fars_from p S W b [] f g = refl
fars_from p S W b (k ∷ ks) f g =
    ap (λ (z : Option ℕ). z ∷ fars_by S W (b + 1) ks) (ap (λ (z : Bool). cond z (first_goal b k.items) None) (ap (λ (z : ℕ). nat_lt 30000 (slice_index W (slice_index S z))) (none b) ∙ (f 0 (least (length ks)) ∙ ap (is_large p) (sym (none b))))
    ∙ ap (λ (z : List Item). cond (is_large p b) (first_goal b z) None) (g 0 (least (length ks)) ∙ ap (items_of p) (sym (none b)))) ∙
    ap (λ (z : List (Option ℕ)). far_of p b ∷ z) (fars_from p S W (b + 1) ks
    (λ m h. ap (λ (z : ℕ). nat_lt 30000 (slice_index W (slice_index S z))) (move b m) ∙ (f (suc m) (up m (length ks) h) ∙ ap (is_large p) (sym (move b m))))
    (λ m h. g (suc m) (up m (length ks) h) ∙ ap (items_of p) (sym (move b m))))
  where
    least : (n : ℕ) → 0 < suc n
    least n = omega arith

    none : (a : ℕ) → a ≡ a + 0
    none a = omega arith

    up : (m n : ℕ) → m < n → suc m < suc n
    up m n h = omega arith

    move : (a m : ℕ) → a + 1 + m ≡ a + suc m
    move a m = omega arith

counts_alike : (n : ℕ) → nat_lt 30000 (counted n) ≡ nat_lt 30000 n
counts_alike n = grind arith

pub fars_are : (p : HardProgram) (ks : List HardBlock) (S W : List ℕ) → ks ≡ p.blocks → S ≡ map (function_start p.entries) (range_with_len 0 (length ks)) → SumsAre S ks W → fars_by S W 0 ks ≡ far_list p
fars_are p ks S W e f h = fars_from p S W 0 ks large own ∙ ap (λ (z : List HardBlock). map (far_of p) (range_with_len 0 (length z))) e
  where
    zero_left : (m : ℕ) → 0 + m ≡ m
    zero_left m = omega arith

    start : (m : ℕ) → m < length ks → slice_index S m ≡ function_start p.entries m
    start m l = ap (λ (z : List ℕ). slice_index z m) f ∙ (start_read p.entries 0 (length ks) m l ∙ ap (function_start p.entries) (zero_left m))

    lower : (x m n : ℕ) → x ≤ m → m < n → x < n
    lower x m n h k = omega arith

    large : (m : ℕ) → m < length ks → nat_lt 30000 (slice_index W (slice_index S (0 + m))) ≡ is_large p (0 + m)
    large m l = ap (λ (z : ℕ). nat_lt 30000 (slice_index W (slice_index S z))) (zero_left m) ∙
        (ap (λ (z : ℕ). nat_lt 30000 (slice_index W z)) (start m l) ∙
        (ap (nat_lt 30000) (h.each (function_start p.entries m) (lower (function_start p.entries m) m (length ks) (fs_low p.entries m) l)) ∙
        (counts_alike (sum_by_start S (function_start p.entries m) 0 ks) ∙
        (ap (nat_lt 30000) (same_sums S p.entries (function_start p.entries m) 0 ks (λ k g. ap (slice_index S) (zero_left k) ∙ (start k g ∙ ap (function_start p.entries) (sym (zero_left k))))) ∙
        (ap (λ (z : List HardBlock). nat_lt 30000 (words_of p.entries (function_start p.entries m) 0 z)) e ∙ ap (is_large p) (sym (zero_left m)))))))

    own : (m : ℕ) → m < length ks → block_items (slice_get ks m) ≡ items_of p (0 + m)
    own m l = ap (λ (z : List HardBlock). block_items (slice_get z m)) e ∙ ap (items_of p) (sym (zero_left m))

-- ---- what is read back of a list that was written in place

pub read_back : {A : Type 0} (n : ℕ) (new old was read : List A) → read ≡ take n (new ++ drop (length new) old) → length new ≡ length was → was ≡ old → length was ≡ n → read ≡ new
read_back n new old was read e f g h =
    e ∙ (take-append-le n new (drop (length new) old) (le n (length new) (length was) f h) ∙ take_all n new (ge n (length new) (length was) f h))
  where
    le : (n a w : ℕ) → a ≡ w → w ≡ n → n ≤ a
    le n a w e f = omega arith

    ge : (n a w : ℕ) → a ≡ w → w ≡ n → a ≤ n
    ge n a w e f = omega arith

-- Falses.
pub all_false : (n k : ℕ) → get_or (replicate n false) k false ≡ false
all_false zero k = refl
all_false (suc n) zero = refl
all_false (suc n) (suc k) = all_false n k

pub sums_moved : {S T W V : List ℕ} {ks : List HardBlock} → S ≡ T → W ≡ V → SumsAre S ks W → SumsAre T ks V
sums_moved {S} {T} {W} {V} {ks} e f h = subst (λ (z : List ℕ). SumsAre z ks V) e (subst (λ (z : List ℕ). SumsAre S ks z) f h)

pub below_sums : {S W : List ℕ} {ks : List HardBlock} → SumsAre S ks W → All (λ s. s < length ks) S → All (λ s. s < length W) S
below_sums {S} {W} {ks} h a k d l = subst (λ (z : ℕ). get_or S k d < z) (sym h.many) (a k d l)
