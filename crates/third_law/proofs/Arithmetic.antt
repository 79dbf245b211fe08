-- Words and the operations on them: constants by halves, copies, products and quotients.
use Rattle.std.proofs.Common.{◌≡◌, ◌≢◌, ◌≤◌, ◌<◌, ℕ, zero, suc, ◌+◌, ◌-◌, ◌*◌, ◌/◌, ◌%◌, ◌^◌, arith, ap, refl, sym, ◌∙◌, subst, List, [], ◌∷◌, ◌++◌, append_assoc, length, get_or, Bool, true, false, cond, not, inl, inr, le_refl, mod-lt, ℤ, pos, negsuc, w32, w64}
use Rattle.std.specs.Prelude.{Option, Some, None, Result, Ok, Err, ◌⊎◌, ◌==◌, ◌&&◌, nat_le, nat_lt, slice_index, slice_set, if◌then◌else◌, IsTrue, bit_or, bit_and, bit_xor, int_lt, int_div, int_rem}
use Rattle.std.specs.Int.{cast_unsigned}
use Rattle.std.proofs.lemmas.Nat.{and_le_l, and_le_r, or_shifted}
use Rattle.std.specs.Int.Bits.{xor_self, xor_add_and, or_zero_r}
use Rattle.hard_words.specs.Words.{extended, signed, signed_product, signed_division, division}
use Rattle.mid_blocks.specs.Run.{truth, by_non_zero, with_sign}
use Rattle.mips_isa.specs.Machine.{plus}

-- ---- words

pub truth_small : (z : Bool) → truth z < 2 ^ 32
truth_small true = omega arith
truth_small false = omega arith

pub shift_small : (x k : ℕ) → x < 2 ^ 32 → x / 2 ^ k < 2 ^ 32
shift_small x k h = Rattle.std.proofs.Common.lt_of_le_of_lt (Rattle.std.proofs.Common.div-le_self x (2 ^ k)) h

pub xor_zero : (x y : ℕ) → bit_xor x y ≡ 0 → x ≡ y
xor_zero x y h = omega (arith, xor_add_and x y, and_le_l x y, and_le_r x y)

-- 1 exactly where two words are equal
pub equal_fn : (x y : ℕ) → truth (nat_lt (bit_xor x y) (extended 1)) ≡ truth (x == y)
equal_fn x y = elim (x == y) as (λ z. (x == y) ≡ z → truth (nat_lt (bit_xor x y) (extended 1)) ≡ truth z) [
  | true ↦ λ e. ap (λ (n : ℕ). truth (nat_lt n (extended 1))) (ap (λ (n : ℕ). bit_xor n y) (eq_is x y e) ∙ xor_self y)
  | false ↦ λ e. ap (λ (z : Bool). truth z) (not_below (bit_xor x y) (λ h. eq_not x y e (xor_zero x y h)))
] refl
  where
    eq_is : (m n : ℕ) → (m == n) ≡ true → m ≡ n
    eq_is m n h = grind arith

    eq_not : (m n : ℕ) → (m == n) ≡ false → m ≢ n
    eq_not m n h = grind arith

    not_below : (n : ℕ) → n ≢ 0 → nat_lt n (extended 1) ≡ false
    not_below n h = grind arith

pub differ_fn : (x y : ℕ) → truth (nat_lt 0 (bit_xor x y)) ≡ truth (not (x == y))
differ_fn x y = elim (x == y) as (λ z. (x == y) ≡ z → truth (nat_lt 0 (bit_xor x y)) ≡ truth (not z)) [
  | true ↦ λ e. ap (λ (n : ℕ). truth (nat_lt 0 n)) (ap (λ (n : ℕ). bit_xor n y) (eq_is x y e) ∙ xor_self y)
  | false ↦ λ e. ap (λ (z : Bool). truth z) (above (bit_xor x y) (λ h. eq_not x y e (xor_zero x y h)))
] refl
  where
    eq_is : (m n : ℕ) → (m == n) ≡ true → m ≡ n
    eq_is m n h = grind arith

    eq_not : (m n : ℕ) → (m == n) ≡ false → m ≢ n
    eq_not m n h = grind arith

    above : (n : ℕ) → n ≢ 0 → nat_lt 0 n ≡ true
    above n h = grind arith

-- ---- constants

pub half_small : (x : ℕ) → x < 2 ^ 16 → x * 2 ^ 16 < 2 ^ 32
half_small x h = omega arith

pub word_low : (w : ℕ) → (w / 2 ^ 16 == 0) ≡ true → bit_or 0 w ≡ w
word_low w h = refl

pub word_high : (w : ℕ) → (w % 2 ^ 16 == 0) ≡ true → w / 2 ^ 16 * 2 ^ 16 ≡ w
word_high w h = grind arith

pub extended_high : (n : ℕ) → 2 ^ 15 ≤ n → n < 2 ^ 16 → extended n ≡ n + (2 ^ 32 - 2 ^ 16)
extended_high n h k = grind arith

pub extended_low : (n : ℕ) → n < 2 ^ 15 → extended n ≡ n
extended_low n h = grind arith

pub word_negative : (w : ℕ) → w < 2 ^ 32 → (w / 2 ^ 16 == 2 ^ 16 - 1 && nat_le (2 ^ 15) (w % 2 ^ 16)) ≡ true → plus 0 (extended (w % 2 ^ 16)) ≡ w
word_negative w h k = rw (extended_high (w % 2 ^ 16) (and_right (w / 2 ^ 16 == 2 ^ 16 - 1) (w % 2 ^ 16) k) (mod-lt w (omega arith))) (total w h (and_left (w / 2 ^ 16) (nat_le (2 ^ 15) (w % 2 ^ 16)) k))
  where
    and_right : (x : Bool) (n : ℕ) → (x && nat_le (2 ^ 15) n) ≡ true → 2 ^ 15 ≤ n
    and_right x n k = grind arith

    and_left : (n : ℕ) (y : Bool) → (n == 2 ^ 16 - 1 && y) ≡ true → n ≡ 2 ^ 16 - 1
    and_left n y k = grind arith

    total : (w : ℕ) → w < 2 ^ 32 → w / 2 ^ 16 ≡ 2 ^ 16 - 1 → (0 + (w % 2 ^ 16 + (2 ^ 32 - 2 ^ 16))) % 2 ^ 32 ≡ w
    total w h k = omega arith

pub word_joined : (w : ℕ) → bit_or (w / 2 ^ 16 * 2 ^ 16) (w % 2 ^ 16) ≡ w
word_joined w = or_shifted (w / 2 ^ 16) 16 (w % 2 ^ 16) (mod-lt w (omega arith)) ∙ joined w
  where
    joined : (w : ℕ) → w / 2 ^ 16 * 2 ^ 16 + w % 2 ^ 16 ≡ w
    joined w = omega arith

pub high_part : (w : ℕ) → w < 2 ^ 32 → w / 2 ^ 16 * 2 ^ 16 < 2 ^ 32
high_part w h = omega arith

pub copy_small : (w : ℕ) → w < 2 ^ 32 → (w + 0) % 2 ^ 32 ≡ w
copy_small w h = omega arith

-- ---- products and quotients

pub ok_same : (x y : ℕ) → ◌≡◌ {A = Result ℕ ℕ} (Ok x) (Ok y) → x ≡ y
ok_same x y e = ap (λ (r : Result ℕ ℕ). elim r as (λ z. ℕ) [ Ok v ↦ v | Err k ↦ 0 ]) e

pub sum_of : (p x y : ℕ) → p + x ≡ 2 ^ 32 → p * y + x * y ≡ 2 ^ 32 * y
sum_of p x y h = sym (Rattle.std.proofs.Common.add-mul p x y) ∙ ap (λ (n : ℕ). n * y) h

pub neg_low : (n m : ℕ) → (y : ℕ) → n + m ≡ 2 ^ 32 * y → y ≤ 2 ^ 32 → cast_unsigned w64 (Rattle.std.specs.Prelude.neg_ℤ (pos n)) % 2 ^ 32 ≡ m % 2 ^ 32
neg_low zero m y h k = omega arith
neg_low (suc n) m y h k = omega arith

pub below_pos : (x : ℕ) → x < 2 ^ 31 → signed x ≡ pos x
below_pos x h = grind arith

pub above_neg : (x : ℕ) → 2 ^ 31 ≤ x → signed x ≡ negsuc (2 ^ 32 - suc x)
above_neg x h = grind arith

pub suc_of : (x : ℕ) → x < 2 ^ 32 → suc (2 ^ 32 - suc x) + x ≡ 2 ^ 32
suc_of x h = omega arith

pub suc_le : (x : ℕ) → x ≤ 2 ^ 32 → x < 2 ^ 32 → x ≤ 2 ^ 32
suc_le x h k = h

pub both_neg : (u v x y : ℕ) → u + x ≡ 2 ^ 32 → v + y ≡ 2 ^ 32 → (u * v) % 2 ^ 32 ≡ (x * y) % 2 ^ 32
both_neg u v x y e f = last (u * v) (x * v) (x * y) v x (sum_of u x v e) (Rattle.std.proofs.Common.mul_comm v x) (sum_of v y x f) (Rattle.std.proofs.Common.mul_comm y x)
  where
    last : (uv xv xy v x : ℕ) → {vx yx : ℕ} → uv + xv ≡ 2 ^ 32 * v → vx ≡ xv → vx + yx ≡ 2 ^ 32 * x → yx ≡ xy → uv % 2 ^ 32 ≡ xy % 2 ^ 32
    last uv xv xy v x {vx} {yx} a b c d = omega arith

pub low_product : (x y : ℕ) → x < 2 ^ 32 → y < 2 ^ 32 → (signed_product x y).1 ≡ (x * y) % 2 ^ 32
low_product x y h k = elim (split x) as (λ z. (signed_product x y).1 ≡ (x * y) % 2 ^ 32) [
  | inl p ↦ elim (split y) as (λ z. (signed_product x y).1 ≡ (x * y) % 2 ^ 32) [
    | inl q ↦ rw (below_pos x p, below_pos y q) refl
    | inr q ↦ rw (below_pos x p, above_neg y q) (neg_low (x * suc (2 ^ 32 - suc y)) (x * y) x (ap (λ (n : ℕ). n + x * y) (Rattle.std.proofs.Common.mul_comm x (suc (2 ^ 32 - suc y))) ∙ (ap (λ (n : ℕ). suc (2 ^ 32 - suc y) * x + n) (Rattle.std.proofs.Common.mul_comm x y) ∙ sum_of (suc (2 ^ 32 - suc y)) y x (suc_of y k))) (Rattle.std.proofs.Common.le_of_lt h))
  ]
  | inr p ↦ elim (split y) as (λ z. (signed_product x y).1 ≡ (x * y) % 2 ^ 32) [
    | inl q ↦ rw (above_neg x p, below_pos y q) (neg_low (suc (2 ^ 32 - suc x) * y) (x * y) y (sum_of (suc (2 ^ 32 - suc x)) x y (suc_of x h)) (Rattle.std.proofs.Common.le_of_lt k))
    | inr q ↦ rw (above_neg x p, above_neg y q) (both_neg (suc (2 ^ 32 - suc x)) (suc (2 ^ 32 - suc y)) x y (suc_of x h) (suc_of y k))
  ]
]
  where
    split : (n : ℕ) → (n < 2 ^ 31) ⊎ (2 ^ 31 ≤ n)
    split n = Rattle.std.proofs.lemmas.Bool.cases_lt n (2 ^ 31)

-- the quotient and the remainder of words are words
pub abs_neg : (n : ℕ) → Rattle.std.specs.Prelude.unsigned_abs (Rattle.std.specs.Prelude.neg_ℤ (pos n)) ≡ n
abs_neg zero = refl
abs_neg (suc n) = refl

pub from_abs : (z : ℤ) → Rattle.std.specs.Prelude.unsigned_abs z < 2 ^ 32 → cast_unsigned w32 z < 2 ^ 32
from_abs (pos n) h = h
from_abs (negsuc n) h = omega arith

pub quot_abs : (y z : ℤ) → Rattle.std.specs.Prelude.unsigned_abs (int_div y z) ≤ Rattle.std.specs.Prelude.unsigned_abs y
quot_abs (pos a) (pos c) = Rattle.std.proofs.Common.div-le_self a c
quot_abs (pos a) (negsuc c) = rw abs_neg (Rattle.std.proofs.Common.div-le_self a (suc c))
quot_abs (negsuc a) (pos c) = rw abs_neg (Rattle.std.proofs.Common.div-le_self (suc a) c)
quot_abs (negsuc a) (negsuc c) = Rattle.std.proofs.Common.div-le_self (suc a) (suc c)

pub rem_small : (a c : ℕ) → a % c ≤ a
rem_small a c = omega arith

pub rem_abs : (y z : ℤ) → Rattle.std.specs.Prelude.unsigned_abs (int_rem y z) ≤ Rattle.std.specs.Prelude.unsigned_abs y
rem_abs (pos a) z = rem_small a (Rattle.std.specs.Prelude.unsigned_abs z)
rem_abs (negsuc a) z = rw abs_neg (rem_small (suc a) (Rattle.std.specs.Prelude.unsigned_abs z))

pub abs_signed : (x : ℕ) → x < 2 ^ 32 → Rattle.std.specs.Prelude.unsigned_abs (signed x) < 2 ^ 32
abs_signed x h = elim (Rattle.std.proofs.lemmas.Bool.cases_lt x (2 ^ 31)) as (λ z. Rattle.std.specs.Prelude.unsigned_abs (signed x) < 2 ^ 32) [
  | inl p ↦ rw (below_pos x p) h
  | inr p ↦ rw (above_neg x p) (neg_fits x p)
]
  where
    neg_fits : (x : ℕ) → 2 ^ 31 ≤ x → suc (2 ^ 32 - suc x) < 2 ^ 32
    neg_fits x p = omega arith

pub quot_word : (x y : ℕ) → x < 2 ^ 32 → cast_unsigned w32 (int_div (signed x) (signed y)) < 2 ^ 32
quot_word x y h = from_abs (int_div (signed x) (signed y)) (Rattle.std.proofs.Common.lt_of_le_of_lt (quot_abs (signed x) (signed y)) (abs_signed x h))

pub rem_word : (x y : ℕ) → x < 2 ^ 32 → cast_unsigned w32 (int_rem (signed x) (signed y)) < 2 ^ 32
rem_word x y h = from_abs (int_rem (signed x) (signed y)) (Rattle.std.proofs.Common.lt_of_le_of_lt (rem_abs (signed x) (signed y)) (abs_signed x h))

-- ---- an operation that doesn't trap

-- where a quotient is there, it is that of the machine
pub err_ok : (k v : ℕ) → ◌≡◌ {A = Result ℕ ℕ} (Err k) (Ok v) → ⊥
err_ok k v e = cc

pub sign_ok : (x y r v : ℕ) → with_sign x y r ≡ Ok v → ((y == 0) ≡ false) × (r ≡ v)
sign_ok x y r v h = elim (y == 0) as (λ z. cond {A = Result ℕ ℕ} z (Err 7) (cond {A = Result ℕ ℕ} (x == 2 ^ 31 && y == 2 ^ 32 - 1) (Err 6) (Ok r)) ≡ Ok v → (z ≡ false) × (r ≡ v)) [
  | true ↦ λ e. absurd (err_ok 7 v e)
  | false ↦ λ e. (
    refl,
    elim (x == 2 ^ 31 && y == 2 ^ 32 - 1) as (λ z. cond {A = Result ℕ ℕ} z (Err 6) (Ok r) ≡ Ok v → r ≡ v) [
      | true ↦ λ f. absurd (err_ok 6 v f)
      | false ↦ λ f. ok_same r v f
    ] e,
  )
] h

pub unsigned_ok : (y r v : ℕ) → by_non_zero y r ≡ Ok v → ((y == 0) ≡ false) × (r ≡ v)
unsigned_ok y r v h = elim (y == 0) as (λ z. cond {A = Result ℕ ℕ} z (Err 7) (Ok r) ≡ Ok v → (z ≡ false) × (r ≡ v)) [
  | true ↦ λ e. absurd (err_ok 7 v e)
  | false ↦ λ e. (refl, ok_same r v e)
] h

pub cond_false : {A : Type 0} (z : Bool) (u w : A) → z ≡ false → cond z u w ≡ w
cond_false z u w e = rw e refl

pub signed_parts : (x y : ℕ) → (y == 0) ≡ false → signed_division x y ≡ (cast_unsigned w32 (int_rem (signed x) (signed y)), cast_unsigned w32 (int_div (signed x) (signed y)))
signed_parts x y e = cond_false (y == 0) (x, 2 ^ 32 - 1) (cast_unsigned w32 (int_rem (signed x) (signed y)), cast_unsigned w32 (int_div (signed x) (signed y))) e

pub unsigned_parts : (x y : ℕ) → (y == 0) ≡ false → division x y ≡ (x % y, x / y)
unsigned_parts x y e = cond_false (y == 0) (x, 2 ^ 32 - 1) (x % y, x / y) e
