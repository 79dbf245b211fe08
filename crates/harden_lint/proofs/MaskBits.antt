-- The bits of the masks of guarded registers and of windows.
use Rattle.std.proofs.Common.{◌≡◌, ℕ, ◌+◌, ◌-◌, ◌*◌, ◌^◌, ◌≤◌, ◌<◌, arith, rules, ap, refl, sym, ◌∙◌, subst, List, [], ◌∷◌, ◌++◌, length, get_or, false, true, Bool, cond, inl, inr, max}
use Rattle.std.specs.Prelude.{Option, Some, None, ◌⊎◌, ◌==◌, ◌||◌, ◌&&◌, ◌↔◌, nat_le, bit_or, not}
use Rattle.std.specs.Int.{bit_at}
use Rattle.std.proofs.lemmas.Nat.Bits.{bit_at_or, bit_at-pow_same, bit_at-pow_other, bit_at-zero}
use Rattle.std.proofs.lemmas.Grind.{common_steps}
use Rattle.mips_text.specs.Text.{IsText, InText}
use Rattle.mips_text.specs.Blocks.{IsStart}
use Rattle.harden_lint.specs.declared.Stream.{Stream}
use Rattle.harden_lint.specs.declared.Stream.TheVariants.{Master, Shadow, Nobody}
use Rattle.harden_lint.specs.declared.TypingRow.{TypingRow}
use Rattle.harden_lint.specs.Rows.{AreRows, Produces}
use Rattle.mips_text.specs.Typing.{Role, master, shadow, signs, role_of, Of, CheckAt}
use Rattle.harden_lint.proofs.Places.{no_truth}
use Rattle.harden_lint.specs.StartTable.{Table}
use Rattle.lint_words.specs.Windows.{check_at, window_by, window, awaits, service_near, near}
use Rattle.harden_lint.specs.StreamTests.{streams_by, guarded_from, guarded, product_by, products}
use Rattle.harden_lint.specs.RuleTests.{product_at}
use Rattle.mips_isa.specs.declared.instr.Instr.{Instr}
use Rattle.mips_text.specs.Text.{instr_at}
use Rattle.lint_words.specs.Around.{starts_at, near_before, far_before, leads}
use Rattle.harden_lint.specs.Masks.{IsMask, IsGuardedMask, stream_of, RowFor, RowsTo}
use Rattle.harden_lint.proofs.Around.{and_parts, and_both, or_parts, or_first, or_second, same_number, number_same}
use Rattle.harden_lint.proofs.Windows.{streams_is, one_of_four, guarded_is, is_guarded, products_is, is_products}

no_role : (X : Role) → None ≡ Some X → ⊥
no_role X h = search (rules, h)

big_master : (r : ℕ) → 32 ≤ r → ((nat_le 4 r && nat_le r 13) || ((r == 29) || (r == 31))) ≡ false
big_master r h = grind arith

big_shadow : (r : ℕ) → 32 ≤ r → ((nat_le 14 r && nat_le r 23) || ((r == 25) || (r == 30))) ≡ false
big_shadow r h = grind arith

big_signs : (r : ℕ) → 32 ≤ r → ((r == 1) || ((r == 24) || (r == 28))) ≡ false
big_signs r h = grind arith

role_none : (x y z : Bool) → x ≡ false → y ≡ false → z ≡ false → cond x (Some master) (cond y (Some shadow) (cond z (Some signs) None)) ≡ None
role_none x y z h k l = rw (h, k, l) refl

big_role : (r : ℕ) → 32 ≤ r → role_of r ≡ None
big_role r h = role_none ((nat_le 4 r && nat_le r 13) || ((r == 29) || (r == 31))) ((nat_le 14 r && nat_le r 23) || ((r == 25) || (r == 30))) ((r == 1) || ((r == 24) || (r == 28))) (big_master r h) (big_shadow r h) (big_signs r h)

small_or : (r : ℕ) → (r < 32) ⊎ (32 ≤ r)
small_or r = grind arith

role_small : (X : Role) (r : ℕ) → Of X r → r < 32
role_small X r o = elim (small_or r) as (λ z. r < 32) [ inl h ↦ h | inr h ↦ absurd (no_role X (sym (big_role r h) ∙ o)) ]

left_small : (x y : ℕ) → (Of master x × Of shadow y) ⊎ (Of shadow x × Of master y) → x < 32
left_small x y (inl k) = role_small master x k.0
left_small x y (inr k) = role_small shadow x k.0

right_small : (x y : ℕ) → (Of master x × Of shadow y) ⊎ (Of shadow x × Of master y) → y < 32
right_small x y (inl k) = role_small shadow y k.1
right_small x y (inr k) = role_small master y k.1

pair_same : (p q : ℕ × ℕ) → Some p ≡ Some q → p ≡ q
pair_same p q h = search (rules, h)

-- a guarded register is one of the 32
from_small : (text : List ℕ) (bits : List Bool) (r c a : ℕ) → guarded_from text bits r c a ≡ true → r < 32
from_small text bits r c a h =
    let p : (streams_by (check_at text c) ≡ true) × ((window text r c a && leads text bits r c a) ≡ true) = and_parts (streams_by (check_at text c)) (window text r c a && leads text bits r c a) h in
    let w : window text r c a ≡ true = (and_parts (window text r c a) (leads text bits r c a) p.1).0 in
    let s : (v : ℕ × ℕ) × ((check_at text c ≡ Some v) × CheckAt text c v.0 v.1) = streams_is text c p.0 in
    let v : window_by text (Some s.0) r c a ≡ true = sym (ap (λ (o : Option (ℕ × ℕ)). window_by text o r c a) s.1.0) ∙ w in
    elim (or_parts (r == s.0.0) (r == s.0.1) (and_parts ((r == s.0.0) || (r == s.0.1)) (nat_le (c + 4) a && awaits text r c a) v).0) as (λ z. r < 32) [
      | inl e ↦ subst (λ (x : ℕ). x < 32) (sym (same_number r s.0.0 e)) (left_small s.0.0 s.0.1 s.1.1.streams)
      | inr e ↦ subst (λ (x : ℕ). x < 32) (sym (same_number r s.0.1 e)) (right_small s.0.0 s.0.1 s.1.1.streams)
    ]

pub guarded_small : (text : List ℕ) (bits : List Bool) (a r : ℕ) → guarded text bits a r ≡ true → r < 32
guarded_small text bits a r h = let k : (c : ℕ) × (guarded_from text bits r c a ≡ true) = one_of_four (λ (c : ℕ). guarded_from text bits r c a) a h in from_small text bits r k.0 a k.1

clash : (x : ℕ) → x ≡ 0 → x ≡ 1 → ⊥
clash x h k = omega arith

-- the mask of the registers below r
abbrev pub MaskTo : (ℕ → Bool) → (r mask : ℕ) → Type 0
MaskTo f r mask = (q : ℕ) → (bit_at mask q ≡ 1) ↔ ((q < r) × (f q ≡ true))

low : (m q : ℕ) → bit_at m q ≤ 1
low m q = grind arith

max_is : (x y : ℕ) → x ≤ 1 → y ≤ 1 → max x y ≡ 1 → (x ≡ 1) ⊎ (y ≡ 1)
max_is x y h k e = grind arith

max_left : (x y : ℕ) → x ≡ 1 → y ≤ 1 → max x y ≡ 1
max_left x y h l = omega arith

max_right : (x y : ℕ) → y ≡ 1 → x ≤ 1 → max x y ≡ 1
max_right x y h l = omega arith

own_bit : (r q : ℕ) → bit_at (2 ^ r) q ≡ 1 → q ≡ r
own_bit r q e = grind (arith, bit_at-pow_other)

none_below : (q : ℕ) → q < 0 → ⊥
none_below q h = omega arith

pub first_mask : (f : ℕ → Bool) → MaskTo f 0 0
first_mask f q = ((λ h. absurd (clash (bit_at 0 q) (bit_at-zero q) h)), (λ h. absurd (none_below q h.0)))

next_or : (q r : ℕ) → q < r + 1 → (q < r) ⊎ (q ≡ r)
next_or q r h = grind arith

less_more : (q r : ℕ) → q < r → q < r + 1
less_more q r h = omega arith

equal_more : (q r : ℕ) → q ≡ r → q < r + 1
equal_more q r h = omega arith

pub mask_with : (f : ℕ → Bool) (r mask bit : ℕ) → bit ≡ 2 ^ r → f r ≡ true → MaskTo f r mask → MaskTo f (r + 1) (bit_or mask bit)
mask_with f r mask bit b g m q =
    let e : bit_at (bit_or mask bit) q ≡ max (bit_at mask q) (bit_at bit q) = bit_at_or mask bit q in (
      (λ h. elim (max_is (bit_at mask q) (bit_at bit q) (low mask q) (low bit q) (sym e ∙ h)) as (λ z. (q < r + 1) × (f q ≡ true)) [
        | inl k ↦ let w : (q < r) × (f q ≡ true) = (m q).0 k in (less_more q r w.0, w.1)
        | inr k ↦ let w : q ≡ r = own_bit r q (subst (λ (x : ℕ). bit_at x q ≡ 1) b k) in (equal_more q r w, subst (λ (x : ℕ). f x ≡ true) (sym w) g)
      ]),
      (λ h. elim (next_or q r h.0) as (λ z. bit_at (bit_or mask bit) q ≡ 1) [
        | inl l ↦ e ∙ max_left (bit_at mask q) (bit_at bit q) ((m q).1 (l, h.1)) (low bit q)
        | inr l ↦ e ∙ max_right (bit_at mask q) (bit_at bit q) (subst (λ (x : ℕ). bit_at x q ≡ 1) (sym b) (subst (λ (x : ℕ). bit_at (2 ^ r) x ≡ 1) (sym l) (bit_at-pow_same r))) (low mask q)
      ]),
    )

pub mask_without : (f : ℕ → Bool) (r mask : ℕ) → f r ≡ false → MaskTo f r mask → MaskTo f (r + 1) mask
mask_without f r mask n m q = (
  (λ h. let w : (q < r) × (f q ≡ true) = (m q).0 h in (less_more q r w.0, w.1)),
  (λ h. elim (next_or q r h.0) as (λ z. bit_at mask q ≡ 1) [ inl l ↦ (m q).1 (l, h.1) | inr l ↦ absurd (no_truth (sym n ∙ subst (λ (x : ℕ). f x ≡ true) l h.1)) ]),
)

-- the mask of one register, where a test holds; of none; of those that one of two tests names
pub own_mask : (r mask : ℕ) (holds : Bool) → holds ≡ true → r < 32 → mask ≡ 2 ^ r → IsMask (λ q. (q == r) && holds) mask
own_mask r mask holds h l e q = (
  (λ b. let w : q ≡ r = own_bit r q (subst (λ (x : ℕ). bit_at x q ≡ 1) e b) in (subst (λ (x : ℕ). x < 32) (sym w) l, and_both (q == r) holds (number_same q r w) h)),
  (λ k. let w : q ≡ r = same_number q r (and_parts (q == r) holds k.1).0 in subst (λ (x : ℕ). bit_at x q ≡ 1) (sym e) (subst (λ (x : ℕ). bit_at (2 ^ r) x ≡ 1) (sym w) (bit_at-pow_same r))),
)

pub empty_mask : (f : ℕ → Bool) → ((q : ℕ) → q < 32 → f q ≡ true → ⊥) → IsMask f 0
empty_mask f n q = ((λ b. absurd (clash (bit_at 0 q) (bit_at-zero q) b)), (λ k. absurd (n q k.0 k.1)))

pub or_masks : (f g : ℕ → Bool) (m n : ℕ) → IsMask f m → IsMask g n → IsMask (λ q. f q || g q) (bit_or m n)
or_masks f g m n h k q =
    let e : bit_at (bit_or m n) q ≡ max (bit_at m q) (bit_at n q) = bit_at_or m n q in (
      (λ b. elim (max_is (bit_at m q) (bit_at n q) (low m q) (low n q) (sym e ∙ b)) as (λ z. (q < 32) × ((f q || g q) ≡ true)) [
        | inl l ↦ let w : (q < 32) × (f q ≡ true) = (h q).0 l in (w.0, or_first (f q) (g q) w.1)
        | inr l ↦ let w : (q < 32) × (g q ≡ true) = (k q).0 l in (w.0, or_second (f q) (g q) w.1)
      ]),
      (λ p. elim (or_parts (f q) (g q) p.1) as (λ z. bit_at (bit_or m n) q ≡ 1) [
        | inl l ↦ e ∙ max_left (bit_at m q) (bit_at n q) ((h q).1 (p.0, l)) (low n q)
        | inr l ↦ e ∙ max_right (bit_at m q) (bit_at n q) ((k q).1 (p.0, l)) (low m q)
      ]),
    )

pub four_masks : (f : ℕ → ℕ → Bool) (a m n p s : ℕ) → IsMask (λ q. f q (a - 4)) m → IsMask (λ q. f q (a - 8)) n → IsMask (λ q. f q (a - 12)) p → IsMask (λ q. f q (a - 16)) s →
    IsMask (λ q. f q (a - 4) || (f q (a - 8) || (f q (a - 12) || f q (a - 16)))) (bit_or m (bit_or n (bit_or p s)))
four_masks f a m n p s h k l i =
    or_masks (λ q. f q (a - 4)) (λ q. f q (a - 8) || (f q (a - 12) || f q (a - 16))) m (bit_or n (bit_or p s)) h
    (or_masks (λ q. f q (a - 8)) (λ q. f q (a - 12) || f q (a - 16)) n (bit_or p s) k (or_masks (λ q. f q (a - 12)) (λ q. f q (a - 16)) p s l i))

-- the mask of a test that names two registers at most
pub two_masks : (f : ℕ → Bool) (x y m n : ℕ) → ((q : ℕ) → f q ≡ true → ((q == x) || (q == y)) ≡ true) → IsMask (λ q. (q == x) && f x) m → IsMask (λ q. (q == y) && f y) n → IsMask f (bit_or m n)
two_masks f x y m n h k l q =
    let one : IsMask (λ q. ((q == x) && f x) || ((q == y) && f y)) (bit_or m n) = or_masks (λ q. (q == x) && f x) (λ q. (q == y) && f y) m n k l in (
      (λ b. let w : (q < 32) × ((((q == x) && f x) || ((q == y) && f y)) ≡ true) = (one q).0 b in (w.0, named x y w.1)),
      (λ p. (one q).1 (p.0, names p.1 (or_parts (q == x) (q == y) (h q p.1)))),
    )
  where
    holds_at : (r : ℕ) → ((q == r) && f r) ≡ true → f q ≡ true
    holds_at r e = let p : ((q == r) ≡ true) × (f r ≡ true) = and_parts (q == r) (f r) e in subst (λ (v : ℕ). f v ≡ true) (sym (same_number q r p.0)) p.1

    named : (x y : ℕ) → (((q == x) && f x) || ((q == y) && f y)) ≡ true → f q ≡ true
    named x y e = elim (or_parts ((q == x) && f x) ((q == y) && f y) e) as (λ z. f q ≡ true) [ inl d ↦ holds_at x d | inr d ↦ holds_at y d ]

    at_own : (r : ℕ) → f q ≡ true → (q == r) ≡ true → ((q == r) && f r) ≡ true
    at_own r e d = and_both (q == r) (f r) d (subst (λ (v : ℕ). f v ≡ true) (same_number q r d) e)

    names : f q ≡ true → ((q == x) ≡ true) ⊎ ((q == y) ≡ true) → (((q == x) && f x) || ((q == y) && f y)) ≡ true
    names e (inl d) = or_first ((q == x) && f x) ((q == y) && f y) (at_own x e d)
    names e (inr d) = or_second ((q == x) && f x) ((q == y) && f y) (at_own y e d)

-- a register that has a window by a check, or is guarded by it, is one of the two that it compares
window_names : (text : List ℕ) (o : Option (ℕ × ℕ)) (q c a x y : ℕ) → o ≡ Some (x, y) → window_by text o q c a ≡ true → ((q == x) || (q == y)) ≡ true
window_names text o q c a x y e h = (and_parts ((q == x) || (q == y)) (nat_le (c + 4) a && awaits text q c a) (subst (λ (v : Option (ℕ × ℕ)). window_by text v q c a ≡ true) e h)).0

unnamed : (text : List ℕ) (o : Option (ℕ × ℕ)) (q c a : ℕ) → o ≡ None → window_by text o q c a ≡ true → ⊥
unnamed text o q c a e h = no_truth (subst (λ (v : Option (ℕ × ℕ)). window_by text v q c a ≡ true) e h)

pub window_of_check : (text : List ℕ) (c a x y m n : ℕ) → check_at text c ≡ Some (x, y) → IsMask (λ q. (q == x) && window text x c a) m → IsMask (λ q. (q == y) && window text y c a) n → IsMask (λ r. window text r c a) (bit_or m n)
window_of_check text c a x y m n e h k = two_masks (λ r. window text r c a) x y m n (λ q w. window_names text (check_at text c) q c a x y e w) h k

pub window_of_none : (text : List ℕ) (c a : ℕ) → check_at text c ≡ None → IsMask (λ r. window text r c a) 0
window_of_none text c a e = empty_mask (λ r. window text r c a) (λ q l w. unnamed text (check_at text c) q c a e w)

pub near_mask : (text : List ℕ) (a m n p s v : ℕ) → IsMask (λ q. window text q (a - 4) a) m → IsMask (λ q. window text q (a - 8) a) n → IsMask (λ q. window text q (a - 12) a) p → IsMask (λ q. window text q (a - 16) a) s →
    IsMask (λ q. (q == 2) && service_near text a) v → IsMask (λ q. near text a q) (bit_or (bit_or m (bit_or n (bit_or p s))) v)
near_mask text a m n p s v h k l i j =
    or_masks (λ q. window text q (a - 4) a || (window text q (a - 8) a || (window text q (a - 12) a || window text q (a - 16) a))) (λ q. (q == 2) && service_near text a) (bit_or m (bit_or n (bit_or p s))) v
    (four_masks (λ q c. window text q c a) a m n p s h k l i) j

by_window : (text : List ℕ) (bits : List Bool) (r c a : ℕ) → guarded_from text bits r c a ≡ true → window text r c a ≡ true
by_window text bits r c a h = (and_parts (window text r c a) (leads text bits r c a) (and_parts (streams_by (check_at text c)) (window text r c a && leads text bits r c a) h).1).0

pub guarded_of_check : (text : List ℕ) (bits : List Bool) (c a x y m n : ℕ) → check_at text c ≡ Some (x, y) → IsMask (λ q. (q == x) && guarded_from text bits x c a) m → IsMask (λ q. (q == y) && guarded_from text bits y c a) n → IsMask (λ r. guarded_from text bits r c a) (bit_or m n)
guarded_of_check text bits c a x y m n e h k = two_masks (λ r. guarded_from text bits r c a) x y m n (λ q w. window_names text (check_at text c) q c a x y e (by_window text bits q c a w)) h k

pub guarded_of_none : (text : List ℕ) (bits : List Bool) (c a : ℕ) → check_at text c ≡ None → IsMask (λ r. guarded_from text bits r c a) 0
guarded_of_none text bits c a e = empty_mask (λ r. guarded_from text bits r c a) (λ q l w. unnamed text (check_at text c) q c a e (by_window text bits q c a w))

pub guarded_mask_of : (text : List ℕ) (bits : List Bool) (a mask : ℕ) → IsMask (λ r. guarded text bits a r) mask → IsGuardedMask text bits a mask
guarded_mask_of text bits a mask m q = ((λ h. ((m q).0 h).1), (λ h. (m q).1 (guarded_small text bits a q h, h)))

-- where neither of the two words before is a product, HI and LO come from no stream
no_product : (o : Option Instr) (X : Role) → product_at o ≡ false → product_by o X ≡ false
no_product None X h = refl
no_product (Some i) X h = rw h refl

neither : (s n f x y : Bool) → x ≡ false → y ≡ false → (not s && ((n || f) && ((not n || x) && (not f || y)))) ≡ false
neither true n f x y h k = refl
neither false true f x y h k = rw h refl
neither false false true x y h k = rw k refl
neither false false false x y h k = refl

unproduced : (text : List ℕ) (bits : List Bool) (X : Role) (a : ℕ) → product_at (instr_at text (a - 4)) ≡ false → product_at (instr_at text (a - 8)) ≡ false → products text bits X a ≡ false
unproduced text bits X a h k = neither (starts_at bits a) (near_before text a) (far_before text a) (product_by (instr_at text (a - 4)) X) (product_by (instr_at text (a - 8)) X) (no_product (instr_at text (a - 4)) X h) (no_product (instr_at text (a - 8)) X k)

pub first_stream : (x y : Bool) → x ≡ true → Master ≡ stream_of x y
first_stream x y e = sym (ap (λ (z : Bool). stream_of z y) e)

pub second_stream : (x y : Bool) → x ≡ false → y ≡ true → Shadow ≡ stream_of x y
second_stream x y e f = sym (ap (λ (z : Bool). stream_of z y) e ∙ ap (λ (z : Bool). stream_of false z) f)

pub no_stream : (x y : Bool) → x ≡ false → y ≡ false → Nobody ≡ stream_of x y
no_stream x y e f = sym (ap (λ (z : Bool). stream_of z y) e ∙ ap (λ (z : Bool). stream_of false z) f)

or_false : (x y : Bool) → (x || y) ≡ false → (x ≡ false) × (y ≡ false)
or_false true y h = absurd (no_truth (sym h))
or_false false y h = (refl, h)

pub no_producer : (text : List ℕ) (bits : List Bool) (a : ℕ) → (product_at (instr_at text (a - 4)) || product_at (instr_at text (a - 8))) ≡ false → Nobody ≡ stream_of (products text bits master a) (products text bits shadow a)
no_producer text bits a h =
    let k : (product_at (instr_at text (a - 4)) ≡ false) × (product_at (instr_at text (a - 8)) ≡ false) = or_false (product_at (instr_at text (a - 4))) (product_at (instr_at text (a - 8))) h in
    no_stream (products text bits master a) (products text bits shadow a) (unproduced text bits master a k.0 k.1) (unproduced text bits shadow a k.0 k.1)

-- the row of a word
produces_by : (text : List ℕ) (entry : ℕ) (bits : List Bool) (out : Option ℕ) (fits : IsText text) (t : Table text (IsStart text entry) bits out) (a : ℕ) → InText text a → (x y : Bool) → products text bits master a ≡ x → products text bits shadow a ≡ y → Produces text entry a (stream_of x y)
produces_by text entry bits out fits t a i true y e f = products_is text entry bits out fits t master a i e
produces_by text entry bits out fits t a i false true e f = products_is text entry bits out fits t shadow a i f
produces_by text entry bits out fits t a i false false e f = ((λ p. no_truth (sym e ∙ is_products text entry bits out fits t master a p)), (λ p. no_truth (sym f ∙ is_products text entry bits out fits t shadow a p)))

pub row_for : (text : List ℕ) (bits : List Bool) (a mask : ℕ) (s : Stream) → IsText text → InText text a → IsGuardedMask text bits a mask → s ≡ stream_of (products text bits master a) (products text bits shadow a) → RowFor text bits a (record { master = 2684370928; shadow = 1124057088; signs = 285212674; guarded = mask; products = s })
row_for text bits a mask s fits i m e entry out t = record {
  master = refl;
  shadow = refl;
  signs = refl;
  guarded = λ r. ((λ h. guarded_is text entry bits out fits t a r i ((m r).0 h)), (λ h. (m r).1 (is_guarded text entry bits out fits t a r h)));
  products = subst (Produces text entry a) (sym e) (produces_by text entry bits out fits t a i (products text bits master a) (products text bits shadow a) refl refl);
}

-- rows pushed in turn
push_len : (xs : List TypingRow) (x : TypingRow) → length (xs ++ x ∷ []) ≡ length xs + 1
push_len xs x = grind (arith, common_steps)

push_old : (xs : List TypingRow) (x d : TypingRow) (k : ℕ) → k < length xs → get_or (xs ++ x ∷ []) k d ≡ get_or xs k d
push_old xs x d k h = grind (arith, common_steps)

push_new : (xs : List TypingRow) (x d : TypingRow) (k : ℕ) → k ≡ length xs → get_or (xs ++ x ∷ []) k d ≡ x
push_new xs x d k h = grind (arith, common_steps)

pub no_rows : (text : List ℕ) (bits : List Bool) → RowsTo text bits 0 []
no_rows text bits = record { len = refl; each = λ k h. absurd (none_below k h) }

pub more_rows : (text : List ℕ) (bits : List Bool) (n : ℕ) (rows : List TypingRow) (row : TypingRow) → RowsTo text bits n rows → RowFor text bits (0x00400000 + 4 * n) row → RowsTo text bits (n + 1) (rows ++ row ∷ [])
more_rows text bits n rows row r f =
    let d : TypingRow = record { master = 0; shadow = 0; signs = 0; guarded = 0; products = Nobody } in
    record {
      len = push_len rows row ∙ ap (λ (x : ℕ). x + 1) r.len;
      each = λ k h. elim (next_or k n h) as (λ z. RowFor text bits (0x00400000 + 4 * k) (get_or (rows ++ row ∷ []) k d)) [
        | inl l ↦ subst (RowFor text bits (0x00400000 + 4 * k)) (sym (push_old rows row d k (subst (λ (x : ℕ). k < x) (sym r.len) l))) (r.each k l)
        | inr l ↦ subst (RowFor text bits (0x00400000 + 4 * k)) (sym (push_new rows row d k (l ∙ sym r.len))) (subst (λ (x : ℕ). RowFor text bits (0x00400000 + 4 * x) row) (sym l) f)
      ];
    }

pub all_rows : (text : List ℕ) (entry : ℕ) (bits : List Bool) (out : Option ℕ) (rows : List TypingRow) → Table text (IsStart text entry) bits out → RowsTo text bits (length text) rows → AreRows text entry rows
all_rows text entry bits out rows t r = record { len = r.len; each = λ k h. r.each k h entry out t }
