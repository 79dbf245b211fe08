-- The bits of the masks of voted registers and of windows, and the rows.
use Rattle.std.proofs.Common.{◌≡◌, ℕ, ◌+◌, ◌-◌, ◌*◌, ◌%◌, ◌^◌, ◌≤◌, ◌<◌, arith, ap, refl, sym, ◌∙◌, subst, List, [], ◌∷◌, ◌++◌, length, get_or, false, true, Bool, inl, inr, max}
use Rattle.std.specs.Prelude.{Option, Some, None, ◌⊎◌, ◌==◌, ◌||◌, ◌&&◌, ◌↔◌, nat_le, bit_or, not}
use Rattle.std.specs.Int.{bit_at}
use Rattle.std.proofs.lemmas.Nat.Bits.{bit_at_or, bit_at-pow_same, bit_at-pow_other, bit_at-zero}
use Rattle.std.proofs.lemmas.Grind.{common_steps}
use Rattle.mips_isa.specs.declared.instr.Instr.{Instr}
use Rattle.mips_text.specs.Text.{IsText, InText, instr_at}
use Rattle.mips_text.specs.Blocks.{IsStart}
use Rattle.lint_words.specs.Around.{starts_at, near_before, far_before}
use Rattle.third_lint.specs.declared.ThirdRow.{ThirdRow}
use Rattle.third_lint.specs.Votes.{Role, A, B, C, VoteAt, NearThird}
use Rattle.third_lint.specs.Rows.{Produces, nobody, by_a, by_b, by_c, AreRows}
use Rattle.third_lint.specs.Shapes.{second, third, vote_at, settled_by, one_of, behind_vote, awaits, awaited_by, awaited, awaited_at, settled_at, helps, near}
use Rattle.third_lint.specs.RuleTests.{product_at, product_by, products, straight, voted_from, voted}
use Rattle.third_lint.specs.Tables.{Table, Entered}
use Rattle.third_lint.specs.Masks.{IsMask, IsVotedMask, code_of, RowFor, RowsTo}
use Rattle.third_lint.proofs.Places.{no_truth}
use Rattle.third_lint.proofs.Bools.{and_parts, and_both, or_parts, or_first, or_second, same_number, number_same}
use Rattle.third_lint.proofs.Patterns.{vote_is}
use Rattle.third_lint.proofs.Voted.{one_is, voted_is, is_voted}
use Rattle.third_lint.proofs.Streams.{products_is, is_products}
use Rattle.third_lint.proofs.NearTests.{triple_small, near_window, window_near, windows_inside}

clash : (x : ℕ) → x ≡ 0 → x ≡ 1 → ⊥
clash x h k = omega arith

low : (m q : ℕ) → bit_at m q ≤ 1
low m q = grind arith

max_is : (x y : ℕ) → x ≤ 1 → y ≤ 1 → max x y ≡ 1 → (x ≡ 1) ⊎ (y ≡ 1)
max_is x y h k e = grind arith

max_left : (x y : ℕ) → x ≡ 1 → y ≤ 1 → max x y ≡ 1
max_left x y h l = omega arith

max_right : (x y : ℕ) → y ≡ 1 → x ≤ 1 → max x y ≡ 1
max_right x y h l = omega arith

own_bit : (r q : ℕ) → bit_at (2 ^ r) q ≡ 1 → q ≡ r
own_bit r q e = grind (arith, bit_at-pow_other)

none_below : (q : ℕ) → q < 0 → ⊥
none_below q h = omega arith

next_or : (q r : ℕ) → q < r + 1 → (q < r) ⊎ (q ≡ r)
next_or q r h = grind arith

-- the mask of one register, where a test holds; of none; of those that one of two tests names
pub own_mask : (r mask : ℕ) (holds : Bool) → holds ≡ true → r < 32 → mask ≡ 2 ^ r → IsMask (λ q. (q == r) && holds) mask
own_mask r mask holds h l e q = (
  (λ b. let w : q ≡ r = own_bit r q (subst (λ (x : ℕ). bit_at x q ≡ 1) e b) in (subst (λ (x : ℕ). x < 32) (sym w) l, and_both (q == r) holds (number_same q r w) h)),
  (λ k. let w : q ≡ r = same_number q r (and_parts (q == r) holds k.1).0 in subst (λ (x : ℕ). bit_at x q ≡ 1) (sym e) (subst (λ (x : ℕ). bit_at (2 ^ r) x ≡ 1) (sym w) (bit_at-pow_same r))),
)

pub empty_mask : (f : ℕ → Bool) → ((q : ℕ) → q < 32 → f q ≡ true → ⊥) → IsMask f 0
empty_mask f n q = ((λ b. absurd (clash (bit_at 0 q) (bit_at-zero q) b)), (λ k. absurd (n q k.0 k.1)))

pub or_masks : (f g : ℕ → Bool) (m n : ℕ) → IsMask f m → IsMask g n → IsMask (λ q. f q || g q) (bit_or m n)
or_masks f g m n h k q =
    let e : bit_at (bit_or m n) q ≡ max (bit_at m q) (bit_at n q) = bit_at_or m n q in (
      (λ b. elim (max_is (bit_at m q) (bit_at n q) (low m q) (low n q) (sym e ∙ b)) as (λ z. (q < 32) × ((f q || g q) ≡ true)) [
        | inl l ↦ let w : (q < 32) × (f q ≡ true) = (h q).0 l in (w.0, or_first (f q) (g q) w.1)
        | inr l ↦ let w : (q < 32) × (g q ≡ true) = (k q).0 l in (w.0, or_second (f q) (g q) w.1)
      ]),
      (λ p. elim (or_parts (f q) (g q) p.1) as (λ z. bit_at (bit_or m n) q ≡ 1) [
        | inl l ↦ e ∙ max_left (bit_at m q) (bit_at n q) ((h q).1 (p.0, l)) (low n q)
        | inr l ↦ e ∙ max_right (bit_at m q) (bit_at n q) ((k q).1 (p.0, l)) (low m q)
      ]),
    )

pub four_masks : (f : ℕ → ℕ → Bool) (a m n p s : ℕ) → IsMask (λ q. f q (a - 4)) m → IsMask (λ q. f q (a - 8)) n → IsMask (λ q. f q (a - 12)) p → IsMask (λ q. f q (a - 16)) s →
    IsMask (λ q. f q (a - 4) || (f q (a - 8) || (f q (a - 12) || f q (a - 16)))) (bit_or m (bit_or n (bit_or p s)))
four_masks f a m n p s h k l i =
    or_masks (λ q. f q (a - 4)) (λ q. f q (a - 8) || (f q (a - 12) || f q (a - 16))) m (bit_or n (bit_or p s)) h
    (or_masks (λ q. f q (a - 8)) (λ q. f q (a - 12) || f q (a - 16)) n (bit_or p s) k (or_masks (λ q. f q (a - 12)) (λ q. f q (a - 16)) p s l i))

pub three_masks : (f g h : ℕ → Bool) (m n p : ℕ) → IsMask f m → IsMask g n → IsMask h p → IsMask (λ q. f q || (g q || h q)) (bit_or m (bit_or n p))
three_masks f g h m n p k l i = or_masks f (λ q. g q || h q) m (bit_or n p) k (or_masks g h n p l i)

-- the mask of a test that says the same
pub same_mask : (f g : ℕ → Bool) (m : ℕ) → ((q : ℕ) → f q ≡ true → g q ≡ true) → ((q : ℕ) → g q ≡ true → f q ≡ true) → IsMask f m → IsMask g m
same_mask f g m k l h q = (
  (λ b. let w : (q < 32) × (f q ≡ true) = (h q).0 b in (w.0, k q w.1)),
  (λ p. (h q).1 (p.0, l q p.1)),
)

-- the mask of a test that names three registers at most
pub named_mask : (f : ℕ → Bool) (x y z m n p : ℕ) → ((q : ℕ) → f q ≡ true → ((q == x) || ((q == y) || (q == z))) ≡ true) →
    IsMask (λ q. (q == x) && f x) m → IsMask (λ q. (q == y) && f y) n → IsMask (λ q. (q == z) && f z) p → IsMask f (bit_or m (bit_or n p))
named_mask f x y z m n p h k l i =
    let at : ℕ → ℕ → Bool = λ r q. (q == r) && f r in
    let holds : (r q : ℕ) → ((q == r) && f r) ≡ true → f q ≡ true = λ r q e. let w : ((q == r) ≡ true) × (f r ≡ true) = and_parts (q == r) (f r) e in subst (λ (v : ℕ). f v ≡ true) (sym (same_number q r w.0)) w.1 in
    let own : (r q : ℕ) → f q ≡ true → (q == r) ≡ true → ((q == r) && f r) ≡ true = λ r q e d. and_both (q == r) (f r) d (subst (λ (v : ℕ). f v ≡ true) (same_number q r d) e) in
    same_mask (λ q. at x q || (at y q || at z q)) f (bit_or m (bit_or n p))
    (λ q e. elim (or_parts (at x q) (at y q || at z q) e) as (λ w. f q ≡ true) [
      | inl d ↦ holds x q d
      | inr d ↦ elim (or_parts (at y q) (at z q) d) as (λ w. f q ≡ true) [ inl d ↦ holds y q d | inr d ↦ holds z q d ]
    ])
    (λ q e. elim (or_parts (q == x) ((q == y) || (q == z)) (h q e)) as (λ w. (at x q || (at y q || at z q)) ≡ true) [
      | inl d ↦ or_first (at x q) (at y q || at z q) (own x q e d)
      | inr d ↦ or_second (at x q) (at y q || at z q) (elim (or_parts (q == y) (q == z) d) as (λ w. (at y q || at z q) ≡ true) [ inl d ↦ or_first (at y q) (at z q) (own y q e d) | inr d ↦ or_second (at y q) (at z q) (own z q e d) ])
    ])
    (three_masks (λ q. at x q) (λ q. at y q) (λ q. at z q) m n p k l i)

-- the registers of the vote at v
awaited_names : (text : List ℕ) (v a x q : ℕ) (o : Option ℕ) → o ≡ Some x → awaited_by text v a q o ≡ true → one_of x q ≡ true
awaited_names text v a x q o e h = (and_parts (one_of x q) (behind_vote v a x q && awaits text v a q) (subst (λ (w : Option ℕ). awaited_by text v a q w ≡ true) e h)).0

awaited_none : (text : List ℕ) (v a q : ℕ) (o : Option ℕ) → o ≡ None → awaited_by text v a q o ≡ true → ⊥
awaited_none text v a q o e h = no_truth (subst (λ (w : Option ℕ). awaited_by text v a q w ≡ true) e h)

voted_awaits : (text : List ℕ) (enter : List Bool) (v a q : ℕ) → voted_from text enter v a q ≡ true → awaited text v a q ≡ true
voted_awaits text enter v a q h = (and_parts (awaited text v a q) (straight text enter v a) (and_parts (nat_le (v + 24) a) (awaited text v a q && straight text enter v a) h).1).0

abbrev pub OneMask : (ℕ → Bool) → (r mask : ℕ) → Type 0
OneMask f r mask = IsMask (λ q. (q == r) && f r) mask

pub awaited_of_vote : (text : List ℕ) (v a x y z m n p : ℕ) → vote_at text v ≡ Some x → y ≡ second x → z ≡ third x → OneMask (λ r. awaited text v a r) x m → OneMask (λ r. awaited text v a r) y n → OneMask (λ r. awaited text v a r) z p →
    IsMask (λ r. awaited text v a r) (bit_or m (bit_or n p))
awaited_of_vote text v a x y z m n p e f g h k l =
    named_mask (λ r. awaited text v a r) x (second x) (third x) m n p (λ q w. awaited_names text v a x q (vote_at text v) e w) h
    (subst (λ (r : ℕ). OneMask (λ q. awaited text v a q) r n) f k) (subst (λ (r : ℕ). OneMask (λ q. awaited text v a q) r p) g l)

pub awaited_of_none : (text : List ℕ) (v a : ℕ) → vote_at text v ≡ None → IsMask (λ r. awaited text v a r) 0
awaited_of_none text v a e = empty_mask (λ r. awaited text v a r) (λ q l w. awaited_none text v a q (vote_at text v) e w)

pub voted_of_vote : (text : List ℕ) (enter : List Bool) (v a x y z m n p : ℕ) → vote_at text v ≡ Some x → y ≡ second x → z ≡ third x → OneMask (λ r. voted_from text enter v a r) x m → OneMask (λ r. voted_from text enter v a r) y n →
    OneMask (λ r. voted_from text enter v a r) z p → IsMask (λ r. voted_from text enter v a r) (bit_or m (bit_or n p))
voted_of_vote text enter v a x y z m n p e f g h k l =
    named_mask (λ r. voted_from text enter v a r) x (second x) (third x) m n p (λ q w. awaited_names text v a x q (vote_at text v) e (voted_awaits text enter v a q w)) h
    (subst (λ (r : ℕ). OneMask (λ q. voted_from text enter v a q) r n) f k) (subst (λ (r : ℕ). OneMask (λ q. voted_from text enter v a q) r p) g l)

pub voted_of_none : (text : List ℕ) (enter : List Bool) (v a : ℕ) → vote_at text v ≡ None → IsMask (λ r. voted_from text enter v a r) 0
voted_of_none text enter v a e = empty_mask (λ r. voted_from text enter v a r) (λ q l w. awaited_none text v a q (vote_at text v) e (voted_awaits text enter v a q w))

-- a voted register is one of the 32
some_by : (text : List ℕ) (v a q : ℕ) (o : Option ℕ) → vote_at text v ≡ o → awaited_by text v a q o ≡ true → q < 32
some_by text v a q None e h = absurd (no_truth h)
some_by text v a q (Some x) e h =
    let o : VoteAt text v x (second x) (third x) = vote_is text v x e in
    small q (triple_small x (second x) (third x) q o.triple (one_is x q (and_parts (one_of x q) (behind_vote v a x q && awaits text v a q) h).0)).1
  where
    small : (q : ℕ) → q ≤ 31 → q < 32
    small q h = omega arith

from_small : (text : List ℕ) (enter : List Bool) (v a q : ℕ) → voted_from text enter v a q ≡ true → q < 32
from_small text enter v a q h = some_by text v a q (vote_at text v) refl (voted_awaits text enter v a q h)

voted_small : (text : List ℕ) (enter : List Bool) (a q : ℕ) → voted text enter a q ≡ true → q < 32
voted_small text enter a q h = elim (or_parts (voted_from text enter (a - 24) a q) (voted_from text enter (a - 28) a q || voted_from text enter (a - 32) a q) h) as (λ z. q < 32) [
  | inl k ↦ from_small text enter (a - 24) a q k
  | inr h ↦ elim (or_parts (voted_from text enter (a - 28) a q) (voted_from text enter (a - 32) a q) h) as (λ z. q < 32) [ inl k ↦ from_small text enter (a - 28) a q k | inr k ↦ from_small text enter (a - 32) a q k ]
]

pub voted_mask_of : (text : List ℕ) (enter : List Bool) (a mask : ℕ) → IsMask (λ r. voted text enter a r) mask → IsVotedMask text enter a mask
voted_mask_of text enter a mask m q = ((λ h. ((m q).0 h).1), (λ h. (m q).1 (voted_small text enter a q h, h)))

-- the settled register
settled_one : (r x : ℕ) → settled_by (Some x) r ≡ true → ((r == x) && true) ≡ true
settled_one r x h = and_both (r == x) true h refl

one_settled : (r x : ℕ) → ((r == x) && true) ≡ true → settled_by (Some x) r ≡ true
one_settled r x h = (and_parts (r == x) true h).0

pub settled_of_vote : (o : Option ℕ) (x m : ℕ) → o ≡ Some x → IsMask (λ q. (q == x) && true) m → IsMask (λ r. settled_by o r) m
settled_of_vote o x m e h = subst (λ (w : Option ℕ). IsMask (λ r. settled_by w r) m) (sym e) (same_mask (λ q. (q == x) && true) (λ r. settled_by (Some x) r) m (λ q k. one_settled q x k) (λ q k. settled_one q x k) h)

pub settled_of_none : (o : Option ℕ) → o ≡ None → IsMask (λ r. settled_by o r) 0
settled_of_none o e = empty_mask (λ r. settled_by o r) (λ q l w. no_truth (subst (λ (v : Option ℕ). settled_by v q ≡ true) e w))

-- the mask of the windows
pub near_mask : (text : List ℕ) (a s t w h : ℕ) → IsMask (λ r. settled_by (vote_at text (a - 16)) r) s → IsMask (λ r. settled_by (vote_at text (a - 20)) r) t → IsMask (λ r. awaited_at text a r) w → IsMask (λ r. helps text a r) h →
    IsMask (λ r. near text a r) (bit_or (bit_or (bit_or s t) w) h)
near_mask text a s t w h k l i j =
    or_masks (λ r. settled_at text a r || awaited_at text a r) (λ r. helps text a r) (bit_or (bit_or s t) w) h
    (or_masks (λ r. settled_at text a r) (λ r. awaited_at text a r) (bit_or s t) w (or_masks (λ r. settled_by (vote_at text (a - 16)) r) (λ r. settled_by (vote_at text (a - 20)) r) s t k l) i) j

pub window_of_mask : (text : List ℕ) (a mask r : ℕ) → a % 4 ≡ 0 → IsMask (λ q. near text a q) mask → (bit_at mask r ≡ 1) ↔ NearThird text a r
window_of_mask text a mask r al m = ((λ b. near_window text a r al ((m r).0 b).1), (λ n. (m r).1 (small r (windows_inside text a r n).1.1, window_near text a r n)))
  where
    small : (q : ℕ) → q ≤ 31 → q < 32
    small q h = omega arith

pub windows_law : (text : List ℕ) (a r : ℕ) → NearThird text a r → InText text a × (r < 32)
windows_law text a r n = ((windows_inside text a r n).0, small r (windows_inside text a r n).1.1)
  where
    small : (q : ℕ) → q ≤ 31 → q < 32
    small q h = omega arith

-- where neither of the two words before is a product, HI and LO come from no stream
no_product : (o : Option Instr) (X : Role) → product_at o ≡ false → product_by o X ≡ false
no_product None X h = refl
no_product (Some i) X h = rw h refl

neither : (s n f x y : Bool) → x ≡ false → y ≡ false → (not s && ((n || f) && ((not n || x) && (not f || y)))) ≡ false
neither true n f x y h k = refl
neither false true f x y h k = rw h refl
neither false false true x y h k = rw k refl
neither false false false x y h k = refl

unproduced : (text : List ℕ) (bits : List Bool) (X : Role) (a : ℕ) → product_at (instr_at text (a - 4)) ≡ false → product_at (instr_at text (a - 8)) ≡ false → products text bits X a ≡ false
unproduced text bits X a h k = neither (starts_at bits a) (near_before text a) (far_before text a) (product_by (instr_at text (a - 4)) X) (product_by (instr_at text (a - 8)) X) (no_product (instr_at text (a - 4)) X h) (no_product (instr_at text (a - 8)) X k)

or_false : (x y : Bool) → (x || y) ≡ false → (x ≡ false) × (y ≡ false)
or_false true y h = absurd (no_truth (sym h))
or_false false y h = (refl, h)

code_none : (x y z : Bool) → x ≡ false → y ≡ false → z ≡ false → 0 ≡ code_of x y z
code_none x y z h k l = rw (h, k, l) refl

pub no_producer : (text : List ℕ) (bits : List Bool) (a : ℕ) → (product_at (instr_at text (a - 4)) || product_at (instr_at text (a - 8))) ≡ false → 0 ≡ code_of (products text bits A a) (products text bits B a) (products text bits C a)
no_producer text bits a h =
    let k : (product_at (instr_at text (a - 4)) ≡ false) × (product_at (instr_at text (a - 8)) ≡ false) = or_false (product_at (instr_at text (a - 4))) (product_at (instr_at text (a - 8))) h in
    code_none (products text bits A a) (products text bits B a) (products text bits C a) (unproduced text bits A a k.0 k.1) (unproduced text bits B a k.0 k.1) (unproduced text bits C a k.0 k.1)

-- the row of a word
module _ (text : List ℕ) (entry : ℕ) (starts enter : List Bool) (fits : IsText text) (st : Table text (IsStart text entry) starts) (et : Table text (Entered text entry) enter) (a : ℕ) (i : InText text a) where
  produces_by : (x y z : Bool) → products text starts A a ≡ x → products text starts B a ≡ y → products text starts C a ≡ z → Produces text entry a (code_of x y z)
  produces_by true y z e f g = by_a refl (products_is text entry starts fits st A a i e)
  produces_by false true z e f g = by_b refl (products_is text entry starts fits st B a i f)
  produces_by false false true e f g = by_c refl (products_is text entry starts fits st C a i g)
  produces_by false false false e f g = nobody refl (λ X p. by_role X (is_products text entry starts fits st X a p))
    where
      by_role : (X : Role) → products text starts X a ≡ true → ⊥
      by_role A h = no_truth (sym e ∙ h)
      by_role B h = no_truth (sym f ∙ h)
      by_role C h = no_truth (sym g ∙ h)

pub row_for : (text : List ℕ) (starts enter : List Bool) (a mask s : ℕ) → IsText text → InText text a → IsVotedMask text enter a mask → s ≡ code_of (products text starts A a) (products text starts B a) (products text starts C a) →
    RowFor text starts enter a (record { a = 2684355568; b = 1107360768; c = 289341440; voted = mask; products = s })
row_for text starts enter a mask s fits i m e entry st et = record {
  in_a = refl;
  in_b = refl;
  in_c = refl;
  voted = λ r. ((λ h. voted_is text entry enter et a r i ((m r).0 h)), (λ h. (m r).1 (is_voted text entry enter et a r h)));
  products = subst (Produces text entry a) (sym e) (produces_by text entry starts enter fits st et a i (products text starts A a) (products text starts B a) (products text starts C a) refl refl refl);
}

-- rows pushed in turn
push_len : (xs : List ThirdRow) (x : ThirdRow) → length (xs ++ x ∷ []) ≡ length xs + 1
push_len xs x = grind (arith, common_steps)

push_old : (xs : List ThirdRow) (x d : ThirdRow) (k : ℕ) → k < length xs → get_or (xs ++ x ∷ []) k d ≡ get_or xs k d
push_old xs x d k h = grind (arith, common_steps)

push_new : (xs : List ThirdRow) (x d : ThirdRow) (k : ℕ) → k ≡ length xs → get_or (xs ++ x ∷ []) k d ≡ x
push_new xs x d k h = grind (arith, common_steps)

pub no_rows : (text : List ℕ) (starts enter : List Bool) → RowsTo text starts enter 0 []
no_rows text starts enter = record { len = refl; each = λ k h. absurd (none_below k h) }

pub more_rows : (text : List ℕ) (starts enter : List Bool) (n : ℕ) (rows : List ThirdRow) (row : ThirdRow) → RowsTo text starts enter n rows → RowFor text starts enter (0x00400000 + 4 * n) row → RowsTo text starts enter (n + 1) (rows ++ row ∷ [])
more_rows text starts enter n rows row r f =
    let d : ThirdRow = record { a = 0; b = 0; c = 0; voted = 0; products = 0 } in
    record {
      len = push_len rows row ∙ ap (λ (x : ℕ). x + 1) r.len;
      each = λ k h. elim (next_or k n h) as (λ z. RowFor text starts enter (0x00400000 + 4 * k) (get_or (rows ++ row ∷ []) k d)) [
        | inl l ↦ subst (RowFor text starts enter (0x00400000 + 4 * k)) (sym (push_old rows row d k (subst (λ (x : ℕ). k < x) (sym r.len) l))) (r.each k l)
        | inr l ↦ subst (RowFor text starts enter (0x00400000 + 4 * k)) (sym (push_new rows row d k (l ∙ sym r.len))) (subst (λ (x : ℕ). RowFor text starts enter (0x00400000 + 4 * x) row) (sym l) f)
      ];
    }

pub all_rows : (text : List ℕ) (entry : ℕ) (starts enter : List Bool) (rows : List ThirdRow) → Table text (IsStart text entry) starts → Table text (Entered text entry) enter → RowsTo text starts enter (length text) rows → AreRows text entry rows
all_rows text entry starts enter rows st et r = record { len = r.len; each = λ k h. r.each k h entry st et }
