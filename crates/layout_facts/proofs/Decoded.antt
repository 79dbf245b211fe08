-- The words of a program decode to its items, filled.
use Rattle.std.proofs.Common.{◌≡◌, ◌≤◌, ◌<◌, ℕ, zero, suc, ◌+◌, ◌-◌, ◌*◌, ◌/◌, ◌%◌, arith, ap, refl, sym, ◌∙◌, subst, List, [], ◌∷◌, ◌++◌, length, map, Bool, true, false, cond, inl, inr}
use Rattle.std.specs.Prelude.{Option, Some, None, ◌==◌, ◌&&◌, nat_le, nat_lt, slice_get, slice_index}
use Rattle.std.proofs.lemmas.List.{map-append}
use Rattle.mips_isa.specs.declared.instr.Instr.{Instr}
use Rattle.mips_isa.specs.Machine.{text_place, is_jump}
use Rattle.mips_isa.specs.Table.{IsInRange, decoded, encoding}
use Rattle.mips_text.specs.Text.{InText, At, instr_at}
use Rattle.mips_text.specs.Turns.{IsTextOf}
use Rattle.mips_isa.proofs.Inverse.{decodes_encoded}
use Rattle.hard_items.specs.declared.code.Fix.{Fix}
use Rattle.hard_items.specs.declared.code.Item.{Item}
use Rattle.hard_items.specs.declared.code.HardBlock.{HardBlock}
use Rattle.hard_items.specs.declared.code.HardProgram.{HardProgram}
use Rattle.hard_items.specs.Run.{items_of, block_items}
use Rattle.hard_items.specs.Forms.{Each}
use Rattle.layout_law.specs.Layout.{address, filled, items_words, blocks_words, text}
use Rattle.layout_law.specs.Level.{Lines, AllReach, Layable}
use Rattle.layout_law.proofs.Fields.{InWords, in_words, filled_range}
use Rattle.layout_law.proofs.Texts.{address_next}
use Rattle.layout_law.proofs.Views.{in_text}

-- The instructions of items from an address on.
abbrev pub items_instrs : HardProgram → (b at : ℕ) → List Item → List Instr
items_instrs p b at [] = []
items_instrs p b at (i ∷ more) = filled p b at i.fix i.instr ∷ items_instrs p b (at + 4) more

abbrev pub blocks_instrs : HardProgram → (b at : ℕ) → List HardBlock → List Instr
blocks_instrs p b at [] = []
blocks_instrs p b at (k ∷ more) = items_instrs p b at k.items ++ blocks_instrs p (b + 1) (at + 4 * length k.items) more

abbrev pub instrs : HardProgram → List Instr
instrs p = blocks_instrs p 0 0x00400000 p.blocks

-- ---- the words of items

next_words : (a : ℕ) → InWords a → InWords (a + 4)
next_words a h = record { words = h.words + 1; is = more a h.words h.is }
  where
    more : (a n : ℕ) → a ≡ 0x00400000 + 4 * n → a + 4 ≡ 0x00400000 + 4 * (n + 1)
    more a n e = omega arith

single : (p : HardProgram) (b at : ℕ) (slot : Bool) (i : Item) → Lines p slot (i ∷ []) → IsInRange i.instr → decoded (encoding (filled p b at i.fix i.instr)) ≡ Some (filled p b at i.fix i.instr)
single p b at slot i (inl h) r = ap (λ (f : Fix). decoded (encoding (filled p b at f i.instr))) h.1.no_field ∙ (decodes_encoded i.instr r ∙ ap (λ (f : Fix). Some (filled p b at f i.instr)) (sym h.1.no_field))
single p b at slot i (inr h) r = ap (λ (f : Fix). decoded (encoding (filled p b at f i.instr))) h.no_field ∙ (decodes_encoded i.instr r ∙ ap (λ (f : Fix). Some (filled p b at f i.instr)) (sym h.no_field))

items_decoded : (p : HardProgram) (l : Layable p) (b at : ℕ) (slot : Bool) (xs : List Item) → InWords at → Lines p slot xs → AllReach p at xs → Each (λ i. IsInRange i.instr) xs → map decoded (items_words p b at xs) ≡ map Some (items_instrs p b at xs)
items_decoded p l b at slot [] w h r e = refl
items_decoded p l b at slot (i ∷ []) w h r e = ap (λ (z : Option Instr). z ∷ []) (single p b at slot i h e.0)
items_decoded p l b at slot (i ∷ j ∷ more) w h r e =
    ap (λ (z : Option Instr). z ∷ map decoded (items_words p b (at + 4) (j ∷ more))) (decodes_encoded (filled p b at i.fix i.instr) (filled_range p b at i.fix i.instr (j ∷ more) l (next_words at w) h.0 r.0 e.0))
    ∙ ap (λ (z : List (Option Instr)). Some (filled p b at i.fix i.instr) ∷ z) (items_decoded p l b (at + 4) (is_jump i.instr) (j ∷ more) (next_words at w) h.1 r.1 e.1)

blocks_decoded : (p : HardProgram) (l : Layable p) (b at : ℕ) (ks : List HardBlock) → at ≡ address p b → ((m : ℕ) (k : HardBlock) → slice_get ks m ≡ Some k → slice_get p.blocks (b + m) ≡ Some k) → map decoded (blocks_words p b at ks) ≡ map Some (blocks_instrs p b at ks)
blocks_decoded p l b at [] e f = refl
blocks_decoded p l b at (k ∷ ks) e f =
    map-append decoded (items_words p b at k.items) (blocks_words p (b + 1) (at + 4 * length k.items) ks)
    ∙ (ap (λ (z : List (Option Instr)). z ++ map decoded (blocks_words p (b + 1) (at + 4 * length k.items) ks)) own
    ∙ (ap (λ (z : List (Option Instr)). map Some (items_instrs p b at k.items) ++ z) (blocks_decoded p l (b + 1) (at + 4 * length k.items) ks next (λ m x s. ap (slice_get p.blocks) (move b m) ∙ f (suc m) x s))
    ∙ sym (map-append Some (items_instrs p b at k.items) (blocks_instrs p (b + 1) (at + 4 * length k.items) ks))))
  where
    none : (b : ℕ) → b + 0 ≡ b
    none b = omega arith

    move : (b m : ℕ) → b + 1 + m ≡ b + suc m
    move b m = omega arith

    at_b : slice_get p.blocks b ≡ Some k
    at_b = sym (ap (slice_get p.blocks) (none b)) ∙ f 0 k refl

    items_k : items_of p b ≡ k.items
    items_k = ap block_items at_b

    there : (ks : List HardBlock) (m : ℕ) (k : HardBlock) → slice_get ks m ≡ Some k → m < length ks
    there [] m k e = absurd (no e)
      where
        no : None ≡ Some k → ⊥
        no e = cc
    there (x ∷ ks) zero k e = omega arith
    there (x ∷ ks) (suc m) k e = omega (arith, there ks m k e)

    b_there : b < length p.blocks
    b_there = there p.blocks b k at_b

    next : at + 4 * length k.items ≡ address p (b + 1)
    next = ap (λ (z : List Item). at + 4 * length z) (sym items_k) ∙ (ap (λ (z : ℕ). z + 4 * length (items_of p b)) e ∙ sym (address_next p b b_there))

    own : map decoded (items_words p b at k.items) ≡ map Some (items_instrs p b at k.items)
    own = items_decoded p l b at false k.items (subst InWords (sym e) (in_words p b)) (subst (λ (z : List Item). Lines p false z) items_k (l.lines b b_there))
        (subst (λ (z : ℕ). AllReach p z k.items) (sym e) (subst (λ (z : List Item). AllReach p (address p b) z) items_k (l.reach b))) (subst (λ (z : List Item). Each (λ i. IsInRange i.instr) z) items_k (l.in_range b))

pub text_decoded : (p : HardProgram) → Layable p → IsTextOf (text p) (instrs p)
text_decoded p l = blocks_decoded p l 0 0x00400000 p.blocks (first p.blocks) (λ m k e. ap (slice_get p.blocks) (zero_left m) ∙ e)
  where
    zero_left : (m : ℕ) → 0 + m ≡ m
    zero_left m = omega arith

    first : (ks : List HardBlock) → 0x00400000 ≡ address p 0
    first ks = refl

-- ---- reading

-- The instruction at an address, in the list.
pub record Found (ws : List Instr) (a : ℕ) (i : Instr) : Type 0 where
  pub place : ℕ
  pub is : a ≡ 0x00400000 + 4 * place
  pub stands : slice_get ws place ≡ Some i

same_at : (t : List ℕ) (ws : List Instr) (n : ℕ) (i : Instr) → IsTextOf t ws → n < length t → decoded (slice_index t n) ≡ Some i → slice_get ws n ≡ Some i
same_at [] ws n i e h d = absurd (no n h)
  where
    no : (n : ℕ) → n < 0 → ⊥
    no n h = omega arith
same_at (x ∷ t) [] n i e h d = absurd (no e)
  where
    no : {o : Option Instr} {os : List (Option Instr)} → o ∷ os ≡ [] → ⊥
    no e = cc
same_at (x ∷ t) (w ∷ ws) zero i e h d = sym (head_is e) ∙ d
  where
    head_is : {o u : Option Instr} {os us : List (Option Instr)} → o ∷ os ≡ u ∷ us → o ≡ u
    head_is e = cc
same_at (x ∷ t) (w ∷ ws) (suc n) i e h d = same_at t ws n i (tail_is e) (less n (length t) h) d
  where
    tail_is : {o u : Option Instr} {os us : List (Option Instr)} → o ∷ os ≡ u ∷ us → os ≡ us
    tail_is e = cc

    less : (a b : ℕ) → suc a < suc b → a < b
    less a b h = omega arith

read_by : (t : List ℕ) (a : ℕ) (i : Instr) → (x y z : Bool) → (a % 4 == 0) ≡ x → nat_le 0x00400000 a ≡ y → nat_lt (text_place a) (length t) ≡ z → cond (x && (y && z)) (decoded (slice_index t (text_place a))) None ≡ Some i → decoded (slice_index t (text_place a)) ≡ Some i
read_by t a i true true true e f g h = h
read_by t a i true true false e f g h = absurd (none_some i h)
  where
    none_some : (i : Instr) → None ≡ Some i → ⊥
    none_some i e = cc
read_by t a i true false z e f g h = absurd (none_some i h)
  where
    none_some : (i : Instr) → None ≡ Some i → ⊥
    none_some i e = cc
read_by t a i false y z e f g h = absurd (none_some i h)
  where
    none_some : (i : Instr) → None ≡ Some i → ⊥
    none_some i e = cc

pub found : (t : List ℕ) (ws : List Instr) (a : ℕ) (i : Instr) → IsTextOf t ws → At t a i → Found ws a i
found t ws a i e h =
    let x : InText t a = in_text t a i h in
    record {
      place = text_place a;
      is = back a x.aligned x.from;
      stands = same_at t ws (text_place a) i e x.upto (read_by t a i (a % 4 == 0) (nat_le 0x00400000 a) (nat_lt (text_place a) (length t)) refl refl refl h);
    }
  where
    back : (a : ℕ) → a % 4 ≡ 0 → 0x00400000 ≤ a → a ≡ 0x00400000 + 4 * ((a - 0x00400000) / 4)
    back a e h = omega arith

-- And back: what stands in the list stands in the text.
at_same : (t : List ℕ) (ws : List Instr) (n : ℕ) (i : Instr) → IsTextOf t ws → slice_get ws n ≡ Some i → (n < length t) × (decoded (slice_index t n) ≡ Some i)
at_same t [] n i e s = absurd (no s)
  where
    no : None ≡ Some i → ⊥
    no e = cc
at_same [] (w ∷ ws) n i e s = absurd (no e)
  where
    no : {o : Option Instr} {os : List (Option Instr)} → [] ≡ o ∷ os → ⊥
    no e = cc
at_same (x ∷ t) (w ∷ ws) zero i e s = (omega arith, head_is e ∙ s)
  where
    head_is : {o u : Option Instr} {os us : List (Option Instr)} → o ∷ os ≡ u ∷ us → o ≡ u
    head_is e = cc
at_same (x ∷ t) (w ∷ ws) (suc n) i e s = let r : (n < length t) × (decoded (slice_index t n) ≡ Some i) = at_same t ws n i (tail_is e) s in (omega (arith, r.0), r.1)
  where
    tail_is : {o u : Option Instr} {os us : List (Option Instr)} → o ∷ os ≡ u ∷ us → os ≡ us
    tail_is e = cc

pub stands_at : (t : List ℕ) (ws : List Instr) (a n : ℕ) (i : Instr) → IsTextOf t ws → a ≡ 0x00400000 + 4 * n → slice_get ws n ≡ Some i → At t a i
stands_at t ws a n i e f s =
    let r : (n < length t) × (decoded (slice_index t n) ≡ Some i) = at_same t ws n i e s in
    instr_by t a n i f r.0 r.1
  where
    instr_by : (t : List ℕ) (a n : ℕ) (i : Instr) → a ≡ 0x00400000 + 4 * n → n < length t → decoded (slice_index t n) ≡ Some i → instr_at t a ≡ Some i
    instr_by t a n i e h d =
        ap (λ (z : Bool). cond (z && (nat_le 0x00400000 a && nat_lt (text_place a) (length t))) (decoded (slice_index t (text_place a))) None) x ∙
        (ap (λ (z : Bool). cond (z && nat_lt (text_place a) (length t)) (decoded (slice_index t (text_place a))) None) y ∙
        (ap (λ (z : ℕ). cond (nat_lt z (length t)) (decoded (slice_index t z)) None) w ∙
        (ap (λ (z : Bool). cond z (decoded (slice_index t n)) None) z ∙ d)))
      where
        rest : (n : ℕ) → (0x00400000 + 4 * n) % 4 ≡ 0
        rest n = omega arith

        back : (n : ℕ) → (0x00400000 + 4 * n - 0x00400000) / 4 ≡ n
        back n = omega arith

        above : (a n : ℕ) → a ≡ 0x00400000 + 4 * n → nat_le 0x00400000 a ≡ true
        above a n e = grind arith

        under : (n m : ℕ) → n < m → nat_lt n m ≡ true
        under n m h = grind arith

        x : (a % 4 == 0) ≡ true
        x = ap (λ (z : ℕ). z % 4 == 0) e ∙ ap (λ (z : ℕ). z == 0) (rest n)

        y : nat_le 0x00400000 a ≡ true
        y = above a n e

        w : text_place a ≡ n
        w = ap text_place e ∙ back n

        z : nat_lt n (length t) ≡ true
        z = under n (length t) h
