-- Every word of the text is that of an item, and an item is of one of eight sorts.
use Rattle.std.proofs.Common.{◌≡◌, ◌≤◌, ◌<◌, ℕ, zero, suc, ◌+◌, ◌-◌, ◌*◌, ◌/◌, ◌%◌, arith, ap, refl, sym, ◌∙◌, subst, List, [], ◌∷◌, ◌++◌, length, get_or, take, append_assoc, length-append, Bool, true, false, cond, inl, inr}
use Rattle.std.specs.Prelude.{Some, None, slice_index, slice_get, ◌⊎◌, ◌==◌, ◌&&◌, nat_le, nat_lt}
use Rattle.std.proofs.Math.Seq.{get_or-append_seam}
use Rattle.mips_isa.specs.declared.instr.Instr.{Instr}
use Rattle.mips_isa.specs.declared.instr.Instr.TheVariants.{J, Jal, Jr, Beq, Bne, Break, Lui, Ori}
use Rattle.mips_isa.specs.Table.{encoding, decoded, IsInRange}
use Rattle.mips_isa.specs.Machine.{text_place, is_jump}
use Rattle.mips_text.specs.Text.{InText, instr_at, At, IsBranch}
use Rattle.mips_isa.proofs.Inverse.{decodes_encoded}
use Rattle.hard_items.specs.declared.code.Fix.{Fix}
use Rattle.hard_items.specs.declared.code.Fix.TheVariants.{Plain, Block, Function, ReturnHigh, ReturnLow}
use Rattle.hard_items.specs.declared.code.Item.{Item}
use Rattle.hard_items.specs.declared.code.HardBlock.{HardBlock}
use Rattle.hard_items.specs.declared.code.HardProgram.{HardProgram}
use Rattle.hard_items.specs.Run.{items_of, named}
use Rattle.hard_items.specs.Ways.{Holds}
use Rattle.hard_items.specs.Forms.{Each}
use Rattle.layout_law.specs.Layout.{words, address, filled, text}
use Rattle.layout_law.specs.Level.{Lines, ItemFits, StayFits, BranchFits, JumpFits, CallFits, LastSlot, SkippedSlot, FieldReaches, AllReach, Layable}
use Rattle.layout_law.proofs.Texts.{WordAt, word_at, words_cons, length_text, items_are}
use Rattle.layout_law.proofs.Fields.{filled_range}
use Rattle.layout_law.proofs.Step.{in_words_more}

no_true : true ≡ false → ⊥
no_true e = cc

-- ---- the item of a word

-- The item at an address: its block, what stands before it in the block and what behind it.
pub record ItemWord (p : HardProgram) (a : ℕ) : Type 0 where
  pub block : ℕ
  pub there : block < length p.blocks
  pub done : List Item
  pub item : Item
  pub more : List Item
  pub split : items_of p block ≡ done ++ item ∷ more
  pub at : a ≡ address p block + 4 * length done

record Located (ks : List HardBlock) (n : ℕ) : Type 0 where
  block : ℕ
  of : HardBlock
  is : slice_get ks block ≡ Some of
  done : List Item
  item : Item
  more : List Item
  split : of.items ≡ done ++ item ∷ more
  place : n ≡ words (take block ks) + length done

-- An element of a list by its place.
record Split (xs : List Item) (n : ℕ) : Type 0 where
  done : List Item
  item : Item
  more : List Item
  split : xs ≡ done ++ item ∷ more
  place : n ≡ length done

split_at : (xs : List Item) (n : ℕ) → n < length xs → Split xs n
split_at [] n h = absurd (no n h)
  where
    no : (n : ℕ) → n < 0 → ⊥
    no n h = omega arith
split_at (x ∷ xs) zero h = record { done = []; item = x; more = xs; split = refl; place = refl }
split_at (x ∷ xs) (suc n) h =
    let s : Split xs n = split_at xs n (less n (length xs) h) in
    record { done = x ∷ s.done; item = s.item; more = s.more; split = ap (λ (z : List Item). x ∷ z) s.split; place = ap suc s.place }
  where
    less : (b n : ℕ) → suc b < suc n → b < n
    less b n h = omega arith

below_or_not : (m n : ℕ) → (m < n) ⊎ (n ≤ m)
below_or_not m n = by (nat_lt m n) refl
  where
    lt : (m n : ℕ) → nat_lt m n ≡ true → m < n
    lt m n e = grind arith

    ge : (m n : ℕ) → nat_lt m n ≡ false → n ≤ m
    ge m n e = grind arith

    by : (z : Bool) → nat_lt m n ≡ z → (m < n) ⊎ (n ≤ m)
    by true e = inl (lt m n e)
    by false e = inr (ge m n e)

further : (k : HardBlock) (ks : List HardBlock) (n : ℕ) → length k.items ≤ n → Located ks (n - length k.items) → Located (k ∷ ks) n
further k ks n h s = record { block = suc s.block; of = s.of; is = s.is; done = s.done; item = s.item; more = s.more; split = s.split; place = sum n (length k.items) (words (take s.block ks)) (length s.done) (words (k ∷ take s.block ks)) h s.place (words_cons k (take s.block ks)) }
  where
    sum : (n k w d v : ℕ) → k ≤ n → n - k ≡ w + d → v ≡ k + w → n ≡ v + d
    sum n k w d v h e f = omega arith

locate : (ks : List HardBlock) (n : ℕ) → n < words ks → Located ks n
locate [] n h = absurd (no n h)
  where
    no : (n : ℕ) → n < 0 → ⊥
    no n h = omega arith
locate (k ∷ ks) n h = elim (below_or_not n (length k.items)) as (λ z. Located (k ∷ ks) n) [
  | inl l ↦ let s : Split k.items n = split_at k.items n l in
      record { block = zero; of = k; is = refl; done = s.done; item = s.item; more = s.more; split = s.split; place = first n (length s.done) s.place }
  | inr g ↦ further k ks n g (locate ks (n - length k.items) (less n (length k.items) (words ks) (words (k ∷ ks)) g (words_cons k ks) h))
]
  where
    first : (n d : ℕ) → n ≡ d → n ≡ 0 + d
    first n d e = omega arith

    less : (n k w v : ℕ) → k ≤ n → v ≡ k + w → n < v → n - k < w
    less n k w v h e f = omega arith

block_below : (ks : List HardBlock) (b : ℕ) (k : HardBlock) → slice_get ks b ≡ Some k → b < length ks
block_below [] b k e = absurd (no e)
  where
    no : None ≡ Some k → ⊥
    no e = cc
block_below (x ∷ ks) zero k e = least (length ks)
  where
    least : (n : ℕ) → 0 < suc n
    least n = omega arith
block_below (x ∷ ks) (suc b) k e = up b (length ks) (block_below ks b k e)
  where
    up : (k n : ℕ) → k < n → suc k < suc n
    up k n h = omega arith

pub item_word : (p : HardProgram) (a : ℕ) → InText (text p) a → ItemWord p a
item_word p a h =
    let s : Located p.blocks (text_place a) = locate p.blocks (text_place a) (subst (λ (z : ℕ). text_place a < z) (length_text p) h.upto) in
    record { block = s.block; there = block_below p.blocks s.block s.of s.is; done = s.done; item = s.item; more = s.more; split = items_are p s.block s.of s.is ∙ s.split; at = sum a (words (take s.block p.blocks)) (length s.done) h.aligned h.from s.place }
  where
    sum : (a w d : ℕ) → a % 4 ≡ 0 → 0x00400000 ≤ a → (a - 0x00400000) / 4 ≡ w + d → a ≡ 0x00400000 + 4 * w + 4 * d
    sum a w d h k e = omega arith

-- ---- what stands at an item

range_by : (done : List Item) (i : Item) (more : List Item) → Each (λ (i : Item). IsInRange i.instr) (done ++ i ∷ more) → IsInRange i.instr
range_by [] i more h = h.0
range_by (j ∷ done) i more h = range_by done i more h.1

reach_by : (p : HardProgram) (at : ℕ) (done : List Item) (i : Item) (more : List Item) → AllReach p at (done ++ i ∷ more) → FieldReaches p (at + 4 * length done) i.fix i.instr
reach_by p at [] i more h = subst (λ (z : ℕ). FieldReaches p z i.fix i.instr) (none at) h.0
  where
    none : (a : ℕ) → a ≡ a + 4 * 0
    none a = omega arith
reach_by p at (j ∷ done) i more h = subst (λ (z : ℕ). FieldReaches p z i.fix i.instr) (one at (length done)) (reach_by p (at + 4) done i more h.1)
  where
    one : (a n : ℕ) → a + 4 + 4 * n ≡ a + 4 * suc n
    one a n = omega arith

-- An item fits what stands behind it, whatever stands before it.
pub single_fits : (p : HardProgram) (slot : Bool) (i : Item) → Lines p slot (i ∷ []) → ItemFits p i.fix i.instr []
single_fits p slot i h = elim h as (λ z. ItemFits p i.fix i.instr []) [
  | inl z ↦ subst (λ (x : Instr). ItemFits p i.fix x []) (sym z.1.nop) (subst (λ (f : Fix). StayFits f Rattle.hard_items.specs.Streams.nop) (sym z.1.no_field) tt)
  | inr z ↦ subst (λ (x : Instr). ItemFits p i.fix x []) (sym z.stop) (subst (λ (f : Fix). StayFits f (Break z.code)) (sym z.no_field) tt)
]

fits_in : (p : HardProgram) (slot : Bool) (done : List Item) (i : Item) (more : List Item) → Lines p slot (done ++ i ∷ more) → ItemFits p i.fix i.instr more
fits_in p slot [] i [] h = single_fits p slot i h
fits_in p slot [] i (j ∷ more) h = h.0
fits_in p slot (d ∷ []) i more h = fits_in p (is_jump d.instr) [] i more h.1
fits_in p slot (d ∷ e ∷ done) i more h = fits_in p (is_jump d.instr) (e ∷ done) i more h.1

pub fits_here : (p : HardProgram) (l : Layable p) (a : ℕ) (w : ItemWord p a) → ItemFits p w.item.fix w.item.instr w.more
fits_here p l a w = fits_in p false w.done w.item w.more (subst (λ (z : List Item). Lines p false z) w.split (l.lines w.block w.there))

pub reach_at : (p : HardProgram) (l : Layable p) (a : ℕ) (w : ItemWord p a) → FieldReaches p a w.item.fix w.item.instr
reach_at p l a w = subst (λ (z : ℕ). FieldReaches p z w.item.fix w.item.instr) (sym w.at) (reach_by p (address p w.block) w.done w.item w.more (subst (λ (z : List Item). AllReach p (address p w.block) z) w.split (l.reach w.block)))

pub range_at : (p : HardProgram) (l : Layable p) (a : ℕ) (w : ItemWord p a) → IsInRange w.item.instr
range_at p l a w = range_by w.done w.item w.more (subst (λ (z : List Item). Each (λ (i : Item). IsInRange i.instr) z) w.split (l.in_range w.block))

instr_by : (t : List ℕ) (a n : ℕ) (i : Instr) → a ≡ 0x00400000 + 4 * n → n < length t → decoded (slice_index t n) ≡ Some i → instr_at t a ≡ Some i
instr_by t a n i e h d =
    ap (λ (z : Bool). cond (z && (nat_le 0x00400000 a && nat_lt (text_place a) (length t))) (decoded (slice_index t (text_place a))) None) x ∙
    (ap (λ (z : Bool). cond (z && nat_lt (text_place a) (length t)) (decoded (slice_index t (text_place a))) None) y ∙
    (ap (λ (z : ℕ). cond (nat_lt z (length t)) (decoded (slice_index t z)) None) w ∙
    (ap (λ (z : Bool). cond z (decoded (slice_index t n)) None) z ∙ d)))
  where
    rest : (n : ℕ) → (0x00400000 + 4 * n) % 4 ≡ 0
    rest n = omega arith

    back : (n : ℕ) → (0x00400000 + 4 * n - 0x00400000) / 4 ≡ n
    back n = omega arith

    above : (a n : ℕ) → a ≡ 0x00400000 + 4 * n → nat_le 0x00400000 a ≡ true
    above a n e = grind arith

    below : (n m : ℕ) → n < m → nat_lt n m ≡ true
    below n m h = grind arith

    x : (a % 4 == 0) ≡ true
    x = ap (λ (z : ℕ). z % 4 == 0) e ∙ ap (λ (z : ℕ). z == 0) (rest n)

    y : nat_le 0x00400000 a ≡ true
    y = above a n e

    w : text_place a ≡ n
    w = ap text_place e ∙ back n

    z : nat_lt n (length t) ≡ true
    z = below n (length t) h

-- The instruction at an item's address is the item's, filled.
pub at_item : (p : HardProgram) (l : Layable p) (a : ℕ) (w : ItemWord p a) → At (text p) a (filled p w.block a w.item.fix w.item.instr)
at_item p l a w =
    let q : WordAt p w.block w.done w.item = word_at p w.block w.done w.item w.more w.there w.split in
    let r : IsInRange (filled p w.block a w.item.fix w.item.instr) = filled_range p w.block a w.item.fix w.item.instr w.more l (in_words_more p w.block (length w.done) a w.at) (fits_here p l a w) (reach_at p l a w) (range_at p l a w) in
    instr_by (text p) a q.at (filled p w.block a w.item.fix w.item.instr) (w.at ∙ q.address_is) q.inside
    (ap decoded (q.word ∙ ap (λ (z : ℕ). encoding (filled p w.block z w.item.fix w.item.instr)) (sym w.at)) ∙ decodes_encoded (filled p w.block a w.item.fix w.item.instr) r)

-- An address with an instruction is in the text.
in_text_by : (t : List ℕ) (a : ℕ) (i : Instr) → (x y z : Bool) → (a % 4 == 0) ≡ x → nat_le 0x00400000 a ≡ y → nat_lt (text_place a) (length t) ≡ z → cond (x && (y && z)) (decoded (slice_index t (text_place a))) None ≡ Some i → InText t a
in_text_by t a i true true true e f g h = record { aligned = zero_of (a % 4) e; from = le 0x00400000 a f; upto = lt (text_place a) (length t) g }
  where
    zero_of : (n : ℕ) → (n == 0) ≡ true → n ≡ 0
    zero_of n e = grind arith

    le : (m n : ℕ) → nat_le m n ≡ true → m ≤ n
    le m n e = grind arith

    lt : (m n : ℕ) → nat_lt m n ≡ true → m < n
    lt m n e = grind arith
in_text_by t a i true true false e f g h = absurd (no h)
  where
    no : None ≡ Some i → ⊥
    no q = cc
in_text_by t a i true false z e f g h = absurd (no h)
  where
    no : None ≡ Some i → ⊥
    no q = cc
in_text_by t a i false y z e f g h = absurd (no h)
  where
    no : None ≡ Some i → ⊥
    no q = cc

pub in_text : (t : List ℕ) (a : ℕ) (i : Instr) → At t a i → InText t a
in_text t a i h = in_text_by t a i (a % 4 == 0) (nat_le 0x00400000 a) (nat_lt (text_place a) (length t)) refl refl refl h

-- An item's address is in the text.
pub item_in_text : (p : HardProgram) (l : Layable p) (a : ℕ) (w : ItemWord p a) → InText (text p) a
item_in_text p l a w = in_text (text p) a (filled p w.block a w.item.fix w.item.instr) (at_item p l a w)

-- The item behind an item of a block.
abbrev pub next_item : (p : HardProgram) (a : ℕ) (w : ItemWord p a) (j : Item) (more : List Item) → w.more ≡ j ∷ more → ItemWord p (a + 4)
next_item p a w j more e = record {
  block = w.block;
  there = w.there;
  done = w.done ++ w.item ∷ [];
  item = j;
  more = more;
  split = w.split ∙ (ap (λ (z : List Item). w.done ++ w.item ∷ z) e ∙ sym (append_assoc w.done (w.item ∷ []) (j ∷ more)));
  at = sum a (address p w.block) (length w.done) (length (w.done ++ w.item ∷ [])) w.at (length-append w.done (w.item ∷ []));
}
  where
    sum : (a b n m : ℕ) → a ≡ b + 4 * n → m ≡ n + 1 → a + 4 ≡ b + 4 * m
    sum a b n m e f = omega arith

-- The item is held by its block.
pub held_item : (p : HardProgram) (a : ℕ) (w : ItemWord p a) → Holds p w.block w.item
held_item p a w = (length w.done, inside, ap (λ (z : List Item). get_or z (length w.done) w.item) w.split ∙ get_or-append_seam w.done w.item w.more w.item)
  where
    less : (n a b : ℕ) → n ≡ a + suc b → a < n
    less n a b e = omega arith

    inside : length w.done < length (items_of p w.block)
    inside = less (length (items_of p w.block)) (length w.done) (length w.more) (ap length w.split ∙ length-append w.done (w.item ∷ w.more))

-- The item that a block holds stands at an address.
pub word_held : (p : HardProgram) (b : ℕ) (i : Item) → b < length p.blocks → Holds p b i → (a : ℕ) × ((w : ItemWord p a) × ((w.block ≡ b) × (w.item ≡ i)))
word_held p b i h c =
    let s : Split (items_of p b) c.0 = split_at (items_of p b) c.0 c.1 in
    let e : s.item ≡ i = sym (get_or-append_seam s.done s.item s.more i) ∙ (ap (λ (z : ℕ). get_or (s.done ++ s.item ∷ s.more) z i) (sym s.place) ∙ (ap (λ (z : List Item). get_or z c.0 i) (sym s.split) ∙ c.2)) in
    (address p b + 4 * length s.done, (record { block = b; there = h; done = s.done; item = s.item; more = s.more; split = s.split; at = refl }, (refl, e)))

-- ---- the eight sorts

pub data View (p : HardProgram) (f : Fix) (x : Instr) (more : List Item) : Type 0 where
  jumps : (t target : ℕ) → f ≡ Block t → x ≡ J target → t < length p.blocks → LastSlot more → View p f x more
  calls : (c target : ℕ) → f ≡ Function c → x ≡ Jal target → named p (Function c) < length p.blocks → LastSlot more → View p f x more
  returns : (rs : ℕ) → f ≡ Plain → x ≡ Jr rs → LastSlot more → View p f x more
  skips : (rs rt : ℕ) → f ≡ Plain → IsBranch x rs rt 2 → SkippedSlot more → View p f x more
  branches : (t rs rt imm : ℕ) → f ≡ Block t → IsBranch x rs rt imm → t < length p.blocks → LastSlot more → View p f x more
  stays : f ≡ Plain → is_jump x ≡ false → View p f x more
  high : f ≡ ReturnHigh → x ≡ Lui 25 0 → View p f x more
  low : f ≡ ReturnLow → x ≡ Ori 25 25 0 → View p f x more

view_eq : (p : HardProgram) (f : Fix) (rs rt imm : ℕ) (more : List Item) → BranchFits p f imm more → View p f (Beq rs rt imm) more
view_eq p Plain rs rt imm more h = skips rs rt refl (inl (ap (λ (z : ℕ). Beq rs rt z) h.0)) h.1
view_eq p (Block t) rs rt imm more h = branches t rs rt imm refl (inl refl) h.0 h.1
view_eq p (Function c) rs rt imm more h = absurd h
view_eq p ReturnHigh rs rt imm more h = absurd h
view_eq p ReturnLow rs rt imm more h = absurd h

view_ne : (p : HardProgram) (f : Fix) (rs rt imm : ℕ) (more : List Item) → BranchFits p f imm more → View p f (Bne rs rt imm) more
view_ne p Plain rs rt imm more h = skips rs rt refl (inr (ap (λ (z : ℕ). Bne rs rt z) h.0)) h.1
view_ne p (Block t) rs rt imm more h = branches t rs rt imm refl (inr refl) h.0 h.1
view_ne p (Function c) rs rt imm more h = absurd h
view_ne p ReturnHigh rs rt imm more h = absurd h
view_ne p ReturnLow rs rt imm more h = absurd h

view_jump : (p : HardProgram) (f : Fix) (target : ℕ) (more : List Item) → JumpFits p f more → View p f (J target) more
view_jump p (Block t) target more h = jumps t target refl refl h.0 h.1
view_jump p Plain target more h = absurd h
view_jump p (Function c) target more h = absurd h
view_jump p ReturnHigh target more h = absurd h
view_jump p ReturnLow target more h = absurd h

view_call : (p : HardProgram) (f : Fix) (target : ℕ) (more : List Item) → CallFits p f more → View p f (Jal target) more
view_call p (Function c) target more h = calls c target refl refl h.0 h.1
view_call p Plain target more h = absurd h
view_call p (Block t) target more h = absurd h
view_call p ReturnHigh target more h = absurd h
view_call p ReturnLow target more h = absurd h

view_stay : (p : HardProgram) (f : Fix) (x : Instr) (more : List Item) → is_jump x ≡ false → StayFits f x → View p f x more
view_stay p Plain x more j h = stays refl j
view_stay p (Block t) x more j h = absurd h
view_stay p (Function c) x more j h = absurd h
view_stay p ReturnHigh x more j h = high refl h
view_stay p ReturnLow x more j h = low refl h

pub view : (p : HardProgram) (f : Fix) (x : Instr) (more : List Item) → ItemFits p f x more → View p f x more
view p f (J target) more h = view_jump p f target more h
view p f (Jal target) more h = view_call p f target more h
view p f (Jr rs) more h = returns rs h.0 refl h.1
view p f (Beq rs rt imm) more h = view_eq p f rs rt imm more h
view p f (Bne rs rt imm) more h = view_ne p f rs rt imm more h
view p f x more h = view_stay p f x more refl h

pub view_here : (p : HardProgram) (l : Layable p) (a : ℕ) (w : ItemWord p a) → View p w.item.fix w.item.instr w.more
view_here p l a w = view p w.item.fix w.item.instr w.more (fits_here p l a w)
