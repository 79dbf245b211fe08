-- The text of a program: its length, and which word stands where.
use Rattle.std.proofs.Common.{◌≡◌, ◌<◌, ℕ, zero, suc, ◌+◌, ◌*◌, arith, ap, refl, sym, ◌∙◌, subst, List, [], ◌∷◌, ◌++◌, length, get_or, take, append_assoc, add-zero, add-one, length-append}
use Rattle.std.specs.Prelude.{Some, None, slice_get, slice_index}
use Rattle.std.proofs.lemmas.List.Sums.{sum_by-cons, sum_by-append}
use Rattle.std.proofs.Math.Seq.{get_or-append_seam}
use Rattle.mips_isa.specs.Table.{encoding}
use Rattle.hard_items.specs.declared.code.Item.{Item}
use Rattle.hard_items.specs.declared.code.HardBlock.{HardBlock}
use Rattle.hard_items.specs.declared.code.HardProgram.{HardProgram}
use Rattle.hard_items.specs.Run.{items_of, block_items}
use Rattle.layout_law.specs.Layout.{words, address, filled, items_words, blocks_words, text}

-- ---- lengths

pub words_cons : (k : HardBlock) (ks : List HardBlock) → words (k ∷ ks) ≡ length k.items + words ks
words_cons k ks = sum_by-cons (λ k. length k.items) k ks

pub words_append : (xs ys : List HardBlock) → words (xs ++ ys) ≡ words xs + words ys
words_append xs ys = sum_by-append (λ k. length k.items) xs ys

pub length_items : (p : HardProgram) (b at : ℕ) (xs : List Item) → length (items_words p b at xs) ≡ length xs
length_items p b at [] = refl
length_items p b at (x ∷ xs) = ap suc (length_items p b (at + 4) xs)

pub length_blocks : (p : HardProgram) (b at : ℕ) (ks : List HardBlock) → length (blocks_words p b at ks) ≡ words ks
length_blocks p b at [] = refl
length_blocks p b at (k ∷ ks) = length-append (items_words p b at k.items) (blocks_words p (b + 1) (at + 4 * length k.items) ks) ∙ (both (length_items p b at k.items) (length_blocks p (b + 1) (at + 4 * length k.items) ks) ∙ sym (words_cons k ks))
  where
    both : {x y z w : ℕ} → x ≡ y → z ≡ w → x + z ≡ y + w
    both e f = cc

pub length_text : (p : HardProgram) → length (text p) ≡ words p.blocks
length_text p = length_blocks p 0 0x00400000 p.blocks

-- ---- parts

step_at : (at n : ℕ) → at + 4 + 4 * n ≡ at + 4 * suc n
step_at at n = omega arith

pub items_parts : (p : HardProgram) (b at : ℕ) (xs ys : List Item) → items_words p b at (xs ++ ys) ≡ items_words p b at xs ++ items_words p b (at + 4 * length xs) ys
items_parts p b at [] ys = ap (λ (z : ℕ). items_words p b z ys) (none at)
  where
    none : (at : ℕ) → at ≡ at + 4 * 0
    none at = omega arith
items_parts p b at (x ∷ xs) ys = ap (λ (z : List ℕ). encoding (filled p b at x.fix x.instr) ∷ z)
    (items_parts p b (at + 4) xs ys ∙ ap (λ (z : ℕ). items_words p b (at + 4) xs ++ items_words p b z ys) (step_at at (length xs)))

next_at : (at m w w' : ℕ) → w' ≡ m + w → at + 4 * m + 4 * w ≡ at + 4 * w'
next_at at m w w' e = omega arith

next_block : (b n : ℕ) → b + 1 + n ≡ b + suc n
next_block b n = omega arith

pub blocks_parts : (p : HardProgram) (b at : ℕ) (xs ys : List HardBlock) → blocks_words p b at (xs ++ ys) ≡ blocks_words p b at xs ++ blocks_words p (b + length xs) (at + 4 * words xs) ys
blocks_parts p b at [] ys = ap (λ (z : ℕ). blocks_words p b z ys) (none at) ∙ ap (λ (z : ℕ). blocks_words p z (at + 4 * 0) ys) (sym (add-zero b))
  where
    none : (at : ℕ) → at ≡ at + 4 * 0
    none at = omega arith
blocks_parts p b at (x ∷ xs) ys =
    let w : List ℕ = items_words p b at x.items in
    let q : ℕ = at + 4 * length x.items in
    ap (λ (z : List ℕ). w ++ z) (blocks_parts p (b + 1) q xs ys) ∙
    (sym (append_assoc w (blocks_words p (b + 1) q xs) (blocks_words p (b + 1 + length xs) (q + 4 * words xs) ys)) ∙
    (ap (λ (z : ℕ). (w ++ blocks_words p (b + 1) q xs) ++ blocks_words p z (q + 4 * words xs) ys) (next_block b (length xs)) ∙
    ap (λ (z : ℕ). (w ++ blocks_words p (b + 1) q xs) ++ blocks_words p (b + suc (length xs)) z ys) (next_at at (length x.items) (words xs) (words (x ∷ xs)) (words_cons x xs))))

-- ---- where a block stands

-- A block of a number, with those before it and behind it.
pub record Stands (ks : List HardBlock) (b : ℕ) (k : HardBlock) : Type 0 where
  pub front : List HardBlock
  pub back : List HardBlock
  pub parts : ks ≡ front ++ k ∷ back
  pub number : length front ≡ b
  pub taken : take b ks ≡ front
  pub one_more : take (suc b) ks ≡ front ++ k ∷ []

pub stands : (ks : List HardBlock) (b : ℕ) (k : HardBlock) → slice_get ks b ≡ Some k → Stands ks b k
stands [] b k e = absurd (none e)
  where
    none : None ≡ Some k → ⊥
    none e = cc
stands (x ∷ ks) zero k e = record { front = []; back = ks; parts = ap (λ (z : HardBlock). z ∷ ks) (same e); number = refl; taken = refl; one_more = ap (λ (z : HardBlock). z ∷ []) (same e) }
  where
    same : Some x ≡ Some k → x ≡ k
    same e = cc
stands (x ∷ ks) (suc b) k e =
    let s : Stands ks b k = stands ks b k e in
    record { front = x ∷ s.front; back = s.back; parts = ap (λ (z : List HardBlock). x ∷ z) s.parts; number = ap suc s.number; taken = ap (λ (z : List HardBlock). x ∷ z) s.taken; one_more = ap (λ (z : List HardBlock). x ∷ z) s.one_more }

-- A number below the length has a block.
pub block_there : (ks : List HardBlock) (b : ℕ) → b < length ks → (k : HardBlock) × (slice_get ks b ≡ Some k)
block_there [] b h = absurd (no b h)
  where
    no : (b : ℕ) → b < 0 → ⊥
    no b h = omega arith
block_there (k ∷ ks) zero h = (k, refl)
block_there (k ∷ ks) (suc b) h = block_there ks b (less b (length ks) h)
  where
    less : (b n : ℕ) → suc b < suc n → b < n
    less b n h = omega arith

pub items_are : (p : HardProgram) (b : ℕ) (k : HardBlock) → slice_get p.blocks b ≡ Some k → items_of p b ≡ k.items
items_are p b k e = ap block_items e

-- The address of the next block.
pub address_next : (p : HardProgram) (b : ℕ) → b < length p.blocks → address p (b + 1) ≡ address p b + 4 * length (items_of p b)
address_next p b h =
    let g : (k : HardBlock) × (slice_get p.blocks b ≡ Some k) = block_there p.blocks b h in
    let k : HardBlock = g.0 in
    let s : Stands p.blocks b k = stands p.blocks b k g.1 in
    let i : items_of p b ≡ k.items = items_are p b k g.1 in
    let e : words (take (b + 1) p.blocks) ≡ words s.front + length k.items =
    ap (λ (z : ℕ). words (take z p.blocks)) (add-one b) ∙ (ap words s.one_more ∙ (words_append s.front (k ∷ []) ∙ one (words s.front) (words (k ∷ [])) (length k.items) (words_cons k []))) in
    let f : words (take b p.blocks) ≡ words s.front = ap words s.taken in
    let n : length (items_of p b) ≡ length k.items = ap length i in
    sums (words (take (b + 1) p.blocks)) (words (take b p.blocks)) (words s.front) (length k.items) (length (items_of p b)) e f n
  where
    one : (a x n : ℕ) → x ≡ n + 0 → a + x ≡ a + n
    one a x n e = omega arith

    sums : (x y w n m : ℕ) → x ≡ w + n → y ≡ w → m ≡ n → 0x00400000 + 4 * x ≡ 0x00400000 + 4 * y + 4 * m
    sums x y w n m e f g = omega arith

-- ---- the word at an item

-- The place of an item in the text, in words.
pub record WordAt (p : HardProgram) (b : ℕ) (done : List Item) (i : Item) : Type 0 where
  pub at : ℕ
  pub address_is : address p b + 4 * length done ≡ 0x00400000 + 4 * at
  pub inside : at < length (text p)
  pub word : slice_index (text p) at ≡ encoding (filled p b (address p b + 4 * length done) i.fix i.instr)

text_parts : (p : HardProgram) (b : ℕ) (k : HardBlock) (s : Stands p.blocks b k) →
    text p ≡ blocks_words p 0 0x00400000 s.front ++ (items_words p b (0x00400000 + 4 * words s.front) k.items ++ blocks_words p (b + 1) (0x00400000 + 4 * words s.front + 4 * length k.items) s.back)
text_parts p b k s =
    ap (λ (z : List HardBlock). blocks_words p 0 0x00400000 z) s.parts ∙
    (blocks_parts p 0 0x00400000 s.front (k ∷ s.back) ∙
    ap (λ (z : ℕ). blocks_words p 0 0x00400000 s.front ++ (items_words p z (0x00400000 + 4 * words s.front) k.items ++ blocks_words p (z + 1) (0x00400000 + 4 * words s.front + 4 * length k.items) s.back)) (front_number (length s.front) b s.number))
  where
    front_number : (n b : ℕ) → n ≡ b → 0 + n ≡ b
    front_number n b e = omega arith

pub word_at : (p : HardProgram) (b : ℕ) (done : List Item) (i : Item) (more : List Item) → b < length p.blocks → items_of p b ≡ done ++ i ∷ more → WordAt p b done i
word_at p b done i more h e =
    let g : (k : HardBlock) × (slice_get p.blocks b ≡ Some k) = block_there p.blocks b h in
    let k : HardBlock = g.0 in
    let s : Stands p.blocks b k = stands p.blocks b k g.1 in
    let f : k.items ≡ done ++ i ∷ more = sym (items_are p b k g.1) ∙ e in
    let q : ℕ = 0x00400000 + 4 * words s.front in
    let A : List ℕ = blocks_words p 0 0x00400000 s.front in
    let B : List ℕ = items_words p b q done in
    let w : ℕ = encoding (filled p b (q + 4 * length done) i.fix i.instr) in
    let M : List ℕ = items_words p b (q + 4 * length done + 4) more in
    let C : List ℕ = blocks_words p (b + 1) (q + 4 * length k.items) s.back in
    let t : text p ≡ A ++ ((B ++ w ∷ M) ++ C) = text_parts p b k s ∙ ap (λ (z : List ℕ). A ++ (z ++ C)) (ap (λ (z : List Item). items_words p b q z) f ∙ items_parts p b q done (i ∷ more)) in
    let la : length A ≡ words s.front = length_blocks p 0 0x00400000 s.front in
    let lb : length B ≡ length done = length_items p b q done in
    let qa : address p b ≡ q = ap (λ (z : List HardBlock). 0x00400000 + 4 * words z) s.taken in
    let r : A ++ ((B ++ w ∷ M) ++ C) ≡ (A ++ B) ++ w ∷ (M ++ C) = regroup A B M C w in
    let n : length (A ++ B) ≡ words s.front + length done = length-append A B ∙ both la lb in
    record {
      at = words s.front + length done;
      address_is = sums (address p b) (words s.front) (length done) qa;
      inside = subst (λ (z : List ℕ). words s.front + length done < length z) (sym (t ∙ r)) (there (A ++ B) (w) (M ++ C) (words s.front + length done) n);
      word = ap (λ (z : List ℕ). get_or z (words s.front + length done) 0) (t ∙ r) ∙ (ap (λ (z : ℕ). get_or ((A ++ B) ++ w ∷ (M ++ C)) z 0) (sym n) ∙ (get_or-append_seam (A ++ B) w (M ++ C) 0 ∙ ap (λ (z : ℕ). encoding (filled p b (z + 4 * length done) i.fix i.instr)) (sym qa)));
    }
  where
    both : {x y z w : ℕ} → x ≡ y → z ≡ w → x + z ≡ y + w
    both e f = cc

    sums : (a w d : ℕ) → a ≡ 0x00400000 + 4 * w → a + 4 * d ≡ 0x00400000 + 4 * (w + d)
    sums a w d e = omega arith

    regroup : (a b m c : List ℕ) (w : ℕ) → a ++ ((b ++ w ∷ m) ++ c) ≡ (a ++ b) ++ w ∷ (m ++ c)
    regroup a b m c w = simp append_assoc

    there : (xs : List ℕ) (y : ℕ) (ys : List ℕ) (n : ℕ) → length xs ≡ n → n < length (xs ++ y ∷ ys)
    there xs y ys n e = rw (length-append) (less (length xs) n (length ys) e)
      where
        less : (m n k : ℕ) → m ≡ n → n < m + suc k
        less m n k e = omega arith
