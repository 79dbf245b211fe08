-- What a block of a signed program is written as, by the list of addresses.
use Rattle.std.proofs.Common.{◌≡◌, ◌≤◌, ◌<◌, ℕ, zero, suc, ◌+◌, ◌*◌, ◌%◌, ◌^◌, arith, ap, refl, sym, ◌∙◌, subst, List, [], ◌∷◌, ◌++◌, length, get_or, take, false, inl, inr}
use Rattle.std.specs.Prelude.{OnOk, Result, Option, Some, None, slice_index, slice_get, ◌⊎◌}
use Rattle.std.proofs.lemmas.List.{append-nil, take_all}
use Rattle.std.proofs.lemmas.Option.{slice_get_read}
use Rattle.std.specs.Option.{option_copied}
use denote.Bor.{Bor}
use Rattle.hard_items.specs.declared.code.Fix.{Fix}
use Rattle.hard_items.specs.declared.code.Item.{Item}
use Rattle.hard_items.specs.declared.code.HardBlock.{HardBlock}
use Rattle.hard_items.specs.declared.code.HardProgram.{HardProgram}
use Rattle.hard_items.specs.declared.code.Mark.{Mark}
use Rattle.hard_items.specs.declared.code.Signed.{Signed}
use Rattle.hard_items.specs.Run.{items_of}
use Rattle.hard_items.specs.WellFormed.{NamesThere}
use Rattle.hard_items.specs.Forms.{Each}
use Rattle.hard_items.specs.Heads.{head_items, with_heads, headed}
use Rattle.layout_law.specs.Layout.{words, address, items_words, blocks_words, text}
use Rattle.layout_law.specs.Level.{Layable, Laying}
use Rattle.code_layout.specs.Starts.{starts_from, put_words, AllPut}
use Rattle.layout_law.proofs.Texts.{address_next, block_there, items_are, blocks_parts, stands, Stands}
use Rattle.layout_law.proofs.Fields.{in_words, not_above}
use Rattle.layout_law.proofs.Lines.{head_of, items_headed, heads_length}
use Rattle.layout_law.proofs.Laying.{can_be_laid, each_of_all, each_append}
use Rattle.code_layout.proofs.Puts.{table, in_table, table_at, AllPuts, put_all}

-- All that is asked where items are written from a block's address on, and what they are then.
pub record BlockPuts (s : Signed) (b : ℕ) (T E : List ℕ) (xs : List Item) : Type 0 where
  pub there : b < length T
  pub next : b + 1 < length T
  pub aligned : slice_index T b % 4 ≡ 0
  pub low : slice_index T b + 4 * length xs ≤ 2 ^ 28
  pub back_low : slice_index T (b + 1) ≤ 2 ^ 28
  pub fits : AllPut T E (slice_index T (b + 1)) (slice_index T b) xs
  pub same : put_words T E (slice_index T (b + 1)) (slice_index T b) xs ≡ items_words (headed s) b (address (headed s) b) (items_of (headed s) b)

head_named : (p : HardProgram) (o : Option Mark) → Each (λ (i : Item). NamesThere p i.fix) (head_of o)
head_named p None = tt
head_named p (Some m) = (tt, (tt, (tt, (tt, (tt, (tt, (tt, tt)))))))

named_headed : (s : Signed) (f : Fix) → NamesThere s.program f → NamesThere (headed s) f
named_headed s Rattle.hard_items.specs.declared.code.Fix.TheVariants.Plain h = tt
named_headed s (Rattle.hard_items.specs.declared.code.Fix.TheVariants.Block t) h = subst (λ (z : ℕ). t < z) (sym (heads_length s.program.blocks s.marks)) h
named_headed s (Rattle.hard_items.specs.declared.code.Fix.TheVariants.Function f) h = h
named_headed s Rattle.hard_items.specs.declared.code.Fix.TheVariants.ReturnHigh h = tt
named_headed s Rattle.hard_items.specs.declared.code.Fix.TheVariants.ReturnLow h = tt

each_named : (s : Signed) (xs : List Item) → Each (λ (i : Item). NamesThere s.program i.fix) xs → Each (λ (i : Item). NamesThere (headed s) i.fix) xs
each_named s [] h = tt
each_named s (x ∷ xs) h = (named_headed s x.fix h.0, each_named s xs h.1)

named_all : (s : Signed) (l : Laying s) (b : ℕ) → b < length s.program.blocks → Each (λ (i : Item). NamesThere (headed s) i.fix) (items_of (headed s) b)
named_all s l b h = subst (λ (z : List Item). Each (λ (i : Item). NamesThere (headed s) i.fix) z) (sym (items_headed s b h))
    (each_append (λ (i : Item). NamesThere (headed s) i.fix) (head_of (slice_get s.marks b)) (items_of s.program b) (head_named (headed s) (slice_get s.marks b))
    (each_named s (items_of s.program b) (each_of_all (λ (i : Item). NamesThere s.program i.fix) (items_of s.program b) (l.well_formed.named_there b))))

less : (a b : ℕ) → a < b → a ≤ b
less a b h = omega arith

next_less : (a b : ℕ) → a < b → a + 1 ≤ b
next_less a b h = omega arith

aligned_at : (p : HardProgram) (t : ℕ) → address p t % 4 ≡ 0
aligned_at p t = sum (words (take t p.blocks))
  where
    sum : (w : ℕ) → (0x00400000 + 4 * w) % 4 ≡ 0
    sum w = omega arith

pub block_puts : (s : Signed) (b : ℕ) (T E : List ℕ) (xs : List Item) → Laying s → b < length s.program.blocks → T ≡ starts_from 0 0x00400000 (headed s).blocks → E ≡ s.program.entries → items_of (headed s) b ≡ xs → BlockPuts s b T E xs
block_puts s b T E xs l h e g q =
    let p : HardProgram = headed s in
    let n : Layable p = can_be_laid s l in
    let k : b < length p.blocks = subst (λ (z : ℕ). b < z) (sym (heads_length s.program.blocks s.marks)) h in
    let x : slice_index (table p) b ≡ address p b = table_at p b (less b (length p.blocks) k) in
    let y : slice_index (table p) (b + 1) ≡ address p (b + 1) = table_at p (b + 1) (next_less b (length p.blocks) k) in
    let a : AllPuts p b (address p b) (items_of p b) = put_all p n b (address p b) false (items_of p b) (in_words p b) (n.lines b k) (named_all s l b h) (n.reach b) (n.in_range b) in
    subst (λ (z : List ℕ). BlockPuts s b T z xs) (sym g) (subst (λ (z : List ℕ). BlockPuts s b z p.entries xs) (sym e) (subst (λ (z : List Item). BlockPuts s b (table p) p.entries z) q (record {
      there = in_table p b (less b (length p.blocks) k);
      next = in_table p (b + 1) (next_less b (length p.blocks) k);
      aligned = ap (λ (z : ℕ). z % 4) x ∙ aligned_at p b;
      low = low (slice_index (table p) b) (address p b) (length (items_of p b)) (address p (b + 1)) x (address_next p b k) (not_above p (b + 1) n.size);
      back_low = subst (λ (z : ℕ). z ≤ 2 ^ 28) (sym y) (not_above p (b + 1) n.size);
      fits = subst (λ (z : ℕ). AllPut (table p) p.entries z (slice_index (table p) b) (items_of p b)) (sym y) (subst (λ (z : ℕ). AllPut (table p) p.entries (address p (b + 1)) z (items_of p b)) (sym x) a.all);
      same = ap (λ (z : ℕ). put_words (table p) p.entries z (slice_index (table p) b) (items_of p b)) y ∙ (ap (λ (z : ℕ). put_words (table p) p.entries (address p (b + 1)) z (items_of p b)) x ∙ a.same);
    })))
  where
    low : (x a n c : ℕ) → x ≡ a → c ≡ a + 4 * n → c ≤ 2 ^ 28 → x + 4 * n ≤ 2 ^ 28
    low x a n c e f h = omega arith

own_items : (s : Signed) (b : ℕ) (k : HardBlock) → slice_get s.program.blocks b ≡ Some k → items_of s.program b ≡ k.items
own_items s b k e = ap Rattle.hard_items.specs.Run.block_items e

-- The items of a block with its head.
pub marked_items : (s : Signed) (b : ℕ) (m : Mark) (k : HardBlock) → b < length s.program.blocks → slice_get s.marks b ≡ Some m → slice_get s.program.blocks b ≡ Some k → items_of (headed s) b ≡ head_items m ++ k.items
marked_items s b m k h e f = items_headed s b h ∙ (ap (λ (z : Option Mark). head_of z ++ items_of s.program b) e ∙ ap (λ (z : List Item). head_items m ++ z) (own_items s b k f))

-- And without.
pub bare_items : (s : Signed) (b : ℕ) (k : HardBlock) → b < length s.program.blocks → slice_get s.marks b ≡ None → slice_get s.program.blocks b ≡ Some k → items_of (headed s) b ≡ k.items
bare_items s b k h e f = items_headed s b h ∙ (ap (λ (z : Option Mark). head_of z ++ items_of s.program b) e ∙ own_items s b k f)

-- The same from what the code reads: the list of blocks, the block there, its items, the entries and the mark.
own_read : (s : Signed) (b : ℕ) (ks : List HardBlock) (k : HardBlock) (xs : List Item) → b < length s.program.blocks → ks ≡ s.program.blocks → k ≡ get_or ks b k → xs ≡ (get_or ks b k).items → (slice_get s.program.blocks b ≡ Some k) × (k.items ≡ xs)
own_read s b ks k xs h e n q = (slice_get_read s.program.blocks (length s.program.blocks) b k refl h (n ∙ ap (λ (z : List HardBlock). get_or z b k) e), ap (λ (z : HardBlock). z.items) n ∙ sym q)

pub marked_puts : {s : Signed} {b : ℕ} {T E : List ℕ} {ks : List HardBlock} (k : HardBlock) {xs : List Item} {o : Option (Bor Mark)} {m : Bor Mark} → Laying s → b < length s.program.blocks → T ≡ starts_from 0 0x00400000 (headed s).blocks → E ≡ s.program.entries →
    ks ≡ s.program.blocks → k ≡ get_or ks b k → xs ≡ (get_or ks b k).items → option_copied o ≡ slice_get s.marks b → o ≡ Some m → BlockPuts s b T E (head_items m.now ++ xs)
marked_puts {s} {b} {T} {E} {ks} k {xs} {o} {m} l h t n e r q g i =
    let j : (slice_get s.program.blocks b ≡ Some k) × (k.items ≡ xs) = own_read s b ks k xs h e r q in
    block_puts s b T E (head_items m.now ++ xs) l h t n (marked_items s b m.now k h (sym g ∙ ap option_copied i) j.0 ∙ ap (λ (z : List Item). head_items m.now ++ z) j.1)

pub bare_puts : {s : Signed} {b : ℕ} {T E : List ℕ} {ks : List HardBlock} (k : HardBlock) {xs : List Item} {o : Option (Bor Mark)} → Laying s → b < length s.program.blocks → T ≡ starts_from 0 0x00400000 (headed s).blocks → E ≡ s.program.entries →
    ks ≡ s.program.blocks → k ≡ get_or ks b k → xs ≡ (get_or ks b k).items → option_copied o ≡ slice_get s.marks b → o ≡ None → BlockPuts s b T E xs
bare_puts {s} {b} {T} {E} {ks} k {xs} {o} l h t n e r q g i =
    let j : (slice_get s.program.blocks b ≡ Some k) × (k.items ≡ xs) = own_read s b ks k xs h e r q in
    block_puts s b T E xs l h t n (bare_items s b k h (sym g ∙ ap option_copied i) j.0 ∙ j.1)

pub put_same : {A B : Type 0} (r : Result A B) (o a : List ℕ) {x y : List ℕ} → OnOk r (o ≡ a ++ x) → x ≡ y → OnOk r (o ≡ a ++ y)
put_same r o a h e = subst (λ (z : List ℕ). OnOk r (o ≡ a ++ z)) e h

-- ---- block after block

pub record Grows (s : Signed) (b : ℕ) : Type 0 where
  pub grows : blocks_words (headed s) 0 0x00400000 (take (b + 1) (headed s).blocks) ≡ blocks_words (headed s) 0 0x00400000 (take b (headed s).blocks) ++ items_words (headed s) b (address (headed s) b) (items_of (headed s) b)

pub grows_at : (s : Signed) (b : ℕ) → b < length s.program.blocks → Grows s b
grows_at s b h =
    let p : HardProgram = headed s in
    let k : b < length p.blocks = subst (λ (z : ℕ). b < z) (sym (heads_length s.program.blocks s.marks)) h in
    let g : (k : HardBlock) × (slice_get p.blocks b ≡ Some k) = block_there p.blocks b k in
    let q : Stands p.blocks b g.0 = stands p.blocks b g.0 g.1 in
    let ws : List ℕ = items_words p (0 + length q.front) (0x00400000 + 4 * words q.front) g.0.items in
    let x : ws ≡ items_words p b (address p b) (items_of p b) =
    ap (λ (z : ℕ). items_words p z (0x00400000 + 4 * words q.front) g.0.items) (number (length q.front) b q.number) ∙
    (ap (λ (z : List HardBlock). items_words p b (0x00400000 + 4 * words z) g.0.items) (sym q.taken) ∙
    ap (λ (z : List Item). items_words p b (address p b) z) (sym (items_are p b g.0 g.1))) in
    let y : blocks_words p 0 0x00400000 (take (b + 1) p.blocks) ≡ blocks_words p 0 0x00400000 q.front ++ (ws ++ []) =
    ap (λ (z : ℕ). blocks_words p 0 0x00400000 (take z p.blocks)) (one b) ∙ (ap (λ (z : List HardBlock). blocks_words p 0 0x00400000 z) q.one_more ∙ blocks_parts p 0 0x00400000 q.front (g.0 ∷ [])) in
    record { grows = y ∙ (ap (λ (z : List HardBlock). blocks_words p 0 0x00400000 z ++ (ws ++ [])) (sym q.taken) ∙ ap (λ (z : List ℕ). blocks_words p 0 0x00400000 (take b p.blocks) ++ z) (append-nil ws ∙ x)) }
  where
    one : (b : ℕ) → b + 1 ≡ suc b
    one b = omega arith

    number : (n b : ℕ) → n ≡ b → 0 + n ≡ b
    number n b e = omega arith

-- In the end they are the text.
all_taken : (ks : List HardBlock) (n : ℕ) → n ≡ length ks → take n ks ≡ ks
all_taken ks n e = take_all n ks (same (length ks) n e)
  where
    same : (a n : ℕ) → n ≡ a → a ≤ n
    same a n e = omega arith

pub all_blocks : (s : Signed) (n : ℕ) → n ≡ length s.program.blocks → blocks_words (headed s) 0 0x00400000 (take n (headed s).blocks) ≡ text (headed s)
all_blocks s n e = ap (λ (z : List HardBlock). blocks_words (headed s) 0 0x00400000 z) (all_taken (headed s).blocks n (e ∙ sym (heads_length s.program.blocks s.marks)))
