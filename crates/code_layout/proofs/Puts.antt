-- What the writing of items by a list of addresses gives: the words of the layout.
use Rattle.std.proofs.Common.{◌≡◌, ◌≤◌, ◌<◌, ℕ, zero, suc, ◌+◌, ◌*◌, ◌%◌, ◌^◌, arith, ap, refl, sym, ◌∙◌, subst, List, [], ◌∷◌, ◌++◌, length, map, get_or, take, drop, Bool, true, false, cond, inl, inr}
use Rattle.std.specs.Prelude.{Option, Some, None, slice_index, slice_get}
use Rattle.std.specs.List.{range_with_len}
use Rattle.mips_isa.specs.declared.instr.Instr.{Instr}
use Rattle.mips_isa.specs.declared.instr.Instr.TheVariants.{J, Jal, Jr, Beq, Bne, Lui, Ori}
use Rattle.mips_isa.specs.Table.{encoding, IsInRange}
use Rattle.mips_isa.specs.Machine.{is_jump}
use Rattle.hard_items.specs.declared.code.Fix.{Fix}
use Rattle.hard_items.specs.declared.code.Fix.TheVariants.{Plain, Block, Function, ReturnHigh, ReturnLow}
use Rattle.hard_items.specs.declared.code.Item.{Item}
use Rattle.hard_items.specs.declared.code.HardBlock.{HardBlock}
use Rattle.hard_items.specs.declared.code.HardProgram.{HardProgram}
use Rattle.hard_items.specs.declared.code.Mark.{Mark}
use Rattle.hard_items.specs.declared.code.Signed.{Signed}
use Rattle.hard_items.specs.Run.{items_of, named}
use Rattle.hard_items.specs.WellFormed.{NamesThere}
use Rattle.hard_items.specs.Forms.{Each}
use Rattle.hard_items.specs.Heads.{head_items, with_heads, headed}
use Rattle.layout_law.specs.Layout.{words, address, addresses, Reaches, filled_with, filled, items_words}
use Rattle.layout_law.specs.Level.{Lines, ItemFits, FieldReaches, AllReach, Layable, Laying}
use Rattle.code_layout.specs.Starts.{starts_from, BranchReaches, goal_at, GoalThere, put_words, ItemPuts, AllPut}
use Rattle.layout_law.proofs.Texts.{words_cons}
use Rattle.layout_law.proofs.Fields.{InWords, in_words, not_above, filled_range}
use Rattle.layout_law.proofs.Views.{single_fits}
use Rattle.layout_law.proofs.Lines.{heads_length}

-- ---- the list of addresses

-- The addresses of the blocks, and last the end of the text.
abbrev pub table : HardProgram → List ℕ
table p = starts_from 0 0x00400000 p.blocks

length_table : (head at : ℕ) (ks : List HardBlock) → length (starts_from head at ks) ≡ length ks + 1
length_table head at [] = refl
length_table head at (k ∷ ks) = more (length (starts_from head (at + 4 * (head + length k.items)) ks)) (length ks) (length_table head (at + 4 * (head + length k.items)) ks)
  where
    more : (a n : ℕ) → a ≡ n + 1 → suc a ≡ suc n + 1
    more a n e = omega arith

pub in_table : (p : HardProgram) (b : ℕ) → b ≤ length p.blocks → b < length (table p)
in_table p b h = less b (length p.blocks) (length (table p)) h (length_table 0 0x00400000 p.blocks)
  where
    less : (b n m : ℕ) → b ≤ n → m ≡ n + 1 → b < m
    less b n m h e = omega arith

table_from : (at : ℕ) (ks : List HardBlock) (b : ℕ) → b ≤ length ks → slice_index (starts_from 0 at ks) b ≡ at + 4 * words (take b ks)
table_from at [] zero h = none at
  where
    none : (a : ℕ) → a ≡ a + 4 * 0
    none a = omega arith
table_from at [] (suc b) h = absurd (no b h)
  where
    no : (b : ℕ) → suc b ≤ 0 → ⊥
    no b h = omega arith
table_from at (k ∷ ks) zero h = none at
  where
    none : (a : ℕ) → a ≡ a + 4 * 0
    none a = omega arith
table_from at (k ∷ ks) (suc b) h = table_from (at + 4 * (0 + length k.items)) ks b (less b (length ks) h) ∙ (sum at (length k.items) (words (take b ks)) ∙ ap (λ (z : ℕ). at + 4 * z) (sym (words_cons k (take b ks))))
  where
    less : (b n : ℕ) → suc b ≤ suc n → b ≤ n
    less b n h = omega arith

    sum : (a n w : ℕ) → a + 4 * (0 + n) + 4 * w ≡ a + 4 * (n + w)
    sum a n w = omega arith

pub table_at : (p : HardProgram) (b : ℕ) → b ≤ length p.blocks → slice_index (table p) b ≡ address p b
table_at p b h = table_from 0x00400000 p.blocks b h

-- The list without its last is the addresses of the blocks.
pub table_front : (p : HardProgram) → take (length p.blocks) (table p) ≡ addresses p
table_front p = front 0x00400000 p.blocks 0 (λ b. address p b) (λ m h. sum (words (take m p.blocks)) ∙ ap (address p) (zero_left m))
  where
    sum : (w : ℕ) → 0x00400000 + 4 * w ≡ 0x00400000 + 4 * w
    sum w = refl

    zero_left : (m : ℕ) → m ≡ 0 + m
    zero_left m = omega arith

    none : (a : ℕ) → a ≡ a + 4 * 0
    none a = omega arith

    zero_right : (a : ℕ) → a + 0 ≡ a
    zero_right a = omega arith

    up : (n : ℕ) → 0 < suc n
    up n = omega arith

    more : (m n : ℕ) → m < n → suc m < suc n
    more m n h = omega arith

    move : (a m : ℕ) → a + suc m ≡ a + 1 + m
    move a m = omega arith

    step : (a n w : ℕ) → a + 4 * (0 + n) + 4 * w ≡ a + 4 * (n + w)
    step a n w = omega arith

    front : (at : ℕ) (ks : List HardBlock) (a : ℕ) (f : ℕ → ℕ) → ((m : ℕ) → m < length ks → at + 4 * words (take m ks) ≡ f (a + m)) → take (length ks) (starts_from 0 at ks) ≡ map f (range_with_len a (length ks))
    front at [] a f h = refl
    front at (k ∷ ks) a f h =
        ap (λ (z : ℕ). z ∷ take (length ks) (starts_from 0 (at + 4 * (0 + length k.items)) ks)) (none at ∙ (h 0 (up (length ks)) ∙ ap f (zero_right a))) ∙
        ap (λ (z : List ℕ). f a ∷ z) (front (at + 4 * (0 + length k.items)) ks (a + 1) f (λ m g. step at (length k.items) (words (take m ks)) ∙ (ap (λ (z : ℕ). at + 4 * z) (sym (words_cons k (take m ks))) ∙ h (suc m) (more m (length ks) g) ∙ ap f (move a m))))

-- With a head of seven words for each block, or with none, it is the list of the program with its heads.
pub with_seven : (at : ℕ) (ks : List HardBlock) (ms : List Mark) → length ms ≡ length ks → starts_from 7 at ks ≡ starts_from 0 at (with_heads ks ms)
with_seven at [] ms e = refl
with_seven at (k ∷ ks) [] e = absurd (no (length ks) e)
  where
    no : (n : ℕ) → 0 ≡ suc n → ⊥
    no n e = omega arith
with_seven at (k ∷ ks) (m ∷ ms) e = ap (λ (z : List ℕ). at ∷ z) (with_seven (at + 4 * (7 + length k.items)) ks ms (less (length ms) (length ks) e) ∙ ap (λ (z : ℕ). starts_from 0 z (with_heads ks ms)) (sum at (length k.items)))
  where
    less : (a b : ℕ) → suc a ≡ suc b → a ≡ b
    less a b e = omega arith

    sum : (a n : ℕ) → a + 4 * (7 + n) ≡ a + 4 * (0 + (suc (suc (suc (suc (suc (suc (suc n))))))))
    sum a n = omega arith

pub without : (ks : List HardBlock) → with_heads ks [] ≡ ks
without [] = refl
without (k ∷ ks) = refl

-- ---- one item

-- Where a field leads plays no part unless it names a block or a function.
high_any : (at to other back : ℕ) (i : Instr) → filled_with at to back ReturnHigh i ≡ filled_with at other back ReturnHigh i
high_any at to other back (Lui rt imm) = refl
high_any at to other back i = refl

low_any : (at to other back : ℕ) (i : Instr) → filled_with at to back ReturnLow i ≡ filled_with at other back ReturnLow i
low_any at to other back (Ori rt rs imm) = refl
low_any at to other back i = refl

reach_to : (p : HardProgram) (at to t : ℕ) (i : Instr) → to ≡ address p t → FieldReaches p at (Block t) i → BranchReaches at to (Block t) i
reach_to p at to t (Beq rs rt imm) e h = subst (λ (z : ℕ). Reaches (at + 4) z) (sym e) h
reach_to p at to t (Bne rs rt imm) e h = subst (λ (z : ℕ). Reaches (at + 4) z) (sym e) h
reach_to p at to t i e h = tt

-- What an item is written as, by a list of addresses.
pub record Puts (p : HardProgram) (b at : ℕ) (i : Item) : Type 0 where
  pub puts : ItemPuts (table p) p.entries (address p (b + 1)) at i
  pub same : filled_with at (goal_at (table p) p.entries i.fix) (address p (b + 1)) i.fix i.instr ≡ filled p b at i.fix i.instr

aligned_at : (p : HardProgram) (t : ℕ) → address p t % 4 ≡ 0
aligned_at p t = sum (words (take t p.blocks))
  where
    sum : (w : ℕ) → (0x00400000 + 4 * w) % 4 ≡ 0
    sum w = omega arith

at_goal : (p : HardProgram) (b at t : ℕ) (i : Instr) (more : List Item) → ItemFits p (Block t) i more → t < length p.blocks
at_goal p b at t (J target) more h = h.0
at_goal p b at t (Beq rs rt imm) more h = h.0
at_goal p b at t (Bne rs rt imm) more h = h.0
at_goal p b at t (Jal target) more h = absurd h
at_goal p b at t (Jr rs) more h = absurd (no h.0)
  where
    no : Block t ≡ Plain → ⊥
    no q = cc
at_goal p b at t i more h = absurd h

at_entry : (p : HardProgram) (f : ℕ) (i : Instr) (more : List Item) → ItemFits p (Function f) i more → slice_index p.entries f < length p.blocks
at_entry p f (Jal target) more h = h.0
at_entry p f (J target) more h = absurd h
at_entry p f (Beq rs rt imm) more h = absurd h
at_entry p f (Bne rs rt imm) more h = absurd h
at_entry p f (Jr rs) more h = absurd (no h.0)
  where
    no : Function f ≡ Plain → ⊥
    no q = cc
at_entry p f i more h = absurd h

weaker : (a b : ℕ) → a < b → a ≤ b
weaker a b h = omega arith

put_as : (p : HardProgram) (l : Layable p) (b at : ℕ) (f : Fix) (i : Item) (more : List Item) → i.fix ≡ f → InWords (at + 4) → NamesThere p f → ItemFits p f i.instr more → FieldReaches p at f i.instr → IsInRange i.instr → Puts p b at (record i { fix = f })
put_as p l b at Plain i more e w n h r g = record {
  puts = record { there = tt; aligned = refl; reaches = tt; in_range = filled_range p b at Plain i.instr more l w h r g };
  same = refl;
}
put_as p l b at (Block t) i more e w n h r g =
    let q : slice_index (table p) t ≡ address p t = table_at p t (weaker t (length p.blocks) n) in
    record {
      puts = record {
        there = in_table p t (weaker t (length p.blocks) n);
        aligned = ap (λ (z : ℕ). z % 4) q ∙ aligned_at p t;
        reaches = reach_to p at (slice_index (table p) t) t i.instr q r;
        in_range = subst (λ (z : ℕ). IsInRange (filled_with at z (address p (b + 1)) (Block t) i.instr)) (sym q) (filled_range p b at (Block t) i.instr more l w h r g);
      };
      same = ap (λ (z : ℕ). filled_with at z (address p (b + 1)) (Block t) i.instr) q;
    }
put_as p l b at (Function f) i more e w n h r g =
    let d : slice_index p.entries f < length p.blocks = at_entry p f i.instr more h in
    let q : slice_index (table p) (slice_index p.entries f) ≡ address p (slice_index p.entries f) = table_at p (slice_index p.entries f) (weaker (slice_index p.entries f) (length p.blocks) d) in
    record {
      puts = record {
        there = (n, in_table p (slice_index p.entries f) (weaker (slice_index p.entries f) (length p.blocks) d));
        aligned = ap (λ (z : ℕ). z % 4) q ∙ aligned_at p (slice_index p.entries f);
        reaches = tt;
        in_range = subst (λ (z : ℕ). IsInRange (filled_with at z (address p (b + 1)) (Function f) i.instr)) (sym q) (filled_range p b at (Function f) i.instr more l w h r g);
      };
      same = ap (λ (z : ℕ). filled_with at z (address p (b + 1)) (Function f) i.instr) q;
    }
put_as p l b at ReturnHigh i more e w n h r g = record {
  puts = record { there = tt; aligned = refl; reaches = tt; in_range = subst IsInRange (high_any at (address p 0) 0 (address p (b + 1)) i.instr) (filled_range p b at ReturnHigh i.instr more l w h r g) };
  same = high_any at 0 (address p 0) (address p (b + 1)) i.instr;
}
put_as p l b at ReturnLow i more e w n h r g = record {
  puts = record { there = tt; aligned = refl; reaches = tt; in_range = subst IsInRange (low_any at (address p 0) 0 (address p (b + 1)) i.instr) (filled_range p b at ReturnLow i.instr more l w h r g) };
  same = low_any at 0 (address p 0) (address p (b + 1)) i.instr;
}

put_one : (p : HardProgram) (l : Layable p) (b at : ℕ) (i : Item) (more : List Item) → InWords (at + 4) → NamesThere p i.fix → ItemFits p i.fix i.instr more → FieldReaches p at i.fix i.instr → IsInRange i.instr → Puts p b at i
put_one p l b at i more w n h r g = put_as p l b at i.fix i more refl w n h r g

-- ---- the items of a block

pub record AllPuts (p : HardProgram) (b at : ℕ) (xs : List Item) : Type 0 where
  pub all : AllPut (table p) p.entries (address p (b + 1)) at xs
  pub same : put_words (table p) p.entries (address p (b + 1)) at xs ≡ items_words p b at xs

one_more : (p : HardProgram) (b at : ℕ) (i : Item) (more : List Item) → Puts p b at i → AllPuts p b (at + 4) more → AllPuts p b at (i ∷ more)
one_more p b at i more h k = record { all = (h.puts, k.all); same = ap (λ (z : Instr). encoding z ∷ put_words (table p) p.entries (address p (b + 1)) (at + 4) more) h.same ∙ ap (λ (z : List ℕ). encoding (filled p b at i.fix i.instr) ∷ z) k.same }

in_words_next : (a : ℕ) → InWords a → InWords (a + 4)
in_words_next a w = record { words = w.words + 1; is = sum a w.words w.is }
  where
    sum : (a n : ℕ) → a ≡ 0x00400000 + 4 * n → a + 4 ≡ 0x00400000 + 4 * (n + 1)
    sum a n e = omega arith

pub put_all : (p : HardProgram) (l : Layable p) (b at : ℕ) (slot : Bool) (xs : List Item) → InWords at → Lines p slot xs → Each (λ (i : Item). NamesThere p i.fix) xs → AllReach p at xs → Each (λ (i : Item). IsInRange i.instr) xs → AllPuts p b at xs
put_all p l b at slot [] w h n r g = record { all = tt; same = refl }
put_all p l b at slot (i ∷ []) w h n r g = one_more p b at i [] (put_one p l b at i [] (in_words_next at w) n.0 (single_fits p slot i h) r.0 g.0) (record { all = tt; same = refl })
put_all p l b at slot (i ∷ j ∷ more) w h n r g = one_more p b at i (j ∷ more) (put_one p l b at i (j ∷ more) (in_words_next at w) n.0 h.0 r.0 g.0) (put_all p l b (at + 4) (is_jump i.instr) (j ∷ more) (in_words_next at w) h.1 n.1 r.1 g.1)

-- ---- in two parts

pub put_left : (S E : List ℕ) (back at : ℕ) (xs ys : List Item) → AllPut S E back at (xs ++ ys) → AllPut S E back at xs
put_left S E back at [] ys h = tt
put_left S E back at (x ∷ xs) ys h = (h.0, put_left S E back (at + 4) xs ys h.1)

pub put_right : (S E : List ℕ) (back at : ℕ) (xs ys : List Item) → AllPut S E back at (xs ++ ys) → AllPut S E back (at + 4 * length xs) ys
put_right S E back at [] ys h = subst (λ (z : ℕ). AllPut S E back z ys) (none at) h
  where
    none : (a : ℕ) → a ≡ a + 4 * 0
    none a = omega arith
put_right S E back at (x ∷ xs) ys h = subst (λ (z : ℕ). AllPut S E back z ys) (one at (length xs)) (put_right S E back (at + 4) xs ys h.1)
  where
    one : (a n : ℕ) → a + 4 + 4 * n ≡ a + 4 * suc n
    one a n = omega arith

pub put_append : (S E : List ℕ) (back at : ℕ) (xs ys : List Item) → put_words S E back at (xs ++ ys) ≡ put_words S E back at xs ++ put_words S E back (at + 4 * length xs) ys
put_append S E back at [] ys = ap (λ (z : ℕ). put_words S E back z ys) (none at)
  where
    none : (a : ℕ) → a ≡ a + 4 * 0
    none a = omega arith
put_append S E back at (x ∷ xs) ys = ap (λ (z : List ℕ). encoding (filled_with at (goal_at S E x.fix) back x.fix x.instr) ∷ z) (put_append S E back (at + 4) xs ys ∙ ap (λ (z : ℕ). put_words S E back (at + 4) xs ++ put_words S E back z ys) (one at (length xs)))
  where
    one : (a n : ℕ) → a + 4 + 4 * n ≡ a + 4 * suc n
    one a n = omega arith

-- ---- the starts of a signed program, by the marks

seven_words : (ks : List HardBlock) (ms : List Mark) → length ms ≡ length ks → words (with_heads ks ms) ≡ words ks + 7 * length ks
seven_words [] ms e = refl
seven_words (k ∷ ks) [] e = absurd (no (length ks) e)
  where
    no : (n : ℕ) → 0 ≡ suc n → ⊥
    no n e = omega arith
seven_words (k ∷ ks) (m ∷ ms) e = words_cons (record { items = head_items m ++ k.items; successors = k.successors }) (with_heads ks ms) ∙
    sum (words (with_heads ks ms)) (length k.items) (words ks) (length ks) (words (k ∷ ks)) (seven_words ks ms (less (length ms) (length ks) e)) (words_cons k ks)
  where
    less : (a b : ℕ) → suc a ≡ suc b → a ≡ b
    less a b e = omega arith

    sum : (x n w l v : ℕ) → x ≡ w + 7 * l → v ≡ n + w → suc (suc (suc (suc (suc (suc (suc n)))))) + x ≡ v + 7 * suc l
    sum x n w l v e f = omega arith

empty : {A : Type 0} (xs : List A) → length xs ≡ 0 → xs ≡ []
empty [] e = refl
empty (x ∷ xs) e = absurd (no (length xs) e)
  where
    no : (n : ℕ) → suc n ≡ 0 → ⊥
    no n e = omega arith

-- Where there are no marks.
pub record StartsBare (s : Signed) (ks : List HardBlock) : Type 0 where
  pub few : 0x00400000 + 4 * (words ks + 0 * length ks) ≤ 2 ^ 28
  pub same : starts_from 0 0x00400000 ks ≡ starts_from 0 0x00400000 (headed s).blocks

pub starts_bare : {s : Signed} {ks : List HardBlock} {n : ℕ} → Laying s → ks ≡ s.program.blocks → n ≡ length s.marks → n ≡ 0 → StartsBare s ks
starts_bare {s} {ks} {n} l e f g =
    let q : with_heads s.program.blocks s.marks ≡ ks = ap (λ (z : List Mark). with_heads s.program.blocks z) (empty s.marks (sym f ∙ g)) ∙ (without s.program.blocks ∙ sym e) in
    record { few = few (words ks) (length ks) (words (with_heads s.program.blocks s.marks)) (ap (λ (z : List HardBlock). words z) q) l.size; same = ap (λ (z : List HardBlock). starts_from 0 0x00400000 z) (sym q) }
  where
    few : (w n x : ℕ) → x ≡ w → x ≤ 66060288 → 0x00400000 + 4 * (w + 0 * n) ≤ 2 ^ 28
    few w n x e h = omega arith

-- Where there is one for each block.
pub record StartsMarked (s : Signed) (ks : List HardBlock) : Type 0 where
  pub few : 0x00400000 + 4 * (words ks + 7 * length ks) ≤ 2 ^ 28
  pub same : starts_from 7 0x00400000 ks ≡ starts_from 0 0x00400000 (headed s).blocks

pub starts_marked : {s : Signed} {ks : List HardBlock} {n : ℕ} → Laying s → ks ≡ s.program.blocks → n ≡ length s.marks → (n ≡ 0 → ⊥) → StartsMarked s ks
starts_marked {s} {ks} {n} l e f g =
    let q : length s.marks ≡ length s.program.blocks = elim l.marks.0 as (λ z. length s.marks ≡ length s.program.blocks) [ inl h ↦ absurd (g (f ∙ ap (λ (z : List Mark). length z) h)) | inr h ↦ h ] in
    subst (λ (z : List HardBlock). StartsMarked s z) (sym e) (record { few = few (words s.program.blocks) (length s.program.blocks) (words (with_heads s.program.blocks s.marks)) (seven_words s.program.blocks s.marks q) l.size; same = with_seven 0x00400000 s.program.blocks s.marks q })
  where
    few : (w n x : ℕ) → x ≡ w + 7 * n → x ≤ 66060288 → 0x00400000 + 4 * (w + 7 * n) ≤ 2 ^ 28
    few w n x e h = omega arith

-- The addresses that are given out.
pub front_of : (s : Signed) (n : ℕ) (xs : List ℕ) → n ≡ length s.program.blocks → xs ≡ starts_from 0 0x00400000 (headed s).blocks → take n xs ≡ addresses (headed s)
front_of s n xs e f = ap (λ (z : ℕ). take z xs) (e ∙ sym (heads_length s.program.blocks s.marks)) ∙ (ap (λ (z : List ℕ). take (length (headed s).blocks) z) f ∙ table_front (headed s))
