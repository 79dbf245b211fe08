-- One block follows another in the words exactly as in the program of items.
use Rattle.std.proofs.Common.{◌≡◌, ◌≤◌, ◌<◌, ℕ, zero, suc, ◌+◌, ◌*◌, arith, ap, refl, sym, ◌∙◌, subst, List, [], ◌∷◌, length, inl, inr}
use Rattle.std.specs.Prelude.{Some, ◌⊎◌, slice_get, slice_index}
use Rattle.std.proofs.lemmas.Option.{get_or_from_slice_get}
use Rattle.mips_isa.specs.declared.instr.Instr.{Instr}
use Rattle.mips_isa.specs.declared.instr.Instr.TheVariants.{J, Jal, Jr, Lui, Ori}
use Rattle.mips_text.specs.Text.{At, IsBranch}
use Rattle.mips_text.specs.Blocks as words
use Rattle.mips_text.specs.Blocks.{IsStart, IsFunction, main, callee, InSpan, Succ, ForkAt}
use Rattle.hard_items.specs.declared.code.Fix.{Fix}
use Rattle.hard_items.specs.declared.code.Fix.TheVariants.{Plain, Block, Function}
use Rattle.hard_items.specs.declared.code.Item.{Item}
use Rattle.hard_items.specs.declared.code.HardProgram.{HardProgram}
use Rattle.hard_items.specs.Run.{named}
use Rattle.hard_items.specs.Ways as ways
use Rattle.hard_items.specs.Ways.{Holds, MayFollow, IsOfFunction, CallsFunction, EachCalled}
use Rattle.layout_law.specs.Layout.{address, text, filled}
use Rattle.layout_law.specs.Level.{Layable, Entered}
use Rattle.layout_law.proofs.Step.{grows, one_address}
use Rattle.layout_law.proofs.Views as views
use Rattle.layout_law.proofs.Views.{ItemWord, item_word, at_item, item_in_text, held_item, View, view_here}
use Rattle.layout_law.proofs.Starts as starts
use Rattle.layout_law.proofs.Starts.{Sort, sort, word_of, same_instr, IsBlock, start_block, JumpStands, jump_start, CallStands, call_stands, ForkStands, fork_stands}
use Rattle.layout_law.proofs.Hazards.{inside_end}
use Rattle.layout_law.proofs.Blocks.{Order, below, same, above, order, Found, found, Forks, forks_eq, forks_ne, Calls, calls, Jumps, jumps, block_start}

-- ---- addresses ascend

up_to : (p : HardProgram) → Layable p → (b c : ℕ) → b ≤ c → c ≤ length p.blocks → address p b ≤ address p c
up_to p l b c h k = by (order b c)
  where
    le : (a b : ℕ) → a < b → a ≤ b
    le a b h = omega arith

    is : (a b : ℕ) → a ≡ b → a ≤ b
    is a b e = omega arith

    no : (b c n : ℕ) → b ≡ c + suc n → b ≤ c → ⊥
    no b c n e h = omega arith

    by : Order b c → address p b ≤ address p c
    by (below n e) = subst (λ (z : ℕ). address p b ≤ address p z) (sym e) (le (address p b) (address p (b + suc n)) (grows p l b n (subst (λ (z : ℕ). z ≤ length p.blocks) e k)))
    by (same e) = is (address p b) (address p c) (ap (address p) e)
    by (above n e) = absurd (no b c n e h)

back_to : (p : HardProgram) → Layable p → (b c : ℕ) → address p b ≤ address p c → b ≤ length p.blocks → b ≤ c
back_to p l b c h k = by (order b c)
  where
    lower : (b c n : ℕ) → c ≡ b + suc n → b ≤ c
    lower b c n e = omega arith

    is : (a b : ℕ) → a ≡ b → a ≤ b
    is a b e = omega arith

    no : (a b : ℕ) → a < b → b ≤ a → ⊥
    no a b h k = omega arith

    by : Order b c → b ≤ c
    by (below n e) = lower b c n e
    by (same e) = is b c e
    by (above n e) = absurd (no (address p c) (address p (c + suc n)) (grows p l c n (subst (λ (z : ℕ). z ≤ length p.blocks) e k)) (subst (λ (z : ℕ). address p z ≤ address p c) e h))

word_from : (p : HardProgram) (a : ℕ) (w : ItemWord p a) → address p w.block ≤ a
word_from p a w = more a (address p w.block) (length w.done) w.at
  where
    more : (a b n : ℕ) → a ≡ b + 4 * n → b ≤ a
    more a b n e = omega arith

one_more : (b n : ℕ) → b < n → b + 1 ≤ n
one_more b n h = omega arith

-- A block that begins not behind a word is not behind the word's.
not_behind : (p : HardProgram) → Layable p → (a c : ℕ) (w : ItemWord p a) → c < length p.blocks → address p c ≤ a → c ≤ w.block
not_behind p l a c w h k = by (order c w.block)
  where
    lower : (b c n : ℕ) → c ≡ b + suc n → b ≤ c
    lower b c n e = omega arith

    is : (a b : ℕ) → a ≡ b → a ≤ b
    is a b e = omega arith

    next : (c b n : ℕ) → c ≡ b + suc n → b + 1 ≤ c
    next c b n e = omega arith

    no : (x y a : ℕ) → x ≤ y → y ≤ a → a < x → ⊥
    no x y a h k m = omega arith

    le : (a b : ℕ) → a < b → a ≤ b
    le a b h = omega arith

    by : Order c w.block → c ≤ w.block
    by (below n e) = lower c w.block n e
    by (same e) = is c w.block e
    by (above n e) = absurd (no (address p (w.block + 1)) (address p c) a (up_to p l (w.block + 1) c (next c w.block n e) (le c (length p.blocks) h)) k (inside_end p a w))

-- The start of a function in the words is the first block, or a function's.
pub data Begins (p : HardProgram) (g : ℕ) : Type 0 where
  first : g ≡ address p 0 → Begins p g
  entry : (f e : ℕ) → slice_get p.entries f ≡ Some e → g ≡ address p e → Begins p g

named_get : (es : List ℕ) (f : ℕ) → f < length es → slice_get es f ≡ Some (slice_index es f)
named_get [] f h = absurd (no f h)
  where
    no : (n : ℕ) → n < 0 → ⊥
    no n h = omega arith
named_get (e ∷ es) zero h = refl
named_get (e ∷ es) (suc f) h = named_get es f (less f (length es) h)
  where
    less : (a b : ℕ) → suc a < suc b → a < b
    less a b h = omega arith

-- An item whose word is jr is one.
jr_item : (p : HardProgram) (a rs : ℕ) (w : ItemWord p a) → At (text p) a (Jr rs) → Sort p a w → w.item.instr ≡ Jr rs
jr_item p a rs w h (starts.returns r f x k g) = x ∙ same_instr (text p) a (Jr r) (Jr rs) g h
jr_item p a rs w h (starts.jumps t tg f x m k g) = absurd (no (same_instr (text p) a (J (_)) (Jr rs) g h))
  where
    no : {y : ℕ} → J y ≡ Jr rs → ⊥
    no e = cc
jr_item p a rs w h (starts.calls c tg f x m k g) = absurd (no (same_instr (text p) a _ (Jr rs) g h))
  where
    no : {y : ℕ} → Jal y ≡ Jr rs → ⊥
    no e = cc
jr_item p a rs w h (starts.skips x y f b k g) = absurd (no (same_instr (text p) a w.item.instr (Jr rs) g h) b)
  where
    no : w.item.instr ≡ Jr rs → IsBranch w.item.instr x y 2 → ⊥
    no e (inl q) = cc
    no e (inr q) = cc
jr_item p a rs w h (starts.branches t x y imm f b m k g) = absurd (no g.0 (same_instr (text p) a g.0 (Jr rs) g.1.0 h) g.1.1)
  where
    no : {z : ℕ} (i : Instr) → i ≡ Jr rs → IsBranch i x y z → ⊥
    no i e (inl q) = cc
    no i e (inr q) = cc
jr_item p a rs w h (starts.stays f x g) = same_instr (text p) a w.item.instr (Jr rs) g h
jr_item p a rs w h (starts.high f x g) = absurd (no (same_instr (text p) a _ (Jr rs) g h))
  where
    no : {y : ℕ} → Lui 25 y ≡ Jr rs → ⊥
    no e = cc
jr_item p a rs w h (starts.low f x g) = absurd (no (same_instr (text p) a _ (Jr rs) g h))
  where
    no : {y : ℕ} → Ori 25 25 y ≡ Jr rs → ⊥
    no e = cc

-- The word of an item that is jr.
jr_word : (p : HardProgram) (l : Layable p) (a rs : ℕ) (w : ItemWord p a) → w.item.instr ≡ Jr rs → View p w.item.fix w.item.instr w.more → At (text p) a (Jr rs)
jr_word p l a rs w e v = by v
  where
    here : w.item.fix ≡ Plain → At (text p) a (Jr rs)
    here f = subst (At (text p) a) (ap (λ (z : Fix). filled p w.block a z w.item.instr) f ∙ e) (at_item p l a w)

    no_j : {y : ℕ} → J y ≡ Jr rs → ⊥
    no_j q = cc

    no_jal : {y : ℕ} → Jal y ≡ Jr rs → ⊥
    no_jal q = cc

    no_branch : {x y z : ℕ} (i : Instr) → i ≡ Jr rs → IsBranch i x y z → ⊥
    no_branch i q (inl r) = cc
    no_branch i q (inr r) = cc

    no_high : {y : ℕ} → Lui 25 y ≡ Jr rs → ⊥
    no_high q = cc

    no_low : {y : ℕ} → Ori 25 25 y ≡ Jr rs → ⊥
    no_low q = cc

    by : View p w.item.fix w.item.instr w.more → At (text p) a (Jr rs)
    by (views.jumps t tg f x m k) = absurd (no_j (sym x ∙ e))
    by (views.calls c tg f x m k) = absurd (no_jal (sym x ∙ e))
    by (views.returns r f x k) = here f
    by (views.skips x y f b k) = here f
    by (views.branches t x y imm f b m k) = absurd (no_branch w.item.instr e b)
    by (views.stays f x) = here f
    by (views.high f x) = absurd (no_high (sym x ∙ e))
    by (views.low f x) = absurd (no_low (sym x ∙ e))

module _ (p : HardProgram) (l : Layable p) (n : Entered p) (each : EachCalled p) (there : (f e : ℕ) → slice_get p.entries f ≡ Some e → e < length p.blocks) (names : (b f : ℕ) → CallsFunction p b f → f < length p.entries) (goes : (b c : ℕ) → MayFollow p b c → c < length p.blocks) where
  -- ---- spans

  in_span : (u a : ℕ) (w : ItemWord p a) → w.block ≡ u → InSpan (text p) 0x00400000 (address p u) a
  in_span u a w e = record {
    start = block_start p l n u (subst (λ (z : ℕ). z < length p.blocks) e w.there);
    in_text = item_in_text p l a w;
    from = subst (λ (z : ℕ). address p z ≤ a) e (word_from p a w);
    last = λ v t h. let b : IsBlock p v = start_block p l n v t in
        subst (λ (z : ℕ). z ≤ address p u) (sym b.2) (up_to p l b.0 u (subst (λ (z : ℕ). b.0 ≤ z) e (not_behind p l a b.0 w b.1 (subst (λ (z : ℕ). z ≤ a) b.2 h))) (le u (length p.blocks) (subst (λ (z : ℕ). z < length p.blocks) e w.there)));
  }
    where
      le : (a b : ℕ) → a < b → a ≤ b
      le a b h = omega arith

  of_span : (u a : ℕ) (w : ItemWord p a) → u < length p.blocks → InSpan (text p) 0x00400000 (address p u) a → w.block ≡ u
  of_span u a w h s = both w.block u (back_to p l w.block u (s.last (address p w.block) (block_start p l n w.block w.there) (word_from p a w)) (le w.block (length p.blocks) w.there)) (not_behind p l a u w h s.from)
    where
      le : (a b : ℕ) → a < b → a ≤ b
      le a b h = omega arith

      both : (a b : ℕ) → a ≤ b → b ≤ a → a ≡ b
      both a b h k = omega arith

  -- ---- functions

  entry_named : (f e : ℕ) → slice_get p.entries f ≡ Some e → named p (Function f) ≡ e
  entry_named f e h = get_or_from_slice_get p.entries f e 0 h

  function_of : (f e : ℕ) → slice_get p.entries f ≡ Some e → IsFunction (text p) 0x00400000 (address p e)
  function_of f e h = by (each f e h)
    where
      by : (e ≡ 0) ⊎ ((b : ℕ) × CallsFunction p b f) → IsFunction (text p) 0x00400000 (address p e)
      by (inl z) = main (ap (address p) z)
      by (inr c) = let j : Calls p c.0 f = calls p l c.0 f c.1 in callee j.at j.target j.stands (ap (address p) (sym (entry_named f e h)) ∙ sym j.goal)

  begins : (g : ℕ) → IsFunction (text p) 0x00400000 g → Begins p g
  begins g (main e) = first e
  begins g (callee a target h e) =
      let w : ItemWord p a = word_of p a (Jal target) h in
      let c : CallStands p a target w = call_stands p l a target w h (sort p l a w) in
      entry c.function (named p (Function c.function)) (named_get p.entries c.function (names w.block c.function c.calls)) (e ∙ c.goal)

  -- A block of a function stands in the span of its function's start.
  holds_of : (u f : ℕ) → u < length p.blocks → (o : IsOfFunction p u f) → words.Holds (text p) 0x00400000 (address p o.entry) (address p u)
  holds_of u f h o = record {
    is = function_of f o.entry o.is_entry;
    not_above = up_to p l o.entry u o.not_above (le u (length p.blocks) h);
    greatest = λ g k m. by g (begins g k) m;
  }
    where
      le : (a b : ℕ) → a < b → a ≤ b
      le a b h = omega arith

      least : (b : ℕ) → 0 ≤ b
      least b = omega arith

      by : (g : ℕ) → Begins p g → g ≤ address p u → g ≤ address p o.entry
      by g (first e) m = subst (λ (z : ℕ). z ≤ address p o.entry) (sym e) (up_to p l 0 o.entry (least o.entry) (le o.entry (length p.blocks) (there f o.entry o.is_entry)))
      by g (entry k x s e) m = subst (λ (z : ℕ). z ≤ address p o.entry) (sym e) (up_to p l x o.entry (o.greatest k x s (back_to p l x u (subst (λ (z : ℕ). z ≤ address p u) e m) (le x (length p.blocks) (there k x s)))) (le o.entry (length p.blocks) (there f o.entry o.is_entry)))

  of_holds : (u f g : ℕ) → u < length p.blocks → f < length p.entries → g ≡ address p (named p (Function f)) → words.Holds (text p) 0x00400000 g (address p u) → IsOfFunction p u f
  of_holds u f g h k e o =
      let x : ℕ = named p (Function f) in
      let s : slice_get p.entries f ≡ Some x = named_get p.entries f k in
      record {
        entry = x;
        is_entry = s;
        not_above = back_to p l x u (subst (λ (z : ℕ). z ≤ address p u) e o.not_above) (le x (length p.blocks) (there f x s));
        greatest = λ q other t m. back_to p l other x (subst (λ (z : ℕ). address p other ≤ z) e (o.greatest (address p other) (function_of q other t) (up_to p l other u m (le u (length p.blocks) h)))) (le other (length p.blocks) (there q other t));
      }
    where
      le : (a b : ℕ) → a < b → a ≤ b
      le a b h = omega arith

  -- ---- a block follows in the words where it does in the program

  pub follows_words : (u w : ℕ) → MayFollow p u w → Succ (text p) 0x00400000 (address p u) (address p w)
  follows_words u w (ways.jumped t tg i h e f) = let j : Jumps p u t = jumps p l u t tg i h e f in record { at = j.at; in_span = in_span u j.at j.word j.block; leads = words.jumps j.target j.stands (sym j.goal) }
  follows_words u w (ways.branched_eq t rs rt imm i h e f) = let j : Forks p u t = forks_eq p l n u t rs rt imm i h e f in record { at = j.at; in_span = in_span u j.at j.word j.block; leads = words.takes j.imm j.fork (sym j.goal) }
  follows_words u w (ways.branched_ne t rs rt imm i h e f) = let j : Forks p u t = forks_ne p l n u t rs rt imm i h e f in record { at = j.at; in_span = in_span u j.at j.word j.block; leads = words.takes j.imm j.fork (sym j.goal) }
  follows_words u w (ways.fallen_eq t rs rt imm i h e f) = let j : Forks p u t = forks_eq p l n u t rs rt imm i h e f in record { at = j.at; in_span = in_span u j.at j.word j.block; leads = words.passes j.imm j.fork (sym j.back) }
  follows_words u w (ways.fallen_ne t rs rt imm i h e f) = let j : Forks p u t = forks_ne p l n u t rs rt imm i h e f in record { at = j.at; in_span = in_span u j.at j.word j.block; leads = words.passes j.imm j.fork (sym j.back) }
  follows_words u w (ways.called f t k e) = let j : Calls p u f = calls p l u f k in record { at = j.at; in_span = in_span u j.at j.word j.block; leads = words.calls j.target j.stands (ap (address p) (sym (entry_named f t e)) ∙ sym j.goal) }
  follows_words u w (ways.returned f caller rs i h e k m) =
      let g : Found p u i = found p u i h in
      let j : Calls p caller f = calls p l caller f m in
      let r : At (text p) g.at (Jr rs) = jr_word p l g.at rs g.word (ap (λ (z : Item). z.instr) g.item ∙ e) (view_here p l g.at g.word) in
      record {
        at = g.at;
        in_span = in_span u g.at g.word g.block;
        leads = words.returns rs (address p k.entry) j.at j.target r (holds_of u f (subst (λ (z : ℕ). z < length p.blocks) g.block g.word.there) k) j.stands (ap (address p) (sym (entry_named f k.entry k.is_entry)) ∙ sym j.goal) (sym j.back);
      }

  -- ---- and only there

  one : (v w : ℕ) → v ≤ length p.blocks → w < length p.blocks → address p w ≡ address p v → w ≡ v
  one v w h k e = one_address p l w v (le w (length p.blocks) k) h e
    where
      le : (a b : ℕ) → a < b → a ≤ b
      le a b h = omega arith

  weak : (a b : ℕ) → a < b → a ≤ b
  weak a b h = omega arith

  pub words_follow : (u w : ℕ) → u < length p.blocks → w < length p.blocks → Succ (text p) 0x00400000 (address p u) (address p w) → MayFollow p u w
  words_follow u w hu hw s = subst (λ (z : ℕ). MayFollow p z w) (of_span u s.at v hu s.in_span) (by s.leads)
    where
      v : ItemWord p s.at
      v = item_word p s.at s.in_span.in_text

      held : Holds p v.block v.item
      held = held_item p s.at v

      here : v.block ≡ u
      here = of_span u s.at v hu s.in_span

      branch : (t rs rt imm : ℕ) → v.item.fix ≡ Block t → IsBranch v.item.instr rs rt imm → MayFollow p v.block t
      branch t rs rt imm f (inl e) = ways.branched_eq t rs rt imm v.item held e f
      branch t rs rt imm f (inr e) = ways.branched_ne t rs rt imm v.item held e f

      fall : (t rs rt imm : ℕ) → v.item.fix ≡ Block t → IsBranch v.item.instr rs rt imm → MayFollow p v.block (v.block + 1)
      fall t rs rt imm f (inl e) = ways.fallen_eq t rs rt imm v.item held e f
      fall t rs rt imm f (inr e) = ways.fallen_ne t rs rt imm v.item held e f

      by : words.LeadsTo (text p) 0x00400000 (address p u) s.at (address p w) → MayFollow p v.block w
      by (words.jumps target h e) = let j : JumpStands p s.at target v = jump_start p l s.at target v h (sort p l s.at v) in
          subst (MayFollow p v.block) (sym (one j.to w (weak j.to (length p.blocks) j.there) hw (e ∙ j.goal))) (ways.jumped j.to j.old v.item held j.is j.names)
      by (words.calls target h e) =
          let j : CallStands p s.at target v = call_stands p l s.at target v h (sort p l s.at v) in
          subst (MayFollow p v.block) (sym (one (named p (Function j.function)) w (weak (named p (Function j.function)) (length p.blocks) j.there) hw (e ∙ j.goal)))
          (ways.called j.function (named p (Function j.function)) j.calls (named_get p.entries j.function (names v.block j.function j.calls)))
      by (words.takes imm h e) = let j : ForkStands p s.at imm v = fork_stands p l s.at imm v h (sort p l s.at v) in
          subst (MayFollow p v.block) (sym (one j.to w (weak j.to (length p.blocks) j.there) hw (e ∙ j.goal))) (branch j.to j.rs j.rt j.old j.names j.is)
      by (words.passes imm h e) = let j : ForkStands p s.at imm v = fork_stands p l s.at imm v h (sort p l s.at v) in
          subst (MayFollow p v.block) (sym (one (v.block + 1) w (one_more v.block (length p.blocks) v.there) hw (e ∙ j.back))) (fall j.to j.rs j.rt j.old j.names j.is)
      by (words.returns rs f c target h o k e g) =
          let x : ItemWord p c = word_of p c (Jal target) k in
          let j : CallStands p c target x = call_stands p l c target x k (sort p l c x) in
          subst (MayFollow p v.block) (sym (one (x.block + 1) w (one_more x.block (length p.blocks) x.there) hw (g ∙ j.back)))
          (ways.returned j.function x.block rs v.item held (jr_item p s.at rs v h (sort p l s.at v)) (subst (λ (z : ℕ). IsOfFunction p z j.function) (sym here) (of_holds u j.function f hu (names x.block j.function j.calls) (e ∙ j.goal) o)) j.calls)
