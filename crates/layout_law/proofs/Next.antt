-- Which words may follow a word, by the items: the next of the block, the one behind a break, or the first of a block. From this
-- the rules of well typed texts on hazards, on ways out of the text and on delay slots.
use Rattle.std.proofs.Common.{◌≡◌, ◌≢◌, ◌≤◌, ◌<◌, ℕ, zero, suc, ◌+◌, ◌-◌, ◌*◌, ◌/◌, ◌%◌, ◌^◌, arith, ap, refl, sym, ◌∙◌, subst, List, [], ◌∷◌, ◌++◌, length, get_or, take, append_assoc, length-append, Bool, true, false, cond, inl, inr}
use Rattle.std.specs.Prelude.{Some, ◌⊎◌}
use Rattle.mips_isa.specs.declared.instr.Instr.TheVariants.{J, Jal, Break}
use Rattle.mips_isa.specs.Machine.{is_jump}
use Rattle.mips_text.specs.Text.{InText, branch_goal}
use Rattle.mips_text.specs.Blocks.{IsStart}
use Rattle.mips_text.specs.Typing as typing
use Rattle.mips_text.specs.Typing.{IsSlot, Next}
use Rattle.harden_lint.specs.Rules.{HasInstruction, GoesInside}
use Rattle.hard_items.specs.declared.code.Fix.TheVariants.{Plain, Function}
use Rattle.hard_items.specs.declared.code.Item.{Item}
use Rattle.hard_items.specs.declared.code.HardProgram.{HardProgram}
use Rattle.hard_items.specs.Run.{items_of, named}
use Rattle.layout_law.specs.Layout.{address, filled, text}
use Rattle.layout_law.specs.Level.{Lines, LastSlot, SkippedSlot, IsNop, IsStop, Layable, Entered}
use Rattle.layout_law.proofs.Acts.{filled_reads}
use Rattle.layout_law.proofs.Views.{ItemWord, item_word, at_item, item_in_text, next_item, held_item}
use Rattle.layout_law.proofs.Starts.{sort, same_instr, word_of, word_end, word_bound, filled_as, JumpStands, jump_start, CallStands, call_stands, skip, fork, branch_stands, start_block, IsBlock}
use Rattle.layout_law.proofs.Blocks.{no_block_inside}

no_true : true ≡ false → ⊥
no_true e = cc

-- ---- what stands before an item

-- The lines from an item on, and the branch or jump before it, if it stands in a slot.
pub record Before (p : HardProgram) (done : List Item) (i : Item) (more : List Item) : Type 0 where
  pub slot : Bool
  pub lines : Lines p slot (i ∷ more)
  pub jump : slot ≡ true → (front : List Item) × (j : Item) × (done ≡ front ++ j ∷ []) × (is_jump j.instr ≡ true)

lines_at : (p : HardProgram) (slot : Bool) (done front : List Item) (d : Item) (i : Item) (more : List Item) → slot ≡ is_jump d.instr → Lines p slot (done ++ i ∷ more) → Before p ((front ++ d ∷ []) ++ done) i more
lines_at p slot [] front d i more e h = record { slot = slot; lines = h; jump = λ k. (front, d, nil (front ++ d ∷ []), sym e ∙ k) }
  where
    nil : (xs : List Item) → xs ++ [] ≡ xs
    nil xs = Rattle.std.proofs.Common.append-nil xs
lines_at p slot (c ∷ []) front d i more e h = subst (λ (z : List Item). Before p z i more) (append_three front d c) (lines_at p (is_jump c.instr) [] (front ++ d ∷ []) c i more refl h.1)
  where
    append_three : (front : List Item) (d c : Item) → ((front ++ d ∷ []) ++ c ∷ []) ++ [] ≡ (front ++ d ∷ []) ++ c ∷ []
    append_three front d c = Rattle.std.proofs.Common.append-nil ((front ++ d ∷ []) ++ c ∷ [])
lines_at p slot (c ∷ f ∷ done) front d i more e h = subst (λ (z : List Item). Before p z i more) (append_assoc (front ++ d ∷ []) (c ∷ []) (f ∷ done)) (lines_at p (is_jump c.instr) (f ∷ done) (front ++ d ∷ []) c i more refl h.1)

pub before_by : (p : HardProgram) (done : List Item) (i : Item) (more : List Item) → Lines p false (done ++ i ∷ more) → Before p done i more
before_by p [] i more h = record { slot = false; lines = h; jump = λ k. absurd (no_true (sym k)) }
before_by p (d ∷ []) i more h = lines_at p (is_jump d.instr) [] [] d i more refl h.1
before_by p (d ∷ e ∷ done) i more h = lines_at p (is_jump d.instr) (e ∷ done) [] d i more refl h.1

pub before_here : (p : HardProgram) (l : Layable p) (a : ℕ) (w : ItemWord p a) → Before p w.done w.item w.more
before_here p l a w = before_by p w.done w.item w.more (subst (λ (z : List Item). Lines p false z) w.split (l.lines w.block w.there))

-- An item behind a branch or jump stands in a slot.
slot_there : (p : HardProgram) (l : Layable p) (a : ℕ) (w : ItemWord p a) (front : List Item) (j : Item) → w.done ≡ front ++ j ∷ [] → is_jump j.instr ≡ true → IsSlot (text p) a
slot_there p l a w front j e h =
    let at : ℕ = address p w.block + 4 * length front in
    let v : ItemWord p at = record { block = w.block; there = w.there; done = front; item = j; more = w.item ∷ w.more; split = w.split ∙ (ap (λ (z : List Item). z ++ w.item ∷ w.more) e ∙ append_assoc front (j ∷ []) (w.item ∷ w.more)); at = refl } in
    record { jump_at = at; instr = filled p w.block at j.fix j.instr; at = at_item p l at v; jumps = (filled_reads p w.block at j.fix j.instr).1.1 ∙ h; behind = w.at ∙ sum (address p w.block) (length front) (length w.done) (ap length e ∙ length-append front (j ∷ [])) }
  where
    sum : (a n m : ℕ) → m ≡ n + 1 → a + 4 * m ≡ a + 4 * n + 4
    sum a n m e = omega arith

-- ---- next words

pub data Goes (p : HardProgram) (a b : ℕ) (w : ItemWord p a) : Type 0 where
  inner : (j : Item) (more : List Item) → w.more ≡ j ∷ more → b ≡ a + 4 → Goes p a b w
  over : (k j : Item) (more : List Item) → w.more ≡ k ∷ j ∷ more → IsStop k → b ≡ a + 8 → Goes p a b w
  leaves : (c : ℕ) → c < length p.blocks → w.more ≡ [] → IsNop w.item → b ≡ address p c → Goes p a b w

pub record NextGoes (p : HardProgram) (a b : ℕ) : Type 0 where
  pub word : ItemWord p a
  pub goes : Goes p a b word

-- behind a slot that ends a block
slot_leaves : (p : HardProgram) (j b c : ℕ) (v : ItemWord p j) → LastSlot v.more → c < length p.blocks → b ≡ address p c → NextGoes p (j + 4) b
slot_leaves p j b c v h k e = by v.more refl h
  where
    by : (more : List Item) → v.more ≡ more → LastSlot more → NextGoes p (j + 4) b
    by [] q n = absurd n
    by (i ∷ []) q n = record { word = next_item p j v i [] q; goes = leaves c k refl n e }
    by (i ∷ m ∷ more) q n = absurd n

-- behind a slot before a break
slot_skips : (p : HardProgram) (j b : ℕ) (v : ItemWord p j) → SkippedSlot v.more → (b ≡ j + 12) ⊎ (b ≡ j + 8) → NextGoes p (j + 4) b
slot_skips p j b v h e = by v.more refl h e
  where
    twelve : (j : ℕ) → j + 12 ≡ j + 4 + 8
    twelve j = omega arith

    eight : (j : ℕ) → j + 8 ≡ j + 4 + 4
    eight j = omega arith

    by : (more : List Item) → v.more ≡ more → SkippedSlot more → (b ≡ j + 12) ⊎ (b ≡ j + 8) → NextGoes p (j + 4) b
    by [] q n e = absurd n
    by (i ∷ []) q n e = absurd n
    by (i ∷ k ∷ []) q n e = absurd n
    by (i ∷ k ∷ m ∷ more) q n (inl e) = record { word = next_item p j v i (k ∷ m ∷ more) q; goes = over k m more refl n.1.1 (e ∙ twelve j) }
    by (i ∷ k ∷ m ∷ more) q n (inr e) = record { word = next_item p j v i (k ∷ m ∷ more) q; goes = inner k (m ∷ more) refl (e ∙ eight j) }

skip_goal : (p : HardProgram) (l : Layable p) (j : ℕ) (v : ItemWord p j) → branch_goal j 2 ≡ j + 12
skip_goal p l j v = sum j (length v.more) (word_bound p l j v)
  where
    sum : (a n : ℕ) → a + 4 * suc n ≤ 2 ^ 28 → ((a + 4) % 2 ^ 32 + 8) % 2 ^ 32 ≡ a + 12
    sum a n h = omega arith

pub next_goes : (p : HardProgram) (l : Layable p) (n : Entered p) (a b : ℕ) → Next (text p) a b → NextGoes p a b
next_goes p l n a b (typing.onward t ns nb e) = by (item_word p a t)
  where
    by : ItemWord p a → NextGoes p a b
    by w = by_more w.more refl
      where
        by_more : (more : List Item) → w.more ≡ more → NextGoes p a b
        by_more (j ∷ more) q = record { word = w; goes = inner j more q e }
        by_more [] q =
            let f : Before p w.done w.item w.more = before_here p l a w in
            absurd (elim (subst (λ (z : List Item). Lines p f.slot (w.item ∷ z)) q f.lines) as (λ z. ⊥) [
              | inl z ↦ let g : (front : List Item) × (j : Item) × (w.done ≡ front ++ j ∷ []) × (is_jump j.instr ≡ true) = f.jump z.0 in ns (slot_there p l a w g.0 g.1 g.2 g.3)
              | inr z ↦ nb z.code (at_item p l a w ∙ ap Some (filled_as p w.block a w.item.fix Plain w.item.instr (Break z.code) z.no_field z.stop))
            ])
next_goes p l n a b (typing.jumped j tg t h e f) =
    let v : ItemWord p j = word_of p j (J tg) h in
    let c : JumpStands p j tg v = jump_start p l j tg v h (sort p l j v) in
    subst (λ (z : ℕ). NextGoes p z b) (sym e) (slot_leaves p j b c.to v c.last c.there (f ∙ c.goal))
next_goes p l n a b (typing.called j tg t h e f) =
    let v : ItemWord p j = word_of p j (Jal tg) h in
    let c : CallStands p j tg v = call_stands p l j tg v h (sort p l j v) in
    subst (λ (z : ℕ). NextGoes p z b) (sym e) (slot_leaves p j b (named p (Function c.function)) v c.last c.there (f ∙ c.goal))
next_goes p l n a b (typing.taken j x y imm t h e f) =
    let v : ItemWord p j = word_of p j h.instr h.at in
    subst (λ (z : ℕ). NextGoes p z b) (sym e) (elim (branch_stands p l j x y imm v h (sort p l j v)) as (λ z. NextGoes p (j + 4) b) [
      | skip rs rt q i s g ↦ slot_skips p j b v s (inl (f ∙ (ap (branch_goal j) i ∙ skip_goal p l j v)))
      | fork c ↦ slot_leaves p j b c.to v c.last c.there (f ∙ c.goal)
    ])
next_goes p l n a b (typing.passed j x y imm t h r e f) =
    let v : ItemWord p j = word_of p j h.instr h.at in
    subst (λ (z : ℕ). NextGoes p z b) (sym e) (elim (branch_stands p l j x y imm v h (sort p l j v)) as (λ z. NextGoes p (j + 4) b) [
      | skip rs rt q i s g ↦ slot_skips p j b v s (inr f)
      | fork c ↦ slot_leaves p j b (v.block + 1) v c.last (n.branches_go_on v.block c.to c.rs c.rt c.old v.item (held_item p j v) c.names c.is) (f ∙ c.back)
    ])

-- ---- rules 1 and 6

pub has_instruction : (p : HardProgram) → Layable p → (a : ℕ) → HasInstruction (text p) a
has_instruction p l a t = let w : ItemWord p a = item_word p a t in (filled p w.block a w.item.fix w.item.instr, at_item p l a w)

-- the first item of a block
pub first_item : (p : HardProgram) (l : Layable p) (c : ℕ) → c < length p.blocks → ItemWord p (address p c)
first_item p l c h = by (items_of p c) refl (l.lines c h)
  where
    none : (a : ℕ) → a ≡ a + 4 * 0
    none a = omega arith

    by : (xs : List Item) → items_of p c ≡ xs → Lines p false xs → ItemWord p (address p c)
    by [] e k = absurd k
    by (i ∷ more) e k = record { block = c; there = h; done = []; item = i; more = more; split = e; at = none (address p c) }

-- a word two items behind
pub two_behind : (p : HardProgram) (a : ℕ) (w : ItemWord p a) (k j : Item) (more : List Item) → w.more ≡ k ∷ j ∷ more → ItemWord p (a + 8)
two_behind p a w k j more e = subst (λ (z : ℕ). ItemWord p z) (sum a) (next_item p (a + 4) (next_item p a w k (j ∷ more) e) j more refl)
  where
    sum : (a : ℕ) → a + 4 + 4 ≡ a + 8
    sum a = omega arith

goes_inside_by : (p : HardProgram) (l : Layable p) (a b : ℕ) (w : ItemWord p a) → Goes p a b w → InText (text p) b
goes_inside_by p l a b w (inner j more q e) = subst (λ (z : ℕ). InText (text p) z) (sym e) (item_in_text p l (a + 4) (next_item p a w j more q))
goes_inside_by p l a b w (over k j more q s e) = subst (λ (z : ℕ). InText (text p) z) (sym e) (item_in_text p l (a + 8) (two_behind p a w k j more q))
goes_inside_by p l a b w (leaves c h q s e) = subst (λ (z : ℕ). InText (text p) z) (sym e) (item_in_text p l (address p c) (first_item p l c h))

pub goes_inside : (p : HardProgram) (l : Layable p) (n : Entered p) (a : ℕ) → GoesInside (text p) a
goes_inside p l n a b h = let q : NextGoes p a b = next_goes p l n a b h in goes_inside_by p l a b q.word q.goes

-- ---- rule 10, but for what the slot holds

-- The branch or jump of a slot, and the item in the slot.
pub record SlotOf (p : HardProgram) (a : ℕ) : Type 0 where
  pub at : ℕ
  pub word : ItemWord p at
  pub item : Item
  pub more : List Item
  pub split : word.more ≡ item ∷ more
  pub behind : a ≡ at + 4
  pub jumps : is_jump word.item.instr ≡ true

pub slot_inside : (p : HardProgram) (l : Layable p) (a : ℕ) → IsSlot (text p) a → SlotOf p a
slot_inside p l a s =
    let v : ItemWord p s.jump_at = word_of p s.jump_at s.instr s.at in
    by v v.more refl (before_here p l s.jump_at v) (sym (filled_reads p v.block s.jump_at v.item.fix v.item.instr).1.1 ∙ (ap is_jump (same_instr (text p) s.jump_at (filled p v.block s.jump_at v.item.fix v.item.instr) s.instr (at_item p l s.jump_at v) s.at) ∙ s.jumps))
  where
    by : (v : ItemWord p s.jump_at) (more : List Item) → v.more ≡ more → Before p v.done v.item v.more → is_jump v.item.instr ≡ true → SlotOf p a
    by v (i ∷ more) e f j = record { at = s.jump_at; word = v; item = i; more = more; split = e; behind = s.behind; jumps = j }
    by v [] e f j = absurd (elim (subst (λ (z : List Item). Lines p f.slot (v.item ∷ z)) e f.lines) as (λ z. ⊥) [ inl z ↦ no_true (sym j ∙ ap is_jump z.1.nop) | inr z ↦ no_true (sym j ∙ ap is_jump z.stop) ])

pub slot_in_text : (p : HardProgram) (l : Layable p) (a : ℕ) → IsSlot (text p) a → InText (text p) a
slot_in_text p l a s =
    let q : SlotOf p a = slot_inside p l a s in
    subst (λ (z : ℕ). InText (text p) z) (sym q.behind) (item_in_text p l (q.at + 4) (next_item p q.at q.word q.item q.more q.split))

pub slot_no_start : (p : HardProgram) (l : Layable p) (n : Entered p) (a : ℕ) → IsSlot (text p) a → IsStart (text p) 0x00400000 a → ⊥
slot_no_start p l n a s t =
    let q : SlotOf p a = slot_inside p l a s in
    let b : IsBlock p a = start_block p l n a t in
    no_block_inside p l q.word.block b.0 a q.word.there b.1 (lo (address p q.word.block) (length q.word.done) q.at a q.word.at q.behind) (hi q.at (length q.word.more) a (address p (q.word.block + 1)) (word_end p q.at q.word) (some q.word.more q.item q.more q.split) q.behind) b.2
  where
    lo : (b d j a : ℕ) → j ≡ b + 4 * d → a ≡ j + 4 → b < a
    lo b d j a e f = omega arith

    hi : (j m a e : ℕ) → j + 4 * suc m ≡ e → 1 ≤ m → a ≡ j + 4 → a < e
    hi j m a e f g h = omega arith

    some : (xs : List Item) (i : Item) (more : List Item) → xs ≡ i ∷ more → 1 ≤ length xs
    some xs i more e = subst (λ (z : List Item). 1 ≤ length z) (sym e) (least (length more))
      where
        least : (n : ℕ) → 1 ≤ suc n
        least n = omega arith
