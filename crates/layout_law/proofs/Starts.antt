-- What stands at each address of the text, by its item; the starts of the words are the addresses of the blocks.
use Rattle.std.proofs.Common.{◌≡◌, ◌≤◌, ◌<◌, ℕ, suc, ◌+◌, ◌*◌, ◌/◌, ◌%◌, ◌^◌, arith, ap, refl, sym, ◌∙◌, subst, List, [], ◌∷◌, length, length-append, true, false, inl, inr}
use Rattle.std.specs.Prelude.{Some}
use Rattle.hard_words.specs.Words.{extended}
use Rattle.mips_isa.specs.declared.instr.Instr.{Instr}
use Rattle.mips_isa.specs.declared.instr.Instr.TheVariants.{J, Jal, Jr, Beq, Bne, Break, Lui, Ori}
use Rattle.mips_isa.specs.Machine.{plus, is_jump}
use Rattle.mips_text.specs.Text.{At, IsBranch, BranchAt, SkipsBreak, branch_goal, jump_goal}
use Rattle.mips_text.specs.Blocks.{ForkAt, IsStart, begins, jumped, called, returned, taken, passed}
use Rattle.hard_items.specs.declared.code.Fix.{Fix}
use Rattle.hard_items.specs.declared.code.Fix.TheVariants.{Plain, Block, Function, ReturnHigh, ReturnLow}
use Rattle.hard_items.specs.declared.code.Item.{Item}
use Rattle.hard_items.specs.declared.code.HardProgram.{HardProgram}
use Rattle.hard_items.specs.Run.{items_of, named}
use Rattle.hard_items.specs.Ways.{CallsFunction}
use Rattle.layout_law.specs.Layout.{address, offset, Reaches, filled, text}
use Rattle.layout_law.specs.Level.{LastSlot, SkippedSlot, IsStop, FieldReaches, Layable, Entered}
use Rattle.layout_law.proofs.Texts.{address_next}
use Rattle.layout_law.proofs.Fields.{in_words, inside, not_above, way, goes}
use Rattle.layout_law.proofs.Step.{in_words_more}
use Rattle.layout_law.proofs.Views as view
use Rattle.layout_law.proofs.Views.{ItemWord, item_word, at_item, in_text, view_here, View, reach_at, next_item, held_item, word_held}

no_true : true ≡ false → ⊥
no_true e = cc

-- ---- what stands at an item

abbrev pub BranchStands : List ℕ → (a x y imm : ℕ) → Type 0
BranchStands t a x y imm = (i : Instr) × (At t a i × IsBranch i x y imm)

pub data Sort (p : HardProgram) (a : ℕ) (w : ItemWord p a) : Type 0 where
  jumps : (t target : ℕ) → w.item.fix ≡ Block t → w.item.instr ≡ J target → t < length p.blocks → LastSlot w.more → At (text p) a (J (address p t / 4)) → Sort p a w
  calls : (c target : ℕ) → w.item.fix ≡ Function c → w.item.instr ≡ Jal target → named p (Function c) < length p.blocks → LastSlot w.more → At (text p) a (Jal (address p (named p (Function c)) / 4)) → Sort p a w
  returns : (rs : ℕ) → w.item.fix ≡ Plain → w.item.instr ≡ Jr rs → LastSlot w.more → At (text p) a (Jr rs) → Sort p a w
  skips : (rs rt : ℕ) → w.item.fix ≡ Plain → IsBranch w.item.instr rs rt 2 → SkippedSlot w.more → At (text p) a w.item.instr → Sort p a w
  branches : (t rs rt imm : ℕ) → w.item.fix ≡ Block t → IsBranch w.item.instr rs rt imm → t < length p.blocks → LastSlot w.more → BranchStands (text p) a rs rt (offset (a + 4) (address p t)) → Sort p a w
  stays : w.item.fix ≡ Plain → is_jump w.item.instr ≡ false → At (text p) a w.item.instr → Sort p a w
  high : w.item.fix ≡ ReturnHigh → w.item.instr ≡ Lui 25 0 → At (text p) a (Lui 25 (address p (w.block + 1) / 2 ^ 16)) → Sort p a w
  low : w.item.fix ≡ ReturnLow → w.item.instr ≡ Ori 25 25 0 → At (text p) a (Ori 25 25 (address p (w.block + 1) % 2 ^ 16)) → Sort p a w

pub filled_as : (p : HardProgram) (b a : ℕ) (f g : Fix) (x y : Instr) → f ≡ g → x ≡ y → filled p b a f x ≡ filled p b a g y
filled_as p b a f g x y e h = ap (λ (z : Fix). filled p b a z x) e ∙ ap (λ (z : Instr). filled p b a g z) h

sort_by : (p : HardProgram) (a : ℕ) (w : ItemWord p a) → At (text p) a (filled p w.block a w.item.fix w.item.instr) → View p w.item.fix w.item.instr w.more → Sort p a w
sort_by p a w h (view.jumps t tg f x k n) = jumps t tg f x k n (h ∙ ap Some (filled_as p w.block a w.item.fix (Block t) w.item.instr (J tg) f x))
sort_by p a w h (view.calls c tg f x k n) = calls c tg f x k n (h ∙ ap Some (filled_as p w.block a w.item.fix (Function c) w.item.instr (Jal tg) f x))
sort_by p a w h (view.returns rs f x n) = returns rs f x n (h ∙ ap Some (filled_as p w.block a w.item.fix Plain w.item.instr (Jr rs) f x))
sort_by p a w h (view.skips rs rt f x n) = skips rs rt f x n (h ∙ ap Some (filled_as p w.block a w.item.fix Plain w.item.instr w.item.instr f refl))
sort_by p a w h (view.branches t rs rt imm f (inl x) k n) = branches t rs rt imm f (inl x) k n (Beq rs rt (offset (a + 4) (address p t)), (h ∙ ap Some (filled_as p w.block a w.item.fix (Block t) w.item.instr (Beq rs rt imm) f x), inl refl))
sort_by p a w h (view.branches t rs rt imm f (inr x) k n) = branches t rs rt imm f (inr x) k n (Bne rs rt (offset (a + 4) (address p t)), (h ∙ ap Some (filled_as p w.block a w.item.fix (Block t) w.item.instr (Bne rs rt imm) f x), inr refl))
sort_by p a w h (view.stays f x) = stays f x (h ∙ ap Some (filled_as p w.block a w.item.fix Plain w.item.instr w.item.instr f refl))
sort_by p a w h (view.high f x) = high f x (h ∙ ap Some (filled_as p w.block a w.item.fix ReturnHigh w.item.instr (Lui 25 0) f x))
sort_by p a w h (view.low f x) = low f x (h ∙ ap Some (filled_as p w.block a w.item.fix ReturnLow w.item.instr (Ori 25 25 0) f x))

pub sort : (p : HardProgram) (l : Layable p) (a : ℕ) (w : ItemWord p a) → Sort p a w
sort p l a w = sort_by p a w (at_item p l a w) (view_here p l a w)

-- One address has one instruction.
pub same_instr : (t : List ℕ) (a : ℕ) (x y : Instr) → At t a x → At t a y → x ≡ y
same_instr t a x y h k = inj (sym h ∙ k)
  where
    inj : Some x ≡ Some y → x ≡ y
    inj e = cc

-- The item of an instruction.
pub word_of : (p : HardProgram) (a : ℕ) (i : Instr) → At (text p) a i → ItemWord p a
word_of p a i h = item_word p a (in_text (text p) a i h)

-- ---- where a word is

pub word_end : (p : HardProgram) (a : ℕ) (w : ItemWord p a) → a + 4 * suc (length w.more) ≡ address p (w.block + 1)
word_end p a w = sum a (address p w.block) (length w.done) (length w.more) (length (items_of p w.block)) (address p (w.block + 1)) w.at (ap length w.split ∙ length-append w.done (w.item ∷ w.more)) (address_next p w.block w.there)
  where
    sum : (a b d m n e : ℕ) → a ≡ b + 4 * d → n ≡ d + suc m → e ≡ b + 4 * n → a + 4 * suc m ≡ e
    sum a b d m n e f g h = omega arith

pub word_bound : (p : HardProgram) (l : Layable p) (a : ℕ) (w : ItemWord p a) → a + 4 * suc (length w.more) ≤ 2 ^ 28
word_bound p l a w = subst (λ (z : ℕ). z ≤ 2 ^ 28) (sym (word_end p a w)) (not_above p (w.block + 1) l.size)

last_one : (more : List Item) → LastSlot more → length more ≡ 1
last_one [] h = absurd h
last_one (i ∷ []) h = refl
last_one (i ∷ j ∷ more) h = absurd h

-- Behind a delay slot that ends its block stands the next block.
pub behind_slot : (p : HardProgram) (a : ℕ) (w : ItemWord p a) → LastSlot w.more → a + 8 ≡ address p (w.block + 1)
behind_slot p a w n = sum a (length w.more) (last_one w.more n) ∙ word_end p a w
  where
    sum : (a n : ℕ) → n ≡ 1 → a + 8 ≡ a + 4 * suc n
    sum a n e = omega arith

pub jump_lands : (p : HardProgram) (l : Layable p) (a : ℕ) (w : ItemWord p a) (t : ℕ) → LastSlot w.more → t < length p.blocks → jump_goal a (address p t / 4) ≡ address p t
jump_lands p l a w t n h = sum a (address p t) (in_words p t).words (in_words p t).is (inside p t l h) (less a (length w.more) (last_one w.more n) (word_bound p l a w))
  where
    less : (pc n : ℕ) → n ≡ 1 → pc + 4 * suc n ≤ 2 ^ 28 → pc + 4 < 2 ^ 28
    less pc n e h = omega arith

    sum : (pc a n : ℕ) → a ≡ 0x00400000 + 4 * n → a < 2 ^ 28 → pc + 4 < 2 ^ 28 → (pc + 4) % 2 ^ 32 / 2 ^ 28 * 2 ^ 28 + a / 4 * 4 ≡ a
    sum pc a n e h k = omega arith

field_reaches : (p : HardProgram) (a t rs rt imm : ℕ) (f : Fix) (x : Instr) → f ≡ Block t → IsBranch x rs rt imm → FieldReaches p a f x → Reaches (a + 4) (address p t)
field_reaches p a t rs rt imm f x e (inl h) r = subst (λ (z : Instr). FieldReaches p a (Block t) z) h (subst (λ (z : Fix). FieldReaches p a z x) e r)
field_reaches p a t rs rt imm f x e (inr h) r = subst (λ (z : Instr). FieldReaches p a (Block t) z) h (subst (λ (z : Fix). FieldReaches p a z x) e r)

pub branch_lands : (p : HardProgram) (l : Layable p) (a : ℕ) (w : ItemWord p a) (t rs rt imm : ℕ) → w.item.fix ≡ Block t → IsBranch w.item.instr rs rt imm → LastSlot w.more → t < length p.blocks → branch_goal a (offset (a + 4) (address p t)) ≡ address p t
branch_lands p l a w t rs rt imm f x n h =
    let r : Reaches (a + 4) (address p t) = field_reaches p a t rs rt imm w.item.fix w.item.instr f x (reach_at p l a w) in
    let c : a + 4 * suc (length w.more) ≤ 2 ^ 28 = word_bound p l a w in
    ap (λ (z : ℕ). plus z ((extended (offset (a + 4) (address p t)) * 4) % 2 ^ 32)) (small a (length w.more) c) ∙
    goes (a + 4) (address p t) (way (a + 4) (address p t) (in_words_more p w.block (length w.done) a w.at) (in_words p t) r) (less a (length w.more) c) (more_below (address p t) (inside p t l h))
  where
    small : (pc n : ℕ) → pc + 4 * suc n ≤ 2 ^ 28 → (pc + 4) % 2 ^ 32 ≡ pc + 4
    small pc n c = omega arith

    less : (pc n : ℕ) → pc + 4 * suc n ≤ 2 ^ 28 → pc + 4 < 2 ^ 32
    less pc n c = omega arith

    more_below : (a : ℕ) → a < 2 ^ 28 → a < 2 ^ 32
    more_below a h = omega arith

-- A branch that skips a break, in the words.
pub skips_there : (p : HardProgram) (l : Layable p) (a : ℕ) (w : ItemWord p a) (rs rt : ℕ) → IsBranch w.item.instr rs rt 2 → SkippedSlot w.more → At (text p) a w.item.instr → (code : ℕ) × SkipsBreak (text p) a code
skips_there p l a w rs rt x n h = by w.more refl n
  where
    stop_at : (j : Item) (v : ItemWord p (a + 4 + 4)) → v.item ≡ j → IsStop j → (code : ℕ) × At (text p) (a + 8) (Break code)
    stop_at j v e s = (s.code, subst (λ (z : ℕ). At (text p) z (Break s.code)) (eight a) (at_item p l (a + 4 + 4) v ∙ ap Some (filled_as p v.block (a + 4 + 4) v.item.fix Plain v.item.instr (Break s.code) (ap (λ (z : Item). z.fix) e ∙ s.no_field) (ap (λ (z : Item). z.instr) e ∙ s.stop))))
      where
        eight : (a : ℕ) → a + 4 + 4 ≡ a + 8
        eight a = omega arith

    by : (more : List Item) → w.more ≡ more → SkippedSlot more → (code : ℕ) × SkipsBreak (text p) a code
    by [] e s = absurd s
    by (i ∷ []) e s = absurd s
    by (i ∷ j ∷ []) e s = absurd s
    by (i ∷ j ∷ k ∷ more) e s =
        let v : ItemWord p (a + 4) = next_item p a w i (j ∷ k ∷ more) e in
        let u : ItemWord p (a + 4 + 4) = next_item p (a + 4) v j (k ∷ more) refl in
        let q : (code : ℕ) × At (text p) (a + 8) (Break code) = stop_at j u refl s.1.1 in
        (q.0, record { x = rs; y = rt; branch = record { instr = w.item.instr; at = h; is = x }; stop = q.1 })

-- ---- the instructions told apart

not_jump : (x y : Instr) → x ≡ y → is_jump x ≡ true → is_jump y ≡ false → ⊥
not_jump x y e h k = no_true (sym h ∙ (ap is_jump e ∙ k))

branch_jumps : (i : Instr) (x y imm : ℕ) → IsBranch i x y imm → is_jump i ≡ true
branch_jumps i x y imm (inl e) = ap is_jump e
branch_jumps i x y imm (inr e) = ap is_jump e

-- ---- starts are blocks

abbrev pub IsBlock : HardProgram → ℕ → Type 0
IsBlock p w = (b : ℕ) × (b < length p.blocks) × (w ≡ address p b)

-- A j: its block.
pub record JumpStands (p : HardProgram) (a tg : ℕ) (w : ItemWord p a) : Type 0 where
  pub to : ℕ
  pub old : ℕ
  pub names : w.item.fix ≡ Block to
  pub is : w.item.instr ≡ J old
  pub there : to < length p.blocks
  pub goal : jump_goal a tg ≡ address p to
  pub last : LastSlot w.more

pub jump_start : (p : HardProgram) (l : Layable p) (a tg : ℕ) (w : ItemWord p a) → At (text p) a (J tg) → Sort p a w → JumpStands p a tg w
jump_start p l a tg w h (jumps t target f x k n g) = record { to = t; old = target; names = f; is = x; there = k; goal = ap (jump_goal a) (inj (same_instr (text p) a (J tg) (J (address p t / 4)) h g)) ∙ jump_lands p l a w t n k; last = n }
  where
    inj : J tg ≡ J (address p t / 4) → tg ≡ address p t / 4
    inj e = cc
jump_start p l a tg w h (calls c target f x k n g) = absurd (no (same_instr (text p) a (J tg) (Jal (address p (named p (Function c)) / 4)) h g))
  where
    no : J tg ≡ Jal (address p (named p (Function c)) / 4) → ⊥
    no e = cc
jump_start p l a tg w h (returns rs f x n g) = absurd (no (same_instr (text p) a (J tg) (Jr rs) h g))
  where
    no : J tg ≡ Jr rs → ⊥
    no e = cc
jump_start p l a tg w h (skips rs rt f (inl x) n g) = absurd (no (same_instr (text p) a (J tg) w.item.instr h g ∙ x))
  where
    no : J tg ≡ Beq rs rt 2 → ⊥
    no e = cc
jump_start p l a tg w h (skips rs rt f (inr x) n g) = absurd (no (same_instr (text p) a (J tg) w.item.instr h g ∙ x))
  where
    no : J tg ≡ Bne rs rt 2 → ⊥
    no e = cc
jump_start p l a tg w h (branches t rs rt imm f x k n g) = absurd (elim g.1.1 as (λ z. ⊥) [ inl y ↦ no (same_instr (text p) a (J tg) g.0 h g.1.0 ∙ y) | inr y ↦ nay (same_instr (text p) a (J tg) g.0 h g.1.0 ∙ y) ])
  where
    no : J tg ≡ Beq rs rt (offset (a + 4) (address p t)) → ⊥
    no e = cc

    nay : J tg ≡ Bne rs rt (offset (a + 4) (address p t)) → ⊥
    nay e = cc
jump_start p l a tg w h (stays f x g) = absurd (not_jump (J tg) w.item.instr (same_instr (text p) a (J tg) w.item.instr h g) refl x)
jump_start p l a tg w h (high f x g) = absurd (not_jump (J tg) (Lui 25 (address p (w.block + 1) / 2 ^ 16)) (same_instr (text p) a (J tg) (Lui 25 (address p (w.block + 1) / 2 ^ 16)) h g) refl refl)
jump_start p l a tg w h (low f x g) = absurd (not_jump (J tg) (Ori 25 25 (address p (w.block + 1) % 2 ^ 16)) (same_instr (text p) a (J tg) (Ori 25 25 (address p (w.block + 1) % 2 ^ 16)) h g) refl refl)

-- A jal: its function, and the block behind it.
pub record CallStands (p : HardProgram) (a tg : ℕ) (w : ItemWord p a) : Type 0 where
  pub function : ℕ
  pub calls : CallsFunction p w.block function
  pub there : named p (Function function) < length p.blocks
  pub goal : jump_goal a tg ≡ address p (named p (Function function))
  pub back : a + 8 ≡ address p (w.block + 1)
  pub last : LastSlot w.more

pub call_stands : (p : HardProgram) (l : Layable p) (a tg : ℕ) (w : ItemWord p a) → At (text p) a (Jal tg) → Sort p a w → CallStands p a tg w
call_stands p l a tg w h (calls c target f x k n g) = record {
  function = c;
  calls = record { item = w.item; target = target; holds = held_item p a w; jumps = x; names = f };
  there = k;
  goal = ap (jump_goal a) (inj (same_instr (text p) a (Jal tg) (Jal (address p (named p (Function c)) / 4)) h g)) ∙ jump_lands p l a w (named p (Function c)) n k;
  back = behind_slot p a w n;
  last = n;
}
  where
    inj : Jal tg ≡ Jal (address p (named p (Function c)) / 4) → tg ≡ address p (named p (Function c)) / 4
    inj e = cc
call_stands p l a tg w h (jumps t target f x k n g) = absurd (no (same_instr (text p) a (Jal tg) (J (address p t / 4)) h g))
  where
    no : Jal tg ≡ J (address p t / 4) → ⊥
    no e = cc
call_stands p l a tg w h (returns rs f x n g) = absurd (no (same_instr (text p) a (Jal tg) (Jr rs) h g))
  where
    no : Jal tg ≡ Jr rs → ⊥
    no e = cc
call_stands p l a tg w h (skips rs rt f (inl x) n g) = absurd (no (same_instr (text p) a (Jal tg) w.item.instr h g ∙ x))
  where
    no : Jal tg ≡ Beq rs rt 2 → ⊥
    no e = cc
call_stands p l a tg w h (skips rs rt f (inr x) n g) = absurd (no (same_instr (text p) a (Jal tg) w.item.instr h g ∙ x))
  where
    no : Jal tg ≡ Bne rs rt 2 → ⊥
    no e = cc
call_stands p l a tg w h (branches t rs rt imm f x k n g) = absurd (elim g.1.1 as (λ z. ⊥) [ inl y ↦ no (same_instr (text p) a (Jal tg) g.0 h g.1.0 ∙ y) | inr y ↦ nay (same_instr (text p) a (Jal tg) g.0 h g.1.0 ∙ y) ])
  where
    no : Jal tg ≡ Beq rs rt (offset (a + 4) (address p t)) → ⊥
    no e = cc

    nay : Jal tg ≡ Bne rs rt (offset (a + 4) (address p t)) → ⊥
    nay e = cc
call_stands p l a tg w h (stays f x g) = absurd (not_jump (Jal tg) w.item.instr (same_instr (text p) a (Jal tg) w.item.instr h g) refl x)
call_stands p l a tg w h (high f x g) = absurd (not_jump (Jal tg) (Lui 25 (address p (w.block + 1) / 2 ^ 16)) (same_instr (text p) a (Jal tg) (Lui 25 (address p (w.block + 1) / 2 ^ 16)) h g) refl refl)
call_stands p l a tg w h (low f x g) = absurd (not_jump (Jal tg) (Ori 25 25 (address p (w.block + 1) % 2 ^ 16)) (same_instr (text p) a (Jal tg) (Ori 25 25 (address p (w.block + 1) % 2 ^ 16)) h g) refl refl)

-- A branch that skips no break: its block, and the block behind it.
pub record ForkStands (p : HardProgram) (a imm : ℕ) (w : ItemWord p a) : Type 0 where
  pub to : ℕ
  pub rs : ℕ
  pub rt : ℕ
  pub old : ℕ
  pub names : w.item.fix ≡ Block to
  pub is : IsBranch w.item.instr rs rt old
  pub there : to < length p.blocks
  pub goal : branch_goal a imm ≡ address p to
  pub back : a + 8 ≡ address p (w.block + 1)
  pub last : LastSlot w.more

-- A branch skips a break, or goes to a block.
pub data BranchSort (p : HardProgram) (a imm : ℕ) (w : ItemWord p a) : Type 0 where
  skip : (rs rt : ℕ) → IsBranch w.item.instr rs rt 2 → imm ≡ 2 → SkippedSlot w.more → At (text p) a w.item.instr → BranchSort p a imm w
  fork : ForkStands p a imm w → BranchSort p a imm w

eq_imm : (x y imm r s m : ℕ) → Beq x y imm ≡ Beq r s m → imm ≡ m
eq_imm x y imm r s m e = cc

ne_imm : (x y imm r s m : ℕ) → Bne x y imm ≡ Bne r s m → imm ≡ m
ne_imm x y imm r s m e = cc

eq_ne : (x y imm r s m : ℕ) → Beq x y imm ≡ Bne r s m → ⊥
eq_ne x y imm r s m e = cc

imm_same : (i j : Instr) (x y imm r s m : ℕ) → i ≡ j → IsBranch i x y imm → IsBranch j r s m → imm ≡ m
imm_same i j x y imm r s m e (inl f) (inl g) = eq_imm x y imm r s m (sym f ∙ (e ∙ g))
imm_same i j x y imm r s m e (inl f) (inr g) = absurd (eq_ne x y imm r s m (sym f ∙ (e ∙ g)))
imm_same i j x y imm r s m e (inr f) (inl g) = absurd (eq_ne r s m x y imm (sym g ∙ (sym e ∙ f)))
imm_same i j x y imm r s m e (inr f) (inr g) = ne_imm x y imm r s m (sym f ∙ (e ∙ g))

branch_is_no : (i j : Instr) (x y imm : ℕ) → IsBranch i x y imm → i ≡ j → (j ≡ Beq x y imm → ⊥) → (j ≡ Bne x y imm → ⊥) → ⊥
branch_is_no i j x y imm (inl e) h f g = f (sym h ∙ e)
branch_is_no i j x y imm (inr e) h f g = g (sym h ∙ e)

pub branch_stands : (p : HardProgram) (l : Layable p) (a x y imm : ℕ) (w : ItemWord p a) → BranchAt (text p) a x y imm → Sort p a w → BranchSort p a imm w
branch_stands p l a x0 y0 imm w h (branches t rs rt old f x k n g) = fork (record {
  to = t;
  rs = rs;
  rt = rt;
  old = old;
  names = f;
  is = x;
  there = k;
  goal = ap (branch_goal a) (imm_same h.instr g.0 x0 y0 imm rs rt (offset (a + 4) (address p t)) (same_instr (text p) a h.instr g.0 h.at g.1.0) h.is g.1.1) ∙ branch_lands p l a w t rs rt old f x n k;
  back = behind_slot p a w n;
  last = n;
})
branch_stands p l a x0 y0 imm w h (skips rs rt f x n g) = skip rs rt x (imm_same h.instr w.item.instr x0 y0 imm rs rt 2 (same_instr (text p) a h.instr w.item.instr h.at g) h.is x) n g
branch_stands p l a x0 y0 imm w h (jumps t target f x k n g) = absurd (branch_is_no h.instr (J (address p t / 4)) x0 y0 imm h.is (same_instr (text p) a h.instr (J (address p t / 4)) h.at g) no nay)
  where
    no : J (address p t / 4) ≡ Beq x0 y0 imm → ⊥
    no e = cc

    nay : J (address p t / 4) ≡ Bne x0 y0 imm → ⊥
    nay e = cc
branch_stands p l a x0 y0 imm w h (calls c target f x k n g) = absurd (branch_is_no h.instr (Jal (address p (named p (Function c)) / 4)) x0 y0 imm h.is (same_instr (text p) a h.instr (Jal (address p (named p (Function c)) / 4)) h.at g) no nay)
  where
    no : Jal (address p (named p (Function c)) / 4) ≡ Beq x0 y0 imm → ⊥
    no e = cc

    nay : Jal (address p (named p (Function c)) / 4) ≡ Bne x0 y0 imm → ⊥
    nay e = cc
branch_stands p l a x0 y0 imm w h (returns rs f x n g) = absurd (branch_is_no h.instr (Jr rs) x0 y0 imm h.is (same_instr (text p) a h.instr (Jr rs) h.at g) no nay)
  where
    no : Jr rs ≡ Beq x0 y0 imm → ⊥
    no e = cc

    nay : Jr rs ≡ Bne x0 y0 imm → ⊥
    nay e = cc
branch_stands p l a x0 y0 imm w h (stays f x g) = absurd (not_jump h.instr w.item.instr (same_instr (text p) a h.instr w.item.instr h.at g) (branch_jumps h.instr x0 y0 imm h.is) x)
branch_stands p l a x0 y0 imm w h (high f x g) = absurd (not_jump h.instr (Lui 25 (address p (w.block + 1) / 2 ^ 16)) (same_instr (text p) a h.instr (Lui 25 (address p (w.block + 1) / 2 ^ 16)) h.at g) (branch_jumps h.instr x0 y0 imm h.is) refl)
branch_stands p l a x0 y0 imm w h (low f x g) = absurd (not_jump h.instr (Ori 25 25 (address p (w.block + 1) % 2 ^ 16)) (same_instr (text p) a h.instr (Ori 25 25 (address p (w.block + 1) % 2 ^ 16)) h.at g) (branch_jumps h.instr x0 y0 imm h.is) refl)

pub fork_stands : (p : HardProgram) (l : Layable p) (a imm : ℕ) (w : ItemWord p a) → ForkAt (text p) a imm → Sort p a w → ForkStands p a imm w
fork_stands p l a imm w h q = elim (branch_stands p l a h.x h.y imm w h.branch q) as (λ z. ForkStands p a imm w) [
  | skip rs rt x e n g ↦ let c : (code : ℕ) × SkipsBreak (text p) a code = skips_there p l a w rs rt x n g in absurd (h.skips_none c.0 c.1)
  | fork f ↦ f
]

pub start_block : (p : HardProgram) (l : Layable p) (n : Entered p) (w : ℕ) → IsStart (text p) 0x00400000 w → IsBlock p w
start_block p l n w (begins e) = (0, n.some, e)
start_block p l n w (jumped a tg h e) =
    let v : ItemWord p a = word_of p a (J tg) h in
    let c : JumpStands p a tg v = jump_start p l a tg v h (sort p l a v) in (c.to, c.there, e ∙ c.goal)
start_block p l n w (called a tg h e) =
    let v : ItemWord p a = word_of p a (Jal tg) h in
    let c : CallStands p a tg v = call_stands p l a tg v h (sort p l a v) in (named p (Function c.function), c.there, e ∙ c.goal)
start_block p l n w (returned a tg h e) =
    let v : ItemWord p a = word_of p a (Jal tg) h in
    let c : CallStands p a tg v = call_stands p l a tg v h (sort p l a v) in (v.block + 1, n.calls_go_on v.block c.function c.calls, e ∙ c.back)
start_block p l n w (taken a imm h e) =
    let v : ItemWord p a = word_of p a h.branch.instr h.branch.at in
    let c : ForkStands p a imm v = fork_stands p l a imm v h (sort p l a v) in (c.to, c.there, e ∙ c.goal)
start_block p l n w (passed a imm h e) =
    let v : ItemWord p a = word_of p a h.branch.instr h.branch.at in
    let c : ForkStands p a imm v = fork_stands p l a imm v h (sort p l a v) in (v.block + 1, n.branches_go_on v.block c.to c.rs c.rt c.old v.item (held_item p a v) c.names c.is, e ∙ c.back)
