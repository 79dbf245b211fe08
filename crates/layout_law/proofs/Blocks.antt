-- The address of each block is a start.
use Rattle.std.proofs.Common.{◌≡◌, ◌≤◌, ◌<◌, ℕ, zero, suc, ◌+◌, ◌*◌, ◌/◌, ◌%◌, ◌^◌, arith, ap, refl, sym, ◌∙◌, subst, List, [], ◌∷◌, length, inl, inr}
use Rattle.std.specs.Prelude.{Some, slice_get, ◌⊎◌, Contains}
use Rattle.std.proofs.lemmas.Option.{get_or_from_slice_get}
use Rattle.mips_isa.specs.declared.instr.Instr.{Instr}
use Rattle.mips_isa.specs.declared.instr.Instr.TheVariants.{J, Jal, Beq, Bne}
use Rattle.mips_text.specs.Text.{At, IsBranch, branch_goal, jump_goal}
use Rattle.mips_text.specs.Blocks.{ForkAt, IsStart, begins, jumped, called, returned, taken, passed}
use Rattle.hard_items.specs.declared.code.Fix.{Fix}
use Rattle.hard_items.specs.declared.code.Fix.TheVariants.{Block, Function}
use Rattle.hard_items.specs.declared.code.Item.{Item}
use Rattle.hard_items.specs.declared.code.HardBlock.{HardBlock}
use Rattle.hard_items.specs.declared.code.HardProgram.{HardProgram}
use Rattle.hard_items.specs.Run.{items_of, block_items, named}
use Rattle.hard_items.specs.Ways as ways
use Rattle.hard_items.specs.Ways.{Holds, CallsFunction, MayFollow}
use Rattle.layout_law.specs.Layout.{address, offset, filled, text}
use Rattle.layout_law.specs.Level.{ItemFits, LastSlot, Layable, Entered, LaidStarts}
use Rattle.layout_law.proofs.Texts.{address_next}
use Rattle.layout_law.proofs.Step.{grows}
use Rattle.layout_law.proofs.Views.{ItemWord, at_item, fits_here, word_held}
use Rattle.layout_law.proofs.Starts.{start_block, same_instr, word_bound, jump_lands, branch_lands, behind_slot, filled_as}

-- ---- the order of addresses

-- A block is below, is, or is above another.
pub data Order (b c : ℕ) : Type 0 where
  below : (n : ℕ) → c ≡ b + suc n → Order b c
  same : b ≡ c → Order b c
  above : (n : ℕ) → b ≡ c + suc n → Order b c

pub order : (b c : ℕ) → Order b c
order zero zero = same refl
order zero (suc c) = below c (up c)
  where
    up : (c : ℕ) → suc c ≡ 0 + suc c
    up c = omega arith
order (suc b) zero = above b (up b)
  where
    up : (c : ℕ) → suc c ≡ 0 + suc c
    up c = omega arith
order (suc b) (suc c) = elim (order b c) as (λ z. Order (suc b) (suc c)) [
  | below n e ↦ below n (shift b c n e)
  | same e ↦ same (ap suc e)
  | above n e ↦ above n (shift c b n e)
]
  where
    shift : (b c n : ℕ) → c ≡ b + suc n → suc c ≡ suc b + suc n
    shift b c n e = omega arith

-- No block starts inside another.
pub no_block_inside : (p : HardProgram) → Layable p → (b c a : ℕ) → b < length p.blocks → c < length p.blocks → address p b < a → a < address p (b + 1) → a ≡ address p c → ⊥
no_block_inside p l b c a hb hc lo hi e = by (order b c)
  where
    ne : (x y : ℕ) → x < y → y ≤ x → ⊥
    ne x y h e = omega arith

    by_next : (n : ℕ) → c ≡ b + suc n → address p (b + 1) ≤ address p c
    by_next zero q = same (address p (b + 1)) (address p c) (ap (address p) (one b c q))
      where
        one : (b c : ℕ) → c ≡ b + suc 0 → b + 1 ≡ c
        one b c q = omega arith

        same : (x y : ℕ) → x ≡ y → x ≤ y
        same x y e = omega arith
    by_next (suc n) q = less (address p (b + 1)) (address p c) (subst (λ (z : ℕ). address p (b + 1) < address p z) (sym (two b c n q)) (grows p l (b + 1) n (bound b c n (length p.blocks) q hc)))
      where
        two : (b c n : ℕ) → c ≡ b + suc (suc n) → c ≡ b + 1 + suc n
        two b c n q = omega arith

        bound : (b c n m : ℕ) → c ≡ b + suc (suc n) → c < m → b + 1 + suc n ≤ m
        bound b c n m q h = omega arith

        less : (x y : ℕ) → x < y → x ≤ y
        less x y h = omega arith

    late : (n : ℕ) → c ≡ b + suc n → ⊥
    late n q = ne a (address p (b + 1)) hi (subst (λ (z : ℕ). address p (b + 1) ≤ z) (sym e) (by_next n q))

    by : Order b c → ⊥
    by (below n q) = late n q
    by (same q) = ne (address p b) a lo (same_le a (address p b) (e ∙ ap (address p) (sym q)))
      where
        same_le : (x y : ℕ) → x ≡ y → x ≤ y
        same_le x y e = omega arith
    by (above n q) = ne (address p c) a (more (address p c) (address p b) a (subst (λ (z : ℕ). address p c < address p z) (sym q) (grows p l c n (bound b c n (length p.blocks) q hb))) lo) (same_le a (address p c) e)
      where
        same_le : (x y : ℕ) → x ≡ y → x ≤ y
        same_le x y e = omega arith

        more : (x y z : ℕ) → x < y → y < z → x < z
        more x y z h k = omega arith

        bound : (b c n m : ℕ) → b ≡ c + suc n → b < m → c + suc n ≤ m
        bound b c n m q h = omega arith

-- ---- blocks are starts

pub items_there : (ks : List HardBlock) (b : ℕ) (i : Item) → Contains (block_items (slice_get ks b)) i → b < length ks
items_there [] b i c = absurd (no c.0 c.1)
  where
    no : (k : ℕ) → k < 0 → ⊥
    no k h = omega arith
items_there (k ∷ ks) zero i c = least (length ks)
  where
    least : (n : ℕ) → 0 < suc n
    least n = omega arith
items_there (k ∷ ks) (suc b) i c = up b (length ks) (items_there ks b i c)
  where
    up : (k n : ℕ) → k < n → suc k < suc n
    up k n h = omega arith

-- An item that its block holds, where it stands.
pub record Found (p : HardProgram) (b : ℕ) (i : Item) : Type 0 where
  pub at : ℕ
  pub word : ItemWord p at
  pub block : word.block ≡ b
  pub item : word.item ≡ i

pub found : (p : HardProgram) (b : ℕ) (i : Item) → Holds p b i → Found p b i
found p b i h =
    let w : (a : ℕ) × ((w : ItemWord p a) × ((w.block ≡ b) × (w.item ≡ i))) = word_held p b i (items_there p.blocks b i h) h in
    record { at = w.0; word = w.1.0; block = w.1.1.0; item = w.1.1.1 }

-- What stands there, and what the item fits.
pub stands_as : (p : HardProgram) (l : Layable p) (b : ℕ) (i : Item) (f : Found p b i) (g : Fix) (x : Instr) → i.fix ≡ g → i.instr ≡ x → At (text p) f.at (filled p f.word.block f.at g x) × ItemFits p g x f.word.more
stands_as p l b i f g x e h =
    let fe : f.word.item.fix ≡ g = ap (λ (z : Item). z.fix) f.item ∙ e in
    let he : f.word.item.instr ≡ x = ap (λ (z : Item). z.instr) f.item ∙ h in (
      at_item p l f.at f.word ∙ ap Some (filled_as p f.word.block f.at f.word.item.fix g f.word.item.instr x fe he),
      subst (λ (z : Instr). ItemFits p g z f.word.more) he (subst (λ (z : Fix). ItemFits p z f.word.item.instr f.word.more) fe (fits_here p l f.at f.word)),
    )

-- A branch to a block skips no break: the block behind it has two words at least.
skips_none : (p : HardProgram) (l : Layable p) (n : Entered p) (a t : ℕ) (w : ItemWord p a) → LastSlot w.more → t < length p.blocks → w.block + 1 < length p.blocks → branch_goal a 2 ≡ address p t → ⊥
skips_none p l n a t w s h k e = no_block_inside p l (w.block + 1) t (a + 12) k h (lo a (address p (w.block + 1)) (behind_slot p a w s)) (hi a (address p (w.block + 1)) (address p (w.block + 1 + 1)) (length (items_of p (w.block + 1))) (behind_slot p a w s) (address_next p (w.block + 1) k) (n.two (w.block + 1) k)) (twelve a (word_bound p l a w) ∙ e)
  where
    lo : (a c : ℕ) → a + 8 ≡ c → c < a + 12
    lo a c e = omega arith

    hi : (a c d m : ℕ) → a + 8 ≡ c → d ≡ c + 4 * m → 2 ≤ m → a + 12 < d
    hi a c d m e f h = omega arith

    twelve : (a : ℕ) → a + 4 * suc (length w.more) ≤ 2 ^ 28 → a + 12 ≡ branch_goal a 2
    twelve a h = sum a (length w.more) h
      where
        sum : (a n : ℕ) → a + 4 * suc n ≤ 2 ^ 28 → a + 12 ≡ ((a + 4) % 2 ^ 32 + 8) % 2 ^ 32
        sum a n h = omega arith

branch_imm : (i : Instr) (x y imm rs rt m : ℕ) → i ≡ Beq x y imm → (i ≡ Beq rs rt m) ⊎ (i ≡ Bne rs rt m) → imm ≡ m
branch_imm i x y imm rs rt m e (inl f) = inj (sym e ∙ f)
  where
    inj : Beq x y imm ≡ Beq rs rt m → imm ≡ m
    inj q = cc
branch_imm i x y imm rs rt m e (inr f) = absurd (no (sym e ∙ f))
  where
    no : Beq x y imm ≡ Bne rs rt m → ⊥
    no q = cc

branch_imm_ne : (i : Instr) (x y imm rs rt m : ℕ) → i ≡ Bne x y imm → (i ≡ Beq rs rt m) ⊎ (i ≡ Bne rs rt m) → imm ≡ m
branch_imm_ne i x y imm rs rt m e (inr f) = inj (sym e ∙ f)
  where
    inj : Bne x y imm ≡ Bne rs rt m → imm ≡ m
    inj q = cc
branch_imm_ne i x y imm rs rt m e (inl f) = absurd (no (sym e ∙ f))
  where
    no : Bne x y imm ≡ Beq rs rt m → ⊥
    no q = cc

-- A branch to a block, in the words.
pub record Forks (p : HardProgram) (b t : ℕ) : Type 0 where
  pub at : ℕ
  pub word : ItemWord p at
  pub block : word.block ≡ b
  pub imm : ℕ
  pub fork : ForkAt (text p) at imm
  pub goal : branch_goal at imm ≡ address p t
  pub back : at + 8 ≡ address p (b + 1)

pub forks_eq : (p : HardProgram) (l : Layable p) (n : Entered p) (b t rs rt imm : ℕ) (i : Item) → Holds p b i → i.instr ≡ Beq rs rt imm → i.fix ≡ Block t → Forks p b t
forks_eq p l n b t rs rt imm i h e g =
    let f : Found p b i = found p b i h in
    let s : At (text p) f.at (Beq rs rt (offset (f.at + 4) (address p t))) × ((t < length p.blocks) × LastSlot f.word.more) = stands_as p l b i f (Block t) (Beq rs rt imm) g e in
    let goal : branch_goal f.at (offset (f.at + 4) (address p t)) ≡ address p t = branch_lands p l f.at f.word t rs rt imm (ap (λ (z : Item). z.fix) f.item ∙ g) (inl (ap (λ (z : Item). z.instr) f.item ∙ e)) s.1.1 s.1.0 in
    record {
      at = f.at;
      word = f.word;
      block = f.block;
      imm = offset (f.at + 4) (address p t);
      fork = record {
        x = rs;
        y = rt;
        branch = record { instr = Beq rs rt (offset (f.at + 4) (address p t)); at = s.0; is = inl refl };
        skips_none = λ code k. skips_none p l n f.at t f.word s.1.1 s.1.0 (subst (λ (z : ℕ). z + 1 < length p.blocks) (sym f.block) (n.branches_go_on b t rs rt imm i h g (inl e)))
            (ap (branch_goal f.at) (sym (branch_imm (Beq rs rt (offset (f.at + 4) (address p t))) rs rt (offset (f.at + 4) (address p t)) k.x k.y 2 refl (by k.branch.instr (same_instr (text p) f.at k.branch.instr (Beq rs rt (offset (f.at + 4) (address p t))) k.branch.at s.0) k.x k.y k.branch.is))) ∙ goal);
      };
      goal = goal;
      back = behind_slot p f.at f.word s.1.1 ∙ ap (λ (z : ℕ). address p (z + 1)) f.block;
    }
  where
    by : {y : Instr} (x : Instr) → x ≡ y → (a b : ℕ) → IsBranch x a b 2 → (y ≡ Beq a b 2) ⊎ (y ≡ Bne a b 2)
    by x e a b (inl q) = inl (sym e ∙ q)
    by x e a b (inr q) = inr (sym e ∙ q)

pub forks_ne : (p : HardProgram) (l : Layable p) (n : Entered p) (b t rs rt imm : ℕ) (i : Item) → Holds p b i → i.instr ≡ Bne rs rt imm → i.fix ≡ Block t → Forks p b t
forks_ne p l n b t rs rt imm i h e g =
    let f : Found p b i = found p b i h in
    let s : At (text p) f.at (Bne rs rt (offset (f.at + 4) (address p t))) × ((t < length p.blocks) × LastSlot f.word.more) = stands_as p l b i f (Block t) (Bne rs rt imm) g e in
    let goal : branch_goal f.at (offset (f.at + 4) (address p t)) ≡ address p t = branch_lands p l f.at f.word t rs rt imm (ap (λ (z : Item). z.fix) f.item ∙ g) (inr (ap (λ (z : Item). z.instr) f.item ∙ e)) s.1.1 s.1.0 in
    record {
      at = f.at;
      word = f.word;
      block = f.block;
      imm = offset (f.at + 4) (address p t);
      fork = record {
        x = rs;
        y = rt;
        branch = record { instr = Bne rs rt (offset (f.at + 4) (address p t)); at = s.0; is = inr refl };
        skips_none = λ code k. skips_none p l n f.at t f.word s.1.1 s.1.0 (subst (λ (z : ℕ). z + 1 < length p.blocks) (sym f.block) (n.branches_go_on b t rs rt imm i h g (inr e)))
            (ap (branch_goal f.at) (sym (branch_imm_ne (Bne rs rt (offset (f.at + 4) (address p t))) rs rt (offset (f.at + 4) (address p t)) k.x k.y 2 refl (by k.branch.instr (same_instr (text p) f.at k.branch.instr (Bne rs rt (offset (f.at + 4) (address p t))) k.branch.at s.0) k.x k.y k.branch.is))) ∙ goal);
      };
      goal = goal;
      back = behind_slot p f.at f.word s.1.1 ∙ ap (λ (z : ℕ). address p (z + 1)) f.block;
    }
  where
    by : {y : Instr} (x : Instr) → x ≡ y → (a b : ℕ) → IsBranch x a b 2 → (y ≡ Beq a b 2) ⊎ (y ≡ Bne a b 2)
    by x e a b (inl q) = inl (sym e ∙ q)
    by x e a b (inr q) = inr (sym e ∙ q)

-- A call, in the words.
pub record Calls (p : HardProgram) (b f : ℕ) : Type 0 where
  pub at : ℕ
  pub word : ItemWord p at
  pub block : word.block ≡ b
  pub target : ℕ
  pub stands : At (text p) at (Jal target)
  pub goal : jump_goal at target ≡ address p (named p (Function f))
  pub back : at + 8 ≡ address p (b + 1)

pub calls : (p : HardProgram) (l : Layable p) (b f : ℕ) → CallsFunction p b f → Calls p b f
calls p l b f c =
    let g : Found p b c.item = found p b c.item c.holds in
    let s : At (text p) g.at (Jal (address p (named p (Function f)) / 4)) × ((named p (Function f) < length p.blocks) × LastSlot g.word.more) = stands_as p l b c.item g (Function f) (Jal c.target) c.names c.jumps in
    record { at = g.at; word = g.word; block = g.block; target = address p (named p (Function f)) / 4; stands = s.0; goal = jump_lands p l g.at g.word (named p (Function f)) s.1.1 s.1.0; back = behind_slot p g.at g.word s.1.1 ∙ ap (λ (z : ℕ). address p (z + 1)) g.block }

-- A jump to a block, in the words.
pub record Jumps (p : HardProgram) (b t : ℕ) : Type 0 where
  pub at : ℕ
  pub word : ItemWord p at
  pub block : word.block ≡ b
  pub target : ℕ
  pub stands : At (text p) at (J target)
  pub goal : jump_goal at target ≡ address p t

pub jumps : (p : HardProgram) (l : Layable p) (b t tg : ℕ) (i : Item) → Holds p b i → i.instr ≡ J tg → i.fix ≡ Block t → Jumps p b t
jumps p l b t tg i h e g =
    let f : Found p b i = found p b i h in
    let s : At (text p) f.at (J (address p t / 4)) × ((t < length p.blocks) × LastSlot f.word.more) = stands_as p l b i f (Block t) (J tg) g e in
    record { at = f.at; word = f.word; block = f.block; target = address p t / 4; stands = s.0; goal = jump_lands p l f.at f.word t s.1.1 s.1.0 }

follow_start : (p : HardProgram) (l : Layable p) (n : Entered p) (b c : ℕ) → MayFollow p b c → IsStart (text p) 0x00400000 (address p c)
follow_start p l n b c (ways.jumped t tg i h e f) = let j : Jumps p b t = jumps p l b t tg i h e f in jumped j.at j.target j.stands (sym j.goal)
follow_start p l n b c (ways.branched_eq t rs rt imm i h e f) = let j : Forks p b t = forks_eq p l n b t rs rt imm i h e f in taken j.at j.imm j.fork (sym j.goal)
follow_start p l n b c (ways.branched_ne t rs rt imm i h e f) = let j : Forks p b t = forks_ne p l n b t rs rt imm i h e f in taken j.at j.imm j.fork (sym j.goal)
follow_start p l n b c (ways.fallen_eq t rs rt imm i h e f) = let j : Forks p b t = forks_eq p l n b t rs rt imm i h e f in passed j.at j.imm j.fork (sym j.back)
follow_start p l n b c (ways.fallen_ne t rs rt imm i h e f) = let j : Forks p b t = forks_ne p l n b t rs rt imm i h e f in passed j.at j.imm j.fork (sym j.back)
follow_start p l n b c (ways.called f t k e) = let j : Calls p b f = calls p l b f k in called j.at j.target j.stands (ap (address p) (sym (get_or_from_slice_get p.entries f t 0 e)) ∙ sym j.goal)
follow_start p l n b c (ways.returned f caller rs i h e k m) = let j : Calls p caller f = calls p l caller f m in returned j.at j.target j.stands (sym j.back)

pub block_start : (p : HardProgram) (l : Layable p) (n : Entered p) (c : ℕ) → c < length p.blocks → IsStart (text p) 0x00400000 (address p c)
block_start p l n zero h = begins refl
block_start p l n (suc c) h = elim (n.each (suc c) (some c) h) as (λ z. IsStart (text p) 0x00400000 (address p (suc c))) [
  | inl q ↦ follow_start p l n q.0 (suc c) q.1
  | inr q ↦ behind q.0 q.1 (q.2, q.3)
]
  where
    some : (c : ℕ) → 0 < suc c
    some c = omega arith

    behind : (b f : ℕ) → (suc c ≡ b + 1) × CallsFunction p b f → IsStart (text p) 0x00400000 (address p (suc c))
    behind b f q = let j : Calls p b f = calls p l b f q.1 in returned j.at j.target j.stands (ap (address p) q.0 ∙ sym j.back)

pub starts_are_blocks : LaidStarts
starts_are_blocks p l n w = (start_block p l n w, λ b. subst (λ (z : ℕ). IsStart (text p) 0x00400000 z) (sym b.2) (block_start p l n b.0 b.1))
