-- What the layout relies on in a block, from the forms of the block; with a head before it too.
use Rattle.std.proofs.Common.{◌≡◌, ◌<◌, ℕ, zero, suc, ◌+◌, ◌^◌, arith, ap, refl, sym, ◌∙◌, subst, List, [], ◌∷◌, ◌++◌, length, append_assoc, Bool, true, false, cond, inl, inr}
use Rattle.std.specs.Prelude.{Option, Some, None, slice_get, ◌⊎◌, ◌==◌, ◌&&◌, not, flat_map, All, Contains, IsTrue, nat_le, nat_lt}
use Rattle.mips_isa.specs.declared.instr.Instr.{Instr}
use Rattle.mips_isa.specs.declared.instr.Instr.TheVariants.{Beq, Bne, Break, J, Jal, Jr, Sw, Xor}
use Rattle.mips_isa.specs.Machine.{is_jump}
use Rattle.mips_isa.specs.Locality.{is_data}
use Rattle.hard_items.specs.declared.code.Class.TheVariants.{Act}
use Rattle.hard_items.specs.declared.code.Fix.{Fix}
use Rattle.hard_items.specs.declared.code.Fix.TheVariants.{Plain, Block, Function, ReturnHigh, ReturnLow}
use Rattle.hard_items.specs.declared.code.Item.{Item}
use Rattle.hard_items.specs.declared.code.HardBlock.{HardBlock}
use Rattle.hard_items.specs.declared.code.HardProgram.{HardProgram}
use Rattle.hard_items.specs.declared.code.Mark.{Mark}
use Rattle.hard_items.specs.declared.code.Signed.{Signed}
use Rattle.hard_items.specs.Streams.{nop, plain, shadow_of}
use Rattle.hard_items.specs.Run.{items_of, block_items, named}
use Rattle.hard_items.specs.Forms.{Each, Form, Alone, Product, Store, Test, Output, Takes, Idle, Close, Jump, Branch, Call, Return, Exit, check, check_if, form_items, close_items, block_of, HalfFits, FormFits}
use Rattle.hard_items.specs.Heads.{head_items, with_heads, headed}
use Rattle.layout_law.specs.Level.{IsNop, StayFits, ItemFits, Lines}

no_true : true ≡ false → ⊥
no_true e = cc

-- ---- an item that goes nowhere

data_stays : (x : Instr) → is_data x ≡ true → is_jump x ≡ false
data_stays (Jr rs) h = absurd (no_true (sym h))
data_stays (J target) h = absurd (no_true (sym h))
data_stays (Jal target) h = absurd (no_true (sym h))
data_stays (Beq rs rt imm) h = absurd (no_true (sym h))
data_stays (Bne rs rt imm) h = absurd (no_true (sym h))
data_stays x h = refl

stay_item : (p : HardProgram) (f : Fix) (x : Instr) (more : List Item) → is_jump x ≡ false → StayFits f x → ItemFits p f x more
stay_item p f (Jr rs) more j h = absurd (no_true j)
stay_item p f (J target) more j h = absurd (no_true j)
stay_item p f (Jal target) more j h = absurd (no_true j)
stay_item p f (Beq rs rt imm) more j h = absurd (no_true j)
stay_item p f (Bne rs rt imm) more j h = absurd (no_true j)
stay_item p f x more j h = h

half_stays : (i : Item) (f : Fix) → HalfFits i f → StayFits f i.instr
half_stays i Plain h = tt
half_stays i (Block t) h = h
half_stays i (Function t) h = h
half_stays i ReturnHigh h = h.1
half_stays i ReturnLow h = h.1

plain_stays : (f : Fix) (x : Instr) → f ≡ Plain → StayFits f x
plain_stays f x e = subst (λ (z : Fix). StayFits z x) (sym e) tt

-- An item that goes nowhere before others.
stay_line : (p : HardProgram) (i k : Item) (more : List Item) → is_jump i.instr ≡ false → StayFits i.fix i.instr → Lines p false (k ∷ more) → Lines p false (i ∷ k ∷ more)
stay_line p i k more j h l = (stay_item p i.fix i.instr (k ∷ more) j h, subst (λ (z : Bool). Lines p z (k ∷ more)) (sym j) l)

-- ---- forms

check_lines : (p : HardProgram) (x y : ℕ) (k : Item) (more : List Item) → Lines p false (k ∷ more) → Lines p false (check x y ++ k ∷ more)
check_lines p x y k more l = ((refl, (refl, (refl, record { code = 1; stop = refl; no_field = refl }))), (tt, (tt, l)))

check_if_lines : (p : HardProgram) (c : Bool) (m : ℕ) (k : Item) (more : List Item) → Lines p false (k ∷ more) → Lines p false (check_if c m ++ k ∷ more)
check_if_lines p true m k more l = check_lines p m (shadow_of m) k more l
check_if_lines p false m k more l = l

-- the same in front of a list that is not empty
check_if_front : (p : HardProgram) (c : Bool) (m : ℕ) (xs : List Item) → Lines p false xs → Lines p false (check_if c m ++ xs)
check_if_front p c m [] l = absurd l
check_if_front p c m (k ∷ more) l = check_if_lines p c m k more l

form_lines : (p : HardProgram) (f : Form) → FormFits f → (xs : List Item) → Lines p false xs → Lines p false (form_items f ++ xs)
form_lines p f h [] l = absurd l
form_lines p (Alone i) h (k ∷ more) l = stay_line p i k more (data_stays i.instr h.computes) (half_stays i i.fix h.half_fits) l
form_lines p (Product i j) h (k ∷ more) l = stay_line p i j (k ∷ more) (product_stays i.instr h.product) (plain_stays i.fix i.instr h.plain_product) (stay_line p j k more (move_stays j.instr h.move) (plain_stays j.fix j.instr h.plain_move) l)
  where
    product_stays : (x : Instr) → Rattle.mips_isa.specs.Machine.is_product x ≡ true → is_jump x ≡ false
    product_stays (Jr rs) h = absurd (no_true (sym h))
    product_stays (J target) h = absurd (no_true (sym h))
    product_stays (Jal target) h = absurd (no_true (sym h))
    product_stays (Beq rs rt imm) h = absurd (no_true (sym h))
    product_stays (Bne rs rt imm) h = absurd (no_true (sym h))
    product_stays x h = refl

    move_stays : (x : Instr) → Rattle.mips_isa.specs.Locality.is_move x ≡ true → is_jump x ≡ false
    move_stays (Jr rs) h = absurd (no_true (sym h))
    move_stays (J target) h = absurd (no_true (sym h))
    move_stays (Jal target) h = absurd (no_true (sym h))
    move_stays (Beq rs rt imm) h = absurd (no_true (sym h))
    move_stays (Bne rs rt imm) h = absurd (no_true (sym h))
    move_stays x h = refl
form_lines p (Store c v b o) h (k ∷ more) l =
    subst (λ (z : List Item). Lines p false z) (sym (append_assoc (check_if c v) (check_if c b ++ stores) (k ∷ more) ∙ ap (λ (z : List Item). check_if c v ++ z) (append_assoc (check_if c b) stores (k ∷ more))))
    (check_if_front p c v (check_if c b ++ (stores ++ k ∷ more)) (check_if_front p c b (stores ++ k ∷ more) (tt, (tt, l))))
  where
    stores : List Item
    stores = plain (Sw v b o) Act ∷ plain (Sw (shadow_of v) (shadow_of b) (Rattle.std.specs.Prelude.◌%◌ (o + 4) (2 ^ 16))) Act ∷ []
form_lines p (Test c r code) h (k ∷ more) l =
    subst (λ (z : List Item). Lines p false z) (sym (append_assoc (check_if c r) (plain (Bne r 0 2) Act ∷ plain nop Act ∷ plain (Break code) Act ∷ []) (k ∷ more)))
    (check_if_front p c r (plain (Bne r 0 2) Act ∷ plain nop Act ∷ plain (Break code) Act ∷ k ∷ more) ((refl, (refl, (refl, record { code = code; stop = refl; no_field = refl }))), (tt, (tt, l))))
form_lines p (Output true) h (k ∷ more) l = ((refl, (refl, (refl, record { code = 1; stop = refl; no_field = refl }))), (tt, (tt, (tt, l))))
form_lines p (Output false) h (k ∷ more) l = (tt, (tt, l))
form_lines p (Takes r) h (k ∷ more) l = (tt, (tt, (tt, (tt, l))))
form_lines p Idle h (k ∷ more) l = (tt, l)

-- What a close names is there.
abbrev pub CloseThere : HardProgram → Close → Type 0
CloseThere p (Jump to) = to < length p.blocks
CloseThere p (Branch c r w to) = to < length p.blocks
CloseThere p (Call f) = named p (Function f) < length p.blocks
CloseThere p (Return c) = Unit {0}
CloseThere p (Exit c) = Unit {0}

a_nop : IsNop (plain nop Act)
a_nop = record { nop = refl; no_field = refl }

close_lines : (p : HardProgram) (c : Close) → CloseThere p c → Lines p false (close_items c)
close_lines p (Jump to) h = ((h, a_nop), inl (refl, a_nop))
close_lines p (Branch c r true to) h = check_if_front p c r _ ((h, a_nop), inl (refl, a_nop))
close_lines p (Branch c r false to) h = check_if_front p c r _ ((h, a_nop), inl (refl, a_nop))
close_lines p (Call f) h = ((h, a_nop), inl (refl, a_nop))
close_lines p (Return c) h = check_if_front p c 31 _ ((refl, a_nop), inl (refl, a_nop))
close_lines p (Exit true) h = ((refl, (refl, (refl, record { code = 1; stop = refl; no_field = refl }))), (tt, (tt, (tt, inr (record { code = 1; stop = refl; no_field = refl })))))
close_lines p (Exit false) h = (tt, (tt, inr (record { code = 1; stop = refl; no_field = refl })))

pub block_lines : (p : HardProgram) (fs : List Form) (c : Close) → Each FormFits fs → CloseThere p c → Lines p false (block_of fs c)
block_lines p [] c h k = close_lines p c k
block_lines p (f ∷ fs) c h k = subst (λ (z : List Item). Lines p false z) (sym (append_assoc (form_items f) (flat_map form_items fs) (close_items c))) (form_lines p f h.0 (block_of fs c) (block_lines p fs c h.1 k))

-- ---- heads

pub head_lines : (p : HardProgram) (m : Mark) (xs : List Item) → Lines p false xs → Lines p false (head_items m ++ xs)
head_lines p m [] l = absurd l
head_lines p m (k ∷ more) l = (tt, (by m.fan _, (tt, (tt, ((refl, (refl, (refl, record { code = 2; stop = refl; no_field = refl }))), (tt, (tt, l)))))))
  where
    by : (z : Bool) (xs : List Item) → ItemFits p Plain (cond z (Xor 24 24 28) nop) xs
    by true xs = tt
    by false xs = tt

-- A block's items in a program with heads.
abbrev pub head_of : Option Mark → List Item
head_of None = []
head_of (Some m) = head_items m

heads_at : (ks : List HardBlock) (ms : List Mark) (b : ℕ) (k : HardBlock) → slice_get ks b ≡ Some k → (j : HardBlock) × ((slice_get (with_heads ks ms) b ≡ Some j) × (j.items ≡ head_of (slice_get ms b) ++ k.items))
heads_at [] ms b k e = absurd (no e)
  where
    no : None ≡ Some k → ⊥
    no e = cc
heads_at (x ∷ ks) [] zero k e = (k, (e, refl))
heads_at (x ∷ ks) [] (suc b) k e = (k, (e, refl))
heads_at (x ∷ ks) (m ∷ ms) zero k e = (record { items = head_items m ++ x.items; successors = x.successors }, (refl, ap (λ (z : HardBlock). head_items m ++ z.items) (same e)))
  where
    same : Some x ≡ Some k → x ≡ k
    same e = cc
heads_at (x ∷ ks) (m ∷ ms) (suc b) k e = heads_at ks ms b k e

pub heads_length : (ks : List HardBlock) (ms : List Mark) → length (with_heads ks ms) ≡ length ks
heads_length [] ms = refl
heads_length (x ∷ ks) [] = refl
heads_length (x ∷ ks) (m ∷ ms) = ap suc (heads_length ks ms)

pub block_there : (ks : List HardBlock) (b : ℕ) → b < length ks → (k : HardBlock) × (slice_get ks b ≡ Some k)
block_there [] b h = absurd (no b h)
  where
    no : (b : ℕ) → b < 0 → ⊥
    no b h = omega arith
block_there (k ∷ ks) zero h = (k, refl)
block_there (k ∷ ks) (suc b) h = block_there ks b (less b (length ks) h)
  where
    less : (b n : ℕ) → suc b < suc n → b < n
    less b n h = omega arith

-- The items of a block: its head and its own.
pub items_headed : (s : Signed) (b : ℕ) → b < length s.program.blocks → items_of (headed s) b ≡ head_of (slice_get s.marks b) ++ items_of s.program b
items_headed s b h =
    let g : (k : HardBlock) × (slice_get s.program.blocks b ≡ Some k) = block_there s.program.blocks b h in
    let j : (j : HardBlock) × ((slice_get (with_heads s.program.blocks s.marks) b ≡ Some j) × (j.items ≡ head_of (slice_get s.marks b) ++ g.0.items)) = heads_at s.program.blocks s.marks b g.0 g.1 in
    ap block_items j.1.0 ∙ (j.1.1 ∙ ap (λ (z : List Item). head_of (slice_get s.marks b) ++ z) (sym (ap block_items g.1)))
