-- One step of both runs at a branch or a jump.
use Rattle.std.proofs.Common.{◌≡◌, ◌≢◌, ◌≤◌, ◌<◌, ℕ, suc, ◌+◌, ◌-◌, ◌*◌, ◌%◌, ◌^◌, arith, ap, refl, sym, ◌∙◌, subst, List, [], ◌∷◌, length, Bool, true, false, cond, inl, inr}
use Rattle.std.specs.Prelude.{None, ◌⊎◌, ◌==◌, not}
use Rattle.hard_words.specs.Words.{extended}
use Rattle.mips_isa.specs.declared.instr.Instr.{Instr}
use Rattle.mips_isa.specs.declared.instr.Instr.TheVariants.{J, Jal, Jr, Beq, Bne}
use Rattle.mips_isa.specs.declared.instr.Act.{Act}
use Rattle.mips_isa.specs.declared.instr.Act.TheVariants.{Pass}
use Rattle.mips_isa.specs.Machine.{State, reg, plus, perform, act, branch, branch_target, is_jump}
use Rattle.hard_items.specs.declared.code.Class.{Class}
use Rattle.hard_items.specs.declared.code.Fix.{Fix}
use Rattle.hard_items.specs.declared.code.Fix.TheVariants.{Plain, Block, Function, ReturnHigh, ReturnLow}
use Rattle.hard_items.specs.declared.code.Item.{Item}
use Rattle.hard_items.specs.declared.code.HardProgram.{HardProgram}
use Rattle.hard_items.specs.Run.{Data, Way, Onward, Over, To, named, branch_way, way_of, item_act, numbered, machine_of, held, data_after}
use Rattle.hard_items.specs.Forms.{Each, HalvesPair, HalvesAt}
use Rattle.hard_items.specs.Counts.{loaded, quiet_after, is_break}
use Rattle.hard_items.specs.Rules.{Lawful}
use Rattle.layout_law.specs.Layout.{address, offset, Reaches, filled, text}
use Rattle.layout_law.specs.Level.{LastSlot, SkippedSlot, ItemFits, BranchFits, FieldReaches, Layable, worth, SameData, WaySame, SlotSame}
use Rattle.layout_law.proofs.Fields.{InWords, in_words, inside, way, goes, jumps_to}
use Rattle.layout_law.proofs.Data.{write_same}
use Rattle.layout_law.proofs.Acts.{apart_half, reg_same}
use Rattle.layout_law.proofs.Arrive.{Went}
use Rattle.layout_law.proofs.Step.{item, one_address}

no_true : true ≡ false → ⊥
no_true e = cc

-- What both do at a branch or a jump.
pub record Gone (p : HardProgram) (b : ℕ) (i : Item) (more : List Item) (d : Data) (s : State) : Type 0 where
  pub way : Way
  pub is_way : way_of p i d i.instr ≡ way
  pub goes_on : (perform (item_act b i d) (machine_of d)).0.end ≡ None
  pub silent : (perform (item_act b i d) (machine_of d)).1 ≡ None
  pub open_ : Bool
  pub went : Went p way i more open_ b (data_after i (item_act b i d) d (perform (item_act b i d) (machine_of d)).0) s (perform (act (filled p b s.pc i.fix i.instr) s) s).0
  pub silent_low : (perform (act (filled p b s.pc i.fix i.instr) s) s).1 ≡ None

last_some : (more : List Item) → LastSlot more → SlotSame true more
last_some [] h = tt
last_some (i ∷ []) h = λ k. ap is_jump h.nop
last_some (i ∷ j ∷ more) h = absurd h

skipped_some : (more : List Item) → SkippedSlot more → SlotSame true more
skipped_some [] h = tt
skipped_some (i ∷ []) h = absurd h
skipped_some (i ∷ j ∷ []) h = absurd h
skipped_some (i ∷ j ∷ k ∷ more) h = λ z. h.0

last_one : (more : List Item) → LastSlot more → length more ≡ 1
last_one [] h = absurd h
last_one (i ∷ []) h = refl
last_one (i ∷ j ∷ more) h = absurd h

-- ---- jumps to a block

jump_gone : (p : HardProgram) (l : Layable p) (o : Bool) (b t tg : ℕ) (k : Class) (more : List Item) (d : Data) (s : State) → s.text ≡ text p → s.end ≡ None → SameData p o b d s → t < length p.blocks → LastSlot more → HalvesPair more o → s.pc + 4 < 2 ^ 28 → Gone p b (item (J tg) k (Block t)) more d s
jump_gone p l o b t tg k more d s x e m h n g c = record {
  way = To t;
  is_way = refl;
  goes_on = refl;
  silent = refl;
  open_ = o;
  went = record {
    text = x;
    pc = refl;
    last = refl;
    quiet = refl;
    slot = refl;
    way = (jumps_to s (address p t) (in_words p t) (inside p t l h) c, (h, (refl, n)));
    open_ = e;
    halves = g;
    data_ = record { regs = m.regs; memory = m.memory; hi = m.hi; lo = m.lo; feed = m.feed; fed = m.fed };
    some = last_some more n;
    goes = refl;
    stays = refl;
    quiet_is = refl;
    no_break = refl;
  };
  silent_low = refl;
}

call_gone : (p : HardProgram) (l : Layable p) (o : Bool) (b f tg : ℕ) (k : Class) (more : List Item) (d : Data) (s : State) → s.text ≡ text p → s.end ≡ None → SameData p o b d s → named p (Function f) < length p.blocks → b < length p.blocks → LastSlot more → HalvesPair more o → s.pc + 4 < 2 ^ 28 → s.pc + 8 ≡ address p (b + 1) → Gone p b (item (Jal tg) k (Function f)) more d s
call_gone p l o b f tg k more d s x e m h there n g c a = record {
  way = To (named p (Function f));
  is_way = refl;
  goes_on = refl;
  silent = refl;
  open_ = o;
  went = record {
    text = x;
    pc = refl;
    last = refl;
    quiet = refl;
    slot = refl;
    way = (jumps_to s (address p (named p (Function f))) (in_words p (named p (Function f))) (inside p (named p (Function f)) l h) c, (h, (refl, n)));
    open_ = e;
    halves = g;
    data_ = record { regs = write_same p o b d.backs d.regs s.regs 31 (b + 1) (plus s.pc 8) true m.regs below (inr (differ 31 25 refl refl)) (sum s.pc c ∙ a) (λ z. up b (length p.blocks) there); memory = m.memory; hi = m.hi; lo = m.lo; feed = m.feed; fed = m.fed };
    some = last_some more n;
    goes = refl;
    stays = refl;
    quiet_is = refl;
    no_break = refl;
  };
  silent_low = refl;
}
  where
    below : 31 < 32
    below = omega arith

    differ : (m n : ℕ) → m ≡ 31 → n ≡ 25 → m ≢ n
    differ m n e f = omega arith

    sum : (pc : ℕ) → pc + 4 < 2 ^ 28 → (pc + 8) % 2 ^ 32 ≡ pc + 8
    sum pc h = omega arith

    up : (b n : ℕ) → b < n → b + 1 ≤ n
    up b n h = omega arith

return_gone : (p : HardProgram) (l : Layable p) (o : Bool) (b rs : ℕ) (k : Class) (more : List Item) (d : Data) (s : State) → s.text ≡ text p → s.end ≡ None → SameData p o b d s → (o ≡ false) ⊎ (rs ≢ 25) → d.backs rs ≡ true → held d rs < length p.blocks → LastSlot more → HalvesPair more o → Gone p b (item (Jr rs) k Plain) more d s
return_gone p l o b rs k more d s x e m f r h n g = record {
  way = To (held d rs);
  is_way = refl;
  goes_on = refl;
  silent = refl;
  open_ = o;
  went = record {
    text = x;
    pc = refl;
    last = refl;
    quiet = refl;
    slot = refl;
    way = (m.regs.same rs f ∙ ap (λ (z : Bool). worth p z (held d rs)) r, (h, (refl, n)));
    open_ = e;
    halves = g;
    data_ = record { regs = m.regs; memory = m.memory; hi = m.hi; lo = m.lo; feed = m.feed; fed = m.fed };
    some = last_some more n;
    goes = refl;
    stays = refl;
    quiet_is = refl;
    no_break = refl;
  };
  silent_low = refl;
}

-- ---- branches

-- A comparison of two registers says the same in both.
eq_same : (a b c e : ℕ) → a ≡ c → b ≡ e → (a == b) ≡ (c == e)
eq_same a b c e f g = cc

eq_mapped : (f : ℕ → ℕ) (x y : ℕ) → (f x ≡ f y → x ≡ y) → (f x == f y) ≡ (x == y)
eq_mapped f x y h = by (x == y) refl
  where
    yes : (a b : ℕ) → (a == b) ≡ true → a ≡ b
    yes a b e = grind arith

    no : (a b : ℕ) → (a == b) ≡ false → a ≡ b → ⊥
    no a b e f = grind arith

    eq : (a b : ℕ) → a ≡ b → (a == b) ≡ true
    eq a b e = grind arith

    by_other : (z : Bool) → (f x == f y) ≡ z → (x == y) ≡ false → (f x == f y) ≡ false
    by_other true e g = absurd (no x y g (h (yes (f x) (f y) e)))
    by_other false e g = e

    by : (z : Bool) → (x == y) ≡ z → (f x == f y) ≡ z
    by true e = eq (f x) (f y) (ap f (yes x y e))
    by false e = by_other (f x == f y) refl e

test_by : (p : HardProgram) (l : Layable p) (o : Bool) (b : ℕ) (d : Data) (s : State) (rs rt : ℕ) → SameData p o b d s → (o ≡ false) ⊎ (rs ≢ 25) → (o ≡ false) ⊎ (rt ≢ 25) → (z : Bool) → d.backs rs ≡ z → d.backs rt ≡ z → (reg s rs == reg s rt) ≡ (held d rs == held d rt)
test_by p l o b d s rs rt m f g true x y =
    eq_same (reg s rs) (reg s rt) (address p (held d rs)) (address p (held d rt)) (m.regs.same rs f ∙ ap (λ (z : Bool). worth p z (held d rs)) x) (m.regs.same rt g ∙ ap (λ (z : Bool). worth p z (held d rt)) y) ∙
    eq_mapped (address p) (held d rs) (held d rt) (one_address p l (held d rs) (held d rt) (m.regs.blocks rs x) (m.regs.blocks rt y))
test_by p l o b d s rs rt m f g false x y = eq_same (reg s rs) (reg s rt) (held d rs) (held d rt) (reg_same p o b d s rs m f x) (reg_same p o b d s rt m g y)

pub tests : (p : HardProgram) (l : Layable p) (o : Bool) (b : ℕ) (d : Data) (s : State) (rs rt : ℕ) → SameData p o b d s → (o ≡ false) ⊎ (rs ≢ 25) → (o ≡ false) ⊎ (rt ≢ 25) → d.backs rs ≡ d.backs rt → (reg s rs == reg s rt) ≡ (held d rs == held d rt)
tests p l o b d s rs rt m f g e = test_by p l o b d s rs rt m f g (d.backs rs) refl (sym e)

-- A branch, taken or not, in both.
branch_done : (p : HardProgram) (f : Fix) (o : Bool) (b : ℕ) (i : Item) (more : List Item) (d : Data) (s : State) (imm imm' : ℕ) (z : Bool) → s.text ≡ text p → s.end ≡ None → SameData p o b d s → HalvesPair more o → SlotSame true more → is_jump i.instr ≡ true → loaded i.instr ≡ 0 → quiet_after i.instr s.quiet ≡ s.quiet - 1 → is_break i.instr ≡ false →
    item_act b i d ≡ Pass → act (filled p b s.pc i.fix i.instr) s ≡ branch z s imm' → way_of p i d i.instr ≡ cond z (branch_way f) Onward → WaySame p (branch_way f) s.npc (branch_target s imm') true more → plus s.npc 4 ≡ s.npc + 4 → Gone p b i more d s
branch_done p f o b i more d s imm imm' true x e m g n j la q nb a c w y k = record {
  way = branch_way f;
  is_way = w;
  goes_on = ap (λ (u : Act). (perform u (machine_of d)).0.end) a;
  silent = ap (λ (u : Act). (perform u (machine_of d)).1) a;
  open_ = o;
  went = subst (λ (u : Act). Went p (branch_way f) i more o b (data_after i u d (perform u (machine_of d)).0) s (perform (act (filled p b s.pc i.fix i.instr) s) s).0) (sym a)
      (subst (λ (u : Act). Went p (branch_way f) i more o b (data_after i Pass d (perform Pass (machine_of d)).0) s (perform u s).0) (sym c) (record {
        text = x;
        pc = refl;
        last = refl;
        quiet = refl;
        slot = refl;
        way = y;
        open_ = e;
        halves = g;
        data_ = record { regs = m.regs; memory = m.memory; hi = m.hi; lo = m.lo; feed = m.feed; fed = m.fed };
        some = n;
        goes = j;
        stays = la;
        quiet_is = q;
        no_break = nb;
      }));
  silent_low = ap (λ (u : Act). (perform u s).1) c;
}
branch_done p f o b i more d s imm imm' false x e m g n j la q nb a c w y k = record {
  way = Onward;
  is_way = w;
  goes_on = ap (λ (u : Act). (perform u (machine_of d)).0.end) a;
  silent = ap (λ (u : Act). (perform u (machine_of d)).1) a;
  open_ = o;
  went = subst (λ (u : Act). Went p Onward i more o b (data_after i u d (perform u (machine_of d)).0) s (perform (act (filled p b s.pc i.fix i.instr) s) s).0) (sym a)
      (subst (λ (u : Act). Went p Onward i more o b (data_after i Pass d (perform Pass (machine_of d)).0) s (perform u s).0) (sym c) (record {
        text = x;
        pc = refl;
        last = refl;
        quiet = refl;
        slot = refl;
        way = k;
        open_ = e;
        halves = g;
        data_ = record { regs = m.regs; memory = m.memory; hi = m.hi; lo = m.lo; feed = m.feed; fed = m.fed };
        some = n;
        goes = j;
        stays = la;
        quiet_is = q;
        no_break = nb;
      }));
  silent_low = ap (λ (u : Act). (perform u s).1) c;
}

pass_by : (b imm : ℕ) (s : State) (z : Bool) → numbered b (branch z s imm) ≡ Pass
pass_by b imm s true = refl
pass_by b imm s false = refl

not_taken : (w : Way) (z : Bool) → cond z Onward w ≡ cond (not z) w Onward
not_taken w true = refl
not_taken w false = refl

-- Where the branch leads.
skip_way : (p : HardProgram) (s : State) (more : List Item) → SkippedSlot more → s.npc ≡ s.pc + 4 → s.pc + 12 ≤ 2 ^ 28 → WaySame p Over s.npc (branch_target s 2) true more
skip_way p s more h n c = (sum s.pc s.npc n c, (refl, h))
  where
    sum : (pc npc : ℕ) → npc ≡ pc + 4 → pc + 12 ≤ 2 ^ 28 → ((pc + 4) % 2 ^ 32 + 8) % 2 ^ 32 ≡ npc + 8
    sum pc npc n c = omega arith

block_way : (p : HardProgram) (l : Layable p) (t : ℕ) (s : State) (more : List Item) → LastSlot more → t < length p.blocks → InWords (s.pc + 4) → Reaches (s.pc + 4) (address p t) → s.pc + 12 ≤ 2 ^ 28 + 4 → WaySame p (To t) s.npc (branch_target s (offset (s.pc + 4) (address p t))) true more
block_way p l t s more h there w r c =
    (ap (λ (z : ℕ). plus z ((extended (offset (s.pc + 4) (address p t)) * 4) % 2 ^ 32)) (small s.pc c) ∙ goes (s.pc + 4) (address p t) (way (s.pc + 4) (address p t) w (in_words p t) r) (less s.pc c) (more_below (address p t) (inside p t l there)), (there, (refl, h)))
  where
    small : (pc : ℕ) → pc + 12 ≤ 2 ^ 28 + 4 → (pc + 4) % 2 ^ 32 ≡ pc + 4
    small pc c = omega arith

    less : (pc : ℕ) → pc + 12 ≤ 2 ^ 28 + 4 → pc + 4 < 2 ^ 32
    less pc c = omega arith

    more_below : (a : ℕ) → a < 2 ^ 28 → a < 2 ^ 32
    more_below a h = omega arith

next_sum : (pc npc : ℕ) → npc ≡ pc + 4 → pc + 12 ≤ 2 ^ 28 + 4 → (npc + 4) % 2 ^ 32 ≡ npc + 4
next_sum pc npc e h = omega arith

-- beq and bne, by their fields
eq_gone : (p : HardProgram) (l : Layable p) (o : Bool) (b rs rt imm : ℕ) (k : Class) (f : Fix) (more : List Item) (d : Data) (s : State) → s.text ≡ text p → s.end ≡ None → SameData p o b d s → BranchFits p f imm more → HalvesAt (HalvesPair more) f o (Beq rs rt imm) → FieldReaches p s.pc f (Beq rs rt imm) → InWords (s.pc + 4) → d.backs rs ≡ d.backs rt → s.npc ≡ s.pc + 4 → (2 ≤ length more → s.pc + 12 ≤ 2 ^ 28) → s.pc + 12 ≤ 2 ^ 28 + 4 → Gone p b (item (Beq rs rt imm) k f) more d s
eq_gone p l o b rs rt imm k Plain more d s x e m h g r w q n c c' =
    let free : Each (λ r. (o ≡ false) ⊎ (r ≢ 25)) (rs ∷ rt ∷ []) = apart_half o (rs ∷ rt ∷ []) g.0 in
    let t : (reg s rs == reg s rt) ≡ (held d rs == held d rt) = tests p l o b d s rs rt m free.0 free.1.0 q in
    branch_done p Plain o b (item (Beq rs rt imm) k Plain) more d s imm 2 (held d rs == held d rt) x e m g.1 (skipped_some more h.1) refl refl refl refl (pass_by b imm (machine_of d) (held d rs == held d rt))
    (ap (λ (z : ℕ). branch (reg s rs == reg s rt) s z) h.0 ∙ ap (λ (z : Bool). branch z s 2) t) refl (skip_way p s more h.1 n (c (two more h.1))) (next_sum s.pc s.npc n c')
  where
    two : (more : List Item) → SkippedSlot more → 2 ≤ length more
    two [] h = absurd h
    two (i ∷ []) h = absurd h
    two (i ∷ j ∷ more) h = least (length more)
      where
        least : (n : ℕ) → 2 ≤ suc (suc n)
        least n = omega arith
eq_gone p l o b rs rt imm k (Block t) more d s x e m h g r w q n c c' =
    let ts : (reg s rs == reg s rt) ≡ (held d rs == held d rt) = tests p l o b d s rs rt m (inl g.0) (inl g.0) q in
    branch_done p (Block t) o b (item (Beq rs rt imm) k (Block t)) more d s imm (offset (s.pc + 4) (address p t)) (held d rs == held d rt) x e m g.1 (last_some more h.1) refl refl refl refl (pass_by b imm (machine_of d) (held d rs == held d rt))
    (ap (λ (z : Bool). branch z s (offset (s.pc + 4) (address p t))) ts) refl (block_way p l t s more h.1 h.0 w r c') (next_sum s.pc s.npc n c')
eq_gone p l o b rs rt imm k (Function f) more d s x e m h g r w q n c c' = absurd h
eq_gone p l o b rs rt imm k ReturnHigh more d s x e m h g r w q n c c' = absurd h
eq_gone p l o b rs rt imm k ReturnLow more d s x e m h g r w q n c c' = absurd h

ne_gone : (p : HardProgram) (l : Layable p) (o : Bool) (b rs rt imm : ℕ) (k : Class) (f : Fix) (more : List Item) (d : Data) (s : State) → s.text ≡ text p → s.end ≡ None → SameData p o b d s → BranchFits p f imm more → HalvesAt (HalvesPair more) f o (Bne rs rt imm) → FieldReaches p s.pc f (Bne rs rt imm) → InWords (s.pc + 4) → d.backs rs ≡ d.backs rt → s.npc ≡ s.pc + 4 → (2 ≤ length more → s.pc + 12 ≤ 2 ^ 28) → s.pc + 12 ≤ 2 ^ 28 + 4 → Gone p b (item (Bne rs rt imm) k f) more d s
ne_gone p l o b rs rt imm k Plain more d s x e m h g r w q n c c' =
    let free : Each (λ r. (o ≡ false) ⊎ (r ≢ 25)) (rs ∷ rt ∷ []) = apart_half o (rs ∷ rt ∷ []) g.0 in
    let t : (reg s rs == reg s rt) ≡ (held d rs == held d rt) = tests p l o b d s rs rt m free.0 free.1.0 q in
    branch_done p Plain o b (item (Bne rs rt imm) k Plain) more d s imm 2 (not (held d rs == held d rt)) x e m g.1 (skipped_some more h.1) refl refl refl refl (pass_by b imm (machine_of d) (not (held d rs == held d rt)))
    (ap (λ (z : ℕ). branch (not (reg s rs == reg s rt)) s z) h.0 ∙ ap (λ (z : Bool). branch (not z) s 2) t) (not_taken Over (held d rs == held d rt)) (skip_way p s more h.1 n (c (two more h.1))) (next_sum s.pc s.npc n c')
  where
    two : (more : List Item) → SkippedSlot more → 2 ≤ length more
    two [] h = absurd h
    two (i ∷ []) h = absurd h
    two (i ∷ j ∷ more) h = least (length more)
      where
        least : (n : ℕ) → 2 ≤ suc (suc n)
        least n = omega arith
ne_gone p l o b rs rt imm k (Block t) more d s x e m h g r w q n c c' =
    let ts : (reg s rs == reg s rt) ≡ (held d rs == held d rt) = tests p l o b d s rs rt m (inl g.0) (inl g.0) q in
    branch_done p (Block t) o b (item (Bne rs rt imm) k (Block t)) more d s imm (offset (s.pc + 4) (address p t)) (not (held d rs == held d rt)) x e m g.1 (last_some more h.1) refl refl refl refl (pass_by b imm (machine_of d) (not (held d rs == held d rt)))
    (ap (λ (z : Bool). branch (not z) s (offset (s.pc + 4) (address p t))) ts) (not_taken (To t) (held d rs == held d rt)) (block_way p l t s more h.1 h.0 w r c') (next_sum s.pc s.npc n c')
ne_gone p l o b rs rt imm k (Function f) more d s x e m h g r w q n c c' = absurd h
ne_gone p l o b rs rt imm k ReturnHigh more d s x e m h g r w q n c c' = absurd h
ne_gone p l o b rs rt imm k ReturnLow more d s x e m h g r w q n c c' = absurd h

-- ---- each of them

pub gone : (p : HardProgram) (l : Layable p) (o : Bool) (b : ℕ) (x : Instr) (k : Class) (f : Fix) (more : List Item) (d : Data) (s : State) → s.text ≡ text p → s.end ≡ None → b < length p.blocks → SameData p o b d s → is_jump x ≡ true → ItemFits p f x more → HalvesAt (HalvesPair more) f o x → FieldReaches p s.pc f x → InWords (s.pc + 4) → Lawful p b (item x k f) d → s.npc ≡ s.pc + 4 → s.pc + 4 * suc (length more) ≡ address p (b + 1) → s.pc + 4 * suc (length more) ≤ 2 ^ 28 → Gone p b (item x k f) more d s
gone p l o b (Jr rs) k f more d s x e there m j h g r w q n a c =
    subst (λ (z : Fix). Gone p b (item (Jr rs) k z) more d s) (sym h.0)
    (let g' : HalvesAt (HalvesPair more) Plain o (Jr rs) = subst (λ (z : Fix). HalvesAt (HalvesPair more) z o (Jr rs)) h.0 g in
    return_gone p l o b rs k more d s x e m (apart_half o (rs ∷ []) g'.0).0 q.returns.0 (l.follows b (held d rs) q.returns.1) h.1 g'.1)
gone p l o b (J tg) k (Block t) more d s x e there m j h g r w q n a c = jump_gone p l o b t tg k more d s x e m h.0 h.1 g.1 (less s.pc (length more) (last_one more h.1) c)
  where
    less : (pc n : ℕ) → n ≡ 1 → pc + 4 * suc n ≤ 2 ^ 28 → pc + 4 < 2 ^ 28
    less pc n e h = omega arith
gone p l o b (Jal tg) k (Function t) more d s x e there m j h g r w q n a c = call_gone p l o b t tg k more d s x e m h.0 there h.1 g.1 (less s.pc (length more) (last_one more h.1) c) (eight s.pc (length more) (last_one more h.1) ∙ a)
  where
    less : (pc n : ℕ) → n ≡ 1 → pc + 4 * suc n ≤ 2 ^ 28 → pc + 4 < 2 ^ 28
    less pc n e h = omega arith

    eight : (pc n : ℕ) → n ≡ 1 → pc + 8 ≡ pc + 4 * suc n
    eight pc n e = omega arith
gone p l o b (Beq rs rt imm) k f more d s x e there m j h g r w q n a c = eq_gone p l o b rs rt imm k f more d s x e m h g r w q.reads n (three s.pc (length more) c) (one s.pc (length more) (some more f h) c)
  where
    three : (pc n : ℕ) → pc + 4 * suc n ≤ 2 ^ 28 → 2 ≤ n → pc + 12 ≤ 2 ^ 28
    three pc n h k = omega arith

    one : (pc n : ℕ) → 1 ≤ n → pc + 4 * suc n ≤ 2 ^ 28 → pc + 12 ≤ 2 ^ 28 + 4
    one pc n k h = omega arith

    some : (more : List Item) (f : Fix) → BranchFits p f imm more → 1 ≤ length more
    some (i ∷ more) f h = least (length more)
      where
        least : (n : ℕ) → 1 ≤ suc n
        least n = omega arith
    some [] Plain h = absurd h.1
    some [] (Block t) h = absurd h.1
    some [] (Function t) h = absurd h
    some [] ReturnHigh h = absurd h
    some [] ReturnLow h = absurd h
gone p l o b (Bne rs rt imm) k f more d s x e there m j h g r w q n a c = ne_gone p l o b rs rt imm k f more d s x e m h g r w (q.reads.0 ∙ sym q.reads.1.0) n (three s.pc (length more) c) (one s.pc (length more) (some more f h) c)
  where
    three : (pc n : ℕ) → pc + 4 * suc n ≤ 2 ^ 28 → 2 ≤ n → pc + 12 ≤ 2 ^ 28
    three pc n h k = omega arith

    one : (pc n : ℕ) → 1 ≤ n → pc + 4 * suc n ≤ 2 ^ 28 → pc + 12 ≤ 2 ^ 28 + 4
    one pc n k h = omega arith

    some : (more : List Item) (f : Fix) → BranchFits p f imm more → 1 ≤ length more
    some (i ∷ more) f h = least (length more)
      where
        least : (n : ℕ) → 1 ≤ suc n
        least n = omega arith
    some [] Plain h = absurd h.1
    some [] (Block t) h = absurd h.1
    some [] (Function t) h = absurd h
    some [] ReturnHigh h = absurd h
    some [] ReturnLow h = absurd h
gone p l o b (J tg) k Plain more d s x e there m j h g r w q n a c = absurd h
gone p l o b (J tg) k (Function t) more d s x e there m j h g r w q n a c = absurd h
gone p l o b (J tg) k ReturnHigh more d s x e there m j h g r w q n a c = absurd h
gone p l o b (J tg) k ReturnLow more d s x e there m j h g r w q n a c = absurd h
gone p l o b (Jal tg) k Plain more d s x e there m j h g r w q n a c = absurd h
gone p l o b (Jal tg) k (Block t) more d s x e there m j h g r w q n a c = absurd h
gone p l o b (Jal tg) k ReturnHigh more d s x e there m j h g r w q n a c = absurd h
gone p l o b (Jal tg) k ReturnLow more d s x e there m j h g r w q n a c = absurd h
gone p l o b i k f more d s x e there m j h g r w q n a c = absurd (no_true (sym j))
