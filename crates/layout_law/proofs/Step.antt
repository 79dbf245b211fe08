-- One step of both runs.
use Rattle.std.proofs.Common.{◌≡◌, ◌≢◌, ◌≤◌, ◌<◌, ℕ, zero, suc, ◌+◌, ◌*◌, ◌/◌, ◌%◌, ◌^◌, arith, ap, refl, sym, ◌∙◌, subst, List, [], ◌∷◌, ◌++◌, length, Bool, true, false, cond, inl, inr}
use Rattle.std.specs.Prelude.{None, ◌⊎◌, bit_or}
use Rattle.std.proofs.lemmas.Nat.{or_shifted}
use Rattle.hard_words.specs.Words.{extended}
use Rattle.mips_isa.specs.declared.instr.Instr.{Instr}
use Rattle.mips_isa.specs.declared.instr.Instr.TheVariants.{J, Jal, Jr, Beq, Bne, Break, Lui, Ori, Sw}
use Rattle.mips_isa.specs.declared.instr.Act.{Act}
use Rattle.mips_isa.specs.declared.instr.Act.TheVariants.{Write, Move, Both, Load, Store, Go, Link, Pass, Service, Stop}
use Rattle.mips_isa.specs.Machine as machine
use Rattle.mips_isa.specs.Machine.{State, reg, plus, perform, act, branch, branch_target, jump_target, is_jump, planned, row_act, reads_of, written}
use Rattle.mips_isa.specs.Table.{IsInRange}
use Rattle.mips_isa.specs.Locality.{Asks}
use Rattle.mips_laws.proofs.Locality.{asks}
use Rattle.hard_items.specs.declared.code.Class.{Class}
use Rattle.hard_items.specs.declared.code.Fix.{Fix}
use Rattle.hard_items.specs.declared.code.Fix.TheVariants.{Plain, Block, Function, ReturnHigh, ReturnLow}
use Rattle.hard_items.specs.declared.code.Item.{Item}
use Rattle.hard_items.specs.declared.code.HardProgram.{HardProgram}
use Rattle.hard_items.specs.Streams.{nop, touched}
use Rattle.hard_items.specs.Run.{Data, Way, items_of, item_act, numbered, machine_of, held, makes_number, is_call}
use Rattle.hard_items.specs.Forms.{Each, HalvesPair, HalvesAt}
use Rattle.hard_items.specs.Counts.{loaded, quiet_after, is_break, may_stand}
use Rattle.hard_items.specs.Rules.{Reads}
use Rattle.layout_law.specs.Layout.{address, filled, text}
use Rattle.layout_law.specs.Level.{Lines, ItemFits, StayFits, FieldReaches, AllReach, Layable, SameData, SamePlace}
use Rattle.layout_law.proofs.Texts.{address_next}
use Rattle.layout_law.proofs.Fields.{InWords, in_words, filled_range, planned_item}
use Rattle.layout_law.proofs.Data as outcome
use Rattle.layout_law.proofs.Data.{Alike, MayWrite, Moved, Outcome, last_of, quiet_of, perform_alike, open_half, close_half, write_same}
use Rattle.layout_law.proofs.Acts.{is_store, alike, alike_store, apart_half, may_write, reg_same, last_is, quiet_is, no_hazard, break_may_stand, filled_reads, filled_may_stand, each_left}
use Rattle.layout_law.proofs.Arrive.{spot, calm_tail}

abbrev pub item : Instr → Class → Fix → Item
item x k f = record { instr = x; class = k; fix = f }

no_true : true ≡ false → ⊥
no_true e = cc

-- ---- addresses are different

some_items : (p : HardProgram) (slot : Bool) (items : List Item) → Lines p slot items → 0 < length items
some_items p slot [] h = absurd h
some_items p slot (i ∷ more) h = least (length more)
  where
    least : (n : ℕ) → 0 < suc n
    least n = omega arith

pub grows : (p : HardProgram) → Layable p → (b k : ℕ) → b + suc k ≤ length p.blocks → address p b < address p (b + suc k)
grows p l b zero h = more (address p b) (address p (b + 1)) (length (items_of p b)) (address_next p b (just b (length p.blocks) h)) (some_items p false (items_of p b) (l.lines b (just b (length p.blocks) h)))
  where
    just : (b n : ℕ) → b + suc 0 ≤ n → b < n
    just b n h = omega arith

    more : (a c n : ℕ) → c ≡ a + 4 * n → 0 < n → a < c
    more a c n e h = omega arith
grows p l b (suc k) h =
    let m : address p b < address p (b + suc k) = grows p l b k (less b k (length p.blocks) h) in
    let n : b + suc k < length p.blocks = just b k (length p.blocks) h in
    subst (λ (z : ℕ). address p b < address p z) (next b k) (more (address p b) (address p (b + suc k)) (address p (b + suc k + 1)) (length (items_of p (b + suc k))) m (address_next p (b + suc k) n))
  where
    less : (b k n : ℕ) → b + suc (suc k) ≤ n → b + suc k ≤ n
    less b k n h = omega arith

    next : (b k : ℕ) → b + suc k + 1 ≡ b + suc (suc k)
    next b k = omega arith

    just : (b k n : ℕ) → b + suc (suc k) ≤ n → b + suc k < n
    just b k n h = omega arith

    more : (a c e n : ℕ) → a < c → e ≡ c + 4 * n → a < e
    more a c e n h f = omega arith

pub one_address : (p : HardProgram) → Layable p → (b c : ℕ) → b ≤ length p.blocks → c ≤ length p.blocks → address p b ≡ address p c → b ≡ c
one_address p l b c h k e = by (cases b c)
  where
    cases : (b c : ℕ) → (b ≡ c) ⊎ (((n : ℕ) × (c ≡ b + suc n)) ⊎ ((n : ℕ) × (b ≡ c + suc n)))
    cases zero zero = inl refl
    cases zero (suc c) = inr (inl (c, up c))
      where
        up : (c : ℕ) → suc c ≡ 0 + suc c
        up c = omega arith
    cases (suc b) zero = inr (inr (b, up b))
      where
        up : (c : ℕ) → suc c ≡ 0 + suc c
        up c = omega arith
    cases (suc b) (suc c) = elim (cases b c) as (λ z. (suc b ≡ suc c) ⊎ (((n : ℕ) × (suc c ≡ suc b + suc n)) ⊎ ((n : ℕ) × (suc b ≡ suc c + suc n)))) [
      | inl x ↦ inl (ap suc x)
      | inr y ↦ elim y as (λ z. (suc b ≡ suc c) ⊎ (((n : ℕ) × (suc c ≡ suc b + suc n)) ⊎ ((n : ℕ) × (suc b ≡ suc c + suc n)))) [
        | inl x ↦ inr (inl (x.0, shift b c x.0 x.1))
        | inr x ↦ inr (inr (x.0, shift c b x.0 x.1))
      ]
    ]
      where
        shift : (b c n : ℕ) → c ≡ b + suc n → suc c ≡ suc b + suc n
        shift b c n e = omega arith

    ne : (x y : ℕ) → x < y → x ≡ y → ⊥
    ne x y h e = omega arith

    by : (b ≡ c) ⊎ (((n : ℕ) × (c ≡ b + suc n)) ⊎ ((n : ℕ) × (b ≡ c + suc n))) → b ≡ c
    by (inl x) = x
    by (inr (inl x)) = absurd (ne (address p b) (address p (b + suc x.0)) (grows p l b x.0 (subst (λ (z : ℕ). z ≤ length p.blocks) x.1 k)) (e ∙ ap (address p) x.1))
    by (inr (inr x)) = absurd (ne (address p c) (address p (c + suc x.0)) (grows p l c x.0 (subst (λ (z : ℕ). z ≤ length p.blocks) x.1 h)) (sym e ∙ ap (address p) x.1))

-- ---- what stands at an item

reach_by : (p : HardProgram) (at : ℕ) (done : List Item) (i : Item) (more : List Item) → AllReach p at (done ++ i ∷ more) → FieldReaches p (at + 4 * length done) i.fix i.instr
reach_by p at [] i more h = subst (λ (z : ℕ). FieldReaches p z i.fix i.instr) (none at) h.0
  where
    none : (a : ℕ) → a ≡ a + 4 * 0
    none a = omega arith
reach_by p at (j ∷ done) i more h = subst (λ (z : ℕ). FieldReaches p z i.fix i.instr) (one at (length done)) (reach_by p (at + 4) done i more h.1)
  where
    one : (a n : ℕ) → a + 4 + 4 * n ≡ a + 4 * suc n
    one a n = omega arith

range_by : (done : List Item) (i : Item) (more : List Item) → Each (λ (i : Item). IsInRange i.instr) (done ++ i ∷ more) → IsInRange i.instr
range_by [] i more h = h.0
range_by (j ∷ done) i more h = range_by done i more h.1

pub reach_here : (p : HardProgram) (l : Layable p) (o : Bool) (b : ℕ) (i : Item) (more : List Item) (w : Way) (d : Data) (s : State) → SamePlace p o (spot b (i ∷ more) w d None) s → FieldReaches p s.pc i.fix i.instr
reach_here p l o b i more w d s h = subst (λ (z : ℕ). FieldReaches p z i.fix i.instr) (sym h.pc) (reach_by p (address p b) h.done i more (subst (λ (z : List Item). AllReach p (address p b) z) h.split (l.reach b)))

pub range_here : (p : HardProgram) (l : Layable p) (o : Bool) (b : ℕ) (i : Item) (more : List Item) (w : Way) (d : Data) (s : State) → SamePlace p o (spot b (i ∷ more) w d None) s → IsInRange i.instr
range_here p l o b i more w d s h = range_by h.done i more (subst (λ (z : List Item). Each (λ (i : Item). IsInRange i.instr) z) h.split (l.in_range b))

-- A branch or jump fits what stands behind it; any item's field fits it.
pub jump_fits : (p : HardProgram) (slot : Bool) (i : Item) (more : List Item) → Lines p slot (i ∷ more) → is_jump i.instr ≡ true → ItemFits p i.fix i.instr more
jump_fits p slot i [] h j = absurd (elim h as (λ z. ⊥) [ inl z ↦ no_true (sym j ∙ ap is_jump z.1.nop) | inr z ↦ no_true (sym j ∙ ap is_jump z.stop) ])
jump_fits p slot i (k ∷ more) h j = h.0

stay_by : (p : HardProgram) (f : Fix) (x : Instr) (more : List Item) → is_jump x ≡ false → ItemFits p f x more → StayFits f x
stay_by p f (J target) more j h = absurd (no_true j)
stay_by p f (Jal target) more j h = absurd (no_true j)
stay_by p f (Jr rs) more j h = absurd (no_true j)
stay_by p f (Beq rs rt imm) more j h = absurd (no_true j)
stay_by p f (Bne rs rt imm) more j h = absurd (no_true j)
stay_by p f x more j h = h

pub stay_fits : (p : HardProgram) (slot : Bool) (i : Item) (more : List Item) → Lines p slot (i ∷ more) → is_jump i.instr ≡ false → StayFits i.fix i.instr
stay_fits p slot i [] h j = elim h as (λ z. StayFits i.fix i.instr) [
  | inl z ↦ subst (λ (f : Fix). StayFits f i.instr) (sym z.1.no_field) tt
  | inr z ↦ subst (λ (f : Fix). StayFits f i.instr) (sym z.no_field) tt
]
stay_fits p slot i (k ∷ more) h j = stay_by p i.fix i.instr (k ∷ more) j h.0

-- what every item's field fits, as the layout fills it
fits_any : (p : HardProgram) (slot : Bool) (i : Item) (more : List Item) → Lines p slot (i ∷ more) → ItemFits p i.fix i.instr more
fits_any p slot i [] h = elim h as (λ z. ItemFits p i.fix i.instr []) [
  | inl z ↦ subst (λ (x : Instr). ItemFits p i.fix x []) (sym z.1.nop) (subst (λ (f : Fix). StayFits f nop) (sym z.1.no_field) tt)
  | inr z ↦ subst (λ (x : Instr). ItemFits p i.fix x []) (sym z.stop) (subst (λ (f : Fix). StayFits f (Break z.code)) (sym z.no_field) tt)
]
fits_any p slot i (k ∷ more) h = h.0

pub in_words_more : (p : HardProgram) (b n a : ℕ) → a ≡ address p b + 4 * n → InWords (a + 4)
in_words_more p b n a e = record { words = (in_words p b).words + n + 1; is = sum a (address p b) n (in_words p b).words e (in_words p b).is }
  where
    sum : (a c n w : ℕ) → a ≡ c + 4 * n → c ≡ 0x00400000 + 4 * w → a + 4 ≡ 0x00400000 + 4 * (w + n + 1)
    sum a c n w e f = omega arith

-- What the machine does at an item.
pub planned_here : (p : HardProgram) (l : Layable p) (o : Bool) (b : ℕ) (i : Item) (more : List Item) (w : Way) (d : Data) (s : State) → s.text ≡ text p → SamePlace p o (spot b (i ∷ more) w d None) s → planned s ≡ act (filled p b s.pc i.fix i.instr) s
planned_here p l o b i more w d s t h =
    let r : IsInRange (filled p b s.pc i.fix i.instr) = filled_range p b s.pc i.fix i.instr more l (in_words_more p b (length h.done) s.pc h.pc) (fits_any p s.slot i more h.lines) (reach_here p l o b i more w d s h) (range_here p l o b i more w d s h) in
    let m : may_stand s.last_load s.quiet i.instr ≡ true = stand (is_break i.instr) refl in
    let f : is_jump (filled p b s.pc i.fix i.instr) ≡ is_jump i.instr = (filled_reads p b s.pc i.fix i.instr).1.1 in
    planned_item p s b h.done i more h.there h.split t h.pc r ∙ no_hazard s (filled p b s.pc i.fix i.instr) (filled_may_stand p b s.pc s.last_load s.quiet i.fix i.instr m) (λ k. f ∙ h.slot k)
  where
    stand : (z : Bool) → is_break i.instr ≡ z → may_stand s.last_load s.quiet i.instr ≡ true
    stand true e = break_may_stand s.last_load s.quiet i.instr e
    stand false e = (calm_tail s.last_load s.quiet i more h.calm e).0

-- ---- an item that goes nowhere

-- What both do at it.
pub record Done (p : HardProgram) (b : ℕ) (i : Item) (more : List Item) (d : Data) (s : State) : Type 0 where
  pub open_ : Bool
  pub halves : HalvesPair more open_
  pub outcome : Outcome p open_ b i (item_act b i d) d s (perform (item_act b i d) (machine_of d)) (perform (act (filled p b s.pc i.fix i.instr) s) s)
  pub last : last_of (item_act b i d) ≡ loaded i.instr
  pub quiet : quiet_of (item_act b i d) s.quiet ≡ quiet_after i.instr s.quiet

may_write_numbered : (o : Bool) (b : ℕ) (a : Act) → MayWrite o a → MayWrite o (numbered b a)
may_write_numbered o b (Write r v) h = h
may_write_numbered o b (Move r v) h = h
may_write_numbered o b (Load r v) h = h
may_write_numbered o b (Both r v) h = tt
may_write_numbered o b (Store r v) h = tt
may_write_numbered o b (Go to) h = tt
may_write_numbered o b (Link to) h = (below, inr (differ 31 25 refl refl))
  where
    below : 31 < 32
    below = omega arith

    differ : (m n : ℕ) → m ≡ 31 → n ≡ 25 → m ≢ n
    differ m n e f = omega arith
may_write_numbered o b Pass h = tt
may_write_numbered o b Service h = tt
may_write_numbered o b (Stop e) h = tt

no_call : (x : Instr) → is_jump x ≡ false → is_call x ≡ false
no_call (Jal target) j = absurd (no_true j)
no_call x j = refl

service_only : (b : ℕ) (a : Act) → numbered b a ≡ Service → a ≡ Service
service_only b (Write r v) e = absurd (no e)
  where
    no : Write r v ≡ Service → ⊥
    no e = cc
service_only b (Move r v) e = e
service_only b (Load r v) e = e
service_only b (Both r v) e = e
service_only b (Store r v) e = e
service_only b (Go to) e = absurd (no e)
  where
    no : Pass ≡ Service → ⊥
    no e = cc
service_only b (Link to) e = absurd (no e)
  where
    no : Write 31 (b + 1) ≡ Service → ⊥
    no e = cc
service_only b Pass e = e
service_only b Service e = e
service_only b (Stop x) e = e

asked : (rs : List ℕ) (a : Act) → Asks rs a → a ≡ Service → rs ≡ 2 ∷ 4 ∷ []
asked rs a h e = subst (λ (x : Act). Asks rs x) e h

serves : (p : HardProgram) (o : Bool) (b : ℕ) (d : Data) (s : State) (x : Instr) → SameData p o b d s → (o ≡ true → Each (λ r. r ≢ 25) (touched x)) → Each (λ r. d.backs r ≡ false) (reads_of x) → numbered b (act x (machine_of d)) ≡ Service → (d.backs 2 ≡ false) × ((reg s 2 ≡ held d 2) × (reg s 4 ≡ held d 4))
serves p o b d s x m h k e =
    let r : reads_of x ≡ 2 ∷ 4 ∷ [] = asked (reads_of x) (act x (machine_of d)) (asks x (machine_of d)) (service_only b (act x (machine_of d)) e) in
    let g : Each (λ r. d.backs r ≡ false) (2 ∷ 4 ∷ []) = subst (λ (z : List ℕ). Each (λ r. d.backs r ≡ false) z) r k in
    let f : Each (λ r. (o ≡ false) ⊎ (r ≢ 25)) (2 ∷ 4 ∷ []) = subst (λ (z : List ℕ). Each (λ r. (o ≡ false) ⊎ (r ≢ 25)) z) r (each_left (λ r. (o ≡ false) ⊎ (r ≢ 25)) (reads_of x) (machine.writes_of x) (apart_half o (touched x) h)) in
    (g.0, (reg_same p o b d s 2 m f.0 g.0, reg_same p o b d s 4 m f.1.0 g.1.0))

plain_store : (p : HardProgram) (o : Bool) (b : ℕ) (x : Instr) (k : Class) (d : Data) (s : State) → is_store x ≡ true → SameData p o b d s → (o ≡ true → Each (λ r. r ≢ 25) (touched x)) → Reads x d → Alike p (item x k Plain) d (numbered b (act x (machine_of d))) (act x s) × (numbered b (act x (machine_of d)) ≡ Service → ⊥)
plain_store p o b (Sw rt rs imm) k d s e m h g = (alike_store p o b (item (Sw rt rs imm) k Plain) d s rt rs imm refl m h g, λ q. no q)
  where
    no : Store (plus (held d rs) (extended imm)) (held d rt) ≡ Service → ⊥
    no q = cc
plain_store p o b x k d s e m h g = absurd (no_true (sym e))

plain_done : (p : HardProgram) (o : Bool) (b : ℕ) (x : Instr) (k : Class) (more : List Item) (d : Data) (s : State) → s.end ≡ None → SameData p o b d s → is_jump x ≡ false → IsInRange x → (o ≡ true → Each (λ r. r ≢ 25) (touched x)) → HalvesPair more o → Reads x d → Done p b (item x k Plain) more d s
plain_done p o b x k more d s e m j r h g q = record {
  open_ = o;
  halves = g;
  outcome = by (is_store x) refl;
  last = last_is b d x j;
  quiet = quiet_is b s.quiet d x j;
}
  where
    writes : MayWrite o (numbered b (act x (machine_of d)))
    writes = may_write_numbered o b (act x (machine_of d)) (may_write o x (machine_of d) r h)

    makes : makes_number (item x k Plain) ≡ false
    makes = ap (λ (z : Bool). cond z true false) (no_call x j)

    by : (z : Bool) → is_store x ≡ z → Outcome p o b (item x k Plain) (numbered b (act x (machine_of d))) d s (perform (numbered b (act x (machine_of d))) (machine_of d)) (perform (act x s) s)
    by true z = perform_alike p o b (item x k Plain) d s (numbered b (act x (machine_of d))) (act x s) m e (plain_store p o b x k d s z m h q).0 writes makes (λ y. absurd ((plain_store p o b x k d s z m h q).1 y))
    by false z = perform_alike p o b (item x k Plain) d s (numbered b (act x (machine_of d))) (act x s) m e (alike p o b (item x k Plain) d s m j z h q) writes makes (serves p o b d s x m h (none x j z q))
      where
        none : (x : Instr) → is_jump x ≡ false → is_store x ≡ false → Reads x d → Each (λ r. d.backs r ≡ false) (reads_of x)
        none (Jr rs) j s h = absurd (no_true j)
        none (Beq rs rt imm) j s h = absurd (no_true j)
        none (Sw rt rs imm) j s h = absurd (no_true s)
        none x j s h = h

high_done : (p : HardProgram) (b : ℕ) (k : Class) (more : List Item) (d : Data) (s : State) → s.end ≡ None → SameData p false b d s → HalvesPair more true → Done p b (item (Lui 25 0) k ReturnHigh) more d s
high_done p b k more d s e m g = record {
  open_ = true;
  halves = g;
  outcome = outcome.on refl e refl (record { regs = open_half p b d.backs d.regs s.regs (0 * 2 ^ 16) m.regs; memory = m.memory; hi = m.hi; lo = m.lo; feed = m.feed; fed = m.fed }) (record { pc = refl; text = refl; last = refl; quiet = refl; slot = refl }) refl;
  last = refl;
  quiet = refl;
}

low_done : (p : HardProgram) (b : ℕ) (k : Class) (more : List Item) (d : Data) (s : State) → s.end ≡ None → SameData p true b d s → HalvesPair more false → b < length p.blocks → Done p b (item (Ori 25 25 0) k ReturnLow) more d s
low_done p b k more d s e m g h = record {
  open_ = false;
  halves = g;
  outcome = subst (λ (z : ℕ). Outcome p false b (item (Ori 25 25 0) k ReturnLow) (Write 25 (b + 1)) d s (perform (Write 25 (b + 1)) (machine_of d)) (perform (Write 25 z) s)) (sym joined)
      (outcome.on refl e refl (record { regs = close_half p b d.backs d.regs s.regs m.regs (up b (length p.blocks) h); memory = m.memory; hi = m.hi; lo = m.lo; feed = m.feed; fed = m.fed }) (record { pc = refl; text = refl; last = refl; quiet = refl; slot = refl }) refl);
  last = refl;
  quiet = refl;
}
  where
    up : (b n : ℕ) → b < n → b + 1 ≤ n
    up b n h = omega arith

    whole : (a : ℕ) → a / 2 ^ 16 * 2 ^ 16 + a % 2 ^ 16 ≡ a
    whole a = omega arith

    low : (a : ℕ) → a % 2 ^ 16 < 2 ^ 16
    low a = omega arith

    joined : bit_or (reg s 25) (address p (b + 1) % 2 ^ 16) ≡ address p (b + 1)
    joined = ap (λ (z : ℕ). bit_or z (address p (b + 1) % 2 ^ 16)) (m.regs.half refl) ∙ (or_shifted (address p (b + 1) / 2 ^ 16) 16 (address p (b + 1) % 2 ^ 16) (low (address p (b + 1))) ∙ whole (address p (b + 1)))

pub done_by : (p : HardProgram) (o : Bool) (b : ℕ) (x : Instr) (k : Class) (f : Fix) (more : List Item) (d : Data) (s : State) → s.end ≡ None → SameData p o b d s → b < length p.blocks → is_jump x ≡ false → IsInRange x → StayFits f x → HalvesAt (HalvesPair more) f o x → Reads x d → Done p b (item x k f) more d s
done_by p o b x k Plain more d s e m t j r g h q = plain_done p o b x k more d s e m j r h.0 h.1 q
done_by p o b x k (Block c) more d s e m t j r g h q = absurd g
done_by p o b x k (Function c) more d s e m t j r g h q = absurd g
done_by p o b x k ReturnHigh more d s e m t j r g h q =
    subst (λ (z : Instr). Done p b (item z k ReturnHigh) more d s) (sym g) (high_done p b k more d s e (subst (λ (z : Bool). SameData p z b d s) h.0 m) h.1)
done_by p o b x k ReturnLow more d s e m t j r g h q =
    subst (λ (z : Instr). Done p b (item z k ReturnLow) more d s) (sym g) (low_done p b k more d s e (subst (λ (z : Bool). SameData p z b d s) h.0 m) h.1 t)
