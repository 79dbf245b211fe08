-- What one act leaves of the data of both runs.
use Rattle.std.proofs.Common.{◌≡◌, ◌≢◌, ◌≤◌, ◌<◌, ℕ, ◌+◌, ◌-◌, ◌*◌, ◌/◌, ◌%◌, ◌^◌, arith, ap, refl, sym, ◌∙◌, subst, List, length, get_or, Bool, true, false, cond, inl, inr}
use Rattle.std.specs.Prelude.{Option, Some, None, slice_index, slice_set, ◌⊎◌, ◌==◌, ◌&&◌, not, nat_le, nat_lt}
use Rattle.std.proofs.lemmas.Grind.{common_steps}
use Rattle.mips_isa.specs.declared.instr.Act.{Act}
use Rattle.mips_isa.specs.declared.instr.Act.TheVariants.{Write, Move, Both, Load, Store, Go, Link, Pass, Service, Stop}
use Rattle.mips_isa.specs.declared.instr.End.{End}
use Rattle.mips_isa.specs.declared.instr.End.TheVariants.{Exited, Starved, Exception}
use Rattle.mips_isa.specs.Machine.{State, reg, plus, perform, written, moved, with_reg, load, store, service, ended, in_memory, place}
use Rattle.mips_laws.proofs.Beside.{load_by, store_by, load_is, store_is}
use Rattle.hard_items.specs.declared.code.Item.{Item}
use Rattle.hard_items.specs.declared.code.HardProgram.{HardProgram}
use Rattle.hard_items.specs.Run.{Data, machine_of, held, marked, marked_reg, makes_number, value_of, data_after}
use Rattle.layout_law.specs.Layout.{address}
use Rattle.layout_law.specs.Level.{worth, SameRegs, SameMemory, SameData, SameEnd}

-- ---- lists

pub set_at : (xs : List ℕ) (r x v : ℕ) → x ≡ r → r < length xs → get_or (slice_set xs r v) x 0 ≡ v
set_at xs r x v e h = grind (arith, common_steps)

pub set_off : (xs : List ℕ) (r x v : ℕ) → x ≢ r → get_or (slice_set xs r v) x 0 ≡ get_or xs x 0
set_off xs r x v e = grind (arith, common_steps)

pub set_length : (xs : List ℕ) (r v : ℕ) → length (slice_set xs r v) ≡ length xs
set_length xs r v = grind (arith, common_steps)

-- Two numbers are the same or not.
pub same_or_not : (x r : ℕ) → ((x ≡ r) × ((x == r) ≡ true)) ⊎ ((x ≢ r) × ((x == r) ≡ false))
same_or_not x r = by (x == r) refl
  where
    by : (z : Bool) → (x == r) ≡ z → ((x ≡ r) × ((x == r) ≡ true)) ⊎ ((x ≢ r) × ((x == r) ≡ false))
    by true e = inl (is e, e)
      where
        is : (x == r) ≡ true → x ≡ r
        is e = grind arith
    by false e = inr (isnt e, e)
      where
        isnt : (x == r) ≡ false → x ≢ r
        isnt e = grind arith

-- A word written beside a number, with the mark.
set_same : (p : HardProgram) (marks : ℕ → Bool) (hs ws : List ℕ) (r x v v' : ℕ) (mark : Bool) → length ws ≡ length hs → r < length hs → v' ≡ worth p mark v → slice_index ws x ≡ worth p (marks x) (slice_index hs x) →
    slice_index (slice_set ws r v') x ≡ worth p (marked marks r mark x) (slice_index (slice_set hs r v) x)
set_same p marks hs ws r x v v' mark l h e s = elim (same_or_not x r) as (λ z. slice_index (slice_set ws r v') x ≡ worth p (marked marks r mark x) (slice_index (slice_set hs r v) x)) [
  | inl z ↦ set_at ws r x v' z.0 (less r (length ws) (length hs) l h) ∙ (e ∙ (ap (λ (n : ℕ). worth p mark n) (sym (set_at hs r x v z.0 h)) ∙ ap (λ (b : Bool). worth p (cond b mark (marks x)) (slice_index (slice_set hs r v) x)) (sym z.1)))
  | inr z ↦ set_off ws r x v' z.0 ∙ (s ∙ (ap (λ (n : ℕ). worth p (marks x) n) (sym (set_off hs r x v z.0)) ∙ ap (λ (b : Bool). worth p (cond b mark (marks x)) (slice_index (slice_set hs r v) x)) (sym z.1)))
]
  where
    less : (r a b : ℕ) → a ≡ b → r < b → r < a
    less r a b e h = omega arith

set_blocks : (p : HardProgram) (marks : ℕ → Bool) (hs : List ℕ) (r x v : ℕ) (mark : Bool) → r < length hs → (mark ≡ true → v ≤ length p.blocks) → (marks x ≡ true → slice_index hs x ≤ length p.blocks) → marked marks r mark x ≡ true → slice_index (slice_set hs r v) x ≤ length p.blocks
set_blocks p marks hs r x v mark h f g m = elim (same_or_not x r) as (λ z. slice_index (slice_set hs r v) x ≤ length p.blocks) [
  | inl z ↦ subst (λ (n : ℕ). n ≤ length p.blocks) (sym (set_at hs r x v z.0 h)) (f (sym (ap (λ (b : Bool). cond b mark (marks x)) z.1) ∙ m))
  | inr z ↦ subst (λ (n : ℕ). n ≤ length p.blocks) (sym (set_off hs r x v z.0)) (g (sym (ap (λ (b : Bool). cond b mark (marks x)) z.1) ∙ m))
]

-- ---- registers

write_by : (p : HardProgram) (open_ : Bool) (b : ℕ) (backs : ℕ → Bool) (hs ws : List ℕ) (r v v' : ℕ) (mark : Bool) → SameRegs p open_ b backs hs ws → r < 32 → (open_ ≡ false) ⊎ (r ≢ 25) → v' ≡ worth p mark v → (mark ≡ true → v ≤ length p.blocks) → (z : Bool) →
    SameRegs p open_ b (cond z backs (marked backs r mark)) (cond z hs (slice_set hs r v)) (cond z ws (slice_set ws r v'))
write_by p open_ b backs hs ws r v v' mark s h o e f true = s
write_by p open_ b backs hs ws r v v' mark s h o e f false = record {
  all = set_length hs r v ∙ s.all;
  there = set_length ws r v' ∙ s.there;
  same = λ x k. set_same p backs hs ws r x v v' mark (s.there ∙ sym s.all) (less r (length hs) s.all h) e (s.same x k);
  half = λ k. elim o as (λ z. slice_index (slice_set ws r v') 25 ≡ address p (b + 1) / 2 ^ 16 * 2 ^ 16) [
    | inl z ↦ absurd (no open_ z k)
    | inr z ↦ set_off ws r 25 v' (λ q. z (sym q)) ∙ s.half k
  ];
  blocks = λ x m. set_blocks p backs hs r x v mark (less r (length hs) s.all h) f (s.blocks x) m;
}
  where
    less : (r a : ℕ) → a ≡ 32 → r < 32 → r < a
    less r a e h = omega arith

    no : (o : Bool) → o ≡ false → o ≡ true → ⊥
    no o e f = cc

pub write_same : (p : HardProgram) (open_ : Bool) (b : ℕ) (backs : ℕ → Bool) (hs ws : List ℕ) (r v v' : ℕ) (mark : Bool) → SameRegs p open_ b backs hs ws → r < 32 → (open_ ≡ false) ⊎ (r ≢ 25) → v' ≡ worth p mark v → (mark ≡ true → v ≤ length p.blocks) →
    SameRegs p open_ b (marked_reg backs r mark) (written hs r v) (written ws r v')
write_same p open_ b backs hs ws r v v' mark s h o e f = write_by p open_ b backs hs ws r v v' mark s h o e f (r == 0)

-- The high half of a return address opens the pair.
pub open_half : (p : HardProgram) (b : ℕ) (backs : ℕ → Bool) (hs ws : List ℕ) (v : ℕ) → SameRegs p false b backs hs ws → SameRegs p true b (marked_reg backs 25 false) (written hs 25 v) (written ws 25 (address p (b + 1) / 2 ^ 16 * 2 ^ 16))
open_half p b backs hs ws v s =
    let w : ℕ = address p (b + 1) / 2 ^ 16 * 2 ^ 16 in
    record {
      all = set_length hs 25 v ∙ s.all;
      there = set_length ws 25 w ∙ s.there;
      same = λ x k. elim (same_or_not x 25) as (λ z. slice_index (slice_set ws 25 w) x ≡ worth p (marked backs 25 false x) (slice_index (slice_set hs 25 v) x)) [
        | inl z ↦ absurd (elim k as (λ y. ⊥) [ inl y ↦ no y | inr y ↦ y z.0 ])
        | inr z ↦ set_off ws 25 x w z.0 ∙ (s.same x (inl refl) ∙ (ap (λ (n : ℕ). worth p (backs x) n) (sym (set_off hs 25 x v z.0)) ∙ ap (λ (b : Bool). worth p (cond b false (backs x)) (slice_index (slice_set hs 25 v) x)) (sym z.1)))
      ];
      half = λ k. set_at ws 25 25 w refl (less (length ws) s.there);
      blocks = λ x m. set_blocks p backs hs 25 x v false (less (length hs) s.all) (λ q. absurd (no (sym q))) (s.blocks x) m;
    }
  where
    no : true ≡ false → ⊥
    no e = cc

    less : (a : ℕ) → a ≡ 32 → 25 < a
    less a e = omega arith

-- The low half closes it.
pub close_half : (p : HardProgram) (b : ℕ) (backs : ℕ → Bool) (hs ws : List ℕ) → SameRegs p true b backs hs ws → b + 1 ≤ length p.blocks → SameRegs p false b (marked_reg backs 25 true) (written hs 25 (b + 1)) (written ws 25 (address p (b + 1)))
close_half p b backs hs ws s h =
    record {
      all = set_length hs 25 (b + 1) ∙ s.all;
      there = set_length ws 25 (address p (b + 1)) ∙ s.there;
      same = λ x k. elim (same_or_not x 25) as (λ z. slice_index (slice_set ws 25 (address p (b + 1))) x ≡ worth p (marked backs 25 true x) (slice_index (slice_set hs 25 (b + 1)) x)) [
        | inl z ↦ set_at ws 25 x (address p (b + 1)) z.0 (less (length ws) s.there) ∙ (ap (λ (n : ℕ). worth p true n) (sym (set_at hs 25 x (b + 1) z.0 (less (length hs) s.all))) ∙ ap (λ (y : Bool). worth p (cond y true (backs x)) (slice_index (slice_set hs 25 (b + 1)) x)) (sym z.1))
        | inr z ↦ set_off ws 25 x (address p (b + 1)) z.0 ∙ (s.same x (inr z.0) ∙ (ap (λ (n : ℕ). worth p (backs x) n) (sym (set_off hs 25 x (b + 1) z.0)) ∙ ap (λ (y : Bool). worth p (cond y true (backs x)) (slice_index (slice_set hs 25 (b + 1)) x)) (sym z.1)))
      ];
      half = λ k. absurd (no (sym k));
      blocks = λ x m. set_blocks p backs hs 25 x (b + 1) true (less (length hs) s.all) (λ q. h) (s.blocks x) m;
    }
  where
    no : true ≡ false → ⊥
    no e = cc

    less : (a : ℕ) → a ≡ 32 → 25 < a
    less a e = omega arith

-- Behind a closed pair the block does not matter.
pub any_block : (p : HardProgram) (b c : ℕ) (backs : ℕ → Bool) (hs ws : List ℕ) → SameRegs p false b backs hs ws → SameRegs p false c backs hs ws
any_block p b c backs hs ws s = record { all = s.all; there = s.there; same = s.same; half = λ k. absurd (no (sym k)); blocks = s.blocks }
  where
    no : true ≡ false → ⊥
    no e = cc

-- ---- memory

pub store_same : (p : HardProgram) (stored : ℕ → Bool) (hs ws : List ℕ) (q v v' : ℕ) (mark : Bool) → SameMemory p stored hs ws → q < length hs → v' ≡ worth p mark v → (mark ≡ true → v ≤ length p.blocks) → SameMemory p (marked stored q mark) (slice_set hs q v) (slice_set ws q v')
store_same p stored hs ws q v v' mark s h e f = record {
  there = set_length ws q v' ∙ (s.there ∙ sym (set_length hs q v));
  same = λ x. set_same p stored hs ws q x v v' mark s.there h e (s.same x);
  blocks = λ x m. set_blocks p stored hs q x v mark h f (s.blocks x) m;
}

-- ---- acts

-- An act of an item and one of its word: the same, but for the place of an end and the value of a store.
abbrev pub Alike : HardProgram → Item → Data → Act → Act → Type 0
Alike p i d (Write r v) b = b ≡ Write r v
Alike p i d (Move r v) b = b ≡ Move r v
Alike p i d (Both h l) b = b ≡ Both h l
Alike p i d (Load r a) b = b ≡ Load r a
Alike p i d (Store a v) b = (b ≡ Store a (worth p (d.backs (value_of i.instr)) v)) × (d.backs (value_of i.instr) ≡ true → v ≤ length p.blocks)
Alike p i d (Go to) b = ⊥
Alike p i d (Link to) b = ⊥
Alike p i d Pass b = ⊥
Alike p i d Service b = b ≡ Service
Alike p i d (Stop e) b = (f : End) × ((b ≡ Stop f) × SameEnd (Some e) (Some f))

-- The register that an act writes is there, and is not that of an open pair.
abbrev pub MayWrite : Bool → Act → Type 0
MayWrite o (Write r v) = (r < 32) × ((o ≡ false) ⊎ (r ≢ 25))
MayWrite o (Move r v) = (r < 32) × ((o ≡ false) ⊎ (r ≢ 25))
MayWrite o (Load r a) = (r < 32) × ((o ≡ false) ⊎ (r ≢ 25))
MayWrite o a = Unit {0}

-- What an act loads, and how many items must pass behind it.
abbrev pub last_of : Act → ℕ
last_of (Load r a) = r
last_of a = 0

abbrev pub quiet_of : Act → ℕ → ℕ
quiet_of (Move r v) q = 2
quiet_of a q = q - 1

-- The next word comes next.
pub record Moved (s t : State) (l q : ℕ) (z : Bool) : Type 0 where
  pub pc : t.pc ≡ s.npc
  pub text : t.text ≡ s.text
  pub last : t.last_load ≡ l
  pub quiet : t.quiet ≡ q
  pub slot : t.slot ≡ z

-- Both go on with the same data, or come to an end of one kind.
pub data Outcome (p : HardProgram) (open_ : Bool) (b : ℕ) (i : Item) (a : Act) (d : Data) (s : State) (high low : State × Option ℕ) : Type 0 where
  on : high.0.end ≡ None → low.0.end ≡ None → low.1 ≡ high.1 → SameData p open_ b (data_after i a d high.0) low.0 → Moved s low.0 (last_of a) (quiet_of a s.quiet) false → low.0.npc ≡ plus s.npc 4 → Outcome p open_ b i a d s high low
  over : (e f : End) → high.0.end ≡ Some e → low ≡ (record s { end = Some f }, None) → SameEnd (Some e) (Some f) → Outcome p open_ b i a d s high low

same_memory_there : (s : State) (d : Data) (a : ℕ) → length s.memory ≡ length d.memory → in_memory s a ≡ in_memory (machine_of d) a
same_memory_there s d a e = ap (λ (n : ℕ). nat_le 0x10010000 a && nat_lt (place a) n) e

in_there : (s : State) (a : ℕ) → in_memory s a ≡ true → place a < length s.memory
in_there s a e = by (nat_le 0x10010000 a) (nat_lt (place a) (length s.memory)) refl e
  where
    lt : (x y : ℕ) → nat_lt x y ≡ true → x < y
    lt x y e = grind arith

    by : (x y : Bool) → nat_lt (place a) (length s.memory) ≡ y → (x && y) ≡ true → place a < length s.memory
    by true true f e = lt (place a) (length s.memory) f
    by true false f e = absurd (no e)
      where
        no : false ≡ true → ⊥
        no e = cc
    by false y f e = absurd (no e)
      where
        no : false ≡ true → ⊥
        no e = cc

load_alike : (p : HardProgram) (open_ : Bool) (b : ℕ) (i : Item) (d : Data) (s : State) (r a : ℕ) → SameData p open_ b d s → s.end ≡ None → MayWrite open_ (Load r a) → (x y : Bool) → Outcome p open_ b i (Load r a) d s
    (cond x (ended (Exception 4 0) (machine_of d)) (cond y (ended (Exception 7 0) (machine_of d)) (record (with_reg (moved (machine_of d)) r (slice_index d.memory (place a))) { last_load = r }, None)))
    (cond x (ended (Exception 4 s.pc) s) (cond y (ended (Exception 7 s.pc) s) (record (with_reg (moved s) r (slice_index s.memory (place a))) { last_load = r }, None)))
load_alike p open_ b i d s r a m e w true y = over (Exception 4 0) (Exception 4 s.pc) refl refl (s.pc, refl)
load_alike p open_ b i d s r a m e w false true = over (Exception 7 0) (Exception 7 s.pc) refl refl (s.pc, refl)
load_alike p open_ b i d s r a m e w false false = on refl e refl
    (record { regs = write_same p open_ b d.backs d.regs s.regs r (slice_index d.memory (place a)) (slice_index s.memory (place a)) (d.stored (place a)) m.regs w.0 w.1 (m.memory.same (place a)) (m.memory.blocks (place a)); memory = m.memory; hi = m.hi; lo = m.lo; feed = m.feed; fed = m.fed })
    (record { pc = refl; text = refl; last = refl; quiet = refl; slot = refl }) refl

store_alike : (p : HardProgram) (open_ : Bool) (b : ℕ) (i : Item) (d : Data) (s : State) (a v v' : ℕ) → SameData p open_ b d s → s.end ≡ None → v' ≡ worth p (d.backs (value_of i.instr)) v → (d.backs (value_of i.instr) ≡ true → v ≤ length p.blocks) → (x y : Bool) → (y ≡ false → place a < length d.memory) → Outcome p open_ b i (Store a v) d s
    (cond x (ended (Exception 5 0) (machine_of d)) (cond y (ended (Exception 7 0) (machine_of d)) (record (moved (machine_of d)) { memory = slice_set d.memory (place a) v }, None)))
    (cond x (ended (Exception 5 s.pc) s) (cond y (ended (Exception 7 s.pc) s) (record (moved s) { memory = slice_set s.memory (place a) v' }, None)))
store_alike p open_ b i d s a v v' m e w g true y h = over (Exception 5 0) (Exception 5 s.pc) refl refl (s.pc, refl)
store_alike p open_ b i d s a v v' m e w g false true h = over (Exception 7 0) (Exception 7 s.pc) refl refl (s.pc, refl)
store_alike p open_ b i d s a v v' m e w g false false h = on refl e refl
    (record { regs = m.regs; memory = store_same p d.stored d.memory s.memory (place a) v v' (d.backs (value_of i.instr)) m.memory (h refl) w g; hi = m.hi; lo = m.lo; feed = m.feed; fed = m.fed })
    (record { pc = refl; text = refl; last = refl; quiet = refl; slot = refl }) refl

-- a service of this number with this argument, where a word of the input is there or not
abbrev served : State → ℕ → ℕ → Bool → State × Option ℕ
served s n a c =
    cond (n == 1) (moved s, Some a) (
    cond (n == 5) (cond c (record (with_reg (moved s) 2 (slice_index s.feed s.fed)) { fed = s.fed + 1 }, None) (ended Starved s)) (
    cond (n == 17) (ended (Exited a) s)
    (ended (Exception 8 s.pc) s)))

service_is : (s : State) (n a : ℕ) (c : Bool) → reg s 2 ≡ n → reg s 4 ≡ a → nat_lt s.fed (length s.feed) ≡ c → service s ≡ served s n a c
service_is s n a c e f g = rw (e, f, g) refl

-- A mark that does not stand is taken away.
unmark : (p : HardProgram) (open_ : Bool) (b : ℕ) (backs : ℕ → Bool) (hs ws : List ℕ) (r : ℕ) → SameRegs p open_ b backs hs ws → backs r ≡ false → SameRegs p open_ b (marked backs r false) hs ws
unmark p open_ b backs hs ws r s e = record {
  all = s.all;
  there = s.there;
  same = λ x k. s.same x k ∙ ap (λ (y : Bool). worth p y (slice_index hs x)) (sym (is x));
  half = s.half;
  blocks = λ x m. s.blocks x (sym (is x) ∙ m);
}
  where
    is : (x : ℕ) → marked backs r false x ≡ backs x
    is x = elim (same_or_not x r) as (λ z. marked backs r false x ≡ backs x) [
      | inl z ↦ ap (λ (y : Bool). cond y false (backs x)) z.1 ∙ (sym e ∙ ap backs (sym z.0))
      | inr z ↦ ap (λ (y : Bool). cond y false (backs x)) z.1
    ]

service_alike : (p : HardProgram) (b : ℕ) (i : Item) (d : Data) (s : State) (open_ : Bool) → SameData p open_ b d s → s.end ≡ None → d.backs 2 ≡ false → (a : ℕ) (x y z c : Bool) → Outcome p open_ b i Service d s
    (cond x (moved (machine_of d), Some a) (cond y (cond c (record (with_reg (moved (machine_of d)) 2 (slice_index d.feed d.fed)) { fed = d.fed + 1 }, None) (ended Starved (machine_of d))) (cond z (ended (Exited a) (machine_of d)) (ended (Exception 8 0) (machine_of d)))))
    (cond x (moved s, Some a) (cond y (cond c (record (with_reg (moved s) 2 (slice_index s.feed s.fed)) { fed = s.fed + 1 }, None) (ended Starved s)) (cond z (ended (Exited a) s) (ended (Exception 8 s.pc) s))))
service_alike p b i d s open_ m e u a true y z c = on refl e refl (record { regs = unmark p open_ b d.backs d.regs s.regs 2 m.regs u; memory = m.memory; hi = m.hi; lo = m.lo; feed = m.feed; fed = m.fed }) (record { pc = refl; text = refl; last = refl; quiet = refl; slot = refl }) refl
service_alike p b i d s open_ m e u a false true z true = on refl e refl
    (record { regs = write_same p open_ b d.backs d.regs s.regs 2 (slice_index d.feed d.fed) (slice_index s.feed s.fed) false m.regs (below 2) (inr (differ 2 25 refl refl)) (fed s.feed d.feed s.fed d.fed m.feed m.fed) (λ q. absurd (no q)); memory = m.memory; hi = m.hi; lo = m.lo; feed = m.feed; fed = ap (λ (n : ℕ). n + 1) m.fed })
    (record { pc = refl; text = refl; last = refl; quiet = refl; slot = refl }) refl
  where
    below : (r : ℕ) → 2 < 32
    below r = omega arith

    differ : (m n : ℕ) → m ≡ 2 → n ≡ 25 → m ≢ n
    differ m n e f = omega arith

    no : false ≡ true → ⊥
    no q = cc

    fed : (xs ys : List ℕ) (m n : ℕ) → xs ≡ ys → m ≡ n → slice_index xs m ≡ slice_index ys n
    fed xs ys m n e f = cc
service_alike p b i d s open_ m e u a false true z false = over Starved Starved refl refl refl
service_alike p b i d s open_ m e u a false false true c = over (Exited a) (Exited a) refl refl refl
service_alike p b i d s open_ m e u a false false false c = over (Exception 8 0) (Exception 8 s.pc) refl refl (s.pc, refl)

-- One act on both.
pub perform_alike : (p : HardProgram) (open_ : Bool) (b : ℕ) (i : Item) (d : Data) (s : State) (a c : Act) → SameData p open_ b d s → s.end ≡ None → Alike p i d a c → MayWrite open_ a → makes_number i ≡ false → (a ≡ Service → (d.backs 2 ≡ false) × ((reg s 2 ≡ held d 2) × (reg s 4 ≡ held d 4))) →
    Outcome p open_ b i a d s (perform a (machine_of d)) (perform c s)
perform_alike p open_ b i d s (Write r v) c m e k w n g =
    subst (λ (x : Act). Outcome p open_ b i (Write r v) d s (perform (Write r v) (machine_of d)) (perform x s)) (sym k)
    (on refl e refl (record { regs = subst (λ (z : Bool). SameRegs p open_ b (marked_reg d.backs r z) (written d.regs r v) (written s.regs r v)) (sym n) (write_same p open_ b d.backs d.regs s.regs r v v false m.regs w.0 w.1 refl (λ q. absurd (no q))); memory = m.memory; hi = m.hi; lo = m.lo; feed = m.feed; fed = m.fed })
    (record { pc = refl; text = refl; last = refl; quiet = refl; slot = refl }) refl)
  where
    no : false ≡ true → ⊥
    no q = cc
perform_alike p open_ b i d s (Move r v) c m e k w n g =
    subst (λ (x : Act). Outcome p open_ b i (Move r v) d s (perform (Move r v) (machine_of d)) (perform x s)) (sym k)
    (on refl e refl (record { regs = write_same p open_ b d.backs d.regs s.regs r v v false m.regs w.0 w.1 refl (λ q. absurd (no q)); memory = m.memory; hi = m.hi; lo = m.lo; feed = m.feed; fed = m.fed })
    (record { pc = refl; text = refl; last = refl; quiet = refl; slot = refl }) refl)
  where
    no : false ≡ true → ⊥
    no q = cc
perform_alike p open_ b i d s (Both h l) c m e k w n g =
    subst (λ (x : Act). Outcome p open_ b i (Both h l) d s (perform (Both h l) (machine_of d)) (perform x s)) (sym k)
    (on refl e refl (record { regs = m.regs; memory = m.memory; hi = refl; lo = refl; feed = m.feed; fed = m.fed })
    (record { pc = refl; text = refl; last = refl; quiet = refl; slot = refl }) refl)
perform_alike p open_ b i d s (Load r a) c m e k w n g =
    subst (λ (x : Act). Outcome p open_ b i (Load r a) d s (load (machine_of d) r a) (perform x s)) (sym k)
    (subst (λ (x : State × Option ℕ). Outcome p open_ b i (Load r a) d s x (load s r a)) (sym (load_is (machine_of d) (in_memory s a) r a (sym (same_memory_there s d a m.memory.there))))
    (subst (λ (x : State × Option ℕ). Outcome p open_ b i (Load r a) d s (load_by (in_memory s a) (machine_of d) r a) x) (sym (load_is s (in_memory s a) r a refl))
    (load_alike p open_ b i d s r a m e w (not (a % 4 == 0)) (not (in_memory s a)))))
perform_alike p open_ b i d s (Store a v) c m e k w n g =
    subst (λ (x : Act). Outcome p open_ b i (Store a v) d s (store (machine_of d) a v) (perform x s)) (sym k.0)
    (subst (λ (x : State × Option ℕ). Outcome p open_ b i (Store a v) d s x (store s a v')) (sym (store_is (machine_of d) (in_memory s a) a v (sym (same_memory_there s d a m.memory.there))))
    (subst (λ (x : State × Option ℕ). Outcome p open_ b i (Store a v) d s (store_by (in_memory s a) (machine_of d) a v) x) (sym (store_is s (in_memory s a) a v' refl))
    (store_alike p open_ b i d s a v v' m e refl k.1 (not (a % 4 == 0)) (not (in_memory s a)) (λ q. same (place a) (length s.memory) (length d.memory) m.memory.there (in_there s a (is (in_memory s a) q))))))
  where
    v' : ℕ
    v' = worth p (d.backs (value_of i.instr)) v

    is : (z : Bool) → not z ≡ false → z ≡ true
    is true e = refl
    is false e = sym e

    same : (n x y : ℕ) → x ≡ y → n < x → n < y
    same n x y e h = omega arith
perform_alike p open_ b i d s (Go to) c m e k w n g = absurd k
perform_alike p open_ b i d s (Link to) c m e k w n g = absurd k
perform_alike p open_ b i d s Pass c m e k w n g = absurd k
perform_alike p open_ b i d s Service c m e k w n g =
    let h : (d.backs 2 ≡ false) × ((reg s 2 ≡ held d 2) × (reg s 4 ≡ held d 4)) = g refl in
    let f : nat_lt d.fed (length d.feed) ≡ nat_lt s.fed (length s.feed) = there d.fed s.fed d.feed s.feed (sym m.fed) (sym m.feed) in
    subst (λ (x : Act). Outcome p open_ b i Service d s (service (machine_of d)) (perform x s)) (sym k)
    (subst (λ (x : State × Option ℕ). Outcome p open_ b i Service d s x (service s)) (sym (service_is (machine_of d) (reg s 2) (reg s 4) (nat_lt s.fed (length s.feed)) (sym h.1.0) (sym h.1.1) f))
    (subst (λ (x : State × Option ℕ). Outcome p open_ b i Service d s (served (machine_of d) (reg s 2) (reg s 4) (nat_lt s.fed (length s.feed))) x) (sym (service_is s (reg s 2) (reg s 4) (nat_lt s.fed (length s.feed)) refl refl refl))
    (service_alike p b i d s open_ m e h.0 (reg s 4) (reg s 2 == 1) (reg s 2 == 5) (reg s 2 == 17) (nat_lt s.fed (length s.feed)))))
  where
    there : (a b : ℕ) (xs ys : List ℕ) → a ≡ b → xs ≡ ys → nat_lt a (length xs) ≡ nat_lt b (length ys)
    there a b xs ys e f = cc
perform_alike p open_ b i d s (Stop x) c m e k w n g = over x k.0 refl (ap (λ (z : Act). perform z s) k.1.0) k.1.1
