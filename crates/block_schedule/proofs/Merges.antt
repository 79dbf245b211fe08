-- All merges of the units of two streams leave the same registers and memory.
use Rattle.std.proofs.Common.{◌≡◌, ◌≢◌, ◌≤◌, ◌<◌, ℕ, zero, suc, ◌+◌, ◌-◌, ◌*◌, ◌%◌, arith, ap, refl, sym, ◌∙◌, subst, List, [], ◌∷◌, ◌++◌, length, get_or, Bool, true, false, cond, not, inl, inr}
use Rattle.std.specs.Prelude.{Option, None, ◌⊎◌, ◌==◌, ◌&&◌, nat_le, nat_lt, slice_index, slice_set, IsTrue}
use Rattle.std.proofs.lemmas.Grind.{common_steps}
use Rattle.mips_isa.specs.declared.instr.Instr.{Instr}
use Rattle.mips_isa.specs.declared.instr.Instr.TheVariants as mips
use Rattle.mips_isa.specs.declared.instr.Act.{Act}
use Rattle.mips_isa.specs.declared.instr.Act.TheVariants.{Write, Move, Both, Load, Store, Go, Link, Pass, Service, Stop}
use Rattle.mips_isa.specs.declared.instr.End.{End}
use Rattle.mips_isa.specs.Machine as machine
use Rattle.mips_isa.specs.Machine.{reads_of, writes_of, written, is_product, place}
use Rattle.mips_isa.specs.Locality.{is_move, is_data, Agree, AgreeHalves, Twins}
use Rattle.mips_laws.proofs.Locality.{same_act, twins}
use Rattle.hard_items.specs.declared.code.Class.{Class}
use Rattle.hard_items.specs.declared.code.Class.TheVariants.{Master, Shadow}
use Rattle.hard_items.specs.declared.code.Fix.{Fix}
use Rattle.hard_items.specs.declared.code.Fix.TheVariants.{Plain, Block, Function, ReturnHigh, ReturnLow}
use Rattle.hard_items.specs.declared.code.Item.{Item}
use Rattle.hard_items.specs.Streams.{is_master, is_shadow, touched}
use Rattle.hard_items.specs.Run.{Data, item_act, data_after, machine_of, held, numbered, completed, marked, marked_reg, makes_number}
use Rattle.hard_words.specs.Words.{extended}
use Rattle.hard_items.specs.declared.code.HardProgram.{HardProgram}
use Rattle.hard_items.specs.Rules.{Lawful, Placed, Returns, Reads, Parity}
use Rattle.hard_items.specs.Forms.{Each, MayTouch, StandsAlone, IsProduct, HalfFits}
use Rattle.block_schedule.specs.declared.unit.Whole.{Whole}
use Rattle.block_schedule.specs.declared.unit.Whole.TheVariants.{One, Two}
use Rattle.block_schedule.specs.Scheduling.{unit_items}
use Rattle.block_schedule.specs.Merging.{IsUnit, AllUnits, Merge, done, first, second, leaves, leave, units_leave, SameButHalves, AllMergesSame}

-- ---- data that agree on some registers

pub record AgreesOn (K : ℕ → Type 0) (d e : Data) : Type 0 where
  pub len : length d.regs ≡ length e.regs
  pub regs : (q : ℕ) → K q → held d q ≡ held e q
  pub backs : (q : ℕ) → K q → d.backs q ≡ e.backs q
  pub memory : d.memory ≡ e.memory
  pub stored : (q : ℕ) → d.stored q ≡ e.stored q
  pub feed : d.feed ≡ e.feed
  pub fed : d.fed ≡ e.fed

set_agree : (a b : List ℕ) (r v q : ℕ) → length a ≡ length b → get_or a q 0 ≡ get_or b q 0 → get_or (slice_set a r v) q 0 ≡ get_or (slice_set b r v) q 0
set_agree a b r v q l h = grind (arith, common_steps)

set_len : (a b : List ℕ) (r s v w : ℕ) → length a ≡ length b → length (slice_set a r v) ≡ length (slice_set b s w)
set_len a b r s v w h = grind (arith, common_steps)

written_len : (a b : List ℕ) (r v w : ℕ) → length a ≡ length b → length (written a r v) ≡ length (written b r w)
written_len a b r v w h = elim (r == 0) as (λ z. length (cond z a (slice_set a r v)) ≡ length (cond z b (slice_set b r w))) [ true ↦ h | false ↦ set_len a b r r v w h ]

written_agree : (a b : List ℕ) (r v w q : ℕ) → v ≡ w → length a ≡ length b → get_or a q 0 ≡ get_or b q 0 → get_or (written a r v) q 0 ≡ get_or (written b r w) q 0
written_agree a b r v w q e l h = elim (r == 0) as (λ z. get_or (cond z a (slice_set a r v)) q 0 ≡ get_or (cond z b (slice_set b r w)) q 0) [
  | true ↦ h
  | false ↦ ap (λ (x : ℕ). get_or (slice_set a r x) q 0) e ∙ set_agree a b r w q l h
]

pub mark_agree : (f g : ℕ → Bool) (r : ℕ) (x y : Bool) (q : ℕ) → x ≡ y → f q ≡ g q → marked_reg f r x q ≡ marked_reg g r y q
mark_agree f g r x y q e h = elim (r == 0) as (λ z. (cond z f (marked f r x)) q ≡ (cond z g (marked g r y)) q) [
  | true ↦ h
  | false ↦ elim (q == r) as (λ z. cond z x (f q) ≡ cond z y (g q)) [ true ↦ e | false ↦ h ]
]

-- ---- what an act writes

-- An act computes, loads or moves into a register of a class, or puts HI and LO, or ends.
abbrev pub WritesOwn : Class → Act → Type 0
WritesOwn c (Write r v) = MayTouch c r
WritesOwn c (Move r v) = MayTouch c r
WritesOwn c (Both x y) = Unit {0}
WritesOwn c (Load r a) = MayTouch c r
WritesOwn c (Store a v) = ⊥
WritesOwn c (Go t) = ⊥
WritesOwn c (Link t) = ⊥
WritesOwn c Pass = ⊥
WritesOwn c Service = ⊥
WritesOwn c (Stop e) = Unit {0}

each_behind : (P : ℕ → Type 0) (xs ys : List ℕ) → Each P (xs ++ ys) → Each P ys
each_behind P [] ys h = h
each_behind P (x ∷ xs) ys h = each_behind P xs ys h.1

each_front : (P : ℕ → Type 0) (xs ys : List ℕ) → Each P (xs ++ ys) → Each P xs
each_front P [] ys h = tt
each_front P (x ∷ xs) ys h = (h.0, each_front P xs ys h.1)

own_by : (c : Class) (n at : ℕ) (ds : List ℕ) (a b : Act) → Twins at ds a b → Each (MayTouch c) ds → WritesOwn c (numbered n a)
own_by c n at ds (Write r v) b t h = (subst (λ (x : List ℕ). Each (MayTouch c) x) t.0 h).0
own_by c n at ds (Move r v) b t h = (subst (λ (x : List ℕ). Each (MayTouch c) x) t.0 h).0
own_by c n at ds (Both x y) b t h = tt
own_by c n at ds (Load r a) b t h = (subst (λ (x : List ℕ). Each (MayTouch c) x) t.0 h).0
own_by c n at ds (Store a v) b t h = absurd t
own_by c n at ds (Go x) b t h = absurd t
own_by c n at ds (Link x) b t h = absurd t
own_by c n at ds Pass b t h = absurd t
own_by c n at ds Service b t h = absurd t
own_by c n at ds (Stop e) b t h = tt

-- the same for an item, whose field may make it the number of the next block
item_own : (c : Class) (b : ℕ) (i : Item) (d : Data) → is_data i.instr ≡ true → Each (MayTouch c) (writes_of i.instr) → (i.fix ≡ ReturnLow → MayTouch c 25) → WritesOwn c (item_act b i d)
item_own c b i d data_row own low = by_fix i.fix refl
  where
    plainly : WritesOwn c (numbered b (machine.act i.instr (machine_of d)))
    plainly = own_by c b 0 (writes_of i.instr) (machine.act i.instr (machine_of d)) (machine.act i.instr (machine_of d)) (twins i.instr (machine_of d) (machine_of d) refl data_row) own

    by_fix : (f : Fix) → i.fix ≡ f → WritesOwn c (completed f b (numbered b (machine.act i.instr (machine_of d))))
    by_fix Plain e = plainly
    by_fix (Block t) e = plainly
    by_fix (Function t) e = plainly
    by_fix ReturnHigh e = plainly
    by_fix ReturnLow e = low e

-- ---- one act on both

load_regs : (d : Data) (r a : ℕ) (x y : Bool) → List ℕ
load_regs d r a x y = cond x d.regs (cond y d.regs (written d.regs r (slice_index d.memory (place a))))

keeps_parts : (x y : Bool) (s : machine.State) (u v : machine.State × Option ℕ) (e f : machine.State × Option ℕ) → Type 0
keeps_parts x y s u v e f = Unit {0}

-- what a load leaves of a state, by its two tests
abbrev loaded : machine.State → ℕ → ℕ → Bool → Bool → machine.State × Option ℕ
loaded s r a x y = cond x (machine.ended (End.Exception 4 s.pc) s) (cond y (machine.ended (End.Exception 7 s.pc) s) (record (machine.with_reg (machine.moved s) r (slice_index s.memory (place a))) { last_load = r }, None))

same_length : (d e : Data) → d.memory ≡ e.memory → (a : ℕ) → machine.in_memory (machine_of d) a ≡ machine.in_memory (machine_of e) a
same_length d e m a = ap (λ (x : List ℕ). nat_le 0x10010000 a && nat_lt (place a) (length x)) m

-- one act on data that agree
pub act_agrees : (K : ℕ → Type 0) (c : Class) (i : Item) (a : Act) (d e : Data) → WritesOwn c a → AgreesOn K d e → AgreesOn K (data_after i a d (machine.perform a (machine_of d)).0) (data_after i a e (machine.perform a (machine_of e)).0)
act_agrees K c i (Write r v) d e w h = record { len = written_len d.regs e.regs r v v h.len; regs = λ q k. written_agree d.regs e.regs r v v q refl h.len (h.regs q k); backs = λ q k. mark_agree d.backs e.backs r (makes_number i) (makes_number i) q refl (h.backs q k); memory = h.memory; stored = h.stored; feed = h.feed; fed = h.fed }
act_agrees K c i (Move r v) d e w h = record { len = written_len d.regs e.regs r v v h.len; regs = λ q k. written_agree d.regs e.regs r v v q refl h.len (h.regs q k); backs = λ q k. mark_agree d.backs e.backs r false false q refl (h.backs q k); memory = h.memory; stored = h.stored; feed = h.feed; fed = h.fed }
act_agrees K c i (Both x y) d e w h = record { len = h.len; regs = h.regs; backs = h.backs; memory = h.memory; stored = h.stored; feed = h.feed; fed = h.fed }
act_agrees K c i (Load r a) d e w h = by_tests (not (a % 4 == 0)) (not (machine.in_memory (machine_of d) a)) (not (machine.in_memory (machine_of e) a)) (ap (λ (z : Bool). not z) (same_length d e h.memory a))
  where
    by_tests : (x y z : Bool) → y ≡ z → AgreesOn K (data_after i (Load r a) d (loaded (machine_of d) r a x y).0) (data_after i (Load r a) e (loaded (machine_of e) r a x z).0)
    by_tests true y z s = record { len = h.len; regs = h.regs; backs = λ q k. mark_agree d.backs e.backs r (d.stored (place a)) (e.stored (place a)) q (h.stored (place a)) (h.backs q k); memory = h.memory; stored = h.stored; feed = h.feed; fed = h.fed }
    by_tests false true true s = record { len = h.len; regs = h.regs; backs = λ q k. mark_agree d.backs e.backs r (d.stored (place a)) (e.stored (place a)) q (h.stored (place a)) (h.backs q k); memory = h.memory; stored = h.stored; feed = h.feed; fed = h.fed }
    by_tests false true false s = absurd (Rattle.std.proofs.Common.true≢false s)
    by_tests false false true s = absurd (Rattle.std.proofs.Common.true≢false (sym s))
    by_tests false false false s = record { len = written_len d.regs e.regs r (slice_index d.memory (place a)) (slice_index e.memory (place a)) h.len; regs = λ q k. written_agree d.regs e.regs r (slice_index d.memory (place a)) (slice_index e.memory (place a)) q (ap (λ (x : List ℕ). slice_index x (place a)) h.memory) h.len (h.regs q k); backs = λ q k. mark_agree d.backs e.backs r (d.stored (place a)) (e.stored (place a)) q (h.stored (place a)) (h.backs q k); memory = h.memory; stored = h.stored; feed = h.feed; fed = h.fed }
act_agrees K c i (Store a v) d e w h = absurd w
act_agrees K c i (Go t) d e w h = absurd w
act_agrees K c i (Link t) d e w h = absurd w
act_agrees K c i Pass d e w h = absurd w
act_agrees K c i Service d e w h = absurd w
act_agrees K c i (Stop x) d e w h = record { len = h.len; regs = h.regs; backs = h.backs; memory = h.memory; stored = h.stored; feed = h.feed; fed = h.fed }

-- ---- an act of another stream

set_other : (a : List ℕ) (r v q : ℕ) → q ≢ r → get_or (slice_set a r v) q 0 ≡ get_or a q 0
set_other a r v q h = Rattle.std.proofs.Common.get_or-set_other a r q v 0 h

eq_is : (m n : ℕ) → (m == n) ≡ true → m ≡ n
eq_is m n h = grind arith

eq_not : (m n : ℕ) → (m == n) ≡ false → m ≢ n
eq_not m n h = grind arith

ne_false : (m n : ℕ) → m ≢ n → (m == n) ≡ false
ne_false m n h = grind arith

written_off : (a : List ℕ) (r v q : ℕ) → (r ≡ 0) ⊎ (q ≢ r) → get_or (written a r v) q 0 ≡ get_or a q 0
written_off a r v q h = elim (r == 0) as (λ z. (r == 0) ≡ z → get_or (cond z a (slice_set a r v)) q 0 ≡ get_or a q 0) [
  | true ↦ λ e. refl
  | false ↦ λ e. elim h as (λ x. get_or (slice_set a r v) q 0 ≡ get_or a q 0) [ inl o ↦ absurd (eq_not r 0 e o) | inr o ↦ set_other a r v q o ]
] refl

mark_off : (f : ℕ → Bool) (r : ℕ) (b : Bool) (q : ℕ) → (r ≡ 0) ⊎ (q ≢ r) → marked_reg f r b q ≡ f q
mark_off f r b q h = elim (r == 0) as (λ z. (r == 0) ≡ z → (cond z f (marked f r b)) q ≡ f q) [
  | true ↦ λ e. refl
  | false ↦ λ e. elim h as (λ x. cond (q == r) b (f q) ≡ f q) [ inl o ↦ absurd (eq_not r 0 e o) | inr o ↦ ap (λ (z : Bool). cond z b (f q)) (ne_false q r o) ]
] refl

one_len : (a : List ℕ) (r v : ℕ) → length (written a r v) ≡ length a
one_len a r v = elim (r == 0) as (λ z. length (cond z a (slice_set a r v)) ≡ length a) [ true ↦ refl | false ↦ Rattle.std.proofs.Common.length-set a r v ]

-- registers that a class does not write stay
pub act_leaves : (K : ℕ → Type 0) (c : Class) (i : Item) (a : Act) (d : Data) → WritesOwn c a → ((q r : ℕ) → K q → MayTouch c r → (r ≡ 0) ⊎ (q ≢ r)) → AgreesOn K (data_after i a d (machine.perform a (machine_of d)).0) d
act_leaves K c i (Write r v) d w o = record { len = one_len d.regs r v; regs = λ q k. written_off d.regs r v q (o q r k w); backs = λ q k. mark_off d.backs r (makes_number i) q (o q r k w); memory = refl; stored = λ q. refl; feed = refl; fed = refl }
act_leaves K c i (Move r v) d w o = record { len = one_len d.regs r v; regs = λ q k. written_off d.regs r v q (o q r k w); backs = λ q k. mark_off d.backs r false q (o q r k w); memory = refl; stored = λ q. refl; feed = refl; fed = refl }
act_leaves K c i (Both x y) d w o = record { len = refl; regs = λ q k. refl; backs = λ q k. refl; memory = refl; stored = λ q. refl; feed = refl; fed = refl }
act_leaves K c i (Load r a) d w o = by_tests (not (a % 4 == 0)) (not (machine.in_memory (machine_of d) a))
  where
    by_tests : (x y : Bool) → AgreesOn K (data_after i (Load r a) d (loaded (machine_of d) r a x y).0) d
    by_tests true y = record { len = refl; regs = λ q k. refl; backs = λ q k. mark_off d.backs r (d.stored (place a)) q (o q r k w); memory = refl; stored = λ q. refl; feed = refl; fed = refl }
    by_tests false true = record { len = refl; regs = λ q k. refl; backs = λ q k. mark_off d.backs r (d.stored (place a)) q (o q r k w); memory = refl; stored = λ q. refl; feed = refl; fed = refl }
    by_tests false false = record { len = one_len d.regs r (slice_index d.memory (place a)); regs = λ q k. written_off d.regs r (slice_index d.memory (place a)) q (o q r k w); backs = λ q k. mark_off d.backs r (d.stored (place a)) q (o q r k w); memory = refl; stored = λ q. refl; feed = refl; fed = refl }
act_leaves K c i (Store a v) d w o = absurd w
act_leaves K c i (Go t) d w o = absurd w
act_leaves K c i (Link t) d w o = absurd w
act_leaves K c i Pass d w o = absurd w
act_leaves K c i Service d w o = absurd w
act_leaves K c i (Stop x) d w o = record { len = refl; regs = λ q k. refl; backs = λ q k. refl; memory = refl; stored = λ q. refl; feed = refl; fed = refl }

-- ---- items and units of a class

agree_list : (K : ℕ → Type 0) (d e : Data) (rs : List ℕ) → AgreesOn K d e → Each K rs → Agree (machine_of d) (machine_of e) rs
agree_list K d e [] h x = tt
agree_list K d e (r ∷ rs) h x = (h.regs r x.0, agree_list K d e rs h x.1)

true_false : (z : Bool) → z ≡ true → z ≡ false → ⊥
true_false z e f = Rattle.std.proofs.Common.true≢false (sym e ∙ f)

-- the same act
pub same_item : (K : ℕ → Type 0) (b : ℕ) (i : Item) (d e : Data) → (is_move i.instr ≡ true → AgreeHalves (machine_of d) (machine_of e)) → Each K (reads_of i.instr) → AgreesOn K d e → item_act b i d ≡ item_act b i e
same_item K b i d e halves reads h = ap (λ (a : Act). completed i.fix b (numbered b a)) (same_act i.instr (machine_of d) (machine_of e) refl halves (agree_list K d e (reads_of i.instr) h reads))

one_agrees : (c : Class) (b : ℕ) (i : Item) (d e : Data) → is_data i.instr ≡ true → (i.fix ≡ ReturnLow → MayTouch c 25) → Each (MayTouch c) (touched i.instr) → (is_move i.instr ≡ true → AgreeHalves (machine_of d) (machine_of e)) → AgreesOn (MayTouch c) d e → AgreesOn (MayTouch c) (leaves b i d) (leaves b i e)
one_agrees c b i d e data_row low own halves h =
    let a : Act = item_act b i d in
    let same : a ≡ item_act b i e = same_item (MayTouch c) b i d e halves (each_front (MayTouch c) (reads_of i.instr) (writes_of i.instr) own) h in
    subst (λ (x : Act). AgreesOn (MayTouch c) (leaves b i d) (data_after i x e (machine.perform x (machine_of e)).0)) same
    (act_agrees (MayTouch c) c i a d e (item_own c b i d data_row (each_behind (MayTouch c) (reads_of i.instr) (writes_of i.instr) own) low) h)

one_leaves : (K : ℕ → Type 0) (c : Class) (b : ℕ) (i : Item) (d : Data) → is_data i.instr ≡ true → (i.fix ≡ ReturnLow → MayTouch c 25) → Each (MayTouch c) (touched i.instr) → ((q r : ℕ) → K q → MayTouch c r → (r ≡ 0) ⊎ (q ≢ r)) → AgreesOn K (leaves b i d) d
one_leaves K c b i d data_row low own off = act_leaves K c i (item_act b i d) d (item_own c b i d data_row (each_behind (MayTouch c) (reads_of i.instr) (writes_of i.instr) own) low) off

product_both : (i : Instr) (s : machine.State) → is_product i ≡ true → (h : ℕ) × ((l : ℕ) × (machine.act i s ≡ Both h l))
product_both (mips.Mult rs rt) s e = ((Rattle.hard_words.specs.Words.signed_product (machine.reg s rs) (machine.reg s rt)).0, ((Rattle.hard_words.specs.Words.signed_product (machine.reg s rs) (machine.reg s rt)).1, refl))
product_both (mips.Multu rs rt) s e = ((Rattle.hard_words.specs.Words.halves (machine.reg s rs * machine.reg s rt)).0, ((Rattle.hard_words.specs.Words.halves (machine.reg s rs * machine.reg s rt)).1, refl))
product_both (mips.Div rs rt) s e = ((Rattle.hard_words.specs.Words.signed_division (machine.reg s rs) (machine.reg s rt)).0, ((Rattle.hard_words.specs.Words.signed_division (machine.reg s rs) (machine.reg s rt)).1, refl))
product_both (mips.Divu rs rt) s e = ((Rattle.hard_words.specs.Words.division (machine.reg s rs) (machine.reg s rt)).0, ((Rattle.hard_words.specs.Words.division (machine.reg s rs) (machine.reg s rt)).1, refl))
product_both i s e = absurd (Rattle.std.proofs.Common.true≢false (sym e))

pub product_data : (i : Instr) → is_product i ≡ true → (is_data i ≡ true) × (is_move i ≡ false)
product_data (mips.Mult rs rt) e = (refl, refl)
product_data (mips.Multu rs rt) e = (refl, refl)
product_data (mips.Div rs rt) e = (refl, refl)
product_data (mips.Divu rs rt) e = (refl, refl)
product_data i e = absurd (Rattle.std.proofs.Common.true≢false (sym e))

move_data : (i : Instr) → is_move i ≡ true → is_data i ≡ true
move_data (mips.Mfhi rd) e = refl
move_data (mips.Mflo rd) e = refl
move_data i e = absurd (Rattle.std.proofs.Common.true≢false (sym e))

plain_not_low : (c : Class) (f : Fix) → f ≡ Plain → f ≡ ReturnLow → MayTouch c 25
plain_not_low c f e g = absurd (apart (sym e ∙ g))
  where
    apart : Plain ≡ ReturnLow → ⊥
    apart e = cc

alone_low : (c : Class) (i : Item) → StandsAlone i → i.class ≡ c → i.fix ≡ ReturnLow → MayTouch c 25
alone_low c i s e f =
    let low : (i.class ≡ Shadow) × (i.instr ≡ mips.Ori 25 25 0) = subst (λ (x : Fix). HalfFits i x) f s.half_fits in
    subst (λ (x : Class). MayTouch x 25) (sym low.0 ∙ e) (inr refl)

both_halves : (b : ℕ) (i : Item) (d e : Data) → i.fix ≡ Plain → is_product i.instr ≡ true → item_act b i d ≡ item_act b i e → AgreeHalves (machine_of (leaves b i d)) (machine_of (leaves b i e))
both_halves b i d e f p same =
    let x : (h : ℕ) × ((l : ℕ) × (machine.act i.instr (machine_of d) ≡ Both h l)) = product_both i.instr (machine_of d) p in
    let a : item_act b i d ≡ Both x.0 x.1.0 = ap (λ (g : Fix). completed g b (numbered b (machine.act i.instr (machine_of d)))) f ∙ ap (λ (y : Act). numbered b y) x.1.1 in
    let a' : item_act b i e ≡ Both x.0 x.1.0 = sym same ∙ a in (
      ap (λ (y : Act). (data_after i y d (machine.perform y (machine_of d)).0).hi) a ∙ sym (ap (λ (y : Act). (data_after i y e (machine.perform y (machine_of e)).0).hi) a'),
      ap (λ (y : Act). (data_after i y d (machine.perform y (machine_of d)).0).lo) a ∙ sym (ap (λ (y : Act). (data_after i y e (machine.perform y (machine_of e)).0).lo) a'),
    )

-- a unit on data that agree on its stream's registers
unit_agrees : (c : Class) (b : ℕ) (u : Whole) (d e : Data) → IsUnit c u → AgreesOn (MayTouch c) d e → AgreesOn (MayTouch c) (leave b (unit_items u) d) (leave b (unit_items u) e)
unit_agrees c b (One i) d e x h = one_agrees c b i d e x.0.computes (alone_low c i x.0 x.1) (subst (λ (y : Class). Each (MayTouch y) (touched i.instr)) x.1 x.0.own) (λ m. absurd (true_false (is_move i.instr) m x.0.no_move)) h
unit_agrees c b (Two i j) d e x h =
    let p : IsProduct i j = x.0 in
    let own : Each (MayTouch c) (touched i.instr) = subst (λ (y : Class). Each (MayTouch y) (touched i.instr)) x.1 p.own in
    let own' : Each (MayTouch c) (touched j.instr) = subst (λ (y : Class). Each (MayTouch y) (touched j.instr)) (sym p.one_stream ∙ x.1) p.own_move in
    let row : (is_data i.instr ≡ true) × (is_move i.instr ≡ false) = product_data i.instr p.product in
    let same : item_act b i d ≡ item_act b i e = same_item (MayTouch c) b i d e (λ m. absurd (true_false (is_move i.instr) m row.1)) (each_front (MayTouch c) (reads_of i.instr) (writes_of i.instr) own) h in
    one_agrees c b j (leaves b i d) (leaves b i e) (move_data j.instr p.move) (plain_not_low c j.fix p.plain_move) own' (λ m. both_halves b i d e p.plain_product p.product same)
    (one_agrees c b i d e row.0 (plain_not_low c i.fix p.plain_product) own (λ m. absurd (true_false (is_move i.instr) m row.1)) h)

agrees_then : (K : ℕ → Type 0) (d e g : Data) → AgreesOn K d e → AgreesOn K e g → AgreesOn K d g
agrees_then K d e g x y = record { len = x.len ∙ y.len; regs = λ q k. x.regs q k ∙ y.regs q k; backs = λ q k. x.backs q k ∙ y.backs q k; memory = x.memory ∙ y.memory; stored = λ q. x.stored q ∙ y.stored q; feed = x.feed ∙ y.feed; fed = x.fed ∙ y.fed }

agrees_back : (K : ℕ → Type 0) (d e : Data) → AgreesOn K d e → AgreesOn K e d
agrees_back K d e x = record { len = sym x.len; regs = λ q k. sym (x.regs q k); backs = λ q k. sym (x.backs q k); memory = sym x.memory; stored = λ q. sym (x.stored q); feed = sym x.feed; fed = sym x.fed }

agrees_self : (K : ℕ → Type 0) (d : Data) → AgreesOn K d d
agrees_self K d = record { len = refl; regs = λ q k. refl; backs = λ q k. refl; memory = refl; stored = λ q. refl; feed = refl; fed = refl }

-- a unit of a stream, and registers that are not its stream's
unit_leaves : (K : ℕ → Type 0) (c : Class) (b : ℕ) (u : Whole) (d : Data) → IsUnit c u → ((q r : ℕ) → K q → MayTouch c r → (r ≡ 0) ⊎ (q ≢ r)) → AgreesOn K (leave b (unit_items u) d) d
unit_leaves K c b (One i) d x off = one_leaves K c b i d x.0.computes (alone_low c i x.0 x.1) (subst (λ (y : Class). Each (MayTouch y) (touched i.instr)) x.1 x.0.own) off
unit_leaves K c b (Two i j) d x off =
    let p : IsProduct i j = x.0 in
    agrees_then K (leaves b j (leaves b i d)) (leaves b i d) d
    (one_leaves K c b j (leaves b i d) (move_data j.instr p.move) (plain_not_low c j.fix p.plain_move) (subst (λ (y : Class). Each (MayTouch y) (touched j.instr)) (sym p.one_stream ∙ x.1) p.own_move) off)
    (one_leaves K c b i d (product_data i.instr p.product).0 (plain_not_low c i.fix p.plain_product) (subst (λ (y : Class). Each (MayTouch y) (touched i.instr)) x.1 p.own) off)

-- ---- merges

stream_apart : (q : ℕ) → IsTrue (is_master q) → IsTrue (is_shadow q) → ⊥
stream_apart q m s = grind arith

off_shadow : (q r : ℕ) → MayTouch Master q → MayTouch Shadow r → (r ≡ 0) ⊎ (q ≢ r)
off_shadow q r (inl e) (inl f) = inl f
off_shadow q r (inr e) (inl f) = inl f
off_shadow q r (inl e) (inr f) = inr (λ g. zero_not (subst (λ (x : ℕ). IsTrue (is_shadow x)) (sym g ∙ e) f))
  where
    zero_not : IsTrue (is_shadow 0) → ⊥
    zero_not h = grind arith
off_shadow q r (inr e) (inr f) = inr (λ g. stream_apart r (subst (λ (x : ℕ). IsTrue (is_master x)) g e) f)

off_master : (q r : ℕ) → MayTouch Shadow q → MayTouch Master r → (r ≡ 0) ⊎ (q ≢ r)
off_master q r (inl e) (inl f) = inl f
off_master q r (inr e) (inl f) = inl f
off_master q r (inl e) (inr f) = inr (λ g. zero_not (subst (λ (x : ℕ). IsTrue (is_master x)) (sym g ∙ e) f))
  where
    zero_not : IsTrue (is_master 0) → ⊥
    zero_not h = grind arith
off_master q r (inr e) (inr f) = inr (λ g. stream_apart r f (subst (λ (x : ℕ). IsTrue (is_shadow x)) g e))

-- what a merge leaves in the registers of the first stream is what that stream leaves alone
pub merge_first : (b : ℕ) (ms ss l : List Whole) (d e : Data) → AllUnits Master ms → AllUnits Shadow ss → Merge ms ss l → AgreesOn (MayTouch Master) d e → AgreesOn (MayTouch Master) (units_leave b l d) (units_leave b ms e)
merge_first b ms ss l d e am as_ done h = h
merge_first b ms ss l d e am as_ (first u us vs k m) h = merge_first b us vs k (leave b (unit_items u) d) (leave b (unit_items u) e) am.1 as_ m (unit_agrees Master b u d e am.0 h)
merge_first b ms ss l d e am as_ (second u us vs k m) h = merge_first b us vs k (leave b (unit_items u) d) e am as_.1 m (agrees_then (MayTouch Master) (leave b (unit_items u) d) d e (unit_leaves (MayTouch Master) Shadow b u d as_.0 off_shadow) h)

pub merge_second : (b : ℕ) (ms ss l : List Whole) (d e : Data) → AllUnits Master ms → AllUnits Shadow ss → Merge ms ss l → AgreesOn (MayTouch Shadow) d e → AgreesOn (MayTouch Shadow) (units_leave b l d) (units_leave b ss e)
merge_second b ms ss l d e am as_ done h = h
merge_second b ms ss l d e am as_ (first u us vs k m) h = merge_second b us vs k (leave b (unit_items u) d) e am.1 as_ m (agrees_then (MayTouch Shadow) (leave b (unit_items u) d) d e (unit_leaves (MayTouch Shadow) Master b u d am.0 off_master) h)
merge_second b ms ss l d e am as_ (second u us vs k m) h = merge_second b us vs k (leave b (unit_items u) d) (leave b (unit_items u) e) am as_.1 m (unit_agrees Shadow b u d e as_.0 h)

-- registers of no stream
abbrev Others : ℕ → Type 0
Others q = (is_master q ≡ false) × (is_shadow q ≡ false)

off_others : (q r : ℕ) → Others q → MayTouch Master r → (r ≡ 0) ⊎ (q ≢ r)
off_others q r o (inl e) = inl e
off_others q r o (inr e) = inr (λ g. true_false (is_master q) (subst (λ (x : ℕ). is_master x ≡ true) (sym g) e) o.0)

off_others' : (q r : ℕ) → Others q → MayTouch Shadow r → (r ≡ 0) ⊎ (q ≢ r)
off_others' q r o (inl e) = inl e
off_others' q r o (inr e) = inr (λ g. true_false (is_shadow q) (subst (λ (x : ℕ). is_shadow x ≡ true) (sym g) e) o.1)

merge_others : (b : ℕ) (ms ss l : List Whole) (d : Data) → AllUnits Master ms → AllUnits Shadow ss → Merge ms ss l → AgreesOn Others (units_leave b l d) d
merge_others b ms ss l d am as_ done = agrees_self Others d
merge_others b ms ss l d am as_ (first u us vs k m) = agrees_then Others (units_leave b k (leave b (unit_items u) d)) (leave b (unit_items u) d) d (merge_others b us vs k (leave b (unit_items u) d) am.1 as_ m) (unit_leaves Others Master b u d am.0 off_others)
merge_others b ms ss l d am as_ (second u us vs k m) = agrees_then Others (units_leave b k (leave b (unit_items u) d)) (leave b (unit_items u) d) d (merge_others b us vs k (leave b (unit_items u) d) am as_.1 m) (unit_leaves Others Shadow b u d as_.0 off_others')

pub agrees_of : (K : ℕ → Type 0) (d e : Data) → SameButHalves d e → AgreesOn K d e
agrees_of K d e h = record { len = ap (λ (x : List ℕ). length x) h.regs; regs = λ q k. ap (λ (x : List ℕ). slice_index x q) h.regs; backs = λ q k. h.backs q; memory = h.memory; stored = h.stored; feed = h.feed; fed = h.fed }

-- Merges leave the same but HI and LO on data that are the same but HI and LO.
pub merges_beside : (b : ℕ) (ms ss l k : List Whole) (d e : Data) → AllUnits Master ms → AllUnits Shadow ss → Merge ms ss l → Merge ms ss k → SameButHalves d e → SameButHalves (units_leave b l d) (units_leave b k e)
merges_beside b ms ss l k d e am as_ x y h =
    let L : Data = units_leave b l d in
    let K : Data = units_leave b k e in
    let fm : AgreesOn (MayTouch Master) L K = agrees_then (MayTouch Master) L (units_leave b ms d) K (merge_first b ms ss l d d am as_ x (agrees_self (MayTouch Master) d)) (agrees_back (MayTouch Master) K (units_leave b ms d) (merge_first b ms ss k e d am as_ y (agrees_back (MayTouch Master) d e (agrees_of (MayTouch Master) d e h)))) in
    let fs : AgreesOn (MayTouch Shadow) L K = agrees_then (MayTouch Shadow) L (units_leave b ss d) K (merge_second b ms ss l d d am as_ x (agrees_self (MayTouch Shadow) d)) (agrees_back (MayTouch Shadow) K (units_leave b ss d) (merge_second b ms ss k e d am as_ y (agrees_back (MayTouch Shadow) d e (agrees_of (MayTouch Shadow) d e h)))) in
    let fo : AgreesOn Others L K = agrees_then Others L d K (merge_others b ms ss l d am as_ x) (agrees_then Others d e K (agrees_of Others d e h) (agrees_back Others K e (merge_others b ms ss k e am as_ y))) in
    let reg : (q : ℕ) → held L q ≡ held K q = (λ q. elim (is_master q) as (λ z. is_master q ≡ z → held L q ≡ held K q) [
      | true ↦ λ e. fm.regs q (inr e)
      | false ↦ λ e. elim (is_shadow q) as (λ z. is_shadow q ≡ z → held L q ≡ held K q) [ true ↦ λ f. fs.regs q (inr f) | false ↦ λ f. fo.regs q (e, f) ] refl
    ] refl) in
    let back : (q : ℕ) → L.backs q ≡ K.backs q = (λ q. elim (is_master q) as (λ z. is_master q ≡ z → L.backs q ≡ K.backs q) [
      | true ↦ λ e. fm.backs q (inr e)
      | false ↦ λ e. elim (is_shadow q) as (λ z. is_shadow q ≡ z → L.backs q ≡ K.backs q) [ true ↦ λ f. fs.backs q (inr f) | false ↦ λ f. fo.backs q (e, f) ] refl
    ] refl) in
    record {
      regs = Rattle.std.proofs.Common.ext_get_or 0 L.regs K.regs fm.len (λ q h. reg q);
      memory = fm.memory;
      feed = fm.feed;
      fed = fm.fed;
      backs = back;
      stored = fm.stored;
    }

beside_self : (d : Data) → SameButHalves d d
beside_self d = record { regs = refl; memory = refl; feed = refl; fed = refl; backs = λ q. refl; stored = λ q. refl }

-- All merges leave the same registers and memory.
pub all_merges_same : AllMergesSame
all_merges_same b ms ss l k d am as_ x y = merges_beside b ms ss l k d d am as_ x y (beside_self d)

-- ---- what is lawful in one merge is lawful in each

each_backs : (K : ℕ → Type 0) (d e : Data) (rs : List ℕ) → AgreesOn K d e → Each K rs → Each (λ r. d.backs r ≡ false) rs → Each (λ r. e.backs r ≡ false) rs
each_backs K d e [] h x y = tt
each_backs K d e (r ∷ rs) h x y = (sym (h.backs r x.0) ∙ y.0, each_backs K d e rs h x.1 y.1)

placed_same : (K : ℕ → Type 0) (d e : Data) (i : Instr) → is_data i ≡ true → AgreesOn K d e → Each K (reads_of i) → Placed i d → Placed i e
placed_same K d e (mips.Lw rt rs imm) r h x y = subst (λ (n : ℕ). Parity rt (machine.plus n (extended imm))) (h.regs rs x.0) y
placed_same K d e (mips.Sw rt rs imm) r h x y = absurd (Rattle.std.proofs.Common.true≢false (sym r))
placed_same K d e i r h x y = y

returns_same : (p : HardProgram) (b : ℕ) (d e : Data) (i : Instr) → is_data i ≡ true → Returns p b i d → Returns p b i e
returns_same p b d e (mips.Jr rs) r y = absurd (Rattle.std.proofs.Common.true≢false (sym r))
returns_same p b d e i r y = y

reads_same : (K : ℕ → Type 0) (d e : Data) (i : Instr) → is_data i ≡ true → AgreesOn K d e → Each K (reads_of i) → Reads i d → Reads i e
reads_same K d e (mips.Jr rs) r h x y = absurd (Rattle.std.proofs.Common.true≢false (sym r))
reads_same K d e (mips.Sw rt rs imm) r h x y = absurd (Rattle.std.proofs.Common.true≢false (sym r))
reads_same K d e (mips.Beq rs rt imm) r h x y = absurd (Rattle.std.proofs.Common.true≢false (sym r))
reads_same K d e i r h x y = each_backs K d e (reads_of i) h x y

-- one act ends alike on data that agree
end_same : (K : ℕ → Type 0) (c : Class) (a : Act) (d e : Data) → WritesOwn c a → AgreesOn K d e → (machine.perform a (machine_of d)).0.end ≡ (machine.perform a (machine_of e)).0.end
end_same K c (Write r v) d e w h = refl
end_same K c (Move r v) d e w h = refl
end_same K c (Both x y) d e w h = refl
end_same K c (Load r a) d e w h = by_tests (not (a % 4 == 0)) (not (machine.in_memory (machine_of d) a)) (not (machine.in_memory (machine_of e) a)) (ap (λ (z : Bool). not z) (same_length d e h.memory a))
  where
    by_tests : (x y z : Bool) → y ≡ z → (loaded (machine_of d) r a x y).0.end ≡ (loaded (machine_of e) r a x z).0.end
    by_tests true y z s = refl
    by_tests false true true s = refl
    by_tests false true false s = absurd (Rattle.std.proofs.Common.true≢false s)
    by_tests false false true s = absurd (Rattle.std.proofs.Common.true≢false (sym s))
    by_tests false false false s = refl
end_same K c (Store a v) d e w h = absurd w
end_same K c (Go t) d e w h = absurd w
end_same K c (Link t) d e w h = absurd w
end_same K c Pass d e w h = absurd w
end_same K c Service d e w h = absurd w
end_same K c (Stop x) d e w h = refl

one_lawful : (p : HardProgram) (c : Class) (b : ℕ) (i : Item) (d e : Data) → is_data i.instr ≡ true → (i.fix ≡ ReturnLow → MayTouch c 25) → Each (MayTouch c) (touched i.instr) → (is_move i.instr ≡ true → AgreeHalves (machine_of d) (machine_of e)) → AgreesOn (MayTouch c) d e → Lawful p b i d → Lawful p b i e
one_lawful p c b i d e row low own halves h law =
    let reads : Each (MayTouch c) (reads_of i.instr) = each_front (MayTouch c) (reads_of i.instr) (writes_of i.instr) own in
    let same : item_act b i d ≡ item_act b i e = same_item (MayTouch c) b i d e halves reads h in
    let w : WritesOwn c (item_act b i d) = item_own c b i d row (each_behind (MayTouch c) (reads_of i.instr) (writes_of i.instr) own) low in
    record {
      placed = placed_same (MayTouch c) d e i.instr row h reads law.placed;
      returns = returns_same p b d e i.instr row law.returns;
      reads = reads_same (MayTouch c) d e i.instr row h reads law.reads;
      no_exception = λ code at g. law.no_exception code at (end_same (MayTouch c) c (item_act b i d) d e w h ∙ (ap (λ (a : Act). (machine.perform a (machine_of e)).0.end) same ∙ g));
    }

-- Each item is lawful in turn.
abbrev pub LawfulAll : HardProgram → ℕ → List Item → Data → Type 0
LawfulAll p b [] d = Unit {0}
LawfulAll p b (i ∷ more) d = Lawful p b i d × LawfulAll p b more (leaves b i d)

abbrev pub LawfulUnits : HardProgram → ℕ → List Whole → Data → Type 0
LawfulUnits p b [] d = Unit {0}
LawfulUnits p b (u ∷ us) d = LawfulAll p b (unit_items u) d × LawfulUnits p b us (leave b (unit_items u) d)

unit_lawful : (p : HardProgram) (c : Class) (b : ℕ) (u : Whole) (d e : Data) → IsUnit c u → AgreesOn (MayTouch c) d e → LawfulAll p b (unit_items u) d → LawfulAll p b (unit_items u) e
unit_lawful p c b (One i) d e x h l = (one_lawful p c b i d e x.0.computes (alone_low c i x.0 x.1) (subst (λ (y : Class). Each (MayTouch y) (touched i.instr)) x.1 x.0.own) (λ m. absurd (true_false (is_move i.instr) m x.0.no_move)) h l.0, tt)
unit_lawful p c b (Two i j) d e x h l =
    let q : IsProduct i j = x.0 in
    let own : Each (MayTouch c) (touched i.instr) = subst (λ (y : Class). Each (MayTouch y) (touched i.instr)) x.1 q.own in
    let own' : Each (MayTouch c) (touched j.instr) = subst (λ (y : Class). Each (MayTouch y) (touched j.instr)) (sym q.one_stream ∙ x.1) q.own_move in
    let row : (is_data i.instr ≡ true) × (is_move i.instr ≡ false) = product_data i.instr q.product in
    let halves : is_move i.instr ≡ true → AgreeHalves (machine_of d) (machine_of e) = (λ m. absurd (true_false (is_move i.instr) m row.1)) in
    let same : item_act b i d ≡ item_act b i e = same_item (MayTouch c) b i d e halves (each_front (MayTouch c) (reads_of i.instr) (writes_of i.instr) own) h in (
      one_lawful p c b i d e row.0 (plain_not_low c i.fix q.plain_product) own halves h l.0,
      (one_lawful p c b j (leaves b i d) (leaves b i e) (move_data j.instr q.move) (plain_not_low c j.fix q.plain_move) own' (λ m. both_halves b i d e q.plain_product q.product same) (one_agrees c b i d e row.0 (plain_not_low c i.fix q.plain_product) own halves h) l.1.0, tt),
    )

split_first : (p : HardProgram) (b : ℕ) (ms ss l : List Whole) (d e : Data) → AllUnits Master ms → AllUnits Shadow ss → Merge ms ss l → AgreesOn (MayTouch Master) d e → LawfulUnits p b l d → LawfulUnits p b ms e
split_first p b ms ss l d e am as_ done h x = tt
split_first p b ms ss l d e am as_ (first u us vs k m) h x = (unit_lawful p Master b u d e am.0 h x.0, split_first p b us vs k (leave b (unit_items u) d) (leave b (unit_items u) e) am.1 as_ m (unit_agrees Master b u d e am.0 h) x.1)
split_first p b ms ss l d e am as_ (second u us vs k m) h x = split_first p b us vs k (leave b (unit_items u) d) e am as_.1 m (agrees_then (MayTouch Master) (leave b (unit_items u) d) d e (unit_leaves (MayTouch Master) Shadow b u d as_.0 off_shadow) h) x.1

split_second : (p : HardProgram) (b : ℕ) (ms ss l : List Whole) (d e : Data) → AllUnits Master ms → AllUnits Shadow ss → Merge ms ss l → AgreesOn (MayTouch Shadow) d e → LawfulUnits p b l d → LawfulUnits p b ss e
split_second p b ms ss l d e am as_ done h x = tt
split_second p b ms ss l d e am as_ (first u us vs k m) h x = split_second p b us vs k (leave b (unit_items u) d) e am.1 as_ m (agrees_then (MayTouch Shadow) (leave b (unit_items u) d) d e (unit_leaves (MayTouch Shadow) Master b u d am.0 off_master) h) x.1
split_second p b ms ss l d e am as_ (second u us vs k m) h x = (unit_lawful p Shadow b u d e as_.0 h x.0, split_second p b us vs k (leave b (unit_items u) d) (leave b (unit_items u) e) am as_.1 m (unit_agrees Shadow b u d e as_.0 h) x.1)

joined : (p : HardProgram) (b : ℕ) (ms ss l : List Whole) (d e g : Data) → AllUnits Master ms → AllUnits Shadow ss → Merge ms ss l → AgreesOn (MayTouch Master) d e → AgreesOn (MayTouch Shadow) d g → LawfulUnits p b ms e → LawfulUnits p b ss g → LawfulUnits p b l d
joined p b ms ss l d e g am as_ done h k x y = tt
joined p b ms ss l d e g am as_ (first u us vs r m) h k x y =
    let d' : Data = leave b (unit_items u) d in (
      unit_lawful p Master b u e d am.0 (agrees_back (MayTouch Master) d e h) x.0,
      joined p b us vs r d' (leave b (unit_items u) e) g am.1 as_ m (unit_agrees Master b u d e am.0 h) (agrees_then (MayTouch Shadow) d' d g (unit_leaves (MayTouch Shadow) Master b u d am.0 off_master) k) x.1 y,
    )
joined p b ms ss l d e g am as_ (second u us vs r m) h k x y =
    let d' : Data = leave b (unit_items u) d in (
      unit_lawful p Shadow b u g d as_.0 (agrees_back (MayTouch Shadow) d g k) y.0,
      joined p b us vs r d' e (leave b (unit_items u) g) am as_.1 m (agrees_then (MayTouch Master) d' d e (unit_leaves (MayTouch Master) Shadow b u d as_.0 off_shadow) h) (unit_agrees Shadow b u d g as_.0 k) x y.1,
    )

-- Where each item of one merge is lawful in turn, each item of every other is: no exception, each address of its parity.
pub all_merges_lawful : (p : HardProgram) (b : ℕ) (ms ss l k : List Whole) (d : Data) → AllUnits Master ms → AllUnits Shadow ss → Merge ms ss l → Merge ms ss k → LawfulUnits p b l d → LawfulUnits p b k d
all_merges_lawful p b ms ss l k d am as_ x y h =
    joined p b ms ss k d d d am as_ y (agrees_self (MayTouch Master) d) (agrees_self (MayTouch Shadow) d)
    (split_first p b ms ss l d d am as_ x (agrees_self (MayTouch Master) d) h) (split_second p b ms ss l d d am as_ x (agrees_self (MayTouch Shadow) d) h)

-- The same on data that are the same but HI and LO.
pub merges_lawful_beside : (p : HardProgram) (b : ℕ) (ms ss l k : List Whole) (d e : Data) → AllUnits Master ms → AllUnits Shadow ss → Merge ms ss l → Merge ms ss k → SameButHalves d e → LawfulUnits p b l d → LawfulUnits p b k e
merges_lawful_beside p b ms ss l k d e am as_ x y s h =
    joined p b ms ss k e d d am as_ y (agrees_back (MayTouch Master) d e (agrees_of (MayTouch Master) d e s)) (agrees_back (MayTouch Shadow) d e (agrees_of (MayTouch Shadow) d e s))
    (split_first p b ms ss l d d am as_ x (agrees_self (MayTouch Master) d) h) (split_second p b ms ss l d d am as_ x (agrees_self (MayTouch Shadow) d) h)
