-- Setting the checks keeps the run, and carries over what is true of each state.
use Rattle.std.proofs.Common.{◌≡◌, ◌≢◌, ◌≤◌, ◌<◌, ℕ, zero, suc, ◌+◌, ◌-◌, arith, ap, refl, sym, ◌∙◌, subst, List, [], ◌∷◌, ◌++◌, append_assoc, append-nil, length, Bool, true, false, cond, not, inl, inr, le_refl, flat_map}
use Rattle.std.specs.Prelude.{Option, Some, None, ◌==◌, ◌&&◌, slice_index}
use Rattle.hard_runs.specs.Observed.{SameObserved}
use Rattle.hard_runs.specs.Stepping.{Stands, Stage, Always, Follows, Leads, Beside, on, over, go, put}
use Rattle.hard_runs.proofs.Following.{follows, leads_on}
use Rattle.mips_isa.specs.declared.instr.Instr.{Instr}
use Rattle.mips_isa.specs.declared.instr.Instr.TheVariants.{J, Jal, Ori, Beq, Break}
use Rattle.mips_isa.specs.declared.instr.Act.{Act}
use Rattle.mips_isa.specs.declared.instr.Act.TheVariants.{Write, Move, Both, Load, Store, Go, Link, Pass, Service, Stop}
use Rattle.mips_isa.specs.declared.instr.End.{End}
use Rattle.mips_isa.specs.declared.instr.End.TheVariants.{Exception}
use Rattle.mips_isa.specs.Machine as machine
use Rattle.mips_isa.specs.Machine.{is_jump}
use Rattle.hard_items.specs.declared.code.Class.{Class}
use Rattle.hard_items.specs.declared.code.Class.TheVariants as class
use Rattle.hard_items.specs.declared.code.Fix.{Fix}
use Rattle.hard_items.specs.declared.code.Fix.TheVariants.{Plain, Block, Function, ReturnHigh, ReturnLow}
use Rattle.hard_items.specs.declared.code.Item.{Item}
use Rattle.hard_items.specs.declared.code.HardProgram.{HardProgram}
use Rattle.hard_items.specs.Streams.{nop, plain}
use Rattle.hard_items.specs.Run.{Data, Spot, Way, Onward, Over, To, items, before, at_block, items_of, item_act, machine_of, way_of, held, named, branch_way, arrived, data_after, backs_after, marked_reg, marked, settled, first_spot, item_run, step_from, tail, numbered}
use Rattle.hard_items.specs.Rules.{Lawful, LawfulAt, LawfulNext, AgreesAt, AgreesNext, Returns, checks_of, use_checks, SameIn}
use Rattle.hard_items.specs.Ways.{MayFollow}
use Rattle.hard_items.specs.Forms.{Each, check}
use Rattle.hard_items.specs.Counts.{is_of_check}
use Rattle.compare_pass.specs.Guarding.{guarded, acting, number_items, checks, with_checks, is_number, acts}

abbrev pub Good : HardProgram → Spot → Type 0
Good p s = LawfulAt p s × AgreesAt s

-- A state before some items.
abbrev pub spot : ℕ → List Item → Way → Data → Spot
spot b rest w d = record { block = b; rest = rest; way = w; now = d; end = None }

-- ---- delay slots

-- An item that gets no checks, behind an item of a check or not.
abbrev pub Unchecked : Bool → Item → Type 0
Unchecked checked i = guarded checked i ≡ i ∷ []

-- The item that comes next and the one behind it are as their way asks: what stands in a delay slot, and a break that a branch
-- skips, get no checks.
abbrev pub FitsWay : Way → Bool → List Item → Type 0
FitsWay Onward checked rest = Unit {0}
FitsWay Over checked [] = ⊥
FitsWay Over checked (i ∷ []) = ⊥
FitsWay Over checked (i ∷ j ∷ more) = Unchecked checked i × Unchecked (is_of_check i.class) j
FitsWay (To t) checked [] = ⊥
FitsWay (To t) checked (i ∷ more) = Unchecked checked i

-- Behind each branch and each jump.
abbrev pub SlotsFit : HardProgram → List Item → Type 0
SlotsFit p [] = Unit {0}
SlotsFit p (i ∷ more) = ((d : Data) → FitsWay (way_of p i d i.instr) (is_of_check i.class) more) × SlotsFit p more

-- ---- the parts of a step

way_same : (p q : HardProgram) (i : Item) (d : Data) (x : Instr) → q.entries ≡ p.entries → way_of q i d x ≡ way_of p i d x
way_same p q i d (J t) e = ap (λ (n : ℕ). To n) (named_same i.fix)
  where
    named_same : (f : Fix) → named q f ≡ named p f
    named_same Plain = refl
    named_same (Block t) = refl
    named_same (Function f) = ap (λ (l : List ℕ). slice_index l f) e
    named_same ReturnHigh = refl
    named_same ReturnLow = refl
way_same p q i d (Jal t) e = ap (λ (n : ℕ). To n) (named_same i.fix)
  where
    named_same : (f : Fix) → named q f ≡ named p f
    named_same Plain = refl
    named_same (Block t) = refl
    named_same (Function f) = ap (λ (l : List ℕ). slice_index l f) e
    named_same ReturnHigh = refl
    named_same ReturnLow = refl
way_same p q i d x e = refl

zero_by : (f : ℕ → Bool) (x : ℕ) (b : Bool) → f 0 ≡ false → marked_reg f x b 0 ≡ false
zero_by f x b h = elim (x == 0) as (λ z. (x == 0) ≡ z → (cond z f (marked f x b)) 0 ≡ false) [
  | true ↦ λ e. h
  | false ↦ λ e. ap (λ (z : Bool). cond z b (f 0)) (zero_apart x e) ∙ h
] refl
  where
    zero_apart : (x : ℕ) → (x == 0) ≡ false → (0 == x) ≡ false
    zero_apart x h = grind arith

-- $0 never holds a return number
zero_kept : (i : Item) (a : Act) (d : Data) → d.backs 0 ≡ false → backs_after i a d 0 ≡ false
zero_kept i (Write r v) d h = zero_by d.backs r (Rattle.hard_items.specs.Run.makes_number i) h
zero_kept i (Move r v) d h = zero_by d.backs r false h
zero_kept i (Both x y) d h = h
zero_kept i (Load r a) d h = zero_by d.backs r (d.stored (machine.place a)) h
zero_kept i (Store a v) d h = h
zero_kept i (Go t) d h = h
zero_kept i (Link t) d h = h
zero_kept i Pass d h = h
zero_kept i Service d h = zero_by d.backs 2 false h
zero_kept i (Stop e) d h = h

-- ---- checks lead on

none_some : {A : Type 0} (x : A) (o : Option A) → o ≡ None → o ≡ Some x → ⊥
none_some x o e f = cc

same_is : (x y : ℕ) → x ≡ y → (x == y) ≡ true
same_is x y e = grind arith

branch_passes : (b : ℕ) (z : Bool) (to : ℕ) → numbered b (cond z (Go to) Pass) ≡ Pass
branch_passes b true to = refl
branch_passes b false to = refl

compare : ℕ → ℕ → Item
compare x y = plain (Beq x y 2) class.Check

idle : Item
idle = plain nop class.Check

-- the comparison of two registers that are the same is taken
compares : (q : HardProgram) (b x y : ℕ) (i j : Item) (more : List Item) (d : Data) → SameIn d (x, y) → Leads (items q) (Good q) 1 (spot b (plain (Beq x y 2) class.Check ∷ i ∷ j ∷ more) Onward d) (spot b (i ∷ j ∷ more) Over d)
compares q b x y i j more d s =
    let c : Item = plain (Beq x y 2) class.Check in
    let act : item_act b c d ≡ Pass = branch_passes b (held d x == held d y) (machine.branch_target (machine_of d) 2) in
    let step : (items q).step (spot b (c ∷ i ∷ j ∷ more) Onward d) ≡ (spot b (i ∷ j ∷ more) Over d, None) =
    ap (λ (a : Act). Rattle.hard_items.specs.Run.do_item q (spot b (c ∷ i ∷ j ∷ more) Onward d) c (i ∷ j ∷ more) a) act ∙
    ap (λ (z : Bool). let o : Spot × Option ℕ = (spot b (i ∷ j ∷ more) (cond z Over Onward) d, None) in o) (same_is (held d x) (held d y) s.0) in (
      record {
        open_ = refl;
        good = (record { placed = tt; returns = tt; reads = s.1; no_exception = λ code at h. none_some (Exception code at) (machine.perform (item_act b c d) (machine_of d)).0.end (ap (λ (a : Act). (machine.perform a (machine_of d)).0.end) act) h }, tt);
        silent = ap (λ (o : Spot × Option ℕ). o.1) step;
      },
      ap (λ (o : Spot × Option ℕ). o.0) step,
    )

idles : (q : HardProgram) (b : ℕ) (j k : Item) (more : List Item) (d : Data) → d.backs 0 ≡ false → Leads (items q) (Good q) 1 (spot b (plain nop class.Check ∷ j ∷ k ∷ more) Over d) (spot b (k ∷ more) Onward d)
idles q b j k more d z = (record { open_ = refl; good = (record { placed = tt; returns = tt; reads = (z, tt); no_exception = λ code at h. none_some (Exception code at) None refl h }, tt); silent = refl }, refl)

cons_of : (cs : List (ℕ × ℕ)) (i : Item) (more : List Item) → (j : Item) × (rest : List Item) × (flat_map (λ c. check c.0 c.1) cs ++ (i ∷ more) ≡ j ∷ rest)
cons_of [] i more = (i, more, refl)
cons_of (c ∷ cs) i more = (plain (Beq c.0 c.1 2) class.Check, plain nop class.Check ∷ plain (Break 1) class.Check ∷ (flat_map (λ c. check c.0 c.1) cs ++ (i ∷ more)), refl)

pub checks_lead : (q : HardProgram) (b : ℕ) (cs : List (ℕ × ℕ)) (i : Item) (more : List Item) (d : Data) → d.backs 0 ≡ false → Each (SameIn d) cs → (k : ℕ) × Leads (items q) (Good q) k (spot b (flat_map (λ c. check c.0 c.1) cs ++ (i ∷ more)) Onward d) (spot b (i ∷ more) Onward d)
checks_lead q b [] i more d z s = (zero, refl)
checks_lead q b (c ∷ cs) i more d z s =
    let r : (k : ℕ) × Leads (items q) (Good q) k (spot b (flat_map (λ c. check c.0 c.1) cs ++ (i ∷ more)) Onward d) (spot b (i ∷ more) Onward d) = checks_lead q b cs i more d z s.1 in
    let tl : List Item = flat_map (λ c. check c.0 c.1) cs ++ (i ∷ more) in
    let n : (j : Item) × (rest : List Item) × (tl ≡ j ∷ rest) = cons_of cs i more in
    let whole : List Item = plain (Beq c.0 c.1 2) class.Check ∷ plain nop class.Check ∷ plain (Break 1) class.Check ∷ tl in (
      1 + (1 + r.0),
      leads_on (items q) (Good q) 1 (1 + r.0) (spot b whole Onward d) (spot b (plain nop class.Check ∷ plain (Break 1) class.Check ∷ tl) Over d) (spot b (i ∷ more) Onward d)
          (compares q b c.0 c.1 (plain nop class.Check) (plain (Break 1) class.Check) tl d s.0)
          (leads_on (items q) (Good q) 1 r.0 (spot b (plain nop class.Check ∷ plain (Break 1) class.Check ∷ tl) Over d) (spot b tl Onward d) (spot b (i ∷ more) Onward d)
          (subst (λ (l : List Item). Leads (items q) (Good q) 1 (spot b (plain nop class.Check ∷ plain (Break 1) class.Check ∷ l) Over d) (spot b l Onward d)) (sym n.2) (idles q b (plain (Break 1) class.Check) n.0 n.1 d z)) r.1),
    )

-- ---- two states side by side

-- The program that the checks are set in has the blocks of the old one, with their checks.
pub record IsGuarded (p q : HardProgram) : Type 0 where
  pub blocks : (b : ℕ) → items_of q b ≡ with_checks false (items_of p b)
  pub entries : q.entries ≡ p.entries
  pub initial : q.initial ≡ p.initial
  pub memory : q.memory_words ≡ p.memory_words

pub record Aligned (p : HardProgram) (h l : Spot) : Type 0 where
  pub going : h.end ≡ None
  pub checked : Bool
  pub is : l ≡ spot h.block (with_checks checked h.rest) h.way h.now
  pub fits : FitsWay h.way checked h.rest
  pub slots : SlotsFit p h.rest
  pub zero_ : h.now.backs 0 ≡ false

-- What the shape of the old program gives: slots without checks in each block; the new program has the same ways.
pub record Shaped (p q : HardProgram) : Type 0 where
  pub guarded_is : IsGuarded p q
  pub slots : (b : ℕ) → SlotsFit p (items_of p b)
  pub ways : (b c : ℕ) → MayFollow p b c → MayFollow q b c

before_is : (q : HardProgram) (b : ℕ) (xs : List Item) (k : Item) (tl : List Item) (w : Way) (d : Data) → xs ≡ k ∷ tl → before q b xs w d ≡ spot b xs w d
before_is q b xs k tl w d e = ap (λ (x : List Item). before q b x w d) e ∙ ap (λ (x : List Item). spot b x w d) (sym e)

guarded_cons : (z : Bool) (i : Item) → (k : Item) × (tl : List Item) × (guarded z i ≡ k ∷ tl)
guarded_cons z i = elim (acts i.class && not z) as (λ v. (k : Item) × (tl : List Item) × (cond v (acting i) (i ∷ []) ≡ k ∷ tl)) [
  | true ↦ elim (is_number i.instr) as (λ v. (k : Item) × (tl : List Item) × (cond v (number_items i) (checks (use_checks i.instr) ++ i ∷ []) ≡ k ∷ tl)) [
    | true ↦ (plain (Beq 4 14 2) class.Check, i ∷ plain (Break 1) class.Check ∷ [], refl)
    | false ↦ cons_of (use_checks i.instr) i []
  ]
  | false ↦ (i, [], refl)
]

aligned_before : (p q : HardProgram) (s : Shaped p q) (b : ℕ) (z : Bool) (more : List Item) (own : Way) (d : Data) → FitsWay own z more → SlotsFit p more → d.backs 0 ≡ false → Aligned p (before p b more own d) (before q b (with_checks z more) own d)
aligned_before p q s b z [] Onward d f sl h = record { going = refl; checked = false; is = ap (λ (x : List Item). spot (b + 1) x Onward d) (s.guarded_is.blocks (b + 1)); fits = tt; slots = s.slots (b + 1); zero_ = h }
aligned_before p q s b z [] Over d f sl h = absurd f
aligned_before p q s b z [] (To t) d f sl h = absurd f
aligned_before p q s b z (j ∷ rest) own d f sl h =
    let c : (k : Item) × (tl : List Item) × (guarded z j ≡ k ∷ tl) = guarded_cons z j in
    record { going = refl; checked = z; is = before_is q b (guarded z j ++ with_checks (is_of_check j.class) rest) c.0 (c.1 ++ with_checks (is_of_check j.class) rest) own d (ap (λ (x : List Item). x ++ with_checks (is_of_check j.class) rest) c.2); fits = f; slots = sl; zero_ = h }

aligned_block : (p q : HardProgram) (s : Shaped p q) (t : ℕ) (d : Data) → d.backs 0 ≡ false → Aligned p (at_block p t d) (at_block q t d)
aligned_block p q s t d z = record { going = refl; checked = false; is = ap (λ (x : List Item). spot t x Onward d) (s.guarded_is.blocks t); fits = tt; slots = s.slots t; zero_ = z }

-- What follows an item in the new block.
abbrev beyond : Item → List Item → List Item
beyond i more = with_checks (is_of_check i.class) more

-- Some code that ends with the item leads to the item itself.
pub record ReadyBy (p q : HardProgram) (b : ℕ) (i : Item) (more : List Item) (w : Way) (d : Data) (code : List Item) : Type 0 where
  pub steps : ℕ
  pub way : Way
  pub rest : List Item
  pub leads : Leads (items q) (Good q) steps (spot b (code ++ beyond i more) w d) (spot b (i ∷ rest) way d)
  pub arrives : (d' : Data) → d'.backs 0 ≡ false → Aligned p (arrived p w (way_of p i d i.instr) b more d') (arrived q way (way_of p i d i.instr) b rest d')

abbrev pub Ready : HardProgram → HardProgram → ℕ → Bool → Item → List Item → Way → Data → Type 0
Ready p q b z i more w d = ReadyBy p q b i more w d (guarded z i)

number_onward : (p : HardProgram) (i : Item) (d : Data) (x : Instr) → is_number x ≡ true → way_of p i d x ≡ Onward
number_onward p i d (Ori rt rs imm) h = refl
number_onward p i d x h = absurd (Rattle.std.proofs.Common.true≢false (sym h))

number_checks : (x : Instr) → is_number x ≡ true → use_checks x ≡ (4, 14) ∷ []
number_checks (Ori rt rs imm) h = refl
number_checks x h = absurd (Rattle.std.proofs.Common.true≢false (sym h))

number_unchecked : (c : Class) (x : Instr) → is_number x ≡ true → acts c ≡ true → is_of_check c ≡ false
number_unchecked class.Act x h e = refl
number_unchecked class.Master x h e = refl
number_unchecked class.Shadow x h e = refl
number_unchecked class.Check x h e = absurd (Rattle.std.proofs.Common.true≢false (sym e))
number_unchecked class.Head x h e = refl
number_unchecked class.Input x h e = refl

acting_checks : (c : Class) (x : Instr) → acts c ≡ true → checks_of c x ≡ use_checks x
acting_checks class.Master x h = absurd (Rattle.std.proofs.Common.true≢false (sym h))
acting_checks class.Shadow x h = absurd (Rattle.std.proofs.Common.true≢false (sym h))
acting_checks class.Check x h = absurd (Rattle.std.proofs.Common.true≢false (sym h))
acting_checks class.Act x h = refl
acting_checks class.Head x h = absurd (Rattle.std.proofs.Common.true≢false (sym h))
acting_checks class.Input x h = absurd (Rattle.std.proofs.Common.true≢false (sym h))

and_left : (x y : Bool) → (x && y) ≡ true → x ≡ true
and_left true y h = refl
and_left false y h = h

-- an item that is not in a delay slot
ready_onward : (p q : HardProgram) (s : Shaped p q) (b : ℕ) (z : Bool) (i : Item) (more : List Item) (d : Data) → SlotsFit p (i ∷ more) → d.backs 0 ≡ false → Each (SameIn d) (checks_of i.class i.instr) → Ready p q b z i more Onward d
ready_onward p q s b z i more d sl zero_ same = elim (acts i.class && not z) as (λ v. (acts i.class && not z) ≡ v → ReadyBy p q b i more Onward d (cond v (acting i) (i ∷ []))) [
  | false ↦ λ e. plainly
  | true ↦ λ e. let act : acts i.class ≡ true = and_left (acts i.class) (not z) e in
      let agree : Each (SameIn d) (use_checks i.instr) = subst (λ (x : List (ℕ × ℕ)). Each (SameIn d) x) (acting_checks i.class i.instr act) same in
      elim (is_number i.instr) as (λ v. is_number i.instr ≡ v → ReadyBy p q b i more Onward d (cond v (number_items i) (checks (use_checks i.instr) ++ i ∷ []))) [
        | true ↦ λ g.
            let c : Each (SameIn d) ((4, 14) ∷ []) = subst (λ (x : List (ℕ × ℕ)). Each (SameIn d) x) (number_checks i.instr g) agree in
            record {
              steps = 1;
              way = Over;
              rest = plain (Break 1) class.Check ∷ beyond i more;
              leads = compares q b 4 14 i (plain (Break 1) class.Check) (beyond i more) d c.0;
              arrives = λ d' z'. subst (λ (w : Way). Aligned p (before p b more w d') (before q b (beyond i more) Onward d')) (sym (number_onward p i d i.instr g)) (aligned_before p q s b (is_of_check i.class) more Onward d' tt sl.1 z');
            }
        | false ↦ λ g.
            let r : (k : ℕ) × Leads (items q) (Good q) k (spot b (checks (use_checks i.instr) ++ (i ∷ beyond i more)) Onward d) (spot b (i ∷ beyond i more) Onward d) = checks_lead q b (use_checks i.instr) i (beyond i more) d zero_ agree in
            record {
              steps = r.0;
              way = Onward;
              rest = beyond i more;
              leads = subst (λ (x : List Item). Leads (items q) (Good q) r.0 (spot b x Onward d) (spot b (i ∷ beyond i more) Onward d)) (sym (append_assoc (checks (use_checks i.instr)) (i ∷ []) (beyond i more))) r.1;
              arrives = λ d' z'. aligned_before p q s b (is_of_check i.class) more (way_of p i d i.instr) d' (sl.0 d) sl.1 z';
            }
      ] refl
] refl
  where
    plainly : ReadyBy p q b i more Onward d (i ∷ [])
    plainly = record { steps = zero; way = Onward; rest = beyond i more; leads = refl; arrives = λ d' z'. aligned_before p q s b (is_of_check i.class) more (way_of p i d i.instr) d' (sl.0 d) sl.1 z' }

-- an item in a delay slot
ready_over : (p q : HardProgram) (s : Shaped p q) (b : ℕ) (z : Bool) (i : Item) (more : List Item) (d : Data) → FitsWay Over z (i ∷ more) → SlotsFit p (i ∷ more) → Ready p q b z i more Over d
ready_over p q s b z i [] d f sl = absurd f
ready_over p q s b z i (j ∷ more) d f sl = record {
  steps = zero;
  way = Over;
  rest = j ∷ beyond j more;
  leads = ap (λ (x : List Item). spot b (x ++ beyond i (j ∷ more)) Over d) f.0 ∙ ap (λ (x : List Item). spot b (i ∷ (x ++ beyond j more)) Over d) f.1;
  arrives = λ d' z'. aligned_before p q s b (is_of_check j.class) more Onward d' tt sl.1.1 z';
}

ready_to : (p q : HardProgram) (s : Shaped p q) (b t : ℕ) (z : Bool) (i : Item) (more : List Item) (d : Data) → Unchecked z i → Ready p q b z i more (To t) d
ready_to p q s b t z i more d f = record {
  steps = zero;
  way = To t;
  rest = beyond i more;
  leads = ap (λ (x : List Item). spot b (x ++ beyond i more) (To t) d) f;
  arrives = λ d' z'. aligned_block p q s t d' z';
}

ready : (p q : HardProgram) (s : Shaped p q) (b : ℕ) (z : Bool) (i : Item) (more : List Item) (w : Way) (d : Data) → FitsWay w z (i ∷ more) → SlotsFit p (i ∷ more) → d.backs 0 ≡ false → Each (SameIn d) (checks_of i.class i.instr) → Ready p q b z i more w d
ready p q s b z i more Onward d f sl zero_ same = ready_onward p q s b z i more d sl zero_ same
ready p q s b z i more Over d f sl zero_ same = ready_over p q s b z i more d f sl
ready p q s b z i more (To t) d f sl zero_ same = ready_to p q s b t z i more d f

-- ---- the stage of one item

returns_same : (p q : HardProgram) (b : ℕ) (i : Instr) (d : Data) → ((c : ℕ) → MayFollow p b c → MayFollow q b c) → Returns p b i d → Returns q b i d
returns_same p q b (Instr.Jr rs) d f r = (r.0, f (held d rs) r.1)
returns_same p q b i d f r = r

-- what the item leaves on both sides
abbrev Out : (p q : HardProgram) (h last : Spot) (i : Item) (more rest : List Item) (a : Act) (res : machine.State × Option ℕ) → Option End → Type 0
Out p q h last i more rest a res o = ((settled q last i rest a res o).1 ≡ (settled p h i more a res o).1) × Beside (items q) (items p) (Aligned p) (settled p h i more a res o).0 (settled q last i rest a res o).0

by_end : (p q : HardProgram) (h : Spot) (i : Item) (more rest : List Item) (w : Way) (a : Act) (res : machine.State × Option ℕ) → Aligned p (arrived p h.way (way_of p i h.now i.instr) h.block more (data_after i a h.now res.0)) (arrived q w (way_of p i h.now i.instr) h.block rest (data_after i a h.now res.0)) →
    way_of q i h.now i.instr ≡ way_of p i h.now i.instr → (o : Option End) → Out p q h (spot h.block (i ∷ rest) w h.now) i more rest a res o
by_end p q h i more rest w a res al own None = (refl, on (subst (λ (x : Way). Aligned p (arrived p h.way (way_of p i h.now i.instr) h.block more (data_after i a h.now res.0)) (arrived q w x h.block rest (data_after i a h.now res.0))) (sym own) al))
by_end p q h i more rest w a res al own (Some e) = (refl, over e refl refl)

one_stage : (p q : HardProgram) (s : Shaped p q) (h l : Spot) (al : Aligned p h l) (i : Item) (more : List Item) → h.rest ≡ i ∷ more → Lawful p h.block i h.now → Each (SameIn h.now) (checks_of i.class i.instr) → Stage (items q) (items p) (Good q) (Aligned p) h l
one_stage p q s h l al i more e law same =
    let b : ℕ = h.block in
    let d : Data = h.now in
    let a : Act = item_act b i d in
    let res : machine.State × Option ℕ = machine.perform a (machine_of d) in
    let k : Ready p q b al.checked i more h.way d = ready p q s b al.checked i more h.way d (subst (λ (x : List Item). FitsWay h.way al.checked x) e al.fits) (subst (λ (x : List Item). SlotsFit p x) e al.slots) al.zero_ same in
    let last : Spot = spot b (i ∷ k.rest) k.way d in
    let start : spot b (guarded al.checked i ++ beyond i more) h.way d ≡ l = ap (λ (x : List Item). spot b (with_checks al.checked x) h.way d) (sym e) ∙ sym al.is in
    let high : (items p).step h ≡ settled p h i more a res res.0.end = ap (λ (x : Option End). step_from p h x) al.going ∙ ap (λ (x : List Item). Rattle.hard_items.specs.Run.step_rest p h x) e in
    let d' : Data = data_after i a d res.0 in
    let z' : d'.backs 0 ≡ false = zero_kept i a d al.zero_ in
    let own : way_of q i d i.instr ≡ way_of p i d i.instr = way_same p q i d i.instr s.guarded_is.entries in
    let both : Out p q h last i more k.rest a res res.0.end = by_end p q h i more k.rest k.way a res (k.arrives d' z') own res.0.end in
    record {
      more = zero;
      quiet = k.steps;
      last = last;
      going = al.going;
      leads = subst (λ (x : Spot). Leads (items q) (Good q) k.steps x last) start k.leads;
      open_ = refl;
      good = (record { placed = law.placed; returns = returns_same p q b i.instr d (s.ways b) law.returns; reads = law.reads; no_exception = law.no_exception }, same);
      fewer = Rattle.std.proofs.Common.zero-le;
      output = ap (λ (o : Option ℕ). put [] o) both.0 ∙ sym (ap (λ (o : Spot × Option ℕ). put [] o.1) high);
      next = subst (λ (x : Spot). Beside (items q) (items p) (Aligned p) x ((items q).step last).0) (sym (ap (λ (o : Spot × Option ℕ). o.0) high)) both.1;
    }

-- ---- the theorem

at_first : (p q : HardProgram) (s : Shaped p q) (input : List ℕ) → Aligned p (first_spot p input) (first_spot q input)
at_first p q s input = record {
  going = refl;
  checked = false;
  is = ap (λ (x : List Item). spot 0 x Onward (Rattle.hard_items.specs.Run.first_data q input)) (s.guarded_is.blocks 0) ∙ ap (λ (x : Data). spot 0 (with_checks false (items_of p 0)) Onward x) same_data;
  fits = tt;
  slots = s.slots 0;
  zero_ = refl;
}
  where
    same_data : Rattle.hard_items.specs.Run.first_data q input ≡ Rattle.hard_items.specs.Run.first_data p input
    same_data = ap (λ (x : List ℕ). let d : Data = record { regs = Rattle.std.proofs.Common.replicate 32 0; hi = 0; lo = 0; memory = x ++ Rattle.std.proofs.Common.replicate (q.memory_words - length x) 0; feed = input; fed = 0; backs = λ r. false; stored = λ r. false } in d) s.guarded_is.initial ∙
        ap (λ (n : ℕ). let d : Data = record { regs = Rattle.std.proofs.Common.replicate 32 0; hi = 0; lo = 0; memory = p.initial ++ Rattle.std.proofs.Common.replicate (n - length p.initial) 0; feed = input; fed = 0; backs = λ r. false; stored = λ r. false } in d) s.guarded_is.memory

items_stand : (p : HardProgram) → Stands (items p)
items_stand p s e h = ap (λ (o : Option End). step_from p s o) h

guard_follows : (p q : HardProgram) (s : Shaped p q) (input : List ℕ) → Always (items p) (first_spot p input) (Good p) → Follows (items q) (items p) (Good q) (Aligned p) (first_spot p input)
guard_follows p q s input good n l al = by_rest (go (items p) (first_spot p input) n).state l al (good n al.going) (go (items p) (first_spot p input) n).state.rest refl
  where
    by_rest : (h l : Spot) → Aligned p h l → Good p h → (xs : List Item) → h.rest ≡ xs → Stage (items q) (items p) (Good q) (Aligned p) h l
    by_rest h l al g [] e = absurd (subst (λ (x : List Item). LawfulNext p h.block x h.now) e g.0)
    by_rest h l al g (i ∷ more) e = one_stage p q s h l al i more e (subst (λ (x : List Item). LawfulNext p h.block x h.now) e g.0) (subst (λ (x : List Item). AgreesNext x h.now) e g.1)

-- Setting the checks keeps the run, and each state of the new program is good where each of the old one is.
pub guard_keeps : (p q : HardProgram) → Shaped p q → (input : List ℕ) → Always (items p) (first_spot p input) (Good p) → SameObserved (item_run q input) (item_run p input) × Always (items q) (first_spot q input) (Good q)
guard_keeps p q s input good = follows Spot Spot End (items q) (items p) (Good q) (Aligned p) (first_spot p input) (first_spot q input) (items_stand q) (items_stand p) (guard_follows p q s input good) (at_first p q s input)
