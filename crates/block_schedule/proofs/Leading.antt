-- A stretch of lawful units runs as quiet steps, in whatever order its streams are merged.
use Rattle.std.proofs.Common.{◌≡◌, ◌≢◌, ◌≤◌, ◌<◌, ℕ, zero, suc, ◌+◌, ◌%◌, ap, refl, sym, ◌∙◌, subst, List, [], ◌∷◌, ◌++◌, length, Bool, true, false, cond, not, inl, inr, flat_map, ⊎_elim}
use Rattle.std.specs.Prelude.{Option, Some, None, ◌⊎◌, ◌==◌, slice_index}
use Rattle.hard_runs.specs.Stepping.{Leads}
use Rattle.mips_isa.specs.declared.instr.Instr.{Instr}
use Rattle.mips_isa.specs.declared.instr.Instr.TheVariants as mips
use Rattle.mips_isa.specs.declared.instr.Act.{Act}
use Rattle.mips_isa.specs.declared.instr.Act.TheVariants.{Write, Move, Both, Load, Store, Go, Link, Pass, Service, Stop}
use Rattle.mips_isa.specs.declared.instr.End.{End}
use Rattle.mips_isa.specs.declared.instr.End.TheVariants.{Exception}
use Rattle.mips_isa.specs.Machine as machine
use Rattle.mips_isa.specs.Machine.{writes_of, place}
use Rattle.mips_isa.specs.Locality.{is_data, Twins}
use Rattle.mips_laws.proofs.Locality.{twins}
use Rattle.hard_items.specs.declared.code.Class.{Class}
use Rattle.hard_items.specs.declared.code.Class.TheVariants as class
use Rattle.hard_items.specs.declared.code.Fix.{Fix}
use Rattle.hard_items.specs.declared.code.Fix.TheVariants.{Plain, Block, Function, ReturnHigh, ReturnLow}
use Rattle.hard_items.specs.declared.code.Item.{Item}
use Rattle.hard_items.specs.declared.code.HardProgram.{HardProgram}
use Rattle.hard_items.specs.Streams.{is_stream}
use Rattle.hard_items.specs.Run.{Data, Spot, Way, Onward, items, item_act, machine_of, way_of, settled, numbered, completed}
use Rattle.hard_items.specs.Rules.{LawfulAt, NoException}
use Rattle.hard_items.specs.Forms.{Each}
use Rattle.block_schedule.specs.declared.unit.Whole.{Whole}
use Rattle.block_schedule.specs.declared.unit.Whole.TheVariants.{One, Two}
use Rattle.block_schedule.specs.Scheduling.{unit_items}
use Rattle.block_schedule.specs.Merging.{IsUnit, AllUnits, Merge, done, first, second, leaves, leave, units_leave, SameButHalves}
use Rattle.block_schedule.proofs.Merges.{LawfulAll, LawfulUnits, all_merges_same, all_merges_lawful, product_data}

abbrev pub spot : ℕ → List Item → Way → Data → Spot
spot b rest w d = record { block = b; rest = rest; way = w; now = d; end = None }

abbrev pub Good : HardProgram → Spot → Type 0
Good p s = LawfulAt p s

move_data : (i : Instr) → Rattle.mips_isa.specs.Locality.is_move i ≡ true → is_data i ≡ true
move_data (mips.Mfhi rd) h = refl
move_data (mips.Mflo rd) h = refl
move_data x h = absurd (Rattle.std.proofs.Common.true≢false (sym h))

-- ---- one item

-- An act ends a run by an exception at most, and puts out nothing.
abbrev AtMostException : Option End → Type 0
AtMostException o = (o ≡ None) ⊎ ((code : ℕ) × (at : ℕ) × (o ≡ Some (Exception code at)))

abbrev Silently : machine.State × Option ℕ → Type 0
Silently r = AtMostException r.0.end × (r.1 ≡ None)

by_act : (n at : ℕ) (ds : List ℕ) (a b : Act) (d : Data) → Twins at ds a b → Silently (machine.perform (numbered n a) (machine_of d))
by_act n at ds (Write r v) b d t = (inl refl, refl)
by_act n at ds (Move r v) b d t = (inl refl, refl)
by_act n at ds (Both x y) b d t = (inl refl, refl)
by_act n at ds (Load r a) b d t = by_tests (not (a % 4 == 0)) (not (machine.in_memory (machine_of d) a))
  where
    s : machine.State
    s = machine_of d

    by_tests : (x y : Bool) → Silently (cond x (machine.ended (Exception 4 s.pc) s) (cond y (machine.ended (Exception 7 s.pc) s) (record (machine.with_reg (machine.moved s) r (slice_index s.memory (place a))) { last_load = r }, None)))
    by_tests true y = (inr (4, 0, refl), refl)
    by_tests false true = (inr (7, 0, refl), refl)
    by_tests false false = (inl refl, refl)
by_act n at ds (Store a v) b d t = absurd t
by_act n at ds (Go x) b d t = absurd t
by_act n at ds (Link x) b d t = absurd t
by_act n at ds Pass b d t = absurd t
by_act n at ds Service b d t = absurd t
by_act n at ds (Stop e) b d t = (inr (12, at, ap (λ (x : End). Some x) t), refl)

item_silent : (b : ℕ) (i : Item) (d : Data) → is_data i.instr ≡ true → Silently (machine.perform (item_act b i d) (machine_of d))
item_silent b i d row = by_fix i.fix
  where
    plainly : Silently (machine.perform (numbered b (machine.act i.instr (machine_of d))) (machine_of d))
    plainly = by_act b 0 (writes_of i.instr) (machine.act i.instr (machine_of d)) (machine.act i.instr (machine_of d)) d (twins i.instr (machine_of d) (machine_of d) refl row)

    by_fix : (f : Fix) → Silently (machine.perform (completed f b (numbered b (machine.act i.instr (machine_of d)))) (machine_of d))
    by_fix Plain = plainly
    by_fix (Block t) = plainly
    by_fix (Function t) = plainly
    by_fix ReturnHigh = plainly
    by_fix ReturnLow = (inl refl, refl)

goes_onward : (p : HardProgram) (i : Item) (d : Data) (x : Instr) → is_data x ≡ true → way_of p i d x ≡ Onward
goes_onward p i d (mips.J t) h = absurd (Rattle.std.proofs.Common.true≢false (sym h))
goes_onward p i d (mips.Jal t) h = absurd (Rattle.std.proofs.Common.true≢false (sym h))
goes_onward p i d (mips.Jr rs) h = absurd (Rattle.std.proofs.Common.true≢false (sym h))
goes_onward p i d (mips.Beq rs rt imm) h = absurd (Rattle.std.proofs.Common.true≢false (sym h))
goes_onward p i d (mips.Bne rs rt imm) h = absurd (Rattle.std.proofs.Common.true≢false (sym h))
goes_onward p i d x h = refl

-- An item of a stretch.
abbrev pub InStretch : Item → Type 0
InStretch i = (is_data i.instr ≡ true) × (is_stream i.class ≡ true)

pub data_step : (q : HardProgram) (b : ℕ) (i j : Item) (more : List Item) (d : Data) → is_data i.instr ≡ true → NoException b i d → (items q).step (spot b (i ∷ j ∷ more) Onward d) ≡ (spot b (j ∷ more) Onward (leaves b i d), None)
data_step q b i j more d row fine =
    let a : Act = item_act b i d in
    let r : machine.State × Option ℕ = machine.perform a (machine_of d) in
    let s : Silently r = item_silent b i d row in
    let none : r.0.end ≡ None = ⊎_elim (λ e. e) (λ x. absurd (fine x.0 x.1 x.2)) s.0 in
    ap (λ (o : Option End). settled q (spot b (i ∷ j ∷ more) Onward d) i (j ∷ more) a r o) none ∙
    (ap (λ (w : Way). let o : Spot × Option ℕ = (spot b (j ∷ more) w (leaves b i d), r.1) in o) (goes_onward q i d i.instr row) ∙
    ap (λ (o : Option ℕ). let x : Spot × Option ℕ = (spot b (j ∷ more) Onward (leaves b i d), o) in x) s.1)

-- ---- stretches

begins : (xs : List Item) (j : Item) (more : List Item) → (k : Item) × (tl : List Item) × (xs ++ j ∷ more ≡ k ∷ tl)
begins [] j more = (j, more, refl)
begins (x ∷ xs) j more = (x, xs ++ j ∷ more, refl)

pub all_lead : (q : HardProgram) (b : ℕ) (xs : List Item) (j : Item) (more : List Item) (d : Data) → Each InStretch xs → LawfulAll q b xs d → Leads (items q) (Good q) (length xs) (spot b (xs ++ j ∷ more) Onward d) (spot b (j ∷ more) Onward (leave b xs d))
all_lead q b [] j more d h l = refl
all_lead q b (i ∷ xs) j more d h l =
    let n : (k : Item) × (tl : List Item) × (xs ++ j ∷ more ≡ k ∷ tl) = begins xs j more in
    let step : (items q).step (spot b (i ∷ (xs ++ j ∷ more)) Onward d) ≡ (spot b (xs ++ j ∷ more) Onward (leaves b i d), None) =
    subst (λ (ys : List Item). (items q).step (spot b (i ∷ ys) Onward d) ≡ (spot b ys Onward (leaves b i d), None)) (sym n.2) (data_step q b i n.0 n.1 d h.0.0 l.0.no_exception) in (
      record { open_ = refl; good = l.0; silent = ap (λ (o : Spot × Option ℕ). o.1) step },
      subst (λ (s : Spot). Leads (items q) (Good q) (length xs) s (spot b (j ∷ more) Onward (leave b (i ∷ xs) d))) (sym (ap (λ (o : Spot × Option ℕ). o.0) step)) (all_lead q b xs j more (leaves b i d) h.1 l.1),
    )

leave_both : (b : ℕ) (xs ys : List Item) (d : Data) → leave b (xs ++ ys) d ≡ leave b ys (leave b xs d)
leave_both b [] ys d = refl
leave_both b (x ∷ xs) ys d = leave_both b xs ys (leaves b x d)

lawful_both : (p : HardProgram) (b : ℕ) (xs ys : List Item) (d : Data) → LawfulAll p b xs d → LawfulAll p b ys (leave b xs d) → LawfulAll p b (xs ++ ys) d
lawful_both p b [] ys d h k = k
lawful_both p b (x ∷ xs) ys d h k = (h.0, lawful_both p b xs ys (leaves b x d) h.1 k)

pub units_are : (b : ℕ) (us : List Whole) (d : Data) → leave b (flat_map unit_items us) d ≡ units_leave b us d
units_are b [] d = refl
units_are b (u ∷ us) d = leave_both b (unit_items u) (flat_map unit_items us) d ∙ units_are b us (leave b (unit_items u) d)

pub units_lawful : (p : HardProgram) (b : ℕ) (us : List Whole) (d : Data) → LawfulUnits p b us d → LawfulAll p b (flat_map unit_items us) d
units_lawful p b [] d h = tt
units_lawful p b (u ∷ us) d h = lawful_both p b (unit_items u) (flat_map unit_items us) d h.0 (units_lawful p b us (leave b (unit_items u) d) h.1)

each_both : (xs ys : List Item) → Each InStretch xs → Each InStretch ys → Each InStretch (xs ++ ys)
each_both [] ys h k = k
each_both (x ∷ xs) ys h k = (h.0, each_both xs ys h.1 k)

unit_in : (c : Class) (u : Whole) → IsUnit c u → Each InStretch (unit_items u)
unit_in c (One i) x = ((x.0.computes, x.0.stream), tt)
unit_in c (Two i j) x = (((product_data i.instr x.0.product).0, x.0.stream), ((move_data j.instr x.0.move, subst (λ (y : Class). is_stream y ≡ true) (x.0.one_stream) x.0.stream), tt))

pub merge_in : (ms ss l : List Whole) → AllUnits class.Master ms → AllUnits class.Shadow ss → Merge ms ss l → Each InStretch (flat_map unit_items l)
merge_in ms ss l am as_ done = tt
merge_in ms ss l am as_ (first u us vs k m) = each_both (unit_items u) (flat_map unit_items k) (unit_in class.Master u am.0) (merge_in us vs k am.1 as_ m)
merge_in ms ss l am as_ (second u us vs k m) = each_both (unit_items u) (flat_map unit_items k) (unit_in class.Shadow u as_.0) (merge_in us vs k am as_.1 m)

-- Where one merge of two streams is lawful, any other runs as quiet good steps to the item behind it, and leaves the same but HI
-- and LO.
pub stretch_leads : (q : HardProgram) (b : ℕ) (ms ss l k : List Whole) (j : Item) (more : List Item) (d : Data) → AllUnits class.Master ms → AllUnits class.Shadow ss → Merge ms ss l → Merge ms ss k → LawfulUnits q b l d →
    Leads (items q) (Good q) (length (flat_map unit_items k)) (spot b (flat_map unit_items k ++ j ∷ more) Onward d) (spot b (j ∷ more) Onward (units_leave b k d)) × SameButHalves (units_leave b l d) (units_leave b k d)
stretch_leads q b ms ss l k j more d am as_ x y h = (
  subst (λ (e : Data). Leads (items q) (Good q) (length (flat_map unit_items k)) (spot b (flat_map unit_items k ++ j ∷ more) Onward d) (spot b (j ∷ more) Onward e)) (units_are b k d)
      (all_lead q b (flat_map unit_items k) j more d (merge_in ms ss k am as_ y) (units_lawful q b k d (all_merges_lawful q b ms ss l k d am as_ x y h))),
  all_merges_same b ms ss l k d am as_ x y,
)
