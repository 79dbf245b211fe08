-- Items that lead from data that both streams agree on to such data again.
use Rattle.std.proofs.Common.{◌≡◌, ◌≢◌, ◌≤◌, ◌<◌, ℕ, zero, suc, ◌+◌, ◌-◌, ◌*◌, ◌/◌, ◌%◌, ◌^◌, arith, ap, refl, sym, ◌∙◌, subst, List, [], ◌∷◌, ◌++◌, append_assoc, length, get_or, Bool, true, false, cond, inl, inr, le_refl}
use Rattle.std.specs.Prelude.{Option, Some, None}
use Rattle.hard_runs.specs.Stepping.{Leads}
use Rattle.hard_runs.proofs.Following.{leads_on}
use Rattle.mips_isa.specs.declared.instr.Instr.{Instr}
use Rattle.mips_isa.specs.declared.instr.Act.{Act}
use Rattle.mips_isa.specs.declared.instr.Act.TheVariants.{Write, Move, Both}
use Rattle.mips_isa.specs.declared.instr.End.TheVariants.{Exception}
use Rattle.mips_isa.specs.Machine as machine
use Rattle.hard_items.specs.declared.code.Class.{Class}
use Rattle.hard_items.specs.declared.code.Item.{Item}
use Rattle.hard_items.specs.declared.code.HardProgram.{HardProgram}
use Rattle.hard_items.specs.Streams.{plain}
use Rattle.hard_items.specs.Run.{Data, Spot, Way, Onward, items, before, item_act, machine_of, way_of, held, makes_number, is_call, do_item}
use Rattle.hard_items.specs.Rules.{LawfulAt, AgreesAt, Placed, Returns, Reads, NoException, checks_of, SameIn}
use Rattle.hard_items.specs.Forms.{Each}
use Rattle.double_law.specs.declared.roles.Stream.{Stream}
use Rattle.double_law.specs.declared.roles.Stream.TheVariants.{First, Second}
use Rattle.double_law.specs.declared.roles.Role.{Role}
use Rattle.double_law.specs.Roles.{reg_in, class_in, both}
use Rattle.double_law.specs.Roles.{RoleFits}
use Rattle.double_law.proofs.Doubled.{BackFits, Pairs, Sees, Sound, Doubled, put, wrote, sees_write, sees_beside, sound_write, words_put}

-- A state is good: the item that comes next is lawful, and where it is a use its checks hold.
abbrev pub Good : HardProgram → Spot → Type 0
Good p s = LawfulAt p s × AgreesAt s

-- ---- code that leads on

-- Some items lead, in any block and with any items behind them, from data of which the first pairs are true to data of which
-- the second are. They make at least one step where there is an item.
pub record Done (p : HardProgram) (size : ℕ) (b : ℕ) (code more : List Item) (d : Data) (a : Pairs) : Type 0 where
  pub now : Data
  pub steps : ℕ
  pub some : steps ≡ 0 → code ≡ []
  pub leads : Leads (items p) (Good p) steps (before p b (code ++ more) Onward d) (before p b more Onward now)
  pub doubled : Doubled size now a

abbrev pub Does : HardProgram → ℕ → ℕ → List Item → Pairs → Pairs → Type 0
Does p size b code a a' = (more : List Item) (d : Data) → Doubled size d a → Done p size b code more d a'

zero_sum : (m n : ℕ) → m + n ≡ 0 → (m ≡ 0) × (n ≡ 0)
zero_sum m n h = (omega arith, omega arith)

nil_both : (xs ys : List Item) → xs ≡ [] → ys ≡ [] → xs ++ ys ≡ []
nil_both xs ys e f = ap (λ (z : List Item). z ++ ys) e ∙ f

-- Nothing leads nowhere.
pub does_nothing : (p : HardProgram) (size b : ℕ) (a : Pairs) → Does p size b [] a a
does_nothing p size b a more d h = record { now = d; steps = zero; some = λ e. refl; leads = refl; doubled = h }

-- One behind the other.
pub does_then : (p : HardProgram) (size b : ℕ) (c e : List Item) (a a' a'' : Pairs) → Does p size b c a a' → Does p size b e a' a'' → Does p size b (c ++ e) a a''
does_then p size b c e a a' a'' f g more d h =
    let x : Done p size b c (e ++ more) d a' = f (e ++ more) d h in
    let y : Done p size b e more x.now a'' = g more x.now x.doubled in
    record {
      now = y.now;
      steps = x.steps + y.steps;
      some = λ z. nil_both c e (x.some (zero_sum x.steps y.steps z).0) (y.some (zero_sum x.steps y.steps z).1);
      leads = subst (λ (l : List Item). Leads (items p) (Good p) (x.steps + y.steps) (before p b l Onward d) (before p b more Onward y.now)) (sym (append_assoc c e more))
          (leads_on (items p) (Good p) x.steps y.steps (before p b (c ++ (e ++ more)) Onward d) (before p b (e ++ more) Onward x.now) (before p b more Onward y.now) x.leads y.leads);
      doubled = y.doubled;
    }

-- ---- one item

pub none_some : {A : Type 0} (x : A) (o : Option A) → o ≡ None → o ≡ Some x → ⊥
none_some x o e f = cc

-- an item that writes
pub write_step : (p : HardProgram) (b : ℕ) (i : Item) (more : List Item) (d : Data) (x v : ℕ) → item_act b i d ≡ Write x v → way_of p i d i.instr ≡ Onward →
    (items p).step (before p b (i ∷ more) Onward d) ≡ (before p b more Onward (wrote d x v (makes_number i)), None)
write_step p b i more d x v e w =
    ap (λ (a : Act). do_item p (before p b (i ∷ more) Onward d) i more a) e ∙
    ap (λ (y : Way). let z : Spot × Option ℕ = (before p b more y (wrote d x v (makes_number i)), None) in z) w

-- an item that moves from HI or LO
pub move_step : (p : HardProgram) (b : ℕ) (i : Item) (more : List Item) (d : Data) (x v : ℕ) → item_act b i d ≡ Move x v → way_of p i d i.instr ≡ Onward →
    (items p).step (before p b (i ∷ more) Onward d) ≡ (before p b more Onward (wrote d x v false), None)
move_step p b i more d x v e w =
    ap (λ (a : Act). do_item p (before p b (i ∷ more) Onward d) i more a) e ∙
    ap (λ (y : Way). let z : Spot × Option ℕ = (before p b more y (wrote d x v false), None) in z) w

-- an item that puts HI and LO
abbrev pub with_halves : Data → ℕ → ℕ → Data
with_halves d h l = record d { hi = h; lo = l }

pub both_step : (p : HardProgram) (b : ℕ) (i : Item) (more : List Item) (d : Data) (h l : ℕ) → item_act b i d ≡ Both h l → way_of p i d i.instr ≡ Onward →
    (items p).step (before p b (i ∷ more) Onward d) ≡ (before p b more Onward (with_halves d h l), None)
both_step p b i more d h l e w =
    ap (λ (a : Act). do_item p (before p b (i ∷ more) Onward d) i more a) e ∙
    ap (λ (y : Way). let z : Spot × Option ℕ = (before p b more y (with_halves d h l), None) in z) w

-- a quiet step leads
pub lead_one : (p : HardProgram) (s t : Spot) → s.end ≡ None → Good p s → (items p).step s ≡ (t, None) → Leads (items p) (Good p) 1 s t
lead_one p s t o g e = (record { open_ = o; good = g; silent = ap (λ (z : Spot × Option ℕ). z.1) e }, ap (λ (z : Spot × Option ℕ). z.0) e)

no_exception_write : (p : HardProgram) (b : ℕ) (i : Item) (d : Data) (x v : ℕ) → item_act b i d ≡ Write x v → NoException b i d
no_exception_write p b i d x v e code at h = none_some (Exception code at) (machine.perform (item_act b i d) (machine_of d)).0.end (ap (λ (a : Act). (machine.perform a (machine_of d)).0.end) e) h

no_exception_move : (p : HardProgram) (b : ℕ) (i : Item) (d : Data) (x v : ℕ) → item_act b i d ≡ Move x v → NoException b i d
no_exception_move p b i d x v e code at h = none_some (Exception code at) (machine.perform (item_act b i d) (machine_of d)).0.end (ap (λ (a : Act). (machine.perform a (machine_of d)).0.end) e) h

no_exception_both : (p : HardProgram) (b : ℕ) (i : Item) (d : Data) (x v : ℕ) → item_act b i d ≡ Both x v → NoException b i d
no_exception_both p b i d x v e code at h = none_some (Exception code at) (machine.perform (item_act b i d) (machine_of d)).0.end (ap (λ (a : Act). (machine.perform a (machine_of d)).0.end) e) h

-- ---- the same computation in both streams

-- An instruction in each stream makes one word of what the streams agree on.
pub record Computes (p : HardProgram) (size : ℕ) (f : Stream → Instr) (r : Role) (a : Pairs) (v : ℕ) : Type 0 where
  pub fits : RoleFits r
  pub back_fits : BackFits r false
  pub word : v < 2 ^ 32
  pub act : (t : Stream) (d : Data) → Sound size d a → Sees size t d a → machine.act (f t) (machine_of d) ≡ Write (reg_in t r) v
  pub way : (t : Stream) (i : Item) (d : Data) → way_of p i d (f t) ≡ Onward
  pub placed : (t : Stream) (d : Data) → Placed (f t) d
  pub returns : (t : Stream) (b : ℕ) (d : Data) → Returns p b (f t) d
  pub reads : (t : Stream) (d : Data) → Sound size d a → Sees size t d a → Reads (f t) d
  pub no_call : (t : Stream) → is_call (f t) ≡ false

-- the item of a stream
abbrev pub item_in : (Stream → Instr) → Stream → Item
item_in f t = plain (f t) (class_in t)

pub no_checks : (t : Stream) (i : Instr) (d : Data) → Each (SameIn d) (checks_of (class_in t) i)
no_checks First i d = tt
no_checks Second i d = tt

made_false : (f : Stream → Instr) (t : Stream) → is_call (f t) ≡ false → makes_number (item_in f t) ≡ false
made_false f t h = ap (λ (z : Bool). cond z true false) h

pub act_plain : (b : ℕ) (i : Instr) (c : Class) (d : Data) (x v : ℕ) → machine.act i (machine_of d) ≡ Write x v → item_act b (plain i c) d ≡ Write x v
act_plain b i c d x v e = ap (λ (a : Act). Rattle.hard_items.specs.Run.numbered b a) e

-- one of the two items: its stream writes, the other stays
pub one_write : (p : HardProgram) (size b : ℕ) (f : Stream → Instr) (r : Role) (a : Pairs) (v : ℕ) (t : Stream) (more : List Item) (d : Data) → Computes p size f r a v → Sound size d a → Sees size t d a →
    Leads (items p) (Good p) 1 (before p b (item_in f t ∷ more) Onward d) (before p b more Onward (wrote d (reg_in t r) v false))
one_write p size b f r a v t more d c s e =
    let act : item_act b (item_in f t) d ≡ Write (reg_in t r) v = act_plain b (f t) (class_in t) d (reg_in t r) v (c.act t d s e) in
    lead_one p (before p b (item_in f t ∷ more) Onward d) (before p b more Onward (wrote d (reg_in t r) v false)) refl
    (record { placed = c.placed t d; returns = c.returns t b d; reads = c.reads t d s e; no_exception = no_exception_write p b (item_in f t) d (reg_in t r) v act }, no_checks t (f t) d)
    (write_step p b (item_in f t) more d (reg_in t r) v act (c.way t (item_in f t) d) ∙
    ap (λ (z : Bool). let y : Spot × Option ℕ = (before p b more Onward (wrote d (reg_in t r) v z), None) in y) (made_false f t (c.no_call t)))

pub does_both : (p : HardProgram) (size b : ℕ) (f : Stream → Instr) (r : Role) (a : Pairs) (v : ℕ) → Computes p size f r a v → Does p size b (both f) a (put a r v false)
does_both p size b f r a v c more d h =
    let d1 : Data = wrote d (reg_in First r) v false in
    let s1 : Sound size d1 a = let z : Sound size d1 (put a r v false) = sound_write size First d a r v false h.sound in record { regs = z.regs; memory = z.memory; zero_ = z.zero_; zero_back = z.zero_back; two_back = z.two_back; feed = z.feed; fed = z.fed } in
    let e1 : Sees size Second d1 a = sees_beside size First d a r v false c.fits (h.sees Second) in
    let f1 : Sees size First d1 (put a r v false) = sees_write size First d a r v false c.fits c.back_fits h.sound (h.sees First) in
    let d2 : Data = wrote d1 (reg_in Second r) v false in
    record {
      now = d2;
      steps = 2;
      some = λ z. absurd (Rattle.std.proofs.Common.suc-ne-zero 1 z);
      leads = leads_on (items p) (Good p) 1 1 (before p b (item_in f First ∷ item_in f Second ∷ more) Onward d) (before p b (item_in f Second ∷ more) Onward d1) (before p b more Onward d2)
          (one_write p size b f r a v First (item_in f Second ∷ more) d c h.sound (h.sees First))
          (one_write p size b f r a v Second more d1 c s1 e1);
      doubled = record {
        sound = sound_write size Second d1 a r v false s1;
        sees = elim [
          | First ↦ sees_beside size Second d1 (put a r v false) r v false c.fits f1
          | Second ↦ sees_write size Second d1 a r v false c.fits c.back_fits s1 e1
        ];
        words = words_put size a r v false c.word h.words;
      };
    }
