-- A stretch and the stretch that stands in its place: another merge of its streams, with nops between the items.
use Rattle.std.proofs.Common.{◌≡◌, ◌≢◌, ◌≤◌, ◌<◌, ℕ, zero, suc, ◌+◌, arith, ap, refl, sym, ◌∙◌, subst, List, [], ◌∷◌, ◌++◌, length, Bool, true, false, cond, not, inl, inr, flat_map}
use Rattle.std.specs.Prelude.{Option, Some, None, ◌==◌}
use Rattle.hard_runs.specs.Stepping.{Leads}
use Rattle.mips_isa.specs.declared.instr.Act.{Act}
use Rattle.mips_isa.specs.declared.instr.Act.TheVariants.{Write, Move, Both, Load, Store, Go, Link, Pass, Service, Stop}
use Rattle.mips_isa.specs.declared.instr.End.TheVariants.{Exception}
use Rattle.mips_isa.specs.Machine as machine
use Rattle.hard_items.specs.declared.code.Class.{Class}
use Rattle.hard_items.specs.declared.code.Class.TheVariants as class
use Rattle.hard_items.specs.declared.code.Item.{Item}
use Rattle.hard_items.specs.declared.code.HardProgram.{HardProgram}
use Rattle.hard_items.specs.Streams.{is_stream, nop, plain}
use Rattle.hard_items.specs.Run.{Data, Onward, items, item_act, backs_after, marked, marked_reg, makes_number}
use Rattle.hard_items.specs.Rules.{Lawful}
use Rattle.hard_items.specs.Forms.{Each}
use Rattle.block_schedule.specs.declared.unit.Whole.{Whole}
use Rattle.block_schedule.specs.Scheduling.{unit_items}
use Rattle.block_schedule.specs.Merging.{AllUnits, Merge, leaves, leave, units_leave, SameButHalves}
use Rattle.block_schedule.proofs.Merges.{LawfulAll, LawfulUnits, merges_beside, merges_lawful_beside}
use Rattle.block_schedule.proofs.Leading.{spot, Good, InStretch, all_lead, units_are, units_lawful, merge_in}

-- ---- register 0 never holds a return number

zero_by : (f : ℕ → Bool) (x : ℕ) (b : Bool) → f 0 ≡ false → marked_reg f x b 0 ≡ false
zero_by f x b h = elim (x == 0) as (λ z. (x == 0) ≡ z → (cond z f (marked f x b)) 0 ≡ false) [
  | true ↦ λ e. h
  | false ↦ λ e. ap (λ (z : Bool). cond z b (f 0)) (zero_apart x e) ∙ h
] refl
  where
    zero_apart : (x : ℕ) → (x == 0) ≡ false → (0 == x) ≡ false
    zero_apart x h = grind arith

-- $0 never holds a return number
pub zero_kept : (i : Item) (a : Act) (d : Data) → d.backs 0 ≡ false → backs_after i a d 0 ≡ false
zero_kept i (Write r v) d h = zero_by d.backs r (makes_number i) h
zero_kept i (Move r v) d h = zero_by d.backs r false h
zero_kept i (Both x y) d h = h
zero_kept i (Load r a) d h = zero_by d.backs r (d.stored (machine.place a)) h
zero_kept i (Store a v) d h = h
zero_kept i (Go t) d h = h
zero_kept i (Link t) d h = h
zero_kept i Pass d h = h
zero_kept i Service d h = zero_by d.backs 2 false h
zero_kept i (Stop e) d h = h

-- ---- nops between items

-- The second list is the first with nops between its items.
pub data WithNops : List Item → List Item → Type 0 where
  nothing : WithNops [] []
  keeps : (i : Item) (xs ys : List Item) → WithNops xs ys → WithNops (i ∷ xs) (i ∷ ys)
  nops : (c : Class) (xs ys : List Item) → is_stream c ≡ true → WithNops xs ys → WithNops xs (plain nop c ∷ ys)

none_some : {A : Type 0} (x : A) (o : Option A) → o ≡ None → o ≡ Some x → ⊥
none_some x o e f = cc

nop_lawful : (p : HardProgram) (b : ℕ) (c : Class) (d : Data) → d.backs 0 ≡ false → Lawful p b (plain nop c) d
nop_lawful p b c d z = record { placed = tt; returns = tt; reads = (z, tt); no_exception = λ code at h. none_some (Exception code at) None refl h }

nops_lawful : (p : HardProgram) (b : ℕ) (xs ys : List Item) (d : Data) → WithNops xs ys → d.backs 0 ≡ false → LawfulAll p b xs d → LawfulAll p b ys d
nops_lawful p b xs ys d nothing z h = tt
nops_lawful p b xs ys d (keeps i us vs w) z h = (h.0, nops_lawful p b us vs (leaves b i d) w (zero_kept i (item_act b i d) d z) h.1)
nops_lawful p b xs ys d (nops c us vs s w) z h = (nop_lawful p b c d z, nops_lawful p b us vs d w z h)

nops_leave : (b : ℕ) (xs ys : List Item) (d : Data) → WithNops xs ys → leave b ys d ≡ leave b xs d
nops_leave b xs ys d nothing = refl
nops_leave b xs ys d (keeps i us vs w) = nops_leave b us vs (leaves b i d) w
nops_leave b xs ys d (nops c us vs s w) = nops_leave b us vs d w

nops_in : (xs ys : List Item) → WithNops xs ys → Each InStretch xs → Each InStretch ys
nops_in xs ys nothing h = tt
nops_in xs ys (keeps i us vs w) h = (h.0, nops_in us vs w h.1)
nops_in xs ys (nops c us vs s w) h = ((refl, s), nops_in us vs w h)

pub nops_longer : (xs ys : List Item) → WithNops xs ys → length xs ≤ length ys
nops_longer xs ys nothing = Rattle.std.proofs.Common.zero-le
nops_longer xs ys (keeps i us vs w) = Rattle.std.proofs.Common.suc-le-suc (nops_longer us vs w)
nops_longer xs ys (nops c us vs s w) = up (length us) (length vs) (nops_longer us vs w)
  where
    up : (n m : ℕ) → n ≤ m → n ≤ suc m
    up n m h = omega arith

-- ---- stretches

-- The new stretch stands in the place of the old one.
pub record Stretch (old new : List Item) : Type 0 where
  pub ms : List Whole
  pub ss : List Whole
  pub l : List Whole
  pub k : List Whole
  pub first_stream : AllUnits class.Master ms
  pub second_stream : AllUnits class.Shadow ss
  pub before : Merge ms ss l
  pub behind : Merge ms ss k
  pub old_is : old ≡ flat_map unit_items l
  pub new_is : WithNops (flat_map unit_items k) new

-- Where the units of the old stretch are lawful, the new one runs, on data that are the same but HI and LO, as quiet good steps
-- to the item behind it, and leaves the same but HI and LO.
pub stretch_runs : (q : HardProgram) (b : ℕ) (old new : List Item) (s : Stretch old new) (j : Item) (more : List Item) (d e : Data) → SameButHalves d e → e.backs 0 ≡ false → LawfulUnits q b s.l d →
    Leads (items q) (Good q) (length new) (spot b (new ++ j ∷ more) Onward e) (spot b (j ∷ more) Onward (leave b new e)) × SameButHalves (leave b old d) (leave b new e)
stretch_runs q b old new s j more d e h z law =
    let lawful : LawfulAll q b new e = nops_lawful q b (flat_map unit_items s.k) new e s.new_is z (units_lawful q b s.k e (merges_lawful_beside q b s.ms s.ss s.l s.k d e s.first_stream s.second_stream s.before s.behind h law)) in (
      all_lead q b new j more e (nops_in (flat_map unit_items s.k) new s.new_is (merge_in s.ms s.ss s.k s.first_stream s.second_stream s.behind)) lawful,
      subst (λ (x : Data). SameButHalves x (leave b new e)) (sym (units_are b s.l d) ∙ ap (λ (xs : List Item). leave b xs d) (sym s.old_is))
          (subst (λ (x : Data). SameButHalves (units_leave b s.l d) x) (sym (nops_leave b (flat_map unit_items s.k) new e s.new_is ∙ units_are b s.k e)) (merges_beside b s.ms s.ss s.l s.k d e s.first_stream s.second_stream s.before s.behind h)),
    )
