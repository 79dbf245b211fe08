-- What the heads of a program need of it, and how its run with heads stands beside its run without them.
use Rattle.std.specs.Prelude.{◌≡◌, ◌≢◌, ◌≤◌, ◌<◌, ◌⊎◌, ℕ, ◌+◌, Bool, true, false, IsTrue, if◌then◌else◌, Option, Some, None, List, [], ◌∷◌, ◌++◌}
use Rattle.std.specs.Prelude.{length, get_or, slice_get, slice_index, bit_xor}
use Rattle.hard_runs.specs.Stepping.{Always, go}
use Rattle.hard_runs.specs.Observed.{SameObserved}
use Rattle.hard_words.specs.Words.{AreWords}
use Rattle.hard_items.specs.Rules.{Apart, NeverReports}
use Rattle.mips_isa.specs.Machine.{among, perform}
use Rattle.mips_faults.specs.Beside.{SameKept}
use Rattle.mips_isa.specs.declared.instr.Instr.TheVariants.{Beq, Bne}
use Rattle.hard_items.specs.declared.code.Fix.TheVariants.{Block}
use Rattle.hard_items.specs.declared.code.Class.TheVariants.{Head}
use Rattle.hard_items.specs.declared.code.Item.{Item}
use Rattle.hard_items.specs.declared.code.HardProgram.{HardProgram}
use Rattle.hard_items.specs.declared.code.Mark.{Mark}
use Rattle.hard_items.specs.declared.code.Signed.{Signed}
use Rattle.hard_items.specs.Streams.{touched}
use Rattle.hard_items.specs.Run.{Data, Spot, Way, Onward, Over, To, items, items_of, item_act, machine_of, way_of, held, tail, first_spot, item_run}
use Rattle.hard_items.specs.Ways.{MayFollow}
use Rattle.hard_items.specs.Heads.{headed, head_items, signed_run}
use Rattle.sign_law.specs.Marks.{HasSigns}

-- The registers of the signatures.
abbrev pub IsSign : ℕ → Type 0
IsSign q = (q ≡ 1) ⊎ ((q ≡ 24) ⊎ (q ≡ 28))

-- An item does not touch them.
abbrev pub Spares : Item → Type 0
Spares i = (q : ℕ) → IsSign q → IsTrue (among q (touched i.instr)) → ⊥

-- Where a run goes on behind an item: in its block, or at the start of a block that may follow.
abbrev pub Legal : HardProgram → ℕ → Way → Way → List Item → Type 0
Legal p b Onward own [] = (own ≡ Onward) × MayFollow p b (b + 1)
Legal p b Onward own (i ∷ more) = Unit {0}
Legal p b Over own [] = MayFollow p b (b + 1)
Legal p b Over own (i ∷ []) = MayFollow p b (b + 1)
Legal p b Over own (i ∷ j ∷ more) = Unit {0}
Legal p b (To t) own more = MayFollow p b t

-- There is an item that comes next, it spares the registers of the signatures, and goes on legally where it does not end the run.
abbrev pub OrderlyNext : HardProgram → ℕ → Way → List Item → Data → Type 0
OrderlyNext p b w [] d = ⊥
OrderlyNext p b w (i ∷ more) d = Spares i × ((perform (item_act b i d) (machine_of d)).0.end ≡ None → Legal p b w (way_of p i d i.instr) more)

abbrev pub OrderlyAt : HardProgram → Spot → Type 0
OrderlyAt p s = OrderlyNext p s.block s.way s.rest s.now

-- The mark of a block.
abbrev pub mark_at : Signed → ℕ → Mark
mark_at s b = get_or s.marks b (record { s = 0; d = 0; fan = false; adjust = 0 })

-- What a head finds where registers 24 and 28 hold these.
abbrev pub found : ℕ → ℕ → Mark → ℕ
found g a m = if m.fan then bit_xor (bit_xor g m.d) a else bit_xor g m.d

-- The head of each block that may follow finds its number, and so does that of the first block, where the registers are 0.
pub record HeadsPass (s : Signed) : Type 0 where
  pub one_each : length s.marks ≡ length s.program.blocks
  pub edge : (u w : ℕ) → MayFollow s.program u w → found (mark_at s u).s (mark_at s u).adjust (mark_at s w) ≡ (mark_at s w).s
  pub first : found 0 0 (mark_at s 0) ≡ (mark_at s 0).s

-- Each block that may follow is there, and no block is empty.
pub record IsClosed (p : HardProgram) : Type 0 where
  pub has_block : 0 < length p.blocks
  pub there : (u w : ℕ) → MayFollow p u w → w < length p.blocks
  pub some : (b : ℕ) → b < length p.blocks → (i : Item) × ((more : List Item) × (items_of p b ≡ i ∷ more))

-- The data of two runs are the same but for the registers of the signatures.
abbrev pub with_other : Data → List ℕ → (ℕ → Bool) → (ℕ → Bool) → Data
with_other d r b s = record d { regs = r; backs = b; stored = s }

pub record Near (h l : Data) : Type 0 where
  pub regs : List ℕ
  pub backs : ℕ → Bool
  pub stored : ℕ → Bool
  pub is : l ≡ with_other h regs backs stored
  pub same : SameKept (λ q. IsSign q → ⊥) h.regs regs
  pub same_backs : (q : ℕ) → (IsSign q → ⊥) → h.backs q ≡ backs q
  pub same_stored : (q : ℕ) → h.stored q ≡ stored q

-- Both runs stand at one item.
pub record Level (s : Signed) (h l : Spot) : Type 0 where
  pub block : l.block ≡ h.block
  pub rest : l.rest ≡ h.rest
  pub way : l.way ≡ h.way
  pub going : h.end ≡ None
  pub open_ : l.end ≡ None
  pub near : Near h.now l.now
  pub long : length l.now.regs ≡ 32
  pub zero : held l.now 0 ≡ 0
  pub sign : held l.now 24 ≡ (mark_at s h.block).s
  pub adjust : held l.now 28 ≡ (mark_at s h.block).adjust

-- A state of the run with heads stands at a word of a head, or as a state of the run without them, but for the registers of the
-- signatures.
pub data Stands (s : Signed) (start : Spot) (l : Spot) : Type 0 where
  in_head : (w : Item) (more : List Item) → l.rest ≡ w ∷ more → w.class ≡ Head → Stands s start l
  level : (n : ℕ) → Level s (go (items s.program) start n).state l → Stands s start l

-- What the forms of a program's blocks give: each item spares the registers of the signatures, and a conditional branch that is
-- the last item but one of its block names a block.
pub record BlocksFit (p : HardProgram) : Type 0 where
  pub spares : (b k : ℕ) (i : Item) → slice_get (items_of p b) k ≡ Some i → Spares i
  pub last_names : (b k rs rt imm : ℕ) (i : Item) → slice_get (items_of p b) k ≡ Some i → (i.instr ≡ Beq rs rt imm) ⊎ (i.instr ≡ Bne rs rt imm) →
      k + 2 ≡ length (items_of p b) → (t : ℕ) × (i.fix ≡ Block t)

-- ---- the laws

-- Where the streams of a program are apart and its marks are those of its graph, the run with heads is the same observed from outside, and
-- each of its states stands at a word of a head, or as a state of the run without heads but for the registers of the signatures.
abbrev pub HeadsKeep : Type 0
HeadsKeep = (s : Signed) → Apart s.program → HasSigns s → (input : List ℕ) → AreWords input →
    SameObserved (signed_run s input) (item_run s.program input) × Always (items (headed s)) (first_spot (headed s) input) (Stands s (first_spot s.program input))

-- And where the program's run never reports, the run with heads never does.
abbrev pub HeadsNeverReport : Type 0
HeadsNeverReport = (s : Signed) → Apart s.program → HasSigns s → NeverReports s.program → NeverReports (headed s)
