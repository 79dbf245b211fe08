-- What holds in every state of every run of a program of items: the rules on which the checks, the order of the items, the
-- layout and the tests of the emitted words rely.
use Rattle.std.specs.Prelude.{◌≡◌, ◌<◌, ◌⊎◌, ℕ, ◌+◌, ◌%◌, ◌^◌, Bool, true, false, ◌==◌, ◌&&◌, ◌||◌, if◌then◌else◌, IsTrue, List, [], ◌∷◌, ◌++◌}
use Rattle.std.specs.Prelude.{flat_map, Option, Some, None, All}
use Rattle.hard_words.specs.Words.{extended, AreWords}
use Rattle.hard_runs.specs.Stepping.{Always, go}
use Rattle.mips_isa.specs.declared.instr.Instr.{Instr}
use Rattle.mips_isa.specs.declared.instr.Instr.TheVariants.{Jr, Beq, Bne, Lw, Sw, Ori, Break, Sll}
use Rattle.mips_isa.specs.declared.instr.End.{End}
use Rattle.mips_isa.specs.declared.instr.End.TheVariants.{Exception, Reported}
use Rattle.mips_isa.specs.Machine.{reads_of, plus, perform}
use Rattle.hard_items.specs.declared.code.Class.{Class}
use Rattle.hard_items.specs.declared.code.Class.TheVariants.{Master, Shadow, Check, Act, Head, Input}
use Rattle.hard_items.specs.declared.code.Fix.TheVariants.{ReturnHigh, ReturnLow}
use Rattle.hard_items.specs.declared.code.Item.{Item}
use Rattle.hard_items.specs.declared.code.HardProgram.{HardProgram}
use Rattle.hard_items.specs.Streams.{is_master, is_shadow, shadow_of, plain}
use Rattle.hard_items.specs.Run.{Data, Spot, items, first_spot, items_of, item_act, machine_of, held}
use Rattle.hard_items.specs.Ways.{Holds, CallsFunction, MayFollow}
use Rattle.hard_items.specs.WellFormed.{WellFormed}
use Rattle.hard_items.specs.Forms.{Each, Form, Close, Formed, HasChecks, CloseHasChecks, HalvesPair, check}

-- ---- the item that comes next

-- A register of the first stream goes to and from addresses that are 0 modulo 8, one of the second 4 modulo 8.
abbrev pub Parity : ℕ → ℕ → Type 0
Parity r address = (IsTrue (is_master r) → address % 8 ≡ 0) × (IsTrue (is_shadow r) → address % 8 ≡ 4)

abbrev pub Placed : Instr → Data → Type 0
Placed (Lw rt rs imm) d = Parity rt (plus (held d rs) (extended imm))
Placed (Sw rt rs imm) d = Parity rt (plus (held d rs) (extended imm))
Placed i d = Unit {0}

-- jr goes by a return number, to a block that may follow.
abbrev pub Returns : HardProgram → ℕ → Instr → Data → Type 0
Returns p b (Jr rs) d = (d.backs rs ≡ true) × MayFollow p b (held d rs)
Returns p b i d = Unit {0}

-- A return number is read only as the value of sw, in a comparison with another, and by jr.
abbrev pub Reads : Instr → Data → Type 0
Reads (Jr rs) d = Unit {0}
Reads (Sw rt rs imm) d = d.backs rs ≡ false
Reads (Beq rs rt imm) d = d.backs rs ≡ d.backs rt
Reads i d = Each (λ r. d.backs r ≡ false) (reads_of i)

-- No exception.
abbrev pub NoException : ℕ → Item → Data → Type 0
NoException b i d = (code at : ℕ) → (perform (item_act b i d) (machine_of d)).0.end ≡ Some (Exception code at) → ⊥

pub record Lawful (p : HardProgram) (b : ℕ) (i : Item) (d : Data) : Type 0 where
  pub placed : Placed i.instr d
  pub returns : Returns p b i.instr d
  pub reads : Reads i.instr d
  pub no_exception : NoException b i d

-- The item that comes next is lawful, and there is one.
abbrev pub LawfulNext : HardProgram → ℕ → List Item → Data → Type 0
LawfulNext p b [] d = ⊥
LawfulNext p b (i ∷ more) d = Lawful p b i d

abbrev pub LawfulAt : HardProgram → Spot → Type 0
LawfulAt p s = LawfulNext p s.block s.rest s.now

-- ---- checks

-- The registers whose sameness an item relies on: those of its checks. Only items that act for both streams rely on any.
abbrev pub use_checks : Instr → List (ℕ × ℕ)
use_checks (Sw rt rs imm) = if is_master rt then (rt, shadow_of rt) ∷ (rs, shadow_of rs) ∷ [] else []
use_checks (Beq rs rt imm) = (rs, shadow_of rs) ∷ []
use_checks (Bne rs rt imm) = (rs, shadow_of rs) ∷ []
use_checks (Jr rs) = (rs, shadow_of rs) ∷ []
use_checks (Ori rt rs imm) = (4, 14) ∷ []
use_checks i = []

abbrev pub checks_of : Class → Instr → List (ℕ × ℕ)
checks_of Master i = []
checks_of Shadow i = []
checks_of Check i = []
checks_of Act i = use_checks i
checks_of Head i = []
checks_of Input i = []

-- Two registers hold the same word, and both hold a return number or neither.
abbrev pub SameIn : Data → ℕ × ℕ → Type 0
SameIn d c = (held d c.0 ≡ held d c.1) × (d.backs c.0 ≡ d.backs c.1)

-- Where a use comes next, the registers of its checks are the same.
abbrev pub AgreesNext : List Item → Data → Type 0
AgreesNext [] d = Unit {0}
AgreesNext (i ∷ more) d = Each (SameIn d) (checks_of i.class i.instr)

abbrev pub AgreesAt : Spot → Type 0
AgreesAt s = AgreesNext s.rest s.now

-- ---- programs

-- No run reports.
abbrev pub NeverReports : HardProgram → Type 0
NeverReports p = (input : List ℕ) → AreWords input → (n code at : ℕ) → (go (items p) (first_spot p input) n).state.end ≡ Some (Reported code at) → ⊥

-- The streams are apart: each block is made of forms that fit, and each item is lawful where it comes next.
pub record Apart (p : HardProgram) : Type 0 where
  pub well_formed : WellFormed p
  pub formed : (b : ℕ) → b < Rattle.std.specs.Prelude.length p.blocks → Formed (items_of p b)
  pub halves : (b : ℕ) → HalvesPair (items_of p b) false
  -- a half of a return address stands in a block that calls a function
  pub halves_call : (b : ℕ) (i : Item) → Holds p b i → (i.fix ≡ ReturnHigh) ⊎ (i.fix ≡ ReturnLow) → (f : ℕ) × CallsFunction p b f
  pub lawful : (input : List ℕ) → AreWords input → Always (items p) (first_spot p input) (LawfulAt p)

-- The streams are twins: where a check could stand its registers are the same, and no run reports.
pub record Twin (p : HardProgram) : Type 0 where
  pub apart : Apart p
  pub agrees : (input : List ℕ) → AreWords input → Always (items p) (first_spot p input) AgreesAt
  pub never_reports : NeverReports p

-- Each use stands with its checks.
pub record Checked (items : List Item) : Type 0 where
  pub formed : Formed items
  pub each : Each HasChecks formed.forms
  pub close : CloseHasChecks formed.close

abbrev pub Guarded : HardProgram → Type 0
Guarded p = (b : ℕ) → b < Rattle.std.specs.Prelude.length p.blocks → Checked (items_of p b)
