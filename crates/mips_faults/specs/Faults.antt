-- What it means that a run shows a fault: for a word that is put in a register, HI, LO or memory, and for a way that is
-- changed; and what a clean run must be for it.
-- The notions are the project's own; the image, the input and the machine are those of Image.antt, Machine.antt and Runs.antt.
use Rattle.std.specs.Prelude.{◌≡◌, ◌≤◌, ◌<◌, ℕ, ◌+◌, ◌%◌, ◌^◌, ◌==◌, ◌&&◌, ◌||◌, nat_le, Bool, IsTrue, Option, Some, None, List, ◌⊎◌}
use Rattle.hard_runs.specs.Observed.{Prefix}
use Rattle.hard_words.specs.declared.Change.{Change}
use Rattle.hard_words.specs.declared.ChangeKind.TheVariants.{Divert, Set}
use Rattle.hard_words.specs.declared.SetPlace.{SetPlace}
use Rattle.hard_words.specs.declared.SetPlace.TheVariants.{Reg, Hi, Lo, Memory}
use Rattle.hard_words.specs.Words.{extended}
use Rattle.mips_isa.specs.declared.instr.Instr.TheVariants.{Jr, Lw, Sw}
use Rattle.mips_isa.specs.Machine.{State, step, reg, plus}
use Rattle.mips_text.specs.Text.{At}
use Rattle.mips_text.specs.Blocks.{IsStart}
use Rattle.mips_isa.specs.declared.instr.End.{End}
use Rattle.mips_isa.specs.declared.instr.End.TheVariants.{Reported, Exception}
use Rattle.mips_isa.specs.Runs.{Ran, run}
use Rattle.mips_isa.specs.Image.{ImageFields, boot_state}

-- What an image leaves after some steps on an input, with a change or without one.
abbrev pub image_run : ImageFields → List ℕ → Option Change → ℕ → Ran
image_run i input change n = run (boot_state i input) change n

-- The codes of an exception that tells of a fault: an address that is not aligned on a load or a fetch, an address outside
-- memory, an overflow (codes 4, 7 and 12 of the manual's Cause register).
abbrev pub IsTelling : ℕ → Type 0
IsTelling c = (c ≡ 4) ⊎ ((c ≡ 7) ⊎ (c ≡ 12))

-- The ends that tell of a fault: a report, or such an exception.
abbrev pub Tells : End → Type 0
Tells (Reported code at) = Unit {0}
Tells (Exception code at) = IsTelling code
Tells _ = ⊥

-- Nothing of the fault is seen: output and end are those of the clean run.
pub record Unseen (faulty clean : Ran) : Type 0 where
  pub output : faulty.output ≡ clean.output
  pub end : faulty.state.end ≡ clean.state.end

-- The fault is told: the run has ended so, and has put out nothing that the clean run does not put out.
pub record Told (faulty clean : Ran) : Type 0 where
  pub end : End
  pub is : faulty.state.end ≡ Some end
  pub tells : Tells end
  pub output : Prefix faulty.output clean.output

-- A place in which a word can be put by a fault: a register from 1 to 31, HI, LO, or an address of memory; and the word.
abbrev pub IsSet : SetPlace → ℕ → Type 0
IsSet (Reg r) w = (1 ≤ r) × (r ≤ 31) × (w < 2 ^ 32)
IsSet _ w = w < 2 ^ 32

-- A word put in a place just before step n, counted from 0, is unseen or told after this number of steps.
abbrev pub IsDetected : ImageFields → List ℕ → (n : ℕ) → SetPlace → (word k : ℕ) → Type 0
IsDetected i input n place word k =
    let faulty : Ran = image_run i input (Some (record { step = n; kind = Set place word })) k in
    let clean : Ran = image_run i input None k in
    Unseen faulty clean ⊎ Told faulty clean

-- It is unseen or told after every number of steps.
abbrev pub Detects : ImageFields → List ℕ → (n : ℕ) → SetPlace → (word : ℕ) → Type 0
Detects i input n place word = IsSet place word → (k : ℕ) → IsDetected i input n place word k

-- A way that is changed to w just after step n is reported by code 2 at the seventh word from w within nine steps, and
-- nothing is put out after step n.
pub record Caught (i : ImageFields) (input : List ℕ) (n w : ℕ) : Type 0 where
  pub end : (image_run i input (Some (record { step = n; kind = Divert w })) (n + 9)).state.end ≡ Some (Reported 2 (w + 24))
  pub output : (image_run i input (Some (record { step = n; kind = Divert w })) (n + 9)).output ≡ (image_run i input None n).output

-- The registers whose words stand at addresses that are 0 modulo 8 (4 to 13 and 31), and those whose words stand at addresses
-- that are 4 modulo 8 (14 to 23 and 25).
abbrev pub in_even : ℕ → Bool
in_even r = (nat_le 4 r && nat_le r 13) || (r == 31)

abbrev pub in_odd : ℕ → Bool
in_odd r = (nat_le 14 r && nat_le r 23) || (r == 25)

-- The instruction that comes next loads or stores register rt, at rs and an offset.
abbrev pub Moves : State → (rt rs imm : ℕ) → Type 0
Moves s rt rs imm = At s.text s.pc (Lw rt rs imm) ⊎ At s.text s.pc (Sw rt rs imm)

-- A state is placed: a load or store that comes next has an address of its register's half, a jr that comes next goes to the
-- start of a block, and the step ends in no exception.
pub record IsPlaced (entry : ℕ) (s : State) : Type 0 where
  pub even : (rt rs imm : ℕ) → Moves s rt rs imm → IsTrue (in_even rt) → plus (reg s rs) (extended imm) % 8 ≡ 0
  pub odd : (rt rs imm : ℕ) → Moves s rt rs imm → IsTrue (in_odd rt) → plus (reg s rs) (extended imm) % 8 ≡ 4
  pub returns : (rs : ℕ) → At s.text s.pc (Jr rs) → IsStart s.text entry (reg s rs)
  pub calm : (code at : ℕ) → (step s).0.end ≡ Some (Exception code at) → ⊥

-- In the first n steps of the run without a change each state that has no end is placed.
abbrev pub PlacedFor : ImageFields → List ℕ → ℕ → Type 0
PlacedFor i input n = (m : ℕ) → m < n → (image_run i input None m).state.end ≡ None → IsPlaced i.entry (image_run i input None m).state

-- In every step.
abbrev pub Placed : ImageFields → List ℕ → Type 0
Placed i input = (n : ℕ) → PlacedFor i input n

-- In the first n steps the run without a change does not report, and in every step.
abbrev pub UnreportedFor : ImageFields → List ℕ → ℕ → Type 0
UnreportedFor i input n = (m : ℕ) → m ≤ n → (code at : ℕ) → (image_run i input None m).state.end ≡ Some (Reported code at) → ⊥

abbrev pub Unreported : ImageFields → List ℕ → Type 0
Unreported i input = (n : ℕ) → UnreportedFor i input n
