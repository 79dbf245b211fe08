-- What a well typed text of three streams promises of its runs under one fault. The theorems are the project's own.
use Rattle.std.specs.Prelude.{◌≡◌, ◌≤◌, ◌<◌, ℕ, ◌+◌, ◌%◌, Some, None, List, ◌⊎◌}
use Rattle.hard_runs.specs.Observed.{Prefix}
use Rattle.hard_words.specs.Words.{extended}
use Rattle.hard_words.specs.declared.ChangeKind.{ChangeKind}
use Rattle.hard_words.specs.declared.ChangeKind.TheVariants.{Flip, Set}
use Rattle.hard_words.specs.declared.SetPlace.{SetPlace}
use Rattle.hard_words.specs.declared.SetPlace.TheVariants.{Reg}
use Rattle.mips_isa.specs.declared.instr.Instr.TheVariants.{Jr, Jal}
use Rattle.mips_isa.specs.declared.instr.End.{End}
use Rattle.mips_isa.specs.declared.instr.End.TheVariants.{Exception, Reported}
use Rattle.mips_isa.specs.Machine.{State, step, reg, plus}
use Rattle.mips_isa.specs.Image.{ImageFields}
use Rattle.mips_isa.specs.Runs.{Ran}
use Rattle.mips_text.specs.Text.{IsText, At}
use Rattle.mips_faults.specs.Faults.{image_run, Unseen, IsTelling, IsSet, Moves}
use Rattle.third_lint.specs.declared.ThirdRow.{ThirdRow}
use Rattle.third_lint.specs.Votes.{Role, A, B, C, Of, VoteAt, NearThird}
use Rattle.third_lint.specs.Rows.{Typed}

-- Where the words of a stream stand, modulo 16.
abbrev pub offset_of : Role → ℕ
offset_of A = 0
offset_of B = 4
offset_of C = 8

-- An address stands 8 after a jal.
pub record IsReturn (text : List ℕ) (w : ℕ) : Type 0 where
  pub jal_at : ℕ
  pub target : ℕ
  pub jal : At text jal_at (Jal target)
  pub behind : w ≡ jal_at + 8

-- A state is placed: a load or store of a register of a stream that comes next has an address of that stream, a jr that comes next
-- goes to an address 8 after a jal, and the step ends in no exception.
pub record IsPlaced (s : State) : Type 0 where
  pub moves : (X : Role) (rt rs imm : ℕ) → Moves s rt rs imm → Of X rt → plus (reg s rs) (extended imm) % 16 ≡ offset_of X
  pub returns : (rs : ℕ) → At s.text s.pc (Jr rs) → IsReturn s.text (reg s rs)
  pub calm : (code at : ℕ) → (step s).0.end ≡ Some (Exception code at) → ⊥

-- A state agrees: at the first word of a vote its three registers are equal.
abbrev pub IsAgreed : State → Type 0
IsAgreed s = (x y z : ℕ) → VoteAt s.text s.pc x y z → (reg s x ≡ reg s y) × (reg s y ≡ reg s z)

-- In the first n steps of the run without a change each state that has no end is placed; and it agrees.
abbrev pub PlacedThirdFor : ImageFields → List ℕ → ℕ → Type 0
PlacedThirdFor i input n = (m : ℕ) → m < n → (image_run i input None m).state.end ≡ None → IsPlaced (image_run i input None m).state

abbrev pub AgreedFor : ImageFields → List ℕ → ℕ → Type 0
AgreedFor i input n = (m : ℕ) → m < n → (image_run i input None m).state.end ≡ None → IsAgreed (image_run i input None m).state

-- In every step.
abbrev pub PlacedThird : ImageFields → List ℕ → Type 0
PlacedThird i input = (n : ℕ) → PlacedThirdFor i input n

abbrev pub Agreed : ImageFields → List ℕ → Type 0
Agreed i input = (n : ℕ) → AgreedFor i input n

-- A run has ended by an end of this sort, and has put out nothing that the clean run does not put out.
pub record ToldBy (Tells : End → Type 0) (faulty clean : Ran) : Type 0 where
  pub end : End
  pub is : faulty.state.end ≡ Some end
  pub tells : Tells end
  pub output : Prefix faulty.output clean.output

-- The ends by which a run fails: an exception that tells of a fault.
abbrev pub Fails : End → Type 0
Fails (Exception code at) = IsTelling code
Fails _ = ⊥

-- The run has failed.
abbrev pub Failed : Ran → Ran → Type 0
Failed faulty clean = ToldBy Fails faulty clean

-- A change just before step n, counted from 0, is masked after this number of steps: output and end are those of the clean run, or
-- the run has failed.
abbrev pub IsMasked : ImageFields → List ℕ → (n : ℕ) → ChangeKind → (k : ℕ) → Type 0
IsMasked i input n kind k =
    let faulty : Ran = image_run i input (Some (record { step = n; kind = kind })) k in
    let clean : Ran = image_run i input None k in
    Unseen faulty clean ⊎ Failed faulty clean

-- A bit inverted in a register just before step n is masked after every number of steps.
abbrev pub Masks : ImageFields → List ℕ → (n r bit : ℕ) → Type 0
Masks i input n r bit = (k : ℕ) → IsMasked i input n (Flip r bit) k

-- A place that is no window at an address; only registers have windows.
abbrev pub IsFree : List ℕ → ℕ → SetPlace → Type 0
IsFree text a (Reg r) = NearThird text a r → ⊥
IsFree text a _ = Unit {0}

-- Of a well typed text whose run is placed and agrees: a bit inverted in a register outside the windows is masked.
abbrev pub MasksFlips : Type 0
MasksFlips = (i : ImageFields) (input : List ℕ) (rows : List ThirdRow) → IsText i.text → Typed i.text i.entry rows → PlacedThird i input →
    Agreed i input → (n r bit : ℕ) → 1 ≤ r → r ≤ 31 → (NearThird i.text (image_run i input None n).state.pc r → ⊥) → Masks i input n r bit

-- The same for any word put in any register, HI, LO or word of memory, and for the premises of the first N steps alone.
abbrev pub MasksSetsWithin : Type 0
MasksSetsWithin = (i : ImageFields) (input : List ℕ) (N : ℕ) (rows : List ThirdRow) → IsText i.text → Typed i.text i.entry rows →
    PlacedThirdFor i input N → AgreedFor i input N → (n : ℕ) (place : SetPlace) (word : ℕ) → IsSet place word →
    IsFree i.text (image_run i input None n).state.pc place → (k : ℕ) → k ≤ N → IsMasked i input n (Set place word) k

-- The same with no bound.
abbrev pub MasksSets : Type 0
MasksSets = (i : ImageFields) (input : List ℕ) (rows : List ThirdRow) → IsText i.text → Typed i.text i.entry rows → PlacedThird i input →
    Agreed i input → (n : ℕ) (place : SetPlace) (word : ℕ) → IsSet place word → IsFree i.text (image_run i input None n).state.pc place → (k : ℕ) →
    IsMasked i input n (Set place word) k

-- The run without a change does not end in a report; so neither does one in which a change is masked.
abbrev pub NeverReported : Type 0
NeverReported = (i : ImageFields) (input : List ℕ) (rows : List ThirdRow) → IsText i.text → Typed i.text i.entry rows → PlacedThird i input →
    Agreed i input → (k code at : ℕ) → (image_run i input None k).state.end ≡ Some (Reported code at) → ⊥
