-- Two states side by side: the second is the first with other registers, another HI and LO, and other words of memory. Some
-- registers, perhaps HI and LO, and some places of memory are kept, that is, the same in both. What one act, or two acts of one
-- kind, leave of this is what a theorem on a run with a fault and the clean run goes by.
use Rattle.std.specs.Prelude.{◌≡◌, ℕ, Bool, IsTrue, Option, Some, None, List, length, slice_index, ◌⊎◌}
use Rattle.mips_isa.specs.declared.instr.Act.{Act}
use Rattle.mips_isa.specs.declared.instr.Act.TheVariants.{Both, Load, Service}
use Rattle.mips_isa.specs.declared.instr.End.{End}
use Rattle.mips_isa.specs.declared.instr.End.TheVariants.{Exception}
use Rattle.mips_isa.specs.Machine.{State, perform, place}
use Rattle.mips_isa.specs.Locality.{Target}
use Rattle.mips_faults.specs.Faults.{IsTelling}

-- A state with other registers, another HI and LO, and another memory.
abbrev pub with_parts : State → List ℕ → ℕ → ℕ → List ℕ → State
with_parts s l h g mem = record s { regs = l; hi = h; lo = g; memory = mem }

-- Two lists of one length are the same at the places that are kept.
pub record SameKept (K : ℕ → Type 0) (a b : List ℕ) : Type 0 where
  pub len : length a ≡ length b
  pub same : (q : ℕ) → K q → slice_index a q ≡ slice_index b q

-- The second state is the first but for registers that are not kept by K, for HI and LO where P does not hold, and for places
-- of memory that are not kept by M.
pub record Beside (K : ℕ → Type 0) (P : Type 0) (M : ℕ → Type 0) (s t : State) : Type 0 where
  pub regs : List ℕ
  pub hi : ℕ
  pub lo : ℕ
  pub memory : List ℕ
  pub is : t ≡ with_parts s regs hi lo memory
  pub words : SameKept M s.memory memory
  pub kept : SameKept K s.regs regs
  pub halves : P → (s.hi ≡ hi) × (s.lo ≡ lo)

-- What two steps leave: two states side by side, one and the same end, or an exception of the second that tells of a fault.
pub data Outcome (K : ℕ → Type 0) (P : Type 0) (M : ℕ → Type 0) (x y : State × Option ℕ) : Type 0 where
  on : Beside K P M x.0 y.0 → y.1 ≡ x.1 → Outcome K P M x y
  over : (e : End) → x.0.end ≡ Some e → y.0.end ≡ Some e → y.1 ≡ x.1 → Outcome K P M x y
  fails : (c at : ℕ) → IsTelling c → y.0.end ≡ Some (Exception c at) → y.1 ≡ None → Outcome K P M x y

-- The act puts HI and LO.
abbrev pub IsBoth : Act → Type 0
IsBoth (Both h l) = Unit {0}
IsBoth _ = ⊥

-- The act loads, if at all, from a place that is kept.
abbrev pub LoadsKept : (ℕ → Type 0) → Act → Type 0
LoadsKept M (Load d a) = M (place a)
LoadsKept M _ = Unit {0}

-- A step does not end in an exception.
abbrev pub IsCalm : State × Option ℕ → Type 0
IsCalm x = (c at : ℕ) → x.0.end ≡ Some (Exception c at) → ⊥

-- What is kept, by tests: registers, HI and LO, places of memory.
pub record Kept : Type 0 where
  pub registers : ℕ → Bool
  pub halves : Bool
  pub places : ℕ → Bool

abbrev pub BesideKept : Kept → State → State → Type 0
BesideKept k s t = Beside (λ q. IsTrue (k.registers q)) (IsTrue k.halves) (λ q. IsTrue (k.places q)) s t

abbrev pub OutcomeKept : Kept → State × Option ℕ → State × Option ℕ → Type 0
OutcomeKept k x y = Outcome (λ q. IsTrue (k.registers q)) (IsTrue k.halves) (λ q. IsTrue (k.places q)) x y

-- An act carries what is kept before it over to what is kept after it: each register that is kept afterwards was kept or is
-- written, a service finds registers 2 and 4 kept, HI and LO were kept or are put, and a load is of a place that is kept.
pub record Carries (before after : Kept) (a : Act) : Type 0 where
  pub zero : IsTrue (before.registers 0)
  pub registers : (q : ℕ) → IsTrue (after.registers q) → IsTrue (before.registers q) ⊎ Target a q
  pub service : a ≡ Service → IsTrue (before.registers 2) × IsTrue (before.registers 4)
  pub halves : IsTrue after.halves → IsTrue before.halves ⊎ IsBoth a
  pub places : before.places ≡ after.places
  pub loads : LoadsKept (λ q. IsTrue (before.places q)) a

-- One act on two states side by side leaves them side by side, or at one end.
abbrev pub ActBeside : Type 0
ActBeside = (before after : Kept) (a : Act) (s t : State) → BesideKept before s t → Carries before after a → OutcomeKept after (perform a s) (perform a t)
