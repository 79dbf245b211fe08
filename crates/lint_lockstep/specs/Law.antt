-- The law of two runs, of which the second has another word in one place from one step on: where each word of the clean run has
-- a sort by what is kept at its address, the word in the place is unseen or told. It knows of no rule of a text: what is kept at
-- an address is for the user of the law to say. The law is the project's own.
use Rattle.std.specs.Prelude.{◌≡◌, ◌≤◌, ◌<◌, ℕ, Bool, IsTrue, Some, None, ◌⊎◌}
use Rattle.hard_words.specs.declared.ChangeKind.TheVariants.{Set}
use Rattle.hard_words.specs.declared.SetPlace.{SetPlace}
use Rattle.hard_words.specs.declared.SetPlace.TheVariants.{Reg, Hi, Lo, Memory}
use Rattle.mips_isa.specs.declared.instr.Instr.{Instr}
use Rattle.mips_isa.specs.declared.instr.End.TheVariants.{Reported}
use Rattle.mips_isa.specs.Machine.{State, act, step, planned, place}
use Rattle.mips_isa.specs.Runs.{run}
use Rattle.mips_text.specs.Text.{At}
use Rattle.mips_faults.specs.Beside.{IsCalm}
use Rattle.mips_faults.specs.Faults.{Unseen, Told}
use Rattle.lint_lockstep.specs.Sorts.{Sort, Doomed}

-- The state of the run without a change after m steps.
abbrev pub clean_at : State → ℕ → State
clean_at start m = (run start None m).state

-- The word that a state is about to do, which has no hazard there, has a sort by what is kept at its address and at the next.
abbrev pub Sorted : (keep : ℕ → ℕ → Type 0) → (halves : ℕ → Type 0) → (M : ℕ → Type 0) → State → Type 0
Sorted keep halves M s = (i : Instr) → At s.text s.pc i → planned s ≡ act i s → Sort (keep s.pc) (keep s.npc) (halves s.pc) (halves s.npc) M s i

-- What the law goes by, in the first N steps of the run without a change. `keep a` are the registers that are kept at address a,
-- `halves a` says that HI and LO are, and M are the places of memory that are. `Good` holds of the states of the run that are
-- not about to report: they end in no exception, their word has a sort, and a step leaves one or leads to a report; and the run
-- does not report in these steps.
pub record Guide (N : ℕ) (start : State) (Good : State → Type 0) (keep : ℕ → ℕ → Type 0) (halves : ℕ → Type 0) (M : ℕ → Type 0) : Type 0 where
  pub zero : (a : ℕ) → keep a 0
  pub calm : (m : ℕ) → m < N → (clean_at start m).end ≡ None → IsCalm (step (clean_at start m))
  pub sort : (m : ℕ) → m < N → Good (clean_at start m) → (clean_at start m).end ≡ None → Sorted keep halves M (clean_at start m)
  pub next : (m : ℕ) → m < N → Good (clean_at start m) → (clean_at start m).end ≡ None → (step (clean_at start m)).0.end ≡ None →
      (Good (step (clean_at start m)).0 × ((step (clean_at start m)).0.pc ≡ (clean_at start m).npc)) ⊎ Doomed (step (clean_at start m)).0
  pub unreported : (m : ℕ) → m ≤ N → (code at : ℕ) → (clean_at start m).end ≡ Some (Reported code at) → ⊥

-- A place in which a fault may put a word: one that is not kept.
abbrev pub FreeAt : (keep : ℕ → ℕ → Type 0) → (halves : ℕ → Type 0) → (M : ℕ → Type 0) → State → SetPlace → Type 0
FreeAt keep halves M s (Reg r) = keep s.pc r → ⊥
FreeAt keep halves M s Hi = halves s.pc → ⊥
FreeAt keep halves M s Lo = halves s.pc → ⊥
FreeAt keep halves M s (Memory a) = M (place a) → ⊥

-- A word put in a place just before step n is unseen or told after k steps.
abbrev pub Shown : State → (n : ℕ) → SetPlace → (w k : ℕ) → Type 0
Shown start n p w k =
    Unseen (run start (Some (record { step = n; kind = Set p w })) k) (run start None k) ⊎
    Told (run start (Some (record { step = n; kind = Set p w })) k) (run start None k)

-- The law, for any notion of what is kept: a word put in a place that is not kept is unseen or told after each number of steps up
-- to N. A clause cannot range over such notions, so this form stands in the proofs alone.
abbrev pub TwoRuns : Type 1
TwoRuns = (Good : State → Type 0) (keep : ℕ → ℕ → Type 0) (halves M : ℕ → Type 0) (N : ℕ) (start : State) →
    Guide N start Good keep halves M → Good start → start.end ≡ None →
    (n : ℕ) (p : SetPlace) (w : ℕ) → FreeAt keep halves M (clean_at start n) p → (k : ℕ) → k ≤ N → Shown start n p w k

-- The law where tests say what is kept.
abbrev pub TwoRunsKept : Type 0
TwoRunsKept = (good : State → Bool) (keep : ℕ → ℕ → Bool) (halves places : ℕ → Bool) (N : ℕ) (start : State) →
    Guide N start (λ s. IsTrue (good s)) (λ a q. IsTrue (keep a q)) (λ a. IsTrue (halves a)) (λ q. IsTrue (places q)) →
    IsTrue (good start) → start.end ≡ None → (n : ℕ) (p : SetPlace) (w : ℕ) →
    FreeAt (λ a q. IsTrue (keep a q)) (λ a. IsTrue (halves a)) (λ q. IsTrue (places q)) (clean_at start n) p →
    (k : ℕ) → k ≤ N → Shown start n p w k
