-- Laws of runs: what is put out stays, an end stays, a run is cut at any step, and where a change tells.
use Rattle.std.specs.Prelude.{◌≡◌, ◌≤◌, ◌<◌, ℕ, ◌+◌, suc, Option, Some, None, List, [], ◌++◌, ◌^◌, bit_xor}
use Rattle.hard_runs.specs.Observed.{Prefix}
use Rattle.hard_words.specs.declared.Change.{Change}
use Rattle.hard_words.specs.declared.ChangeKind.TheVariants.{Flip, Divert, Set}
use Rattle.hard_words.specs.declared.SetPlace.{SetPlace}
use Rattle.hard_words.specs.declared.SetPlace.TheVariants.{Reg}
use Rattle.hard_words.specs.declared.ChangeKind.{ChangeKind}
use Rattle.mips_isa.specs.declared.instr.End.{End}
use Rattle.mips_isa.specs.Machine.{State, step, reg}
use Rattle.mips_isa.specs.Runs.{Ran, run, put_out, replaced, diverted}

-- A run behind words that are out already.
abbrev pub prefixed : List ℕ → Ran → Ran
prefixed ws r = record { output = ws ++ r.output; state = r.state }

-- A run that goes on as another.
abbrev pub joined : Ran → Ran → Ran
joined a b = prefixed a.output b

-- What is put out stays put out.
abbrev pub OutputGrows : Type 0
OutputGrows = (s : State) (c : Option Change) (n m : ℕ) → Prefix (run s c n).output (run s c (n + m)).output

-- After an end nothing changes, in any number of further steps.
abbrev pub EndStays : Type 0
EndStays = (s : State) (c : Option Change) (e : End) (n m : ℕ) → (run s c n).state.end ≡ Some e → run s c (n + m) ≡ run s c n

-- A run begins with its first step.
abbrev pub RunBegins : Type 0
RunBegins = (s : State) (n : ℕ) → run s None (suc n) ≡ prefixed (put_out [] (step s).1) (run (step s).0 None n)

-- A run goes on, from what stands after some steps, as a run from there.
abbrev pub RunJoins : Type 0
RunJoins = (s : State) (n k : ℕ) → run s None (n + k) ≡ joined (run s None n) (run (run s None n).state None k)

-- Up to its step a change does nothing.
abbrev pub SameBefore : Type 0
SameBefore = (s : State) (c : Change) (n : ℕ) → n ≤ c.step → run s (Some c) n ≡ run s None n

-- Behind its step a run goes on as one without a change.
abbrev pub CleanBehind : Type 0
CleanBehind = (s : State) (c : Change) (n k : ℕ) → c.step < n → run s (Some c) (n + k) ≡ joined (run s (Some c) n) (run (run s (Some c) n).state None k)

-- A change before its step alone: a flip or a set.
abbrev pub ComesBefore : ChangeKind → Type 0
ComesBefore (Divert to) = ⊥
ComesBefore _ = Unit {0}

-- A run with a flip or a set is the run up to its step, and then one without a change from the state with the other word.
abbrev pub ReplaceSplits : Type 0
ReplaceSplits = (s : State) (n : ℕ) (kind : ChangeKind) (k : ℕ) → ComesBefore kind →
    run s (Some (record { step = n; kind = kind })) (n + suc k) ≡ joined (run s None n) (run (replaced kind (run s None n).state) None (suc k))

-- A flip is the set of its register to its word with the bit inverted.
abbrev pub FlipIsSet : Type 0
FlipIsSet = (s : State) (n r bit k : ℕ) → run s (Some (record { step = n; kind = Flip r bit })) k ≡
    run s (Some (record { step = n; kind = Set (Reg r) (bit_xor (reg (run s None n).state r) (2 ^ bit)) })) k

-- A run with a divert is the run up to and with its step, and then one without a change from the state with the other way.
abbrev pub DivertSplits : Type 0
DivertSplits = (s : State) (n to k : ℕ) → run s (Some (record { step = n; kind = Divert to })) (suc n + k) ≡
    joined (run s None (suc n)) (run (diverted (Divert to) (run s None (suc n)).state) None k)
