-- Machines that go by steps, their runs, and when one machine follows another by stages.
use Rattle.std.specs.Prelude.{◌≡◌, ◌≤◌, ℕ, zero, suc, Option, Some, None, List, [], ◌∷◌, ◌++◌}
use Rattle.hard_runs.specs.Observed.{Observation, SameObserved}

-- A machine: the step, with the word that it puts out, if any, and the end that stands in a state, if any.
pub record Stepper (S : Type 0) (E : Type 0) : Type 0 where
  pub step : S → S × Option ℕ
  pub end : S → Option E

-- Where an end stands, nothing happens any more.
abbrev pub Stands : {S E : Type 0} → Stepper S E → Type 0
Stands {S} {E} m = (s : S) (e : E) → m.end s ≡ Some e → m.step s ≡ (s, None)

-- The output with the word that a step puts out, if any.
abbrev pub put : List ℕ → Option ℕ → List ℕ
put out None = out
put out (Some w) = out ++ w ∷ []

-- What stands after some steps: the words put out so far, and the state.
pub record Went (S : Type 0) : Type 0 where
  pub output : List ℕ
  pub state : S

-- What stands after one more step.
abbrev pub after : {S : Type 0} → Went S → S × Option ℕ → Went S
after r t = record { output = put r.output t.1; state = t.0 }

-- The output and the state after n steps from a state.
abbrev pub go : {S E : Type 0} → Stepper S E → S → ℕ → Went S
go m s zero = record { output = []; state = s }
go m s (suc n) = after (go m s n) (m.step (go m s n).state)

-- A run seen from outside.
abbrev pub watch : {S E : Type 0} → Stepper S E → S → Observation E
watch m s n = record { output = (go m s n).output; end = m.end (go m s n).state }

-- A state before a step that neither ends the run nor puts anything out, and of which G is true.
pub record Quiet {S E : Type 0} (m : Stepper S E) (G : S → Type 0) (s : S) : Type 0 where
  pub open_ : m.end s ≡ None
  pub good : G s
  pub silent : (m.step s).1 ≡ None

-- Some steps, each from a quiet state, lead from one state to another.
abbrev pub Leads : {S E : Type 0} → Stepper S E → (S → Type 0) → ℕ → S → S → Type 0
Leads m G zero s t = s ≡ t
Leads m G (suc k) s t = Quiet m G s × Leads m G k (m.step s).0 t

-- Two states stand beside each other, or both runs have come to one end.
pub data Beside {S T E : Type 0} (low : Stepper S E) (high : Stepper T E) (R : T → S → Type 0) (h : T) (l : S) : Type 0 where
  on : R h l → Beside low high R h l
  over : (e : E) → high.end h ≡ Some e → low.end l ≡ Some e → Beside low high R h l

-- One stage of two runs side by side: the upper machine makes some steps, at least one, and the lower at least as many; the
-- lower puts out nothing before its last step; both put out the same, and stand beside each other again or have one end. Of
-- each state that the lower comes through, G is true.
pub record Stage {S T E : Type 0} (low : Stepper S E) (high : Stepper T E) (G : S → Type 0) (R : T → S → Type 0) (h : T) (l : S) : Type 0 where
  pub more : ℕ
  pub quiet : ℕ
  pub last : S
  pub going : high.end h ≡ None
  pub leads : Leads low G quiet l last
  pub open_ : low.end last ≡ None
  pub good : G last
  pub fewer : more ≤ quiet
  pub output : put [] (low.step last).1 ≡ (go high h (suc more)).output
  pub next : Beside low high R (go high h (suc more)).state (low.step last).0

-- Of each state of a run that has no end yet, G is true.
abbrev pub Always : {S E : Type 0} → Stepper S E → S → (S → Type 0) → Type 0
Always m s G = (n : ℕ) → m.end (go m s n).state ≡ None → G (go m s n).state

-- The lower machine follows the upper one by stages, from each state that the upper comes to.
abbrev pub Follows : {S T E : Type 0} → (low : Stepper S E) → (high : Stepper T E) → (S → Type 0) → (T → S → Type 0) → T → Type 0
Follows {S} low high G R start = (n : ℕ) (l : S) → R (go high start n).state l → Stage low high G R (go high start n).state l

-- A machine that follows another by stages is the same observed from outside, and G is true of each state that it comes to.
abbrev pub FollowsLaw : Type 0 → Type 0 → Type 0 → Type 1
FollowsLaw S T E = (low : Stepper S E) (high : Stepper T E) (G : S → Type 0) (R : T → S → Type 0) (h : T) (l : S) →
    Stands low → Stands high → Follows low high G R h → R h l →
    SameObserved (watch low l) (watch high h) × Always low l G
