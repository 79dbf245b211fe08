-- For private contracts alone: what the parts of a call do, and what they make of the whole.
use Rattle.std.specs.Prelude.{ℕ, ◌≡◌, ◌≢◌, ◌⊎◌, List, ◌++◌, Option, Some, None, Result, OnOk, OnErr, IfOk, IfErr, IsErrOf}
use Rattle.hard_shelf.specs.Outside.{SameNames, SameOthers, AppendsPart}
use Rattle.hard_shelf.specs.declared.sink.SinkFault.{SinkFault}
use Rattle.tool_outcomes.specs.declared.failure.Failure.{Failure}
use Rattle.tool_outcomes.specs.declared.failure.Failure.TheVariants.{Source, Shelf, Memory}
use Rattle.compile_rules.specs.declared.refusal.Refusal.{Refusal}
use Rattle.tool_words.specs.Commands.{Command}
use Rattle.compile_rules.specs.Compiled.{IsRefused}
use Rattle.tool_outcomes.specs.Failures.{status_of}
use Rattle.tool_outcomes.specs.Files.{Held, File, LacksOne, HasBad}
use Rattle.run_audit.specs.declared.error.AuditError.{AuditError}
use Rattle.tool_outcomes.specs.Outcomes.{Misses, Refuses, Accepts, IsAudit, IsEval, FailsAudit, Audited, Puts, Done, Says, IsRefusal}

-- A failure of the shelf or of memory says nothing of what is held; any other is a refusal.
abbrev pub Explains : (Failure → Type 0) → Failure → Type 0
Explains R failure = status_of failure ≢ 7 → status_of failure ≢ 9 → R failure

-- Files were read, over a shelf that tells or not and whose count rose or not: what they hold is known, or it is known why there
-- is nothing.
pub record Reads {A : Type 0} (told : Type 0) (held : Held) (rose : Type 0) (files : List File) (Is : A → Type 0) (work : Result A Failure) : Type 0 where
  pub ok : IfOk work (λ a. told → Is a)
  pub explained : IfErr work (λ failure. told → Explains (HasBad held files) failure)
  pub shelf : IsErrOf work Shelf → rose ⊎ (told × LacksOne held files)

-- A text was written, over a sink that tells or not, or a part of it stands and the sink's count rose.
pub record Writes (tells : Type 0) (before after : List ℕ) (rose : Type 0) (text : List ℕ) (work : Result (Unit {0}) SinkFault) : Type 0 where
  pub ok : OnOk work (tells → after ≡ before ++ text)
  pub fault : OnErr work rose
  pub part : OnErr work (tells → AppendsPart before after text)

-- The same, told by a status.
pub data Said (tells : Type 0) (before after : List ℕ) (rose : Type 0) (text : List ℕ) (good status : ℕ) : Type 0 where
  Whole : status ≡ good → (tells → after ≡ before ++ text) → Said tells before after rose text good status
  Part : status ≡ 8 → rose → (tells → AppendsPart before after text) → Said tells before after rose text good status

-- What a call leaves: on the shelf, whose names hold `old` and then `new`; and in the sink, where `before` stands and then `after`.
-- `told` and `tells` say that the shelf and the sink tell what they hold; `shelf` and `sink` that the count of each rose.
pub record Leaves (told : Type 0) (old new : Held) (shelf : Type 0) (tells : Type 0) (before after : List ℕ) (sink : Type 0)
    (command : Option Command) (status : ℕ) : Type 0 where
  pub statuses : (status ≡ 0) ⊎ (status ≡ 2) ⊎ IsRefusal status ⊎ (status ≡ 7) ⊎ (status ≡ 8) ⊎ (status ≡ 9) ⊎ (status ≡ 10)
  pub done : status ≡ 0 → told → Done old new command
  pub audited : status ≡ 0 → told → Audited old command
  pub complete : told → Accepts old command → (shelf → ⊥) → (sink → ⊥) → (status ≡ 0) ⊎ (status ≡ 9)
  pub usage : status ≡ 2 → command ≡ None
  pub no_command : command ≡ None → (status ≡ 2) ⊎ (status ≡ 8)
  pub refused : IsRefusal status → told → (failure : Failure) × (status_of failure ≡ status) × Refuses old command failure
  pub refuses : (failure : Failure) → told → Refuses old command failure → (status ≡ status_of failure) ⊎ (status ≡ 7) ⊎ (status ≡ 8) ⊎ (status ≡ 9)
  pub only_audits : status ≡ 10 → IsAudit command
  pub failed_audit : status ≡ 10 → told → (error : AuditError) × FailsAudit old command error
  pub fails_audit : (error : AuditError) → told → FailsAudit old command error → (status ≡ 10) ⊎ (status ≡ 7) ⊎ (status ≡ 8) ⊎ (status ≡ 9)
  pub shelf_fault : status ≡ 7 → shelf ⊎ (told × Misses old command)
  pub sink_fault : status ≡ 8 → sink
  pub others : told → (name : List ℕ) → (Puts command name → ⊥) → new name ≡ old name
  pub nothing_put : (status ≡ 2) ⊎ IsRefusal status ⊎ (status ≡ 9) ⊎ (status ≡ 10) → told → SameNames old new
  pub unless_accepted : told → (Accepts old command → ⊥) → SameNames old new
  pub put_where_accepted : status ≡ 8 → told → Done old new command ⊎ ((Accepts old command → ⊥) × SameNames old new)
  pub said : (status ≡ 0) ⊎ (status ≡ 2) ⊎ IsRefusal status ⊎ (status ≡ 10) → told → tells →
      (text : List ℕ) × Says old new command text × (after ≡ before ++ text)
  pub part_said : status ≡ 8 → told → tells → (text : List ℕ) × Says old new command text × AppendsPart before after text
  pub silent : (status ≡ 7) ⊎ ((status ≡ 9) × (IsEval command → ⊥)) → tells → after ≡ before
  pub begun : status ≡ 9 → told → tells → (after ≡ before) ⊎ ((text : List ℕ) × Says old new command text × AppendsPart before after text)

-- A file was put under a name, and a line written after it.
pub record PutsAndSays (told : Type 0) (old new : Held) (shelf_rose : Type 0) (tells : Type 0) (before after : List ℕ) (sink_rose : Type 0)
    (name file line : List ℕ) (status : ℕ) : Type 0 where
  pub statuses : (status ≡ 0) ⊎ (status ≡ 7) ⊎ (status ≡ 8) ⊎ (status ≡ 9)
  pub put : (status ≡ 0) ⊎ (status ≡ 8) → told → new name ≡ Some file
  pub others : told → SameOthers name old new
  pub memory : status ≡ 9 → told → SameNames old new
  pub shelf : status ≡ 7 → shelf_rose
  pub sink : status ≡ 8 → sink_rose
  pub said : status ≡ 0 → tells → after ≡ before ++ line
  pub part : status ≡ 8 → tells → AppendsPart before after line
  pub silent : (status ≡ 7) ⊎ (status ≡ 9) → tells → after ≡ before

-- The bytes of a source are refused, and why, or there was no memory.
abbrev pub RefusesBytes : List ℕ → Failure → Type 0
RefusesBytes source failure = (failure ≡ Memory) ⊎ ((refusal : Refusal) × (failure ≡ Source refusal) × IsRefused source refusal)
