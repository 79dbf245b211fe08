-- What a call of the tool leaves, by the command that its words are, if they are one.
use Rattle.std.specs.Prelude.{ℕ, ◌≡◌, ◌⊎◌, List, [], ◌∷◌, length, Option, Some, None, codes}
use Rattle.run_audit.specs.AuditLines.{passed_lines, no_line}
use Rattle.c_meaning.specs.Meaning.{c_run}
use Rattle.c_syntax.specs.declared.tree.Program.{Program}
use Rattle.eval_show.specs.EvalLines as programs
use Rattle.elf_image.specs.Held.{IsImage}
use Rattle.fault_campaign.specs.Campaign.{IsTally}
use Rattle.fault_campaign.specs.declared.outcome.Tally.{Tally}
use Rattle.fault_replay.specs.Show.{shown}
use Rattle.hard_words.specs.declared.Change.{Change}
use Rattle.mips_isa.specs.Image.{ImageFields, boot_state}
use Rattle.mips_isa.specs.Runs.{run}
use Rattle.program_maker.specs.Text.{made_text}
use Rattle.run_audit.specs.Audits.{Passes, IsRefused, AuditedRun, CountsWindows}
use Rattle.run_audit.specs.declared.error.AuditError.{AuditError}
use Rattle.tool_outcomes.specs.declared.failure.Failure.{Failure}
use Rattle.tool_words.specs.declared.command.CriticalEdges.TheVariants.{Kept}
use Rattle.tool_words.specs.Commands.{Command, Compile, Run, RunChanged, Audit, Campaign, ListPairs, Make, Eval, SelfRun, self_image}
use Rattle.compile_rules.specs.Compiled.{IsSource}
use Rattle.tool_outcomes.specs.Failures.{line_of}
use Rattle.tool_outcomes.specs.Edges.{IsImageFor}
use Rattle.tool_outcomes.specs.Files.{Held, Holds, File, SourceFile, ImageFile, InputFile, FaultFile, MadeFile, IsRunnable, IsInput, IsFault, HoldsRun, AreGood}
use Rattle.tool_outcomes.specs.Files.{LacksOne, HasBad}
use Rattle.tool_outcomes.specs.Pairs.{pair_lines}
use Rattle.tool_outcomes.specs.Summaries.{summary}
use Rattle.fault_campaign.specs.Tallies.{tally_lines}

-- A status says that a file was refused: the source, the image, the file of a fault or the input.
abbrev pub IsRefusal : ℕ → Type 0
IsRefusal status = (status ≡ 3) ⊎ (status ≡ 4) ⊎ (status ≡ 5) ⊎ (status ≡ 6)

-- The files that a command reads, in the order of its words.
abbrev pub files_of : Command → List File
files_of (Compile edges source image) = SourceFile source ∷ []
files_of (Run image input steps) = ImageFile image ∷ InputFile input ∷ []
files_of (RunChanged image input steps fault) = ImageFile image ∷ InputFile input ∷ FaultFile fault ∷ []
files_of (Audit image input steps) = ImageFile image ∷ InputFile input ∷ []
files_of (Campaign image input steps from to) = ImageFile image ∷ InputFile input ∷ []
files_of (ListPairs image) = ImageFile image ∷ []
files_of (Make number size out) = []
files_of (Eval source input turns) = SourceFile source ∷ InputFile input ∷ []
files_of (SelfRun number size steps) = MadeFile number size ∷ []

-- A file that the command comes to isn't there.
abbrev pub Misses : Held → Option Command → Type 0
Misses held None = ⊥
Misses held (Some command) = LacksOne held (files_of command)

-- The file at whose reading the command stops, and why.
abbrev pub Refuses : Held → Option Command → Failure → Type 0
Refuses held None failure = ⊥
Refuses held (Some command) failure = HasBad held (files_of command) failure

-- The command is an audit.
abbrev pub IsAudit : Option Command → Type 0
IsAudit (Some (Audit image input steps)) = Unit {0}
IsAudit _ = ⊥

-- The command runs a source.
abbrev pub IsEval : Option Command → Type 0
IsEval (Some (Eval source input turns)) = Unit {0}
IsEval _ = ⊥

-- Where the command is an audit, its files are there and good, and the audit does not pass, and why: the lint refuses the text, or the
-- run without a change reports or stands at a state that is not placed.
abbrev pub FailsAudit : Held → Option Command → AuditError → Type 0
FailsAudit held (Some (Audit image input steps)) error = HoldsRun held image input (λ fields numbers. IsRefused fields numbers steps error)
FailsAudit held _ error = ⊥

-- Where the command is an audit, it passes; of another nothing is asked.
abbrev pub PassesAudit : Held → Option Command → Type 0
PassesAudit held (Some (Audit image input steps)) = HoldsRun held image input (λ fields numbers. (made : ℕ) × Passes fields numbers steps made)
PassesAudit held _ = Unit {0}

-- What is known of a run whose audit passed: after every number of steps up to the bound, each word that a fault puts in a place that is
-- no window of the text is unseen or told.
abbrev pub Audited : Held → Option Command → Type 0
Audited held (Some (Audit image input steps)) = HoldsRun held image input (λ fields numbers. AuditedRun fields numbers steps)
Audited held _ = Unit {0}

-- All files that the command reads are there, each of its form, and an audit of them passes.
abbrev pub Accepts : Held → Option Command → Type 0
Accepts held None = ⊥
Accepts held (Some command) = AreGood held (files_of command) × PassesAudit held (Some command)

-- The command puts a file of this name.
abbrev pub Puts : Option Command → List ℕ → Type 0
Puts None name = ⊥
Puts (Some (Compile edges source image)) name = name ≡ image
Puts (Some (Run image input steps)) name = ⊥
Puts (Some (RunChanged image input steps fault)) name = ⊥
Puts (Some (Audit image input steps)) name = ⊥
Puts (Some (Campaign image input steps from to)) name = ⊥
Puts (Some (ListPairs image)) name = ⊥
Puts (Some (Make number size out)) name = name ≡ out
Puts (Some (Eval source input turns)) name = ⊥
Puts (Some (SelfRun number size steps)) name = name ≡ self_image

-- The file that the command puts is what it is to be: an image of the source that the source's name held before, of the form that the
-- command promises; a made program.
abbrev pub HasPut : Held → Held → Command → Type 0
HasPut old new (Compile edges source image) = Holds old source (λ from. Holds new image (λ to. IsImageFor edges from to))
HasPut old new (Run image input steps) = Unit {0}
HasPut old new (RunChanged image input steps fault) = Unit {0}
HasPut old new (Audit image input steps) = Unit {0}
HasPut old new (Campaign image input steps from to) = Unit {0}
HasPut old new (ListPairs image) = Unit {0}
HasPut old new (Make number size out) = new out ≡ Some (made_text number size)
HasPut old new (Eval source input turns) = Unit {0}
HasPut old new (SelfRun number size steps) = Holds new self_image (λ to. IsImageFor Kept (made_text number size) to)

-- The command is done: its files were there and good, an audit of them passes, and what it puts is put.
abbrev pub Done : Held → Held → Option Command → Type 0
Done old new None = ⊥
Done old new (Some command) = Accepts old (Some command) × HasPut old new command

-- The run of the image and of the numbers that two names hold, for so many steps, is shown by the text.
abbrev pub ShowsRun : Held → (image input : List ℕ) → Option Change → ℕ → List ℕ → Type 0
ShowsRun held image input change steps text =
    HoldsRun held image input (λ fields numbers. text ≡ shown (run (boot_state fields numbers) change steps))

-- The run of the program of the source and of the numbers that two names hold, with so much fuel, is shown by the text.
abbrev pub ShowsEval : Held → (source input : List ℕ) → ℕ → List ℕ → Type 0
ShowsEval held source input turns text =
    Holds held source (λ bytes. (program : Program) × IsSource bytes program
    × Holds held input (λ from. (numbers : List ℕ) × IsInput from numbers × (text ≡ programs.shown (c_run program numbers turns))))

-- The text tells of an audit: that it passes, how many steps its run made, and how many windows the text of the image has; or why it
-- does not pass.
abbrev pub TellsAudit : ImageFields → List ℕ → ℕ → List ℕ → Type 0
TellsAudit fields numbers steps text =
    ((made : ℕ) × (count : ℕ) × Passes fields numbers steps made × CountsWindows fields.text count × (text ≡ passed_lines made count))
    ⊎ ((error : AuditError) × IsRefused fields numbers steps error × (text ≡ no_line error))

-- What the command prints where its files are good: what it did, or what an audit found; of `selfrun` the run of the image that is put.
abbrev pub Prints : Held → Held → Command → List ℕ → Type 0
Prints held new (Compile edges source image) text = text ≡ codes "compiled\n"
Prints held new (Run image input steps) text = ShowsRun held image input None steps text
Prints held new (RunChanged image input steps fault) text =
    Holds held fault (λ file. (change : Change) × IsFault file change × ShowsRun held image input (Some change) steps text)
Prints held new (Audit image input steps) text = HoldsRun held image input (λ fields numbers. TellsAudit fields numbers steps text)
Prints held new (Campaign image input steps from to) text =
    HoldsRun held image input (λ fields numbers. (tally : Tally) × IsTally fields numbers steps from to tally × (text ≡ tally_lines tally))
Prints held new (ListPairs image) text = Holds held image (λ bytes. (fields : ImageFields) × IsRunnable bytes fields × (text ≡ pair_lines fields))
Prints held new (Make number size out) text = text ≡ codes "made\n"
Prints held new (Eval source input turns) text = ShowsEval held source input turns text
Prints held new (SelfRun number size steps) text =
    Holds new self_image (λ to. (fields : ImageFields) × IsImage to fields ×
    (text ≡ summary (length (made_text number size)) (run (boot_state fields []) None steps)))

-- The whole text of the call: the line of the refusal, or else what the command prints; `usage` where the words are no command.
abbrev pub Says : Held → Held → Option Command → List ℕ → Type 0
Says held new None text = text ≡ codes "usage\n"
Says held new (Some command) text =
    ((failure : Failure) × HasBad held (files_of command) failure × (text ≡ line_of failure)) ⊎ (AreGood held (files_of command) × Prints held new command text)
