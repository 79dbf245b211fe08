-- What it is that an image does as its program does.
use Rattle.std.specs.Prelude.{ℕ, List, Option, Some, None}
use Rattle.hard_runs.specs.Observed.{Seen, Observation, SameObserved}
use Rattle.hard_words.specs.Words.{AreWords}
use Rattle.mips_isa.specs.declared.instr.End.{End}
use Rattle.mips_isa.specs.declared.instr.End.TheVariants as machine
use Rattle.mips_isa.specs.Runs.{observed}
use Rattle.mips_isa.specs.Image.{ImageFields, boot_state}
use Rattle.c_syntax.specs.declared.tree.Program.{Program}
use Rattle.c_meaning.specs.declared.run.EvalEnd.{EvalEnd}
use Rattle.c_meaning.specs.declared.run.EvalEnd.TheVariants as program
use Rattle.c_meaning.specs.Meaning.{CRan, c_run}

-- The run of an image from its start, with some input: what is seen after each number of steps.
abbrev pub image_seen : ImageFields → List ℕ → Observation End
image_seen image input = observed (boot_state image input) None

-- The end of a run of C, as the machine names it; a run whose fuel is spent has none.
abbrev pub end_seen : EvalEnd → Option End
end_seen (program.Exited word) = Some (machine.Exited word)
end_seen (program.Trapped trap) = Some (machine.Trapped trap)
end_seen program.Starved = Some machine.Starved
end_seen program.Going = None

-- What is seen of a run of C.
abbrev pub c_seen : CRan → Seen End
c_seen ran = record { output = ran.output; end = end_seen ran.end }

-- The call of `main` with some input: what is seen with each fuel.
abbrev pub program_seen : Program → List ℕ → Observation End
program_seen program input fuel = c_seen (c_run program input fuel)

-- The image does what the program does, for every input: it prints and ends as the program, and goes on where the
-- program goes on.
abbrev pub Same : Program → ImageFields → Type 0
Same program image = (input : List ℕ) → AreWords input → SameObserved (image_seen image input) (program_seen program input)
