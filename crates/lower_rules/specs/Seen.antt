-- The run of a C program, seen as a run of a program in blocks is seen.
use Rattle.std.specs.Prelude.{ℕ, List, Option, Some, None}
use Rattle.hard_runs.specs.Observed.{Seen, Observation}
use Rattle.c_meaning.specs.declared.run.EvalEnd.{EvalEnd}
use Rattle.c_meaning.specs.declared.run.EvalEnd.TheVariants as c
use Rattle.c_syntax.specs.declared.tree.Program.{Program}
use Rattle.c_meaning.specs.Meaning.{Names, CRan, run_of}
use Rattle.mid_blocks.specs.declared.code.RunEnd.{RunEnd}
use Rattle.mid_blocks.specs.declared.code.RunEnd.TheVariants as mid

-- the end of a run of blocks that stands for an end of C; a run whose fuel is spent has none
abbrev pub end_of : EvalEnd → Option RunEnd
end_of (c.Exited word) = Some (mid.Exited word)
end_of (c.Trapped trap) = Some (mid.Trapped trap)
end_of c.Starved = Some mid.Starved
end_of c.Going = None

-- what is seen of a run of C
abbrev pub c_seen : CRan → Seen RunEnd
c_seen r = record { output = r.output; end = end_of r.end }

-- after each number of units of fuel
abbrev pub c_observed : Names → Program → List ℕ → Observation RunEnd
c_observed names program input fuel = c_seen (run_of names program input fuel)
