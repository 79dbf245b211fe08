-- What is shown of a run of a C program with so much fuel: what is shown of a run of a machine with that output and that end. A run whose
-- fuel is spent is going.
use Rattle.std.specs.Prelude.{ℕ, List, Option, Some, None}
use Rattle.c_meaning.specs.Meaning.{CRan}
use Rattle.c_meaning.specs.declared.run.EvalEnd.{EvalEnd}
use Rattle.c_meaning.specs.declared.run.EvalEnd.TheVariants as program
use Rattle.fault_replay.specs.Show.{show}
use Rattle.mips_isa.specs.declared.instr.End.{End}
use Rattle.mips_isa.specs.declared.instr.End.TheVariants as machine

-- how a run of a program ended, as that of a machine
abbrev pub end_of : EvalEnd → Option End
end_of (program.Exited word) = Some (machine.Exited word)
end_of (program.Trapped number) = Some (machine.Trapped number)
end_of program.Starved = Some machine.Starved
end_of program.Going = None

abbrev pub shown : CRan → List ℕ
shown ran = show ran.output (end_of ran.end)
