-- A run of items seen from outside.
use Rattle.hard_runs.specs.Observed.{Seen}
use Rattle.mips_isa.specs.declared.instr.End.{End}
use Rattle.test_oracle.specs.declared.running.ItemRan.{ItemRan}

-- The words that were put out, and the end, if there is one.
abbrev pub seen : ItemRan → Seen End
seen ran = record { output = ran.output; end = ran.end }
