-- The run of a program in blocks as a machine that goes by steps, with ends as the machine of items names them.
use Rattle.std.specs.Prelude.{ℕ, Option, Some, None, List}
use Rattle.hard_runs.specs.Observed.{Observation}
use Rattle.hard_runs.specs.Stepping.{Stepper}
use Rattle.mips_isa.specs.declared.instr.End.{End}
use Rattle.mips_isa.specs.declared.instr.End.TheVariants as machine
use Rattle.mid_blocks.specs.declared.code.MidStep.{MidStep}
use Rattle.mid_blocks.specs.declared.code.MidStep.TheVariants.{Constant, Copy, Operate, Guard, Load, Store, Input, Output, Deep}
use Rattle.mid_blocks.specs.declared.code.Mid.{Mid}
use Rattle.mid_blocks.specs.declared.code.RunEnd.{RunEnd}
use Rattle.mid_blocks.specs.declared.code.RunEnd.TheVariants.{Exited, Trapped, Starved}
use Rattle.mid_blocks.specs.Lines.{Line, Step, End as EndLine}
use Rattle.mid_blocks.specs.Run.{BlockState, word_in, block_step, next_line, block_run}

-- An end of a program in blocks, as an end of the machine.
abbrev pub end_of : Option RunEnd → Option End
end_of None = None
end_of (Some (Exited word)) = Some (machine.Exited word)
end_of (Some (Trapped trap)) = Some (machine.Trapped trap)
end_of (Some Starved) = Some machine.Starved

-- What is seen of a program in blocks.
abbrev pub blocks_seen : Mid → List ℕ → Observation End
blocks_seen mid input n = record { output = (block_run mid input n).output; end = end_of (block_run mid input n).end }

-- The word that a step puts out, if any.
abbrev pub step_says : MidStep → BlockState → Option ℕ
step_says (Constant to word) s = None
step_says (Copy to from) s = None
step_says (Operate op to left right) s = None
step_says (Guard global index) s = None
step_says (Load to global index) s = None
step_says (Store global index from) s = None
step_says (Input to) s = None
step_says (Output from) s = Some (word_in s.current.variables from)
step_says (Deep test) s = None

abbrev pub line_says : Option Line → BlockState → Option ℕ
line_says None s = None
line_says (Some (Step step)) s = step_says step s
line_says (Some (EndLine end)) s = None

abbrev pub says : Mid → BlockState → Option RunEnd → Option ℕ
says mid s None = line_says (next_line mid s) s
says mid s (Some e) = None

-- The block machine.
abbrev pub blocks : Mid → Stepper BlockState End
blocks mid = record { step = λ s. (block_step mid s, says mid s s.end); end = λ s. end_of s.end }
