-- What a machine stands for.
use Rattle.std.specs.Prelude.{ℕ, true}
use Rattle.mips_isa.specs.Machine.{State, moved}
use Rattle.mips_machine.specs.declared.Machine.{Machine}

-- the state of the definition of a step, field by field
abbrev pub state_of : Machine → State
state_of m = record {
  pc = m.pc;
  npc = m.npc;
  regs = m.regs;
  hi = m.hi;
  lo = m.lo;
  text = m.text;
  memory = m.memory;
  feed = m.feed;
  fed = m.fed;
  last_load = m.last_load;
  quiet = m.quiet;
  slot = m.slot;
  end = m.end;
}

-- the way into a delay slot, behind which a branch or a jump leads elsewhere
abbrev pub jumped : State → ℕ → State
jumped s to = record (moved s) { npc = to; slot = true }
