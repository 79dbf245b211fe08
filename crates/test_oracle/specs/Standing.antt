-- For private contracts alone: when a runner stands where a run stands. Return numbers have no part in it, since no item asks for
-- them.
use Rattle.std.specs.Prelude.{◌≡◌, ℕ, List, drop, Option, None, false}
use Rattle.hard_runs.specs.Stepping.{go}
use Rattle.mips_isa.specs.Machine.{State}
use Rattle.mips_machine.specs.View.{state_of}
use Rattle.hard_items.specs.declared.code.HardProgram.{HardProgram}
use Rattle.hard_items.specs.Run as run
use Rattle.hard_items.specs.Run.{Data, Spot, items, items_of, machine_of, first_spot}
use Rattle.test_oracle.specs.declared.item_runner.Way.{Way}
use Rattle.test_oracle.specs.declared.item_runner.Way.TheVariants.{Onward, Over, To}
use Rattle.test_oracle.specs.declared.item_runner.Runner.{Runner}

-- The way that the code has.
abbrev pub way_seen : Way → run.Way
way_seen Onward = run.Onward
way_seen Over = run.Over
way_seen (To b) = run.To b

-- Where a runner stands, with some data.
abbrev pub spot_of : HardProgram → Runner → Data → Spot
spot_of p r d = record { block = r.block; rest = drop r.at (items_of p r.block); way = way_seen r.way; now = d; end = None }

-- The machine as before an instruction.
abbrev pub resting : State → State
resting s = record s { pc = 0; npc = 0; last_load = 0; quiet = 0; slot = false }

-- A runner stands at a place of a run that goes on.
pub record Standing (p : HardProgram) (r : Runner) (s : Spot) : Type 0 where
  pub place : s ≡ spot_of p r s.now
  pub holds : machine_of s.now ≡ state_of r.machine

-- The same, or both have one end.
pub record Stands (p : HardProgram) (r : Runner) (s : Spot) : Type 0 where
  pub ended : s.end ≡ r.machine.end
  pub going : r.machine.end ≡ None → Standing p r s

-- After a step a runner stands where the run does, and both put out the same.
pub record Stepped (p : HardProgram) (r : Runner) (w : Option ℕ) (t : Spot × Option ℕ) : Type 0 where
  pub stands : Stands p r t.0
  pub puts : t.1 ≡ w

-- After some steps from the start this was put out, and the runner stands where the run does.
pub record Came (p : HardProgram) (input : List ℕ) (n : ℕ) (output : List ℕ) (r : Runner) : Type 0 where
  pub stands : Stands p r (go (items p) (first_spot p input) n).state
  pub puts : output ≡ (go (items p) (first_spot p input) n).output
