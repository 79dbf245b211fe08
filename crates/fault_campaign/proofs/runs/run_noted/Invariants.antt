use Rattle.std.proofs.Common.{◌≡◌, ◌++◌, None}
use Rattle.mips_isa.specs.Runs.{run}
use Rattle.mips_machine.specs.View.{state_of}
use Rattle.fault_campaign.specs.Runs.{AreAddresses}
use Rattle.fault_campaign.proofs.runs.run_noted.Given as goal

abbrev pub invariant-loop-n : goal.invariant-loop-n
invariant-loop-n l = record {
  state : state_of l.machine ≡ (run (state_of l.fn.machine) None l.n).state;
  output : l.out.items ≡ l.fn.out.items ++ (run (state_of l.fn.machine) None l.n).output;
  addresses : AreAddresses (state_of l.fn.machine) l.n l.addresses.items;
}
