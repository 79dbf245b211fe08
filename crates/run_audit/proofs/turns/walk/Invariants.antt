use Rattle.std.proofs.Common.{◌≡◌, ℕ, List}
use Rattle.mips_text.specs.Blocks.{IsStart}
use Rattle.mips_isa.specs.Image.{ImageFields, boot_state}
use Rattle.mips_machine.specs.View.{state_of}
use Rattle.harden_lint.specs.Rules.{WellTyped}
use Rattle.run_audit.specs.Turns.{Bits}
use Rattle.run_audit.proofs.CleanRun.{AtStep}
use Rattle.run_audit.proofs.turns.walk.Given as goal

abbrev pub invariant-loop-n : goal.invariant-loop-n
invariant-loop-n l =
    (i : ImageFields) (feed : List ℕ) → WellTyped i.text i.entry → l.text ≡ i.text → Bits i.text (IsStart i.text i.entry) l.bits → state_of l.fn.machine ≡ boot_state i feed →
    AtStep i feed l.bits l.n (state_of l.machine)
