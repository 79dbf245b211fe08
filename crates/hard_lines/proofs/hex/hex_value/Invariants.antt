use Rattle.std.proofs.Common.{◌≡◌, ◌<◌, ◌^◌, ◌*◌, take}
use Rattle.hard_lines.specs.Faults.{hex_value}
use Rattle.hard_lines.proofs.hex.hex_value.Given as goal

abbrev pub invariant-loop-b : goal.invariant-loop-b
invariant-loop-b l = record {
  value : l.value ≡ hex_value (take l.b-index l.digits);
  small : l.value < 16 ^ l.b-index;
}
