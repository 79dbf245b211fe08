use Rattle.std.proofs.Common.{◌<◌, ◌*◌, ◌+◌, ◌^◌, arith}
use Rattle.hard_lines.proofs.FaultWords.{small_hex}
use Rattle.hard_lines.proofs.hex.hex_value.Goals as goal

pub overflow_mul-value : goal.overflow_mul-value
overflow_mul-value c = omega (arith, small_hex c.loop-b.b-index c.loop-b.value 0 c.loop-b.invariant.small (omega arith) (omega arith))

pub overflow_add-value : goal.overflow_add-value
overflow_add-value c = omega (arith, small_hex c.loop-b.b-index c.loop-b.value c.hex_digit_value.result c.loop-b.invariant.small (omega arith) c.hex_digit_value.ensures.digit)
