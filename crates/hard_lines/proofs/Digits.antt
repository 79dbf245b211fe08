-- Digits summed up.
use Rattle.std.proofs.Common.{◌≡◌, ℕ, ◌+◌, ◌-◌, ◌*◌, ◌<◌, List, length, take, get_or, ap, ◌∙◌}
use Rattle.std.proofs.lemmas.List.{take_more}
use Rattle.std.proofs.lemmas.List.Sums.{fold_push}
use Rattle.hard_lines.specs.Numbers.{with_digit, digits_value}
use Rattle.hard_lines.specs.Faults.{with_hex_digit, hex_digit_value, hex_value}

-- one digit more
pub digits_more : (bs : List ℕ) (i : ℕ) → i < length bs → digits_value (take (i + 1) bs) ≡ digits_value (take i bs) * 10 + (get_or bs i 0 - 48)
digits_more bs i h = ap digits_value (take_more bs i 0 h) ∙ fold_push with_digit 0 (take i bs) (get_or bs i 0)

-- one hexadecimal digit more
pub hex_more : (bs : List ℕ) (i : ℕ) → i < length bs → hex_value (take (i + 1) bs) ≡ hex_value (take i bs) * 16 + hex_digit_value (get_or bs i 0)
hex_more bs i h = ap hex_value (take_more bs i 0 h) ∙ fold_push with_hex_digit 0 (take i bs) (get_or bs i 0)
