-- How many words a run put out, and their sum modulo 2^32.
use Rattle.std.specs.Prelude.{ℕ, ◌+◌, ◌%◌, ◌^◌, List, length, sum, Option, Some, None}
use Rattle.fault_replay.specs.declared.count.Counted.{Counted}

abbrev pub counted : List ℕ → Counted
counted output = record { outputs = length output; total = sum output % 2 ^ 32 }

-- with the word of one more step, if any
abbrev pub with_word : Counted → Option ℕ → Counted
with_word c None = c
with_word c (Some word) = record { outputs = c.outputs + 1; total = (c.total + word) % 2 ^ 32 }
