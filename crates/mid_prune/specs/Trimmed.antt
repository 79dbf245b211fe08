-- A program in blocks without the globals behind the n-th: those that no step uses.
use Rattle.std.specs.Prelude.{◌≡◌, ℕ, ◌+◌, ◌<◌, ◌≤◌, List, map, sum, length, take}
use Rattle.mid_blocks.specs.declared.code.Mid.{Mid}
use Rattle.mid_blocks.specs.Run.{block_run}
use Rattle.mid_blocks.specs.Bounds.{Proper, Shallow}
use Rattle.mid_blocks.specs.Valid.{Valid, IsUsed}

abbrev pub trimmed : ℕ → Mid → Mid
trimmed n mid = record mid { globals = take n mid.globals }

-- it is valid where the program is, but for the room, and has room; and it runs as the program
pub record Stays (mid : Mid) (n : ℕ) : Type 0 where
  pub runs : (input : List ℕ) (k : ℕ) → block_run (trimmed n mid) input k ≡ block_run mid input k
  pub proper : Proper mid → Proper (trimmed n mid)
  pub shallow : Shallow mid → Shallow (trimmed n mid)

-- where no step uses such a global
abbrev pub TrimmedStays : Type 0
TrimmedStays = (mid : Mid) (n : ℕ) → ((global : ℕ) → IsUsed mid global → global < n) → Stays mid n
