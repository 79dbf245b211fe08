-- The mask of the voted registers, the mask of the windows, and rows for any tables of the words. This file serves private contracts
-- alone.
use Rattle.std.specs.Prelude.{◌≡◌, ◌<◌, ℕ, ◌+◌, ◌*◌, Bool, true, false, List, length, ◌↔◌}
use Rattle.std.specs.Int.{bit_at}
use Rattle.mips_text.specs.Blocks.{IsStart}
use Rattle.third_lint.specs.declared.ThirdRow.{ThirdRow}
use Rattle.third_lint.specs.Rows.{IsRow, row_at}
use Rattle.third_lint.specs.RuleTests.{voted}
use Rattle.third_lint.specs.Tables.{Table, Entered}

-- Bit r of the mask says what a test says of register r, and is 0 where r is no register.
abbrev pub IsMask : (ℕ → Bool) → (mask : ℕ) → Type 0
IsMask f mask = (r : ℕ) → (bit_at mask r ≡ 1) ↔ ((r < 32) × (f r ≡ true))

-- Bit r of the mask says whether register r is voted.
abbrev pub IsVotedMask : List ℕ → List Bool → (a mask : ℕ) → Type 0
IsVotedMask text entered a mask = (r : ℕ) → (bit_at mask r ≡ 1) ↔ (voted text entered a r ≡ true)

-- The number of the stream that HI and LO come from, or 0.
abbrev pub code_of : (by_a by_b by_c : Bool) → ℕ
code_of true b c = 1
code_of false true c = 2
code_of false false true = 3
code_of false false false = 0

-- The row is that of the address, whatever the entry whose starts and whose entered words are in the tables.
abbrev pub RowFor : List ℕ → (starts entered : List Bool) → ℕ → ThirdRow → Type 0
RowFor text starts entered a row = (entry : ℕ) → Table text (IsStart text entry) starts → Table text (Entered text entry) entered → IsRow text entry a row

-- The rows are those of the first n words.
pub record RowsTo (text : List ℕ) (starts entered : List Bool) (n : ℕ) (rows : List ThirdRow) : Type 0 where
  pub len : length rows ≡ n
  pub each : (k : ℕ) → k < n → RowFor text starts entered (0x00400000 + 4 * k) (row_at rows k)
