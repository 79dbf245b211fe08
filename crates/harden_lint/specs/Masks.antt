-- The mask of the guarded registers, and rows for any table of starts. This file serves private contracts alone.
use Rattle.std.specs.Prelude.{◌≡◌, ◌<◌, ℕ, ◌+◌, ◌*◌, Bool, true, false, Option, List, length, ◌↔◌}
use Rattle.std.specs.Int.{bit_at}
use Rattle.mips_text.specs.Blocks.{IsStart}
use Rattle.harden_lint.specs.declared.Stream.{Stream}
use Rattle.harden_lint.specs.declared.Stream.TheVariants.{Master, Shadow, Nobody}
use Rattle.harden_lint.specs.declared.TypingRow.{TypingRow}
use Rattle.harden_lint.specs.Rows.{IsRow, row_at}
use Rattle.harden_lint.specs.StreamTests.{guarded}
use Rattle.harden_lint.specs.StartTable.{Table}

-- Bit r of the mask says what a test says of register r, and is 0 where r is no register.
abbrev pub IsMask : (ℕ → Bool) → (mask : ℕ) → Type 0
IsMask f mask = (r : ℕ) → (bit_at mask r ≡ 1) ↔ ((r < 32) × (f r ≡ true))

-- Bit r of the mask says whether register r is guarded.
abbrev pub IsGuardedMask : List ℕ → List Bool → (a mask : ℕ) → Type 0
IsGuardedMask text bits a mask = (r : ℕ) → (bit_at mask r ≡ 1) ↔ (guarded text bits a r ≡ true)

-- The stream that HI and LO come from, where they come from the master stream or else from the shadow stream.
abbrev pub stream_of : (by_master by_shadow : Bool) → Stream
stream_of true s = Master
stream_of false true = Shadow
stream_of false false = Nobody

-- The row is that of the address, whatever the entry whose starts are in the table.
abbrev pub RowFor : List ℕ → List Bool → ℕ → TypingRow → Type 0
RowFor text bits a row = (entry : ℕ) (out : Option ℕ) → Table text (IsStart text entry) bits out → IsRow text entry a row

-- The rows are those of the first n words.
pub record RowsTo (text : List ℕ) (bits : List Bool) (n : ℕ) (rows : List TypingRow) : Type 0 where
  pub len : length rows ≡ n
  pub each : (k : ℕ) → k < n → RowFor text bits (0x00400000 + 4 * k) (row_at rows k)
