-- Which fields a file holds.
use Rattle.std.specs.Prelude.{ℕ, ◌≡◌, ◌+◌, ◌==◌, ◌&&◌, Bool, true, IsTrue, List, [], ◌∷◌, length, drop}
use Rattle.byteorder.specs.Endian.{big_number}
use Rattle.mips_isa.specs.Machine.{State}
use Rattle.mips_isa.specs.Image.{ImageFields, boot_state}
use Rattle.elf_image.specs.declared.layout.Field.{Field}
use Rattle.elf_image.specs.declared.layout.Sizes.{Sizes}
use Rattle.elf_image.specs.declared.layout.TheConstants.{HEADER}
use Rattle.elf_image.specs.Layout.{sizes_of, data_at, windows_at, aliases_at, names_at, sections_at, text_segment, data_segment, no_section}
use Rattle.elf_image.specs.Layout.{text_section, data_section, windows_section, aliases_section, names_section, names}
use Rattle.elf_image.specs.Bounds.{Bounds}

-- the number in so many bytes from an offset on, high byte first
unfoldable pub number_at : ℕ → ℕ → List ℕ → ℕ
number_at size at bytes = big_number size (drop at bytes)

-- the file has these numbers of so many bytes each, one behind the other, from an offset on
unfoldable pub has : ℕ → List ℕ → ℕ → List ℕ → Bool
has size [] at bytes = true
has size (n ∷ ns) at bytes = (number_at size at bytes == n) && has size ns (at + size) bytes

-- the file has the value of each field of a table
unfoldable pub has_fields : List Field → List ℕ → Bool
has_fields [] bytes = true
has_fields (f ∷ fs) bytes = (number_at f.size f.at bytes == f.value) && has_fields fs bytes

-- the numbers of pairs, one behind the other
abbrev pub flat : List (ℕ × ℕ) → List ℕ
flat [] = []
flat (p ∷ ps) = p.0 ∷ p.1 ∷ flat ps

-- the headers and names for these sizes, each at its offset, and nothing behind them
pub record HasTables (bytes : List ℕ) (s : Sizes) : Type 0 where
  pub magic : number_at 4 0 bytes ≡ 0x7f454c46
  pub machine : number_at 2 18 bytes ≡ 8
  pub header : IsTrue (has_fields HEADER bytes)
  pub place : number_at 4 32 bytes ≡ sections_at s
  pub text_segment : IsTrue (has 4 (text_segment s) 52 bytes)
  pub data_segment : IsTrue (has 4 (data_segment s) 84 bytes)
  pub names : IsTrue (has 1 names (names_at s) bytes)
  pub no_section : IsTrue (has 4 no_section (sections_at s) bytes)
  pub text_section : IsTrue (has 4 (text_section s) (sections_at s + 40) bytes)
  pub data_section : IsTrue (has 4 (data_section s) (sections_at s + 80) bytes)
  pub windows_section : IsTrue (has 4 (windows_section s) (sections_at s + 120) bytes)
  pub aliases_section : IsTrue (has 4 (aliases_section s) (sections_at s + 160) bytes)
  pub names_section : IsTrue (has 4 (names_section s) (sections_at s + 200) bytes)
  pub whole : length bytes ≡ sections_at s + 240

-- A file holds these fields, which are in their bounds. The bytes between its parts may be any.
pub record IsImage (bytes : List ℕ) (i : ImageFields) : Type 0 where
  pub bounds : Bounds i
  pub tables : HasTables bytes (sizes_of i)
  pub entry : number_at 4 24 bytes ≡ i.entry
  pub text : IsTrue (has 4 i.text 4096 bytes)
  pub initial : IsTrue (has 4 i.initial (data_at (sizes_of i)) bytes)
  pub windows : IsTrue (has 4 (flat i.windows) (windows_at (sizes_of i)) bytes)
  pub aliases : IsTrue (has 4 (flat i.aliases) (aliases_at (sizes_of i)) bytes)

-- the state in which the machine begins to run a file on an input
pub record BootOf (bytes input : List ℕ) (state : State) : Type 0 where
  pub fields : ImageFields
  pub held : IsImage bytes fields
  pub start : state ≡ boot_state fields input
