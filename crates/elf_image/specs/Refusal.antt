-- Why a file holds no image: the checks in order, each with its refusal.
use Rattle.std.specs.Prelude.{ℕ, zero, suc, ◌+◌, ◌/◌, ◌%◌, ◌==◌, ◌&&◌, ◌||◌, nat_le, Bool, true, if◌then◌else◌, List, [], ◌∷◌, length, Option, Some, None}
use Rattle.mips_isa.specs.Image.{ImageFields}
use Rattle.elf_image.specs.declared.layout.Field.{Field}
use Rattle.elf_image.specs.declared.layout.TheConstants.{HEADER}
use Rattle.elf_image.specs.declared.layout.Sizes.{Sizes}
use Rattle.elf_image.specs.declared.read.ImageError.{ImageError}
use Rattle.elf_image.specs.declared.read.ImageError.TheVariants.{Truncated, NotElf, NotMips, BadHeader, BadSegment, BadSection, TrailingBytes}
use Rattle.elf_image.specs.Layout.{data_at, windows_at, aliases_at, names_at, text_segment, data_segment, no_section, text_section, data_section}
use Rattle.elf_image.specs.Layout.{windows_section, aliases_section, names_section, names}
use Rattle.elf_image.specs.Bounds.{is_in_text, is_window, is_alias, all_ascending}
use Rattle.elf_image.specs.Held.{number_at, has}

-- so many words from an offset on
unfoldable pub words_at : ℕ → ℕ → List ℕ → List ℕ
words_at zero at bytes = []
words_at (suc n) at bytes = number_at 4 at bytes ∷ words_at n (at + 4) bytes

-- so many pairs of words from an offset on
unfoldable pub pairs_at : ℕ → ℕ → List ℕ → List (ℕ × ℕ)
pairs_at zero at bytes = []
pairs_at (suc n) at bytes = (number_at 4 at bytes, number_at 4 (at + 4) bytes) ∷ pairs_at n (at + 8) bytes

-- where the header says that the sections are told
abbrev pub told_at : List ℕ → ℕ
told_at bytes = number_at 4 32 bytes

-- the sizes that the segments tell, with no windows and aliases
abbrev pub segment_sizes : List ℕ → Sizes
segment_sizes bytes = record {
  text = number_at 4 68 bytes / 4;
  initial = number_at 4 100 bytes / 4;
  memory_words = number_at 4 104 bytes / 4;
  windows = 0;
  aliases = 0;
}

-- the same with the windows and aliases that sections 3 and 4 tell
abbrev pub sizes_told : List ℕ → Sizes
sizes_told bytes = record (segment_sizes bytes) {
  windows = number_at 4 (told_at bytes + 140) bytes / 8;
  aliases = number_at 4 (told_at bytes + 180) bytes / 8;
}

-- the fields at the places that follow from these sizes
abbrev pub fields_told : List ℕ → ImageFields
fields_told bytes = record {
  entry = number_at 4 24 bytes;
  text = words_at (sizes_told bytes).text 4096 bytes;
  initial = words_at (sizes_told bytes).initial (data_at (sizes_told bytes)) bytes;
  memory_words = (sizes_told bytes).memory_words;
  windows = pairs_at (sizes_told bytes).windows (windows_at (sizes_told bytes)) bytes;
  aliases = pairs_at (sizes_told bytes).aliases (aliases_at (sizes_told bytes)) bytes;
}

-- a check, and the refusal where it fails
pub record Check : Type 0 where
  pub holds : Bool
  pub refusal : ImageError

abbrev pub check : Bool → ImageError → Check
check holds refusal = record { holds = holds; refusal = refusal }

-- the refusal of the first check that fails
abbrev pub first_fault : List Check → Option ImageError
first_fault [] = None
first_fault (c ∷ cs) = if c.holds then first_fault cs else Some c.refusal

-- a check of each field of a table
unfoldable pub field_checks : List Field → List ℕ → List Check
field_checks [] bytes = []
field_checks (f ∷ fs) bytes = check (number_at f.size f.at bytes == f.value) (BadHeader f.at) ∷ field_checks fs bytes

-- a check of each of the header's fixed fields
unfoldable pub table_checks : List ℕ → List Check
table_checks bytes = field_checks HEADER bytes

-- the header, but for the entry and the place of the sections
unfoldable pub header_checks : List ℕ → List Check
header_checks bytes =
    check (nat_le 52 (length bytes)) (Truncated 52 (length bytes))
    ∷ check (number_at 4 0 bytes == 0x7f454c46) NotElf
    ∷ check (number_at 2 18 bytes == 8) NotMips
    ∷ table_checks bytes

-- segment 0 is right for the number of words that it tells, which is in its bounds
abbrev pub text_segment_holds : List ℕ → Bool
text_segment_holds bytes = let s = segment_sizes bytes in
    has 4 (text_segment s) 52 bytes && (nat_le 1 s.text && nat_le s.text 66060288)

-- segment 1 is right for the numbers of words that it tells, which are in their bounds
abbrev pub data_segment_holds : List ℕ → Bool
data_segment_holds bytes = let s = segment_sizes bytes in
    has 4 (data_segment s) 84 bytes && (nat_le 1 s.memory_words && (nat_le s.memory_words 4194304 && nat_le s.initial s.memory_words))

-- the segments and the entry
unfoldable pub segment_checks : List ℕ → List Check
segment_checks bytes =
    check (nat_le 116 (length bytes)) (Truncated 116 (length bytes))
    ∷ check (text_segment_holds bytes) (BadSegment 0)
    ∷ check (data_segment_holds bytes) (BadSegment 1)
    ∷ check (is_in_text (segment_sizes bytes).text (number_at 4 24 bytes)) (BadHeader 24)
    ∷ []

-- the place of the sections, and the file's size
unfoldable pub size_checks : List ℕ → List Check
size_checks bytes =
    check ((told_at bytes % 4 == 0) && nat_le (windows_at (segment_sizes bytes) + 52) (told_at bytes)) (BadHeader 32)
    ∷ check (nat_le (told_at bytes + 240) (length bytes)) (Truncated (told_at bytes + 240) (length bytes))
    ∷ check (nat_le (length bytes) (told_at bytes + 240)) (TrailingBytes (told_at bytes + 240) (length bytes))
    ∷ []

-- a part ends in the file, and no later than the next one begins by what its section says
abbrev pub ends_before : ℕ → ℕ → List ℕ → Bool
ends_before end next bytes = nat_le end (number_at 4 next bytes) && nat_le end (length bytes)

-- the first three sections
unfoldable pub fixed_checks : List ℕ → List Check
fixed_checks bytes =
    check (has 4 no_section (told_at bytes) bytes) (BadSection 0)
    ∷ check (has 4 (text_section (segment_sizes bytes)) (told_at bytes + 40) bytes) (BadSection 1)
    ∷ check (has 4 (data_section (segment_sizes bytes)) (told_at bytes + 80) bytes) (BadSection 2)
    ∷ []

-- section 3 is right for the number of windows that it tells, and they are windows in order
abbrev pub windows_hold : List ℕ → Bool
windows_hold bytes = let s = sizes_told bytes in
    has 4 (windows_section s) (told_at bytes + 120) bytes
    && (ends_before (aliases_at s) (told_at bytes + 176) bytes
    && all_ascending (is_window s.text) None (pairs_at s.windows (windows_at s) bytes))

-- section 4 is right for the number of aliases that it tells, and they are aliases in order
abbrev pub aliases_hold : List ℕ → Bool
aliases_hold bytes = let s = sizes_told bytes in
    has 4 (aliases_section s) (told_at bytes + 160) bytes
    && (ends_before (names_at s) (told_at bytes + 216) bytes
    && all_ascending (is_alias s.text) None (pairs_at s.aliases (aliases_at s) bytes))

-- section 5 is right, and its names stand right before the sections
abbrev pub names_hold : List ℕ → Bool
names_hold bytes = let s = sizes_told bytes in
    has 4 (names_section s) (told_at bytes + 200) bytes
    && ((names_at s + 52 == told_at bytes) && has 1 names (names_at s) bytes)

-- the windows, the aliases and the names, each with its section
unfoldable pub list_checks : List ℕ → List Check
list_checks bytes =
    check (windows_hold bytes) (BadSection 3)
    ∷ check (aliases_hold bytes) (BadSection 4)
    ∷ check (names_hold bytes) (BadSection 5)
    ∷ []

-- the first of two refusals
abbrev pub first_of : Option ImageError → Option ImageError → Option ImageError
first_of None later = later
first_of (Some e) later = Some e

-- why a file is refused, if it is: the first of all these checks that fails
unfoldable pub refusal : List ℕ → Option ImageError
refusal bytes =
    first_of (first_fault (header_checks bytes))
    (first_of (first_fault (segment_checks bytes))
    (first_of (first_fault (size_checks bytes))
    (first_of (first_fault (fixed_checks bytes)) (first_fault (list_checks bytes)))))

-- a field of one, two or four bytes of the header
abbrev pub field_fits : Field → Bool
field_fits f = nat_le (f.at + f.size) 52 && ((f.size == 1) || ((f.size == 2) || (f.size == 4)))

-- fields of the header
abbrev pub fields_fit : List Field → Bool
fields_fit [] = true
fields_fit (f ∷ fs) = field_fits f && fields_fit fs
