-- The layout of a file: its parts, where each begins, and their bytes.
-- The headers are those of the ELF chapters of the System V ABI, 32-bit class, high byte first.
use Rattle.std.specs.Prelude.{ℕ, ◌+◌, ◌-◌, ◌*◌, ◌/◌, List, [], ◌∷◌, ◌++◌, length, replicate}
use Rattle.std.specs.Int.{w16, w32, to_be_bytes}
use Rattle.std.specs.List.{flat_map}
use Rattle.mips_isa.specs.Image.{ImageFields}
use Rattle.elf_image.specs.declared.image.Image.{Image}
use Rattle.elf_image.specs.declared.layout.Sizes.{Sizes}

-- the fields of an image
abbrev pub fields_of : Image → ImageFields
fields_of i = record { entry = i.entry; text = i.text; initial = i.initial; memory_words = i.memory_words; windows = i.windows; aliases = i.aliases }

-- how many words, windows and aliases there are
abbrev pub sizes_of : ImageFields → Sizes
sizes_of i = record { text = length i.text; initial = length i.initial; memory_words = i.memory_words; windows = length i.windows; aliases = length i.aliases }

-- the initial words begin at the next multiple of 4096 behind the text, which begins at 4096
abbrev pub data_at : Sizes → ℕ
data_at s = (4096 + 4 * s.text + 4095) / 4096 * 4096

-- the windows begin where the initial words end
abbrev pub windows_at : Sizes → ℕ
windows_at s = data_at s + 4 * s.initial

-- the aliases begin where the windows end
abbrev pub aliases_at : Sizes → ℕ
aliases_at s = windows_at s + 8 * s.windows

-- the names of the sections begin where the aliases end
abbrev pub names_at : Sizes → ℕ
names_at s = aliases_at s + 8 * s.aliases

-- the table of sections begins where the names end, and has 240 bytes
abbrev pub sections_at : Sizes → ℕ
sections_at s = names_at s + 52

-- the header's first bytes: the magic number, 32-bit class, high byte first, version 1, and zeros
unfoldable pub ident : List ℕ
ident = 0x7f ∷ 0x45 ∷ 0x4c ∷ 0x46 ∷ 1 ∷ 2 ∷ 1 ∷ 0 ∷ 0 ∷ 0 ∷ 0 ∷ 0 ∷ 0 ∷ 0 ∷ 0 ∷ 0 ∷ []

-- then two halves: an executable file, for MIPS
unfoldable pub kinds : List ℕ
kinds = 2 ∷ 8 ∷ []

-- then words: version, entry, where the segments and the sections are told, flags
unfoldable pub places : ℕ → ℕ → List ℕ
places entry sections = 1 ∷ entry ∷ 52 ∷ sections ∷ 1 ∷ []

-- then halves: the header's size, sizes and numbers of segments and of sections, and the section of the names
unfoldable pub counts : List ℕ
counts = 52 ∷ 32 ∷ 2 ∷ 40 ∷ 6 ∷ 5 ∷ []

-- segment 0, the text: type, offset, both addresses, size in the file and in memory, flags, alignment
unfoldable pub text_segment : Sizes → List ℕ
text_segment s = 1 ∷ 4096 ∷ 0x00400000 ∷ 0x00400000 ∷ (4 * s.text) ∷ (4 * s.text) ∷ 5 ∷ 4096 ∷ []

-- segment 1, the memory
unfoldable pub data_segment : Sizes → List ℕ
data_segment s = 1 ∷ data_at s ∷ 0x10010000 ∷ 0x10010000 ∷ (4 * s.initial) ∷ (4 * s.memory_words) ∷ 6 ∷ 4096 ∷ []

-- a zero byte, and the names ".text", ".data", ".eddi.windows", ".cfcss.aliases" and ".shstrtab", each with a zero byte
unfoldable pub names : List ℕ
names = 0 ∷ 46 ∷ 116 ∷ 101 ∷ 120 ∷ 116 ∷ 0 ∷ 46 ∷ 100 ∷ 97 ∷ 116 ∷ 97 ∷ 0 ∷ 46 ∷ 101 ∷ 100 ∷ 100 ∷ 105 ∷ 46 ∷ 119 ∷ 105 ∷ 110 ∷ 100 ∷ 111 ∷ 119 ∷ 115 ∷ 0
    ∷ 46 ∷ 99 ∷ 102 ∷ 99 ∷ 115 ∷ 115 ∷ 46 ∷ 97 ∷ 108 ∷ 105 ∷ 97 ∷ 115 ∷ 101 ∷ 115 ∷ 0 ∷ 46 ∷ 115 ∷ 104 ∷ 115 ∷ 116 ∷ 114 ∷ 116 ∷ 97 ∷ 98 ∷ 0 ∷ []

-- section 0: no section. Each section has its name's place, type, flags, address, offset, size, link, info, alignment, entry size
unfoldable pub no_section : List ℕ
no_section = 0 ∷ 0 ∷ 0 ∷ 0 ∷ 0 ∷ 0 ∷ 0 ∷ 0 ∷ 0 ∷ 0 ∷ []

-- section 1, ".text"
unfoldable pub text_section : Sizes → List ℕ
text_section s = 1 ∷ 1 ∷ 6 ∷ 0x00400000 ∷ 4096 ∷ (4 * s.text) ∷ 0 ∷ 0 ∷ 4 ∷ 0 ∷ []

-- section 2, ".data"
unfoldable pub data_section : Sizes → List ℕ
data_section s = 7 ∷ 1 ∷ 3 ∷ 0x10010000 ∷ data_at s ∷ (4 * s.initial) ∷ 0 ∷ 0 ∷ 8 ∷ 0 ∷ []

-- section 3, ".eddi.windows"
unfoldable pub windows_section : Sizes → List ℕ
windows_section s = 13 ∷ 1 ∷ 0 ∷ 0 ∷ windows_at s ∷ (8 * s.windows) ∷ 0 ∷ 0 ∷ 4 ∷ 8 ∷ []

-- section 4, ".cfcss.aliases"
unfoldable pub aliases_section : Sizes → List ℕ
aliases_section s = 27 ∷ 1 ∷ 0 ∷ 0 ∷ aliases_at s ∷ (8 * s.aliases) ∷ 0 ∷ 0 ∷ 4 ∷ 8 ∷ []

-- section 5, ".shstrtab"
unfoldable pub names_section : Sizes → List ℕ
names_section s = 42 ∷ 3 ∷ 0 ∷ 0 ∷ names_at s ∷ 52 ∷ 0 ∷ 0 ∷ 1 ∷ 0 ∷ []

-- a number of 16 bits, high byte first
unfoldable pub half : ℕ → List ℕ
half n = to_be_bytes w16 n

-- a number of 32 bits, high byte first
unfoldable pub word : ℕ → List ℕ
word n = to_be_bytes w32 n

-- a window or an alias: two words
unfoldable pub pair : ℕ × ℕ → List ℕ
pair p = word p.0 ++ word p.1

-- the header's 52 bytes
unfoldable pub header : ImageFields → List ℕ
header i = ident ++ flat_map half kinds ++ flat_map word (places i.entry (sections_at (sizes_of i))) ++ flat_map half counts

-- the 64 bytes that tell of the segments
unfoldable pub segments : Sizes → List ℕ
segments s = flat_map word (text_segment s) ++ flat_map word (data_segment s)

-- the 240 bytes that tell of the sections
unfoldable pub sections : Sizes → List ℕ
sections s = flat_map word no_section ++ flat_map word (text_section s) ++ flat_map word (data_section s) ++ flat_map word (windows_section s) ++
    flat_map word (aliases_section s) ++ flat_map word (names_section s)

-- so many zero bytes; unfoldable, so that no goal writes them out
unfoldable pub zeros : ℕ → List ℕ
zeros n = replicate n 0

-- the headers and the text, each at its offset, with zeros between and behind
unfoldable pub front : ImageFields → List ℕ
front i = header i ++ segments (sizes_of i) ++ zeros 3980 ++ flat_map word i.text ++ zeros (data_at (sizes_of i) - (4096 + 4 * length i.text))

-- the initial words, windows, aliases, names and sections
unfoldable pub back : ImageFields → List ℕ
back i = flat_map word i.initial ++ flat_map pair i.windows ++ flat_map pair i.aliases ++ names ++ sections (sizes_of i)

-- the bytes of a file that holds the fields
abbrev pub image_bytes : ImageFields → List ℕ
image_bytes i = front i ++ back i
