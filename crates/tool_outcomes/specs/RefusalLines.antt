-- The lines that say why an image, a text of numbers, a file of a fault or a source is refused. Numbers are decimal.
use Rattle.std.specs.Prelude.{ℕ, List, [], ◌++◌, codes, decimal}
use Rattle.fault_replay.specs.Show.{line}
use Rattle.elf_image.specs.declared.read.ImageError.{ImageError}
use Rattle.elf_image.specs.declared.read.ImageError.TheVariants.{Truncated, NotElf, NotMips, BadHeader, BadSegment, BadSection, TrailingBytes, OutOfMemory}
use Rattle.hard_lines.specs.declared.inputs.LinesError.{LinesError}
use Rattle.hard_lines.specs.declared.faults.FaultError.{FaultError}
use Rattle.hard_lines.specs.declared.faults.FaultError.TheVariants.{NotOneLine, BadWord, OutOfRange}
use Rattle.c_lexer.specs.declared.error.LexError.TheVariants as lexer
use Rattle.c_lexer.specs.declared.error.LexError.TheVariants.{BadToken, LiteralTooLarge, CommentOpen}
use Rattle.c_parser.specs.declared.program.ParseError.TheVariants as parser
use Rattle.c_parser.specs.declared.program.ParseError.TheVariants.{NoProgram}
use Rattle.compile_rules.specs.declared.refusal.Refusal.{Refusal}
use Rattle.compile_rules.specs.declared.refusal.Refusal.TheVariants as refusals
use Rattle.compile_rules.specs.declared.refusal.Refusal.TheVariants.{TooLong, Lex, Parse, Check}
use Rattle.check_rules.specs.declared.error.CheckError.TheVariants as checker
use Rattle.check_rules.specs.declared.error.CheckKind.{CheckKind}
use Rattle.check_rules.specs.declared.error.CheckKind.TheVariants as kinds
use Rattle.hard_lines.specs.declared.inputs.LinesError.TheVariants.{BadNumber, TooMany, OutOfMemory as NoMemory}

-- a cause, with how many bytes it needs and how many there are
abbrev pub need_and_have : List ℕ → ℕ → ℕ → List ℕ
need_and_have cause need have = cause ++ codes ", need " ++ decimal need ++ codes " have " ++ decimal have

-- Why bytes hold no image of the ELF chapters of the System V ABI; nothing is said of want of memory.
unfoldable pub image_line : ImageError → List ℕ
image_line (Truncated need have) = line (need_and_have (codes "image refused: truncated") need have)
image_line NotElf = line (codes "image refused: not ELF")
image_line NotMips = line (codes "image refused: not MIPS")
image_line (BadHeader field) = line (codes "image refused: header field at " ++ decimal field)
image_line (BadSegment index) = line (codes "image refused: segment " ++ decimal index)
image_line (BadSection index) = line (codes "image refused: section " ++ decimal index)
image_line (TrailingBytes need have) = line (need_and_have (codes "image refused: trailing bytes") need have)
image_line OutOfMemory = []

-- the line of an image file that is larger than any that is read
unfoldable pub image_too_large : List ℕ
image_too_large = line (codes "image refused: too large")

-- Why a text of numbers is refused; nothing is said of want of memory.
unfoldable pub input_line : LinesError → List ℕ
input_line (BadNumber place) = line (codes "input refused: number on line " ++ decimal place)
input_line TooMany = line (codes "input refused: too many numbers")
input_line NoMemory = []

-- the line of an input file that is larger than any that is read
unfoldable pub input_too_large : List ℕ
input_too_large = line (codes "input refused: too large")

-- Why a file of one fault is refused; words are counted from 1.
unfoldable pub fault_line : FaultError → List ℕ
fault_line NotOneLine = line (codes "fault refused: not one line")
fault_line (BadWord word) = line (codes "fault refused: word " ++ decimal word)
fault_line (OutOfRange word) = line (codes "fault refused: range of word " ++ decimal word)

-- the line of a fault file that is larger than any that is read
unfoldable pub fault_too_large : List ℕ
fault_too_large = line (codes "fault refused: too large")

-- Why a source is refused, and the offset of the byte where it is.
unfoldable pub source_line_at : List ℕ → ℕ → List ℕ
source_line_at kind at = line (codes "source refused: " ++ kind ++ codes " at " ++ decimal at)

-- The name of a fault of names, types or sizes.
unfoldable pub kind_name : CheckKind → List ℕ
kind_name kinds.NameTwice = codes "NameTwice"
kind_name kinds.PrototypeDiffers = codes "PrototypeDiffers"
kind_name kinds.BadLength = codes "BadLength"
kind_name kinds.NotConstant = codes "NotConstant"
kind_name kinds.TooManyInitialisers = codes "TooManyInitialisers"
kind_name kinds.NameUnknown = codes "NameUnknown"
kind_name kinds.NotAFunction = codes "NotAFunction"
kind_name kinds.NotAnArray = codes "NotAnArray"
kind_name kinds.NotScalar = codes "NotScalar"
kind_name kinds.ArgCount = codes "ArgCount"
kind_name kinds.VoidUsed = codes "VoidUsed"
kind_name kinds.NotAssignable = codes "NotAssignable"
kind_name kinds.BadReturn = codes "BadReturn"
kind_name kinds.BreakOutside = codes "BreakOutside"
kind_name kinds.CaseTwice = codes "CaseTwice"
kind_name kinds.NoBody = codes "NoBody"
kind_name kinds.NoMain = codes "NoMain"
kind_name kinds.FrameTooLarge = codes "FrameTooLarge"
kind_name kinds.TooManyBlocks = codes "TooManyBlocks"
kind_name kinds.StoreTooLarge = codes "StoreTooLarge"

-- Why a source is refused; nothing is said of want of memory.
unfoldable pub source_line : Refusal → List ℕ
source_line TooLong = line (codes "source refused: TooLong")
source_line (Lex (BadToken at)) = source_line_at (codes "BadToken") at
source_line (Lex (LiteralTooLarge at)) = source_line_at (codes "LiteralTooLarge") at
source_line (Lex (CommentOpen at)) = source_line_at (codes "CommentOpen") at
source_line (Lex lexer.OutOfMemory) = []
source_line (Parse (NoProgram at)) = source_line_at (codes "NoProgram") at
source_line (Parse parser.OutOfMemory) = []
source_line (Check (checker.Fault kind at)) = source_line_at (kind_name kind) at
source_line (Check checker.OutOfMemory) = []
source_line refusals.OutOfMemory = []
