-- The files that a command reads: what each is to hold, and why what it holds is refused.
use Rattle.std.specs.Prelude.{ℕ, ◌≡◌, ◌⊎◌, ◌<◌, ◌≤◌, List, [], ◌∷◌, length, Option, Some, None, Ok, Err}
use Rattle.elf_image.specs.Held.{IsImage}
use Rattle.elf_image.specs.Refusal as images
use Rattle.elf_image.specs.declared.read.ImageError.{ImageError}
use Rattle.hard_lines.specs.Faults.{fault_of}
use Rattle.hard_lines.specs.Inputs.{inputs}
use Rattle.hard_lines.specs.declared.faults.FaultError.{FaultError}
use Rattle.hard_lines.specs.declared.inputs.LinesError.{LinesError}
use Rattle.hard_words.specs.declared.Change.{Change}
use Rattle.mips_isa.specs.Image.{ImageFields}
use Rattle.program_maker.specs.Text.{made_text}
use Rattle.compile_rules.specs.declared.refusal.Refusal.{Refusal}
use Rattle.tool_outcomes.specs.declared.failure.Failure.{Failure}
use Rattle.tool_outcomes.specs.declared.failure.Failure.TheVariants.{Source, Image, LargeImage, Fault, LargeFault, Input, LargeInput}
use Rattle.compile_rules.specs.Compiled.{IsAccepted, IsRefused}

-- The bytes under each name.
abbrev pub Held : Type 0
Held = List ℕ → Option (List ℕ)

-- The name holds bytes of which this is true.
abbrev pub Holds : Held → List ℕ → (List ℕ → Type 0) → Type 0
Holds held name P = (bytes : List ℕ) × (held name ≡ Some bytes) × P bytes

-- A file, by its name and by what it is to hold: a source, an image, the numbers of an input, or one fault; or a made program, by its
-- number and its size.
pub data File : Type 0 where
  SourceFile : List ℕ → File
  ImageFile : List ℕ → File
  InputFile : List ℕ → File
  FaultFile : List ℕ → File
  MadeFile : (number size : ℕ) → File

-- What a file holds: what stands under its name; a made program is always there.
abbrev pub bytes_of : Held → File → Option (List ℕ)
bytes_of held (SourceFile name) = held name
bytes_of held (ImageFile name) = held name
bytes_of held (InputFile name) = held name
bytes_of held (FaultFile name) = held name
bytes_of held (MadeFile number size) = Some (made_text number size)

-- The greatest numbers of bytes of an image, of an input and of a fault; the compiler has that of a source.
abbrev pub longest_image : ℕ
longest_image = 3221225472

abbrev pub longest_input : ℕ
longest_input = 16777216

abbrev pub longest_fault : ℕ
longest_fault = 256

-- Bytes that are an image, short enough to be read.
pub record IsRunnable (bytes : List ℕ) (fields : ImageFields) : Type 0 where
  pub short : length bytes ≤ longest_image
  pub image : IsImage bytes fields

-- A text of these numbers, short enough to be read.
pub record IsInput (text numbers : List ℕ) : Type 0 where
  pub short : length text ≤ longest_input
  pub reads : inputs text ≡ Ok numbers

-- A text of this change, short enough to be read.
pub record IsFault (text : List ℕ) (change : Change) : Type 0 where
  pub short : length text ≤ longest_fault
  pub reads : fault_of text ≡ Ok change

-- The bytes are what the file is to hold.
abbrev pub IsGood : File → List ℕ → Type 0
IsGood (SourceFile name) bytes = IsAccepted bytes
IsGood (ImageFile name) bytes = (fields : ImageFields) × IsRunnable bytes fields
IsGood (InputFile name) bytes = (numbers : List ℕ) × IsInput bytes numbers
IsGood (FaultFile name) bytes = (change : Change) × IsFault bytes change
IsGood (MadeFile number size) bytes = IsAccepted bytes

-- The bytes are refused, and why.
pub data IsBad (bytes : List ℕ) : File → Failure → Type 0 where
  BadSource : (name : List ℕ) (refusal : Refusal) → IsRefused bytes refusal → IsBad bytes (SourceFile name) (Source refusal)
  BadImage : (name : List ℕ) (error : ImageError) → length bytes ≤ longest_image → images.refusal bytes ≡ Some error →
      IsBad bytes (ImageFile name) (Image error)
  LongImage : (name : List ℕ) → longest_image < length bytes → IsBad bytes (ImageFile name) LargeImage
  BadInput : (name : List ℕ) (error : LinesError) → length bytes ≤ longest_input → inputs bytes ≡ Err error → IsBad bytes (InputFile name) (Input error)
  LongInput : (name : List ℕ) → longest_input < length bytes → IsBad bytes (InputFile name) LargeInput
  BadFault : (name : List ℕ) (error : FaultError) → length bytes ≤ longest_fault → fault_of bytes ≡ Err error → IsBad bytes (FaultFile name) (Fault error)
  LongFault : (name : List ℕ) → longest_fault < length bytes → IsBad bytes (FaultFile name) LargeFault
  BadMade : (number size : ℕ) (refusal : Refusal) → IsRefused bytes refusal → IsBad bytes (MadeFile number size) (Source refusal)

-- The file is there and is good.
abbrev pub HoldsGood : Held → File → Type 0
HoldsGood held file = (bytes : List ℕ) × (bytes_of held file ≡ Some bytes) × IsGood file bytes

-- The file is there and is refused.
abbrev pub HoldsBad : Held → File → Failure → Type 0
HoldsBad held file failure = (bytes : List ℕ) × (bytes_of held file ≡ Some bytes) × IsBad bytes file failure

-- What holds of the fields and the numbers of the image and the input that two names hold.
abbrev pub HoldsRun : Held → (image input : List ℕ) → (ImageFields → List ℕ → Type 0) → Type 0
HoldsRun held image input P =
    Holds held image (λ bytes. (fields : ImageFields) × IsRunnable bytes fields
    × Holds held input (λ from. (numbers : List ℕ) × IsInput from numbers × P fields numbers))

-- Files are read in order: one is come to only where all before it are there and good. All are good;
abbrev pub AreGood : Held → List File → Type 0
AreGood held [] = Unit {0}
AreGood held (file ∷ files) = HoldsGood held file × AreGood held files

-- or one that is come to isn't there;
abbrev pub LacksOne : Held → List File → Type 0
LacksOne held [] = ⊥
LacksOne held (file ∷ files) = (bytes_of held file ≡ None) ⊎ (HoldsGood held file × LacksOne held files)

-- or one that is come to is refused.
abbrev pub HasBad : Held → List File → Failure → Type 0
HasBad held [] failure = ⊥
HasBad held (file ∷ files) failure = HoldsBad held file failure ⊎ (HoldsGood held file × HasBad held files failure)
