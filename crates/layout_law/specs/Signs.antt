-- The run with heads beside the run of the items.
use Rattle.std.specs.Prelude.{◌≡◌, ◌<◌, ◌⊎◌, ℕ, Bool, true, false, ◌==◌, ◌||◌, if◌then◌else◌, Some, None, List, [], ◌∷◌, length, slice_get, slice_index, bit_xor}
use Rattle.hard_runs.specs.Observed.{SameObserved}
use Rattle.hard_runs.specs.Stepping.{go, Always}
use Rattle.hard_items.specs.declared.code.Class.TheVariants.{Head}
use Rattle.hard_items.specs.declared.code.Item.{Item}
use Rattle.hard_items.specs.declared.code.HardProgram.{HardProgram}
use Rattle.hard_items.specs.declared.code.Mark.{Mark}
use Rattle.hard_items.specs.declared.code.Signed.{Signed}
use Rattle.hard_items.specs.Streams.{touched}
use Rattle.hard_items.specs.Run.{Data, Spot, items, items_of, first_spot, item_run}
use Rattle.hard_items.specs.Ways.{MayFollow}
use Rattle.hard_items.specs.WellFormed.{WellFormed}
use Rattle.hard_items.specs.Forms.{Each, Formed}
use Rattle.hard_words.specs.Words.{AreWords}
use Rattle.hard_items.specs.Rules.{LawfulAt, NeverReports}
use Rattle.mips_isa.specs.Runs.{observed}
use Rattle.mips_isa.specs.Image.{boot_state}
use Rattle.layout_law.specs.Layout.{image}
use Rattle.layout_law.specs.Level.{Laying}
use Rattle.hard_items.specs.Heads.{headed, signed_run}

-- A register of the signatures.
abbrev pub is_sign : ℕ → Bool
is_sign r = (r == 1) || ((r == 24) || (r == 28))

-- What register 24 holds behind the first two words of a head, where it held s and register 28 held a.
abbrev pub arrives : ℕ → ℕ → Mark → ℕ
arrives s a m = if m.fan then bit_xor (bit_xor s m.d) a else bit_xor s m.d

-- The marks agree: at the start of the run, and along every edge.
pub record MarksAgree (s : Signed) : Type 0 where
  pub one_each : length s.marks ≡ length s.program.blocks
  pub first : (m : Mark) → slice_get s.marks 0 ≡ Some m → arrives 0 0 m ≡ m.s
  pub along : (b c : ℕ) (m n : Mark) → MayFollow s.program b c → slice_get s.marks b ≡ Some m → slice_get s.marks c ≡ Some n → arrives m.s m.adjust n ≡ n.s

-- No item uses a register of the signatures.
abbrev pub Unsigned : HardProgram → Type 0
Unsigned p = (b : ℕ) → Each (λ i. Each (λ r. is_sign r ≡ false) (touched i.instr)) (items_of p b)

-- Data with other registers.
abbrev pub with_regs : Data → List ℕ → (ℕ → Bool) → Data
with_regs d regs backs = record d { regs = regs; backs = backs }

-- All registers but those of the signatures are the same, and these hold no return number.
pub record Kept (hb lb : ℕ → Bool) (hs ls : List ℕ) : Type 0 where
  pub all : length hs ≡ 32
  pub there : length ls ≡ 32
  pub same : (r : ℕ) → is_sign r ≡ false → slice_index ls r ≡ slice_index hs r
  pub backs : (r : ℕ) → is_sign r ≡ false → lb r ≡ hb r
  pub none : (r : ℕ) → is_sign r ≡ true → lb r ≡ false
  pub zero : slice_index ls 0 ≡ 0
  pub no_back : lb 0 ≡ false

-- A state of the run with heads has the place and the data of one of the run of items, but for the registers of the signatures.
pub record SameBut (h l : Spot) : Type 0 where
  pub regs : List ℕ
  pub backs : ℕ → Bool
  pub is : l ≡ record h { now = with_regs h.now regs backs }
  pub kept : Kept h.now.backs backs h.now.regs regs

-- A word of a head comes next.
abbrev pub HeadNext : List Item → Type 0
HeadNext [] = ⊥
HeadNext (i ∷ more) = i.class ≡ Head

-- A state of the run with heads is lawful, and stands at a word of a head or is as a state of the run of items.
pub record Follows (s : Signed) (input : List ℕ) (l : Spot) : Type 0 where
  pub lawful : LawfulAt (headed s) l
  pub stands : HeadNext l.rest ⊎ ((n : ℕ) × SameBut (go (items s.program) (first_spot s.program input) n).state l)

-- What the run with heads relies on.
pub record Signing (s : Signed) : Type 0 where
  pub well_formed : WellFormed s.program
  pub formed : (b : ℕ) → b < length s.program.blocks → Formed (items_of s.program b)
  pub agree : MarksAgree s
  pub unsigned : Unsigned s.program

-- The run with heads is the same observed from outside as the run of items.
abbrev pub HeadsSame : Type 0
HeadsSame = (s : Signed) (input : List ℕ) → Signing s → Always (items s.program) (first_spot s.program input) (LawfulAt s.program) →
    SameObserved (signed_run s input) (item_run s.program input) × Always (items (headed s)) (first_spot (headed s) input) (Follows s input)

-- Where the program never reports, the words with heads are the same observed from outside as the run of items.
abbrev pub HeadedWordsSame : Type 0
HeadedWordsSame = (s : Signed) (input : List ℕ) → Laying s → Signing s → AreWords input →
    ((input : List ℕ) → AreWords input → Always (items s.program) (first_spot s.program input) (LawfulAt s.program)) → NeverReports s.program →
    SameObserved (observed (boot_state (image (headed s)) input) None) (item_run s.program input)
