-- What becomes of a program in blocks: a hardened image that does the same.
use Rattle.std.specs.Prelude.{◌≡◌, ◌≤◌, ◌<◌, ℕ, ◌+◌, ◌*◌, None, List, length, Contains, count_by, slice_get, Some}
use Rattle.hard_runs.specs.Observed.{SameObserved}
use Rattle.hard_words.specs.Words.{AreWords}
use Rattle.mips_isa.specs.Runs.{observed}
use Rattle.mips_isa.specs.Image.{ImageFields, boot_state}
use Rattle.mips_faults.specs.Faults.{Placed, Unreported}
use Rattle.mips_text.specs.Blocks.{IsStart}
use Rattle.mid_blocks.specs.declared.code.Mid.{Mid}
use Rattle.mid_blocks.specs.declared.code.MidFunction.{MidFunction}
use Rattle.mid_blocks.specs.declared.places.Places.{Places}
use Rattle.mid_blocks.specs.Valid.{Valid}
use Rattle.mid_blocks.specs.Bounds.{Shallow, Proper}
use Rattle.mid_blocks.specs.Size.{words, block_count, branch_count}
use Rattle.register_halves.specs.Assigned.{AreAssigned}
use Rattle.mid_blocks.specs.Leaf.{IsOneLeaf}
use Rattle.frame_plan.specs.Frames.{cells}
use Rattle.mid_blocks.specs.Words.{HasWords}
use Rattle.double_law.specs.Runs.{blocks_seen}
use Rattle.mips_text.specs.DeadWords.{NoDeadWords}
use Rattle.mips_text.specs.Loads.{is_load}
use Rattle.harden_lint.specs.Rules.{WellTyped}
use Rattle.lint_theorem.specs.Hardened.{IsHardened}
use Rattle.mips_text.specs.Turns.{IsInTurns}
use Rattle.harden.specs.Image.{HasNoAliases}
use Rattle.elf_image.specs.Bounds.{Fits}
use Rattle.mips_text.specs.Starts.{HasFewStarts}

-- What is asked of a program in blocks: it is valid, its calls have room, it reads only what was written, its numbers are words, and it
-- comes to at most 62,914,560 words and 16,000 blocks, one more for each branch and two for the whole.
pub record IsReady (mid : Mid) : Type 0 where
  pub valid : Valid mid
  pub shallow : Shallow mid
  pub proper : Proper mid
  pub has_words : HasWords mid
  pub few_words : words mid ≤ 62914560
  pub few_blocks : block_count mid + branch_count mid + 2 ≤ 16000

-- The image does on every input what the program in blocks does; its text, which begins at the entry, keeps the rules of the lint; it is
-- hardened, fits a file, and has at most so many words and so many addresses at which a block starts.
pub record IsImageOfBlocksWithin (mid : Mid) (image : ImageFields) (most_words most_starts : ℕ) : Type 0 where
  pub same : (input : List ℕ) → AreWords input → SameObserved (observed (boot_state image input) None) (blocks_seen mid input)
  pub entry : image.entry ≡ 0x00400000
  pub typed : WellTyped image.text image.entry
  pub hardened : IsHardened image
  pub placed : (input : List ℕ) → AreWords input → Placed image input
  pub unreported : (input : List ℕ) → AreWords input → Unreported image input
  pub fits : Fits image
  pub words : length image.text ≤ most_words
  pub memory : image.memory_words ≡ 2 * cells mid
  -- there are at most as many windows as words,
  pub few_windows : length image.windows ≤ length image.text
  pub few_starts : HasFewStarts image.text image.entry most_starts
  -- each word that neither begins a block nor is a break has a word before it,
  pub no_dead_words : NoDeadWords image.text image.entry
  -- and the streams take turns
  pub in_turns : IsInTurns image.text
  -- and where the program is one function of few variables that calls nothing, at most two words load through the stack pointers
  pub few_loads : IsOneLeaf mid → count_by is_load image.text ≤ 2

-- It has at most the words that the program comes to, and a block starts at most at so many addresses as the program has blocks, with one
-- more for each branch and two for the whole.
abbrev pub IsImageOfBlocks : Mid → ImageFields → Type 0
IsImageOfBlocks mid image = IsImageOfBlocksWithin mid image (words mid) (block_count mid + branch_count mid + 2)

-- The same of the image of the program with its critical edges split: it has at most 45 words more for each block and three times as many
-- starts, and no aliases.
pub record IsSplitImageOfBlocks (mid : Mid) (image : ImageFields) : Type 0 where
  pub within : IsImageOfBlocksWithin mid image (words mid + 45 * (block_count mid + 2)) (3 * (block_count mid + branch_count mid + 2))
  pub no_aliases : HasNoAliases image

-- The places of the first functions of a program, on the way there. It serves a private contract alone.
abbrev pub FitTo : Mid → ℕ → List Places → Type 0
FitTo mid k places = (n : ℕ) (f : MidFunction) → n < k → slice_get mid.functions n ≡ Some f →
    (at : Places) × (slice_get places n ≡ Some at) × AreAssigned f 8 at
