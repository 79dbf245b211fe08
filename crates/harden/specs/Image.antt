-- What becomes of a program of items whose streams are twins: a hardened image.
use Rattle.std.specs.Prelude.{◌≡◌, ◌≤◌, ◌+◌, ◌*◌, ℕ, None, List, [], length, sum_by, count_by}
use Rattle.hard_runs.specs.Observed.{SameObserved}
use Rattle.hard_words.specs.Words.{AreWords}
use Rattle.mips_isa.specs.Runs.{observed}
use Rattle.mips_isa.specs.Image.{ImageFields, boot_state}
use Rattle.mips_faults.specs.Faults.{Placed, Unreported}
use Rattle.mips_text.specs.Blocks.{IsAlias}
use Rattle.mips_isa.specs.declared.instr.Instr.{Instr}
use Rattle.mips_text.specs.Turns.{IsTextOf, Turned, TurnedThrough}
use Rattle.hard_items.specs.declared.code.HardProgram.{HardProgram}
use Rattle.hard_items.specs.Run.{item_run}
use Rattle.hard_items.specs.Counts.{branches, reloads, room}
use Rattle.harden_lint.specs.Rules.{WellTyped}
use Rattle.lint_theorem.specs.Hardened.{IsHardened}
use Rattle.layout_hardened.specs.Law.{HasStarts}
use Rattle.mips_text.specs.DeadWords.{NoDeadWords}
use Rattle.mips_text.specs.Loads.{is_load}
use Rattle.mips_text.specs.Turns.{IsInTurns}

-- The most blocks that a program can come to, one more for each branch.
abbrev pub most_blocks : HardProgram → ℕ
most_blocks p = length p.blocks + sum_by (λ b. branches b.items) p.blocks

-- The most that it can come to where its critical edges are split: two more for each branch, one more for the call of a block, and again
-- one more for each branch.
abbrev pub most_split_blocks : HardProgram → ℕ
most_split_blocks p = 2 * length p.blocks + 3 * sum_by (λ b. branches b.items) p.blocks

-- An image of the program: it does the same on every input, its text keeps the rules of the lint, it is hardened, its streams take turns,
-- and it has at most so many words and starts of blocks.
pub record IsImageWithin (p : HardProgram) (i : ImageFields) (most_words most_starts : ℕ) : Type 0 where
  pub same : (input : List ℕ) → AreWords input → SameObserved (observed (boot_state i input) None) (item_run p input)
  pub hardened : IsHardened i
  pub placed : (input : List ℕ) → AreWords input → Placed i input
  pub unreported : (input : List ℕ) → AreWords input → Unreported i input
  pub entry : i.entry ≡ 0x00400000
  pub typed : WellTyped i.text i.entry
  pub initial : i.initial ≡ p.initial
  pub memory : i.memory_words ≡ p.memory_words
  pub words : length i.text ≤ most_words
  pub few_windows : length i.windows ≤ length i.text
  -- each word that neither begins a block nor is a break has a word before it
  pub no_dead_words : NoDeadWords i.text i.entry
  pub in_turns : IsInTurns i.text
  -- it has as many loads through the stack pointers as the program
  pub loads_same : count_by is_load i.text ≡ reloads p
  -- its blocks start at some of so many places of the text
  pub place : ℕ → ℕ
  pub starts : HasStarts i most_starts place

-- Its size is within what the program can come to.
abbrev pub IsImageOf : HardProgram → ImageFields → Type 0
IsImageOf p i = IsImageWithin p i (room p) (most_blocks p)

-- No pair of addresses is an alias of the text, and none is listed.
pub record HasNoAliases (i : ImageFields) : Type 0 where
  pub none : (u w : ℕ) → IsAlias i.text i.entry u w → ⊥
  pub none_listed : i.aliases ≡ []

-- An image of the program with its critical edges split: its size is within what that can come to, and it has no aliases.
pub record IsSplitImageOf (p : HardProgram) (i : ImageFields) : Type 0 where
  pub within : IsImageWithin p i (room p + 45 * length p.blocks) (most_split_blocks p)
  pub no_aliases : HasNoAliases i
