-- What stands after the passes over items. These definitions serve private contracts alone.
use Rattle.std.specs.Prelude.{◌≡◌, ◌≤◌, ◌+◌, ◌*◌, ℕ, List, length, map, sum_by, count_by, slice_index}
use Rattle.hard_items.specs.declared.code.HardProgram.{HardProgram}
use Rattle.hard_items.specs.declared.code.Signed.{Signed}
use Rattle.hard_items.specs.Rules.{Apart, Guarded, NeverReports}
use Rattle.hard_items.specs.Counts.{Calm, Turned, TurnedThrough, branches, room}
use Rattle.hard_items.specs.Counts.{Calm, branches, reloads, room}
use Rattle.hard_items.specs.Runs.{SameRuns}
use Rattle.mips_isa.specs.Image.{ImageFields}
use Rattle.harden_lint.specs.Rules.{WellTyped}
use Rattle.lint_theorem.specs.Hardened.{IsHardened}
use Rattle.layout_hardened.specs.Laws.{RunsAs}
use Rattle.layout_hardened.specs.Law.{HasStarts}
use Rattle.mips_text.specs.DeadWords.{NoDeadWords}
use Rattle.mips_text.specs.Loads.{is_load}
use Rattle.hard_items.specs.Heads.{headed}
use Rattle.layout_law.specs.Layout.{words, address}
use Rattle.layout_law.specs.Laws.{Prepared}
use Rattle.layout_moves_law.specs.Smooth.{Smooth}
use Rattle.mips_text.specs.Turns.{IsInTurns}
use Rattle.harden.specs.Image.{most_blocks, most_split_blocks, IsImageOf, HasNoAliases}

-- A program with its checks and in its order, to which heads may be set.
pub record IsInOrder (p : HardProgram) : Type 0 where
  pub apart : Apart p
  pub guarded : Guarded p
  pub calm : Calm p
  pub turned : Turned p
  pub turned_through : TurnedThrough p
  pub never_reports : NeverReports p

-- A program in its order that comes of a program, with at most so many blocks and room for at most so many words.
pub record ComesOf (p q : HardProgram) (most most_room : ℕ) : Type 0 where
  pub same_runs : SameRuns p q
  pub in_order : IsInOrder q
  pub few : most_blocks q ≤ most
  pub room_within : room q ≤ most_room
  pub reloads_same : reloads q ≡ reloads p
  pub initial : q.initial ≡ p.initial
  pub memory : q.memory_words ≡ p.memory_words

-- A program with its checks and in its order.
pub record IsOrdered (p q : HardProgram) : Type 0 where
  pub comes : ComesOf p q (most_blocks p) (room p)
  pub blocks : length q.blocks ≡ length p.blocks
  pub branches_same : sum_by (λ b. branches b.items) q.blocks ≡ sum_by (λ b. branches b.items) p.blocks

-- That program with its critical edges split.
pub record IsOrderedSplit (p q : HardProgram) : Type 0 where
  pub comes : ComesOf p q (most_split_blocks p) (room p + 45 * length p.blocks)
  pub smooth : Smooth q

-- A signed program that comes of a program in its order.
pub record IsSignedOf (p : HardProgram) (s : Signed) : Type 0 where
  pub prepared : Prepared s
  pub guarded : Guarded s.program
  pub same_runs : SameRuns p s.program
  pub few : length s.program.blocks ≤ most_blocks p
  pub words_within : words s.program.blocks + 7 * length s.program.blocks ≤ room p
  pub reloads_same : reloads s.program ≡ reloads p
  pub initial : s.program.initial ≡ p.initial
  pub memory : s.program.memory_words ≡ p.memory_words
  pub smooth : Smooth p → Smooth s.program
  pub turned : Turned s.program
  pub turned_through : TurnedThrough s.program

-- Pairs of blocks as pairs of addresses.
abbrev pub addressed : List ℕ → List (ℕ × ℕ) → List (ℕ × ℕ)
addressed starts pairs = map (λ p. (slice_index starts p.0, slice_index starts p.1)) pairs

-- An image of a signed program.
pub record IsImageOfSigned (s : Signed) (i : ImageFields) : Type 0 where
  pub runs : RunsAs i s
  pub hardened : IsHardened i
  pub entry : i.entry ≡ 0x00400000
  pub typed : WellTyped i.text i.entry
  pub initial : i.initial ≡ s.program.initial
  pub memory : i.memory_words ≡ s.program.memory_words
  pub words : length i.text ≡ words s.program.blocks + 7 * length s.program.blocks
  pub few_windows : length i.windows ≤ length i.text
  pub no_dead_words : NoDeadWords i.text i.entry
  pub loads_same : count_by is_load i.text ≡ reloads s.program
  pub starts : (n : ℕ) → length s.program.blocks ≤ n → HasStarts i n (address (headed s))
  pub no_aliases : Smooth s.program → HasNoAliases i
  pub in_turns : Turned s.program → TurnedThrough s.program → IsInTurns i.text

-- An image of a program in its order.
pub record IsImageOfOrdered (p : HardProgram) (i : ImageFields) : Type 0 where
  pub image : IsImageOf p i
  pub no_aliases : Smooth p → HasNoAliases i
