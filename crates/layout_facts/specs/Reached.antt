-- No word of a laid program is dead. The blocks that may follow a block are read off all words of its span, so a dead word could tell of
-- ways that no run takes.
use Rattle.std.specs.Prelude.{ℕ, List}
use Rattle.mips_isa.specs.declared.instr.Instr.TheVariants.{Break}
use Rattle.mips_text.specs.Text.{InText, At}
use Rattle.mips_text.specs.Blocks.{IsStart}
use Rattle.mips_text.specs.Typing.{Next}
use Rattle.hard_items.specs.declared.code.Signed.{Signed}
use Rattle.hard_items.specs.Heads.{headed}
use Rattle.layout_law.specs.Layout.{text}
use Rattle.layout_law.specs.Level.{Laying}
use Rattle.mips_text.specs.DeadWords.{NoDeadWords}

-- The text of a signed program that can be laid out has no dead words.
abbrev pub NoWordIsDead : Type 0
NoWordIsDead = (s : Signed) → Laying s → NoDeadWords (text (headed s)) 0x00400000
