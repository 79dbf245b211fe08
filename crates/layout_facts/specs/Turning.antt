-- The streams take turns in the words of a program with heads, where they do in its items.
use Rattle.std.specs.Prelude.{◌≡◌, List, length}
use Rattle.mips_isa.specs.declared.instr.Instr.{Instr}
use Rattle.mips_text.specs.Turns as turns
use Rattle.mips_text.specs.Turns.{IsTextOf}
use Rattle.hard_items.specs.declared.code.Signed.{Signed}
use Rattle.hard_items.specs.Heads.{headed}
use Rattle.hard_items.specs.Counts.{Turned, TurnedThrough}
use Rattle.layout_law.specs.Layout.{text}
use Rattle.layout_law.specs.Level.{Laying}

-- Of a text whose blocks begin with heads, by the instructions of its words.
abbrev pub TextTurned : Type 0
TextTurned = (s : Signed) → Laying s → length s.marks ≡ length s.program.blocks → Turned s.program → (ws : List Instr) → IsTextOf (text (headed s)) ws →
    turns.Turned ws

-- The stronger form: neither checks nor words that touch no register but 0 part a run.
abbrev pub TextTurnedThrough : Type 0
TextTurnedThrough = (s : Signed) → Laying s → length s.marks ≡ length s.program.blocks → TurnedThrough s.program → (ws : List Instr) →
    IsTextOf (text (headed s)) ws → turns.TurnedThrough ws
