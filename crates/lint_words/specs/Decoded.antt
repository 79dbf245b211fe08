-- A table of the instructions of words.
use Rattle.std.specs.Prelude.{◌≡◌, ℕ, Option, List, map}
use Rattle.mips_isa.specs.declared.instr.Instr.{Instr}
use Rattle.mips_isa.specs.Table.{decoded}

-- The table has the instruction of each word, none where the word is none.
abbrev pub AreDecoded : List ℕ → List (Option Instr) → Type 0
AreDecoded words instrs = instrs ≡ map (λ (w : ℕ). decoded w) words
