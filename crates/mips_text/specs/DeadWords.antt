-- Texts without dead words.
use Rattle.std.specs.Prelude.{ℕ, List}
use Rattle.mips_isa.specs.declared.instr.Instr.TheVariants.{Break}
use Rattle.mips_text.specs.Text.{InText, At}
use Rattle.mips_text.specs.Blocks.{IsStart}
use Rattle.mips_text.specs.Typing.{Next}

-- Of a text: each word that neither begins a block nor is a break has a word before it.
abbrev pub NoDeadWords : (text : List ℕ) (entry : ℕ) → Type 0
NoDeadWords text entry = (a : ℕ) → InText text a → (IsStart text entry a → ⊥) → ((code : ℕ) → At text a (Break code) → ⊥) → (b : ℕ) × Next text b a
