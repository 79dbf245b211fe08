-- Items, and the order into which they come.
use Rattle.std.specs.Prelude.{◌≡◌, ℕ, ◌+◌, [], ◌∷◌}
use Rattle.mips_isa.specs.declared.instr.Instr.{Instr}
use Rattle.mips_isa.specs.declared.instr.Instr.TheVariants.{Addu, Subu, Xor, Mult, Mflo, Lw, Beq}
use Rattle.hard_items.specs.declared.code.Class.TheVariants.{Master, Shadow, Check}
use Rattle.hard_items.specs.declared.code.Item.{Item}
use Rattle.hard_items.specs.Streams.{nop, plain}
use Rattle.block_schedule.specs.Scheduling.{scheduled}

-- (a + b) ^ (a - b), once over registers of the first stream, and once over those of the second.
abbrev pub sum : ℕ → Instr
sum k = Addu (6 + k) (4 + k) (5 + k)

abbrev pub difference : ℕ → Instr
difference k = Subu (7 + k) (4 + k) (5 + k)

abbrev pub both : ℕ → Instr
both k = Xor (6 + k) (6 + k) (7 + k)

-- a * b, and where it comes to.
abbrev pub product : ℕ → Instr
product k = Mult (4 + k) (5 + k)

abbrev pub taken : ℕ → Instr
taken k = Mflo (6 + k)

-- a[0], and a[0] + b.
abbrev pub element : ℕ → Instr
element k = Lw (6 + k) (4 + k) 0

abbrev pub more : ℕ → Instr
more k = Addu (6 + k) (6 + k) (5 + k)

abbrev pub test : Item
test = plain (Beq 6 16 2) Check

abbrev pub master : (ℕ → Instr) → Item
master i = plain (i 0) Master

abbrev pub shadow : (ℕ → Instr) → Item
shadow i = plain (i 10) Shadow

-- A unit of the first stream and one of the second take turns until one stream has none left; a product stays with its move, and the next
-- product waits two words; a word that reads what the word before it loads waits one; and items of other classes stay where they are.
pub record TakesTurns : Type 0 where
  pub in_turn : scheduled (master sum ∷ master difference ∷ master both ∷ shadow sum ∷ shadow difference ∷ shadow both ∷ test ∷ []) ≡
      master sum ∷ shadow sum ∷ master difference ∷ shadow difference ∷ master both ∷ shadow both ∷ test ∷ []
  pub the_rest : scheduled (shadow sum ∷ master sum ∷ master difference ∷ master both ∷ test ∷ shadow both ∷ []) ≡
      master sum ∷ shadow sum ∷ master difference ∷ master both ∷ test ∷ shadow both ∷ []
  pub products : scheduled (master product ∷ master taken ∷ shadow product ∷ shadow taken ∷ test ∷ []) ≡
      master product ∷ master taken ∷ plain nop Master ∷ plain nop Master ∷ shadow product ∷ shadow taken ∷ test ∷ []
  pub loads : scheduled (master element ∷ master more ∷ test ∷ shadow element ∷ shadow more ∷ []) ≡
      master element ∷ plain nop Master ∷ master more ∷ test ∷ shadow element ∷ plain nop Master ∷ shadow more ∷ []
