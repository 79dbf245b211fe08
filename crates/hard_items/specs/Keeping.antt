-- When a program stays well formed: its blocks have the same items, in whatever order, and some more that go nowhere.
use Rattle.std.specs.Prelude.{◌≡◌, ◌<◌, ◌⊎◌, ◌↔◌, ℕ, Bool, true, false, length, Some, slice_get, Contains}
use Rattle.mips_isa.specs.declared.instr.Instr.{Instr}
use Rattle.mips_isa.specs.declared.instr.Instr.TheVariants.{J, Jal, Jr}
use Rattle.mips_isa.specs.Table.{IsInRange}
use Rattle.hard_items.specs.declared.code.Fix.TheVariants.{Plain}
use Rattle.hard_items.specs.declared.code.Item.{Item}
use Rattle.hard_items.specs.declared.code.HardBlock.{HardBlock}
use Rattle.hard_items.specs.declared.code.HardProgram.{HardProgram}
use Rattle.hard_items.specs.Run.{items_of}
use Rattle.hard_items.specs.Ways.{MayFollow}
use Rattle.hard_items.specs.WellFormed.{WellFormed}
use Rattle.hard_items.specs.Forms.{Formed}

-- The instruction is a jump: j, jal or jr.
abbrev pub leaps : Instr → Bool
leaps (J target) = true
leaps (Jal target) = true
leaps (Jr rs) = true
leaps i = false

-- An item that may be put anywhere: it has no field, and is no jump.
pub record IsAdded (i : Item) : Type 0 where
  pub in_range : IsInRange i.instr
  pub no_field : i.fix ≡ Plain
  pub stays : leaps i.instr ≡ false

-- The second program has the blocks of the first, each with its items and some that are added; each block consists of forms.
pub record OnlyAdds (p q : HardProgram) : Type 0 where
  pub blocks : length q.blocks ≡ length p.blocks
  pub successors : (b : ℕ) (y : HardBlock) → slice_get q.blocks b ≡ Some y → (x : HardBlock) × (slice_get p.blocks b ≡ Some x) × (y.successors ≡ x.successors)
  pub entries : q.entries ≡ p.entries
  pub initial : q.initial ≡ p.initial
  pub memory : q.memory_words ≡ p.memory_words
  pub kept : (b : ℕ) (i : Item) → Contains (items_of p b) i → Contains (items_of q b) i
  pub new : (b : ℕ) (i : Item) → Contains (items_of q b) i → Contains (items_of p b) i ⊎ IsAdded i
  pub formed : (b : ℕ) → b < length q.blocks → Formed (items_of q b)

-- Such a program is well formed where the first is, and has the same ways.
abbrev pub WellFormedStays : Type 0
WellFormedStays = (p q : HardProgram) → OnlyAdds p q → WellFormed p → WellFormed q × ((b c : ℕ) → MayFollow p b c ↔ MayFollow q b c)
