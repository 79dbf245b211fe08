-- The two streams, the roles of their registers, and the items that do one thing in both.
use Rattle.std.specs.Prelude.{ℕ, ◌≤◌, ◌+◌, ◌%◌, ◌^◌, List, [], ◌∷◌}
use Rattle.mips_isa.specs.declared.instr.Instr.{Instr}
use Rattle.mips_isa.specs.declared.instr.Instr.TheVariants.{Addu, Bne, Break, Lw, Sw}
use Rattle.hard_items.specs.declared.code.Class.{Class}
use Rattle.hard_items.specs.declared.code.Class.TheVariants.{Master, Shadow, Act}
use Rattle.hard_items.specs.declared.code.Item.{Item}
use Rattle.hard_items.specs.Streams.{nop, plain}
use Rattle.double_law.specs.declared.roles.Stream.{Stream}
use Rattle.double_law.specs.declared.roles.Stream.TheVariants.{First, Second}
use Rattle.double_law.specs.declared.roles.Role.{Role}
use Rattle.double_law.specs.declared.roles.Role.TheVariants.{Value, Stack, Link}

-- A role of a value is one of ten.
abbrev pub RoleFits : Role → Type 0
RoleFits (Value k) = k ≤ 9
RoleFits Stack = Unit {0}
RoleFits Link = Unit {0}

-- The register of a role in a stream.
abbrev pub reg_in : Stream → Role → ℕ
reg_in First (Value k) = 4 + k
reg_in First Stack = 29
reg_in First Link = 31
reg_in Second (Value k) = 14 + k
reg_in Second Stack = 30
reg_in Second Link = 25

abbrev pub class_in : Stream → Class
class_in First = Master
class_in Second = Shadow

-- An offset to the word of a stream: the shadow's stands four bytes above the master's.
abbrev pub off_in : Stream → ℕ → ℕ
off_in First offset = offset
off_in Second offset = (offset + 4) % 2 ^ 16

-- The same instruction in both streams.
abbrev pub both : (Stream → Instr) → List Item
both f = plain (f First) Master ∷ plain (f Second) Shadow ∷ []

-- A product and its move, in one stream and then in the other.
abbrev pub product : (Stream → Instr) → (Stream → Instr) → List Item
product f g = plain (f First) Master ∷ plain (g First) Master ∷ plain (f Second) Shadow ∷ plain (g Second) Shadow ∷ []

abbrev pub move : Role → Role → List Item
move to from = both (λ t. Addu (reg_in t to) (reg_in t from) 0)

abbrev pub load : Role → Role → ℕ → List Item
load to base offset = both (λ t. Lw (reg_in t to) (reg_in t base) (off_in t offset))

abbrev pub store : Role → Role → ℕ → List Item
store from base offset =
    plain (Sw (reg_in First from) (reg_in First base) offset) Act ∷
    plain (Sw (reg_in Second from) (reg_in Second base) (off_in Second offset)) Act ∷ []

-- A trap where a register holds 0.
abbrev pub test : Role → ℕ → List Item
test r code = plain (Bne (reg_in First r) 0 2) Act ∷ plain nop Act ∷ plain (Break code) Act ∷ []
