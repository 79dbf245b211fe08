-- Which registers belong to which stream, and the sorts of items.
use Rattle.std.specs.Prelude.{ℕ, ◌+◌, Bool, true, false, ◌==◌, ◌&&◌, ◌||◌, nat_le, not, if◌then◌else◌, List, [], ◌∷◌, ◌++◌}
use Rattle.mips_isa.specs.declared.instr.Instr.{Instr}
use Rattle.mips_isa.specs.declared.instr.Instr.TheVariants.{Sll, Break, Jal, Lw, Sw}
use Rattle.mips_isa.specs.Machine.{reads_of, writes_of}
use Rattle.hard_items.specs.declared.code.Class.{Class}
use Rattle.hard_items.specs.declared.code.Class.TheVariants.{Master, Shadow, Check, Act, Head, Input}
use Rattle.hard_items.specs.declared.code.Fix.TheVariants.{Plain}
use Rattle.hard_items.specs.declared.code.Item.{Item}

-- The registers of the first stream: ten for values, the stack pointer and the return address.
abbrev pub is_master : ℕ → Bool
is_master r = (nat_le 4 r && nat_le r 13) || (r == 29 || r == 31)

-- The registers of the second stream, in the same roles.
abbrev pub is_shadow : ℕ → Bool
is_shadow r = (nat_le 14 r && nat_le r 23) || (r == 30 || r == 25)

-- The register of the second stream that has the role of one of the first.
abbrev pub shadow_of : ℕ → ℕ
shadow_of r = if r == 29 then 30 else (if r == 31 then 25 else r + 10)

-- A register that an item of a class may touch beside $0.
abbrev pub is_of : Class → ℕ → Bool
is_of Master r = is_master r
is_of Shadow r = is_shadow r
is_of Check r = false
is_of Act r = false
is_of Head r = false
is_of Input r = false

-- The class is that of a stream.
abbrev pub is_stream : Class → Bool
is_stream Master = true
is_stream Shadow = true
is_stream Check = false
is_stream Act = false
is_stream Head = false
is_stream Input = false

-- All registers that an instruction reads or writes.
abbrev pub touched : Instr → List ℕ
touched i = reads_of i ++ writes_of i

-- The instruction that does nothing.
abbrev pub nop : Instr
nop = Sll 0 0 0

-- An item without a field for the layout.
abbrev pub plain : Instr → Class → Item
plain i class = record { instr = i; class = class; fix = Plain }
