-- Words that load through the stack pointers.
use Rattle.std.specs.Prelude.{ℕ, Bool, false, Option, Some, None}
use Rattle.mips_isa.specs.declared.instr.Instr.{Instr}
use Rattle.mips_isa.specs.Table.{decoded}
use Rattle.std.specs.Prelude.{◌-◌, ◌==◌, ◌||◌}
use Rattle.mips_isa.specs.declared.instr.Instr.TheVariants.{Lw}

-- Loads through the stack pointers.
abbrev pub is_reload : Instr → Bool
is_reload (Lw rt rs imm) = (rs == 29) || (rs == 30)
is_reload i = false

-- The word is a load through a stack pointer.
abbrev pub loads_by : Option Instr → Bool
loads_by None = false
loads_by (Some i) = is_reload i

abbrev pub is_load : ℕ → Bool
is_load w = loads_by (decoded w)
