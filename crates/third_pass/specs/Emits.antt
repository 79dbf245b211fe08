-- What the emitters ask of places. These definitions serve private contracts alone.
use Rattle.std.specs.Prelude.{◌≡◌, ◌≤◌, ◌<◌, ◌+◌, ◌^◌, ℕ, List, [], ◌∷◌, Option, Some, None, length, slice_index}
use Rattle.mips_isa.specs.declared.instr.Instr.{Instr}
use Rattle.mips_isa.specs.declared.instr.Instr.TheVariants as mips
use Rattle.mid_blocks.specs.declared.code.MidOp.{MidOp}
use Rattle.mid_blocks.specs.declared.code.MidOp.TheVariants.{Add, Sub, Mul, Div, DivU, Rem, RemU, Shl, Shr, Sar, And, Or, Xor, Lt, LtU, Eq, Ne}
use Rattle.mid_blocks.specs.declared.places.Place.{Place}
use Rattle.mid_blocks.specs.declared.places.Place.TheVariants.{Pair, Slot}
use Rattle.mid_blocks.specs.declared.places.Places.{Places}
use Rattle.mid_blocks.specs.declared.code.Mid.{Mid}
use Rattle.mid_blocks.specs.declared.code.MidFunction.{MidFunction}
use Rattle.mid_blocks.specs.declared.code.MidStep.{MidStep}
use Rattle.mid_blocks.specs.declared.code.MidEnd.{MidEnd}
use Rattle.mid_blocks.specs.declared.code.MidEnd.TheVariants.{Jump, Branch, Call, Return}
use Rattle.mid_blocks.specs.Valid.{step_global}
use Rattle.frame_plan.specs.Frames.{global_cell, global_length}
use Rattle.third_law.specs.Program.{cell_address}
use Rattle.third_law.specs.Emitted.{place_of}

-- A place whose register exists and whose offset fits a load.
abbrev pub IsSmall : Place → Type 0
IsSmall (Pair k) = k ≤ 3
IsSmall (Slot s) = s ≤ 2000

abbrev pub AreSmall : Places → Type 0
AreSmall places = (v : ℕ) → IsSmall (place_of places v)

abbrev pub IsSmallIf : Option Place → Type 0
IsSmallIf None = Unit {0}
IsSmallIf (Some p) = IsSmall p

-- The instruction of an operation that is no product, on three registers; the one that others are made from.
abbrev pub three_of : MidOp → ℕ → ℕ → ℕ → Instr
three_of Add = mips.Addu
three_of Sub = mips.Subu
three_of Mul = mips.Addu
three_of Div = mips.Addu
three_of DivU = mips.Addu
three_of Rem = mips.Addu
three_of RemU = mips.Addu
three_of Shl = mips.Sllv
three_of Shr = mips.Srlv
three_of Sar = mips.Srav
three_of And = mips.And
three_of Or = mips.Or
three_of Xor = mips.Xor
three_of Lt = mips.Slt
three_of LtU = mips.Sltu
three_of Eq = mips.Xor
three_of Ne = mips.Xor

-- The product of an operation.
abbrev pub product_of : MidOp → ℕ → ℕ → Instr
product_of Div = mips.Div
product_of Rem = mips.Div
product_of DivU = mips.Divu
product_of RemU = mips.Divu
product_of op = mips.Mult

-- The move behind it.
abbrev pub move_of : MidOp → ℕ → Instr
move_of Rem = mips.Mfhi
move_of RemU = mips.Mfhi
move_of op = mips.Mflo

-- The addresses are those of the globals, and each of them and each length fits an instruction.
pub record GlobalsKnown (mid : Mid) (addresses : List ℕ) : Type 0 where
  pub are : (g : ℕ) → g < length addresses → slice_index addresses g ≡ cell_address (global_cell mid g)
  pub low : (g : ℕ) → g < length addresses → slice_index addresses g < 2 ^ 31
  pub short : (g : ℕ) → global_length mid g < 2 ^ 16

-- The global that a step names has an address, if it names one.
abbrev pub HasAddress : List ℕ → Option ℕ → Type 0
HasAddress addresses None = Unit {0}
HasAddress addresses (Some g) = g < length addresses

abbrev pub IsNamed : List ℕ → MidStep → Type 0
IsNamed addresses step = HasAddress addresses (step_global step)

-- The numbers of an end fit: that of the block that it names, and those of its arguments.
abbrev pub EndFits : ℕ → MidEnd → Type 0
EndFits first (Jump to) = first + to < 2 ^ 32
EndFits first (Branch test when to) = first + to < 2 ^ 32
EndFits first (Call function args result) = length args ≤ 2001
EndFits first (Return from) = Unit {0}

-- The numbers of the first blocks of functions, of which the first begins with this one.
abbrev pub firsts_from : ℕ → List MidFunction → List ℕ
firsts_from at [] = []
firsts_from at (f ∷ fs) = at ∷ firsts_from (at + length f.blocks) fs

-- An end that is a call calls a function with a number below this one.
abbrev pub CallsBelow : ℕ → MidEnd → Type 0
CallsBelow count (Jump to) = Unit {0}
CallsBelow count (Branch test when to) = Unit {0}
CallsBelow count (Call function args result) = function < count
CallsBelow count (Return from) = Unit {0}
