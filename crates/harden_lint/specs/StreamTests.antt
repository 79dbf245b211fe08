-- The streams of registers, guarded registers and where HI and LO come from, as functions of the words around one word and of a
-- table of the starts. This file serves private contracts alone; Typing.antt has the definitions.
use Rattle.std.specs.Prelude.{ℕ, ◌-◌, ◌&&◌, ◌||◌, not, Bool, true, false, Option, Some, None, List}
use Rattle.mips_isa.specs.declared.instr.Instr.{Instr}
use Rattle.mips_isa.specs.Rows.{row, pair_of}
use Rattle.mips_isa.specs.Machine.{is_product}
use Rattle.mips_text.specs.Text.{instr_at}
use Rattle.mips_text.specs.Typing.{Role, master, shadow, signs, role_of}
use Rattle.lint_words.specs.Around.{starts_at, near_before, far_before, leads}
use Rattle.lint_words.specs.Windows.{check_at, window}

-- A register of a stream.
abbrev pub same_role : Option Role → Role → Bool
same_role (Some master) master = true
same_role (Some shadow) shadow = true
same_role (Some signs) signs = true
same_role _ X = false

abbrev pub of : Role → ℕ → Bool
of X r = same_role (role_of r) X

abbrev pub two_streams : ℕ → ℕ → Bool
two_streams x y = (of master x && of shadow y) || (of shadow x && of master y)

abbrev pub streams_by : Option (ℕ × ℕ) → Bool
streams_by None = false
streams_by (Some p) = two_streams p.0 p.1

-- The check at c guards a register at a word.
abbrev pub guarded_from : List ℕ → List Bool → (r c a : ℕ) → Bool
guarded_from text bits r c a = streams_by (check_at text c) && (window text r c a && leads text bits r c a)

-- A register is guarded.
abbrev pub guarded : List ℕ → List Bool → (a r : ℕ) → Bool
guarded text bits a r =
    guarded_from text bits r (a - 4) a || (guarded_from text bits r (a - 8) a || (
    guarded_from text bits r (a - 12) a || guarded_from text bits r (a - 16) a))

-- A product of a stream.
abbrev pub fits_role : Option Role → Role → Bool
fits_role None X = true
fits_role (Some Y) X = same_role (Some Y) X

abbrev pub product_pair : Role → ℕ × ℕ → Bool
product_pair X p = (of X p.0 || of X p.1) && (fits_role (role_of p.0) X && fits_role (role_of p.1) X)

abbrev pub product_by : Option Instr → Role → Bool
product_by None X = false
product_by (Some i) X = is_product i && product_pair X (pair_of (row i).reads)

abbrev pub implies : Bool → Bool → Bool
implies x y = not x || y

-- HI and LO come from a stream.
abbrev pub products : List ℕ → List Bool → Role → ℕ → Bool
products text bits X a =
    not (starts_at bits a) && ((near_before text a || far_before text a) && (
    implies (near_before text a) (product_by (instr_at text (a - 4)) X) && implies (far_before text a) (product_by (instr_at text (a - 8)) X)))
