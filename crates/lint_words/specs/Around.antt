-- The words around one word as functions: what stands before it, and which way leads to it. Addresses are those of words of the
-- text. This file serves the contracts of this crate's tests and the proofs above alone.
use Rattle.std.specs.Prelude.{ℕ, ◌-◌, ◌==◌, ◌&&◌, ◌||◌, not, Bool, true, false, if◌then◌else◌, Option, Some, None, List, length, get_or}
use Rattle.mips_isa.specs.declared.instr.Instr.{Instr}
use Rattle.mips_isa.specs.Machine.{text_place, among, reads_of, writes_of, is_jump}
use Rattle.mips_text.specs.Text.{instr_at}
use Rattle.lint_words.specs.Words.{code_of, skipped, in_words}

-- The table says that a word is a start.
abbrev pub starts_at : List Bool → ℕ → Bool
starts_at bits a = in_words (length bits) a && get_or bits (text_place a) false

-- What an instruction, if any, does to a register.
abbrev pub reads_by : Option Instr → ℕ → Bool
reads_by None r = false
reads_by (Some i) r = among r (reads_of i)

abbrev pub writes_by : Option Instr → ℕ → Bool
writes_by None r = false
writes_by (Some i) r = among r (writes_of i)

abbrev pub uses_by : Option Instr → ℕ → Bool
uses_by o r = writes_by o r || reads_by o r

abbrev pub jumps_by : Option Instr → Bool
jumps_by None = false
jumps_by (Some i) = is_jump i

-- A delay slot.
abbrev pub in_slot : List ℕ → ℕ → Bool
in_slot text a = jumps_by (instr_at text (a - 4))

-- The code of a report.
abbrev pub reporting : Option ℕ → Bool
reporting None = false
reporting (Some code) = (code == 1) || (code == 2)

abbrev pub passing : Option ℕ → Bool
passing None = false
passing (Some code) = not ((code == 1) || (code == 2))

abbrev pub is_some : Option ℕ → Bool
is_some None = false
is_some (Some code) = true

-- The word 4 before, and the word 8 before, is before this one, which is no start.
abbrev pub straight_before : List ℕ → ℕ → Bool
straight_before text a = in_words (length text) (a - 4) && (not (in_slot text (a - 4)) && not (is_some (code_of (instr_at text (a - 4)))))

abbrev pub near_before : List ℕ → ℕ → Bool
near_before text a = straight_before text a || (in_words (length text) (a - 4) && passing (skipped text (a - 8)))

abbrev pub far_before : List ℕ → ℕ → Bool
far_before text a = in_words (length text) (a - 8) && is_some (skipped text (a - 12))

-- The only word before it.
abbrev pub only_by : Bool → Bool → ℕ → Option ℕ
only_by true false a = Some (a - 4)
only_by false true a = Some (a - 8)
only_by _ _ a = None

abbrev pub only_before : List ℕ → ℕ → Option ℕ
only_before text a = only_by (near_before text a) (far_before text a) a

-- One word back on a way on which the register is not written.
abbrev pub unwritten : List ℕ → ℕ → Option ℕ → Option ℕ
unwritten text r None = None
unwritten text r (Some p) = if writes_by (instr_at text p) r then None else Some p

abbrev pub back : List ℕ → List Bool → ℕ → Option ℕ → Option ℕ
back text bits r None = None
back text bits r (Some a) = if starts_at bits a then None else unwritten text r (only_before text a)

abbrev pub is_at : Option ℕ → ℕ → Bool
is_at None c = false
is_at (Some p) c = p == c

-- A way of at most four words leads from c to a.
abbrev pub leads : List ℕ → List Bool → (r c a : ℕ) → Bool
leads text bits r c a =
    let p : Option ℕ = back text bits r (Some a) in
    let q : Option ℕ = back text bits r p in
    let s : Option ℕ = back text bits r q in
    is_at p c || (is_at q c || (is_at s c || is_at (back text bits r s) c))
