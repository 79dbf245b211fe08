-- The words of a text as functions: what a word is, and which starts it makes. This file serves the contracts of this crate's tests
-- and the proofs above alone; the notions themselves are those of the machine's crate.
use Rattle.std.specs.Prelude.{ℕ, ◌+◌, ◌%◌, ◌==◌, ◌&&◌, nat_le, nat_lt, Bool, if◌then◌else◌, Option, Some, None, List}
use Rattle.mips_isa.specs.declared.instr.Instr.{Instr}
use Rattle.mips_isa.specs.declared.instr.Instr.TheVariants.{Break, J, Jal, Beq, Bne}
use Rattle.mips_isa.specs.Machine.{text_place}
use Rattle.mips_text.specs.Text.{instr_at, branch_goal, jump_goal}

-- The code of the break at an address.
abbrev pub code_of : Option Instr → Option ℕ
code_of (Some (Break code)) = Some code
code_of _ = None

-- The offset of a conditional branch.
abbrev pub offset_of : Option Instr → Option ℕ
offset_of (Some (Beq rs rt imm)) = Some imm
offset_of (Some (Bne rs rt imm)) = Some imm
offset_of _ = None

-- The code of the break that a branch of this offset skips.
abbrev pub skips_by : Option ℕ → Option ℕ → Option ℕ
skips_by None code = None
skips_by (Some imm) code = if imm == 2 then code else None

abbrev pub skipped : List ℕ → ℕ → Option ℕ
skipped text a = skips_by (offset_of (instr_at text a)) (code_of (instr_at text (a + 8)))

-- The starts that a word makes: of a jal two, of a j one, of a conditional branch that skips no break two.
abbrev pub fork_starts : Option ℕ → (a imm : ℕ) → Option ℕ × Option ℕ
fork_starts None a imm = (Some (branch_goal a imm), Some (a + 8))
fork_starts (Some code) a imm = (None, None)

abbrev pub starts_of : Option Instr → Option ℕ → ℕ → Option ℕ × Option ℕ
starts_of (Some (J target)) skip a = (Some (jump_goal a target), None)
starts_of (Some (Jal target)) skip a = (Some (jump_goal a target), Some (a + 8))
starts_of (Some (Beq rs rt imm)) skip a = fork_starts skip a imm
starts_of (Some (Bne rs rt imm)) skip a = fork_starts skip a imm
starts_of _ skip a = (None, None)

abbrev pub made : List ℕ → ℕ → Option ℕ × Option ℕ
made text a = starts_of (instr_at text a) (skipped text a) a

-- A start marked in a table of the words, or kept as the lowest one outside the text.
abbrev pub in_words : ℕ → ℕ → Bool
in_words n w = (w % 4 == 0) && (nat_le 0x00400000 w && nat_lt (text_place w) n)
