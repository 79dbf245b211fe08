-- The marks of a program of items that are those of its graph.
use Rattle.std.specs.Prelude.{◌≡◌, ℕ, List, length, map}
use Rattle.mips_text.specs.Blocks as Blocks
use Rattle.hard_items.specs.declared.code.HardProgram.{HardProgram}
use Rattle.hard_items.specs.declared.code.Mark.{Mark}
use Rattle.hard_items.specs.declared.code.Signed.{Signed}
use Rattle.sign_law.specs.Signs.{AreSigned}

-- The successors of each block.
abbrev pub successors_of : HardProgram → List (List ℕ)
successors_of p = map (λ b. b.successors) p.blocks

-- The numbers of the head with a mark.
abbrev pub head_of : Mark → Blocks.Head
head_of m = record { s = m.s; d = m.d; fan = m.fan; D = m.adjust }

-- Each block has a mark, and the marks are those of the graph of its blocks.
pub record HasSigns (s : Signed) : Type 0 where
  pub one_each : length s.marks ≡ length s.program.blocks
  pub signs : AreSigned (successors_of s.program) (map head_of s.marks)
