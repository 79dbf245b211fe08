-- What it means that an image is the hardened image of a program.
use Rattle.std.specs.Prelude.{◌≤◌, ℕ, ◌*◌, List, length}
use Rattle.hard_words.specs.Words.{AreWords}
use Rattle.mips_isa.specs.Image.{ImageFields}
use Rattle.mips_faults.specs.Faults.{Placed}
use Rattle.c_syntax.specs.declared.tree.Program.{Program}
use Rattle.lint_theorem.specs.Hardened.{IsHardened}
use Rattle.compile_rules.specs.Same.{Same}

-- It does what the program does; its lists are those of its text, and one fault elsewhere is unseen or told; and without a fault each
-- load and store is of a word of its stream, each return goes to the start of a block, and no step is an exception.
pub record Hardened (program : Program) (image : ImageFields) : Type 0 where
  pub same : Same program image
  pub hardened : IsHardened image
  pub placed : (input : List ℕ) → AreWords input → Placed image input

-- The image of a program of so many nodes has at most 60 words of text for each, and at most 65,536 words of memory.
pub record IsWithin (nodes : ℕ) (image : ImageFields) : Type 0 where
  pub words : length image.text ≤ 60 * nodes
  pub memory : image.memory_words ≤ 65536
