-- The text of a signed program, as its graph and its marks tell of it.
use Rattle.std.specs.Prelude.{map}
use Rattle.hard_items.specs.declared.code.Signed.{Signed}
use Rattle.hard_items.specs.Heads.{headed}
use Rattle.sign_law.specs.Signs.{IsLaid}
use Rattle.sign_law.specs.Marks.{successors_of, head_of, HasSigns}
use Rattle.layout_law.specs.Layout.{address, text}
use Rattle.layout_law.specs.Level.{Laying}

-- In the text of a signed program the starts are the addresses of its blocks, each with the head of its mark, and one block follows
-- another there exactly as in the program.
abbrev pub SignedIsLaid : Type 0
SignedIsLaid = (s : Signed) → Laying s → HasSigns s → IsLaid (successors_of s.program) (map head_of s.marks) (text (headed s)) 0x00400000 (address (headed s))
