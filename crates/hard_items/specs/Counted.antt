-- What the passes over items in two streams tell each other of the items of a block.
use Rattle.std.specs.Prelude.{◌≡◌, ◌==◌, not, true, ℕ, List, All, filter}
use Rattle.std.specs.List.{list_any}
use Rattle.hard_items.specs.declared.code.Item.{Item}
use Rattle.hard_items.specs.declared.code.HardProgram.{HardProgram}
use Rattle.hard_items.specs.Run.{items_of}
use Rattle.hard_items.specs.Streams.{is_stream, touched}
use Rattle.hard_items.specs.Counts.{free_nops}

-- The items of the two streams.
abbrev pub of_streams : List Item → List Item
of_streams items = filter (λ i. is_stream i.class) items

-- No nop stands outside a form.
abbrev pub HasNoFreeNop : HardProgram → Type 0
HasNoFreeNop p = (b : ℕ) → free_nops (items_of p b) ≡ 0

-- Each item of a stream reads or writes a register other than $0.
abbrev pub AreBusy : HardProgram → Type 0
AreBusy p = (b : ℕ) → All (λ i. list_any (λ r. not (r == 0)) (touched i.instr) ≡ true) (of_streams (items_of p b))
