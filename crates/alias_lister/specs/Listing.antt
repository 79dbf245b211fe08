-- The list of aliases as it is made. These definitions serve private contracts alone.
use Rattle.std.specs.Prelude.{ℕ, ◌+◌, Bool, false, ◌==◌, ◌&&◌, ◌||◌, if◌then◌else◌, List, [], ◌∷◌, ◌++◌, get_or, slice_set, bit_xor}
use Rattle.hard_items.specs.declared.code.Mark.{Mark}
use Rattle.hard_items.specs.declared.code.HardBlock.{HardBlock}

-- The list has a number.
abbrev pub has : ℕ → List ℕ → Bool
has w [] = false
has w (x ∷ xs) = (x == w) || has w xs

-- What a head must be left to pass at a head that adjusts, and what a head leaves for one.
abbrev pub base : Mark → ℕ
base m = bit_xor m.d m.s

abbrev pub leaves : Mark → ℕ
leaves m = bit_xor m.s m.adjust

-- The blocks of a base, from a number on.
abbrev pub members : (b w : ℕ) → List Mark → List ℕ
members b w [] = []
members b w (m ∷ ms) = if m.fan && (base m == b) then w ∷ members b (w + 1) ms else members b (w + 1) ms

-- Groups to which the blocks from a number on are added.
abbrev pub grouped : ℕ → List Mark → List (List ℕ) → List (List ℕ)
grouped w [] lists = lists
grouped w (m ∷ ms) lists = grouped (w + 1) ms (if m.fan then slice_set lists (base m) (get_or lists (base m) [] ++ w ∷ []) else lists)

-- The pairs of a block with those of a list that are not left out.
abbrev pub paired : ℕ → (ℕ → Bool) → List ℕ → List (ℕ × ℕ)
paired u left [] = []
paired u left (w ∷ ws) = if left w then paired u left ws else (u, w) ∷ paired u left ws

abbrev pub mark_at : List Mark → ℕ → Mark
mark_at marks u = get_or marks u (record { s = 0; d = 0; fan = false; adjust = 0 })

-- The pairs of the blocks from a number on.
abbrev pub listed : List Mark → ℕ → List HardBlock → List (ℕ × ℕ)
listed marks u [] = []
listed marks u (k ∷ more) = paired u (λ w. has w k.successors) (members (leaves (mark_at marks u)) 0 marks) ++ listed marks (u + 1) more
