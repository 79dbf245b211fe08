-- How often a doubled program loads through the stack pointers, where no variable is in a slot.
use Rattle.std.specs.Prelude.{◌≡◌, ◌≤◌, ℕ, ◌+◌, ◌*◌, List, Some, slice_get, map, sum, count_by}
use Rattle.mid_blocks.specs.declared.code.Mid.{Mid}
use Rattle.mid_blocks.specs.declared.places.Place.TheVariants.{Slot}
use Rattle.mid_blocks.specs.declared.places.Places.{Places}
use Rattle.mid_blocks.specs.Liveness.{PlaceOf}
use Rattle.mid_blocks.specs.Valid.{is_return}
use Rattle.hard_items.specs.declared.code.HardProgram.{HardProgram}
use Rattle.hard_items.specs.Counts.{reloads}
use Rattle.double_law.specs.Law.{Doubles}

-- No variable is in a slot.
abbrev pub NoSlots : List Places → Type 0
NoSlots places = (n v slot : ℕ) (at : Places) → slice_get places n ≡ Some at → PlaceOf at v (Slot slot) → ⊥

-- The parameters of all functions and their returns.
abbrev pub parameters_and_returns : Mid → ℕ
parameters_and_returns mid = sum (map (λ f. f.params + count_by (λ b. is_return b.end) f.blocks) mid.functions)

-- Then each parameter and each return takes two loads through the stack pointers, one in each stream, and nothing else takes any.
abbrev pub FewReloads : Type 0
FewReloads = (mid : Mid) (places : List Places) (p : HardProgram) → Doubles mid places p → NoSlots places → reloads p ≤ 2 * parameters_and_returns mid
