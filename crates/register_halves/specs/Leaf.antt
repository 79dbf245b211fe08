-- Programs of one small function that calls nothing, a leaf of the tree of calls, and the places of its variables.
use Rattle.std.specs.Prelude.{◌≡◌, ◌≤◌, ℕ, false, length}
use Rattle.std.specs.List.{All}
use Rattle.mid_blocks.specs.declared.code.MidFunction.{MidFunction}
use Rattle.mid_blocks.specs.declared.code.Mid.{Mid}
use Rattle.mid_blocks.specs.declared.places.Place.TheVariants.{Slot}
use Rattle.mid_blocks.specs.declared.places.Places.{Places}
use Rattle.mid_blocks.specs.Liveness.{PlaceOf}
use Rattle.mid_blocks.specs.Valid.{ValidFunction, is_call}
use Rattle.register_halves.specs.Assigned.{AreAssigned}
use Rattle.mid_blocks.specs.Leaf.{IsSmallLeaf}

-- Where such a function is valid, and its variables have places in the eight pairs, none of them is in a slot.
abbrev pub LeafHasNoSlots : Type 0
LeafHasNoSlots = (f : MidFunction) (places : Places) → ValidFunction f → IsSmallLeaf f → AreAssigned f 8 places →
    (v slot : ℕ) → PlaceOf places v (Slot slot) → ⊥
