-- For private contracts and proofs alone. Merges of two lists of whole units, and the law that all of them leave the same.
use Rattle.std.specs.Prelude.{◌≡◌, ℕ, List, [], ◌∷◌}
use Rattle.mips_isa.specs.Machine.{perform}
use Rattle.hard_items.specs.declared.code.Class.{Class}
use Rattle.hard_items.specs.declared.code.Class.TheVariants.{Master, Shadow}
use Rattle.hard_items.specs.declared.code.Item.{Item}
use Rattle.hard_items.specs.Run.{Data, item_act, data_after, machine_of}
use Rattle.hard_items.specs.Forms.{StandsAlone, IsProduct}
use Rattle.block_schedule.specs.declared.unit.Whole.{Whole}
use Rattle.block_schedule.specs.declared.unit.Whole.TheVariants.{One, Two}
use Rattle.block_schedule.specs.Scheduling.{unit_items}

-- A unit of a stream.
abbrev pub IsUnit : Class → Whole → Type 0
IsUnit c (One i) = StandsAlone i × (i.class ≡ c)
IsUnit c (Two i j) = IsProduct i j × (i.class ≡ c)

abbrev pub AllUnits : Class → List Whole → Type 0
AllUnits c [] = Unit {0}
AllUnits c (u ∷ us) = IsUnit c u × AllUnits c us

-- A merge of two lists keeps the order of each.
pub data Merge : List Whole → List Whole → List Whole → Type 0 where
  done : Merge [] [] []
  first : (u : Whole) (ms ss l : List Whole) → Merge ms ss l → Merge (u ∷ ms) ss (u ∷ l)
  second : (u : Whole) (ms ss l : List Whole) → Merge ms ss l → Merge ms (u ∷ ss) (u ∷ l)

-- What an item of a block leaves of data, and what units leave one after the other.
abbrev pub leaves : ℕ → Item → Data → Data
leaves b i d = data_after i (item_act b i d) d (perform (item_act b i d) (machine_of d)).0

abbrev pub leave : ℕ → List Item → Data → Data
leave b [] d = d
leave b (i ∷ more) d = leave b more (leaves b i d)

abbrev pub units_leave : ℕ → List Whole → Data → Data
units_leave b [] d = d
units_leave b (u ∷ us) d = units_leave b us (leave b (unit_items u) d)

-- The same data, HI and LO aside.
pub record SameButHalves (d e : Data) : Type 0 where
  pub regs : d.regs ≡ e.regs
  pub memory : d.memory ≡ e.memory
  pub feed : d.feed ≡ e.feed
  pub fed : d.fed ≡ e.fed
  pub backs : (q : ℕ) → d.backs q ≡ e.backs q
  pub stored : (q : ℕ) → d.stored q ≡ e.stored q

-- All merges leave the same registers and memory.
abbrev pub AllMergesSame : Type 0
AllMergesSame = (b : ℕ) (ms ss l k : List Whole) (d : Data) → AllUnits Master ms → AllUnits Shadow ss → Merge ms ss l → Merge ms ss k →
    SameButHalves (units_leave b l d) (units_leave b k d)
