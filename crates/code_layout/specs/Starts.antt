-- The addresses of blocks as a list, and the words of items by them. It serves private contracts alone.
use Rattle.std.specs.Prelude.{◌≡◌, ◌<◌, ℕ, ◌+◌, ◌*◌, ◌%◌, List, [], ◌∷◌, length, slice_index}
use Rattle.mips_isa.specs.Table.{encoding, IsInRange}
use Rattle.hard_items.specs.declared.code.Item.{Item}
use Rattle.mips_isa.specs.declared.instr.Instr.{Instr}
use Rattle.mips_isa.specs.declared.instr.Instr.TheVariants.{Beq, Bne}
use Rattle.hard_items.specs.declared.code.Fix.{Fix}
use Rattle.hard_items.specs.declared.code.Fix.TheVariants.{Block, Function}
use Rattle.hard_items.specs.declared.code.HardBlock.{HardBlock}
use Rattle.layout_law.specs.Layout.{Reaches, filled_with}

-- The address of each block from one on, each with a head of so many words, and last the address behind them.
abbrev pub starts_from : ℕ → ℕ → List HardBlock → List ℕ
starts_from head at [] = at ∷ []
starts_from head at (k ∷ more) = at ∷ starts_from head (at + 4 * (head + length k.items)) more

-- A branch to a block reaches it.
abbrev pub BranchReaches : (at to : ℕ) → Fix → Instr → Type 0
BranchReaches at to (Block t) (Beq rs rt imm) = Reaches (at + 4) to
BranchReaches at to (Block t) (Bne rs rt imm) = Reaches (at + 4) to
BranchReaches at to fix i = Unit {0}

-- The address that a field leads to, by the addresses of blocks and the first blocks of functions.
abbrev pub goal_at : (starts entries : List ℕ) → Fix → ℕ
goal_at starts entries (Block t) = slice_index starts t
goal_at starts entries (Function f) = slice_index starts (slice_index entries f)
goal_at starts entries fix = 0

-- The block or function of a field is in the lists.
abbrev pub GoalThere : (starts entries : List ℕ) → Fix → Type 0
GoalThere starts entries (Block t) = t < length starts
GoalThere starts entries (Function f) = (f < length entries) × (slice_index entries f < length starts)
GoalThere starts entries fix = Unit {0}

-- The words of items from an address on.
abbrev pub put_words : (starts entries : List ℕ) → (back at : ℕ) → List Item → List ℕ
put_words starts entries back at [] = []
put_words starts entries back at (i ∷ more) = encoding (filled_with at (goal_at starts entries i.fix) back i.fix i.instr) ∷ put_words starts entries back (at + 4) more

-- What writing an item asks.
pub record ItemPuts (starts entries : List ℕ) (back at : ℕ) (i : Item) : Type 0 where
  pub there : GoalThere starts entries i.fix
  pub aligned : goal_at starts entries i.fix % 4 ≡ 0
  pub reaches : BranchReaches at (goal_at starts entries i.fix) i.fix i.instr
  pub in_range : IsInRange (filled_with at (goal_at starts entries i.fix) back i.fix i.instr)

abbrev pub AllPut : (starts entries : List ℕ) → (back at : ℕ) → List Item → Type 0
AllPut starts entries back at [] = Unit {0}
AllPut starts entries back at (i ∷ more) = ItemPuts starts entries back at i × AllPut starts entries back (at + 4) more
