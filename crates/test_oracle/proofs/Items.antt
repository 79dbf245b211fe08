-- What is known of an item of a well-formed program.
use Rattle.std.proofs.Common.{◌≡◌, ◌<◌, ℕ, ◌+◌, ◌^◌, arith, subst, List, [], length, inl, inr}
use Rattle.std.specs.Prelude.{Option, Some, None, slice_get, All}
use Rattle.std.proofs.lemmas.Option.{slice_get_within, get_or_from_slice_get, slice_get_cases}
use Rattle.std.proofs.lemmas.List.Elements.{All-get_or}
use Rattle.mips_isa.specs.Table.{IsInRange}
use Rattle.hard_items.specs.declared.code.Item.{Item}
use Rattle.hard_items.specs.declared.code.HardBlock.{HardBlock}
use Rattle.hard_items.specs.declared.code.HardProgram.{HardProgram}
use Rattle.hard_items.specs.Run.{items_of, block_items}
use Rattle.hard_items.specs.WellFormed.{WellFormed, NamesThere}

of_each : (P : Item → Type 0) (xs : List Item) (k : ℕ) (i : Item) → All P xs → slice_get xs k ≡ Some i → P i
of_each P xs k i all h = subst P (get_or_from_slice_get xs k i i h) (All-get_or P xs k i (slice_get_within xs k i h) all)

pub item_in_range : (p : HardProgram) (b k : ℕ) (i : Item) → WellFormed p → slice_get (items_of p b) k ≡ Some i → IsInRange i.instr
item_in_range p b k i w h = of_each (λ x. IsInRange x.instr) (items_of p b) k i (w.in_range b) h

pub item_named : (p : HardProgram) (b k : ℕ) (i : Item) → WellFormed p → slice_get (items_of p b) k ≡ Some i → NamesThere p i.fix
item_named p b k i w h = of_each (λ x. NamesThere p x.fix) (items_of p b) k i (w.named_there b) h

nothing : (o : Option HardBlock) (k : ℕ) (i : Item) → o ≡ None → slice_get (block_items o) k ≡ Some i → ⊥
nothing o k i e h = none k i (subst (λ (x : Option HardBlock). slice_get (block_items x) k ≡ Some i) e h)
  where
    none : (k : ℕ) (i : Item) → slice_get [] k ≡ Some i → ⊥
    none k i e = cc

-- The block of an item is there.
pub item_block : (p : HardProgram) (b k : ℕ) (i : Item) → slice_get (items_of p b) k ≡ Some i → b < length p.blocks
item_block p b k i h = elim (slice_get_cases p.blocks b).1 [
  | inl f ↦ f.1
  | inr q ↦ absurd (nothing (slice_get p.blocks b) k i q.1 h)
]

-- So the number behind it is a word.
pub next_fits : (p : HardProgram) (b k : ℕ) (i : Item) → WellFormed p → slice_get (items_of p b) k ≡ Some i → b + 1 < 2 ^ 32
next_fits p b k i w h =
    let there : b < length p.blocks = item_block p b k i h in
    let few : length p.blocks < 2 ^ 32 = w.few_blocks in
    omega arith

-- Where a block has an item, it is there.
pub block_there : (p : HardProgram) (b k : ℕ) → k < length (items_of p b) → b < length p.blocks
block_there p b k h = elim (slice_get_cases (items_of p b) k).1 [
  | inl f ↦ item_block p b k f.0 f.2
  | inr q ↦ absurd (omega (arith, h, q.0))
]
