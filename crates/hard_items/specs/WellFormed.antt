-- When a program of items is well formed: what can be tested without running it.
use Rattle.std.specs.Prelude.{◌≡◌, ◌≢◌, ◌<◌, ◌≤◌, ◌⊎◌, ◌↔◌, ℕ, ◌+◌, ◌^◌, Bool, true, false, List, [], ◌∷◌, length, Option, Some, None, slice_get, All, Contains}
use Rattle.mips_isa.specs.declared.instr.Instr.{Instr}
use Rattle.mips_isa.specs.declared.instr.Instr.TheVariants.{Sll, Break, Beq, Bne, J, Jal, Jr, Lui, Ori}
use Rattle.mips_isa.specs.Machine.{is_jump}
use Rattle.mips_isa.specs.Table.{IsInRange}
use Rattle.hard_items.specs.declared.code.Fix.{Fix}
use Rattle.hard_items.specs.declared.code.Fix.TheVariants.{Plain, Block, Function, ReturnHigh, ReturnLow}
use Rattle.hard_items.specs.declared.code.Item.{Item}
use Rattle.hard_items.specs.declared.code.HardBlock.{HardBlock}
use Rattle.hard_items.specs.declared.code.HardProgram.{HardProgram}
use Rattle.hard_items.specs.Streams.{nop}
use Rattle.hard_items.specs.Run.{items_of}
use Rattle.hard_items.specs.Ways.{MayFollow, IsOfFunction, CallsFunction, EachCalled}

-- The item at a place of a list.
abbrev pub ItemAt : List Item → ℕ → Item → Type 0
ItemAt items k i = slice_get items k ≡ Some i

-- A conditional branch that skips the break two items behind it.
pub record SkipsBreak (items : List Item) (k : ℕ) : Type 0 where
  pub branch : Item
  pub stands : ItemAt items k branch
  pub rs : ℕ
  pub rt : ℕ
  pub conditional : (branch.instr ≡ Beq rs rt 2) ⊎ (branch.instr ≡ Bne rs rt 2)
  pub no_field : branch.fix ≡ Plain
  pub skipped : Item
  pub behind : ItemAt items (k + 2) skipped
  pub code : ℕ
  pub is_break : skipped.instr ≡ Break code

-- Which instruction goes with which field: the layout fills exactly what is 0 here.
abbrev pub FieldFits : Fix → Instr → Type 0
FieldFits Plain (J target) = ⊥
FieldFits Plain (Jal target) = ⊥
FieldFits Plain i = Unit {0}
FieldFits (Block t) (J target) = target ≡ 0
FieldFits (Block t) (Beq rs rt imm) = imm ≡ 0
FieldFits (Block t) (Bne rs rt imm) = imm ≡ 0
FieldFits (Block t) i = ⊥
FieldFits (Function f) (Jal target) = target ≡ 0
FieldFits (Function f) i = ⊥
FieldFits ReturnHigh (Lui rt imm) = imm ≡ 0
FieldFits ReturnHigh i = ⊥
FieldFits ReturnLow (Ori rt rs imm) = imm ≡ 0
FieldFits ReturnLow i = ⊥

-- The block or the function that a field names exists.
abbrev pub NamesThere : HardProgram → Fix → Type 0
NamesThere p Plain = Unit {0}
NamesThere p (Block t) = t < length p.blocks
NamesThere p (Function f) = f < length p.entries
NamesThere p ReturnHigh = Unit {0}
NamesThere p ReturnLow = Unit {0}

-- A block ends by a branch or a jump and a nop, or by a break that no branch skips.
abbrev pub EndsWell : List Item → Type 0
EndsWell items = (k : ℕ) × (i j : Item) × (length items ≡ k + 2) × ItemAt items k i × ItemAt items (k + 1) j ×
    (((is_jump i.instr ≡ true) × (SkipsBreak items k → ⊥) × (j.instr ≡ nop)) ⊎ ((code : ℕ) × (j.instr ≡ Break code)))

-- A block is entered: by a jump, a branch or a call, or from the block before it, which ends by a branch or a call.
abbrev pub IsEntered : HardProgram → ℕ → Type 0
IsEntered p c = ((b : ℕ) × MayFollow p b c) ⊎ ((b f : ℕ) × (c ≡ b + 1) × CallsFunction p b f)

pub record WellFormed (p : HardProgram) : Type 0 where
  pub has_block : 0 < length p.blocks
  pub few_blocks : length p.blocks < 2 ^ 32
  pub initial_fits : length p.initial ≤ p.memory_words
  pub has_memory : 1 ≤ p.memory_words
  pub memory_fits : p.memory_words ≤ 4194304
  pub in_range : (b : ℕ) → All (λ i. IsInRange i.instr) (items_of p b)
  pub fields_fit : (b : ℕ) → All (λ i. FieldFits i.fix i.instr) (items_of p b)
  pub named_there : (b : ℕ) → All (λ i. NamesThere p i.fix) (items_of p b)
  pub entries_there : All (λ e. e < length p.blocks) p.entries
  -- each function is called, or begins the program
  pub each_called : EachCalled p
  pub entries_differ : (f g e : ℕ) → slice_get p.entries f ≡ Some e → slice_get p.entries g ≡ Some e → f ≡ g
  -- a branch or a jump skips a break or is the last item but one
  pub only_at_the_end : (b k : ℕ) (i : Item) → ItemAt (items_of p b) k i → is_jump i.instr ≡ true → SkipsBreak (items_of p b) k ⊎ (k + 2 ≡ length (items_of p b))
  -- a conditional branch that names no block skips a break
  pub skips_or_names : (b k rs rt imm : ℕ) (i : Item) → ItemAt (items_of p b) k i → (i.instr ≡ Beq rs rt imm) ⊎ (i.instr ≡ Bne rs rt imm) →
      i.fix ≡ Plain → SkipsBreak (items_of p b) k
  pub ends_well : (b : ℕ) → b < length p.blocks → EndsWell (items_of p b)
  -- no break that a branch skips is the last item
  pub goes_on_behind_skips : (b k : ℕ) → SkipsBreak (items_of p b) k → k + 3 < length (items_of p b)
  -- a branch stays in its function, and so does the block behind it
  pub branch_stays : (b k t rs rt imm : ℕ) (i : Item) → ItemAt (items_of p b) k i → i.fix ≡ Block t → (i.instr ≡ Beq rs rt imm) ⊎ (i.instr ≡ Bne rs rt imm) →
      (b + 1 < length p.blocks) × ((f : ℕ) → (IsOfFunction p b f ↔ IsOfFunction p t f) × (IsOfFunction p b f ↔ IsOfFunction p (b + 1) f))
  pub one_return : (b c f k m rs rt : ℕ) (i j : Item) → IsOfFunction p b f → IsOfFunction p c f → ItemAt (items_of p b) k i →
      ItemAt (items_of p c) m j → i.instr ≡ Jr rs → j.instr ≡ Jr rt → b ≡ c
  pub call_goes_on : (b f : ℕ) → CallsFunction p b f → b + 1 < length p.blocks
  pub each_entered : (c : ℕ) → 0 < c → c < length p.blocks → IsEntered p c
  pub first_not_entered : (b : ℕ) → MayFollow p b 0 → ⊥
  -- the lists of successors: ascending, each once, exactly the blocks that may follow
  pub successors_ascend : (b k c d : ℕ) (block : HardBlock) → slice_get p.blocks b ≡ Some block → slice_get block.successors k ≡ Some c →
      slice_get block.successors (k + 1) ≡ Some d → c < d
  pub successors_are : (b c : ℕ) (block : HardBlock) → slice_get p.blocks b ≡ Some block → Contains block.successors c ↔ MayFollow p b c
