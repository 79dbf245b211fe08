-- For private contracts alone: the tests of a program of items as they are made.
use Rattle.std.specs.Prelude.{◌≡◌, ◌<◌, ℕ, ◌+◌, ◌-◌, Bool, true, false, not, ◌&&◌, ◌||◌, ◌==◌, nat_lt, nat_le, if◌then◌else◌, List, [], ◌∷◌, ◌++◌}
use Rattle.std.specs.Prelude.{length, Option, Some, None, slice_get, slice_index, slice_index_or, All}
use Rattle.std.specs.List.{list_all, list_any, fold}
use Rattle.std.specs.Option.{option_to_list}
use Rattle.mips_isa.specs.declared.instr.Instr.{Instr}
use Rattle.mips_isa.specs.declared.instr.Instr.TheVariants.{Sll, Beq, Bne, J, Jal, Jr, Lui, Ori}
use Rattle.mips_isa.specs.Machine.{is_jump}
use Rattle.mips_isa.specs.Table.{IsInRange}
use Rattle.hard_items.specs.declared.code.Fix.{Fix}
use Rattle.hard_items.specs.declared.code.Fix.TheVariants.{Plain, Block, Function, ReturnHigh, ReturnLow}
use Rattle.hard_items.specs.declared.code.Item.{Item}
use Rattle.hard_items.specs.declared.code.HardBlock.{HardBlock}
use Rattle.hard_items.specs.declared.code.HardProgram.{HardProgram}
use Rattle.hard_items.specs.Run.{block_items}
use Rattle.hard_items.specs.Counts.{is_break}
use Rattle.hard_code.specs.declared.leaves.Leave.{Leave}
use Rattle.hard_code.specs.declared.leaves.Leave.TheVariants.{Jump, Branch, Call, Return, Stop}

-- ---- fields

abbrev pub plain_fits : Instr → Bool
plain_fits (J target) = false
plain_fits (Jal target) = false
plain_fits i = true

abbrev pub block_fits : Instr → Bool
block_fits (J target) = target == 0
block_fits (Beq rs rt imm) = imm == 0
block_fits (Bne rs rt imm) = imm == 0
block_fits i = false

abbrev pub function_fits : Instr → Bool
function_fits (Jal target) = target == 0
function_fits i = false

abbrev pub high_fits : Instr → Bool
high_fits (Lui rt imm) = imm == 0
high_fits i = false

abbrev pub low_fits : Instr → Bool
low_fits (Ori rt rs imm) = imm == 0
low_fits i = false

-- the instruction goes with the field
abbrev pub field_fits : Fix → Instr → Bool
field_fits Plain i = plain_fits i
field_fits (Block t) i = block_fits i
field_fits (Function f) i = function_fits i
field_fits ReturnHigh i = high_fits i
field_fits ReturnLow i = low_fits i

-- what a field names is below the number of blocks or of functions
abbrev pub names_there : ℕ → ℕ → Fix → Bool
names_there blocks entries Plain = true
names_there blocks entries (Block t) = nat_lt t blocks
names_there blocks entries (Function f) = nat_lt f entries
names_there blocks entries ReturnHigh = true
names_there blocks entries ReturnLow = true

abbrev pub item_fits : ℕ → ℕ → Item → Bool
item_fits blocks entries i = field_fits i.fix i.instr && names_there blocks entries i.fix

-- ---- skips

abbrev pub is_plain : Fix → Bool
is_plain Plain = true
is_plain (Block t) = false
is_plain (Function f) = false
is_plain ReturnHigh = false
is_plain ReturnLow = false

abbrev pub is_branch : Instr → Bool
is_branch (Beq rs rt imm) = true
is_branch (Bne rs rt imm) = true
is_branch i = false

-- a branch over one item
abbrev pub is_skip : Instr → Bool
is_skip (Beq rs rt imm) = imm == 2
is_skip (Bne rs rt imm) = imm == 2
is_skip i = false

abbrev pub breaks : Option Item → Bool
breaks None = false
breaks (Some i) = is_break i.instr

-- an item, and the second one behind it: it skips a break
abbrev pub skips_break : Item → Option Item → Bool
skips_break i behind = is_plain i.fix && (is_skip i.instr && breaks behind)

-- an item, the second one behind it, its place, and the number of items: what skips has two more items behind the break; any other
-- branch or jump is the last item but one and, if it is a branch, names a block
abbrev pub may_stand : Item → Option Item → ℕ → ℕ → Bool
may_stand i behind k n = if skips_break i behind then nat_lt (k + 3) n else (not (is_jump i.instr) || (k + 2 == n && not (is_plain i.fix && is_branch i.instr)))

abbrev pub stands : Option Item → Option Item → ℕ → ℕ → Bool
stands None behind k n = true
stands (Some i) behind k n = may_stand i behind k n

abbrev pub place_fits : List Item → ℕ → Bool
place_fits items k = stands (slice_get items k) (slice_get items (k + 2)) k (length items)

-- ---- ends of blocks

abbrev pub is_nop : Instr → Bool
is_nop (Sll rd rt sh) = rd == 0 && (rt == 0 && sh == 0)
is_nop i = false

-- the last item but one, and the last
abbrev pub closes : Option Item → Option Item → Bool
closes None last = false
closes (Some i) None = false
closes (Some i) (Some j) = is_break j.instr || (is_jump i.instr && is_nop j.instr)

abbrev pub ends_well : List Item → Bool
ends_well items = nat_le 2 (length items) && closes (slice_get items (length items - 2)) (slice_get items (length items - 1))

-- the items of a block of a program with so many blocks and functions
pub record ItemsFit (blocks entries : ℕ) (items : List Item) : Type 0 where
  pub in_range : All (λ i. IsInRange i.instr) items
  pub fit : list_all (λ i. item_fits blocks entries i) items ≡ true
  pub stand : (k : ℕ) → k < length items → place_fits items k ≡ true
  pub close : ends_well items ≡ true

-- ---- how blocks are left

abbrev pub jump_to : Fix → Leave
jump_to Plain = Stop
jump_to (Block t) = Jump t
jump_to (Function f) = Stop
jump_to ReturnHigh = Stop
jump_to ReturnLow = Stop

abbrev pub branch_to : Fix → Leave
branch_to Plain = Stop
branch_to (Block t) = Branch t
branch_to (Function f) = Stop
branch_to ReturnHigh = Stop
branch_to ReturnLow = Stop

abbrev pub call_to : Fix → Leave
call_to Plain = Stop
call_to (Block t) = Stop
call_to (Function f) = Call f
call_to ReturnHigh = Stop
call_to ReturnLow = Stop

abbrev pub leave_of : Instr → Fix → Leave
leave_of (J target) fix = jump_to fix
leave_of (Jal target) fix = call_to fix
leave_of (Jr rs) fix = Return
leave_of (Beq rs rt imm) fix = branch_to fix
leave_of (Bne rs rt imm) fix = branch_to fix
leave_of i fix = Stop

abbrev pub leave_by : Option Item → Leave
leave_by None = Stop
leave_by (Some i) = leave_of i.instr i.fix

-- a block is left by its last item but one
abbrev pub leave : List Item → Leave
leave items = leave_by (slice_get items (length items - 2))

abbrev pub leave_at : List HardBlock → ℕ → Leave
leave_at blocks b = leave (block_items (slice_get blocks b))

-- ---- functions

-- of a number that may be there and another one: the greater of those that aren't above a block
abbrev pub nearer : ℕ → Option ℕ → ℕ → Option ℕ
nearer b None e = if nat_le e b then Some e else None
nearer b (Some s) e = if nat_le e b && nat_lt s e then Some e else Some s

-- the entry of the function that a block is of
abbrev pub start : List ℕ → ℕ → Option ℕ
start entries b = fold (λ s e. nearer b s e) None entries

abbrev pub are_same : Option ℕ → Option ℕ → Bool
are_same None None = true
are_same None (Some y) = false
are_same (Some x) None = false
are_same (Some x) (Some y) = x == y

-- both are there and the same
abbrev pub are_one : Option ℕ → Option ℕ → Bool
are_one None right = false
are_one (Some x) None = false
are_one (Some x) (Some y) = x == y

-- a branch stays in its function, and so does the block behind it; a call has a block behind it
abbrev pub goes_well : ℕ → List ℕ → ℕ → Leave → Bool
goes_well blocks entries b (Jump t) = true
goes_well blocks entries b (Branch t) = nat_lt (b + 1) blocks && (are_same (start entries b) (start entries t) && are_same (start entries b) (start entries (b + 1)))
goes_well blocks entries b (Call f) = nat_lt (b + 1) blocks
goes_well blocks entries b Return = true
goes_well blocks entries b Stop = true

-- no two entries are the same
abbrev pub Differ : List ℕ → Type 0
Differ entries = (f g e : ℕ) → slice_get entries f ≡ Some e → slice_get entries g ≡ Some e → f ≡ g

abbrev pub returned : Option ℕ → Leave → Option ℕ
returned entry (Jump t) = None
returned entry (Branch t) = None
returned entry (Call f) = None
returned entry Return = entry
returned entry Stop = None

-- the entry of the function from which a block returns, if it does
abbrev pub returns_at : List HardBlock → List ℕ → ℕ → Option ℕ
returns_at blocks entries b = returned (start entries b) (leave_at blocks b)

-- of a function at most one block returns
abbrev pub ReturnsOnce : List HardBlock → List ℕ → Type 0
ReturnsOnce blocks entries = (b c e : ℕ) → returns_at blocks entries b ≡ Some e → returns_at blocks entries c ≡ Some e → b ≡ c

-- ---- marks of numbers

abbrev pub is_it : Option ℕ → ℕ → Bool
is_it None x = false
is_it (Some y) x = y == x

-- the marks of the numbers from one on are raised where a test holds, and else stay
abbrev pub AreRaised : (ℕ → Bool) → ℕ → List Bool → List Bool → Type 0
AreRaised test low before after = (k : ℕ) → k < length before → slice_index_or after k false ≡ (slice_index_or before k false || test (low + k))

-- the marks of the numbers from one on are what a test says
abbrev pub AreMarks : (ℕ → Bool) → ℕ → List Bool → Type 0
AreMarks test low marks = (k : ℕ) → k < length marks → slice_index_or marks k false ≡ test (low + k)

-- a test holds of each number below an end, from one on up to so many
abbrev pub HoldsWithin : (ℕ → Bool) → ℕ → ℕ → ℕ → Type 0
HoldsWithin test low count end = (k : ℕ) → k < count → low + k < end → test (low + k) ≡ true

abbrev pub HoldsBelow : (ℕ → Bool) → ℕ → Type 0
HoldsBelow test end = (k : ℕ) → k < end → test k ≡ true

-- ---- what is called and what is entered

abbrev pub callee : Leave → Option ℕ
callee (Jump t) = None
callee (Branch t) = None
callee (Call f) = Some f
callee Return = None
callee Stop = None

abbrev pub is_called : List HardBlock → ℕ → Bool
is_called blocks f = list_any (λ b. is_it (callee (leave b.items)) f) blocks

-- a function begins the program or is called
abbrev pub may_begin : List HardBlock → List ℕ → ℕ → Bool
may_begin blocks entries f = slice_index entries f == 0 || is_called blocks f

abbrev pub is_call : Leave → Bool
is_call (Jump t) = false
is_call (Branch t) = false
is_call (Call f) = true
is_call Return = false
is_call Stop = false

-- some block has the block among its successors
abbrev pub is_named : List HardBlock → ℕ → Bool
is_named blocks x = list_any (λ b. list_any (λ y. y == x) b.successors) blocks

-- block 0 is not named; any other one is, or stands behind a call
abbrev pub enters : List HardBlock → ℕ → Bool → Bool
enters blocks b named = if b == 0 then not named else (named || is_call (leave_at blocks (b - 1)))

abbrev pub is_entered : List HardBlock → ℕ → Bool
is_entered blocks b = enters blocks b (is_named blocks b)

-- ---- successors

abbrev pub in_order : ℕ → ℕ → List ℕ
in_order x y = if nat_lt x y then x ∷ y ∷ [] else (if nat_lt y x then y ∷ x ∷ [] else x ∷ [])

-- a leave calls the function with this first block
abbrev pub calls_at : List ℕ → Option ℕ → Leave → Bool
calls_at entries entry (Jump t) = false
calls_at entries entry (Branch t) = false
calls_at entries entry (Call f) = are_one (slice_get entries f) entry
calls_at entries entry Return = false
calls_at entries entry Stop = false

-- the blocks behind those that call it, where the first one has this number
abbrev pub behind_calls : List ℕ → Option ℕ → ℕ → List HardBlock → List ℕ
behind_calls entries entry k [] = []
behind_calls entries entry k (b ∷ bs) = (if calls_at entries entry (leave b.items) then (k + 1) ∷ [] else []) ++ behind_calls entries entry (k + 1) bs

-- the blocks that may come behind a block that is left so
abbrev pub followers : List HardBlock → List ℕ → ℕ → Leave → List ℕ
followers blocks entries b (Jump t) = t ∷ []
followers blocks entries b (Branch t) = in_order t (b + 1)
followers blocks entries b (Call f) = option_to_list (slice_get entries f)
followers blocks entries b Return = behind_calls entries (start entries b) 0 blocks
followers blocks entries b Stop = []

-- the list of each block below a number is that of the blocks that may come behind it
abbrev pub Follow : List HardBlock → List ℕ → ℕ → Type 0
Follow blocks entries n = (b : ℕ) (block : HardBlock) → b < n → slice_get blocks b ≡ Some block → block.successors ≡ followers blocks entries b (leave block.items)

-- ---- the groups of tests

abbrev pub numbers_fit : HardProgram → Bool
numbers_fit p = nat_lt 0 (length p.blocks) && (nat_lt (length p.blocks) 4294967296 && (nat_le (length p.initial) p.memory_words &&
    (nat_le 1 p.memory_words && nat_le p.memory_words 4194304)))

pub record FunctionsFit (blocks : List HardBlock) (entries : List ℕ) : Type 0 where
  pub there : list_all (λ e. nat_lt e (length blocks)) entries ≡ true
  pub differ : Differ entries
  pub called : HoldsBelow (λ f. may_begin blocks entries f) (length entries)
  pub go_well : HoldsBelow (λ b. goes_well (length blocks) entries b (leave_at blocks b)) (length blocks)
  pub return_once : ReturnsOnce blocks entries

pub record SuccessorsFit (blocks : List HardBlock) (entries : List ℕ) : Type 0 where
  pub follow : Follow blocks entries (length blocks)
  pub entered : HoldsBelow (λ b. is_entered blocks b) (length blocks)
