-- The forms in which the items of a block stand, each with its checks or without: what the passes put, take apart and rely on.
use Rattle.std.specs.Prelude.{◌≡◌, ◌≢◌, ◌≤◌, ◌<◌, ◌⊎◌, ℕ, ◌+◌, ◌%◌, ◌^◌, Bool, true, false, ◌==◌, ◌&&◌, ◌||◌, not, nat_le, if◌then◌else◌, IsTrue}
use Rattle.std.specs.Prelude.{List, [], ◌∷◌, ◌++◌, Option, Some, None, flat_map, slice_get}
use Rattle.mips_isa.specs.declared.instr.Instr.{Instr}
use Rattle.mips_isa.specs.declared.instr.Instr.TheVariants.{Sll, Addu, Beq, Bne, Break, J, Jal, Jr, Lui, Lw, Ori, Sw, Syscall}
use Rattle.mips_isa.specs.Machine.{reads_of, writes_of, is_product}
use Rattle.mips_isa.specs.Locality.{is_move, is_data}
use Rattle.hard_items.specs.declared.code.Class.{Class}
use Rattle.hard_items.specs.declared.code.Class.TheVariants.{Master, Shadow, Check, Act, Input}
use Rattle.hard_items.specs.declared.code.Fix.{Fix}
use Rattle.hard_items.specs.declared.code.Fix.TheVariants.{Plain, Block, Function, ReturnHigh, ReturnLow}
use Rattle.hard_items.specs.declared.code.Item.{Item}
use Rattle.hard_items.specs.declared.code.HardBlock.{HardBlock}
use Rattle.hard_items.specs.declared.code.HardProgram.{HardProgram}
use Rattle.hard_items.specs.Streams.{is_master, is_shadow, shadow_of, is_of, is_stream, touched, nop, plain}

-- Of each element of a list it is true.
abbrev pub Each : {A : Type 0} → (A → Type 0) → List A → Type 0
Each P [] = Unit {0}
Each P (x ∷ xs) = P x × Each P xs

-- ---- the forms

-- A form inside a block.
pub data Form : Type 0 where
  -- an item of a stream
  Alone : Item → Form
  -- a product and the move from HI or LO behind it
  Product : Item → Item → Form
  -- a store of a value register through a base register
  Store : (checked : Bool) → (value base offset : ℕ) → Form
  -- a trap where a register holds 0
  Test : (checked : Bool) → (register code : ℕ) → Form
  -- the word of register 4 is put out
  Output : (checked : Bool) → Form
  -- the next word of the input comes to a register of both streams
  Takes : (register : ℕ) → Form
  -- a free nop
  Idle : Form

-- How a block closes.
pub data Close : Type 0 where
  Jump : (to : ℕ) → Close
  Branch : (checked : Bool) → (register : ℕ) → (when : Bool) → (to : ℕ) → Close
  Call : (function : ℕ) → Close
  Return : (checked : Bool) → Close
  Exit : (checked : Bool) → Close

-- ---- their items

-- The check that two registers hold the same.
abbrev pub check : ℕ → ℕ → List Item
check x y = plain (Beq x y 2) Check ∷ plain nop Check ∷ plain (Break 1) Check ∷ []

abbrev pub check_if : Bool → ℕ → List Item
check_if true m = check m (shadow_of m)
check_if false m = []

-- The word that is put out or with which the program exits is checked around the number of the service.
abbrev pub service_number : Bool → ℕ → List Item
service_number true n = plain (Beq 4 14 2) Check ∷ plain (Ori 2 0 n) Act ∷ plain (Break 1) Check ∷ []
service_number false n = plain (Ori 2 0 n) Act ∷ []

abbrev pub form_items : Form → List Item
form_items (Alone i) = i ∷ []
form_items (Product i j) = i ∷ j ∷ []
form_items (Store checked value base offset) = check_if checked value ++ (check_if checked base ++
    plain (Sw value base offset) Act ∷ plain (Sw (shadow_of value) (shadow_of base) ((offset + 4) % 2 ^ 16)) Act ∷ [])
form_items (Test checked r code) = check_if checked r ++ plain (Bne r 0 2) Act ∷ plain nop Act ∷ plain (Break code) Act ∷ []
form_items (Output checked) = service_number checked 1 ++ plain Syscall Act ∷ []
form_items (Takes r) = plain (Ori 2 0 5) Input ∷ plain Syscall Input ∷ plain (Addu r 2 0) Input ∷ plain (Addu (shadow_of r) 2 0) Input ∷ []
form_items Idle = plain nop Act ∷ []

-- An item that goes to a block or a function.
abbrev pub going : Instr → Fix → Item
going i fix = record { instr = i; class = Act; fix = fix }

abbrev pub close_items : Close → List Item
close_items (Jump to) = going (J 0) (Block to) ∷ plain nop Act ∷ []
close_items (Branch checked r true to) = check_if checked r ++ going (Bne r 0 0) (Block to) ∷ plain nop Act ∷ []
close_items (Branch checked r false to) = check_if checked r ++ going (Beq r 0 0) (Block to) ∷ plain nop Act ∷ []
close_items (Call function) = going (Jal 0) (Function function) ∷ plain nop Act ∷ []
close_items (Return checked) = check_if checked 31 ++ plain (Jr 31) Act ∷ plain nop Act ∷ []
close_items (Exit checked) = service_number checked 17 ++ plain Syscall Act ∷ plain (Break 1) Act ∷ []

-- The items of a block.
abbrev pub block_of : List Form → Close → List Item
block_of forms close = flat_map form_items forms ++ close_items close

-- ---- what fits a form

-- A register of the first stream that holds values.
abbrev pub is_value : ℕ → Bool
is_value r = nat_le 4 r && nat_le r 13

-- A register that may be loaded or stored.
abbrev pub is_carried : ℕ → Bool
is_carried r = (nat_le 4 r && nat_le r 23) || (r == 25 || r == 31)

-- A register that an item of a class may touch: $0 and those of its stream.
abbrev pub MayTouch : Class → ℕ → Type 0
MayTouch class r = (r ≡ 0) ⊎ IsTrue (is_of class r)

-- A load is of a register that may be loaded.
abbrev pub LoadFits : Instr → Type 0
LoadFits (Lw rt rs imm) = IsTrue (is_carried rt)
LoadFits i = Unit {0}

-- Only the halves of a return address have a field for the layout, and stand in the second stream.
abbrev pub HalfFits : Item → Fix → Type 0
HalfFits i Plain = Unit {0}
HalfFits i (Block t) = ⊥
HalfFits i (Function f) = ⊥
HalfFits i ReturnHigh = (i.class ≡ Shadow) × (i.instr ≡ Lui 25 0)
HalfFits i ReturnLow = (i.class ≡ Shadow) × (i.instr ≡ Ori 25 25 0)

-- An item of a stream by itself: it computes or loads, and touches registers of its stream alone, one at least.
pub record StandsAlone (i : Item) : Type 0 where
  pub stream : is_stream i.class ≡ true
  pub computes : is_data i.instr ≡ true
  pub no_product : is_product i.instr ≡ false
  pub no_move : is_move i.instr ≡ false
  pub own : Each (MayTouch i.class) (touched i.instr)
  pub load_fits : LoadFits i.instr
  pub half_fits : HalfFits i i.fix

-- A product that reads a register other than $0, and its move.
pub record IsProduct (i j : Item) : Type 0 where
  pub stream : is_stream i.class ≡ true
  pub one_stream : i.class ≡ j.class
  pub product : is_product i.instr ≡ true
  pub move : is_move j.instr ≡ true
  pub own : Each (MayTouch i.class) (touched i.instr)
  pub own_move : Each (MayTouch j.class) (touched j.instr)
  pub reads : (r : ℕ) × (r ≢ 0) × ((reads_of i.instr ≡ r ∷ []) ⊎ ((q : ℕ) × ((reads_of i.instr ≡ r ∷ q ∷ []) ⊎ (reads_of i.instr ≡ q ∷ r ∷ []))))
  pub plain_product : i.fix ≡ Plain
  pub plain_move : j.fix ≡ Plain

abbrev pub FormFits : Form → Type 0
FormFits (Alone i) = StandsAlone i
FormFits (Product i j) = IsProduct i j
FormFits (Store checked value base offset) = IsTrue (is_value value || value == 31) × IsTrue (is_value base || base == 29) × (offset < 2 ^ 16)
FormFits (Test checked r code) = IsTrue (is_value r) × (6 ≤ code) × (code ≤ 9)
FormFits (Output checked) = Unit {0}
FormFits (Takes r) = IsTrue (is_value r)
FormFits Idle = Unit {0}

abbrev pub CloseFits : Close → Type 0
CloseFits (Jump to) = Unit {0}
CloseFits (Branch checked r when to) = IsTrue (is_value r)
CloseFits (Call function) = Unit {0}
CloseFits (Return checked) = Unit {0}
CloseFits (Exit checked) = Unit {0}

-- ---- checks

-- A form stands with its checks.
abbrev pub HasChecks : Form → Type 0
HasChecks (Alone i) = Unit {0}
HasChecks (Product i j) = Unit {0}
HasChecks (Store checked value base offset) = checked ≡ true
HasChecks (Test checked r code) = checked ≡ true
HasChecks (Output checked) = checked ≡ true
HasChecks (Takes r) = Unit {0}
HasChecks Idle = Unit {0}

abbrev pub CloseHasChecks : Close → Type 0
CloseHasChecks (Jump to) = Unit {0}
CloseHasChecks (Branch checked r when to) = checked ≡ true
CloseHasChecks (Call function) = Unit {0}
CloseHasChecks (Return checked) = checked ≡ true
CloseHasChecks (Exit checked) = checked ≡ true

-- A form stands without checks.
abbrev pub Bare : Form → Type 0
Bare (Alone i) = Unit {0}
Bare (Product i j) = Unit {0}
Bare (Store checked value base offset) = checked ≡ false
Bare (Test checked r code) = checked ≡ false
Bare (Output checked) = checked ≡ false
Bare (Takes r) = Unit {0}
Bare Idle = Unit {0}

abbrev pub BareClose : Close → Type 0
BareClose (Jump to) = Unit {0}
BareClose (Branch checked r when to) = checked ≡ false
BareClose (Call function) = Unit {0}
BareClose (Return checked) = checked ≡ false
BareClose (Exit checked) = checked ≡ false

-- ---- blocks

-- The items of a block are forms that fit.
pub record Formed (items : List Item) : Type 0 where
  pub forms : List Form
  pub close : Close
  pub is : items ≡ block_of forms close
  pub fit : Each FormFits forms
  pub close_fits : CloseFits close

-- Items are forms that fit and have no checks.
pub record AreBare (items : List Item) : Type 0 where
  pub formed : Formed items
  pub bare : Each Bare formed.forms
  pub close : BareClose formed.close

-- The halves of return addresses stand in pairs, the high one first, and no item between them touches register 25.
abbrev pub HalvesAt : (Bool → Type 0) → Fix → Bool → Instr → Type 0
HalvesAt P Plain open_ i = (open_ ≡ true → Each (λ r. r ≢ 25) (touched i)) × P open_
HalvesAt P (Block t) open_ i = (open_ ≡ false) × P open_
HalvesAt P (Function f) open_ i = (open_ ≡ false) × P open_
HalvesAt P ReturnHigh open_ i = (open_ ≡ false) × P true
HalvesAt P ReturnLow open_ i = (open_ ≡ true) × P false

abbrev pub HalvesPair : List Item → Bool → Type 0
HalvesPair [] open_ = open_ ≡ false
HalvesPair (i ∷ more) open_ = HalvesAt (HalvesPair more) i.fix open_ i.instr
