-- The items that each step and each end of a block becomes, with the variables in any places that fit.
use Rattle.std.specs.Prelude.{ℕ, ◌+◌, ◌-◌, ◌*◌, ◌/◌, ◌%◌, ◌^◌, Bool, true, false, ◌==◌, ◌&&◌, nat_le, if◌then◌else◌, List, [], ◌∷◌, ◌++◌, flat_map}
use Rattle.std.specs.Prelude.{length, map, sum, take, Option, Some, None, slice_get, slice_index_or}
use Rattle.mips_isa.specs.declared.instr.Instr.{Instr}
use Rattle.mips_isa.specs.declared.instr.Instr.TheVariants as mips
use Rattle.hard_items.specs.declared.code.Class.TheVariants as class
use Rattle.hard_items.specs.declared.code.Fix.TheVariants as fix
use Rattle.hard_items.specs.declared.code.Item.{Item}
use Rattle.hard_items.specs.Streams.{nop, plain}
use Rattle.hard_items.specs.Forms.{going}
use Rattle.mid_blocks.specs.declared.code.MidOp.{MidOp}
use Rattle.mid_blocks.specs.declared.code.MidOp.TheVariants.{Add, Sub, Mul, Div, DivU, Rem, RemU, Shl, Shr, Sar, And, Or, Xor, Lt, LtU, Eq, Ne}
use Rattle.mid_blocks.specs.declared.code.MidStep.{MidStep}
use Rattle.mid_blocks.specs.declared.code.MidStep.TheVariants.{Constant, Copy, Operate, Guard, Load, Store, Input, Output, Deep}
use Rattle.mid_blocks.specs.declared.code.MidEnd.{MidEnd}
use Rattle.mid_blocks.specs.declared.code.MidEnd.TheVariants.{Jump, Branch, Call, Return}
use Rattle.mid_blocks.specs.declared.places.Place.{Place}
use Rattle.mid_blocks.specs.declared.places.Place.TheVariants.{Pair, Slot}
use Rattle.mid_blocks.specs.declared.places.Places.{Places}
use Rattle.double_law.specs.declared.roles.Stream.TheVariants.{First, Second}
use Rattle.double_law.specs.declared.roles.Role.{Role}
use Rattle.double_law.specs.declared.roles.Role.TheVariants.{Value, Stack, Link}
use Rattle.double_law.specs.Roles.{reg_in, both, product, move, load, store, test}

-- ---- places

abbrev pub place_of : Places → ℕ → Place
place_of places v = slice_index_or places.list v (Slot 0)

-- The offset of a slot from the stack pointer: the return address has the first place of a frame.
abbrev pub slot_offset : ℕ → ℕ
slot_offset s = 8 * (s + 1)

-- The register in which a variable is read: its own, or a scratch register.
abbrev pub source : Place → ℕ → Role
source (Pair k) scratch = Value (k + 2)
source (Slot s) scratch = Value scratch

-- A variable in a slot comes to a scratch register.
abbrev pub fetched : Place → ℕ → List Item
fetched (Pair k) scratch = []
fetched (Slot s) scratch = load (Value scratch) Stack (slot_offset s)

-- A variable comes to a given register.
abbrev pub brought : Place → Role → List Item
brought (Pair k) to = move to (Value (k + 2))
brought (Slot s) to = load to Stack (slot_offset s)

-- The register in which a variable is made, and its way to a slot.
abbrev pub target : Place → Role
target (Pair k) = Value (k + 2)
target (Slot s) = Value 0

abbrev pub kept : Place → List Item
kept (Pair k) = []
kept (Slot s) = store (Value 0) Stack (slot_offset s)

-- ---- constants and addresses

-- A word comes to a register, in one or two instructions.
abbrev pub constant : Role → ℕ → List Item
constant to word =
    if word / 2 ^ 16 == 0 then both (λ t. mips.Ori (reg_in t to) 0 word) else (
    if word % 2 ^ 16 == 0 then both (λ t. mips.Lui (reg_in t to) (word / 2 ^ 16)) else (
    if word / 2 ^ 16 == 2 ^ 16 - 1 && nat_le (2 ^ 15) (word % 2 ^ 16) then both (λ t. mips.Addiu (reg_in t to) 0 (word % 2 ^ 16)) else
    both (λ t. mips.Lui (reg_in t to) (word / 2 ^ 16)) ++ both (λ t. mips.Ori (reg_in t to) (reg_in t to) (word % 2 ^ 16))))

-- The upper half for lui, and the lower half as an offset with sign.
abbrev pub upper : ℕ → ℕ
upper address = (address + 2 ^ 15) / 2 ^ 16

abbrev pub lower : ℕ → ℕ
lower address = address % 2 ^ 16

-- ---- operations

abbrev pub three : (ℕ → ℕ → ℕ → Instr) → Role → Role → Role → List Item
three f to a b = both (λ t. f (reg_in t to) (reg_in t a) (reg_in t b))

-- An operation on two registers, where it does not trap.
abbrev pub operation : MidOp → Role → Role → Role → List Item
operation Add to a b = three mips.Addu to a b
operation Sub to a b = three mips.Subu to a b
operation Mul to a b = product (λ t. mips.Mult (reg_in t a) (reg_in t b)) (λ t. mips.Mflo (reg_in t to))
operation Div to a b = product (λ t. mips.Div (reg_in t a) (reg_in t b)) (λ t. mips.Mflo (reg_in t to))
operation DivU to a b = product (λ t. mips.Divu (reg_in t a) (reg_in t b)) (λ t. mips.Mflo (reg_in t to))
operation Rem to a b = product (λ t. mips.Div (reg_in t a) (reg_in t b)) (λ t. mips.Mfhi (reg_in t to))
operation RemU to a b = product (λ t. mips.Divu (reg_in t a) (reg_in t b)) (λ t. mips.Mfhi (reg_in t to))
operation Shl to a b = three mips.Sllv to a b
operation Shr to a b = three mips.Srlv to a b
operation Sar to a b = three mips.Srav to a b
operation And to a b = three mips.And to a b
operation Or to a b = three mips.Or to a b
operation Xor to a b = three mips.Xor to a b
operation Lt to a b = three mips.Slt to a b
operation LtU to a b = three mips.Sltu to a b
operation Eq to a b = three mips.Xor to a b ++ both (λ t. mips.Sltiu (reg_in t to) (reg_in t to) 1)
operation Ne to a b = three mips.Xor to a b ++ both (λ t. mips.Sltu (reg_in t to) 0 (reg_in t to))

-- The test that a divisor isn't 0.
abbrev pub divisor_test : Place → List Item
divisor_test right = fetched right 1 ++ test (source right 1) 7

-- The test that a quotient with sign isn't -2^31 / -1; the operands are fetched anew, since three registers are needed.
abbrev pub quotient_test : Place → Place → List Item
quotient_test left right =
    both (λ t. mips.Lui (reg_in t (Value 0)) (2 ^ 15)) ++ (
    fetched left 1 ++ (
    three mips.Xor (Value 0) (Value 0) (source left 1) ++ (
    fetched right 1 ++ (
    both (λ t. mips.Nor (reg_in t (Value 1)) (reg_in t (source right 1)) 0) ++ (
    three mips.Or (Value 0) (Value 0) (Value 1) ++
    test (Value 0) 6)))))

abbrev pub operation_tests : MidOp → Place → Place → List Item
operation_tests Add left right = []
operation_tests Sub left right = []
operation_tests Mul left right = []
operation_tests Div left right = divisor_test right ++ quotient_test left right
operation_tests DivU left right = divisor_test right
operation_tests Rem left right = divisor_test right ++ quotient_test left right
operation_tests RemU left right = divisor_test right
operation_tests Shl left right = []
operation_tests Shr left right = []
operation_tests Sar left right = []
operation_tests And left right = []
operation_tests Or left right = []
operation_tests Xor left right = []
operation_tests Lt left right = []
operation_tests LtU left right = []
operation_tests Eq left right = []
operation_tests Ne left right = []

-- ---- steps

-- The address of an element of a global, but for the lower half of the global's, comes to a register.
abbrev pub element : (to by : ℕ) → Place → ℕ → List Item
element to by index address =
    fetched index to ++ (
    both (λ t. mips.Sll (reg_in t (Value to)) (reg_in t (source index to)) 3) ++ (
    both (λ t. mips.Lui (reg_in t (Value by)) (upper address)) ++
    three mips.Addu (Value to) (Value to) (Value by)))

abbrev pub load_items : Place → Option Place → ℕ → List Item
load_items to None address = both (λ t. mips.Lui (reg_in t (target to)) (upper address)) ++ (load (target to) (target to) (lower address) ++ kept to)
load_items to (Some index) address = element 0 1 index address ++ (load (target to) (Value 0) (lower address) ++ kept to)

abbrev pub store_items : Option Place → Place → ℕ → List Item
store_items None from address = both (λ t. mips.Lui (reg_in t (Value 1)) (upper address)) ++ (fetched from 0 ++ store (source from 0) (Value 1) (lower address))
store_items (Some index) from address = element 1 0 index address ++ (fetched from 0 ++ store (source from 0) (Value 1) (lower address))

abbrev pub optional_place : Places → Option ℕ → Option Place
optional_place places None = None
optional_place places (Some v) = Some (place_of places v)

abbrev pub copy_items : Place → Place → List Item
copy_items (Pair k) from = brought from (Value (k + 2))
copy_items (Slot s) from = fetched from 0 ++ store (source from 0) Stack (slot_offset s)

abbrev pub input_items : Role → List Item
input_items r =
    plain (mips.Ori 2 0 5) class.Input ∷ plain mips.Syscall class.Input ∷
    plain (mips.Addu (reg_in First r) 2 0) class.Input ∷ plain (mips.Addu (reg_in Second r) 2 0) class.Input ∷ []

-- The number of a service and its call.
abbrev pub service_items : ℕ → List Item
service_items n = plain (mips.Ori 2 0 n) class.Act ∷ plain mips.Syscall class.Act ∷ []

-- What a step becomes, in a program whose globals have these addresses and lengths.
abbrev pub step_items : (ℕ → ℕ) → (ℕ → ℕ) → Places → MidStep → List Item
step_items address size places (Constant to word) = constant (target (place_of places to)) word ++ kept (place_of places to)
step_items address size places (Copy to from) = copy_items (place_of places to) (place_of places from)
step_items address size places (Operate op to left right) =
    operation_tests op (place_of places left) (place_of places right) ++ (
    fetched (place_of places left) 0 ++ (
    fetched (place_of places right) 1 ++ (
    operation op (target (place_of places to)) (source (place_of places left) 0) (source (place_of places right) 1) ++
    kept (place_of places to))))
step_items address size places (Guard global index) =
    fetched (place_of places index) 0 ++ (
    both (λ t. mips.Sltiu (reg_in t (Value 0)) (reg_in t (source (place_of places index) 0)) (size global)) ++
    test (Value 0) 8)
step_items address size places (Load to global index) = load_items (place_of places to) (optional_place places index) (address global)
step_items address size places (Store global index from) = store_items (optional_place places index) (place_of places from) (address global)
step_items address size places (Input to) = input_items (target (place_of places to)) ++ kept (place_of places to)
step_items address size places (Output from) = brought (place_of places from) (Value 0) ++ service_items 1
step_items address size places (Deep v) = fetched (place_of places v) 0 ++ test (source (place_of places v) 0) 9

-- ---- ends

-- The number of the next block comes to the shadow's return address, and the call brings it to the master's.
abbrev pub call_items : ℕ → List Item
call_items f =
    record { instr = mips.Lui 25 0; class = class.Shadow; fix = fix.ReturnHigh } ∷
    record { instr = mips.Ori 25 25 0; class = class.Shadow; fix = fix.ReturnLow } ∷
    going (mips.Jal 0) (fix.Function f) ∷ plain nop class.Act ∷ []

-- The arguments are stored where the callee's frame has its parameters, from the one of this number on.
abbrev pub argument_items : Places → ℕ → List ℕ → List Item
argument_items places i [] = []
argument_items places i (v ∷ vs) =
    fetched (place_of places v) 0 ++ (store (source (place_of places v) 0) Stack (2 ^ 16 - 8 * (i + 1)) ++ argument_items places (i + 1) vs)

abbrev pub returned_items : Places → Option ℕ → List Item
returned_items places None = both (λ t. mips.Addu (reg_in t (Value 0)) 0 0)
returned_items places (Some v) = brought (place_of places v) (Value 0)

-- What an end becomes, in a function whose first block has this number, with frames of so many pairs.
abbrev pub end_items : ℕ → ℕ → Places → MidEnd → List Item
end_items first pairs places (Jump to) = going (mips.J 0) (fix.Block (first + to)) ∷ plain nop class.Act ∷ []
end_items first pairs places (Branch v true to) =
    fetched (place_of places v) 0 ++
    going (mips.Bne (reg_in First (source (place_of places v) 0)) 0 0) (fix.Block (first + to)) ∷ plain nop class.Act ∷ []
end_items first pairs places (Branch v false to) =
    fetched (place_of places v) 0 ++
    going (mips.Beq (reg_in First (source (place_of places v) 0)) 0 0) (fix.Block (first + to)) ∷ plain nop class.Act ∷ []
end_items first pairs places (Call function args result) = argument_items places 0 args ++ call_items function
end_items first pairs places (Return from) =
    returned_items places from ++ (
    load Link Stack 0 ++ (
    both (λ t. mips.Addiu (reg_in t Stack) (reg_in t Stack) (8 * pairs)) ++
    plain (mips.Jr 31) class.Act ∷ plain nop class.Act ∷ []))

-- ---- starts of blocks

-- The parameters that have a pair, from the one of this number on.
abbrev pub parameter_load : Place → ℕ → ℕ → List Item
parameter_load (Pair k) pairs i = load (Value (k + 2)) Stack (8 * (pairs - (i + 1)))
parameter_load (Slot s) pairs i = []

abbrev pub parameter_items : Places → ℕ → ℕ → ℕ → List Item
parameter_items places pairs i Rattle.std.specs.Prelude.zero = []
parameter_items places pairs i (Rattle.std.specs.Prelude.suc n) = parameter_load (place_of places i) pairs i ++ parameter_items places pairs (i + 1) n

-- A call begins: its frame, the return address, the parameters.
abbrev pub enter_items : Places → ℕ → ℕ → List Item
enter_items places pairs params =
    both (λ t. mips.Addiu (reg_in t Stack) (reg_in t Stack) (2 ^ 16 - 8 * pairs)) ++ (
    store Link Stack 0 ++
    parameter_items places pairs 0 params)

-- What a call returned comes to the place of its result.
abbrev pub result_to : Place → List Item
result_to (Pair k) = move (Value (k + 2)) (Value 0)
result_to (Slot s) = store (Value 0) Stack (slot_offset s)

abbrev pub result_items : Places → Option ℕ → List Item
result_items places None = []
result_items places (Some v) = result_to (place_of places v)
