-- Each instruction of the code has a word.
use Rattle.std.proofs.Common.{◌≡◌, ◌≤◌, ◌<◌, ℕ, suc, ◌+◌, ◌-◌, ◌*◌, ◌/◌, ◌%◌, ◌^◌, arith, refl, Bool, true, false, cond, List, [], ◌∷◌, ◌++◌}
use Rattle.std.specs.Prelude.{Option, Some, None, ◌==◌, ◌&&◌, nat_le}
use Rattle.mips_isa.specs.declared.instr.Instr.{Instr}
use Rattle.mips_isa.specs.declared.instr.Instr.TheVariants as mips
use Rattle.mips_isa.specs.Table.{IsInRange}
use Rattle.mid_blocks.specs.declared.code.MidOp.{MidOp}
use Rattle.mid_blocks.specs.declared.code.MidOp.TheVariants.{Add, Sub, Mul, Div, DivU, Rem, RemU, Shl, Shr, Sar, And, Or, Xor, Lt, LtU, Eq, Ne}
use Rattle.mid_blocks.specs.declared.places.Place.{Place}
use Rattle.mid_blocks.specs.declared.places.Place.TheVariants.{Pair, Slot}
use Rattle.third_law.specs.declared.roles.Stream.{Stream}
use Rattle.third_law.specs.declared.roles.Stream.TheVariants.{First, Second, Third}
use Rattle.third_law.specs.declared.roles.Role.{Role}
use Rattle.third_law.specs.declared.roles.Role.TheVariants.{Value, Stack, Link}
use Rattle.third_law.specs.Roles.{RoleFits, reg_in, off_in, nop, each, vote, product, move, load, store, test}
use Rattle.third_law.specs.Emitted.{slot_offset, source, fetched, brought, target, kept, constant, three, upper, lower, operation, divisor_test, quotient_test, operation_tests, element, load_code, store_code, copy_code, input_code, service_code, result_to}

-- ---- lists

-- Each of some instructions has a word.
abbrev pub Ranged : List Instr → Type 0
Ranged [] = Unit {0}
Ranged (i ∷ is) = IsInRange i × Ranged is

pub ranged_then : (xs ys : List Instr) → Ranged xs → Ranged ys → Ranged (xs ++ ys)
ranged_then [] ys h k = k
ranged_then (x ∷ xs) ys h k = (h.0, ranged_then xs ys h.1 k)

ranged_if : (b : Bool) (xs ys : List Instr) → Ranged xs → Ranged ys → Ranged (cond b xs ys)
ranged_if true xs ys h k = h
ranged_if false xs ys h k = k

-- ---- registers

pub reg_below : (t : Stream) (r : Role) → RoleFits r → reg_in t r < 32
reg_below First (Value k) f = omega arith
reg_below First Stack f = omega arith
reg_below First Link f = omega arith
reg_below Second (Value k) f = omega arith
reg_below Second Stack f = omega arith
reg_below Second Link f = omega arith
reg_below Third (Value k) f = omega arith
reg_below Third Stack f = omega arith
reg_below Third Link f = omega arith

pub half_low : (n : ℕ) → n % 2 ^ 16 < 2 ^ 16
half_low n = omega arith

pub off_below : (t : Stream) (n : ℕ) → n < 2 ^ 16 → off_in t n < 2 ^ 16
off_below First n h = h
off_below Second n h = half_low (n + 4)
off_below Third n h = half_low (n + 8)

pub below : (n d : ℕ) → n < n + suc d
below n d = omega arith

pub zero_reg : 0 < 32
zero_reg = below 0 31

pub one_reg : 1 < 32
one_reg = below 1 30

pub two_reg : 2 < 32
two_reg = below 2 29

pub three_reg : 3 < 32
three_reg = below 3 28

pub nop_ranged : IsInRange nop
nop_ranged = (zero_reg, zero_reg, zero_reg, zero_reg)

pub each_ranged : (f : Stream → Instr) → ((t : Stream) → IsInRange (f t)) → Ranged (each f)
each_ranged f h = (h First, (h Second, (h Third, tt)))

-- an instruction on three registers
pub registers_fit : (a b c : ℕ) → a < 32 → b < 32 → c < 32 → (a < 32) × (b < 32) × (c < 32) × (0 < 32)
registers_fit a b c h k l = (h, k, l, zero_reg)

pub vote_ranged : (r : Role) → RoleFits r → Ranged (vote r)
vote_ranged r f = let a : reg_in First r < 32 = reg_below First r f in let b : reg_in Second r < 32 = reg_below Second r f in let c : reg_in Third r < 32 = reg_below Third r f in
    ((a, b, one_reg, zero_reg), ((a, b, three_reg, zero_reg), ((three_reg, c, three_reg, zero_reg), ((one_reg, three_reg, a, zero_reg), ((a, zero_reg, b, zero_reg), ((a, zero_reg, c, zero_reg), tt))))))

pub load_ranged : (to base : Role) (n : ℕ) → RoleFits to → RoleFits base → n < 2 ^ 16 → Ranged (load to base n)
load_ranged to base n f g h = ranged_then (vote base) (each (λ t. mips.Lw (reg_in t to) (reg_in t base) (off_in t n)) ++ nop ∷ []) (vote_ranged base g)
    (ranged_then (each (λ t. mips.Lw (reg_in t to) (reg_in t base) (off_in t n))) (nop ∷ []) (each_ranged (λ t. mips.Lw (reg_in t to) (reg_in t base) (off_in t n)) (λ t. (reg_below t base g, reg_below t to f, off_below t n h))) (nop_ranged, tt))

pub store_ranged : (from base : Role) (n : ℕ) → RoleFits from → RoleFits base → n < 2 ^ 16 → Ranged (store from base n)
store_ranged from base n f g h = ranged_then (vote from) (vote base ++ each (λ t. mips.Sw (reg_in t from) (reg_in t base) (off_in t n))) (vote_ranged from f)
    (ranged_then (vote base) (each (λ t. mips.Sw (reg_in t from) (reg_in t base) (off_in t n))) (vote_ranged base g)
    (each_ranged (λ t. mips.Sw (reg_in t from) (reg_in t base) (off_in t n)) (λ t. (reg_below t base g, reg_below t from f, off_below t n h))))

pub test_ranged : (r : Role) (code : ℕ) → RoleFits r → code < 2 ^ 20 → Ranged (test r code)
test_ranged r code f h = ranged_then (vote r) (mips.Bne (reg_in First r) 0 2 ∷ nop ∷ mips.Break code ∷ []) (vote_ranged r f) ((reg_below First r f, zero_reg, below 2 65533), (nop_ranged, (h, tt)))

pub move_ranged : (to from : Role) → RoleFits to → RoleFits from → Ranged (move to from)
move_ranged to from f g = each_ranged (λ t. mips.Addu (reg_in t to) (reg_in t from) 0) (λ t. (reg_below t from g, zero_reg, reg_below t to f, zero_reg))

-- ---- places

-- A place whose registers exist and whose offsets fit.
abbrev pub Small : Place → Type 0
Small (Pair k) = k ≤ 3
Small (Slot s) = s ≤ 2000

pub pair_fits : (k : ℕ) → k ≤ 3 → k + 2 ≤ 5
pair_fits k h = omega arith

pub offset_fits : (s : ℕ) → s ≤ 2000 → 16 * (s + 1) < 2 ^ 16
offset_fits s h = omega arith

pub value_fits : (k : ℕ) → k ≤ 1 → k ≤ 5
value_fits k h = omega arith

pub le_self : (n d : ℕ) → n ≤ n + d
le_self n d = omega arith

pub source_fits : (pl : Place) (s : ℕ) → Small pl → s ≤ 1 → RoleFits (source pl s)
source_fits (Pair k) s h l = pair_fits k h
source_fits (Slot n) s h l = value_fits s l

pub target_fits : (pl : Place) → Small pl → RoleFits (target pl)
target_fits (Pair k) h = pair_fits k h
target_fits (Slot n) h = le_self 0 5

pub fetched_ranged : (pl : Place) (s : ℕ) → Small pl → s ≤ 1 → Ranged (fetched pl s)
fetched_ranged (Pair k) s h l = tt
fetched_ranged (Slot n) s h l = load_ranged (Value s) Stack (slot_offset n) (value_fits s l) tt (offset_fits n h)

pub brought_ranged : (pl : Place) (to : Role) → Small pl → RoleFits to → Ranged (brought pl to)
brought_ranged (Pair k) to h f = move_ranged to (Value (k + 2)) f (pair_fits k h)
brought_ranged (Slot n) to h f = load_ranged to Stack (slot_offset n) f tt (offset_fits n h)

pub kept_ranged : (pl : Place) → Small pl → Ranged (kept pl)
kept_ranged (Pair k) h = tt
kept_ranged (Slot n) h = store_ranged (Value 0) Stack (slot_offset n) (le_self 0 5) tt (offset_fits n h)

pub result_ranged : (pl : Place) → Small pl → Ranged (result_to pl)
result_ranged (Pair k) h = move_ranged (Value (k + 2)) (Value 0) (pair_fits k h) (le_self 0 5)
result_ranged (Slot n) h = store_ranged (Value 0) Stack (slot_offset n) (le_self 0 5) tt (offset_fits n h)

-- ---- constants

half_below : (w : ℕ) → w < 2 ^ 32 → w / 2 ^ 16 < 2 ^ 16
half_below w h = omega arith

is_half : (w : ℕ) → (w / 2 ^ 16 == 0) ≡ true → w < 2 ^ 16
is_half w h = grind arith

constant_by : (b c d : Bool) (to : Role) (w : ℕ) → RoleFits to → w < 2 ^ 32 → (b ≡ true → w < 2 ^ 16) → Ranged (cond b (each (λ t. mips.Ori (reg_in t to) 0 w)) (
    cond c (each (λ t. mips.Lui (reg_in t to) (w / 2 ^ 16))) (
    cond d (each (λ t. mips.Addiu (reg_in t to) 0 (w % 2 ^ 16)))
    (each (λ t. mips.Lui (reg_in t to) (w / 2 ^ 16)) ++ each (λ t. mips.Ori (reg_in t to) (reg_in t to) (w % 2 ^ 16))))))
constant_by true c d to w f h k = each_ranged (λ t. mips.Ori (reg_in t to) 0 w) (λ t. (zero_reg, reg_below t to f, k refl))
constant_by false true d to w f h k = each_ranged (λ t. mips.Lui (reg_in t to) (w / 2 ^ 16)) (λ t. (zero_reg, reg_below t to f, half_below w h))
constant_by false false true to w f h k = each_ranged (λ t. mips.Addiu (reg_in t to) 0 (w % 2 ^ 16)) (λ t. (zero_reg, reg_below t to f, half_low w))
constant_by false false false to w f h k =
    ranged_then (each (λ t. mips.Lui (reg_in t to) (w / 2 ^ 16))) (each (λ t. mips.Ori (reg_in t to) (reg_in t to) (w % 2 ^ 16)))
    (each_ranged (λ t. mips.Lui (reg_in t to) (w / 2 ^ 16)) (λ t. (zero_reg, reg_below t to f, half_below w h)))
    (each_ranged (λ t. mips.Ori (reg_in t to) (reg_in t to) (w % 2 ^ 16)) (λ t. (reg_below t to f, reg_below t to f, half_low w)))

pub constant_ranged : (to : Role) (w : ℕ) → RoleFits to → w < 2 ^ 32 → Ranged (constant to w)
constant_ranged to w f h = constant_by (w / 2 ^ 16 == 0) (w % 2 ^ 16 == 0) (w / 2 ^ 16 == 2 ^ 16 - 1 && nat_le (2 ^ 15) (w % 2 ^ 16)) to w f h (is_half w)

-- ---- operations

three_ranged : (f : ℕ → ℕ → ℕ → Instr) (to a b : Role) → ((x y z : ℕ) → x < 32 → y < 32 → z < 32 → IsInRange (f x y z)) → RoleFits to → RoleFits a → RoleFits b → Ranged (three f to a b)
three_ranged f to a b h l m n = each_ranged (λ t. f (reg_in t to) (reg_in t a) (reg_in t b)) (λ t. h (reg_in t to) (reg_in t a) (reg_in t b) (reg_below t to l) (reg_below t a m) (reg_below t b n))

-- a product and its move
product_ranged : (f g : Stream → Instr) → ((t : Stream) → IsInRange (f t)) → ((t : Stream) → IsInRange (g t)) → Ranged (product f g)
product_ranged f g h k = (h First, (k First, (nop_ranged, (nop_ranged, (h Second, (k Second, (nop_ranged, (nop_ranged, (h Third, (k Third, (nop_ranged, (nop_ranged, tt))))))))))))

pub operation_ranged : (op : MidOp) (to a b : Role) → RoleFits to → RoleFits a → RoleFits b → Ranged (operation op to a b)
operation_ranged Add to a b l m n = three_ranged mips.Addu to a b (λ x y z h k e. (k, e, h, zero_reg)) l m n
operation_ranged Sub to a b l m n = three_ranged mips.Subu to a b (λ x y z h k e. (k, e, h, zero_reg)) l m n
operation_ranged Mul to a b l m n = product_ranged (λ t. mips.Mult (reg_in t a) (reg_in t b)) (λ t. mips.Mflo (reg_in t to)) (λ t. (reg_below t a m, reg_below t b n, zero_reg, zero_reg)) (λ t. (zero_reg, zero_reg, reg_below t to l, zero_reg))
operation_ranged Div to a b l m n = product_ranged (λ t. mips.Div (reg_in t a) (reg_in t b)) (λ t. mips.Mflo (reg_in t to)) (λ t. (reg_below t a m, reg_below t b n, zero_reg, zero_reg)) (λ t. (zero_reg, zero_reg, reg_below t to l, zero_reg))
operation_ranged DivU to a b l m n = product_ranged (λ t. mips.Divu (reg_in t a) (reg_in t b)) (λ t. mips.Mflo (reg_in t to)) (λ t. (reg_below t a m, reg_below t b n, zero_reg, zero_reg)) (λ t. (zero_reg, zero_reg, reg_below t to l, zero_reg))
operation_ranged Rem to a b l m n = product_ranged (λ t. mips.Div (reg_in t a) (reg_in t b)) (λ t. mips.Mfhi (reg_in t to)) (λ t. (reg_below t a m, reg_below t b n, zero_reg, zero_reg)) (λ t. (zero_reg, zero_reg, reg_below t to l, zero_reg))
operation_ranged RemU to a b l m n = product_ranged (λ t. mips.Divu (reg_in t a) (reg_in t b)) (λ t. mips.Mfhi (reg_in t to)) (λ t. (reg_below t a m, reg_below t b n, zero_reg, zero_reg)) (λ t. (zero_reg, zero_reg, reg_below t to l, zero_reg))
operation_ranged Shl to a b l m n = three_ranged mips.Sllv to a b (λ x y z h k e. (e, k, h, zero_reg)) l m n
operation_ranged Shr to a b l m n = three_ranged mips.Srlv to a b (λ x y z h k e. (e, k, h, zero_reg)) l m n
operation_ranged Sar to a b l m n = three_ranged mips.Srav to a b (λ x y z h k e. (e, k, h, zero_reg)) l m n
operation_ranged And to a b l m n = three_ranged mips.And to a b (λ x y z h k e. (k, e, h, zero_reg)) l m n
operation_ranged Or to a b l m n = three_ranged mips.Or to a b (λ x y z h k e. (k, e, h, zero_reg)) l m n
operation_ranged Xor to a b l m n = three_ranged mips.Xor to a b (λ x y z h k e. (k, e, h, zero_reg)) l m n
operation_ranged Lt to a b l m n = three_ranged mips.Slt to a b (λ x y z h k e. (k, e, h, zero_reg)) l m n
operation_ranged LtU to a b l m n = three_ranged mips.Sltu to a b (λ x y z h k e. (k, e, h, zero_reg)) l m n
operation_ranged Eq to a b l m n = ranged_then (three mips.Xor to a b) (each (λ t. mips.Sltiu (reg_in t to) (reg_in t to) 1)) (three_ranged mips.Xor to a b (λ x y z h k e. (k, e, h, zero_reg)) l m n)
    (each_ranged (λ t. mips.Sltiu (reg_in t to) (reg_in t to) 1) (λ t. (reg_below t to l, reg_below t to l, below 1 65534)))
operation_ranged Ne to a b l m n = ranged_then (three mips.Xor to a b) (each (λ t. mips.Sltu (reg_in t to) 0 (reg_in t to))) (three_ranged mips.Xor to a b (λ x y z h k e. (k, e, h, zero_reg)) l m n)
    (each_ranged (λ t. mips.Sltu (reg_in t to) 0 (reg_in t to)) (λ t. (zero_reg, reg_below t to l, reg_below t to l, zero_reg)))

pub zero_value : 0 ≤ 5
zero_value = le_self 0 5

pub one_value : 1 ≤ 5
one_value = le_self 1 4

pub zero_scratch : 0 ≤ 1
zero_scratch = le_self 0 1

pub one_scratch : 1 ≤ 1
one_scratch = le_self 1 0

divisor_ranged : (right : Place) → Small right → Ranged (divisor_test right)
divisor_ranged right h = ranged_then (fetched right 1) (test (source right 1) 7) (fetched_ranged right 1 h one_scratch) (test_ranged (source right 1) 7 (source_fits right 1 h one_scratch) (below 7 1048568))

pub upper_ranged : (to : Role) (n : ℕ) → RoleFits to → n < 2 ^ 16 → Ranged (each (λ t. mips.Lui (reg_in t to) n))
upper_ranged to n f h = each_ranged (λ t. mips.Lui (reg_in t to) n) (λ t. (zero_reg, reg_below t to f, h))

quotient_ranged : (left right : Place) → Small left → Small right → Ranged (quotient_test left right)
quotient_ranged left right h k =
    ranged_then (each (λ t. mips.Lui (reg_in t (Value 0)) (2 ^ 15))) (fetched left 1 ++ (three mips.Xor (Value 0) (Value 0) (source left 1) ++ (fetched right 1 ++ (each (λ t. mips.Nor (reg_in t (Value 1)) (reg_in t (source right 1)) 0) ++ (three mips.Or (Value 0) (Value 0) (Value 1) ++ test (Value 0) 6)))))
    (upper_ranged (Value 0) (2 ^ 15) zero_value (below 32768 32767))
    (ranged_then (fetched left 1) (three mips.Xor (Value 0) (Value 0) (source left 1) ++ (fetched right 1 ++ (each (λ t. mips.Nor (reg_in t (Value 1)) (reg_in t (source right 1)) 0) ++ (three mips.Or (Value 0) (Value 0) (Value 1) ++ test (Value 0) 6))))
    (fetched_ranged left 1 h one_scratch)
    (ranged_then (three mips.Xor (Value 0) (Value 0) (source left 1)) (fetched right 1 ++ (each (λ t. mips.Nor (reg_in t (Value 1)) (reg_in t (source right 1)) 0) ++ (three mips.Or (Value 0) (Value 0) (Value 1) ++ test (Value 0) 6)))
    (operation_ranged Xor (Value 0) (Value 0) (source left 1) zero_value zero_value (source_fits left 1 h one_scratch))
    (ranged_then (fetched right 1) (each (λ t. mips.Nor (reg_in t (Value 1)) (reg_in t (source right 1)) 0) ++ (three mips.Or (Value 0) (Value 0) (Value 1) ++ test (Value 0) 6))
    (fetched_ranged right 1 k one_scratch)
    (ranged_then (each (λ t. mips.Nor (reg_in t (Value 1)) (reg_in t (source right 1)) 0)) (three mips.Or (Value 0) (Value 0) (Value 1) ++ test (Value 0) 6)
    (each_ranged (λ t. mips.Nor (reg_in t (Value 1)) (reg_in t (source right 1)) 0) (λ t. (reg_below t (source right 1) (source_fits right 1 k one_scratch), zero_reg, reg_below t (Value 1) one_value, zero_reg)))
    (ranged_then (three mips.Or (Value 0) (Value 0) (Value 1)) (test (Value 0) 6) (operation_ranged Or (Value 0) (Value 0) (Value 1) zero_value zero_value one_value) (test_ranged (Value 0) 6 zero_value (below 6 1048569)))))))

pub tests_ranged : (op : MidOp) (left right : Place) → Small left → Small right → Ranged (operation_tests op left right)
tests_ranged Add left right h k = tt
tests_ranged Sub left right h k = tt
tests_ranged Mul left right h k = tt
tests_ranged Div left right h k = ranged_then (divisor_test right) (quotient_test left right) (divisor_ranged right k) (quotient_ranged left right h k)
tests_ranged DivU left right h k = divisor_ranged right k
tests_ranged Rem left right h k = ranged_then (divisor_test right) (quotient_test left right) (divisor_ranged right k) (quotient_ranged left right h k)
tests_ranged RemU left right h k = divisor_ranged right k
tests_ranged Shl left right h k = tt
tests_ranged Shr left right h k = tt
tests_ranged Sar left right h k = tt
tests_ranged And left right h k = tt
tests_ranged Or left right h k = tt
tests_ranged Xor left right h k = tt
tests_ranged Lt left right h k = tt
tests_ranged LtU left right h k = tt
tests_ranged Eq left right h k = tt
tests_ranged Ne left right h k = tt

-- ---- steps

upper_below : (a : ℕ) → a < 2 ^ 31 → (a + 2 ^ 15) / 2 ^ 16 < 2 ^ 16
upper_below a h = omega arith

element_ranged : (to by : ℕ) (index : Place) (address : ℕ) → to ≤ 1 → by ≤ 1 → Small index → address < 2 ^ 31 → Ranged (element to by index address)
element_ranged to by index address l m h a =
    ranged_then (fetched index to) (each (λ t. mips.Sll (reg_in t (Value to)) (reg_in t (source index to)) 4) ++ (each (λ t. mips.Lui (reg_in t (Value by)) (upper address)) ++ three mips.Addu (Value to) (Value to) (Value by)))
    (fetched_ranged index to h l)
    (ranged_then (each (λ t. mips.Sll (reg_in t (Value to)) (reg_in t (source index to)) 4)) (each (λ t. mips.Lui (reg_in t (Value by)) (upper address)) ++ three mips.Addu (Value to) (Value to) (Value by))
    (each_ranged (λ t. mips.Sll (reg_in t (Value to)) (reg_in t (source index to)) 4) (λ t. (zero_reg, reg_below t (source index to) (source_fits index to h l), reg_below t (Value to) (value_fits to l), below 4 27)))
    (ranged_then (each (λ t. mips.Lui (reg_in t (Value by)) (upper address))) (three mips.Addu (Value to) (Value to) (Value by)) (upper_ranged (Value by) (upper address) (value_fits by m) (upper_below address a))
    (operation_ranged Add (Value to) (Value to) (Value by) (value_fits to l) (value_fits to l) (value_fits by m))))

abbrev pub SmallIf : Option Place → Type 0
SmallIf None = Unit {0}
SmallIf (Some p) = Small p

pub load_code_ranged : (to : Place) (index : Option Place) (address : ℕ) → Small to → SmallIf index → address < 2 ^ 31 → Ranged (load_code to index address)
load_code_ranged to None address h k a =
    ranged_then (each (λ t. mips.Lui (reg_in t (target to)) (upper address))) (load (target to) (target to) (lower address) ++ kept to) (upper_ranged (target to) (upper address) (target_fits to h) (upper_below address a))
    (ranged_then (load (target to) (target to) (lower address)) (kept to) (load_ranged (target to) (target to) (lower address) (target_fits to h) (target_fits to h) (half_low address)) (kept_ranged to h))
load_code_ranged to (Some index) address h k a =
    ranged_then (element 0 1 index address) (load (target to) (Value 0) (lower address) ++ kept to) (element_ranged 0 1 index address zero_scratch one_scratch k a)
    (ranged_then (load (target to) (Value 0) (lower address)) (kept to) (load_ranged (target to) (Value 0) (lower address) (target_fits to h) zero_value (half_low address)) (kept_ranged to h))

stored_ranged : (from : Place) (n : ℕ) → Small from → n < 2 ^ 16 → Ranged (fetched from 0 ++ store (source from 0) (Value 1) n)
stored_ranged from n h k = ranged_then (fetched from 0) (store (source from 0) (Value 1) n) (fetched_ranged from 0 h zero_scratch) (store_ranged (source from 0) (Value 1) n (source_fits from 0 h zero_scratch) one_value k)

pub store_code_ranged : (index : Option Place) (from : Place) (address : ℕ) → SmallIf index → Small from → address < 2 ^ 31 → Ranged (store_code index from address)
store_code_ranged None from address k h a =
    ranged_then (each (λ t. mips.Lui (reg_in t (Value 1)) (upper address))) (fetched from 0 ++ store (source from 0) (Value 1) (lower address)) (upper_ranged (Value 1) (upper address) one_value (upper_below address a)) (stored_ranged from (lower address) h (half_low address))
store_code_ranged (Some index) from address k h a =
    ranged_then (element 1 0 index address) (fetched from 0 ++ store (source from 0) (Value 1) (lower address)) (element_ranged 1 0 index address one_scratch zero_scratch k a) (stored_ranged from (lower address) h (half_low address))

pub copy_ranged : (to from : Place) → Small to → Small from → Ranged (copy_code to from)
copy_ranged (Pair k) from h l = brought_ranged from (Value (k + 2)) l (pair_fits k h)
copy_ranged (Slot s) from h l = ranged_then (fetched from 0) (store (source from 0) Stack (slot_offset s)) (fetched_ranged from 0 l zero_scratch) (store_ranged (source from 0) Stack (slot_offset s) (source_fits from 0 l zero_scratch) tt (offset_fits s h))

pub service_ranged : (n : ℕ) → n < 2 ^ 16 → Ranged (service_code n)
service_ranged n h = ranged_then (vote (Value 0)) (mips.Ori 2 0 n ∷ mips.Syscall ∷ []) (vote_ranged (Value 0) zero_value) ((zero_reg, two_reg, h), (below 0 1048575, tt))

pub input_ranged : (r : Role) → RoleFits r → Ranged (input_code r)
input_ranged r f = ((zero_reg, two_reg, below 5 65530), (below 0 1048575, each_ranged (λ t. mips.Addu (reg_in t r) 2 0) (λ t. (two_reg, zero_reg, reg_below t r f, zero_reg))))
