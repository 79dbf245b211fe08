-- Each instruction of each line, of each block and of the program has a word.
use Rattle.std.proofs.Common.{◌≡◌, ◌≤◌, ◌<◌, ℕ, zero, suc, ◌+◌, ◌-◌, ◌*◌, ◌/◌, ◌%◌, ◌^◌, arith, ap, refl, sym, ◌∙◌, subst, Bool, true, false, cond, List, [], ◌∷◌, ◌++◌, length, map, sum, take, drop, flat_map, inl, inr}
use Rattle.std.specs.Prelude.{Option, Some, None, All, slice_get, slice_index_or, get_or, nat_lt, if◌then◌else◌}
use Rattle.std.proofs.lemmas.List.Concat.{flat_map-cons}
use Rattle.std.proofs.lemmas.List.Sums.{sum_by-cons}
use Rattle.std.proofs.lemmas.Option.{get_or_from_slice_get, slice_get_cases, slice_get_within, unwrap_or-slice_get}
use Rattle.std.specs.Option.{unwrap_or}
use Rattle.mips_isa.specs.declared.instr.Instr.{Instr}
use Rattle.mips_isa.specs.declared.instr.Instr.TheVariants as mips
use Rattle.mips_isa.specs.Table.{IsInRange}
use Rattle.mid_blocks.specs.declared.code.MidStep.{MidStep}
use Rattle.mid_blocks.specs.declared.code.MidStep.TheVariants.{Constant, Copy, Operate, Guard, Load, Store, Input, Output, Deep}
use Rattle.mid_blocks.specs.declared.code.MidEnd.{MidEnd}
use Rattle.mid_blocks.specs.declared.code.MidEnd.TheVariants.{Jump, Branch, Call, Return}
use Rattle.mid_blocks.specs.declared.code.MidBlock.{MidBlock}
use Rattle.mid_blocks.specs.declared.code.MidFunction.{MidFunction}
use Rattle.mid_blocks.specs.declared.code.Mid.{Mid}
use Rattle.mid_blocks.specs.declared.places.Place.{Place}
use Rattle.mid_blocks.specs.declared.places.Place.TheVariants.{Pair, Slot}
use Rattle.mid_blocks.specs.declared.places.Places.{Places}
use Rattle.mid_blocks.specs.Liveness.{own_slot}
use Rattle.mid_blocks.specs.Valid.{ValidFunction}
use Rattle.frame_plan.specs.Frames.{global_cell, global_length, cells}
use Rattle.third_law.specs.declared.roles.Stream.TheVariants.{First}
use Rattle.third_law.specs.declared.roles.Role.{Role}
use Rattle.third_law.specs.declared.roles.Role.TheVariants.{Value, Stack, Link}
use Rattle.third_law.specs.Roles.{RoleFits, reg_in, nop, each, vote, load, store, test}
use Rattle.third_law.specs.Emitted.{place_of, source, fetched, brought, target, kept, constant, operation, operation_tests, optional_place, input_code, service_code, step_code, call_code, jump_code, argument_code, returned_code, branch_code, end_code, enter_code, parameter_load, parameter_code}
use Rattle.third_law.specs.Program.{cell_address, first_block, behind_end, behind_block, start_code, body_code, function_code, functions_code, code_at}
use Rattle.third_law.specs.Law.{FitsThree, Triples, InRangeInThree}
use Rattle.third_law.proofs.Ranges.{Ranged, ranged_then, reg_below, each_ranged, below, le_self, half_low, nop_ranged, zero_reg, vote_ranged, load_ranged, store_ranged, test_ranged, Small, SmallIf, pair_fits, source_fits, target_fits, fetched_ranged, brought_ranged, kept_ranged, result_ranged, constant_ranged, operation_ranged, tests_ranged, upper_ranged, load_code_ranged, store_code_ranged, copy_ranged, service_ranged, input_ranged, zero_value, zero_scratch, one_scratch}

-- ---- steps

-- What the lines of a function ask.
record Fine (address size : ℕ → ℕ) (places : Places) : Type 0 where
  small : (v : ℕ) → Small (place_of places v)
  low : (g : ℕ) → address g < 2 ^ 31
  short : (g : ℕ) → size g < 2 ^ 16

optional_small : (places : Places) → ((v : ℕ) → Small (place_of places v)) → (o : Option ℕ) → SmallIf (optional_place places o)
optional_small places h None = tt
optional_small places h (Some v) = h v

step_ranged : (address size : ℕ → ℕ) (places : Places) (s : MidStep) → Fine address size places → ((to w : ℕ) → s ≡ Constant to w → w < 2 ^ 32) → Ranged (step_code address size places s)
step_ranged address size places (Constant to word) x c =
    ranged_then (constant (target (place_of places to)) word) (kept (place_of places to)) (constant_ranged (target (place_of places to)) word (target_fits (place_of places to) (x.small to)) (c to word refl)) (kept_ranged (place_of places to) (x.small to))
step_ranged address size places (Copy to from) x c = copy_ranged (place_of places to) (place_of places from) (x.small to) (x.small from)
step_ranged address size places (Operate op to left right) x c =
    let l : Place = place_of places left in
    let r : Place = place_of places right in
    let t : Place = place_of places to in
    let e : List Instr = operation op (target t) (source l 0) (source r 1) in
    ranged_then (operation_tests op l r) (fetched l 0 ++ (fetched r 1 ++ (e ++ kept t))) (tests_ranged op l r (x.small left) (x.small right))
    (ranged_then (fetched l 0) (fetched r 1 ++ (e ++ kept t)) (fetched_ranged l 0 (x.small left) zero_scratch)
    (ranged_then (fetched r 1) (e ++ kept t) (fetched_ranged r 1 (x.small right) one_scratch)
    (ranged_then e (kept t) (operation_ranged op (target t) (source l 0) (source r 1) (target_fits t (x.small to)) (source_fits l 0 (x.small left) zero_scratch) (source_fits r 1 (x.small right) one_scratch)) (kept_ranged t (x.small to)))))
step_ranged address size places (Guard global index) x c =
    let l : Place = place_of places index in
    ranged_then (fetched l 0) (each (λ t. mips.Sltiu (reg_in t (Value 0)) (reg_in t (source l 0)) (size global)) ++ test (Value 0) 8) (fetched_ranged l 0 (x.small index) zero_scratch)
    (ranged_then (each (λ t. mips.Sltiu (reg_in t (Value 0)) (reg_in t (source l 0)) (size global))) (test (Value 0) 8)
    (each_ranged (λ t. mips.Sltiu (reg_in t (Value 0)) (reg_in t (source l 0)) (size global)) (λ t. (reg_below t (source l 0) (source_fits l 0 (x.small index) zero_scratch), reg_below t (Value 0) zero_value, x.short global)))
    (test_ranged (Value 0) 8 zero_value (below 8 1048567)))
step_ranged address size places (Load to global index) x c = load_code_ranged (place_of places to) (optional_place places index) (address global) (x.small to) (optional_small places x.small index) (x.low global)
step_ranged address size places (Store global index from) x c = store_code_ranged (optional_place places index) (place_of places from) (address global) (optional_small places x.small index) (x.small from) (x.low global)
step_ranged address size places (Input to) x c = ranged_then (input_code (target (place_of places to))) (kept (place_of places to)) (input_ranged (target (place_of places to)) (target_fits (place_of places to) (x.small to))) (kept_ranged (place_of places to) (x.small to))
step_ranged address size places (Output from) x c = ranged_then (brought (place_of places from) (Value 0)) (service_code 1) (brought_ranged (place_of places from) (Value 0) (x.small from) zero_value) (service_ranged 1 (below 1 65534))
step_ranged address size places (Deep v) x c =
    ranged_then (fetched (place_of places v) 0) (test (source (place_of places v) 0) 9) (fetched_ranged (place_of places v) 0 (x.small v) zero_scratch) (test_ranged (source (place_of places v) 0) 9 (source_fits (place_of places v) 0 (x.small v) zero_scratch) (below 9 1048566))

steps_ranged : (address size : ℕ → ℕ) (places : Places) (ss : List MidStep) → Fine address size places → ((j to w : ℕ) → slice_get ss j ≡ Some (Constant to w) → w < 2 ^ 32) → Ranged (flat_map (step_code address size places) ss)
steps_ranged address size places [] x c = tt
steps_ranged address size places (s ∷ ss) x c =
    subst Ranged (sym (flat_map-cons (step_code address size places) s ss))
    (ranged_then (step_code address size places s) (flat_map (step_code address size places) ss) (step_ranged address size places s x (λ to w e. c 0 to w (ap (λ (z : MidStep). Some z) e))) (steps_ranged address size places ss x (λ j to w e. c (suc j) to w e)))

-- ---- ends

aim_below : (a : ℕ) → a < 2 ^ 28 → a / 4 < 2 ^ 26
aim_below a h = omega arith

high_below : (a : ℕ) → a < 2 ^ 28 → a / 2 ^ 16 < 2 ^ 16
high_below a h = omega arith

call_ranged : (to back : ℕ) → to < 2 ^ 28 → back < 2 ^ 28 → Ranged (call_code to back)
call_ranged to back h k = ((zero_reg, below 25 6, high_below back k), ((below 25 6, below 25 6, half_low back), ((zero_reg, below 24 7, high_below back k), ((below 24 7, below 24 7, half_low back), (aim_below to h, (nop_ranged, tt))))))

jump_ranged : (to : ℕ) → to < 2 ^ 28 → Ranged (jump_code to)
jump_ranged to h = (aim_below to h, (nop_ranged, tt))

branch_ranged : (when : Bool) (r : Role) (to : ℕ) → RoleFits r → to < 2 ^ 28 → Ranged (branch_code when r to)
branch_ranged true r to f h = ranged_then (vote r) (mips.Beq (reg_in First r) 0 3 ∷ nop ∷ jump_code to) (vote_ranged r f) ((reg_below First r f, zero_reg, below 3 65532), (nop_ranged, jump_ranged to h))
branch_ranged false r to f h = ranged_then (vote r) (mips.Bne (reg_in First r) 0 3 ∷ nop ∷ jump_code to) (vote_ranged r f) ((reg_below First r f, zero_reg, below 3 65532), (nop_ranged, jump_ranged to h))

down_below : (i : ℕ) → 2 ^ 16 - 16 * (i + 1) < 2 ^ 16
down_below i = omega arith

arguments_ranged : (places : Places) → ((v : ℕ) → Small (place_of places v)) → (i : ℕ) (vs : List ℕ) → Ranged (argument_code places i vs)
arguments_ranged places x i [] = tt
arguments_ranged places x i (v ∷ vs) =
    ranged_then (fetched (place_of places v) 0) (store (source (place_of places v) 0) Stack (2 ^ 16 - 16 * (i + 1)) ++ argument_code places (i + 1) vs) (fetched_ranged (place_of places v) 0 (x v) zero_scratch)
    (ranged_then (store (source (place_of places v) 0) Stack (2 ^ 16 - 16 * (i + 1))) (argument_code places (i + 1) vs) (store_ranged (source (place_of places v) 0) Stack (2 ^ 16 - 16 * (i + 1)) (source_fits (place_of places v) 0 (x v) zero_scratch) tt (down_below i)) (arguments_ranged places x (i + 1) vs))

returned_ranged : (places : Places) → ((v : ℕ) → Small (place_of places v)) → (from : Option ℕ) → Ranged (returned_code places from)
returned_ranged places x None = each_ranged (λ t. mips.Addu (reg_in t (Value 0)) 0 0) (λ t. (zero_reg, zero_reg, reg_below t (Value 0) zero_value, zero_reg))
returned_ranged places x (Some v) = brought_ranged (place_of places v) (Value 0) (x v) zero_value

sum_ranged : (n : ℕ) → n < 2 ^ 16 → Ranged (each (λ t. mips.Addiu (reg_in t Stack) (reg_in t Stack) n))
sum_ranged n h = each_ranged (λ t. mips.Addiu (reg_in t Stack) (reg_in t Stack) n) (λ t. (reg_below t Stack tt, reg_below t Stack tt, h))

frame_below : (p : ℕ) → p ≤ 2002 → 16 * p < 2 ^ 16
frame_below p h = omega arith

end_ranged : (at entry : ℕ → ℕ) (own first pairs : ℕ) (places : Places) (e : MidEnd) → ((b : ℕ) → at b < 2 ^ 28) → ((v : ℕ) → Small (place_of places v)) → pairs ≤ 2002 → Ranged (end_code at entry own first pairs places e)
end_ranged at entry own first pairs places (Jump to) l x p = jump_ranged (at (first + to)) (l (first + to))
end_ranged at entry own first pairs places (Branch v when to) l x p =
    ranged_then (fetched (place_of places v) 0) (branch_code when (source (place_of places v) 0) (at (first + to))) (fetched_ranged (place_of places v) 0 (x v) zero_scratch)
    (branch_ranged when (source (place_of places v) 0) (at (first + to)) (source_fits (place_of places v) 0 (x v) zero_scratch) (l (first + to)))
end_ranged at entry own first pairs places (Call function args result) l x p =
    ranged_then (argument_code places 0 args) (call_code (at (entry function)) (at (own + 1))) (arguments_ranged places x 0 args) (call_ranged (at (entry function)) (at (own + 1)) (l (entry function)) (l (own + 1)))
end_ranged at entry own first pairs places (Return from) l x p =
    let j : List Instr = vote Link ++ mips.Jr 31 ∷ nop ∷ [] in
    let a : List Instr = each (λ t. mips.Addiu (reg_in t Stack) (reg_in t Stack) (16 * pairs)) in
    ranged_then (returned_code places from) (load Link Stack 0 ++ (a ++ j)) (returned_ranged places x from)
    (ranged_then (load Link Stack 0) (a ++ j) (load_ranged Link Stack 0 tt tt (below 0 65535))
    (ranged_then a j (sum_ranged (16 * pairs) (frame_below pairs p))
    (ranged_then (vote Link) (mips.Jr 31 ∷ nop ∷ []) (vote_ranged Link tt) ((below 31 0, zero_reg, zero_reg, zero_reg), (nop_ranged, tt)))))

-- ---- starts

up_below : (p i : ℕ) → p ≤ 2002 → 16 * (p - (i + 1)) < 2 ^ 16
up_below p i h = omega arith

parameters_ranged : (places : Places) → ((v : ℕ) → Small (place_of places v)) → (pairs i n : ℕ) → pairs ≤ 2002 → Ranged (parameter_code places pairs i n)
parameters_ranged places x pairs i zero p = tt
parameters_ranged places x pairs i (suc n) p = ranged_then (parameter_load (place_of places i) pairs i) (parameter_code places pairs (i + 1) n) (one (place_of places i) (x i)) (parameters_ranged places x pairs (i + 1) n p)
  where
    one : (pl : Place) → Small pl → Ranged (parameter_load pl pairs i)
    one (Pair k) h = load_ranged (Value (k + 2)) Stack (16 * (pairs - (i + 1))) (pair_fits k h) tt (up_below pairs i p)
    one (Slot s) h = tt

enter_below : (p : ℕ) → 1 ≤ p → 2 ^ 16 - 16 * p < 2 ^ 16
enter_below p h = omega arith

enter_ranged : (places : Places) → ((v : ℕ) → Small (place_of places v)) → (pairs params : ℕ) → 1 ≤ pairs → pairs ≤ 2002 → Ranged (enter_code places pairs params)
enter_ranged places x pairs params o p =
    ranged_then (each (λ t. mips.Addiu (reg_in t Stack) (reg_in t Stack) (2 ^ 16 - 16 * pairs))) (store Link Stack 0 ++ parameter_code places pairs 0 params) (sum_ranged (2 ^ 16 - 16 * pairs) (enter_below pairs o))
    (ranged_then (store Link Stack 0) (parameter_code places pairs 0 params) (store_ranged Link Stack 0 tt tt (below 0 65535)) (parameters_ranged places x pairs 0 params p))

behind_ranged : (places : Places) → ((v : ℕ) → Small (place_of places v)) → (e : MidEnd) → Ranged (behind_end places e)
behind_ranged places x (Jump to) = tt
behind_ranged places x (Branch v when to) = tt
behind_ranged places x (Call function args None) = tt
behind_ranged places x (Call function args (Some v)) = result_ranged (place_of places v) (x v)
behind_ranged places x (Return from) = tt

start_ranged : (f : MidFunction) (places : Places) → ((v : ℕ) → Small (place_of places v)) → 1 ≤ f.pairs → f.pairs ≤ 2002 → (b : ℕ) → Ranged (start_code f places b)
start_ranged f places x o p zero = enter_ranged places x f.pairs f.params o p
start_ranged f places x o p (suc b) = by (slice_get f.blocks b)
  where
    by : (k : Option MidBlock) → Ranged (behind_block places k)
    by None = tt
    by (Some k) = behind_ranged places x k.end

-- ---- blocks, functions, programs

abbrev AllRanged : List (List Instr) → Type 0
AllRanged [] = Unit {0}
AllRanged (k ∷ ks) = Ranged k × AllRanged ks

all_then : (xs ys : List (List Instr)) → AllRanged xs → AllRanged ys → AllRanged (xs ++ ys)
all_then [] ys h k = k
all_then (x ∷ xs) ys h k = (h.0, all_then xs ys h.1 k)

abbrev Constants : List MidBlock → Type 0
Constants ks = (b j to w : ℕ) (k : MidBlock) → slice_get ks b ≡ Some k → slice_get k.steps j ≡ Some (Constant to w) → w < 2 ^ 32

-- What a function asks.
record FineFunction (mid : Mid) (f : MidFunction) (places : Places) : Type 0 where
  fine : Fine (λ g. cell_address (global_cell mid g)) (global_length mid) places
  some : 1 ≤ f.pairs
  few : f.pairs ≤ 2002
  constants : Constants f.blocks

blocks_ranged : (at : ℕ → ℕ) (mid : Mid) (n : ℕ) (f : MidFunction) (places : Places) → ((b : ℕ) → at b < 2 ^ 28) → FineFunction mid f places → (b : ℕ) (ks : List MidBlock) → Constants ks → AllRanged (function_code at mid n b f places ks)
blocks_ranged at mid n f places l x b [] c = tt
blocks_ranged at mid n f places l x b (k ∷ ks) c = (
  ranged_then (start_code f places b) (body_code at mid n b f places k) (start_ranged f places x.fine.small x.some x.few b)
      (ranged_then (flat_map (step_code (λ g. cell_address (global_cell mid g)) (global_length mid) places) k.steps) (end_code at (first_block mid) (first_block mid n + b) (first_block mid n) f.pairs places k.end)
      (steps_ranged (λ g. cell_address (global_cell mid g)) (global_length mid) places k.steps x.fine (λ j to w e. c 0 j to w k refl e))
      (end_ranged at (first_block mid) (first_block mid n + b) (first_block mid n) f.pairs places k.end l x.fine.small x.few)),
  blocks_ranged at mid n f places l x (b + 1) ks (λ b j to w k e g. c (suc b) j to w k e g),
)

functions_ranged : (at : ℕ → ℕ) (mid : Mid) → ((b : ℕ) → at b < 2 ^ 28) → (n : ℕ) (fs : List MidFunction) (ps : List Places) → ((m : ℕ) (f : MidFunction) (p : Places) → slice_get fs m ≡ Some f → slice_get ps m ≡ Some p → FineFunction mid f p) → AllRanged (functions_code at mid n fs ps)
functions_ranged at mid l n [] ps x = tt
functions_ranged at mid l n (f ∷ fs) [] x = tt
functions_ranged at mid l n (f ∷ fs) (p ∷ ps) x =
    let y : FineFunction mid f p = x 0 f p refl refl in
    all_then (function_code at mid n 0 f p f.blocks) (functions_code at mid (n + 1) fs ps) (blocks_ranged at mid n f p l y 0 f.blocks y.constants) (functions_ranged at mid l (n + 1) fs ps (λ m g q e h. x (suc m) g q e h))

ranged_all : (xs : List Instr) → Ranged xs → All IsInRange xs
ranged_all [] h k d l = absurd (Rattle.std.proofs.Common.not-suc-le-zero l)
ranged_all (x ∷ xs) h zero d l = h.0
ranged_all (x ∷ xs) h (suc k) d l = ranged_all xs h.1 k d (less k (length xs) l)
  where
    less : (a b : ℕ) → suc a < suc b → a < b
    less a b h = omega arith

all_all : (ks : List (List Instr)) → AllRanged ks → All (All IsInRange) ks
all_all [] h k d l = absurd (Rattle.std.proofs.Common.not-suc-le-zero l)
all_all (x ∷ xs) h zero d l = ranged_all x h.0
all_all (x ∷ xs) h (suc k) d l = all_all xs h.1 k d (less k (length xs) l)
  where
    less : (a b : ℕ) → suc a < suc b → a < b
    less a b h = omega arith

-- ---- what a valid program gives

absent : {A : Type 0} (xs : List A) (i : ℕ) (d : A) → slice_get xs i ≡ None → d ≡ get_or xs i d
absent xs i d e = sym (ap (λ o. unwrap_or o d) e) ∙ unwrap_or-slice_get xs i d

own_small : (f : MidFunction) (v : ℕ) → f.variables < f.pairs → f.pairs ≤ 2002 → v < f.variables → own_slot f v ≤ 2000
own_small f v few pairs h = by (nat_lt v f.params) f.params f.pairs f.variables few pairs h
  where
    by : (b : Bool) (params pairs variables : ℕ) → variables < pairs → pairs ≤ 2002 → v < variables → (if b then pairs - 2 - v else v - params) ≤ 2000
    by true params pairs variables a k l = omega (arith, a, k, l)
    by false params pairs variables a k l = omega (arith, a, k, l)

pub are_small : (f : MidFunction) (at : Places) → ValidFunction f → FitsThree f at → (v : ℕ) → Small (place_of at v)
are_small f at k p v = elim (slice_get_cases at.list v).1 as (λ z. Small (place_of at v)) [
  | inl c ↦ subst Small (sym (get_or_from_slice_get at.list v c.0 (Slot 0) c.2)) (by_place c.0 c.1 c.2)
  | inr c ↦ subst Small (absent at.list v (Slot 0) c.1) (le_self 0 2000)
]
  where
    by_place : (place : Place) → v < length at.list → slice_get at.list v ≡ Some place → Small place
    by_place (Pair pair) h e = p.in_pairs v pair e
    by_place (Slot slot) h e = subst (λ (z : ℕ). z ≤ 2000) (sym (p.fit.own_slots v slot e)) (own_small f v k.variables_fit p.small (subst (λ (z : ℕ). v < z) p.fit.one_each h))

sum_cons : (x : ℕ) (xs : List ℕ) → sum (x ∷ xs) ≡ x + sum xs
sum_cons x xs = sum_by-cons (λ (y : ℕ). y) x xs

sum_take : (gs : List (List ℕ)) (n : ℕ) → sum (map length (take n gs)) ≤ sum (map length gs)
sum_take [] zero = le_self 0 0
sum_take [] (suc n) = le_self 0 0
sum_take (g ∷ gs) zero = by (sum (map length (g ∷ gs)))
  where
    by : (n : ℕ) → 0 ≤ n
    by n = omega arith
sum_take (g ∷ gs) (suc n) = by (length g) (sum (map length (take n gs))) (sum (map length gs)) (sum_cons (length g) (map length (take n gs))) (sum_cons (length g) (map length gs)) (sum_take gs n)
  where
    by : (g a b : ℕ) → {x y : ℕ} → x ≡ g + a → y ≡ g + b → a ≤ b → x ≤ y
    by g a b {x} {y} e f h = omega arith

one_short : (gs : List (List ℕ)) (n : ℕ) → length (slice_index_or gs n []) ≤ sum (map length gs)
one_short [] n = le_self 0 0
one_short (g ∷ gs) zero = by (length g) (sum (map length gs)) (sum_cons (length g) (map length gs))
  where
    by : (a b : ℕ) → {x : ℕ} → x ≡ a + b → a ≤ x
    by a b {x} e = omega arith
one_short (g ∷ gs) (suc n) = by (length (slice_index_or gs n [])) (length g) (sum (map length gs)) (sum_cons (length g) (map length gs)) (one_short gs n)
  where
    by : (c a b : ℕ) → {x : ℕ} → x ≡ a + b → c ≤ b → c ≤ x
    by c a b {x} e h = omega arith

here : {A : Type 0} (P : A → Type 0) (xs : List A) (k : ℕ) (x : A) → slice_get xs k ≡ Some x → All P xs → P x
here P xs k x e all = subst P (get_or_from_slice_get xs k x x e) (all k x (slice_get_within xs k x e))

some_same : {A : Type 0} (x y : A) → ◌≡◌ {A = Option A} (Some x) (Some y) → x ≡ y
some_same x y e = cc

fine_function : (mid : Mid) (places : List Places) → Triples mid places → (n : ℕ) (f : MidFunction) (p : Places) → slice_get mid.functions n ≡ Some f → slice_get places n ≡ Some p → FineFunction mid f p
fine_function mid places x n f p e g =
    let v : ValidFunction f = here ValidFunction mid.functions n f e x.valid.functions_valid in
    let q : (at : Places) × (slice_get places n ≡ Some at) × FitsThree f at = x.fit n f e in
    let fit : FitsThree f p = subst (λ (z : Places). FitsThree f z) (some_same q.0 p (sym q.1 ∙ g)) q.2 in
    record {
      fine = record {
        small = are_small f p v fit;
        low = λ a. low (global_cell mid a) (sum (map length mid.globals)) mid.chain_pairs (sum_take mid.globals a) x.valid.store_fits;
        short = λ a. short (global_length mid a) (sum (map length mid.globals)) mid.chain_pairs (one_short mid.globals a) x.valid.store_fits;
      };
      some = some f.variables f.pairs v.variables_fit;
      few = fit.small;
      constants = λ b j to w k h i. x.has_words.constants n b j to w f k e h i;
    }
  where
    low : (c s t : ℕ) → c ≤ s → s + t ≤ 32768 → 0x10010000 + 16 * c < 2 ^ 31
    low c s t h k = omega (arith, h, k)

    short : (c s t : ℕ) → c ≤ s → s + t ≤ 32768 → c < 2 ^ 16
    short c s t h k = omega (arith, h, k)

    some : (a b : ℕ) → a < b → 1 ≤ b
    some a b h = omega arith

pub in_range_in_three : InRangeInThree
in_range_in_three mid places at x l =
    let top : cells mid ≤ 32768 = x.valid.store_fits in
    all_all (code_at at mid places) (
      ranged_then (each (λ t. mips.Lui (reg_in t Stack) (cell_address (cells mid) / 2 ^ 16))) (each (λ t. mips.Ori (reg_in t Stack) (reg_in t Stack) (cell_address (cells mid) % 2 ^ 16)) ++ call_code (at (first_block mid 0)) (at 1))
          (upper_ranged Stack (cell_address (cells mid) / 2 ^ 16) tt (half (cells mid) top))
          (ranged_then (each (λ t. mips.Ori (reg_in t Stack) (reg_in t Stack) (cell_address (cells mid) % 2 ^ 16))) (call_code (at (first_block mid 0)) (at 1))
          (each_ranged (λ t. mips.Ori (reg_in t Stack) (reg_in t Stack) (cell_address (cells mid) % 2 ^ 16)) (λ t. (reg_below t Stack tt, reg_below t Stack tt, half_low (cell_address (cells mid)))))
          (call_ranged (at (first_block mid 0)) (at 1) (l (first_block mid 0)) (l 1))),
      (
        ranged_then (service_code 17) (mips.Break 0 ∷ []) (service_ranged 17 (below 17 65518)) (below 0 1048575, tt),
        functions_ranged at mid l 0 mid.functions places (fine_function mid places x),
      ),
    )
  where
    half : (c : ℕ) → c ≤ 32768 → (0x10010000 + 16 * c) / 2 ^ 16 < 2 ^ 16
    half c h = omega arith
