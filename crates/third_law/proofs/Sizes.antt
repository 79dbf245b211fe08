-- How many words each line becomes: at most four times as many as it was counted for.
use Rattle.std.proofs.Common.{◌≡◌, ◌≤◌, ℕ, zero, suc, ◌+◌, ◌-◌, ◌*◌, ◌/◌, ◌%◌, ◌^◌, arith, ap, refl, sym, ◌∙◌, subst, Bool, true, false, cond, List, [], ◌∷◌, ◌++◌, length, map, sum, drop, flat_map, length-append, le_trans}
use Rattle.std.specs.Prelude.{Option, Some, None, slice_get, ◌==◌, ◌&&◌, nat_le}
use Rattle.std.proofs.lemmas.List.Sums.{sum_by-cons}
use Rattle.std.proofs.lemmas.List.Concat.{flat_map-cons}
use Rattle.mips_isa.specs.declared.instr.Instr.{Instr}
use Rattle.mips_isa.specs.declared.instr.Instr.TheVariants as mips
use Rattle.mid_blocks.specs.declared.code.MidOp.{MidOp}
use Rattle.mid_blocks.specs.declared.code.MidOp.TheVariants.{Add, Sub, Mul, Div, DivU, Rem, RemU, Shl, Shr, Sar, And, Or, Xor, Lt, LtU, Eq, Ne}
use Rattle.mid_blocks.specs.declared.code.MidStep.{MidStep}
use Rattle.mid_blocks.specs.declared.code.MidStep.TheVariants.{Constant, Copy, Operate, Guard, Load, Store, Input, Output, Deep}
use Rattle.mid_blocks.specs.declared.code.MidEnd.{MidEnd}
use Rattle.mid_blocks.specs.declared.code.MidEnd.TheVariants.{Jump, Branch, Call, Return}
use Rattle.mid_blocks.specs.declared.code.MidBlock.{MidBlock}
use Rattle.mid_blocks.specs.declared.code.MidFunction.{MidFunction}
use Rattle.mid_blocks.specs.declared.code.Mid.{Mid}
use Rattle.mid_blocks.specs.declared.places.Place.{Place}
use Rattle.mid_blocks.specs.declared.places.Place.TheVariants.{Pair, Slot}
use Rattle.mid_blocks.specs.declared.places.Places.{Places}
use Rattle.mid_blocks.specs.Size.{step_words, end_words, operation_words, access_words, result_words, returned_words, block_words, function_words}
use Rattle.third_law.specs.declared.roles.Role.{Role}
use Rattle.third_law.specs.declared.roles.Role.TheVariants.{Value, Stack, Link}
use Rattle.third_law.specs.Roles.{reg_in, nop, each, vote, load, store, test}
use Rattle.third_law.specs.Emitted.{place_of, source, fetched, brought, target, kept, constant, operation, divisor_test, quotient_test, operation_tests, lower, element, load_code, store_code, optional_place, copy_code, input_code, service_code, step_code, call_code, argument_code, branch_code, return_code, end_code, parameter_load, parameter_code, result_to, result_code}
use Rattle.third_law.specs.Program.{behind_end, behind_block, start_code, body_code, block_code, first_code, exit_code, function_code, functions_code, code_at}
use Rattle.third_law.specs.Law.{FewInThree}

-- ---- lengths

abbrev Few : ℕ → List Instr → Type 0
Few n xs = length xs ≤ n

small : (n d : ℕ) → n ≤ n + d
small n d = omega arith

few_then : (n m : ℕ) (xs ys : List Instr) → Few n xs → Few m ys → Few (n + m) (xs ++ ys)
few_then n m xs ys h k = subst (λ (z : ℕ). z ≤ n + m) (sym (length-append xs ys)) (both (length xs) (length ys) n m h k)
  where
    both : (a b n m : ℕ) → a ≤ n → b ≤ m → a + b ≤ n + m
    both a b n m h k = omega arith

few_if : (b : Bool) (n : ℕ) (xs ys : List Instr) → Few n xs → Few n ys → Few n (cond b xs ys)
few_if true n xs ys h k = h
few_if false n xs ys h k = k

more : (n m d : ℕ) (xs : List Instr) → n + d ≡ m → Few n xs → Few m xs
more n m d xs e h = by (length xs) e h
  where
    by : (l : ℕ) → n + d ≡ m → l ≤ n → l ≤ m
    by l e h = omega arith

-- ---- places

few_fetched : (pl : Place) (s : ℕ) → Few 10 (fetched pl s)
few_fetched (Pair k) s = small 0 10
few_fetched (Slot n) s = small 10 0

few_brought : (pl : Place) (to : Role) → Few 10 (brought pl to)
few_brought (Pair k) to = small 3 7
few_brought (Slot n) to = small 10 0

few_kept : (pl : Place) → Few 15 (kept pl)
few_kept (Pair k) = small 0 15
few_kept (Slot n) = small 15 0

few_constant : (to : Role) (w : ℕ) → Few 6 (constant to w)
few_constant to w =
    few_if (w / 2 ^ 16 == 0) 6 (each (λ t. mips.Ori (reg_in t to) 0 w))
    (cond (w % 2 ^ 16 == 0) (each (λ t. mips.Lui (reg_in t to) (w / 2 ^ 16)))
    (cond (w / 2 ^ 16 == 2 ^ 16 - 1 && nat_le (2 ^ 15) (w % 2 ^ 16)) (each (λ t. mips.Addiu (reg_in t to) 0 (w % 2 ^ 16)))
    (each (λ t. mips.Lui (reg_in t to) (w / 2 ^ 16)) ++ each (λ t. mips.Ori (reg_in t to) (reg_in t to) (w % 2 ^ 16)))))
    (small 3 3)
    (few_if (w % 2 ^ 16 == 0) 6 (each (λ t. mips.Lui (reg_in t to) (w / 2 ^ 16)))
    (cond (w / 2 ^ 16 == 2 ^ 16 - 1 && nat_le (2 ^ 15) (w % 2 ^ 16)) (each (λ t. mips.Addiu (reg_in t to) 0 (w % 2 ^ 16)))
    (each (λ t. mips.Lui (reg_in t to) (w / 2 ^ 16)) ++ each (λ t. mips.Ori (reg_in t to) (reg_in t to) (w % 2 ^ 16))))
    (small 3 3)
    (few_if (w / 2 ^ 16 == 2 ^ 16 - 1 && nat_le (2 ^ 15) (w % 2 ^ 16)) 6 (each (λ t. mips.Addiu (reg_in t to) 0 (w % 2 ^ 16)))
    (each (λ t. mips.Lui (reg_in t to) (w / 2 ^ 16)) ++ each (λ t. mips.Ori (reg_in t to) (reg_in t to) (w % 2 ^ 16)))
    (small 3 3) (small 6 0)))

few_element : (to by : ℕ) (index : Place) (address : ℕ) → Few 19 (element to by index address)
few_element to by (Pair k) address = small 9 10
few_element to by (Slot n) address = small 19 0

few_copy : (to from : Place) → Few 48 (copy_code to from)
few_copy (Pair k) (Pair j) = small 3 45
few_copy (Pair k) (Slot n) = small 10 38
few_copy (Slot m) (Pair j) = small 15 33
few_copy (Slot m) (Slot n) = small 25 23

-- ---- operations

abbrev few_tests_of : MidOp → ℕ
few_tests_of Div = 60
few_tests_of Rem = 60
few_tests_of DivU = 19
few_tests_of RemU = 19
few_tests_of op = 0

few_divisor : (right : Place) → Few 19 (divisor_test right)
few_divisor (Pair k) = small 9 10
few_divisor (Slot n) = small 19 0

few_quotient : (left right : Place) → Few 41 (quotient_test left right)
few_quotient (Pair k) (Pair j) = small 21 20
few_quotient (Pair k) (Slot n) = small 31 10
few_quotient (Slot m) (Pair j) = small 31 10
few_quotient (Slot m) (Slot n) = small 41 0

few_tests : (op : MidOp) (left right : Place) → Few (few_tests_of op) (operation_tests op left right)
few_tests Add left right = small 0 0
few_tests Sub left right = small 0 0
few_tests Mul left right = small 0 0
few_tests Div left right = few_then 19 41 (divisor_test right) (quotient_test left right) (few_divisor right) (few_quotient left right)
few_tests DivU left right = few_divisor right
few_tests Rem left right = few_then 19 41 (divisor_test right) (quotient_test left right) (few_divisor right) (few_quotient left right)
few_tests RemU left right = few_divisor right
few_tests Shl left right = small 0 0
few_tests Shr left right = small 0 0
few_tests Sar left right = small 0 0
few_tests And left right = small 0 0
few_tests Or left right = small 0 0
few_tests Xor left right = small 0 0
few_tests Lt left right = small 0 0
few_tests LtU left right = small 0 0
few_tests Eq left right = small 0 0
few_tests Ne left right = small 0 0

few_operation : (op : MidOp) (to a b : Role) → Few 12 (operation op to a b)
few_operation Add to a b = small 3 9
few_operation Sub to a b = small 3 9
few_operation Mul to a b = small 12 0
few_operation Div to a b = small 12 0
few_operation DivU to a b = small 12 0
few_operation Rem to a b = small 12 0
few_operation RemU to a b = small 12 0
few_operation Shl to a b = small 3 9
few_operation Shr to a b = small 3 9
few_operation Sar to a b = small 3 9
few_operation And to a b = small 3 9
few_operation Or to a b = small 3 9
few_operation Xor to a b = small 3 9
few_operation Lt to a b = small 3 9
few_operation LtU to a b = small 3 9
few_operation Eq to a b = small 6 6
few_operation Ne to a b = small 6 6

room : (op : MidOp) → few_tests_of op + 47 ≤ 4 * operation_words op
room Add = small 47 25
room Sub = small 47 25
room Mul = small 47 49
room Div = small 107 117
room DivU = small 66 70
room Rem = small 107 117
room RemU = small 66 70
room Shl = small 47 25
room Shr = small 47 25
room Sar = small 47 25
room And = small 47 25
room Or = small 47 25
room Xor = small 47 25
room Lt = small 47 25
room LtU = small 47 25
room Eq = small 47 33
room Ne = small 47 33

few_operate : (op : MidOp) (to left right : Place) →
    Few (4 * operation_words op) (operation_tests op left right ++ (fetched left 0 ++ (fetched right 1 ++ (operation op (target to) (source left 0) (source right 1) ++ kept to))))
few_operate op to left right =
    let e : List Instr = operation op (target to) (source left 0) (source right 1) ++ kept to in
    le_trans (few_then (few_tests_of op) 47 (operation_tests op left right) (fetched left 0 ++ (fetched right 1 ++ e)) (few_tests op left right)
    (few_then 10 37 (fetched left 0) (fetched right 1 ++ e) (few_fetched left 0)
    (few_then 10 27 (fetched right 1) e (few_fetched right 1)
    (few_then 12 15 (operation op (target to) (source left 0) (source right 1)) (kept to) (few_operation op (target to) (source left 0) (source right 1)) (few_kept to)))))
    (room op)

-- ---- steps

few_load : (to : Place) (index : Option ℕ) (places : Places) (address : ℕ) → Few (4 * access_words index) (load_code to (optional_place places index) address)
few_load (Pair k) None places address = small 13 43
few_load (Slot n) None places address = small 28 28
few_load to (Some v) places address =
    more 44 88 44 (load_code to (Some (place_of places v)) address) refl
    (few_then 19 25 (element 0 1 (place_of places v) address) (load (target to) (Value 0) (lower address) ++ kept to) (few_element 0 1 (place_of places v) address)
    (few_then 10 15 (load (target to) (Value 0) (lower address)) (kept to) (small 10 0) (few_kept to)))

few_fetched_store : (from : Place) (address : ℕ) → Few 25 (fetched from 0 ++ store (source from 0) (Value 1) (lower address))
few_fetched_store (Pair k) address = small 15 10
few_fetched_store (Slot n) address = small 25 0

few_store : (index : Option ℕ) (from : Place) (places : Places) (address : ℕ) → Few (4 * access_words index) (store_code (optional_place places index) from address)
few_store None (Pair k) places address = small 18 38
few_store None (Slot n) places address = small 28 28
few_store (Some v) from places address =
    more 44 88 44 (store_code (Some (place_of places v)) from address) refl
    (few_then 19 25 (element 1 0 (place_of places v) address) (fetched from 0 ++ store (source from 0) (Value 1) (lower address)) (few_element 1 0 (place_of places v) address) (few_fetched_store from address))

few_tested : (pl : Place) (code : ℕ) → Few 19 (fetched pl 0 ++ test (source pl 0) code)
few_tested (Pair k) code = small 9 10
few_tested (Slot n) code = small 19 0

few_step : (address size : ℕ → ℕ) (places : Places) (s : MidStep) → Few (4 * step_words s) (step_code address size places s)
few_step address size places (Constant to word) =
    more 21 48 27 (step_code address size places (Constant to word)) refl
    (few_then 6 15 (constant (target (place_of places to)) word) (kept (place_of places to)) (few_constant (target (place_of places to)) word) (few_kept (place_of places to)))
few_step address size places (Copy to from) = few_copy (place_of places to) (place_of places from)
few_step address size places (Operate op to left right) = few_operate op (place_of places to) (place_of places left) (place_of places right)
few_step address size places (Guard global index) =
    more 22 48 26 (step_code address size places (Guard global index)) refl
    (few_then 10 12 (fetched (place_of places index) 0)
    (each (λ t. mips.Sltiu (reg_in t (Value 0)) (reg_in t (source (place_of places index) 0)) (size global)) ++ test (Value 0) 8)
    (few_fetched (place_of places index) 0) (small 12 0))
few_step address size places (Load to global index) = few_load (place_of places to) index places (address global)
few_step address size places (Store global index from) = few_store index (place_of places from) places (address global)
few_step address size places (Input to) =
    more 20 48 28 (step_code address size places (Input to)) refl
    (few_then 5 15 (input_code (target (place_of places to))) (kept (place_of places to)) (small 5 0) (few_kept (place_of places to)))
few_step address size places (Output from) =
    more 18 32 14 (step_code address size places (Output from)) refl
    (few_then 10 8 (brought (place_of places from) (Value 0)) (service_code 1) (few_brought (place_of places from) (Value 0)) (small 8 0))
few_step address size places (Deep v) = more 19 40 21 (step_code address size places (Deep v)) refl (few_tested (place_of places v) 9)

sum_cons : (x : ℕ) (xs : List ℕ) → sum (x ∷ xs) ≡ x + sum xs
sum_cons x xs = sum_by-cons (λ (y : ℕ). y) x xs

few_steps : (address size : ℕ → ℕ) (places : Places) (ss : List MidStep) → Few (4 * sum (map step_words ss)) (flat_map (step_code address size places) ss)
few_steps address size places [] = small 0 0
few_steps address size places (s ∷ ss) =
    subst (λ (z : ℕ). Few (4 * z) (flat_map (step_code address size places) (s ∷ ss))) (sym (sum_cons (step_words s) (map step_words ss)))
    (subst (λ (z : List Instr). Few (4 * (step_words s + sum (map step_words ss))) z) (sym (flat_map-cons (step_code address size places) s ss))
    (by (step_words s) (sum (map step_words ss)) (length (step_code address size places s ++ flat_map (step_code address size places) ss))
    (few_then (4 * step_words s) (4 * sum (map step_words ss)) (step_code address size places s) (flat_map (step_code address size places) ss) (few_step address size places s) (few_steps address size places ss))))
  where
    by : (a b l : ℕ) → l ≤ 4 * a + 4 * b → l ≤ 4 * (a + b)
    by a b l h = omega arith

-- ---- ends, with what stands at the start of the next block

few_result : (places : Places) (result : Option ℕ) → Few (2 * result_words result) (result_code places result)
few_result places None = small 0 0
few_result places (Some v) = by (place_of places v)
  where
    by : (pl : Place) → Few 16 (result_to pl)
    by (Pair k) = small 3 13
    by (Slot n) = small 15 1

few_argument : (pl : Place) (i : ℕ) → Few 25 (fetched pl 0 ++ store (source pl 0) Stack i)
few_argument (Pair k) i = small 15 10
few_argument (Slot n) i = small 25 0

few_arguments : (places : Places) (i : ℕ) (vs : List ℕ) → Few (25 * length vs) (argument_code places i vs)
few_arguments places i [] = small 0 0
few_arguments places i (v ∷ vs) =
    by (length (argument_code places i (v ∷ vs))) (length vs) (length (fetched (place_of places v) 0)) (length (store (source (place_of places v) 0) Stack (2 ^ 16 - 16 * (i + 1)))) (length (argument_code places (i + 1) vs))
    (length-append (fetched (place_of places v) 0) (store (source (place_of places v) 0) Stack (2 ^ 16 - 16 * (i + 1)) ++ argument_code places (i + 1) vs))
    (length-append (store (source (place_of places v) 0) Stack (2 ^ 16 - 16 * (i + 1))) (argument_code places (i + 1) vs))
    (subst (λ (z : ℕ). z ≤ 25) (length-append (fetched (place_of places v) 0) (store (source (place_of places v) 0) Stack (2 ^ 16 - 16 * (i + 1)))) (few_argument (place_of places v) (2 ^ 16 - 16 * (i + 1))))
    (few_arguments places (i + 1) vs)
  where
    by : (l n a b c : ℕ) → {m : ℕ} → l ≡ a + m → m ≡ b + c → a + b ≤ 25 → c ≤ 25 * n → l ≤ 25 * suc n
    by l n a b c {m} e f h k = omega arith

few_branch : (when : Bool) (pl : Place) (to : ℕ) → Few 20 (fetched pl 0 ++ branch_code when (source pl 0) to)
few_branch true (Pair k) to = small 10 10
few_branch true (Slot n) to = small 20 0
few_branch false (Pair k) to = small 10 10
few_branch false (Slot n) to = small 20 0

few_end : (at entry : ℕ → ℕ) (own first pairs : ℕ) (places : Places) (e : MidEnd) → length (end_code at entry own first pairs places e) + length (behind_end places e) ≤ 4 * end_words e
few_end at entry own first pairs places (Jump to) = small 2 34
few_end at entry own first pairs places (Branch v when to) = by (length (end_code at entry own first pairs places (Branch v when to))) (few_branch when (place_of places v) (at (first + to)))
  where
    by : (l : ℕ) → l ≤ 20 → l + 0 ≤ 100
    by l h = omega arith
few_end at entry own first pairs places (Call function args result) =
    by (length (argument_code places 0 args)) (length (end_code at entry own first pairs places (Call function args result))) (length (result_code places result)) (length args) (result_words result)
    (length-append (argument_code places 0 args) (call_code (at (entry function)) (at (own + 1))))
    (few_arguments places 0 args) (few_result places result)
  where
    by : (a l r n w : ℕ) → l ≡ a + 6 → a ≤ 25 * n → r ≤ 2 * w → l + r ≤ 4 * (11 + 12 * n + w)
    by a l r n w e h k = omega arith
few_end at entry own first pairs places (Return from) = by from
  where
    none : (l : ℕ) → l ≤ 24 → l + 0 ≤ 36
    none l h = omega arith

    some : (l : ℕ) → l ≤ 31 → l + 0 ≤ 44
    some l h = omega arith

    by : (from : Option ℕ) → length (return_code pairs places from) + 0 ≤ 4 * returned_words from
    by None = small 24 12
    by (Some v) = some (length (return_code pairs places (Some v))) (tail (place_of places v))
      where
        tail : (pl : Place) → length (brought pl (Value 0) ++ (load Link Stack 0 ++ (
            each (λ t. mips.Addiu (reg_in t Stack) (reg_in t Stack) (16 * pairs)) ++ (vote Link ++ mips.Jr 31 ∷ nop ∷ [])))) ≤ 31
        tail (Pair k) = small 24 7
        tail (Slot n) = small 31 0

-- ---- blocks, functions, programs

abbrev long : List (List Instr) → ℕ
long ks = sum (map length ks)

few_body : (at : ℕ → ℕ) (mid : Mid) (n b : ℕ) (f : MidFunction) (places : Places) (k : MidBlock) → length (body_code at mid n b f places k) + length (behind_end places k.end) ≤ 4 * block_words k
few_body at mid n b f places k =
    by (length (body_code at mid n b f places k)) (length (steps_of k)) (length (end_of k)) (length (behind_end places k.end)) (sum (map step_words k.steps)) (end_words k.end)
    (length-append (steps_of k) (end_of k)) (few_steps (λ g. Rattle.third_law.specs.Program.cell_address (Rattle.frame_plan.specs.Frames.global_cell mid g)) (Rattle.frame_plan.specs.Frames.global_length mid) places k.steps)
    (few_end at (Rattle.third_law.specs.Program.first_block mid) (Rattle.third_law.specs.Program.first_block mid n + b) (Rattle.third_law.specs.Program.first_block mid n) f.pairs places k.end)
  where
    steps_of : MidBlock → List Instr
    steps_of k = flat_map (step_code (λ g. Rattle.third_law.specs.Program.cell_address (Rattle.frame_plan.specs.Frames.global_cell mid g)) (Rattle.frame_plan.specs.Frames.global_length mid) places) k.steps

    end_of : MidBlock → List Instr
    end_of k = end_code at (Rattle.third_law.specs.Program.first_block mid) (Rattle.third_law.specs.Program.first_block mid n + b) (Rattle.third_law.specs.Program.first_block mid n) f.pairs places k.end

    by : (l s e r a b : ℕ) → l ≡ s + e → s ≤ 4 * a → e + r ≤ 4 * b → l + r ≤ 4 * (a + b)
    by l s e r a b p h k = omega arith

drop_some : (ks : List MidBlock) (b : ℕ) (k : MidBlock) (rest : List MidBlock) → drop b ks ≡ k ∷ rest → (slice_get ks b ≡ Some k) × (drop (suc b) ks ≡ rest)
drop_some [] zero k rest e = absurd (none e)
  where
    none : ◌≡◌ {A = List MidBlock} [] (k ∷ rest) → ⊥
    none e = cc
drop_some [] (suc b) k rest e = absurd (none e)
  where
    none : ◌≡◌ {A = List MidBlock} [] (k ∷ rest) → ⊥
    none e = cc
drop_some (x ∷ ks) zero k rest e = (first e, second e)
  where
    first : ◌≡◌ {A = List MidBlock} (x ∷ ks) (k ∷ rest) → ◌≡◌ {A = Option MidBlock} (Some x) (Some k)
    first e = cc

    second : ◌≡◌ {A = List MidBlock} (x ∷ ks) (k ∷ rest) → ks ≡ rest
    second e = cc
drop_some (x ∷ ks) (suc b) k rest e = drop_some ks b k rest e

plus_one : (b : ℕ) → b + 1 ≡ suc b
plus_one b = omega arith

few_blocks : (at : ℕ → ℕ) (mid : Mid) (n : ℕ) (f : MidFunction) (places : Places) (b : ℕ) (ks : List MidBlock) → drop b f.blocks ≡ ks →
    long (function_code at mid n b f places ks) ≤ length (start_code f places b) + 4 * sum (map block_words ks)
few_blocks at mid n f places b [] e = by (length (start_code f places b))
  where
    by : (l : ℕ) → 0 ≤ l + 4 * 0
    by l = omega arith
few_blocks at mid n f places b (k ∷ ks) e =
    by (long (function_code at mid n b f places (k ∷ ks))) (length (block_code at mid n b f places k)) (long (function_code at mid n (b + 1) f places ks)) (length (start_code f places b)) (length (body_code at mid n b f places k))
    (length (start_code f places (b + 1))) (length (behind_end places k.end)) (block_words k) (sum (map block_words ks)) (sum (map block_words (k ∷ ks)))
    (sum_cons (length (block_code at mid n b f places k)) (map length (function_code at mid n (b + 1) f places ks)))
    (length-append (start_code f places b) (body_code at mid n b f places k))
    (few_blocks at mid n f places (b + 1) ks (ap (λ (z : ℕ). drop z f.blocks) (plus_one b) ∙ (drop_some f.blocks b k ks e).1))
    (ap (λ (z : ℕ). length (start_code f places z)) (plus_one b) ∙ ap (λ (o : Option MidBlock). length (behind_block places o)) (drop_some f.blocks b k ks e).0)
    (few_body at mid n b f places k)
    (sum_cons (block_words k) (map block_words ks))
  where
    by : (l x r s y t h w v u : ℕ) → l ≡ x + r → x ≡ s + y → r ≤ t + 4 * v → t ≡ h → y + h ≤ 4 * w → u ≡ w + v → l ≤ s + 4 * u
    by l x r s y t h w v u p q e f g i = omega arith

few_parameters : (places : Places) (pairs i n : ℕ) → Few (10 * n) (parameter_code places pairs i n)
few_parameters places pairs i zero = small 0 0
few_parameters places pairs i (suc n) =
    by (length (parameter_code places pairs i (suc n))) (length (parameter_load (place_of places i) pairs i)) (length (parameter_code places pairs (i + 1) n)) n
    (length-append (parameter_load (place_of places i) pairs i) (parameter_code places pairs (i + 1) n)) (one (place_of places i)) (few_parameters places pairs (i + 1) n)
  where
    one : (pl : Place) → Few 10 (parameter_load pl pairs i)
    one (Pair k) = small 10 0
    one (Slot s) = small 0 10

    by : (l a b n : ℕ) → l ≡ a + b → a ≤ 10 → b ≤ 10 * n → l ≤ 10 * suc n
    by l a b n e h k = omega arith

few_function : (at : ℕ → ℕ) (mid : Mid) (n : ℕ) (f : MidFunction) (places : Places) → long (function_code at mid n 0 f places f.blocks) ≤ 4 * function_words f
few_function at mid n f places =
    by (long (function_code at mid n 0 f places f.blocks)) (length (start_code f places 0)) (length (parameter_code places f.pairs 0 f.params)) f.params (sum (map block_words f.blocks))
    (few_blocks at mid n f places 0 f.blocks refl)
    (length-append (each (λ t. mips.Addiu (reg_in t Stack) (reg_in t Stack) (2 ^ 16 - 16 * f.pairs)) ++ store Link Stack 0) (parameter_code places f.pairs 0 f.params)) (few_parameters places f.pairs 0 f.params)
  where
    by : (l s p n w : ℕ) → l ≤ s + 4 * w → s ≡ 18 + p → p ≤ 10 * n → l ≤ 4 * (10 + 4 * n + 11 + w)
    by l s p n w h e k = omega arith

long_append : (xs ys : List (List Instr)) → long (xs ++ ys) ≡ long xs + long ys
long_append [] ys = by (long ys)
  where
    by : (n : ℕ) → n ≡ 0 + n
    by n = omega arith
long_append (x ∷ xs) ys = by (length x) (long xs) (long ys) (sum_cons (length x) (map length (xs ++ ys))) (sum_cons (length x) (map length xs)) (long_append xs ys)
  where
    by : (a b c : ℕ) → {l m n : ℕ} → l ≡ a + n → m ≡ a + b → n ≡ b + c → l ≡ m + c
    by a b c {l} {m} {n} e f g = omega arith

few_functions : (at : ℕ → ℕ) (mid : Mid) (n : ℕ) (fs : List MidFunction) (ps : List Places) → long (functions_code at mid n fs ps) ≤ 4 * sum (map function_words fs)
few_functions at mid n [] ps = small 0 0
few_functions at mid n (f ∷ fs) [] = none (4 * sum (map function_words (f ∷ fs)))
  where
    none : (m : ℕ) → 0 ≤ m
    none m = omega arith
few_functions at mid n (f ∷ fs) (p ∷ ps) =
    by (long (functions_code at mid n (f ∷ fs) (p ∷ ps))) (long (function_code at mid n 0 f p f.blocks)) (long (functions_code at mid (n + 1) fs ps)) (function_words f) (sum (map function_words fs)) (sum (map function_words (f ∷ fs)))
    (long_append (function_code at mid n 0 f p f.blocks) (functions_code at mid (n + 1) fs ps)) (few_function at mid n f p) (few_functions at mid (n + 1) fs ps) (sum_cons (function_words f) (map function_words fs))
  where
    by : (l a b x y z : ℕ) → l ≡ a + b → a ≤ 4 * x → b ≤ 4 * y → z ≡ x + y → l ≤ 4 * z
    by l a b x y z e h k f = omega arith

pub few_in_three : FewInThree
few_in_three mid places at =
    by (long (code_at at mid places)) (long (exit_code ∷ functions_code at mid 0 mid.functions places)) (long (functions_code at mid 0 mid.functions places)) (sum (map function_words mid.functions))
    (sum_cons 12 (map length (exit_code ∷ functions_code at mid 0 mid.functions places)))
    (sum_cons 9 (map length (functions_code at mid 0 mid.functions places)))
    (few_functions at mid 0 mid.functions places)
  where
    by : (l m n w : ℕ) → l ≡ 12 + m → m ≡ 9 + n → n ≤ 4 * w → l ≤ 4 * (27 + w)
    by l m n w e f h = omega arith
