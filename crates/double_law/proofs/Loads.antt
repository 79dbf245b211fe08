-- The loads through the stack pointers of what each step and each end becomes, with all variables in pairs.
use Rattle.std.proofs.Common.{◌≡◌, ◌≢◌, ◌≤◌, ◌<◌, ℕ, zero, suc, ◌+◌, ◌-◌, ◌*◌, ◌/◌, ◌%◌, ◌^◌, arith, ap, refl, sym, ◌∙◌, subst, List, [], ◌∷◌, ◌++◌, Bool, true, false, cond, inl, inr, flat_map, length, map, sum, le_refl, le_trans, zero-le, zero-add, ⊎_elim}
use Rattle.std.specs.Prelude.{Option, Some, None, ◌==◌, ◌&&◌, ◌||◌, nat_le, if◌then◌else◌, count_by, Contains}
use Rattle.std.proofs.lemmas.List.Sums.{sum_by-cons, sum_by-append}
use Rattle.mips_isa.specs.declared.instr.Instr.{Instr}
use Rattle.mips_isa.specs.declared.instr.Instr.TheVariants as mips
use Rattle.hard_items.specs.declared.code.Class.TheVariants as class
use Rattle.hard_items.specs.declared.code.Item.{Item}
use Rattle.hard_items.specs.Streams.{nop, plain}
use Rattle.hard_items.specs.Forms.{Each}
use Rattle.mips_text.specs.Loads.{is_reload}
use Rattle.mid_blocks.specs.declared.code.MidStep.{MidStep}
use Rattle.mid_blocks.specs.declared.code.MidEnd.{MidEnd}
use Rattle.mid_blocks.specs.declared.code.MidEnd.TheVariants as line
use Rattle.mid_blocks.specs.declared.code.MidOp.{MidOp}
use Rattle.mid_blocks.specs.declared.code.MidOp.TheVariants as op
use Rattle.mid_blocks.specs.declared.places.Place.{Place}
use Rattle.mid_blocks.specs.declared.places.Place.TheVariants.{Pair, Slot}
use Rattle.mid_blocks.specs.declared.places.Places.{Places}
use Rattle.mid_blocks.specs.Lines.{Step, End, one_or_none}
use Rattle.mid_blocks.specs.Valid.{line_variables, is_return}
use Rattle.double_law.specs.declared.roles.Stream.{Stream}
use Rattle.double_law.specs.declared.roles.Stream.TheVariants.{First, Second}
use Rattle.double_law.specs.declared.roles.Role.{Role}
use Rattle.double_law.specs.declared.roles.Role.TheVariants.{Value, Stack, Link}
use Rattle.double_law.specs.Roles.{reg_in, off_in, both, load, store, test}
use Rattle.double_law.specs.Emitted.{place_of, source, fetched, brought, target, kept, constant, three, operation, divisor_test, quotient_test, operation_tests, element, load_items, store_items, copy_items, input_items, service_items, call_items, argument_items, end_items, enter_items, parameter_load, parameter_items, result_to, upper, lower, step_items}
use Rattle.double_law.specs.Program.{behind_end}

-- The item loads through no stack pointer.
abbrev pub Still : List Item → Type 0
Still xs = Each (λ i. is_reload i.instr ≡ false) xs

-- How many items load through a stack pointer.
abbrev pub loads : List Item → ℕ
loads xs = count_by (λ i. is_reload i.instr) xs

pub still_append : (xs ys : List Item) → Still xs → Still ys → Still (xs ++ ys)
still_append [] ys h k = k
still_append (x ∷ xs) ys h k = (h.0, still_append xs ys h.1 k)

pub no_loads : (xs : List Item) → Still xs → loads xs ≡ 0
no_loads [] h = refl
no_loads (x ∷ xs) h = sum_by-cons (λ (i : Item). cond (is_reload i.instr) 1 0) x xs ∙ both_zero (cond (is_reload x.instr) 1 0) (loads xs) (ap (λ (z : Bool). cond z 1 0) h.0) (no_loads xs h.1)
  where
    both_zero : (a b : ℕ) → a ≡ 0 → b ≡ 0 → a + b ≡ 0
    both_zero a b e f = omega arith

pub loads_append : (xs ys : List Item) → loads (xs ++ ys) ≡ loads xs + loads ys
loads_append xs ys = sum_by-append (λ (i : Item). cond (is_reload i.instr) 1 0) xs ys

-- ---- places

-- The place is a pair.
abbrev pub IsPair : Place → Type 0
IsPair (Pair k) = k ≤ 7
IsPair (Slot s) = ⊥

value_base : (t : Stream) (k : ℕ) → k ≤ 9 → ((reg_in t (Value k) == 29) || (reg_in t (Value k) == 30)) ≡ false
value_base First k h = four k h
  where
    four : (k : ℕ) → k ≤ 9 → ((4 + k == 29) || (4 + k == 30)) ≡ false
    four k h = grind arith
value_base Second k h = fourteen k h
  where
    fourteen : (k : ℕ) → k ≤ 9 → ((14 + k == 29) || (14 + k == 30)) ≡ false
    fourteen k h = grind arith

still_both : (f : Stream → Instr) → ((t : Stream) → is_reload (f t) ≡ false) → Still (both f)
still_both f h = (h First, (h Second, tt))

still_fetched : (pl : Place) (j : ℕ) → IsPair pl → Still (fetched pl j)
still_fetched (Pair k) j h = tt
still_fetched (Slot s) j h = absurd h

still_brought : (pl : Place) (r : Role) → IsPair pl → Still (brought pl r)
still_brought (Pair k) r h = (refl, (refl, tt))
still_brought (Slot s) r h = absurd h

still_kept : (pl : Place) → IsPair pl → Still (kept pl)
still_kept (Pair k) h = tt
still_kept (Slot s) h = absurd h

still_test : (r : Role) (code : ℕ) → Still (test r code)
still_test r code = (refl, (refl, (refl, tt)))

still_load : (to : Role) (k o : ℕ) → k ≤ 9 → Still (load to (Value k) o)
still_load to k o h = still_both (λ t. mips.Lw (reg_in t to) (reg_in t (Value k)) (off_in t o)) (λ t. value_base t k h)

still_constant : (r : Role) (w : ℕ) → Still (constant r w)
still_constant r w = elim (w / 2 ^ 16 == 0) as (λ z. Still (cond z (both (λ t. mips.Ori (reg_in t r) 0 w)) two)) [
  | true ↦ (refl, (refl, tt))
  | false ↦ elim (w % 2 ^ 16 == 0) as (λ z. Still (cond z (both (λ t. mips.Lui (reg_in t r) (w / 2 ^ 16))) three')) [
    | true ↦ (refl, (refl, tt))
    | false ↦ elim (w / 2 ^ 16 == 2 ^ 16 - 1 && nat_le (2 ^ 15) (w % 2 ^ 16)) as (λ z. Still (cond z (both (λ t. mips.Addiu (reg_in t r) 0 (w % 2 ^ 16))) last)) [
      | true ↦ (refl, (refl, tt))
      | false ↦ (refl, (refl, (refl, (refl, tt))))
    ]
  ]
]
  where
    last : List Item
    last = both (λ t. mips.Lui (reg_in t r) (w / 2 ^ 16)) ++ both (λ t. mips.Ori (reg_in t r) (reg_in t r) (w % 2 ^ 16))

    three' : List Item
    three' = if w / 2 ^ 16 == 2 ^ 16 - 1 && nat_le (2 ^ 15) (w % 2 ^ 16) then both (λ t. mips.Addiu (reg_in t r) 0 (w % 2 ^ 16)) else last

    two : List Item
    two = if w % 2 ^ 16 == 0 then both (λ t. mips.Lui (reg_in t r) (w / 2 ^ 16)) else three'

still_operation : (o : MidOp) (to a b : Role) → Still (operation o to a b)
still_operation op.Add to a b = (refl, (refl, tt))
still_operation op.Sub to a b = (refl, (refl, tt))
still_operation op.Mul to a b = (refl, (refl, (refl, (refl, tt))))
still_operation op.Div to a b = (refl, (refl, (refl, (refl, tt))))
still_operation op.DivU to a b = (refl, (refl, (refl, (refl, tt))))
still_operation op.Rem to a b = (refl, (refl, (refl, (refl, tt))))
still_operation op.RemU to a b = (refl, (refl, (refl, (refl, tt))))
still_operation op.Shl to a b = (refl, (refl, tt))
still_operation op.Shr to a b = (refl, (refl, tt))
still_operation op.Sar to a b = (refl, (refl, tt))
still_operation op.And to a b = (refl, (refl, tt))
still_operation op.Or to a b = (refl, (refl, tt))
still_operation op.Xor to a b = (refl, (refl, tt))
still_operation op.Lt to a b = (refl, (refl, tt))
still_operation op.LtU to a b = (refl, (refl, tt))
still_operation op.Eq to a b = (refl, (refl, (refl, (refl, tt))))
still_operation op.Ne to a b = (refl, (refl, (refl, (refl, tt))))

still_divisor : (right : Place) → IsPair right → Still (divisor_test right)
still_divisor right h = still_append (fetched right 1) (test (source right 1) 7) (still_fetched right 1 h) (still_test (source right 1) 7)

still_quotient : (left right : Place) → IsPair left → IsPair right → Still (quotient_test left right)
still_quotient left right h k =
    let l : List Item = both (λ t. mips.Lui (reg_in t (Value 0)) (2 ^ 15)) in
    let x : List Item = three mips.Xor (Value 0) (Value 0) (source left 1) in
    let n : List Item = both (λ t. mips.Nor (reg_in t (Value 1)) (reg_in t (source right 1)) 0) in
    let o : List Item = three mips.Or (Value 0) (Value 0) (Value 1) in
    let t : List Item = test (Value 0) 6 in
    still_append l (fetched left 1 ++ (x ++ (fetched right 1 ++ (n ++ (o ++ t))))) (refl, (refl, tt))
    (still_append (fetched left 1) (x ++ (fetched right 1 ++ (n ++ (o ++ t)))) (still_fetched left 1 h)
    (still_append x (fetched right 1 ++ (n ++ (o ++ t))) (refl, (refl, tt))
    (still_append (fetched right 1) (n ++ (o ++ t)) (still_fetched right 1 k)
    (still_append n (o ++ t) (refl, (refl, tt)) (still_append o t (refl, (refl, tt)) (still_test (Value 0) 6))))))

still_tests : (o : MidOp) (left right : Place) → IsPair left → IsPair right → Still (operation_tests o left right)
still_tests op.Add left right f g = tt
still_tests op.Sub left right f g = tt
still_tests op.Mul left right f g = tt
still_tests op.Div left right f g = still_append (divisor_test right) (quotient_test left right) (still_divisor right g) (still_quotient left right f g)
still_tests op.DivU left right f g = still_divisor right g
still_tests op.Rem left right f g = still_append (divisor_test right) (quotient_test left right) (still_divisor right g) (still_quotient left right f g)
still_tests op.RemU left right f g = still_divisor right g
still_tests op.Shl left right f g = tt
still_tests op.Shr left right f g = tt
still_tests op.Sar left right f g = tt
still_tests op.And left right f g = tt
still_tests op.Or left right f g = tt
still_tests op.Xor left right f g = tt
still_tests op.Lt left right f g = tt
still_tests op.LtU left right f g = tt
still_tests op.Eq left right f g = tt
still_tests op.Ne left right f g = tt

still_element : (to by : ℕ) (index : Place) (a : ℕ) → IsPair index → Still (element to by index a)
still_element to by index a h =
    let sll : List Item = both (λ t. mips.Sll (reg_in t (Value to)) (reg_in t (source index to)) 3) in
    let lui : List Item = both (λ t. mips.Lui (reg_in t (Value by)) (upper a)) in
    let add : List Item = three mips.Addu (Value to) (Value to) (Value by) in
    still_append (fetched index to) (sll ++ (lui ++ add)) (still_fetched index to h) (still_append sll (lui ++ add) (refl, (refl, tt)) (still_append lui add (refl, (refl, tt)) (refl, (refl, tt))))

pair_nine : (k : ℕ) → k ≤ 7 → k + 2 ≤ 9
pair_nine k h = omega arith

still_target : (pl : Place) (o : ℕ) → IsPair pl → Still (load (target pl) (target pl) o)
still_target (Pair k) o h = still_load (Value (k + 2)) (k + 2) o (pair_nine k h)
still_target (Slot s) o h = absurd h

abbrev pub OptionPair : Option Place → Type 0
OptionPair None = Unit {0}
OptionPair (Some pl) = IsPair pl

still_load_items : (to : Place) (index : Option Place) (a : ℕ) → IsPair to → OptionPair index → Still (load_items to index a)
still_load_items to None a f g =
    let r : Role = target to in
    let lui : List Item = both (λ t. mips.Lui (reg_in t r) (upper a)) in
    let ld : List Item = load r r (lower a) in
    still_append lui (ld ++ kept to) (refl, (refl, tt)) (still_append ld (kept to) (still_target to (lower a) f) (still_kept to f))
still_load_items to (Some index) a f g =
    let r : Role = target to in
    let ld : List Item = load r (Value 0) (lower a) in
    still_append (element 0 1 index a) (ld ++ kept to) (still_element 0 1 index a g) (still_append ld (kept to) (still_load r 0 (lower a) zero-le) (still_kept to f))

still_stored : (from : Place) (a : ℕ) → IsPair from → Still (fetched from 0 ++ store (source from 0) (Value 1) (lower a))
still_stored from a f = still_append (fetched from 0) (store (source from 0) (Value 1) (lower a)) (still_fetched from 0 f) (refl, (refl, tt))

still_store_items : (index : Option Place) (from : Place) (a : ℕ) → OptionPair index → IsPair from → Still (store_items index from a)
still_store_items None from a g f = still_append (both (λ t. mips.Lui (reg_in t (Value 1)) (upper a))) (fetched from 0 ++ store (source from 0) (Value 1) (lower a)) (refl, (refl, tt)) (still_stored from a f)
still_store_items (Some index) from a g f = still_append (element 1 0 index a) (fetched from 0 ++ store (source from 0) (Value 1) (lower a)) (still_element 1 0 index a g) (still_stored from a f)

still_copy : (to from : Place) → IsPair to → IsPair from → Still (copy_items to from)
still_copy (Pair k) from f g = still_brought from (Value (k + 2)) g
still_copy (Slot s) from f g = absurd f

-- ---- steps

-- The variables of these names are in pairs.
abbrev pub InPairs : Places → List ℕ → Type 0
InPairs at vs = (v : ℕ) → Contains vs v → IsPair (place_of at v)

first_in : (x : ℕ) (xs : List ℕ) → Contains (x ∷ xs) x
first_in x xs = (0, Rattle.std.proofs.Common.zero-lt-suc (length xs), refl)

next_in : (x y : ℕ) (xs : List ℕ) → Contains xs y → Contains (x ∷ xs) y
next_in x y xs c = (suc c.0, Rattle.std.proofs.Common.suc-le-suc c.1, c.2)

pub still_step : (address size : ℕ → ℕ) (at : Places) (s : MidStep) → InPairs at (line_variables (Step s)) → Still (step_items address size at s)
still_step address size at (MidStep.Constant to w) f = still_append (constant (target (place_of at to)) w) (kept (place_of at to)) (still_constant (target (place_of at to)) w) (still_kept (place_of at to) (f to (first_in to [])))
still_step address size at (MidStep.Copy to from) f = still_copy (place_of at to) (place_of at from) (f to (next_in from to (to ∷ []) (first_in to []))) (f from (first_in from (to ∷ [])))
still_step address size at (MidStep.Operate o to left right) f =
    let pl : Place = place_of at left in
    let pr : Place = place_of at right in
    let pt : Place = place_of at to in
    let main : List Item = operation o (target pt) (source pl 0) (source pr 1) in
    let ft : IsPair pt = f to (next_in left to (right ∷ to ∷ []) (next_in right to (to ∷ []) (first_in to []))) in
    let fl : IsPair pl = f left (first_in left (right ∷ to ∷ [])) in
    let fr : IsPair pr = f right (next_in left right (right ∷ to ∷ []) (first_in right (to ∷ []))) in
    still_append (operation_tests o pl pr) (fetched pl 0 ++ (fetched pr 1 ++ (main ++ kept pt))) (still_tests o pl pr fl fr)
    (still_append (fetched pl 0) (fetched pr 1 ++ (main ++ kept pt)) (still_fetched pl 0 fl)
    (still_append (fetched pr 1) (main ++ kept pt) (still_fetched pr 1 fr) (still_append main (kept pt) (still_operation o (target pt) (source pl 0) (source pr 1)) (still_kept pt ft))))
still_step address size at (MidStep.Guard g index) f =
    let pl : Place = place_of at index in
    let s : List Item = both (λ t. mips.Sltiu (reg_in t (Value 0)) (reg_in t (source pl 0)) (size g)) in
    still_append (fetched pl 0) (s ++ test (Value 0) 8) (still_fetched pl 0 (f index (first_in index []))) (still_append s (test (Value 0) 8) (refl, (refl, tt)) (still_test (Value 0) 8))
still_step address size at (MidStep.Load to g None) f = still_load_items (place_of at to) None (address g) (f to (first_in to [])) tt
still_step address size at (MidStep.Load to g (Some i)) f = still_load_items (place_of at to) (Some (place_of at i)) (address g) (f to (next_in i to (to ∷ []) (first_in to []))) (f i (first_in i (to ∷ [])))
still_step address size at (MidStep.Store g None from) f = still_store_items None (place_of at from) (address g) tt (f from (first_in from []))
still_step address size at (MidStep.Store g (Some i) from) f = still_store_items (Some (place_of at i)) (place_of at from) (address g) (f i (first_in i (from ∷ []))) (f from (next_in i from (from ∷ []) (first_in from [])))
still_step address size at (MidStep.Input to) f = still_append (input_items (target (place_of at to))) (kept (place_of at to)) (refl, (refl, (refl, (refl, tt)))) (still_kept (place_of at to) (f to (first_in to [])))
still_step address size at (MidStep.Output from) f = still_append (brought (place_of at from) (Value 0)) (service_items 1) (still_brought (place_of at from) (Value 0) (f from (first_in from []))) (refl, (refl, tt))
still_step address size at (MidStep.Deep v) f = still_append (fetched (place_of at v) 0) (test (source (place_of at v) 0) 9) (still_fetched (place_of at v) 0 (f v (first_in v []))) (still_test (source (place_of at v) 0) 9)

-- ---- ends and starts

still_arguments : (at : Places) (i : ℕ) (vs : List ℕ) → InPairs at vs → Still (argument_items at i vs)
still_arguments at i [] f = tt
still_arguments at i (v ∷ vs) f =
    let pl : Place = place_of at v in
    let st : List Item = store (source pl 0) Stack (2 ^ 16 - 8 * (i + 1)) in
    still_append (fetched pl 0) (st ++ argument_items at (i + 1) vs) (still_fetched pl 0 (f v (first_in v vs))) (still_append st (argument_items at (i + 1) vs) (refl, (refl, tt)) (still_arguments at (i + 1) vs (λ w c. f w (next_in v w vs c))))

-- The loads of an end: those of a return address.
abbrev pub end_loads : MidEnd → ℕ
end_loads e = 2 * cond (is_return e) 1 0

return_loads : (q : ℕ) (xs : List Item) → Still xs → loads (xs ++ (load Link Stack 0 ++ (both (λ t. mips.Addiu (reg_in t Stack) (reg_in t Stack) (8 * q)) ++ plain (mips.Jr 31) class.Act ∷ plain nop class.Act ∷ []))) ≡ 2
return_loads q xs h = loads_append xs (load Link Stack 0 ++ (both (λ t. mips.Addiu (reg_in t Stack) (reg_in t Stack) (8 * q)) ++ plain (mips.Jr 31) class.Act ∷ plain nop class.Act ∷ [])) ∙ ap (λ (n : ℕ). n + 2) (no_loads xs h)

in_front : (xs ys : List ℕ) (v : ℕ) → Contains xs v → Contains (xs ++ ys) v
in_front xs ys v c = Rattle.double_law.proofs.Flows.in_front xs ys v c

pub end_load : (first q : ℕ) (at : Places) (e : MidEnd) → InPairs at (line_variables (End e)) → loads (end_items first q at e) ≡ end_loads e
end_load first q at (line.Jump to) f = refl
end_load first q at (line.Branch v true to) f = no_loads (end_items first q at (line.Branch v true to)) (still_append (fetched (place_of at v) 0) _ (still_fetched (place_of at v) 0 (f v (first_in v []))) (refl, (refl, tt)))
end_load first q at (line.Branch v false to) f = no_loads (end_items first q at (line.Branch v false to)) (still_append (fetched (place_of at v) 0) _ (still_fetched (place_of at v) 0 (f v (first_in v []))) (refl, (refl, tt)))
end_load first q at (line.Call g args result) f = no_loads (argument_items at 0 args ++ call_items g) (still_append (argument_items at 0 args) (call_items g) (still_arguments at 0 args (λ v c. f v (in_front args (one_or_none result) v c))) (refl, (refl, (refl, (refl, tt)))))
end_load first q at (line.Return None) f = return_loads q (both (λ t. mips.Addu (reg_in t (Value 0)) 0 0)) (refl, (refl, tt))
end_load first q at (line.Return (Some v)) f = return_loads q (brought (place_of at v) (Value 0)) (still_brought (place_of at v) (Value 0) (f v (first_in v [])))

still_result : (pl : Place) → IsPair pl → Still (result_to pl)
still_result (Pair k) h = (refl, (refl, tt))
still_result (Slot s) h = absurd h

pub still_behind : (at : Places) (e : MidEnd) → InPairs at (line_variables (End e)) → Still (behind_end at e)
still_behind at (line.Jump to) f = tt
still_behind at (line.Branch v w to) f = tt
still_behind at (line.Call g args None) f = tt
still_behind at (line.Call g args (Some v)) f = still_result (place_of at v) (f v (Rattle.double_law.proofs.Flows.at_end args v))
still_behind at (line.Return from) f = tt

parameter_loads : (at : Places) (q i n : ℕ) → loads (parameter_items at q i n) ≤ 2 * n
parameter_loads at q i zero = zero-le
parameter_loads at q i (suc n) = more (loads (parameter_load (place_of at i) q i)) (loads (parameter_items at q (i + 1) n)) (loads (parameter_items at q i (suc n))) n (loads_append (parameter_load (place_of at i) q i) (parameter_items at q (i + 1) n)) (one (place_of at i)) (parameter_loads at q (i + 1) n)
  where
    more : (a b t n : ℕ) → t ≡ a + b → a ≤ 2 → b ≤ 2 * n → t ≤ 2 * suc n
    more a b t n e h k = omega arith

    one : (pl : Place) → loads (parameter_load pl q i) ≤ 2
    one (Pair k) = le_refl 2
    one (Slot s) = zero-le

pub enter_loads : (at : Places) (q params : ℕ) → loads (enter_items at q params) ≤ 2 * params
enter_loads at q params =
    let ad : List Item = both (λ t. mips.Addiu (reg_in t Stack) (reg_in t Stack) (2 ^ 16 - 8 * q)) in
    let ps : List Item = parameter_items at q 0 params in
    more (loads ad) (loads (store Link Stack 0 ++ ps)) (loads (enter_items at q params)) (loads (store Link Stack 0)) (loads ps) params (loads_append ad (store Link Stack 0 ++ ps)) (loads_append (store Link Stack 0) ps) refl refl (parameter_loads at q 0 params)
  where
    more : (a b t s u n : ℕ) → t ≡ a + b → b ≡ s + u → a ≡ 0 → s ≡ 0 → u ≤ 2 * n → t ≤ 2 * n
    more a b t s u n e f g h k = omega arith
