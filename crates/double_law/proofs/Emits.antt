-- What the pass puts fits the words of the machine, touches registers, has no free nop, and comes to at most so many words.
use Rattle.std.proofs.Common.{◌≡◌, ◌≢◌, ◌≤◌, ◌<◌, ℕ, zero, suc, ◌+◌, ◌-◌, ◌*◌, ◌/◌, ◌%◌, ◌^◌, arith, ap, refl, sym, ◌∙◌, subst, List, [], ◌∷◌, ◌++◌, Bool, true, false, cond, inl, inr, flat_map, length, append_assoc, le_refl, le_trans, zero-le, zero-add}
use Rattle.std.specs.Prelude.{Option, Some, None, ◌==◌, ◌&&◌, not, nat_le, if◌then◌else◌}
use Rattle.std.specs.List.{list_any}
use Rattle.mips_isa.specs.declared.instr.Instr.{Instr}
use Rattle.mips_isa.specs.declared.instr.Instr.TheVariants as mips
use Rattle.mips_isa.specs.Machine.{is_jump}
use Rattle.mips_isa.specs.Locality.{is_move}
use Rattle.mips_isa.specs.Table.{IsInRange}
use Rattle.hard_items.specs.declared.code.Class.{Class}
use Rattle.hard_items.specs.declared.code.Class.TheVariants as class
use Rattle.hard_items.specs.declared.code.Fix.TheVariants as fix
use Rattle.hard_items.specs.declared.code.Item.{Item}
use Rattle.hard_items.specs.Streams.{is_stream, is_master, is_shadow, nop, plain, touched}
use Rattle.hard_items.specs.Forms.{Each}
use Rattle.hard_items.specs.Counts.{loaded, is_nop, free_nops_behind, is_conditional, is_branch, nops_for, checks_wanted}
use Rattle.mid_blocks.specs.declared.code.MidStep.{MidStep}
use Rattle.mid_blocks.specs.declared.code.MidOp.{MidOp}
use Rattle.mid_blocks.specs.declared.code.MidOp.TheVariants as op
use Rattle.mid_blocks.specs.declared.places.Place.{Place}
use Rattle.mid_blocks.specs.declared.places.Place.TheVariants.{Pair, Slot}
use Rattle.mid_blocks.specs.declared.places.Places.{Places}
use Rattle.mid_blocks.specs.Size.{operation_words, access_words, step_words}
use Rattle.double_law.specs.declared.roles.Stream.{Stream}
use Rattle.double_law.specs.declared.roles.Stream.TheVariants.{First, Second}
use Rattle.double_law.specs.declared.roles.Role.{Role}
use Rattle.double_law.specs.declared.roles.Role.TheVariants.{Value, Stack, Link}
use Rattle.double_law.specs.Roles.{RoleFits, reg_in, off_in, both, product, move, load, store, test}
use Rattle.double_law.specs.Emitted.{place_of, slot_offset, source, fetched, brought, target, kept, constant, three, operation, divisor_test, quotient_test, operation_tests, element, load_items, store_items, copy_items, input_items, service_items, upper, lower, optional_place, step_items}
use Rattle.double_law.proofs.Doubled.{reg_below, reg_not_zero}
use Rattle.double_law.proofs.Places.{PlaceFits}
use Rattle.double_law.proofs.Formed.{OptionFits, StepPlacesFit}

-- ---- items

abbrev pub some_register : List ℕ → Bool
some_register rs = list_any (λ r. not (r == 0)) rs

pub record Neat (i : Item) : Type 0 where
  pub in_range : IsInRange i.instr
  pub plain_fix : i.fix ≡ fix.Plain
  pub busy : is_stream i.class ≡ true → some_register (touched i.instr) ≡ true

abbrev pub branch_number : Item → ℕ
branch_number i = if is_branch i then 1 else 0

-- The most words that an item comes to, with its checks, a far form and the nops behind it.
abbrev pub weight : Item → ℕ
weight i = 1 + checks_wanted i + nops_for i + 9 * branch_number i

abbrev pub weighed : List Item → ℕ
weighed [] = 0
weighed (i ∷ more) = weight i + weighed more

pub record Emits (n : ℕ) (xs : List Item) : Type 0 where
  pub each : Each Neat xs
  pub weight : weighed xs ≤ n
  pub free : (rest : List Item) → free_nops_behind false (xs ++ rest) ≡ free_nops_behind false rest

pub each_append : {A : Type 0} (P : A → Type 0) (xs ys : List A) → Each P xs → Each P ys → Each P (xs ++ ys)
each_append P [] ys h k = k
each_append P (x ∷ xs) ys h k = (h.0, each_append P xs ys h.1 k)

pub weighed_append : (xs ys : List Item) → weighed (xs ++ ys) ≡ weighed xs + weighed ys
weighed_append [] ys = sym (zero-add (weighed ys))
weighed_append (x ∷ xs) ys = joined (weight x) (weighed (xs ++ ys)) (weighed xs) (weighed ys) (weighed_append xs ys)
  where
    joined : (w t a b : ℕ) → t ≡ a + b → w + t ≡ w + a + b
    joined w t a b e = omega arith

pub emits_nothing : Emits 0 []
emits_nothing = record { each = tt; weight = zero-le; free = λ rest. refl }

pub emits_then : (n m : ℕ) (xs ys : List Item) → Emits n xs → Emits m ys → Emits (n + m) (xs ++ ys)
emits_then n m xs ys a b = record {
  each = each_append Neat xs ys a.each b.each;
  weight = sum (weighed xs) (weighed ys) (weighed (xs ++ ys)) (weighed_append xs ys) a.weight b.weight;
  free = λ rest. ap (λ (l : List Item). free_nops_behind false l) (append_assoc xs ys rest) ∙ (a.free (ys ++ rest) ∙ b.free rest);
}
  where
    sum : (x y t : ℕ) → t ≡ x + y → x ≤ n → y ≤ m → t ≤ n + m
    sum x y t e h k = omega arith

pub emits_more : (n m : ℕ) (xs : List Item) → n ≤ m → Emits n xs → Emits m xs
emits_more n m xs h a = record { each = a.each; weight = le_trans a.weight h; free = a.free }

-- ---- one instruction in both streams

abbrev nops_of : Instr → ℕ
nops_of x = if not (loaded x == 0) then 1 else (if is_move x then 2 else 0)

pub record Tidy (m : ℕ) (x : Instr) : Type 0 where
  pub range : IsInRange x
  pub straight : is_jump x ≡ false
  pub still : is_nop x ≡ false
  pub busy : some_register (touched x) ≡ true
  pub nops : nops_of x ≤ m

no_true : true ≡ false → ⊥
no_true e = cc

conditional_no : (x : Instr) → is_jump x ≡ false → is_conditional x ≡ false
conditional_no (mips.Beq rs rt imm) h = absurd (no_true h)
conditional_no (mips.Bne rs rt imm) h = absurd (no_true h)
conditional_no x h = refl

no_branch : (x : Instr) (c : Class) → is_jump x ≡ false → branch_number (plain x c) ≡ 0
no_branch x c h = ap (λ (z : Bool). if (z && false) then 1 else 0) (conditional_no x h)

weigh_plain : (x : Instr) (m : ℕ) (c : Class) → is_jump x ≡ false → nops_of x ≤ m → checks_wanted (plain x c) ≡ 0 → weight (plain x c) ≤ 1 + m
weigh_plain x m c s h e = bound (checks_wanted (plain x c)) (nops_of x) (branch_number (plain x c)) e (no_branch x c s) h
  where
    bound : (a b d : ℕ) → a ≡ 0 → d ≡ 0 → b ≤ m → 1 + a + b + 9 * d ≤ 1 + m
    bound a b d e f h = omega arith

free_step : (i : Item) (more : List Item) → is_nop i.instr ≡ false → is_jump i.instr ≡ false → free_nops_behind false (i ∷ more) ≡ free_nops_behind false more
free_step i more a b = ap (λ (z : Bool). (if z && true then 1 else 0) + free_nops_behind (is_jump i.instr) more) a ∙ (zero-add (free_nops_behind (is_jump i.instr) more) ∙ ap (λ (z : Bool). free_nops_behind z more) b)

neat_master : (m : ℕ) (x : Instr) → Tidy m x → Neat (plain x class.Master)
neat_master m x t = record { in_range = t.range; plain_fix = refl; busy = λ e. t.busy }

neat_shadow : (m : ℕ) (x : Instr) → Tidy m x → Neat (plain x class.Shadow)
neat_shadow m x t = record { in_range = t.range; plain_fix = refl; busy = λ e. t.busy }

pub emits_both : (m : ℕ) (f : Stream → Instr) → ((t : Stream) → Tidy m (f t)) → Emits (1 + m + (1 + m)) (both f)
emits_both m f h = record {
  each = (neat_master m (f First) (h First), (neat_shadow m (f Second) (h Second), tt));
  weight = two (weight (plain (f First) class.Master)) (weight (plain (f Second) class.Shadow)) (weigh_plain (f First) m class.Master (h First).straight (h First).nops refl) (weigh_plain (f Second) m class.Shadow (h Second).straight (h Second).nops refl);
  free = λ rest. free_step (plain (f First) class.Master) (plain (f Second) class.Shadow ∷ rest) (h First).still (h First).straight ∙ free_step (plain (f Second) class.Shadow) rest (h Second).still (h Second).straight;
}
  where
    two : (a b : ℕ) → a ≤ 1 + m → b ≤ 1 + m → a + (b + 0) ≤ 1 + m + (1 + m)
    two a b h k = omega arith

-- ---- computations

zero_low : 0 < 32
zero_low = omega arith

not_zero : (n : ℕ) → n ≢ 0 → not (n == 0) ≡ true
not_zero n h = grind arith

busy_reg : (t : Stream) (r : Role) → not (reg_in t r == 0) ≡ true
busy_reg t r = not_zero (reg_in t r) (reg_not_zero t r)

any_first : (x : ℕ) (xs : List ℕ) → not (x == 0) ≡ true → some_register (x ∷ xs) ≡ true
any_first x xs h = grind arith

any_next : (x : ℕ) (xs : List ℕ) → some_register xs ≡ true → some_register (x ∷ xs) ≡ true
any_next x xs h = grind arith

-- the last of two or three registers isn't $0
second_busy : (x y : ℕ) → not (y == 0) ≡ true → some_register (x ∷ y ∷ []) ≡ true
second_busy x y h = any_next x (y ∷ []) (any_first y [] h)

third_busy : (x y z : ℕ) → not (z == 0) ≡ true → some_register (x ∷ y ∷ z ∷ []) ≡ true
third_busy x y z h = any_next x (y ∷ z ∷ []) (second_busy y z h)

-- An instruction of three registers, the first of which isn't $0.
abbrev Row : (ℕ → ℕ → ℕ → Instr) → Type 0
Row f = (x y z : ℕ) → x < 32 → y < 32 → z < 32 → not (x == 0) ≡ true → Tidy 0 (f x y z)

row_addu : Row mips.Addu
row_addu x y z p q r n = record { range = (q, r, p, zero_low); straight = refl; still = refl; busy = third_busy y z x n; nops = zero-le }

row_subu : Row mips.Subu
row_subu x y z p q r n = record { range = (q, r, p, zero_low); straight = refl; still = refl; busy = third_busy y z x n; nops = zero-le }

row_and : Row mips.And
row_and x y z p q r n = record { range = (q, r, p, zero_low); straight = refl; still = refl; busy = third_busy y z x n; nops = zero-le }

row_or : Row mips.Or
row_or x y z p q r n = record { range = (q, r, p, zero_low); straight = refl; still = refl; busy = third_busy y z x n; nops = zero-le }

row_xor : Row mips.Xor
row_xor x y z p q r n = record { range = (q, r, p, zero_low); straight = refl; still = refl; busy = third_busy y z x n; nops = zero-le }

row_nor : Row mips.Nor
row_nor x y z p q r n = record { range = (q, r, p, zero_low); straight = refl; still = refl; busy = third_busy y z x n; nops = zero-le }

row_slt : Row mips.Slt
row_slt x y z p q r n = record { range = (q, r, p, zero_low); straight = refl; still = refl; busy = third_busy y z x n; nops = zero-le }

row_sltu : Row mips.Sltu
row_sltu x y z p q r n = record { range = (q, r, p, zero_low); straight = refl; still = refl; busy = third_busy y z x n; nops = zero-le }

row_sllv : Row mips.Sllv
row_sllv x y z p q r n = record { range = (r, q, p, zero_low); straight = refl; still = refl; busy = third_busy y z x n; nops = zero-le }

row_srlv : Row mips.Srlv
row_srlv x y z p q r n = record { range = (r, q, p, zero_low); straight = refl; still = refl; busy = third_busy y z x n; nops = zero-le }

row_srav : Row mips.Srav
row_srav x y z p q r n = record { range = (r, q, p, zero_low); straight = refl; still = refl; busy = third_busy y z x n; nops = zero-le }

emits_three : (f : ℕ → ℕ → ℕ → Instr) (to a b : Role) → RoleFits to → RoleFits a → RoleFits b → Row f → Emits 2 (three f to a b)
emits_three f to a b ft fa fb h = emits_both 0 (λ t. f (reg_in t to) (reg_in t a) (reg_in t b)) (λ t. h (reg_in t to) (reg_in t a) (reg_in t b) (reg_below t to ft) (reg_below t a fa) (reg_below t b fb) (busy_reg t to))

pub emits_zero : (to : Role) → RoleFits to → Emits 2 (both (λ t. mips.Addu (reg_in t to) 0 0))
emits_zero to ft = emits_both 0 (λ t. mips.Addu (reg_in t to) 0 0) (λ t. row_addu (reg_in t to) 0 0 (reg_below t to ft) zero_low zero_low (busy_reg t to))

pub emits_move : (to from : Role) → RoleFits to → RoleFits from → Emits 2 (move to from)
emits_move to from f g = emits_both 0 (λ t. mips.Addu (reg_in t to) (reg_in t from) 0) (λ t. row_addu (reg_in t to) (reg_in t from) 0 (reg_below t to f) (reg_below t from g) zero_low (busy_reg t to))

emits_ori : (to : Role) (n : ℕ) → n < 2 ^ 16 → RoleFits to → Emits 2 (both (λ t. mips.Ori (reg_in t to) 0 n))
emits_ori to n h f = emits_both 0 (λ t. mips.Ori (reg_in t to) 0 n) (λ t. record { range = (zero_low, reg_below t to f, h); straight = refl; still = refl; busy = second_busy 0 (reg_in t to) (busy_reg t to); nops = zero-le })

pub emits_ori_self : (to : Role) (n : ℕ) → n < 2 ^ 16 → RoleFits to → Emits 2 (both (λ t. mips.Ori (reg_in t to) (reg_in t to) n))
emits_ori_self to n h f = emits_both 0 (λ t. mips.Ori (reg_in t to) (reg_in t to) n) (λ t. record { range = (reg_below t to f, reg_below t to f, h); straight = refl; still = refl; busy = second_busy (reg_in t to) (reg_in t to) (busy_reg t to); nops = zero-le })

pub emits_lui : (to : Role) (n : ℕ) → n < 2 ^ 16 → RoleFits to → Emits 2 (both (λ t. mips.Lui (reg_in t to) n))
emits_lui to n h f = emits_both 0 (λ t. mips.Lui (reg_in t to) n) (λ t. record { range = (zero_low, reg_below t to f, h); straight = refl; still = refl; busy = any_first (reg_in t to) [] (busy_reg t to); nops = zero-le })

emits_addiu : (to : Role) (n : ℕ) → n < 2 ^ 16 → RoleFits to → Emits 2 (both (λ t. mips.Addiu (reg_in t to) 0 n))
emits_addiu to n h f = emits_both 0 (λ t. mips.Addiu (reg_in t to) 0 n) (λ t. record { range = (zero_low, reg_below t to f, h); straight = refl; still = refl; busy = second_busy 0 (reg_in t to) (busy_reg t to); nops = zero-le })

pub emits_add_stack : (n : ℕ) → n < 2 ^ 16 → Emits 2 (both (λ t. mips.Addiu (reg_in t Stack) (reg_in t Stack) n))
emits_add_stack n h = emits_both 0 (λ t. mips.Addiu (reg_in t Stack) (reg_in t Stack) n) (λ t. record { range = (reg_below t Stack tt, reg_below t Stack tt, h); straight = refl; still = refl; busy = second_busy (reg_in t Stack) (reg_in t Stack) (busy_reg t Stack); nops = zero-le })

emits_sltiu : (to from : Role) (n : ℕ) → n < 2 ^ 16 → RoleFits to → RoleFits from → Emits 2 (both (λ t. mips.Sltiu (reg_in t to) (reg_in t from) n))
emits_sltiu to from n h f g = emits_both 0 (λ t. mips.Sltiu (reg_in t to) (reg_in t from) n) (λ t. record { range = (reg_below t from g, reg_below t to f, h); straight = refl; still = refl; busy = second_busy (reg_in t from) (reg_in t to) (busy_reg t to); nops = zero-le })

shift_still : (rd rt sh : ℕ) → not (rd == 0) ≡ true → is_nop (mips.Sll rd rt sh) ≡ false
shift_still rd rt sh h = ap (λ (z : Bool). z && (rt == 0 && sh == 0)) (off (rd == 0) h)
  where
    off : (z : Bool) → not z ≡ true → z ≡ false
    off true e = cc
    off false e = refl

emits_sll : (to from : Role) → RoleFits to → RoleFits from → Emits 2 (both (λ t. mips.Sll (reg_in t to) (reg_in t from) 3))
emits_sll to from f g = emits_both 0 (λ t. mips.Sll (reg_in t to) (reg_in t from) 3) (λ t. record { range = (zero_low, reg_below t from g, reg_below t to f, omega arith); straight = refl; still = shift_still (reg_in t to) (reg_in t from) 3 (busy_reg t to); busy = second_busy (reg_in t from) (reg_in t to) (busy_reg t to); nops = zero-le })

off_small : (t : Stream) (o : ℕ) → o < 2 ^ 16 → off_in t o < 2 ^ 16
off_small First o h = h
off_small Second o h = Rattle.std.proofs.Common.mod-lt (o + 4) (omega arith)

one_nop : (z : Bool) → (if z then 1 else 0) ≤ 1
one_nop true = le_refl 1
one_nop false = zero-le

pub emits_load : (to base : Role) (o : ℕ) → o < 2 ^ 16 → RoleFits to → RoleFits base → Emits 4 (load to base o)
emits_load to base o h f g = emits_both 1 (λ t. mips.Lw (reg_in t to) (reg_in t base) (off_in t o)) (λ t. record { range = (reg_below t base g, reg_below t to f, off_small t o h); straight = refl; still = refl; busy = second_busy (reg_in t base) (reg_in t to) (busy_reg t to); nops = one_nop (not (reg_in t to == 0)) })

-- ---- products

-- A product and its move.
pub record TidyProduct (x y : Instr) : Type 0 where
  pub product_ : Tidy 0 x
  pub move_ : Tidy 2 y

emits_product : (f g : Stream → Instr) → ((t : Stream) → TidyProduct (f t) (g t)) → Emits 8 (product f g)
emits_product f g h = record {
  each = (neat_master 0 (f First) (h First).product_, (neat_master 2 (g First) (h First).move_, (neat_shadow 0 (f Second) (h Second).product_, (neat_shadow 2 (g Second) (h Second).move_, tt))));
  weight = four (weight (plain (f First) class.Master)) (weight (plain (g First) class.Master)) (weight (plain (f Second) class.Shadow)) (weight (plain (g Second) class.Shadow))
      (weigh_plain (f First) 0 class.Master (h First).product_.straight (h First).product_.nops refl) (weigh_plain (g First) 2 class.Master (h First).move_.straight (h First).move_.nops refl)
      (weigh_plain (f Second) 0 class.Shadow (h Second).product_.straight (h Second).product_.nops refl) (weigh_plain (g Second) 2 class.Shadow (h Second).move_.straight (h Second).move_.nops refl);
  free = λ rest. free_step (plain (f First) class.Master) (plain (g First) class.Master ∷ plain (f Second) class.Shadow ∷ plain (g Second) class.Shadow ∷ rest) (h First).product_.still (h First).product_.straight ∙
      (free_step (plain (g First) class.Master) (plain (f Second) class.Shadow ∷ plain (g Second) class.Shadow ∷ rest) (h First).move_.still (h First).move_.straight ∙
      (free_step (plain (f Second) class.Shadow) (plain (g Second) class.Shadow ∷ rest) (h Second).product_.still (h Second).product_.straight ∙ free_step (plain (g Second) class.Shadow) rest (h Second).move_.still (h Second).move_.straight));
}
  where
    four : (a b c d : ℕ) → a ≤ 1 + 0 → b ≤ 1 + 2 → c ≤ 1 + 0 → d ≤ 1 + 2 → a + (b + (c + (d + 0))) ≤ 8
    four a b c d h k l m = omega arith

abbrev ProductRow : (ℕ → ℕ → Instr) → (ℕ → Instr) → Type 0
ProductRow f g = (x y z : ℕ) → x < 32 → y < 32 → z < 32 → not (x == 0) ≡ true → not (y == 0) ≡ true → TidyProduct (f y z) (g x)

row_mult : ProductRow mips.Mult mips.Mflo
row_mult x y z p q r n m = record { product_ = record { range = (q, r, zero_low, zero_low); straight = refl; still = refl; busy = any_first y (z ∷ []) m; nops = zero-le }; move_ = record { range = (zero_low, zero_low, p, zero_low); straight = refl; still = refl; busy = any_first x [] n; nops = le_refl 2 } }

row_div_low : ProductRow mips.Div mips.Mflo
row_div_low x y z p q r n m = record { product_ = record { range = (q, r, zero_low, zero_low); straight = refl; still = refl; busy = any_first y (z ∷ []) m; nops = zero-le }; move_ = record { range = (zero_low, zero_low, p, zero_low); straight = refl; still = refl; busy = any_first x [] n; nops = le_refl 2 } }

row_div_high : ProductRow mips.Div mips.Mfhi
row_div_high x y z p q r n m = record { product_ = record { range = (q, r, zero_low, zero_low); straight = refl; still = refl; busy = any_first y (z ∷ []) m; nops = zero-le }; move_ = record { range = (zero_low, zero_low, p, zero_low); straight = refl; still = refl; busy = any_first x [] n; nops = le_refl 2 } }

row_divu_low : ProductRow mips.Divu mips.Mflo
row_divu_low x y z p q r n m = record { product_ = record { range = (q, r, zero_low, zero_low); straight = refl; still = refl; busy = any_first y (z ∷ []) m; nops = zero-le }; move_ = record { range = (zero_low, zero_low, p, zero_low); straight = refl; still = refl; busy = any_first x [] n; nops = le_refl 2 } }

row_divu_high : ProductRow mips.Divu mips.Mfhi
row_divu_high x y z p q r n m = record { product_ = record { range = (q, r, zero_low, zero_low); straight = refl; still = refl; busy = any_first y (z ∷ []) m; nops = zero-le }; move_ = record { range = (zero_low, zero_low, p, zero_low); straight = refl; still = refl; busy = any_first x [] n; nops = le_refl 2 } }

emits_products : (f : ℕ → ℕ → Instr) (g : ℕ → Instr) (to a b : Role) → RoleFits to → RoleFits a → RoleFits b → ProductRow f g → Emits 8 (product (λ t. f (reg_in t a) (reg_in t b)) (λ t. g (reg_in t to)))
emits_products f g to a b ft fa fb h = emits_product (λ t. f (reg_in t a) (reg_in t b)) (λ t. g (reg_in t to))
    (λ t. h (reg_in t to) (reg_in t a) (reg_in t b) (reg_below t to ft) (reg_below t a fa) (reg_below t b fb) (busy_reg t to) (busy_reg t a))

-- The words that an operation takes by itself.
abbrev own_words : MidOp → ℕ
own_words op.Add = 2
own_words op.Sub = 2
own_words op.Mul = 8
own_words op.Div = 8
own_words op.DivU = 8
own_words op.Rem = 8
own_words op.RemU = 8
own_words op.Shl = 2
own_words op.Shr = 2
own_words op.Sar = 2
own_words op.And = 2
own_words op.Or = 2
own_words op.Xor = 2
own_words op.Lt = 2
own_words op.LtU = 2
own_words op.Eq = 4
own_words op.Ne = 4

emits_operation : (o : MidOp) (to a b : Role) → RoleFits to → RoleFits a → RoleFits b → Emits (own_words o) (operation o to a b)
emits_operation op.Add to a b f g h = emits_three mips.Addu to a b f g h row_addu
emits_operation op.Sub to a b f g h = emits_three mips.Subu to a b f g h row_subu
emits_operation op.Mul to a b f g h = emits_products mips.Mult mips.Mflo to a b f g h row_mult
emits_operation op.Div to a b f g h = emits_products mips.Div mips.Mflo to a b f g h row_div_low
emits_operation op.DivU to a b f g h = emits_products mips.Divu mips.Mflo to a b f g h row_divu_low
emits_operation op.Rem to a b f g h = emits_products mips.Div mips.Mfhi to a b f g h row_div_high
emits_operation op.RemU to a b f g h = emits_products mips.Divu mips.Mfhi to a b f g h row_divu_high
emits_operation op.Shl to a b f g h = emits_three mips.Sllv to a b f g h row_sllv
emits_operation op.Shr to a b f g h = emits_three mips.Srlv to a b f g h row_srlv
emits_operation op.Sar to a b f g h = emits_three mips.Srav to a b f g h row_srav
emits_operation op.And to a b f g h = emits_three mips.And to a b f g h row_and
emits_operation op.Or to a b f g h = emits_three mips.Or to a b f g h row_or
emits_operation op.Xor to a b f g h = emits_three mips.Xor to a b f g h row_xor
emits_operation op.Lt to a b f g h = emits_three mips.Slt to a b f g h row_slt
emits_operation op.LtU to a b f g h = emits_three mips.Sltu to a b f g h row_sltu
emits_operation op.Eq to a b f g h = emits_then 2 2 (three mips.Xor to a b) (both (λ t. mips.Sltiu (reg_in t to) (reg_in t to) 1)) (emits_three mips.Xor to a b f g h row_xor) (emits_sltiu to to 1 (omega arith) f f)
emits_operation op.Ne to a b f g h = emits_then 2 2 (three mips.Xor to a b) (both (λ t. mips.Sltu (reg_in t to) 0 (reg_in t to))) (emits_three mips.Xor to a b f g h row_xor)
    (emits_both 0 (λ t. mips.Sltu (reg_in t to) 0 (reg_in t to)) (λ t. row_sltu (reg_in t to) 0 (reg_in t to) (reg_below t to f) zero_low (reg_below t to f) (busy_reg t to)))

-- ---- stores, tests, services

no_stream : (c : Class) (i : Instr) → is_stream c ≡ false → is_stream c ≡ true → some_register (touched i) ≡ true
no_stream c i e f = absurd (no_true (sym f ∙ e))

neat_act : (i : Instr) → IsInRange i → Neat (plain i class.Act)
neat_act i h = record { in_range = h; plain_fix = refl; busy = λ e. no_stream class.Act i refl e }

neat_input : (i : Instr) → IsInRange i → Neat (plain i class.Input)
neat_input i h = record { in_range = h; plain_fix = refl; busy = λ e. no_stream class.Input i refl e }

-- the checks of a store, by whether it is the master's
stored_master : (rt rs o : ℕ) → is_master rt ≡ true → weight (plain (mips.Sw rt rs o) class.Act) ≡ 7
stored_master rt rs o h = ap (λ (z : Bool). 1 + (if length {A = ℕ × ℕ} (if z then (rt, Rattle.hard_items.specs.Streams.shadow_of rt) ∷ (rs, Rattle.hard_items.specs.Streams.shadow_of rs) ∷ [] else []) == 0 then 0 else 3 * length {A = ℕ × ℕ} (if z then (rt, Rattle.hard_items.specs.Streams.shadow_of rt) ∷ (rs, Rattle.hard_items.specs.Streams.shadow_of rs) ∷ [] else [])) + 0 + 9 * 0) h

stored_shadow : (rt rs o : ℕ) → is_master rt ≡ false → weight (plain (mips.Sw rt rs o) class.Act) ≡ 1
stored_shadow rt rs o h = ap (λ (z : Bool). 1 + (if length {A = ℕ × ℕ} (if z then (rt, Rattle.hard_items.specs.Streams.shadow_of rt) ∷ (rs, Rattle.hard_items.specs.Streams.shadow_of rs) ∷ [] else []) == 0 then 0 else 3 * length {A = ℕ × ℕ} (if z then (rt, Rattle.hard_items.specs.Streams.shadow_of rt) ∷ (rs, Rattle.hard_items.specs.Streams.shadow_of rs) ∷ [] else [])) + 0 + 9 * 0) h

four_master : (k : ℕ) → k ≤ 9 → is_master (4 + k) ≡ true
four_master k h = grind arith

fourteen_not : (k : ℕ) → k ≤ 9 → is_master (14 + k) ≡ false
fourteen_not k h = grind arith

first_master : (r : Role) → RoleFits r → is_master (reg_in First r) ≡ true
first_master (Value k) h = four_master k h
first_master Stack h = refl
first_master Link h = refl

second_not : (r : Role) → RoleFits r → is_master (reg_in Second r) ≡ false
second_not (Value k) h = fourteen_not k h
second_not Stack h = refl
second_not Link h = refl

pub emits_store : (from base : Role) (o : ℕ) → o < 2 ^ 16 → RoleFits from → RoleFits base → Emits 8 (store from base o)
emits_store from base o h f g = record {
  each = (
    neat_act (mips.Sw (reg_in First from) (reg_in First base) o) (reg_below First base g, reg_below First from f, h),
    (neat_act (mips.Sw (reg_in Second from) (reg_in Second base) (off_in Second o)) (reg_below Second base g, reg_below Second from f, off_small Second o h), tt),
  );
  weight = two (weight (plain (mips.Sw (reg_in First from) (reg_in First base) o) class.Act)) (weight (plain (mips.Sw (reg_in Second from) (reg_in Second base) (off_in Second o)) class.Act))
      (stored_master (reg_in First from) (reg_in First base) o (first_master from f)) (stored_shadow (reg_in Second from) (reg_in Second base) (off_in Second o) (second_not from f));
  free = λ rest. free_step (plain (mips.Sw (reg_in First from) (reg_in First base) o) class.Act) (plain (mips.Sw (reg_in Second from) (reg_in Second base) (off_in Second o)) class.Act ∷ rest) refl refl ∙
      free_step (plain (mips.Sw (reg_in Second from) (reg_in Second base) (off_in Second o)) class.Act) rest refl refl;
}
  where
    two : (a b : ℕ) → a ≡ 7 → b ≡ 1 → a + (b + 0) ≤ 8
    two a b e f = omega arith

three_zeros : (n : ℕ) → 0 + (0 + (0 + n)) ≡ n
three_zeros n = omega arith

pub emits_test : (r : Role) (code : ℕ) → RoleFits r → code ≤ 9 → Emits 6 (test r code)
emits_test r code f h = record {
  each = (neat_act (mips.Bne (reg_in First r) 0 2) (reg_below First r f, zero_low, omega arith), (neat_act nop (zero_low, zero_low, zero_low, zero_low), (neat_act (mips.Break code) (small code h), tt)));
  weight = le_refl 6;
  free = λ rest. three_zeros (free_nops_behind false rest);
}
  where
    small : (c : ℕ) → c ≤ 9 → c < 2 ^ 20
    small c h = omega arith

two_zeros : (n : ℕ) → 0 + (0 + n) ≡ n
two_zeros n = omega arith

pub emits_output : Emits 4 (service_items 1)
emits_output = record {
  each = (neat_act (mips.Ori 2 0 1) (zero_low, omega arith, omega arith), (neat_act mips.Syscall syscall_fits, tt));
  weight = le_refl 4;
  free = λ rest. two_zeros (free_nops_behind false rest);
}
  where
    syscall_fits : IsInRange mips.Syscall
    syscall_fits = omega arith

four_zeros : (n : ℕ) → 0 + (0 + (0 + (0 + n))) ≡ n
four_zeros n = omega arith

pub emits_input : (r : Role) → RoleFits r → Emits 4 (input_items r)
emits_input r f = record {
  each = (
    neat_input (mips.Ori 2 0 5) (zero_low, omega arith, omega arith),
    (
      neat_input mips.Syscall (omega arith),
      (neat_input (mips.Addu (reg_in First r) 2 0) (omega arith, zero_low, reg_below First r f, zero_low), (neat_input (mips.Addu (reg_in Second r) 2 0) (omega arith, zero_low, reg_below Second r f, zero_low), tt)),
    ),
  );
  weight = le_refl 4;
  free = λ rest. four_zeros (free_nops_behind false rest);
}

-- ---- places

pair_nine : (k : ℕ) → k ≤ 7 → k + 2 ≤ 9
pair_nine k h = omega arith

one_nine : (j : ℕ) → j ≤ 1 → j ≤ 9
one_nine j h = omega arith

slot_small : (s q : ℕ) → s + 1 < q → q ≤ 4002 → 8 * (s + 1) < 2 ^ 16
slot_small s q h k = omega arith

source_fits : (q : ℕ) (pl : Place) (j : ℕ) → j ≤ 1 → PlaceFits q pl → RoleFits (source pl j)
source_fits q (Pair k) j h f = pair_nine k f
source_fits q (Slot s) j h f = one_nine j h

target_fits : (q : ℕ) (pl : Place) → PlaceFits q pl → RoleFits (target pl)
target_fits q (Pair k) f = pair_nine k f
target_fits q (Slot s) f = zero-le

zero_one : 0 ≤ 1
zero_one = zero-le

one_one : 1 ≤ 1
one_one = le_refl 1

pub emits_fetched : (q : ℕ) (pl : Place) (j : ℕ) → q ≤ 4002 → j ≤ 1 → PlaceFits q pl → Emits 4 (fetched pl j)
emits_fetched q (Pair k) j m h f = emits_more 0 4 [] zero-le emits_nothing
emits_fetched q (Slot s) j m h f = emits_load (Value j) Stack (slot_offset s) (slot_small s q f m) (one_nine j h) tt

pub emits_brought : (q : ℕ) (pl : Place) (r : Role) → q ≤ 4002 → PlaceFits q pl → RoleFits r → Emits 4 (brought pl r)
emits_brought q (Pair k) r m f v = emits_more 2 4 (move r (Value (k + 2))) (omega arith) (emits_move r (Value (k + 2)) v (pair_nine k f))
emits_brought q (Slot s) r m f v = emits_load r Stack (slot_offset s) (slot_small s q f m) v tt

pub emits_kept : (q : ℕ) (pl : Place) → q ≤ 4002 → PlaceFits q pl → Emits 8 (kept pl)
emits_kept q (Pair k) h f = emits_more 0 8 [] zero-le emits_nothing
emits_kept q (Slot s) h f = emits_store (Value 0) Stack (slot_offset s) (slot_small s q f h) zero-le tt

-- ---- constants

high_small : (w : ℕ) → w < 2 ^ 32 → w / 2 ^ 16 < 2 ^ 16
high_small w h = omega arith

low_small : (w : ℕ) → w % 2 ^ 16 < 2 ^ 16
low_small w = Rattle.std.proofs.Common.mod-lt w (omega arith)

no_high : (w : ℕ) → (w / 2 ^ 16 == 0) ≡ true → w < 2 ^ 16
no_high w h = grind arith

emits_constant : (r : Role) (w : ℕ) → w < 2 ^ 32 → RoleFits r → Emits 4 (constant r w)
emits_constant r w h f = (elim (w / 2 ^ 16 == 0) as (λ z. (w / 2 ^ 16 == 0) ≡ z → Emits 4 (cond z (both (λ t. mips.Ori (reg_in t r) 0 w)) two)) [
  | true ↦ λ e. emits_more 2 4 (both (λ t. mips.Ori (reg_in t r) 0 w)) two_four (emits_ori r w (no_high w e) f)
  | false ↦ λ e. elim (w % 2 ^ 16 == 0) as (λ z. Emits 4 (cond z (both (λ t. mips.Lui (reg_in t r) (w / 2 ^ 16))) three')) [
    | true ↦ emits_more 2 4 (both (λ t. mips.Lui (reg_in t r) (w / 2 ^ 16))) two_four (emits_lui r (w / 2 ^ 16) (high_small w h) f)
    | false ↦ elim (w / 2 ^ 16 == 2 ^ 16 - 1 && nat_le (2 ^ 15) (w % 2 ^ 16)) as (λ z. Emits 4 (cond z (both (λ t. mips.Addiu (reg_in t r) 0 (w % 2 ^ 16))) last)) [
      | true ↦ emits_more 2 4 (both (λ t. mips.Addiu (reg_in t r) 0 (w % 2 ^ 16))) two_four (emits_addiu r (w % 2 ^ 16) (low_small w) f)
      | false ↦ emits_then 2 2 (both (λ t. mips.Lui (reg_in t r) (w / 2 ^ 16))) (both (λ t. mips.Ori (reg_in t r) (reg_in t r) (w % 2 ^ 16))) (emits_lui r (w / 2 ^ 16) (high_small w h) f) (emits_ori_self r (w % 2 ^ 16) (low_small w) f)
    ]
  ]
]) refl
  where
    two_four : 2 ≤ 4
    two_four = omega arith

    last : List Item
    last = both (λ t. mips.Lui (reg_in t r) (w / 2 ^ 16)) ++ both (λ t. mips.Ori (reg_in t r) (reg_in t r) (w % 2 ^ 16))

    three' : List Item
    three' = if w / 2 ^ 16 == 2 ^ 16 - 1 && nat_le (2 ^ 15) (w % 2 ^ 16) then both (λ t. mips.Addiu (reg_in t r) 0 (w % 2 ^ 16)) else last

    two : List Item
    two = if w % 2 ^ 16 == 0 then both (λ t. mips.Lui (reg_in t r) (w / 2 ^ 16)) else three'

-- ---- tests of operations

emits_divisor : (q : ℕ) (right : Place) → q ≤ 4002 → PlaceFits q right → Emits 10 (divisor_test right)
emits_divisor q right m f = emits_then 4 6 (fetched right 1) (test (source right 1) 7) (emits_fetched q right 1 m one_one f) (emits_test (source right 1) 7 (source_fits q right 1 one_one f) (omega arith))

emits_quotient : (q : ℕ) (left right : Place) → q ≤ 4002 → PlaceFits q left → PlaceFits q right → Emits 22 (quotient_test left right)
emits_quotient q left right m f g =
    let l : List Item = both (λ t. mips.Lui (reg_in t (Value 0)) (2 ^ 15)) in
    let x : List Item = three mips.Xor (Value 0) (Value 0) (source left 1) in
    let n : List Item = both (λ t. mips.Nor (reg_in t (Value 1)) (reg_in t (source right 1)) 0) in
    let o : List Item = three mips.Or (Value 0) (Value 0) (Value 1) in
    let t : List Item = test (Value 0) 6 in
    let one : 1 ≤ 9 = omega arith in
    let fl : RoleFits (source left 1) = source_fits q left 1 one_one f in
    let fr : RoleFits (source right 1) = source_fits q right 1 one_one g in
    emits_then 2 20 l (fetched left 1 ++ (x ++ (fetched right 1 ++ (n ++ (o ++ t))))) (emits_lui (Value 0) (2 ^ 15) (omega arith) zero-le)
    (emits_then 4 16 (fetched left 1) (x ++ (fetched right 1 ++ (n ++ (o ++ t)))) (emits_fetched q left 1 m one_one f)
    (emits_then 2 14 x (fetched right 1 ++ (n ++ (o ++ t))) (emits_three mips.Xor (Value 0) (Value 0) (source left 1) zero-le zero-le fl row_xor)
    (emits_then 4 10 (fetched right 1) (n ++ (o ++ t)) (emits_fetched q right 1 m one_one g)
    (emits_then 2 8 n (o ++ t) (emits_both 0 (λ t. mips.Nor (reg_in t (Value 1)) (reg_in t (source right 1)) 0) (λ t. row_nor (reg_in t (Value 1)) (reg_in t (source right 1)) 0 (reg_below t (Value 1) one) (reg_below t (source right 1) fr) zero_low (busy_reg t (Value 1))))
    (emits_then 2 6 o t (emits_three mips.Or (Value 0) (Value 0) (Value 1) zero-le zero-le one row_or) (emits_test (Value 0) 6 zero-le (omega arith)))))))

-- The words of the tests of an operation.
abbrev test_words : MidOp → ℕ
test_words op.Add = 0
test_words op.Sub = 0
test_words op.Mul = 0
test_words op.Div = 32
test_words op.DivU = 10
test_words op.Rem = 32
test_words op.RemU = 10
test_words op.Shl = 0
test_words op.Shr = 0
test_words op.Sar = 0
test_words op.And = 0
test_words op.Or = 0
test_words op.Xor = 0
test_words op.Lt = 0
test_words op.LtU = 0
test_words op.Eq = 0
test_words op.Ne = 0

emits_tests : (q : ℕ) (o : MidOp) (left right : Place) → q ≤ 4002 → PlaceFits q left → PlaceFits q right → Emits (test_words o) (operation_tests o left right)
emits_tests q op.Add left right m f g = emits_nothing
emits_tests q op.Sub left right m f g = emits_nothing
emits_tests q op.Mul left right m f g = emits_nothing
emits_tests q op.Div left right m f g = emits_then 10 22 (divisor_test right) (quotient_test left right) (emits_divisor q right m g) (emits_quotient q left right m f g)
emits_tests q op.DivU left right m f g = emits_divisor q right m g
emits_tests q op.Rem left right m f g = emits_then 10 22 (divisor_test right) (quotient_test left right) (emits_divisor q right m g) (emits_quotient q left right m f g)
emits_tests q op.RemU left right m f g = emits_divisor q right m g
emits_tests q op.Shl left right m f g = emits_nothing
emits_tests q op.Shr left right m f g = emits_nothing
emits_tests q op.Sar left right m f g = emits_nothing
emits_tests q op.And left right m f g = emits_nothing
emits_tests q op.Or left right m f g = emits_nothing
emits_tests q op.Xor left right m f g = emits_nothing
emits_tests q op.Lt left right m f g = emits_nothing
emits_tests q op.LtU left right m f g = emits_nothing
emits_tests q op.Eq left right m f g = emits_nothing
emits_tests q op.Ne left right m f g = emits_nothing

-- each operation comes to its words
all_words : (o : MidOp) → test_words o + (4 + (4 + (own_words o + 8))) ≤ operation_words o
all_words op.Add = le_refl 18
all_words op.Sub = le_refl 18
all_words op.Mul = le_refl 24
all_words op.Div = le_refl 56
all_words op.DivU = le_refl 34
all_words op.Rem = le_refl 56
all_words op.RemU = le_refl 34
all_words op.Shl = le_refl 18
all_words op.Shr = le_refl 18
all_words op.Sar = le_refl 18
all_words op.And = le_refl 18
all_words op.Or = le_refl 18
all_words op.Xor = le_refl 18
all_words op.Lt = le_refl 18
all_words op.LtU = le_refl 18
all_words op.Eq = le_refl 20
all_words op.Ne = le_refl 20

-- ---- loads and stores of globals

upper_small : (a : ℕ) → a < 2 ^ 31 → upper a < 2 ^ 16
upper_small a h = omega arith

emits_element : (q to by : ℕ) (index : Place) (a : ℕ) → q ≤ 4002 → a < 2 ^ 31 → to ≤ 1 → by ≤ 1 → PlaceFits q index → Emits 10 (element to by index a)
emits_element q to by index a m s ht hb f =
    let sll : List Item = both (λ t. mips.Sll (reg_in t (Value to)) (reg_in t (source index to)) 3) in
    let lui : List Item = both (λ t. mips.Lui (reg_in t (Value by)) (upper a)) in
    let add : List Item = three mips.Addu (Value to) (Value to) (Value by) in
    emits_then 4 6 (fetched index to) (sll ++ (lui ++ add)) (emits_fetched q index to m ht f)
    (emits_then 2 4 sll (lui ++ add) (emits_sll (Value to) (source index to) (one_nine to ht) (source_fits q index to ht f))
    (emits_then 2 2 lui add (emits_lui (Value by) (upper a) (upper_small a s) (one_nine by hb)) (emits_three mips.Addu (Value to) (Value to) (Value by) (one_nine to ht) (one_nine to ht) (one_nine by hb) row_addu)))

lower_small : (a : ℕ) → lower a < 2 ^ 16
lower_small a = low_small a

abbrev place_words : Option Place → ℕ
place_words None = 14
place_words (Some pl) = 22

emits_load_items : (q : ℕ) (to : Place) (index : Option Place) (a : ℕ) → q ≤ 4002 → a < 2 ^ 31 → PlaceFits q to → OptionFits q index → Emits (place_words index) (load_items to index a)
emits_load_items q to None a h s f g =
    let r : Role = target to in
    let lui : List Item = both (λ t. mips.Lui (reg_in t r) (upper a)) in
    let ld : List Item = load r r (lower a) in
    emits_then 2 12 lui (ld ++ kept to) (emits_lui r (upper a) (upper_small a s) (target_fits q to f)) (emits_then 4 8 ld (kept to) (emits_load r r (lower a) (lower_small a) (target_fits q to f) (target_fits q to f)) (emits_kept q to h f))
emits_load_items q to (Some index) a h s f g =
    let r : Role = target to in
    let ld : List Item = load r (Value 0) (lower a) in
    emits_then 10 12 (element 0 1 index a) (ld ++ kept to) (emits_element q 0 1 index a h s zero_one one_one g) (emits_then 4 8 ld (kept to) (emits_load r (Value 0) (lower a) (lower_small a) (target_fits q to f) zero-le) (emits_kept q to h f))

emits_stored : (q : ℕ) (from : Place) (a : ℕ) → q ≤ 4002 → PlaceFits q from → Emits 12 (fetched from 0 ++ store (source from 0) (Value 1) (lower a))
emits_stored q from a m f = emits_then 4 8 (fetched from 0) (store (source from 0) (Value 1) (lower a)) (emits_fetched q from 0 m zero_one f) (emits_store (source from 0) (Value 1) (lower a) (lower_small a) (source_fits q from 0 zero_one f) (one_nine 1 one_one))

emits_store_items : (q : ℕ) (index : Option Place) (from : Place) (a : ℕ) → q ≤ 4002 → a < 2 ^ 31 → OptionFits q index → PlaceFits q from → Emits (place_words index) (store_items index from a)
emits_store_items q None from a m s g f = emits_then 2 12 (both (λ t. mips.Lui (reg_in t (Value 1)) (upper a))) (fetched from 0 ++ store (source from 0) (Value 1) (lower a)) (emits_lui (Value 1) (upper a) (upper_small a s) (one_nine 1 one_one)) (emits_stored q from a m f)
emits_store_items q (Some index) from a m s g f = emits_then 10 12 (element 1 0 index a) (fetched from 0 ++ store (source from 0) (Value 1) (lower a)) (emits_element q 1 0 index a m s one_one zero_one g) (emits_stored q from a m f)

emits_copy : (q : ℕ) (to from : Place) → q ≤ 4002 → PlaceFits q to → PlaceFits q from → Emits 12 (copy_items to from)
emits_copy q (Pair k) from h f g = emits_more 4 12 (brought from (Value (k + 2))) (omega arith) (emits_brought q from (Value (k + 2)) h g (pair_nine k f))
emits_copy q (Slot s) from h f g = emits_then 4 8 (fetched from 0) (store (source from 0) Stack (slot_offset s)) (emits_fetched q from 0 h zero_one g) (emits_store (source from 0) Stack (slot_offset s) (slot_small s q f h) (source_fits q from 0 zero_one g) tt)

-- ---- steps

-- A constant is a word.
abbrev pub WordFits : MidStep → Type 0
WordFits (MidStep.Constant to w) = w < 2 ^ 32
WordFits s = Unit {0}

access_is : (at : Places) (index : Option ℕ) → place_words (optional_place at index) ≡ access_words index
access_is at None = refl
access_is at (Some v) = refl

-- each step comes to at most its words
pub emits_step : (address size : ℕ → ℕ) (q : ℕ) (at : Places) (s : MidStep) → q ≤ 4002 → ((g : ℕ) → address g < 2 ^ 31) → ((g : ℕ) → size g < 2 ^ 16) → WordFits s → StepPlacesFit q at s → Emits (step_words s) (step_items address size at s)
emits_step address size q at (MidStep.Constant to w) h a z c f = emits_then 4 8 (constant (target (place_of at to)) w) (kept (place_of at to)) (emits_constant (target (place_of at to)) w c (target_fits q (place_of at to) f)) (emits_kept q (place_of at to) h f)
emits_step address size q at (MidStep.Copy to from) h a z c f = emits_copy q (place_of at to) (place_of at from) h f.0 f.1
emits_step address size q at (MidStep.Operate o to left right) h a z c f =
    let pl : Place = place_of at left in
    let pr : Place = place_of at right in
    let pt : Place = place_of at to in
    let main : List Item = operation o (target pt) (source pl 0) (source pr 1) in
    emits_more (test_words o + (4 + (4 + (own_words o + 8)))) (operation_words o) (operation_tests o pl pr ++ (fetched pl 0 ++ (fetched pr 1 ++ (main ++ kept pt)))) (all_words o)
    (emits_then (test_words o) (4 + (4 + (own_words o + 8))) (operation_tests o pl pr) (fetched pl 0 ++ (fetched pr 1 ++ (main ++ kept pt))) (emits_tests q o pl pr h f.1 f.2)
    (emits_then 4 (4 + (own_words o + 8)) (fetched pl 0) (fetched pr 1 ++ (main ++ kept pt)) (emits_fetched q pl 0 h zero_one f.1)
    (emits_then 4 (own_words o + 8) (fetched pr 1) (main ++ kept pt) (emits_fetched q pr 1 h one_one f.2)
    (emits_then (own_words o) 8 main (kept pt) (emits_operation o (target pt) (source pl 0) (source pr 1) (target_fits q pt f.0) (source_fits q pl 0 zero_one f.1) (source_fits q pr 1 one_one f.2)) (emits_kept q pt h f.0)))))
emits_step address size q at (MidStep.Guard g index) h a z c f =
    let pl : Place = place_of at index in
    let s : List Item = both (λ t. mips.Sltiu (reg_in t (Value 0)) (reg_in t (source pl 0)) (size g)) in
    emits_then 4 8 (fetched pl 0) (s ++ test (Value 0) 8) (emits_fetched q pl 0 h zero_one f) (emits_then 2 6 s (test (Value 0) 8) (emits_sltiu (Value 0) (source pl 0) (size g) (z g) zero-le (source_fits q pl 0 zero_one f)) (emits_test (Value 0) 8 zero-le (omega arith)))
emits_step address size q at (MidStep.Load to g index) h a z c f = subst (λ (n : ℕ). Emits n (load_items (place_of at to) (optional_place at index) (address g))) (access_is at index) (emits_load_items q (place_of at to) (optional_place at index) (address g) h (a g) f.0 f.1)
emits_step address size q at (MidStep.Store g index from) h a z c f = subst (λ (n : ℕ). Emits n (store_items (optional_place at index) (place_of at from) (address g))) (access_is at index) (emits_store_items q (optional_place at index) (place_of at from) (address g) h (a g) f.0 f.1)
emits_step address size q at (MidStep.Input to) h a z c f = emits_then 4 8 (input_items (target (place_of at to))) (kept (place_of at to)) (emits_input (target (place_of at to)) (target_fits q (place_of at to) f)) (emits_kept q (place_of at to) h f)
emits_step address size q at (MidStep.Output from) h a z c f = emits_then 4 4 (brought (place_of at from) (Value 0)) (service_items 1) (emits_brought q (place_of at from) (Value 0) h f zero-le) emits_output
emits_step address size q at (MidStep.Deep v) h a z c f = emits_then 4 6 (fetched (place_of at v) 0) (test (source (place_of at v) 0) 9) (emits_fetched q (place_of at v) 0 h zero_one f) (emits_test (source (place_of at v) 0) 9 (source_fits q (place_of at v) 0 zero_one f) (omega arith))
