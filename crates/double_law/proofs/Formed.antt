-- What the pass emits are forms that fit, without checks.
use Rattle.std.proofs.Common.{◌≡◌, ◌≢◌, ◌≤◌, ◌<◌, ℕ, zero, suc, ◌+◌, ◌-◌, ◌*◌, ◌/◌, ◌%◌, ◌^◌, arith, ap, refl, sym, ◌∙◌, subst, List, [], ◌∷◌, ◌++◌, append_assoc, append-nil, Bool, true, false, cond, inl, inr, flat_map}
use Rattle.std.specs.Prelude.{Option, Some, None, ◌⊎◌, ◌==◌, ◌&&◌, ◌||◌, nat_le, if◌then◌else◌, IsTrue}
use Rattle.mips_isa.specs.declared.instr.Instr.{Instr}
use Rattle.mips_isa.specs.declared.instr.Instr.TheVariants as mips
use Rattle.hard_items.specs.declared.code.Class.TheVariants as class
use Rattle.hard_items.specs.declared.code.Fix.TheVariants as fix
use Rattle.hard_items.specs.declared.code.Item.{Item}
use Rattle.hard_items.specs.Streams.{is_master, is_shadow, shadow_of, nop, plain}
use Rattle.hard_items.specs.Forms.{Form, Alone, Product, Store, Test, Output, Takes, Idle, Close, Jump, Branch, Call, Return, Exit, form_items, close_items, block_of, Each, FormFits, CloseFits, StandsAlone, IsProduct, MayTouch, Bare, BareClose, is_value, going}
use Rattle.mid_blocks.specs.declared.code.MidStep.{MidStep}
use Rattle.mid_blocks.specs.declared.code.MidEnd.{MidEnd}
use Rattle.mid_blocks.specs.declared.code.MidEnd.TheVariants as line
use Rattle.mid_blocks.specs.declared.code.MidOp.{MidOp}
use Rattle.mid_blocks.specs.declared.code.MidOp.TheVariants as op
use Rattle.mid_blocks.specs.declared.places.Place.{Place}
use Rattle.mid_blocks.specs.declared.places.Place.TheVariants.{Pair, Slot}
use Rattle.mid_blocks.specs.declared.places.Places.{Places}
use Rattle.double_law.specs.declared.roles.Stream.{Stream}
use Rattle.double_law.specs.declared.roles.Stream.TheVariants.{First, Second}
use Rattle.double_law.specs.declared.roles.Role.{Role}
use Rattle.double_law.specs.declared.roles.Role.TheVariants.{Value, Stack, Link}
use Rattle.double_law.specs.Roles.{reg_in, off_in, class_in, both, product, move, load, store, test}
use Rattle.double_law.specs.Emitted.{place_of, slot_offset, source, fetched, brought, target, kept, constant, three, operation, divisor_test, quotient_test, operation_tests, element, load_items, store_items, copy_items, input_items, service_items, call_items, upper, lower, result_to}
use Rattle.double_law.specs.Roles.{RoleFits}
use Rattle.double_law.proofs.Memory.{shadow_is}
use Rattle.double_law.proofs.Places.{PlaceFits}

-- Items that are bare forms that fit.
pub record Made (items : List Item) : Type 0 where
  pub forms : List Form
  pub is : items ≡ flat_map form_items forms
  pub fit : Each FormFits forms
  pub bare : Each Bare forms

each_append : (P : Form → Type 0) (xs ys : List Form) → Each P xs → Each P ys → Each P (xs ++ ys)
each_append P [] ys h k = k
each_append P (x ∷ xs) ys h k = (h.0, each_append P xs ys h.1 k)

flat_append : (xs ys : List Form) → flat_map form_items (xs ++ ys) ≡ flat_map form_items xs ++ flat_map form_items ys
flat_append [] ys = refl
flat_append (x ∷ xs) ys = ap (λ (l : List Item). form_items x ++ l) (flat_append xs ys) ∙ sym (append_assoc (form_items x) (flat_map form_items xs) (flat_map form_items ys))

pub made_nothing : Made []
made_nothing = record { forms = []; is = refl; fit = tt; bare = tt }

pub made_then : (xs ys : List Item) → Made xs → Made ys → Made (xs ++ ys)
made_then xs ys a b = record {
  forms = a.forms ++ b.forms;
  is = ap (λ (l : List Item). l ++ ys) a.is ∙ (ap (λ (l : List Item). flat_map form_items a.forms ++ l) b.is ∙ sym (flat_append a.forms b.forms));
  fit = each_append FormFits a.forms b.forms a.fit b.fit;
  bare = each_append Bare a.forms b.forms a.bare b.bare;
}

-- ---- computations

four_master : (k : ℕ) → k ≤ 9 → is_master (4 + k) ≡ true
four_master k h = grind arith

fourteen_shadow : (k : ℕ) → k ≤ 9 → is_shadow (14 + k) ≡ true
fourteen_shadow k h = grind arith

pub may_role : (t : Stream) (r : Role) → RoleFits r → MayTouch (class_in t) (reg_in t r)
may_role First (Value k) f = inr (four_master k f)
may_role First Stack f = inr refl
may_role First Link f = inr refl
may_role Second (Value k) f = inr (fourteen_shadow k f)
may_role Second Stack f = inr refl
may_role Second Link f = inr refl

may_zero : (t : Stream) → MayTouch (class_in t) 0
may_zero t = inl refl

pub made_both : (f : Stream → Instr) → ((t : Stream) → StandsAlone (plain (f t) (class_in t))) → Made (both f)
made_both f h = record { forms = Alone (plain (f First) class.Master) ∷ Alone (plain (f Second) class.Shadow) ∷ []; is = refl; fit = (h First, (h Second, tt)); bare = (tt, (tt, tt)) }

stream_of : (t : Stream) → Rattle.hard_items.specs.Streams.is_stream (class_in t) ≡ true
stream_of First = refl
stream_of Second = refl

-- an instruction of three registers
pub made_three : (f : ℕ → ℕ → ℕ → Instr) (to a b : Role) → RoleFits to → RoleFits a → RoleFits b →
    ((t : Stream) (x y z : ℕ) → MayTouch (class_in t) x → MayTouch (class_in t) y → MayTouch (class_in t) z → StandsAlone (plain (f x y z) (class_in t))) → Made (three f to a b)
made_three f to a b ft fa fb h = made_both (λ t. f (reg_in t to) (reg_in t a) (reg_in t b)) (λ t. h t (reg_in t to) (reg_in t a) (reg_in t b) (may_role t to ft) (may_role t a fa) (may_role t b fb))

abbrev Row : (ℕ → ℕ → ℕ → Instr) → Type 0
Row f = (t : Stream) (x y z : ℕ) → MayTouch (class_in t) x → MayTouch (class_in t) y → MayTouch (class_in t) z → StandsAlone (plain (f x y z) (class_in t))

row_addu : Row mips.Addu
row_addu t x y z p q r = record { stream = stream_of t; computes = refl; no_product = refl; no_move = refl; own = (q, (r, (p, tt))); load_fits = tt; half_fits = tt }

row_subu : Row mips.Subu
row_subu t x y z p q r = record { stream = stream_of t; computes = refl; no_product = refl; no_move = refl; own = (q, (r, (p, tt))); load_fits = tt; half_fits = tt }

row_and : Row mips.And
row_and t x y z p q r = record { stream = stream_of t; computes = refl; no_product = refl; no_move = refl; own = (q, (r, (p, tt))); load_fits = tt; half_fits = tt }

row_or : Row mips.Or
row_or t x y z p q r = record { stream = stream_of t; computes = refl; no_product = refl; no_move = refl; own = (q, (r, (p, tt))); load_fits = tt; half_fits = tt }

row_xor : Row mips.Xor
row_xor t x y z p q r = record { stream = stream_of t; computes = refl; no_product = refl; no_move = refl; own = (q, (r, (p, tt))); load_fits = tt; half_fits = tt }

row_nor : Row mips.Nor
row_nor t x y z p q r = record { stream = stream_of t; computes = refl; no_product = refl; no_move = refl; own = (q, (r, (p, tt))); load_fits = tt; half_fits = tt }

row_slt : Row mips.Slt
row_slt t x y z p q r = record { stream = stream_of t; computes = refl; no_product = refl; no_move = refl; own = (q, (r, (p, tt))); load_fits = tt; half_fits = tt }

row_sltu : Row mips.Sltu
row_sltu t x y z p q r = record { stream = stream_of t; computes = refl; no_product = refl; no_move = refl; own = (q, (r, (p, tt))); load_fits = tt; half_fits = tt }

row_sllv : Row mips.Sllv
row_sllv t x y z p q r = record { stream = stream_of t; computes = refl; no_product = refl; no_move = refl; own = (q, (r, (p, tt))); load_fits = tt; half_fits = tt }

row_srlv : Row mips.Srlv
row_srlv t x y z p q r = record { stream = stream_of t; computes = refl; no_product = refl; no_move = refl; own = (q, (r, (p, tt))); load_fits = tt; half_fits = tt }

row_srav : Row mips.Srav
row_srav t x y z p q r = record { stream = stream_of t; computes = refl; no_product = refl; no_move = refl; own = (q, (r, (p, tt))); load_fits = tt; half_fits = tt }

-- instructions with an immediate, from a register or from $0
made_ori : (to : Role) (n : ℕ) → RoleFits to → Made (both (λ t. mips.Ori (reg_in t to) 0 n))
made_ori to n f = made_both (λ t. mips.Ori (reg_in t to) 0 n) (λ t. record { stream = stream_of t; computes = refl; no_product = refl; no_move = refl; own = (may_zero t, (may_role t to f, tt)); load_fits = tt; half_fits = tt })

pub made_ori_self : (to : Role) (n : ℕ) → RoleFits to → Made (both (λ t. mips.Ori (reg_in t to) (reg_in t to) n))
made_ori_self to n f = made_both (λ t. mips.Ori (reg_in t to) (reg_in t to) n) (λ t. record { stream = stream_of t; computes = refl; no_product = refl; no_move = refl; own = (may_role t to f, (may_role t to f, tt)); load_fits = tt; half_fits = tt })

pub made_lui : (to : Role) (n : ℕ) → RoleFits to → Made (both (λ t. mips.Lui (reg_in t to) n))
made_lui to n f = made_both (λ t. mips.Lui (reg_in t to) n) (λ t. record { stream = stream_of t; computes = refl; no_product = refl; no_move = refl; own = (may_role t to f, tt); load_fits = tt; half_fits = tt })

made_addiu : (to : Role) (n : ℕ) → RoleFits to → Made (both (λ t. mips.Addiu (reg_in t to) 0 n))
made_addiu to n f = made_both (λ t. mips.Addiu (reg_in t to) 0 n) (λ t. record { stream = stream_of t; computes = refl; no_product = refl; no_move = refl; own = (may_zero t, (may_role t to f, tt)); load_fits = tt; half_fits = tt })

made_add_stack : (n : ℕ) → Made (both (λ t. mips.Addiu (reg_in t Stack) (reg_in t Stack) n))
made_add_stack n = made_both (λ t. mips.Addiu (reg_in t Stack) (reg_in t Stack) n) (λ t. record { stream = stream_of t; computes = refl; no_product = refl; no_move = refl; own = (may_role t Stack tt, (may_role t Stack tt, tt)); load_fits = tt; half_fits = tt })

made_sltiu : (to from : Role) (n : ℕ) → RoleFits to → RoleFits from → Made (both (λ t. mips.Sltiu (reg_in t to) (reg_in t from) n))
made_sltiu to from n f g = made_both (λ t. mips.Sltiu (reg_in t to) (reg_in t from) n) (λ t. record { stream = stream_of t; computes = refl; no_product = refl; no_move = refl; own = (may_role t from g, (may_role t to f, tt)); load_fits = tt; half_fits = tt })

made_sll : (to from : Role) (n : ℕ) → RoleFits to → RoleFits from → Made (both (λ t. mips.Sll (reg_in t to) (reg_in t from) n))
made_sll to from n f g = made_both (λ t. mips.Sll (reg_in t to) (reg_in t from) n) (λ t. record { stream = stream_of t; computes = refl; no_product = refl; no_move = refl; own = (may_role t from g, (may_role t to f, tt)); load_fits = tt; half_fits = tt })

made_positive : (to : Role) → RoleFits to → Made (both (λ t. mips.Sltu (reg_in t to) 0 (reg_in t to)))
made_positive to f = made_both (λ t. mips.Sltu (reg_in t to) 0 (reg_in t to)) (λ t. row_sltu t (reg_in t to) 0 (reg_in t to) (may_role t to f) (may_zero t) (may_role t to f))

made_nor : (to from : Role) → RoleFits to → RoleFits from → Made (both (λ t. mips.Nor (reg_in t to) (reg_in t from) 0))
made_nor to from f g = made_both (λ t. mips.Nor (reg_in t to) (reg_in t from) 0) (λ t. row_nor t (reg_in t to) (reg_in t from) 0 (may_role t to f) (may_role t from g) (may_zero t))

pub made_move : (to from : Role) → RoleFits to → RoleFits from → Made (move to from)
made_move to from f g = made_both (λ t. mips.Addu (reg_in t to) (reg_in t from) 0) (λ t. row_addu t (reg_in t to) (reg_in t from) 0 (may_role t to f) (may_role t from g) (may_zero t))

-- loads
abbrev IsCarried : Role → Type 0
IsCarried (Value k) = k ≤ 9
IsCarried Stack = ⊥
IsCarried Link = Unit {0}

carried : (t : Stream) (r : Role) → IsCarried r → Rattle.hard_items.specs.Forms.is_carried (reg_in t r) ≡ true
carried First (Value k) h = by_four k h
  where
    by_four : (k : ℕ) → k ≤ 9 → Rattle.hard_items.specs.Forms.is_carried (4 + k) ≡ true
    by_four k h = grind arith
carried First Stack h = absurd h
carried First Link h = refl
carried Second (Value k) h = by_fourteen k h
  where
    by_fourteen : (k : ℕ) → k ≤ 9 → Rattle.hard_items.specs.Forms.is_carried (14 + k) ≡ true
    by_fourteen k h = grind arith
carried Second Stack h = absurd h
carried Second Link h = refl

carried_fits : (r : Role) → IsCarried r → RoleFits r
carried_fits (Value k) h = h
carried_fits Stack h = tt
carried_fits Link h = tt

pub made_load : (to base : Role) (o : ℕ) → IsCarried to → RoleFits base → Made (load to base o)
made_load to base o c f = made_both (λ t. mips.Lw (reg_in t to) (reg_in t base) (off_in t o)) (λ t. record { stream = stream_of t; computes = refl; no_product = refl; no_move = refl; own = (may_role t base f, (may_role t to (carried_fits to c), tt)); load_fits = carried t to c; half_fits = tt })

-- products
made_product : (f : ℕ → ℕ → Instr) (g : ℕ → Instr) (to a b : Role) → RoleFits to → RoleFits a → RoleFits b →
    ((t : Stream) (x y z : ℕ) → MayTouch (class_in t) x → MayTouch (class_in t) y → MayTouch (class_in t) z → y ≢ 0 → IsProduct (plain (f y z) (class_in t)) (plain (g x) (class_in t))) →
    Made (product (λ t. f (reg_in t a) (reg_in t b)) (λ t. g (reg_in t to)))
made_product f g to a b ft fa fb h = record {
  forms = Product (plain (f (reg_in First a) (reg_in First b)) class.Master) (plain (g (reg_in First to)) class.Master) ∷ Product (plain (f (reg_in Second a) (reg_in Second b)) class.Shadow) (plain (g (reg_in Second to)) class.Shadow) ∷ [];
  is = refl;
  fit = (
    h First (reg_in First to) (reg_in First a) (reg_in First b) (may_role First to ft) (may_role First a fa) (may_role First b fb) (Rattle.double_law.proofs.Doubled.reg_not_zero First a),
    (h Second (reg_in Second to) (reg_in Second a) (reg_in Second b) (may_role Second to ft) (may_role Second a fa) (may_role Second b fb) (Rattle.double_law.proofs.Doubled.reg_not_zero Second a), tt),
  );
  bare = (tt, (tt, tt));
}

abbrev ProductRow : (ℕ → ℕ → Instr) → (ℕ → Instr) → Type 0
ProductRow f g = (t : Stream) (x y z : ℕ) → MayTouch (class_in t) x → MayTouch (class_in t) y → MayTouch (class_in t) z → y ≢ 0 → IsProduct (plain (f y z) (class_in t)) (plain (g x) (class_in t))

row_mult : ProductRow mips.Mult mips.Mflo
row_mult t x y z p q r n = record { stream = stream_of t; one_stream = refl; product = refl; move = refl; own = (q, (r, tt)); own_move = (p, tt); reads = (y, n, inr (z, inl refl)); plain_product = refl; plain_move = refl }

row_div_low : ProductRow mips.Div mips.Mflo
row_div_low t x y z p q r n = record { stream = stream_of t; one_stream = refl; product = refl; move = refl; own = (q, (r, tt)); own_move = (p, tt); reads = (y, n, inr (z, inl refl)); plain_product = refl; plain_move = refl }

row_div_high : ProductRow mips.Div mips.Mfhi
row_div_high t x y z p q r n = record { stream = stream_of t; one_stream = refl; product = refl; move = refl; own = (q, (r, tt)); own_move = (p, tt); reads = (y, n, inr (z, inl refl)); plain_product = refl; plain_move = refl }

row_divu_low : ProductRow mips.Divu mips.Mflo
row_divu_low t x y z p q r n = record { stream = stream_of t; one_stream = refl; product = refl; move = refl; own = (q, (r, tt)); own_move = (p, tt); reads = (y, n, inr (z, inl refl)); plain_product = refl; plain_move = refl }

row_divu_high : ProductRow mips.Divu mips.Mfhi
row_divu_high t x y z p q r n = record { stream = stream_of t; one_stream = refl; product = refl; move = refl; own = (q, (r, tt)); own_move = (p, tt); reads = (y, n, inr (z, inl refl)); plain_product = refl; plain_move = refl }

-- operations
pub made_operation : (o : MidOp) (to a b : Role) → RoleFits to → RoleFits a → RoleFits b → Made (operation o to a b)
made_operation op.Add to a b f g h = made_three mips.Addu to a b f g h row_addu
made_operation op.Sub to a b f g h = made_three mips.Subu to a b f g h row_subu
made_operation op.Mul to a b f g h = made_product mips.Mult mips.Mflo to a b f g h row_mult
made_operation op.Div to a b f g h = made_product mips.Div mips.Mflo to a b f g h row_div_low
made_operation op.DivU to a b f g h = made_product mips.Divu mips.Mflo to a b f g h row_divu_low
made_operation op.Rem to a b f g h = made_product mips.Div mips.Mfhi to a b f g h row_div_high
made_operation op.RemU to a b f g h = made_product mips.Divu mips.Mfhi to a b f g h row_divu_high
made_operation op.Shl to a b f g h = made_three mips.Sllv to a b f g h row_sllv
made_operation op.Shr to a b f g h = made_three mips.Srlv to a b f g h row_srlv
made_operation op.Sar to a b f g h = made_three mips.Srav to a b f g h row_srav
made_operation op.And to a b f g h = made_three mips.And to a b f g h row_and
made_operation op.Or to a b f g h = made_three mips.Or to a b f g h row_or
made_operation op.Xor to a b f g h = made_three mips.Xor to a b f g h row_xor
made_operation op.Lt to a b f g h = made_three mips.Slt to a b f g h row_slt
made_operation op.LtU to a b f g h = made_three mips.Sltu to a b f g h row_sltu
made_operation op.Eq to a b f g h = made_then (three mips.Xor to a b) (both (λ t. mips.Sltiu (reg_in t to) (reg_in t to) 1)) (made_three mips.Xor to a b f g h row_xor) (made_sltiu to to 1 f f)
made_operation op.Ne to a b f g h = made_then (three mips.Xor to a b) (both (λ t. mips.Sltu (reg_in t to) 0 (reg_in t to))) (made_three mips.Xor to a b f g h row_xor) (made_positive to f)

-- ---- stores, tests, services

abbrev IsBase : Role → Type 0
IsBase (Value k) = k ≤ 9
IsBase Stack = Unit {0}
IsBase Link = ⊥

base_fits : (r : Role) → IsBase r → RoleFits r
base_fits (Value k) h = h
base_fits Stack h = tt
base_fits Link h = tt

value_four : (k : ℕ) → k ≤ 9 → is_value (4 + k) ≡ true
value_four k h = grind arith

or_left : (x y : Bool) → x ≡ true → (x || y) ≡ true
or_left x y e = ap (λ (z : Bool). z || y) e

stored_fits : (r : Role) → IsCarried r → IsTrue (is_value (reg_in First r) || reg_in First r == 31)
stored_fits (Value k) h = or_left (is_value (4 + k)) (4 + k == 31) (value_four k h)
stored_fits Stack h = absurd h
stored_fits Link h = refl

based_fits : (r : Role) → IsBase r → IsTrue (is_value (reg_in First r) || reg_in First r == 29)
based_fits (Value k) h = or_left (is_value (4 + k)) (4 + k == 29) (value_four k h)
based_fits Stack h = refl
based_fits Link h = absurd h

pub made_store : (from base : Role) (o : ℕ) → IsCarried from → IsBase base → o < 2 ^ 16 → Made (store from base o)
made_store from base o c b h = record {
  forms = Store false (reg_in First from) (reg_in First base) o ∷ [];
  is = ap (λ (x : ℕ). plain (mips.Sw (reg_in First from) (reg_in First base) o) class.Act ∷ plain (mips.Sw x (reg_in Second base) (off_in Second o)) class.Act ∷ []) (sym (shadow_is from (carried_fits from c))) ∙
      ap (λ (x : ℕ). plain (mips.Sw (reg_in First from) (reg_in First base) o) class.Act ∷ plain (mips.Sw (shadow_of (reg_in First from)) x (off_in Second o)) class.Act ∷ []) (sym (shadow_is base (base_fits base b)));
  fit = ((stored_fits from c, based_fits base b, h), tt);
  bare = (refl, tt);
}

pub made_test : (k code : ℕ) → k ≤ 9 → 6 ≤ code → code ≤ 9 → Made (test (Value k) code)
made_test k code h l m = record { forms = Test false (4 + k) code ∷ []; is = refl; fit = ((value_four k h, l, m), tt); bare = (refl, tt) }

pub made_output : Made (service_items 1)
made_output = record { forms = Output false ∷ []; is = refl; fit = (tt, tt); bare = (refl, tt) }

pub made_input : (k : ℕ) → k ≤ 9 → Made (input_items (Value k))
made_input k h = record {
  forms = Takes (4 + k) ∷ [];
  is = ap (λ (x : ℕ). plain (mips.Ori 2 0 5) class.Input ∷ plain mips.Syscall class.Input ∷ plain (mips.Addu (4 + k) 2 0) class.Input ∷ plain (mips.Addu x 2 0) class.Input ∷ []) (sym (shadow_is (Value k) h));
  fit = (value_four k h, tt);
  bare = (tt, tt);
}

-- ---- steps

pair_nine : (k : ℕ) → k ≤ 7 → k + 2 ≤ 9
pair_nine k h = omega arith

one_nine : (j : ℕ) → j ≤ 1 → j ≤ 9
one_nine j h = omega arith

slot_small : (s q : ℕ) → s + 1 < q → q ≤ 4002 → 8 * (s + 1) < 2 ^ 16
slot_small s q h k = omega arith

-- the number of a role of a value
pub data IsValue : Role → Type 0 where
  value : (k : ℕ) → k ≤ 9 → IsValue (Value k)

source_value : (q : ℕ) (pl : Place) (j : ℕ) → j ≤ 1 → PlaceFits q pl → IsValue (source pl j)
source_value q (Pair k) j h f = value (k + 2) (pair_nine k f)
source_value q (Slot s) j h f = value j (one_nine j h)

target_value : (q : ℕ) (pl : Place) → PlaceFits q pl → IsValue (target pl)
target_value q (Pair k) f = value (k + 2) (pair_nine k f)
target_value q (Slot s) f = value 0 (one_nine 0 Rattle.std.proofs.Common.zero-le)

fits_of : (r : Role) → IsValue r → RoleFits r
fits_of r (value k h) = h

carried_of : (r : Role) → IsValue r → IsCarried r
carried_of r (value k h) = h

base_of : (r : Role) → IsValue r → IsBase r
base_of r (value k h) = h

made_test_of : (r : Role) (code : ℕ) → IsValue r → 6 ≤ code → code ≤ 9 → Made (test r code)
made_test_of r code (value k h) l m = made_test k code h l m

made_input_of : (r : Role) → IsValue r → Made (input_items r)
made_input_of r (value k h) = made_input k h

pub made_fetched : (q : ℕ) (pl : Place) (j : ℕ) → j ≤ 1 → PlaceFits q pl → Made (fetched pl j)
made_fetched q (Pair k) j h f = made_nothing
made_fetched q (Slot s) j h f = made_load (Value j) Stack (slot_offset s) (one_nine j h) tt

pub made_brought : (q : ℕ) (pl : Place) (r : Role) → PlaceFits q pl → IsValue r → Made (brought pl r)
made_brought q (Pair k) r f v = made_move r (Value (k + 2)) (fits_of r v) (pair_nine k f)
made_brought q (Slot s) r f v = made_load r Stack (slot_offset s) (carried_of r v) tt

pub made_kept : (q : ℕ) (pl : Place) → q ≤ 4002 → PlaceFits q pl → Made (kept pl)
made_kept q (Pair k) h f = made_nothing
made_kept q (Slot s) h f = made_store (Value 0) Stack (slot_offset s) Rattle.std.proofs.Common.zero-le tt (slot_small s q f h)

pub made_constant : (r : Role) (w : ℕ) → RoleFits r → Made (constant r w)
made_constant r w f = elim (w / 2 ^ 16 == 0) as (λ z. Made (cond z (both (λ t. mips.Ori (reg_in t r) 0 w)) two)) [
  | true ↦ made_ori r w f
  | false ↦ elim (w % 2 ^ 16 == 0) as (λ z. Made (cond z (both (λ t. mips.Lui (reg_in t r) (w / 2 ^ 16))) three')) [
    | true ↦ made_lui r (w / 2 ^ 16) f
    | false ↦ elim (w / 2 ^ 16 == 2 ^ 16 - 1 && nat_le (2 ^ 15) (w % 2 ^ 16)) as (λ z. Made (cond z (both (λ t. mips.Addiu (reg_in t r) 0 (w % 2 ^ 16))) last)) [
      | true ↦ made_addiu r (w % 2 ^ 16) f
      | false ↦ made_then (both (λ t. mips.Lui (reg_in t r) (w / 2 ^ 16))) (both (λ t. mips.Ori (reg_in t r) (reg_in t r) (w % 2 ^ 16))) (made_lui r (w / 2 ^ 16) f) (made_ori_self r (w % 2 ^ 16) f)
    ]
  ]
]
  where
    last : List Item
    last = both (λ t. mips.Lui (reg_in t r) (w / 2 ^ 16)) ++ both (λ t. mips.Ori (reg_in t r) (reg_in t r) (w % 2 ^ 16))

    three' : List Item
    three' = if w / 2 ^ 16 == 2 ^ 16 - 1 && nat_le (2 ^ 15) (w % 2 ^ 16) then both (λ t. mips.Addiu (reg_in t r) 0 (w % 2 ^ 16)) else last

    two : List Item
    two = if w % 2 ^ 16 == 0 then both (λ t. mips.Lui (reg_in t r) (w / 2 ^ 16)) else three'

zero_one : 0 ≤ 1
zero_one = Rattle.std.proofs.Common.zero-le

made_divisor : (q : ℕ) (right : Place) → PlaceFits q right → Made (divisor_test right)
made_divisor q right f = made_then (fetched right 1) (test (source right 1) 7) (made_fetched q right 1 (Rattle.std.proofs.Common.le_refl 1) f) (made_test_of (source right 1) 7 (source_value q right 1 (Rattle.std.proofs.Common.le_refl 1) f) (omega arith) (omega arith))

made_quotient : (q : ℕ) (left right : Place) → PlaceFits q left → PlaceFits q right → Made (quotient_test left right)
made_quotient q left right f g =
    let l : List Item = both (λ t. mips.Lui (reg_in t (Value 0)) (2 ^ 15)) in
    let x : List Item = three mips.Xor (Value 0) (Value 0) (source left 1) in
    let n : List Item = both (λ t. mips.Nor (reg_in t (Value 1)) (reg_in t (source right 1)) 0) in
    let o : List Item = three mips.Or (Value 0) (Value 0) (Value 1) in
    let t : List Item = test (Value 0) 6 in
    let one : 1 ≤ 9 = omega arith in
    let fl : RoleFits (source left 1) = fits_of (source left 1) (source_value q left 1 (Rattle.std.proofs.Common.le_refl 1) f) in
    let fr : RoleFits (source right 1) = fits_of (source right 1) (source_value q right 1 (Rattle.std.proofs.Common.le_refl 1) g) in
    made_then l (fetched left 1 ++ (x ++ (fetched right 1 ++ (n ++ (o ++ t))))) (made_lui (Value 0) (2 ^ 15) Rattle.std.proofs.Common.zero-le)
    (made_then (fetched left 1) (x ++ (fetched right 1 ++ (n ++ (o ++ t)))) (made_fetched q left 1 (Rattle.std.proofs.Common.le_refl 1) f)
    (made_then x (fetched right 1 ++ (n ++ (o ++ t))) (made_three mips.Xor (Value 0) (Value 0) (source left 1) Rattle.std.proofs.Common.zero-le Rattle.std.proofs.Common.zero-le fl row_xor)
    (made_then (fetched right 1) (n ++ (o ++ t)) (made_fetched q right 1 (Rattle.std.proofs.Common.le_refl 1) g)
    (made_then n (o ++ t) (made_nor (Value 1) (source right 1) one fr)
    (made_then o t (made_three mips.Or (Value 0) (Value 0) (Value 1) Rattle.std.proofs.Common.zero-le Rattle.std.proofs.Common.zero-le one row_or) (made_test 0 6 Rattle.std.proofs.Common.zero-le (omega arith) (omega arith)))))))

made_tests : (q : ℕ) (o : MidOp) (left right : Place) → PlaceFits q left → PlaceFits q right → Made (operation_tests o left right)
made_tests q op.Add left right f g = made_nothing
made_tests q op.Sub left right f g = made_nothing
made_tests q op.Mul left right f g = made_nothing
made_tests q op.Div left right f g = made_then (divisor_test right) (quotient_test left right) (made_divisor q right g) (made_quotient q left right f g)
made_tests q op.DivU left right f g = made_divisor q right g
made_tests q op.Rem left right f g = made_then (divisor_test right) (quotient_test left right) (made_divisor q right g) (made_quotient q left right f g)
made_tests q op.RemU left right f g = made_divisor q right g
made_tests q op.Shl left right f g = made_nothing
made_tests q op.Shr left right f g = made_nothing
made_tests q op.Sar left right f g = made_nothing
made_tests q op.And left right f g = made_nothing
made_tests q op.Or left right f g = made_nothing
made_tests q op.Xor left right f g = made_nothing
made_tests q op.Lt left right f g = made_nothing
made_tests q op.LtU left right f g = made_nothing
made_tests q op.Eq left right f g = made_nothing
made_tests q op.Ne left right f g = made_nothing

made_element : (q to by : ℕ) (index : Place) (a : ℕ) → to ≤ 1 → by ≤ 1 → PlaceFits q index → Made (element to by index a)
made_element q to by index a ht hb f =
    let sll : List Item = both (λ t. mips.Sll (reg_in t (Value to)) (reg_in t (source index to)) 3) in
    let lui : List Item = both (λ t. mips.Lui (reg_in t (Value by)) (upper a)) in
    let add : List Item = three mips.Addu (Value to) (Value to) (Value by) in
    made_then (fetched index to) (sll ++ (lui ++ add)) (made_fetched q index to ht f)
    (made_then sll (lui ++ add) (made_sll (Value to) (source index to) 3 (one_nine to ht) (fits_of (source index to) (source_value q index to ht f)))
    (made_then lui add (made_lui (Value by) (upper a) (one_nine by hb)) (made_three mips.Addu (Value to) (Value to) (Value by) (one_nine to ht) (one_nine to ht) (one_nine by hb) row_addu)))

lower_small : (a : ℕ) → lower a < 2 ^ 16
lower_small a = Rattle.std.proofs.Common.mod-lt a (omega arith)

-- The places of what a step names fit.
abbrev pub OptionFits : ℕ → Option Place → Type 0
OptionFits q None = Unit {0}
OptionFits q (Some pl) = PlaceFits q pl

made_load_items : (q : ℕ) (to : Place) (index : Option Place) (a : ℕ) → q ≤ 4002 → PlaceFits q to → OptionFits q index → Made (load_items to index a)
made_load_items q to None a h f g =
    let r : Role = target to in
    let lui : List Item = both (λ t. mips.Lui (reg_in t r) (upper a)) in
    let ld : List Item = load r r (lower a) in
    made_then lui (ld ++ kept to) (made_lui r (upper a) (fits_of r (target_value q to f))) (made_then ld (kept to) (made_load r r (lower a) (carried_of r (target_value q to f)) (fits_of r (target_value q to f))) (made_kept q to h f))
made_load_items q to (Some index) a h f g =
    let r : Role = target to in
    let ld : List Item = load r (Value 0) (lower a) in
    made_then (element 0 1 index a) (ld ++ kept to) (made_element q 0 1 index a zero_one (Rattle.std.proofs.Common.le_refl 1) g) (made_then ld (kept to) (made_load r (Value 0) (lower a) (carried_of r (target_value q to f)) Rattle.std.proofs.Common.zero-le) (made_kept q to h f))

made_stored : (q : ℕ) (from : Place) (a : ℕ) → PlaceFits q from → Made (fetched from 0 ++ store (source from 0) (Value 1) (lower a))
made_stored q from a f = made_then (fetched from 0) (store (source from 0) (Value 1) (lower a)) (made_fetched q from 0 zero_one f) (made_store (source from 0) (Value 1) (lower a) (carried_of (source from 0) (source_value q from 0 zero_one f)) (one_nine 1 (Rattle.std.proofs.Common.le_refl 1)) (lower_small a))

made_store_items : (q : ℕ) (index : Option Place) (from : Place) (a : ℕ) → OptionFits q index → PlaceFits q from → Made (store_items index from a)
made_store_items q None from a g f = made_then (both (λ t. mips.Lui (reg_in t (Value 1)) (upper a))) (fetched from 0 ++ store (source from 0) (Value 1) (lower a)) (made_lui (Value 1) (upper a) (one_nine 1 (Rattle.std.proofs.Common.le_refl 1))) (made_stored q from a f)
made_store_items q (Some index) from a g f = made_then (element 1 0 index a) (fetched from 0 ++ store (source from 0) (Value 1) (lower a)) (made_element q 1 0 index a (Rattle.std.proofs.Common.le_refl 1) zero_one g) (made_stored q from a f)

made_copy : (q : ℕ) (to from : Place) → q ≤ 4002 → PlaceFits q to → PlaceFits q from → Made (copy_items to from)
made_copy q (Pair k) from h f g = made_brought q from (Value (k + 2)) g (value (k + 2) (pair_nine k f))
made_copy q (Slot s) from h f g = made_then (fetched from 0) (store (source from 0) Stack (slot_offset s)) (made_fetched q from 0 zero_one g) (made_store (source from 0) Stack (slot_offset s) (carried_of (source from 0) (source_value q from 0 zero_one g)) tt (slot_small s q f h))

-- The places of a step's variables fit.
abbrev pub StepPlacesFit : ℕ → Places → MidStep → Type 0
StepPlacesFit q at (MidStep.Constant to w) = PlaceFits q (place_of at to)
StepPlacesFit q at (MidStep.Copy to from) = PlaceFits q (place_of at to) × PlaceFits q (place_of at from)
StepPlacesFit q at (MidStep.Operate o to left right) = PlaceFits q (place_of at to) × PlaceFits q (place_of at left) × PlaceFits q (place_of at right)
StepPlacesFit q at (MidStep.Guard g index) = PlaceFits q (place_of at index)
StepPlacesFit q at (MidStep.Load to g index) = PlaceFits q (place_of at to) × OptionFits q (Rattle.double_law.specs.Emitted.optional_place at index)
StepPlacesFit q at (MidStep.Store g index from) = OptionFits q (Rattle.double_law.specs.Emitted.optional_place at index) × PlaceFits q (place_of at from)
StepPlacesFit q at (MidStep.Input to) = PlaceFits q (place_of at to)
StepPlacesFit q at (MidStep.Output from) = PlaceFits q (place_of at from)
StepPlacesFit q at (MidStep.Deep v) = PlaceFits q (place_of at v)

-- each step becomes bare forms that fit
pub made_step : (address size : ℕ → ℕ) (q : ℕ) (at : Places) (s : MidStep) → q ≤ 4002 → StepPlacesFit q at s → Made (Rattle.double_law.specs.Emitted.step_items address size at s)
made_step address size q at (MidStep.Constant to w) h f = made_then (constant (target (place_of at to)) w) (kept (place_of at to)) (made_constant (target (place_of at to)) w (fits_of (target (place_of at to)) (target_value q (place_of at to) f))) (made_kept q (place_of at to) h f)
made_step address size q at (MidStep.Copy to from) h f = made_copy q (place_of at to) (place_of at from) h f.0 f.1
made_step address size q at (MidStep.Operate o to left right) h f =
    let pl : Place = place_of at left in
    let pr : Place = place_of at right in
    let pt : Place = place_of at to in
    let main : List Item = operation o (target pt) (source pl 0) (source pr 1) in
    made_then (operation_tests o pl pr) (fetched pl 0 ++ (fetched pr 1 ++ (main ++ kept pt))) (made_tests q o pl pr f.1 f.2)
    (made_then (fetched pl 0) (fetched pr 1 ++ (main ++ kept pt)) (made_fetched q pl 0 zero_one f.1)
    (made_then (fetched pr 1) (main ++ kept pt) (made_fetched q pr 1 (Rattle.std.proofs.Common.le_refl 1) f.2)
    (made_then main (kept pt) (made_operation o (target pt) (source pl 0) (source pr 1) (fits_of (target pt) (target_value q pt f.0)) (fits_of (source pl 0) (source_value q pl 0 zero_one f.1)) (fits_of (source pr 1) (source_value q pr 1 (Rattle.std.proofs.Common.le_refl 1) f.2))) (made_kept q pt h f.0))))
made_step address size q at (MidStep.Guard g index) h f =
    let pl : Place = place_of at index in
    let s : List Item = both (λ t. mips.Sltiu (reg_in t (Value 0)) (reg_in t (source pl 0)) (size g)) in
    made_then (fetched pl 0) (s ++ test (Value 0) 8) (made_fetched q pl 0 zero_one f) (made_then s (test (Value 0) 8) (made_sltiu (Value 0) (source pl 0) (size g) Rattle.std.proofs.Common.zero-le (fits_of (source pl 0) (source_value q pl 0 zero_one f))) (made_test 0 8 Rattle.std.proofs.Common.zero-le (omega arith) (omega arith)))
made_step address size q at (MidStep.Load to g index) h f = made_load_items q (place_of at to) (Rattle.double_law.specs.Emitted.optional_place at index) (address g) h f.0 f.1
made_step address size q at (MidStep.Store g index from) h f = made_store_items q (Rattle.double_law.specs.Emitted.optional_place at index) (place_of at from) (address g) f.0 f.1
made_step address size q at (MidStep.Input to) h f = made_then (input_items (target (place_of at to))) (kept (place_of at to)) (made_input_of (target (place_of at to)) (target_value q (place_of at to) f)) (made_kept q (place_of at to) h f)
made_step address size q at (MidStep.Output from) h f = made_then (brought (place_of at from) (Value 0)) (service_items 1) (made_brought q (place_of at from) (Value 0) f (value 0 Rattle.std.proofs.Common.zero-le)) made_output
made_step address size q at (MidStep.Deep v) h f = made_then (fetched (place_of at v) 0) (test (source (place_of at v) 0) 9) (made_fetched q (place_of at v) 0 zero_one f) (made_test_of (source (place_of at v) 0) 9 (source_value q (place_of at v) 0 zero_one f) (omega arith) (omega arith))

-- ---- ends and whole blocks

-- Items that are bare forms and a bare close, all of which fit.
pub record MadeBlock (items : List Item) (close : Close) : Type 0 where
  pub forms : List Form
  pub is : items ≡ block_of forms close
  pub fit : Each FormFits forms
  pub bare : Each Bare forms
  pub close_fits : CloseFits close
  pub bare_close : BareClose close

pub block_then : (xs ys : List Item) (c : Close) → Made xs → MadeBlock ys c → MadeBlock (xs ++ ys) c
block_then xs ys c a b = record {
  forms = a.forms ++ b.forms;
  is = ap (λ (l : List Item). l ++ ys) a.is ∙ (ap (λ (l : List Item). flat_map form_items a.forms ++ l) b.is ∙
      (sym (append_assoc (flat_map form_items a.forms) (flat_map form_items b.forms) (close_items c)) ∙ ap (λ (l : List Item). l ++ close_items c) (sym (flat_append a.forms b.forms))));
  fit = each_append FormFits a.forms b.forms a.fit b.fit;
  bare = each_append Bare a.forms b.forms a.bare b.bare;
  close_fits = b.close_fits;
  bare_close = b.bare_close;
}

closed : (c : Close) → CloseFits c → BareClose c → MadeBlock (close_items c) c
closed c f b = record { forms = []; is = refl; fit = tt; bare = tt; close_fits = f; bare_close = b }

argument_small : (i : ℕ) → 2 ^ 16 - 8 * (i + 1) < 2 ^ 16
argument_small i = omega arith

-- Of each variable of a list the place fits.
abbrev pub EachFits : ℕ → Places → List ℕ → Type 0
EachFits q at [] = Unit {0}
EachFits q at (v ∷ vs) = PlaceFits q (place_of at v) × EachFits q at vs

made_arguments : (q : ℕ) (at : Places) (i : ℕ) (vs : List ℕ) → EachFits q at vs → Made (Rattle.double_law.specs.Emitted.argument_items at i vs)
made_arguments q at i [] f = made_nothing
made_arguments q at i (v ∷ vs) f =
    let pl : Place = place_of at v in
    let st : List Item = store (source pl 0) Stack (2 ^ 16 - 8 * (i + 1)) in
    made_then (fetched pl 0) (st ++ Rattle.double_law.specs.Emitted.argument_items at (i + 1) vs) (made_fetched q pl 0 zero_one f.0)
    (made_then st (Rattle.double_law.specs.Emitted.argument_items at (i + 1) vs) (made_store (source pl 0) Stack (2 ^ 16 - 8 * (i + 1)) (carried_of (source pl 0) (source_value q pl 0 zero_one f.0)) tt (argument_small i)) (made_arguments q at (i + 1) vs f.1))

-- the two halves of the number of the next block
pub made_call : (g : ℕ) → MadeBlock (call_items g) (Call g)
made_call g = record {
  forms = Alone (record { instr = mips.Lui 25 0; class = class.Shadow; fix = fix.ReturnHigh }) ∷ Alone (record { instr = mips.Ori 25 25 0; class = class.Shadow; fix = fix.ReturnLow }) ∷ [];
  is = refl;
  fit = (
    record { stream = refl; computes = refl; no_product = refl; no_move = refl; own = (inr refl, tt); load_fits = tt; half_fits = (refl, refl) },
    (record { stream = refl; computes = refl; no_product = refl; no_move = refl; own = (inr refl, (inr refl, tt)); load_fits = tt; half_fits = (refl, refl) }, tt),
  );
  bare = (tt, (tt, tt));
  close_fits = tt;
  bare_close = tt;
}

branch_block : (r : Role) (when : Bool) (t : ℕ) → IsValue r → MadeBlock (close_items (Branch false (reg_in First r) when t)) (Branch false (reg_in First r) when t)
branch_block r when t (value k h) = closed (Branch false (4 + k) when t) (value_four k h) refl

abbrev pub EndPlacesFit : ℕ → Places → MidEnd → Type 0
EndPlacesFit q at (line.Jump to) = Unit {0}
EndPlacesFit q at (line.Branch v when to) = PlaceFits q (place_of at v)
EndPlacesFit q at (line.Call g args result) = EachFits q at args
EndPlacesFit q at (line.Return None) = Unit {0}
EndPlacesFit q at (line.Return (Some v)) = PlaceFits q (place_of at v)

made_return : (q : ℕ) (first : List Item) → Made first → MadeBlock (first ++ (load Link Stack 0 ++ (both (λ t. mips.Addiu (reg_in t Stack) (reg_in t Stack) (8 * q)) ++ plain (mips.Jr 31) class.Act ∷ plain nop class.Act ∷ []))) (Return false)
made_return q first m =
    let ad : List Item = both (λ t. mips.Addiu (reg_in t Stack) (reg_in t Stack) (8 * q)) in
    let tl : List Item = plain (mips.Jr 31) class.Act ∷ plain nop class.Act ∷ [] in
    block_then first (load Link Stack 0 ++ (ad ++ tl)) (Return false) m (block_then (load Link Stack 0) (ad ++ tl) (Return false) (made_load Link Stack 0 tt tt) (block_then ad tl (Return false) (made_add_stack (8 * q)) (closed (Return false) tt refl)))

-- how a block closes that has an end
abbrev pub close_of : ℕ → Places → MidEnd → Close
close_of first at (line.Jump to) = Jump (first + to)
close_of first at (line.Branch v when to) = Branch false (reg_in First (source (place_of at v) 0)) when (first + to)
close_of first at (line.Call g args result) = Call g
close_of first at (line.Return from) = Return false

-- each end becomes bare forms and a close
pub made_end : (first q : ℕ) (at : Places) (e : MidEnd) → EndPlacesFit q at e → MadeBlock (Rattle.double_law.specs.Emitted.end_items first q at e) (close_of first at e)
made_end first q at (line.Jump to) f = closed (Jump (first + to)) tt tt
made_end first q at (line.Branch v true to) f = block_then (fetched (place_of at v) 0) (close_items (Branch false (reg_in First (source (place_of at v) 0)) true (first + to))) (Branch false (reg_in First (source (place_of at v) 0)) true (first + to)) (made_fetched q (place_of at v) 0 zero_one f) (branch_block (source (place_of at v) 0) true (first + to) (source_value q (place_of at v) 0 zero_one f))
made_end first q at (line.Branch v false to) f = block_then (fetched (place_of at v) 0) (close_items (Branch false (reg_in First (source (place_of at v) 0)) false (first + to))) (Branch false (reg_in First (source (place_of at v) 0)) false (first + to)) (made_fetched q (place_of at v) 0 zero_one f) (branch_block (source (place_of at v) 0) false (first + to) (source_value q (place_of at v) 0 zero_one f))
made_end first q at (line.Call g args result) f = block_then (Rattle.double_law.specs.Emitted.argument_items at 0 args) (call_items g) (Call g) (made_arguments q at 0 args f) (made_call g)
made_end first q at (line.Return None) f = made_return q (both (λ t. mips.Addu (reg_in t (Value 0)) 0 0)) (made_both (λ t. mips.Addu (reg_in t (Value 0)) 0 0) (λ t. row_addu t (reg_in t (Value 0)) 0 0 (may_role t (Value 0) Rattle.std.proofs.Common.zero-le) (may_zero t) (may_zero t)))
made_end first q at (line.Return (Some v)) f = made_return q (brought (place_of at v) (Value 0)) (made_brought q (place_of at v) (Value 0) f (value 0 Rattle.std.proofs.Common.zero-le))

-- the starts of blocks
pub made_result : (q : ℕ) (pl : Place) → q ≤ 4002 → PlaceFits q pl → Made (result_to pl)
made_result q (Pair k) h f = made_move (Value (k + 2)) (Value 0) (pair_nine k f) Rattle.std.proofs.Common.zero-le
made_result q (Slot s) h f = made_store (Value 0) Stack (slot_offset s) Rattle.std.proofs.Common.zero-le tt (slot_small s q f h)

made_parameters : (q : ℕ) (at : Places) (i n : ℕ) → ((j : ℕ) → PlaceFits q (place_of at (i + j)) ⊎ (n ≤ j)) → Made (Rattle.double_law.specs.Emitted.parameter_items at q i n)
made_parameters q at i zero f = made_nothing
made_parameters q at i (suc n) f = made_then (Rattle.double_law.specs.Emitted.parameter_load (place_of at i) q i) (Rattle.double_law.specs.Emitted.parameter_items at q (i + 1) n)
    (one (place_of at i) (elim (f 0) as (λ z. PlaceFits q (place_of at i)) [ inl h ↦ subst (λ (k : ℕ). PlaceFits q (place_of at k)) (Rattle.std.proofs.Common.add-zero i) h | inr h ↦ absurd (Rattle.std.proofs.Common.not-suc-le-zero h) ]))
    (made_parameters q at (i + 1) n (λ j. elim (f (suc j)) as (λ z. PlaceFits q (place_of at (i + 1 + j)) ⊎ (n ≤ j)) [ inl h ↦ inl (subst (λ (k : ℕ). PlaceFits q (place_of at k)) (shift i j) h) | inr h ↦ inr (Rattle.std.proofs.Common.le_of_suc-le-suc h) ]))
  where
    shift : (i j : ℕ) → i + suc j ≡ i + 1 + j
    shift i j = omega arith

    one : (pl : Place) → PlaceFits q pl → Made (Rattle.double_law.specs.Emitted.parameter_load pl q i)
    one (Pair k) h = made_load (Value (k + 2)) Stack (8 * (q - (i + 1))) (pair_nine k h) tt
    one (Slot s) h = made_nothing

pub made_enter : (q params : ℕ) (at : Places) → ((j : ℕ) → PlaceFits q (place_of at (0 + j)) ⊎ (params ≤ j)) → Made (Rattle.double_law.specs.Emitted.enter_items at q params)
made_enter q params at f =
    let ad : List Item = both (λ t. mips.Addiu (reg_in t Stack) (reg_in t Stack) (2 ^ 16 - 8 * q)) in
    let ps : List Item = Rattle.double_law.specs.Emitted.parameter_items at q 0 params in
    made_then ad (store Link Stack 0 ++ ps) (made_add_stack (2 ^ 16 - 8 * q)) (made_then (store Link Stack 0) ps (made_store Link Stack 0 tt tt (omega arith)) (made_parameters q at 0 params f))

-- block 1
pub made_exit : MadeBlock (Rattle.double_law.specs.Program.exit_items) (Exit false)
made_exit = closed (Exit false) tt refl
