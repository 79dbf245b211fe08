-- What an item of a block says of how the block closes.
use Rattle.std.proofs.Common.{◌≡◌, ◌≢◌, ◌<◌, ℕ, zero, suc, ◌+◌, ◌%◌, ◌^◌, arith, ap, refl, sym, ◌∙◌, subst, List, [], ◌∷◌, ◌++◌, append_assoc, length, Bool, true, false, inl, inr, ⊎_elim, flat_map}
use Rattle.std.specs.Prelude.{Contains}
use Rattle.mips_isa.specs.declared.instr.Instr.{Instr}
use Rattle.mips_isa.specs.declared.instr.Instr.TheVariants.{Addu, Beq, Bne, Break, J, Jal, Jr, Ori, Sw, Syscall}
use Rattle.mips_isa.specs.Machine.{is_product}
use Rattle.mips_isa.specs.Locality.{is_data, is_move}
use Rattle.hard_items.specs.declared.code.Class.TheVariants.{Act, Check, Input}
use Rattle.hard_items.specs.declared.code.Fix.{Fix}
use Rattle.hard_items.specs.declared.code.Fix.TheVariants.{Plain, Block, Function, ReturnHigh, ReturnLow}
use Rattle.hard_items.specs.declared.code.Item.{Item}
use Rattle.hard_items.specs.Streams.{nop, plain, shadow_of}
use Rattle.hard_items.specs.Forms.{Each, Form, Alone, Product, Store, Test, Output, Takes, Idle, Close, Jump, Branch, Call, Return, Exit, form_items, close_items, block_of, FormFits, HalfFits, check_if, service_number, going}
use Rattle.hard_items.specs.WellFormed.{FieldFits}
use Rattle.hard_items.specs.Keeping.{leaps}

no_true : true ≡ false → ⊥
no_true e = cc

-- The field names no block and no function.
abbrev pub NoWay : Fix → Type 0
NoWay Plain = Unit {0}
NoWay (Block t) = ⊥
NoWay (Function f) = ⊥
NoWay ReturnHigh = Unit {0}
NoWay ReturnLow = Unit {0}

pub data Says (c : Close) (i : Item) : Type 0 where
  stays : leaps i.instr ≡ false → NoWay i.fix → FieldFits i.fix i.instr → Says c i
  jumps : (t : ℕ) → c ≡ Jump t → i ≡ going (J 0) (Block t) → Says c i
  branches_ne : (k : Bool) (r t : ℕ) → c ≡ Branch k r true t → i ≡ going (Bne r 0 0) (Block t) → Says c i
  branches_eq : (k : Bool) (r t : ℕ) → c ≡ Branch k r false t → i ≡ going (Beq r 0 0) (Block t) → Says c i
  calls : (f : ℕ) → c ≡ Call f → i ≡ going (Jal 0) (Function f) → Says c i
  returns : (k : Bool) → c ≡ Return k → i ≡ plain (Jr 31) Act → Says c i

each_append : {A : Type 0} (P : A → Type 0) (xs ys : List A) → Each P xs → Each P ys → Each P (xs ++ ys)
each_append P [] ys h k = k
each_append P (x ∷ xs) ys h k = (h.0, each_append P xs ys h.1 k)

data_leaps : (x : Instr) → is_data x ≡ true → leaps x ≡ false
data_leaps (Jr rs) h = absurd (no_true (sym h))
data_leaps (J target) h = absurd (no_true (sym h))
data_leaps (Jal target) h = absurd (no_true (sym h))
data_leaps x h = refl

product_leaps : (x : Instr) → is_product x ≡ true → leaps x ≡ false
product_leaps (Jr rs) h = absurd (no_true (sym h))
product_leaps (J target) h = absurd (no_true (sym h))
product_leaps (Jal target) h = absurd (no_true (sym h))
product_leaps x h = refl

move_leaps : (x : Instr) → is_move x ≡ true → leaps x ≡ false
move_leaps (Jr rs) h = absurd (no_true (sym h))
move_leaps (J target) h = absurd (no_true (sym h))
move_leaps (Jal target) h = absurd (no_true (sym h))
move_leaps x h = refl

plain_fits : (f : Fix) (x : Instr) → f ≡ Plain → leaps x ≡ false → FieldFits f x
plain_fits f x e l = subst (λ (z : Fix). FieldFits z x) (sym e) (by x l)
  where
    by : (x : Instr) → leaps x ≡ false → FieldFits Plain x
    by (J t) h = absurd (no_true h)
    by (Jal t) h = absurd (no_true h)
    by y h = tt

plain_way : (f : Fix) → f ≡ Plain → NoWay f
plain_way f e = subst NoWay (sym e) tt

half_way : (i : Item) (f : Fix) → HalfFits i f → NoWay f
half_way i Plain h = tt
half_way i (Block t) h = h
half_way i (Function f) h = h
half_way i ReturnHigh h = tt
half_way i ReturnLow h = tt

half_field : (i : Item) (f : Fix) → HalfFits i f → leaps i.instr ≡ false → FieldFits f i.instr
half_field i Plain h l = plain_fits Plain i.instr refl l
half_field i (Block t) h l = absurd h
half_field i (Function f) h l = absurd h
half_field i ReturnHigh h l = subst (λ (x : Instr). FieldFits ReturnHigh x) (sym h.1) refl
half_field i ReturnLow h l = subst (λ (x : Instr). FieldFits ReturnLow x) (sym h.1) refl

module _ (c : Close) where
  quiet : (i : Item) → leaps i.instr ≡ false → i.fix ≡ Plain → Says c i
  quiet i l e = stays l (plain_way i.fix e) (plain_fits i.fix i.instr e l)

  check_says : (k : Bool) (m : ℕ) → Each (Says c) (check_if k m)
  check_says true m = (quiet (plain (Beq m (shadow_of m) 2) Check) refl refl, (quiet (plain nop Check) refl refl, (quiet (plain (Break 1) Check) refl refl, tt)))
  check_says false m = tt

  number_says : (k : Bool) (n : ℕ) → Each (Says c) (service_number k n)
  number_says true n = (quiet (plain (Beq 4 14 2) Check) refl refl, (quiet (plain (Ori 2 0 n) Act) refl refl, (quiet (plain (Break 1) Check) refl refl, tt)))
  number_says false n = (quiet (plain (Ori 2 0 n) Act) refl refl, tt)

  form_says : (f : Form) → FormFits f → Each (Says c) (form_items f)
  form_says (Alone i) h = (stays (data_leaps i.instr h.computes) (half_way i i.fix h.half_fits) (half_field i i.fix h.half_fits (data_leaps i.instr h.computes)), tt)
  form_says (Product i j) h = (quiet i (product_leaps i.instr h.product) h.plain_product, (quiet j (move_leaps j.instr h.move) h.plain_move, tt))
  form_says (Store k v b o) h = each_append (Says c) (check_if k v) (check_if k b ++ stores) (check_says k v) (each_append (Says c) (check_if k b) stores (check_says k b)
      (quiet (plain (Sw v b o) Act) refl refl, (quiet (plain (Sw (shadow_of v) (shadow_of b) ((o + 4) % 2 ^ 16)) Act) refl refl, tt)))
    where
      stores : List Item
      stores = plain (Sw v b o) Act ∷ plain (Sw (shadow_of v) (shadow_of b) ((o + 4) % 2 ^ 16)) Act ∷ []
  form_says (Test k r code) h = each_append (Says c) (check_if k r) (plain (Bne r 0 2) Act ∷ plain nop Act ∷ plain (Break code) Act ∷ []) (check_says k r)
      (quiet (plain (Bne r 0 2) Act) refl refl, (quiet (plain nop Act) refl refl, (quiet (plain (Break code) Act) refl refl, tt)))
  form_says (Output k) h = each_append (Says c) (service_number k 1) (plain Syscall Act ∷ []) (number_says k 1) (quiet (plain Syscall Act) refl refl, tt)
  form_says (Takes r) h = (quiet (plain (Ori 2 0 5) Input) refl refl, (quiet (plain Syscall Input) refl refl, (quiet (plain (Addu r 2 0) Input) refl refl, (quiet (plain (Addu (shadow_of r) 2 0) Input) refl refl, tt))))
  form_says Idle h = (quiet (plain nop Act) refl refl, tt)

  forms_say : (fs : List Form) → Each FormFits fs → Each (Says c) (flat_map form_items fs)
  forms_say [] h = tt
  forms_say (f ∷ fs) h = each_append (Says c) (form_items f) (flat_map form_items fs) (form_says f h.0) (forms_say fs h.1)

  slot_says : Says c (plain nop Act)
  slot_says = quiet (plain nop Act) refl refl

close_says : (c : Close) → Each (Says c) (close_items c)
close_says (Jump t) = (jumps t refl refl, (slot_says (Jump t), tt))
close_says (Branch k r true t) = each_append (Says (Branch k r true t)) (check_if k r) (going (Bne r 0 0) (Block t) ∷ plain nop Act ∷ []) (check_says (Branch k r true t) k r) (branches_ne k r t refl refl, (slot_says (Branch k r true t), tt))
close_says (Branch k r false t) = each_append (Says (Branch k r false t)) (check_if k r) (going (Beq r 0 0) (Block t) ∷ plain nop Act ∷ []) (check_says (Branch k r false t) k r) (branches_eq k r t refl refl, (slot_says (Branch k r false t), tt))
close_says (Call f) = (calls f refl refl, (slot_says (Call f), tt))
close_says (Return k) = each_append (Says (Return k)) (check_if k 31) (plain (Jr 31) Act ∷ plain nop Act ∷ []) (check_says (Return k) k 31) (returns k refl refl, (slot_says (Return k), tt))
close_says (Exit k) = each_append (Says (Exit k)) (service_number k 17) (plain Syscall Act ∷ plain (Break 1) Act ∷ []) (number_says (Exit k) k 17) (quiet (Exit k) (plain Syscall Act) refl refl, (quiet (Exit k) (plain (Break 1) Act) refl refl, tt))

pub block_says : (fs : List Form) (c : Close) → Each FormFits fs → Each (Says c) (block_of fs c)
block_says fs c h = each_append (Says c) (flat_map form_items fs) (close_items c) (forms_say c fs h) (close_says c)

-- what is true of each element is true of one that a list contains
pub each_at : {A : Type 0} (P : A → Type 0) (xs : List A) (x : A) → Each P xs → Contains xs x → P x
each_at P [] x h c = absurd (Rattle.std.proofs.Common.not-suc-le-zero c.1)
each_at P (y ∷ ys) x h (zero, l, e) = subst P e h.0
each_at P (y ∷ ys) x h (suc n, l, e) = each_at P ys x h.1 (n, Rattle.std.proofs.Common.le_of_suc-le-suc l, e)

-- ---- the items of each close

last_in : (xs ys : List Item) (i : Item) → Contains ys i → Contains (xs ++ ys) i
last_in [] ys i c = c
last_in (x ∷ xs) ys i c = let d : Contains (xs ++ ys) i = last_in xs ys i c in (suc d.0, Rattle.std.proofs.Common.suc-le-suc d.1, d.2)

head_in : (i : Item) (xs : List Item) → Contains (i ∷ xs) i
head_in i xs = (0, Rattle.std.proofs.Common.zero-lt-suc (length xs), refl)

-- The item by which a block goes on stands in it.
pub jump_in : (fs : List Form) (t : ℕ) → Contains (block_of fs (Jump t)) (going (J 0) (Block t))
jump_in fs t = last_in (flat_map form_items fs) (close_items (Jump t)) (going (J 0) (Block t)) (head_in (going (J 0) (Block t)) (plain nop Act ∷ []))

pub call_in : (fs : List Form) (f : ℕ) → Contains (block_of fs (Call f)) (going (Jal 0) (Function f))
call_in fs f = last_in (flat_map form_items fs) (close_items (Call f)) (going (Jal 0) (Function f)) (head_in (going (Jal 0) (Function f)) (plain nop Act ∷ []))

pub return_in : (fs : List Form) (k : Bool) → Contains (block_of fs (Return k)) (plain (Jr 31) Act)
return_in fs k = last_in (flat_map form_items fs) (close_items (Return k)) (plain (Jr 31) Act) (last_in (check_if k 31) (plain (Jr 31) Act ∷ plain nop Act ∷ []) (plain (Jr 31) Act) (head_in (plain (Jr 31) Act) (plain nop Act ∷ [])))

pub branch_ne_in : (fs : List Form) (k : Bool) (r t : ℕ) → Contains (block_of fs (Branch k r true t)) (going (Bne r 0 0) (Block t))
branch_ne_in fs k r t = last_in (flat_map form_items fs) (close_items (Branch k r true t)) (going (Bne r 0 0) (Block t)) (last_in (check_if k r) (going (Bne r 0 0) (Block t) ∷ plain nop Act ∷ []) (going (Bne r 0 0) (Block t)) (head_in (going (Bne r 0 0) (Block t)) (plain nop Act ∷ [])))

pub branch_eq_in : (fs : List Form) (k : Bool) (r t : ℕ) → Contains (block_of fs (Branch k r false t)) (going (Beq r 0 0) (Block t))
branch_eq_in fs k r t = last_in (flat_map form_items fs) (close_items (Branch k r false t)) (going (Beq r 0 0) (Block t)) (last_in (check_if k r) (going (Beq r 0 0) (Block t) ∷ plain nop Act ∷ []) (going (Beq r 0 0) (Block t)) (head_in (going (Beq r 0 0) (Block t)) (plain nop Act ∷ [])))
