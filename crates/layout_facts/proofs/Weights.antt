-- Each form lists at most as many windows as it has words.
use Rattle.std.proofs.Common.{◌≡◌, ◌≤◌, ℕ, zero, suc, ◌+◌, ◌%◌, ◌^◌, ◌*◌, arith, ap, refl, sym, ◌∙◌, subst, List, [], ◌∷◌, ◌++◌, length, Bool, true, false, inl, inr}
use Rattle.std.specs.Prelude.{Option, Some, None, ◌==◌, ◌&&◌, ◌||◌, not, if◌then◌else◌, IsTrue, flat_map}
use Rattle.std.proofs.lemmas.Bool.{cases_eq, ne_eqb}
use Rattle.std.proofs.lemmas.List.{append_assoc, length-append}
use Rattle.mips_isa.specs.declared.instr.Instr.{Instr}
use Rattle.mips_isa.specs.declared.instr.Instr.TheVariants.{Sll, Sw, Beq, Bne, J, Jal, Jr, Ori, Syscall, Break, Xor, Xori}
use Rattle.mips_isa.specs.Machine.{reads_of, writes_of, among, is_product}
use Rattle.mips_isa.specs.Locality.{is_data, is_move}
use Rattle.hard_items.specs.declared.code.Class.{Class}
use Rattle.hard_items.specs.declared.code.Class.TheVariants.{Master, Shadow, Check, Act, Head, Input}
use Rattle.hard_items.specs.declared.code.Fix.{Fix}
use Rattle.hard_items.specs.declared.code.Fix.TheVariants.{Plain, Block, Function, ReturnHigh, ReturnLow}
use Rattle.hard_items.specs.declared.code.Item.{Item}
use Rattle.hard_items.specs.declared.code.HardProgram.{HardProgram}
use Rattle.hard_items.specs.declared.code.Mark.{Mark}
use Rattle.hard_items.specs.Streams.{shadow_of, touched}
use Rattle.hard_items.specs.Forms.{Each, Form, Alone, Product, Store, Test, Output, Takes, Idle, Close, Jump, Branch, Call, Return, Exit, form_items, close_items, is_value, FormFits, CloseFits, HasChecks, CloseHasChecks, HalfFits, MayTouch}
use Rattle.hard_items.specs.Rules.{Checked}
use Rattle.layout_law.specs.Layout.{filled}
use Rattle.layout_law.proofs.Lines.{head_of}
use Rattle.layout_facts.proofs.Decoded.{items_instrs}
use Rattle.layout_facts.proofs.Listed.{is_report, is_check_report, second, critical, longer, last, first_reads, checks, services, count}

no_true : true ≡ false → ⊥
no_true e = cc

-- ---- what stands behind a form

-- The first instruction behind a form uses neither register 4 nor 14 critically, does not read register 2, and is no report.
pub record First (x : Instr) (more : List Instr) : Type 0 where
  pub four : critical x more 4 ≡ false
  pub fourteen : critical x more 14 ≡ false
  pub two : among 2 (reads_of x) ≡ false
  pub stays : is_check_report x ≡ false

abbrev pub Front : List Instr → Type 0
Front [] = Unit {0}
Front (x ∷ more) = First x more

data_calm : (x : Instr) (more : List Instr) (r : ℕ) → is_data x ≡ true → critical x more r ≡ false
data_calm (Jr rs) more r h = absurd (no_true (sym h))
data_calm Syscall more r h = absurd (no_true (sym h))
data_calm (Beq rs rt imm) more r h = absurd (no_true (sym h))
data_calm (Bne rs rt imm) more r h = absurd (no_true (sym h))
data_calm (Sw rt rs imm) more r h = absurd (no_true (sym h))
data_calm x more r h = refl

data_stays : (x : Instr) → is_data x ≡ true → is_check_report x ≡ false
data_stays (Break code) h = absurd (no_true (sym h))
data_stays x h = refl

data_light : (x : Instr) (more : List Instr) → is_data x ≡ true → checks x more + services x more ≡ 0
data_light Syscall more h = absurd (no_true (sym h))
data_light (Beq rs rt imm) more h = absurd (no_true (sym h))
data_light x more h = refl

product_data : (x : Instr) → is_product x ≡ true → is_data x ≡ true
product_data (Jr rs) h = absurd (no_true (sym h))
product_data Syscall h = absurd (no_true (sym h))
product_data (Break code) h = absurd (no_true (sym h))
product_data (J target) h = absurd (no_true (sym h))
product_data (Jal target) h = absurd (no_true (sym h))
product_data (Beq rs rt imm) h = absurd (no_true (sym h))
product_data (Bne rs rt imm) h = absurd (no_true (sym h))
product_data (Sw rt rs imm) h = absurd (no_true (sym h))
product_data x h = refl

move_data : (x : Instr) → is_move x ≡ true → is_data x ≡ true
move_data (Jr rs) h = absurd (no_true (sym h))
move_data Syscall h = absurd (no_true (sym h))
move_data (Break code) h = absurd (no_true (sym h))
move_data (J target) h = absurd (no_true (sym h))
move_data (Jal target) h = absurd (no_true (sym h))
move_data (Beq rs rt imm) h = absurd (no_true (sym h))
move_data (Bne rs rt imm) h = absurd (no_true (sym h))
move_data (Sw rt rs imm) h = absurd (no_true (sym h))
move_data x h = refl

-- Register 2 is of no stream.
no_two : (c : Class) → MayTouch c 2 → ⊥
no_two c (inl e) = no 2 refl e
  where
    no : (n : ℕ) → n ≡ 2 → n ≡ 0 → ⊥
    no n e f = omega arith
no_two Master (inr h) = no h
  where
    no : IsTrue false → ⊥
    no e = cc
no_two Shadow (inr h) = no h
  where
    no : IsTrue false → ⊥
    no e = cc
no_two Check (inr h) = no h
  where
    no : IsTrue false → ⊥
    no e = cc
no_two Act (inr h) = no h
  where
    no : IsTrue false → ⊥
    no e = cc
no_two Head (inr h) = no h
  where
    no : IsTrue false → ⊥
    no e = cc
no_two Input (inr h) = no h
  where
    no : IsTrue false → ⊥
    no e = cc

own_two : (c : Class) (xs ys : List ℕ) → Each (MayTouch c) (xs ++ ys) → among 2 xs ≡ false
own_two c [] ys h = refl
own_two c (x ∷ xs) ys h = elim (cases_eq 2 x) [
  | inl e ↦ absurd (no_two c (subst (MayTouch c) (sym e) h.0))
  | inr n ↦ ap (λ (z : Bool). z || among 2 xs) (ne_eqb 2 x n) ∙ own_two c xs ys h.1
]

data_first : (c : Class) (x : Instr) (more : List Instr) → is_data x ≡ true → Each (MayTouch c) (touched x) → First x more
data_first c x more d h = record { four = data_calm x more 4 d; fourteen = data_calm x more 14 d; two = own_two c (reads_of x) (writes_of x) h; stays = data_stays x d }

-- ---- counts

last_few : (n r : ℕ) (xs : List Instr) → last n r xs ≤ n
last_few zero r xs = omega arith
last_few (suc n) r [] = omega arith
last_few (suc n) r (x ∷ xs) = one (last n r xs) n (critical x xs r) (last_few n r xs)
  where
    one : (m n : ℕ) (z : Bool) → m ≤ n → longer m z ≤ suc n
    one zero n true h = omega arith
    one zero n false h = omega arith
    one (suc m) n z h = omega (arith, h)

-- An instruction that lists none.
light : (x : Instr) (more : List Instr) → checks x more + services x more ≡ 0 → count (x ∷ more) ≤ 1 + count more
light x more e = up (checks x more + services x more) (count more) e
  where
    up : (w c : ℕ) → w ≡ 0 → w + c ≤ 1 + c
    up w c e = omega arith

-- The window of a use at the third place behind a check.
third : (a b c d : Bool) → longer (longer (longer (longer 0 a) b) c) d ≤ 4
third a b c d = by a b c d
  where
    by : (a b c d : Bool) → longer (longer (longer (longer 0 a) b) c) d ≤ 4
    by true b c d = omega arith
    by false true c d = omega arith
    by false false true d = omega arith
    by false false false true = omega arith
    by false false false false = omega arith

three : (b c d : Bool) → longer (longer (longer 0 b) c) d ≤ 3
three true c d = omega arith
three false true d = omega arith
three false false true = omega arith
three false false false = omega arith

value_apart : (r : ℕ) → IsTrue (is_value r) → ((r == shadow_of r) ≡ false) × ((0 == shadow_of r) ≡ false)
value_apart r h = grind arith

half_data : (p : HardProgram) (b at : ℕ) (i : Item) (f : Fix) → i.fix ≡ f → HalfFits i f → is_data i.instr ≡ true → Each (MayTouch i.class) (touched i.instr) → (is_data (filled p b at f i.instr) ≡ true) × ((more : List Instr) → First (filled p b at f i.instr) more)
half_data p b at i Plain e h d o = (d, (λ more. data_first i.class i.instr more d o))
half_data p b at i (Block t) e h d o = absurd h
half_data p b at i (Function g) e h d o = absurd h
half_data p b at i ReturnHigh e h d o = subst (λ (z : Instr). (is_data (filled p b at ReturnHigh z) ≡ true) × ((more : List Instr) → First (filled p b at ReturnHigh z) more)) (sym h.1) (refl, (λ more. record { four = refl; fourteen = refl; two = refl; stays = refl }))
half_data p b at i ReturnLow e h d o = subst (λ (z : Instr). (is_data (filled p b at ReturnLow z) ≡ true) × ((more : List Instr) → First (filled p b at ReturnLow z) more)) (sym h.1) (refl, (λ more. record { four = refl; fourteen = refl; two = refl; stays = refl }))

abbrev Light : HardProgram → (b at : ℕ) → List Item → List Instr → Type 0
Light p b at xs ys = (count (items_instrs p b at xs ++ ys) ≤ length xs + count ys) × Front (items_instrs p b at xs ++ ys)

-- The counts of a form by the weights of its words.
sum_1 : (c : ℕ) → 0 + c ≤ 1 + c
sum_1 c = omega arith

sum_2 : (c : ℕ) → 0 + (0 + c) ≤ 2 + c
sum_2 c = omega arith

sum_4 : (v w s c : ℕ) → v ≤ 3 → w ≤ 0 → s ≤ 0 → v + w + 0 + (0 + (0 + (0 + (1 + s) + c))) ≤ 4 + c
sum_4 v w s c h k l = omega arith

sum_takes : (c : ℕ) → 0 + (2 + (0 + (0 + c))) ≤ 4 + c
sum_takes c = omega arith

sum_5 : (v w u c : ℕ) → v ≤ 3 → w ≤ 0 → u ≤ 0 → v + w + 0 + (0 + (0 + (u + 0 + (0 + c)))) ≤ 5 + c
sum_5 v w u c h k l = omega arith

sum_exit : (c : ℕ) → 3 + (0 + (0 + (1 + (0 + c)))) ≤ 5 + c
sum_exit c = omega arith

sum_return : (c : ℕ) → 3 + (0 + (0 + (0 + (0 + c)))) ≤ 5 + c
sum_return c = omega arith

sum_6 : (v w c : ℕ) → v ≤ 3 → w ≤ 3 → v + w + 0 + (0 + (0 + (0 + (0 + (0 + c))))) ≤ 6 + c
sum_6 v w c h k = omega arith

sum_8 : (v w c : ℕ) → v ≤ 4 → w ≤ 4 → 0 + (0 + (0 + (v + w + 0 + (0 + (0 + (0 + (0 + c))))))) ≤ 8 + c
sum_8 v w c h k = omega arith

sum_head : (c : ℕ) → 0 + (0 + (0 + (0 + (0 + (0 + (0 + c)))))) ≤ 7 + c
sum_head c = omega arith

-- ---- forms

carried_two : (r : ℕ) → IsTrue (is_value r || r == 31) → ((2 == r) ≡ false) × ((2 == shadow_of r) ≡ false)
carried_two r h = grind arith

value_two : (r : ℕ) → IsTrue (is_value r) → ((2 == r) ≡ false) × ((2 == shadow_of r) ≡ false)
value_two r h = grind arith

two_read : (a b : Bool) → (a ≡ false) × (b ≡ false) → (a || (b || false)) ≡ false
two_read a b h = ap (λ (z : Bool). z || (b || false)) h.0 ∙ ap (λ (z : Bool). z || false) h.1

-- A check that skips a report stands first.
check_first : (x y : ℕ) (i : Instr) (more : List Instr) → ((2 == x) ≡ false) × ((2 == y) ≡ false) → First (Beq x y 2) (i ∷ Break 1 ∷ more)
check_first x y i more h = record { four = refl; fourteen = refl; two = two_read (2 == x) (2 == y) h; stays = refl }

first_last : (ys : List Instr) (r : ℕ) → ((x : Instr) (more : List Instr) → First x more → critical x more r ≡ false) → Front ys → last 1 r ys ≡ 0
first_last [] r f h = refl
first_last (y ∷ ys) r f h = ap (λ (z : Bool). longer 0 z) (f y ys h)

front_reads : (ys : List Instr) → Front ys → (if first_reads ys then 1 else 0) ≤ 0
front_reads [] h = omega arith
front_reads (y ∷ ys) h = subst (λ (z : Bool). (if z then 1 else 0) ≤ 0) (sym h.two) (omega arith)

stores_few : (v o k : ℕ) (ys : List Instr) → IsTrue (is_value v || v == 31) →
    (count (Beq v (shadow_of v) 2 ∷ Sll 0 0 0 ∷ Break 1 ∷ Beq o (shadow_of o) 2 ∷ Sll 0 0 0 ∷ Break 1 ∷ Sw v o k ∷ Sw (shadow_of v) (shadow_of o) ((k + 4) % 2 ^ 16) ∷ ys) ≤ 8 + count ys)
stores_few v o k ys h =
    let behind : List Instr = Sll 0 0 0 ∷ Break 1 ∷ Sw v o k ∷ Sw (shadow_of v) (shadow_of o) ((k + 4) % 2 ^ 16) ∷ ys in
    sum_8 (last 4 o behind) (last 4 (shadow_of o) behind) (count ys) (last_few 4 o behind) (last_few 4 (shadow_of o) behind)

test_few : (r code : ℕ) (ys : List Instr) → count (Beq r (shadow_of r) 2 ∷ Sll 0 0 0 ∷ Break 1 ∷ Bne r 0 2 ∷ Sll 0 0 0 ∷ Break code ∷ ys) ≤ 6 + count ys
test_few r code ys =
    let behind : List Instr = Sll 0 0 0 ∷ Break 1 ∷ Bne r 0 2 ∷ Sll 0 0 0 ∷ Break code ∷ ys in
    sum_6 (last 4 r behind) (last 4 (shadow_of r) behind) (count ys) (three (critical (Bne r 0 2) (Sll 0 0 0 ∷ Break code ∷ ys) r) false false) (three (critical (Bne r 0 2) (Sll 0 0 0 ∷ Break code ∷ ys) (shadow_of r)) false false)

output_few : (ys : List Instr) → Front ys → count (Beq 4 14 2 ∷ Ori 2 0 1 ∷ Break 1 ∷ Syscall ∷ ys) ≤ 4 + count ys
output_few ys h =
    let behind : List Instr = Ori 2 0 1 ∷ Break 1 ∷ Syscall ∷ ys in
    sum_4 (last 4 4 behind) (last 4 14 behind) (if first_reads ys then 1 else 0) (count ys)
    (subst (λ (z : ℕ). longer (longer (longer z true) false) false ≤ 3) (sym (first_last ys 4 (λ x more f. f.four) h)) (omega arith))
    (subst (λ (z : ℕ). longer (longer (longer z false) false) false ≤ 0) (sym (first_last ys 14 (λ x more f. f.fourteen) h)) (omega arith)) (front_reads ys h)

-- The branch that closes a block, behind its check.
not_other : (z a b : Bool) → (a ≡ false) × (b ≡ false) → (z && (a || b)) ≡ false
not_other true a b h = ap (λ (z : Bool). z || b) h.0 ∙ h.1
not_other false a b h = refl

unequal_few : (r off : ℕ) (ys : List Instr) → IsTrue (is_value r) → count (Beq r (shadow_of r) 2 ∷ Sll 0 0 0 ∷ Break 1 ∷ Bne r 0 off ∷ Sll 0 0 0 ∷ ys) ≤ 5 + count ys
unequal_few r off ys h =
    let behind : List Instr = Sll 0 0 0 ∷ Break 1 ∷ Bne r 0 off ∷ Sll 0 0 0 ∷ ys in
    sum_5 (last 4 r behind) (last 4 (shadow_of r) behind) 0 (count ys) (three (critical (Bne r 0 off) (Sll 0 0 0 ∷ ys) r) false false)
    (subst (λ (z : Bool). longer (longer (longer 0 z) false) false ≤ 0) (sym (not_other (not ((off == 2) && second is_report (Sll 0 0 0 ∷ ys))) (r == shadow_of r) (0 == shadow_of r) (value_apart r h))) (omega arith)) (omega arith)

no_check : (ys : List Instr) → Front ys → second is_check_report (Sll 0 0 0 ∷ ys) ≡ false
no_check [] h = refl
no_check (y ∷ ys) h = h.stays

no_more : (a s : Bool) (n : ℕ) → s ≡ false → (if a && s then n else 0) ≤ 0
no_more true s n e = subst (λ (z : Bool). (if z then n else 0) ≤ 0) (sym e) (omega arith)
no_more false s n e = omega arith

equal_few : (r off : ℕ) (ys : List Instr) → IsTrue (is_value r) → Front ys → count (Beq r (shadow_of r) 2 ∷ Sll 0 0 0 ∷ Break 1 ∷ Beq r 0 off ∷ Sll 0 0 0 ∷ ys) ≤ 5 + count ys
equal_few r off ys h f =
    let behind : List Instr = Sll 0 0 0 ∷ Break 1 ∷ Beq r 0 off ∷ Sll 0 0 0 ∷ ys in
    sum_5 (last 4 r behind) (last 4 (shadow_of r) behind) (checks (Beq r 0 off) (Sll 0 0 0 ∷ ys)) (count ys) (three (critical (Beq r 0 off) (Sll 0 0 0 ∷ ys) r) false false)
    (subst (λ (z : Bool). longer (longer (longer 0 z) false) false ≤ 0) (sym (not_other (not ((off == 2) && second is_report (Sll 0 0 0 ∷ ys))) (r == shadow_of r) (0 == shadow_of r) (value_apart r h))) (omega arith))
    (no_more (off == 2) (second is_check_report (Sll 0 0 0 ∷ ys)) (last 4 r (Sll 0 0 0 ∷ ys) + last 4 0 (Sll 0 0 0 ∷ ys)) (no_check ys f))

two_light : (x y : Instr) (ys : List Instr) → is_data x ≡ true → is_data y ≡ true → count (x ∷ y ∷ ys) ≤ 2 + count ys
two_light x y ys d e = up (count (x ∷ y ∷ ys)) (count (y ∷ ys)) (count ys) (light x (y ∷ ys) (data_light x (y ∷ ys) d)) (light y ys (data_light y ys e))
  where
    up : (a b c : ℕ) → a ≤ 1 + b → b ≤ 1 + c → a ≤ 2 + c
    up a b c h k = omega arith

pub form_light : (p : HardProgram) (b at : ℕ) (f : Form) → FormFits f → HasChecks f → (ys : List Instr) → Front ys → Light p b at (form_items f) ys
form_light p b at (Alone i) h c ys g =
    let d : (is_data (filled p b at i.fix i.instr) ≡ true) × ((more : List Instr) → First (filled p b at i.fix i.instr) more) = half_data p b at i i.fix refl h.half_fits h.computes h.own in
    (light (filled p b at i.fix i.instr) ys (data_light (filled p b at i.fix i.instr) ys d.0), d.1 ys)
form_light p b at (Product i j) h c ys g =
    let e : filled p b at i.fix i.instr ≡ i.instr = ap (λ (z : Fix). filled p b at z i.instr) h.plain_product in
    let f : filled p b (at + 4) j.fix j.instr ≡ j.instr = ap (λ (z : Fix). filled p b (at + 4) z j.instr) h.plain_move in
    let d : is_data i.instr ≡ true = product_data i.instr h.product in
    subst (λ (z : Instr). (count (z ∷ filled p b (at + 4) j.fix j.instr ∷ ys) ≤ 2 + count ys) × First z (filled p b (at + 4) j.fix j.instr ∷ ys)) (sym e)
    (subst (λ (z : Instr). (count (i.instr ∷ z ∷ ys) ≤ 2 + count ys) × First i.instr (z ∷ ys)) (sym f) (two_light i.instr j.instr ys d (move_data j.instr h.move), data_first i.class i.instr (j.instr ∷ ys) d h.own))
form_light p b at (Store true v o k) h c ys g = (stores_few v o k ys h.0, check_first v (shadow_of v) (Sll 0 0 0) (Beq o (shadow_of o) 2 ∷ Sll 0 0 0 ∷ Break 1 ∷ Sw v o k ∷ Sw (shadow_of v) (shadow_of o) ((k + 4) % 2 ^ 16) ∷ ys) (carried_two v h.0))
form_light p b at (Store false v o k) h c ys g = absurd (no_true (sym c))
form_light p b at (Test true r code) h c ys g = (test_few r code ys, check_first r (shadow_of r) (Sll 0 0 0) (Bne r 0 2 ∷ Sll 0 0 0 ∷ Break code ∷ ys) (value_two r h.0))
form_light p b at (Test false r code) h c ys g = absurd (no_true (sym c))
form_light p b at (Output true) h c ys g = (output_few ys g, check_first 4 14 (Ori 2 0 1) (Syscall ∷ ys) (refl, refl))
form_light p b at (Output false) h c ys g = absurd (no_true (sym c))
form_light p b at (Takes r) h c ys g = (sum_takes (count ys), record { four = refl; fourteen = refl; two = refl; stays = refl })
form_light p b at Idle h c ys g = (sum_1 (count ys), record { four = refl; fourteen = refl; two = refl; stays = refl })

pub close_light : (p : HardProgram) (b at : ℕ) (c : Close) → CloseFits c → CloseHasChecks c → (ys : List Instr) → Front ys → Light p b at (close_items c) ys
close_light p b at (Jump to) h k ys g = (sum_2 (count ys), record { four = refl; fourteen = refl; two = refl; stays = refl })
close_light p b at (Branch true r true to) h k ys g = (unequal_few r _ ys h, check_first r (shadow_of r) (Sll 0 0 0) _ (value_two r h))
close_light p b at (Branch true r false to) h k ys g = (equal_few r _ ys h g, check_first r (shadow_of r) (Sll 0 0 0) _ (value_two r h))
close_light p b at (Branch false r when to) h k ys g = absurd (no_true (sym k))
close_light p b at (Call f) h k ys g = (sum_2 (count ys), record { four = refl; fourteen = refl; two = refl; stays = refl })
close_light p b at (Return true) h k ys g = (sum_return (count ys), check_first 31 25 (Sll 0 0 0) (Jr 31 ∷ Sll 0 0 0 ∷ ys) (refl, refl))
close_light p b at (Return false) h k ys g = absurd (no_true (sym k))
close_light p b at (Exit true) h k ys g = (sum_exit (count ys), check_first 4 14 (Ori 2 0 17) (Syscall ∷ Break 1 ∷ ys) (refl, refl))
close_light p b at (Exit false) h k ys g = absurd (no_true (sym k))

head_light : (p : HardProgram) (b at : ℕ) (o : Option Mark) (ys : List Instr) → Front ys → Light p b at (head_of o) ys
head_light p b at None ys g = (none (count ys), g)
  where
    none : (c : ℕ) → c ≤ 0 + c
    none c = omega arith
head_light p b at (Some m) ys g = by m.fan
  where
    by : (z : Bool) → (count (Xori 24 24 m.d ∷ (if z then Xor 24 24 28 else Sll 0 0 0) ∷ Ori 1 0 m.s ∷ Ori 28 0 m.adjust ∷ Beq 24 1 2 ∷ Sll 0 0 0 ∷ Break 2 ∷ ys) ≤ 7 + count ys)
        × First (Xori 24 24 m.d) ((if z then Xor 24 24 28 else Sll 0 0 0) ∷ Ori 1 0 m.s ∷ Ori 28 0 m.adjust ∷ Beq 24 1 2 ∷ Sll 0 0 0 ∷ Break 2 ∷ ys)
    by true = (sum_head (count ys), record { four = refl; fourteen = refl; two = refl; stays = refl })
    by false = (sum_head (count ys), record { four = refl; fourteen = refl; two = refl; stays = refl })

-- ---- blocks

instrs_append : (p : HardProgram) (b at : ℕ) (xs zs : List Item) → items_instrs p b at (xs ++ zs) ≡ items_instrs p b at xs ++ items_instrs p b (at + 4 * length xs) zs
instrs_append p b at [] zs = ap (λ (z : ℕ). items_instrs p b z zs) (none at)
  where
    none : (a : ℕ) → a ≡ a + 4 * 0
    none a = omega arith
instrs_append p b at (x ∷ xs) zs = ap (λ (z : List Instr). filled p b at x.fix x.instr ∷ z) (instrs_append p b (at + 4) xs zs ∙ ap (λ (z : ℕ). items_instrs p b (at + 4) xs ++ items_instrs p b z zs) (move at (length xs)))
  where
    move : (a n : ℕ) → a + 4 + 4 * n ≡ a + 4 * suc n
    move a n = omega arith

light_both : (p : HardProgram) (b at : ℕ) (xs zs : List Item) (ys : List Instr) → Light p b at xs (items_instrs p b (at + 4 * length xs) zs ++ ys) → Light p b (at + 4 * length xs) zs ys → Light p b at (xs ++ zs) ys
light_both p b at xs zs ys h k =
    let e : items_instrs p b at (xs ++ zs) ++ ys ≡ items_instrs p b at xs ++ (items_instrs p b (at + 4 * length xs) zs ++ ys) =
    ap (λ (z : List Instr). z ++ ys) (instrs_append p b at xs zs) ∙ append_assoc (items_instrs p b at xs) (items_instrs p b (at + 4 * length xs) zs) ys in (
      more (count (items_instrs p b at (xs ++ zs) ++ ys)) (count (items_instrs p b at xs ++ (items_instrs p b (at + 4 * length xs) zs ++ ys))) (length xs) (length zs) (length (xs ++ zs)) (count (items_instrs p b (at + 4 * length xs) zs ++ ys)) (count ys) (ap count e) (length-append xs zs) h.0 k.0,
      subst Front (sym e) h.1,
    )
  where
    more : (a a' x z l m c : ℕ) → a ≡ a' → l ≡ x + z → a' ≤ x + m → m ≤ z + c → a ≤ l + c
    more a a' x z l m c e f h k = omega arith

forms_light : (p : HardProgram) (b at : ℕ) (fs : List Form) → Each FormFits fs → Each HasChecks fs → (ys : List Instr) → Front ys → Light p b at (flat_map form_items fs) ys
forms_light p b at [] h c ys g = (none (count ys), g)
  where
    none : (c : ℕ) → c ≤ 0 + c
    none c = omega arith
forms_light p b at (f ∷ fs) h c ys g =
    let later : Light p b (at + 4 * length (form_items f)) (flat_map form_items fs) ys = forms_light p b (at + 4 * length (form_items f)) fs h.1 c.1 ys g in
    light_both p b at (form_items f) (flat_map form_items fs) ys (form_light p b at f h.0 c.0 (items_instrs p b (at + 4 * length (form_items f)) (flat_map form_items fs) ++ ys) later.1) later

pub block_light : (p : HardProgram) (b at : ℕ) (o : Option Mark) (xs : List Item) → Checked xs → (ys : List Instr) → Front ys → Light p b at (head_of o ++ xs) ys
block_light p b at o xs k ys g =
    let start : ℕ = at + 4 * length (head_of o) in
    let close : ℕ = at + 4 * length (head_of o) + 4 * length (flat_map form_items k.formed.forms) in
    let last_ : Light p b close (close_items k.formed.close) ys = close_light p b close k.formed.close k.formed.close_fits k.close ys g in
    let forms : Light p b start (flat_map form_items k.formed.forms) (items_instrs p b close (close_items k.formed.close) ++ ys) = forms_light p b start k.formed.forms k.formed.fit k.each (items_instrs p b close (close_items k.formed.close) ++ ys) last_.1 in
    let own : Light p b start xs ys = subst (λ (z : List Item). Light p b start z ys) (sym k.formed.is) (light_both p b start (flat_map form_items k.formed.forms) (close_items k.formed.close) ys forms last_) in
    light_both p b at (head_of o) xs ys (head_light p b at o (items_instrs p b start xs ++ ys) own.1) own
