-- Where branches and jumps stand in a block that consists of forms.
use Rattle.std.proofs.Common.{◌≡◌, ◌≢◌, ◌<◌, ℕ, zero, suc, ◌+◌, ◌%◌, ◌^◌, arith, ap, refl, sym, ◌∙◌, subst, List, [], ◌∷◌, ◌++◌, append_assoc, length, Bool, true, false, inl, inr, flat_map}
use Rattle.std.specs.Prelude.{Option, Some, None, ◌⊎◌, slice_get}
use Rattle.mips_isa.specs.declared.instr.Instr.{Instr}
use Rattle.mips_isa.specs.declared.instr.Instr.TheVariants.{Beq, Bne, Break, J, Jal, Jr, Ori, Sw, Syscall}
use Rattle.mips_isa.specs.Machine.{is_product, is_jump}
use Rattle.mips_isa.specs.Locality.{is_data, is_move}
use Rattle.hard_items.specs.declared.code.Class.TheVariants.{Act, Check}
use Rattle.hard_items.specs.declared.code.Fix.{Fix}
use Rattle.hard_items.specs.declared.code.Fix.TheVariants.{Plain, Block}
use Rattle.hard_items.specs.declared.code.Item.{Item}
use Rattle.hard_items.specs.Streams.{nop, plain, shadow_of}
use Rattle.hard_items.specs.Forms.{Each, Form, Alone, Product, Store, Test, Output, Takes, Idle, Close, Jump, Branch, Call, Return, Exit, form_items, close_items, block_of, FormFits, Formed, check, check_if, service_number}
use Rattle.hard_items.specs.WellFormed.{ItemAt, SkipsBreak, EndsWell}

no_true : true ≡ false → ⊥
no_true e = cc

-- ---- lines: what each item is among those behind it

-- A conditional branch that skips a break, behind which something stands.
pub record Skips (i : Item) (more : List Item) : Type 0 where
  pub rs : ℕ
  pub rt : ℕ
  pub conditional : (i.instr ≡ Beq rs rt 2) ⊎ (i.instr ≡ Bne rs rt 2)
  pub no_field : i.fix ≡ Plain
  pub slot : Item
  pub skipped : Item
  pub next : Item
  pub rest : List Item
  pub is : more ≡ slot ∷ skipped ∷ next ∷ rest
  pub code : ℕ
  pub is_break : skipped.instr ≡ Break code

-- A conditional branch.
abbrev pub IsConditional : Instr → Type 0
IsConditional x = (rs : ℕ) × (rt : ℕ) × (imm : ℕ) × ((x ≡ Beq rs rt imm) ⊎ (x ≡ Bne rs rt imm))

-- A jump that is the last item but one, or a branch with a field.
pub record Leaves (i : Item) (more : List Item) : Type 0 where
  pub last : length more ≡ 1
  pub field_ : IsConditional i.instr → i.fix ≢ Plain

pub data Line (i : Item) (more : List Item) : Type 0 where
  stays : is_jump i.instr ≡ false → Line i more
  skips : Skips i more → Line i more
  leaves : Leaves i more → Line i more

abbrev pub Lines : List Item → Type 0
Lines [] = Unit {0}
Lines (i ∷ more) = Line i more × Lines more

-- ---- forms are lines

data_stays : (x : Instr) → is_data x ≡ true → is_jump x ≡ false
data_stays (Jr rs) h = absurd (no_true (sym h))
data_stays (J target) h = absurd (no_true (sym h))
data_stays (Jal target) h = absurd (no_true (sym h))
data_stays (Beq rs rt imm) h = absurd (no_true (sym h))
data_stays (Bne rs rt imm) h = absurd (no_true (sym h))
data_stays x h = refl

product_stays : (x : Instr) → is_product x ≡ true → is_jump x ≡ false
product_stays (Jr rs) h = absurd (no_true (sym h))
product_stays (J target) h = absurd (no_true (sym h))
product_stays (Jal target) h = absurd (no_true (sym h))
product_stays (Beq rs rt imm) h = absurd (no_true (sym h))
product_stays (Bne rs rt imm) h = absurd (no_true (sym h))
product_stays x h = refl

move_stays : (x : Instr) → is_move x ≡ true → is_jump x ≡ false
move_stays (Jr rs) h = absurd (no_true (sym h))
move_stays (J target) h = absurd (no_true (sym h))
move_stays (Jal target) h = absurd (no_true (sym h))
move_stays (Beq rs rt imm) h = absurd (no_true (sym h))
move_stays (Bne rs rt imm) h = absurd (no_true (sym h))
move_stays x h = refl

equal_skips : (rs rt code : ℕ) (i j k n : Item) (rest : List Item) → i.instr ≡ Beq rs rt 2 → i.fix ≡ Plain → k.instr ≡ Break code → Line i (j ∷ k ∷ n ∷ rest)
equal_skips rs rt code i j k n rest e f g = skips (record { rs = rs; rt = rt; conditional = inl e; no_field = f; slot = j; skipped = k; next = n; rest = rest; is = refl; code = code; is_break = g })

other_skips : (rs rt code : ℕ) (i j k n : Item) (rest : List Item) → i.instr ≡ Bne rs rt 2 → i.fix ≡ Plain → k.instr ≡ Break code → Line i (j ∷ k ∷ n ∷ rest)
other_skips rs rt code i j k n rest e f g = skips (record { rs = rs; rt = rt; conditional = inr e; no_field = f; slot = j; skipped = k; next = n; rest = rest; is = refl; code = code; is_break = g })

-- Some items are not empty.
abbrev Begun : List Item → Type 0
Begun xs = (n : Item) × (rest : List Item) × (xs ≡ n ∷ rest)

check_lines : (x y : ℕ) (xs : List Item) → Begun xs → Lines xs → Lines (check x y ++ xs)
check_lines x y xs b l = subst (λ (z : List Item). Lines z → Lines (check x y ++ z)) (sym b.2)
    (λ h. (equal_skips x y 1 (plain (Beq x y 2) Check) (plain nop Check) (plain (Break 1) Check) b.0 b.1 refl refl refl, (stays refl, (stays refl, h)))) l

check_if_lines : (c : Bool) (m : ℕ) (xs : List Item) → Begun xs → Lines xs → Lines (check_if c m ++ xs)
check_if_lines true m xs b l = check_lines m (shadow_of m) xs b l
check_if_lines false m xs b l = l

check_if_begun : (c : Bool) (m : ℕ) (xs : List Item) → Begun xs → Begun (check_if c m ++ xs)
check_if_begun true m xs b = (plain (Beq m (shadow_of m) 2) Check, plain nop Check ∷ plain (Break 1) Check ∷ xs, refl)
check_if_begun false m xs b = b

form_lines : (f : Form) → FormFits f → (xs : List Item) → Begun xs → Lines xs → Lines (form_items f ++ xs)
form_lines (Alone i) h xs b l = (stays (data_stays i.instr h.computes), l)
form_lines (Product i j) h xs b l = (stays (product_stays i.instr h.product), (stays (move_stays j.instr h.move), l))
form_lines (Store c v o k) h xs b l =
    subst Lines (sym (append_assoc (check_if c v) (check_if c o ++ stores) xs ∙ ap (λ (z : List Item). check_if c v ++ z) (append_assoc (check_if c o) stores xs)))
    (check_if_lines c v (check_if c o ++ (stores ++ xs)) (check_if_begun c o (stores ++ xs) begun) (check_if_lines c o (stores ++ xs) begun (stays refl, (stays refl, l))))
  where
    stores : List Item
    stores = plain (Sw v o k) Act ∷ plain (Sw (shadow_of v) (shadow_of o) ((k + 4) % 2 ^ 16)) Act ∷ []

    begun : Begun (stores ++ xs)
    begun = (plain (Sw v o k) Act, plain (Sw (shadow_of v) (shadow_of o) ((k + 4) % 2 ^ 16)) Act ∷ xs, refl)
form_lines (Test c r code) h xs b l =
    subst Lines (sym (append_assoc (check_if c r) tests xs))
    (check_if_lines c r (tests ++ xs) (plain (Bne r 0 2) Act, plain nop Act ∷ plain (Break code) Act ∷ xs, refl)
    (subst (λ (z : List Item). Lines z → Lines (tests ++ z)) (sym b.2) (λ g. (other_skips r 0 code (plain (Bne r 0 2) Act) (plain nop Act) (plain (Break code) Act) b.0 b.1 refl refl refl, (stays refl, (stays refl, g)))) l))
  where
    tests : List Item
    tests = plain (Bne r 0 2) Act ∷ plain nop Act ∷ plain (Break code) Act ∷ []
form_lines (Output true) h xs b l = (equal_skips 4 14 1 (plain (Beq 4 14 2) Check) (plain (Ori 2 0 1) Act) (plain (Break 1) Check) (plain Syscall Act) xs refl refl refl, (stays refl, (stays refl, (stays refl, l))))
form_lines (Output false) h xs b l = (stays refl, (stays refl, l))
form_lines (Takes r) h xs b l = (stays refl, (stays refl, (stays refl, (stays refl, l))))
form_lines Idle h xs b l = (stays refl, l)

has_field : (fix : Fix) (t : ℕ) → fix ≡ Block t → fix ≢ Plain
has_field fix t e f = apart_ (sym e ∙ f)
  where
    apart_ : Block t ≡ Plain → ⊥
    apart_ g = cc

jump_no : (t : ℕ) → IsConditional (J t) → ⊥
jump_no t z = by z.3
  where
    by : ((J t ≡ Beq z.0 z.1 z.2) ⊎ (J t ≡ Bne z.0 z.1 z.2)) → ⊥
    by (inl e) = cc
    by (inr e) = cc

call_no : (t : ℕ) → IsConditional (Jal t) → ⊥
call_no t z = by z.3
  where
    by : ((Jal t ≡ Beq z.0 z.1 z.2) ⊎ (Jal t ≡ Bne z.0 z.1 z.2)) → ⊥
    by (inl e) = cc
    by (inr e) = cc

return_no : (t : ℕ) → IsConditional (Jr t) → ⊥
return_no t z = by z.3
  where
    by : ((Jr t ≡ Beq z.0 z.1 z.2) ⊎ (Jr t ≡ Bne z.0 z.1 z.2)) → ⊥
    by (inl e) = cc
    by (inr e) = cc

close_lines : (c : Close) → Lines (close_items c)
close_lines (Jump to) = (leaves (record { last = refl; field_ = λ z. absurd (jump_no 0 z) }), (stays refl, tt))
close_lines (Branch c r true to) = check_if_lines c r _ (_, _, refl) (leaves (record { last = refl; field_ = λ z. has_field (Block to) to refl }), (stays refl, tt))
close_lines (Branch c r false to) = check_if_lines c r _ (_, _, refl) (leaves (record { last = refl; field_ = λ z. has_field (Block to) to refl }), (stays refl, tt))
close_lines (Call f) = (leaves (record { last = refl; field_ = λ z. absurd (call_no 0 z) }), (stays refl, tt))
close_lines (Return c) = check_if_lines c 31 _ (_, _, refl) (leaves (record { last = refl; field_ = λ z. absurd (return_no 31 z) }), (stays refl, tt))
close_lines (Exit true) = (equal_skips 4 14 1 (plain (Beq 4 14 2) Check) (plain (Ori 2 0 17) Act) (plain (Break 1) Check) (plain Syscall Act) (plain (Break 1) Act ∷ []) refl refl refl, (stays refl, (stays refl, (stays refl, (stays refl, tt)))))
close_lines (Exit false) = (stays refl, (stays refl, (stays refl, tt)))

close_begun : (c : Close) → Begun (close_items c)
close_begun (Jump to) = (_, _, refl)
close_begun (Branch c r true to) = check_if_begun c r _ (_, _, refl)
close_begun (Branch c r false to) = check_if_begun c r _ (_, _, refl)
close_begun (Call f) = (_, _, refl)
close_begun (Return c) = check_if_begun c 31 _ (_, _, refl)
close_begun (Exit true) = (_, _, refl)
close_begun (Exit false) = (_, _, refl)

form_begun : (f : Form) (xs : List Item) → Begun (form_items f ++ xs)
form_begun (Alone i) xs = (i, xs, refl)
form_begun (Product i j) xs = (i, j ∷ xs, refl)
form_begun (Store true v o k) xs = (_, _, refl)
form_begun (Store false v o k) xs = (_, _, refl)
form_begun (Test true r code) xs = (_, _, refl)
form_begun (Test false r code) xs = (_, _, refl)
form_begun (Output true) xs = (_, _, refl)
form_begun (Output false) xs = (_, _, refl)
form_begun (Takes r) xs = (_, _, refl)
form_begun Idle xs = (_, _, refl)

block_begun : (fs : List Form) (c : Close) → Begun (block_of fs c)
block_begun [] c = close_begun c
block_begun (f ∷ fs) c = subst Begun (sym (append_assoc (form_items f) (flat_map form_items fs) (close_items c))) (form_begun f (block_of fs c))

block_lines : (fs : List Form) (c : Close) → Each FormFits fs → Lines (block_of fs c)
block_lines [] c h = close_lines c
block_lines (f ∷ fs) c h = subst Lines (sym (append_assoc (form_items f) (flat_map form_items fs) (close_items c))) (form_lines f h.0 (block_of fs c) (block_begun fs c) (block_lines fs c h.1))

pub formed_lines : (xs : List Item) → Formed xs → Lines xs
formed_lines xs f = subst Lines (sym f.is) (block_lines f.forms f.close f.fit)

-- ---- places

-- An item at a place, with those behind it.
pub record Point (xs : List Item) (k : ℕ) (i : Item) : Type 0 where
  pub more : List Item
  pub line : Line i more
  pub behind : (j : ℕ) → slice_get xs (k + suc j) ≡ slice_get more j
  pub long : length xs ≡ k + suc (length more)

none_some : {A : Type 0} (x : A) (o : Option A) → o ≡ None → o ≡ Some x → ⊥
none_some x o e f = cc

pub point : (xs : List Item) (k : ℕ) (i : Item) → Lines xs → ItemAt xs k i → Point xs k i
point [] k i l e = absurd (none_some i None refl e)
point (x ∷ xs) zero i l e = record {
  more = xs;
  line = subst (λ (z : Item). Line z xs) (same e) l.0;
  behind = λ j. ap (λ (n : ℕ). slice_get (x ∷ xs) n) (first j);
  long = sym (first (length xs));
}
  where
    same : {A : Type 0} {a b : A} → Some a ≡ Some b → a ≡ b
    same g = cc

    first : (j : ℕ) → 0 + suc j ≡ suc j
    first j = omega arith
point (x ∷ xs) (suc k) i l e = let p : Point xs k i = point xs k i l.1 e in record {
  more = p.more;
  line = p.line;
  behind = λ j. ap (λ (n : ℕ). slice_get (x ∷ xs) n) (up k j) ∙ p.behind j;
  long = longer (length xs) k (length p.more) p.long;
}
  where
    up : (k j : ℕ) → suc k + suc j ≡ suc (k + suc j)
    up k j = omega arith

    longer : (n k m : ℕ) → n ≡ k + suc m → suc n ≡ suc k + suc m
    longer n k m g = omega arith

jump_conditional : (x : Instr) (rs rt imm : ℕ) → (x ≡ Beq rs rt imm) ⊎ (x ≡ Bne rs rt imm) → is_jump x ≡ true
jump_conditional x rs rt imm (inl e) = ap (λ (z : Instr). is_jump z) e
jump_conditional x rs rt imm (inr e) = ap (λ (z : Instr). is_jump z) e

skips_break : (xs : List Item) (k : ℕ) (i : Item) → ItemAt xs k i → (p : Point xs k i) → Skips i p.more → SkipsBreak xs k
skips_break xs k i e p s = record {
  branch = i;
  stands = e;
  rs = s.rs;
  rt = s.rt;
  conditional = s.conditional;
  no_field = s.no_field;
  skipped = s.skipped;
  behind = p.behind 1 ∙ ap (λ (z : List Item). slice_get z 1) s.is;
  code = s.code;
  is_break = s.is_break;
}

-- A branch or a jump skips a break or is the last item but one.
pub only_at_the_end : (xs : List Item) → Lines xs → (k : ℕ) (i : Item) → ItemAt xs k i → is_jump i.instr ≡ true → SkipsBreak xs k ⊎ (k + 2 ≡ length xs)
only_at_the_end xs l k i e j = let p : Point xs k i = point xs k i l e in by_line p p.line
  where
    two : (n m : ℕ) → n ≡ k + suc m → m ≡ 1 → k + 2 ≡ n
    two n m g h = omega arith

    by_line : (p : Point xs k i) → Line i p.more → SkipsBreak xs k ⊎ (k + 2 ≡ length xs)
    by_line p (stays h) = absurd (no_true (sym j ∙ h))
    by_line p (skips s) = inl (skips_break xs k i e p s)
    by_line p (leaves s) = inr (two (length xs) (length p.more) p.long s.last)

-- A conditional branch without a field skips a break.
pub skips_or_names : (xs : List Item) → Lines xs → (k rs rt imm : ℕ) (i : Item) → ItemAt xs k i → (i.instr ≡ Beq rs rt imm) ⊎ (i.instr ≡ Bne rs rt imm) → i.fix ≡ Plain → SkipsBreak xs k
skips_or_names xs l k rs rt imm i e c f = let p : Point xs k i = point xs k i l e in by_line p p.line
  where
    by_line : (p : Point xs k i) → Line i p.more → SkipsBreak xs k
    by_line p (stays h) = absurd (no_true (sym (jump_conditional i.instr rs rt imm c) ∙ h))
    by_line p (skips s) = skips_break xs k i e p s
    by_line p (leaves s) = absurd (s.field_ (rs, rt, imm, c) f)

-- Something stands behind a break that a branch skips.
pub goes_on_behind_skips : (xs : List Item) → Lines xs → (k : ℕ) → SkipsBreak xs k → k + 3 < length xs
goes_on_behind_skips xs l k b = let p : Point xs k b.branch = point xs k b.branch l b.stands in by_line p p.line
  where
    three : (n m r : ℕ) → n ≡ k + suc m → m ≡ suc (suc (suc r)) → k + 3 < n
    three n m r g h = omega arith

    by_line : (p : Point xs k b.branch) → Line b.branch p.more → k + 3 < length xs
    by_line p (stays h) = absurd (no_true (sym (jump_conditional b.branch.instr b.rs b.rt 2 b.conditional) ∙ h))
    by_line p (skips s) = three (length xs) (length p.more) (length s.rest) p.long (ap (λ (z : List Item). length z) s.is)
    by_line p (leaves s) = absurd (s.field_ (b.rs, b.rt, 2, b.conditional) b.no_field)

-- ---- the end

-- The last two items of a list.
abbrev pub Ends : List Item → Type 0
Ends xs = (k : ℕ) × (i : Item) × (j : Item) × (length xs ≡ k + 2) × ItemAt xs k i × ItemAt xs (k + 1) j × (((is_jump i.instr ≡ true) × (j.instr ≡ nop)) ⊎ ((code : ℕ) × (j.instr ≡ Break code)))

ends_behind : (x : Item) (xs : List Item) → Ends xs → Ends (x ∷ xs)
ends_behind x xs z = (suc z.0, z.1, z.2, up (length xs) z.0 z.3, z.4, ap (λ (n : ℕ). slice_get (x ∷ xs) n) (one z.0) ∙ z.5, z.6)
  where
    up : (n k : ℕ) → n ≡ k + 2 → suc n ≡ suc k + 2
    up n k e = omega arith

    one : (k : ℕ) → suc k + 1 ≡ suc (k + 1)
    one k = omega arith

ends_append : (ws xs : List Item) → Ends xs → Ends (ws ++ xs)
ends_append [] xs e = e
ends_append (w ∷ ws) xs e = ends_behind w (ws ++ xs) (ends_append ws xs e)

close_ends : (c : Close) → Ends (close_items c)
close_ends (Jump to) = (0, _, _, refl, refl, refl, inl (refl, refl))
close_ends (Branch c r true to) = ends_append (check_if c r) _ (0, _, _, refl, refl, refl, inl (refl, refl))
close_ends (Branch c r false to) = ends_append (check_if c r) _ (0, _, _, refl, refl, refl, inl (refl, refl))
close_ends (Call f) = (0, _, _, refl, refl, refl, inl (refl, refl))
close_ends (Return c) = ends_append (check_if c 31) _ (0, _, _, refl, refl, refl, inl (refl, refl))
close_ends (Exit c) = ends_append (service_number c 17) _ (0, _, _, refl, refl, refl, inr (1, refl))

pub ends_well : (xs : List Item) → Formed xs → EndsWell xs
ends_well xs f = let z : Ends xs = subst Ends (sym f.is) (ends_append (flat_map form_items f.forms) (close_items f.close) (close_ends f.close)) in by_ends z z.6
  where
    short : (k n : ℕ) → n ≡ k + 2 → k + 3 < n → ⊥
    short k n e h = omega arith

    by_ends : (z : Ends xs) → ((is_jump z.1.instr ≡ true) × (z.2.instr ≡ nop)) ⊎ ((code : ℕ) × (z.2.instr ≡ Break code)) → EndsWell xs
    by_ends z (inl h) = (z.0, z.1, z.2, z.3, z.4, z.5, inl (h.0, (λ s. short z.0 (length xs) z.3 (goes_on_behind_skips xs (formed_lines xs f) z.0 s)), h.1))
    by_ends z (inr h) = (z.0, z.1, z.2, z.3, z.4, z.5, inr h)
