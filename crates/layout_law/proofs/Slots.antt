-- What stands in delay slots, and which registers are loaded and stored: two rules by the forms.
use Rattle.std.proofs.Common.{◌≡◌, ◌≤◌, ◌<◌, ℕ, zero, suc, ◌+◌, arith, ap, refl, sym, ◌∙◌, subst, List, [], ◌∷◌, ◌++◌, length, append_assoc, append-nil, Bool, true, false, cond, inl, inr}
use Rattle.std.specs.Prelude.{Option, Some, None, ◌⊎◌, ◌==◌, ◌&&◌, ◌||◌, not, nat_le, IsTrue, flat_map, slice_get}
use Rattle.mips_isa.specs.declared.instr.Instr.{Instr}
use Rattle.mips_isa.specs.declared.instr.Instr.TheVariants.{J, Jal, Jr, Beq, Bne, Break, Syscall, Lw, Sw, Ori, Lui, Xor}
use Rattle.mips_isa.specs.Machine.{is_jump, is_product}
use Rattle.mips_isa.specs.Locality.{is_data, is_move}
use Rattle.mips_text.specs.Text.{At}
use Rattle.mips_faults.specs.Faults.{in_even, in_odd}
use Rattle.mips_text.specs.Forms.{OutputAt, ExitAt}
use Rattle.harden_lint.specs.Rules.{MovesHeld, IsChoosing, KeepsSlot}
use Rattle.hard_items.specs.declared.code.Class.{Class}
use Rattle.hard_items.specs.declared.code.Class.TheVariants.{Check, Act, Head}
use Rattle.hard_items.specs.declared.code.Fix.{Fix}
use Rattle.hard_items.specs.declared.code.Fix.TheVariants.{Plain, Block, Function, ReturnHigh, ReturnLow}
use Rattle.hard_items.specs.declared.code.Item.{Item}
use Rattle.hard_items.specs.declared.code.HardProgram.{HardProgram}
use Rattle.hard_items.specs.declared.code.Mark.{Mark}
use Rattle.hard_items.specs.declared.code.Signed.{Signed}
use Rattle.hard_items.specs.Streams.{nop, plain, shadow_of}
use Rattle.hard_items.specs.Run.{items_of}
use Rattle.hard_items.specs.Forms.{Each, Form, Alone, Product, Store, Test, Output, Takes, Idle, Close, Jump, Branch, Call, Return, Exit, check_if, form_items, close_items, block_of, is_value, is_carried, LoadFits, FormFits, HasChecks, CloseHasChecks, Formed}
use Rattle.hard_items.specs.Rules.{Checked, Guarded}
use Rattle.hard_items.specs.Heads.{head_items, headed}
use Rattle.layout_law.specs.Layout.{filled, text}
use Rattle.layout_law.specs.Level.{Layable, Entered}
use Rattle.layout_law.proofs.Views.{ItemWord, item_word, at_item, next_item, in_text}
use Rattle.layout_law.proofs.Starts.{same_instr, filled_as}
use Rattle.layout_law.proofs.Lines.{head_of, items_headed, heads_length}
use Rattle.layout_law.proofs.Next.{SlotOf, slot_inside, slot_in_text, slot_no_start}
use Rattle.layout_law.proofs.Checked.{value_low}
use Rattle.layout_law.proofs.Uses.{split_append, AllSplits, all_splits}

no_true : true ≡ false → ⊥
no_true e = cc

-- ---- delay slots

abbrev pub QuietBy : List Item → Item → List Item → Type 0
QuietBy d i mo = (p : HardProgram) (l : Layable p) (a : ℕ) (w : ItemWord p a) (front rest : List Item) → w.done ≡ front ++ d → w.item ≡ i → w.more ≡ mo ++ rest → is_jump i.instr ≡ true → At (text p) (a + 4) nop ⊎ IsChoosing (text p) (a + 4)

-- Behind an item, if it is a branch or jump, stands a nop or the number of a service.
pub record Quiet (d : List Item) (i : Item) (mo : List Item) : Type 0 where
  pub rule : QuietBy d i mo

stays : (d : List Item) (i : Item) (mo : List Item) → is_jump i.instr ≡ false → Quiet d i mo
stays d i mo h = record { rule = λ p l a w front rest e f g j. absurd (no_true (sym j ∙ h)) }

plain_at : (p : HardProgram) (l : Layable p) (a : ℕ) (w : ItemWord p a) (x : Instr) (k : Class) → w.item ≡ plain x k → At (text p) a x
plain_at p l a w x k f = at_item p l a w ∙ ap Some (filled_as p w.block a w.item.fix Plain w.item.instr x (ap (λ (z : Item). z.fix) f) (ap (λ (z : Item). z.instr) f))

waits : (d : List Item) (i : Item) (k : Class) (mo : List Item) → Quiet d i (plain nop k ∷ mo)
waits d i k mo = record { rule = λ p l a w front rest e f g j. inl (plain_at p l (a + 4) (next_item p a w (plain nop k) (mo ++ rest) g) nop k refl) }

eight : (a : ℕ) → a + 4 + 4 ≡ a + 8
eight a = omega arith

twelve : (a : ℕ) → a + 4 + 4 + 4 ≡ a + 12
twelve a = omega arith

sixteen : (a : ℕ) → a + 4 + 4 + 4 + 4 ≡ a + 16
sixteen a = omega arith

pub puts_by : (p : HardProgram) (l : Layable p) (a : ℕ) (w : ItemWord p a) (rest : List Item) → w.item ≡ plain (Beq 4 14 2) Check → w.more ≡ plain (Ori 2 0 1) Act ∷ plain (Break 1) Check ∷ plain Syscall Act ∷ rest → OutputAt (text p) a
puts_by p l a w rest f g =
    let x : ItemWord p (a + 4) = next_item p a w (plain (Ori 2 0 1) Act) (plain (Break 1) Check ∷ plain Syscall Act ∷ rest) g in
    let y : ItemWord p (a + 4 + 4) = next_item p (a + 4) x (plain (Break 1) Check) (plain Syscall Act ∷ rest) refl in
    let z : ItemWord p (a + 4 + 4 + 4) = next_item p (a + 4 + 4) y (plain Syscall Act) rest refl in
    record {
      compares = plain_at p l a w (Beq 4 14 2) Check f;
      chooses = plain_at p l (a + 4) x (Ori 2 0 1) Act refl;
      reports = subst (λ (u : ℕ). At (text p) u (Break 1)) (eight a) (plain_at p l (a + 4 + 4) y (Break 1) Check refl);
      serves = subst (λ (u : ℕ). At (text p) u Syscall) (twelve a) (plain_at p l (a + 4 + 4 + 4) z Syscall Act refl);
    }

pub exits_by : (p : HardProgram) (l : Layable p) (a : ℕ) (w : ItemWord p a) (rest : List Item) → w.item ≡ plain (Beq 4 14 2) Check → w.more ≡ plain (Ori 2 0 17) Act ∷ plain (Break 1) Check ∷ plain Syscall Act ∷ plain (Break 1) Act ∷ rest → ExitAt (text p) a
exits_by p l a w rest f g =
    let x : ItemWord p (a + 4) = next_item p a w (plain (Ori 2 0 17) Act) (plain (Break 1) Check ∷ plain Syscall Act ∷ plain (Break 1) Act ∷ rest) g in
    let y : ItemWord p (a + 4 + 4) = next_item p (a + 4) x (plain (Break 1) Check) (plain Syscall Act ∷ plain (Break 1) Act ∷ rest) refl in
    let z : ItemWord p (a + 4 + 4 + 4) = next_item p (a + 4 + 4) y (plain Syscall Act) (plain (Break 1) Act ∷ rest) refl in
    let v : ItemWord p (a + 4 + 4 + 4 + 4) = next_item p (a + 4 + 4 + 4) z (plain (Break 1) Act) rest refl in
    record {
      compares = plain_at p l a w (Beq 4 14 2) Check f;
      chooses = plain_at p l (a + 4) x (Ori 2 0 17) Act refl;
      reports = subst (λ (u : ℕ). At (text p) u (Break 1)) (eight a) (plain_at p l (a + 4 + 4) y (Break 1) Check refl);
      serves = subst (λ (u : ℕ). At (text p) u Syscall) (twelve a) (plain_at p l (a + 4 + 4 + 4) z Syscall Act refl);
      stops = subst (λ (u : ℕ). At (text p) u (Break 1)) (sixteen a) (plain_at p l (a + 4 + 4 + 4 + 4) v (Break 1) Act refl);
    }

puts : Quiet [] (plain (Beq 4 14 2) Check) (plain (Ori 2 0 1) Act ∷ plain (Break 1) Check ∷ plain Syscall Act ∷ [])
puts = record { rule = λ p l a w front rest e f g j. inr (record { c = a; form = inl (puts_by p l a w rest f g); at = refl }) }

exits : Quiet [] (plain (Beq 4 14 2) Check) (plain (Ori 2 0 17) Act ∷ plain (Break 1) Check ∷ plain Syscall Act ∷ plain (Break 1) Act ∷ [])
exits = record { rule = λ p l a w front rest e f g j. inr (record { c = a; form = inr (exits_by p l a w rest f g); at = refl }) }

data_stays : (x : Instr) → is_data x ≡ true → is_jump x ≡ false
data_stays (Jr rs) h = absurd (no_true (sym h))
data_stays (J tg) h = absurd (no_true (sym h))
data_stays (Jal tg) h = absurd (no_true (sym h))
data_stays (Beq rs rt imm) h = absurd (no_true (sym h))
data_stays (Bne rs rt imm) h = absurd (no_true (sym h))
data_stays x h = refl

product_stays : (x : Instr) → is_product x ≡ true → is_jump x ≡ false
product_stays (Jr rs) h = absurd (no_true (sym h))
product_stays (J tg) h = absurd (no_true (sym h))
product_stays (Jal tg) h = absurd (no_true (sym h))
product_stays (Beq rs rt imm) h = absurd (no_true (sym h))
product_stays (Bne rs rt imm) h = absurd (no_true (sym h))
product_stays x h = refl

move_stays : (x : Instr) → is_move x ≡ true → is_jump x ≡ false
move_stays (Jr rs) h = absurd (no_true (sym h))
move_stays (J tg) h = absurd (no_true (sym h))
move_stays (Jal tg) h = absurd (no_true (sym h))
move_stays (Beq rs rt imm) h = absurd (no_true (sym h))
move_stays (Bne rs rt imm) h = absurd (no_true (sym h))
move_stays x h = refl

form_quiet : (f : Form) → FormFits f → HasChecks f → AllSplits Quiet [] (form_items f)
form_quiet (Alone i) f h = (stays _ i _ (data_stays i.instr f.computes), tt)
form_quiet (Product i j) f h = (stays _ i _ (product_stays i.instr f.product), (stays _ j _ (move_stays j.instr f.move), tt))
form_quiet (Store true v b o) f h =
    (waits _ _ Check _, (stays _ _ _ refl, (stays _ _ _ refl, (waits _ _ Check _, (stays _ _ _ refl, (stays _ _ _ refl, (stays _ _ _ refl, (stays _ _ _ refl, tt))))))))
form_quiet (Store false v b o) f h = absurd (no_true (sym h))
form_quiet (Test true m code) f h = (waits _ _ Check _, (stays _ _ _ refl, (stays _ _ _ refl, (waits _ _ Act _, (stays _ _ _ refl, (stays _ _ _ refl, tt))))))
form_quiet (Test false m code) f h = absurd (no_true (sym h))
form_quiet (Output true) f h = (puts, (stays _ _ _ refl, (stays _ _ _ refl, (stays _ _ _ refl, tt))))
form_quiet (Output false) f h = absurd (no_true (sym h))
form_quiet (Takes m) f h = (stays _ _ _ refl, (stays _ _ _ refl, (stays _ _ _ refl, (stays _ _ _ refl, tt))))
form_quiet Idle f h = (stays _ _ _ refl, tt)

close_quiet : (c : Close) → CloseHasChecks c → AllSplits Quiet [] (close_items c)
close_quiet (Jump t) h = (waits _ _ Act _, (stays _ _ _ refl, tt))
close_quiet (Branch true m true t) h = (waits _ _ Check _, (stays _ _ _ refl, (stays _ _ _ refl, (waits _ _ Act _, (stays _ _ _ refl, tt)))))
close_quiet (Branch true m false t) h = (waits _ _ Check _, (stays _ _ _ refl, (stays _ _ _ refl, (waits _ _ Act _, (stays _ _ _ refl, tt)))))
close_quiet (Branch false m w t) h = absurd (no_true (sym h))
close_quiet (Call c) h = (waits _ _ Act _, (stays _ _ _ refl, tt))
close_quiet (Return true) h = (waits _ _ Check _, (stays _ _ _ refl, (stays _ _ _ refl, (waits _ _ Act _, (stays _ _ _ refl, tt)))))
close_quiet (Return false) h = absurd (no_true (sym h))
close_quiet (Exit true) h = (exits, (stays _ _ _ refl, (stays _ _ _ refl, (stays _ _ _ refl, (stays _ _ _ refl, tt)))))
close_quiet (Exit false) h = absurd (no_true (sym h))

head_quiet : (m : Mark) → AllSplits Quiet [] (head_items m)
head_quiet m = (stays _ _ _ refl, (stays _ (plain (Rattle.std.specs.Prelude.if◌then◌else◌ m.fan (Xor 24 24 28) nop) Head) _ (by m.fan), (stays _ _ _ refl, (stays _ _ _ refl, (waits _ _ Head _, (stays _ _ _ refl, (stays _ _ _ refl, tt)))))))
  where
    by : (z : Bool) → is_jump (cond z (Xor 24 24 28) nop) ≡ false
    by true = refl
    by false = refl

point_in : (xs rest front : List Item) (p : HardProgram) (l : Layable p) (a : ℕ) (w : ItemWord p a) (d mo : List Item) → AllSplits Quiet [] xs → xs ≡ d ++ w.item ∷ mo → w.done ≡ front ++ d → w.more ≡ mo ++ rest → is_jump w.item.instr ≡ true → At (text p) (a + 4) nop ⊎ IsChoosing (text p) (a + 4)
point_in xs rest front p l a w d mo k e f g j = (all_splits Quiet [] xs d w.item mo k e).rule p l a w front rest f refl g j

forms_quiet : (fs : List Form) (c : Close) (front : List Item) (p : HardProgram) (l : Layable p) (a : ℕ) (w : ItemWord p a) (d : List Item) → Each FormFits fs → Each HasChecks fs → CloseHasChecks c → w.done ≡ front ++ d → block_of fs c ≡ d ++ w.item ∷ w.more → is_jump w.item.instr ≡ true → At (text p) (a + 4) nop ⊎ IsChoosing (text p) (a + 4)
forms_quiet [] c front p l a w d f h ch e g j = point_in (close_items c) [] front p l a w d w.more (close_quiet c ch) g e (sym (append-nil w.more)) j
forms_quiet (x ∷ fs) c front p l a w d f h ch e g j =
    elim (split_append (form_items x) (block_of fs c) d w.item w.more (sym (append_assoc (form_items x) (flat_map form_items fs) (close_items c)) ∙ g)) as (λ z. At (text p) (a + 4) nop ⊎ IsChoosing (text p) (a + 4)) [
      | inl q ↦ point_in (form_items x) (block_of fs c) front p l a w d q.0 (form_quiet x f.0 h.0) q.1 e q.2 j
      | inr q ↦ forms_quiet fs c (front ++ form_items x) p l a w q.0 f.1 h.1 ch (e ∙ (ap (λ (z : List Item). front ++ z) q.1 ∙ sym (append_assoc front (form_items x) q.0))) q.2 j
    ]

block_quiet : (o : Option Mark) (items : List Item) (k : Checked items) (p : HardProgram) (l : Layable p) (a : ℕ) (w : ItemWord p a) → head_of o ++ items ≡ w.done ++ w.item ∷ w.more → is_jump w.item.instr ≡ true → At (text p) (a + 4) nop ⊎ IsChoosing (text p) (a + 4)
block_quiet None items k p l a w e j = forms_quiet k.formed.forms k.formed.close [] p l a w w.done k.formed.fit k.each k.close refl (sym k.formed.is ∙ e) j
block_quiet (Some m) items k p l a w e j = elim (split_append (head_items m) items w.done w.item w.more e) as (λ z. At (text p) (a + 4) nop ⊎ IsChoosing (text p) (a + 4)) [
  | inl q ↦ point_in (head_items m) items [] p l a w w.done q.0 (head_quiet m) q.1 refl q.2 j
  | inr q ↦ forms_quiet k.formed.forms k.formed.close (head_items m) p l a w q.0 k.formed.fit k.each k.close q.1 (sym k.formed.is ∙ q.2) j
]

-- The tenth rule.
pub keeps_slot : (s : Signed) → Layable (headed s) → Entered (headed s) → Guarded s.program → (a : ℕ) → KeepsSlot (text (headed s)) 0x00400000 a
keeps_slot s l n g a = record {
  inside = slot_in_text (headed s) l a;
  no_start = slot_no_start (headed s) l n a;
  quiet = λ t.
      let q : SlotOf (headed s) a = slot_inside (headed s) l a t in
      let h : q.word.block < length s.program.blocks = subst (λ (z : ℕ). q.word.block < z) (heads_length s.program.blocks s.marks) q.word.there in
      subst (λ (z : ℕ). At (text (headed s)) z nop ⊎ IsChoosing (text (headed s)) z) (sym q.behind)
      (block_quiet (slice_get s.marks q.word.block) (items_of s.program q.word.block) (g q.word.block h) (headed s) l q.at q.word (sym (items_headed s q.word.block h) ∙ q.word.split) q.jumps);
}

-- ---- loads and stores

abbrev pub HeldBy : Instr → Type 0
HeldBy (Lw rt rs imm) = IsTrue (in_even rt || in_odd rt)
HeldBy (Sw rt rs imm) = IsTrue (in_even rt || in_odd rt)
HeldBy i = Unit {0}

abbrev pub IsHeld : Item → Type 0
IsHeld i = HeldBy i.instr

carried_by : (a b c d e : Bool) → (c ≡ false → d ≡ true) → ((a && b) || e) ≡ true → (a && c) || (e || (d && b)) ≡ true
carried_by true b true d e f h = refl
carried_by true true false d e f h = rw (f refl) (by e)
  where
    by : (e : Bool) → (e || true) ≡ true
    by true = refl
    by false = refl
carried_by true false false d true f h = refl
carried_by true false false d false f h = absurd (no_true (sym h))
carried_by false b c d true f h = refl
carried_by false b c d false f h = absurd (no_true (sym h))

carried_held : (r : ℕ) → is_carried r ≡ true → (in_even r || in_odd r) ≡ true
carried_held r h = order (nat_le 4 r && nat_le r 13) (r == 31) (nat_le 14 r && nat_le r 23) (r == 25) (carried_by (nat_le 4 r) (nat_le r 23) (nat_le r 13) (nat_le 14 r) (r == 25 || r == 31) (above r) h)
  where
    above : (r : ℕ) → nat_le r 13 ≡ false → nat_le 14 r ≡ true
    above r e = grind arith

    order : (x a y b : Bool) → (x || ((b || a) || y)) ≡ true → ((x || a) || (y || b)) ≡ true
    order true a y b h = refl
    order false true y b h = refl
    order false false true b h = refl
    order false false false true h = refl
    order false false false false h = absurd (no_true (sym h))

data_held : (x : Instr) → is_data x ≡ true → LoadFits x → HeldBy x
data_held (Lw rt rs imm) h f = carried_held rt f
data_held (Sw rt rs imm) h f = absurd (no_true (sym h))
data_held x h f = tt

plain_held : (x : Instr) → is_product x ≡ true → HeldBy x
plain_held (Lw rt rs imm) h = absurd (no_true (sym h))
plain_held (Sw rt rs imm) h = absurd (no_true (sym h))
plain_held x h = tt

move_held : (x : Instr) → is_move x ≡ true → HeldBy x
move_held (Lw rt rs imm) h = absurd (no_true (sym h))
move_held (Sw rt rs imm) h = absurd (no_true (sym h))
move_held x h = tt

value_held : (n : ℕ) → n ≤ 9 → ((in_even (4 + n) || in_odd (4 + n)) ≡ true) × ((in_even (shadow_of (4 + n)) || in_odd (shadow_of (4 + n))) ≡ true)
value_held zero h = (refl, refl)
value_held (suc zero) h = (refl, refl)
value_held (suc (suc zero)) h = (refl, refl)
value_held (suc (suc (suc zero))) h = (refl, refl)
value_held (suc (suc (suc (suc zero)))) h = (refl, refl)
value_held (suc (suc (suc (suc (suc zero))))) h = (refl, refl)
value_held (suc (suc (suc (suc (suc (suc zero)))))) h = (refl, refl)
value_held (suc (suc (suc (suc (suc (suc (suc zero))))))) h = (refl, refl)
value_held (suc (suc (suc (suc (suc (suc (suc (suc zero)))))))) h = (refl, refl)
value_held (suc (suc (suc (suc (suc (suc (suc (suc (suc zero))))))))) h = (refl, refl)
value_held (suc (suc (suc (suc (suc (suc (suc (suc (suc (suc n)))))))))) h = absurd (no n h)
  where
    no : (n : ℕ) → suc (suc (suc (suc (suc (suc (suc (suc (suc (suc n))))))))) ≤ 9 → ⊥
    no n h = omega arith

stored_held : (v : ℕ) → IsTrue (is_value v || (v == 31)) → ((in_even v || in_odd v) ≡ true) × ((in_even (shadow_of v) || in_odd (shadow_of v)) ≡ true)
stored_held v h = by (is_value v) refl h
  where
    eq : (v : ℕ) → (v == 31) ≡ true → v ≡ 31
    eq v e = grind arith

    by : (z : Bool) → is_value v ≡ z → IsTrue (is_value v || (v == 31)) → ((in_even v || in_odd v) ≡ true) × ((in_even (shadow_of v) || in_odd (shadow_of v)) ≡ true)
    by true e h = let q : (n : ℕ) × ((v ≡ 4 + n) × (n ≤ 9)) = value_low v e in subst (λ (z : ℕ). ((in_even z || in_odd z) ≡ true) × ((in_even (shadow_of z) || in_odd (shadow_of z)) ≡ true)) (sym q.1.0) (value_held q.0 q.1.1)
    by false e h = subst (λ (z : ℕ). ((in_even z || in_odd z) ≡ true) × ((in_even (shadow_of z) || in_odd (shadow_of z)) ≡ true)) (sym (eq v (sym (ap (λ (z : Bool). z || (v == 31)) e) ∙ h))) (refl, refl)

each_both : (xs ys : List Item) → Each IsHeld xs → Each IsHeld ys → Each IsHeld (xs ++ ys)
each_both [] ys h k = k
each_both (x ∷ xs) ys h k = (h.0, each_both xs ys h.1 k)

check_held : (c : Bool) (m : ℕ) → Each IsHeld (check_if c m)
check_held true m = (tt, (tt, (tt, tt)))
check_held false m = tt

form_held : (f : Form) → FormFits f → Each IsHeld (form_items f)
form_held (Alone i) f = (data_held i.instr f.computes f.load_fits, tt)
form_held (Product i j) f = (plain_held i.instr f.product, (move_held j.instr f.move, tt))
form_held (Store c v b o) f = each_both (check_if c v) _ (check_held c v) (each_both (check_if c b) _ (check_held c b) ((stored_held v f.0).0, ((stored_held v f.0).1, tt)))
form_held (Test c m code) f = each_both (check_if c m) _ (check_held c m) (tt, (tt, (tt, tt)))
form_held (Output true) f = (tt, (tt, (tt, (tt, tt))))
form_held (Output false) f = (tt, (tt, tt))
form_held (Takes m) f = (tt, (tt, (tt, (tt, tt))))
form_held Idle f = (tt, tt)

close_held : (c : Close) → Each IsHeld (close_items c)
close_held (Jump t) = (tt, (tt, tt))
close_held (Branch c m true t) = each_both (check_if c m) _ (check_held c m) (tt, (tt, tt))
close_held (Branch c m false t) = each_both (check_if c m) _ (check_held c m) (tt, (tt, tt))
close_held (Call g) = (tt, (tt, tt))
close_held (Return c) = each_both (check_if c 31) _ (check_held c 31) (tt, (tt, tt))
close_held (Exit true) = (tt, (tt, (tt, (tt, (tt, tt)))))
close_held (Exit false) = (tt, (tt, (tt, tt)))

forms_held : (fs : List Form) (c : Close) → Each FormFits fs → Each IsHeld (block_of fs c)
forms_held [] c f = close_held c
forms_held (x ∷ fs) c f = subst (λ (z : List Item). Each IsHeld z) (sym (append_assoc (form_items x) (flat_map form_items fs) (close_items c))) (each_both (form_items x) (block_of fs c) (form_held x f.0) (forms_held fs c f.1))

head_held : (o : Option Mark) → Each IsHeld (head_of o)
head_held None = tt
head_held (Some m) = (tt, (by m.fan, (tt, (tt, (tt, (tt, (tt, tt)))))))
  where
    by : (z : Bool) → HeldBy (cond z (Xor 24 24 28) nop)
    by true = tt
    by false = tt

held_at : (xs done : List Item) (i : Item) (more : List Item) → Each IsHeld xs → xs ≡ done ++ i ∷ more → IsHeld i
held_at xs done i more h e = by done (subst (λ (z : List Item). Each IsHeld z) e h)
  where
    by : (done : List Item) → Each IsHeld (done ++ i ∷ more) → IsHeld i
    by [] h = h.0
    by (x ∷ done) h = by done h.1

filled_held : (p : HardProgram) (b at : ℕ) (f : Fix) (x : Instr) → HeldBy x → HeldBy (filled p b at f x)
filled_held p b at Plain x h = h
filled_held p b at (Block t) (J tg) h = tt
filled_held p b at (Block t) (Beq rs rt imm) h = tt
filled_held p b at (Block t) (Bne rs rt imm) h = tt
filled_held p b at (Block t) x h = h
filled_held p b at (Function f) (Jal tg) h = tt
filled_held p b at (Function f) x h = h
filled_held p b at ReturnHigh (Lui rt imm) h = tt
filled_held p b at ReturnHigh x h = h
filled_held p b at ReturnLow (Ori rt rs imm) h = tt
filled_held p b at ReturnLow x h = h

-- The seventh rule.
pub moves_held : (s : Signed) → Layable (headed s) → ((b : ℕ) → b < length s.program.blocks → Formed (items_of s.program b)) → (a : ℕ) → MovesHeld (text (headed s)) a
moves_held s l g a rt rs imm o = elim o as (λ z. IsTrue (in_even rt || in_odd rt)) [ inl h ↦ at_instr (Lw rt rs imm) h | inr h ↦ at_instr (Sw rt rs imm) h ]
  where
    at_instr : (x : Instr) → At (text (headed s)) a x → HeldBy x
    at_instr x h =
        let w : ItemWord (headed s) a = item_word (headed s) a (in_text (text (headed s)) a x h) in
        let b : w.block < length s.program.blocks = subst (λ (z : ℕ). w.block < z) (heads_length s.program.blocks s.marks) w.there in
        let f : Formed (items_of s.program w.block) = g w.block b in
        let k : Each IsHeld (head_of (slice_get s.marks w.block) ++ items_of s.program w.block) = each_both (head_of (slice_get s.marks w.block)) (items_of s.program w.block) (head_held (slice_get s.marks w.block)) (subst (λ (z : List Item). Each IsHeld z) (sym f.is) (forms_held f.forms f.close f.fit)) in
        subst HeldBy (same_instr (text (headed s)) a (filled (headed s) w.block a w.item.fix w.item.instr) x (at_item (headed s) l a w) h) (filled_held (headed s) w.block a w.item.fix w.item.instr (held_at (head_of (slice_get s.marks w.block) ++ items_of s.program w.block) w.done w.item w.more k (sym (items_headed s w.block b) ∙ w.split)))
