-- What the forms of a program's blocks give: its items spare the registers of the signatures, and a branch that closes a block
-- names a block.
use Rattle.std.proofs.Common.{◌≡◌, ◌≢◌, ◌≤◌, ℕ, zero, suc, ◌+◌, ◌<◌, arith, rules, ap, refl, sym, ◌∙◌, subst, List, [], ◌∷◌, ◌++◌, append_assoc, length, length-append, false, true, Bool, cond, inl, inr}
use Rattle.std.specs.Prelude.{Option, Some, None, ◌⊎◌, ◌==◌, ◌||◌, IsTrue, slice_get, flat_map, if◌then◌else◌}
use Rattle.std.proofs.lemmas.Option.{slice_get_past}
use Rattle.mips_isa.specs.declared.instr.Instr.{Instr}
use Rattle.mips_isa.specs.declared.instr.Instr.TheVariants.{Sll, Addu, Beq, Bne, Break, J, Jal, Jr, Lui, Lw, Ori, Sw, Syscall}
use Rattle.mips_isa.specs.Machine.{among}
use Rattle.hard_items.specs.declared.code.Class.{Class}
use Rattle.hard_items.specs.declared.code.Class.TheVariants.{Master, Shadow, Check, Act, Head, Input}
use Rattle.hard_items.specs.declared.code.Fix.TheVariants.{Plain, Block, Function}
use Rattle.hard_items.specs.declared.code.Item.{Item}
use Rattle.hard_items.specs.declared.code.HardBlock.{HardBlock}
use Rattle.hard_items.specs.declared.code.HardProgram.{HardProgram}
use Rattle.hard_items.specs.Streams.{touched, nop, plain, is_master, is_shadow, shadow_of, is_of, is_stream}
use Rattle.hard_items.specs.Run.{items_of, block_items}
use Rattle.hard_items.specs.Forms.{Each, Form, Alone, Product, Store, Test, Output, Takes, Idle, Close, Jump, Branch, Call, Return, Exit, check, check_if, service_number, form_items, going, close_items, block_of, is_value, MayTouch, FormFits, CloseFits, Formed}
use Rattle.hard_items.specs.Rules.{Apart}
use Rattle.signature_assign.specs.Headed.{IsSign, Spares, BlocksFit}
use Rattle.signature_assign.proofs.Near.{Free, free_zero, free_two, free_four}

-- Registers that are none of the signatures', by tests.

false_true : {A : Type 0} → false ≡ true → A
false_true e = absurd (cc)

pub free_test : (P : ℕ → Bool) (r : ℕ) → P 1 ≡ false → P 24 ≡ false → P 28 ≡ false → P r ≡ true → Free r
free_test P r a b c h (inl e) = false_true (sym a ∙ (ap P (sym e) ∙ h))
free_test P r a b c h (inr (inl e)) = false_true (sym b ∙ (ap P (sym e) ∙ h))
free_test P r a b c h (inr (inr e)) = false_true (sym c ∙ (ap P (sym e) ∙ h))

free_number : (r : ℕ) → r ≢ 1 → r ≢ 24 → r ≢ 28 → Free r
free_number r a b c (inl e) = a e
free_number r a b c (inr (inl e)) = b e
free_number r a b c (inr (inr e)) = c e

ten_more : (P : ℕ → Bool) (r : ℕ) → P 14 ≡ false → P 18 ≡ false → P r ≡ true → Free (r + 10)
ten_more P r a b h (inl e) = absurd (omega arith)
ten_more P r a b h (inr (inl e)) = false_true (sym a ∙ (ap P (sym (fourteen e)) ∙ h))
  where
    fourteen : r + 10 ≡ 24 → r ≡ 14
    fourteen e = omega arith
ten_more P r a b h (inr (inr e)) = false_true (sym b ∙ (ap P (sym (eighteen e)) ∙ h))
  where
    eighteen : r + 10 ≡ 28 → r ≡ 18
    eighteen e = omega arith

free_30 : Free 30
free_30 = free_number 30 (omega arith) (omega arith) (omega arith)

free_25 : Free 25
free_25 = free_number 25 (omega arith) (omega arith) (omega arith)

free_29 : Free 29
free_29 = free_number 29 (omega arith) (omega arith) (omega arith)

free_31 : Free 31
free_31 = free_number 31 (omega arith) (omega arith) (omega arith)

free_14 : Free 14
free_14 = free_number 14 (omega arith) (omega arith) (omega arith)

shadow_free : (P : ℕ → Bool) (r : ℕ) → P 14 ≡ false → P 18 ≡ false → P r ≡ true → Free (shadow_of r)
shadow_free P r a b h = by_tests (r == 29) (r == 31)
  where
    by_tests : (x y : Bool) → Free (if x then 30 else (if y then 25 else r + 10))
    by_tests true y = free_30
    by_tests false true = free_25
    by_tests false false = ten_more P r a b h

-- Items whose registers are all such.

abbrev Clean : Item → Type 0
Clean i = Each Free (touched i.instr)

same_of : (a b : ℕ) → (a == b) ≡ true → a ≡ b
same_of a b h = grind arith

or_case : (z b : Bool) → (z ≡ true → ⊥) → (b ≡ true → ⊥) → (z || b) ≡ true → ⊥
or_case true b f g e = f refl
or_case false b f g e = g e

clean_spares : (xs : List ℕ) (q : ℕ) → Each Free xs → IsSign q → among q xs ≡ true → ⊥
clean_spares [] q c s e = false_true e
clean_spares (x ∷ xs) q c s e = or_case (q == x) (among q xs) (λ f. c.0 (subst IsSign (same_of q x f) s)) (λ g. clean_spares xs q c.1 s g) e

each_append : (xs ys : List Item) → Each Clean xs → Each Clean ys → Each Clean (xs ++ ys)
each_append [] ys a b = b
each_append (x ∷ xs) ys a b = (a.0, each_append xs ys a.1 b)

each_at : (xs : List Item) (k : ℕ) (i : Item) → Each Clean xs → slice_get xs k ≡ Some i → Clean i
each_at [] k i a e = absurd (cc)
each_at (x ∷ xs) zero i a e = subst Clean (same_some e) a.0
  where
    same_some : Some x ≡ Some i → x ≡ i
    same_some e = cc
each_at (x ∷ xs) (suc k) i a e = each_at xs k i a.1 e

-- The forms.

value_free : (r : ℕ) → is_value r ≡ true → Free r
value_free r h = free_test is_value r refl refl refl h

value_shadow : (r : ℕ) → is_value r ≡ true → Free (shadow_of r)
value_shadow r h = shadow_free is_value r refl refl h

check_clean : (x y : ℕ) → Free x → Free y → Each Clean (check x y)
check_clean x y a b = ((a, (b, tt)), ((free_zero, (free_zero, tt)), (tt, tt)))

check_if_clean : (checked : Bool) (m : ℕ) → Free m → Free (shadow_of m) → Each Clean (check_if checked m)
check_if_clean true m a b = check_clean m (shadow_of m) a b
check_if_clean false m a b = tt

service_clean : (checked : Bool) (n : ℕ) → Each Clean (service_number checked n)
service_clean true n = ((free_four, (free_14, tt)), ((free_zero, (free_two, tt)), (tt, tt)))
service_clean false n = ((free_zero, (free_two, tt)), tt)

of_class : (c : Class) (r : ℕ) → is_stream c ≡ true → (r ≡ 0) ⊎ (is_of c r ≡ true) → Free r
of_class c r h (inl e) = subst Free (sym e) free_zero
of_class Master r h (inr e) = free_test is_master r refl refl refl e
of_class Shadow r h (inr e) = free_test is_shadow r refl refl refl e
of_class Check r h (inr e) = false_true h
of_class Act r h (inr e) = false_true h
of_class Head r h (inr e) = false_true h
of_class Input r h (inr e) = false_true h

own_clean : (c : Class) (rs : List ℕ) → is_stream c ≡ true → Each (MayTouch c) rs → Each Free rs
own_clean c [] h e = tt
own_clean c (r ∷ rs) h e = (of_class c r h e.0, own_clean c rs h e.1)

store_value : (r : ℕ) → (is_value r || r == 31) ≡ true → Free r × Free (shadow_of r)
store_value r h = (free_test (λ x. is_value x || x == 31) r refl refl refl h, shadow_free (λ x. is_value x || x == 31) r refl refl h)

store_base : (r : ℕ) → (is_value r || r == 29) ≡ true → Free r × Free (shadow_of r)
store_base r h = (free_test (λ x. is_value x || x == 29) r refl refl refl h, shadow_free (λ x. is_value x || x == 29) r refl refl h)

form_clean : (f : Form) → FormFits f → Each Clean (form_items f)
form_clean (Alone i) h = (own_clean i.class (touched i.instr) h.stream h.own, tt)
form_clean (Product i j) h = (own_clean i.class (touched i.instr) h.stream h.own, (own_clean j.class (touched j.instr) (ap (λ (c : Class). is_stream c) (sym h.one_stream) ∙ h.stream) h.own_move, tt))
form_clean (Store checked value base offset) h =
    let v : Free value × Free (shadow_of value) = store_value value h.0 in
    let b : Free base × Free (shadow_of base) = store_base base h.1 in
    each_append (check_if checked value) _ (check_if_clean checked value v.0 v.1)
    (each_append (check_if checked base) _ (check_if_clean checked base b.0 b.1) ((v.0, (b.0, tt)), ((v.1, (b.1, tt)), tt)))
form_clean (Test checked r code) h = each_append (check_if checked r) _ (check_if_clean checked r (value_free r h.0) (value_shadow r h.0)) ((value_free r h.0, (free_zero, tt)), ((free_zero, (free_zero, tt)), (tt, tt)))
form_clean (Output checked) h = each_append (service_number checked 1) _ (service_clean checked 1) ((free_two, (free_four, (free_two, tt))), tt)
form_clean (Takes r) h = ((free_zero, (free_two, tt)), ((free_two, (free_four, (free_two, tt))), ((free_two, (free_zero, (value_free r h, tt))), ((free_two, (free_zero, (value_shadow r h, tt))), tt))))
form_clean Idle h = ((free_zero, (free_zero, tt)), tt)

forms_clean : (fs : List Form) → Each FormFits fs → Each Clean (flat_map form_items fs)
forms_clean [] h = tt
forms_clean (f ∷ fs) h = each_append (form_items f) (flat_map form_items fs) (form_clean f h.0) (forms_clean fs h.1)

close_clean : (c : Close) → CloseFits c → Each Clean (close_items c)
close_clean (Jump to) h = (tt, ((free_zero, (free_zero, tt)), tt))
close_clean (Branch checked r true to) h = each_append (check_if checked r) _ (check_if_clean checked r (value_free r h) (value_shadow r h)) ((value_free r h, (free_zero, tt)), ((free_zero, (free_zero, tt)), tt))
close_clean (Branch checked r false to) h = each_append (check_if checked r) _ (check_if_clean checked r (value_free r h) (value_shadow r h)) ((value_free r h, (free_zero, tt)), ((free_zero, (free_zero, tt)), tt))
close_clean (Call f) h = ((free_31, tt), ((free_zero, (free_zero, tt)), tt))
close_clean (Return checked) h = each_append (check_if checked 31) _ (check_if_clean checked 31 free_31 free_25) ((free_31, tt), ((free_zero, (free_zero, tt)), tt))
close_clean (Exit checked) h = each_append (service_number checked 17) _ (service_clean checked 17) ((free_two, (free_four, (free_two, tt))), (tt, tt))

block_clean : (xs : List Item) → Formed xs → Each Clean xs
block_clean xs f = subst (Each Clean) (sym f.is) (each_append (flat_map form_items f.forms) (close_items f.close) (forms_clean f.forms f.fit) (close_clean f.close f.close_fits))

-- The last item but one.

-- a conditional branch names a block
abbrev Names : Item → Type 0
Names x = (rs rt imm : ℕ) → (x.instr ≡ Beq rs rt imm) ⊎ (x.instr ≡ Bne rs rt imm) → (t : ℕ) × (x.fix ≡ Block t)

record Ending (xs : List Item) : Type 0 where
  front : List Item
  one : Item
  last : Item
  is : xs ≡ front ++ (one ∷ last ∷ [])
  names : Names one

no_branch : (x : Item) → ((rs rt imm : ℕ) → x.instr ≡ Beq rs rt imm → ⊥) → ((rs rt imm : ℕ) → x.instr ≡ Bne rs rt imm → ⊥) → Names x
no_branch x f g rs rt imm (inl e) = absurd (f rs rt imm e)
no_branch x f g rs rt imm (inr e) = absurd (g rs rt imm e)

close_ending : (c : Close) → Ending (close_items c)
close_ending (Jump to) = record { front = []; one = going (J 0) (Block to); last = plain nop Act; is = refl; names = no_branch (going (J 0) (Block to)) (λ a b c e. absurd (cc)) (λ a b c e. absurd (cc)) }
close_ending (Branch checked r true to) = record { front = check_if checked r; one = going (Bne r 0 0) (Block to); last = plain nop Act; is = refl; names = λ a b c e. (to, refl) }
close_ending (Branch checked r false to) = record { front = check_if checked r; one = going (Beq r 0 0) (Block to); last = plain nop Act; is = refl; names = λ a b c e. (to, refl) }
close_ending (Call f) = record { front = []; one = going (Jal 0) (Function f); last = plain nop Act; is = refl; names = no_branch (going (Jal 0) (Function f)) (λ a b c e. absurd (cc)) (λ a b c e. absurd (cc)) }
close_ending (Return checked) = record { front = check_if checked 31; one = plain (Jr 31) Act; last = plain nop Act; is = refl; names = no_branch (plain (Jr 31) Act) (λ a b c e. absurd (cc)) (λ a b c e. absurd (cc)) }
close_ending (Exit checked) = record { front = service_number checked 17; one = plain Syscall Act; last = plain (Break 1) Act; is = refl; names = no_branch (plain Syscall Act) (λ a b c e. absurd (cc)) (λ a b c e. absurd (cc)) }

block_ending : (xs : List Item) → Formed xs → Ending xs
block_ending xs f =
    let e : Ending (close_items f.close) = close_ending f.close in
    record {
      front = flat_map form_items f.forms ++ e.front;
      one = e.one;
      last = e.last;
      is = f.is ∙ (ap (λ (ys : List Item). flat_map form_items f.forms ++ ys) e.is ∙ sym (append_assoc (flat_map form_items f.forms) e.front (e.one ∷ e.last ∷ [])));
      names = e.names;
    }

last_but_one : (xs : List Item) (k : ℕ) (i x y : Item) → slice_get (xs ++ (x ∷ y ∷ [])) k ≡ Some i → k + 2 ≡ length (xs ++ (x ∷ y ∷ [])) → x ≡ i
last_but_one [] zero i x y e h = same_some e
  where
    same_some : Some x ≡ Some i → x ≡ i
    same_some e = cc
last_but_one [] (suc k) i x y e h = absurd (omega arith)
last_but_one (z ∷ xs) zero i x y e h = absurd (two_more xs h)
  where
    two_more : (xs : List Item) → 0 + 2 ≡ suc (length (xs ++ (x ∷ y ∷ []))) → ⊥
    two_more xs h = omega (arith, length-append xs (x ∷ y ∷ []))
last_but_one (z ∷ xs) (suc k) i x y e h = last_but_one xs k i x y e (omega arith)

-- Whole programs.

block_by : (p : HardProgram) (b k : ℕ) (i : Item) → slice_get (items_of p b) k ≡ Some i → (b < length p.blocks) ⊎ (length p.blocks ≤ b) → b < length p.blocks
block_by p b k i e (inl h) = h
block_by p b k i e (inr h) = absurd (no_item (sym (ap (λ (o : Option HardBlock). slice_get (block_items o) k) (slice_get_past p.blocks b h)) ∙ e))
  where
    no_item : None ≡ Some i → ⊥
    no_item e = cc

less_or : (a b : ℕ) → (a < b) ⊎ (b ≤ a)
less_or a b = grind arith

pub blocks_fit : (p : HardProgram) → ((b : ℕ) → b < length p.blocks → Formed (items_of p b)) → BlocksFit p
blocks_fit p formed = record {
  spares = λ b k i e q s t. clean_spares (touched i.instr) q (each_at (items_of p b) k i (block_clean (items_of p b) (formed b (block_by p b k i e (less_or b (length p.blocks))))) e) s t;
  last_names = λ b k rs rt imm i e g h.
      let w : Ending (items_of p b) = block_ending (items_of p b) (formed b (block_by p b k i e (less_or b (length p.blocks)))) in
      let same : w.one ≡ i = last_but_one w.front k i w.one w.last (subst (λ (xs : List Item). slice_get xs k ≡ Some i) w.is e) (subst (λ (xs : List Item). k + 2 ≡ length xs) w.is h) in
      subst Names same w.names rs rt imm g;
}
