-- Services stand in their forms: the ninth rule.
use Rattle.std.proofs.Common.{◌≡◌, ◌≤◌, ◌<◌, ℕ, zero, suc, ◌+◌, ◌*◌, ◌%◌, ◌^◌, arith, ap, refl, sym, ◌∙◌, subst, List, [], ◌∷◌, ◌++◌, length, append_assoc, append-nil, length-append, Bool, true, false, cond, inl, inr}
use Rattle.std.specs.Prelude.{Option, Some, None, ◌⊎◌, ◌==◌, ◌&&◌, ◌||◌, not, nat_le, IsTrue, flat_map, slice_get}
use Rattle.mips_isa.specs.declared.instr.Instr.{Instr}
use Rattle.mips_isa.specs.declared.instr.Instr.TheVariants.{J, Jal, Jr, Beq, Bne, Break, Syscall, Sw, Ori, Addu, Xori, Xor}
use Rattle.mips_isa.specs.Machine.{reads_of, writes_of}
use Rattle.mips_text.specs.Text.{At}
use Rattle.mips_text.specs.Typing.{Role, master, shadow, signs, role_of, Of}
use Rattle.mips_text.specs.Forms.{IsPair, OutputAt, ExitAt, InputAt, WordOf}
use Rattle.mips_text.specs.Forms as lint_forms
use Rattle.harden_lint.specs.Rules.{KeepsForms}
use Rattle.mips_text.specs.Text.{Uses, used_of}
use Rattle.mips_text.specs.Blocks.{IsStart, HeadAt}
use Rattle.hard_items.specs.declared.code.Class.{Class}
use Rattle.hard_items.specs.declared.code.Class.TheVariants.{Check, Act, Input, Head}
use Rattle.hard_items.specs.declared.code.Fix.TheVariants.{Plain, Block, Function}
use Rattle.hard_items.specs.declared.code.Item.{Item}
use Rattle.hard_items.specs.declared.code.HardProgram.{HardProgram}
use Rattle.hard_items.specs.declared.code.Mark.{Mark}
use Rattle.hard_items.specs.declared.code.Signed.{Signed}
use Rattle.hard_items.specs.Streams.{nop, plain, shadow_of, touched}
use Rattle.hard_items.specs.Run.{items_of}
use Rattle.hard_items.specs.Forms.{Each, service_number, going, is_value, CloseFits, Form, Alone, Product, Store, Test, Output, Takes, Idle, Close, Jump, Branch, Call, Return, Exit, form_items, close_items, block_of, MayTouch, FormFits, HasChecks, CloseHasChecks}
use Rattle.hard_items.specs.Rules.{Checked, Guarded}
use Rattle.hard_items.specs.Heads.{head_items, headed}
use Rattle.layout_law.specs.Layout.{address, filled, text}
use Rattle.layout_law.specs.Level.{Layable, Entered}
use Rattle.layout_law.proofs.Views.{ItemWord, item_word, at_item, next_item, in_text}
use Rattle.layout_law.proofs.Starts.{same_instr, filled_as}
use Rattle.layout_law.proofs.Lines.{head_of, items_headed, heads_length}
use Rattle.layout_law.proofs.Uses.{split_append, AllSplits, all_splits}
use Rattle.layout_law.proofs.Clean.{among_each}
use Rattle.layout_law.proofs.Streams.{role_of_class, may_role, stored_pair}
use Rattle.layout_law.proofs.Checked.{PairFits, value_pair, link_pair}
use Rattle.layout_law.proofs.Slots.{puts_by, exits_by}
use Rattle.layout_law.proofs.Clean.{filled_touched, each_swap, has_head}
use Rattle.layout_law.proofs.Uses.{value_ten, base_pair}

no_true : true ≡ false → ⊥
no_true e = cc

-- ---- items that leave register 2 alone

abbrev pub Alone2 : ℕ → Type 0
Alone2 r = (r ≡ 2) → ⊥

role_alone : (X : Role) (r : ℕ) → Of X r → Alone2 r
role_alone X r h e = no (sym (ap role_of e) ∙ h)
  where
    no : None ≡ Some X → ⊥
    no q = cc

zero_alone : Alone2 0
zero_alone e = no 0 2 refl refl e
  where
    no : (m n : ℕ) → m ≡ 0 → n ≡ 2 → m ≡ n → ⊥
    no m n e f g = omega arith

may_alone : (k : Class) (rs : List ℕ) → Each (MayTouch k) rs → Each Alone2 rs
may_alone k [] h = tt
may_alone k (r ∷ rs) h = (elim (may_role k r h.0) as (λ z. Alone2 r) [ inl e ↦ subst Alone2 (sym e) zero_alone | inr e ↦ role_alone (role_of_class k) r e ], may_alone k rs h.1)

abbrev pub ServeBy : List Item → Item → List Item → Type 0
ServeBy d i mo = (p : HardProgram) (l : Layable p) (a : ℕ) (w : ItemWord p a) (front rest : List Item) → w.done ≡ front ++ d → w.item ≡ i → w.more ≡ mo ++ rest → Uses (text p) a 2 → (k : ℕ) × WordOf (text p) a k

pub record Serves (d : List Item) (i : Item) (mo : List Item) : Type 0 where
  pub rule : ServeBy d i mo

spares : (d : List Item) (i : Item) (mo : List Item) → Each Alone2 (touched i.instr) → Serves d i mo
spares d i mo h = record {
  rule = λ p l a w front rest e f g u.
      let x : filled p w.block a w.item.fix w.item.instr ≡ u.instr = same_instr (text p) a (filled p w.block a w.item.fix w.item.instr) u.instr (at_item p l a w) u.at in
      let t : touched u.instr ≡ touched i.instr = sym (ap touched x) ∙ (filled_touched p w.block a w.item.fix w.item.instr ∙ ap (λ (z : Item). touched z.instr) f) in
      absurd (among_each Alone2 (used_of u.instr) 2 (each_swap Alone2 (reads_of u.instr) (writes_of u.instr) (subst (λ (z : List ℕ). Each Alone2 z) (sym t) h)) u.uses refl);
}

-- The first word of a form, from one further on.
pub record FirstWord (p : HardProgram) (a : ℕ) (w : ItemWord p a) (x : Item) (d : List Item) : Type 0 where
  pub at : ℕ
  pub word : ItemWord p at
  pub item : word.item ≡ x
  pub more : word.more ≡ d ++ w.item ∷ w.more
  pub far : a ≡ at + 4 * suc (length d)

first_word : (p : HardProgram) (a : ℕ) (w : ItemWord p a) (front : List Item) (x : Item) (d : List Item) → w.done ≡ front ++ x ∷ d → FirstWord p a w x d
first_word p a w front x d e = record {
  at = address p w.block + 4 * length front;
  word = record { block = w.block; there = w.there; done = front; item = x; more = d ++ w.item ∷ w.more; split = w.split ∙ (ap (λ (z : List Item). z ++ w.item ∷ w.more) e ∙ append_assoc front (x ∷ d) (w.item ∷ w.more)); at = refl };
  item = refl;
  more = refl;
  far = w.at ∙ sum (address p w.block) (length front) (length d) (length w.done) (ap length e ∙ length-append front (x ∷ d));
}
  where
    sum : (b f d n : ℕ) → n ≡ f + suc d → b + 4 * n ≡ b + 4 * f + 4 * suc d
    sum b f d n e = omega arith

plain_at : (p : HardProgram) (l : Layable p) (a : ℕ) (w : ItemWord p a) (x : Instr) (k : Class) → w.item ≡ plain x k → At (text p) a x
plain_at p l a w x k f = at_item p l a w ∙ ap Some (filled_as p w.block a w.item.fix Plain w.item.instr x (ap (λ (z : Item). z.fix) f) (ap (λ (z : Item). z.instr) f))

takes_by : (p : HardProgram) (l : Layable p) (c m : ℕ) (w : ItemWord p c) (rest : List Item) → is_value m ≡ true → w.item ≡ plain (Ori 2 0 5) Input → w.more ≡ plain Syscall Input ∷ plain (Addu m 2 0) Input ∷ plain (Addu (shadow_of m) 2 0) Input ∷ rest → InputAt (text p) c
takes_by p l c m w rest v f g =
    let x : ItemWord p (c + 4) = next_item p c w (plain Syscall Input) (plain (Addu m 2 0) Input ∷ plain (Addu (shadow_of m) 2 0) Input ∷ rest) g in
    let y : ItemWord p (c + 4 + 4) = next_item p (c + 4) x (plain (Addu m 2 0) Input) (plain (Addu (shadow_of m) 2 0) Input ∷ rest) refl in
    let z : ItemWord p (c + 4 + 4 + 4) = next_item p (c + 4 + 4) y (plain (Addu (shadow_of m) 2 0) Input) rest refl in
    record {
      m = m;
      s = shadow_of m;
      pair = value_ten m v;
      chooses = plain_at p l c w (Ori 2 0 5) Input f;
      serves = plain_at p l (c + 4) x Syscall Input refl;
      first = subst (λ (u : ℕ). At (text p) u (Addu m 2 0)) (eight c) (plain_at p l (c + 4 + 4) y (Addu m 2 0) Input refl);
      second = subst (λ (u : ℕ). At (text p) u (Addu (shadow_of m) 2 0)) (twelve c) (plain_at p l (c + 4 + 4 + 4) z (Addu (shadow_of m) 2 0) Input refl);
    }
  where
    eight : (c : ℕ) → c + 4 + 4 ≡ c + 8
    eight c = omega arith

    twelve : (c : ℕ) → c + 4 + 4 + 4 ≡ c + 12
    twelve c = omega arith

le : (m n : ℕ) → nat_le m n ≡ true → m ≤ n
le m n e = grind arith

both : (i : Item) (xs ys : List Item) (x : Item) → i ≡ x → xs ≡ ys → i ∷ xs ≡ x ∷ ys
both i xs ys x e f = cc

out_ori : Serves (plain (Beq 4 14 2) Check ∷ []) (plain (Ori 2 0 1) Act) (plain (Break 1) Check ∷ plain Syscall Act ∷ [])
out_ori = record {
  rule = λ p l a w front rest e f g u.
      let c : FirstWord p a w (plain (Beq 4 14 2) Check) [] = first_word p a w front (plain (Beq 4 14 2) Check) [] e in
      (1, lint_forms.output c.at (puts_by p l c.at c.word rest c.item (c.more ∙ both w.item w.more (plain (Break 1) Check ∷ plain Syscall Act ∷ rest) (plain (Ori 2 0 1) Act) f g)) (le 1 3 refl) c.far);
}

out_serve : Serves (service_number true 1) (plain Syscall Act) []
out_serve = record {
  rule = λ p l a w front rest e f g u.
      let c : FirstWord p a w (plain (Beq 4 14 2) Check) (plain (Ori 2 0 1) Act ∷ plain (Break 1) Check ∷ []) = first_word p a w front (plain (Beq 4 14 2) Check) (plain (Ori 2 0 1) Act ∷ plain (Break 1) Check ∷ []) e in
      (3, lint_forms.output c.at (puts_by p l c.at c.word rest c.item (c.more ∙ ap (λ (z : List Item). plain (Ori 2 0 1) Act ∷ plain (Break 1) Check ∷ z) (both w.item w.more rest (plain Syscall Act) f g))) (le 3 3 refl) c.far);
}

exit_ori : Serves (plain (Beq 4 14 2) Check ∷ []) (plain (Ori 2 0 17) Act) (plain (Break 1) Check ∷ plain Syscall Act ∷ plain (Break 1) Act ∷ [])
exit_ori = record {
  rule = λ p l a w front rest e f g u.
      let c : FirstWord p a w (plain (Beq 4 14 2) Check) [] = first_word p a w front (plain (Beq 4 14 2) Check) [] e in
      (1, lint_forms.exit c.at (exits_by p l c.at c.word rest c.item (c.more ∙ both w.item w.more (plain (Break 1) Check ∷ plain Syscall Act ∷ plain (Break 1) Act ∷ rest) (plain (Ori 2 0 17) Act) f g)) (le 1 4 refl) c.far);
}

exit_serve : Serves (service_number true 17) (plain Syscall Act) (plain (Break 1) Act ∷ [])
exit_serve = record {
  rule = λ p l a w front rest e f g u.
      let c : FirstWord p a w (plain (Beq 4 14 2) Check) (plain (Ori 2 0 17) Act ∷ plain (Break 1) Check ∷ []) = first_word p a w front (plain (Beq 4 14 2) Check) (plain (Ori 2 0 17) Act ∷ plain (Break 1) Check ∷ []) e in
      (3, lint_forms.exit c.at (exits_by p l c.at c.word rest c.item (c.more ∙ ap (λ (z : List Item). plain (Ori 2 0 17) Act ∷ plain (Break 1) Check ∷ z) (both w.item w.more (plain (Break 1) Act ∷ rest) (plain Syscall Act) f g))) (le 3 4 refl) c.far);
}

abbrev takes_rest : ℕ → List Item
takes_rest m = plain Syscall Input ∷ plain (Addu m 2 0) Input ∷ plain (Addu (shadow_of m) 2 0) Input ∷ []

take_0 : (m : ℕ) → is_value m ≡ true → Serves [] (plain (Ori 2 0 5) Input) (takes_rest m)
take_0 m v = record { rule = λ p l a w front rest e f g u. (0, lint_forms.input a (takes_by p l a m w rest v f g) (le 0 3 refl) (none a)) }
  where
    none : (a : ℕ) → a ≡ a + 4 * 0
    none a = omega arith

take_1 : (m : ℕ) → is_value m ≡ true → Serves (plain (Ori 2 0 5) Input ∷ []) (plain Syscall Input) (plain (Addu m 2 0) Input ∷ plain (Addu (shadow_of m) 2 0) Input ∷ [])
take_1 m v = record {
  rule = λ p l a w front rest e f g u.
      let c : FirstWord p a w (plain (Ori 2 0 5) Input) [] = first_word p a w front (plain (Ori 2 0 5) Input) [] e in
      (1, lint_forms.input c.at (takes_by p l c.at m c.word rest v c.item (c.more ∙ both w.item w.more (plain (Addu m 2 0) Input ∷ plain (Addu (shadow_of m) 2 0) Input ∷ rest) (plain Syscall Input) f g)) (le 1 3 refl) c.far);
}

take_2 : (m : ℕ) → is_value m ≡ true → Serves (plain (Ori 2 0 5) Input ∷ plain Syscall Input ∷ []) (plain (Addu m 2 0) Input) (plain (Addu (shadow_of m) 2 0) Input ∷ [])
take_2 m v = record {
  rule = λ p l a w front rest e f g u.
      let c : FirstWord p a w (plain (Ori 2 0 5) Input) (plain Syscall Input ∷ []) = first_word p a w front (plain (Ori 2 0 5) Input) (plain Syscall Input ∷ []) e in
      (2, lint_forms.input c.at (takes_by p l c.at m c.word rest v c.item (c.more ∙ ap (λ (z : List Item). plain Syscall Input ∷ z) (both w.item w.more (plain (Addu (shadow_of m) 2 0) Input ∷ rest) (plain (Addu m 2 0) Input) f g))) (le 2 3 refl) c.far);
}

take_3 : (m : ℕ) → is_value m ≡ true → Serves (plain (Ori 2 0 5) Input ∷ plain Syscall Input ∷ plain (Addu m 2 0) Input ∷ []) (plain (Addu (shadow_of m) 2 0) Input) []
take_3 m v = record {
  rule = λ p l a w front rest e f g u.
      let c : FirstWord p a w (plain (Ori 2 0 5) Input) (plain Syscall Input ∷ plain (Addu m 2 0) Input ∷ []) = first_word p a w front (plain (Ori 2 0 5) Input) (plain Syscall Input ∷ plain (Addu m 2 0) Input ∷ []) e in
      (3, lint_forms.input c.at (takes_by p l c.at m c.word rest v c.item (c.more ∙ ap (λ (z : List Item). plain Syscall Input ∷ plain (Addu m 2 0) Input ∷ z) (both w.item w.more rest (plain (Addu (shadow_of m) 2 0) Input) f g))) (le 3 3 refl) c.far);
}

beq_spares : (d mo : List Item) (m : ℕ) (k : Class) → PairFits m → Serves d (plain (Beq m (shadow_of m) 2) k) mo
beq_spares d mo m k f = spares d (plain (Beq m (shadow_of m) 2) k) mo (role_alone master m f.first, (role_alone shadow (shadow_of m) f.second, tt))

nop_spares : (d mo : List Item) (k : Class) → Serves d (plain nop k) mo
nop_spares d mo k = spares d (plain nop k) mo (zero_alone, (zero_alone, tt))

form_serves : (f : Form) → FormFits f → HasChecks f → AllSplits Serves [] (form_items f)
form_serves (Alone i) f h = (spares _ i _ (may_alone i.class (touched i.instr) f.own), tt)
form_serves (Product i j) f h = (spares _ i _ (may_alone i.class (touched i.instr) f.own), (spares _ j _ (may_alone j.class (touched j.instr) f.own_move), tt))
form_serves (Store true v b o) f h =
    let x : PairFits v = stored_pair v f.0 in
    let y : PairFits b = base_pair b f.1 in (
      beq_spares _ _ v Check x,
      (
        nop_spares _ _ Check,
        (
          spares _ (plain (Break 1) Check) _ tt,
          (
            beq_spares _ _ b Check y,
            (
              nop_spares _ _ Check,
              (
                spares _ (plain (Break 1) Check) _ tt,
                (spares _ (plain (Sw v b o) Act) _ (role_alone master v x.first, (role_alone master b y.first, tt)), (spares _ (plain (Sw (shadow_of v) (shadow_of b) (Rattle.std.specs.Prelude.◌%◌ (o + 4) (2 ^ 16))) Act) _ (role_alone shadow (shadow_of v) x.second, (role_alone shadow (shadow_of b) y.second, tt)), tt)),
              ),
            ),
          ),
        ),
      ),
    )
form_serves (Store false v b o) f h = absurd (no_true (sym h))
form_serves (Test true m code) f h = (beq_spares _ _ m Check (value_pair m f.0), (nop_spares _ _ Check, (spares _ (plain (Break 1) Check) _ tt, (spares _ (plain (Bne m 0 2) Act) _ (role_alone master m (value_pair m f.0).first, (zero_alone, tt)), (nop_spares _ _ Act, (spares _ (plain (Break code) Act) _ tt, tt))))))
form_serves (Test false m code) f h = absurd (no_true (sym h))
form_serves (Output true) f h = (beq_spares _ _ 4 Check (value_pair 4 refl), (out_ori, (spares _ (plain (Break 1) Check) _ tt, (out_serve, tt))))
form_serves (Output false) f h = absurd (no_true (sym h))
form_serves (Takes m) f h = (take_0 m f, (take_1 m f, (take_2 m f, (take_3 m f, tt))))
form_serves Idle f h = (nop_spares _ _ Act, tt)

close_serves : (c : Close) → CloseFits c → CloseHasChecks c → AllSplits Serves [] (close_items c)
close_serves (Jump t) f h = (spares _ (going (J 0) (Block t)) _ tt, (nop_spares _ _ Act, tt))
close_serves (Branch true m true t) f h = (beq_spares _ _ m Check (value_pair m f), (nop_spares _ _ Check, (spares _ (plain (Break 1) Check) _ tt, (spares _ (going (Bne m 0 0) (Block t)) _ (role_alone master m (value_pair m f).first, (zero_alone, tt)), (nop_spares _ _ Act, tt)))))
close_serves (Branch true m false t) f h = (beq_spares _ _ m Check (value_pair m f), (nop_spares _ _ Check, (spares _ (plain (Break 1) Check) _ tt, (spares _ (going (Beq m 0 0) (Block t)) _ (role_alone master m (value_pair m f).first, (zero_alone, tt)), (nop_spares _ _ Act, tt)))))
close_serves (Branch false m w t) f h = absurd (no_true (sym h))
close_serves (Call c) f h = (spares _ (going (Jal 0) (Function c)) _ (role_alone master 31 refl, tt), (nop_spares _ _ Act, tt))
close_serves (Return true) f h = (beq_spares _ _ 31 Check link_pair, (nop_spares _ _ Check, (spares _ (plain (Break 1) Check) _ tt, (spares _ (plain (Jr 31) Act) _ (role_alone master 31 refl, tt), (nop_spares _ _ Act, tt)))))
close_serves (Return false) f h = absurd (no_true (sym h))
close_serves (Exit true) f h = (beq_spares _ _ 4 Check (value_pair 4 refl), (exit_ori, (spares _ (plain (Break 1) Check) _ tt, (exit_serve, (spares _ (plain (Break 1) Act) _ tt, tt)))))
close_serves (Exit false) f h = absurd (no_true (sym h))

head_serves : (m : Mark) → AllSplits Serves [] (head_items m)
head_serves m = (
  spares _ (plain (Xori 24 24 m.d) Head) _ (s 24 refl, (s 24 refl, tt)),
  (
    spares _ (plain (Rattle.std.specs.Prelude.if◌then◌else◌ m.fan (Xor 24 24 28) nop) Head) _ (by m.fan),
    (
      spares _ (plain (Ori 1 0 m.s) Head) _ (zero_alone, (s 1 refl, tt)),
      (
        spares _ (plain (Ori 28 0 m.adjust) Head) _ (zero_alone, (s 28 refl, tt)),
        (spares _ (plain (Beq 24 1 2) Head) _ (s 24 refl, (s 1 refl, tt)), (nop_spares _ _ Head, (spares _ (plain (Break 2) Head) _ tt, tt))),
      ),
    ),
  ),
)
  where
    s : (r : ℕ) → Of signs r → Alone2 r
    s r h = role_alone signs r h

    by : (z : Bool) → Each Alone2 (touched (cond z (Xor 24 24 28) nop))
    by true = (role_alone signs 24 refl, (role_alone signs 28 refl, (role_alone signs 24 refl, tt)))
    by false = (zero_alone, (zero_alone, tt))

forms_serve : (fs : List Form) (c : Close) (front : List Item) (p : HardProgram) (l : Layable p) (a : ℕ) (w : ItemWord p a) (d : List Item) → Each FormFits fs → Each HasChecks fs → CloseFits c → CloseHasChecks c → w.done ≡ front ++ d → block_of fs c ≡ d ++ w.item ∷ w.more → Uses (text p) a 2 → (k : ℕ) × WordOf (text p) a k
forms_serve [] c front p l a w d f h cf ch e g u = (all_splits Serves [] (close_items c) d w.item w.more (close_serves c cf ch) g).rule p l a w front [] e refl (sym (append-nil w.more)) u
forms_serve (y ∷ fs) c front p l a w d f h cf ch e g u =
    elim (split_append (form_items y) (block_of fs c) d w.item w.more (sym (append_assoc (form_items y) (flat_map form_items fs) (close_items c)) ∙ g)) as (λ z. (k : ℕ) × WordOf (text p) a k) [
      | inl q ↦ (all_splits Serves [] (form_items y) d w.item q.0 (form_serves y f.0 h.0) q.1).rule p l a w front (block_of fs c) e refl q.2 u
      | inr q ↦ forms_serve fs c (front ++ form_items y) p l a w q.0 f.1 h.1 cf ch (e ∙ (ap (λ (z : List Item). front ++ z) q.1 ∙ sym (append_assoc front (form_items y) q.0))) q.2 u
    ]

block_serves : (b : Option Mark) (items : List Item) (k : Checked items) (p : HardProgram) (l : Layable p) (a : ℕ) (w : ItemWord p a) → head_of b ++ items ≡ w.done ++ w.item ∷ w.more → Uses (text p) a 2 → (k : ℕ) × WordOf (text p) a k
block_serves None items k p l a w e u = forms_serve k.formed.forms k.formed.close [] p l a w w.done k.formed.fit k.each k.formed.close_fits k.close refl (sym k.formed.is ∙ e) u
block_serves (Some m) items k p l a w e u = elim (split_append (head_items m) items w.done w.item w.more e) as (λ z. (k : ℕ) × WordOf (text p) a k) [
  | inl q ↦ (all_splits Serves [] (head_items m) w.done w.item q.0 (head_serves m) q.1).rule p l a w [] items refl refl q.2 u
  | inr q ↦ forms_serve k.formed.forms k.formed.close (head_items m) p l a w q.0 k.formed.fit k.each k.formed.close_fits k.close q.1 (sym k.formed.is ∙ q.2) u
]

-- ---- a start is no inner word

no_inner : (t : List ℕ) (a k d : ℕ) → At t a (Xori 24 24 d) → WordOf t a k → k ≡ 0
no_inner t a k d x (lint_forms.output c o h e) = by k h e
  where
    one : Xori 24 24 d ≡ Ori 2 0 1 → ⊥
    one q = cc

    two : Xori 24 24 d ≡ Break 1 → ⊥
    two q = cc

    three : Xori 24 24 d ≡ Syscall → ⊥
    three q = cc

    no : (k : ℕ) → suc (suc (suc (suc k))) ≤ 3 → ⊥
    no k h = omega arith

    by : (k : ℕ) → k ≤ 3 → a ≡ c + 4 * k → k ≡ 0
    by zero h e = refl
    by (suc zero) h e = absurd (one (same_instr t (c + 4) (Xori 24 24 d) (Ori 2 0 1) (subst (λ (z : ℕ). At t z (Xori 24 24 d)) e x) o.chooses))
    by (suc (suc zero)) h e = absurd (two (same_instr t (c + 8) (Xori 24 24 d) (Break 1) (subst (λ (z : ℕ). At t z (Xori 24 24 d)) e x) o.reports))
    by (suc (suc (suc zero))) h e = absurd (three (same_instr t (c + 12) (Xori 24 24 d) Syscall (subst (λ (z : ℕ). At t z (Xori 24 24 d)) e x) o.serves))
    by (suc (suc (suc (suc k)))) h e = absurd (no k h)
no_inner t a k d x (lint_forms.exit c o h e) = by k h e
  where
    one : Xori 24 24 d ≡ Ori 2 0 17 → ⊥
    one q = cc

    two : Xori 24 24 d ≡ Break 1 → ⊥
    two q = cc

    three : Xori 24 24 d ≡ Syscall → ⊥
    three q = cc

    no : (k : ℕ) → suc (suc (suc (suc (suc k)))) ≤ 4 → ⊥
    no k h = omega arith

    by : (k : ℕ) → k ≤ 4 → a ≡ c + 4 * k → k ≡ 0
    by zero h e = refl
    by (suc zero) h e = absurd (one (same_instr t (c + 4) (Xori 24 24 d) (Ori 2 0 17) (subst (λ (z : ℕ). At t z (Xori 24 24 d)) e x) o.chooses))
    by (suc (suc zero)) h e = absurd (two (same_instr t (c + 8) (Xori 24 24 d) (Break 1) (subst (λ (z : ℕ). At t z (Xori 24 24 d)) e x) o.reports))
    by (suc (suc (suc zero))) h e = absurd (three (same_instr t (c + 12) (Xori 24 24 d) Syscall (subst (λ (z : ℕ). At t z (Xori 24 24 d)) e x) o.serves))
    by (suc (suc (suc (suc zero)))) h e = absurd (two (same_instr t (c + 16) (Xori 24 24 d) (Break 1) (subst (λ (z : ℕ). At t z (Xori 24 24 d)) e x) o.stops))
    by (suc (suc (suc (suc (suc k))))) h e = absurd (no k h)
no_inner t a k d x (lint_forms.input c o h e) = by k h e
  where
    one : Xori 24 24 d ≡ Syscall → ⊥
    one q = cc

    two : Xori 24 24 d ≡ Addu o.m 2 0 → ⊥
    two q = cc

    three : Xori 24 24 d ≡ Addu o.s 2 0 → ⊥
    three q = cc

    no : (k : ℕ) → suc (suc (suc (suc k))) ≤ 3 → ⊥
    no k h = omega arith

    by : (k : ℕ) → k ≤ 3 → a ≡ c + 4 * k → k ≡ 0
    by zero h e = refl
    by (suc zero) h e = absurd (one (same_instr t (c + 4) (Xori 24 24 d) Syscall (subst (λ (z : ℕ). At t z (Xori 24 24 d)) e x) o.serves))
    by (suc (suc zero)) h e = absurd (two (same_instr t (c + 8) (Xori 24 24 d) (Addu o.m 2 0) (subst (λ (z : ℕ). At t z (Xori 24 24 d)) e x) o.first))
    by (suc (suc (suc zero))) h e = absurd (three (same_instr t (c + 12) (Xori 24 24 d) (Addu o.s 2 0) (subst (λ (z : ℕ). At t z (Xori 24 24 d)) e x) o.second))
    by (suc (suc (suc (suc k)))) h e = absurd (no k h)

-- The ninth rule.
pub keeps_forms : (s : Signed) (l : Layable (headed s)) (n : Entered (headed s)) → length s.marks ≡ length s.program.blocks → Guarded s.program → (a : ℕ) → KeepsForms (text (headed s)) 0x00400000 a
keeps_forms s l n e g a = record {
  serves = λ u.
      let w : ItemWord (headed s) a = item_word (headed s) a (in_text (text (headed s)) a u.instr u.at) in
      let h : w.block < length s.program.blocks = subst (λ (z : ℕ). w.block < z) (heads_length s.program.blocks s.marks) w.there in
      block_serves (slice_get s.marks w.block) (items_of s.program w.block) (g w.block h) (headed s) l a w (sym (items_headed s w.block h) ∙ w.split) u;
  starts = λ t k w. let h : (h : Rattle.mips_text.specs.Blocks.Head) × HeadAt (text (headed s)) a h = has_head s l n e a t in no_inner (text (headed s)) a k (h.0).d h.1.differs w;
}
