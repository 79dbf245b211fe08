-- No form uses a register of the signatures; the head of each start; and the rules on the signatures and on loads and stores.
use Rattle.std.proofs.Common.{◌≡◌, ◌≤◌, ◌<◌, ℕ, suc, ◌+◌, ◌*◌, arith, ap, refl, sym, ◌∙◌, subst, List, [], ◌∷◌, ◌++◌, length, append_assoc, length-append, Bool, true, false, cond, inl, inr}
use Rattle.std.specs.Prelude.{Option, Some, None, ◌⊎◌, ◌==◌, ◌&&◌, ◌||◌, not, nat_le, IsTrue, flat_map, slice_get}
use Rattle.mips_isa.specs.declared.instr.Instr.{Instr}
use Rattle.mips_isa.specs.declared.instr.Instr.TheVariants.{J, Jal, Beq, Bne, Break, Ori, Lui, Xori, Xor}
use Rattle.mips_isa.specs.Machine.{among, reads_of, writes_of}
use Rattle.mips_text.specs.Text.{At, used_of}
use Rattle.mips_text.specs.Blocks.{HeadAt}
use Rattle.mips_text.specs.Typing.{master, shadow, signs, Of}
use Rattle.harden_lint.specs.Rules.{HasHead, InHead, KeepsSigns}
use Rattle.hard_items.specs.declared.code.Class.{Class}
use Rattle.hard_items.specs.declared.code.Class.TheVariants.{Master, Shadow, Check, Act, Head, Input}
use Rattle.hard_items.specs.declared.code.Fix.{Fix}
use Rattle.hard_items.specs.declared.code.Fix.TheVariants.{Plain, Block, Function, ReturnHigh, ReturnLow}
use Rattle.hard_items.specs.declared.code.Item.{Item}
use Rattle.hard_items.specs.declared.code.HardProgram.{HardProgram}
use Rattle.hard_items.specs.declared.code.Mark.{Mark}
use Rattle.hard_items.specs.declared.code.Signed.{Signed}
use Rattle.hard_items.specs.Streams.{nop, plain, shadow_of, touched, is_master, is_shadow}
use Rattle.hard_items.specs.Run.{items_of}
use Rattle.hard_items.specs.Forms.{Each, Form, Alone, Product, Store, Test, Output, Takes, Idle, Close, Jump, Branch, Call, Return, Exit, check_if, form_items, close_items, block_of, is_value, MayTouch, FormFits, CloseFits, Formed}
use Rattle.hard_items.specs.Heads.{head_items, headed}
use Rattle.layout_law.specs.Layout.{address, filled, text}
use Rattle.layout_law.specs.Level.{Layable, Entered}
use Rattle.layout_law.specs.Signs.{is_sign}
use Rattle.layout_law.proofs.Data.{same_or_not}
use Rattle.layout_law.proofs.Views.{ItemWord, item_word, at_item, next_item, in_text}
use Rattle.layout_law.proofs.Starts.{same_instr, filled_as, start_block, IsBlock}
use Rattle.layout_law.proofs.Lines.{head_of, items_headed, heads_length}
use Rattle.layout_law.proofs.Heads.{mark_there}
use Rattle.layout_law.proofs.Blocks.{block_start}
use Rattle.layout_law.proofs.Checked.{value_low}
use Rattle.layout_law.proofs.Uses.{split_append}

no_true : true ≡ false → ⊥
no_true e = cc

-- ---- no form uses a register of the signatures

abbrev pub IsClean : Item → Type 0
IsClean i = Each (λ r. is_sign r ≡ false) (touched i.instr)

sign_cases : (r : ℕ) → is_sign r ≡ true → (r ≡ 1) ⊎ ((r ≡ 24) ⊎ (r ≡ 28))
sign_cases r h = elim (same_or_not r 1) as (λ z. (r ≡ 1) ⊎ ((r ≡ 24) ⊎ (r ≡ 28))) [
  | inl a ↦ inl a.0
  | inr a ↦ elim (same_or_not r 24) as (λ z. (r ≡ 1) ⊎ ((r ≡ 24) ⊎ (r ≡ 28))) [
    | inl b ↦ inr (inl b.0)
    | inr b ↦ elim (same_or_not r 28) as (λ z. (r ≡ 1) ⊎ ((r ≡ 24) ⊎ (r ≡ 28))) [
      | inl c ↦ inr (inr c.0)
      | inr c ↦ absurd (no_true (sym h ∙ none a.1 b.1 c.1))
    ]
  ]
]
  where
    none : (r == 1) ≡ false → (r == 24) ≡ false → (r == 28) ≡ false → is_sign r ≡ false
    none a b c = rw (a, b, c) refl

not_sign_by : (r : ℕ) → (r ≡ 1 → ⊥) → (r ≡ 24 → ⊥) → (r ≡ 28 → ⊥) → is_sign r ≡ false
not_sign_by r a b c = by (is_sign r) refl
  where
    by : (z : Bool) → is_sign r ≡ z → is_sign r ≡ false
    by false e = e
    by true e = absurd (elim (sign_cases r e) as (λ z. ⊥) [ inl x ↦ a x | inr x ↦ elim x as (λ z. ⊥) [ inl y ↦ b y | inr y ↦ c y ] ])

-- A register that a test takes and 1, 24 and 28 don't is none of the signatures.
by_test : (f : ℕ → Bool) → f 1 ≡ false → f 24 ≡ false → f 28 ≡ false → (r : ℕ) → f r ≡ true → is_sign r ≡ false
by_test f a b c r h = not_sign_by r (λ e. no_true (sym h ∙ (ap f e ∙ a))) (λ e. no_true (sym h ∙ (ap f e ∙ b))) (λ e. no_true (sym h ∙ (ap f e ∙ c)))

may_touch_clean : (k : Class) (r : ℕ) → MayTouch k r → is_sign r ≡ false
may_touch_clean k r (inl e) = ap is_sign e
may_touch_clean Master r (inr h) = by_test is_master refl refl refl r h
may_touch_clean Shadow r (inr h) = by_test is_shadow refl refl refl r h
may_touch_clean Check r (inr h) = absurd (no_true (sym h))
may_touch_clean Act r (inr h) = absurd (no_true (sym h))
may_touch_clean Head r (inr h) = absurd (no_true (sym h))
may_touch_clean Input r (inr h) = absurd (no_true (sym h))

each_clean : (k : Class) (rs : List ℕ) → Each (MayTouch k) rs → Each (λ r. is_sign r ≡ false) rs
each_clean k [] h = tt
each_clean k (r ∷ rs) h = (may_touch_clean k r h.0, each_clean k rs h.1)

value_clean : (r : ℕ) → is_value r ≡ true → is_sign r ≡ false
value_clean r h = by_test is_value refl refl refl r h

-- the shadow of a value register
shadow_value : (r : ℕ) → is_value r ≡ true → is_sign (shadow_of r) ≡ false
shadow_value r h =
    let q : (n : ℕ) × ((r ≡ 4 + n) × (n ≤ 9)) = value_low r h in
    ap is_sign (is r (not29 r q.0 q.1.0 q.1.1) (not31 r q.0 q.1.0 q.1.1)) ∙ not_sign_by (r + 10) (one r) (high r q.0 q.1.0 q.1.1) (higher r q.0 q.1.0 q.1.1)
  where
    not29 : (r x : ℕ) → r ≡ 4 + x → x ≤ 9 → (r == 29) ≡ false
    not29 r x e h = grind arith

    not31 : (r x : ℕ) → r ≡ 4 + x → x ≤ 9 → (r == 31) ≡ false
    not31 r x e h = grind arith

    is : (r : ℕ) → (r == 29) ≡ false → (r == 31) ≡ false → shadow_of r ≡ r + 10
    is r e f = rw (e, f) refl

    one : (r : ℕ) → r + 10 ≡ 1 → ⊥
    one r e = omega arith

    high : (r x : ℕ) → r ≡ 4 + x → x ≤ 9 → r + 10 ≡ 24 → ⊥
    high r x e h f = omega arith

    higher : (r x : ℕ) → r ≡ 4 + x → x ≤ 9 → r + 10 ≡ 28 → ⊥
    higher r x e h f = omega arith

either_clean : (k r : ℕ) → is_sign k ≡ false → is_sign (shadow_of k) ≡ false → IsTrue (is_value r || (r == k)) → (is_sign r ≡ false) × (is_sign (shadow_of r) ≡ false)
either_clean k r a b h = by (is_value r) refl h
  where
    eq : (r k : ℕ) → (r == k) ≡ true → r ≡ k
    eq r k e = grind arith

    by : (z : Bool) → is_value r ≡ z → IsTrue (is_value r || (r == k)) → (is_sign r ≡ false) × (is_sign (shadow_of r) ≡ false)
    by true e h = (value_clean r e, shadow_value r e)
    by false e h = let q : r ≡ k = eq r k (sym (ap (λ (z : Bool). z || (r == k)) e) ∙ h) in (ap is_sign q ∙ a, ap (λ (z : ℕ). is_sign (shadow_of z)) q ∙ b)

each_both : (xs ys : List Item) → Each IsClean xs → Each IsClean ys → Each IsClean (xs ++ ys)
each_both [] ys h k = k
each_both (x ∷ xs) ys h k = (h.0, each_both xs ys h.1 k)

check_clean : (c : Bool) (m : ℕ) → is_sign m ≡ false → is_sign (shadow_of m) ≡ false → Each IsClean (check_if c m)
check_clean true m a b = ((a, (b, tt)), ((refl, (refl, tt)), (tt, tt)))
check_clean false m a b = tt

form_clean : (f : Form) → FormFits f → Each IsClean (form_items f)
form_clean (Alone i) f = (each_clean i.class (touched i.instr) f.own, tt)
form_clean (Product i j) f = (each_clean i.class (touched i.instr) f.own, (each_clean j.class (touched j.instr) f.own_move, tt))
form_clean (Store c v b o) f =
    let x : (is_sign v ≡ false) × (is_sign (shadow_of v) ≡ false) = either_clean 31 v refl refl f.0 in
    let y : (is_sign b ≡ false) × (is_sign (shadow_of b) ≡ false) = either_clean 29 b refl refl f.1 in
    each_both (check_if c v) _ (check_clean c v x.0 x.1) (each_both (check_if c b) _ (check_clean c b y.0 y.1) ((x.0, (y.0, tt)), ((x.1, (y.1, tt)), tt)))
form_clean (Test c m code) f = each_both (check_if c m) _ (check_clean c m (value_clean m f.0) (shadow_value m f.0)) ((value_clean m f.0, (refl, tt)), ((refl, (refl, tt)), (tt, tt)))
form_clean (Output true) f = ((refl, (refl, tt)), ((refl, (refl, tt)), (tt, ((refl, (refl, (refl, tt))), tt))))
form_clean (Output false) f = ((refl, (refl, tt)), ((refl, (refl, (refl, tt))), tt))
form_clean (Takes m) f = ((refl, (refl, tt)), ((refl, (refl, (refl, tt))), ((refl, (refl, (value_clean m f, tt))), ((refl, (refl, (shadow_value m f, tt))), tt))))
form_clean Idle f = ((refl, (refl, tt)), tt)

close_clean : (c : Close) → CloseFits c → Each IsClean (close_items c)
close_clean (Jump t) f = (tt, ((refl, (refl, tt)), tt))
close_clean (Branch c m true t) f = each_both (check_if c m) _ (check_clean c m (value_clean m f) (shadow_value m f)) ((value_clean m f, (refl, tt)), ((refl, (refl, tt)), tt))
close_clean (Branch c m false t) f = each_both (check_if c m) _ (check_clean c m (value_clean m f) (shadow_value m f)) ((value_clean m f, (refl, tt)), ((refl, (refl, tt)), tt))
close_clean (Call g) f = ((refl, tt), ((refl, (refl, tt)), tt))
close_clean (Return c) f = each_both (check_if c 31) _ (check_clean c 31 refl refl) ((refl, tt), ((refl, (refl, tt)), tt))
close_clean (Exit true) f = ((refl, (refl, tt)), ((refl, (refl, tt)), (tt, ((refl, (refl, (refl, tt))), (tt, tt)))))
close_clean (Exit false) f = ((refl, (refl, tt)), ((refl, (refl, (refl, tt))), (tt, tt)))

forms_clean : (fs : List Form) (c : Close) → Each FormFits fs → CloseFits c → Each IsClean (block_of fs c)
forms_clean [] c f g = close_clean c g
forms_clean (x ∷ fs) c f g = subst (λ (z : List Item). Each IsClean z) (sym (append_assoc (form_items x) (flat_map form_items fs) (close_items c))) (each_both (form_items x) (block_of fs c) (form_clean x f.0) (forms_clean fs c f.1 g))

pub formed_clean : (items : List Item) → Formed items → Each IsClean items
formed_clean items f = subst (λ (z : List Item). Each IsClean z) (sym f.is) (forms_clean f.forms f.close f.fit f.close_fits)

-- ---- the head of each start

plain_at : (p : HardProgram) (l : Layable p) (a : ℕ) (w : ItemWord p a) (x : Instr) (k : Class) → w.item ≡ plain x k → At (text p) a x
plain_at p l a w x k f = at_item p l a w ∙ ap Some (filled_as p w.block a w.item.fix Plain w.item.instr x (ap (λ (z : Item). z.fix) f) (ap (λ (z : Item). z.instr) f))

pub head_at : (s : Signed) (l : Layable (headed s)) (b : ℕ) (m : Mark) → b < length s.program.blocks → slice_get s.marks b ≡ Some m → HeadAt (text (headed s)) (address (headed s) b) (record { s = m.s; d = m.d; fan = m.fan; D = m.adjust })
head_at s l b m h e =
    let p : HardProgram = headed s in
    let a : ℕ = address p b in
    let own : List Item = items_of s.program b in
    let q : items_of p b ≡ head_items m ++ own = items_headed s b h ∙ ap (λ (z : Option Mark). head_of z ++ own) e in
    let w0 : ItemWord p a = record { block = b; there = subst (λ (z : ℕ). b < z) (sym (heads_length s.program.blocks s.marks)) h; done = []; item = plain (Xori 24 24 m.d) Head; more = plain (Rattle.std.specs.Prelude.if◌then◌else◌ m.fan (Xor 24 24 28) nop) Head ∷ plain (Ori 1 0 m.s) Head ∷ plain (Ori 28 0 m.adjust) Head ∷ plain (Beq 24 1 2) Head ∷ plain nop Head ∷ plain (Break 2) Head ∷ own; split = q; at = none a } in
    let w1 : ItemWord p (a + 4) = next_item p a w0 _ _ refl in
    let w2 : ItemWord p (a + 4 + 4) = next_item p (a + 4) w1 _ _ refl in
    let w3 : ItemWord p (a + 4 + 4 + 4) = next_item p (a + 4 + 4) w2 _ _ refl in
    let w4 : ItemWord p (a + 4 + 4 + 4 + 4) = next_item p (a + 4 + 4 + 4) w3 _ _ refl in
    let w5 : ItemWord p (a + 4 + 4 + 4 + 4 + 4) = next_item p (a + 4 + 4 + 4 + 4) w4 _ _ refl in
    let w6 : ItemWord p (a + 4 + 4 + 4 + 4 + 4 + 4) = next_item p (a + 4 + 4 + 4 + 4 + 4) w5 _ _ refl in
    record {
      differs = plain_at p l a w0 (Xori 24 24 m.d) Head refl;
      adjusts = plain_at p l (a + 4) w1 (Rattle.std.specs.Prelude.if◌then◌else◌ m.fan (Xor 24 24 28) nop) Head refl;
      wants = subst (λ (z : ℕ). At (text p) z (Ori 1 0 m.s)) (e8 a) (plain_at p l (a + 4 + 4) w2 (Ori 1 0 m.s) Head refl);
      leaves = subst (λ (z : ℕ). At (text p) z (Ori 28 0 m.adjust)) (e12 a) (plain_at p l (a + 4 + 4 + 4) w3 (Ori 28 0 m.adjust) Head refl);
      compares = subst (λ (z : ℕ). At (text p) z (Beq 24 1 2)) (e16 a) (plain_at p l (a + 4 + 4 + 4 + 4) w4 (Beq 24 1 2) Head refl);
      waits = subst (λ (z : ℕ). At (text p) z nop) (e20 a) (plain_at p l (a + 4 + 4 + 4 + 4 + 4) w5 nop Head refl);
      reports = subst (λ (z : ℕ). At (text p) z (Break 2)) (e24 a) (plain_at p l (a + 4 + 4 + 4 + 4 + 4 + 4) w6 (Break 2) Head refl);
    }
  where
    none : (a : ℕ) → a ≡ a + 4 * 0
    none a = omega arith

    e8 : (a : ℕ) → a + 4 + 4 ≡ a + 8
    e8 a = omega arith

    e12 : (a : ℕ) → a + 4 + 4 + 4 ≡ a + 12
    e12 a = omega arith

    e16 : (a : ℕ) → a + 4 + 4 + 4 + 4 ≡ a + 16
    e16 a = omega arith

    e20 : (a : ℕ) → a + 4 + 4 + 4 + 4 + 4 ≡ a + 20
    e20 a = omega arith

    e24 : (a : ℕ) → a + 4 + 4 + 4 + 4 + 4 + 4 ≡ a + 24
    e24 a = omega arith

-- The second rule.
pub has_head : (s : Signed) → Layable (headed s) → Entered (headed s) → length s.marks ≡ length s.program.blocks → (a : ℕ) → HasHead (text (headed s)) 0x00400000 a
has_head s l n e a t =
    let b : IsBlock (headed s) a = start_block (headed s) l n a t in
    let h : b.0 < length s.program.blocks = subst (λ (z : ℕ). b.0 < z) (heads_length s.program.blocks s.marks) b.1 in
    let m : (m : Mark) × (slice_get s.marks b.0 ≡ Some m) = mark_there s b.0 e h in
    (record { s = (m.0).s; d = (m.0).d; fan = (m.0).fan; D = (m.0).adjust }, subst (λ (z : ℕ). HeadAt (text (headed s)) z (record { s = (m.0).s; d = (m.0).d; fan = (m.0).fan; D = (m.0).adjust })) (sym b.2) (head_at s l b.0 m.0 h m.1))

-- ---- the rule on the registers of the signatures

pub filled_touched : (p : HardProgram) (b at : ℕ) (f : Fix) (x : Instr) → touched (filled p b at f x) ≡ touched x
filled_touched p b at Plain x = refl
filled_touched p b at (Block t) (J tg) = refl
filled_touched p b at (Block t) (Beq rs rt imm) = refl
filled_touched p b at (Block t) (Bne rs rt imm) = refl
filled_touched p b at (Block t) x = refl
filled_touched p b at (Function f) (Jal tg) = refl
filled_touched p b at (Function f) x = refl
filled_touched p b at ReturnHigh (Lui rt imm) = refl
filled_touched p b at ReturnHigh x = refl
filled_touched p b at ReturnLow (Ori rt rs imm) = refl
filled_touched p b at ReturnLow x = refl

pub among_each : (P : ℕ → Type 0) (rs : List ℕ) (r : ℕ) → Each P rs → IsTrue (among r rs) → P r
among_each P [] r h t = absurd (no_true (sym t))
among_each P (x ∷ rs) r h t = elim (same_or_not r x) as (λ z. P r) [
  | inl e ↦ subst P (sym e.0) h.0
  | inr e ↦ among_each P rs r h.1 (sym (ap (λ (z : Bool). z || among r rs) e.1) ∙ t)
]

pub each_swap : (P : ℕ → Type 0) (xs ys : List ℕ) → Each P (xs ++ ys) → Each P (ys ++ xs)
each_swap P xs ys h = join ys xs (Rattle.layout_law.proofs.Acts.each_right P xs ys h) (Rattle.layout_law.proofs.Acts.each_left P xs ys h)
  where
    join : (xs ys : List ℕ) → Each P xs → Each P ys → Each P (xs ++ ys)
    join [] ys h k = k
    join (x ∷ xs) ys h k = (h.0, join xs ys h.1 k)

sign_role : (r : ℕ) → Of signs r → is_sign r ≡ true
sign_role r h = by ((nat_le 4 r && nat_le r 13) || ((r == 29) || (r == 31))) ((nat_le 14 r && nat_le r 23) || ((r == 25) || (r == 30))) (is_sign r) h
  where
    no_master : Some master ≡ Some signs → ⊥
    no_master e = cc

    no_shadow : Some shadow ≡ Some signs → ⊥
    no_shadow e = cc

    no_none : None ≡ Some signs → ⊥
    no_none e = cc

    by : (x y z : Bool) → cond x (Some master) (cond y (Some shadow) (cond z (Some signs) None)) ≡ Some signs → z ≡ true
    by x y true h = refl
    by true y false h = absurd (no_master h)
    by false true false h = absurd (no_shadow h)
    by false false false h = absurd (no_none h)

clean_at : (xs done : List Item) (i : Item) (more : List Item) → Each IsClean xs → xs ≡ done ++ i ∷ more → IsClean i
clean_at xs done i more h e = by done (subst (λ (z : List Item). Each IsClean z) e h)
  where
    by : (done : List Item) → Each IsClean (done ++ i ∷ more) → IsClean i
    by [] h = h.0
    by (x ∷ done) h = by done h.1

pub shorter : (xs done : List Item) (i : Item) (more : List Item) → xs ≡ done ++ i ∷ more → length done < length xs
shorter xs done i more e = less (length xs) (length done) (length more) (ap length e ∙ length-append done (i ∷ more))
  where
    less : (n d m : ℕ) → n ≡ d + suc m → d < n
    less n d m e = omega arith

-- The eighth rule.
pub keeps_signs : (s : Signed) (l : Layable (headed s)) (n : Entered (headed s)) → length s.marks ≡ length s.program.blocks → ((b : ℕ) → b < length s.program.blocks → Formed (items_of s.program b)) → (a : ℕ) → KeepsSigns (text (headed s)) 0x00400000 a
keeps_signs s l n e g a r u o =
    let p : HardProgram = headed s in
    let w : ItemWord p a = item_word p a (in_text (text p) a u.instr u.at) in
    let h : w.block < length s.program.blocks = subst (λ (z : ℕ). w.block < z) (heads_length s.program.blocks s.marks) w.there in
    let m : (m : Mark) × (slice_get s.marks w.block ≡ Some m) = mark_there s w.block e h in
    let q : head_items m.0 ++ items_of s.program w.block ≡ w.done ++ w.item ∷ w.more = sym (items_headed s w.block h ∙ ap (λ (z : Option Mark). head_of z ++ items_of s.program w.block) m.1) ∙ w.split in
    elim (split_append (head_items m.0) (items_of s.program w.block) w.done w.item w.more q) as (λ z. InHead (text p) 0x00400000 a) [
      | inl z ↦ record {
        start = address p w.block;
        is = block_start p l n w.block w.there;
        head = record { s = (m.0).s; d = (m.0).d; fan = (m.0).fan; D = (m.0).adjust };
        stands = head_at s l w.block m.0 h m.1;
        from = lo a (address p w.block) (length w.done) w.at;
        upto = hi a (address p w.block) (length w.done) w.at (shorter (head_items m.0) w.done w.item z.0 z.1);
      }
      | inr z ↦ absurd (no_true (sym (sign_role r o) ∙ used w (clean_at (items_of s.program w.block) z.0 w.item w.more (formed_clean (items_of s.program w.block) (g w.block h)) z.2)))
    ]
  where
    lo : (a b d : ℕ) → a ≡ b + 4 * d → b ≤ a
    lo a b d e = omega arith

    hi : (a b d : ℕ) → a ≡ b + 4 * d → d < 7 → a ≤ b + 24
    hi a b d e h = omega arith

    used : (w : ItemWord (headed s) a) → IsClean w.item → is_sign r ≡ false
    used w c =
        let x : filled (headed s) w.block a w.item.fix w.item.instr ≡ u.instr = same_instr (text (headed s)) a (filled (headed s) w.block a w.item.fix w.item.instr) u.instr (at_item (headed s) l a w) u.at in
        let t : touched u.instr ≡ touched w.item.instr = sym (ap touched x) ∙ filled_touched (headed s) w.block a w.item.fix w.item.instr in
        among_each (λ r. is_sign r ≡ false) (used_of u.instr) r (each_swap (λ r. is_sign r ≡ false) (reads_of u.instr) (writes_of u.instr) (subst (λ (z : List ℕ). Each (λ r. is_sign r ≡ false) z) (sym t) c)) u.uses
