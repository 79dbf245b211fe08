-- The rule on streams, by the forms.
use Rattle.std.proofs.Common.{◌≡◌, ◌≤◌, ◌<◌, ℕ, ◌+◌, ◌*◌, ◌%◌, ◌^◌, arith, ap, refl, sym, ◌∙◌, subst, List, [], ◌∷◌, ◌++◌, length, append_assoc, append-nil, Bool, true, false, cond, inl, inr}
use Rattle.std.specs.Prelude.{Option, Some, None, ◌⊎◌, ◌==◌, ◌&&◌, ◌||◌, not, nat_le, IsTrue, flat_map, slice_get}
use Rattle.mips_isa.specs.declared.instr.Instr.{Instr}
use Rattle.mips_isa.specs.declared.instr.Instr.TheVariants.{J, Jal, Jr, Beq, Bne, Break, Syscall, Sw, Ori, Addu}
use Rattle.mips_isa.specs.Machine.{reads_of, writes_of}
use Rattle.mips_text.specs.Text.{At, used_of}
use Rattle.mips_text.specs.Typing.{Role, master, shadow, signs, Of}
use Rattle.harden_lint.specs.Rules.{InHead, IsCheck, OneStream}
use Rattle.hard_items.specs.declared.code.Class.{Class}
use Rattle.hard_items.specs.declared.code.Class.TheVariants.{Master, Shadow, Check, Act, Input, Head}
use Rattle.hard_items.specs.declared.code.Fix.TheVariants.{Plain, Block, Function}
use Rattle.hard_items.specs.declared.code.Item.{Item}
use Rattle.hard_items.specs.declared.code.HardProgram.{HardProgram}
use Rattle.hard_items.specs.declared.code.Mark.{Mark}
use Rattle.hard_items.specs.declared.code.Signed.{Signed}
use Rattle.hard_items.specs.Streams.{nop, plain, shadow_of, touched, is_master, is_shadow}
use Rattle.hard_items.specs.Run.{items_of}
use Rattle.hard_items.specs.Forms.{Each, Form, Alone, Product, Store, Test, Output, Takes, Idle, Close, Jump, Branch, Call, Return, Exit, form_items, close_items, block_of, going, is_value, MayTouch, FormFits, CloseFits, HasChecks, CloseHasChecks}
use Rattle.hard_items.specs.Rules.{Checked, Guarded}
use Rattle.hard_items.specs.Heads.{head_items, headed}
use Rattle.layout_law.specs.Layout.{address, filled, text}
use Rattle.layout_law.specs.Level.{Layable, Entered}
use Rattle.layout_law.proofs.Data.{same_or_not}
use Rattle.layout_law.proofs.Views.{ItemWord, item_word, at_item, next_item, in_text}
use Rattle.layout_law.proofs.Starts.{same_instr, filled_as}
use Rattle.layout_law.proofs.Lines.{head_of, items_headed, heads_length}
use Rattle.layout_law.proofs.Heads.{mark_there}
use Rattle.layout_law.proofs.Blocks.{block_start}
use Rattle.layout_law.proofs.Checked.{PairFits, value_pair, link_pair}
use Rattle.layout_law.proofs.Uses.{split_append, AllSplits, all_splits, base_pair}
use Rattle.layout_law.proofs.Clean.{filled_touched, among_each, each_swap, head_at, shorter}

no_true : true ≡ false → ⊥
no_true e = cc

-- ---- roles

abbrev pub OfStream : Role → ℕ → Type 0
OfStream X r = (r ≡ 0) ⊎ ((r ≡ 2) ⊎ Of X r)

master_role : (r : ℕ) → is_master r ≡ true → Of master r
master_role r h = ap (λ (z : Bool). cond z (Some master) (cond ((nat_le 14 r && nat_le r 23) || ((r == 25) || (r == 30))) (Some shadow) (cond ((r == 1) || ((r == 24) || (r == 28))) (Some signs) None))) h

shadow_not_master : (r : ℕ) → is_shadow r ≡ true → is_master r ≡ false
shadow_not_master r h = by (nat_le 14 r && nat_le r 23) refl
  where
    eq : (r k : ℕ) → (r == k) ≡ true → r ≡ k
    eq r k e = grind arith

    both : (x y : Bool) → (x && y) ≡ true → x ≡ true
    both true y e = refl
    both false y e = absurd (no_true (sym e))

    high : (r : ℕ) → nat_le 14 r ≡ true → nat_le r 13 ≡ false
    high r e = grind arith

    low : (r : ℕ) → (nat_le 14 r && nat_le r 23) ≡ true → (r == 29) ≡ false
    low r e = grind arith

    lower : (r : ℕ) → (nat_le 14 r && nat_le r 23) ≡ true → (r == 31) ≡ false
    lower r e = grind arith

    none : (x : Bool) → (x && false) ≡ false
    none true = refl
    none false = refl

    by : (z : Bool) → (nat_le 14 r && nat_le r 23) ≡ z → is_master r ≡ false
    by true e = rw (high r (both (nat_le 14 r) (nat_le r 23) e), low r e, lower r e, none (nat_le 4 r)) refl
    by false e = elim (same_or_not r 30) as (λ z. is_master r ≡ false) [
      | inl q ↦ ap is_master q.0
      | inr q ↦ ap is_master (eq r 25 (sym (ap (λ (z : Bool). z || ((r == 30) || (r == 25))) e ∙ ap (λ (z : Bool). z || (r == 25)) q.1) ∙ h))
    ]

shadow_role : (r : ℕ) → is_shadow r ≡ true → Of shadow r
shadow_role r h = ap (λ (z : Bool). cond z (Some master) (cond ((nat_le 14 r && nat_le r 23) || ((r == 25) || (r == 30))) (Some shadow) (cond ((r == 1) || ((r == 24) || (r == 28))) (Some signs) None))) (shadow_not_master r h) ∙
    ap (λ (z : Bool). cond z (Some shadow) (cond ((r == 1) || ((r == 24) || (r == 28))) (Some signs) None)) (turned ((nat_le 14 r && nat_le r 23)) (r == 30) (r == 25) h)
  where
    turned : (x a b : Bool) → (x || (a || b)) ≡ true → (x || (b || a)) ≡ true
    turned true a b h = refl
    turned false true true h = refl
    turned false true false h = refl
    turned false false true h = refl
    turned false false false h = absurd (no_true (sym h))

-- The stream of a class.
abbrev pub role_of_class : Class → Role
role_of_class Shadow = shadow
role_of_class k = master

pub may_role : (k : Class) (r : ℕ) → MayTouch k r → (r ≡ 0) ⊎ Of (role_of_class k) r
may_role k r (inl e) = inl e
may_role Master r (inr h) = inr (master_role r h)
may_role Shadow r (inr h) = inr (shadow_role r h)
may_role Check r (inr h) = absurd (no_true (sym h))
may_role Act r (inr h) = absurd (no_true (sym h))
may_role Head r (inr h) = absurd (no_true (sym h))
may_role Input r (inr h) = absurd (no_true (sym h))

may_stream : (k : Class) (r : ℕ) → MayTouch k r → OfStream (role_of_class k) r
may_stream k r h = elim (may_role k r h) as (λ z. OfStream (role_of_class k) r) [ inl e ↦ inl e | inr e ↦ inr (inr e) ]

each_stream : (k : Class) (rs : List ℕ) → Each (MayTouch k) rs → Each (OfStream (role_of_class k)) rs
each_stream k [] h = tt
each_stream k (r ∷ rs) h = (may_stream k r h.0, each_stream k rs h.1)

-- ---- one stream

abbrev pub StreamBy : List Item → Item → List Item → Type 0
StreamBy d i mo = (p : HardProgram) (l : Layable p) (a : ℕ) (w : ItemWord p a) (front rest : List Item) → w.done ≡ front ++ d → w.item ≡ i → w.more ≡ mo ++ rest → (x : Instr) → At (text p) a x → IsCheck (text p) a ⊎ OneStream x

pub record Stream (d : List Item) (i : Item) (mo : List Item) : Type 0 where
  pub rule : StreamBy d i mo

one : (d : List Item) (i : Item) (mo : List Item) (X : Role) → Each (OfStream X) (touched i.instr) → Stream d i mo
one d i mo X h = record {
  rule = λ p l a w front rest e f g x t.
      let s : filled p w.block a w.item.fix w.item.instr ≡ x = same_instr (text p) a (filled p w.block a w.item.fix w.item.instr) x (at_item p l a w) t in
      let u : touched x ≡ touched i.instr = sym (ap touched s) ∙ (filled_touched p w.block a w.item.fix w.item.instr ∙ ap (λ (z : Item). touched z.instr) f) in
      inr (record { stream = X; all = λ r m. among_each (OfStream X) (used_of x) r (each_swap (OfStream X) (reads_of x) (writes_of x) (subst (λ (z : List ℕ). Each (OfStream X) z) (sym u) h)) m });
}

plain_at : (p : HardProgram) (l : Layable p) (a : ℕ) (w : ItemWord p a) (x : Instr) (k : Class) → w.item ≡ plain x k → At (text p) a x
plain_at p l a w x k f = at_item p l a w ∙ ap Some (filled_as p w.block a w.item.fix Plain w.item.instr x (ap (λ (z : Item). z.fix) f) (ap (λ (z : Item). z.instr) f))

eight : (a : ℕ) → a + 4 + 4 ≡ a + 8
eight a = omega arith

compares : (d : List Item) (m : ℕ) (s : Item) (mo : List Item) → PairFits m → Stream d (plain (Beq m (shadow_of m) 2) Check) (s ∷ plain (Break 1) Check ∷ mo)
compares d m s mo f = record {
  rule = λ p l a w front rest e h g x t.
      let v : ItemWord p (a + 4) = next_item p a w s (plain (Break 1) Check ∷ (mo ++ rest)) g in
      let u : ItemWord p (a + 4 + 4) = next_item p (a + 4) v (plain (Break 1) Check) (mo ++ rest) refl in
      inl (record { x = m; y = shadow_of m; check = record { compares = plain_at p l a w (Beq m (shadow_of m) 2) Check h; report = subst (λ (z : ℕ). At (text p) z (Break 1)) (eight a) (plain_at p l (a + 4 + 4) u (Break 1) Check refl); streams = inl (f.first, f.second) } });
}

-- nops and breaks
idle_nop : (d : List Item) (k : Class) (mo : List Item) → Stream d (plain nop k) mo
idle_nop d k mo = one d (plain nop k) mo master (inl refl, (inl refl, tt))

idle_break : (d : List Item) (code : ℕ) (k : Class) (mo : List Item) → Stream d (plain (Break code) k) mo
idle_break d code k mo = one d (plain (Break code) k) mo master tt

pub stored_pair : (v : ℕ) → IsTrue (is_value v || (v == 31)) → PairFits v
stored_pair v h = by (is_value v) refl h
  where
    eq : (v : ℕ) → (v == 31) ≡ true → v ≡ 31
    eq v e = grind arith

    by : (z : Bool) → is_value v ≡ z → IsTrue (is_value v || (v == 31)) → PairFits v
    by true e h = value_pair v e
    by false e h = subst PairFits (sym (eq v (sym (ap (λ (z : Bool). z || (v == 31)) e) ∙ h))) link_pair

of : {X : Role} (r : ℕ) → Of X r → OfStream X r
of r h = inr (inr h)

form_streams : (f : Form) → FormFits f → HasChecks f → AllSplits Stream [] (form_items f)
form_streams (Alone i) f h = (one _ i _ (role_of_class i.class) (each_stream i.class (touched i.instr) f.own), tt)
form_streams (Product i j) f h = (one _ i _ (role_of_class i.class) (each_stream i.class (touched i.instr) f.own), (one _ j _ (role_of_class j.class) (each_stream j.class (touched j.instr) f.own_move), tt))
form_streams (Store true v b o) f h =
    let x : PairFits v = stored_pair v f.0 in
    let y : PairFits b = base_pair b f.1 in (
      compares _ v (plain nop Check) _ x,
      (
        idle_nop _ Check _,
        (
          idle_break _ 1 Check _,
          (
            compares _ b (plain nop Check) _ y,
            (
              idle_nop _ Check _,
              (
                idle_break _ 1 Check _,
                (one _ (plain (Sw v b o) Act) _ master (of v x.first, (of b y.first, tt)), (one _ (plain (Sw (shadow_of v) (shadow_of b) (Rattle.std.specs.Prelude.◌%◌ (o + 4) (2 ^ 16))) Act) _ shadow (of (shadow_of v) x.second, (of (shadow_of b) y.second, tt)), tt)),
              ),
            ),
          ),
        ),
      ),
    )
form_streams (Store false v b o) f h = absurd (no_true (sym h))
form_streams (Test true m code) f h =
    (compares _ m (plain nop Check) _ (value_pair m f.0), (idle_nop _ Check _, (idle_break _ 1 Check _, (one _ (plain (Bne m 0 2) Act) _ master (of m (value_pair m f.0).first, (inl refl, tt)), (idle_nop _ Act _, (idle_break _ code Act _, tt))))))
form_streams (Test false m code) f h = absurd (no_true (sym h))
form_streams (Output true) f h = (compares _ 4 (plain (Ori 2 0 1) Act) _ (value_pair 4 refl), (one _ (plain (Ori 2 0 1) Act) _ master (inl refl, (inr (inl refl), tt)), (idle_break _ 1 Check _, (one _ (plain Syscall Act) _ master (inr (inl refl), (of 4 refl, (inr (inl refl), tt))), tt))))
form_streams (Output false) f h = absurd (no_true (sym h))
form_streams (Takes m) f h = (
  one _ (plain (Ori 2 0 5) Input) _ master (inl refl, (inr (inl refl), tt)),
  (
    one _ (plain Syscall Input) _ master (inr (inl refl), (of 4 refl, (inr (inl refl), tt))),
    (one _ (plain (Addu m 2 0) Input) _ master (inr (inl refl), (inl refl, (of m (value_pair m f).first, tt))), (one _ (plain (Addu (shadow_of m) 2 0) Input) _ shadow (inr (inl refl), (inl refl, (of (shadow_of m) (value_pair m f).second, tt))), tt)),
  ),
)
form_streams Idle f h = (idle_nop _ Act _, tt)

close_streams : (c : Close) → CloseFits c → CloseHasChecks c → AllSplits Stream [] (close_items c)
close_streams (Jump t) f h = (one _ (going (J 0) (Block t)) _ master tt, (idle_nop _ Act _, tt))
close_streams (Branch true m true t) f h = (compares _ m (plain nop Check) _ (value_pair m f), (idle_nop _ Check _, (idle_break _ 1 Check _, (one _ (going (Bne m 0 0) (Block t)) _ master (of m (value_pair m f).first, (inl refl, tt)), (idle_nop _ Act _, tt)))))
close_streams (Branch true m false t) f h = (compares _ m (plain nop Check) _ (value_pair m f), (idle_nop _ Check _, (idle_break _ 1 Check _, (one _ (going (Beq m 0 0) (Block t)) _ master (of m (value_pair m f).first, (inl refl, tt)), (idle_nop _ Act _, tt)))))
close_streams (Branch false m w t) f h = absurd (no_true (sym h))
close_streams (Call c) f h = (one _ (going (Jal 0) (Function c)) _ master (of 31 refl, tt), (idle_nop _ Act _, tt))
close_streams (Return true) f h = (compares _ 31 (plain nop Check) _ link_pair, (idle_nop _ Check _, (idle_break _ 1 Check _, (one _ (plain (Jr 31) Act) _ master (of 31 refl, tt), (idle_nop _ Act _, tt)))))
close_streams (Return false) f h = absurd (no_true (sym h))
close_streams (Exit true) f h = (compares _ 4 (plain (Ori 2 0 17) Act) _ (value_pair 4 refl), (one _ (plain (Ori 2 0 17) Act) _ master (inl refl, (inr (inl refl), tt)), (idle_break _ 1 Check _, (one _ (plain Syscall Act) _ master (inr (inl refl), (of 4 refl, (inr (inl refl), tt))), (idle_break _ 1 Act _, tt)))))
close_streams (Exit false) f h = absurd (no_true (sym h))

forms_streams : (fs : List Form) (c : Close) (front : List Item) (p : HardProgram) (l : Layable p) (a : ℕ) (w : ItemWord p a) (d : List Item) → Each FormFits fs → Each HasChecks fs → CloseFits c → CloseHasChecks c → w.done ≡ front ++ d → block_of fs c ≡ d ++ w.item ∷ w.more → (x : Instr) → At (text p) a x → IsCheck (text p) a ⊎ OneStream x
forms_streams [] c front p l a w d f h cf ch e g x t = (all_splits Stream [] (close_items c) d w.item w.more (close_streams c cf ch) g).rule p l a w front [] e refl (sym (append-nil w.more)) x t
forms_streams (y ∷ fs) c front p l a w d f h cf ch e g x t =
    elim (split_append (form_items y) (block_of fs c) d w.item w.more (sym (append_assoc (form_items y) (flat_map form_items fs) (close_items c)) ∙ g)) as (λ z. IsCheck (text p) a ⊎ OneStream x) [
      | inl q ↦ (all_splits Stream [] (form_items y) d w.item q.0 (form_streams y f.0 h.0) q.1).rule p l a w front (block_of fs c) e refl q.2 x t
      | inr q ↦ forms_streams fs c (front ++ form_items y) p l a w q.0 f.1 h.1 cf ch (e ∙ (ap (λ (z : List Item). front ++ z) q.1 ∙ sym (append_assoc front (form_items y) q.0))) q.2 x t
    ]

-- The first half of the third rule.
pub one_stream : (s : Signed) (l : Layable (headed s)) (n : Entered (headed s)) → length s.marks ≡ length s.program.blocks → Guarded s.program → (a : ℕ) (x : Instr) → At (text (headed s)) a x → IsCheck (text (headed s)) a ⊎ (InHead (text (headed s)) 0x00400000 a ⊎ OneStream x)
one_stream s l n e g a x t =
    let p : HardProgram = headed s in
    let w : ItemWord p a = item_word p a (in_text (text p) a x t) in
    let h : w.block < length s.program.blocks = subst (λ (z : ℕ). w.block < z) (heads_length s.program.blocks s.marks) w.there in
    let m : (m : Mark) × (slice_get s.marks w.block ≡ Some m) = mark_there s w.block e h in
    let k : Checked (items_of s.program w.block) = g w.block h in
    let q : head_items m.0 ++ items_of s.program w.block ≡ w.done ++ w.item ∷ w.more = sym (items_headed s w.block h ∙ ap (λ (z : Option Mark). head_of z ++ items_of s.program w.block) m.1) ∙ w.split in
    elim (split_append (head_items m.0) (items_of s.program w.block) w.done w.item w.more q) as (λ z. IsCheck (text p) a ⊎ (InHead (text p) 0x00400000 a ⊎ OneStream x)) [
      | inl z ↦ inr (inl (record {
        start = address p w.block;
        is = block_start p l n w.block w.there;
        head = record { s = (m.0).s; d = (m.0).d; fan = (m.0).fan; D = (m.0).adjust };
        stands = head_at s l w.block m.0 h m.1;
        from = lo a (address p w.block) (length w.done) w.at;
        upto = hi a (address p w.block) (length w.done) w.at (shorter (head_items m.0) w.done w.item z.0 z.1);
      }))
      | inr z ↦ elim (forms_streams k.formed.forms k.formed.close (head_items m.0) p l a w z.0 k.formed.fit k.each k.formed.close_fits k.close z.1 (sym k.formed.is ∙ z.2) x t) as (λ u. IsCheck (text p) a ⊎ (InHead (text p) 0x00400000 a ⊎ OneStream x)) [ inl u ↦ inl u | inr u ↦ inr (inr u) ]
    ]
  where
    lo : (a b d : ℕ) → a ≡ b + 4 * d → b ≤ a
    lo a b d e = omega arith

    hi : (a b d : ℕ) → a ≡ b + 4 * d → d < 7 → a ≤ b + 24
    hi a b d e h = omega arith
