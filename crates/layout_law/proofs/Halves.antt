-- HI and LO go to the stream that they come from: the second half of the rule on streams.
use Rattle.std.proofs.Common.{◌≡◌, ◌<◌, ℕ, ◌+◌, ◌*◌, arith, ap, refl, sym, ◌∙◌, subst, List, [], ◌∷◌, ◌++◌, length, append_assoc, append-nil, length-append, Bool, true, false, cond, inl, inr}
use Rattle.std.specs.Prelude.{Option, Some, None, ◌⊎◌, ◌==◌, ◌&&◌, ◌||◌, not, nat_le, IsTrue, flat_map, slice_get}
use Rattle.mips_isa.specs.declared.instr.Instr.{Instr}
use Rattle.mips_isa.specs.declared.instr.Instr.TheVariants.{Xor, Mfhi, Mflo, Mult, Multu, Div, Divu}
use Rattle.mips_isa.specs.Machine.{is_jump, is_product, among, reads_of, writes_of}
use Rattle.mips_isa.specs.Locality.{is_move}
use Rattle.mips_text.specs.Text.{At}
use Rattle.mips_text.specs.Typing.{Role, Of, IsSlot, IsProductOf, ProductsOf}
use Rattle.harden_lint.specs.Rules.{FromOwn, KeepsStream}
use Rattle.hard_items.specs.declared.code.Class.{Class}
use Rattle.hard_items.specs.declared.code.Class.TheVariants.{Master, Shadow, Check, Act, Input, Head}
use Rattle.hard_items.specs.declared.code.Fix.{Fix}
use Rattle.hard_items.specs.declared.code.Item.{Item}
use Rattle.hard_items.specs.declared.code.HardProgram.{HardProgram}
use Rattle.hard_items.specs.declared.code.Mark.{Mark}
use Rattle.hard_items.specs.declared.code.Signed.{Signed}
use Rattle.hard_items.specs.Streams.{nop, plain, touched}
use Rattle.hard_items.specs.Run.{items_of}
use Rattle.hard_items.specs.Forms.{Each, Form, Alone, Product, Store, Test, Output, Takes, Idle, Close, Jump, Branch, Call, Return, Exit, form_items, close_items, block_of, MayTouch, IsProduct, FormFits, HasChecks, CloseHasChecks}
use Rattle.hard_items.specs.Rules.{Checked, Guarded}
use Rattle.hard_items.specs.Heads.{head_items, headed}
use Rattle.hard_items.specs.Counts.{is_break}
use Rattle.layout_law.specs.Layout.{address, filled, text}
use Rattle.layout_law.specs.Level.{LastSlot, SkippedSlot, Layable, Entered}
use Rattle.layout_law.proofs.Acts.{each_left}
use Rattle.layout_law.proofs.Views as view
use Rattle.layout_law.proofs.Views.{ItemWord, item_word, at_item, next_item, in_text, View, view_here}
use Rattle.layout_law.proofs.Starts.{same_instr}
use Rattle.layout_law.proofs.Lines.{head_of, items_headed, heads_length}
use Rattle.layout_law.proofs.Next.{SlotOf, slot_inside}
use Rattle.layout_law.proofs.Guards.{same_at, products_of}
use Rattle.layout_law.proofs.Uses.{split_append, AllSplits, all_splits}
use Rattle.layout_law.proofs.Clean.{among_each}
use Rattle.layout_law.proofs.Streams.{role_of_class, may_role, one_stream}

no_true : true ≡ false → ⊥
no_true e = cc

-- ---- a product of one stream

same_true : (r : ℕ) → (r == r) ≡ true
same_true r = grind arith

among_first : (r : ℕ) (rs : List ℕ) → IsTrue (among r (r ∷ rs))
among_first r rs = ap (λ (z : Bool). z || among r rs) (same_true r)

among_second : (r q : ℕ) → IsTrue (among r (q ∷ r ∷ []))
among_second r q = by (r == q)
  where
    by : (z : Bool) → (z || ((r == r) || false)) ≡ true
    by true = refl
    by false = ap (λ (z : Bool). z || false) (same_true r)

no_role : (Y : Role) → Of Y 0 → ⊥
no_role Y h = cc

role_same : (X Y : Role) (r : ℕ) → Of X r → Of Y r → Y ≡ X
role_same X Y r h k = inj (sym k ∙ h)
  where
    inj : Some Y ≡ Some X → Y ≡ X
    inj e = cc

product_of : (i j : Item) → IsProduct i j → IsProductOf (role_of_class i.class) i.instr
product_of i j f = record {
  product = f.product;
  some = f.reads.0;
  reads_some = there;
  of_stream = elim (may_role i.class f.reads.0 (among_each (MayTouch i.class) (reads_of i.instr) f.reads.0 own there)) as (λ z. Of (role_of_class i.class) f.reads.0) [ inl e ↦ absurd (f.reads.1 e) | inr e ↦ e ];
  no_other = λ r Y m h. elim (may_role i.class r (among_each (MayTouch i.class) (reads_of i.instr) r own m)) as (λ z. Y ≡ role_of_class i.class) [
    | inl e ↦ absurd (no_role Y (subst (λ (z : ℕ). Of Y z) e h))
    | inr e ↦ role_same (role_of_class i.class) Y r e h
  ];
}
  where
    own : Each (MayTouch i.class) (reads_of i.instr)
    own = each_left (MayTouch i.class) (reads_of i.instr) (writes_of i.instr) f.own

    there : IsTrue (among f.reads.0 (reads_of i.instr))
    there = elim f.reads.2 as (λ z. IsTrue (among f.reads.0 (reads_of i.instr))) [
      | inl e ↦ subst (λ (z : List ℕ). IsTrue (among f.reads.0 z)) (sym e) (among_first f.reads.0 [])
      | inr q ↦ elim q.1 as (λ z. IsTrue (among f.reads.0 (reads_of i.instr))) [
        | inl e ↦ subst (λ (z : List ℕ). IsTrue (among f.reads.0 z)) (sym e) (among_first f.reads.0 (q.0 ∷ []))
        | inr e ↦ subst (λ (z : List ℕ). IsTrue (among f.reads.0 z)) (sym e) (among_second f.reads.0 q.0)
      ]
    ]

product_plain : (x : Instr) → is_product x ≡ true → (is_break x ≡ false) × (is_jump x ≡ false)
product_plain (Mult rs rt) h = (refl, refl)
product_plain (Multu rs rt) h = (refl, refl)
product_plain (Div rs rt) h = (refl, refl)
product_plain (Divu rs rt) h = (refl, refl)
product_plain x h = absurd (no_true (sym h))

move_plain : (x : Instr) → is_move x ≡ true → is_break x ≡ false
move_plain (Mfhi rd) h = refl
move_plain (Mflo rd) h = refl
move_plain x h = absurd (no_true (sym h))

-- No product stands in a slot: its move would be the break.
no_slot_product : (p : HardProgram) (l : Layable p) (a : ℕ) (w : ItemWord p a) (j : Item) (more : List Item) → w.more ≡ j ∷ more → is_move j.instr ≡ true → IsSlot (text p) a → ⊥
no_slot_product p l a w j more e m t =
    let q : SlotOf p a = slot_inside p l a t in
    let v : ItemWord p (q.at + 4) = next_item p q.at q.word q.item q.more q.split in
    let s : (v.item ≡ w.item) × (v.more ≡ w.more) = same_at p l (q.at + 4) a (sym q.behind) v w in
    by (q.item) (q.more) (q.split) (s.1 ∙ e) (view_here p l q.at q.word) q.jumps
  where
    last : (xs : List Item) (i : Item) (more' : List Item) → LastSlot xs → xs ≡ i ∷ more' → more' ≡ j ∷ more → ⊥
    last [] i m' h e f = h
    last (x ∷ []) i m' h e f = no (e ∙ ap (λ (z : List Item). i ∷ z) f)
      where
        no : x ∷ [] ≡ i ∷ j ∷ more → ⊥
        no q = cc
    last (x ∷ y ∷ xs) i m' h e f = h

    skipped : (xs : List Item) (i : Item) (more' : List Item) → SkippedSlot xs → xs ≡ i ∷ more' → more' ≡ j ∷ more → ⊥
    skipped [] i m' h e f = h
    skipped (x ∷ []) i m' h e f = h
    skipped (x ∷ y ∷ []) i m' h e f = h
    skipped (x ∷ y ∷ z ∷ xs) i m' h e f = no_true (sym (ap is_break (h.1.1).stop) ∙ (ap (λ (u : Item). is_break u.instr) (second (e ∙ ap (λ (u : List Item). i ∷ u) f)) ∙ move_plain j.instr m))
      where
        second : x ∷ y ∷ z ∷ xs ≡ i ∷ j ∷ more → y ≡ j
        second q = cc

    by : {f : Fix} {x : Instr} {xs : List Item} (i : Item) (more' : List Item) → xs ≡ i ∷ more' → more' ≡ j ∷ more → View p f x xs → is_jump x ≡ true → ⊥
    by {xs = xs} i m' e f (view.jumps t tg a b k n) h = last xs i m' n e f
    by {xs = xs} i m' e f (view.calls t tg a b k n) h = last xs i m' n e f
    by {xs = xs} i m' e f (view.returns rs a b n) h = last xs i m' n e f
    by {xs = xs} i m' e f (view.skips rs rt a b n) h = skipped xs i m' n e f
    by {xs = xs} i m' e f (view.branches t rs rt imm a b k n) h = last xs i m' n e f
    by i m' e f (view.stays a b) h = no_true (sym h ∙ b)
    by i m' e f (view.high a b) h = no_true (sym h ∙ ap is_jump b)
    by i m' e f (view.low a b) h = no_true (sym h ∙ ap is_jump b)

from_own : (k : Class) (t : List ℕ) (entry a r : ℕ) → Of (role_of_class k) r → ProductsOf t entry (role_of_class k) a → FromOwn t entry a r
from_own Shadow t entry a r h q = inr (h, q)
from_own Master t entry a r h q = inl (h, q)
from_own Check t entry a r h q = inl (h, q)
from_own Act t entry a r h q = inl (h, q)
from_own Input t entry a r h q = inl (h, q)
from_own Head t entry a r h q = inl (h, q)

-- ---- at each point

abbrev pub MoveBy : List Item → Item → List Item → Type 0
MoveBy d i mo = (p : HardProgram) (l : Layable p) (n : Entered p) (a : ℕ) (w : ItemWord p a) (front rest : List Item) → w.done ≡ front ++ d → w.item ≡ i → w.more ≡ mo ++ rest → (rd : ℕ) → At (text p) a (Mfhi rd) ⊎ At (text p) a (Mflo rd) → (rd ≡ 0) ⊎ FromOwn (text p) 0x00400000 a rd

pub record Moves (d : List Item) (i : Item) (mo : List Item) : Type 0 where
  pub rule : MoveBy d i mo

filled_moves : (p : HardProgram) (b at : ℕ) (f : Fix) (x : Instr) → is_move (filled p b at f x) ≡ is_move x
filled_moves p b at f x = (Rattle.layout_law.proofs.Hazards.filled_loaded p b at f x).1.0

move_of : (t : List ℕ) (a rd : ℕ) → At t a (Mfhi rd) ⊎ At t a (Mflo rd) → (y : Instr) × (At t a y × ((is_move y ≡ true) × (touched y ≡ rd ∷ [])))
move_of t a rd (inl h) = (Mfhi rd, (h, (refl, refl)))
move_of t a rd (inr h) = (Mflo rd, (h, (refl, refl)))

never : (d : List Item) (i : Item) (mo : List Item) → is_move i.instr ≡ false → Moves d i mo
never d i mo h = record {
  rule = λ p l n a w front rest e f g rd o.
      let y : (y : Instr) × (At (text p) a y × ((is_move y ≡ true) × (touched y ≡ rd ∷ []))) = move_of (text p) a rd o in
      absurd (no_true (sym y.1.1.0 ∙ (ap is_move (same_instr (text p) a y.0 (filled p w.block a w.item.fix w.item.instr) y.1.0 (at_item p l a w)) ∙ (filled_moves p w.block a w.item.fix w.item.instr ∙ (ap (λ (z : Item). is_move z.instr) f ∙ h)))));
}

moves : (i j : Item) → IsProduct i j → Moves (i ∷ []) j []
moves i j f = record {
  rule = λ p l n a w front rest e h g rd o.
      let c : ℕ = address p w.block + 4 * length front in
      let v : ItemWord p c = record { block = w.block; there = w.there; done = front; item = i; more = w.item ∷ w.more; split = w.split ∙ (ap (λ (z : List Item). z ++ w.item ∷ w.more) e ∙ append_assoc front (i ∷ []) (w.item ∷ w.more)); at = refl } in
      let d : a ≡ c + 4 = w.at ∙ sum (address p w.block) (length front) (length w.done) (ap length e ∙ length-append front (i ∷ [])) in
      let mv : is_move w.item.instr ≡ true = ap (λ (z : Item). is_move z.instr) h ∙ f.move in
      let pr : ProductsOf (text p) 0x00400000 (role_of_class i.class) (c + 4) = products_of p l n c v (role_of_class i.class) w.item w.more refl f.plain_product (product_of i j f) (product_plain i.instr f.product).0 (product_plain i.instr f.product).1 (no_slot_product p l c v w.item w.more refl mv) in
      let y : (y : Instr) × (At (text p) a y × ((is_move y ≡ true) × (touched y ≡ rd ∷ []))) = move_of (text p) a rd o in
      let x : filled p w.block a w.item.fix w.item.instr ≡ y.0 = same_instr (text p) a (filled p w.block a w.item.fix w.item.instr) y.0 (at_item p l a w) y.1.0 in
      let t : touched j.instr ≡ rd ∷ [] = sym (Rattle.layout_law.proofs.Clean.filled_touched p w.block a w.item.fix w.item.instr ∙ ap (λ (z : Item). touched z.instr) h) ∙ (ap touched x ∙ y.1.1.1) in
      let m : MayTouch j.class rd = (subst (λ (z : List ℕ). Each (MayTouch j.class) z) t f.own_move).0 in
      elim (may_role i.class rd (subst (λ (z : Class). MayTouch z rd) (sym f.one_stream) m)) as (λ z. (rd ≡ 0) ⊎ FromOwn (text p) 0x00400000 a rd) [
        | inl q ↦ inl q
        | inr q ↦ inr (from_own i.class (text p) 0x00400000 a rd q (subst (λ (z : ℕ). ProductsOf (text p) 0x00400000 (role_of_class i.class) z) (sym d) pr))
      ];
}
  where
    sum : (a n d : ℕ) → d ≡ n + 1 → a + 4 * d ≡ a + 4 * n + 4
    sum a n d e = omega arith

product_stays : (x : Instr) → is_product x ≡ true → is_move x ≡ false
product_stays (Mult rs rt) h = refl
product_stays (Multu rs rt) h = refl
product_stays (Div rs rt) h = refl
product_stays (Divu rs rt) h = refl
product_stays x h = absurd (no_true (sym h))

form_moves : (f : Form) → FormFits f → HasChecks f → AllSplits Moves [] (form_items f)
form_moves (Alone i) f h = (never _ i _ f.no_move, tt)
form_moves (Product i j) f h = (never _ i _ (product_stays i.instr f.product), (moves i j f, tt))
form_moves (Store true v b o) f h = (never _ _ _ refl, (never _ _ _ refl, (never _ _ _ refl, (never _ _ _ refl, (never _ _ _ refl, (never _ _ _ refl, (never _ _ _ refl, (never _ _ _ refl, tt))))))))
form_moves (Store false v b o) f h = absurd (no_true (sym h))
form_moves (Test true m code) f h = (never _ _ _ refl, (never _ _ _ refl, (never _ _ _ refl, (never _ _ _ refl, (never _ _ _ refl, (never _ _ _ refl, tt))))))
form_moves (Test false m code) f h = absurd (no_true (sym h))
form_moves (Output true) f h = (never _ _ _ refl, (never _ _ _ refl, (never _ _ _ refl, (never _ _ _ refl, tt))))
form_moves (Output false) f h = absurd (no_true (sym h))
form_moves (Takes m) f h = (never _ _ _ refl, (never _ _ _ refl, (never _ _ _ refl, (never _ _ _ refl, tt))))
form_moves Idle f h = (never _ _ _ refl, tt)

close_moves : (c : Close) → CloseHasChecks c → AllSplits Moves [] (close_items c)
close_moves (Jump t) h = (never _ _ _ refl, (never _ _ _ refl, tt))
close_moves (Branch true m true t) h = (never _ _ _ refl, (never _ _ _ refl, (never _ _ _ refl, (never _ _ _ refl, (never _ _ _ refl, tt)))))
close_moves (Branch true m false t) h = (never _ _ _ refl, (never _ _ _ refl, (never _ _ _ refl, (never _ _ _ refl, (never _ _ _ refl, tt)))))
close_moves (Branch false m w t) h = absurd (no_true (sym h))
close_moves (Call c) h = (never _ _ _ refl, (never _ _ _ refl, tt))
close_moves (Return true) h = (never _ _ _ refl, (never _ _ _ refl, (never _ _ _ refl, (never _ _ _ refl, (never _ _ _ refl, tt)))))
close_moves (Return false) h = absurd (no_true (sym h))
close_moves (Exit true) h = (never _ _ _ refl, (never _ _ _ refl, (never _ _ _ refl, (never _ _ _ refl, (never _ _ _ refl, tt)))))
close_moves (Exit false) h = absurd (no_true (sym h))

head_moves : (m : Mark) → AllSplits Moves [] (head_items m)
head_moves m = (never _ _ _ refl, (never _ (plain (Rattle.std.specs.Prelude.if◌then◌else◌ m.fan (Xor 24 24 28) nop) Head) _ (by m.fan), (never _ _ _ refl, (never _ _ _ refl, (never _ _ _ refl, (never _ _ _ refl, (never _ _ _ refl, tt)))))))
  where
    by : (z : Bool) → is_move (cond z (Xor 24 24 28) nop) ≡ false
    by true = refl
    by false = refl

forms_moves : (fs : List Form) (c : Close) (front : List Item) (p : HardProgram) (l : Layable p) (n : Entered p) (a : ℕ) (w : ItemWord p a) (d : List Item) → Each FormFits fs → Each HasChecks fs → CloseHasChecks c → w.done ≡ front ++ d → block_of fs c ≡ d ++ w.item ∷ w.more → (rd : ℕ) → At (text p) a (Mfhi rd) ⊎ At (text p) a (Mflo rd) → (rd ≡ 0) ⊎ FromOwn (text p) 0x00400000 a rd
forms_moves [] c front p l n a w d f h ch e g rd o = (all_splits Moves [] (close_items c) d w.item w.more (close_moves c ch) g).rule p l n a w front [] e refl (sym (append-nil w.more)) rd o
forms_moves (y ∷ fs) c front p l n a w d f h ch e g rd o =
    elim (split_append (form_items y) (block_of fs c) d w.item w.more (sym (append_assoc (form_items y) (flat_map form_items fs) (close_items c)) ∙ g)) as (λ z. (rd ≡ 0) ⊎ FromOwn (text p) 0x00400000 a rd) [
      | inl q ↦ (all_splits Moves [] (form_items y) d w.item q.0 (form_moves y f.0 h.0) q.1).rule p l n a w front (block_of fs c) e refl q.2 rd o
      | inr q ↦ forms_moves fs c (front ++ form_items y) p l n a w q.0 f.1 h.1 ch (e ∙ (ap (λ (z : List Item). front ++ z) q.1 ∙ sym (append_assoc front (form_items y) q.0))) q.2 rd o
    ]

block_moves : (b : Option Mark) (items : List Item) (k : Checked items) (p : HardProgram) (l : Layable p) (n : Entered p) (a : ℕ) (w : ItemWord p a) → head_of b ++ items ≡ w.done ++ w.item ∷ w.more → (rd : ℕ) → At (text p) a (Mfhi rd) ⊎ At (text p) a (Mflo rd) → (rd ≡ 0) ⊎ FromOwn (text p) 0x00400000 a rd
block_moves None items k p l n a w e rd o = forms_moves k.formed.forms k.formed.close [] p l n a w w.done k.formed.fit k.each k.close refl (sym k.formed.is ∙ e) rd o
block_moves (Some m) items k p l n a w e rd o = elim (split_append (head_items m) items w.done w.item w.more e) as (λ z. (rd ≡ 0) ⊎ FromOwn (text p) 0x00400000 a rd) [
  | inl q ↦ (all_splits Moves [] (head_items m) w.done w.item q.0 (head_moves m) q.1).rule p l n a w [] items refl refl q.2 rd o
  | inr q ↦ forms_moves k.formed.forms k.formed.close (head_items m) p l n a w q.0 k.formed.fit k.each k.close q.1 (sym k.formed.is ∙ q.2) rd o
]

-- The third rule.
pub keeps_stream : (s : Signed) (l : Layable (headed s)) (n : Entered (headed s)) → length s.marks ≡ length s.program.blocks → Guarded s.program → (a : ℕ) → KeepsStream (text (headed s)) 0x00400000 a
keeps_stream s l n e g a = record {
  one = λ i t. one_stream s l n e g a i t;
  halves = λ rd o.
      let y : (y : Instr) × (At (text (headed s)) a y × ((is_move y ≡ true) × (touched y ≡ rd ∷ []))) = move_of (text (headed s)) a rd o in
      let w : ItemWord (headed s) a = item_word (headed s) a (in_text (text (headed s)) a y.0 y.1.0) in
      let h : w.block < length s.program.blocks = subst (λ (z : ℕ). w.block < z) (heads_length s.program.blocks s.marks) w.there in
      block_moves (slice_get s.marks w.block) (items_of s.program w.block) (g w.block h) (headed s) l n a w (sym (items_headed s w.block h) ∙ w.split) rd o;
}
