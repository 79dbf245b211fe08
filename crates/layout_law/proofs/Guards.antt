-- A check guards the registers that it compares, up to two items behind it: the one way that leads from it, and the window.
use Rattle.std.proofs.Common.{◌≡◌, ◌≢◌, ◌≤◌, ◌<◌, ℕ, suc, ◌+◌, ◌*◌, ◌%◌, ◌^◌, arith, ap, refl, sym, ◌∙◌, subst, List, [], ◌∷◌, ◌++◌, length, length-append, true, false, inl, inr}
use Rattle.std.specs.Prelude.{Some, ◌⊎◌, IsTrue}
use Rattle.mips_isa.specs.declared.instr.Instr.{Instr}
use Rattle.mips_isa.specs.declared.instr.Instr.TheVariants.{J, Jal, Beq, Break}
use Rattle.mips_isa.specs.Machine.{is_jump, among, writes_of}
use Rattle.mips_text.specs.Text.{InText, At, Writes, Critical, branch_goal}
use Rattle.mips_text.specs.Blocks.{IsStart}
use Rattle.mips_text.specs.Typing as typing
use Rattle.layout_law.proofs.Data.{same_or_not}
use Rattle.mips_text.specs.Typing.{IsProductOf, ProductsOf, Role, master, shadow, Of, CheckAt, IsSlot, Next, Path, IsGuarded}
use Rattle.hard_items.specs.declared.code.Fix.TheVariants.{Plain}
use Rattle.hard_items.specs.declared.code.Item.{Item}
use Rattle.hard_items.specs.declared.code.HardProgram.{HardProgram}
use Rattle.hard_items.specs.Counts.{is_break}
use Rattle.layout_law.specs.Layout.{address, text}
use Rattle.layout_law.specs.Level.{IsStop, Layable, Entered}
use Rattle.layout_law.proofs.Views.{ItemWord, at_item, in_text, item_in_text, next_item}
use Rattle.layout_law.proofs.Starts.{same_instr, word_bound, filled_as, start_block, IsBlock}
use Rattle.layout_law.proofs.Blocks.{no_block_inside}
use Rattle.layout_law.proofs.Next.{Goes, inner, over, leaves, next_goes, SlotOf, slot_inside}
use Rattle.layout_law.proofs.Hazards.{same_word, inside_end, no_jump_in_slot}

no_true : true ≡ false → ⊥
no_true e = cc

-- ---- what stands before a word

-- A word that is not the first of its block.
pub inside_block : (p : HardProgram) (l : Layable p) (a : ℕ) (w : ItemWord p a) (d : ℕ) → length w.done ≡ suc d → (c : ℕ) → c < length p.blocks → a ≡ address p c → ⊥
inside_block p l a w d e c h q = no_block_inside p l w.block c a w.there h (lo a (address p w.block) (length w.done) d w.at e) (inside_end p a w) q
  where
    lo : (a b n d : ℕ) → a ≡ b + 4 * n → n ≡ suc d → b < a
    lo a b n d e f = omega arith

pub no_start : (p : HardProgram) (l : Layable p) (n : Entered p) (a : ℕ) (w : ItemWord p a) (d : ℕ) → length w.done ≡ suc d → IsStart (text p) 0x00400000 a → ⊥
no_start p l n a w d e s = let b : IsBlock p a = start_block p l n a s in inside_block p l a w d e b.0 b.1 b.2

-- A word behind an item.
behind_length : (done : List Item) (i : Item) → length (done ++ i ∷ []) ≡ suc (length done)
behind_length done i = length-append done (i ∷ []) ∙ one (length done)
  where
    one : (n : ℕ) → n + 1 ≡ suc n
    one n = omega arith

-- One item at one address.
pub same_at : (p : HardProgram) (l : Layable p) (x y : ℕ) → x ≡ y → (v : ItemWord p x) (w : ItemWord p y) → (v.item ≡ w.item) × (v.more ≡ w.more)
same_at p l x y e v w = same_word p l y (record { block = v.block; there = v.there; done = v.done; item = v.item; more = v.more; split = v.split; at = sym e ∙ v.at }) w

same_back : (q a : ℕ) → a + 4 ≡ q + 4 → q ≡ a
same_back q a e = omega arith

-- Only the item before it comes before the item behind one that is no break.
pub only_before : (p : HardProgram) (l : Layable p) (n : Entered p) (a : ℕ) (w : ItemWord p a) (j : Item) (more : List Item) → w.more ≡ j ∷ more → is_break w.item.instr ≡ false → (q : ℕ) → Next (text p) q (a + 4) → q ≡ a
only_before p l n a w j more e nb q h = by_goes (next_goes p l n q (a + 4) h).word (next_goes p l n q (a + 4) h).goes
  where
    four : (q a : ℕ) → a + 4 ≡ q + 8 → q + 4 ≡ a
    four q a e = omega arith

    by_goes : (v : ItemWord p q) → Goes p q (a + 4) v → q ≡ a
    by_goes v (inner i m f g) = same_back q a g
    by_goes v (over k i m f s g) = absurd (no_true (sym (ap is_break s.stop) ∙ (ap (λ (z : Item). is_break z.instr) (same_at p l (q + 4) a (four q a g) (next_item p q v k (i ∷ m) f) w).0 ∙ nb)))
    by_goes v (leaves c hc f s g) = absurd (inside_block p l (a + 4) (next_item p a w j more e) (length w.done) (behind_length w.done w.item) c hc g)

-- A break leads nowhere, but from a slot.
break_in_slot : (t : List ℕ) (q b code : ℕ) → At t q (Break code) → Next t q b → IsSlot t q
break_in_slot t q b code h (typing.onward i s nb e) = absurd (nb code h)
break_in_slot t q b code h (typing.jumped j tg i g e f) = record { jump_at = j; instr = J tg; at = g; jumps = refl; behind = e }
break_in_slot t q b code h (typing.called j tg i g e f) = record { jump_at = j; instr = Jal tg; at = g; jumps = refl; behind = e }
break_in_slot t q b code h (typing.taken j x y imm i g e f) = record { jump_at = j; instr = g.instr; at = g.at; jumps = elim g.is as (λ z. is_jump g.instr ≡ true) [ inl u ↦ ap is_jump u | inr u ↦ ap is_jump u ]; behind = e }
break_in_slot t q b code h (typing.passed j x y imm i g r e f) = record { jump_at = j; instr = g.instr; at = g.at; jumps = elim g.is as (λ z. is_jump g.instr ≡ true) [ inl u ↦ ap is_jump u | inr u ↦ ap is_jump u ]; behind = e }

stop_at : (p : HardProgram) (l : Layable p) (a : ℕ) (w : ItemWord p a) (code : ℕ) → w.item.fix ≡ Plain → w.item.instr ≡ Break code → At (text p) a (Break code)
stop_at p l a w code f g = at_item p l a w ∙ ap Some (filled_as p w.block a w.item.fix Plain w.item.instr (Break code) f g)

plain_at : (p : HardProgram) (l : Layable p) (a : ℕ) (w : ItemWord p a) → w.item.fix ≡ Plain → At (text p) a w.item.instr
plain_at p l a w f = at_item p l a w ∙ ap Some (filled_as p w.block a w.item.fix Plain w.item.instr w.item.instr f refl)

-- An item that goes nowhere stands before no slot.
no_slot : (p : HardProgram) (l : Layable p) (a : ℕ) (w : ItemWord p a) → is_jump w.item.instr ≡ false → IsSlot (text p) (a + 4) → ⊥
no_slot p l a w nj x =
    let y : SlotOf p (a + 4) = slot_inside p l (a + 4) x in
    no_true (sym y.jumps ∙ (ap (λ (z : Item). is_jump z.instr) (same_at p l y.at a (same_back y.at a y.behind) y.word w).0 ∙ nj))

-- Only the slot comes before the item behind a break that is skipped.
pub only_over : (p : HardProgram) (l : Layable p) (n : Entered p) (a : ℕ) (w : ItemWord p a) (k j : Item) (more : List Item) → w.more ≡ k ∷ j ∷ more → IsStop k → is_jump w.item.instr ≡ false → (q : ℕ) → Next (text p) q (a + 8) → q ≡ a
only_over p l n a w k j more e s nj q h = by_goes (next_goes p l n q (a + 8) h).word (next_goes p l n q (a + 8) h).goes
  where
    back : (q a : ℕ) → a + 8 ≡ q + 4 → q ≡ a + 4
    back q a e = omega arith

    same : (q a : ℕ) → a + 8 ≡ q + 8 → q ≡ a
    same q a e = omega arith

    eight : (a : ℕ) → a + 8 ≡ a + 4 + 4
    eight a = omega arith

    in_slot : q ≡ a + 4 → ⊥
    in_slot e' = no_slot p l a w nj (subst (λ (z : ℕ). IsSlot (text p) z) e' (break_in_slot (text p) q (a + 8) s.code (subst (λ (z : ℕ). At (text p) z (Break s.code)) (sym e') (stop_at p l (a + 4) (next_item p a w k (j ∷ more) e) s.code s.no_field s.stop)) h))

    by_goes : (v : ItemWord p q) → Goes p q (a + 8) v → q ≡ a
    by_goes v (inner i m f g) = absurd (in_slot (back q a g))
    by_goes v (over k' i m f s' g) = same q a g
    by_goes v (leaves c hc f s' g) = absurd (inside_block p l (a + 4 + 4) (next_item p (a + 4) (next_item p a w k (j ∷ more) e) j more refl) (length (w.done ++ w.item ∷ [])) (behind_length (w.done ++ w.item ∷ []) k) c hc (sym (eight a) ∙ g))

-- ---- a check

-- The items of a check, with what stands behind it.
pub record CheckStands (p : HardProgram) (c : ℕ) : Type 0 where
  pub word : ItemWord p c
  pub x : ℕ
  pub y : ℕ
  pub compares : word.item.instr ≡ Beq x y 2
  pub no_field : word.item.fix ≡ Plain
  pub slot : Item
  pub stop : Item
  pub user : Item
  pub more : List Item
  pub split : word.more ≡ slot ∷ stop ∷ user ∷ more
  pub slot_stays : is_jump slot.instr ≡ false
  pub slot_plain : slot.fix ≡ Plain
  pub slot_no_break : is_break slot.instr ≡ false
  pub stop_plain : stop.fix ≡ Plain
  pub reports : stop.instr ≡ Break 1
  pub differ : x ≢ y
  pub x_some : x ≢ 0
  pub y_some : y ≢ 0
  pub streams : (Of master x × Of shadow y) ⊎ (Of shadow x × Of master y)

-- An item does not write a register.
abbrev pub Keeps : Item → ℕ → Type 0
Keeps i r = IsTrue (among r (writes_of i.instr)) → ⊥

abbrev pub slot_word : (p : HardProgram) (c : ℕ) → CheckStands p c → ItemWord p (c + 4)
slot_word p c k = next_item p c k.word k.slot (k.stop ∷ k.user ∷ k.more) k.split

abbrev pub stop_word : (p : HardProgram) (c : ℕ) → CheckStands p c → ItemWord p (c + 4 + 4)
stop_word p c k = next_item p (c + 4) (slot_word p c k) k.stop (k.user ∷ k.more) refl

abbrev pub user_word : (p : HardProgram) (c : ℕ) → CheckStands p c → ItemWord p (c + 4 + 4 + 4)
user_word p c k = next_item p (c + 4 + 4) (stop_word p c k) k.user k.more refl

pub check_at : (p : HardProgram) (l : Layable p) (c : ℕ) (k : CheckStands p c) → At (text p) c (Beq k.x k.y 2)
check_at p l c k = at_item p l c k.word ∙ ap Some (filled_as p k.word.block c k.word.item.fix Plain k.word.item.instr (Beq k.x k.y 2) k.no_field k.compares)

pub check_is : (p : HardProgram) (l : Layable p) (c : ℕ) (k : CheckStands p c) → CheckAt (text p) c k.x k.y
check_is p l c k = record { compares = check_at p l c k; report = subst (λ (z : ℕ). At (text p) z (Break 1)) (eight c) (stop_at p l (c + 4 + 4) (stop_word p c k) 1 k.stop_plain k.reports); streams = k.streams }
  where
    eight : (c : ℕ) → c + 4 + 4 ≡ c + 8
    eight c = omega arith

-- A write at an item is one of its instruction.
writes_item : (p : HardProgram) (l : Layable p) (a : ℕ) (w : ItemWord p a) (r : ℕ) → w.item.fix ≡ Plain → Writes (text p) a r → IsTrue (among r (writes_of w.item.instr))
writes_item p l a w r f h = subst (λ (z : Instr). IsTrue (among r (writes_of z))) (same_instr (text p) a h.instr w.item.instr h.at (plain_at p l a w f)) h.writes

-- The one way from a check over its break.
pub check_path : (p : HardProgram) (l : Layable p) (n : Entered p) (c : ℕ) (k : CheckStands p c) (r : ℕ) → Keeps k.slot r → Path (text p) 0x00400000 c r (c + 12)
check_path p l n c k r f =
    typing.then (c + 12) (c + 4)
    (typing.then (c + 4) c (typing.first c refl) (le c) (typing.onward (item_in_text p l c k.word) (no_jump_in_slot p l c (Beq k.x k.y 2) (check_at p l c k) refl) (λ code h. no_break (same_instr (text p) c (Beq k.x k.y 2) (Break code) (check_at p l c k) h)) refl)
    (no_start p l n (c + 4) (slot_word p c k) (length k.word.done) (behind_length k.word.done k.word.item))
    (only_before p l n c k.word k.slot (k.stop ∷ k.user ∷ k.more) k.split (ap is_break k.compares))
    (λ h. no_write (subst (λ (z : Instr). IsTrue (among r (writes_of z))) k.compares (writes_item p l c k.word r k.no_field h))))
    (le12 c) (typing.taken c k.x k.y 2 (item_in_text p l (c + 4) (slot_word p c k)) (record { instr = Beq k.x k.y 2; at = check_at p l c k; is = inl refl }) refl (goal c (length k.word.more) (word_bound p l c k.word)))
    (λ h. no_start p l n (c + 4 + 4 + 4) (user_word p c k) (length ((k.word.done ++ k.word.item ∷ []) ++ k.slot ∷ [])) (behind_length ((k.word.done ++ k.word.item ∷ []) ++ k.slot ∷ []) k.stop) (subst (λ (z : ℕ). IsStart (text p) 0x00400000 z) (twelve c) h))
    (λ q h. only_over p l n (c + 4) (slot_word p c k) k.stop k.user k.more refl (record { code = 1; stop = k.reports; no_field = k.stop_plain }) k.slot_stays q (subst (λ (z : ℕ). Next (text p) q z) (eight c) h))
    (λ h. f (writes_item p l (c + 4) (slot_word p c k) r k.slot_plain h))
  where
    le : (c : ℕ) → c + 4 ≤ c + 4
    le c = omega arith

    le12 : (c : ℕ) → c + 4 + 4 ≤ c + 12
    le12 c = omega arith

    twelve : (c : ℕ) → c + 12 ≡ c + 4 + 4 + 4
    twelve c = omega arith

    eight : (c : ℕ) → c + 12 ≡ c + 4 + 8
    eight c = omega arith

    goal : (c m : ℕ) → c + 4 * suc m ≤ 2 ^ 28 → c + 12 ≡ branch_goal c 2
    goal c m h = omega arith

    no_break : {code : ℕ} → Beq k.x k.y 2 ≡ Break code → ⊥
    no_break q = cc

    no_write : IsTrue (among r (writes_of (Beq k.x k.y 2))) → ⊥
    no_write h = no_true (sym h)

-- One item further, where the item behind the check goes nowhere, stands in no form's break, and does not write the register.
pub check_path_more : (p : HardProgram) (l : Layable p) (n : Entered p) (c : ℕ) (k : CheckStands p c) (j : Item) (more : List Item) (r : ℕ) → k.more ≡ j ∷ more → Keeps k.slot r → Keeps k.user r → is_jump k.user.instr ≡ false → is_break k.user.instr ≡ false → k.user.fix ≡ Plain → Path (text p) 0x00400000 c r (c + 16)
check_path_more p l n c k j more r e f g nj nb pl =
    typing.then (c + 16) (c + 12) (check_path p l n c k r f) (le c)
    (typing.onward (subst (λ (z : ℕ). InText (text p) z) (sym (twelve c)) (item_in_text p l (c + 4 + 4 + 4) (user_word p c k)))
    (λ h. no_slot p l (c + 4 + 4) (stop_word p c k) (ap is_jump k.reports) (subst (λ (z : ℕ). IsSlot (text p) z) (twelve c) h))
    (λ code h. no_true (sym (ap is_break (same_instr (text p) (c + 4 + 4 + 4) k.user.instr (Break code) (plain_at p l (c + 4 + 4 + 4) (user_word p c k) pl) (subst (λ (z : ℕ). At (text p) z (Break code)) (twelve c) h) ∙ refl)) ∙ nb)) (four c))
    (λ h. no_start p l n (c + 4 + 4 + 4 + 4) (next_item p (c + 4 + 4 + 4) (user_word p c k) j more e) (length (((k.word.done ++ k.word.item ∷ []) ++ k.slot ∷ []) ++ k.stop ∷ [])) (behind_length (((k.word.done ++ k.word.item ∷ []) ++ k.slot ∷ []) ++ k.stop ∷ []) k.user) (subst (λ (z : ℕ). IsStart (text p) 0x00400000 z) (sixteen c) h))
    (λ q h. only_before p l n (c + 4 + 4 + 4) (user_word p c k) j more e nb q (subst (λ (z : ℕ). Next (text p) q z) (sixteen c) h) ∙ sym (twelve c))
    (λ h. g (writes_item p l (c + 4 + 4 + 4) (user_word p c k) r pl (subst (λ (z : ℕ). Writes (text p) z r) (twelve c) h)))
  where
    le : (c : ℕ) → c + 12 + 4 ≤ c + 16
    le c = omega arith

    twelve : (c : ℕ) → c + 12 ≡ c + 4 + 4 + 4
    twelve c = omega arith

    sixteen : (c : ℕ) → c + 16 ≡ c + 4 + 4 + 4 + 4
    sixteen c = omega arith

    four : (c : ℕ) → c + 16 ≡ c + 12 + 4
    four c = omega arith

-- ---- windows

two_words : (c w : ℕ) → c % 4 ≡ 0 → w % 4 ≡ 0 → c + 4 ≤ w → w < c + 12 → (w ≡ c + 4) ⊎ (w ≡ c + 8)
two_words c w e f h k = elim (same_or_not w (c + 4)) as (λ z. (w ≡ c + 4) ⊎ (w ≡ c + 8)) [ inl z ↦ inl z.0 | inr z ↦ inr (other c w e f h k z.0) ]
  where
    other : (c w : ℕ) → c % 4 ≡ 0 → w % 4 ≡ 0 → c + 4 ≤ w → w < c + 12 → w ≢ c + 4 → w ≡ c + 8
    other c w e f h k n = omega arith

three_words : (c w : ℕ) → c % 4 ≡ 0 → w % 4 ≡ 0 → c + 4 ≤ w → w < c + 16 → (w < c + 12) ⊎ (w ≡ c + 12)
three_words c w e f h k = elim (same_or_not w (c + 12)) as (λ z. (w < c + 12) ⊎ (w ≡ c + 12)) [ inl z ↦ inr z.0 | inr z ↦ inl (other c w e f h k z.0) ]
  where
    other : (c w : ℕ) → c % 4 ≡ 0 → w % 4 ≡ 0 → c + 4 ≤ w → w < c + 16 → w ≢ c + 12 → w < c + 12
    other c w e f h k n = omega arith

no_write_stop : (r : ℕ) → IsTrue (among r (writes_of (Break 1))) → ⊥
no_write_stop r h = no_true (sym h)

-- No word of a check writes a register that its slot keeps.
unwritten_12 : (p : HardProgram) (l : Layable p) (c : ℕ) (k : CheckStands p c) (r : ℕ) → Keeps k.slot r → (w : ℕ) → c + 4 ≤ w → w < c + 12 → Writes (text p) w r → ⊥
unwritten_12 p l c k r f w lo hi h = by (two_words c w (item_in_text p l c k.word).aligned (in_text (text p) w h.instr h.at).aligned lo hi)
  where
    eight : (c : ℕ) → c + 8 ≡ c + 4 + 4
    eight c = omega arith

    by : (w ≡ c + 4) ⊎ (w ≡ c + 8) → ⊥
    by (inl e) = f (writes_item p l (c + 4) (slot_word p c k) r k.slot_plain (subst (λ (z : ℕ). Writes (text p) z r) e h))
    by (inr e) = no_write_stop r (subst (λ (z : Instr). IsTrue (among r (writes_of z))) k.reports (writes_item p l (c + 4 + 4) (stop_word p c k) r k.stop_plain (subst (λ (z : ℕ). Writes (text p) z r) (e ∙ eight c) h)))

-- The item behind a check finds the registers of the check guarded.
pub guarded : (p : HardProgram) (l : Layable p) (n : Entered p) (c : ℕ) (k : CheckStands p c) (r : ℕ) → (r ≡ k.x) ⊎ (r ≡ k.y) → Keeps k.slot r → Critical (text p) (c + 12) r → IsGuarded (text p) 0x00400000 (c + 12) r
guarded p l n c k r o f q = record {
  no_start = λ h. no_start p l n (c + 4 + 4 + 4) (user_word p c k) (length ((k.word.done ++ k.word.item ∷ []) ++ k.slot ∷ [])) (behind_length ((k.word.done ++ k.word.item ∷ []) ++ k.slot ∷ []) k.stop) (subst (λ (z : ℕ). IsStart (text p) 0x00400000 z) (twelve c) h);
  c = c;
  x = k.x;
  y = k.y;
  check = check_is p l c k;
  window = record {
    differ = k.differ;
    x_not_zero = k.x_some;
    y_not_zero = k.y_some;
    check = check_at p l c k;
    report = (check_is p l c k).report;
    one = o;
    use_at = c + 12;
    critical = q;
    aligned = (subst (λ (z : ℕ). InText (text p) z) (sym (twelve c)) (item_in_text p l (c + 4 + 4 + 4) (user_word p c k))).aligned;
    from = le4 c;
    upto = le c;
    within = le16 c;
    unwritten = unwritten_12 p l c k r f;
  };
  path = check_path p l n c k r f;
}
  where
    twelve : (c : ℕ) → c + 12 ≡ c + 4 + 4 + 4
    twelve c = omega arith

    le4 : (c : ℕ) → c + 4 ≤ c + 12
    le4 c = omega arith

    le : (c : ℕ) → c + 12 ≤ c + 12
    le c = omega arith

    le16 : (c : ℕ) → c + 12 ≤ c + 16
    le16 c = omega arith

-- So does the item behind that, where the first goes nowhere and keeps the register: the second word of a store.
pub guarded_later : (p : HardProgram) (l : Layable p) (n : Entered p) (c : ℕ) (k : CheckStands p c) (j : Item) (more : List Item) (r : ℕ) → k.more ≡ j ∷ more → (r ≡ k.x) ⊎ (r ≡ k.y) → Keeps k.slot r → Keeps k.user r → is_jump k.user.instr ≡ false → is_break k.user.instr ≡ false → k.user.fix ≡ Plain → Critical (text p) (c + 16) r → IsGuarded (text p) 0x00400000 (c + 16) r
guarded_later p l n c k j more r e o f g nj nb pl q = record {
  no_start = λ h. no_start p l n (c + 4 + 4 + 4 + 4) (next_item p (c + 4 + 4 + 4) (user_word p c k) j more e) (length (((k.word.done ++ k.word.item ∷ []) ++ k.slot ∷ []) ++ k.stop ∷ [])) (behind_length (((k.word.done ++ k.word.item ∷ []) ++ k.slot ∷ []) ++ k.stop ∷ []) k.user) (subst (λ (z : ℕ). IsStart (text p) 0x00400000 z) (sixteen c) h);
  c = c;
  x = k.x;
  y = k.y;
  check = check_is p l c k;
  window = record {
    differ = k.differ;
    x_not_zero = k.x_some;
    y_not_zero = k.y_some;
    check = check_at p l c k;
    report = (check_is p l c k).report;
    one = o;
    use_at = c + 16;
    critical = q;
    aligned = (subst (λ (z : ℕ). InText (text p) z) (sym (sixteen c)) (item_in_text p l (c + 4 + 4 + 4 + 4) (next_item p (c + 4 + 4 + 4) (user_word p c k) j more e))).aligned;
    from = le4 c;
    upto = le c;
    within = le c;
    unwritten = λ w lo hi h. by w lo hi h (three_words c w (item_in_text p l c k.word).aligned (in_text (text p) w h.instr h.at).aligned lo hi);
  };
  path = check_path_more p l n c k j more r e f g nj nb pl;
}
  where
    twelve : (c : ℕ) → c + 12 ≡ c + 4 + 4 + 4
    twelve c = omega arith

    sixteen : (c : ℕ) → c + 16 ≡ c + 4 + 4 + 4 + 4
    sixteen c = omega arith

    le4 : (c : ℕ) → c + 4 ≤ c + 16
    le4 c = omega arith

    le : (c : ℕ) → c + 16 ≤ c + 16
    le c = omega arith

    by : (w : ℕ) → c + 4 ≤ w → w < c + 16 → Writes (text p) w r → (w < c + 12) ⊎ (w ≡ c + 12) → ⊥
    by w lo hi h (inl z) = unwritten_12 p l c k r f w lo z h
    by w lo hi h (inr z) = g (writes_item p l (c + 4 + 4 + 4) (user_word p c k) r pl (subst (λ (z : ℕ). Writes (text p) z r) (z ∙ twelve c) h))

-- A product and its move: HI and LO come from the product's stream.
pub products_of : (p : HardProgram) (l : Layable p) (n : Entered p) (a : ℕ) (w : ItemWord p a) (X : Role) (j : Item) (more : List Item) → w.more ≡ j ∷ more → w.item.fix ≡ Plain → IsProductOf X w.item.instr → is_break w.item.instr ≡ false → is_jump w.item.instr ≡ false → (IsSlot (text p) a → ⊥) → ProductsOf (text p) 0x00400000 X (a + 4)
products_of p l n a w X j more e f q nb nj ns = record {
  no_start = no_start p l n (a + 4) (next_item p a w j more e) (length w.done) (behind_length w.done w.item);
  before = a;
  leads = typing.onward (item_in_text p l a w) ns (λ code h. no_true (sym (ap is_break (same_instr (text p) a w.item.instr (Break code) (plain_at p l a w f) h)) ∙ nb)) refl;
  each = λ b h. (w.item.instr, (subst (λ (z : ℕ). At (text p) z w.item.instr) (sym (only_before p l n a w j more e nb b h)) (plain_at p l a w f), q));
}
