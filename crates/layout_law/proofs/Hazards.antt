-- The rule on hazards: the words of a calm program meet none on any way.
use Rattle.std.proofs.Common.{◌≡◌, ◌≤◌, ◌<◌, ℕ, zero, suc, ◌+◌, ◌-◌, ◌*◌, arith, ap, refl, sym, ◌∙◌, subst, List, [], ◌∷◌, ◌++◌, length, Bool, true, false, cond, inl, inr}
use Rattle.std.specs.Prelude.{◌==◌, ◌&&◌, not, nat_lt, IsTrue}
use Rattle.mips_isa.specs.declared.instr.Instr.{Instr}
use Rattle.mips_isa.specs.declared.instr.Instr.TheVariants.{J, Jal, Beq, Bne, Break, Mfhi, Mflo, Lw, Lui, Ori}
use Rattle.mips_isa.specs.Machine.{is_jump, is_product, reads_of, among}
use Rattle.mips_isa.specs.Locality.{is_move}
use Rattle.mips_text.specs.Text.{At, Reads}
use Rattle.mips_text.specs.Typing.{IsSlot, Next}
use Rattle.harden_lint.specs.Rules.{MovesHalf, HasNoHazard}
use Rattle.hard_items.specs.declared.code.Fix.{Fix}
use Rattle.hard_items.specs.declared.code.Fix.TheVariants.{Plain, Block, Function, ReturnHigh, ReturnLow}
use Rattle.hard_items.specs.declared.code.Item.{Item}
use Rattle.hard_items.specs.declared.code.HardProgram.{HardProgram}
use Rattle.hard_items.specs.Streams.{nop}
use Rattle.hard_items.specs.Run.{items_of}
use Rattle.hard_items.specs.Counts.{calm_from, loaded, quiet_after, is_break, may_stand}
use Rattle.layout_law.specs.Layout.{address, filled, text}
use Rattle.layout_law.specs.Level.{Lines, LastSlot, SkippedSlot, IsNop, Layable, Entered}
use Rattle.layout_law.proofs.Arrive.{calm_tail, calm_break, stop_is_break}
use Rattle.layout_law.proofs.Acts.{filled_reads}
use Rattle.layout_law.proofs.Views as view
use Rattle.layout_law.proofs.Views.{ItemWord, at_item, next_item, View, view_here}
use Rattle.layout_law.proofs.Starts.{same_instr, word_end}
use Rattle.layout_law.proofs.Step.{grows}
use Rattle.layout_law.proofs.Blocks.{order, below, same, above}
use Rattle.layout_law.proofs.Next.{Before, before_here, Goes, inner, over, leaves, NextGoes, next_goes, SlotOf, slot_inside}

no_true : true ≡ false → ⊥
no_true e = cc

-- ---- calm from an item on

record CalmAt (xs : List Item) : Type 0 where
  last : ℕ
  quiet : ℕ
  calm : calm_from last quiet xs ≡ true

calm_behind : (l q : ℕ) (i : Item) (more : List Item) → calm_from l q (i ∷ more) ≡ true → CalmAt more
calm_behind l q i more h = by (is_break i.instr) refl
  where
    by : (z : Bool) → is_break i.instr ≡ z → CalmAt more
    by true e = record { last = l; quiet = q; calm = calm_break l q i more h e }
    by false e = record { last = loaded i.instr; quiet = quiet_after i.instr q; calm = (calm_tail l q i more h e).1 }

calm_suffix : (l q : ℕ) (done xs : List Item) → calm_from l q (done ++ xs) ≡ true → CalmAt xs
calm_suffix l q [] xs h = record { last = l; quiet = q; calm = h }
calm_suffix l q (d ∷ done) xs h = let c : CalmAt (done ++ xs) = calm_behind l q d (done ++ xs) h in calm_suffix c.last c.quiet done xs c.calm

calm_here : (p : HardProgram) (l : Layable p) (a : ℕ) (w : ItemWord p a) → CalmAt (w.item ∷ w.more)
calm_here p l a w = calm_suffix 0 0 w.done (w.item ∷ w.more) (subst (λ (z : List Item). calm_from 0 0 z ≡ true) w.split (l.calm w.block))

-- ---- an item and its word

-- A property of the item's instruction, from that of its word.
pub word_item : (p : HardProgram) (l : Layable p) (a : ℕ) (w : ItemWord p a) (i : Instr) → At (text p) a i → filled p w.block a w.item.fix w.item.instr ≡ i
word_item p l a w i h = same_instr (text p) a (filled p w.block a w.item.fix w.item.instr) i (at_item p l a w) h

pub filled_loaded : (p : HardProgram) (b at : ℕ) (f : Fix) (x : Instr) → (loaded (filled p b at f x) ≡ loaded x) × ((is_move (filled p b at f x) ≡ is_move x) × (is_break (filled p b at f x) ≡ is_break x))
filled_loaded p b at Plain x = (refl, (refl, refl))
filled_loaded p b at (Block t) (J target) = (refl, (refl, refl))
filled_loaded p b at (Block t) (Beq rs rt imm) = (refl, (refl, refl))
filled_loaded p b at (Block t) (Bne rs rt imm) = (refl, (refl, refl))
filled_loaded p b at (Block t) x = (refl, (refl, refl))
filled_loaded p b at (Function f) (Jal target) = (refl, (refl, refl))
filled_loaded p b at (Function f) x = (refl, (refl, refl))
filled_loaded p b at ReturnHigh (Lui rt imm) = (refl, (refl, refl))
filled_loaded p b at ReturnHigh x = (refl, (refl, refl))
filled_loaded p b at ReturnLow (Ori rt rs imm) = (refl, (refl, refl))
filled_loaded p b at ReturnLow x = (refl, (refl, refl))

item_loads : (p : HardProgram) (l : Layable p) (a : ℕ) (w : ItemWord p a) (rt rs imm : ℕ) → At (text p) a (Lw rt rs imm) → (loaded w.item.instr ≡ rt) × ((is_break w.item.instr ≡ false) × (w.item.instr ≡ nop → ⊥))
item_loads p l a w rt rs imm h =
    let e : filled p w.block a w.item.fix w.item.instr ≡ Lw rt rs imm = word_item p l a w (Lw rt rs imm) h in
    let f : (loaded (filled p w.block a w.item.fix w.item.instr) ≡ loaded w.item.instr) × ((is_move (filled p w.block a w.item.fix w.item.instr) ≡ is_move w.item.instr) × (is_break (filled p w.block a w.item.fix w.item.instr) ≡ is_break w.item.instr)) = filled_loaded p w.block a w.item.fix w.item.instr in
    (sym f.0 ∙ ap loaded e, (sym f.1.1 ∙ ap is_break e, λ q. no (sym (ap (λ (z : Instr). filled p w.block a w.item.fix z) q ∙ filled_nop p w.block a w.item.fix) ∙ e)))
  where
    no : nop ≡ Lw rt rs imm → ⊥
    no q = cc

    filled_nop : (p : HardProgram) (b at : ℕ) (f : Fix) → filled p b at f nop ≡ nop
    filled_nop p b at Plain = refl
    filled_nop p b at (Block t) = refl
    filled_nop p b at (Function c) = refl
    filled_nop p b at ReturnHigh = refl
    filled_nop p b at ReturnLow = refl

item_moves : (p : HardProgram) (l : Layable p) (a : ℕ) (w : ItemWord p a) → MovesHalf (text p) a → is_move w.item.instr ≡ true
item_moves p l a w (rd, m) = elim m as (λ z. is_move w.item.instr ≡ true) [
  | inl h ↦ sym (filled_loaded p w.block a w.item.fix w.item.instr).1.0 ∙ ap is_move (word_item p l a w (Mfhi rd) h)
  | inr h ↦ sym (filled_loaded p w.block a w.item.fix w.item.instr).1.0 ∙ ap is_move (word_item p l a w (Mflo rd) h)
]

move_is : (x : Instr) → is_move x ≡ true → (is_break x ≡ false) × ((x ≡ nop → ⊥) × (is_jump x ≡ false))
move_is (Mfhi rd) h = (refl, (λ q. no q, refl))
  where
    no : Mfhi rd ≡ nop → ⊥
    no q = cc
move_is (Mflo rd) h = (refl, (λ q. no q, refl))
  where
    no : Mflo rd ≡ nop → ⊥
    no q = cc
move_is x h = absurd (no_true (sym h))

item_products : (p : HardProgram) (l : Layable p) (a : ℕ) (w : ItemWord p a) (i : Instr) → At (text p) a i → is_product i ≡ true → is_product w.item.instr ≡ true
item_products p l a w i h e = sym (filled_reads p w.block a w.item.fix w.item.instr).1.0 ∙ (ap is_product (word_item p l a w i h) ∙ e)

product_no_break : (x : Instr) → is_product x ≡ true → is_break x ≡ false
product_no_break (Break code) h = absurd (no_true (sym h))
product_no_break x h = refl

-- ---- what calm says of an item and the next

-- The next item that is no break stands calm behind an item.
calm_pair : (xs : List Item) (i j : Item) (more : List Item) → CalmAt xs → xs ≡ i ∷ j ∷ more → is_break i.instr ≡ false → is_break j.instr ≡ false → (q : ℕ) × ((may_stand (loaded i.instr) (quiet_after i.instr q) j.instr ≡ true) × (calm_from (loaded j.instr) (quiet_after j.instr (quiet_after i.instr q)) more ≡ true))
calm_pair xs i j more c e n m =
    let t : (may_stand c.last c.quiet i.instr ≡ true) × (calm_from (loaded i.instr) (quiet_after i.instr c.quiet) (j ∷ more) ≡ true) = calm_tail c.last c.quiet i (j ∷ more) (subst (λ (z : List Item). calm_from c.last c.quiet z ≡ true) e c.calm) n in
    (c.quiet, calm_tail (loaded i.instr) (quiet_after i.instr c.quiet) j more t.1 m)

-- The same over a break.
calm_over : (xs : List Item) (i k j : Item) (more : List Item) → CalmAt xs → xs ≡ i ∷ k ∷ j ∷ more → is_break i.instr ≡ false → is_break k.instr ≡ true → is_break j.instr ≡ false → (q : ℕ) × ((may_stand (loaded i.instr) (quiet_after i.instr q) j.instr ≡ true) × (calm_from (loaded j.instr) (quiet_after j.instr (quiet_after i.instr q)) more ≡ true))
calm_over xs i k j more c e n b m =
    let t : (may_stand c.last c.quiet i.instr ≡ true) × (calm_from (loaded i.instr) (quiet_after i.instr c.quiet) (k ∷ j ∷ more) ≡ true) = calm_tail c.last c.quiet i (k ∷ j ∷ more) (subst (λ (z : List Item). calm_from c.last c.quiet z ≡ true) e c.calm) n in
    (c.quiet, calm_tail (loaded i.instr) (quiet_after i.instr c.quiet) j more (calm_break (loaded i.instr) (quiet_after i.instr c.quiet) k (j ∷ more) t.1 b) m)

reads_apart : (last quiet : ℕ) (x : Instr) → may_stand last quiet x ≡ true → IsTrue (among last (reads_of x)) → last ≡ 0
reads_apart last quiet x h r = by (last == 0) (among last (reads_of x)) refl refl
  where
    yes : (n : ℕ) → (n == 0) ≡ true → n ≡ 0
    yes n e = grind arith

    by : (z y : Bool) → (last == 0) ≡ z → among last (reads_of x) ≡ y → last ≡ 0
    by true y e f = yes last e
    by false false e f = absurd (no_true (sym r ∙ f))
    by false true e f = absurd (no_true (sym h ∙ both e f))
      where
        both : (last == 0) ≡ false → among last (reads_of x) ≡ true → may_stand last quiet x ≡ false
        both e f = rw (e, f) refl

no_product : (last quiet : ℕ) (x : Instr) → may_stand last quiet x ≡ true → is_product x ≡ true → nat_lt 0 quiet ≡ true → ⊥
no_product last quiet x h e q = no_true (sym h ∙ by (not (last == 0) && among last (reads_of x)))
  where
    by : (z : Bool) → (not z && not (is_product x && nat_lt 0 quiet)) ≡ false
    by true = refl
    by false = rw (e, q) refl

reads_break : (x : Instr) → is_break x ≡ true → (r : ℕ) → IsTrue (among r (reads_of x)) → ⊥
reads_break (Break code) h r t = no_true (sym t)
reads_break x h r t = no_true (sym h)

-- ---- the rule

item_reads : (p : HardProgram) (l : Layable p) (b : ℕ) (w : ItemWord p b) (r : ℕ) → Reads (text p) b r → IsTrue (among r (reads_of w.item.instr))
item_reads p l b w r h = subst (λ (z : List ℕ). IsTrue (among r z)) (sym (ap reads_of (word_item p l b w h.instr h.at)) ∙ (filled_reads p w.block b w.item.fix w.item.instr).0) h.reads

load_apart : (p : HardProgram) (l : Layable p) (a b rt rs imm : ℕ) (w : ItemWord p a) → Goes p a b w → At (text p) a (Lw rt rs imm) → Reads (text p) b rt → rt ≡ 0
load_apart p l a b rt rs imm w (inner j more e f) h r =
    let i : (loaded w.item.instr ≡ rt) × ((is_break w.item.instr ≡ false) × (w.item.instr ≡ nop → ⊥)) = item_loads p l a w rt rs imm h in
    let v : IsTrue (among rt (reads_of j.instr)) = item_reads p l (a + 4) (next_item p a w j more e) rt (subst (λ (z : ℕ). Reads (text p) z rt) f r) in
    by (is_break j.instr) refl i v
  where
    by : (z : Bool) → is_break j.instr ≡ z → (loaded w.item.instr ≡ rt) × ((is_break w.item.instr ≡ false) × (w.item.instr ≡ nop → ⊥)) → IsTrue (among rt (reads_of j.instr)) → rt ≡ 0
    by true q i v = absurd (reads_break j.instr q rt v)
    by false q i v =
        let c : (q : ℕ) × ((may_stand (loaded w.item.instr) (quiet_after w.item.instr q) j.instr ≡ true) × (calm_from (loaded j.instr) (quiet_after j.instr (quiet_after w.item.instr q)) more ≡ true)) = calm_pair (w.item ∷ w.more) w.item j more (calm_here p l a w) (ap (λ (z : List Item). w.item ∷ z) e) i.1.0 q in
        reads_apart rt (quiet_after w.item.instr c.0) j.instr (subst (λ (z : ℕ). may_stand z (quiet_after w.item.instr c.0) j.instr ≡ true) i.0 c.1.0) v
load_apart p l a b rt rs imm w (over k j more e s f) h r =
    let i : (loaded w.item.instr ≡ rt) × ((is_break w.item.instr ≡ false) × (w.item.instr ≡ nop → ⊥)) = item_loads p l a w rt rs imm h in
    let v : IsTrue (among rt (reads_of j.instr)) = item_reads p l (a + 4 + 4) (next_item p (a + 4) (next_item p a w k (j ∷ more) e) j more refl) rt (subst (λ (z : ℕ). Reads (text p) z rt) (f ∙ eight a) r) in
    by (is_break j.instr) refl i v
  where
    eight : (a : ℕ) → a + 8 ≡ a + 4 + 4
    eight a = omega arith

    by : (z : Bool) → is_break j.instr ≡ z → (loaded w.item.instr ≡ rt) × ((is_break w.item.instr ≡ false) × (w.item.instr ≡ nop → ⊥)) → IsTrue (among rt (reads_of j.instr)) → rt ≡ 0
    by true q i v = absurd (reads_break j.instr q rt v)
    by false q i v =
        let c : (q : ℕ) × ((may_stand (loaded w.item.instr) (quiet_after w.item.instr q) j.instr ≡ true) × (calm_from (loaded j.instr) (quiet_after j.instr (quiet_after w.item.instr q)) more ≡ true)) = calm_over (w.item ∷ w.more) w.item k j more (calm_here p l a w) (ap (λ (z : List Item). w.item ∷ z) e) i.1.0 (stop_is_break k s) q in
        reads_apart rt (quiet_after w.item.instr c.0) j.instr (subst (λ (z : ℕ). may_stand z (quiet_after w.item.instr c.0) j.instr ≡ true) i.0 c.1.0) v
load_apart p l a b rt rs imm w (leaves c k e s f) h r = absurd ((item_loads p l a w rt rs imm h).1.1 s.nop)

quiet_two : (x : Instr) (q : ℕ) → is_move x ≡ true → quiet_after x q ≡ 2
quiet_two x q h = ap (λ (z : Bool). cond z 2 (q - 1)) h

move_next : (p : HardProgram) (l : Layable p) (a b : ℕ) (w : ItemWord p a) (i : Instr) → Goes p a b w → MovesHalf (text p) a → At (text p) b i → is_product i ≡ true → ⊥
move_next p l a b w i (inner j more e f) m h pr =
    let mv : is_move w.item.instr ≡ true = item_moves p l a w m in
    let jp : is_product j.instr ≡ true = item_products p l (a + 4) (next_item p a w j more e) i (subst (λ (z : ℕ). At (text p) z i) f h) pr in
    let c : (q : ℕ) × ((may_stand (loaded w.item.instr) (quiet_after w.item.instr q) j.instr ≡ true) × (calm_from (loaded j.instr) (quiet_after j.instr (quiet_after w.item.instr q)) more ≡ true)) = calm_pair (w.item ∷ w.more) w.item j more (calm_here p l a w) (ap (λ (z : List Item). w.item ∷ z) e) (move_is w.item.instr mv).0 (product_no_break j.instr jp) in
    no_product (loaded w.item.instr) (quiet_after w.item.instr c.0) j.instr c.1.0 jp (ap (λ (z : ℕ). nat_lt 0 z) (quiet_two w.item.instr c.0 mv))
move_next p l a b w i (over k j more e s f) m h pr =
    let mv : is_move w.item.instr ≡ true = item_moves p l a w m in
    let jp : is_product j.instr ≡ true = item_products p l (a + 4 + 4) (next_item p (a + 4) (next_item p a w k (j ∷ more) e) j more refl) i (subst (λ (z : ℕ). At (text p) z i) (f ∙ eight a) h) pr in
    let c : (q : ℕ) × ((may_stand (loaded w.item.instr) (quiet_after w.item.instr q) j.instr ≡ true) × (calm_from (loaded j.instr) (quiet_after j.instr (quiet_after w.item.instr q)) more ≡ true)) = calm_over (w.item ∷ w.more) w.item k j more (calm_here p l a w) (ap (λ (z : List Item). w.item ∷ z) e) (move_is w.item.instr mv).0 (stop_is_break k s) (product_no_break j.instr jp) in
    no_product (loaded w.item.instr) (quiet_after w.item.instr c.0) j.instr c.1.0 jp (ap (λ (z : ℕ). nat_lt 0 z) (quiet_two w.item.instr c.0 mv))
  where
    eight : (a : ℕ) → a + 8 ≡ a + 4 + 4
    eight a = omega arith
move_next p l a b w i (leaves c k e s f) m h pr = (move_is w.item.instr (item_moves p l a w m)).1.0 s.nop

-- No branch or jump stands in a slot.
last_stays : (more : List Item) (i : Item) (rest : List Item) → LastSlot more → more ≡ i ∷ rest → is_jump i.instr ≡ false
last_stays [] i rest h e = absurd h
last_stays (j ∷ []) i rest h e = sym (ap (λ (z : Item). is_jump z.instr) (first e)) ∙ ap is_jump h.nop
  where
    first : j ∷ [] ≡ i ∷ rest → j ≡ i
    first q = cc
last_stays (j ∷ k ∷ more) i rest h e = absurd h

skipped_stays : (more : List Item) (i : Item) (rest : List Item) → SkippedSlot more → more ≡ i ∷ rest → is_jump i.instr ≡ false
skipped_stays [] i rest h e = absurd h
skipped_stays (j ∷ []) i rest h e = absurd h
skipped_stays (j ∷ k ∷ []) i rest h e = absurd h
skipped_stays (j ∷ k ∷ m ∷ more) i rest h e = sym (ap (λ (z : Item). is_jump z.instr) (first e)) ∙ h.0
  where
    first : j ∷ k ∷ m ∷ more ≡ i ∷ rest → j ≡ i
    first q = cc

pub slot_stays : (p : HardProgram) (f : Fix) (x : Instr) (more : List Item) (i : Item) (rest : List Item) → View p f x more → is_jump x ≡ true → more ≡ i ∷ rest → is_jump i.instr ≡ false
slot_stays p f x more i rest (view.jumps t tg e q k n) j h = last_stays more i rest n h
slot_stays p f x more i rest (view.calls c tg e q k n) j h = last_stays more i rest n h
slot_stays p f x more i rest (view.returns rs e q n) j h = last_stays more i rest n h
slot_stays p f x more i rest (view.skips rs rt e q n) j h = skipped_stays more i rest n h
slot_stays p f x more i rest (view.branches t rs rt imm e q k n) j h = last_stays more i rest n h
slot_stays p f x more i rest (view.stays e q) j h = absurd (no_true (sym j ∙ q))
slot_stays p f x more i rest (view.high e q) j h = absurd (no_true (sym j ∙ ap is_jump q))
slot_stays p f x more i rest (view.low e q) j h = absurd (no_true (sym j ∙ ap is_jump q))

quiet_one : (x : Instr) (q : ℕ) → q ≡ 2 → nat_lt 0 (quiet_after x q) ≡ true
quiet_one x q e = by (is_move x)
  where
    one : (q : ℕ) → q ≡ 2 → nat_lt 0 (q - 1) ≡ true
    one q e = grind arith

    by : (z : Bool) → nat_lt 0 (cond z 2 (q - 1)) ≡ true
    by true = refl
    by false = one q e

-- From an item that is quiet, over the next item or a break and the next, a product stands not.
quiet_next : (p : HardProgram) (l : Layable p) (q a : ℕ) (w : ItemWord p q) (i : Instr) (last quiet : ℕ) → calm_from last quiet (w.item ∷ w.more) ≡ true → quiet ≡ 2 → is_break w.item.instr ≡ false → Goes p q a w → (w.item.instr ≡ nop → w.more ≡ [] → ⊥) → At (text p) a i → is_product i ≡ true → ⊥
quiet_next p l q a w i last quiet c two nb (inner j more e f) nl h pr =
    let jp : is_product j.instr ≡ true = item_products p l (q + 4) (next_item p q w j more e) i (subst (λ (z : ℕ). At (text p) z i) f h) pr in
    let t : (may_stand last quiet w.item.instr ≡ true) × (calm_from (loaded w.item.instr) (quiet_after w.item.instr quiet) (j ∷ more) ≡ true) = calm_tail last quiet w.item (j ∷ more) (subst (λ (z : List Item). calm_from last quiet (w.item ∷ z) ≡ true) e c) nb in
    no_product (loaded w.item.instr) (quiet_after w.item.instr quiet) j.instr (calm_tail (loaded w.item.instr) (quiet_after w.item.instr quiet) j more t.1 (product_no_break j.instr jp)).0 jp (quiet_one w.item.instr quiet two)
quiet_next p l q a w i last quiet c two nb (over k j more e s f) nl h pr =
    let jp : is_product j.instr ≡ true = item_products p l (q + 4 + 4) (next_item p (q + 4) (next_item p q w k (j ∷ more) e) j more refl) i (subst (λ (z : ℕ). At (text p) z i) (f ∙ eight q) h) pr in
    let t : (may_stand last quiet w.item.instr ≡ true) × (calm_from (loaded w.item.instr) (quiet_after w.item.instr quiet) (k ∷ j ∷ more) ≡ true) = calm_tail last quiet w.item (k ∷ j ∷ more) (subst (λ (z : List Item). calm_from last quiet (w.item ∷ z) ≡ true) e c) nb in
    no_product (loaded w.item.instr) (quiet_after w.item.instr quiet) j.instr (calm_tail (loaded w.item.instr) (quiet_after w.item.instr quiet) j more (calm_break (loaded w.item.instr) (quiet_after w.item.instr quiet) k (j ∷ more) t.1 (stop_is_break k s)) (product_no_break j.instr jp)).0 jp (quiet_one w.item.instr quiet two)
  where
    eight : (a : ℕ) → a + 8 ≡ a + 4 + 4
    eight a = omega arith
quiet_next p l q a w i last quiet c two nb (leaves b k e s f) nl h pr = absurd (nl s.nop e)

-- No branch or jump stands in a slot.
pub no_jump_in_slot : (p : HardProgram) (l : Layable p) (a : ℕ) (i : Instr) → At (text p) a i → is_jump i ≡ true → IsSlot (text p) a → ⊥
no_jump_in_slot p l a i h j s =
    let q : SlotOf p a = slot_inside p l a s in
    let v : ItemWord p (q.at + 4) = next_item p q.at q.word q.item q.more q.split in
    no_true (sym (sym (filled_reads p v.block (q.at + 4) v.item.fix v.item.instr).1.1 ∙ (ap is_jump (word_item p l (q.at + 4) v i (subst (λ (z : ℕ). At (text p) z i) q.behind h)) ∙ j)) ∙ slot_stays p q.word.item.fix q.word.item.instr q.word.more q.item q.more (view_here p l q.at q.word) q.jumps q.split)

pub loads_apart : (p : HardProgram) (l : Layable p) (n : Entered p) (a rt rs imm b : ℕ) → At (text p) a (Lw rt rs imm) → Next (text p) a b → Reads (text p) b rt → rt ≡ 0
loads_apart p l n a rt rs imm b h g r = let q : NextGoes p a b = next_goes p l n a b g in load_apart p l a b rt rs imm q.word q.goes h r

pub products_behind_moves : (p : HardProgram) (l : Layable p) (n : Entered p) (a : ℕ) (i : Instr) (q : ℕ) → At (text p) a i → is_product i ≡ true → Next (text p) q a → MovesHalf (text p) q → ⊥
products_behind_moves p l n a i q h pr g m = let v : NextGoes p q a = next_goes p l n q a g in move_next p l q a v.word i v.goes m h pr

-- ---- one address has one item

same_split : (xs ys : List Item) (i j : Item) (m n : List Item) → length xs ≡ length ys → xs ++ i ∷ m ≡ ys ++ j ∷ n → (i ≡ j) × (m ≡ n)
same_split [] [] i j m n l e = (first e, rest e)
  where
    first : i ∷ m ≡ j ∷ n → i ≡ j
    first q = cc

    rest : i ∷ m ≡ j ∷ n → m ≡ n
    rest q = cc
same_split [] (y ∷ ys) i j m n l e = absurd (no (length ys) l)
  where
    no : (k : ℕ) → 0 ≡ suc k → ⊥
    no k q = omega arith
same_split (x ∷ xs) [] i j m n l e = absurd (no (length xs) l)
  where
    no : (k : ℕ) → suc k ≡ 0 → ⊥
    no k q = omega arith
same_split (x ∷ xs) (y ∷ ys) i j m n l e = same_split xs ys i j m n (down (length xs) (length ys) l) (tails e)
  where
    down : (a b : ℕ) → suc a ≡ suc b → a ≡ b
    down a b q = omega arith

    tails : x ∷ (xs ++ i ∷ m) ≡ y ∷ (ys ++ j ∷ n) → xs ++ i ∷ m ≡ ys ++ j ∷ n
    tails q = cc

block_lt : (p : HardProgram) (l : Layable p) (b c a n m : ℕ) → c < length p.blocks → a ≡ address p c + 4 * n → a < address p (b + 1) → (k : ℕ) → c ≡ b + suc k → ⊥
block_lt p l b c a n m h e f zero q = no a (address p c) n (address p (b + 1)) e f (ap (address p) (one b c q))
  where
    one : (b c : ℕ) → c ≡ b + suc 0 → b + 1 ≡ c
    one b c q = omega arith

    no : (a c n d : ℕ) → a ≡ c + 4 * n → a < d → d ≡ c → ⊥
    no a c n d e f g = omega arith
block_lt p l b c a n m h e f (suc k) q = no a (address p c) n (address p (b + 1)) e f (subst (λ (z : ℕ). address p (b + 1) < address p z) (sym (two b c k q)) (grows p l (b + 1) k (bound b c k (length p.blocks) q h)))
  where
    two : (b c n : ℕ) → c ≡ b + suc (suc n) → c ≡ b + 1 + suc n
    two b c n q = omega arith

    bound : (b c n m : ℕ) → c ≡ b + suc (suc n) → c < m → b + 1 + suc n ≤ m
    bound b c n m q h = omega arith

    no : (a c n d : ℕ) → a ≡ c + 4 * n → a < d → d < c → ⊥
    no a c n d e f g = omega arith

pub inside_end : (p : HardProgram) (a : ℕ) (w : ItemWord p a) → a < address p (w.block + 1)
inside_end p a w = less a (length w.more) (address p (w.block + 1)) (word_end p a w)
  where
    less : (a n e : ℕ) → a + 4 * suc n ≡ e → a < e
    less a n e h = omega arith

same_block : (p : HardProgram) (l : Layable p) (a : ℕ) (v w : ItemWord p a) → v.block ≡ w.block
same_block p l a v w = elim (order v.block w.block) as (λ z. v.block ≡ w.block) [
  | below n e ↦ absurd (block_lt p l v.block w.block a (length w.done) 0 w.there w.at (inside_end p a v) n e)
  | same e ↦ e
  | above n e ↦ absurd (block_lt p l w.block v.block a (length v.done) 0 v.there v.at (inside_end p a w) n e)
]

pub same_word : (p : HardProgram) (l : Layable p) (a : ℕ) (v w : ItemWord p a) → (v.item ≡ w.item) × (v.more ≡ w.more)
same_word p l a v w =
    let b : v.block ≡ w.block = same_block p l a v w in
    same_split v.done w.done v.item w.item v.more w.more (len (address p v.block) (address p w.block) (length v.done) (length w.done) (ap (address p) b) (sym v.at ∙ w.at)) (sym v.split ∙ (ap (items_of p) b ∙ w.split))
  where
    len : (a b m n : ℕ) → a ≡ b → a + 4 * m ≡ b + 4 * n → m ≡ n
    len a b m n e f = omega arith

-- ---- two words behind a move

-- The item behind a move, with the quiet that it leaves.
pub record QuietAt (p : HardProgram) (q : ℕ) : Type 0 where
  pub word : ItemWord p q
  pub last : ℕ
  pub quiet : ℕ
  pub calm : calm_from last quiet (word.item ∷ word.more) ≡ true
  pub two : quiet ≡ 2
  pub free : word.item.instr ≡ nop → word.more ≡ [] → ⊥

-- The last item of a block that is no break stands in a slot.
last_in_slot : (p : HardProgram) (l : Layable p) (a : ℕ) (w : ItemWord p a) (front : List Item) (d : Item) → w.done ≡ front ++ d ∷ [] → is_jump d.instr ≡ false → w.item.instr ≡ nop → w.more ≡ [] → ⊥
last_in_slot p l a w front d e j n m =
    let f : Before p w.done w.item w.more = before_here p l a w in
    elim (subst (λ (z : List Item). Lines p f.slot (w.item ∷ z)) m f.lines) as (λ z. ⊥) [
      | inl z ↦ let g : (front : List Item) × (j : Item) × (w.done ≡ front ++ j ∷ []) × (is_jump j.instr ≡ true) = f.jump z.0 in no_true (sym g.3 ∙ (ap (λ (x : Item). is_jump x.instr) (ends_same g.0 front g.1 d (sym g.2 ∙ e)) ∙ j))
      | inr z ↦ no (sym z.stop ∙ n)
    ]
  where
    no : {code : ℕ} → Break code ≡ nop → ⊥
    no q = cc

    ends_same : (xs ys : List Item) (i k : Item) → xs ++ i ∷ [] ≡ ys ++ k ∷ [] → i ≡ k
    ends_same [] [] i k q = first q
      where
        first : i ∷ [] ≡ k ∷ [] → i ≡ k
        first q = cc
    ends_same [] (y ∷ []) i k q = absurd (no q)
      where
        no : i ∷ [] ≡ y ∷ k ∷ [] → ⊥
        no q = cc
    ends_same [] (y ∷ z ∷ ys) i k q = absurd (no q)
      where
        no : i ∷ [] ≡ y ∷ z ∷ (ys ++ k ∷ []) → ⊥
        no q = cc
    ends_same (x ∷ []) [] i k q = absurd (no q)
      where
        no : x ∷ i ∷ [] ≡ k ∷ [] → ⊥
        no q = cc
    ends_same (x ∷ z ∷ xs) [] i k q = absurd (no q)
      where
        no : x ∷ z ∷ (xs ++ i ∷ []) ≡ k ∷ [] → ⊥
        no q = cc
    ends_same (x ∷ xs) (y ∷ ys) i k q = ends_same xs ys i k (tails q)
      where
        tails : x ∷ (xs ++ i ∷ []) ≡ y ∷ (ys ++ k ∷ []) → xs ++ i ∷ [] ≡ ys ++ k ∷ []
        tails q = cc

quiet_behind : (p : HardProgram) (l : Layable p) (a b : ℕ) (w : ItemWord p a) → is_move w.item.instr ≡ true → Goes p a b w → QuietAt p b
quiet_behind p l a b w m (inner j more e f) =
    let c : CalmAt (w.item ∷ w.more) = calm_here p l a w in
    let t : (may_stand c.last c.quiet w.item.instr ≡ true) × (calm_from (loaded w.item.instr) (quiet_after w.item.instr c.quiet) (j ∷ more) ≡ true) = calm_tail c.last c.quiet w.item (j ∷ more) (subst (λ (z : List Item). calm_from c.last c.quiet (w.item ∷ z) ≡ true) e c.calm) (move_is w.item.instr m).0 in
    subst (λ (z : ℕ). QuietAt p z) (sym f) (record { word = next_item p a w j more e; last = loaded w.item.instr; quiet = quiet_after w.item.instr c.quiet; calm = t.1; two = quiet_two w.item.instr c.quiet m; free = last_in_slot p l (a + 4) (next_item p a w j more e) w.done w.item refl (move_is w.item.instr m).1.1 })
quiet_behind p l a b w m (over k j more e s f) =
    let c : CalmAt (w.item ∷ w.more) = calm_here p l a w in
    let t : (may_stand c.last c.quiet w.item.instr ≡ true) × (calm_from (loaded w.item.instr) (quiet_after w.item.instr c.quiet) (k ∷ j ∷ more) ≡ true) = calm_tail c.last c.quiet w.item (k ∷ j ∷ more) (subst (λ (z : List Item). calm_from c.last c.quiet (w.item ∷ z) ≡ true) e c.calm) (move_is w.item.instr m).0 in
    let v : ItemWord p (a + 4) = next_item p a w k (j ∷ more) e in
    subst (λ (z : ℕ). QuietAt p z) (sym (f ∙ eight a)) (record { word = next_item p (a + 4) v j more refl; last = loaded w.item.instr; quiet = quiet_after w.item.instr c.quiet; calm = calm_break (loaded w.item.instr) (quiet_after w.item.instr c.quiet) k (j ∷ more) t.1 (stop_is_break k s); two = quiet_two w.item.instr c.quiet m; free = last_in_slot p l (a + 4 + 4) (next_item p (a + 4) v j more refl) v.done k refl (ap is_jump s.stop) })
  where
    eight : (a : ℕ) → a + 8 ≡ a + 4 + 4
    eight a = omega arith
quiet_behind p l a b w m (leaves c k e s f) = absurd ((move_is w.item.instr m).1.0 s.nop)

-- with the item's own next words
goes_as : (p : HardProgram) (l : Layable p) (q a : ℕ) (v w : ItemWord p q) → Goes p q a v → Goes p q a w
goes_as p l q a v w (inner j more e f) = inner j more (sym (same_word p l q v w).1 ∙ e) f
goes_as p l q a v w (over k j more e s f) = over k j more (sym (same_word p l q v w).1 ∙ e) s f
goes_as p l q a v w (leaves c k e s f) = leaves c k (sym (same_word p l q v w).1 ∙ e) (subst IsNop (same_word p l q v w).0 s) f

break_next : (p : HardProgram) (l : Layable p) (q a : ℕ) (w : ItemWord p q) (i : Instr) (last quiet : ℕ) → calm_from last quiet (w.item ∷ w.more) ≡ true → quiet ≡ 2 → is_break w.item.instr ≡ true → Goes p q a w → (w.item.instr ≡ nop → w.more ≡ [] → ⊥) → At (text p) a i → is_product i ≡ true → ⊥
break_next p l q a w i last quiet c two nb (inner j more e f) nl h pr =
    let jp : is_product j.instr ≡ true = item_products p l (q + 4) (next_item p q w j more e) i (subst (λ (z : ℕ). At (text p) z i) f h) pr in
    no_product last quiet j.instr (calm_tail last quiet j more (calm_break last quiet w.item (j ∷ more) (subst (λ (z : List Item). calm_from last quiet (w.item ∷ z) ≡ true) e c) nb) (product_no_break j.instr jp)).0 jp (ap (λ (z : ℕ). nat_lt 0 z) two)
break_next p l q a w i last quiet c two nb (over k j more e s f) nl h pr =
    let jp : is_product j.instr ≡ true = item_products p l (q + 4 + 4) (next_item p (q + 4) (next_item p q w k (j ∷ more) e) j more refl) i (subst (λ (z : ℕ). At (text p) z i) (f ∙ eight q) h) pr in
    no_product last quiet j.instr (calm_tail last quiet j more (calm_break last quiet k (j ∷ more) (calm_break last quiet w.item (k ∷ j ∷ more) (subst (λ (z : List Item). calm_from last quiet (w.item ∷ z) ≡ true) e c) nb) (stop_is_break k s)) (product_no_break j.instr jp)).0 jp (ap (λ (z : ℕ). nat_lt 0 z) two)
  where
    eight : (a : ℕ) → a + 8 ≡ a + 4 + 4
    eight a = omega arith
break_next p l q a w i last quiet c two nb (leaves b k e s f) nl h pr = absurd (nl s.nop e)

pub products_later : (p : HardProgram) (l : Layable p) (n : Entered p) (a : ℕ) (i : Instr) (m q : ℕ) → At (text p) a i → is_product i ≡ true → Next (text p) m q → Next (text p) q a → MovesHalf (text p) m → ⊥
products_later p l n a i m q h pr f g mv =
    let u : NextGoes p m q = next_goes p l n m q f in
    let v : NextGoes p q a = next_goes p l n q a g in
    let y : QuietAt p q = quiet_behind p l m q u.word (item_moves p l m u.word mv) u.goes in
    by y (goes_as p l q a v.word y.word v.goes) (is_break y.word.item.instr) refl
  where
    by : (y : QuietAt p q) → Goes p q a y.word → (z : Bool) → is_break y.word.item.instr ≡ z → ⊥
    by y g true e = break_next p l q a y.word i y.last y.quiet y.calm y.two e g y.free h pr
    by y g false e = quiet_next p l q a y.word i y.last y.quiet y.calm y.two e g y.free h pr

-- ---- the whole rule

pub has_no_hazard : (p : HardProgram) (l : Layable p) (n : Entered p) (a : ℕ) → HasNoHazard (text p) a
has_no_hazard p l n a = record {
  loads = λ rt rs imm b h g r. loads_apart p l n a rt rs imm b h g r;
  behind_move = λ i q h pr g m. products_behind_moves p l n a i q h pr g m;
  behind_next = λ i m q h pr f g mv. products_later p l n a i m q h pr f g mv;
  jumps = λ i h j s. no_jump_in_slot p l a i h j s;
}
