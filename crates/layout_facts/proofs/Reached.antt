-- Each word that neither begins a block nor is a break has a word before it.
use Rattle.std.proofs.Common.{◌≡◌, ◌≤◌, ◌<◌, ℕ, ◌+◌, ◌*◌, arith, ap, refl, sym, ◌∙◌, subst, List, [], ◌∷◌, ◌++◌, append_assoc, length, Bool, true, false}
use Rattle.std.specs.Prelude.{slice_get}
use Rattle.std.proofs.lemmas.List.{length-append}
use Rattle.mips_isa.specs.declared.instr.Instr.{Instr}
use Rattle.mips_isa.specs.declared.instr.Instr.TheVariants.{J, Jal, Beq, Bne, Lui, Ori, Break}
use Rattle.mips_isa.specs.Machine.{is_jump}
use Rattle.mips_text.specs.Text.{InText, At, IsText, BranchAt}
use Rattle.mips_text.specs.Blocks.{IsStart}
use Rattle.mips_text.specs.Typing.{Next, onward, taken, IsSlot}
use Rattle.harden_lint.proofs.Places.{goal_two}
use Rattle.hard_items.specs.declared.code.Fix.{Fix}
use Rattle.hard_items.specs.declared.code.Fix.TheVariants.{Plain, Block, Function, ReturnHigh, ReturnLow}
use Rattle.hard_items.specs.declared.code.Item.{Item}
use Rattle.hard_items.specs.declared.code.HardProgram.{HardProgram}
use Rattle.hard_items.specs.declared.code.Signed.{Signed}
use Rattle.hard_items.specs.Counts.{is_break}
use Rattle.hard_items.specs.Heads.{headed}
use Rattle.hard_items.specs.Run.{items_of}
use Rattle.layout_law.specs.Layout.{address, filled, filled_with, text}
use Rattle.layout_law.specs.Level.{Laying, Layable, LastSlot, SkippedSlot, IsStop}
use Rattle.layout_law.proofs.Lines.{heads_length, items_headed}
use Rattle.layout_law.proofs.Laying.{can_be_laid}
use Rattle.layout_law.proofs.Texts.{length_text}
use Rattle.layout_law.proofs.Views as views
use Rattle.layout_law.proofs.Views.{ItemWord, item_word, at_item, item_in_text, next_item, View, view_here}
use Rattle.layout_law.proofs.Starts.{same_instr}
use Rattle.layout_law.proofs.Hazards.{same_word}
use Rattle.layout_law.proofs.Next.{SlotOf, slot_inside}
use Rattle.layout_law.proofs.Signed.{signed_starts}
use Rattle.layout_facts.specs.Reached.{NoWordIsDead}
use Rattle.layout_facts.proofs.Breaks.{Fine, Skipped, before_break, block_fine}

no_true : true ≡ false → ⊥
no_true e = cc

-- ---- lists

-- Nothing, or a last element.
data Last (xs : List Item) : Type 0 where
  nothing : xs ≡ [] → Last xs
  one : (front : List Item) (d : Item) → xs ≡ front ++ d ∷ [] → Last xs

last_of : (xs : List Item) → Last xs
last_of [] = nothing refl
last_of (x ∷ xs) = by (last_of xs)
  where
    by : Last xs → Last (x ∷ xs)
    by (nothing e) = one [] x (ap (λ (z : List Item). x ∷ z) e)
    by (one front d e) = one (x ∷ front) d (ap (λ (z : List Item). x ∷ z) e)

-- ---- words

filled_break : (at to back : ℕ) (f : Fix) (x : Instr) → is_break (filled_with at to back f x) ≡ is_break x
filled_break at to back Plain x = refl
filled_break at to back (Block t) (J target) = refl
filled_break at to back (Block t) (Beq rs rt imm) = refl
filled_break at to back (Block t) (Bne rs rt imm) = refl
filled_break at to back (Block t) x = refl
filled_break at to back (Function f) (Jal target) = refl
filled_break at to back (Function f) x = refl
filled_break at to back ReturnHigh (Lui rt imm) = refl
filled_break at to back ReturnHigh x = refl
filled_break at to back ReturnLow (Ori rt rs imm) = refl
filled_break at to back ReturnLow x = refl

-- A break without a field is one in the text.
stop_at : (p : HardProgram) (l : Layable p) (a : ℕ) (w : ItemWord p a) → IsStop w.item → (code : ℕ) × At (text p) a (Break code)
stop_at p l a w s = (s.code, subst (At (text p) a) (ap (λ (z : Fix). filled p w.block a z w.item.instr) s.no_field ∙ s.stop) (at_item p l a w))

plain_at : (p : HardProgram) (l : Layable p) (a : ℕ) (w : ItemWord p a) → w.item.fix ≡ Plain → At (text p) a w.item.instr
plain_at p l a w e = subst (At (text p) a) (ap (λ (z : Fix). filled p w.block a z w.item.instr) e) (at_item p l a w)

-- What stands two items behind a jump is a break.
two_on : (p : HardProgram) (l : Layable p) (a : ℕ) (u : ItemWord p a) (i j : Item) (more : List Item) → u.more ≡ i ∷ j ∷ more → is_jump u.item.instr ≡ true → IsStop j
two_on p l a u i j more e h = by (view_here p l a u)
  where
    none : LastSlot u.more → IsStop j
    none k = absurd (subst LastSlot e k)

    skipped : (more : List Item) → SkippedSlot (i ∷ j ∷ more) → IsStop j
    skipped [] k = absurd k
    skipped (m ∷ more) k = k.1.1

    by : View p u.item.fix u.item.instr u.more → IsStop j
    by (views.jumps t tg f x n k) = none k
    by (views.calls t tg f x n k) = none k
    by (views.returns rs f x k) = none k
    by (views.skips rs rt f x k) = skipped more (subst SkippedSlot e k)
    by (views.branches t rs rt imm f x n k) = none k
    by (views.stays f x) = absurd (no_true (sym h ∙ x))
    by (views.high f x) = absurd (no_true (sym h ∙ ap is_jump x))
    by (views.low f x) = absurd (no_true (sym h ∙ ap is_jump x))

module _ (s : Signed) (l : Laying s) where
  abbrev p : HardProgram
  p = headed s

  abbrev lay : Layable (headed s)
  lay = can_be_laid s l

  -- The word before one that is no break is no slot.
  no_slot : (c : ℕ) (v : ItemWord p c) (j : Item) (more : List Item) → v.more ≡ j ∷ more → (IsStop j → ⊥) → IsSlot (text p) c → ⊥
  no_slot c v j more e n k =
      let q : SlotOf p c = slot_inside p lay c k in
      let v' : ItemWord p (q.at + 4) = record { block = v.block; there = v.there; done = v.done; item = v.item; more = v.more; split = v.split; at = sym q.behind ∙ v.at } in
      let same : (v'.item ≡ q.item) × (v'.more ≡ q.more) = same_word p lay (q.at + 4) v' (next_item p q.at q.word q.item q.more q.split) in
      n (two_on p lay q.at q.word q.item j more (q.split ∙ ap (λ (z : List Item). q.item ∷ z) (sym same.1 ∙ e)) q.jumps)

  -- A word that isn't a break leads on.
  leads_on : (a c : ℕ) (v : ItemWord p c) (j : Item) (more : List Item) → v.more ≡ j ∷ more → (IsStop j → ⊥) → a ≡ c + 4 → is_break v.item.instr ≡ false → Next (text p) c a
  leads_on a c v j more e n f h = onward (item_in_text p lay c v) (no_slot c v j more e n) (λ code k.
      no_true (sym (ap is_break (same_instr (text p) c (filled p v.block c v.item.fix v.item.instr) (Break code) (at_item p lay c v) k)) ∙ (filled_break c _ _ v.item.fix v.item.instr ∙ h))) f

  small : IsText (text p)
  small = subst (λ (n : ℕ). n ≤ 66060288) (sym (length_text p)) l.size

  -- Behind a break that is skipped the branch leads on from its slot.
  leads_over : (a : ℕ) (w : ItemWord p a) (front : List Item) (d : Item) → w.done ≡ front ++ d ∷ [] → Skipped front → (b : ℕ) × Next (text p) b a
  leads_over a w front d e k =
      let j : ℕ = address p w.block + 4 * length k.front in
      let whole : items_of p w.block ≡ k.front ++ k.branch ∷ k.slot ∷ d ∷ w.item ∷ w.more = w.split ∙ (ap (λ (z : List Item). z ++ w.item ∷ w.more) (e ∙ ap (λ (z : List Item). z ++ d ∷ []) k.is) ∙ seam k.front k.branch k.slot d w.item w.more) in
      let u : ItemWord p j = record { block = w.block; there = w.there; done = k.front; item = k.branch; more = k.slot ∷ d ∷ w.item ∷ w.more; split = whole; at = refl } in
      let branch : BranchAt (text p) j k.rs k.rt 2 = record { instr = k.branch.instr; at = plain_at p lay j u k.no_field; is = k.compares } in
      let here : a ≡ j + 12 = far a (address p w.block) (length w.done) (length k.front) w.at (ap length e ∙ (length-append front (d ∷ []) ∙ ap (λ (n : ℕ). n + 1) (ap length k.is ∙ length-append k.front (k.branch ∷ k.slot ∷ [])))) in
      (j + 4, taken j k.rs k.rt 2 (item_in_text p lay (j + 4) (next_item p j u k.slot (d ∷ w.item ∷ w.more) refl)) branch refl (here ∙ sym (goal_two (text p) j small (item_in_text p lay j u))))
    where
      seam : (front : List Item) (x y d i : Item) (more : List Item) → ((front ++ x ∷ y ∷ []) ++ d ∷ []) ++ i ∷ more ≡ front ++ x ∷ y ∷ d ∷ i ∷ more
      seam front x y d i more = append_assoc (front ++ x ∷ y ∷ []) (d ∷ []) (i ∷ more) ∙ append_assoc front (x ∷ y ∷ []) (d ∷ i ∷ more)

      far : (a b n m : ℕ) → a ≡ b + 4 * n → n ≡ m + 2 + 1 → a ≡ b + 4 * m + 12
      far a b n m e f = omega arith

  pub reached : (a : ℕ) → InText (text p) a → (IsStart (text p) 0x00400000 a → ⊥) → ((code : ℕ) → At (text p) a (Break code) → ⊥) → (b : ℕ) × Next (text p) b a
  reached a h n b = by (last_of w.done)
    where
      w : ItemWord p a
      w = item_word p a h

      none : (x : ℕ) → x + 4 * 0 ≡ x
      none x = omega arith

      moves : (a x m k : ℕ) → a ≡ x + 4 * m → m ≡ k + 1 → a ≡ x + 4 * k + 4
      moves a x m k e f = omega arith

      no_stop : IsStop w.item → ⊥
      no_stop k = let r : (code : ℕ) × At (text p) a (Break code) = stop_at p lay a w k in b r.0 r.1

      in_program : w.block < length s.program.blocks
      in_program = subst (λ (z : ℕ). w.block < z) (heads_length s.program.blocks s.marks) w.there

      choose : (front : List Item) (d : Item) → w.done ≡ front ++ d ∷ [] → (z : Bool) → is_break d.instr ≡ z → (b : ℕ) × Next (text p) b a
      choose front d e false f =
          let c : ℕ = address p w.block + 4 * length front in
          let v : ItemWord p c = record { block = w.block; there = w.there; done = front; item = d; more = w.item ∷ w.more; split = w.split ∙ (ap (λ (z : List Item). z ++ w.item ∷ w.more) e ∙ append_assoc front (d ∷ []) (w.item ∷ w.more)); at = refl } in
          (c, leads_on a c v w.item w.more refl no_stop (moves a (address p w.block) (length w.done) (length front) w.at (ap length e ∙ length-append front (d ∷ []))) f)
      choose front d e true f = leads_over a w front d e (before_break (items_of p w.block) (subst Fine (sym (items_headed s w.block in_program)) (block_fine (slice_get s.marks w.block) (items_of s.program w.block) (l.formed w.block in_program))) front d w.item w.more (w.split ∙ (ap (λ (z : List Item). z ++ w.item ∷ w.more) e ∙ append_assoc front (d ∷ []) (w.item ∷ w.more))) f)

      by : Last w.done → (b : ℕ) × Next (text p) b a
      by (nothing e) = absurd (n ((signed_starts s l a).1 (w.block, in_program, w.at ∙ (ap (λ (z : List Item). address p w.block + 4 * length z) e ∙ none (address p w.block)))))
      by (one front d e) = choose front d e (is_break d.instr) refl

pub no_word_is_dead : NoWordIsDead
no_word_is_dead s l a h n b = reached s l a h n b
