-- A program that has the items of a well-formed one, in forms, and some more that go nowhere, is well formed.
use Rattle.std.proofs.Common.{◌≡◌, ◌≢◌, ◌≤◌, ◌<◌, ℕ, zero, suc, ◌+◌, ◌^◌, arith, ap, refl, sym, ◌∙◌, subst, List, [], ◌∷◌, length, get_or, Bool, true, false, inl, inr, ⊎_elim}
use Rattle.std.specs.Prelude.{Option, Some, None, ◌⊎◌, ◌↔◌, slice_get, All, Contains}
use Rattle.std.proofs.lemmas.List.Elements.{All-contains, All-contains_itself, All-weaker}
use Rattle.mips_isa.specs.declared.instr.Instr.{Instr}
use Rattle.mips_isa.specs.declared.instr.Instr.TheVariants.{J, Jal}
use Rattle.mips_isa.specs.Table.{IsInRange}
use Rattle.hard_items.specs.declared.code.Fix.{Fix}
use Rattle.hard_items.specs.declared.code.Fix.TheVariants.{Plain, Block, Function, ReturnHigh, ReturnLow}
use Rattle.hard_items.specs.declared.code.Item.{Item}
use Rattle.hard_items.specs.declared.code.HardBlock.{HardBlock}
use Rattle.hard_items.specs.declared.code.HardProgram.{HardProgram}
use Rattle.hard_items.specs.Run.{items_of, block_items}
use Rattle.hard_items.specs.Ways.{Holds, CallsFunction, EachCalled, IsOfFunction, MayFollow, jumped, branched_eq, branched_ne, fallen_eq, fallen_ne, called, returned}
use Rattle.hard_items.specs.WellFormed.{WellFormed, ItemAt, FieldFits, NamesThere, IsEntered}
use Rattle.hard_items.specs.Keeping.{leaps, IsAdded, OnlyAdds, WellFormedStays}
use Rattle.hard_laws.proofs.Scan as scan

no_true : true ≡ false → ⊥
no_true e = cc

-- ---- lists

placed : {A : Type 0} (xs : List A) (k : ℕ) (x : A) → slice_get xs k ≡ Some x → Contains xs x
placed [] k x e = absurd (none x e)
  where
    none : {A : Type 0} (x : A) → None ≡ Some x → ⊥
    none x e = cc
placed (y ∷ ys) zero x e = (0, Rattle.std.proofs.Common.zero-lt-suc (length ys), same e)
  where
    same : {A : Type 0} {a b : A} → Some a ≡ Some b → a ≡ b
    same g = cc
placed (y ∷ ys) (suc k) x e = let c : Contains ys x = placed ys k x e in (suc c.0, Rattle.std.proofs.Common.suc-le-suc c.1, c.2)

at_place : {A : Type 0} (xs : List A) (x : A) (k : ℕ) → k < length xs → get_or xs k x ≡ x → slice_get xs k ≡ Some x
at_place [] x k h e = absurd (Rattle.std.proofs.Common.not-suc-le-zero h)
at_place (y ∷ ys) x zero h e = ap (λ z. Some z) e
at_place (y ∷ ys) x (suc k) h e = at_place ys x k (Rattle.std.proofs.Common.le_of_suc-le-suc h) e

in_blocks : (xs : List HardBlock) (b : ℕ) → (b < length xs) ⊎ (slice_get xs b ≡ None)
in_blocks [] b = inr refl
in_blocks (x ∷ xs) zero = inl (Rattle.std.proofs.Common.zero-lt-suc (length xs))
in_blocks (x ∷ xs) (suc b) = ⊎_elim (λ l. inl (Rattle.std.proofs.Common.suc-le-suc l)) (λ e. inr e) (in_blocks xs b)

plain_no_block : (f : Fix) (t : ℕ) → f ≡ Block t → f ≡ Plain → ⊥
plain_no_block f t e g = wrong (sym e ∙ g)
  where
    wrong : Block t ≡ Plain → ⊥
    wrong h = cc

plain_no_function : (f : Fix) (t : ℕ) → f ≡ Function t → f ≡ Plain → ⊥
plain_no_function f t e g = wrong (sym e ∙ g)
  where
    wrong : Function t ≡ Plain → ⊥
    wrong h = cc

added_fits : (f : Fix) (x : Instr) → f ≡ Plain → leaps x ≡ false → FieldFits f x
added_fits f x e l = subst (λ (z : Fix). FieldFits z x) (sym e) (by x l)
  where
    by : (x : Instr) → leaps x ≡ false → FieldFits Plain x
    by (J t) h = absurd (no_true h)
    by (Jal t) h = absurd (no_true h)
    by y h = tt

module _ (p q : HardProgram) (a : OnlyAdds p q) where
  -- ---- what each block holds

  holds : (b : ℕ) (i : Item) → Holds p b i → Holds q b i
  holds b i h = a.kept b i h

  held_jump : (b : ℕ) (i : Item) → leaps i.instr ≡ true → Holds q b i → Holds p b i
  held_jump b i l h = ⊎_elim (λ x. x) (λ x. absurd (no_true (sym l ∙ x.stays))) (a.new b i h)

  held_block : (b t : ℕ) (i : Item) → i.fix ≡ Block t → Holds q b i → Holds p b i
  held_block b t i e h = ⊎_elim (λ x. x) (λ x. absurd (plain_no_block i.fix t e x.no_field)) (a.new b i h)

  calls : (b f : ℕ) → CallsFunction p b f → CallsFunction q b f
  calls b f c = record { item = c.item; target = c.target; holds = holds b c.item c.holds; jumps = c.jumps; names = c.names }

  called_there : (b f : ℕ) → CallsFunction q b f → CallsFunction p b f
  called_there b f c = record { item = c.item; target = c.target; holds = held_jump b c.item (ap (λ (z : Instr). leaps z) c.jumps) c.holds; jumps = c.jumps; names = c.names }

  is_of : (b f : ℕ) → IsOfFunction p b f → IsOfFunction q b f
  is_of b f h = record {
    entry = h.entry;
    is_entry = subst (λ (es : List ℕ). slice_get es f ≡ Some h.entry) (sym a.entries) h.is_entry;
    not_above = h.not_above;
    greatest = λ n other e. h.greatest n other (subst (λ (es : List ℕ). slice_get es n ≡ Some other) a.entries e);
  }

  was_of : (b f : ℕ) → IsOfFunction q b f → IsOfFunction p b f
  was_of b f h = record {
    entry = h.entry;
    is_entry = subst (λ (es : List ℕ). slice_get es f ≡ Some h.entry) a.entries h.is_entry;
    not_above = h.not_above;
    greatest = λ n other e. h.greatest n other (subst (λ (es : List ℕ). slice_get es n ≡ Some other) (sym a.entries) e);
  }

  ways : (b c : ℕ) → MayFollow p b c → MayFollow q b c
  ways b _ (jumped c target i h e f) = jumped c target i (holds b i h) e f
  ways b _ (branched_eq c rs rt imm i h e f) = branched_eq c rs rt imm i (holds b i h) e f
  ways b _ (branched_ne c rs rt imm i h e f) = branched_ne c rs rt imm i (holds b i h) e f
  ways b _ (fallen_eq c rs rt imm i h e f) = fallen_eq c rs rt imm i (holds b i h) e f
  ways b _ (fallen_ne c rs rt imm i h e f) = fallen_ne c rs rt imm i (holds b i h) e f
  ways b _ (called f c h e) = called f c (calls b f h) (subst (λ (es : List ℕ). slice_get es f ≡ Some c) (sym a.entries) e)
  ways b _ (returned f caller rs i h e o c) = returned f caller rs i (holds b i h) e (is_of b f o) (calls caller f c)

  were_ways : (b c : ℕ) → MayFollow q b c → MayFollow p b c
  were_ways b _ (jumped c target i h e f) = jumped c target i (held_block b c i f h) e f
  were_ways b _ (branched_eq c rs rt imm i h e f) = branched_eq c rs rt imm i (held_block b c i f h) e f
  were_ways b _ (branched_ne c rs rt imm i h e f) = branched_ne c rs rt imm i (held_block b c i f h) e f
  were_ways b _ (fallen_eq c rs rt imm i h e f) = fallen_eq c rs rt imm i (held_block b c i f h) e f
  were_ways b _ (fallen_ne c rs rt imm i h e f) = fallen_ne c rs rt imm i (held_block b c i f h) e f
  were_ways b _ (called f c h e) = called f c (called_there b f h) (subst (λ (es : List ℕ). slice_get es f ≡ Some c) a.entries e)
  were_ways b _ (returned f caller rs i h e o c) = returned f caller rs i (held_jump b i (ap (λ (z : Instr). leaps z) e) h) e (was_of b f o) (called_there caller f c)

  -- ---- rules of each item

  each : (P : Item → Type 0) → ((i : Item) → IsAdded i → P i) → (b : ℕ) → All P (items_of p b) → All P (items_of q b)
  each P put b h = All-weaker (λ (i : Item). Contains (items_of q b) i) P (λ i c. ⊎_elim (λ x. All-contains P (items_of p b) i h x) (λ x. put i x) (a.new b i c)) (items_of q b) (All-contains_itself (items_of q b))

  few : (n : ℕ) → n < length p.blocks → n < length q.blocks
  few n h = subst (λ (m : ℕ). n < m) (sym a.blocks) h

  names_there : (i : Item) → NamesThere p i.fix → NamesThere q i.fix
  names_there i h = by i.fix h
    where
      by : (f : Fix) → NamesThere p f → NamesThere q f
      by Plain h = tt
      by (Block t) h = subst (λ (m : ℕ). t < m) (sym a.blocks) h
      by (Function f) h = subst (λ (es : List ℕ). f < length es) (sym a.entries) h
      by ReturnHigh h = tt
      by ReturnLow h = tt

  -- ---- rules of each block

  lines_of : (b : ℕ) → scan.Lines (items_of q b)
  lines_of b = ⊎_elim (λ l. scan.formed_lines (items_of q b) (a.formed b l)) (λ e. subst (λ (o : Option HardBlock). scan.Lines (block_items o)) (sym e) tt) (in_blocks q.blocks b)

  entered : (c : ℕ) → IsEntered p c → IsEntered q c
  entered c (inl h) = inl (h.0, ways h.0 c h.1)
  entered c (inr h) = inr (h.0, h.1, h.2, calls h.0 h.1 h.3)

  each_called : EachCalled p → EachCalled q
  each_called h f e g = ⊎_elim (λ x. inl x) (λ x. inr (x.0, calls x.0 f x.1)) (h f e (subst (λ (es : List ℕ). slice_get es f ≡ Some e) a.entries g))

  moved_iff : (b t f : ℕ) → (IsOfFunction p b f ↔ IsOfFunction p t f) → (IsOfFunction q b f ↔ IsOfFunction q t f)
  moved_iff b t f h = ((λ x. is_of t f (h.0 (was_of b f x))), (λ x. is_of b f (h.1 (was_of t f x))))

  placed_block : (b k t : ℕ) (i : Item) → ItemAt (items_of q b) k i → i.fix ≡ Block t → (m : ℕ) × ItemAt (items_of p b) m i
  placed_block b k t i e f = let c : Contains (items_of p b) i = held_block b t i f (placed (items_of q b) k i e) in (c.0, at_place (items_of p b) i c.0 c.1 c.2)

  placed_jump : (b k : ℕ) (i : Item) → ItemAt (items_of q b) k i → leaps i.instr ≡ true → (m : ℕ) × ItemAt (items_of p b) m i
  placed_jump b k i e f = let c : Contains (items_of p b) i = held_jump b i f (placed (items_of q b) k i e) in (c.0, at_place (items_of p b) i c.0 c.1 c.2)

  well_formed : WellFormed p → WellFormed q
  well_formed w = record {
    has_block = few 0 w.has_block;
    few_blocks = subst (λ (n : ℕ). n < 2 ^ 32) (sym a.blocks) w.few_blocks;
    initial_fits = subst (λ (n : ℕ). length q.initial ≤ n) (sym a.memory) (subst (λ (xs : List ℕ). length xs ≤ p.memory_words) (sym a.initial) w.initial_fits);
    has_memory = subst (λ (n : ℕ). 1 ≤ n) (sym a.memory) w.has_memory;
    memory_fits = subst (λ (n : ℕ). n ≤ 4194304) (sym a.memory) w.memory_fits;
    in_range = λ b. each (λ i. IsInRange i.instr) (λ i x. x.in_range) b (w.in_range b);
    fields_fit = λ b. each (λ i. FieldFits i.fix i.instr) (λ i x. added_fits i.fix i.instr x.no_field x.stays) b (w.fields_fit b);
    named_there = λ b. each (λ i. NamesThere q i.fix) (λ i x. subst (λ (f : Fix). NamesThere q f) (sym x.no_field) tt) b (All-weaker (λ i. NamesThere p i.fix) (λ i. NamesThere q i.fix) names_there (items_of p b) (w.named_there b));
    entries_there = subst (λ (es : List ℕ). All (λ e. e < length q.blocks) es) (sym a.entries) (All-weaker (λ e. e < length p.blocks) (λ e. e < length q.blocks) few p.entries w.entries_there);
    each_called = each_called w.each_called;
    entries_differ = λ f g e x y. w.entries_differ f g e (subst (λ (es : List ℕ). slice_get es f ≡ Some e) a.entries x) (subst (λ (es : List ℕ). slice_get es g ≡ Some e) a.entries y);
    only_at_the_end = λ b k i e j. scan.only_at_the_end (items_of q b) (lines_of b) k i e j;
    skips_or_names = λ b k rs rt imm i e c f. scan.skips_or_names (items_of q b) (lines_of b) k rs rt imm i e c f;
    ends_well = λ b l. scan.ends_well (items_of q b) (a.formed b l);
    goes_on_behind_skips = λ b k s. scan.goes_on_behind_skips (items_of q b) (lines_of b) k s;
    branch_stays = λ b k t rs rt imm i e f c. let m : (m : ℕ) × ItemAt (items_of p b) m i = placed_block b k t i e f in
        let s : (b + 1 < length p.blocks) × ((f : ℕ) → (IsOfFunction p b f ↔ IsOfFunction p t f) × (IsOfFunction p b f ↔ IsOfFunction p (b + 1) f)) = w.branch_stays b m.0 t rs rt imm i m.1 f c in
        (few (b + 1) s.0, (λ g. (moved_iff b t g (s.1 g).0, moved_iff b (b + 1) g (s.1 g).1)));
    one_return = λ b c f k m rs rt i j x y e g u v.
        let d : (n : ℕ) × ItemAt (items_of p b) n i = placed_jump b k i e (ap (λ (z : Instr). leaps z) u) in
        let h : (n : ℕ) × ItemAt (items_of p c) n j = placed_jump c m j g (ap (λ (z : Instr). leaps z) v) in
        w.one_return b c f d.0 h.0 rs rt i j (was_of b f x) (was_of c f y) d.1 h.1 u v;
    call_goes_on = λ b f c. few (b + 1) (w.call_goes_on b f (called_there b f c));
    each_entered = λ c z l. entered c (w.each_entered c z (subst (λ (n : ℕ). c < n) a.blocks l));
    first_not_entered = λ b m. w.first_not_entered b (were_ways b 0 m);
    successors_ascend = λ b k c d y e x z. let s : (x : HardBlock) × (slice_get p.blocks b ≡ Some x) × (y.successors ≡ x.successors) = a.successors b y e in
        w.successors_ascend b k c d s.0 s.1 (subst (λ (l : List ℕ). slice_get l k ≡ Some c) s.2 x) (subst (λ (l : List ℕ). slice_get l (k + 1) ≡ Some d) s.2 z);
    successors_are = λ b c y e. let s : (x : HardBlock) × (slice_get p.blocks b ≡ Some x) × (y.successors ≡ x.successors) = a.successors b y e in
        let i : Contains s.0.successors c ↔ MayFollow p b c = w.successors_are b c s.0 s.1 in
        ((λ x. ways b c (i.0 (subst (λ (l : List ℕ). Contains l c) s.2 x))), (λ x. subst (λ (l : List ℕ). Contains l c) (sym s.2) (i.1 (were_ways b c x))));
  }

  -- A half of a return address still stands in a block that calls.
  pub halves_call : ((b : ℕ) (i : Item) → Holds p b i → (i.fix ≡ ReturnHigh) ⊎ (i.fix ≡ ReturnLow) → (f : ℕ) × CallsFunction p b f) → (b : ℕ) (i : Item) → Holds q b i → (i.fix ≡ ReturnHigh) ⊎ (i.fix ≡ ReturnLow) → (f : ℕ) × CallsFunction q b f
  halves_call h b i c e = let r : (f : ℕ) × CallsFunction p b f = h b i (⊎_elim (λ x. x) (λ x. absurd (half_no i.fix e x.no_field)) (a.new b i c)) e in (r.0, calls b r.0 r.1)
    where
      half_no : (f : Fix) → (f ≡ ReturnHigh) ⊎ (f ≡ ReturnLow) → f ≡ Plain → ⊥
      half_no f (inl x) y = cc
      half_no f (inr x) y = cc

pub well_formed_stays : WellFormedStays
well_formed_stays p q a w = (well_formed p q a w, (λ b c. (ways p q a b c, were_ways p q a b c)))
