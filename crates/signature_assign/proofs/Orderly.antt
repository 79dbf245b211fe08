-- The run of a well formed program goes through its blocks in order: behind each item it goes on in the block or at the start of
-- a block that may follow.
use Rattle.std.proofs.Common.{◌≡◌, ◌≢◌, ◌≤◌, ℕ, zero, suc, ◌+◌, ◌<◌, arith, rules, ap, refl, sym, ◌∙◌, subst, List, [], ◌∷◌, ◌++◌, length, drop, false, true, Bool, cond, inl, inr}
use Rattle.std.specs.Prelude.{Option, Some, None, ◌⊎◌, ◌==◌, slice_get, slice_index, if◌then◌else◌, All, Contains}
use Rattle.hard_runs.specs.Stepping.{Stepper, Always, go}
use Rattle.std.proofs.lemmas.Option.{slice_get-get_or, slice_get_within, get_or_from_slice_get}
use Rattle.std.proofs.lemmas.List.Elements.{All-contains}
use Rattle.mips_isa.specs.declared.instr.Instr.{Instr}
use Rattle.mips_isa.specs.declared.instr.Instr.TheVariants.{Sll, Srl, Sra, Sllv, Srlv, Srav, Jr, Syscall, Break, Mfhi, Mflo, Mult, Multu, Div, Divu, Add, Addu, Sub, Subu, And, Or, Xor, Nor, Slt, Sltu, J, Jal, Beq, Bne, Addi, Addiu, Slti, Sltiu, Andi, Ori, Xori, Lui, Lw, Sw}
use Rattle.mips_isa.specs.declared.instr.Act.{Act}
use Rattle.mips_isa.specs.declared.instr.End.{End}
use Rattle.mips_isa.specs.Machine.{State, act, perform, is_jump, break_end}
use Rattle.hard_items.specs.declared.code.Fix.{Fix}
use Rattle.hard_items.specs.declared.code.Fix.TheVariants.{Plain, Block, Function, ReturnHigh, ReturnLow}
use Rattle.hard_items.specs.declared.code.Item.{Item}
use Rattle.hard_items.specs.declared.code.HardProgram.{HardProgram}
use Rattle.hard_items.specs.Run.{Data, Spot, Way, Onward, Over, To, items, items_of, item_act, machine_of, way_of, branch_way, named, held, tail, arrived, before, at_block, settled, numbered, completed, data_after, first_spot, first_data}
use Rattle.hard_items.specs.Ways.{Holds, CallsFunction, MayFollow, jumped, branched_eq, branched_ne, fallen_eq, fallen_ne, called, returned}
use Rattle.hard_items.specs.WellFormed.{WellFormed, ItemAt, SkipsBreak, NamesThere, EndsWell, FieldFits}
use Rattle.hard_items.specs.Rules.{Lawful, LawfulNext, LawfulAt, Returns}
use Rattle.signature_assign.specs.Headed.{Spares, Legal, OrderlyNext, OrderlyAt, BlocksFit}
use Rattle.signature_assign.proofs.Premises.{follower_there}
use Rattle.signature_assign.proofs.Step.{at_rest}

-- Lists from a place on.

drop_item : (xs : List Item) (k : ℕ) (x : Item) (ys : List Item) → drop k xs ≡ x ∷ ys → ItemAt xs k x
drop_item [] zero x ys e = absurd (cc)
drop_item [] (suc k) x ys e = absurd (cc)
drop_item (y ∷ xs) zero x ys e = ap (λ (z : Item). Some z) (head_same e)
  where
    head_same : y ∷ xs ≡ x ∷ ys → y ≡ x
    head_same e = cc
drop_item (y ∷ xs) (suc k) x ys e = drop_item xs k x ys e

drop_more : (xs : List Item) (k : ℕ) (x : Item) (ys : List Item) → drop k xs ≡ x ∷ ys → drop (suc k) xs ≡ ys
drop_more [] zero x ys e = absurd (cc)
drop_more [] (suc k) x ys e = absurd (cc)
drop_more (y ∷ xs) zero x ys e = tail_same e
  where
    tail_same : y ∷ xs ≡ x ∷ ys → xs ≡ ys
    tail_same e = cc
drop_more (y ∷ xs) (suc k) x ys e = drop_more xs k x ys e

drop_long : (xs : List Item) (k : ℕ) (x : Item) (ys : List Item) → drop k xs ≡ x ∷ ys → length xs ≡ k + 1 + length ys
drop_long [] zero x ys e = absurd (cc)
drop_long [] (suc k) x ys e = absurd (cc)
drop_long (y ∷ xs) zero x ys e = ap suc (ap length (tail_same e)) ∙ one_more (length ys)
  where
    tail_same : y ∷ xs ≡ x ∷ ys → xs ≡ ys
    tail_same e = cc

    one_more : (n : ℕ) → suc n ≡ 0 + 1 + n
    one_more n = omega arith
drop_long (y ∷ xs) (suc k) x ys e = ap suc (drop_long xs k x ys e) ∙ move k (length ys)
  where
    move : (a b : ℕ) → suc (a + 1 + b) ≡ suc a + 1 + b
    move a b = omega arith

same_item : (xs : List Item) (k : ℕ) (i j : Item) → ItemAt xs k i → ItemAt xs k j → i ≡ j
same_item xs k i j e f = same_some (sym e ∙ f)
  where
    same_some : Some i ≡ Some j → i ≡ j
    same_some h = cc

holds_at : (p : HardProgram) (b k : ℕ) (i : Item) → ItemAt (items_of p b) k i → Holds p b i
holds_at p b k i e = (k, slice_get_within (items_of p b) k i e, get_or_from_slice_get (items_of p b) k i i e)

-- A break ends the run.

some_none : (e : End) → Some e ≡ None → ⊥
some_none e h = search (rules, h)

break_by : (f : Fix) (b code : ℕ) (s : State) → FieldFits f (Break code) → (perform (completed f b (numbered b (act (Break code) s))) s).0.end ≡ None → ⊥
break_by Plain b code s g h = some_none (break_end s.pc code) h
break_by (Block t) b code s g h = g
break_by (Function t) b code s g h = g
break_by ReturnHigh b code s g h = g
break_by ReturnLow b code s g h = g

no_break : (p : HardProgram) (b k code : ℕ) (i : Item) (d : Data) → WellFormed p → ItemAt (items_of p b) k i → i.instr ≡ Break code → (perform (item_act b i d) (machine_of d)).0.end ≡ None → ⊥
no_break p b k code i d f at e h =
    let g : FieldFits i.fix i.instr = All-contains (λ (x : Item). FieldFits x.fix x.instr) (items_of p b) i (f.fields_fit b) (holds_at p b k i at) in
    break_by i.fix b code (machine_of d) (subst (λ (x : Instr). FieldFits i.fix x) e g) (ap (λ (x : Instr). (perform (completed i.fix b (numbered b (act x (machine_of d)))) (machine_of d)).0.end) (sym e) ∙ h)

-- Where a run stands in a block: at its start, behind an item that went this way, or over a break.
pub data Came (p : HardProgram) (b : ℕ) : ℕ → Way → Type 0 where
  starts : Came p b 0 Onward
  behind : (j : ℕ) (i : Item) (d : Data) → ItemAt (items_of p b) j i → Returns p b i.instr d → Came p b (suc j) (way_of p i d i.instr)
  skipped : (j : ℕ) → SkipsBreak (items_of p b) j → Came p b (j + 3) Onward

pub record Stands (p : HardProgram) (s : Spot) : Type 0 where
  pub place : ℕ
  pub rest : s.rest ≡ drop place (items_of p s.block)
  pub there : s.block < length p.blocks
  pub came : Came p s.block place s.way

-- Where it goes behind the item at a place.
data Goes (p : HardProgram) (b k : ℕ) (own : Way) (more : List Item) : Way → Type 0 where
  onward : (x : Item) (xs : List Item) → more ≡ x ∷ xs → Goes p b k own more Onward
  falls : more ≡ [] → own ≡ Onward → MayFollow p b (b + 1) → Goes p b k own more Onward
  skips : (j : ℕ) → k ≡ suc j → SkipsBreak (items_of p b) j → (x y : Item) (ys : List Item) → more ≡ x ∷ y ∷ ys → Goes p b k own more Over
  leads : (t : ℕ) → MayFollow p b t → Goes p b k own more (To t)

goes_legal : (p : HardProgram) (b k : ℕ) (own w : Way) (more : List Item) → Goes p b k own more w → Legal p b w own more
goes_legal p b k own z more (onward x xs e) = subst (λ (m : List Item). Legal p b Onward own m) (sym e) tt
goes_legal p b k own z more (falls e f m) = subst (λ (m : List Item). Legal p b Onward own m) (sym e) (f, m)
goes_legal p b k own z more (skips j f s x y ys e) = subst (λ (m : List Item). Legal p b Over own m) (sym e) tt
goes_legal p b k own z more (leads t m) = m

quiet_way : (p : HardProgram) (i : Item) (d : Data) (x : Instr) → is_jump x ≡ false → way_of p i d x ≡ Onward
quiet_way p i d (J target) e = absurd (no_truth e)
  where
    no_truth : true ≡ false → ⊥
    no_truth e = cc
quiet_way p i d (Jal target) e = absurd (no_truth e)
  where
    no_truth : true ≡ false → ⊥
    no_truth e = cc
quiet_way p i d (Jr rs) e = absurd (no_truth e)
  where
    no_truth : true ≡ false → ⊥
    no_truth e = cc
quiet_way p i d (Beq x y m) e = absurd (no_truth e)
  where
    no_truth : true ≡ false → ⊥
    no_truth e = cc
quiet_way p i d (Bne x y m) e = absurd (no_truth e)
  where
    no_truth : true ≡ false → ⊥
    no_truth e = cc
quiet_way p i d _ e = refl

no_truth : false ≡ true → ⊥
no_truth e = cc

field_j : (g : Fix) (target : ℕ) → FieldFits g (J target) → (t : ℕ) × (g ≡ Block t)
field_j Plain target h = absurd h
field_j (Block t) target h = (t, refl)
field_j (Function f) target h = absurd h
field_j ReturnHigh target h = absurd h
field_j ReturnLow target h = absurd h

field_jal : (g : Fix) (target : ℕ) → FieldFits g (Jal target) → (f : ℕ) × (g ≡ Function f)
field_jal Plain target h = absurd h
field_jal (Block t) target h = absurd h
field_jal (Function f) target h = (f, refl)
field_jal ReturnHigh target h = absurd h
field_jal ReturnLow target h = absurd h

-- what comes behind the item at a place, where the run goes on
record Here (p : HardProgram) (b k : ℕ) (i : Item) (more : List Item) (d : Data) : Type 0 where
  rest : drop k (items_of p b) ≡ i ∷ more
  there : b < length p.blocks
  goes_on : (perform (item_act b i d) (machine_of d)).0.end ≡ None

-- the last item but one of a block whose last item comes next
record IsLast (p : HardProgram) (b k : ℕ) : Type 0 where
  m : ℕ
  item : Item
  before_ : k ≡ suc m
  at_ : ItemAt (items_of p b) m item
  jumps : is_jump item.instr ≡ true
  skips_none : SkipsBreak (items_of p b) m → ⊥
  size : m + 2 ≡ length (items_of p b)

module _ (p : HardProgram) (f : WellFormed p) (fit : BlocksFit p) where
  last_of : (b k : ℕ) (i : Item) (d : Data) → Here p b k i [] d → IsLast p b k
  last_of b k i d h = by_end ends
    where
      len : length (items_of p b) ≡ k + 1 + 0
      len = drop_long (items_of p b) k i [] h.rest

      ends : EndsWell (items_of p b)
      ends = f.ends_well b h.there

      pred : (m n : ℕ) → n ≡ m + 2 → n ≡ k + 1 + 0 → k ≡ suc m
      pred m n e g = omega arith

      plus_one : (m : ℕ) → suc m ≡ m + 1
      plus_one m = omega arith

      by_end : EndsWell (items_of p b) → IsLast p b k
      by_end e = elim e.6 as (λ z. IsLast p b k) [
        | inl z ↦ record { m = e.0; item = e.1; before_ = pred e.0 (length (items_of p b)) e.3 len; at_ = e.4; jumps = z.0; skips_none = z.1; size = sym e.3 }
        | inr z ↦ absurd (no_break p b (e.0 + 1) z.0 e.2 d f e.5 z.1 (subst (λ (y : Item). (perform (item_act b y d) (machine_of d)).0.end ≡ None) (same_item (items_of p b) k i e.2 (drop_item (items_of p b) k i [] h.rest) (subst (λ (n : ℕ). ItemAt (items_of p b) n e.2) (sym (pred e.0 (length (items_of p b)) e.3 len ∙ plus_one e.0)) e.5)) h.goes_on))
      ]

  own_onward : (b k : ℕ) (i : Item) (d : Data) → Here p b k i [] d → way_of p i d i.instr ≡ Onward
  own_onward b k i d h = by_jump (is_jump i.instr) refl
    where
      len : length (items_of p b) ≡ k + 1 + 0
      len = drop_long (items_of p b) k i [] h.rest

      too_far : (n : ℕ) → n ≡ k + 1 + 0 → k + 2 < n → ⊥
      too_far n e g = omega arith

      not_two : (n : ℕ) → n ≡ k + 1 + 0 → k + 2 ≡ n → ⊥
      not_two n e g = omega arith

      by_jump : (z : Bool) → is_jump i.instr ≡ z → way_of p i d i.instr ≡ Onward
      by_jump false e = quiet_way p i d i.instr e
      by_jump true e = elim (f.only_at_the_end b k i (drop_item (items_of p b) k i [] h.rest) e) as (λ z. way_of p i d i.instr ≡ Onward) [
        | inl s ↦ absurd (too_far (length (items_of p b)) len (slice_get_within (items_of p b) (k + 2) s.skipped s.behind))
        | inr g ↦ absurd (not_two (length (items_of p b)) len g)
      ]

  -- behind an item that has no way of its own
  plain_goes : (b k : ℕ) (i : Item) (more : List Item) (d : Data) (own : Way) → own ≡ way_of p i d i.instr → Here p b k i more d → (IsLast p b k → MayFollow p b (b + 1)) → Goes p b k own more Onward
  plain_goes b k i [] d own e h m = falls refl (e ∙ own_onward b k i d h) (m (last_of b k i d h))
  plain_goes b k i (x ∷ xs) d own e h m = onward x xs refl

  same_pred : (j m : ℕ) → suc j ≡ suc m → m ≡ j
  same_pred j m e = omega arith

  -- behind a branch that is not taken
  not_taken : (b j : ℕ) (x : Item) (rs rt imm : ℕ) → ItemAt (items_of p b) j x → (x.instr ≡ Beq rs rt imm) ⊎ (x.instr ≡ Bne rs rt imm) → IsLast p b (suc j) → MayFollow p b (b + 1)
  not_taken b j x rs rt imm at e l =
      let size : j + 2 ≡ length (items_of p b) = ap (λ (n : ℕ). n + 2) (sym (same_pred j l.m l.before_)) ∙ l.size in
      let t : (t : ℕ) × (x.fix ≡ Block t) = fit.last_names b j rs rt imm x at e size in
      elim e as (λ z. MayFollow p b (b + 1)) [
        | inl g ↦ fallen_eq t.0 rs rt imm x (holds_at p b j x at) g t.1
        | inr g ↦ fallen_ne t.0 rs rt imm x (holds_at p b j x at) g t.1
      ]

  two_more : (more : List Item) (j n : ℕ) → n ≡ suc j + 1 + length more → j + 3 < n → (x : Item) × ((y : Item) × ((ys : List Item) × (more ≡ x ∷ y ∷ ys)))
  two_more [] j n e g = absurd (omega arith)
  two_more (x ∷ []) j n e g = absurd (omega arith)
  two_more (x ∷ y ∷ ys) j n e g = (x, (y, (ys, refl)))

  branch_jumps : (x : Instr) (rs rt imm : ℕ) → (x ≡ Beq rs rt imm) ⊎ (x ≡ Bne rs rt imm) → is_jump x ≡ true
  branch_jumps x rs rt imm (inl e) = rw e refl
  branch_jumps x rs rt imm (inr e) = rw e refl

  no_block : (g : Fix) → Type 0
  no_block g = (t : ℕ) → g ≡ Block t → ⊥

  -- behind a branch that goes over an item
  over_goes : (b j : ℕ) (i : Item) (more : List Item) (d : Data) (own : Way) (x : Item) (rs rt imm : ℕ) → Here p b (suc j) i more d → ItemAt (items_of p b) j x → (x.instr ≡ Beq rs rt imm) ⊎ (x.instr ≡ Bne rs rt imm) → ((t : ℕ) → x.fix ≡ Block t → ⊥) → Goes p b (suc j) own more Over
  over_goes b j i more d own x rs rt imm h at e n = elim (f.only_at_the_end b j x at (branch_jumps x.instr rs rt imm e)) as (λ z. Goes p b (suc j) own more Over) [
    | inl s ↦ let t : (x : Item) × ((y : Item) × ((ys : List Item) × (more ≡ x ∷ y ∷ ys))) = two_more more j (length (items_of p b)) (drop_long (items_of p b) (suc j) i more h.rest) (f.goes_on_behind_skips b j s) in
        skips j refl s t.0 t.1.0 t.1.1.0 t.1.1.1
    | inr g ↦ let t : (t : ℕ) × (x.fix ≡ Block t) = fit.last_names b j rs rt imm x at e g in absurd (n t.0 t.1)
  ]

  -- behind a branch that is taken
  taken_goes : (b j : ℕ) (i : Item) (more : List Item) (d : Data) (own : Way) (x : Item) (rs rt imm : ℕ) → Here p b (suc j) i more d → ItemAt (items_of p b) j x → (x.instr ≡ Beq rs rt imm) ⊎ (x.instr ≡ Bne rs rt imm) → (g : Fix) → x.fix ≡ g → Goes p b (suc j) own more (branch_way g)
  taken_goes b j i more d own x rs rt imm h at (inl e) (Block t) k = leads t (branched_eq t rs rt imm x (holds_at p b j x at) e k)
  taken_goes b j i more d own x rs rt imm h at (inr e) (Block t) k = leads t (branched_ne t rs rt imm x (holds_at p b j x at) e k)
  taken_goes b j i more d own x rs rt imm h at e Plain k = over_goes b j i more d own x rs rt imm h at e (λ t g. other t (sym k ∙ g))
    where
      other : (t : ℕ) → Plain ≡ Block t → ⊥
      other t g = cc
  taken_goes b j i more d own x rs rt imm h at e (Function t) k = over_goes b j i more d own x rs rt imm h at e (λ u g. other u (sym k ∙ g))
    where
      other : (u : ℕ) → Function t ≡ Block u → ⊥
      other u g = cc
  taken_goes b j i more d own x rs rt imm h at e ReturnHigh k = over_goes b j i more d own x rs rt imm h at e (λ t g. other t (sym k ∙ g))
    where
      other : (t : ℕ) → ReturnHigh ≡ Block t → ⊥
      other t g = cc
  taken_goes b j i more d own x rs rt imm h at e ReturnLow k = over_goes b j i more d own x rs rt imm h at e (λ t g. other t (sym k ∙ g))
    where
      other : (t : ℕ) → ReturnLow ≡ Block t → ⊥
      other t g = cc

  -- behind an item with no way of its own
  quiet_goes : (b j : ℕ) (i : Item) (more : List Item) (d : Data) (own : Way) (x : Item) → own ≡ way_of p i d i.instr → Here p b (suc j) i more d → ItemAt (items_of p b) j x → is_jump x.instr ≡ false → Goes p b (suc j) own more Onward
  quiet_goes b j i more d own x e h at q = plain_goes b (suc j) i more d own e h
      (λ l. absurd (no_truth (sym q ∙ (ap (λ (y : Item). is_jump y.instr) (sym (same_item (items_of p b) j l.item x (subst (λ (n : ℕ). ItemAt (items_of p b) n l.item) (same_pred j l.m l.before_) l.at_) at)) ∙ l.jumps))))

  fits : (b j : ℕ) (x : Item) → ItemAt (items_of p b) j x → FieldFits x.fix x.instr
  fits b j x at = All-contains (λ (y : Item). FieldFits y.fix y.instr) (items_of p b) x (f.fields_fit b) (holds_at p b j x at)

  entry_there : (b j g : ℕ) (x : Item) → ItemAt (items_of p b) j x → x.fix ≡ Function g → slice_get p.entries g ≡ Some (slice_index p.entries g)
  entry_there b j g x at e = slice_get-get_or p.entries g 0 (subst (λ (y : Fix). NamesThere p y) e (All-contains (λ (y : Item). NamesThere p y.fix) (items_of p b) x (f.named_there b) (holds_at p b j x at)))

  by_item : (b j : ℕ) (i : Item) (more : List Item) (d : Data) (own : Way) (x : Item) (e : Data) → own ≡ way_of p i d i.instr → Here p b (suc j) i more d → ItemAt (items_of p b) j x → Returns p b x.instr e → (k : Instr) → x.instr ≡ k → Goes p b (suc j) own more (way_of p x e k)
  by_item b j i more d own x e w h at r (J target) q =
      let t : (t : ℕ) × (x.fix ≡ Block t) = field_j x.fix target (subst (λ (y : Instr). FieldFits x.fix y) q (fits b j x at)) in
      subst (λ (y : Fix). Goes p b (suc j) own more (To (named p y))) (sym t.1) (leads t.0 (jumped t.0 target x (holds_at p b j x at) q t.1))
  by_item b j i more d own x e w h at r (Jal target) q =
      let t : (g : ℕ) × (x.fix ≡ Function g) = field_jal x.fix target (subst (λ (y : Instr). FieldFits x.fix y) q (fits b j x at)) in
      let c : CallsFunction p b t.0 = record { item = x; target = target; holds = holds_at p b j x at; jumps = q; names = t.1 } in
      subst (λ (y : Fix). Goes p b (suc j) own more (To (named p y))) (sym t.1) (leads (slice_index p.entries t.0) (called t.0 (slice_index p.entries t.0) c (entry_there b j t.0 x at t.1)))
  by_item b j i more d own x e w h at r (Jr rs) q =
      let k : Returns p b (Jr rs) e = subst (λ (y : Instr). Returns p b y e) q r in
      leads (held e rs) k.1
  by_item b j i more d own x e w h at r (Beq u v m) q = by_test (held e u == held e v)
    where
      by_test : (z : Bool) → Goes p b (suc j) own more (if z then branch_way x.fix else Onward)
      by_test true = taken_goes b j i more d own x u v m h at (inl q) x.fix refl
      by_test false = plain_goes b (suc j) i more d own w h (not_taken b j x u v m at (inl q))
  by_item b j i more d own x e w h at r (Bne u v m) q = by_test (held e u == held e v)
    where
      by_test : (z : Bool) → Goes p b (suc j) own more (if z then Onward else branch_way x.fix)
      by_test true = plain_goes b (suc j) i more d own w h (not_taken b j x u v m at (inr q))
      by_test false = taken_goes b j i more d own x u v m h at (inr q) x.fix refl
  by_item b j i more d own x e w h at r _ q = quiet_goes b j i more d own x w h at (ap (λ (y : Instr). is_jump y) q)

  -- wherever it stands
  goes : (b k : ℕ) (i : Item) (more : List Item) (d : Data) (w : Way) → Here p b k i more d → Came p b k w → Goes p b k (way_of p i d i.instr) more w
  goes b k i more d w h starts = plain_goes b 0 i more d (way_of p i d i.instr) refl h (λ l. absurd (no_suc l.m l.before_))
    where
      no_suc : (m : ℕ) → 0 ≡ suc m → ⊥
      no_suc m e = omega arith
  goes b k i more d w h (behind j x e at r) = by_item b j i more d (way_of p i d i.instr) x e refl h at r x.instr refl
  goes b k i more d w h (skipped j s) = plain_goes b (j + 3) i more d (way_of p i d i.instr) refl h
      (λ l. absurd (no_truth (ap (λ (y : Instr). is_jump y) (sym s.is_break) ∙ (ap (λ (y : Item). is_jump y.instr) (sym (same_item (items_of p b) (j + 2) l.item s.skipped (subst (λ (n : ℕ). ItemAt (items_of p b) n l.item) (two_on j l.m l.before_) l.at_) s.behind)) ∙ l.jumps))))
    where
      two_on : (j m : ℕ) → j + 3 ≡ suc m → m ≡ j + 2
      two_on j m e = omega arith

  -- and where it stands next
  three_on : (j : ℕ) → suc (suc (suc j)) ≡ j + 3
  three_on j = omega arith

  stands_next : (b k : ℕ) (i : Item) (more : List Item) (d e : Data) (w : Way) → Here p b k i more d → Returns p b i.instr d → Goes p b k (way_of p i d i.instr) more w → Stands p (arrived p w (way_of p i d i.instr) b more e)
  stands_next b k i more d e z h r (onward x xs q) =
      subst (λ (m : List Item). Stands p (before p b m (way_of p i d i.instr) e)) (sym q)
      (record { place = suc k; rest = sym (drop_more (items_of p b) k i more h.rest ∙ q); there = h.there; came = behind k i d (drop_item (items_of p b) k i more h.rest) r })
  stands_next b k i more d e z h r (falls q o m) =
      subst (λ (l : List Item). Stands p (before p b l (way_of p i d i.instr) e)) (sym q)
      (record { place = 0; rest = refl; there = follower_there p b (b + 1) f m; came = subst (λ (w : Way). Came p (b + 1) 0 w) (sym o) starts })
  stands_next b k i more d e z h r (skips j g s x y ys q) =
      subst (λ (l : List Item). Stands p (before p b (tail l) Onward e)) (sym q)
      (record { place = j + 3; rest = sym (subst (λ (n : ℕ). drop n (items_of p b) ≡ y ∷ ys) (ap suc (ap suc g) ∙ three_on j) (drop_more (items_of p b) (suc k) x (y ∷ ys) (drop_more (items_of p b) k i more h.rest ∙ q))); there = h.there; came = skipped j s })
  stands_next b k i more d e z h r (leads t m) = record { place = 0; rest = refl; there = follower_there p b t f m; came = starts }

  -- One step.

  here_of : (b k : ℕ) (i : Item) (more : List Item) (d : Data) → i ∷ more ≡ drop k (items_of p b) → b < length p.blocks → (perform (item_act b i d) (machine_of d)).0.end ≡ None → Here p b k i more d
  here_of b k i more d e t o = record { rest = sym e; there = t; goes_on = o }

  settled_stands : (b k : ℕ) (i : Item) (more : List Item) (w : Way) (d : Data) (r : State × Option ℕ) (o : Option End) → r.0.end ≡ o → (r.0.end ≡ None → Here p b k i more d) → Came p b k w → Returns p b i.instr d → (settled p (at_rest b (i ∷ more) w d) i more (item_act b i d) r o).0.end ≡ None → Stands p (settled p (at_rest b (i ∷ more) w d) i more (item_act b i d) r o).0
  settled_stands b k i more w d r (Some e) q h c ret open_ = absurd (some_none e open_)
  settled_stands b k i more w d r None q h c ret open_ = stands_next b k i more d (data_after i (item_act b i d) d r.0) w (h q) ret (goes b k i more d w (h q) c)

  some_item : (b : ℕ) (rest : List Item) (d : Data) → LawfulNext p b rest d → (i : Item) × ((more : List Item) × (rest ≡ i ∷ more))
  some_item b [] d l = absurd l
  some_item b (i ∷ more) d l = (i, (more, refl))

  open_spot : (h : Spot) → h.end ≡ None → h ≡ at_rest h.block h.rest h.way h.now
  open_spot h e = ap (λ (x : Option End). let z : Spot = record { block = h.block; rest = h.rest; way = h.way; now = h.now; end = x } in z) e

  step_at : (b k : ℕ) (rest : List Item) (w : Way) (d : Data) → rest ≡ drop k (items_of p b) → b < length p.blocks → Came p b k w → LawfulNext p b rest d → ((items p).step (at_rest b rest w d)).0.end ≡ None → Stands p ((items p).step (at_rest b rest w d)).0
  step_at b k [] w d e t c l o = absurd l
  step_at b k (i ∷ more) w d e t c l o = settled_stands b k i more w d (perform (item_act b i d) (machine_of d)) (perform (item_act b i d) (machine_of d)).0.end refl (λ q. here_of b k i more d e t q) c l.returns o

  step_stands : (s : Spot) → Stands p s → s.end ≡ None → LawfulAt p s → ((items p).step s).0.end ≡ None → Stands p ((items p).step s).0
  step_stands s k e l o =
      let same : s ≡ at_rest s.block s.rest s.way s.now = open_spot s e in
      subst (λ (x : Spot). Stands p ((items p).step x).0) (sym same) (step_at s.block k.place s.rest s.way s.now k.rest k.there k.came l (ap (λ (x : Spot). ((items p).step x).0.end) (sym same) ∙ o))

  stood : (s : Spot) (e : End) → s.end ≡ Some e → ((items p).step s).0.end ≡ None → ⊥
  stood s e h k = some_none e (sym (ap (λ (x : Spot × Option ℕ). x.0.end) still ∙ h) ∙ k)
    where
      still : (items p).step s ≡ (s, None)
      still = rw h refl

  open_before : (s : Spot) (o : Option End) → s.end ≡ o → ((items p).step s).0.end ≡ None → s.end ≡ None
  open_before s None e h = e
  open_before s (Some x) e h = absurd (stood s x e h)

  run_stands : (start : Spot) → Stands p start → Always (items p) start (LawfulAt p) → (n : ℕ) → (go (items p) start n).state.end ≡ None → Stands p (go (items p) start n).state
  run_stands start k l zero e = k
  run_stands start k l (suc n) e =
      let s : Spot = (go (items p) start n).state in
      let o : s.end ≡ None = open_before s s.end refl e in
      step_stands s (run_stands start k l n o) o (l n o) e

  orderly_at : (b k : ℕ) (rest : List Item) (w : Way) (d : Data) → rest ≡ drop k (items_of p b) → b < length p.blocks → Came p b k w → LawfulNext p b rest d → OrderlyNext p b w rest d
  orderly_at b k [] w d e t c l = l
  orderly_at b k (i ∷ more) w d e t c l = (
    fit.spares b k i (drop_item (items_of p b) k i more (sym e)),
    λ o. goes_legal p b k (way_of p i d i.instr) w more (goes b k i more d w (here_of b k i more d e t o) c),
  )

  pub orderly : (input : List ℕ) → Always (items p) (first_spot p input) (LawfulAt p) → Always (items p) (first_spot p input) (OrderlyAt p)
  orderly input l n e =
      let s : Spot = (go (items p) (first_spot p input) n).state in
      let first : Stands p (first_spot p input) = record { place = 0; rest = refl; there = f.has_block; came = starts } in
      let k : Stands p s = run_stands (first_spot p input) first l n e in
      orderly_at s.block k.place s.rest s.way s.now k.rest k.there k.came (l n e)
