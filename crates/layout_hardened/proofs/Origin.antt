-- The words of a program that is laid out, read back: which item each jump of the text is of, and where it leads.
use Rattle.std.proofs.Common.{◌≡◌, ◌≢◌, ◌≤◌, ℕ, zero, suc, ◌+◌, ◌-◌, ◌*◌, ◌<◌, arith, rules, ap, refl, sym, ◌∙◌, subst, List, [], ◌∷◌, ◌++◌, length, false, true, Bool, inl, inr}
use Rattle.std.specs.Prelude.{Option, Some, None, ◌⊎◌, slice_get, slice_index, if◌then◌else◌, All}
use Rattle.std.proofs.lemmas.List.Elements.{All-contains}
use Rattle.std.proofs.lemmas.Option.{slice_get-get_or, slice_get_within, get_or_from_slice_get}
use Rattle.mips_isa.specs.declared.instr.Instr.{Instr}
use Rattle.mips_isa.specs.declared.instr.Instr.TheVariants.{Sll, Xori, Xor, J, Jal, Jr, Beq, Bne, Break, Lui, Ori}
use Rattle.mips_isa.specs.Machine.{is_jump}
use Rattle.mips_text.specs.Text.{InText, At, BranchAt, SkipsBreak as TextSkips, branch_goal, jump_goal}
use Rattle.mips_text.specs.Blocks.{ForkAt}
use Rattle.lint_theorem.proofs.Ground.{same_instr, in_text, no_truth}
use Rattle.hard_items.specs.declared.code.Class.TheVariants.{Head}
use Rattle.hard_items.specs.declared.code.Fix.{Fix}
use Rattle.hard_items.specs.declared.code.Fix.TheVariants.{Plain, Block, Function, ReturnHigh, ReturnLow}
use Rattle.hard_items.specs.declared.code.Item.{Item}
use Rattle.hard_items.specs.declared.code.HardProgram.{HardProgram}
use Rattle.hard_items.specs.declared.code.Mark.{Mark}
use Rattle.hard_items.specs.declared.code.Signed.{Signed}
use Rattle.hard_items.specs.Streams.{nop, plain}
use Rattle.hard_items.specs.Run.{items_of}
use Rattle.hard_items.specs.Ways.{Holds}
use Rattle.hard_items.specs.WellFormed.{WellFormed, ItemAt, SkipsBreak, NamesThere, FieldFits}
use Rattle.hard_items.specs.Heads.{headed, head_items}
use Rattle.signature_assign.specs.Headed.{mark_at, BlocksFit}
use Rattle.layout_hardened.specs.LaidOut.{IsFilled, as_is, jump, branch_eq, branch_ne, call, high, low, Stands, IsLaidOut}
use Rattle.signature_assign.proofs.Head.{headed_items}
use Rattle.layout_hardened.proofs.Places.{less_or, ItemOf, item_of}

some_same : (i j : Item) → Some i ≡ Some j → i ≡ j
some_same i j e = cc

nothing_some : (i : Item) → None ≡ Some i → ⊥
nothing_some i e = cc

-- An item of a head.

pub record HeadItem (k : ℕ) (i : Item) : Type 0 where
  pub no_field : i.fix ≡ Plain
  pub jump_is : is_jump i.instr ≡ true → (k ≡ 4) × (i.instr ≡ Beq 24 1 2)

no_jump : (k : ℕ) (i : Item) (x : Instr) → plain x Head ≡ i → is_jump x ≡ false → HeadItem k i
no_jump k i x e f = record {
  no_field = ap (λ (y : Item). y.fix) (sym e);
  jump_is = λ g. absurd (no_truth (sym f ∙ (ap (λ (y : Item). is_jump y.instr) e ∙ g)));
}

second_quiet : (fan : Bool) → is_jump (if fan then Xor 24 24 28 else nop) ≡ false
second_quiet true = refl
second_quiet false = refl

pub head_item : (m : Mark) (k : ℕ) (i : Item) → slice_get (head_items m) k ≡ Some i → HeadItem k i
head_item m zero i e = no_jump 0 i (Xori 24 24 m.d) (some_same (plain (Xori 24 24 m.d) Head) i e) refl
head_item m (suc zero) i e = no_jump 1 i (if m.fan then Xor 24 24 28 else nop) (some_same (plain (if m.fan then Xor 24 24 28 else nop) Head) i e) (second_quiet m.fan)
head_item m (suc (suc zero)) i e = no_jump 2 i (Ori 1 0 m.s) (some_same (plain (Ori 1 0 m.s) Head) i e) refl
head_item m (suc (suc (suc zero))) i e = no_jump 3 i (Ori 28 0 m.adjust) (some_same (plain (Ori 28 0 m.adjust) Head) i e) refl
head_item m (suc (suc (suc (suc zero)))) i e =
    let same : plain (Beq 24 1 2) Head ≡ i = some_same (plain (Beq 24 1 2) Head) i e in
    record { no_field = ap (λ (y : Item). y.fix) (sym same); jump_is = λ g. (refl, ap (λ (y : Item). y.instr) (sym same)) }
head_item m (suc (suc (suc (suc (suc zero))))) i e = no_jump 5 i nop (some_same (plain nop Head) i e) refl
head_item m (suc (suc (suc (suc (suc (suc zero)))))) i e = no_jump 6 i (Break 2) (some_same (plain (Break 2) Head) i e) refl
head_item m (suc (suc (suc (suc (suc (suc (suc k))))))) i e = absurd (nothing_some i e)

-- A word of a block is one of its head, or one of its items.
pub data Part (m : Mark) (xs : List Item) (k : ℕ) (i : Item) : Type 0 where
  in_head : slice_get (head_items m) k ≡ Some i → Part m xs k i
  in_block : (j : ℕ) → k ≡ 7 + j → slice_get xs j ≡ Some i → Part m xs k i

part : (m : Mark) (xs : List Item) (k : ℕ) (i : Item) → slice_get (head_items m ++ xs) k ≡ Some i → Part m xs k i
part m xs zero i e = in_head e
part m xs (suc zero) i e = in_head e
part m xs (suc (suc zero)) i e = in_head e
part m xs (suc (suc (suc zero))) i e = in_head e
part m xs (suc (suc (suc (suc zero)))) i e = in_head e
part m xs (suc (suc (suc (suc (suc zero))))) i e = in_head e
part m xs (suc (suc (suc (suc (suc (suc zero)))))) i e = in_head e
part m xs (suc (suc (suc (suc (suc (suc (suc k))))))) i e = in_block k (seven_more k) e
  where
    seven_more : (k : ℕ) → suc (suc (suc (suc (suc (suc (suc k)))))) ≡ 7 + k
    seven_more k = omega arith

-- A field that is filled in tells what the item was.

pub filled_plain : (p : HardProgram) (place : ℕ → ℕ) (b at : ℕ) (i : Item) (x : Instr) → IsFilled p place b at i x → i.fix ≡ Plain → x ≡ i.instr
filled_plain p place b at i x (as_is e f) g = f
filled_plain p place b at i x (jump t z target e f h k) g = absurd (cc)
filled_plain p place b at i x (branch_eq t rs rt z imm e f h k) g = absurd (cc)
filled_plain p place b at i x (branch_ne t rs rt z imm e f h k) g = absurd (cc)
filled_plain p place b at i x (call t z target e f h k) g = absurd (cc)
filled_plain p place b at i x (high rt z e f h) g = absurd (cc)
filled_plain p place b at i x (low rt rs z e f h) g = absurd (cc)

filled_jumps : (p : HardProgram) (place : ℕ → ℕ) (b at : ℕ) (i : Item) (x : Instr) → IsFilled p place b at i x → is_jump x ≡ true → is_jump i.instr ≡ true
filled_jumps p place b at i x (as_is e f) g = ap (λ (y : Instr). is_jump y) (sym f) ∙ g
filled_jumps p place b at i x (jump t z target e f h k) g = ap (λ (y : Instr). is_jump y) f
filled_jumps p place b at i x (branch_eq t rs rt z imm e f h k) g = ap (λ (y : Instr). is_jump y) f
filled_jumps p place b at i x (branch_ne t rs rt z imm e f h k) g = ap (λ (y : Instr). is_jump y) f
filled_jumps p place b at i x (call t z target e f h k) g = ap (λ (y : Instr). is_jump y) f
filled_jumps p place b at i x (high rt z e f h) g = absurd (no_truth (ap (λ (y : Instr). is_jump y) (sym h) ∙ g))
filled_jumps p place b at i x (low rt rs z e f h) g = absurd (no_truth (ap (λ (y : Instr). is_jump y) (sym h) ∙ g))

module _ (s : Signed) (text : List ℕ) (place : ℕ → ℕ) (l : IsLaidOut s text place) (one_each : length s.marks ≡ length s.program.blocks) (f : WellFormed s.program) (fit : BlocksFit s.program) where
  abbrev pub p : HardProgram
  p = s.program

  -- An item of a block, and its word.
  pub record Spot (a : ℕ) (x : Instr) : Type 0 where
    pub b : ℕ
    pub j : ℕ
    pub item : Item
    pub there : b < length p.blocks
    pub stands : ItemAt (items_of p b) j item
    pub at : a ≡ place b + 28 + 4 * j
    pub filled : IsFilled p place b a item x

  pub data Origin (a : ℕ) (x : Instr) : Type 0 where
    of_head : (b k : ℕ) (i : Item) → b < length p.blocks → a ≡ place b + 4 * k → slice_get (head_items (mark_at s b)) k ≡ Some i → x ≡ i.instr → Origin a x
    of_item : Spot a x → Origin a x

  pub origin : (a : ℕ) (x : Instr) → At text a x → Origin a x
  origin a x at =
      let o : ItemOf s text place l one_each a = item_of s text place l one_each a (in_text text a x at) in
      let w : Stands text p place o.b (place o.b + 4 * o.k) o.item = l.word o.b o.k o.item o.there o.stands in
      let same : w.instr ≡ x = same_instr text a w.instr x (subst (λ (c : ℕ). At text c w.instr) (sym o.at) w.word) at in
      let filled : IsFilled p place o.b a o.item x = subst (λ (c : ℕ). IsFilled p place o.b c o.item x) (sym o.at) (subst (λ (y : Instr). IsFilled p place o.b (place o.b + 4 * o.k) o.item y) same w.filled) in
      by_part o filled (part (mark_at s o.b) (items_of p o.b) o.k o.item (subst (λ (xs : List Item). slice_get xs o.k ≡ Some o.item) (headed_items s o.b one_each o.there) o.stands))
    where
      move : (c q k j : ℕ) → c ≡ q + 4 * k → k ≡ 7 + j → c ≡ q + 28 + 4 * j
      move c q k j e g = omega arith

      by_part : (o : ItemOf s text place l one_each a) → IsFilled p place o.b a o.item x → Part (mark_at s o.b) (items_of p o.b) o.k o.item → Origin a x
      by_part o filled (in_head e) = of_head o.b o.k o.item o.there o.at e (filled_plain p place o.b a o.item x filled (head_item (mark_at s o.b) o.k o.item e).no_field)
      by_part o filled (in_block j e g) = of_item (record { b = o.b; j = j; item = o.item; there = o.there; stands = g; at = move a (place o.b) o.k j o.at e; filled = filled })

  -- The words of blocks.

  pub word_at : (b j : ℕ) (i : Item) → b < length p.blocks → ItemAt (items_of p b) j i → Stands text p place b (place b + 28 + 4 * j) i
  word_at b j i h e = subst (λ (c : ℕ). Stands text p place b c i) (seven (place b))
      (l.word b (suc (suc (suc (suc (suc (suc (suc j))))))) i h (subst (λ (xs : List Item). slice_get xs (suc (suc (suc (suc (suc (suc (suc j))))))) ≡ Some i) (sym (headed_items s b one_each h)) e))
    where
      seven : (x : ℕ) → x + 4 * suc (suc (suc (suc (suc (suc (suc j)))))) ≡ x + 28 + 4 * j
      seven x = omega arith

  -- a word of a head, by its place in it
  pub head_word : (b k : ℕ) (x : Instr) → b < length p.blocks → ((xs : List Item) → slice_get (head_items (mark_at s b) ++ xs) k ≡ Some (plain x Head)) → At text (place b + 4 * k) x
  head_word b k x h e =
      let w : Stands text p place b (place b + 4 * k) (plain x Head) = l.word b k (plain x Head) h (subst (λ (xs : List Item). slice_get xs k ≡ Some (plain x Head)) (sym (headed_items s b one_each h)) (e (items_of p b))) in
      subst (λ (y : Instr). At text (place b + 4 * k) y) (filled_plain p place b (place b + 4 * k) (plain x Head) w.instr w.filled refl) w.word

  pub fields_fit : (b j : ℕ) (i : Item) → ItemAt (items_of p b) j i → FieldFits i.fix i.instr
  fields_fit b j i e = All-contains (λ (y : Item). FieldFits y.fix y.instr) (items_of p b) i (f.fields_fit b) (j, slice_get_within (items_of p b) j i e, get_or_from_slice_get (items_of p b) j i i e)

  pub names_there : (b j : ℕ) (i : Item) → ItemAt (items_of p b) j i → NamesThere p i.fix
  names_there b j i e = All-contains (λ (y : Item). NamesThere p y.fix) (items_of p b) i (f.named_there b) (j, slice_get_within (items_of p b) j i e, get_or_from_slice_get (items_of p b) j i i e)

  -- the block behind one
  pub behind_last : (b j : ℕ) → b < length p.blocks → j + 2 ≡ length (items_of p b) → place b + 28 + 4 * j + 8 ≡ place (b + 1)
  behind_last b j h e = sym (l.next b h ∙ (ap (λ (n : ℕ). place b + 4 * n) (ap length (headed_items s b one_each h)) ∙ sum (place b) (length (items_of p b)) e))
    where
      sum : (x n : ℕ) → j + 2 ≡ n → x + 4 * suc (suc (suc (suc (suc (suc (suc n)))))) ≡ x + 28 + 4 * j + 8
      sum x n e = omega arith

  -- A branch or a jump of the text.

  pub data JumpAt (a : ℕ) (x : Instr) : Type 0 where
    own : (b : ℕ) → b < length p.blocks → a ≡ place b + 16 → x ≡ Beq 24 1 2 → JumpAt a x
    inner : (o : Spot a x) → SkipsBreak (items_of p o.b) o.j → JumpAt a x
    closing : (o : Spot a x) → o.j + 2 ≡ length (items_of p o.b) → JumpAt a x

  pub jump_at : (a : ℕ) (x : Instr) → At text a x → is_jump x ≡ true → JumpAt a x
  jump_at a x at g = by_origin (origin a x at)
    where
      sixteen : (q k : ℕ) → a ≡ q + 4 * k → k ≡ 4 → a ≡ q + 16
      sixteen q k e h = omega arith

      by_origin : Origin a x → JumpAt a x
      by_origin (of_head b k i h e q r) =
          let j : (k ≡ 4) × (i.instr ≡ Beq 24 1 2) = (head_item (mark_at s b) k i q).jump_is (ap (λ (y : Instr). is_jump y) (sym r) ∙ g) in
          own b h (sixteen (place b) k e j.0) (r ∙ j.1)
      by_origin (of_item o) = elim (f.only_at_the_end o.b o.j o.item o.stands (filled_jumps p place o.b a o.item x o.filled g)) as (λ z. JumpAt a x) [
        | inl e ↦ inner o e
        | inr e ↦ closing o e
      ]

  pub same_item : (b j : ℕ) (i k : Item) → ItemAt (items_of p b) j i → ItemAt (items_of p b) j k → i ≡ k
  same_item b j i k e g = some_same i k (sym e ∙ g)

  field_break : (g : Fix) (code : ℕ) → FieldFits g (Break code) → g ≡ Plain
  field_break Plain code h = refl
  field_break (Block t) code h = absurd h
  field_break (Function t) code h = absurd h
  field_break ReturnHigh code h = absurd h
  field_break ReturnLow code h = absurd h

  -- the skips of a block are skips of the text
  pub own_skips : (a b : ℕ) → b < length p.blocks → a ≡ place b + 16 → TextSkips text a 2
  own_skips a b h e = record {
    x = 24;
    y = 1;
    branch = record { instr = Beq 24 1 2; at = subst (λ (c : ℕ). At text c (Beq 24 1 2)) (sym e) (head_word b 4 (Beq 24 1 2) h (λ xs. refl)); is = inl refl };
    stop = subst (λ (c : ℕ). At text c (Break 2)) (sum (place b) e) (head_word b 6 (Break 2) h (λ xs. refl));
  }
    where
      sum : (q : ℕ) → a ≡ q + 16 → q + 24 ≡ a + 8
      sum q e = omega arith

  pub inner_skips : (a : ℕ) (x : Instr) → At text a x → (o : Spot a x) → (k : SkipsBreak (items_of p o.b) o.j) → TextSkips text a k.code
  inner_skips a x at o k =
      let same : k.branch ≡ o.item = same_item o.b o.j k.branch o.item k.stands o.stands in
      let is : x ≡ k.branch.instr = filled_plain p place o.b a o.item x o.filled (ap (λ (y : Item). y.fix) (sym same) ∙ k.no_field) ∙ ap (λ (y : Item). y.instr) (sym same) in
      let w : Stands text p place o.b (place o.b + 28 + 4 * (o.j + 2)) k.skipped = word_at o.b (o.j + 2) k.skipped o.there k.behind in
      let plain_field : k.skipped.fix ≡ Plain = field_break k.skipped.fix k.code (subst (λ (y : Instr). FieldFits k.skipped.fix y) k.is_break (fields_fit o.b (o.j + 2) k.skipped k.behind)) in
      let stop : At text (place o.b + 28 + 4 * (o.j + 2)) (Break k.code) = subst (λ (y : Instr). At text (place o.b + 28 + 4 * (o.j + 2)) y) (filled_plain p place o.b (place o.b + 28 + 4 * (o.j + 2)) k.skipped w.instr w.filled plain_field ∙ k.is_break) w.word in
      record {
        x = k.rs;
        y = k.rt;
        branch = record { instr = x; at = at; is = elim k.conditional as (λ z. (x ≡ Beq k.rs k.rt 2) ⊎ (x ≡ Bne k.rs k.rt 2)) [ inl e ↦ inl (is ∙ e) | inr e ↦ inr (is ∙ e) ] };
        stop = subst (λ (c : ℕ). At text c (Break k.code)) (sum (place o.b) o.j o.at) stop;
      }
    where
      sum : (q j : ℕ) → a ≡ q + 28 + 4 * j → q + 28 + 4 * (j + 2) ≡ a + 8
      sum q j e = omega arith

  -- a branch that closes a block with another block behind it skips nothing
  pub closing_skips_none : (a b j code : ℕ) → a ≡ place b + 28 + 4 * j → b < length p.blocks → j + 2 ≡ length (items_of p b) → b + 1 < length p.blocks → TextSkips text a code → ⊥
  closing_skips_none a b j code e h last next k =
      let first : At text (a + 8) (Xori 24 24 (mark_at s (b + 1)).d) = subst (λ (c : ℕ). At text c (Xori 24 24 (mark_at s (b + 1)).d)) (sym (ap (λ (c : ℕ). c + 8) e ∙ behind_last b j h last)) (subst (λ (c : ℕ). At text c (Xori 24 24 (mark_at s (b + 1)).d)) (nothing (place (b + 1))) (head_word (b + 1) 0 (Xori 24 24 (mark_at s (b + 1)).d) next (λ xs. refl))) in
      differ (mark_at s (b + 1)).d (same_instr text (a + 8) (Break code) (Xori 24 24 (mark_at s (b + 1)).d) k.stop first)
    where
      nothing : (x : ℕ) → x + 4 * 0 ≡ x
      nothing x = omega arith

      differ : (d : ℕ) → Break code ≡ Xori 24 24 d → ⊥
      differ d e = cc
