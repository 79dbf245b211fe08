-- The fields that the layout fills: they are in range, lead where they should, and their words decode to them.
use Rattle.std.proofs.Common.{◌≡◌, ◌≤◌, ◌<◌, ℕ, suc, ◌+◌, ◌-◌, ◌*◌, ◌/◌, ◌%◌, ◌^◌, arith, ap, refl, sym, ◌∙◌, subst, List, [], ◌∷◌, ◌++◌, length, take, Bool, true, false, cond}
use Rattle.std.specs.Prelude.{Option, Some, slice_index, ◌==◌, ◌&&◌, not, nat_le, nat_lt}
use Rattle.std.proofs.lemmas.List.Sums.{sum_by-take-le}
use Rattle.hard_words.specs.Words.{extended}
use Rattle.mips_isa.specs.declared.instr.Instr.{Instr}
use Rattle.mips_isa.specs.declared.instr.Instr.TheVariants.{J, Jal, Jr, Beq, Bne, Lui, Ori}
use Rattle.mips_isa.specs.Table.{encoding, decoded, IsInRange}
use Rattle.mips_isa.specs.Machine.{State, plus, planned, row_act, text_place}
use Rattle.mips_isa.proofs.Inverse.{decodes_encoded}
use Rattle.hard_items.specs.declared.code.Fix.{Fix}
use Rattle.hard_items.specs.declared.code.Fix.TheVariants.{Plain, Block, Function, ReturnHigh, ReturnLow}
use Rattle.hard_items.specs.declared.code.Item.{Item}
use Rattle.hard_items.specs.declared.code.HardBlock.{HardBlock}
use Rattle.hard_items.specs.declared.code.HardProgram.{HardProgram}
use Rattle.hard_items.specs.Run.{items_of, named}
use Rattle.layout_law.specs.Layout.{words, address, offset, Reaches, filled, text}
use Rattle.layout_law.specs.Level.{Lines, ItemFits, FieldReaches, Layable}
use Rattle.layout_law.proofs.Texts.{WordAt, word_at, address_next}

-- ---- addresses

pub not_below : (p : HardProgram) (b : ℕ) → 0x00400000 ≤ address p b
not_below p b = least (words (take b p.blocks))
  where
    least : (n : ℕ) → 0x00400000 ≤ 0x00400000 + 4 * n
    least n = omega arith

pub not_above : (p : HardProgram) (b : ℕ) → words p.blocks ≤ 66060288 → address p b ≤ 2 ^ 28
not_above p b h = bound (words (take b p.blocks)) (words p.blocks) (sum_by-take-le (λ (k : HardBlock). length k.items) p.blocks b) h
  where
    bound : (w n : ℕ) → w ≤ n → n ≤ 66060288 → 0x00400000 + 4 * w ≤ 2 ^ 28
    bound w n h k = omega arith

-- A block of some items.
some_items : (p : HardProgram) (slot : Bool) (items : List Item) → Lines p slot items → 0 < length items
some_items p slot [] h = absurd h
some_items p slot (i ∷ more) h = least (length more)
  where
    least : (n : ℕ) → 0 < suc n
    least n = omega arith

pub inside : (p : HardProgram) (b : ℕ) → Layable p → b < length p.blocks → address p b < 2 ^ 28
inside p b l h = less (address p b) (address p (b + 1)) (length (items_of p b)) (address_next p b h) (not_above p (b + 1) l.size) (some_items p false (items_of p b) (l.lines b h))
  where
    less : (a n k : ℕ) → n ≡ a + 4 * k → n ≤ 2 ^ 28 → 0 < k → a < 2 ^ 28
    less a n k e h g = omega arith

-- An address in words.
pub record InWords (a : ℕ) : Type 0 where
  pub words : ℕ
  pub is : a ≡ 0x00400000 + 4 * words

pub in_words : (p : HardProgram) (b : ℕ) → InWords (address p b)
in_words p b = record { words = words (take b p.blocks); is = refl }

-- ---- fields in range

ahead_range : (from to : ℕ) → Reaches from to → (z : Bool) → nat_le from to ≡ z → from ≤ to → cond z ((to - from) / 4) (2 ^ 16 - (from - to) / 4) < 2 ^ 16
ahead_range from to r true e h = more ((to - from) / 4) (r.ahead h)
  where
    more : (n : ℕ) → n < 2 ^ 15 → n < 2 ^ 16
    more n h = omega arith
ahead_range from to r false e h = absurd (grind arith)

-- The two ways of an offset.
pub data Way (from to : ℕ) : Type 0 where
  ahead : (n : ℕ) → to ≡ from + 4 * n → n < 2 ^ 15 → offset from to ≡ n → Way from to
  back : (n : ℕ) → from ≡ to + 4 * n → 0 < n → n ≤ 2 ^ 15 → offset from to ≡ 2 ^ 16 - n → Way from to

way_by : (from to f t : ℕ) → from ≡ 0x00400000 + 4 * f → to ≡ 0x00400000 + 4 * t → Reaches from to → (z : Bool) → nat_le from to ≡ z → Way from to
way_by from to f t ef et r true e = ahead (t - f) (further from to f t ef et (le e)) (subst (λ (z : ℕ). z < 2 ^ 15) (quarter from to f t ef et (le e)) (r.ahead (le e))) (ap (λ (z : Bool). cond z ((to - from) / 4) (2 ^ 16 - (from - to) / 4)) e ∙ quarter from to f t ef et (le e))
  where
    le : nat_le from to ≡ true → from ≤ to
    le e = grind arith

    further : (from to f t : ℕ) → from ≡ 0x00400000 + 4 * f → to ≡ 0x00400000 + 4 * t → from ≤ to → to ≡ from + 4 * (t - f)
    further from to f t ef et h = omega arith

    quarter : (from to f t : ℕ) → from ≡ 0x00400000 + 4 * f → to ≡ 0x00400000 + 4 * t → from ≤ to → (to - from) / 4 ≡ t - f
    quarter from to f t ef et h = omega arith
way_by from to f t ef et r false e = back (f - t) (further from to f t ef et (gt e)) (some from to f t ef et (gt e)) (subst (λ (z : ℕ). z ≤ 2 ^ 15) (quarter from to f t ef et (gt e)) (r.back (less (gt e)))) (ap (λ (z : Bool). cond z ((to - from) / 4) (2 ^ 16 - (from - to) / 4)) e ∙ ap (λ (z : ℕ). 2 ^ 16 - z) (quarter from to f t ef et (gt e)))
  where
    gt : nat_le from to ≡ false → to < from
    gt e = grind arith

    less : to < from → to ≤ from
    less h = omega arith

    further : (from to f t : ℕ) → from ≡ 0x00400000 + 4 * f → to ≡ 0x00400000 + 4 * t → to < from → from ≡ to + 4 * (f - t)
    further from to f t ef et h = omega arith

    some : (from to f t : ℕ) → from ≡ 0x00400000 + 4 * f → to ≡ 0x00400000 + 4 * t → to < from → 0 < f - t
    some from to f t ef et h = omega arith

    quarter : (from to f t : ℕ) → from ≡ 0x00400000 + 4 * f → to ≡ 0x00400000 + 4 * t → to < from → (from - to) / 4 ≡ f - t
    quarter from to f t ef et h = omega arith

pub way : (from to : ℕ) → InWords from → InWords to → Reaches from to → Way from to
way from to f t r = way_by from to f.words t.words f.is t.is r (nat_le from to) refl

pub offset_fits : (from to : ℕ) → Way from to → offset from to < 2 ^ 16
offset_fits from to (ahead n e h o) = subst (λ (z : ℕ). z < 2 ^ 16) (sym o) (more n h)
  where
    more : (n : ℕ) → n < 2 ^ 15 → n < 2 ^ 16
    more n h = omega arith
offset_fits from to (back n e h k o) = subst (λ (z : ℕ). z < 2 ^ 16) (sym o) (less n h)
  where
    less : (n : ℕ) → 0 < n → 2 ^ 16 - n < 2 ^ 16
    less n h = omega arith

extended_small : (n : ℕ) → n < 2 ^ 15 → extended n ≡ n
extended_small n h = grind arith

extended_large : (n : ℕ) → 0 < n → n ≤ 2 ^ 15 → extended (2 ^ 16 - n) ≡ 2 ^ 32 - n
extended_large n h k = by (nat_lt (2 ^ 16 - n) (2 ^ 15)) refl
  where
    large : (n : ℕ) → n ≤ 2 ^ 15 → 2 ^ 15 ≤ 2 ^ 16 - n
    large n k = omega arith

    sum : (n : ℕ) → 0 < n → n ≤ 2 ^ 15 → 2 ^ 16 - n + (2 ^ 32 - 2 ^ 16) ≡ 2 ^ 32 - n
    sum n h k = omega arith

    no : (m : ℕ) → 2 ^ 15 ≤ m → nat_lt m (2 ^ 15) ≡ true → ⊥
    no m h e = grind arith

    by : (z : Bool) → nat_lt (2 ^ 16 - n) (2 ^ 15) ≡ z → extended (2 ^ 16 - n) ≡ 2 ^ 32 - n
    by true e = absurd (no (2 ^ 16 - n) (large n k) e)
    by false e = ap (λ (z : Bool). cond z (2 ^ 16 - n) (2 ^ 16 - n + (2 ^ 32 - 2 ^ 16))) e ∙ sum n h k

-- A branch with its delay slot at `from` goes to its target.
pub goes : (from to : ℕ) → Way from to → from < 2 ^ 32 → to < 2 ^ 32 → plus from ((extended (offset from to) * 4) % 2 ^ 32) ≡ to
goes from to (ahead n e h o) f t = ap (λ (z : ℕ). plus from ((extended z * 4) % 2 ^ 32)) o ∙ (ap (λ (z : ℕ). plus from ((z * 4) % 2 ^ 32)) (extended_small n h) ∙ sum from to n e h t)
  where
    sum : (from to n : ℕ) → to ≡ from + 4 * n → n < 2 ^ 15 → to < 2 ^ 32 → (from + (n * 4) % 2 ^ 32) % 2 ^ 32 ≡ to
    sum from to n e h t = omega arith
goes from to (back n e g h o) f t = ap (λ (z : ℕ). plus from ((extended z * 4) % 2 ^ 32)) o ∙ (ap (λ (z : ℕ). plus from ((z * 4) % 2 ^ 32)) (extended_large n g h) ∙ sum from to n e g h f)
  where
    sum : (from to n : ℕ) → from ≡ to + 4 * n → 0 < n → n ≤ 2 ^ 15 → from < 2 ^ 32 → (from + ((2 ^ 32 - n) * 4) % 2 ^ 32) % 2 ^ 32 ≡ to
    sum from to n e g h f = omega arith

-- ---- the filled instruction

block_range : (p : HardProgram) (b at t : ℕ) (i : Instr) (more : List Item) → Layable p → InWords (at + 4) → ItemFits p (Block t) i more → FieldReaches p at (Block t) i → IsInRange i → IsInRange (filled p b at (Block t) i)
block_range p b at t (J target) more l w h r e = quarter (address p t) (inside p t l h.0)
  where
    quarter : (a : ℕ) → a < 2 ^ 28 → a / 4 < 2 ^ 26
    quarter a h = omega arith
block_range p b at t (Beq rs rt imm) more l w h r e = (e.0, e.1, offset_fits (at + 4) (address p t) (way (at + 4) (address p t) w (in_words p t) r))
block_range p b at t (Bne rs rt imm) more l w h r e = (e.0, e.1, offset_fits (at + 4) (address p t) (way (at + 4) (address p t) w (in_words p t) r))
block_range p b at t (Jal target) more l w h r e = absurd h
block_range p b at t (Jr rs) more l w h r e = absurd (no h.0)
  where
    no : Block t ≡ Plain → ⊥
    no q = cc
block_range p b at t i more l w h r e = absurd h

function_range : (p : HardProgram) (b at f : ℕ) (i : Instr) (more : List Item) → Layable p → ItemFits p (Function f) i more → IsInRange i → IsInRange (filled p b at (Function f) i)
function_range p b at f (Jal target) more l h e = quarter (address p (named p (Function f))) (inside p (named p (Function f)) l h.0)
  where
    quarter : (a : ℕ) → a < 2 ^ 28 → a / 4 < 2 ^ 26
    quarter a h = omega arith
function_range p b at f (J target) more l h e = absurd h
function_range p b at f (Beq rs rt imm) more l h e = absurd h
function_range p b at f (Bne rs rt imm) more l h e = absurd h
function_range p b at f (Jr rs) more l h e = absurd (no h.0)
  where
    no : Function f ≡ Plain → ⊥
    no q = cc
function_range p b at f i more l h e = absurd h

high_range : (p : HardProgram) (b at : ℕ) (i : Instr) (more : List Item) → Layable p → ItemFits p ReturnHigh i more → IsInRange i → IsInRange (filled p b at ReturnHigh i)
high_range p b at (Lui rt imm) more l h e = (e.0, e.1, high (address p (b + 1)) (not_above p (b + 1) l.size))
  where
    high : (a : ℕ) → a ≤ 2 ^ 28 → a / 2 ^ 16 < 2 ^ 16
    high a h = omega arith
high_range p b at i more l h e = e

low_range : (p : HardProgram) (b at : ℕ) (i : Instr) (more : List Item) → Layable p → ItemFits p ReturnLow i more → IsInRange i → IsInRange (filled p b at ReturnLow i)
low_range p b at (Ori rt rs imm) more l h e = (e.0, e.1, low (address p (b + 1)))
  where
    low : (a : ℕ) → a % 2 ^ 16 < 2 ^ 16
    low a = omega arith
low_range p b at i more l h e = e

pub filled_range : (p : HardProgram) (b at : ℕ) (fix : Fix) (i : Instr) (more : List Item) → Layable p → InWords (at + 4) → ItemFits p fix i more → FieldReaches p at fix i → IsInRange i → IsInRange (filled p b at fix i)
filled_range p b at Plain i more l w h r e = e
filled_range p b at (Block t) i more l w h r e = block_range p b at t i more l w h r e
filled_range p b at (Function f) i more l w h r e = function_range p b at f i more l h e
filled_range p b at ReturnHigh i more l w h r e = high_range p b at i more l h e
filled_range p b at ReturnLow i more l w h r e = low_range p b at i more l h e

-- ---- what the step does

abbrev planned_with : State → (x y z : Bool) → ℕ → Rattle.mips_isa.specs.declared.instr.Act.Act
planned_with s x y z at =
    cond (not x) (Rattle.mips_isa.specs.declared.instr.Act.TheVariants.Stop (Rattle.mips_isa.specs.declared.instr.End.TheVariants.Exception 4 s.pc)) (
    cond (not (y && z)) (Rattle.mips_isa.specs.declared.instr.Act.TheVariants.Stop (Rattle.mips_isa.specs.declared.instr.End.TheVariants.Exception 6 s.pc)) (
    row_act s (decoded (slice_index s.text at))))

pub planned_at : (s : State) (i : Instr) (at : ℕ) → s.pc ≡ 0x00400000 + 4 * at → at < length s.text → decoded (slice_index s.text at) ≡ Some i → planned s ≡ row_act s (Some i)
planned_at s i at e h d =
    let x : (s.pc % 4 == 0) ≡ true = ap (λ (z : ℕ). z % 4 == 0) e ∙ aligned at in
    let y : nat_le 0x00400000 s.pc ≡ true = above s.pc at e in
    let w : text_place s.pc ≡ at = ap text_place e ∙ back at in
    let z : nat_lt (text_place s.pc) (length s.text) ≡ true = below (text_place s.pc) at (length s.text) w h in
    (ap (λ (u : Bool). planned_with s u (nat_le 0x00400000 s.pc) (nat_lt (text_place s.pc) (length s.text)) (text_place s.pc)) x ∙
    (ap (λ (u : Bool). planned_with s true u (nat_lt (text_place s.pc) (length s.text)) (text_place s.pc)) y ∙
    (ap (λ (u : Bool). planned_with s true true u (text_place s.pc)) z ∙
    ap (λ (u : ℕ). planned_with s true true true u) w))) ∙ ap (λ (u : Option Instr). row_act s u) d
  where
    aligned : (n : ℕ) → ((0x00400000 + 4 * n) % 4 == 0) ≡ true
    aligned n = ap (λ (z : ℕ). z == 0) (rest n)
      where
        rest : (n : ℕ) → (0x00400000 + 4 * n) % 4 ≡ 0
        rest n = omega arith

    above : (a n : ℕ) → a ≡ 0x00400000 + 4 * n → nat_le 0x00400000 a ≡ true
    above a n e = grind arith

    back : (n : ℕ) → (0x00400000 + 4 * n - 0x00400000) / 4 ≡ n
    back n = omega arith

    below : (w n m : ℕ) → w ≡ n → n < m → nat_lt w m ≡ true
    below w n m e h = grind arith

pub planned_item : (p : HardProgram) (s : State) (b : ℕ) (done : List Item) (i : Item) (more : List Item) → b < length p.blocks → items_of p b ≡ done ++ i ∷ more → s.text ≡ text p → s.pc ≡ address p b + 4 * length done → IsInRange (filled p b s.pc i.fix i.instr) → planned s ≡ row_act s (Some (filled p b s.pc i.fix i.instr))
planned_item p s b done i more h e t c r =
    let w : WordAt p b done i = word_at p b done i more h e in
    planned_at s (filled p b s.pc i.fix i.instr) w.at (c ∙ w.address_is) (subst (λ (z : List ℕ). w.at < length z) (sym t) w.inside)
    (ap (λ (z : List ℕ). decoded (slice_index z w.at)) t ∙ (ap decoded (w.word ∙ ap (λ (z : ℕ). encoding (filled p b z i.fix i.instr)) (sym c)) ∙ decodes_encoded (filled p b s.pc i.fix i.instr) r))

-- The target of a jump.
pub jumps_to : (s : State) (a : ℕ) → InWords a → a < 2 ^ 28 → s.pc + 4 < 2 ^ 28 → plus s.pc 4 / 2 ^ 28 * 2 ^ 28 + a / 4 * 4 ≡ a
jumps_to s a w h k = sum s.pc a w.words w.is h k
  where
    sum : (pc a n : ℕ) → a ≡ 0x00400000 + 4 * n → a < 2 ^ 28 → pc + 4 < 2 ^ 28 → (pc + 4) % 2 ^ 32 / 2 ^ 28 * 2 ^ 28 + a / 4 * 4 ≡ a
    sum pc a n e h k = omega arith
