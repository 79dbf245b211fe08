-- Starts, heads and spans of a well typed text.
use Rattle.std.proofs.Common.{◌≡◌, ℕ, ◌+◌, ◌≤◌, ◌<◌, arith, ap, refl, sym, ◌∙◌, subst, List, false, true, Bool, inl, inr}
use Rattle.std.specs.Prelude.{◌⊎◌, if◌then◌else◌}
use Rattle.mips_isa.specs.declared.instr.Instr.{Instr}
use Rattle.mips_isa.specs.declared.instr.Instr.TheVariants.{Sll, Break, Beq, Ori, Xor, Xori, Lw}
use Rattle.mips_isa.specs.Machine.{is_jump}
use Rattle.mips_text.specs.Text.{InText, At}
use Rattle.mips_text.specs.Blocks.{IsStart, InSpan, Head, HeadAt}
use Rattle.mips_text.specs.Typing.{IsSlot}
use Rattle.mips_text.specs.Forms.{OutputAt, ExitAt}
use Rattle.harden_lint.specs.Rules.{WellTyped, IsChoosing}
use Rattle.lint_theorem.specs.Divert.{StartsInside, OneHead, HeadsApart, SpansApart}
use Rattle.lint_theorem.proofs.Ground.{same_instr, in_text, no_truth, Offset, at_0, at_4, at_8, at_12, at_16, at_20, at_24, beyond, offset}

-- the head of a start
pub head_of : (text : List ℕ) (entry u : ℕ) → WellTyped text entry → IsStart text entry u → (h : Head) × HeadAt text u h
head_of text entry u t s = (t u).head s

pub starts_inside : StartsInside
starts_inside text entry u t s = let h : (h : Head) × HeadAt text u h = head_of text entry u t s in in_text text u (Xori 24 24 h.0.d) h.1.differs

-- the second word of a head
abbrev pub second : Bool → Instr
second fan = if fan then Xor 24 24 28 else Sll 0 0 0

second_same : (f g : Bool) → second f ≡ second g → f ≡ g
second_same true true e = refl
second_same false false e = refl
second_same true false e = absurd (cc)
second_same false true e = absurd (cc)

xori_same : (d e : ℕ) → Xori 24 24 d ≡ Xori 24 24 e → d ≡ e
xori_same d e h = cc

ori_same : (r d e : ℕ) → Ori r 0 d ≡ Ori r 0 e → d ≡ e
ori_same r d e h = cc

pub one_head : OneHead
one_head text u g h x y = (
  ori_same 1 g.s h.s (same_instr text (u + 8) (Ori 1 0 g.s) (Ori 1 0 h.s) x.wants y.wants),
  xori_same g.d h.d (same_instr text u (Xori 24 24 g.d) (Xori 24 24 h.d) x.differs y.differs),
  second_same g.fan h.fan (same_instr text (u + 4) (second g.fan) (second h.fan) x.adjusts y.adjusts),
  ori_same 28 g.D h.D (same_instr text (u + 12) (Ori 28 0 g.D) (Ori 28 0 h.D) x.leaves y.leaves),
)

-- Two heads have no word in common: the first word of one is none of the other's further words.

apart_second : (d : ℕ) (f : Bool) → Xori 24 24 d ≡ second f → ⊥
apart_second d true e = cc
apart_second d false e = cc

apart_ori : (d r x : ℕ) → Xori 24 24 d ≡ Ori r 0 x → ⊥
apart_ori d r x e = cc

apart_beq : (d : ℕ) → Xori 24 24 d ≡ Beq 24 1 2 → ⊥
apart_beq d e = cc

apart_nop : (d : ℕ) → Xori 24 24 d ≡ Sll 0 0 0 → ⊥
apart_nop d e = cc

pub apart_break : (d c : ℕ) → Xori 24 24 d ≡ Break c → ⊥
apart_break d c e = cc

no_word : (text : List ℕ) (v a : ℕ) (d : ℕ) (i : Instr) → At text v (Xori 24 24 d) → v ≡ a → At text a i → (Xori 24 24 d ≡ i → ⊥) → ⊥
no_word text v a d i x e y n = n (same_instr text a (Xori 24 24 d) i (subst (λ (b : ℕ). At text b (Xori 24 24 d)) e x) y)

heads_apart_by : (text : List ℕ) (u v : ℕ) (g h : Head) → HeadAt text u g → HeadAt text v h → u < v → Offset u v → u + 28 ≤ v
heads_apart_by text u v g h x y l (at_0 e) = absurd (omega arith)
heads_apart_by text u v g h x y l (at_4 e) = absurd (no_word text v (u + 4) h.d (second g.fan) y.differs e x.adjusts (apart_second h.d g.fan))
heads_apart_by text u v g h x y l (at_8 e) = absurd (no_word text v (u + 8) h.d (Ori 1 0 g.s) y.differs e x.wants (apart_ori h.d 1 g.s))
heads_apart_by text u v g h x y l (at_12 e) = absurd (no_word text v (u + 12) h.d (Ori 28 0 g.D) y.differs e x.leaves (apart_ori h.d 28 g.D))
heads_apart_by text u v g h x y l (at_16 e) = absurd (no_word text v (u + 16) h.d (Beq 24 1 2) y.differs e x.compares (apart_beq h.d))
heads_apart_by text u v g h x y l (at_20 e) = absurd (no_word text v (u + 20) h.d (Sll 0 0 0) y.differs e x.waits (apart_nop h.d))
heads_apart_by text u v g h x y l (at_24 e) = absurd (no_word text v (u + 24) h.d (Break 2) y.differs e x.reports (apart_break h.d 2))
heads_apart_by text u v g h x y l (beyond k) = k

pub heads_apart : HeadsApart
heads_apart text entry u v t s r l =
    let g : (h : Head) × HeadAt text u h = head_of text entry u t s in
    let h : (h : Head) × HeadAt text v h = head_of text entry v t r in
    let p : InText text u = starts_inside text entry u t s in
    let q : InText text v = starts_inside text entry v t r in
    heads_apart_by text u v g.0 h.0 g.1 h.1 l (offset u v p.aligned q.aligned (omega arith))

both : (u v : ℕ) → u ≤ v → v ≤ u → u ≡ v
both u v h k = omega arith

pub spans_apart : SpansApart
spans_apart text entry u v a x y = both u v (y.last u x.start x.from) (x.last v y.start y.from)

-- a span that reaches a start begins there
pub at_start : (text : List ℕ) (entry u a : ℕ) → InSpan text entry u a → IsStart text entry a → u ≡ a
at_start text entry u a x s = both u a x.from (x.last a s (self a))
  where
    self : (a : ℕ) → a ≤ a
    self a = omega arith

-- a span reaches each of its words from its start on
pub span_back : (text : List ℕ) (entry u a b : ℕ) → InSpan text entry u a → InText text b → u ≤ b → b ≤ a → InSpan text entry u b
span_back text entry u a b x t h k = record { start = x.start; in_text = t; from = h; last = λ v s l. x.last v s (up v b a l k) }
  where
    up : (v b a : ℕ) → v ≤ b → b ≤ a → v ≤ a
    up v b a h k = omega arith

-- no start stands at a break, nor in a delay slot
pub no_start_at_break : (text : List ℕ) (entry a code : ℕ) → WellTyped text entry → IsStart text entry a → At text a (Break code) → ⊥
no_start_at_break text entry a code t s b = let h : (h : Head) × HeadAt text a h = head_of text entry a t s in no_word text a a h.0.d (Break code) h.1.differs refl b (apart_break h.0.d code)

-- A branch or a jump of a block is the comparison of its head, or stands behind the head.

no_jump : (text : List ℕ) (j a : ℕ) (i k : Instr) → At text j i → is_jump i ≡ true → j ≡ a → At text a k → is_jump k ≡ false → ⊥
no_jump text j a i k x e f y g = no_truth (sym g ∙ (ap (λ (z : Instr). is_jump z) (sym (same_instr text a i k (subst (λ (b : ℕ). At text b i) f x) y)) ∙ e))

quiet_second : (f : Bool) → is_jump (second f) ≡ false
quiet_second true = refl
quiet_second false = refl

jump_place_by : (text : List ℕ) (u j : ℕ) (h : Head) (i : Instr) → HeadAt text u h → At text j i → is_jump i ≡ true → Offset u j → (j ≡ u + 16) ⊎ (u + 28 ≤ j)
jump_place_by text u j h i x y e (at_0 f) = absurd (no_jump text j u i (Xori 24 24 h.d) y e f x.differs refl)
jump_place_by text u j h i x y e (at_4 f) = absurd (no_jump text j (u + 4) i (second h.fan) y e f x.adjusts (quiet_second h.fan))
jump_place_by text u j h i x y e (at_8 f) = absurd (no_jump text j (u + 8) i (Ori 1 0 h.s) y e f x.wants refl)
jump_place_by text u j h i x y e (at_12 f) = absurd (no_jump text j (u + 12) i (Ori 28 0 h.D) y e f x.leaves refl)
jump_place_by text u j h i x y e (at_16 f) = inl f
jump_place_by text u j h i x y e (at_20 f) = absurd (no_jump text j (u + 20) i (Sll 0 0 0) y e f x.waits refl)
jump_place_by text u j h i x y e (at_24 f) = absurd (no_jump text j (u + 24) i (Break 2) y e f x.reports refl)
jump_place_by text u j h i x y e (beyond k) = inr k

pub jump_place : (text : List ℕ) (entry u j : ℕ) (h : Head) (i : Instr) → WellTyped text entry → InSpan text entry u j → HeadAt text u h → At text j i → is_jump i ≡ true → (j ≡ u + 16) ⊎ (u + 28 ≤ j)
jump_place text entry u j h i t s x y e = jump_place_by text u j h i x y e (offset u j (starts_inside text entry u t s.start).aligned s.in_text.aligned s.from)

-- the word of a delay slot writes no register of the signatures
pub data IsQuiet (i : Instr) : Type 0 where
  waits : i ≡ Sll 0 0 0 → IsQuiet i
  chooses : (k : ℕ) → i ≡ Ori 2 0 k → IsQuiet i

chosen : (text : List ℕ) (a : ℕ) (i : Instr) → At text a i → (x : IsChoosing text a) → OutputAt text x.c ⊎ ExitAt text x.c → IsQuiet i
chosen text a i y x (inl f) = chooses 1 (same_instr text (x.c + 4) i (Ori 2 0 1) (subst (λ (b : ℕ). At text b i) x.at y) f.chooses)
chosen text a i y x (inr f) = chooses 17 (same_instr text (x.c + 4) i (Ori 2 0 17) (subst (λ (b : ℕ). At text b i) x.at y) f.chooses)

quiet_by : (text : List ℕ) (a : ℕ) (i : Instr) → At text a i → At text a (Sll 0 0 0) ⊎ IsChoosing text a → IsQuiet i
quiet_by text a i y (inl n) = waits (same_instr text a i (Sll 0 0 0) y n)
quiet_by text a i y (inr x) = chosen text a i y x x.form

pub slot_quiet : (text : List ℕ) (entry a : ℕ) (i : Instr) → WellTyped text entry → IsSlot text a → At text a i → IsQuiet i
slot_quiet text entry a i t s y = quiet_by text a i y ((t a).slot.quiet s)

pub quiet_jump : (i : Instr) → IsQuiet i → is_jump i ≡ false
quiet_jump i (waits e) = rw e refl
quiet_jump i (chooses k e) = rw e refl

pub quiet_load : (i : Instr) (rt rs imm : ℕ) → IsQuiet i → i ≡ Lw rt rs imm → ⊥
quiet_load i rt rs imm (waits e) f = cc
quiet_load i rt rs imm (chooses k e) f = cc
