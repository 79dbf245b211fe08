-- The clean run of a well typed text goes along its blocks: it enters each at its start and passes the whole head, so that behind
-- the head the signature registers hold the block's numbers.
use Rattle.std.proofs.Common.{◌≡◌, ◌≢◌, ℕ, ◌+◌, ◌%◌, ◌≤◌, ◌<◌, arith, ap, refl, sym, ◌∙◌, subst, List, [], ◌∷◌, length, false, true, Bool, inl, inr}
use Rattle.std.specs.Prelude.{Option, Some, None, ◌⊎◌, ◌==◌, slice_index, bit_or}
use Rattle.mips_isa.specs.declared.instr.Instr.{Instr}
use Rattle.mips_isa.specs.declared.instr.Instr.TheVariants.{Sll, Jr, J, Jal, Beq, Bne, Break, Ori, Lw}
use Rattle.mips_isa.specs.Machine.{State, reg, act, perform, step, is_jump, writes_of, plus}
use Rattle.mips_isa.specs.Locality.{Leads}
use Rattle.mips_text.specs.Text.{IsText, InText, At, BranchAt, SkipsBreak, branch_goal, Uses}
use Rattle.mips_text.specs.Blocks.{IsStart, jumped, called, taken, passed, InSpan, Head, HeadAt}
use Rattle.mips_faults.specs.Faults.{IsPlaced}
use Rattle.mips_text.specs.Typing.{Of, signs, IsSlot, Next, onward, taken as next_taken}
use Rattle.harden_lint.specs.Rules.{WellTyped, InHead}
use Rattle.lint_theorem.proofs.Ground.{same_instr, in_text, no_truth, is_or, plus_four, plus_eight, goal_two, same_offset, Offset, at_0, at_4, at_8, at_12, at_16, at_20, at_24, beyond, offset, SkipOr, skips, skips_none, skip_or}
use Rattle.lint_theorem.proofs.Heads.{starts_inside, at_start, span_back, no_start_at_break, jump_place, IsQuiet, waits, chooses, slot_quiet, quiet_jump, quiet_load}
use Rattle.lint_theorem.proofs.Words.{Passed, Turned, passes, turns, no_break, no_hazard, step_does}

-- the registers of the signatures hold what the words of a head up to an address have left there
pub record Marked (h : Head) (u a : ℕ) (regs : List ℕ) : Type 0 where
  pub wants : u + 12 ≤ a → slice_index regs 1 ≡ h.s
  pub leaves : u + 16 ≤ a → slice_index regs 28 ≡ h.D
  pub holds : u + 28 ≤ a → slice_index regs 24 ≡ h.s

-- where a branch or jump at j leads: to a start, over a break, or to that break
pub data Way (text : List ℕ) (entry j to : ℕ) : Type 0 where
  enters : IsStart text entry to → Way text entry j to
  over : (code : ℕ) → SkipsBreak text j code → to ≡ j + 12 → Way text entry j to
  into : (code : ℕ) → SkipsBreak text j code → to ≡ j + 8 → Way text entry j to

-- how a state stands at its word: by the way of words, or behind the branch or jump at j; behind that of a head it goes on where
-- the two compared registers are the same
pub data Stands (text : List ℕ) (entry : ℕ) (s : State) : Type 0 where
  plain : s.slot ≡ false → s.npc ≡ s.pc + 4 → (IsSlot text s.pc → ⊥) → Stands text entry s
  behind : (j : ℕ) (i : Instr) → At text j i → is_jump i ≡ true → s.pc ≡ j + 4 → s.slot ≡ true → Way text entry j s.npc → (At text j (Beq 24 1 2) → s.npc ≡ j + 12 → slice_index s.regs 24 ≡ slice_index s.regs 1) → Stands text entry s

-- the word before loads the register that is noted
pub record Loaded (text : List ℕ) (s : State) : Type 0 where
  pub at : ℕ
  pub base : ℕ
  pub imm : ℕ
  pub load : At text at (Lw s.last_load base imm)
  pub next : Next text at s.pc

-- the state goes along the blocks
pub record Along (text : List ℕ) (entry : ℕ) (s : State) : Type 0 where
  pub same : s.text ≡ text
  pub long : length s.regs ≡ 32
  pub zero : slice_index s.regs 0 ≡ 0
  pub inside : InText text s.pc
  pub marked : (u : ℕ) (h : Head) → InSpan text entry u s.pc → HeadAt text u h → Marked h u s.pc s.regs
  pub loaded : (s.last_load ≡ 0) ⊎ Loaded text s
  pub stands : Stands text entry s

-- A word behind its head uses no register of the signatures.

head_end : (u v a : ℕ) → v ≤ u → a ≤ v + 24 → u + 28 ≤ a → ⊥
head_end u v a h k l = omega arith

pub unused : (text : List ℕ) (entry u a r : ℕ) → WellTyped text entry → InSpan text entry u a → u + 28 ≤ a → Of signs r → Uses text a r → ⊥
unused text entry u a r t x b o y =
    let k : InHead text entry a = (t a).signs r y o in
    head_end u k.start a (x.last k.start k.is k.from) k.upto b

writes_uses : (text : List ℕ) (a r : ℕ) (i : Instr) → At text a i → writes_of i ≡ r ∷ [] → (r == r) ≡ true → Uses text a r
writes_uses text a r i y e z = record { instr = i; at = y; uses = rw (e, z) refl }

pub unwritten : (text : List ℕ) (entry u a r : ℕ) (i : Instr) → WellTyped text entry → InSpan text entry u a → u + 28 ≤ a → At text a i → Of signs r → (r == r) ≡ true → writes_of i ≡ r ∷ [] → ⊥
unwritten text entry u a r i t x b y o z e = unused text entry u a r t x b o (writes_uses text a r i y e z)

-- The signature registers from a word to the next.

apart_cell : (p q : ℕ) → p ≢ q → p ∷ [] ≡ q ∷ [] → ⊥
apart_cell p q n e = n (head_same e)
  where
    head_same : p ∷ [] ≡ q ∷ [] → p ≡ q
    head_same e = cc

other_written : (i k : Instr) (p q : ℕ) → i ≡ k → writes_of k ≡ p ∷ [] → p ≢ q → writes_of i ≡ q ∷ [] → ⊥
other_written i k p q e w n f = apart_cell p q n (sym w ∙ (ap (λ (z : Instr). writes_of z) (sym e) ∙ f))

-- a word of the head puts its number
puts_number : (s t : State) (i : Instr) (r k : ℕ) → Passed i s t → i ≡ Ori r 0 k → slice_index s.regs 0 ≡ 0 → r ≢ 0 → r < length s.regs → slice_index t.regs r ≡ k
puts_number s t i r k p e z n b = p.wrote r (bit_or (reg s 0) k) (ap (λ (x : Instr). act x s) e) n b ∙ zero_or
  where
    zero_or : bit_or (reg s 0) k ≡ k
    zero_or = rw z refl

pub mark_start : (h : Head) (u a : ℕ) (regs : List ℕ) → a < u + 12 → Marked h u a regs
mark_start h u a regs b = record { wants = λ k. absurd (omega arith); leaves = λ k. absurd (omega arith); holds = λ k. absurd (omega arith) }

mark_by : (text : List ℕ) (entry u : ℕ) (h : Head) (i : Instr) (s t : State) → WellTyped text entry → InSpan text entry u s.pc → HeadAt text u h → Marked h u s.pc s.regs → Passed i s t → At text s.pc i → is_jump i ≡ false → ((code : ℕ) → i ≡ Break code → ⊥) → length s.regs ≡ 32 → slice_index s.regs 0 ≡ 0 → Offset u s.pc → Marked h u (s.pc + 4) t.regs
mark_by text entry u h i s t w x y m p at j b l z (at_0 e) = mark_start h u (s.pc + 4) t.regs (omega arith)
mark_by text entry u h i s t w x y m p at j b l z (at_4 e) = mark_start h u (s.pc + 4) t.regs (omega arith)
mark_by text entry u h i s t w x y m p at j b l z (at_8 e) =
    let is : i ≡ Ori 1 0 h.s = same_instr text (u + 8) i (Ori 1 0 h.s) (subst (λ (a : ℕ). At text a i) e at) y.wants in
    record {
      wants = λ k. puts_number s t i 1 h.s p is z (omega arith) (omega arith);
      leaves = λ k. absurd (omega arith);
      holds = λ k. absurd (omega arith);
    }
mark_by text entry u h i s t w x y m p at j b l z (at_12 e) =
    let is : i ≡ Ori 28 0 h.D = same_instr text (u + 12) i (Ori 28 0 h.D) (subst (λ (a : ℕ). At text a i) e at) y.leaves in
    record {
      wants = λ k. p.kept 1 (other_written i (Ori 28 0 h.D) 28 1 is refl (omega arith)) ∙ m.wants (omega arith);
      leaves = λ k. puts_number s t i 28 h.D p is z (omega arith) (omega arith);
      holds = λ k. absurd (omega arith);
    }
mark_by text entry u h i s t w x y m p at j b l z (at_16 e) =
    let is : i ≡ Beq 24 1 2 = same_instr text (u + 16) i (Beq 24 1 2) (subst (λ (a : ℕ). At text a i) e at) y.compares in
    absurd (no_truth (sym j ∙ ap (λ (k : Instr). is_jump k) is))
mark_by text entry u h i s t w x y m p at j b l z (at_20 e) =
    let is : i ≡ Sll 0 0 0 = same_instr text (u + 20) i (Sll 0 0 0) (subst (λ (a : ℕ). At text a i) e at) y.waits in
    record {
      wants = λ k. p.kept 1 (other_written i (Sll 0 0 0) 0 1 is refl (omega arith)) ∙ m.wants (omega arith);
      leaves = λ k. p.kept 28 (other_written i (Sll 0 0 0) 0 28 is refl (omega arith)) ∙ m.leaves (omega arith);
      holds = λ k. absurd (omega arith);
    }
mark_by text entry u h i s t w x y m p at j b l z (at_24 e) =
    absurd (b 2 (same_instr text (u + 24) i (Break 2) (subst (λ (a : ℕ). At text a i) e at) y.reports))
mark_by text entry u h i s t w x y m p at j b l z (beyond e) = record {
  wants = λ k. p.kept 1 (unwritten text entry u s.pc 1 i w x e at refl refl) ∙ m.wants (omega arith);
  leaves = λ k. p.kept 28 (unwritten text entry u s.pc 28 i w x e at refl refl) ∙ m.leaves (omega arith);
  holds = λ k. p.kept 24 (unwritten text entry u s.pc 24 i w x e at refl refl) ∙ m.holds e;
}

-- The state behind a word that is no branch or jump, where it stood by the way of words.

pub less_than : (u a : ℕ) → u ≤ a + 4 → u ≢ a + 4 → u % 4 ≡ 0 → a % 4 ≡ 0 → u ≤ a
less_than u a h n f g = omega arith

pub self_near : (u a : ℕ) → u ≡ a → a < u + 12
self_near u a e = omega arith

pub up_four : (a : ℕ) → a ≤ a + 4
up_four a = omega arith

mark_plain : (text : List ℕ) (entry u : ℕ) (h : Head) (i : Instr) (s t : State) → WellTyped text entry → Along text entry s → InSpan text entry u (s.pc + 4) → HeadAt text u h → Passed i s t → At text s.pc i → is_jump i ≡ false → ((code : ℕ) → i ≡ Break code → ⊥) → Marked h u (s.pc + 4) t.regs
mark_plain text entry u h i s t w o x y p at j b = elim (is_or u (s.pc + 4)) as (λ z. Marked h u (s.pc + 4) t.regs) [
  | inl e ↦ mark_start h u (s.pc + 4) t.regs (self_near u (s.pc + 4) e)
  | inr n ↦
      let f : u % 4 ≡ 0 = (starts_inside text entry u w x.start).aligned in
      let d : u ≤ s.pc = less_than u s.pc x.from n f o.inside.aligned in
      let back : InSpan text entry u s.pc = span_back text entry u (s.pc + 4) s.pc x o.inside d (up_four s.pc) in
      mark_by text entry u h i s t w back y (o.marked u h back y) p at j b o.long o.zero (offset u s.pc f o.inside.aligned d)
]

same_place : (a b : ℕ) → a + 4 ≡ b + 4 → a ≡ b
same_place a b e = omega arith

-- a word behind one that is no branch or jump is in no delay slot
no_slot_behind : (text : List ℕ) (a : ℕ) (i : Instr) → At text a i → is_jump i ≡ false → IsSlot text (a + 4) → ⊥
no_slot_behind text a i at j s =
    let e : a ≡ s.jump_at = same_place a s.jump_at s.behind in
    no_truth (sym j ∙ (ap (λ (k : Instr). is_jump k) (same_instr text s.jump_at i s.instr (subst (λ (b : ℕ). At text b i) e at) s.at) ∙ s.jumps))

plain_next : (text : List ℕ) (a : ℕ) (i : Instr) → InText text a → (IsSlot text a → ⊥) → At text a i → ((code : ℕ) → i ≡ Break code → ⊥) → Next text a (a + 4)
plain_next text a i t n at b = onward t n (λ code k. b code (same_instr text a i (Break code) at k)) refl

loaded_plain : (text : List ℕ) (i : Instr) (s t : State) → Passed i s t → At text s.pc i → Next text s.pc t.pc → (t.last_load ≡ 0) ⊎ Loaded text t
loaded_plain text i s t p at n = elim p.loaded as (λ z. (t.last_load ≡ 0) ⊎ Loaded text t) [
  | inl e ↦ inl e
  | inr l ↦ inr (record { at = s.pc; base = l.0; imm = l.1; load = at ∙ ap (λ (k : Instr). Some k) l.2; next = n })
]

pub plain_along : (text : List ℕ) (entry : ℕ) (i : Instr) (s t : State) → IsText text → WellTyped text entry → Along text entry s → s.npc ≡ s.pc + 4 → (IsSlot text s.pc → ⊥) → At text s.pc i → is_jump i ≡ false → ((code : ℕ) → i ≡ Break code → ⊥) → Passed i s t → Along text entry t
plain_along text entry i s t big w o n ns at j b p =
    let e : t.pc ≡ s.pc + 4 = p.pc ∙ n in
    let next : Next text s.pc (s.pc + 4) = plain_next text s.pc i o.inside ns at b in
    let inside : InText text t.pc = subst (λ (a : ℕ). InText text a) (sym e) ((w s.pc).inside (s.pc + 4) next) in
    record {
      same = p.text ∙ o.same;
      long = p.long ∙ o.long;
      zero = p.zero ∙ o.zero;
      inside = inside;
      marked = λ u h x y. subst (λ (a : ℕ). Marked h u a t.regs) (sym e) (mark_plain text entry u h i s t w o (subst (λ (a : ℕ). InSpan text entry u a) e x) y p at j b);
      loaded = loaded_plain text i s t p at (subst (λ (a : ℕ). Next text s.pc a) (sym e) next);
      stands = plain p.slot (p.npc ∙ (ap (λ (a : ℕ). plus a 4) (sym p.pc) ∙ plus_four text t.pc big inside)) (λ k. no_slot_behind text s.pc i at j (subst (λ (a : ℕ). IsSlot text a) e k));
    }

-- The state behind a delay slot.

quiet_kept : (i : Instr) (q : ℕ) → IsQuiet i → q ≢ 0 → q ≢ 2 → writes_of i ≡ q ∷ [] → ⊥
quiet_kept i q (waits e) n m f = other_written i (Sll 0 0 0) 0 q e refl (λ g. n (sym g)) f
quiet_kept i q (chooses k e) n m f = other_written i (Ori 2 0 k) 2 q e refl (λ g. m (sym g)) f

-- Of the two words behind a branch over a break, and the one behind these, only the last may be a start.

between : (u j a : ℕ) → u % 4 ≡ 0 → j % 4 ≡ 0 → a % 4 ≡ 0 → u ≤ a → u ≢ a → a ≤ j + 12 → u ≢ j + 4 → u ≢ j + 8 → u ≤ j
between u j a f g h k n b m l = omega arith

pub reaches_jump : (text : List ℕ) (entry u j a code : ℕ) → WellTyped text entry → InText text j → IsSlot text (j + 4) → At text (j + 8) (Break code) → InSpan text entry u a → a ≤ j + 12 → j ≤ a → (u ≡ a) ⊎ InSpan text entry u j
reaches_jump text entry u j a code w t s b x h k = elim (is_or u a) as (λ z. (u ≡ a) ⊎ InSpan text entry u j) [
  | inl e ↦ inl e
  | inr n ↦ inr (span_back text entry u a j x t (between u j a (starts_inside text entry u w x.start).aligned t.aligned x.in_text.aligned x.from n h
      (λ e. (w (j + 4)).slot.no_start s (subst (λ (v : ℕ). IsStart text entry v) e x.start))
      (λ e. no_start_at_break text entry (j + 8) code w (subst (λ (v : ℕ). IsStart text entry v) e x.start) b)) k)
]

-- a block of a branch or jump has its delay slot
pub span_on : (text : List ℕ) (entry u j a : ℕ) (i : Instr) → WellTyped text entry → At text j i → is_jump i ≡ true → a ≡ j + 4 → InText text a → InSpan text entry u j → InSpan text entry u a
span_on text entry u j a i w at f e t x = record { start = x.start; in_text = t; from = below x.from; last = λ v k l. x.last v k (inner v k l) }
  where
    below : u ≤ j → u ≤ a
    below k = omega arith

    close : (v : ℕ) → v ≤ a → v ≢ j + 4 → v % 4 ≡ 0 → j % 4 ≡ 0 → v ≤ j
    close v h n f g = omega arith

    here : IsSlot text (j + 4)
    here = record { jump_at = j; instr = i; at = at; jumps = f; behind = refl }

    inner : (v : ℕ) → IsStart text entry v → v ≤ a → v ≤ j
    inner v k l = close v l (λ g. (w (j + 4)).slot.no_start here (subst (λ (z : ℕ). IsStart text entry z) g k)) (starts_inside text entry v w k).aligned x.in_text.aligned

-- the marks at the delay slot of a branch or jump of the block at u
pub record AtJump (text : List ℕ) (entry u j : ℕ) (h : Head) (s : State) : Type 0 where
  pub in_span : InSpan text entry u j
  pub place : (j ≡ u + 16) ⊎ (u + 28 ≤ j)
  pub marks : Marked h u (j + 4) s.regs

at_jump : (text : List ℕ) (entry u j : ℕ) (h : Head) (i : Instr) (s : State) → WellTyped text entry → Along text entry s → s.pc ≡ j + 4 → At text j i → is_jump i ≡ true → InSpan text entry u j → HeadAt text u h → AtJump text entry u j h s
at_jump text entry u j h i s w o e at f x y =
    record { in_span = x; place = jump_place text entry u j h i w x y at f; marks = subst (λ (a : ℕ). Marked h u a s.regs) e (o.marked u h (span_on text entry u j s.pc i w at f e o.inside x) y) }

mark_over : (text : List ℕ) (entry u j : ℕ) (h : Head) (s t : State) → HeadAt text u h → AtJump text entry u j h s → (slice_index t.regs 1 ≡ slice_index s.regs 1) → (slice_index t.regs 24 ≡ slice_index s.regs 24) → (slice_index t.regs 28 ≡ slice_index s.regs 28) → (At text j (Beq 24 1 2) → slice_index s.regs 24 ≡ slice_index s.regs 1) → Marked h u (j + 12) t.regs
mark_over text entry u j h s t y m one four eight kept = elim m.place as (λ z. Marked h u (j + 12) t.regs) [
  | inl e ↦ record {
    wants = λ k. one ∙ m.marks.wants (omega arith);
    leaves = λ k. eight ∙ m.marks.leaves (omega arith);
    holds = λ k. four ∙ (kept (subst (λ (a : ℕ). At text a (Beq 24 1 2)) (sym e) y.compares) ∙ m.marks.wants (omega arith));
  }
  | inr b ↦ record {
    wants = λ k. one ∙ m.marks.wants (omega arith);
    leaves = λ k. eight ∙ m.marks.leaves (omega arith);
    holds = λ k. four ∙ m.marks.holds (omega arith);
  }
]

mark_into : (text : List ℕ) (entry u j : ℕ) (h : Head) (s t : State) → AtJump text entry u j h s → (slice_index t.regs 1 ≡ slice_index s.regs 1) → (slice_index t.regs 24 ≡ slice_index s.regs 24) → (slice_index t.regs 28 ≡ slice_index s.regs 28) → Marked h u (j + 8) t.regs
mark_into text entry u j h s t m one four eight = elim m.place as (λ z. Marked h u (j + 8) t.regs) [
  | inl e ↦ record {
    wants = λ k. one ∙ m.marks.wants (omega arith);
    leaves = λ k. eight ∙ m.marks.leaves (omega arith);
    holds = λ k. absurd (omega arith);
  }
  | inr b ↦ record {
    wants = λ k. one ∙ m.marks.wants (omega arith);
    leaves = λ k. eight ∙ m.marks.leaves (omega arith);
    holds = λ k. four ∙ m.marks.holds (omega arith);
  }
]

-- a state behind its word, given where it stands
landed : (text : List ℕ) (entry : ℕ) (i : Instr) (s t : State) (a : ℕ) → IsText text → Along text entry s → IsQuiet i → Passed i s t → s.npc ≡ a → InText text a → (IsSlot text a → ⊥) → ((u : ℕ) (h : Head) → InSpan text entry u a → HeadAt text u h → Marked h u a t.regs) → Along text entry t
landed text entry i s t a big o q p e inside ns m =
    let f : t.pc ≡ a = p.pc ∙ e in
    let there : InText text t.pc = subst (λ (b : ℕ). InText text b) (sym f) inside in
    record {
      same = p.text ∙ o.same;
      long = p.long ∙ o.long;
      zero = p.zero ∙ o.zero;
      inside = there;
      marked = λ u h x y. subst (λ (b : ℕ). Marked h u b t.regs) (sym f) (m u h (subst (λ (b : ℕ). InSpan text entry u b) f x) y);
      loaded = elim p.loaded as (λ z. (t.last_load ≡ 0) ⊎ Loaded text t) [ inl z ↦ inl z | inr l ↦ absurd (quiet_load i t.last_load l.0 l.1 q l.2) ];
      stands = plain p.slot (p.npc ∙ (ap (λ (b : ℕ). plus b 4) (sym p.pc) ∙ plus_four text t.pc big there)) (λ k. ns (subst (λ (b : ℕ). IsSlot text b) f k));
    }

no_slot_over : (text : List ℕ) (j code : ℕ) → At text (j + 8) (Break code) → IsSlot text (j + 12) → ⊥
no_slot_over text j code b s =
    let e : s.jump_at ≡ j + 8 = back j s.jump_at s.behind in
    no_truth (ap (λ (k : Instr). is_jump k) (same_instr text (j + 8) (Break code) s.instr b (subst (λ (a : ℕ). At text a s.instr) e s.at)) ∙ s.jumps)
  where
    back : (j a : ℕ) → j + 12 ≡ a + 4 → a ≡ j + 8
    back j a e = omega arith

pub behind_along : (text : List ℕ) (entry : ℕ) (i : Instr) (s t : State) (j : ℕ) (k : Instr) → IsText text → WellTyped text entry → Along text entry s → At text j k → is_jump k ≡ true → s.pc ≡ j + 4 → Way text entry j s.npc → (At text j (Beq 24 1 2) → s.npc ≡ j + 12 → slice_index s.regs 24 ≡ slice_index s.regs 1) → At text s.pc i → IsQuiet i → Passed i s t → Along text entry t
behind_along text entry i s t j k big w o aj f e (enters st) kept at q p =
    landed text entry i s t s.npc big o q p refl (starts_inside text entry s.npc w st) (λ z. (w s.npc).slot.no_start z st)
    (λ u h x y. mark_start h u s.npc t.regs (self_near u s.npc (at_start text entry u s.npc x st)))
behind_along text entry i s t j k big w o aj f e (over code sk g) kept at q p =
    let here : IsSlot text (j + 4) = record { jump_at = j; instr = k; at = aj; jumps = f; behind = refl } in
    let tj : InText text j = in_text text j k aj in
    let next : Next text s.pc (j + 12) = next_taken j sk.x sk.y 2 o.inside sk.branch e (sym (goal_two text j big tj)) in
    landed text entry i s t (j + 12) big o q p g ((w s.pc).inside (j + 12) next) (no_slot_over text j code sk.stop)
    (λ u h x y. elim (reaches_jump text entry u j (j + 12) code w tj here sk.stop x (self (j + 12)) (up j)) as (λ z. Marked h u (j + 12) t.regs) [
      | inl c ↦ mark_start h u (j + 12) t.regs (self_near u (j + 12) c)
      | inr c ↦ mark_over text entry u j h s t y (at_jump text entry u j h k s w o e aj f c y) (p.kept 1 (quiet_kept i 1 q (omega arith) (omega arith))) (p.kept 24 (quiet_kept i 24 q (omega arith) (omega arith))) (p.kept 28 (quiet_kept i 28 q (omega arith) (omega arith))) (λ b. kept b g)
    ])
  where
    self : (a : ℕ) → a ≤ a
    self a = omega arith

    up : (a : ℕ) → a ≤ a + 12
    up a = omega arith
behind_along text entry i s t j k big w o aj f e (into code sk g) kept at q p =
    let here : IsSlot text (j + 4) = record { jump_at = j; instr = k; at = aj; jumps = f; behind = refl } in
    let tj : InText text j = in_text text j k aj in
    landed text entry i s t (j + 8) big o q p g (in_text text (j + 8) (Break code) sk.stop)
    (λ z. no_slot_behind text s.pc i at (quiet_jump i q) (subst (λ (a : ℕ). IsSlot text a) (eight j s.pc e) z))
    (λ u h x y. elim (reaches_jump text entry u j (j + 8) code w tj here sk.stop x (up_eight j) (up j)) as (λ z. Marked h u (j + 8) t.regs) [
      | inl c ↦ mark_start h u (j + 8) t.regs (self_near u (j + 8) c)
      | inr c ↦ mark_into text entry u j h s t (at_jump text entry u j h k s w o e aj f c y) (p.kept 1 (quiet_kept i 1 q (omega arith) (omega arith))) (p.kept 24 (quiet_kept i 24 q (omega arith) (omega arith))) (p.kept 28 (quiet_kept i 28 q (omega arith) (omega arith)))
    ])
  where
    up_eight : (a : ℕ) → a + 8 ≤ a + 12
    up_eight a = omega arith

    up : (a : ℕ) → a ≤ a + 8
    up a = omega arith

    eight : (j a : ℕ) → a ≡ j + 4 → j + 8 ≡ a + 4
    eight j a e = omega arith

-- The state behind a branch or jump.

pub slot_here : (text : List ℕ) (a : ℕ) (i : Instr) → At text a i → is_jump i ≡ true → IsSlot text (a + 4)
slot_here text a i at j = record { jump_at = a; instr = i; at = at; jumps = j; behind = refl }

pub branch_way : (text : List ℕ) (entry a x y imm to : ℕ) → IsText text → InText text a → BranchAt text a x y imm → (to ≡ branch_goal a imm) ⊎ (to ≡ plus (plus a 4) 4) → Way text entry a to
branch_way text entry a x y imm to big t b l = by_skip (skip_or text a x y imm b) l
  where
    by_skip : SkipOr text a → (to ≡ branch_goal a imm) ⊎ (to ≡ plus (plus a 4) 4) → Way text entry a to
    by_skip (skips code k) (inl e) = over code k (e ∙ (ap (λ (m : ℕ). branch_goal a m) (same_offset text a x y imm k.x k.y 2 b k.branch) ∙ goal_two text a big t))
    by_skip (skips code k) (inr e) = into code k (e ∙ plus_eight text a big t)
    by_skip (skips_none n) (inl e) = enters (taken a imm (record { x = x; y = y; branch = b; skips_none = n }) e)
    by_skip (skips_none n) (inr e) = enters (passed a imm (record { x = x; y = y; branch = b; skips_none = n }) (e ∙ plus_eight text a big t))

pub jump_way : (text : List ℕ) (entry : ℕ) (i : Instr) (s : State) (to : ℕ) → IsText text → InText text s.pc → At text s.pc i → ((rs : ℕ) → At text s.pc (Jr rs) → IsStart text entry (reg s rs)) → Leads i s to → Way text entry s.pc to
jump_way text entry (Jr rs) s to big t at back l = enters (subst (λ (b : ℕ). IsStart text entry b) (sym l) (back rs at))
jump_way text entry (J target) s to big t at back l = enters (jumped s.pc target at l)
jump_way text entry (Jal target) s to big t at back l = enters (called s.pc target at l)
jump_way text entry (Beq x y imm) s to big t at back l = branch_way text entry s.pc x y imm to big t (record { instr = Beq x y imm; at = at; is = inl refl }) l
jump_way text entry (Bne x y imm) s to big t at back l = branch_way text entry s.pc x y imm to big t (record { instr = Bne x y imm; at = at; is = inr refl }) l
jump_way text entry _ s to big t at back l = absurd l

-- the marks that a branch or jump leaves
mark_turned : (text : List ℕ) (entry u : ℕ) (h : Head) (i : Instr) (s : State) (x : State × Option ℕ) → WellTyped text entry → Along text entry s → At text s.pc i → is_jump i ≡ true → Turned i s x → InSpan text entry u (s.pc + 4) → HeadAt text u h → Marked h u (s.pc + 4) x.0.regs
mark_turned text entry u h i s x w o at j d sp y =
    let n : u ≢ s.pc + 4 = λ e. (w (s.pc + 4)).slot.no_start (slot_here text s.pc i at j) (subst (λ (v : ℕ). IsStart text entry v) e sp.start) in
    let f : u % 4 ≡ 0 = (starts_inside text entry u w sp.start).aligned in
    let b : u ≤ s.pc = less_than u s.pc sp.from n f o.inside.aligned in
    let back : InSpan text entry u s.pc = span_back text entry u (s.pc + 4) s.pc sp o.inside b (up_four s.pc) in
    let m : Marked h u s.pc s.regs = o.marked u h back y in
    elim (jump_place text entry u s.pc h i w back y at j) as (λ z. Marked h u (s.pc + 4) x.0.regs) [
      | inl e ↦ record {
        wants = λ k. d.kept 1 (omega arith) ∙ m.wants (omega arith);
        leaves = λ k. d.kept 28 (omega arith) ∙ m.leaves (omega arith);
        holds = λ k. absurd (omega arith);
      }
      | inr c ↦ record {
        wants = λ k. d.kept 1 (omega arith) ∙ m.wants (omega arith);
        leaves = λ k. d.kept 28 (omega arith) ∙ m.leaves (omega arith);
        holds = λ k. d.kept 24 (omega arith) ∙ m.holds c;
      }
    ]

-- where the comparison of a head leads over its break, the two registers are the same
over_same : (text : List ℕ) (i : Instr) (s : State) (x : State × Option ℕ) → IsText text → InText text s.pc → Turned i s x → At text s.pc i → At text s.pc (Beq 24 1 2) → x.0.npc ≡ s.pc + 12 → slice_index x.0.regs 24 ≡ slice_index x.0.regs 1
over_same text i s x big t d at b e = elim (d.tested 24 1 2 (same_instr text s.pc i (Beq 24 1 2) at b)) as (λ z. slice_index x.0.regs 24 ≡ slice_index x.0.regs 1) [
  | inl k ↦ d.kept 24 (omega arith) ∙ (k.1 ∙ sym (d.kept 1 (omega arith)))
  | inr k ↦ absurd (apart s.pc (sym e ∙ (k.0 ∙ plus_eight text s.pc big t)))
]
  where
    apart : (a : ℕ) → a + 12 ≡ a + 8 → ⊥
    apart a e = omega arith

pub jump_along : (text : List ℕ) (entry : ℕ) (i : Instr) (s : State) (x : State × Option ℕ) → IsText text → WellTyped text entry → Along text entry s → s.npc ≡ s.pc + 4 → At text s.pc i → is_jump i ≡ true → ((rs : ℕ) → At text s.pc (Jr rs) → IsStart text entry (reg s rs)) → Turned i s x → Along text entry x.0
jump_along text entry i s x big w o n at j back d =
    let e : x.0.pc ≡ s.pc + 4 = d.pc ∙ n in
    record {
      same = d.text ∙ o.same;
      long = d.long ∙ o.long;
      zero = d.zero ∙ o.zero;
      inside = subst (λ (a : ℕ). InText text a) (sym e) ((w (s.pc + 4)).slot.inside (slot_here text s.pc i at j));
      marked = λ u h sp y. subst (λ (a : ℕ). Marked h u a x.0.regs) (sym e) (mark_turned text entry u h i s x w o at j d (subst (λ (a : ℕ). InSpan text entry u a) e sp) y);
      loaded = inl d.unloaded;
      stands = behind s.pc i at j e d.slot (jump_way text entry i s x.0.npc big o.inside at back d.leads) (over_same text i s x big o.inside d at);
    }

-- One step of the clean run goes along.

pub slot_behind : (text : List ℕ) (a j : ℕ) (k : Instr) → At text j k → is_jump k ≡ true → a ≡ j + 4 → IsSlot text a
slot_behind text a j k at f e = record { jump_at = j; instr = k; at = at; jumps = f; behind = e }

word_along : (text : List ℕ) (entry : ℕ) (i : Instr) (s : State) (z : Bool) → is_jump i ≡ z → IsText text → WellTyped text entry → Along text entry s → At text s.pc i → ((rs : ℕ) → At text s.pc (Jr rs) → IsStart text entry (reg s rs)) → (perform (act i s) s).0.end ≡ None → Stands text entry s → Along text entry (perform (act i s) s).0
word_along text entry i s true j big w o at back h (plain slot n ns) = jump_along text entry i s (perform (act i s) s) big w o n at j back (turns i s j (n ∙ sym (plus_four text s.pc big o.inside)))
word_along text entry i s true j big w o at back h (behind b k ab f e slot way kept) = absurd ((w s.pc).hazard.jumps i at j (slot_behind text s.pc b k ab f e))
word_along text entry i s false j big w o at back h (plain slot n ns) = plain_along text entry i s (perform (act i s) s).0 big w o n ns at j (λ code. no_break i s code h) (passes i s j h)
word_along text entry i s false j big w o at back h (behind b k ab f e slot way kept) = behind_along text entry i s (perform (act i s) s).0 b k big w o ab f e way kept at (slot_quiet text entry s.pc i w (slot_behind text s.pc b k ab f e) at) (passes i s j h)

pub next_along : (text : List ℕ) (entry : ℕ) (s : State) → IsText text → WellTyped text entry → Along text entry s → s.end ≡ None → IsPlaced entry s → (step s).0.end ≡ None → Along text entry (step s).0
next_along text entry s big w o e p h =
    let f : (i : Instr) × At text s.pc i = (w s.pc).instruction o.inside in
    let at : At s.text s.pc f.0 = subst (λ (t : List ℕ). At t s.pc f.0) (sym o.same) f.1 in
    let d : step s ≡ perform (act f.0 s) s = step_does s f.0 e at (no_hazard s f.0 e at h) in
    let back : (rs : ℕ) → At text s.pc (Jr rs) → IsStart text entry (reg s rs) = λ rs k. subst (λ (t : List ℕ). IsStart t entry (reg s rs)) o.same (p.returns rs (subst (λ (t : List ℕ). At t s.pc (Jr rs)) (sym o.same) k)) in
    subst (λ (x : State × Option ℕ). Along text entry x.0) (sym d)
    (word_along text entry f.0 s (is_jump f.0) refl big w o f.1 back (ap (λ (x : State × Option ℕ). x.0.end) (sym d) ∙ h) o.stands)

-- a branch or jump is reached by the way of words
pub stands_plain : (text : List ℕ) (entry : ℕ) (s : State) (i : Instr) → WellTyped text entry → At text s.pc i → is_jump i ≡ true → Stands text entry s → (s.slot ≡ false) × (s.npc ≡ s.pc + 4)
stands_plain text entry s i w at j (plain slot n ns) = (slot, n)
stands_plain text entry s i w at j (behind b k ab f e slot way kept) = absurd ((w s.pc).hazard.jumps i at j (slot_behind text s.pc b k ab f e))
