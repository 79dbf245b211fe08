-- What the rules say of the words of a text: where starts and delay slots stand, and which word may come before another.
use Rattle.std.proofs.Common.{◌≡◌, ◌≢◌, ℕ, ◌+◌, ◌≤◌, arith, ap, refl, sym, ◌∙◌, subst, List, true, inl, inr}
use Rattle.std.specs.Prelude.{◌⊎◌}
use Rattle.mips_isa.specs.declared.instr.Instr.{Instr}
use Rattle.mips_isa.specs.declared.instr.Instr.TheVariants.{Sll, Break, Ori}
use Rattle.mips_isa.specs.Machine.{is_jump}
use Rattle.mips_text.specs.Text.{IsText, InText, At, BranchAt, IsBranch, SkipsBreak, SkipsReport, branch_goal}
use Rattle.mips_text.specs.Blocks.{IsStart, jumped, called, taken, passed, Head, HeadAt}
use Rattle.mips_text.specs.Typing.{IsSlot, Next, onward}
use Rattle.mips_text.specs.Forms.{WordOf}
use Rattle.harden_lint.specs.Rules.{WellTyped, IsChoosing}
use Rattle.lint_lockstep.specs.Sorts.{IsPlain, Behind}
use Rattle.harden_lint.proofs.Places.{in_text, goal_two, same_offset, SkipOr, skips, skips_none, skip_or, fork_of}

-- which word may come before one that is no start
pub data Before (text : List ℕ) (a b : ℕ) : Type 0 where
  straight : InText text a → (IsSlot text a → ⊥) → ((code : ℕ) → At text a (Break code) → ⊥) → b ≡ a + 4 → Before text a b
  skipped : (j code : ℕ) → SkipsBreak text j code → a ≡ j + 4 → b ≡ j + 12 → Before text a b
  fallen : (j code : ℕ) → SkipsBreak text j code → a ≡ j + 4 → b ≡ j + 8 → Before text a b

taken_before : (text : List ℕ) (entry a b j x y imm : ℕ) → IsText text → BranchAt text j x y imm → a ≡ j + 4 → b ≡ branch_goal j imm → (IsStart text entry b → ⊥) → SkipOr text j → Before text a b
taken_before text entry a b j x y imm f w e g n (skips code k) = skipped j code k e (g ∙ (ap (λ (m : ℕ). branch_goal j m) (same_offset text j x y imm k.x k.y 2 w k.branch) ∙ goal_two text j f (in_text text j w.instr w.at)))
taken_before text entry a b j x y imm f w e g n (skips_none m) = absurd (n (taken j imm (fork_of text j x y imm w m) g))

passed_before : (text : List ℕ) (entry a b j x y imm : ℕ) → BranchAt text j x y imm → a ≡ j + 4 → b ≡ j + 8 → (IsStart text entry b → ⊥) → SkipOr text j → Before text a b
passed_before text entry a b j x y imm w e g n (skips code k) = fallen j code k e g
passed_before text entry a b j x y imm w e g n (skips_none m) = absurd (n (passed j imm (fork_of text j x y imm w m) g))

pub before_of : (text : List ℕ) (entry a b : ℕ) → IsText text → Next text a b → (IsStart text entry b → ⊥) → Before text a b
before_of text entry a b f (onward t s k e) n = straight t s k e
before_of text entry a b f (Next.jumped j target t w e g) n = absurd (n (jumped j target w g))
before_of text entry a b f (Next.called j target t w e g) n = absurd (n (called j target w g))
before_of text entry a b f (Next.taken j x y imm t w e g) n = taken_before text entry a b j x y imm f w e g n (skip_or text j x y imm w)
before_of text entry a b f (Next.passed j x y imm t w s e g) n = passed_before text entry a b j x y imm w e g n (skip_or text j x y imm w)

-- the next words of a word are of a word of the text
pub next_text : (text : List ℕ) (a b : ℕ) → Next text a b → InText text a
next_text text a b (onward t s k e) = t
next_text text a b (Next.jumped j target t w e g) = t
next_text text a b (Next.called j target t w e g) = t
next_text text a b (Next.taken j x y imm t w e g) = t
next_text text a b (Next.passed j x y imm t w s e g) = t

-- a branch is a jump
pub branch_jumps : (i : Instr) (x y imm : ℕ) → IsBranch i x y imm → is_jump i ≡ true
branch_jumps i x y imm (inl e) = ap (λ (j : Instr). is_jump j) e
branch_jumps i x y imm (inr e) = ap (λ (j : Instr). is_jump j) e

pub slot_behind : (text : List ℕ) (a x y imm : ℕ) → BranchAt text a x y imm → IsSlot text (a + 4)
slot_behind text a x y imm b = record { jump_at = a; instr = b.instr; at = b.at; jumps = branch_jumps b.instr x y imm b.is; behind = refl }

-- a nop and an ori are plain
nop_plain : IsPlain (Sll 0 0 0)
nop_plain = record { plain = λ u. (0, (_, refl)); no_product = refl; no_jump = refl }

ori_plain : (n : ℕ) → IsPlain (Ori 2 0 n)
ori_plain n = record { plain = λ u. (2, (_, refl)); no_product = refl; no_jump = refl }

pub record PlainAt (text : List ℕ) (a : ℕ) : Type 0 where
  pub i : Instr
  pub at : At text a i
  pub plain : IsPlain i

chosen_word : (text : List ℕ) (a : ℕ) → IsChoosing text a → PlainAt text a
chosen_word text a c = elim c.form as (λ z. PlainAt text a) [
  | inl o ↦ record { i = Ori 2 0 1; at = subst (λ (x : ℕ). At text x (Ori 2 0 1)) (sym c.at) o.chooses; plain = ori_plain 1 }
  | inr o ↦ record { i = Ori 2 0 17; at = subst (λ (x : ℕ). At text x (Ori 2 0 17)) (sym c.at) o.chooses; plain = ori_plain 17 }
]

module _ (text : List ℕ) (entry : ℕ) (rules_hold : WellTyped text entry) where
  pub start_text : (a : ℕ) → IsStart text entry a → InText text a
  start_text a s = let h : (k : Head) × HeadAt text a k = (rules_hold a).head s in in_text text a _ h.1.differs

  pub slot_no_start : (a : ℕ) → IsSlot text a → IsStart text entry a → ⊥
  slot_no_start a k s = (rules_hold a).slot.no_start k s

  pub slot_word : (a : ℕ) → IsSlot text a → PlainAt text a
  slot_word a k = elim ((rules_hold a).slot.quiet k) as (λ z. PlainAt text a) [
    | inl n ↦ record { i = Sll 0 0 0; at = n; plain = nop_plain }
    | inr c ↦ chosen_word text a c
  ]

  -- what stands behind a branch that skips a report
  pub behind_at : (j : ℕ) → SkipsReport text j → Behind text (j + 4) (j + 8)
  behind_at j (inl k) = let p : PlainAt text (j + 4) = slot_word (j + 4) (slot_behind text j k.x k.y 2 k.branch) in record { i = p.i; is_plain = p.plain; slot = p.at; code = 1; reports = λ at. refl; stop = k.stop }
  behind_at j (inr k) = let p : PlainAt text (j + 4) = slot_word (j + 4) (slot_behind text j k.x k.y 2 k.branch) in record { i = p.i; is_plain = p.plain; slot = p.at; code = 2; reports = λ at. refl; stop = k.stop }

  -- a word of a form but the first is no start
  pub form_no_start : (a k : ℕ) → WordOf text a k → k ≢ 0 → IsStart text entry a → ⊥
  form_no_start a k w n s = n ((rules_hold a).forms.starts s k w)

-- the words of a form, by their numbers
pub third : (k : ℕ) → k ≤ 3 → (k ≡ 0) ⊎ ((k ≡ 1) ⊎ ((k ≡ 2) ⊎ (k ≡ 3)))
third k h = grind arith

pub fourth : (k : ℕ) → k ≤ 4 → (k ≡ 0) ⊎ ((k ≡ 1) ⊎ ((k ≡ 2) ⊎ ((k ≡ 3) ⊎ (k ≡ 4))))
fourth k h = grind arith
