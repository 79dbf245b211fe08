-- Which word may come before another.
use Rattle.std.proofs.Common.{◌≡◌, ℕ, ◌+◌, ap, refl, ◌∙◌, List, true, inl, inr}
use Rattle.mips_isa.specs.declared.instr.Instr.{Instr}
use Rattle.mips_isa.specs.declared.instr.Instr.TheVariants.{Break}
use Rattle.mips_isa.specs.Machine.{is_jump}
use Rattle.mips_text.specs.Text.{IsText, InText, At, BranchAt, IsBranch, SkipsBreak, branch_goal}
use Rattle.mips_text.specs.Blocks.{IsStart, jumped, called, taken, passed}
use Rattle.third_lint.specs.Flow.{IsSlot, Next, onward}
use Rattle.third_lint.proofs.Places.{in_text, goal_two, same_offset, SkipOr, skips, skips_none, skip_or, fork_of}

-- which word may come before one that is no start
pub data Before (text : List ℕ) (a b : ℕ) : Type 0 where
  straight : InText text a → (IsSlot text a → ⊥) → ((code : ℕ) → At text a (Break code) → ⊥) → b ≡ a + 4 → Before text a b
  skipped : (j code : ℕ) → SkipsBreak text j code → a ≡ j + 4 → b ≡ j + 12 → Before text a b
  fallen : (j code : ℕ) → SkipsBreak text j code → a ≡ j + 4 → b ≡ j + 8 → Before text a b

taken_before : (text : List ℕ) (entry a b j x y imm : ℕ) → IsText text → BranchAt text j x y imm → a ≡ j + 4 → b ≡ branch_goal j imm → (IsStart text entry b → ⊥) → SkipOr text j → Before text a b
taken_before text entry a b j x y imm f w e g n (skips code k) = skipped j code k e (g ∙ (ap (λ (m : ℕ). branch_goal j m) (same_offset text j x y imm k.x k.y 2 w k.branch) ∙ goal_two text j f (in_text text j w.instr w.at)))
taken_before text entry a b j x y imm f w e g n (skips_none m) = absurd (n (taken j imm (fork_of text j x y imm w m) g))

passed_before : (text : List ℕ) (entry a b j x y imm : ℕ) → BranchAt text j x y imm → a ≡ j + 4 → b ≡ j + 8 → (IsStart text entry b → ⊥) → SkipOr text j → Before text a b
passed_before text entry a b j x y imm w e g n (skips code k) = fallen j code k e g
passed_before text entry a b j x y imm w e g n (skips_none m) = absurd (n (passed j imm (fork_of text j x y imm w m) g))

pub before_of : (text : List ℕ) (entry a b : ℕ) → IsText text → Next text a b → (IsStart text entry b → ⊥) → Before text a b
before_of text entry a b f (onward t s k e) n = straight t s k e
before_of text entry a b f (Next.jumped j target t w e g) n = absurd (n (jumped j target w g))
before_of text entry a b f (Next.called j target t w e g) n = absurd (n (called j target w g))
before_of text entry a b f (Next.taken j x y imm t w e g) n = taken_before text entry a b j x y imm f w e g n (skip_or text j x y imm w)
before_of text entry a b f (Next.passed j x y imm t w s e g) n = passed_before text entry a b j x y imm w e g n (skip_or text j x y imm w)

-- the next words of a word are of a word of the text
pub next_text : (text : List ℕ) (a b : ℕ) → Next text a b → InText text a
next_text text a b (onward t s k e) = t
next_text text a b (Next.jumped j target t w e g) = t
next_text text a b (Next.called j target t w e g) = t
next_text text a b (Next.taken j x y imm t w e g) = t
next_text text a b (Next.passed j x y imm t w s e g) = t

-- a branch is a jump
pub branch_jumps : (i : Instr) (x y imm : ℕ) → IsBranch i x y imm → is_jump i ≡ true
branch_jumps i x y imm (inl e) = ap (λ (j : Instr). is_jump j) e
branch_jumps i x y imm (inr e) = ap (λ (j : Instr). is_jump j) e

pub slot_behind : (text : List ℕ) (a x y imm : ℕ) → BranchAt text a x y imm → IsSlot text (a + 4)
slot_behind text a x y imm b = record { jump_at = a; instr = b.instr; at = b.at; jumps = branch_jumps b.instr x y imm b.is; behind = refl }
