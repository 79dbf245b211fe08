-- The tests decide the next words of a word.
use Rattle.std.proofs.Common.{◌≡◌, ℕ, ◌+◌, ◌-◌, ◌≤◌, arith, ap, refl, sym, ◌∙◌, subst, List, false, true, Bool, cond, inl, inr}
use Rattle.std.specs.Prelude.{Option, Some, None, ◌⊎◌, ◌&&◌, not}
use Rattle.mips_isa.specs.declared.instr.Instr.{Instr}
use Rattle.mips_isa.specs.declared.instr.Instr.TheVariants.{Break, J, Jal, Beq, Bne}
use Rattle.mips_isa.specs.Machine.{is_jump}
use Rattle.mips_text.specs.Text.{InText, At, instr_at, BranchAt, IsBranch, branch_goal, jump_goal}
use Rattle.lint_words.specs.Words.{code_of, skipped}
use Rattle.lint_words.specs.Around.{in_slot, reporting, is_some}
use Rattle.third_lint.specs.Flow.{Next, onward}
use Rattle.third_lint.specs.RuleTests.{goal_of, is_branch, first_next, second_next}
use Rattle.third_lint.proofs.Places.{no_truth, in_text}
use Rattle.third_lint.proofs.Bools.{and_parts, and_both, not_parts, not_is, none_some, some_same}
use Rattle.third_lint.proofs.Around.{slot_is, is_slot, no_code, code_is, report_is, is_report}

-- the next words
four_back : (a : ℕ) → 0x00400000 ≤ a - 4 → a ≡ a - 4 + 4
four_back a h = omega arith

eight_back : (a : ℕ) → 0x00400000 ≤ a - 4 → a + 4 ≡ a - 4 + 8
eight_back a h = omega arith

back_four : (a j : ℕ) → a ≡ j + 4 → j ≡ a - 4
back_four a j h = omega arith

goal_next : (text : List ℕ) (a b : ℕ) → InText text a → (o : Option Instr) → instr_at text (a - 4) ≡ o → goal_of o (a - 4) ≡ Some b → Next text a b
goal_next text a b t None e h = absurd (none_some b h)
goal_next text a b t (Some (J k)) e h = Next.jumped (a - 4) k t e (four_back a (in_text text (a - 4) (J k) e).from) (sym (some_same (jump_goal (a - 4) k) b h))
goal_next text a b t (Some (Jal k)) e h = Next.called (a - 4) k t e (four_back a (in_text text (a - 4) (Jal k) e).from) (sym (some_same (jump_goal (a - 4) k) b h))
goal_next text a b t (Some (Beq x y n)) e h = Next.taken (a - 4) x y n t (record { instr = Beq x y n; at = e; is = inl refl }) (four_back a (in_text text (a - 4) (Beq x y n) e).from) (sym (some_same (branch_goal (a - 4) n) b h))
goal_next text a b t (Some (Bne x y n)) e h = Next.taken (a - 4) x y n t (record { instr = Bne x y n; at = e; is = inr refl }) (four_back a (in_text text (a - 4) (Bne x y n) e).from) (sym (some_same (branch_goal (a - 4) n) b h))
goal_next text a b t (Some _) e h = absurd (none_some b h)

first_by : (text : List ℕ) (a b : ℕ) → InText text a → (x y : Bool) → in_slot text a ≡ x → is_some (code_of (instr_at text a)) ≡ y → cond x (goal_of (instr_at text (a - 4)) (a - 4)) (cond y None (Some (a + 4))) ≡ Some b → Next text a b
first_by text a b t true y e f h = goal_next text a b t (instr_at text (a - 4)) refl h
first_by text a b t false true e f h = absurd (none_some b h)
first_by text a b t false false e f h = onward t (λ s. no_truth (sym e ∙ is_slot text a s)) (no_code text a (not_is (is_some (code_of (instr_at text a))) (λ k. no_truth (sym f ∙ k)))) (sym (some_same (a + 4) b h))

pub first_is : (text : List ℕ) (a b : ℕ) → InText text a → first_next text a ≡ Some b → Next text a b
first_is text a b t h = first_by text a b t (in_slot text a) (is_some (code_of (instr_at text a))) refl refl h

branch_by : (text : List ℕ) (a : ℕ) (o : Option Instr) → instr_at text a ≡ o → is_branch o ≡ true → (x : ℕ) × ((y : ℕ) × ((n : ℕ) × BranchAt text a x y n))
branch_by text a None e h = absurd (no_truth h)
branch_by text a (Some (Beq x y n)) e h = (x, (y, (n, record { instr = Beq x y n; at = e; is = inl refl })))
branch_by text a (Some (Bne x y n)) e h = (x, (y, (n, record { instr = Bne x y n; at = e; is = inr refl })))
branch_by text a (Some _) e h = absurd (no_truth h)

second_by : (text : List ℕ) (a b : ℕ) → InText text a → (z : Bool) → (is_branch (instr_at text (a - 4)) && not (reporting (skipped text (a - 4)))) ≡ z → cond z (Some (a + 4)) None ≡ Some b → Next text a b
second_by text a b t false e h = absurd (none_some b h)
second_by text a b t true e h =
    let p : (is_branch (instr_at text (a - 4)) ≡ true) × (not (reporting (skipped text (a - 4))) ≡ true) = and_parts (is_branch (instr_at text (a - 4))) (not (reporting (skipped text (a - 4)))) e in
    let w : (x : ℕ) × ((y : ℕ) × ((n : ℕ) × BranchAt text (a - 4) x y n)) = branch_by text (a - 4) (instr_at text (a - 4)) refl p.0 in
    let low : 0x00400000 ≤ a - 4 = (in_text text (a - 4) w.1.1.1.instr w.1.1.1.at).from in
    Next.passed (a - 4) w.0 w.1.0 w.1.1.0 t w.1.1.1 (λ r. not_parts (reporting (skipped text (a - 4))) p.1 (is_report text (a - 4) r)) (four_back a low) (sym (some_same (a + 4) b h) ∙ eight_back a low)

pub second_is : (text : List ℕ) (a b : ℕ) → InText text a → second_next text a ≡ Some b → Next text a b
second_is text a b t h = second_by text a b t (is_branch (instr_at text (a - 4)) && not (reporting (skipped text (a - 4)))) refl h

slot_goal : (text : List ℕ) (a b j : ℕ) (i : Instr) → At text j i → is_jump i ≡ true → a ≡ j + 4 → goal_of (Some i) j ≡ Some b → first_next text a ≡ Some b
slot_goal text a b j i h k e g =
    let s : in_slot text a ≡ true = is_slot text a (record { jump_at = j; instr = i; at = h; jumps = k; behind = e }) in
    ap (λ (z : Bool). cond z (goal_of (instr_at text (a - 4)) (a - 4)) (cond (is_some (code_of (instr_at text a))) None (Some (a + 4)))) s
    ∙ (subst (λ (x : ℕ). goal_of (instr_at text x) x ≡ Some b) (back_four a j e) (ap (λ (o : Option Instr). goal_of o j) h ∙ g))

branch_goal_of : (i : Instr) (x y n j : ℕ) → IsBranch i x y n → goal_of (Some i) j ≡ Some (branch_goal j n)
branch_goal_of i x y n j (inl e) = ap (λ (k : Instr). goal_of (Some k) j) e
branch_goal_of i x y n j (inr e) = ap (λ (k : Instr). goal_of (Some k) j) e

branch_jump : (i : Instr) (x y n : ℕ) → IsBranch i x y n → is_jump i ≡ true
branch_jump i x y n (inl e) = ap (λ (k : Instr). is_jump k) e
branch_jump i x y n (inr e) = ap (λ (k : Instr). is_jump k) e

branch_is : (i : Instr) (x y n : ℕ) → IsBranch i x y n → is_branch (Some i) ≡ true
branch_is i x y n (inl e) = ap (λ (k : Instr). is_branch (Some k)) e
branch_is i x y n (inr e) = ap (λ (k : Instr). is_branch (Some k)) e

up_eight : (a j b : ℕ) → a ≡ j + 4 → b ≡ j + 8 → a + 4 ≡ b
up_eight a j b e g = omega arith

pub nexts_of : (text : List ℕ) (a b : ℕ) → Next text a b → (first_next text a ≡ Some b) ⊎ (second_next text a ≡ Some b)
nexts_of text a b (onward t s k e) =
    let x : in_slot text a ≡ false = false_of (in_slot text a) (λ h. s (slot_is text a h)) in
    let y : is_some (code_of (instr_at text a)) ≡ false = false_of (is_some (code_of (instr_at text a))) (λ h. let c : (code : ℕ) × At text a (Break code) = code_is text a h in k c.0 c.1) in
    inl (ap (λ (z : Bool). cond z (goal_of (instr_at text (a - 4)) (a - 4)) (cond (is_some (code_of (instr_at text a))) None (Some (a + 4)))) x ∙ (ap (λ (z : Bool). cond z None (Some (a + 4))) y ∙ ap (λ (v : ℕ). Some v) (sym e)))
  where
    false_of : (z : Bool) → (z ≡ true → ⊥) → z ≡ false
    false_of true n = absurd (n refl)
    false_of false n = refl
nexts_of text a b (Next.jumped j k t w e g) = inl (slot_goal text a b j (J k) w refl e (ap (λ (v : ℕ). Some v) (sym g)))
nexts_of text a b (Next.called j k t w e g) = inl (slot_goal text a b j (Jal k) w refl e (ap (λ (v : ℕ). Some v) (sym g)))
nexts_of text a b (Next.taken j x y n t w e g) = inl (slot_goal text a b j w.instr w.at (branch_jump w.instr x y n w.is) e (branch_goal_of w.instr x y n j w.is ∙ ap (λ (v : ℕ). Some v) (sym g)))
nexts_of text a b (Next.passed j x y n t w s e g) =
    let p : (is_branch (instr_at text j) && not (reporting (skipped text j))) ≡ true = and_both (is_branch (instr_at text j)) (not (reporting (skipped text j))) (ap (λ (o : Option Instr). is_branch o) w.at ∙ branch_is w.instr x y n w.is) (not_is (reporting (skipped text j)) (λ h. s (report_is text j h))) in
    inr (ap (λ (z : Bool). cond z (Some (a + 4)) None) (subst (λ (v : ℕ). (is_branch (instr_at text v) && not (reporting (skipped text v))) ≡ true) (back_four a j e) p) ∙ ap (λ (v : ℕ). Some v) (up_eight a j b e g))
