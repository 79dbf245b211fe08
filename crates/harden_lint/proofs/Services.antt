-- Register 2 around the services: where it must be kept, and what comes before.
use Rattle.std.proofs.Common.{◌≡◌, ◌≢◌, ℕ, suc, ◌+◌, ◌*◌, arith, rules, ap, refl, sym, ◌∙◌, subst, List, inl, inr}
use Rattle.std.specs.Prelude.{◌⊎◌}
use Rattle.mips_isa.specs.declared.instr.Instr.{Instr}
use Rattle.mips_isa.specs.declared.instr.Instr.TheVariants.{Syscall, Break, Addu, Beq, Bne, Ori}
use Rattle.mips_text.specs.Text.{IsText, At, IsBranch, SkipsBreak, Writes}
use Rattle.mips_text.specs.Blocks.{IsStart}
use Rattle.mips_text.specs.Typing.{Role, shadow, Next}
use Rattle.mips_text.specs.Forms.{InputAt, WordOf, output, exit, input}
use Rattle.harden_lint.specs.Rules.{WellTyped}
use Rattle.lint_lockstep.proofs.Fetch.{same_instr}
use Rattle.harden_lint.proofs.Words.{Before, straight, skipped, fallen, before_of, form_no_start, third, fourth}

-- where register 2 is kept, whichever stream is wrong; at the second move of an input it is not where the shadow is
pub data Due (text : List ℕ) (W : Role) (a : ℕ) : Type 0 where
  serving : At text a Syscall → Due text W a
  first : (c : ℕ) → InputAt text c → a ≡ c + 8 → Due text W a
  second : (c : ℕ) → InputAt text c → a ≡ c + 12 → (W ≡ shadow → ⊥) → Due text W a

-- a word moves the result of an input to its first register
pub record MovesFirst (text : List ℕ) (W : Role) (a : ℕ) : Type 0 where
  pub c : ℕ
  pub input : InputAt text c
  pub at : a ≡ c + 8
  pub right : W ≡ shadow → ⊥

-- register 2 is kept at a word because the word before writes it, or is the first move of an input
abbrev pub Given : List ℕ → Role → ℕ → Type 0
Given text W a = Writes text a 2 ⊎ MovesFirst text W a

-- different instructions
serve_ori : (x y n : ℕ) → Syscall ≡ Ori x y n → ⊥
serve_ori x y n h = search (rules, h)

serve_beq : (x y n : ℕ) → Syscall ≡ Beq x y n → ⊥
serve_beq x y n h = search (rules, h)

serve_break : (n : ℕ) → Syscall ≡ Break n → ⊥
serve_break n h = search (rules, h)

serve_addu : (x y z : ℕ) → Syscall ≡ Addu x y z → ⊥
serve_addu x y z h = search (rules, h)

addu_break : (x y z n : ℕ) → Addu x y z ≡ Break n → ⊥
addu_break x y z n h = search (rules, h)

ori_break : (x y z n : ℕ) → Ori x y z ≡ Break n → ⊥
ori_break x y z n h = search (rules, h)

ori_beq : (x y z p q r : ℕ) → Ori x y z ≡ Beq p q r → ⊥
ori_beq x y z p q r h = search (rules, h)

ori_bne : (x y z p q r : ℕ) → Ori x y z ≡ Bne p q r → ⊥
ori_bne x y z p q r h = search (rules, h)

ori_branch : (x y z p q r : ℕ) → IsBranch (Ori x y z) p q r → ⊥
ori_branch x y z p q r (inl h) = ori_beq x y z p q r h
ori_branch x y z p q r (inr h) = ori_bne x y z p q r h

-- moves of addresses
at_move : (text : List ℕ) (a b : ℕ) (i : Instr) → a ≡ b → At text b i → At text a i
at_move text a b i e h = subst (λ (x : ℕ). At text x i) (sym e) h

back8 : (a c : ℕ) → c + 12 ≡ a + 4 → a ≡ c + 8
back8 a c h = omega arith

back4 : (a c : ℕ) → c + 8 ≡ a + 4 → a ≡ c + 4
back4 a c h = omega arith

back0 : (a c : ℕ) → c + 4 ≡ a + 4 → a ≡ c
back0 a c h = omega arith

over12 : (a c j : ℕ) → c + 12 ≡ j + 12 → a ≡ j + 4 → a ≡ c + 4
over12 a c j h k = omega arith

over8 : (c j : ℕ) → c + 8 ≡ j + 12 → j + 8 ≡ c + 4
over8 c j h = omega arith

over4 : (c j : ℕ) → c + 4 ≡ j + 12 → j + 8 ≡ c
over4 c j h = omega arith

over12' : (c j : ℕ) → c + 12 ≡ j + 12 → j + 8 ≡ c + 8
over12' c j h = omega arith

-- where a syscall stands in a form
pub data Serves (text : List ℕ) (b : ℕ) : Type 0 where
  of_check : (c n : ℕ) → b ≡ c + 12 → At text (c + 4) (Ori 2 0 n) → At text (c + 8) (Break 1) → At text (c + 12) Syscall → Serves text b
  of_input : (c : ℕ) → b ≡ c + 4 → InputAt text c → Serves text b

module _ (text : List ℕ) (entry : ℕ) (fits : IsText text) (rules_hold : WellTyped text entry) where
  not_here : (A : Type 0) (b c : ℕ) (i : Instr) → At text b Syscall → b ≡ c → At text c i → (Syscall ≡ i → ⊥) → A
  not_here A b c i s e h n = absurd (n (same_instr text c Syscall i (subst (λ (x : ℕ). At text x Syscall) e s) h))

  pub word_at : (b c k n : ℕ) → b ≡ c + 4 * k → k ≡ n → b ≡ c + 4 * n
  word_at b c k n e h = e ∙ ap (λ (x : ℕ). c + 4 * x) h

  serves_by : (b k : ℕ) → At text b Syscall → WordOf text b k → Serves text b
  serves_by b k s (output c o h e) = elim (third k h) as (λ z. Serves text b) [
    | inl x ↦ not_here (Serves text b) b (c + 0) (Beq 4 14 2) s (word_at b c k 0 e x) (at_move text (c + 0) c (Beq 4 14 2) (omega arith) o.compares) (serve_beq 4 14 2)
    | inr (inl x) ↦ not_here (Serves text b) b (c + 4) (Ori 2 0 1) s (word_at b c k 1 e x) o.chooses (serve_ori 2 0 1)
    | inr (inr (inl x)) ↦ not_here (Serves text b) b (c + 8) (Break 1) s (word_at b c k 2 e x) o.reports (serve_break 1)
    | inr (inr (inr x)) ↦ of_check c 1 (word_at b c k 3 e x) o.chooses o.reports o.serves
  ]
  serves_by b k s (exit c o h e) = elim (fourth k h) as (λ z. Serves text b) [
    | inl x ↦ not_here (Serves text b) b (c + 0) (Beq 4 14 2) s (word_at b c k 0 e x) (at_move text (c + 0) c (Beq 4 14 2) (omega arith) o.compares) (serve_beq 4 14 2)
    | inr (inl x) ↦ not_here (Serves text b) b (c + 4) (Ori 2 0 17) s (word_at b c k 1 e x) o.chooses (serve_ori 2 0 17)
    | inr (inr (inl x)) ↦ not_here (Serves text b) b (c + 8) (Break 1) s (word_at b c k 2 e x) o.reports (serve_break 1)
    | inr (inr (inr (inl x))) ↦ of_check c 17 (word_at b c k 3 e x) o.chooses o.reports o.serves
    | inr (inr (inr (inr x))) ↦ not_here (Serves text b) b (c + 16) (Break 1) s (word_at b c k 4 e x) o.stops (serve_break 1)
  ]
  serves_by b k s (input c o h e) = elim (third k h) as (λ z. Serves text b) [
    | inl x ↦ not_here (Serves text b) b (c + 0) (Ori 2 0 5) s (word_at b c k 0 e x) (at_move text (c + 0) c (Ori 2 0 5) (omega arith) o.chooses) (serve_ori 2 0 5)
    | inr (inl x) ↦ of_input c (word_at b c k 1 e x) o
    | inr (inr (inl x)) ↦ not_here (Serves text b) b (c + 8) (Addu o.m 2 0) s (word_at b c k 2 e x) o.first (serve_addu o.m 2 0)
    | inr (inr (inr x)) ↦ not_here (Serves text b) b (c + 12) (Addu o.s 2 0) s (word_at b c k 3 e x) o.second (serve_addu o.s 2 0)
  ]

  pub serves_of : (b : ℕ) → At text b Syscall → Serves text b
  serves_of b s = let w : (k : ℕ) × WordOf text b k = (rules_hold b).forms.serves (record { instr = Syscall; at = s; uses = refl }) in serves_by b w.0 s w.1

  -- before a syscall register 2 is written
  ori_writes : (a n : ℕ) → At text a (Ori 2 0 n) → Writes text a 2
  ori_writes a n h = record { instr = Ori 2 0 n; at = h; writes = refl }

  no_branch_on : (A : Type 0) (j n code : ℕ) (c : ℕ) → SkipsBreak text j code → j ≡ c → At text c (Ori 2 0 n) → A
  no_branch_on A j n code c k e h = absurd (ori_branch 2 0 n k.x k.y 2 (subst (λ (i : Instr). IsBranch i k.x k.y 2) (same_instr text j k.branch.instr (Ori 2 0 n) k.branch.at (at_move text j c (Ori 2 0 n) e h)) k.branch.is))

  no_break_on : (A : Type 0) (j code c : ℕ) (i : Instr) → SkipsBreak text j code → j + 8 ≡ c → At text c i → (i ≡ Break code → ⊥) → A
  no_break_on A j code c i k e h n = absurd (n (same_instr text c i (Break code) h (subst (λ (x : ℕ). At text x (Break code)) e k.stop)))

  back4_of : (j b c : ℕ) → b ≡ j + 8 → b ≡ c + 12 → j ≡ c + 4
  back4_of j b c h k = omega arith

  writes_before : (a b : ℕ) → At text b Syscall → Serves text b → Before text a b → Writes text a 2
  writes_before a b s (of_check c n e o r v) (straight t k m g) = absurd (m 1 (at_move text a (c + 8) (Break 1) (back8 a c (sym e ∙ g)) r))
  writes_before a b s (of_check c n e o r v) (skipped j code k h g) = ori_writes a n (at_move text a (c + 4) (Ori 2 0 n) (over12 a c j (sym e ∙ g) h) o)
  writes_before a b s (of_check c n e o r v) (fallen j code k h g) = no_branch_on (Writes text a 2) j n code (c + 4) k (back4_of j b c g e) o
  writes_before a b s (of_input c e o) (straight t k m g) = ori_writes a 5 (at_move text a c (Ori 2 0 5) (back0 a c (sym e ∙ g)) o.chooses)
  writes_before a b s (of_input c e o) (skipped j code k h g) = no_break_on (Writes text a 2) j code c (Ori 2 0 5) k (over4 c j (sym e ∙ g)) o.chooses (ori_break 2 0 5 code)
  writes_before a b s (of_input c e o) (fallen j code k h g) = no_break_on (Writes text a 2) j code b Syscall k (sym g) s (serve_break code)

  -- what comes before a word at which register 2 is kept
  given_by : (W : Role) (a b : ℕ) → Due text W b → Before text a b → Given text W a
  given_by W a b (serving s) w = inl (writes_before a b s (serves_of b s) w)
  given_by W a b (first c o e) (straight t k m g) = inl (record { instr = Syscall; at = at_move text a (c + 4) Syscall (back4 a c (sym e ∙ g)) o.serves; writes = refl })
  given_by W a b (first c o e) (skipped j code k h g) = no_break_on (Given text W a) j code (c + 4) Syscall k (over8 c j (sym e ∙ g)) o.serves (serve_break code)
  given_by W a b (first c o e) (fallen j code k h g) = no_break_on (Given text W a) j code (c + 8) (Addu o.m 2 0) k (sym g ∙ e) o.first (addu_break o.m 2 0 code)
  given_by W a b (second c o e n) (straight t k m g) = inr (record { c = c; input = o; at = back8 a c (sym e ∙ g); right = n })
  given_by W a b (second c o e n) (skipped j code k h g) = no_break_on (Given text W a) j code (c + 8) (Addu o.m 2 0) k (over12' c j (sym e ∙ g)) o.first (addu_break o.m 2 0 code)
  given_by W a b (second c o e n) (fallen j code k h g) = no_break_on (Given text W a) j code (c + 12) (Addu o.s 2 0) k (sym g ∙ e) o.second (addu_break o.s 2 0 code)

  -- such a word is no start
  apart : (n : ℕ) → suc n ≡ 0 → ⊥
  apart n h = omega arith

  check_word : (b k : ℕ) → At text b Syscall → WordOf text b k → k ≢ 0
  check_word b k s (output c o h e) z = absurd (serve_beq 4 14 2 (same_instr text b Syscall (Beq 4 14 2) s (at_move text b c (Beq 4 14 2) (word_at b c k 0 e z ∙ omega arith) o.compares)))
  check_word b k s (exit c o h e) z = absurd (serve_beq 4 14 2 (same_instr text b Syscall (Beq 4 14 2) s (at_move text b c (Beq 4 14 2) (word_at b c k 0 e z ∙ omega arith) o.compares)))
  check_word b k s (input c o h e) z = absurd (serve_ori 2 0 5 (same_instr text b Syscall (Ori 2 0 5) s (at_move text b c (Ori 2 0 5) (word_at b c k 0 e z ∙ omega arith) o.chooses)))

  pub due_no_start : (W : Role) (b : ℕ) → Due text W b → IsStart text entry b → ⊥
  due_no_start W b (serving s) = let w : (k : ℕ) × WordOf text b k = (rules_hold b).forms.serves (record { instr = Syscall; at = s; uses = refl }) in form_no_start text entry rules_hold b w.0 w.1 (check_word b w.0 s w.1)
  due_no_start W b (first c o e) = form_no_start text entry rules_hold b 2 (input c o (omega arith) e) (λ h. apart 1 h)
  due_no_start W b (second c o e n) = form_no_start text entry rules_hold b 3 (input c o (omega arith) e) (λ h. apart 2 h)

  pub given : (W : Role) (a b : ℕ) → Next text a b → Due text W b → Given text W a
  given W a b n d = given_by W a b d (before_of text entry a b fits n (due_no_start W b d))

  -- the syscall of an input comes behind its ori alone
  five_by : (a b c : ℕ) → InputAt text c → b ≡ c + 4 → Before text a b → a ≡ c
  five_by a b c o e (straight t k m g) = back0 a c (sym e ∙ g)
  five_by a b c o e (skipped j code k h g) = no_break_on (a ≡ c) j code c (Ori 2 0 5) k (over4 c j (sym e ∙ g)) o.chooses (ori_break 2 0 5 code)
  five_by a b c o e (fallen j code k h g) = no_break_on (a ≡ c) j code (c + 4) Syscall k (sym g ∙ e) o.serves (serve_break code)

  pub five_source : (a b c : ℕ) → Next text a b → InputAt text c → b ≡ c + 4 → a ≡ c
  five_source a b c n o e = five_by a b c o e (before_of text entry a b fits n (form_no_start text entry rules_hold b 1 (input c o (omega arith) e) (λ h. apart 0 h)))

  pub five_no_start : (b c : ℕ) → InputAt text c → b ≡ c + 4 → IsStart text entry b → ⊥
  five_no_start b c o e = form_no_start text entry rules_hold b 1 (input c o (omega arith) e) (λ h. apart 0 h)
