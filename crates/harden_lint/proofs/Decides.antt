-- The tests decide the rules.
use Rattle.std.proofs.Common.{◌≡◌, ℕ, ◌+◌, ◌-◌, ◌*◌, ◌≤◌, arith, ap, refl, sym, ◌∙◌, subst, List, [], ◌∷◌, ◌++◌, false, true, Bool, cond, inl, inr}
use Rattle.std.specs.Prelude.{Option, Some, None, ◌⊎◌, ◌==◌, ◌||◌, ◌&&◌, not, IsTrue}
use Rattle.mips_isa.specs.declared.instr.Instr.{Instr}
use Rattle.mips_isa.specs.declared.instr.Instr.TheVariants.{Break, J, Jal, Beq, Bne}
use Rattle.mips_isa.specs.Rows.{row, pair_of}
use Rattle.mips_isa.proofs.Pairs.{reads_are, writes_are}
use Rattle.mips_isa.specs.Machine.{IsPairOf, among, reads_of, writes_of, is_jump}
use Rattle.mips_text.specs.Text.{InText, At, instr_at, Reads, Writes, Uses, used_of, BranchAt, IsBranch, branch_goal, jump_goal}
use Rattle.mips_text.specs.Typing.{Role, master, shadow, signs, Of, Next, onward}
use Rattle.mips_text.specs.Forms.{OutputAt, ExitAt, InputAt, WordOf, output, exit, input}
use Rattle.harden_lint.specs.Rules.{OneStream}
use Rattle.harden_lint.proofs.Places.{no_truth, in_text}
use Rattle.harden_lint.proofs.Words.{third}
use Rattle.harden_lint.proofs.Keeps.{zero_free}
use Rattle.lint_lockstep.specs.Sorts.{Among}
use Rattle.harden_lint.proofs.Streams.{to_among, from_among, joins_left, joins_right}
use Rattle.lint_words.specs.Words.{code_of, skipped}
use Rattle.lint_words.specs.Around.{reads_by, writes_by, uses_by, in_slot, reporting, is_some}
use Rattle.harden_lint.specs.StreamTests.{of}
use Rattle.lint_words.specs.Shapes.{output_at, exit_at, input_at, form_at, form_behind, in_form}
use Rattle.harden_lint.specs.RuleTests.{goal_of, is_branch, first_next, second_next, keeps_one, keeps_pair, of_stream, one_stream, signs_pair, uses_signs}
use Rattle.harden_lint.proofs.StartTable.{none_some, some_same}
use Rattle.harden_lint.proofs.Around.{and_parts, and_both, or_parts, or_first, or_second, not_parts, not_is, same_number, number_same, reads_is, is_reads, writes_is, is_writes, slot_is, is_slot, no_code, code_is, report_is, is_report}
use Rattle.harden_lint.proofs.Windows.{of_is, is_of}
use Rattle.harden_lint.proofs.Patterns.{output_is, is_output, exit_is, is_exit, input_is, is_input}

-- words of forms
minus_form : (a n : ℕ) → 0x00400000 ≤ a - n → n ≤ 16 → a ≡ a - n + n
minus_form a n h k = omega arith

form_low : (text : List ℕ) (c : ℕ) → form_at text c ≡ true → 0x00400000 ≤ c
form_low text c h = elim (or_parts (output_at text c) (exit_at text c || input_at text c) h) as (λ z. 0x00400000 ≤ c) [
  | inl k ↦ (in_text text c _ (output_is text c k).compares).from
  | inr k ↦ elim (or_parts (exit_at text c) (input_at text c) k) as (λ z. 0x00400000 ≤ c) [ inl k ↦ (in_text text c _ (exit_is text c k).compares).from | inr k ↦ (in_text text c _ (input_is text c k).chooses).from ]
]

more_four : (k : ℕ) → k ≤ 3 → k ≤ 4
more_four k h = omega arith

form_word : (text : List ℕ) (a c k : ℕ) → form_at text c ≡ true → k ≤ 3 → a ≡ c + 4 * k → WordOf text a k
form_word text a c k h l e = elim (or_parts (output_at text c) (exit_at text c || input_at text c) h) as (λ z. WordOf text a k) [
  | inl m ↦ output c (output_is text c m) l e
  | inr m ↦ elim (or_parts (exit_at text c) (input_at text c) m) as (λ z. WordOf text a k) [ inl n ↦ exit c (exit_is text c n) (more_four k l) e | inr n ↦ input c (input_is text c n) l e ]
]

same_self : (a : ℕ) → a ≡ a + 4 * 0
same_self a = omega arith

pub record Behind (text : List ℕ) (a : ℕ) : Type 0 where
  pub k : ℕ
  pub positive : 1 ≤ k
  pub word : WordOf text a k

pub behind_is : (text : List ℕ) (a : ℕ) → form_behind text a ≡ true → Behind text a
behind_is text a h = elim (or_parts (form_at text (a - 4)) (form_at text (a - 8) || (form_at text (a - 12) || exit_at text (a - 16))) h) as (λ z. Behind text a) [
  | inl k ↦ record { k = 1; positive = omega arith; word = form_word text a (a - 4) 1 k (omega arith) (minus_form a 4 (form_low text (a - 4) k) (omega arith)) }
  | inr k ↦ elim (or_parts (form_at text (a - 8)) (form_at text (a - 12) || exit_at text (a - 16)) k) as (λ z. Behind text a) [
    | inl k ↦ record { k = 2; positive = omega arith; word = form_word text a (a - 8) 2 k (omega arith) (minus_form a 8 (form_low text (a - 8) k) (omega arith)) }
    | inr k ↦ elim (or_parts (form_at text (a - 12)) (exit_at text (a - 16)) k) as (λ z. Behind text a) [
      | inl k ↦ record { k = 3; positive = omega arith; word = form_word text a (a - 12) 3 k (omega arith) (minus_form a 12 (form_low text (a - 12) k) (omega arith)) }
      | inr k ↦ let o : ExitAt text (a - 16) = exit_is text (a - 16) k in record { k = 4; positive = omega arith; word = exit (a - 16) o (omega arith) (minus_form a 16 (in_text text (a - 16) _ o.compares).from (omega arith)) }
    ]
  ]
]

pub in_form_is : (text : List ℕ) (a : ℕ) → in_form text a ≡ true → (k : ℕ) × WordOf text a k
in_form_is text a h = elim (or_parts (form_at text a) (form_behind text a) h) as (λ z. (k : ℕ) × WordOf text a k) [
  | inl k ↦ (0, form_word text a a 0 k (omega arith) (same_self a))
  | inr k ↦ let b : Behind text a = behind_is text a k in (b.k, b.word)
]

form_output : (text : List ℕ) (c : ℕ) → OutputAt text c → form_at text c ≡ true
form_output text c o = or_first (output_at text c) (exit_at text c || input_at text c) (is_output text c o)

form_exit : (text : List ℕ) (c : ℕ) → ExitAt text c → form_at text c ≡ true
form_exit text c o = or_second (output_at text c) (exit_at text c || input_at text c) (or_first (exit_at text c) (input_at text c) (is_exit text c o))

form_input : (text : List ℕ) (c : ℕ) → InputAt text c → form_at text c ≡ true
form_input text c o = or_second (output_at text c) (exit_at text c || input_at text c) (or_second (exit_at text c) (input_at text c) (is_input text c o))

at_place : (a c k n : ℕ) → a ≡ c + 4 * k → k ≡ n → c ≡ a - 4 * n
at_place a c k n e h = omega arith

placed_three : (text : List ℕ) (a c k : ℕ) → form_at text c ≡ true → k ≤ 3 → a ≡ c + 4 * k → ((k ≡ 0) × (form_at text a ≡ true)) ⊎ ((1 ≤ k) × (form_behind text a ≡ true))
placed_three text a c k f h e =
    let at : (n : ℕ) → k ≡ n → form_at text (a - 4 * n) ≡ true = λ n x. subst (λ (v : ℕ). form_at text v ≡ true) (at_place a c k n e x) f in
    let y : Bool = form_at text (a - 8) || (form_at text (a - 12) || exit_at text (a - 16)) in
    elim (third k h) as (λ z. ((k ≡ 0) × (form_at text a ≡ true)) ⊎ ((1 ≤ k) × (form_behind text a ≡ true))) [
      | inl x ↦ inl (x, subst (λ (v : ℕ). form_at text v ≡ true) (minus_none a) (at 0 x))
      | inr (inl x) ↦ inr (one_le k 1 x (omega arith), or_first (form_at text (a - 4)) y (at 1 x))
      | inr (inr (inl x)) ↦ inr (one_le k 2 x (omega arith), or_second (form_at text (a - 4)) y (or_first (form_at text (a - 8)) (form_at text (a - 12) || exit_at text (a - 16)) (at 2 x)))
      | inr (inr (inr x)) ↦ inr (one_le k 3 x (omega arith), or_second (form_at text (a - 4)) y (or_second (form_at text (a - 8)) (form_at text (a - 12) || exit_at text (a - 16)) (or_first (form_at text (a - 12)) (exit_at text (a - 16)) (at 3 x))))
    ]
  where
    minus_none : (a : ℕ) → a - 4 * 0 ≡ a
    minus_none a = omega arith

    one_le : (k n : ℕ) → k ≡ n → 1 ≤ n → 1 ≤ k
    one_le k n e h = omega arith

upto_three : (k : ℕ) → k ≤ 4 → (k ≤ 3) ⊎ (k ≡ 4)
upto_three k h = grind arith

pub word_places : (text : List ℕ) (a k : ℕ) → WordOf text a k → ((k ≡ 0) × (form_at text a ≡ true)) ⊎ ((1 ≤ k) × (form_behind text a ≡ true))
word_places text a k (output c o h e) = placed_three text a c k (form_output text c o) h e
word_places text a k (input c o h e) = placed_three text a c k (form_input text c o) h e
word_places text a k (exit c o h e) = elim (upto_three k h) as (λ z. ((k ≡ 0) × (form_at text a ≡ true)) ⊎ ((1 ≤ k) × (form_behind text a ≡ true))) [
  | inl l ↦ placed_three text a c k (form_exit text c o) l e
  | inr x ↦ inr (four_le k x, or_second (form_at text (a - 4)) (form_at text (a - 8) || (form_at text (a - 12) || exit_at text (a - 16))) (or_second (form_at text (a - 8)) (form_at text (a - 12) || exit_at text (a - 16)) (or_second (form_at text (a - 12)) (exit_at text (a - 16)) (subst (λ (v : ℕ). exit_at text v ≡ true) (at_place a c k 4 e x) (is_exit text c o)))))
]
  where
    four_le : (k : ℕ) → k ≡ 4 → 1 ≤ k
    four_le k e = omega arith

pub is_in_form : (text : List ℕ) (a k : ℕ) → WordOf text a k → in_form text a ≡ true
is_in_form text a k w = elim (word_places text a k w) as (λ z. in_form text a ≡ true) [ inl h ↦ or_first (form_at text a) (form_behind text a) h.1 | inr h ↦ or_second (form_at text a) (form_behind text a) h.1 ]

pub not_one : (k : ℕ) → (1 ≤ k → ⊥) → k ≡ 0
not_one k n = by (zero_or k)
  where
    zero_or : (k : ℕ) → (k ≡ 0) ⊎ (1 ≤ k)
    zero_or k = grind arith

    by : (k ≡ 0) ⊎ (1 ≤ k) → k ≡ 0
    by (inl e) = e
    by (inr h) = absurd (n h)

-- the next words
four_back : (a : ℕ) → 0x00400000 ≤ a - 4 → a ≡ a - 4 + 4
four_back a h = omega arith

eight_back : (a : ℕ) → 0x00400000 ≤ a - 4 → a + 4 ≡ a - 4 + 8
eight_back a h = omega arith

back_four : (a j : ℕ) → a ≡ j + 4 → j ≡ a - 4
back_four a j h = omega arith

goal_next : (text : List ℕ) (a b : ℕ) → InText text a → (o : Option Instr) → instr_at text (a - 4) ≡ o → goal_of o (a - 4) ≡ Some b → Next text a b
goal_next text a b t None e h = absurd (none_some b h)
goal_next text a b t (Some (J k)) e h = Next.jumped (a - 4) k t e (four_back a (in_text text (a - 4) (J k) e).from) (sym (some_same (jump_goal (a - 4) k) b h))
goal_next text a b t (Some (Jal k)) e h = Next.called (a - 4) k t e (four_back a (in_text text (a - 4) (Jal k) e).from) (sym (some_same (jump_goal (a - 4) k) b h))
goal_next text a b t (Some (Beq x y n)) e h = Next.taken (a - 4) x y n t (record { instr = Beq x y n; at = e; is = inl refl }) (four_back a (in_text text (a - 4) (Beq x y n) e).from) (sym (some_same (branch_goal (a - 4) n) b h))
goal_next text a b t (Some (Bne x y n)) e h = Next.taken (a - 4) x y n t (record { instr = Bne x y n; at = e; is = inr refl }) (four_back a (in_text text (a - 4) (Bne x y n) e).from) (sym (some_same (branch_goal (a - 4) n) b h))
goal_next text a b t (Some _) e h = absurd (none_some b h)

first_by : (text : List ℕ) (a b : ℕ) → InText text a → (x y : Bool) → in_slot text a ≡ x → is_some (code_of (instr_at text a)) ≡ y → cond x (goal_of (instr_at text (a - 4)) (a - 4)) (cond y None (Some (a + 4))) ≡ Some b → Next text a b
first_by text a b t true y e f h = goal_next text a b t (instr_at text (a - 4)) refl h
first_by text a b t false true e f h = absurd (none_some b h)
first_by text a b t false false e f h = onward t (λ s. no_truth (sym e ∙ is_slot text a s)) (no_code text a (not_is (is_some (code_of (instr_at text a))) (λ k. no_truth (sym f ∙ k)))) (sym (some_same (a + 4) b h))

pub first_is : (text : List ℕ) (a b : ℕ) → InText text a → first_next text a ≡ Some b → Next text a b
first_is text a b t h = first_by text a b t (in_slot text a) (is_some (code_of (instr_at text a))) refl refl h

branch_by : (text : List ℕ) (a : ℕ) (o : Option Instr) → instr_at text a ≡ o → is_branch o ≡ true → (x : ℕ) × ((y : ℕ) × ((n : ℕ) × BranchAt text a x y n))
branch_by text a None e h = absurd (no_truth h)
branch_by text a (Some (Beq x y n)) e h = (x, (y, (n, record { instr = Beq x y n; at = e; is = inl refl })))
branch_by text a (Some (Bne x y n)) e h = (x, (y, (n, record { instr = Bne x y n; at = e; is = inr refl })))
branch_by text a (Some _) e h = absurd (no_truth h)

second_by : (text : List ℕ) (a b : ℕ) → InText text a → (z : Bool) → (is_branch (instr_at text (a - 4)) && not (reporting (skipped text (a - 4)))) ≡ z → cond z (Some (a + 4)) None ≡ Some b → Next text a b
second_by text a b t false e h = absurd (none_some b h)
second_by text a b t true e h =
    let p : (is_branch (instr_at text (a - 4)) ≡ true) × (not (reporting (skipped text (a - 4))) ≡ true) = and_parts (is_branch (instr_at text (a - 4))) (not (reporting (skipped text (a - 4)))) e in
    let w : (x : ℕ) × ((y : ℕ) × ((n : ℕ) × BranchAt text (a - 4) x y n)) = branch_by text (a - 4) (instr_at text (a - 4)) refl p.0 in
    let low : 0x00400000 ≤ a - 4 = (in_text text (a - 4) w.1.1.1.instr w.1.1.1.at).from in
    Next.passed (a - 4) w.0 w.1.0 w.1.1.0 t w.1.1.1 (λ r. not_parts (reporting (skipped text (a - 4))) p.1 (is_report text (a - 4) r)) (four_back a low) (sym (some_same (a + 4) b h) ∙ eight_back a low)

pub second_is : (text : List ℕ) (a b : ℕ) → InText text a → second_next text a ≡ Some b → Next text a b
second_is text a b t h = second_by text a b t (is_branch (instr_at text (a - 4)) && not (reporting (skipped text (a - 4)))) refl h

slot_goal : (text : List ℕ) (a b j : ℕ) (i : Instr) → At text j i → is_jump i ≡ true → a ≡ j + 4 → goal_of (Some i) j ≡ Some b → first_next text a ≡ Some b
slot_goal text a b j i h k e g =
    let s : in_slot text a ≡ true = is_slot text a (record { jump_at = j; instr = i; at = h; jumps = k; behind = e }) in
    ap (λ (z : Bool). cond z (goal_of (instr_at text (a - 4)) (a - 4)) (cond (is_some (code_of (instr_at text a))) None (Some (a + 4)))) s
    ∙ (subst (λ (x : ℕ). goal_of (instr_at text x) x ≡ Some b) (back_four a j e) (ap (λ (o : Option Instr). goal_of o j) h ∙ g))

branch_goal_of : (i : Instr) (x y n j : ℕ) → IsBranch i x y n → goal_of (Some i) j ≡ Some (branch_goal j n)
branch_goal_of i x y n j (inl e) = ap (λ (k : Instr). goal_of (Some k) j) e
branch_goal_of i x y n j (inr e) = ap (λ (k : Instr). goal_of (Some k) j) e

branch_jump : (i : Instr) (x y n : ℕ) → IsBranch i x y n → is_jump i ≡ true
branch_jump i x y n (inl e) = ap (λ (k : Instr). is_jump k) e
branch_jump i x y n (inr e) = ap (λ (k : Instr). is_jump k) e

branch_is : (i : Instr) (x y n : ℕ) → IsBranch i x y n → is_branch (Some i) ≡ true
branch_is i x y n (inl e) = ap (λ (k : Instr). is_branch (Some k)) e
branch_is i x y n (inr e) = ap (λ (k : Instr). is_branch (Some k)) e

up_eight : (a j b : ℕ) → a ≡ j + 4 → b ≡ j + 8 → a + 4 ≡ b
up_eight a j b e g = omega arith

pub nexts_of : (text : List ℕ) (a b : ℕ) → Next text a b → (first_next text a ≡ Some b) ⊎ (second_next text a ≡ Some b)
nexts_of text a b (onward t s k e) =
    let x : in_slot text a ≡ false = false_of (in_slot text a) (λ h. s (slot_is text a h)) in
    let y : is_some (code_of (instr_at text a)) ≡ false = false_of (is_some (code_of (instr_at text a))) (λ h. let c : (code : ℕ) × At text a (Break code) = code_is text a h in k c.0 c.1) in
    inl (ap (λ (z : Bool). cond z (goal_of (instr_at text (a - 4)) (a - 4)) (cond (is_some (code_of (instr_at text a))) None (Some (a + 4)))) x ∙ (ap (λ (z : Bool). cond z None (Some (a + 4))) y ∙ ap (λ (v : ℕ). Some v) (sym e)))
  where
    false_of : (z : Bool) → (z ≡ true → ⊥) → z ≡ false
    false_of true n = absurd (n refl)
    false_of false n = refl
nexts_of text a b (Next.jumped j k t w e g) = inl (slot_goal text a b j (J k) w refl e (ap (λ (v : ℕ). Some v) (sym g)))
nexts_of text a b (Next.called j k t w e g) = inl (slot_goal text a b j (Jal k) w refl e (ap (λ (v : ℕ). Some v) (sym g)))
nexts_of text a b (Next.taken j x y n t w e g) = inl (slot_goal text a b j w.instr w.at (branch_jump w.instr x y n w.is) e (branch_goal_of w.instr x y n j w.is ∙ ap (λ (v : ℕ). Some v) (sym g)))
nexts_of text a b (Next.passed j x y n t w s e g) =
    let p : (is_branch (instr_at text j) && not (reporting (skipped text j))) ≡ true = and_both (is_branch (instr_at text j)) (not (reporting (skipped text j))) (ap (λ (o : Option Instr). is_branch o) w.at ∙ branch_is w.instr x y n w.is) (not_is (reporting (skipped text j)) (λ h. s (report_is text j h))) in
    inr (ap (λ (z : Bool). cond z (Some (a + 4)) None) (subst (λ (v : ℕ). (is_branch (instr_at text v) && not (reporting (skipped text v))) ≡ true) (back_four a j e) p) ∙ ap (λ (v : ℕ). Some v) (up_eight a j b e g))

-- registers by pairs
-- a test of each register that an instruction uses
used_split : (i : Instr) (r : ℕ) → IsTrue (among r (used_of i)) → IsTrue (among r (writes_of i)) ⊎ IsTrue (among r (reads_of i))
used_split i r h = by (writes_of i) (to_among r (used_of i) h)
  where
    by : (l : List ℕ) → Among r (l ++ reads_of i) → IsTrue (among r l) ⊎ IsTrue (among r (reads_of i))
    by [] m = inr (from_among r (reads_of i) m)
    by (x ∷ l) (inl e) = inl (from_among r (x ∷ l) (inl e))
    by (x ∷ l) (inr m) = elim (by l m) as (λ z. IsTrue (among r (x ∷ l)) ⊎ IsTrue (among r (reads_of i))) [ inl k ↦ inl (from_among r (x ∷ l) (inr (to_among r l k))) | inr k ↦ inr k ]

abbrev Kept : Role → ℕ → Type 0
Kept X r = (r ≡ 0) ⊎ ((r ≡ 2) ⊎ Of X r)

one_kept : (X : Role) (r : ℕ) → keeps_one X r ≡ true → Kept X r
one_kept X r h = elim (or_parts (r == 0) ((r == 2) || of X r) h) as (λ z. Kept X r) [
  | inl k ↦ inl (same_number r 0 k)
  | inr k ↦ elim (or_parts (r == 2) (of X r) k) as (λ z. Kept X r) [ inl k ↦ inr (inl (same_number r 2 k)) | inr k ↦ inr (inr (of_is X r k)) ]
]

kept_one : (X : Role) (r : ℕ) → Kept X r → keeps_one X r ≡ true
kept_one X r (inl e) = or_first (r == 0) ((r == 2) || of X r) (number_same r 0 e)
kept_one X r (inr (inl e)) = or_second (r == 0) ((r == 2) || of X r) (or_first (r == 2) (of X r) (number_same r 2 e))
kept_one X r (inr (inr e)) = or_second (r == 0) ((r == 2) || of X r) (or_second (r == 2) (of X r) (is_of X r e))

pair_kept : (X : Role) (l : List ℕ) (u : ℕ × ℕ) (r : ℕ) → IsPairOf l u → keeps_pair X u ≡ true → IsTrue (among r l) → Kept X r
pair_kept X l u r k h m =
    let p : (keeps_one X u.0 ≡ true) × (keeps_one X u.1 ≡ true) = and_parts (keeps_one X u.0) (keeps_one X u.1) h in
    elim (k.has r m) as (λ z. Kept X r) [ inl e ↦ subst (Kept X) (sym e) (one_kept X u.0 p.0) | inr e ↦ subst (Kept X) (sym e) (one_kept X u.1 p.1) ]

kept_pair : (X : Role) (l : List ℕ) (u : ℕ × ℕ) → IsPairOf l u → ((r : ℕ) → IsTrue (among r l) → Kept X r) → keeps_pair X u ≡ true
kept_pair X l u k f = and_both (keeps_one X u.0) (keeps_one X u.1)
    (kept_one X u.0 (elim k.first as (λ z. Kept X u.0) [ inl e ↦ inl e | inr m ↦ f u.0 m ]))
    (kept_one X u.1 (elim k.second as (λ z. Kept X u.1) [ inl e ↦ inl e | inr m ↦ f u.1 m ]))

stream_is : (i : Instr) (X : Role) → of_stream (Some i) X ≡ true → OneStream i
stream_is i X h =
    let p : (keeps_pair X (pair_of (row i).writes) ≡ true) × (keeps_pair X (pair_of (row i).reads) ≡ true) = and_parts (keeps_pair X (pair_of (row i).writes)) (keeps_pair X (pair_of (row i).reads)) h in
    record { stream = X; all = λ r m. elim (used_split i r m) as (λ z. Kept X r) [ inl k ↦ pair_kept X (writes_of i) (pair_of (row i).writes) r (writes_are i) p.0 k | inr k ↦ pair_kept X (reads_of i) (pair_of (row i).reads) r (reads_are i) p.1 k ] }

is_stream : (i : Instr) (o : OneStream i) → of_stream (Some i) o.stream ≡ true
is_stream i o = and_both (keeps_pair o.stream (pair_of (row i).writes)) (keeps_pair o.stream (pair_of (row i).reads))
    (kept_pair o.stream (writes_of i) (pair_of (row i).writes) (writes_are i) (λ r m. o.all r (joins_left r (writes_of i) (reads_of i) m)))
    (kept_pair o.stream (reads_of i) (pair_of (row i).reads) (reads_are i) (λ r m. o.all r (joins_right r (writes_of i) (reads_of i) m)))

pub one_stream_is : (i : Instr) → one_stream (Some i) ≡ true → OneStream i
one_stream_is i h = elim (or_parts (of_stream (Some i) master) (of_stream (Some i) shadow || of_stream (Some i) signs) h) as (λ z. OneStream i) [
  | inl k ↦ stream_is i master k
  | inr k ↦ elim (or_parts (of_stream (Some i) shadow) (of_stream (Some i) signs) k) as (λ z. OneStream i) [ inl k ↦ stream_is i shadow k | inr k ↦ stream_is i signs k ]
]

is_one_by : (i : Instr) (X : Role) → of_stream (Some i) X ≡ true → one_stream (Some i) ≡ true
is_one_by i master h = or_first (of_stream (Some i) master) (of_stream (Some i) shadow || of_stream (Some i) signs) h
is_one_by i shadow h = or_second (of_stream (Some i) master) (of_stream (Some i) shadow || of_stream (Some i) signs) (or_first (of_stream (Some i) shadow) (of_stream (Some i) signs) h)
is_one_by i signs h = or_second (of_stream (Some i) master) (of_stream (Some i) shadow || of_stream (Some i) signs) (or_second (of_stream (Some i) shadow) (of_stream (Some i) signs) h)

pub is_one_stream : (i : Instr) → OneStream i → one_stream (Some i) ≡ true
is_one_stream i o = is_one_by i o.stream (is_stream i o)

pub uses_is : (text : List ℕ) (a r : ℕ) → uses_by (instr_at text a) r ≡ true → Uses text a r
uses_is text a r h = elim (or_parts (writes_by (instr_at text a) r) (reads_by (instr_at text a) r) h) as (λ z. Uses text a r) [
  | inl k ↦ let w : Writes text a r = writes_is text a r k in record { instr = w.instr; at = w.at; uses = joins_left r (writes_of w.instr) (reads_of w.instr) w.writes }
  | inr k ↦ let w : Reads text a r = reads_is text a r k in record { instr = w.instr; at = w.at; uses = joins_right r (writes_of w.instr) (reads_of w.instr) w.reads }
]

pub is_uses : (text : List ℕ) (a r : ℕ) → Uses text a r → uses_by (instr_at text a) r ≡ true
is_uses text a r k = elim (used_split k.instr r k.uses) as (λ z. uses_by (instr_at text a) r ≡ true) [
  | inl m ↦ or_first (writes_by (instr_at text a) r) (reads_by (instr_at text a) r) (is_writes text a r (record { instr = k.instr; at = k.at; writes = m }))
  | inr m ↦ or_second (writes_by (instr_at text a) r) (reads_by (instr_at text a) r) (is_reads text a r (record { instr = k.instr; at = k.at; reads = m }))
]

signs_has : (l : List ℕ) (u : ℕ × ℕ) → IsPairOf l u → signs_pair u ≡ true → (r : ℕ) × (IsTrue (among r l) × Of signs r)
signs_has l u p h = elim (or_parts (of signs u.0) (of signs u.1) h) as (λ z. (r : ℕ) × (IsTrue (among r l) × Of signs r)) [
  | inl k ↦ (u.0, (elim p.first as (λ z. IsTrue (among u.0 l)) [ inl e ↦ absurd (zero_free signs (subst (Of signs) e (of_is signs u.0 k))) | inr m ↦ m ], of_is signs u.0 k))
  | inr k ↦ (u.1, (elim p.second as (λ z. IsTrue (among u.1 l)) [ inl e ↦ absurd (zero_free signs (subst (Of signs) e (of_is signs u.1 k))) | inr m ↦ m ], of_is signs u.1 k))
]

has_signs : (l : List ℕ) (u : ℕ × ℕ) (r : ℕ) → IsPairOf l u → IsTrue (among r l) → Of signs r → signs_pair u ≡ true
has_signs l u r p m o = elim (p.has r m) as (λ z. signs_pair u ≡ true) [
  | inl e ↦ or_first (of signs u.0) (of signs u.1) (is_of signs u.0 (subst (Of signs) e o))
  | inr e ↦ or_second (of signs u.0) (of signs u.1) (is_of signs u.1 (subst (Of signs) e o))
]

pub uses_signs_is : (text : List ℕ) (a : ℕ) → uses_signs (instr_at text a) ≡ true → (r : ℕ) × (Uses text a r × Of signs r)
uses_signs_is text a h = by (instr_at text a) refl h
  where
    by : (o : Option Instr) → instr_at text a ≡ o → uses_signs o ≡ true → (r : ℕ) × (Uses text a r × Of signs r)
    by None e h = absurd (no_truth h)
    by (Some i) e h = elim (or_parts (signs_pair (pair_of (row i).writes)) (signs_pair (pair_of (row i).reads)) h) as (λ z. (r : ℕ) × (Uses text a r × Of signs r)) [
      | inl k ↦ let m : (r : ℕ) × (IsTrue (among r (writes_of i)) × Of signs r) = signs_has (writes_of i) (pair_of (row i).writes) (writes_are i) k in (m.0, (record { instr = i; at = e; uses = joins_left m.0 (writes_of i) (reads_of i) m.1.0 }, m.1.1))
      | inr k ↦ let m : (r : ℕ) × (IsTrue (among r (reads_of i)) × Of signs r) = signs_has (reads_of i) (pair_of (row i).reads) (reads_are i) k in (m.0, (record { instr = i; at = e; uses = joins_right m.0 (writes_of i) (reads_of i) m.1.0 }, m.1.1))
    ]

pub is_uses_signs : (text : List ℕ) (a r : ℕ) → Uses text a r → Of signs r → uses_signs (instr_at text a) ≡ true
is_uses_signs text a r k o = ap (λ (x : Option Instr). uses_signs x) k.at ∙ elim (used_split k.instr r k.uses) as (λ z. uses_signs (Some k.instr) ≡ true) [
  | inl m ↦ or_first (signs_pair (pair_of (row k.instr).writes)) (signs_pair (pair_of (row k.instr).reads)) (has_signs (writes_of k.instr) (pair_of (row k.instr).writes) r (writes_are k.instr) m o)
  | inr m ↦ or_second (signs_pair (pair_of (row k.instr).writes)) (signs_pair (pair_of (row k.instr).reads)) (has_signs (reads_of k.instr) (pair_of (row k.instr).reads) r (reads_are k.instr) m o)
]
