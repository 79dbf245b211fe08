-- What stands before a word: the tests decide the next words of the words before.
use Rattle.std.proofs.Common.{◌≡◌, ℕ, ◌+◌, ◌-◌, ◌%◌, ◌≤◌, ◌<◌, arith, rules, ap, refl, sym, ◌∙◌, subst, List, length, false, true, Bool, cond, inl, inr}
use Rattle.std.specs.Prelude.{Option, Some, None, ◌⊎◌, ◌==◌, ◌||◌, ◌&&◌, nat_le, nat_lt, not}
use Rattle.mips_isa.specs.declared.instr.Instr.{Instr}
use Rattle.mips_isa.specs.declared.instr.Instr.TheVariants.{Break, Beq, Bne}
use Rattle.mips_isa.specs.Machine.{text_place}
use Rattle.mips_text.specs.Text.{IsText, InText, At, instr_at, Reads, Writes, SkipsBreak, SkipsReport, BranchAt, IsBranch, branch_goal}
use Rattle.mips_text.specs.Blocks.{IsStart, jumped, called, taken, passed}
use Rattle.lint_words.specs.Words.{code_of, offset_of, skips_by, skipped, in_words}
use Rattle.lint_words.specs.Around.{reads_by, writes_by, jumps_by, in_slot, reporting, passing, is_some, straight_before, near_before, far_before}
use Rattle.third_lint.specs.Flow.{IsSlot, Next, onward}
use Rattle.third_lint.proofs.Places.{no_truth, in_text, goal_two, same_offset, SkipOr, skips, skips_none, skip_or, fork_of}
use Rattle.third_lint.proofs.Bools.{and_parts, and_both, or_parts, or_first, or_second, not_parts, not_is, same_number, none_some, some_same}

-- the break that a branch skips
pub code_break : (o : Option Instr) (code : ℕ) → code_of o ≡ Some code → o ≡ Some (Break code)
code_break None code h = absurd (none_some code h)
code_break (Some (Break c)) code h = ap (λ (x : ℕ). Some (Break x)) (some_same c code h)
code_break (Some _) code h = absurd (none_some code h)

offset_branch : (o : Option Instr) (n : ℕ) → offset_of o ≡ Some n → (x : ℕ) × ((y : ℕ) × ((i : Instr) × ((o ≡ Some i) × IsBranch i x y n)))
offset_branch None n h = absurd (none_some n h)
offset_branch (Some (Beq x y m)) n h = (x, (y, (Beq x y m, (refl, inl (ap (λ (k : ℕ). Beq x y k) (some_same m n h))))))
offset_branch (Some (Bne x y m)) n h = (x, (y, (Bne x y m, (refl, inr (ap (λ (k : ℕ). Bne x y k) (some_same m n h))))))
offset_branch (Some _) n h = absurd (none_some n h)

two_of : (n : ℕ) → (n == 2) ≡ true → n ≡ 2
two_of n h = grind arith

skips_parts_by : (n : ℕ) (k : Option ℕ) (code : ℕ) (z : Bool) → (n == 2) ≡ z → cond z k None ≡ Some code → (n ≡ 2) × (k ≡ Some code)
skips_parts_by n k code true e h = (two_of n e, h)
skips_parts_by n k code false e h = absurd (none_some code h)

skips_parts : (o : Option ℕ) (k : Option ℕ) (code : ℕ) → skips_by o k ≡ Some code → (o ≡ Some 2) × (k ≡ Some code)
skips_parts None k code h = absurd (none_some code h)
skips_parts (Some n) k code h = let p : (n ≡ 2) × (k ≡ Some code) = skips_parts_by n k code (n == 2) refl h in (ap (λ (x : ℕ). Some x) p.0, p.1)

pub skipped_is : (text : List ℕ) (a code : ℕ) → skipped text a ≡ Some code → SkipsBreak text a code
skipped_is text a code h =
    let p : (offset_of (instr_at text a) ≡ Some 2) × (code_of (instr_at text (a + 8)) ≡ Some code) = skips_parts (offset_of (instr_at text a)) (code_of (instr_at text (a + 8))) code h in
    let b : (x : ℕ) × ((y : ℕ) × ((i : Instr) × ((instr_at text a ≡ Some i) × IsBranch i x y 2))) = offset_branch (instr_at text a) 2 p.0 in
    record { x = b.0; y = b.1.0; branch = record { instr = b.1.1.0; at = b.1.1.1.0; is = b.1.1.1.1 }; stop = code_break (instr_at text (a + 8)) code p.1 }

branch_offset : (i : Instr) (x y n : ℕ) → IsBranch i x y n → offset_of (Some i) ≡ Some n
branch_offset i x y n (inl e) = ap (λ (j : Instr). offset_of (Some j)) e
branch_offset i x y n (inr e) = ap (λ (j : Instr). offset_of (Some j)) e

pub is_skipped : (text : List ℕ) (a code : ℕ) → SkipsBreak text a code → skipped text a ≡ Some code
is_skipped text a code k =
    let o : offset_of (instr_at text a) ≡ Some 2 = ap (λ (x : Option Instr). offset_of x) k.branch.at ∙ branch_offset k.branch.instr k.x k.y 2 k.branch.is in
    let c : code_of (instr_at text (a + 8)) ≡ Some code = ap (λ (x : Option Instr). code_of x) k.stop in
    ap (λ (x : Option ℕ). skips_by x (code_of (instr_at text (a + 8)))) o ∙ c

pub none_skipped : (text : List ℕ) (a : ℕ) → skipped text a ≡ None → (code : ℕ) → SkipsBreak text a code → ⊥
none_skipped text a h code k = none_some code (sym h ∙ is_skipped text a code k)

pub not_skipped_by : (text : List ℕ) (a : ℕ) (o : Option ℕ) → skipped text a ≡ o → ((code : ℕ) → SkipsBreak text a code → ⊥) → skipped text a ≡ None
not_skipped_by text a None h n = h
not_skipped_by text a (Some code) h n = absurd (n code (skipped_is text a code h))

pub in_words_text : (text : List ℕ) (n w : ℕ) → n ≡ length text → in_words n w ≡ true → InText text w
in_words_text text n w e h = record { aligned = first (w % 4) 0x00400000 w (text_place w) n h; from = second (w % 4) 0x00400000 w (text_place w) n h; upto = subst (λ (x : ℕ). text_place w < x) e (third (w % 4) 0x00400000 w (text_place w) n h) }
  where
    first : (x b w p n : ℕ) → ((x == 0) && (nat_le b w && nat_lt p n)) ≡ true → x ≡ 0
    first x b w p n h = grind arith

    second : (x b w p n : ℕ) → ((x == 0) && (nat_le b w && nat_lt p n)) ≡ true → b ≤ w
    second x b w p n h = grind arith

    third : (x b w p n : ℕ) → ((x == 0) && (nat_le b w && nat_lt p n)) ≡ true → p < n
    third x b w p n h = grind arith

pub text_in_words : (text : List ℕ) (n w : ℕ) → n ≡ length text → InText text w → in_words n w ≡ true
text_in_words text n w e t = all (w % 4) 0x00400000 w (text_place w) n t.aligned t.from (subst (λ (x : ℕ). text_place w < x) (sym e) t.upto)
  where
    all : (x b w p n : ℕ) → x ≡ 0 → b ≤ w → p < n → ((x == 0) && (nat_le b w && nat_lt p n)) ≡ true
    all x b w p n h k l = grind arith

pub out_words : (text : List ℕ) (n w : ℕ) → n ≡ length text → in_words n w ≡ false → InText text w → ⊥
out_words text n w e h t = no_truth (sym h ∙ text_in_words text n w e t)

pub none_instr : (i : Instr) → None ≡ Some i → ⊥
none_instr i h = search (rules, h)

-- reads, writes and uses
pub reads_is : (text : List ℕ) (a r : ℕ) → reads_by (instr_at text a) r ≡ true → Reads text a r
reads_is text a r h = by (instr_at text a) refl h
  where
    by : (o : Option Instr) → instr_at text a ≡ o → reads_by o r ≡ true → Reads text a r
    by None e h = absurd (no_truth h)
    by (Some i) e h = record { instr = i; at = e; reads = h }

pub is_reads : (text : List ℕ) (a r : ℕ) → Reads text a r → reads_by (instr_at text a) r ≡ true
is_reads text a r k = ap (λ (o : Option Instr). reads_by o r) k.at ∙ k.reads

pub writes_is : (text : List ℕ) (a r : ℕ) → writes_by (instr_at text a) r ≡ true → Writes text a r
writes_is text a r h = by (instr_at text a) refl h
  where
    by : (o : Option Instr) → instr_at text a ≡ o → writes_by o r ≡ true → Writes text a r
    by None e h = absurd (no_truth h)
    by (Some i) e h = record { instr = i; at = e; writes = h }

pub is_writes : (text : List ℕ) (a r : ℕ) → Writes text a r → writes_by (instr_at text a) r ≡ true
is_writes text a r k = ap (λ (o : Option Instr). writes_by o r) k.at ∙ k.writes

-- delay slots
four_back : (a : ℕ) → 0x00400000 ≤ a - 4 → a ≡ a - 4 + 4
four_back a h = omega arith

pub slot_is : (text : List ℕ) (a : ℕ) → in_slot text a ≡ true → IsSlot text a
slot_is text a h = by (instr_at text (a - 4)) refl h
  where
    by : (o : Option Instr) → instr_at text (a - 4) ≡ o → jumps_by o ≡ true → IsSlot text a
    by None e h = absurd (no_truth h)
    by (Some i) e h = record { jump_at = a - 4; instr = i; at = e; jumps = h; behind = four_back a (in_text text (a - 4) i e).from }

back_four : (a j : ℕ) → a ≡ j + 4 → j ≡ a - 4
back_four a j h = omega arith

pub is_slot : (text : List ℕ) (a : ℕ) → IsSlot text a → in_slot text a ≡ true
is_slot text a k = ap (λ (x : ℕ). jumps_by (instr_at text x)) (sym (back_four a k.jump_at k.behind)) ∙ (ap (λ (o : Option Instr). jumps_by o) k.at ∙ k.jumps)

-- breaks and reports
pub no_code : (text : List ℕ) (a : ℕ) → not (is_some (code_of (instr_at text a))) ≡ true → (code : ℕ) → At text a (Break code) → ⊥
no_code text a h code k = not_parts (is_some (code_of (instr_at text a))) h (ap (λ (o : Option Instr). is_some (code_of o)) k)

code_by : (text : List ℕ) (a : ℕ) (o : Option ℕ) → code_of (instr_at text a) ≡ o → is_some o ≡ true → (code : ℕ) × At text a (Break code)
code_by text a None e h = absurd (no_truth h)
code_by text a (Some code) e h = (code, code_break (instr_at text a) code e)

pub code_is : (text : List ℕ) (a : ℕ) → is_some (code_of (instr_at text a)) ≡ true → (code : ℕ) × At text a (Break code)
code_is text a h = code_by text a (code_of (instr_at text a)) refl h

report_by : (text : List ℕ) (a : ℕ) (o : Option ℕ) → skipped text a ≡ o → reporting o ≡ true → SkipsReport text a
report_by text a None e h = absurd (no_truth h)
report_by text a (Some code) e h = elim (or_parts (code == 1) (code == 2) h) as (λ z. SkipsReport text a) [
  | inl k ↦ inl (subst (λ (n : ℕ). SkipsBreak text a n) (same_number code 1 k) (skipped_is text a code e))
  | inr k ↦ inr (subst (λ (n : ℕ). SkipsBreak text a n) (same_number code 2 k) (skipped_is text a code e))
]

pub report_is : (text : List ℕ) (a : ℕ) → reporting (skipped text a) ≡ true → SkipsReport text a
report_is text a h = report_by text a (skipped text a) refl h

pub is_report : (text : List ℕ) (a : ℕ) → SkipsReport text a → reporting (skipped text a) ≡ true
is_report text a (inl k) = ap (λ (o : Option ℕ). reporting o) (is_skipped text a 1 k)
is_report text a (inr k) = ap (λ (o : Option ℕ). reporting o) (is_skipped text a 2 k)

pass_report : (o : Option ℕ) → passing o ≡ true → reporting o ≡ true → ⊥
pass_report None h k = no_truth h
pass_report (Some code) h k = not_parts ((code == 1) || (code == 2)) h k

pass_by : (text : List ℕ) (a : ℕ) (o : Option ℕ) → skipped text a ≡ o → passing o ≡ true → (code : ℕ) × SkipsBreak text a code
pass_by text a None e h = absurd (no_truth h)
pass_by text a (Some code) e h = (code, skipped_is text a code e)

some_by : (text : List ℕ) (a : ℕ) (o : Option ℕ) → skipped text a ≡ o → is_some o ≡ true → (code : ℕ) × SkipsBreak text a code
some_by text a None e h = absurd (no_truth h)
some_by text a (Some code) e h = (code, skipped_is text a code e)

pub words_text : (text : List ℕ) (a : ℕ) → in_words (length text) a ≡ true → InText text a
words_text text a h = in_words_text text (length text) a refl h

pub text_words : (text : List ℕ) (a : ℕ) → InText text a → in_words (length text) a ≡ true
text_words text a t = text_in_words text (length text) a refl t

-- the word before
eight_back : (a : ℕ) → 0x00400000 ≤ a - 8 → a ≡ a - 8 + 8
eight_back a h = omega arith

twelve_back : (a : ℕ) → 0x00400000 ≤ a - 12 → a ≡ a - 12 + 12
twelve_back a h = omega arith

eight_four : (a : ℕ) → 0x00400000 ≤ a - 8 → a - 4 ≡ a - 8 + 4
eight_four a h = omega arith

twelve_four : (a : ℕ) → 0x00400000 ≤ a - 12 → a - 8 ≡ a - 12 + 4
twelve_four a h = omega arith

pub near_is : (text : List ℕ) (a : ℕ) → near_before text a ≡ true → Next text (a - 4) a
near_is text a h = elim (or_parts (straight_before text a) (in_words (length text) (a - 4) && passing (skipped text (a - 8))) h) as (λ z. Next text (a - 4) a) [
  | inl k ↦
      let p : (in_words (length text) (a - 4) ≡ true) × ((not (in_slot text (a - 4)) && not (is_some (code_of (instr_at text (a - 4))))) ≡ true) = and_parts (in_words (length text) (a - 4)) (not (in_slot text (a - 4)) && not (is_some (code_of (instr_at text (a - 4))))) k in
      let q : (not (in_slot text (a - 4)) ≡ true) × (not (is_some (code_of (instr_at text (a - 4)))) ≡ true) = and_parts (not (in_slot text (a - 4))) (not (is_some (code_of (instr_at text (a - 4))))) p.1 in
      let t : InText text (a - 4) = words_text text (a - 4) p.0 in
      onward t (λ s. not_parts (in_slot text (a - 4)) q.0 (is_slot text (a - 4) s)) (no_code text (a - 4) q.1) (four_back a t.from)
  | inr k ↦
      let p : (in_words (length text) (a - 4) ≡ true) × (passing (skipped text (a - 8)) ≡ true) = and_parts (in_words (length text) (a - 4)) (passing (skipped text (a - 8))) k in
      let b : (code : ℕ) × SkipsBreak text (a - 8) code = pass_by text (a - 8) (skipped text (a - 8)) refl p.1 in
      let low : 0x00400000 ≤ a - 8 = (in_text text (a - 8) b.1.branch.instr b.1.branch.at).from in
      Next.passed (a - 8) b.1.x b.1.y 2 (words_text text (a - 4) p.0) b.1.branch (λ r. pass_report (skipped text (a - 8)) p.1 (is_report text (a - 8) r)) (eight_four a low) (eight_back a low)
]

pub far_is : (text : List ℕ) (a : ℕ) → IsText text → far_before text a ≡ true → Next text (a - 8) a
far_is text a f h =
    let p : (in_words (length text) (a - 8) ≡ true) × (is_some (skipped text (a - 12)) ≡ true) = and_parts (in_words (length text) (a - 8)) (is_some (skipped text (a - 12))) h in
    let b : (code : ℕ) × SkipsBreak text (a - 12) code = some_by text (a - 12) (skipped text (a - 12)) refl p.1 in
    let t : InText text (a - 12) = in_text text (a - 12) b.1.branch.instr b.1.branch.at in
    Next.taken (a - 12) b.1.x b.1.y 2 (words_text text (a - 8) p.0) b.1.branch (twelve_four a t.from) (twelve_back a t.from ∙ sym (goal_two text (a - 12) f t))

-- each word before a word that is no start is one of the two
abbrev pub IsBefore : List ℕ → (a p : ℕ) → Type 0
IsBefore text a p = ((p ≡ a - 4) × (near_before text a ≡ true)) ⊎ ((p ≡ a - 8) × (far_before text a ≡ true))

minus_four : (p a : ℕ) → a ≡ p + 4 → p ≡ a - 4
minus_four p a h = omega arith

slot_near : (j p a : ℕ) → p ≡ j + 4 → a ≡ j + 8 → p ≡ a - 4
slot_near j p a h k = omega arith

near_jump : (j a : ℕ) → a ≡ j + 8 → j ≡ a - 8
near_jump j a k = omega arith

slot_far : (j p a : ℕ) → p ≡ j + 4 → a ≡ j + 12 → p ≡ a - 8
slot_far j p a h k = omega arith

far_jump : (j a : ℕ) → a ≡ j + 12 → j ≡ a - 12
far_jump j a k = omega arith

straight_at : (text : List ℕ) (p a : ℕ) → p ≡ a - 4 → InText text p → (IsSlot text p → ⊥) → ((code : ℕ) → At text p (Break code) → ⊥) → straight_before text a ≡ true
straight_at text p a e t s k =
    let E : ℕ → Type 0 = λ (x : ℕ). (in_words (length text) x && (not (in_slot text x) && not (is_some (code_of (instr_at text x))))) ≡ true in
    subst E e (and_both (in_words (length text) p) (not (in_slot text p) && not (is_some (code_of (instr_at text p)))) (text_words text p t)
    (and_both (not (in_slot text p)) (not (is_some (code_of (instr_at text p)))) (not_is (in_slot text p) (λ h. s (slot_is text p h))) (not_is (is_some (code_of (instr_at text p))) (λ h. let c : (code : ℕ) × At text p (Break code) = code_is text p h in k c.0 c.1))))

passing_by : (text : List ℕ) (j code : ℕ) → SkipsBreak text j code → (SkipsReport text j → ⊥) → passing (skipped text j) ≡ true
passing_by text j code k n = ap (λ (o : Option ℕ). passing o) (is_skipped text j code k) ∙ not_is ((code == 1) || (code == 2)) (λ h. n (report_is text j (ap (λ (o : Option ℕ). reporting o) (is_skipped text j code k) ∙ h)))

fallen_at : (text : List ℕ) (j p a code : ℕ) → p ≡ a - 4 → j ≡ a - 8 → InText text p → SkipsBreak text j code → (SkipsReport text j → ⊥) → (in_words (length text) (a - 4) && passing (skipped text (a - 8))) ≡ true
fallen_at text j p a code e g t k n =
    and_both (in_words (length text) (a - 4)) (passing (skipped text (a - 8))) (subst (λ (x : ℕ). in_words (length text) x ≡ true) e (text_words text p t)) (subst (λ (x : ℕ). passing (skipped text x) ≡ true) g (passing_by text j code k n))

far_at : (text : List ℕ) (j p a code : ℕ) → p ≡ a - 8 → j ≡ a - 12 → InText text p → SkipsBreak text j code → far_before text a ≡ true
far_at text j p a code e g t k =
    and_both (in_words (length text) (a - 8)) (is_some (skipped text (a - 12))) (subst (λ (x : ℕ). in_words (length text) x ≡ true) e (text_words text p t)) (subst (λ (x : ℕ). is_some (skipped text x) ≡ true) g (ap (λ (o : Option ℕ). is_some o) (is_skipped text j code k)))

taken_is : (text : List ℕ) (entry p a j x y imm : ℕ) → IsText text → InText text p → (b : BranchAt text j x y imm) → p ≡ j + 4 → a ≡ branch_goal j imm → (IsStart text entry a → ⊥) → SkipOr text j → IsBefore text a p
taken_is text entry p a j x y imm f t w e g n (skips code k) =
    let d : a ≡ j + 12 = g ∙ (ap (λ (m : ℕ). branch_goal j m) (same_offset text j x y imm k.x k.y 2 w k.branch) ∙ goal_two text j f (in_text text j w.instr w.at)) in
    inr (slot_far j p a e d, far_at text j p a code (slot_far j p a e d) (far_jump j a d) t k)
taken_is text entry p a j x y imm f t w e g n (skips_none m) = absurd (n (taken j imm (fork_of text j x y imm w m) g))

passed_is : (text : List ℕ) (entry p a j x y imm : ℕ) → InText text p → (b : BranchAt text j x y imm) → (SkipsReport text j → ⊥) → p ≡ j + 4 → a ≡ j + 8 → (IsStart text entry a → ⊥) → SkipOr text j → IsBefore text a p
passed_is text entry p a j x y imm t w s e g n (skips code k) = inl (slot_near j p a e g, or_second (straight_before text a) (in_words (length text) (a - 4) && passing (skipped text (a - 8))) (fallen_at text j p a code (slot_near j p a e g) (near_jump j a g) t k s))
passed_is text entry p a j x y imm t w s e g n (skips_none m) = absurd (n (passed j imm (fork_of text j x y imm w m) g))

pub before_is : (text : List ℕ) (entry p a : ℕ) → IsText text → (IsStart text entry a → ⊥) → Next text p a → IsBefore text a p
before_is text entry p a f n (onward t s k e) = inl (minus_four p a e, or_first (straight_before text a) (in_words (length text) (a - 4) && passing (skipped text (a - 8))) (straight_at text p a (minus_four p a e) t s k))
before_is text entry p a f n (Next.jumped j target t w e g) = absurd (n (jumped j target w g))
before_is text entry p a f n (Next.called j target t w e g) = absurd (n (called j target w g))
before_is text entry p a f n (Next.taken j x y imm t w e g) = taken_is text entry p a j x y imm f t w e g n (skip_or text j x y imm w)
before_is text entry p a f n (Next.passed j x y imm t w s e g) = passed_is text entry p a j x y imm t w s e g n (skip_or text j x y imm w)
