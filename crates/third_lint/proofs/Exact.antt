-- The first rule that the tests refuse is the lowest that is broken, and no rule is broken outside the text.
use Rattle.std.proofs.Common.{◌≡◌, ◌≢◌, ℕ, suc, ◌+◌, ◌-◌, ◌*◌, ◌/◌, ◌%◌, ◌≤◌, ◌<◌, arith, refl, sym, ◌∙◌, subst, List, length, false, true, Bool, cond, inl, inr}
use Rattle.std.specs.Prelude.{Option, Some, None, ◌⊎◌, ◌==◌, not}
use Rattle.mips_isa.specs.declared.instr.Instr.{Instr}
use Rattle.mips_isa.specs.declared.instr.Instr.TheVariants.{Syscall, Break, And, Addu, Ori}
use Rattle.mips_isa.specs.Machine.{text_place}
use Rattle.mips_text.specs.Text.{IsText, InText, At, instr_at}
use Rattle.third_lint.specs.Votes.{Role, Of}
use Rattle.third_lint.specs.Typing.{InVote, WordOf, output, exit, input}
use Rattle.third_lint.specs.Flow.{HasInstruction, HasNoHazard, GoesInside}
use Rattle.third_lint.specs.Rules.{FromOwn, KeepsStream, UsesVoted, MovesHeld, KeepsService, NeverReports, KeepsForms, Obeys, WellTyped, Breaks, no_instruction, mixed, unvoted, hazard, outside, unheld, stray_service, reports}
use Rattle.third_lint.specs.Tables.{AreMarks}
use Rattle.third_lint.specs.Outcome.{CleanTo, IsFirst, Scanned, Decided}
use Rattle.third_lint.specs.RuleTests.{is_instr, rule_2, rule_3, rule_4, rule_5, held, rule_7, rule_8, rule_9, first_rule}
use Rattle.third_lint.proofs.Places.{no_truth, in_text, in_text_or}
use Rattle.third_lint.proofs.Words.{next_text}
use Rattle.third_lint.proofs.Patterns.{use_text}
use Rattle.third_lint.proofs.RuleTests.{instr_is, is_instr_of, rule_2_is, is_rule_2, rule_3_is, is_rule_3, rule_4_is, is_rule_4, rule_5_is, is_rule_5, rule_6_is, is_rule_6, rule_7_is, is_rule_7, rule_8_is, is_rule_8, rule_9_is, is_rule_9}

-- the rule of a number
abbrev By : Bool → Type 0 → Type 0 → Type 0
By true A B = A
By false A B = B

abbrev pub Field : List ℕ → (entry a n : ℕ) → Type 0
Field text entry a n =
    By (n == 1) (HasInstruction text a) (By (n == 2) (KeepsStream text entry a) (By (n == 3) (UsesVoted text entry a) (By (n == 4) (HasNoHazard text a) (
    By (n == 5) (GoesInside text a) (By (n == 6) (MovesHeld text a) (By (n == 7) (KeepsService text a) (By (n == 8) (NeverReports text a) (
    By (n == 9) (KeepsForms text entry a) (Unit {0})))))))))

abbrev pub Upto : List ℕ → (entry a n : ℕ) → Type 0
Upto text entry a n = (k : ℕ) → 1 ≤ k → k < n → Field text entry a k

refutes : (text : List ℕ) (entry a r : ℕ) → Breaks text entry a r → Field text entry a r → ⊥
refutes text entry a r (no_instruction e n) f = n (subst (Field text entry a) e f)
refutes text entry a r (mixed e n) f = n (subst (Field text entry a) e f)
refutes text entry a r (unvoted e n) f = n (subst (Field text entry a) e f)
refutes text entry a r (hazard e n) f = n (subst (Field text entry a) e f)
refutes text entry a r (outside e n) f = n (subst (Field text entry a) e f)
refutes text entry a r (unheld e n) f = n (subst (Field text entry a) e f)
refutes text entry a r (stray_service e n) f = n (subst (Field text entry a) e f)
refutes text entry a r (reports e n) f = n (subst (Field text entry a) e f)
refutes text entry a r (Breaks.entered e n) f = n (subst (Field text entry a) e f)

within : (r n : ℕ) → r ≡ n → 1 ≤ n → n ≤ 9 → (1 ≤ r) × (r ≤ 9)
within r n e h k = (omega arith, omega arith)

numbers : (text : List ℕ) (entry a r : ℕ) → Breaks text entry a r → (1 ≤ r) × (r ≤ 9)
numbers text entry a r (no_instruction e n) = within r 1 e (omega arith) (omega arith)
numbers text entry a r (mixed e n) = within r 2 e (omega arith) (omega arith)
numbers text entry a r (unvoted e n) = within r 3 e (omega arith) (omega arith)
numbers text entry a r (hazard e n) = within r 4 e (omega arith) (omega arith)
numbers text entry a r (outside e n) = within r 5 e (omega arith) (omega arith)
numbers text entry a r (unheld e n) = within r 6 e (omega arith) (omega arith)
numbers text entry a r (stray_service e n) = within r 7 e (omega arith) (omega arith)
numbers text entry a r (reports e n) = within r 8 e (omega arith) (omega arith)
numbers text entry a r (Breaks.entered e n) = within r 9 e (omega arith) (omega arith)

lt_or : (r n : ℕ) → (r < n) ⊎ (n ≤ r)
lt_or r n = grind arith

least : (text : List ℕ) (entry a n r : ℕ) → Upto text entry a n → Breaks text entry a r → n ≤ r
least text entry a n r u b = elim (lt_or r n) as (λ z. n ≤ r) [ inl h ↦ absurd (refutes text entry a r b (u r (numbers text entry a r b).0 h)) | inr h ↦ h ]

last_or : (k n : ℕ) → k < suc n → (k < n) ⊎ (n ≡ k)
last_or k n h = grind arith

more : (text : List ℕ) (entry a n : ℕ) → Upto text entry a n → Field text entry a n → Upto text entry a (suc n)
more text entry a n u f k h l = elim (last_or k n l) as (λ z. Field text entry a k) [ inl m ↦ u k h m | inr e ↦ subst (Field text entry a) e f ]

none_yet : (text : List ℕ) (entry a : ℕ) → Upto text entry a 1
none_yet text entry a k h l = absurd (no k h l)
  where
    no : (k : ℕ) → 1 ≤ k → k < 1 → ⊥
    no k h l = omega arith

obeys_of : (text : List ℕ) (entry a : ℕ) → Upto text entry a 10 → Obeys text entry a
obeys_of text entry a u = record {
  instruction = u 1 (omega arith) (omega arith);
  stream = u 2 (omega arith) (omega arith);
  voted = u 3 (omega arith) (omega arith);
  hazard = u 4 (omega arith) (omega arith);
  inside = u 5 (omega arith) (omega arith);
  held = u 6 (omega arith) (omega arith);
  service = u 7 (omega arith) (omega arith);
  silent = u 8 (omega arith) (omega arith);
  forms = u 9 (omega arith) (omega arith);
}

pub of_obeys : (text : List ℕ) (entry a r : ℕ) → Obeys text entry a → Breaks text entry a r → ⊥
of_obeys text entry a r o (no_instruction e n) = n o.instruction
of_obeys text entry a r o (mixed e n) = n o.stream
of_obeys text entry a r o (unvoted e n) = n o.voted
of_obeys text entry a r o (hazard e n) = n o.hazard
of_obeys text entry a r o (outside e n) = n o.inside
of_obeys text entry a r o (unheld e n) = n o.held
of_obeys text entry a r o (stray_service e n) = n o.service
of_obeys text entry a r o (reports e n) = n o.silent
of_obeys text entry a r o (Breaks.entered e n) = n o.forms

-- what the first rule says
data Verdict (text : List ℕ) (entry a : ℕ) : ℕ → Type 0 where
  fine : (n : ℕ) → n ≡ 0 → Obeys text entry a → Verdict text entry a n
  broken : (n : ℕ) → Breaks text entry a n → Upto text entry a n → Verdict text entry a n

-- a word of a vote, of an output, an exit or an input, is of the text
span : (text : List ℕ) (c m a k : ℕ) → InText text c → InText text (c + m) → a ≡ c + 4 * k → 4 * k ≤ m → InText text a
span text c m a k t i e h = record { aligned = al c a k t.aligned e; from = low c a k t.from e; upto = high c m a k (length text) i.upto e h }
  where
    al : (c a k : ℕ) → c % 4 ≡ 0 → a ≡ c + 4 * k → a % 4 ≡ 0
    al c a k h e = omega arith

    low : (c a k : ℕ) → 0x00400000 ≤ c → a ≡ c + 4 * k → 0x00400000 ≤ a
    low c a k h e = omega arith

    high : (c m a k n : ℕ) → (c + m - 0x00400000) / 4 < n → a ≡ c + 4 * k → 4 * k ≤ m → (a - 0x00400000) / 4 < n
    high c m a k n h e l = omega arith

four_times : (k n : ℕ) → k ≤ n → 4 * k ≤ 4 * n
four_times k n h = omega arith

pub in_vote_text : (text : List ℕ) (a k : ℕ) → InVote text a k → InText text a
in_vote_text text a k o = span text o.v 20 a k (in_text text o.v (And 1 o.x o.y) o.vote.both) (in_text text (o.v + 20) (Addu o.z o.x 0) o.vote.ends) o.at (four_times k 5 o.upto)

pub word_of_text : (text : List ℕ) (a k : ℕ) → WordOf text a k → InText text a
word_of_text text a k (output c o h e) = span text c 4 a k (in_text text c (Ori 2 0 1) o.chooses) (in_text text (c + 4) Syscall o.serves) e (four_times k 1 h)
word_of_text text a k (exit c o h e) = span text c 4 a k (in_text text c (Ori 2 0 17) o.chooses) (in_text text (c + 4) Syscall o.serves) e (four_times k 1 h)
word_of_text text a k (input c o h e) = span text c 16 a k (in_text text c (Ori 2 0 5) o.chooses) (in_text text (c + 16) (Addu o.d 2 0) o.last) e (four_times k 4 h)

-- an address outside the text
outside_obeys : (text : List ℕ) (entry a : ℕ) → (InText text a → ⊥) → Obeys text entry a
outside_obeys text entry a o = record {
  instruction = λ t. absurd (o t);
  stream = record { one = λ i h. absurd (o (in_text text a i h)); halves = λ rd m. elim m as (λ z. (rd ≡ 0) ⊎ FromOwn text entry a rd) [ inl h ↦ absurd (o (in_text text a _ h)) | inr h ↦ absurd (o (in_text text a _ h)) ] };
  voted = λ r u. absurd (o (use_text text a r u));
  hazard = record {
    loads = λ rt rs imm b h n r. absurd (o (in_text text a _ h));
    behind_move = λ i p h k n m. o (in_text text a i h);
    behind_next = λ i p q h k n m w. o (in_text text a i h);
    jumps = λ i h k w. o (in_text text a i h);
  };
  inside = λ b n. absurd (o (next_text text a b n));
  held = λ rt rs imm m. elim m as (λ z. (X : Role) × Of X rt) [ inl h ↦ absurd (o (in_text text a _ h)) | inr h ↦ absurd (o (in_text text a _ h)) ];
  service = λ u. absurd (o (in_text text a u.instr u.at));
  silent = ((λ h. o (in_text text a (Break 1) h)), (λ h. o (in_text text a (Break 2) h)));
  forms = record { votes = λ k v n. absurd (o (in_vote_text text a k v)); serves = λ k w n. absurd (o (word_of_text text a k w)) };
}

module _ (text : List ℕ) (entry : ℕ) (starts enter after twice : List Bool) (fits : IsText text) (marks : AreMarks text entry starts enter after twice) where
  abbrev V : ℕ → ℕ → Type 0
  V a n = Verdict text entry a n

  abbrev U : ℕ → ℕ → Type 0
  U a n = Upto text entry a n

  -- each rule in turn
  step_9 : (a : ℕ) → InText text a → U a 9 → (z : Bool) → rule_9 text enter a ≡ z → V a (cond (not z) 9 0)
  step_9 a t u true e = fine 0 refl (obeys_of text entry a (more text entry a 9 u (rule_9_is text entry enter marks.entered_table a t e)))
  step_9 a t u false e = broken 9 (Breaks.entered refl (λ f. no_truth (sym e ∙ is_rule_9 text entry enter marks.entered_table a f))) u

  abbrev Rest8 : ℕ → ℕ
  Rest8 a = cond (not (rule_9 text enter a)) 9 0

  step_8 : (a : ℕ) → InText text a → U a 8 → (z : Bool) → rule_8 text a ≡ z → V a (cond (not z) 8 (Rest8 a))
  step_8 a t u true e = step_9 a t (more text entry a 8 u (rule_8_is text a e)) (rule_9 text enter a) refl
  step_8 a t u false e = broken 8 (reports refl (λ f. no_truth (sym e ∙ is_rule_8 text a f))) u

  abbrev Rest7 : ℕ → ℕ
  Rest7 a = cond (not (rule_8 text a)) 8 (Rest8 a)

  step_7 : (a : ℕ) → InText text a → U a 7 → (z : Bool) → rule_7 text a ≡ z → V a (cond (not z) 7 (Rest7 a))
  step_7 a t u true e = step_8 a t (more text entry a 7 u (rule_7_is text a e)) (rule_8 text a) refl
  step_7 a t u false e = broken 7 (stray_service refl (λ f. no_truth (sym e ∙ is_rule_7 text a f))) u

  abbrev Rest6 : ℕ → ℕ
  Rest6 a = cond (not (rule_7 text a)) 7 (Rest7 a)

  step_6 : (a : ℕ) → InText text a → U a 6 → (z : Bool) → held (instr_at text a) ≡ z → V a (cond (not z) 6 (Rest6 a))
  step_6 a t u true e = step_7 a t (more text entry a 6 u (rule_6_is text a e)) (rule_7 text a) refl
  step_6 a t u false e = broken 6 (unheld refl (λ f. no_truth (sym e ∙ is_rule_6 text a f))) u

  abbrev Rest5 : ℕ → ℕ
  Rest5 a = cond (not (held (instr_at text a))) 6 (Rest6 a)

  step_5 : (a : ℕ) → InText text a → U a 5 → (z : Bool) → rule_5 text a ≡ z → V a (cond (not z) 5 (Rest5 a))
  step_5 a t u true e = step_6 a t (more text entry a 5 u (rule_5_is text a e)) (held (instr_at text a)) refl
  step_5 a t u false e = broken 5 (outside refl (λ f. no_truth (sym e ∙ is_rule_5 text a t f))) u

  abbrev Rest4 : ℕ → ℕ
  Rest4 a = cond (not (rule_5 text a)) 5 (Rest5 a)

  step_4 : (a : ℕ) → InText text a → U a 4 → (z : Bool) → rule_4 text after twice a ≡ z → V a (cond (not z) 4 (Rest4 a))
  step_4 a t u true e = step_5 a t (more text entry a 4 u (rule_4_is text after twice marks.after_table marks.twice_table a t e)) (rule_5 text a) refl
  step_4 a t u false e = broken 4 (hazard refl (λ f. no_truth (sym e ∙ is_rule_4 text after twice marks.after_table marks.twice_table a t f))) u

  abbrev Rest3 : ℕ → ℕ
  Rest3 a = cond (not (rule_4 text after twice a)) 4 (Rest4 a)

  step_3 : (a : ℕ) (i : Instr) → At text a i → InText text a → U a 3 → (z : Bool) → rule_3 text enter a ≡ z → V a (cond (not z) 3 (Rest3 a))
  step_3 a i h t u true e = step_4 a t (more text entry a 3 u (rule_3_is text entry enter marks.entered_table a i h e)) (rule_4 text after twice a) refl
  step_3 a i h t u false e = broken 3 (unvoted refl (λ f. no_truth (sym e ∙ is_rule_3 text entry enter marks.entered_table a f))) u

  abbrev Rest2 : ℕ → ℕ
  Rest2 a = cond (not (rule_3 text enter a)) 3 (Rest3 a)

  step_2 : (a : ℕ) (i : Instr) → At text a i → InText text a → U a 2 → (z : Bool) → rule_2 text starts a ≡ z → V a (cond (not z) 2 (Rest2 a))
  step_2 a i h t u true e = step_3 a i h t (more text entry a 2 u (rule_2_is text entry starts fits marks.start_table a t e)) (rule_3 text enter a) refl
  step_2 a i h t u false e = broken 2 (mixed refl (λ f. no_truth (sym e ∙ is_rule_2 text entry starts fits marks.start_table a t f))) u

  abbrev Rest1 : ℕ → ℕ
  Rest1 a = cond (not (rule_2 text starts a)) 2 (Rest2 a)

  step_1 : (a : ℕ) → InText text a → (z : Bool) → is_instr (instr_at text a) ≡ z → V a (cond (not z) 1 (Rest1 a))
  step_1 a t true e = let i : (i : Instr) × At text a i = instr_is text a e in step_2 a i.0 i.1 t (more text entry a 1 (none_yet text entry a) (λ w. i)) (rule_2 text starts a) refl
  step_1 a t false e = broken 1 (no_instruction refl (λ f. let i : (i : Instr) × At text a i = f t in no_truth (sym e ∙ is_instr_of text a i.0 i.1))) (none_yet text entry a)

  abbrev pub rule_at : ℕ → ℕ
  rule_at k = first_rule text starts enter after twice (0x00400000 + 4 * k)

  verdict : (a : ℕ) → InText text a → V a (first_rule text starts enter after twice a)
  verdict a t = step_1 a t (is_instr (instr_at text a)) refl

  place_of : (k n : ℕ) → k < n → n ≤ 66060288 → ((0x00400000 + 4 * k) % 4 ≡ 0) × ((0x00400000 ≤ 0x00400000 + 4 * k) × ((0x00400000 + 4 * k - 0x00400000) / 4 ≡ k))
  place_of k n h l = (omega arith, (omega arith, omega arith))

  pub word_in : (k : ℕ) → k < length text → InText text (0x00400000 + 4 * k)
  word_in k h = let p : ((0x00400000 + 4 * k) % 4 ≡ 0) × ((0x00400000 ≤ 0x00400000 + 4 * k) × ((0x00400000 + 4 * k - 0x00400000) / 4 ≡ k)) = place_of k (length text) h fits in record { aligned = p.0; from = p.1.0; upto = subst (λ (x : ℕ). x < length text) (sym p.1.1) h }

  place_is : (k : ℕ) → k < length text → text_place (0x00400000 + 4 * k) ≡ k
  place_is k h = (place_of k (length text) h fits).1.1

  -- a word at which no rule is broken
  same_place : (b k : ℕ) → b % 4 ≡ 0 → 0x00400000 ≤ b → (b - 0x00400000) / 4 ≡ k → b ≡ 0x00400000 + 4 * k
  same_place b k h l e = omega arith

  next_or : (p k : ℕ) → p < k + 1 → (p < k) ⊎ (p ≡ k)
  next_or p k h = grind arith

  positive : (n : ℕ) → n ≡ 0 → 1 ≤ n → ⊥
  positive n e h = omega arith

  verdict_fine : (a n : ℕ) → V a n → n ≡ 0 → Obeys text entry a
  verdict_fine a n (fine _ e o) h = o
  verdict_fine a n (broken _ b u) h = absurd (positive n h (numbers text entry a n b).0)

  verdict_bad : (a n : ℕ) → V a n → n ≢ 0 → Breaks text entry a n × Upto text entry a n
  verdict_bad a n (fine _ e o) h = absurd (h e)
  verdict_bad a n (broken _ b u) h = (b, u)

  pub clean_more : (k : ℕ) → k < length text → CleanTo text entry k → rule_at k ≡ 0 → CleanTo text entry (k + 1)
  clean_more k h c e b t l = elim (next_or (text_place b) k l) as (λ z. Obeys text entry b) [
    | inl m ↦ c b t m
    | inr m ↦ subst (Obeys text entry) (sym (same_place b k t.aligned t.from m)) (verdict_fine (0x00400000 + 4 * k) (rule_at k) (verdict (0x00400000 + 4 * k) (word_in k h)) e)
  ]

  pub bad_here : (k : ℕ) → k < length text → CleanTo text entry k → rule_at k ≢ 0 → IsFirst text entry (0x00400000 + 4 * k) (rule_at k)
  bad_here k h c n =
      let v : Breaks text entry (0x00400000 + 4 * k) (rule_at k) × Upto text entry (0x00400000 + 4 * k) (rule_at k) = verdict_bad (0x00400000 + 4 * k) (rule_at k) (verdict (0x00400000 + 4 * k) (word_in k h)) n in
      record { in_text = word_in k h; clean = subst (λ (x : ℕ). CleanTo text entry x) (sym (place_is k h)) c; broken = v.0; least = λ s b. least text entry (0x00400000 + 4 * k) (rule_at k) s v.1 b }

pub clean_none : (text : List ℕ) (entry : ℕ) → CleanTo text entry 0
clean_none text entry b t l = absurd (no (text_place b) l)
  where
    no : (n : ℕ) → n < 0 → ⊥
    no n l = omega arith

-- what is found in the text is the lowest of all
well_of : (text : List ℕ) (entry : ℕ) → CleanTo text entry (length text) → WellTyped text entry
well_of text entry c b = elim (in_text_or text b) as (λ z. Obeys text entry b) [ inl t ↦ c b t t.upto | inr o ↦ outside_obeys text entry b o ]

up_to : (x y : ℕ) → (x < y) ⊎ (y ≤ x)
up_to x y = grind arith

at_or : (x y : ℕ) → y ≤ x → (y < x) ⊎ (y ≡ x)
at_or x y h = grind arith

lower : (b a : ℕ) → b % 4 ≡ 0 → a % 4 ≡ 0 → 0x00400000 ≤ b → b < a → (b - 0x00400000) / 4 < (a - 0x00400000) / 4
lower b a h k l m = omega arith

first_low : (text : List ℕ) (entry a r : ℕ) → IsFirst text entry a r → (b s : ℕ) → Breaks text entry b s → (a < b) ⊎ ((b ≡ a) × (r ≤ s))
first_low text entry a r f b s k = elim (up_to a b) as (λ z. (a < b) ⊎ ((b ≡ a) × (r ≤ s))) [
  | inl h ↦ inl h
  | inr h ↦ elim (at_or a b h) as (λ z. (a < b) ⊎ ((b ≡ a) × (r ≤ s))) [
    | inr e ↦ inr (e, f.least s (subst (λ (x : ℕ). Breaks text entry x s) e k))
    | inl l ↦ elim (in_text_or text b) as (λ z. (a < b) ⊎ ((b ≡ a) × (r ≤ s))) [
      | inl t ↦ absurd (of_obeys text entry b s (f.clean b t (lower b a t.aligned f.in_text.aligned t.from l)) k)
      | inr o ↦ absurd (of_obeys text entry b s (outside_obeys text entry b o) k)
    ]
  ]
]

pub decided : (text : List ℕ) (entry : ℕ) (found : Option (ℕ × ℕ)) → Scanned text entry found → Decided text entry found
decided text entry None c = well_of text entry c
decided text entry (Some p) f = record { broken = f.broken; lowest = first_low text entry p.0 p.1 f }
