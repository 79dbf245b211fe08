-- The first rule that the tests refuse is the lowest that is broken.
use Rattle.std.proofs.Common.{◌≡◌, ◌≢◌, ℕ, suc, ◌+◌, ◌-◌, ◌*◌, ◌/◌, ◌%◌, ◌≤◌, ◌<◌, arith, refl, sym, ◌∙◌, subst, List, length, false, true, Bool, cond, inl, inr}
use Rattle.std.specs.Prelude.{Option, Some, None, ◌⊎◌, ◌==◌, ◌||◌, ◌&&◌, nat_lt, not, IsTrue}
use Rattle.mips_isa.specs.declared.instr.Instr.{Instr}
use Rattle.mips_isa.specs.Machine.{text_place}
use Rattle.mips_text.specs.Text.{IsText, InText, At, instr_at}
use Rattle.mips_text.specs.Blocks.{IsStart, Head, HeadAt}
use Rattle.mips_faults.specs.Faults.{in_even, in_odd}
use Rattle.mips_text.specs.Typing.{IsSlot}
use Rattle.harden_lint.specs.Rules.{FromOwn, HasInstruction, HasHead, KeepsStream, IsChecked, HasNoHazard, GoesInside, MovesHeld, KeepsSigns, KeepsForms, KeepsSlot, Obeys, WellTyped, Breaks, no_instruction, no_head, mixed, unchecked, hazard, outside, unheld, stray_sign, stray_service, bad_slot}
use Rattle.harden_lint.proofs.Places.{no_truth, in_text}
use Rattle.harden_lint.proofs.Words.{next_text}
use Rattle.harden_lint.specs.StartTable.{Table}
use Rattle.harden_lint.specs.Outcome.{CleanTo, IsFirst, Scanned, Decided, end_of, with_slot, outside_of, before_of, outcome}
use Rattle.harden_lint.specs.RuleTests.{is_instr, rule_2, rule_3, rule_4, rule_5, rule_6, held, rule_8, rule_9, rule_10, first_rule}
use Rattle.lint_words.specs.Around.{in_slot}
use Rattle.harden_lint.proofs.Around.{slot_is, is_slot}
use Rattle.harden_lint.proofs.Guards.{critical_text}
use Rattle.harden_lint.proofs.RuleTests.{instr_is, is_instr_of, rule_2_is, is_rule_2, rule_3_is, is_rule_3, rule_4_is, is_rule_4, rule_5_is, is_rule_5, rule_6_is, is_rule_6, rule_7_is, is_rule_7, rule_8_is, is_rule_8, rule_9_is, is_rule_9, rule_10_is, is_rule_10}

-- the rule of a number
abbrev By : Bool → Type 0 → Type 0 → Type 0
By true A B = A
By false A B = B

abbrev pub Field : List ℕ → (entry a n : ℕ) → Type 0
Field text entry a n =
    By (n == 1) (HasInstruction text a) (By (n == 2) (HasHead text entry a) (By (n == 3) (KeepsStream text entry a) (By (n == 4) (IsChecked text entry a) (
    By (n == 5) (HasNoHazard text a) (By (n == 6) (GoesInside text a) (By (n == 7) (MovesHeld text a) (By (n == 8) (KeepsSigns text entry a) (
    By (n == 9) (KeepsForms text entry a) (By (n == 10) (KeepsSlot text entry a) (Unit {0}))))))))))

abbrev pub Upto : List ℕ → (entry a n : ℕ) → Type 0
Upto text entry a n = (k : ℕ) → 1 ≤ k → k < n → Field text entry a k

pub refutes : (text : List ℕ) (entry a r : ℕ) → Breaks text entry a r → Field text entry a r → ⊥
refutes text entry a r (no_instruction e n) f = n (subst (Field text entry a) e f)
refutes text entry a r (no_head e n) f = n (subst (Field text entry a) e f)
refutes text entry a r (mixed e n) f = n (subst (Field text entry a) e f)
refutes text entry a r (unchecked e n) f = n (subst (Field text entry a) e f)
refutes text entry a r (hazard e n) f = n (subst (Field text entry a) e f)
refutes text entry a r (outside e n) f = n (subst (Field text entry a) e f)
refutes text entry a r (unheld e n) f = n (subst (Field text entry a) e f)
refutes text entry a r (stray_sign e n) f = n (subst (Field text entry a) e f)
refutes text entry a r (stray_service e n) f = n (subst (Field text entry a) e f)
refutes text entry a r (bad_slot e n) f = n (subst (Field text entry a) e f)

within : (r n : ℕ) → r ≡ n → 1 ≤ n → n ≤ 10 → (1 ≤ r) × (r ≤ 10)
within r n e h k = (omega arith, omega arith)

numbers : (text : List ℕ) (entry a r : ℕ) → Breaks text entry a r → (1 ≤ r) × (r ≤ 10)
numbers text entry a r (no_instruction e n) = within r 1 e (omega arith) (omega arith)
numbers text entry a r (no_head e n) = within r 2 e (omega arith) (omega arith)
numbers text entry a r (mixed e n) = within r 3 e (omega arith) (omega arith)
numbers text entry a r (unchecked e n) = within r 4 e (omega arith) (omega arith)
numbers text entry a r (hazard e n) = within r 5 e (omega arith) (omega arith)
numbers text entry a r (outside e n) = within r 6 e (omega arith) (omega arith)
numbers text entry a r (unheld e n) = within r 7 e (omega arith) (omega arith)
numbers text entry a r (stray_sign e n) = within r 8 e (omega arith) (omega arith)
numbers text entry a r (stray_service e n) = within r 9 e (omega arith) (omega arith)
numbers text entry a r (bad_slot e n) = within r 10 e (omega arith) (omega arith)

lt_or : (r n : ℕ) → (r < n) ⊎ (n ≤ r)
lt_or r n = grind arith

pub least : (text : List ℕ) (entry a n r : ℕ) → Upto text entry a n → Breaks text entry a r → n ≤ r
least text entry a n r u b = elim (lt_or r n) as (λ z. n ≤ r) [ inl h ↦ absurd (refutes text entry a r b (u r (numbers text entry a r b).0 h)) | inr h ↦ h ]

last_or : (k n : ℕ) → k < suc n → (k < n) ⊎ (n ≡ k)
last_or k n h = grind arith

more : (text : List ℕ) (entry a n : ℕ) → Upto text entry a n → Field text entry a n → Upto text entry a (suc n)
more text entry a n u f k h l = elim (last_or k n l) as (λ z. Field text entry a k) [ inl m ↦ u k h m | inr e ↦ subst (Field text entry a) e f ]

none_yet : (text : List ℕ) (entry a : ℕ) → Upto text entry a 1
none_yet text entry a k h l = absurd (no k h l)
  where
    no : (k : ℕ) → 1 ≤ k → k < 1 → ⊥
    no k h l = omega arith

pub obeys_of : (text : List ℕ) (entry a : ℕ) → Upto text entry a 11 → Obeys text entry a
obeys_of text entry a u = record {
  instruction = u 1 (omega arith) (omega arith);
  head = u 2 (omega arith) (omega arith);
  stream = u 3 (omega arith) (omega arith);
  checked = u 4 (omega arith) (omega arith);
  hazard = u 5 (omega arith) (omega arith);
  inside = u 6 (omega arith) (omega arith);
  held = u 7 (omega arith) (omega arith);
  signs = u 8 (omega arith) (omega arith);
  forms = u 9 (omega arith) (omega arith);
  slot = u 10 (omega arith) (omega arith);
}

pub of_obeys : (text : List ℕ) (entry a r : ℕ) → Obeys text entry a → Breaks text entry a r → ⊥
of_obeys text entry a r o (no_instruction e n) = n o.instruction
of_obeys text entry a r o (no_head e n) = n o.head
of_obeys text entry a r o (mixed e n) = n o.stream
of_obeys text entry a r o (unchecked e n) = n o.checked
of_obeys text entry a r o (hazard e n) = n o.hazard
of_obeys text entry a r o (outside e n) = n o.inside
of_obeys text entry a r o (unheld e n) = n o.held
of_obeys text entry a r o (stray_sign e n) = n o.signs
of_obeys text entry a r o (stray_service e n) = n o.forms
of_obeys text entry a r o (bad_slot e n) = n o.slot

-- what the first rule says
pub data Verdict (text : List ℕ) (entry a : ℕ) : ℕ → Type 0 where
  fine : (n : ℕ) → n ≡ 0 → Obeys text entry a → Verdict text entry a n
  broken : (n : ℕ) → Breaks text entry a n → Upto text entry a n → Verdict text entry a n

-- an address outside the text
pub outside_obeys : (text : List ℕ) (entry a : ℕ) → (InText text a → ⊥) → (IsStart text entry a → ⊥) → (IsSlot text a → ⊥) → Obeys text entry a
outside_obeys text entry a o s v = record {
  instruction = λ t. absurd (o t);
  head = λ w. absurd (s w);
  stream = record { one = λ i h. absurd (o (in_text text a i h)); halves = λ rd m. elim m as (λ z. (rd ≡ 0) ⊎ FromOwn text entry a rd) [ inl h ↦ absurd (o (in_text text a _ h)) | inr h ↦ absurd (o (in_text text a _ h)) ] };
  checked = λ r c. absurd (o (critical_text text a r c));
  hazard = record {
    loads = λ rt rs imm b h n r. absurd (o (in_text text a _ h));
    behind_move = λ i p h k n m. o (in_text text a i h);
    behind_next = λ i p q h k n m w. o (in_text text a i h);
    jumps = λ i h k w. o (in_text text a i h);
  };
  inside = λ b n. absurd (o (next_text text a b n));
  held = λ rt rs imm m. elim m as (λ z. IsTrue (in_even rt || in_odd rt)) [ inl h ↦ absurd (o (in_text text a _ h)) | inr h ↦ absurd (o (in_text text a _ h)) ];
  signs = λ r u w. absurd (o (in_text text a u.instr u.at));
  forms = record { serves = λ u. absurd (o (in_text text a u.instr u.at)); starts = λ w k x. absurd (s w) };
  slot = record { inside = λ w. absurd (v w); no_start = λ w x. v w; quiet = λ w. absurd (v w) };
}

module _ (text : List ℕ) (entry : ℕ) (bits : List Bool) (out : Option ℕ) (fits : IsText text) (table : Table text (IsStart text entry) bits out) where
  abbrev V : ℕ → ℕ → Type 0
  V a n = Verdict text entry a n

  abbrev U : ℕ → ℕ → Type 0
  U a n = Upto text entry a n

  -- each rule in turn
  step_10 : (a : ℕ) → InText text a → U a 10 → (z : Bool) → rule_10 text bits a ≡ z → V a (cond (not z) 10 0)
  step_10 a t u true e = fine 0 refl (obeys_of text entry a (more text entry a 10 u (rule_10_is text entry bits out fits table a t e)))
  step_10 a t u false e = broken 10 (bad_slot refl (λ f. no_truth (sym e ∙ is_rule_10 text entry bits out fits table a f))) u

  step_9 : (a : ℕ) → InText text a → U a 9 → (z : Bool) → rule_9 text bits a ≡ z → V a (cond (not z) 9 (cond (not (rule_10 text bits a)) 10 0))
  step_9 a t u true e = step_10 a t (more text entry a 9 u (rule_9_is text entry bits out fits table a t e)) (rule_10 text bits a) refl
  step_9 a t u false e = broken 9 (stray_service refl (λ f. no_truth (sym e ∙ is_rule_9 text entry bits out fits table a f))) u

  abbrev Rest9 : ℕ → ℕ
  Rest9 a = cond (not (rule_9 text bits a)) 9 (cond (not (rule_10 text bits a)) 10 0)

  step_8 : (a : ℕ) → InText text a → U a 8 → (z : Bool) → rule_8 text bits a ≡ z → V a (cond (not z) 8 (Rest9 a))
  step_8 a t u true e = step_9 a t (more text entry a 8 u (rule_8_is text entry bits out fits table a e)) (rule_9 text bits a) refl
  step_8 a t u false e = broken 8 (stray_sign refl (λ f. no_truth (sym e ∙ is_rule_8 text entry bits out fits table a t f))) u

  abbrev Rest8 : ℕ → ℕ
  Rest8 a = cond (not (rule_8 text bits a)) 8 (Rest9 a)

  step_7 : (a : ℕ) → InText text a → U a 7 → (z : Bool) → held (instr_at text a) ≡ z → V a (cond (not z) 7 (Rest8 a))
  step_7 a t u true e = step_8 a t (more text entry a 7 u (rule_7_is text entry bits out fits table a e)) (rule_8 text bits a) refl
  step_7 a t u false e = broken 7 (unheld refl (λ f. no_truth (sym e ∙ is_rule_7 text entry bits out fits table a f))) u

  abbrev Rest7 : ℕ → ℕ
  Rest7 a = cond (not (held (instr_at text a))) 7 (Rest8 a)

  step_6 : (a : ℕ) → InText text a → U a 6 → (z : Bool) → rule_6 text a ≡ z → V a (cond (not z) 6 (Rest7 a))
  step_6 a t u true e = step_7 a t (more text entry a 6 u (rule_6_is text entry bits out fits table a e)) (held (instr_at text a)) refl
  step_6 a t u false e = broken 6 (outside refl (λ f. no_truth (sym e ∙ is_rule_6 text entry bits out fits table a t f))) u

  abbrev Rest6 : ℕ → ℕ
  Rest6 a = cond (not (rule_6 text a)) 6 (Rest7 a)

  step_5 : (a : ℕ) → InText text a → ((q : ℕ) → InText text q → q < a → Obeys text entry q) → U a 5 → (z : Bool) → rule_5 text bits a ≡ z → V a (cond (not z) 5 (Rest6 a))
  step_5 a t low u true e = step_6 a t (more text entry a 5 u (rule_5_is text entry bits out fits table a (u 2 (omega arith) (omega arith)) low e)) (rule_6 text a) refl
  step_5 a t low u false e = broken 5 (hazard refl (λ f. no_truth (sym e ∙ is_rule_5 text entry bits out fits table a t f))) u

  abbrev Rest5 : ℕ → ℕ
  Rest5 a = cond (not (rule_5 text bits a)) 5 (Rest6 a)

  step_4 : (a : ℕ) (i : Instr) → At text a i → InText text a → ((q : ℕ) → InText text q → q < a → Obeys text entry q) → U a 4 → (z : Bool) → rule_4 text bits a ≡ z → V a (cond (not z) 4 (Rest5 a))
  step_4 a i h t low u true e = step_5 a t low (more text entry a 4 u (rule_4_is text entry bits out fits table a i h e)) (rule_5 text bits a) refl
  step_4 a i h t low u false e = broken 4 (unchecked refl (λ f. no_truth (sym e ∙ is_rule_4 text entry bits out fits table a f))) u

  abbrev Rest4 : ℕ → ℕ
  Rest4 a = cond (not (rule_4 text bits a)) 4 (Rest5 a)

  step_3 : (a : ℕ) (i : Instr) → At text a i → InText text a → ((q : ℕ) → InText text q → q < a → Obeys text entry q) → U a 3 → (z : Bool) → rule_3 text bits a ≡ z → V a (cond (not z) 3 (Rest4 a))
  step_3 a i h t low u true e = step_4 a i h t low (more text entry a 3 u (rule_3_is text entry bits out fits table a t e)) (rule_4 text bits a) refl
  step_3 a i h t low u false e = broken 3 (mixed refl (λ f. no_truth (sym e ∙ is_rule_3 text entry bits out fits table a t f))) u

  abbrev Rest3 : ℕ → ℕ
  Rest3 a = cond (not (rule_3 text bits a)) 3 (Rest4 a)

  step_2 : (a : ℕ) (i : Instr) → At text a i → InText text a → ((q : ℕ) → InText text q → q < a → Obeys text entry q) → U a 2 → (z : Bool) → rule_2 text bits a ≡ z → V a (cond (not z) 2 (Rest3 a))
  step_2 a i h t low u true e = step_3 a i h t low (more text entry a 2 u (rule_2_is text entry bits out fits table a t e)) (rule_3 text bits a) refl
  step_2 a i h t low u false e = broken 2 (no_head refl (λ f. no_truth (sym e ∙ is_rule_2 text entry bits out fits table a f))) u

  abbrev Rest2 : ℕ → ℕ
  Rest2 a = cond (not (rule_2 text bits a)) 2 (Rest3 a)

  step_1 : (a : ℕ) → InText text a → ((q : ℕ) → InText text q → q < a → Obeys text entry q) → (z : Bool) → is_instr (instr_at text a) ≡ z → V a (cond (not z) 1 (Rest2 a))
  step_1 a t low true e = let i : (i : Instr) × At text a i = instr_is text a e in step_2 a i.0 i.1 t low (more text entry a 1 (none_yet text entry a) (λ w. i)) (rule_2 text bits a) refl
  step_1 a t low false e = broken 1 (no_instruction refl (λ f. let i : (i : Instr) × At text a i = f t in no_truth (sym e ∙ is_instr_of text a i.0 i.1))) (none_yet text entry a)

  pub verdict : (a : ℕ) → InText text a → ((q : ℕ) → InText text q → q < a → Obeys text entry q) → V a (first_rule text bits a)
  verdict a t low = step_1 a t low (is_instr (instr_at text a)) refl

  lower_place : (q a k : ℕ) → a ≡ 0x00400000 + 4 * k → q < a → 0x00400000 ≤ q → (q - 0x00400000) / 4 < k
  lower_place q a k e h l = omega arith

  pub low_of : (k : ℕ) → CleanTo text entry k → (q : ℕ) → InText text q → q < 0x00400000 + 4 * k → Obeys text entry q
  low_of k c q t h = c q t (lower_place q (0x00400000 + 4 * k) k refl h t.from)

  place_of : (k n : ℕ) → k < n → n ≤ 66060288 → ((0x00400000 + 4 * k) % 4 ≡ 0) × ((0x00400000 ≤ 0x00400000 + 4 * k) × ((0x00400000 + 4 * k - 0x00400000) / 4 ≡ k))
  place_of k n h l = (omega arith, (omega arith, omega arith))

  pub word_in : (k : ℕ) → k < length text → InText text (0x00400000 + 4 * k)
  word_in k h = let p : ((0x00400000 + 4 * k) % 4 ≡ 0) × ((0x00400000 ≤ 0x00400000 + 4 * k) × ((0x00400000 + 4 * k - 0x00400000) / 4 ≡ k)) = place_of k (length text) h fits in record { aligned = p.0; from = p.1.0; upto = subst (λ (x : ℕ). x < length text) (sym p.1.1) h }

  place_is : (k : ℕ) → k < length text → text_place (0x00400000 + 4 * k) ≡ k
  place_is k h = (place_of k (length text) h fits).1.1

  -- a word at which no rule is broken
  same_place : (b k : ℕ) → b % 4 ≡ 0 → 0x00400000 ≤ b → (b - 0x00400000) / 4 ≡ k → b ≡ 0x00400000 + 4 * k
  same_place b k h l e = omega arith

  next_or : (p k : ℕ) → p < k + 1 → (p < k) ⊎ (p ≡ k)
  next_or p k h = grind arith

  positive : (n : ℕ) → n ≡ 0 → 1 ≤ n → ⊥
  positive n e h = omega arith

  verdict_fine : (a n : ℕ) → V a n → n ≡ 0 → Obeys text entry a
  verdict_fine a n (fine _ e o) h = o
  verdict_fine a n (broken _ b u) h = absurd (positive n h (numbers text entry a n b).0)

  verdict_bad : (a n : ℕ) → V a n → n ≢ 0 → Breaks text entry a n × Upto text entry a n
  verdict_bad a n (fine _ e o) h = absurd (h e)
  verdict_bad a n (broken _ b u) h = (b, u)

  pub clean_more : (k : ℕ) → k < length text → CleanTo text entry k → first_rule text bits (0x00400000 + 4 * k) ≡ 0 → CleanTo text entry (k + 1)
  clean_more k h c e b t l = elim (next_or (text_place b) k l) as (λ z. Obeys text entry b) [
    | inl m ↦ c b t m
    | inr m ↦ subst (Obeys text entry) (sym (same_place b k t.aligned t.from m)) (verdict_fine (0x00400000 + 4 * k) (first_rule text bits (0x00400000 + 4 * k)) (verdict (0x00400000 + 4 * k) (word_in k h) (low_of k c)) e)
  ]

  pub clean_none : CleanTo text entry 0
  clean_none b t l = absurd (no l)
    where
      no : text_place b < 0 → ⊥
      no l = omega arith

  pub bad_here : (k : ℕ) → k < length text → CleanTo text entry k → first_rule text bits (0x00400000 + 4 * k) ≢ 0 → IsFirst text entry (0x00400000 + 4 * k) (first_rule text bits (0x00400000 + 4 * k))
  bad_here k h c n =
      let v : Breaks text entry (0x00400000 + 4 * k) (first_rule text bits (0x00400000 + 4 * k)) × Upto text entry (0x00400000 + 4 * k) (first_rule text bits (0x00400000 + 4 * k)) = verdict_bad (0x00400000 + 4 * k) (first_rule text bits (0x00400000 + 4 * k)) (verdict (0x00400000 + 4 * k) (word_in k h) (low_of k c)) n in
      record { in_text = word_in k h; clean = subst (λ (x : ℕ). CleanTo text entry x) (sym (place_is k h)) c; broken = v.0; least = λ s b. least text entry (0x00400000 + 4 * k) (first_rule text bits (0x00400000 + 4 * k)) s v.1 b }

  -- outside the text
  abbrev pub End : ℕ
  End = 0x00400000 + 4 * length text

  slot_end : (b : ℕ) → (InText text b → ⊥) → IsSlot text b → b ≡ End
  slot_end b o v = end_of b v.jump_at (length text) (in_text text v.jump_at v.instr v.at).aligned (in_text text v.jump_at v.instr v.at).from (in_text text v.jump_at v.instr v.at).upto v.behind (λ h k l. o (record { aligned = h; from = k; upto = l }))
    where
      end_of : (b j n : ℕ) → j % 4 ≡ 0 → 0x00400000 ≤ j → (j - 0x00400000) / 4 < n → b ≡ j + 4 → (b % 4 ≡ 0 → 0x00400000 ≤ b → (b - 0x00400000) / 4 < n → ⊥) → b ≡ 0x00400000 + 4 * n
      end_of b j n h k l e f = by (lt_or ((b - 0x00400000) / 4) n)
        where
          al : (b j : ℕ) → j % 4 ≡ 0 → b ≡ j + 4 → b % 4 ≡ 0
          al b j h e = omega arith

          lo : (b j : ℕ) → 0x00400000 ≤ j → b ≡ j + 4 → 0x00400000 ≤ b
          lo b j k e = omega arith

          eq : (b j n : ℕ) → j % 4 ≡ 0 → 0x00400000 ≤ j → (j - 0x00400000) / 4 < n → b ≡ j + 4 → n ≤ (b - 0x00400000) / 4 → b ≡ 0x00400000 + 4 * n
          eq b j n h k l e m = omega arith

          by : ((b - 0x00400000) / 4 < n) ⊎ (n ≤ (b - 0x00400000) / 4) → b ≡ 0x00400000 + 4 * n
          by (inl m) = absurd (f (al b j h e) (lo b j k e) m)
          by (inr m) = eq b j n h k l e m

  end_out : InText text End → ⊥
  end_out t = no (length text) t.upto
    where
      no : (n : ℕ) → (0x00400000 + 4 * n - 0x00400000) / 4 < n → ⊥
      no n h = omega arith

  in_or : (b : ℕ) → InText text b ⊎ (InText text b → ⊥)
  in_or b = elim (tests (b % 4) 0x00400000 b (text_place b) (length text)) as (λ z. InText text b ⊎ (InText text b → ⊥)) [
    | inl h ↦ inl (record { aligned = h.0; from = h.1; upto = h.2 })
    | inr n ↦ inr (λ t. n (t.aligned, t.from, t.upto))
  ]
    where
      tests : (x b a p n : ℕ) → ((x ≡ 0) × (b ≤ a) × (p < n)) ⊎ ((x ≡ 0) × (b ≤ a) × (p < n) → ⊥)
      tests x b a p n = grind arith

  -- an outside address that is no start and no slot obeys
  no_outside : (b r : ℕ) → (InText text b → ⊥) → (IsStart text entry b → ⊥) → (IsSlot text b → ⊥) → Breaks text entry b r → ⊥
  no_outside b r o s v k = of_obeys text entry b r (outside_obeys text entry b o s v) k

  -- a start outside breaks the second rule, and no lower one
  start_breaks : (w : ℕ) → IsStart text entry w → (InText text w → ⊥) → Breaks text entry w 2
  start_breaks w s o = no_head refl (λ f. let k : (h : Head) × HeadAt text w h = f s in o (in_text text w _ k.1.differs))

  start_least : (w r : ℕ) → (InText text w → ⊥) → Breaks text entry w r → 2 ≤ r
  start_least w r o b = least text entry w 2 r (more text entry w 1 (none_yet text entry w) (λ t. absurd (o t))) b

  slot_breaks : IsSlot text End → Breaks text entry End 10
  slot_breaks v = bad_slot refl (λ f. end_out (f.inside v))

  -- what is below the end and in no table of starts obeys
  abbrev Low : ℕ → ℕ → Type 0
  Low address rule = (a r : ℕ) → Breaks text entry a r → (address < a) ⊎ ((a ≡ address) × (rule ≤ r))

  up_to : (x y : ℕ) → (x < y) ⊎ (y ≤ x)
  up_to x y = grind arith

  at_or : (x y : ℕ) → y ≤ x → (y < x) ⊎ (y ≡ x)
  at_or x y h = grind arith

  in_low : (a : ℕ) → CleanTo text entry (text_place a) → InText text a → (b r : ℕ) → InText text b → Breaks text entry b r → b < a → ⊥
  in_low a c i b r t k h = of_obeys text entry b r (c b t (lower b a t.aligned i.aligned t.from h)) k
    where
      lower : (b a : ℕ) → b % 4 ≡ 0 → a % 4 ≡ 0 → 0x00400000 ≤ b → b < a → (b - 0x00400000) / 4 < (a - 0x00400000) / 4
      lower b a h k l m = omega arith

  below_end : (a : ℕ) → InText text a → a < End
  below_end a t = up a (length text) t.aligned t.from t.upto
    where
      up : (a n : ℕ) → a % 4 ≡ 0 → 0x00400000 ≤ a → (a - 0x00400000) / 4 < n → a < 0x00400000 + 4 * n
      up a n h k l = omega arith

  less_trans : (b a e : ℕ) → b ≤ a → a < e → b ≡ e → ⊥
  less_trans b a e h k m = omega arith

  -- found in the text, with no start outside below it
  first_low : (a r : ℕ) → IsFirst text entry a r → ((w : ℕ) → IsStart text entry w → (InText text w → ⊥) → a < w) → Low a r
  first_low a r f g b s k = elim (up_to a b) as (λ z. (a < b) ⊎ ((b ≡ a) × (r ≤ s))) [
    | inl h ↦ inl h
    | inr h ↦ elim (at_or a b h) as (λ z. (a < b) ⊎ ((b ≡ a) × (r ≤ s))) [
      | inr e ↦ inr (e, f.least s (subst (λ (x : ℕ). Breaks text entry x s) e k))
      | inl l ↦ elim (in_or b) as (λ z. (a < b) ⊎ ((b ≡ a) × (r ≤ s))) [
        | inl t ↦ absurd (in_low a f.clean f.in_text b s t k l)
        | inr o ↦ absurd (no_outside b s o (λ w. less_not b a (g b w o) h) (λ v. less_trans b a End h (below_end a f.in_text) (slot_end b o v)) k)
      ]
    ]
  ]
    where
      less_not : (b a : ℕ) → a < b → b ≤ a → ⊥
      less_not b a h k = omega arith

  -- a start outside that is the lowest, with the words below it clean
  start_low : (w : ℕ) → out ≡ Some w → ((b r : ℕ) → InText text b → Breaks text entry b r → w < b) → ((b : ℕ) → IsSlot text b → (InText text b → ⊥) → w ≤ b) → Low w 2
  start_low w e g h b s k = elim (up_to w b) as (λ z. (w < b) ⊎ ((b ≡ w) × (2 ≤ s))) [
    | inl l ↦ inl l
    | inr l ↦ elim (at_or w b l) as (λ z. (w < b) ⊎ ((b ≡ w) × (2 ≤ s))) [
      | inr x ↦ inr (x, start_least w s (table.some w e).1 (subst (λ (y : ℕ). Breaks text entry y s) x k))
      | inl m ↦ elim (in_or b) as (λ z. (w < b) ⊎ ((b ≡ w) × (2 ≤ s))) [
        | inl t ↦ inl (g b s t k)
        | inr o ↦ absurd (no_outside b s o (λ x. le_not b w (table.lowest w b e x o) m) (λ v. le_not b w (h b v o) m) k)
      ]
    ]
  ]
    where
      le_not : (b w : ℕ) → w ≤ b → b < w → ⊥
      le_not b w h k = omega arith

  all_clean : CleanTo text entry (length text) → (b r : ℕ) → InText text b → Breaks text entry b r → ⊥
  all_clean c b r t k = of_obeys text entry b r (c b t t.upto) k

  -- a delay slot behind the text, with no start outside below it or at it
  slot_low : CleanTo text entry (length text) → ((w : ℕ) → IsStart text entry w → (InText text w → ⊥) → End < w) → Low End 10
  slot_low c g b s k = elim (in_or b) as (λ z. (End < b) ⊎ ((b ≡ End) × (10 ≤ s))) [
    | inl t ↦ absurd (all_clean c b s t k)
    | inr o ↦ elim (up_to End b) as (λ z. (End < b) ⊎ ((b ≡ End) × (10 ≤ s))) [
      | inl l ↦ inl l
      | inr l ↦
          let ns : IsStart text entry b → ⊥ = λ w. not_below b End (g b w o) l in
          elim (at_or End b l) as (λ z. (End < b) ⊎ ((b ≡ End) × (10 ≤ s))) [
            | inr e ↦ inr (e, least text entry b 10 s (slot_upto b o ns) k)
            | inl m ↦ absurd (no_outside b s o ns (λ v. not_equal b End m (slot_end b o v)) k)
          ]
    ]
  ]
    where
      not_below : (b e : ℕ) → e < b → b ≤ e → ⊥
      not_below b e h k = omega arith

      not_equal : (b e : ℕ) → b < e → b ≡ e → ⊥
      not_equal b e h k = omega arith

      slot_upto : (b : ℕ) → (InText text b → ⊥) → (IsStart text entry b → ⊥) → Upto text entry b 10
      slot_upto b o s =
          let f : (k : ℕ) → Field text entry b k → (n : ℕ) → n ≡ k → Field text entry b n = λ k x n e. subst (Field text entry b) (sym e) x in
          more text entry b 9 (more text entry b 8 (more text entry b 7 (more text entry b 6 (more text entry b 5 (more text entry b 4 (more text entry b 3 (more text entry b 2 (more text entry b 1 (none_yet text entry b)
          (λ t. absurd (o t)))
          (λ w. absurd (s w)))
          (record { one = λ i h. absurd (o (in_text text b i h)); halves = λ rd m. elim m as (λ z. (rd ≡ 0) ⊎ FromOwn text entry b rd) [ inl h ↦ absurd (o (in_text text b _ h)) | inr h ↦ absurd (o (in_text text b _ h)) ] }))
          (λ r c. absurd (o (critical_text text b r c))))
          (record {
            loads = λ rt rs imm d h n r. absurd (o (in_text text b _ h));
            behind_move = λ i p h k n m. o (in_text text b i h);
            behind_next = λ i p q h k n m w. o (in_text text b i h);
            jumps = λ i h k w. o (in_text text b i h);
          }))
          (λ d n. absurd (o (next_text text b d n))))
          (λ rt rs imm m. elim m as (λ z. IsTrue (in_even rt || in_odd rt)) [ inl h ↦ absurd (o (in_text text b _ h)) | inr h ↦ absurd (o (in_text text b _ h)) ]))
          (λ r u w. absurd (o (in_text text b u.instr u.at))))
          (record { serves = λ u. absurd (o (in_text text b u.instr u.at)); starts = λ w k x. absurd (s w) })

  -- nothing outside either
  well_of : CleanTo text entry (length text) → ((w : ℕ) → IsStart text entry w → InText text w) → (IsSlot text End → ⊥) → WellTyped text entry
  well_of c g v b = elim (in_or b) as (λ z. Obeys text entry b) [
    | inl t ↦ c b t t.upto
    | inr o ↦ outside_obeys text entry b o (λ s. o (g b s)) (λ k. v (subst (IsSlot text) (slot_end b o k) k))
  ]

  is_less : (x y : ℕ) → nat_lt x y ≡ true → x < y
  is_less x y h = grind arith

  not_less : (x y : ℕ) → nat_lt x y ≡ false → y ≤ x
  not_less x y h = grind arith

  -- the cases of the outcome
  found_start : (p : ℕ × ℕ) → IsFirst text entry p.0 p.1 → (w : ℕ) → out ≡ Some w → (z : Bool) → nat_lt w p.0 ≡ z → Decided text entry (cond z (Some (w, 2)) (Some p))
  found_start p f w e true h = record {
    broken = start_breaks w (table.some w e).0 (table.some w e).1;
    lowest = start_low w e (λ b r t k. in_above w p.0 b (is_less w p.0 h) (above_first b r t k)) (λ b v o. below_slot w p.0 b (is_less w p.0 h) (below_end p.0 f.in_text) (slot_end b o v));
  }
    where
      in_above : (w a b : ℕ) → w < a → a ≤ b → w < b
      in_above w a b h k = omega arith

      below_slot : (w a b : ℕ) → w < a → a < End → b ≡ End → w ≤ b
      below_slot w a b h k e = omega arith

      above_first : (b r : ℕ) → InText text b → Breaks text entry b r → p.0 ≤ b
      above_first b r t k = elim (up_to b p.0) as (λ z. p.0 ≤ b) [ inl l ↦ absurd (in_low p.0 f.clean f.in_text b r t k l) | inr l ↦ l ]
  found_start p f w e false h = record {
    broken = f.broken;
    lowest = first_low p.0 p.1 f (λ v s o. apart w v p.0 (not_less w p.0 h) (table.lowest w v e s o) (λ x. o (subst (InText text) x f.in_text)));
  }
    where
      apart : (w v a : ℕ) → a ≤ w → w ≤ v → (a ≡ v → ⊥) → a < v
      apart w v a h k n = elim (at_or v a (omega arith)) as (λ z. a < v) [ inl l ↦ l | inr e ↦ absurd (n e) ]

  found_by : (p : ℕ × ℕ) → IsFirst text entry p.0 p.1 → (o : Option ℕ) → out ≡ o → Decided text entry (before_of o p)
  found_by p f None e = record { broken = f.broken; lowest = first_low p.0 p.1 f (λ w s o. absurd (o (table.none e w s))) }
  found_by p f (Some w) e = found_start p f w e (nat_lt w p.0) refl

  clean_slot : CleanTo text entry (length text) → out ≡ None → (z : Bool) → in_slot text End ≡ z → Decided text entry (with_slot z End)
  clean_slot c e true h = record { broken = slot_breaks (slot_is text End h); lowest = slot_low c (λ w s o. absurd (o (table.none e w s))) }
  clean_slot c e false h = well_of c (table.none e) (λ v. no_truth (sym h ∙ is_slot text End v))

  clean_start_by : CleanTo text entry (length text) → (w : ℕ) → out ≡ Some w → (x y : Bool) → in_slot text End ≡ x → nat_lt End w ≡ y → Decided text entry (cond (x && y) (Some (End, 10)) (Some (w, 2)))
  clean_start_by c w e true true h k = record { broken = slot_breaks (slot_is text End h); lowest = slot_low c (λ v s o. far End w v (is_less End w k) (table.lowest w v e s o)) }
    where
      far : (x w v : ℕ) → x < w → w ≤ v → x < v
      far x w v h k = omega arith
  clean_start_by c w e true false h k = record { broken = start_breaks w (table.some w e).0 (table.some w e).1; lowest = start_low w e (λ b r t m. absurd (all_clean c b r t m)) (λ b v o. at_end w b (not_less End w k) (slot_end b o v)) }
    where
      at_end : (w b : ℕ) → w ≤ End → b ≡ End → w ≤ b
      at_end w b h e = omega arith
  clean_start_by c w e false y h k = record { broken = start_breaks w (table.some w e).0 (table.some w e).1; lowest = start_low w e (λ b r t m. absurd (all_clean c b r t m)) (λ b v o. absurd (no_truth (sym h ∙ is_slot text End (subst (IsSlot text) (slot_end b o v) v)))) }

  clean_by : CleanTo text entry (length text) → (o : Option ℕ) → out ≡ o → Decided text entry (outside_of o (in_slot text End) End)
  clean_by c None e = clean_slot c e (in_slot text End) refl
  clean_by c (Some w) e = clean_start_by c w e (in_slot text End) (nat_lt End w) refl refl

  pub decided : (found : Option (ℕ × ℕ)) → Scanned text entry found → Decided text entry (outcome found out (in_slot text (end_of text)) (end_of text))
  decided None c = clean_by c out refl
  decided (Some p) f = found_by p f out refl
