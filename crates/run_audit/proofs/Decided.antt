-- Each run passes or is refused: by the lint of its text, and then turn by turn.
use Rattle.std.proofs.Common.{◌≡◌, ◌⊎◌, inl, inr, ℕ, zero, suc, ◌+◌, ◌*◌, ◌≤◌, ◌<◌, arith, refl, subst, List, length, Bool, true, false, add-one}
use Rattle.std.specs.Prelude.{Option, None, is_some, replicate}
use Rattle.mips_isa.specs.Machine.{State, step}
use Rattle.mips_text.specs.Text.{IsText}
use Rattle.mips_text.specs.Blocks.{IsStart}
use Rattle.mips_isa.specs.Image.{ImageFields}
use Rattle.mips_laws.specs.RunLaws.{EndStays}
use Rattle.lint_words.specs.Words.{made}
use Rattle.harden_lint.specs.Rules.{WellTyped}
use Rattle.harden_lint.specs.StartTable.{Below, marked, marked_if}
use Rattle.harden_lint.specs.Verdict.{IsTyped, IsBad, TypedOrBad}
use Rattle.run_audit.specs.declared.error.AuditError.{AuditError}
use Rattle.run_audit.specs.declared.error.AuditError.TheVariants as errors
use Rattle.run_audit.specs.declared.turns.Turn.{Turn}
use Rattle.run_audit.specs.declared.turns.Turn.TheVariants as turns
use Rattle.run_audit.specs.Audits.{clean, Passes, IsRefused, PassesOrRefused}
use Rattle.run_audit.specs.Turns.{Bits, stands, told_by}
use Rattle.run_audit.proofs.StartBits.{first_bits, turn_bits, last_bits}
use Rattle.run_audit.proofs.CleanRun.{AtStep, none_passed, clean_turn, reported_turn, misplaced_turn, early, whole, end_none}

-- a table of the starts that the first words make
bits_to : (text : List ℕ) (entry k : ℕ) → (bits : List Bool) × Bits text (Below text entry k) bits
bits_to text entry zero =
    let zeros : List Bool = replicate (length text) false in
    (marked zeros entry, first_bits text entry (length text) zeros (marked zeros entry) refl refl refl)
bits_to text entry (suc k) =
    let t : (bits : List Bool) × Bits text (Below text entry k) bits = bits_to text entry k in
    let p : Option ℕ × Option ℕ = made text (0x00400000 + 4 * k) in
    let bits1 : List Bool = marked_if t.0 p.0 in
    let bits2 : List Bool = marked_if bits1 p.1 in
    (bits2, subst (λ (n : ℕ). Bits text (Below text entry n) bits2) (add-one k) (turn_bits text entry k t.0 bits1 bits2 p t.1 refl refl refl))

bits_of : (text : List ℕ) (entry : ℕ) → (bits : List Bool) × Bits text (IsStart text entry) bits
bits_of text entry =
    let t : (bits : List Bool) × Bits text (Below text entry (length text)) bits = bits_to text entry (length text) in
    (t.0, last_bits text entry (length text) t.0 refl t.1)

module _ (law : EndStays) (i : ImageFields) (input : List ℕ) (steps : ℕ) (bits : List Bool) where
  abbrev Answer : Type 0
  Answer = ((made : ℕ) × Passes i input steps made) ⊎ ((error : AuditError) × IsRefused i input steps error)

  -- the run has come so far, or the answer is known
  abbrev GoesOn : ℕ → Type 0
  GoesOn n = AtStep i input bits n (clean i input n) ⊎ Answer

  abbrev now : ℕ → State
  now n = clean i input n

  abbrev next : ℕ → State
  next n = (step (clean i input n)).0

  by_turn : (n : ℕ) → n < steps → AtStep i input bits n (now n) → (now n).end ≡ None → (turn : Turn) → turn ≡ told_by (stands i.text bits (now n)) (next n).end → GoesOn (suc n)
  by_turn n l a g turns.Clean h = inl (subst (λ (m : ℕ). AtStep i input bits m (next n)) (add-one n) (clean_turn i input bits n (now n) (next n) a g refl h))
  by_turn n l a g turns.Reported h = inr (inr (errors.Reports n, reported_turn i input bits n steps (now n) (next n) l a g refl h))
  by_turn n l a g turns.Misplaced h = inr (inr (errors.Misplaced n (now n).pc, misplaced_turn i input bits n steps (now n) (next n) l a g refl h))

  before : (k n : ℕ) → k < n → k ≤ n
  before k n h = omega arith

  by_end : (n : ℕ) → n < steps → AtStep i input bits n (now n) → (ended : Bool) → ended ≡ is_some (now n).end → GoesOn (suc n)
  by_end n l a true h = inr (inl (n, early law i input bits n steps (now n) true (before n steps l) a h refl))
  by_end n l a false h = by_turn n l a (end_none (now n) false h refl) (told_by (stands i.text bits (now n)) (next n).end) refl

  then : (n : ℕ) → n < steps → GoesOn n → GoesOn (suc n)
  then n l (inl a) = by_end n l a (is_some (now n).end) refl
  then n l (inr x) = inr x

  below : (k n : ℕ) → suc k ≤ n → k < n
  below k n h = omega arith

  come : AtStep i input bits 0 (now 0) → (n : ℕ) → n ≤ steps → GoesOn n
  come a zero l = inl a
  come a (suc n) l = then n (below n steps l) (come a n (before n steps (below n steps l)))

  last : GoesOn steps → Answer
  last (inl a) = inl (steps, whole i input bits steps steps (now steps) refl a)
  last (inr x) = x

  self : (n : ℕ) → n ≤ n
  self n = omega arith

  answer_of : WellTyped i.text i.entry → Bits i.text (IsStart i.text i.entry) bits → Answer
  answer_of typed starts = last (come (record { typed = typed; starts = starts; is = refl; passed = none_passed i input }) steps (self steps))

by_lint : EndStays → (i : ImageFields) (input : List ℕ) (steps : ℕ) → IsTyped i.text i.entry ⊎ IsBad i.text i.entry →
    ((made : ℕ) × Passes i input steps made) ⊎ ((error : AuditError) × IsRefused i input steps error)
by_lint law i input steps (inl typed) = let t : (bits : List Bool) × Bits i.text (IsStart i.text i.entry) bits = bits_of i.text i.entry in answer_of law i input steps t.0 typed.1.rules t.1
by_lint law i input steps (inr bad) = inr (errors.Lint bad.0 bad.1.0, bad.1.1)

pub passes_or_refused : EndStays → TypedOrBad → PassesOrRefused
passes_or_refused law lint i input steps small = by_lint law i input steps (lint.one i.text i.entry small)
