-- An audit has one answer.
use Rattle.std.proofs.Common.{◌≡◌, ℕ, ◌+◌, ◌≤◌, ◌<◌, arith, refl, sym, ◌∙◌, subst, List, inl, inr, ap}
use Rattle.std.specs.Prelude.{None, ◌⊎◌, Result, Ok, Err}
use Rattle.mips_isa.specs.declared.instr.End.TheVariants as ends
use Rattle.mips_isa.specs.Image.{ImageFields}
use Rattle.mips_laws.specs.RunLaws.{EndStays}
use Rattle.mips_faults.specs.Faults.{PlacedFor}
use Rattle.harden_lint.specs.Rules.{WellTyped, BadAt}
use Rattle.harden_lint.proofs.Exact.{of_obeys}
use Rattle.run_audit.specs.declared.error.AuditError.{AuditError}
use Rattle.run_audit.specs.declared.error.AuditError.TheVariants as errors
use Rattle.run_audit.specs.Audits.{clean, Misplaces, Reports, Passes, IsRefused, NeverBoth, IsAnswered}
use Rattle.run_audit.specs.Turns.{Judged}
use Rattle.run_audit.proofs.CleanRun.{apart}

-- two numbers are equal where neither is less
same_number : (m n : ℕ) → (m < n → ⊥) → (n < m → ⊥) → m ≡ n
same_number m n h k = elim (three m n) as (λ z. m ≡ n) [ inl x ↦ absurd (h x) | inr (inl x) ↦ absurd (k x) | inr (inr x) ↦ x ]
  where
    three : (m n : ℕ) → (m < n) ⊎ ((n < m) ⊎ (m ≡ n))
    three m n = grind arith

-- the lint
bad_typed : (text : List ℕ) (entry a r : ℕ) → BadAt text entry a r → WellTyped text entry → ⊥
bad_typed text entry a r b w = of_obeys text entry a r (w a) b.broken

one_lowest : (a r b s : ℕ) → (a < b) ⊎ ((b ≡ a) × (r ≤ s)) → (b < a) ⊎ ((a ≡ b) × (s ≤ r)) → (a ≡ b) × (r ≡ s)
one_lowest a r b s h k = grind arith

bad_once : (text : List ℕ) (entry a r b s : ℕ) → BadAt text entry a r → BadAt text entry b s → (a ≡ b) × (r ≡ s)
bad_once text entry a r b s x y = one_lowest a r b s (x.lowest b s y.broken) (y.lowest a r x.broken)

-- misplaced states
placed_no : (i : ImageFields) (input : List ℕ) (steps step at n : ℕ) → Misplaces i input steps step at → PlacedFor i input n → step < n → ⊥
placed_no i input steps step at n m p h = m.broken (p step h m.going)

misplaced_once : (i : ImageFields) (input : List ℕ) (steps a p b q : ℕ) → Misplaces i input steps a p → Misplaces i input steps b q → a ≡ b
misplaced_once i input steps a p b q x y = same_number a b (placed_no i input steps a p b x y.before) (placed_no i input steps b q a y x.before)

at_once : (i : ImageFields) (input : List ℕ) (steps a p b q : ℕ) → Misplaces i input steps a p → Misplaces i input steps b q → p ≡ q
at_once i input steps a p b q x y = x.stands ∙ (ap (λ (n : ℕ). (clean i input n).pc) (misplaced_once i input steps a p b q x y) ∙ sym y.stands)

-- reports
reported_past : EndStays → (i : ImageFields) (input : List ℕ) (steps a b : ℕ) → Reports i input steps a → (clean i input b).end ≡ None → a < b → ⊥
reported_past law i input steps a b x g h = apart law i input (a + 1) b (ends.Reported x.code x.at) (up a b h) x.reported g
  where
    up : (a b : ℕ) → a < b → a + 1 ≤ b
    up a b h = omega arith

reported_once : EndStays → (i : ImageFields) (input : List ℕ) (steps a b : ℕ) → Reports i input steps a → Reports i input steps b → a ≡ b
reported_once law i input steps a b x y = same_number a b (reported_past law i input steps a b x y.going) (reported_past law i input steps b a y x.going)

not_both : EndStays → (i : ImageFields) (input : List ℕ) (steps a p b : ℕ) → Misplaces i input steps a p → Reports i input steps b → ⊥
not_both law i input steps a p b x y = elim (which a b) as (λ z. ⊥) [ inl h ↦ placed_no i input steps a p (b + 1) x y.placed h | inr h ↦ reported_past law i input steps b a y x.going h ]
  where
    which : (a b : ℕ) → (a < b + 1) ⊎ (b < a)
    which a b = grind arith

-- runs that pass
passes_placed : (i : ImageFields) (input : List ℕ) (steps a p n : ℕ) → Misplaces i input steps a p → Passes i input steps n → ⊥
passes_placed i input steps a p n x y = placed_no i input steps a p steps x y.placed x.below

passes_silent : (i : ImageFields) (input : List ℕ) (steps a n : ℕ) → Reports i input steps a → Passes i input steps n → ⊥
passes_silent i input steps a n x y = y.unreported (a + 1) (up a steps x.below) x.code x.at x.reported
  where
    up : (a b : ℕ) → a < b → a + 1 ≤ b
    up a b h = omega arith

passes_less : (i : ImageFields) (input : List ℕ) (steps m n : ℕ) → Passes i input steps m → Passes i input steps n → m < n → ⊥
passes_less i input steps m n x y h = x.ended (below m n steps h y.within) (y.going m h)
  where
    below : (m n s : ℕ) → m < n → n ≤ s → m < s
    below m n s h k = omega arith

passes_once : (i : ImageFields) (input : List ℕ) (steps m n : ℕ) → Passes i input steps m → Passes i input steps n → m ≡ n
passes_once i input steps m n x y = same_number m n (passes_less i input steps m n x y) (passes_less i input steps n m y x)

-- from what holds to the answer
abbrev Answer : Type 0
Answer = Result ℕ AuditError

pub passes_answer : (i : ImageFields) (input : List ℕ) (steps n : ℕ) (r : Answer) → IsAnswered r → Judged i input steps r → Passes i input steps n → r ≡ Ok n
passes_answer i input steps n (Ok m) k j x = ap (λ (z : ℕ). let a : Answer = Ok z in a) (passes_once i input steps m n j x)
passes_answer i input steps n (Err (errors.Lint a s)) k j x = absurd (bad_typed i.text i.entry a s j x.typed)
passes_answer i input steps n (Err (errors.Reports a)) k j x = absurd (passes_silent i input steps a n j x)
passes_answer i input steps n (Err (errors.Misplaced a p)) k j x = absurd (passes_placed i input steps a p n j x)
passes_answer i input steps n (Err errors.OutOfMemory) k j x = absurd (k refl)

lint_answer : (i : ImageFields) (input : List ℕ) (steps a s : ℕ) (r : Answer) → IsAnswered r → Judged i input steps r → BadAt i.text i.entry a s → r ≡ Err (errors.Lint a s)
lint_answer i input steps a s (Ok m) k j x = absurd (bad_typed i.text i.entry a s x j.typed)
lint_answer i input steps a s (Err (errors.Lint b t)) k j x =
    let e : (b ≡ a) × (t ≡ s) = bad_once i.text i.entry b t a s j x in
    ap (λ (z : ℕ). let q : Answer = Err (errors.Lint z t) in q) e.0 ∙ ap (λ (z : ℕ). let q : Answer = Err (errors.Lint a z) in q) e.1
lint_answer i input steps a s (Err (errors.Reports b)) k j x = absurd (bad_typed i.text i.entry a s x j.typed)
lint_answer i input steps a s (Err (errors.Misplaced b p)) k j x = absurd (bad_typed i.text i.entry a s x j.typed)
lint_answer i input steps a s (Err errors.OutOfMemory) k j x = absurd (k refl)

reports_answer : EndStays → (i : ImageFields) (input : List ℕ) (steps a : ℕ) (r : Answer) → IsAnswered r → Judged i input steps r → Reports i input steps a → r ≡ Err (errors.Reports a)
reports_answer law i input steps a (Ok m) k j x = absurd (passes_silent i input steps a m x j)
reports_answer law i input steps a (Err (errors.Lint b t)) k j x = absurd (bad_typed i.text i.entry b t j x.typed)
reports_answer law i input steps a (Err (errors.Reports b)) k j x = ap (λ (z : ℕ). let q : Answer = Err (errors.Reports z) in q) (reported_once law i input steps b a j x)
reports_answer law i input steps a (Err (errors.Misplaced b p)) k j x = absurd (not_both law i input steps b p a j x)
reports_answer law i input steps a (Err errors.OutOfMemory) k j x = absurd (k refl)

misplaced_answer : EndStays → (i : ImageFields) (input : List ℕ) (steps a p : ℕ) (r : Answer) → IsAnswered r → Judged i input steps r → Misplaces i input steps a p → r ≡ Err (errors.Misplaced a p)
misplaced_answer law i input steps a p (Ok m) k j x = absurd (passes_placed i input steps a p m x j)
misplaced_answer law i input steps a p (Err (errors.Lint b t)) k j x = absurd (bad_typed i.text i.entry b t j x.typed)
misplaced_answer law i input steps a p (Err (errors.Reports b)) k j x = absurd (not_both law i input steps a p b x j)
misplaced_answer law i input steps a p (Err (errors.Misplaced b q)) k j x =
    ap (λ (z : ℕ). let e : Answer = Err (errors.Misplaced z q) in e) (misplaced_once i input steps b q a p j x)
    ∙ ap (λ (z : ℕ). let e : Answer = Err (errors.Misplaced a z) in e) (at_once i input steps b q a p j x)
misplaced_answer law i input steps a p (Err errors.OutOfMemory) k j x = absurd (k refl)

pub refused_answer : EndStays → (i : ImageFields) (input : List ℕ) (steps : ℕ) (r : Answer) (e : AuditError) → IsAnswered r → Judged i input steps r → IsRefused i input steps e → r ≡ Err e
refused_answer law i input steps r (errors.Lint a s) k j x = lint_answer i input steps a s r k j x
refused_answer law i input steps r (errors.Reports a) k j x = reports_answer law i input steps a r k j x
refused_answer law i input steps r (errors.Misplaced a p) k j x = misplaced_answer law i input steps a p r k j x
refused_answer law i input steps r errors.OutOfMemory k j x = absurd x

-- and back
pub answer_passes : (i : ImageFields) (input : List ℕ) (steps n : ℕ) (r : Answer) → Judged i input steps r → r ≡ Ok n → Passes i input steps n
answer_passes i input steps n r j e = subst (Judged i input steps) e j

pub answer_refused : (i : ImageFields) (input : List ℕ) (steps : ℕ) (r : Answer) (e : AuditError) → IsAnswered r → Judged i input steps r → r ≡ Err e → IsRefused i input steps e
answer_refused i input steps r (errors.Lint a s) k j h = subst (Judged i input steps) h j
answer_refused i input steps r (errors.Reports a) k j h = subst (Judged i input steps) h j
answer_refused i input steps r (errors.Misplaced a p) k j h = subst (Judged i input steps) h j
answer_refused i input steps r errors.OutOfMemory k j h = absurd (k h)

pub never_both : NeverBoth
never_both i input steps n (errors.Lint a s) p x = bad_typed i.text i.entry a s x p.typed
never_both i input steps n (errors.Reports a) p x = passes_silent i input steps a n x p
never_both i input steps n (errors.Misplaced a q) p x = passes_placed i input steps a q n x p
never_both i input steps n errors.OutOfMemory p x = x
