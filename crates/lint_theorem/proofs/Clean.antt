-- The run without a change goes along its blocks, from the state in which an image begins.
use Rattle.std.proofs.Common.{◌≡◌, ℕ, zero, suc, ◌+◌, ◌≤◌, arith, ap, refl, sym, ◌∙◌, subst, List, inl, inr, true, false, Bool}
use Rattle.std.specs.Prelude.{Option, Some, None, ◌⊎◌}
use Rattle.mips_isa.specs.declared.instr.End.{End}
use Rattle.mips_isa.specs.Machine.{State, step, act, perform, is_jump, plus}
use Rattle.mips_isa.specs.Image.{ImageFields, boot_state}
use Rattle.mips_text.specs.Text.{IsText, InText, At}
use Rattle.mips_text.specs.Blocks.{IsStart, begins, InSpan}
use Rattle.mips_faults.specs.Faults.{image_run, PlacedFor}
use Rattle.harden_lint.specs.Rules.{WellTyped}
use Rattle.mips_isa.specs.declared.instr.Instr.{Instr}
use Rattle.mips_isa.specs.declared.instr.Instr.TheVariants.{Break}
use Rattle.lint_theorem.specs.Divert.{KeepsNumbers, EntersAtStart}
use Rattle.lint_theorem.proofs.Ground.{plus_four, in_text, is_or}
use Rattle.lint_theorem.proofs.Heads.{starts_inside, at_start, span_back}
use Rattle.lint_theorem.proofs.Words.{some_none, passes, turns, no_hazard, step_does}
use Rattle.lint_theorem.proofs.Along.{Along, Marked, Stands, plain, behind, enters, over, into, mark_start, self_near, next_along, span_on, reaches_jump, slot_here, less_than, up_four, stands_plain}

boot_along : (i : ImageFields) (input : List ℕ) → IsText i.text → WellTyped i.text i.entry → Along i.text i.entry (boot_state i input)
boot_along i input big w =
    let st : IsStart i.text i.entry i.entry = begins refl in
    let inside : InText i.text i.entry = starts_inside i.text i.entry i.entry w st in
    record {
      same = refl;
      long = refl;
      zero = refl;
      inside = inside;
      marked = λ u h x y. mark_start h u i.entry (boot_state i input).regs (self_near u i.entry (at_start i.text i.entry u i.entry x st));
      loaded = inl refl;
      stands = plain refl (plus_four i.text i.entry big inside) (λ z. (w i.entry).slot.no_start z st);
    }

-- where a run has not ended, it had not a step before
stood : (s : State) (e : End) → s.end ≡ Some e → (step s).0.end ≡ None → ⊥
stood s e h k = some_none e (sym (ap (λ (x : State × Option ℕ). x.0.end) still ∙ h) ∙ k)
  where
    still : step s ≡ (s, None)
    still = rw h refl

pub before_open : (s : State) (o : Option End) → s.end ≡ o → (step s).0.end ≡ None → s.end ≡ None
before_open s None e h = e
before_open s (Some f) e h = absurd (stood s f e h)

pub run_along : (i : ImageFields) (input : List ℕ) (n : ℕ) → IsText i.text → WellTyped i.text i.entry → PlacedFor i input n → (image_run i input None n).state.end ≡ None → Along i.text i.entry (image_run i input None n).state
run_along i input zero big w p e = boot_along i input big w
run_along i input (suc n) big w p e =
    let s : State = (image_run i input None n).state in
    let o : s.end ≡ None = before_open s s.end refl e in
    next_along i.text i.entry s big w (run_along i input n big w (λ m l k. p m (omega arith) k) o) o (p n (omega arith) o) e

pub keeps_numbers : KeepsNumbers
keeps_numbers i input n big w p e u h x y b =
    let m : Marked h u (image_run i input None n).state.pc (image_run i input None n).state.regs = (run_along i input n big w p e).marked u h x y in
    (m.holds b, m.leaves (omega arith))

-- A step that does not end goes to npc, and enters a block only at its start.

goes_by : (s : State) (i : Instr) (z : Bool) → is_jump i ≡ z → (is_jump i ≡ true → s.npc ≡ plus s.pc 4) → (perform (act i s) s).0.end ≡ None → (perform (act i s) s).0.pc ≡ s.npc
goes_by s i true j n h = (turns i s j (n j)).pc
goes_by s i false j n h = (passes i s j h).pc

goes : (text : List ℕ) (entry : ℕ) (s : State) → IsText text → WellTyped text entry → Along text entry s → s.end ≡ None → (step s).0.end ≡ None → (step s).0.pc ≡ s.npc
goes text entry s big w o e h =
    let f : (i : Instr) × At text s.pc i = (w s.pc).instruction o.inside in
    let at : At s.text s.pc f.0 = subst (λ (t : List ℕ). At t s.pc f.0) (sym o.same) f.1 in
    let d : step s ≡ perform (act f.0 s) s = step_does s f.0 e at (no_hazard s f.0 e at h) in
    let n : is_jump f.0 ≡ true → s.npc ≡ plus s.pc 4 = λ j. (stands_plain text entry s f.0 w f.1 j o.stands).1 ∙ sym (plus_four text s.pc big o.inside) in
    ap (λ (x : State × Option ℕ). x.0.pc) d ∙ goes_by s f.0 (is_jump f.0) refl n (ap (λ (x : State × Option ℕ). x.0.end) (sym d) ∙ h)

-- the start of a block, or a block that has the word before
abbrev Enters : List ℕ → (entry u from to : ℕ) → Type 0
Enters text entry u from to = (to ≡ u) ⊎ InSpan text entry u from

enters_skip : (text : List ℕ) (entry u j from to code : ℕ) (k : Instr) → WellTyped text entry → InText text from → At text j k → is_jump k ≡ true → from ≡ j + 4 → At text (j + 8) (Break code) → InSpan text entry u to → to ≤ j + 12 → j ≤ to → Enters text entry u from to
enters_skip text entry u j from to code k w t at f e b x h l =
    elim (reaches_jump text entry u j to code w (in_text text j k at) (slot_here text j k at f) b x h l) as (λ z. Enters text entry u from to) [
      | inl c ↦ inl (sym c)
      | inr c ↦ inr (span_on text entry u j from k w at f e t c)
    ]

upto : (a j k : ℕ) → a ≡ j + k → k ≤ 12 → a ≤ j + 12
upto a j k e h = omega arith

from : (a j k : ℕ) → a ≡ j + k → j ≤ a
from a j k e = omega arith

enters_by : (text : List ℕ) (entry u : ℕ) (s : State) → WellTyped text entry → Along text entry s → InSpan text entry u s.npc → Stands text entry s → Enters text entry u s.pc s.npc
enters_by text entry u s w o x (plain slot n ns) = elim (is_or u (s.pc + 4)) as (λ z. Enters text entry u s.pc s.npc) [
  | inl e ↦ inl (n ∙ sym e)
  | inr d ↦
      let y : InSpan text entry u (s.pc + 4) = subst (λ (a : ℕ). InSpan text entry u a) n x in
      inr (span_back text entry u (s.pc + 4) s.pc y o.inside (less_than u s.pc y.from d (starts_inside text entry u w y.start).aligned o.inside.aligned) (up_four s.pc))
]
enters_by text entry u s w o x (behind j k at f e slot (enters st) kept) = inl (sym (at_start text entry u s.npc x st))
enters_by text entry u s w o x (behind j k at f e slot (over code sk g) kept) = enters_skip text entry u j s.pc s.npc code k w o.inside at f e sk.stop x (upto s.npc j 12 g (omega arith)) (from s.npc j 12 g)
enters_by text entry u s w o x (behind j k at f e slot (into code sk g) kept) = enters_skip text entry u j s.pc s.npc code k w o.inside at f e sk.stop x (upto s.npc j 8 g (omega arith)) (from s.npc j 8 g)

one_more : (n : ℕ) → suc n ≡ n + 1
one_more n = omega arith

enters_suc : (i : ImageFields) (input : List ℕ) (n : ℕ) → IsText i.text → WellTyped i.text i.entry → PlacedFor i input n → (image_run i input None (suc n)).state.end ≡ None → (u : ℕ) → InSpan i.text i.entry u (image_run i input None (suc n)).state.pc → Enters i.text i.entry u (image_run i input None n).state.pc (image_run i input None (suc n)).state.pc
enters_suc i input n big w p e u x =
    let s : State = (image_run i input None n).state in
    let f : s.end ≡ None = before_open s s.end refl e in
    let o : Along i.text i.entry s = run_along i input n big w p f in
    let g : (step s).0.pc ≡ s.npc = goes i.text i.entry s big w o f e in
    subst (λ (a : ℕ). Enters i.text i.entry u s.pc a) (sym g) (enters_by i.text i.entry u s w o (subst (λ (a : ℕ). InSpan i.text i.entry u a) g x) o.stands)

pub enters_at_start : EntersAtStart
enters_at_start i input n big w p e u x =
    subst (λ (m : ℕ). Enters i.text i.entry u (image_run i input None n).state.pc (image_run i input None m).state.pc) (one_more n)
    (enters_suc i input n big w (λ m l k. p m (omega arith) k) (subst (λ (m : ℕ). (image_run i input None m).state.end ≡ None) (sym (one_more n)) e) u (subst (λ (m : ℕ). InSpan i.text i.entry u (image_run i input None m).state.pc) (sym (one_more n)) x))
