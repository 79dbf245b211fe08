-- A text without reports never reports.
use Rattle.std.proofs.Common.{◌≡◌, ◌≢◌, ℕ, zero, suc, ◌+◌, ◌≤◌, arith, ap, refl, sym, ◌∙◌, subst, List, length, false, true, Bool, cond}
use Rattle.std.specs.Prelude.{Option, Some, None, ◌==◌, ◌&&◌, ◌%◌, not, nat_le, nat_lt, slice_index, slice_set}
use Rattle.mips_isa.specs.declared.instr.Instr.{Instr}
use Rattle.mips_isa.specs.declared.instr.Instr.TheVariants.{Jr, Syscall, Break, J, Jal, Beq, Bne, Sw}
use Rattle.mips_isa.specs.declared.instr.Act.{Act}
use Rattle.mips_isa.specs.declared.instr.Act.TheVariants.{Write, Move, Both, Load, Store, Go, Link, Pass, Service, Stop}
use Rattle.mips_isa.specs.declared.instr.End.{End}
use Rattle.mips_isa.specs.declared.instr.End.TheVariants.{Exited, Trapped, Starved, Reported, Exception, Hazard}
use Rattle.mips_isa.specs.Table.{decoded}
use Rattle.mips_isa.specs.Machine.{State, reg, act, step, planned, perform, row_act, is_hazard, text_place, branch, break_end, load, store, service, in_memory, ended, moved, with_reg, place}
use Rattle.mips_isa.specs.Locality.{Twins}
use Rattle.mips_isa.specs.Image.{ImageFields, boot_state}
use Rattle.mips_text.specs.Text.{At}
use Rattle.mips_faults.specs.Faults.{image_run}
use Rattle.mips_laws.proofs.Locality.{twins}
use Rattle.lint_lockstep.proofs.Fetch.{going_step}
use Rattle.third_lint.proofs.Going.{ended_step}
use Rattle.third_lint.specs.Rules.{WellTyped}
use Rattle.third_lint.specs.Theorems.{NeverReported, Fails}
use Rattle.third_lint.specs.Votes.{A}
use Rattle.third_lint.proofs.Going.{Fate, good, over_by, fates}
use Rattle.third_lint.proofs.Clean.{Good}
use Rattle.third_lint.proofs.Whole.{Rel, guide, start_good}

-- an end that is no report
abbrev Quietly : Option End → Type 0
Quietly (Some (Reported code at)) = ⊥
Quietly _ = Unit {0}

quiet_none : (o : Option End) → o ≡ None → Quietly o
quiet_none o e = subst Quietly (sym e) tt

-- an act that does not stop with a report ends with none
abbrev Calm : Act → Type 0
Calm (Stop e) = Quietly (Some e)
Calm _ = Unit {0}

abbrev QuietAfter : State × Option ℕ → Type 0
QuietAfter x = Quietly x.0.end

load_quiet : (s : State) (d a : ℕ) → s.end ≡ None → QuietAfter (load s d a)
load_quiet s d a e =
    let v : ℕ = slice_index s.memory (place a) in
    elim (not (a % 4 == 0)) as (λ z. QuietAfter (cond z (ended (Exception 4 s.pc) s) (cond (not (in_memory s a)) (ended (Exception 7 s.pc) s) (record (with_reg (moved s) d v) { last_load = d }, None)))) [
      | true ↦ tt
      | false ↦ elim (not (in_memory s a)) as (λ z. QuietAfter (cond z (ended (Exception 7 s.pc) s) (record (with_reg (moved s) d v) { last_load = d }, None))) [ true ↦ tt | false ↦ quiet_none s.end e ]
    ]

store_quiet : (s : State) (a v : ℕ) → s.end ≡ None → QuietAfter (store s a v)
store_quiet s a v e = elim (not (a % 4 == 0)) as (λ z. QuietAfter (cond z (ended (Exception 5 s.pc) s) (cond (not (in_memory s a)) (ended (Exception 7 s.pc) s) (record (moved s) { memory = slice_set s.memory (place a) v }, None)))) [
  | true ↦ tt
  | false ↦ elim (not (in_memory s a)) as (λ z. QuietAfter (cond z (ended (Exception 7 s.pc) s) (record (moved s) { memory = slice_set s.memory (place a) v }, None))) [ true ↦ tt | false ↦ quiet_none s.end e ]
]

service_quiet : (s : State) → s.end ≡ None → QuietAfter (service s)
service_quiet s e =
    let v : ℕ = slice_index s.feed s.fed in
    elim (reg s 2 == 1) as (λ z. QuietAfter (cond z (moved s, Some (reg s 4)) (cond (reg s 2 == 5) (cond (nat_lt s.fed (length s.feed)) (record (with_reg (moved s) 2 v) { fed = s.fed + 1 }, None) (ended Starved s)) (cond (reg s 2 == 17) (ended (Exited (reg s 4)) s) (ended (Exception 8 s.pc) s))))) [
      | true ↦ quiet_none s.end e
      | false ↦ elim (reg s 2 == 5) as (λ z. QuietAfter (cond z (cond (nat_lt s.fed (length s.feed)) (record (with_reg (moved s) 2 v) { fed = s.fed + 1 }, None) (ended Starved s)) (cond (reg s 2 == 17) (ended (Exited (reg s 4)) s) (ended (Exception 8 s.pc) s)))) [
        | true ↦ elim (nat_lt s.fed (length s.feed)) as (λ z. QuietAfter (cond z (record (with_reg (moved s) 2 v) { fed = s.fed + 1 }, None) (ended Starved s))) [ true ↦ quiet_none s.end e | false ↦ tt ]
        | false ↦ elim (reg s 2 == 17) as (λ z. QuietAfter (cond z (ended (Exited (reg s 4)) s) (ended (Exception 8 s.pc) s))) [ true ↦ tt | false ↦ tt ]
      ]
    ]

perform_quiet : (s : State) (a : Act) → s.end ≡ None → Calm a → QuietAfter (perform a s)
perform_quiet s (Write d v) e c = quiet_none s.end e
perform_quiet s (Move d v) e c = quiet_none s.end e
perform_quiet s (Both h l) e c = quiet_none s.end e
perform_quiet s (Load d a) e c = load_quiet s d a e
perform_quiet s (Store a v) e c = store_quiet s a v e
perform_quiet s (Go to) e c = quiet_none s.end e
perform_quiet s (Link to) e c = quiet_none s.end e
perform_quiet s Pass e c = quiet_none s.end e
perform_quiet s Service e c = service_quiet s e
perform_quiet s (Stop x) e c = c

-- a data row stops by overflow alone
twins_calm : (at : ℕ) (ds : List ℕ) (a b : Act) → Twins at ds a b → Calm a
twins_calm at ds (Stop e) b t = subst (λ (x : End). Quietly (Some x)) (sym t) tt
twins_calm at ds (Write d v) b t = tt
twins_calm at ds (Move d v) b t = tt
twins_calm at ds (Both h l) b t = tt
twins_calm at ds (Load d a) b t = tt
twins_calm at ds (Store a v) b t = tt
twins_calm at ds (Go to) b t = tt
twins_calm at ds (Link to) b t = tt
twins_calm at ds Pass b t = tt
twins_calm at ds Service b t = tt

branch_calm : (z : Bool) (s : State) (n : ℕ) → Calm (branch z s n)
branch_calm true s n = tt
branch_calm false s n = tt

break_quiet : (code at : ℕ) → code ≢ 1 → code ≢ 2 → (x y : Bool) → (nat_le 1 code && nat_le code 2) ≡ x → Quietly (Some (cond x (Reported code at) (cond y (Trapped code) (Exception 9 at))))
break_quiet code at n m true y e = absurd (inside code n m e)
  where
    inside : (code : ℕ) → code ≢ 1 → code ≢ 2 → (nat_le 1 code && nat_le code 2) ≡ true → ⊥
    inside code n m e = grind arith
break_quiet code at n m false true e = tt
break_quiet code at n m false false e = tt

end_quiet : (code at : ℕ) → code ≢ 1 → code ≢ 2 → Quietly (Some (break_end at code))
end_quiet code at n m = break_quiet code at n m (nat_le 1 code && nat_le code 2) (nat_le 6 code && nat_le code 9) refl

act_calm : (i : Instr) (s : State) → (i ≡ Break 1 → ⊥) → (i ≡ Break 2 → ⊥) → Calm (act i s)
act_calm (Break code) s n m = end_quiet code s.pc (λ e. n (ap (λ (c : ℕ). Break c) e)) (λ e. m (ap (λ (c : ℕ). Break c) e))
act_calm (Jr rs) s n m = tt
act_calm Syscall s n m = tt
act_calm (J t) s n m = tt
act_calm (Jal t) s n m = tt
act_calm (Beq x y k) s n m = branch_calm (reg s x == reg s y) s k
act_calm (Bne x y k) s n m = branch_calm (not (reg s x == reg s y)) s k
act_calm (Sw rt rs imm) s n m = tt
act_calm i s n m = twins_calm s.pc _ (act i s) (act i s) (twins i s s refl refl)

hazard_calm : (z : Bool) (i : Instr) (s : State) → Calm (act i s) → Calm (cond z (Stop (Hazard s.pc)) (act i s))
hazard_calm true i s c = tt
hazard_calm false i s c = c

row_calm : (o : Option Instr) (s : State) → (o ≡ Some (Break 1) → ⊥) → (o ≡ Some (Break 2) → ⊥) → Calm (row_act s o)
row_calm None s n m = tt
row_calm (Some i) s n m = hazard_calm (is_hazard s i) i s (act_calm i s (λ e. n (ap (λ (j : Instr). Some j) e)) (λ e. m (ap (λ (j : Instr). Some j) e)))

tests_calm : (x y : Bool) (o : Option Instr) (s : State) → (cond (x && y) o None ≡ Some (Break 1) → ⊥) → (cond (x && y) o None ≡ Some (Break 2) → ⊥) → Calm (cond (not x) (Stop (Exception 4 s.pc)) (cond (not y) (Stop (Exception 6 s.pc)) (row_act s o)))
tests_calm false y o s n m = tt
tests_calm true false o s n m = tt
tests_calm true true o s n m = row_calm o s n m

step_quiet : (s : State) → (At s.text s.pc (Break 1) → ⊥) → (At s.text s.pc (Break 2) → ⊥) → s.end ≡ None → QuietAfter (step s)
step_quiet s n m e = subst QuietAfter (sym (going_step s e)) (perform_quiet s (planned s) e (tests_calm (s.pc % 4 == 0) (nat_le 0x00400000 s.pc && nat_lt (text_place s.pc) (length s.text)) (decoded (slice_index s.text (text_place s.pc))) s n m))

not_quiet : (o : Option End) (code at : ℕ) → Quietly o → o ≡ Some (Reported code at) → ⊥
not_quiet o code at q e = subst Quietly e q

quiet_by : (text : List ℕ) (entry : ℕ) → WellTyped text entry → (s : State) → Fate (Good text) s → Quietly s.end → QuietAfter (step s)
quiet_by text entry rules_hold s (good g e) q = step_quiet s (λ h. (rules_hold s.pc).silent.0 (subst (λ (l : List ℕ). At l s.pc (Break 1)) g.same h)) (λ h. (rules_hold s.pc).silent.1 (subst (λ (l : List ℕ). At l s.pc (Break 2)) g.same h)) e
quiet_by text entry rules_hold s (over_by x e) q = subst Quietly (e ∙ sym (ended_step s x e).0) q

before_now : (k : ℕ) → k ≤ suc k
before_now k = omega arith

quiet_runs : (i : ImageFields) (given : List ℕ) → WellTyped i.text i.entry → ((k : ℕ) → Fate (Good i.text) (image_run i given None k).state) → (k : ℕ) → Quietly (image_run i given None k).state.end
quiet_runs i given r f zero = tt
quiet_runs i given r f (suc k) = quiet_by i.text i.entry r (image_run i given None k).state (f k) (quiet_runs i given r f k)

at_most_self : (k : ℕ) → k ≤ k
at_most_self k = omega arith

pub never_reported : NeverReported
never_reported i given rows fits_text typed placed agreed k code at e =
    not_quiet _ code at (quiet_runs i given typed.rules (λ m. fates Fails (Good i.text) (Rel i.text i.entry fits_text typed.rules A) m (boot_state i given)
    (guide i.text i.entry fits_text typed.rules m (boot_state i given) (placed m) (agreed m) A) (start_good i.text i.entry fits_text typed.rules (boot_state i given).memory given) refl m (at_most_self m)) k) e
