-- A word of the input is asked for and none is left.
use Rattle.std.proofs.Common.{◌≡◌, ◌≢◌, ℕ, suc, arith, ap, refl, ◌∙◌, List, length, Bool, true, false}
use Rattle.std.specs.Prelude.{Some, Option, ◌==◌, bit_or, nat_lt}
use Rattle.mips_isa.specs.declared.instr.End.TheVariants.{Starved, Exception}
use Rattle.mips_isa.specs.declared.instr.Instr.TheVariants.{Ori, Syscall}
use Rattle.mips_isa.specs.Machine.{State, step, reg, service, ended}
use Rattle.third_law.specs.declared.roles.Role.{Role}
use Rattle.third_law.specs.Emitted.{input_code}
use Rattle.third_law.proofs.Sights.{Sight, Tripled, written_there}
use Rattle.third_law.proofs.Going.{Before, step_is, calm_here}
use Rattle.third_law.proofs.Voting.{wrote, write_leads, write_on, tripled_aside}
use Rattle.third_law.proofs.Speaking.{no_exception, equal_is, two_some, low_two, two_there, or_nothing, served}
use Rattle.third_law.proofs.Leading.{Runnable, DoesStop}

starved_of : (s : State) → reg s 2 ≡ 5 → nat_lt s.fed (length s.feed) ≡ false → service s ≡ ended Starved s
starved_of s e m = by (reg s 2 == 1) (reg s 2 == 5) (nat_lt s.fed (length s.feed)) (differ (reg s 2) e) (equal_is (reg s 2) 5 e) m
  where
    differ : (x : ℕ) → x ≡ 5 → (x == 1) ≡ false
    differ x e = grind arith

    by : (p q r : Bool) → p ≡ false → q ≡ true → r ≡ false → served s p q r (reg s 2 == 17) ≡ ended Starved s
    by p q r e f g = rw (e, f, g) refl

starved_not : (c at : ℕ) → Starved ≢ Exception c at
starved_not c at = λ e. cc

pub stops_starved : (p : Runnable) (size : ℕ) (r : Role) (a : Sight) → nat_lt a.fed (length a.feed) ≡ false → DoesStop p size (input_code r) a Starved
stops_starved p size r a none k s h b d =
    let n : ℕ = bit_or (reg s 0) 5 in
    let s1 : State = wrote s 2 n in
    let b1 : Before p.text (suc k) 0 s1 = write_on p.text k s (Ori 2 0 5) 2 n p.is_text b h.0 in
    let d1 : Tripled size s1 a = tripled_aside size s a 2 n two_some low_two d in
    let five : reg s1 2 ≡ 5 = written_there s.regs 2 n two_some (two_there (length s.regs) d.sound.all) ∙ or_nothing 5 (reg s 0) d.sound.zero_ in
    let left : nat_lt s1.fed (length s1.feed) ≡ false = ap (λ (l : List ℕ). nat_lt s1.fed (length l)) d1.feed ∙ (ap (λ (m : ℕ). nat_lt m (length a.feed)) d1.fed ∙ none) in
    let q : step s1 ≡ ended Starved s1 = step_is p.text (suc k) 0 s1 Syscall b1 h.1.0 (calm_here p.text (suc k) s1 Syscall b1) ∙ starved_of s1 five left in
    let ends : (step s1).0.end ≡ Some Starved = ap (λ (z : State × Option ℕ). z.0.end) q in
    record {
      last = s1;
      steps = 1;
      leads = write_leads p.text k s (Ori 2 0 5) 2 n b h.0 refl tt;
      open_ = b1.open_;
      good = record { same = b1.same; number = suc k; instr = Syscall; word = h.1.0; here = b1.pc; by = tt; calm = no_exception Starved (step s1).0.end ends starved_not };
      ends = ends;
      silent = ap (λ (z : State × Option ℕ). z.1) q;
    }
