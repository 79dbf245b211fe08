-- A text that can be run, and what each piece of code does in it from one sight to another.
use Rattle.std.proofs.Common.{◌≡◌, ◌≢◌, ◌<◌, ℕ, ◌+◌, ◌^◌, arith, ap, sym, ◌∙◌, subst, List, [], ◌++◌, length, length-append}
use Rattle.std.specs.Prelude.{slice_index}
use Rattle.hard_runs.proofs.Following.{leads_on}
use Rattle.mips_isa.specs.declared.instr.Instr.{Instr}
use Rattle.mips_isa.specs.declared.instr.End.{End}
use Rattle.mips_isa.specs.declared.instr.End.TheVariants.{Trapped, Exited}
use Rattle.mips_isa.specs.Machine.{State, break_end}
use Rattle.mips_text.specs.Text.{IsText}
use Rattle.third_law.specs.declared.roles.Stream.{Stream}
use Rattle.third_law.specs.declared.roles.Role.{Role}
use Rattle.third_law.specs.declared.roles.Role.TheVariants.{Value}
use Rattle.third_law.specs.Roles as roles
use Rattle.third_law.specs.Roles.{RoleFits, each, product}
use Rattle.third_law.specs.Emitted.{service_code, input_code}
use Rattle.third_law.proofs.Sights.{Sight, AreWords, Tripled, put}
use Rattle.third_law.proofs.Going as going
use Rattle.third_law.proofs.Going.{machine, Before, Stands, Done, stands_first, stands_rest}
use Rattle.third_law.proofs.Voting as voting
use Rattle.third_law.proofs.Voting.{Good, Computes}
use Rattle.third_law.proofs.Loading as loading
use Rattle.third_law.proofs.Loading.{LeadsTo}
use Rattle.third_law.proofs.Storing as storing
use Rattle.third_law.proofs.Storing.{set_cell}
use Rattle.third_law.proofs.Products as products
use Rattle.third_law.proofs.Products.{Multiplies}
use Rattle.third_law.proofs.Control as control
use Rattle.third_law.proofs.Speaking as speaking
use Rattle.third_law.proofs.Speaking.{Stops, Speaks}
use Rattle.third_law.proofs.Hearing as hearing
use Rattle.third_law.proofs.Hearing.{hears}

-- A text that can be run.
pub record Runnable : Type 0 where
  pub text : List ℕ
  pub is_text : IsText text

-- Some code leads from states of which the first sight is true to states of which the second is.
abbrev pub Does : Runnable → ℕ → List Instr → Sight → Sight → Type 0
Does p size code a a' = going.Does p.text (Good p.text) size code a a'

-- Some code comes to an end.
abbrev pub DoesStop : Runnable → ℕ → List Instr → Sight → End → Type 0
DoesStop p size code a end = (k : ℕ) (s : State) → Stands p.text k code → Before p.text k 0 s → Tripled size s a → Stops p.text s end

-- Some code puts out a word.
abbrev pub DoesSpeak : Runnable → ℕ → List Instr → Sight → ℕ → Sight → Type 0
DoesSpeak p size code a w a' = (k : ℕ) (s : State) → Stands p.text k code → Before p.text k 0 s → Tripled size s a → Speaks p.text size (k + length code) s a' w

-- ---- the pieces

pub does_nothing : (p : Runnable) (size : ℕ) (a : Sight) → Does p size [] a a
does_nothing p size a = going.does_nothing p.text (Good p.text) size a

pub does_then : (p : Runnable) (size : ℕ) (c e : List Instr) (a a' a'' : Sight) → Does p size c a a' → Does p size e a' a'' → Does p size (c ++ e) a a''
does_then p size c e a a' a'' f g = going.does_then p.text (Good p.text) size c e a a' a'' f g

pub does_each : (p : Runnable) (size : ℕ) (f : Stream → Instr) (r : Role) (a : Sight) (v : ℕ) → Computes size f r a v → Does p size (each f) a (put a r v)
does_each p size f r a v c = voting.does_each p.text size f r a v p.is_text c

pub does_vote : (p : Runnable) (size : ℕ) (r : Role) (a : Sight) → RoleFits r → Does p size (roles.vote r) a a
does_vote p size r a fits = voting.does_vote p.text size r a p.is_text fits

pub does_load : (p : Runnable) (size : ℕ) (to base : Role) (offset c : ℕ) (a : Sight) → RoleFits to → LeadsTo size a base offset c → Does p size (roles.load to base offset) a (put a to (a.cell c))
does_load p size to base offset c a fits l = loading.does_load p.text size to base offset c a p.is_text fits l

pub does_store : (p : Runnable) (size : ℕ) (from base : Role) (offset c : ℕ) (a : Sight) → RoleFits from → LeadsTo size a base offset c → Does p size (roles.store from base offset) a (set_cell a c (a.file from))
does_store p size from base offset c a fits l = storing.does_store p.text size from base offset c a p.is_text fits l

pub does_product : (p : Runnable) (size : ℕ) (f g : Stream → Instr) (r : Role) (a : Sight) (v : ℕ) → Multiplies size f g r a v → Does p size (product f g) a (put a r v)
does_product p size f g r a v m = products.does_product p.text size f g r a v p.is_text m

pub does_test : (p : Runnable) (size : ℕ) (r : Role) (code : ℕ) (a : Sight) → RoleFits r → a.file r ≢ 0 → Does p size (roles.test r code) a a
does_test p size r code a fits some = control.does_test p.text size r code a p.is_text fits some

pub does_input : (p : Runnable) (size : ℕ) (r : Role) (a : Sight) → RoleFits r → a.fed < length a.feed → slice_index a.feed a.fed < 2 ^ 32 → Does p size (input_code r) a (hears a r)
does_input p size r a fits more small = hearing.does_input p.text size r a p.is_text fits more small

pub stops_test : (p : Runnable) (size : ℕ) (r : Role) (code : ℕ) (a : Sight) → RoleFits r → a.file r ≡ 0 → ((at : ℕ) → break_end at code ≡ Trapped code) → DoesStop p size (roles.test r code) a (Trapped code)
stops_test p size r code a fits z trap k s h b d = speaking.stops_test p.text size k r code a s p.is_text fits z trap h b d

pub speaks_out : (p : Runnable) (size : ℕ) (a : Sight) → DoesSpeak p size (service_code 1) a (a.file (Value 0)) a
speaks_out p size a k s h b d = speaking.speaks_out p.text size k a s p.is_text h b d

pub stops_exit : (p : Runnable) (size : ℕ) (a : Sight) → DoesStop p size (service_code 17) a (Exited (a.file (Value 0)))
stops_exit p size a k s h b d = speaking.stops_exit p.text size k a s p.is_text h b d

-- ---- behind code that leads on

pub stops_then : (p : Runnable) (size : ℕ) (c e : List Instr) (a a' : Sight) (end : End) → Does p size c a a' → DoesStop p size e a' end → DoesStop p size (c ++ e) a end
stops_then p size c e a a' end f g k s h b d =
    let x : Done p.text (Good p.text) size k c s a' = f k s (stands_first p.text k c e h) b d in
    let y : Stops p.text x.now end = g (k + length c) x.now (stands_rest p.text k c e h) x.before x.tripled in
    record {
      last = y.last;
      steps = x.steps + y.steps;
      leads = leads_on machine (Good p.text) x.steps y.steps s x.now y.last x.leads y.leads;
      open_ = y.open_;
      good = y.good;
      ends = y.ends;
      silent = y.silent;
    }

-- An end within the first part of some code.
pub stops_early : (p : Runnable) (size : ℕ) (c e : List Instr) (a : Sight) (end : End) → DoesStop p size c a end → DoesStop p size (c ++ e) a end
stops_early p size c e a end f k s h b d = f k s (stands_first p.text k c e h) b d

pub sum_on : (k m n : ℕ) → k + m + n ≡ k + (m + n)
sum_on k m n = omega arith

pub behind_both : (k : ℕ) (c e : List Instr) → k + length c + length e ≡ k + length (c ++ e)
behind_both k c e = sum_on k (length c) (length e) ∙ ap (λ (n : ℕ). k + n) (sym (length-append c e))

pub speaks_then : (p : Runnable) (size : ℕ) (c e : List Instr) (a a' a'' : Sight) (w : ℕ) → Does p size c a a' → DoesSpeak p size e a' w a'' → DoesSpeak p size (c ++ e) a w a''
speaks_then p size c e a a' a'' w f g k s h b d =
    let x : Done p.text (Good p.text) size k c s a' = f k s (stands_first p.text k c e h) b d in
    let y : Speaks p.text size (k + length c + length e) x.now a'' w = g (k + length c) x.now (stands_rest p.text k c e h) x.before x.tripled in
    record {
      last = y.last;
      steps = x.steps + y.steps;
      leads = leads_on machine (Good p.text) x.steps y.steps s x.now y.last x.leads y.leads;
      open_ = y.open_;
      good = y.good;
      now = y.now;
      says = y.says;
      before = subst (λ (n : ℕ). Before p.text n 0 y.now) (behind_both k c e) y.before;
      tripled = y.tripled;
    }

-- ---- one sight for another

pub record SameSight (a b : Sight) : Type 0 where
  pub file : (r : Role) → a.file r ≡ b.file r
  pub cell : (c : ℕ) → a.cell c ≡ b.cell c
  pub feed : a.feed ≡ b.feed
  pub fed : a.fed ≡ b.fed

pub tripled_same : (size : ℕ) (s : State) (a b : Sight) → SameSight a b → Tripled size s a → Tripled size s b
tripled_same size s a b e d = record {
  sound = d.sound;
  sees = λ t. record { file = λ r f. (d.sees t).file r f ∙ e.file r; cell = λ c h. (d.sees t).cell c h ∙ e.cell c };
  feed = d.feed ∙ e.feed;
  fed = d.fed ∙ e.fed;
  words = record {
    file = λ r. subst (λ (n : ℕ). n < 2 ^ 32) (e.file r) (d.words.file r);
    cell = λ c. subst (λ (n : ℕ). n < 2 ^ 32) (e.cell c) (d.words.cell c);
  };
}

pub does_same : (p : Runnable) (size : ℕ) (code : List Instr) (a a' a'' : Sight) → Does p size code a a' → SameSight a' a'' → Does p size code a a''
does_same p size code a a' a'' f e k s h b d =
    let x : Done p.text (Good p.text) size k code s a' = f k s h b d in
    record { now = x.now; steps = x.steps; some = x.some; leads = x.leads; before = x.before; tripled = tripled_same size x.now a' a'' e x.tripled }

-- What is done where the words of the sight are words.
pub with_words : (p : Runnable) (size : ℕ) (code : List Instr) (a a' : Sight) → (AreWords a → Does p size code a a') → Does p size code a a'
with_words p size code a a' f k s h b d = f d.words k s h b d
