-- Trap tests, services, jumps, branches, calls and returns.
use Rattle.std.proofs.Common.{◌≡◌, ◌≢◌, ◌≤◌, ◌<◌, ℕ, zero, suc, ◌+◌, ◌-◌, ◌*◌, ◌/◌, ◌%◌, ◌^◌, arith, ap, refl, sym, ◌∙◌, subst, List, [], ◌∷◌, ◌++◌, append_assoc, length, get_or, Bool, true, false, cond, not, inl, inr, le_refl}
use Rattle.std.specs.Prelude.{Option, Some, None, ◌==◌, nat_lt, slice_index, if◌then◌else◌, bit_or}
use Rattle.hard_runs.specs.Stepping.{Leads}
use Rattle.hard_runs.proofs.Following.{leads_on}
use Rattle.mips_isa.specs.declared.instr.Instr.TheVariants as mips
use Rattle.mips_isa.specs.declared.instr.Act.{Act}
use Rattle.mips_isa.specs.declared.instr.Act.TheVariants.{Go, Pass, Service}
use Rattle.mips_isa.specs.declared.instr.End.{End}
use Rattle.mips_isa.specs.declared.instr.End.TheVariants.{Exception, Trapped, Exited, Starved}
use Rattle.mips_isa.specs.Machine as machine
use Rattle.hard_items.specs.declared.code.Class.{Class}
use Rattle.hard_items.specs.declared.code.Class.TheVariants as class
use Rattle.hard_items.specs.declared.code.Fix.TheVariants as fix
use Rattle.hard_items.specs.declared.code.Item.{Item}
use Rattle.hard_items.specs.declared.code.HardProgram.{HardProgram}
use Rattle.hard_items.specs.Streams.{nop, plain}
use Rattle.hard_items.specs.Forms.{Each, going}
use Rattle.hard_items.specs.Run.{Data, Spot, Way, Onward, Over, To, items, before, at_block, item_act, machine_of, way_of, held, do_item, settled, marked_reg, numbered}
use Rattle.hard_items.specs.Rules.{Lawful, NoException}
use Rattle.hard_items.specs.Ways.{MayFollow}
use Rattle.double_law.specs.declared.roles.Stream.{Stream}
use Rattle.double_law.specs.declared.roles.Stream.TheVariants.{First, Second}
use Rattle.double_law.specs.declared.roles.Role.{Role}
use Rattle.double_law.specs.declared.roles.Role.TheVariants.{Value, Stack, Link}
use Rattle.double_law.specs.Roles.{reg_in, test}
use Rattle.double_law.specs.Emitted.{service_items, input_items, call_items}
use Rattle.double_law.specs.Roles.{RoleFits}
use Rattle.double_law.proofs.Doubled.{BackFits, back_of, Pairs, Sees, Sound, Doubled, put, wrote, sees_write, sees_beside, sound_write, words_put, reg_not_zero, reg_not_two, written_there, written_beside, written_length, reg_marked_there, reg_marked_beside}
use Rattle.double_law.proofs.Leading.{Good, Done, Does, lead_one, none_some}
use Rattle.double_law.proofs.Memory.{same_in}

-- ---- code that comes to an end, puts a word out, or goes to a block

-- Items lead to an end, with nothing put out.
pub record Stops (p : HardProgram) (start : Spot) (e : End) : Type 0 where
  pub steps : ℕ
  pub last : Spot
  pub leads : Leads (items p) (Good p) steps start last
  pub open_ : last.end ≡ None
  pub good : Good p last
  pub stop : (items p).step last ≡ (record last { end = Some e }, None)

abbrev pub DoesStop : HardProgram → ℕ → ℕ → List Item → Pairs → End → Type 0
DoesStop p size b code a e = (more : List Item) (d : Data) → Doubled size d a → Stops p (before p b (code ++ more) Onward d) e

-- Items lead on and put out a word with the last of them.
pub record Speaks (p : HardProgram) (size b : ℕ) (start : Spot) (more : List Item) (w : ℕ) (a : Pairs) : Type 0 where
  pub steps : ℕ
  pub last : Spot
  pub leads : Leads (items p) (Good p) steps start last
  pub open_ : last.end ≡ None
  pub good : Good p last
  pub now : Data
  pub speak : (items p).step last ≡ (before p b more Onward now, Some w)
  pub doubled : Doubled size now a

abbrev pub DoesSpeak : HardProgram → ℕ → ℕ → List Item → Pairs → ℕ → Pairs → Type 0
DoesSpeak p size b code a w a' = (more : List Item) (d : Data) → Doubled size d a → Speaks p size b (before p b (code ++ more) Onward d) more w a'

-- Items lead to a block, in one step at least.
pub record Goes (p : HardProgram) (size : ℕ) (start : Spot) (t : ℕ) (a : Pairs) : Type 0 where
  pub more_steps : ℕ
  pub now : Data
  pub leads : Leads (items p) (Good p) (suc more_steps) start (at_block p t now)
  pub doubled : Doubled size now a

abbrev pub DoesGo : HardProgram → ℕ → ℕ → List Item → Pairs → ℕ → Pairs → Type 0
DoesGo p size b code a t a' = (more : List Item) (d : Data) → Doubled size d a → Goes p size (before p b (code ++ more) Onward d) t a'

pub stops_then : (p : HardProgram) (size b : ℕ) (c e : List Item) (a a' : Pairs) (end : End) → Does p size b c a a' → DoesStop p size b e a' end → DoesStop p size b (c ++ e) a end
stops_then p size b c e a a' end f g more d h =
    let x : Done p size b c (e ++ more) d a' = f (e ++ more) d h in
    let y : Stops p (before p b (e ++ more) Onward x.now) end = g more x.now x.doubled in
    record {
      steps = x.steps + y.steps;
      last = y.last;
      leads = subst (λ (l : List Item). Leads (items p) (Good p) (x.steps + y.steps) (before p b l Onward d) y.last) (sym (append_assoc c e more))
          (leads_on (items p) (Good p) x.steps y.steps (before p b (c ++ (e ++ more)) Onward d) (before p b (e ++ more) Onward x.now) y.last x.leads y.leads);
      open_ = y.open_;
      good = y.good;
      stop = y.stop;
    }

pub speaks_then : (p : HardProgram) (size b : ℕ) (c e : List Item) (a a' a'' : Pairs) (w : ℕ) → Does p size b c a a' → DoesSpeak p size b e a' w a'' → DoesSpeak p size b (c ++ e) a w a''
speaks_then p size b c e a a' a'' w f g more d h =
    let x : Done p size b c (e ++ more) d a' = f (e ++ more) d h in
    let y : Speaks p size b (before p b (e ++ more) Onward x.now) more w a'' = g more x.now x.doubled in
    record {
      steps = x.steps + y.steps;
      last = y.last;
      leads = subst (λ (l : List Item). Leads (items p) (Good p) (x.steps + y.steps) (before p b l Onward d) y.last) (sym (append_assoc c e more))
          (leads_on (items p) (Good p) x.steps y.steps (before p b (c ++ (e ++ more)) Onward d) (before p b (e ++ more) Onward x.now) y.last x.leads y.leads);
      open_ = y.open_;
      good = y.good;
      now = y.now;
      speak = y.speak;
      doubled = y.doubled;
    }

pub goes_then : (p : HardProgram) (size b : ℕ) (c e : List Item) (a a' a'' : Pairs) (t : ℕ) → Does p size b c a a' → DoesGo p size b e a' t a'' → DoesGo p size b (c ++ e) a t a''
goes_then p size b c e a a' a'' t f g more d h =
    let x : Done p size b c (e ++ more) d a' = f (e ++ more) d h in
    let y : Goes p size (before p b (e ++ more) Onward x.now) t a'' = g more x.now x.doubled in
    record {
      more_steps = x.steps + y.more_steps;
      now = y.now;
      leads = subst (λ (l : List Item). Leads (items p) (Good p) (suc (x.steps + y.more_steps)) (before p b l Onward d) (at_block p t y.now)) (sym (append_assoc c e more))
          (subst (λ (n : ℕ). Leads (items p) (Good p) n (before p b (c ++ (e ++ more)) Onward d) (at_block p t y.now)) (Rattle.std.proofs.Common.add-suc x.steps y.more_steps)
          (leads_on (items p) (Good p) x.steps (suc y.more_steps) (before p b (c ++ (e ++ more)) Onward d) (before p b (e ++ more) Onward x.now) (at_block p t y.now) x.leads y.leads));
      doubled = y.doubled;
    }

-- ---- ways

-- an item that has no effect on data
pub pass_step : (p : HardProgram) (b : ℕ) (i : Item) (more : List Item) (d : Data) → item_act b i d ≡ Pass → (items p).step (before p b (i ∷ more) Onward d) ≡ (before p b more (way_of p i d i.instr) d, None)
pass_step p b i more d e = ap (λ (a : Act). do_item p (before p b (i ∷ more) Onward d) i more a) e

no_exception_pass : (b : ℕ) (i : Item) (d : Data) → item_act b i d ≡ Pass → NoException b i d
no_exception_pass b i d e code at h = none_some (Exception code at) (machine.perform (item_act b i d) (machine_of d)).0.end (ap (λ (a : Act). (machine.perform a (machine_of d)).0.end) e) h

abbrev pub idle : Item
idle = plain nop class.Act

idle_lawful : (p : HardProgram) (size b : ℕ) (d : Data) (a : Pairs) → Sound size d a → Lawful p b idle d
idle_lawful p size b d a s = record { placed = tt; returns = tt; reads = (s.zero_back, tt); no_exception = λ code at h. none_some (Exception code at) None refl h }

idle_over : (p : HardProgram) (b : ℕ) (i : Item) (more : List Item) (d : Data) → (items p).step (before p b (idle ∷ i ∷ more) Over d) ≡ (before p b more Onward d, None)
idle_over p b i more d = refl

idle_onward : (p : HardProgram) (b : ℕ) (more : List Item) (d : Data) → (items p).step (before p b (idle ∷ more) Onward d) ≡ (before p b more Onward d, None)
idle_onward p b more d = refl

idle_to : (p : HardProgram) (b t : ℕ) (more : List Item) (d : Data) → (items p).step (before p b (idle ∷ more) (To t) d) ≡ (at_block p t d, None)
idle_to p b t more d = refl

branch_passes : (b : ℕ) (z : Bool) (to : ℕ) → numbered b (cond z (Go to) Pass) ≡ Pass
branch_passes b true to = refl
branch_passes b false to = refl

-- ---- trap tests

abbrev pub tester : Role → Item
tester r = plain (mips.Bne (reg_in First r) 0 2) class.Act

tester_act : (b : ℕ) (r : Role) (d : Data) → item_act b (tester r) d ≡ Pass
tester_act b r d = branch_passes b (not (held d (reg_in First r) == held d 0)) (machine.branch_target (machine_of d) 2)

tester_good : (p : HardProgram) (size b : ℕ) (r : Role) (more : List Item) (d : Data) (a : Pairs) → RoleFits r → back_of a r ≡ false → Doubled size d a → Good p (before p b (tester r ∷ more) Onward d)
tester_good p size b r more d a f n h = (
  record { placed = tt; returns = tt; reads = ((h.sees First).backs r f ∙ n, (h.sound.zero_back, tt)); no_exception = no_exception_pass b (tester r) d (tester_act b r d) },
  (same_in size d a r f (h.sees First) (h.sees Second), tt),
)

not_same : (x y z w : ℕ) → x ≡ z → y ≡ w → z ≢ w → (x == y) ≡ false
not_same x y z w e f h = grind arith

is_same : (x y z w : ℕ) → x ≡ z → y ≡ w → z ≡ w → (x == y) ≡ true
is_same x y z w e f h = grind arith

-- a test that passes
pub does_test : (p : HardProgram) (size b : ℕ) (r : Role) (code : ℕ) (a : Pairs) → RoleFits r → back_of a r ≡ false → a.file r ≢ 0 → Does p size b (test r code) a a
does_test p size b r code a f n z more d h =
    let rest : List Item = idle ∷ plain (mips.Break code) class.Act ∷ more in
    let w : (held d (reg_in First r) == held d 0) ≡ false = not_same (held d (reg_in First r)) (held d 0) (a.file r) 0 ((h.sees First).file r f) h.sound.zero_ z in
    record {
      now = d;
      steps = 2;
      some = λ z. absurd (Rattle.std.proofs.Common.suc-ne-zero 1 z);
      leads = leads_on (items p) (Good p) 1 1 (before p b (tester r ∷ rest) Onward d) (before p b rest Over d) (before p b more Onward d)
          (lead_one p (before p b (tester r ∷ rest) Onward d) (before p b rest Over d) refl (tester_good p size b r rest d a f n h)
          (pass_step p b (tester r) rest d (tester_act b r d) ∙ ap (λ (y : Bool). let x : Spot × Option ℕ = (before p b rest (cond y Onward Over) d, None) in x) w))
          (lead_one p (before p b rest Over d) (before p b more Onward d) refl (idle_lawful p size b d a h.sound, tt) (idle_over p b (plain (mips.Break code) class.Act) more d));
      doubled = h;
    }

trap_end : (code at : ℕ) (e : End) → e ≡ Trapped code → (c x : ℕ) → Some e ≡ Some (Exception c x) → ⊥
trap_end code at e h c x f = cc

break_stop : (p : HardProgram) (b code : ℕ) (more : List Item) (d : Data) → machine.break_end 0 code ≡ Trapped code → (items p).step (before p b (plain (mips.Break code) class.Act ∷ more) Onward d) ≡ (record (before p b (plain (mips.Break code) class.Act ∷ more) Onward d) { end = Some (Trapped code) }, None)
break_stop p b code more d e = ap (λ (x : End). let y : Spot × Option ℕ = (record (before p b (plain (mips.Break code) class.Act ∷ more) Onward d) { end = Some x }, None) in y) e

-- a test that fails
pub stops_test : (p : HardProgram) (size b : ℕ) (r : Role) (code : ℕ) (a : Pairs) → RoleFits r → back_of a r ≡ false → a.file r ≡ 0 → machine.break_end 0 code ≡ Trapped code → DoesStop p size b (test r code) a (Trapped code)
stops_test p size b r code a f n z k more d h =
    let brk : Item = plain (mips.Break code) class.Act in
    let rest : List Item = idle ∷ brk ∷ more in
    let w : (held d (reg_in First r) == held d 0) ≡ true = is_same (held d (reg_in First r)) (held d 0) (a.file r) 0 ((h.sees First).file r f) h.sound.zero_ z in
    record {
      steps = 2;
      last = before p b (brk ∷ more) Onward d;
      leads = leads_on (items p) (Good p) 1 1 (before p b (tester r ∷ rest) Onward d) (before p b rest Onward d) (before p b (brk ∷ more) Onward d)
          (lead_one p (before p b (tester r ∷ rest) Onward d) (before p b rest Onward d) refl (tester_good p size b r rest d a f n h)
          (pass_step p b (tester r) rest d (tester_act b r d) ∙ ap (λ (y : Bool). let x : Spot × Option ℕ = (before p b rest (cond y Onward Over) d, None) in x) w))
          (lead_one p (before p b rest Onward d) (before p b (brk ∷ more) Onward d) refl (idle_lawful p size b d a h.sound, tt) (idle_onward p b (brk ∷ more) d));
      open_ = refl;
      good = (record { placed = tt; returns = tt; reads = tt; no_exception = λ c x g. trap_end code 0 (machine.break_end 0 code) k c x g }, tt);
      stop = break_stop p b code more d k;
    }

-- ---- pairs that are the same

pub record SamePairs (a b : Pairs) : Type 0 where
  pub file : (r : Role) → a.file r ≡ b.file r
  pub cell : (c : ℕ) → a.cell c ≡ b.cell c
  pub link : a.link ≡ b.link
  pub number : (c : ℕ) → a.number c ≡ b.number c
  pub feed : a.feed ≡ b.feed
  pub fed : a.fed ≡ b.fed

same_back : (a b : Pairs) (r : Role) → SamePairs a b → back_of a r ≡ back_of b r
same_back a b (Value k) s = refl
same_back a b Stack s = refl
same_back a b Link s = s.link

pub sees_same : (size : ℕ) (t : Stream) (d : Data) (a b : Pairs) → SamePairs a b → Sees size t d a → Sees size t d b
sees_same size t d a b s e = record {
  file = λ r f. e.file r f ∙ s.file r;
  backs = λ r f. e.backs r f ∙ same_back a b r s;
  cell = λ c l. e.cell c l ∙ s.cell c;
  number = λ c l. e.number c l ∙ s.number c;
}

pub sound_same : (size : ℕ) (d : Data) (a b : Pairs) → SamePairs a b → Sound size d a → Sound size d b
sound_same size d a b s z = record { regs = z.regs; memory = z.memory; zero_ = z.zero_; zero_back = z.zero_back; two_back = z.two_back; feed = z.feed ∙ s.feed; fed = z.fed ∙ s.fed }

pub doubled_same : (size : ℕ) (d : Data) (a b : Pairs) → SamePairs a b → Doubled size d a → Doubled size d b
doubled_same size d a b s h = record {
  sound = sound_same size d a b s h.sound;
  sees = λ t. sees_same size t d a b s (h.sees t);
  words = record { file = λ r. subst (λ (n : ℕ). n < 2 ^ 32) (s.file r) (h.words.file r); cell = λ c. subst (λ (n : ℕ). n < 2 ^ 32) (s.cell c) (h.words.cell c) };
}

-- ---- register 2

two_beside : (size : ℕ) (t : Stream) (d : Data) (a : Pairs) (v : ℕ) → Sees size t d a → Sees size t (wrote d 2 v false) a
two_beside size t d a v s = record {
  file = λ r f. written_beside d.regs 2 v (reg_in t r) (λ e. omega arith) (reg_not_two t r) ∙ s.file r f;
  backs = λ r f. reg_marked_beside d.backs 2 false (reg_in t r) (λ e. omega arith) (reg_not_two t r) ∙ s.backs r f;
  cell = s.cell;
  number = s.number;
}

two_sound : (size : ℕ) (d : Data) (a : Pairs) (v : ℕ) → Sound size d a → Sound size (wrote d 2 v false) a
two_sound size d a v s = record {
  regs = written_length d.regs 2 v (λ e. omega arith) ∙ s.regs;
  memory = s.memory;
  zero_ = written_beside d.regs 2 v 0 (λ e. omega arith) (λ e. omega arith) ∙ s.zero_;
  zero_back = reg_marked_beside d.backs 2 false 0 (λ e. omega arith) (λ e. omega arith) ∙ s.zero_back;
  two_back = reg_marked_there d.backs 2 false (λ e. omega arith);
  feed = s.feed;
  fed = s.fed;
}

pub two_doubled : (size : ℕ) (d : Data) (a : Pairs) (v : ℕ) → Doubled size d a → Doubled size (wrote d 2 v false) a
two_doubled size d a v h = record { sound = two_sound size d a v h.sound; sees = λ t. two_beside size t d a v (h.sees t); words = h.words }

two_holds : (size : ℕ) (d : Data) (a : Pairs) (v : ℕ) → Sound size d a → held (wrote d 2 v false) 2 ≡ v
two_holds size d a v s = written_there d.regs 2 v (λ e. omega arith) (subst (λ (n : ℕ). 2 < n) (sym s.regs) (omega arith))

-- the number of a service comes to register 2
number_item : ℕ → Class → Item
number_item n c = plain (mips.Ori 2 0 n) c

or_zero : (x n : ℕ) → x ≡ 0 → bit_or x n ≡ n
or_zero x n e = ap (λ (z : ℕ). bit_or z n) e

number_step : (p : HardProgram) (size b n : ℕ) (c : Class) (more : List Item) (d : Data) (a : Pairs) → Doubled size d a → (items p).step (before p b (plain (mips.Ori 2 0 n) c ∷ more) Onward d) ≡ (before p b more Onward (wrote d 2 n false), None)
number_step p size b n c more d a h = ap (λ (v : ℕ). let z : Spot × Option ℕ = (before p b more Onward (wrote d 2 v false), None) in z) (or_zero (held d 0) n h.sound.zero_)

number_lawful : (p : HardProgram) (size b n : ℕ) (c : Class) (d : Data) (a : Pairs) → Doubled size d a → Lawful p b (plain (mips.Ori 2 0 n) c) d
number_lawful p size b n c d a h = record { placed = tt; returns = tt; reads = (h.sound.zero_back, tt); no_exception = λ code at g. none_some (Exception code at) None refl g }

-- ---- services

served_one : (s : machine.State) → slice_index s.regs 2 ≡ 1 → machine.service s ≡ (machine.moved s, Some (slice_index s.regs 4))
served_one s e = rw e refl

served_exit : (s : machine.State) → slice_index s.regs 2 ≡ 17 → machine.service s ≡ (record s { end = Some (Exited (slice_index s.regs 4)) }, None)
served_exit s e = rw e refl

abbrev given_state : machine.State → machine.State × Option ℕ
given_state s = (record (machine.with_reg (machine.moved s) 2 (slice_index s.feed s.fed)) { fed = s.fed + 1 }, None)

served_word : (s : machine.State) → slice_index s.regs 2 ≡ 5 → nat_lt s.fed (length s.feed) ≡ true → machine.service s ≡ given_state s
served_word s e f = rw (e, f) refl

served_none : (s : machine.State) → slice_index s.regs 2 ≡ 5 → nat_lt s.fed (length s.feed) ≡ false → machine.service s ≡ (record s { end = Some Starved }, None)
served_none s e f = rw (e, f) refl

syscall_reads : (p : HardProgram) (size : ℕ) (d : Data) (a : Pairs) → Doubled size d a → Each (λ r. d.backs r ≡ false) (2 ∷ 4 ∷ [])
syscall_reads p size d a h = (h.sound.two_back, ((h.sees First).backs (Value 0) (Rattle.std.proofs.Common.zero-le), tt))

abbrev caller : Class → Item
caller c = plain mips.Syscall c

-- an end of the call of a service that isn't an exception
calm_end : (e : Option End) (x : Option End) → e ≡ x → ((c at : ℕ) → x ≡ Some (Exception c at) → ⊥) → (c at : ℕ) → e ≡ Some (Exception c at) → ⊥
calm_end e x h f c at g = f c at (sym h ∙ g)

-- the word of the first value is put out
pub speaks_out : (p : HardProgram) (size b : ℕ) (a : Pairs) → DoesSpeak p size b (service_items 1) a (a.file (Value 0)) a
speaks_out p size b a more d h =
    let rest : List Item = plain mips.Syscall class.Act ∷ more in
    let d1 : Data = wrote d 2 1 false in
    let h1 : Doubled size d1 a = two_doubled size d a 1 h in
    let two : held d1 2 ≡ 1 = two_holds size d a 1 h.sound in
    let four : held d1 4 ≡ a.file (Value 0) = (h1.sees First).file (Value 0) (Rattle.std.proofs.Common.zero-le) in
    let d2 : Data = record d1 { backs = marked_reg d1.backs 2 false } in
    record {
      steps = 1;
      last = before p b rest Onward d1;
      leads = lead_one p (before p b (plain (mips.Ori 2 0 1) class.Act ∷ rest) Onward d) (before p b rest Onward d1) refl
          (number_lawful p size b 1 class.Act d a h, (same_in size d a (Value 0) (Rattle.std.proofs.Common.zero-le) (h.sees First) (h.sees Second), tt))
          (number_step p size b 1 class.Act rest d a h);
      open_ = refl;
      good = (
        record {
          placed = tt;
          returns = tt;
          reads = syscall_reads p size d1 a h1;
          no_exception = λ c at g. none_some (Exception c at) (machine.service (machine_of d1)).0.end (ap (λ (r : machine.State × Option ℕ). r.0.end) (served_one (machine_of d1) two)) g;
        },
        tt,
      );
      now = d2;
      speak = ap (λ (r : machine.State × Option ℕ). settled p (before p b rest Onward d1) (plain mips.Syscall class.Act) more Service r r.0.end) (served_one (machine_of d1) two) ∙
          ap (λ (w : ℕ). let z : Spot × Option ℕ = (before p b more Onward d2, Some w) in z) four;
      doubled = record {
        sound = let s : Sound size d1 a = h1.sound in record { regs = s.regs; memory = s.memory; zero_ = s.zero_; zero_back = reg_marked_beside d1.backs 2 false 0 (λ e. omega arith) (λ e. omega arith) ∙ s.zero_back; two_back = reg_marked_there d1.backs 2 false (λ e. omega arith); feed = s.feed; fed = s.fed };
        sees = λ t. let s : Sees size t d1 a = h1.sees t in record { file = s.file; backs = λ r f. reg_marked_beside d1.backs 2 false (reg_in t r) (λ e. omega arith) (reg_not_two t r) ∙ s.backs r f; cell = s.cell; number = s.number };
        words = h.words;
      };
    }

-- the program exits with the first value
pub stops_exit : (p : HardProgram) (size b : ℕ) (a : Pairs) → DoesStop p size b (service_items 17) a (Exited (a.file (Value 0)))
stops_exit p size b a more d h =
    let rest : List Item = plain mips.Syscall class.Act ∷ more in
    let d1 : Data = wrote d 2 17 false in
    let h1 : Doubled size d1 a = two_doubled size d a 17 h in
    let two : held d1 2 ≡ 17 = two_holds size d a 17 h.sound in
    let four : held d1 4 ≡ a.file (Value 0) = (h1.sees First).file (Value 0) (Rattle.std.proofs.Common.zero-le) in
    record {
      steps = 1;
      last = before p b rest Onward d1;
      leads = lead_one p (before p b (plain (mips.Ori 2 0 17) class.Act ∷ rest) Onward d) (before p b rest Onward d1) refl
          (number_lawful p size b 17 class.Act d a h, (same_in size d a (Value 0) (Rattle.std.proofs.Common.zero-le) (h.sees First) (h.sees Second), tt))
          (number_step p size b 17 class.Act rest d a h);
      open_ = refl;
      good = (
        record {
          placed = tt;
          returns = tt;
          reads = syscall_reads p size d1 a h1;
          no_exception = calm_end (machine.service (machine_of d1)).0.end (Some (Exited (held d1 4))) (ap (λ (r : machine.State × Option ℕ). r.0.end) (served_exit (machine_of d1) two)) (λ c at g. exited_not (held d1 4) c at g);
        },
        tt,
      );
      stop = ap (λ (r : machine.State × Option ℕ). settled p (before p b rest Onward d1) (plain mips.Syscall class.Act) more Service r r.0.end) (served_exit (machine_of d1) two) ∙
          ap (λ (w : ℕ). let z : Spot × Option ℕ = (record (before p b rest Onward d1) { end = Some (Exited w) }, None) in z) four;
    }
  where
    exited_not : (w c at : ℕ) → Some (Exited w) ≡ Some (Exception c at) → ⊥
    exited_not w c at g = cc

-- the input is at its end
pub stops_starved : (p : HardProgram) (size b : ℕ) (r : Role) (a : Pairs) → nat_lt a.fed (length a.feed) ≡ false → DoesStop p size b (input_items r) a Starved
stops_starved p size b r a none more d h =
    let rest : List Item = plain mips.Syscall class.Input ∷ plain (mips.Addu (reg_in First r) 2 0) class.Input ∷ plain (mips.Addu (reg_in Second r) 2 0) class.Input ∷ more in
    let tail : List Item = plain (mips.Addu (reg_in First r) 2 0) class.Input ∷ plain (mips.Addu (reg_in Second r) 2 0) class.Input ∷ more in
    let d1 : Data = wrote d 2 5 false in
    let h1 : Doubled size d1 a = two_doubled size d a 5 h in
    let two : held d1 2 ≡ 5 = two_holds size d a 5 h.sound in
    let gone : nat_lt d1.fed (length d1.feed) ≡ false = ap (λ (x : ℕ). nat_lt x (length d1.feed)) h1.sound.fed ∙ (ap (λ (x : List ℕ). nat_lt a.fed (length x)) h1.sound.feed ∙ none) in
    record {
      steps = 1;
      last = before p b rest Onward d1;
      leads = lead_one p (before p b (plain (mips.Ori 2 0 5) class.Input ∷ rest) Onward d) (before p b rest Onward d1) refl
          (number_lawful p size b 5 class.Input d a h, tt) (number_step p size b 5 class.Input rest d a h);
      open_ = refl;
      good = (
        record {
          placed = tt;
          returns = tt;
          reads = syscall_reads p size d1 a h1;
          no_exception = calm_end (machine.service (machine_of d1)).0.end (Some Starved) (ap (λ (r : machine.State × Option ℕ). r.0.end) (served_none (machine_of d1) two gone)) (λ c at g. starved_not c at g);
        },
        tt,
      );
      stop = ap (λ (r : machine.State × Option ℕ). settled p (before p b rest Onward d1) (plain mips.Syscall class.Input) tail Service r r.0.end) (served_none (machine_of d1) two gone);
    }
  where
    starved_not : (c at : ℕ) → Some Starved ≡ Some (Exception c at) → ⊥
    starved_not c at g = cc

-- ---- a word of the input

abbrev pub took : Pairs → Pairs
took a = record a { fed = a.fed + 1 }

keep_word : (x z w : ℕ) → x ≡ w → z ≡ 0 → w < 2 ^ 32 → (x + z) % 2 ^ 32 ≡ w
keep_word x z w e f k = omega arith

abbrev taker : Stream → Role → Item
taker t r = plain (mips.Addu (reg_in t r) 2 0) class.Input

-- register 2 comes to a register of one stream
takes_step : (p : HardProgram) (b : ℕ) (t : Stream) (r : Role) (w : ℕ) (more : List Item) (d : Data) → held d 2 ≡ w → held d 0 ≡ 0 → w < 2 ^ 32 → (items p).step (before p b (taker t r ∷ more) Onward d) ≡ (before p b more Onward (wrote d (reg_in t r) w false), None)
takes_step p b t r w more d e f k = ap (λ (v : ℕ). let z : Spot × Option ℕ = (before p b more Onward (wrote d (reg_in t r) v false), None) in z) (keep_word (held d 2) (held d 0) w e f k)

pub does_input : (p : HardProgram) (size b : ℕ) (r : Role) (a : Pairs) → RoleFits r → BackFits r false → nat_lt a.fed (length a.feed) ≡ true → slice_index a.feed a.fed < 2 ^ 32 →
    Does p size b (input_items r) a (put (took a) r (slice_index a.feed a.fed) false)
does_input p size b r a fits back there small more d h =
    let w : ℕ = slice_index a.feed a.fed in
    let i2 : List Item = taker Second r ∷ more in
    let i1 : List Item = taker First r ∷ i2 in
    let i0 : List Item = plain mips.Syscall class.Input ∷ i1 in
    let d1 : Data = wrote d 2 5 false in
    let h1 : Doubled size d1 a = two_doubled size d a 5 h in
    let two : held d1 2 ≡ 5 = two_holds size d a 5 h.sound in
    let more_there : nat_lt d1.fed (length d1.feed) ≡ true = ap (λ (x : ℕ). nat_lt x (length d1.feed)) h1.sound.fed ∙ (ap (λ (x : List ℕ). nat_lt a.fed (length x)) h1.sound.feed ∙ there) in
    let word : slice_index d1.feed d1.fed ≡ w = ap (λ (x : ℕ). slice_index d1.feed x) h1.sound.fed ∙ ap (λ (x : List ℕ). slice_index x a.fed) h1.sound.feed in
    let served : machine.service (machine_of d1) ≡ given_state (machine_of d1) = served_word (machine_of d1) two more_there in
    let d2 : Data = record (wrote d1 2 (slice_index d1.feed d1.fed) false) { fed = d1.fed + 1 } in
    let h2' : Doubled size (wrote d1 2 (slice_index d1.feed d1.fed) false) a = two_doubled size d1 a (slice_index d1.feed d1.fed) h1 in
    let s2 : Sound size d2 (took a) = let s : Sound size (wrote d1 2 (slice_index d1.feed d1.fed) false) a = h2'.sound in record { regs = s.regs; memory = s.memory; zero_ = s.zero_; zero_back = s.zero_back; two_back = s.two_back; feed = s.feed; fed = ap (λ (x : ℕ). x + 1) s.fed } in
    let e2 : (t : Stream) → Sees size t d2 (took a) = λ t. let s : Sees size t (wrote d1 2 (slice_index d1.feed d1.fed) false) a = h2'.sees t in record { file = s.file; backs = λ q f. s.backs q f ∙ back_took q; cell = s.cell; number = s.number } in
    let in2 : held d2 2 ≡ w = two_holds size d1 a (slice_index d1.feed d1.fed) h1.sound ∙ word in
    let d3 : Data = wrote d2 (reg_in First r) w false in
    let s3 : Sound size d3 (took a) = let z : Sound size d3 (put (took a) r w false) = sound_write size First d2 (took a) r w false s2 in record { regs = z.regs; memory = z.memory; zero_ = z.zero_; zero_back = z.zero_back; two_back = z.two_back; feed = z.feed; fed = z.fed } in
    let f3 : Sees size First d3 (put (took a) r w false) = sees_write size First d2 (took a) r w false fits back s2 (e2 First) in
    let e3 : Sees size Second d3 (took a) = sees_beside size First d2 (took a) r w false fits (e2 Second) in
    let in3 : held d3 2 ≡ w = written_beside d2.regs (reg_in First r) w 2 (reg_not_zero First r) (λ e. reg_not_two First r (sym e)) ∙ in2 in
    let d4 : Data = wrote d3 (reg_in Second r) w false in
    record {
      now = d4;
      steps = 4;
      some = λ z. absurd (Rattle.std.proofs.Common.suc-ne-zero 3 z);
      leads = leads_on (items p) (Good p) 1 3 (before p b (plain (mips.Ori 2 0 5) class.Input ∷ i0) Onward d) (before p b i0 Onward d1) (before p b more Onward d4)
          (lead_one p (before p b (plain (mips.Ori 2 0 5) class.Input ∷ i0) Onward d) (before p b i0 Onward d1) refl (number_lawful p size b 5 class.Input d a h, tt) (number_step p size b 5 class.Input i0 d a h))
          (leads_on (items p) (Good p) 1 2 (before p b i0 Onward d1) (before p b i1 Onward d2) (before p b more Onward d4)
          (lead_one p (before p b i0 Onward d1) (before p b i1 Onward d2) refl (
            record {
              placed = tt;
              returns = tt;
              reads = syscall_reads p size d1 a h1;
              no_exception = λ c at g. none_some (Exception c at) (machine.service (machine_of d1)).0.end (ap (λ (r : machine.State × Option ℕ). r.0.end) served) g;
            },
            tt,
          )
          (ap (λ (r : machine.State × Option ℕ). settled p (before p b i0 Onward d1) (plain mips.Syscall class.Input) i1 Service r r.0.end) served))
          (leads_on (items p) (Good p) 1 1 (before p b i1 Onward d2) (before p b i2 Onward d3) (before p b more Onward d4)
          (lead_one p (before p b i1 Onward d2) (before p b i2 Onward d3) refl
          (record { placed = tt; returns = tt; reads = (s2.two_back, (s2.zero_back, tt)); no_exception = λ c at g. none_some (Exception c at) None refl g }, tt)
          (takes_step p b First r w i2 d2 in2 s2.zero_ small))
          (lead_one p (before p b i2 Onward d3) (before p b more Onward d4) refl
          (record { placed = tt; returns = tt; reads = (s3.two_back, (s3.zero_back, tt)); no_exception = λ c at g. none_some (Exception c at) None refl g }, tt)
          (takes_step p b Second r w more d3 in3 s3.zero_ small))));
      doubled = record {
        sound = sound_write size Second d3 (took a) r w false s3;
        sees = elim [
          | First ↦ sees_beside size Second d3 (put (took a) r w false) r w false fits f3
          | Second ↦ sees_write size Second d3 (took a) r w false fits back s3 e3
        ];
        words = words_put size (took a) r w false small (record { file = h.words.file; cell = h.words.cell });
      };
    }
  where
    back_took : (q : Role) → back_of a q ≡ back_of (took a) q
    back_took (Value k) = refl
    back_took Stack = refl
    back_took Link = refl

-- ---- ways to blocks

abbrev jumper : ℕ → Item
jumper t = going (mips.J 0) (fix.Block t)

pub goes_jump : (p : HardProgram) (size b t : ℕ) (a : Pairs) → DoesGo p size b (going (mips.J 0) (fix.Block t) ∷ plain nop class.Act ∷ []) a t a
goes_jump p size b t a more d h = record {
  more_steps = 1;
  now = d;
  leads = leads_on (items p) (Good p) 1 1 (before p b (jumper t ∷ idle ∷ more) Onward d) (before p b (idle ∷ more) (To t) d) (at_block p t d)
      (lead_one p (before p b (jumper t ∷ idle ∷ more) Onward d) (before p b (idle ∷ more) (To t) d) refl
      (record { placed = tt; returns = tt; reads = tt; no_exception = no_exception_pass b (jumper t) d refl }, tt)
      (pass_step p b (jumper t) (idle ∷ more) d refl))
      (lead_one p (before p b (idle ∷ more) (To t) d) (at_block p t d) refl (idle_lawful p size b d a h.sound, tt) (idle_to p b t more d));
  doubled = h;
}

-- A branch to a block: bne or beq of a register with $0.
abbrev pub brancher : Bool → Role → ℕ → Item
brancher true r t = going (mips.Bne (reg_in First r) 0 0) (fix.Block t)
brancher false r t = going (mips.Beq (reg_in First r) 0 0) (fix.Block t)

brancher_act : (b : ℕ) (when : Bool) (r : Role) (t : ℕ) (d : Data) → item_act b (brancher when r t) d ≡ Pass
brancher_act b true r t d = branch_passes b (not (held d (reg_in First r) == held d 0)) (machine.branch_target (machine_of d) 0)
brancher_act b false r t d = branch_passes b (held d (reg_in First r) == held d 0) (machine.branch_target (machine_of d) 0)

brancher_good : (p : HardProgram) (size b : ℕ) (when : Bool) (r : Role) (t : ℕ) (more : List Item) (d : Data) (a : Pairs) → RoleFits r → back_of a r ≡ false → Doubled size d a → Good p (before p b (brancher when r t ∷ more) Onward d)
brancher_good p size b true r t more d a f n h = (
  record { placed = tt; returns = tt; reads = ((h.sees First).backs r f ∙ n, (h.sound.zero_back, tt)); no_exception = no_exception_pass b (brancher true r t) d (brancher_act b true r t d) },
  (same_in size d a r f (h.sees First) (h.sees Second), tt),
)
brancher_good p size b false r t more d a f n h = (
  record { placed = tt; returns = tt; reads = (h.sees First).backs r f ∙ (n ∙ sym h.sound.zero_back); no_exception = no_exception_pass b (brancher false r t) d (brancher_act b false r t d) },
  (same_in size d a r f (h.sees First) (h.sees Second), tt),
)

-- whether a branch is taken
abbrev pub taken : Bool → ℕ → Bool
taken true w = not (w == 0)
taken false w = w == 0

abbrev pub way_by : Bool → ℕ → Way
way_by z t = if z then To t else Onward

same_test : (x y w : ℕ) → x ≡ w → y ≡ 0 → (x == y) ≡ (w == 0)
same_test x y w e f = ap (λ (z : ℕ). z == y) e ∙ ap (λ (z : ℕ). w == z) f

turned : (z : Bool) (t : ℕ) → cond z Onward (To t) ≡ way_by (not z) t
turned true t = refl
turned false t = refl

brancher_way : (p : HardProgram) (size b : ℕ) (when : Bool) (r : Role) (t : ℕ) (d : Data) (a : Pairs) → RoleFits r → Doubled size d a → way_of p (brancher when r t) d (brancher when r t).instr ≡ way_by (taken when (a.file r)) t
brancher_way p size b true r t d a f h =
    ap (λ (z : Bool). cond z Onward (To t)) (same_test (held d (reg_in First r)) (held d 0) (a.file r) ((h.sees First).file r f) h.sound.zero_) ∙ turned (a.file r == 0) t
brancher_way p size b false r t d a f h =
    ap (λ (z : Bool). cond z (To t) Onward) (same_test (held d (reg_in First r)) (held d 0) (a.file r) ((h.sees First).file r f) h.sound.zero_)

-- the block to which a branch at the end of a block leads
abbrev pub landed : Bool → ℕ → ℕ → ℕ
landed z t b = if z then t else b + 1

idle_lands : (p : HardProgram) (b t : ℕ) (d : Data) (z : Bool) → (items p).step (before p b (idle ∷ []) (way_by z t) d) ≡ (at_block p (landed z t b) d, None)
idle_lands p b t d true = refl
idle_lands p b t d false = refl

idle_spot : (p : HardProgram) (size b t : ℕ) (d : Data) (a : Pairs) (z : Bool) → Sound size d a → Good p (before p b (idle ∷ []) (way_by z t) d)
idle_spot p size b t d a z s = (idle_lawful p size b d a s, tt)

-- a branch is the last item but one of its block
pub goes_branch : (p : HardProgram) (size b : ℕ) (when : Bool) (r : Role) (t : ℕ) (a : Pairs) (d : Data) → RoleFits r → back_of a r ≡ false → Doubled size d a →
    Goes p size (before p b (brancher when r t ∷ plain nop class.Act ∷ []) Onward d) (landed (taken when (a.file r)) t b) a
goes_branch p size b when r t a d f n h =
    let z : Bool = taken when (a.file r) in
    let start : Spot = before p b (brancher when r t ∷ idle ∷ []) Onward d in
    record {
      more_steps = 1;
      now = d;
      leads = leads_on (items p) (Good p) 1 1 start (before p b (idle ∷ []) (way_by z t) d) (at_block p (landed z t b) d)
          (lead_one p start (before p b (idle ∷ []) (way_by z t) d) refl (brancher_good p size b when r t (idle ∷ []) d a f n h)
          (pass_step p b (brancher when r t) (idle ∷ []) d (brancher_act b when r t d) ∙
          ap (λ (y : Way). let x : Spot × Option ℕ = (before p b (idle ∷ []) y d, None) in x) (brancher_way p size b when r t d a f h)))
          (lead_one p (before p b (idle ∷ []) (way_by z t) d) (at_block p (landed z t b) d) refl (idle_spot p size b t d a z h.sound) (idle_lands p b t d z));
      doubled = h;
    }

-- ---- calls and returns

abbrev linked : Pairs → ℕ → Pairs
linked a n = put a Link n true

abbrev high_half : Item
high_half = record { instr = mips.Lui 25 0; class = class.Shadow; fix = fix.ReturnHigh }

abbrev low_half : Item
low_half = record { instr = mips.Ori 25 25 0; class = class.Shadow; fix = fix.ReturnLow }

abbrev calling : ℕ → Item
calling f = going (mips.Jal 0) (fix.Function f)

calling_step : (p : HardProgram) (b f : ℕ) (more : List Item) (d : Data) → (items p).step (before p b (calling f ∷ more) Onward d) ≡ (before p b more (To (slice_index p.entries f)) (wrote d 31 (b + 1) true), None)
calling_step p b f more d = refl

high_step : (p : HardProgram) (b : ℕ) (more : List Item) (d : Data) → (items p).step (before p b (high_half ∷ more) Onward d) ≡ (before p b more Onward (wrote d 25 0 false), None)
high_step p b more d = refl

low_step : (p : HardProgram) (b : ℕ) (more : List Item) (d : Data) → (items p).step (before p b (low_half ∷ more) Onward d) ≡ (before p b more Onward (wrote d 25 (b + 1) true), None)
low_step p b more d = refl

twice_put : (a : Pairs) (n : ℕ) → SamePairs (put (put a Link 0 false) Link n true) (put a Link n true)
twice_put a n = record {
  file = elim [ Value k ↦ refl | Stack ↦ refl | Link ↦ refl ];
  cell = λ c. refl;
  link = refl;
  number = λ c. refl;
  feed = refl;
  fed = refl;
}

pub goes_call : (p : HardProgram) (size b f : ℕ) (a : Pairs) → b + 1 < 2 ^ 32 → DoesGo p size b (call_items f) a (slice_index p.entries f) (put a Link (b + 1) true)
goes_call p size b f a small more d h =
    let n : ℕ = b + 1 in
    let t : ℕ = slice_index p.entries f in
    let i3 : List Item = idle ∷ more in
    let i2 : List Item = calling f ∷ i3 in
    let i1 : List Item = low_half ∷ i2 in
    let d1 : Data = wrote d 25 0 false in
    let a1 : Pairs = put a Link 0 false in
    let s1 : Sound size d1 a1 = sound_write size Second d a Link 0 false h.sound in
    let e1 : Sees size Second d1 a1 = sees_write size Second d a Link 0 false tt tt h.sound (h.sees Second) in
    let f1 : Sees size First d1 a = sees_beside size Second d a Link 0 false tt (h.sees First) in
    let d2 : Data = wrote d1 25 n true in
    let s2 : Sound size d2 (put a1 Link n true) = sound_write size Second d1 a1 Link n true s1 in
    let e2 : Sees size Second d2 (linked a n) = sees_same size Second d2 (put a1 Link n true) (linked a n) (twice_put a n) (sees_write size Second d1 a1 Link n true tt tt s1 e1) in
    let f2 : Sees size First d2 a = sees_beside size Second d1 a Link n true tt f1 in
    let s2' : Sound size d2 a = record { regs = s2.regs; memory = s2.memory; zero_ = s2.zero_; zero_back = s2.zero_back; two_back = s2.two_back; feed = s2.feed; fed = s2.fed } in
    let d3 : Data = wrote d2 31 n true in
    let s3 : Sound size d3 (linked a n) = sound_write size First d2 a Link n true s2' in
    let f3 : Sees size First d3 (linked a n) = sees_write size First d2 a Link n true tt tt s2' f2 in
    let e3 : Sees size Second d3 (linked a n) = sees_beside size First d2 (linked a n) Link n true tt e2 in
    record {
      more_steps = 3;
      now = d3;
      leads = leads_on (items p) (Good p) 1 3 (before p b (high_half ∷ i1) Onward d) (before p b i1 Onward d1) (at_block p t d3)
          (lead_one p (before p b (high_half ∷ i1) Onward d) (before p b i1 Onward d1) refl
          (record { placed = tt; returns = tt; reads = tt; no_exception = λ c at g. none_some (Exception c at) None refl g }, tt) (high_step p b i1 d))
          (leads_on (items p) (Good p) 1 2 (before p b i1 Onward d1) (before p b i2 Onward d2) (at_block p t d3)
          (lead_one p (before p b i1 Onward d1) (before p b i2 Onward d2) refl
          (record { placed = tt; returns = tt; reads = (e1.backs Link tt, tt); no_exception = λ c at g. none_some (Exception c at) None refl g }, tt) (low_step p b i2 d1))
          (leads_on (items p) (Good p) 1 1 (before p b i2 Onward d2) (before p b i3 (To t) d3) (at_block p t d3)
          (lead_one p (before p b i2 Onward d2) (before p b i3 (To t) d3) refl
          (record { placed = tt; returns = tt; reads = tt; no_exception = λ c at g. none_some (Exception c at) None refl g }, tt) (calling_step p b f i3 d2))
          (lead_one p (before p b i3 (To t) d3) (at_block p t d3) refl (idle_lawful p size b d3 (linked a n) s3, tt) (idle_to p b t more d3))));
      doubled = record {
        sound = s3;
        sees = elim [ First ↦ f3 | Second ↦ e3 ];
        words = words_put size a Link n true small h.words;
      };
    }

abbrev returner : Item
returner = plain (mips.Jr 31) class.Act

-- a return to a block that may follow
pub goes_return : (p : HardProgram) (size b : ℕ) (a : Pairs) → a.link ≡ true → MayFollow p b (a.file Link) → DoesGo p size b (plain (mips.Jr 31) class.Act ∷ plain nop class.Act ∷ []) a (a.file Link) a
goes_return p size b a l m more d h =
    let t : ℕ = a.file Link in
    let here : held d 31 ≡ t = (h.sees First).file Link tt in
    let start : Spot = before p b (returner ∷ idle ∷ more) Onward d in
    record {
      more_steps = 1;
      now = d;
      leads = leads_on (items p) (Good p) 1 1 start (before p b (idle ∷ more) (To t) d) (at_block p t d)
          (lead_one p start (before p b (idle ∷ more) (To t) d) refl (
            record { placed = tt; returns = ((h.sees First).backs Link tt ∙ l, subst (λ (x : ℕ). MayFollow p b x) (sym here) m); reads = tt; no_exception = no_exception_pass b returner d refl },
            (same_in size d a Link tt (h.sees First) (h.sees Second), tt),
          )
          (pass_step p b returner (idle ∷ more) d refl ∙ ap (λ (x : ℕ). let z : Spot × Option ℕ = (before p b (idle ∷ more) (To x) d, None) in z) here))
          (lead_one p (before p b (idle ∷ more) (To t) d) (at_block p t d) refl (idle_lawful p size b d a h.sound, tt) (idle_to p b t more d));
      doubled = h;
    }
