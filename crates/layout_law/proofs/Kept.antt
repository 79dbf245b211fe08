-- One item's act in two data that differ in the registers of the signatures alone.
use Rattle.std.proofs.Common.{◌≡◌, ◌≢◌, ℕ, ◌+◌, ◌%◌, arith, ap, refl, sym, ◌∙◌, subst, List, [], ◌∷◌, length, get_or, Bool, true, false, cond, inl, inr}
use Rattle.std.specs.Prelude.{Option, Some, None, slice_index, slice_set, ◌==◌, not, nat_lt}
use Rattle.std.proofs.lemmas.Grind.{common_steps}
use Rattle.mips_isa.specs.declared.instr.Instr.{Instr}
use Rattle.mips_isa.specs.declared.instr.Instr.TheVariants.{Jr, Beq, Bne, J, Jal, Sw}
use Rattle.mips_isa.specs.declared.instr.Act.{Act}
use Rattle.mips_isa.specs.declared.instr.Act.TheVariants.{Write, Move, Both, Load, Store, Go, Link, Pass, Service, Stop}
use Rattle.mips_isa.specs.declared.instr.End.{End}
use Rattle.mips_isa.specs.declared.instr.End.TheVariants.{Exited, Starved, Exception}
use Rattle.mips_isa.specs.Machine.{State, reg, perform, written, moved, with_reg, service, in_memory, place, act, reads_of, writes_of}
use Rattle.mips_isa.specs.Locality.{Agree, Puts}
use Rattle.mips_laws.proofs.Locality.{same_act, puts}
use Rattle.hard_items.specs.declared.code.Fix.{Fix}
use Rattle.hard_items.specs.declared.code.Fix.TheVariants.{Plain, Block, Function, ReturnHigh, ReturnLow}
use Rattle.hard_items.specs.declared.code.Item.{Item}
use Rattle.hard_items.specs.declared.code.HardProgram.{HardProgram}
use Rattle.hard_items.specs.Streams.{touched}
use Rattle.hard_items.specs.Run.{Data, machine_of, held, marked, marked_reg, makes_number, value_of, data_after, item_act, completed, numbered, way_of, Way}
use Rattle.hard_items.specs.Forms.{Each}
use Rattle.layout_law.specs.Signs.{is_sign, with_regs, Kept}
use Rattle.layout_law.proofs.Data.{set_off, set_length, same_or_not}
use Rattle.layout_law.proofs.Acts.{each_left, each_right}

no_true : true ≡ false → ⊥
no_true e = cc

-- ---- registers

-- One value is written in both.
kept_by : (hb lb : ℕ → Bool) (hs ls : List ℕ) (r v : ℕ) (mark : Bool) (z : Bool) → (r == 0) ≡ z → Kept hb lb hs ls → is_sign r ≡ false → Kept (cond z hb (marked hb r mark)) (cond z lb (marked lb r mark)) (cond z hs (slice_set hs r v)) (cond z ls (slice_set ls r v))
kept_by hb lb hs ls r v mark true e k n = k
kept_by hb lb hs ls r v mark false e k n = record {
  all = set_length hs r v ∙ k.all;
  there = set_length ls r v ∙ k.there;
  same = λ x s. elim (same_or_not x r) as (λ z. get_or (slice_set ls r v) x 0 ≡ get_or (slice_set hs r v) x 0) [
    | inl z ↦ both hs ls r x v z.0 (k.all ∙ sym k.there) (k.same x s)
    | inr z ↦ set_off ls r x v z.0 ∙ (k.same x s ∙ sym (set_off hs r x v z.0))
  ];
  backs = λ x s. ap (λ (y : Bool). cond (x == r) mark y) (k.backs x s);
  none = λ x s. elim (same_or_not x r) as (λ z. cond (x == r) mark (lb x) ≡ false) [
    | inl z ↦ absurd (no_true (sym s ∙ (ap is_sign z.0 ∙ n)))
    | inr z ↦ ap (λ (y : Bool). cond y mark (lb x)) z.1 ∙ k.none x s
  ];
  zero = set_off ls r 0 v (other r e) ∙ k.zero;
  no_back = elim (same_or_not 0 r) as (λ z. cond (0 == r) mark (lb 0) ≡ false) [
    | inl z ↦ absurd (other r e z.0)
    | inr z ↦ ap (λ (y : Bool). cond y mark (lb 0)) z.1 ∙ k.no_back
  ];
}
  where
    other : (r : ℕ) → (r == 0) ≡ false → 0 ≢ r
    other r e = grind arith

    both : (hs ls : List ℕ) (r x v : ℕ) → x ≡ r → length hs ≡ length ls → get_or ls x 0 ≡ get_or hs x 0 → get_or (slice_set ls r v) x 0 ≡ get_or (slice_set hs r v) x 0
    both hs ls r x v e l s = grind (arith, common_steps)

pub kept_write : (hb lb : ℕ → Bool) (hs ls : List ℕ) (r v : ℕ) (mark : Bool) → Kept hb lb hs ls → is_sign r ≡ false → Kept (marked_reg hb r mark) (marked_reg lb r mark) (written hs r v) (written ls r v)
kept_write hb lb hs ls r v mark k n = kept_by hb lb hs ls r v mark (r == 0) refl k n

-- A register of the signatures is written in the one.
sign_not_zero : (r : ℕ) → is_sign r ≡ true → r ≢ 0
sign_not_zero r e h = no_true (sym e ∙ ap is_sign h)

kept_sign_by : (hb lb : ℕ → Bool) (hs ls : List ℕ) (r v : ℕ) (z : Bool) → (r == 0) ≡ z → Kept hb lb hs ls → is_sign r ≡ true → Kept hb (cond z lb (marked lb r false)) hs (cond z ls (slice_set ls r v))
kept_sign_by hb lb hs ls r v true e k n = absurd (sign_not_zero r n (is r e))
  where
    is : (r : ℕ) → (r == 0) ≡ true → r ≡ 0
    is r e = grind arith
kept_sign_by hb lb hs ls r v false e k n = record {
  all = k.all;
  there = set_length ls r v ∙ k.there;
  same = λ x s. set_off ls r x v (apart x s) ∙ k.same x s;
  backs = λ x s. elim (same_or_not x r) as (λ z. cond (x == r) false (lb x) ≡ hb x) [
    | inl z ↦ absurd (apart x s z.0)
    | inr z ↦ ap (λ (y : Bool). cond y false (lb x)) z.1 ∙ k.backs x s
  ];
  none = λ x s. elim (same_or_not x r) as (λ z. cond (x == r) false (lb x) ≡ false) [
    | inl z ↦ ap (λ (y : Bool). cond y false (lb x)) z.1
    | inr z ↦ ap (λ (y : Bool). cond y false (lb x)) z.1 ∙ k.none x s
  ];
  zero = set_off ls r 0 v (λ q. sign_not_zero r n (sym q)) ∙ k.zero;
  no_back = elim (same_or_not 0 r) as (λ z. cond (0 == r) false (lb 0) ≡ false) [
    | inl z ↦ absurd (sign_not_zero r n (sym z.0))
    | inr z ↦ ap (λ (y : Bool). cond y false (lb 0)) z.1 ∙ k.no_back
  ];
}
  where
    apart : (x : ℕ) → is_sign x ≡ false → x ≡ r → ⊥
    apart x s e = no_true (sym n ∙ (ap is_sign (sym e) ∙ s))

pub kept_sign : (hb lb : ℕ → Bool) (hs ls : List ℕ) (r v : ℕ) → Kept hb lb hs ls → is_sign r ≡ true → Kept hb (marked_reg lb r false) hs (written ls r v)
kept_sign hb lb hs ls r v k n = kept_sign_by hb lb hs ls r v (r == 0) refl k n

-- ---- one act on both

-- What stays of the registers of the signatures.
pub record KeepsSigns (ls ms : List ℕ) : Type 0 where
  pub same : (r : ℕ) → is_sign r ≡ true → slice_index ms r ≡ slice_index ls r

stay_signs : (ls : List ℕ) → KeepsSigns ls ls
stay_signs ls = record { same = λ r e. refl }

write_signs : (ls : List ℕ) (r v : ℕ) → is_sign r ≡ false → KeepsSigns ls (written ls r v)
write_signs ls r v n = record { same = λ x s. by (r == 0) x s }
  where
    by : (z : Bool) (x : ℕ) → is_sign x ≡ true → slice_index (cond z ls (slice_set ls r v)) x ≡ slice_index ls x
    by true x s = refl
    by false x s = set_off ls r x v (λ q. no_true (sym s ∙ (ap is_sign q ∙ n)))

-- What an act writes is no register of the signatures.
abbrev pub Clear : Act → Type 0
Clear (Write r v) = is_sign r ≡ false
Clear (Move r v) = is_sign r ≡ false
Clear (Load r a) = is_sign r ≡ false
Clear (Link to) = ⊥
Clear a = Unit {0}

-- Both go on and differ in these registers alone, or come to one end.
pub data Twice (i : Item) (a : Act) (d : Data) (regs : List ℕ) (backs : ℕ → Bool) (high low : State × Option ℕ) : Type 0 where
  on : (ms : List ℕ) (mb : ℕ → Bool) → high.0.end ≡ None → low.0.end ≡ None → low.1 ≡ high.1 → data_after i a (with_regs d regs backs) low.0 ≡ with_regs (data_after i a d high.0) ms mb → Kept (data_after i a d high.0).backs mb (data_after i a d high.0).regs ms → KeepsSigns regs ms → Twice i a d regs backs high low
  over : (e : End) → high.0.end ≡ Some e → low.0.end ≡ Some e → low.1 ≡ None → Twice i a d regs backs high low

load_twice : (i : Item) (d : Data) (regs : List ℕ) (backs : ℕ → Bool) (r a : ℕ) → Kept d.backs backs d.regs regs → is_sign r ≡ false → (x y : Bool) → Twice i (Load r a) d regs backs
    (cond x (record (machine_of d) { end = Some (Exception 4 0) }, None) (cond y (record (machine_of d) { end = Some (Exception 7 0) }, None) (record (with_reg (moved (machine_of d)) r (slice_index d.memory (place a))) { last_load = r }, None)))
    (cond x (record (machine_of (with_regs d regs backs)) { end = Some (Exception 4 0) }, None) (cond y (record (machine_of (with_regs d regs backs)) { end = Some (Exception 7 0) }, None) (record (with_reg (moved (machine_of (with_regs d regs backs))) r (slice_index d.memory (place a))) { last_load = r }, None)))
load_twice i d regs backs r a k n true y = over (Exception 4 0) refl refl refl
load_twice i d regs backs r a k n false true = over (Exception 7 0) refl refl refl
load_twice i d regs backs r a k n false false = on (written regs r (slice_index d.memory (place a))) (marked_reg backs r (d.stored (place a))) refl refl refl refl (kept_write d.backs backs d.regs regs r (slice_index d.memory (place a)) (d.stored (place a)) k n) (write_signs regs r (slice_index d.memory (place a)) n)

store_twice : (i : Item) (d : Data) (regs : List ℕ) (backs : ℕ → Bool) (a v : ℕ) → Kept d.backs backs d.regs regs → is_sign (value_of i.instr) ≡ false → (x y : Bool) → Twice i (Store a v) d regs backs
    (cond x (record (machine_of d) { end = Some (Exception 5 0) }, None) (cond y (record (machine_of d) { end = Some (Exception 7 0) }, None) (record (moved (machine_of d)) { memory = slice_set d.memory (place a) v }, None)))
    (cond x (record (machine_of (with_regs d regs backs)) { end = Some (Exception 5 0) }, None) (cond y (record (machine_of (with_regs d regs backs)) { end = Some (Exception 7 0) }, None) (record (moved (machine_of (with_regs d regs backs))) { memory = slice_set d.memory (place a) v }, None)))
store_twice i d regs backs a v k n true y = over (Exception 5 0) refl refl refl
store_twice i d regs backs a v k n false true = over (Exception 7 0) refl refl refl
store_twice i d regs backs a v k n false false = on regs backs refl refl refl
    (ap (λ (z : Bool). record (with_regs d regs backs) { memory = slice_set d.memory (place a) v; stored = marked d.stored (place a) z }) (k.backs (value_of i.instr) n)) k (stay_signs regs)

service_twice : (i : Item) (d : Data) (regs : List ℕ) (backs : ℕ → Bool) (w : ℕ) → Kept d.backs backs d.regs regs → (x y z c : Bool) → Twice i Service d regs backs
    (cond x (moved (machine_of d), Some w) (cond y (cond c (record (with_reg (moved (machine_of d)) 2 (slice_index d.feed d.fed)) { fed = d.fed + 1 }, None) (record (machine_of d) { end = Some Starved }, None)) (cond z (record (machine_of d) { end = Some (Exited w) }, None) (record (machine_of d) { end = Some (Exception 8 0) }, None))))
    (cond x (moved (machine_of (with_regs d regs backs)), Some w) (cond y (cond c (record (with_reg (moved (machine_of (with_regs d regs backs))) 2 (slice_index d.feed d.fed)) { fed = d.fed + 1 }, None) (record (machine_of (with_regs d regs backs)) { end = Some Starved }, None)) (cond z (record (machine_of (with_regs d regs backs)) { end = Some (Exited w) }, None) (record (machine_of (with_regs d regs backs)) { end = Some (Exception 8 0) }, None))))
service_twice i d regs backs w k true y z c = on regs (marked_reg backs 2 false) refl refl refl refl (mark_two k) (stay_signs regs)
  where
    mark_two : Kept d.backs backs d.regs regs → Kept (marked d.backs 2 false) (marked backs 2 false) d.regs regs
    mark_two k = record {
      all = k.all;
      there = k.there;
      same = k.same;
      backs = λ x s. ap (λ (y : Bool). cond (x == 2) false y) (k.backs x s);
      none = λ x s. ap (λ (y : Bool). cond (x == 2) false y) (k.none x s) ∙ same_both (x == 2);
      zero = k.zero;
      no_back = k.no_back;
    }
      where
        same_both : (z : Bool) → cond z false false ≡ false
        same_both true = refl
        same_both false = refl
service_twice i d regs backs w k false true z true = on (written regs 2 (slice_index d.feed d.fed)) (marked_reg backs 2 false) refl refl refl refl (kept_write d.backs backs d.regs regs 2 (slice_index d.feed d.fed) false k refl) (write_signs regs 2 (slice_index d.feed d.fed) refl)
service_twice i d regs backs w k false true z false = over Starved refl refl refl
service_twice i d regs backs w k false false true c = over (Exited w) refl refl refl
service_twice i d regs backs w k false false false c = over (Exception 8 0) refl refl refl

abbrev served : State → ℕ → ℕ → State × Option ℕ
served s n a =
    cond (n == 1) (moved s, Some a) (
    cond (n == 5) (cond (nat_lt s.fed (length s.feed)) (record (with_reg (moved s) 2 (slice_index s.feed s.fed)) { fed = s.fed + 1 }, None) (record s { end = Some Starved }, None)) (
    cond (n == 17) (record s { end = Some (Exited a) }, None)
    (record s { end = Some (Exception 8 s.pc) }, None)))

service_is : (s : State) (n a : ℕ) → reg s 2 ≡ n → reg s 4 ≡ a → service s ≡ served s n a
service_is s n a e f = rw (e, f) refl

pub perform_twice : (i : Item) (a : Act) (d : Data) (regs : List ℕ) (backs : ℕ → Bool) → Kept d.backs backs d.regs regs → Clear a → is_sign (value_of i.instr) ≡ false → Twice i a d regs backs (perform a (machine_of d)) (perform a (machine_of (with_regs d regs backs)))
perform_twice i (Write r v) d regs backs k c n = on (written regs r v) (marked_reg backs r (makes_number i)) refl refl refl refl (kept_write d.backs backs d.regs regs r v (makes_number i) k c) (write_signs regs r v c)
perform_twice i (Move r v) d regs backs k c n = on (written regs r v) (marked_reg backs r false) refl refl refl refl (kept_write d.backs backs d.regs regs r v false k c) (write_signs regs r v c)
perform_twice i (Both h l) d regs backs k c n = on regs backs refl refl refl refl k (stay_signs regs)
perform_twice i (Load r a) d regs backs k c n = load_twice i d regs backs r a k c (not (a % 4 == 0)) (not (in_memory (machine_of d) a))
perform_twice i (Store a v) d regs backs k c n = store_twice i d regs backs a v k n (not (a % 4 == 0)) (not (in_memory (machine_of d) a))
perform_twice i (Go to) d regs backs k c n = on regs backs refl refl refl refl k (stay_signs regs)
perform_twice i (Link to) d regs backs k c n = absurd c
perform_twice i Pass d regs backs k c n = on regs backs refl refl refl refl k (stay_signs regs)
perform_twice i Service d regs backs k c n =
    subst (λ (z : State × Option ℕ). Twice i Service d regs backs (service (machine_of d)) z) (sym (service_is (machine_of (with_regs d regs backs)) (held d 2) (held d 4) (k.same 2 refl) (k.same 4 refl)))
    (service_twice i d regs backs (held d 4) k (held d 2 == 1) (held d 2 == 5) (held d 2 == 17) (nat_lt d.fed (length d.feed)))
perform_twice i (Stop e) d regs backs k c n = over e refl refl refl

-- ---- an item's act

clear_by : (b : ℕ) (ds : List ℕ) (a : Act) → Puts ds a → Each (λ r. is_sign r ≡ false) ds → Clear (numbered b a)
clear_by b ds (Write d v) e h = (subst (λ (x : List ℕ). Each (λ r. is_sign r ≡ false) x) e h).0
clear_by b ds (Move d v) e h = (subst (λ (x : List ℕ). Each (λ r. is_sign r ≡ false) x) e h).0
clear_by b ds (Load d v) e h = (subst (λ (x : List ℕ). Each (λ r. is_sign r ≡ false) x) e h).0
clear_by b ds (Both x y) e h = tt
clear_by b ds (Store x y) e h = tt
clear_by b ds (Go x) e h = tt
clear_by b ds (Link x) e h = refl
clear_by b ds Pass e h = tt
clear_by b ds Service e h = tt
clear_by b ds (Stop x) e h = tt

clear_completed : (b : ℕ) (f : Fix) (a : Act) → Clear a → Clear (completed f b a)
clear_completed b Plain a h = h
clear_completed b (Block t) a h = h
clear_completed b (Function t) a h = h
clear_completed b ReturnHigh a h = h
clear_completed b ReturnLow a h = refl

pub clear_item : (b : ℕ) (i : Item) (d : Data) → Each (λ r. is_sign r ≡ false) (touched i.instr) → Clear (item_act b i d)
clear_item b i d h = clear_completed b i.fix (numbered b (act i.instr (machine_of d))) (clear_by b (writes_of i.instr) (act i.instr (machine_of d)) (puts i.instr (machine_of d)) (each_right (λ r. is_sign r ≡ false) (reads_of i.instr) (writes_of i.instr) h))

pub clear_value : (x : Instr) → Each (λ r. is_sign r ≡ false) (touched x) → is_sign (Rattle.hard_items.specs.Run.value_of x) ≡ false
clear_value (Sw rt rs imm) h = h.0
clear_value x h = refl

agree_kept : (d : Data) (regs : List ℕ) (backs : ℕ → Bool) (rs : List ℕ) → Kept d.backs backs d.regs regs → Each (λ r. is_sign r ≡ false) rs → Agree (machine_of (with_regs d regs backs)) (machine_of d) rs
agree_kept d regs backs [] k h = tt
agree_kept d regs backs (r ∷ rs) k h = (k.same r h.0, agree_kept d regs backs rs k h.1)

pub act_kept : (b : ℕ) (i : Item) (d : Data) (regs : List ℕ) (backs : ℕ → Bool) → Kept d.backs backs d.regs regs → Each (λ r. is_sign r ≡ false) (touched i.instr) → item_act b i (with_regs d regs backs) ≡ item_act b i d
act_kept b i d regs backs k h = ap (λ (z : Act). completed i.fix b (numbered b z)) (same_act i.instr (machine_of (with_regs d regs backs)) (machine_of d) refl (λ e. (refl, refl)) (agree_kept d regs backs (reads_of i.instr) k (each_left (λ r. is_sign r ≡ false) (reads_of i.instr) (writes_of i.instr) h)))

-- The same way, in two programs of the same entries.
named_same : (p q : HardProgram) (f : Fix) → q.entries ≡ p.entries → Rattle.hard_items.specs.Run.named q f ≡ Rattle.hard_items.specs.Run.named p f
named_same p q Plain e = refl
named_same p q (Block t) e = refl
named_same p q (Function f) e = ap (λ (z : List ℕ). slice_index z f) e
named_same p q ReturnHigh e = refl
named_same p q ReturnLow e = refl

pub way_kept : (p q : HardProgram) (i : Item) (d : Data) (regs : List ℕ) (backs : ℕ → Bool) (x : Instr) → q.entries ≡ p.entries → Kept d.backs backs d.regs regs → Each (λ r. is_sign r ≡ false) (touched x) → way_of q i (with_regs d regs backs) x ≡ way_of p i d x
way_kept p q i d regs backs (J target) e k h = ap Rattle.hard_items.specs.Run.To (named_same p q i.fix e)
way_kept p q i d regs backs (Jal target) e k h = ap Rattle.hard_items.specs.Run.To (named_same p q i.fix e)
way_kept p q i d regs backs (Jr rs) e k h = ap Rattle.hard_items.specs.Run.To (k.same rs h.0)
way_kept p q i d regs backs (Beq rs rt imm) e k h = same (slice_index regs rs) (held d rs) (slice_index regs rt) (held d rt) (k.same rs h.0) (k.same rt h.1.0)
  where
    same : (a b c f : ℕ) → a ≡ b → c ≡ f → cond (a == c) (Rattle.hard_items.specs.Run.branch_way i.fix) Rattle.hard_items.specs.Run.Onward ≡ cond (b == f) (Rattle.hard_items.specs.Run.branch_way i.fix) Rattle.hard_items.specs.Run.Onward
    same a b c f u v = rw (u, v) refl
way_kept p q i d regs backs (Bne rs rt imm) e k h = same (slice_index regs rs) (held d rs) (slice_index regs rt) (held d rt) (k.same rs h.0) (k.same rt h.1.0)
  where
    same : (a b c f : ℕ) → a ≡ b → c ≡ f → cond (a == c) Rattle.hard_items.specs.Run.Onward (Rattle.hard_items.specs.Run.branch_way i.fix) ≡ cond (b == f) Rattle.hard_items.specs.Run.Onward (Rattle.hard_items.specs.Run.branch_way i.fix)
    same a b c f u v = rw (u, v) refl
way_kept p q i d regs backs x e k h = refl
