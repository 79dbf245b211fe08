-- A branch or jump that is led to the start of a block that is neither a successor nor an alias: the head there reports.
use Rattle.std.proofs.Common.{◌≡◌, ◌≢◌, ℕ, suc, ◌+◌, ◌%◌, ◌≤◌, ◌<◌, arith, ap, refl, sym, ◌∙◌, subst, List, [], ◌++◌, append-nil, length, false, true, Bool, inl, inr}
use Rattle.std.specs.Prelude.{Option, Some, None, ◌⊎◌, ◌==◌, ◌&&◌, ◌||◌, nat_lt, not, slice_index, bit_xor, if◌then◌else◌}
use Rattle.hard_words.specs.declared.Change.{Change}
use Rattle.hard_words.specs.declared.ChangeKind.TheVariants.{Divert}
use Rattle.mips_isa.specs.declared.instr.Instr.{Instr}
use Rattle.mips_isa.specs.declared.instr.Instr.TheVariants.{Sll, Jr, J, Jal, Beq, Bne, Ori, Xori}
use Rattle.mips_isa.specs.Machine.{State, reg, step, is_product, is_jump, is_hazard, among, reads_of, written, plus}
use Rattle.mips_isa.specs.Runs.{Ran, run, put_out, after_turn, diverted}
use Rattle.mips_laws.specs.RunLaws.{joined}
use Rattle.mips_laws.proofs.Runs.{divert_splits}
use Rattle.mips_isa.specs.Image.{ImageFields, boot_state}
use Rattle.mips_text.specs.Text.{IsText, InText, At}
use Rattle.mips_text.specs.Blocks.{IsStart, InSpan, Succ, IsAlias, Head, HeadAt, carried}
use Rattle.mips_faults.specs.Faults.{image_run, Caught, UnreportedFor}
use Rattle.mips_text.specs.Typing.{IsSlot}
use Rattle.harden_lint.specs.Rules.{WellTyped}
use Rattle.harden_lint.specs.Theorems.{Catches}
use Rattle.lint_theorem.specs.Divert.{CatchesWithin, CatchesBehind}
use Rattle.lint_theorem.proofs.Ground.{no_truth, below, plus_four, plus_eight, written_here, written_there, written_zero, written_long}
use Rattle.lint_theorem.proofs.Heads.{head_of, starts_inside, second, jump_place, IsQuiet, waits, chooses, slot_quiet, quiet_jump}
use Rattle.lint_theorem.proofs.Words.{Turned, turns, step_does}
use Rattle.lint_theorem.proofs.Along.{Along, Marked, Loaded, slot_here, stands_plain}
use Rattle.lint_theorem.proofs.Clean.{run_along}
use Rattle.lint_theorem.proofs.Walk.{Walk, Put, Puts, one_more, walk_word, walk_compare, Reports, walk_report}

-- A branch or jump of a well typed text meets no hazard.

jump_no_product : (i : Instr) → is_jump i ≡ true → is_product i ≡ false
jump_no_product (Jr r) j = refl
jump_no_product (J t) j = refl
jump_no_product (Jal t) j = refl
jump_no_product (Beq x y m) j = refl
jump_no_product (Bne x y m) j = refl
jump_no_product _ j = absurd (no_truth j)

free_by : (s : State) (i : Instr) (z : Bool) → among s.last_load (reads_of i) ≡ z → (z ≡ true → s.last_load ≡ 0) → is_product i ≡ false → is_jump i ≡ true → s.slot ≡ false → is_hazard s i ≡ false
free_by s i true e f p j k = let g : s.last_load ≡ 0 = f refl in rw (g, p, j, k) refl
free_by s i false e f p j k = by_load (not (s.last_load == 0))
  where
    by_load : (y : Bool) → ((y && among s.last_load (reads_of i)) || ((is_product i && nat_lt 0 s.quiet) || (is_jump i && s.slot))) ≡ false
    by_load true = rw (e, p, j, k) refl
    by_load false = rw (p, j, k) refl

loaded_zero : (text : List ℕ) (entry : ℕ) (s : State) (i : Instr) → WellTyped text entry → At text s.pc i → (s.last_load ≡ 0) ⊎ Loaded text s → among s.last_load (reads_of i) ≡ true → s.last_load ≡ 0
loaded_zero text entry s i w at (inl e) a = e
loaded_zero text entry s i w at (inr l) a = (w l.at).hazard.loads s.last_load l.base l.imm s.pc l.load l.next (record { instr = i; at = at; reads = a })

pub jump_free : (text : List ℕ) (entry : ℕ) (s : State) (i : Instr) → WellTyped text entry → Along text entry s → At text s.pc i → is_jump i ≡ true → is_hazard s i ≡ false
jump_free text entry s i w o at j = free_by s i (among s.last_load (reads_of i)) refl (loaded_zero text entry s i w at o.loaded) (jump_no_product i j) j (stands_plain text entry s i w at j o.stands).0

-- what a branch or jump leaves, one step later
pub turned : (text : List ℕ) (entry : ℕ) (s : State) (i : Instr) → IsText text → WellTyped text entry → Along text entry s → s.end ≡ None → At text s.pc i → is_jump i ≡ true → Turned i s (step s)
turned text entry s i big w o e at j =
    let n : s.npc ≡ s.pc + 4 = (stands_plain text entry s i w at j o.stands).1 in
    subst (λ (x : State × Option ℕ). Turned i s x) (sym (step_does s i e (subst (λ (t : List ℕ). At t s.pc i) (sym o.same) at) (jump_free text entry s i w o at j)))
    (turns i s j (n ∙ sym (plus_four text s.pc big o.inside)))

-- The registers on the way through a head.

-- what register 24 and 28 hold, and then 24 and 1
pub record Held (x y : ℕ) (l : List ℕ) : Type 0 where
  pub long : length l ≡ 32
  pub zero : slice_index l 0 ≡ 0
  pub four : slice_index l 24 ≡ x
  pub eight : slice_index l 28 ≡ y

pub record Ready (x c : ℕ) (l : List ℕ) : Type 0 where
  pub long : length l ≡ 32
  pub zero : slice_index l 0 ≡ 0
  pub four : slice_index l 24 ≡ x
  pub one : slice_index l 1 ≡ c

abbrev AnyRegs : List ℕ → Type 0
AnyRegs l = Unit {0}

held_written : (x y d v : ℕ) (l : List ℕ) → 24 ≢ d → 28 ≢ d → Held x y l → Held x y (written l d v)
held_written x y d v l n m h = record {
  long = written_long l d v ∙ h.long;
  zero = written_zero l d v ∙ h.zero;
  four = written_there l d v 24 n ∙ h.four;
  eight = written_there l d v 28 m ∙ h.eight;
}

put_24 : (x y v : ℕ) (l : List ℕ) → Held x y l → Held v y (written l 24 v)
put_24 x y v l h = record {
  long = written_long l 24 v ∙ h.long;
  zero = written_zero l 24 v ∙ h.zero;
  four = written_here l 24 v (omega arith) (omega (arith, h.long));
  eight = written_there l 24 v 28 (omega arith) ∙ h.eight;
}

put_1 : (x y v : ℕ) (l : List ℕ) → Held x y l → Ready x v (written l 1 v)
put_1 x y v l h = record {
  long = written_long l 1 v ∙ h.long;
  zero = written_zero l 1 v ∙ h.zero;
  four = written_there l 1 v 24 (omega arith) ∙ h.four;
  one = written_here l 1 v (omega arith) (omega (arith, h.long));
}

put_28 : (x c v : ℕ) (l : List ℕ) → Ready x c l → Ready x c (written l 28 v)
put_28 x c v l h = record {
  long = written_long l 28 v ∙ h.long;
  zero = written_zero l 28 v ∙ h.zero;
  four = written_there l 28 v 24 (omega arith) ∙ h.four;
  one = written_there l 28 v 1 (omega arith) ∙ h.one;
}

-- a word of a delay slot keeps them
slot_put : (x y : ℕ) (i : Instr) → IsQuiet i → (s : State) → Held x y s.regs → Put (Held x y) i s
slot_put x y i (waits e) s h = subst (λ (k : Instr). Put (Held x y) k s) (sym e) (record { d = 0; v = _; is = refl; left = h })
slot_put x y i (chooses m e) s h = subst (λ (k : Instr). Put (Held x y) k s) (sym e) (record { d = 2; v = _; is = refl; left = held_written x y 2 _ s.regs (omega arith) (omega arith) h })

quiet_product : (i : Instr) → IsQuiet i → is_product i ≡ false
quiet_product i (waits e) = rw e refl
quiet_product i (chooses m e) = rw e refl

slot_puts : (x y : ℕ) (i : Instr) → IsQuiet i → Puts (Held x y) (Held x y) i
slot_puts x y i q = record { no_product = quiet_product i q; no_jump = quiet_jump i q; puts = slot_put x y i q }

-- the first four words of a head
first_puts : (x y d : ℕ) → Puts (Held x y) (Held (bit_xor x d) y) (Xori 24 24 d)
first_puts x y d = record {
  no_product = refl;
  no_jump = refl;
  puts = λ s h. record { d = 24; v = bit_xor (reg s 24) d; is = refl; left = subst (λ (v : ℕ). Held (bit_xor v d) y (written s.regs 24 (bit_xor (reg s 24) d))) h.four (put_24 x y (bit_xor (reg s 24) d) s.regs h) };
}

abbrev adjusted : Bool → ℕ → ℕ → ℕ
adjusted fan x y = if fan then bit_xor x y else x

second_puts : (x y : ℕ) (fan : Bool) → Puts (Held x y) (Held (adjusted fan x y) y) (second fan)
second_puts x y true = record {
  no_product = refl;
  no_jump = refl;
  puts = λ s h. record { d = 24; v = bit_xor (reg s 24) (reg s 28); is = refl; left = subst (λ (v : ℕ). Held (bit_xor x v) y (written s.regs 24 (bit_xor (reg s 24) (reg s 28)))) h.eight (subst (λ (v : ℕ). Held (bit_xor v (reg s 28)) y (written s.regs 24 (bit_xor (reg s 24) (reg s 28)))) h.four (put_24 x y (bit_xor (reg s 24) (reg s 28)) s.regs h)) };
}
second_puts x y false = record {
  no_product = refl;
  no_jump = refl;
  puts = λ s h. record { d = 0; v = _; is = refl; left = h };
}

third_puts : (x y c : ℕ) → Puts (Held x y) (Ready x c) (Ori 1 0 c)
third_puts x y c = record {
  no_product = refl;
  no_jump = refl;
  puts = λ s h. record { d = 1; v = c; is = rw h.zero refl; left = put_1 x y c s.regs h };
}

fourth_puts : (x c m : ℕ) → Puts (Ready x c) (Ready x c) (Ori 28 0 m)
fourth_puts x c m = record {
  no_product = refl;
  no_jump = refl;
  puts = λ s h. record { d = 28; v = _; is = refl; left = put_28 x c _ s.regs h };
}

nop_puts : (P : List ℕ → Type 0) → Puts P AnyRegs (Sll 0 0 0)
nop_puts P = record { no_product = refl; no_jump = refl; puts = λ s h. record { d = 0; v = _; is = refl; left = tt } }

-- The words of a head, one after another, where it does not find its number.

four_at : (w : ℕ) → w < 268435456 → (w + 4) % 4294967296 ≡ w + 4
four_at w h = omega arith

eight_at : (w : ℕ) → w < 268435456 → (w + 4 + 4) % 4294967296 ≡ w + 8
eight_at w h = omega arith

twelve_at : (w : ℕ) → w < 268435456 → (w + 8 + 4) % 4294967296 ≡ w + 12
twelve_at w h = omega arith

sixteen_at : (w : ℕ) → w < 268435456 → (w + 12 + 4) % 4294967296 ≡ w + 16
sixteen_at w h = omega arith

twenty_at : (w : ℕ) → w < 268435456 → (w + 16 + 4) % 4294967296 ≡ w + 20
twenty_at w h = omega arith

next_at : (w : ℕ) → w < 268435456 → (w + 20 + 4) % 4294967296 ≡ w + 24
next_at w h = omega arith

last_at : (w : ℕ) → w < 268435456 → (w + 24 + 4) % 4294967296 ≡ w + 28
last_at w h = omega arith

-- behind the comparison of a head that did not find its number
wait_reports : (text : List ℕ) (w : ℕ) (h : Head) (P : List ℕ → Type 0) (out : List ℕ) (r : Ran) → w < 268435456 → HeadAt text w h → Walk text (w + 20) (w + 24) true P out r → Reports out (w + 24) (one_more (one_more r))
wait_reports text w h P out r b y k =
    let k2 : Walk text (w + 24) (w + 28) false AnyRegs out (one_more r) = walk_word text (w + 20) (w + 24) (w + 28) true P AnyRegs out r (Sll 0 0 0) k y.waits (nop_puts P) (last_at w b) in
    walk_report text (w + 24) (w + 28) false AnyRegs out (one_more r) k2 y.reports

-- a head that does not find its number, from its comparison on
compare_reports : (text : List ℕ) (w : ℕ) (h : Head) (P : List ℕ → Type 0) (out : List ℕ) (r : Ran) → w < 268435456 → HeadAt text w h → Walk text (w + 16) (w + 20) false P out r → (slice_index r.state.regs 24 ≢ slice_index r.state.regs 1) → Reports out (w + 24) (one_more (one_more (one_more r)))
compare_reports text w h P out r b y k n = wait_reports text w h P out (one_more r) b y (walk_compare text (w + 16) (w + 20) (w + 24) 24 1 2 P out r k y.compares n (next_at w b))

-- a state in a delay slot that goes on to a start whose head does not find its number
pub head_reports : (text : List ℕ) (w a x y : ℕ) (h : Head) (i : Instr) (r : Ran) → w < 268435456 → HeadAt text w h → Walk text a w true (Held x y) [] r → At text a i → IsQuiet i → adjusted h.fan (bit_xor x h.d) y ≢ h.s → Reports [] (w + 24) (one_more (one_more (one_more (one_more (one_more (one_more (one_more (one_more r))))))))
head_reports text w a x y h i r b z k at q n =
    let v : ℕ = bit_xor x h.d in
    let u : ℕ = adjusted h.fan v y in
    let r1 : Ran = one_more r in
    let r2 : Ran = one_more r1 in
    let r3 : Ran = one_more r2 in
    let r4 : Ran = one_more r3 in
    let r5 : Ran = one_more r4 in
    let k1 : Walk text w (w + 4) false (Held x y) [] r1 = walk_word text a w (w + 4) true (Held x y) (Held x y) [] r i k at (slot_puts x y i q) (four_at w b) in
    let k2 : Walk text (w + 4) (w + 8) false (Held v y) [] r2 = walk_word text w (w + 4) (w + 8) false (Held x y) (Held v y) [] r1 (Xori 24 24 h.d) k1 z.differs (first_puts x y h.d) (eight_at w b) in
    let k3 : Walk text (w + 8) (w + 12) false (Held u y) [] r3 = walk_word text (w + 4) (w + 8) (w + 12) false (Held v y) (Held u y) [] r2 (second h.fan) k2 z.adjusts (second_puts v y h.fan) (twelve_at w b) in
    let k4 : Walk text (w + 12) (w + 16) false (Ready u h.s) [] r4 = walk_word text (w + 8) (w + 12) (w + 16) false (Held u y) (Ready u h.s) [] r3 (Ori 1 0 h.s) k3 z.wants (third_puts u y h.s) (sixteen_at w b) in
    let k5 : Walk text (w + 16) (w + 20) false (Ready u h.s) [] r5 = walk_word text (w + 12) (w + 16) (w + 20) false (Ready u h.s) (Ready u h.s) [] r4 (Ori 28 0 h.D) k4 z.leaves (fourth_puts u h.s h.D) (twenty_at w b) in
    let c : slice_index r5.state.regs 24 ≢ slice_index r5.state.regs 1 = λ e. n (sym k5.regs.four ∙ (e ∙ k5.regs.one)) in
    compare_reports text w h (Ready u h.s) [] r5 b z k5 c

-- The step of the divert and what follows.

-- the signature registers at a branch or jump of the block at u, where the head's own comparison holds
pub signs_at : (text : List ℕ) (entry u : ℕ) (h : Head) (s : State) (i : Instr) → WellTyped text entry → Along text entry s → At text s.pc i → is_jump i ≡ true → InSpan text entry u s.pc → HeadAt text u h → (s.pc ≡ u + 16 → slice_index s.regs 24 ≡ slice_index s.regs 1) → Held h.s h.D s.regs
signs_at text entry u h s i w o at j x y own =
    let m : Marked h u s.pc s.regs = o.marked u h x y in
    elim (jump_place text entry u s.pc h i w x y at j) as (λ z. Held h.s h.D s.regs) [
      | inl e ↦ record { long = o.long; zero = o.zero; four = own e ∙ m.wants (omega arith); eight = m.leaves (omega arith) }
      | inr b ↦ record { long = o.long; zero = o.zero; four = m.holds b; eight = m.leaves (omega arith) }
    ]

-- the state that the divert leaves
led_is : (t : State) (w : ℕ) → t.end ≡ None → t.slot ≡ true → diverted (Divert w) t ≡ record t { npc = w }
led_is t w e f = rw (e, f) refl

begun : State → Ran
begun t = record { output = []; state = t }

led_walk : (text : List ℕ) (a w x y : ℕ) (i : Instr) (s : State) (t : State × Option ℕ) → s.text ≡ text → s.npc ≡ a → s.end ≡ None → Held x y s.regs → Turned i s t → Walk text a w true (Held x y) [] (run (diverted (Divert w) t.0) None 0)
led_walk text a w x y i s t same n e h d =
    let led : diverted (Divert w) t.0 ≡ record t.0 { npc = w } = led_is t.0 w (d.going ∙ e) d.slot in
    subst (λ (q : State). Walk text a w true (Held x y) [] (run q None 0)) (sym led) (record {
      output = refl;
      going = d.going ∙ e;
      same = d.text ∙ same;
      pc = d.pc ∙ n;
      npc = refl;
      in_slot = d.slot;
      unloaded = d.unloaded;
      regs = record { long = d.long ∙ h.long; zero = d.zero ∙ h.zero; four = d.kept 24 (omega arith) ∙ h.four; eight = d.kept 28 (omega arith) ∙ h.eight };
    })

nine : (n : ℕ) → suc n + 8 ≡ n + 9
nine n = omega arith

-- the diverted run, nine steps from the step of the divert on
pub caught : (i : ImageFields) (input : List ℕ) (n u w : ℕ) (jump : Instr) → IsText i.text → WellTyped i.text i.entry → Along i.text i.entry (image_run i input None n).state → (image_run i input None n).state.end ≡ None → At i.text (image_run i input None n).state.pc jump → is_jump jump ≡ true → InSpan i.text i.entry u (image_run i input None n).state.pc → IsStart i.text i.entry w → (Succ i.text i.entry u w → ⊥) → (IsAlias i.text i.entry u w → ⊥) → ((image_run i input None n).state.pc ≡ u + 16 → slice_index (image_run i input None n).state.regs 24 ≡ slice_index (image_run i input None n).state.regs 1) → Caught i input n w
caught i input n u w jump big t o e at j x st no_succ no_alias own =
    let A : Ran = image_run i input None n in
    let s : State = A.state in
    let from : (h : Head) × HeadAt i.text u h = head_of i.text i.entry u t x.start in
    let to : (h : Head) × HeadAt i.text w h = head_of i.text i.entry w t st in
    let d : Turned jump s (step s) = turned i.text i.entry s jump big t o e at j in
    let np : s.npc ≡ s.pc + 4 = (stands_plain i.text i.entry s jump t at j o.stands).1 in
    let held : Held from.0.s from.0.D s.regs = signs_at i.text i.entry u from.0 s jump t o at j x from.1 own in
    let T : State = diverted (Divert w) (step s).0 in
    let k : Walk i.text (s.pc + 4) w true (Held from.0.s from.0.D) [] (run T None 0) = led_walk i.text (s.pc + 4) w from.0.s from.0.D jump s (step s) o.same np e held d in
    let here : IsSlot i.text (s.pc + 4) = slot_here i.text s.pc jump at j in
    let word : (k : Instr) × At i.text (s.pc + 4) k = (t (s.pc + 4)).instruction ((t (s.pc + 4)).slot.inside here) in
    let apart : carried from.0 to.0 ≢ to.0.s = λ f. no_alias (record { from = x.start; to = st; no_successor = no_succ; before = from.0; head = to.0; head_from = from.1; head_to = to.1; equal = f }) in
    let told : Reports [] (w + 24) (run T None 8) = head_reports i.text w (s.pc + 4) from.0.s from.0.D to.0 word.0 (run T None 0) (below i.text w big (starts_inside i.text i.entry w t st)) to.1 k word.1 (slot_quiet i.text i.entry (s.pc + 4) word.0 t here word.1) apart in
    let c : Change = record { step = n; kind = Divert w } in
    let split : run (boot_state i input) (Some c) (n + 9) ≡ joined (run (boot_state i input) None (suc n)) (run T None 8) =
    subst (λ (m : ℕ). run (boot_state i input) (Some c) m ≡ joined (run (boot_state i input) None (suc n)) (run T None 8)) (nine n) (divert_splits (boot_state i input) n w 8) in
    record {
      end = ap (λ (r : Ran). r.state.end) split ∙ told.end;
      output = ap (λ (r : Ran). r.output) split ∙ (ap (λ (l : List ℕ). put_out A.output (step s).1 ++ l) told.output ∙ (append-nil (put_out A.output (step s).1) ∙ ap (λ (v : Option ℕ). put_out A.output v) d.silent));
    }

-- A run that does not report within three steps finds the number of a head at whose comparison it stands.

sum_four : (a u : ℕ) → a ≡ u + 16 → a + 4 ≡ u + 20
sum_four a u e = omega arith

missed_walk : (text : List ℕ) (u : ℕ) (i : Instr) (A : Ran) (x : State × Option ℕ) → IsText text → InText text A.state.pc → A.state.text ≡ text → A.state.end ≡ None → A.state.npc ≡ A.state.pc + 4 → Turned i A.state x → A.state.pc ≡ u + 16 → x.0.npc ≡ plus (plus A.state.pc 4) 4 → Walk text (u + 20) (u + 24) true AnyRegs A.output (after_turn A x)
missed_walk text u i A x big t same e n d f g = record {
  output = ap (λ (v : Option ℕ). put_out A.output v) d.silent;
  going = d.going ∙ e;
  same = d.text ∙ same;
  pc = d.pc ∙ (n ∙ sum_four A.state.pc u f);
  npc = g ∙ (plus_eight text A.state.pc big t ∙ sum_eight A.state.pc f);
  in_slot = d.slot;
  unloaded = d.unloaded;
  regs = tt;
}
  where
    sum_eight : (a : ℕ) → a ≡ u + 16 → a + 8 ≡ u + 24
    sum_eight a e = omega arith

pub own_holds : (i : ImageFields) (input : List ℕ) (n N u : ℕ) (h : Head) → IsText i.text → WellTyped i.text i.entry → Along i.text i.entry (image_run i input None n).state → (image_run i input None n).state.end ≡ None → UnreportedFor i input N → n + 3 ≤ N → IsStart i.text i.entry u → HeadAt i.text u h → (image_run i input None n).state.pc ≡ u + 16 → slice_index (image_run i input None n).state.regs 24 ≡ slice_index (image_run i input None n).state.regs 1
own_holds i input n N u h big t o e quiet b st y f =
    let A : Ran = image_run i input None n in
    let s : State = A.state in
    let at : At i.text s.pc (Beq 24 1 2) = subst (λ (a : ℕ). At i.text a (Beq 24 1 2)) (sym f) y.compares in
    let np : s.npc ≡ s.pc + 4 = (stands_plain i.text i.entry s (Beq 24 1 2) t at refl o.stands).1 in
    let d : Turned (Beq 24 1 2) s (step s) = turned i.text i.entry s (Beq 24 1 2) big t o e at refl in
    elim (d.tested 24 1 2 refl) as (λ z. slice_index s.regs 24 ≡ slice_index s.regs 1) [
      | inl k ↦ k.1
      | inr k ↦
          let told : Reports A.output (u + 24) (image_run i input None (suc (suc (suc n)))) =
          wait_reports i.text u h AnyRegs A.output (one_more A) (below i.text u big (starts_inside i.text i.entry u t st)) y
          (missed_walk i.text u (Beq 24 1 2) A (step s) big o.inside o.same e np d f k.0) in
          absurd (quiet (suc (suc (suc n))) (omega arith) 2 (u + 24) told.end)
    ]

pub catches_within : CatchesWithin
catches_within i input N big t placed quiet n u w jump b e at j x st no_succ no_alias =
    let o : Along i.text i.entry (image_run i input None n).state = run_along i input n big t (λ m l k. placed m (omega arith) k) e in
    let from : (h : Head) × HeadAt i.text u h = head_of i.text i.entry u t x.start in
    caught i input n u w jump big t o e at j x st no_succ no_alias (λ f. own_holds i input n N u from.0 big t o e quiet b x.start from.1 f)

self_le : (n : ℕ) → n ≤ n
self_le n = omega arith

pub catches : Catches
catches i input rows big t placed quiet n u w jump e at j x st no_succ no_alias = catches_within i input (n + 3) big t.rules (placed (n + 3)) (quiet (n + 3)) n u w jump (self_le (n + 3)) e at j x st no_succ no_alias

not_own : (u a : ℕ) → u + 28 ≤ a → a ≡ u + 16 → ⊥
not_own u a h e = omega arith

pub catches_behind : CatchesBehind
catches_behind i input n big t placed u w jump e at j x b st no_succ no_alias =
    caught i input n u w jump big t (run_along i input n big t placed e) e at j x st no_succ no_alias (λ f. absurd (not_own u (image_run i input None n).state.pc b f))
