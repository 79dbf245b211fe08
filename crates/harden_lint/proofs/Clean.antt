-- The run without a change goes by the ways of the words, or is about to report.
use Rattle.std.proofs.Common.{◌≡◌, ◌≢◌, ℕ, ◌+◌, ◌%◌, arith, rules, ap, refl, sym, ◌∙◌, subst, List, length, get_or, false, true, Bool, cond, inl, inr}
use Rattle.std.specs.Prelude.{Option, Some, None, ◌⊎◌, ◌==◌, nat_lt, not, slice_index, slice_set, bit_or}
use Rattle.std.proofs.lemmas.Grind.{common_steps}
use Rattle.mips_isa.specs.declared.instr.Instr.{Instr}
use Rattle.mips_isa.specs.declared.instr.Instr.TheVariants.{Jr, Break, J, Jal, Beq, Bne, Ori}
use Rattle.mips_isa.specs.declared.instr.Act.{Act}
use Rattle.mips_isa.specs.declared.instr.Act.TheVariants.{Write, Move, Both, Load, Store, Go, Link, Pass, Service, Stop}
use Rattle.mips_isa.specs.declared.instr.End.{End}
use Rattle.mips_isa.specs.declared.instr.End.TheVariants.{Exception, Starved, Exited}
use Rattle.mips_isa.specs.Machine.{State, reg, act, step, planned, perform, plus, place, is_jump, load, store, service, ended, in_memory, moved, with_reg, written, branch, break_end}
use Rattle.mips_isa.specs.Locality.{IsGoing}
use Rattle.mips_faults.specs.Beside.{IsCalm}
use Rattle.mips_text.specs.Text.{IsText, InText, At, BranchAt, SkipsReport, branch_goal, jump_goal}
use Rattle.mips_text.specs.Blocks.{IsStart, jumped, called, taken}
use Rattle.mips_faults.specs.Faults.{IsPlaced}
use Rattle.mips_laws.proofs.Locality.{going_jumps}
use Rattle.mips_text.specs.Typing.{IsSlot, Next, onward}
use Rattle.mips_text.specs.Forms.{InputAt}
use Rattle.harden_lint.specs.Rules.{WellTyped}
use Rattle.lint_lockstep.proofs.Fetch.{same_instr, Plans, does, stops, plans}
use Rattle.lint_lockstep.specs.Sorts.{Doomed, Behind}
use Rattle.lint_lockstep.proofs.Sorts.{done_step, stop_step}
use Rattle.harden_lint.proofs.Places.{no_truth, in_text, report_or, plus_four, plus_eight, SkipOr, skips, skips_none, skip_or, fork_of, same_offset, goal_two}
use Rattle.harden_lint.proofs.Words.{behind_at, slot_no_start, start_text}
use Rattle.harden_lint.proofs.Services.{five_source, five_no_start}
use Rattle.harden_lint.proofs.Keeps.{Edge}
use Rattle.harden_lint.proofs.Rows.{Ready}

-- where a branch or a jump at j goes behind its delay slot, where it does not pass a report
abbrev pub Going : List ℕ → (entry j : ℕ) → Instr → ℕ → Type 0
Going text entry j (Jr rs) b = IsStart text entry b
Going text entry j (J t) b = b ≡ jump_goal j t
Going text entry j (Jal t) b = b ≡ jump_goal j t
Going text entry j (Beq x y n) b = (b ≡ branch_goal j n) ⊎ ((SkipsReport text j → ⊥) × (b ≡ j + 8))
Going text entry j (Bne x y n) b = (b ≡ branch_goal j n) ⊎ ((SkipsReport text j → ⊥) × (b ≡ j + 8))
Going text entry j _ b = ⊥

-- a state stands at a word that is no delay slot, or in one
pub data Way (text : List ℕ) (entry : ℕ) (s : State) : Type 0 where
  plain_way : s.slot ≡ false → s.npc ≡ s.pc + 4 → (IsSlot text s.pc → ⊥) → Way text entry s
  in_slot : (j : ℕ) → (i : Instr) → At text j i → is_jump i ≡ true → s.slot ≡ true → s.pc ≡ j + 4 → Going text entry j i s.npc → Way text entry s

-- what holds of each state of the run without a change
pub record Good (text : List ℕ) (entry : ℕ) (s : State) : Type 0 where
  pub same : s.text ≡ text
  pub zero : reg s 0 ≡ 0
  pub len : length s.regs ≡ 32
  pub way : Way text entry s
  pub five : (c : ℕ) → InputAt text c → s.pc ≡ c + 4 → reg s 2 ≡ 5

goes_edge : (text : List ℕ) (entry j a b : ℕ) (i : Instr) → At text j i → InText text a → a ≡ j + 4 → Going text entry j i b → Edge text entry a b
goes_edge text entry j a b (Jr rs) h t e g = inr g
goes_edge text entry j a b (J k) h t e g = inl (Next.jumped j k t h e g)
goes_edge text entry j a b (Jal k) h t e g = inl (Next.called j k t h e g)
goes_edge text entry j a b (Beq x y n) h t e (inl g) = inl (Next.taken j x y n t (record { instr = Beq x y n; at = h; is = inl refl }) e g)
goes_edge text entry j a b (Beq x y n) h t e (inr g) = inl (Next.passed j x y n t (record { instr = Beq x y n; at = h; is = inl refl }) g.0 e g.1)
goes_edge text entry j a b (Bne x y n) h t e (inl g) = inl (Next.taken j x y n t (record { instr = Bne x y n; at = h; is = inr refl }) e g)
goes_edge text entry j a b (Bne x y n) h t e (inr g) = inl (Next.passed j x y n t (record { instr = Bne x y n; at = h; is = inr refl }) g.0 e g.1)
goes_edge text entry j a b _ h t e g = absurd g

pub edge_of : (text : List ℕ) (entry : ℕ) (s : State) → Way text entry s → InText text s.pc → ((code : ℕ) → At text s.pc (Break code) → ⊥) → Edge text entry s.pc s.npc
edge_of text entry s (plain_way z e n) t b = inl (onward t n b e)
edge_of text entry s (in_slot j i h w z e g) t b = goes_edge text entry j s.pc s.npc i h t e g

-- lists of registers
written_len_by : (x : List ℕ) (r v : ℕ) → length (slice_set x r v) ≡ length x
written_len_by x r v = grind (arith, common_steps)

written_len : (x : List ℕ) (r v : ℕ) → length (written x r v) ≡ length x
written_len x r v = elim (r == 0) as (λ z. length (cond z x (slice_set x r v)) ≡ length x) [ true ↦ refl | false ↦ written_len_by x r v ]

not_same : (r : ℕ) → (r == 0) ≡ false → 0 ≢ r
not_same r h = grind arith

other_kept : (x : List ℕ) (r v : ℕ) → 0 ≢ r → get_or (slice_set x r v) 0 0 ≡ get_or x 0 0
other_kept x r v h = grind (arith, common_steps)

written_zero_by : (x : List ℕ) (r v : ℕ) (z : Bool) → (r == 0) ≡ z → get_or (cond z x (slice_set x r v)) 0 0 ≡ get_or x 0 0
written_zero_by x r v true h = refl
written_zero_by x r v false h = other_kept x r v (not_same r h)

written_zero : (x : List ℕ) (r v : ℕ) → get_or (written x r v) 0 0 ≡ get_or x 0 0
written_zero x r v = written_zero_by x r v (r == 0) refl

written_two : (x : List ℕ) (v : ℕ) → length x ≡ 32 → get_or (slice_set x 2 v) 2 0 ≡ v
written_two x v h = grind (arith, common_steps)

some_none : (e : End) → Some e ≡ None → ⊥
some_none e h = search (rules, h)

-- what a step that is no branch or jump leaves
pub record After (s t : State) : Type 0 where
  pub at : t.pc ≡ s.npc
  pub text : t.text ≡ s.text
  pub len : length t.regs ≡ length s.regs
  pub zero : get_or t.regs 0 0 ≡ get_or s.regs 0 0
  pub slot : t.slot ≡ false
  pub npc : t.npc ≡ plus s.npc 4

abbrev Result : State → State × Option ℕ → Type 0
Result s x = x.0.end ≡ None → After s x.0

written_after : (s : State) (r v : ℕ) → After s (with_reg (moved s) r v)
written_after s r v = record { at = refl; text = refl; len = written_len s.regs r v; zero = written_zero s.regs r v; slot = refl; npc = refl }

moved_after : (s : State) → After s (moved s)
moved_after s = record { at = refl; text = refl; len = refl; zero = refl; slot = refl; npc = refl }

load_after : (s : State) (d a : ℕ) → Result s (load s d a)
load_after s d a =
    let v : ℕ = slice_index s.memory (place a) in
    elim (not (a % 4 == 0)) as (λ z. Result s (cond z (ended (Exception 4 s.pc) s) (cond (not (in_memory s a)) (ended (Exception 7 s.pc) s) (record (with_reg (moved s) d v) { last_load = d }, None)))) [
      | true ↦ λ e. absurd (some_none (Exception 4 s.pc) e)
      | false ↦ elim (not (in_memory s a)) as (λ z. Result s (cond z (ended (Exception 7 s.pc) s) (record (with_reg (moved s) d v) { last_load = d }, None))) [
        | true ↦ λ e. absurd (some_none (Exception 7 s.pc) e)
        | false ↦ λ e. record { at = refl; text = refl; len = written_len s.regs d v; zero = written_zero s.regs d v; slot = refl; npc = refl }
      ]
    ]

store_after : (s : State) (a v : ℕ) → Result s (store s a v)
store_after s a v = elim (not (a % 4 == 0)) as (λ z. Result s (cond z (ended (Exception 5 s.pc) s) (cond (not (in_memory s a)) (ended (Exception 7 s.pc) s) (record (moved s) { memory = slice_set s.memory (place a) v }, None)))) [
  | true ↦ λ e. absurd (some_none (Exception 5 s.pc) e)
  | false ↦ elim (not (in_memory s a)) as (λ z. Result s (cond z (ended (Exception 7 s.pc) s) (record (moved s) { memory = slice_set s.memory (place a) v }, None))) [
    | true ↦ λ e. absurd (some_none (Exception 7 s.pc) e)
    | false ↦ λ e. record { at = refl; text = refl; len = refl; zero = refl; slot = refl; npc = refl }
  ]
]

service_after : (s : State) → Result s (service s)
service_after s =
    let v : ℕ = slice_index s.feed s.fed in
    elim (reg s 2 == 1) as (λ z. Result s (cond z (moved s, Some (reg s 4)) (cond (reg s 2 == 5) (cond (nat_lt s.fed (length s.feed)) (record (with_reg (moved s) 2 v) { fed = s.fed + 1 }, None) (ended Starved s)) (cond (reg s 2 == 17) (ended (Exited (reg s 4)) s) (ended (Exception 8 s.pc) s))))) [
      | true ↦ λ e. moved_after s
      | false ↦ elim (reg s 2 == 5) as (λ z. Result s (cond z (cond (nat_lt s.fed (length s.feed)) (record (with_reg (moved s) 2 v) { fed = s.fed + 1 }, None) (ended Starved s)) (cond (reg s 2 == 17) (ended (Exited (reg s 4)) s) (ended (Exception 8 s.pc) s)))) [
        | true ↦ elim (nat_lt s.fed (length s.feed)) as (λ z. Result s (cond z (record (with_reg (moved s) 2 v) { fed = s.fed + 1 }, None) (ended Starved s))) [
          | true ↦ λ e. record { at = refl; text = refl; len = written_len s.regs 2 v; zero = written_zero s.regs 2 v; slot = refl; npc = refl }
          | false ↦ λ e. absurd (some_none Starved e)
        ]
        | false ↦ elim (reg s 2 == 17) as (λ z. Result s (cond z (ended (Exited (reg s 4)) s) (ended (Exception 8 s.pc) s))) [
          | true ↦ λ e. absurd (some_none (Exited (reg s 4)) e)
          | false ↦ λ e. absurd (some_none (Exception 8 s.pc) e)
        ]
      ]
    ]

perform_after : (s : State) (a : Act) → (IsGoing a → ⊥) → Result s (perform a s)
perform_after s (Write d v) n = λ e. written_after s d v
perform_after s (Move d v) n = λ e. record { at = refl; text = refl; len = written_len s.regs d v; zero = written_zero s.regs d v; slot = refl; npc = refl }
perform_after s (Both h l) n = λ e. record { at = refl; text = refl; len = refl; zero = refl; slot = refl; npc = refl }
perform_after s (Load d a) n = load_after s d a
perform_after s (Store a v) n = store_after s a v
perform_after s (Go to) n = absurd (n tt)
perform_after s (Link to) n = absurd (n tt)
perform_after s Pass n = absurd (n tt)
perform_after s Service n = service_after s
perform_after s (Stop x) n = λ e. absurd (some_none x e)

ori_jump : (i : Instr) (n : ℕ) → is_jump i ≡ true → Ori 2 0 n ≡ i → ⊥
ori_jump i n h e = no_truth (ap (λ (j : Instr). is_jump j) e ∙ h)

module _ (text : List ℕ) (entry : ℕ) (fits : IsText text) (rules_hold : WellTyped text entry) where
  -- a state of which the word is known
  pub record Set_out (s : State) (i : Instr) : Type 0 where
    pub good : Good text entry s
    pub at : At text s.pc i
    pub does : planned s ≡ act i s
    pub going : s.end ≡ None
    pub placed : IsPlaced entry s

  -- a branch or a jump stands in no delay slot
  straight_of : (s : State) (i : Instr) → At text s.pc i → Way text entry s → is_jump i ≡ true → s.npc ≡ s.pc + 4
  straight_of s i h (plain_way z e n) j = e
  straight_of s i h (in_slot k x w v z e g) j = absurd ((rules_hold s.pc).hazard.jumps i h j (record { jump_at = k; instr = x; at = w; jumps = v; behind = e }))

  no_break_of : (s : State) (i : Instr) → At text s.pc i → ((code : ℕ) → i ≡ Break code → ⊥) → (code : ℕ) → At text s.pc (Break code) → ⊥
  no_break_of s i h n code k = n code (same_instr text s.pc i (Break code) h k)

  edge_at : (s : State) (i : Instr) → Good text entry s → At text s.pc i → ((code : ℕ) → i ≡ Break code → ⊥) → Edge text entry s.pc s.npc
  edge_at s i g h n = edge_of text entry s g.way (in_text text s.pc i h) (no_break_of s i h n)

  calm_of : (s : State) (i : Instr) → s.end ≡ None → planned s ≡ act i s → IsCalm (step s) → IsCalm (perform (act i s) s)
  calm_of s i e p c = subst IsCalm (done_step s i e p) c

  pub ready : (s : State) (i : Instr) → Set_out s i → Ready text entry s i
  ready s i o = record {
    same = o.good.same;
    at = o.at;
    edge = edge_at s i o.good o.at;
    straight = straight_of s i o.at o.good.way;
    placed = o.placed;
    calm = calm_of s i o.going o.does o.placed.calm;
    five = o.good.five;
  }

  edge_text : (a b : ℕ) → Edge text entry a b → InText text b
  edge_text a b (inl n) = (rules_hold a).inside b n
  edge_text a b (inr s) = start_text text entry rules_hold b s

  -- where a jump's way ends, no delay slot stands
  no_slot_by : (j b : ℕ) (x y n : ℕ) (i : Instr) → BranchAt text j x y n → b ≡ branch_goal j n → SkipOr text j → IsSlot text b → ⊥
  no_slot_by j b x y n i w e (skips code k) v =
      let g : b ≡ j + 12 = e ∙ (ap (λ (m : ℕ). branch_goal j m) (same_offset text j x y n k.x k.y 2 w k.branch) ∙ goal_two text j fits (in_text text j w.instr w.at)) in
      no_truth (ap (λ (z : Instr). is_jump z) (same_instr text (j + 8) (Break code) v.instr k.stop (subst (λ (p : ℕ). At text p v.instr) (back8 v.jump_at j (sym v.behind ∙ g)) v.at)) ∙ v.jumps)
    where
      back8 : (a j : ℕ) → a + 4 ≡ j + 12 → a ≡ j + 8
      back8 a j h = omega arith
  no_slot_by j b x y n i w e (skips_none m) v = slot_no_start text entry rules_hold b v (taken j n (fork_of text j x y n w m) e)

  same_back : (a b : ℕ) → a + 4 ≡ b + 4 → a ≡ b
  same_back a b h = omega arith

  same_back' : (a j p b : ℕ) → a + 4 ≡ b → b ≡ j + 8 → p ≡ j + 4 → a ≡ p
  same_back' a j p b h k l = omega arith

  -- a delay slot's jump would be this word
  no_jump_here : (s : State) (i : Instr) → At text s.pc i → is_jump i ≡ false → (v : IsSlot text s.npc) → v.jump_at ≡ s.pc → ⊥
  no_jump_here s i h n v e = no_truth (sym n ∙ (ap (λ (z : Instr). is_jump z) (same_instr text s.pc i v.instr h (subst (λ (p : ℕ). At text p v.instr) e v.at)) ∙ v.jumps))

  slot_behind_jump : (s : State) (i : Instr) → At text s.pc i → is_jump i ≡ false → (j : ℕ) (x : Instr) → At text j x → s.pc ≡ j + 4 → Going text entry j x s.npc → IsSlot text s.npc → ⊥
  slot_behind_jump s i h n j (Jr rs) w e g v = slot_no_start text entry rules_hold s.npc v g
  slot_behind_jump s i h n j (J t) w e g v = slot_no_start text entry rules_hold s.npc v (jumped j t w g)
  slot_behind_jump s i h n j (Jal t) w e g v = slot_no_start text entry rules_hold s.npc v (called j t w g)
  slot_behind_jump s i h n j (Beq x y m) w e (inl g) v = let b : BranchAt text j x y m = record { instr = Beq x y m; at = w; is = inl refl } in no_slot_by j s.npc x y m i b g (skip_or text j x y m b) v
  slot_behind_jump s i h n j (Beq x y m) w e (inr g) v = no_jump_here s i h n v (same_back' v.jump_at j s.pc s.npc (sym v.behind) g.1 e)
  slot_behind_jump s i h n j (Bne x y m) w e (inl g) v = let b : BranchAt text j x y m = record { instr = Bne x y m; at = w; is = inr refl } in no_slot_by j s.npc x y m i b g (skip_or text j x y m b) v
  slot_behind_jump s i h n j (Bne x y m) w e (inr g) v = no_jump_here s i h n v (same_back' v.jump_at j s.pc s.npc (sym v.behind) g.1 e)
  slot_behind_jump s i h n j _ w e g v = absurd g

  slot_after : (s : State) (i : Instr) → At text s.pc i → is_jump i ≡ false → Way text entry s → IsSlot text s.npc → ⊥
  slot_after s i h n (plain_way z e m) v = no_jump_here s i h n v (same_back v.jump_at s.pc (sym v.behind ∙ e))
  slot_after s i h n (in_slot j x w u z e g) v = slot_behind_jump s i h n j x w e g v

  -- the way of a step
  abbrev Onward : State → State → Type 0
  Onward s t = (Good text entry t × (t.pc ≡ s.npc)) ⊎ Doomed t

  -- the syscall of an input behind this word
  five_here : (s : State) (i : Instr) → At text s.pc i → Edge text entry s.pc s.npc → (c : ℕ) → InputAt text c → s.npc ≡ c + 4 → i ≡ Ori 2 0 5
  five_here s i h (inl n) c o e = same_instr text c i (Ori 2 0 5) (subst (λ (p : ℕ). At text p i) (five_source text entry fits rules_hold s.pc s.npc c n o e) h) o.chooses
  five_here s i h (inr n) c o e = absurd (five_no_start text entry fits rules_hold s.npc c o e n)

  -- where a jump or a branch goes
  jump_good : (s : State) (i : Instr) → Set_out s i → is_jump i ≡ true → ((code : ℕ) → i ≡ Break code → ⊥) → (l : List ℕ) → length l ≡ length s.regs → get_or l 0 0 ≡ get_or s.regs 0 0 → (to : ℕ) → Going text entry s.pc i to → Good text entry (record (moved s) { regs = l; npc = to; slot = true })
  jump_good s i o j n l e z to g = record {
    same = o.good.same;
    zero = z ∙ o.good.zero;
    len = e ∙ o.good.len;
    way = in_slot s.pc i o.at j refl (straight_of s i o.at o.good.way j) g;
    five = λ c p x. absurd (ori_jump i 5 j (sym (five_here s i o.at (edge_at s i o.good o.at n) c p x)));
  }

  passed_npc : (s : State) (i : Instr) → Set_out s i → is_jump i ≡ true → plus s.npc 4 ≡ s.pc + 8
  passed_npc s i o j =
      let t : InText text s.pc = in_text text s.pc i o.at in
      ap (λ (x : ℕ). plus x 4) (straight_of s i o.at o.good.way j ∙ sym (plus_four text s.pc fits t)) ∙ plus_eight text s.pc fits t

  doomed_here : (s : State) (i : Instr) → Set_out s i → is_jump i ≡ true → SkipsReport text s.pc → Doomed (record (moved s) { slot = true })
  doomed_here s i o j k = record {
    going = o.going;
    unloaded = refl;
    behind = subst (λ (l : List ℕ). Behind l s.npc (plus s.npc 4)) (sym o.good.same)
        (subst (λ (x : ℕ). Behind text s.npc x) (sym (passed_npc s i o j)) (subst (λ (x : ℕ). Behind text x (s.pc + 8)) (sym (straight_of s i o.at o.good.way j)) (behind_at text entry rules_hold s.pc k)));
  }

  beq_on : (s : State) (x y n : ℕ) (z : Bool) → Set_out s (Beq x y n) → Onward s (perform (branch z s n) s).0
  beq_on s x y n true o = inl (jump_good s (Beq x y n) o refl (λ c e. no_truth (sym (ap (λ (k : Instr). is_jump k) e))) s.regs refl refl (branch_goal s.pc n) (inl refl), refl)
  beq_on s x y n false o = elim (report_or text s.pc x y n (record { instr = Beq x y n; at = o.at; is = inl refl })) as (λ w. Onward s (perform (branch false s n) s).0) [
    | inl k ↦ inr (doomed_here s (Beq x y n) o refl k)
    | inr k ↦ inl (jump_good s (Beq x y n) o refl (λ c e. no_truth (sym (ap (λ (k : Instr). is_jump k) e))) s.regs refl refl (plus s.npc 4) (inr (k, passed_npc s (Beq x y n) o refl)), refl)
  ]

  bne_on : (s : State) (x y n : ℕ) (z : Bool) → Set_out s (Bne x y n) → Onward s (perform (branch z s n) s).0
  bne_on s x y n true o = inl (jump_good s (Bne x y n) o refl (λ c e. no_truth (sym (ap (λ (k : Instr). is_jump k) e))) s.regs refl refl (branch_goal s.pc n) (inl refl), refl)
  bne_on s x y n false o = elim (report_or text s.pc x y n (record { instr = Bne x y n; at = o.at; is = inr refl })) as (λ w. Onward s (perform (branch false s n) s).0) [
    | inl k ↦ inr (doomed_here s (Bne x y n) o refl k)
    | inr k ↦ inl (jump_good s (Bne x y n) o refl (λ c e. no_truth (sym (ap (λ (k : Instr). is_jump k) e))) s.regs refl refl (plus s.npc 4) (inr (k, passed_npc s (Bne x y n) o refl)), refl)
  ]

  -- a word that is no branch or jump
  two_set : (s : State) → Good text entry s → (i : Instr) → i ≡ Ori 2 0 5 → reg (perform (act i s) s).0 2 ≡ 5
  two_set s g i e = subst (λ (k : Instr). reg (perform (act k s) s).0 2 ≡ 5) (sym e) (written_two s.regs (bit_or (reg s 0) 5) g.len ∙ ap (λ (x : ℕ). bit_or x 5) g.zero)

  plain_on : (s : State) (i : Instr) → Set_out s i → is_jump i ≡ false → ((code : ℕ) → i ≡ Break code → ⊥) → After s (perform (act i s) s).0 → Good text entry (perform (act i s) s).0
  plain_on s i o j n a =
      let t : State = (perform (act i s) s).0 in
      let e : Edge text entry s.pc s.npc = edge_at s i o.good o.at n in
      record {
        same = a.text ∙ o.good.same;
        zero = a.zero ∙ o.good.zero;
        len = a.len ∙ o.good.len;
        way = plain_way a.slot (a.npc ∙ (plus_four text s.npc fits (edge_text s.pc s.npc e) ∙ ap (λ (x : ℕ). x + 4) (sym a.at))) (subst (λ (p : ℕ). IsSlot text p → ⊥) (sym a.at) (slot_after s i o.at j o.good.way));
        five = λ c p x. two_set s o.good i (five_here s i o.at e c p (sym a.at ∙ x));
      }

  no_going : (s : State) (i : Instr) → is_jump i ≡ false → IsGoing (act i s) → ⊥
  no_going s i j g = no_truth (sym j ∙ going_jumps i s g)

  plain_next : (s : State) (i : Instr) → Set_out s i → is_jump i ≡ false → ((code : ℕ) → i ≡ Break code → ⊥) → (perform (act i s) s).0.end ≡ None → Onward s (perform (act i s) s).0
  plain_next s i o j n e = let a : After s (perform (act i s) s).0 = perform_after s (act i s) (no_going s i j) e in inl (plain_on s i o j n a, a.at)

  -- a break is no other
  abbrev is_stop : Instr → Bool
  is_stop (Break code) = true
  is_stop _ = false

  not_stop : (i : Instr) → is_stop i ≡ false → (code : ℕ) → i ≡ Break code → ⊥
  not_stop i h code e = no_truth (sym h ∙ ap (λ (k : Instr). is_stop k) e)

  next_by : (s : State) (i : Instr) → Set_out s i → (perform (act i s) s).0.end ≡ None → Onward s (perform (act i s) s).0
  next_by s (Jr rs) o e = inl (jump_good s (Jr rs) o refl (not_stop (Jr rs) refl) s.regs refl refl (reg s rs) (subst (λ (l : List ℕ). IsStart l entry (reg s rs)) o.good.same (o.placed.returns rs (subst (λ (l : List ℕ). At l s.pc (Jr rs)) (sym o.good.same) o.at))), refl)
  next_by s (J t) o e = inl (jump_good s (J t) o refl (not_stop (J t) refl) s.regs refl refl (jump_goal s.pc t) refl, refl)
  next_by s (Jal t) o e = inl (jump_good s (Jal t) o refl (not_stop (Jal t) refl) (written s.regs 31 (plus s.pc 8)) (written_len s.regs 31 (plus s.pc 8)) (written_zero s.regs 31 (plus s.pc 8)) (jump_goal s.pc t) refl, refl)
  next_by s (Beq x y n) o e = beq_on s x y n (reg s x == reg s y) o
  next_by s (Bne x y n) o e = bne_on s x y n (not (reg s x == reg s y)) o
  next_by s (Break code) o e = absurd (some_none (break_end s.pc code) e)
  next_by s i o e = plain_next s i o refl (not_stop i refl) e

  -- where the step ends or not
  pub next_of : (s : State) → Good text entry s → s.end ≡ None → IsPlaced entry s → (step s).0.end ≡ None → Onward s (step s).0
  next_of s g e p n = next_plans s g e p n (plans s s.regs s.hi s.lo s.memory)
    where
      next_plans : (s : State) → Good text entry s → s.end ≡ None → IsPlaced entry s → (step s).0.end ≡ None → Plans s s → Onward s (step s).0
      next_plans s g e p n (does i h z a b) =
          let x : step s ≡ perform (act i s) s = done_step s i e a in
          let o : Set_out s i = record { good = g; at = subst (λ (l : List ℕ). At l s.pc i) g.same h; does = a; going = e; placed = p } in
          subst (λ (q : State × Option ℕ). Onward s q.0) (sym x) (next_by s i o (subst (λ (q : State × Option ℕ). q.0.end ≡ None) x n))
      next_plans s g e p n (stops x a b) = absurd (some_none x (sym (ap (λ (q : State × Option ℕ). q.0.end) (stop_step s x e a)) ∙ n))
