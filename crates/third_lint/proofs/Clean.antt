-- The run without a change goes by the ways of the words, and a vote finds three equal registers.
use Rattle.std.proofs.Common.{◌≡◌, ◌≢◌, ℕ, suc, ◌+◌, ◌*◌, ◌≤◌, ◌<◌, arith, ap, refl, sym, ◌∙◌, subst, List, length, get_or, false, true, Bool, inl, inr}
use Rattle.std.specs.Prelude.{Option, None, ◌⊎◌, ◌==◌, not, slice_set, bit_and, bit_or}
use Rattle.std.proofs.lemmas.Grind.{common_steps}
use Rattle.mips_isa.specs.declared.instr.Instr.{Instr}
use Rattle.mips_isa.specs.declared.instr.Instr.TheVariants.{Jr, Break, And, Or, J, Jal, Beq, Bne, Ori}
use Rattle.mips_isa.specs.Machine.{State, reg, act, step, planned, perform, plus, is_jump, written, branch, break_end}
use Rattle.mips_isa.specs.Locality.{IsGoing}
use Rattle.mips_faults.specs.Beside.{IsCalm}
use Rattle.mips_text.specs.Text.{IsText, InText, At, branch_goal, jump_goal}
use Rattle.mips_laws.proofs.Locality.{going_jumps}
use Rattle.third_lint.specs.Flow.{Next}
use Rattle.lint_lockstep.proofs.Fetch.{same_instr, Plans, does, stops, plans}
use Rattle.lint_lockstep.proofs.Sorts.{done_step, stop_step}
use Rattle.third_lint.proofs.Steps.{some_none}
use Rattle.third_lint.proofs.Places.{no_truth, in_text, plus_four, plus_eight}
use Rattle.third_lint.proofs.Steps.{written_len, written_zero, written_two, After, perform_after}
use Rattle.third_lint.specs.Votes.{Role, A, B, C, Of, VoteAt, InputAt}
use Rattle.third_lint.specs.Typing.{returned, input}
use Rattle.third_lint.specs.Rules.{WellTyped}
use Rattle.third_lint.specs.Theorems.{IsReturn, IsPlaced, IsAgreed}
use Rattle.third_lint.proofs.Majority.{and_self, or_self}
use Rattle.third_lint.proofs.Keeps.{Flow, onto, led, lands, before_vote, before_form, no_report, one_free, three_free, triple_a, triple_b, triple_c, at_move}
use Rattle.third_lint.proofs.Rows.{Ready, no_equal}

-- where a branch or a jump at j goes behind its delay slot
abbrev pub Going : List ℕ → (j : ℕ) → Instr → ℕ → Type 0
Going text j (Jr rs) b = IsReturn text b
Going text j (J t) b = b ≡ jump_goal j t
Going text j (Jal t) b = b ≡ jump_goal j t
Going text j (Beq x y n) b = (b ≡ branch_goal j n) ⊎ (b ≡ j + 8)
Going text j (Bne x y n) b = (b ≡ branch_goal j n) ⊎ (b ≡ j + 8)
Going text j _ b = ⊥

-- a state goes on to the word behind, or stands in a delay slot
pub data Way (text : List ℕ) (s : State) : Type 0 where
  plain_way : s.npc ≡ plus s.pc 4 → Way text s
  in_slot : (j : ℕ) → (i : Instr) → At text j i → is_jump i ≡ true → s.pc ≡ j + 4 → Going text j i s.npc → Way text s

-- the registers of a vote in the run without a change, where their words are equal; and $1 and $3
pub record Equal (s : State) (x y z : ℕ) : Type 0 where
  pub left : reg s x ≡ reg s y
  pub right : reg s y ≡ reg s z
  pub both : reg s 1 ≡ reg s y

pub record Voting (s : State) (v x y z : ℕ) : Type 0 where
  pub at_4 : s.pc ≡ v + 4 → Equal s x y z
  pub at_8 : s.pc ≡ v + 8 → Equal s x y z × (reg s 3 ≡ reg s y)
  pub at_12 : s.pc ≡ v + 12 → Equal s x y z × (reg s 3 ≡ reg s y)

-- what holds of each state of the run without a change
pub record Good (text : List ℕ) (s : State) : Type 0 where
  pub same : s.text ≡ text
  pub zero : reg s 0 ≡ 0
  pub len : length s.regs ≡ 32
  pub way : Way text s
  pub five : (c : ℕ) → InputAt text c → s.pc ≡ c + 4 → reg s 2 ≡ 5
  pub voting : (v x y z : ℕ) → VoteAt text v x y z → Voting s v x y z

-- lists of registers
pub put_self : (l : List ℕ) (r v : ℕ) → length l ≡ 32 → r < 32 → get_or (slice_set l r v) r 0 ≡ v
put_self l r v h k = grind (arith, common_steps)

pub put_other : (l : List ℕ) (r v q : ℕ) → q ≢ r → get_or (slice_set l r v) q 0 ≡ get_or l q 0
put_other l r v q n = grind (arith, common_steps)

pub apart_of : (X : Role) (q n : ℕ) → Of X q → (Of X n → ⊥) → q ≢ n
apart_of X q n o f e = f (subst (Of X) e o)

one_small : 1 < 32
one_small = omega arith

three_small : 3 < 32
three_small = omega arith

-- what a step leaves alone
record Same (s t : State) : Type 0 where
  pub at : t.pc ≡ s.npc
  pub text : t.text ≡ s.text
  pub len : length t.regs ≡ length s.regs
  pub zero : get_or t.regs 0 0 ≡ get_or s.regs 0 0

branch_same : (s : State) (n : ℕ) (z : Bool) → Same s (perform (branch z s n) s).0
branch_same s n true = record { at = refl; text = refl; len = refl; zero = refl }
branch_same s n false = record { at = refl; text = refl; len = refl; zero = refl }

no_going : (s : State) (i : Instr) → is_jump i ≡ false → IsGoing (act i s) → ⊥
no_going s i j g = no_truth (sym j ∙ going_jumps i s g)

after_of : (s : State) (i : Instr) → is_jump i ≡ false → (perform (act i s) s).0.end ≡ None → After s (perform (act i s) s).0
after_of s i j e = perform_after s (act i s) (no_going s i j) e

same_by : (s t : State) → After s t → Same s t
same_by s t a = record { at = a.at; text = a.text; len = a.len; zero = a.zero }

same_next : (s : State) (i : Instr) → (perform (act i s) s).0.end ≡ None → Same s (perform (act i s) s).0
same_next s (Jr rs) e = record { at = refl; text = refl; len = refl; zero = refl }
same_next s (J t) e = record { at = refl; text = refl; len = refl; zero = refl }
same_next s (Jal t) e = record { at = refl; text = refl; len = written_len s.regs 31 (plus s.pc 8); zero = written_zero s.regs 31 (plus s.pc 8) }
same_next s (Beq x y n) e = branch_same s n (reg s x == reg s y)
same_next s (Bne x y n) e = branch_same s n (not (reg s x == reg s y))
same_next s (Break code) e = absurd (some_none (break_end s.pc code) e)
same_next s i e = same_by s (perform (act i s) s).0 (after_of s i refl e)

pub no_stop : (s : State) (i : Instr) → (perform (act i s) s).0.end ≡ None → (code : ℕ) → i ≡ Break code → ⊥
no_stop s i e code h = some_none (break_end s.pc code) (subst (λ (j : Instr). (perform (act j s) s).0.end ≡ None) h e)

ori_regs : (s : State) (i : Instr) → i ≡ Ori 2 0 5 → (perform (act i s) s).0.regs ≡ slice_set s.regs 2 (bit_or (reg s 0) 5)
ori_regs s i e = ap (λ (j : Instr). (perform (act j s) s).0.regs) e

pub and_regs : (s : State) (i : Instr) (d p q : ℕ) → i ≡ And d p q → (perform (act i s) s).0.regs ≡ written s.regs d (bit_and (reg s p) (reg s q))
and_regs s i d p q e = ap (λ (j : Instr). (perform (act j s) s).0.regs) e

pub or_regs : (s : State) (i : Instr) (d p q : ℕ) → i ≡ Or d p q → (perform (act i s) s).0.regs ≡ written s.regs d (bit_or (reg s p) (reg s q))
or_regs s i d p q e = ap (λ (j : Instr). (perform (act j s) s).0.regs) e

five_at : (l : List ℕ) → length l ≡ 32 → get_or l 0 0 ≡ 0 → get_or (slice_set l 2 (bit_or (get_or l 0 0) 5)) 2 0 ≡ 5
five_at l h z = written_two l (bit_or (get_or l 0 0) 5) h ∙ ap (λ (x : ℕ). bit_or x 5) z

-- equal words stay so where another register is written
equal_put : (s t : State) (r w x y z : ℕ) → t.regs ≡ slice_set s.regs r w → x ≢ r → y ≢ r → z ≢ r → (reg s x ≡ reg s y) × (reg s y ≡ reg s z) → (reg t x ≡ reg s x) × (reg t y ≡ reg s y) × (reg t z ≡ reg s z)
equal_put s t r w x y z e n m k h = (ap (λ (l : List ℕ). get_or l x 0) e ∙ put_other s.regs r w x n, ap (λ (l : List ℕ). get_or l y 0) e ∙ put_other s.regs r w y m, ap (λ (l : List ℕ). get_or l z 0) e ∙ put_other s.regs r w z k)

both_equal : (x y : ℕ) → x ≡ y → bit_and x y ≡ y
both_equal x y e = ap (λ (w : ℕ). bit_and w y) e ∙ and_self y

either_equal : (x y : ℕ) → x ≡ y → bit_or x y ≡ y
either_equal x y e = ap (λ (w : ℕ). bit_or w y) e ∙ or_self y

back_by : (a b c n : ℕ) → a + 4 ≡ b → b ≡ c + (n + 4) → a ≡ c + n
back_by a b c n h k = omega arith

module _ (text : List ℕ) (entry : ℕ) (fits : IsText text) (rules_hold : WellTyped text entry) where
  -- a state of which the word is known
  pub record Set_out (s : State) (i : Instr) : Type 0 where
    pub good : Good text s
    pub at : At text s.pc i
    pub going : s.end ≡ None
    pub does : planned s ≡ act i s
    pub placed : IsPlaced s
    pub agreed : IsAgreed s

  goes_flow : (j a b : ℕ) (i : Instr) → At text j i → InText text a → a ≡ j + 4 → Going text j i b → Flow text entry a b
  goes_flow j a b (Jr rs) h t e g = lands (returned g.jal_at g.target g.jal g.behind)
  goes_flow j a b (J k) h t e g = led (Next.jumped j k t h e g)
  goes_flow j a b (Jal k) h t e g = led (Next.called j k t h e g)
  goes_flow j a b (Beq x y n) h t e (inl g) = led (Next.taken j x y n t (record { instr = Beq x y n; at = h; is = inl refl }) e g)
  goes_flow j a b (Beq x y n) h t e (inr g) = led (Next.passed j x y n t (record { instr = Beq x y n; at = h; is = inl refl }) (no_report text entry fits rules_hold j) e g)
  goes_flow j a b (Bne x y n) h t e (inl g) = led (Next.taken j x y n t (record { instr = Bne x y n; at = h; is = inr refl }) e g)
  goes_flow j a b (Bne x y n) h t e (inr g) = led (Next.passed j x y n t (record { instr = Bne x y n; at = h; is = inr refl }) (no_report text entry fits rules_hold j) e g)
  goes_flow j a b _ h t e g = absurd g

  pub flow_at : (s : State) (i : Instr) → At text s.pc i → Way text s → Flow text entry s.pc s.npc
  flow_at s i h (plain_way e) = onto (e ∙ plus_four text s.pc fits (in_text text s.pc i h))
  flow_at s i h (in_slot j x w u e g) = goes_flow j s.pc s.npc x w (in_text text s.pc i h) e g

  straight_of : (s : State) (i : Instr) → At text s.pc i → Way text s → is_jump i ≡ true → s.npc ≡ s.pc + 4
  straight_of s i h (plain_way e) j = e ∙ plus_four text s.pc fits (in_text text s.pc i h)
  straight_of s i h (in_slot k x w v e g) j = absurd ((rules_hold s.pc).hazard.jumps i h j (record { jump_at = k; instr = x; at = w; jumps = v; behind = e }))

  pub ready : (s : State) (i : Instr) → Set_out s i → Ready text entry s i
  ready s i o = record {
    same = o.good.same;
    at = o.at;
    flow = λ n. flow_at s i o.at o.good.way;
    placed = o.placed;
    calm = subst IsCalm (done_step s i o.going o.does) o.placed.calm;
    five = o.good.five;
  }

  -- where a vote's next word comes next, its word stands here
  pub vote_here : (s : State) (i : Instr) → At text s.pc i → Way text s → (v x y z n : ℕ) → VoteAt text v x y z → n ≤ 4 → s.npc ≡ v + 4 * suc n → s.pc + 4 ≡ s.npc
  vote_here s i h w v x y z n o l e = before_vote text entry fits rules_hold s.pc s.npc v x y z n (flow_at s i h w) o l e

  pub vote_0 : (s : State) (i : Instr) → At text s.pc i → Way text s → (v x y z : ℕ) → VoteAt text v x y z → s.npc ≡ v + 4 → (s.pc ≡ v) × (i ≡ And 1 x y)
  vote_0 s i h w v x y z o e =
      let k : s.pc ≡ v = back_by s.pc s.npc v 0 (vote_here s i h w v x y z 0 o (omega arith) e) e ∙ omega arith in
      (k, same_instr text s.pc i (And 1 x y) h (at_move text s.pc v (And 1 x y) k o.both))

  pub vote_4 : (s : State) (i : Instr) → At text s.pc i → Way text s → (v x y z : ℕ) → VoteAt text v x y z → s.npc ≡ v + 8 → (s.pc ≡ v + 4) × (i ≡ Or 3 x y)
  vote_4 s i h w v x y z o e =
      let k : s.pc ≡ v + 4 = back_by s.pc s.npc v 4 (vote_here s i h w v x y z 1 o (omega arith) e) e in
      (k, same_instr text s.pc i (Or 3 x y) h (at_move text s.pc (v + 4) (Or 3 x y) k o.either))

  pub vote_8 : (s : State) (i : Instr) → At text s.pc i → Way text s → (v x y z : ℕ) → VoteAt text v x y z → s.npc ≡ v + 12 → (s.pc ≡ v + 8) × (i ≡ And 3 3 z)
  vote_8 s i h w v x y z o e =
      let k : s.pc ≡ v + 8 = back_by s.pc s.npc v 8 (vote_here s i h w v x y z 2 o (omega arith) e) e in
      (k, same_instr text s.pc i (And 3 3 z) h (at_move text s.pc (v + 8) (And 3 3 z) k o.other))

  -- a vote's registers behind its first words
  after_0 : (s t : State) (v x y z : ℕ) → VoteAt text v x y z → length s.regs ≡ 32 → (reg s x ≡ reg s y) × (reg s y ≡ reg s z) → t.regs ≡ slice_set s.regs 1 (bit_and (reg s x) (reg s y)) → Equal t x y z
  after_0 s t v x y z o l h e =
      let k : (reg t x ≡ reg s x) × (reg t y ≡ reg s y) × (reg t z ≡ reg s z) = equal_put s t 1 (bit_and (reg s x) (reg s y)) x y z e (apart_of A x 1 (triple_a x y z o.triple) (one_free A)) (apart_of B y 1 (triple_b x y z o.triple) (one_free B)) (apart_of C z 1 (triple_c x y z o.triple) (one_free C)) h in
      record { left = k.0 ∙ (h.0 ∙ sym k.1); right = k.1 ∙ (h.1 ∙ sym k.2); both = ap (λ (l : List ℕ). get_or l 1 0) e ∙ (put_self s.regs 1 (bit_and (reg s x) (reg s y)) l one_small ∙ (both_equal (reg s x) (reg s y) h.0 ∙ sym k.1)) }

  after_3 : (s t : State) (v x y z w : ℕ) → VoteAt text v x y z → length s.regs ≡ 32 → Equal s x y z → w ≡ reg s y → t.regs ≡ slice_set s.regs 3 w → Equal t x y z × (reg t 3 ≡ reg t y)
  after_3 s t v x y z w o l h m e =
      let k : (reg t x ≡ reg s x) × (reg t y ≡ reg s y) × (reg t z ≡ reg s z) = equal_put s t 3 w x y z e (apart_of A x 3 (triple_a x y z o.triple) (three_free A)) (apart_of B y 3 (triple_b x y z o.triple) (three_free B)) (apart_of C z 3 (triple_c x y z o.triple) (three_free C)) (h.left, h.right) in
      (record { left = k.0 ∙ (h.left ∙ sym k.1); right = k.1 ∙ (h.right ∙ sym k.2); both = ap (λ (l : List ℕ). get_or l 1 0) e ∙ (put_other s.regs 3 w 1 (λ d. no_equal 1 3 refl d) ∙ (h.both ∙ sym k.1)) }, ap (λ (l : List ℕ). get_or l 3 0) e ∙ (put_self s.regs 3 w l three_small ∙ (m ∙ sym k.1)))

  voting_next : (s : State) (i : Instr) → Set_out s i → (t : State) → t.pc ≡ s.npc → t.regs ≡ (perform (act i s) s).0.regs → (v x y z : ℕ) → VoteAt text v x y z → Voting t v x y z
  voting_next s i o t p r v x y z w = record {
    at_4 = λ e.
        let k : (s.pc ≡ v) × (i ≡ And 1 x y) = vote_0 s i o.at o.good.way v x y z w (sym p ∙ e) in
        let g : (reg s x ≡ reg s y) × (reg s y ≡ reg s z) = o.agreed x y z (subst (λ (l : List ℕ). VoteAt l s.pc x y z) (sym o.good.same) (subst (λ (a : ℕ). VoteAt text a x y z) (sym k.0) w)) in
        after_0 s t v x y z w o.good.len g (r ∙ and_regs s i 1 x y k.1);
    at_8 = λ e.
        let k : (s.pc ≡ v + 4) × (i ≡ Or 3 x y) = vote_4 s i o.at o.good.way v x y z w (sym p ∙ e) in
        let g : Equal s x y z = (o.good.voting v x y z w).at_4 k.0 in
        after_3 s t v x y z (bit_or (reg s x) (reg s y)) w o.good.len g (either_equal (reg s x) (reg s y) g.left) (r ∙ or_regs s i 3 x y k.1);
    at_12 = λ e.
        let k : (s.pc ≡ v + 8) × (i ≡ And 3 3 z) = vote_8 s i o.at o.good.way v x y z w (sym p ∙ e) in
        let g : Equal s x y z × (reg s 3 ≡ reg s y) = (o.good.voting v x y z w).at_8 k.0 in
        after_3 s t v x y z (bit_and (reg s 3) (reg s z)) w o.good.len g.0 (both_equal (reg s 3) (reg s z) (g.1 ∙ g.0.right) ∙ sym g.0.right) (r ∙ and_regs s i 3 3 z k.1);
  }

  five_next : (s : State) (i : Instr) → Set_out s i → (t : State) → t.pc ≡ s.npc → t.regs ≡ (perform (act i s) s).0.regs → (c : ℕ) → InputAt text c → t.pc ≡ c + 4 → reg t 2 ≡ 5
  five_next s i o t p r c w e =
      let k : s.pc ≡ c = back_by s.pc s.npc c 0 (before_form text entry fits rules_hold s.pc s.npc 0 (flow_at s i o.at o.good.way) (input c w (omega arith) (sym p ∙ e))) (sym p ∙ e) ∙ omega arith in
      let j : i ≡ Ori 2 0 5 = same_instr text s.pc i (Ori 2 0 5) o.at (at_move text s.pc c (Ori 2 0 5) k w.chooses) in
      ap (λ (l : List ℕ). get_or l 2 0) (r ∙ ori_regs s i j) ∙ five_at s.regs o.good.len o.good.zero

  -- the way behind a step
  passed_npc : (s : State) (i : Instr) → Set_out s i → is_jump i ≡ true → plus s.npc 4 ≡ s.pc + 8
  passed_npc s i o j =
      let t : InText text s.pc = in_text text s.pc i o.at in
      ap (λ (x : ℕ). plus x 4) (straight_of s i o.at o.good.way j ∙ sym (plus_four text s.pc fits t)) ∙ plus_eight text s.pc fits t

  beq_way : (s : State) (x y n : ℕ) → Set_out s (Beq x y n) → (z : Bool) → Way text (perform (branch z s n) s).0
  beq_way s x y n o true = in_slot s.pc (Beq x y n) o.at refl (straight_of s (Beq x y n) o.at o.good.way refl) (inl refl)
  beq_way s x y n o false = in_slot s.pc (Beq x y n) o.at refl (straight_of s (Beq x y n) o.at o.good.way refl) (inr (passed_npc s (Beq x y n) o refl))

  bne_way : (s : State) (x y n : ℕ) → Set_out s (Bne x y n) → (z : Bool) → Way text (perform (branch z s n) s).0
  bne_way s x y n o true = in_slot s.pc (Bne x y n) o.at refl (straight_of s (Bne x y n) o.at o.good.way refl) (inl refl)
  bne_way s x y n o false = in_slot s.pc (Bne x y n) o.at refl (straight_of s (Bne x y n) o.at o.good.way refl) (inr (passed_npc s (Bne x y n) o refl))

  plain_after : (s t : State) → After s t → Way text t
  plain_after s t a = plain_way (a.npc ∙ ap (λ (x : ℕ). plus x 4) (sym a.at))

  way_next : (s : State) (i : Instr) → Set_out s i → (perform (act i s) s).0.end ≡ None → Way text (perform (act i s) s).0
  way_next s (Jr rs) o e = in_slot s.pc (Jr rs) o.at refl (straight_of s (Jr rs) o.at o.good.way refl) (subst (λ (l : List ℕ). IsReturn l (reg s rs)) o.good.same (o.placed.returns rs (subst (λ (l : List ℕ). At l s.pc (Jr rs)) (sym o.good.same) o.at)))
  way_next s (J t) o e = in_slot s.pc (J t) o.at refl (straight_of s (J t) o.at o.good.way refl) refl
  way_next s (Jal t) o e = in_slot s.pc (Jal t) o.at refl (straight_of s (Jal t) o.at o.good.way refl) refl
  way_next s (Beq x y n) o e = beq_way s x y n o (reg s x == reg s y)
  way_next s (Bne x y n) o e = bne_way s x y n o (not (reg s x == reg s y))
  way_next s (Break code) o e = absurd (some_none (break_end s.pc code) e)
  way_next s i o e = plain_after s (perform (act i s) s).0 (after_of s i refl e)

  pub next_by : (s : State) (i : Instr) → Set_out s i → (perform (act i s) s).0.end ≡ None → Good text (perform (act i s) s).0 × ((perform (act i s) s).0.pc ≡ s.npc)
  next_by s i o e =
      let t : State = (perform (act i s) s).0 in
      let a : Same s t = same_next s i e in
      (record { same = a.text ∙ o.good.same; zero = a.zero ∙ o.good.zero; len = a.len ∙ o.good.len; way = way_next s i o e; five = five_next s i o t a.at refl; voting = voting_next s i o t a.at refl }, a.at)

  next_plans : (s : State) → Good text s → s.end ≡ None → IsPlaced s → IsAgreed s → (step s).0.end ≡ None → Plans s s → Good text (step s).0 × ((step s).0.pc ≡ s.npc)
  next_plans s g e p q n (does i h z a b) =
      let x : step s ≡ perform (act i s) s = done_step s i e a in
      let o : Set_out s i = record { good = g; at = subst (λ (l : List ℕ). At l s.pc i) g.same h; going = e; does = a; placed = p; agreed = q } in
      subst (λ (q : State × Option ℕ). Good text q.0 × (q.0.pc ≡ s.npc)) (sym x) (next_by s i o (subst (λ (q : State × Option ℕ). q.0.end ≡ None) x n))
  next_plans s g e p q n (stops x a b) = absurd (some_none x (sym (ap (λ (q : State × Option ℕ). q.0.end) (stop_step s x e a)) ∙ n))

  -- where the step does not end
  pub next_of : (s : State) → Good text s → s.end ≡ None → IsPlaced s → IsAgreed s → (step s).0.end ≡ None → Good text (step s).0 × ((step s).0.pc ≡ s.npc)
  next_of s g e p q n = next_plans s g e p q n (plans s s.regs s.hi s.lo s.memory)
