-- A word put in any place that is no window is masked.
use Rattle.std.proofs.Common.{◌≡◌, ◌≢◌, ℕ, suc, ◌+◌, ◌*◌, ◌%◌, ◌^◌, ◌≤◌, ◌<◌, arith, rules, ap, refl, sym, ◌∙◌, subst, List, length, get_or, replicate, false, true, cond, inl, inr}
use Rattle.std.specs.Prelude.{Option, Some, None, ◌⊎◌, ◌==◌, ◌&&◌, is_none, slice_set, bit_and, bit_or, bit_xor}
use Rattle.hard_words.specs.declared.ChangeKind.TheVariants.{Set}
use Rattle.hard_words.specs.declared.SetPlace.{SetPlace}
use Rattle.hard_words.specs.declared.SetPlace.TheVariants.{Reg, Hi, Lo, Memory}
use Rattle.mips_isa.specs.declared.instr.Instr.{Instr}
use Rattle.mips_isa.specs.declared.instr.Instr.TheVariants.{And, Or, Addu}
use Rattle.mips_isa.specs.declared.instr.Act.{Act}
use Rattle.mips_isa.specs.declared.instr.Act.TheVariants.{Write, Service, Stop}
use Rattle.mips_isa.specs.declared.instr.End.{End}
use Rattle.mips_isa.specs.declared.instr.End.TheVariants.{Exception}
use Rattle.mips_isa.specs.Machine.{State, reg, act, step, perform, plus, place, text_place, in_memory, written}
use Rattle.mips_isa.specs.Runs.{Ran, run, with_word, replaced}
use Rattle.mips_isa.specs.Image.{ImageFields, boot_state}
use Rattle.mips_faults.specs.Beside.{with_parts, SameKept, Beside, Outcome, on, over, IsCalm}
use Rattle.mips_text.specs.Text.{IsText, InText, At}
use Rattle.mips_faults.specs.Faults.{Unseen, IsSet, image_run}
use Rattle.mips_laws.proofs.Beside.{Twice, perform_same}
use Rattle.mips_laws.proofs.Runs.{flip_is_set}
use Rattle.lint_lockstep.proofs.Fetch.{same_instr, Plans, does, stops, plans}
use Rattle.lint_lockstep.proofs.Sorts.{done_step, stop_step}
use Rattle.third_lint.proofs.Acts.{alike_step, wrong_step, aside_step, takes_step, halts_step}
use Rattle.third_lint.proofs.Steps.{some_none}
use Rattle.third_lint.proofs.Going.{replaced_beside}
use Rattle.lint_lockstep.specs.Law.{FreeAt}
use Rattle.third_lint.proofs.Places.{in_text_or, place_back}
use Rattle.third_lint.specs.declared.ThirdRow.{ThirdRow}
use Rattle.third_lint.specs.Votes.{Role, A, B, C, role_of, Of, VoteAt, InputAt, NearThird, settled, both_bits, other_bits, awaiting, service, result}
use Rattle.third_lint.specs.Typing.{ProductsOf, IsProductOf, IsLanding, input}
use Rattle.third_lint.specs.Rules.{WellTyped}
use Rattle.third_lint.specs.Rows.{Typed, AreRows, IsRow, row_at, Produces, nobody, by_a, by_b, by_c}
use Rattle.third_lint.specs.Theorems.{IsPlaced, IsAgreed, Fails, Failed, IsFree, IsMasked, MasksFlips, MasksSets, MasksSetsWithin, PlacedThirdFor, AgreedFor}
use Rattle.third_lint.proofs.Going.{Goes, both, Guide, shown}
use Rattle.third_lint.proofs.Majority.{or_self, cut_right, cut_left, first_wrong, second_wrong, third_wrong}
use Rattle.third_lint.proofs.Keeps.{Keeps, zero_kept, other, voted, due, Due, serving, first, second, last, Halves, one_role, none_role, role_or, zero_free, one_free, two_free, three_free, triple_a, triple_b, triple_c, a_b, a_c, b_c}
use Rattle.third_lint.proofs.Rows.{Ready, Sort, alike, wrong, feeds, aside, halts, majority, Majority, Held, lane, lane_free, sort_of, no_equal}
use Rattle.third_lint.proofs.Clean.{Good, plain_way, Equal, Set_out, ready, next_by, next_of, vote_0, vote_4, vote_8, and_regs, or_regs, put_self, put_other, apart_of}

-- the bits of a vote in the run with a change: with the rest of the vote they give the clean value c
abbrev Bits4 : List ℕ → (x y z c : ℕ) → Type 0
Bits4 l x y z c = bit_or (get_or l 1 0) (bit_and (bit_or (get_or l x 0) (get_or l y 0)) (get_or l z 0)) ≡ c

abbrev Bits8 : List ℕ → (z c : ℕ) → Type 0
Bits8 l z c = bit_or (get_or l 1 0) (bit_and (get_or l 3 0) (get_or l z 0)) ≡ c

abbrev Bits12 : List ℕ → (c : ℕ) → Type 0
Bits12 l c = bit_or (get_or l 1 0) (get_or l 3 0) ≡ c

pub record Bits (s t : State) (v x y z : ℕ) : Type 0 where
  pub at_4 : s.pc ≡ v + 4 → Bits4 t.regs x y z (reg s y)
  pub at_8 : s.pc ≡ v + 8 → Bits8 t.regs z (reg s y)
  pub at_12 : s.pc ≡ v + 12 → Bits12 t.regs (reg s y)

-- two of three words are right
maj_a : (x y z c : ℕ) → y ≡ c → z ≡ c → bit_or (bit_and x y) (bit_and (bit_or x y) z) ≡ c
maj_a x y z c e f = rw (e, f) (first_wrong x c)

maj_b : (x y z c : ℕ) → x ≡ c → z ≡ c → bit_or (bit_and x y) (bit_and (bit_or x y) z) ≡ c
maj_b x y z c e f = rw (e, f) (second_wrong y c)

maj_c : (x y z c : ℕ) → x ≡ c → y ≡ c → bit_or (bit_and x y) (bit_and (bit_or x y) z) ≡ c
maj_c x y z c e f = rw (e, f) (third_wrong z c)

cut_z : (o w z c : ℕ) → o ≡ c → z ≡ c → bit_or o (bit_and w z) ≡ c
cut_z o w z c e f = rw (e, f) (cut_right c w)

cut_w : (o w z c : ℕ) → o ≡ c → w ≡ c → bit_or o (bit_and w z) ≡ c
cut_w o w z c e f = rw (e, f) (cut_left c z)

or_equal : (o w c : ℕ) → o ≡ c → w ≡ c → bit_or o w ≡ c
or_equal o w c e f = rw (e, f) (or_self c)

one_small : 1 < 32
one_small = omega arith

three_small : 3 < 32
three_small = omega arith

-- lists of registers with one other word
put_bits_0 : (l m : List ℕ) (x y z c : ℕ) → length l ≡ 32 → m ≡ slice_set l 1 (bit_and (get_or l x 0) (get_or l y 0)) → x ≢ 1 → y ≢ 1 → z ≢ 1 → bit_or (bit_and (get_or l x 0) (get_or l y 0)) (bit_and (bit_or (get_or l x 0) (get_or l y 0)) (get_or l z 0)) ≡ c → Bits4 m x y z c
put_bits_0 l m x y z c n e a b d h =
    let w : ℕ = bit_and (get_or l x 0) (get_or l y 0) in
    subst (λ (k : List ℕ). Bits4 k x y z c) (sym e)
    (rw (put_self l 1 w n one_small, put_other l 1 w x a, put_other l 1 w y b, put_other l 1 w z d) h)

put_bits_4 : (l m : List ℕ) (x y z c : ℕ) → length l ≡ 32 → m ≡ slice_set l 3 (bit_or (get_or l x 0) (get_or l y 0)) → z ≢ 3 → Bits4 l x y z c → Bits8 m z c
put_bits_4 l m x y z c n e d h =
    let w : ℕ = bit_or (get_or l x 0) (get_or l y 0) in
    subst (λ (k : List ℕ). Bits8 k z c) (sym e)
    (rw (put_other l 3 w 1 (λ q. no_equal 1 3 refl q), put_self l 3 w n three_small, put_other l 3 w z d) h)

put_bits_8 : (l m : List ℕ) (z c : ℕ) → length l ≡ 32 → m ≡ slice_set l 3 (bit_and (get_or l 3 0) (get_or l z 0)) → Bits8 l z c → Bits12 m c
put_bits_8 l m z c n e h =
    let w : ℕ = bit_and (get_or l 3 0) (get_or l z 0) in
    subst (λ (k : List ℕ). Bits12 k c) (sym e)
    (rw (put_other l 3 w 1 (λ q. no_equal 1 3 refl q), put_self l 3 w n three_small) h)

-- the stream of a register, or none
role_case_by : (r : ℕ) (o : Option Role) → role_of r ≡ o → ((X : Role) × Of X r) ⊎ (role_of r ≡ None)
role_case_by r None e = inr e
role_case_by r (Some X) e = inl (X, e)

role_case : (r : ℕ) → ((X : Role) × Of X r) ⊎ (role_of r ≡ None)
role_case r = role_case_by r (role_of r) refl

module _ (text : List ℕ) (entry : ℕ) (fits_text : IsText text) (rules_hold : WellTyped text entry) (W : Role) where
  abbrev K : ℕ → ℕ → Type 0
  K a q = Keeps text entry W a q

  abbrev H : ℕ → Type 0
  H a = Halves text entry W a

  -- one of three streams may be wrong, and the bits of a vote give the clean value
  pub record Rel (s t : State) : Type 0 where
    pub beside : Beside (K s.pc) (H s.pc) (Held W) s t
    pub bits : (v x y z : ℕ) → VoteAt text v x y z → Bits s t v x y z

  -- two registers of a vote are right
  majority_right : (s : State) (l : List ℕ) (x y z : ℕ) (v : ℕ) → VoteAt text v x y z → SameKept (K s.pc) s.regs l → reg s x ≡ reg s y → reg s y ≡ reg s z → bit_or (bit_and (get_or l x 0) (get_or l y 0)) (bit_and (bit_or (get_or l x 0) (get_or l y 0)) (get_or l z 0)) ≡ reg s y
  majority_right s l x y z v o k e f =
      let kx : (A ≡ W → ⊥) → get_or l x 0 ≡ reg s y = λ n. sym (k.same x (other A (triple_a x y z o.triple) n)) ∙ e in
      let ky : (B ≡ W → ⊥) → get_or l y 0 ≡ reg s y = λ n. sym (k.same y (other B (triple_b x y z o.triple) n)) in
      let kz : (C ≡ W → ⊥) → get_or l z 0 ≡ reg s y = λ n. sym (k.same z (other C (triple_c x y z o.triple) n)) ∙ sym f in
      elim (role_or A W) as (λ w. bit_or (bit_and (get_or l x 0) (get_or l y 0)) (bit_and (bit_or (get_or l x 0) (get_or l y 0)) (get_or l z 0)) ≡ reg s y) [
        | inl a ↦ maj_a _ _ _ _ (ky (λ b. a_b (a ∙ sym b))) (kz (λ c. a_c (a ∙ sym c)))
        | inr a ↦ elim (role_or B W) as (λ w. bit_or (bit_and (get_or l x 0) (get_or l y 0)) (bit_and (bit_or (get_or l x 0) (get_or l y 0)) (get_or l z 0)) ≡ reg s y) [
          | inl b ↦ maj_b _ _ _ _ (kx a) (kz (λ c. b_c (b ∙ sym c)))
          | inr b ↦ maj_c _ _ _ _ (kx a) (ky b)
        ]
      ]

  -- the bits of a vote behind a step
  bits_next : (s : State) (i : Instr) → Set_out text entry fits_text rules_hold s i → (t : State) → length t.regs ≡ 32 → SameKept (K s.pc) s.regs t.regs → ((v x y z : ℕ) → VoteAt text v x y z → Bits s t v x y z) → (p q : State) → p.pc ≡ s.npc → p.regs ≡ (perform (act i s) s).0.regs → q.regs ≡ (perform (act i t) t).0.regs → (v x y z : ℕ) → VoteAt text v x y z → Bits p q v x y z
  bits_next s i o t n k b p q at rp rq v x y z w =
      let ny : (d u : ℕ) → y ≢ d → p.regs ≡ slice_set s.regs d u → reg s y ≡ reg p y = λ d u m e. sym (ap (λ (l : List ℕ). get_or l y 0) e ∙ put_other s.regs d u y m) in
      let y1 : y ≢ 1 = apart_of B y 1 (triple_b x y z w.triple) (one_free B) in
      let y3 : y ≢ 3 = apart_of B y 3 (triple_b x y z w.triple) (three_free B) in
      let z3 : z ≢ 3 = apart_of C z 3 (triple_c x y z w.triple) (three_free C) in
      record {
        at_4 = λ e.
            let h : (s.pc ≡ v) × (i ≡ And 1 x y) = vote_0 text entry fits_text rules_hold s i o.at o.good.way v x y z w (sym at ∙ e) in
            let g : (reg s x ≡ reg s y) × (reg s y ≡ reg s z) = o.agreed x y z (subst (λ (l : List ℕ). VoteAt l s.pc x y z) (sym o.good.same) (subst (λ (a : ℕ). VoteAt text a x y z) (sym h.0) w)) in
            subst (λ (c : ℕ). Bits4 q.regs x y z c) (ny 1 (bit_and (reg s x) (reg s y)) y1 (rp ∙ and_regs s i 1 x y h.1))
            (put_bits_0 t.regs q.regs x y z (reg s y) n (rq ∙ and_regs t i 1 x y h.1) (apart_of A x 1 (triple_a x y z w.triple) (one_free A)) y1 (apart_of C z 1 (triple_c x y z w.triple) (one_free C)) (majority_right s t.regs x y z v w k g.0 g.1));
        at_8 = λ e.
            let h : (s.pc ≡ v + 4) × (i ≡ Or 3 x y) = vote_4 text entry fits_text rules_hold s i o.at o.good.way v x y z w (sym at ∙ e) in
            subst (λ (c : ℕ). Bits8 q.regs z c) (ny 3 (bit_or (reg s x) (reg s y)) y3 (rp ∙ or_regs s i 3 x y h.1))
            (put_bits_4 t.regs q.regs x y z (reg s y) n (rq ∙ or_regs t i 3 x y h.1) z3 ((b v x y z w).at_4 h.0));
        at_12 = λ e.
            let h : (s.pc ≡ v + 8) × (i ≡ And 3 3 z) = vote_8 text entry fits_text rules_hold s i o.at o.good.way v x y z w (sym at ∙ e) in
            subst (λ (c : ℕ). Bits12 q.regs c) (ny 3 (bit_and (reg s 3) (reg s z)) y3 (rp ∙ and_regs s i 3 3 z h.1))
            (put_bits_8 t.regs q.regs z (reg s y) n (rq ∙ and_regs t i 3 3 z h.1) ((b v x y z w).at_8 h.0));
      }

  -- one step of a word
  abbrev OutcomeAt : State → State × Option ℕ → State × Option ℕ → Type 0
  OutcomeAt s x y = Outcome (K s.npc) (H s.npc) (Held W) x y

  or_act : (s : State) (i : Instr) (x : ℕ) → i ≡ Or x 1 3 → act i s ≡ Write x (bit_or (reg s 1) (reg s 3))
  or_act s i x e = ap (λ (j : Instr). act j s) e

  majority_step : (s : State) (i : Instr) → Set_out text entry fits_text rules_hold s i → (l : List ℕ) (h g : ℕ) (mem : List ℕ) → Twice (K s.pc) (H s.pc) (Held W) s l h g mem → ((v x y z : ℕ) → VoteAt text v x y z → Bits s (with_parts s l h g mem) v x y z) → Majority text (K s.pc) (K s.npc) (H s.pc) (H s.npc) s i → OutcomeAt s (perform (act i s) s) (perform (act i (with_parts s l h g mem)) (with_parts s l h g mem))
  majority_step s i o l h g mem t b m =
      let T : State = with_parts s l h g mem in
      let c : Equal s m.x m.y m.z × (reg s 3 ≡ reg s m.y) = (o.good.voting m.v m.x m.y m.z m.vote).at_12 m.at in
      let f : bit_or (reg T 1) (reg T 3) ≡ bit_or (reg s 1) (reg s 3) = (b m.v m.x m.y m.z m.vote).at_12 m.at ∙ sym (or_equal (reg s 1) (reg s 3) (reg s m.y) c.0.both c.1) in
      let a : Act = Write m.x (bit_or (reg s 1) (reg s 3)) in
      let e : act i T ≡ a = or_act T i m.x m.is ∙ ap (λ (w : ℕ). Write m.x w) f in
      subst (λ (u : Act). OutcomeAt s (perform u s) (perform (act i T) T)) (sym (or_act s i m.x m.is))
      (subst (λ (u : Act). OutcomeAt s (perform a s) (perform u T)) (sym e)
      (perform_same (K s.pc) (K s.npc) (H s.pc) (H s.npc) (Held W) a s l h g mem t m.after (λ w. absurd (no_service m.x _ w)) (λ w. inl (m.products w)) tt))
    where
      no_service : (d v : ℕ) → Write d v ≡ Service → ⊥
      no_service d v h = search (rules, h)

  sort_step : (s : State) (i : Instr) → Set_out text entry fits_text rules_hold s i → (l : List ℕ) (h g : ℕ) (mem : List ℕ) → Twice (K s.pc) (H s.pc) (Held W) s l h g mem → ((v x y z : ℕ) → VoteAt text v x y z → Bits s (with_parts s l h g mem) v x y z) → IsCalm (perform (act i s) s) → Sort text (K s.pc) (K s.npc) (H s.pc) (H s.npc) (Held W) s i → OutcomeAt s (perform (act i s) s) (perform (act i (with_parts s l h g mem)) (with_parts s l h g mem))
  sort_step s i o l h g mem t b calm (alike c) = alike_step (K s.pc) (K s.npc) (H s.pc) (H s.npc) (Held W) i s l h g mem t c
  sort_step s i o l h g mem t b calm (wrong c) = wrong_step (K s.pc) (K s.npc) (H s.pc) (H s.npc) (Held W) i s l h g mem t c calm
  sort_step s i o l h g mem t b calm (feeds c) = takes_step (K s.pc) (K s.npc) (H s.pc) (H s.npc) (Held W) i s l h g mem t c
  sort_step s i o l h g mem t b calm (aside c) = aside_step (K s.pc) (K s.npc) (H s.pc) (H s.npc) (Held W) i s l h g mem t c
  sort_step s i o l h g mem t b calm (halts c) = halts_step (K s.npc) (H s.npc) (Held W) i s l h g mem c
  sort_step s i o l h g mem t b calm (majority c) = majority_step s i o l h g mem t b c

  beside_end : (s t : State) → Rel s t → t.end ≡ s.end
  beside_end s t r = ap (λ (u : State). u.end) r.beside.is

  went : (s : State) (i : Instr) → (o : Set_out text entry fits_text rules_hold s i) → (l : List ℕ) (h g : ℕ) (mem : List ℕ) → SameKept (K s.pc) s.regs l → ((v x y z : ℕ) → VoteAt text v x y z → Bits s (with_parts s l h g mem) v x y z) → OutcomeAt s (perform (act i s) s) (perform (act i (with_parts s l h g mem)) (with_parts s l h g mem)) → Goes Fails Rel (perform (act i s) s) (perform (act i (with_parts s l h g mem)) (with_parts s l h g mem))
  went s i o l h g mem k b (on d p) =
      let T : State = with_parts s l h g mem in
      both (λ e.
      let n : Good text (perform (act i s) s).0 × ((perform (act i s) s).0.pc ≡ s.npc) = next_by text entry fits_text rules_hold s i o e in
      record {
        beside = subst (λ (c : ℕ). Beside (K c) (H c) (Held W) (perform (act i s) s).0 (perform (act i T) T).0) (sym n.1) d;
        bits = bits_next s i o T (sym k.len ∙ o.good.len) k b (perform (act i s) s).0 (perform (act i T) T).0 n.1 refl refl;
      }) (ap (λ (u : State). u.end) d.is) p
  went s i o l h g mem k b (over e p q r) = both (λ n. absurd (some_none e (sym p ∙ n))) (q ∙ sym p) r
  went s i o l h g mem k b (Outcome.fails c at t e n) = Goes.fails (Exception c at) t e n

  carried : (x x' y y' : State × Option ℕ) → x ≡ x' → y ≡ y' → Goes Fails Rel x' y' → Goes Fails Rel x y
  carried x x' y y' e f r = subst (λ (z : State × Option ℕ). Goes Fails Rel z y) (sym e) (subst (λ (z : State × Option ℕ). Goes Fails Rel x' z) (sym f) r)

  zero_here : (s : State) → K s.pc 0
  zero_here s = zero_kept refl

  pair_by : (s : State) → Good text s → s.end ≡ None → IsPlaced s → IsAgreed s → (l : List ℕ) (h g : ℕ) (mem : List ℕ) → Twice (K s.pc) (H s.pc) (Held W) s l h g mem → ((v x y z : ℕ) → VoteAt text v x y z → Bits s (with_parts s l h g mem) v x y z) → Plans s (with_parts s l h g mem) → Goes Fails Rel (step s) (step (with_parts s l h g mem))
  pair_by s gd e p q l h g mem t b (does i w z a c) =
      let T : State = with_parts s l h g mem in
      let o : Set_out text entry fits_text rules_hold s i = record { good = gd; at = subst (λ (k : List ℕ). At k s.pc i) gd.same w; going = e; does = a; placed = p; agreed = q } in
      let r : Ready text entry s i = ready text entry fits_text rules_hold s i o in
      carried (step s) (perform (act i s) s) (step T) (perform (act i T) T) (done_step s i e a) (done_step T i e c)
      (went s i o l h g mem t.kept b (sort_step s i o l h g mem t b r.calm (sort_of text entry fits_text rules_hold W s i r)))
  pair_by s gd e p q l h g mem t b (stops x a c) =
      let T : State = with_parts s l h g mem in
      let u : step s ≡ perform (Stop x) s = stop_step s x e a in
      let v : step T ≡ perform (Stop x) T = stop_step T x e c in
      carried (step s) (perform (Stop x) s) (step T) (perform (Stop x) T) u v (both (λ n. absurd (some_none x n)) refl refl)

  pair : (s : State) → Good text s → s.end ≡ None → IsPlaced s → IsAgreed s → (t : State) → Rel s t → Goes Fails Rel (step s) (step t)
  pair s gd e p q t r =
      let d : Beside (K s.pc) (H s.pc) (Held W) s t = r.beside in
      subst (λ (u : State). Goes Fails Rel (step s) (step u)) (sym d.is)
      (pair_by s gd e p q d.regs d.hi d.lo d.memory (record { zero = zero_here s; words = d.words; kept = d.kept; halves = d.halves }) (λ v x y z w. subst (λ (u : State). Bits s u v x y z) d.is (r.bits v x y z w)) (plans s d.regs d.hi d.lo d.memory))

  -- the bits of a vote where a change comes
  bits_put : (s t : State) → Good text s → SameKept (K s.pc) s.regs t.regs → ((v x y z : ℕ) → VoteAt text v x y z → (s.pc ≡ v + 4) ⊎ ((s.pc ≡ v + 8) ⊎ (s.pc ≡ v + 12)) → get_or t.regs 1 0 ≡ get_or s.regs 1 0) → ((v x y z : ℕ) → VoteAt text v x y z → s.pc ≡ v + 8 → (get_or t.regs 3 0 ≡ get_or s.regs 3 0) ⊎ (C ≡ W → ⊥)) → ((v x y z : ℕ) → VoteAt text v x y z → s.pc ≡ v + 12 → get_or t.regs 3 0 ≡ get_or s.regs 3 0) → (v x y z : ℕ) → VoteAt text v x y z → Bits s t v x y z
  bits_put s t gd k h1 h8 h12 v x y z o =
      let kx : reg s x ≡ reg s y → (A ≡ W → ⊥) → get_or t.regs x 0 ≡ reg s y = λ e n. sym (k.same x (other A (triple_a x y z o.triple) n)) ∙ e in
      let ky : (B ≡ W → ⊥) → get_or t.regs y 0 ≡ reg s y = λ n. sym (k.same y (other B (triple_b x y z o.triple) n)) in
      let kz : reg s y ≡ reg s z → (C ≡ W → ⊥) → get_or t.regs z 0 ≡ reg s y = λ f n. sym (k.same z (other C (triple_c x y z o.triple) n)) ∙ sym f in
      record {
        at_4 = λ e.
            let q : Equal s x y z = (gd.voting v x y z o).at_4 e in
            let a : get_or t.regs 1 0 ≡ reg s y = h1 v x y z o (inl e) ∙ q.both in
            elim (role_or C W) as (λ w. Bits4 t.regs x y z (reg s y)) [
              | inl c ↦ cut_w _ _ _ _ a (or_equal _ _ _ (kx q.left (λ n. a_c (n ∙ sym c))) (ky (λ n. b_c (n ∙ sym c))))
              | inr c ↦ cut_z _ _ _ _ a (kz q.right c)
            ];
        at_8 = λ e.
            let q : Equal s x y z × (reg s 3 ≡ reg s y) = (gd.voting v x y z o).at_8 e in
            let a : get_or t.regs 1 0 ≡ reg s y = h1 v x y z o (inr (inl e)) ∙ q.0.both in
            elim (h8 v x y z o e) as (λ w. Bits8 t.regs z (reg s y)) [
              | inl c ↦ cut_w _ _ _ _ a (c ∙ q.1)
              | inr c ↦ cut_z _ _ _ _ a (kz q.0.right c)
            ];
        at_12 = λ e.
            let q : Equal s x y z × (reg s 3 ≡ reg s y) = (gd.voting v x y z o).at_12 e in
            or_equal _ _ _ (h1 v x y z o (inr (inr e)) ∙ q.0.both) (h12 v x y z o e ∙ q.1);
      }

-- a register that a change leaves alone
abbrev Untouched : SetPlace → ℕ → Type 0
Untouched (Reg r) q = q ≢ r
Untouched _ q = Unit {0}

written_other : (l : List ℕ) (r w q : ℕ) → q ≢ r → get_or (written l r w) q 0 ≡ get_or l q 0
written_other l r w q n = elim (r == 0) as (λ z. get_or (cond z l (slice_set l r w)) q 0 ≡ get_or l q 0) [ true ↦ refl | false ↦ put_other l r w q n ]

word_regs : (s : State) (p : SetPlace) (w q : ℕ) → Untouched p q → get_or (with_word s p w).regs q 0 ≡ get_or s.regs q 0
word_regs s (Reg r) w q n = written_other s.regs r w q n
word_regs s Hi w q n = refl
word_regs s Lo w q n = refl
word_regs s (Memory a) w q n = elim ((a % 4 == 0) && in_memory s a) as (λ z. get_or (cond z (record s { memory = slice_set s.memory (place a) w }) s).regs q 0 ≡ get_or s.regs q 0) [ true ↦ refl | false ↦ refl ]

regs_put : (s : State) (p : SetPlace) (w q : ℕ) → s.end ≡ None → Untouched p q → get_or (replaced (Set p w) s).regs q 0 ≡ get_or s.regs q 0
regs_put s p w q e n = subst (λ (o : Option End). get_or (cond (is_none o) (with_word s p w) s).regs q 0 ≡ get_or s.regs q 0) (sym e) (word_regs s p w q n)

beside_kept : (K : ℕ → Type 0) (P : Type 0) (M : ℕ → Type 0) (s t : State) → Beside K P M s t → SameKept K s.regs t.regs
beside_kept K P M s t d = subst (λ (u : State). SameKept K s.regs u.regs) (sym d.is) d.kept

number_or : (a b : ℕ) → (a ≡ b) ⊎ (a ≢ b)
number_or a b = grind arith

one_untouched : (text : List ℕ) (a : ℕ) (p : SetPlace) (v x y z : ℕ) → IsFree text a p → VoteAt text v x y z → (a ≡ v + 4) ⊎ ((a ≡ v + 8) ⊎ (a ≡ v + 12)) → Untouched p 1
one_untouched text a (Reg r) v x y z f o e = λ h. f (both_bits v x y z o e (sym h))
one_untouched text a Hi v x y z f o e = tt
one_untouched text a Lo v x y z f o e = tt
one_untouched text a (Memory b) v x y z f o e = tt

three_untouched : (text : List ℕ) (a : ℕ) (p : SetPlace) (v x y z : ℕ) → IsFree text a p → VoteAt text v x y z → a ≡ v + 12 → Untouched p 3
three_untouched text a (Reg r) v x y z f o e = λ h. f (other_bits v x y z o e (sym h))
three_untouched text a Hi v x y z f o e = tt
three_untouched text a Lo v x y z f o e = tt
three_untouched text a (Memory b) v x y z f o e = tt

abbrev NotC : Role → SetPlace → Type 0
NotC W (Reg r) = r ≡ 3 → C ≡ W → ⊥
NotC W _ = Unit {0}

three_or : (W : Role) (p : SetPlace) → NotC W p → Untouched p 3 ⊎ (C ≡ W → ⊥)
three_or W (Reg r) f = elim (number_or r 3) as (λ z. (3 ≢ r) ⊎ (C ≡ W → ⊥)) [ inl e ↦ inr (f e) | inr n ↦ inl (λ e. n (sym e)) ]
three_or W Hi f = inl tt
three_or W Lo f = inl tt
three_or W (Memory a) f = inl tt

-- places of memory
four_or : (p : ℕ) → (p % 4 ≡ 0) ⊎ ((p % 4 ≡ 1) ⊎ ((p % 4 ≡ 2) ⊎ (p % 4 ≡ 3)))
four_or p = grind arith

no_lane : (X : Role) (p : ℕ) → p % 4 ≡ 3 → p % 4 ≡ lane X → ⊥
no_lane A p h k = omega arith
no_lane B p h k = omega arith
no_lane C p h k = omega arith

lane_choice : (p : ℕ) → (W : Role) × (Held W p → ⊥)
lane_choice p = elim (four_or p) as (λ z. (W : Role) × (Held W p → ⊥)) [
  | inl e ↦ (A, lane_free A A p refl e)
  | inr (inl e) ↦ (B, lane_free B B p refl e)
  | inr (inr (inl e)) ↦ (C, lane_free C C p refl e)
  | inr (inr (inr e)) ↦ (A, λ k. no_lane k.stream p e k.stands)
]

abbrev IsNot0 : SetPlace → Type 0
IsNot0 (Reg r) = 1 ≤ r
IsNot0 _ = Unit {0}

set_not_zero : (p : SetPlace) (w : ℕ) → IsSet p w → IsNot0 p
set_not_zero (Reg r) w h = h.0
set_not_zero Hi w h = tt
set_not_zero Lo w h = tt
set_not_zero (Memory a) w h = tt

not_zero : (r : ℕ) → 1 ≤ r → r ≡ 0 → ⊥
not_zero r h e = omega arith

eight_four : (a c : ℕ) → a ≡ c + 8 → a ≡ c + 4 + 4
eight_four a c h = omega arith

twelve_eight : (a c : ℕ) → a ≡ c + 12 → a ≡ c + 4 + 8
twelve_eight a c h = omega arith

one_product : (text : List ℕ) (entry a : ℕ) (X Y : Role) → ProductsOf text entry X a → ProductsOf text entry Y a → X ≡ Y
one_product text entry a X Y p q =
    let x : (i : Instr) × (At text p.before i × IsProductOf X i) = p.each p.before p.leads in
    let y : (i : Instr) × (At text p.before i × IsProductOf Y i) = q.each p.before p.leads in
    let z : IsProductOf Y x.0 = subst (IsProductOf Y) (same_instr text p.before y.0 x.0 y.1.0 x.1.0) y.1.1 in
    z.no_other x.1.1.some X x.1.1.reads_some x.1.1.of_stream

module _ (text : List ℕ) (entry : ℕ) (fits_text : IsText text) (rules_hold : WellTyped text entry) where
  abbrev Keep : Role → ℕ → ℕ → Type 0
  Keep W a q = Keeps text entry W a q

  abbrev Hal : Role → ℕ → Type 0
  Hal W a = Halves text entry W a

  abbrev FreeOf : Role → State → SetPlace → Type 0
  FreeOf W s p = FreeAt (Keep W) (Hal W) (Held W) s p

  abbrev RelOf : Role → State → State → Type 0
  RelOf W s t = Rel text entry fits_text rules_hold W s t

  -- a register that is no window is not kept where its own stream is wrong
  own_free : (a r : ℕ) (X : Role) → Of X r → (NearThird text a r → ⊥) → Keep X a r → ⊥
  own_free a r X o f (zero_kept z) = zero_free X (subst (Of X) z o)
  own_free a r X o f (other Y p d) = d (one_role Y X r p o)
  own_free a r X o f (voted g) = f (awaiting g.v g.x g.y g.z g.awaits)
  own_free a r X o f (Keeps.settled v x y z w e m) = f (settled v x y z w e m)
  own_free a r X o f (Keeps.copied v x y z w e m) = f (awaiting v x y z w)
  own_free a r X o f (due z d) = two_free X (subst (Of X) z o)

  due_near : (a r : ℕ) → r ≡ 2 → Due text C a → NearThird text a r
  due_near a r z (serving h) = service h z
  due_near a r z (first c o e) = result (c + 4) (inl (eight_four a c e)) o.serves (record { instr = Addu o.a 2 0; at = subst (λ (p : ℕ). At text p (Addu o.a 2 0)) (sym e) o.first; reads = refl }) z
  due_near a r z (second c o e) = result (c + 4) (inr (twelve_eight a c e)) o.serves (record { instr = Addu o.b 2 0; at = subst (λ (p : ℕ). At text p (Addu o.b 2 0)) (sym e) o.second; reads = refl }) z
  due_near a r z (last c o e n) = absurd (n refl)

  none_free : (a r : ℕ) (W : Role) → role_of r ≡ None → 1 ≤ r → (NearThird text a r → ⊥) → (r ≡ 2 → C ≡ W) → Keep W a r → ⊥
  none_free a r W o h f c (zero_kept z) = not_zero r h z
  none_free a r W o h f c (other Y p d) = none_role Y (sym o ∙ p)
  none_free a r W o h f c (voted g) = f (awaiting g.v g.x g.y g.z g.awaits)
  none_free a r W o h f c (Keeps.settled v x y z w e m) = f (settled v x y z w e m)
  none_free a r W o h f c (Keeps.copied v x y z w e m) = f (awaiting v x y z w)
  none_free a r W o h f c (due z d) = f (due_near a r z (subst (λ (X : Role). Due text X a) (sym (c z)) d))

  -- the stream that HI and LO come from
  halves_own : (a : ℕ) (X : Role) → ProductsOf text entry X a → Hal X a → ⊥
  halves_own a X p h = h.right (one_product text entry a h.stream X h.from p)

  halves_by : (a n : ℕ) → Produces text entry a n → (W : Role) × (Hal W a → ⊥)
  halves_by a n (nobody e f) = (A, λ h. f h.stream h.from)
  halves_by a n (by_a e p) = (A, halves_own a A p)
  halves_by a n (by_b e p) = (B, halves_own a B p)
  halves_by a n (by_c e p) = (C, halves_own a C p)

  halves_free : (rows : List ThirdRow) → AreRows text entry rows → (a : ℕ) → InText text a ⊎ (InText text a → ⊥) → (W : Role) × (Hal W a → ⊥)
  halves_free rows l a (inl t) =
      let r : IsRow text entry (0x00400000 + 4 * text_place a) (row_at rows (text_place a)) = l.each (text_place a) t.upto in
      halves_by a (row_at rows (text_place a)).products (subst (λ (x : ℕ). Produces text entry x (row_at rows (text_place a)).products) (place_back a t.aligned t.from) r.products)
  halves_free rows l a (inr n) = (A, λ h. n ((rules_hold h.from.before).inside a h.from.leads))

  -- a stream that may be wrong in a place that is no window
  pub record Choice (s : State) (p : SetPlace) : Type 0 where
    pub stream : Role
    pub free : FreeOf stream s p
    pub not_c : NotC stream p

  choice : (rows : List ThirdRow) → AreRows text entry rows → (s : State) (p : SetPlace) → IsNot0 p → IsFree text s.pc p → Choice s p
  choice rows l s (Reg r) h f = elim (role_case r) as (λ z. Choice s (Reg r)) [
    | inl x ↦ record { stream = x.0; free = own_free s.pc r x.0 x.1 f; not_c = λ e c. three_free x.0 (subst (Of x.0) e x.1) }
    | inr n ↦ elim (number_or r 2) as (λ z. Choice s (Reg r)) [
      | inl e ↦ record { stream = C; free = none_free s.pc r C n h f (λ z. refl); not_c = λ k c. no_equal 2 3 refl (sym e ∙ k) }
      | inr m ↦ record { stream = A; free = none_free s.pc r A n h f (λ z. absurd (m z)); not_c = λ k c. a_c (sym c) }
    ]
  ]
  choice rows l s Hi h f = let w : (W : Role) × (Hal W s.pc → ⊥) = halves_free rows l s.pc (in_text_or text s.pc) in record { stream = w.0; free = w.1; not_c = tt }
  choice rows l s Lo h f = let w : (W : Role) × (Hal W s.pc → ⊥) = halves_free rows l s.pc (in_text_or text s.pc) in record { stream = w.0; free = w.1; not_c = tt }
  choice rows l s (Memory a) h f = let w : (W : Role) × (Held W (place a) → ⊥) = lane_choice (place a) in record { stream = w.0; free = w.1; not_c = tt }

  -- a change puts the two states in the relation
  rel_put : (W : Role) (s : State) (p : SetPlace) (w : ℕ) → FreeOf W s p → NotC W p → IsFree text s.pc p → Good text s → s.end ≡ None → RelOf W s (replaced (Set p w) s)
  rel_put W s p w f n r gd e =
      let t : State = replaced (Set p w) s in
      let d : Beside (Keep W s.pc) (Hal W s.pc) (Held W) s t = replaced_beside (Keep W) (Hal W) (Held W) s p w e f in
      record {
        beside = d;
        bits = bits_put text entry fits_text rules_hold W s t gd (beside_kept (Keep W s.pc) (Hal W s.pc) (Held W) s t d)
            (λ v x y z o k. regs_put s p w 1 e (one_untouched text s.pc p v x y z r o k))
            (λ v x y z o k. elim (three_or W p n) as (λ z. (get_or t.regs 3 0 ≡ get_or s.regs 3 0) ⊎ (C ≡ W → ⊥)) [ inl u ↦ inl (regs_put s p w 3 e u) | inr c ↦ inr c ])
            (λ v x y z o k. regs_put s p w 3 e (three_untouched text s.pc p v x y z r o k));
      }

  -- the first N steps of a run
  pub guide : (N : ℕ) (start : State) → ((m : ℕ) → m < N → (run start None m).state.end ≡ None → IsPlaced (run start None m).state) → ((m : ℕ) → m < N → (run start None m).state.end ≡ None → IsAgreed (run start None m).state) → (W : Role) → Guide N start Fails (Good text) (RelOf W)
  guide N start p q W = record {
    pair = λ m l g e t r. pair text entry fits_text rules_hold W (run start None m).state g e (p m l e) (q m l e) t r;
    next = λ m l g e n. (next_of text entry fits_text rules_hold (run start None m).state g e (p m l e) (q m l e) n).0;
    ends = λ s t r. beside_end text entry fits_text rules_hold W s t r;
  }

  no_entry : (v x y z k : ℕ) → VoteAt text v x y z → k ≤ 4 → entry ≡ v + 4 * suc k → ⊥
  no_entry v x y z k o l e = ((rules_hold entry).forms.votes (suc k) (record { v = v; x = x; y = y; z = z; vote = o; upto = omega arith; at = e }) (λ h. no_suc k h)).no_landing (IsLanding.begins refl)
    where
      no_suc : (k : ℕ) → suc k ≡ 0 → ⊥
      no_suc k h = omega arith

  no_input : (c : ℕ) → InputAt text c → entry ≡ c + 4 → ⊥
  no_input c o e = ((rules_hold entry).forms.serves 1 (input c o (omega arith) e) (λ h. no_equal 1 0 refl h)).no_landing (IsLanding.begins refl)

  pub start_good : (memory feed : List ℕ) → Good text (record { pc = entry; npc = plus entry 4; regs = replicate 32 0; hi = 0; lo = 0; text = text; memory = memory; feed = feed; fed = 0; last_load = 0; quiet = 0; slot = false; end = None })
  start_good memory feed = record {
    same = refl;
    zero = refl;
    len = refl;
    way = plain_way refl;
    five = λ c o e. absurd (no_input c o e);
    voting = λ v x y z o. record { at_4 = λ e. absurd (no_entry v x y z 0 o (omega arith) e); at_8 = λ e. absurd (no_entry v x y z 1 o (omega arith) e); at_12 = λ e. absurd (no_entry v x y z 2 o (omega arith) e) };
  }

-- of any word
masks_any : (i : ImageFields) (given : List ℕ) (N : ℕ) (rows : List ThirdRow) → IsText i.text → Typed i.text i.entry rows → PlacedThirdFor i given N → AgreedFor i given N → (n : ℕ) (p : SetPlace) (w : ℕ) → IsNot0 p → IsFree i.text (image_run i given None n).state.pc p → (k : ℕ) → k ≤ N → IsMasked i given n (Set p w) k
masks_any i given N rows fits_text typed placed agreed n p w is free k h =
    let s : State = (image_run i given None n).state in
    let c : Choice i.text i.entry fits_text typed.rules s p = choice i.text i.entry fits_text typed.rules rows typed.listed s p is free in
    shown Fails (Good i.text) (Rel i.text i.entry fits_text typed.rules c.stream) N (boot_state i given)
    (guide i.text i.entry fits_text typed.rules N (boot_state i given) placed agreed c.stream) (start_good i.text i.entry fits_text typed.rules (boot_state i given).memory given) refl n p w
    (rel_put i.text i.entry fits_text typed.rules c.stream s p w c.free c.not_c free) k h

pub masks_sets_within : MasksSetsWithin
masks_sets_within i given N rows fits_text typed placed agreed n p w is free k h = masks_any i given N rows fits_text typed placed agreed n p w (set_not_zero p w is) free k h

at_most_self : (k : ℕ) → k ≤ k
at_most_self k = omega arith

pub masks_flips : MasksFlips
masks_flips i given rows fits_text typed placed agreed n r bit l u free k =
    let w : ℕ = bit_xor (reg (image_run i given None n).state r) (2 ^ bit) in
    subst (λ (x : Ran). Unseen x (image_run i given None k) ⊎ Failed x (image_run i given None k)) (sym (flip_is_set (boot_state i given) n r bit k))
    (masks_any i given k rows fits_text typed (placed k) (agreed k) n (Reg r) w l free k (at_most_self k))

pub masks_sets : MasksSets
masks_sets i given rows fits_text typed placed agreed n p w is free k = masks_sets_within i given k rows fits_text typed (placed k) (agreed k) n p w is free k (at_most_self k)
