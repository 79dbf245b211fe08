-- The tests decide which registers are guarded, which pairs are windows, and where HI and LO come from.
use Rattle.std.proofs.Common.{◌≡◌, ℕ, zero, suc, ◌+◌, ◌-◌, ◌*◌, ◌%◌, ◌≤◌, ◌<◌, arith, ap, refl, sym, ◌∙◌, subst, List, false, true, Bool, cond, inl, inr}
use Rattle.std.specs.Prelude.{Option, Some, None, ◌⊎◌, ◌==◌, ◌||◌, ◌&&◌, nat_le, not}
use Rattle.mips_isa.specs.declared.instr.Instr.{Instr}
use Rattle.mips_isa.specs.declared.instr.Instr.TheVariants.{Jr, Syscall, Beq, Bne, Sw}
use Rattle.mips_text.specs.Text.{IsText, InText, At, instr_at, Writes, SkipsReport, BranchAt, Critical, base, operand, target, argument}
use Rattle.mips_text.specs.Blocks.{IsStart}
use Rattle.mips_text.specs.Typing.{Next, Path, first, then}
use Rattle.harden_lint.proofs.Places.{no_truth, in_text}
use Rattle.harden_lint.proofs.Words.{next_text}
use Rattle.lint_words.specs.Words.{skipped}
use Rattle.harden_lint.specs.StartTable.{Table}
use Rattle.lint_words.specs.Around.{starts_at, writes_by, reporting, only_before, unwritten, back, is_at, leads}
use Rattle.lint_words.specs.Windows.{critical_by, critical, awaits}
use Rattle.harden_lint.proofs.StartTable.{none_some, some_same}
use Rattle.harden_lint.proofs.Around.{and_parts, and_both, or_parts, or_first, or_second, not_parts, not_is, same_number, number_same, writes_is, is_writes, report_is, is_report, start_is, is_start, before_is, OnlyBefore, only_is, is_only}

module _ (text : List ℕ) (entry : ℕ) (bits : List Bool) (out : Option ℕ) (fits : IsText text) (table : Table text (IsStart text entry) bits out) where
  -- one word back
  pub record Hop (r p a : ℕ) : Type 0 where
    pub no_start : IsStart text entry a → ⊥
    pub before : OnlyBefore text p a
    pub free : Writes text p r → ⊥

  unwritten_is : (r p q : ℕ) (z : Bool) → writes_by (instr_at text q) r ≡ z → cond z None (Some q) ≡ Some p → (q ≡ p) × (Writes text q r → ⊥)
  unwritten_is r p q true e h = absurd (none_some p h)
  unwritten_is r p q false e h = (some_same q p h, λ w. no_truth (sym e ∙ is_writes text q r w))

  hop_by : (r p a : ℕ) → (IsStart text entry a → ⊥) → (o : Option ℕ) → only_before text a ≡ o → unwritten text r o ≡ Some p → Hop r p a
  hop_by r p a n None e h = absurd (none_some p h)
  hop_by r p a n (Some q) e h =
      let w : (q ≡ p) × (Writes text q r → ⊥) = unwritten_is r p q (writes_by (instr_at text q) r) refl h in
      subst (λ (x : ℕ). Hop r x a) w.0 (record { no_start = n; before = only_is text entry q a fits n e; free = w.1 })

  back_by : (r p a : ℕ) → InText text a → (z : Bool) → starts_at bits a ≡ z → cond z None (unwritten text r (only_before text a)) ≡ Some p → Hop r p a
  back_by r p a t true e h = absurd (none_some p h)
  back_by r p a t false e h = hop_by r p a (λ s. no_truth (sym e ∙ is_start text entry bits out table a t s)) (only_before text a) refl h

  back_is : (r p a : ℕ) → InText text a → back text bits r (Some a) ≡ Some p → Hop r p a
  back_is r p a t h = back_by r p a t (starts_at bits a) refl h

  is_back : (r p a : ℕ) → Hop r p a → back text bits r (Some a) ≡ Some p
  is_back r p a h =
      let e : starts_at bits a ≡ false = by (starts_at bits a) refl in
      let o : only_before text a ≡ Some p = is_only text entry p a fits h.no_start h.before in
      let w : writes_by (instr_at text p) r ≡ false = wy (writes_by (instr_at text p) r) refl in
      ap (λ (z : Bool). cond z None (unwritten text r (only_before text a))) e ∙ (ap (λ (x : Option ℕ). unwritten text r x) o ∙ ap (λ (z : Bool). cond z None (Some p)) w)
    where
      by : (z : Bool) → starts_at bits a ≡ z → z ≡ false
      by true e = absurd (h.no_start (start_is text entry bits out table a e))
      by false e = refl

      wy : (z : Bool) → writes_by (instr_at text p) r ≡ z → z ≡ false
      wy true e = absurd (h.free (writes_is text p r e))
      wy false e = refl

  four_up : (p a : ℕ) → 0x00400000 ≤ p → p ≡ a - 4 → p + 4 ≤ a
  four_up p a h e = omega arith

  eight_up : (p a : ℕ) → 0x00400000 ≤ p → p ≡ a - 8 → p + 4 ≤ a
  eight_up p a h e = omega arith

  hop_up : (r p a : ℕ) → Hop r p a → p + 4 ≤ a
  hop_up r p a h = elim (before_is text entry p a fits h.no_start h.before.leads) as (λ z. p + 4 ≤ a) [
    | inl z ↦ four_up p a (next_text text p a h.before.leads).from z.0
    | inr z ↦ eight_up p a (next_text text p a h.before.leads).from z.0
  ]

  hop_path : (r c p a : ℕ) → Hop r p a → Path text entry c r p → Path text entry c r a
  hop_path r c p a h q = then a p q (hop_up r p a h) h.before.leads h.no_start h.before.only h.free

  -- from a word on the way back, a path leads to the first
  abbrev Reach : (r c a : ℕ) → Option ℕ → Type 0
  Reach r c a o = (p : ℕ) → o ≡ Some p → (Path text entry c r p → Path text entry c r a) × InText text p

  reach_back : (r c a : ℕ) (o : Option ℕ) → Reach r c a o → Reach r c a (back text bits r o)
  reach_back r c a None f p h = absurd (none_some p h)
  reach_back r c a (Some q) f p h =
      let x : (Path text entry c r q → Path text entry c r a) × InText text q = f q refl in
      let k : Hop r p q = back_is r p q x.1 h in
      ((λ w. x.0 (hop_path r c p q k w)), next_text text p q k.before.leads)

  at_is : (o : Option ℕ) (c : ℕ) → is_at o c ≡ true → o ≡ Some c
  at_is None c h = absurd (no_truth h)
  at_is (Some p) c h = ap (λ (x : ℕ). Some x) (same_number p c h)

  reach_path : (r c a : ℕ) (o : Option ℕ) → Reach r c a o → is_at o c ≡ true → Path text entry c r a
  reach_path r c a o f h = (f c (at_is o c h)).0 (first c refl)

  first_reach : (r c a : ℕ) → InText text a → Reach r c a (Some a)
  first_reach r c a t p h = let e : a ≡ p = some_same a p h in ((λ w. subst (Path text entry c r) (sym e) w), subst (InText text) e t)

  pub leads_is : (r c a : ℕ) → InText text a → leads text bits r c a ≡ true → Path text entry c r a
  leads_is r c a t h =
      let p : Option ℕ = back text bits r (Some a) in
      let q : Option ℕ = back text bits r p in
      let s : Option ℕ = back text bits r q in
      let v : Option ℕ = back text bits r s in
      let fp : Reach r c a p = reach_back r c a (Some a) (first_reach r c a t) in
      let fq : Reach r c a q = reach_back r c a p fp in
      let fs : Reach r c a s = reach_back r c a q fq in
      let fv : Reach r c a v = reach_back r c a s fs in
      elim (or_parts (is_at p c) (is_at q c || (is_at s c || is_at v c)) h) as (λ z. Path text entry c r a) [
        | inl k ↦ reach_path r c a p fp k
        | inr k ↦ elim (or_parts (is_at q c) (is_at s c || is_at v c) k) as (λ z. Path text entry c r a) [
          | inl k ↦ reach_path r c a q fq k
          | inr k ↦ elim (or_parts (is_at s c) (is_at v c) k) as (λ z. Path text entry c r a) [
            | inl k ↦ reach_path r c a s fs k
            | inr k ↦ reach_path r c a v fv k
          ]
        ]
      ]

  abbrev found : (r c : ℕ) → ℕ → Option ℕ → Bool
  found r c zero o = is_at o c
  found r c (suc k) o = is_at o c || found r c k (back text bits r o)

  least : (r c a : ℕ) → Path text entry c r a → c ≤ a
  least r c a (first _ e) = equal_le a c e
    where
      equal_le : (a c : ℕ) → a ≡ c → c ≤ a
      equal_le a c h = omega arith
  least r c a (then _ p q l n s u w) = up c p a (least r c p q) l
    where
      up : (c p a : ℕ) → c ≤ p → p + 4 ≤ a → c ≤ a
      up c p a h l = omega arith

  at_self : (o : Option ℕ) (p c : ℕ) → o ≡ Some p → p ≡ c → is_at o c ≡ true
  at_self o p c e f = ap (λ (x : Option ℕ). is_at x c) e ∙ number_same p c f

  hop_of : (r p a : ℕ) → Next text p a → (IsStart text entry a → ⊥) → ((q : ℕ) → Next text q a → q ≡ p) → (Writes text p r → ⊥) → Hop r p a
  hop_of r p a n s u w = record { no_start = s; before = record { leads = n; only = u }; free = w }

  back_to : (r p a : ℕ) (o : Option ℕ) → o ≡ Some a → Hop r p a → back text bits r o ≡ Some p
  back_to r p a o e h = ap (λ (x : Option ℕ). back text bits r x) e ∙ is_back r p a h

  equal_of : (c p : ℕ) → c ≤ p → p ≤ c + 4 * 0 → p ≡ c
  equal_of c p h k = omega arith

  lower_of : (c p q k : ℕ) → q + 4 ≤ p → p ≤ c + 4 * suc k → q ≤ c + 4 * k
  lower_of c p q k h l = omega arith

  found_is : (r c k : ℕ) (o : Option ℕ) (p : ℕ) → o ≡ Some p → Path text entry c r p → p ≤ c + 4 * k → found r c k o ≡ true
  found_is r c zero o p e q l = at_self o p c e (equal_of c p (least r c p q) l)
  found_is r c (suc k) o p e (first _ x) l = or_first (is_at o c) (found r c k (back text bits r o)) (at_self o p c e x)
  found_is r c (suc k) o p e (then _ v q m n s u w) l = or_second (is_at o c) (found r c k (back text bits r o)) (found_is r c k (back text bits r o) v (back_to r v p o e (hop_of r v p n s u w)) q (lower_of c p v k m l))

  no_room : (a c : ℕ) → a ≡ c → c + 4 ≤ a → ⊥
  no_room a c e h = omega arith

  within_three : (c a p : ℕ) → p + 4 ≤ a → a ≤ c + 16 → p ≤ c + 4 * 3
  within_three c a p h k = omega arith

  pub is_leads : (r c a : ℕ) → c + 4 ≤ a → a ≤ c + 16 → Path text entry c r a → leads text bits r c a ≡ true
  is_leads r c a h k (first _ e) = absurd (no_room a c e h)
  is_leads r c a h k (then _ p q m n s u w) = found_is r c 3 (back text bits r (Some a)) p (is_back r p a (hop_of r p a n s u w)) q (within_three c a p m k)

-- critical uses
crit_by : (text : List ℕ) (u r : ℕ) (o : Option Instr) (k : Option ℕ) → instr_at text u ≡ o → skipped text u ≡ k → critical_by o k r ≡ true → Critical text u r
crit_by text u r None k e f h = absurd (no_truth h)
crit_by text u r (Some (Sw rt rs imm)) k e f h = base rt imm (subst (λ (x : ℕ). At text u (Sw rt x imm)) (sym (same_number r rs h)) e)
crit_by text u r (Some (Jr rs)) k e f h = target (subst (λ (x : ℕ). At text u (Jr x)) (sym (same_number r rs h)) e)
crit_by text u r (Some Syscall) k e f h = argument e (same_number r 4 h)
crit_by text u r (Some (Beq x y n)) k e f h =
    let p : (not (reporting k) ≡ true) × (((r == x) || (r == y)) ≡ true) = and_parts (not (reporting k)) ((r == x) || (r == y)) h in
    operand x y n (record { instr = Beq x y n; at = e; is = inl refl }) (λ s. not_parts (reporting k) p.0 (sym (ap (λ (z : Option ℕ). reporting z) f) ∙ is_report text u s))
    (elim (or_parts (r == x) (r == y) p.1) as (λ z. (r ≡ x) ⊎ (r ≡ y)) [ inl z ↦ inl (same_number r x z) | inr z ↦ inr (same_number r y z) ])
crit_by text u r (Some (Bne x y n)) k e f h =
    let p : (not (reporting k) ≡ true) × (((r == x) || (r == y)) ≡ true) = and_parts (not (reporting k)) ((r == x) || (r == y)) h in
    operand x y n (record { instr = Bne x y n; at = e; is = inr refl }) (λ s. not_parts (reporting k) p.0 (sym (ap (λ (z : Option ℕ). reporting z) f) ∙ is_report text u s))
    (elim (or_parts (r == x) (r == y) p.1) as (λ z. (r ≡ x) ⊎ (r ≡ y)) [ inl z ↦ inl (same_number r x z) | inr z ↦ inr (same_number r y z) ])
crit_by text u r (Some _) k e f h = absurd (no_truth h)

pub critical_is : (text : List ℕ) (u r : ℕ) → critical text u r ≡ true → Critical text u r
critical_is text u r h = crit_by text u r (instr_at text u) (skipped text u) refl refl h

two_is : (r x y : ℕ) → (r ≡ x) ⊎ (r ≡ y) → ((r == x) || (r == y)) ≡ true
two_is r x y (inl e) = or_first (r == x) (r == y) (number_same r x e)
two_is r x y (inr e) = or_second (r == x) (r == y) (number_same r y e)

branch_crit : (text : List ℕ) (u r x y n : ℕ) → (b : BranchAt text u x y n) → (SkipsReport text u → ⊥) → (r ≡ x) ⊎ (r ≡ y) → critical text u r ≡ true
branch_crit text u r x y n b s m =
    let q : (not (reporting (skipped text u)) && ((r == x) || (r == y))) ≡ true = and_both (not (reporting (skipped text u))) ((r == x) || (r == y)) (not_is (reporting (skipped text u)) (λ h. s (report_is text u h))) (two_is r x y m) in
    ap (λ (o : Option Instr). critical_by o (skipped text u) r) b.at ∙ elim b.is as (λ z. critical_by (Some b.instr) (skipped text u) r ≡ true) [
      | inl e ↦ ap (λ (i : Instr). critical_by (Some i) (skipped text u) r) e ∙ q
      | inr e ↦ ap (λ (i : Instr). critical_by (Some i) (skipped text u) r) e ∙ q
    ]

pub is_critical : (text : List ℕ) (u r : ℕ) → Critical text u r → critical text u r ≡ true
is_critical text u r (base rt imm h) = ap (λ (o : Option Instr). critical_by o (skipped text u) r) h ∙ number_same r r refl
is_critical text u r (operand x y n b s m) = branch_crit text u r x y n b s m
is_critical text u r (target h) = ap (λ (o : Option Instr). critical_by o (skipped text u) r) h ∙ number_same r r refl
is_critical text u r (argument h e) = ap (λ (o : Option Instr). critical_by o (skipped text u) r) h ∙ number_same r 4 e

pub critical_text : (text : List ℕ) (u r : ℕ) → Critical text u r → InText text u
critical_text text u r (base rt imm h) = in_text text u (Sw rt r imm) h
critical_text text u r (operand x y n b s m) = in_text text u b.instr b.at
critical_text text u r (target h) = in_text text u (Jr r) h
critical_text text u r (argument h e) = in_text text u Syscall h

-- a use that awaits
pub record Use (text : List ℕ) (r c a : ℕ) : Type 0 where
  pub at : ℕ
  pub critical : Critical text at r
  pub upto : a ≤ at
  pub within : at ≤ c + 16
  pub unwritten : (w : ℕ) → c + 4 ≤ w → w < at → Writes text w r → ⊥

le_of : (a b : ℕ) → nat_le a b ≡ true → a ≤ b
le_of a b h = grind arith

of_le : (a b : ℕ) → a ≤ b → nat_le a b ≡ true
of_le a b h = grind arith

use_here : (text : List ℕ) (r c a u : ℕ) → u ≤ c + 16 → ((w : ℕ) → c + 4 ≤ w → w < u → Writes text w r → ⊥) → (nat_le a u && critical text u r) ≡ true → Use text r c a
use_here text r c a u l f h =
    let p : (nat_le a u ≡ true) × (critical text u r ≡ true) = and_parts (nat_le a u) (critical text u r) h in
    record { at = u; critical = critical_is text u r p.1; upto = le_of a u p.0; within = l; unwritten = f }

not_written : (text : List ℕ) (w r : ℕ) → not (writes_by (instr_at text w) r) ≡ true → Writes text w r → ⊥
not_written text w r h k = not_parts (writes_by (instr_at text w) r) h (is_writes text w r k)

place_one : (c w : ℕ) → c + 4 ≤ w → w < c + 4 → ⊥
place_one c w h k = omega arith

place_two : (c w : ℕ) → c % 4 ≡ 0 → w % 4 ≡ 0 → c + 4 ≤ w → w < c + 8 → w ≡ c + 4
place_two c w h k l m = omega arith

place_three : (c w : ℕ) → c % 4 ≡ 0 → w % 4 ≡ 0 → c + 4 ≤ w → w < c + 12 → (w ≡ c + 4) ⊎ (w ≡ c + 8)
place_three c w h k l m = grind arith

place_four : (c w : ℕ) → c % 4 ≡ 0 → w % 4 ≡ 0 → c + 4 ≤ w → w < c + 16 → (w ≡ c + 4) ⊎ ((w ≡ c + 8) ⊎ (w ≡ c + 12))
place_four c w h k l m = grind arith

upto_four : (c : ℕ) → c + 4 ≤ c + 16
upto_four c = omega arith

upto_eight : (c : ℕ) → c + 8 ≤ c + 16
upto_eight c = omega arith

upto_twelve : (c : ℕ) → c + 12 ≤ c + 16
upto_twelve c = omega arith

upto_sixteen : (c : ℕ) → c + 16 ≤ c + 16
upto_sixteen c = omega arith

written_aligned : (text : List ℕ) (w r : ℕ) → Writes text w r → w % 4 ≡ 0
written_aligned text w r k = (in_text text w k.instr k.at).aligned

pub awaits_is : (text : List ℕ) (r c a : ℕ) → c % 4 ≡ 0 → awaits text r c a ≡ true → Use text r c a
awaits_is text r c a al h =
    let x1 : Bool = nat_le a (c + 4) && critical text (c + 4) r in
    let n1 : Bool = not (writes_by (instr_at text (c + 4)) r) in
    let x2 : Bool = nat_le a (c + 8) && critical text (c + 8) r in
    let n2 : Bool = not (writes_by (instr_at text (c + 8)) r) in
    let x3 : Bool = nat_le a (c + 12) && critical text (c + 12) r in
    let n3 : Bool = not (writes_by (instr_at text (c + 12)) r) in
    let x4 : Bool = nat_le a (c + 16) && critical text (c + 16) r in
    elim (or_parts x1 (n1 && (x2 || (n2 && (x3 || (n3 && x4))))) h) as (λ z. Use text r c a) [
      | inl k ↦ use_here text r c a (c + 4) (upto_four c) (λ w p q v. place_one c w p q) k
      | inr k ↦
          let p1 : (n1 ≡ true) × ((x2 || (n2 && (x3 || (n3 && x4)))) ≡ true) = and_parts n1 (x2 || (n2 && (x3 || (n3 && x4)))) k in
          elim (or_parts x2 (n2 && (x3 || (n3 && x4))) p1.1) as (λ z. Use text r c a) [
            | inl k ↦ use_here text r c a (c + 8) (upto_eight c) (λ w p q v. not_written text (c + 4) r p1.0 (subst (λ (x : ℕ). Writes text x r) (place_two c w al (written_aligned text w r v) p q) v)) k
            | inr k ↦
                let p2 : (n2 ≡ true) × ((x3 || (n3 && x4)) ≡ true) = and_parts n2 (x3 || (n3 && x4)) k in
                elim (or_parts x3 (n3 && x4) p2.1) as (λ z. Use text r c a) [
                  | inl k ↦ use_here text r c a (c + 12) (upto_twelve c) (λ w p q v. elim (place_three c w al (written_aligned text w r v) p q) as (λ z. ⊥) [
                    | inl e ↦ not_written text (c + 4) r p1.0 (subst (λ (x : ℕ). Writes text x r) e v)
                    | inr e ↦ not_written text (c + 8) r p2.0 (subst (λ (x : ℕ). Writes text x r) e v)
                  ]) k
                  | inr k ↦
                      let p3 : (n3 ≡ true) × (x4 ≡ true) = and_parts n3 x4 k in
                      use_here text r c a (c + 16) (upto_sixteen c) (λ w p q v. elim (place_four c w al (written_aligned text w r v) p q) as (λ z. ⊥) [
                        | inl e ↦ not_written text (c + 4) r p1.0 (subst (λ (x : ℕ). Writes text x r) e v)
                        | inr (inl e) ↦ not_written text (c + 8) r p2.0 (subst (λ (x : ℕ). Writes text x r) e v)
                        | inr (inr e) ↦ not_written text (c + 12) r p3.0 (subst (λ (x : ℕ). Writes text x r) e v)
                      ]) p3.1
                ]
          ]
    ]

four_uses : (c u : ℕ) → c % 4 ≡ 0 → u % 4 ≡ 0 → c + 4 ≤ u → u ≤ c + 16 → (u ≡ c + 4) ⊎ ((u ≡ c + 8) ⊎ ((u ≡ c + 12) ⊎ (u ≡ c + 16)))
four_uses c u h k l m = grind arith

free_at : (text : List ℕ) (r c w u : ℕ) → ((w : ℕ) → c + 4 ≤ w → w < u → Writes text w r → ⊥) → c + 4 ≤ w → w < u → not (writes_by (instr_at text w) r) ≡ true
free_at text r c w u f h k = not_is (writes_by (instr_at text w) r) (λ z. f w h k (writes_is text w r z))

lt_of : (c u n m : ℕ) → u ≡ c + n → m < n → c + m < u
lt_of c u n m e h = omega arith

le_more : (c m : ℕ) → 4 ≤ m → c + 4 ≤ c + m
le_more c m h = omega arith

low_use : (c a u : ℕ) → c + 4 ≤ a → a ≤ u → c + 4 ≤ u
low_use c a u h k = omega arith

pub is_awaits : (text : List ℕ) (r c a : ℕ) → c % 4 ≡ 0 → c + 4 ≤ a → Use text r c a → awaits text r c a ≡ true
is_awaits text r c a al low k =
    let x1 : Bool = nat_le a (c + 4) && critical text (c + 4) r in
    let n1 : Bool = not (writes_by (instr_at text (c + 4)) r) in
    let x2 : Bool = nat_le a (c + 8) && critical text (c + 8) r in
    let n2 : Bool = not (writes_by (instr_at text (c + 8)) r) in
    let x3 : Bool = nat_le a (c + 12) && critical text (c + 12) r in
    let n3 : Bool = not (writes_by (instr_at text (c + 12)) r) in
    let x4 : Bool = nat_le a (c + 16) && critical text (c + 16) r in
    let here : (v : ℕ) → k.at ≡ v → (nat_le a v && critical text v r) ≡ true = λ v e. subst (λ (x : ℕ). (nat_le a x && critical text x r) ≡ true) e (and_both (nat_le a k.at) (critical text k.at r) (of_le a k.at k.upto) (is_critical text k.at r k.critical)) in
    let free : (n m : ℕ) → k.at ≡ c + n → 4 ≤ m → m < n → not (writes_by (instr_at text (c + m)) r) ≡ true = λ n m e h l. free_at text r c (c + m) k.at k.unwritten (le_more c m h) (lt_of c k.at n m e l) in
    elim (four_uses c k.at al (critical_text text k.at r k.critical).aligned (low_use c a k.at low k.upto) k.within) as (λ z. awaits text r c a ≡ true) [
      | inl e ↦ or_first x1 (n1 && (x2 || (n2 && (x3 || (n3 && x4))))) (here (c + 4) e)
      | inr (inl e) ↦ or_second x1 (n1 && (x2 || (n2 && (x3 || (n3 && x4))))) (and_both n1 (x2 || (n2 && (x3 || (n3 && x4)))) (free 8 4 e (omega arith) (omega arith)) (or_first x2 (n2 && (x3 || (n3 && x4))) (here (c + 8) e)))
      | inr (inr (inl e)) ↦ or_second x1 (n1 && (x2 || (n2 && (x3 || (n3 && x4))))) (and_both n1 (x2 || (n2 && (x3 || (n3 && x4)))) (free 12 4 e (omega arith) (omega arith)) (or_second x2 (n2 && (x3 || (n3 && x4))) (and_both n2 (x3 || (n3 && x4)) (free 12 8 e (omega arith) (omega arith)) (or_first x3 (n3 && x4) (here (c + 12) e)))))
      | inr (inr (inr e)) ↦ or_second x1 (n1 && (x2 || (n2 && (x3 || (n3 && x4))))) (and_both n1 (x2 || (n2 && (x3 || (n3 && x4)))) (free 16 4 e (omega arith) (omega arith)) (or_second x2 (n2 && (x3 || (n3 && x4))) (and_both n2 (x3 || (n3 && x4)) (free 16 8 e (omega arith) (omega arith)) (or_second x3 (n3 && x4) (and_both n3 x4 (free 16 12 e (omega arith) (omega arith)) (here (c + 16) e))))))
    ]
