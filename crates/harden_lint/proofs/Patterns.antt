-- The tests decide the words of heads and forms.
use Rattle.std.proofs.Common.{◌≡◌, ℕ, ◌+◌, ◌-◌, ◌%◌, ◌≤◌, arith, ap, refl, ◌∙◌, subst, List, false, true, Bool, cond, inl, inr}
use Rattle.std.specs.Prelude.{Option, Some, None, ◌⊎◌, ◌==◌, ◌||◌, ◌&&◌, nat_le}
use Rattle.mips_isa.specs.declared.instr.Instr.{Instr}
use Rattle.mips_isa.specs.declared.instr.Instr.TheVariants.{Sll, Syscall, Break, Addu, Xor, Beq, Ori, Xori}
use Rattle.mips_text.specs.Text.{InText, At, instr_at}
use Rattle.mips_text.specs.Blocks.{IsStart, Head, HeadAt}
use Rattle.mips_text.specs.Forms.{OutputAt, ExitAt, InputAt, IsPair, plain, stack, link}
use Rattle.harden_lint.specs.Rules.{InHead}
use Rattle.harden_lint.proofs.Places.{no_truth, in_text}
use Rattle.lint_words.specs.Words.{code_of}
use Rattle.harden_lint.specs.StartTable.{Table}
use Rattle.lint_words.specs.Around.{starts_at}
use Rattle.lint_words.specs.Shapes.{is_differs, is_nop, is_adjusts, is_ori, is_beq, is_code, head_at, head_start, in_head, is_choice, moved_to, paired, moves_pair, service_at, output_at, exit_at, input_at}
use Rattle.lint_words.specs.Windows.{serving}
use Rattle.harden_lint.proofs.StartTable.{none_some, some_same, code_break}
use Rattle.harden_lint.proofs.Around.{and_parts, and_both, or_parts, or_first, or_second, same_number, number_same, start_is, is_start}

-- instructions by their fields
ori_eq : (a b c x y z : ℕ) → a ≡ x → b ≡ y → c ≡ z → Ori a b c ≡ Ori x y z
ori_eq a b c x y z e f g = rw (e, f, g) refl

beq_eq : (a b c x y z : ℕ) → a ≡ x → b ≡ y → c ≡ z → Beq a b c ≡ Beq x y z
beq_eq a b c x y z e f g = rw (e, f, g) refl

addu_eq : (a b c x y z : ℕ) → a ≡ x → b ≡ y → c ≡ z → Addu a b c ≡ Addu x y z
addu_eq a b c x y z e f g = rw (e, f, g) refl

xor_eq : (a b c x y z : ℕ) → a ≡ x → b ≡ y → c ≡ z → Xor a b c ≡ Xor x y z
xor_eq a b c x y z e f g = rw (e, f, g) refl

xori_eq : (a b c x y z : ℕ) → a ≡ x → b ≡ y → c ≡ z → Xori a b c ≡ Xori x y z
xori_eq a b c x y z e f g = rw (e, f, g) refl

sll_eq : (a b c x y z : ℕ) → a ≡ x → b ≡ y → c ≡ z → Sll a b c ≡ Sll x y z
sll_eq a b c x y z e f g = rw (e, f, g) refl

some_instr : (i j : Instr) → i ≡ j → Some i ≡ Some j
some_instr i j e = ap (λ (k : Instr). Some k) e

two_same : (a b x y : ℕ) → ((a == x) && (b == y)) ≡ true → (a ≡ x) × (b ≡ y)
two_same a b x y h = let p : ((a == x) ≡ true) × ((b == y) ≡ true) = and_parts (a == x) (b == y) h in (same_number a x p.0, same_number b y p.1)

three_same : (a b c x y z : ℕ) → ((a == x) && ((b == y) && (c == z))) ≡ true → (a ≡ x) × ((b ≡ y) × (c ≡ z))
three_same a b c x y z h = let p : ((a == x) ≡ true) × (((b == y) && (c == z)) ≡ true) = and_parts (a == x) ((b == y) && (c == z)) h in (same_number a x p.0, two_same b c y z p.1)

-- words
pub choice_is : (o : Option Instr) (n : ℕ) → is_choice o n ≡ true → o ≡ Some (Ori 2 0 n)
choice_is None n h = absurd (no_truth h)
choice_is (Some (Ori rt rs imm)) n h = let p : (rt ≡ 2) × ((rs ≡ 0) × (imm ≡ n)) = three_same rt rs imm 2 0 n h in some_instr (Ori rt rs imm) (Ori 2 0 n) (ori_eq rt rs imm 2 0 n p.0 p.1.0 p.1.1)
choice_is (Some _) n h = absurd (no_truth h)

is_choice_of : (o : Option Instr) (n : ℕ) → o ≡ Some (Ori 2 0 n) → is_choice o n ≡ true
is_choice_of o n e = ap (λ (x : Option Instr). is_choice x n) e ∙ number_same n n refl

pub beq_is : (o : Option Instr) (r q : ℕ) → is_beq o r q ≡ true → o ≡ Some (Beq r q 2)
beq_is None r q h = absurd (no_truth h)
beq_is (Some (Beq x y n)) r q h = let p : (x ≡ r) × ((y ≡ q) × (n ≡ 2)) = three_same x y n r q 2 h in some_instr (Beq x y n) (Beq r q 2) (beq_eq x y n r q 2 p.0 p.1.0 p.1.1)
beq_is (Some _) r q h = absurd (no_truth h)

is_beq_of : (o : Option Instr) (r q : ℕ) → o ≡ Some (Beq r q 2) → is_beq o r q ≡ true
is_beq_of o r q e = ap (λ (x : Option Instr). is_beq x r q) e ∙ and_both (r == r) ((q == q) && (2 == 2)) (number_same r r refl) (and_both (q == q) (2 == 2) (number_same q q refl) refl)

pub code_at_is : (o : Option Instr) (n : ℕ) → is_code (code_of o) n ≡ true → o ≡ Some (Break n)
code_at_is o n h = code_break o n (by (code_of o) h)
  where
    by : (k : Option ℕ) → is_code k n ≡ true → k ≡ Some n
    by None h = absurd (no_truth h)
    by (Some c) h = ap (λ (x : ℕ). Some x) (same_number c n h)

is_code_at : (o : Option Instr) (n : ℕ) → o ≡ Some (Break n) → is_code (code_of o) n ≡ true
is_code_at o n e = ap (λ (x : Option Instr). is_code (code_of x) n) e ∙ number_same n n refl

pub serving_at : (o : Option Instr) → serving o ≡ true → o ≡ Some Syscall
serving_at None h = absurd (no_truth h)
serving_at (Some Syscall) h = refl
serving_at (Some _) h = absurd (no_truth h)

is_serving : (o : Option Instr) → o ≡ Some Syscall → serving o ≡ true
is_serving o e = ap (λ (x : Option Instr). serving x) e

pub nop_is : (o : Option Instr) → is_nop o ≡ true → o ≡ Some (Sll 0 0 0)
nop_is None h = absurd (no_truth h)
nop_is (Some (Sll rd rt sh)) h = let p : (rd ≡ 0) × ((rt ≡ 0) × (sh ≡ 0)) = three_same rd rt sh 0 0 0 h in some_instr (Sll rd rt sh) (Sll 0 0 0) (sll_eq rd rt sh 0 0 0 p.0 p.1.0 p.1.1)
nop_is (Some _) h = absurd (no_truth h)

pub is_nop_of : (o : Option Instr) → o ≡ Some (Sll 0 0 0) → is_nop o ≡ true
is_nop_of o e = ap (λ (x : Option Instr). is_nop x) e

pub record Differs (o : Option Instr) : Type 0 where
  pub d : ℕ
  pub is : o ≡ Some (Xori 24 24 d)

differs_is : (o : Option Instr) → is_differs o ≡ true → Differs o
differs_is None h = absurd (no_truth h)
differs_is (Some (Xori rt rs imm)) h = let p : (rt ≡ 24) × (rs ≡ 24) = two_same rt rs 24 24 h in record { d = imm; is = some_instr (Xori rt rs imm) (Xori 24 24 imm) (xori_eq rt rs imm 24 24 imm p.0 p.1 refl) }
differs_is (Some _) h = absurd (no_truth h)

adjusts_is : (o : Option Instr) → is_adjusts o ≡ true → o ≡ Some (Xor 24 24 28)
adjusts_is None h = absurd (no_truth h)
adjusts_is (Some (Xor rd rs rt)) h = let p : (rd ≡ 24) × ((rs ≡ 24) × (rt ≡ 28)) = three_same rd rs rt 24 24 28 h in some_instr (Xor rd rs rt) (Xor 24 24 28) (xor_eq rd rs rt 24 24 28 p.0 p.1.0 p.1.1)
adjusts_is (Some _) h = absurd (no_truth h)

pub record Sets (o : Option Instr) (r : ℕ) : Type 0 where
  pub n : ℕ
  pub is : o ≡ Some (Ori r 0 n)

ori_is : (o : Option Instr) (r : ℕ) → is_ori o r ≡ true → Sets o r
ori_is None r h = absurd (no_truth h)
ori_is (Some (Ori rt rs imm)) r h = let p : (rt ≡ r) × (rs ≡ 0) = two_same rt rs r 0 h in record { n = imm; is = some_instr (Ori rt rs imm) (Ori r 0 imm) (ori_eq rt rs imm r 0 imm p.0 p.1 refl) }
ori_is (Some _) r h = absurd (no_truth h)

is_ori_of : (o : Option Instr) (r n : ℕ) → o ≡ Some (Ori r 0 n) → is_ori o r ≡ true
is_ori_of o r n e = ap (λ (x : Option Instr). is_ori x r) e ∙ and_both (r == r) (0 == 0) (number_same r r refl) refl

-- heads
adjusted : (o : Option Instr) → (is_adjusts o || is_nop o) ≡ true → (b : Bool) × (o ≡ Some (cond b (Xor 24 24 28) (Sll 0 0 0)))
adjusted o h = elim (or_parts (is_adjusts o) (is_nop o) h) as (λ z. (b : Bool) × (o ≡ Some (cond b (Xor 24 24 28) (Sll 0 0 0)))) [ inl k ↦ (true, adjusts_is o k) | inr k ↦ (false, nop_is o k) ]

is_adjusted : (o : Option Instr) (b : Bool) → o ≡ Some (cond b (Xor 24 24 28) (Sll 0 0 0)) → (is_adjusts o || is_nop o) ≡ true
is_adjusted o true e = or_first (is_adjusts o) (is_nop o) (ap (λ (x : Option Instr). is_adjusts x) e)
is_adjusted o false e = or_second (is_adjusts o) (is_nop o) (is_nop_of o e)

pub head_is : (text : List ℕ) (u : ℕ) → head_at text u ≡ true → (h : Head) × HeadAt text u h
head_is text u h =
    let x1 : Bool = is_differs (instr_at text u) in
    let x2 : Bool = is_adjusts (instr_at text (u + 4)) || is_nop (instr_at text (u + 4)) in
    let x3 : Bool = is_ori (instr_at text (u + 8)) 1 in
    let x4 : Bool = is_ori (instr_at text (u + 12)) 28 in
    let x5 : Bool = is_beq (instr_at text (u + 16)) 24 1 in
    let x6 : Bool = is_nop (instr_at text (u + 20)) in
    let x7 : Bool = is_code (code_of (instr_at text (u + 24))) 2 in
    let p1 : (x1 ≡ true) × ((x2 && (x3 && (x4 && (x5 && (x6 && x7))))) ≡ true) = and_parts x1 (x2 && (x3 && (x4 && (x5 && (x6 && x7))))) h in
    let p2 : (x2 ≡ true) × ((x3 && (x4 && (x5 && (x6 && x7)))) ≡ true) = and_parts x2 (x3 && (x4 && (x5 && (x6 && x7)))) p1.1 in
    let p3 : (x3 ≡ true) × ((x4 && (x5 && (x6 && x7))) ≡ true) = and_parts x3 (x4 && (x5 && (x6 && x7))) p2.1 in
    let p4 : (x4 ≡ true) × ((x5 && (x6 && x7)) ≡ true) = and_parts x4 (x5 && (x6 && x7)) p3.1 in
    let p5 : (x5 ≡ true) × ((x6 && x7) ≡ true) = and_parts x5 (x6 && x7) p4.1 in
    let p6 : (x6 ≡ true) × (x7 ≡ true) = and_parts x6 x7 p5.1 in
    let d : Differs (instr_at text u) = differs_is (instr_at text u) p1.0 in
    let f : (b : Bool) × (instr_at text (u + 4) ≡ Some (cond b (Xor 24 24 28) (Sll 0 0 0))) = adjusted (instr_at text (u + 4)) p2.0 in
    let s : Sets (instr_at text (u + 8)) 1 = ori_is (instr_at text (u + 8)) 1 p3.0 in
    let g : Sets (instr_at text (u + 12)) 28 = ori_is (instr_at text (u + 12)) 28 p4.0 in (
      record { s = s.n; d = d.d; fan = f.0; D = g.n },
      record {
        differs = d.is;
        adjusts = f.1;
        wants = s.is;
        leaves = g.is;
        compares = beq_is (instr_at text (u + 16)) 24 1 p5.0;
        waits = nop_is (instr_at text (u + 20)) p6.0;
        reports = code_at_is (instr_at text (u + 24)) 2 p6.1;
      },
    )

is_differs_of : (o : Option Instr) (d : ℕ) → o ≡ Some (Xori 24 24 d) → is_differs o ≡ true
is_differs_of o d e = ap (λ (x : Option Instr). is_differs x) e

pub is_head : (text : List ℕ) (u : ℕ) (h : Head) → HeadAt text u h → head_at text u ≡ true
is_head text u h k =
    let x2 : Bool = is_adjusts (instr_at text (u + 4)) || is_nop (instr_at text (u + 4)) in
    let x3 : Bool = is_ori (instr_at text (u + 8)) 1 in
    let x4 : Bool = is_ori (instr_at text (u + 12)) 28 in
    let x5 : Bool = is_beq (instr_at text (u + 16)) 24 1 in
    let x6 : Bool = is_nop (instr_at text (u + 20)) in
    let x7 : Bool = is_code (code_of (instr_at text (u + 24))) 2 in
    and_both (is_differs (instr_at text u)) (x2 && (x3 && (x4 && (x5 && (x6 && x7))))) (is_differs_of (instr_at text u) h.d k.differs)
    (and_both x2 (x3 && (x4 && (x5 && (x6 && x7)))) (is_adjusted (instr_at text (u + 4)) h.fan k.adjusts)
    (and_both x3 (x4 && (x5 && (x6 && x7))) (is_ori_of (instr_at text (u + 8)) 1 h.s k.wants)
    (and_both x4 (x5 && (x6 && x7)) (is_ori_of (instr_at text (u + 12)) 28 h.D k.leaves)
    (and_both x5 (x6 && x7) (is_beq_of (instr_at text (u + 16)) 24 1 k.compares)
    (and_both x6 x7 (is_nop_of (instr_at text (u + 20)) k.waits) (is_code_at (instr_at text (u + 24)) 2 k.reports))))))

-- a word in a head
seven : (u a : ℕ) → u % 4 ≡ 0 → a % 4 ≡ 0 → u ≤ a → a ≤ u + 24 → (u ≡ a) ⊎ ((u ≡ a - 4) ⊎ ((u ≡ a - 8) ⊎ ((u ≡ a - 12) ⊎ ((u ≡ a - 16) ⊎ ((u ≡ a - 20) ⊎ (u ≡ a - 24))))))
seven u a h k l m = grind arith

minus_le : (a n : ℕ) → a - n ≤ a
minus_le a n = omega arith

minus_back : (a n : ℕ) → n ≤ 24 → a ≤ a - n + 24
minus_back a n h = omega arith

module _ (text : List ℕ) (entry : ℕ) (bits : List Bool) (out : Option ℕ) (table : Table text (IsStart text entry) bits out) where
  head_start_at : (u a : ℕ) → u ≤ a → a ≤ u + 24 → head_start text bits u ≡ true → InHead text entry a
  head_start_at u a l m h =
      let p : (starts_at bits u ≡ true) × (head_at text u ≡ true) = and_parts (starts_at bits u) (head_at text u) h in
      let k : (h : Head) × HeadAt text u h = head_is text u p.1 in
      record { start = u; is = start_is text entry bits out table u p.0; head = k.0; stands = k.1; from = l; upto = m }

  self_le : (a : ℕ) → a ≤ a
  self_le a = omega arith

  self_up : (a : ℕ) → a ≤ a + 24
  self_up a = omega arith

  pub in_head_is : (a : ℕ) → in_head text bits a ≡ true → InHead text entry a
  in_head_is a h =
      let f : ℕ → Bool = λ (u : ℕ). head_start text bits u in
      let at : (n : ℕ) → n ≤ 24 → f (a - n) ≡ true → InHead text entry a = λ n l k. head_start_at (a - n) a (minus_le a n) (minus_back a n l) k in
      elim (or_parts (f a) (f (a - 4) || (f (a - 8) || (f (a - 12) || (f (a - 16) || (f (a - 20) || f (a - 24)))))) h) as (λ z. InHead text entry a) [
        | inl k ↦ head_start_at a a (self_le a) (self_up a) k
        | inr k ↦ elim (or_parts (f (a - 4)) (f (a - 8) || (f (a - 12) || (f (a - 16) || (f (a - 20) || f (a - 24))))) k) as (λ z. InHead text entry a) [
          | inl k ↦ at 4 (omega arith) k
          | inr k ↦ elim (or_parts (f (a - 8)) (f (a - 12) || (f (a - 16) || (f (a - 20) || f (a - 24)))) k) as (λ z. InHead text entry a) [
            | inl k ↦ at 8 (omega arith) k
            | inr k ↦ elim (or_parts (f (a - 12)) (f (a - 16) || (f (a - 20) || f (a - 24))) k) as (λ z. InHead text entry a) [
              | inl k ↦ at 12 (omega arith) k
              | inr k ↦ elim (or_parts (f (a - 16)) (f (a - 20) || f (a - 24)) k) as (λ z. InHead text entry a) [
                | inl k ↦ at 16 (omega arith) k
                | inr k ↦ elim (or_parts (f (a - 20)) (f (a - 24)) k) as (λ z. InHead text entry a) [ inl k ↦ at 20 (omega arith) k | inr k ↦ at 24 (omega arith) k ]
              ]
            ]
          ]
        ]
      ]

  pub is_in_head : (a : ℕ) → InText text a → InHead text entry a → in_head text bits a ≡ true
  is_in_head a t k =
      let f : ℕ → Bool = λ (u : ℕ). head_start text bits u in
      let i : InText text k.start = in_text text k.start _ k.stands.differs in
      let h : f k.start ≡ true = and_both (starts_at bits k.start) (head_at text k.start) (is_start text entry bits out table k.start i k.is) (is_head text k.start k.head k.stands) in
      let y6 : Bool = f (a - 20) || f (a - 24) in
      let y5 : Bool = f (a - 16) || y6 in
      let y4 : Bool = f (a - 12) || y5 in
      let y3 : Bool = f (a - 8) || y4 in
      let y2 : Bool = f (a - 4) || y3 in
      let to : (v : ℕ) → k.start ≡ v → f v ≡ true = λ v e. subst (λ (x : ℕ). f x ≡ true) e h in
      elim (seven k.start a i.aligned t.aligned k.from k.upto) as (λ z. in_head text bits a ≡ true) [
        | inl e ↦ or_first (f a) y2 (to a e)
        | inr (inl e) ↦ or_second (f a) y2 (or_first (f (a - 4)) y3 (to (a - 4) e))
        | inr (inr (inl e)) ↦ or_second (f a) y2 (or_second (f (a - 4)) y3 (or_first (f (a - 8)) y4 (to (a - 8) e)))
        | inr (inr (inr (inl e))) ↦ or_second (f a) y2 (or_second (f (a - 4)) y3 (or_second (f (a - 8)) y4 (or_first (f (a - 12)) y5 (to (a - 12) e))))
        | inr (inr (inr (inr (inl e)))) ↦ or_second (f a) y2 (or_second (f (a - 4)) y3 (or_second (f (a - 8)) y4 (or_second (f (a - 12)) y5 (or_first (f (a - 16)) y6 (to (a - 16) e)))))
        | inr (inr (inr (inr (inr (inl e))))) ↦ or_second (f a) y2 (or_second (f (a - 4)) y3 (or_second (f (a - 8)) y4 (or_second (f (a - 12)) y5 (or_second (f (a - 16)) y6 (or_first (f (a - 20)) (f (a - 24)) (to (a - 20) e))))))
        | inr (inr (inr (inr (inr (inr e))))) ↦ or_second (f a) y2 (or_second (f (a - 4)) y3 (or_second (f (a - 8)) y4 (or_second (f (a - 12)) y5 (or_second (f (a - 16)) y6 (or_second (f (a - 20)) (f (a - 24)) (to (a - 24) e))))))
      ]

-- the forms
pub record Service (text : List ℕ) (n c : ℕ) : Type 0 where
  pub compares : At text c (Beq 4 14 2)
  pub chooses : At text (c + 4) (Ori 2 0 n)
  pub reports : At text (c + 8) (Break 1)
  pub serves : At text (c + 12) Syscall

service_is : (text : List ℕ) (n c : ℕ) → service_at text n c ≡ true → Service text n c
service_is text n c h =
    let x2 : Bool = is_choice (instr_at text (c + 4)) n in
    let x3 : Bool = is_code (code_of (instr_at text (c + 8))) 1 in
    let x4 : Bool = serving (instr_at text (c + 12)) in
    let p1 : (is_beq (instr_at text c) 4 14 ≡ true) × ((x2 && (x3 && x4)) ≡ true) = and_parts (is_beq (instr_at text c) 4 14) (x2 && (x3 && x4)) h in
    let p2 : (x2 ≡ true) × ((x3 && x4) ≡ true) = and_parts x2 (x3 && x4) p1.1 in
    let p3 : (x3 ≡ true) × (x4 ≡ true) = and_parts x3 x4 p2.1 in
    record { compares = beq_is (instr_at text c) 4 14 p1.0; chooses = choice_is (instr_at text (c + 4)) n p2.0; reports = code_at_is (instr_at text (c + 8)) 1 p3.0; serves = serving_at (instr_at text (c + 12)) p3.1 }

is_service : (text : List ℕ) (n c : ℕ) → Service text n c → service_at text n c ≡ true
is_service text n c k =
    let x2 : Bool = is_choice (instr_at text (c + 4)) n in
    let x3 : Bool = is_code (code_of (instr_at text (c + 8))) 1 in
    let x4 : Bool = serving (instr_at text (c + 12)) in
    and_both (is_beq (instr_at text c) 4 14) (x2 && (x3 && x4)) (is_beq_of (instr_at text c) 4 14 k.compares)
    (and_both x2 (x3 && x4) (is_choice_of (instr_at text (c + 4)) n k.chooses)
    (and_both x3 x4 (is_code_at (instr_at text (c + 8)) 1 k.reports) (is_serving (instr_at text (c + 12)) k.serves)))

pub output_is : (text : List ℕ) (c : ℕ) → output_at text c ≡ true → OutputAt text c
output_is text c h = let k : Service text 1 c = service_is text 1 c h in record { compares = k.compares; chooses = k.chooses; reports = k.reports; serves = k.serves }

pub is_output : (text : List ℕ) (c : ℕ) → OutputAt text c → output_at text c ≡ true
is_output text c k = is_service text 1 c (record { compares = k.compares; chooses = k.chooses; reports = k.reports; serves = k.serves })

pub exit_is : (text : List ℕ) (c : ℕ) → exit_at text c ≡ true → ExitAt text c
exit_is text c h =
    let p : (service_at text 17 c ≡ true) × (is_code (code_of (instr_at text (c + 16))) 1 ≡ true) = and_parts (service_at text 17 c) (is_code (code_of (instr_at text (c + 16))) 1) h in
    let k : Service text 17 c = service_is text 17 c p.0 in
    record { compares = k.compares; chooses = k.chooses; reports = k.reports; serves = k.serves; stops = code_at_is (instr_at text (c + 16)) 1 p.1 }

pub is_exit : (text : List ℕ) (c : ℕ) → ExitAt text c → exit_at text c ≡ true
is_exit text c k = and_both (service_at text 17 c) (is_code (code_of (instr_at text (c + 16))) 1) (is_service text 17 c (record { compares = k.compares; chooses = k.chooses; reports = k.reports; serves = k.serves })) (is_code_at (instr_at text (c + 16)) 1 k.stops)

le_of : (a b : ℕ) → nat_le a b ≡ true → a ≤ b
le_of a b h = grind arith

of_le : (a b : ℕ) → a ≤ b → nat_le a b ≡ true
of_le a b h = grind arith

paired_is : (m s : ℕ) → paired m s ≡ true → IsPair m s
paired_is m s h = elim (or_parts ((nat_le 4 m && nat_le m 13) && (s == m + 10)) (((m == 29) && (s == 30)) || ((m == 31) && (s == 25))) h) as (λ z. IsPair m s) [
  | inl k ↦
      let p : ((nat_le 4 m && nat_le m 13) ≡ true) × ((s == m + 10) ≡ true) = and_parts (nat_le 4 m && nat_le m 13) (s == m + 10) k in
      let q : (nat_le 4 m ≡ true) × (nat_le m 13 ≡ true) = and_parts (nat_le 4 m) (nat_le m 13) p.0 in
      plain (le_of 4 m q.0) (le_of m 13 q.1) (same_number s (m + 10) p.1)
  | inr k ↦ elim (or_parts ((m == 29) && (s == 30)) ((m == 31) && (s == 25)) k) as (λ z. IsPair m s) [
    | inl k ↦ let p : (m ≡ 29) × (s ≡ 30) = two_same m s 29 30 k in stack p.0 p.1
    | inr k ↦ let p : (m ≡ 31) × (s ≡ 25) = two_same m s 31 25 k in link p.0 p.1
  ]
]

is_paired : (m s : ℕ) → IsPair m s → paired m s ≡ true
is_paired m s (plain h k e) = or_first ((nat_le 4 m && nat_le m 13) && (s == m + 10)) (((m == 29) && (s == 30)) || ((m == 31) && (s == 25))) (and_both (nat_le 4 m && nat_le m 13) (s == m + 10) (and_both (nat_le 4 m) (nat_le m 13) (of_le 4 m h) (of_le m 13 k)) (number_same s (m + 10) e))
is_paired m s (stack e f) = or_second ((nat_le 4 m && nat_le m 13) && (s == m + 10)) (((m == 29) && (s == 30)) || ((m == 31) && (s == 25))) (or_first ((m == 29) && (s == 30)) ((m == 31) && (s == 25)) (and_both (m == 29) (s == 30) (number_same m 29 e) (number_same s 30 f)))
is_paired m s (link e f) = or_second ((nat_le 4 m && nat_le m 13) && (s == m + 10)) (((m == 29) && (s == 30)) || ((m == 31) && (s == 25))) (or_second ((m == 29) && (s == 30)) ((m == 31) && (s == 25)) (and_both (m == 31) (s == 25) (number_same m 31 e) (number_same s 25 f)))

moved_by : (rd rs rt m : ℕ) (z : Bool) → ((rs == 2) && (rt == 0)) ≡ z → cond z (Some rd) None ≡ Some m → Some (Addu rd rs rt) ≡ Some (Addu m 2 0)
moved_by rd rs rt m true e h = let p : (rs ≡ 2) × (rt ≡ 0) = two_same rs rt 2 0 e in some_instr (Addu rd rs rt) (Addu m 2 0) (addu_eq rd rs rt m 2 0 (some_same rd m h) p.0 p.1)
moved_by rd rs rt m false e h = absurd (none_some m h)

moved_is : (o : Option Instr) (m : ℕ) → moved_to o ≡ Some m → o ≡ Some (Addu m 2 0)
moved_is None m h = absurd (none_some m h)
moved_is (Some (Addu rd rs rt)) m h = moved_by rd rs rt m ((rs == 2) && (rt == 0)) refl h
moved_is (Some _) m h = absurd (none_some m h)

is_moved : (o : Option Instr) (m : ℕ) → o ≡ Some (Addu m 2 0) → moved_to o ≡ Some m
is_moved o m e = ap (λ (x : Option Instr). moved_to x) e

pub record Moved (p q : Option ℕ) : Type 0 where
  pub m : ℕ
  pub s : ℕ
  pub first : p ≡ Some m
  pub second : q ≡ Some s
  pub pair : IsPair m s

moves_is : (p q : Option ℕ) → moves_pair p q ≡ true → Moved p q
moves_is None q h = absurd (no_truth h)
moves_is (Some m) None h = absurd (no_truth h)
moves_is (Some m) (Some s) h = record { m = m; s = s; first = refl; second = refl; pair = paired_is m s h }

pub input_is : (text : List ℕ) (c : ℕ) → input_at text c ≡ true → InputAt text c
input_is text c h =
    let x2 : Bool = serving (instr_at text (c + 4)) in
    let x3 : Bool = moves_pair (moved_to (instr_at text (c + 8))) (moved_to (instr_at text (c + 12))) in
    let p1 : (is_choice (instr_at text c) 5 ≡ true) × ((x2 && x3) ≡ true) = and_parts (is_choice (instr_at text c) 5) (x2 && x3) h in
    let p2 : (x2 ≡ true) × (x3 ≡ true) = and_parts x2 x3 p1.1 in
    let m : Moved (moved_to (instr_at text (c + 8))) (moved_to (instr_at text (c + 12))) = moves_is (moved_to (instr_at text (c + 8))) (moved_to (instr_at text (c + 12))) p2.1 in
    record { m = m.m; s = m.s; pair = m.pair; chooses = choice_is (instr_at text c) 5 p1.0; serves = serving_at (instr_at text (c + 4)) p2.0; first = moved_is (instr_at text (c + 8)) m.m m.first; second = moved_is (instr_at text (c + 12)) m.s m.second }

pub is_input : (text : List ℕ) (c : ℕ) → InputAt text c → input_at text c ≡ true
is_input text c k =
    let x2 : Bool = serving (instr_at text (c + 4)) in
    let x3 : Bool = moves_pair (moved_to (instr_at text (c + 8))) (moved_to (instr_at text (c + 12))) in
    and_both (is_choice (instr_at text c) 5) (x2 && x3) (is_choice_of (instr_at text c) 5 k.chooses)
    (and_both x2 x3 (is_serving (instr_at text (c + 4)) k.serves)
    (ap (λ (o : Option ℕ). moves_pair o (moved_to (instr_at text (c + 12)))) (is_moved (instr_at text (c + 8)) k.m k.first)
    ∙ (ap (λ (o : Option ℕ). moves_pair (Some k.m) o) (is_moved (instr_at text (c + 12)) k.s k.second) ∙ is_paired k.m k.s k.pair)))
