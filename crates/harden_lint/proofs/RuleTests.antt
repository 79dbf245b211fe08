-- The test of each rule decides it at a word of the text.
use Rattle.std.proofs.Common.{◌≡◌, ℕ, ◌+◌, ◌-◌, ◌≤◌, ◌<◌, arith, rules, ap, refl, sym, ◌∙◌, subst, List, false, true, Bool, cond, inl, inr}
use Rattle.std.specs.Prelude.{Option, Some, None, ◌⊎◌, ◌==◌, ◌||◌, ◌&&◌, not}
use Rattle.mips_isa.specs.declared.instr.Instr.{Instr}
use Rattle.mips_isa.specs.declared.instr.Instr.TheVariants.{Sll, Jr, Syscall, Mfhi, Mflo, Xor, J, Jal, Xori, Lw, Sw}
use Rattle.mips_isa.specs.Rows.{row, pair_of}
use Rattle.mips_isa.specs.Machine.{is_jump, is_product}
use Rattle.mips_text.specs.Text.{IsText, InText, At, instr_at, Reads, Uses, IsBranch, Critical, base, operand, target, argument}
use Rattle.mips_text.specs.Blocks.{IsStart, Head, HeadAt}
use Rattle.mips_text.specs.Typing.{master, shadow, signs, Of, CheckAt, IsSlot, Next, onward, IsGuarded}
use Rattle.mips_text.specs.Forms.{OutputAt, ExitAt, InputAt, WordOf}
use Rattle.harden_lint.specs.Rules.{HasHead, InHead, IsCheck, OneStream, FromOwn, KeepsStream, IsTaking, IsChecked, MovesHalf, HasNoHazard, GoesInside, MovesHeld, KeepsSigns, KeepsForms, IsChoosing, KeepsSlot, Obeys}
use Rattle.harden_lint.proofs.Places.{no_truth, in_text}
use Rattle.lint_lockstep.proofs.Fetch.{same_instr}
use Rattle.harden_lint.proofs.Words.{next_text}
use Rattle.harden_lint.specs.StartTable.{Table}
use Rattle.lint_words.specs.Around.{starts_at, reads_by, uses_by, jumps_by, in_slot, near_before, far_before}
use Rattle.lint_words.specs.Windows.{critical, check_at}
use Rattle.harden_lint.specs.StreamTests.{of, streams_by, guarded, implies, products}
use Rattle.lint_words.specs.Shapes.{head_at, in_head, output_at, exit_at, input_at, form_behind, in_form, is_nop}
use Rattle.harden_lint.specs.RuleTests.{first_next, second_next, is_instr, one_stream, half_of, half_kept, rule_2, rule_3, operand_kept, operands_kept, rule_4, loaded, clear_of, load_kept, is_half, moves_before, moves_twice, product_at, rule_5, inside_by, rule_6, held, uses_signs, rule_8, rule_9, choosing, rule_10}
use Rattle.harden_lint.proofs.StartTable.{none_some, some_same}
use Rattle.harden_lint.proofs.Around.{and_parts, and_both, or_parts, or_first, or_second, not_parts, not_is, same_number, number_same, bool_or, reads_is, is_reads, slot_is, is_slot, words_text, text_words, start_is, is_start, near_is, far_is, before_is}
use Rattle.harden_lint.proofs.Guards.{critical_is, is_critical}
use Rattle.harden_lint.proofs.Windows.{streams_is, is_streams, of_is, is_of, implied, is_implied, guarded_is, is_guarded, products_is, is_products}
use Rattle.harden_lint.proofs.Patterns.{nop_is, is_nop_of, head_is, is_head, in_head_is, is_in_head, output_is, is_output, exit_is, is_exit, input_is, is_input}
use Rattle.harden_lint.proofs.Decides.{Behind, behind_is, in_form_is, is_in_form, word_places, not_one, first_is, second_is, nexts_of, one_stream_is, is_one_stream, uses_is, is_uses, uses_signs_is, is_uses_signs}

none_instr : (i : Instr) → None ≡ Some i → ⊥
none_instr i h = search (rules, h)

-- 1
pub instr_is : (text : List ℕ) (a : ℕ) → is_instr (instr_at text a) ≡ true → (i : Instr) × At text a i
instr_is text a h = by (instr_at text a) refl h
  where
    by : (o : Option Instr) → instr_at text a ≡ o → is_instr o ≡ true → (i : Instr) × At text a i
    by None e h = absurd (no_truth h)
    by (Some i) e h = (i, e)

pub is_instr_of : (text : List ℕ) (a : ℕ) (i : Instr) → At text a i → is_instr (instr_at text a) ≡ true
is_instr_of text a i h = ap (λ (o : Option Instr). is_instr o) h

-- the halves
half_is : (o : Option Instr) (rd : ℕ) → half_of o ≡ Some rd → (o ≡ Some (Mfhi rd)) ⊎ (o ≡ Some (Mflo rd))
half_is None rd h = absurd (none_some rd h)
half_is (Some (Mfhi x)) rd h = inl (ap (λ (v : ℕ). Some (Mfhi v)) (some_same x rd h))
half_is (Some (Mflo x)) rd h = inr (ap (λ (v : ℕ). Some (Mflo v)) (some_same x rd h))
half_is (Some _) rd h = absurd (none_some rd h)

is_half_of : (o : Option Instr) (rd : ℕ) → (o ≡ Some (Mfhi rd)) ⊎ (o ≡ Some (Mflo rd)) → half_of o ≡ Some rd
is_half_of o rd (inl e) = ap (λ (x : Option Instr). half_of x) e
is_half_of o rd (inr e) = ap (λ (x : Option Instr). half_of x) e

half_moves : (text : List ℕ) (a : ℕ) → is_half (instr_at text a) ≡ true → MovesHalf text a
half_moves text a h = by (instr_at text a) refl h
  where
    by : (o : Option Instr) → instr_at text a ≡ o → is_half o ≡ true → MovesHalf text a
    by None e h = absurd (no_truth h)
    by (Some (Mfhi rd)) e h = (rd, inl e)
    by (Some (Mflo rd)) e h = (rd, inr e)
    by (Some _) e h = absurd (no_truth h)

moves_half : (text : List ℕ) (a : ℕ) → MovesHalf text a → is_half (instr_at text a) ≡ true
moves_half text a m = elim m.1 as (λ z. is_half (instr_at text a) ≡ true) [ inl e ↦ ap (λ (x : Option Instr). is_half x) e | inr e ↦ ap (λ (x : Option Instr). is_half x) e ]

-- a critical register is read
abbrev InPair : ℕ → ℕ × ℕ → Type 0
InPair r p = (r ≡ p.0) ⊎ (r ≡ p.1)

branch_pair : (i : Instr) (x y n r : ℕ) → IsBranch i x y n → (r ≡ x) ⊎ (r ≡ y) → InPair r (pair_of (row i).reads)
branch_pair i x y n r (inl e) m = subst (λ (k : Instr). InPair r (pair_of (row k).reads)) (sym e) m
branch_pair i x y n r (inr e) m = subst (λ (k : Instr). InPair r (pair_of (row k).reads)) (sym e) m

pair_at : (text : List ℕ) (a r : ℕ) (i j : Instr) → At text a i → At text a j → InPair r (pair_of (row j).reads) → InPair r (pair_of (row i).reads)
pair_at text a r i j h k m = subst (λ (x : Instr). InPair r (pair_of (row x).reads)) (same_instr text a j i k h) m

critical_read : (text : List ℕ) (a r : ℕ) (i : Instr) → At text a i → Critical text a r → InPair r (pair_of (row i).reads)
critical_read text a r i h (base rt imm k) = pair_at text a r i (Sw rt r imm) h k (inr refl)
critical_read text a r i h (operand x y n b s m) = pair_at text a r i b.instr h b.at (branch_pair b.instr x y n r b.is m)
critical_read text a r i h (target k) = pair_at text a r i (Jr r) h k (inl refl)
critical_read text a r i h (argument k e) = pair_at text a r i Syscall h k (inr e)

-- taking
minus_four : (a c : ℕ) → a ≡ c + 4 → c ≡ a - 4
minus_four a c e = omega arith

four_back : (a : ℕ) → 0x00400000 ≤ a - 4 → a ≡ a - 4 + 4
four_back a h = omega arith

taking_is : (text : List ℕ) (a : ℕ) → input_at text (a - 4) ≡ true → IsTaking text a
taking_is text a h = let i : InputAt text (a - 4) = input_is text (a - 4) h in record { c = a - 4; input = i; at = four_back a (in_text text (a - 4) _ i.chooses).from }

is_taking : (text : List ℕ) (a : ℕ) → IsTaking text a → input_at text (a - 4) ≡ true
is_taking text a t = subst (λ (x : ℕ). input_at text x ≡ true) (minus_four a t.c t.at) (is_input text t.c t.input)

choosing_is : (text : List ℕ) (a : ℕ) → choosing text a ≡ true → IsChoosing text a
choosing_is text a h = elim (or_parts (output_at text (a - 4)) (exit_at text (a - 4)) h) as (λ z. IsChoosing text a) [
  | inl k ↦ let o : OutputAt text (a - 4) = output_is text (a - 4) k in record { c = a - 4; form = inl o; at = four_back a (in_text text (a - 4) _ o.compares).from }
  | inr k ↦ let o : ExitAt text (a - 4) = exit_is text (a - 4) k in record { c = a - 4; form = inr o; at = four_back a (in_text text (a - 4) _ o.compares).from }
]

is_choosing : (text : List ℕ) (a : ℕ) → IsChoosing text a → choosing text a ≡ true
is_choosing text a k = subst (λ (x : ℕ). (output_at text x || exit_at text x) ≡ true) (minus_four a k.c k.at) (elim k.form as (λ z. (output_at text k.c || exit_at text k.c) ≡ true) [
  | inl o ↦ or_first (output_at text k.c) (exit_at text k.c) (is_output text k.c o)
  | inr o ↦ or_second (output_at text k.c) (exit_at text k.c) (is_exit text k.c o)
])

-- loads
load_is : (o : Option Instr) (rt : ℕ) → loaded o ≡ Some rt → (rs : ℕ) × ((imm : ℕ) × (o ≡ Some (Lw rt rs imm)))
load_is None rt h = absurd (none_some rt h)
load_is (Some (Lw x rs imm)) rt h = (rs, (imm, ap (λ (v : ℕ). Some (Lw v rs imm)) (some_same x rt h)))
load_is (Some _) rt h = absurd (none_some rt h)

clear_is : (text : List ℕ) (rt b : ℕ) (o : Option ℕ) → o ≡ Some b → clear_of text rt o ≡ true → Reads text b rt → ⊥
clear_is text rt b o e h r = not_parts (reads_by (instr_at text b) rt) (sym (ap (λ (x : Option ℕ). clear_of text rt x) e) ∙ h) (is_reads text b rt r)

is_clear : (text : List ℕ) (rt : ℕ) (o : Option ℕ) → ((b : ℕ) → o ≡ Some b → Reads text b rt → ⊥) → clear_of text rt o ≡ true
is_clear text rt None f = refl
is_clear text rt (Some b) f = not_is (reads_by (instr_at text b) rt) (λ h. f b refl (reads_is text b rt h))

product_instr : (text : List ℕ) (a : ℕ) → product_at (instr_at text a) ≡ true → (i : Instr) × (At text a i × (is_product i ≡ true))
product_instr text a h = by (instr_at text a) refl h
  where
    by : (o : Option Instr) → instr_at text a ≡ o → product_at o ≡ true → (i : Instr) × (At text a i × (is_product i ≡ true))
    by None e h = absurd (no_truth h)
    by (Some i) e h = (i, (e, h))

jump_instr : (text : List ℕ) (a : ℕ) → jumps_by (instr_at text a) ≡ true → (i : Instr) × (At text a i × (is_jump i ≡ true))
jump_instr text a h = by (instr_at text a) refl h
  where
    by : (o : Option Instr) → instr_at text a ≡ o → jumps_by o ≡ true → (i : Instr) × (At text a i × (is_jump i ≡ true))
    by None e h = absurd (no_truth h)
    by (Some i) e h = (i, (e, h))

-- the words of a head are no products
second_free : (b : Bool) → is_product (cond b (Xor 24 24 28) (Sll 0 0 0)) ≡ false
second_free true = refl
second_free false = refl

not_product : (text : List ℕ) (a : ℕ) (i j : Instr) → At text a i → At text a j → is_product j ≡ false → is_product i ≡ true → ⊥
not_product text a i j h k n p = no_truth (sym n ∙ (ap (λ (x : Instr). is_product x) (same_instr text a j i k h) ∙ p))

-- held registers
held_is : (text : List ℕ) (a : ℕ) → held (instr_at text a) ≡ true → MovesHeld text a
held_is text a h rt rs imm (inl e) = sym (ap (λ (o : Option Instr). held o) e) ∙ h
held_is text a h rt rs imm (inr e) = sym (ap (λ (o : Option Instr). held o) e) ∙ h

is_held : (text : List ℕ) (a : ℕ) → MovesHeld text a → held (instr_at text a) ≡ true
is_held text a f = by (instr_at text a) refl
  where
    by : (o : Option Instr) → instr_at text a ≡ o → held o ≡ true
    by None e = refl
    by (Some (Lw rt rs imm)) e = f rt rs imm (inl e)
    by (Some (Sw rt rs imm)) e = f rt rs imm (inr e)
    by (Some _) e = refl

less_four : (q : ℕ) (a : ℕ) → 0x00400000 ≤ q → (q ≡ a - 4) ⊎ (q ≡ a - 8) → q < a
less_four q a h (inl e) = omega arith
less_four q a h (inr e) = omega arith

module _ (text : List ℕ) (entry : ℕ) (bits : List Bool) (out : Option ℕ) (fits : IsText text) (table : Table text (IsStart text entry) bits out) where
  -- 2
  pub rule_2_is : (a : ℕ) → InText text a → rule_2 text bits a ≡ true → HasHead text entry a
  rule_2_is a t h = λ s. head_is text a (implied (starts_at bits a) (head_at text a) h (is_start text entry bits out table a t s))

  pub is_rule_2 : (a : ℕ) → HasHead text entry a → rule_2 text bits a ≡ true
  is_rule_2 a f = is_implied (starts_at bits a) (head_at text a) (λ h. let k : (h : Head) × HeadAt text a h = f (start_is text entry bits out table a h) in is_head text a k.0 k.1)

  -- 3
  half_kept_is : (a rd : ℕ) → InText text a → half_kept text bits a (Some rd) ≡ true → (rd ≡ 0) ⊎ FromOwn text entry a rd
  half_kept_is a rd t h = elim (or_parts (rd == 0) ((of master rd && products text bits master a) || (of shadow rd && products text bits shadow a)) h) as (λ z. (rd ≡ 0) ⊎ FromOwn text entry a rd) [
    | inl k ↦ inl (same_number rd 0 k)
    | inr k ↦ elim (or_parts (of master rd && products text bits master a) (of shadow rd && products text bits shadow a) k) as (λ z. (rd ≡ 0) ⊎ FromOwn text entry a rd) [
      | inl k ↦ let p : (of master rd ≡ true) × (products text bits master a ≡ true) = and_parts (of master rd) (products text bits master a) k in inr (inl (of_is master rd p.0, products_is text entry bits out fits table master a t p.1))
      | inr k ↦ let p : (of shadow rd ≡ true) × (products text bits shadow a ≡ true) = and_parts (of shadow rd) (products text bits shadow a) k in inr (inr (of_is shadow rd p.0, products_is text entry bits out fits table shadow a t p.1))
    ]
  ]

  is_half_kept : (a rd : ℕ) → (rd ≡ 0) ⊎ FromOwn text entry a rd → half_kept text bits a (Some rd) ≡ true
  is_half_kept a rd (inl e) = or_first (rd == 0) ((of master rd && products text bits master a) || (of shadow rd && products text bits shadow a)) (number_same rd 0 e)
  is_half_kept a rd (inr (inl k)) = or_second (rd == 0) ((of master rd && products text bits master a) || (of shadow rd && products text bits shadow a)) (or_first (of master rd && products text bits master a) (of shadow rd && products text bits shadow a) (and_both (of master rd) (products text bits master a) (is_of master rd k.0) (is_products text entry bits out fits table master a k.1)))
  is_half_kept a rd (inr (inr k)) = or_second (rd == 0) ((of master rd && products text bits master a) || (of shadow rd && products text bits shadow a)) (or_second (of master rd && products text bits master a) (of shadow rd && products text bits shadow a) (and_both (of shadow rd) (products text bits shadow a) (is_of shadow rd k.0) (is_products text entry bits out fits table shadow a k.1)))

  pub rule_3_is : (a : ℕ) → InText text a → rule_3 text bits a ≡ true → KeepsStream text entry a
  rule_3_is a t h =
      let x : Bool = streams_by (check_at text a) || (in_head text bits a || one_stream (instr_at text a)) in
      let p : (x ≡ true) × (half_kept text bits a (half_of (instr_at text a)) ≡ true) = and_parts x (half_kept text bits a (half_of (instr_at text a))) h in
      record {
        one = λ i k. elim (or_parts (streams_by (check_at text a)) (in_head text bits a || one_stream (instr_at text a)) p.0) as (λ z. IsCheck text a ⊎ (InHead text entry a ⊎ OneStream i)) [
          | inl s ↦ let c : (v : ℕ × ℕ) × ((check_at text a ≡ Some v) × CheckAt text a v.0 v.1) = streams_is text a s in inl (record { x = c.0.0; y = c.0.1; check = c.1.1 })
          | inr s ↦ elim (or_parts (in_head text bits a) (one_stream (instr_at text a)) s) as (λ z. IsCheck text a ⊎ (InHead text entry a ⊎ OneStream i)) [
            | inl s ↦ inr (inl (in_head_is text entry bits out table a s))
            | inr s ↦ inr (inr (one_stream_is i (sym (ap (λ (o : Option Instr). one_stream o) k) ∙ s)))
          ]
        ];
        halves = λ rd m. half_kept_is a rd t (sym (ap (λ (o : Option ℕ). half_kept text bits a o) (is_half_of (instr_at text a) rd m)) ∙ p.1);
      }

  one_by : (a : ℕ) → InText text a → KeepsStream text entry a → (o : Option Instr) → instr_at text a ≡ o → (streams_by (check_at text a) || (in_head text bits a || one_stream o)) ≡ true
  one_by a t k None e = or_second (streams_by (check_at text a)) (in_head text bits a || one_stream None) (or_second (in_head text bits a) (one_stream None) refl)
  one_by a t k (Some i) e = elim (k.one i e) as (λ z. (streams_by (check_at text a) || (in_head text bits a || one_stream (Some i))) ≡ true) [
    | inl c ↦ or_first (streams_by (check_at text a)) (in_head text bits a || one_stream (Some i)) (is_streams text a c.x c.y c.check)
    | inr (inl n) ↦ or_second (streams_by (check_at text a)) (in_head text bits a || one_stream (Some i)) (or_first (in_head text bits a) (one_stream (Some i)) (is_in_head text entry bits out table a t n))
    | inr (inr o) ↦ or_second (streams_by (check_at text a)) (in_head text bits a || one_stream (Some i)) (or_second (in_head text bits a) (one_stream (Some i)) (is_one_stream i o))
  ]

  half_by : (a : ℕ) → KeepsStream text entry a → (o : Option ℕ) → half_of (instr_at text a) ≡ o → half_kept text bits a o ≡ true
  half_by a k None e = refl
  half_by a k (Some rd) e = is_half_kept a rd (k.halves rd (half_is (instr_at text a) rd e))

  pub is_rule_3 : (a : ℕ) → InText text a → KeepsStream text entry a → rule_3 text bits a ≡ true
  is_rule_3 a t k = and_both (streams_by (check_at text a) || (in_head text bits a || one_stream (instr_at text a))) (half_kept text bits a (half_of (instr_at text a))) (one_by a t k (instr_at text a) refl) (half_by a k (half_of (instr_at text a)) refl)

  -- 4
  operand_is : (a r : ℕ) → InText text a → operand_kept text bits a r ≡ true → Critical text a r → (r ≡ 0) ⊎ (IsGuarded text entry a r ⊎ IsTaking text a)
  operand_is a r t h c =
      let k : ((r == 0) || (guarded text bits a r || input_at text (a - 4))) ≡ true = implied (critical text a r) ((r == 0) || (guarded text bits a r || input_at text (a - 4))) h (is_critical text a r c) in
      elim (or_parts (r == 0) (guarded text bits a r || input_at text (a - 4)) k) as (λ z. (r ≡ 0) ⊎ (IsGuarded text entry a r ⊎ IsTaking text a)) [
        | inl m ↦ inl (same_number r 0 m)
        | inr m ↦ elim (or_parts (guarded text bits a r) (input_at text (a - 4)) m) as (λ z. (r ≡ 0) ⊎ (IsGuarded text entry a r ⊎ IsTaking text a)) [
          | inl m ↦ inr (inl (guarded_is text entry bits out fits table a r t m))
          | inr m ↦ inr (inr (taking_is text a m))
        ]
      ]

  is_operand : (a r : ℕ) → IsChecked text entry a → operand_kept text bits a r ≡ true
  is_operand a r f = is_implied (critical text a r) ((r == 0) || (guarded text bits a r || input_at text (a - 4))) (λ h. elim (f r (critical_is text a r h)) as (λ z. ((r == 0) || (guarded text bits a r || input_at text (a - 4))) ≡ true) [
    | inl e ↦ or_first (r == 0) (guarded text bits a r || input_at text (a - 4)) (number_same r 0 e)
    | inr (inl g) ↦ or_second (r == 0) (guarded text bits a r || input_at text (a - 4)) (or_first (guarded text bits a r) (input_at text (a - 4)) (is_guarded text entry bits out fits table a r g))
    | inr (inr k) ↦ or_second (r == 0) (guarded text bits a r || input_at text (a - 4)) (or_second (guarded text bits a r) (input_at text (a - 4)) (is_taking text a k))
  ])

  pub rule_4_is : (a : ℕ) (i : Instr) → At text a i → rule_4 text bits a ≡ true → IsChecked text entry a
  rule_4_is a i h k = λ r c.
      let p : ℕ × ℕ = pair_of (row i).reads in
      let q : (operand_kept text bits a p.0 ≡ true) × (operand_kept text bits a p.1 ≡ true) = and_parts (operand_kept text bits a p.0) (operand_kept text bits a p.1) (sym (ap (λ (o : Option Instr). operands_kept text bits a o) h) ∙ k) in
      operand_is a r (in_text text a i h) (elim (critical_read text a r i h c) as (λ z. operand_kept text bits a r ≡ true) [ inl e ↦ subst (λ (x : ℕ). operand_kept text bits a x ≡ true) (sym e) q.0 | inr e ↦ subst (λ (x : ℕ). operand_kept text bits a x ≡ true) (sym e) q.1 ]) c

  rule_4_by : (a : ℕ) → IsChecked text entry a → (o : Option Instr) → operands_kept text bits a o ≡ true
  rule_4_by a f None = refl
  rule_4_by a f (Some i) = and_both (operand_kept text bits a (pair_of (row i).reads).0) (operand_kept text bits a (pair_of (row i).reads).1) (is_operand a (pair_of (row i).reads).0 f) (is_operand a (pair_of (row i).reads).1 f)

  pub is_rule_4 : (a : ℕ) → IsChecked text entry a → rule_4 text bits a ≡ true
  is_rule_4 a f = rule_4_by a f (instr_at text a)

  -- 5
  load_by : (a : ℕ) (rt b : ℕ) → load_kept text a (Some rt) ≡ true → Next text a b → Reads text b rt → rt ≡ 0
  load_by a rt b h n r = elim (or_parts (rt == 0) (clear_of text rt (first_next text a) && clear_of text rt (second_next text a)) h) as (λ z. rt ≡ 0) [
    | inl k ↦ same_number rt 0 k
    | inr k ↦
        let p : (clear_of text rt (first_next text a) ≡ true) × (clear_of text rt (second_next text a) ≡ true) = and_parts (clear_of text rt (first_next text a)) (clear_of text rt (second_next text a)) k in
        elim (nexts_of text a b n) as (λ z. rt ≡ 0) [ inl e ↦ absurd (clear_is text rt b (first_next text a) e p.0 r) | inr e ↦ absurd (clear_is text rt b (second_next text a) e p.1 r) ]
  ]

  -- the moves before a word that is no start
  moves_is : (a : ℕ) → (IsStart text entry a → ⊥) → (p : ℕ) → Next text p a → MovesHalf text p → moves_before text bits a ≡ true
  moves_is a n p k m =
      and_both (not (starts_at bits a)) ((near_before text a && is_half (instr_at text (a - 4))) || (far_before text a && is_half (instr_at text (a - 8)))) (not_is (starts_at bits a) (λ h. n (start_is text entry bits out table a h)))
      (elim (before_is text entry p a fits n k) as (λ z. ((near_before text a && is_half (instr_at text (a - 4))) || (far_before text a && is_half (instr_at text (a - 8)))) ≡ true) [
        | inl z ↦ or_first (near_before text a && is_half (instr_at text (a - 4))) (far_before text a && is_half (instr_at text (a - 8))) (and_both (near_before text a) (is_half (instr_at text (a - 4))) z.1 (subst (λ (x : ℕ). is_half (instr_at text x) ≡ true) z.0 (moves_half text p m)))
        | inr z ↦ or_second (near_before text a && is_half (instr_at text (a - 4))) (far_before text a && is_half (instr_at text (a - 8))) (and_both (far_before text a) (is_half (instr_at text (a - 8))) z.1 (subst (λ (x : ℕ). is_half (instr_at text x) ≡ true) z.0 (moves_half text p m)))
      ])

  is_moves : (a : ℕ) → moves_before text bits a ≡ true → (p : ℕ) × (Next text p a × MovesHalf text p)
  is_moves a h =
      let k : ((near_before text a && is_half (instr_at text (a - 4))) || (far_before text a && is_half (instr_at text (a - 8)))) ≡ true = (and_parts (not (starts_at bits a)) ((near_before text a && is_half (instr_at text (a - 4))) || (far_before text a && is_half (instr_at text (a - 8)))) h).1 in
      elim (or_parts (near_before text a && is_half (instr_at text (a - 4))) (far_before text a && is_half (instr_at text (a - 8))) k) as (λ z. (p : ℕ) × (Next text p a × MovesHalf text p)) [
        | inl k ↦ let p : (near_before text a ≡ true) × (is_half (instr_at text (a - 4)) ≡ true) = and_parts (near_before text a) (is_half (instr_at text (a - 4))) k in (a - 4, (near_is text a p.0, half_moves text (a - 4) p.1))
        | inr k ↦ let p : (far_before text a ≡ true) × (is_half (instr_at text (a - 8)) ≡ true) = and_parts (far_before text a) (is_half (instr_at text (a - 8))) k in (a - 8, (far_is text a fits p.0, half_moves text (a - 8) p.1))
      ]

  twice_is : (a : ℕ) → (IsStart text entry a → ⊥) → (q : ℕ) → Next text q a → moves_before text bits q ≡ true → moves_twice text bits a ≡ true
  twice_is a n q k m =
      and_both (not (starts_at bits a)) ((near_before text a && moves_before text bits (a - 4)) || (far_before text a && moves_before text bits (a - 8))) (not_is (starts_at bits a) (λ h. n (start_is text entry bits out table a h)))
      (elim (before_is text entry q a fits n k) as (λ z. ((near_before text a && moves_before text bits (a - 4)) || (far_before text a && moves_before text bits (a - 8))) ≡ true) [
        | inl z ↦ or_first (near_before text a && moves_before text bits (a - 4)) (far_before text a && moves_before text bits (a - 8)) (and_both (near_before text a) (moves_before text bits (a - 4)) z.1 (subst (λ (x : ℕ). moves_before text bits x ≡ true) z.0 m))
        | inr z ↦ or_second (near_before text a && moves_before text bits (a - 4)) (far_before text a && moves_before text bits (a - 8)) (and_both (far_before text a) (moves_before text bits (a - 8)) z.1 (subst (λ (x : ℕ). moves_before text bits x ≡ true) z.0 m))
      ])

  is_twice : (a : ℕ) → moves_twice text bits a ≡ true → (q : ℕ) × ((p : ℕ) × (Next text q a × (Next text p q × MovesHalf text p)))
  is_twice a h =
      let k : ((near_before text a && moves_before text bits (a - 4)) || (far_before text a && moves_before text bits (a - 8))) ≡ true = (and_parts (not (starts_at bits a)) ((near_before text a && moves_before text bits (a - 4)) || (far_before text a && moves_before text bits (a - 8))) h).1 in
      elim (or_parts (near_before text a && moves_before text bits (a - 4)) (far_before text a && moves_before text bits (a - 8)) k) as (λ z. (q : ℕ) × ((p : ℕ) × (Next text q a × (Next text p q × MovesHalf text p)))) [
        | inl k ↦
            let p : (near_before text a ≡ true) × (moves_before text bits (a - 4) ≡ true) = and_parts (near_before text a) (moves_before text bits (a - 4)) k in
            let m : (p : ℕ) × (Next text p (a - 4) × MovesHalf text p) = is_moves (a - 4) p.1 in
            (a - 4, (m.0, (near_is text a p.0, (m.1.0, m.1.1))))
        | inr k ↦
            let p : (far_before text a ≡ true) × (moves_before text bits (a - 8) ≡ true) = and_parts (far_before text a) (moves_before text bits (a - 8)) k in
            let m : (p : ℕ) × (Next text p (a - 8) × MovesHalf text p) = is_moves (a - 8) p.1 in
            (a - 8, (m.0, (far_is text a fits p.0, (m.1.0, m.1.1))))
      ]

  -- a product is no start that has a head, and does not stand behind a start that has one
  no_start_product : (a : ℕ) (i : Instr) → At text a i → is_product i ≡ true → HasHead text entry a → IsStart text entry a → ⊥
  no_start_product a i h p f s = let k : (h : Head) × HeadAt text a h = f s in not_product text a i (Xori 24 24 k.0.d) h k.1.differs refl p

  next_product : (a q : ℕ) (i : Instr) → At text a i → is_product i ≡ true → Next text q a → Obeys text entry q → IsStart text entry q → ⊥
  next_product a q i h p (onward t s k e) o w = let m : (h : Head) × HeadAt text q h = o.head w in not_product text a i (cond m.0.fan (Xor 24 24 28) (Sll 0 0 0)) h (subst (λ (x : ℕ). At text x (cond m.0.fan (Xor 24 24 28) (Sll 0 0 0))) (sym e) m.1.adjusts) (second_free m.0.fan) p
  next_product a q i h p (Next.jumped j k t u e g) o w = o.slot.no_start (record { jump_at = j; instr = J k; at = u; jumps = refl; behind = e }) w
  next_product a q i h p (Next.called j k t u e g) o w = o.slot.no_start (record { jump_at = j; instr = Jal k; at = u; jumps = refl; behind = e }) w
  next_product a q i h p (Next.taken j x y n t u e g) o w = o.slot.no_start (record { jump_at = j; instr = u.instr; at = u.at; jumps = branch_jump u.instr x y n u.is; behind = e }) w
    where
      branch_jump : (i : Instr) (x y n : ℕ) → IsBranch i x y n → is_jump i ≡ true
      branch_jump i x y n (inl e) = ap (λ (k : Instr). is_jump k) e
      branch_jump i x y n (inr e) = ap (λ (k : Instr). is_jump k) e
  next_product a q i h p (Next.passed j x y n t u r e g) o w = o.slot.no_start (record { jump_at = j; instr = u.instr; at = u.at; jumps = branch_jump u.instr x y n u.is; behind = e }) w
    where
      branch_jump : (i : Instr) (x y n : ℕ) → IsBranch i x y n → is_jump i ≡ true
      branch_jump i x y n (inl e) = ap (λ (k : Instr). is_jump k) e
      branch_jump i x y n (inr e) = ap (λ (k : Instr). is_jump k) e

  lower_of : (a q : ℕ) → (IsStart text entry a → ⊥) → Next text q a → q < a
  lower_of a q n k = less_four q a (next_text text q a k).from (elim (before_is text entry q a fits n k) as (λ z. (q ≡ a - 4) ⊎ (q ≡ a - 8)) [ inl z ↦ inl z.0 | inr z ↦ inr z.0 ])

  pub rule_5_is : (a : ℕ) → HasHead text entry a → ((q : ℕ) → InText text q → q < a → Obeys text entry q) → rule_5 text bits a ≡ true → HasNoHazard text a
  rule_5_is a f low h =
      let x2 : Bool = implies (product_at (instr_at text a)) (not (moves_before text bits a) && not (moves_twice text bits a)) in
      let x3 : Bool = not (jumps_by (instr_at text a) && in_slot text a) in
      let p1 : (load_kept text a (loaded (instr_at text a)) ≡ true) × ((x2 && x3) ≡ true) = and_parts (load_kept text a (loaded (instr_at text a))) (x2 && x3) h in
      let p2 : (x2 ≡ true) × (x3 ≡ true) = and_parts x2 x3 p1.1 in
      let q : (i : Instr) → At text a i → is_product i ≡ true → (not (moves_before text bits a) ≡ true) × (not (moves_twice text bits a) ≡ true) = λ i k m. and_parts (not (moves_before text bits a)) (not (moves_twice text bits a)) (implied (product_at (instr_at text a)) (not (moves_before text bits a) && not (moves_twice text bits a)) p2.0 (ap (λ (o : Option Instr). product_at o) k ∙ m)) in
      record {
        loads = λ rt rs imm b k n r. load_by a rt b (sym (ap (λ (o : Option Instr). load_kept text a (loaded o)) k) ∙ p1.0) n r;
        behind_move = λ i p k m n v. not_parts (moves_before text bits a) (q i k m).0 (moves_is a (no_start_product a i k m f) p n v);
        behind_next = λ i p v k m n w u.
            let none : IsStart text entry a → ⊥ = no_start_product a i k m f in
            not_parts (moves_twice text bits a) (q i k m).1 (twice_is a none v w (moves_is v (next_product a v i k m w (low v (next_text text v a w) (lower_of a v none w))) p n u));
        jumps = λ i k m s. not_parts (jumps_by (instr_at text a) && in_slot text a) p2.1 (and_both (jumps_by (instr_at text a)) (in_slot text a) (ap (λ (o : Option Instr). jumps_by o) k ∙ m) (is_slot text a s));
      }

  is_load : (a : ℕ) → InText text a → HasNoHazard text a → (o : Option ℕ) → loaded (instr_at text a) ≡ o → load_kept text a o ≡ true
  is_load a t f None e = refl
  is_load a t f (Some rt) e =
      let l : (rs : ℕ) × ((imm : ℕ) × (instr_at text a ≡ Some (Lw rt rs imm))) = load_is (instr_at text a) rt e in
      elim (bool_or (rt == 0)) as (λ z. ((rt == 0) || (clear_of text rt (first_next text a) && clear_of text rt (second_next text a))) ≡ true) [
        | inl k ↦ or_first (rt == 0) (clear_of text rt (first_next text a) && clear_of text rt (second_next text a)) k
        | inr n ↦ or_second (rt == 0) (clear_of text rt (first_next text a) && clear_of text rt (second_next text a)) (and_both (clear_of text rt (first_next text a)) (clear_of text rt (second_next text a))
            (is_clear text rt (first_next text a) (λ b x r. n (number_same rt 0 (f.loads rt l.0 l.1.0 b l.1.1 (first_is text a b t x) r))))
            (is_clear text rt (second_next text a) (λ b x r. n (number_same rt 0 (f.loads rt l.0 l.1.0 b l.1.1 (second_is text a b t x) r)))))
      ]

  pub is_rule_5 : (a : ℕ) → InText text a → HasNoHazard text a → rule_5 text bits a ≡ true
  is_rule_5 a t f =
      let x2 : Bool = implies (product_at (instr_at text a)) (not (moves_before text bits a) && not (moves_twice text bits a)) in
      let x3 : Bool = not (jumps_by (instr_at text a) && in_slot text a) in
      and_both (load_kept text a (loaded (instr_at text a))) (x2 && x3) (is_load a t f (loaded (instr_at text a)) refl)
      (and_both x2 x3
      (is_implied (product_at (instr_at text a)) (not (moves_before text bits a) && not (moves_twice text bits a)) (λ h.
      let p : (i : Instr) × (At text a i × (is_product i ≡ true)) = product_instr text a h in
      and_both (not (moves_before text bits a)) (not (moves_twice text bits a))
      (not_is (moves_before text bits a) (λ m. let w : (v : ℕ) × (Next text v a × MovesHalf text v) = is_moves a m in f.behind_move p.0 w.0 p.1.0 p.1.1 w.1.0 w.1.1))
      (not_is (moves_twice text bits a) (λ m. let w : (q : ℕ) × ((v : ℕ) × (Next text q a × (Next text v q × MovesHalf text v))) = is_twice a m in f.behind_next p.0 w.1.0 w.0 p.1.0 p.1.1 w.1.1.1.0 w.1.1.0 w.1.1.1.1))))
      (not_is (jumps_by (instr_at text a) && in_slot text a) (λ h.
      let p : (jumps_by (instr_at text a) ≡ true) × (in_slot text a ≡ true) = and_parts (jumps_by (instr_at text a)) (in_slot text a) h in
      let j : (i : Instr) × (At text a i × (is_jump i ≡ true)) = jump_instr text a p.0 in
      f.jumps j.0 j.1.0 j.1.1 (slot_is text a p.1))))

  -- 6
  inside_is : (b : ℕ) (o : Option ℕ) → o ≡ Some b → inside_by text o ≡ true → InText text b
  inside_is b o e h = words_text text b (sym (ap (λ (x : Option ℕ). inside_by text x) e) ∙ h)

  is_inside : (o : Option ℕ) → ((b : ℕ) → o ≡ Some b → InText text b) → inside_by text o ≡ true
  is_inside None f = refl
  is_inside (Some b) f = text_words text b (f b refl)

  pub rule_6_is : (a : ℕ) → rule_6 text a ≡ true → GoesInside text a
  rule_6_is a h = λ b n.
      let p : (inside_by text (first_next text a) ≡ true) × (inside_by text (second_next text a) ≡ true) = and_parts (inside_by text (first_next text a)) (inside_by text (second_next text a)) h in
      elim (nexts_of text a b n) as (λ z. InText text b) [ inl e ↦ inside_is b (first_next text a) e p.0 | inr e ↦ inside_is b (second_next text a) e p.1 ]

  pub is_rule_6 : (a : ℕ) → InText text a → GoesInside text a → rule_6 text a ≡ true
  is_rule_6 a t f = and_both (inside_by text (first_next text a)) (inside_by text (second_next text a)) (is_inside (first_next text a) (λ b e. f b (first_is text a b t e))) (is_inside (second_next text a) (λ b e. f b (second_is text a b t e)))

  -- 7
  pub rule_7_is : (a : ℕ) → held (instr_at text a) ≡ true → MovesHeld text a
  rule_7_is a h = held_is text a h

  pub is_rule_7 : (a : ℕ) → MovesHeld text a → held (instr_at text a) ≡ true
  is_rule_7 a f = is_held text a f

  -- 8
  pub rule_8_is : (a : ℕ) → rule_8 text bits a ≡ true → KeepsSigns text entry a
  rule_8_is a h = λ r u o. in_head_is text entry bits out table a (implied (uses_signs (instr_at text a)) (in_head text bits a) h (is_uses_signs text a r u o))

  pub is_rule_8 : (a : ℕ) → InText text a → KeepsSigns text entry a → rule_8 text bits a ≡ true
  is_rule_8 a t f = is_implied (uses_signs (instr_at text a)) (in_head text bits a) (λ h. let u : (r : ℕ) × (Uses text a r × Of signs r) = uses_signs_is text a h in is_in_head text entry bits out table a t (f u.0 u.1.0 u.1.1))

  -- 9
  pub rule_9_is : (a : ℕ) → InText text a → rule_9 text bits a ≡ true → KeepsForms text entry a
  rule_9_is a t h =
      let p : (implies (uses_by (instr_at text a) 2) (in_form text a) ≡ true) × (implies (starts_at bits a) (not (form_behind text a)) ≡ true) = and_parts (implies (uses_by (instr_at text a) 2) (in_form text a)) (implies (starts_at bits a) (not (form_behind text a))) h in
      record {
        serves = λ u. in_form_is text a (implied (uses_by (instr_at text a) 2) (in_form text a) p.0 (is_uses text a 2 u));
        starts = λ s k w. not_one k (λ l. elim (word_places text a k w) as (λ z. ⊥) [
          | inl q ↦ zero_one k l q.0
          | inr q ↦ not_parts (form_behind text a) (implied (starts_at bits a) (not (form_behind text a)) p.1 (is_start text entry bits out table a t s)) q.1
        ]);
      }
    where
      zero_one : (k : ℕ) → 1 ≤ k → k ≡ 0 → ⊥
      zero_one k h e = omega arith

  pub is_rule_9 : (a : ℕ) → KeepsForms text entry a → rule_9 text bits a ≡ true
  is_rule_9 a f = and_both (implies (uses_by (instr_at text a) 2) (in_form text a)) (implies (starts_at bits a) (not (form_behind text a)))
      (is_implied (uses_by (instr_at text a) 2) (in_form text a) (λ h. let w : (k : ℕ) × WordOf text a k = f.serves (uses_is text a 2 h) in is_in_form text a w.0 w.1))
      (is_implied (starts_at bits a) (not (form_behind text a)) (λ h. not_is (form_behind text a) (λ b. let w : Behind text a = behind_is text a b in zero_one w.k w.positive (f.starts (start_is text entry bits out table a h) w.k w.word))))
    where
      zero_one : (k : ℕ) → 1 ≤ k → k ≡ 0 → ⊥
      zero_one k h e = omega arith

  -- 10
  pub rule_10_is : (a : ℕ) → InText text a → rule_10 text bits a ≡ true → KeepsSlot text entry a
  rule_10_is a t h =
      let q : IsSlot text a → (not (starts_at bits a) ≡ true) × ((is_nop (instr_at text a) || choosing text a) ≡ true) = λ s. and_parts (not (starts_at bits a)) (is_nop (instr_at text a) || choosing text a) (implied (in_slot text a) (not (starts_at bits a) && (is_nop (instr_at text a) || choosing text a)) h (is_slot text a s)) in
      record {
        inside = λ s. t;
        no_start = λ s w. not_parts (starts_at bits a) (q s).0 (is_start text entry bits out table a t w);
        quiet = λ s. elim (or_parts (is_nop (instr_at text a)) (choosing text a) (q s).1) as (λ z. At text a (Sll 0 0 0) ⊎ IsChoosing text a) [ inl k ↦ inl (nop_is (instr_at text a) k) | inr k ↦ inr (choosing_is text a k) ];
      }

  pub is_rule_10 : (a : ℕ) → KeepsSlot text entry a → rule_10 text bits a ≡ true
  is_rule_10 a f = is_implied (in_slot text a) (not (starts_at bits a) && (is_nop (instr_at text a) || choosing text a)) (λ h.
      and_both (not (starts_at bits a)) (is_nop (instr_at text a) || choosing text a) (not_is (starts_at bits a) (λ s. f.no_start (slot_is text a h) (start_is text entry bits out table a s)))
      (elim (f.quiet (slot_is text a h)) as (λ z. (is_nop (instr_at text a) || choosing text a) ≡ true) [ inl k ↦ or_first (is_nop (instr_at text a)) (choosing text a) (is_nop_of (instr_at text a) k) | inr k ↦ or_second (is_nop (instr_at text a)) (choosing text a) (is_choosing text a k) ]))
