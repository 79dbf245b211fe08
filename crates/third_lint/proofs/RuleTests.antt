-- The test of each rule decides it at a word of the text.
use Rattle.std.proofs.Common.{◌≡◌, ℕ, ◌+◌, ◌-◌, ◌≤◌, arith, ap, refl, sym, ◌∙◌, subst, List, true, Bool, inl, inr}
use Rattle.std.specs.Prelude.{Option, Some, None, ◌⊎◌, ◌==◌, ◌||◌, ◌&&◌, not}
use Rattle.mips_isa.specs.declared.instr.Instr.{Instr}
use Rattle.mips_isa.specs.declared.instr.Instr.TheVariants.{Jr, Syscall, Break, Mfhi, Mflo, Jal, Ori, Lw, Sw}
use Rattle.mips_isa.specs.Rows.{row, pair_of}
use Rattle.mips_isa.specs.Machine.{is_jump, is_product}
use Rattle.mips_text.specs.Text.{IsText, InText, At, instr_at, Reads, IsBranch}
use Rattle.mips_text.specs.Blocks.{IsStart}
use Rattle.lint_words.specs.Words.{code_of}
use Rattle.lint_words.specs.Around.{starts_at, reads_by, uses_by, jumps_by, in_slot, reporting}
use Rattle.lint_lockstep.proofs.Fetch.{same_instr}
use Rattle.third_lint.specs.Flow.{Next, HasNoHazard, GoesInside}
use Rattle.third_lint.specs.Votes.{Role, A, B, C, Of, IsUse, base, operand, target, argument, InputAt}
use Rattle.third_lint.specs.Typing.{IsVoted, ProductsOf, InVote, WordOf}
use Rattle.third_lint.specs.Rules.{OneStream, FromOwn, MayMix, votes, takes, calls, KeepsStream, IsTaking, UsesVoted, MovesHeld, KeepsService, NeverReports, KeepsForms}
use Rattle.third_lint.specs.Shapes.{of, in_vote, vote_behind, used_by, input_at, in_input, form_behind, in_form}
use Rattle.third_lint.specs.RuleTests.{first_next, second_next, is_instr, one_stream, is_jal, half_of, half_kept, rule_2, allowed, operand_kept, operands_kept, rule_3, loaded, clear_of, load_kept, product_at, rule_4, inside_by, rule_5, is_held, held, rule_7, rule_8, rule_9, implies, products, voted}
use Rattle.third_lint.specs.Tables.{Table, Entered, After, Twice}
use Rattle.third_lint.proofs.Places.{no_truth, in_text}
use Rattle.third_lint.proofs.Bools.{and_parts, and_both, or_parts, or_first, or_second, not_parts, not_is, same_number, number_same, bool_or, implied, is_implied, none_some, some_same}
use Rattle.third_lint.proofs.Around.{reads_is, is_reads, slot_is, is_slot, words_text, text_words}
use Rattle.third_lint.proofs.Nexts.{first_is, second_is, nexts_of}
use Rattle.third_lint.proofs.Tables.{mark_is, is_mark}
use Rattle.third_lint.proofs.Patterns.{of_is, is_of, in_vote_is, is_in_vote, VoteBehind, vote_behind_is, is_vote_behind, used_is, is_used, input_is, is_input, in_input_is, is_in_input, FormBehind, form_behind_is, is_form_behind, in_form_is, is_in_form}
use Rattle.third_lint.proofs.Voted.{only_is, is_only, voted_is, is_voted}
use Rattle.third_lint.proofs.Streams.{one_stream_is, is_one_stream, uses_is, is_uses, products_is, is_products}

-- 1
pub instr_is : (text : List ℕ) (a : ℕ) → is_instr (instr_at text a) ≡ true → (i : Instr) × At text a i
instr_is text a h = by (instr_at text a) refl h
  where
    by : (o : Option Instr) → instr_at text a ≡ o → is_instr o ≡ true → (i : Instr) × At text a i
    by None e h = absurd (no_truth h)
    by (Some i) e h = (i, e)

pub is_instr_of : (text : List ℕ) (a : ℕ) (i : Instr) → At text a i → is_instr (instr_at text a) ≡ true
is_instr_of text a i h = ap (λ (o : Option Instr). is_instr o) h

-- the halves
half_is : (o : Option Instr) (rd : ℕ) → half_of o ≡ Some rd → (o ≡ Some (Mfhi rd)) ⊎ (o ≡ Some (Mflo rd))
half_is None rd h = absurd (none_some rd h)
half_is (Some (Mfhi x)) rd h = inl (ap (λ (v : ℕ). Some (Mfhi v)) (some_same x rd h))
half_is (Some (Mflo x)) rd h = inr (ap (λ (v : ℕ). Some (Mflo v)) (some_same x rd h))
half_is (Some _) rd h = absurd (none_some rd h)

is_half_of : (o : Option Instr) (rd : ℕ) → (o ≡ Some (Mfhi rd)) ⊎ (o ≡ Some (Mflo rd)) → half_of o ≡ Some rd
is_half_of o rd (inl e) = ap (λ (x : Option Instr). half_of x) e
is_half_of o rd (inr e) = ap (λ (x : Option Instr). half_of x) e

-- a critical register is read
abbrev InPair : ℕ → ℕ × ℕ → Type 0
InPair r p = (r ≡ p.0) ⊎ (r ≡ p.1)

branch_pair : (i : Instr) (x y n r : ℕ) → IsBranch i x y n → (r ≡ x) ⊎ (r ≡ y) → InPair r (pair_of (row i).reads)
branch_pair i x y n r (inl e) m = subst (λ (k : Instr). InPair r (pair_of (row k).reads)) (sym e) m
branch_pair i x y n r (inr e) m = subst (λ (k : Instr). InPair r (pair_of (row k).reads)) (sym e) m

pair_at : (text : List ℕ) (a r : ℕ) (i j : Instr) → At text a i → At text a j → InPair r (pair_of (row j).reads) → InPair r (pair_of (row i).reads)
pair_at text a r i j h k m = subst (λ (x : Instr). InPair r (pair_of (row x).reads)) (same_instr text a j i k h) m

-- loads
load_is : (o : Option Instr) (rt : ℕ) → loaded o ≡ Some rt → (rs : ℕ) × ((imm : ℕ) × (o ≡ Some (Lw rt rs imm)))
load_is None rt h = absurd (none_some rt h)
load_is (Some (Lw x rs imm)) rt h = (rs, (imm, ap (λ (v : ℕ). Some (Lw v rs imm)) (some_same x rt h)))
load_is (Some _) rt h = absurd (none_some rt h)

clear_is : (text : List ℕ) (rt b : ℕ) (o : Option ℕ) → o ≡ Some b → clear_of text rt o ≡ true → Reads text b rt → ⊥
clear_is text rt b o e h r = not_parts (reads_by (instr_at text b) rt) (sym (ap (λ (x : Option ℕ). clear_of text rt x) e) ∙ h) (is_reads text b rt r)

is_clear : (text : List ℕ) (rt : ℕ) (o : Option ℕ) → ((b : ℕ) → o ≡ Some b → Reads text b rt → ⊥) → clear_of text rt o ≡ true
is_clear text rt None f = refl
is_clear text rt (Some b) f = not_is (reads_by (instr_at text b) rt) (λ h. f b refl (reads_is text b rt h))

product_instr : (text : List ℕ) (a : ℕ) → product_at (instr_at text a) ≡ true → (i : Instr) × (At text a i × (is_product i ≡ true))
product_instr text a h = by (instr_at text a) refl h
  where
    by : (o : Option Instr) → instr_at text a ≡ o → product_at o ≡ true → (i : Instr) × (At text a i × (is_product i ≡ true))
    by None e h = absurd (no_truth h)
    by (Some i) e h = (i, (e, h))

jump_instr : (text : List ℕ) (a : ℕ) → jumps_by (instr_at text a) ≡ true → (i : Instr) × (At text a i × (is_jump i ≡ true))
jump_instr text a h = by (instr_at text a) refl h
  where
    by : (o : Option Instr) → instr_at text a ≡ o → jumps_by o ≡ true → (i : Instr) × (At text a i × (is_jump i ≡ true))
    by None e h = absurd (no_truth h)
    by (Some i) e h = (i, (e, h))

use_read : (text : List ℕ) (a r : ℕ) (i : Instr) → At text a i → IsUse text a r → InPair r (pair_of (row i).reads)
use_read text a r i h (base rt imm k) = pair_at text a r i (Sw rt r imm) h k (inr refl)
use_read text a r i h (operand x y n b m) = pair_at text a r i b.instr h b.at (branch_pair b.instr x y n r b.is m)
use_read text a r i h (target k) = pair_at text a r i (Jr r) h k (inl refl)
use_read text a r i h (argument k e) = pair_at text a r i Syscall h k (inr e)

-- taking
minus_four : (a c : ℕ) → a ≡ c + 4 → c ≡ a - 4
minus_four a c e = omega arith

four_back : (a : ℕ) → 0x00400000 ≤ a - 4 → a ≡ a - 4 + 4
four_back a h = omega arith

taking_is : (text : List ℕ) (a : ℕ) → input_at text (a - 4) ≡ true → IsTaking text a
taking_is text a h = let i : InputAt text (a - 4) = input_is text (a - 4) h in record { c = a - 4; input = i; at = four_back a (in_text text (a - 4) (Ori 2 0 5) i.chooses).from }

is_taking : (text : List ℕ) (a : ℕ) → IsTaking text a → input_at text (a - 4) ≡ true
is_taking text a t = subst (λ (x : ℕ). input_at text x ≡ true) (minus_four a t.c t.at) (is_input text t.c t.input)

-- jal
jal_is : (text : List ℕ) (a : ℕ) → is_jal (instr_at text a) ≡ true → (t : ℕ) × At text a (Jal t)
jal_is text a h = by (instr_at text a) refl h
  where
    by : (o : Option Instr) → instr_at text a ≡ o → is_jal o ≡ true → (t : ℕ) × At text a (Jal t)
    by None e h = absurd (no_truth h)
    by (Some (Jal t)) e h = (t, e)
    by (Some _) e h = absurd (no_truth h)

-- held registers
is_held_reg : (rt : ℕ) → (X : Role) × Of X rt → is_held rt ≡ true
is_held_reg rt p = by p.0 p.1
  where
    by : (X : Role) → Of X rt → is_held rt ≡ true
    by A o = or_first (of A rt) (of B rt || of C rt) (is_of A rt o)
    by B o = or_second (of A rt) (of B rt || of C rt) (or_first (of B rt) (of C rt) (is_of B rt o))
    by C o = or_second (of A rt) (of B rt || of C rt) (or_second (of B rt) (of C rt) (is_of C rt o))

held_reg_is : (rt : ℕ) → is_held rt ≡ true → (X : Role) × Of X rt
held_reg_is rt h = elim (or_parts (of A rt) (of B rt || of C rt) h) as (λ z. (X : Role) × Of X rt) [
  | inl k ↦ (A, of_is A rt k)
  | inr k ↦ elim (or_parts (of B rt) (of C rt) k) as (λ z. (X : Role) × Of X rt) [ inl k ↦ (B, of_is B rt k) | inr k ↦ (C, of_is C rt k) ]
]

pub rule_6_is : (text : List ℕ) (a : ℕ) → held (instr_at text a) ≡ true → MovesHeld text a
rule_6_is text a h rt rs imm (inl e) = held_reg_is rt (sym (ap (λ (o : Option Instr). held o) e) ∙ h)
rule_6_is text a h rt rs imm (inr e) = held_reg_is rt (sym (ap (λ (o : Option Instr). held o) e) ∙ h)

pub is_rule_6 : (text : List ℕ) (a : ℕ) → MovesHeld text a → held (instr_at text a) ≡ true
is_rule_6 text a f = by (instr_at text a) refl
  where
    by : (o : Option Instr) → instr_at text a ≡ o → held o ≡ true
    by None e = refl
    by (Some (Lw rt rs imm)) e = is_held_reg rt (f rt rs imm (inl e))
    by (Some (Sw rt rs imm)) e = is_held_reg rt (f rt rs imm (inr e))
    by (Some _) e = refl

-- 7
pub rule_7_is : (text : List ℕ) (a : ℕ) → rule_7 text a ≡ true → KeepsService text a
rule_7_is text a h = λ u. in_form_is text a (implied (uses_by (instr_at text a) 2) (in_form text a) h (is_uses text a 2 u))

pub is_rule_7 : (text : List ℕ) (a : ℕ) → KeepsService text a → rule_7 text a ≡ true
is_rule_7 text a f = is_implied (uses_by (instr_at text a) 2) (in_form text a) (λ h. let w : (k : ℕ) × WordOf text a k = f (uses_is text a 2 h) in is_in_form text a w.0 w.1)

-- 8
pub rule_8_is : (text : List ℕ) (a : ℕ) → rule_8 text a ≡ true → NeverReports text a
rule_8_is text a h = (
  (λ k. not_parts (reporting (code_of (instr_at text a))) h (ap (λ (o : Option Instr). reporting (code_of o)) k)),
  (λ k. not_parts (reporting (code_of (instr_at text a))) h (ap (λ (o : Option Instr). reporting (code_of o)) k)),
)

pub is_rule_8 : (text : List ℕ) (a : ℕ) → NeverReports text a → rule_8 text a ≡ true
is_rule_8 text a f = not_is (reporting (code_of (instr_at text a))) (by (instr_at text a) refl)
  where
    code : (o : Option Instr) (c n : ℕ) → instr_at text a ≡ Some (Break c) → (c == n) ≡ true → At text a (Break n)
    code o c n e h = e ∙ ap (λ (x : ℕ). Some (Break x)) (same_number c n h)

    by : (o : Option Instr) → instr_at text a ≡ o → reporting (code_of o) ≡ true → ⊥
    by None e h = no_truth h
    by (Some (Break c)) e h = elim (or_parts (c == 1) (c == 2) h) as (λ z. ⊥) [ inl k ↦ f.0 (code (Some (Break c)) c 1 e k) | inr k ↦ f.1 (code (Some (Break c)) c 2 e k) ]
    by (Some _) e h = no_truth h

module _ (text : List ℕ) (entry : ℕ) (starts : List Bool) (fits : IsText text) (table : Table text (IsStart text entry) starts) where
  -- 2
  own_is : (a rd : ℕ) (X : Role) → InText text a → (of X rd && products text starts X a) ≡ true → FromOwn text entry a rd
  own_is a rd X t k = let p : (of X rd ≡ true) × (products text starts X a ≡ true) = and_parts (of X rd) (products text starts X a) k in record { stream = X; of = of_is X rd p.0; from = products_is text entry starts fits table X a t p.1 }

  half_kept_is : (a rd : ℕ) → InText text a → half_kept text starts a (Some rd) ≡ true → (rd ≡ 0) ⊎ FromOwn text entry a rd
  half_kept_is a rd t h =
      let x : Role → Bool = λ X. of X rd && products text starts X a in
      elim (or_parts (rd == 0) (x A || (x B || x C)) h) as (λ z. (rd ≡ 0) ⊎ FromOwn text entry a rd) [
        | inl k ↦ inl (same_number rd 0 k)
        | inr k ↦ elim (or_parts (x A) (x B || x C) k) as (λ z. (rd ≡ 0) ⊎ FromOwn text entry a rd) [
          | inl k ↦ inr (own_is a rd A t k)
          | inr k ↦ elim (or_parts (x B) (x C) k) as (λ z. (rd ≡ 0) ⊎ FromOwn text entry a rd) [ inl k ↦ inr (own_is a rd B t k) | inr k ↦ inr (own_is a rd C t k) ]
        ]
      ]

  is_own : (a rd : ℕ) (X : Role) → Of X rd → ProductsOf text entry X a → (of X rd && products text starts X a) ≡ true
  is_own a rd X o p = and_both (of X rd) (products text starts X a) (is_of X rd o) (is_products text entry starts fits table X a p)

  own_kept : (a rd : ℕ) (X : Role) → (of X rd && products text starts X a) ≡ true → half_kept text starts a (Some rd) ≡ true
  own_kept a rd A h = or_second (rd == 0) ((of A rd && products text starts A a) || ((of B rd && products text starts B a) || (of C rd && products text starts C a))) (or_first (of A rd && products text starts A a) ((of B rd && products text starts B a) || (of C rd && products text starts C a)) h)
  own_kept a rd B h = or_second (rd == 0) ((of A rd && products text starts A a) || ((of B rd && products text starts B a) || (of C rd && products text starts C a))) (or_second (of A rd && products text starts A a) ((of B rd && products text starts B a) || (of C rd && products text starts C a)) (or_first (of B rd && products text starts B a) (of C rd && products text starts C a) h))
  own_kept a rd C h = or_second (rd == 0) ((of A rd && products text starts A a) || ((of B rd && products text starts B a) || (of C rd && products text starts C a))) (or_second (of A rd && products text starts A a) ((of B rd && products text starts B a) || (of C rd && products text starts C a)) (or_second (of B rd && products text starts B a) (of C rd && products text starts C a) h))

  is_half_kept : (a rd : ℕ) → (rd ≡ 0) ⊎ FromOwn text entry a rd → half_kept text starts a (Some rd) ≡ true
  is_half_kept a rd (inl e) = or_first (rd == 0) ((of A rd && products text starts A a) || ((of B rd && products text starts B a) || (of C rd && products text starts C a))) (number_same rd 0 e)
  is_half_kept a rd (inr k) = own_kept a rd k.stream (is_own a rd k.stream k.of k.from)

  pub rule_2_is : (a : ℕ) → InText text a → rule_2 text starts a ≡ true → KeepsStream text entry a
  rule_2_is a t h =
      let x : Bool = one_stream (instr_at text a) || (is_jal (instr_at text a) || (in_vote text a || in_input text a)) in
      let p : (x ≡ true) × (half_kept text starts a (half_of (instr_at text a)) ≡ true) = and_parts x (half_kept text starts a (half_of (instr_at text a))) h in
      record {
        one = λ i k. elim (or_parts (one_stream (instr_at text a)) (is_jal (instr_at text a) || (in_vote text a || in_input text a)) p.0) as (λ z. MayMix text a ⊎ OneStream i) [
          | inl s ↦ inr (one_stream_is i (sym (ap (λ (o : Option Instr). one_stream o) k) ∙ s))
          | inr s ↦ elim (or_parts (is_jal (instr_at text a)) (in_vote text a || in_input text a) s) as (λ z. MayMix text a ⊎ OneStream i) [
            | inl s ↦ let j : (t : ℕ) × At text a (Jal t) = jal_is text a s in inl (calls j.0 j.1)
            | inr s ↦ elim (or_parts (in_vote text a) (in_input text a) s) as (λ z. MayMix text a ⊎ OneStream i) [
              | inl s ↦ let v : (k : ℕ) × InVote text a k = in_vote_is text a s in inl (votes v.0 v.1)
              | inr s ↦ inl (takes (in_input_is text a s))
            ]
          ]
        ];
        halves = λ rd m. half_kept_is a rd t (sym (ap (λ (o : Option ℕ). half_kept text starts a o) (is_half_of (instr_at text a) rd m)) ∙ p.1);
      }

  mix_by : (a : ℕ) (o : Option Instr) → InText text a → MayMix text a → (one_stream o || (is_jal (instr_at text a) || (in_vote text a || in_input text a))) ≡ true
  mix_by a o t (votes k v) = or_second (one_stream o) (is_jal (instr_at text a) || (in_vote text a || in_input text a)) (or_second (is_jal (instr_at text a)) (in_vote text a || in_input text a) (or_first (in_vote text a) (in_input text a) (is_in_vote text a k v)))
  mix_by a o t (takes n) = or_second (one_stream o) (is_jal (instr_at text a) || (in_vote text a || in_input text a)) (or_second (is_jal (instr_at text a)) (in_vote text a || in_input text a) (or_second (in_vote text a) (in_input text a) (is_in_input text a t n)))
  mix_by a o t (calls j h) = or_second (one_stream o) (is_jal (instr_at text a) || (in_vote text a || in_input text a)) (or_first (is_jal (instr_at text a)) (in_vote text a || in_input text a) (ap (λ (x : Option Instr). is_jal x) h))

  one_by : (a : ℕ) → InText text a → KeepsStream text entry a → (o : Option Instr) → instr_at text a ≡ o → (one_stream o || (is_jal (instr_at text a) || (in_vote text a || in_input text a))) ≡ true
  one_by a t k None e = or_first (one_stream None) (is_jal (instr_at text a) || (in_vote text a || in_input text a)) refl
  one_by a t k (Some i) e = elim (k.one i e) as (λ z. (one_stream (Some i) || (is_jal (instr_at text a) || (in_vote text a || in_input text a))) ≡ true) [
    | inl m ↦ mix_by a (Some i) t m
    | inr o ↦ or_first (one_stream (Some i)) (is_jal (instr_at text a) || (in_vote text a || in_input text a)) (is_one_stream i o)
  ]

  half_by : (a : ℕ) → KeepsStream text entry a → (o : Option ℕ) → half_of (instr_at text a) ≡ o → half_kept text starts a o ≡ true
  half_by a k None e = refl
  half_by a k (Some rd) e = is_half_kept a rd (k.halves rd (half_is (instr_at text a) rd e))

  pub is_rule_2 : (a : ℕ) → InText text a → KeepsStream text entry a → rule_2 text starts a ≡ true
  is_rule_2 a t k = and_both (one_stream (instr_at text a) || (is_jal (instr_at text a) || (in_vote text a || in_input text a))) (half_kept text starts a (half_of (instr_at text a))) (one_by a t k (instr_at text a) refl) (half_by a k (half_of (instr_at text a)) refl)

module _ (text : List ℕ) (entry : ℕ) (entered : List Bool) (table : Table text (Entered text entry) entered) where
  -- 3
  operand_is : (a r : ℕ) → InText text a → operand_kept text entered a r ≡ true → IsUse text a r → (r ≡ 0) ⊎ (IsVoted text entry a r ⊎ IsTaking text a)
  operand_is a r t h c =
      let k : ((r == 0) || allowed text entered a r) ≡ true = implied (used_by (instr_at text a) r) ((r == 0) || allowed text entered a r) h (is_used text a r c) in
      elim (or_parts (r == 0) (allowed text entered a r) k) as (λ z. (r ≡ 0) ⊎ (IsVoted text entry a r ⊎ IsTaking text a)) [
        | inl m ↦ inl (same_number r 0 m)
        | inr m ↦ elim (or_parts (voted text entered a r) (input_at text (a - 4)) m) as (λ z. (r ≡ 0) ⊎ (IsVoted text entry a r ⊎ IsTaking text a)) [
          | inl m ↦ inr (inl (voted_is text entry entered table a r t m))
          | inr m ↦ inr (inr (taking_is text a m))
        ]
      ]

  is_operand : (a r : ℕ) → UsesVoted text entry a → operand_kept text entered a r ≡ true
  is_operand a r f = is_implied (used_by (instr_at text a) r) ((r == 0) || allowed text entered a r) (λ h. elim (f r (used_is text a r h)) as (λ z. ((r == 0) || allowed text entered a r) ≡ true) [
    | inl e ↦ or_first (r == 0) (allowed text entered a r) (number_same r 0 e)
    | inr (inl g) ↦ or_second (r == 0) (allowed text entered a r) (or_first (voted text entered a r) (input_at text (a - 4)) (is_voted text entry entered table a r g))
    | inr (inr k) ↦ or_second (r == 0) (allowed text entered a r) (or_second (voted text entered a r) (input_at text (a - 4)) (is_taking text a k))
  ])

  pub rule_3_is : (a : ℕ) (i : Instr) → At text a i → rule_3 text entered a ≡ true → UsesVoted text entry a
  rule_3_is a i h k = λ r c.
      let p : ℕ × ℕ = pair_of (row i).reads in
      let q : (operand_kept text entered a p.0 ≡ true) × (operand_kept text entered a p.1 ≡ true) = and_parts (operand_kept text entered a p.0) (operand_kept text entered a p.1) (sym (ap (λ (o : Option Instr). operands_kept text entered a o) h) ∙ k) in
      operand_is a r (in_text text a i h) (elim (use_read text a r i h c) as (λ z. operand_kept text entered a r ≡ true) [ inl e ↦ subst (λ (x : ℕ). operand_kept text entered a x ≡ true) (sym e) q.0 | inr e ↦ subst (λ (x : ℕ). operand_kept text entered a x ≡ true) (sym e) q.1 ]) c

  rule_3_by : (a : ℕ) → UsesVoted text entry a → (o : Option Instr) → operands_kept text entered a o ≡ true
  rule_3_by a f None = refl
  rule_3_by a f (Some i) = and_both (operand_kept text entered a (pair_of (row i).reads).0) (operand_kept text entered a (pair_of (row i).reads).1) (is_operand a (pair_of (row i).reads).0 f) (is_operand a (pair_of (row i).reads).1 f)

  pub is_rule_3 : (a : ℕ) → UsesVoted text entry a → rule_3 text entered a ≡ true
  is_rule_3 a f = rule_3_by a f (instr_at text a)

  -- 9
  pub rule_9_is : (a : ℕ) → InText text a → rule_9 text entered a ≡ true → KeepsForms text entry a
  rule_9_is a t h =
      let q : starts_at entered a ≡ true → (not (vote_behind text a) ≡ true) × (not (form_behind text a) ≡ true) = λ s. and_parts (not (vote_behind text a)) (not (form_behind text a)) (implied (starts_at entered a) (not (vote_behind text a) && not (form_behind text a)) h s) in
      record {
        votes = λ k v n. only_is text entry entered table a t (λ s. not_parts (vote_behind text a) (q s).0 (is_vote_behind text a k v n));
        serves = λ k w n. only_is text entry entered table a t (λ s. not_parts (form_behind text a) (q s).1 (is_form_behind text a k w n));
      }

  pub is_rule_9 : (a : ℕ) → KeepsForms text entry a → rule_9 text entered a ≡ true
  is_rule_9 a f = is_implied (starts_at entered a) (not (vote_behind text a) && not (form_behind text a)) (λ s. and_both (not (vote_behind text a)) (not (form_behind text a))
      (not_is (vote_behind text a) (λ h. let b : VoteBehind text a = vote_behind_is text a h in is_only text entry entered table a (f.votes b.k b.word b.positive) s))
      (not_is (form_behind text a) (λ h. let b : FormBehind text a = form_behind_is text a h in is_only text entry entered table a (f.serves b.k b.word b.positive) s)))

module _ (text : List ℕ) (after twice : List Bool) (after_table : Table text (After text) after) (twice_table : Table text (Twice text) twice) where
  -- 4
  load_by : (a : ℕ) (rt b : ℕ) → load_kept text a (Some rt) ≡ true → Next text a b → Reads text b rt → rt ≡ 0
  load_by a rt b h n r = elim (or_parts (rt == 0) (clear_of text rt (first_next text a) && clear_of text rt (second_next text a)) h) as (λ z. rt ≡ 0) [
    | inl k ↦ same_number rt 0 k
    | inr k ↦
        let p : (clear_of text rt (first_next text a) ≡ true) × (clear_of text rt (second_next text a) ≡ true) = and_parts (clear_of text rt (first_next text a)) (clear_of text rt (second_next text a)) k in
        elim (nexts_of text a b n) as (λ z. rt ≡ 0) [ inl e ↦ absurd (clear_is text rt b (first_next text a) e p.0 r) | inr e ↦ absurd (clear_is text rt b (second_next text a) e p.1 r) ]
  ]

  pub rule_4_is : (a : ℕ) → InText text a → rule_4 text after twice a ≡ true → HasNoHazard text a
  rule_4_is a t h =
      let x2 : Bool = implies (product_at (instr_at text a)) (not (starts_at after a) && not (starts_at twice a)) in
      let x3 : Bool = not (jumps_by (instr_at text a) && in_slot text a) in
      let p1 : (load_kept text a (loaded (instr_at text a)) ≡ true) × ((x2 && x3) ≡ true) = and_parts (load_kept text a (loaded (instr_at text a))) (x2 && x3) h in
      let p2 : (x2 ≡ true) × (x3 ≡ true) = and_parts x2 x3 p1.1 in
      let q : (i : Instr) → At text a i → is_product i ≡ true → (not (starts_at after a) ≡ true) × (not (starts_at twice a) ≡ true) = λ i k m. and_parts (not (starts_at after a)) (not (starts_at twice a)) (implied (product_at (instr_at text a)) (not (starts_at after a) && not (starts_at twice a)) p2.0 (ap (λ (o : Option Instr). product_at o) k ∙ m)) in
      record {
        loads = λ rt rs imm b k n r. load_by a rt b (sym (ap (λ (o : Option Instr). load_kept text a (loaded o)) k) ∙ p1.0) n r;
        behind_move = λ i p k m n v. not_parts (starts_at after a) (q i k m).0 (is_mark text (After text) after after_table a t (p, (v, n)));
        behind_next = λ i p v k m n w u. not_parts (starts_at twice a) (q i k m).1 (is_mark text (Twice text) twice twice_table a t (v, ((p, (u, n)), w)));
        jumps = λ i k m s. not_parts (jumps_by (instr_at text a) && in_slot text a) p2.1 (and_both (jumps_by (instr_at text a)) (in_slot text a) (ap (λ (o : Option Instr). jumps_by o) k ∙ m) (is_slot text a s));
      }

  is_load : (a : ℕ) → InText text a → HasNoHazard text a → (o : Option ℕ) → loaded (instr_at text a) ≡ o → load_kept text a o ≡ true
  is_load a t f None e = refl
  is_load a t f (Some rt) e =
      let l : (rs : ℕ) × ((imm : ℕ) × (instr_at text a ≡ Some (Lw rt rs imm))) = load_is (instr_at text a) rt e in
      elim (bool_or (rt == 0)) as (λ z. ((rt == 0) || (clear_of text rt (first_next text a) && clear_of text rt (second_next text a))) ≡ true) [
        | inl k ↦ or_first (rt == 0) (clear_of text rt (first_next text a) && clear_of text rt (second_next text a)) k
        | inr n ↦ or_second (rt == 0) (clear_of text rt (first_next text a) && clear_of text rt (second_next text a)) (and_both (clear_of text rt (first_next text a)) (clear_of text rt (second_next text a))
            (is_clear text rt (first_next text a) (λ b x r. n (number_same rt 0 (f.loads rt l.0 l.1.0 b l.1.1 (first_is text a b t x) r))))
            (is_clear text rt (second_next text a) (λ b x r. n (number_same rt 0 (f.loads rt l.0 l.1.0 b l.1.1 (second_is text a b t x) r)))))
      ]

  pub is_rule_4 : (a : ℕ) → InText text a → HasNoHazard text a → rule_4 text after twice a ≡ true
  is_rule_4 a t f =
      let x2 : Bool = implies (product_at (instr_at text a)) (not (starts_at after a) && not (starts_at twice a)) in
      let x3 : Bool = not (jumps_by (instr_at text a) && in_slot text a) in
      and_both (load_kept text a (loaded (instr_at text a))) (x2 && x3) (is_load a t f (loaded (instr_at text a)) refl)
      (and_both x2 x3
      (is_implied (product_at (instr_at text a)) (not (starts_at after a) && not (starts_at twice a)) (λ h.
      let p : (i : Instr) × (At text a i × (is_product i ≡ true)) = product_instr text a h in
      and_both (not (starts_at after a)) (not (starts_at twice a))
      (not_is (starts_at after a) (λ m. let w : After text a = mark_is text (After text) after after_table a m in f.behind_move p.0 w.0 p.1.0 p.1.1 w.1.1 w.1.0))
      (not_is (starts_at twice a) (λ m. let w : Twice text a = mark_is text (Twice text) twice twice_table a m in f.behind_next p.0 w.1.0.0 w.0 p.1.0 p.1.1 w.1.0.1.1 w.1.1 w.1.0.1.0))))
      (not_is (jumps_by (instr_at text a) && in_slot text a) (λ h.
      let p : (jumps_by (instr_at text a) ≡ true) × (in_slot text a ≡ true) = and_parts (jumps_by (instr_at text a)) (in_slot text a) h in
      let j : (i : Instr) × (At text a i × (is_jump i ≡ true)) = jump_instr text a p.0 in
      f.jumps j.0 j.1.0 j.1.1 (slot_is text a p.1))))

module _ (text : List ℕ) where
  -- 5
  inside_is : (b : ℕ) (o : Option ℕ) → o ≡ Some b → inside_by text o ≡ true → InText text b
  inside_is b o e h = words_text text b (sym (ap (λ (x : Option ℕ). inside_by text x) e) ∙ h)

  is_inside : (o : Option ℕ) → ((b : ℕ) → o ≡ Some b → InText text b) → inside_by text o ≡ true
  is_inside None f = refl
  is_inside (Some b) f = text_words text b (f b refl)

  pub rule_5_is : (a : ℕ) → rule_5 text a ≡ true → GoesInside text a
  rule_5_is a h = λ b n.
      let p : (inside_by text (first_next text a) ≡ true) × (inside_by text (second_next text a) ≡ true) = and_parts (inside_by text (first_next text a)) (inside_by text (second_next text a)) h in
      elim (nexts_of text a b n) as (λ z. InText text b) [ inl e ↦ inside_is b (first_next text a) e p.0 | inr e ↦ inside_is b (second_next text a) e p.1 ]

  pub is_rule_5 : (a : ℕ) → InText text a → GoesInside text a → rule_5 text a ≡ true
  is_rule_5 a t f = and_both (inside_by text (first_next text a)) (inside_by text (second_next text a)) (is_inside (first_next text a) (λ b e. f b (first_is text a b t e))) (is_inside (second_next text a) (λ b e. f b (second_is text a b t e)))
