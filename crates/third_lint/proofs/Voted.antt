-- The tests decide which registers of a vote await a use, and which are voted.
use Rattle.std.proofs.Common.{◌≡◌, ◌≢◌, ℕ, ◌+◌, ◌-◌, ◌/◌, ◌%◌, ◌≤◌, ◌<◌, arith, ap, refl, sym, ◌∙◌, subst, List, length, true, Bool, inl, inr}
use Rattle.std.specs.Prelude.{Option, Some, None, ◌⊎◌, ◌==◌, ◌||◌, ◌&&◌, nat_le, not}
use Rattle.mips_isa.specs.declared.instr.Instr.TheVariants.{And}
use Rattle.mips_text.specs.Text.{InText, instr_at, Writes}
use Rattle.lint_words.specs.Words.{in_words}
use Rattle.lint_words.specs.Around.{writes_by, starts_at, is_at}
use Rattle.third_lint.specs.Flow.{Next}
use Rattle.third_lint.specs.Votes.{VoteAt, IsUse, Awaits}
use Rattle.third_lint.specs.Typing.{OnlyFollows, IsVoted}
use Rattle.third_lint.specs.Shapes.{second, third, vote_at, used_by, use_from, awaits_2, awaits, one_of, behind_vote, awaited_by, awaited}
use Rattle.third_lint.specs.RuleTests.{first_next, second_next, near_next, follows, straight_2, straight, voted_from, voted}
use Rattle.third_lint.specs.Tables.{Table, Entered}
use Rattle.third_lint.proofs.Places.{no_truth, in_text}
use Rattle.third_lint.proofs.Words.{next_text}
use Rattle.third_lint.proofs.Bools.{and_parts, and_both, or_parts, or_first, or_second, not_parts, not_is, same_number, number_same, le_of, of_le}
use Rattle.third_lint.proofs.Around.{writes_is, is_writes, words_text, text_words}
use Rattle.third_lint.proofs.Nexts.{first_is, second_is, nexts_of}
use Rattle.third_lint.proofs.Tables.{mark_is, is_mark}
use Rattle.third_lint.proofs.Patterns.{vote_is, is_vote, triple_second, triple_third, used_is, is_used, use_text}

-- a use that a register of the vote at v awaits
pub record Use (text : List ℕ) (v a r : ℕ) : Type 0 where
  pub at : ℕ
  pub used : IsUse text at r
  pub from : v + 24 ≤ at
  pub within : at ≤ v + 32
  pub upto : a ≤ at
  pub unwritten : (w : ℕ) → v + 24 ≤ w → w < at → Writes text w r → ⊥

from_is : (text : List ℕ) (a r u : ℕ) → use_from text a r u ≡ true → (a ≤ u) × IsUse text u r
from_is text a r u h = let p : (nat_le a u ≡ true) × (used_by (instr_at text u) r ≡ true) = and_parts (nat_le a u) (used_by (instr_at text u) r) h in (le_of a u p.0, used_is text u r p.1)

is_from : (text : List ℕ) (a r u : ℕ) → a ≤ u → IsUse text u r → use_from text a r u ≡ true
is_from text a r u l k = and_both (nat_le a u) (used_by (instr_at text u) r) (of_le a u l) (is_used text u r k)

writes_aligned : (text : List ℕ) (w r : ℕ) → Writes text w r → w % 4 ≡ 0
writes_aligned text w r k = (in_text text w k.instr k.at).aligned

none_first : (v w : ℕ) → v + 24 ≤ w → w < v + 24 → ⊥
none_first v w h k = omega arith

one_first : (v w : ℕ) → v % 4 ≡ 0 → w % 4 ≡ 0 → v + 24 ≤ w → w < v + 28 → w ≡ v + 24
one_first v w h k l m = omega arith

two_first : (v w : ℕ) → v % 4 ≡ 0 → w % 4 ≡ 0 → v + 24 ≤ w → w < v + 32 → (w ≡ v + 24) ⊎ (w ≡ v + 28)
two_first v w h k l m = grind arith

unwritten_at : (text : List ℕ) (r u w : ℕ) → not (writes_by (instr_at text u) r) ≡ true → w ≡ u → Writes text w r → ⊥
unwritten_at text r u w h e k = not_parts (writes_by (instr_at text u) r) h (is_writes text u r (subst (λ (x : ℕ). Writes text x r) e k))

up : (v m n : ℕ) → m ≤ n → v + m ≤ v + n
up v m n h = omega arith

awaits_is : (text : List ℕ) (v a r : ℕ) → v % 4 ≡ 0 → awaits text v a r ≡ true → Use text v a r
awaits_is text v a r al h = elim (or_parts (use_from text a r (v + 24)) (not (writes_by (instr_at text (v + 24)) r) && awaits_2 text v a r) h) as (λ z. Use text v a r) [
  | inl k ↦ let p : (a ≤ v + 24) × IsUse text (v + 24) r = from_is text a r (v + 24) k in
      record { at = v + 24; used = p.1; from = up v 24 24 (omega arith); within = up v 24 32 (omega arith); upto = p.0; unwritten = λ w l m. absurd (none_first v w l m) }
  | inr k ↦
      let q : (not (writes_by (instr_at text (v + 24)) r) ≡ true) × (awaits_2 text v a r ≡ true) = and_parts (not (writes_by (instr_at text (v + 24)) r)) (awaits_2 text v a r) k in
      elim (or_parts (use_from text a r (v + 28)) (not (writes_by (instr_at text (v + 28)) r) && use_from text a r (v + 32)) q.1) as (λ z. Use text v a r) [
        | inl k ↦ let p : (a ≤ v + 28) × IsUse text (v + 28) r = from_is text a r (v + 28) k in
            record { at = v + 28; used = p.1; from = up v 24 28 (omega arith); within = up v 28 32 (omega arith); upto = p.0; unwritten = λ w l m x. unwritten_at text r (v + 24) w q.0 (one_first v w al (writes_aligned text w r x) l m) x }
        | inr k ↦
            let s : (not (writes_by (instr_at text (v + 28)) r) ≡ true) × (use_from text a r (v + 32) ≡ true) = and_parts (not (writes_by (instr_at text (v + 28)) r)) (use_from text a r (v + 32)) k in
            let p : (a ≤ v + 32) × IsUse text (v + 32) r = from_is text a r (v + 32) s.1 in
            record { at = v + 32; used = p.1; from = up v 24 32 (omega arith); within = up v 32 32 (omega arith); upto = p.0; unwritten = λ w l m x. elim (two_first v w al (writes_aligned text w r x) l m) as (λ z. ⊥) [ inl e ↦ unwritten_at text r (v + 24) w q.0 e x | inr e ↦ unwritten_at text r (v + 28) w s.0 e x ] }
      ]
]

which : (v u : ℕ) → v % 4 ≡ 0 → u % 4 ≡ 0 → v + 24 ≤ u → u ≤ v + 32 → (u ≡ v + 24) ⊎ ((u ≡ v + 28) ⊎ (u ≡ v + 32))
which v u h k l m = grind arith

less_at : (v u m n : ℕ) → u ≡ v + n → m < n → v + m < u
less_at v u m n e h = omega arith

free_at : (text : List ℕ) (v a r m : ℕ) (k : Use text v a r) → 24 ≤ m → v + m < k.at → not (writes_by (instr_at text (v + m)) r) ≡ true
free_at text v a r m k l h = not_is (writes_by (instr_at text (v + m)) r) (λ w. k.unwritten (v + m) (up v 24 m l) h (writes_is text (v + m) r w))

use_at : (text : List ℕ) (v a r n : ℕ) (k : Use text v a r) → k.at ≡ v + n → use_from text a r (v + n) ≡ true
use_at text v a r n k e = is_from text a r (v + n) (subst (λ (x : ℕ). a ≤ x) e k.upto) (subst (λ (x : ℕ). IsUse text x r) e k.used)

is_awaits : (text : List ℕ) (v a r : ℕ) → v % 4 ≡ 0 → Use text v a r → awaits text v a r ≡ true
is_awaits text v a r al k = elim (which v k.at al (use_text text k.at r k.used).aligned k.from k.within) as (λ z. awaits text v a r ≡ true) [
  | inl e ↦ or_first (use_from text a r (v + 24)) (not (writes_by (instr_at text (v + 24)) r) && awaits_2 text v a r) (use_at text v a r 24 k e)
  | inr (inl e) ↦ or_second (use_from text a r (v + 24)) (not (writes_by (instr_at text (v + 24)) r) && awaits_2 text v a r)
      (and_both (not (writes_by (instr_at text (v + 24)) r)) (awaits_2 text v a r) (free_at text v a r 24 k (omega arith) (less_at v k.at 24 28 e (omega arith)))
      (or_first (use_from text a r (v + 28)) (not (writes_by (instr_at text (v + 28)) r) && use_from text a r (v + 32)) (use_at text v a r 28 k e)))
  | inr (inr e) ↦ or_second (use_from text a r (v + 24)) (not (writes_by (instr_at text (v + 24)) r) && awaits_2 text v a r)
      (and_both (not (writes_by (instr_at text (v + 24)) r)) (awaits_2 text v a r) (free_at text v a r 24 k (omega arith) (less_at v k.at 24 32 e (omega arith)))
      (or_second (use_from text a r (v + 28)) (not (writes_by (instr_at text (v + 28)) r) && use_from text a r (v + 32))
      (and_both (not (writes_by (instr_at text (v + 28)) r)) (use_from text a r (v + 32)) (free_at text v a r 28 k (omega arith) (less_at v k.at 28 32 e (omega arith))) (use_at text v a r 32 k e))))
]

-- one of the three registers of a vote
pub one_is : (x r : ℕ) → one_of x r ≡ true → (r ≡ x) ⊎ ((r ≡ second x) ⊎ (r ≡ third x))
one_is x r h = elim (or_parts (r == x) ((r == second x) || (r == third x)) h) as (λ z. (r ≡ x) ⊎ ((r ≡ second x) ⊎ (r ≡ third x))) [
  | inl k ↦ inl (same_number r x k)
  | inr k ↦ elim (or_parts (r == second x) (r == third x) k) as (λ z. (r ≡ x) ⊎ ((r ≡ second x) ⊎ (r ≡ third x))) [ inl k ↦ inr (inl (same_number r (second x) k)) | inr k ↦ inr (inr (same_number r (third x) k)) ]
]

is_one : (x r : ℕ) → (r ≡ x) ⊎ ((r ≡ second x) ⊎ (r ≡ third x)) → one_of x r ≡ true
is_one x r (inl e) = or_first (r == x) ((r == second x) || (r == third x)) (number_same r x e)
is_one x r (inr (inl e)) = or_second (r == x) ((r == second x) || (r == third x)) (or_first (r == second x) (r == third x) (number_same r (second x) e))
is_one x r (inr (inr e)) = or_second (r == x) ((r == second x) || (r == third x)) (or_second (r == second x) (r == third x) (number_same r (third x) e))

behind_is : (v a x r : ℕ) → behind_vote v a x r ≡ true → (v + 24 ≤ a) ⊎ ((a ≡ v + 20) × (r ≡ second x))
behind_is v a x r h = elim (or_parts (nat_le (v + 24) a) ((a == v + 20) && (r == second x)) h) as (λ z. (v + 24 ≤ a) ⊎ ((a ≡ v + 20) × (r ≡ second x))) [
  | inl k ↦ inl (le_of (v + 24) a k)
  | inr k ↦ let p : ((a == v + 20) ≡ true) × ((r == second x) ≡ true) = and_parts (a == v + 20) (r == second x) k in inr (same_number a (v + 20) p.0, same_number r (second x) p.1)
]

is_behind : (v a x r : ℕ) → (v + 24 ≤ a) ⊎ ((a ≡ v + 20) × (r ≡ second x)) → behind_vote v a x r ≡ true
is_behind v a x r (inl h) = or_first (nat_le (v + 24) a) ((a == v + 20) && (r == second x)) (of_le (v + 24) a h)
is_behind v a x r (inr p) = or_second (nat_le (v + 24) a) ((a == v + 20) && (r == second x)) (and_both (a == v + 20) (r == second x) (number_same a (v + 20) p.0) (number_same r (second x) p.1))

pub record AwaitsBy (text : List ℕ) (v a r : ℕ) : Type 0 where
  pub x : ℕ
  pub is : vote_at text v ≡ Some x
  pub awaits : Awaits text v x (second x) (third x) a r

pub awaited_is : (text : List ℕ) (v a r : ℕ) → a % 4 ≡ 0 → awaited text v a r ≡ true → AwaitsBy text v a r
awaited_is text v a r al h = by (vote_at text v) refl h
  where
    by : (o : Option ℕ) → vote_at text v ≡ o → awaited_by text v a r o ≡ true → AwaitsBy text v a r
    by None e h = absurd (no_truth h)
    by (Some x) e h =
        let o : VoteAt text v x (second x) (third x) = vote_is text v x e in
        let p : (one_of x r ≡ true) × ((behind_vote v a x r && awaits text v a r) ≡ true) = and_parts (one_of x r) (behind_vote v a x r && awaits text v a r) h in
        let q : (behind_vote v a x r ≡ true) × (awaits text v a r ≡ true) = and_parts (behind_vote v a x r) (awaits text v a r) p.1 in
        let k : Use text v a r = awaits_is text v a r (in_text text v (And 1 x (second x)) o.both).aligned q.1 in
        record { x = x; is = e; awaits = record { vote = o; one = one_is x r p.0; use_at = k.at; used = k.used; from = k.from; within = k.within; aligned = al; upto = k.upto; behind = behind_is v a x r q.0; unwritten = k.unwritten } }

pub is_awaited : (text : List ℕ) (v x y z a r : ℕ) → Awaits text v x y z a r → awaited text v a r ≡ true
is_awaited text v x y z a r k =
    let e : y ≡ second x = triple_second x y z k.vote.triple in
    let f : z ≡ third x = triple_third x y z k.vote.triple in
    let u : Use text v a r = record { at = k.use_at; used = k.used; from = k.from; within = k.within; upto = k.upto; unwritten = k.unwritten } in
    ap (λ (o : Option ℕ). awaited_by text v a r o) (is_vote text v x y z k.vote)
    ∙ and_both (one_of x r) (behind_vote v a x r && awaits text v a r)
    (is_one x r (elim k.one as (λ w. (r ≡ x) ⊎ ((r ≡ second x) ⊎ (r ≡ third x))) [ inl m ↦ inl m | inr (inl m) ↦ inr (inl (m ∙ e)) | inr (inr m) ↦ inr (inr (m ∙ f)) ]))
    (and_both (behind_vote v a x r) (awaits text v a r)
    (is_behind v a x r (elim k.behind as (λ w. (v + 24 ≤ a) ⊎ ((a ≡ v + 20) × (r ≡ second x))) [ inl m ↦ inl m | inr m ↦ inr (m.0, m.1 ∙ e) ]))
    (is_awaits text v a r (in_text text v (And 1 x y) k.vote.both).aligned u))

-- where a vote may stand of which a register awaits its use at a
pub places : (v a u : ℕ) → v % 4 ≡ 0 → a % 4 ≡ 0 → v + 24 ≤ a → a ≤ u → u ≤ v + 32 → (v ≡ a - 24) ⊎ ((v ≡ a - 28) ⊎ (v ≡ a - 32))
places v a u h k l m n = grind arith

at_is : (o : Option ℕ) (c : ℕ) → is_at o c ≡ true → o ≡ Some c
at_is None c h = absurd (no_truth h)
at_is (Some p) c h = ap (λ (x : ℕ). Some x) (same_number p c h)

is_at_of : (o : Option ℕ) (c : ℕ) → o ≡ Some c → is_at o c ≡ true
is_at_of o c e = ap (λ (x : Option ℕ). is_at x c) e ∙ number_same c c refl

near_is : (text : List ℕ) (p w : ℕ) → p ≡ w - 4 → near_next text w ≡ true → Next text p w
near_is text p w e h =
    let k : (in_words (length text) (w - 4) ≡ true) × ((is_at (first_next text (w - 4)) w || is_at (second_next text (w - 4)) w) ≡ true) = and_parts (in_words (length text) (w - 4)) (is_at (first_next text (w - 4)) w || is_at (second_next text (w - 4)) w) h in
    let t : InText text (w - 4) = words_text text (w - 4) k.0 in
    subst (λ (x : ℕ). Next text x w) (sym e) (elim (or_parts (is_at (first_next text (w - 4)) w) (is_at (second_next text (w - 4)) w) k.1) as (λ z. Next text (w - 4) w) [
      | inl m ↦ first_is text (w - 4) w t (at_is (first_next text (w - 4)) w m)
      | inr m ↦ second_is text (w - 4) w t (at_is (second_next text (w - 4)) w m)
    ])

is_near : (text : List ℕ) (p w : ℕ) → p ≡ w - 4 → Next text p w → near_next text w ≡ true
is_near text p w e n =
    let m : Next text (w - 4) w = subst (λ (x : ℕ). Next text x w) e n in
    and_both (in_words (length text) (w - 4)) (is_at (first_next text (w - 4)) w || is_at (second_next text (w - 4)) w) (text_words text (w - 4) (next_text text (w - 4) w m))
    (elim (nexts_of text (w - 4) w m) as (λ z. (is_at (first_next text (w - 4)) w || is_at (second_next text (w - 4)) w) ≡ true) [
      | inl k ↦ or_first (is_at (first_next text (w - 4)) w) (is_at (second_next text (w - 4)) w) (is_at_of (first_next text (w - 4)) w k)
      | inr k ↦ or_second (is_at (first_next text (w - 4)) w) (is_at (second_next text (w - 4)) w) (is_at_of (second_next text (w - 4)) w k)
    ])

number_or : (x y : ℕ) → (x ≡ y) ⊎ (x ≢ y)
number_or x y = grind arith

module _ (text : List ℕ) (entry : ℕ) (entered : List Bool) (table : Table text (Entered text entry) entered) where
  pub only_is : (w : ℕ) → InText text w → (starts_at entered w ≡ true → ⊥) → OnlyFollows text entry w
  only_is w t n = record {
    no_landing = λ l. n (is_mark text (Entered text entry) entered table w t (inl l));
    only = λ p k. elim (number_or (p + 4) w) as (λ z. p + 4 ≡ w) [ inl e ↦ e | inr d ↦ absurd (n (is_mark text (Entered text entry) entered table w t (inr (p, (k, d))))) ];
  }

  pub is_only : (w : ℕ) → OnlyFollows text entry w → starts_at entered w ≡ true → ⊥
  is_only w o h = elim (mark_is text (Entered text entry) entered table w h) as (λ z. ⊥) [ inl l ↦ o.no_landing l | inr m ↦ m.1.1 (o.only m.0 m.1.0) ]

  abbrev Step : ℕ → ℕ → Type 0
  Step p w = Next text p w × OnlyFollows text entry w

  follows_is : (p w : ℕ) → p ≡ w - 4 → InText text w → follows text entered w ≡ true → Step p w
  follows_is p w e t h = let k : (near_next text w ≡ true) × (not (starts_at entered w) ≡ true) = and_parts (near_next text w) (not (starts_at entered w)) h in (near_is text p w e k.0, only_is w t (not_parts (starts_at entered w) k.1))

  is_follows : (p w : ℕ) → p ≡ w - 4 → Step p w → follows text entered w ≡ true
  is_follows p w e s = and_both (near_next text w) (not (starts_at entered w)) (is_near text p w e s.0) (not_is (starts_at entered w) (is_only w s.1))

  -- the words from the end of a vote on
  between : (v w a : ℕ) → InText text v → InText text a → v ≤ w → w ≤ a → w % 4 ≡ 0 → InText text w
  between v w a t i l m al = record { aligned = al; from = low v w t.from l; upto = high w a (length text) m i.upto }
    where
      low : (v w : ℕ) → 0x00400000 ≤ v → v ≤ w → 0x00400000 ≤ w
      low v w h l = omega arith

      high : (w a n : ℕ) → w ≤ a → (a - 0x00400000) / 4 < n → (w - 0x00400000) / 4 < n
      high w a n h l = omega arith

  back_of : (p w : ℕ) → p + 4 ≡ w → p ≡ w - 4
  back_of p w e = omega arith

  way : (v p a : ℕ) → v % 4 ≡ 0 → p % 4 ≡ 0 → v + 20 ≤ p → p + 4 ≤ a → a ≤ v + 32 → (p + 4 ≡ v + 24) ⊎ (((p + 4 ≡ v + 28) × (v + 28 ≤ a)) ⊎ ((p + 4 ≡ v + 32) × (v + 32 ≤ a)))
  way v p a h k l m n = grind arith

  not_now : (a v m n : ℕ) → a ≡ v + m → v + n ≤ a → m < n → ⊥
  not_now a v m n e h l = omega arith

  straight_is : (v a : ℕ) → InText text v → InText text a → v + 24 ≤ a → a ≤ v + 32 → straight text entered v a ≡ true → (p : ℕ) → v + 20 ≤ p → p + 4 ≤ a → p % 4 ≡ 0 → Step p (p + 4)
  straight_is v a t i l u h p f g al =
      let k : (follows text entered (v + 24) ≡ true) × (((a == v + 24) || straight_2 text entered v a) ≡ true) = and_parts (follows text entered (v + 24)) ((a == v + 24) || straight_2 text entered v a) h in
      let w : InText text (p + 4) = between v (p + 4) a t i (low v p f) g (four p al) in
      let here : (n : ℕ) → p + 4 ≡ v + n → follows text entered (v + n) ≡ true → Step p (p + 4) = λ n e x. follows_is p (p + 4) (back_of p (p + 4) refl) w (subst (λ (y : ℕ). follows text entered y ≡ true) (sym e) x) in
      elim (way v p a t.aligned al f g u) as (λ z. Step p (p + 4)) [
        | inl e ↦ here 24 e k.0
        | inr r ↦
            let s : v + 28 ≤ a → straight_2 text entered v a ≡ true = λ b. elim (or_parts (a == v + 24) (straight_2 text entered v a) k.1) as (λ z. straight_2 text entered v a ≡ true) [ inl e ↦ absurd (not_now a v 24 28 (same_number a (v + 24) e) b (omega arith)) | inr x ↦ x ] in
            let q : v + 28 ≤ a → (follows text entered (v + 28) ≡ true) × (((a == v + 28) || follows text entered (v + 32)) ≡ true) = λ b. and_parts (follows text entered (v + 28)) ((a == v + 28) || follows text entered (v + 32)) (s b) in
            elim r as (λ z. Step p (p + 4)) [
              | inl e ↦ here 28 e.0 (q e.1).0
              | inr e ↦ here 32 e.0 (elim (or_parts (a == v + 28) (follows text entered (v + 32)) (q (less v a e.1)).1) as (λ z. follows text entered (v + 32) ≡ true) [ inl b ↦ absurd (not_now a v 28 32 (same_number a (v + 28) b) e.1 (omega arith)) | inr x ↦ x ])
            ]
      ]
    where
      low : (v p : ℕ) → v + 20 ≤ p → v ≤ p + 4
      low v p h = omega arith

      four : (p : ℕ) → p % 4 ≡ 0 → (p + 4) % 4 ≡ 0
      four p h = omega arith

      less : (v a : ℕ) → v + 32 ≤ a → v + 28 ≤ a
      less v a h = omega arith

  is_straight : (v a : ℕ) → v % 4 ≡ 0 → a % 4 ≡ 0 → v + 24 ≤ a → a ≤ v + 32 → ((p : ℕ) → v + 20 ≤ p → p + 4 ≤ a → p % 4 ≡ 0 → Step p (p + 4)) → straight text entered v a ≡ true
  is_straight v a al bl l u f =
      and_both (follows text entered (v + 24)) ((a == v + 24) || straight_2 text entered v a) (at 20 24 refl (omega arith) (fours v al 20 refl) l)
      (elim (number_or a (v + 24)) as (λ z. ((a == v + 24) || straight_2 text entered v a) ≡ true) [
        | inl e ↦ or_first (a == v + 24) (straight_2 text entered v a) (number_same a (v + 24) e)
        | inr n ↦ or_second (a == v + 24) (straight_2 text entered v a)
            (and_both (follows text entered (v + 28)) ((a == v + 28) || follows text entered (v + 32)) (at 24 28 refl (omega arith) (fours v al 24 refl) (more v a al bl l n))
            (elim (number_or a (v + 28)) as (λ z. ((a == v + 28) || follows text entered (v + 32)) ≡ true) [
              | inl e ↦ or_first (a == v + 28) (follows text entered (v + 32)) (number_same a (v + 28) e)
              | inr m ↦ or_second (a == v + 28) (follows text entered (v + 32)) (at 28 32 refl (omega arith) (fours v al 28 refl) (most v a al bl l n m))
            ]))
      ])
    where
      fours : (v : ℕ) → v % 4 ≡ 0 → (n : ℕ) → n % 4 ≡ 0 → (v + n) % 4 ≡ 0
      fours v h n k = omega arith

      more : (v a : ℕ) → v % 4 ≡ 0 → a % 4 ≡ 0 → v + 24 ≤ a → a ≢ v + 24 → v + 28 ≤ a
      more v a h k l n = grind arith

      most : (v a : ℕ) → v % 4 ≡ 0 → a % 4 ≡ 0 → v + 24 ≤ a → a ≢ v + 24 → a ≢ v + 28 → v + 32 ≤ a
      most v a h k l n m = grind arith

      sum : (v m n : ℕ) → m + 4 ≡ n → v + m + 4 ≡ v + n
      sum v m n e = omega arith

      low : (v m : ℕ) → 20 ≤ m → v + 20 ≤ v + m
      low v m h = omega arith

      at : (m n : ℕ) → m + 4 ≡ n → 20 ≤ m → (v + m) % 4 ≡ 0 → v + n ≤ a → follows text entered (v + n) ≡ true
      at m n e h k b =
          let s : Step (v + m) (v + m + 4) = f (v + m) (low v m h) (subst (λ (x : ℕ). x ≤ a) (sym (sum v m n e)) b) k in
          is_follows (v + m) (v + n) (back_of (v + m) (v + n) (sum v m n e)) (subst (λ (x : ℕ). Step (v + m) x) (sum v m n e) s)

  pub from_is_voted : (v a r : ℕ) → InText text a → voted_from text entered v a r ≡ true → IsVoted text entry a r
  from_is_voted v a r t h =
      let p : (nat_le (v + 24) a ≡ true) × ((awaited text v a r && straight text entered v a) ≡ true) = and_parts (nat_le (v + 24) a) (awaited text v a r && straight text entered v a) h in
      let q : (awaited text v a r ≡ true) × (straight text entered v a ≡ true) = and_parts (awaited text v a r) (straight text entered v a) p.1 in
      let k : AwaitsBy text v a r = awaited_is text v a r t.aligned q.0 in
      let l : v + 24 ≤ a = le_of (v + 24) a p.0 in
      record { v = v; x = k.x; y = second k.x; z = third k.x; awaits = k.awaits; behind = l; straight = straight_is v a (in_text text v (And 1 k.x (second k.x)) k.awaits.vote.both) t l (trans a k.awaits.use_at (v + 32) k.awaits.upto k.awaits.within) q.1 }
    where
      trans : (a b c : ℕ) → a ≤ b → b ≤ c → a ≤ c
      trans a b c h k = omega arith

  pub is_voted_from : (a r : ℕ) (g : IsVoted text entry a r) → voted_from text entered g.v a r ≡ true
  is_voted_from a r g = and_both (nat_le (g.v + 24) a) (awaited text g.v a r && straight text entered g.v a) (of_le (g.v + 24) a g.behind)
      (and_both (awaited text g.v a r) (straight text entered g.v a) (is_awaited text g.v g.x g.y g.z a r g.awaits)
      (is_straight g.v a (in_text text g.v (And 1 g.x g.y) g.awaits.vote.both).aligned g.awaits.aligned g.behind (trans a g.awaits.use_at (g.v + 32) g.awaits.upto g.awaits.within) g.straight))
    where
      trans : (a b c : ℕ) → a ≤ b → b ≤ c → a ≤ c
      trans a b c h k = omega arith

  pub voted_is : (a r : ℕ) → InText text a → voted text entered a r ≡ true → IsVoted text entry a r
  voted_is a r t h = elim (or_parts (voted_from text entered (a - 24) a r) (voted_from text entered (a - 28) a r || voted_from text entered (a - 32) a r) h) as (λ z. IsVoted text entry a r) [
    | inl k ↦ from_is_voted (a - 24) a r t k
    | inr k ↦ elim (or_parts (voted_from text entered (a - 28) a r) (voted_from text entered (a - 32) a r) k) as (λ z. IsVoted text entry a r) [
      | inl k ↦ from_is_voted (a - 28) a r t k
      | inr k ↦ from_is_voted (a - 32) a r t k
    ]
  ]

  pub is_voted : (a r : ℕ) → IsVoted text entry a r → voted text entered a r ≡ true
  is_voted a r g =
      let h : voted_from text entered g.v a r ≡ true = is_voted_from a r g in
      elim (places g.v a g.awaits.use_at (in_text text g.v (And 1 g.x g.y) g.awaits.vote.both).aligned g.awaits.aligned g.behind g.awaits.upto g.awaits.within) as (λ z. voted text entered a r ≡ true) [
        | inl e ↦ or_first (voted_from text entered (a - 24) a r) (voted_from text entered (a - 28) a r || voted_from text entered (a - 32) a r) (subst (λ (v : ℕ). voted_from text entered v a r ≡ true) e h)
        | inr (inl e) ↦ or_second (voted_from text entered (a - 24) a r) (voted_from text entered (a - 28) a r || voted_from text entered (a - 32) a r) (or_first (voted_from text entered (a - 28) a r) (voted_from text entered (a - 32) a r) (subst (λ (v : ℕ). voted_from text entered v a r ≡ true) e h))
        | inr (inr e) ↦ or_second (voted_from text entered (a - 24) a r) (voted_from text entered (a - 28) a r || voted_from text entered (a - 32) a r) (or_second (voted_from text entered (a - 28) a r) (voted_from text entered (a - 32) a r) (subst (λ (v : ℕ). voted_from text entered v a r ≡ true) e h))
      ]
