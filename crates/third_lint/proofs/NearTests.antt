-- The tests decide which registers have a window at a word; and where the windows of a text are.
use Rattle.std.proofs.Common.{◌≡◌, ℕ, ◌+◌, ◌-◌, ◌/◌, ◌%◌, ◌≤◌, ◌<◌, arith, ap, refl, sym, ◌∙◌, subst, List, length, true, Bool, inl, inr}
use Rattle.std.specs.Prelude.{Option, Some, None, ◌⊎◌, ◌==◌, ◌||◌, ◌&&◌}
use Rattle.mips_isa.specs.declared.instr.Instr.{Instr}
use Rattle.mips_isa.specs.declared.instr.Instr.TheVariants.{Syscall, And, Or, Addu}
use Rattle.mips_text.specs.Text.{InText, At, instr_at}
use Rattle.lint_words.specs.Around.{is_some, reads_by}
use Rattle.lint_words.specs.Windows.{serving}
use Rattle.third_lint.specs.Votes.{IsTriple, value, stack, link, VoteAt, Awaits, NearThird, settled, both_bits, other_bits, awaiting, service, result}
use Rattle.third_lint.specs.Shapes.{second, third, vote_at, settled_by, settled_at, both_at, awaited, awaited_at, answered, helps, near}
use Rattle.third_lint.specs.WindowList.{WindowsInside}
use Rattle.third_lint.proofs.Places.{no_truth, in_text}
use Rattle.third_lint.proofs.Bools.{and_parts, and_both, or_parts, or_first, or_second, same_number, number_same}
use Rattle.third_lint.proofs.Around.{reads_is, is_reads}
use Rattle.third_lint.proofs.Patterns.{vote_is, is_vote, vote_some, some_vote, use_text, serving_is}
use Rattle.third_lint.proofs.Voted.{AwaitsBy, awaited_is, is_awaited, places}

sub_of : (a v n : ℕ) → a ≡ v + n → v ≡ a - n
sub_of a v n e = omega arith

add_of : (a n : ℕ) → 0x00400000 ≤ a - n → n ≤ 32 → a ≡ a - n + n
add_of a n h l = omega arith

-- a vote at a distance before a word
pub vote_here : (text : List ℕ) (a n : ℕ) → n ≤ 32 → is_some (vote_at text (a - n)) ≡ true → (x : ℕ) × (VoteAt text (a - n) x (second x) (third x) × (a ≡ a - n + n))
vote_here text a n l h = let p : (x : ℕ) × VoteAt text (a - n) x (second x) (third x) = vote_some text (a - n) h in (p.0, (p.1, add_of a n (in_text text (a - n) (And 1 p.0 (second p.0)) p.1.both).from l))

here_vote : (text : List ℕ) (a n v x y z : ℕ) → VoteAt text v x y z → a ≡ v + n → is_some (vote_at text (a - n)) ≡ true
here_vote text a n v x y z o e = subst (λ (w : ℕ). is_some (vote_at text w) ≡ true) (sub_of a v n e) (some_vote text v x y z o)

-- a settled register
settled_is : (o : Option ℕ) (r : ℕ) → settled_by o r ≡ true → o ≡ Some r
settled_is None r h = absurd (no_truth h)
settled_is (Some x) r h = ap (λ (v : ℕ). Some v) (sym (same_number r x h))

is_settled : (text : List ℕ) (a n v x y z r : ℕ) → VoteAt text v x y z → a ≡ v + n → r ≡ x → settled_by (vote_at text (a - n)) r ≡ true
is_settled text a n v x y z r o e f = subst (λ (w : ℕ). settled_by (vote_at text w) r ≡ true) (sub_of a v n e) (ap (λ (p : Option ℕ). settled_by p r) (is_vote text v x y z o) ∙ number_same r x f)

settled_here : (text : List ℕ) (a n r : ℕ) → n ≤ 32 → settled_by (vote_at text (a - n)) r ≡ true → VoteAt text (a - n) r (second r) (third r) × (a ≡ a - n + n)
settled_here text a n r l h =
    let o : VoteAt text (a - n) r (second r) (third r) = vote_is text (a - n) r (settled_is (vote_at text (a - n)) r h) in
    (o, add_of a n (in_text text (a - n) (And 1 r (second r)) o.both).from l)

settled_window : (text : List ℕ) (a r : ℕ) → settled_at text a r ≡ true → NearThird text a r
settled_window text a r h = elim (or_parts (settled_by (vote_at text (a - 16)) r) (settled_by (vote_at text (a - 20)) r) h) as (λ z. NearThird text a r) [
  | inl k ↦ let p : VoteAt text (a - 16) r (second r) (third r) × (a ≡ a - 16 + 16) = settled_here text a 16 r (omega arith) k in settled (a - 16) r (second r) (third r) p.0 (inl p.1) refl
  | inr k ↦ let p : VoteAt text (a - 20) r (second r) (third r) × (a ≡ a - 20 + 20) = settled_here text a 20 r (omega arith) k in settled (a - 20) r (second r) (third r) p.0 (inr p.1) refl
]

-- a register that awaits its use
awaits_here : (text : List ℕ) (a v r : ℕ) → a % 4 ≡ 0 → awaited text v a r ≡ true → NearThird text a r
awaits_here text a v r al h = let k : AwaitsBy text v a r = awaited_is text v a r al h in awaiting v k.x (second k.x) (third k.x) k.awaits

awaited_window : (text : List ℕ) (a r : ℕ) → a % 4 ≡ 0 → awaited_at text a r ≡ true → NearThird text a r
awaited_window text a r al h = elim (or_parts (awaited text (a - 20) a r) (awaited text (a - 24) a r || (awaited text (a - 28) a r || awaited text (a - 32) a r)) h) as (λ z. NearThird text a r) [
  | inl k ↦ awaits_here text a (a - 20) r al k
  | inr h ↦ elim (or_parts (awaited text (a - 24) a r) (awaited text (a - 28) a r || awaited text (a - 32) a r) h) as (λ z. NearThird text a r) [
    | inl k ↦ awaits_here text a (a - 24) r al k
    | inr h ↦ elim (or_parts (awaited text (a - 28) a r) (awaited text (a - 32) a r) h) as (λ z. NearThird text a r) [
      | inl k ↦ awaits_here text a (a - 28) r al k
      | inr k ↦ awaits_here text a (a - 32) r al k
    ]
  ]
]

is_awaiting : (text : List ℕ) (v x y z a r : ℕ) → Awaits text v x y z a r → awaited_at text a r ≡ true
is_awaiting text v x y z a r k =
    let h : awaited text v a r ≡ true = is_awaited text v x y z a r k in
    let f : ℕ → Bool = λ w. awaited text w a r in
    elim k.behind as (λ m. awaited_at text a r ≡ true) [
      | inr m ↦ or_first (f (a - 20)) (f (a - 24) || (f (a - 28) || f (a - 32))) (subst (λ (w : ℕ). awaited text w a r ≡ true) (sub_of a v 20 m.0) h)
      | inl m ↦ or_second (f (a - 20)) (f (a - 24) || (f (a - 28) || f (a - 32))) (elim (places v a k.use_at (in_text text v (And 1 x y) k.vote.both).aligned k.aligned m k.upto k.within) as (λ n. (f (a - 24) || (f (a - 28) || f (a - 32))) ≡ true) [
        | inl e ↦ or_first (f (a - 24)) (f (a - 28) || f (a - 32)) (subst (λ (w : ℕ). awaited text w a r ≡ true) e h)
        | inr (inl e) ↦ or_second (f (a - 24)) (f (a - 28) || f (a - 32)) (or_first (f (a - 28)) (f (a - 32)) (subst (λ (w : ℕ). awaited text w a r ≡ true) e h))
        | inr (inr e) ↦ or_second (f (a - 24)) (f (a - 28) || f (a - 32)) (or_second (f (a - 28)) (f (a - 32)) (subst (λ (w : ℕ). awaited text w a r ≡ true) e h))
      ])
    ]

-- registers 1, 3 and 2
both_window : (text : List ℕ) (a r : ℕ) → r ≡ 1 → both_at text a ≡ true → NearThird text a r
both_window text a r e h = elim (or_parts (is_some (vote_at text (a - 4))) (is_some (vote_at text (a - 8)) || is_some (vote_at text (a - 12))) h) as (λ z. NearThird text a r) [
  | inl k ↦ let p : (x : ℕ) × (VoteAt text (a - 4) x (second x) (third x) × (a ≡ a - 4 + 4)) = vote_here text a 4 (omega arith) k in both_bits (a - 4) p.0 (second p.0) (third p.0) p.1.0 (inl p.1.1) e
  | inr h ↦ elim (or_parts (is_some (vote_at text (a - 8))) (is_some (vote_at text (a - 12))) h) as (λ z. NearThird text a r) [
    | inl k ↦ let p : (x : ℕ) × (VoteAt text (a - 8) x (second x) (third x) × (a ≡ a - 8 + 8)) = vote_here text a 8 (omega arith) k in both_bits (a - 8) p.0 (second p.0) (third p.0) p.1.0 (inr (inl p.1.1)) e
    | inr k ↦ let p : (x : ℕ) × (VoteAt text (a - 12) x (second x) (third x) × (a ≡ a - 12 + 12)) = vote_here text a 12 (omega arith) k in both_bits (a - 12) p.0 (second p.0) (third p.0) p.1.0 (inr (inr p.1.1)) e
  ]
]

low_four : (a n : ℕ) → 0x00400000 ≤ a - n → n ≤ 8 → a ≡ a - n + n
low_four a n h l = omega arith

answered_by : (text : List ℕ) (a r n : ℕ) → n ≤ 8 → r ≡ 2 → serving (instr_at text (a - n)) ≡ true → reads_by (instr_at text a) 2 ≡ true → (a ≡ a - n + n → (a ≡ a - n + 4) ⊎ (a ≡ a - n + 8)) → NearThird text a r
answered_by text a r n l e s k f =
    let h : At text (a - n) Syscall = serving_is (instr_at text (a - n)) s in
    result (a - n) (f (low_four a n (in_text text (a - n) Syscall h).from l)) h (reads_is text a 2 k) e

answered_window : (text : List ℕ) (a r : ℕ) → r ≡ 2 → answered text a ≡ true → NearThird text a r
answered_window text a r e h = elim (or_parts (serving (instr_at text a)) ((serving (instr_at text (a - 4)) || serving (instr_at text (a - 8))) && reads_by (instr_at text a) 2) h) as (λ z. NearThird text a r) [
  | inl k ↦ service (serving_is (instr_at text a) k) e
  | inr h ↦
      let p : ((serving (instr_at text (a - 4)) || serving (instr_at text (a - 8))) ≡ true) × (reads_by (instr_at text a) 2 ≡ true) = and_parts (serving (instr_at text (a - 4)) || serving (instr_at text (a - 8))) (reads_by (instr_at text a) 2) h in
      elim (or_parts (serving (instr_at text (a - 4))) (serving (instr_at text (a - 8))) p.0) as (λ z. NearThird text a r) [
        | inl k ↦ answered_by text a r 4 (omega arith) e k p.1 (λ x. inl x)
        | inr k ↦ answered_by text a r 8 (omega arith) e k p.1 (λ x. inr x)
      ]
]

helps_window : (text : List ℕ) (a r : ℕ) → helps text a r ≡ true → NearThird text a r
helps_window text a r h = elim (or_parts ((r == 1) && both_at text a) (((r == 3) && is_some (vote_at text (a - 12))) || ((r == 2) && answered text a)) h) as (λ z. NearThird text a r) [
  | inl k ↦ let p : ((r == 1) ≡ true) × (both_at text a ≡ true) = and_parts (r == 1) (both_at text a) k in both_window text a r (same_number r 1 p.0) p.1
  | inr h ↦ elim (or_parts ((r == 3) && is_some (vote_at text (a - 12))) ((r == 2) && answered text a) h) as (λ z. NearThird text a r) [
    | inl k ↦
        let p : ((r == 3) ≡ true) × (is_some (vote_at text (a - 12)) ≡ true) = and_parts (r == 3) (is_some (vote_at text (a - 12))) k in
        let q : (x : ℕ) × (VoteAt text (a - 12) x (second x) (third x) × (a ≡ a - 12 + 12)) = vote_here text a 12 (omega arith) p.1 in
        other_bits (a - 12) q.0 (second q.0) (third q.0) q.1.0 q.1.1 (same_number r 3 p.0)
    | inr k ↦ let p : ((r == 2) ≡ true) × (answered text a ≡ true) = and_parts (r == 2) (answered text a) k in answered_window text a r (same_number r 2 p.0) p.1
  ]
]

pub near_window : (text : List ℕ) (a r : ℕ) → a % 4 ≡ 0 → near text a r ≡ true → NearThird text a r
near_window text a r al h = elim (or_parts (settled_at text a r || awaited_at text a r) (helps text a r) h) as (λ z. NearThird text a r) [
  | inl h ↦ elim (or_parts (settled_at text a r) (awaited_at text a r) h) as (λ z. NearThird text a r) [ inl k ↦ settled_window text a r k | inr k ↦ awaited_window text a r al k ]
  | inr h ↦ helps_window text a r h
]

-- the other way round
by_settled : (text : List ℕ) (a r : ℕ) → settled_at text a r ≡ true → near text a r ≡ true
by_settled text a r h = or_first (settled_at text a r || awaited_at text a r) (helps text a r) (or_first (settled_at text a r) (awaited_at text a r) h)

by_awaited : (text : List ℕ) (a r : ℕ) → awaited_at text a r ≡ true → near text a r ≡ true
by_awaited text a r h = or_first (settled_at text a r || awaited_at text a r) (helps text a r) (or_second (settled_at text a r) (awaited_at text a r) h)

by_helps : (text : List ℕ) (a r : ℕ) → helps text a r ≡ true → near text a r ≡ true
by_helps text a r h = or_second (settled_at text a r || awaited_at text a r) (helps text a r) h

by_both : (text : List ℕ) (a r : ℕ) → r ≡ 1 → both_at text a ≡ true → near text a r ≡ true
by_both text a r e h = by_helps text a r (or_first ((r == 1) && both_at text a) (((r == 3) && is_some (vote_at text (a - 12))) || ((r == 2) && answered text a)) (and_both (r == 1) (both_at text a) (number_same r 1 e) h))

by_answer : (text : List ℕ) (a r : ℕ) → r ≡ 2 → answered text a ≡ true → near text a r ≡ true
by_answer text a r e h = by_helps text a r (or_second ((r == 1) && both_at text a) (((r == 3) && is_some (vote_at text (a - 12))) || ((r == 2) && answered text a))
    (or_second ((r == 3) && is_some (vote_at text (a - 12))) ((r == 2) && answered text a) (and_both (r == 2) (answered text a) (number_same r 2 e) h)))

serves : (text : List ℕ) (a : ℕ) → At text a Syscall → serving (instr_at text a) ≡ true
serves text a h = ap (λ (o : Option Instr). serving o) h

pub window_near : (text : List ℕ) (a r : ℕ) → NearThird text a r → near text a r ≡ true
window_near text a r (settled v x y z o (inl e) f) = by_settled text a r (or_first (settled_by (vote_at text (a - 16)) r) (settled_by (vote_at text (a - 20)) r) (is_settled text a 16 v x y z r o e f))
window_near text a r (settled v x y z o (inr e) f) = by_settled text a r (or_second (settled_by (vote_at text (a - 16)) r) (settled_by (vote_at text (a - 20)) r) (is_settled text a 20 v x y z r o e f))
window_near text a r (both_bits v x y z o (inl e) f) = by_both text a r f (or_first (is_some (vote_at text (a - 4))) (is_some (vote_at text (a - 8)) || is_some (vote_at text (a - 12))) (here_vote text a 4 v x y z o e))
window_near text a r (both_bits v x y z o (inr (inl e)) f) = by_both text a r f (or_second (is_some (vote_at text (a - 4))) (is_some (vote_at text (a - 8)) || is_some (vote_at text (a - 12))) (or_first (is_some (vote_at text (a - 8))) (is_some (vote_at text (a - 12))) (here_vote text a 8 v x y z o e)))
window_near text a r (both_bits v x y z o (inr (inr e)) f) = by_both text a r f (or_second (is_some (vote_at text (a - 4))) (is_some (vote_at text (a - 8)) || is_some (vote_at text (a - 12))) (or_second (is_some (vote_at text (a - 8))) (is_some (vote_at text (a - 12))) (here_vote text a 12 v x y z o e)))
window_near text a r (other_bits v x y z o e f) = by_helps text a r (or_second ((r == 1) && both_at text a) (((r == 3) && is_some (vote_at text (a - 12))) || ((r == 2) && answered text a))
    (or_first ((r == 3) && is_some (vote_at text (a - 12))) ((r == 2) && answered text a) (and_both (r == 3) (is_some (vote_at text (a - 12))) (number_same r 3 f) (here_vote text a 12 v x y z o e))))
window_near text a r (awaiting v x y z k) = by_awaited text a r (is_awaiting text v x y z a r k)
window_near text a r (service h e) = by_answer text a r e (or_first (serving (instr_at text a)) ((serving (instr_at text (a - 4)) || serving (instr_at text (a - 8))) && reads_by (instr_at text a) 2) (serves text a h))
window_near text a r (result b w h k e) = by_answer text a r e (or_second (serving (instr_at text a)) ((serving (instr_at text (a - 4)) || serving (instr_at text (a - 8))) && reads_by (instr_at text a) 2)
    (and_both (serving (instr_at text (a - 4)) || serving (instr_at text (a - 8))) (reads_by (instr_at text a) 2)
    (elim w as (λ z. (serving (instr_at text (a - 4)) || serving (instr_at text (a - 8))) ≡ true) [
      | inl f ↦ or_first (serving (instr_at text (a - 4))) (serving (instr_at text (a - 8))) (subst (λ (x : ℕ). serving (instr_at text x) ≡ true) (sub_of a b 4 f) (serves text b h))
      | inr f ↦ or_second (serving (instr_at text (a - 4))) (serving (instr_at text (a - 8))) (subst (λ (x : ℕ). serving (instr_at text x) ≡ true) (sub_of a b 8 f) (serves text b h))
    ])
    (is_reads text a 2 k)))

-- where the windows are
abbrev Small : ℕ → Type 0
Small r = (1 ≤ r) × (r ≤ 31)

pub triple_small : (x y z r : ℕ) → IsTriple x y z → (r ≡ x) ⊎ ((r ≡ y) ⊎ (r ≡ z)) → Small r
triple_small x y z r (value h k e f) m = (low x y z r h e f m, high x y z r k e f m)
  where
    low : (x y z r : ℕ) → 4 ≤ x → y ≡ x + 6 → z ≡ x + 12 → (r ≡ x) ⊎ ((r ≡ y) ⊎ (r ≡ z)) → 1 ≤ r
    low x y z r h e f m = grind arith

    high : (x y z r : ℕ) → x ≤ 9 → y ≡ x + 6 → z ≡ x + 12 → (r ≡ x) ⊎ ((r ≡ y) ⊎ (r ≡ z)) → r ≤ 31
    high x y z r h e f m = grind arith
triple_small x y z r (stack e f g) m = (grind arith, grind arith)
triple_small x y z r (link e f g) m = (grind arith, grind arith)

exact_small : (r n : ℕ) → r ≡ n → 1 ≤ n → n ≤ 31 → Small r
exact_small r n e h k = (omega arith, omega arith)

between : (v a u n : ℕ) → 0x00400000 ≤ v → v ≤ a → a ≤ u → (u - 0x00400000) / 4 < n → (0x00400000 ≤ a) × ((a - 0x00400000) / 4 < n)
between v a u n h k l m = (omega arith, omega arith)

behind_low : (v a y r : ℕ) → (v + 24 ≤ a) ⊎ ((a ≡ v + 20) × (r ≡ y)) → v ≤ a
behind_low v a y r h = grind arith

awaits_text : (text : List ℕ) (v x y z a r : ℕ) → Awaits text v x y z a r → InText text a
awaits_text text v x y z a r k =
    let b : (0x00400000 ≤ a) × ((a - 0x00400000) / 4 < length text) = between v a k.use_at (length text) (in_text text v (And 1 x y) k.vote.both).from (behind_low v a y r k.behind) k.upto (use_text text k.use_at r k.used).upto in
    record { aligned = k.aligned; from = b.0; upto = b.1 }

at_text : (text : List ℕ) (a b : ℕ) (i : Instr) → At text b i → a ≡ b → InText text a
at_text text a b i h e = subst (InText text) (sym e) (in_text text b i h)

pub windows_inside : WindowsInside
windows_inside text a r (settled v x y z o (inl e) f) = (at_text text a (v + 16) (Addu y x 0) o.copies e, triple_small x y z r o.triple (inl f))
windows_inside text a r (settled v x y z o (inr e) f) = (at_text text a (v + 20) (Addu z x 0) o.ends e, triple_small x y z r o.triple (inl f))
windows_inside text a r (both_bits v x y z o (inl e) f) = (at_text text a (v + 4) (Or 3 x y) o.either e, exact_small r 1 f (omega arith) (omega arith))
windows_inside text a r (both_bits v x y z o (inr (inl e)) f) = (at_text text a (v + 8) (And 3 3 z) o.other e, exact_small r 1 f (omega arith) (omega arith))
windows_inside text a r (both_bits v x y z o (inr (inr e)) f) = (at_text text a (v + 12) (Or x 1 3) o.settles e, exact_small r 1 f (omega arith) (omega arith))
windows_inside text a r (other_bits v x y z o e f) = (at_text text a (v + 12) (Or x 1 3) o.settles e, exact_small r 3 f (omega arith) (omega arith))
windows_inside text a r (awaiting v x y z k) = (awaits_text text v x y z a r k, triple_small x y z r k.vote.triple k.one)
windows_inside text a r (service h e) = (in_text text a Syscall h, exact_small r 2 e (omega arith) (omega arith))
windows_inside text a r (result b w h k e) = (in_text text a k.instr k.at, exact_small r 2 e (omega arith) (omega arith))
