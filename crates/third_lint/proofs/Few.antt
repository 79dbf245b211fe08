-- How many windows there may be: two votes have no word in common and no word of a vote is a use, so the windows at a word are those
-- of the nearest vote before it and of register 2.
use Rattle.std.proofs.Common.{◌≡◌, ◌≢◌, ℕ, zero, suc, ◌+◌, ◌-◌, ◌*◌, ◌/◌, ◌%◌, ◌≤◌, ◌<◌, arith, rules, ap, refl, sym, ◌∙◌, subst, List, length, false, true, inl, inr}
use Rattle.std.specs.Prelude.{Option, Some, ◌⊎◌}
use Rattle.mips_isa.specs.declared.instr.Instr.{Instr}
use Rattle.mips_isa.specs.declared.instr.Instr.TheVariants.{And, Or, Addu}
use Rattle.mips_text.specs.Text.{InText, At}
use Rattle.lint_words.specs.Around.{is_some}
use Rattle.lint_lockstep.proofs.Fetch.{same_instr}
use Rattle.third_lint.specs.Votes.{VoteAt, IsUse, NearThird, settled, both_bits, other_bits, awaiting, service, result}
use Rattle.third_lint.specs.Shapes.{second, third, vote_at, used_by}
use Rattle.third_lint.specs.WindowList.{Before, pair_at, AreWindows, FourRegisters, FewWindows}
use Rattle.third_lint.proofs.Places.{no_truth, in_text}
use Rattle.third_lint.proofs.Bools.{bool_or, some_same}
use Rattle.third_lint.proofs.Patterns.{triple_second, triple_third, is_vote, vote_some, some_vote, is_used, use_text}
use Rattle.third_lint.proofs.NearTests.{windows_inside}

-- two votes have no word in common
no_or : (x y d p q : ℕ) → And 1 x y ≡ Or d p q → ⊥
no_or x y d p q h = search (rules, h)

no_addu : (x y d p q : ℕ) → And 1 x y ≡ Addu d p q → ⊥
no_addu x y d p q h = search (rules, h)

first_of : (d x y e p q : ℕ) → And d x y ≡ And e p q → d ≡ e
first_of d x y e p q h = search (rules, h)

one_three : ◌≡◌ {A = ℕ} 1 3 → ⊥
one_three h = omega arith

places_between : (v w : ℕ) → v % 4 ≡ 0 → w % 4 ≡ 0 → v < w → w < v + 24 → (w ≡ v + 4) ⊎ ((w ≡ v + 8) ⊎ ((w ≡ v + 12) ⊎ ((w ≡ v + 16) ⊎ (w ≡ v + 20))))
places_between v w h k l m = grind arith

apart : (text : List ℕ) (v w x y z p q s : ℕ) → VoteAt text v x y z → VoteAt text w p q s → v < w → w < v + 24 → ⊥
apart text v w x y z p q s o k l m =
    let clash : (n : ℕ) (i : Instr) → At text (v + n) i → w ≡ v + n → And 1 p q ≡ i = λ n i h e. same_instr text (v + n) (And 1 p q) i (subst (λ (u : ℕ). At text u (And 1 p q)) e k.both) h in
    elim (places_between v w (in_text text v (And 1 x y) o.both).aligned (in_text text w (And 1 p q) k.both).aligned l m) as (λ t. ⊥) [
      | inl e ↦ no_or p q 3 x y (clash 4 (Or 3 x y) o.either e)
      | inr (inl e) ↦ one_three (first_of 1 p q 3 3 z (clash 8 (And 3 3 z) o.other e))
      | inr (inr (inl e)) ↦ no_or p q x 1 3 (clash 12 (Or x 1 3) o.settles e)
      | inr (inr (inr (inl e))) ↦ no_addu p q y x 0 (clash 16 (Addu y x 0) o.copies e)
      | inr (inr (inr (inr e))) ↦ no_addu p q z x 0 (clash 20 (Addu z x 0) o.ends e)
    ]

-- no word of a vote is a use
unused : (text : List ℕ) (u r : ℕ) (i : Instr) → At text u i → used_by (Some i) r ≡ false → IsUse text u r → ⊥
unused text u r i h f k = no_truth (sym f ∙ (sym (ap (λ (o : Option Instr). used_by o r) h) ∙ is_used text u r k))

-- a use at the second or the third word of a vote
early : (v u : ℕ) → v % 4 ≡ 0 → u % 4 ≡ 0 → v + 4 ≤ u → u ≤ v + 8 → (u ≡ v + 4) ⊎ (u ≡ v + 8)
early v u h k l m = grind arith

no_early : (text : List ℕ) (v x y z u r : ℕ) → VoteAt text v x y z → IsUse text u r → v + 4 ≤ u → u ≤ v + 8 → ⊥
no_early text v x y z u r o k l m = elim (early v u (in_text text v (And 1 x y) o.both).aligned (use_text text u r k).aligned l m) as (λ t. ⊥) [
  | inl e ↦ unused text (v + 4) r (Or 3 x y) o.either refl (subst (λ (w : ℕ). IsUse text w r) e k)
  | inr e ↦ unused text (v + 8) r (And 3 3 z) o.other refl (subst (λ (w : ℕ). IsUse text w r) e k)
]

-- a window of a vote: a helper within it, or one of its registers
data Kind (v x y z a r : ℕ) : Type 0 where
  helper : a ≤ v + 12 → (r ≡ 1) ⊎ (r ≡ 3) → Kind v x y z a r
  own : v + 16 ≤ a → (r ≡ x) ⊎ ((r ≡ y) ⊎ (r ≡ z)) → Kind v x y z a r

-- the vote of a window, and a use behind its end
record Window (text : List ℕ) (a r : ℕ) : Type 0 where
  v : ℕ
  x : ℕ
  y : ℕ
  z : ℕ
  vote : VoteAt text v x y z
  from : v + 4 ≤ a
  upto : a ≤ v + 32
  kind : Kind v x y z a r
  used : v + 24 ≤ a → (u : ℕ) × ((a ≤ u) × ((u ≤ v + 32) × IsUse text u r))

not_yet : (A : Type 0) (v a n : ℕ) → a ≡ v + n → n < 24 → v + 24 ≤ a → A
not_yet A v a n e h k = absurd (no v a n e h k)
  where
    no : (v a n : ℕ) → a ≡ v + n → n < 24 → v + 24 ≤ a → ⊥
    no v a n e h k = omega arith

within : (v a n : ℕ) → a ≡ v + n → 4 ≤ n → n ≤ 32 → (v + 4 ≤ a) × (a ≤ v + 32)
within v a n e h k = (omega arith, omega arith)

helping : (v a n : ℕ) → a ≡ v + n → n ≤ 12 → a ≤ v + 12
helping v a n e h = omega arith

owning : (v a n : ℕ) → a ≡ v + n → 16 ≤ n → v + 16 ≤ a
owning v a n e h = omega arith

abbrev Use : List ℕ → (v a r : ℕ) → Type 0
Use text v a r = (u : ℕ) × ((a ≤ u) × ((u ≤ v + 32) × IsUse text u r))

inside_vote : (text : List ℕ) (v x y z a r n : ℕ) → VoteAt text v x y z → a ≡ v + n → 4 ≤ n → n < 24 → Kind v x y z a r → Window text a r
inside_vote text v x y z a r n o e h k c = record { v = v; x = x; y = y; z = z; vote = o; from = (within v a n e h (below n k)).0; upto = (within v a n e h (below n k)).1; kind = c; used = not_yet (Use text v a r) v a n e k }
  where
    below : (n : ℕ) → n < 24 → n ≤ 32
    below n h = omega arith

awaits_low : (v a y r : ℕ) → (v + 24 ≤ a) ⊎ ((a ≡ v + 20) × (r ≡ y)) → (v + 4 ≤ a) × (v + 16 ≤ a)
awaits_low v a y r h = (grind arith, grind arith)

trans : (a b c : ℕ) → a ≤ b → b ≤ c → a ≤ c
trans a b c h k = omega arith

window_of : (text : List ℕ) (a r : ℕ) → NearThird text a r → (r ≡ 2) ⊎ Window text a r
window_of text a r (settled v x y z o (inl e) f) = inr (inside_vote text v x y z a r 16 o e (omega arith) (omega arith) (own (owning v a 16 e (omega arith)) (inl f)))
window_of text a r (settled v x y z o (inr e) f) = inr (inside_vote text v x y z a r 20 o e (omega arith) (omega arith) (own (owning v a 20 e (omega arith)) (inl f)))
window_of text a r (both_bits v x y z o (inl e) f) = inr (inside_vote text v x y z a r 4 o e (omega arith) (omega arith) (helper (helping v a 4 e (omega arith)) (inl f)))
window_of text a r (both_bits v x y z o (inr (inl e)) f) = inr (inside_vote text v x y z a r 8 o e (omega arith) (omega arith) (helper (helping v a 8 e (omega arith)) (inl f)))
window_of text a r (both_bits v x y z o (inr (inr e)) f) = inr (inside_vote text v x y z a r 12 o e (omega arith) (omega arith) (helper (helping v a 12 e (omega arith)) (inl f)))
window_of text a r (other_bits v x y z o e f) = inr (inside_vote text v x y z a r 12 o e (omega arith) (omega arith) (helper (helping v a 12 e (omega arith)) (inr f)))
window_of text a r (awaiting v x y z k) = inr (record {
  v = v;
  x = x;
  y = y;
  z = z;
  vote = k.vote;
  from = (awaits_low v a y r k.behind).0;
  upto = trans a k.use_at (v + 32) k.upto k.within;
  kind = own (awaits_low v a y r k.behind).1 k.one;
  used = λ h. (k.use_at, (k.upto, (k.within, k.used)));
})
window_of text a r (service h e) = inl e
window_of text a r (result b w h k e) = inl e

-- the nearest vote, at most 32 bytes before a word
record NearestVote (text : List ℕ) (a : ℕ) : Type 0 where
  v : ℕ
  x : ℕ
  vote : VoteAt text v x (second x) (third x)
  from : v + 4 ≤ a
  upto : a ≤ v + 32
  first : (w p q s : ℕ) → VoteAt text w p q s → v < w → w + 4 ≤ a → ⊥

module _ (text : List ℕ) (a : ℕ) where
  abbrev Nearest : Type 0
  Nearest = NearestVote text a

  abbrev Free : ℕ → Type 0
  Free k = (j : ℕ) → 1 ≤ j → j ≤ k → is_some (vote_at text (a - 4 * j)) ≡ true → ⊥

  nearer : (k w : ℕ) → a % 4 ≡ 0 → w % 4 ≡ 0 → 0x00400000 ≤ w → a - 4 * (k + 1) < w → w + 4 ≤ a → (1 ≤ (a - w) / 4) × (((a - w) / 4 ≤ k) × (w ≡ a - 4 * ((a - w) / 4)))
  nearer k w h l m n p = (omega arith, (omega arith, omega arith))

  last_or : (j k : ℕ) → j ≤ k + 1 → (j ≤ k) ⊎ (j ≡ k + 1)
  last_or j k h = grind arith

  found : (k : ℕ) → a % 4 ≡ 0 → k + 1 ≤ 8 → Free k → is_some (vote_at text (a - 4 * (k + 1))) ≡ true → Nearest
  found k al h f s =
      let p : (x : ℕ) × VoteAt text (a - 4 * (k + 1)) x (second x) (third x) = vote_some text (a - 4 * (k + 1)) s in
      let t : InText text (a - 4 * (k + 1)) = in_text text (a - 4 * (k + 1)) (And 1 p.0 (second p.0)) p.1.both in
      record {
        v = a - 4 * (k + 1);
        x = p.0;
        vote = p.1;
        from = (bounds a k h t.from).0;
        upto = (bounds a k h t.from).1;
        first = λ w b c d o l m.
            let i : InText text w = in_text text w (And 1 b c) o.both in
            let q : (1 ≤ (a - w) / 4) × (((a - w) / 4 ≤ k) × (w ≡ a - 4 * ((a - w) / 4))) = nearer k w al i.aligned i.from l m in
            f ((a - w) / 4) q.0 q.1.0 (subst (λ (u : ℕ). is_some (vote_at text u) ≡ true) q.1.1 (some_vote text w b c d o));
      }
    where
      bounds : (a k : ℕ) → k + 1 ≤ 8 → 0x00400000 ≤ a - 4 * (k + 1) → (a - 4 * (k + 1) + 4 ≤ a) × (a ≤ a - 4 * (k + 1) + 32)
      bounds a k h l = (omega arith, omega arith)

  none_more : (k : ℕ) → Free k → (is_some (vote_at text (a - 4 * (k + 1))) ≡ true → ⊥) → Free (k + 1)
  none_more k f n j h l s = elim (last_or j k l) as (λ z. ⊥) [ inl m ↦ f j h m s | inr e ↦ n (subst (λ (i : ℕ). is_some (vote_at text (a - 4 * i)) ≡ true) e s) ]

  one_more : (k : ℕ) → a % 4 ≡ 0 → k + 1 ≤ 8 → Nearest ⊎ Free k → Nearest ⊎ Free (k + 1)
  one_more k al h (inl n) = inl n
  one_more k al h (inr f) = elim (bool_or (is_some (vote_at text (a - 4 * (k + 1))))) as (λ z. Nearest ⊎ Free (k + 1)) [ inl s ↦ inl (found k al h f s) | inr n ↦ inr (none_more k f n) ]

  none_first : Free 0
  none_first j h l s = no j h l
    where
      no : (j : ℕ) → 1 ≤ j → j ≤ 0 → ⊥
      no j h l = omega arith

  nearest : a % 4 ≡ 0 → Nearest ⊎ Free 8
  nearest al =
      one_more 7 al (omega arith) (one_more 6 al (omega arith) (one_more 5 al (omega arith) (one_more 4 al (omega arith) (
      one_more 3 al (omega arith) (one_more 2 al (omega arith) (one_more 1 al (omega arith) (one_more 0 al (omega arith) (inr none_first))))))))

  order : (v w : ℕ) → (v < w) ⊎ ((v ≡ w) ⊎ (w < v))
  order v w = grind arith

  near_or : (v w : ℕ) → (w < v + 24) ⊎ (v + 24 ≤ w)
  near_or v w = grind arith

  chain : (v w u : ℕ) → v + 24 ≤ w → w + 4 ≤ a → a ≤ u → u ≤ v + 32 → (v + 24 ≤ a) × ((w + 4 ≤ u) × (u ≤ w + 8))
  chain v w u h k l m = (omega arith, (omega arith, omega arith))

  behind : (v w : ℕ) → v + 24 ≤ w → w + 4 ≤ a → v + 24 ≤ a
  behind v w h k = omega arith

  -- a window is of the nearest vote
  same_vote : (n : Nearest) (r : ℕ) (w : Window text a r) → w.v ≡ n.v
  same_vote n r w = elim (order w.v n.v) as (λ z. w.v ≡ n.v) [
    | inr (inl e) ↦ e
    | inr (inr l) ↦ absurd (n.first w.v w.x w.y w.z w.vote l w.from)
    | inl l ↦ elim (near_or w.v n.v) as (λ z. w.v ≡ n.v) [
      | inl m ↦ absurd (apart text w.v n.v w.x w.y w.z n.x (second n.x) (third n.x) w.vote n.vote l m)
      | inr m ↦
          let u : Use text w.v a r = w.used (behind w.v n.v m n.from) in
          let c : (w.v + 24 ≤ a) × ((n.v + 4 ≤ u.0) × (u.0 ≤ n.v + 8)) = chain w.v n.v u.0 m n.from u.1.0 u.1.1.0 in
          absurd (no_early text n.v n.x (second n.x) (third n.x) u.0 r n.vote u.1.1.1 c.1.0 c.1.1)
    ]
  ]

  same_first : (n : Nearest) (w x y z : ℕ) → VoteAt text w x y z → w ≡ n.v → x ≡ n.x
  same_first n w x y z o e = some_same x n.x (sym (is_vote text w x y z o) ∙ (ap (λ (u : ℕ). vote_at text u) e ∙ is_vote text n.v n.x (second n.x) (third n.x) n.vote))

  abbrev Among : (p q s r : ℕ) → Type 0
  Among p q s r = (r ≡ p) ⊎ ((r ≡ q) ⊎ (r ≡ s))

  clash : (v w : ℕ) → v ≡ w → a ≤ w + 12 → v + 16 ≤ a → ⊥
  clash v w e h k = omega arith

  clash_back : (v w : ℕ) → v ≡ w → w + 12 < a → a ≤ v + 12 → ⊥
  clash_back v w e h k = omega arith

  in_helpers : (n : Nearest) → a ≤ n.v + 12 → (r v x y z : ℕ) → v ≡ n.v → Kind v x y z a r → Among 1 3 3 r
  in_helpers n h r v x y z e (helper l (inl m)) = inl m
  in_helpers n h r v x y z e (helper l (inr m)) = inr (inl m)
  in_helpers n h r v x y z e (own l m) = absurd (clash v n.v e h l)

  in_own : (n : Nearest) → n.v + 12 < a → (r v x y z : ℕ) → v ≡ n.v → VoteAt text v x y z → Kind v x y z a r → Among n.x (second n.x) (third n.x) r
  in_own n h r v x y z e o (helper l m) = absurd (clash_back v n.v e h l)
  in_own n h r v x y z e o (own l m) =
      let f : x ≡ n.x = same_first n v x y z o e in
      elim m as (λ k. Among n.x (second n.x) (third n.x) r) [
        | inl k ↦ inl (k ∙ f)
        | inr (inl k) ↦ inr (inl (k ∙ (triple_second x y z o.triple ∙ ap (λ (u : ℕ). second u) f)))
        | inr (inr k) ↦ inr (inr (k ∙ (triple_third x y z o.triple ∙ ap (λ (u : ℕ). third u) f)))
      ]

  side : (v : ℕ) → (a ≤ v + 12) ⊎ (v + 12 < a)
  side v = grind arith

  abbrev Named : (p q s : ℕ) → Type 0
  Named p q s = (r : ℕ) → NearThird text a r → (r ≡ 2) ⊎ Among p q s r

  abbrev Three : Type 0
  Three = (x : ℕ) × ((y : ℕ) × ((z : ℕ) × Named x y z))

  by_nearest : Nearest → Three
  by_nearest n = elim (side n.v) as (λ t. Three) [
    | inl h ↦ (1, (3, (3, λ r k. elim (window_of text a r k) as (λ t. (r ≡ 2) ⊎ Among 1 3 3 r) [ inl e ↦ inl e | inr w ↦ inr (in_helpers n h r w.v w.x w.y w.z (same_vote n r w) w.kind) ])))
    | inr h ↦ (n.x, (second n.x, (third n.x, λ r k. elim (window_of text a r k) as (λ t. (r ≡ 2) ⊎ Among n.x (second n.x) (third n.x) r) [ inl e ↦ inl e | inr w ↦ inr (in_own n h r w.v w.x w.y w.z (same_vote n r w) w.vote w.kind) ])))
  ]

  distance : (v : ℕ) → a % 4 ≡ 0 → v % 4 ≡ 0 → v + 4 ≤ a → a ≤ v + 32 → (1 ≤ (a - v) / 4) × (((a - v) / 4 ≤ 8) × (v ≡ a - 4 * ((a - v) / 4)))
  distance v h k l m = (omega arith, (omega arith, omega arith))

  no_window : a % 4 ≡ 0 → Free 8 → (r : ℕ) → Window text a r → ⊥
  no_window al f r w =
      let d : (1 ≤ (a - w.v) / 4) × (((a - w.v) / 4 ≤ 8) × (w.v ≡ a - 4 * ((a - w.v) / 4))) = distance w.v al (in_text text w.v (And 1 w.x w.y) w.vote.both).aligned w.from w.upto in
      f ((a - w.v) / 4) d.0 d.1.0 (subst (λ (u : ℕ). is_some (vote_at text u) ≡ true) d.1.1 (some_vote text w.v w.x w.y w.z w.vote))

  aligned_or : (b : ℕ) → (b % 4 ≡ 0) ⊎ (b % 4 ≢ 0)
  aligned_or b = grind arith

  three : Three
  three = elim (aligned_or a) as (λ t. Three) [
    | inr d ↦ (0, (0, (0, λ r k. absurd (d (windows_inside text a r k).0.aligned))))
    | inl al ↦ elim (nearest al) as (λ t. Three) [
      | inl n ↦ by_nearest n
      | inr f ↦ (0, (0, (0, λ r k. elim (window_of text a r k) as (λ t. (r ≡ 2) ⊎ Among 0 0 0 r) [ inl e ↦ inl e | inr w ↦ absurd (no_window al f r w) ])))
    ]
  ]

pub four_registers : FourRegisters
four_registers text a = three text a

-- of five registers in order one is not among four
abbrev OneOf : (x y z r : ℕ) → Type 0
OneOf x y z r = (r ≡ x) ⊎ ((r ≡ y) ⊎ (r ≡ z))

two_of : (x y a b c : ℕ) → a < b → b < c → (a ≡ x) ⊎ (a ≡ y) → (b ≡ x) ⊎ (b ≡ y) → (c ≡ x) ⊎ (c ≡ y) → ⊥
two_of x y a b c h k l m n = grind arith

other : (u v w d r : ℕ) → r < d → d ≡ u → OneOf u v w r → (r ≡ v) ⊎ (r ≡ w)
other u v w d r h e (inl k) = absurd (no u d r h e k)
  where
    no : (u d r : ℕ) → r < d → d ≡ u → r ≡ u → ⊥
    no u d r h e k = omega arith
other u v w d r h e (inr m) = m

second_first : (x y z r : ℕ) → OneOf x y z r → OneOf y x z r
second_first x y z r (inl k) = inr (inl k)
second_first x y z r (inr (inl k)) = inl k
second_first x y z r (inr (inr k)) = inr (inr k)

third_first : (x y z r : ℕ) → OneOf x y z r → OneOf z x y r
third_first x y z r (inl k) = inr (inl k)
third_first x y z r (inr (inl k)) = inr (inr k)
third_first x y z r (inr (inr k)) = inl k

less_trans : (a b c : ℕ) → a < b → b < c → a < c
less_trans a b c h k = omega arith

last_first : (x y z a b c d : ℕ) → a < b → b < c → c < d → d ≡ x → OneOf x y z a → OneOf x y z b → OneOf x y z c → ⊥
last_first x y z a b c d h k l e m n o = two_of y z a b c h k (other x y z d a (less_trans a c d (less_trans a b c h k) l) e m) (other x y z d b (less_trans b c d k l) e n) (other x y z d c l e o)

four_of : (x y z a b c d : ℕ) → a < b → b < c → c < d → OneOf x y z a → OneOf x y z b → OneOf x y z c → OneOf x y z d → ⊥
four_of x y z a b c d h k l m n o (inl e) = last_first x y z a b c d h k l e m n o
four_of x y z a b c d h k l m n o (inr (inl e)) = last_first y x z a b c d h k l e (second_first x y z a m) (second_first x y z b n) (second_first x y z c o)
four_of x y z a b c d h k l m n o (inr (inr e)) = last_first z x y a b c d h k l e (third_first x y z a m) (third_first x y z b n) (third_first x y z c o)

abbrev Any : (x y z r : ℕ) → Type 0
Any x y z r = (r ≡ 2) ⊎ OneOf x y z r

above : (x y z a r : ℕ) → a < r → a ≡ 2 → Any x y z r → OneOf x y z r
above x y z a r h e (inl k) = absurd (no a r h e k)
  where
    no : (a r : ℕ) → a < r → a ≡ 2 → r ≡ 2 → ⊥
    no a r h e k = omega arith
above x y z a r h e (inr m) = m

five_of : (x y z a b c d e : ℕ) → a < b → b < c → c < d → d < e → Any x y z a → Any x y z b → Any x y z c → Any x y z d → Any x y z e → ⊥
five_of x y z a b c d e h k l m (inl i) o p q r = four_of x y z b c d e k l m (above x y z a b h i o) (above x y z a c (less_trans a b c h k) i p) (above x y z a d (less_trans a c d (less_trans a b c h k) l) i q) (above x y z a e (less_trans a d e (less_trans a c d (less_trans a b c h k) l) m) i r)
five_of x y z a b c d e h k l m (inr n) (inl i) p q r = four_of x y z a c d e (less_trans a b c h k) l m n (above x y z b c k i p) (above x y z b d (less_trans b c d k l) i q) (above x y z b e (less_trans b d e (less_trans b c d k l) m) i r)
five_of x y z a b c d e h k l m (inr n) (inr o) (inl i) q r = four_of x y z a b d e h (less_trans b c d k l) m n o (above x y z c d l i q) (above x y z c e (less_trans c d e l m) i r)
five_of x y z a b c d e h k l m (inr n) (inr o) (inr p) (inl i) r = four_of x y z a b c e h k (less_trans c d e l m) n o p (above x y z d e m i r)
five_of x y z a b c d e h k l m (inr n) (inr o) (inr p) (inr q) r = four_of x y z a b c d h k l n o p q

-- of five windows in order the last is at a later word than the first
low_of : (p q : ℕ × ℕ) → Before p q → p.0 ≤ q.0
low_of p q (inl h) = less p.0 q.0 h
  where
    less : (a b : ℕ) → a < b → a ≤ b
    less a b h = omega arith
low_of p q (inr h) = equal p.0 q.0 h.0
  where
    equal : (a b : ℕ) → a ≡ b → a ≤ b
    equal a b h = omega arith

reg_less : (p q : ℕ × ℕ) → p.0 ≡ q.0 → Before p q → p.1 < q.1
reg_less p q e (inl h) = absurd (no p.0 q.0 e h)
  where
    no : (a b : ℕ) → a ≡ b → a < b → ⊥
    no a b e h = omega arith
reg_less p q e (inr h) = h.1

less_or : (a b : ℕ) → a ≤ b → (a < b) ⊎ (a ≡ b)
less_or a b h = grind arith

squeezed : (a b c : ℕ) → a ≤ b → b ≤ c → a ≡ c → b ≡ a
squeezed a b c h k e = omega arith

module _ (text : List ℕ) (ws : List (ℕ × ℕ)) (w : AreWindows text ws) where
  abbrev P : ℕ → ℕ × ℕ
  P k = pair_at ws k

  step_low : (j k : ℕ) → j < k → k < length ws → (P j).0 ≤ (P k).0
  step_low j k h l = low_of (P j) (P k) (w.ascending j k h l)

  before : (j i k : ℕ) → i < k → j + i < j + k
  before j i k h = omega arith

  reach_end : (j i n : ℕ) → i ≤ 4 → j + 4 < n → j + i < n
  reach_end j i n h l = omega arith

  zero_sum : (j : ℕ) → j ≡ j + 0
  zero_sum j = omega arith

  same_word : (j : ℕ) → j + 4 < length ws → (P (j + 0)).0 ≡ (P (j + 4)).0 → ⊥
  same_word j l e =
      let at : (i : ℕ) → 0 < i → i < 4 → (P (j + i)).0 ≡ (P (j + 0)).0 = λ i h k. squeezed (P (j + 0)).0 (P (j + i)).0 (P (j + 4)).0 (step_low (j + 0) (j + i) (before j 0 i h) (reach_end j i (length ws) (up i k) l)) (step_low (j + i) (j + 4) (before j i 4 k) l) e in
      let a : ℕ = (P (j + 0)).0 in
      let near : (i : ℕ) → i ≤ 4 → (P (j + i)).0 ≡ a → NearThird text a (P (j + i)).1 = λ i h f. subst (λ (u : ℕ). NearThird text u (P (j + i)).1) f (w.sound (j + i) (reach_end j i (length ws) h l)) in
      let less : (i k : ℕ) → i < k → k ≤ 4 → (P (j + i)).0 ≡ a → (P (j + k)).0 ≡ a → (P (j + i)).1 < (P (j + k)).1 = λ i k h m f g. reg_less (P (j + i)) (P (j + k)) (f ∙ sym g) (w.ascending (j + i) (j + k) (before j i k h) (reach_end j k (length ws) m l)) in
      let t : (x : ℕ) × ((y : ℕ) × ((z : ℕ) × ((r : ℕ) → NearThird text a r → (r ≡ 2) ⊎ ((r ≡ x) ⊎ ((r ≡ y) ⊎ (r ≡ z)))))) = four_registers text a in
      let e1 : (P (j + 1)).0 ≡ a = at 1 (omega arith) (omega arith) in
      let e2 : (P (j + 2)).0 ≡ a = at 2 (omega arith) (omega arith) in
      let e3 : (P (j + 3)).0 ≡ a = at 3 (omega arith) (omega arith) in
      five_of t.0 t.1.0 t.1.1.0 (P (j + 0)).1 (P (j + 1)).1 (P (j + 2)).1 (P (j + 3)).1 (P (j + 4)).1
      (less 0 1 (omega arith) (omega arith) refl e1) (less 1 2 (omega arith) (omega arith) e1 e2) (less 2 3 (omega arith) (omega arith) e2 e3) (less 3 4 (omega arith) (omega arith) e3 (sym e))
      (t.1.1.1 (P (j + 0)).1 (near 0 (omega arith) refl)) (t.1.1.1 (P (j + 1)).1 (near 1 (omega arith) e1)) (t.1.1.1 (P (j + 2)).1 (near 2 (omega arith) e2))
      (t.1.1.1 (P (j + 3)).1 (near 3 (omega arith) e3)) (t.1.1.1 (P (j + 4)).1 (near 4 (omega arith) (sym e)))
    where
      up : (i : ℕ) → i < 4 → i ≤ 4
      up i h = omega arith

  later : (j : ℕ) → j + 4 < length ws → (P j).0 < (P (j + 4)).0
  later j l = subst (λ (i : ℕ). (P i).0 < (P (j + 4)).0) (sym (zero_sum j)) (elim (less_or (P (j + 0)).0 (P (j + 4)).0 (step_low (j + 0) (j + 4) (before j 0 4 (omega arith)) l)) as (λ t. (P (j + 0)).0 < (P (j + 4)).0) [
    | inl h ↦ h
    | inr e ↦ absurd (same_word j l e)
  ])

  place : (k : ℕ) → k < length ws → InText text (P k).0
  place k h = (windows_inside text (P k).0 (P k).1 (w.sound k h)).0

  -- the first word of the text, and one word further for each four windows
  reach : (q j : ℕ) → 4 * q ≤ j → j < length ws → 0x00400000 + 4 * q ≤ (P j).0
  reach zero j h l = none (P j).0 (place j l).from
    where
      none : (a : ℕ) → 0x00400000 ≤ a → 0x00400000 + 4 * 0 ≤ a
      none a h = omega arith
  reach (suc q) j h l =
      let e : j - 4 + 4 ≡ j = back j q h in
      let i : j - 4 < length ws = under j (length ws) l in
      more q (P (j - 4)).0 (P j).0 (place (j - 4) i).aligned (place j l).aligned (reach q (j - 4) (lower j q h) i) (subst (λ (k : ℕ). (P (j - 4)).0 < (P k).0) e (later (j - 4) (subst (λ (k : ℕ). k < length ws) (sym e) l)))
    where
      back : (j q : ℕ) → 4 * suc q ≤ j → j - 4 + 4 ≡ j
      back j q h = omega arith

      lower : (j q : ℕ) → 4 * suc q ≤ j → 4 * q ≤ j - 4
      lower j q h = omega arith

      under : (j n : ℕ) → j < n → j - 4 < n
      under j n h = omega arith

      more : (q a b : ℕ) → a % 4 ≡ 0 → b % 4 ≡ 0 → 0x00400000 + 4 * q ≤ a → a < b → 0x00400000 + 4 * suc q ≤ b
      more q a b h k l m = omega arith

  few : length ws ≤ 4 * length text
  few = elim (up_to (length ws) (4 * length text)) as (λ t. length ws ≤ 4 * length text) [
    | inl h ↦ h
    | inr l ↦ absurd (past (length text) (P (4 * length text)).0 (place (4 * length text) l).upto (reach (length text) (4 * length text) (self (4 * length text)) l))
  ]
    where
      up_to : (m n : ℕ) → (m ≤ n) ⊎ (n < m)
      up_to m n = grind arith

      self : (n : ℕ) → n ≤ n
      self n = omega arith

      past : (n a : ℕ) → (a - 0x00400000) / 4 < n → 0x00400000 + 4 * n ≤ a → ⊥
      past n a h k = omega arith

pub few_windows : FewWindows
few_windows text ws w = few text ws w
