-- The ways of a run between words, what is kept at an address where one stream is wrong, and where it comes from.
use Rattle.std.proofs.Common.{◌≡◌, ◌≢◌, ℕ, suc, ◌+◌, ◌-◌, ◌*◌, ◌%◌, ◌≤◌, ◌<◌, arith, rules, ap, refl, sym, ◌∙◌, subst, List, [], ◌∷◌, false, true, Bool, cond, inl, inr}
use Rattle.std.specs.Prelude.{Option, Some, None, ◌⊎◌, ◌==◌, ◌||◌, ◌&&◌, nat_le, IsTrue}
use Rattle.mips_isa.specs.declared.instr.Instr.{Instr}
use Rattle.mips_isa.specs.declared.instr.Instr.TheVariants.{Jr, Syscall, Break, And, Or, Addu, J, Jal, Beq, Bne, Ori}
use Rattle.mips_isa.specs.Machine.{among, writes_of, is_jump}
use Rattle.mips_text.specs.Text.{IsText, InText, At, instr_at, Writes, IsBranch, SkipsReport}
use Rattle.mips_text.specs.Blocks.{IsStart}
use Rattle.third_lint.specs.Flow.{IsSlot, Next, onward}
use Rattle.lint_lockstep.proofs.Fetch.{same_instr}
use Rattle.third_lint.proofs.Places.{no_truth, none_some, in_text}
use Rattle.third_lint.proofs.Words.{Before, straight, skipped, fallen, before_of}
use Rattle.third_lint.proofs.Lists.{to_among}
use Rattle.third_lint.specs.Votes.{Role, A, B, C, Of, IsTriple, value, stack, link, VoteAt, Awaits, InputAt}
use Rattle.third_lint.specs.Typing.{IsLanding, OnlyFollows, IsVoted, IsProductOf, ProductsOf, WordOf, output, exit, input}
use Rattle.third_lint.specs.Rules.{WellTyped}

-- streams
some_role : (X Y : Role) → Some X ≡ Some Y → X ≡ Y
some_role X Y h = search (rules, h)

pub one_role : (X Y : Role) (q : ℕ) → Of X q → Of Y q → X ≡ Y
one_role X Y q h k = some_role X Y (sym h ∙ k)

pub a_b : A ≡ B → ⊥
a_b h = search (rules, h)

pub a_c : A ≡ C → ⊥
a_c h = search (rules, h)

pub b_c : B ≡ C → ⊥
b_c h = search (rules, h)

pub role_or : (X W : Role) → (X ≡ W) ⊎ (X ≡ W → ⊥)
role_or A A = inl refl
role_or B B = inl refl
role_or C C = inl refl
role_or A B = inr a_b
role_or A C = inr a_c
role_or B A = inr (λ h. a_b (sym h))
role_or B C = inr b_c
role_or C A = inr (λ h. a_c (sym h))
role_or C B = inr (λ h. b_c (sym h))

pub none_role : (X : Role) → None ≡ Some X → ⊥
none_role X h = search (rules, h)

pub zero_free : (X : Role) → Of X 0 → ⊥
zero_free X h = none_role X h

pub one_free : (X : Role) → Of X 1 → ⊥
one_free X h = none_role X h

pub two_free : (X : Role) → Of X 2 → ⊥
two_free X h = none_role X h

pub three_free : (X : Role) → Of X 3 → ⊥
three_free X h = none_role X h

-- the registers of a triple
abbrev by_tests : Bool → Bool → Bool → Option Role
by_tests x y z = cond x (Some A) (cond y (Some B) (cond z (Some C) None))

test_a : (x y z : Bool) → x ≡ true → by_tests x y z ≡ Some A
test_a x y z h = rw h refl

test_b : (x y z : Bool) → x ≡ false → y ≡ true → by_tests x y z ≡ Some B
test_b x y z h k = rw (h, k) refl

test_c : (x y z : Bool) → x ≡ false → y ≡ false → z ≡ true → by_tests x y z ≡ Some C
test_c x y z h k m = rw (h, k, m) refl

in_a : (x : ℕ) → 4 ≤ x → x ≤ 9 → ((nat_le 4 x && nat_le x 9) || ((x == 29) || (x == 31))) ≡ true
in_a x h k = grind arith

out_a : (y x : ℕ) → 10 ≤ y → y ≤ 21 → ((nat_le 4 y && nat_le y 9) || ((y == 29) || (y == 31))) ≡ false
out_a y x h k = grind arith

in_b : (y : ℕ) → 10 ≤ y → y ≤ 15 → ((nat_le 10 y && nat_le y 15) || ((y == 30) || (y == 25))) ≡ true
in_b y h k = grind arith

out_b : (y : ℕ) → 16 ≤ y → y ≤ 21 → ((nat_le 10 y && nat_le y 15) || ((y == 30) || (y == 25))) ≡ false
out_b y h k = grind arith

in_c : (y : ℕ) → 16 ≤ y → y ≤ 21 → ((nat_le 16 y && nat_le y 21) || ((y == 28) || (y == 24))) ≡ true
in_c y h k = grind arith

of_low : (x : ℕ) → 4 ≤ x → x ≤ 9 → Of A x
of_low x h k = test_a _ _ _ (in_a x h k)

of_mid : (y : ℕ) → 10 ≤ y → y ≤ 15 → Of B y
of_mid y h k = test_b _ _ _ (out_a y y h (omega arith)) (in_b y h k)

of_high : (z : ℕ) → 16 ≤ z → z ≤ 21 → Of C z
of_high z h k = test_c _ _ _ (out_a z z (omega arith) k) (out_b z h k) (in_c z h k)

pub triple_a : (x y z : ℕ) → IsTriple x y z → Of A x
triple_a x y z (value h k e f) = of_low x h k
triple_a x y z (stack e f g) = subst (Of A) (sym e) refl
triple_a x y z (link e f g) = subst (Of A) (sym e) refl

pub triple_b : (x y z : ℕ) → IsTriple x y z → Of B y
triple_b x y z (value h k e f) = of_mid y (omega arith) (omega arith)
triple_b x y z (stack e f g) = subst (Of B) (sym f) refl
triple_b x y z (link e f g) = subst (Of B) (sym f) refl

pub triple_c : (x y z : ℕ) → IsTriple x y z → Of C z
triple_c x y z (value h k e f) = of_high z (omega arith) (omega arith)
triple_c x y z (stack e f g) = subst (Of C) (sym g) refl
triple_c x y z (link e f g) = subst (Of C) (sym g) refl

-- a step of the clean run goes to the word behind, to a next word, or to a landing
pub data Flow (text : List ℕ) (entry a b : ℕ) : Type 0 where
  onto : b ≡ a + 4 → Flow text entry a b
  led : Next text a b → Flow text entry a b
  lands : IsLanding text entry b → Flow text entry a b

pub flow_only : (text : List ℕ) (entry a b : ℕ) → Flow text entry a b → OnlyFollows text entry b → a + 4 ≡ b
flow_only text entry a b (onto e) o = sym e
flow_only text entry a b (led n) o = o.only a n
flow_only text entry a b (lands l) o = absurd (o.no_landing l)

-- where register 2 is kept, whichever stream is wrong; at the last move of an input it is not where C is
pub data Due (text : List ℕ) (W : Role) (a : ℕ) : Type 0 where
  serving : At text a Syscall → Due text W a
  first : (c : ℕ) → InputAt text c → a ≡ c + 8 → Due text W a
  second : (c : ℕ) → InputAt text c → a ≡ c + 12 → Due text W a
  last : (c : ℕ) → InputAt text c → a ≡ c + 16 → (W ≡ C → ⊥) → Due text W a

-- where the stream W is wrong, a register is kept at an address: it is register 0, or of another stream, or voted, or what a vote
-- has settled and copies, or register 2 around a service
pub data Keeps (text : List ℕ) (entry : ℕ) (W : Role) (a q : ℕ) : Type 0 where
  zero_kept : q ≡ 0 → Keeps text entry W a q
  other : (X : Role) → Of X q → (X ≡ W → ⊥) → Keeps text entry W a q
  voted : IsVoted text entry a q → Keeps text entry W a q
  settled : (v x y z : ℕ) → VoteAt text v x y z → (a ≡ v + 16) ⊎ (a ≡ v + 20) → q ≡ x → Keeps text entry W a q
  copied : (v x y z : ℕ) → Awaits text v x y z a q → a ≡ v + 20 → q ≡ y → Keeps text entry W a q
  due : q ≡ 2 → Due text W a → Keeps text entry W a q

-- where HI and LO are kept: where they come from another stream
pub record Halves (text : List ℕ) (entry : ℕ) (W : Role) (a : ℕ) : Type 0 where
  pub stream : Role
  pub right : stream ≡ W → ⊥
  pub from : ProductsOf text entry stream a

-- an instruction puts the majority in a register, or copies it
pub data Settling (i : Instr) (q : ℕ) : Type 0 where
  by_majority : i ≡ Or q 1 3 → Settling i q
  by_copy : (x : ℕ) (Y : Role) → i ≡ Addu q x 0 → Of A x → Of Y q → (A ≡ Y → ⊥) → Settling i q

-- where what is kept at the next word comes from
pub data Came (text : List ℕ) (entry : ℕ) (W : Role) (a q : ℕ) : Type 0 where
  came_zero : q ≡ 0 → Came text entry W a q
  came_other : (X : Role) → Of X q → (X ≡ W → ⊥) → Came text entry W a q
  came_kept : Keeps text entry W a q → (Writes text a q → ⊥) → Came text entry W a q
  came_settled : (i : Instr) → At text a i → Settling i q → Came text entry W a q
  came_given : q ≡ 2 → Writes text a 2 → Came text entry W a q

back_four : (a b c : ℕ) → a + 4 ≡ b → b ≡ c + 4 → a ≡ c
back_four a b c h k = omega arith

pub at_move : (text : List ℕ) (a b : ℕ) (i : Instr) → a ≡ b → At text b i → At text a i
at_move text a b i e h = subst (λ (x : ℕ). At text x i) (sym e) h

-- a word writes what its instruction does
pub written_by : (text : List ℕ) (a q : ℕ) (i : Instr) → At text a i → Writes text a q → IsTrue (among q (writes_of i))
written_by text a q i h w = subst (λ (j : Instr). IsTrue (among q (writes_of j))) (same_instr text a w.instr i w.at h) w.writes

one_of : (q x : ℕ) → IsTrue (among q (x ∷ [])) → q ≡ x
one_of q x h = elim (to_among q (x ∷ []) h) as (λ z. q ≡ x) [ inl e ↦ e | inr e ↦ absurd e ]

pub not_written : (text : List ℕ) (a q d x y : ℕ) → At text a (Addu d x y) → (q ≡ d → ⊥) → Writes text a q → ⊥
not_written text a q d x y h n w = n (one_of q d (written_by text a q (Addu d x y) h w))

pub apart : (X Y : Role) (q r : ℕ) → Of X q → Of Y r → (X ≡ Y → ⊥) → q ≡ r → ⊥
apart X Y q r o p n e = n (one_role X Y r (subst (Of X) e o) p)

-- different instructions
serve_ori : (x y n : ℕ) → Syscall ≡ Ori x y n → ⊥
serve_ori x y n h = search (rules, h)

serve_addu : (x y z : ℕ) → Syscall ≡ Addu x y z → ⊥
serve_addu x y z h = search (rules, h)

pub numbers : (k : ℕ) → k ≤ 4 → (k ≡ 0) ⊎ ((k ≡ 1) ⊎ ((k ≡ 2) ⊎ ((k ≡ 3) ⊎ (k ≡ 4))))
numbers k h = grind arith

pub zero_one : (k : ℕ) → k ≤ 1 → (k ≡ 0) ⊎ (k ≡ 1)
zero_one k h = grind arith

pub least_word : (b c k : ℕ) → b ≡ c + 4 * k → k ≡ 0 → b ≡ c
least_word b c k h e = omega arith

pub word_one : (b c k : ℕ) → b ≡ c + 4 * k → k ≡ 1 → b ≡ c + 4
word_one b c k h e = omega arith

pub word_two : (b c k : ℕ) → b ≡ c + 4 * k → k ≡ 2 → b ≡ c + 8
word_two b c k h e = omega arith

pub word_three : (b c k : ℕ) → b ≡ c + 4 * k → k ≡ 3 → b ≡ c + 12
word_three b c k h e = omega arith

pub word_four : (b c k : ℕ) → b ≡ c + 4 * k → k ≡ 4 → b ≡ c + 16
word_four b c k h e = omega arith

not_zero : (k n : ℕ) → k ≡ suc n → k ≢ 0
not_zero k n h e = omega arith

four_below : (p a b : ℕ) → p + 4 ≡ b → a + 4 ≡ b → p ≡ a
four_below p a b h k = omega arith

-- a syscall is the second word of a form, whose first writes register 2
pub record Served (text : List ℕ) (b : ℕ) : Type 0 where
  pub c : ℕ
  pub n : ℕ
  pub chooses : At text c (Ori 2 0 n)
  pub at : b ≡ c + 4
  pub word : WordOf text b 1

module _ (text : List ℕ) (entry : ℕ) (fits : IsText text) (rules_hold : WellTyped text entry) where
  not_here : (T : Type 0) (b c : ℕ) (i : Instr) → At text b Syscall → b ≡ c → At text c i → (Syscall ≡ i → ⊥) → T
  not_here T b c i s e h n = absurd (n (same_instr text c Syscall i (subst (λ (x : ℕ). At text x Syscall) e s) h))

  served_by : (b k : ℕ) → At text b Syscall → WordOf text b k → Served text b
  served_by b k s (output c o h e) = elim (zero_one k h) as (λ z. Served text b) [
    | inl x ↦ not_here (Served text b) b c (Ori 2 0 1) s (least_word b c k e x) o.chooses (serve_ori 2 0 1)
    | inr x ↦ record { c = c; n = 1; chooses = o.chooses; at = word_one b c k e x; word = subst (λ (m : ℕ). WordOf text b m) x (output c o h e) }
  ]
  served_by b k s (exit c o h e) = elim (zero_one k h) as (λ z. Served text b) [
    | inl x ↦ not_here (Served text b) b c (Ori 2 0 17) s (least_word b c k e x) o.chooses (serve_ori 2 0 17)
    | inr x ↦ record { c = c; n = 17; chooses = o.chooses; at = word_one b c k e x; word = subst (λ (m : ℕ). WordOf text b m) x (exit c o h e) }
  ]
  served_by b k s (input c o h e) = elim (numbers k h) as (λ z. Served text b) [
    | inl x ↦ not_here (Served text b) b c (Ori 2 0 5) s (least_word b c k e x) o.chooses (serve_ori 2 0 5)
    | inr (inl x) ↦ record { c = c; n = 5; chooses = o.chooses; at = word_one b c k e x; word = subst (λ (m : ℕ). WordOf text b m) x (input c o h e) }
    | inr (inr (inl x)) ↦ not_here (Served text b) b (c + 8) (Addu o.a 2 0) s (word_two b c k e x) o.first (serve_addu o.a 2 0)
    | inr (inr (inr (inl x))) ↦ not_here (Served text b) b (c + 12) (Addu o.b 2 0) s (word_three b c k e x) o.second (serve_addu o.b 2 0)
    | inr (inr (inr (inr x))) ↦ not_here (Served text b) b (c + 16) (Addu o.d 2 0) s (word_four b c k e x) o.last (serve_addu o.d 2 0)
  ]

  pub served_of : (b : ℕ) → At text b Syscall → Served text b
  served_of b s = let w : (k : ℕ) × WordOf text b k = (rules_hold b).service (record { instr = Syscall; at = s; uses = refl }) in served_by b w.0 s w.1

  -- which word comes before one of a vote or of a form
  pub before_vote : (a b v x y z n : ℕ) → Flow text entry a b → VoteAt text v x y z → n ≤ 4 → b ≡ v + 4 * suc n → a + 4 ≡ b
  before_vote a b v x y z n f o h e = flow_only text entry a b f ((rules_hold b).forms.votes (suc n) (record { v = v; x = x; y = y; z = z; vote = o; upto = omega arith; at = e }) (not_zero (suc n) n refl))

  pub before_form : (a b n : ℕ) → Flow text entry a b → WordOf text b (suc n) → a + 4 ≡ b
  before_form a b n f w = flow_only text entry a b f ((rules_hold b).forms.serves (suc n) w (not_zero (suc n) n refl))

  due_came : (W : Role) (a b q : ℕ) → Flow text entry a b → q ≡ 2 → Due text W b → Came text entry W a q
  due_came W a b q f z (serving s) =
      let w : Served text b = served_of b s in
      came_given z (record { instr = Ori 2 0 w.n; at = at_move text a w.c (Ori 2 0 w.n) (back_four a b w.c (before_form a b 0 f w.word) w.at) w.chooses; writes = refl })
  due_came W a b q f z (first c o e) =
      came_given z (record { instr = Syscall; at = at_move text a (c + 4) Syscall (back_four a b (c + 4) (before_form a b 1 f (input c o (omega arith) e)) (e ∙ omega arith)) o.serves; writes = refl })
  due_came W a b q f z (second c o e) =
      let h : a ≡ c + 8 = back_four a b (c + 8) (before_form a b 2 f (input c o (omega arith) e)) (e ∙ omega arith) in
      came_kept (due z (first c o h)) (not_written text a q o.a 2 0 (at_move text a (c + 8) (Addu o.a 2 0) h o.first) (λ i. two_free A (subst (Of A) (sym i ∙ z) o.of_a)))
  due_came W a b q f z (last c o e n) =
      let h : a ≡ c + 12 = back_four a b (c + 12) (before_form a b 3 f (input c o (omega arith) e)) (e ∙ omega arith) in
      came_kept (due z (second c o h)) (not_written text a q o.b 2 0 (at_move text a (c + 12) (Addu o.b 2 0) h o.second) (λ i. two_free B (subst (Of B) (sym i ∙ z) o.of_b)))

  -- voted registers
  same_or : (a n : ℕ) → (a ≡ n) ⊎ (a ≢ n)
  same_or a n = grind arith

  next_word : (v a b : ℕ) → v + 24 ≤ b → a + 4 ≡ b → v % 4 ≡ 0 → b % 4 ≡ 0 → a ≢ v + 20 → v + 24 ≤ a
  next_word v a b h k m n d = omega arith

  last_word : (v a b : ℕ) → v + 24 ≤ b → a + 4 ≡ b → v % 4 ≡ 0 → b % 4 ≡ 0 → (a ≡ v + 20) ⊎ (v + 24 ≤ a)
  last_word v a b h k m n = elim (same_or a (v + 20)) as (λ z. (a ≡ v + 20) ⊎ (v + 24 ≤ a)) [ inl e ↦ inl e | inr d ↦ inr (next_word v a b h k m n d) ]

  above : (v a b : ℕ) → v + 24 ≤ b → a + 4 ≡ b → v + 20 ≤ a
  above v a b h k = omega arith

  within : (a b u : ℕ) → a + 4 ≡ b → b ≤ u → a < u
  within a b u h k = omega arith

  narrowed : (a b u : ℕ) → a + 4 ≡ b → b ≤ u → a ≤ u
  narrowed a b u h k = omega arith

  aligned_below : (a b : ℕ) → a + 4 ≡ b → b % 4 ≡ 0 → a % 4 ≡ 0
  aligned_below a b h k = omega arith

  shorter : (p a b : ℕ) → p + 4 ≤ a → a + 4 ≡ b → p + 4 ≤ b
  shorter p a b h k = omega arith

  last_step : (a b : ℕ) → a + 4 ≡ b → a + 4 ≤ b
  last_step a b h = omega arith

  room : (v b : ℕ) → v + 24 ≤ b → (v + 20 ≤ b - 4) × (b - 4 + 4 ≡ b)
  room v b h = (omega arith, omega arith)

  same_end : (a b : ℕ) → a ≡ b → a ≤ b
  same_end a b h = omega arith

  voted_flow : (a b q : ℕ) → Flow text entry a b → (g : IsVoted text entry b q) → a + 4 ≡ b
  voted_flow a b q f g =
      let r : (g.v + 20 ≤ b - 4) × (b - 4 + 4 ≡ b) = room g.v b g.behind in
      flow_only text entry a b f (subst (λ (c : ℕ). OnlyFollows text entry c) r.1 (g.straight (b - 4) r.0 (same_end (b - 4 + 4) b r.1) (aligned_below (b - 4) b r.1 g.awaits.aligned)).1)

  awaits_at : (a b v x y z q : ℕ) → a + 4 ≡ b → Awaits text v x y z b q → (v + 24 ≤ a) ⊎ ((a ≡ v + 20) × (q ≡ y)) → Awaits text v x y z a q
  awaits_at a b v x y z q h w k = record { vote = w.vote; one = w.one; use_at = w.use_at; used = w.used; from = w.from; within = w.within; aligned = aligned_below a b h w.aligned; upto = narrowed a b w.use_at h w.upto; behind = k; unwritten = w.unwritten }

  voted_came : (W : Role) (a b q : ℕ) → a + 4 ≡ b → (g : IsVoted text entry b q) → (a ≡ g.v + 20) ⊎ (g.v + 24 ≤ a) → Came text entry W a q
  voted_came W a b q h g (inr k) =
      came_kept
      (voted (record { v = g.v; x = g.x; y = g.y; z = g.z; awaits = awaits_at a b g.v g.x g.y g.z q h g.awaits (inl k); behind = k; straight = λ p m n o. g.straight p m (shorter p a b n h) o }))
      (g.awaits.unwritten a k (within a b g.awaits.use_at h g.awaits.upto))
  voted_came W a b q h g (inl k) =
      let o : VoteAt text g.v g.x g.y g.z = g.awaits.vote in
      let i : At text a (Addu g.z g.x 0) = at_move text a (g.v + 20) (Addu g.z g.x 0) k o.ends in
      let t : IsTriple g.x g.y g.z = o.triple in
      elim g.awaits.one as (λ m. Came text entry W a q) [
        | inl e ↦ came_kept (settled g.v g.x g.y g.z o (inr k) e) (not_written text a q g.z g.x 0 i (λ w. apart A C q g.z (subst (Of A) (sym e) (triple_a g.x g.y g.z t)) (triple_c g.x g.y g.z t) a_c w))
        | inr (inl e) ↦ came_kept (copied g.v g.x g.y g.z (awaits_at a b g.v g.x g.y g.z q h g.awaits (inr (k, e))) k e) (not_written text a q g.z g.x 0 i (λ w. apart B C q g.z (subst (Of B) (sym e) (triple_b g.x g.y g.z t)) (triple_c g.x g.y g.z t) b_c w))
        | inr (inr e) ↦ came_settled (Addu g.z g.x 0) i (by_copy g.x C (ap (λ (w : ℕ). Addu w g.x 0) (sym e)) (triple_a g.x g.y g.z t) (subst (Of C) (sym e) (triple_c g.x g.y g.z t)) a_c)
      ]

  settled_came : (W : Role) (a b q v x y z : ℕ) → Flow text entry a b → VoteAt text v x y z → (b ≡ v + 16) ⊎ (b ≡ v + 20) → q ≡ x → Came text entry W a q
  settled_came W a b q v x y z f o (inl e) z' =
      let h : a ≡ v + 12 = back_four a b (v + 12) (before_vote a b v x y z 3 f o (omega arith) e) (e ∙ omega arith) in
      came_settled (Or x 1 3) (at_move text a (v + 12) (Or x 1 3) h o.settles) (by_majority (ap (λ (w : ℕ). Or w 1 3) (sym z')))
  settled_came W a b q v x y z f o (inr e) z' =
      let h : a ≡ v + 16 = back_four a b (v + 16) (before_vote a b v x y z 4 f o (omega arith) e) (e ∙ omega arith) in
      came_kept (settled v x y z o (inl h) z') (not_written text a q y x 0 (at_move text a (v + 16) (Addu y x 0) h o.copies) (λ w. apart A B q y (subst (Of A) (sym z') (triple_a x y z o.triple)) (triple_b x y z o.triple) a_b w))

  copied_came : (W : Role) (a b q v x y z : ℕ) → Flow text entry a b → VoteAt text v x y z → b ≡ v + 20 → q ≡ y → Came text entry W a q
  copied_came W a b q v x y z f o e z' =
      let h : a ≡ v + 16 = back_four a b (v + 16) (before_vote a b v x y z 4 f o (omega arith) e) (e ∙ omega arith) in
      came_settled (Addu y x 0) (at_move text a (v + 16) (Addu y x 0) h o.copies) (by_copy x B (ap (λ (w : ℕ). Addu w x 0) (sym z')) (triple_a x y z o.triple) (subst (Of B) (sym z') (triple_b x y z o.triple)) a_b)

  vote_aligned : (v x y z : ℕ) → VoteAt text v x y z → v % 4 ≡ 0
  vote_aligned v x y z o = (in_text text v (And 1 x y) o.both).aligned

  pub came : (W : Role) (a b q : ℕ) → Flow text entry a b → Keeps text entry W b q → Came text entry W a q
  came W a b q f (zero_kept e) = came_zero e
  came W a b q f (other X o d) = came_other X o d
  came W a b q f (voted g) = let h : a + 4 ≡ b = voted_flow a b q f g in voted_came W a b q h g (last_word g.v a b g.behind h (vote_aligned g.v g.x g.y g.z g.awaits.vote) g.awaits.aligned)
  came W a b q f (settled v x y z o e m) = settled_came W a b q v x y z f o e m
  came W a b q f (copied v x y z w e m) = copied_came W a b q v x y z f w.vote e m
  came W a b q f (due e d) = due_came W a b q f e d

-- HI and LO are kept at the next word only behind a product of another stream
pub record Producing (text : List ℕ) (W : Role) (a : ℕ) : Type 0 where
  pub stream : Role
  pub right : stream ≡ W → ⊥
  pub instr : Instr
  pub at : At text a instr
  pub product : IsProductOf stream instr

-- whether a word stands in a delay slot
data SlotOr (text : List ℕ) (a : ℕ) : Type 0 where
  in_slot : (j : ℕ) → (i : Instr) → At text j i → is_jump i ≡ true → a ≡ j + 4 → SlotOr text a
  no_slot : (IsSlot text a → ⊥) → SlotOr text a

below_of : (a : ℕ) → 0x00400000 ≤ a → a ≡ a - 4 + 4
below_of a h = omega arith

below_is : (a j : ℕ) → a ≡ j + 4 → j ≡ a - 4
below_is a j h = omega arith

slot_by : (text : List ℕ) (a : ℕ) → 0x00400000 ≤ a → (o : Option Instr) → instr_at text (a - 4) ≡ o → (z : (i : Instr) → (is_jump i ≡ true) ⊎ (is_jump i ≡ false)) → SlotOr text a
slot_by text a h None e z = no_slot (λ k. none_some k.instr (sym e ∙ at_move text (a - 4) k.jump_at k.instr (sym (below_is a k.jump_at k.behind)) k.at))
slot_by text a h (Some i) e z = elim (z i) as (λ w. SlotOr text a) [
  | inl y ↦ in_slot (a - 4) i e y (below_of a h)
  | inr n ↦ no_slot (λ k. no_truth (sym n ∙ (ap (λ (j : Instr). is_jump j) (same_instr text (a - 4) i k.instr e (at_move text (a - 4) k.jump_at k.instr (sym (below_is a k.jump_at k.behind)) k.at)) ∙ k.jumps)))
]

truth_or : (b : Bool) → (b ≡ true) ⊎ (b ≡ false)
truth_or true = inl refl
truth_or false = inr refl

slot_or : (text : List ℕ) (a : ℕ) → InText text a → SlotOr text a
slot_or text a t = slot_by text a t.from (instr_at text (a - 4)) refl (λ i. truth_or (is_jump i))

j_branch : (t x y n : ℕ) → IsBranch (J t) x y n → ⊥
j_branch t x y n (inl h) = no_truth (search (rules, h))
j_branch t x y n (inr h) = no_truth (search (rules, h))

jr_branch : (t x y n : ℕ) → IsBranch (Jr t) x y n → ⊥
jr_branch t x y n (inl h) = no_truth (search (rules, h))
jr_branch t x y n (inr h) = no_truth (search (rules, h))

slot_eight : (a j b : ℕ) → a ≡ j + 4 → b ≡ a + 4 → b ≡ j + 8
slot_eight a j b h k = omega arith

skip_here : (a j p b : ℕ) → b ≡ a + 4 → b ≡ j + 12 → j + 8 ≡ a
skip_here a j p b h k = omega arith

fall_here : (a j k b : ℕ) → b ≡ a + 4 → a ≡ j + 4 → b ≡ k + 8 → j ≡ k
fall_here a j k b h m n = omega arith

step_back : (p a b : ℕ) → b ≡ p + 4 → b ≡ a + 4 → p ≡ a
step_back p a b h k = omega arith

module _ (text : List ℕ) (entry : ℕ) (fits : IsText text) (rules_hold : WellTyped text entry) where
  pub no_report : (j : ℕ) → SkipsReport text j → ⊥
  no_report j (inl k) = (rules_hold (j + 8)).silent.0 k.stop
  no_report j (inr k) = (rules_hold (j + 8)).silent.1 k.stop

  -- behind a j or a jr no word but a start comes with products
  no_way : (X : Role) (a b j : ℕ) (i : Instr) → At text j i → ((x y n : ℕ) → IsBranch i x y n → ⊥) → is_jump i ≡ true → a ≡ j + 4 → ((code : ℕ) → At text a (Break code) → ⊥) → b ≡ a + 4 → (p : ℕ) → Before text p b → ⊥
  no_way X a b j i h nb w e n g p (straight t s k m) = s (record { jump_at = j; instr = i; at = h; jumps = w; behind = step_back p a b m g ∙ e })
  no_way X a b j i h nb w e n g p (skipped k code q m o) = n code (at_move text a (k + 8) (Break code) (sym (skip_here a k p b g o)) q.stop)
  no_way X a b j i h nb w e n g p (fallen k code q m o) = nb q.x q.y 2 (subst (λ (c : Instr). IsBranch c q.x q.y 2) (same_instr text j q.branch.instr i (at_move text j k q.branch.instr (fall_here a j k b g e o) q.branch.at) h) q.branch.is)

  slot_next : (X : Role) (a b j : ℕ) (i : Instr) → InText text a → At text j i → is_jump i ≡ true → a ≡ j + 4 → ((code : ℕ) → At text a (Break code) → ⊥) → b ≡ a + 4 → ProductsOf text entry X b → Next text a b
  slot_next X a b j (Beq x y n) t h w e m g p = Next.passed j x y n t (record { instr = Beq x y n; at = h; is = inl refl }) (no_report j) e (slot_eight a j b e g)
  slot_next X a b j (Bne x y n) t h w e m g p = Next.passed j x y n t (record { instr = Bne x y n; at = h; is = inr refl }) (no_report j) e (slot_eight a j b e g)
  slot_next X a b j (Jal k) t h w e m g p = absurd (p.no_start (IsStart.returned j k h (slot_eight a j b e g)))
  slot_next X a b j (J k) t h w e m g p = absurd (no_way X a b j (J k) h (j_branch k) w e m g p.before (before_of text entry p.before b fits p.leads p.no_start))
  slot_next X a b j (Jr k) t h w e m g p = absurd (no_way X a b j (Jr k) h (jr_branch k) w e m g p.before (before_of text entry p.before b fits p.leads p.no_start))
  slot_next X a b j _ t h w e m g p = absurd (no_truth w)

  onto_next : (X : Role) (a b : ℕ) → InText text a → ((code : ℕ) → At text a (Break code) → ⊥) → b ≡ a + 4 → ProductsOf text entry X b → SlotOr text a → Next text a b
  onto_next X a b t n e p (in_slot j i h w g) = slot_next X a b j i t h w g n e p
  onto_next X a b t n e p (no_slot m) = onward t m n e

  made : (W X : Role) (a b : ℕ) → (X ≡ W → ⊥) → ProductsOf text entry X b → Next text a b → Producing text W a
  made W X a b d p n = let e : (i : Instr) × (At text a i × IsProductOf X i) = p.each a n in record { stream = X; right = d; instr = e.0; at = e.1.0; product = e.1.1 }

  pub producing : (W : Role) (a b : ℕ) → InText text a → ((code : ℕ) → At text a (Break code) → ⊥) → Flow text entry a b → Halves text entry W b → Producing text W a
  producing W a b t n (onto e) h = made W h.stream a b h.right h.from (onto_next h.stream a b t n e h.from (slot_or text a t))
  producing W a b t n (led f) h = made W h.stream a b h.right h.from f
  producing W a b t n (lands (IsLanding.begins e)) h = absurd (h.from.no_start (IsStart.begins e))
  producing W a b t n (lands (IsLanding.returned j k w e)) h = absurd (h.from.no_start (IsStart.returned j k w e))
