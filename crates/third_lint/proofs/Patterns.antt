-- The tests decide the streams of registers, the words of votes and of forms, and what a word uses.
use Rattle.std.proofs.Common.{◌≡◌, ◌≢◌, ℕ, ◌+◌, ◌-◌, ◌*◌, ◌%◌, ◌≤◌, arith, rules, ap, refl, sym, ◌∙◌, subst, List, false, true, Bool, cond, inl, inr}
use Rattle.std.specs.Prelude.{Option, Some, None, ◌⊎◌, ◌==◌, ◌||◌, ◌&&◌, nat_le, if◌then◌else◌}
use Rattle.mips_isa.specs.declared.instr.Instr.{Instr}
use Rattle.mips_isa.specs.declared.instr.Instr.TheVariants.{Jr, Syscall, And, Or, Addu, Beq, Bne, Ori, Sw}
use Rattle.mips_text.specs.Text.{InText, At, instr_at, IsBranch}
use Rattle.lint_words.specs.Around.{is_some}
use Rattle.lint_words.specs.Windows.{serving}
use Rattle.third_lint.specs.Votes.{Role, A, B, C, role_of, Of, IsTriple, value, stack, link, VoteAt, IsUse, base, operand, target, argument, OutputAt, ExitAt, InputAt}
use Rattle.third_lint.specs.Typing.{InVote, WordOf, output, exit, input}
use Rattle.third_lint.specs.Rules.{InInput}
use Rattle.third_lint.specs.Shapes.{same_role, of, second, third, is_and, is_or, is_copy, vote_first, vote_rest, vote_by, vote_at, vote_behind, in_vote, used_by, chooses, serves_at, called_at, moves_to, input_at, input_behind, in_input, form_behind, in_form}
use Rattle.third_lint.proofs.Places.{no_truth, in_text}
use Rattle.third_lint.proofs.Bools.{and_parts, and_both, or_parts, or_first, or_second, same_number, number_same, le_of, none_some, some_same, two_same, three_same}

-- streams
pub same_is : (Z X : Role) → same_role (Some Z) X ≡ true → Some Z ≡ Some X
same_is A A h = refl
same_is B B h = refl
same_is C C h = refl
same_is A B h = absurd (no_truth h)
same_is A C h = absurd (no_truth h)
same_is B A h = absurd (no_truth h)
same_is B C h = absurd (no_truth h)
same_is C A h = absurd (no_truth h)
same_is C B h = absurd (no_truth h)

pub of_is : (X : Role) (r : ℕ) → of X r ≡ true → Of X r
of_is X r h = by (role_of r) h
  where
    by : (o : Option Role) → same_role o X ≡ true → o ≡ Some X
    by None h = absurd (no_truth h)
    by (Some Z) h = same_is Z X h

pub self_role : (X : Role) → same_role (Some X) X ≡ true
self_role A = refl
self_role B = refl
self_role C = refl

pub is_of : (X : Role) (r : ℕ) → Of X r → of X r ≡ true
is_of X r h = ap (λ (o : Option Role). same_role o X) h ∙ self_role X

-- triples
low_second : (x : ℕ) → 4 ≤ x → x ≤ 9 → (if x == 29 then 30 else (if x == 31 then 25 else (if nat_le x 9 then x + 6 else 0))) ≡ x + 6
low_second x h k = grind arith

low_third : (x : ℕ) → 4 ≤ x → x ≤ 9 → (if x == 29 then 28 else (if x == 31 then 24 else (if nat_le x 9 then x + 12 else 0))) ≡ x + 12
low_third x h k = grind arith

pub triple_second : (x y z : ℕ) → IsTriple x y z → y ≡ second x
triple_second x y z (value h k e f) = e ∙ sym (low_second x h k)
triple_second x y z (stack e f g) = f ∙ ap (λ (n : ℕ). second n) (sym e)
triple_second x y z (link e f g) = f ∙ ap (λ (n : ℕ). second n) (sym e)

pub triple_third : (x y z : ℕ) → IsTriple x y z → z ≡ third x
triple_third x y z (value h k e f) = f ∙ sym (low_third x h k)
triple_third x y z (stack e f g) = g ∙ ap (λ (n : ℕ). third n) (sym e)
triple_third x y z (link e f g) = g ∙ ap (λ (n : ℕ). third n) (sym e)

b_a : Some B ≡ Some A → ⊥
b_a h = search (rules, h)

c_a : Some C ≡ Some A → ⊥
c_a h = search (rules, h)

none_a : None ≡ Some A → ⊥
none_a h = search (rules, h)

a_by : (x y z : Bool) → cond x (Some A) (cond y (Some B) (cond z (Some C) None)) ≡ Some A → x ≡ true
a_by true y z h = refl
a_by false true z h = absurd (b_a h)
a_by false false true h = absurd (c_a h)
a_by false false false h = absurd (none_a h)

pub triple_of : (x : ℕ) → Of A x → IsTriple x (second x) (third x)
triple_of x o = elim (or_parts (nat_le 4 x && nat_le x 9) ((x == 29) || (x == 31)) (a_by ((nat_le 4 x && nat_le x 9) || ((x == 29) || (x == 31))) ((nat_le 10 x && nat_le x 15) || ((x == 30) || (x == 25))) ((nat_le 16 x && nat_le x 21) || ((x == 28) || (x == 24))) o)) as (λ z. IsTriple x (second x) (third x)) [
  | inl k ↦
      let p : (nat_le 4 x ≡ true) × (nat_le x 9 ≡ true) = and_parts (nat_le 4 x) (nat_le x 9) k in
      value (le_of 4 x p.0) (le_of x 9 p.1) (low_second x (le_of 4 x p.0) (le_of x 9 p.1)) (low_third x (le_of 4 x p.0) (le_of x 9 p.1))
  | inr k ↦ elim (or_parts (x == 29) (x == 31) k) as (λ z. IsTriple x (second x) (third x)) [
    | inl e ↦ let e : x ≡ 29 = same_number x 29 e in stack e (ap (λ (n : ℕ). second n) e) (ap (λ (n : ℕ). third n) e)
    | inr e ↦ let e : x ≡ 31 = same_number x 31 e in link e (ap (λ (n : ℕ). second n) e) (ap (λ (n : ℕ). third n) e)
  ]
]

pub triple_a : (x y z : ℕ) → IsTriple x y z → Of A x
triple_a x y z (value h k e f) = low x h k
  where
    in_a : (x : ℕ) → 4 ≤ x → x ≤ 9 → ((nat_le 4 x && nat_le x 9) || ((x == 29) || (x == 31))) ≡ true
    in_a x h k = grind arith

    first : (x y z : Bool) → x ≡ true → cond x (Some A) (cond y (Some B) (cond z (Some C) None)) ≡ Some A
    first x y z h = rw h refl

    low : (x : ℕ) → 4 ≤ x → x ≤ 9 → Of A x
    low x h k = first _ _ _ (in_a x h k)
triple_a x y z (stack e f g) = subst (Of A) (sym e) refl
triple_a x y z (link e f g) = subst (Of A) (sym e) refl

-- instructions by their fields
and_eq : (a b c x y z : ℕ) → a ≡ x → b ≡ y → c ≡ z → Some (And a b c) ≡ Some (And x y z)
and_eq a b c x y z e f g = rw (e, f, g) refl

or_eq : (a b c x y z : ℕ) → a ≡ x → b ≡ y → c ≡ z → Some (Or a b c) ≡ Some (Or x y z)
or_eq a b c x y z e f g = rw (e, f, g) refl

addu_eq : (a b c x y z : ℕ) → a ≡ x → b ≡ y → c ≡ z → Some (Addu a b c) ≡ Some (Addu x y z)
addu_eq a b c x y z e f g = rw (e, f, g) refl

ori_eq : (a b c x y z : ℕ) → a ≡ x → b ≡ y → c ≡ z → Some (Ori a b c) ≡ Some (Ori x y z)
ori_eq a b c x y z e f g = rw (e, f, g) refl

and_is : (o : Option Instr) (d p q : ℕ) → is_and o d p q ≡ true → o ≡ Some (And d p q)
and_is None d p q h = absurd (no_truth h)
and_is (Some (And a b c)) d p q h = let w : (a ≡ d) × ((b ≡ p) × (c ≡ q)) = three_same a b c d p q h in and_eq a b c d p q w.0 w.1.0 w.1.1
and_is (Some _) d p q h = absurd (no_truth h)

self_three : (d p q : ℕ) → ((d == d) && ((p == p) && (q == q))) ≡ true
self_three d p q = and_both (d == d) ((p == p) && (q == q)) (number_same d d refl) (and_both (p == p) (q == q) (number_same p p refl) (number_same q q refl))

is_and_of : (o : Option Instr) (d p q : ℕ) → o ≡ Some (And d p q) → is_and o d p q ≡ true
is_and_of o d p q e = ap (λ (x : Option Instr). is_and x d p q) e ∙ self_three d p q

or_is : (o : Option Instr) (d p q : ℕ) → is_or o d p q ≡ true → o ≡ Some (Or d p q)
or_is None d p q h = absurd (no_truth h)
or_is (Some (Or a b c)) d p q h = let w : (a ≡ d) × ((b ≡ p) × (c ≡ q)) = three_same a b c d p q h in or_eq a b c d p q w.0 w.1.0 w.1.1
or_is (Some _) d p q h = absurd (no_truth h)

is_or_of : (o : Option Instr) (d p q : ℕ) → o ≡ Some (Or d p q) → is_or o d p q ≡ true
is_or_of o d p q e = ap (λ (x : Option Instr). is_or x d p q) e ∙ self_three d p q

copy_is : (o : Option Instr) (d p : ℕ) → is_copy o d p ≡ true → o ≡ Some (Addu d p 0)
copy_is None d p h = absurd (no_truth h)
copy_is (Some (Addu a b c)) d p h = let w : (a ≡ d) × ((b ≡ p) × (c ≡ 0)) = three_same a b c d p 0 h in addu_eq a b c d p 0 w.0 w.1.0 w.1.1
copy_is (Some _) d p h = absurd (no_truth h)

is_copy_of : (o : Option Instr) (d p : ℕ) → o ≡ Some (Addu d p 0) → is_copy o d p ≡ true
is_copy_of o d p e = ap (λ (x : Option Instr). is_copy x d p) e ∙ self_three d p 0

-- votes
first_parts : (d p q x : ℕ) (z : Bool) → ((d == 1) && (of A p && (q == second p))) ≡ z → cond z (Some p) None ≡ Some x → (Some (And d p q) ≡ Some (And 1 x (second x))) × Of A x
first_parts d p q x false e h = absurd (none_some x h)
first_parts d p q x true e h =
    let k : p ≡ x = some_same p x h in
    let a : ((d == 1) ≡ true) × ((of A p && (q == second p)) ≡ true) = and_parts (d == 1) (of A p && (q == second p)) e in
    let b : (of A p ≡ true) × ((q == second p) ≡ true) = and_parts (of A p) (q == second p) a.1 in
    (and_eq d p q 1 x (second x) (same_number d 1 a.0) k (same_number q (second p) b.1 ∙ ap (λ (n : ℕ). second n) k), subst (Of A) k (of_is A p b.0))

first_is : (o : Option Instr) (x : ℕ) → vote_first o ≡ Some x → (o ≡ Some (And 1 x (second x))) × Of A x
first_is None x h = absurd (none_some x h)
first_is (Some (And d p q)) x h = first_parts d p q x ((d == 1) && (of A p && (q == second p))) refl h
first_is (Some _) x h = absurd (none_some x h)

is_first : (o : Option Instr) (x : ℕ) → o ≡ Some (And 1 x (second x)) → Of A x → vote_first o ≡ Some x
is_first o x e a = ap (λ (i : Option Instr). vote_first i) e ∙ ap (λ (z : Bool). cond z (Some x) None) (and_both (of A x) (second x == second x) (is_of A x a) (number_same (second x) (second x) refl))

rest_is : (text : List ℕ) (v x : ℕ) → vote_rest text v x ≡ true → At text v (And 1 x (second x)) → Of A x → VoteAt text v x (second x) (third x)
rest_is text v x h b o =
    let p1 : (is_or (instr_at text (v + 4)) 3 x (second x) ≡ true) × ((is_and (instr_at text (v + 8)) 3 3 (third x) && (is_or (instr_at text (v + 12)) x 1 3 && (is_copy (instr_at text (v + 16)) (second x) x && is_copy (instr_at text (v + 20)) (third x) x))) ≡ true) = and_parts _ _ h in
    let p2 : (is_and (instr_at text (v + 8)) 3 3 (third x) ≡ true) × ((is_or (instr_at text (v + 12)) x 1 3 && (is_copy (instr_at text (v + 16)) (second x) x && is_copy (instr_at text (v + 20)) (third x) x)) ≡ true) = and_parts _ _ p1.1 in
    let p3 : (is_or (instr_at text (v + 12)) x 1 3 ≡ true) × ((is_copy (instr_at text (v + 16)) (second x) x && is_copy (instr_at text (v + 20)) (third x) x) ≡ true) = and_parts _ _ p2.1 in
    let p4 : (is_copy (instr_at text (v + 16)) (second x) x ≡ true) × (is_copy (instr_at text (v + 20)) (third x) x ≡ true) = and_parts _ _ p3.1 in
    record {
      triple = triple_of x o;
      both = b;
      either = or_is (instr_at text (v + 4)) 3 x (second x) p1.0;
      other = and_is (instr_at text (v + 8)) 3 3 (third x) p2.0;
      settles = or_is (instr_at text (v + 12)) x 1 3 p3.0;
      copies = copy_is (instr_at text (v + 16)) (second x) x p4.0;
      ends = copy_is (instr_at text (v + 20)) (third x) x p4.1;
    }

is_rest : (text : List ℕ) (v x : ℕ) → VoteAt text v x (second x) (third x) → vote_rest text v x ≡ true
is_rest text v x o =
    and_both (is_or (instr_at text (v + 4)) 3 x (second x)) _ (is_or_of _ 3 x (second x) o.either)
    (and_both (is_and (instr_at text (v + 8)) 3 3 (third x)) _ (is_and_of _ 3 3 (third x) o.other)
    (and_both (is_or (instr_at text (v + 12)) x 1 3) _ (is_or_of _ x 1 3 o.settles)
    (and_both (is_copy (instr_at text (v + 16)) (second x) x) (is_copy (instr_at text (v + 20)) (third x) x) (is_copy_of _ (second x) x o.copies) (is_copy_of _ (third x) x o.ends))))

vote_rest_by : (text : List ℕ) (v w x : ℕ) (z : Bool) → vote_rest text v w ≡ z → vote_first (instr_at text v) ≡ Some w → cond z (Some w) None ≡ Some x → VoteAt text v x (second x) (third x)
vote_rest_by text v w x false e f h = absurd (none_some x h)
vote_rest_by text v w x true e f h =
    let k : w ≡ x = some_same w x h in
    let p : (instr_at text v ≡ Some (And 1 w (second w))) × Of A w = first_is (instr_at text v) w f in
    subst (λ (n : ℕ). VoteAt text v n (second n) (third n)) k (rest_is text v w e p.0 p.1)

pub vote_is : (text : List ℕ) (v x : ℕ) → vote_at text v ≡ Some x → VoteAt text v x (second x) (third x)
vote_is text v x h = by (vote_first (instr_at text v)) refl h
  where
    by : (o : Option ℕ) → vote_first (instr_at text v) ≡ o → vote_by text v o ≡ Some x → VoteAt text v x (second x) (third x)
    by None e h = absurd (none_some x h)
    by (Some w) e h = vote_rest_by text v w x (vote_rest text v w) refl e h

pub own_vote : (text : List ℕ) (v x y z : ℕ) → VoteAt text v x y z → VoteAt text v x (second x) (third x)
own_vote text v x y z o = subst (λ (n : ℕ). VoteAt text v x n (third x)) (triple_second x y z o.triple) (subst (λ (n : ℕ). VoteAt text v x y n) (triple_third x y z o.triple) o)

pub is_vote : (text : List ℕ) (v x y z : ℕ) → VoteAt text v x y z → vote_at text v ≡ Some x
is_vote text v x y z k =
    let o : VoteAt text v x (second x) (third x) = own_vote text v x y z k in
    ap (λ (i : Option ℕ). vote_by text v i) (is_first (instr_at text v) x o.both (triple_a x (second x) (third x) o.triple))
    ∙ ap (λ (b : Bool). cond b (Some x) None) (is_rest text v x o)

some_is : (o : Option ℕ) → is_some o ≡ true → (x : ℕ) × (o ≡ Some x)
some_is None h = absurd (no_truth h)
some_is (Some x) h = (x, refl)

pub vote_some : (text : List ℕ) (v : ℕ) → is_some (vote_at text v) ≡ true → (x : ℕ) × VoteAt text v x (second x) (third x)
vote_some text v h = let p : (x : ℕ) × (vote_at text v ≡ Some x) = some_is (vote_at text v) h in (p.0, vote_is text v p.0 p.1)

pub some_vote : (text : List ℕ) (v x y z : ℕ) → VoteAt text v x y z → is_some (vote_at text v) ≡ true
some_vote text v x y z o = ap (λ (i : Option ℕ). is_some i) (is_vote text v x y z o)

-- words of votes
self_zero : (a : ℕ) → a ≡ a + 4 * 0
self_zero a = omega arith

at_first : (a c k : ℕ) → a ≡ c + 4 * k → k ≡ 0 → c ≡ a
at_first a c k e h = omega arith

abbrev V : List ℕ → ℕ → Bool
V text v = is_some (vote_at text v)

minus_form : (a n k : ℕ) → n ≡ 4 * k → 0x00400000 ≤ a - n → n ≤ 32 → a ≡ a - n + 4 * k
minus_form a n k e h l = omega arith

form_minus : (a c n k : ℕ) → a ≡ c + 4 * k → n ≡ 4 * k → c ≡ a - n
form_minus a c n k e h = omega arith

vote_back : (text : List ℕ) (a n k : ℕ) → n ≡ 4 * k → n ≤ 32 → k ≤ 5 → is_some (vote_at text (a - n)) ≡ true → InVote text a k
vote_back text a n k e l u h =
    let p : (x : ℕ) × VoteAt text (a - n) x (second x) (third x) = vote_some text (a - n) h in
    record { v = a - n; x = p.0; y = second p.0; z = third p.0; vote = p.1; upto = u; at = minus_form a n k e (in_text text (a - n) (And 1 p.0 (second p.0)) p.1.both).from l }

back_vote : (text : List ℕ) (a n k j : ℕ) (o : InVote text a k) → k ≡ j → n ≡ 4 * j → is_some (vote_at text (a - n)) ≡ true
back_vote text a n k j o e f = subst (λ (v : ℕ). is_some (vote_at text v) ≡ true) (form_minus a o.v n j (o.at ∙ ap (λ (m : ℕ). o.v + 4 * m) e) f) (some_vote text o.v o.x o.y o.z o.vote)

six : (k : ℕ) → k ≤ 5 → (k ≡ 0) ⊎ ((k ≡ 1) ⊎ ((k ≡ 2) ⊎ ((k ≡ 3) ⊎ ((k ≡ 4) ⊎ (k ≡ 5)))))
six k h = grind arith

pub record VoteBehind (text : List ℕ) (a : ℕ) : Type 0 where
  pub k : ℕ
  pub positive : k ≢ 0
  pub word : InVote text a k

not_zero : (k : ℕ) → 1 ≤ k → k ≢ 0
not_zero k h e = omega arith

pub vote_behind_is : (text : List ℕ) (a : ℕ) → vote_behind text a ≡ true → VoteBehind text a
vote_behind_is text a h = elim (or_parts (V text (a - 4)) (V text (a - 8) || (V text (a - 12) || (V text (a - 16) || V text (a - 20)))) h) as (λ z. VoteBehind text a) [
  | inl k ↦ record { k = 1; positive = not_zero 1 (omega arith); word = vote_back text a 4 1 refl (omega arith) (omega arith) k }
  | inr h ↦ elim (or_parts (V text (a - 8)) (V text (a - 12) || (V text (a - 16) || V text (a - 20))) h) as (λ z. VoteBehind text a) [
    | inl k ↦ record { k = 2; positive = not_zero 2 (omega arith); word = vote_back text a 8 2 refl (omega arith) (omega arith) k }
    | inr h ↦ elim (or_parts (V text (a - 12)) (V text (a - 16) || V text (a - 20)) h) as (λ z. VoteBehind text a) [
      | inl k ↦ record { k = 3; positive = not_zero 3 (omega arith); word = vote_back text a 12 3 refl (omega arith) (omega arith) k }
      | inr h ↦ elim (or_parts (V text (a - 16)) (V text (a - 20)) h) as (λ z. VoteBehind text a) [
        | inl k ↦ record { k = 4; positive = not_zero 4 (omega arith); word = vote_back text a 16 4 refl (omega arith) (omega arith) k }
        | inr k ↦ record { k = 5; positive = not_zero 5 (omega arith); word = vote_back text a 20 5 refl (omega arith) (omega arith) k }
      ]
    ]
  ]
]

pub is_vote_behind : (text : List ℕ) (a k : ℕ) → InVote text a k → k ≢ 0 → vote_behind text a ≡ true
is_vote_behind text a k o n = elim (six k o.upto) as (λ z. vote_behind text a ≡ true) [
  | inl e ↦ absurd (n e)
  | inr (inl e) ↦ or_first (V text (a - 4)) _ (back_vote text a 4 k 1 o e refl)
  | inr (inr (inl e)) ↦ or_second (V text (a - 4)) _ (or_first (V text (a - 8)) _ (back_vote text a 8 k 2 o e refl))
  | inr (inr (inr (inl e))) ↦ or_second (V text (a - 4)) _ (or_second (V text (a - 8)) _ (or_first (V text (a - 12)) _ (back_vote text a 12 k 3 o e refl)))
  | inr (inr (inr (inr (inl e)))) ↦ or_second (V text (a - 4)) _ (or_second (V text (a - 8)) _ (or_second (V text (a - 12)) _ (or_first (V text (a - 16)) _ (back_vote text a 16 k 4 o e refl))))
  | inr (inr (inr (inr (inr e)))) ↦ or_second (V text (a - 4)) _ (or_second (V text (a - 8)) _ (or_second (V text (a - 12)) _ (or_second (V text (a - 16)) (V text (a - 20)) (back_vote text a 20 k 5 o e refl))))
]

pub in_vote_is : (text : List ℕ) (a : ℕ) → in_vote text a ≡ true → (k : ℕ) × InVote text a k
in_vote_is text a h = elim (or_parts (V text a) (vote_behind text a) h) as (λ z. (k : ℕ) × InVote text a k) [
  | inl k ↦ let p : (x : ℕ) × VoteAt text a x (second x) (third x) = vote_some text a k in (0, record { v = a; x = p.0; y = second p.0; z = third p.0; vote = p.1; upto = omega arith; at = self_zero a })
  | inr k ↦ let b : VoteBehind text a = vote_behind_is text a k in (b.k, b.word)
]

zero_or : (k : ℕ) → (k ≡ 0) ⊎ (k ≢ 0)
zero_or k = grind arith

pub is_in_vote : (text : List ℕ) (a k : ℕ) → InVote text a k → in_vote text a ≡ true
is_in_vote text a k o = elim (zero_or k) as (λ z. in_vote text a ≡ true) [
  | inl e ↦ or_first (V text a) (vote_behind text a) (subst (λ (v : ℕ). is_some (vote_at text v) ≡ true) (at_first a o.v k o.at e) (some_vote text o.v o.x o.y o.z o.vote))
  | inr n ↦ or_second (V text a) (vote_behind text a) (is_vote_behind text a k o n)
]

-- what a word uses
pub used_is : (text : List ℕ) (a r : ℕ) → used_by (instr_at text a) r ≡ true → IsUse text a r
used_is text a r h = by (instr_at text a) refl h
  where
    two : (x y : ℕ) → ((r == x) || (r == y)) ≡ true → (r ≡ x) ⊎ (r ≡ y)
    two x y h = elim (or_parts (r == x) (r == y) h) as (λ z. (r ≡ x) ⊎ (r ≡ y)) [ inl e ↦ inl (same_number r x e) | inr e ↦ inr (same_number r y e) ]

    by : (o : Option Instr) → instr_at text a ≡ o → used_by o r ≡ true → IsUse text a r
    by None e h = absurd (no_truth h)
    by (Some (Sw rt rs imm)) e h = base rt imm (subst (λ (x : ℕ). At text a (Sw rt x imm)) (sym (same_number r rs h)) e)
    by (Some (Beq x y imm)) e h = operand x y imm (record { instr = Beq x y imm; at = e; is = inl refl }) (two x y h)
    by (Some (Bne x y imm)) e h = operand x y imm (record { instr = Bne x y imm; at = e; is = inr refl }) (two x y h)
    by (Some (Jr rs)) e h = target (subst (λ (x : ℕ). At text a (Jr x)) (sym (same_number r rs h)) e)
    by (Some Syscall) e h = argument e (same_number r 4 h)
    by (Some _) e h = absurd (no_truth h)

two_is : (r x y : ℕ) → (r ≡ x) ⊎ (r ≡ y) → ((r == x) || (r == y)) ≡ true
two_is r x y (inl e) = or_first (r == x) (r == y) (number_same r x e)
two_is r x y (inr e) = or_second (r == x) (r == y) (number_same r y e)

branch_used : (i : Instr) (x y imm r : ℕ) → IsBranch i x y imm → (r ≡ x) ⊎ (r ≡ y) → used_by (Some i) r ≡ true
branch_used i x y imm r (inl e) m = ap (λ (j : Instr). used_by (Some j) r) e ∙ two_is r x y m
branch_used i x y imm r (inr e) m = ap (λ (j : Instr). used_by (Some j) r) e ∙ two_is r x y m

pub is_used : (text : List ℕ) (a r : ℕ) → IsUse text a r → used_by (instr_at text a) r ≡ true
is_used text a r (base rt imm h) = ap (λ (o : Option Instr). used_by o r) h ∙ number_same r r refl
is_used text a r (operand x y imm b m) = ap (λ (o : Option Instr). used_by o r) b.at ∙ branch_used b.instr x y imm r b.is m
is_used text a r (target h) = ap (λ (o : Option Instr). used_by o r) h ∙ number_same r r refl
is_used text a r (argument h e) = ap (λ (o : Option Instr). used_by o r) h ∙ number_same r 4 e

pub use_text : (text : List ℕ) (a r : ℕ) → IsUse text a r → InText text a
use_text text a r (base rt imm h) = in_text text a (Sw rt r imm) h
use_text text a r (operand x y imm b m) = in_text text a b.instr b.at
use_text text a r (target h) = in_text text a (Jr r) h
use_text text a r (argument h e) = in_text text a Syscall h

-- forms
chooses_is : (o : Option Instr) (n : ℕ) → chooses o n ≡ true → o ≡ Some (Ori 2 0 n)
chooses_is None n h = absurd (no_truth h)
chooses_is (Some (Ori a b c)) n h = let p : (a ≡ 2) × ((b ≡ 0) × (c ≡ n)) = three_same a b c 2 0 n h in ori_eq a b c 2 0 n p.0 p.1.0 p.1.1
chooses_is (Some _) n h = absurd (no_truth h)

pub serving_is : (o : Option Instr) → serving o ≡ true → o ≡ Some Syscall
serving_is None h = absurd (no_truth h)
serving_is (Some Syscall) h = refl
serving_is (Some _) h = absurd (no_truth h)

serves_is : (text : List ℕ) (n c : ℕ) → serves_at text n c ≡ true → At text c (Ori 2 0 n) × At text (c + 4) Syscall
serves_is text n c h = let p : (chooses (instr_at text c) n ≡ true) × (serving (instr_at text (c + 4)) ≡ true) = and_parts _ _ h in (chooses_is (instr_at text c) n p.0, serving_is (instr_at text (c + 4)) p.1)

is_serves : (text : List ℕ) (n c : ℕ) → At text c (Ori 2 0 n) → At text (c + 4) Syscall → serves_at text n c ≡ true
is_serves text n c h k = and_both (chooses (instr_at text c) n) (serving (instr_at text (c + 4))) (ap (λ (o : Option Instr). chooses o n) h ∙ number_same n n refl) (ap (λ (o : Option Instr). serving o) k)

called_is : (text : List ℕ) (c : ℕ) → called_at text c ≡ true → OutputAt text c ⊎ ExitAt text c
called_is text c h = elim (or_parts (serves_at text 1 c) (serves_at text 17 c) h) as (λ z. OutputAt text c ⊎ ExitAt text c) [
  | inl k ↦ let p : At text c (Ori 2 0 1) × At text (c + 4) Syscall = serves_is text 1 c k in inl (record { chooses = p.0; serves = p.1 })
  | inr k ↦ let p : At text c (Ori 2 0 17) × At text (c + 4) Syscall = serves_is text 17 c k in inr (record { chooses = p.0; serves = p.1 })
]

is_called : (text : List ℕ) (c : ℕ) → OutputAt text c ⊎ ExitAt text c → called_at text c ≡ true
is_called text c (inl o) = or_first (serves_at text 1 c) (serves_at text 17 c) (is_serves text 1 c o.chooses o.serves)
is_called text c (inr o) = or_second (serves_at text 1 c) (serves_at text 17 c) (is_serves text 17 c o.chooses o.serves)

moves_is : (o : Option Instr) (X : Role) → moves_to o X ≡ true → (d : ℕ) × (Of X d × (o ≡ Some (Addu d 2 0)))
moves_is None X h = absurd (no_truth h)
moves_is (Some (Addu a b c)) X h =
    let p : (of X a ≡ true) × (((b == 2) && (c == 0)) ≡ true) = and_parts (of X a) ((b == 2) && (c == 0)) h in
    let q : (b ≡ 2) × (c ≡ 0) = two_same b c 2 0 p.1 in
    (a, (of_is X a p.0, addu_eq a b c a 2 0 refl q.0 q.1))
moves_is (Some _) X h = absurd (no_truth h)

is_moves : (o : Option Instr) (X : Role) (d : ℕ) → Of X d → o ≡ Some (Addu d 2 0) → moves_to o X ≡ true
is_moves o X d m e = ap (λ (i : Option Instr). moves_to i X) e ∙ and_both (of X d) true (is_of X d m) refl

pub input_is : (text : List ℕ) (c : ℕ) → input_at text c ≡ true → InputAt text c
input_is text c h =
    let p : (serves_at text 5 c ≡ true) × ((moves_to (instr_at text (c + 8)) A && (moves_to (instr_at text (c + 12)) B && moves_to (instr_at text (c + 16)) C)) ≡ true) = and_parts _ _ h in
    let s : At text c (Ori 2 0 5) × At text (c + 4) Syscall = serves_is text 5 c p.0 in
    let q : (moves_to (instr_at text (c + 8)) A ≡ true) × ((moves_to (instr_at text (c + 12)) B && moves_to (instr_at text (c + 16)) C) ≡ true) = and_parts _ _ p.1 in
    let r : (moves_to (instr_at text (c + 12)) B ≡ true) × (moves_to (instr_at text (c + 16)) C ≡ true) = and_parts _ _ q.1 in
    let a : (d : ℕ) × (Of A d × (instr_at text (c + 8) ≡ Some (Addu d 2 0))) = moves_is (instr_at text (c + 8)) A q.0 in
    let b : (d : ℕ) × (Of B d × (instr_at text (c + 12) ≡ Some (Addu d 2 0))) = moves_is (instr_at text (c + 12)) B r.0 in
    let d : (d : ℕ) × (Of C d × (instr_at text (c + 16) ≡ Some (Addu d 2 0))) = moves_is (instr_at text (c + 16)) C r.1 in
    record { a = a.0; b = b.0; d = d.0; of_a = a.1.0; of_b = b.1.0; of_d = d.1.0; chooses = s.0; serves = s.1; first = a.1.1; second = b.1.1; last = d.1.1 }

pub is_input : (text : List ℕ) (c : ℕ) → InputAt text c → input_at text c ≡ true
is_input text c o = and_both (serves_at text 5 c) _ (is_serves text 5 c o.chooses o.serves)
    (and_both (moves_to (instr_at text (c + 8)) A) _ (is_moves (instr_at text (c + 8)) A o.a o.of_a o.first)
    (and_both (moves_to (instr_at text (c + 12)) B) (moves_to (instr_at text (c + 16)) C) (is_moves (instr_at text (c + 12)) B o.b o.of_b o.second) (is_moves (instr_at text (c + 16)) C o.d o.of_d o.last)))

-- words of forms
input_low : (text : List ℕ) (c : ℕ) → InputAt text c → 0x00400000 ≤ c
input_low text c o = (in_text text c (Ori 2 0 5) o.chooses).from

pub record InputBehind (text : List ℕ) (a : ℕ) : Type 0 where
  pub c : ℕ
  pub k : ℕ
  pub input : InputAt text c
  pub positive : k ≢ 0
  pub upto : k ≤ 4
  pub at : a ≡ c + 4 * k

input_back : (text : List ℕ) (a n k : ℕ) → n ≡ 4 * k → n ≤ 32 → 1 ≤ k → k ≤ 4 → input_at text (a - n) ≡ true → InputBehind text a
input_back text a n k e l p u h = let i : InputAt text (a - n) = input_is text (a - n) h in record { c = a - n; k = k; input = i; positive = not_zero k p; upto = u; at = minus_form a n k e (input_low text (a - n) i) l }

input_behind_is : (text : List ℕ) (a : ℕ) → input_behind text a ≡ true → InputBehind text a
input_behind_is text a h = elim (or_parts (input_at text (a - 4)) (input_at text (a - 8) || (input_at text (a - 12) || input_at text (a - 16))) h) as (λ z. InputBehind text a) [
  | inl k ↦ input_back text a 4 1 refl (omega arith) (omega arith) (omega arith) k
  | inr h ↦ elim (or_parts (input_at text (a - 8)) (input_at text (a - 12) || input_at text (a - 16)) h) as (λ z. InputBehind text a) [
    | inl k ↦ input_back text a 8 2 refl (omega arith) (omega arith) (omega arith) k
    | inr h ↦ elim (or_parts (input_at text (a - 12)) (input_at text (a - 16)) h) as (λ z. InputBehind text a) [
      | inl k ↦ input_back text a 12 3 refl (omega arith) (omega arith) (omega arith) k
      | inr k ↦ input_back text a 16 4 refl (omega arith) (omega arith) (omega arith) k
    ]
  ]
]

five : (k : ℕ) → k ≤ 4 → (k ≡ 0) ⊎ ((k ≡ 1) ⊎ ((k ≡ 2) ⊎ ((k ≡ 3) ⊎ (k ≡ 4))))
five k h = grind arith

back_input : (text : List ℕ) (a c n k j : ℕ) → InputAt text c → a ≡ c + 4 * k → k ≡ j → n ≡ 4 * j → input_at text (a - n) ≡ true
back_input text a c n k j i e g f = subst (λ (v : ℕ). input_at text v ≡ true) (form_minus a c n j (e ∙ ap (λ (m : ℕ). c + 4 * m) g) f) (is_input text c i)

is_input_behind : (text : List ℕ) (a c k : ℕ) → InputAt text c → k ≤ 4 → a ≡ c + 4 * k → k ≢ 0 → input_behind text a ≡ true
is_input_behind text a c k i u e n = elim (five k u) as (λ z. input_behind text a ≡ true) [
  | inl z ↦ absurd (n z)
  | inr (inl z) ↦ or_first (input_at text (a - 4)) _ (back_input text a c 4 k 1 i e z refl)
  | inr (inr (inl z)) ↦ or_second (input_at text (a - 4)) _ (or_first (input_at text (a - 8)) _ (back_input text a c 8 k 2 i e z refl))
  | inr (inr (inr (inl z))) ↦ or_second (input_at text (a - 4)) _ (or_second (input_at text (a - 8)) _ (or_first (input_at text (a - 12)) (input_at text (a - 16)) (back_input text a c 12 k 3 i e z refl)))
  | inr (inr (inr (inr z))) ↦ or_second (input_at text (a - 4)) _ (or_second (input_at text (a - 8)) _ (or_second (input_at text (a - 12)) (input_at text (a - 16)) (back_input text a c 16 k 4 i e z refl)))
]

pub in_input_is : (text : List ℕ) (a : ℕ) → in_input text a ≡ true → InInput text a
in_input_is text a h = elim (or_parts (input_at text a) (input_behind text a) h) as (λ z. InInput text a) [
  | inl k ↦ record { c = a; input = input_is text a k; from = self a; upto = more a }
  | inr k ↦ let b : InputBehind text a = input_behind_is text a k in record { c = b.c; input = b.input; from = low a b.c b.k b.at; upto = high a b.c b.k b.at b.upto }
]
  where
    self : (a : ℕ) → a ≤ a
    self a = omega arith

    more : (a : ℕ) → a ≤ a + 16
    more a = omega arith

    low : (a c k : ℕ) → a ≡ c + 4 * k → c ≤ a
    low a c k e = omega arith

    high : (a c k : ℕ) → a ≡ c + 4 * k → k ≤ 4 → a ≤ c + 16
    high a c k e u = omega arith

pub is_in_input : (text : List ℕ) (a : ℕ) → InText text a → InInput text a → in_input text a ≡ true
is_in_input text a t o =
    let p : (k : ℕ) × ((k ≤ 4) × (a ≡ o.c + 4 * k)) = places o.c a (in_text text o.c (Ori 2 0 5) o.input.chooses).aligned t.aligned o.from o.upto in
    elim (zero_or p.0) as (λ z. in_input text a ≡ true) [
      | inl e ↦ or_first (input_at text a) (input_behind text a) (subst (λ (v : ℕ). input_at text v ≡ true) (at_first a o.c p.0 p.1.1 e) (is_input text o.c o.input))
      | inr n ↦ or_second (input_at text a) (input_behind text a) (is_input_behind text a o.c p.0 o.input p.1.0 p.1.1 n)
    ]
  where
    which : (c a : ℕ) → c % 4 ≡ 0 → a % 4 ≡ 0 → c ≤ a → a ≤ c + 16 → (a ≡ c) ⊎ ((a ≡ c + 4) ⊎ ((a ≡ c + 8) ⊎ ((a ≡ c + 12) ⊎ (a ≡ c + 16))))
    which c a h k l m = grind arith

    plain : (c a : ℕ) → a ≡ c → a ≡ c + 4 * 0
    plain c a e = omega arith

    places : (c a : ℕ) → c % 4 ≡ 0 → a % 4 ≡ 0 → c ≤ a → a ≤ c + 16 → (k : ℕ) × ((k ≤ 4) × (a ≡ c + 4 * k))
    places c a h k l m = elim (which c a h k l m) as (λ z. (k : ℕ) × ((k ≤ 4) × (a ≡ c + 4 * k))) [
      | inl e ↦ (0, (omega arith, plain c a e))
      | inr (inl e) ↦ (1, (omega arith, e))
      | inr (inr (inl e)) ↦ (2, (omega arith, e))
      | inr (inr (inr (inl e))) ↦ (3, (omega arith, e))
      | inr (inr (inr (inr e))) ↦ (4, (omega arith, e))
    ]

called_low : (text : List ℕ) (c : ℕ) → OutputAt text c ⊎ ExitAt text c → 0x00400000 ≤ c
called_low text c (inl o) = (in_text text c (Ori 2 0 1) o.chooses).from
called_low text c (inr o) = (in_text text c (Ori 2 0 17) o.chooses).from

called_word : (text : List ℕ) (a c k : ℕ) → OutputAt text c ⊎ ExitAt text c → k ≤ 1 → a ≡ c + 4 * k → WordOf text a k
called_word text a c k (inl o) u e = output c o u e
called_word text a c k (inr o) u e = exit c o u e

pub record FormBehind (text : List ℕ) (a : ℕ) : Type 0 where
  pub k : ℕ
  pub positive : k ≢ 0
  pub word : WordOf text a k

pub form_behind_is : (text : List ℕ) (a : ℕ) → form_behind text a ≡ true → FormBehind text a
form_behind_is text a h = elim (or_parts (called_at text (a - 4)) (input_behind text a) h) as (λ z. FormBehind text a) [
  | inl k ↦ let o : OutputAt text (a - 4) ⊎ ExitAt text (a - 4) = called_is text (a - 4) k in record { k = 1; positive = not_zero 1 (omega arith); word = called_word text a (a - 4) 1 o (omega arith) (minus_form a 4 1 refl (called_low text (a - 4) o) (omega arith)) }
  | inr k ↦ let b : InputBehind text a = input_behind_is text a k in record { k = b.k; positive = b.positive; word = input b.c b.input b.upto b.at }
]

one_or : (k : ℕ) → k ≤ 1 → k ≢ 0 → k ≡ 1
one_or k h n = grind arith

called_behind : (text : List ℕ) (a c k : ℕ) → OutputAt text c ⊎ ExitAt text c → k ≤ 1 → a ≡ c + 4 * k → k ≢ 0 → form_behind text a ≡ true
called_behind text a c k o u e n = or_first (called_at text (a - 4)) (input_behind text a) (subst (λ (v : ℕ). called_at text v ≡ true) (form_minus a c 4 1 (e ∙ ap (λ (m : ℕ). c + 4 * m) (one_or k u n)) refl) (is_called text c o))

pub is_form_behind : (text : List ℕ) (a k : ℕ) → WordOf text a k → k ≢ 0 → form_behind text a ≡ true
is_form_behind text a k (output c o u e) n = called_behind text a c k (inl o) u e n
is_form_behind text a k (exit c o u e) n = called_behind text a c k (inr o) u e n
is_form_behind text a k (input c o u e) n = or_second (called_at text (a - 4)) (input_behind text a) (is_input_behind text a c k o u e n)

pub in_form_is : (text : List ℕ) (a : ℕ) → in_form text a ≡ true → (k : ℕ) × WordOf text a k
in_form_is text a h = elim (or_parts (called_at text a) (input_at text a || form_behind text a) h) as (λ z. (k : ℕ) × WordOf text a k) [
  | inl k ↦ (0, called_word text a a 0 (called_is text a k) (omega arith) (self_zero a))
  | inr h ↦ elim (or_parts (input_at text a) (form_behind text a) h) as (λ z. (k : ℕ) × WordOf text a k) [
    | inl k ↦ (0, input a (input_is text a k) (omega arith) (self_zero a))
    | inr k ↦ let b : FormBehind text a = form_behind_is text a k in (b.k, b.word)
  ]
]

first_called : (text : List ℕ) (a c k : ℕ) → OutputAt text c ⊎ ExitAt text c → a ≡ c + 4 * k → k ≡ 0 → in_form text a ≡ true
first_called text a c k o e z = or_first (called_at text a) (input_at text a || form_behind text a) (subst (λ (v : ℕ). called_at text v ≡ true) (at_first a c k e z) (is_called text c o))

first_word : (text : List ℕ) (a k : ℕ) → WordOf text a k → k ≡ 0 → in_form text a ≡ true
first_word text a k (output c o u e) z = first_called text a c k (inl o) e z
first_word text a k (exit c o u e) z = first_called text a c k (inr o) e z
first_word text a k (input c o u e) z = or_second (called_at text a) (input_at text a || form_behind text a) (or_first (input_at text a) (form_behind text a) (subst (λ (v : ℕ). input_at text v ≡ true) (at_first a c k e z) (is_input text c o)))

pub is_in_form : (text : List ℕ) (a k : ℕ) → WordOf text a k → in_form text a ≡ true
is_in_form text a k w = elim (zero_or k) as (λ z. in_form text a ≡ true) [
  | inl e ↦ first_word text a k w e
  | inr n ↦ or_second (called_at text a) (input_at text a || form_behind text a) (or_second (input_at text a) (form_behind text a) (is_form_behind text a k w n))
]
