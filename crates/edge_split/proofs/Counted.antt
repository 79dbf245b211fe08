-- The counts of edges and the marks of returns as they are held are those of the definition.
use Rattle.std.proofs.Common.{◌≡◌, ◌≢◌, ◌<◌, ℕ, zero, suc, ◌+◌, arith, ap, refl, sym, ◌∙◌, subst, List, [], ◌∷◌, length, map, get_or, Bool, true, false, cond, inl, inr, replicate}
use Rattle.std.specs.Prelude.{Option, Some, None, ◌⊎◌, ◌==◌, ◌&&◌, ◌||◌, nat_le, nat_lt, min, slice_get, slice_set, All}
use Rattle.std.specs.List.{range_with_len}
use Rattle.std.proofs.lemmas.List.{get_or-set_same, get_or-set_other}
use Rattle.hard_items.specs.declared.code.Item.{Item}
use Rattle.hard_items.specs.declared.code.HardBlock.{HardBlock}
use Rattle.hard_items.specs.declared.code.HardProgram.{HardProgram}
use Rattle.hard_items.specs.Run.{block_items}
use Rattle.far_branches.specs.Widen.{first_goal}
use Rattle.edge_split.specs.Split.{Plan, times, arrivals, joins, returns, calls, returns_two, is_returned, branch_plan, other_plan, plan_by, plan_of}
use Rattle.edge_split.specs.Built.{one_more, counted, all_counted, joined, marked, all_marked, goal_plan, all_planned, plan_list}

same_or : (a b : ℕ) → (a ≡ b) ⊎ (a ≢ b)
same_or a b = grind arith

is_same : (x c : ℕ) → x ≡ c → (x == c) ≡ true
is_same x c e = grind arith

not_same : (x c : ℕ) → x ≢ c → (x == c) ≡ false
not_same x c n = grind arith

first_all : {A : Type 0} (P : A → Type 0) (x : A) (xs : List A) → All P (x ∷ xs) → P x
first_all P x xs h = h 0 x (least (length xs))
  where
    least : (n : ℕ) → 0 < suc n
    least n = omega arith

later_all : {A : Type 0} (P : A → Type 0) (x : A) (xs : List A) → All P (x ∷ xs) → All P xs
later_all P x xs h = λ k d l. h (suc k) d (up k (length xs) l)
  where
    up : (m n : ℕ) → m < n → suc m < suc n
    up m n h = omega arith

length_set : {A : Type 0} (xs : List A) (i : ℕ) (a : A) → length (slice_set xs i a) ≡ length xs
length_set [] i a = refl
length_set (x ∷ xs) zero a = refl
length_set (x ∷ xs) (suc i) a = ap suc (length_set xs i a)

-- ---- counts

-- The lists that are counted have places, and the counts are at most two.
record Fits (n : ℕ) (xs : List ℕ) : Type 0 where
  fits : All (λ s. s < n) xs

one_counted : (c x n t : ℕ) (counts : List ℕ) → x < length counts → min 2 (get_or (slice_set counts x (one_more (get_or counts x 0))) c 0 + t) ≡ min 2 (get_or counts c 0 + (cond (x == c) 1 0 + t))
one_counted c x n t counts l = elim (same_or x c) [
  | inl e ↦ subst (λ (z : ℕ). min 2 (get_or (slice_set counts x (one_more (get_or counts x 0))) z 0 + t) ≡ min 2 (get_or counts z 0 + (cond (x == z) 1 0 + t))) e
      (ap (λ (z : ℕ). min 2 (z + t)) (get_or-set_same counts x (one_more (get_or counts x 0)) 0 l) ∙ (more (get_or counts x 0) t ∙ ap (λ (z : Bool). min 2 (get_or counts x 0 + (cond z 1 0 + t))) (sym (is_same x x refl))))
  | inr d ↦ ap (λ (z : ℕ). min 2 (z + t)) (get_or-set_other counts x c (one_more (get_or counts x 0)) 0 (λ e. d (sym e)))
      ∙ (none (get_or counts c 0) t ∙ ap (λ (z : Bool). min 2 (get_or counts c 0 + (cond z 1 0 + t))) (sym (not_same x c d)))
] where
  more : (a t : ℕ) → min 2 (min 2 (a + 1) + t) ≡ min 2 (a + (1 + t))
  more a t = grind arith

  none : (a t : ℕ) → min 2 (a + t) ≡ min 2 (a + (0 + t))
  none a t = ap (λ (z : ℕ). min 2 (a + z)) (zero_left t)
    where
      zero_left : (t : ℕ) → t ≡ 0 + t
      zero_left t = omega arith

counted_long : (xs counts : List ℕ) → length (counted xs counts) ≡ length counts
counted_long [] counts = refl
counted_long (x ∷ xs) counts = counted_long xs (slice_set counts x (one_more (get_or counts x 0))) ∙ length_set counts x (one_more (get_or counts x 0))

counted_is : (c : ℕ) (xs counts : List ℕ) → All (λ s. s < length counts) xs → min 2 (get_or (counted xs counts) c 0) ≡ min 2 (get_or counts c 0 + times c xs)
counted_is c [] counts h = ap (min 2) (none (get_or counts c 0))
  where
    none : (a : ℕ) → a ≡ a + 0
    none a = omega arith
counted_is c (x ∷ xs) counts h =
    counted_is c xs (slice_set counts x (one_more (get_or counts x 0))) (subst (λ (n : ℕ). All (λ s. s < n) xs) (sym (length_set counts x (one_more (get_or counts x 0)))) (later_all (λ (s : ℕ). s < length counts) x xs h))
    ∙ one_counted c x (length counts) (times c xs) counts (first_all (λ (s : ℕ). s < length counts) x xs h)

all_counted_is : (c : ℕ) (ks : List HardBlock) (counts : List ℕ) → All (λ k. All (λ s. s < length counts) k.successors) ks → min 2 (get_or (all_counted ks counts) c 0) ≡ min 2 (get_or counts c 0 + arrivals c ks)
all_counted_is c [] counts h = ap (min 2) (none (get_or counts c 0))
  where
    none : (a : ℕ) → a ≡ a + 0
    none a = omega arith
all_counted_is c (k ∷ ks) counts h =
    all_counted_is c ks (counted k.successors counts) (subst (λ (n : ℕ). All (λ x. All (λ s. s < n) x.successors) ks) (sym (counted_long k.successors counts)) (later_all (λ (x : HardBlock). All (λ s. s < length counts) x.successors) k ks h))
    ∙ more (get_or (counted k.successors counts) c 0) (get_or counts c 0) (times c k.successors) (arrivals c ks) (counted_is c k.successors counts (first_all (λ (x : HardBlock). All (λ s. s < length counts) x.successors) k ks h))
  where
    more : (a b t n : ℕ) → min 2 a ≡ min 2 (b + t) → min 2 (a + n) ≡ min 2 (b + (t + n))
    more a b t n e = grind arith

-- No count.
abbrev zeros : ℕ → List ℕ
zeros n = replicate n 0

none_counted : (n c : ℕ) → get_or (zeros n) c 0 ≡ 0
none_counted zero c = refl
none_counted (suc n) zero = refl
none_counted (suc n) (suc c) = none_counted n c

pub joined_is : (ks : List HardBlock) (n c : ℕ) → All (λ k. All (λ s. s < n) k.successors) ks → joined (all_counted ks (zeros n)) c ≡ nat_le 2 (arrivals c ks)
joined_is ks n c h = both (get_or (all_counted ks (zeros n)) c 0) (get_or (zeros n) c 0) (arrivals c ks) (none_counted n c)
    (all_counted_is c ks (zeros n) (subst (λ (m : ℕ). All (λ k. All (λ s. s < m) k.successors) ks) (sym (long n)) h))
  where
    long : (n : ℕ) → length (zeros n) ≡ n
    long zero = refl
    long (suc n) = ap suc (long n)

    both : (a b t : ℕ) → b ≡ 0 → min 2 a ≡ min 2 (b + t) → nat_le 2 a ≡ nat_le 2 t
    both a b t e f = grind arith

-- ---- marks

marked_long : (xs : List ℕ) (marks : List Bool) → length (marked xs marks) ≡ length marks
marked_long [] marks = refl
marked_long (x ∷ xs) marks = marked_long xs (slice_set marks x true) ∙ length_set marks x true

or_true : (z : Bool) → (z || true) ≡ true
or_true true = refl
or_true false = refl

some_more : (n : ℕ) → nat_lt 0 (1 + n) ≡ true
some_more n = grind arith

one_marked : (c x t : ℕ) (marks : List Bool) → x < length marks → (get_or (slice_set marks x true) c false || nat_lt 0 t) ≡ (get_or marks c false || nat_lt 0 (cond (x == c) 1 0 + t))
one_marked c x t marks l = elim (same_or x c) [
  | inl e ↦ subst (λ (z : ℕ). (get_or (slice_set marks x true) z false || nat_lt 0 t) ≡ (get_or marks z false || nat_lt 0 (cond (x == z) 1 0 + t))) e
      (ap (λ (z : Bool). z || nat_lt 0 t) (get_or-set_same marks x true false l)
      ∙ sym (ap (λ (z : Bool). get_or marks x false || nat_lt 0 (cond z 1 0 + t)) (is_same x x refl) ∙ (ap (λ (z : Bool). get_or marks x false || z) (some_more t) ∙ or_true (get_or marks x false))))
  | inr d ↦ ap (λ (z : Bool). z || nat_lt 0 t) (get_or-set_other marks x c true false (λ e. d (sym e)))
      ∙ (ap (λ (z : ℕ). get_or marks c false || nat_lt 0 z) (zero_left t) ∙ ap (λ (z : Bool). get_or marks c false || nat_lt 0 (cond z 1 0 + t)) (sym (not_same x c d)))
] where
  zero_left : (t : ℕ) → t ≡ 0 + t
  zero_left t = omega arith

or_false : (z : Bool) → z ≡ (z || false)
or_false true = refl
or_false false = refl

marked_is : (c : ℕ) (xs : List ℕ) (marks : List Bool) → All (λ s. s < length marks) xs → get_or (marked xs marks) c false ≡ (get_or marks c false || nat_lt 0 (times c xs))
marked_is c [] marks h = or_false (get_or marks c false)
marked_is c (x ∷ xs) marks h =
    marked_is c xs (slice_set marks x true) (subst (λ (n : ℕ). All (λ s. s < n) xs) (sym (length_set marks x true)) (later_all (λ (s : ℕ). s < length marks) x xs h))
    ∙ one_marked c x (times c xs) marks (first_all (λ (s : ℕ). s < length marks) x xs h)

or_assoc : (x y z : Bool) → ((x || y) || z) ≡ (x || (y || z))
or_assoc true y z = refl
or_assoc false y z = refl

block_marked : (c : ℕ) (k : HardBlock) (marks : List Bool) (z : Bool) → All (λ s. s < length marks) k.successors → get_or (cond z (marked k.successors marks) marks) c false ≡ (get_or marks c false || (z && nat_lt 0 (times c k.successors)))
block_marked c k marks true h = marked_is c k.successors marks h
block_marked c k marks false h = or_false (get_or marks c false)

block_long : (k : HardBlock) (marks : List Bool) (z : Bool) → length (cond z (marked k.successors marks) marks) ≡ length marks
block_long k marks true = marked_long k.successors marks
block_long k marks false = refl

all_marked_is : (c : ℕ) (ks : List HardBlock) (marks : List Bool) → All (λ k. All (λ s. s < length marks) k.successors) ks → get_or (all_marked ks marks) c false ≡ (get_or marks c false || is_returned c ks)
all_marked_is c [] marks h = or_false (get_or marks c false)
all_marked_is c (k ∷ ks) marks h =
    all_marked_is c ks (cond (returns_two k) (marked k.successors marks) marks) (subst (λ (n : ℕ). All (λ x. All (λ s. s < n) x.successors) ks) (sym (block_long k marks (returns_two k))) (later_all (λ (x : HardBlock). All (λ s. s < length marks) x.successors) k ks h))
    ∙ (ap (λ (z : Bool). z || is_returned c ks) (block_marked c k marks (returns_two k) (first_all (λ (x : HardBlock). All (λ s. s < length marks) x.successors) k ks h))
    ∙ or_assoc (get_or marks c false) (returns_two k && nat_lt 0 (times c k.successors)) (is_returned c ks))

none_marked : (n c : ℕ) → get_or (replicate n false) c false ≡ false
none_marked zero c = refl
none_marked (suc n) zero = refl
none_marked (suc n) (suc c) = none_marked n c

pub returned_is : (ks : List HardBlock) (n c : ℕ) → All (λ k. All (λ s. s < n) k.successors) ks → get_or (all_marked ks (replicate n false)) c false ≡ is_returned c ks
returned_is ks n c h =
    all_marked_is c ks (replicate n false) (subst (λ (m : ℕ). All (λ k. All (λ s. s < m) k.successors) ks) (sym (long n)) h) ∙ ap (λ (z : Bool). z || is_returned c ks) (none_marked n c)
  where
    long : (n : ℕ) → length (replicate n false) ≡ n
    long zero = refl
    long (suc n) = ap suc (long n)

-- ---- plans

-- Counts and marks that are those of a program.
record AreOf (p : HardProgram) (counts : List ℕ) (marks : List Bool) : Type 0 where
  counts_are : (c : ℕ) → joined counts c ≡ joins p c
  marks_are : (c : ℕ) → get_or marks c false ≡ is_returned c p.blocks

goal_planned : (p : HardProgram) (counts : List ℕ) (marks : List Bool) (b : ℕ) (xs : List Item) (o : Option ℕ) → AreOf p counts marks → goal_plan counts marks b xs o ≡ plan_by p b xs o
goal_planned p counts marks b xs (Some t) a = ap (λ (z : Bool). branch_plan z (joined counts t) t) (a.counts_are (b + 1)) ∙ ap (λ (z : Bool). branch_plan (joins p (b + 1)) z t) (a.counts_are t)
goal_planned p counts marks b xs None a =
    ap (λ (z : Bool). other_plan (returns xs) (calls xs) (z && get_or marks (b + 1) false)) (a.counts_are (b + 1)) ∙ ap (λ (z : Bool). other_plan (returns xs) (calls xs) (joins p (b + 1) && z)) (a.marks_are (b + 1))

list_planned : (p : HardProgram) (counts : List ℕ) (marks : List Bool) (b : ℕ) (ks : List HardBlock) → AreOf p counts marks → ((m : ℕ) (k : HardBlock) → slice_get ks m ≡ Some k → slice_get p.blocks (b + m) ≡ Some k) → all_planned counts marks b ks ≡ map (plan_of p) (range_with_len b (length ks))
list_planned p counts marks b [] a s = refl
list_planned p counts marks b (k ∷ ks) a s =
    ap (λ (z : Plan). z ∷ all_planned counts marks (b + 1) ks) (goal_planned p counts marks b k.items (first_goal b k.items) a ∙ ap (λ (xs : List Item). plan_by p b xs (first_goal b xs)) (sym (ap block_items (ap (slice_get p.blocks) (none b) ∙ s 0 k refl))))
    ∙ ap (λ (z : List Plan). plan_of p b ∷ z) (list_planned p counts marks (b + 1) ks a (λ m x e. ap (slice_get p.blocks) (move b m) ∙ s (suc m) x e))
  where
    none : (b : ℕ) → b ≡ b + 0
    none b = omega arith

    move : (b m : ℕ) → b + 1 + m ≡ b + suc m
    move b m = omega arith

pub plans_are : (p : HardProgram) (counts : List ℕ) (marks : List Bool) → All (λ k. All (λ s. s < length p.blocks + 1) k.successors) p.blocks → counts ≡ all_counted p.blocks (zeros (length p.blocks + 1)) → marks ≡ all_marked p.blocks (replicate (length p.blocks + 1) false) → all_planned counts marks 0 p.blocks ≡ plan_list p
plans_are p counts marks h e f = list_planned p counts marks 0 p.blocks (record {
  counts_are = λ c. ap (λ (z : List ℕ). joined z c) e ∙ joined_is p.blocks (length p.blocks + 1) c h;
  marks_are = λ c. ap (λ (z : List Bool). get_or z c false) f ∙ returned_is p.blocks (length p.blocks + 1) c h;
}) (λ m k s. ap (slice_get p.blocks) (zero_left m) ∙ s)
  where
    zero_left : (m : ℕ) → 0 + m ≡ m
    zero_left m = omega arith
