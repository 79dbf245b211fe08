-- How many edges lead to a block, by the lists of successors.
use Rattle.std.proofs.Common.{◌≡◌, ◌≢◌, ◌≤◌, ◌<◌, ℕ, zero, suc, ◌+◌, arith, ap, refl, sym, ◌∙◌, subst, List, [], ◌∷◌, length, Bool, true, false, cond, inl, inr}
use Rattle.std.specs.Prelude.{Some, None, ◌⊎◌, ◌==◌, ◌&&◌, ◌||◌, nat_le, nat_lt, slice_get, Contains}
use Rattle.hard_items.specs.declared.code.HardBlock.{HardBlock}
use Rattle.hard_items.specs.declared.code.HardProgram.{HardProgram}
use Rattle.hard_items.specs.Ways.{MayFollow}
use Rattle.hard_items.specs.WellFormed.{WellFormed}
use Rattle.sign_law.specs.Graph.{HasTwo}
use Rattle.signature_assign.proofs.Premises.{from_there}
use Rattle.edge_split.specs.Split.{times, arrivals, joins, returns_two, is_returned}

none_some : {A : Type 0} (x : A) → None ≡ Some x → ⊥
none_some x e = cc

same_some : {A : Type 0} (x y : A) → Some x ≡ Some y → x ≡ y
same_some x y e = cc

-- ---- ascending lists

record Ascends (xs : List ℕ) : Type 0 where
  rule : (k x y : ℕ) → slice_get xs k ≡ Some x → slice_get xs (k + 1) ≡ Some y → x < y

tail_ascends : (x : ℕ) (xs : List ℕ) → Ascends (x ∷ xs) → Ascends xs
tail_ascends x xs a = record { rule = λ k y z e f. a.rule (suc k) y z e (ap (slice_get (x ∷ xs)) (one k) ∙ f) }
  where
    one : (k : ℕ) → suc k + 1 ≡ suc (k + 1)
    one k = omega arith

differs : (x c : ℕ) → c < x → (x == c) ≡ false
differs x c h = grind arith

low_none : (c x : ℕ) (xs : List ℕ) → c < x → Ascends (x ∷ xs) → times c (x ∷ xs) ≡ 0
low_none c x [] h a = ap (λ (z : Bool). cond z 1 0 + 0) (differs x c h)
low_none c x (y ∷ ys) h a =
    ap (λ (z : Bool). cond z 1 0 + times c (y ∷ ys)) (differs x c h) ∙ (none (times c (y ∷ ys)) ∙ low_none c y ys (trans c x y h (a.rule 0 x y refl refl)) (tail_ascends x (y ∷ ys) a))
  where
    none : (n : ℕ) → 0 + n ≡ n
    none n = omega arith

    trans : (a b c : ℕ) → a < b → b < c → a < c
    trans a b c h k = omega arith

times_once : (c : ℕ) (xs : List ℕ) → Ascends xs → times c xs ≤ 1
times_once c [] a = omega arith
times_once c (x ∷ []) a = least (x == c)
  where
    least : (z : Bool) → cond z 1 0 + 0 ≤ 1
    least true = omega arith
    least false = omega arith
times_once c (x ∷ y ∷ ys) a = by (x == c) refl (times_once c (y ∷ ys) (tail_ascends x (y ∷ ys) a))
  where
    same : (x c : ℕ) → (x == c) ≡ true → x ≡ c
    same x c e = grind arith

    one : (n : ℕ) → n ≡ 0 → 1 + n ≤ 1
    one n e = omega arith

    none : (n : ℕ) → n ≤ 1 → 0 + n ≤ 1
    none n h = omega arith

    by : (z : Bool) → (x == c) ≡ z → times c (y ∷ ys) ≤ 1 → cond z 1 0 + times c (y ∷ ys) ≤ 1
    by true e h = one (times c (y ∷ ys)) (low_none c y ys (subst (λ (w : ℕ). w < y) (same x c e) (a.rule 0 x y refl refl)) (tail_ascends x (y ∷ ys) a))
    by false e h = none (times c (y ∷ ys)) h

-- ---- what stands in a list

pub contains_times : (c : ℕ) (xs : List ℕ) → Contains xs c → 1 ≤ times c xs
contains_times c [] h = absurd (no h.0 h.1)
  where
    no : (n : ℕ) → n < 0 → ⊥
    no n h = omega arith
contains_times c (x ∷ xs) (zero, l, e) = by (x == c) (is x c e)
  where
    is : (x c : ℕ) → x ≡ c → (x == c) ≡ true
    is x c e = grind arith

    by : (z : Bool) → z ≡ true → 1 ≤ cond z 1 0 + times c xs
    by true e = more (times c xs)
      where
        more : (n : ℕ) → 1 ≤ 1 + n
        more n = omega arith
    by false e = absurd (no e)
      where
        no : false ≡ true → ⊥
        no e = cc
contains_times c (x ∷ xs) (suc k, l, e) = more (cond (x == c) 1 0) (times c xs) (contains_times c xs (k, less k (length xs) l, e))
  where
    less : (a b : ℕ) → suc a < suc b → a < b
    less a b h = omega arith

    more : (a n : ℕ) → 1 ≤ n → 1 ≤ a + n
    more a n h = omega arith

times_contains : (c : ℕ) (xs : List ℕ) → 1 ≤ times c xs → Contains xs c
times_contains c [] h = absurd (no h)
  where
    no : 1 ≤ 0 → ⊥
    no h = omega arith
times_contains c (x ∷ xs) h = by (λ k. times_contains c xs k) (x == c) refl h
  where
    same : (x c : ℕ) → (x == c) ≡ true → x ≡ c
    same x c e = grind arith

    least : (n : ℕ) → 0 < suc n
    least n = omega arith

    up : (a b : ℕ) → a < b → suc a < suc b
    up a b h = omega arith

    none : (n : ℕ) → 1 ≤ 0 + n → 1 ≤ n
    none n h = omega arith

    by : (1 ≤ times c xs → Contains xs c) → (z : Bool) → (x == c) ≡ z → 1 ≤ cond z 1 0 + times c xs → Contains (x ∷ xs) c
    by f true e k = (0, least (length xs), same x c e)
    by f false e k = let i : Contains xs c = f (none (times c xs) k) in (suc i.0, up i.0 (length xs) i.1, i.2)

pub two_long : (x y : ℕ) (xs : List ℕ) → Contains xs x → Contains xs y → x ≢ y → nat_le 2 (length xs) ≡ true
two_long x y [] h k n = absurd (no h.0 h.1)
  where
    no : (n : ℕ) → n < 0 → ⊥
    no n h = omega arith
two_long x y (z ∷ []) h k n = absurd (n (sym (one x h) ∙ one y k))
  where
    one : (x : ℕ) → Contains (z ∷ []) x → z ≡ x
    one x (zero, l, e) = e
    one x (suc k, l, e) = absurd (no k l)
      where
        no : (k : ℕ) → suc k < 1 → ⊥
        no k h = omega arith
two_long x y (z ∷ v ∷ xs) h k n = long (length xs)
  where
    long : (n : ℕ) → nat_le 2 (suc (suc n)) ≡ true
    long n = grind arith

-- ---- blocks that lead to a block

record LeadsAt (c : ℕ) (ks : List HardBlock) (i : ℕ) : Type 0 where
  block : HardBlock
  stands : slice_get ks i ≡ Some block
  has : Contains block.successors c

arrives_one : (c : ℕ) (ks : List HardBlock) (i : ℕ) → LeadsAt c ks i → 1 ≤ arrivals c ks
arrives_one c [] i a = absurd (none_some a.block a.stands)
arrives_one c (k ∷ ks) zero a = more (times c k.successors) (arrivals c ks) (contains_times c k.successors (subst (λ (z : HardBlock). Contains z.successors c) (sym (same_some k a.block a.stands)) a.has))
  where
    more : (a n : ℕ) → 1 ≤ a → 1 ≤ a + n
    more a n h = omega arith
arrives_one c (k ∷ ks) (suc i) a = more (times c k.successors) (arrivals c ks) (arrives_one c ks i (record { block = a.block; stands = a.stands; has = a.has }))
  where
    more : (a n : ℕ) → 1 ≤ n → 1 ≤ a + n
    more a n h = omega arith

both_more : (a n : ℕ) → 1 ≤ a → 1 ≤ n → 2 ≤ a + n
both_more a n h k = omega arith

arrives_two : (c : ℕ) (ks : List HardBlock) (i j : ℕ) → i ≢ j → LeadsAt c ks i → LeadsAt c ks j → 2 ≤ arrivals c ks
arrives_two c [] i j n a b = absurd (none_some a.block a.stands)
arrives_two c (k ∷ ks) zero zero n a b = absurd (n refl)
arrives_two c (k ∷ ks) zero (suc j) n a b =
    both_more (times c k.successors) (arrivals c ks) (contains_times c k.successors (subst (λ (z : HardBlock). Contains z.successors c) (sym (same_some k a.block a.stands)) a.has)) (arrives_one c ks j (record { block = b.block; stands = b.stands; has = b.has }))
arrives_two c (k ∷ ks) (suc i) zero n a b =
    both_more (times c k.successors) (arrivals c ks) (contains_times c k.successors (subst (λ (z : HardBlock). Contains z.successors c) (sym (same_some k b.block b.stands)) b.has)) (arrives_one c ks i (record { block = a.block; stands = a.stands; has = a.has }))
arrives_two c (k ∷ ks) (suc i) (suc j) n a b = more (times c k.successors) (arrivals c ks) (arrives_two c ks i j (λ e. n (ap suc e)) (record { block = a.block; stands = a.stands; has = a.has }) (record { block = b.block; stands = b.stands; has = b.has }))
  where
    more : (a n : ℕ) → 2 ≤ n → 2 ≤ a + n
    more a n h = omega arith

none_or : (n : ℕ) → (n ≡ 0) ⊎ (1 ≤ n)
none_or n = grind arith

one_arrives : (c : ℕ) (ks : List HardBlock) → 1 ≤ arrivals c ks → (i : ℕ) × LeadsAt c ks i
one_arrives c [] h = absurd (no h)
  where
    no : 1 ≤ 0 → ⊥
    no h = omega arith
one_arrives c (k ∷ ks) h = elim (none_or (times c k.successors)) [
  | inl e ↦ let r : (i : ℕ) × LeadsAt c ks i = one_arrives c ks (less (times c k.successors) (arrivals c ks) e h) in (suc r.0, record { block = r.1.block; stands = r.1.stands; has = r.1.has })
  | inr l ↦ (0, record { block = k; stands = refl; has = times_contains c k.successors l })
] where
  less : (a n : ℕ) → a ≡ 0 → 1 ≤ a + n → 1 ≤ n
  less a n e h = omega arith

-- Two blocks that lead to a block.
record TwoLead (c : ℕ) (ks : List HardBlock) : Type 0 where
  one : ℕ
  other : ℕ
  differ : one ≢ other
  by_one : LeadsAt c ks one
  by_other : LeadsAt c ks other

two_arrive : (c : ℕ) (ks : List HardBlock) → ((m : ℕ) (k : HardBlock) → slice_get ks m ≡ Some k → times c k.successors ≤ 1) → 2 ≤ arrivals c ks → TwoLead c ks
two_arrive c [] o h = absurd (no h)
  where
    no : 2 ≤ 0 → ⊥
    no h = omega arith
two_arrive c (k ∷ ks) o h = elim (none_or (times c k.successors)) as (λ z. TwoLead c (k ∷ ks)) [
  | inl e ↦ further (two_arrive c ks (λ m. o (suc m)) (less (times c k.successors) (arrivals c ks) e h))
  | inr l ↦ first l (one_arrives c ks (one (times c k.successors) (arrivals c ks) (o 0 k refl) h))
] where
  less : (a n : ℕ) → a ≡ 0 → 2 ≤ a + n → 2 ≤ n
  less a n e h = omega arith

  one : (a n : ℕ) → a ≤ 1 → 2 ≤ a + n → 1 ≤ n
  one a n e h = omega arith

  down : (a b : ℕ) → suc a ≡ suc b → a ≡ b
  down a b e = omega arith

  apart : (a : ℕ) → 0 ≡ suc a → ⊥
  apart a e = omega arith

  further : TwoLead c ks → TwoLead c (k ∷ ks)
  further t = record {
    one = suc t.one;
    other = suc t.other;
    differ = λ e. t.differ (down t.one t.other e);
    by_one = record { block = t.by_one.block; stands = t.by_one.stands; has = t.by_one.has };
    by_other = record { block = t.by_other.block; stands = t.by_other.stands; has = t.by_other.has };
  }

  first : 1 ≤ times c k.successors → (i : ℕ) × LeadsAt c ks i → TwoLead c (k ∷ ks)
  first l r = record {
    one = 0;
    other = suc r.0;
    differ = λ e. apart r.0 e;
    by_one = record { block = k; stands = refl; has = times_contains c k.successors l };
    by_other = record { block = r.1.block; stands = r.1.stands; has = r.1.has };
  }

-- ---- of a program

at_least : (n : ℕ) → nat_le 2 n ≡ true → 2 ≤ n
at_least n e = grind arith

is_at_least : (n : ℕ) → 2 ≤ n → nat_le 2 n ≡ true
is_at_least n h = grind arith

pub joins_two : (p : HardProgram) (c : ℕ) → WellFormed p → joins p c ≡ true → HasTwo (MayFollow p) c
joins_two p c w e =
    let t : TwoLead c p.blocks = two_arrive c p.blocks (λ m k s. times_once c k.successors (record { rule = λ j x y f g. w.successors_ascend m j x y k s f g })) (at_least (arrivals c p.blocks) e) in
    record {
      one = t.one;
      other = t.other;
      differ = t.differ;
      by_one = (w.successors_are t.one c t.by_one.block t.by_one.stands).0 t.by_one.has;
      by_other = (w.successors_are t.other c t.by_other.block t.by_other.stands).0 t.by_other.has;
    }

leads_at : (p : HardProgram) (b c : ℕ) → WellFormed p → MayFollow p b c → LeadsAt c p.blocks b
leads_at p b c w f = let d : (d : HardBlock) × (slice_get p.blocks b ≡ Some d) = from_there p b c f in record { block = d.0; stands = d.1; has = (w.successors_are b c d.0 d.1).1 f }

pub two_joins : (p : HardProgram) (c : ℕ) → WellFormed p → HasTwo (MayFollow p) c → joins p c ≡ true
two_joins p c w t = is_at_least (arrivals c p.blocks) (arrives_two c p.blocks t.one t.other t.differ (leads_at p t.one c w t.by_one) (leads_at p t.other c w t.by_other))

-- ---- blocks that return to more than one

some_times : (n : ℕ) → 1 ≤ n → nat_lt 0 n ≡ true
some_times n h = grind arith

pub returned_by : (c : ℕ) (ks : List HardBlock) (i : ℕ) (k : HardBlock) → slice_get ks i ≡ Some k → returns_two k ≡ true → Contains k.successors c → is_returned c ks ≡ true
returned_by c [] i k e r h = absurd (none_some k e)
returned_by c (x ∷ ks) zero k e r h =
    let s : x ≡ k = same_some x k e in
    ap (λ (z : Bool). (z && nat_lt 0 (times c x.successors)) || is_returned c ks) (ap returns_two s ∙ r)
    ∙ ap (λ (z : Bool). z || is_returned c ks) (some_times (times c x.successors) (contains_times c x.successors (subst (λ (z : HardBlock). Contains z.successors c) (sym s) h)))
returned_by c (x ∷ ks) (suc i) k e r h = ap (λ (z : Bool). (returns_two x && nat_lt 0 (times c x.successors)) || z) (returned_by c ks i k e r h) ∙ last (returns_two x && nat_lt 0 (times c x.successors))
  where
    last : (z : Bool) → (z || true) ≡ true
    last true = refl
    last false = refl
