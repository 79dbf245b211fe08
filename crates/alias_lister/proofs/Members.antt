-- The groups of blocks: each list holds, ascending, exactly the blocks of its base.
use Rattle.std.proofs.Common.{◌≡◌, ◌≤◌, ◌<◌, ℕ, zero, suc, ◌+◌, arith, ap, refl, sym, ◌∙◌, subst, List, [], ◌∷◌, ◌++◌, length, get_or, replicate, true, false, Bool, inl, inr, length-set, eqb-true, eq-eqb, ◌^◌}
use Rattle.std.specs.Prelude.{Some, None, ◌⊎◌, ◌==◌, ◌&&◌, ◌||◌, if◌then◌else◌, slice_set}
use Rattle.std.specs.List.{All, Contains}
use Rattle.std.proofs.lemmas.Bool.{cases_eq, cases_Bool, ne_eqb}
use Rattle.std.proofs.lemmas.List.{get_or-set_same, get_or-set_other, get_or-replicate, length-replicate, append-nil, append_assoc}
use Rattle.std.proofs.lemmas.List.Elements.{All-weaker, All-contains_itself}
use Rattle.hard_items.specs.declared.code.Mark.{Mark}
use Rattle.alias_lister.specs.Listing.{has, base, members, grouped, mark_at}

pub no_true : true ≡ false → ⊥
no_true e = cc

pub no_some : {A : Type 0} (x : A) → None ≡ Some x → ⊥
no_some x e = cc

-- ---- membership

pub contains_head : {A : Type 0} (x : A) (xs : List A) → Contains (x ∷ xs) x
contains_head x xs = (0, omega arith, refl)

pub contains_tail : {A : Type 0} (x : A) (xs : List A) (y : A) → Contains xs y → Contains (x ∷ xs) y
contains_tail x xs y (k, l, e) = (suc k, omega arith, e)

pub contains_cases : {A : Type 0} (x : A) (xs : List A) (y : A) → Contains (x ∷ xs) y → (x ≡ y) ⊎ Contains xs y
contains_cases x xs y (zero, l, e) = inl e
contains_cases x xs y (suc k, l, e) = inr (k, omega arith, e)

pub none_in : {A : Type 0} (y : A) → Contains [] y → ⊥
none_in y c = omega (arith, c.1)

pub has_contains : (w : ℕ) (xs : List ℕ) → has w xs ≡ true → Contains xs w
has_contains w [] h = absurd (no_true (sym h))
has_contains w (x ∷ xs) h = elim (cases_eq x w) [
  | inl e ↦ subst (λ (z : ℕ). Contains (x ∷ xs) z) e (contains_head x xs)
  | inr n ↦ contains_tail x xs w (has_contains w xs (sym (ap (λ (b : Bool). b || has w xs) (ne_eqb x w n)) ∙ h))
]

pub contains_has : (w : ℕ) (xs : List ℕ) → Contains xs w → has w xs ≡ true
contains_has w [] c = absurd (none_in w c)
contains_has w (x ∷ xs) c = elim (contains_cases x xs w c) [
  | inl e ↦ ap (λ (b : Bool). b || has w xs) (eq-eqb x w e)
  | inr d ↦ either (x == w) (has w xs) (contains_has w xs d)
] where
  either : (a b : Bool) → b ≡ true → (a || b) ≡ true
  either true b h = refl
  either false b h = h

-- ---- the members of a base

choice : (t : Bool) (w : ℕ) (xs : List ℕ) → (if t then w ∷ xs else xs) ≡ (if t then w ∷ [] else []) ++ xs
choice true w xs = refl
choice false w xs = refl

added_long : (f : Bool) (c w : ℕ) (lists : List (List ℕ)) → length (if f then slice_set lists c (get_or lists c [] ++ w ∷ []) else lists) ≡ length lists
added_long true c w lists = length-set lists c (get_or lists c [] ++ w ∷ [])
added_long false c w lists = refl

added_at : (f : Bool) (c w : ℕ) (lists : List (List ℕ)) (b : ℕ) → b < length lists
    → get_or (if f then slice_set lists c (get_or lists c [] ++ w ∷ []) else lists) b [] ≡ get_or lists b [] ++ (if f && (c == b) then w ∷ [] else [])
added_at false c w lists b l = sym (append-nil (get_or lists b []))
added_at true c w lists b l = elim (cases_eq c b) [
  | inl e ↦
      subst (λ (z : ℕ). get_or (slice_set lists c (get_or lists c [] ++ w ∷ [])) z [] ≡ get_or lists z [] ++ w ∷ []) e (get_or-set_same lists c (get_or lists c [] ++ w ∷ []) [] (subst (λ (z : ℕ). z < length lists) (sym e) l))
      ∙ ap (λ (t : Bool). get_or lists b [] ++ (if t then w ∷ [] else [])) (sym (eq-eqb c b e))
  | inr n ↦
      get_or-set_other lists c b (get_or lists c [] ++ w ∷ []) [] (λ q. n (sym q))
      ∙ sym (append-nil (get_or lists b []))
      ∙ ap (λ (t : Bool). get_or lists b [] ++ (if t then w ∷ [] else [])) (sym (ne_eqb c b n))
]

pub grouped_long : (w : ℕ) (ms : List Mark) (lists : List (List ℕ)) → length (grouped w ms lists) ≡ length lists
grouped_long w [] lists = refl
grouped_long w (m ∷ ms) lists = grouped_long (w + 1) ms (if m.fan then slice_set lists (base m) (get_or lists (base m) [] ++ w ∷ []) else lists) ∙ added_long m.fan (base m) w lists

grouped_at : (w : ℕ) (ms : List Mark) (lists : List (List ℕ)) (b : ℕ) → b < length lists → get_or (grouped w ms lists) b [] ≡ get_or lists b [] ++ members b w ms
grouped_at w [] lists b l = sym (append-nil (get_or lists b []))
grouped_at w (m ∷ ms) lists b l =
    let next : List (List ℕ) = if m.fan then slice_set lists (base m) (get_or lists (base m) [] ++ w ∷ []) else lists in
    grouped_at (w + 1) ms next b (omega (arith, l, added_long m.fan (base m) w lists))
    ∙ ap (λ (xs : List ℕ). xs ++ members b (w + 1) ms) (added_at m.fan (base m) w lists b l)
    ∙ append_assoc (get_or lists b []) (if m.fan && (base m == b) then w ∷ [] else []) (members b (w + 1) ms)
    ∙ ap (λ (xs : List ℕ). get_or lists b [] ++ xs) (sym (choice (m.fan && (base m == b)) w (members b (w + 1) ms)))

pub groups_at : (ms : List Mark) (count b : ℕ) → b < count → get_or (grouped 0 ms (replicate count [])) b [] ≡ members b 0 ms
groups_at ms count b l =
    let empty : List ℕ = [] in
    grouped_at 0 ms (replicate count empty) b (omega (arith, l, length-replicate count empty)) ∙ ap (λ (xs : List ℕ). xs ++ members b 0 ms) (get_or-replicate count b empty empty l)

pub groups_long : (ms : List Mark) (count : ℕ) → length (grouped 0 ms (replicate count [])) ≡ count
groups_long ms count = let empty : List ℕ = [] in grouped_long 0 ms (replicate count empty) ∙ length-replicate count empty

-- A block of a base.
pub record IsMember (b w : ℕ) (ms : List Mark) (v : ℕ) : Type 0 where
  pub at : ℕ
  pub is : v ≡ w + at
  pub there : at < length ms
  pub fan : (mark_at ms at).fan ≡ true
  pub of_base : base (mark_at ms at) ≡ b

left_true : (a b : Bool) → (a && b) ≡ true → a ≡ true
left_true true b h = refl
left_true false b h = h

right_true : (a b : Bool) → (a && b) ≡ true → b ≡ true
right_true true b h = h
right_true false b h = absurd (no_true (sym h))

both_true : (a b : Bool) → a ≡ true → b ≡ true → (a && b) ≡ true
both_true true b h k = k
both_true false b h k = absurd (no_true (sym h))

further : (b w : ℕ) (m : Mark) (ms : List Mark) (v : ℕ) → IsMember b (w + 1) ms v → IsMember b w (m ∷ ms) v
further b w m ms v h = record { at = suc h.at; is = omega (arith, h.is); there = omega (arith, h.there); fan = h.fan; of_base = h.of_base }

pub is_member : (b w : ℕ) (ms : List Mark) (v : ℕ) → Contains (members b w ms) v → IsMember b w ms v
is_member b w [] v c = absurd (none_in v c)
is_member b w (m ∷ ms) v c = elim (cases_Bool (m.fan && (base m == b))) [
  | inl t ↦ elim (contains_cases w (members b (w + 1) ms) v (subst (λ (q : Bool). Contains (if q then w ∷ members b (w + 1) ms else members b (w + 1) ms) v) t c)) [
    | inl e ↦ record { at = 0; is = omega (arith, e); there = omega arith; fan = left_true m.fan (base m == b) t; of_base = eqb-true (base m) b (right_true m.fan (base m == b) t) }
    | inr d ↦ further b w m ms v (is_member b (w + 1) ms v d)
  ]
  | inr t ↦ further b w m ms v (is_member b (w + 1) ms v (subst (λ (q : Bool). Contains (if q then w ∷ members b (w + 1) ms else members b (w + 1) ms) v) t c))
]

pub member_in : (b w : ℕ) (ms : List Mark) (j : ℕ) → j < length ms → (mark_at ms j).fan ≡ true → base (mark_at ms j) ≡ b → Contains (members b w ms) (w + j)
member_in b w [] j l f e = absurd (omega arith)
member_in b w (m ∷ ms) zero l f e =
    let t : (m.fan && (base m == b)) ≡ true = both_true m.fan (base m == b) f (eq-eqb (base m) b e) in
    let z : w ≡ w + 0 = omega arith in
    subst (λ (q : Bool). Contains (if q then w ∷ members b (w + 1) ms else members b (w + 1) ms) (w + 0)) (sym t) (subst (λ (v : ℕ). Contains (w ∷ members b (w + 1) ms) v) z (contains_head w (members b (w + 1) ms)))
member_in b w (m ∷ ms) (suc j) l f e =
    let z : w + 1 + j ≡ w + suc j = omega arith in
    let c : Contains (members b (w + 1) ms) (w + suc j) = subst (λ (v : ℕ). Contains (members b (w + 1) ms) v) z (member_in b (w + 1) ms j (omega arith) f e) in
    elim (cases_Bool (m.fan && (base m == b))) [
      | inl t ↦ subst (λ (q : Bool). Contains (if q then w ∷ members b (w + 1) ms else members b (w + 1) ms) (w + suc j)) (sym t) (contains_tail w (members b (w + 1) ms) (w + suc j) c)
      | inr t ↦ subst (λ (q : Bool). Contains (if q then w ∷ members b (w + 1) ms else members b (w + 1) ms) (w + suc j)) (sym t) c
    ]

below : (v w a n : ℕ) → v ≡ w + a → a < n → v < w + n
below v w a n e l = omega arith

pub members_within : (b : ℕ) (ms : List Mark) (n : ℕ) → length ms ≡ n → All (λ v. v < n) (members b 0 ms)
members_within b ms n e = All-weaker (Contains (members b 0 ms)) (λ v. v < n) (λ v c. let h : IsMember b 0 ms v = is_member b 0 ms v c in within v h.at n h.is (omega (arith, h.there, e))) (members b 0 ms) (All-contains_itself (members b 0 ms))
  where
    within : (v a n : ℕ) → v ≡ 0 + a → a < n → v < n
    within v a n e l = omega arith

-- ---- they ascend

abbrev pub Ascends : List ℕ → Type 0
Ascends [] = Unit {0}
Ascends (x ∷ xs) = All (λ y. x < y) xs × Ascends xs

from_next : (b w : ℕ) (ms : List Mark) → All (λ y. w < y) (members b (w + 1) ms)
from_next b w ms = All-weaker (Contains (members b (w + 1) ms)) (λ y. w < y) (λ y c. let h : IsMember b (w + 1) ms y = is_member b (w + 1) ms y c in omega (arith, h.is)) (members b (w + 1) ms) (All-contains_itself (members b (w + 1) ms))

pub members_ascend : (b w : ℕ) (ms : List Mark) → Ascends (members b w ms)
members_ascend b w [] = tt
members_ascend b w (m ∷ ms) = elim (cases_Bool (m.fan && (base m == b))) [
  | inl t ↦ subst (λ (q : Bool). Ascends (if q then w ∷ members b (w + 1) ms else members b (w + 1) ms)) (sym t) (from_next b w ms, members_ascend b (w + 1) ms)
  | inr t ↦ subst (λ (q : Bool). Ascends (if q then w ∷ members b (w + 1) ms else members b (w + 1) ms)) (sym t) (members_ascend b (w + 1) ms)
]

-- All lists of a table of the groups.
pub groups_many : (ms : List Mark) (count : ℕ) (table : List (List ℕ)) → 2 ^ 16 ≤ count → table ≡ grouped 0 ms (replicate count []) → 2 ^ 16 ≤ length table
groups_many ms count table h e = omega (arith, h, ap (λ (z : List (List ℕ)). length z) e, groups_long ms count)

pub groups_all : (ms : List Mark) (count : ℕ) (table : List (List ℕ)) → 2 ^ 16 ≤ count → table ≡ grouped 0 ms (replicate count []) → (b : ℕ) → b < 2 ^ 16 → get_or table b [] ≡ members b 0 ms
groups_all ms count table h e b l = ap (λ (z : List (List ℕ)). get_or z b []) e ∙ groups_at ms count b (omega (arith, h, l))
