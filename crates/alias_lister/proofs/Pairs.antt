-- The pairs in their order: which they are, and that they ascend.
use Rattle.std.proofs.Common.{◌≡◌, ◌≤◌, ◌<◌, ℕ, zero, suc, ◌+◌, arith, ap, refl, sym, ◌∙◌, subst, List, [], ◌∷◌, ◌++◌, length, get_or, true, false, Bool, inl, inr, drop, ◌^◌}
use Rattle.std.specs.Prelude.{if◌then◌else◌, slice_get, Option, Some, None}
use Rattle.std.specs.List.{All, Contains}
use Rattle.std.proofs.lemmas.Bool.{cases_Bool}
use Rattle.std.proofs.lemmas.List.{append_assoc, drop_more, get_or_read}
use Rattle.std.proofs.lemmas.Nat.{xor_of_16}
use Rattle.std.proofs.lemmas.List.Elements.{All-get_or, All-weaker, All-contains_itself, All-contains, Contains-append_left, Contains-append_right, Contains-append_cases}
use Rattle.hard_items.specs.declared.code.Mark.{Mark}
use Rattle.hard_items.specs.declared.code.HardBlock.{HardBlock}
use Rattle.alias_lister.specs.Aliases.{Before, pair_at}
use Rattle.alias_lister.specs.Listing.{has, leaves, members, paired, mark_at, listed}
use Rattle.alias_lister.proofs.Members.{no_true, no_some, contains_head, contains_tail, contains_cases, none_in, Ascends, members_ascend}

-- ---- the pairs of a block

-- A pair of a block.
pub record IsPair (u : ℕ) (left : ℕ → Bool) (ws : List ℕ) (p : ℕ × ℕ) : Type 0 where
  pub first : p.0 ≡ u
  pub second : Contains ws p.1
  pub stays : left p.1 ≡ false

one_further : (u : ℕ) (left : ℕ → Bool) (w : ℕ) (ws : List ℕ) (p : ℕ × ℕ) → IsPair u left ws p → IsPair u left (w ∷ ws) p
one_further u left w ws p h = record { first = h.first; second = contains_tail w ws p.1 h.second; stays = h.stays }

pub is_pair : (u : ℕ) (left : ℕ → Bool) (ws : List ℕ) (p : ℕ × ℕ) → Contains (paired u left ws) p → IsPair u left ws p
is_pair u left [] p c = absurd (none_in p c)
is_pair u left (w ∷ ws) p c = elim (cases_Bool (left w)) [
  | inl t ↦ one_further u left w ws p (is_pair u left ws p (subst (λ (q : Bool). Contains (if q then paired u left ws else (u, w) ∷ paired u left ws) p) t c))
  | inr t ↦ elim (contains_cases {A = ℕ × ℕ} (u, w) (paired u left ws) p (subst (λ (q : Bool). Contains (if q then paired u left ws else (u, w) ∷ paired u left ws) p) t c)) [
    | inl e ↦ subst (IsPair u left (w ∷ ws)) e (record { first = refl; second = contains_head w ws; stays = t })
    | inr d ↦ one_further u left w ws p (is_pair u left ws p d)
  ]
]

pub pair_in : (u : ℕ) (left : ℕ → Bool) (ws : List ℕ) (v : ℕ) → Contains ws v → left v ≡ false → Contains (paired u left ws) (u, v)
pair_in u left [] v c n = absurd (none_in v c)
pair_in u left (w ∷ ws) v c n = elim (cases_Bool (left w)) [
  | inl t ↦ elim (contains_cases w ws v c) [
    | inl e ↦ absurd (differ (left w) t (subst (λ (z : ℕ). left z ≡ false) (sym e) n))
    | inr d ↦ subst (λ (q : Bool). Contains (if q then paired u left ws else (u, w) ∷ paired u left ws) (u, v)) (sym t) (pair_in u left ws v d n)
  ]
  | inr t ↦ subst (λ (q : Bool). Contains (if q then paired u left ws else (u, w) ∷ paired u left ws) (u, v)) (sym t) (elim (contains_cases w ws v c) [
    | inl e ↦ subst (λ (z : ℕ). Contains ((u, w) ∷ paired u left ws) (u, z)) e (contains_head {A = ℕ × ℕ} (u, w) (paired u left ws))
    | inr d ↦ contains_tail {A = ℕ × ℕ} (u, w) (paired u left ws) (u, v) (pair_in u left ws v d n)
  ])
] where
  differ : (b : Bool) → b ≡ true → b ≡ false → ⊥
  differ true h k = no_true k
  differ false h k = no_true (sym h)

-- ---- pairs in order

abbrev pub Ordered : List (ℕ × ℕ) → Type 0
Ordered [] = Unit {0}
Ordered (p ∷ ps) = All (Before p) ps × Ordered ps

each_in : {A : Type 0} (P : A → Type 0) (xs : List A) → ((x : A) → Contains xs x → P x) → All P xs
each_in P xs f = All-weaker (Contains xs) P f xs (All-contains_itself xs)

pub paired_ordered : (u : ℕ) (left : ℕ → Bool) (ws : List ℕ) → Ascends ws → Ordered (paired u left ws)
paired_ordered u left [] a = tt
paired_ordered u left (w ∷ ws) (l, a) = elim (cases_Bool (left w)) [
  | inl t ↦ subst (λ (q : Bool). Ordered (if q then paired u left ws else (u, w) ∷ paired u left ws)) (sym t) (paired_ordered u left ws a)
  | inr t ↦
      let behind : All (Before (u, w)) (paired u left ws) = each_in (Before (u, w)) (paired u left ws) (λ p c.
      let h : IsPair u left ws p = is_pair u left ws p c in
      let later : w < p.1 = All-contains (λ (y : ℕ). w < y) ws p.1 l h.second in
      inr (sym h.first, later)) in
      subst (λ (q : Bool). Ordered (if q then paired u left ws else (u, w) ∷ paired u left ws)) (sym t) (behind, paired_ordered u left ws a)
]

pub ordered_append : (ps qs : List (ℕ × ℕ)) → Ordered ps → Ordered qs → ((p q : ℕ × ℕ) → Contains ps p → Contains qs q → Before p q) → Ordered (ps ++ qs)
ordered_append [] qs a b f = b
ordered_append (p ∷ ps) qs (h, a) b f =
    let first : All (Before p) (ps ++ qs) = each_in (Before p) (ps ++ qs) (λ q c. elim (Contains-append_cases ps qs q c) [
      | inl d ↦ All-contains (Before p) ps q h d
      | inr d ↦ f p q (contains_head p ps) d
    ]) in
    (first, ordered_append ps qs a b (λ o q c d. f o q (contains_tail p ps o c) d))

pub in_order : (ps : List (ℕ × ℕ)) → Ordered ps → (j k : ℕ) → j < k → k < length ps → Before (pair_at ps j) (pair_at ps k)
in_order [] o j k l m = absurd (omega arith)
in_order (p ∷ ps) (h, o) zero zero l m = absurd (omega arith)
in_order (p ∷ ps) (h, o) zero (suc k) l m = All-get_or (Before p) ps k (0, 0) (omega arith) h
in_order (p ∷ ps) (h, o) (suc j) zero l m = absurd (omega arith)
in_order (p ∷ ps) (h, o) (suc j) (suc k) l m = in_order ps o j k (omega arith) (omega arith)

-- ---- all pairs

-- A pair of the blocks from a number on.
pub record IsListed (ms : List Mark) (u : ℕ) (ks : List HardBlock) (p : ℕ × ℕ) : Type 0 where
  pub at : ℕ
  pub block : HardBlock
  pub is : slice_get ks at ≡ Some block
  pub first : p.0 ≡ u + at
  pub second : Contains (members (leaves (mark_at ms p.0)) 0 ms) p.1
  pub no_successor : has p.1 block.successors ≡ false

later_listed : (ms : List Mark) (u : ℕ) (k : HardBlock) (ks : List HardBlock) (p : ℕ × ℕ) → IsListed ms (u + 1) ks p → IsListed ms u (k ∷ ks) p
later_listed ms u k ks p h = record { at = suc h.at; block = h.block; is = h.is; first = omega (arith, h.first); second = h.second; no_successor = h.no_successor }

pub is_listed : (ms : List Mark) (u : ℕ) (ks : List HardBlock) (p : ℕ × ℕ) → Contains (listed ms u ks) p → IsListed ms u ks p
is_listed ms u [] p c = absurd (none_in p c)
is_listed ms u (k ∷ ks) p c = elim (Contains-append_cases (paired u (λ w. has w k.successors) (members (leaves (mark_at ms u)) 0 ms)) (listed ms (u + 1) ks) p c) [
  | inl d ↦
      let h : IsPair u (λ w. has w k.successors) (members (leaves (mark_at ms u)) 0 ms) p = is_pair u (λ w. has w k.successors) (members (leaves (mark_at ms u)) 0 ms) p d in
      record {
        at = 0;
        block = k;
        is = refl;
        first = omega (arith, h.first);
        second = subst (λ (z : ℕ). Contains (members (leaves (mark_at ms z)) 0 ms) p.1) (sym h.first) h.second;
        no_successor = h.stays;
      }
  | inr d ↦ later_listed ms u k ks p (is_listed ms (u + 1) ks p d)
]

pub listed_in : (ms : List Mark) (u : ℕ) (ks : List HardBlock) (j v : ℕ) (k : HardBlock) → slice_get ks j ≡ Some k → Contains (members (leaves (mark_at ms (u + j))) 0 ms) v → has v k.successors ≡ false
    → Contains (listed ms u ks) (u + j, v)
listed_in ms u [] j v k e c n = absurd (no_some k e)
listed_in ms u (x ∷ ks) zero v k e c n =
    let z : u + 0 ≡ u = omega arith in
    let same : x ≡ k = ap (λ (o : Option HardBlock). unwrap o x) e in
    subst (λ (a : ℕ). Contains (listed ms u (x ∷ ks)) (a, v)) (sym z) (Contains-append_left {X = ℕ × ℕ} (paired u (λ w. has w x.successors) (members (leaves (mark_at ms u)) 0 ms)) (listed ms (u + 1) ks) (u, v)
    (pair_in u (λ w. has w x.successors) (members (leaves (mark_at ms u)) 0 ms) v (subst (λ (a : ℕ). Contains (members (leaves (mark_at ms a)) 0 ms) v) z c) (subst (λ (y : HardBlock). has v y.successors ≡ false) (sym same) n)))
  where
    unwrap : Option HardBlock → HardBlock → HardBlock
    unwrap None d = d
    unwrap (Some y) d = y
listed_in ms u (x ∷ ks) (suc j) v k e c n =
    let z : u + suc j ≡ u + 1 + j = omega arith in
    Contains-append_right {X = ℕ × ℕ} (paired u (λ w. has w x.successors) (members (leaves (mark_at ms u)) 0 ms)) (listed ms (u + 1) ks) (u + suc j, v)
    (subst (λ (a : ℕ). Contains (listed ms (u + 1) ks) (a, v)) (sym z) (listed_in ms (u + 1) ks j v k e (subst (λ (a : ℕ). Contains (members (leaves (mark_at ms a)) 0 ms) v) z c) n))

pub listed_ordered : (ms : List Mark) (u : ℕ) (ks : List HardBlock) → Ordered (listed ms u ks)
listed_ordered ms u [] = tt
listed_ordered ms u (k ∷ ks) =
    let here : List (ℕ × ℕ) = paired u (λ w. has w k.successors) (members (leaves (mark_at ms u)) 0 ms) in
    ordered_append here (listed ms (u + 1) ks)
    (paired_ordered u (λ w. has w k.successors) (members (leaves (mark_at ms u)) 0 ms) (members_ascend (leaves (mark_at ms u)) 0 ms))
    (listed_ordered ms (u + 1) ks)
    (λ p q c d. inl (earlier p.0 q.0 u (is_listed ms (u + 1) ks q d).at (is_pair u (λ w. has w k.successors) (members (leaves (mark_at ms u)) 0 ms) p c).first (is_listed ms (u + 1) ks q d).first))
  where
    earlier : (a b u j : ℕ) → a ≡ u → b ≡ u + 1 + j → a < b
    earlier a b u j e f = omega arith

-- ---- the list as it is made

-- The group that is gone along for a block.
pub group_is : (groups : List (List ℕ)) (marks : List Mark) (u : ℕ) (x g : List ℕ) → ((b : ℕ) → b < 2 ^ 16 → get_or groups b [] ≡ members b 0 marks) → 2 ^ 16 ≤ length groups → (mark_at marks u).s < 2 ^ 16 → (mark_at marks u).adjust < 2 ^ 16 →
    x ≡ get_or groups (leaves (mark_at marks u)) x → g ≡ x → g ≡ members (leaves (mark_at marks u)) 0 marks
group_is groups marks u x g h l s a e f =
    let small : leaves (mark_at marks u) < 2 ^ 16 = xor_of_16 (mark_at marks u).s (mark_at marks u).adjust s a in
    let there : leaves (mark_at marks u) < length groups = omega (arith, small, l) in
    f ∙ (get_or_read groups (leaves (mark_at marks u)) x there e [] ∙ h (leaves (mark_at marks u)) small)

-- One block more.
pub one_listed : (marks : List Mark) (blocks : List HardBlock) (u : ℕ) (k : HardBlock) (next g : List ℕ) (out more goal : List (ℕ × ℕ)) → u < length blocks → k ≡ get_or blocks u k → next ≡ k.successors → g ≡ members (leaves (mark_at marks u)) 0 marks →
    more ≡ out ++ paired u (λ w. has w next) g → out ++ listed marks u (drop u blocks) ≡ goal → more ++ listed marks (u + 1) (drop (u + 1) blocks) ≡ goal
one_listed marks blocks u k next g out more goal l e f s p h =
    let rest : List (ℕ × ℕ) = listed marks (u + 1) (drop (u + 1) blocks) in
    let here : List (ℕ × ℕ) = paired u (λ w. has w k.successors) (members (leaves (mark_at marks u)) 0 marks) in
    ap (λ (z : List (ℕ × ℕ)). z ++ rest) (p ∙ (ap (λ (z : List ℕ). out ++ paired u (λ w. has w z) g) f ∙ ap (λ (z : List ℕ). out ++ paired u (λ w. has w k.successors) z) s))
    ∙ (append_assoc out here rest
    ∙ (ap (λ (z : List HardBlock). out ++ listed marks u z) (ap (λ (z : HardBlock). z ∷ drop (u + 1) blocks) e ∙ sym (drop_more blocks u k l)) ∙ h))
