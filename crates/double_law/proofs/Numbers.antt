-- The numbers of blocks, the blocks behind calls, and lists that ascend.
use Rattle.std.proofs.Common.{◌≡◌, ◌≢◌, ◌≤◌, ◌<◌, ℕ, zero, suc, ◌+◌, ◌-◌, ◌*◌, ◌^◌, arith, ap, refl, sym, ◌∙◌, subst, List, [], ◌∷◌, ◌++◌, Bool, true, false, cond, inl, inr, length, map, take, flat_map, sum, le_refl, le_trans, zero-le, zero-add, ⊎_elim}
use Rattle.std.specs.Prelude.{Option, Some, None, ◌⊎◌, ◌==◌, nat_lt, if◌then◌else◌, slice_get, Contains, count_by}
use Rattle.std.proofs.lemmas.List.Sums.{sum_by-cons}
use Rattle.std.proofs.lemmas.Bool.{cases_lt}
use Rattle.mid_blocks.specs.declared.code.MidEnd.{MidEnd}
use Rattle.mid_blocks.specs.declared.code.MidEnd.TheVariants.{Jump, Branch, Call, Return}
use Rattle.mid_blocks.specs.declared.code.MidBlock.{MidBlock}
use Rattle.mid_blocks.specs.declared.code.MidFunction.{MidFunction}
use Rattle.hard_words.proofs.Sums.{sum_cons}
use Rattle.double_law.specs.Ways.{calls, behind_calls, all_blocks, in_order}

pub none_is : {A : Type 0} (x : A) → ◌≡◌ {A = Option A} None (Some x) → ⊥
none_is x e = cc

pub some_same : {A : Type 0} (x y : A) → ◌≡◌ {A = Option A} (Some x) (Some y) → x ≡ y
some_same {A} x y e = ap (λ (o : Option A). elim o as (λ z. A) [ Some v ↦ v | None ↦ x ]) e

pub no_true : true ≡ false → ⊥
no_true e = cc

-- ---- lists

pub get_left : {A : Type 0} (xs ys : List A) (j : ℕ) (x : A) → slice_get xs j ≡ Some x → slice_get (xs ++ ys) j ≡ Some x
get_left [] ys j x e = absurd (none_is x e)
get_left (z ∷ xs) ys zero x e = e
get_left (z ∷ xs) ys (suc j) x e = get_left xs ys j x e

pub suc_plus : (m j : ℕ) → suc m + j ≡ suc (m + j)
suc_plus m j = omega arith

pub get_right : {A : Type 0} (xs ys : List A) (j : ℕ) → slice_get (xs ++ ys) (length xs + j) ≡ slice_get ys j
get_right [] ys j = ap (λ (n : ℕ). slice_get ys n) (zero-add j)
get_right (x ∷ xs) ys j = ap (λ (n : ℕ). slice_get (x ∷ (xs ++ ys)) n) (suc_plus (length xs) j) ∙ get_right xs ys j

pub get_of_left : {A : Type 0} (xs ys : List A) (j : ℕ) → j < length xs → slice_get (xs ++ ys) j ≡ slice_get xs j
get_of_left [] ys j h = absurd (Rattle.std.proofs.Common.not-suc-le-zero h)
get_of_left (x ∷ xs) ys zero h = refl
get_of_left (x ∷ xs) ys (suc j) h = get_of_left xs ys j (Rattle.std.proofs.Common.le_of_suc-le-suc h)

pub head_in : {A : Type 0} (x : A) (xs : List A) → Contains (x ∷ xs) x
head_in x xs = (0, Rattle.std.proofs.Common.zero-lt-suc (length xs), refl)

pub tail_in : {A : Type 0} (x y : A) (xs : List A) → Contains xs y → Contains (x ∷ xs) y
tail_in x y xs c = (suc c.0, Rattle.std.proofs.Common.suc-le-suc c.1, c.2)

pub in_cons : {A : Type 0} (x y : A) (xs : List A) → Contains (x ∷ xs) y → (y ≡ x) ⊎ Contains xs y
in_cons x y xs (zero, l, e) = inl (sym e)
in_cons x y xs (suc n, l, e) = inr (n, Rattle.std.proofs.Common.le_of_suc-le-suc l, e)

pub in_none : {A : Type 0} (y : A) → Contains [] y → ⊥
in_none y c = Rattle.std.proofs.Common.not-suc-le-zero c.1

pub in_one : {A : Type 0} (x y : A) → Contains (x ∷ []) y → y ≡ x
in_one x y c = ⊎_elim (λ e. e) (λ d. absurd (in_none y d)) (in_cons x y [] c)

pub in_append : {A : Type 0} (xs ys : List A) (y : A) → Contains (xs ++ ys) y → Contains xs y ⊎ Contains ys y
in_append [] ys y c = inr c
in_append (x ∷ xs) ys y c = ⊎_elim (λ e. inl (subst (λ z. Contains (x ∷ xs) z) (sym e) (head_in x xs))) (λ d. ⊎_elim (λ l. inl (tail_in x y xs l)) (λ r. inr r) (in_append xs ys y d)) (in_cons x y (xs ++ ys) c)

pub in_left : {A : Type 0} (xs ys : List A) (y : A) → Contains xs y → Contains (xs ++ ys) y
in_left [] ys y c = absurd (in_none y c)
in_left (x ∷ xs) ys y c = ⊎_elim (λ e. subst (λ z. Contains (x ∷ (xs ++ ys)) z) (sym e) (head_in x (xs ++ ys))) (λ d. tail_in x y (xs ++ ys) (in_left xs ys y d)) (in_cons x y xs c)

pub in_right : {A : Type 0} (xs ys : List A) (y : A) → Contains ys y → Contains (xs ++ ys) y
in_right [] ys y c = c
in_right (x ∷ xs) ys y c = tail_in x y (xs ++ ys) (in_right xs ys y c)

-- at most one element passes a test
pub only_one : {A : Type 0} (test : A → Bool) (xs : List A) (i j : ℕ) (x y : A) → count_by test xs ≤ 1 → slice_get xs i ≡ Some x → test x ≡ true → slice_get xs j ≡ Some y → test y ≡ true → i ≡ j
only_one test [] i j x y h e f g k = absurd (none_is x e)
only_one {A} test (z ∷ xs) i j x y h e f g k = by (λ m n a b c. only_one test xs m n x y a b f c k) i j e g
  where
    counted : count_by test (z ∷ xs) ≡ cond (test z) 1 0 + count_by test xs
    counted = sum_by-cons (λ (w : A). cond (test w) 1 0) z xs

    some_left : (ys : List A) (n : ℕ) (w : A) → slice_get ys n ≡ Some w → test w ≡ true → 0 < count_by test ys
    some_left [] n w a b = absurd (none_is w a)
    some_left (v ∷ ys) zero w a b = more (count_by test (v ∷ ys)) (count_by test ys) (sum_by-cons (λ (w : A). cond (test w) 1 0) v ys ∙ ap (λ (t : Bool). cond t 1 0 + count_by test ys) (ap test (some_same v w a) ∙ b))
      where
        more : (s c : ℕ) → s ≡ 1 + c → 0 < s
        more s c e = omega arith
    some_left (v ∷ ys) (suc n) w a b = more (count_by test (v ∷ ys)) (count_by test ys) (cond (test v) 1 0) (sum_by-cons (λ (w : A). cond (test w) 1 0) v ys) (some_left ys n w a b)
      where
        more : (s c d : ℕ) → s ≡ d + c → 0 < c → 0 < s
        more s c d e h = omega arith

    two : (s c : ℕ) → s ≡ 1 + c → 0 < c → s ≤ 1 → ⊥
    two s c e h k = omega arith

    fewer : (s c d : ℕ) → s ≡ d + c → s ≤ 1 → c ≤ 1
    fewer s c d e h = omega arith

    by : ((m n : ℕ) → count_by test xs ≤ 1 → slice_get xs m ≡ Some x → slice_get xs n ≡ Some y → m ≡ n) → (i j : ℕ) → slice_get (z ∷ xs) i ≡ Some x → slice_get (z ∷ xs) j ≡ Some y → i ≡ j
    by again zero zero a b = refl
    by again zero (suc j) a b = absurd (two (count_by test (z ∷ xs)) (count_by test xs) (counted ∙ ap (λ (t : Bool). cond t 1 0 + count_by test xs) (ap test (some_same z x a) ∙ f)) (some_left xs j y b k) h)
    by again (suc i) zero a b = absurd (two (count_by test (z ∷ xs)) (count_by test xs) (counted ∙ ap (λ (t : Bool). cond t 1 0 + count_by test xs) (ap test (some_same z y b) ∙ k)) (some_left xs i x a f) h)
    by again (suc i) (suc j) a b = ap (λ (n : ℕ). suc n) (again i j (fewer (count_by test (z ∷ xs)) (count_by test xs) (cond (test z) 1 0) counted h) a b)

-- ---- lists that ascend

-- The numbers ascend, and are above this one.
abbrev pub Ascends : ℕ → List ℕ → Type 0
Ascends low [] = Unit {0}
Ascends low (x ∷ xs) = (low < x) × Ascends x xs

pub ascends_lower : (a b : ℕ) (xs : List ℕ) → a ≤ b → Ascends b xs → Ascends a xs
ascends_lower a b [] h k = tt
ascends_lower a b (x ∷ xs) h k = (Rattle.std.proofs.Common.lt_of_le_of_lt h k.0, k.1)

pub ascends_at : (low : ℕ) (xs : List ℕ) (k c d : ℕ) → Ascends low xs → slice_get xs k ≡ Some c → slice_get xs (k + 1) ≡ Some d → c < d
ascends_at low [] k c d h e f = absurd (none_is c e)
ascends_at low (x ∷ []) zero c d h e f = absurd (none_is d f)
ascends_at low (x ∷ y ∷ xs) zero c d h e f = subst (λ (n : ℕ). n < d) (some_same x c e) (subst (λ (n : ℕ). x < n) (some_same y d f) h.1.0)
ascends_at low (x ∷ xs) (suc k) c d h e f = ascends_at x xs k c d h.1 e (ap (λ (n : ℕ). slice_get (x ∷ xs) n) (sym (suc_plus k 1)) ∙ f)

pub behind_ascends : (f k : ℕ) (bs : List MidBlock) → Ascends k (behind_calls f k bs)
behind_ascends f k [] = tt
behind_ascends f k (b ∷ bs) = elim (calls f b.end) as (λ z. Ascends k ((if z then (k + 1) ∷ [] else []) ++ behind_calls f (k + 1) bs)) [
  | true ↦ (above k, behind_ascends f (k + 1) bs)
  | false ↦ ascends_lower k (k + 1) (behind_calls f (k + 1) bs) (under k) (behind_ascends f (k + 1) bs)
]
  where
    above : (k : ℕ) → k < k + 1
    above k = omega arith

    under : (k : ℕ) → k ≤ k + 1
    under k = omega arith

pub order_ascends : (x y : ℕ) → 0 < x → 0 < y → Ascends 0 (in_order x y)
order_ascends x y h k = (elim (nat_lt x y) as (λ z. nat_lt x y ≡ z → Ascends 0 (if z then x ∷ y ∷ [] else (if nat_lt y x then y ∷ x ∷ [] else x ∷ []))) [
  | true ↦ λ e. (h, (below x y e, tt))
  | false ↦ λ e. (elim (nat_lt y x) as (λ z. nat_lt y x ≡ z → Ascends 0 (if z then y ∷ x ∷ [] else x ∷ [])) [ true ↦ λ g. (k, (below y x g, tt)) | false ↦ λ g. (h, tt) ]) refl
]) refl
  where
    below : (a b : ℕ) → nat_lt a b ≡ true → a < b
    below a b e = grind arith

pub in_order_in : (x y c : ℕ) → Contains (in_order x y) c → (c ≡ x) ⊎ (c ≡ y)
in_order_in x y c h = (elim (nat_lt x y) as (λ z. Contains (if z then x ∷ y ∷ [] else (if nat_lt y x then y ∷ x ∷ [] else x ∷ [])) c → (c ≡ x) ⊎ (c ≡ y)) [
  | true ↦ λ k. ⊎_elim (λ e. inl e) (λ d. inr (in_one y c d)) (in_cons x c (y ∷ []) k)
  | false ↦ elim (nat_lt y x) as (λ z. Contains (if z then y ∷ x ∷ [] else x ∷ []) c → (c ≡ x) ⊎ (c ≡ y)) [ true ↦ λ k. ⊎_elim (λ e. inr e) (λ d. inl (in_one x c d)) (in_cons y c (x ∷ []) k) | false ↦ λ k. inl (in_one x c k) ]
]) h

pub order_has_first : (x y : ℕ) → Contains (in_order x y) x
order_has_first x y = elim (nat_lt x y) as (λ z. Contains (if z then x ∷ y ∷ [] else (if nat_lt y x then y ∷ x ∷ [] else x ∷ [])) x) [
  | true ↦ head_in x (y ∷ [])
  | false ↦ elim (nat_lt y x) as (λ z. Contains (if z then y ∷ x ∷ [] else x ∷ []) x) [ true ↦ tail_in y x (x ∷ []) (head_in x []) | false ↦ head_in x [] ]
]

pub order_has_second : (x y : ℕ) → Contains (in_order x y) y
order_has_second x y = (elim (nat_lt x y) as (λ z. nat_lt x y ≡ z → Contains (if z then x ∷ y ∷ [] else (if nat_lt y x then y ∷ x ∷ [] else x ∷ [])) y) [
  | true ↦ λ e. tail_in x y (y ∷ []) (head_in y [])
  | false ↦ λ e. (elim (nat_lt y x) as (λ z. nat_lt y x ≡ z → Contains (if z then y ∷ x ∷ [] else x ∷ []) y) [ true ↦ λ g. head_in y (x ∷ []) | false ↦ λ g. subst (λ (n : ℕ). Contains (x ∷ []) n) (same x y e g) (head_in x []) ]) refl
]) refl
  where
    same : (a b : ℕ) → nat_lt a b ≡ false → nat_lt b a ≡ false → a ≡ b
    same a b e f = grind arith

-- ---- the blocks behind calls

-- A block of a list calls a function.
pub record CallsAt (f : ℕ) (bs : List MidBlock) (j : ℕ) : Type 0 where
  pub block : MidBlock
  pub is_block : slice_get bs j ≡ Some block
  pub test : calls f block.end ≡ true

pub behind_from : (f k : ℕ) (bs : List MidBlock) (c : ℕ) → Contains (behind_calls f k bs) c → (j : ℕ) × CallsAt f bs j × (c ≡ k + j + 1)
behind_from f k [] c h = absurd (in_none c h)
behind_from f k (b ∷ bs) c h = (elim (calls f b.end) as (λ z. calls f b.end ≡ z → Contains ((if z then (k + 1) ∷ [] else []) ++ behind_calls f (k + 1) bs) c → (j : ℕ) × CallsAt f (b ∷ bs) j × (c ≡ k + j + 1)) [
  | true ↦ λ e d. ⊎_elim (λ x. (0, record { block = b; is_block = refl; test = e }, x ∙ first k)) (λ g. later (behind_from f (k + 1) bs c g)) (in_cons (k + 1) c (behind_calls f (k + 1) bs) d)
  | false ↦ λ e d. later (behind_from f (k + 1) bs c d)
]) refl h
  where
    first : (k : ℕ) → k + 1 ≡ k + 0 + 1
    first k = omega arith

    next : (k j c : ℕ) → c ≡ k + 1 + j + 1 → c ≡ k + suc j + 1
    next k j c e = omega arith

    later : (j : ℕ) × CallsAt f bs j × (c ≡ k + 1 + j + 1) → (j : ℕ) × CallsAt f (b ∷ bs) j × (c ≡ k + j + 1)
    later r = (suc r.0, record { block = r.1.block; is_block = r.1.is_block; test = r.1.test }, next k r.0 c r.2)

pub behind_has : (f k : ℕ) (bs : List MidBlock) (j : ℕ) → CallsAt f bs j → Contains (behind_calls f k bs) (k + j + 1)
behind_has f k [] j h = absurd (none_is h.block h.is_block)
behind_has f k (b ∷ bs) zero h = subst (λ (z : Bool). Contains ((if z then (k + 1) ∷ [] else []) ++ behind_calls f (k + 1) bs) (k + 0 + 1)) (sym (ap (λ (x : MidBlock). calls f x.end) (some_same b h.block h.is_block) ∙ h.test)) (subst (λ (n : ℕ). Contains ((k + 1) ∷ behind_calls f (k + 1) bs) n) (first k) (head_in (k + 1) (behind_calls f (k + 1) bs)))
  where
    first : (k : ℕ) → k + 1 ≡ k + 0 + 1
    first k = omega arith
behind_has f k (b ∷ bs) (suc j) h = in_right (if calls f b.end then (k + 1) ∷ [] else []) (behind_calls f (k + 1) bs) (k + suc j + 1) (subst (λ (n : ℕ). Contains (behind_calls f (k + 1) bs) n) (next k j) (behind_has f (k + 1) bs j (record { block = h.block; is_block = h.is_block; test = h.test })))
  where
    next : (k j : ℕ) → k + 1 + j + 1 ≡ k + suc j + 1
    next k j = omega arith

-- the end of a block that calls a function
pub call_of : (f : ℕ) (e : MidEnd) → calls f e ≡ true → (args : List ℕ) × (result : Option ℕ) × (e ≡ Call f args result)
call_of f (Jump to) h = absurd (no_true (sym h))
call_of f (Branch v w to) h = absurd (no_true (sym h))
call_of f (Call g args result) h = (args, result, ap (λ (n : ℕ). Call n args result) (same g f h))
  where
    same : (m n : ℕ) → (m == n) ≡ true → m ≡ n
    same m n h = grind arith
call_of f (Return from) h = absurd (no_true (sym h))

pub calls_it : (f : ℕ) (args : List ℕ) (result : Option ℕ) (e : MidEnd) → e ≡ Call f args result → calls f e ≡ true
calls_it f args result e h = ap (λ (x : MidEnd). calls f x) h ∙ same f
  where
    same : (n : ℕ) → (n == n) ≡ true
    same n = grind arith

-- ---- numbers of blocks

-- The blocks of the first functions.
abbrev pub before : List MidFunction → ℕ → ℕ
before fs n = sum (map (λ (g : MidFunction). length g.blocks) (take n fs))

before_cons : (f : MidFunction) (fs : List MidFunction) (n : ℕ) → before (f ∷ fs) (suc n) ≡ length f.blocks + before fs n
before_cons f fs n = sum_cons (length f.blocks) (map (λ (g : MidFunction). length g.blocks) (take n fs))

-- the blocks of a function are before those of later ones
pub before_past : (fs : List MidFunction) (n m : ℕ) (f : MidFunction) → slice_get fs n ≡ Some f → n < m → before fs n + length f.blocks ≤ before fs m
before_past [] n m f e h = absurd (none_is f e)
before_past (g ∷ fs) n zero f e h = absurd (Rattle.std.proofs.Common.not-suc-le-zero h)
before_past (g ∷ fs) zero (suc m) f e h = first (length f.blocks) (before fs m) (before (g ∷ fs) (suc m)) (before_cons g fs m ∙ ap (λ (x : MidFunction). length x.blocks + before fs m) (some_same g f e))
  where
    first : (n s t : ℕ) → t ≡ n + s → 0 + n ≤ t
    first n s t e = omega arith
before_past (g ∷ fs) (suc n) (suc m) f e h = next (length g.blocks) (before fs n) (before fs m) (length f.blocks) (before (g ∷ fs) (suc n)) (before (g ∷ fs) (suc m)) (before_cons g fs n) (before_cons g fs m) (before_past fs n m f e (Rattle.std.proofs.Common.le_of_suc-le-suc h))
  where
    next : (k a b l s t : ℕ) → s ≡ k + a → t ≡ k + b → a + l ≤ b → s + l ≤ t
    next k a b l s t e g h = omega arith

pub before_total : (fs : List MidFunction) (n : ℕ) (f : MidFunction) → slice_get fs n ≡ Some f → before fs n + length f.blocks ≤ sum (map (λ (g : MidFunction). length g.blocks) fs)
before_total [] n f e = absurd (none_is f e)
before_total (g ∷ fs) zero f e = first (length f.blocks) (sum (map (λ (g : MidFunction). length g.blocks) fs)) (sum (map (λ (g : MidFunction). length g.blocks) (g ∷ fs))) (sum_cons (length g.blocks) (map (λ (g : MidFunction). length g.blocks) fs) ∙ ap (λ (x : MidFunction). length x.blocks + sum (map (λ (g : MidFunction). length g.blocks) fs)) (some_same g f e))
  where
    first : (n s t : ℕ) → t ≡ n + s → 0 + n ≤ t
    first n s t e = omega arith
before_total (g ∷ fs) (suc n) f e = next (length g.blocks) (before fs n) (sum (map (λ (g : MidFunction). length g.blocks) fs)) (length f.blocks) (before (g ∷ fs) (suc n)) (sum (map (λ (g : MidFunction). length g.blocks) (g ∷ fs))) (before_cons g fs n) (sum_cons (length g.blocks) (map (λ (g : MidFunction). length g.blocks) fs)) (before_total fs n f e)
  where
    next : (k a b l s t : ℕ) → s ≡ k + a → t ≡ k + b → a + l ≤ b → s + l ≤ t
    next k a b l s t e g h = omega arith

-- a block by its number among all, and by that of its function and its own
pub block_at : (fs : List MidFunction) (n b : ℕ) (f : MidFunction) (x : MidBlock) → slice_get fs n ≡ Some f → slice_get f.blocks b ≡ Some x → slice_get (all_blocks fs) (before fs n + b) ≡ Some x
block_at [] n b f x e g = absurd (none_is f e)
block_at (h ∷ fs) zero b f x e g = ap (λ (n : ℕ). slice_get (all_blocks (h ∷ fs)) n) (zero-add b) ∙ get_left h.blocks (all_blocks fs) b x (ap (λ (z : MidFunction). slice_get z.blocks b) (some_same h f e) ∙ g)
block_at (h ∷ fs) (suc n) b f x e g = ap (λ (m : ℕ). slice_get (all_blocks (h ∷ fs)) m) (joined (length h.blocks) (before fs n) b (before (h ∷ fs) (suc n)) (before_cons h fs n)) ∙ (get_right h.blocks (all_blocks fs) (before fs n + b) ∙ block_at fs n b f x e g)
  where
    joined : (k s b t : ℕ) → t ≡ k + s → t + b ≡ k + (s + b)
    joined k s b t e = omega arith

pub record Located (fs : List MidFunction) (j : ℕ) (x : MidBlock) : Type 0 where
  pub n : ℕ
  pub b : ℕ
  pub f : MidFunction
  pub is_function : slice_get fs n ≡ Some f
  pub is_block : slice_get f.blocks b ≡ Some x
  pub number : j ≡ before fs n + b

pub located : (fs : List MidFunction) (j : ℕ) (x : MidBlock) → slice_get (all_blocks fs) j ≡ Some x → Located fs j x
located [] j x e = absurd (none_is x e)
located (f ∷ fs) j x e = ⊎_elim
    (λ l. record { n = 0; b = j; f = f; is_function = refl; is_block = sym (get_of_left f.blocks (all_blocks fs) j l) ∙ e; number = sym (zero-add j) })
    (λ l. let r : Located fs (j - length f.blocks) x = located fs (j - length f.blocks) x (sym (get_right f.blocks (all_blocks fs) (j - length f.blocks)) ∙ (ap (λ (n : ℕ). slice_get (all_blocks (f ∷ fs)) n) (back j (length f.blocks) l) ∙ e)) in
    record { n = suc r.n; b = r.b; f = r.f; is_function = r.is_function; is_block = r.is_block; number = joined j (length f.blocks) (before fs r.n) r.b (before (f ∷ fs) (suc r.n)) l r.number (before_cons f fs r.n) })
    (cases_lt j (length f.blocks))
  where
    back : (j k : ℕ) → k ≤ j → k + (j - k) ≡ j
    back j k h = omega arith

    joined : (j k s b t : ℕ) → k ≤ j → j - k ≡ s + b → t ≡ k + s → j ≡ t + b
    joined j k s b t l e g = omega arith
