-- Lists by their places, and lists that ascend.
use Rattle.std.proofs.Common.{◌≡◌, ℕ, zero, suc, ◌+◌, ◌<◌, ◌≤◌, Bool, true, List, [], ◌∷◌, length, Some, None, refl, sym, ap, ◌∙◌, subst, arith, inl, inr, get_or}
use Rattle.std.specs.Prelude.{◌⊎◌, slice_get, Contains}
use Rattle.std.specs.List.{list_all, list_any, All, AllWithin}
use Rattle.std.proofs.lemmas.Bool.{cases_lt}
use Rattle.std.proofs.lemmas.Bool.Decides.{Decides-by_and}
use Rattle.std.proofs.lemmas.List.Folds.{Any-from_list_any, list_any-from_Any}
use Rattle.std.proofs.lemmas.List.Elements.{at_read}
use Rattle.std.proofs.lemmas.Option.{get_or_from_slice_get, slice_get-get_or, slice_get_within}

pub same_some : {A : Type 0} (x y : A) → Some x ≡ Some y → x ≡ y
same_some x y e = cc

pub none_some : {A : Type 0} (x : A) → None ≡ Some x → ⊥
none_some x e = cc

pub got : {A : Type 0} (xs : List A) (n : ℕ) → n < length xs → (x : A) × (slice_get xs n ≡ Some x)
got [] n h = absurd (omega arith)
got (y ∷ ys) zero h = (y, refl)
got (y ∷ ys) (suc n) h = got ys n (omega arith)

pub get_in : {A : Type 0} (xs : List A) (k : ℕ) (x : A) → slice_get xs k ≡ Some x → Contains xs x
get_in xs k x e = (k, slice_get_within xs k x e, get_or_from_slice_get xs k x x e)

pub in_get : {A : Type 0} (xs : List A) (x : A) → Contains xs x → (k : ℕ) × (slice_get xs k ≡ Some x)
in_get xs x c = (c.0, slice_get-get_or xs c.0 x c.1 ∙ ap Some c.2)

pub all_get : {A : Type 0} (P : A → Type 0) (xs : List A) (k : ℕ) (x : A) → All P xs → slice_get xs k ≡ Some x → P x
all_get P xs k x all e = subst P (get_or_from_slice_get xs k x x e) (all k x (slice_get_within xs k x e))

pub all_from : {A : Type 0} (P : A → Type 0) (xs : List A) → ((k : ℕ) (x : A) → slice_get xs k ≡ Some x → P x) → All P xs
all_from P xs h k d l = h k (get_or xs k d) (slice_get-get_or xs k d l)

pub any_get : {A : Type 0} (p : A → Bool) (xs : List A) → list_any p xs ≡ true → (k : ℕ) × (x : A) × (slice_get xs k ≡ Some x) × (p x ≡ true)
any_get p xs t = let a = Any-from_list_any p xs t in (a.0, a.1, slice_get-get_or xs a.0 a.1 a.2 ∙ ap Some a.3, a.4)

pub any_from : {A : Type 0} (p : A → Bool) (xs : List A) (k : ℕ) (x : A) → slice_get xs k ≡ Some x → p x ≡ true → list_any p xs ≡ true
any_from p xs k x e t = list_any-from_Any p xs (k, x, slice_get_within xs k x e, get_or_from_slice_get xs k x x e, t)

pub each_get : {A : Type 0} (p : A → Bool) (xs : List A) (k : ℕ) (x : A) → list_all p xs ≡ true → slice_get xs k ≡ Some x → p x ≡ true
each_get {A} p xs k x t e = let P : A → Type 0 = λ y. p y ≡ true in all_get P xs k x ((Decides-by_and p P (list_all p) (λ y. (λ q. q, λ q. q)) refl (λ y ys. refl) xs).0 t) e

pub each_from : {A : Type 0} (p : A → Bool) (xs : List A) → ((k : ℕ) (x : A) → slice_get xs k ≡ Some x → p x ≡ true) → list_all p xs ≡ true
each_from {A} p xs h = let P : A → Type 0 = λ y. p y ≡ true in (Decides-by_and p P (list_all p) (λ y. (λ q. q, λ q. q)) refl (λ y ys. refl) xs).1 (all_from P xs h)

pub within_more : {A : Type 0} (P : A → Type 0) (xs : List A) (i : ℕ) (x : A) → i < length xs → x ≡ get_or xs i x → AllWithin P xs 0 i → P x → AllWithin P xs 0 (i + 1)
within_more P xs i x l is all one k d z h = elim (cases_lt k i) [
  | inl a ↦ all k d z a
  | inr b ↦ let same : i ≡ k = omega arith in subst (λ (j : ℕ). P (get_or xs j d)) same (at_read xs P i x l is one d)
]

pub all_within : {A : Type 0} (P : A → Type 0) (xs : List A) (i : ℕ) → length xs ≤ i → AllWithin P xs 0 i → All P xs
all_within P xs i le all k d l = all k d (omega arith) (omega arith)

-- ---- lists that ascend

-- The numbers ascend, from this one on.
abbrev pub Above : ℕ → List ℕ → Type 0
Above low [] = Unit {0}
Above low (x ∷ xs) = (low ≤ x) × Above (x + 1) xs

abbrev pub Steps : List ℕ → Type 0
Steps xs = (k c d : ℕ) → slice_get xs k ≡ Some c → slice_get xs (k + 1) ≡ Some d → c < d

pub next_place : (k : ℕ) → suc k + 1 ≡ suc (k + 1)
next_place k = omega arith

pub above_lower : (a b : ℕ) (xs : List ℕ) → a ≤ b → Above b xs → Above a xs
above_lower a b [] h k = tt
above_lower a b (x ∷ xs) h k = let le : b ≤ x = k.0 in (omega arith, k.1)

pub above_from : (low : ℕ) (xs : List ℕ) → ((x : ℕ) → slice_get xs 0 ≡ Some x → low ≤ x) → Steps xs → Above low xs
above_from low [] h s = tt
above_from low (x ∷ xs) h s =
    (h x refl, above_from (x + 1) xs (λ y e. let l : x < y = s 0 x y refl e in omega arith) (λ k c d e f. s (suc k) c d e (ap (slice_get (x ∷ xs)) (next_place k) ∙ f)))

pub above_in : (low : ℕ) (xs : List ℕ) (c : ℕ) → Above low xs → (k : ℕ) → slice_get xs k ≡ Some c → low ≤ c
above_in low [] c h k e = absurd (none_some c e)
above_in low (x ∷ xs) c h zero e = let s : x ≡ c = same_some x c e in let l : low ≤ x = h.0 in omega arith
above_in low (x ∷ xs) c h (suc k) e = let r : x + 1 ≤ c = above_in (x + 1) xs c h.1 k e in let l : low ≤ x = h.0 in omega arith

pub above_steps : (low : ℕ) (xs : List ℕ) → Above low xs → Steps xs
above_steps low [] h k c d e f = absurd (none_some c e)
above_steps low (x ∷ xs) h zero c d e f = let s : x ≡ c = same_some x c e in let l : x + 1 ≤ d = above_in (x + 1) xs d h.1 0 f in omega arith
above_steps low (x ∷ xs) h (suc k) c d e f = above_steps (x + 1) xs h.1 k c d e (ap (slice_get (x ∷ xs)) (sym (next_place k)) ∙ f)

pub in_tail : (x c : ℕ) (xs : List ℕ) → Contains (x ∷ xs) c → (c ≡ x) ⊎ Contains xs c
in_tail x c xs (zero, l, e) = inl (sym e)
in_tail x c xs (suc n, l, e) = inr (n, omega arith, e)

pub tail_in : (x c : ℕ) (xs : List ℕ) → Contains xs c → Contains (x ∷ xs) c
tail_in x c xs (n, l, e) = (suc n, omega arith, e)

pub head_in : (x : ℕ) (xs : List ℕ) → Contains (x ∷ xs) x
head_in x xs = (0, omega arith, refl)

pub in_none : (c : ℕ) → Contains [] c → ⊥
in_none c (n, l, e) = omega arith

above_contains : (low : ℕ) (xs : List ℕ) (c : ℕ) → Above low xs → Contains xs c → low ≤ c
above_contains low xs c h i = let g = in_get xs c i in above_in low xs c h g.0 g.1

rest_in : (x low : ℕ) (xs ys : List ℕ) → Above (x + 1) xs → ((c : ℕ) → Contains (x ∷ xs) c → Contains (x ∷ ys) c) → (c : ℕ) → Contains xs c → Contains ys c
rest_in x low xs ys h f c i = elim (in_tail x c ys (f c (tail_in x c xs i))) [
  | inl e ↦ let l : x + 1 ≤ c = above_contains (x + 1) xs c h i in absurd (omega arith)
  | inr r ↦ r
]

-- two lists that ascend and have the same numbers are the same
pub one_list : (low : ℕ) (xs ys : List ℕ) → Above low xs → Above low ys → ((c : ℕ) → Contains xs c → Contains ys c) → ((c : ℕ) → Contains ys c → Contains xs c) → xs ≡ ys
one_list low [] [] h g f b = refl
one_list low [] (y ∷ ys) h g f b = absurd (in_none y (b y (head_in y ys)))
one_list low (x ∷ xs) [] h g f b = absurd (in_none x (f x (head_in x xs)))
one_list low (x ∷ xs) (y ∷ ys) h g f b =
    let l1 : y ≤ x = above_contains y (y ∷ ys) x (omega arith, g.1) (f x (head_in x xs)) in
    let l2 : x ≤ y = above_contains x (x ∷ xs) y (omega arith, h.1) (b y (head_in y ys)) in
    let s : y ≡ x = omega arith in
    let gs : Above (x + 1) ys = subst (λ (n : ℕ). Above (n + 1) ys) s g.1 in
    let fs : (c : ℕ) → Contains (x ∷ xs) c → Contains (x ∷ ys) c = subst (λ (n : ℕ). (c : ℕ) → Contains (x ∷ xs) c → Contains (n ∷ ys) c) s f in
    let bs : (c : ℕ) → Contains (x ∷ ys) c → Contains (x ∷ xs) c = subst (λ (n : ℕ). (c : ℕ) → Contains (n ∷ ys) c → Contains (x ∷ xs) c) s b in
    ap (λ zs. x ∷ zs) (one_list (x + 1) xs ys h.1 gs (rest_in x low xs ys h.1 fs) (rest_in x low ys xs gs bs)) ∙ ap (λ (n : ℕ). n ∷ ys) (sym s)
