-- Sums over the blocks of a program, by lists with a number for each block of each function.
use Rattle.std.proofs.Common.{◌≡◌, ◌≢◌, ◌≤◌, ◌<◌, ℕ, zero, suc, ◌+◌, ◌-◌, ◌*◌, arith, ap, refl, sym, ◌∙◌, subst, List, [], ◌∷◌, ◌++◌, length, map, take, sum, zero-le, zero-add}
use Rattle.std.specs.Prelude.{Some, slice_get, sum_by}
use Rattle.std.proofs.lemmas.List.Sums.{sum_by-cons}
use Rattle.hard_items.specs.declared.code.Item.{Item}
use Rattle.hard_items.specs.declared.code.HardBlock.{HardBlock}
use Rattle.hard_items.specs.Run.{block_items}
use Rattle.mid_blocks.specs.declared.code.MidBlock.{MidBlock}
use Rattle.mid_blocks.specs.declared.code.MidFunction.{MidFunction}
use Rattle.hard_words.proofs.Sums.{sum_cons}
use Rattle.double_law.proofs.Numbers.{none_is, some_same, get_left, get_right, before}

-- a sum by the items of the blocks is at most that of a list of bounds
pub sum_below : (g : List Item → ℕ) (bs : List HardBlock) (hs : List ℕ) → length bs ≡ length hs → ((x : ℕ) → x < length bs → (h : ℕ) → slice_get hs x ≡ Some h → g (block_items (slice_get bs x)) ≤ h) → sum_by (λ b. g b.items) bs ≤ sum hs
sum_below g [] hs e k = zero-le
sum_below g (b ∷ bs) [] e k = absurd (no e)
  where
    no : {n : ℕ} → suc n ≡ 0 → ⊥
    no e = cc
sum_below g (b ∷ bs) (h ∷ hs) e k = more (g b.items) (sum_by (λ b. g b.items) bs) (sum_by (λ b. g b.items) (b ∷ bs)) h (sum hs) (sum (h ∷ hs)) (sum_by-cons (λ b. g b.items) b bs) (sum_cons h hs)
    (k 0 (Rattle.std.proofs.Common.zero-lt-suc (length bs)) h refl) (sum_below g bs hs (same e) (λ x l m q. k (suc x) (Rattle.std.proofs.Common.suc-le-suc l) m q))
  where
    same : {n m : ℕ} → suc n ≡ suc m → n ≡ m
    same e = cc

    more : (a s t h r u : ℕ) → t ≡ a + s → u ≡ h + r → a ≤ h → s ≤ r → t ≤ u
    more a s t h r u e f k l = omega arith

pub sum_append : (xs ys : List ℕ) → sum (xs ++ ys) ≡ sum xs + sum ys
sum_append [] ys = sym (zero-add (sum ys))
sum_append (x ∷ xs) ys = more x (sum (xs ++ ys)) (sum (x ∷ (xs ++ ys))) (sum xs) (sum (x ∷ xs)) (sum ys) (sum_cons x (xs ++ ys)) (sum_cons x xs) (sum_append xs ys)
  where
    more : (x a t s u y : ℕ) → t ≡ x + a → u ≡ x + s → a ≡ s + y → t ≡ u + y
    more x a t s u y e f g = omega arith

length_append : (xs ys : List ℕ) → length (xs ++ ys) ≡ length xs + length ys
length_append xs ys = Rattle.std.proofs.Common.length-append xs ys

-- ---- lists with a number for each block of each function

-- The numbers of the blocks of a function, from the one of this number on.
abbrev pub numbers : (MidFunction → ℕ → MidBlock → ℕ) → MidFunction → ℕ → List MidBlock → List ℕ
numbers q f b [] = []
numbers q f b (x ∷ xs) = q f b x ∷ numbers q f (suc b) xs

abbrev pub all_numbers : (MidFunction → ℕ → MidBlock → ℕ) → List MidFunction → List ℕ
all_numbers q [] = []
all_numbers q (f ∷ fs) = numbers q f 0 f.blocks ++ all_numbers q fs

pub numbers_length : (q : MidFunction → ℕ → MidBlock → ℕ) (f : MidFunction) (b : ℕ) (xs : List MidBlock) → length (numbers q f b xs) ≡ length xs
numbers_length q f b [] = refl
numbers_length q f b (x ∷ xs) = ap (λ (n : ℕ). suc n) (numbers_length q f (suc b) xs)

pub all_length : (q : MidFunction → ℕ → MidBlock → ℕ) (fs : List MidFunction) → length (all_numbers q fs) ≡ sum (map (λ (f : MidFunction). length f.blocks) fs)
all_length q [] = refl
all_length q (f ∷ fs) = length_append (numbers q f 0 f.blocks) (all_numbers q fs) ∙ (more (length (numbers q f 0 f.blocks)) (length (all_numbers q fs)) (length f.blocks) (sum (map (λ (f : MidFunction). length f.blocks) fs)) (numbers_length q f 0 f.blocks) (all_length q fs) ∙ sym (sum_cons (length f.blocks) (map (λ (f : MidFunction). length f.blocks) fs)))
  where
    more : (a b c d : ℕ) → a ≡ c → b ≡ d → a + b ≡ c + d
    more a b c d e f = omega arith

number_at : (q : MidFunction → ℕ → MidBlock → ℕ) (f : MidFunction) (b k : ℕ) (xs : List MidBlock) (x : MidBlock) → slice_get xs k ≡ Some x → slice_get (numbers q f b xs) k ≡ Some (q f (b + k) x)
number_at q f b k [] x e = absurd (none_is x e)
number_at q f b zero (y ∷ ys) x e = ap (λ (z : MidBlock). Some (q f b z)) (some_same y x e) ∙ ap (λ (n : ℕ). Some (q f n x)) (sym (Rattle.std.proofs.Common.add-zero b))
number_at q f b (suc k) (y ∷ ys) x e = number_at q f (suc b) k ys x e ∙ ap (λ (n : ℕ). Some (q f n x)) (shift b k)
  where
    shift : (b k : ℕ) → suc b + k ≡ b + suc k
    shift b k = omega arith

pub all_at_number : (q : MidFunction → ℕ → MidBlock → ℕ) (fs : List MidFunction) (n b : ℕ) (f : MidFunction) (x : MidBlock) → slice_get fs n ≡ Some f → slice_get f.blocks b ≡ Some x → slice_get (all_numbers q fs) (before fs n + b) ≡ Some (q f b x)
all_at_number q [] n b f x e g = absurd (none_is f e)
all_at_number q (h ∷ fs) zero b f x e g =
    ap (λ (m : ℕ). slice_get (all_numbers q (h ∷ fs)) m) (zero-add b) ∙ (get_left (numbers q h 0 h.blocks) (all_numbers q fs) b (q h (0 + b) x) (number_at q h 0 b h.blocks x (ap (λ (z : MidFunction). slice_get z.blocks b) (some_same h f e) ∙ g)) ∙
    (ap (λ (m : ℕ). Some (q h m x)) (zero-add b) ∙ ap (λ (z : MidFunction). Some (q z b x)) (some_same h f e)))
all_at_number q (h ∷ fs) (suc n) b f x e g =
    ap (λ (m : ℕ). slice_get (all_numbers q (h ∷ fs)) m) (joined (length h.blocks) (length (numbers q h 0 h.blocks)) (before fs n) b (before (h ∷ fs) (suc n)) (numbers_length q h 0 h.blocks) (sum_cons (length h.blocks) (map (λ (g : MidFunction). length g.blocks) (take n fs)))) ∙
    (get_right (numbers q h 0 h.blocks) (all_numbers q fs) (before fs n + b) ∙ all_at_number q fs n b f x e g)
  where
    joined : (k l s b t : ℕ) → l ≡ k → t ≡ k + s → t + b ≡ l + (s + b)
    joined k l s b t e g = omega arith
