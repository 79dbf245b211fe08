-- What the emitters need of lists and of results.
use Rattle.std.proofs.Common.{◌≡◌, ◌≤◌, ◌<◌, ◌+◌, ◌-◌, ◌^◌, ℕ, zero, suc, arith, ap, refl, sym, ◌∙◌, subst, List, [], ◌∷◌, ◌++◌, length, map, sum, drop, append_assoc}
use Rattle.std.specs.Prelude.{Result, Ok, Err, None, IfOk, All, get_or, slice_index}
use Rattle.std.proofs.lemmas.Option.{slice_get-get_or, get_or_from_slice_get}
use Rattle.std.proofs.lemmas.List.Sums.{sum_by-cons}
use Rattle.mips_isa.specs.declared.instr.Instr.{Instr}
use Rattle.mid_blocks.specs.declared.code.MidEnd.{MidEnd}
use Rattle.mid_blocks.specs.declared.code.MidEnd.TheVariants.{Jump, Branch, Call, Return}
use Rattle.mid_blocks.specs.declared.code.MidBlock.{MidBlock}
use Rattle.mid_blocks.specs.declared.code.MidFunction.{MidFunction}
use Rattle.mid_blocks.specs.declared.code.Mid.{Mid}
use Rattle.mid_blocks.specs.declared.places.Places.{Places}
use Rattle.third_law.specs.Emitted.{place_of, parameter_load, parameter_code, end_code, argument_code, call_code}
use Rattle.third_law.specs.Program.{first_block, looked_up}
use Rattle.third_pass.specs.Emits.{CallsBelow}
use Rattle.third_pass.specs.Ready.{AreFirsts, block_at}

-- what holds of an answer, from what holds of it
pub for_ok : {A E : Type 0} (r : Result A E) (P Q : A → Type 0) → IfOk r P → ((a : A) → P a → Q a) → IfOk r Q
for_ok (Ok a) P Q h k = k a h
for_ok (Err e) P Q h k = tt

-- a piece more was put
pub advance : {A : Type 0} (o o' a l r x : List A) → o ++ l ≡ x → l ≡ a ++ r → o' ≡ o ++ a → o' ++ r ≡ x
advance o o' a l r x h e f = ap (λ z. z ++ r) f ∙ (append_assoc o a r ∙ (ap (λ z. o ++ z) (sym e) ∙ h))

-- ---- parameters

pub one_parameter : (places : Places) (pairs i n : ℕ) → i < n → parameter_code places pairs i (n - i) ≡ parameter_load (place_of places i) pairs i ++ parameter_code places pairs (i + 1) (n - (i + 1))
one_parameter places pairs i n h = ap (parameter_code places pairs i) (less i n h)
  where
    less : (i n : ℕ) → i < n → n - i ≡ suc (n - (i + 1))
    less i n h = omega (arith, h)

-- ---- blocks

pub same_default : {A : Type 0} (xs : List A) (k : ℕ) (d e : A) → k < length xs → get_or xs k e ≡ get_or xs k d
same_default xs k d e h = get_or_from_slice_get xs k (get_or xs k d) e (slice_get-get_or xs k d h)

pub block_here : (f : MidFunction) (b : ℕ) (ks : List MidBlock) (k : MidBlock) → b < length f.blocks → ks ≡ f.blocks → k ≡ get_or ks b k → k ≡ block_at f b
block_here f b ks k h e i = i ∙ (ap (λ (l : List MidBlock). get_or l b k) e ∙ same_default f.blocks b (record { steps = []; end = Return None }) k h)

pub three_put : (o1 o2 o3 a b c : List Instr) → o1 ≡ [] ++ a → o2 ≡ o1 ++ b → o3 ≡ o2 ++ c → o3 ≡ a ++ (b ++ c)
three_put o1 o2 o3 a b c e f g = g ∙ (ap (λ (z : List Instr). z ++ c) (f ∙ ap (λ (z : List Instr). z ++ b) e) ∙ append_assoc a b c)

-- a number of a list that is long enough
pub looked_up_at : (xs : List ℕ) (n d : ℕ) → n < length xs → slice_index xs n ≡ d → looked_up xs n ≡ d
looked_up_at xs n d h e = e

-- the table gives the first blocks of the functions that are called
pub by_firsts : (mid : Mid) (at : ℕ → ℕ) (firsts : List ℕ) (own first pairs : ℕ) (places : Places) (end : MidEnd) → AreFirsts mid firsts → CallsBelow (length mid.functions) end →
    end_code at (looked_up firsts) own first pairs places end ≡ end_code at (first_block mid) own first pairs places end
by_firsts mid at firsts own first pairs places (Jump to) t c = refl
by_firsts mid at firsts own first pairs places (Branch test when to) t c = refl
by_firsts mid at firsts own first pairs places (Call function args result) t c = ap (λ (x : ℕ). argument_code places 0 args ++ call_code (at x) (at (own + 1))) (t.first function c)
by_firsts mid at firsts own first pairs places (Return from) t c = refl

drop_one : {A : Type 0} (xs : List A) (i : ℕ) (x : A) → i < length xs → x ≡ get_or xs i x → drop i xs ≡ x ∷ drop (i + 1) xs
drop_one [] i x h e = absurd (Rattle.std.proofs.Common.not-suc-le-zero h)
drop_one (y ∷ xs) zero x h e = ap (λ z. z ∷ xs) (sym e)
drop_one (y ∷ xs) (suc i) x h e = drop_one xs i x (less i (length xs) h) e ∙ ap (λ (n : ℕ). x ∷ drop n (y ∷ xs)) (one_more i)
  where
    less : (a b : ℕ) → suc a < suc b → a < b
    less a b h = omega arith

    one_more : (i : ℕ) → suc (i + 1) ≡ suc i + 1
    one_more i = omega arith

-- ---- tables

pub same_lists : (xs ys : List ℕ) → length xs ≡ length ys → ((i : ℕ) → i < length xs → slice_index xs i ≡ slice_index ys i) → xs ≡ ys
same_lists [] [] e h = refl
same_lists [] (y ∷ ys) e h = absurd (never (length ys) e)
  where
    never : (n : ℕ) → 0 ≡ suc n → ⊥
    never n e = omega arith
same_lists (x ∷ xs) [] e h = absurd (never (length xs) e)
  where
    never : (n : ℕ) → suc n ≡ 0 → ⊥
    never n e = omega arith
same_lists (x ∷ xs) (y ∷ ys) e h = ap (λ (z : ℕ). z ∷ xs) (h 0 (some (length xs))) ∙ ap (λ (l : List ℕ). y ∷ l) (same_lists xs ys (less (length xs) (length ys) e) (λ i k. h (suc i) (more i (length xs) k)))
  where
    some : (n : ℕ) → 0 < suc n
    some n = omega arith

    less : (a b : ℕ) → suc a ≡ suc b → a ≡ b
    less a b e = omega arith

    more : (i n : ℕ) → i < n → suc i < suc n
    more i n h = omega arith

-- ---- what is left of a list

pub all_dropped : {A : Type 0} (P : A → Type 0) (xs : List A) (i : ℕ) (x : A) → i < length xs → x ≡ get_or xs i x → All P (drop i xs) → All P (drop (i + 1) xs)
all_dropped {A} P xs i x h e all = tail (drop (i + 1) xs) (subst (λ (l : List A). All P l) (drop_one xs i x h e) all)
  where
    more : (k n : ℕ) → k < n → suc k < suc n
    more k n h = omega arith

    tail : (l : List A) → All P (x ∷ l) → All P l
    tail l all k d h = all (suc k) d (more k (length l) h)

pub few_dropped : (fs : List MidFunction) (i first l : ℕ) (f : MidFunction) → i < length fs → f ≡ get_or fs i f → l ≡ length f.blocks →
    first + sum (map (λ (f : MidFunction). length f.blocks) (drop i fs)) < 2 ^ 32 → (first + l) + sum (map (λ (f : MidFunction). length f.blocks) (drop (i + 1) fs)) < 2 ^ 32
few_dropped fs i first l f h e k few =
    by first l (length f.blocks) (sum (map (λ (f : MidFunction). length f.blocks) (drop (i + 1) fs))) (sum (map (λ (f : MidFunction). length f.blocks) (f ∷ drop (i + 1) fs))) k
    (sum_by-cons (λ (y : ℕ). y) (length f.blocks) (map (λ (f : MidFunction). length f.blocks) (drop (i + 1) fs)))
    (subst (λ (z : List MidFunction). first + sum (map (λ (f : MidFunction). length f.blocks) z) < 2 ^ 32) (drop_one fs i f h e) few)
  where
    by : (a l n s t : ℕ) → l ≡ n → t ≡ n + s → a + t < 2 ^ 32 → (a + l) + s < 2 ^ 32
    by a l n s t e f h = omega (arith, e, f, h)
