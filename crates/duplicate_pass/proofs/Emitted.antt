-- What the emitters need of lists and of results.
use Rattle.std.proofs.Common.{◌≡◌, ◌≤◌, ◌<◌, ◌+◌, ◌-◌, ◌^◌, ℕ, zero, suc, arith, ap, refl, sym, ◌∙◌, subst, List, [], ◌∷◌, ◌++◌, length, map, sum, drop, append_assoc}
use Rattle.std.specs.Prelude.{Result, Ok, Err, None, IfOk, All, get_or, slice_index, if◌then◌else◌}
use Rattle.std.proofs.lemmas.Option.{slice_get-get_or, get_or_from_slice_get}
use Rattle.std.proofs.lemmas.List.Concat.{flat_map-cons}
use Rattle.std.proofs.lemmas.List.Sums.{sum_by-cons}
use Rattle.hard_items.specs.declared.code.Item.{Item}
use Rattle.mid_blocks.specs.declared.code.MidEnd.{MidEnd}
use Rattle.mid_blocks.specs.declared.code.MidEnd.TheVariants.{Jump, Branch, Call, Return}
use Rattle.mid_blocks.specs.declared.code.MidBlock.{MidBlock}
use Rattle.mid_blocks.specs.declared.code.MidFunction.{MidFunction}
use Rattle.mid_blocks.specs.declared.code.Mid.{Mid}
use Rattle.mid_blocks.specs.declared.places.Places.{Places}
use Rattle.double_law.specs.Emitted.{place_of, parameter_load, parameter_items}
use Rattle.double_law.specs.Program.{first_block}
use Rattle.double_law.specs.Ways.{calls, behind_calls, all_blocks, in_order, successors}
use Rattle.duplicate_pass.specs.Emits.{CallsBelow}
use Rattle.duplicate_pass.specs.Ready.{AreTables, successors_by, block_at}

-- what holds of an answer, from what holds of it
pub for_ok : {A E : Type 0} (r : Result A E) (P Q : A → Type 0) → IfOk r P → ((a : A) → P a → Q a) → IfOk r Q
for_ok (Ok a) P Q h k = k a h
for_ok (Err e) P Q h k = tt

-- a piece more was put
pub advance : {A : Type 0} (o o' a l r x : List A) → o ++ l ≡ x → l ≡ a ++ r → o' ≡ o ++ a → o' ++ r ≡ x
advance o o' a l r x h e f = ap (λ z. z ++ r) f ∙ (append_assoc o a r ∙ (ap (λ z. o ++ z) (sym e) ∙ h))

-- ---- parameters

pub one_parameter : (places : Places) (pairs i n : ℕ) → i < n → parameter_items places pairs i (n - i) ≡ parameter_load (place_of places i) pairs i ++ parameter_items places pairs (i + 1) (n - (i + 1))
one_parameter places pairs i n h = ap (parameter_items places pairs i) (less i n h)
  where
    less : (i n : ℕ) → i < n → n - i ≡ suc (n - (i + 1))
    less i n h = omega (arith, h)

-- ---- blocks

pub same_default : {A : Type 0} (xs : List A) (k : ℕ) (d e : A) → k < length xs → get_or xs k e ≡ get_or xs k d
same_default xs k d e h = get_or_from_slice_get xs k (get_or xs k d) e (slice_get-get_or xs k d h)

pub block_here : (f : MidFunction) (b : ℕ) (ks : List MidBlock) (k : MidBlock) → b < length f.blocks → ks ≡ f.blocks → k ≡ get_or ks b k → k ≡ block_at f b
block_here f b ks k h e i = i ∙ (ap (λ (l : List MidBlock). get_or l b k) e ∙ same_default f.blocks b (record { steps = []; end = Return None }) k h)

pub three_put : (o1 o2 o3 a b c : List Item) → o1 ≡ [] ++ a → o2 ≡ o1 ++ b → o3 ≡ o2 ++ c → o3 ≡ a ++ (b ++ c)
three_put o1 o2 o3 a b c e f g = g ∙ (ap (λ (z : List Item). z ++ c) (f ∙ ap (λ (z : List Item). z ++ b) e) ∙ append_assoc a b c)

-- the tables give the blocks behind a block
pub by_tables : (mid : Mid) (firsts : List ℕ) (returns : List (List ℕ)) (n b : ℕ) (end : MidEnd) → AreTables mid firsts returns → n < length mid.functions → CallsBelow (length mid.functions) end →
    successors_by firsts returns n (first_block mid n + b) end ≡ successors mid n b end
by_tables mid firsts returns n b (Jump to) t h c = ap (λ (x : ℕ). (x + to) ∷ []) (t.first n h)
by_tables mid firsts returns n b (Branch test when to) t h c = ap (λ (x : ℕ). in_order (x + to) ((first_block mid n + b) + 1)) (t.first n h)
by_tables mid firsts returns n b (Call function args result) t h c = ap (λ (x : ℕ). x ∷ []) (t.first function c)
by_tables mid firsts returns n b (Return from) t h c = t.return n h

-- ---- calls

pub behind_append : (n k : ℕ) (xs ys : List MidBlock) → behind_calls n k (xs ++ ys) ≡ behind_calls n k xs ++ behind_calls n (k + length xs) ys
behind_append n k [] ys = ap (λ (z : ℕ). behind_calls n z ys) (plus_zero k)
  where
    plus_zero : (k : ℕ) → k ≡ k + 0
    plus_zero k = omega arith
behind_append n k (x ∷ xs) ys =
    ap (λ (z : List ℕ). (if calls n x.end then (k + 1) ∷ [] else []) ++ z) (behind_append n (k + 1) xs ys ∙ ap (λ (z : ℕ). behind_calls n (k + 1) xs ++ behind_calls n z ys) (one_more k (length xs))) ∙
    sym (append_assoc (if calls n x.end then (k + 1) ∷ [] else []) (behind_calls n (k + 1) xs) (behind_calls n (k + suc (length xs)) ys))
  where
    one_more : (k l : ℕ) → (k + 1) + l ≡ k + suc l
    one_more k l = omega arith

drop_one : {A : Type 0} (xs : List A) (i : ℕ) (x : A) → i < length xs → x ≡ get_or xs i x → drop i xs ≡ x ∷ drop (i + 1) xs
drop_one [] i x h e = absurd (Rattle.std.proofs.Common.not-suc-le-zero h)
drop_one (y ∷ xs) zero x h e = ap (λ z. z ∷ xs) (sym e)
drop_one (y ∷ xs) (suc i) x h e = drop_one xs i x (less i (length xs) h) e ∙ ap (λ (n : ℕ). x ∷ drop n (y ∷ xs)) (one_more i)
  where
    less : (a b : ℕ) → suc a < suc b → a < b
    less a b h = omega arith

    one_more : (i : ℕ) → suc (i + 1) ≡ suc i + 1
    one_more i = omega arith

-- the calls of one function more are noted
pub noted_more : (n first i : ℕ) (fs : List MidFunction) (f : MidFunction) (old new x : List ℕ) (ks : List MidBlock) (l : ℕ) → i < length fs → f ≡ get_or fs i f → ks ≡ f.blocks → l ≡ length f.blocks →
    old ++ behind_calls n first (all_blocks (drop i fs)) ≡ x → new ≡ old ++ behind_calls n first ks → new ++ behind_calls n (first + l) (all_blocks (drop (i + 1) fs)) ≡ x
noted_more n first i fs f old new x ks l h e b le inv put =
    advance old new (behind_calls n first ks) (behind_calls n first (all_blocks (drop i fs))) (behind_calls n (first + l) (all_blocks (drop (i + 1) fs))) x inv
    (ap (λ (z : List MidFunction). behind_calls n first (all_blocks z)) (drop_one fs i f h e) ∙
    (ap (behind_calls n first) (flat_map-cons (λ (f : MidFunction). f.blocks) f (drop (i + 1) fs)) ∙
    (behind_append n first f.blocks (all_blocks (drop (i + 1) fs)) ∙
    (ap (λ (z : List MidBlock). behind_calls n first z ++ behind_calls n (first + length f.blocks) (all_blocks (drop (i + 1) fs))) (sym b) ∙
    ap (λ (z : ℕ). behind_calls n first ks ++ behind_calls n (first + z) (all_blocks (drop (i + 1) fs))) (sym le))))) put

-- ---- tables

pub same_lists : (xs ys : List ℕ) → length xs ≡ length ys → ((i : ℕ) → i < length xs → slice_index xs i ≡ slice_index ys i) → xs ≡ ys
same_lists [] [] e h = refl
same_lists [] (y ∷ ys) e h = absurd (never (length ys) e)
  where
    never : (n : ℕ) → 0 ≡ suc n → ⊥
    never n e = omega arith
same_lists (x ∷ xs) [] e h = absurd (never (length xs) e)
  where
    never : (n : ℕ) → suc n ≡ 0 → ⊥
    never n e = omega arith
same_lists (x ∷ xs) (y ∷ ys) e h = ap (λ (z : ℕ). z ∷ xs) (h 0 (some (length xs))) ∙ ap (λ (l : List ℕ). y ∷ l) (same_lists xs ys (less (length xs) (length ys) e) (λ i k. h (suc i) (more i (length xs) k)))
  where
    some : (n : ℕ) → 0 < suc n
    some n = omega arith

    less : (a b : ℕ) → suc a ≡ suc b → a ≡ b
    less a b e = omega arith

    more : (i n : ℕ) → i < n → suc i < suc n
    more i n h = omega arith

-- ---- what is left of a list

pub all_dropped : {A : Type 0} (P : A → Type 0) (xs : List A) (i : ℕ) (x : A) → i < length xs → x ≡ get_or xs i x → All P (drop i xs) → All P (drop (i + 1) xs)
all_dropped {A} P xs i x h e all = tail (drop (i + 1) xs) (subst (λ (l : List A). All P l) (drop_one xs i x h e) all)
  where
    more : (k n : ℕ) → k < n → suc k < suc n
    more k n h = omega arith

    tail : (l : List A) → All P (x ∷ l) → All P l
    tail l all k d h = all (suc k) d (more k (length l) h)

pub few_dropped : (fs : List MidFunction) (i first l : ℕ) (f : MidFunction) → i < length fs → f ≡ get_or fs i f → l ≡ length f.blocks →
    first + sum (map (λ (f : MidFunction). length f.blocks) (drop i fs)) < 2 ^ 32 → (first + l) + sum (map (λ (f : MidFunction). length f.blocks) (drop (i + 1) fs)) < 2 ^ 32
few_dropped fs i first l f h e k few =
    by first l (length f.blocks) (sum (map (λ (f : MidFunction). length f.blocks) (drop (i + 1) fs))) (sum (map (λ (f : MidFunction). length f.blocks) (f ∷ drop (i + 1) fs))) k
    (sum_by-cons (λ (y : ℕ). y) (length f.blocks) (map (λ (f : MidFunction). length f.blocks) (drop (i + 1) fs)))
    (subst (λ (z : List MidFunction). first + sum (map (λ (f : MidFunction). length f.blocks) z) < 2 ^ 32) (drop_one fs i f h e) few)
  where
    by : (a l n s t : ℕ) → l ≡ n → t ≡ n + s → a + t < 2 ^ 32 → (a + l) + s < 2 ^ 32
    by a l n s t e f h = omega (arith, e, f, h)
