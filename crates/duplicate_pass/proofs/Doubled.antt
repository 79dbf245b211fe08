-- The doubled program, block by block.
use Rattle.std.proofs.Common.{◌≡◌, ◌≤◌, ◌<◌, ◌+◌, ◌*◌, ℕ, zero, suc, arith, ap, refl, sym, ◌∙◌, subst, List, [], ◌∷◌, ◌++◌, length, map, sum, take, length-append}
use Rattle.std.specs.Prelude.{Option, Some, None, slice_get}
use Rattle.std.proofs.lemmas.List.Sums.{sum_by-cons}
use Rattle.std.proofs.lemmas.List.FromFn.{length-map-range_with_len, get_or-map-range_with_len}
use Rattle.hard_items.specs.declared.code.HardBlock.{HardBlock}
use Rattle.hard_items.specs.declared.code.HardProgram.{HardProgram}
use Rattle.hard_items.specs.Run.{block_items}
use Rattle.mid_blocks.specs.declared.code.MidBlock.{MidBlock}
use Rattle.mid_blocks.specs.declared.code.MidFunction.{MidFunction}
use Rattle.mid_blocks.specs.declared.code.Mid.{Mid}
use Rattle.mid_blocks.specs.declared.places.Places.{Places}
use Rattle.mid_blocks.specs.Liveness.{PlacesFit}
use Rattle.mid_blocks.specs.Valid.{Valid}
use Rattle.mid_blocks.specs.Bounds.{Shallow, Proper}
use Rattle.hard_items.specs.Rules.{Twin}
use Rattle.double_law.specs.Laws.{DoubledTwin, CountsFit, DoubledCounts}
use Rattle.mid_blocks.specs.Words.{HasWords}
use Rattle.double_law.specs.Law.{AllFit, Doubles, RunsAsBlocks, DoubledRuns}
use Rattle.double_law.specs.Program.{first_block, IsDoubled}
use Rattle.double_law.specs.Ways.{NamesWays}
use Rattle.duplicate_pass.specs.Doubled.{doubled_block, function_blocks, program_blocks, first_one, exit_one, doubled_program}

abbrev blocks_in : MidFunction → ℕ
blocks_in f = length f.blocks

some_inj : {A : Type 0} (x y : A) → ◌≡◌ {A = Option A} (Some x) (Some y) → x ≡ y
some_inj x y e = cc

sum_cons : (x : ℕ) (xs : List ℕ) → sum (x ∷ xs) ≡ x + sum xs
sum_cons x xs = sum_by-cons (λ (y : ℕ). y) x xs

zero_plus : (n : ℕ) → 0 + n ≡ n
zero_plus n = omega arith

plus_zero : (n : ℕ) → n + 0 ≡ n
plus_zero n = omega arith

one_more : (c b : ℕ) → (c + 1) + b ≡ c + suc b
one_more c b = omega arith

-- ---- lists behind each other

skip : {A : Type 0} (xs ys : List A) (i : ℕ) → slice_get (xs ++ ys) (length xs + i) ≡ slice_get ys i
skip [] ys i = ap (slice_get ys) (zero_plus i)
skip (x ∷ xs) ys i = ap (slice_get (x ∷ (xs ++ ys))) (more (length xs) i) ∙ skip xs ys i
  where
    more : (a b : ℕ) → suc a + b ≡ suc (a + b)
    more a b = omega arith

front : {A : Type 0} (xs ys : List A) (i : ℕ) (x : A) → slice_get xs i ≡ Some x → slice_get (xs ++ ys) i ≡ Some x
front [] ys i x e = cc
front (y ∷ xs) ys zero x e = e
front (y ∷ xs) ys (suc i) x e = front xs ys i x e

-- ---- the blocks of a function, and of all

long_function : (mid : Mid) (m c : ℕ) (f : MidFunction) (at : Places) (ks : List MidBlock) → length (function_blocks mid m c f at ks) ≡ length ks
long_function mid m c f at [] = refl
long_function mid m c f at (k ∷ ks) = ap suc (long_function mid m (c + 1) f at ks)

in_function : (mid : Mid) (m c : ℕ) (f : MidFunction) (at : Places) (ks : List MidBlock) (b : ℕ) (k : MidBlock) → slice_get ks b ≡ Some k →
    slice_get (function_blocks mid m c f at ks) b ≡ Some (doubled_block mid m (c + b) f at k)
in_function mid m c f at [] b k e = cc
in_function mid m c f at (x ∷ ks) zero k e = ap (λ (y : MidBlock). Some (doubled_block mid m c f at y)) (some_inj x k e) ∙ ap (λ (z : ℕ). Some (doubled_block mid m z f at k)) (sym (plus_zero c))
in_function mid m c f at (x ∷ ks) (suc b) k e = in_function mid m (c + 1) f at ks b k e ∙ ap (λ (z : ℕ). Some (doubled_block mid m z f at k)) (one_more c b)

long_program : (mid : Mid) (m : ℕ) (fs : List MidFunction) (ps : List Places) → length fs ≤ length ps → length (program_blocks mid m fs ps) ≡ sum (map blocks_in fs)
long_program mid m [] ps h = refl
long_program mid m (f ∷ fs) [] h = absurd (Rattle.std.proofs.Common.not-suc-le-zero h)
long_program mid m (f ∷ fs) (at ∷ ps) h =
    length-append (function_blocks mid m 0 f at f.blocks) (program_blocks mid (m + 1) fs ps) ∙ by (length (function_blocks mid m 0 f at f.blocks)) (length f.blocks) (length (program_blocks mid (m + 1) fs ps)) (sum (map blocks_in fs)) (long_function mid m 0 f at f.blocks) (long_program mid (m + 1) fs ps (less (length fs) (length ps) h)) ∙
    sym (sum_cons (length f.blocks) (map blocks_in fs))
  where
    less : (a b : ℕ) → suc a ≤ suc b → a ≤ b
    less a b h = omega arith

    by : (a b c d : ℕ) → a ≡ b → c ≡ d → a + c ≡ b + d
    by a b c d e f = omega arith

in_program : (mid : Mid) (m : ℕ) (fs : List MidFunction) (ps : List Places) (n b : ℕ) (f : MidFunction) (at : Places) (k : MidBlock) → slice_get fs n ≡ Some f → slice_get ps n ≡ Some at → slice_get f.blocks b ≡ Some k →
    slice_get (program_blocks mid m fs ps) (sum (map blocks_in (take n fs)) + b) ≡ Some (doubled_block mid (m + n) b f at k)
in_program mid m [] ps n b f at k e p q = cc
in_program mid m (g ∷ fs) [] n b f at k e p q = cc
in_program mid m (g ∷ fs) (r ∷ ps) zero b f at k e p q =
    ap (slice_get (function_blocks mid m 0 g r g.blocks ++ program_blocks mid (m + 1) fs ps)) (zero_plus b) ∙
    (front (function_blocks mid m 0 g r g.blocks) (program_blocks mid (m + 1) fs ps) b (doubled_block mid m (0 + b) g r k)
    (in_function mid m 0 g r g.blocks b k (subst (λ (z : MidFunction). slice_get z.blocks b ≡ Some k) (sym (some_inj g f e)) q)) ∙
    (ap (λ (z : ℕ). Some (doubled_block mid m z g r k)) (zero_plus b) ∙
    (ap (λ (z : MidFunction). Some (doubled_block mid m b z r k)) (some_inj g f e) ∙
    (ap (λ (z : Places). Some (doubled_block mid m b f z k)) (some_inj r at p) ∙
    ap (λ (z : ℕ). Some (doubled_block mid z b f at k)) (sym (plus_zero m))))))
in_program mid m (g ∷ fs) (r ∷ ps) (suc n) b f at k e p q =
    ap (λ (z : ℕ). slice_get (function_blocks mid m 0 g r g.blocks ++ program_blocks mid (m + 1) fs ps) (z + b)) (sum_cons (length g.blocks) (map blocks_in (take n fs))) ∙
    (ap (slice_get (function_blocks mid m 0 g r g.blocks ++ program_blocks mid (m + 1) fs ps))
    (shift (length g.blocks) (sum (map blocks_in (take n fs))) b (length (function_blocks mid m 0 g r g.blocks)) (long_function mid m 0 g r g.blocks)) ∙
    (skip (function_blocks mid m 0 g r g.blocks) (program_blocks mid (m + 1) fs ps) (sum (map blocks_in (take n fs)) + b) ∙
    (in_program mid (m + 1) fs ps n b f at k e p q ∙ ap (λ (z : ℕ). Some (doubled_block mid z b f at k)) (one_more m n))))
  where
    shift : (g s b l : ℕ) → l ≡ g → (g + s) + b ≡ l + (s + b)
    shift g s b l e = omega arith

-- ---- the program

-- each function's block stands at its number
pub block_is : (mid : Mid) (places : List Places) (n b : ℕ) (f : MidFunction) (at : Places) (k : MidBlock) → slice_get mid.functions n ≡ Some f → slice_get places n ≡ Some at → slice_get f.blocks b ≡ Some k →
    slice_get (doubled_program mid places).blocks (first_block mid n + b) ≡ Some (doubled_block mid n b f at k)
block_is mid places n b f at k e p q =
    ap (slice_get (doubled_program mid places).blocks) (two (sum (map blocks_in (take n mid.functions))) b) ∙
    (in_program mid 0 mid.functions places n b f at k e p q ∙ ap (λ (z : ℕ). Some (doubled_block mid z b f at k)) (zero_plus n))
  where
    two : (s b : ℕ) → (2 + s) + b ≡ suc (suc (s + b))
    two s b = omega arith

enough : (mid : Mid) (places : List Places) → AllFit mid places → length mid.functions ≤ length places
enough mid places fit = by mid.functions places (λ n f e. let q : (at : Places) × (slice_get places n ≡ Some at) × PlacesFit f at = fit n f e in (q.0, q.1))
  where
    by : (fs : List MidFunction) (ps : List Places) → ((n : ℕ) (f : MidFunction) → slice_get fs n ≡ Some f → (at : Places) × (slice_get ps n ≡ Some at)) → length fs ≤ length ps
    by [] ps h = nothing (length ps)
      where
        nothing : (n : ℕ) → 0 ≤ n
        nothing n = omega arith
    by (f ∷ fs) [] h = absurd (none (h 0 f refl))
      where
        none : ((at : Places) × (◌≡◌ {A = Option Places} None (Some at))) → ⊥
        none q = cc
    by (f ∷ fs) (p ∷ ps) h = more (length fs) (length ps) (by fs ps (λ n g e. h (suc n) g e))
      where
        more : (a b : ℕ) → a ≤ b → suc a ≤ suc b
        more a b h = omega arith

pub places_enough : (mid : Mid) (places : List Places) → AllFit mid places → length mid.functions ≤ length places
places_enough mid places fit = enough mid places fit

pub is_doubled : (mid : Mid) (places : List Places) → AllFit mid places → IsDoubled mid places (doubled_program mid places)
is_doubled mid places fit = record {
  first = refl;
  exit = refl;
  block = λ n b f at k e p q. ap block_items (block_is mid places n b f at k e p q);
  blocks_long = two (length (program_blocks mid 0 mid.functions places)) (sum (map blocks_in mid.functions)) (long_program mid 0 mid.functions places (enough mid places fit));
  entries_long = length-map-range_with_len (first_block mid) 0 (length mid.functions);
  entries = λ n h. get_or-map-range_with_len (first_block mid) 0 (length mid.functions) n n 0 h (zero_plus n);
  initial = refl;
  memory = refl;
}
  where
    two : (a b : ℕ) → a ≡ b → suc (suc a) ≡ 2 + b
    two a b e = omega arith

-- its blocks name the blocks behind them
pub names_ways : (mid : Mid) (places : List Places) → AllFit mid places → NamesWays mid (doubled_program mid places)
names_ways mid places fit = record {
  first = λ y e. ap (λ (z : HardBlock). z.successors) (sym (some_inj (first_one mid) y e));
  exit = λ y e. ap (λ (z : HardBlock). z.successors) (sym (some_inj exit_one y e));
  block = λ n b f x y e q g.
      let r : (at : Places) × (slice_get places n ≡ Some at) × PlacesFit f at = fit n f e in
      ap (λ (z : HardBlock). z.successors) (sym (some_inj (doubled_block mid n b f r.0 x) y (sym (block_is mid places n b f r.0 x e r.1 q) ∙ g)));
}

pub doubles : (mid : Mid) (places : List Places) → Valid mid → Shallow mid → Proper mid → HasWords mid → AllFit mid places → Doubles mid places (doubled_program mid places)
doubles mid places v s p w fit = record { valid = v; shallow = s; proper = p; words = w; fit = fit; emitted = is_doubled mid places fit }

-- what the laws give of what was emitted
pub all_given : (mid : Mid) (places : List Places) (q : HardProgram) → Valid mid → Shallow mid → Proper mid → HasWords mid → AllFit mid places → q ≡ doubled_program mid places → DoubledRuns → DoubledTwin → DoubledCounts →
    RunsAsBlocks mid q × (Twin q × CountsFit mid q)
all_given mid places q v s p w fit e runs twin counts =
    let d : Doubles mid places (doubled_program mid places) = doubles mid places v s p w fit in
    subst (λ (z : HardProgram). RunsAsBlocks mid z × (Twin z × CountsFit mid z)) (sym e)
    ((runs mid places (doubled_program mid places) d).0, (twin mid places (doubled_program mid places) d (names_ways mid places fit), counts mid places (doubled_program mid places) d))
