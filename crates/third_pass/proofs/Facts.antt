-- What a valid program, places that fit and a plan give of what the emitters ask.
use Rattle.std.proofs.Common.{◌≡◌, ◌≤◌, ◌<◌, ◌+◌, ◌-◌, ◌*◌, ◌^◌, ℕ, zero, suc, arith, ap, refl, sym, ◌∙◌, subst, Bool, true, false, List, [], ◌∷◌, ◌++◌, length, map, sum, take, drop, length-append, inl, inr}
use Rattle.std.specs.Prelude.{Option, Some, None, All, Any, slice_get, slice_index, slice_index_or, get_or, flat_map, nat_lt, if◌then◌else◌}
use Rattle.std.proofs.lemmas.List.Sums.{sum_by-cons}
use Rattle.std.proofs.lemmas.Option.{slice_get-get_or, slice_get_within, get_or_from_slice_get, slice_get_cases}
use Rattle.mid_blocks.specs.declared.places.Place.{Place}
use Rattle.mid_blocks.specs.declared.places.Place.TheVariants.{Pair, Slot}
use Rattle.mid_blocks.specs.declared.places.Places.{Places}
use Rattle.mid_blocks.specs.declared.code.MidStep.{MidStep}
use Rattle.mid_blocks.specs.declared.code.MidEnd.{MidEnd}
use Rattle.mid_blocks.specs.declared.code.MidEnd.TheVariants.{Jump, Branch, Call, Return}
use Rattle.mid_blocks.specs.declared.code.MidBlock.{MidBlock}
use Rattle.mid_blocks.specs.declared.code.MidFunction.{MidFunction}
use Rattle.mid_blocks.specs.declared.code.Mid.{Mid}
use Rattle.mid_blocks.specs.Lines.{Line, Step, End as EndLine, block_lines, lines}
use Rattle.mid_blocks.specs.Valid.{ValidFunction, Valid, step_global, target}
use Rattle.mid_blocks.specs.Liveness.{own_slot}
use Rattle.frame_plan.specs.Frames.{global_cell, global_length, IsPlan}
use Rattle.frame_plan.specs.declared.numbers.Frames.{Frames}
use Rattle.third_law.specs.Emitted.{place_of}
use Rattle.third_law.specs.Law.{AllFitThree, FitsThree}
use Rattle.third_law.specs.Program.{first_block, cell_address}
use Rattle.third_pass.specs.Emits.{IsSmall, AreSmall, GlobalsKnown, HasAddress, IsNamed, EndFits, CallsBelow, firsts_from}
use Rattle.frame_plan.specs.Frames.{addresses}
use Rattle.third_pass.specs.Ready.{spread, AreFirsts, BlockReady, FunctionReady, AllReady}

-- ---- lists

here : {A : Type 0} (P : A → Type 0) (xs : List A) (k : ℕ) (x : A) → slice_get xs k ≡ Some x → All P xs → P x
here P xs k x e all = subst P (get_or_from_slice_get xs k x x e) (all k x (slice_get_within xs k x e))

any_at : {A : Type 0} (P : A → Type 0) (xs : List A) (k : ℕ) (x : A) → slice_get xs k ≡ Some x → P x → Any P xs
any_at P xs k x e p = (k, x, slice_get_within xs k x e, get_or_from_slice_get xs k x x e, p)

each_at : {A : Type 0} (P : A → Type 0) (xs : List A) → ((k : ℕ) (x : A) → slice_get xs k ≡ Some x → P x) → All P xs
each_at P xs h k d l = h k (get_or xs k d) (slice_get-get_or xs k d l)

-- ---- numbers of blocks

abbrev blocks_in : MidFunction → ℕ
blocks_in f = length f.blocks

sum_cons : (x : ℕ) (xs : List ℕ) → sum (x ∷ xs) ≡ x + sum xs
sum_cons x xs = sum_by-cons (λ (y : ℕ). y) x xs

-- a number against a sum with one element more
within : (n x : ℕ) (xs : List ℕ) → n ≤ x + sum xs → n ≤ sum (x ∷ xs)
within n x xs h = subst (λ (z : ℕ). n ≤ z) (sym (sum_cons x xs)) h

plus_zero : (n : ℕ) → n ≡ n + 0
plus_zero n = omega arith

plus_more : (a b c : ℕ) → (a + b) + c ≡ a + (b + c)
plus_more a b c = omega arith

pub firsts_long : (at : ℕ) (fs : List MidFunction) → length (firsts_from at fs) ≡ length fs
firsts_long at [] = refl
firsts_long at (f ∷ fs) = ap suc (firsts_long (at + length f.blocks) fs)

pub firsts_at : (at : ℕ) (fs : List MidFunction) (n : ℕ) → n < length fs → slice_index (firsts_from at fs) n ≡ at + sum (map blocks_in (take n fs))
firsts_at at [] n h = absurd (Rattle.std.proofs.Common.not-suc-le-zero h)
firsts_at at (f ∷ fs) zero h = plus_zero at
firsts_at at (f ∷ fs) (suc n) h = firsts_at (at + length f.blocks) fs n (less n (length fs) h) ∙ (plus_more at (length f.blocks) (sum (map blocks_in (take n fs))) ∙
    ap (λ (z : ℕ). at + z) (sym (sum_cons (length f.blocks) (map blocks_in (take n fs)))))
  where
    less : (a b : ℕ) → suc a < suc b → a < b
    less a b h = omega arith

some_inj : {A : Type 0} (x y : A) → ◌≡◌ {A = Option A} (Some x) (Some y) → x ≡ y
some_inj x y e = cc

-- the blocks before a function and its own are at most all
before_and_own : (fs : List MidFunction) (n : ℕ) (f : MidFunction) → slice_get fs n ≡ Some f → sum (map blocks_in (take n fs)) + length f.blocks ≤ sum (map blocks_in fs)
before_and_own [] n f e = cc
before_and_own (g ∷ fs) zero f e = within (0 + length f.blocks) (length g.blocks) (map blocks_in fs) (by (sum (map blocks_in fs)) (length g.blocks) (length f.blocks) (ap blocks_in (some_inj g f e)))
  where
    by : (s a b : ℕ) → a ≡ b → 0 + b ≤ a + s
    by s a b e = omega arith
before_and_own (g ∷ fs) (suc n) f e = subst (λ (z : ℕ). z + length f.blocks ≤ sum (map blocks_in (g ∷ fs))) (sym (sum_cons (length g.blocks) (map blocks_in (take n fs))))
    (within ((length g.blocks + sum (map blocks_in (take n fs))) + length f.blocks) (length g.blocks) (map blocks_in fs)
    (by (length g.blocks) (sum (map blocks_in (take n fs))) (length f.blocks) (sum (map blocks_in fs)) (before_and_own fs n f e)))
  where
    by : (g a b s : ℕ) → a + b ≤ s → (g + a) + b ≤ g + s
    by g a b s h = omega arith

-- a function has at least as many lines as blocks
many_lines : (bs : List MidBlock) → length bs ≤ length (flat_map block_lines bs)
many_lines [] = nothing
  where
    nothing : 0 ≤ 0
    nothing = omega arith
many_lines (b ∷ bs) = subst (λ (z : ℕ). suc (length bs) ≤ z) (sym (length-append (block_lines b) (flat_map block_lines bs)))
    (by (length (block_lines b)) (length bs) (length (flat_map block_lines bs)) (some (map Step b.steps)) (many_lines bs))
  where
    some : (xs : List Line) → 1 ≤ length (xs ++ EndLine b.end ∷ [])
    some [] = one
      where
        one : 1 ≤ 1
        one = omega arith
    some (x ∷ xs) = more (length (xs ++ EndLine b.end ∷ [])) (some xs)
      where
        more : (n : ℕ) → 1 ≤ n → 1 ≤ suc n
        more n h = omega arith

    by : (a n m : ℕ) → 1 ≤ a → n ≤ m → suc n ≤ a + m
    by a n m h k = omega arith

few_blocks : (fs : List MidFunction) → sum (map blocks_in fs) ≤ sum (map (λ (f : MidFunction). length (lines f)) fs)
few_blocks [] = nothing
  where
    nothing : 0 ≤ 0
    nothing = omega arith
few_blocks (f ∷ fs) = subst (λ (z : ℕ). z ≤ sum (map (λ (f : MidFunction). length (lines f)) (f ∷ fs))) (sym (sum_cons (length f.blocks) (map blocks_in fs)))
    (within (length f.blocks + sum (map blocks_in fs)) (length (lines f)) (map (λ (f : MidFunction). length (lines f)) fs)
    (by (length f.blocks) (length (lines f)) (sum (map blocks_in fs)) (sum (map (λ (f : MidFunction). length (lines f)) fs)) (many_lines f.blocks) (few_blocks fs)))
  where
    by : (a b s t : ℕ) → a ≤ b → s ≤ t → a + s ≤ b + t
    by a b s t h k = omega arith

-- ---- places

own_small : (f : MidFunction) (v : ℕ) → f.variables < f.pairs → f.pairs ≤ 2002 → v < f.variables → own_slot f v ≤ 2000
own_small f v few pairs h = by (nat_lt v f.params) f.params f.pairs f.variables few pairs h
  where
    by : (b : Bool) (params pairs variables : ℕ) → variables < pairs → pairs ≤ 2002 → v < variables → (if b then pairs - 2 - v else v - params) ≤ 2000
    by true params pairs variables a k l = omega (arith, a, k, l)
    by false params pairs variables a k l = omega (arith, a, k, l)

pub are_small : (f : MidFunction) (at : Places) → ValidFunction f → FitsThree f at → AreSmall at
are_small f at k p v = elim (slice_get_cases at.list v).1 as (λ z. IsSmall (place_of at v)) [
  | inl c ↦ subst IsSmall (sym (get_or_from_slice_get at.list v c.0 (Slot 0) c.2)) (by_place c.0 c.1 c.2)
  | inr c ↦ subst IsSmall (Rattle.third_pass.proofs.Absent.absent at.list v (Slot 0) c.1) nothing
]
  where
    nothing : 0 ≤ 2000
    nothing = omega arith

    by_place : (place : Place) → v < length at.list → slice_get at.list v ≡ Some place → IsSmall place
    by_place (Pair pair) h e = p.in_pairs v pair e
    by_place (Slot slot) h e = subst (λ (z : ℕ). z ≤ 2000) (sym (p.fit.own_slots v slot e)) (own_small f v k.variables_fit p.small (subst (λ (z : ℕ). v < z) p.fit.one_each h))

-- ---- globals

addresses_long : (c : ℕ) (gs : List (List ℕ)) → length (addresses c gs) ≡ length gs
addresses_long c [] = refl
addresses_long c (g ∷ gs) = ap suc (addresses_long (c + length g) gs)

spread_long : (xs : List ℕ) → length (spread xs) ≡ length xs
spread_long [] = refl
spread_long (x ∷ xs) = ap suc (spread_long xs)

spread_at : (c : ℕ) (gs : List (List ℕ)) (n : ℕ) → n < length gs → slice_index (spread (addresses c gs)) n ≡ cell_address (c + sum (map length (take n gs)))
spread_at c [] n h = absurd (Rattle.std.proofs.Common.not-suc-le-zero h)
spread_at c (g ∷ gs) zero h = twice c
  where
    twice : (c : ℕ) → 0x10010000 + 2 * (0x10010000 + 8 * c - 0x10010000) ≡ 0x10010000 + 16 * (c + 0)
    twice c = omega arith
spread_at c (g ∷ gs) (suc n) h = spread_at (c + length g) gs n (less n (length gs) h) ∙ ap cell_address (plus_more c (length g) (sum (map length (take n gs))) ∙
    ap (λ (z : ℕ). c + z) (sym (sum_cons (length g) (map length (take n gs)))))
  where
    less : (a b : ℕ) → suc a < suc b → a < b
    less a b h = omega arith

sum_take : (gs : List (List ℕ)) (n : ℕ) → sum (map length (take n gs)) ≤ sum (map length gs)
sum_take [] zero = nothing
  where
    nothing : 0 ≤ 0
    nothing = omega arith
sum_take [] (suc n) = nothing
  where
    nothing : 0 ≤ 0
    nothing = omega arith
sum_take (g ∷ gs) zero = by (sum (map length (g ∷ gs)))
  where
    by : (n : ℕ) → 0 ≤ n
    by n = omega arith
sum_take (g ∷ gs) (suc n) = subst (λ (z : ℕ). z ≤ sum (map length (g ∷ gs))) (sym (sum_cons (length g) (map length (take n gs))))
    (within (length g + sum (map length (take n gs))) (length g) (map length gs) (by (length g) (sum (map length (take n gs))) (sum (map length gs)) (sum_take gs n)))
  where
    by : (g a b : ℕ) → a ≤ b → g + a ≤ g + b
    by g a b h = omega arith

one_short : (gs : List (List ℕ)) (n : ℕ) → length (slice_index_or gs n []) ≤ sum (map length gs)
one_short [] zero = nothing
  where
    nothing : 0 ≤ 0
    nothing = omega arith
one_short [] (suc n) = nothing
  where
    nothing : 0 ≤ 0
    nothing = omega arith
one_short (g ∷ gs) zero = within (length g) (length g) (map length gs) (by (length g) (sum (map length gs)))
  where
    by : (a b : ℕ) → a ≤ a + b
    by a b = omega arith
one_short (g ∷ gs) (suc n) = within (length (slice_index_or gs n [])) (length g) (map length gs) (by (length (slice_index_or gs n [])) (length g) (sum (map length gs)) (one_short gs n))
  where
    by : (x a b : ℕ) → x ≤ b → x ≤ a + b
    by x a b h = omega arith

pub globals_known : (mid : Mid) (plan : Frames) → Valid mid → IsPlan mid plan → GlobalsKnown mid (spread plan.globals)
globals_known mid plan v p = record { are = are; low = low; short = short }
  where
    long : length (spread plan.globals) ≡ length mid.globals
    long = spread_long plan.globals ∙ (ap length p.globals ∙ addresses_long 0 mid.globals)

    are : (g : ℕ) → g < length (spread plan.globals) → slice_index (spread plan.globals) g ≡ cell_address (global_cell mid g)
    are g h = ap (λ (l : List ℕ). slice_index (spread l) g) p.globals ∙ (spread_at 0 mid.globals g (subst (λ (z : ℕ). g < z) long h) ∙ ap cell_address (zero_plus (sum (map length (take g mid.globals)))))
      where
        zero_plus : (n : ℕ) → 0 + n ≡ n
        zero_plus n = omega arith

    low : (g : ℕ) → g < length (spread plan.globals) → slice_index (spread plan.globals) g < 2 ^ 31
    low g h = subst (λ (z : ℕ). z < 2 ^ 31) (sym (are g h)) (by (global_cell mid g) (sum (map length mid.globals)) mid.chain_pairs (sum_take mid.globals g) v.store_fits)
      where
        by : (c s t : ℕ) → c ≤ s → s + t ≤ 32768 → 0x10010000 + 16 * c < 2 ^ 31
        by c s t h k = omega (arith, h, k)

    short : (g : ℕ) → global_length mid g < 2 ^ 16
    short g = by (global_length mid g) (sum (map length mid.globals)) mid.chain_pairs (one_short mid.globals g) v.store_fits
      where
        by : (c s t : ℕ) → c ≤ s → s + t ≤ 32768 → c < 2 ^ 16
        by c s t h k = omega (arith, h, k)

-- ---- functions

params_fit : (g : MidFunction) → ValidFunction g → g.params < g.pairs
params_fit g k = by g.params g.variables g.pairs k.params_fit k.variables_fit
  where
    by : (a b c : ℕ) → a ≤ b → b < c → a < c
    by a b c h k = omega arith

globals_long : (mid : Mid) (plan : Frames) → IsPlan mid plan → length (spread plan.globals) ≡ length mid.globals
globals_long mid plan p = spread_long plan.globals ∙ (ap length p.globals ∙ addresses_long 0 mid.globals)

module _ (mid : Mid) (v : Valid mid) (low : (n : ℕ) (f : MidFunction) → slice_get mid.functions n ≡ Some f → f.pairs ≤ 2002) (n : ℕ) (f : MidFunction) (there : slice_get mid.functions n ≡ Some f) where
  k : ValidFunction f
  k = here ValidFunction mid.functions n f there v.functions_valid

  few : first_block mid n + length f.blocks < 2 ^ 32 - 1
  few = by (sum (map blocks_in (take n mid.functions))) (length f.blocks) (sum (map blocks_in mid.functions)) (sum (map (λ (f : MidFunction). length (lines f)) mid.functions)) (before_and_own mid.functions n f there) (few_blocks mid.functions) v.few_lines
    where
      by : (a b s t : ℕ) → a + b ≤ s → s ≤ t → t ≤ 62914560 → (2 + a) + b < 2 ^ 32 - 1
      by a b s t h k l = omega (arith, h, k, l)

  module _ (b : ℕ) (block : MidBlock) (at_block : slice_get f.blocks b ≡ Some block) where
    aims : (to : ℕ) → target block.end ≡ Some to → first_block mid n + to < 2 ^ 32
    aims to e = by (first_block mid n) to (length f.blocks) (k.blocks_exist to (any_at (λ b. target b.end ≡ Some to) f.blocks b block at_block e)) few
      where
        by : (a t l : ℕ) → t < l → a + l < 2 ^ 32 - 1 → a + t < 2 ^ 32
        by a t l h k = omega (arith, h, k)

    called : (function : ℕ) (args : List ℕ) (result : Option ℕ) → block.end ≡ Call function args result → (g : MidFunction) × (slice_get mid.functions function ≡ Some g) × (length args ≡ g.params)
    called function args result e = v.calls_fit function args
        (any_at (λ f. Any (λ b. (result : Option ℕ) × (b.end ≡ Call function args result)) f.blocks) mid.functions n f there
        (any_at (λ b. (result : Option ℕ) × (b.end ≡ Call function args result)) f.blocks b block at_block (result, e)))

    end_fits : (end : MidEnd) → block.end ≡ end → EndFits (first_block mid n) end
    end_fits (Jump to) e = aims to (ap target e)
    end_fits (Branch test when to) e = aims to (ap target e)
    end_fits (Call function args result) e =
        let c : (g : MidFunction) × (slice_get mid.functions function ≡ Some g) × (length args ≡ g.params) = called function args result e in
        let g : ValidFunction c.0 = here ValidFunction mid.functions function c.0 c.1 v.functions_valid in
        subst (λ (z : ℕ). z ≤ 2001) (sym c.2) (by c.0.params c.0.pairs (params_fit c.0 g) (low function c.0 c.1))
      where
        by : (a b : ℕ) → a < b → b ≤ 2002 → a ≤ 2001
        by a b h k = omega arith
    end_fits (Return from) e = tt

    calls_below : (end : MidEnd) → block.end ≡ end → CallsBelow (length mid.functions) end
    calls_below (Jump to) e = tt
    calls_below (Branch test when to) e = tt
    calls_below (Call function args result) e =
        let c : (g : MidFunction) × (slice_get mid.functions function ≡ Some g) × (length args ≡ g.params) = called function args result e in
        slice_get_within mid.functions function c.0 c.1
    calls_below (Return from) e = tt

    named : (plan : Frames) → IsPlan mid plan → (j : ℕ) (step : MidStep) → slice_get block.steps j ≡ Some step → IsNamed (spread plan.globals) step
    named plan p j step e = by (step_global step) refl
      where
        by : (o : Option ℕ) → step_global step ≡ o → HasAddress (spread plan.globals) o
        by None q = tt
        by (Some g) q = subst (λ (z : ℕ). g < z) (sym (globals_long mid plan p)) (v.globals_exist g
            (any_at (λ f. Any (λ b. Any (λ step. step_global step ≡ Some g) b.steps) f.blocks) mid.functions n f there
            (any_at (λ b. Any (λ step. step_global step ≡ Some g) b.steps) f.blocks b block at_block
            (any_at (λ step. step_global step ≡ Some g) block.steps j step e q))))

    ready : (plan : Frames) → IsPlan mid plan → BlockReady (length mid.functions) (first_block mid n) (spread plan.globals) block
    ready plan p = record {
      steps = each_at (λ step. IsNamed (spread plan.globals) step) block.steps (named plan p);
      end = end_fits block.end refl;
      calls = calls_below block.end refl;
    }

  function_ready : (plan : Frames) → IsPlan mid plan → (at : Places) → FitsThree f at → FunctionReady (length mid.functions) (first_block mid n) (spread plan.globals) f at
  function_ready plan p at q = record {
    small = are_small f at k q;
    params = params_fit f k;
    pairs = q.small;
    few = few;
    blocks = each_at (BlockReady (length mid.functions) (first_block mid n) (spread plan.globals)) f.blocks (λ b block at_block. ready b block at_block plan p);
  }

low : (mid : Mid) (places : List Places) → AllFitThree mid places → (n : ℕ) (f : MidFunction) → slice_get mid.functions n ≡ Some f → f.pairs ≤ 2002
low mid places fit n f e = (fit n f e).2.small

pub all_ready : (mid : Mid) (plan : Frames) (places : List Places) → Valid mid → AllFitThree mid places → IsPlan mid plan → AllReady mid (spread plan.globals) places
all_ready mid plan places v fit p n f there =
    let q : (at : Places) × (slice_get places n ≡ Some at) × FitsThree f at = fit n f there in
    (q.0, q.1, function_ready mid v (low mid places fit) n f there plan p q.0 q.2)

pub all_few : (mid : Mid) → Valid mid → 2 + sum (map (λ (f : MidFunction). length f.blocks) mid.functions) < 2 ^ 32
all_few mid v = by (sum (map blocks_in mid.functions)) (sum (map (λ (f : MidFunction). length (lines f)) mid.functions)) (few_blocks mid.functions) v.few_lines
  where
    by : (s t : ℕ) → s ≤ t → t ≤ 62914560 → 2 + s < 2 ^ 32
    by s t h k = omega (arith, h, k)

-- each function has a block, so the functions are few
functions_few : (fs : List MidFunction) → ((n : ℕ) (f : MidFunction) → slice_get fs n ≡ Some f → 0 < length f.blocks) → length fs ≤ sum (map blocks_in fs)
functions_few [] h = nothing
  where
    nothing : 0 ≤ 0
    nothing = omega arith
functions_few (f ∷ fs) h = within (suc (length fs)) (length f.blocks) (map blocks_in fs) (by (length fs) (length f.blocks) (sum (map blocks_in fs)) (h 0 f refl) (functions_few fs (λ n g e. h (suc n) g e)))
  where
    by : (a b s : ℕ) → 0 < b → a ≤ s → suc a ≤ b + s
    by a b s h k = omega arith

pub count_few : (mid : Mid) → Valid mid → length mid.functions < 2 ^ 32
count_few mid v = by (length mid.functions) (sum (map blocks_in mid.functions)) (functions_few mid.functions (λ n f e. (here ValidFunction mid.functions n f e v.functions_valid).has_block)) (all_few mid v)
  where
    by : (a s : ℕ) → a ≤ s → 2 + s < 2 ^ 32 → a < 2 ^ 32
    by a s h k = omega (arith, h, k)

-- ---- tables

pub firsts_are : (mid : Mid) (fs : List MidFunction) (firsts : List ℕ) → fs ≡ mid.functions → firsts ≡ firsts_from 2 fs → AreFirsts mid firsts
firsts_are mid fs firsts e p = record {
  long = ap length (p ∙ ap (firsts_from 2) e) ∙ firsts_long 2 mid.functions;
  first = λ n h. ap (λ (l : List ℕ). slice_index l n) (p ∙ ap (firsts_from 2) e) ∙ firsts_at 2 mid.functions n h;
}

pub places_enough : (mid : Mid) (places : List Places) → AllFitThree mid places → length mid.functions ≤ length places
places_enough mid places fit = by mid.functions places (λ n f e. let q : (at : Places) × (slice_get places n ≡ Some at) × FitsThree f at = fit n f e in (q.0, q.1))
  where
    by : (fs : List MidFunction) (ps : List Places) → ((n : ℕ) (f : MidFunction) → slice_get fs n ≡ Some f → (at : Places) × (slice_get ps n ≡ Some at)) → length fs ≤ length ps
    by [] ps h = nothing (length ps)
      where
        nothing : (n : ℕ) → 0 ≤ n
        nothing n = omega arith
    by (f ∷ fs) [] h = absurd (none (h 0 f refl))
      where
        none : ((at : Places) × (◌≡◌ {A = Option Places} None (Some at))) → ⊥
        none q = cc
    by (f ∷ fs) (p ∷ ps) h = more (length fs) (length ps) (by fs ps (λ n g e. h (suc n) g e))
      where
        more : (a b : ℕ) → a ≤ b → suc a ≤ suc b
        more a b h = omega arith
