-- What a plan has stands apart, aligned and in memory.
use Rattle.std.proofs.Common.{◌≡◌, ◌≤◌, ◌<◌, ℕ, zero, suc, ◌+◌, ◌-◌, ◌*◌, ◌%◌, arith, ap, refl, sym, ◌∙◌, subst, List, [], ◌∷◌, length, map, take, drop, sum, le_refl, le_trans}
use Rattle.std.specs.Prelude.{Option, Some, None, slice_get, slice_index_or}
use Rattle.mid_blocks.specs.declared.code.MidFunction.{MidFunction}
use Rattle.mid_blocks.specs.declared.code.Mid.{Mid}
use Rattle.mid_blocks.specs.Bounds.{pairs_of}
use Rattle.mid_blocks.specs.Valid.{Valid}
use Rattle.frame_plan.specs.declared.numbers.Frames.{Frames}
use Rattle.frame_plan.specs.Frames.{cell_address, global_cell, global_cells, cells, addresses, IsPlan, pointer, Cell, Element, InFrame, IsThere, stands_at, pairs_together, StandApart, HasRoom}

none_is : {A : Type 0} (x : A) → ◌≡◌ {A = Option A} None (Some x) → ⊥
none_is x e = cc

some_same : {A : Type 0} (x y : A) → ◌≡◌ {A = Option A} (Some x) (Some y) → x ≡ y
some_same {A} x y e = ap (λ (o : Option A). elim o as (λ z. A) [ Some v ↦ v | None ↦ x ]) e

fold_from : (a : ℕ) (xs : List ℕ) → Rattle.std.proofs.Common.fold ◌+◌ a xs ≡ a + sum xs
fold_from a [] = sym (Rattle.std.proofs.Common.add-zero a)
fold_from a (x ∷ xs) = joined (a + x) (0 + x) (sum xs) (fold_from (a + x) xs) (fold_from (0 + x) xs) refl refl
  where
    joined : (n m s : ℕ) → {u v : ℕ} → u ≡ n + s → v ≡ m + s → n ≡ a + x → m ≡ 0 + x → u ≡ a + v
    joined n m s {u} {v} e f g h = omega arith

pub sum_cons : (x : ℕ) (xs : List ℕ) → sum (x ∷ xs) ≡ x + sum xs
sum_cons x xs = fold_from (0 + x) xs ∙ plain (sum xs)
  where
    plain : (s : ℕ) → 0 + x + s ≡ x + s
    plain s = omega arith

-- ---- cells of globals

cell_in : (xs : List (List ℕ)) (g i : ℕ) → i < length (slice_index_or xs g []) → sum (map length (take g xs)) + i < sum (map length xs)
cell_in [] g i h = absurd (Rattle.std.proofs.Common.not-suc-le-zero h)
cell_in (x ∷ xs) zero i h = rw (sum_cons (length x) (map length xs)) (first_part (length x) (sum (map length xs)) i h)
  where
    first_part : (n m i : ℕ) → i < n → 0 + i < n + m
    first_part n m i h = omega arith
cell_in (x ∷ xs) (suc g) i h = rw (sum_cons (length x) (map length (take g xs)), sum_cons (length x) (map length xs)) (later_part (length x) (sum (map length (take g xs))) (sum (map length xs)) i (cell_in xs g i h))
  where
    later_part : (n s m i : ℕ) → s + i < m → n + s + i < n + m
    later_part n s m i h = omega arith

-- two elements of globals have two cells
cells_differ : (xs : List (List ℕ)) (g i k j : ℕ) → i < length (slice_index_or xs g []) → j < length (slice_index_or xs k []) → sum (map length (take g xs)) + i ≡ sum (map length (take k xs)) + j → (g ≡ k) × (i ≡ j)
cells_differ [] g i k j h l e = absurd (Rattle.std.proofs.Common.not-suc-le-zero h)
cells_differ (x ∷ xs) zero i zero j h l e = (refl, same_first i j e)
  where
    same_first : (i j : ℕ) → 0 + i ≡ 0 + j → i ≡ j
    same_first i j e = omega arith
cells_differ (x ∷ xs) zero i (suc k) j h l e = absurd (too_far (length x) (sum (map length (take k xs))) i j h (e ∙ ap (λ (n : ℕ). n + j) (sum_cons (length x) (map length (take k xs)))))
  where
    too_far : (n s i j : ℕ) → i < n → 0 + i ≡ n + s + j → ⊥
    too_far n s i j h e = omega arith
cells_differ (x ∷ xs) (suc g) i zero j h l e = absurd (too_far (length x) (sum (map length (take g xs))) i j l (sym (ap (λ (n : ℕ). n + i) (sum_cons (length x) (map length (take g xs)))) ∙ e))
  where
    too_far : (n s i j : ℕ) → j < n → n + s + i ≡ 0 + j → ⊥
    too_far n s i j h e = omega arith
cells_differ (x ∷ xs) (suc g) i (suc k) j h l e =
    let r : (g ≡ k) × (i ≡ j) = cells_differ xs g i k j h l (less (length x) (sum (map length (take g xs))) (sum (map length (take k xs))) i j (sym (ap (λ (n : ℕ). n + i) (sum_cons (length x) (map length (take g xs)))) ∙ (e ∙ ap (λ (n : ℕ). n + j) (sum_cons (length x) (map length (take k xs)))))) in
    (ap (λ (n : ℕ). suc n) r.0, r.1)
  where
    less : (n s t i j : ℕ) → n + s + i ≡ n + t + j → s + i ≡ t + j
    less n s t i j e = omega arith

address_of : (c : ℕ) (xs : List (List ℕ)) (g i : ℕ) → i < length (slice_index_or xs g []) → slice_index_or (addresses c xs) g 0 ≡ cell_address (c + sum (map length (take g xs)))
address_of c [] g i h = absurd (Rattle.std.proofs.Common.not-suc-le-zero h)
address_of c (x ∷ xs) zero i h = ap cell_address (sym (Rattle.std.proofs.Common.add-zero c))
address_of c (x ∷ xs) (suc g) i h = address_of (c + length x) xs g i h ∙ ap cell_address (joined (length x) (sum (map length (take g xs))) (sum (map length (take (suc g) (x ∷ xs)))) (sum_cons (length x) (map length (take g xs))))
  where
    joined : (n s t : ℕ) → t ≡ n + s → c + n + s ≡ c + t
    joined n s t e = omega arith

-- ---- frames

bytes_of : (fs : List MidFunction) (n : ℕ) → slice_index_or (map (λ (f : MidFunction). 8 * f.pairs) fs) n 0 ≡ 8 * pairs_of (slice_get fs n)
bytes_of [] n = refl
bytes_of (f ∷ fs) zero = refl
bytes_of (f ∷ fs) (suc n) = bytes_of fs n

all_bytes : (b w : ℕ → ℕ) (calls : List ℕ) → ((n : ℕ) → b n ≡ 8 * w n) → sum (map b calls) ≡ 8 * sum (map w calls)
all_bytes b w [] h = refl
all_bytes b w (n ∷ calls) h = add (b n) (w n) (sum (map b calls)) (sum (map w calls)) (sum (map b (n ∷ calls))) (sum (map w (n ∷ calls))) (h n) (all_bytes b w calls h) (sum_cons (b n) (map b calls)) (sum_cons (w n) (map w calls))
  where
    add : (x y s t u v : ℕ) → x ≡ 8 * y → s ≡ 8 * t → u ≡ x + s → v ≡ y + t → u ≡ 8 * v
    add x y s t u v e g h k = omega arith

rest_less : (w : ℕ → ℕ) (calls : List ℕ) (k : ℕ) → sum (map w (drop k calls)) ≤ sum (map w calls)
rest_less w calls zero = le_refl (sum (map w calls))
rest_less w [] (suc k) = le_refl (sum (map w []))
rest_less w (n ∷ calls) (suc k) = more (w n) (sum (map w calls)) (sum (map w (drop k calls))) (sum (map w (n ∷ calls))) (sum_cons (w n) (map w calls)) (rest_less w calls k)
  where
    more : (x s r t : ℕ) → t ≡ x + s → r ≤ s → r ≤ t
    more x s r t e h = omega arith

-- a place of the frame of a call is below the frames of the older ones
place_in : (w : ℕ → ℕ) (calls : List ℕ) (k n place : ℕ) → slice_get calls k ≡ Some n → place < w n → place < sum (map w (drop k calls))
place_in w [] k n place e h = absurd (none_is n e)
place_in w (c ∷ calls) zero n place e h = more (w n) (sum (map w calls)) (sum (map w (c ∷ calls))) place (subst (λ (z : ℕ). sum (map w (c ∷ calls)) ≡ w z + sum (map w calls)) (some_same c n e) (sum_cons (w c) (map w calls))) h
  where
    more : (x s t p : ℕ) → t ≡ x + s → p < x → p < t
    more x s t p e h = omega arith
place_in w (c ∷ calls) (suc k) n place e h = place_in w calls k n place e h

-- two places of frames have two cells
places_differ : (w : ℕ → ℕ) (calls : List ℕ) (top k n a j m b : ℕ) → sum (map w calls) ≤ top → slice_get calls k ≡ Some n → a < w n → slice_get calls j ≡ Some m → b < w m →
    top - sum (map w (drop k calls)) + a ≡ top - sum (map w (drop j calls)) + b → (k ≡ j) × (a ≡ b)
places_differ w [] top k n a j m b r e h f l g = absurd (none_is n e)
places_differ w (c ∷ calls) top zero n a zero m b r e h f l g = (refl, same (top - sum (map w (c ∷ calls))) a b g)
  where
    same : (t a b : ℕ) → t + a ≡ t + b → a ≡ b
    same t a b e = omega arith
places_differ w (c ∷ calls) top zero n a (suc j) m b r e h f l g = absurd (apart (w n) (sum (map w calls)) (sum (map w (drop j calls))) (sum (map w (c ∷ calls))) a b
    (subst (λ (z : ℕ). sum (map w (c ∷ calls)) ≡ w z + sum (map w calls)) (some_same c n e) (sum_cons (w c) (map w calls))) h (rest_less w calls j) r g)
  where
    apart : (x s d t a b : ℕ) → t ≡ x + s → a < x → d ≤ s → t ≤ top → top - t + a ≡ top - d + b → ⊥
    apart x s d t a b e h l r g = omega arith
places_differ w (c ∷ calls) top (suc k) n a zero m b r e h f l g = absurd (apart (w m) (sum (map w calls)) (sum (map w (drop k calls))) (sum (map w (c ∷ calls))) b a
    (subst (λ (z : ℕ). sum (map w (c ∷ calls)) ≡ w z + sum (map w calls)) (some_same c m f) (sum_cons (w c) (map w calls))) l (rest_less w calls k) r (sym g))
  where
    apart : (x s d t a b : ℕ) → t ≡ x + s → a < x → d ≤ s → t ≤ top → top - t + a ≡ top - d + b → ⊥
    apart x s d t a b e h l r g = omega arith
places_differ w (c ∷ calls) top (suc k) n a (suc j) m b r e h f l g =
    let z : (k ≡ j) × (a ≡ b) = places_differ w calls top k n a j m b (less (w c) (sum (map w calls)) (sum (map w (c ∷ calls))) (sum_cons (w c) (map w calls)) r) e h f l g in
    (ap (λ (i : ℕ). suc i) z.0, z.1)
  where
    less : (x s t : ℕ) → t ≡ x + s → t ≤ top → s ≤ top
    less x s t e h = omega arith

-- ---- what is there

abbrev weight : Mid → ℕ → ℕ
weight mid n = pairs_of (slice_get mid.functions n)

abbrev cell_of : Mid → List ℕ → Cell → ℕ
cell_of mid calls (Element global index) = global_cell mid global + index
cell_of mid calls (InFrame newer place) = cells mid - sum (map (weight mid) (drop newer calls)) + place

module _ (mid : Mid) (frames : Frames) (is : IsPlan mid frames) (calls : List ℕ) (room : pairs_together mid calls ≤ mid.chain_pairs) where
  -- a pointer is the address of a cell
  pointer_is : (newer : ℕ) → pointer frames (drop newer calls) ≡ cell_address (cells mid - sum (map (weight mid) (drop newer calls)))
  pointer_is newer = lowered frames.stack_top (cells mid) (sum (map (λ n. slice_index_or frames.frame_bytes n 0) (drop newer calls))) (sum (map (weight mid) (drop newer calls))) (sum (map (weight mid) calls)) (global_cells mid) mid.chain_pairs is.stack_top
      (all_bytes (λ n. slice_index_or frames.frame_bytes n 0) (weight mid) (drop newer calls) (λ n. subst (λ (bs : List ℕ). slice_index_or bs n 0 ≡ 8 * weight mid n) (sym is.frame_bytes) (bytes_of mid.functions n)))
      (rest_less (weight mid) calls newer) room refl
    where
      lowered : (t c b w s g q : ℕ) → t ≡ 0x10010000 + 8 * c → b ≡ 8 * w → w ≤ s → s ≤ q → c ≡ g + q → t - b ≡ 0x10010000 + 8 * (c - w)
      lowered t c b w s g q e f h k l = omega arith

  stands : (s : Cell) → IsThere mid calls s → stands_at frames calls s ≡ cell_address (cell_of mid calls s)
  stands (Element global index) h = next (slice_index_or frames.globals global 0) (sum (map length (take global mid.globals))) index
      (subst (λ (xs : List ℕ). slice_index_or xs global 0 ≡ cell_address (0 + sum (map length (take global mid.globals)))) (sym is.globals) (address_of 0 mid.globals global index h))
    where
      next : (a c i : ℕ) → a ≡ 0x10010000 + 8 * (0 + c) → a + 8 * i ≡ 0x10010000 + 8 * (c + i)
      next a c i e = omega arith
  stands (InFrame newer place) h = next (pointer frames (drop newer calls)) (cells mid - sum (map (weight mid) (drop newer calls))) place (pointer_is newer)
    where
      next : (a c i : ℕ) → a ≡ 0x10010000 + 8 * c → a + 8 * i ≡ 0x10010000 + 8 * (c + i)
      next a c i e = omega arith

  in_weight : (n place : ℕ) (f : MidFunction) → slice_get mid.functions n ≡ Some f → place < f.pairs → place < weight mid n
  in_weight n place f e h = subst (λ (o : Option MidFunction). place < pairs_of o) (sym e) h

  below : (s : Cell) → IsThere mid calls s → cell_of mid calls s < cells mid
  below (Element global index) h = less (global_cell mid global + index) (global_cells mid) mid.chain_pairs (cell_in mid.globals global index h)
    where
      less : (c g q : ℕ) → c < g → c < g + q
      less c g q h = omega arith
  below (InFrame newer place) (n, f, e, g, h) = less (cells mid) (sum (map (weight mid) (drop newer calls))) (sum (map (weight mid) calls)) (global_cells mid) mid.chain_pairs place (place_in (weight mid) calls newer n place e (in_weight n place f g h)) (rest_less (weight mid) calls newer) room refl
    where
      less : (c w s g q p : ℕ) → p < w → w ≤ s → s ≤ q → c ≡ g + q → c - w + p < c
      less c w s g q p h k l e = omega arith

  -- the cells of frames are above those of globals
  above : (newer place : ℕ) → global_cells mid ≤ cell_of mid calls (InFrame newer place)
  above newer place = more (cells mid) (sum (map (weight mid) (drop newer calls))) (sum (map (weight mid) calls)) (global_cells mid) mid.chain_pairs place (rest_less (weight mid) calls newer) room refl
    where
      more : (c w s g q p : ℕ) → w ≤ s → s ≤ q → c ≡ g + q → g ≤ c - w + p
      more c w s g q p k l e = omega arith

  one_cell : (s t : Cell) → IsThere mid calls s → IsThere mid calls t → cell_of mid calls s ≡ cell_of mid calls t → s ≡ t
  one_cell (Element g i) (Element h j) a b e = let r : (g ≡ h) × (i ≡ j) = cells_differ mid.globals g i h j a b e in ap (λ (x : ℕ). Element x i) r.0 ∙ ap (λ (y : ℕ). Element h y) r.1
  one_cell (Element g i) (InFrame k p) a b e = absurd (apart (cell_of mid calls (Element g i)) (cell_of mid calls (InFrame k p)) (global_cells mid) (cell_in mid.globals g i a) (above k p) e)
    where
      apart : (x y g : ℕ) → x < g → g ≤ y → x ≡ y → ⊥
      apart x y g h k e = omega arith
  one_cell (InFrame k p) (Element g i) a b e = absurd (apart (cell_of mid calls (Element g i)) (cell_of mid calls (InFrame k p)) (global_cells mid) (cell_in mid.globals g i b) (above k p) (sym e))
    where
      apart : (x y g : ℕ) → x < g → g ≤ y → x ≡ y → ⊥
      apart x y g h k e = omega arith
  one_cell (InFrame k p) (InFrame j q) (n, f, en, ef, l) (m, h, em, eh, r) e =
      let z : (k ≡ j) × (p ≡ q) = places_differ (weight mid) calls (cells mid) k n p j m q (few (sum (map (weight mid) calls)) (global_cells mid) mid.chain_pairs room) en (in_weight n p f ef l) em (in_weight m q h eh r) e in
      ap (λ (x : ℕ). InFrame x p) z.0 ∙ ap (λ (y : ℕ). InFrame j y) z.1
    where
      few : (s g q : ℕ) → s ≤ q → s ≤ g + q
      few s g q h = omega arith

  stand_apart : StandApart mid frames calls
  stand_apart = record {
    aligned = λ s h. even (stands_at frames calls s) (cell_of mid calls s) (stands s h);
    in_memory = λ s h. within (stands_at frames calls s) (cell_of mid calls s) (cells mid) frames.memory_words (stands s h) (below s h) is.memory_words;
    apart = λ s t a b e. one_cell s t a b (same (cell_of mid calls s) (cell_of mid calls t) (stands_at frames calls s) (stands_at frames calls t) (stands s a) (stands t b) e);
  }
    where
      even : (a c : ℕ) → a ≡ 0x10010000 + 8 * c → a % 8 ≡ 0
      even a c e = omega arith

      within : (a c n w : ℕ) → a ≡ 0x10010000 + 8 * c → c < n → w ≡ 2 * n → (0x10010000 ≤ a) × (a + 8 ≤ 0x10010000 + 4 * w)
      within a c n w e h g = (omega arith, omega arith)

      same : (x y a b : ℕ) → a ≡ 0x10010000 + 8 * x → b ≡ 0x10010000 + 8 * y → a ≡ b → x ≡ y
      same x y a b e f g = omega arith

pub has_room : (mid : Mid) (frames : Frames) → IsPlan mid frames → HasRoom mid frames
has_room mid frames is calls room = stand_apart mid frames is calls room

pub frames_small : (mid : Mid) → Valid mid → Rattle.std.specs.Prelude.All (λ (f : MidFunction). f.pairs ≤ 4002) mid.functions
frames_small mid v n d l = (v.functions_valid n d l).pairs_fit
