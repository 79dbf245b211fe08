-- Each block stands in the text, from the word on whose address is counted for it.
use Rattle.std.proofs.Common.{◌≡◌, ◌≢◌, ◌≤◌, ◌<◌, ℕ, zero, suc, ◌+◌, ◌-◌, ◌*◌, ◌^◌, arith, ap, refl, sym, ◌∙◌, subst, List, [], ◌∷◌, ◌++◌, length, length-append, map, take, sum, flat_map, le_trans, get_or}
use Rattle.std.specs.Prelude.{Option, Some, None, slice_get, slice_index_or, All}
use Rattle.std.proofs.lemmas.Option.{slice_get_within, get_or_from_slice_get}
use Rattle.mips_isa.specs.declared.instr.Instr.{Instr}
use Rattle.mips_isa.specs.Table.{encoding, IsInRange}
use Rattle.mips_isa.specs.Inverse.{DecodesEncoded}
use Rattle.mips_text.specs.Text.{IsText}
use Rattle.mid_blocks.specs.declared.code.MidBlock.{MidBlock}
use Rattle.mid_blocks.specs.declared.code.MidFunction.{MidFunction}
use Rattle.mid_blocks.specs.declared.code.Mid.{Mid}
use Rattle.mid_blocks.specs.declared.places.Places.{Places}
use Rattle.mid_blocks.specs.Size.{words}
use Rattle.third_law.specs.Law.{Triples}
use Rattle.third_law.specs.Program.{first_block, block_code, first_code, exit_code, function_code, functions_code, code_at, starts_from, looked_up, starts, third_code, third_text}
use Rattle.third_law.proofs.Sizes.{few_in_three}
use Rattle.third_law.proofs.InRange.{in_range_in_three}
use Rattle.third_law.proofs.Lengths.{starts_are}
use Rattle.third_law.proofs.Going.{WordAt, Stands, address}
use Rattle.third_law.proofs.Leading.{Runnable}
use Rattle.third_law.proofs.Flows.{get_flat, next_flat}
use Rattle.third_law.proofs.Relation.{Laid, sum_cons}

none_is : {A : Type 0} (x : A) → ◌≡◌ {A = Option A} None (Some x) → ⊥
none_is x e = cc

some_same : {A : Type 0} (x y : A) → ◌≡◌ {A = Option A} (Some x) (Some y) → x ≡ y
some_same {A} x y e = ap (λ (o : Option A). elim o as (λ z. A) [ Some v ↦ v | None ↦ x ]) e

-- ---- the list of blocks

function_at : (at : ℕ → ℕ) (mid : Mid) (n first b : ℕ) (f : MidFunction) (q : Places) (bs : List MidBlock) (k : MidBlock) → slice_get bs b ≡ Some k → slice_get (function_code at mid n first f q bs) b ≡ Some (block_code at mid n (first + b) f q k)
function_at at mid n first b f q [] k e = absurd (none_is k e)
function_at at mid n first zero f q (x ∷ bs) k e =
    ap (λ (z : MidBlock). Some (block_code at mid n first f q z)) (some_same x k e) ∙ ap (λ (m : ℕ). Some (block_code at mid n m f q k)) (sym (Rattle.std.proofs.Common.add-zero first))
function_at at mid n first (suc b) f q (x ∷ bs) k e = function_at at mid n (first + 1) b f q bs k e ∙ ap (λ (m : ℕ). Some (block_code at mid n m f q k)) (shift first b)
  where
    shift : (m b : ℕ) → m + 1 + b ≡ m + suc b
    shift m b = omega arith

function_long : (at : ℕ → ℕ) (mid : Mid) (n first : ℕ) (f : MidFunction) (q : Places) (bs : List MidBlock) → length (function_code at mid n first f q bs) ≡ length bs
function_long at mid n first f q [] = refl
function_long at mid n first f q (x ∷ bs) = ap (λ (m : ℕ). suc m) (function_long at mid n (first + 1) f q bs)

get_front : {A : Type 0} (xs ys : List A) (n : ℕ) (y : A) → slice_get xs n ≡ Some y → slice_get (xs ++ ys) n ≡ Some y
get_front [] ys n y e = absurd (none_is y e)
get_front (x ∷ xs) ys zero y e = e
get_front (x ∷ xs) ys (suc n) y e = get_front xs ys n y e

get_behind : {A : Type 0} (xs ys : List A) (n : ℕ) → slice_get (xs ++ ys) (length xs + n) ≡ slice_get ys n
get_behind [] ys n = ap (λ (k : ℕ). slice_get ys k) (Rattle.std.proofs.Common.zero-add n)
get_behind (x ∷ xs) ys n = ap (λ (k : ℕ). slice_get (x ∷ (xs ++ ys)) k) (Rattle.std.proofs.Common.suc-add (length xs) n) ∙ get_behind xs ys n

functions_at : (at : ℕ → ℕ) (mid : Mid) (m n b : ℕ) (fs : List MidFunction) (ps : List Places) (f : MidFunction) (q : Places) (k : MidBlock) → slice_get fs n ≡ Some f → slice_get ps n ≡ Some q → slice_get f.blocks b ≡ Some k →
    slice_get (functions_code at mid m fs ps) (sum (map (λ (g : MidFunction). length g.blocks) (take n fs)) + b) ≡ Some (block_code at mid (m + n) b f q k)
functions_at at mid m n b [] ps f q k e g h = absurd (none_is f e)
functions_at at mid m n b (x ∷ fs) [] f q k e g h = absurd (none_is q g)
functions_at at mid m zero b (x ∷ fs) (y ∷ ps) f q k e g h =
    ap (λ (i : ℕ). slice_get (function_code at mid m 0 x y x.blocks ++ functions_code at mid (m + 1) fs ps) i) (Rattle.std.proofs.Common.zero-add b) ∙
    get_front (function_code at mid m 0 x y x.blocks) (functions_code at mid (m + 1) fs ps) b (block_code at mid (m + zero) b f q k) (here x y (some_same x f e) (some_same y q g))
  where
    here : (x : MidFunction) (y : Places) → x ≡ f → y ≡ q → slice_get (function_code at mid m 0 x y x.blocks) b ≡ Some (block_code at mid (m + zero) b f q k)
    here x y ex ey = subst (λ (z : MidFunction). slice_get (function_code at mid m 0 z y z.blocks) b ≡ Some (block_code at mid (m + zero) b f q k)) (sym ex)
        (subst (λ (z : Places). slice_get (function_code at mid m 0 f z f.blocks) b ≡ Some (block_code at mid (m + zero) b f q k)) (sym ey)
        (function_at at mid m 0 b f q f.blocks k h ∙ (ap (λ (i : ℕ). Some (block_code at mid m i f q k)) (Rattle.std.proofs.Common.zero-add b) ∙ ap (λ (i : ℕ). Some (block_code at mid i b f q k)) (sym (Rattle.std.proofs.Common.add-zero m)))))
functions_at at mid m (suc n) b (x ∷ fs) (y ∷ ps) f q k e g h =
    ap (λ (i : ℕ). slice_get (function_code at mid m 0 x y x.blocks ++ functions_code at mid (m + 1) fs ps) i) (number (length x.blocks) (sum (map (λ (g : MidFunction). length g.blocks) (take n fs))) b (length (function_code at mid m 0 x y x.blocks)) (sum_cons (length x.blocks) (map (λ (g : MidFunction). length g.blocks) (take n fs))) (function_long at mid m 0 x y x.blocks)) ∙
    (get_behind (function_code at mid m 0 x y x.blocks) (functions_code at mid (m + 1) fs ps) (sum (map (λ (g : MidFunction). length g.blocks) (take n fs)) + b) ∙
    (functions_at at mid (m + 1) n b fs ps f q k e g h ∙ ap (λ (i : ℕ). Some (block_code at mid i b f q k)) (shift m n)))
  where
    number : (l s b c : ℕ) → {t : ℕ} → t ≡ l + s → c ≡ l → t + b ≡ c + (s + b)
    number l s b c {t} u v = omega arith

    shift : (m n : ℕ) → m + 1 + n ≡ m + suc n
    shift m n = omega arith

-- the block of a function, in the list of all
pub block_there : (at : ℕ → ℕ) (mid : Mid) (places : List Places) (n b : ℕ) (f : MidFunction) (q : Places) (k : MidBlock) → slice_get mid.functions n ≡ Some f → slice_get places n ≡ Some q → slice_get f.blocks b ≡ Some k →
    slice_get (code_at at mid places) (first_block mid n + b) ≡ Some (block_code at mid n b f q k)
block_there at mid places n b f q k e g h =
    ap (λ (i : ℕ). slice_get (code_at at mid places) i) (two_on (sum (map (λ (g : MidFunction). length g.blocks) (take n mid.functions))) b) ∙
    (functions_at at mid 0 n b mid.functions places f q k e g h ∙ ap (λ (i : ℕ). Some (block_code at mid i b f q k)) (Rattle.std.proofs.Common.zero-add n))
  where
    two_on : (s b : ℕ) → 2 + s + b ≡ suc (suc (s + b))
    two_on s b = omega arith

-- ---- where the blocks begin

-- The number of the first word of a block.
abbrev pub first_word : List (List Instr) → ℕ → ℕ
first_word code b = length (flat_map (λ c. c) (take b code))

start_is : (a : ℕ) (code : List (List Instr)) (b : ℕ) (c : List Instr) → slice_get code b ≡ Some c → slice_index_or (starts_from a code) b 0 ≡ a + 4 * first_word code b
start_is a [] b c e = absurd (none_is c e)
start_is a (x ∷ code) zero c e = none_more a
  where
    none_more : (a : ℕ) → a ≡ a + 4 * 0
    none_more a = omega arith
start_is a (x ∷ code) (suc b) c e = start_is (a + 4 * length x) code b c e ∙ joined a (length x) (first_word code b) (length-append x (flat_map (λ c. c) (take b code)))
  where
    joined : (a n m : ℕ) → {t : ℕ} → t ≡ n + m → a + 4 * n + 4 * m ≡ a + 4 * t
    joined a n m {t} e = omega arith

-- ---- words of the text

total_is : (code : List (List Instr)) → length (flat_map (λ c. c) code) ≡ sum (map length code)
total_is [] = refl
total_is (c ∷ code) = length-append c (flat_map (λ c. c) code) ∙ (ap (λ (n : ℕ). length c + n) (total_is code) ∙ sym (sum_cons (length c) (map length code)))

map_long : (xs : List Instr) → length (map encoding xs) ≡ length xs
map_long [] = refl
map_long (x ∷ xs) = ap (λ (n : ℕ). suc n) (map_long xs)

get_map : (xs : List Instr) (n : ℕ) (i : Instr) → slice_get xs n ≡ Some i → slice_get (map encoding xs) n ≡ Some (encoding i)
get_map [] n i e = absurd (none_is i e)
get_map (x ∷ xs) zero i e = ap (λ (y : Instr). Some (encoding y)) (some_same x i e)
get_map (x ∷ xs) (suc n) i e = get_map xs n i e

-- a list whose members stand one behind the other
stands_by : (text : List ℕ) (k : ℕ) (xs : List Instr) → ((j : ℕ) (i : Instr) → slice_get xs j ≡ Some i → WordAt text (k + j) i) → Stands text k xs
stands_by text k [] h = tt
stands_by text k (x ∷ xs) h = (
  subst (λ (n : ℕ). WordAt text n x) (Rattle.std.proofs.Common.add-zero k) (h 0 x refl),
  stands_by text (suc k) xs (λ j i e. subst (λ (n : ℕ). WordAt text n i) (up k j) (h (suc j) i e)),
)
  where
    up : (k j : ℕ) → k + suc j ≡ suc k + j
    up k j = omega arith

all_at : {A : Type 0} (P : A → Type 0) (xs : List A) (n : ℕ) (x : A) → All P xs → slice_get xs n ≡ Some x → P x
all_at P xs n x h e = subst P (get_or_from_slice_get xs n x x e) (h n x (slice_get_within xs n x e))

block_stands : (code : List (List Instr)) (b : ℕ) (c : List Instr) → DecodesEncoded → All (All IsInRange) code → slice_get code b ≡ Some c → Stands (map encoding (flat_map (λ c. c) code)) (first_word code b) c
block_stands code b c decodes ranged e = stands_by (map encoding (flat_map (λ c. c) code)) (first_word code b) c (λ j i g. (
  encoding i,
  get_map (flat_map (λ c. c) code) (first_word code b + j) i (get_flat (λ (c : List Instr). c) code b j c i e g),
  decodes i (all_at IsInRange c j i (all_at (All IsInRange) code b c ranged e) g),
))

-- ---- the addresses are low

starts_low : (a : ℕ) (code : List (List Instr)) (b : ℕ) → slice_index_or (starts_from a code) b 0 ≤ a + 4 * sum (map length code)
starts_low a [] b = Rattle.std.proofs.Common.zero-le
starts_low a (c ∷ code) zero = more a (sum (map length (c ∷ code)))
  where
    more : (a n : ℕ) → a ≤ a + 4 * n
    more a n = omega arith
starts_low a (c ∷ code) (suc b) = le_trans (starts_low (a + 4 * length c) code b) (joined a (length c) (sum (map length code)) (sum_cons (length c) (map length code)))
  where
    joined : (a n m : ℕ) → {t : ℕ} → t ≡ n + m → a + 4 * n + 4 * m ≤ a + 4 * t
    joined a n m {t} e = omega arith

low_enough : (x a n w : ℕ) → x ≤ a + 4 * n → a ≡ 0x00400000 → n ≤ 4 * w → w ≤ 15728640 → x < 2 ^ 28
low_enough x a n w h e k l = omega arith

few_enough : (n m w : ℕ) → n ≡ m → m ≤ 4 * w → w ≤ 15728640 → n ≤ 66060288
few_enough n m w e h l = omega arith

-- ---- the whole text

pub ranged : (mid : Mid) (places : List Places) → Triples mid places → All (All IsInRange) (third_code mid places)
ranged mid places t = in_range_in_three mid places (looked_up (starts mid places)) t
    (λ b. low_enough (looked_up (starts mid places) b) 0x00400000 (sum (map length (third_code mid places))) (words mid)
    (subst (λ (l : List ℕ). slice_index_or l b 0 ≤ 0x00400000 + 4 * sum (map length (third_code mid places))) (sym (starts_are mid places)) (starts_low 0x00400000 (third_code mid places) b))
    refl (few_in_three mid places (looked_up (starts mid places))) t.few)

pub text_long : (mid : Mid) (places : List Places) → length (third_text mid places) ≡ sum (map length (third_code mid places))
text_long mid places = map_long (flat_map (λ k. k) (third_code mid places)) ∙ total_is (third_code mid places)

pub text_fits : (mid : Mid) (places : List Places) → Triples mid places → IsText (third_text mid places)
text_fits mid places t = few_enough (length (third_text mid places)) (sum (map length (third_code mid places))) (words mid) (text_long mid places) (few_in_three mid places (looked_up (starts mid places))) t.few

next_word : (code : List (List Instr)) (b : ℕ) (c : List Instr) → slice_get code b ≡ Some c → first_word code b + length c ≡ first_word code (suc b)
next_word code b c e = sym (next_flat (λ (c : List Instr). c) code b c e)

address_at : (mid : Mid) (places : List Places) (b : ℕ) (c : List Instr) → slice_get (third_code mid places) b ≡ Some c → looked_up (starts mid places) b ≡ address (first_word (third_code mid places) b)
address_at mid places b c e = ap (λ (l : List ℕ). slice_index_or l b 0) (starts_are mid places) ∙ start_is 0x00400000 (third_code mid places) b c e

-- Each block stands where the jumps go.
pub laid : (mid : Mid) (places : List Places) → DecodesEncoded → (t : Triples mid places) → (p : Runnable) → p.text ≡ third_text mid places → Laid mid places p
laid mid places decodes t p same =
    let at : ℕ → ℕ = looked_up (starts mid places) in
    let code : List (List Instr) = third_code mid places in
    let there : (b : ℕ) (c : List Instr) → slice_get code b ≡ Some c → Stands p.text (first_word code b) c = λ b c e. subst (λ (l : List ℕ). Stands l (first_word code b) c) (sym same) (block_stands code b c decodes (ranged mid places t) e) in
    record {
      at = looked_up (starts mid places);
      place = first_word (third_code mid places);
      begins = refl;
      first = there 0 (first_code at mid) refl;
      behind_first = next_word code 0 (first_code at mid) refl;
      at_exit = address_at mid places 1 exit_code refl;
      exit = there 1 exit_code refl;
      at_block = λ n b f k e h. (let q : (at : Places) × (slice_get places n ≡ Some at) × Rattle.third_law.specs.Law.FitsThree f at = t.fit n f e in address_at mid places (first_block mid n + b) (block_code at mid n b f q.0 k) (block_there at mid places n b f q.0 k e q.1 h));
      block = λ n b f q k e g h. there (first_block mid n + b) (block_code at mid n b f q k) (block_there at mid places n b f q k e g h);
      behind = λ n b f q k e g h. next_word code (first_block mid n + b) (block_code at mid n b f q k) (block_there at mid places n b f q k e g h) ∙ ap (λ (i : ℕ). first_word code i) (on (first_block mid n) b);
    }
  where
    on : (n b : ℕ) → suc (n + b) ≡ n + (b + 1)
    on n b = omega arith
