-- The words, the branches and the nops of a doubled program.
use Rattle.std.proofs.Common.{◌≡◌, ◌≢◌, ◌≤◌, ◌<◌, ℕ, zero, suc, ◌+◌, ◌-◌, ◌*◌, arith, ap, refl, sym, ◌∙◌, subst, List, [], ◌∷◌, ◌++◌, Bool, true, false, cond, inl, inr, length, map, take, flat_map, sum, max, le_refl, le_trans, zero-le, zero-add, ⊎_elim}
use Rattle.std.specs.Prelude.{Option, Some, None, ◌⊎◌, if◌then◌else◌, slice_get, sum_by, count_by, All, not, ◌==◌}
use Rattle.std.specs.List.{list_any}
use Rattle.std.proofs.lemmas.List.Sums.{sum_by-cons}
use Rattle.hard_items.specs.declared.code.Item.{Item}
use Rattle.hard_items.specs.declared.code.HardBlock.{HardBlock}
use Rattle.hard_items.specs.declared.code.HardProgram.{HardProgram}
use Rattle.hard_items.specs.Run.{items_of, block_items}
use Rattle.hard_items.specs.Forms.{Each, Close}
use Rattle.hard_items.specs.Streams.{is_stream, touched}
use Rattle.hard_items.specs.Counts.{free_nops, checks_there, checks_wanted, nops_for, is_branch, branches, block_room, room}
use Rattle.hard_items.specs.Counted.{of_streams, HasNoFreeNop, AreBusy}
use Rattle.mid_blocks.specs.declared.code.MidEnd.{MidEnd}
use Rattle.mid_blocks.specs.declared.code.MidEnd.TheVariants as line
use Rattle.mid_blocks.specs.declared.code.MidBlock.{MidBlock}
use Rattle.mid_blocks.specs.declared.code.MidFunction.{MidFunction}
use Rattle.mid_blocks.specs.declared.code.Mid.{Mid}
use Rattle.mid_blocks.specs.declared.places.Places.{Places}
use Rattle.mid_blocks.specs.Valid.{is_return, ValidFunction}
use Rattle.mid_blocks.specs.Size.{step_words, end_words, block_words, function_words, words, block_count, branch_count}
use Rattle.mid_blocks.specs.Size as size
use Rattle.double_law.specs.Program.{first_block}
use Rattle.double_law.specs.Law.{Doubles}
use Rattle.hard_words.proofs.Sums.{sum_cons}
use Rattle.double_law.proofs.Formed.{close_of}
use Rattle.double_law.specs.Laws.{CountsFit}
use Rattle.double_law.proofs.Numbers.{none_is, some_same, get_left, get_right, before}
use Rattle.double_law.proofs.Emits.{weighed}
use Rattle.double_law.proofs.Closed.{EmitsBlock, Busy, close_branches, close_words}
use Rattle.double_law.proofs.Wholes.{words_of, emits_of, whole_words, start_words, taken_words}
use Rattle.double_law.proofs.BlockKinds.{Kind, is_first, is_exit, is_inner, BlockIs, block_is}

-- ---- sums over the blocks of a program

-- a sum by the items of the blocks is at most that of a list of bounds
sum_below : (g : List Item → ℕ) (bs : List HardBlock) (hs : List ℕ) → length bs ≡ length hs → ((x : ℕ) → x < length bs → (h : ℕ) → slice_get hs x ≡ Some h → g (block_items (slice_get bs x)) ≤ h) → sum_by (λ b. g b.items) bs ≤ sum hs
sum_below g [] hs e k = zero-le
sum_below g (b ∷ bs) [] e k = absurd (no e)
  where
    no : {n : ℕ} → suc n ≡ 0 → ⊥
    no e = cc
sum_below g (b ∷ bs) (h ∷ hs) e k = more (g b.items) (sum_by (λ b. g b.items) bs) (sum_by (λ b. g b.items) (b ∷ bs)) h (sum hs) (sum (h ∷ hs)) (sum_by-cons (λ b. g b.items) b bs) (sum_cons h hs)
    (k 0 (Rattle.std.proofs.Common.zero-lt-suc (length bs)) h refl) (sum_below g bs hs (same e) (λ x l m q. k (suc x) (Rattle.std.proofs.Common.suc-le-suc l) m q))
  where
    same : {n m : ℕ} → suc n ≡ suc m → n ≡ m
    same e = cc

    more : (a s t h r u : ℕ) → t ≡ a + s → u ≡ h + r → a ≤ h → s ≤ r → t ≤ u
    more a s t h r u e f k l = omega arith

sum_equal : (g : List Item → ℕ) (bs : List HardBlock) (hs : List ℕ) → length bs ≡ length hs → ((x : ℕ) → x < length bs → (h : ℕ) → slice_get hs x ≡ Some h → g (block_items (slice_get bs x)) ≡ h) → sum_by (λ b. g b.items) bs ≡ sum hs
sum_equal g [] [] e k = refl
sum_equal g [] (h ∷ hs) e k = absurd (no e)
  where
    no : {n : ℕ} → 0 ≡ suc n → ⊥
    no e = cc
sum_equal g (b ∷ bs) [] e k = absurd (no e)
  where
    no : {n : ℕ} → suc n ≡ 0 → ⊥
    no e = cc
sum_equal g (b ∷ bs) (h ∷ hs) e k = more (g b.items) (sum_by (λ b. g b.items) bs) (sum_by (λ b. g b.items) (b ∷ bs)) h (sum hs) (sum (h ∷ hs)) (sum_by-cons (λ b. g b.items) b bs) (sum_cons h hs)
    (k 0 (Rattle.std.proofs.Common.zero-lt-suc (length bs)) h refl) (sum_equal g bs hs (same e) (λ x l m q. k (suc x) (Rattle.std.proofs.Common.suc-le-suc l) m q))
  where
    same : {n m : ℕ} → suc n ≡ suc m → n ≡ m
    same e = cc

    more : (a s t h r u : ℕ) → t ≡ a + s → u ≡ h + r → a ≡ h → s ≡ r → t ≡ u
    more a s t h r u e f k l = omega arith

sum_append : (xs ys : List ℕ) → sum (xs ++ ys) ≡ sum xs + sum ys
sum_append [] ys = sym (zero-add (sum ys))
sum_append (x ∷ xs) ys = more x (sum (xs ++ ys)) (sum (x ∷ (xs ++ ys))) (sum xs) (sum (x ∷ xs)) (sum ys) (sum_cons x (xs ++ ys)) (sum_cons x xs) (sum_append xs ys)
  where
    more : (x a t s u y : ℕ) → t ≡ x + a → u ≡ x + s → a ≡ s + y → t ≡ u + y
    more x a t s u y e f g = omega arith

length_append : (xs ys : List ℕ) → length (xs ++ ys) ≡ length xs + length ys
length_append xs ys = Rattle.std.proofs.Common.length-append xs ys

-- ---- lists with a number for each block of each function

-- The numbers of the blocks of a function, from the one of this number on.
abbrev numbers : (MidFunction → ℕ → MidBlock → ℕ) → MidFunction → ℕ → List MidBlock → List ℕ
numbers q f b [] = []
numbers q f b (x ∷ xs) = q f b x ∷ numbers q f (suc b) xs

abbrev all_numbers : (MidFunction → ℕ → MidBlock → ℕ) → List MidFunction → List ℕ
all_numbers q [] = []
all_numbers q (f ∷ fs) = numbers q f 0 f.blocks ++ all_numbers q fs

numbers_length : (q : MidFunction → ℕ → MidBlock → ℕ) (f : MidFunction) (b : ℕ) (xs : List MidBlock) → length (numbers q f b xs) ≡ length xs
numbers_length q f b [] = refl
numbers_length q f b (x ∷ xs) = ap (λ (n : ℕ). suc n) (numbers_length q f (suc b) xs)

all_length : (q : MidFunction → ℕ → MidBlock → ℕ) (fs : List MidFunction) → length (all_numbers q fs) ≡ sum (map (λ (f : MidFunction). length f.blocks) fs)
all_length q [] = refl
all_length q (f ∷ fs) = length_append (numbers q f 0 f.blocks) (all_numbers q fs) ∙ (more (length (numbers q f 0 f.blocks)) (length (all_numbers q fs)) (length f.blocks) (sum (map (λ (f : MidFunction). length f.blocks) fs)) (numbers_length q f 0 f.blocks) (all_length q fs) ∙ sym (sum_cons (length f.blocks) (map (λ (f : MidFunction). length f.blocks) fs)))
  where
    more : (a b c d : ℕ) → a ≡ c → b ≡ d → a + b ≡ c + d
    more a b c d e f = omega arith

number_at : (q : MidFunction → ℕ → MidBlock → ℕ) (f : MidFunction) (b k : ℕ) (xs : List MidBlock) (x : MidBlock) → slice_get xs k ≡ Some x → slice_get (numbers q f b xs) k ≡ Some (q f (b + k) x)
number_at q f b k [] x e = absurd (none_is x e)
number_at q f b zero (y ∷ ys) x e = ap (λ (z : MidBlock). Some (q f b z)) (some_same y x e) ∙ ap (λ (n : ℕ). Some (q f n x)) (sym (Rattle.std.proofs.Common.add-zero b))
number_at q f b (suc k) (y ∷ ys) x e = number_at q f (suc b) k ys x e ∙ ap (λ (n : ℕ). Some (q f n x)) (shift b k)
  where
    shift : (b k : ℕ) → suc b + k ≡ b + suc k
    shift b k = omega arith

all_at_number : (q : MidFunction → ℕ → MidBlock → ℕ) (fs : List MidFunction) (n b : ℕ) (f : MidFunction) (x : MidBlock) → slice_get fs n ≡ Some f → slice_get f.blocks b ≡ Some x → slice_get (all_numbers q fs) (before fs n + b) ≡ Some (q f b x)
all_at_number q [] n b f x e g = absurd (none_is f e)
all_at_number q (h ∷ fs) zero b f x e g =
    ap (λ (m : ℕ). slice_get (all_numbers q (h ∷ fs)) m) (zero-add b) ∙ (get_left (numbers q h 0 h.blocks) (all_numbers q fs) b (q h (0 + b) x) (number_at q h 0 b h.blocks x (ap (λ (z : MidFunction). slice_get z.blocks b) (some_same h f e) ∙ g)) ∙
    (ap (λ (m : ℕ). Some (q h m x)) (zero-add b) ∙ ap (λ (z : MidFunction). Some (q z b x)) (some_same h f e)))
all_at_number q (h ∷ fs) (suc n) b f x e g =
    ap (λ (m : ℕ). slice_get (all_numbers q (h ∷ fs)) m) (joined (length h.blocks) (length (numbers q h 0 h.blocks)) (before fs n) b (before (h ∷ fs) (suc n)) (numbers_length q h 0 h.blocks) (sum_cons (length h.blocks) (map (λ (g : MidFunction). length g.blocks) (take n fs)))) ∙
    (get_right (numbers q h 0 h.blocks) (all_numbers q fs) (before fs n + b) ∙ all_at_number q fs n b f x e g)
  where
    joined : (k l s b t : ℕ) → l ≡ k → t ≡ k + s → t + b ≡ l + (s + b)
    joined k l s b t e g = omega arith

-- ---- the sums of whole functions

abbrev room_of : MidFunction → ℕ → MidBlock → ℕ
room_of f b x = whole_words f b x + 7

abbrev extra : MidEnd → ℕ
extra e = if is_return e then 11 else 0

close_fits : (e : MidEnd) → close_words e + 7 + taken_words e ≤ end_words e + extra e
close_fits (line.Jump to) = le_refl 9
close_fits (line.Branch v w to) = le_refl 25
close_fits (line.Call g args None) = fits (length args)
  where
    fits : (n : ℕ) → 12 * n + 4 + 7 + 0 ≤ 11 + 12 * n + 0 + 0
    fits n = omega arith
close_fits (line.Call g args (Some v)) = fits (length args)
  where
    fits : (n : ℕ) → 12 * n + 4 + 7 + 8 ≤ 11 + 12 * n + 8 + 0
    fits n = omega arith
close_fits (line.Return None) = le_refl 20
close_fits (line.Return (Some v)) = le_refl 22

-- The words of some blocks, with what a return adds.
abbrev full : MidBlock → ℕ
full x = block_words x + extra x.end

numbers_fit : (f : MidFunction) (b : ℕ) (xs : List MidBlock) → ((k : ℕ) (x : MidBlock) → slice_get xs k ≡ Some x → slice_get f.blocks (b + k) ≡ Some x) → sum (numbers room_of f b xs) ≤ start_words f b + sum (map full xs)
numbers_fit f b [] h = zero-le
numbers_fit f b (x ∷ xs) h =
    more (sum (numbers room_of f b (x ∷ xs))) (room_of f b x) (sum (numbers room_of f (suc b) xs)) (start_words f b) (sum (map step_words x.steps)) (close_words x.end) (taken_words x.end) (end_words x.end) (extra x.end) (start_words f (suc b)) (sum (map full xs)) (sum (map full (x ∷ xs)))
    (sum_cons (room_of f b x) (numbers room_of f (suc b) xs)) refl (sum_cons (full x) (map full xs)) refl (close_fits x.end)
    (ap (λ (o : Option MidBlock). Rattle.double_law.proofs.Wholes.before_words o) (ap (λ (n : ℕ). slice_get f.blocks n) (sym (Rattle.std.proofs.Common.add-zero b)) ∙ h 0 x refl))
    (numbers_fit f (suc b) xs (λ k y e. ap (λ (n : ℕ). slice_get f.blocks n) (shift b k) ∙ h (suc k) y e))
  where
    shift : (b k : ℕ) → suc b + k ≡ b + suc k
    shift b k = omega arith

    more : (t r n s p c k e x u m a : ℕ) → t ≡ r + n → r ≡ s + (p + c) + 7 → a ≡ p + e + x + m → m ≡ m → c + 7 + k ≤ e + x → u ≡ k → n ≤ u + m → t ≤ s + a
    more t r n s p c k e x u m a h i j z l v w = omega arith

-- at most one block ends by a return
extra_fits : (xs : List MidBlock) → sum (map full xs) ≡ sum (map block_words xs) + 11 * count_by (λ b. is_return b.end) xs
extra_fits [] = refl
extra_fits (x ∷ xs) = more (block_words x) (extra x.end) (sum (map full xs)) (sum (map full (x ∷ xs))) (sum (map block_words xs)) (sum (map block_words (x ∷ xs))) (count_by (λ b. is_return b.end) xs) (cond (is_return x.end) 1 0) (count_by (λ b. is_return b.end) (x ∷ xs))
    (sum_cons (full x) (map full xs)) (sum_cons (block_words x) (map block_words xs)) (sum_by-cons (λ (b : MidBlock). cond (is_return b.end) 1 0) x xs) (eleven (is_return x.end)) (extra_fits xs)
  where
    eleven : (z : Bool) → (if z then 11 else 0) ≡ 11 * cond z 1 0
    eleven true = refl
    eleven false = refl

    more : (w e s t b c n o m : ℕ) → t ≡ w + e + s → c ≡ w + b → m ≡ o + n → e ≡ 11 * o → s ≡ b + 11 * n → t ≡ c + 11 * m
    more w e s t b c n o m h i j k l = omega arith

function_fits : (f : MidFunction) → ValidFunction f → sum (numbers room_of f 0 f.blocks) ≤ function_words f
function_fits f v = more (sum (numbers room_of f 0 f.blocks)) f.params (sum (map full f.blocks)) (sum (map block_words f.blocks)) (count_by (λ b. is_return b.end) f.blocks)
    (numbers_fit f 0 f.blocks (λ k x e. ap (λ (n : ℕ). slice_get f.blocks n) (zero-add k) ∙ e)) (extra_fits f.blocks) v.one_return
  where
    more : (t p s b n : ℕ) → t ≤ 2 + (8 + 4 * p) + s → s ≡ b + 11 * n → n ≤ 1 → t ≤ 10 + 4 * p + 11 + b
    more t p s b n h e l = omega arith

all_fit : (fs : List MidFunction) → All ValidFunction fs → sum (all_numbers room_of fs) ≤ sum (map function_words fs)
all_fit [] v = zero-le
all_fit (f ∷ fs) v = more (sum (numbers room_of f 0 f.blocks)) (sum (all_numbers room_of fs)) (sum (all_numbers room_of (f ∷ fs))) (function_words f) (sum (map function_words fs)) (sum (map function_words (f ∷ fs)))
    (sum_append (numbers room_of f 0 f.blocks) (all_numbers room_of fs)) (sum_cons (function_words f) (map function_words fs)) (function_fits f (v 0 f (Rattle.std.proofs.Common.zero-lt-suc (length fs)))) (all_fit fs (λ k d l. v (suc k) d (Rattle.std.proofs.Common.suc-le-suc l)))
  where
    more : (a b t w x u : ℕ) → t ≡ a + b → u ≡ w + x → a ≤ w → b ≤ x → t ≤ u
    more a b t w x u e f g h = omega arith

abbrev branch_of : MidFunction → ℕ → MidBlock → ℕ
branch_of f b x = size.is_branch x.end

branch_sums : (f : MidFunction) (b : ℕ) (xs : List MidBlock) → numbers branch_of f b xs ≡ map (λ (x : MidBlock). size.is_branch x.end) xs
branch_sums f b [] = refl
branch_sums f b (x ∷ xs) = ap (λ (l : List ℕ). size.is_branch x.end ∷ l) (branch_sums f (suc b) xs)

branch_total : (fs : List MidFunction) → sum (all_numbers branch_of fs) ≡ sum (map (λ (f : MidFunction). sum (map (λ (b : MidBlock). size.is_branch b.end) f.blocks)) fs)
branch_total [] = refl
branch_total (f ∷ fs) = sum_append (numbers branch_of f 0 f.blocks) (all_numbers branch_of fs) ∙ (more (sum (numbers branch_of f 0 f.blocks)) (sum (all_numbers branch_of fs)) (sum (map (λ (b : MidBlock). size.is_branch b.end) f.blocks)) (sum (map (λ (f : MidFunction). sum (map (λ (b : MidBlock). size.is_branch b.end) f.blocks)) fs)) (ap (λ (l : List ℕ). sum l) (branch_sums f 0 f.blocks)) (branch_total fs) ∙
    sym (sum_cons (sum (map (λ (b : MidBlock). size.is_branch b.end) f.blocks)) (map (λ (f : MidFunction). sum (map (λ (b : MidBlock). size.is_branch b.end) f.blocks)) fs)))
  where
    more : (a b c d : ℕ) → a ≡ c → b ≡ d → a + b ≡ c + d
    more a b c d e f = omega arith

close_branch : (first : ℕ) (at : Places) (e : MidEnd) → close_branches (close_of first at e) ≡ size.is_branch e
close_branch first at (line.Jump to) = refl
close_branch first at (line.Branch v w to) = refl
close_branch first at (line.Call g args result) = refl
close_branch first at (line.Return from) = refl

-- ---- one block

weighed_is : (xs : List Item) → weighed xs ≡ length xs + sum_by checks_wanted xs + sum_by nops_for xs + 9 * count_by is_branch xs
weighed_is [] = refl
weighed_is (x ∷ xs) = more (checks_wanted x) (nops_for x) (cond (is_branch x) 1 0) (weighed xs) (length xs) (sum_by checks_wanted xs) (sum_by nops_for xs) (count_by is_branch xs) (sum_by checks_wanted (x ∷ xs)) (sum_by nops_for (x ∷ xs)) (count_by is_branch (x ∷ xs))
    (weighed_is xs) (sum_by-cons checks_wanted x xs) (sum_by-cons nops_for x xs) (sum_by-cons (λ (i : Item). cond (is_branch i) 1 0) x xs)
  where
    more : (c n b w l d m k d' m' k' : ℕ) → w ≡ l + d + m + 9 * k → d' ≡ c + d → m' ≡ n + m → k' ≡ b + k → 1 + c + n + 9 * b + w ≡ suc l + d' + m' + 9 * k'
    more c n b w l d m k d' m' k' e f g h = omega arith

-- What a block comes to in the room of a program.
abbrev share : List Item → ℕ
share xs = (length xs - free_nops xs - checks_there xs) + sum_by checks_wanted xs + 7 + 9 * branches xs + (free_nops xs + sum_by nops_for xs)

share_fits : (xs : List Item) (n : ℕ) → free_nops xs ≡ 0 → weighed xs ≤ n → share xs ≤ n + 7
share_fits xs n e h = more (length xs) (free_nops xs) (checks_there xs) (sum_by checks_wanted xs) (branches xs) (sum_by nops_for xs) (weighed xs) e (weighed_is xs) h
  where
    more : (l f t c b m w : ℕ) → f ≡ 0 → w ≡ l + c + m + 9 * b → w ≤ n → l - f - t + c + 7 + 9 * b + (f + m) ≤ n + 7
    more l f t c b m w e g h = omega arith

shares : (bs : List HardBlock) → sum_by block_room bs + (sum_by (λ b. free_nops b.items) bs + sum_by (λ b. sum_by nops_for b.items) bs) ≡ sum_by (λ b. share b.items) bs
shares [] = refl
shares (b ∷ bs) = more (block_room b) (free_nops b.items) (sum_by nops_for b.items) (sum_by block_room bs) (sum_by (λ b. free_nops b.items) bs) (sum_by (λ b. sum_by nops_for b.items) bs) (sum_by (λ b. share b.items) bs)
    (sum_by block_room (b ∷ bs)) (sum_by (λ b. free_nops b.items) (b ∷ bs)) (sum_by (λ b. sum_by nops_for b.items) (b ∷ bs)) (sum_by (λ b. share b.items) (b ∷ bs))
    (sum_by-cons block_room b bs) (sum_by-cons (λ (b : HardBlock). free_nops b.items) b bs) (sum_by-cons (λ (b : HardBlock). sum_by nops_for b.items) b bs) (sum_by-cons (λ (b : HardBlock). share b.items) b bs) (shares bs)
  where
    more : (r f n R F N S R' F' N' S' : ℕ) → R' ≡ r + R → F' ≡ f + F → N' ≡ n + N → S' ≡ r + (f + n) + S → R + (F + N) ≡ S → R' + (F' + N') ≡ S'
    more r f n R F N S R' F' N' S' e g h i j = omega arith

no_streams : All (λ (i : Item). list_any (λ r. not (r == 0)) (touched i.instr) ≡ true) []
no_streams k d l = absurd (Rattle.std.proofs.Common.not-suc-le-zero l)

in_streams : (xs : List Item) → Each Busy xs → All (λ i. list_any (λ r. not (r == 0)) (touched i.instr) ≡ true) (of_streams xs)
in_streams [] h = no_streams
in_streams (x ∷ xs) h = (elim (is_stream x.class) as (λ z. is_stream x.class ≡ z → All (λ i. list_any (λ r. not (r == 0)) (touched i.instr) ≡ true) (cond z (x ∷ of_streams xs) (of_streams xs))) [
  | true ↦ λ e. all_cons x (of_streams xs) (h.0 e) (in_streams xs h.1)
  | false ↦ λ e. in_streams xs h.1
]) refl
  where
    all_cons : (y : Item) (ys : List Item) → list_any (λ r. not (r == 0)) (touched y.instr) ≡ true → All (λ (i : Item). list_any (λ r. not (r == 0)) (touched i.instr) ≡ true) ys → All (λ (i : Item). list_any (λ r. not (r == 0)) (touched i.instr) ≡ true) (y ∷ ys)
    all_cons y ys a b zero d l = a
    all_cons y ys a b (suc k) d l = b k d (Rattle.std.proofs.Common.le_of_suc-le-suc l)

in_blocks : (xs : List HardBlock) (b : ℕ) → (b < length xs) ⊎ (slice_get xs b ≡ None)
in_blocks [] b = inr refl
in_blocks (x ∷ xs) zero = inl (Rattle.std.proofs.Common.zero-lt-suc (length xs))
in_blocks (x ∷ xs) (suc b) = ⊎_elim (λ l. inl (Rattle.std.proofs.Common.suc-le-suc l)) (λ e. inr e) (in_blocks xs b)

everywhere : (P : List Item → Type 0) (p : HardProgram) → P [] → ((b : ℕ) → b < length p.blocks → P (items_of p b)) → (b : ℕ) → P (items_of p b)
everywhere P p none h b = ⊎_elim (λ l. h b l) (λ e. subst (λ (o : Option HardBlock). P (block_items o)) (sym e) none) (in_blocks p.blocks b)

-- ---- the program

module _ (mid : Mid) (places : List Places) (p : HardProgram) (d : Doubles mid places p) where
  emits : (b : ℕ) (l : b < length p.blocks) → EmitsBlock (words_of mid places b (block_is mid places p d b l).close (block_is mid places p d b l).kind) (block_is mid places p d b l).close (items_of p b)
  emits b l = emits_of mid places p d b (block_is mid places p d b l).close (block_is mid places p d b l).kind

  no_free : HasNoFreeNop p
  no_free = everywhere (λ xs. free_nops xs ≡ 0) p refl (λ b l. (emits b l).free)

  busy : AreBusy p
  busy = everywhere (λ xs. All (λ i. list_any (λ r. not (r == 0)) (touched i.instr) ≡ true) (of_streams xs)) p no_streams (λ b l. in_streams (items_of p b) (emits b l).busy)

  bounds : List ℕ
  bounds = 15 ∷ 12 ∷ all_numbers room_of mid.functions

  two_first : (x : ℕ) (s b : ℕ) → x ≡ 2 + s + b → (m : ℕ) × (x ≡ suc (suc m)) × (m ≡ s + b)
  two_first x s b e = (s + b, more x s b e, refl)
    where
      more : (x s b : ℕ) → x ≡ 2 + s + b → x ≡ suc (suc (s + b))
      more x s b e = omega arith

  share_at : (x : ℕ) → x < length p.blocks → (h : ℕ) → slice_get (15 ∷ 12 ∷ all_numbers room_of mid.functions) x ≡ Some h → share (items_of p x) ≤ h
  share_at x l h q = by (block_is mid places p d x l).kind (emits x l)
    where
      s : BlockIs mid places p x
      s = block_is mid places p d x l

      by : (k : Kind mid places x (block_is mid places p d x l).close) → EmitsBlock (words_of mid places x (block_is mid places p d x l).close k) (block_is mid places p d x l).close (items_of p x) → share (items_of p x) ≤ h
      by (is_first e c) b = subst (λ (n : ℕ). share (items_of p x) ≤ n) (some_same 15 h (sym (ap (λ (n : ℕ). slice_get (15 ∷ 12 ∷ all_numbers room_of mid.functions) n) e) ∙ q)) (share_fits (items_of p x) 8 b.free b.weight)
      by (is_exit e c) b = subst (λ (n : ℕ). share (items_of p x) ≤ n) (some_same 12 h (sym (ap (λ (n : ℕ). slice_get (15 ∷ 12 ∷ all_numbers room_of mid.functions) n) e) ∙ q)) (share_fits (items_of p x) 5 b.free b.weight)
      by (is_inner i c) b =
          let m : (m : ℕ) × (x ≡ suc (suc m)) × (m ≡ before mid.functions i.n + i.b) = two_first x (before mid.functions i.n) i.b i.number in
          let at : slice_get (15 ∷ 12 ∷ all_numbers room_of mid.functions) x ≡ Some (room_of i.f i.b i.block) = ap (λ (n : ℕ). slice_get (15 ∷ 12 ∷ all_numbers room_of mid.functions) n) m.1 ∙ (ap (λ (n : ℕ). slice_get (all_numbers room_of mid.functions) n) m.2 ∙ all_at_number room_of mid.functions i.n i.b i.f i.block i.is_function i.is_block) in
          subst (λ (n : ℕ). share (items_of p x) ≤ n) (some_same (room_of i.f i.b i.block) h (sym at ∙ q)) (share_fits (items_of p x) (whole_words i.f i.b i.block) b.free b.weight)

  branch_at : (x : ℕ) → x < length p.blocks → (h : ℕ) → slice_get (0 ∷ 0 ∷ all_numbers branch_of mid.functions) x ≡ Some h → branches (items_of p x) ≡ h
  branch_at x l h q = by (block_is mid places p d x l).kind (emits x l)
    where
      by : (k : Kind mid places x (block_is mid places p d x l).close) → EmitsBlock (words_of mid places x (block_is mid places p d x l).close k) (block_is mid places p d x l).close (items_of p x) → branches (items_of p x) ≡ h
      by (is_first e c) b = b.branch ∙ (ap (λ (z : Close). close_branches z) c ∙ some_same 0 h (sym (ap (λ (n : ℕ). slice_get (0 ∷ 0 ∷ all_numbers branch_of mid.functions) n) e) ∙ q))
      by (is_exit e c) b = b.branch ∙ (ap (λ (z : Close). close_branches z) c ∙ some_same 0 h (sym (ap (λ (n : ℕ). slice_get (0 ∷ 0 ∷ all_numbers branch_of mid.functions) n) e) ∙ q))
      by (is_inner i c) b =
          let m : (m : ℕ) × (x ≡ suc (suc m)) × (m ≡ before mid.functions i.n + i.b) = two_first x (before mid.functions i.n) i.b i.number in
          let at : slice_get (0 ∷ 0 ∷ all_numbers branch_of mid.functions) x ≡ Some (size.is_branch i.block.end) = ap (λ (n : ℕ). slice_get (0 ∷ 0 ∷ all_numbers branch_of mid.functions) n) m.1 ∙ (ap (λ (n : ℕ). slice_get (all_numbers branch_of mid.functions) n) m.2 ∙ all_at_number branch_of mid.functions i.n i.b i.f i.block i.is_function i.is_block) in
          b.branch ∙ (ap (λ (z : Close). close_branches z) c ∙ (close_branch (first_block mid i.n) i.at i.block.end ∙ some_same (size.is_branch i.block.end) h (sym at ∙ q)))

  max_fits : (a b : ℕ) → max a b ≤ a + b
  max_fits a b = omega arith

  room_fits : room p ≤ words mid
  room_fits = more (sum_by block_room p.blocks) (sum_by (λ b. free_nops b.items) p.blocks) (sum_by (λ b. sum_by nops_for b.items) p.blocks) (max (sum_by (λ b. free_nops b.items) p.blocks) (sum_by (λ b. sum_by nops_for b.items) p.blocks)) (sum_by (λ b. share b.items) p.blocks) (sum (15 ∷ 12 ∷ all_numbers room_of mid.functions)) (sum (12 ∷ all_numbers room_of mid.functions)) (sum (all_numbers room_of mid.functions)) (sum (map function_words mid.functions))
      (max_fits (sum_by (λ b. free_nops b.items) p.blocks) (sum_by (λ b. sum_by nops_for b.items) p.blocks)) (shares p.blocks) (sum_below share p.blocks (15 ∷ 12 ∷ all_numbers room_of mid.functions) (long room_of) share_at)
      (sum_cons 15 (12 ∷ all_numbers room_of mid.functions)) (sum_cons 12 (all_numbers room_of mid.functions)) (all_fit mid.functions d.valid.functions_valid)
    where
      long : (q : MidFunction → ℕ → MidBlock → ℕ) → length p.blocks ≡ suc (suc (length (all_numbers q mid.functions)))
      long q = two (length p.blocks) (sum (map (λ (f : MidFunction). length f.blocks) mid.functions)) (length (all_numbers q mid.functions)) d.emitted.blocks_long (all_length q mid.functions)
        where
          two : (t s n : ℕ) → t ≡ 2 + s → n ≡ s → t ≡ suc (suc n)
          two t s n e h = omega arith

      more : (R F N M S B C A W : ℕ) → M ≤ F + N → R + (F + N) ≡ S → S ≤ B → B ≡ 15 + C → C ≡ 12 + A → A ≤ W → R + M ≤ 27 + W
      more R F N M S B C A W h e k f g l = omega arith

  branches_are : sum_by (λ b. branches b.items) p.blocks ≡ branch_count mid
  branches_are = sum_equal branches p.blocks (0 ∷ 0 ∷ all_numbers branch_of mid.functions) (two (length p.blocks) (sum (map (λ (f : MidFunction). length f.blocks) mid.functions)) (length (all_numbers branch_of mid.functions)) d.emitted.blocks_long (all_length branch_of mid.functions)) branch_at ∙
      (sum_cons 0 (0 ∷ all_numbers branch_of mid.functions) ∙ (ap (λ (n : ℕ). 0 + n) (sum_cons 0 (all_numbers branch_of mid.functions)) ∙ (zeros (sum (all_numbers branch_of mid.functions)) ∙ branch_total mid.functions)))
    where
      two : (t s n : ℕ) → t ≡ 2 + s → n ≡ s → t ≡ suc (suc n)
      two t s n e h = omega arith

      zeros : (n : ℕ) → 0 + (0 + n) ≡ n
      zeros n = omega arith

  pub counts_fit : CountsFit mid p
  counts_fit = record {
    blocks = more (length p.blocks) (sum (map (λ (f : MidFunction). length f.blocks) mid.functions)) d.emitted.blocks_long;
    branches_same = branches_are;
    room_fits = room_fits;
    no_free_nop = no_free;
    busy = busy;
  }
    where
      more : (t s : ℕ) → t ≡ 2 + s → t ≡ s + 2
      more t s e = omega arith
