-- The split form puts blocks behind blocks, and makes the lists of successors of its blocks.
use Rattle.std.proofs.Common.{◌≡◌, ◌≤◌, ◌<◌, ℕ, zero, suc, ◌+◌, ◌*◌, ◌^◌, arith, ap, refl, sym, ◌∙◌, List, [], ◌∷◌, ◌++◌, length, map}
use Rattle.std.specs.Prelude.{Some, None, slice_get}
use Rattle.std.proofs.lemmas.List.{map-append, length-map}
use Rattle.hard_items.specs.declared.code.Item.{Item}
use Rattle.hard_items.specs.declared.code.HardBlock.{HardBlock}
use Rattle.hard_items.specs.declared.code.HardProgram.{HardProgram}
use Rattle.hard_items.specs.Run.{items_of}
use Rattle.hard_items.specs.WellFormed.{WellFormed}
use Rattle.hard_items.specs.Forms.{Formed}
use Rattle.block_relays.specs.Relays.{Relays, Nothing, Next, Turned, Both, goals, place_of, put_item, relay, put_blocks, HasRelays}
use Rattle.block_relays.proofs.Keeps.{blocks_put}
use Rattle.edge_split.specs.Split.{Plan, plan_of, relays_as, edge_relays, split_place, placed_block, relay_block, split_blocks, smoothed}
use Rattle.layout_moves_law.proofs.Places.{Put}
use Rattle.layout_moves_law.proofs.Plans.{split_puts}

none_some : {A : Type 0} (t : A) → None ≡ Some t → ⊥
none_some t e = cc

-- ---- the blocks

relays_items : (place : ℕ → ℕ) (cs : List ℕ) → map (λ k. k.items) (map (relay_block place) cs) ≡ map (relay place) cs
relays_items place [] = refl
relays_items place (c ∷ cs) = ap (λ (z : List (List Item)). relay place c ∷ z) (relays_items place cs)

all_items : (place : ℕ → ℕ) (plans : ℕ → Plan) (b : ℕ) (ks : List HardBlock) → map (λ k. k.items) (split_blocks place plans b ks) ≡ put_blocks (λ c. relays_as (plans c)) place b ks
all_items place plans b [] = refl
all_items place plans b (k ∷ ks) =
    map-append (λ (x : HardBlock). x.items) (placed_block place b (plans b) k ∷ map (relay_block place) (goals b (relays_as (plans b)))) (split_blocks place plans (b + 1) ks)
    ∙ (ap (λ (z : List (List Item)). (map (put_item place b (relays_as (plans b))) k.items ∷ z) ++ map (λ (x : HardBlock). x.items) (split_blocks place plans (b + 1) ks)) (relays_items place (goals b (relays_as (plans b))))
    ∙ ap (λ (z : List (List Item)). map (put_item place b (relays_as (plans b))) k.items ∷ (map (relay place) (goals b (relays_as (plans b))) ++ z)) (all_items place plans (b + 1) ks))

pub has_split : (p : HardProgram) → HasRelays (edge_relays p) p (smoothed p)
has_split p = record { blocks = all_items (split_place p) (plan_of p) 0 p.blocks; entries = refl; initial = refl; memory = refl }

abbrev pub split_put : (p : HardProgram) → WellFormed p → ((b : ℕ) → b < length p.blocks → Formed (items_of p b)) → Put (edge_relays p) p (smoothed p)
split_put p w f = record { has = has_split p; well = w; formed = f; puts = λ b l. split_puts p b w (f b l) }

-- ---- how many blocks

pub two_goals : (b : ℕ) (r : Relays) → length (goals b r) ≤ 2
two_goals b Nothing = omega arith
two_goals b Next = omega arith
two_goals b (Turned t) = omega arith
two_goals b (Both t) = omega arith

triple : (relays : ℕ → Relays) (b : ℕ) → place_of relays b ≤ 3 * b
triple relays zero = omega arith
triple relays (suc b) = more (place_of relays b) (length (goals b (relays b))) b (triple relays b) (two_goals b (relays b))
  where
    more : (a g b : ℕ) → a ≤ 3 * b → g ≤ 2 → a + suc g ≤ 3 * suc b
    more a g b h k = omega arith

pub few_blocks : (p : HardProgram) → length p.blocks ≤ 65535 → length (smoothed p).blocks < 2 ^ 32
few_blocks p h = small (length (smoothed p).blocks) (split_place p (length p.blocks)) (length p.blocks) (blocks_put (edge_relays p) p (smoothed p) (has_split p)) (triple (edge_relays p) (length p.blocks)) h
  where
    small : (a b c : ℕ) → a ≡ b → b ≤ 3 * c → c ≤ 65535 → a < 2 ^ 32
    small a b c e f g = omega arith

-- ---- a block and its successors

skip : (xs ys : List HardBlock) (n : ℕ) → slice_get (xs ++ ys) (length xs + n) ≡ slice_get ys n
skip [] ys n = ap (slice_get ys) (zero_left n)
  where
    zero_left : (n : ℕ) → 0 + n ≡ n
    zero_left n = omega arith
skip (x ∷ xs) ys n = ap (slice_get (x ∷ (xs ++ ys))) (up (length xs) n) ∙ skip xs ys n
  where
    up : (a n : ℕ) → suc a + n ≡ suc (a + n)
    up a n = omega arith

front : (xs ys : List HardBlock) (n : ℕ) (k : HardBlock) → slice_get xs n ≡ Some k → slice_get (xs ++ ys) n ≡ Some k
front [] ys n k e = absurd (none_some k e)
front (x ∷ xs) ys zero k e = e
front (x ∷ xs) ys (suc n) k e = front xs ys n k e

-- How far the place of a block is behind that of another.
abbrev shift : (ℕ → Plan) → (b m : ℕ) → ℕ
shift plans b zero = 0
shift plans b (suc m) = suc (length (goals b (relays_as (plans b)))) + shift plans (b + 1) m

shift_place : (plans : ℕ → Plan) (b m : ℕ) → place_of (λ c. relays_as (plans c)) b + shift plans b m ≡ place_of (λ c. relays_as (plans c)) (b + m)
shift_place plans b zero = none (place_of (λ c. relays_as (plans c)) b) ∙ ap (place_of (λ c. relays_as (plans c))) (sym (none b))
  where
    none : (a : ℕ) → a + 0 ≡ a
    none a = omega arith
shift_place plans b (suc m) =
    sum (place_of (λ c. relays_as (plans c)) b) (length (goals b (relays_as (plans b)))) (shift plans (b + 1) m)
    ∙ (ap (λ (z : ℕ). place_of (λ c. relays_as (plans c)) z + shift plans (b + 1) m) (one b) ∙ (shift_place plans (b + 1) m ∙ ap (place_of (λ c. relays_as (plans c))) (move b m)))
  where
    sum : (a n x : ℕ) → a + (suc n + x) ≡ a + suc n + x
    sum a n x = omega arith

    one : (b : ℕ) → suc b ≡ b + 1
    one b = omega arith

    move : (b m : ℕ) → b + 1 + m ≡ b + suc m
    move b m = omega arith

-- What comes for a block: itself in its place, and the blocks that are put behind it.
abbrev pub comes : (ℕ → ℕ) → (ℕ → Plan) → ℕ → HardBlock → List HardBlock
comes place plans b k = placed_block place b (plans b) k ∷ map (relay_block place) (goals b (relays_as (plans b)))

comes_long : (place : ℕ → ℕ) (plans : ℕ → Plan) (b : ℕ) (k : HardBlock) → length (comes place plans b k) ≡ suc (length (goals b (relays_as (plans b))))
comes_long place plans b k = ap suc (length-map (goals b (relays_as (plans b))) (relay_block place))

block_at : (place : ℕ → ℕ) (plans : ℕ → Plan) (b m r : ℕ) (ks : List HardBlock) (k x : HardBlock) → slice_get ks m ≡ Some k → slice_get (comes place plans (b + m) k) r ≡ Some x →
    (slice_get (split_blocks place plans b ks) (shift plans b m + r) ≡ Some x)
block_at place plans b m r [] k x e f = absurd (none_some k e)
block_at place plans b zero r (y ∷ ks) k x e f =
    ap (slice_get (split_blocks place plans b (y ∷ ks))) (zero_left r)
    ∙ front (comes place plans b y) (split_blocks place plans (b + 1) ks) r x (ap (λ (z : HardBlock). slice_get (comes place plans b z) r) (same y k e) ∙ (ap (λ (z : ℕ). slice_get (comes place plans z k) r) (none b) ∙ f))
  where
    same : (y k : HardBlock) → Some y ≡ Some k → y ≡ k
    same y k e = cc

    none : (b : ℕ) → b ≡ b + 0
    none b = omega arith

    zero_left : (r : ℕ) → 0 + r ≡ r
    zero_left r = omega arith
block_at place plans b (suc m) r (y ∷ ks) k x e f =
    ap (slice_get (split_blocks place plans b (y ∷ ks))) (sum (suc (length (goals b (relays_as (plans b))))) (length (comes place plans b y)) (shift plans (b + 1) m) r (sym (comes_long place plans b y)))
    ∙ (skip (comes place plans b y) (split_blocks place plans (b + 1) ks) (shift plans (b + 1) m + r)
    ∙ block_at place plans (b + 1) m r ks k x e (ap (λ (z : ℕ). slice_get (comes place plans z k) r) (move b m) ∙ f))
  where
    sum : (a c s r : ℕ) → a ≡ c → a + s + r ≡ c + (s + r)
    sum a c s r e = omega arith

    move : (b m : ℕ) → b + 1 + m ≡ b + suc m
    move b m = omega arith

pub comes_at : (p : HardProgram) (b r : ℕ) (k x : HardBlock) → slice_get p.blocks b ≡ Some k → slice_get (comes (split_place p) (plan_of p) b k) r ≡ Some x → slice_get (smoothed p).blocks (split_place p b + r) ≡ Some x
comes_at p b r k x e f =
    ap (λ (z : ℕ). slice_get (smoothed p).blocks (z + r)) (zero_left (split_place p b) (shift (plan_of p) 0 b) (split_place p (0 + b)) (shift_place (plan_of p) 0 b) (ap (split_place p) (none b)))
    ∙ block_at (split_place p) (plan_of p) 0 b r p.blocks k x e (ap (λ (z : ℕ). slice_get (comes (split_place p) (plan_of p) z k) r) (none b) ∙ f)
  where
    none : (b : ℕ) → 0 + b ≡ b
    none b = omega arith

    zero_left : (a s c : ℕ) → 0 + s ≡ c → c ≡ a → a ≡ s
    zero_left a s c e f = omega arith

pub placed_at : (p : HardProgram) (b : ℕ) (k : HardBlock) → slice_get p.blocks b ≡ Some k → slice_get (smoothed p).blocks (split_place p b) ≡ Some (placed_block (split_place p) b (plan_of p b) k)
placed_at p b k e = ap (slice_get (smoothed p).blocks) (none (split_place p b)) ∙ comes_at p b 0 k (placed_block (split_place p) b (plan_of p b) k) e refl
  where
    none : (a : ℕ) → a ≡ a + 0
    none a = omega arith

relay_in : (place : ℕ → ℕ) (cs : List ℕ) (m c : ℕ) → slice_get cs m ≡ Some c → slice_get (map (relay_block place) cs) m ≡ Some (relay_block place c)
relay_in place [] m c e = absurd (none_some c e)
relay_in place (x ∷ cs) zero c e = ap (λ (z : ℕ). Some (relay_block place z)) (same x c e)
  where
    same : (x c : ℕ) → Some x ≡ Some c → x ≡ c
    same x c e = cc
relay_in place (x ∷ cs) (suc m) c e = relay_in place cs m c e

pub relay_at : (p : HardProgram) (b m c : ℕ) (k : HardBlock) → slice_get p.blocks b ≡ Some k → slice_get (goals b (edge_relays p b)) m ≡ Some c → slice_get (smoothed p).blocks (split_place p b + suc m) ≡ Some (relay_block (split_place p) c)
relay_at p b m c k e f = comes_at p b (suc m) k (relay_block (split_place p) c) e (relay_in (split_place p) (goals b (edge_relays p b)) m c f)
