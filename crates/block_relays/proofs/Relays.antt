-- A program with blocks put behind its blocks is the program with its blocks at other places.
use Rattle.std.proofs.Common.{◌≡◌, ◌≢◌, ◌≤◌, ◌<◌, ℕ, zero, suc, ◌+◌, ◌-◌, arith, ap, refl, sym, ◌∙◌, subst, List, [], ◌∷◌, ◌++◌, length, map, get_or, Bool, true, false, cond, inl, inr}
use Rattle.std.specs.Prelude.{Option, Some, None, slice_index, slice_get, ◌⊎◌}
use Rattle.mips_isa.specs.declared.instr.Instr.TheVariants.{J, Jr}
use Rattle.hard_items.specs.declared.code.Fix.{Fix}
use Rattle.hard_items.specs.declared.code.Fix.TheVariants.{Plain, Block, Function, ReturnHigh, ReturnLow}
use Rattle.hard_items.specs.declared.code.Item.{Item}
use Rattle.hard_items.specs.declared.code.HardBlock.{HardBlock}
use Rattle.hard_items.specs.declared.code.HardProgram.{HardProgram}
use Rattle.hard_items.specs.Run.{items_of, block_items, makes_number}
use Rattle.hard_items.specs.Ways as mf
use Rattle.hard_items.specs.Ways.{Holds, MayFollow, IsOfFunction, CallsFunction}
use Rattle.block_relays.specs.Renumber.{LeadsTo, straight, relayed, return_place, opposite, is_branch, IsTest, NoBlock, ItemPlaced, ItemsPlaced, Renumbered}
use Rattle.block_relays.specs.Renumber as placed
use Rattle.block_relays.specs.Relays.{Relays, Nothing, Next, Turned, Both, goals, place_of, put_as, put_item, relay, put_blocks, HasRelays, RelaysFit, MayRelay}
use Rattle.layout_law.proofs.Standing.{holds_first}
use Rattle.block_relays.proofs.Renamed.{back_of}

no_true : true ≡ false → ⊥
no_true e = cc

-- ---- blocks by number

abbrev block_at : List (List Item) → ℕ → List Item
block_at [] n = []
block_at (x ∷ xs) zero = x
block_at (x ∷ xs) (suc n) = block_at xs n

abbrev block_in : List HardBlock → ℕ → List Item
block_in ks n = block_items (slice_get ks n)

items_at : (ks : List HardBlock) (n : ℕ) → block_items (slice_get ks n) ≡ block_at (map (λ k. k.items) ks) n
items_at [] n = refl
items_at (k ∷ ks) zero = refl
items_at (k ∷ ks) (suc n) = items_at ks n

at_append : (xs ys : List (List Item)) (n : ℕ) → block_at (xs ++ ys) (length xs + n) ≡ block_at ys n
at_append [] ys n = ap (block_at ys) (zero_left n)
  where
    zero_left : (a : ℕ) → 0 + a ≡ a
    zero_left a = omega arith
at_append (x ∷ xs) ys n = ap (block_at (x ∷ (xs ++ ys))) (one (length xs) n) ∙ at_append xs ys n
  where
    one : (a n : ℕ) → suc a + n ≡ suc (a + n)
    one a n = omega arith

-- How far behind block b the place of the m-th block behind it is.
abbrev shift : (ℕ → Relays) → (b m : ℕ) → ℕ
shift relays b zero = 0
shift relays b (suc m) = suc (length (goals b (relays b)) + shift relays (b + 1) m)

length_map : (place : ℕ → ℕ) (cs : List ℕ) → length (map (relay place) cs) ≡ length cs
length_map place [] = refl
length_map place (c ∷ cs) = ap suc (length_map place cs)

shift_place : (relays : ℕ → Relays) (b m : ℕ) → place_of relays b + shift relays b m ≡ place_of relays (b + m)
shift_place relays b zero = none (place_of relays b) ∙ ap (place_of relays) (none' b)
  where
    none : (a : ℕ) → a + 0 ≡ a
    none a = omega arith

    none' : (a : ℕ) → a ≡ a + 0
    none' a = omega arith
shift_place relays b (suc m) =
    sum (place_of relays b) (length (goals b (relays b))) (shift relays (b + 1) m) ∙ (ap (λ (z : ℕ). place_of relays z + shift relays (b + 1) m) (one b) ∙ (shift_place relays (b + 1) m ∙ ap (place_of relays) (move b m)))
  where
    sum : (a n s : ℕ) → a + suc (n + s) ≡ a + suc n + s
    sum a n s = omega arith

    one : (b : ℕ) → suc b ≡ b + 1
    one b = omega arith

    move : (b m : ℕ) → b + 1 + m ≡ b + suc m
    move b m = omega arith

shift_is : (relays : ℕ → Relays) (m : ℕ) → shift relays 0 m ≡ place_of relays m
shift_is relays m = zero_left (shift relays 0 m) ∙ (shift_place relays 0 m ∙ ap (place_of relays) (sym (zero_left m)))
  where
    zero_left : (a : ℕ) → a ≡ 0 + a
    zero_left a = omega arith

-- From the place of the m-th block on.
abbrev tail_at : (ℕ → Relays) → (ℕ → ℕ) → (b : ℕ) → List HardBlock → List (List Item)
tail_at relays place b ks = put_blocks relays place b ks

skip_one : (relays : ℕ → Relays) (place : ℕ → ℕ) (b : ℕ) (k : HardBlock) (ks : List HardBlock) (n : ℕ) → block_at (put_blocks relays place b (k ∷ ks)) (suc (length (goals b (relays b)) + n)) ≡ block_at (put_blocks relays place (b + 1) ks) n
skip_one relays place b k ks n =
    ap (λ (z : ℕ). block_at (map (relay place) (goals b (relays b)) ++ put_blocks relays place (b + 1) ks) (z + n)) (sym (length_map place (goals b (relays b))))
    ∙ at_append (map (relay place) (goals b (relays b))) (put_blocks relays place (b + 1) ks) n

-- r blocks behind the place of the m-th block stands the r-th of what is put for it.
put_there : (relays : ℕ → Relays) (place : ℕ → ℕ) (b m r : ℕ) (ks : List HardBlock) → m < length ks → r < suc (length (goals (b + m) (relays (b + m)))) →
    block_at (put_blocks relays place b ks) (shift relays b m + r) ≡ block_at (map (put_item place (b + m) (relays (b + m))) (block_in ks m) ∷ map (relay place) (goals (b + m) (relays (b + m)))) r
put_there relays place b m r [] h g = absurd (no m h)
  where
    no : (n : ℕ) → n < 0 → ⊥
    no n h = omega arith
put_there relays place b zero r (k ∷ ks) h g =
    subst (λ (c : ℕ). r < suc (length (goals c (relays c))) → block_at (put_blocks relays place b (k ∷ ks)) (0 + r) ≡ block_at (map (put_item place c (relays c)) k.items ∷ map (relay place) (goals c (relays c))) r) (none b)
    (λ g'. ap (block_at (put_blocks relays place b (k ∷ ks))) (zero_left r) ∙ in_first (map (put_item place b (relays b)) k.items ∷ map (relay place) (goals b (relays b))) (put_blocks relays place (b + 1) ks) r (subst (λ (z : ℕ). r < suc z) (sym (length_map place (goals b (relays b)))) g')) g
  where
    none : (a : ℕ) → a ≡ a + 0
    none a = omega arith

    zero_left : (a : ℕ) → 0 + a ≡ a
    zero_left a = omega arith

    zero_none : (n : ℕ) → n < 0 → ⊥
    zero_none n h = omega arith

    less : (a b : ℕ) → suc a < suc b → a < b
    less a b h = omega arith

    in_first : (xs ys : List (List Item)) (n : ℕ) → n < length xs → block_at (xs ++ ys) n ≡ block_at xs n
    in_first [] ys n h = absurd (zero_none n h)
    in_first (x ∷ xs) ys zero h = refl
    in_first (x ∷ xs) ys (suc n) h = in_first xs ys n (less n (length xs) h)
put_there relays place b (suc m) r (k ∷ ks) h g =
    ap (λ (z : ℕ). block_at (put_blocks relays place b (k ∷ ks)) z) (sum (length (goals b (relays b))) (shift relays (b + 1) m) r)
    ∙ (skip_one relays place b k ks (shift relays (b + 1) m + r)
    ∙ subst (λ (c : ℕ). r < suc (length (goals c (relays c))) → block_at (put_blocks relays place (b + 1) ks) (shift relays (b + 1) m + r) ≡ block_at (map (put_item place c (relays c)) (block_in ks m) ∷ map (relay place) (goals c (relays c))) r) (move b m)
    (λ g'. put_there relays place (b + 1) m r ks (less m (length ks) h) g') g)
  where
    sum : (n s r : ℕ) → suc (n + s) + r ≡ suc (n + (s + r))
    sum n s r = omega arith

    move : (b m : ℕ) → b + 1 + m ≡ b + suc m
    move b m = omega arith

    less : (a b : ℕ) → suc a < suc b → a < b
    less a b h = omega arith

-- What stands at the place of a block, and behind it.
pub block_put : (relays : ℕ → Relays) (p q : HardProgram) → HasRelays relays p q → (b r : ℕ) → b < length p.blocks → r < suc (length (goals b (relays b))) →
    items_of q (place_of relays b + r) ≡ block_at (map (put_item (place_of relays) b (relays b)) (items_of p b) ∷ map (relay (place_of relays)) (goals b (relays b))) r
block_put relays p q h b r l g =
    items_at q.blocks (place_of relays b + r) ∙ (ap (λ (z : List (List Item)). block_at z (place_of relays b + r)) h.blocks
    ∙ (ap (λ (z : ℕ). block_at (put_blocks relays (place_of relays) 0 p.blocks) (z + r)) (sym (shift_is relays b))
    ∙ subst (λ (c : ℕ). r < suc (length (goals c (relays c))) → block_at (put_blocks relays (place_of relays) 0 p.blocks) (shift relays 0 b + r) ≡ block_at (map (put_item (place_of relays) c (relays c)) (block_in p.blocks b) ∷ map (relay (place_of relays)) (goals c (relays c))) r) (zero_left b)
    (λ g'. put_there relays (place_of relays) 0 b r p.blocks l g') g))
  where
    zero_left : (a : ℕ) → 0 + a ≡ a
    zero_left a = omega arith

-- ---- places ascend

pub place_up : (relays : ℕ → Relays) (b c : ℕ) → b < c → place_of relays b < place_of relays c
place_up relays b zero h = absurd (no b h)
  where
    no : (n : ℕ) → n < 0 → ⊥
    no n h = omega arith
place_up relays b (suc c) h = by (λ k. place_up relays b c k) (Rattle.std.specs.Prelude.nat_lt b c) refl
  where
    lt : (a b : ℕ) → Rattle.std.specs.Prelude.nat_lt a b ≡ true → a < b
    lt a b e = grind arith

    ge : (a b : ℕ) → Rattle.std.specs.Prelude.nat_lt a b ≡ false → b ≤ a
    ge a b e = grind arith

    equal : (b c : ℕ) → b < suc c → c ≤ b → b ≡ c
    equal b c h g = omega arith

    more : (a b n : ℕ) → a < b → a < b + suc n
    more a b n h = omega arith

    self : (a n : ℕ) → a < a + suc n
    self a n = omega arith

    by : (b < c → place_of relays b < place_of relays c) → (z : Bool) → Rattle.std.specs.Prelude.nat_lt b c ≡ z → place_of relays b < place_of relays (suc c)
    by f true e = more (place_of relays b) (place_of relays c) (length (goals c (relays c))) (f (lt b c e))
    by f false e = subst (λ (z : ℕ). place_of relays z < place_of relays (suc c)) (sym (equal b c h (ge b c e))) (self (place_of relays c) (length (goals c (relays c))))

-- ---- where the blocks put lead

pub put_as_is : (relays : ℕ → Relays) (p q : HardProgram) → HasRelays relays p q → (b n : ℕ) → b < length p.blocks → (r : Relays) → relays b ≡ r → n < suc (length (goals b r)) →
    items_of q (place_of relays b + n) ≡ block_at (map (put_item (place_of relays) b r) (items_of p b) ∷ map (relay (place_of relays)) (goals b r)) n
put_as_is relays p q h b n l r e g =
    subst (λ (z : Relays). n < suc (length (goals b z)) → items_of q (place_of relays b + n) ≡ block_at (map (put_item (place_of relays) b z) (items_of p b) ∷ map (relay (place_of relays)) (goals b z)) n) e (λ k. block_put relays p q h b n l k) g

lt_1 : (n : ℕ) → 1 < suc (suc n)
lt_1 n = omega arith

lt_2 : (n : ℕ) → 2 < suc (suc (suc n))
lt_2 n = omega arith

suc_one : (b : ℕ) → suc b ≡ b + 1
suc_one b = omega arith

pub place_next : (relays : ℕ → Relays) (b : ℕ) (r : Relays) → relays b ≡ r → place_of relays b + suc (length (goals b r)) ≡ place_of relays (b + 1)
place_next relays b r e = ap (λ (z : Relays). place_of relays b + suc (length (goals b z))) (sym e) ∙ ap (place_of relays) (suc_one b)

-- The number behind a block leads to the next block, where its branch does not turn.
next_leads : (relays : ℕ → Relays) (p q : HardProgram) → HasRelays relays p q → (b : ℕ) → b < length p.blocks → (r : Relays) → relays b ≡ r → ((t : ℕ) → r ≡ Turned t → ⊥) → LeadsTo q (place_of relays) (place_of relays b + 1) (b + 1)
next_leads relays p q h b l Nothing e n = straight (place_next relays b Nothing e)
next_leads relays p q h b l Next e n = relayed (put_as_is relays p q h b 1 l Next e (lt_1 0))
next_leads relays p q h b l (Turned t) e n = absurd (n t refl)
next_leads relays p q h b l (Both t) e n = relayed (put_as_is relays p q h b 1 l (Both t) e (lt_1 1))

differ_next : (t : ℕ) → Next ≡ Turned t → ⊥
differ_next t e = cc

differ_nothing : (t : ℕ) → Nothing ≡ Turned t → ⊥
differ_nothing t e = cc

differ_both : (u t : ℕ) → Both u ≡ Turned t → ⊥
differ_both u t e = cc

-- ---- items

numbers_lead : (relays : ℕ → Relays) (p q : HardProgram) → HasRelays relays p q → MayRelay relays p → (b : ℕ) → b < length p.blocks → (i : Item) → Holds p b i → makes_number i ≡ true → LeadsTo q (place_of relays) (place_of relays b + 1) (b + 1)
numbers_lead relays p q h m b l i k g = next_leads relays p q h b l (relays b) refl (λ t e. no_true (sym g ∙ m.no_number b t i k e))

goes_by : (relays : ℕ → Relays) (p q : HardProgram) → HasRelays relays p q → (b : ℕ) → b < length p.blocks → (i : Item) → (t : ℕ) → i.fix ≡ Block t → (r : Relays) → relays b ≡ r → RelaysFit r i t → ((target : ℕ) × (i.instr ≡ J target)) ⊎ is_branch i.instr → ItemPlaced p q (place_of relays) b i (put_as (place_of relays) b r i (Block t))
goes_by relays p q h b l i t u Nothing e f (inl g) = placed.jumps t (place_of relays t) g.0 u g.1 refl (straight refl)
goes_by relays p q h b l i t u Nothing e f (inr g) = placed.branches t (place_of relays t) u g refl (straight refl) (next_leads relays p q h b l Nothing e differ_nothing)
goes_by relays p q h b l i t u Next e f (inl g) = placed.jumps t (place_of relays t) g.0 u g.1 refl (straight refl)
goes_by relays p q h b l i t u Next e f (inr g) = placed.branches t (place_of relays t) u g refl (straight refl) (next_leads relays p q h b l Next e differ_next)
goes_by relays p q h b l i t u (Turned c) e f g = placed.turns t (place_of relays (b + 1)) u f.0 refl (straight refl)
    (relayed (put_as_is relays p q h b 1 l (Turned c) e (lt_1 0) ∙ ap (relay (place_of relays)) f.1))
goes_by relays p q h b l i t u (Both c) e f g = placed.branches t (place_of relays b + 2) u f.0 refl
    (relayed (put_as_is relays p q h b 2 l (Both c) e (lt_2 0) ∙ ap (relay (place_of relays)) f.1)) (next_leads relays p q h b l (Both c) e (differ_both c))

item_put : (relays : ℕ → Relays) (p q : HardProgram) → HasRelays relays p q → MayRelay relays p → (b : ℕ) → b < length p.blocks → (i : Item) → Holds p b i → (f : Fix) → i.fix ≡ f → ItemPlaced p q (place_of relays) b i (put_as (place_of relays) b (relays b) i f)
item_put relays p q h m b l i k Plain u = placed.same refl (subst NoBlock (sym u) tt) (numbers_lead relays p q h m b l i k)
item_put relays p q h m b l i k (Block t) u = goes_by relays p q h b l i t u (relays b) refl (m.fits b t i k u) (m.goes b t i k u)
item_put relays p q h m b l i k (Function f) u = placed.same refl (subst NoBlock (sym u) tt) (numbers_lead relays p q h m b l i k)
item_put relays p q h m b l i k ReturnHigh u = placed.same refl (subst NoBlock (sym u) tt) (numbers_lead relays p q h m b l i k)
item_put relays p q h m b l i k ReturnLow u = placed.same refl (subst NoBlock (sym u) tt) (numbers_lead relays p q h m b l i k)

one_more : (done : List Item) (i : Item) (more : List Item) → done ++ i ∷ more ≡ (done ++ i ∷ []) ++ more
one_more done i more = sym (Rattle.std.proofs.Common.append_assoc done (i ∷ []) more)

items_put : (relays : ℕ → Relays) (p q : HardProgram) → HasRelays relays p q → MayRelay relays p → (b : ℕ) → b < length p.blocks → (done rest : List Item) → items_of p b ≡ done ++ rest → ItemsPlaced p q (place_of relays) b rest (map (put_item (place_of relays) b (relays b)) rest)
items_put relays p q h m b l done [] e = tt
items_put relays p q h m b l done (i ∷ more) e = (item_put relays p q h m b l i (holds_first p b i more done e) i.fix refl, items_put relays p q h m b l (done ++ i ∷ []) more (e ∙ one_more done i more))

-- ---- entries and returns

index_map : (place : ℕ → ℕ) (xs : List ℕ) (f : ℕ) → place 0 ≡ 0 → slice_index (map place xs) f ≡ place (slice_index xs f)
index_map place [] f e = sym e
index_map place (x ∷ xs) zero e = refl
index_map place (x ∷ xs) (suc f) e = index_map place xs f e

pub get_map : (place : ℕ → ℕ) (xs : List ℕ) (f x : ℕ) → slice_get xs f ≡ Some x → slice_get (map place xs) f ≡ Some (place x)
get_map place [] f x e = absurd (no e)
  where
    no : None ≡ Some x → ⊥
    no e = cc
get_map place (y ∷ xs) zero x e = ap (λ (z : Option ℕ). some z) e
  where
    some : Option ℕ → Option ℕ
    some None = None
    some (Some x) = Some (place x)
get_map place (y ∷ xs) (suc f) x e = get_map place xs f x e

pub got_map : (place : ℕ → ℕ) (xs : List ℕ) (f y : ℕ) → slice_get (map place xs) f ≡ Some y → (x : ℕ) × (slice_get xs f ≡ Some x) × (y ≡ place x)
got_map place [] f y e = absurd (no e)
  where
    no : None ≡ Some y → ⊥
    no e = cc
got_map place (x ∷ xs) zero y e = (x, refl, is (place x) y e)
  where
    is : (a b : ℕ) → Some a ≡ Some b → b ≡ a
    is a b e = cc
got_map place (x ∷ xs) (suc f) y e = got_map place xs f y e

pub map_get : (g : Item → Item) (xs : List Item) (k : ℕ) (i : Item) → get_or (map g xs) k (g i) ≡ g (get_or xs k i)
map_get g [] k i = refl
map_get g (x ∷ xs) zero i = refl
map_get g (x ∷ xs) (suc k) i = map_get g xs k i

pub map_length : (g : Item → Item) (xs : List Item) → length (map g xs) ≡ length xs
map_length g [] = refl
map_length g (x ∷ xs) = ap suc (map_length g xs)

none_plus : (a : ℕ) → a ≡ a + 0
none_plus a = omega arith

pub items_placed : (relays : ℕ → Relays) (p q : HardProgram) → HasRelays relays p q → (b : ℕ) → b < length p.blocks → items_of q (place_of relays b) ≡ map (put_item (place_of relays) b (relays b)) (items_of p b)
items_placed relays p q h b l = ap (items_of q) (none_plus (place_of relays b)) ∙ block_put relays p q h b 0 l (lt_0 (length (goals b (relays b))))
  where
    lt_0 : (n : ℕ) → 0 < suc n
    lt_0 n = omega arith

pub holds_there : (p : HardProgram) (b : ℕ) (i : Item) → Holds p b i → b < length p.blocks
holds_there p b i h = Rattle.layout_law.proofs.Blocks.items_there p.blocks b i h

pub holds_put : (relays : ℕ → Relays) (p q : HardProgram) → HasRelays relays p q → (b : ℕ) (i : Item) → Holds p b i → Holds q (place_of relays b) (put_item (place_of relays) b (relays b) i)
holds_put relays p q h b i k =
    let g : Item → Item = put_item (place_of relays) b (relays b) in
    let e : items_of q (place_of relays b) ≡ map g (items_of p b) = items_placed relays p q h b (holds_there p b i k) in (
      k.0,
      less k.0 (length (items_of p b)) (length (items_of q (place_of relays b))) k.1 (ap length e ∙ map_length g (items_of p b)),
      ap (λ (z : List Item). get_or z k.0 (g i)) e ∙ (map_get g (items_of p b) k.0 i ∙ ap g k.2),
    )
  where
    less : (n a b : ℕ) → n < a → b ≡ a → n < b
    less n a b h e = omega arith

pub le_up : (relays : ℕ → Relays) (b c : ℕ) → b ≤ c → place_of relays b ≤ place_of relays c
le_up relays b c h = by (Rattle.std.specs.Prelude.nat_lt b c) refl
  where
    lt : (a b : ℕ) → Rattle.std.specs.Prelude.nat_lt a b ≡ true → a < b
    lt a b e = grind arith

    equal : (a b : ℕ) → a ≤ b → Rattle.std.specs.Prelude.nat_lt a b ≡ false → a ≡ b
    equal a b h e = grind arith

    weak : (a b : ℕ) → a < b → a ≤ b
    weak a b h = omega arith

    self : (a : ℕ) → a ≤ a
    self a = omega arith

    by : (z : Bool) → Rattle.std.specs.Prelude.nat_lt b c ≡ z → place_of relays b ≤ place_of relays c
    by true e = weak (place_of relays b) (place_of relays c) (place_up relays b c (lt b c e))
    by false e = subst (λ (z : ℕ). place_of relays b ≤ place_of relays z) (equal b c h e) (self (place_of relays b))

pub le_down : (relays : ℕ → Relays) (b c : ℕ) → place_of relays b ≤ place_of relays c → b ≤ c
le_down relays b c h = by (Rattle.std.specs.Prelude.nat_lt c b) refl
  where
    lt : (a b : ℕ) → Rattle.std.specs.Prelude.nat_lt a b ≡ true → a < b
    lt a b e = grind arith

    ge : (a b : ℕ) → Rattle.std.specs.Prelude.nat_lt a b ≡ false → b ≤ a
    ge a b e = grind arith

    no : (a b : ℕ) → a < b → b ≤ a → ⊥
    no a b h g = omega arith

    by : (z : Bool) → Rattle.std.specs.Prelude.nat_lt c b ≡ z → b ≤ c
    by true e = absurd (no (place_of relays c) (place_of relays b) (place_up relays c b (lt c b e)) h)
    by false e = ge c b e

pub of_function : (relays : ℕ → Relays) (p q : HardProgram) → HasRelays relays p q → (b f : ℕ) → IsOfFunction p b f → IsOfFunction q (place_of relays b) f
of_function relays p q h b f o = record {
  entry = place_of relays o.entry;
  is_entry = ap (λ (z : List ℕ). slice_get z f) h.entries ∙ get_map (place_of relays) p.entries f o.entry o.is_entry;
  not_above = le_up relays o.entry b o.not_above;
  greatest = λ g other e l. let x : (x : ℕ) × (slice_get p.entries g ≡ Some x) × (other ≡ place_of relays x) = got_map (place_of relays) p.entries g other (sym (ap (λ (z : List ℕ). slice_get z g) h.entries) ∙ e) in
      subst (λ (z : ℕ). z ≤ place_of relays o.entry) (sym x.2) (le_up relays x.0 o.entry (o.greatest g x.0 x.1 (le_down relays x.0 b (subst (λ (z : ℕ). z ≤ place_of relays b) x.2 l))));
}

pub calls_put : (relays : ℕ → Relays) (p q : HardProgram) → HasRelays relays p q → (b f : ℕ) → CallsFunction p b f → CallsFunction q (place_of relays b) f
calls_put relays p q h b f c =
    let e : put_item (place_of relays) b (relays b) c.item ≡ c.item = ap (put_as (place_of relays) b (relays b) c.item) c.names in
    record { item = c.item; target = c.target; holds = subst (λ (z : Item). Holds q (place_of relays b) z) e (holds_put relays p q h b c.item c.holds); jumps = c.jumps; names = c.names }

pub returns_put : (relays : ℕ → Relays) (p q : HardProgram) → HasRelays relays p q → MayRelay relays p → (b n rs : ℕ) (i : Item) → Holds p b i → i.instr ≡ Jr rs → MayFollow p b n → MayFollow q (place_of relays b) (return_place (place_of relays) n)
returns_put relays p q h m b n rs i k e g =
    let r : (f caller : ℕ) × (n ≡ caller + 1) × IsOfFunction p b f × CallsFunction p caller f = m.returns b n rs i k e g in
    subst (λ (z : ℕ). MayFollow q (place_of relays b) z) (back_of (place_of relays) r.1 ∙ ap (return_place (place_of relays)) (sym r.2))
    (mf.returned r.0 (place_of relays r.1) rs (put_item (place_of relays) b (relays b) i) (holds_put relays p q h b i k) (jr i.fix refl) (of_function relays p q h b r.0 r.3) (calls_put relays p q h r.1 r.0 r.4))
  where
    no_jump : (t : ℕ) → Jr rs ≡ J t → ⊥
    no_jump t e = cc

    jr : (f : Fix) → i.fix ≡ f → (put_as (place_of relays) b (relays b) i f).instr ≡ Jr rs
    jr Plain u = e
    jr (Block t) u = absurd (elim (m.goes b t i k u) as (λ z. ⊥) [ inl z ↦ no_jump z.0 (sym e ∙ z.1) | inr z ↦ subst is_branch e z ])
    jr (Function f) u = e
    jr ReturnHigh u = e
    jr ReturnLow u = e

-- The program with blocks put behind its blocks is it with its blocks at other places.
pub relays_renumber : (relays : ℕ → Relays) (p q : HardProgram) → HasRelays relays p q → MayRelay relays p → Renumbered p q (place_of relays)
relays_renumber relays p q h m = record {
  first = refl;
  ascends = place_up relays;
  blocks = λ b l. subst (λ (z : List Item). ItemsPlaced p q (place_of relays) b (items_of p b) z) (sym (items_placed relays p q h b l)) (items_put relays p q h m b l [] (items_of p b) refl);
  functions = λ b f i k u. ap (λ (z : List ℕ). slice_index z f) h.entries ∙ index_map (place_of relays) p.entries f refl;
  returns = λ b n rs i k e l g. returns_put relays p q h m b n rs i k e g;
  initial = h.initial;
  memory = h.memory;
}
