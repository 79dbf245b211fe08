-- The split form that is built by lists is that of the definition.
use Rattle.std.proofs.Common.{◌≡◌, ◌≤◌, ◌<◌, ℕ, zero, suc, ◌+◌, ◌-◌, ◌*◌, ◌^◌, arith, ap, refl, sym, ◌∙◌, subst, List, [], ◌∷◌, ◌++◌, length, map, drop, drop-cons, append_assoc, get_or, Bool, true, false, cond}
use Rattle.std.specs.Prelude.{Option, Some, None, ◌==◌, slice_get, slice_index, All}
use Rattle.std.specs.List.{range_with_len}
use Rattle.std.proofs.lemmas.Option.{slice_get_read}
use Rattle.hard_items.specs.declared.code.Fix.{Fix}
use Rattle.hard_items.specs.declared.code.Fix.TheVariants.{Plain, Block, Function, ReturnHigh, ReturnLow}
use Rattle.hard_items.specs.declared.code.Item.{Item}
use Rattle.hard_items.specs.declared.code.HardBlock.{HardBlock}
use Rattle.hard_items.specs.declared.code.HardProgram.{HardProgram}
use Rattle.hard_items.specs.Run.{items_of, block_items}
use Rattle.hard_items.specs.WellFormed.{WellFormed, NamesThere}
use Rattle.hard_items.specs.Counts.{is_conditional}
use Rattle.hard_items.specs.Forms.{Jump, close_items}
use Rattle.block_relays.specs.Renumber.{return_place}
use Rattle.block_relays.specs.Relays.{goals, goal_place, turned, put_as, put_item}
use Rattle.far_branches.specs.Widen.{goal_of, far_goal, branch_goal, first_of, first_goal}
use Rattle.layout_law.proofs.Agree.{follower_there}
use Rattle.edge_split.specs.declared.plan.Plan as declared
use Rattle.edge_split.specs.declared.plan.Plan.TheVariants as made
use Rattle.edge_split.specs.Split.{Plan, Keep, Returns, Calls, Falls, Turns, Forks, joins, returns, calls, branch_plan, other_plan, plan_by, plan_of, relays_as, edge_relays, split_place, fallen, successors_as, placed_block, relay_block, split_blocks, smoothed}
use Rattle.edge_split.specs.Built.{plan_as, plan_list, extra, places_by, PlaceThere, AllThere, GoalThere}

none_some : (t : ℕ) → None ≡ Some t → ⊥
none_some t e = cc

same_some : (u t : ℕ) → Some u ≡ Some t → u ≡ t
same_some u t e = cc

-- ---- the lists

length_plans : (p : HardProgram) (b n : ℕ) → length (map (plan_of p) (range_with_len b n)) ≡ n
length_plans p b zero = refl
length_plans p b (suc n) = ap suc (length_plans p (b + 1) n)

many_plans : (p : HardProgram) → length (plan_list p) ≡ length p.blocks
many_plans p = length_plans p 0 (length p.blocks)

length_places : (at : ℕ) (rs : List Plan) → length (places_by at rs) ≡ length rs + 1
length_places at [] = refl
length_places at (r ∷ rs) = more (length (places_by (at + 1 + extra r) rs)) (length rs) (length_places (at + 1 + extra r) rs)
  where
    more : (a n : ℕ) → a ≡ n + 1 → suc a ≡ suc n + 1
    more a n e = omega arith

many_places : (p : HardProgram) → length (places_by 0 (plan_list p)) ≡ length p.blocks + 1
many_places p = length_places 0 (plan_list p) ∙ ap (λ (z : ℕ). z + 1) (many_plans p)

plan_read : (p : HardProgram) (b n k : ℕ) (d : Plan) → k < n → get_or (map (plan_of p) (range_with_len b n)) k d ≡ plan_of p (b + k)
plan_read p b zero k d h = absurd (no k h)
  where
    no : (k : ℕ) → k < 0 → ⊥
    no k h = omega arith
plan_read p b (suc n) zero d h = ap (plan_of p) (none b)
  where
    none : (a : ℕ) → a ≡ a + 0
    none a = omega arith
plan_read p b (suc n) (suc k) d h = plan_read p (b + 1) n k d (down k n h) ∙ ap (plan_of p) (move b k)
  where
    down : (k n : ℕ) → suc k < suc n → k < n
    down k n h = omega arith

    move : (a m : ℕ) → a + 1 + m ≡ a + suc m
    move a m = omega arith

extra_is : (b : ℕ) (r : Plan) → length (goals b (relays_as r)) ≡ extra r
extra_is b Keep = refl
extra_is b Returns = refl
extra_is b Calls = refl
extra_is b Falls = refl
extra_is b (Turns t) = refl
extra_is b (Forks t) = refl

step_of : (p : HardProgram) (b : ℕ) → split_place p (b + 1) ≡ split_place p b + 1 + extra (plan_of p b)
step_of p b = ap (split_place p) (one b) ∙ sum (split_place p b) (length (goals b (edge_relays p b))) (extra (plan_of p b)) (extra_is b (plan_of p b))
  where
    one : (b : ℕ) → b + 1 ≡ suc b
    one b = omega arith

    sum : (a g x : ℕ) → g ≡ x → a + suc g ≡ a + 1 + x
    sum a g x e = omega arith

places_read : (p : HardProgram) (b n k at : ℕ) → at ≡ split_place p b → k ≤ n → slice_index (places_by at (map (plan_of p) (range_with_len b n))) k ≡ split_place p (b + k)
places_read p b zero zero at e h = e ∙ ap (split_place p) (none b)
  where
    none : (a : ℕ) → a ≡ a + 0
    none a = omega arith
places_read p b zero (suc k) at e h = absurd (no k h)
  where
    no : (k : ℕ) → suc k ≤ 0 → ⊥
    no k h = omega arith
places_read p b (suc n) zero at e h = e ∙ ap (split_place p) (none b)
  where
    none : (a : ℕ) → a ≡ a + 0
    none a = omega arith
places_read p b (suc n) (suc k) at e h = places_read p (b + 1) n k (at + 1 + extra (plan_of p b)) (ap (λ (z : ℕ). z + 1 + extra (plan_of p b)) e ∙ sym (step_of p b)) (down k n h) ∙ ap (split_place p) (move b k)
  where
    down : (k n : ℕ) → suc k ≤ suc n → k ≤ n
    down k n h = omega arith

    move : (a m : ℕ) → a + 1 + m ≡ a + suc m
    move a m = omega arith

place_read : (p : HardProgram) (k : ℕ) → k ≤ length p.blocks → slice_index (places_by 0 (plan_list p)) k ≡ split_place p k
place_read p k h = places_read p 0 (length p.blocks) k 0 refl h ∙ ap (split_place p) (zero_left k)
  where
    zero_left : (m : ℕ) → 0 + m ≡ m
    zero_left m = omega arith

two_extra : (r : Plan) → extra r ≤ 2
two_extra Keep = omega arith
two_extra Returns = omega arith
two_extra Calls = omega arith
two_extra Falls = omega arith
two_extra (Turns t) = omega arith
two_extra (Forks t) = omega arith

places_low : (at m : ℕ) (rs : List Plan) (k d : ℕ) → at + 3 * length rs ≤ m → k < length (places_by at rs) → get_or (places_by at rs) k d ≤ m
places_low at m [] zero d h l = less at m h
  where
    less : (a m : ℕ) → a + 3 * 0 ≤ m → a ≤ m
    less a m h = omega arith
places_low at m [] (suc k) d h l = absurd (no k l)
  where
    no : (k : ℕ) → suc k < 1 → ⊥
    no k h = omega arith
places_low at m (r ∷ rs) zero d h l = less at (length rs) m h
  where
    less : (a n m : ℕ) → a + 3 * suc n ≤ m → a ≤ m
    less a n m h = omega arith
places_low at m (r ∷ rs) (suc k) d h l = places_low (at + 1 + extra r) m rs k d (less at (extra r) (length rs) m (two_extra r) h) (down k (length (places_by (at + 1 + extra r) rs)) l)
  where
    less : (a x n m : ℕ) → x ≤ 2 → a + 3 * suc n ≤ m → a + 1 + x + 3 * n ≤ m
    less a x n m e h = omega arith

    down : (k n : ℕ) → suc k < suc n → k < n
    down k n h = omega arith

-- ---- what is named is there

goal_named : (p : HardProgram) (b t : ℕ) (f : Fix) (z : Bool) → NamesThere p f → cond z (far_goal b (goal_of f)) None ≡ Some t → t < length p.blocks
goal_named p b t (Block u) true n e = subst (λ (x : ℕ). x < length p.blocks) (by (u == b + 1) e) n
  where
    by : (y : Bool) → cond y None (Some u) ≡ Some t → u ≡ t
    by true e = absurd (none_some t e)
    by false e = same_some u t e
goal_named p b t Plain true n e = absurd (none_some t e)
goal_named p b t (Function f) true n e = absurd (none_some t e)
goal_named p b t ReturnHigh true n e = absurd (none_some t e)
goal_named p b t ReturnLow true n e = absurd (none_some t e)
goal_named p b t f false n e = absurd (none_some t e)

first_named : (p : HardProgram) (b t : ℕ) (xs : List Item) → All (λ i. NamesThere p i.fix) xs → first_goal b xs ≡ Some t → t < length p.blocks
first_named p b t [] a e = absurd (none_some t e)
first_named p b t (i ∷ more) a e = by (first_named p b t more (λ k d h. a (suc k) d (up k (length more) h))) (branch_goal b i) refl e
  where
    up : (m n : ℕ) → m < n → suc m < suc n
    up m n h = omega arith

    least : (n : ℕ) → 0 < suc n
    least n = omega arith

    by : (first_goal b more ≡ Some t → t < length p.blocks) → (o : Option ℕ) → branch_goal b i ≡ o → first_of o (first_goal b more) ≡ Some t → t < length p.blocks
    by f (Some u) k e = goal_named p b t i.fix (is_conditional i.instr) (a 0 i (least (length more))) (k ∙ e)
    by f None k e = f e

more_by : (a n : ℕ) → a < n → a < n + 1
more_by a n h = omega arith

branch_there : (n t : ℕ) (x y : Bool) → t < n → GoalThere n (branch_plan x y t)
branch_there n t false false h = tt
branch_there n t true false h = tt
branch_there n t false true h = h
branch_there n t true true h = h

other_there : (n : ℕ) (r k e : Bool) → GoalThere n (other_plan r k e)
other_there n true k e = tt
other_there n false true true = tt
other_there n false true false = tt
other_there n false false e = tt

plan_there : (p : HardProgram) (b : ℕ) → WellFormed p → GoalThere (length p.blocks + 1) (plan_of p b)
plan_there p b w = by (first_goal b (items_of p b)) refl
  where
    by : (o : Option ℕ) → first_goal b (items_of p b) ≡ o → GoalThere (length p.blocks + 1) (plan_by p b (items_of p b) o)
    by (Some t) e = branch_there (length p.blocks + 1) t (joins p (b + 1)) (joins p t) (more_by t (length p.blocks) (first_named p b t (items_of p b) (w.named_there b) e))
    by None e = other_there (length p.blocks + 1) (returns (items_of p b)) (calls (items_of p b)) _

place_there : (p : HardProgram) (f : Fix) → NamesThere p f → PlaceThere (length p.blocks + 1) f
place_there p Plain h = tt
place_there p (Block t) h = more_by t (length p.blocks) h
place_there p (Function f) h = tt
place_there p ReturnHigh h = tt
place_there p ReturnLow h = tt

block_there : (p : HardProgram) (b : ℕ) (k : HardBlock) → WellFormed p → slice_get p.blocks b ≡ Some k → AllThere (length p.blocks + 1) k
block_there p b k w e = record {
  items = λ m d h. place_there p ((get_or k.items m d).fix) (subst (λ (z : List Item). All (λ (i : Item). NamesThere p i.fix) z) (ap block_items e) (w.named_there b) m d h);
  successors = λ m d h. more_by (get_or k.successors m d) (length p.blocks) (follower_there p b (get_or k.successors m d) w ((w.successors_are b (get_or k.successors m d) k e).0 (m, h, same k.successors m d h)));
}
  where
    same : (xs : List ℕ) (m d : ℕ) → m < length xs → get_or xs m (get_or xs m d) ≡ get_or xs m d
    same [] m d h = refl
    same (x ∷ xs) zero d h = refl
    same (x ∷ xs) (suc m) d h = same xs m d (down m (length xs) h)
      where
        down : (k n : ℕ) → suc k < suc n → k < n
        down k n h = omega arith

again : (ks : List HardBlock) (b : ℕ) (k : HardBlock) → b < length ks → get_or ks b k ≡ get_or ks b (get_or ks b k)
again [] b k h = refl
again (x ∷ ks) zero k h = refl
again (x ∷ ks) (suc b) k h = again ks b k (less b (length ks) h)
  where
    less : (k n : ℕ) → suc k < suc n → k < n
    less k n h = omega arith

all_there : (p : HardProgram) → WellFormed p → All (AllThere (length p.blocks + 1)) p.blocks
all_there p w = λ b k h. block_there p b (get_or p.blocks b k) w (slice_get_read p.blocks (length p.blocks) b (get_or p.blocks b k) refl h (again p.blocks b k h))

pub successors_there : (p : HardProgram) → WellFormed p → All (λ k. All (λ s. s < length p.blocks + 1) k.successors) p.blocks
successors_there p w = λ b k h. (all_there p w b k h).successors

-- ---- the same blocks

record Alike (P Q : ℕ → ℕ) (N : ℕ) : Type 0 where
  alike : (n : ℕ) → n < N → P n ≡ Q n

below : (b n : ℕ) → b + 1 < n → b < n
below b n h = omega arith

goal_same : (P Q : ℕ → ℕ) (N b t : ℕ) (r : Plan) → Alike P Q N → b + 1 < N → t < N → goal_place P b (relays_as r) t ≡ goal_place Q b (relays_as r) t
goal_same P Q N b t Keep a h l = a.alike t l
goal_same P Q N b t Returns a h l = a.alike t l
goal_same P Q N b t Calls a h l = a.alike t l
goal_same P Q N b t Falls a h l = a.alike t l
goal_same P Q N b t (Turns u) a h l = a.alike (b + 1) h
goal_same P Q N b t (Forks u) a h l = ap (λ (z : ℕ). z + 2) (a.alike b (below b N h))

item_same : (P Q : ℕ → ℕ) (N b : ℕ) (r : Plan) (i : Item) (f : Fix) → Alike P Q N → b + 1 < N → PlaceThere N f → put_as P b (relays_as r) i f ≡ put_as Q b (relays_as r) i f
item_same P Q N b r i Plain a h n = refl
item_same P Q N b r i (Block t) a h n = ap (λ (z : ℕ). record i { instr = turned (relays_as r) i.instr; fix = Block z }) (goal_same P Q N b t r a h n)
item_same P Q N b r i (Function f) a h n = refl
item_same P Q N b r i ReturnHigh a h n = refl
item_same P Q N b r i ReturnLow a h n = refl

items_same : (P Q : ℕ → ℕ) (N b : ℕ) (r : Plan) (xs : List Item) → Alike P Q N → b + 1 < N → All (λ i. PlaceThere N i.fix) xs → map (put_item P b (relays_as r)) xs ≡ map (put_item Q b (relays_as r)) xs
items_same P Q N b r [] a h n = refl
items_same P Q N b r (x ∷ xs) a h n =
    ap (λ (z : Item). z ∷ map (put_item P b (relays_as r)) xs) (item_same P Q N b r x x.fix a h (n 0 x (least (length xs)))) ∙
    ap (λ (z : List Item). put_item Q b (relays_as r) x ∷ z) (items_same P Q N b r xs a h (λ k d l. n (suc k) d (up k (length xs) l)))
  where
    least : (n : ℕ) → 0 < suc n
    least n = omega arith

    up : (m n : ℕ) → m < n → suc m < suc n
    up m n h = omega arith

numbers_same : (P Q : ℕ → ℕ) (N : ℕ) (xs : List ℕ) → Alike P Q N → All (λ c. c < N) xs → map P xs ≡ map Q xs
numbers_same P Q N [] a n = refl
numbers_same P Q N (x ∷ xs) a n =
    ap (λ (z : ℕ). z ∷ map P xs) (a.alike x (n 0 x (least (length xs)))) ∙ ap (λ (z : List ℕ). Q x ∷ z) (numbers_same P Q N xs a (λ k d l. n (suc k) d (up k (length xs) l)))
  where
    least : (n : ℕ) → 0 < suc n
    least n = omega arith

    up : (m n : ℕ) → m < n → suc m < suc n
    up m n h = omega arith

back_alike : (P Q : ℕ → ℕ) (N : ℕ) → Alike P Q N → Alike (return_place P) (return_place Q) N
back_alike P Q N a = record { alike = λ n h. ap (λ (z : ℕ). z + 1) (a.alike (n - 1) (less n N h)) }
  where
    less : (n m : ℕ) → n < m → n - 1 < m
    less n m h = omega arith

fallen_alike : (P Q : ℕ → ℕ) (N b : ℕ) → b + 1 < N → Alike P Q N → Alike (fallen P b) (fallen Q b) N
fallen_alike P Q N b l a = record { alike = λ n h. ap (λ (z : ℕ). cond (n == b + 1) (z + 1) (P n)) (a.alike b (below b N l)) ∙ ap (λ (z : ℕ). cond (n == b + 1) (Q b + 1) z) (a.alike n h) }

successors_same : (P Q : ℕ → ℕ) (N b : ℕ) (r : Plan) (xs : List ℕ) → Alike P Q N → b + 1 < N → All (λ c. c < N) xs → successors_as P b r xs ≡ successors_as Q b r xs
successors_same P Q N b Keep xs a h n = numbers_same P Q N xs a n
successors_same P Q N b Returns xs a h n = numbers_same (return_place P) (return_place Q) N xs (back_alike P Q N a) n
successors_same P Q N b Calls xs a h n = numbers_same P Q N xs a n
successors_same P Q N b Falls xs a h n = numbers_same (fallen P b) (fallen Q b) N xs (fallen_alike P Q N b h a) n
successors_same P Q N b (Turns t) xs a h n = ap (λ (z : ℕ). (z + 1) ∷ P (b + 1) ∷ []) (a.alike b (below b N h)) ∙ ap (λ (z : ℕ). (Q b + 1) ∷ z ∷ []) (a.alike (b + 1) h)
successors_same P Q N b (Forks t) xs a h n = ap (λ (z : ℕ). (z + 1) ∷ (z + 2) ∷ []) (a.alike b (below b N h))

jump_same : (P Q : ℕ → ℕ) (N c : ℕ) → Alike P Q N → c < N → relay_block P c ≡ relay_block Q c
jump_same P Q N c a h = ap (λ (z : ℕ). record { items = close_items (Jump z); successors = z ∷ [] }) (a.alike c h)

jumps_same : (P Q : ℕ → ℕ) (N b : ℕ) (r : Plan) → Alike P Q N → b + 1 < N → GoalThere N r → map (relay_block P) (goals b (relays_as r)) ≡ map (relay_block Q) (goals b (relays_as r))
jumps_same P Q N b Keep a h g = refl
jumps_same P Q N b Returns a h g = refl
jumps_same P Q N b Calls a h g = ap (λ (z : HardBlock). z ∷ []) (jump_same P Q N (b + 1) a h)
jumps_same P Q N b Falls a h g = ap (λ (z : HardBlock). z ∷ []) (jump_same P Q N (b + 1) a h)
jumps_same P Q N b (Turns t) a h g = ap (λ (z : HardBlock). z ∷ []) (jump_same P Q N t a g)
jumps_same P Q N b (Forks t) a h g = ap (λ (z : HardBlock). z ∷ relay_block P t ∷ []) (jump_same P Q N (b + 1) a h) ∙ ap (λ (z : HardBlock). relay_block Q (b + 1) ∷ z ∷ []) (jump_same P Q N t a g)

abbrev block_of : HardBlock → HardBlock
block_of k = k

one_block : (P Q : ℕ → ℕ) (N b : ℕ) (r : Plan) (k : HardBlock) → Alike P Q N → b + 1 < N → AllThere N k → placed_block P b r k ≡ placed_block Q b r k
one_block P Q N b r k a h n =
    ap (λ (z : List Item). block_of (record { items = z; successors = successors_as P b r k.successors })) (items_same P Q N b r k.items a h n.items) ∙
    ap (λ (z : List ℕ). block_of (record { items = map (put_item Q b (relays_as r)) k.items; successors = z })) (successors_same P Q N b r k.successors a h n.successors)

blocks_same : (P Q : ℕ → ℕ) (f g : ℕ → Plan) (N b : ℕ) (ks : List HardBlock) → Alike P Q N → b + length ks < N → ((m : ℕ) → m < length ks → f (b + m) ≡ g (b + m)) →
    ((m : ℕ) (k : HardBlock) → slice_get ks m ≡ Some k → AllThere N k) → ((m : ℕ) → m < length ks → GoalThere N (g (b + m))) → split_blocks P f b ks ≡ split_blocks Q g b ks
blocks_same P Q f g N b [] a h e n t = refl
blocks_same P Q f g N b (k ∷ ks) a h e n t =
    ap (λ (z : Plan). (placed_block P b z k ∷ map (relay_block P) (goals b (relays_as z))) ++ split_blocks P f (b + 1) ks) (ap f (none b) ∙ (e 0 (least (length ks)) ∙ ap g (sym (none b)))) ∙
    (ap (λ (z : HardBlock). (z ∷ map (relay_block P) (goals b (relays_as (g b)))) ++ split_blocks P f (b + 1) ks) (one_block P Q N b (g b) k a (here b (length ks) N h) (n 0 k refl)) ∙
    (ap (λ (z : List HardBlock). (placed_block Q b (g b) k ∷ z) ++ split_blocks P f (b + 1) ks) (jumps_same P Q N b (g b) a (here b (length ks) N h) (subst (λ (z : ℕ). GoalThere N (g z)) (sym (none b)) (t 0 (least (length ks))))) ∙
    ap (λ (z : List HardBlock). (placed_block Q b (g b) k ∷ map (relay_block Q) (goals b (relays_as (g b)))) ++ z) (blocks_same P Q f g N (b + 1) ks a (subst (λ (z : ℕ). z < N) (sym (move b (length ks))) h)
    (λ m l. ap f (move b m) ∙ (e (suc m) (up m (length ks) l) ∙ ap g (sym (move b m)))) (λ m j q. n (suc m) j q)
    (λ m l. subst (λ (z : ℕ). GoalThere N (g z)) (sym (move b m)) (t (suc m) (up m (length ks) l))))))
  where
    none : (a : ℕ) → a ≡ a + 0
    none a = omega arith

    least : (n : ℕ) → 0 < suc n
    least n = omega arith

    here : (b n m : ℕ) → b + suc n < m → b + 1 < m
    here b n m h = omega arith

    up : (m n : ℕ) → m < n → suc m < suc n
    up m n h = omega arith

    move : (a m : ℕ) → a + 1 + m ≡ a + suc m
    move a m = omega arith

-- ---- one block more

pub one_more_block : (P : ℕ → ℕ) (f : ℕ → Plan) (n : ℕ) (ks : List HardBlock) (k : HardBlock) (r : Plan) (old out all : List HardBlock) → n < length ks → k ≡ get_or ks n k → r ≡ f n → old ++ split_blocks P f n (drop n ks) ≡ all →
    out ≡ old ++ (placed_block P n r k ∷ map (relay_block P) (goals n (relays_as r))) → out ++ split_blocks P f (n + 1) (drop (n + 1) ks) ≡ all
one_more_block P f n ks k r old out all l e g i o =
    ap (λ (z : List HardBlock). z ++ split_blocks P f (n + 1) (drop (n + 1) ks)) (o ∙ ap (λ (z : Plan). old ++ (placed_block P n z k ∷ map (relay_block P) (goals n (relays_as z)))) g)
    ∙ (append_assoc old (placed_block P n (f n) k ∷ map (relay_block P) (goals n (relays_as (f n)))) (split_blocks P f (n + 1) (drop (n + 1) ks))
    ∙ (ap (λ (z : List HardBlock). old ++ z) (ap (λ (m : ℕ). split_blocks P f n (k ∷ drop m ks)) (one n) ∙ ap (λ (z : List HardBlock). split_blocks P f n z) (ap (λ (x : HardBlock). x ∷ drop (suc n) ks) e ∙ sym (drop-cons ks n k l))) ∙ i))
  where
    one : (n : ℕ) → n + 1 ≡ suc n
    one n = omega arith

-- ---- what the building asks, and what it gives

pub record Building (p : HardProgram) (plans : List declared.Plan) (places : List ℕ) : Type 0 where
  pub few : length plans < 2 ^ 30
  pub there : All (AllThere (length places)) p.blocks
  pub plans_many : length plans ≡ length p.blocks
  pub places_many : length places ≡ length p.blocks + 1
  pub goals_there : All (λ r. GoalThere (length places) (plan_as r)) plans
  pub low : All (λ n. n + 2 < 2 ^ 32) places
  pub entries : All (λ e. e < length places) p.entries
  pub blocks_are : split_blocks (slice_index places) (λ b. plan_as (get_or plans b made.Keep)) 0 p.blocks ≡ (smoothed p).blocks
  pub entries_are : map (slice_index places) p.entries ≡ map (split_place p) p.entries

map_read : (rs : List declared.Plan) (k : ℕ) (d : declared.Plan) → plan_as (get_or rs k d) ≡ get_or (map plan_as rs) k (plan_as d)
map_read [] k d = refl
map_read (r ∷ rs) zero d = refl
map_read (r ∷ rs) (suc k) d = map_read rs k d

map_long : (rs : List declared.Plan) → length (map plan_as rs) ≡ length rs
map_long [] = refl
map_long (r ∷ rs) = ap suc (map_long rs)

pub building : (p : HardProgram) (plans : List declared.Plan) (places : List ℕ) → WellFormed p → length p.blocks ≤ 65535 → map plan_as plans ≡ plan_list p → places ≡ places_by 0 (map plan_as plans) → Building p plans places
building p plans places w l e f = subst (λ (z : List ℕ). Building p plans z) (sym (f ∙ ap (places_by 0) e)) (record {
  few = few (length plans) (length p.blocks) many l;
  there = λ b k h. subst (λ (z : ℕ). AllThere z (get_or p.blocks b k)) (sym (many_places p)) (all_there p w b k h);
  plans_many = many;
  places_many = many_places p;
  goals_there = λ k d h. subst (λ (z : ℕ). GoalThere z (plan_as (get_or plans k d))) (sym (many_places p)) (subst (GoalThere (length p.blocks + 1)) (sym (read k d (subst (λ (z : ℕ). k < z) many h))) (plan_there p k w));
  low = λ k d h. low (get_or (places_by 0 (plan_list p)) k d) (length p.blocks) l (places_low 0 (0 + 3 * length (plan_list p)) (plan_list p) k d (self (0 + 3 * length (plan_list p))) h) (many_plans p);
  entries = λ k d h. subst (λ (z : ℕ). get_or p.entries k d < z) (sym (many_places p)) (more_by (get_or p.entries k d) (length p.blocks) (w.entries_there k d h));
  blocks_are = blocks_same (slice_index (places_by 0 (plan_list p))) (split_place p) (λ b. plan_as (get_or plans b made.Keep)) (plan_of p) (length p.blocks + 1) 0 p.blocks alike (edge (length p.blocks))
      (λ m h. ap (λ (z : ℕ). plan_as (get_or plans z made.Keep)) (zero_left m) ∙ (read m made.Keep h ∙ ap (plan_of p) (sym (zero_left m))))
      (λ m k q. block_there p m k w q)
      (λ m h. plan_there p (0 + m) w);
  entries_are = numbers_same (slice_index (places_by 0 (plan_list p))) (split_place p) (length p.blocks + 1) p.entries alike (λ k d h. more_by (get_or p.entries k d) (length p.blocks) (w.entries_there k d h));
})
  where
    many : length plans ≡ length p.blocks
    many = sym (map_long plans) ∙ (ap (λ (z : List Plan). length z) e ∙ many_plans p)

    few : (a n : ℕ) → a ≡ n → n ≤ 65535 → a < 2 ^ 30
    few a n e h = omega arith

    self : (n : ℕ) → n ≤ n
    self n = omega arith

    low : (x n : ℕ) → n ≤ 65535 → x ≤ 0 + 3 * length (plan_list p) → length (plan_list p) ≡ n → x + 2 < 2 ^ 32
    low x n h k e = omega arith

    edge : (n : ℕ) → 0 + n < n + 1
    edge n = omega arith

    zero_left : (m : ℕ) → 0 + m ≡ m
    zero_left m = omega arith

    down : (k n : ℕ) → k < n + 1 → k ≤ n
    down k n h = omega arith

    alike : Alike (slice_index (places_by 0 (plan_list p))) (split_place p) (length p.blocks + 1)
    alike = record { alike = λ n h. place_read p n (down n (length p.blocks) h) }

    read : (k : ℕ) (d : declared.Plan) → k < length p.blocks → plan_as (get_or plans k d) ≡ plan_of p k
    read k d h = map_read plans k d ∙ (ap (λ (z : List Plan). get_or z k (plan_as d)) e ∙ (plan_read p 0 (length p.blocks) k (plan_as d) h ∙ ap (plan_of p) (zero_left k)))
