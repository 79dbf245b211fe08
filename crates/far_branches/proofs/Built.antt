-- The far form that is built by lists is that of the definition.
use Rattle.std.proofs.Common.{◌≡◌, ◌≤◌, ◌<◌, ℕ, zero, suc, ◌+◌, ◌*◌, ◌^◌, arith, ap, refl, sym, ◌∙◌, subst, List, [], ◌∷◌, ◌++◌, length, map, get_or, Bool, true, false, cond, inl, inr}
use Rattle.std.specs.Prelude.{Option, Some, None, ◌⊎◌, ◌==◌, ◌&&◌, slice_get, slice_index, All, Contains}
use Rattle.std.specs.List.{range_with_len}
use Rattle.std.proofs.lemmas.List.Elements.{All-contains}
use Rattle.std.proofs.lemmas.Option.{slice_get_read}
use Rattle.hard_items.specs.declared.code.Fix.{Fix}
use Rattle.hard_items.specs.declared.code.Fix.TheVariants.{Plain, Block, Function, ReturnHigh, ReturnLow}
use Rattle.mips_isa.specs.declared.instr.Instr.{Instr}
use Rattle.hard_items.specs.declared.code.Item.{Item}
use Rattle.hard_items.specs.declared.code.HardBlock.{HardBlock}
use Rattle.hard_items.specs.declared.code.HardProgram.{HardProgram}
use Rattle.hard_items.specs.Run.{items_of, block_items}
use Rattle.hard_items.specs.Ways.{MayFollow}
use Rattle.hard_items.specs.WellFormed.{WellFormed, NamesThere}
use Rattle.hard_items.specs.Counts.{is_conditional}
use Rattle.block_relays.specs.Relays.{Relays, Nothing, Next, Turned, Both, goals, place_of, goal_place, put_as, put_item, relay}
use Rattle.far_branches.specs.Widen.{goal_of, far_goal, branch_goal, first_of, first_goal, is_large, far_of, far_as, far_relays, far_place, far_block, far_blocks, widened}
use Rattle.far_branches.specs.Far.{one_if, places_by, PlaceThere, AllThere, goal_fix, far_list}
use Rattle.layout_law.proofs.Agree.{follower_there}

none_some : (t : ℕ) → None ≡ Some t → ⊥
none_some t e = cc

same_some : (u t : ℕ) → Some u ≡ Some t → u ≡ t
same_some u t e = cc

-- ---- the lists

length_fars : (p : HardProgram) (b n : ℕ) → length (map (far_of p) (range_with_len b n)) ≡ n
length_fars p b zero = refl
length_fars p b (suc n) = ap suc (length_fars p (b + 1) n)

pub many_fars : (p : HardProgram) → length (far_list p) ≡ length p.blocks
many_fars p = length_fars p 0 (length p.blocks)

length_places : (at : ℕ) (os : List (Option ℕ)) → length (places_by at os) ≡ length os + 1
length_places at [] = refl
length_places at (o ∷ os) = more (length (places_by (at + 1 + one_if o) os)) (length os) (length_places (at + 1 + one_if o) os)
  where
    more : (a n : ℕ) → a ≡ n + 1 → suc a ≡ suc n + 1
    more a n e = omega arith

pub many_places : (p : HardProgram) → length (places_by 0 (far_list p)) ≡ length p.blocks + 1
many_places p = length_places 0 (far_list p) ∙ ap (λ (z : ℕ). z + 1) (many_fars p)

far_read : (p : HardProgram) (b n k : ℕ) → k < n → get_or (map (far_of p) (range_with_len b n)) k None ≡ far_of p (b + k)
far_read p b zero k h = absurd (no k h)
  where
    no : (k : ℕ) → k < 0 → ⊥
    no k h = omega arith
far_read p b (suc n) zero h = ap (far_of p) (none b)
  where
    none : (a : ℕ) → a ≡ a + 0
    none a = omega arith
far_read p b (suc n) (suc k) h = far_read p (b + 1) n k (down k n h) ∙ ap (far_of p) (move b k)
  where
    down : (k n : ℕ) → suc k < suc n → k < n
    down k n h = omega arith

    move : (a m : ℕ) → a + 1 + m ≡ a + suc m
    move a m = omega arith

step_of : (p : HardProgram) (b : ℕ) (o : Option ℕ) → far_of p b ≡ o → far_place p (b + 1) ≡ far_place p b + 1 + one_if o
step_of p b None e = ap (far_place p) (one b) ∙ (ap (λ (z : Option ℕ). far_place p b + suc (length (goals b (far_as z)))) e ∙ sum (far_place p b))
  where
    one : (b : ℕ) → b + 1 ≡ suc b
    one b = omega arith

    sum : (a : ℕ) → a + suc 0 ≡ a + 1 + 0
    sum a = omega arith
step_of p b (Some t) e = ap (far_place p) (one b) ∙ (ap (λ (z : Option ℕ). far_place p b + suc (length (goals b (far_as z)))) e ∙ sum (far_place p b))
  where
    one : (b : ℕ) → b + 1 ≡ suc b
    one b = omega arith

    sum : (a : ℕ) → a + suc 1 ≡ a + 1 + 1
    sum a = omega arith

places_read : (p : HardProgram) (b n k at : ℕ) → at ≡ far_place p b → k ≤ n → slice_index (places_by at (map (far_of p) (range_with_len b n))) k ≡ far_place p (b + k)
places_read p b zero zero at e h = e ∙ ap (far_place p) (none b)
  where
    none : (a : ℕ) → a ≡ a + 0
    none a = omega arith
places_read p b zero (suc k) at e h = absurd (no k h)
  where
    no : (k : ℕ) → suc k ≤ 0 → ⊥
    no k h = omega arith
places_read p b (suc n) zero at e h = e ∙ ap (far_place p) (none b)
  where
    none : (a : ℕ) → a ≡ a + 0
    none a = omega arith
places_read p b (suc n) (suc k) at e h = places_read p (b + 1) n k (at + 1 + one_if (far_of p b)) (ap (λ (z : ℕ). z + 1 + one_if (far_of p b)) e ∙ sym (step_of p b (far_of p b) refl)) (down k n h) ∙ ap (far_place p) (move b k)
  where
    down : (k n : ℕ) → suc k ≤ suc n → k ≤ n
    down k n h = omega arith

    move : (a m : ℕ) → a + 1 + m ≡ a + suc m
    move a m = omega arith

pub place_read : (p : HardProgram) (k : ℕ) → k ≤ length p.blocks → slice_index (places_by 0 (far_list p)) k ≡ far_place p k
place_read p k h = places_read p 0 (length p.blocks) k 0 refl h ∙ ap (far_place p) (zero_left k)
  where
    zero_left : (m : ℕ) → 0 + m ≡ m
    zero_left m = omega arith

places_low : (at m : ℕ) (os : List (Option ℕ)) (k d : ℕ) → at + 2 * length os ≤ m → k < length (places_by at os) → get_or (places_by at os) k d ≤ m
places_low at m [] zero d h l = less at m h
  where
    less : (a m : ℕ) → a + 2 * 0 ≤ m → a ≤ m
    less a m h = omega arith
places_low at m [] (suc k) d h l = absurd (no k l)
  where
    no : (k : ℕ) → suc k < 1 → ⊥
    no k h = omega arith
places_low at m (o ∷ os) zero d h l = less at (length os) m h
  where
    less : (a n m : ℕ) → a + 2 * suc n ≤ m → a ≤ m
    less a n m h = omega arith
places_low at m (o ∷ os) (suc k) d h l = places_low (at + 1 + one_if o) m os k d (less at (one_if o) (length os) m (two o) h) (down k (length (places_by (at + 1 + one_if o) os)) l)
  where
    two : (o : Option ℕ) → one_if o ≤ 1
    two None = omega arith
    two (Some t) = omega arith

    less : (a x n m : ℕ) → x ≤ 1 → a + 2 * suc n ≤ m → a + 1 + x + 2 * n ≤ m
    less a x n m e h = omega arith

    down : (k n : ℕ) → suc k < suc n → k < n
    down k n h = omega arith

-- ---- what is named is there

goal_named : (p : HardProgram) (b t : ℕ) (f : Fix) (z : Bool) → NamesThere p f → cond z (far_goal b (goal_of f)) None ≡ Some t → t < length p.blocks
goal_named p b t (Block u) true n e = subst (λ (x : ℕ). x < length p.blocks) (by (u == b + 1) e) n
  where
    by : (y : Bool) → cond y None (Some u) ≡ Some t → u ≡ t
    by true e = absurd (none_some t e)
    by false e = same_some u t e
goal_named p b t Plain true n e = absurd (none_some t e)
goal_named p b t (Function f) true n e = absurd (none_some t e)
goal_named p b t ReturnHigh true n e = absurd (none_some t e)
goal_named p b t ReturnLow true n e = absurd (none_some t e)
goal_named p b t f false n e = absurd (none_some t e)

first_named : (p : HardProgram) (b t : ℕ) (xs : List Item) → All (λ i. NamesThere p i.fix) xs → first_goal b xs ≡ Some t → t < length p.blocks
first_named p b t [] a e = absurd (none_some t e)
first_named p b t (i ∷ more) a e = by (first_named p b t more (λ k d h. a (suc k) d (up k (length more) h))) (branch_goal b i) refl e
  where
    up : (m n : ℕ) → m < n → suc m < suc n
    up m n h = omega arith

    least : (n : ℕ) → 0 < suc n
    least n = omega arith

    by : (first_goal b more ≡ Some t → t < length p.blocks) → (o : Option ℕ) → branch_goal b i ≡ o → first_of o (first_goal b more) ≡ Some t → t < length p.blocks
    by f (Some u) k e = goal_named p b t i.fix (is_conditional i.instr) (a 0 i (least (length more))) (k ∙ e)
    by f None k e = f e

pub far_named : (p : HardProgram) (b t : ℕ) → WellFormed p → far_of p b ≡ Some t → t < length p.blocks
far_named p b t w e = first_named p b t (items_of p b) (w.named_there b) (by (is_large p b) e)
  where
    by : (z : Bool) → cond z (first_goal b (items_of p b)) None ≡ Some t → first_goal b (items_of p b) ≡ Some t
    by true e = e
    by false e = absurd (none_some t e)

more_by : (a n : ℕ) → a < n → a < n + 1
more_by a n h = omega arith

place_there : (p : HardProgram) (f : Fix) → NamesThere p f → PlaceThere (length p.blocks + 1) f
place_there p Plain h = tt
place_there p (Block t) h = more_by t (length p.blocks) h
place_there p (Function f) h = tt
place_there p ReturnHigh h = tt
place_there p ReturnLow h = tt

block_there : (p : HardProgram) (b : ℕ) (k : HardBlock) → WellFormed p → slice_get p.blocks b ≡ Some k → AllThere (length p.blocks + 1) k
block_there p b k w e = record {
  items = λ m d h. place_there p ((get_or k.items m d).fix) (subst (λ (z : List Item). All (λ (i : Item). NamesThere p i.fix) z) (ap block_items e) (w.named_there b) m d h);
  successors = λ m d h. more_by (get_or k.successors m d) (length p.blocks) (follower_there p b (get_or k.successors m d) w ((w.successors_are b (get_or k.successors m d) k e).0 (m, h, same k.successors m d h)));
}
  where
    same : (xs : List ℕ) (m d : ℕ) → m < length xs → get_or xs m (get_or xs m d) ≡ get_or xs m d
    same [] m d h = refl
    same (x ∷ xs) zero d h = refl
    same (x ∷ xs) (suc m) d h = same xs m d (down m (length xs) h)
      where
        down : (k n : ℕ) → suc k < suc n → k < n
        down k n h = omega arith

-- ---- the same blocks

record Alike (P Q : ℕ → ℕ) (N : ℕ) : Type 0 where
  alike : (n : ℕ) → n < N → P n ≡ Q n

item_same : (P Q : ℕ → ℕ) (N b : ℕ) (r : Option ℕ) (i : Item) (f : Fix) → Alike P Q N → b + 1 < N → PlaceThere N f → put_as P b (far_as r) i f ≡ put_as Q b (far_as r) i f
item_same P Q N b r i Plain a h n = refl
item_same P Q N b None i (Block t) a h n = ap (λ (z : ℕ). record i { instr = i.instr; fix = Block z }) (a.alike t n)
item_same P Q N b (Some u) i (Block t) a h n = ap (λ (z : ℕ). record i { instr = Rattle.block_relays.specs.Renumber.opposite i.instr; fix = Block z }) (a.alike (b + 1) h)
item_same P Q N b r i (Function f) a h n = refl
item_same P Q N b r i ReturnHigh a h n = refl
item_same P Q N b r i ReturnLow a h n = refl

items_same : (P Q : ℕ → ℕ) (N b : ℕ) (r : Option ℕ) (xs : List Item) → Alike P Q N → b + 1 < N → All (λ i. PlaceThere N i.fix) xs → map (put_item P b (far_as r)) xs ≡ map (put_item Q b (far_as r)) xs
items_same P Q N b r [] a h n = refl
items_same P Q N b r (x ∷ xs) a h n =
    ap (λ (z : Item). z ∷ map (put_item P b (far_as r)) xs) (item_same P Q N b r x x.fix a h (n 0 x (least (length xs)))) ∙
    ap (λ (z : List Item). put_item Q b (far_as r) x ∷ z) (items_same P Q N b r xs a h (λ k d l. n (suc k) d (up k (length xs) l)))
  where
    least : (n : ℕ) → 0 < suc n
    least n = omega arith

    up : (m n : ℕ) → m < n → suc m < suc n
    up m n h = omega arith

pub record Same (P Q : ℕ → ℕ) (xs : List ℕ) : Type 0 where
  pub same : map P xs ≡ map Q xs

numbers_same : (P Q : ℕ → ℕ) (N : ℕ) (xs : List ℕ) → Alike P Q N → All (λ c. c < N) xs → map P xs ≡ map Q xs
numbers_same P Q N [] a n = refl
numbers_same P Q N (x ∷ xs) a n =
    ap (λ (z : ℕ). z ∷ map P xs) (a.alike x (n 0 x (least (length xs)))) ∙ ap (λ (z : List ℕ). Q x ∷ z) (numbers_same P Q N xs a (λ k d l. n (suc k) d (up k (length xs) l)))
  where
    least : (n : ℕ) → 0 < suc n
    least n = omega arith

    up : (m n : ℕ) → m < n → suc m < suc n
    up m n h = omega arith

one_block : (P Q : ℕ → ℕ) (N b : ℕ) (o : Option ℕ) (k : HardBlock) → Alike P Q N → b + 1 < N → AllThere N k → PlaceThere N (goal_fix o) → far_block P b o k ≡ far_block Q b o k
one_block P Q N b None k a h n g =
    ap (λ (z : List Item). record { items = z; successors = map P k.successors } ∷ []) (items_same P Q N b None k.items a h n.items) ∙
    ap (λ (z : List ℕ). record { items = map (put_item Q b Nothing) k.items; successors = z } ∷ []) (numbers_same P Q N k.successors a n.successors)
one_block P Q N b (Some t) k a h n g =
    ap (λ (z : List Item). record { items = z; successors = (P b + 1) ∷ P (b + 1) ∷ [] } ∷ record { items = relay P t; successors = P t ∷ [] } ∷ []) (items_same P Q N b (Some t) k.items a h n.items) ∙
    (ap (λ (z : ℕ). record { items = map (put_item Q b (Turned t)) k.items; successors = (z + 1) ∷ P (b + 1) ∷ [] } ∷ record { items = relay P t; successors = P t ∷ [] } ∷ []) (a.alike b (less b N h)) ∙
    (ap (λ (z : ℕ). record { items = map (put_item Q b (Turned t)) k.items; successors = (Q b + 1) ∷ z ∷ [] } ∷ record { items = relay P t; successors = P t ∷ [] } ∷ []) (a.alike (b + 1) h) ∙
    ap (λ (z : ℕ). record { items = map (put_item Q b (Turned t)) k.items; successors = (Q b + 1) ∷ Q (b + 1) ∷ [] } ∷ record { items = Rattle.hard_items.specs.Forms.close_items (Rattle.hard_items.specs.Forms.Jump z); successors = z ∷ [] } ∷ []) (a.alike t g)))
  where
    less : (b n : ℕ) → b + 1 < n → b < n
    less b n h = omega arith

blocks_same : (P Q : ℕ → ℕ) (f g : ℕ → Option ℕ) (N b : ℕ) (ks : List HardBlock) → Alike P Q N → b + length ks < N → ((m : ℕ) → m < length ks → f (b + m) ≡ g (b + m)) →
    ((m : ℕ) (k : HardBlock) → slice_get ks m ≡ Some k → AllThere N k) → ((m : ℕ) → m < length ks → PlaceThere N (goal_fix (g (b + m)))) → far_blocks P f b ks ≡ far_blocks Q g b ks
blocks_same P Q f g N b [] a h e n t = refl
blocks_same P Q f g N b (k ∷ ks) a h e n t =
    ap (λ (z : Option ℕ). far_block P b z k ++ far_blocks P f (b + 1) ks) (ap f (none b) ∙ (e 0 (least (length ks)) ∙ ap g (sym (none b)))) ∙
    (ap (λ (z : List HardBlock). z ++ far_blocks P f (b + 1) ks) (one_block P Q N b (g b) k a (here b (length ks) N h) (n 0 k refl) (subst (λ (z : ℕ). PlaceThere N (goal_fix (g z))) (sym (none b)) (t 0 (least (length ks))))) ∙
    ap (λ (z : List HardBlock). far_block Q b (g b) k ++ z) (blocks_same P Q f g N (b + 1) ks a (subst (λ (z : ℕ). z < N) (sym (move b (length ks))) h)
    (λ m l. ap f (move b m) ∙ (e (suc m) (up m (length ks) l) ∙ ap g (sym (move b m)))) (λ m j q. n (suc m) j q)
    (λ m l. subst (λ (z : ℕ). PlaceThere N (goal_fix (g z))) (sym (move b m)) (t (suc m) (up m (length ks) l)))))
  where
    none : (a : ℕ) → a ≡ a + 0
    none a = omega arith

    least : (n : ℕ) → 0 < suc n
    least n = omega arith

    here : (b n m : ℕ) → b + suc n < m → b + 1 < m
    here b n m h = omega arith

    up : (m n : ℕ) → m < n → suc m < suc n
    up m n h = omega arith

    move : (a m : ℕ) → a + 1 + m ≡ a + suc m
    move a m = omega arith

-- ---- what the building asks, and what it gives

pub record Building (p : HardProgram) (fars : List (Option ℕ)) (places : List ℕ) : Type 0 where
  pub few : length fars < 2 ^ 31
  pub there : All (AllThere (length places)) p.blocks
  pub fars_many : length fars ≡ length p.blocks
  pub places_many : length places ≡ length p.blocks + 1
  pub goals : All (λ o. PlaceThere (length places) (goal_fix o)) fars
  pub low : All (λ n. n + 1 < 2 ^ 32) places
  pub entries : All (λ e. e < length places) p.entries
  pub blocks_are : far_blocks (slice_index places) (λ b. get_or fars b None) 0 p.blocks ≡ (widened p).blocks
  pub entries_are : map (slice_index places) p.entries ≡ map (far_place p) p.entries

pub building : (p : HardProgram) (fars : List (Option ℕ)) (places : List ℕ) → WellFormed p → length p.blocks ≤ 65535 → fars ≡ far_list p → places ≡ places_by 0 fars → Building p fars places
building p fars places w l e f = subst (λ (z : List (Option ℕ)). Building p z places) (sym e) (subst (λ (z : List ℕ). Building p (far_list p) z) (sym (f ∙ ap (places_by 0) e)) (record {
  few = few (length (far_list p)) (length p.blocks) (many_fars p) l;
  there = λ b k h. subst (λ (z : ℕ). AllThere z (get_or p.blocks b k)) (sym (many_places p)) (block_there p b (get_or p.blocks b k) w (slice_get_read p.blocks (length p.blocks) b (get_or p.blocks b k) refl h (again p.blocks b k h)));
  fars_many = many_fars p;
  places_many = many_places p;
  goals = λ k d h. subst (λ (z : ℕ). PlaceThere z (goal_fix (get_or (far_list p) k d))) (sym (many_places p)) (goal (get_or (far_list p) k d) k (read k d h));
  low = λ k d h. low (get_or (places_by 0 (far_list p)) k d) (length p.blocks) l (places_low 0 (0 + 2 * length (far_list p)) (far_list p) k d (self (0 + 2 * length (far_list p))) h) (many_fars p);
  entries = λ k d h. subst (λ (z : ℕ). get_or p.entries k d < z) (sym (many_places p)) (more_by (get_or p.entries k d) (length p.blocks) (w.entries_there k d h));
  blocks_are = blocks_same (slice_index (places_by 0 (far_list p))) (far_place p) (λ b. get_or (far_list p) b None) (far_of p) (length p.blocks + 1) 0 p.blocks alike (edge (length p.blocks))
      (λ m h. ap (λ (z : ℕ). get_or (far_list p) z None) (zero_left m) ∙ (far_read p 0 (length p.blocks) m h))
      (λ m k q. block_there p m k w q)
      (λ m h. goal (far_of p (0 + m)) (0 + m) refl);
  entries_are = numbers_same (slice_index (places_by 0 (far_list p))) (far_place p) (length p.blocks + 1) p.entries alike (λ k d h. more_by (get_or p.entries k d) (length p.blocks) (w.entries_there k d h));
}))
  where
    few : (a n : ℕ) → a ≡ n → n ≤ 65535 → a < 2 ^ 31
    few a n e h = omega arith

    self : (n : ℕ) → n ≤ n
    self n = omega arith

    low : (x n : ℕ) → n ≤ 65535 → x ≤ 0 + 2 * length (far_list p) → length (far_list p) ≡ n → x + 1 < 2 ^ 32
    low x n h k e = omega arith

    edge : (n : ℕ) → 0 + n < n + 1
    edge n = omega arith

    zero_left : (m : ℕ) → 0 + m ≡ m
    zero_left m = omega arith

    down : (k n : ℕ) → k < n + 1 → k ≤ n
    down k n h = omega arith

    again : (ks : List HardBlock) (b : ℕ) (k : HardBlock) → b < length ks → get_or ks b k ≡ get_or ks b (get_or ks b k)
    again [] b k h = refl
    again (x ∷ ks) zero k h = refl
    again (x ∷ ks) (suc b) k h = again ks b k (less b (length ks) h)
      where
        less : (k n : ℕ) → suc k < suc n → k < n
        less k n h = omega arith

    alike : Alike (slice_index (places_by 0 (far_list p))) (far_place p) (length p.blocks + 1)
    alike = record { alike = λ n h. place_read p n (down n (length p.blocks) h) }

    goal : (o : Option ℕ) (b : ℕ) → far_of p b ≡ o → PlaceThere (length p.blocks + 1) (goal_fix o)
    goal None b q = tt
    goal (Some t) b q = more_by t (length p.blocks) (far_named p b t w q)

    read_at : (b n k : ℕ) (d : Option ℕ) → k < n → far_of p (b + k) ≡ get_or (map (far_of p) (range_with_len b n)) k d
    read_at b zero k d h = absurd (omega arith)
    read_at b (suc n) zero d h = ap (far_of p) (zero_right b)
      where
        zero_right : (a : ℕ) → a + 0 ≡ a
        zero_right a = omega arith
    read_at b (suc n) (suc k) d h = ap (far_of p) (move b k) ∙ read_at (b + 1) n k d (less k n h)
      where
        less : (k n : ℕ) → suc k < suc n → k < n
        less k n h = omega arith

        move : (a m : ℕ) → a + suc m ≡ a + 1 + m
        move a m = omega arith

    read : (k : ℕ) (d : Option ℕ) → k < length (far_list p) → far_of p k ≡ get_or (far_list p) k d
    read k d h = ap (far_of p) (sym (zero_left k)) ∙ read_at 0 (length p.blocks) k d (subst (λ (z : ℕ). k < z) (many_fars p) h)
