-- The lists of successors of the far form are those of its blocks.
use Rattle.std.proofs.Common.{◌≡◌, ◌≤◌, ◌<◌, ℕ, zero, suc, ◌+◌, arith, ap, refl, sym, ◌∙◌, subst, List, [], ◌∷◌, length, map, inl, inr}
use Rattle.std.specs.Prelude.{Option, Some, None, ◌⊎◌, ◌↔◌, slice_get, Contains}
use Rattle.hard_items.specs.declared.code.HardBlock.{HardBlock}
use Rattle.hard_items.specs.declared.code.HardProgram.{HardProgram}
use Rattle.hard_items.specs.Run.{items_of}
use Rattle.hard_items.specs.Ways.{MayFollow, CallsFunction}
use Rattle.hard_items.specs.WellFormed.{WellFormed}
use Rattle.hard_items.specs.Forms.{Close, Jump, Branch, Call, Return, Exit, close_items, Formed}
use Rattle.block_relays.specs.Relays.{Relays, Nothing, Turned, goals, relay}
use Rattle.block_relays.proofs.Keeps.{put_close}
use Rattle.block_relays.proofs.Relays.{place_up, get_map, got_map, calls_put, place_next, holds_there}
use Rattle.block_relays.proofs.Roles.{BranchesTo}
use Rattle.far_branches.specs.Widen.{far_of, far_as, far_relays, far_place, widened}
use Rattle.layout_moves_law.proofs.Closes.{Leads, leads, follows, calls_close}
use Rattle.layout_moves_law.proofs.Places.{Put, Located, at_place, at_relay, located, in_function}
use Rattle.layout_moves_law.proofs.Ways.{Caller, caller, place_leads, leads_place, relay_leads, leads_relay}
use Rattle.layout_moves_law.proofs.WellFormed.{Lists}
use Rattle.layout_moves_law.proofs.Far.{far_branches, far_put, few_blocks, far_first, placed_block, placed_relay}

none_some : {A : Type 0} (t : A) → None ≡ Some t → ⊥
none_some t e = cc

same_some : (u t : ℕ) → Some u ≡ Some t → u ≡ t
same_some u t e = cc

same_block : (x y : HardBlock) → Some x ≡ Some y → x ≡ y
same_block x y e = cc

get_there : (ks : List HardBlock) (b : ℕ) → b < length ks → (k : HardBlock) × (slice_get ks b ≡ Some k)
get_there [] b l = absurd (no b l)
  where
    no : (n : ℕ) → n < 0 → ⊥
    no n h = omega arith
get_there (x ∷ ks) zero l = (x, refl)
get_there (x ∷ ks) (suc b) l = get_there ks b (less b (length ks) l)
  where
    less : (a b : ℕ) → suc a < suc b → a < b
    less a b h = omega arith

there_get : (ks : List HardBlock) (b : ℕ) (k : HardBlock) → slice_get ks b ≡ Some k → b < length ks
there_get [] b k e = absurd (none_some k e)
there_get (x ∷ ks) zero k e = omega arith
there_get (x ∷ ks) (suc b) k e = omega (arith, there_get ks b k e)

contains_map : (f : ℕ → ℕ) (xs : List ℕ) (x : ℕ) → Contains xs x → Contains (map f xs) (f x)
contains_map f [] x c = absurd (no c.0 c.1)
  where
    no : (n : ℕ) → n < 0 → ⊥
    no n h = omega arith
contains_map f (y ∷ xs) x (zero, l, e) = (0, up (length (map f xs)), ap f e)
  where
    up : (n : ℕ) → 0 < suc n
    up n = omega arith
contains_map f (y ∷ xs) x (suc k, l, e) =
    let c : Contains (map f xs) (f x) = contains_map f xs x (k, less k (length xs) l, e) in
    (suc c.0, up c.0 (length (map f xs)) c.1, c.2)
  where
    less : (a b : ℕ) → suc a < suc b → a < b
    less a b h = omega arith

    up : (a b : ℕ) → a < b → suc a < suc b
    up a b h = omega arith

map_contains : (f : ℕ → ℕ) (xs : List ℕ) (y : ℕ) → Contains (map f xs) y → (x : ℕ) × (Contains xs x × (y ≡ f x))
map_contains f [] y c = absurd (no c.0 c.1)
  where
    no : (n : ℕ) → n < 0 → ⊥
    no n h = omega arith
map_contains f (x ∷ xs) y (zero, l, e) = (x, ((0, up (length xs), refl), sym e))
  where
    up : (n : ℕ) → 0 < suc n
    up n = omega arith
map_contains f (x ∷ xs) y (suc k, l, e) =
    let c : (x : ℕ) × (Contains xs x × (y ≡ f x)) = map_contains f xs y (k, less k (length (map f xs)) l, e) in
    (c.0, ((suc c.1.0.0, up c.1.0.0 (length xs) c.1.0.1, c.1.0.2), c.1.1))
  where
    less : (a b : ℕ) → suc a < suc b → a < b
    less a b h = omega arith

    up : (a b : ℕ) → a < b → suc a < suc b
    up a b h = omega arith

two_contains : (x y m : ℕ) → Contains (x ∷ y ∷ []) m → (m ≡ y) ⊎ (m ≡ x)
two_contains x y m (zero, l, e) = inr (sym e)
two_contains x y m (suc zero, l, e) = inl (sym e)
two_contains x y m (suc (suc k), l, e) = absurd (no k l)
  where
    no : (k : ℕ) → suc (suc k) < 2 → ⊥
    no k h = omega arith

contains_two : (x y m : ℕ) → (m ≡ y) ⊎ (m ≡ x) → Contains (x ∷ y ∷ []) m
contains_two x y m (inl e) = (1, omega arith, sym e)
contains_two x y m (inr e) = (0, omega arith, sym e)

one_contains : (x m : ℕ) → Contains (x ∷ []) m → m ≡ x
one_contains x m (zero, l, e) = sym e
one_contains x m (suc k, l, e) = absurd (no k l)
  where
    no : (k : ℕ) → suc k < 1 → ⊥
    no k h = omega arith

contains_one : (x m : ℕ) → m ≡ x → Contains (x ∷ []) m
contains_one x m e = (0, omega arith, sym e)

-- What is said of the list of one block.
pub record Listed (q : HardProgram) (n : ℕ) (successors : List ℕ) : Type 0 where
  pub ascend : (k c d : ℕ) → slice_get successors k ≡ Some c → slice_get successors (k + 1) ≡ Some d → c < d
  pub are : (c : ℕ) → Contains successors c ↔ MayFollow q n c

module _ (p : HardProgram) (w : WellFormed p) (g : (b : ℕ) → b < length p.blocks → Formed (items_of p b)) where
  -- the program and its far form
  abbrev a : Put (far_relays p) p (widened p)
  a = far_put p w g

  call_nothing : (b f : ℕ) → CallsFunction p b f → far_place p (b + 1) ≡ far_place p b + 1
  call_nothing b f c = by (far_of p b) refl
    where
      l : b < length p.blocks
      l = holds_there p b c.item c.holds

      by : (o : Option ℕ) → far_of p b ≡ o → far_place p (b + 1) ≡ far_place p b + 1
      by None e = sym (place_next (far_relays p) b Nothing (ap far_as e))
      by (Some t) e = absurd (subst (λ (z : Close). BranchesTo z t) (calls_close p b f (g b l) c) (far_branches p b t (g b l) e))

  -- ---- a block that is not far

  plain_leads : (b x : ℕ) (l : b < length p.blocks) → far_of p b ≡ None → (c : Close) → Leads p b c x → Leads (widened p) (far_place p b) (put_close (far_place p) b Nothing c) (far_place p x)
  plain_leads b x l e (Jump t) h = ap (far_place p) h
  plain_leads b x l e (Branch checked m when t) (inl h) = inl (ap (far_place p) h)
  plain_leads b x l e (Branch checked m when t) (inr h) = inr (ap (far_place p) h ∙ sym (place_next (far_relays p) b Nothing (ap far_as e)))
  plain_leads b x l e (Call f) h = get_map (far_place p) p.entries f x h
  plain_leads b x l e (Return checked) h =
      (h.0, (far_place p h.1.0, ((in_function (far_relays p) p (widened p) a.has b (far_place p b) h.0 (self (far_place p b)) (place_up (far_relays p) b (b + 1) (one b))).1 h.1.1.0, (calls_put (far_relays p) p (widened p) a.has h.1.0 h.0 h.1.1.1.0, ap (far_place p) h.1.1.1.1 ∙ call_nothing h.1.0 h.0 h.1.1.1.0))))
    where
      self : (a : ℕ) → a ≤ a
      self a = omega arith

      one : (b : ℕ) → b < b + 1
      one b = omega arith
  plain_leads b x l e (Exit checked) h = h

  led_plainly : (b m : ℕ) (l : b < length p.blocks) → far_of p b ≡ None → (c : Close) → Leads (widened p) (far_place p b) (put_close (far_place p) b Nothing c) m → (x : ℕ) × (Leads p b c x × (m ≡ far_place p x))
  led_plainly b m l e (Jump t) h = (t, (refl, h))
  led_plainly b m l e (Branch checked r when t) (inl h) = (t, (inl refl, h))
  led_plainly b m l e (Branch checked r when t) (inr h) = (b + 1, (inr refl, h ∙ place_next (far_relays p) b Nothing (ap far_as e)))
  led_plainly b m l e (Call f) h = let x : (x : ℕ) × (slice_get p.entries f ≡ Some x) × (m ≡ far_place p x) = got_map (far_place p) p.entries f m h in (x.0, (x.1, x.2))
  led_plainly b m l e (Return checked) h =
      let k : Caller (far_relays p) p h.1.0 h.0 = caller (far_relays p) p (widened p) a h.1.0 h.0 h.1.1.1.0 in
      (k.block + 1, ((h.0, (k.block, ((in_function (far_relays p) p (widened p) a.has b (far_place p b) h.0 (self (far_place p b)) (place_up (far_relays p) b (b + 1) (one b))).0 h.1.1.0, (k.calls, refl)))), h.1.1.1.1 ∙ (ap (λ (z : ℕ). z + 1) k.is ∙ sym (call_nothing k.block h.0 k.calls))))
    where
      self : (a : ℕ) → a ≤ a
      self a = omega arith

      one : (b : ℕ) → b < b + 1
      one b = omega arith
  led_plainly b m l e (Exit checked) h = absurd h

  plainly : (b : ℕ) (k : HardBlock) (l : b < length p.blocks) → slice_get p.blocks b ≡ Some k → far_of p b ≡ None → Listed (widened p) (far_place p b) (map (far_place p) k.successors)
  plainly b k l s e = record {
    ascend = λ j c d x y.
        let u : (u : ℕ) × (slice_get k.successors j ≡ Some u) × (c ≡ far_place p u) = got_map (far_place p) k.successors j c x in
        let v : (v : ℕ) × (slice_get k.successors (j + 1) ≡ Some v) × (d ≡ far_place p v) = got_map (far_place p) k.successors (j + 1) d y in
        less c d (far_place p u.0) (far_place p v.0) u.2 v.2 (place_up (far_relays p) u.0 v.0 (w.successors_ascend b j u.0 v.0 k s u.1 v.1));
    are = λ m. (
      (λ c. let x : (x : ℕ) × (Contains k.successors x × (m ≡ far_place p x)) = map_contains (far_place p) k.successors m c in
          subst (MayFollow (widened p) (far_place p b)) (sym x.1.1) (leads_place (far_relays p) p (widened p) a b (far_place p x.0) l
          (subst (λ (r : Relays). Leads (widened p) (far_place p b) (put_close (far_place p) b r ((g b l).close)) (far_place p x.0)) (sym (ap far_as e)) (plain_leads b x.0 l e ((g b l).close) (leads p b x.0 (g b l) ((w.successors_are b x.0 k s).0 x.1.0)))))),
      (λ f. let x : (x : ℕ) × (Leads p b ((g b l).close) x × (m ≡ far_place p x)) =
          led_plainly b m l e ((g b l).close) (subst (λ (r : Relays). Leads (widened p) (far_place p b) (put_close (far_place p) b r ((g b l).close)) m) (ap far_as e) (place_leads (far_relays p) p (widened p) a b m l f)) in
          subst (Contains (map (far_place p) k.successors)) (sym x.1.1) (contains_map (far_place p) k.successors x.0 ((w.successors_are b x.0 k s).1 (follows p b x.0 (g b l) x.1.0)))),
    );
  }
    where
      less : (c d u v : ℕ) → c ≡ u → d ≡ v → u < v → c < d
      less c d u v e f h = omega arith

  -- ---- a far block

  far_leads : (b t m : ℕ) (c : Close) → BranchesTo c t → Leads (widened p) (far_place p b) (put_close (far_place p) b (Turned t) c) m ↔ ((m ≡ far_place p (b + 1)) ⊎ (m ≡ far_place p b + 1))
  far_leads b t m (Branch checked r when u) h = ((λ x. x), (λ x. x))
  far_leads b t m (Jump u) h = absurd h
  far_leads b t m (Call f) h = absurd h
  far_leads b t m (Return checked) h = absurd h
  far_leads b t m (Exit checked) h = absurd h

  farther : (b t : ℕ) (l : b < length p.blocks) → far_of p b ≡ Some t → Listed (widened p) (far_place p b) ((far_place p b + 1) ∷ far_place p (b + 1) ∷ [])
  farther b t l e = record {
    ascend = λ k c d x y. by k c d x y;
    are = λ m. (
      (λ c. leads_place (far_relays p) p (widened p) a b m l (subst (λ (r : Relays). Leads (widened p) (far_place p b) (put_close (far_place p) b r ((g b l).close)) m) (sym (ap far_as e))
          ((far_leads b t m ((g b l).close) (far_branches p b t (g b l) e)).1 (two_contains (far_place p b + 1) (far_place p (b + 1)) m c)))),
      (λ f. contains_two (far_place p b + 1) (far_place p (b + 1)) m ((far_leads b t m ((g b l).close) (far_branches p b t (g b l) e)).0
          (subst (λ (r : Relays). Leads (widened p) (far_place p b) (put_close (far_place p) b r ((g b l).close)) m) (ap far_as e) (place_leads (far_relays p) p (widened p) a b m l f)))),
    );
  }
    where
      next : far_place p b + suc 1 ≡ far_place p (b + 1)
      next = place_next (far_relays p) b (Turned t) (ap far_as e)

      less : (a n c d : ℕ) → a + suc 1 ≡ n → a + 1 ≡ c → n ≡ d → c < d
      less a n c d e f h = omega arith

      by : (k c d : ℕ) → slice_get ((far_place p b + 1) ∷ far_place p (b + 1) ∷ []) k ≡ Some c → slice_get ((far_place p b + 1) ∷ far_place p (b + 1) ∷ []) (k + 1) ≡ Some d → c < d
      by zero c d x y = less (far_place p b) (far_place p (b + 1)) c d next (same_some (far_place p b + 1) c x) (same_some (far_place p (b + 1)) d y)
      by (suc zero) c d x y = absurd (none_some d y)
      by (suc (suc k)) c d x y = absurd (none_some c x)

  -- ---- a block that is put

  relaying : (n t : ℕ) → items_of (widened p) n ≡ close_items (Jump t) → Listed (widened p) n (t ∷ [])
  relaying n t e = record {
    ascend = λ k c d x y. by k c d x y;
    are = λ m. (
      (λ c. subst (MayFollow (widened p) n) (sym (one_contains t m c)) (leads_relay (far_relays p) p (widened p) a n t e)),
      (λ f. contains_one t m (relay_leads (far_relays p) p (widened p) a n t m e f)),
    );
  }
    where
      one : (k : ℕ) → k + 1 ≡ suc k
      one k = omega arith

      by : (k c d : ℕ) → slice_get (t ∷ []) k ≡ Some c → slice_get (t ∷ []) (k + 1) ≡ Some d → c < d
      by k c d x y = absurd (none_some d (sym (ap (slice_get (t ∷ [])) (one k)) ∙ y))

  -- ---- each block

  first_listed : (b : ℕ) (k : HardBlock) (l : b < length p.blocks) → slice_get p.blocks b ≡ Some k → (o : Option ℕ) → far_of p b ≡ o → Listed (widened p) (far_place p b) ((far_first (far_place p) b o k).successors)
  first_listed b k l s None e = plainly b k l s e
  first_listed b k l s (Some t) e = farther b t l e

  goal_of_far : (b r c : ℕ) → slice_get (goals b (far_relays p b)) r ≡ Some c → (r ≡ 0) × (far_of p b ≡ Some c)
  goal_of_far b r c s = by (far_of p b) refl r s
    where
      by : (o : Option ℕ) → far_of p b ≡ o → (r : ℕ) → slice_get (goals b (far_as (far_of p b))) r ≡ Some c → (r ≡ 0) × (far_of p b ≡ Some c)
      by None e r s = absurd (none_some c (sym (ap (λ (z : Option ℕ). slice_get (goals b (far_as z)) r) e) ∙ s))
      by (Some t) e zero s = (refl, e ∙ (sym (ap (λ (z : Option ℕ). slice_get (goals b (far_as z)) 0) e) ∙ s))
      by (Some t) e (suc r) s = absurd (none_some c (sym (ap (λ (z : Option ℕ). slice_get (goals b (far_as z)) (suc r)) e) ∙ s))

  each_listed : (n : ℕ) (block : HardBlock) → slice_get (widened p).blocks n ≡ Some block → Listed (widened p) n block.successors
  each_listed n block s = by (located (far_relays p) p (widened p) a.has n (there_get (widened p).blocks n block s))
    where
      at : (n m : ℕ) (x : HardBlock) → n ≡ m → slice_get (widened p).blocks n ≡ Some block → slice_get (widened p).blocks m ≡ Some x → Listed (widened p) m x.successors → Listed (widened p) n block.successors
      at n m x e s t h = subst (λ (z : ℕ). Listed (widened p) z block.successors) (sym e) (subst (λ (y : HardBlock). Listed (widened p) m y.successors) (same_block x block (sym t ∙ (ap (slice_get (widened p).blocks) (sym e) ∙ s))) h)

      by : Located (far_relays p) p (widened p) n → Listed (widened p) n block.successors
      by (at_place b l e) =
          let k : (k : HardBlock) × (slice_get p.blocks b ≡ Some k) = get_there p.blocks b l in
          at n (far_place p b) (far_first (far_place p) b (far_of p b) k.0) e s (placed_block p b k.0 k.1) (first_listed b k.0 l k.1 (far_of p b) refl)
      by (at_relay b r c l j e i) =
          let k : (k : HardBlock) × (slice_get p.blocks b ≡ Some k) = get_there p.blocks b l in
          let z : (r ≡ 0) × (far_of p b ≡ Some c) = goal_of_far b r c j in
          let here : n ≡ far_place p b + 1 = e ∙ ap (λ (y : ℕ). far_place p b + suc y) z.0 in
          at n (far_place p b + 1) (record { items = relay (far_place p) c; successors = far_place p c ∷ [] }) here s (placed_relay p b c k.0 k.1 z.1)
          (relaying (far_place p b + 1) (far_place p c) (subst (λ (y : ℕ). items_of (widened p) y ≡ close_items (Jump (far_place p c))) here i))

  pub far_lists : length p.blocks ≤ 65535 → Lists (widened p)
  far_lists h = record {
    few = few_blocks p h;
    ascend = λ n k c d block s x y. (each_listed n block s).ascend k c d x y;
    are = λ n c block s. (each_listed n block s).are c;
  }
