-- The lists of successors of the split form are those of its blocks.
use Rattle.std.proofs.Common.{◌≡◌, ◌≢◌, ◌≤◌, ◌<◌, ℕ, zero, suc, ◌+◌, ◌-◌, arith, ap, refl, sym, ◌∙◌, subst, List, [], ◌∷◌, length, map, Bool, true, false, cond, inl, inr}
use Rattle.std.specs.Prelude.{Some, None, ◌⊎◌, ◌↔◌, ◌==◌, slice_get, Contains}
use Rattle.hard_items.specs.declared.code.HardBlock.{HardBlock}
use Rattle.hard_items.specs.declared.code.HardProgram.{HardProgram}
use Rattle.hard_items.specs.Run.{items_of}
use Rattle.hard_items.specs.Ways.{MayFollow}
use Rattle.hard_items.specs.WellFormed.{WellFormed}
use Rattle.hard_items.specs.Forms.{Close, Jump, Branch, Call, Return, Exit, close_items, Formed}
use Rattle.block_relays.specs.Renumber.{return_place}
use Rattle.block_relays.specs.Relays.{Relays, Nothing, Next, Turned, Both}
use Rattle.block_relays.proofs.Keeps.{put_close}
use Rattle.block_relays.proofs.Relays.{place_up, get_map, got_map, calls_put, place_next, le_up}
use Rattle.block_relays.proofs.Roles.{IsReturnClose}
use Rattle.layout_moves_law.proofs.Closes.{Leads, leads, follows, Branches}
use Rattle.layout_moves_law.proofs.Places.{Put, Located, at_place, at_relay, located, in_function}
use Rattle.layout_moves_law.proofs.Ways.{Caller, caller, place_leads, leads_place, relay_leads, leads_relay}
use Rattle.layout_moves_law.proofs.WellFormed.{Lists}
use Rattle.layout_moves_law.proofs.WidenLawLists.{Listed}
use Rattle.signature_assign.proofs.Premises.{within}
use Rattle.edge_split.specs.Split.{Plan, Keep, Returns, Calls, Falls, Turns, Forks, plan_of, relays_as, edge_relays, split_place, fallen, successors_as, placed_block, relay_block, smoothed}
use Rattle.layout_moves_law.proofs.Plans.{PlanFits, plan_fits}
use Rattle.layout_moves_law.proofs.Splits.{split_put, few_blocks, placed_at, relay_at}

none_some : {A : Type 0} (t : A) → None ≡ Some t → ⊥
none_some t e = cc

same_some : (u t : ℕ) → Some u ≡ Some t → u ≡ t
same_some u t e = cc

same_block : (x y : HardBlock) → Some x ≡ Some y → x ≡ y
same_block x y e = cc

there_get : (ks : List HardBlock) (b : ℕ) (k : HardBlock) → slice_get ks b ≡ Some k → b < length ks
there_get [] b k e = absurd (none_some k e)
there_get (x ∷ ks) zero k e = omega arith
there_get (x ∷ ks) (suc b) k e = omega (arith, there_get ks b k e)

-- ---- lists of numbers

contains_map : (f : ℕ → ℕ) (xs : List ℕ) (x : ℕ) → Contains xs x → Contains (map f xs) (f x)
contains_map f [] x c = absurd (no c.0 c.1)
  where
    no : (n : ℕ) → n < 0 → ⊥
    no n h = omega arith
contains_map f (y ∷ xs) x (zero, l, e) = (0, up (length (map f xs)), ap f e)
  where
    up : (n : ℕ) → 0 < suc n
    up n = omega arith
contains_map f (y ∷ xs) x (suc k, l, e) =
    let c : Contains (map f xs) (f x) = contains_map f xs x (k, less k (length xs) l, e) in
    (suc c.0, up c.0 (length (map f xs)) c.1, c.2)
  where
    less : (a b : ℕ) → suc a < suc b → a < b
    less a b h = omega arith

    up : (a b : ℕ) → a < b → suc a < suc b
    up a b h = omega arith

map_contains : (f : ℕ → ℕ) (xs : List ℕ) (y : ℕ) → Contains (map f xs) y → (x : ℕ) × (Contains xs x × (y ≡ f x))
map_contains f [] y c = absurd (no c.0 c.1)
  where
    no : (n : ℕ) → n < 0 → ⊥
    no n h = omega arith
map_contains f (x ∷ xs) y (zero, l, e) = (x, ((0, up (length xs), refl), sym e))
  where
    up : (n : ℕ) → 0 < suc n
    up n = omega arith
map_contains f (x ∷ xs) y (suc k, l, e) =
    let c : (x : ℕ) × (Contains xs x × (y ≡ f x)) = map_contains f xs y (k, less k (length (map f xs)) l, e) in
    (c.0, ((suc c.1.0.0, up c.1.0.0 (length xs) c.1.0.1, c.1.0.2), c.1.1))
  where
    less : (a b : ℕ) → suc a < suc b → a < b
    less a b h = omega arith

    up : (a b : ℕ) → a < b → suc a < suc b
    up a b h = omega arith

got_in : (xs : List ℕ) (k x : ℕ) → slice_get xs k ≡ Some x → Contains xs x
got_in [] k x e = absurd (none_some x e)
got_in (y ∷ xs) zero x e = (0, omega arith, same_some y x e)
got_in (y ∷ xs) (suc k) x e = let c : Contains xs x = got_in xs k x e in (suc c.0, omega (arith, c.1), c.2)

two_contains : (x y m : ℕ) → Contains (x ∷ y ∷ []) m → (m ≡ y) ⊎ (m ≡ x)
two_contains x y m (zero, l, e) = inr (sym e)
two_contains x y m (suc zero, l, e) = inl (sym e)
two_contains x y m (suc (suc k), l, e) = absurd (no k l)
  where
    no : (k : ℕ) → suc (suc k) < 2 → ⊥
    no k h = omega arith

contains_two : (x y m : ℕ) → (m ≡ y) ⊎ (m ≡ x) → Contains (x ∷ y ∷ []) m
contains_two x y m (inl e) = (1, omega arith, sym e)
contains_two x y m (inr e) = (0, omega arith, sym e)

one_contains : (x m : ℕ) → Contains (x ∷ []) m → m ≡ x
one_contains x m (zero, l, e) = sym e
one_contains x m (suc k, l, e) = absurd (no k l)
  where
    no : (k : ℕ) → suc k < 1 → ⊥
    no k h = omega arith

contains_one : (x m : ℕ) → m ≡ x → Contains (x ∷ []) m
contains_one x m e = (0, omega arith, sym e)

self : (a : ℕ) → a ≤ a
self a = omega arith

one_up : (b : ℕ) → b < b + 1
one_up b = omega arith

module _ (p : HardProgram) (w : WellFormed p) (g : (b : ℕ) → b < length p.blocks → Formed (items_of p b)) where
  -- the program and its split form
  abbrev a : Put (edge_relays p) p (smoothed p)
  a = split_put p w g

  -- ---- blocks whose successors are renamed

  -- How the successors of a block are renamed in its place.
  record Renames (b : ℕ) (l : b < length p.blocks) (φ : ℕ → ℕ) : Type 0 where
    there : (c : ℕ) → Leads p b ((g b l).close) c → Leads (smoothed p) (split_place p b) (put_close (split_place p) b (edge_relays p b) ((g b l).close)) (φ c)
    back : (m : ℕ) → Leads (smoothed p) (split_place p b) (put_close (split_place p) b (edge_relays p b) ((g b l).close)) m → (c : ℕ) × (Leads p b ((g b l).close) c × (m ≡ φ c))
    up : (c d : ℕ) → Leads p b ((g b l).close) c → Leads p b ((g b l).close) d → c < d → φ c < φ d

  renamed : (b : ℕ) (k : HardBlock) (l : b < length p.blocks) (φ : ℕ → ℕ) → slice_get p.blocks b ≡ Some k → Renames b l φ → Listed (smoothed p) (split_place p b) (map φ k.successors)
  renamed b k l φ s r = record {
    ascend = λ j c d x y.
        let u : (u : ℕ) × (slice_get k.successors j ≡ Some u) × (c ≡ φ u) = got_map φ k.successors j c x in
        let v : (v : ℕ) × (slice_get k.successors (j + 1) ≡ Some v) × (d ≡ φ v) = got_map φ k.successors (j + 1) d y in
        less c d (φ u.0) (φ v.0) u.2 v.2 (r.up u.0 v.0 (led u.0 (got_in k.successors j u.0 u.1)) (led v.0 (got_in k.successors (j + 1) v.0 v.1)) (w.successors_ascend b j u.0 v.0 k s u.1 v.1));
    are = λ m. (
      (λ c. let x : (x : ℕ) × (Contains k.successors x × (m ≡ φ x)) = map_contains φ k.successors m c in
          subst (MayFollow (smoothed p) (split_place p b)) (sym x.1.1) (leads_place (edge_relays p) p (smoothed p) a b (φ x.0) l (r.there x.0 (led x.0 x.1.0)))),
      (λ f. let x : (x : ℕ) × (Leads p b ((g b l).close) x × (m ≡ φ x)) = r.back m (place_leads (edge_relays p) p (smoothed p) a b m l f) in
          subst (Contains (map φ k.successors)) (sym x.1.1) (contains_map φ k.successors x.0 ((w.successors_are b x.0 k s).1 (follows p b x.0 (g b l) x.1.0)))),
    );
  }
    where
      led : (x : ℕ) → Contains k.successors x → Leads p b ((g b l).close) x
      led x c = leads p b x (g b l) ((w.successors_are b x k s).0 c)

      less : (c d u v : ℕ) → c ≡ u → d ≡ v → u < v → c < d
      less c d u v e f h = omega arith

  -- A block behind which nothing is put, and that closes by no return.
  keep_there : (b x : ℕ) (c : Close) → edge_relays p b ≡ Nothing → (IsReturnClose c → ⊥) → Leads p b c x → Leads (smoothed p) (split_place p b) (put_close (split_place p) b Nothing c) (split_place p x)
  keep_there b x (Jump t) e n h = ap (split_place p) h
  keep_there b x (Branch checked m when t) e n (inl h) = inl (ap (split_place p) h)
  keep_there b x (Branch checked m when t) e n (inr h) = inr (ap (split_place p) h ∙ sym (place_next (edge_relays p) b Nothing e))
  keep_there b x (Call f) e n h = get_map (split_place p) p.entries f x h
  keep_there b x (Return checked) e n h = absurd (n tt)
  keep_there b x (Exit checked) e n h = h

  keep_back : (b m : ℕ) (c : Close) → edge_relays p b ≡ Nothing → (IsReturnClose c → ⊥) → Leads (smoothed p) (split_place p b) (put_close (split_place p) b Nothing c) m → (x : ℕ) × (Leads p b c x × (m ≡ split_place p x))
  keep_back b m (Jump t) e n h = (t, (refl, h))
  keep_back b m (Branch checked r when t) e n (inl h) = (t, (inl refl, h))
  keep_back b m (Branch checked r when t) e n (inr h) = (b + 1, (inr refl, h ∙ place_next (edge_relays p) b Nothing e))
  keep_back b m (Call f) e n h = let x : (x : ℕ) × (slice_get p.entries f ≡ Some x) × (m ≡ split_place p x) = got_map (split_place p) p.entries f m h in (x.0, (x.1, x.2))
  keep_back b m (Return checked) e n h = absurd (n tt)
  keep_back b m (Exit checked) e n h = absurd h

  keeps : (b : ℕ) (l : b < length p.blocks) → edge_relays p b ≡ Nothing → (IsReturnClose ((g b l).close) → ⊥) → Renames b l (split_place p)
  keeps b l e n = record {
    there = λ c h. subst (λ (r : Relays). Leads (smoothed p) (split_place p b) (put_close (split_place p) b r ((g b l).close)) (split_place p c)) (sym e) (keep_there b c ((g b l).close) e n h);
    back = λ m h. keep_back b m ((g b l).close) e n (subst (λ (r : Relays). Leads (smoothed p) (split_place p b) (put_close (split_place p) b r ((g b l).close)) m) e h);
    up = λ c d x y h. place_up (edge_relays p) c d h;
  }

  -- A block that calls.
  called : (b f : ℕ) (l : b < length p.blocks) → (g b l).close ≡ Call f → Renames b l (split_place p)
  called b f l e = record {
    there = λ c h. subst (λ (z : Close). Leads (smoothed p) (split_place p b) (put_close (split_place p) b (edge_relays p b) z) (split_place p c)) (sym e) (get_map (split_place p) p.entries f c (subst (λ (z : Close). Leads p b z c) e h));
    back = λ m h.
        let x : (x : ℕ) × (slice_get p.entries f ≡ Some x) × (m ≡ split_place p x) = got_map (split_place p) p.entries f m (subst (λ (z : Close). Leads (smoothed p) (split_place p b) (put_close (split_place p) b (edge_relays p b) z) m) e h) in
        (x.0, (subst (λ (z : Close). Leads p b z x.0) (sym e) x.1, x.2));
    up = λ c d x y h. place_up (edge_relays p) c d h;
  }

  -- A block that returns.
  back_there : (b x : ℕ) (r : Relays) (c : Close) → IsReturnClose c → Leads p b c x → Leads (smoothed p) (split_place p b) (put_close (split_place p) b r c) (return_place (split_place p) x)
  back_there b x r (Return checked) k h =
      (h.0, (split_place p h.1.0, ((in_function (edge_relays p) p (smoothed p) a.has b (split_place p b) h.0 (self (split_place p b)) (place_up (edge_relays p) b (b + 1) (one_up b))).1 h.1.1.0, (calls_put (edge_relays p) p (smoothed p) a.has h.1.0 h.0 h.1.1.1.0, ap (λ (z : ℕ). split_place p z + 1) (less x h.1.0 h.1.1.1.1)))))
    where
      less : (x c : ℕ) → x ≡ c + 1 → x - 1 ≡ c
      less x c e = omega arith
  back_there b x r (Jump t) k h = absurd k
  back_there b x r (Branch checked m when t) k h = absurd k
  back_there b x r (Call f) k h = absurd k
  back_there b x r (Exit checked) k h = absurd k

  back_back : (b m : ℕ) (r : Relays) (c : Close) → IsReturnClose c → Leads (smoothed p) (split_place p b) (put_close (split_place p) b r c) m → (x : ℕ) × (Leads p b c x × (m ≡ return_place (split_place p) x))
  back_back b m r (Return checked) k h =
      let d : Caller (edge_relays p) p h.1.0 h.0 = caller (edge_relays p) p (smoothed p) a h.1.0 h.0 h.1.1.1.0 in
      (d.block + 1, ((h.0, (d.block, ((in_function (edge_relays p) p (smoothed p) a.has b (split_place p b) h.0 (self (split_place p b)) (place_up (edge_relays p) b (b + 1) (one_up b))).0 h.1.1.0, (d.calls, refl)))), h.1.1.1.1 ∙ (ap (λ (z : ℕ). z + 1) d.is ∙ ap (λ (z : ℕ). split_place p z + 1) (down d.block))))
    where
      down : (c : ℕ) → c ≡ c + 1 - 1
      down c = omega arith
  back_back b m r (Jump t) k h = absurd k
  back_back b m r (Branch checked z when t) k h = absurd k
  back_back b m r (Call f) k h = absurd k
  back_back b m r (Exit checked) k h = absurd k

  behind : (b x : ℕ) (c : Close) → IsReturnClose c → Leads p b c x → (k : ℕ) × (x ≡ k + 1)
  behind b x (Return checked) k h = (h.1.0, h.1.1.1.1)
  behind b x (Jump t) k h = absurd k
  behind b x (Branch checked z when t) k h = absurd k
  behind b x (Call f) k h = absurd k
  behind b x (Exit checked) k h = absurd k

  returned : (b : ℕ) (l : b < length p.blocks) → IsReturnClose ((g b l).close) → Renames b l (return_place (split_place p))
  returned b l e = record {
    there = λ c h. back_there b c (edge_relays p b) ((g b l).close) e h;
    back = λ m h. back_back b m (edge_relays p b) ((g b l).close) e h;
    up = λ c d x y h.
        let i : (k : ℕ) × (c ≡ k + 1) = behind b c ((g b l).close) e x in
        let j : (k : ℕ) × (d ≡ k + 1) = behind b d ((g b l).close) e y in
        more (split_place p (c - 1)) (split_place p (d - 1)) (place_up (edge_relays p) (c - 1) (d - 1) (less c d i.0 j.0 i.1 j.1 h));
  }
    where
      less : (c d i j : ℕ) → c ≡ i + 1 → d ≡ j + 1 → c < d → c - 1 < d - 1
      less c d i j e f h = omega arith

      more : (x y : ℕ) → x < y → x + 1 < y + 1
      more x y h = omega arith

  -- A block that branches and falls into a block of its own.
  fallen_next : (b c : ℕ) → c ≡ b + 1 → fallen (split_place p) b c ≡ split_place p b + 1
  fallen_next b c e = ap (λ (z : Bool). cond z (split_place p b + 1) (split_place p c)) (is c (b + 1) e)
    where
      is : (x y : ℕ) → x ≡ y → (x == y) ≡ true
      is x y e = grind arith

  fallen_other : (b c : ℕ) → c ≢ b + 1 → fallen (split_place p) b c ≡ split_place p c
  fallen_other b c n = ap (λ (z : Bool). cond z (split_place p b + 1) (split_place p c)) (is c (b + 1) n)
    where
      is : (x y : ℕ) → x ≢ y → (x == y) ≡ false
      is x y n = grind arith

  same_or : (a b : ℕ) → (a ≡ b) ⊎ (a ≢ b)
  same_or a b = grind arith

  fallen_up : (b c d : ℕ) → c < d → fallen (split_place p) b c < fallen (split_place p) b d
  fallen_up b c d h = by (same_or c (b + 1)) (same_or d (b + 1))
    where
      least : split_place p b + 1 ≤ split_place p (b + 1)
      least = next (split_place p b) (split_place p (b + 1)) (place_up (edge_relays p) b (b + 1) (one_up b))
        where
          next : (x y : ℕ) → x < y → x + 1 ≤ y
          next x y h = omega arith

      both : (u v x y : ℕ) → u ≡ x → v ≡ y → x < y → u < v
      both u v x y e f h = omega arith

      first : (u v x y : ℕ) → u ≡ x → v ≡ y → (n : ℕ) → x ≤ n → n < y → u < v
      first u v x y e f n h k = omega arith

      later : (u v x n : ℕ) → u ≡ x → v ≡ n + 1 → x ≤ n → u < v
      later u v x n e f h = omega arith

      no : (c d b : ℕ) → c ≡ b + 1 → d ≡ b + 1 → c < d → ⊥
      no c d b e f h = omega arith

      above : (c d b : ℕ) → c ≡ b + 1 → c < d → b + 1 < d
      above c d b e h = omega arith

      below : (c d b : ℕ) → d ≡ b + 1 → c < d → c ≤ b
      below c d b e h = omega arith

      by : (c ≡ b + 1) ⊎ (c ≢ b + 1) → (d ≡ b + 1) ⊎ (d ≢ b + 1) → fallen (split_place p) b c < fallen (split_place p) b d
      by (inl e) (inl f) = absurd (no c d b e f h)
      by (inl e) (inr f) = first (fallen (split_place p) b c) (fallen (split_place p) b d) (split_place p b + 1) (split_place p d) (fallen_next b c e) (fallen_other b d f) (split_place p (b + 1)) least (place_up (edge_relays p) (b + 1) d (above c d b e h))
      by (inr e) (inl f) = later (fallen (split_place p) b c) (fallen (split_place p) b d) (split_place p c) (split_place p b) (fallen_other b c e) (fallen_next b d f) (le_up (edge_relays p) c b (below c d b f h))
      by (inr e) (inr f) = both (fallen (split_place p) b c) (fallen (split_place p) b d) (split_place p c) (split_place p d) (fallen_other b c e) (fallen_other b d f) (place_up (edge_relays p) c d h)

  falls : (b t : ℕ) (l : b < length p.blocks) → edge_relays p b ≡ Next → Branches ((g b l).close) t → t ≢ b + 1 → Renames b l (fallen (split_place p) b)
  falls b t l e h n = record {
    there = λ c k. subst (λ (r : Relays). Leads (smoothed p) (split_place p b) (put_close (split_place p) b r ((g b l).close)) (fallen (split_place p) b c)) (sym e)
        (subst (λ (z : Close). Leads (smoothed p) (split_place p b) (put_close (split_place p) b Next z) (fallen (split_place p) b c)) (sym h.is) (goes c (subst (λ (z : Close). Leads p b z c) h.is k)));
    back = λ m k. by m (subst (λ (z : Close). Leads (smoothed p) (split_place p b) (put_close (split_place p) b Next z) m) h.is (subst (λ (r : Relays). Leads (smoothed p) (split_place p b) (put_close (split_place p) b r ((g b l).close)) m) e k));
    up = λ c d x y k. fallen_up b c d k;
  }
    where
      goes : (c : ℕ) → (c ≡ t) ⊎ (c ≡ b + 1) → (fallen (split_place p) b c ≡ split_place p t) ⊎ (fallen (split_place p) b c ≡ split_place p b + 1)
      goes c (inl i) = inl (fallen_other b c (λ z. n (sym i ∙ z)) ∙ ap (split_place p) i)
      goes c (inr i) = inr (fallen_next b c i)

      by : (m : ℕ) → (m ≡ split_place p t) ⊎ (m ≡ split_place p b + 1) → (c : ℕ) × (Leads p b ((g b l).close) c × (m ≡ fallen (split_place p) b c))
      by m (inl i) = (t, (subst (λ (z : Close). Leads p b z t) (sym h.is) (inl refl), i ∙ sym (fallen_other b t n)))
      by m (inr i) = (b + 1, (subst (λ (z : Close). Leads p b z (b + 1)) (sym h.is) (inr refl), i ∙ sym (fallen_next b (b + 1) refl)))

  -- ---- blocks with two successors

  two : (b x y t : ℕ) (l : b < length p.blocks) (r : Relays) → edge_relays p b ≡ r → Branches ((g b l).close) t → x < y →
      ((m : ℕ) (checked : Bool) (u : ℕ) (when : Bool) → Leads (smoothed p) (split_place p b) (put_close (split_place p) b r (Branch checked u when t)) m ↔ ((m ≡ y) ⊎ (m ≡ x))) → Listed (smoothed p) (split_place p b) (x ∷ y ∷ [])
  two b x y t l r e h less is = record {
    ascend = λ k c d s u. by k c d s u;
    are = λ m. (
      (λ c. leads_place (edge_relays p) p (smoothed p) a b m l (subst (λ (r : Relays). Leads (smoothed p) (split_place p b) (put_close (split_place p) b r ((g b l).close)) m) (sym e)
          (subst (λ (z : Close). Leads (smoothed p) (split_place p b) (put_close (split_place p) b r z) m) (sym h.is) ((is m h.checked h.register h.when).1 (two_contains x y m c))))),
      (λ f. contains_two x y m ((is m h.checked h.register h.when).0 (subst (λ (z : Close). Leads (smoothed p) (split_place p b) (put_close (split_place p) b r z) m) h.is
          (subst (λ (r : Relays). Leads (smoothed p) (split_place p b) (put_close (split_place p) b r ((g b l).close)) m) e (place_leads (edge_relays p) p (smoothed p) a b m l f))))),
    );
  }
    where
      moved : (c d : ℕ) → x ≡ c → y ≡ d → c < d
      moved c d e f = both x y c d e f less
        where
          both : (x y c d : ℕ) → x ≡ c → y ≡ d → x < y → c < d
          both x y c d e f h = omega arith

      by : (k c d : ℕ) → slice_get (x ∷ y ∷ []) k ≡ Some c → slice_get (x ∷ y ∷ []) (k + 1) ≡ Some d → c < d
      by zero c d s u = moved c d (same_some x c s) (same_some y d u)
      by (suc zero) c d s u = absurd (none_some d u)
      by (suc (suc k)) c d s u = absurd (none_some c s)

  turns : (b t : ℕ) (l : b < length p.blocks) → edge_relays p b ≡ Turned t → Branches ((g b l).close) t → Listed (smoothed p) (split_place p b) ((split_place p b + 1) ∷ split_place p (b + 1) ∷ [])
  turns b t l e h = two b (split_place p b + 1) (split_place p (b + 1)) t l (Turned t) e h (less (split_place p b) (split_place p (b + 1)) (place_next (edge_relays p) b (Turned t) e)) (λ m checked u when. ((λ x. x), (λ x. x)))
    where
      less : (x y : ℕ) → x + suc 1 ≡ y → x + 1 < y
      less x y e = omega arith

  both : (b t : ℕ) (l : b < length p.blocks) → edge_relays p b ≡ Both t → Branches ((g b l).close) t → Listed (smoothed p) (split_place p b) ((split_place p b + 1) ∷ (split_place p b + 2) ∷ [])
  both b t l e h = two b (split_place p b + 1) (split_place p b + 2) t l (Both t) e h (less (split_place p b)) (λ m checked u when. ((λ x. x), (λ x. x)))
    where
      less : (x : ℕ) → x + 1 < x + 2
      less x = omega arith

  -- ---- a block that is put

  relaying : (n t : ℕ) → items_of (smoothed p) n ≡ close_items (Jump t) → Listed (smoothed p) n (t ∷ [])
  relaying n t e = record {
    ascend = λ k c d x y. by k c d x y;
    are = λ m. (
      (λ c. subst (MayFollow (smoothed p) n) (sym (one_contains t m c)) (leads_relay (edge_relays p) p (smoothed p) a n t e)),
      (λ f. contains_one t m (relay_leads (edge_relays p) p (smoothed p) a n t m e f)),
    );
  }
    where
      one : (k : ℕ) → k + 1 ≡ suc k
      one k = omega arith

      by : (k c d : ℕ) → slice_get (t ∷ []) k ≡ Some c → slice_get (t ∷ []) (k + 1) ≡ Some d → c < d
      by k c d x y = absurd (none_some d (sym (ap (slice_get (t ∷ [])) (one k)) ∙ y))

  -- ---- each block

  placed_listed : (b : ℕ) (k : HardBlock) (l : b < length p.blocks) → slice_get p.blocks b ≡ Some k → (r : Plan) → plan_of p b ≡ r → PlanFits b ((g b l).close) r → Listed (smoothed p) (split_place p b) (successors_as (split_place p) b r k.successors)
  placed_listed b k l s Keep e f = renamed b k l (split_place p) s (keeps b l (ap relays_as e) f)
  placed_listed b k l s Returns e f = renamed b k l (return_place (split_place p)) s (returned b l f)
  placed_listed b k l s Calls e f = renamed b k l (split_place p) s (called b f.0 l f.1)
  placed_listed b k l s Falls e f = renamed b k l (fallen (split_place p) b) s (falls b f.0 l (ap relays_as e) f.1.0 f.1.1)
  placed_listed b k l s (Turns t) e f = turns b t l (ap relays_as e) f
  placed_listed b k l s (Forks t) e f = both b t l (ap relays_as e) f

  each_listed : (n : ℕ) (block : HardBlock) → slice_get (smoothed p).blocks n ≡ Some block → Listed (smoothed p) n block.successors
  each_listed n block s = by (located (edge_relays p) p (smoothed p) a.has n (there_get (smoothed p).blocks n block s))
    where
      at : (n m : ℕ) (x : HardBlock) → n ≡ m → slice_get (smoothed p).blocks n ≡ Some block → slice_get (smoothed p).blocks m ≡ Some x → Listed (smoothed p) m x.successors → Listed (smoothed p) n block.successors
      at n m x e s t h = subst (λ (z : ℕ). Listed (smoothed p) z block.successors) (sym e) (subst (λ (y : HardBlock). Listed (smoothed p) m y.successors) (same_block x block (sym t ∙ (ap (slice_get (smoothed p).blocks) (sym e) ∙ s))) h)

      by : Located (edge_relays p) p (smoothed p) n → Listed (smoothed p) n block.successors
      by (at_place b l e) =
          let k : (k : HardBlock) × (slice_get p.blocks b ≡ Some k) = within p.blocks b l in
          at n (split_place p b) (placed_block (split_place p) b (plan_of p b) k.0) e s (placed_at p b k.0 k.1) (placed_listed b k.0 l k.1 (plan_of p b) refl (plan_fits p b w (g b l)))
      by (at_relay b m c l j e i) =
          let k : (k : HardBlock) × (slice_get p.blocks b ≡ Some k) = within p.blocks b l in
          at n (split_place p b + suc m) (relay_block (split_place p) c) e s (relay_at p b m c k.0 k.1 j)
          (relaying (split_place p b + suc m) (split_place p c) (subst (λ (y : ℕ). items_of (smoothed p) y ≡ close_items (Jump (split_place p c))) e i))

  pub split_lists : length p.blocks ≤ 65535 → Lists (smoothed p)
  split_lists h = record {
    few = few_blocks p h;
    ascend = λ n k c d block s x y. (each_listed n block s).ascend k c d x y;
    are = λ n c block s. (each_listed n block s).are c;
  }
