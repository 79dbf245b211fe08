-- A program with blocks put behind its blocks: where each of its blocks comes from, and which functions hold them.
use Rattle.std.proofs.Common.{◌≡◌, ◌≤◌, ◌<◌, ℕ, zero, suc, ◌+◌, ◌-◌, arith, ap, refl, sym, ◌∙◌, subst, List, [], ◌∷◌, ◌++◌, length, map, Bool, true, false}
use Rattle.std.specs.Prelude.{Some, ◌↔◌, slice_get, nat_lt, flat_map}
use Rattle.hard_items.specs.declared.code.Fix.{Fix}
use Rattle.hard_items.specs.declared.code.Fix.TheVariants.{Plain, Block, Function, ReturnHigh, ReturnLow}
use Rattle.hard_items.specs.declared.code.Item.{Item}
use Rattle.hard_items.specs.declared.code.HardProgram.{HardProgram}
use Rattle.hard_items.specs.Run.{items_of}
use Rattle.hard_items.specs.Ways.{IsOfFunction}
use Rattle.hard_items.specs.WellFormed.{WellFormed}
use Rattle.hard_items.specs.Forms.{Each, Form, Alone, Product, Store, Test, Output, Takes, Idle, Close, Jump, Branch, Call, Return, Exit, form_items, close_items, FormFits, CloseFits, HalfFits, Formed}
use Rattle.block_relays.specs.Relays.{Relays, Nothing, Next, Turned, Both, goals, place_of, put_as, put_item, relay, HasRelays}
use Rattle.block_relays.proofs.Keeps.{MayClose, put_close, blocks_put}
use Rattle.block_relays.proofs.Relays.{block_put, place_up, items_placed, get_map, got_map, le_up, le_down, place_next}
use Rattle.block_relays.proofs.Roles.{BranchesTo, CloseRelays}

-- ---- what may be put behind a block

-- A block that jumps on to the next is put behind a branch or a call, and one for the goal of a branch behind a branch.
abbrev pub Puts : Relays → Close → Type 0
Puts Nothing c = Unit {0}
Puts Next (Jump t) = ⊥
Puts Next (Branch checked r when t) = Unit {0}
Puts Next (Call f) = Unit {0}
Puts Next (Return checked) = ⊥
Puts Next (Exit checked) = ⊥
Puts (Turned u) c = BranchesTo c u
Puts (Both u) c = BranchesTo c u

pub may_relay_close : (r : Relays) (c : Close) → Puts r c → CloseRelays r c
may_relay_close Nothing c h = tt
may_relay_close Next c h = tt
may_relay_close (Turned u) c h = h
may_relay_close (Both u) c h = h

pub may_close : (r : Relays) (c : Close) → Puts r c → MayClose r c
may_close Nothing c h = tt
may_close Next c h = tt
may_close (Turned u) (Jump t) h = h
may_close (Turned u) (Branch checked r when t) h = tt
may_close (Turned u) (Call f) h = tt
may_close (Turned u) (Return checked) h = tt
may_close (Turned u) (Exit checked) h = tt
may_close (Both u) c h = tt

-- What is taken of a program and of it with blocks put behind its blocks.
pub record Put (relays : ℕ → Relays) (p q : HardProgram) : Type 0 where
  pub has : HasRelays relays p q
  pub well : WellFormed p
  pub formed : (b : ℕ) → b < length p.blocks → Formed (items_of p b)
  pub puts : (b : ℕ) (l : b < length p.blocks) → Puts (relays b) ((formed b l).close)

-- ---- where a block comes from

pub data Located (relays : ℕ → Relays) (p q : HardProgram) (n : ℕ) : Type 0 where
  at_place : (b : ℕ) → b < length p.blocks → n ≡ place_of relays b → Located relays p q n
  at_relay : (b r c : ℕ) → b < length p.blocks → slice_get (goals b (relays b)) r ≡ Some c → n ≡ place_of relays b + suc r → items_of q n ≡ close_items (Jump (place_of relays c)) → Located relays p q n

-- The block and how far behind its place.
pub record Behind (relays : ℕ → Relays) (len n : ℕ) : Type 0 where
  pub block : ℕ
  pub far : ℕ
  pub there : block < len
  pub is : n ≡ place_of relays block + far
  pub within : far < suc (length (goals block (relays block)))

behind : (relays : ℕ → Relays) (len n : ℕ) → n < place_of relays len → Behind relays len n
behind relays zero n h = absurd (no n h)
  where
    no : (n : ℕ) → n < 0 → ⊥
    no n h = omega arith
behind relays (suc len) n h = by (λ k. behind relays len n k) (nat_lt n (place_of relays len)) refl
  where
    lt : (a b : ℕ) → nat_lt a b ≡ true → a < b
    lt a b e = grind arith

    sum : (a b : ℕ) → nat_lt a b ≡ false → a ≡ b + (a - b)
    sum a b e = grind arith

    less : (a b g : ℕ) → a < b + suc g → nat_lt a b ≡ false → a - b < suc g
    less a b g h e = grind arith

    one : (a b : ℕ) → a < b → a < suc b
    one a b h = omega arith

    self : (a : ℕ) → a < suc a
    self a = omega arith

    by : (n < place_of relays len → Behind relays len n) → (z : Bool) → nat_lt n (place_of relays len) ≡ z → Behind relays (suc len) n
    by before true e = let f : Behind relays len n = before (lt n (place_of relays len) e) in record { block = f.block; far = f.far; there = one f.block len f.there; is = f.is; within = f.within }
    by before false e = record {
      block = len;
      far = n - place_of relays len;
      there = self len;
      is = sum n (place_of relays len) e;
      within = less n (place_of relays len) (length (goals len (relays len))) h e;
    }

-- One of the blocks put behind block b.
pub record Relayed (relays : ℕ → Relays) (q : HardProgram) (b m : ℕ) : Type 0 where
  pub goal : ℕ
  pub listed : slice_get (goals b (relays b)) m ≡ Some goal
  pub items : items_of q (place_of relays b + suc m) ≡ close_items (Jump (place_of relays goal))

abbrev nth : List (List Item) → ℕ → List Item
nth [] n = []
nth (x ∷ xs) zero = x
nth (x ∷ xs) (suc n) = nth xs n

nth_goal : (place : ℕ → ℕ) (cs : List ℕ) (m : ℕ) → m < length cs → (c : ℕ) × ((slice_get cs m ≡ Some c) × (nth (map (relay place) cs) m ≡ close_items (Jump (place c))))
nth_goal place [] m h = absurd (no m h)
  where
    no : (n : ℕ) → n < 0 → ⊥
    no n h = omega arith
nth_goal place (c ∷ cs) zero h = (c, (refl, refl))
nth_goal place (c ∷ cs) (suc m) h = nth_goal place cs m (less m (length cs) h)
  where
    less : (a b : ℕ) → suc a < suc b → a < b
    less a b h = omega arith

pub relayed_at : (relays : ℕ → Relays) (p q : HardProgram) → HasRelays relays p q → (b m : ℕ) → b < length p.blocks → m < length (goals b (relays b)) → Relayed relays q b m
relayed_at relays p q h b m l k =
    let c : (c : ℕ) × ((slice_get (goals b (relays b)) m ≡ Some c) × (nth (map (relay (place_of relays)) (goals b (relays b))) m ≡ close_items (Jump (place_of relays c)))) = nth_goal (place_of relays) (goals b (relays b)) m k in
    record { goal = c.0; listed = c.1.0; items = block_put relays p q h b (suc m) l (up m (length (goals b (relays b))) k) ∙ c.1.1 }
  where
    up : (m n : ℕ) → m < n → suc m < suc n
    up m n h = omega arith

pub located : (relays : ℕ → Relays) (p q : HardProgram) → HasRelays relays p q → (n : ℕ) → n < length q.blocks → Located relays p q n
located relays p q h n l =
    let f : Behind relays (length p.blocks) n = behind relays (length p.blocks) n (subst (λ (z : ℕ). n < z) (blocks_put relays p q h) l) in
    by f.block f.far f.there f.is f.within
  where
    none : (a n : ℕ) → n ≡ a + 0 → n ≡ a
    none a n e = omega arith

    less : (m n : ℕ) → suc m < suc n → m < n
    less m n h = omega arith

    by : (b m : ℕ) → b < length p.blocks → n ≡ place_of relays b + m → m < suc (length (goals b (relays b))) → Located relays p q n
    by b zero t e w = at_place b t (none (place_of relays b) n e)
    by b (suc m) t e w =
        let r : Relayed relays q b m = relayed_at relays p q h b m t (less m (length (goals b (relays b))) w) in
        at_relay b m r.goal t r.listed e (ap (items_of q) e ∙ r.items)

-- ---- places

pub place_once : (relays : ℕ → Relays) (b c : ℕ) → place_of relays b ≡ place_of relays c → b ≡ c
place_once relays b c e = both b c (le_down relays b c (same (place_of relays b) (place_of relays c) e)) (le_down relays c b (same (place_of relays c) (place_of relays b) (sym e)))
  where
    same : (a b : ℕ) → a ≡ b → a ≤ b
    same a b e = omega arith

    both : (a b : ℕ) → a ≤ b → b ≤ a → a ≡ b
    both a b h k = omega arith

-- The places of a block and of those put behind it are below the next block's.
pub place_within : (relays : ℕ → Relays) (b m : ℕ) → m < suc (length (goals b (relays b))) → place_of relays b + m < place_of relays (b + 1)
place_within relays b m h = subst (λ (z : ℕ). place_of relays b + m < z) (place_next relays b (relays b) refl) (more (place_of relays b) m (length (goals b (relays b))) h)
  where
    more : (a m g : ℕ) → m < suc g → a + m < a + suc g
    more a m g h = omega arith

-- ---- how many blocks

pub below : (relays : ℕ → Relays) (p q : HardProgram) (a : Put relays p q) (b : ℕ) → b < length p.blocks → place_of relays b < length q.blocks
below relays p q a b l = subst (λ (z : ℕ). place_of relays b < z) (sym (blocks_put relays p q a.has)) (place_up relays b (length p.blocks) l)

pub below_next : (relays : ℕ → Relays) (p q : HardProgram) (a : Put relays p q) (b m : ℕ) → b < length p.blocks → m < suc (length (goals b (relays b))) → place_of relays b + m < length q.blocks
below_next relays p q a b m l h = subst (λ (z : ℕ). place_of relays b + m < z) (sym (blocks_put relays p q a.has)) (far (place_of relays b + m) (place_of relays (b + 1)) (place_of relays (length p.blocks)) (place_within relays b m h) (le_up relays (b + 1) (length p.blocks) (next b (length p.blocks) l)))
  where
    far : (a b c : ℕ) → a < b → b ≤ c → a < c
    far a b c h k = omega arith

    next : (b n : ℕ) → b < n → b + 1 ≤ n
    next b n h = omega arith

-- ---- forms

-- The form of a block in its place.
pub record Closed (place : ℕ → ℕ) (q : HardProgram) (n b : ℕ) (r : Relays) (c : Close) : Type 0 where
  pub formed : Formed (items_of q n)
  pub close : formed.close ≡ put_close place b r c

map_append : (g : Item → Item) (xs ys : List Item) → map g (xs ++ ys) ≡ map g xs ++ map g ys
map_append g [] ys = refl
map_append g (x ∷ xs) ys = ap (λ (z : List Item). g x ∷ z) (map_append g xs ys)

alone_put : (place : ℕ → ℕ) (b : ℕ) (r : Relays) (i : Item) (f : Fix) → HalfFits i f → put_as place b r i f ≡ i
alone_put place b r i Plain h = refl
alone_put place b r i (Block t) h = absurd h
alone_put place b r i (Function f) h = refl
alone_put place b r i ReturnHigh h = refl
alone_put place b r i ReturnLow h = refl

form_put : (place : ℕ → ℕ) (b : ℕ) (r : Relays) (f : Form) → FormFits f → map (put_item place b r) (form_items f) ≡ form_items f
form_put place b r (Alone i) h = ap (λ (z : Item). z ∷ []) (alone_put place b r i i.fix h.half_fits)
form_put place b r (Product i j) h = ap (λ (z : Item). z ∷ put_item place b r j ∷ []) (ap (put_as place b r i) h.plain_product) ∙ ap (λ (z : Item). i ∷ z ∷ []) (ap (put_as place b r j) h.plain_move)
form_put place b r (Store true v c o) h = refl
form_put place b r (Store false v c o) h = refl
form_put place b r (Test true m code) h = refl
form_put place b r (Test false m code) h = refl
form_put place b r (Output true) h = refl
form_put place b r (Output false) h = refl
form_put place b r (Takes m) h = refl
form_put place b r Idle h = refl

forms_put : (place : ℕ → ℕ) (b : ℕ) (r : Relays) (fs : List Form) → Each FormFits fs → map (put_item place b r) (flat_map form_items fs) ≡ flat_map form_items fs
forms_put place b r [] h = refl
forms_put place b r (f ∷ fs) h = map_append (put_item place b r) (form_items f) (flat_map form_items fs)
    ∙ (ap (λ (z : List Item). z ++ map (put_item place b r) (flat_map form_items fs)) (form_put place b r f h.0) ∙ ap (λ (z : List Item). form_items f ++ z) (forms_put place b r fs h.1))

close_put : (place : ℕ → ℕ) (b : ℕ) (r : Relays) (c : Close) → MayClose r c → map (put_item place b r) (close_items c) ≡ close_items (put_close place b r c)
close_put place b Nothing (Jump t) h = refl
close_put place b Next (Jump t) h = refl
close_put place b (Turned u) (Jump t) h = absurd h
close_put place b (Both u) (Jump t) h = refl
close_put place b Nothing (Branch true m true t) h = refl
close_put place b Nothing (Branch true m false t) h = refl
close_put place b Nothing (Branch false m true t) h = refl
close_put place b Nothing (Branch false m false t) h = refl
close_put place b Next (Branch true m true t) h = refl
close_put place b Next (Branch true m false t) h = refl
close_put place b Next (Branch false m true t) h = refl
close_put place b Next (Branch false m false t) h = refl
close_put place b (Turned u) (Branch true m true t) h = refl
close_put place b (Turned u) (Branch true m false t) h = refl
close_put place b (Turned u) (Branch false m true t) h = refl
close_put place b (Turned u) (Branch false m false t) h = refl
close_put place b (Both u) (Branch true m true t) h = refl
close_put place b (Both u) (Branch true m false t) h = refl
close_put place b (Both u) (Branch false m true t) h = refl
close_put place b (Both u) (Branch false m false t) h = refl
close_put place b r (Call f) h = refl
close_put place b r (Return true) h = refl
close_put place b r (Return false) h = refl
close_put place b r (Exit true) h = refl
close_put place b r (Exit false) h = refl

close_fits_put : (place : ℕ → ℕ) (b : ℕ) (r : Relays) (c : Close) → CloseFits c → CloseFits (put_close place b r c)
close_fits_put place b r (Jump t) h = tt
close_fits_put place b r (Branch checked m when t) h = h
close_fits_put place b r (Call f) h = tt
close_fits_put place b r (Return checked) h = tt
close_fits_put place b r (Exit checked) h = tt

pub closed : (relays : ℕ → Relays) (p q : HardProgram) (a : Put relays p q) (b : ℕ) (l : b < length p.blocks) → Closed (place_of relays) q (place_of relays b) b (relays b) ((a.formed b l).close)
closed relays p q a b l =
    let f : Formed (items_of p b) = a.formed b l in
    let m : MayClose (relays b) ((a.formed b l).close) = may_close (relays b) ((a.formed b l).close) (a.puts b l) in
    record {
      formed = record {
        forms = f.forms;
        close = put_close (place_of relays) b (relays b) ((a.formed b l).close);
        is = items_placed relays p q a.has b l ∙ (ap (map (put_item (place_of relays) b (relays b))) f.is ∙ (map_append (put_item (place_of relays) b (relays b)) (flat_map form_items f.forms) (close_items f.close)
            ∙ (ap (λ (z : List Item). z ++ map (put_item (place_of relays) b (relays b)) (close_items f.close)) (forms_put (place_of relays) b (relays b) f.forms f.fit) ∙ ap (λ (z : List Item). flat_map form_items f.forms ++ z) (close_put (place_of relays) b (relays b) f.close m))));
        fit = f.fit;
        close_fits = close_fits_put (place_of relays) b (relays b) f.close f.close_fits;
      };
      close = refl;
    }

-- The form of a block that only jumps.
pub jumps_only : (q : HardProgram) (n t : ℕ) → items_of q n ≡ close_items (Jump t) → Formed (items_of q n)
jumps_only q n t e = record { forms = []; close = Jump t; is = e; fit = tt; close_fits = tt }

pub jumps_close : (q : HardProgram) (n t : ℕ) (e : items_of q n ≡ close_items (Jump t)) → (jumps_only q n t e).close ≡ Jump t
unfolding jumps_only
jumps_close q n t e = refl

-- ---- functions

pub in_function : (relays : ℕ → Relays) (p q : HardProgram) → HasRelays relays p q → (b n f : ℕ) → place_of relays b ≤ n → n < place_of relays (b + 1) → IsOfFunction q n f ↔ IsOfFunction p b f
in_function relays p q h b n f low high = (down, up)
  where
    entry_of : (g other : ℕ) → slice_get q.entries g ≡ Some other → (x : ℕ) × (slice_get p.entries g ≡ Some x) × (other ≡ place_of relays x)
    entry_of g other e = got_map (place_of relays) p.entries g other (sym (ap (λ (z : List ℕ). slice_get z g) h.entries) ∙ e)

    entry_there : (g x : ℕ) → slice_get p.entries g ≡ Some x → slice_get q.entries g ≡ Some (place_of relays x)
    entry_there g x e = ap (λ (z : List ℕ). slice_get z g) h.entries ∙ get_map (place_of relays) p.entries g x e

    trans : (a b c : ℕ) → a ≤ b → b ≤ c → a ≤ c
    trans a b c x y = omega arith

    not_more : (x : ℕ) → place_of relays x ≤ n → x ≤ b
    not_more x k = by (nat_lt b x) refl
      where
        lt : (a b : ℕ) → nat_lt a b ≡ true → a + 1 ≤ b
        lt a b e = grind arith

        ge : (a b : ℕ) → nat_lt a b ≡ false → b ≤ a
        ge a b e = grind arith

        no : (a b c : ℕ) → a ≤ b → b ≤ c → c < a → ⊥
        no a b c x y z = omega arith

        by : (z : Bool) → nat_lt b x ≡ z → x ≤ b
        by true e = absurd (no (place_of relays (b + 1)) (place_of relays x) n (le_up relays (b + 1) x (lt b x e)) k high)
        by false e = ge b x e

    down : IsOfFunction q n f → IsOfFunction p b f
    down o = let x : (x : ℕ) × (slice_get p.entries f ≡ Some x) × (o.entry ≡ place_of relays x) = entry_of f o.entry o.is_entry in record {
      entry = x.0;
      is_entry = x.1;
      not_above = not_more x.0 (subst (λ (z : ℕ). z ≤ n) x.2 o.not_above);
      greatest = λ g other e k. le_down relays other x.0 (subst (λ (z : ℕ). place_of relays other ≤ z) x.2 (o.greatest g (place_of relays other) (entry_there g other e) (trans (place_of relays other) (place_of relays b) n (le_up relays other b k) low)));
    }

    up : IsOfFunction p b f → IsOfFunction q n f
    up o = record {
      entry = place_of relays o.entry;
      is_entry = entry_there f o.entry o.is_entry;
      not_above = trans (place_of relays o.entry) (place_of relays b) n (le_up relays o.entry b o.not_above) low;
      greatest = λ g other e k. let x : (x : ℕ) × (slice_get p.entries g ≡ Some x) × (other ≡ place_of relays x) = entry_of g other e in
          subst (λ (z : ℕ). z ≤ place_of relays o.entry) (sym x.2) (le_up relays x.0 o.entry (o.greatest g x.0 x.1 (not_more x.0 (subst (λ (z : ℕ). z ≤ n) x.2 k))));
    }
