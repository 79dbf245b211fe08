-- A program with blocks put behind its blocks for exactly the critical edges has no critical edge.
use Rattle.std.proofs.Common.{◌≡◌, ◌≢◌, ◌≤◌, ◌<◌, ℕ, suc, ◌+◌, arith, ap, refl, sym, ◌∙◌, subst, List, length, Bool, inl, inr}
use Rattle.std.specs.Prelude.{Some, None, ◌⊎◌, slice_get}
use Rattle.mips_isa.specs.declared.instr.Instr.TheVariants.{Jr}
use Rattle.hard_items.specs.declared.code.HardProgram.{HardProgram}
use Rattle.hard_items.specs.Run.{items_of}
use Rattle.hard_items.specs.Ways as mf
use Rattle.hard_items.specs.Ways.{MayFollow, IsOfFunction, CallsFunction}
use Rattle.hard_items.specs.WellFormed.{ItemAt}
use Rattle.hard_items.specs.Forms.{Close, Jump, Branch, Call, Return, Exit, close_items, Formed}
use Rattle.sign_law.specs.Graph.{HasTwo}
use Rattle.sign_law.specs.Signs.{IsSmooth}
use Rattle.block_relays.specs.Relays.{Relays, Nothing, Next, Turned, Both, goals, place_of, goal_place}
use Rattle.block_relays.proofs.Keeps.{put_close}
use Rattle.block_relays.proofs.Relays.{place_up, got_map, place_next, holds_there, le_down}
use Rattle.block_relays.proofs.Roles.{IsReturnClose}
use Rattle.layout_law.proofs.Laying.{holds_at}
use Rattle.layout_moves_law.proofs.Closes.{Leads, follows, calls_close, closing, holds_closing, Branches}
use Rattle.layout_moves_law.proofs.Places.{Puts, Put, Located, at_place, at_relay, located, place_once, place_within, in_function}
use Rattle.layout_moves_law.proofs.Ways.{Caller, caller, place_leads, relay_leads, branches_to}

no_some : (x : ℕ) → None ≡ Some x → ⊥
no_some x e = cc

same_some : (a b : ℕ) → Some a ≡ Some b → a ≡ b
same_some a b e = cc

-- A block that another may follow is there.
pub from_there : (q : HardProgram) (n m : ℕ) → MayFollow q n m → n < length q.blocks
from_there q n m (mf.jumped c tg i h x e) = holds_there q n i h
from_there q n m (mf.branched_eq c rs rt imm i h x e) = holds_there q n i h
from_there q n m (mf.branched_ne c rs rt imm i h x e) = holds_there q n i h
from_there q n m (mf.fallen_eq c rs rt imm i h x e) = holds_there q n i h
from_there q n m (mf.fallen_ne c rs rt imm i h x e) = holds_there q n i h
from_there q n m (mf.called f c h e) = holds_there q n h.item h.holds
from_there q n m (mf.returned f d rs i h x o c) = holds_there q n i h

-- ---- what is put splits exactly the critical edges

-- A block for the edge to the next block, or for the edge to the goal of the branch.
abbrev pub ForNext : Relays → Type 0
ForNext Nothing = ⊥
ForNext Next = Unit {0}
ForNext (Turned t) = ⊥
ForNext (Both t) = Unit {0}

abbrev pub ForGoal : Relays → Type 0
ForGoal Nothing = ⊥
ForGoal Next = ⊥
ForGoal (Turned t) = Unit {0}
ForGoal (Both t) = Unit {0}

pub record Splits (relays : ℕ → Relays) (p : HardProgram) (formed : (b : ℕ) → b < length p.blocks → Formed (items_of p b)) : Type 0 where
  pub only : (b m c : ℕ) → b < length p.blocks → slice_get (goals b (relays b)) m ≡ Some c → HasTwo (MayFollow p) c
  pub one_edge : (b : ℕ) (l : b < length p.blocks) → Branches ((formed b l).close) (b + 1) → relays b ≡ Nothing
  pub falls : (b t : ℕ) (l : b < length p.blocks) → Branches ((formed b l).close) t → t ≢ b + 1 → HasTwo (MayFollow p) (b + 1) → ForNext (relays b)
  pub takes : (b t : ℕ) (l : b < length p.blocks) → Branches ((formed b l).close) t → t ≢ b + 1 → HasTwo (MayFollow p) t → ForGoal (relays b)
  pub returned : (b w k f : ℕ) (l : b < length p.blocks) → IsReturnClose ((formed b l).close) → IsOfFunction p b f → CallsFunction p k f → HasTwo (MayFollow p) (k + 1) → MayFollow p b w → w ≢ k + 1 → relays k ≡ Next

-- ---- places

lt_down : (relays : ℕ → Relays) (b c : ℕ) → place_of relays b < place_of relays c → b < c
lt_down relays b c h = strict b c (le_down relays b c (weak (place_of relays b) (place_of relays c) h)) (λ e. apart (place_of relays b) (place_of relays c) h (ap (place_of relays) e))
  where
    weak : (a b : ℕ) → a < b → a ≤ b
    weak a b h = omega arith

    apart : (a b : ℕ) → a < b → a ≡ b → ⊥
    apart a b h e = omega arith

    strict : (a b : ℕ) → a ≤ b → a ≢ b → a < b
    strict a b h n = grind arith

one_up : (b : ℕ) → b < b + 1
one_up b = omega arith

-- A number within the places of two blocks is within those of one.
inside : (relays : ℕ → Relays) (b d x : ℕ) → place_of relays b ≤ x → x < place_of relays (b + 1) → place_of relays d ≤ x → x < place_of relays (d + 1) → d ≡ b
inside relays b d x h k i j = same d b (lt_down relays b (d + 1) (trans (place_of relays b) x (place_of relays (d + 1)) h j)) (lt_down relays d (b + 1) (trans (place_of relays d) x (place_of relays (b + 1)) i k))
  where
    trans : (a b c : ℕ) → a ≤ b → b < c → a < c
    trans a b c h k = omega arith

    same : (d b : ℕ) → b < d + 1 → d < b + 1 → d ≡ b
    same d b h k = omega arith

self : (a : ℕ) → a ≤ a
self a = omega arith

-- A block behind the place of a block is at no place.
pub between : (relays : ℕ → Relays) (b m c : ℕ) → m < length (goals b (relays b)) → place_of relays b + suc m ≡ place_of relays c → ⊥
between relays b m c h e = by (inside relays b c (place_of relays c) (low (place_of relays b) m (place_of relays c) e) (subst (λ (z : ℕ). z < place_of relays (b + 1)) e (place_within relays b (suc m) (up m (length (goals b (relays b))) h))) (self (place_of relays c)) (place_up relays c (c + 1) (one_up c)))
  where
    low : (a m c : ℕ) → a + suc m ≡ c → a ≤ c
    low a m c e = omega arith

    up : (m n : ℕ) → m < n → suc m < suc n
    up m n h = omega arith

    no : (a m : ℕ) → a + suc m ≡ a → ⊥
    no a m e = omega arith

    by : c ≡ b → ⊥
    by s = no (place_of relays b) m (e ∙ ap (place_of relays) s)

-- A block that is put behind a block stands behind another just where that is the block.
behind_one : (relays : ℕ → Relays) (b m d : ℕ) → m < length (goals b (relays b)) → place_of relays b + suc m ≡ place_of relays d + 1 → d ≡ b
behind_one relays b m d h e =
    inside relays b d (place_of relays b + m) (low (place_of relays b) m) (place_within relays b m (up m (length (goals b (relays b))) h)) (subst (λ (z : ℕ). place_of relays d ≤ z) (back (place_of relays b) m (place_of relays d) e) (self (place_of relays d)))
    (subst (λ (z : ℕ). z < place_of relays (d + 1)) (back (place_of relays b) m (place_of relays d) e) (place_up relays d (d + 1) (one_up d)))
  where
    low : (a m : ℕ) → a ≤ a + m
    low a m = omega arith

    up : (m n : ℕ) → m < n → m < suc n
    up m n h = omega arith

    back : (a m d : ℕ) → a + suc m ≡ d + 1 → d ≡ a + m
    back a m d e = omega arith

behind_two : (relays : ℕ → Relays) (b m d u : ℕ) → m < length (goals b (relays b)) → relays d ≡ Both u → place_of relays b + suc m ≡ place_of relays d + 2 → d ≡ b
behind_two relays b m d u h r e =
    inside relays b d (place_of relays b + suc m) (low (place_of relays b) (suc m)) (place_within relays b (suc m) (up m (length (goals b (relays b))) h)) (subst (λ (z : ℕ). place_of relays d ≤ z) (sym e) (low (place_of relays d) 2))
    (subst (λ (z : ℕ). z < place_of relays (d + 1)) (sym e) (place_within relays d 2 (subst (λ (z : Relays). 2 < suc (length (goals d z))) (sym r) three)))
  where
    low : (a m : ℕ) → a ≤ a + m
    low a m = omega arith

    up : (m n : ℕ) → m < n → suc m < suc n
    up m n h = omega arith

    three : 2 < suc (length (goals d (Both u)))
    three = omega arith

-- The place behind that of a block, where it is a place, is that of the next.
pub next_place : (relays : ℕ → Relays) (b c : ℕ) → place_of relays c ≡ place_of relays b + 1 → c ≡ b + 1
next_place relays b c e = both b c (lt_down relays b c (more (place_of relays b) (place_of relays c) e)) (le_down relays c (b + 1) (less (place_of relays c) (place_of relays b) (place_of relays (b + 1)) e (place_up relays b (b + 1) (one_up b))))
  where
    more : (a c : ℕ) → c ≡ a + 1 → a < c
    more a c e = omega arith

    less : (c a n : ℕ) → c ≡ a + 1 → a < n → c ≤ n
    less c a n e h = omega arith

    both : (b c : ℕ) → b < c → c ≤ b + 1 → c ≡ b + 1
    both b c h k = omega arith

-- ---- closes

branch_no_call : (c : Close) (t f : ℕ) → Branches c t → c ≡ Call f → ⊥
branch_no_call c t f h e = no h.checked h.register h.when (sym h.is ∙ e)
  where
    no : (x : Bool) (y : ℕ) (z : Bool) → Branch x y z t ≡ Call f → ⊥
    no x y z e = cc

same_call : (c : Close) (f g : ℕ) → c ≡ Call f → c ≡ Call g → f ≡ g
same_call c f g e h = by (sym e ∙ h)
  where
    by : Call f ≡ Call g → f ≡ g
    by e = cc

return_item : (c : Close) → IsReturnClose c → (closing c).instr ≡ Jr 31
return_item (Return checked) h = refl
return_item (Jump t) h = absurd h
return_item (Branch checked m when t) h = absurd h
return_item (Call f) h = absurd h
return_item (Exit checked) h = absurd h

module _ (relays : ℕ → Relays) (p q : HardProgram) (a : Put relays p q) where
  -- A function that is left by a return is left by one block.
  same_return : (b c f : ℕ) (l : b < length p.blocks) (m : c < length p.blocks) → IsReturnClose ((a.formed b l).close) → IsReturnClose ((a.formed c m).close) → IsOfFunction p b f → IsOfFunction p c f → b ≡ c
  same_return b c f l m h k o u =
      let i : (n : ℕ) × ItemAt (items_of p b) n (closing ((a.formed b l).close)) = holds_at (items_of p b) (closing ((a.formed b l).close)) (holds_closing p b (a.formed b l)) in
      let j : (n : ℕ) × ItemAt (items_of p c) n (closing ((a.formed c m).close)) = holds_at (items_of p c) (closing ((a.formed c m).close)) (holds_closing p c (a.formed c m)) in
      a.well.one_return b c f i.0 j.0 31 31 (closing ((a.formed b l).close)) (closing ((a.formed c m).close)) o u i.1 j.1 (return_item ((a.formed b l).close) h) (return_item ((a.formed c m).close) k)

  pub of_p : (b f : ℕ) → IsOfFunction q (place_of relays b) f → IsOfFunction p b f
  of_p b f o = (in_function relays p q a.has b (place_of relays b) f (self (place_of relays b)) (place_up relays b (b + 1) (one_up b))).0 o

  -- ---- what comes before a block that is put

  data Before (b n : ℕ) : Type 0 where
    by_branch : (t : ℕ) (l : b < length p.blocks) → Branches ((a.formed b l).close) t → n ≡ place_of relays b → Before b n
    by_return : (d f : ℕ) (l : d < length p.blocks) → IsReturnClose ((a.formed d l).close) → IsOfFunction p d f → CallsFunction p b f → n ≡ place_of relays d → Before b n

  before_goal : (b m d t : ℕ) (l : d < length p.blocks) (r : Relays) → relays d ≡ r → Puts r ((a.formed d l).close) → m < length (goals b (relays b)) → place_of relays b + suc m ≡ goal_place (place_of relays) d r t → Before b (place_of relays d)
  before_goal b m d t l Nothing e h k s = absurd (between relays b m t k s)
  before_goal b m d t l Next e h k s = absurd (between relays b m t k s)
  before_goal b m d t l (Turned u) e h k s = absurd (between relays b m (d + 1) k s)
  before_goal b m d t l (Both u) e h k s =
      let z : d ≡ b = behind_two relays b m d u k e s in
      subst (λ (x : ℕ). Before x (place_of relays d)) z (by_branch u l (branches_to ((a.formed d l).close) u h) refl)

  before_next : (b m d t : ℕ) (l : d < length p.blocks) → Branches ((a.formed d l).close) t → m < length (goals b (relays b)) → place_of relays b + suc m ≡ place_of relays d + 1 → Before b (place_of relays d)
  before_next b m d t l h k s = subst (λ (x : ℕ). Before x (place_of relays d)) (behind_one relays b m d k s) (by_branch t l h refl)

  before_at : (b m d : ℕ) (l : d < length p.blocks) → m < length (goals b (relays b)) → (c : Close) → (a.formed d l).close ≡ c → Leads q (place_of relays d) (put_close (place_of relays) d (relays d) c) (place_of relays b + suc m) → Before b (place_of relays d)
  before_at b m d l k (Jump t) e h = before_goal b m d t l (relays d) refl (a.puts d l) k h
  before_at b m d l k (Branch checked r when t) e (inl h) = before_goal b m d t l (relays d) refl (a.puts d l) k h
  before_at b m d l k (Branch checked r when t) e (inr h) = before_next b m d t l (record { checked = checked; register = r; when = when; is = e }) k h
  before_at b m d l k (Call f) e h =
      let x : (x : ℕ) × (slice_get p.entries f ≡ Some x) × (place_of relays b + suc m ≡ place_of relays x) = got_map (place_of relays) p.entries f (place_of relays b + suc m) (sym (ap (λ (z : List ℕ). slice_get z f) a.has.entries) ∙ h) in
      absurd (between relays b m x.0 k x.2)
  before_at b m d l k (Return checked) e h =
      let c : Caller relays p h.1.0 h.0 = caller relays p q a h.1.0 h.0 h.1.1.1.0 in
      let s : c.block ≡ b = behind_one relays b m c.block k (h.1.1.1.1 ∙ ap (λ (z : ℕ). z + 1) c.is) in
      by_return d h.0 l (subst IsReturnClose (sym e) tt) (of_p d h.0 h.1.1.0) (subst (λ (z : ℕ). CallsFunction p z h.0) s c.calls) refl
  before_at b m d l k (Exit checked) e h = absurd h

  before : (b m n : ℕ) → m < length (goals b (relays b)) → MayFollow q n (place_of relays b + suc m) → Before b n
  before b m n k f = by (located relays p q a.has n (from_there q n (place_of relays b + suc m) f))
    where
      by : Located relays p q n → Before b n
      by (at_relay d r c l s e i) = absurd (between relays b m c k (relay_leads relays p q a n (place_of relays c) (place_of relays b + suc m) i f))
      by (at_place d l e) = subst (λ (z : ℕ). Before b z) (sym e) (before_at b m d l k ((a.formed d l).close) refl (place_leads relays p q a d (place_of relays b + suc m) l (subst (λ (z : ℕ). MayFollow q z (place_of relays b + suc m)) e f)))

  -- It comes behind one block.
  same_before : (b n o : ℕ) → Before b n → Before b o → n ≡ o
  same_before b n o (by_branch t l h e) (by_branch u m k f) = e ∙ sym f
  same_before b n o (by_branch t l h e) (by_return d f m k i c s) = absurd (branch_no_call ((a.formed b l).close) t f h (calls_close p b f (a.formed b l) c))
  same_before b n o (by_return d f m k i c s) (by_branch t l h e) = absurd (branch_no_call ((a.formed b l).close) t f h (calls_close p b f (a.formed b l) c))
  same_before b n o (by_return d f m k i c s) (by_return e g l h j x y) =
      let there : b < length p.blocks = holds_there p b c.item c.holds in
      let z : f ≡ g = same_call ((a.formed b there).close) f g (calls_close p b f (a.formed b there) c) (calls_close p b g (a.formed b there) x) in
      s ∙ (ap (place_of relays) (same_return d e g m l k h (subst (λ (w : ℕ). IsOfFunction p d w) z i) j) ∙ sym y)

  pub once : (b m : ℕ) → m < length (goals b (relays b)) → HasTwo (MayFollow q) (place_of relays b + suc m) → ⊥
  once b m k t = t.differ (same_before b t.one t.other (before b m t.one k t.by_one) (before b m t.other k t.by_other))

  -- ---- the edges that go straight

  straight_goal : (b c t : ℕ) (r : Relays) → relays b ≡ r → place_of relays c ≡ goal_place (place_of relays) b r t → (c ≡ t) ⊎ (c ≡ b + 1)
  straight_goal b c t Nothing e s = inl (place_once relays c t s)
  straight_goal b c t Next e s = inl (place_once relays c t s)
  straight_goal b c t (Turned u) e s = inr (place_once relays c (b + 1) s)
  straight_goal b c t (Both u) e s = absurd (between relays b 1 c (subst (λ (z : Relays). 1 < length (goals b z)) (sym e) two) (sym s))
    where
      two : 1 < length (goals b (Both u))
      two = omega arith

  straight_jump : (b c t : ℕ) (r : Relays) → Puts r (Jump t) → place_of relays c ≡ goal_place (place_of relays) b r t → c ≡ t
  straight_jump b c t Nothing h s = place_once relays c t s
  straight_jump b c t Next h s = absurd h
  straight_jump b c t (Turned u) h s = absurd h
  straight_jump b c t (Both u) h s = absurd h

  straight_at : (b c : ℕ) (l : b < length p.blocks) (k : Close) → (a.formed b l).close ≡ k → Leads q (place_of relays b) (put_close (place_of relays) b (relays b) k) (place_of relays c) → Leads p b k c
  straight_at b c l (Jump t) e h = straight_jump b c t (relays b) (subst (Puts (relays b)) e (a.puts b l)) h
  straight_at b c l (Branch checked m when t) e (inl h) = straight_goal b c t (relays b) refl h
  straight_at b c l (Branch checked m when t) e (inr h) = inr (next_place relays b c h)
  straight_at b c l (Call f) e h =
      let x : (x : ℕ) × (slice_get p.entries f ≡ Some x) × (place_of relays c ≡ place_of relays x) = got_map (place_of relays) p.entries f (place_of relays c) (sym (ap (λ (z : List ℕ). slice_get z f) a.has.entries) ∙ h) in
      subst (λ (z : ℕ). slice_get p.entries f ≡ Some z) (place_once relays x.0 c (sym x.2)) x.1
  straight_at b c l (Return checked) e h =
      let k : Caller relays p h.1.0 h.0 = caller relays p q a h.1.0 h.0 h.1.1.1.0 in
      (h.0, (k.block, (of_p b h.0 h.1.1.0, (k.calls, next_place relays k.block c (h.1.1.1.1 ∙ ap (λ (z : ℕ). z + 1) k.is)))))
  straight_at b c l (Exit checked) e h = h

  pub straight : (b c : ℕ) → b < length p.blocks → MayFollow q (place_of relays b) (place_of relays c) → MayFollow p b c
  straight b c l f = follows p b c (a.formed b l) (straight_at b c l ((a.formed b l).close) refl (place_leads relays p q a b (place_of relays c) l f))

  module _ (s : Splits relays p a.formed) where
    -- A place with two blocks before it is that of a block with two.
    two_before : (c : ℕ) → HasTwo (MayFollow q) (place_of relays c) → HasTwo (MayFollow p) c
    two_before c t = by (located relays p q a.has t.one (from_there q t.one (place_of relays c) t.by_one)) (located relays p q a.has t.other (from_there q t.other (place_of relays c) t.by_other))
      where
        relayed : (n b r d : ℕ) → b < length p.blocks → slice_get (goals b (relays b)) r ≡ Some d → items_of q n ≡ close_items (Jump (place_of relays d)) → MayFollow q n (place_of relays c) → HasTwo (MayFollow p) c
        relayed n b r d l e i f = subst (HasTwo (MayFollow p)) (sym (place_once relays c d (relay_leads relays p q a n (place_of relays d) (place_of relays c) i f))) (s.only b r d l e)

        by : Located relays p q t.one → Located relays p q t.other → HasTwo (MayFollow p) c
        by (at_relay b r d l e n i) o = relayed t.one b r d l e i t.by_one
        by (at_place b l e) (at_relay x r d m f n i) = relayed t.other x r d m f i t.by_other
        by (at_place b l e) (at_place d m f) = record {
          one = b;
          other = d;
          differ = λ z. t.differ (e ∙ (ap (place_of relays) z ∙ sym f));
          by_one = straight b c l (subst (λ (z : ℕ). MayFollow q z (place_of relays c)) e t.by_one);
          by_other = straight d c m (subst (λ (z : ℕ). MayFollow q z (place_of relays c)) f t.by_other);
        }

    -- ---- no edge is critical

    relay_two : (b m v : ℕ) (r : Relays) → relays b ≡ r → m < length (goals b r) → v ≡ place_of relays b + suc m → HasTwo (MayFollow q) v → ⊥
    relay_two b m v r e k i t = once b m (subst (λ (z : Relays). m < length (goals b z)) (sym e) k) (subst (HasTwo (MayFollow q)) i t)

    goal_two : (b t v : ℕ) (l : b < length p.blocks) (r : Relays) → relays b ≡ r → Branches ((a.formed b l).close) t → t ≢ b + 1 → v ≡ goal_place (place_of relays) b r t → HasTwo (MayFollow q) v → ⊥
    goal_two b t v l Nothing e h n i k = subst ForGoal e (s.takes b t l h n (two_before t (subst (HasTwo (MayFollow q)) i k)))
    goal_two b t v l Next e h n i k = subst ForGoal e (s.takes b t l h n (two_before t (subst (HasTwo (MayFollow q)) i k)))
    goal_two b t v l (Turned u) e h n i k = subst ForNext e (s.falls b t l h n (two_before (b + 1) (subst (HasTwo (MayFollow q)) i k)))
    goal_two b t v l (Both u) e h n i k = relay_two b 1 v (Both u) e (omega arith) i k

    next_two : (b t v : ℕ) (l : b < length p.blocks) (r : Relays) → relays b ≡ r → Branches ((a.formed b l).close) t → t ≢ b + 1 → v ≡ place_of relays b + 1 → HasTwo (MayFollow q) v → ⊥
    next_two b t v l Nothing e h n i k = subst ForNext e (s.falls b t l h n (two_before (b + 1) (subst (HasTwo (MayFollow q)) (i ∙ place_next relays b Nothing e) k)))
    next_two b t v l Next e h n i k = relay_two b 0 v Next e (omega arith) i k
    next_two b t v l (Turned u) e h n i k = relay_two b 0 v (Turned u) e (omega arith) i k
    next_two b t v l (Both u) e h n i k = relay_two b 0 v (Both u) e (omega arith) i k

    same_or : (a b : ℕ) → (a ≡ b) ⊎ (a ≢ b)
    same_or a b = grind arith

    -- A block that branches to the next block alone.
    one_way : (b t v w : ℕ) → relays b ≡ Nothing → t ≡ b + 1 → (v ≡ goal_place (place_of relays) b (relays b) t) ⊎ (v ≡ place_of relays b + 1) → (w ≡ goal_place (place_of relays) b (relays b) t) ⊎ (w ≡ place_of relays b + 1) → w ≡ v
    one_way b t v w e i h k = is w k ∙ sym (is v h)
      where
        is : (x : ℕ) → (x ≡ goal_place (place_of relays) b (relays b) t) ⊎ (x ≡ place_of relays b + 1) → x ≡ place_of relays (b + 1)
        is x (inl h) = h ∙ (ap (λ (z : Relays). goal_place (place_of relays) b z t) e ∙ ap (place_of relays) i)
        is x (inr h) = h ∙ place_next relays b Nothing e

    both_ways : (b t v w : ℕ) (l : b < length p.blocks) → Branches ((a.formed b l).close) t → (v ≡ goal_place (place_of relays) b (relays b) t) ⊎ (v ≡ place_of relays b + 1) → (w ≡ goal_place (place_of relays) b (relays b) t) ⊎ (w ≡ place_of relays b + 1) → HasTwo (MayFollow q) v → w ≡ v
    both_ways b t v w l h x y k = elim (same_or t (b + 1)) as (λ z. w ≡ v) [
      | inl e ↦ one_way b t v w (s.one_edge b l (subst (Branches ((a.formed b l).close)) e h)) e x y
      | inr n ↦ absurd (by n x)
    ]
      where
        by : t ≢ b + 1 → (v ≡ goal_place (place_of relays) b (relays b) t) ⊎ (v ≡ place_of relays b + 1) → ⊥
        by n (inl e) = goal_two b t v l (relays b) refl h n e k
        by n (inr e) = next_two b t v l (relays b) refl h n e k

    back_ways : (b v w : ℕ) (l : b < length p.blocks) → IsReturnClose ((a.formed b l).close) → (f x : ℕ) → IsOfFunction q (place_of relays b) f → CallsFunction q x f → v ≡ x + 1 → (g y : ℕ) → IsOfFunction q (place_of relays b) g → CallsFunction q y g → w ≡ y + 1 → HasTwo (MayFollow q) v → w ≡ v
    back_ways b v w l h f x o c i g y u d j k = by (relays m.block) refl (subst (Puts (relays m.block)) (calls_close p m.block f (a.formed m.block there) m.calls) (a.puts m.block there))
      where
        m : Caller relays p x f
        m = caller relays p q a x f c

        n : Caller relays p y g
        n = caller relays p q a y g d

        there : m.block < length p.blocks
        there = holds_there p m.block m.calls.item m.calls.holds

        up : (a b : ℕ) → a + 1 ≡ b + 1 → a ≡ b
        up a b e = omega arith

        follow : MayFollow p b (n.block + 1)
        follow = straight_return ((a.formed b l).close) refl h
          where
            straight_return : (z : Close) → (a.formed b l).close ≡ z → IsReturnClose z → MayFollow p b (n.block + 1)
            straight_return (Return checked) e r = follows p b (n.block + 1) (a.formed b l) (subst (λ (z : Close). Leads p b z (n.block + 1)) (sym e) (g, (n.block, (of_p b g u, (n.calls, refl)))))
            straight_return (Jump t) e r = absurd r
            straight_return (Branch checked z when t) e r = absurd r
            straight_return (Call z) e r = absurd r
            straight_return (Exit checked) e r = absurd r

        to_next : relays m.block ≡ Nothing → v ≡ place_of relays (m.block + 1)
        to_next e = i ∙ (ap (λ (z : ℕ). z + 1) m.is ∙ place_next relays m.block Nothing e)

        no : Nothing ≡ Next → ⊥
        no e = cc

        by : (r : Relays) → relays m.block ≡ r → Puts r (Call f) → w ≡ v
        by Nothing e z = elim (same_or n.block m.block) as (λ z. w ≡ v) [
          | inl t ↦ j ∙ (ap (λ (z : ℕ). z + 1) (n.is ∙ (ap (place_of relays) t ∙ sym m.is)) ∙ sym i)
          | inr t ↦ absurd (no (sym e ∙ s.returned b (n.block + 1) m.block f l h (of_p b f o) m.calls (two_before (m.block + 1) (subst (HasTwo (MayFollow q)) (to_next e) k)) follow (λ z. t (up n.block m.block z))))
        ]
        by Next e z = absurd (relay_two m.block 0 v Next e (omega arith) (i ∙ ap (λ (z : ℕ). z + 1) m.is) k)
        by (Turned u) e z = absurd z
        by (Both u) e z = absurd z

    at_close : (b v w : ℕ) (l : b < length p.blocks) (c : Close) → (a.formed b l).close ≡ c → Leads q (place_of relays b) (put_close (place_of relays) b (relays b) c) v → Leads q (place_of relays b) (put_close (place_of relays) b (relays b) c) w → HasTwo (MayFollow q) v → w ≡ v
    at_close b v w l (Jump t) e h k t2 = k ∙ sym h
    at_close b v w l (Branch checked m when t) e h k t2 = both_ways b t v w l (record { checked = checked; register = m; when = when; is = e }) h k t2
    at_close b v w l (Call f) e h k t2 = same_some w v (sym k ∙ h)
    at_close b v w l (Return checked) e h k t2 = back_ways b v w l (subst IsReturnClose (sym e) tt) h.0 h.1.0 h.1.1.0 h.1.1.1.0 h.1.1.1.1 k.0 k.1.0 k.1.1.0 k.1.1.1.0 k.1.1.1.1 t2
    at_close b v w l (Exit checked) e h k t2 = absurd h

    pub smooth : IsSmooth (MayFollow q)
    smooth n v w e t f = by (located relays p q a.has n (from_there q n v e))
      where
        by : Located relays p q n → w ≡ v
        by (at_relay b r c l x y i) = relay_leads relays p q a n (place_of relays c) w i f ∙ sym (relay_leads relays p q a n (place_of relays c) v i e)
        by (at_place b l x) = at_close b v w l ((a.formed b l).close) refl (place_leads relays p q a b v l (subst (λ (z : ℕ). MayFollow q z v) x e)) (place_leads relays p q a b w l (subst (λ (z : ℕ). MayFollow q z w) x f)) t
