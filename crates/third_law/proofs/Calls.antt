-- Arguments, frames and returned words.
use Rattle.std.proofs.Common.{◌≡◌, ◌≢◌, ◌≤◌, ◌<◌, ℕ, zero, suc, ◌+◌, ◌-◌, ◌*◌, ◌/◌, ◌%◌, ◌^◌, arith, ap, refl, sym, ◌∙◌, subst, List, [], ◌∷◌, ◌++◌, append_assoc, length, Bool, true, false, cond, not, inl, inr, le_refl, mod-lt}
use Rattle.std.specs.Prelude.{Option, Some, None, ◌==◌, slice_get}
use Rattle.hard_words.specs.Words.{extended}
use Rattle.mips_isa.specs.declared.instr.Instr.TheVariants as mips
use Rattle.mips_isa.specs.Machine.{plus}
use Rattle.mid_blocks.specs.declared.places.Place.{Place}
use Rattle.mid_blocks.specs.declared.places.Place.TheVariants.{Pair, Slot}
use Rattle.mid_blocks.specs.declared.places.Places.{Places}
use Rattle.mips_isa.specs.declared.instr.Instr.{Instr}
use Rattle.third_law.specs.declared.roles.Stream.{Stream}
use Rattle.third_law.specs.declared.roles.Stream.TheVariants.{First, Second, Third}
use Rattle.third_law.specs.declared.roles.Role.{Role}
use Rattle.third_law.specs.declared.roles.Role.TheVariants.{Value, Stack, Link}
use Rattle.third_law.specs.Roles.{reg_in, off_in, each, move, load, store}
use Rattle.third_law.specs.Emitted.{place_of, slot_offset, source, fetched, brought, argument_code, returned_code, enter_code, parameter_code, parameter_load, result_to}
use Rattle.third_law.proofs.Sights.{Sight, lane, put}
use Rattle.third_law.proofs.Loading.{LeadsTo, lane_fits}
use Rattle.third_law.proofs.Storing.{set_cell}
use Rattle.third_law.proofs.Leading.{Runnable, Does, does_nothing, does_then, does_load, does_store, with_words}
use Rattle.third_law.proofs.Arithmetic.{extended_low}
use Rattle.third_law.proofs.Operations.{put_there, put_beside, put_word, does_two, does_zero, does_move, two_addiu, two_copy}
use Rattle.third_law.proofs.Places.{offset_in, Frame, PlaceFits, in_place, IsKept, Near, near_self, near_frame, fetch, does_fetched, fetch_near, fetch_word, source_fits, does_brought, NotRole, SetsPlace, keep_sets, slot_leads}
use Rattle.third_law.proofs.Steps.{StandsIn, slot_sets}

eq_self : (n : ℕ) → (n == n) ≡ true
eq_self n = grind arith

ne_false : (m n : ℕ) → m ≢ n → (m == n) ≡ false
ne_false m n h = grind arith

high_offset : (n : ℕ) → 2 ^ 15 ≤ n → n < 2 ^ 16 → extended n ≡ n + (2 ^ 32 - 2 ^ 16)
high_offset n h k = grind arith

-- ---- the stack pointer

-- The stack pointer stands at a cell.
pub record StackAt (size top : ℕ) (a : Sight) : Type 0 where
  pub stack : a.file Stack ≡ 0x10010000 + 16 * top
  pub room : top ≤ size
  pub small : size ≤ 32768

down_offset : (n : ℕ) → 1 ≤ n → n ≤ 2002 → (2 ^ 15 ≤ 2 ^ 16 - 16 * n) × (2 ^ 16 - 16 * n < 2 ^ 16)
down_offset n h k = (omega arith, omega arith)

down_by : (x top size n : ℕ) → x ≡ 0x10010000 + 16 * top → top ≤ size → size ≤ 32768 → 1 ≤ n → n ≤ 2002 → n ≤ top → (x + (2 ^ 16 - 16 * n + (2 ^ 32 - 2 ^ 16))) % 2 ^ 32 ≡ 0x10010000 + 16 * (top - n)
down_by x top size n e r s h k l = omega arith

up_by : (x top size n : ℕ) → x ≡ 0x10010000 + 16 * top → top + n ≤ size → size ≤ 32768 → (x + 16 * n) % 2 ^ 32 ≡ 0x10010000 + 16 * (top + n)
up_by x top size n e r s = omega arith

plus_small : (x y : ℕ) → plus x y < 2 ^ 32
plus_small x y = mod-lt (x + y) (omega arith)

pub does_down : (p : Runnable) (size top n : ℕ) (a : Sight) → StackAt size top a → 1 ≤ n → n ≤ 2002 → n ≤ top → Does p size (each (λ t. mips.Addiu (reg_in t Stack) (reg_in t Stack) (2 ^ 16 - 16 * n))) a (put a Stack (0x10010000 + 16 * (top - n)))
does_down p size top n a s h k l =
    let is : plus (a.file Stack) (extended (2 ^ 16 - 16 * n)) ≡ 0x10010000 + 16 * (top - n) = ap (λ (z : ℕ). plus (a.file Stack) z) (high_offset (2 ^ 16 - 16 * n) (down_offset n h k).0 (down_offset n h k).1) ∙ down_by (a.file Stack) top size n s.stack s.room s.small h k l in
    put_word p size (each (λ t. mips.Addiu (reg_in t Stack) (reg_in t Stack) (2 ^ 16 - 16 * n))) a Stack (plus (a.file Stack) (extended (2 ^ 16 - 16 * n))) (0x10010000 + 16 * (top - n)) is
    (does_two p size (λ x y. mips.Addiu x y (2 ^ 16 - 16 * n)) (λ x. plus x (extended (2 ^ 16 - 16 * n))) Stack Stack a (two_addiu (2 ^ 16 - 16 * n)) tt tt (plus_small (a.file Stack) (extended (2 ^ 16 - 16 * n))))

up_offset : (n : ℕ) → n ≤ 2002 → 16 * n < 2 ^ 15
up_offset n h = omega arith

pub does_up : (p : Runnable) (size top n : ℕ) (a : Sight) → a.file Stack ≡ 0x10010000 + 16 * top → top + n ≤ size → size ≤ 32768 → n ≤ 2002 → Does p size (each (λ t. mips.Addiu (reg_in t Stack) (reg_in t Stack) (16 * n))) a (put a Stack (0x10010000 + 16 * (top + n)))
does_up p size top n a e r s k =
    let is : plus (a.file Stack) (extended (16 * n)) ≡ 0x10010000 + 16 * (top + n) = ap (λ (z : ℕ). plus (a.file Stack) z) (extended_low (16 * n) (up_offset n k)) ∙ up_by (a.file Stack) top size n e r s in
    put_word p size (each (λ t. mips.Addiu (reg_in t Stack) (reg_in t Stack) (16 * n))) a Stack (plus (a.file Stack) (extended (16 * n))) (0x10010000 + 16 * (top + n)) is
    (does_two p size (λ x y. mips.Addiu x y (16 * n)) (λ x. plus x (extended (16 * n))) Stack Stack a (two_addiu (16 * n)) tt tt (plus_small (a.file Stack) (extended (16 * n))))

-- ---- the return address

link_by : (x top size h : ℕ) → x ≡ 0x10010000 + 16 * top → top < size → size ≤ 32768 → h ≤ 2 → (x + (0 + 4 * h)) % 2 ^ 32 ≡ 0x10010000 + (16 * top + 4 * h)
link_by x top size h e r k l = omega arith

lane_low : (h : ℕ) → h ≤ 2 → 0 + 4 * h < 2 ^ 15
lane_low h l = omega arith

zero_low : 0 < 2 ^ 15
zero_low = omega arith

pub link_leads : (size top : ℕ) (a : Sight) → a.file Stack ≡ 0x10010000 + 16 * top → top < size → size ≤ 32768 → LeadsTo size a Stack 0 top
link_leads size top a e r k = record {
  fits = tt;
  below = r;
  at = λ t. ap (λ (z : ℕ). plus (a.file Stack) (extended z)) (offset_in t 0 zero_low) ∙ (ap (λ (z : ℕ). plus (a.file Stack) z) (extended_low (0 + 4 * lane t) (lane_low (lane t) (lane_fits t))) ∙ link_by (a.file Stack) top size (lane t) e r k (lane_fits t));
}

-- ---- arguments

argument_by : (x top size i h : ℕ) → x ≡ 0x10010000 + 16 * top → top ≤ size → size ≤ 32768 → i + 1 ≤ top → i + 1 ≤ 2002 → h ≤ 2 → (x + (2 ^ 16 - 16 * (i + 1) + 4 * h + (2 ^ 32 - 2 ^ 16))) % 2 ^ 32 ≡ 0x10010000 + (16 * (top - (i + 1)) + 4 * h)
argument_by x top size i h e r s k l m = omega arith

argument_in : (t : Stream) (i : ℕ) → i + 1 ≤ 2002 → off_in t (2 ^ 16 - 16 * (i + 1)) ≡ 2 ^ 16 - 16 * (i + 1) + 4 * lane t
argument_in First i h = sym (Rattle.std.proofs.Common.add-zero (2 ^ 16 - 16 * (i + 1)))
argument_in Second i h = four i h
  where
    four : (i : ℕ) → i + 1 ≤ 2002 → (2 ^ 16 - 16 * (i + 1) + 4) % 2 ^ 16 ≡ 2 ^ 16 - 16 * (i + 1) + 4 * 1
    four i h = omega arith
argument_in Third i h = eight i h
  where
    eight : (i : ℕ) → i + 1 ≤ 2002 → (2 ^ 16 - 16 * (i + 1) + 8) % 2 ^ 16 ≡ 2 ^ 16 - 16 * (i + 1) + 4 * 2
    eight i h = omega arith

argument_high : (i h : ℕ) → i + 1 ≤ 2002 → h ≤ 2 → (2 ^ 15 ≤ 2 ^ 16 - 16 * (i + 1) + 4 * h) × (2 ^ 16 - 16 * (i + 1) + 4 * h < 2 ^ 16)
argument_high i h k l = (omega arith, omega arith)

argument_below : (top size i : ℕ) → top ≤ size → i + 1 ≤ top → top - (i + 1) < size
argument_below top size i r h = omega arith

pub argument_leads : (size top i : ℕ) (a : Sight) → StackAt size top a → i + 1 ≤ top → i + 1 ≤ 2002 → LeadsTo size a Stack (2 ^ 16 - 16 * (i + 1)) (top - (i + 1))
argument_leads size top i a s h k = record {
  fits = tt;
  below = argument_below top size i s.room h;
  at = λ t. ap (λ (z : ℕ). plus (a.file Stack) (extended z)) (argument_in t i k) ∙
      (ap (λ (z : ℕ). plus (a.file Stack) z) (high_offset (2 ^ 16 - 16 * (i + 1) + 4 * lane t) (argument_high i (lane t) k (lane_fits t)).0 (argument_high i (lane t) k (lane_fits t)).1) ∙
      argument_by (a.file Stack) top size i (lane t) s.stack s.room s.small h k (lane_fits t));
}

-- The words of the arguments from a number on stand below the stack pointer; nothing at or above them is changed.
pub record Argued (a a' : Sight) (top i : ℕ) (ws : List ℕ) : Type 0 where
  pub there : (j w : ℕ) → slice_get ws j ≡ Some w → (a'.cell (top - (i + j + 1)) ≡ w)
  pub above : (c : ℕ) → top - i ≤ c → a'.cell c ≡ a.cell c
  pub below : (c : ℕ) → c < top - (i + length ws) → a'.cell c ≡ a.cell c
  pub file : (r : Role) → IsKept r → a'.file r ≡ a.file r
  pub feed : a'.feed ≡ a.feed
  pub fed : a'.fed ≡ a.fed

-- Each variable of a list holds its word.
abbrev pub AllStand : ℕ → Places → Sight → ℕ → List ℕ → List ℕ → Type 0
AllStand pairs places a top [] [] = Unit {0}
AllStand pairs places a top [] (w ∷ ws) = ⊥
AllStand pairs places a top (v ∷ vs) [] = ⊥
AllStand pairs places a top (v ∷ vs) (w ∷ ws) = StandsIn pairs a top (place_of places v) w × AllStand pairs places a top vs ws

-- pairs that agree on all places of the frame
pub record SameFrame (a a' : Sight) (top : ℕ) : Type 0 where
  pub file : (r : Role) → IsKept r → a'.file r ≡ a.file r
  pub cell : (c : ℕ) → top ≤ c → a'.cell c ≡ a.cell c

above_top : (top s : ℕ) → top ≤ top + (s + 1)
above_top top s = omega arith

kept_two : (k : ℕ) → 2 ≤ k + 2
kept_two k = omega arith

pub stands_same : (pairs top w : ℕ) (a a' : Sight) (pl : Place) → SameFrame a a' top → StandsIn pairs a top pl w → StandsIn pairs a' top pl w
stands_same pairs top w a a' (Pair k) s st = record { fits = st.fits; word = s.file (Value (k + 2)) (kept_two k) ∙ st.word }
stands_same pairs top w a a' (Slot e) s st = record { fits = st.fits; word = s.cell (top + (e + 1)) (above_top top e) ∙ st.word }

pub all_stand_same : (pairs top : ℕ) (places : Places) (a a' : Sight) (vs ws : List ℕ) → SameFrame a a' top → AllStand pairs places a top vs ws → AllStand pairs places a' top vs ws
all_stand_same pairs top places a a' [] [] s h = tt
all_stand_same pairs top places a a' [] (w ∷ ws) s h = h
all_stand_same pairs top places a a' (v ∷ vs) [] s h = h
all_stand_same pairs top places a a' (v ∷ vs) (w ∷ ws) s h = (stands_same pairs top w a a' (place_of places v) s h.0, all_stand_same pairs top places a a' vs ws s h.1)

some_same : (x y : ℕ) → ◌≡◌ {A = Option ℕ} (Some x) (Some y) → x ≡ y
some_same x y e = ap (λ (o : Option ℕ). elim o as (λ z. ℕ) [ Some v ↦ v | None ↦ 0 ]) e

none_is : (x : ℕ) → ◌≡◌ {A = Option ℕ} None (Some x) → ⊥
none_is x e = cc

-- one argument
one_argument : (p : Runnable) (size pairs top i w : ℕ) (from : Place) (a : Sight) → Frame size pairs top a → StandsIn pairs a top from w → i + 1 ≤ top → i + 1 ≤ 2002 →
    (a' : Sight) × Does p size (fetched from 0 ++ store (source from 0) Stack (2 ^ 16 - 16 * (i + 1))) a a' × (a'.cell (top - (i + 1)) ≡ w) × ((c : ℕ) → c ≢ top - (i + 1) → a'.cell c ≡ a.cell c) × ((r : Role) → IsKept r → a'.file r ≡ a.file r) × (a'.feed ≡ a.feed) × (a'.fed ≡ a.fed)
one_argument p size pairs top i w from a f st h k =
    let m : Sight = fetch a top from 0 in
    let n : Near a m = fetch_near a top from 0 Rattle.std.proofs.Common.zero-le in
    let f1 : Frame size pairs top m = near_frame size pairs top a m n f in
    let r : Role = source from 0 in
    let c : ℕ = top - (i + 1) in
    let sa : StackAt size top m = record { stack = f1.stack; room = room_of top pairs size f1.room; small = f1.small } in
    let z : Sight = set_cell m c (m.file r) in (
      z,
      does_then p size (fetched from 0) (store r Stack (2 ^ 16 - 16 * (i + 1))) a m z (does_fetched p size pairs top 0 from a Rattle.std.proofs.Common.zero-le f st.fits)
          (does_store p size r Stack (2 ^ 16 - 16 * (i + 1)) c m (source_fits pairs from 0 Rattle.std.proofs.Common.zero-le st.fits) (argument_leads size top i m sa h k)),
      ap (λ (x : Bool). cond x (m.file r) (m.cell c)) (eq_self c) ∙ (fetch_word a top from 0 ∙ st.word),
      λ q ne. ap (λ (x : Bool). cond x (m.file r) (m.cell q)) (ne_false q c ne) ∙ n.cell q,
      λ q l. n.file q l,
      n.feed,
      n.fed,
    )
  where
    room_of : (top pairs size : ℕ) → top + pairs ≤ size → top ≤ size
    room_of top pairs size r = omega arith

pub arguments : (p : Runnable) (size pairs top : ℕ) (places : Places) (i : ℕ) (vs ws : List ℕ) (a : Sight) → Frame size pairs top a → AllStand pairs places a top vs ws → i + length ws ≤ top → i + length ws ≤ 2002 → (a' : Sight) × Does p size (argument_code places i vs) a a' × Argued a a' top i ws
arguments p size pairs top places i [] [] a f st h k = (
  a,
  does_nothing p size a,
  record {
    there = λ j w e. absurd (none_is w e);
    above = λ c l. refl;
    below = λ c l. refl;
    file = λ r l. refl;
    feed = refl;
    fed = refl;
  },
)
arguments p size pairs top places i [] (w ∷ ws) a f st h k = absurd st
arguments p size pairs top places i (v ∷ vs) [] a f st h k = absurd st
arguments p size pairs top places i (v ∷ vs) (w ∷ ws) a f st h k =
    let one : (a' : Sight) × Does p size (fetched (place_of places v) 0 ++ store (source (place_of places v) 0) Stack (2 ^ 16 - 16 * (i + 1))) a a' × (a'.cell (top - (i + 1)) ≡ w) × ((c : ℕ) → c ≢ top - (i + 1) → a'.cell c ≡ a.cell c) × ((r : Role) → IsKept r → a'.file r ≡ a.file r) × (a'.feed ≡ a.feed) × (a'.fed ≡ a.fed)
    = one_argument p size pairs top i w (place_of places v) a f st.0 (more_le i (length ws) top h) (more_le i (length ws) 2002 k) in
    let a1 : Sight = one.0 in
    let sf : SameFrame a a1 top = record { file = one.4; cell = λ c l. one.3 c (above_not top i c l (more_le i (length ws) top h)) } in
    let f1 : Frame size pairs top a1 = record { stack = one.4 Stack tt ∙ f.stack; room = f.room; small = f.small; pairs_fit = f.pairs_fit } in
    let rest : (a' : Sight) × Does p size (argument_code places (i + 1) vs) a1 a' × Argued a1 a' top (i + 1) ws = arguments p size pairs top places (i + 1) vs ws a1 f1 (all_stand_same pairs top places a a1 vs ws sf st.1) (shift_le i (length ws) top h) (shift_le i (length ws) 2002 k) in
    let g : Argued a1 rest.0 top (i + 1) ws = rest.2 in (
      rest.0,
      subst (λ (l : List Instr). Does p size l a rest.0) (append_assoc (fetched (place_of places v) 0) (store (source (place_of places v) 0) Stack (2 ^ 16 - 16 * (i + 1))) (argument_code places (i + 1) vs))
          (does_then p size (fetched (place_of places v) 0 ++ store (source (place_of places v) 0) Stack (2 ^ 16 - 16 * (i + 1))) (argument_code places (i + 1) vs) a a1 rest.0 one.1 rest.1),
      record {
        there = elim [
          | zero ↦ λ x e. g.above (top - (i + zero + 1)) (zero_up top i) ∙ (ap (λ (c : ℕ). a1.cell c) (zero_place top i) ∙ (one.2 ∙ some_same w x e))
          | suc j ↦ λ x e. ap (λ (c : ℕ). rest.0.cell c) (next_place top i j) ∙ g.there j x e
        ];
        above = λ c l. g.above c (lower_up top i c l) ∙ one.3 c (above_not' top i c l (more_le i (length ws) top h));
        below = λ c l. g.below c (below_down top i (length ws) c l) ∙ one.3 c (below_not top i (length ws) c l);
        file = λ r l. g.file r l ∙ one.4 r l;
        feed = g.feed ∙ one.5;
        fed = g.fed ∙ one.6;
      },
    )
  where
    more_le : (i n t : ℕ) → i + suc n ≤ t → i + 1 ≤ t
    more_le i n t h = omega arith

    shift_le : (i n t : ℕ) → i + suc n ≤ t → i + 1 + n ≤ t
    shift_le i n t h = omega arith

    above_not : (top i c : ℕ) → top ≤ c → i + 1 ≤ top → c ≢ top - (i + 1)
    above_not top i c l h = λ e. omega arith

    above_not' : (top i c : ℕ) → top - i ≤ c → i + 1 ≤ top → c ≢ top - (i + 1)
    above_not' top i c l h = λ e. omega arith

    lower_up : (top i c : ℕ) → top - i ≤ c → top - (i + 1) ≤ c
    lower_up top i c l = omega arith

    below_not : (top i n c : ℕ) → c < top - (i + suc n) → c ≢ top - (i + 1)
    below_not top i n c l = λ e. omega arith

    below_down : (top i n c : ℕ) → c < top - (i + suc n) → c < top - (i + 1 + n)
    below_down top i n c l = omega arith

    zero_place : (top i : ℕ) → top - (i + zero + 1) ≡ top - (i + 1)
    zero_place top i = omega arith

    zero_up : (top i : ℕ) → top - (i + 1) ≤ top - (i + zero + 1)
    zero_up top i = omega arith

    next_place : (top i j : ℕ) → top - (i + suc j + 1) ≡ top - (i + 1 + j + 1)
    next_place top i j = omega arith

-- ---- parameters

slot_of : (pairs i : ℕ) → i + 1 < pairs → 16 * (pairs - (i + 1)) ≡ slot_offset (pairs - 2 - i)
slot_of pairs i h = omega arith

cell_is : (top pairs i : ℕ) → i + 1 < pairs → top + (pairs - 2 - i + 1) ≡ top + (pairs - (i + 1))
cell_is top pairs i h = omega arith

slot_inside : (pairs i : ℕ) → i + 1 < pairs → pairs - 2 - i + 1 < pairs
slot_inside pairs i h = omega arith

parameter_leads : (size pairs top i : ℕ) (a : Sight) → Frame size pairs top a → i + 1 < pairs → LeadsTo size a Stack (16 * (pairs - (i + 1))) (top + (pairs - (i + 1)))
parameter_leads size pairs top i a f h = subst (λ (o : ℕ). LeadsTo size a Stack o (top + (pairs - (i + 1)))) (sym (slot_of pairs i h)) (subst (λ (c : ℕ). LeadsTo size a Stack (slot_offset (pairs - 2 - i)) c) (cell_is top pairs i h) (slot_leads size pairs top (pairs - 2 - i) a f (slot_inside pairs i h)))

-- a parameter that has a pair is there
pub record Loaded (a a' : Sight) (places : Places) (pairs top i n : ℕ) : Type 0 where
  pub there : (j k : ℕ) → i ≤ j → j < i + n → place_of places j ≡ Pair k → a'.file (Value (k + 2)) ≡ a.cell (top + (pairs - (j + 1)))
  pub file : (r : Role) → IsKept r → ((j : ℕ) → i ≤ j → j < i + n → NotRole (place_of places j) r) → a'.file r ≡ a.file r
  pub stack : a'.file Stack ≡ a.file Stack
  pub cell : (c : ℕ) → a'.cell c ≡ a.cell c
  pub feed : a'.feed ≡ a.feed
  pub fed : a'.fed ≡ a.fed

pair_of : (pl : Place) → ℕ
pair_of (Pair k) = k
pair_of (Slot s) = s

pair_same : (j k : ℕ) → Pair j ≡ Pair k → j ≡ k
unfolding pair_of
pair_same j k e = ap (λ (x : Place). pair_of x) e

slot_pair : (s k : ℕ) → Slot s ≡ Pair k → ⊥
slot_pair s k e = cc

pub record OneLoaded (p : Runnable) (size : ℕ) (a : Sight) (pairs top i : ℕ) (pl : Place) : Type 0 where
  pub now : Sight
  pub does : Does p size (parameter_load pl pairs i) a now
  pub there : (k : ℕ) → pl ≡ Pair k → now.file (Value (k + 2)) ≡ a.cell (top + (pairs - (i + 1)))
  pub file : (r : Role) → IsKept r → NotRole pl r → now.file r ≡ a.file r
  pub stack : now.file Stack ≡ a.file Stack
  pub cell : (c : ℕ) → now.cell c ≡ a.cell c
  pub feed : now.feed ≡ a.feed
  pub fed : now.fed ≡ a.fed

pair_fits : (k : ℕ) → k ≤ 3 → k + 2 ≤ 5
pair_fits k h = omega arith

one_loaded : (p : Runnable) (size pairs top i : ℕ) (pl : Place) (a : Sight) → Frame size pairs top a → i + 1 < pairs → PlaceFits pairs pl → OneLoaded p size a pairs top i pl
one_loaded p size pairs top i (Pair k) a f h fits =
    let c : ℕ = top + (pairs - (i + 1)) in
    record {
      now = put a (Value (k + 2)) (a.cell c);
      does = does_load p size (Value (k + 2)) Stack (16 * (pairs - (i + 1))) c a (pair_fits k fits) (parameter_leads size pairs top i a f h);
      there = λ q e. subst (λ (x : ℕ). (put a (Value (k + 2)) (a.cell c)).file (Value (x + 2)) ≡ a.cell c) (pair_same k q e) (put_there a (Value (k + 2)) (a.cell c));
      file = λ r l e. put_beside a r (Value (k + 2)) (a.cell c) e;
      stack = refl;
      cell = λ q. refl;
      feed = refl;
      fed = refl;
    }
one_loaded p size pairs top i (Slot s) a f h fits = record {
  now = a;
  does = does_nothing p size a;
  there = λ q e. absurd (slot_pair s q e);
  file = λ r l e. refl;
  stack = refl;
  cell = λ q. refl;
  feed = refl;
  fed = refl;
}

other_role : (j k : ℕ) → j ≢ k → (j + 2 == k + 2) ≡ false
other_role j k h = ne_false (j + 2) (k + 2) (λ e. h (less j k e))
  where
    less : (j k : ℕ) → j + 2 ≡ k + 2 → j ≡ k
    less j k e = omega arith

not_role : (pl : Place) (k : ℕ) → ((q : ℕ) → pl ≡ Pair q → q ≢ k) → NotRole pl (Value (k + 2))
not_role (Pair q) k h = other_role k q (λ e. h q refl (sym e))
not_role (Slot s) k h = tt

pub parameters : (p : Runnable) (size pairs top : ℕ) (places : Places) (i n : ℕ) (a : Sight) → Frame size pairs top a → ((j : ℕ) → i ≤ j → j < i + n → (j + 1 < pairs) × PlaceFits pairs (place_of places j)) →
    ((j q k : ℕ) → i ≤ j → j < i + n → i ≤ q → q < i + n → place_of places j ≡ Pair k → place_of places q ≡ Pair k → j ≡ q) →
    (a' : Sight) × Does p size (parameter_code places pairs i n) a a' × Loaded a a' places pairs top i n
parameters p size pairs top places i zero a f g apart = (
  a,
  does_nothing p size a,
  record {
    there = λ j k l m e. absurd (empty i j l m);
    file = λ r l h. refl;
    stack = refl;
    cell = λ c. refl;
    feed = refl;
    fed = refl;
  },
)
  where
    empty : (i j : ℕ) → i ≤ j → j < i + zero → ⊥
    empty i j l m = omega arith
parameters p size pairs top places i (suc n) a f g apart =
    let here : (i + 1 < pairs) × PlaceFits pairs (place_of places i) = g i (le_refl i) (first_in i n) in
    let one : OneLoaded p size a pairs top i (place_of places i) = one_loaded p size pairs top i (place_of places i) a f here.0 here.1 in
    let f1 : Frame size pairs top one.now = record { stack = one.stack ∙ f.stack; room = f.room; small = f.small; pairs_fit = f.pairs_fit } in
    let rest : (a' : Sight) × Does p size (parameter_code places pairs (i + 1) n) one.now a' × Loaded one.now a' places pairs top (i + 1) n = parameters p size pairs top places (i + 1) n one.now f1
    (λ j l m. let x : (j + 1 < pairs) × PlaceFits pairs (place_of places j) = g j (down i j l) (wider i n j m) in (x.0, x.1))
    (λ j q k l m l' m' e e'. apart j q k (down i j l) (wider i n j m) (down i q l') (wider i n q m') e e') in
    let z : Loaded one.now rest.0 places pairs top (i + 1) n = rest.2 in (
      rest.0,
      does_then p size (parameter_load (place_of places i) pairs i) (parameter_code places pairs (i + 1) n) a one.now rest.0 one.does rest.1,
      record {
        there = λ j k l m e. elim (j == i) as (λ t. (j == i) ≡ t → rest.0.file (Value (k + 2)) ≡ a.cell (top + (pairs - (j + 1)))) [
          | true ↦ λ t. let s : j ≡ i = eq_is j i t in
              z.file (Value (k + 2)) (kept_two k) (λ q u v. not_role (place_of places q) k (λ x y w. differ i q u (sym s ∙ apart j q k l m (down i q u) (wider i n q v) e (y ∙ ap (λ (n : ℕ). Pair n) w)))) ∙
              (one.there k (subst (λ (q : ℕ). place_of places q ≡ Pair k) s e) ∙ ap (λ (q : ℕ). a.cell (top + (pairs - (q + 1)))) (sym s))
          | false ↦ λ t. z.there j k (above i j l (eq_not j i t)) (inner i n j m) e ∙ one.cell (top + (pairs - (j + 1)))
        ] refl;
        file = λ r l h. z.file r l (λ j u v. h j (down i j u) (wider i n j v)) ∙ one.file r l (h i (le_refl i) (first_in i n));
        stack = z.stack ∙ one.stack;
        cell = λ c. z.cell c ∙ one.cell c;
        feed = z.feed ∙ one.feed;
        fed = z.fed ∙ one.fed;
      },
    )
  where
    first_in : (i n : ℕ) → i < i + suc n
    first_in i n = omega arith

    down : (i j : ℕ) → i + 1 ≤ j → i ≤ j
    down i j l = omega arith

    wider : (i n j : ℕ) → j < i + 1 + n → j < i + suc n
    wider i n j m = omega arith

    inner : (i n j : ℕ) → j < i + suc n → j < i + 1 + n
    inner i n j m = omega arith

    above : (i j : ℕ) → i ≤ j → j ≢ i → i + 1 ≤ j
    above i j l h = grind arith

    differ : (i q : ℕ) → i + 1 ≤ q → i ≡ q → ⊥
    differ i q u e = omega arith

    eq_is : (m n : ℕ) → (m == n) ≡ true → m ≡ n
    eq_is m n h = grind arith

    eq_not : (m n : ℕ) → (m == n) ≡ false → m ≢ n
    eq_not m n h = grind arith

-- ---- a call begins

pub record Entered (a a' : Sight) (places : Places) (pairs params top n : ℕ) : Type 0 where
  pub stack : a'.file Stack ≡ 0x10010000 + 16 * top
  pub link_cell : a'.cell top ≡ n
  pub there : (j k : ℕ) → j < params → place_of places j ≡ Pair k → a'.file (Value (k + 2)) ≡ a.cell (top + (pairs - (j + 1)))
  pub cell : (c : ℕ) → c ≢ top → a'.cell c ≡ a.cell c
  pub feed : a'.feed ≡ a.feed
  pub fed : a'.fed ≡ a.fed

inside_top : (t pairs size : ℕ) → t ≤ size → 1 ≤ pairs → pairs ≤ t → t - pairs < size
inside_top t pairs size h k l = omega arith

whole_frame : (t pairs size : ℕ) → t ≤ size → pairs ≤ t → t - pairs + pairs ≤ size
whole_frame t pairs size h k = omega arith

param_not_top : (top pairs j : ℕ) → j + 1 < pairs → top + (pairs - (j + 1)) ≢ top
param_not_top top pairs j h = λ e. omega arith

pub enters : (p : Runnable) (size t pairs params n : ℕ) (places : Places) (a : Sight) → StackAt size t a → 1 ≤ pairs → pairs ≤ 2002 → pairs ≤ t → a.file Link ≡ n →
    ((j : ℕ) → j < params → (j + 1 < pairs) × PlaceFits pairs (place_of places j)) →
    ((j q k : ℕ) → j < params → q < params → place_of places j ≡ Pair k → place_of places q ≡ Pair k → j ≡ q) →
    (a' : Sight) × Does p size (enter_code places pairs params) a a' × Entered a a' places pairs params (t - pairs) n
enters p size t pairs params n places a s h1 h2 h3 e g apart =
    let top : ℕ = t - pairs in
    let a1 : Sight = put a Stack (0x10010000 + 16 * top) in
    let below : top < size = inside_top t pairs size s.room h1 h3 in
    let a2 : Sight = set_cell a1 top (a1.file Link) in
    let f2 : Frame size pairs top a2 = record { stack = refl; room = whole_frame t pairs size s.room h3; small = s.small; pairs_fit = h2 } in
    let ps : (a' : Sight) × Does p size (parameter_code places pairs 0 params) a2 a' × Loaded a2 a' places pairs top 0 params = parameters p size pairs top places 0 params a2 f2
    (λ j x y. let q : (j + 1 < pairs) × PlaceFits pairs (place_of places j) = g j (from_zero j params y) in
    (q.0, q.1))
    (λ j q k x y x' y' u v. apart j q k (from_zero j params y) (from_zero q params y') u v) in
    let z : Loaded a2 ps.0 places pairs top 0 params = ps.2 in (
      ps.0,
      does_then p size (each (λ t. mips.Addiu (reg_in t Stack) (reg_in t Stack) (2 ^ 16 - 16 * pairs))) (store Link Stack 0 ++ parameter_code places pairs 0 params) a a1 ps.0 (does_down p size t pairs a s h1 h2 h3)
          (does_then p size (store Link Stack 0) (parameter_code places pairs 0 params) a1 a2 ps.0 (does_store p size Link Stack 0 top a1 tt (link_leads size top a1 refl below s.small)) ps.1),
      record {
        stack = z.stack;
        link_cell = z.cell top ∙ (ap (λ (x : Bool). cond x (a1.file Link) (a1.cell top)) (eq_self top) ∙ e);
        there = λ j k x y. z.there j k Rattle.std.proofs.Common.zero-le (up_zero j params x) y ∙ ap (λ (x : Bool). cond x (a1.file Link) (a1.cell (top + (pairs - (j + 1))))) (ne_false (top + (pairs - (j + 1))) top (param_not_top top pairs j (g j x).0));
        cell = λ c x. z.cell c ∙ ap (λ (y : Bool). cond y (a1.file Link) (a1.cell c)) (ne_false c top x);
        feed = z.feed;
        fed = z.fed;
      },
    )
  where
    from_zero : (j n : ℕ) → j < 0 + n → j < n
    from_zero j n h = omega arith

    up_zero : (j n : ℕ) → j < n → j < 0 + n
    up_zero j n h = omega arith

-- ---- a call ends

pub record Returned (a a' : Sight) (top pairs w n : ℕ) : Type 0 where
  pub word : a'.file (Value 0) ≡ w
  pub stack : a'.file Stack ≡ 0x10010000 + 16 * (top + pairs)
  pub target : a'.file Link ≡ n
  pub cell : (c : ℕ) → a'.cell c ≡ a.cell c
  pub feed : a'.feed ≡ a.feed
  pub fed : a'.fed ≡ a.fed

frame_top : (top pairs size : ℕ) → top + pairs ≤ size → 1 ≤ pairs → top < size
frame_top top pairs size h k = omega arith

-- the code of a return up to its jr
abbrev pub leaving : List Instr → ℕ → List Instr
leaving first pairs = first ++ (load Link Stack 0 ++ each (λ t. mips.Addiu (reg_in t Stack) (reg_in t Stack) (16 * pairs)))

pub leaves : (p : Runnable) (size pairs top w n : ℕ) (first : List Instr) (a : Sight) → Frame size pairs top a → 1 ≤ pairs → Does p size first a (put a (Value 0) w) → a.cell top ≡ n → (a' : Sight) × Does p size (leaving first pairs) a a' × Returned a a' top pairs w n
leaves p size pairs top w n first a f h d e =
    let a1 : Sight = put a (Value 0) w in
    let a2 : Sight = put a1 Link (a.cell top) in
    let a3 : Sight = put a2 Stack (0x10010000 + 16 * (top + pairs)) in
    let up : List Instr = each (λ t. mips.Addiu (reg_in t Stack) (reg_in t Stack) (16 * pairs)) in (
      a3,
      does_then p size first (load Link Stack 0 ++ up) a a1 a3 d
          (does_then p size (load Link Stack 0) up a1 a2 a3 (does_load p size Link Stack 0 top a1 tt (link_leads size top a1 f.stack (frame_top top pairs size f.room h) f.small))
          (does_up p size top pairs a2 f.stack f.room f.small f.pairs_fit)),
      record { word = refl; stack = refl; target = e; cell = λ c. refl; feed = refl; fed = refl },
    )

-- what is returned comes to the first value
pub returns_word : (p : Runnable) (size pairs top w : ℕ) (places : Places) (v : ℕ) (a : Sight) → Frame size pairs top a → StandsIn pairs a top (place_of places v) w → Does p size (returned_code places (Some v)) a (put a (Value 0) w)
returns_word p size pairs top w places v a f st = subst (λ (z : ℕ). Does p size (brought (place_of places v) (Value 0)) a (put a (Value 0) z)) st.word
    (with_words p size (brought (place_of places v) (Value 0)) a (put a (Value 0) (in_place a top (place_of places v))) (λ ws. does_brought p size pairs top (place_of places v) (Value 0) a (Rattle.std.proofs.Common.zero-le) f st.fits ws))

pub returns_zero : (p : Runnable) (size : ℕ) (places : Places) (a : Sight) → Does p size (returned_code places None) a (put a (Value 0) 0)
returns_zero p size places a = does_zero p size (λ x y. mips.Addu x y 0) (λ x. (x + 0) % 2 ^ 32) (Value 0) a two_copy (Rattle.std.proofs.Common.zero-le) (omega arith)

-- ---- what a call returned comes to its place

pub record ResultSet (p : Runnable) (size : ℕ) (a : Sight) (top : ℕ) (pl : Place) (w : ℕ) : Type 0 where
  pub now : Sight
  pub does : Does p size (result_to pl) a now
  pub sets : SetsPlace a now top pl w

pub result_set : (p : Runnable) (size pairs top w : ℕ) (pl : Place) (a : Sight) → Frame size pairs top a → PlaceFits pairs pl → a.file (Value 0) ≡ w → ResultSet p size a top pl w
result_set p size pairs top w (Pair k) a f fits e = record {
  now = put a (Value (k + 2)) w;
  does = subst (λ (z : ℕ). Does p size (move (Value (k + 2)) (Value 0)) a (put a (Value (k + 2)) z)) e
      (with_words p size (move (Value (k + 2)) (Value 0)) a (put a (Value (k + 2)) (a.file (Value 0))) (λ ws. does_move p size (Value (k + 2)) (Value 0) a ((pair_fits k fits)) (Rattle.std.proofs.Common.zero-le) (ws.file (Value 0))));
  sets = keep_sets a a top w (Pair k) (near_self a);
}
result_set p size pairs top w (Slot s) a f fits e = record {
  now = set_cell a (top + (s + 1)) (a.file (Value 0));
  does = does_store p size (Value 0) Stack (slot_offset s) (top + (s + 1)) a Rattle.std.proofs.Common.zero-le (slot_leads size pairs top s a f fits);
  sets = slot_sets a a top s (a.file (Value 0)) w e (near_self a);
}
