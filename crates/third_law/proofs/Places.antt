-- Variables in their places: a register of all streams, or a cell of the frame.
use Rattle.std.proofs.Common.{◌≡◌, ◌≢◌, ◌≤◌, ◌<◌, ℕ, zero, suc, ◌+◌, ◌-◌, ◌*◌, ◌/◌, ◌%◌, ◌^◌, arith, ap, refl, sym, ◌∙◌, subst, List, [], ◌∷◌, ◌++◌, append_assoc, length, get_or, Bool, true, false, cond, not, inl, inr, le_refl}
use Rattle.std.specs.Prelude.{Option, Some, None, ◌==◌}
use Rattle.hard_words.specs.Words.{extended}
use Rattle.mips_isa.specs.Machine.{plus}
use Rattle.mid_blocks.specs.declared.places.Place.{Place}
use Rattle.mid_blocks.specs.declared.places.Place.TheVariants.{Pair, Slot}
use Rattle.mid_blocks.specs.declared.places.Places.{Places}
use Rattle.mid_blocks.specs.Run.{Variables, with_word}
use Rattle.third_law.specs.declared.roles.Stream.{Stream}
use Rattle.third_law.specs.declared.roles.Stream.TheVariants.{First, Second, Third}
use Rattle.third_law.specs.declared.roles.Role.{Role}
use Rattle.third_law.specs.declared.roles.Role.TheVariants.{Value, Stack, Link}
use Rattle.third_law.specs.Roles.{off_in}
use Rattle.third_law.specs.Emitted.{place_of, slot_offset, source, fetched, brought, target, kept}
use Rattle.third_law.specs.Roles.{RoleFits}
use Rattle.third_law.proofs.Sights.{Sight, AreWords, lane, put, same_role}
use Rattle.third_law.proofs.Loading.{LeadsTo, lane_fits}
use Rattle.third_law.proofs.Storing.{set_cell}
use Rattle.third_law.proofs.Leading.{Runnable, Does, does_nothing, does_load, does_store}
use Rattle.third_law.proofs.Arithmetic.{extended_low}
use Rattle.third_law.proofs.Operations.{put_there, put_beside, does_move}

-- ---- frames

-- The frame of the current call: where the stack pointer stands, and that the frame is in memory.
pub record Frame (size pairs top : ℕ) (a : Sight) : Type 0 where
  pub stack : a.file Stack ≡ 0x10010000 + 16 * top
  pub room : top + pairs ≤ size
  pub small : size ≤ 32768
  pub pairs_fit : pairs ≤ 2002

lane_offset : (top s h size pairs x : ℕ) → h ≤ 2 → x ≡ 0x10010000 + 16 * top → top + pairs ≤ size → size ≤ 32768 → s + 1 < pairs → (x + (16 * (s + 1) + 4 * h)) % 2 ^ 32 ≡ 0x10010000 + (16 * (top + (s + 1)) + 4 * h)
lane_offset top s h size pairs x g e r k l = omega arith

offset_low : (s h pairs : ℕ) → h ≤ 2 → s + 1 < pairs → pairs ≤ 2002 → 16 * (s + 1) + 4 * h < 2 ^ 15
offset_low s h pairs g l k = omega arith

-- an offset below 2^15 - 8 goes up by four bytes a stream
pub offset_in : (t : Stream) (n : ℕ) → n < 2 ^ 15 → off_in t n ≡ n + 4 * lane t
offset_in First n h = sym (Rattle.std.proofs.Common.add-zero n)
offset_in Second n h = four n h
  where
    four : (n : ℕ) → n < 2 ^ 15 → (n + 4) % 2 ^ 16 ≡ n + 4 * 1
    four n h = omega arith
offset_in Third n h = eight n h
  where
    eight : (n : ℕ) → n < 2 ^ 15 → (n + 8) % 2 ^ 16 ≡ n + 4 * 2
    eight n h = omega arith

slot_below : (top s size pairs : ℕ) → top + pairs ≤ size → s + 1 < pairs → top + (s + 1) < size
slot_below top s size pairs r h = omega arith

offset_small : (s pairs : ℕ) → s + 1 < pairs → pairs ≤ 2002 → 16 * (s + 1) < 2 ^ 15
offset_small s pairs l k = omega arith

pub slot_leads : (size pairs top s : ℕ) (a : Sight) → Frame size pairs top a → s + 1 < pairs → LeadsTo size a Stack (slot_offset s) (top + (s + 1))
slot_leads size pairs top s a f h = record {
  fits = tt;
  below = slot_below top s size pairs f.room h;
  at = λ t. ap (λ (z : ℕ). plus (a.file Stack) (extended z)) (offset_in t (slot_offset s) (offset_small s pairs h f.pairs_fit)) ∙
      (ap (λ (z : ℕ). plus (a.file Stack) z) (extended_low (16 * (s + 1) + 4 * lane t) (offset_low s (lane t) pairs (lane_fits t) h f.pairs_fit)) ∙
      lane_offset top s (lane t) size pairs (a.file Stack) (lane_fits t) f.stack f.room f.small h);
}

-- ---- places

abbrev pub PlaceFits : ℕ → Place → Type 0
PlaceFits pairs (Pair k) = k ≤ 3
PlaceFits pairs (Slot s) = s + 1 < pairs

-- What stands in a place, in the frame at this cell.
abbrev pub in_place : Sight → ℕ → Place → ℕ
in_place a top (Pair k) = a.file (Value (k + 2))
in_place a top (Slot s) = a.cell (top + (s + 1))

-- A role that scratch work leaves alone.
abbrev pub IsKept : Role → Type 0
IsKept (Value k) = 2 ≤ k
IsKept Stack = Unit {0}
IsKept Link = Unit {0}

-- Sight that differ in scratch registers alone.
pub record Near (a a' : Sight) : Type 0 where
  pub file : (r : Role) → IsKept r → a'.file r ≡ a.file r
  pub cell : (c : ℕ) → a'.cell c ≡ a.cell c
  pub feed : a'.feed ≡ a.feed
  pub fed : a'.fed ≡ a.fed

pub near_self : (a : Sight) → Near a a
near_self a = record { file = λ r k. refl; cell = λ c. refl; feed = refl; fed = refl }

pub near_then : (a a' a'' : Sight) → Near a a' → Near a' a'' → Near a a''
near_then a a' a'' n m = record {
  file = λ r k. m.file r k ∙ n.file r k;
  cell = λ c. m.cell c ∙ n.cell c;
  feed = m.feed ∙ n.feed;
  fed = m.fed ∙ n.fed;
}

apart_from : (j k : ℕ) → j ≤ 1 → 2 ≤ k → (k == j) ≡ false
apart_from j k h l = grind arith

-- a scratch register gets a word
pub near_put : (a : Sight) (j v : ℕ) → j ≤ 1 → Near a (put a (Value j) v)
near_put a j v h = record {
  file = elim [
    | Value k ↦ λ l. ap (λ (z : Bool). cond z v (a.file (Value k))) (apart_from j k h l)
    | Stack ↦ λ l. refl
    | Link ↦ λ l. refl
  ];
  cell = λ c. refl;
  feed = refl;
  fed = refl;
}

pub near_frame : (size pairs top : ℕ) (a a' : Sight) → Near a a' → Frame size pairs top a → Frame size pairs top a'
near_frame size pairs top a a' n f = record { stack = n.file Stack tt ∙ f.stack; room = f.room; small = f.small; pairs_fit = f.pairs_fit }

two_up : (k : ℕ) → 2 ≤ k + 2
two_up k = omega arith

pub near_place : (a a' : Sight) (top : ℕ) (pl : Place) → Near a a' → in_place a' top pl ≡ in_place a top pl
near_place a a' top (Pair k) n = n.file (Value (k + 2)) (two_up k)
near_place a a' top (Slot s) n = n.cell (top + (s + 1))

-- ---- a variable comes to a register

abbrev pub fetch : Sight → ℕ → Place → ℕ → Sight
fetch a top (Pair k) scratch = a
fetch a top (Slot s) scratch = put a (Value scratch) (a.cell (top + (s + 1)))

up_to_five : (k : ℕ) → k ≤ 1 → k ≤ 5
up_to_five k h = omega arith

pair_fits : (k : ℕ) → k ≤ 3 → k + 2 ≤ 5
pair_fits k h = omega arith

pub does_fetched : (p : Runnable) (size pairs top scratch : ℕ) (pl : Place) (a : Sight) → scratch ≤ 1 → Frame size pairs top a → PlaceFits pairs pl → Does p size (fetched pl scratch) a (fetch a top pl scratch)
does_fetched p size pairs top scratch (Pair k) a h f fits = does_nothing p size a
does_fetched p size pairs top scratch (Slot s) a h f fits = does_load p size (Value scratch) Stack (slot_offset s) (top + (s + 1)) a (up_to_five scratch h) (slot_leads size pairs top s a f fits)

pub fetch_near : (a : Sight) (top : ℕ) (pl : Place) (scratch : ℕ) → scratch ≤ 1 → Near a (fetch a top pl scratch)
fetch_near a top (Pair k) scratch h = near_self a
fetch_near a top (Slot s) scratch h = near_put a scratch (a.cell (top + (s + 1))) h

-- the register in which it stands then
pub fetch_word : (a : Sight) (top : ℕ) (pl : Place) (scratch : ℕ) → (fetch a top pl scratch).file (source pl scratch) ≡ in_place a top pl
fetch_word a top (Pair k) scratch = refl
fetch_word a top (Slot s) scratch = put_there a (Value scratch) (a.cell (top + (s + 1)))

pub source_fits : (pairs : ℕ) (pl : Place) (scratch : ℕ) → scratch ≤ 1 → PlaceFits pairs pl → RoleFits (source pl scratch)
source_fits pairs (Pair k) scratch h fits = pair_fits k fits
source_fits pairs (Slot s) scratch h fits = up_to_five scratch h

other_pair : (k : ℕ) → (k + 2 == 1) ≡ false
other_pair k = grind arith

-- the first of two stays where it is
pub fetch_both : (a : Sight) (top : ℕ) (left right : Place) → (fetch (fetch a top left 0) top right 1).file (source left 0) ≡ in_place a top left
fetch_both a top left (Pair j) = fetch_word a top left 0
fetch_both a top (Pair k) (Slot s) = ap (λ (z : Bool). cond z (a.cell (top + (s + 1))) (a.file (Value (k + 2)))) (other_pair k)
fetch_both a top (Slot t) (Slot s) = fetch_word a top (Slot t) 0

pub fetch_second : (a : Sight) (top : ℕ) (left right : Place) → (fetch (fetch a top left 0) top right 1).file (source right 1) ≡ in_place a top right
fetch_second a top left right = fetch_word (fetch a top left 0) top right 1 ∙ near_place a (fetch a top left 0) top right (fetch_near a top left 0 (Rattle.std.proofs.Common.zero-le))

-- a variable comes to a given register
pub does_brought : (p : Runnable) (size pairs top : ℕ) (pl : Place) (to : Role) (a : Sight) → RoleFits to → Frame size pairs top a → PlaceFits pairs pl → AreWords a → Does p size (brought pl to) a (put a to (in_place a top pl))
does_brought p size pairs top (Pair k) to a free f fits w = does_move p size to (Value (k + 2)) a free (pair_fits k fits) (w.file (Value (k + 2)))
does_brought p size pairs top (Slot s) to a free f fits w = does_load p size to Stack (slot_offset s) (top + (s + 1)) a free (slot_leads size pairs top s a f fits)

-- ---- a variable is set

-- The place is in no register of this role, and in no cell of this number.
abbrev pub NotRole : Place → Role → Type 0
NotRole (Pair k) r = same_role r (Value (k + 2)) ≡ false
NotRole (Slot s) r = Unit {0}

abbrev pub NotCell : ℕ → Place → ℕ → Type 0
NotCell top (Pair k) c = Unit {0}
NotCell top (Slot s) c = c ≢ top + (s + 1)

-- A place has got a word; beside scratch registers nothing else is changed.
pub record SetsPlace (a a' : Sight) (top : ℕ) (pl : Place) (v : ℕ) : Type 0 where
  pub there : in_place a' top pl ≡ v
  pub file : (r : Role) → IsKept r → NotRole pl r → a'.file r ≡ a.file r
  pub cell : (c : ℕ) → NotCell top pl c → a'.cell c ≡ a.cell c
  pub feed : a'.feed ≡ a.feed
  pub fed : a'.fed ≡ a.fed

-- the pairs when a word is made in the target and kept
abbrev pub keep : Sight → ℕ → Place → ℕ → Sight
keep a top (Pair k) v = put a (Value (k + 2)) v
keep a top (Slot s) v = set_cell (put a (Value 0) v) (top + (s + 1)) v

pub target_free : (pairs : ℕ) (pl : Place) → PlaceFits pairs pl → RoleFits (target pl)
target_free pairs (Pair k) fits = (pair_fits k fits)
target_free pairs (Slot s) fits = Rattle.std.proofs.Common.zero-le

put_frame : (size pairs top v : ℕ) (a : Sight) → Frame size pairs top a → Frame size pairs top (put a (Value 0) v)
put_frame size pairs top v a f = record { stack = f.stack; room = f.room; small = f.small; pairs_fit = f.pairs_fit }

-- what was made in the target comes to the place
pub does_kept : (p : Runnable) (size pairs top v : ℕ) (pl : Place) (a : Sight) → Frame size pairs top a → PlaceFits pairs pl → Does p size (kept pl) (put a (target pl) v) (keep a top pl v)
does_kept p size pairs top v (Pair k) a f fits = does_nothing p size (put a (Value (k + 2)) v)
does_kept p size pairs top v (Slot s) a f fits = does_store p size (Value 0) Stack (slot_offset s) (top + (s + 1)) (put a (Value 0) v) (Rattle.std.proofs.Common.zero-le) (slot_leads size pairs top s (put a (Value 0) v) (put_frame size pairs top v a f) fits)

eq_self : (n : ℕ) → (n == n) ≡ true
eq_self n = grind arith

ne_false : (m n : ℕ) → m ≢ n → (m == n) ≡ false
ne_false m n h = grind arith

zero_apart : (k : ℕ) → 2 ≤ k → (k == 0) ≡ false
zero_apart k h = grind arith

pub keep_sets : (a b : Sight) (top v : ℕ) (pl : Place) → Near a b → SetsPlace a (keep b top pl v) top pl v
keep_sets a b top v (Pair k) n = record {
  there = put_there b (Value (k + 2)) v;
  file = λ r l h. put_beside b r (Value (k + 2)) v h ∙ n.file r l;
  cell = λ c h. n.cell c;
  feed = n.feed;
  fed = n.fed;
}
keep_sets a b top v (Slot s) n = record {
  there = ap (λ (z : Bool). cond z v (b.cell (top + (s + 1)))) (eq_self (top + (s + 1)));
  file = elim [
    | Value k ↦ λ l h. ap (λ (z : Bool). cond z v (b.file (Value k))) (zero_apart k l) ∙ n.file (Value k) l
    | Stack ↦ λ l h. n.file Stack tt
    | Link ↦ λ l h. n.file Link tt
  ];
  cell = λ c h. ap (λ (z : Bool). cond z v (b.cell c)) (ne_false c (top + (s + 1)) h) ∙ n.cell c;
  feed = n.feed;
  fed = n.fed;
}

-- ---- variables

-- The variables that may still be read hold their words in their places.
pub record Holds (places : Places) (wanted : ℕ → Type 0) (vars : Variables) (top : ℕ) (a : Sight) : Type 0 where
  pub word : (v w : ℕ) → wanted v → vars v ≡ Some w → in_place a top (place_of places v) ≡ w

pub near_holds : (places : Places) (wanted wanted' : ℕ → Type 0) (vars : Variables) (top : ℕ) (a a' : Sight) → ((v : ℕ) → wanted' v → wanted v) → Near a a' → Holds places wanted vars top a → Holds places wanted' vars top a'
near_holds places wanted wanted' vars top a a' f n h = record {
  word = λ v w l e. near_place a a' top (place_of places v) n ∙ h.word v w (f v l) e;
}

pair_role : (j k : ℕ) → Pair j ≢ Pair k → (j + 2 == k + 2) ≡ false
pair_role j k h = ne_false (j + 2) (k + 2) (λ e. h (ap (λ (x : ℕ). Pair x) (two_less j k e)))
  where
    two_less : (j k : ℕ) → j + 2 ≡ k + 2 → j ≡ k
    two_less j k e = omega arith

slot_cell : (top s t : ℕ) → Slot s ≢ Slot t → top + (s + 1) ≢ top + (t + 1)
slot_cell top s t h = λ e. h (ap (λ (x : ℕ). Slot x) (same top s t e))
  where
    same : (top s t : ℕ) → top + (s + 1) ≡ top + (t + 1) → s ≡ t
    same top s t e = omega arith

-- another place keeps its word
pub other_place : (a a' : Sight) (top v : ℕ) (pl q : Place) → q ≢ pl → SetsPlace a a' top pl v → in_place a' top q ≡ in_place a top q
other_place a a' top v (Pair k) (Pair j) h s = s.file (Value (j + 2)) (two_up j) (pair_role j k h)
other_place a a' top v (Pair k) (Slot t) h s = s.cell (top + (t + 1)) tt
other_place a a' top v (Slot e) (Pair j) h s = s.file (Value (j + 2)) (two_up j) tt
other_place a a' top v (Slot e) (Slot t) h s = s.cell (top + (t + 1)) (slot_cell top t e h)

eq_is : (m n : ℕ) → (m == n) ≡ true → m ≡ n
eq_is m n h = grind arith

eq_not : (m n : ℕ) → (m == n) ≡ false → m ≢ n
eq_not m n h = grind arith

some_same : (x y : ℕ) → ◌≡◌ {A = Option ℕ} (Some x) (Some y) → x ≡ y
some_same x y e = ap (λ (o : Option ℕ). elim o as (λ z. ℕ) [ Some v ↦ v | None ↦ 0 ]) e

pub sets_holds : (places : Places) (wanted wanted' : ℕ → Type 0) (vars : Variables) (top x v : ℕ) (a a' : Sight) → ((y : ℕ) → wanted' y → y ≢ x → wanted y × (place_of places y ≢ place_of places x)) → SetsPlace a a' top (place_of places x) v → Holds places wanted vars top a → Holds places wanted' (with_word vars x v) top a'
sets_holds places wanted wanted' vars top x v a a' f s h = record {
  word = λ y w l. elim (y == x) as (λ z. (y == x) ≡ z → cond z (Some v) (vars y) ≡ Some w → in_place a' top (place_of places y) ≡ w) [
    | true ↦ λ e g. subst (λ (n : ℕ). in_place a' top (place_of places n) ≡ w) (sym (eq_is y x e)) (s.there ∙ some_same v w g)
    | false ↦ λ e g. other_place a a' top v (place_of places x) (place_of places y) (f y l (eq_not y x e)).1 s ∙ h.word y w (f y l (eq_not y x e)).0 g
  ] refl;
}
