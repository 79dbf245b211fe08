-- Variables in their places: a register of both streams, or a cell of the frame.
use Rattle.std.proofs.Common.{◌≡◌, ◌≢◌, ◌≤◌, ◌<◌, ℕ, zero, suc, ◌+◌, ◌-◌, ◌*◌, ◌/◌, ◌%◌, ◌^◌, arith, ap, refl, sym, ◌∙◌, subst, List, [], ◌∷◌, ◌++◌, append_assoc, length, get_or, Bool, true, false, cond, not, inl, inr, le_refl}
use Rattle.std.specs.Prelude.{Option, Some, None, ◌==◌}
use Rattle.hard_words.specs.Words.{extended}
use Rattle.mips_isa.specs.Machine.{plus}
use Rattle.mid_blocks.specs.declared.places.Place.{Place}
use Rattle.mid_blocks.specs.declared.places.Place.TheVariants.{Pair, Slot}
use Rattle.mid_blocks.specs.declared.places.Places.{Places}
use Rattle.mid_blocks.specs.Run.{Variables, with_word}
use Rattle.hard_items.specs.declared.code.HardProgram.{HardProgram}
use Rattle.double_law.specs.declared.roles.Stream.TheVariants.{First, Second}
use Rattle.double_law.specs.declared.roles.Role.{Role}
use Rattle.double_law.specs.declared.roles.Role.TheVariants.{Value, Stack, Link}
use Rattle.double_law.specs.Roles.{load}
use Rattle.double_law.specs.Emitted.{place_of, slot_offset, source, fetched, brought, target, kept}
use Rattle.double_law.specs.Roles.{RoleFits}
use Rattle.double_law.proofs.Doubled.{BackFits, back_of, Pairs, AreWords, put, same_role}
use Rattle.double_law.proofs.Leading.{Does, does_nothing}
use Rattle.double_law.proofs.Memory.{Leads_to, does_load, does_store, set_cell}
use Rattle.double_law.proofs.Operations.{Plain, Free, put_there, put_beside, extended_low, does_move}

-- ---- frames

-- The frame of the current call: where the stack pointer stands, and that the frame is in memory.
pub record Frame (size pairs top : ℕ) (a : Pairs) : Type 0 where
  pub stack : a.file Stack ≡ 0x10010000 + 8 * top
  pub room : top + pairs ≤ size
  pub small : size ≤ 32768
  pub pairs_fit : pairs ≤ 4002

slot_first : (x top s size pairs : ℕ) → x ≡ 0x10010000 + 8 * top → top + pairs ≤ size → size ≤ 32768 → s + 1 < pairs → (x + 8 * (s + 1)) % 2 ^ 32 ≡ 0x10010000 + (8 * (top + (s + 1)) + 4 * 0)
slot_first x top s size pairs e r k l = omega arith

slot_second : (x top s size pairs : ℕ) → x ≡ 0x10010000 + 8 * top → top + pairs ≤ size → size ≤ 32768 → s + 1 < pairs → (x + (8 * (s + 1) + 4)) % 2 ^ 32 ≡ 0x10010000 + (8 * (top + (s + 1)) + 4 * 1)
slot_second x top s size pairs e r k l = omega arith

offset_low : (s pairs : ℕ) → s + 1 < pairs → pairs ≤ 4002 → 8 * (s + 1) < 2 ^ 15
offset_low s pairs h k = omega arith

offset_second : (s pairs : ℕ) → s + 1 < pairs → pairs ≤ 4002 → (8 * (s + 1) + 4) % 2 ^ 16 ≡ 8 * (s + 1) + 4
offset_second s pairs h k = omega arith

offset_second_low : (s pairs : ℕ) → s + 1 < pairs → pairs ≤ 4002 → 8 * (s + 1) + 4 < 2 ^ 15
offset_second_low s pairs h k = omega arith

slot_below : (top s size pairs : ℕ) → top + pairs ≤ size → s + 1 < pairs → top + (s + 1) < size
slot_below top s size pairs r h = omega arith

pub slot_leads : (size pairs top s : ℕ) (a : Pairs) → Frame size pairs top a → s + 1 < pairs → Leads_to size a Stack (slot_offset s) (top + (s + 1))
slot_leads size pairs top s a f h = record {
  fits = tt;
  no_number = refl;
  below = slot_below top s size pairs f.room h;
  address = elim [
    | First ↦ ap (λ (z : ℕ). plus (a.file Stack) z) (extended_low (8 * (s + 1)) (offset_low s pairs h f.pairs_fit)) ∙ slot_first (a.file Stack) top s size pairs f.stack f.room f.small h
    | Second ↦ ap (λ (z : ℕ). plus (a.file Stack) (extended z)) (offset_second s pairs h f.pairs_fit) ∙ (ap (λ (z : ℕ). plus (a.file Stack) z) (extended_low (8 * (s + 1) + 4) (offset_second_low s pairs h f.pairs_fit)) ∙ slot_second (a.file Stack) top s size pairs f.stack f.room f.small h)
  ];
}

-- ---- places

abbrev pub PlaceFits : ℕ → Place → Type 0
PlaceFits pairs (Pair k) = k ≤ 7
PlaceFits pairs (Slot s) = s + 1 < pairs

-- What stands in a place, in the frame at this cell.
abbrev pub in_place : Pairs → ℕ → Place → ℕ
in_place a top (Pair k) = a.file (Value (k + 2))
in_place a top (Slot s) = a.cell (top + (s + 1))

-- It is no return number.
abbrev pub Unnumbered : Pairs → ℕ → Place → Type 0
Unnumbered a top (Pair k) = Unit {0}
Unnumbered a top (Slot s) = a.number (top + (s + 1)) ≡ false

-- A role that scratch work leaves alone.
abbrev pub IsKept : Role → Type 0
IsKept (Value k) = 2 ≤ k
IsKept Stack = Unit {0}
IsKept Link = Unit {0}

-- Pairs that differ in scratch registers alone.
pub record Near (a a' : Pairs) : Type 0 where
  pub file : (r : Role) → IsKept r → a'.file r ≡ a.file r
  pub cell : (c : ℕ) → a'.cell c ≡ a.cell c
  pub number : (c : ℕ) → a'.number c ≡ a.number c
  pub link : a'.link ≡ a.link
  pub feed : a'.feed ≡ a.feed
  pub fed : a'.fed ≡ a.fed

pub near_self : (a : Pairs) → Near a a
near_self a = record { file = λ r k. refl; cell = λ c. refl; number = λ c. refl; link = refl; feed = refl; fed = refl }

pub near_then : (a a' a'' : Pairs) → Near a a' → Near a' a'' → Near a a''
near_then a a' a'' n m = record {
  file = λ r k. m.file r k ∙ n.file r k;
  cell = λ c. m.cell c ∙ n.cell c;
  number = λ c. m.number c ∙ n.number c;
  link = m.link ∙ n.link;
  feed = m.feed ∙ n.feed;
  fed = m.fed ∙ n.fed;
}

apart_from : (j k : ℕ) → j ≤ 1 → 2 ≤ k → (k == j) ≡ false
apart_from j k h l = grind arith

-- a scratch register gets a word
pub near_put : (a : Pairs) (j v : ℕ) → j ≤ 1 → Near a (put a (Value j) v false)
near_put a j v h = record {
  file = elim [
    | Value k ↦ λ l. ap (λ (z : Bool). cond z v (a.file (Value k))) (apart_from j k h l)
    | Stack ↦ λ l. refl
    | Link ↦ λ l. refl
  ];
  cell = λ c. refl;
  number = λ c. refl;
  link = refl;
  feed = refl;
  fed = refl;
}

pub near_frame : (size pairs top : ℕ) (a a' : Pairs) → Near a a' → Frame size pairs top a → Frame size pairs top a'
near_frame size pairs top a a' n f = record { stack = n.file Stack tt ∙ f.stack; room = f.room; small = f.small; pairs_fit = f.pairs_fit }

two_up : (k : ℕ) → 2 ≤ k + 2
two_up k = omega arith

pub near_place : (a a' : Pairs) (top : ℕ) (pl : Place) → Near a a' → in_place a' top pl ≡ in_place a top pl
near_place a a' top (Pair k) n = n.file (Value (k + 2)) (two_up k)
near_place a a' top (Slot s) n = n.cell (top + (s + 1))

pub near_unnumbered : (a a' : Pairs) (top : ℕ) (pl : Place) → Near a a' → Unnumbered a top pl → Unnumbered a' top pl
near_unnumbered a a' top (Pair k) n u = tt
near_unnumbered a a' top (Slot s) n u = n.number (top + (s + 1)) ∙ u

-- ---- a variable comes to a register

abbrev pub fetch : Pairs → ℕ → Place → ℕ → Pairs
fetch a top (Pair k) scratch = a
fetch a top (Slot s) scratch = put a (Value scratch) (a.cell (top + (s + 1))) false

up_to_nine : (k : ℕ) → k ≤ 1 → k ≤ 9
up_to_nine k h = omega arith

pair_fits : (k : ℕ) → k ≤ 7 → k + 2 ≤ 9
pair_fits k h = omega arith

pub does_fetched : (p : HardProgram) (size b pairs top scratch : ℕ) (pl : Place) (a : Pairs) → scratch ≤ 1 → Frame size pairs top a → PlaceFits pairs pl → Unnumbered a top pl → Does p size b (fetched pl scratch) a (fetch a top pl scratch)
does_fetched p size b pairs top scratch (Pair k) a h f fits u = does_nothing p size b a
does_fetched p size b pairs top scratch (Slot s) a h f fits u =
    subst (λ (z : Bool). Does p size b (load (Value scratch) Stack (slot_offset s)) a (put a (Value scratch) (a.cell (top + (s + 1))) z)) u
    (does_load p size b (Value scratch) Stack (slot_offset s) (top + (s + 1)) a (up_to_nine scratch h) u (slot_leads size pairs top s a f fits))

pub fetch_near : (a : Pairs) (top : ℕ) (pl : Place) (scratch : ℕ) → scratch ≤ 1 → Near a (fetch a top pl scratch)
fetch_near a top (Pair k) scratch h = near_self a
fetch_near a top (Slot s) scratch h = near_put a scratch (a.cell (top + (s + 1))) h

-- the register in which it stands then
pub fetch_word : (a : Pairs) (top : ℕ) (pl : Place) (scratch : ℕ) → (fetch a top pl scratch).file (source pl scratch) ≡ in_place a top pl
fetch_word a top (Pair k) scratch = refl
fetch_word a top (Slot s) scratch = put_there a (Value scratch) (a.cell (top + (s + 1))) false

pub source_plain : (a : Pairs) (pairs : ℕ) (pl : Place) (scratch : ℕ) → scratch ≤ 1 → PlaceFits pairs pl → Plain a (source pl scratch)
source_plain a pairs (Pair k) scratch h fits = record { fits = pair_fits k fits; no_number = refl }
source_plain a pairs (Slot s) scratch h fits = record { fits = up_to_nine scratch h; no_number = refl }

pub source_fits : (pairs : ℕ) (pl : Place) (scratch : ℕ) → scratch ≤ 1 → PlaceFits pairs pl → RoleFits (source pl scratch)
source_fits pairs (Pair k) scratch h fits = pair_fits k fits
source_fits pairs (Slot s) scratch h fits = up_to_nine scratch h

pub source_unlinked : (a : Pairs) (pl : Place) (scratch : ℕ) → back_of a (source pl scratch) ≡ false
source_unlinked a (Pair k) scratch = refl
source_unlinked a (Slot s) scratch = refl

other_pair : (k : ℕ) → (k + 2 == 1) ≡ false
other_pair k = grind arith

-- the first of two stays where it is
pub fetch_both : (a : Pairs) (top : ℕ) (left right : Place) → (fetch (fetch a top left 0) top right 1).file (source left 0) ≡ in_place a top left
fetch_both a top left (Pair j) = fetch_word a top left 0
fetch_both a top (Pair k) (Slot s) = ap (λ (z : Bool). cond z (a.cell (top + (s + 1))) (a.file (Value (k + 2)))) (other_pair k)
fetch_both a top (Slot t) (Slot s) = fetch_word a top (Slot t) 0

pub fetch_second : (a : Pairs) (top : ℕ) (left right : Place) → (fetch (fetch a top left 0) top right 1).file (source right 1) ≡ in_place a top right
fetch_second a top left right = fetch_word (fetch a top left 0) top right 1 ∙ near_place a (fetch a top left 0) top right (fetch_near a top left 0 (Rattle.std.proofs.Common.zero-le))

-- a variable comes to a given register
pub does_brought : (p : HardProgram) (size b pairs top : ℕ) (pl : Place) (to : Role) (a : Pairs) → Free to → Frame size pairs top a → PlaceFits pairs pl → Unnumbered a top pl → AreWords size a → Does p size b (brought pl to) a (put a to (in_place a top pl) false)
does_brought p size b pairs top (Pair k) to a free f fits u w = does_move p size b to (Value (k + 2)) a free (record { fits = pair_fits k fits; no_number = refl }) (w.file (Value (k + 2)))
does_brought p size b pairs top (Slot s) to a free f fits u w =
    subst (λ (z : Bool). Does p size b (load to Stack (slot_offset s)) a (put a to (a.cell (top + (s + 1))) z)) u
    (does_load p size b to Stack (slot_offset s) (top + (s + 1)) a free.fits (subst (λ (z : Bool). BackFits to z) (sym u) free.back) (slot_leads size pairs top s a f fits))

-- ---- a variable is set

-- The place is in no register of this role, and in no cell of this number.
abbrev pub NotRole : Place → Role → Type 0
NotRole (Pair k) r = same_role r (Value (k + 2)) ≡ false
NotRole (Slot s) r = Unit {0}

abbrev pub NotCell : ℕ → Place → ℕ → Type 0
NotCell top (Pair k) c = Unit {0}
NotCell top (Slot s) c = c ≢ top + (s + 1)

-- A place has got a word; beside scratch registers nothing else is changed.
pub record SetsPlace (a a' : Pairs) (top : ℕ) (pl : Place) (v : ℕ) : Type 0 where
  pub there : in_place a' top pl ≡ v
  pub unnumbered : Unnumbered a' top pl
  pub file : (r : Role) → IsKept r → NotRole pl r → a'.file r ≡ a.file r
  pub cell : (c : ℕ) → NotCell top pl c → a'.cell c ≡ a.cell c
  pub number : (c : ℕ) → NotCell top pl c → a'.number c ≡ a.number c
  pub link : a'.link ≡ a.link
  pub feed : a'.feed ≡ a.feed
  pub fed : a'.fed ≡ a.fed

-- the pairs when a word is made in the target and kept
abbrev pub keep : Pairs → ℕ → Place → ℕ → Pairs
keep a top (Pair k) v = put a (Value (k + 2)) v false
keep a top (Slot s) v = set_cell (put a (Value 0) v false) (top + (s + 1)) v false

pub target_free : (pairs : ℕ) (pl : Place) → PlaceFits pairs pl → Free (target pl)
target_free pairs (Pair k) fits = record { fits = pair_fits k fits; back = refl }
target_free pairs (Slot s) fits = record { fits = Rattle.std.proofs.Common.zero-le; back = refl }

put_frame : (size pairs top v : ℕ) (a : Pairs) → Frame size pairs top a → Frame size pairs top (put a (Value 0) v false)
put_frame size pairs top v a f = record { stack = f.stack; room = f.room; small = f.small; pairs_fit = f.pairs_fit }

-- what was made in the target comes to the place
pub does_kept : (p : HardProgram) (size b pairs top v : ℕ) (pl : Place) (a : Pairs) → Frame size pairs top a → PlaceFits pairs pl → Does p size b (kept pl) (put a (target pl) v false) (keep a top pl v)
does_kept p size b pairs top v (Pair k) a f fits = does_nothing p size b (put a (Value (k + 2)) v false)
does_kept p size b pairs top v (Slot s) a f fits = does_store p size b (Value 0) Stack (slot_offset s) (top + (s + 1)) (put a (Value 0) v false) (Rattle.std.proofs.Common.zero-le) (slot_leads size pairs top s (put a (Value 0) v false) (put_frame size pairs top v a f) fits)

eq_self : (n : ℕ) → (n == n) ≡ true
eq_self n = grind arith

ne_false : (m n : ℕ) → m ≢ n → (m == n) ≡ false
ne_false m n h = grind arith

zero_apart : (k : ℕ) → 2 ≤ k → (k == 0) ≡ false
zero_apart k h = grind arith

pub keep_sets : (a b : Pairs) (top v : ℕ) (pl : Place) → Near a b → SetsPlace a (keep b top pl v) top pl v
keep_sets a b top v (Pair k) n = record {
  there = put_there b (Value (k + 2)) v false;
  unnumbered = tt;
  file = λ r l h. put_beside b r (Value (k + 2)) v false h ∙ n.file r l;
  cell = λ c h. n.cell c;
  number = λ c h. n.number c;
  link = n.link;
  feed = n.feed;
  fed = n.fed;
}
keep_sets a b top v (Slot s) n = record {
  there = ap (λ (z : Bool). cond z v (b.cell (top + (s + 1)))) (eq_self (top + (s + 1)));
  unnumbered = ap (λ (z : Bool). cond z false (b.number (top + (s + 1)))) (eq_self (top + (s + 1)));
  file = elim [
    | Value k ↦ λ l h. ap (λ (z : Bool). cond z v (b.file (Value k))) (zero_apart k l) ∙ n.file (Value k) l
    | Stack ↦ λ l h. n.file Stack tt
    | Link ↦ λ l h. n.file Link tt
  ];
  cell = λ c h. ap (λ (z : Bool). cond z v (b.cell c)) (ne_false c (top + (s + 1)) h) ∙ n.cell c;
  number = λ c h. ap (λ (z : Bool). cond z false (b.number c)) (ne_false c (top + (s + 1)) h) ∙ n.number c;
  link = n.link;
  feed = n.feed;
  fed = n.fed;
}

-- ---- variables

-- The variables that may still be read hold their words in their places.
pub record Holds (places : Places) (wanted : ℕ → Type 0) (vars : Variables) (top : ℕ) (a : Pairs) : Type 0 where
  pub word : (v w : ℕ) → wanted v → vars v ≡ Some w → in_place a top (place_of places v) ≡ w
  pub unnumbered : (v w : ℕ) → wanted v → vars v ≡ Some w → Unnumbered a top (place_of places v)

pub near_holds : (places : Places) (wanted wanted' : ℕ → Type 0) (vars : Variables) (top : ℕ) (a a' : Pairs) → ((v : ℕ) → wanted' v → wanted v) → Near a a' → Holds places wanted vars top a → Holds places wanted' vars top a'
near_holds places wanted wanted' vars top a a' f n h = record {
  word = λ v w l e. near_place a a' top (place_of places v) n ∙ h.word v w (f v l) e;
  unnumbered = λ v w l e. near_unnumbered a a' top (place_of places v) n (h.unnumbered v w (f v l) e);
}

pair_role : (j k : ℕ) → Pair j ≢ Pair k → (j + 2 == k + 2) ≡ false
pair_role j k h = ne_false (j + 2) (k + 2) (λ e. h (ap (λ (x : ℕ). Pair x) (two_less j k e)))
  where
    two_less : (j k : ℕ) → j + 2 ≡ k + 2 → j ≡ k
    two_less j k e = omega arith

slot_cell : (top s t : ℕ) → Slot s ≢ Slot t → top + (s + 1) ≢ top + (t + 1)
slot_cell top s t h = λ e. h (ap (λ (x : ℕ). Slot x) (same top s t e))
  where
    same : (top s t : ℕ) → top + (s + 1) ≡ top + (t + 1) → s ≡ t
    same top s t e = omega arith

-- another place keeps its word
pub other_place : (a a' : Pairs) (top v : ℕ) (pl q : Place) → q ≢ pl → SetsPlace a a' top pl v → in_place a' top q ≡ in_place a top q
other_place a a' top v (Pair k) (Pair j) h s = s.file (Value (j + 2)) (two_up j) (pair_role j k h)
other_place a a' top v (Pair k) (Slot t) h s = s.cell (top + (t + 1)) tt
other_place a a' top v (Slot e) (Pair j) h s = s.file (Value (j + 2)) (two_up j) tt
other_place a a' top v (Slot e) (Slot t) h s = s.cell (top + (t + 1)) (slot_cell top t e h)

pub other_unnumbered : (a a' : Pairs) (top v : ℕ) (pl q : Place) → q ≢ pl → SetsPlace a a' top pl v → Unnumbered a top q → Unnumbered a' top q
other_unnumbered a a' top v pl (Pair j) h s u = tt
other_unnumbered a a' top v (Pair k) (Slot t) h s u = s.number (top + (t + 1)) tt ∙ u
other_unnumbered a a' top v (Slot e) (Slot t) h s u = s.number (top + (t + 1)) (slot_cell top t e h) ∙ u

eq_is : (m n : ℕ) → (m == n) ≡ true → m ≡ n
eq_is m n h = grind arith

eq_not : (m n : ℕ) → (m == n) ≡ false → m ≢ n
eq_not m n h = grind arith

some_same : (x y : ℕ) → ◌≡◌ {A = Option ℕ} (Some x) (Some y) → x ≡ y
some_same x y e = ap (λ (o : Option ℕ). elim o as (λ z. ℕ) [ Some v ↦ v | None ↦ 0 ]) e

pub sets_holds : (places : Places) (wanted wanted' : ℕ → Type 0) (vars : Variables) (top x v : ℕ) (a a' : Pairs) → ((y : ℕ) → wanted' y → y ≢ x → wanted y × (place_of places y ≢ place_of places x)) → SetsPlace a a' top (place_of places x) v → Holds places wanted vars top a → Holds places wanted' (with_word vars x v) top a'
sets_holds places wanted wanted' vars top x v a a' f s h = record {
  word = λ y w l. elim (y == x) as (λ z. (y == x) ≡ z → cond z (Some v) (vars y) ≡ Some w → in_place a' top (place_of places y) ≡ w) [
    | true ↦ λ e g. subst (λ (n : ℕ). in_place a' top (place_of places n) ≡ w) (sym (eq_is y x e)) (s.there ∙ some_same v w g)
    | false ↦ λ e g. other_place a a' top v (place_of places x) (place_of places y) (f y l (eq_not y x e)).1 s ∙ h.word y w (f y l (eq_not y x e)).0 g
  ] refl;
  unnumbered = λ y w l. elim (y == x) as (λ z. (y == x) ≡ z → cond z (Some v) (vars y) ≡ Some w → Unnumbered a' top (place_of places y)) [
    | true ↦ λ e g. subst (λ (n : ℕ). Unnumbered a' top (place_of places n)) (sym (eq_is y x e)) s.unnumbered
    | false ↦ λ e g. other_unnumbered a a' top v (place_of places x) (place_of places y) (f y l (eq_not y x e)).1 s (h.unnumbered y w (f y l (eq_not y x e)).0 g)
  ] refl;
}
