-- Arguments, frames and returned words.
use Rattle.std.proofs.Common.{◌≡◌, ◌≢◌, ◌≤◌, ◌<◌, ℕ, zero, suc, ◌+◌, ◌-◌, ◌*◌, ◌/◌, ◌%◌, ◌^◌, arith, ap, refl, sym, ◌∙◌, subst, List, [], ◌∷◌, ◌++◌, append_assoc, length, Bool, true, false, cond, not, inl, inr, le_refl, mod-lt}
use Rattle.std.specs.Prelude.{Option, Some, None, ◌==◌, slice_get}
use Rattle.hard_words.specs.Words.{extended}
use Rattle.mips_isa.specs.declared.instr.Instr.TheVariants as mips
use Rattle.mips_isa.specs.Machine.{plus}
use Rattle.mid_blocks.specs.declared.places.Place.{Place}
use Rattle.mid_blocks.specs.declared.places.Place.TheVariants.{Pair, Slot}
use Rattle.mid_blocks.specs.declared.places.Places.{Places}
use Rattle.hard_items.specs.declared.code.Item.{Item}
use Rattle.hard_items.specs.declared.code.HardProgram.{HardProgram}
use Rattle.double_law.specs.declared.roles.Stream.TheVariants.{First, Second}
use Rattle.double_law.specs.declared.roles.Role.{Role}
use Rattle.double_law.specs.declared.roles.Role.TheVariants.{Value, Stack, Link}
use Rattle.double_law.specs.Roles.{reg_in, both, move, load, store}
use Rattle.double_law.specs.Emitted.{place_of, slot_offset, source, fetched, brought, argument_items, returned_items, enter_items, parameter_items, parameter_load, result_to}
use Rattle.double_law.proofs.Doubled.{back_of, Pairs, put}
use Rattle.double_law.proofs.Leading.{Does, does_nothing, does_then}
use Rattle.double_law.proofs.Memory.{Leads_to, does_load, does_store, set_cell}
use Rattle.double_law.proofs.Operations.{Plain, Free, put_there, put_beside, extended_low, put_word, does_two, does_zero, does_move, two_addiu, two_copy}
use Rattle.double_law.proofs.Places.{Frame, PlaceFits, in_place, Unnumbered, IsKept, Near, near_self, near_then, near_put, near_frame, near_place, near_unnumbered, fetch, does_fetched, fetch_near, fetch_word, source_fits, source_unlinked, does_brought, NotRole, NotCell, SetsPlace, keep, slot_leads}
use Rattle.double_law.proofs.Steps.{Stands, with_words}

eq_self : (n : ℕ) → (n == n) ≡ true
eq_self n = grind arith

ne_false : (m n : ℕ) → m ≢ n → (m == n) ≡ false
ne_false m n h = grind arith

high_offset : (n : ℕ) → 2 ^ 15 ≤ n → n < 2 ^ 16 → extended n ≡ n + (2 ^ 32 - 2 ^ 16)
high_offset n h k = grind arith

-- ---- the stack pointer

-- The stack pointer stands at a cell.
pub record StackAt (size top : ℕ) (a : Pairs) : Type 0 where
  pub stack : a.file Stack ≡ 0x10010000 + 8 * top
  pub room : top ≤ size
  pub small : size ≤ 32768

down_offset : (n : ℕ) → 1 ≤ n → n ≤ 4002 → (2 ^ 15 ≤ 2 ^ 16 - 8 * n) × (2 ^ 16 - 8 * n < 2 ^ 16)
down_offset n h k = (omega arith, omega arith)

down_by : (x top size n : ℕ) → x ≡ 0x10010000 + 8 * top → top ≤ size → size ≤ 32768 → 1 ≤ n → n ≤ 4002 → n ≤ top → (x + (2 ^ 16 - 8 * n + (2 ^ 32 - 2 ^ 16))) % 2 ^ 32 ≡ 0x10010000 + 8 * (top - n)
down_by x top size n e r s h k l = omega arith

up_by : (x top size n : ℕ) → x ≡ 0x10010000 + 8 * top → top + n ≤ size → size ≤ 32768 → (x + 8 * n) % 2 ^ 32 ≡ 0x10010000 + 8 * (top + n)
up_by x top size n e r s = omega arith

stack_free : Free Stack
stack_free = record { fits = tt; back = refl }

stack_plain : (a : Pairs) → Plain a Stack
stack_plain a = record { fits = tt; no_number = refl }

plus_small : (x y : ℕ) → plus x y < 2 ^ 32
plus_small x y = mod-lt (x + y) (omega arith)

pub does_down : (p : HardProgram) (size b top n : ℕ) (a : Pairs) → StackAt size top a → 1 ≤ n → n ≤ 4002 → n ≤ top → Does p size b (both (λ t. mips.Addiu (reg_in t Stack) (reg_in t Stack) (2 ^ 16 - 8 * n))) a (put a Stack (0x10010000 + 8 * (top - n)) false)
does_down p size b top n a s h k l =
    let is : plus (a.file Stack) (extended (2 ^ 16 - 8 * n)) ≡ 0x10010000 + 8 * (top - n) = ap (λ (z : ℕ). plus (a.file Stack) z) (high_offset (2 ^ 16 - 8 * n) (down_offset n h k).0 (down_offset n h k).1) ∙ down_by (a.file Stack) top size n s.stack s.room s.small h k l in
    put_word p size b (both (λ t. mips.Addiu (reg_in t Stack) (reg_in t Stack) (2 ^ 16 - 8 * n))) a Stack (plus (a.file Stack) (extended (2 ^ 16 - 8 * n))) (0x10010000 + 8 * (top - n)) is
    (does_two p size b (λ x y. mips.Addiu x y (2 ^ 16 - 8 * n)) (λ x. plus x (extended (2 ^ 16 - 8 * n))) Stack Stack a (two_addiu p (2 ^ 16 - 8 * n)) stack_free (stack_plain a) (plus_small (a.file Stack) (extended (2 ^ 16 - 8 * n))))

up_offset : (n : ℕ) → n ≤ 4002 → 8 * n < 2 ^ 15
up_offset n h = omega arith

pub does_up : (p : HardProgram) (size b top n : ℕ) (a : Pairs) → a.file Stack ≡ 0x10010000 + 8 * top → top + n ≤ size → size ≤ 32768 → n ≤ 4002 → Does p size b (both (λ t. mips.Addiu (reg_in t Stack) (reg_in t Stack) (8 * n))) a (put a Stack (0x10010000 + 8 * (top + n)) false)
does_up p size b top n a e r s k =
    let is : plus (a.file Stack) (extended (8 * n)) ≡ 0x10010000 + 8 * (top + n) = ap (λ (z : ℕ). plus (a.file Stack) z) (extended_low (8 * n) (up_offset n k)) ∙ up_by (a.file Stack) top size n e r s in
    put_word p size b (both (λ t. mips.Addiu (reg_in t Stack) (reg_in t Stack) (8 * n))) a Stack (plus (a.file Stack) (extended (8 * n))) (0x10010000 + 8 * (top + n)) is
    (does_two p size b (λ x y. mips.Addiu x y (8 * n)) (λ x. plus x (extended (8 * n))) Stack Stack a (two_addiu p (8 * n)) stack_free (stack_plain a) (plus_small (a.file Stack) (extended (8 * n))))

-- ---- the return address

link_first : (x top size : ℕ) → x ≡ 0x10010000 + 8 * top → top < size → size ≤ 32768 → (x + 0) % 2 ^ 32 ≡ 0x10010000 + (8 * top + 4 * 0)
link_first x top size e r k = omega arith

link_second : (x top size : ℕ) → x ≡ 0x10010000 + 8 * top → top < size → size ≤ 32768 → (x + 4) % 2 ^ 32 ≡ 0x10010000 + (8 * top + 4 * 1)
link_second x top size e r k = omega arith

pub link_leads : (size top : ℕ) (a : Pairs) → a.file Stack ≡ 0x10010000 + 8 * top → top < size → size ≤ 32768 → Leads_to size a Stack 0 top
link_leads size top a e r k = record {
  fits = tt;
  no_number = refl;
  below = r;
  address = elim [ First ↦ link_first (a.file Stack) top size e r k | Second ↦ link_second (a.file Stack) top size e r k ];
}

-- ---- arguments

argument_first : (x top size i : ℕ) → x ≡ 0x10010000 + 8 * top → top ≤ size → size ≤ 32768 → i + 1 ≤ top → i + 1 ≤ 4002 → (x + (2 ^ 16 - 8 * (i + 1) + (2 ^ 32 - 2 ^ 16))) % 2 ^ 32 ≡ 0x10010000 + (8 * (top - (i + 1)) + 4 * 0)
argument_first x top size i e r s h k = omega arith

argument_second : (x top size i : ℕ) → x ≡ 0x10010000 + 8 * top → top ≤ size → size ≤ 32768 → i + 1 ≤ top → i + 1 ≤ 4002 → (x + (2 ^ 16 - 8 * (i + 1) + 4 + (2 ^ 32 - 2 ^ 16))) % 2 ^ 32 ≡ 0x10010000 + (8 * (top - (i + 1)) + 4 * 1)
argument_second x top size i e r s h k = omega arith

second_down : (i : ℕ) → i + 1 ≤ 4002 → (2 ^ 16 - 8 * (i + 1) + 4) % 2 ^ 16 ≡ 2 ^ 16 - 8 * (i + 1) + 4
second_down i h = omega arith

second_high : (i : ℕ) → i + 1 ≤ 4002 → (2 ^ 15 ≤ 2 ^ 16 - 8 * (i + 1) + 4) × (2 ^ 16 - 8 * (i + 1) + 4 < 2 ^ 16)
second_high i h = (omega arith, omega arith)

first_high : (i : ℕ) → i + 1 ≤ 4002 → (2 ^ 15 ≤ 2 ^ 16 - 8 * (i + 1)) × (2 ^ 16 - 8 * (i + 1) < 2 ^ 16)
first_high i h = (omega arith, omega arith)

argument_below : (top size i : ℕ) → top ≤ size → i + 1 ≤ top → top - (i + 1) < size
argument_below top size i r h = omega arith

pub argument_leads : (size top i : ℕ) (a : Pairs) → StackAt size top a → i + 1 ≤ top → i + 1 ≤ 4002 → Leads_to size a Stack (2 ^ 16 - 8 * (i + 1)) (top - (i + 1))
argument_leads size top i a s h k = record {
  fits = tt;
  no_number = refl;
  below = argument_below top size i s.room h;
  address = elim [
    | First ↦ ap (λ (z : ℕ). plus (a.file Stack) z) (high_offset (2 ^ 16 - 8 * (i + 1)) (first_high i k).0 (first_high i k).1) ∙ argument_first (a.file Stack) top size i s.stack s.room s.small h k
    | Second ↦ ap (λ (z : ℕ). plus (a.file Stack) (extended z)) (second_down i k) ∙ (ap (λ (z : ℕ). plus (a.file Stack) z) (high_offset (2 ^ 16 - 8 * (i + 1) + 4) (second_high i k).0 (second_high i k).1) ∙ argument_second (a.file Stack) top size i s.stack s.room s.small h k)
  ];
}

-- The words of the arguments from a number on stand below the stack pointer; nothing at or above them is changed.
pub record Argued (a a' : Pairs) (top i : ℕ) (ws : List ℕ) : Type 0 where
  pub there : (j w : ℕ) → slice_get ws j ≡ Some w → (a'.cell (top - (i + j + 1)) ≡ w) × (a'.number (top - (i + j + 1)) ≡ false)
  pub above : (c : ℕ) → top - i ≤ c → (a'.cell c ≡ a.cell c) × (a'.number c ≡ a.number c)
  pub below : (c : ℕ) → c < top - (i + length ws) → (a'.cell c ≡ a.cell c) × (a'.number c ≡ a.number c)
  pub file : (r : Role) → IsKept r → a'.file r ≡ a.file r
  pub link : a'.link ≡ a.link
  pub feed : a'.feed ≡ a.feed
  pub fed : a'.fed ≡ a.fed

-- Each variable of a list holds its word.
abbrev pub AllStand : ℕ → Places → Pairs → ℕ → List ℕ → List ℕ → Type 0
AllStand pairs places a top [] [] = Unit {0}
AllStand pairs places a top [] (w ∷ ws) = ⊥
AllStand pairs places a top (v ∷ vs) [] = ⊥
AllStand pairs places a top (v ∷ vs) (w ∷ ws) = Stands pairs a top (place_of places v) w × AllStand pairs places a top vs ws

-- pairs that agree on all places of the frame
pub record SameFrame (a a' : Pairs) (top : ℕ) : Type 0 where
  pub file : (r : Role) → IsKept r → a'.file r ≡ a.file r
  pub cell : (c : ℕ) → top ≤ c → a'.cell c ≡ a.cell c
  pub number : (c : ℕ) → top ≤ c → a'.number c ≡ a.number c

above_top : (top s : ℕ) → top ≤ top + (s + 1)
above_top top s = omega arith

kept_two : (k : ℕ) → 2 ≤ k + 2
kept_two k = omega arith

pub stands_same : (pairs top w : ℕ) (a a' : Pairs) (pl : Place) → SameFrame a a' top → Stands pairs a top pl w → Stands pairs a' top pl w
stands_same pairs top w a a' (Pair k) s st = record { fits = st.fits; word = s.file (Value (k + 2)) (kept_two k) ∙ st.word; unnumbered = tt }
stands_same pairs top w a a' (Slot e) s st = record { fits = st.fits; word = s.cell (top + (e + 1)) (above_top top e) ∙ st.word; unnumbered = s.number (top + (e + 1)) (above_top top e) ∙ st.unnumbered }

pub all_stand_same : (pairs top : ℕ) (places : Places) (a a' : Pairs) (vs ws : List ℕ) → SameFrame a a' top → AllStand pairs places a top vs ws → AllStand pairs places a' top vs ws
all_stand_same pairs top places a a' [] [] s h = tt
all_stand_same pairs top places a a' [] (w ∷ ws) s h = h
all_stand_same pairs top places a a' (v ∷ vs) [] s h = h
all_stand_same pairs top places a a' (v ∷ vs) (w ∷ ws) s h = (stands_same pairs top w a a' (place_of places v) s h.0, all_stand_same pairs top places a a' vs ws s h.1)

some_same : (x y : ℕ) → ◌≡◌ {A = Option ℕ} (Some x) (Some y) → x ≡ y
some_same x y e = ap (λ (o : Option ℕ). elim o as (λ z. ℕ) [ Some v ↦ v | None ↦ 0 ]) e

none_is : (x : ℕ) → ◌≡◌ {A = Option ℕ} None (Some x) → ⊥
none_is x e = cc

-- one argument
one_argument : (p : HardProgram) (size b pairs top i w : ℕ) (from : Place) (a : Pairs) → Frame size pairs top a → Stands pairs a top from w → i + 1 ≤ top → i + 1 ≤ 4002 →
    (a' : Pairs) × Does p size b (fetched from 0 ++ store (source from 0) Stack (2 ^ 16 - 8 * (i + 1))) a a' × (a'.cell (top - (i + 1)) ≡ w) × (a'.number (top - (i + 1)) ≡ false) × ((c : ℕ) → c ≢ top - (i + 1) → (a'.cell c ≡ a.cell c) × (a'.number c ≡ a.number c)) × ((r : Role) → IsKept r → a'.file r ≡ a.file r) × (a'.link ≡ a.link) × (a'.feed ≡ a.feed) × (a'.fed ≡ a.fed)
one_argument p size b pairs top i w from a f st h k =
    let m : Pairs = fetch a top from 0 in
    let n : Near a m = fetch_near a top from 0 Rattle.std.proofs.Common.zero-le in
    let f1 : Frame size pairs top m = near_frame size pairs top a m n f in
    let r : Role = source from 0 in
    let c : ℕ = top - (i + 1) in
    let sa : StackAt size top m = record { stack = f1.stack; room = room_of top pairs size f1.room; small = f1.small } in
    let z : Pairs = set_cell m c (m.file r) (back_of m r) in (
      z,
      does_then p size b (fetched from 0) (store r Stack (2 ^ 16 - 8 * (i + 1))) a m z (does_fetched p size b pairs top 0 from a Rattle.std.proofs.Common.zero-le f st.fits st.unnumbered)
          (does_store p size b r Stack (2 ^ 16 - 8 * (i + 1)) c m (source_fits pairs from 0 Rattle.std.proofs.Common.zero-le st.fits) (argument_leads size top i m sa h k)),
      ap (λ (x : Bool). cond x (m.file r) (m.cell c)) (eq_self c) ∙ (fetch_word a top from 0 ∙ st.word),
      ap (λ (x : Bool). cond x (back_of m r) (m.number c)) (eq_self c) ∙ source_unlinked m from 0,
      λ q ne. (ap (λ (x : Bool). cond x (m.file r) (m.cell q)) (ne_false q c ne) ∙ n.cell q, ap (λ (x : Bool). cond x (back_of m r) (m.number q)) (ne_false q c ne) ∙ n.number q),
      λ q l. n.file q l,
      n.link,
      n.feed,
      n.fed,
    )
  where
    room_of : (top pairs size : ℕ) → top + pairs ≤ size → top ≤ size
    room_of top pairs size r = omega arith

pub arguments : (p : HardProgram) (size b pairs top : ℕ) (places : Places) (i : ℕ) (vs ws : List ℕ) (a : Pairs) → Frame size pairs top a → AllStand pairs places a top vs ws → i + length ws ≤ top → i + length ws ≤ 4002 → (a' : Pairs) × Does p size b (argument_items places i vs) a a' × Argued a a' top i ws
arguments p size b pairs top places i [] [] a f st h k = (
  a,
  does_nothing p size b a,
  record {
    there = λ j w e. absurd (none_is w e);
    above = λ c l. (refl, refl);
    below = λ c l. (refl, refl);
    file = λ r l. refl;
    link = refl;
    feed = refl;
    fed = refl;
  },
)
arguments p size b pairs top places i [] (w ∷ ws) a f st h k = absurd st
arguments p size b pairs top places i (v ∷ vs) [] a f st h k = absurd st
arguments p size b pairs top places i (v ∷ vs) (w ∷ ws) a f st h k =
    let one : (a' : Pairs) × Does p size b (fetched (place_of places v) 0 ++ store (source (place_of places v) 0) Stack (2 ^ 16 - 8 * (i + 1))) a a' × (a'.cell (top - (i + 1)) ≡ w) × (a'.number (top - (i + 1)) ≡ false) × ((c : ℕ) → c ≢ top - (i + 1) → (a'.cell c ≡ a.cell c) × (a'.number c ≡ a.number c)) × ((r : Role) → IsKept r → a'.file r ≡ a.file r) × (a'.link ≡ a.link) × (a'.feed ≡ a.feed) × (a'.fed ≡ a.fed)
    = one_argument p size b pairs top i w (place_of places v) a f st.0 (more_le i (length ws) top h) (more_le i (length ws) 4002 k) in
    let a1 : Pairs = one.0 in
    let sf : SameFrame a a1 top = record { file = one.5; cell = λ c l. (one.4 c (above_not top i c l (more_le i (length ws) top h))).0; number = λ c l. (one.4 c (above_not top i c l (more_le i (length ws) top h))).1 } in
    let f1 : Frame size pairs top a1 = record { stack = one.5 Stack tt ∙ f.stack; room = f.room; small = f.small; pairs_fit = f.pairs_fit } in
    let rest : (a' : Pairs) × Does p size b (argument_items places (i + 1) vs) a1 a' × Argued a1 a' top (i + 1) ws = arguments p size b pairs top places (i + 1) vs ws a1 f1 (all_stand_same pairs top places a a1 vs ws sf st.1) (shift_le i (length ws) top h) (shift_le i (length ws) 4002 k) in
    let g : Argued a1 rest.0 top (i + 1) ws = rest.2 in (
      rest.0,
      subst (λ (l : List Item). Does p size b l a rest.0) (append_assoc (fetched (place_of places v) 0) (store (source (place_of places v) 0) Stack (2 ^ 16 - 8 * (i + 1))) (argument_items places (i + 1) vs))
          (does_then p size b (fetched (place_of places v) 0 ++ store (source (place_of places v) 0) Stack (2 ^ 16 - 8 * (i + 1))) (argument_items places (i + 1) vs) a a1 rest.0 one.1 rest.1),
      record {
        there = elim [
          | zero ↦ λ x e. let c0 : top - (i + zero + 1) ≡ top - (i + 1) = zero_place top i in
              let up : top - (i + 1) ≤ top - (i + zero + 1) = zero_up top i in (
                (g.above (top - (i + zero + 1)) up).0 ∙ (ap (λ (c : ℕ). a1.cell c) c0 ∙ (one.2 ∙ some_same w x e)),
                (g.above (top - (i + zero + 1)) up).1 ∙ (ap (λ (c : ℕ). a1.number c) c0 ∙ one.3),
              )
          | suc j ↦ λ x e. let q : (rest.0.cell (top - (i + 1 + j + 1)) ≡ x) × (rest.0.number (top - (i + 1 + j + 1)) ≡ false) = g.there j x e in
              (ap (λ (c : ℕ). rest.0.cell c) (next_place top i j) ∙ q.0, ap (λ (c : ℕ). rest.0.number c) (next_place top i j) ∙ q.1)
        ];
        above = λ c l. ((g.above c (lower_up top i c l)).0 ∙ (one.4 c (above_not' top i c l (more_le i (length ws) top h))).0, (g.above c (lower_up top i c l)).1 ∙ (one.4 c (above_not' top i c l (more_le i (length ws) top h))).1);
        below = λ c l. ((g.below c (below_down top i (length ws) c l)).0 ∙ (one.4 c (below_not top i (length ws) c l)).0, (g.below c (below_down top i (length ws) c l)).1 ∙ (one.4 c (below_not top i (length ws) c l)).1);
        file = λ r l. g.file r l ∙ one.5 r l;
        link = g.link ∙ one.6;
        feed = g.feed ∙ one.7;
        fed = g.fed ∙ one.8;
      },
    )
  where
    more_le : (i n t : ℕ) → i + suc n ≤ t → i + 1 ≤ t
    more_le i n t h = omega arith

    shift_le : (i n t : ℕ) → i + suc n ≤ t → i + 1 + n ≤ t
    shift_le i n t h = omega arith

    above_not : (top i c : ℕ) → top ≤ c → i + 1 ≤ top → c ≢ top - (i + 1)
    above_not top i c l h = λ e. omega arith

    above_not' : (top i c : ℕ) → top - i ≤ c → i + 1 ≤ top → c ≢ top - (i + 1)
    above_not' top i c l h = λ e. omega arith

    lower_up : (top i c : ℕ) → top - i ≤ c → top - (i + 1) ≤ c
    lower_up top i c l = omega arith

    below_not : (top i n c : ℕ) → c < top - (i + suc n) → c ≢ top - (i + 1)
    below_not top i n c l = λ e. omega arith

    below_down : (top i n c : ℕ) → c < top - (i + suc n) → c < top - (i + 1 + n)
    below_down top i n c l = omega arith

    zero_place : (top i : ℕ) → top - (i + zero + 1) ≡ top - (i + 1)
    zero_place top i = omega arith

    zero_up : (top i : ℕ) → top - (i + 1) ≤ top - (i + zero + 1)
    zero_up top i = omega arith

    next_place : (top i j : ℕ) → top - (i + suc j + 1) ≡ top - (i + 1 + j + 1)
    next_place top i j = omega arith

-- ---- parameters

slot_of : (pairs i : ℕ) → i + 1 < pairs → 8 * (pairs - (i + 1)) ≡ slot_offset (pairs - 2 - i)
slot_of pairs i h = omega arith

cell_is : (top pairs i : ℕ) → i + 1 < pairs → top + (pairs - 2 - i + 1) ≡ top + (pairs - (i + 1))
cell_is top pairs i h = omega arith

slot_inside : (pairs i : ℕ) → i + 1 < pairs → pairs - 2 - i + 1 < pairs
slot_inside pairs i h = omega arith

parameter_leads : (size pairs top i : ℕ) (a : Pairs) → Frame size pairs top a → i + 1 < pairs → Leads_to size a Stack (8 * (pairs - (i + 1))) (top + (pairs - (i + 1)))
parameter_leads size pairs top i a f h = subst (λ (o : ℕ). Leads_to size a Stack o (top + (pairs - (i + 1)))) (sym (slot_of pairs i h)) (subst (λ (c : ℕ). Leads_to size a Stack (slot_offset (pairs - 2 - i)) c) (cell_is top pairs i h) (slot_leads size pairs top (pairs - 2 - i) a f (slot_inside pairs i h)))

-- a parameter that has a pair is there
pub record Loaded (a a' : Pairs) (places : Places) (pairs top i n : ℕ) : Type 0 where
  pub there : (j k : ℕ) → i ≤ j → j < i + n → place_of places j ≡ Pair k → a'.file (Value (k + 2)) ≡ a.cell (top + (pairs - (j + 1)))
  pub file : (r : Role) → IsKept r → ((j : ℕ) → i ≤ j → j < i + n → NotRole (place_of places j) r) → a'.file r ≡ a.file r
  pub stack : a'.file Stack ≡ a.file Stack
  pub cell : (c : ℕ) → a'.cell c ≡ a.cell c
  pub number : (c : ℕ) → a'.number c ≡ a.number c
  pub link : a'.link ≡ a.link
  pub feed : a'.feed ≡ a.feed
  pub fed : a'.fed ≡ a.fed

pair_of : (pl : Place) → ℕ
pair_of (Pair k) = k
pair_of (Slot s) = s

pair_same : (j k : ℕ) → Pair j ≡ Pair k → j ≡ k
unfolding pair_of
pair_same j k e = ap (λ (x : Place). pair_of x) e

slot_pair : (s k : ℕ) → Slot s ≡ Pair k → ⊥
slot_pair s k e = cc

pub record OneLoaded (p : HardProgram) (size b : ℕ) (a : Pairs) (pairs top i : ℕ) (pl : Place) : Type 0 where
  pub now : Pairs
  pub does : Does p size b (parameter_load pl pairs i) a now
  pub there : (k : ℕ) → pl ≡ Pair k → now.file (Value (k + 2)) ≡ a.cell (top + (pairs - (i + 1)))
  pub file : (r : Role) → IsKept r → NotRole pl r → now.file r ≡ a.file r
  pub stack : now.file Stack ≡ a.file Stack
  pub cell : (c : ℕ) → now.cell c ≡ a.cell c
  pub number : (c : ℕ) → now.number c ≡ a.number c
  pub link : now.link ≡ a.link
  pub feed : now.feed ≡ a.feed
  pub fed : now.fed ≡ a.fed

pair_fits : (k : ℕ) → k ≤ 7 → k + 2 ≤ 9
pair_fits k h = omega arith

one_loaded : (p : HardProgram) (size b pairs top i : ℕ) (pl : Place) (a : Pairs) → Frame size pairs top a → i + 1 < pairs → PlaceFits pairs pl → a.number (top + (pairs - (i + 1))) ≡ false → OneLoaded p size b a pairs top i pl
one_loaded p size b pairs top i (Pair k) a f h fits u =
    let c : ℕ = top + (pairs - (i + 1)) in
    record {
      now = put a (Value (k + 2)) (a.cell c) false;
      does = subst (λ (z : Bool). Does p size b (load (Value (k + 2)) Stack (8 * (pairs - (i + 1)))) a (put a (Value (k + 2)) (a.cell c) z)) u
          (does_load p size b (Value (k + 2)) Stack (8 * (pairs - (i + 1))) c a (pair_fits k fits) u (parameter_leads size pairs top i a f h));
      there = λ q e. subst (λ (x : ℕ). (put a (Value (k + 2)) (a.cell c) false).file (Value (x + 2)) ≡ a.cell c) (pair_same k q e) (put_there a (Value (k + 2)) (a.cell c) false);
      file = λ r l e. put_beside a r (Value (k + 2)) (a.cell c) false e;
      stack = refl;
      cell = λ q. refl;
      number = λ q. refl;
      link = refl;
      feed = refl;
      fed = refl;
    }
one_loaded p size b pairs top i (Slot s) a f h fits u = record {
  now = a;
  does = does_nothing p size b a;
  there = λ q e. absurd (slot_pair s q e);
  file = λ r l e. refl;
  stack = refl;
  cell = λ q. refl;
  number = λ q. refl;
  link = refl;
  feed = refl;
  fed = refl;
}

other_role : (j k : ℕ) → j ≢ k → (j + 2 == k + 2) ≡ false
other_role j k h = ne_false (j + 2) (k + 2) (λ e. h (less j k e))
  where
    less : (j k : ℕ) → j + 2 ≡ k + 2 → j ≡ k
    less j k e = omega arith

not_role : (pl : Place) (k : ℕ) → ((q : ℕ) → pl ≡ Pair q → q ≢ k) → NotRole pl (Value (k + 2))
not_role (Pair q) k h = other_role k q (λ e. h q refl (sym e))
not_role (Slot s) k h = tt

pub parameters : (p : HardProgram) (size b pairs top : ℕ) (places : Places) (i n : ℕ) (a : Pairs) → Frame size pairs top a → ((j : ℕ) → i ≤ j → j < i + n → (j + 1 < pairs) × PlaceFits pairs (place_of places j) × (a.number (top + (pairs - (j + 1))) ≡ false)) →
    ((j q k : ℕ) → i ≤ j → j < i + n → i ≤ q → q < i + n → place_of places j ≡ Pair k → place_of places q ≡ Pair k → j ≡ q) →
    (a' : Pairs) × Does p size b (parameter_items places pairs i n) a a' × Loaded a a' places pairs top i n
parameters p size b pairs top places i zero a f g apart = (
  a,
  does_nothing p size b a,
  record {
    there = λ j k l m e. absurd (empty i j l m);
    file = λ r l h. refl;
    stack = refl;
    cell = λ c. refl;
    number = λ c. refl;
    link = refl;
    feed = refl;
    fed = refl;
  },
)
  where
    empty : (i j : ℕ) → i ≤ j → j < i + zero → ⊥
    empty i j l m = omega arith
parameters p size b pairs top places i (suc n) a f g apart =
    let here : (i + 1 < pairs) × PlaceFits pairs (place_of places i) × (a.number (top + (pairs - (i + 1))) ≡ false) = g i (le_refl i) (first_in i n) in
    let one : OneLoaded p size b a pairs top i (place_of places i) = one_loaded p size b pairs top i (place_of places i) a f here.0 here.1 here.2 in
    let f1 : Frame size pairs top one.now = record { stack = one.stack ∙ f.stack; room = f.room; small = f.small; pairs_fit = f.pairs_fit } in
    let rest : (a' : Pairs) × Does p size b (parameter_items places pairs (i + 1) n) one.now a' × Loaded one.now a' places pairs top (i + 1) n = parameters p size b pairs top places (i + 1) n one.now f1
    (λ j l m. let x : (j + 1 < pairs) × PlaceFits pairs (place_of places j) × (a.number (top + (pairs - (j + 1))) ≡ false) = g j (down i j l) (wider i n j m) in (x.0, x.1, one.number (top + (pairs - (j + 1))) ∙ x.2))
    (λ j q k l m l' m' e e'. apart j q k (down i j l) (wider i n j m) (down i q l') (wider i n q m') e e') in
    let z : Loaded one.now rest.0 places pairs top (i + 1) n = rest.2 in (
      rest.0,
      does_then p size b (parameter_load (place_of places i) pairs i) (parameter_items places pairs (i + 1) n) a one.now rest.0 one.does rest.1,
      record {
        there = λ j k l m e. elim (j == i) as (λ t. (j == i) ≡ t → rest.0.file (Value (k + 2)) ≡ a.cell (top + (pairs - (j + 1)))) [
          | true ↦ λ t. let s : j ≡ i = eq_is j i t in
              z.file (Value (k + 2)) (kept_two k) (λ q u v. not_role (place_of places q) k (λ x y w. differ i q u (sym s ∙ apart j q k l m (down i q u) (wider i n q v) e (y ∙ ap (λ (n : ℕ). Pair n) w)))) ∙
              (one.there k (subst (λ (q : ℕ). place_of places q ≡ Pair k) s e) ∙ ap (λ (q : ℕ). a.cell (top + (pairs - (q + 1)))) (sym s))
          | false ↦ λ t. z.there j k (above i j l (eq_not j i t)) (inner i n j m) e ∙ one.cell (top + (pairs - (j + 1)))
        ] refl;
        file = λ r l h. z.file r l (λ j u v. h j (down i j u) (wider i n j v)) ∙ one.file r l (h i (le_refl i) (first_in i n));
        stack = z.stack ∙ one.stack;
        cell = λ c. z.cell c ∙ one.cell c;
        number = λ c. z.number c ∙ one.number c;
        link = z.link ∙ one.link;
        feed = z.feed ∙ one.feed;
        fed = z.fed ∙ one.fed;
      },
    )
  where
    first_in : (i n : ℕ) → i < i + suc n
    first_in i n = omega arith

    down : (i j : ℕ) → i + 1 ≤ j → i ≤ j
    down i j l = omega arith

    wider : (i n j : ℕ) → j < i + 1 + n → j < i + suc n
    wider i n j m = omega arith

    inner : (i n j : ℕ) → j < i + suc n → j < i + 1 + n
    inner i n j m = omega arith

    above : (i j : ℕ) → i ≤ j → j ≢ i → i + 1 ≤ j
    above i j l h = grind arith

    differ : (i q : ℕ) → i + 1 ≤ q → i ≡ q → ⊥
    differ i q u e = omega arith

    eq_is : (m n : ℕ) → (m == n) ≡ true → m ≡ n
    eq_is m n h = grind arith

    eq_not : (m n : ℕ) → (m == n) ≡ false → m ≢ n
    eq_not m n h = grind arith

-- ---- a call begins

pub record Entered (a a' : Pairs) (places : Places) (pairs params top n : ℕ) : Type 0 where
  pub stack : a'.file Stack ≡ 0x10010000 + 8 * top
  pub link_cell : a'.cell top ≡ n
  pub link_number : a'.number top ≡ true
  pub there : (j k : ℕ) → j < params → place_of places j ≡ Pair k → a'.file (Value (k + 2)) ≡ a.cell (top + (pairs - (j + 1)))
  pub cell : (c : ℕ) → c ≢ top → a'.cell c ≡ a.cell c
  pub number : (c : ℕ) → c ≢ top → a'.number c ≡ a.number c
  pub feed : a'.feed ≡ a.feed
  pub fed : a'.fed ≡ a.fed

inside_top : (t pairs size : ℕ) → t ≤ size → 1 ≤ pairs → pairs ≤ t → t - pairs < size
inside_top t pairs size h k l = omega arith

whole_frame : (t pairs size : ℕ) → t ≤ size → pairs ≤ t → t - pairs + pairs ≤ size
whole_frame t pairs size h k = omega arith

param_not_top : (top pairs j : ℕ) → j + 1 < pairs → top + (pairs - (j + 1)) ≢ top
param_not_top top pairs j h = λ e. omega arith

pub enters : (p : HardProgram) (size b t pairs params n : ℕ) (places : Places) (a : Pairs) → StackAt size t a → 1 ≤ pairs → pairs ≤ 4002 → pairs ≤ t → a.link ≡ true → a.file Link ≡ n →
    ((j : ℕ) → j < params → (j + 1 < pairs) × PlaceFits pairs (place_of places j) × (a.number (t - pairs + (pairs - (j + 1))) ≡ false)) →
    ((j q k : ℕ) → j < params → q < params → place_of places j ≡ Pair k → place_of places q ≡ Pair k → j ≡ q) →
    (a' : Pairs) × Does p size b (enter_items places pairs params) a a' × Entered a a' places pairs params (t - pairs) n
enters p size b t pairs params n places a s h1 h2 h3 l e g apart =
    let top : ℕ = t - pairs in
    let a1 : Pairs = put a Stack (0x10010000 + 8 * top) false in
    let below : top < size = inside_top t pairs size s.room h1 h3 in
    let a2 : Pairs = set_cell a1 top (a1.file Link) (back_of a1 Link) in
    let f2 : Frame size pairs top a2 = record { stack = refl; room = whole_frame t pairs size s.room h3; small = s.small; pairs_fit = h2 } in
    let ps : (a' : Pairs) × Does p size b (parameter_items places pairs 0 params) a2 a' × Loaded a2 a' places pairs top 0 params = parameters p size b pairs top places 0 params a2 f2
    (λ j x y. let q : (j + 1 < pairs) × PlaceFits pairs (place_of places j) × (a.number (top + (pairs - (j + 1))) ≡ false) = g j (from_zero j params y) in
    (q.0, q.1, ap (λ (z : Bool). cond z (back_of a1 Link) (a.number (top + (pairs - (j + 1))))) (ne_false (top + (pairs - (j + 1))) top (param_not_top top pairs j q.0)) ∙ q.2))
    (λ j q k x y x' y' u v. apart j q k (from_zero j params y) (from_zero q params y') u v) in
    let z : Loaded a2 ps.0 places pairs top 0 params = ps.2 in (
      ps.0,
      does_then p size b (both (λ t. mips.Addiu (reg_in t Stack) (reg_in t Stack) (2 ^ 16 - 8 * pairs))) (store Link Stack 0 ++ parameter_items places pairs 0 params) a a1 ps.0 (does_down p size b t pairs a s h1 h2 h3)
          (does_then p size b (store Link Stack 0) (parameter_items places pairs 0 params) a1 a2 ps.0 (does_store p size b Link Stack 0 top a1 tt (link_leads size top a1 refl below s.small)) ps.1),
      record {
        stack = z.stack;
        link_cell = z.cell top ∙ (ap (λ (x : Bool). cond x (a1.file Link) (a1.cell top)) (eq_self top) ∙ e);
        link_number = z.number top ∙ (ap (λ (x : Bool). cond x (back_of a1 Link) (a1.number top)) (eq_self top) ∙ l);
        there = λ j k x y. z.there j k Rattle.std.proofs.Common.zero-le (up_zero j params x) y ∙ ap (λ (x : Bool). cond x (a1.file Link) (a1.cell (top + (pairs - (j + 1))))) (ne_false (top + (pairs - (j + 1))) top (param_not_top top pairs j (g j x).0));
        cell = λ c x. z.cell c ∙ ap (λ (y : Bool). cond y (a1.file Link) (a1.cell c)) (ne_false c top x);
        number = λ c x. z.number c ∙ ap (λ (y : Bool). cond y (back_of a1 Link) (a1.number c)) (ne_false c top x);
        feed = z.feed;
        fed = z.fed;
      },
    )
  where
    from_zero : (j n : ℕ) → j < 0 + n → j < n
    from_zero j n h = omega arith

    up_zero : (j n : ℕ) → j < n → j < 0 + n
    up_zero j n h = omega arith

-- ---- a call ends

pub record Returned (a a' : Pairs) (top pairs w n : ℕ) : Type 0 where
  pub word : a'.file (Value 0) ≡ w
  pub stack : a'.file Stack ≡ 0x10010000 + 8 * (top + pairs)
  pub link : a'.link ≡ true
  pub target : a'.file Link ≡ n
  pub cell : (c : ℕ) → a'.cell c ≡ a.cell c
  pub number : (c : ℕ) → a'.number c ≡ a.number c
  pub feed : a'.feed ≡ a.feed
  pub fed : a'.fed ≡ a.fed

frame_top : (top pairs size : ℕ) → top + pairs ≤ size → 1 ≤ pairs → top < size
frame_top top pairs size h k = omega arith

-- the code of a return up to its jr
abbrev pub leaving : List Item → ℕ → List Item
leaving first pairs = first ++ (load Link Stack 0 ++ both (λ t. mips.Addiu (reg_in t Stack) (reg_in t Stack) (8 * pairs)))

pub leaves : (p : HardProgram) (size b pairs top w n : ℕ) (first : List Item) (a : Pairs) → Frame size pairs top a → 1 ≤ pairs → Does p size b first a (put a (Value 0) w false) → a.cell top ≡ n → a.number top ≡ true → (a' : Pairs) × Does p size b (leaving first pairs) a a' × Returned a a' top pairs w n
leaves p size b pairs top w n first a f h d e l =
    let a1 : Pairs = put a (Value 0) w false in
    let a2 : Pairs = put a1 Link (a.cell top) (a.number top) in
    let a3 : Pairs = put a2 Stack (0x10010000 + 8 * (top + pairs)) false in
    let up : List Item = both (λ t. mips.Addiu (reg_in t Stack) (reg_in t Stack) (8 * pairs)) in (
      a3,
      does_then p size b first (load Link Stack 0 ++ up) a a1 a3 d
          (does_then p size b (load Link Stack 0) up a1 a2 a3 (does_load p size b Link Stack 0 top a1 tt tt (link_leads size top a1 f.stack (frame_top top pairs size f.room h) f.small))
          (does_up p size b top pairs a2 f.stack f.room f.small f.pairs_fit)),
      record { word = refl; stack = refl; link = l; target = e; cell = λ c. refl; number = λ c. refl; feed = refl; fed = refl },
    )

-- what is returned comes to the first value
pub returns_word : (p : HardProgram) (size b pairs top w : ℕ) (places : Places) (v : ℕ) (a : Pairs) → Frame size pairs top a → Stands pairs a top (place_of places v) w → Does p size b (returned_items places (Some v)) a (put a (Value 0) w false)
returns_word p size b pairs top w places v a f st = subst (λ (z : ℕ). Does p size b (brought (place_of places v) (Value 0)) a (put a (Value 0) z false)) st.word
    (with_words p size b (brought (place_of places v) (Value 0)) a (put a (Value 0) (in_place a top (place_of places v)) false) (λ ws. does_brought p size b pairs top (place_of places v) (Value 0) a (record { fits = Rattle.std.proofs.Common.zero-le; back = refl }) f st.fits st.unnumbered ws))

pub returns_zero : (p : HardProgram) (size b : ℕ) (places : Places) (a : Pairs) → Does p size b (returned_items places None) a (put a (Value 0) 0 false)
returns_zero p size b places a = does_zero p size b (λ x y. mips.Addu x y 0) (λ x. (x + 0) % 2 ^ 32) (Value 0) a (two_copy p) (record { fits = Rattle.std.proofs.Common.zero-le; back = refl }) (omega arith)

-- ---- what a call returned comes to its place

pub record ResultSet (p : HardProgram) (size b : ℕ) (a : Pairs) (top : ℕ) (pl : Place) (w : ℕ) : Type 0 where
  pub now : Pairs
  pub does : Does p size b (result_to pl) a now
  pub sets : SetsPlace a now top pl w

pub result_set : (p : HardProgram) (size b pairs top w : ℕ) (pl : Place) (a : Pairs) → Frame size pairs top a → PlaceFits pairs pl → a.file (Value 0) ≡ w → ResultSet p size b a top pl w
result_set p size b pairs top w (Pair k) a f fits e = record {
  now = put a (Value (k + 2)) w false;
  does = subst (λ (z : ℕ). Does p size b (move (Value (k + 2)) (Value 0)) a (put a (Value (k + 2)) z false)) e
      (with_words p size b (move (Value (k + 2)) (Value 0)) a (put a (Value (k + 2)) (a.file (Value 0)) false) (λ ws. does_move p size b (Value (k + 2)) (Value 0) a (record { fits = pair_fits k fits; back = refl }) (record { fits = Rattle.std.proofs.Common.zero-le; no_number = refl }) (ws.file (Value 0))));
  sets = Rattle.double_law.proofs.Places.keep_sets a a top w (Pair k) (near_self a);
}
result_set p size b pairs top w (Slot s) a f fits e = record {
  now = set_cell a (top + (s + 1)) (a.file (Value 0)) false;
  does = does_store p size b (Value 0) Stack (slot_offset s) (top + (s + 1)) a Rattle.std.proofs.Common.zero-le (slot_leads size pairs top s a f fits);
  sets = Rattle.double_law.proofs.Steps.slot_sets a a top s (a.file (Value 0)) w false e refl (near_self a);
}
