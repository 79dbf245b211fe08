-- What each step of a block comes to: a place is set, a word of a global is, nothing is, or the run ends.
use Rattle.std.proofs.Common.{◌≡◌, ◌≢◌, ◌≤◌, ◌<◌, ℕ, zero, suc, ◌+◌, ◌-◌, ◌*◌, ◌/◌, ◌%◌, ◌^◌, arith, ap, refl, sym, ◌∙◌, subst, List, [], ◌∷◌, ◌++◌, append_assoc, length, get_or, Bool, true, false, cond, not, inl, inr, le_refl, mod-lt}
use Rattle.std.specs.Prelude.{Option, Some, None, Result, Ok, Err, ◌⊎◌, ◌==◌, ◌&&◌, nat_lt, slice_index, if◌then◌else◌, bit_xor, bit_or, int_div, int_rem}
use Rattle.std.specs.Int.{cast_unsigned}
use Rattle.std.specs.Int.Bits.{xor_self, xor_add_and, or_zero_r}
use Rattle.std.proofs.lemmas.Nat.{and_le_l, and_le_r, or_lt, xor_lt, le_or_l, le_or_r}
use Rattle.hard_words.specs.Words.{extended, signed}
use Rattle.mips_isa.specs.declared.instr.Instr.{Instr}
use Rattle.mips_isa.specs.declared.instr.Instr.TheVariants as mips
use Rattle.mips_isa.specs.declared.instr.End.{End}
use Rattle.mips_isa.specs.declared.instr.End.TheVariants.{Trapped}
use Rattle.mips_isa.specs.Machine as machine
use Rattle.mips_isa.specs.Machine.{plus}
use Rattle.mid_blocks.specs.declared.code.MidOp.{MidOp}
use Rattle.mid_blocks.specs.declared.code.MidOp.TheVariants as op
use Rattle.mid_blocks.specs.declared.places.Place.{Place}
use Rattle.mid_blocks.specs.declared.places.Place.TheVariants.{Pair, Slot}
use Rattle.mid_blocks.specs.Run.{operate, truth, with_sign, by_non_zero}
use Rattle.third_law.specs.declared.roles.Stream.{Stream}
use Rattle.third_law.specs.declared.roles.Stream.TheVariants.{First, Second, Third}
use Rattle.third_law.specs.declared.roles.Role.{Role}
use Rattle.third_law.specs.declared.roles.Role.TheVariants.{Value, Stack}
use Rattle.third_law.specs.Roles.{RoleFits, reg_in, off_in, each, load, store, test}
use Rattle.third_law.specs.Emitted.{slot_offset, source, fetched, brought, target, kept, constant, three, operation, divisor_test, quotient_test, operation_tests, copy_code, upper, lower, element, load_code, store_code, input_code, service_code}
use Rattle.third_law.proofs.Sights.{Sight, AreWords, lane, put, same_role}
use Rattle.third_law.proofs.Loading.{LeadsTo, lane_fits}
use Rattle.third_law.proofs.Storing.{set_cell}
use Rattle.third_law.proofs.Leading.{Runnable, Does, DoesStop, DoesSpeak, does_nothing, does_then, does_load, does_store, does_test, does_input, stops_test, speaks_out, stops_then, stops_early, speaks_then, does_same, with_words}
use Rattle.third_law.proofs.Arithmetic.{extended_low, truth_small}
use Rattle.third_law.proofs.Operations.{put_there, put_beside, put_twice, does_constant, does_operation, does_two, does_three, does_zero, put_word, two_lui, two_nor, two_sltiu, two_shift, three_xor, three_or, three_add}
use Rattle.third_law.proofs.Places.{Frame, PlaceFits, in_place, IsKept, Near, near_self, near_then, near_put, near_frame, near_place, fetch, does_fetched, fetch_near, fetch_word, fetch_both, source_fits, does_brought, SetsPlace, keep, target_free, does_kept, keep_sets, slot_leads}

-- A word stands in a place.
pub record StandsIn (pairs : ℕ) (a : Sight) (top : ℕ) (pl : Place) (w : ℕ) : Type 0 where
  pub fits : PlaceFits pairs pl
  pub word : in_place a top pl ≡ w

near_stands : (pairs top w : ℕ) (a a' : Sight) (pl : Place) → Near a a' → StandsIn pairs a top pl w → StandsIn pairs a' top pl w
near_stands pairs top w a a' pl n s = record { fits = s.fits; word = near_place a a' top pl n ∙ s.word }

-- ---- outcomes of a step

-- A place is set.
pub record DoesSet (p : Runnable) (size : ℕ) (code : List Instr) (a : Sight) (top : ℕ) (pl : Place) (v : ℕ) : Type 0 where
  pub now : Sight
  pub does : Does p size code a now
  pub sets : SetsPlace a now top pl v

-- Nothing is changed but scratch registers.
pub record DoesPass (p : Runnable) (size : ℕ) (code : List Instr) (a : Sight) : Type 0 where
  pub now : Sight
  pub does : Does p size code a now
  pub near : Near a now

pub pass_then : (p : Runnable) (size : ℕ) (c e : List Instr) (a : Sight) → (f : DoesPass p size c a) → DoesPass p size e f.now → DoesPass p size (c ++ e) a
pass_then p size c e a f g = record { now = g.now; does = does_then p size c e a f.now g.now f.does g.does; near = near_then a f.now g.now f.near g.near }

set_by : (p : Runnable) (size pairs top v : ℕ) (c : List Instr) (a m : Sight) (pl : Place) → Near a m → Frame size pairs top m → PlaceFits pairs pl → Does p size c a (put m (target pl) v) → DoesSet p size (c ++ kept pl) a top pl v
set_by p size pairs top v c a m pl n f fits g = record {
  now = keep m top pl v;
  does = does_then p size c (kept pl) a (put m (target pl) v) (keep m top pl v) g (does_kept p size pairs top v pl m f fits);
  sets = keep_sets a m top v pl n;
}

-- ---- Constant

pub constant_step : (p : Runnable) (size pairs top w : ℕ) (to : Place) (a : Sight) → Frame size pairs top a → PlaceFits pairs to → w < 2 ^ 32 → DoesSet p size (constant (target to) w ++ kept to) a top to w
constant_step p size pairs top w to a f fits small = set_by p size pairs top w (constant (target to) w) a a to (near_self a) f fits (does_constant p size (target to) w a (target_free pairs to fits) small)

-- ---- Copy

ne_false : (m n : ℕ) → m ≢ n → (m == n) ≡ false
ne_false m n h = grind arith

eq_self : (n : ℕ) → (n == n) ≡ true
eq_self n = grind arith

-- a cell of the frame is set
pub slot_sets : (a m : Sight) (top s v w : ℕ) → v ≡ w → Near a m → SetsPlace a (set_cell m (top + (s + 1)) v) top (Slot s) w
slot_sets a m top s v w e k = record {
  there = ap (λ (x : Bool). cond x v (m.cell (top + (s + 1)))) (eq_self (top + (s + 1))) ∙ e;
  file = λ r l h. k.file r l;
  cell = λ c h. ap (λ (x : Bool). cond x v (m.cell c)) (ne_false c (top + (s + 1)) h) ∙ k.cell c;
  feed = k.feed;
  fed = k.fed;
}

-- a store of what stands in a place to a cell of the frame
slot_store : (p : Runnable) (size pairs top s w : ℕ) (from : Place) (a : Sight) → Frame size pairs top a → s + 1 < pairs → StandsIn pairs a top from w → DoesSet p size (fetched from 0 ++ store (source from 0) Stack (slot_offset s)) a top (Slot s) w
slot_store p size pairs top s w from a f fits st =
    let m : Sight = fetch a top from 0 in
    let n : Near a m = fetch_near a top from 0 Rattle.std.proofs.Common.zero-le in
    let r : Role = source from 0 in
    record {
      now = set_cell m (top + (s + 1)) (m.file r);
      does = does_then p size (fetched from 0) (store r Stack (slot_offset s)) a m (set_cell m (top + (s + 1)) (m.file r))
          (does_fetched p size pairs top 0 from a Rattle.std.proofs.Common.zero-le f st.fits)
          (does_store p size r Stack (slot_offset s) (top + (s + 1)) m (source_fits pairs from 0 Rattle.std.proofs.Common.zero-le st.fits) (slot_leads size pairs top s m (near_frame size pairs top a m n f) fits));
      sets = slot_sets a m top s (m.file r) w (fetch_word a top from 0 ∙ st.word) n;
    }

pub copy_step : (p : Runnable) (size pairs top w : ℕ) (to from : Place) (a : Sight) → Frame size pairs top a → PlaceFits pairs to → StandsIn pairs a top from w → AreWords a → DoesSet p size (copy_code to from) a top to w
copy_step p size pairs top w (Pair k) from a f fits st ws = record {
  now = keep a top (Pair k) (in_place a top from);
  does = does_brought p size pairs top from (Value (k + 2)) a (target_free pairs (Pair k) fits) f st.fits ws;
  sets = subst (λ (z : ℕ). SetsPlace a (keep a top (Pair k) (in_place a top from)) top (Pair k) z) st.word (keep_sets a a top (in_place a top from) (Pair k) (near_self a));
}
copy_step p size pairs top w (Slot s) from a f fits st ws = slot_store p size pairs top s w from a f fits st

-- ---- tests of a variable

-- the end of the test
pub fetched_test : (p : Runnable) (size pairs top scratch w code : ℕ) (pl : Place) (a : Sight) → scratch ≤ 1 → Frame size pairs top a → StandsIn pairs a top pl w → w ≢ 0 → DoesPass p size (fetched pl scratch ++ test (source pl scratch) code) a
fetched_test p size pairs top scratch w code pl a h f st z =
    let m : Sight = fetch a top pl scratch in
    record {
      now = m;
      does = does_then p size (fetched pl scratch) (test (source pl scratch) code) a m m (does_fetched p size pairs top scratch pl a h f st.fits)
          (does_test p size (source pl scratch) code m (source_fits pairs pl scratch h st.fits) (λ e. z (sym (fetch_word a top pl scratch ∙ st.word) ∙ e)));
      near = fetch_near a top pl scratch h;
    }

pub fetched_trap : (p : Runnable) (size pairs top scratch w code : ℕ) (pl : Place) (a : Sight) → scratch ≤ 1 → Frame size pairs top a → StandsIn pairs a top pl w → w ≡ 0 → ((at : ℕ) → machine.break_end at code ≡ Trapped code) → DoesStop p size (fetched pl scratch ++ test (source pl scratch) code) a (Trapped code)
fetched_trap p size pairs top scratch w code pl a h f st z k =
    let m : Sight = fetch a top pl scratch in
    stops_then p size (fetched pl scratch) (test (source pl scratch) code) a m (Trapped code) (does_fetched p size pairs top scratch pl a h f st.fits)
    (stops_test p size (source pl scratch) code m (source_fits pairs pl scratch h st.fits) (fetch_word a top pl scratch ∙ (st.word ∙ z)) k)

-- ---- Guard

low_small : (n : ℕ) → n < 2 ^ 15 → extended n ≡ n
low_small n h = extended_low n h

abbrev pub guard_code : Place → ℕ → List Instr
guard_code index n = fetched index 0 ++ (each (λ t. mips.Sltiu (reg_in t (Value 0)) (reg_in t (source index 0)) n) ++ test (Value 0) 8)

value_free : (j : ℕ) → j ≤ 1 → RoleFits (Value j)
value_free j h = up j h
  where
    up : (j : ℕ) → j ≤ 1 → j ≤ 5
    up j h = omega arith

-- the comparison with the length
compared : (p : Runnable) (size pairs top w n : ℕ) (index : Place) (a : Sight) → Frame size pairs top a → StandsIn pairs a top index w → n < 2 ^ 15 → Does p size (fetched index 0 ++ each (λ t. mips.Sltiu (reg_in t (Value 0)) (reg_in t (source index 0)) n)) a (put (fetch a top index 0) (Value 0) (truth (nat_lt w n)))
compared p size pairs top w n index a f st small =
    let m : Sight = fetch a top index 0 in
    let is : truth (nat_lt (m.file (source index 0)) (extended n)) ≡ truth (nat_lt w n) = ap (λ (x : ℕ). truth (nat_lt x (extended n))) (fetch_word a top index 0 ∙ st.word) ∙ ap (λ (x : ℕ). truth (nat_lt w x)) (low_small n small) in
    does_then p size (fetched index 0) (each (λ t. mips.Sltiu (reg_in t (Value 0)) (reg_in t (source index 0)) n)) a m (put m (Value 0) (truth (nat_lt w n)))
    (does_fetched p size pairs top 0 index a Rattle.std.proofs.Common.zero-le f st.fits)
    (put_word p size (each (λ t. mips.Sltiu (reg_in t (Value 0)) (reg_in t (source index 0)) n)) m (Value 0) (truth (nat_lt (m.file (source index 0)) (extended n))) (truth (nat_lt w n)) is
    (does_two p size (λ x y. mips.Sltiu x y n) (λ x. truth (nat_lt x (extended n))) (Value 0) (source index 0) m (two_sltiu n) (value_free 0 Rattle.std.proofs.Common.zero-le) (source_fits pairs index 0 Rattle.std.proofs.Common.zero-le st.fits) (truth_small (nat_lt (m.file (source index 0)) (extended n)))))

one_not_zero : (z : Bool) → z ≡ true → truth z ≢ 0
one_not_zero z e = λ f. two (truth z) (ap (λ (x : Bool). truth x) e) f
  where
    two : (n : ℕ) → n ≡ 1 → n ≡ 0 → ⊥
    two n e f = omega arith

re_associated : (p : Runnable) (size : ℕ) (c e g : List Instr) (a a' : Sight) → Does p size ((c ++ e) ++ g) a a' → Does p size (c ++ (e ++ g)) a a'
re_associated p size c e g a a' f = subst (λ (l : List Instr). Does p size l a a') (append_assoc c e g) f

re_stop : (p : Runnable) (size : ℕ) (c e g : List Instr) (a : Sight) (end : End) → DoesStop p size ((c ++ e) ++ g) a end → DoesStop p size (c ++ (e ++ g)) a end
re_stop p size c e g a end f = subst (λ (l : List Instr). DoesStop p size l a end) (append_assoc c e g) f

pub guard_step : (p : Runnable) (size pairs top w n : ℕ) (index : Place) (a : Sight) → Frame size pairs top a → StandsIn pairs a top index w → n < 2 ^ 15 → nat_lt w n ≡ true → DoesPass p size (guard_code index n) a
guard_step p size pairs top w n index a f st small t =
    let m : Sight = put (fetch a top index 0) (Value 0) (truth (nat_lt w n)) in
    let c : List Instr = fetched index 0 in
    let e : List Instr = each (λ t. mips.Sltiu (reg_in t (Value 0)) (reg_in t (source index 0)) n) in
    record {
      now = m;
      does = re_associated p size c e (test (Value 0) 8) a m
          (does_then p size (c ++ e) (test (Value 0) 8) a m m (compared p size pairs top w n index a f st small)
          (does_test p size (Value 0) 8 m Rattle.std.proofs.Common.zero-le (λ z. one_not_zero (nat_lt w n) t (sym (put_there (fetch a top index 0) (Value 0) (truth (nat_lt w n))) ∙ z))));
      near = near_then a (fetch a top index 0) m (fetch_near a top index 0 Rattle.std.proofs.Common.zero-le) (near_put (fetch a top index 0) 0 (truth (nat_lt w n)) Rattle.std.proofs.Common.zero-le);
    }

pub guard_trap : (p : Runnable) (size pairs top w n : ℕ) (index : Place) (a : Sight) → Frame size pairs top a → StandsIn pairs a top index w → n < 2 ^ 15 → nat_lt w n ≡ false → DoesStop p size (guard_code index n) a (Trapped 8)
guard_trap p size pairs top w n index a f st small t =
    let m : Sight = put (fetch a top index 0) (Value 0) (truth (nat_lt w n)) in
    let c : List Instr = fetched index 0 in
    let e : List Instr = each (λ t. mips.Sltiu (reg_in t (Value 0)) (reg_in t (source index 0)) n) in
    re_stop p size c e (test (Value 0) 8) a (Trapped 8)
    (stops_then p size (c ++ e) (test (Value 0) 8) a m (Trapped 8) (compared p size pairs top w n index a f st small)
    (stops_test p size (Value 0) 8 m Rattle.std.proofs.Common.zero-le (put_there (fetch a top index 0) (Value 0) (truth (nat_lt w n)) ∙ ap (λ (z : Bool). truth z) t) (λ at. refl)))

-- ---- Operate

-- Code that makes a word in the first scratch register.
pub record Works (p : Runnable) (size : ℕ) (code : List Instr) (a : Sight) (n : ℕ) : Type 0 where
  pub now : Sight
  pub does : Does p size code a now
  pub near : Near a now
  pub word : now.file (Value 0) ≡ n
  pub small : n < 2 ^ 32

-- an operation of that register with a variable
works_on : (p : Runnable) (size pairs top n w : ℕ) (c : List Instr) (a : Sight) (pl : Place) → Works p size c a n → Frame size pairs top a → StandsIn pairs a top pl w → w < 2 ^ 32 →
    Works p size (c ++ (fetched pl 1 ++ three mips.Xor (Value 0) (Value 0) (source pl 1))) a (bit_xor n w)
works_on p size pairs top n w c a pl k f st small =
    let m : Sight = fetch k.now top pl 1 in
    let f1 : Frame size pairs top k.now = near_frame size pairs top a k.now k.near f in
    let s1 : StandsIn pairs k.now top pl w = near_stands pairs top w a k.now pl k.near st in
    let left : m.file (Value 0) ≡ n = fetch_keeps k.now top pl ∙ k.word in
    let right : m.file (source pl 1) ≡ w = fetch_word k.now top pl 1 ∙ s1.word in
    let is : bit_xor (m.file (Value 0)) (m.file (source pl 1)) ≡ bit_xor n w = ap (λ (x : ℕ). bit_xor x (m.file (source pl 1))) left ∙ ap (λ (x : ℕ). bit_xor n x) right in
    let small' : bit_xor n w < 2 ^ 32 = xor_lt 32 n w k.small small in
    record {
      now = put m (Value 0) (bit_xor n w);
      does = does_then p size c (fetched pl 1 ++ three mips.Xor (Value 0) (Value 0) (source pl 1)) a k.now (put m (Value 0) (bit_xor n w)) k.does
          (does_then p size (fetched pl 1) (three mips.Xor (Value 0) (Value 0) (source pl 1)) k.now m (put m (Value 0) (bit_xor n w))
          (does_fetched p size pairs top 1 pl k.now (le_refl 1) f1 s1.fits)
          (put_word p size (three mips.Xor (Value 0) (Value 0) (source pl 1)) m (Value 0) (bit_xor (m.file (Value 0)) (m.file (source pl 1))) (bit_xor n w) is
          (does_three p size mips.Xor bit_xor (Value 0) (Value 0) (source pl 1) m three_xor (value_free 0 Rattle.std.proofs.Common.zero-le) (value_free 0 Rattle.std.proofs.Common.zero-le) (source_fits pairs pl 1 (le_refl 1) s1.fits) (subst (λ (x : ℕ). x < 2 ^ 32) (sym is) small'))));
      near = near_then a k.now (put m (Value 0) (bit_xor n w)) k.near (near_then k.now m (put m (Value 0) (bit_xor n w)) (fetch_near k.now top pl 1 (le_refl 1)) (near_put m 0 (bit_xor n w) Rattle.std.proofs.Common.zero-le));
      word = put_there m (Value 0) (bit_xor n w);
      small = small';
    }
  where
    fetch_keeps : (a : Sight) (top : ℕ) (pl : Place) → (fetch a top pl 1).file (Value 0) ≡ a.file (Value 0)
    fetch_keeps a top (Pair k) = refl
    fetch_keeps a top (Slot s) = refl

abbrev complement : ℕ → ℕ
complement w = 2 ^ 32 - 1 - bit_or w 0

complement_small : (w : ℕ) → complement w < 2 ^ 32
complement_small w = below_top (bit_or w 0)
  where
    below_top : (n : ℕ) → 2 ^ 32 - 1 - n < 2 ^ 32
    below_top n = omega arith

-- and with the complement of another
works_or : (p : Runnable) (size pairs top n w : ℕ) (c : List Instr) (a : Sight) (pl : Place) → Works p size c a n → Frame size pairs top a → StandsIn pairs a top pl w →
    Works p size (c ++ (fetched pl 1 ++ (each (λ t. mips.Nor (reg_in t (Value 1)) (reg_in t (source pl 1)) 0) ++ three mips.Or (Value 0) (Value 0) (Value 1)))) a (bit_or n (complement w))
works_or p size pairs top n w c a pl k f st =
    let m : Sight = fetch k.now top pl 1 in
    let f1 : Frame size pairs top k.now = near_frame size pairs top a k.now k.near f in
    let s1 : StandsIn pairs k.now top pl w = near_stands pairs top w a k.now pl k.near st in
    let nor : List Instr = each (λ t. mips.Nor (reg_in t (Value 1)) (reg_in t (source pl 1)) 0) in
    let or : List Instr = three mips.Or (Value 0) (Value 0) (Value 1) in
    let isn : complement (m.file (source pl 1)) ≡ complement w = ap (λ (x : ℕ). complement x) (fetch_word k.now top pl 1 ∙ s1.word) in
    let q : Sight = put m (Value 1) (complement w) in
    let left : q.file (Value 0) ≡ n = fetch_keeps k.now top pl ∙ k.word in
    let v : ℕ = bit_or n (complement w) in
    let is : bit_or (q.file (Value 0)) (q.file (Value 1)) ≡ v = ap (λ (x : ℕ). bit_or x (q.file (Value 1))) left in
    let small' : v < 2 ^ 32 = or_lt 32 n (complement w) k.small (complement_small w) in
    let e : Sight = put q (Value 0) v in
    record {
      now = e;
      does = does_then p size c (fetched pl 1 ++ (nor ++ or)) a k.now e k.does
          (does_then p size (fetched pl 1) (nor ++ or) k.now m e (does_fetched p size pairs top 1 pl k.now (le_refl 1) f1 s1.fits)
          (does_then p size nor or m q e
          (put_word p size nor m (Value 1) (complement (m.file (source pl 1))) (complement w) isn (does_two p size (λ x y. mips.Nor x y 0) complement (Value 1) (source pl 1) m two_nor (value_free 1 (le_refl 1)) (source_fits pairs pl 1 (le_refl 1) s1.fits) (complement_small (m.file (source pl 1)))))
          (put_word p size or q (Value 0) (bit_or (q.file (Value 0)) (q.file (Value 1))) v is (does_three p size mips.Or bit_or (Value 0) (Value 0) (Value 1) q three_or (value_free 0 Rattle.std.proofs.Common.zero-le) (value_free 0 Rattle.std.proofs.Common.zero-le) (value_free 1 (le_refl 1)) (subst (λ (x : ℕ). x < 2 ^ 32) (sym is) small')))));
      near = near_then a k.now e k.near (near_then k.now m e (fetch_near k.now top pl 1 (le_refl 1)) (near_then m q e (near_put m 1 (complement w) (le_refl 1)) (near_put q 0 v Rattle.std.proofs.Common.zero-le)));
      word = put_there q (Value 0) v;
      small = small';
    }
  where
    fetch_keeps : (a : Sight) (top : ℕ) (pl : Place) → (fetch a top pl 1).file (Value 0) ≡ a.file (Value 0)
    fetch_keeps a top (Pair k) = refl
    fetch_keeps a top (Slot s) = refl

abbrev overflow_word : ℕ → ℕ → ℕ
overflow_word x y = bit_or (bit_xor (2 ^ 31) x) (complement y)

-- the code before the test of a quotient with sign
abbrev overflow_code : Place → Place → List Instr
overflow_code left right =
    (each (λ t. mips.Lui (reg_in t (Value 0)) (2 ^ 15)) ++ (fetched left 1 ++ three mips.Xor (Value 0) (Value 0) (source left 1))) ++
    (fetched right 1 ++ (each (λ t. mips.Nor (reg_in t (Value 1)) (reg_in t (source right 1)) 0) ++ three mips.Or (Value 0) (Value 0) (Value 1)))

overflow_made : (p : Runnable) (size pairs top x y : ℕ) (left right : Place) (a : Sight) → Frame size pairs top a → StandsIn pairs a top left x → StandsIn pairs a top right y → x < 2 ^ 32 → Works p size (overflow_code left right) a (overflow_word x y)
overflow_made p size pairs top x y left right a f sx sy small =
    works_or p size pairs top (bit_xor (2 ^ 31) x) y (each (λ t. mips.Lui (reg_in t (Value 0)) (2 ^ 15)) ++ (fetched left 1 ++ three mips.Xor (Value 0) (Value 0) (source left 1))) a right
    (works_on p size pairs top (2 ^ 31) x (each (λ t. mips.Lui (reg_in t (Value 0)) (2 ^ 15))) a left
    (record {
      now = put a (Value 0) (2 ^ 31);
      does = does_zero p size (λ x y. mips.Lui x (2 ^ 15)) (λ x. 2 ^ 15 * 2 ^ 16) (Value 0) a (two_lui (2 ^ 15)) (value_free 0 Rattle.std.proofs.Common.zero-le) (omega arith);
      near = near_put a 0 (2 ^ 31) Rattle.std.proofs.Common.zero-le;
      word = put_there a (Value 0) (2 ^ 31);
      small = omega arith;
    }) f sx small) f sy

-- as the pass writes it
quotient_is : (left right : Place) → overflow_code left right ++ test (Value 0) 6 ≡ quotient_test left right
quotient_is left right =
    let l : List Instr = each (λ t. mips.Lui (reg_in t (Value 0)) (2 ^ 15)) in
    let x : List Instr = three mips.Xor (Value 0) (Value 0) (source left 1) in
    let n : List Instr = each (λ t. mips.Nor (reg_in t (Value 1)) (reg_in t (source right 1)) 0) in
    let o : List Instr = three mips.Or (Value 0) (Value 0) (Value 1) in
    let t : List Instr = test (Value 0) 6 in
    append_assoc (l ++ (fetched left 1 ++ x)) (fetched right 1 ++ (n ++ o)) t ∙
    (append_assoc l (fetched left 1 ++ x) ((fetched right 1 ++ (n ++ o)) ++ t) ∙
    (ap (λ (z : List Instr). l ++ z) (append_assoc (fetched left 1) x ((fetched right 1 ++ (n ++ o)) ++ t)) ∙
    ap (λ (z : List Instr). l ++ (fetched left 1 ++ (x ++ z))) (append_assoc (fetched right 1) (n ++ o) t)))

xor_zero : (x y : ℕ) → bit_xor x y ≡ 0 → x ≡ y
xor_zero x y h = omega (arith, xor_add_and x y, and_le_l x y, and_le_r x y)

none_left : (n m k : ℕ) → n ≤ k → m ≤ k → k ≡ 0 → (n ≡ 0) × (m ≡ 0)
none_left n m k h l e = (omega arith, omega arith)

top_word : (w : ℕ) → w < 2 ^ 32 → 2 ^ 32 - 1 - w ≡ 0 → w ≡ 2 ^ 32 - 1
top_word w h e = omega arith

-- the word is 0 exactly where the quotient doesn't fit
overflows : (x y : ℕ) → y < 2 ^ 32 → overflow_word x y ≡ 0 → (x == 2 ^ 31 && y == 2 ^ 32 - 1) ≡ true
overflows x y h e =
    let z : (bit_xor (2 ^ 31) x ≡ 0) × (complement y ≡ 0) = none_left (bit_xor (2 ^ 31) x) (complement y) (overflow_word x y) (le_or_l (bit_xor (2 ^ 31) x) (complement y)) (le_or_r (bit_xor (2 ^ 31) x) (complement y)) e in
    rw (sym (xor_zero (2 ^ 31) x z.0), top_word y h (ap (λ (n : ℕ). 2 ^ 32 - 1 - n) (sym (or_zero_r y)) ∙ z.1)) refl

and_parts : (x y : ℕ) → (x == 2 ^ 31 && y == 2 ^ 32 - 1) ≡ true → (x ≡ 2 ^ 31) × (y ≡ 2 ^ 32 - 1)
and_parts x y h = (and_first x (y == 2 ^ 32 - 1) h, and_second (x == 2 ^ 31) y h)
  where
    and_first : (x : ℕ) (z : Bool) → (x == 2 ^ 31 && z) ≡ true → x ≡ 2 ^ 31
    and_first x z h = grind arith

    and_second : (z : Bool) (y : ℕ) → (z && y == 2 ^ 32 - 1) ≡ true → y ≡ 2 ^ 32 - 1
    and_second z y h = grind arith

overflow_zero : (x y : ℕ) → (x == 2 ^ 31 && y == 2 ^ 32 - 1) ≡ true → overflow_word x y ≡ 0
overflow_zero x y h = rw ((and_parts x y h).0, (and_parts x y h).1) refl

quotient_pass : (p : Runnable) (size pairs top x y : ℕ) (left right : Place) (a : Sight) → Frame size pairs top a → StandsIn pairs a top left x → StandsIn pairs a top right y → x < 2 ^ 32 → y < 2 ^ 32 → (x == 2 ^ 31 && y == 2 ^ 32 - 1) ≡ false → DoesPass p size (quotient_test left right) a
quotient_pass p size pairs top x y left right a f sx sy hx hy fine =
    let k : Works p size (overflow_code left right) a (overflow_word x y) = overflow_made p size pairs top x y left right a f sx sy hx in
    record {
      now = k.now;
      does = subst (λ (l : List Instr). Does p size l a k.now) (quotient_is left right)
          (does_then p size (overflow_code left right) (test (Value 0) 6) a k.now k.now k.does
          (does_test p size (Value 0) 6 k.now Rattle.std.proofs.Common.zero-le (λ z. Rattle.std.proofs.Common.true≢false (sym (overflows x y hy (sym k.word ∙ z)) ∙ fine))));
      near = k.near;
    }

quotient_trap : (p : Runnable) (size pairs top x y : ℕ) (left right : Place) (a : Sight) → Frame size pairs top a → StandsIn pairs a top left x → StandsIn pairs a top right y → x < 2 ^ 32 → (x == 2 ^ 31 && y == 2 ^ 32 - 1) ≡ true → DoesStop p size (quotient_test left right) a (Trapped 6)
quotient_trap p size pairs top x y left right a f sx sy hx over =
    let k : Works p size (overflow_code left right) a (overflow_word x y) = overflow_made p size pairs top x y left right a f sx sy hx in
    subst (λ (l : List Instr). DoesStop p size l a (Trapped 6)) (quotient_is left right)
    (stops_then p size (overflow_code left right) (test (Value 0) 6) a k.now (Trapped 6) k.does
    (stops_test p size (Value 0) 6 k.now Rattle.std.proofs.Common.zero-le (k.word ∙ overflow_zero x y over) (λ at. refl)))

-- what the tests of an operation come to
err_same : (x y : ℕ) → ◌≡◌ {A = Result ℕ ℕ} (Err x) (Err y) → x ≡ y
err_same x y e = ap (λ (r : Result ℕ ℕ). elim r as (λ z. ℕ) [ Ok v ↦ 0 | Err k ↦ k ]) e

ok_err : (v k : ℕ) → ◌≡◌ {A = Result ℕ ℕ} (Ok v) (Err k) → ⊥
ok_err v k e = cc

eq_is : (m n : ℕ) → (m == n) ≡ true → m ≡ n
eq_is m n h = grind arith

eq_not : (m n : ℕ) → (m == n) ≡ false → m ≢ n
eq_not m n h = grind arith

-- the outcome of a test, by the result of the operation
abbrev Tested : Runnable → ℕ → List Instr → Sight → Result ℕ ℕ → Type 0
Tested p size code a r = ((v : ℕ) → r ≡ Ok v → DoesPass p size code a) × ((k : ℕ) → r ≡ Err k → DoesStop p size code a (Trapped k))

untested : (p : Runnable) (size x : ℕ) (a : Sight) → Tested p size [] a (Ok x)
untested p size x a = (λ v e. record { now = a; does = does_nothing p size a; near = near_self a }, λ k e. absurd (ok_err x k e))

divisor_tested : (p : Runnable) (size pairs top y r : ℕ) (right : Place) (a : Sight) → Frame size pairs top a → StandsIn pairs a top right y → Tested p size (divisor_test right) a (by_non_zero y r)
divisor_tested p size pairs top y r right a f st = elim (y == 0) as (λ z. (y == 0) ≡ z → Tested p size (divisor_test right) a (cond z (Err 7) (Ok r))) [
  | true ↦ λ e. (λ v g. absurd (err_not 7 v g), λ k g. subst (λ (n : ℕ). DoesStop p size (divisor_test right) a (Trapped n)) (err_same 7 k g) (fetched_trap p size pairs top 1 y 7 right a (le_refl 1) f st (eq_is y 0 e) (λ at. refl)))
  | false ↦ λ e. (λ v g. fetched_test p size pairs top 1 y 7 right a (le_refl 1) f st (eq_not y 0 e), λ k g. absurd (ok_err r k g))
] refl
  where
    err_not : (k v : ℕ) → ◌≡◌ {A = Result ℕ ℕ} (Err k) (Ok v) → ⊥
    err_not k v e = cc

signed_tested : (p : Runnable) (size pairs top x y r : ℕ) (left right : Place) (a : Sight) → Frame size pairs top a → StandsIn pairs a top left x → StandsIn pairs a top right y → x < 2 ^ 32 → y < 2 ^ 32 → Tested p size (divisor_test right ++ quotient_test left right) a (with_sign x y r)
signed_tested p size pairs top x y r left right a f sx sy hx hy = elim (y == 0) as (λ z. (y == 0) ≡ z → Tested p size code a (cond z (Err 7) (cond (x == 2 ^ 31 && y == 2 ^ 32 - 1) (Err 6) (Ok r)))) [
  | true ↦ λ e. (
    λ v g. absurd (err_not 7 v g),
    λ k g. subst (λ (n : ℕ). DoesStop p size code a (Trapped n)) (err_same 7 k g)
        (stops_early p size (divisor_test right) (quotient_test left right) a (Trapped 7) (fetched_trap p size pairs top 1 y 7 right a (le_refl 1) f sy (eq_is y 0 e) (λ at. refl))),
  )
  | false ↦ λ e.
      let first : DoesPass p size (divisor_test right) a = fetched_test p size pairs top 1 y 7 right a (le_refl 1) f sy (eq_not y 0 e) in
      let f1 : Frame size pairs top first.now = near_frame size pairs top a first.now first.near f in
      let sx1 : StandsIn pairs first.now top left x = near_stands pairs top x a first.now left first.near sx in
      let sy1 : StandsIn pairs first.now top right y = near_stands pairs top y a first.now right first.near sy in
      elim (x == 2 ^ 31 && y == 2 ^ 32 - 1) as (λ z. (x == 2 ^ 31 && y == 2 ^ 32 - 1) ≡ z → Tested p size code a (cond z (Err 6) (Ok r))) [
        | true ↦ λ g. (
          λ v h. absurd (err_not 6 v h),
          λ k h. subst (λ (n : ℕ). DoesStop p size code a (Trapped n)) (err_same 6 k h)
              (stops_then p size (divisor_test right) (quotient_test left right) a first.now (Trapped 6) first.does (quotient_trap p size pairs top x y left right first.now f1 sx1 sy1 hx g)),
        )
        | false ↦ λ g. (λ v h. pass_then p size (divisor_test right) (quotient_test left right) a first (quotient_pass p size pairs top x y left right first.now f1 sx1 sy1 hx hy g), λ k h. absurd (ok_err r k h))
      ] refl
] refl
  where
    code : List Instr
    code = divisor_test right ++ quotient_test left right

    err_not : (k v : ℕ) → ◌≡◌ {A = Result ℕ ℕ} (Err k) (Ok v) → ⊥
    err_not k v e = cc

pub tested : (p : Runnable) (size pairs top x y : ℕ) (o : MidOp) (left right : Place) (a : Sight) → Frame size pairs top a → StandsIn pairs a top left x → StandsIn pairs a top right y → x < 2 ^ 32 → y < 2 ^ 32 → Tested p size (operation_tests o left right) a (operate o x y)
tested p size pairs top x y op.Add left right a f sx sy hx hy = untested p size ((x + y) % 2 ^ 32) a
tested p size pairs top x y op.Sub left right a f sx sy hx hy = untested p size ((x + (2 ^ 32 - y)) % 2 ^ 32) a
tested p size pairs top x y op.Mul left right a f sx sy hx hy = untested p size ((x * y) % 2 ^ 32) a
tested p size pairs top x y op.Div left right a f sx sy hx hy = signed_tested p size pairs top x y (cast_unsigned Rattle.std.proofs.Common.w32 (int_div (signed x) (signed y))) left right a f sx sy hx hy
tested p size pairs top x y op.DivU left right a f sx sy hx hy = divisor_tested p size pairs top y (x / y) right a f sy
tested p size pairs top x y op.Rem left right a f sx sy hx hy = signed_tested p size pairs top x y (cast_unsigned Rattle.std.proofs.Common.w32 (int_rem (signed x) (signed y))) left right a f sx sy hx hy
tested p size pairs top x y op.RemU left right a f sx sy hx hy = divisor_tested p size pairs top y (x % y) right a f sy
tested p size pairs top x y op.Shl left right a f sx sy hx hy = untested p size ((x * 2 ^ (y % 32)) % 2 ^ 32) a
tested p size pairs top x y op.Shr left right a f sx sy hx hy = untested p size (x / 2 ^ (y % 32)) a
tested p size pairs top x y op.Sar left right a f sx sy hx hy = untested p size (Rattle.hard_words.specs.Words.signed_shift x y) a
tested p size pairs top x y op.And left right a f sx sy hx hy = untested p size (Rattle.std.specs.Prelude.bit_and x y) a
tested p size pairs top x y op.Or left right a f sx sy hx hy = untested p size (bit_or x y) a
tested p size pairs top x y op.Xor left right a f sx sy hx hy = untested p size (bit_xor x y) a
tested p size pairs top x y op.Lt left right a f sx sy hx hy = untested p size (truth (Rattle.std.specs.Prelude.int_lt (signed x) (signed y))) a
tested p size pairs top x y op.LtU left right a f sx sy hx hy = untested p size (truth (nat_lt x y)) a
tested p size pairs top x y op.Eq left right a f sx sy hx hy = untested p size (truth (x == y)) a
tested p size pairs top x y op.Ne left right a f sx sy hx hy = untested p size (truth (not (x == y))) a

-- ---- the whole of Operate

abbrev pub operate_code : MidOp → Place → Place → Place → List Instr
operate_code o to left right = operation_tests o left right ++ (fetched left 0 ++ (fetched right 1 ++ (operation o (target to) (source left 0) (source right 1) ++ kept to)))

pub operate_step : (p : Runnable) (size pairs top x y v : ℕ) (o : MidOp) (to left right : Place) (a : Sight) → Frame size pairs top a → PlaceFits pairs to → StandsIn pairs a top left x → StandsIn pairs a top right y → x < 2 ^ 32 → y < 2 ^ 32 → operate o x y ≡ Ok v → DoesSet p size (operate_code o to left right) a top to v
operate_step p size pairs top x y v o to left right a f fits sx sy hx hy e =
    let first : DoesPass p size (operation_tests o left right) a = (tested p size pairs top x y o left right a f sx sy hx hy).0 v e in
    let a1 : Sight = first.now in
    let f1 : Frame size pairs top a1 = near_frame size pairs top a a1 first.near f in
    let sx1 : StandsIn pairs a1 top left x = near_stands pairs top x a a1 left first.near sx in
    let a2 : Sight = fetch a1 top left 0 in
    let n2 : Near a1 a2 = fetch_near a1 top left 0 Rattle.std.proofs.Common.zero-le in
    let f2 : Frame size pairs top a2 = near_frame size pairs top a1 a2 n2 f1 in
    let sy2 : StandsIn pairs a2 top right y = near_stands pairs top y a a2 right (near_then a a1 a2 first.near n2) sy in
    let a3 : Sight = fetch a2 top right 1 in
    let n3 : Near a a3 = near_then a a2 a3 (near_then a a1 a2 first.near n2) (fetch_near a2 top right 1 (le_refl 1)) in
    let is : operate o (a3.file (source left 0)) (a3.file (source right 1)) ≡ Ok v =
    ap (λ (n : ℕ). operate o n (a3.file (source right 1))) (fetch_both a1 top left right ∙ sx1.word) ∙ (ap (λ (n : ℕ). operate o x n) (fetch_word a2 top right 1 ∙ sy2.word) ∙ e) in
    let main : List Instr = operation o (target to) (source left 0) (source right 1) in
    let made : Does p size main a3 (put a3 (target to) v) = with_words p size main a3 (put a3 (target to) v) (λ w. does_operation p size o (target to) (source left 0) (source right 1) a3 v (target_free pairs to fits) (source_fits pairs left 0 Rattle.std.proofs.Common.zero-le sx.fits) (source_fits pairs right 1 (le_refl 1) sy.fits) w is) in
    record {
      now = keep a3 top to v;
      does = does_then p size (operation_tests o left right) (fetched left 0 ++ (fetched right 1 ++ (main ++ kept to))) a a1 (keep a3 top to v) first.does
          (does_then p size (fetched left 0) (fetched right 1 ++ (main ++ kept to)) a1 a2 (keep a3 top to v) (does_fetched p size pairs top 0 left a1 Rattle.std.proofs.Common.zero-le f1 sx1.fits)
          (does_then p size (fetched right 1) (main ++ kept to) a2 a3 (keep a3 top to v) (does_fetched p size pairs top 1 right a2 (le_refl 1) f2 sy2.fits)
          (does_then p size main (kept to) a3 (put a3 (target to) v) (keep a3 top to v) made (does_kept p size pairs top v to a3 (near_frame size pairs top a a3 n3 f) fits))));
      sets = keep_sets a a3 top v to n3;
    }

pub operate_trap : (p : Runnable) (size pairs top x y k : ℕ) (o : MidOp) (to left right : Place) (a : Sight) → Frame size pairs top a → StandsIn pairs a top left x → StandsIn pairs a top right y → x < 2 ^ 32 → y < 2 ^ 32 → operate o x y ≡ Err k → DoesStop p size (operate_code o to left right) a (Trapped k)
operate_trap p size pairs top x y k o to left right a f sx sy hx hy e =
    stops_early p size (operation_tests o left right) (fetched left 0 ++ (fetched right 1 ++ (operation o (target to) (source left 0) (source right 1) ++ kept to))) a (Trapped k) ((tested p size pairs top x y o left right a f sx sy hx hy).1 k e)

-- ---- globals

high_offset : (n : ℕ) → 2 ^ 15 ≤ n → n < 2 ^ 16 → extended n ≡ n + (2 ^ 32 - 2 ^ 16)
high_offset n h k = grind arith

low_sum : (x g i l h : ℕ) → x ≡ (16 * i + (0x10010000 + 16 * g + 2 ^ 15) / 2 ^ 16 * 2 ^ 16) % 2 ^ 32 → g + i < 32768 → l ≡ (0x10010000 + 16 * g) % 2 ^ 16 → l < 2 ^ 15 → h ≤ 2 → (x + (l + 4 * h)) % 2 ^ 32 ≡ 0x10010000 + (16 * (g + i) + 4 * h)
low_sum x g i l h e k f m n = omega arith

high_sum : (x g i l h : ℕ) → x ≡ (16 * i + (0x10010000 + 16 * g + 2 ^ 15) / 2 ^ 16 * 2 ^ 16) % 2 ^ 32 → g + i < 32768 → l ≡ (0x10010000 + 16 * g) % 2 ^ 16 → 2 ^ 15 ≤ l → h ≤ 2 → (x + (l + 4 * h + (2 ^ 32 - 2 ^ 16))) % 2 ^ 32 ≡ 0x10010000 + (16 * (g + i) + 4 * h)
high_sum x g i l h e k f m n = omega arith

low_pair : (g l h : ℕ) → l ≡ (0x10010000 + 16 * g) % 2 ^ 16 → l < 2 ^ 15 → h ≤ 2 → l + 4 * h < 2 ^ 15
low_pair g l h e k m = omega arith

high_pair : (g l h : ℕ) → l ≡ (0x10010000 + 16 * g) % 2 ^ 16 → 2 ^ 15 ≤ l → h ≤ 2 → (2 ^ 15 ≤ l + 4 * h) × (l + 4 * h < 2 ^ 16)
high_pair g l h e k m = (omega arith, omega arith)

off_by : (t : Stream) (g : ℕ) → off_in t (lower (0x10010000 + 16 * g)) ≡ lower (0x10010000 + 16 * g) + 4 * lane t
off_by First g = sym (Rattle.std.proofs.Common.add-zero (lower (0x10010000 + 16 * g)))
off_by Second g = no_carry g (lower (0x10010000 + 16 * g)) refl
  where
    no_carry : (g l : ℕ) → l ≡ (0x10010000 + 16 * g) % 2 ^ 16 → (l + 4) % 2 ^ 16 ≡ l + 4 * 1
    no_carry g l e = omega arith
off_by Third g = no_carry g (lower (0x10010000 + 16 * g)) refl
  where
    no_carry : (g l : ℕ) → l ≡ (0x10010000 + 16 * g) % 2 ^ 16 → (l + 8) % 2 ^ 16 ≡ l + 4 * 2
    no_carry g l e = omega arith

reached_by : (x g i h : ℕ) → x ≡ (16 * i + upper (0x10010000 + 16 * g) * 2 ^ 16) % 2 ^ 32 → g + i < 32768 → h ≤ 2 → plus x (extended (lower (0x10010000 + 16 * g) + 4 * h)) ≡ 0x10010000 + (16 * (g + i) + 4 * h)
reached_by x g i h e k m = elim (Rattle.std.proofs.lemmas.Bool.cases_lt (lower (0x10010000 + 16 * g)) (2 ^ 15)) as (λ z. plus x (extended (lower (0x10010000 + 16 * g) + 4 * h)) ≡ 0x10010000 + (16 * (g + i) + 4 * h)) [
  | inl s ↦ ap (λ (z : ℕ). plus x z) (extended_low (lower (0x10010000 + 16 * g) + 4 * h) (low_pair g (lower (0x10010000 + 16 * g)) h refl s m)) ∙ low_sum x g i (lower (0x10010000 + 16 * g)) h e k refl s m
  | inr s ↦ let q : (2 ^ 15 ≤ lower (0x10010000 + 16 * g) + 4 * h) × (lower (0x10010000 + 16 * g) + 4 * h < 2 ^ 16) = high_pair g (lower (0x10010000 + 16 * g)) h refl s m in
      ap (λ (z : ℕ). plus x z) (high_offset (lower (0x10010000 + 16 * g) + 4 * h) q.0 q.1) ∙ high_sum x g i (lower (0x10010000 + 16 * g)) h e k refl s m
]

-- A register with the address of an element, but for the lower half of the global's.
abbrev pub element_word : ℕ → ℕ → ℕ
element_word g i = (16 * i + upper (0x10010000 + 16 * g) * 2 ^ 16) % 2 ^ 32

-- a base register that leads to the cell of an element
pub element_leads : (size g i : ℕ) (r : Role) (a : Sight) → RoleFits r → a.file r ≡ element_word g i → g + i < size → size ≤ 32768 → LeadsTo size a r (lower (0x10010000 + 16 * g)) (g + i)
element_leads size g i r a pl e k small = record {
  fits = pl;
  below = k;
  at = λ t. ap (λ (z : ℕ). plus (a.file r) (extended z)) (off_by t g) ∙ reached_by (a.file r) g i (lane t) e (Rattle.std.proofs.Common.lt_of_lt_of_le k small) (lane_fits t);
}

base_alone : (g size : ℕ) → g < size → size ≤ 32768 → upper (0x10010000 + 16 * g) * 2 ^ 16 ≡ (16 * 0 + upper (0x10010000 + 16 * g) * 2 ^ 16) % 2 ^ 32
base_alone g size h k = omega arith

upper_small : (g size : ℕ) → g < size → size ≤ 32768 → upper (0x10010000 + 16 * g) * 2 ^ 16 < 2 ^ 32
upper_small g size h k = omega arith

-- A cell has got a word; beside scratch registers nothing else is changed.
pub record SetsCell (a a' : Sight) (c w : ℕ) : Type 0 where
  pub there : a'.cell c ≡ w
  pub file : (r : Role) → IsKept r → a'.file r ≡ a.file r
  pub cell : (q : ℕ) → q ≢ c → a'.cell q ≡ a.cell q
  pub feed : a'.feed ≡ a.feed
  pub fed : a'.fed ≡ a.fed

pub record DoesSetCell (p : Runnable) (size : ℕ) (code : List Instr) (a : Sight) (c w : ℕ) : Type 0 where
  pub now : Sight
  pub does : Does p size code a now
  pub sets : SetsCell a now c w

cell_sets : (a m : Sight) (c v w : ℕ) → v ≡ w → Near a m → SetsCell a (set_cell m c v) c w
cell_sets a m c v w e k = record {
  there = ap (λ (x : Bool). cond x v (m.cell c)) (eq_self c) ∙ e;
  file = λ r l. k.file r l;
  cell = λ q h. ap (λ (x : Bool). cond x v (m.cell q)) (ne_false q c h) ∙ k.cell q;
  feed = k.feed;
  fed = k.fed;
}

-- ---- the address of an element

pub record MakesElement (p : Runnable) (size : ℕ) (code : List Instr) (a : Sight) (to : Role) (n : ℕ) : Type 0 where
  pub now : Sight
  pub does : Does p size code a now
  pub near : Near a now
  pub word : now.file to ≡ n

shifted : (x i : ℕ) → x ≡ i → (x * 2 ^ 4) % 2 ^ 32 ≡ (16 * i) % 2 ^ 32
shifted x i e = omega arith

joined_word : (x y i u : ℕ) → x ≡ (16 * i) % 2 ^ 32 → y ≡ u → (x + y) % 2 ^ 32 ≡ (16 * i + u) % 2 ^ 32
joined_word x y i u e f = omega arith

value_apart : (j k : ℕ) → (j == k) ≡ false → same_role (Value j) (Value k) ≡ false
value_apart j k h = h

pub element_made : (p : Runnable) (size pairs top g i to by : ℕ) (index : Place) (a : Sight) → to ≤ 1 → by ≤ 1 → (to == by) ≡ false → Frame size pairs top a → StandsIn pairs a top index i → g < size → MakesElement p size (element to by index (0x10010000 + 16 * g)) a (Value to) (element_word g i)
element_made p size pairs top g i to by index a ht hb ne f st below =
    let u : ℕ = upper (0x10010000 + 16 * g) * 2 ^ 16 in
    let small : u < 2 ^ 32 = upper_small g size below f.small in
    let m1 : Sight = fetch a top index to in
    let n1 : Near a m1 = fetch_near a top index to ht in
    let x : ℕ = (16 * i) % 2 ^ 32 in
    let m2 : Sight = put m1 (Value to) x in
    let m3 : Sight = put m2 (Value by) u in
    let v : ℕ = (16 * i + u) % 2 ^ 32 in
    let m4 : Sight = put m3 (Value to) v in
    let is1 : (m1.file (source index to) * 2 ^ 4) % 2 ^ 32 ≡ x = shifted (m1.file (source index to)) i (fetch_word a top index to ∙ st.word) in
    let left : m3.file (Value to) ≡ x = put_beside m2 (Value to) (Value by) u (value_apart to by ne) ∙ put_there m1 (Value to) x in
    let right : m3.file (Value by) ≡ u = put_there m2 (Value by) u in
    let is3 : (m3.file (Value to) + m3.file (Value by)) % 2 ^ 32 ≡ v = joined_word (m3.file (Value to)) (m3.file (Value by)) i u left right in
    let sll : List Instr = each (λ t. mips.Sll (reg_in t (Value to)) (reg_in t (source index to)) 4) in
    let lui : List Instr = each (λ t. mips.Lui (reg_in t (Value by)) (upper (0x10010000 + 16 * g))) in
    let add : List Instr = three mips.Addu (Value to) (Value to) (Value by) in
    record {
      now = m4;
      does = does_then p size (fetched index to) (sll ++ (lui ++ add)) a m1 m4 (does_fetched p size pairs top to index a ht f st.fits)
          (does_then p size sll (lui ++ add) m1 m2 m4
          (put_word p size sll m1 (Value to) ((m1.file (source index to) * 2 ^ 4) % 2 ^ 32) x is1 (does_two p size (λ x y. mips.Sll x y 4) (λ x. (x * 2 ^ 4) % 2 ^ 32) (Value to) (source index to) m1 (two_shift 4) (value_free to ht) (source_fits pairs index to ht st.fits) (mod-lt (m1.file (source index to) * 2 ^ 4) (omega arith))))
          (does_then p size lui add m2 m3 m4
          (does_zero p size (λ x y. mips.Lui x (upper (0x10010000 + 16 * g))) (λ x. u) (Value by) m2 (two_lui (upper (0x10010000 + 16 * g))) (value_free by hb) small)
          (put_word p size add m3 (Value to) ((m3.file (Value to) + m3.file (Value by)) % 2 ^ 32) v is3 (does_three p size mips.Addu (λ x y. (x + y) % 2 ^ 32) (Value to) (Value to) (Value by) m3 three_add (value_free to ht) (value_free to ht) (value_free by hb) (mod-lt (m3.file (Value to) + m3.file (Value by)) (omega arith))))));
      near = near_then a m1 m4 n1 (near_then m1 m2 m4 (near_put m1 to x ht) (near_then m2 m3 m4 (near_put m2 by u hb) (near_put m3 to v ht)));
      word = put_there m3 (Value to) v;
    }

-- ---- Load and Store

pub load_step : (p : Runnable) (size pairs top g w : ℕ) (to : Place) (a : Sight) → Frame size pairs top a → PlaceFits pairs to → g < size → a.cell g ≡ w → DoesSet p size (load_code to None (0x10010000 + 16 * g)) a top to w
load_step p size pairs top g w to a f fits below e =
    let r : Role = target to in
    let u : ℕ = upper (0x10010000 + 16 * g) * 2 ^ 16 in
    let lui : List Instr = each (λ t. mips.Lui (reg_in t r) (upper (0x10010000 + 16 * g))) in
    let ld : List Instr = load r r (lower (0x10010000 + 16 * g)) in
    let a1 : Sight = put a r u in
    let zero_more : g + 0 ≡ g = Rattle.std.proofs.Common.add-zero g in
    let leads : LeadsTo size a1 r (lower (0x10010000 + 16 * g)) g = subst (λ (c : ℕ). LeadsTo size a1 r (lower (0x10010000 + 16 * g)) c) zero_more
    (element_leads size g 0 r a1 (target_free pairs to fits) (put_there a r u ∙ base_alone g size below f.small) (subst (λ (c : ℕ). c < size) (sym zero_more) below) f.small) in
    let fr : RoleFits r = target_free pairs to fits in
    let loaded : Does p size ld a1 (put a1 r w) = subst (λ (z : ℕ). Does p size ld a1 (put a1 r z)) e (does_load p size r r (lower (0x10010000 + 16 * g)) g a1 fr leads) in
    let c : Does p size (lui ++ ld) a (put a r w) = does_same p size (lui ++ ld) a (put a1 r w) (put a r w)
    (does_then p size lui ld a a1 (put a1 r w) (does_zero p size (λ x y. mips.Lui x (upper (0x10010000 + 16 * g))) (λ x. u) r a (two_lui (upper (0x10010000 + 16 * g))) fr (upper_small g size below f.small)) loaded)
    (put_twice a r u w) in
    let all : DoesSet p size ((lui ++ ld) ++ kept to) a top to w = set_by p size pairs top w (lui ++ ld) a a to (near_self a) f fits c in
    record { now = all.now; does = re_associated p size lui ld (kept to) a all.now all.does; sets = all.sets }

pub load_indexed : (p : Runnable) (size pairs top g i w : ℕ) (to index : Place) (a : Sight) → Frame size pairs top a → PlaceFits pairs to → StandsIn pairs a top index i → g + i < size → a.cell (g + i) ≡ w → DoesSet p size (load_code to (Some index) (0x10010000 + 16 * g)) a top to w
load_indexed p size pairs top g i w to index a f fits st below e =
    let k : MakesElement p size (element 0 1 index (0x10010000 + 16 * g)) a (Value 0) (element_word g i) = element_made p size pairs top g i 0 1 index a Rattle.std.proofs.Common.zero-le (le_refl 1) refl f st (start_below g i size below) in
    let r : Role = target to in
    let el : List Instr = element 0 1 index (0x10010000 + 16 * g) in
    let ld : List Instr = load r (Value 0) (lower (0x10010000 + 16 * g)) in
    let leads : LeadsTo size k.now (Value 0) (lower (0x10010000 + 16 * g)) (g + i) = element_leads size g i (Value 0) k.now (value_free 0 Rattle.std.proofs.Common.zero-le) k.word below f.small in
    let fr : RoleFits r = target_free pairs to fits in
    let e' : k.now.cell (g + i) ≡ w = k.near.cell (g + i) ∙ e in
    let loaded : Does p size ld k.now (put k.now r w) = subst (λ (z : ℕ). Does p size ld k.now (put k.now r z)) e' (does_load p size r (Value 0) (lower (0x10010000 + 16 * g)) (g + i) k.now fr leads) in
    let all : DoesSet p size ((el ++ ld) ++ kept to) a top to w = set_by p size pairs top w (el ++ ld) a k.now to k.near (near_frame size pairs top a k.now k.near f) fits (does_then p size el ld a k.now (put k.now r w) k.does loaded) in
    record { now = all.now; does = re_associated p size el ld (kept to) a all.now all.does; sets = all.sets }
  where
    start_below : (g i size : ℕ) → g + i < size → g < size
    start_below g i size h = omega arith

keeps_one : (a : Sight) (top : ℕ) (pl : Place) → (fetch a top pl 0).file (Value 1) ≡ a.file (Value 1)
keeps_one a top (Pair k) = refl
keeps_one a top (Slot s) = refl

-- a store through the second scratch register
store_through : (p : Runnable) (size pairs top g i w : ℕ) (from : Place) (c : List Instr) (a m : Sight) → Frame size pairs top a → Does p size c a m → Near a m → m.file (Value 1) ≡ element_word g i → StandsIn pairs a top from w → g + i < size → DoesSetCell p size (c ++ (fetched from 0 ++ store (source from 0) (Value 1) (lower (0x10010000 + 16 * g)))) a (g + i) w
store_through p size pairs top g i w from c a m f does n e st below =
    let s1 : StandsIn pairs m top from w = near_stands pairs top w a m from n st in
    let q : Sight = fetch m top from 0 in
    let near : Near a q = near_then a m q n (fetch_near m top from 0 Rattle.std.proofs.Common.zero-le) in
    let r : Role = source from 0 in
    let leads : LeadsTo size q (Value 1) (lower (0x10010000 + 16 * g)) (g + i) = element_leads size g i (Value 1) q (value_free 1 (le_refl 1)) (keeps_one m top from ∙ e) below f.small in
    let st' : List Instr = store r (Value 1) (lower (0x10010000 + 16 * g)) in
    let z : Sight = set_cell q (g + i) (q.file r) in
    record {
      now = z;
      does = does_then p size c (fetched from 0 ++ st') a m z does
          (does_then p size (fetched from 0) st' m q z (does_fetched p size pairs top 0 from m Rattle.std.proofs.Common.zero-le (near_frame size pairs top a m n f) s1.fits)
          (does_store p size r (Value 1) (lower (0x10010000 + 16 * g)) (g + i) q (source_fits pairs from 0 Rattle.std.proofs.Common.zero-le st.fits) leads));
      sets = cell_sets a q (g + i) (q.file r) w (fetch_word m top from 0 ∙ s1.word) near;
    }

pub store_indexed : (p : Runnable) (size pairs top g i w : ℕ) (index from : Place) (a : Sight) → Frame size pairs top a → StandsIn pairs a top index i → StandsIn pairs a top from w → g + i < size → DoesSetCell p size (store_code (Some index) from (0x10010000 + 16 * g)) a (g + i) w
store_indexed p size pairs top g i w index from a f si sf below =
    let k : MakesElement p size (element 1 0 index (0x10010000 + 16 * g)) a (Value 1) (element_word g i) = element_made p size pairs top g i 1 0 index a (le_refl 1) Rattle.std.proofs.Common.zero-le refl f si (start_below g i size below) in
    store_through p size pairs top g i w from (element 1 0 index (0x10010000 + 16 * g)) a k.now f k.does k.near k.word sf below
  where
    start_below : (g i size : ℕ) → g + i < size → g < size
    start_below g i size h = omega arith

pub store_step : (p : Runnable) (size pairs top g w : ℕ) (from : Place) (a : Sight) → Frame size pairs top a → StandsIn pairs a top from w → g < size → DoesSetCell p size (store_code None from (0x10010000 + 16 * g)) a g w
store_step p size pairs top g w from a f sf below =
    let u : ℕ = upper (0x10010000 + 16 * g) * 2 ^ 16 in
    let zero_more : g + 0 ≡ g = Rattle.std.proofs.Common.add-zero g in
    subst (λ (c : ℕ). DoesSetCell p size (store_code None from (0x10010000 + 16 * g)) a c w) zero_more
    (store_through p size pairs top g 0 w from (each (λ t. mips.Lui (reg_in t (Value 1)) (upper (0x10010000 + 16 * g)))) a (put a (Value 1) u) f
    (does_zero p size (λ x y. mips.Lui x (upper (0x10010000 + 16 * g))) (λ x. u) (Value 1) a (two_lui (upper (0x10010000 + 16 * g))) (value_free 1 (le_refl 1)) (upper_small g size below f.small))
    (near_put a 1 u (le_refl 1)) (put_there a (Value 1) u ∙ base_alone g size below f.small) sf (subst (λ (c : ℕ). c < size) (sym zero_more) below))

-- ---- Input and Output

-- The sight with one word of the input less to come.
abbrev pub took : Sight → Sight
took a = record a { fed = a.fed + 1 }

-- A word of the input is taken, and a place is set to it.
pub record DoesSetTaken (p : Runnable) (size : ℕ) (code : List Instr) (a : Sight) (top : ℕ) (pl : Place) (v : ℕ) : Type 0 where
  pub now : Sight
  pub does : Does p size code a now
  pub sets : SetsPlace (took a) now top pl v

-- A word is put out, and nothing changed but scratch registers.
pub record DoesSpeakNear (p : Runnable) (size : ℕ) (code : List Instr) (a : Sight) (w : ℕ) : Type 0 where
  pub now : Sight
  pub does : DoesSpeak p size code a w now
  pub near : Near a now

more_is : (m n : ℕ) → nat_lt m n ≡ true → m < n
more_is m n h = grind arith

pub input_step : (p : Runnable) (size pairs top : ℕ) (to : Place) (a : Sight) → Frame size pairs top a → PlaceFits pairs to → nat_lt a.fed (length a.feed) ≡ true → slice_index a.feed a.fed < 2 ^ 32 → DoesSetTaken p size (input_code (target to) ++ kept to) a top to (slice_index a.feed a.fed)
input_step p size pairs top to a f fits there small =
    let w : ℕ = slice_index a.feed a.fed in
    let fr : RoleFits (target to) = target_free pairs to fits in
    let f1 : Frame size pairs top (took a) = record { stack = f.stack; room = f.room; small = f.small; pairs_fit = f.pairs_fit } in
    record {
      now = keep (took a) top to w;
      does = does_then p size (input_code (target to)) (kept to) a (put (took a) (target to) w) (keep (took a) top to w) (does_input p size (target to) a fr (more_is a.fed (length a.feed) there) small) (does_kept p size pairs top w to (took a) f1 fits);
      sets = keep_sets (took a) (took a) top w to (near_self (took a));
    }

pub output_step : (p : Runnable) (size pairs top w : ℕ) (from : Place) (a : Sight) → Frame size pairs top a → StandsIn pairs a top from w → DoesSpeakNear p size (brought from (Value 0) ++ service_code 1) a w
output_step p size pairs top w from a f st =
    let m : Sight = put a (Value 0) (in_place a top from) in
    let fr : RoleFits (Value 0) = value_free 0 Rattle.std.proofs.Common.zero-le in
    record {
      now = m;
      does = subst (λ (z : ℕ). DoesSpeak p size (brought from (Value 0) ++ service_code 1) a z m) (put_there a (Value 0) (in_place a top from) ∙ st.word)
          (speaks_then p size (brought from (Value 0)) (service_code 1) a m m (m.file (Value 0)) (with_words p size (brought from (Value 0)) a m (λ ws. does_brought p size pairs top from (Value 0) a fr f st.fits ws)) (speaks_out p size m));
      near = near_put a 0 (in_place a top from) Rattle.std.proofs.Common.zero-le;
    }
