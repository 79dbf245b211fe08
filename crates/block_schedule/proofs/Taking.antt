-- In the new order the streams take turns, where no nop is free and each item of a stream touches a register other than $0.
use Rattle.std.proofs.Common.{◌≡◌, ℕ, ◌+◌, ◌%◌, ◌^◌, arith, ap, refl, sym, ◌∙◌, subst, List, [], ◌∷◌, ◌++◌, append_assoc, length, map, replicate, Bool, true, false, cond, not, inl, inr, ⊎_elim}
use Rattle.std.specs.Prelude.{Option, Some, None, ◌⊎◌, ◌==◌, ◌&&◌, ◌||◌, IsTrue, is_some, if◌then◌else◌}
use Rattle.std.specs.List.{list_any}
use Rattle.mips_isa.specs.declared.instr.Instr.{Instr}
use Rattle.mips_isa.specs.declared.instr.Instr.TheVariants as mips
use Rattle.mips_isa.specs.Machine.{is_jump, is_product, reads_of, writes_of, among}
use Rattle.mips_isa.specs.Locality.{is_data, is_move}
use Rattle.mips_text.specs.Text.{used_of}
use Rattle.mips_text.specs.Turns as words
use Rattle.hard_items.specs.declared.code.Class.{Class}
use Rattle.hard_items.specs.declared.code.Class.TheVariants as class
use Rattle.hard_items.specs.declared.code.Fix.TheVariants.{Block, Function}
use Rattle.hard_items.specs.declared.code.Item.{Item}
use Rattle.hard_items.specs.Streams.{is_master, is_shadow, is_stream, shadow_of, touched, nop, plain}
use Rattle.hard_items.specs.Forms.{Each, Form, Alone, Product, Store, Test, Output, Takes, Idle, Close, Jump, Branch, Call, Return, Exit, form_items, close_items, FormFits, CloseFits, MayTouch, check_if, service_number, going, is_value}
use Rattle.hard_items.specs.Counts.{free_nops, free_nops_behind}
use Rattle.block_schedule.specs.declared.unit.Whole.{Whole}
use Rattle.block_schedule.specs.declared.unit.Whole.TheVariants.{One, Two}
use Rattle.block_schedule.specs.Scheduling.{unit_items, in_turn}
use Rattle.block_schedule.specs.Merging.{IsUnit, AllUnits, Merge, done, first, second}
use Rattle.block_schedule.proofs.Parts.{flat, Spaced, nothing, unit, space, Stretched, Parts, part, closing, IsFixed, each_both}
use Rattle.block_schedule.proofs.Counting.{nops_in, free_stretch, free_both, no_slot, old_in}
use Rattle.block_schedule.proofs.Segments.{take_turns, AllPass, Turns, one_run, cut, nothing_turns, nop_turns}

no_true : true ≡ false → ⊥
no_true e = cc

abbrev pub instrs : List Item → List Instr
instrs xs = map (λ (i : Item). i.instr) xs

instrs_both : (xs ys : List Item) → instrs (xs ++ ys) ≡ instrs xs ++ instrs ys
instrs_both [] ys = refl
instrs_both (x ∷ xs) ys = ap (λ (l : List Instr). x.instr ∷ l) (instrs_both xs ys)

-- ---- items that touch a register

-- An item of a stream reads or writes a register other than $0.
abbrev pub Busy : Item → Type 0
Busy i = is_stream i.class ≡ true → list_any (λ r. not (r == 0)) (touched i.instr) ≡ true

each_front : {A : Type 0} (P : A → Type 0) (xs ys : List A) → Each P (xs ++ ys) → Each P xs
each_front P [] ys h = tt
each_front P (x ∷ xs) ys h = (h.0, each_front P xs ys h.1)

each_back : {A : Type 0} (P : A → Type 0) (xs ys : List A) → Each P (xs ++ ys) → Each P ys
each_back P [] ys h = h
each_back P (x ∷ xs) ys h = each_back P xs ys h.1

merge_each : (P : Item → Type 0) (ms ss l : List Whole) → Merge ms ss l → Each P (flat l) → Each P (flat ms) × Each P (flat ss)
merge_each P ms ss l done h = (tt, tt)
merge_each P ms ss l (first u us vs k m) h = let r : Each P (flat us) × Each P (flat vs) = merge_each P us vs k m (each_back P (unit_items u) (flat k) h) in
    (each_both P (unit_items u) (flat us) (each_front P (unit_items u) (flat k) h) r.0, r.1)
merge_each P ms ss l (second u us vs k m) h = let r : Each P (flat us) × Each P (flat vs) = merge_each P us vs k m (each_back P (unit_items u) (flat k) h) in
    (r.0, each_both P (unit_items u) (flat vs) (each_front P (unit_items u) (flat k) h) r.1)

-- ---- the stream of a word, by five tests

abbrev told : Bool → Bool → Bool → Bool → Bool → Option words.Stream
told x y z a b = if x || (y || z) then None else (if a then (if b then None else Some words.First) else (if b then Some words.Second else None))

by_tests : (i : Instr) (x y z a b : Bool) → words.is_sw i ≡ x → is_jump i ≡ y → among 2 (used_of i) ≡ z → list_any words.in_first (used_of i) ≡ a → list_any words.in_second (used_of i) ≡ b → words.stream_of i ≡ told x y z a b
by_tests i x y z a b e f g h k =
    ap (λ (v : Bool). told v (is_jump i) (among 2 (used_of i)) (list_any words.in_first (used_of i)) (list_any words.in_second (used_of i))) e ∙
    (ap (λ (v : Bool). told x v (among 2 (used_of i)) (list_any words.in_first (used_of i)) (list_any words.in_second (used_of i))) f ∙
    (ap (λ (v : Bool). told x y v (list_any words.in_first (used_of i)) (list_any words.in_second (used_of i))) g ∙
    (ap (λ (v : Bool). told x y z v (list_any words.in_second (used_of i))) h ∙ ap (λ (v : Bool). told x y z a v) k)))

or_both : (x y : Bool) → x ≡ false → y ≡ false → (x || y) ≡ false
or_both x y e f = ap (λ (z : Bool). z || y) e ∙ f

or_swap : (x y : Bool) → (x || y) ≡ (y || x)
or_swap true true = refl
or_swap true false = refl
or_swap false true = refl
or_swap false false = refl

or_assoc : (x y z : Bool) → (x || (y || z)) ≡ ((x || y) || z)
or_assoc true y z = refl
or_assoc false y z = refl

any_both : (f : ℕ → Bool) (xs ys : List ℕ) → list_any f (xs ++ ys) ≡ (list_any f xs || list_any f ys)
any_both f [] ys = refl
any_both f (x ∷ xs) ys = ap (λ (z : Bool). f x || z) (any_both f xs ys) ∙ or_assoc (f x) (list_any f xs) (list_any f ys)

-- registers of one stream and $0
module _ (mine other : ℕ → Bool) (apart_ : (r : ℕ) → mine r ≡ true → other r ≡ false) (no_zero : mine 0 ≡ false) (other_zero : other 0 ≡ false) (no_two : (r : ℕ) → mine r ≡ true → (2 == r) ≡ false) where
  abbrev Mine : ℕ → Type 0
  Mine r = (r ≡ 0) ⊎ IsTrue (mine r)

  none_other : (rs : List ℕ) → Each Mine rs → list_any other rs ≡ false
  none_other [] h = refl
  none_other (r ∷ rs) h = or_both (other r) (list_any other rs) (⊎_elim (λ e. ap other e ∙ other_zero) (λ t. apart_ r t) h.0) (none_other rs h.1)

  none_two : (rs : List ℕ) → Each Mine rs → among 2 rs ≡ false
  none_two [] h = refl
  none_two (r ∷ rs) h = or_both (2 == r) (among 2 rs) (⊎_elim (λ e. ap (λ (n : ℕ). 2 == n) e) (λ t. no_two r t) h.0) (none_two rs h.1)

  same_one : (r : ℕ) → Mine r → not (r == 0) ≡ mine r
  same_one r (inl e) = ap (λ (n : ℕ). not (n == 0)) e ∙ (sym no_zero ∙ ap mine (sym e))
  same_one r (inr t) = ap (λ (z : Bool). not z) (off r t) ∙ sym t
    where
      eq_is : (r : ℕ) → (r == 0) ≡ true → r ≡ 0
      eq_is r h = grind arith

      off : (r : ℕ) → mine r ≡ true → (r == 0) ≡ false
      off r t = elim (r == 0) as (λ z. (r == 0) ≡ z → z ≡ false) [ true ↦ λ e. absurd (no_true (sym t ∙ (ap mine (eq_is r e) ∙ no_zero))) | false ↦ λ e. refl ] refl

  some_mine : (rs : List ℕ) → Each Mine rs → list_any (λ r. not (r == 0)) rs ≡ list_any mine rs
  some_mine [] h = refl
  some_mine (r ∷ rs) h = ap (λ (z : Bool). z || list_any (λ r. not (r == 0)) rs) (same_one r h.0) ∙ ap (λ (z : Bool). mine r || z) (some_mine rs h.1)

  -- a word that touches registers of one stream alone, one at least
  of_stream : (i : Instr) → Each Mine (touched i) → list_any (λ r. not (r == 0)) (touched i) ≡ true → (among 2 (used_of i) ≡ false) × (list_any mine (used_of i) ≡ true) × (list_any other (used_of i) ≡ false)
  of_stream i h b =
      let used : Each Mine (used_of i) = each_both Mine (writes_of i) (reads_of i) (each_back Mine (reads_of i) (writes_of i) h) (each_front Mine (reads_of i) (writes_of i) h) in (
        none_two (used_of i) used,
        any_both mine (writes_of i) (reads_of i) ∙ (or_swap (list_any mine (writes_of i)) (list_any mine (reads_of i)) ∙ (sym (any_both mine (reads_of i) (writes_of i)) ∙ (sym (some_mine (touched i) h) ∙ b))),
        none_other (used_of i) used,
      )

first_apart : (r : ℕ) → is_master r ≡ true → is_shadow r ≡ false
first_apart r h = grind arith

second_apart : (r : ℕ) → is_shadow r ≡ true → is_master r ≡ false
second_apart r h = grind arith

first_two : (r : ℕ) → is_master r ≡ true → (2 == r) ≡ false
first_two r h = grind arith

second_two : (r : ℕ) → is_shadow r ≡ true → (2 == r) ≡ false
second_two r h = grind arith

-- ---- units of a stream

-- The word is of the stream.
abbrev IsWord : words.Stream → Instr → Type 0
IsWord s i = words.stream_of i ≡ Some s

abbrev Sided : words.Stream → Whole → Type 0
Sided s (One i) = IsWord s i.instr × (is_product i.instr ≡ false) × (is_jump i.instr ≡ false)
Sided s (Two i j) = IsWord s i.instr × IsWord s j.instr × (is_product i.instr ≡ true) × (is_move j.instr ≡ true) × (is_product j.instr ≡ false) × (is_jump i.instr ≡ false) × (is_jump j.instr ≡ false)

data_word : (x : Instr) → is_data x ≡ true → (words.is_sw x ≡ false) × (is_jump x ≡ false)
data_word (mips.Jr rs) h = absurd (no_true (sym h))
data_word (mips.J t) h = absurd (no_true (sym h))
data_word (mips.Jal t) h = absurd (no_true (sym h))
data_word (mips.Beq rs rt imm) h = absurd (no_true (sym h))
data_word (mips.Bne rs rt imm) h = absurd (no_true (sym h))
data_word (mips.Sw rt rs imm) h = absurd (no_true (sym h))
data_word x h = (refl, refl)

product_data : (x : Instr) → is_product x ≡ true → is_data x ≡ true
product_data (mips.Mult rs rt) h = refl
product_data (mips.Multu rs rt) h = refl
product_data (mips.Div rs rt) h = refl
product_data (mips.Divu rs rt) h = refl
product_data x h = absurd (no_true (sym h))

move_data : (x : Instr) → is_move x ≡ true → (is_data x ≡ true) × (is_product x ≡ false)
move_data (mips.Mfhi rd) h = (refl, refl)
move_data (mips.Mflo rd) h = (refl, refl)
move_data x h = absurd (no_true (sym h))

first_word : (x : Instr) → is_data x ≡ true → Each (MayTouch class.Master) (touched x) → list_any (λ r. not (r == 0)) (touched x) ≡ true → IsWord words.First x
first_word x d h b = let t : (among 2 (used_of x) ≡ false) × (list_any is_master (used_of x) ≡ true) × (list_any is_shadow (used_of x) ≡ false) = of_stream is_master is_shadow first_apart refl refl first_two x h b in
    by_tests x false false false true false (data_word x d).0 (data_word x d).1 t.0 t.1 t.2

second_word : (x : Instr) → is_data x ≡ true → Each (MayTouch class.Shadow) (touched x) → list_any (λ r. not (r == 0)) (touched x) ≡ true → IsWord words.Second x
second_word x d h b = let t : (among 2 (used_of x) ≡ false) × (list_any is_shadow (used_of x) ≡ true) × (list_any is_master (used_of x) ≡ false) = of_stream is_shadow is_master second_apart refl refl second_two x h b in
    by_tests x false false false false true (data_word x d).0 (data_word x d).1 t.0 t.2 t.1

module _ (c : Class) (s : words.Stream) (word : (x : Instr) → is_data x ≡ true → Each (MayTouch c) (touched x) → list_any (λ r. not (r == 0)) (touched x) ≡ true → IsWord s x) where
  unit_sided : (u : Whole) → IsUnit c u → Each Busy (unit_items u) → Sided s u
  unit_sided (One i) h b = (word i.instr h.0.computes (subst (λ (z : Class). Each (MayTouch z) (touched i.instr)) h.1 h.0.own) (b.0 h.0.stream), h.0.no_product, (data_word i.instr h.0.computes).1)
  unit_sided (Two i j) h b =
      let d : is_data i.instr ≡ true = product_data i.instr h.0.product in
      let e : (is_data j.instr ≡ true) × (is_product j.instr ≡ false) = move_data j.instr h.0.move in (
        word i.instr d (subst (λ (z : Class). Each (MayTouch z) (touched i.instr)) h.1 h.0.own) (b.0 h.0.stream),
        word j.instr e.0 (subst (λ (z : Class). Each (MayTouch z) (touched j.instr)) (sym h.0.one_stream ∙ h.1) h.0.own_move) (b.1.0 (ap (λ (z : Class). is_stream z) (sym h.0.one_stream) ∙ h.0.stream)),
        h.0.product,
        h.0.move,
        e.1,
        (data_word i.instr d).1,
        (data_word j.instr e.0).1,
      )

  all_sided : (us : List Whole) → AllUnits c us → Each Busy (flat us) → Each (Sided s) us
  all_sided [] h b = tt
  all_sided (u ∷ us) h b = (unit_sided u h.0 (each_front Busy (unit_items u) (flat us) b), all_sided us h.1 (each_back Busy (unit_items u) (flat us) b))

-- Units and their streams.
abbrev Order : List Whole → List words.Stream → Type 0
Order [] [] = Unit {0}
Order [] (s ∷ ss) = ⊥
Order (u ∷ us) [] = ⊥
Order (u ∷ us) (s ∷ ss) = Sided s u × Order us ss

second_order : (ss : List Whole) → Each (Sided words.Second) ss → Order ss (replicate (length ss) words.Second)
second_order [] h = tt
second_order (s ∷ ss) h = (h.0, second_order ss h.1)

first_order : (ms : List Whole) → Each (Sided words.First) ms → Order ms (replicate (length ms) words.First)
first_order [] h = tt
first_order (m ∷ ms) h = (h.0, first_order ms h.1)

turn_order : (ms ss : List Whole) → Each (Sided words.First) ms → Each (Sided words.Second) ss → Order (in_turn ms ss) (words.in_turns (length ms) (length ss))
turn_order [] ss a b = second_order ss b
turn_order (m ∷ ms) [] a b = first_order (m ∷ ms) a
turn_order (m ∷ ms) (s ∷ ss) a b = (a.0, (b.0, turn_order ms ss a.1 b.1))

-- one word of a stream in front of others
front_unit : (s : words.Stream) (i : Instr) (more : List Instr) → IsWord s i → is_product i ≡ false → words.units_behind false (i ∷ more) ≡ s ∷ words.units_behind false more
front_unit s i more w p = ap (λ (o : Option words.Stream). words.in_front o false (words.units_behind (is_product i) more)) w ∙ ap (λ (z : Bool). s ∷ words.units_behind z more) p

front_two : (s : words.Stream) (i j : Instr) (more : List Instr) → IsWord s i → IsWord s j → is_product i ≡ true → is_move j ≡ true → is_product j ≡ false → words.units_behind false (i ∷ j ∷ more) ≡ s ∷ words.units_behind false more
front_two s i j more w v p m q = ap (λ (o : Option words.Stream). words.in_front o false (words.units_behind (is_product i) (j ∷ more))) w ∙
    (ap (λ (z : Bool). s ∷ words.units_behind z (j ∷ more)) p ∙
    (ap (λ (o : Option words.Stream). s ∷ words.in_front o (is_move j) (words.units_behind (is_product j) more)) v ∙
    (ap (λ (z : Bool). s ∷ words.in_front (Some s) z (words.units_behind (is_product j) more)) m ∙ ap (λ (z : Bool). s ∷ words.units_behind z more) q)))

spaced_units : (us : List Whole) (ss : List words.Stream) (ys : List Item) → Spaced us ys → Order us ss → words.units_behind false (instrs ys) ≡ ss
spaced_units us [] ys nothing o = refl
spaced_units us (s ∷ ss) ys nothing o = absurd o
spaced_units us [] ys (unit u vs zs t) o = absurd o
spaced_units us (s ∷ ss) ys (unit (One i) vs zs t) o = front_unit s i.instr (instrs zs) o.0.0 o.0.1 ∙ ap (λ (l : List words.Stream). s ∷ l) (spaced_units vs ss zs t o.1)
spaced_units us (s ∷ ss) ys (unit (Two i j) vs zs t) o = front_two s i.instr j.instr (instrs zs) o.0.0 o.0.1 o.0.2 o.0.3 o.0.4 ∙ ap (λ (l : List words.Stream). s ∷ l) (spaced_units vs ss zs t o.1)
spaced_units us ss ys (space vs zs t) o = spaced_units vs ss zs t o

-- Each word of a stream and each nop passes.
module _ (pass : Instr → Bool) (of_stream_passes : (i : Instr) (s : words.Stream) → IsWord s i → pass i ≡ true) (nop_passes : pass nop ≡ true) where
  spaced_pass : (us : List Whole) (ss : List words.Stream) (ys : List Item) → Spaced us ys → Order us ss → AllPass pass (instrs ys)
  spaced_pass us ss ys nothing o = tt
  spaced_pass us [] ys (unit u vs zs t) o = absurd o
  spaced_pass us (s ∷ ss) ys (unit (One i) vs zs t) o = (of_stream_passes i.instr s o.0.0, spaced_pass vs ss zs t o.1)
  spaced_pass us (s ∷ ss) ys (unit (Two i j) vs zs t) o = (of_stream_passes i.instr s o.0.0, (of_stream_passes j.instr s o.0.1, spaced_pass vs ss zs t o.1))
  spaced_pass us ss ys (space vs zs t) o = (nop_passes, spaced_pass vs ss zs t o)

-- no word of a stretch is a branch
spaced_stays : (us : List Whole) (ss : List words.Stream) (ys : List Item) → Spaced us ys → Order us ss → Each (λ w. is_jump w ≡ false) (instrs ys)
spaced_stays us ss ys nothing o = tt
spaced_stays us [] ys (unit u vs zs t) o = absurd o
spaced_stays us (s ∷ ss) ys (unit (One i) vs zs t) o = (o.0.2, spaced_stays vs ss zs t o.1)
spaced_stays us (s ∷ ss) ys (unit (Two i j) vs zs t) o = (o.0.5, (o.0.6, spaced_stays vs ss zs t o.1))
spaced_stays us ss ys (space vs zs t) o = (refl, spaced_stays vs ss zs t o)

stretch_order : (old new : List Item) → (s : Stretched old new) → Each Busy old → Order (in_turn s.ms s.ss) (words.in_turns (length s.ms) (length s.ss))
stretch_order old new s b =
    let r : Each Busy (flat s.ms) × Each Busy (flat s.ss) = merge_each Busy s.ms s.ss s.l s.before (subst (Each Busy) s.old_is b) in
    turn_order s.ms s.ss (all_sided class.Master words.First first_word s.ms s.first_stream r.0) (all_sided class.Shadow words.Second second_word s.ss s.second_stream r.1)

-- ---- the words that stand

-- The words of a form, and of a close, without the checks that stand before it.
abbrev core : Form → List Item
core (Alone i) = []
core (Product i j) = []
core (Store c v b o) = plain (mips.Sw v b o) class.Act ∷ plain (mips.Sw (shadow_of v) (shadow_of b) ((o + 4) % 2 ^ 16)) class.Act ∷ []
core (Test c r code) = plain (mips.Bne r 0 2) class.Act ∷ plain nop class.Act ∷ plain (mips.Break code) class.Act ∷ []
core (Output c) = service_number c 1 ++ plain mips.Syscall class.Act ∷ []
core (Takes r) = plain (mips.Ori 2 0 5) class.Input ∷ plain mips.Syscall class.Input ∷ plain (mips.Addu r 2 0) class.Input ∷ plain (mips.Addu (shadow_of r) 2 0) class.Input ∷ []
core Idle = plain nop class.Act ∷ []

abbrev close_core : Close → List Item
close_core (Jump to) = going (mips.J 0) (Block to) ∷ plain nop class.Act ∷ []
close_core (Branch c r true to) = going (mips.Bne r 0 0) (Block to) ∷ plain nop class.Act ∷ []
close_core (Branch c r false to) = going (mips.Beq r 0 0) (Block to) ∷ plain nop class.Act ∷ []
close_core (Call f) = going (mips.Jal 0) (Function f) ∷ plain nop class.Act ∷ []
close_core (Return c) = plain (mips.Jr 31) class.Act ∷ plain nop class.Act ∷ []
close_core (Exit c) = service_number c 17 ++ plain mips.Syscall class.Act ∷ plain (mips.Break 1) class.Act ∷ []

-- The words that part runs.
pub record Parting (pass : Instr → Bool) : Type 0 where
  pub of_stream_passes : (i : Instr) (s : words.Stream) → IsWord s i → pass i ≡ true
  pub nop_passes : pass nop ≡ true
  pub beq : (x y imm : ℕ) → pass (mips.Beq x y imm) ≡ false
  pub bne : (x y imm : ℕ) → pass (mips.Bne x y imm) ≡ false
  pub j : (t : ℕ) → pass (mips.J t) ≡ false
  pub jal : (t : ℕ) → pass (mips.Jal t) ≡ false
  pub jr : (r : ℕ) → pass (mips.Jr r) ≡ false
  pub stop : (code : ℕ) → pass (mips.Break code) ≡ false
  pub syscall : pass mips.Syscall ≡ false
  pub number : (n : ℕ) → pass (mips.Ori 2 0 n) ≡ false
  pub taken : (r : ℕ) → pass (mips.Addu r 2 0) ≡ false
  pub store : (v b o : ℕ) → (v == 0) ≡ false → pass (mips.Sw v b o) ≡ false

stored_off : (v : ℕ) → IsTrue (is_value v || v == 31) → ((v == 0) ≡ false) × ((shadow_of v == 0) ≡ false)
stored_off v h = ((grind arith), (grind arith))

abbrev NotIdle : Form → Type 0
NotIdle (Alone i) = Unit {0}
NotIdle (Product i j) = Unit {0}
NotIdle (Store c v b o) = Unit {0}
NotIdle (Test c r code) = Unit {0}
NotIdle (Output c) = Unit {0}
NotIdle (Takes r) = Unit {0}
NotIdle Idle = ⊥

module _ (pass : Instr → Bool) (k : Parting pass) where
  -- a word that parts runs at the front
  parts_ : (f : Instr) (ys : List Instr) → pass f ≡ false → Turns pass ys → Turns pass (f ∷ ys)
  parts_ f ys e t = cut pass [] f ys e (nothing_turns pass) t

  -- a nop and then a word that parts runs
  slot_parts : (f : Instr) (ys : List Instr) → pass f ≡ false → Turns pass ys → Turns pass (nop ∷ f ∷ ys)
  slot_parts f ys e t = cut pass (nop ∷ []) f ys e (nop_turns pass k.nop_passes) t

  core_turns : (f : Form) → FormFits f → IsFixed f → NotIdle f → (xs ys : List Instr) → Turns pass xs → Turns pass ys → Turns pass (xs ++ (instrs (core f) ++ ys))
  core_turns (Alone i) h fx n xs ys a b = absurd fx
  core_turns (Product i j) h fx n xs ys a b = absurd fx
  core_turns (Store c v o d) h fx n xs ys a b = cut pass xs (mips.Sw v o d) (mips.Sw (shadow_of v) (shadow_of o) ((d + 4) % 2 ^ 16) ∷ ys) (k.store v o d (stored_off v h.0).0) a
      (parts_ (mips.Sw (shadow_of v) (shadow_of o) ((d + 4) % 2 ^ 16)) ys (k.store (shadow_of v) (shadow_of o) ((d + 4) % 2 ^ 16) (stored_off v h.0).1) b)
  core_turns (Test c r code) h fx n xs ys a b = cut pass xs (mips.Bne r 0 2) (nop ∷ mips.Break code ∷ ys) (k.bne r 0 2) a (slot_parts (mips.Break code) ys (k.stop code) b)
  core_turns (Output true) h fx n xs ys a b = cut pass xs (mips.Beq 4 14 2) (mips.Ori 2 0 1 ∷ mips.Break 1 ∷ mips.Syscall ∷ ys) (k.beq 4 14 2) a
      (parts_ (mips.Ori 2 0 1) (mips.Break 1 ∷ mips.Syscall ∷ ys) (k.number 1) (parts_ (mips.Break 1) (mips.Syscall ∷ ys) (k.stop 1) (parts_ mips.Syscall ys k.syscall b)))
  core_turns (Output false) h fx n xs ys a b = cut pass xs (mips.Ori 2 0 1) (mips.Syscall ∷ ys) (k.number 1) a (parts_ mips.Syscall ys k.syscall b)
  core_turns (Takes r) h fx n xs ys a b = cut pass xs (mips.Ori 2 0 5) (mips.Syscall ∷ mips.Addu r 2 0 ∷ mips.Addu (shadow_of r) 2 0 ∷ ys) (k.number 5) a
      (parts_ mips.Syscall (mips.Addu r 2 0 ∷ mips.Addu (shadow_of r) 2 0 ∷ ys) k.syscall (parts_ (mips.Addu r 2 0) (mips.Addu (shadow_of r) 2 0 ∷ ys) (k.taken r) (parts_ (mips.Addu (shadow_of r) 2 0) ys (k.taken (shadow_of r)) b)))
  core_turns Idle h fx n xs ys a b = absurd n

  close_turns : (c : Close) → (xs : List Instr) → Turns pass xs → Turns pass (xs ++ instrs (close_core c))
  close_turns (Jump to) xs a = cut pass xs (mips.J 0) (nop ∷ []) (k.j 0) a (nop_turns pass k.nop_passes)
  close_turns (Branch c r true to) xs a = cut pass xs (mips.Bne r 0 0) (nop ∷ []) (k.bne r 0 0) a (nop_turns pass k.nop_passes)
  close_turns (Branch c r false to) xs a = cut pass xs (mips.Beq r 0 0) (nop ∷ []) (k.beq r 0 0) a (nop_turns pass k.nop_passes)
  close_turns (Call f) xs a = cut pass xs (mips.Jal 0) (nop ∷ []) (k.jal 0) a (nop_turns pass k.nop_passes)
  close_turns (Return c) xs a = cut pass xs (mips.Jr 31) (nop ∷ []) (k.jr 31) a (nop_turns pass k.nop_passes)
  close_turns (Exit true) xs a = cut pass xs (mips.Beq 4 14 2) (mips.Ori 2 0 17 ∷ mips.Break 1 ∷ mips.Syscall ∷ mips.Break 1 ∷ []) (k.beq 4 14 2) a
      (parts_ (mips.Ori 2 0 17) (mips.Break 1 ∷ mips.Syscall ∷ mips.Break 1 ∷ []) (k.number 17) (parts_ (mips.Break 1) (mips.Syscall ∷ mips.Break 1 ∷ []) (k.stop 1) (parts_ mips.Syscall (mips.Break 1 ∷ []) k.syscall (parts_ (mips.Break 1) [] (k.stop 1) (nothing_turns pass)))))
  close_turns (Exit false) xs a = cut pass xs (mips.Ori 2 0 17) (mips.Syscall ∷ mips.Break 1 ∷ []) (k.number 17) a (parts_ mips.Syscall (mips.Break 1 ∷ []) k.syscall (parts_ (mips.Break 1) [] (k.stop 1) (nothing_turns pass)))

  -- the words of a stretch
  stretch_turns : (old new : List Item) → Stretched old new → Each Busy old → Turns pass (instrs new)
  stretch_turns old new s b = let o : Order (in_turn s.ms s.ss) (words.in_turns (length s.ms) (length s.ss)) = stretch_order old new s b in
      one_run pass (instrs new) (spaced_pass pass k.of_stream_passes k.nop_passes (in_turn s.ms s.ss) (words.in_turns (length s.ms) (length s.ss)) new s.new_is o)
      (take_turns (instrs new) (length s.ms) (length s.ss) (spaced_units (in_turn s.ms s.ss) (words.in_turns (length s.ms) (length s.ss)) new s.new_is o))

-- ---- what a block without free nops has

free_part : (old us : List Item) (f : Form) → IsFixed f → (new : List Item) → Stretched old new → free_nops (old ++ (form_items f ++ us)) ≡ nops_in old + (free_nops (form_items f) + free_nops us)
free_part old us f h new s = free_stretch old (form_items f ++ us) (old_in old new s) ∙ ap (λ (n : ℕ). nops_in old + n) (free_both false (form_items f) us ∙ ap (λ (z : Bool). free_nops (form_items f) + free_nops_behind z us) (no_slot f h))

not_idle : (f : Form) (old us new : List Item) → IsFixed f → Stretched old new → free_nops (old ++ (form_items f ++ us)) ≡ 0 → NotIdle f × (free_nops us ≡ 0)
not_idle f old us new h s e = (by f h (sym (free_part old us f h new s) ∙ e), last_zero (nops_in old) (free_nops (form_items f)) (free_nops us) (sym (free_part old us f h new s) ∙ e))
  where
    last_zero : (a b c : ℕ) → a + (b + c) ≡ 0 → c ≡ 0
    last_zero a b c e = omega arith

    one : (a c : ℕ) → a + (1 + 0 + c) ≡ 0 → ⊥
    one a c e = omega arith

    by : (f : Form) → IsFixed f → nops_in old + (free_nops (form_items f) + free_nops us) ≡ 0 → NotIdle f
    by (Alone i) h e = tt
    by (Product i j) h e = tt
    by (Store c v b o) h e = tt
    by (Test c r code) h e = tt
    by (Output c) h e = tt
    by (Takes r) h e = tt
    by Idle h e = one (nops_in old) (free_nops us) e

-- ---- the two forms of the clause

module _ (k : Parting (λ i. is_some (words.stream_of i) || words.is_nop i)) where
  abbrev weak : Instr → Bool
  weak i = is_some (words.stream_of i) || words.is_nop i

  check_if_turns : (c : Bool) (m : ℕ) (xs ys : List Instr) → Turns weak xs → ((zs : List Instr) → Turns weak zs → Turns weak (zs ++ ys)) → Turns weak (xs ++ (instrs (check_if c m) ++ ys))
  check_if_turns true m xs ys a h = cut weak xs (mips.Beq m (shadow_of m) 2) (nop ∷ mips.Break 1 ∷ ys) (k.beq m (shadow_of m) 2) a (slot_parts weak k (mips.Break 1) ys (k.stop 1) (h [] (nothing_turns weak)))
  check_if_turns false m xs ys a h = h xs a

  form_turns : (f : Form) → FormFits f → IsFixed f → NotIdle f → (xs ys : List Instr) → Turns weak xs → Turns weak ys → Turns weak (xs ++ (instrs (form_items f) ++ ys))
  form_turns (Alone i) h fx n xs ys a b = absurd fx
  form_turns (Product i j) h fx n xs ys a b = absurd fx
  form_turns (Store c v o d) h fx n xs ys a b =
      subst (λ (l : List Instr). Turns weak (xs ++ l)) (sym (ap (λ (l : List Instr). l ++ ys) (instrs_both (check_if c v) (check_if c o ++ core (Store c v o d)) ∙ ap (λ (l : List Instr). instrs (check_if c v) ++ l) (instrs_both (check_if c o) (core (Store c v o d)))) ∙
      (append_assoc (instrs (check_if c v)) (instrs (check_if c o) ++ instrs (core (Store c v o d))) ys ∙ ap (λ (l : List Instr). instrs (check_if c v) ++ l) (append_assoc (instrs (check_if c o)) (instrs (core (Store c v o d))) ys))))
      (check_if_turns c v xs (instrs (check_if c o) ++ (instrs (core (Store c v o d)) ++ ys)) a (λ zs t. check_if_turns c o zs (instrs (core (Store c v o d)) ++ ys) t (λ ws u. core_turns weak k (Store c v o d) h fx n ws ys u b)))
  form_turns (Test c r code) h fx n xs ys a b =
      subst (λ (l : List Instr). Turns weak (xs ++ l)) (sym (ap (λ (l : List Instr). l ++ ys) (instrs_both (check_if c r) (core (Test c r code))) ∙ append_assoc (instrs (check_if c r)) (instrs (core (Test c r code))) ys))
      (check_if_turns c r xs (instrs (core (Test c r code)) ++ ys) a (λ zs t. core_turns weak k (Test c r code) h fx n zs ys t b))
  form_turns (Output c) h fx n xs ys a b = core_turns weak k (Output c) h fx n xs ys a b
  form_turns (Takes r) h fx n xs ys a b = core_turns weak k (Takes r) h fx n xs ys a b
  form_turns Idle h fx n xs ys a b = absurd n

  end_turns : (c : Close) (xs : List Instr) → Turns weak xs → Turns weak (xs ++ instrs (close_items c))
  end_turns (Jump to) xs a = close_turns weak k (Jump to) xs a
  end_turns (Branch c r true to) xs a = subst (λ (l : List Instr). Turns weak (xs ++ l)) (sym (instrs_both (check_if c r) (close_core (Branch c r true to)))) (check_if_turns c r xs (instrs (close_core (Branch c r true to))) a (λ zs t. close_turns weak k (Branch c r true to) zs t))
  end_turns (Branch c r false to) xs a = subst (λ (l : List Instr). Turns weak (xs ++ l)) (sym (instrs_both (check_if c r) (close_core (Branch c r false to)))) (check_if_turns c r xs (instrs (close_core (Branch c r false to))) a (λ zs t. close_turns weak k (Branch c r false to) zs t))
  end_turns (Call f) xs a = close_turns weak k (Call f) xs a
  end_turns (Return c) xs a = subst (λ (l : List Instr). Turns weak (xs ++ l)) (sym (instrs_both (check_if c 31) (close_core (Return c)))) (check_if_turns c 31 xs (instrs (close_core (Return c))) a (λ zs t. close_turns weak k (Return c) zs t))
  end_turns (Exit c) xs a = close_turns weak k (Exit c) xs a

  pub parts_turn : (xs ys : List Item) → Parts FormFits CloseFits xs ys → Each Busy xs → free_nops xs ≡ 0 → Turns weak (instrs ys)
  parts_turn xs ys (part old new s f p h us vs more) b e =
      let n : NotIdle f × (free_nops us ≡ 0) = not_idle f old us new h s e in
      subst (Turns weak) (sym (instrs_both new (form_items f ++ vs) ∙ ap (λ (l : List Instr). instrs new ++ l) (instrs_both (form_items f) vs)))
      (form_turns f p h n.0 (instrs new) (instrs vs) (stretch_turns weak k old new s (each_front Busy old (form_items f ++ us) b))
      (parts_turn us vs more (each_back Busy (form_items f) us (each_back Busy old (form_items f ++ us) b)) n.1))
  parts_turn xs ys (closing old new s c r) b e =
      subst (Turns weak) (sym (instrs_both new (close_items c))) (end_turns c (instrs new) (stretch_turns weak k old new s (each_front Busy old (close_items c) b)))

-- ---- what parts runs

or_true : (z : Bool) → (z || true) ≡ true
or_true true = refl
or_true false = refl

no_stream : (r : ℕ) → words.stream_of (mips.Addu r 2 0) ≡ None
no_stream r = by_tests (mips.Addu r 2 0) false false true (list_any words.in_first (used_of (mips.Addu r 2 0))) (list_any words.in_second (used_of (mips.Addu r 2 0))) refl refl (or_true (2 == r)) refl refl

pub weak_parting : Parting (λ i. is_some (words.stream_of i) || words.is_nop i)
weak_parting = record {
  of_stream_passes = λ i s w. ap (λ (o : Option words.Stream). is_some o || words.is_nop i) w;
  nop_passes = refl;
  beq = λ x y imm. refl;
  bne = λ x y imm. refl;
  j = λ t. refl;
  jal = λ t. refl;
  jr = λ r. refl;
  stop = λ code. refl;
  syscall = refl;
  number = λ n. refl;
  taken = λ r. ap (λ (o : Option words.Stream). is_some o || false) (no_stream r);
  store = λ v b o e. refl;
}

abbrev pub strong : Instr → Bool
strong i = is_some (words.stream_of i) || words.is_idle i

strong_parting : Parting (λ i. is_some (words.stream_of i) || words.is_idle i)
strong_parting = record {
  of_stream_passes = λ i s w. ap (λ (o : Option words.Stream). is_some o || words.is_idle i) w;
  nop_passes = refl;
  beq = λ x y imm. refl;
  bne = λ x y imm. refl;
  j = λ t. refl;
  jal = λ t. refl;
  jr = λ r. refl;
  stop = λ code. refl;
  syscall = refl;
  number = λ n. refl;
  taken = λ r. ap (λ (o : Option words.Stream). is_some o || words.is_idle (mips.Addu r 2 0)) (no_stream r) ∙ ap (λ (z : Bool). true && not z) (or_true (not (r == 0)));
  store = λ v b o e. ap (λ (z : Bool). true && not (not z || (not (b == 0) || false))) e;
}

-- ---- words without their checks

plain_word : (w : Instr) (more : List Instr) → is_jump w ≡ false → words.without_checks (w ∷ more) ≡ w ∷ words.without_checks more
plain_word (mips.Beq x y imm) more h = absurd (no_true h)
plain_word w more h = refl

plain_words : (ws more : List Instr) → Each (λ w. is_jump w ≡ false) ws → words.without_checks (ws ++ more) ≡ ws ++ words.without_checks more
plain_words [] more h = refl
plain_words (w ∷ ws) more h = plain_word w (ws ++ more) h.0 ∙ ap (λ (l : List Instr). w ∷ l) (plain_words ws more h.1)

gone : (x y : ℕ) (more : List Instr) → words.crosses x y ≡ true → words.without_checks (mips.Beq x y 2 ∷ nop ∷ mips.Break 1 ∷ more) ≡ words.without_checks more
gone x y more e = ap (λ (z : Bool). cond z (words.without_checks more) (mips.Beq x y 2 ∷ nop ∷ mips.Break 1 ∷ words.without_checks more)) e

value_crosses : (r : ℕ) → IsTrue (is_value r) → words.crosses r (shadow_of r) ≡ true
value_crosses r h = grind arith

stored_crosses : (v : ℕ) → IsTrue (is_value v || v == 31) → words.crosses v (shadow_of v) ≡ true
stored_crosses v h = grind arith

base_crosses : (b : ℕ) → IsTrue (is_value b || b == 29) → words.crosses b (shadow_of b) ≡ true
base_crosses b h = grind arith

form_core : (f : Form) → FormFits f → IsFixed f → (more : List Instr) → words.without_checks (instrs (form_items f) ++ more) ≡ instrs (core f) ++ words.without_checks more
form_core (Alone i) h fx more = absurd fx
form_core (Product i j) h fx more = absurd fx
form_core (Store true v b o) h fx more = gone v (shadow_of v) (mips.Beq b (shadow_of b) 2 ∷ nop ∷ mips.Break 1 ∷ (instrs (core (Store true v b o)) ++ more)) (stored_crosses v h.0) ∙ gone b (shadow_of b) (instrs (core (Store true v b o)) ++ more) (base_crosses b h.1)
form_core (Store false v b o) h fx more = refl
form_core (Test true r code) h fx more = gone r (shadow_of r) (instrs (core (Test true r code)) ++ more) (value_crosses r h.0)
form_core (Test false r code) h fx more = refl
form_core (Output true) h fx more = refl
form_core (Output false) h fx more = refl
form_core (Takes r) h fx more = refl
form_core Idle h fx more = refl

end_core : (c : Close) → CloseFits c → words.without_checks (instrs (close_items c)) ≡ instrs (close_core c)
end_core (Jump to) h = refl
end_core (Branch true r true to) h = gone r (shadow_of r) (instrs (close_core (Branch true r true to))) (value_crosses r h)
end_core (Branch true r false to) h = gone r (shadow_of r) (instrs (close_core (Branch true r false to))) (value_crosses r h)
end_core (Branch false r true to) h = refl
end_core (Branch false r false to) h = refl
end_core (Call f) h = refl
end_core (Return true) h = gone 31 25 (instrs (close_core (Return true))) refl
end_core (Return false) h = refl
end_core (Exit true) h = refl
end_core (Exit false) h = refl

pub parts_turn_through : (xs ys : List Item) → Parts FormFits CloseFits xs ys → Each Busy xs → free_nops xs ≡ 0 → words.TurnedThrough (instrs ys)
parts_turn_through xs ys (part old new s f p h us vs more) b e =
    let n : NotIdle f × (free_nops us ≡ 0) = not_idle f old us new h s e in
    let busy : Each Busy old = each_front Busy old (form_items f ++ us) b in
    subst (Turns strong) (sym (ap words.without_checks (instrs_both new (form_items f ++ vs) ∙ ap (λ (l : List Instr). instrs new ++ l) (instrs_both (form_items f) vs)) ∙
    (plain_words (instrs new) (instrs (form_items f) ++ instrs vs) (spaced_stays (in_turn s.ms s.ss) (words.in_turns (length s.ms) (length s.ss)) new s.new_is (stretch_order old new s busy)) ∙
    ap (λ (l : List Instr). instrs new ++ l) (form_core f p h (instrs vs)))))
    (core_turns strong strong_parting f p h n.0 (instrs new) (words.without_checks (instrs vs)) (stretch_turns strong strong_parting old new s busy)
    (parts_turn_through us vs more (each_back Busy (form_items f) us (each_back Busy old (form_items f ++ us) b)) n.1))
parts_turn_through xs ys (closing old new s c r) b e =
    let busy : Each Busy old = each_front Busy old (close_items c) b in
    subst (Turns strong) (sym (ap words.without_checks (instrs_both new (close_items c)) ∙
    (plain_words (instrs new) (instrs (close_items c)) (spaced_stays (in_turn s.ms s.ss) (words.in_turns (length s.ms) (length s.ss)) new s.new_is (stretch_order old new s busy)) ∙
    ap (λ (l : List Instr). instrs new ++ l) (end_core c r))))
    (close_turns strong strong_parting c (instrs new) (stretch_turns strong strong_parting old new s busy))
