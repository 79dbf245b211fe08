-- Constants, copies and operations in both streams.
use Rattle.std.proofs.Common.{◌≡◌, ◌≢◌, ◌≤◌, ◌<◌, ℕ, zero, suc, ◌+◌, ◌-◌, ◌*◌, ◌/◌, ◌%◌, ◌^◌, arith, ap, refl, sym, ◌∙◌, subst, List, [], ◌∷◌, ◌++◌, append_assoc, length, get_or, Bool, true, false, cond, not, inl, inr, le_refl, mod-lt, ℤ, pos, negsuc, w32, w64}
use Rattle.std.specs.Prelude.{Option, Some, None, Result, Ok, Err, ◌⊎◌, ◌==◌, ◌&&◌, nat_le, nat_lt, slice_index, slice_set, if◌then◌else◌, IsTrue, bit_or, bit_and, bit_xor, int_lt, int_div, int_rem}
use Rattle.std.specs.Int.{cast_unsigned}
use Rattle.std.proofs.lemmas.Nat.{and_le_l, and_le_r, or_lt, xor_lt, or_shifted}
use Rattle.std.specs.Int.Bits.{xor_self, xor_add_and, or_zero_r}
use Rattle.hard_words.specs.Words.{extended, signed, signed_shift, signed_product, signed_division, division}
use Rattle.mips_isa.specs.declared.instr.Instr.{Instr}
use Rattle.mips_isa.specs.declared.instr.Instr.TheVariants as mips
use Rattle.mips_isa.specs.declared.instr.Act.TheVariants.{Write, Both}
use Rattle.mips_isa.specs.Machine as machine
use Rattle.mips_isa.specs.Machine.{plus}
use Rattle.mid_blocks.specs.declared.code.MidOp.{MidOp}
use Rattle.mid_blocks.specs.declared.code.MidOp.TheVariants as op
use Rattle.mid_blocks.specs.Run.{operate, truth, by_non_zero, with_sign}
use Rattle.hard_items.specs.declared.code.Item.{Item}
use Rattle.hard_items.specs.declared.code.HardProgram.{HardProgram}
use Rattle.hard_items.specs.Run.{Data, Onward, machine_of, way_of, held, is_call}
use Rattle.hard_items.specs.Rules.{Placed, Returns, Reads}
use Rattle.double_law.specs.declared.roles.Role.{Role}
use Rattle.double_law.specs.declared.roles.Role.TheVariants.{Value, Stack, Link}
use Rattle.double_law.specs.Roles.{reg_in, both, product, move}
use Rattle.double_law.specs.Emitted.{constant, three, operation}
use Rattle.double_law.specs.Roles.{RoleFits}
use Rattle.hard_words.proofs.Shifts.{signed_shift_small}
use Rattle.double_law.proofs.Doubled.{BackFits, back_of, Pairs, AreWords, put, same_role}
use Rattle.double_law.proofs.Leading.{Done, Does, does_then, does_both}
use Rattle.double_law.proofs.Memory.{does_product}
use Rattle.double_law.proofs.Control.{SamePairs, doubled_same}

pub does_same : (p : HardProgram) (size b : ℕ) (code : List Item) (a a' a'' : Pairs) → Does p size b code a a' → SamePairs a' a'' → Does p size b code a a''
does_same p size b code a a' a'' f s more d h =
    let x : Done p size b code more d a' = f more d h in
    record { now = x.now; steps = x.steps; some = x.some; leads = x.leads; doubled = doubled_same size x.now a' a'' s x.doubled }

-- ---- a computation from two registers

-- A role that may be read in a computation: it holds no return number.
pub record Plain (a : Pairs) (r : Role) : Type 0 where
  pub fits : RoleFits r
  pub no_number : back_of a r ≡ false

-- A role that may be written by one.
pub record Free (r : Role) : Type 0 where
  pub fits : RoleFits r
  pub back : BackFits r false

-- an instruction that computes from two registers
pub record Three (p : HardProgram) (f : ℕ → ℕ → ℕ → Instr) (fn : ℕ → ℕ → ℕ) : Type 0 where
  pub act : (x y z : ℕ) (s : machine.State) → machine.act (f x y z) s ≡ Write x (fn (slice_index s.regs y) (slice_index s.regs z))
  pub way : (x y z : ℕ) (i : Item) (d : Data) → way_of p i d (f x y z) ≡ Onward
  pub placed : (x y z : ℕ) (d : Data) → Placed (f x y z) d
  pub returns : (x y z b : ℕ) (d : Data) → Returns p b (f x y z) d
  pub reads : (x y z : ℕ) (d : Data) → d.backs y ≡ false → d.backs z ≡ false → Reads (f x y z) d
  pub no_call : (x y z : ℕ) → is_call (f x y z) ≡ false

pub does_three : (p : HardProgram) (size b : ℕ) (f : ℕ → ℕ → ℕ → Instr) (fn : ℕ → ℕ → ℕ) (to q r : Role) (a : Pairs) → Three p f fn → Free to → Plain a q → Plain a r → fn (a.file q) (a.file r) < 2 ^ 32 →
    Does p size b (three f to q r) a (put a to (fn (a.file q) (a.file r)) false)
does_three p size b f fn to q r a i free pq pr small = does_both p size b (λ t. f (reg_in t to) (reg_in t q) (reg_in t r)) to a (fn (a.file q) (a.file r)) (record {
  fits = free.fits;
  back_fits = free.back;
  word = small;
  act = λ t d s e. i.act (reg_in t to) (reg_in t q) (reg_in t r) (machine_of d) ∙
      (ap (λ (x : ℕ). Write (reg_in t to) (fn x (held d (reg_in t r)))) (e.file q pq.fits) ∙ ap (λ (x : ℕ). Write (reg_in t to) (fn (a.file q) x)) (e.file r pr.fits));
  way = λ t j d. i.way (reg_in t to) (reg_in t q) (reg_in t r) j d;
  placed = λ t d. i.placed (reg_in t to) (reg_in t q) (reg_in t r) d;
  returns = λ t n d. i.returns (reg_in t to) (reg_in t q) (reg_in t r) n d;
  reads = λ t d s e. i.reads (reg_in t to) (reg_in t q) (reg_in t r) d (e.backs q pq.fits ∙ pq.no_number) (e.backs r pr.fits ∙ pr.no_number);
  no_call = λ t. i.no_call (reg_in t to) (reg_in t q) (reg_in t r);
})

-- an instruction that computes from one register, or from $0
pub record Two (p : HardProgram) (f : ℕ → ℕ → Instr) (fn : ℕ → ℕ) : Type 0 where
  pub act : (x y : ℕ) (s : machine.State) → slice_index s.regs 0 ≡ 0 → machine.act (f x y) s ≡ Write x (fn (slice_index s.regs y))
  pub way : (x y : ℕ) (i : Item) (d : Data) → way_of p i d (f x y) ≡ Onward
  pub placed : (x y : ℕ) (d : Data) → Placed (f x y) d
  pub returns : (x y b : ℕ) (d : Data) → Returns p b (f x y) d
  pub reads : (x y : ℕ) (d : Data) → d.backs y ≡ false → d.backs 0 ≡ false → Reads (f x y) d
  pub no_call : (x y : ℕ) → is_call (f x y) ≡ false

pub does_two : (p : HardProgram) (size b : ℕ) (f : ℕ → ℕ → Instr) (fn : ℕ → ℕ) (to q : Role) (a : Pairs) → Two p f fn → Free to → Plain a q → fn (a.file q) < 2 ^ 32 →
    Does p size b (both (λ t. f (reg_in t to) (reg_in t q))) a (put a to (fn (a.file q)) false)
does_two p size b f fn to q a i free pq small = does_both p size b (λ t. f (reg_in t to) (reg_in t q)) to a (fn (a.file q)) (record {
  fits = free.fits;
  back_fits = free.back;
  word = small;
  act = λ t d s e. i.act (reg_in t to) (reg_in t q) (machine_of d) s.zero_ ∙ ap (λ (x : ℕ). Write (reg_in t to) (fn x)) (e.file q pq.fits);
  way = λ t j d. i.way (reg_in t to) (reg_in t q) j d;
  placed = λ t d. i.placed (reg_in t to) (reg_in t q) d;
  returns = λ t n d. i.returns (reg_in t to) (reg_in t q) n d;
  reads = λ t d s e. i.reads (reg_in t to) (reg_in t q) d (e.backs q pq.fits ∙ pq.no_number) s.zero_back;
  no_call = λ t. i.no_call (reg_in t to) (reg_in t q);
})

pub does_zero : (p : HardProgram) (size b : ℕ) (f : ℕ → ℕ → Instr) (fn : ℕ → ℕ) (to : Role) (a : Pairs) → Two p f fn → Free to → fn 0 < 2 ^ 32 →
    Does p size b (both (λ t. f (reg_in t to) 0)) a (put a to (fn 0) false)
does_zero p size b f fn to a i free small = does_both p size b (λ t. f (reg_in t to) 0) to a (fn 0) (record {
  fits = free.fits;
  back_fits = free.back;
  word = small;
  act = λ t d s e. i.act (reg_in t to) 0 (machine_of d) s.zero_ ∙ ap (λ (x : ℕ). Write (reg_in t to) (fn x)) s.zero_;
  way = λ t j d. i.way (reg_in t to) 0 j d;
  placed = λ t d. i.placed (reg_in t to) 0 d;
  returns = λ t n d. i.returns (reg_in t to) 0 n d;
  reads = λ t d s e. i.reads (reg_in t to) 0 d s.zero_back s.zero_back;
  no_call = λ t. i.no_call (reg_in t to) 0;
})

-- ---- the table of them

abbrev add_fn : ℕ → ℕ → ℕ
add_fn x y = (x + y) % 2 ^ 32

pub three_add : (p : HardProgram) → Three p mips.Addu (λ x y. (x + y) % 2 ^ 32)
three_add p = record { act = λ x y z s. refl; way = λ x y z i d. refl; placed = λ x y z d. tt; returns = λ x y z b d. tt; reads = λ x y z d u v. (u, (v, tt)); no_call = λ x y z. refl }

pub three_sub : (p : HardProgram) → Three p mips.Subu (λ x y. (x + (2 ^ 32 - y)) % 2 ^ 32)
three_sub p = record { act = λ x y z s. refl; way = λ x y z i d. refl; placed = λ x y z d. tt; returns = λ x y z b d. tt; reads = λ x y z d u v. (u, (v, tt)); no_call = λ x y z. refl }

pub three_and : (p : HardProgram) → Three p mips.And bit_and
three_and p = record { act = λ x y z s. refl; way = λ x y z i d. refl; placed = λ x y z d. tt; returns = λ x y z b d. tt; reads = λ x y z d u v. (u, (v, tt)); no_call = λ x y z. refl }

pub three_or : (p : HardProgram) → Three p mips.Or bit_or
three_or p = record { act = λ x y z s. refl; way = λ x y z i d. refl; placed = λ x y z d. tt; returns = λ x y z b d. tt; reads = λ x y z d u v. (u, (v, tt)); no_call = λ x y z. refl }

pub three_xor : (p : HardProgram) → Three p mips.Xor bit_xor
three_xor p = record { act = λ x y z s. refl; way = λ x y z i d. refl; placed = λ x y z d. tt; returns = λ x y z b d. tt; reads = λ x y z d u v. (u, (v, tt)); no_call = λ x y z. refl }

pub three_less : (p : HardProgram) → Three p mips.Slt (λ x y. truth (int_lt (signed x) (signed y)))
three_less p = record { act = λ x y z s. refl; way = λ x y z i d. refl; placed = λ x y z d. tt; returns = λ x y z b d. tt; reads = λ x y z d u v. (u, (v, tt)); no_call = λ x y z. refl }

pub three_below : (p : HardProgram) → Three p mips.Sltu (λ x y. truth (nat_lt x y))
three_below p = record { act = λ x y z s. refl; way = λ x y z i d. refl; placed = λ x y z d. tt; returns = λ x y z b d. tt; reads = λ x y z d u v. (u, (v, tt)); no_call = λ x y z. refl }

pub three_left : (p : HardProgram) → Three p mips.Sllv (λ x y. (x * 2 ^ (y % 32)) % 2 ^ 32)
three_left p = record { act = λ x y z s. refl; way = λ x y z i d. refl; placed = λ x y z d. tt; returns = λ x y z b d. tt; reads = λ x y z d u v. (u, (v, tt)); no_call = λ x y z. refl }

pub three_right : (p : HardProgram) → Three p mips.Srlv (λ x y. x / 2 ^ (y % 32))
three_right p = record { act = λ x y z s. refl; way = λ x y z i d. refl; placed = λ x y z d. tt; returns = λ x y z b d. tt; reads = λ x y z d u v. (u, (v, tt)); no_call = λ x y z. refl }

pub three_signed : (p : HardProgram) → Three p mips.Srav signed_shift
three_signed p = record { act = λ x y z s. refl; way = λ x y z i d. refl; placed = λ x y z d. tt; returns = λ x y z b d. tt; reads = λ x y z d u v. (u, (v, tt)); no_call = λ x y z. refl }

-- a copy, by addition of $0
pub two_copy : (p : HardProgram) → Two p (λ x y. mips.Addu x y 0) (λ x. (x + 0) % 2 ^ 32)
two_copy p = record { act = λ x y s e. ap (λ (z : ℕ). Write x ((slice_index s.regs y + z) % 2 ^ 32)) e; way = λ x y i d. refl; placed = λ x y d. tt; returns = λ x y b d. tt; reads = λ x y d u v. (u, (v, tt)); no_call = λ x y. refl }

pub two_ori : (p : HardProgram) (n : ℕ) → Two p (λ x y. mips.Ori x y n) (λ x. bit_or x n)
two_ori p n = record { act = λ x y s e. refl; way = λ x y i d. refl; placed = λ x y d. tt; returns = λ x y b d. tt; reads = λ x y d u v. (u, tt); no_call = λ x y. refl }

pub two_addiu : (p : HardProgram) (n : ℕ) → Two p (λ x y. mips.Addiu x y n) (λ x. plus x (extended n))
two_addiu p n = record { act = λ x y s e. refl; way = λ x y i d. refl; placed = λ x y d. tt; returns = λ x y b d. tt; reads = λ x y d u v. (u, tt); no_call = λ x y. refl }

pub two_sltiu : (p : HardProgram) (n : ℕ) → Two p (λ x y. mips.Sltiu x y n) (λ x. truth (nat_lt x (extended n)))
two_sltiu p n = record { act = λ x y s e. refl; way = λ x y i d. refl; placed = λ x y d. tt; returns = λ x y b d. tt; reads = λ x y d u v. (u, tt); no_call = λ x y. refl }

pub two_lui : (p : HardProgram) (n : ℕ) → Two p (λ x y. mips.Lui x n) (λ x. n * 2 ^ 16)
two_lui p n = record { act = λ x y s e. refl; way = λ x y i d. refl; placed = λ x y d. tt; returns = λ x y b d. tt; reads = λ x y d u v. tt; no_call = λ x y. refl }

pub two_shift : (p : HardProgram) (n : ℕ) → Two p (λ x y. mips.Sll x y n) (λ x. (x * 2 ^ n) % 2 ^ 32)
two_shift p n = record { act = λ x y s e. refl; way = λ x y i d. refl; placed = λ x y d. tt; returns = λ x y b d. tt; reads = λ x y d u v. (u, tt); no_call = λ x y. refl }

pub two_nor : (p : HardProgram) → Two p (λ x y. mips.Nor x y 0) (λ x. 2 ^ 32 - 1 - bit_or x 0)
two_nor p = record { act = λ x y s e. ap (λ (z : ℕ). Write x (2 ^ 32 - 1 - bit_or (slice_index s.regs y) z)) e; way = λ x y i d. refl; placed = λ x y d. tt; returns = λ x y b d. tt; reads = λ x y d u v. (u, (v, tt)); no_call = λ x y. refl }

-- whether a word isn't 0, by comparison with $0
pub two_positive : (p : HardProgram) → Two p (λ x y. mips.Sltu x 0 y) (λ x. truth (nat_lt 0 x))
two_positive p = record { act = λ x y s e. ap (λ (z : ℕ). Write x (truth (nat_lt z (slice_index s.regs y)))) e; way = λ x y i d. refl; placed = λ x y d. tt; returns = λ x y b d. tt; reads = λ x y d u v. (v, (u, tt)); no_call = λ x y. refl }

-- ---- words

pub truth_small : (z : Bool) → truth z < 2 ^ 32
truth_small true = omega arith
truth_small false = omega arith

shift_small : (x k : ℕ) → x < 2 ^ 32 → x / 2 ^ k < 2 ^ 32
shift_small x k h = Rattle.std.proofs.Common.lt_of_le_of_lt (Rattle.std.proofs.Common.div-le_self x (2 ^ k)) h

xor_zero : (x y : ℕ) → bit_xor x y ≡ 0 → x ≡ y
xor_zero x y h = omega (arith, xor_add_and x y, and_le_l x y, and_le_r x y)

-- 1 exactly where two words are equal
equal_fn : (x y : ℕ) → truth (nat_lt (bit_xor x y) (extended 1)) ≡ truth (x == y)
equal_fn x y = elim (x == y) as (λ z. (x == y) ≡ z → truth (nat_lt (bit_xor x y) (extended 1)) ≡ truth z) [
  | true ↦ λ e. ap (λ (n : ℕ). truth (nat_lt n (extended 1))) (ap (λ (n : ℕ). bit_xor n y) (eq_is x y e) ∙ xor_self y)
  | false ↦ λ e. ap (λ (z : Bool). truth z) (not_below (bit_xor x y) (λ h. eq_not x y e (xor_zero x y h)))
] refl
  where
    eq_is : (m n : ℕ) → (m == n) ≡ true → m ≡ n
    eq_is m n h = grind arith

    eq_not : (m n : ℕ) → (m == n) ≡ false → m ≢ n
    eq_not m n h = grind arith

    not_below : (n : ℕ) → n ≢ 0 → nat_lt n (extended 1) ≡ false
    not_below n h = grind arith

differ_fn : (x y : ℕ) → truth (nat_lt 0 (bit_xor x y)) ≡ truth (not (x == y))
differ_fn x y = elim (x == y) as (λ z. (x == y) ≡ z → truth (nat_lt 0 (bit_xor x y)) ≡ truth (not z)) [
  | true ↦ λ e. ap (λ (n : ℕ). truth (nat_lt 0 n)) (ap (λ (n : ℕ). bit_xor n y) (eq_is x y e) ∙ xor_self y)
  | false ↦ λ e. ap (λ (z : Bool). truth z) (above (bit_xor x y) (λ h. eq_not x y e (xor_zero x y h)))
] refl
  where
    eq_is : (m n : ℕ) → (m == n) ≡ true → m ≡ n
    eq_is m n h = grind arith

    eq_not : (m n : ℕ) → (m == n) ≡ false → m ≢ n
    eq_not m n h = grind arith

    above : (n : ℕ) → n ≢ 0 → nat_lt 0 n ≡ true
    above n h = grind arith

-- ---- a role written twice

pub put_twice : (a : Pairs) (r : Role) (x v : ℕ) → SamePairs (put (put a r x false) r v false) (put a r v false)
put_twice a r x v = record {
  file = λ q. over (same_role q r) x v (a.file q);
  cell = λ c. refl;
  link = link_twice r;
  number = λ c. refl;
  feed = refl;
  fed = refl;
}
  where
    over : (z : Bool) (x v w : ℕ) → cond z v (cond z x w) ≡ cond z v w
    over true x v w = refl
    over false x v w = refl

    link_twice : (r : Role) → (put (put a r x false) r v false).link ≡ (put a r v false).link
    link_twice (Value k) = refl
    link_twice Stack = refl
    link_twice Link = refl

-- a role reads what was put there
pub put_there : (a : Pairs) (r : Role) (v : ℕ) (n : Bool) → (put a r v n).file r ≡ v
put_there a (Value k) v n = ap (λ (z : Bool). cond z v (a.file (Value k))) (eq_self k)
  where
    eq_self : (n : ℕ) → (n == n) ≡ true
    eq_self n = grind arith
put_there a Stack v n = refl
put_there a Link v n = refl

pub put_beside : (a : Pairs) (q r : Role) (v : ℕ) (n : Bool) → same_role q r ≡ false → (put a r v n).file q ≡ a.file q
put_beside a q r v n h = ap (λ (z : Bool). cond z v (a.file q)) h

free_plain : (a : Pairs) (r : Role) (v : ℕ) → Free r → Plain (put a r v false) r
free_plain a (Value k) v f = record { fits = f.fits; no_number = refl }
free_plain a Stack v f = record { fits = f.fits; no_number = refl }
free_plain a Link v f = record { fits = tt; no_number = refl }

-- ---- constants

half_small : (x : ℕ) → x < 2 ^ 16 → x * 2 ^ 16 < 2 ^ 32
half_small x h = omega arith

word_low : (w : ℕ) → (w / 2 ^ 16 == 0) ≡ true → bit_or 0 w ≡ w
word_low w h = refl

word_high : (w : ℕ) → (w % 2 ^ 16 == 0) ≡ true → w / 2 ^ 16 * 2 ^ 16 ≡ w
word_high w h = grind arith

extended_high : (n : ℕ) → 2 ^ 15 ≤ n → n < 2 ^ 16 → extended n ≡ n + (2 ^ 32 - 2 ^ 16)
extended_high n h k = grind arith

pub extended_low : (n : ℕ) → n < 2 ^ 15 → extended n ≡ n
extended_low n h = grind arith

word_negative : (w : ℕ) → w < 2 ^ 32 → (w / 2 ^ 16 == 2 ^ 16 - 1 && nat_le (2 ^ 15) (w % 2 ^ 16)) ≡ true → plus 0 (extended (w % 2 ^ 16)) ≡ w
word_negative w h k = rw (extended_high (w % 2 ^ 16) (and_right (w / 2 ^ 16 == 2 ^ 16 - 1) (w % 2 ^ 16) k) (mod-lt w (omega arith))) (total w h (and_left (w / 2 ^ 16) (nat_le (2 ^ 15) (w % 2 ^ 16)) k))
  where
    and_right : (x : Bool) (n : ℕ) → (x && nat_le (2 ^ 15) n) ≡ true → 2 ^ 15 ≤ n
    and_right x n k = grind arith

    and_left : (n : ℕ) (y : Bool) → (n == 2 ^ 16 - 1 && y) ≡ true → n ≡ 2 ^ 16 - 1
    and_left n y k = grind arith

    total : (w : ℕ) → w < 2 ^ 32 → w / 2 ^ 16 ≡ 2 ^ 16 - 1 → (0 + (w % 2 ^ 16 + (2 ^ 32 - 2 ^ 16))) % 2 ^ 32 ≡ w
    total w h k = omega arith

word_joined : (w : ℕ) → bit_or (w / 2 ^ 16 * 2 ^ 16) (w % 2 ^ 16) ≡ w
word_joined w = or_shifted (w / 2 ^ 16) 16 (w % 2 ^ 16) (mod-lt w (omega arith)) ∙ joined w
  where
    joined : (w : ℕ) → w / 2 ^ 16 * 2 ^ 16 + w % 2 ^ 16 ≡ w
    joined w = omega arith

high_part : (w : ℕ) → w < 2 ^ 32 → w / 2 ^ 16 * 2 ^ 16 < 2 ^ 32
high_part w h = omega arith

pub put_word : (p : HardProgram) (size b : ℕ) (code : List Item) (a : Pairs) (to : Role) (x w : ℕ) → x ≡ w → Does p size b code a (put a to x false) → Does p size b code a (put a to w false)
put_word p size b code a to x w e f = subst (λ (z : ℕ). Does p size b code a (put a to z false)) e f

pub does_constant : (p : HardProgram) (size b : ℕ) (to : Role) (w : ℕ) (a : Pairs) → Free to → w < 2 ^ 32 → Does p size b (constant to w) a (put a to w false)
does_constant p size b to w a free small =
    elim (w / 2 ^ 16 == 0) as (λ z. (w / 2 ^ 16 == 0) ≡ z → Does p size b (cond z (both (λ t. mips.Ori (reg_in t to) 0 w)) other) a (put a to w false)) [
      | true ↦ λ e. does_zero p size b (λ x y. mips.Ori x y w) (λ x. bit_or x w) to a (two_ori p w) free small
      | false ↦ λ e. elim (w % 2 ^ 16 == 0) as (λ z. (w % 2 ^ 16 == 0) ≡ z → Does p size b (cond z (both (λ t. mips.Lui (reg_in t to) (w / 2 ^ 16))) another) a (put a to w false)) [
        | true ↦ λ e. put_word p size b (both (λ t. mips.Lui (reg_in t to) (w / 2 ^ 16))) a to (w / 2 ^ 16 * 2 ^ 16) w (word_high w e) (does_zero p size b (λ x y. mips.Lui x (w / 2 ^ 16)) (λ x. w / 2 ^ 16 * 2 ^ 16) to a (two_lui p (w / 2 ^ 16)) free (high_part w small))
        | false ↦ λ e. elim (w / 2 ^ 16 == 2 ^ 16 - 1 && nat_le (2 ^ 15) (w % 2 ^ 16)) as (λ z. (w / 2 ^ 16 == 2 ^ 16 - 1 && nat_le (2 ^ 15) (w % 2 ^ 16)) ≡ z → Does p size b (cond z (both (λ t. mips.Addiu (reg_in t to) 0 (w % 2 ^ 16))) last) a (put a to w false)) [
          | true ↦ λ e. put_word p size b (both (λ t. mips.Addiu (reg_in t to) 0 (w % 2 ^ 16))) a to (plus 0 (extended (w % 2 ^ 16))) w (word_negative w small e) (does_zero p size b (λ x y. mips.Addiu x y (w % 2 ^ 16)) (λ x. plus x (extended (w % 2 ^ 16))) to a (two_addiu p (w % 2 ^ 16)) free (subst (λ (z : ℕ). z < 2 ^ 32) (sym (word_negative w small e)) small))
          | false ↦ λ e. two_parts
        ] refl
      ] refl
    ] refl
  where
    last : List Item
    last = both (λ t. mips.Lui (reg_in t to) (w / 2 ^ 16)) ++ both (λ t. mips.Ori (reg_in t to) (reg_in t to) (w % 2 ^ 16))

    another : List Item
    another = if w / 2 ^ 16 == 2 ^ 16 - 1 && nat_le (2 ^ 15) (w % 2 ^ 16) then both (λ t. mips.Addiu (reg_in t to) 0 (w % 2 ^ 16)) else last

    other : List Item
    other = if w % 2 ^ 16 == 0 then both (λ t. mips.Lui (reg_in t to) (w / 2 ^ 16)) else another

    two_parts : Does p size b last a (put a to w false)
    two_parts =
        let h : ℕ = w / 2 ^ 16 * 2 ^ 16 in
        let a1 : Pairs = put a to h false in
        does_same p size b last a (put a1 to w false) (put a to w false)
        (does_then p size b (both (λ t. mips.Lui (reg_in t to) (w / 2 ^ 16))) (both (λ t. mips.Ori (reg_in t to) (reg_in t to) (w % 2 ^ 16))) a a1 (put a1 to w false)
        (does_zero p size b (λ x y. mips.Lui x (w / 2 ^ 16)) (λ x. h) to a (two_lui p (w / 2 ^ 16)) free (high_part w small))
        (put_word p size b (both (λ t. mips.Ori (reg_in t to) (reg_in t to) (w % 2 ^ 16))) a1 to (bit_or (a1.file to) (w % 2 ^ 16)) w (ap (λ (z : ℕ). bit_or z (w % 2 ^ 16)) (put_there a to h false) ∙ word_joined w)
        (does_two p size b (λ x y. mips.Ori x y (w % 2 ^ 16)) (λ x. bit_or x (w % 2 ^ 16)) to to a1 (two_ori p (w % 2 ^ 16)) free (free_plain a to h free)
        (subst (λ (z : ℕ). z < 2 ^ 32) (sym (ap (λ (z : ℕ). bit_or z (w % 2 ^ 16)) (put_there a to h false) ∙ word_joined w)) small))))
        (put_twice a to h w)

copy_small : (w : ℕ) → w < 2 ^ 32 → (w + 0) % 2 ^ 32 ≡ w
copy_small w h = omega arith

pub does_move : (p : HardProgram) (size b : ℕ) (to from : Role) (a : Pairs) → Free to → Plain a from → a.file from < 2 ^ 32 → Does p size b (move to from) a (put a to (a.file from) false)
does_move p size b to from a free plain small = put_word p size b (move to from) a to ((a.file from + 0) % 2 ^ 32) (a.file from) (copy_small (a.file from) small)
    (does_two p size b (λ x y. mips.Addu x y 0) (λ x. (x + 0) % 2 ^ 32) to from a (two_copy p) free plain (subst (λ (z : ℕ). z < 2 ^ 32) (sym (copy_small (a.file from) small)) small))

-- ---- products and quotients

ok_same : (x y : ℕ) → ◌≡◌ {A = Result ℕ ℕ} (Ok x) (Ok y) → x ≡ y
ok_same x y e = ap (λ (r : Result ℕ ℕ). elim r as (λ z. ℕ) [ Ok v ↦ v | Err k ↦ 0 ]) e

sum_of : (p x y : ℕ) → p + x ≡ 2 ^ 32 → p * y + x * y ≡ 2 ^ 32 * y
sum_of p x y h = sym (Rattle.std.proofs.Common.add-mul p x y) ∙ ap (λ (n : ℕ). n * y) h

neg_low : (n m : ℕ) → (y : ℕ) → n + m ≡ 2 ^ 32 * y → y ≤ 2 ^ 32 → cast_unsigned w64 (Rattle.std.specs.Prelude.neg_ℤ (pos n)) % 2 ^ 32 ≡ m % 2 ^ 32
neg_low zero m y h k = omega arith
neg_low (suc n) m y h k = omega arith

below_pos : (x : ℕ) → x < 2 ^ 31 → signed x ≡ pos x
below_pos x h = grind arith

above_neg : (x : ℕ) → 2 ^ 31 ≤ x → signed x ≡ negsuc (2 ^ 32 - suc x)
above_neg x h = grind arith

suc_of : (x : ℕ) → x < 2 ^ 32 → suc (2 ^ 32 - suc x) + x ≡ 2 ^ 32
suc_of x h = omega arith

suc_le : (x : ℕ) → x ≤ 2 ^ 32 → x < 2 ^ 32 → x ≤ 2 ^ 32
suc_le x h k = h

both_neg : (u v x y : ℕ) → u + x ≡ 2 ^ 32 → v + y ≡ 2 ^ 32 → (u * v) % 2 ^ 32 ≡ (x * y) % 2 ^ 32
both_neg u v x y e f = last (u * v) (x * v) (x * y) v x (sum_of u x v e) (Rattle.std.proofs.Common.mul_comm v x) (sum_of v y x f) (Rattle.std.proofs.Common.mul_comm y x)
  where
    last : (uv xv xy v x : ℕ) → {vx yx : ℕ} → uv + xv ≡ 2 ^ 32 * v → vx ≡ xv → vx + yx ≡ 2 ^ 32 * x → yx ≡ xy → uv % 2 ^ 32 ≡ xy % 2 ^ 32
    last uv xv xy v x {vx} {yx} a b c d = omega arith

low_product : (x y : ℕ) → x < 2 ^ 32 → y < 2 ^ 32 → (signed_product x y).1 ≡ (x * y) % 2 ^ 32
low_product x y h k = elim (split x) as (λ z. (signed_product x y).1 ≡ (x * y) % 2 ^ 32) [
  | inl p ↦ elim (split y) as (λ z. (signed_product x y).1 ≡ (x * y) % 2 ^ 32) [
    | inl q ↦ rw (below_pos x p, below_pos y q) refl
    | inr q ↦ rw (below_pos x p, above_neg y q) (neg_low (x * suc (2 ^ 32 - suc y)) (x * y) x (ap (λ (n : ℕ). n + x * y) (Rattle.std.proofs.Common.mul_comm x (suc (2 ^ 32 - suc y))) ∙ (ap (λ (n : ℕ). suc (2 ^ 32 - suc y) * x + n) (Rattle.std.proofs.Common.mul_comm x y) ∙ sum_of (suc (2 ^ 32 - suc y)) y x (suc_of y k))) (Rattle.std.proofs.Common.le_of_lt h))
  ]
  | inr p ↦ elim (split y) as (λ z. (signed_product x y).1 ≡ (x * y) % 2 ^ 32) [
    | inl q ↦ rw (above_neg x p, below_pos y q) (neg_low (suc (2 ^ 32 - suc x) * y) (x * y) y (sum_of (suc (2 ^ 32 - suc x)) x y (suc_of x h)) (Rattle.std.proofs.Common.le_of_lt k))
    | inr q ↦ rw (above_neg x p, above_neg y q) (both_neg (suc (2 ^ 32 - suc x)) (suc (2 ^ 32 - suc y)) x y (suc_of x h) (suc_of y k))
  ]
]
  where
    split : (n : ℕ) → (n < 2 ^ 31) ⊎ (2 ^ 31 ≤ n)
    split n = Rattle.std.proofs.lemmas.Bool.cases_lt n (2 ^ 31)

-- the quotient and the remainder of words are words
abs_neg : (n : ℕ) → Rattle.std.specs.Prelude.unsigned_abs (Rattle.std.specs.Prelude.neg_ℤ (pos n)) ≡ n
abs_neg zero = refl
abs_neg (suc n) = refl

from_abs : (z : ℤ) → Rattle.std.specs.Prelude.unsigned_abs z < 2 ^ 32 → cast_unsigned w32 z < 2 ^ 32
from_abs (pos n) h = h
from_abs (negsuc n) h = omega arith

quot_abs : (y z : ℤ) → Rattle.std.specs.Prelude.unsigned_abs (int_div y z) ≤ Rattle.std.specs.Prelude.unsigned_abs y
quot_abs (pos a) (pos c) = Rattle.std.proofs.Common.div-le_self a c
quot_abs (pos a) (negsuc c) = rw abs_neg (Rattle.std.proofs.Common.div-le_self a (suc c))
quot_abs (negsuc a) (pos c) = rw abs_neg (Rattle.std.proofs.Common.div-le_self (suc a) c)
quot_abs (negsuc a) (negsuc c) = Rattle.std.proofs.Common.div-le_self (suc a) (suc c)

rem_small : (a c : ℕ) → a % c ≤ a
rem_small a c = omega arith

rem_abs : (y z : ℤ) → Rattle.std.specs.Prelude.unsigned_abs (int_rem y z) ≤ Rattle.std.specs.Prelude.unsigned_abs y
rem_abs (pos a) z = rem_small a (Rattle.std.specs.Prelude.unsigned_abs z)
rem_abs (negsuc a) z = rw abs_neg (rem_small (suc a) (Rattle.std.specs.Prelude.unsigned_abs z))

abs_signed : (x : ℕ) → x < 2 ^ 32 → Rattle.std.specs.Prelude.unsigned_abs (signed x) < 2 ^ 32
abs_signed x h = elim (Rattle.std.proofs.lemmas.Bool.cases_lt x (2 ^ 31)) as (λ z. Rattle.std.specs.Prelude.unsigned_abs (signed x) < 2 ^ 32) [
  | inl p ↦ rw (below_pos x p) h
  | inr p ↦ rw (above_neg x p) (neg_fits x p)
]
  where
    neg_fits : (x : ℕ) → 2 ^ 31 ≤ x → suc (2 ^ 32 - suc x) < 2 ^ 32
    neg_fits x p = omega arith

quot_word : (x y : ℕ) → x < 2 ^ 32 → cast_unsigned w32 (int_div (signed x) (signed y)) < 2 ^ 32
quot_word x y h = from_abs (int_div (signed x) (signed y)) (Rattle.std.proofs.Common.lt_of_le_of_lt (quot_abs (signed x) (signed y)) (abs_signed x h))

rem_word : (x y : ℕ) → x < 2 ^ 32 → cast_unsigned w32 (int_rem (signed x) (signed y)) < 2 ^ 32
rem_word x y h = from_abs (int_rem (signed x) (signed y)) (Rattle.std.proofs.Common.lt_of_le_of_lt (rem_abs (signed x) (signed y)) (abs_signed x h))

-- ---- an operation that doesn't trap

-- where a quotient is there, it is that of the machine
err_ok : (k v : ℕ) → ◌≡◌ {A = Result ℕ ℕ} (Err k) (Ok v) → ⊥
err_ok k v e = cc

sign_ok : (x y r v : ℕ) → with_sign x y r ≡ Ok v → ((y == 0) ≡ false) × (r ≡ v)
sign_ok x y r v h = elim (y == 0) as (λ z. cond {A = Result ℕ ℕ} z (Err 7) (cond {A = Result ℕ ℕ} (x == 2 ^ 31 && y == 2 ^ 32 - 1) (Err 6) (Ok r)) ≡ Ok v → (z ≡ false) × (r ≡ v)) [
  | true ↦ λ e. absurd (err_ok 7 v e)
  | false ↦ λ e. (
    refl,
    elim (x == 2 ^ 31 && y == 2 ^ 32 - 1) as (λ z. cond {A = Result ℕ ℕ} z (Err 6) (Ok r) ≡ Ok v → r ≡ v) [
      | true ↦ λ f. absurd (err_ok 6 v f)
      | false ↦ λ f. ok_same r v f
    ] e,
  )
] h

unsigned_ok : (y r v : ℕ) → by_non_zero y r ≡ Ok v → ((y == 0) ≡ false) × (r ≡ v)
unsigned_ok y r v h = elim (y == 0) as (λ z. cond {A = Result ℕ ℕ} z (Err 7) (Ok r) ≡ Ok v → (z ≡ false) × (r ≡ v)) [
  | true ↦ λ e. absurd (err_ok 7 v e)
  | false ↦ λ e. (refl, ok_same r v e)
] h

cond_false : {A : Type 0} (z : Bool) (u w : A) → z ≡ false → cond z u w ≡ w
cond_false z u w e = rw e refl

signed_parts : (x y : ℕ) → (y == 0) ≡ false → signed_division x y ≡ (cast_unsigned w32 (int_rem (signed x) (signed y)), cast_unsigned w32 (int_div (signed x) (signed y)))
signed_parts x y e = cond_false (y == 0) (x, 2 ^ 32 - 1) (cast_unsigned w32 (int_rem (signed x) (signed y)), cast_unsigned w32 (int_div (signed x) (signed y))) e

unsigned_parts : (x y : ℕ) → (y == 0) ≡ false → division x y ≡ (x % y, x / y)
unsigned_parts x y e = cond_false (y == 0) (x, 2 ^ 32 - 1) (x % y, x / y) e

-- a product instruction of two registers, and a move of its high or low word
low_move : (p : HardProgram) (size b : ℕ) (f : ℕ → ℕ → Instr) (fn : ℕ → ℕ → ℕ × ℕ) (to q r : Role) (a : Pairs) → Free to → Plain a q → Plain a r → (fn (a.file q) (a.file r)).1 < 2 ^ 32 →
    ((y z : ℕ) (s : machine.State) → machine.act (f y z) s ≡ Both (fn (slice_index s.regs y) (slice_index s.regs z)).0 (fn (slice_index s.regs y) (slice_index s.regs z)).1) →
    ((y z : ℕ) (i : Item) (d : Data) → way_of p i d (f y z) ≡ Onward) → ((y z : ℕ) (d : Data) → Placed (f y z) d) → ((y z n : ℕ) (d : Data) → Returns p n (f y z) d) → ((y z : ℕ) (d : Data) → d.backs y ≡ false → d.backs z ≡ false → Reads (f y z) d) →
    Does p size b (product (λ t. f (reg_in t q) (reg_in t r)) (λ t. mips.Mflo (reg_in t to))) a (put a to (fn (a.file q) (a.file r)).1 false)
low_move p size b f fn to q r a free pq pr small act way placed returns reads = does_product p size b (λ t. f (reg_in t q) (reg_in t r)) (λ t. mips.Mflo (reg_in t to)) to a (fn (a.file q) (a.file r)).1 (record {
  fits = free.fits;
  back_fits = free.back;
  word = small;
  high = (fn (a.file q) (a.file r)).0;
  low = (fn (a.file q) (a.file r)).1;
  act = λ t d s e. act (reg_in t q) (reg_in t r) (machine_of d) ∙
      (ap (λ (x : ℕ). Both (fn x (held d (reg_in t r))).0 (fn x (held d (reg_in t r))).1) (e.file q pq.fits) ∙ ap (λ (x : ℕ). Both (fn (a.file q) x).0 (fn (a.file q) x).1) (e.file r pr.fits));
  move = λ t d. refl;
  way = λ t i d. way (reg_in t q) (reg_in t r) i d;
  way_move = λ t i d. refl;
  placed = λ t d. (placed (reg_in t q) (reg_in t r) d, tt);
  returns = λ t n d. (returns (reg_in t q) (reg_in t r) n d, tt);
  reads = λ t d s e. reads (reg_in t q) (reg_in t r) d (e.backs q pq.fits ∙ pq.no_number) (e.backs r pr.fits ∙ pr.no_number);
  reads_move = λ t d. tt;
})

high_move : (p : HardProgram) (size b : ℕ) (f : ℕ → ℕ → Instr) (fn : ℕ → ℕ → ℕ × ℕ) (to q r : Role) (a : Pairs) → Free to → Plain a q → Plain a r → (fn (a.file q) (a.file r)).0 < 2 ^ 32 →
    ((y z : ℕ) (s : machine.State) → machine.act (f y z) s ≡ Both (fn (slice_index s.regs y) (slice_index s.regs z)).0 (fn (slice_index s.regs y) (slice_index s.regs z)).1) →
    ((y z : ℕ) (i : Item) (d : Data) → way_of p i d (f y z) ≡ Onward) → ((y z : ℕ) (d : Data) → Placed (f y z) d) → ((y z n : ℕ) (d : Data) → Returns p n (f y z) d) → ((y z : ℕ) (d : Data) → d.backs y ≡ false → d.backs z ≡ false → Reads (f y z) d) →
    Does p size b (product (λ t. f (reg_in t q) (reg_in t r)) (λ t. mips.Mfhi (reg_in t to))) a (put a to (fn (a.file q) (a.file r)).0 false)
high_move p size b f fn to q r a free pq pr small act way placed returns reads = does_product p size b (λ t. f (reg_in t q) (reg_in t r)) (λ t. mips.Mfhi (reg_in t to)) to a (fn (a.file q) (a.file r)).0 (record {
  fits = free.fits;
  back_fits = free.back;
  word = small;
  high = (fn (a.file q) (a.file r)).0;
  low = (fn (a.file q) (a.file r)).1;
  act = λ t d s e. act (reg_in t q) (reg_in t r) (machine_of d) ∙
      (ap (λ (x : ℕ). Both (fn x (held d (reg_in t r))).0 (fn x (held d (reg_in t r))).1) (e.file q pq.fits) ∙ ap (λ (x : ℕ). Both (fn (a.file q) x).0 (fn (a.file q) x).1) (e.file r pr.fits));
  move = λ t d. refl;
  way = λ t i d. way (reg_in t q) (reg_in t r) i d;
  way_move = λ t i d. refl;
  placed = λ t d. (placed (reg_in t q) (reg_in t r) d, tt);
  returns = λ t n d. (returns (reg_in t q) (reg_in t r) n d, tt);
  reads = λ t d s e. reads (reg_in t q) (reg_in t r) d (e.backs q pq.fits ∙ pq.no_number) (e.backs r pr.fits ∙ pr.no_number);
  reads_move = λ t d. tt;
})

-- a value by the equation that names it
into : (p : HardProgram) (size b : ℕ) (code : List Item) (a : Pairs) (to : Role) (x v : ℕ) → ◌≡◌ {A = Result ℕ ℕ} (Ok x) (Ok v) → Does p size b code a (put a to x false) → Does p size b code a (put a to v false)
into p size b code a to x v e f = put_word p size b code a to x v (ok_same x v e) f

pub does_operation : (p : HardProgram) (size b : ℕ) (o : MidOp) (to q r : Role) (a : Pairs) (v : ℕ) → Free to → Plain a q → Plain a r → AreWords size a → operate o (a.file q) (a.file r) ≡ Ok v → Does p size b (operation o to q r) a (put a to v false)
does_operation p size b op.Add to q r a v f pq pr w e = into p size b (operation op.Add to q r) a to ((a.file q + a.file r) % 2 ^ 32) v e (does_three p size b mips.Addu (λ x y. (x + y) % 2 ^ 32) to q r a (three_add p) f pq pr (mod-lt (a.file q + a.file r) (omega arith)))
does_operation p size b op.Sub to q r a v f pq pr w e = into p size b (operation op.Sub to q r) a to ((a.file q + (2 ^ 32 - a.file r)) % 2 ^ 32) v e (does_three p size b mips.Subu (λ x y. (x + (2 ^ 32 - y)) % 2 ^ 32) to q r a (three_sub p) f pq pr (mod-lt (a.file q + (2 ^ 32 - a.file r)) (omega arith)))
does_operation p size b op.Mul to q r a v f pq pr w e =
    into p size b (operation op.Mul to q r) a to ((a.file q * a.file r) % 2 ^ 32) v e
    (put_word p size b (operation op.Mul to q r) a to (signed_product (a.file q) (a.file r)).1 ((a.file q * a.file r) % 2 ^ 32) (low_product (a.file q) (a.file r) (w.file q) (w.file r))
    (low_move p size b mips.Mult signed_product to q r a f pq pr (subst (λ (n : ℕ). n < 2 ^ 32) (sym (low_product (a.file q) (a.file r) (w.file q) (w.file r))) (mod-lt (a.file q * a.file r) (omega arith)))
    (λ y z s. refl) (λ y z i d. refl) (λ y z d. tt) (λ y z n d. tt) (λ y z d u t. (u, (t, tt)))))
does_operation p size b op.Div to q r a v f pq pr w e =
    let k : ((a.file r == 0) ≡ false) × (cast_unsigned w32 (int_div (signed (a.file q)) (signed (a.file r))) ≡ v) = sign_ok (a.file q) (a.file r) (cast_unsigned w32 (int_div (signed (a.file q)) (signed (a.file r)))) v e in
    let is : (signed_division (a.file q) (a.file r)).1 ≡ cast_unsigned w32 (int_div (signed (a.file q)) (signed (a.file r))) = ap (λ (x : ℕ × ℕ). x.1) (signed_parts (a.file q) (a.file r) k.0) in
    put_word p size b (operation op.Div to q r) a to (signed_division (a.file q) (a.file r)).1 v (is ∙ k.1)
    (low_move p size b mips.Div signed_division to q r a f pq pr (subst (λ (n : ℕ). n < 2 ^ 32) (sym is) (quot_word (a.file q) (a.file r) (w.file q)))
    (λ y z s. refl) (λ y z i d. refl) (λ y z d. tt) (λ y z n d. tt) (λ y z d u t. (u, (t, tt))))
does_operation p size b op.DivU to q r a v f pq pr w e =
    let k : ((a.file r == 0) ≡ false) × (a.file q / a.file r ≡ v) = unsigned_ok (a.file r) (a.file q / a.file r) v e in
    let is : (division (a.file q) (a.file r)).1 ≡ a.file q / a.file r = ap (λ (x : ℕ × ℕ). x.1) (unsigned_parts (a.file q) (a.file r) k.0) in
    put_word p size b (operation op.DivU to q r) a to (division (a.file q) (a.file r)).1 v (is ∙ k.1)
    (low_move p size b mips.Divu division to q r a f pq pr (subst (λ (n : ℕ). n < 2 ^ 32) (sym is) (Rattle.std.proofs.Common.lt_of_le_of_lt (Rattle.std.proofs.Common.div-le_self (a.file q) (a.file r)) (w.file q)))
    (λ y z s. refl) (λ y z i d. refl) (λ y z d. tt) (λ y z n d. tt) (λ y z d u t. (u, (t, tt))))
does_operation p size b op.Rem to q r a v f pq pr w e =
    let k : ((a.file r == 0) ≡ false) × (cast_unsigned w32 (int_rem (signed (a.file q)) (signed (a.file r))) ≡ v) = sign_ok (a.file q) (a.file r) (cast_unsigned w32 (int_rem (signed (a.file q)) (signed (a.file r)))) v e in
    let is : (signed_division (a.file q) (a.file r)).0 ≡ cast_unsigned w32 (int_rem (signed (a.file q)) (signed (a.file r))) = ap (λ (x : ℕ × ℕ). x.0) (signed_parts (a.file q) (a.file r) k.0) in
    put_word p size b (operation op.Rem to q r) a to (signed_division (a.file q) (a.file r)).0 v (is ∙ k.1)
    (high_move p size b mips.Div signed_division to q r a f pq pr (subst (λ (n : ℕ). n < 2 ^ 32) (sym is) (rem_word (a.file q) (a.file r) (w.file q)))
    (λ y z s. refl) (λ y z i d. refl) (λ y z d. tt) (λ y z n d. tt) (λ y z d u t. (u, (t, tt))))
does_operation p size b op.RemU to q r a v f pq pr w e =
    let k : ((a.file r == 0) ≡ false) × (a.file q % a.file r ≡ v) = unsigned_ok (a.file r) (a.file q % a.file r) v e in
    let is : (division (a.file q) (a.file r)).0 ≡ a.file q % a.file r = ap (λ (x : ℕ × ℕ). x.0) (unsigned_parts (a.file q) (a.file r) k.0) in
    put_word p size b (operation op.RemU to q r) a to (division (a.file q) (a.file r)).0 v (is ∙ k.1)
    (high_move p size b mips.Divu division to q r a f pq pr (subst (λ (n : ℕ). n < 2 ^ 32) (sym is) (Rattle.std.proofs.Common.lt_of_le_of_lt (rem_small (a.file q) (a.file r)) (w.file q)))
    (λ y z s. refl) (λ y z i d. refl) (λ y z d. tt) (λ y z n d. tt) (λ y z d u t. (u, (t, tt))))
does_operation p size b op.Shl to q r a v f pq pr w e = into p size b (operation op.Shl to q r) a to ((a.file q * 2 ^ (a.file r % 32)) % 2 ^ 32) v e (does_three p size b mips.Sllv (λ x y. (x * 2 ^ (y % 32)) % 2 ^ 32) to q r a (three_left p) f pq pr (mod-lt (a.file q * 2 ^ (a.file r % 32)) (omega arith)))
does_operation p size b op.Shr to q r a v f pq pr w e = into p size b (operation op.Shr to q r) a to (a.file q / 2 ^ (a.file r % 32)) v e (does_three p size b mips.Srlv (λ x y. x / 2 ^ (y % 32)) to q r a (three_right p) f pq pr (shift_small (a.file q) (a.file r % 32) (w.file q)))
does_operation p size b op.Sar to q r a v f pq pr w e = into p size b (operation op.Sar to q r) a to (signed_shift (a.file q) (a.file r)) v e (does_three p size b mips.Srav signed_shift to q r a (three_signed p) f pq pr (signed_shift_small (a.file q) (a.file r) (w.file q)))
does_operation p size b op.And to q r a v f pq pr w e = into p size b (operation op.And to q r) a to (bit_and (a.file q) (a.file r)) v e (does_three p size b mips.And bit_and to q r a (three_and p) f pq pr (Rattle.std.proofs.Common.lt_of_le_of_lt (and_le_l (a.file q) (a.file r)) (w.file q)))
does_operation p size b op.Or to q r a v f pq pr w e = into p size b (operation op.Or to q r) a to (bit_or (a.file q) (a.file r)) v e (does_three p size b mips.Or bit_or to q r a (three_or p) f pq pr (or_lt 32 (a.file q) (a.file r) (w.file q) (w.file r)))
does_operation p size b op.Xor to q r a v f pq pr w e = into p size b (operation op.Xor to q r) a to (bit_xor (a.file q) (a.file r)) v e (does_three p size b mips.Xor bit_xor to q r a (three_xor p) f pq pr (xor_lt 32 (a.file q) (a.file r) (w.file q) (w.file r)))
does_operation p size b op.Lt to q r a v f pq pr w e = into p size b (operation op.Lt to q r) a to (truth (int_lt (signed (a.file q)) (signed (a.file r)))) v e (does_three p size b mips.Slt (λ x y. truth (int_lt (signed x) (signed y))) to q r a (three_less p) f pq pr (truth_small (int_lt (signed (a.file q)) (signed (a.file r)))))
does_operation p size b op.LtU to q r a v f pq pr w e = into p size b (operation op.LtU to q r) a to (truth (nat_lt (a.file q) (a.file r))) v e (does_three p size b mips.Sltu (λ x y. truth (nat_lt x y)) to q r a (three_below p) f pq pr (truth_small (nat_lt (a.file q) (a.file r))))
does_operation p size b op.Eq to q r a v f pq pr w e =
    let x : ℕ = bit_xor (a.file q) (a.file r) in
    let a1 : Pairs = put a to x false in
    let is : truth (nat_lt (a1.file to) (extended 1)) ≡ truth (a.file q == a.file r) = ap (λ (n : ℕ). truth (nat_lt n (extended 1))) (put_there a to x false) ∙ equal_fn (a.file q) (a.file r) in
    into p size b (operation op.Eq to q r) a to (truth (a.file q == a.file r)) v e
    (does_same p size b (operation op.Eq to q r) a (put a1 to (truth (a.file q == a.file r)) false) (put a to (truth (a.file q == a.file r)) false)
    (does_then p size b (three mips.Xor to q r) (both (λ t. mips.Sltiu (reg_in t to) (reg_in t to) 1)) a a1 (put a1 to (truth (a.file q == a.file r)) false)
    (does_three p size b mips.Xor bit_xor to q r a (three_xor p) f pq pr (xor_lt 32 (a.file q) (a.file r) (w.file q) (w.file r)))
    (put_word p size b (both (λ t. mips.Sltiu (reg_in t to) (reg_in t to) 1)) a1 to (truth (nat_lt (a1.file to) (extended 1))) (truth (a.file q == a.file r)) is
    (does_two p size b (λ x y. mips.Sltiu x y 1) (λ x. truth (nat_lt x (extended 1))) to to a1 (two_sltiu p 1) f (free_plain a to x f) (truth_small (nat_lt (a1.file to) (extended 1))))))
    (put_twice a to x (truth (a.file q == a.file r))))
does_operation p size b op.Ne to q r a v f pq pr w e =
    let x : ℕ = bit_xor (a.file q) (a.file r) in
    let a1 : Pairs = put a to x false in
    let is : truth (nat_lt 0 (a1.file to)) ≡ truth (not (a.file q == a.file r)) = ap (λ (n : ℕ). truth (nat_lt 0 n)) (put_there a to x false) ∙ differ_fn (a.file q) (a.file r) in
    into p size b (operation op.Ne to q r) a to (truth (not (a.file q == a.file r))) v e
    (does_same p size b (operation op.Ne to q r) a (put a1 to (truth (not (a.file q == a.file r))) false) (put a to (truth (not (a.file q == a.file r))) false)
    (does_then p size b (three mips.Xor to q r) (both (λ t. mips.Sltu (reg_in t to) 0 (reg_in t to))) a a1 (put a1 to (truth (not (a.file q == a.file r))) false)
    (does_three p size b mips.Xor bit_xor to q r a (three_xor p) f pq pr (xor_lt 32 (a.file q) (a.file r) (w.file q) (w.file r)))
    (put_word p size b (both (λ t. mips.Sltu (reg_in t to) 0 (reg_in t to))) a1 to (truth (nat_lt 0 (a1.file to))) (truth (not (a.file q == a.file r))) is
    (does_two p size b (λ x y. mips.Sltu x 0 y) (λ x. truth (nat_lt 0 x)) to to a1 (two_positive p) f (free_plain a to x f) (truth_small (nat_lt 0 (a1.file to))))))
    (put_twice a to x (truth (not (a.file q == a.file r)))))
