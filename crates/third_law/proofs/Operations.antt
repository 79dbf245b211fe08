-- Constants, copies and operations in all streams.
use Rattle.std.proofs.Common.{◌≡◌, ◌≢◌, ◌≤◌, ◌<◌, ℕ, zero, suc, ◌+◌, ◌-◌, ◌*◌, ◌/◌, ◌%◌, ◌^◌, arith, ap, refl, sym, ◌∙◌, subst, List, [], ◌∷◌, ◌++◌, append_assoc, length, get_or, Bool, true, false, cond, not, inl, inr, le_refl, mod-lt, ℤ, pos, negsuc, w32, w64}
use Rattle.std.specs.Prelude.{Result, Ok, ◌==◌, ◌&&◌, nat_le, nat_lt, slice_index, if◌then◌else◌, bit_or, bit_and, bit_xor, int_lt, int_div, int_rem}
use Rattle.std.specs.Int.{cast_unsigned}
use Rattle.std.proofs.lemmas.Nat.{and_le_l, or_lt, xor_lt}
use Rattle.hard_words.specs.Words.{extended, signed, signed_shift, signed_product, signed_division, division}
use Rattle.mips_isa.specs.declared.instr.Instr.{Instr}
use Rattle.mips_isa.specs.declared.instr.Instr.TheVariants as mips
use Rattle.mips_isa.specs.declared.instr.Act.TheVariants.{Write, Both, Move}
use Rattle.mips_isa.specs.Machine as machine
use Rattle.mips_isa.specs.Machine.{State, plus}
use Rattle.mid_blocks.specs.declared.code.MidOp.{MidOp}
use Rattle.mid_blocks.specs.declared.code.MidOp.TheVariants as op
use Rattle.mid_blocks.specs.Run.{operate, truth}
use Rattle.third_law.specs.declared.roles.Role.{Role}
use Rattle.third_law.specs.declared.roles.Role.TheVariants.{Value, Stack, Link}
use Rattle.third_law.specs.Roles.{reg_in, each, product, move}
use Rattle.third_law.specs.Emitted.{constant, three, operation}
use Rattle.third_law.specs.Roles.{RoleFits}
use Rattle.hard_words.proofs.Shifts.{signed_shift_small}
use Rattle.third_law.proofs.Sights.{Sight, AreWords, put, same_role, reg_high}
use Rattle.third_law.proofs.Voting.{GoodBy}
use Rattle.third_law.proofs.Leading.{Runnable, Does, does_then, does_each, does_product, SameSight, does_same}
use Rattle.third_law.proofs.Arithmetic.{truth_small, shift_small, equal_fn, differ_fn, word_high, word_negative, word_joined, high_part, copy_small, ok_same, low_product, rem_small, quot_word, rem_word, sign_ok, unsigned_ok, signed_parts, unsigned_parts}

-- ---- a computation from two registers

-- an instruction that computes from two registers
pub record Three (f : ℕ → ℕ → ℕ → Instr) (fn : ℕ → ℕ → ℕ) : Type 0 where
  pub acts : (x y z : ℕ) (s : State) → machine.act (f x y z) s ≡ Write x (fn (slice_index s.regs y) (slice_index s.regs z))
  pub good : (x y z : ℕ) (s : State) → 4 ≤ x → GoodBy s (f x y z)

pub does_three : (p : Runnable) (size : ℕ) (f : ℕ → ℕ → ℕ → Instr) (fn : ℕ → ℕ → ℕ) (to q r : Role) (a : Sight) → Three f fn → RoleFits to → RoleFits q → RoleFits r → fn (a.file q) (a.file r) < 2 ^ 32 →
    Does p size (three f to q r) a (put a to (fn (a.file q) (a.file r)))
does_three p size f fn to q r a i free pq pr small = does_each p size (λ t. f (reg_in t to) (reg_in t q) (reg_in t r)) to a (fn (a.file q) (a.file r)) (record {
  fits = free;
  word = small;
  acts = λ t s o e. i.acts (reg_in t to) (reg_in t q) (reg_in t r) s ∙
      (ap (λ (x : ℕ). Write (reg_in t to) (fn x (slice_index s.regs (reg_in t r)))) (e.file q pq) ∙ ap (λ (x : ℕ). Write (reg_in t to) (fn (a.file q) x)) (e.file r pr));
  good = λ t s. i.good (reg_in t to) (reg_in t q) (reg_in t r) s (reg_high t to);
})

-- an instruction that computes from one register, or from $0
pub record Two (f : ℕ → ℕ → Instr) (fn : ℕ → ℕ) : Type 0 where
  pub acts : (x y : ℕ) (s : State) → slice_index s.regs 0 ≡ 0 → machine.act (f x y) s ≡ Write x (fn (slice_index s.regs y))
  pub good : (x y : ℕ) (s : State) → GoodBy s (f x y)

pub does_two : (p : Runnable) (size : ℕ) (f : ℕ → ℕ → Instr) (fn : ℕ → ℕ) (to q : Role) (a : Sight) → Two f fn → RoleFits to → RoleFits q → fn (a.file q) < 2 ^ 32 →
    Does p size (each (λ t. f (reg_in t to) (reg_in t q))) a (put a to (fn (a.file q)))
does_two p size f fn to q a i free pq small = does_each p size (λ t. f (reg_in t to) (reg_in t q)) to a (fn (a.file q)) (record {
  fits = free;
  word = small;
  acts = λ t s o e. i.acts (reg_in t to) (reg_in t q) s o.zero_ ∙ ap (λ (x : ℕ). Write (reg_in t to) (fn x)) (e.file q pq);
  good = λ t s. i.good (reg_in t to) (reg_in t q) s;
})

pub does_zero : (p : Runnable) (size : ℕ) (f : ℕ → ℕ → Instr) (fn : ℕ → ℕ) (to : Role) (a : Sight) → Two f fn → RoleFits to → fn 0 < 2 ^ 32 →
    Does p size (each (λ t. f (reg_in t to) 0)) a (put a to (fn 0))
does_zero p size f fn to a i free small = does_each p size (λ t. f (reg_in t to) 0) to a (fn 0) (record {
  fits = free;
  word = small;
  acts = λ t s o e. i.acts (reg_in t to) 0 s o.zero_ ∙ ap (λ (x : ℕ). Write (reg_in t to) (fn x)) o.zero_;
  good = λ t s. i.good (reg_in t to) 0 s;
})

-- ---- the table of them

pub three_add : Three mips.Addu (λ x y. (x + y) % 2 ^ 32)
three_add = record { acts = λ x y z s. refl; good = λ x y z s h. tt }

pub three_sub : Three mips.Subu (λ x y. (x + (2 ^ 32 - y)) % 2 ^ 32)
three_sub = record { acts = λ x y z s. refl; good = λ x y z s h. tt }

-- no register of a stream is that of a vote
not_one : (x : ℕ) → 4 ≤ x → x ≡ 1 → ⊥
not_one x h e = omega arith

pub three_and : Three mips.And bit_and
three_and = record { acts = λ x y z s. refl; good = λ x y z s h e. absurd (not_one x h e) }

pub three_or : Three mips.Or bit_or
three_or = record { acts = λ x y z s. refl; good = λ x y z s h. tt }

pub three_xor : Three mips.Xor bit_xor
three_xor = record { acts = λ x y z s. refl; good = λ x y z s h. tt }

pub three_less : Three mips.Slt (λ x y. truth (int_lt (signed x) (signed y)))
three_less = record { acts = λ x y z s. refl; good = λ x y z s h. tt }

pub three_below : Three mips.Sltu (λ x y. truth (nat_lt x y))
three_below = record { acts = λ x y z s. refl; good = λ x y z s h. tt }

pub three_left : Three mips.Sllv (λ x y. (x * 2 ^ (y % 32)) % 2 ^ 32)
three_left = record { acts = λ x y z s. refl; good = λ x y z s h. tt }

pub three_right : Three mips.Srlv (λ x y. x / 2 ^ (y % 32))
three_right = record { acts = λ x y z s. refl; good = λ x y z s h. tt }

pub three_signed : Three mips.Srav signed_shift
three_signed = record { acts = λ x y z s. refl; good = λ x y z s h. tt }

-- a copy, by addition of $0
pub two_copy : Two (λ x y. mips.Addu x y 0) (λ x. (x + 0) % 2 ^ 32)
two_copy = record { acts = λ x y s e. ap (λ (z : ℕ). Write x ((slice_index s.regs y + z) % 2 ^ 32)) e; good = λ x y s. tt }

pub two_ori : (n : ℕ) → Two (λ x y. mips.Ori x y n) (λ x. bit_or x n)
two_ori n = record { acts = λ x y s e. refl; good = λ x y s. tt }

pub two_addiu : (n : ℕ) → Two (λ x y. mips.Addiu x y n) (λ x. plus x (extended n))
two_addiu n = record { acts = λ x y s e. refl; good = λ x y s. tt }

pub two_sltiu : (n : ℕ) → Two (λ x y. mips.Sltiu x y n) (λ x. truth (nat_lt x (extended n)))
two_sltiu n = record { acts = λ x y s e. refl; good = λ x y s. tt }

pub two_lui : (n : ℕ) → Two (λ x y. mips.Lui x n) (λ x. n * 2 ^ 16)
two_lui n = record { acts = λ x y s e. refl; good = λ x y s. tt }

pub two_shift : (n : ℕ) → Two (λ x y. mips.Sll x y n) (λ x. (x * 2 ^ n) % 2 ^ 32)
two_shift n = record { acts = λ x y s e. refl; good = λ x y s. tt }

pub two_nor : Two (λ x y. mips.Nor x y 0) (λ x. 2 ^ 32 - 1 - bit_or x 0)
two_nor = record { acts = λ x y s e. ap (λ (z : ℕ). Write x (2 ^ 32 - 1 - bit_or (slice_index s.regs y) z)) e; good = λ x y s. tt }

-- whether a word isn't 0, by comparison with $0
pub two_positive : Two (λ x y. mips.Sltu x 0 y) (λ x. truth (nat_lt 0 x))
two_positive = record { acts = λ x y s e. ap (λ (z : ℕ). Write x (truth (nat_lt z (slice_index s.regs y)))) e; good = λ x y s. tt }

-- ---- a role written twice

pub put_twice : (a : Sight) (r : Role) (x v : ℕ) → SameSight (put (put a r x) r v) (put a r v)
put_twice a r x v = record {
  file = λ q. over (same_role q r) x v (a.file q);
  cell = λ c. refl;
  feed = refl;
  fed = refl;
}
  where
    over : (z : Bool) (x v w : ℕ) → cond z v (cond z x w) ≡ cond z v w
    over true x v w = refl
    over false x v w = refl

-- a role reads what was put there
pub put_there : (a : Sight) (r : Role) (v : ℕ) → (put a r v).file r ≡ v
put_there a (Value k) v = ap (λ (z : Bool). cond z v (a.file (Value k))) (eq_self k)
  where
    eq_self : (n : ℕ) → (n == n) ≡ true
    eq_self n = grind arith
put_there a Stack v = refl
put_there a Link v = refl

pub put_beside : (a : Sight) (q r : Role) (v : ℕ) → same_role q r ≡ false → (put a r v).file q ≡ a.file q
put_beside a q r v h = ap (λ (z : Bool). cond z v (a.file q)) h

pub put_word : (p : Runnable) (size : ℕ) (code : List Instr) (a : Sight) (to : Role) (x w : ℕ) → x ≡ w → Does p size code a (put a to x) → Does p size code a (put a to w)
put_word p size code a to x w e f = subst (λ (z : ℕ). Does p size code a (put a to z)) e f

pub does_constant : (p : Runnable) (size : ℕ) (to : Role) (w : ℕ) (a : Sight) → RoleFits to → w < 2 ^ 32 → Does p size (constant to w) a (put a to w)
does_constant p size to w a free small =
    elim (w / 2 ^ 16 == 0) as (λ z. (w / 2 ^ 16 == 0) ≡ z → Does p size (cond z (each (λ t. mips.Ori (reg_in t to) 0 w)) other) a (put a to w)) [
      | true ↦ λ e. does_zero p size (λ x y. mips.Ori x y w) (λ x. bit_or x w) to a (two_ori w) free small
      | false ↦ λ e. elim (w % 2 ^ 16 == 0) as (λ z. (w % 2 ^ 16 == 0) ≡ z → Does p size (cond z (each (λ t. mips.Lui (reg_in t to) (w / 2 ^ 16))) another) a (put a to w)) [
        | true ↦ λ e. put_word p size (each (λ t. mips.Lui (reg_in t to) (w / 2 ^ 16))) a to (w / 2 ^ 16 * 2 ^ 16) w (word_high w e) (does_zero p size (λ x y. mips.Lui x (w / 2 ^ 16)) (λ x. w / 2 ^ 16 * 2 ^ 16) to a (two_lui (w / 2 ^ 16)) free (high_part w small))
        | false ↦ λ e. elim (w / 2 ^ 16 == 2 ^ 16 - 1 && nat_le (2 ^ 15) (w % 2 ^ 16)) as (λ z. (w / 2 ^ 16 == 2 ^ 16 - 1 && nat_le (2 ^ 15) (w % 2 ^ 16)) ≡ z → Does p size (cond z (each (λ t. mips.Addiu (reg_in t to) 0 (w % 2 ^ 16))) last) a (put a to w)) [
          | true ↦ λ e. put_word p size (each (λ t. mips.Addiu (reg_in t to) 0 (w % 2 ^ 16))) a to (plus 0 (extended (w % 2 ^ 16))) w (word_negative w small e) (does_zero p size (λ x y. mips.Addiu x y (w % 2 ^ 16)) (λ x. plus x (extended (w % 2 ^ 16))) to a (two_addiu (w % 2 ^ 16)) free (subst (λ (z : ℕ). z < 2 ^ 32) (sym (word_negative w small e)) small))
          | false ↦ λ e. two_parts
        ] refl
      ] refl
    ] refl
  where
    last : List Instr
    last = each (λ t. mips.Lui (reg_in t to) (w / 2 ^ 16)) ++ each (λ t. mips.Ori (reg_in t to) (reg_in t to) (w % 2 ^ 16))

    another : List Instr
    another = if w / 2 ^ 16 == 2 ^ 16 - 1 && nat_le (2 ^ 15) (w % 2 ^ 16) then each (λ t. mips.Addiu (reg_in t to) 0 (w % 2 ^ 16)) else last

    other : List Instr
    other = if w % 2 ^ 16 == 0 then each (λ t. mips.Lui (reg_in t to) (w / 2 ^ 16)) else another

    two_parts : Does p size last a (put a to w)
    two_parts =
        let h : ℕ = w / 2 ^ 16 * 2 ^ 16 in
        let a1 : Sight = put a to h in
        does_same p size last a (put a1 to w) (put a to w)
        (does_then p size (each (λ t. mips.Lui (reg_in t to) (w / 2 ^ 16))) (each (λ t. mips.Ori (reg_in t to) (reg_in t to) (w % 2 ^ 16))) a a1 (put a1 to w)
        (does_zero p size (λ x y. mips.Lui x (w / 2 ^ 16)) (λ x. h) to a (two_lui (w / 2 ^ 16)) free (high_part w small))
        (put_word p size (each (λ t. mips.Ori (reg_in t to) (reg_in t to) (w % 2 ^ 16))) a1 to (bit_or (a1.file to) (w % 2 ^ 16)) w (ap (λ (z : ℕ). bit_or z (w % 2 ^ 16)) (put_there a to h) ∙ word_joined w)
        (does_two p size (λ x y. mips.Ori x y (w % 2 ^ 16)) (λ x. bit_or x (w % 2 ^ 16)) to to a1 (two_ori (w % 2 ^ 16)) free free
        (subst (λ (z : ℕ). z < 2 ^ 32) (sym (ap (λ (z : ℕ). bit_or z (w % 2 ^ 16)) (put_there a to h) ∙ word_joined w)) small))))
        (put_twice a to h w)

pub does_move : (p : Runnable) (size : ℕ) (to from : Role) (a : Sight) → RoleFits to → RoleFits from → a.file from < 2 ^ 32 → Does p size (move to from) a (put a to (a.file from))
does_move p size to from a free plain small = put_word p size (move to from) a to ((a.file from + 0) % 2 ^ 32) (a.file from) (copy_small (a.file from) small)
    (does_two p size (λ x y. mips.Addu x y 0) (λ x. (x + 0) % 2 ^ 32) to from a two_copy free plain (subst (λ (z : ℕ). z < 2 ^ 32) (sym (copy_small (a.file from) small)) small))

-- a product instruction of two registers, and a move of its high or low word
low_move : (p : Runnable) (size : ℕ) (f : ℕ → ℕ → Instr) (fn : ℕ → ℕ → ℕ × ℕ) (to q r : Role) (a : Sight) → RoleFits to → RoleFits q → RoleFits r → (fn (a.file q) (a.file r)).1 < 2 ^ 32 →
    ((y z : ℕ) (s : State) → machine.act (f y z) s ≡ Both (fn (slice_index s.regs y) (slice_index s.regs z)).0 (fn (slice_index s.regs y) (slice_index s.regs z)).1) →
    ((y z : ℕ) (s : State) → GoodBy s (f y z)) →
    Does p size (product (λ t. f (reg_in t q) (reg_in t r)) (λ t. mips.Mflo (reg_in t to))) a (put a to (fn (a.file q) (a.file r)).1)
low_move p size f fn to q r a free pq pr small acts good = does_product p size (λ t. f (reg_in t q) (reg_in t r)) (λ t. mips.Mflo (reg_in t to)) to a (fn (a.file q) (a.file r)).1 (record {
  fits = free;
  word = small;
  high = (fn (a.file q) (a.file r)).0;
  low = (fn (a.file q) (a.file r)).1;
  acts = λ t s e. acts (reg_in t q) (reg_in t r) s ∙
      (ap (λ (x : ℕ). Both (fn x (slice_index s.regs (reg_in t r))).0 (fn x (slice_index s.regs (reg_in t r))).1) (e.file q pq) ∙ ap (λ (x : ℕ). Both (fn (a.file q) x).0 (fn (a.file q) x).1) (e.file r pr));
  moves = λ t s h l. ap (λ (x : ℕ). Move (reg_in t to) x) l;
  good = λ t s. (good (reg_in t q) (reg_in t r) s, tt);
})

high_move : (p : Runnable) (size : ℕ) (f : ℕ → ℕ → Instr) (fn : ℕ → ℕ → ℕ × ℕ) (to q r : Role) (a : Sight) → RoleFits to → RoleFits q → RoleFits r → (fn (a.file q) (a.file r)).0 < 2 ^ 32 →
    ((y z : ℕ) (s : State) → machine.act (f y z) s ≡ Both (fn (slice_index s.regs y) (slice_index s.regs z)).0 (fn (slice_index s.regs y) (slice_index s.regs z)).1) →
    ((y z : ℕ) (s : State) → GoodBy s (f y z)) →
    Does p size (product (λ t. f (reg_in t q) (reg_in t r)) (λ t. mips.Mfhi (reg_in t to))) a (put a to (fn (a.file q) (a.file r)).0)
high_move p size f fn to q r a free pq pr small acts good = does_product p size (λ t. f (reg_in t q) (reg_in t r)) (λ t. mips.Mfhi (reg_in t to)) to a (fn (a.file q) (a.file r)).0 (record {
  fits = free;
  word = small;
  high = (fn (a.file q) (a.file r)).0;
  low = (fn (a.file q) (a.file r)).1;
  acts = λ t s e. acts (reg_in t q) (reg_in t r) s ∙
      (ap (λ (x : ℕ). Both (fn x (slice_index s.regs (reg_in t r))).0 (fn x (slice_index s.regs (reg_in t r))).1) (e.file q pq) ∙ ap (λ (x : ℕ). Both (fn (a.file q) x).0 (fn (a.file q) x).1) (e.file r pr));
  moves = λ t s h l. ap (λ (x : ℕ). Move (reg_in t to) x) h;
  good = λ t s. (good (reg_in t q) (reg_in t r) s, tt);
})

-- a value by the equation that names it
into : (p : Runnable) (size : ℕ) (code : List Instr) (a : Sight) (to : Role) (x v : ℕ) → ◌≡◌ {A = Result ℕ ℕ} (Ok x) (Ok v) → Does p size code a (put a to x) → Does p size code a (put a to v)
into p size code a to x v e f = put_word p size code a to x v (ok_same x v e) f

pub does_operation : (p : Runnable) (size : ℕ) (o : MidOp) (to q r : Role) (a : Sight) (v : ℕ) → RoleFits to → RoleFits q → RoleFits r → AreWords a → operate o (a.file q) (a.file r) ≡ Ok v → Does p size (operation o to q r) a (put a to v)
does_operation p size op.Add to q r a v f pq pr w e = into p size (operation op.Add to q r) a to ((a.file q + a.file r) % 2 ^ 32) v e (does_three p size mips.Addu (λ x y. (x + y) % 2 ^ 32) to q r a three_add f pq pr (mod-lt (a.file q + a.file r) (omega arith)))
does_operation p size op.Sub to q r a v f pq pr w e = into p size (operation op.Sub to q r) a to ((a.file q + (2 ^ 32 - a.file r)) % 2 ^ 32) v e (does_three p size mips.Subu (λ x y. (x + (2 ^ 32 - y)) % 2 ^ 32) to q r a three_sub f pq pr (mod-lt (a.file q + (2 ^ 32 - a.file r)) (omega arith)))
does_operation p size op.Mul to q r a v f pq pr w e =
    into p size (operation op.Mul to q r) a to ((a.file q * a.file r) % 2 ^ 32) v e
    (put_word p size (operation op.Mul to q r) a to (signed_product (a.file q) (a.file r)).1 ((a.file q * a.file r) % 2 ^ 32) (low_product (a.file q) (a.file r) (w.file q) (w.file r))
    (low_move p size mips.Mult signed_product to q r a f pq pr (subst (λ (n : ℕ). n < 2 ^ 32) (sym (low_product (a.file q) (a.file r) (w.file q) (w.file r))) (mod-lt (a.file q * a.file r) (omega arith)))
    (λ y z s. refl) (λ y z s. tt)))
does_operation p size op.Div to q r a v f pq pr w e =
    let k : ((a.file r == 0) ≡ false) × (cast_unsigned w32 (int_div (signed (a.file q)) (signed (a.file r))) ≡ v) = sign_ok (a.file q) (a.file r) (cast_unsigned w32 (int_div (signed (a.file q)) (signed (a.file r)))) v e in
    let is : (signed_division (a.file q) (a.file r)).1 ≡ cast_unsigned w32 (int_div (signed (a.file q)) (signed (a.file r))) = ap (λ (x : ℕ × ℕ). x.1) (signed_parts (a.file q) (a.file r) k.0) in
    put_word p size (operation op.Div to q r) a to (signed_division (a.file q) (a.file r)).1 v (is ∙ k.1)
    (low_move p size mips.Div signed_division to q r a f pq pr (subst (λ (n : ℕ). n < 2 ^ 32) (sym is) (quot_word (a.file q) (a.file r) (w.file q)))
    (λ y z s. refl) (λ y z s. tt))
does_operation p size op.DivU to q r a v f pq pr w e =
    let k : ((a.file r == 0) ≡ false) × (a.file q / a.file r ≡ v) = unsigned_ok (a.file r) (a.file q / a.file r) v e in
    let is : (division (a.file q) (a.file r)).1 ≡ a.file q / a.file r = ap (λ (x : ℕ × ℕ). x.1) (unsigned_parts (a.file q) (a.file r) k.0) in
    put_word p size (operation op.DivU to q r) a to (division (a.file q) (a.file r)).1 v (is ∙ k.1)
    (low_move p size mips.Divu division to q r a f pq pr (subst (λ (n : ℕ). n < 2 ^ 32) (sym is) (Rattle.std.proofs.Common.lt_of_le_of_lt (Rattle.std.proofs.Common.div-le_self (a.file q) (a.file r)) (w.file q)))
    (λ y z s. refl) (λ y z s. tt))
does_operation p size op.Rem to q r a v f pq pr w e =
    let k : ((a.file r == 0) ≡ false) × (cast_unsigned w32 (int_rem (signed (a.file q)) (signed (a.file r))) ≡ v) = sign_ok (a.file q) (a.file r) (cast_unsigned w32 (int_rem (signed (a.file q)) (signed (a.file r)))) v e in
    let is : (signed_division (a.file q) (a.file r)).0 ≡ cast_unsigned w32 (int_rem (signed (a.file q)) (signed (a.file r))) = ap (λ (x : ℕ × ℕ). x.0) (signed_parts (a.file q) (a.file r) k.0) in
    put_word p size (operation op.Rem to q r) a to (signed_division (a.file q) (a.file r)).0 v (is ∙ k.1)
    (high_move p size mips.Div signed_division to q r a f pq pr (subst (λ (n : ℕ). n < 2 ^ 32) (sym is) (rem_word (a.file q) (a.file r) (w.file q)))
    (λ y z s. refl) (λ y z s. tt))
does_operation p size op.RemU to q r a v f pq pr w e =
    let k : ((a.file r == 0) ≡ false) × (a.file q % a.file r ≡ v) = unsigned_ok (a.file r) (a.file q % a.file r) v e in
    let is : (division (a.file q) (a.file r)).0 ≡ a.file q % a.file r = ap (λ (x : ℕ × ℕ). x.0) (unsigned_parts (a.file q) (a.file r) k.0) in
    put_word p size (operation op.RemU to q r) a to (division (a.file q) (a.file r)).0 v (is ∙ k.1)
    (high_move p size mips.Divu division to q r a f pq pr (subst (λ (n : ℕ). n < 2 ^ 32) (sym is) (Rattle.std.proofs.Common.lt_of_le_of_lt (rem_small (a.file q) (a.file r)) (w.file q)))
    (λ y z s. refl) (λ y z s. tt))
does_operation p size op.Shl to q r a v f pq pr w e = into p size (operation op.Shl to q r) a to ((a.file q * 2 ^ (a.file r % 32)) % 2 ^ 32) v e (does_three p size mips.Sllv (λ x y. (x * 2 ^ (y % 32)) % 2 ^ 32) to q r a three_left f pq pr (mod-lt (a.file q * 2 ^ (a.file r % 32)) (omega arith)))
does_operation p size op.Shr to q r a v f pq pr w e = into p size (operation op.Shr to q r) a to (a.file q / 2 ^ (a.file r % 32)) v e (does_three p size mips.Srlv (λ x y. x / 2 ^ (y % 32)) to q r a three_right f pq pr (shift_small (a.file q) (a.file r % 32) (w.file q)))
does_operation p size op.Sar to q r a v f pq pr w e = into p size (operation op.Sar to q r) a to (signed_shift (a.file q) (a.file r)) v e (does_three p size mips.Srav signed_shift to q r a three_signed f pq pr (signed_shift_small (a.file q) (a.file r) (w.file q)))
does_operation p size op.And to q r a v f pq pr w e = into p size (operation op.And to q r) a to (bit_and (a.file q) (a.file r)) v e (does_three p size mips.And bit_and to q r a three_and f pq pr (Rattle.std.proofs.Common.lt_of_le_of_lt (and_le_l (a.file q) (a.file r)) (w.file q)))
does_operation p size op.Or to q r a v f pq pr w e = into p size (operation op.Or to q r) a to (bit_or (a.file q) (a.file r)) v e (does_three p size mips.Or bit_or to q r a three_or f pq pr (or_lt 32 (a.file q) (a.file r) (w.file q) (w.file r)))
does_operation p size op.Xor to q r a v f pq pr w e = into p size (operation op.Xor to q r) a to (bit_xor (a.file q) (a.file r)) v e (does_three p size mips.Xor bit_xor to q r a three_xor f pq pr (xor_lt 32 (a.file q) (a.file r) (w.file q) (w.file r)))
does_operation p size op.Lt to q r a v f pq pr w e = into p size (operation op.Lt to q r) a to (truth (int_lt (signed (a.file q)) (signed (a.file r)))) v e (does_three p size mips.Slt (λ x y. truth (int_lt (signed x) (signed y))) to q r a three_less f pq pr (truth_small (int_lt (signed (a.file q)) (signed (a.file r)))))
does_operation p size op.LtU to q r a v f pq pr w e = into p size (operation op.LtU to q r) a to (truth (nat_lt (a.file q) (a.file r))) v e (does_three p size mips.Sltu (λ x y. truth (nat_lt x y)) to q r a three_below f pq pr (truth_small (nat_lt (a.file q) (a.file r))))
does_operation p size op.Eq to q r a v f pq pr w e =
    let x : ℕ = bit_xor (a.file q) (a.file r) in
    let a1 : Sight = put a to x in
    let is : truth (nat_lt (a1.file to) (extended 1)) ≡ truth (a.file q == a.file r) = ap (λ (n : ℕ). truth (nat_lt n (extended 1))) (put_there a to x) ∙ equal_fn (a.file q) (a.file r) in
    into p size (operation op.Eq to q r) a to (truth (a.file q == a.file r)) v e
    (does_same p size (operation op.Eq to q r) a (put a1 to (truth (a.file q == a.file r))) (put a to (truth (a.file q == a.file r)))
    (does_then p size (three mips.Xor to q r) (each (λ t. mips.Sltiu (reg_in t to) (reg_in t to) 1)) a a1 (put a1 to (truth (a.file q == a.file r)))
    (does_three p size mips.Xor bit_xor to q r a three_xor f pq pr (xor_lt 32 (a.file q) (a.file r) (w.file q) (w.file r)))
    (put_word p size (each (λ t. mips.Sltiu (reg_in t to) (reg_in t to) 1)) a1 to (truth (nat_lt (a1.file to) (extended 1))) (truth (a.file q == a.file r)) is
    (does_two p size (λ x y. mips.Sltiu x y 1) (λ x. truth (nat_lt x (extended 1))) to to a1 (two_sltiu 1) f f (truth_small (nat_lt (a1.file to) (extended 1))))))
    (put_twice a to x (truth (a.file q == a.file r))))
does_operation p size op.Ne to q r a v f pq pr w e =
    let x : ℕ = bit_xor (a.file q) (a.file r) in
    let a1 : Sight = put a to x in
    let is : truth (nat_lt 0 (a1.file to)) ≡ truth (not (a.file q == a.file r)) = ap (λ (n : ℕ). truth (nat_lt 0 n)) (put_there a to x) ∙ differ_fn (a.file q) (a.file r) in
    into p size (operation op.Ne to q r) a to (truth (not (a.file q == a.file r))) v e
    (does_same p size (operation op.Ne to q r) a (put a1 to (truth (not (a.file q == a.file r)))) (put a to (truth (not (a.file q == a.file r))))
    (does_then p size (three mips.Xor to q r) (each (λ t. mips.Sltu (reg_in t to) 0 (reg_in t to))) a a1 (put a1 to (truth (not (a.file q == a.file r))))
    (does_three p size mips.Xor bit_xor to q r a three_xor f pq pr (xor_lt 32 (a.file q) (a.file r) (w.file q) (w.file r)))
    (put_word p size (each (λ t. mips.Sltu (reg_in t to) 0 (reg_in t to))) a1 to (truth (nat_lt 0 (a1.file to))) (truth (not (a.file q == a.file r))) is
    (does_two p size (λ x y. mips.Sltu x 0 y) (λ x. truth (nat_lt 0 x)) to to a1 two_positive f f (truth_small (nat_lt 0 (a1.file to))))))
    (put_twice a to x (truth (not (a.file q == a.file r)))))
