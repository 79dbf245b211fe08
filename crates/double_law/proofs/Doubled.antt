-- What both streams hold, seen as one: registers by their roles, memory by its cells; and what a write of one stream leaves.
use Rattle.std.proofs.Common.{◌≡◌, ◌≢◌, ◌≤◌, ◌<◌, ℕ, zero, suc, ◌+◌, ◌-◌, ◌*◌, ◌/◌, ◌%◌, ◌^◌, arith, ap, refl, sym, ◌∙◌, subst, List, [], ◌∷◌, ◌++◌, length, get_or, Bool, true, false, cond, inl, inr, get_or-set_other, get_or-set_same, length-set}
use Rattle.std.specs.Prelude.{◌==◌, slice_index, slice_set, if◌then◌else◌}
use Rattle.mips_isa.specs.Machine.{written}
use Rattle.hard_items.specs.Run.{Data, held, marked, marked_reg}
use Rattle.double_law.specs.declared.roles.Stream.{Stream}
use Rattle.double_law.specs.declared.roles.Stream.TheVariants.{First, Second}
use Rattle.double_law.specs.declared.roles.Role.{Role}
use Rattle.double_law.specs.declared.roles.Role.TheVariants.{Value, Stack, Link}
use Rattle.double_law.specs.Roles.{RoleFits, reg_in}

-- ---- roles

abbrev pub same_role : Role → Role → Bool
same_role (Value j) (Value k) = j == k
same_role (Value j) Stack = false
same_role (Value j) Link = false
same_role Stack (Value k) = false
same_role Stack Stack = true
same_role Stack Link = false
same_role Link (Value k) = false
same_role Link Stack = false
same_role Link Link = true

abbrev pub other : Stream → Stream
other First = Second
other Second = First

same_number : (j k : ℕ) → (j == k) ≡ true → j ≡ k
same_number j k h = grind arith

other_number : (j k : ℕ) → (j == k) ≡ false → j ≢ k
other_number j k h = grind arith

four_apart : (j k : ℕ) → (j == k) ≡ false → 4 + j ≢ 4 + k
four_apart j k h = λ e. other_number j k h (omega arith)

fourteen_apart : (j k : ℕ) → (j == k) ≡ false → 14 + j ≢ 14 + k
fourteen_apart j k h = λ e. other_number j k h (omega arith)

-- A register of a role is one of the 31 that can be written, and isn't 2.
pub reg_not_zero : (t : Stream) (r : Role) → reg_in t r ≢ 0
reg_not_zero First (Value k) = λ e. omega arith
reg_not_zero First Stack = λ e. omega arith
reg_not_zero First Link = λ e. omega arith
reg_not_zero Second (Value k) = λ e. omega arith
reg_not_zero Second Stack = λ e. omega arith
reg_not_zero Second Link = λ e. omega arith

pub reg_not_two : (t : Stream) (r : Role) → reg_in t r ≢ 2
reg_not_two First (Value k) = λ e. omega arith
reg_not_two First Stack = λ e. omega arith
reg_not_two First Link = λ e. omega arith
reg_not_two Second (Value k) = λ e. omega arith
reg_not_two Second Stack = λ e. omega arith
reg_not_two Second Link = λ e. omega arith

pub reg_below : (t : Stream) (r : Role) → RoleFits r → reg_in t r < 32
reg_below First (Value k) f = omega arith
reg_below First Stack f = omega arith
reg_below First Link f = omega arith
reg_below Second (Value k) f = omega arith
reg_below Second Stack f = omega arith
reg_below Second Link f = omega arith

-- Two streams have no register in common.
pub streams_apart : (t : Stream) (q r : Role) → RoleFits q → RoleFits r → reg_in (other t) q ≢ reg_in t r
streams_apart First (Value j) (Value k) f g = λ e. omega arith
streams_apart First (Value j) Stack f g = λ e. omega arith
streams_apart First (Value j) Link f g = λ e. omega arith
streams_apart First Stack (Value k) f g = λ e. omega arith
streams_apart First Stack Stack f g = λ e. omega arith
streams_apart First Stack Link f g = λ e. omega arith
streams_apart First Link (Value k) f g = λ e. omega arith
streams_apart First Link Stack f g = λ e. omega arith
streams_apart First Link Link f g = λ e. omega arith
streams_apart Second (Value j) (Value k) f g = λ e. omega arith
streams_apart Second (Value j) Stack f g = λ e. omega arith
streams_apart Second (Value j) Link f g = λ e. omega arith
streams_apart Second Stack (Value k) f g = λ e. omega arith
streams_apart Second Stack Stack f g = λ e. omega arith
streams_apart Second Stack Link f g = λ e. omega arith
streams_apart Second Link (Value k) f g = λ e. omega arith
streams_apart Second Link Stack f g = λ e. omega arith
streams_apart Second Link Link f g = λ e. omega arith

-- Two roles of one stream have two registers.
pub roles_apart : (t : Stream) (q r : Role) → RoleFits q → RoleFits r → same_role q r ≡ false → reg_in t q ≢ reg_in t r
roles_apart First (Value j) (Value k) f g h = four_apart j k h
roles_apart First (Value j) Stack f g h = λ e. omega arith
roles_apart First (Value j) Link f g h = λ e. omega arith
roles_apart First Stack (Value k) f g h = λ e. omega arith
roles_apart First Stack Stack f g h = λ e. cc
roles_apart First Stack Link f g h = λ e. omega arith
roles_apart First Link (Value k) f g h = λ e. omega arith
roles_apart First Link Stack f g h = λ e. omega arith
roles_apart First Link Link f g h = λ e. cc
roles_apart Second (Value j) (Value k) f g h = fourteen_apart j k h
roles_apart Second (Value j) Stack f g h = λ e. omega arith
roles_apart Second (Value j) Link f g h = λ e. omega arith
roles_apart Second Stack (Value k) f g h = λ e. omega arith
roles_apart Second Stack Stack f g h = λ e. cc
roles_apart Second Stack Link f g h = λ e. omega arith
roles_apart Second Link (Value k) f g h = λ e. omega arith
roles_apart Second Link Stack f g h = λ e. omega arith
roles_apart Second Link Link f g h = λ e. cc

pub same_role_is : (q r : Role) → same_role q r ≡ true → q ≡ r
same_role_is (Value j) (Value k) h = ap (λ (x : ℕ). Value x) (same_number j k h)
same_role_is (Value j) Stack h = absurd (Rattle.std.proofs.Common.true≢false (sym h))
same_role_is (Value j) Link h = absurd (Rattle.std.proofs.Common.true≢false (sym h))
same_role_is Stack (Value k) h = absurd (Rattle.std.proofs.Common.true≢false (sym h))
same_role_is Stack Stack h = refl
same_role_is Stack Link h = absurd (Rattle.std.proofs.Common.true≢false (sym h))
same_role_is Link (Value k) h = absurd (Rattle.std.proofs.Common.true≢false (sym h))
same_role_is Link Stack h = absurd (Rattle.std.proofs.Common.true≢false (sym h))
same_role_is Link Link h = refl

-- ---- what both streams hold

pub record Pairs : Type 0 where
  pub file : Role → ℕ
  pub cell : ℕ → ℕ
  pub link : Bool
  pub number : ℕ → Bool
  pub feed : List ℕ
  pub fed : ℕ

-- Whether a role holds a return number.
abbrev pub back_of : Pairs → Role → Bool
back_of a (Value k) = false
back_of a Stack = false
back_of a Link = a.link

abbrev pub half : Stream → ℕ
half First = 0
half Second = 1

-- A stream of some data is as the pairs say.
pub record Sees (size : ℕ) (t : Stream) (d : Data) (a : Pairs) : Type 0 where
  pub file : (r : Role) → RoleFits r → held d (reg_in t r) ≡ a.file r
  pub backs : (r : Role) → RoleFits r → d.backs (reg_in t r) ≡ back_of a r
  pub cell : (c : ℕ) → c < size → slice_index d.memory (2 * c + half t) ≡ a.cell c
  pub number : (c : ℕ) → c < size → d.stored (2 * c + half t) ≡ a.number c

-- What is of no stream is in order.
pub record Sound (size : ℕ) (d : Data) (a : Pairs) : Type 0 where
  pub regs : length d.regs ≡ 32
  pub memory : length d.memory ≡ 2 * size
  pub zero_ : held d 0 ≡ 0
  pub zero_back : d.backs 0 ≡ false
  pub two_back : d.backs 2 ≡ false
  pub feed : d.feed ≡ a.feed
  pub fed : d.fed ≡ a.fed

pub record AreWords (size : ℕ) (a : Pairs) : Type 0 where
  pub file : (r : Role) → a.file r < 2 ^ 32
  pub cell : (c : ℕ) → a.cell c < 2 ^ 32

pub record Doubled (size : ℕ) (d : Data) (a : Pairs) : Type 0 where
  pub sound : Sound size d a
  pub sees : (t : Stream) → Sees size t d a
  pub words : AreWords size a

-- ---- a write

abbrev pub link_after : Bool → Role → Bool → Bool
link_after old (Value k) b = old
link_after old Stack b = old
link_after old Link b = b

-- The pairs with a new word in one role.
abbrev pub put : Pairs → Role → ℕ → Bool → Pairs
put a r v b = record a { file = λ q. if same_role q r then v else a.file q; link = link_after a.link r b }

-- Only the return address may hold a return number.
abbrev pub BackFits : Role → Bool → Type 0
BackFits (Value k) b = b ≡ false
BackFits Stack b = b ≡ false
BackFits Link b = Unit {0}

abbrev pub wrote : Data → ℕ → ℕ → Bool → Data
wrote d x v b = record d { regs = written d.regs x v; backs = marked_reg d.backs x b }

if_false : {A : Type 0} (x : ℕ) (p q : A) → x ≢ 0 → (if x == 0 then p else q) ≡ q
if_false x p q h = elim (x == 0) as (λ z. (x == 0) ≡ z → cond z p q ≡ q) [
  | true ↦ λ e. absurd (h (same_number x 0 e))
  | false ↦ λ e. refl
] refl

pub written_is : (l : List ℕ) (x v : ℕ) → x ≢ 0 → written l x v ≡ slice_set l x v
written_is l x v h = if_false x l (slice_set l x v) h

pub marked_is : (f : ℕ → Bool) (x : ℕ) (b : Bool) → x ≢ 0 → marked_reg f x b ≡ marked f x b
marked_is f x b h = if_false x f (marked f x b) h

pub written_there : (l : List ℕ) (x v : ℕ) → x ≢ 0 → x < length l → get_or (written l x v) x 0 ≡ v
written_there l x v h k = ap (λ (m : List ℕ). get_or m x 0) (written_is l x v h) ∙ get_or-set_same l x v 0 k

pub written_beside : (l : List ℕ) (x v q : ℕ) → x ≢ 0 → q ≢ x → get_or (written l x v) q 0 ≡ get_or l q 0
written_beside l x v q h k = ap (λ (m : List ℕ). get_or m q 0) (written_is l x v h) ∙ get_or-set_other l x q v 0 k

pub written_length : (l : List ℕ) (x v : ℕ) → x ≢ 0 → length (written l x v) ≡ length l
written_length l x v h = ap (λ (m : List ℕ). length m) (written_is l x v h) ∙ length-set l x v

eq_self : (n : ℕ) → (n == n) ≡ true
eq_self n = grind arith

eq_other : (m n : ℕ) → m ≢ n → (m == n) ≡ false
eq_other m n h = grind arith

pub marked_there : (f : ℕ → Bool) (x : ℕ) (b : Bool) → marked f x b x ≡ b
marked_there f x b = ap (λ (z : Bool). cond z b (f x)) (eq_self x)

pub marked_beside : (f : ℕ → Bool) (x : ℕ) (b : Bool) (q : ℕ) → q ≢ x → marked f x b q ≡ f q
marked_beside f x b q h = ap (λ (z : Bool). cond z b (f q)) (eq_other q x h)

pub reg_marked_there : (f : ℕ → Bool) (x : ℕ) (b : Bool) → x ≢ 0 → marked_reg f x b x ≡ b
reg_marked_there f x b h = ap (λ (g : ℕ → Bool). g x) (marked_is f x b h) ∙ marked_there f x b

pub reg_marked_beside : (f : ℕ → Bool) (x : ℕ) (b : Bool) (q : ℕ) → x ≢ 0 → q ≢ x → marked_reg f x b q ≡ f q
reg_marked_beside f x b q h k = ap (λ (g : ℕ → Bool). g q) (marked_is f x b h) ∙ marked_beside f x b q k

back_put : (a : Pairs) (q r : Role) (v : ℕ) (b : Bool) → same_role q r ≡ false → back_of (put a r v b) q ≡ back_of a q
back_put a (Value j) r v b h = refl
back_put a Stack r v b h = refl
back_put a Link (Value k) v b h = refl
back_put a Link Stack v b h = refl
back_put a Link Link v b h = absurd (Rattle.std.proofs.Common.true≢false h)

back_there : (a : Pairs) (r : Role) (v : ℕ) (b : Bool) → BackFits r b → b ≡ back_of (put a r v b) r
back_there a (Value k) v b f = f
back_there a Stack v b f = f
back_there a Link v b f = refl

-- the stream that writes
pub sees_write : (size : ℕ) (t : Stream) (d : Data) (a : Pairs) (r : Role) (v : ℕ) (b : Bool) → RoleFits r → BackFits r b → Sound size d a → Sees size t d a → Sees size t (wrote d (reg_in t r) v b) (put a r v b)
sees_write size t d a r v b fits back sound sees = record {
  file = λ q f. elim (same_role q r) as (λ z. same_role q r ≡ z → get_or (written d.regs (reg_in t r) v) (reg_in t q) 0 ≡ cond z v (a.file q)) [
    | true ↦ λ e. subst (λ (x : Role). get_or (written d.regs (reg_in t r) v) (reg_in t x) 0 ≡ v) (sym (same_role_is q r e)) (written_there d.regs (reg_in t r) v (reg_not_zero t r) (subst (λ (n : ℕ). reg_in t r < n) (sym sound.regs) (reg_below t r fits)))
    | false ↦ λ e. written_beside d.regs (reg_in t r) v (reg_in t q) (reg_not_zero t r) (roles_apart t q r f fits e) ∙ sees.file q f
  ] refl;
  backs = λ q f. elim (same_role q r) as (λ z. same_role q r ≡ z → marked_reg d.backs (reg_in t r) b (reg_in t q) ≡ back_of (put a r v b) q) [
    | true ↦ λ e. subst (λ (x : Role). marked_reg d.backs (reg_in t r) b (reg_in t x) ≡ back_of (put a r v b) x) (sym (same_role_is q r e)) (reg_marked_there d.backs (reg_in t r) b (reg_not_zero t r) ∙ back_there a r v b back)
    | false ↦ λ e. reg_marked_beside d.backs (reg_in t r) b (reg_in t q) (reg_not_zero t r) (roles_apart t q r f fits e) ∙ (sees.backs q f ∙ sym (back_put a q r v b e))
  ] refl;
  cell = sees.cell;
  number = sees.number;
}

-- the other stream
pub sees_beside : (size : ℕ) (t : Stream) (d : Data) (a : Pairs) (r : Role) (v : ℕ) (b : Bool) → RoleFits r → Sees size (other t) d a → Sees size (other t) (wrote d (reg_in t r) v b) a
sees_beside size t d a r v b fits sees = record {
  file = λ q f. written_beside d.regs (reg_in t r) v (reg_in (other t) q) (reg_not_zero t r) (streams_apart t q r f fits) ∙ sees.file q f;
  backs = λ q f. reg_marked_beside d.backs (reg_in t r) b (reg_in (other t) q) (reg_not_zero t r) (streams_apart t q r f fits) ∙ sees.backs q f;
  cell = sees.cell;
  number = sees.number;
}

flip_ne : (m n : ℕ) → m ≢ n → n ≢ m
flip_ne m n h = λ e. h (sym e)

-- what is of no stream
pub sound_write : (size : ℕ) (t : Stream) (d : Data) (a : Pairs) (r : Role) (v : ℕ) (b : Bool) → Sound size d a → Sound size (wrote d (reg_in t r) v b) (put a r v b)
sound_write size t d a r v b s = record {
  regs = written_length d.regs (reg_in t r) v (reg_not_zero t r) ∙ s.regs;
  memory = s.memory;
  zero_ = written_beside d.regs (reg_in t r) v 0 (reg_not_zero t r) (flip_ne (reg_in t r) 0 (reg_not_zero t r)) ∙ s.zero_;
  zero_back = reg_marked_beside d.backs (reg_in t r) b 0 (reg_not_zero t r) (flip_ne (reg_in t r) 0 (reg_not_zero t r)) ∙ s.zero_back;
  two_back = reg_marked_beside d.backs (reg_in t r) b 2 (reg_not_zero t r) (flip_ne (reg_in t r) 2 (reg_not_two t r)) ∙ s.two_back;
  feed = s.feed;
  fed = s.fed;
}

pub words_put : (size : ℕ) (a : Pairs) (r : Role) (v : ℕ) (b : Bool) → v < 2 ^ 32 → AreWords size a → AreWords size (put a r v b)
words_put size a r v b h w = record {
  file = λ q. elim (same_role q r) as (λ z. cond z v (a.file q) < 2 ^ 32) [ true ↦ h | false ↦ w.file q ];
  cell = w.cell;
}
