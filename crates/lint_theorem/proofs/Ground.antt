-- Addresses and words of a text: which stand in the text, how far a word is from a start, and what is decided of a branch.
use Rattle.std.proofs.Common.{◌≡◌, ◌≢◌, ℕ, ◌+◌, ◌-◌, ◌/◌, ◌%◌, ◌≤◌, ◌<◌, arith, rules, ap, refl, sym, ◌∙◌, subst, List, length, false, true, Bool, cond, inl, inr}
use Rattle.std.proofs.lemmas.Grind.{common_steps}
use Rattle.std.specs.Prelude.{Option, Some, None, ◌⊎◌, ◌==◌, ◌&&◌, nat_le, nat_lt, slice_index, slice_set}
use Rattle.mips_isa.specs.declared.instr.Instr.{Instr}
use Rattle.mips_isa.specs.declared.instr.Instr.TheVariants.{Break}
use Rattle.mips_isa.specs.Table.{decoded}
use Rattle.mips_isa.specs.Machine.{plus, text_place, written}
use Rattle.mips_text.specs.Text.{IsText, InText, At, instr_at, BranchAt, IsBranch, SkipsBreak, branch_goal}

some_same : (i j : Instr) → Some i ≡ Some j → i ≡ j
some_same i j h = search (rules, h)

-- one instruction stands at an address
pub same_instr : (text : List ℕ) (a : ℕ) (i j : Instr) → At text a i → At text a j → i ≡ j
same_instr text a i j h k = some_same i j (sym h ∙ k)

pub no_truth : false ≡ true → ⊥
no_truth h = search (rules, h)

pub none_some : (i : Instr) → None ≡ Some i → ⊥
none_some i h = search (rules, h)

-- two numbers are the same or not
pub is_or : (a b : ℕ) → (a ≡ b) ⊎ (a ≢ b)
is_or a b = grind arith

-- an instruction stands in the text
zero_of : (n : ℕ) → (n == 0) ≡ true → n ≡ 0
zero_of n h = grind arith

le_of : (a b : ℕ) → nat_le a b ≡ true → a ≤ b
le_of a b h = grind arith

lt_of : (a b : ℕ) → nat_lt a b ≡ true → a < b
lt_of a b h = grind arith

in_text_by : (text : List ℕ) (a : ℕ) (i : Instr) (x y z : Bool) (o : Option Instr) → (a % 4 == 0) ≡ x → nat_le 0x00400000 a ≡ y → nat_lt (text_place a) (length text) ≡ z → cond (x && (y && z)) o None ≡ Some i → InText text a
in_text_by text a i true true true o e f g h = record { aligned = zero_of (a % 4) e; from = le_of 0x00400000 a f; upto = lt_of (text_place a) (length text) g }
in_text_by text a i true true false o e f g h = absurd (none_some i h)
in_text_by text a i true false z o e f g h = absurd (none_some i h)
in_text_by text a i false y z o e f g h = absurd (none_some i h)

pub in_text : (text : List ℕ) (a : ℕ) (i : Instr) → At text a i → InText text a
in_text text a i h = in_text_by text a i (a % 4 == 0) (nat_le 0x00400000 a) (nat_lt (text_place a) (length text)) (decoded (slice_index text (text_place a))) refl refl refl h

-- an address of the text is below 2^28, so that small sums do not wrap
upper : (a n : ℕ) → 0x00400000 ≤ a → (a - 0x00400000) / 4 < n → n ≤ 66060288 → a < 268435456
upper a n h k l = omega arith

pub below : (text : List ℕ) (a : ℕ) → IsText text → InText text a → a < 268435456
below text a f t = upper a (length text) t.from t.upto f

four : (a : ℕ) → a < 268435456 → (a + 4) % 4294967296 ≡ a + 4
four a h = omega arith

four_more : (a : ℕ) → a < 268435456 → (a + 4 + 4) % 4294967296 ≡ a + 8
four_more a h = omega arith

eight_more : (a : ℕ) → a < 268435456 → (a + 4 + 8) % 4294967296 ≡ a + 12
eight_more a h = omega arith

pub plus_four : (text : List ℕ) (a : ℕ) → IsText text → InText text a → plus a 4 ≡ a + 4
plus_four text a f t = four a (below text a f t)

pub plus_eight : (text : List ℕ) (a : ℕ) → IsText text → InText text a → plus (plus a 4) 4 ≡ a + 8
plus_eight text a f t = ap (λ (x : ℕ). plus x 4) (plus_four text a f t) ∙ four_more a (below text a f t)

pub goal_two : (text : List ℕ) (a : ℕ) → IsText text → InText text a → branch_goal a 2 ≡ a + 12
goal_two text a f t = ap (λ (x : ℕ). plus x 8) (plus_four text a f t) ∙ eight_more a (below text a f t)

-- how far an address is from one not above it, both divisible by four
pub data Offset (u a : ℕ) : Type 0 where
  at_0 : a ≡ u → Offset u a
  at_4 : a ≡ u + 4 → Offset u a
  at_8 : a ≡ u + 8 → Offset u a
  at_12 : a ≡ u + 12 → Offset u a
  at_16 : a ≡ u + 16 → Offset u a
  at_20 : a ≡ u + 20 → Offset u a
  at_24 : a ≡ u + 24 → Offset u a
  beyond : u + 28 ≤ a → Offset u a

next_place : (u a k : ℕ) → u % 4 ≡ 0 → a % 4 ≡ 0 → k % 4 ≡ 0 → u + k ≤ a → a ≢ u + k → u + k + 4 ≤ a
next_place u a k f g e h n = omega arith

offset_24 : (u a : ℕ) → u % 4 ≡ 0 → a % 4 ≡ 0 → u + 24 ≤ a → Offset u a
offset_24 u a f g h = elim (is_or a (u + 24)) as (λ z. Offset u a) [ inl e ↦ at_24 e | inr n ↦ let k : u + 24 + 4 ≤ a = next_place u a 24 f g refl h n in beyond (omega arith) ]

offset_20 : (u a : ℕ) → u % 4 ≡ 0 → a % 4 ≡ 0 → u + 20 ≤ a → Offset u a
offset_20 u a f g h = elim (is_or a (u + 20)) as (λ z. Offset u a) [ inl e ↦ at_20 e | inr n ↦ let k : u + 20 + 4 ≤ a = next_place u a 20 f g refl h n in offset_24 u a f g (omega arith) ]

offset_16 : (u a : ℕ) → u % 4 ≡ 0 → a % 4 ≡ 0 → u + 16 ≤ a → Offset u a
offset_16 u a f g h = elim (is_or a (u + 16)) as (λ z. Offset u a) [ inl e ↦ at_16 e | inr n ↦ let k : u + 16 + 4 ≤ a = next_place u a 16 f g refl h n in offset_20 u a f g (omega arith) ]

offset_12 : (u a : ℕ) → u % 4 ≡ 0 → a % 4 ≡ 0 → u + 12 ≤ a → Offset u a
offset_12 u a f g h = elim (is_or a (u + 12)) as (λ z. Offset u a) [ inl e ↦ at_12 e | inr n ↦ let k : u + 12 + 4 ≤ a = next_place u a 12 f g refl h n in offset_16 u a f g (omega arith) ]

offset_8 : (u a : ℕ) → u % 4 ≡ 0 → a % 4 ≡ 0 → u + 8 ≤ a → Offset u a
offset_8 u a f g h = elim (is_or a (u + 8)) as (λ z. Offset u a) [ inl e ↦ at_8 e | inr n ↦ let k : u + 8 + 4 ≤ a = next_place u a 8 f g refl h n in offset_12 u a f g (omega arith) ]

offset_4 : (u a : ℕ) → u % 4 ≡ 0 → a % 4 ≡ 0 → u + 4 ≤ a → Offset u a
offset_4 u a f g h = elim (is_or a (u + 4)) as (λ z. Offset u a) [ inl e ↦ at_4 e | inr n ↦ let k : u + 4 + 4 ≤ a = next_place u a 4 f g refl h n in offset_8 u a f g (omega arith) ]

first_place : (u a : ℕ) → u % 4 ≡ 0 → a % 4 ≡ 0 → u ≤ a → a ≢ u → u + 4 ≤ a
first_place u a f g h n = omega arith

pub offset : (u a : ℕ) → u % 4 ≡ 0 → a % 4 ≡ 0 → u ≤ a → Offset u a
offset u a f g h = elim (is_or a u) as (λ z. Offset u a) [ inl e ↦ at_0 e | inr n ↦ offset_4 u a f g (first_place u a f g h n) ]

-- what a branch is
same_offset_by : (i : Instr) (x y imm x' y' imm' : ℕ) → IsBranch i x y imm → IsBranch i x' y' imm' → imm ≡ imm'
same_offset_by i x y imm x' y' imm' (inl h) (inl k) = cc
same_offset_by i x y imm x' y' imm' (inl h) (inr k) = absurd (cc)
same_offset_by i x y imm x' y' imm' (inr h) (inl k) = absurd (cc)
same_offset_by i x y imm x' y' imm' (inr h) (inr k) = cc

pub same_offset : (text : List ℕ) (a x y imm x' y' imm' : ℕ) → BranchAt text a x y imm → BranchAt text a x' y' imm' → imm ≡ imm'
same_offset text a x y imm x' y' imm' b c = same_offset_by b.instr x y imm x' y' imm' b.is (subst (λ (j : Instr). IsBranch j x' y' imm') (same_instr text a c.instr b.instr c.at b.at) c.is)

-- whether a word is a break
abbrev breaks : Instr → Bool
breaks (Break code) = true
breaks _ = false

abbrev breaks_at : Option Instr → Bool
breaks_at None = false
breaks_at (Some i) = breaks i

code_of : (i : Instr) → breaks i ≡ true → (code : ℕ) × (i ≡ Break code)
code_of (Break code) h = (code, refl)
code_of _ h = absurd (no_truth h)

abbrev IsBreakAt : List ℕ → ℕ → Type 0
IsBreakAt text a = (code : ℕ) × At text a (Break code)

break_or_by : (text : List ℕ) (a : ℕ) (o : Option Instr) (z : Bool) → instr_at text a ≡ o → breaks_at o ≡ z → IsBreakAt text a ⊎ (IsBreakAt text a → ⊥)
break_or_by text a None z e h = inr (λ k. none_some (Break k.0) (sym e ∙ k.1))
break_or_by text a (Some i) true e h = let c : (code : ℕ) × (i ≡ Break code) = code_of i h in inl (c.0, e ∙ ap (λ (j : Instr). Some j) c.1)
break_or_by text a (Some i) false e h = inr (λ k. no_truth (sym h ∙ ap (λ (j : Option Instr). breaks_at j) (sym e ∙ k.1)))

break_or : (text : List ℕ) (a : ℕ) → IsBreakAt text a ⊎ (IsBreakAt text a → ⊥)
break_or text a = break_or_by text a (instr_at text a) (breaks_at (instr_at text a)) refl refl

-- whether a branch skips a break
pub data SkipOr (text : List ℕ) (a : ℕ) : Type 0 where
  skips : (code : ℕ) → SkipsBreak text a code → SkipOr text a
  skips_none : ((code : ℕ) → SkipsBreak text a code → ⊥) → SkipOr text a

skip_or_by : (text : List ℕ) (a x y imm : ℕ) → BranchAt text a x y imm → (imm ≡ 2) ⊎ (imm ≢ 2) → IsBreakAt text (a + 8) ⊎ (IsBreakAt text (a + 8) → ⊥) → SkipOr text a
skip_or_by text a x y imm b (inl e) (inl k) = skips k.0 (record { x = x; y = y; branch = subst (λ (n : ℕ). BranchAt text a x y n) e b; stop = k.1 })
skip_or_by text a x y imm b (inl e) (inr n) = skips_none (λ code k. n (code, k.stop))
skip_or_by text a x y imm b (inr n) t = skips_none (λ code k. n (same_offset text a x y imm k.x k.y 2 b k.branch))

pub skip_or : (text : List ℕ) (a x y imm : ℕ) → BranchAt text a x y imm → SkipOr text a
skip_or text a x y imm b = skip_or_by text a x y imm b (is_or imm 2) (break_or text (a + 8))

-- registers after a write
not_zero : (d : ℕ) → d ≢ 0 → (d == 0) ≡ false
not_zero d h = grind arith

set_here : (l : List ℕ) (d v : ℕ) → d < length l → slice_index (slice_set l d v) d ≡ v
set_here l d v h = grind (arith, common_steps)

set_there : (l : List ℕ) (d v q : ℕ) → q ≢ d → slice_index (slice_set l d v) q ≡ slice_index l q
set_there l d v q h = grind (arith, common_steps)

set_long : (l : List ℕ) (d v : ℕ) → length (slice_set l d v) ≡ length l
set_long l d v = grind (arith, common_steps)

pub written_here : (l : List ℕ) (d v : ℕ) → d ≢ 0 → d < length l → slice_index (written l d v) d ≡ v
written_here l d v n h = rw (not_zero d n) (set_here l d v h)

written_there_by : (l : List ℕ) (d v q : ℕ) (z : Bool) → q ≢ d → slice_index (cond z l (slice_set l d v)) q ≡ slice_index l q
written_there_by l d v q true n = refl
written_there_by l d v q false n = set_there l d v q n

pub written_there : (l : List ℕ) (d v q : ℕ) → q ≢ d → slice_index (written l d v) q ≡ slice_index l q
written_there l d v q n = written_there_by l d v q (d == 0) n

written_zero_by : (l : List ℕ) (d v : ℕ) (z : Bool) → (d == 0) ≡ z → slice_index (cond z l (slice_set l d v)) 0 ≡ slice_index l 0
written_zero_by l d v true e = refl
written_zero_by l d v false e = set_there l d v 0 (zero_apart d e)
  where
    zero_apart : (d : ℕ) → (d == 0) ≡ false → 0 ≢ d
    zero_apart d e = grind arith

pub written_zero : (l : List ℕ) (d v : ℕ) → slice_index (written l d v) 0 ≡ slice_index l 0
written_zero l d v = written_zero_by l d v (d == 0) refl

written_long_by : (l : List ℕ) (d v : ℕ) (z : Bool) → length (cond z l (slice_set l d v)) ≡ length l
written_long_by l d v true = refl
written_long_by l d v false = set_long l d v

pub written_long : (l : List ℕ) (d v : ℕ) → length (written l d v) ≡ length l
written_long l d v = written_long_by l d v (d == 0)
