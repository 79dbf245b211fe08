-- Addresses of a text, and what is decided of its words.
use Rattle.std.proofs.Common.{◌≡◌, ◌≢◌, ℕ, ◌+◌, ◌-◌, ◌/◌, ◌%◌, ◌≤◌, ◌<◌, arith, rules, ap, refl, sym, ◌∙◌, subst, List, length, false, true, Bool, cond, inl, inr}
use Rattle.std.specs.Prelude.{Option, Some, None, ◌⊎◌, ◌==◌, ◌&&◌, nat_le, nat_lt, slice_index}
use Rattle.mips_isa.specs.declared.instr.Instr.{Instr}
use Rattle.mips_isa.specs.declared.instr.Instr.TheVariants.{Break, Beq, Bne}
use Rattle.mips_isa.specs.Table.{decoded}
use Rattle.mips_isa.specs.Machine.{plus, text_place}
use Rattle.mips_text.specs.Text.{IsText, InText, At, instr_at, BranchAt, IsBranch, SkipsBreak, SkipsReport, branch_goal}
use Rattle.mips_text.specs.Blocks.{ForkAt}
use Rattle.lint_lockstep.proofs.Fetch.{same_instr}

pub no_truth : false ≡ true → ⊥
no_truth h = search (rules, h)

pub none_some : (i : Instr) → None ≡ Some i → ⊥
none_some i h = search (rules, h)

-- an instruction stands in the text
zero_of : (n : ℕ) → (n == 0) ≡ true → n ≡ 0
zero_of n h = grind arith

le_of : (a b : ℕ) → nat_le a b ≡ true → a ≤ b
le_of a b h = grind arith

lt_of : (a b : ℕ) → nat_lt a b ≡ true → a < b
lt_of a b h = grind arith

in_text_by : (text : List ℕ) (a : ℕ) (i : Instr) (x y z : Bool) (o : Option Instr) → (a % 4 == 0) ≡ x → nat_le 0x00400000 a ≡ y → nat_lt (text_place a) (length text) ≡ z → cond (x && (y && z)) o None ≡ Some i → InText text a
in_text_by text a i true true true o e f g h = record { aligned = zero_of (a % 4) e; from = le_of 0x00400000 a f; upto = lt_of (text_place a) (length text) g }
in_text_by text a i true true false o e f g h = absurd (none_some i h)
in_text_by text a i true false z o e f g h = absurd (none_some i h)
in_text_by text a i false y z o e f g h = absurd (none_some i h)

pub in_text : (text : List ℕ) (a : ℕ) (i : Instr) → At text a i → InText text a
in_text text a i h = in_text_by text a i (a % 4 == 0) (nat_le 0x00400000 a) (nat_lt (text_place a) (length text)) (decoded (slice_index text (text_place a))) refl refl refl h

-- an address of the text is below 2^28
upper : (a n : ℕ) → 0x00400000 ≤ a → (a - 0x00400000) / 4 < n → n ≤ 66060288 → a < 268435456
upper a n h k l = omega arith

pub below : (text : List ℕ) (a : ℕ) → IsText text → InText text a → a < 268435456
below text a f t = upper a (length text) t.from t.upto f

sum_fits : (a b : ℕ) → a < 268435456 → b ≤ 1024 → (a + b) % 4294967296 ≡ a + b
sum_fits a b h k = omega arith

pub plus_four : (text : List ℕ) (a : ℕ) → IsText text → InText text a → plus a 4 ≡ a + 4
plus_four text a f t = sum_fits a 4 (below text a f t) (omega arith)

four_more : (a : ℕ) → a < 268435456 → (a + 4 + 4) % 4294967296 ≡ a + 8
four_more a h = omega arith

pub plus_eight : (text : List ℕ) (a : ℕ) → IsText text → InText text a → plus (plus a 4) 4 ≡ a + 8
plus_eight text a f t = ap (λ (x : ℕ). plus x 4) (plus_four text a f t) ∙ four_more a (below text a f t)

eight_more : (a : ℕ) → a < 268435456 → (a + 4 + 8) % 4294967296 ≡ a + 12
eight_more a h = omega arith

pub goal_two : (text : List ℕ) (a : ℕ) → IsText text → InText text a → branch_goal a 2 ≡ a + 12
goal_two text a f t = ap (λ (x : ℕ). plus x 8) (plus_four text a f t) ∙ eight_more a (below text a f t)

-- what a branch is
same_four : (x y imm x' y' imm' : ℕ) → Beq x y imm ≡ Beq x' y' imm' → imm ≡ imm'
same_four x y imm x' y' imm' h = search (rules, h)

same_five : (x y imm x' y' imm' : ℕ) → Bne x y imm ≡ Bne x' y' imm' → imm ≡ imm'
same_five x y imm x' y' imm' h = search (rules, h)

four_five : (x y imm x' y' imm' : ℕ) → Beq x y imm ≡ Bne x' y' imm' → ⊥
four_five x y imm x' y' imm' h = search (rules, h)

same_offset_by : (i : Instr) (x y imm x' y' imm' : ℕ) → IsBranch i x y imm → IsBranch i x' y' imm' → imm ≡ imm'
same_offset_by i x y imm x' y' imm' (inl h) (inl k) = same_four x y imm x' y' imm' (sym h ∙ k)
same_offset_by i x y imm x' y' imm' (inl h) (inr k) = absurd (four_five x y imm x' y' imm' (sym h ∙ k))
same_offset_by i x y imm x' y' imm' (inr h) (inl k) = absurd (four_five x' y' imm' x y imm (sym k ∙ h))
same_offset_by i x y imm x' y' imm' (inr h) (inr k) = same_five x y imm x' y' imm' (sym h ∙ k)

pub same_offset : (text : List ℕ) (a x y imm x' y' imm' : ℕ) → BranchAt text a x y imm → BranchAt text a x' y' imm' → imm ≡ imm'
same_offset text a x y imm x' y' imm' b c = same_offset_by b.instr x y imm x' y' imm' b.is (subst (λ (j : Instr). IsBranch j x' y' imm') (same_instr text a c.instr b.instr c.at b.at) c.is)

-- whether a word is a break
pub data BreakOr (text : List ℕ) (a : ℕ) : Type 0 where
  is_break : (code : ℕ) → At text a (Break code) → BreakOr text a
  no_break : ((code : ℕ) → At text a (Break code) → ⊥) → BreakOr text a

abbrev breaks : Instr → Bool
breaks (Break code) = true
breaks _ = false

abbrev breaks_at : Option Instr → Bool
breaks_at None = false
breaks_at (Some i) = breaks i

code_of : (i : Instr) → breaks i ≡ true → (code : ℕ) × (i ≡ Break code)
code_of (Break code) h = (code, refl)
code_of _ h = absurd (no_truth h)

break_or_by : (text : List ℕ) (a : ℕ) (o : Option Instr) (z : Bool) → instr_at text a ≡ o → breaks_at o ≡ z → BreakOr text a
break_or_by text a None z e h = no_break (λ code k. none_some (Break code) (sym e ∙ k))
break_or_by text a (Some i) true e h = let c : (code : ℕ) × (i ≡ Break code) = code_of i h in is_break c.0 (e ∙ ap (λ (j : Instr). Some j) c.1)
break_or_by text a (Some i) false e h = no_break (λ code k. no_truth (sym h ∙ ap (λ (j : Option Instr). breaks_at j) (sym e ∙ k)))

pub break_or : (text : List ℕ) (a : ℕ) → BreakOr text a
break_or text a = break_or_by text a (instr_at text a) (breaks_at (instr_at text a)) refl refl

two_or : (imm : ℕ) → (imm ≡ 2) ⊎ (imm ≢ 2)
two_or imm = grind arith

-- whether a branch skips a break
pub data SkipOr (text : List ℕ) (a : ℕ) : Type 0 where
  skips : (code : ℕ) → SkipsBreak text a code → SkipOr text a
  skips_none : ((code : ℕ) → SkipsBreak text a code → ⊥) → SkipOr text a

skip_or_by : (text : List ℕ) (a x y imm : ℕ) → BranchAt text a x y imm → (imm ≡ 2) ⊎ (imm ≢ 2) → BreakOr text (a + 8) → SkipOr text a
skip_or_by text a x y imm b (inl e) (is_break code h) = skips code (record { x = x; y = y; branch = subst (λ (n : ℕ). BranchAt text a x y n) e b; stop = h })
skip_or_by text a x y imm b (inl e) (no_break n) = skips_none (λ code k. n code k.stop)
skip_or_by text a x y imm b (inr n) t = skips_none (λ code k. n (same_offset text a x y imm k.x k.y 2 b k.branch))

pub skip_or : (text : List ℕ) (a x y imm : ℕ) → BranchAt text a x y imm → SkipOr text a
skip_or text a x y imm b = skip_or_by text a x y imm b (two_or imm) (break_or text (a + 8))

same_code : (code code' : ℕ) → Break code ≡ Break code' → code ≡ code'
same_code code code' h = search (rules, h)

one_two : (code : ℕ) → (code ≡ 1) ⊎ ((code ≡ 2) ⊎ ((code ≢ 1) × (code ≢ 2)))
one_two code = grind arith

-- whether it skips a report
pub report_or : (text : List ℕ) (a x y imm : ℕ) → BranchAt text a x y imm → SkipsReport text a ⊎ (SkipsReport text a → ⊥)
report_or text a x y imm b = elim (skip_or text a x y imm b) as (λ z. SkipsReport text a ⊎ (SkipsReport text a → ⊥)) [
  | skips code k ↦ elim (one_two code) as (λ z. SkipsReport text a ⊎ (SkipsReport text a → ⊥)) [
    | inl e ↦ inl (inl (subst (λ (n : ℕ). SkipsBreak text a n) e k))
    | inr (inl e) ↦ inl (inr (subst (λ (n : ℕ). SkipsBreak text a n) e k))
    | inr (inr n) ↦ inr (λ h. elim h as (λ z. ⊥) [
      | inl m ↦ n.0 (same_code code 1 (same_instr text (a + 8) (Break code) (Break 1) k.stop m.stop))
      | inr m ↦ n.1 (same_code code 2 (same_instr text (a + 8) (Break code) (Break 2) k.stop m.stop))
    ])
  ]
  | skips_none n ↦ inr (λ h. elim h as (λ z. ⊥) [ inl m ↦ n 1 m | inr m ↦ n 2 m ])
]

-- a branch of which neither is known leads to starts
pub fork_of : (text : List ℕ) (a x y imm : ℕ) → BranchAt text a x y imm → ((code : ℕ) → SkipsBreak text a code → ⊥) → ForkAt text a imm
fork_of text a x y imm b n = record { x = x; y = y; branch = b; skips_none = n }
