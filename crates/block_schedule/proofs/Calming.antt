-- With the nops no item meets a hazard.
use Rattle.std.proofs.Common.{◌≡◌, ℕ, zero, suc, ◌-◌, arith, ap, refl, ◌∙◌, List, [], ◌∷◌, ◌++◌, replicate, Bool, true, false, cond, not, max}
use Rattle.std.specs.Prelude.{◌==◌, ◌&&◌, ◌||◌, nat_lt}
use Rattle.mips_isa.specs.Machine.{reads_of, is_product, among}
use Rattle.hard_items.specs.declared.code.Item.{Item}
use Rattle.hard_items.specs.Streams.{nop}
use Rattle.hard_items.specs.Counts.{loaded, quiet_after, is_break, may_stand, calm_from}
use Rattle.block_schedule.specs.Scheduling.{wait, with_nops}
use Rattle.block_schedule.proofs.Parts.{idle}

-- a nop may stand anywhere
nop_stands : (last quiet : ℕ) → may_stand last quiet nop ≡ true
nop_stands last quiet = elim (last == 0) as (λ z. (not (not z && (z || false)) && true) ≡ true) [ true ↦ refl | false ↦ refl ]

one_calm : (last quiet : ℕ) (xs : List Item) → calm_from last quiet (idle ∷ xs) ≡ calm_from 0 (quiet - 1) xs
one_calm last quiet xs = ap (λ (z : Bool). z && calm_from 0 (quiet - 1) xs) (nop_stands last quiet)

nops_calm : (n last quiet : ℕ) (xs : List Item) → calm_from last quiet (replicate (suc n) idle ++ xs) ≡ calm_from 0 (quiet - suc n) xs
nops_calm zero last quiet xs = one_calm last quiet xs
nops_calm (suc n) last quiet xs = one_calm last quiet (replicate (suc n) idle ++ xs) ∙ (nops_calm n 0 (quiet - 1) xs ∙ ap (λ (k : ℕ). calm_from 0 k xs) (less quiet n))
  where
    less : (q n : ℕ) → q - 1 - suc n ≡ q - suc (suc n)
    less q n = omega arith

-- where no nop stands before an item it may stand
free_stands : (a p : Bool) (quiet : ℕ) → max (cond a 1 0) (cond p quiet 0) ≡ 0 → (not a && not (p && nat_lt 0 quiet)) ≡ true
free_stands true p quiet h = absurd (wrong (cond p quiet 0) h)
  where
    wrong : (n : ℕ) → max 1 n ≡ 0 → ⊥
    wrong n h = omega arith
free_stands false false quiet h = refl
free_stands false true quiet h = ap (λ (n : ℕ). not (nat_lt 0 n)) (none quiet h)
  where
    none : (n : ℕ) → max 0 n ≡ 0 → n ≡ 0
    none n h = omega arith

-- behind so many nops a product may stand
late_stands : (a p : Bool) (quiet n : ℕ) → max (cond a 1 0) (cond p quiet 0) ≡ suc n → not (p && nat_lt 0 (quiet - suc n)) ≡ true
late_stands a false quiet n h = refl
late_stands true true quiet n h = ap (λ (k : ℕ). not (nat_lt 0 k)) (none quiet n h)
  where
    none : (q n : ℕ) → max 1 q ≡ suc n → q - suc n ≡ 0
    none q n h = omega arith
late_stands false true quiet n h = ap (λ (k : ℕ). not (nat_lt 0 k)) (none quiet n h)
  where
    none : (q n : ℕ) → max 0 q ≡ suc n → q - suc n ≡ 0
    none q n h = omega arith

-- an item behind its nops
item_calm : (w last quiet : ℕ) (i : Item) (rest : List Item) → is_break i.instr ≡ false → wait last quiet i.instr ≡ w → calm_from (loaded i.instr) (quiet_after i.instr (quiet - w)) rest ≡ true →
    calm_from last quiet (replicate w idle ++ i ∷ rest) ≡ true
item_calm zero last quiet i rest e h c =
    ap (λ (z : Bool). cond z (calm_from last quiet rest) (may_stand last quiet i.instr && calm_from (loaded i.instr) (quiet_after i.instr quiet) rest)) e ∙
    (ap (λ (z : Bool). z && calm_from (loaded i.instr) (quiet_after i.instr quiet) rest) (free_stands (not (last == 0) && among last (reads_of i.instr)) (is_product i.instr) quiet h) ∙
    (ap (λ (n : ℕ). calm_from (loaded i.instr) (quiet_after i.instr n) rest) (same quiet) ∙ c))
  where
    same : (q : ℕ) → q ≡ q - 0
    same q = omega arith
item_calm (suc n) last quiet i rest e h c = nops_calm n last quiet (i ∷ rest) ∙
    (ap (λ (z : Bool). cond z (calm_from 0 (quiet - suc n) rest) (may_stand 0 (quiet - suc n) i.instr && calm_from (loaded i.instr) (quiet_after i.instr (quiet - suc n)) rest)) e ∙
    (ap (λ (z : Bool). z && calm_from (loaded i.instr) (quiet_after i.instr (quiet - suc n)) rest) (late_stands (not (last == 0) && among last (reads_of i.instr)) (is_product i.instr) quiet n h) ∙ c))

-- Items with the nops that they need are calm.
pub nops_make_calm : (xs : List Item) (last quiet : ℕ) → calm_from last quiet (with_nops last quiet xs) ≡ true
nops_make_calm [] last quiet = refl
nops_make_calm (i ∷ more) last quiet =
    let w : ℕ = wait last quiet i.instr in
    let rest : List Item = with_nops (loaded i.instr) (quiet_after i.instr (quiet - w)) more in
    elim (is_break i.instr) as (λ z. is_break i.instr ≡ z → calm_from last quiet (cond z (i ∷ with_nops last quiet more) (replicate w idle ++ i ∷ rest)) ≡ true) [
      | true ↦ λ e. ap (λ (z : Bool). cond z (calm_from last quiet (with_nops last quiet more)) (may_stand last quiet i.instr && calm_from (loaded i.instr) (quiet_after i.instr quiet) (with_nops last quiet more))) e ∙ nops_make_calm more last quiet
      | false ↦ λ e. item_calm w last quiet i rest e refl (nops_make_calm more (loaded i.instr) (quiet_after i.instr (quiet - w)))
    ] refl
