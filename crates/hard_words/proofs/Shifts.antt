-- A word shifted right with its sign is a word.
use Rattle.std.proofs.Common.{◌≡◌, ℕ, suc, ◌+◌, ◌-◌, ◌/◌, ◌%◌, ◌^◌, ◌<◌, Bool, true, false, nat_lt, if◌then◌else◌, ℤ, pos, negsuc, refl, sym, ap, subst, arith, div-le_self}
use Rattle.std.proofs.lemmas.Bool.{ltb-false}
use Rattle.std.specs.Int.{w32, cast_unsigned, int_shr}
use Rattle.hard_words.specs.Words.{signed, signed_shift}

-- how far from 0 an integer may be that a word stands for
abbrev Magnitude : ℤ → Type 0
Magnitude (pos n) = n < 2 ^ 32
Magnitude (negsuc n) = suc n < 2 ^ 32

signed_magnitude : (x : ℕ) → x < 2 ^ 32 → Magnitude (signed x)
signed_magnitude x lt = by (nat_lt x (2 ^ 31)) refl
  where
    by : (b : Bool) → nat_lt x (2 ^ 31) ≡ b → Magnitude (signed x)
    by true is = subst (λ z. Magnitude z) (sym (ap (λ (b : Bool). if b then pos x else negsuc (2 ^ 32 - suc x)) is)) lt
    by false is = let le = ltb-false x (2 ^ 31) is in subst (λ z. Magnitude z) (sym (ap (λ (b : Bool). if b then pos x else negsuc (2 ^ 32 - suc x)) is)) (omega (arith, le))

shifted_small : (a : ℤ) (k : ℕ) → Magnitude a → cast_unsigned w32 (int_shr a k) < 2 ^ 32
shifted_small (pos a) k m = omega (arith, m, div-le_self a (2 ^ k))
shifted_small (negsuc a) k m = omega arith

pub signed_shift_small : (x k : ℕ) → x < 2 ^ 32 → signed_shift x k < 2 ^ 32
signed_shift_small x k lt = shifted_small (signed x) (k % 32) (signed_magnitude x lt)
