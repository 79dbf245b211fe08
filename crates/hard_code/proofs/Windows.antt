-- What holds of one window of numbers after another.
use Rattle.std.proofs.Common.{◌≡◌, ℕ, ◌+◌, ◌-◌, ◌<◌, Bool, true, subst, arith, inl, inr}
use Rattle.std.proofs.lemmas.Bool.{cases_lt}
use Rattle.hard_code.specs.Tested.{HoldsWithin}

pub window_more : (test : ℕ → Bool) (low count end : ℕ) → ((x : ℕ) → x < low → x < end → test x ≡ true) → HoldsWithin test low count end → (x : ℕ) → x < low + count → x < end → test x ≡ true
window_more test low count end before within x l h = elim (cases_lt x low) [
  | inl k ↦ before x k h
  | inr k ↦ let e : low + (x - low) ≡ x = omega arith in let P : ℕ → Type 0 = λ y. test y ≡ true in subst P e (within (x - low) (omega arith) (omega arith))
]
