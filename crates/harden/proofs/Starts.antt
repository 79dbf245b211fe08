-- The starts of an image as a list.
use Rattle.std.proofs.Common.{◌≡◌, ◌≤◌, ◌<◌, ℕ, ◌+◌, arith, sym, ◌∙◌, subst, length, map}
use Rattle.std.specs.Prelude.{Contains}
use Rattle.std.specs.List.{range_with_len}
use Rattle.std.proofs.lemmas.List.FromFn.{length-map-range_with_len, get_or-map-range_with_len}
use Rattle.mips_isa.specs.Image.{ImageFields}
use Rattle.layout_hardened.specs.Law.{HasStarts}
use Rattle.mips_text.specs.Starts.{HasFewStarts}

-- the list of the places that the starts are among
pub listed : (i : ImageFields) (n m : ℕ) (place : ℕ → ℕ) → HasStarts i n place → n ≤ m → HasFewStarts i.text i.entry m
listed i n m place s h = record {
  list = map place (range_with_len 0 n);
  few = subst (λ (k : ℕ). k ≤ m) (sym (length-map-range_with_len place 0 n)) h;
  all = λ w is. stands w (s.start w is);
}
  where
    stands : (w : ℕ) → (b : ℕ) × (b < n) × (w ≡ place b) → Contains (map place (range_with_len 0 n)) w
    stands w (b, below, is) = (b, subst (λ (k : ℕ). b < k) (sym (length-map-range_with_len place 0 n)) below, get_or-map-range_with_len place 0 n b b w below (plain b) ∙ sym is)
      where
        plain : (k : ℕ) → 0 + k ≡ k
        plain k = omega arith
