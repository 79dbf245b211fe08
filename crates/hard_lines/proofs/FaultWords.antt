-- The words of a line, one after another.
use Rattle.std.proofs.Common.{◌≡◌, ℕ, suc, ◌+◌, ◌-◌, ◌*◌, ◌^◌, ◌<◌, ◌≤◌, List, [], ◌∷◌, length, take, drop, arith, ap, ◌∙◌, refl, sym, subst, length-take, inl, inr, true, false}
use Rattle.std.specs.Prelude.{◌⊎◌, ◌==◌, not, Some, filter, slice_get}
use Rattle.std.specs.List.{slice_split, position_or_len}
use Rattle.std.proofs.lemmas.List.Sums.{prefix_len-le-length}
use Rattle.std.proofs.lemmas.Bool.Decides.{nat_tests}
use Rattle.std.proofs.Math.Nat.{pow-le-pow_right}
use Rattle.hard_lines.specs.Faults.{is_gap, is_word, words, word_at}
use Rattle.hard_lines.proofs.Reading.{split_step}

-- the first piece, where it has bytes, is the first word
begins : (line : List ℕ) (end : ℕ) → end ≡ position_or_len is_gap line → 0 < end → words line ≡ take end line ∷ words (drop (end + 1) line)
begins line end e some =
    let piece : List ℕ = take end line in
    let within : end ≤ length line = omega (arith, e, prefix_len-le-length (λ (x : ℕ). not (is_gap x)) line) in
    let long : length piece ≡ end = omega (arith, length-take end line, within) in
    let held : is_word piece ≡ true = grind (arith, nat_tests, long, some) in
    elim (split_step is_gap line) [
      | inl more ↦ ap (λ (l : List (List ℕ)). filter is_word l) (subst (λ (n : ℕ). slice_split is_gap line ≡ take n line ∷ slice_split is_gap (drop (n + 1) line)) (sym e) more) ∙ rw held refl
      | inr none ↦
          let only : slice_split is_gap line ≡ piece ∷ [] = subst (λ (n : ℕ). slice_split is_gap line ≡ take n line ∷ []) (sym e) none.0 in
          let gone : drop (end + 1) line ≡ [] = subst (λ (n : ℕ). drop (n + 1) line ≡ []) (sym e) none.1 in
          ap (λ (l : List (List ℕ)). filter is_word l) only ∙ rw (held, gone) refl
    ]

-- an empty first piece is no word
passes : (line : List ℕ) (end : ℕ) → end ≡ position_or_len is_gap line → end ≡ 0 → words line ≡ words (drop (end + 1) line)
passes line end e none = elim (split_step is_gap line) [
  | inl more ↦
      let cut : slice_split is_gap line ≡ take end line ∷ slice_split is_gap (drop (end + 1) line) = subst (λ (n : ℕ). slice_split is_gap line ≡ take n line ∷ slice_split is_gap (drop (n + 1) line)) (sym e) more in
      ap (λ (l : List (List ℕ)). filter is_word l) cut ∙ rw none refl
  | inr last ↦
      let only : slice_split is_gap line ≡ take end line ∷ [] = subst (λ (n : ℕ). slice_split is_gap line ≡ take n line ∷ []) (sym e) last.0 in
      let gone : drop (end + 1) line ≡ [] = subst (λ (n : ℕ). drop (n + 1) line ≡ []) (sym e) last.1 in
      ap (λ (l : List (List ℕ)). filter is_word l) only ∙ rw (gone, none) refl
]

-- the word of number 1
pub word_here : (line : List ℕ) (end : ℕ) → end ≡ position_or_len is_gap line → 0 < end → word_at line 1 ≡ Some (take end line)
word_here line end e some = ap (λ (l : List (List ℕ)). slice_get l 0) (begins line end e some)

-- a later word is counted from behind the first
pub word_behind : (line : List ℕ) (end left : ℕ) → end ≡ position_or_len is_gap line → 0 < end → 1 ≤ left → word_at (drop (end + 1) line) left ≡ word_at line (left + 1)
word_behind line end left e some one =
    let rest : List (List ℕ) = words (drop (end + 1) line) in
    let index : left + 1 - 1 ≡ suc (left - 1) = omega (arith, one) in
    sym (ap (λ (l : List (List ℕ)). slice_get l (left + 1 - 1)) (begins line end e some) ∙ ap (λ (n : ℕ). slice_get (take end line ∷ rest) n) index)

-- behind an empty piece the words are counted on
pub word_on : (line : List ℕ) (end left : ℕ) → end ≡ position_or_len is_gap line → end ≡ 0 → word_at (drop (end + 1) line) left ≡ word_at line left
word_on line end left e none = sym (ap (λ (l : List (List ℕ)). slice_get l (left - 1)) (passes line end e none))

-- eight hexadecimal digits have 32 bits
pub small_hex : (k v d : ℕ) → v < 16 ^ k → k < 8 → d < 16 → v * 16 + d < 2 ^ 32
small_hex k v d small few digit =
    let within : k ≤ 7 = omega (arith, few) in
    let most : 16 ^ k ≤ 16 ^ 7 = pow-le-pow_right (omega arith) within in
    let below : v < 268435456 = omega (arith, small, most) in
    omega (arith, below, digit)
