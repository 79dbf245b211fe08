-- Beginnings of a text that were written.
use Rattle.std.proofs.Common.{◌≡◌, ℕ, suc, ◌+◌, ◌≤◌, arith, ap, sym, ◌∙◌, List, [], ◌∷◌, ◌++◌, append_assoc, length, take, inl, inr, zero-add}
use Rattle.std.proofs.lemmas.Bool.{cases_lt}
use Rattle.std.proofs.lemmas.List.{take_all, take-append-le}

-- a beginning of a text was appended
abbrev pub Part : List ℕ → List ℕ → List ℕ → Type 0
Part old new text = (n : ℕ) × (new ≡ old ++ take n text)

take_whole : (a b : List ℕ) (n : ℕ) → take (length a + n) (a ++ b) ≡ a ++ take n b
take_whole [] b n = ap (λ (k : ℕ). take k b) (zero-add n)
take_whole (x ∷ a) b n =
    let e : suc (length a) + n ≡ suc (length a + n) = omega arith in
    ap (λ (k : ℕ). take k (x ∷ (a ++ b))) e ∙ ap (λ (l : List ℕ). x ∷ l) (take_whole a b n)

take_front : (n : ℕ) (text more : List ℕ) → (k : ℕ) × (take n text ≡ take k (text ++ more))
take_front n text more = elim (cases_lt (length text) n) [
  | inl past ↦
      let all : length text ≤ n = omega arith in
      let same : length text ≤ length text = omega arith in
      (length text, take_all n text all ∙ (sym (take_all (length text) text same) ∙ sym (take-append-le (length text) text more same)))
  | inr within ↦ (n, sym (take-append-le n text more within))
]

-- a beginning of a beginning
pub part_front : (old new text whole more : List ℕ) → whole ≡ text ++ more → Part old new text → Part old new whole
part_front old new text whole more e p =
    let f : (k : ℕ) × (take p.0 text ≡ take k (text ++ more)) = take_front p.0 text more in
    (f.0, p.1 ∙ ap (λ (l : List ℕ). old ++ l) (f.1 ∙ ap (λ (l : List ℕ). take f.0 l) (sym e)))

-- a beginning of what follows
pub part_behind : (old mid new text tail : List ℕ) → mid ≡ old ++ text → Part mid new tail → Part old new (text ++ tail)
part_behind old mid new text tail e p =
    (length text + p.0, p.1 ∙ (ap (λ (l : List ℕ). l ++ take p.0 tail) e ∙ (append_assoc old text (take p.0 tail) ∙ ap (λ (l : List ℕ). old ++ l) (sym (take_whole text tail p.0)))))
