-- The words of an array's elements, one by one.
use Rattle.std.proofs.Common.{◌≡◌, ℕ, zero, suc, ◌+◌, List, [], ◌∷◌, ◌++◌, get_or, refl, sym, ap, ◌∙◌, add-one}
use Rattle.c_meaning.specs.Meaning.{padded}

one_element : (i : ℕ) (ws : List ℕ) → padded (suc i) ws ≡ padded i ws ++ get_or ws i 0 ∷ []
one_element zero [] = refl
one_element zero (w ∷ ws) = refl
one_element (suc i) [] = ap (λ l. 0 ∷ l) (one_element i [])
one_element (suc i) (w ∷ ws) = ap (λ l. w ∷ l) (one_element i ws)

-- one word more
pub next_word : (i : ℕ) (ws before after : List ℕ) (word : ℕ) → before ≡ padded i ws → word ≡ get_or ws i 0 → after ≡ before ++ word ∷ [] → after ≡ padded (i + 1) ws
next_word i ws before after word was is pushed = pushed ∙ ap (λ l. l ++ word ∷ []) was ∙ ap (λ w. padded i ws ++ w ∷ []) is ∙ sym (ap (λ n. padded n ws) (add-one i) ∙ one_element i ws)
