-- What stands at offsets, step by step.
use Rattle.std.proofs.Common.{◌≡◌, ℕ, suc, ◌+◌, ◌-◌, ◌<◌, ◌≤◌, arith, ap, sym, ◌∙◌, List, [], ◌∷◌, ◌++◌, append_assoc, append-nil}
use Rattle.std.specs.Prelude.{IsTrue}
use Rattle.std.specs.List.{list_all}
use Rattle.std.proofs.lemmas.Grind.{common_steps}
use Rattle.elf_image.specs.Bounds.{has_register}
use Rattle.elf_image.specs.Held.{number_at}
use Rattle.elf_image.specs.Refusal.{words_at, pairs_at}

one_less : (count i : ℕ) → i < count → count - i ≡ suc (count - (i + 1))
one_less count i h = omega arith

-- the first of the words that are left
pub words_left : (count i at : ℕ) (bytes : List ℕ) → i < count → words_at (count - i) at bytes ≡ number_at 4 at bytes ∷ words_at (count - (i + 1)) (at + 4) bytes
unfolding words_at
words_left count i at bytes h = ap (λ (k : ℕ). words_at k at bytes) (one_less count i h)

-- the first of the pairs that are left
pub pairs_left : (count i at : ℕ) (bytes : List ℕ) → i < count → pairs_at (count - i) at bytes ≡ (number_at 4 at bytes, number_at 4 (at + 4) bytes) ∷ pairs_at (count - (i + 1)) (at + 8) bytes
unfolding pairs_at
pairs_left count i at bytes h = ap (λ (k : ℕ). pairs_at k at bytes) (one_less count i h)

none_left : (count i : ℕ) → count ≤ i → count - i ≡ 0
none_left count i h = omega arith

-- no pairs are left at the end
pub no_pairs_left : (count i at : ℕ) (bytes : List ℕ) → count ≤ i → pairs_at (count - i) at bytes ≡ []
unfolding pairs_at
no_pairs_left count i at bytes h = ap (λ (k : ℕ). pairs_at k at bytes) (none_left count i h)

-- no words are left at the end
pub no_words_left : (count i at : ℕ) (bytes : List ℕ) → count ≤ i → words_at (count - i) at bytes ≡ []
unfolding words_at
no_words_left count i at bytes h = ap (λ (k : ℕ). words_at k at bytes) (none_left count i h)

-- one more element of a list was read
pub one_more : {A : Type 0} (done new left rest all : List A) (x : A) → new ≡ done ++ x ∷ [] → left ≡ x ∷ rest → done ++ left ≡ all → new ++ rest ≡ all
one_more done new left rest all x e f g =
    ap (λ (l : List _). l ++ rest) e ∙ (append_assoc done (x ∷ []) rest ∙ (ap (λ (l : List _). done ++ l) (sym f) ∙ g))

-- all was read
pub all_read : {A : Type 0} (done left all : List A) → left ≡ [] → done ++ left ≡ all → done ≡ all
all_read done left all e g = sym (append-nil done) ∙ (ap (λ (l : List _). done ++ l) (sym e) ∙ g)

-- the registers of the windows that are left
pub registers_left : (left rest : List (ℕ × ℕ)) (p : ℕ × ℕ) → left ≡ p ∷ rest → IsTrue (list_all has_register left) → IsTrue (list_all has_register rest) × (p.1 ≤ 31)
registers_left left rest p e h = grind (arith, common_steps)
