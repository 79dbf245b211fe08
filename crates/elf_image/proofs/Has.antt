-- What a file has at an offset, and what is read there.
use Rattle.std.proofs.Common.{◌≡◌, ℕ, zero, suc, ◌+◌, Bool, true, false, arith, ap, refl, sym, ◌∙◌, subst, List, [], ◌∷◌, length, eqb-true, eq-eqb}
use Rattle.std.specs.Prelude.{IsTrue, ◌&&◌, ◌==◌, Option, Some}
use Rattle.std.specs.List.{list_all}
use Rattle.std.proofs.lemmas.Grind.{common_steps}
use Rattle.elf_image.specs.Bounds.{has_register, is_window, all_ascending, is_after, is_in_text}
use Rattle.elf_image.specs.Held.{number_at, has, flat}
use Rattle.elf_image.specs.Refusal.{words_at, pairs_at}

pub both : {a b : Bool} → a ≡ true → b ≡ true → (a && b) ≡ true
both {a = a} {b = b} e f = grind (arith, common_steps)

pub and_left : (a b : Bool) → (a && b) ≡ true → a ≡ true
and_left true b e = refl
and_left false b e = e

pub and_right : (a b : Bool) → (a && b) ≡ true → b ≡ true
and_right true b e = e
and_right false b e = absurd (cc)

-- the first number that a file has, and the others
pub first_is : (size n : ℕ) (ns : List ℕ) (at : ℕ) (bytes : List ℕ) → IsTrue (has size (n ∷ ns) at bytes) → number_at size at bytes ≡ n
unfolding has
first_is size n ns at bytes h = eqb-true (number_at size at bytes) n (and_left (number_at size at bytes == n) (has size ns (at + size) bytes) h)

pub others_are : (size n : ℕ) (ns : List ℕ) (at : ℕ) (bytes : List ℕ) → IsTrue (has size (n ∷ ns) at bytes) → IsTrue (has size ns (at + size) bytes)
unfolding has
others_are size n ns at bytes h = and_right (number_at size at bytes == n) (has size ns (at + size) bytes) h

pub has_more : (size n : ℕ) (ns : List ℕ) (at : ℕ) (bytes : List ℕ) → number_at size at bytes ≡ n → IsTrue (has size ns (at + size) bytes) → IsTrue (has size (n ∷ ns) at bytes)
unfolding has
has_more size n ns at bytes e h = both (eq-eqb (number_at size at bytes) n e) h

pub has_none : (size at : ℕ) (bytes : List ℕ) → IsTrue (has size [] at bytes)
unfolding has
has_none size at bytes = refl

-- words that are read are had
pub has_words : (n at : ℕ) (bytes : List ℕ) → IsTrue (has 4 (words_at n at bytes) at bytes)
unfolding words_at
has_words zero at bytes = has_none 4 at bytes
has_words (suc n) at bytes = has_more 4 (number_at 4 at bytes) (words_at n (at + 4) bytes) at bytes refl (has_words n (at + 4) bytes)

-- words that are had are read
pub words_had : (ws : List ℕ) (at : ℕ) (bytes : List ℕ) → IsTrue (has 4 ws at bytes) → words_at (length ws) at bytes ≡ ws
unfolding words_at
words_had [] at bytes h = refl
words_had (w ∷ ws) at bytes h =
    let e : number_at 4 at bytes ≡ w = first_is 4 w ws at bytes h in
    let r : words_at (length ws) (at + 4) bytes ≡ ws = words_had ws (at + 4) bytes (others_are 4 w ws at bytes h) in
    ap (λ (k : ℕ). k ∷ words_at (length ws) (at + 4) bytes) e ∙ ap (λ (l : List ℕ). w ∷ l) r

pub length-words_at : (n at : ℕ) (bytes : List ℕ) → length (words_at n at bytes) ≡ n
unfolding words_at
length-words_at zero at bytes = refl
length-words_at (suc n) at bytes = ap (λ (k : ℕ). suc k) (length-words_at n (at + 4) bytes)

four_four : (at : ℕ) → at + 4 + 4 ≡ at + 8
four_four at = omega arith

-- pairs that are read are had
pub has_pairs : (n at : ℕ) (bytes : List ℕ) → IsTrue (has 4 (flat (pairs_at n at bytes)) at bytes)
unfolding pairs_at
has_pairs zero at bytes = has_none 4 at bytes
has_pairs (suc n) at bytes =
    let rest : List ℕ = flat (pairs_at n (at + 8) bytes) in
    let r : IsTrue (has 4 rest (at + 4 + 4) bytes) = subst (λ (k : ℕ). IsTrue (has 4 rest k bytes)) (sym (four_four at)) (has_pairs n (at + 8) bytes) in
    has_more 4 (number_at 4 at bytes) (number_at 4 (at + 4) bytes ∷ rest) at bytes refl (has_more 4 (number_at 4 (at + 4) bytes) rest (at + 4) bytes refl r)

-- pairs that are had are read
pub pairs_had : (ps : List (ℕ × ℕ)) (at : ℕ) (bytes : List ℕ) → IsTrue (has 4 (flat ps) at bytes) → pairs_at (length ps) at bytes ≡ ps
unfolding pairs_at
pairs_had [] at bytes h = refl
pairs_had (p ∷ ps) at bytes h =
    let e : number_at 4 at bytes ≡ p.0 = first_is 4 p.0 (p.1 ∷ flat ps) at bytes h in
    let h1 : IsTrue (has 4 (p.1 ∷ flat ps) (at + 4) bytes) = others_are 4 p.0 (p.1 ∷ flat ps) at bytes h in
    let f : number_at 4 (at + 4) bytes ≡ p.1 = first_is 4 p.1 (flat ps) (at + 4) bytes h1 in
    let h2 : IsTrue (has 4 (flat ps) (at + 8) bytes) = subst (λ (k : ℕ). IsTrue (has 4 (flat ps) k bytes)) (four_four at) (others_are 4 p.1 (flat ps) (at + 4) bytes h1) in
    let r : pairs_at (length ps) (at + 8) bytes ≡ ps = pairs_had ps (at + 8) bytes h2 in
    ap (λ (k : ℕ). (k, number_at 4 (at + 4) bytes) ∷ pairs_at (length ps) (at + 8) bytes) e
    ∙ (ap (λ (k : ℕ). (p.0, k) ∷ pairs_at (length ps) (at + 8) bytes) f ∙ ap (λ (l : List (ℕ × ℕ)). p ∷ l) r)

pub length-pairs_at : (n at : ℕ) (bytes : List ℕ) → length (pairs_at n at bytes) ≡ n
unfolding pairs_at
length-pairs_at zero at bytes = refl
length-pairs_at (suc n) at bytes = ap (λ (k : ℕ). suc k) (length-pairs_at n (at + 8) bytes)

-- windows in order have registers
pub registers_of : (words : ℕ) (last : Option (ℕ × ℕ)) (ps : List (ℕ × ℕ)) → IsTrue (all_ascending (is_window words) last ps) → IsTrue (list_all has_register ps)
registers_of words last [] h = refl
registers_of words last (p ∷ ps) h =
    let here : (is_after last p && is_window words p) ≡ true = and_left (is_after last p && is_window words p) (all_ascending (is_window words) (Some p) ps) h in
    let w : is_window words p ≡ true = and_right (is_after last p) (is_window words p) here in
    both (and_right _ (has_register p) (and_right (is_in_text words p.0) _ w)) (registers_of words (Some p) ps (and_right (is_after last p && is_window words p) (all_ascending (is_window words) (Some p) ps) h))
