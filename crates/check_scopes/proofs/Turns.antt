-- A list that is walked from its front while what was walked is kept: the loops that take a list apart and build it again.
use Rattle.std.proofs.Common.{◌≡◌, ℕ, ◌+◌, ◌≤◌, List, [], ◌∷◌, ◌++◌, map, sum, length, reverse, Result, Ok, Err, refl, sym, ap, ◌∙◌, append_assoc, length-append, arith}
use Rattle.std.proofs.lemmas.List.Sums.{sum_by-append}
use Rattle.std.proofs.lemmas.List.{reverse-append}
use Rattle.check_rules.specs.Fault.{Fault, Walk, ◌>>=◌}

abbrev pub onto_front : {B W : Type 0} → List B → List B × W → Walk (List B × W)
onto_front all = λ (bs, w). Ok (all ++ bs, w)

abbrev pub with_first : {B W : Type 0} → B → List B × W → Walk (List B × W)
with_first b = λ (bs, w). Ok (b ∷ bs, w)

regrouped : {B W : Type 0} (m : Walk (List B × W)) (b : B) (all : List B) → (m >>= with_first b) >>= onto_front all ≡ m >>= onto_front (all ++ b ∷ [])
regrouped (Ok (bs, w)) b all = ap (λ l. Ok (l, w)) (sym (append_assoc all (b ∷ []) bs))
regrouped (Err f) b all = refl

-- one turn, from the list that is left
pub next_turn : {A B W : Type 0} (one : A → W → Walk (B × W)) (each : List A → W → Walk (List B × W)) → ((a : A) (as' : List A) (w : W) → each (a ∷ as') w ≡ one a w >>= (λ r. each as' r.1 >>= with_first r.0)) →
    (turned turned' : List A) (a : A) (b : B) (w w' : W) (all : List B) (whole : Walk (List B × W)) → whole ≡ each (reverse turned) w >>= onto_front all → turned ≡ turned' ++ a ∷ [] → one a w ≡ Ok (b, w') → whole ≡ each (reverse turned') w' >>= onto_front (all ++ b ∷ [])
next_turn one each cons turned turned' a b w w' all whole inv is did =
    inv ∙ ap (λ l. each l w >>= onto_front all) (ap reverse is ∙ reverse-append turned' (a ∷ [])) ∙ ap (λ m. m >>= onto_front all) (cons a (reverse turned') w ∙ ap (λ m. m >>= (λ r. each (reverse turned') r.1 >>= with_first r.0)) did) ∙ regrouped (each (reverse turned') w') b all

pub sum_first : (a : ℕ) (as' : List ℕ) → sum (a ∷ as') ≡ a + sum as'
sum_first a as' = omega (arith, sum_by-append (λ x. x) (a ∷ []) as')

-- the room that is left after one turn
pub room_turn : {A : Type 0} (size : A → ℕ) (turned turned' : List A) (a : A) (n n' limit : ℕ) → n + sum (map size (reverse turned)) ≤ limit → turned ≡ turned' ++ a ∷ [] → n' ≤ n + size a → n' + sum (map size (reverse turned')) ≤ limit
room_turn size turned turned' a n n' limit within is grows =
    let e : map size (reverse turned) ≡ size a ∷ map size (reverse turned') = ap (λ l. map size (reverse l)) is ∙ ap (map size) (reverse-append turned' (a ∷ [])) in
    let s = ap sum e ∙ sum_first (size a) (map size (reverse turned')) in
    omega (arith, within, s, grows)

pub count_turn : {A : Type 0} (turned turned' : List A) (a : A) (n n' limit : ℕ) → n + length turned ≤ limit → turned ≡ turned' ++ a ∷ [] → n' ≤ n + 1 → n' + length turned' ≤ limit
count_turn turned turned' a n n' limit within is grows =
    let s = ap length is ∙ length-append turned' (a ∷ []) in
    omega (arith, within, s, grows)
