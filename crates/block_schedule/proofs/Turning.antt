-- Units in turn, round by round.
use Rattle.std.proofs.Common.{◌≡◌, ◌≤◌, ◌<◌, ℕ, zero, suc, ◌+◌, arith, ap, refl, sym, ◌∙◌, List, [], ◌∷◌, ◌++◌, append_assoc, drop, length, flat_map, max}
use Rattle.std.specs.Prelude.{None, slice_get}
use Rattle.block_schedule.specs.declared.unit.Whole.{Whole}
use Rattle.block_schedule.specs.Scheduling.{unit_items, optional, in_turn}
use Rattle.hard_items.specs.declared.code.Item.{Item}

in_turn_nil : (ms : List Whole) → in_turn ms [] ≡ ms
in_turn_nil [] = refl
in_turn_nil (m ∷ ms) = refl

first_alone : (ms : List Whole) (k : ℕ) → flat_map unit_items (drop k ms) ≡ optional (slice_get ms k) ++ flat_map unit_items (drop (suc k) ms)
first_alone [] zero = refl
first_alone [] (suc k) = refl
first_alone (m ∷ ms) zero = refl
first_alone (m ∷ ms) (suc k) = first_alone ms k

-- One round puts the unit of each stream at its place, if there is one.
pub round : (ms ss : List Whole) (k : ℕ) → flat_map unit_items (in_turn (drop k ms) (drop k ss)) ≡ optional (slice_get ms k) ++ (optional (slice_get ss k) ++ flat_map unit_items (in_turn (drop (suc k) ms) (drop (suc k) ss)))
round [] ss zero = first_alone ss zero
round [] ss (suc k) = first_alone ss (suc k)
round (m ∷ ms) [] zero = ap (λ (us : List Whole). unit_items m ++ flat_map unit_items us) (sym (in_turn_nil ms))
round (m ∷ ms) [] (suc k) = ap (flat_map unit_items) (in_turn_nil (drop k ms)) ∙ (first_alone ms k ∙ ap (λ (us : List Whole). optional (slice_get ms k) ++ flat_map unit_items us) (sym (in_turn_nil (drop (suc k) ms))))
round (m ∷ ms) (s ∷ ss) zero = refl
round (m ∷ ms) (s ∷ ss) (suc k) = round ms ss k

drop_all : (us : List Whole) (k : ℕ) → length us ≤ k → drop k us ≡ []
drop_all [] zero h = refl
drop_all [] (suc k) h = refl
drop_all (u ∷ us) zero h = absurd (Rattle.std.proofs.Common.not-suc-le-zero h)
drop_all (u ∷ us) (suc k) h = drop_all us k (Rattle.std.proofs.Common.le_of_suc-le-suc h)

-- Behind the last round nothing is left.
pub rounds_end : (ms ss : List Whole) (k : ℕ) → length ms ≤ k → length ss ≤ k → flat_map unit_items (in_turn (drop k ms) (drop k ss)) ≡ []
rounds_end ms ss k h g = ap (λ (us : List Whole). flat_map unit_items (in_turn us (drop k ss))) (drop_all ms k h) ∙ ap (flat_map unit_items) (drop_all ss k g)

-- What stands behind some rounds is put by them and those that are left.
pub round_put : (ms ss : List Whole) (k : ℕ) (out a b all : List Item) → out ++ flat_map unit_items (in_turn (drop k ms) (drop k ss)) ≡ all → a ≡ out ++ optional (slice_get ms k) → b ≡ a ++ optional (slice_get ss k) →
    b ++ flat_map unit_items (in_turn (drop (k + 1) ms) (drop (k + 1) ss)) ≡ all
round_put ms ss k out a b all h e f =
    let m : List Item = optional (slice_get ms k) in
    let s : List Item = optional (slice_get ss k) in
    let rest : List Item = flat_map unit_items (in_turn (drop (k + 1) ms) (drop (k + 1) ss)) in
    ap (λ (x : List Item). x ++ rest) (f ∙ ap (λ (x : List Item). x ++ s) e) ∙ (append_assoc (out ++ m) s rest ∙ (append_assoc out m (s ++ rest) ∙
    (ap (λ (x : List Item). out ++ x) (ap (λ (n : ℕ). m ++ (s ++ flat_map unit_items (in_turn (drop n ms) (drop n ss)))) (one k) ∙ sym (round ms ss k)) ∙ h)))
  where
    one : (k : ℕ) → k + 1 ≡ suc k
    one k = omega arith

-- Past the end there is no unit.
pub none_there : (us : List Whole) (k : ℕ) → length us ≤ k → slice_get us k ≡ None
none_there [] k h = refl
none_there (u ∷ us) zero h = absurd (Rattle.std.proofs.Common.not-suc-le-zero h)
none_there (u ∷ us) (suc k) h = none_there us k (Rattle.std.proofs.Common.le_of_suc-le-suc h)
