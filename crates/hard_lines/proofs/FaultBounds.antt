-- A change that a file stands for is in its bounds.
use Rattle.std.proofs.Common.{◌≡◌, ℕ, ◌%◌, ◌≤◌, ◌<◌, Bool, true, false, cond, List, [], ◌∷◌, length, arith, refl}
use Rattle.std.specs.Prelude.{◌==◌, ◌&&◌, nat_le, Option, Some, None, Result, Ok, Err, IfOk, codes}
use Rattle.std.specs.List.{list_any}
use Rattle.std.specs.Str.{bytes_eq}
use Rattle.std.proofs.lemmas.Bool.Decides.{nat_tests}
use Rattle.hard_words.specs.declared.Change.{Change}
use Rattle.hard_words.specs.declared.ChangeKind.TheVariants.{Flip, Divert, Set}
use Rattle.hard_words.specs.declared.SetPlace.{SetPlace}
use Rattle.hard_words.specs.declared.SetPlace.TheVariants.{Reg, Hi, Lo, Memory}
use Rattle.hard_lines.specs.declared.faults.FaultError.{FaultError}
use Rattle.hard_lines.specs.declared.faults.Trouble.{Trouble}
use Rattle.hard_lines.specs.declared.faults.Trouble.TheVariants.{Form, Range}
use Rattle.hard_lines.specs.Numbers.{are_digits, digits_value}
use Rattle.hard_lines.specs.Faults.{IsInBounds, IsPlaceInBounds, within, is_number, number_in, number_at, address_of, new_word_of, register_of, memory_of, place_of, hex_of, named, read_by, read_at, nothing_more, last_before, after, step_at, flip_of, divert_of, set_of, change_by, change_of, word_at, is_line_byte}

either : {X E : Type 0} (b : Bool) (x y : Result X E) (P : X → Type 0) → (b ≡ true → IfOk x P) → (b ≡ false → IfOk y P) → IfOk (cond b x y) P
either true x y P p q = p refl
either false x y P p q = q refl

within_bounds : (low high v : ℕ) → IfOk (within low high v) (λ v. (low ≤ v) × (v ≤ high))
within_bounds low high v = either (nat_le low v && nat_le v high) (Ok v) (Err Range) (λ v. (low ≤ v) × (v ≤ high)) (λ h. (grind (arith, nat_tests, h), grind (arith, nat_tests, h))) (λ h. tt)

number_bounds : (low high : ℕ) (w : List ℕ) → IfOk (number_in low high w) (λ v. (low ≤ v) × (v ≤ high))
number_bounds low high w = either (is_number w) (within low high (digits_value w)) (Err Form) (λ v. (low ≤ v) × (v ≤ high)) (λ h. within_bounds low high (digits_value w)) (λ h. tt)

register_bounds : (w : List ℕ) → IfOk (register_of w) IsPlaceInBounds
register_bounds w =
    let v : ℕ = digits_value w in
    let inner : Result SetPlace Trouble = cond (nat_le 1 v && nat_le v 31) (Ok (Reg v)) (Err Range) in
    either (nat_le (length w) 2 && are_digits w) inner (Err Form) IsPlaceInBounds
    (λ h. either (nat_le 1 v && nat_le v 31) (Ok (Reg v)) (Err Range) IsPlaceInBounds (λ g. (grind (arith, nat_tests, g), grind (arith, nat_tests, g))) (λ g. tt))
    (λ h. tt)

memory_bounds : (o : Option ℕ) → IfOk (memory_of o) IsPlaceInBounds
memory_bounds None = tt
memory_bounds (Some a) = either (a % 4 == 0) (Ok (Memory a)) (Err Range) IsPlaceInBounds (λ h. grind (arith, nat_tests, h)) (λ h. tt)

place_bounds : (w : List ℕ) → IfOk (place_of w) IsPlaceInBounds
place_bounds [] = tt
place_bounds (b ∷ bs) =
    let last : Result SetPlace Trouble = memory_of (hex_of (b ∷ bs)) in
    let low : Result SetPlace Trouble = cond (bytes_eq (b ∷ bs) (codes "lo")) (Ok Lo) last in
    let high : Result SetPlace Trouble = cond (bytes_eq (b ∷ bs) (codes "hi")) (Ok Hi) low in
    either (b == 36) (register_of bs) high IsPlaceInBounds (λ h. register_bounds bs)
    (λ h. either (bytes_eq (b ∷ bs) (codes "hi")) (Ok Hi) low IsPlaceInBounds (λ g. tt)
    (λ g. either (bytes_eq (b ∷ bs) (codes "lo")) (Ok Lo) last IsPlaceInBounds (λ f. tt) (λ f. memory_bounds (hex_of (b ∷ bs)))))

named_bounds : {X : Type 0} (n : ℕ) (r : Result X Trouble) (P : X → Type 0) → IfOk r P → IfOk (named n r) P
named_bounds n (Ok v) P h = h
named_bounds n (Err Form) P h = tt
named_bounds n (Err Range) P h = tt

read_bounds : {X : Type 0} (n : ℕ) (read : List ℕ → Result X Trouble) (o : Option (List ℕ)) (P : X → Type 0) → ((w : List ℕ) → IfOk (read w) P) → IfOk (read_by n read o) P
read_bounds n read None P h = tt
read_bounds n read (Some w) P h = named_bounds n (read w) P (h w)

after_bounds : {X Y : Type 0} (r : Result X FaultError) (next : X → Result Y FaultError) (P : X → Type 0) (Q : Y → Type 0) → IfOk r P → ((x : X) → P x → IfOk (next x) Q) → IfOk (after r next) Q
after_bounds (Err e) next P Q h f = tt
after_bounds (Ok x) next P Q h f = f x h

any : {X E : Type 0} (r : Result X E) → IfOk r (λ x. Unit {0})
any (Ok x) = tt
any (Err e) = tt

last_bounds : (n : ℕ) (o : Option (List ℕ)) (change : Change) → IsInBounds change → IfOk (nothing_more n o change) IsInBounds
last_bounds n None change h = h
last_bounds n (Some w) change h = tt

step_bounds : (line : List ℕ) → IfOk (step_at line) (λ v. (0 ≤ v) × (v ≤ 10000000))
step_bounds line = read_bounds 2 (number_in 0 10000000) (word_at line 2) (λ v. (0 ≤ v) × (v ≤ 10000000)) (number_bounds 0 10000000)

flip_bounds : (line : List ℕ) → IfOk (flip_of line) IsInBounds
flip_bounds line =
    after_bounds (step_at line) _ (λ v. (0 ≤ v) × (v ≤ 10000000)) IsInBounds (step_bounds line) (λ step s.
    after_bounds (number_at line 3 1 31) _ (λ v. (1 ≤ v) × (v ≤ 31)) IsInBounds (read_bounds 3 (number_in 1 31) (word_at line 3) (λ v. (1 ≤ v) × (v ≤ 31)) (number_bounds 1 31)) (λ reg r.
    after_bounds (number_at line 4 0 31) _ (λ v. (0 ≤ v) × (v ≤ 31)) IsInBounds (read_bounds 4 (number_in 0 31) (word_at line 4) (λ v. (0 ≤ v) × (v ≤ 31)) (number_bounds 0 31)) (λ bit b.
    last_bounds 5 (word_at line 5) (record { step = step; kind = Flip reg bit }) (s.1, (r.0, r.1, b.1)))))

divert_bounds : (line : List ℕ) → IfOk (divert_of line) IsInBounds
divert_bounds line =
    after_bounds (step_at line) _ (λ v. (0 ≤ v) × (v ≤ 10000000)) IsInBounds (step_bounds line) (λ step s.
    after_bounds (read_at line 3 address_of) _ (λ v. Unit {0}) IsInBounds (any (read_at line 3 address_of)) (λ to t.
    last_bounds 4 (word_at line 4) (record { step = step; kind = Divert to }) (s.1, tt)))

set_bounds : (line : List ℕ) → IfOk (set_of line) IsInBounds
set_bounds line =
    after_bounds (step_at line) _ (λ v. (0 ≤ v) × (v ≤ 10000000)) IsInBounds (step_bounds line) (λ step s.
    after_bounds (read_at line 3 place_of) _ IsPlaceInBounds IsInBounds (read_bounds 3 place_of (word_at line 3) IsPlaceInBounds place_bounds) (λ place p.
    after_bounds (read_at line 4 new_word_of) _ (λ v. Unit {0}) IsInBounds (any (read_at line 4 new_word_of)) (λ word w.
    last_bounds 5 (word_at line 5) (record { step = step; kind = Set place word }) (s.1, p))))

by_bounds : (o : Option (List ℕ)) (line : List ℕ) → IfOk (change_by o line) IsInBounds
by_bounds None line = tt
by_bounds (Some w) line =
    let none : Result Change FaultError = change_by None line in
    let sets : Result Change FaultError = cond (bytes_eq w (codes "set")) (set_of line) none in
    let diverts : Result Change FaultError = cond (bytes_eq w (codes "divert")) (divert_of line) sets in
    either (bytes_eq w (codes "flip")) (flip_of line) diverts IsInBounds (λ h. flip_bounds line)
    (λ h. either (bytes_eq w (codes "divert")) (divert_of line) sets IsInBounds (λ g. divert_bounds line)
    (λ g. either (bytes_eq w (codes "set")) (set_of line) none IsInBounds (λ f. set_bounds line) (λ f. tt)))

pub change_bounds : (line : List ℕ) → IfOk (change_of line) IsInBounds
change_bounds line = either (list_any is_line_byte line) _ (change_by (word_at line 1) line) IsInBounds (λ h. tt) (λ h. by_bounds (word_at line 1) line)
