-- What a row of first uses is after one more read, and after one more line.
use Rattle.std.proofs.Common.{◌≡◌, ℕ, ◌+◌, ◌<◌, ◌≤◌, Bool, true, false, List, [], ◌∷◌, ◌++◌, length, take, Some, refl, sym, ap, ◌∙◌, subst, arith, inl, inr, get_or, eq-eqb}
use Rattle.std.specs.Prelude.{slice_get, slice_set, ◌==◌, ◌||◌, if◌then◌else◌}
use Rattle.std.specs.List.{All}
use Rattle.std.proofs.lemmas.Bool.{cases_eq, ne_eqb}
use Rattle.std.proofs.lemmas.List.{get_or-set_same, get_or-set_other, take_more, take_all}
use Rattle.std.proofs.lemmas.Option.{get_or_from_slice_get}
use Rattle.mid_blocks.specs.declared.code.MidBlock.{MidBlock}
use Rattle.mid_blocks.specs.Lines.{Line, line_of, block_lines}
use Rattle.mid_blocks.specs.Valid.{line_variables}
use Rattle.register_liveness.specs.declared.uses.FirstUse.{FirstUse}
use Rattle.register_liveness.specs.declared.uses.FirstUse.TheVariants.{Untouched, Read, Written}
use Rattle.register_liveness.specs.Uses.{is_among, line_use, then_use, first_use}
use Rattle.mid_blocks.proofs.Positions.{get_within, block_line, block_length}

pub then_assoc : (a b c : FirstUse) → then_use (then_use a b) c ≡ then_use a (then_use b c)
then_assoc Untouched b c = refl
then_assoc Read b c = refl
then_assoc Written b c = refl

pub then_nothing : (a : FirstUse) → then_use a Untouched ≡ a
then_nothing Untouched = refl
then_nothing Read = refl
then_nothing Written = refl

or_false : (b : Bool) → (b || false) ≡ b
or_false true = refl
or_false false = refl

or_assoc : (a b c : Bool) → ((a || b) || c) ≡ (a || (b || c))
or_assoc true b c = refl
or_assoc false b c = refl

pub among_push : (xs : List ℕ) (y v : ℕ) → is_among (xs ++ y ∷ []) v ≡ (is_among xs v || (y == v))
among_push [] y v = or_false (y == v)
among_push (x ∷ xs) y v = ap (λ b. (x == v) || b) (among_push xs y v) ∙ sym (or_assoc (x == v) (is_among xs v) (y == v))

read_or : (a b : Bool) → then_use (if a then Read else Untouched) (if b then Read else Untouched) ≡ (if a || b then Read else Untouched)
read_or true b = refl
read_or false b = refl

-- a use is met at one variable and leaves the others
pub set_use : (row : List FirstUse) (x v : ℕ) (u : FirstUse) → x < length row → get_or (slice_set row x (then_use (get_or row x Untouched) u)) v Untouched ≡ then_use (get_or row v Untouched) (if x == v then u else Untouched)
set_use row x v u h = elim (cases_eq x v) [
  | inl e ↦ subst (λ (w : ℕ). get_or (slice_set row x (then_use (get_or row x Untouched) u)) w Untouched ≡ then_use (get_or row w Untouched) (if x == w then u else Untouched)) e
      (get_or-set_same row x (then_use (get_or row x Untouched) u) Untouched h ∙ ap (λ b. then_use (get_or row x Untouched) (if b then u else Untouched)) (sym (eq-eqb x x refl)))
  | inr e ↦ get_or-set_other row x v (then_use (get_or row x Untouched) u) Untouched (λ q. e (sym q)) ∙ sym (then_nothing (get_or row v Untouched))
      ∙ ap (λ b. then_use (get_or row v Untouched) (if b then u else Untouched)) (sym (ne_eqb x v e))
]

pub read_more : (row0 row : List FirstUse) (xs : List ℕ) (i v : ℕ) → i < length xs → get_or xs i 0 < length row
    → get_or row v Untouched ≡ then_use (get_or row0 v Untouched) (if is_among (take i xs) v then Read else Untouched)
    → get_or (slice_set row (get_or xs i 0) (then_use (get_or row (get_or xs i 0) Untouched) Read)) v Untouched ≡ then_use (get_or row0 v Untouched) (if is_among (take (i + 1) xs) v then Read else Untouched)
read_more row0 row xs i v l w h =
    set_use row (get_or xs i 0) v Read w
    ∙ ap (λ u. then_use u (if get_or xs i 0 == v then Read else Untouched)) h
    ∙ then_assoc (get_or row0 v Untouched) (if is_among (take i xs) v then Read else Untouched) (if get_or xs i 0 == v then Read else Untouched)
    ∙ ap (then_use (get_or row0 v Untouched)) (read_or (is_among (take i xs) v) (get_or xs i 0 == v) ∙ ap (λ b. if b then Read else Untouched) (sym (among_push (take i xs) (get_or xs i 0) v) ∙ ap (λ ys. is_among ys v) (sym (take_more xs i 0 l))))

pub first_push : (v : ℕ) (xs : List Line) (line : Line) → first_use v (xs ++ line ∷ []) ≡ then_use (first_use v xs) (line_use v line)
first_push v [] line = then_nothing (line_use v line)
first_push v (x ∷ xs) line = ap (then_use (line_use v x)) (first_push v xs line) ∙ sym (then_assoc (line_use v x) (first_use v xs) (line_use v line))

pub take_got : {X : Type 0} (xs : List X) (n : ℕ) (x : X) → slice_get xs n ≡ Some x → take (n + 1) xs ≡ take n xs ++ x ∷ []
take_got xs n x h = take_more xs n x (get_within xs n x h) ∙ ap (λ y. take n xs ++ y ∷ []) (get_or_from_slice_get xs n x x h)

module _ (block : MidBlock) where
  pub first_more : (v n : ℕ) → n ≤ length block.steps → first_use v (take (n + 1) (block_lines block)) ≡ then_use (first_use v (take n (block_lines block))) (line_use v (line_of (slice_get block.steps n) block.end))
  first_more v n h = ap (first_use v) (take_got (block_lines block) n (line_of (slice_get block.steps n) block.end) (block_line block.steps block.end n h)) ∙ first_push v (take n (block_lines block)) (line_of (slice_get block.steps n) block.end)

  pub first_all : (v : ℕ) → first_use v (take (length block.steps + 1) (block_lines block)) ≡ first_use v (block_lines block)
  first_all v = ap (first_use v) (take_all (length block.steps + 1) (block_lines block) (omega (arith, block_length block.steps block.end)))

  pub line_exists : (n count m : ℕ) → n ≤ length block.steps → m ≡ count → All (λ line. All (λ v. v < count) (line_variables line)) (block_lines block) → All (λ v. v < m) (line_variables (line_of (slice_get block.steps n) block.end))
  line_exists n count m h e all =
      let is = block_line block.steps block.end n h in
      let at : get_or (block_lines block) n (line_of (slice_get block.steps n) block.end) ≡ line_of (slice_get block.steps n) block.end = get_or_from_slice_get (block_lines block) n (line_of (slice_get block.steps n) block.end) (line_of (slice_get block.steps n) block.end) is in
      let within : n < length (block_lines block) = omega (arith, block_length block.steps block.end) in
      let there = all n (line_of (slice_get block.steps n) block.end) within in
      subst (λ (k : ℕ). All (λ v. v < k) (line_variables (line_of (slice_get block.steps n) block.end))) (sym e) (subst (λ (l : Line). All (λ v. v < count) (line_variables l)) at there)

  -- the last line of a row
  pub row_done : (row row2 : List FirstUse) (v n m : ℕ) → m ≡ length block.steps → n ≡ length block.steps
      → get_or row2 v Untouched ≡ then_use (get_or row v Untouched) (line_use v (line_of (slice_get block.steps m) block.end))
      → get_or row v Untouched ≡ first_use v (take n (block_lines block)) → get_or row2 v Untouched ≡ first_use v (block_lines block)
  row_done row row2 v n m em en h2 h =
      let line : ℕ → FirstUse = λ (k : ℕ). line_use v (line_of (slice_get block.steps k) block.end) in
      let h' : get_or row v Untouched ≡ first_use v (take (length block.steps) (block_lines block)) = h ∙ ap (λ k. first_use v (take k (block_lines block))) en in
      h2 ∙ ap (λ k. then_use (get_or row v Untouched) (line_use v (line_of (slice_get block.steps k) block.end))) em
      ∙ ap (λ u. then_use u (line_use v (line_of (slice_get block.steps (length block.steps)) block.end))) h'
      ∙ sym (first_more v (length block.steps) (omega arith)) ∙ first_all v
