-- Reading words one after another.
use Rattle.std.proofs.Common.{◌≡◌, ℕ, suc, ◌+◌, ◌<◌, ◌≤◌, Bool, true, false, cond, List, [], ◌∷◌, ◌++◌, length, take, drop, arith, ap, ◌∙◌, refl, sym, subst, append_assoc, append-nil, length-append, add-zero, inl, inr}
use Rattle.std.specs.Prelude.{◌⊎◌, ◌==◌, nat_lt, not, Option, Some, None, Ok, Err}
use Rattle.std.specs.List.{slice_split, flat_map, position_or_len}
use Rattle.std.proofs.lemmas.List.{take_all, drop_all}
use Rattle.std.proofs.lemmas.List.Concat.{flat_map-append}
use Rattle.std.proofs.lemmas.List.Splits.{slice_split_first, slice_split_none}
use Rattle.std.proofs.lemmas.List.Sums.{fails_before_first, prefix_len-le-length}
use Rattle.std.proofs.lemmas.Bool.{cases_lt}
use Rattle.std.proofs.lemmas.Bool.Decides.{nat_tests}
use Rattle.hard_lines.specs.declared.inputs.LinesError.{LinesError}
use Rattle.hard_lines.specs.declared.inputs.LinesError.TheVariants.{TooMany, OutOfMemory}
use Rattle.hard_lines.specs.Numbers.{value_of}
use Rattle.hard_lines.specs.Inputs.{Placed, faults, faults_at, faults_of_value, listed, values, Took, IsRefused, inputs, placed, placed_line, placed_piece, placed_lines, is_blank, is_line_feed}

faults-append : (n : ℕ) (a b : List Placed) → faults n (a ++ b) ≡ faults n a ++ faults (n + length a) b
faults-append n [] b = rw add-zero refl
faults-append n (w ∷ a) b =
    let place : n + 1 + length a ≡ n + suc (length a) = omega arith in
    ap (λ (l : List LinesError). faults_at n w ++ l) (faults-append (n + 1) a b ∙ ap (λ (m : ℕ). faults (n + 1) a ++ faults m b) place)
    ∙ sym (append_assoc (faults_at n w) (faults (n + 1) a) (faults (n + suc (length a)) b))

left_empty : (a b : List LinesError) → a ++ b ≡ [] → a ≡ []
left_empty [] b h = refl
left_empty (x ∷ a) b h = cc

right_empty : (a b : List LinesError) → a ++ b ≡ [] → b ≡ []
right_empty [] b h = h
right_empty (x ∷ a) b h = cc

clean_word : (within : Bool) (line : ℕ) (value : Option ℕ) → cond within (faults_of_value line value) (TooMany ∷ []) ≡ [] → length (listed value) ≡ 1
clean_word true line None h = cc
clean_word true line (Some v) h = refl
clean_word false line value h = cc

clean_past : (within : Bool) (line : ℕ) (value : Option ℕ) → within ≡ false → cond within (faults_of_value line value) (TooMany ∷ []) ≡ [] → ⊥
clean_past true line value e h = cc
clean_past false line value e h = cc

-- words with no fault stand for as many numbers
values_of_clean : (n : ℕ) (a : List Placed) → faults n a ≡ [] → length (values a) ≡ length a
values_of_clean n [] h = refl
values_of_clean n (w ∷ a) h =
    let one : length (listed (value_of w.text)) ≡ 1 = clean_word _ w.line (value_of w.text) (left_empty (faults_at n w) (faults (n + 1) a) h) in
    let more : length (values a) ≡ length a = values_of_clean (n + 1) a (right_empty (faults_at n w) (faults (n + 1) a) h) in
    omega (arith, length-append (listed (value_of w.text)) (values a), one, more)

took_length : (a : List Placed) (old new : List ℕ) → Took a old new → length new ≡ length old + length a
took_length a old new t =
    ap length t.appended ∙ (length-append old (values a) ∙ ap (λ (n : ℕ). length old + n) (values_of_clean (length old) a t.clean))

took_none : (old : List ℕ) → Took [] old old
took_none old = record { clean = refl; appended = sym (append-nil old) }

took_append : (a b : List Placed) (old mid new : List ℕ) → Took a old mid → Took b mid new → Took (a ++ b) old new
took_append a b old mid new s t = record {
  clean = faults-append (length old) a b
      ∙ (ap (λ (l : List LinesError). l ++ faults (length old + length a) b) s.clean
      ∙ (ap (λ (n : ℕ). faults n b) (sym (took_length a old mid s)) ∙ t.clean));
  appended = t.appended
      ∙ (ap (λ (l : List ℕ). l ++ values b) s.appended
      ∙ (append_assoc old (values a) (values b)
      ∙ ap (λ (l : List ℕ). old ++ l) (sym (flat_map-append (λ (w : Placed). listed (value_of w.text)) a b))));
}

refused_behind : (a b : List Placed) (old mid : List ℕ) (e : LinesError) → Took a old mid → IsRefused b mid e → IsRefused (a ++ b) old e
refused_behind a b old mid e t (inl memory) = inl memory
refused_behind a b old mid e t (inr (others, first)) =
    inr (
      others,
      faults-append (length old) a b
          ∙ (ap (λ (l : List LinesError). l ++ faults (length old + length a) b) t.clean
          ∙ (ap (λ (n : ℕ). faults n b) (sym (took_length a old mid t)) ∙ first)),
    )

refused_before : (a b : List Placed) (old : List ℕ) (e : LinesError) → IsRefused a old e → IsRefused (a ++ b) old e
refused_before a b old e (inl memory) = inl memory
refused_before a b old e (inr (others, first)) =
    inr (
      others ++ faults (length old + length a) b,
      faults-append (length old) a b
          ∙ ap (λ (l : List LinesError). l ++ faults (length old + length a) b) first,
    )

-- of all words those before the rest are taken
pub record Reading (all rest : List Placed) (old now : List ℕ) : Type 0 where
  pub done : List Placed
  pub split : all ≡ done ++ rest
  pub took : Took done old now

pub begin : (all : List Placed) (old : List ℕ) → Reading all all old old
begin all old = record { done = []; split = refl; took = took_none old }

pub further : (all rest words rest2 : List Placed) (old now now2 : List ℕ) → rest ≡ words ++ rest2 → Reading all rest old now → Took words now now2 → Reading all rest2 old now2
further all rest words rest2 old now now2 e r t = record {
  done = r.done ++ words;
  split = r.split ∙ (ap (λ (l : List Placed). r.done ++ l) e ∙ sym (append_assoc r.done words rest2));
  took = took_append r.done words old now now2 r.took t;
}

pub finish : (all : List Placed) (old now : List ℕ) → Reading all [] old now → Took all old now
finish all old now r =
    let whole : all ≡ r.done = r.split ∙ append-nil r.done in
    subst (λ (l : List Placed). Took l old now) (sym whole) r.took

pub refuse : (all rest words rest2 : List Placed) (old now : List ℕ) (e : LinesError) → rest ≡ words ++ rest2 → Reading all rest old now → IsRefused words now e → IsRefused all old e
refuse all rest words rest2 old now e s r f =
    let whole : all ≡ r.done ++ (words ++ rest2) = r.split ∙ ap (λ (l : List Placed). r.done ++ l) s in
    subst (λ (l : List Placed). IsRefused l old e) (sym whole) (refused_behind r.done (words ++ rest2) old now e r.took (refused_before words rest2 now e f))

-- the first part of a list that is cut, and the parts of what follows, if anything
pub split_step : (p : ℕ → Bool) (xs : List ℕ) →
    (slice_split p xs ≡ take (position_or_len p xs) xs ∷ slice_split p (drop (position_or_len p xs + 1) xs))
    ⊎ ((slice_split p xs ≡ take (position_or_len p xs) xs ∷ []) × (drop (position_or_len p xs + 1) xs ≡ []))
split_step p xs =
    elim (cases_lt (position_or_len p xs) (length xs)) [
      | inl within ↦ inl (slice_split_first p xs 0 within)
      | inr past ↦
          let end : position_or_len p xs ≡ length xs = omega (arith, prefix_len-le-length (λ (x : ℕ). not (p x)) xs) in
          inr (
            slice_split_none p xs (λ k d h. fails_before_first p xs k d (subst (λ (n : ℕ). k < n) (sym end) h)) ∙ ap (λ (l : List ℕ). l ∷ []) (sym (take_all _ xs past)),
            drop_all (position_or_len p xs + 1) xs (omega arith),
          )
    ]

line_step : (line : ℕ) (text : List ℕ) → placed_line line text ≡ placed_piece line (take (position_or_len is_blank text) text) ++ placed_line line (drop (position_or_len is_blank text + 1) text)
line_step line text =
    let end : ℕ = position_or_len is_blank text in
    let piece : List Placed = placed_piece line (take end text) in
    elim (split_step is_blank text) [
      | inl more ↦ ap (λ (l : List (List ℕ)). flat_map (placed_piece line) l) more
      | inr none ↦ ap (λ (l : List (List ℕ)). flat_map (placed_piece line) l) none.0
          ∙ ap (λ (l : List ℕ). piece ++ placed_line line l) (sym none.1)
    ]

lines_step : (line : ℕ) (text : List ℕ) → placed_lines line (slice_split is_line_feed text) ≡ placed_line line (take (position_or_len is_line_feed text) text) ++ placed_lines (line + 1) (slice_split is_line_feed (drop (position_or_len is_line_feed text + 1) text))
lines_step line text =
    let end : ℕ = position_or_len is_line_feed text in
    let first : List Placed = placed_line line (take end text) in
    elim (split_step is_line_feed text) [
      | inl more ↦ ap (λ (l : List (List ℕ)). placed_lines line l) more
      | inr none ↦ ap (λ (l : List (List ℕ)). placed_lines line l) none.0
          ∙ ap (λ (l : List ℕ). first ++ placed_lines (line + 1) (slice_split is_line_feed l)) (sym none.1)
    ]

-- what was taken and what was refused of a whole text
pub inputs_taken : (text numbers : List ℕ) → Took (placed text) [] numbers → inputs text ≡ Ok numbers
inputs_taken text numbers t = rw (t.clean, t.appended) refl

pub inputs_refused : (text : List ℕ) (e : LinesError) → IsRefused (placed text) [] e → (e ≡ OutOfMemory) ⊎ (inputs text ≡ Err e)
inputs_refused text e (inl memory) = inl memory
inputs_refused text e (inr (others, first)) = inr (rw first refl)

-- a word behind too many is a fault
too_many : (n : ℕ) (w : Placed) → 1000000 ≤ n → faults_at n w ≡ [] → ⊥
too_many n w past h =
    let above : nat_lt n 1000000 ≡ false = grind (arith, nat_tests) in
    clean_past (nat_lt n 1000000) w.line (value_of w.text) above h

-- words with no fault are few
few_words : (n : ℕ) (words : List Placed) → n ≤ 1000000 → faults n words ≡ [] → n + length words ≤ 1000000
few_words n [] within h = omega arith
few_words n (w ∷ words) within h =
    elim (cases_lt n 1000000) [
      | inl below ↦
          let more : n + 1 + length words ≤ 1000000 = few_words (n + 1) words (omega arith) (right_empty (faults_at n w) (faults (n + 1) words) h) in
          omega (arith, more)
      | inr past ↦ absurd (too_many n w past (left_empty (faults_at n w) (faults (n + 1) words) h))
    ]

-- the numbers of a whole text are few
pub few_taken : (text numbers : List ℕ) → Took (placed text) [] numbers → length numbers ≤ 1000000
few_taken text numbers t =
    let within : 0 + length (placed text) ≤ 1000000 = few_words 0 (placed text) (omega arith) t.clean in
    omega (arith, took_length (placed text) [] numbers t, within)

-- the same steps, at the number that the code found
pub line_step_at : (line : ℕ) (text : List ℕ) (end : ℕ) → end ≡ position_or_len is_blank text → placed_line line text ≡ placed_piece line (take end text) ++ placed_line line (drop (end + 1) text)
line_step_at line text end e =
    subst (λ (n : ℕ). placed_line line text ≡ placed_piece line (take n text) ++ placed_line line (drop (n + 1) text)) (sym e) (line_step line text)

pub lines_step_at : (line : ℕ) (text : List ℕ) (end : ℕ) → end ≡ position_or_len is_line_feed text → placed_lines line (slice_split is_line_feed text) ≡ placed_line line (take end text) ++ placed_lines (line + 1) (slice_split is_line_feed (drop (end + 1) text))
lines_step_at line text end e =
    subst (λ (n : ℕ). placed_lines line (slice_split is_line_feed text) ≡ placed_line line (take n text) ++ placed_lines (line + 1) (slice_split is_line_feed (drop (n + 1) text))) (sym e) (lines_step line text)

-- a list that was tested has an element
pub positive : (b : Bool) (n : ℕ) → b ≡ (n == 0) → b ≡ false → 0 < n
positive b n e h = grind (arith, nat_tests)
