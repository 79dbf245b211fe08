-- Blocks without a label and waiting blocks together become no more.
use Rattle.std.proofs.Common.{◌≡◌, ◌≢◌, ◌<◌, ℕ, zero, suc, ◌+◌, arith, rules, ap, refl, sym, ◌∙◌, subst, List, [], ◌∷◌, ◌++◌, length, length-append, get_or, true, false, Bool, cond, inl, inr}
use Rattle.std.specs.Prelude.{◌⊎◌, ◌==◌, ◌&&◌, if◌then◌else◌, slice_index, slice_index_or, slice_set, Contains}
use Rattle.std.proofs.lemmas.List.Elements.{Contains-append_right}
use Rattle.signature_assign.specs.Pass.{Work, given, passed, Looking, looked_at, looked}

abbrev pub unlabelled : ℕ → List ℕ → ℕ
unlabelled n [] = 0
unlabelled n (x ∷ xs) = if x == n then suc (unlabelled n xs) else unlabelled n xs

abbrev pub weight : ℕ → Work → ℕ
weight n s = unlabelled n s.labels + length s.waiting

same_number : (x n : ℕ) → x ≡ n → (x == n) ≡ true
same_number x n e = grind arith

other_number : (x n : ℕ) → x ≢ n → (x == n) ≡ false
other_number x n e = grind arith

one_less : (l : List ℕ) (v r n : ℕ) → v < length l → slice_index l v ≡ n → r ≢ n → unlabelled n (slice_set l v r) + 1 ≡ unlabelled n l
one_less [] v r n h e d = absurd (omega arith)
one_less (x ∷ xs) zero r n h e d = rw (other_number r n d, same_number x n e) (plus_one (unlabelled n xs))
  where
    plus_one : (m : ℕ) → m + 1 ≡ suc m
    plus_one m = omega arith
one_less (x ∷ xs) (suc v) r n h e d = by_test (x == n) (one_less xs v r n (omega arith) e d)
  where
    more : (a b : ℕ) → a + 1 ≡ b → suc a + 1 ≡ suc b
    more a b e = omega arith

    by_test : (z : Bool) → unlabelled n (slice_set xs v r) + 1 ≡ unlabelled n xs → (if z then suc (unlabelled n (slice_set xs v r)) else unlabelled n (slice_set xs v r)) + 1 ≡ (if z then suc (unlabelled n xs) else unlabelled n xs)
    by_test true k = more (unlabelled n (slice_set xs v r)) (unlabelled n xs) k
    by_test false k = k

true_of : (a b : ℕ) → (a == b) ≡ true → a ≡ b
true_of a b h = grind arith

set_long : (l : List ℕ) (v r : ℕ) → length (slice_set l v r) ≡ length l
set_long [] v r = refl
set_long (x ∷ xs) zero r = refl
set_long (x ∷ xs) (suc v) r = ap suc (set_long xs v r)

given_by : (n root v : ℕ) (s : Work) (a b : Bool) → (slice_index s.labels v == n) ≡ b → v < length s.labels → root ≢ n → (weight n (if a && b then record { labels = slice_set s.labels v root; waiting = s.waiting ++ v ∷ [] } else s) ≡ weight n s) × (length (if a && b then (let w : Work = record { labels = slice_set s.labels v root; waiting = s.waiting ++ v ∷ [] } in w) else s).labels ≡ length s.labels)
given_by n root v s true true e h d = (sum (unlabelled n (slice_set s.labels v root)) (unlabelled n s.labels) (length s.waiting) (length (s.waiting ++ v ∷ [])) (one_less s.labels v root n h (true_of (slice_index s.labels v) n e) d) (length-append s.waiting (v ∷ [])), set_long s.labels v root)
  where
    sum : (a b c k : ℕ) → a + 1 ≡ b → k ≡ c + 1 → a + k ≡ b + c
    sum a b c k e f = omega arith
given_by n root v s true false e h d = (refl, refl)
given_by n root v s false b e h d = (refl, refl)

given_weight : (two : List Bool) (n root v : ℕ) (s : Work) → v < length s.labels → root ≢ n → (weight n (given two n root v s) ≡ weight n s) × (length (given two n root v s).labels ≡ length s.labels)
given_weight two n root v s h d = given_by n root v s (slice_index_or two v false) (slice_index s.labels v == n) refl h d

in_rest : (p : ℕ) (ps : List ℕ) (q : ℕ) → Contains ps q → Contains (p ∷ ps) q
in_rest p ps q c = Contains-append_right (p ∷ []) ps q c

in_front : (p : ℕ) (ps : List ℕ) → Contains (p ∷ ps) p
in_front p ps = (0, zero_less (length ps), refl)
  where
    zero_less : (m : ℕ) → 0 < suc m
    zero_less m = omega arith

pub passed_weight : (two : List Bool) (n root : ℕ) (next : List ℕ) (s : Work) → ((v : ℕ) → Contains next v → v < length s.labels) → root ≢ n → (weight n (passed two n root next s) ≡ weight n s) × (length (passed two n root next s).labels ≡ length s.labels)
passed_weight two n root [] s f d = (refl, refl)
passed_weight two n root (v ∷ vs) s f d =
    let a : (weight n (given two n root v s) ≡ weight n s) × (length (given two n root v s).labels ≡ length s.labels) = given_weight two n root v s (f v (in_front v vs)) d in
    let b : (weight n (passed two n root vs (given two n root v s)) ≡ weight n (given two n root v s)) × (length (passed two n root vs (given two n root v s)).labels ≡ length (given two n root v s).labels) = passed_weight two n root vs (given two n root v s) (λ w c. subst (λ (x : ℕ). w < x) (sym a.1) (f w (in_rest v vs w c))) d in
    (b.0 ∙ a.0, b.1 ∙ a.1)

one_weight : (succs : List (List ℕ)) (two : List Bool) (n root p : ℕ) (s : Looking) (z : Bool) → ((q v : ℕ) → Contains (get_or succs q []) v → v < length s.work.labels) → root ≢ n → (weight n (if z then s else (let k : Looking = record { work = passed two n root (get_or succs p []) s.work; done = slice_set s.done p true } in k)).work ≡ weight n s.work) × (length (if z then s else (let k : Looking = record { work = passed two n root (get_or succs p []) s.work; done = slice_set s.done p true } in k)).work.labels ≡ length s.work.labels)
one_weight succs two n root p s true f d = (refl, refl)
one_weight succs two n root p s false f d = passed_weight two n root (get_or succs p []) s.work (f p) d

pub looked_weight : (succs : List (List ℕ)) (two : List Bool) (n root : ℕ) (ps : List ℕ) (s : Looking) → ((q v : ℕ) → Contains (get_or succs q []) v → v < length s.work.labels) → root ≢ n → weight n (looked succs two n root ps s).work ≡ weight n s.work
looked_weight succs two n root [] s f d = refl
looked_weight succs two n root (p ∷ ps) s f d =
    let a : (weight n (looked_at succs two n root p s).work ≡ weight n s.work) × (length (looked_at succs two n root p s).work.labels ≡ length s.work.labels) = one_weight succs two n root p s (slice_index_or s.done p false) f d in
    looked_weight succs two n root ps (looked_at succs two n root p s) (λ q v c. subst (λ (x : ℕ). v < x) (sym a.1) (f q v c)) d ∙ a.0
