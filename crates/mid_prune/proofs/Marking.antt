-- Marks of blocks, as they are raised.
use Rattle.std.proofs.Common.{◌≡◌, ℕ, zero, suc, ◌+◌, ◌<◌, ◌≤◌, Bool, true, false, List, [], ◌∷◌, ◌++◌, length, get_or, refl, sym, ap, ◌∙◌, arith, inl, inr, length-append}
use Rattle.std.specs.Prelude.{◌⊎◌, slice_set, map, replicate, slice_get, nat_lt, if◌then◌else◌}
use Rattle.std.proofs.lemmas.Bool.Decides.{nat_tests}
use Rattle.std.proofs.lemmas.Bool.{false≢true, cases_lt}
use Rattle.mid_blocks.specs.Pruned.{is_marked, marked_before, marks_of, is_marked_block}
use Rattle.mid_blocks.specs.declared.code.MidFunction.{MidFunction}
use Rattle.mid_blocks.specs.Leads.{blocks_of}
use Rattle.mid_prune.specs.Work.{Work, raised, put}

-- ---- one list

pub marked_at : (bs : List Bool) (i : ℕ) (d : Bool) → i < length bs → get_or bs i d ≡ is_marked bs i
marked_at [] i d h = absurd (omega (arith, h))
marked_at (b ∷ bs) zero d h = refl
marked_at (b ∷ bs) (suc i) d h = marked_at bs i d (omega (arith, h))

pub marked_past : (bs : List Bool) (i : ℕ) → length bs ≤ i → is_marked bs i ≡ false
marked_past [] i h = refl
marked_past (b ∷ bs) zero h = absurd (omega (arith, h))
marked_past (b ∷ bs) (suc i) h = marked_past bs i (omega (arith, h))

pub marked_within : (bs : List Bool) (i : ℕ) → is_marked bs i ≡ true → i < length bs
marked_within [] i h = absurd (false≢true h)
marked_within (b ∷ bs) zero h = omega arith
marked_within (b ∷ bs) (suc i) h = let l = marked_within bs i h in omega (arith, l)

set_here : (bs : List Bool) (i : ℕ) → i < length bs → is_marked (slice_set bs i true) i ≡ true
set_here [] i h = absurd (omega (arith, h))
set_here (b ∷ bs) zero h = refl
set_here (b ∷ bs) (suc i) h = set_here bs i (omega (arith, h))

set_kept : (bs : List Bool) (i j : ℕ) → is_marked bs j ≡ true → is_marked (slice_set bs i true) j ≡ true
set_kept [] i j h = h
set_kept (b ∷ bs) zero zero h = refl
set_kept (b ∷ bs) zero (suc j) h = h
set_kept (b ∷ bs) (suc i) zero h = h
set_kept (b ∷ bs) (suc i) (suc j) h = set_kept bs i j h

set_new : (bs : List Bool) (i j : ℕ) → is_marked (slice_set bs i true) j ≡ true → (is_marked bs j ≡ true) ⊎ (j ≡ i)
set_new [] i j h = inl h
set_new (b ∷ bs) zero zero h = inr refl
set_new (b ∷ bs) zero (suc j) h = inl h
set_new (b ∷ bs) (suc i) zero h = inl h
set_new (b ∷ bs) (suc i) (suc j) h = elim (set_new bs i j h) [ inl k ↦ inl k | inr e ↦ inr (ap suc e) ]

set_long : (bs : List Bool) (i : ℕ) (b : Bool) → length (slice_set bs i b) ≡ length bs
set_long [] i b = refl
set_long (x ∷ bs) zero b = refl
set_long (x ∷ bs) (suc i) b = ap suc (set_long bs i b)

-- ---- a list of lists

pub marks_at : (marks : List (List Bool)) (f : ℕ) (d : List Bool) → f < length marks → get_or marks f d ≡ marks_of marks f
marks_at [] f d h = absurd (omega (arith, h))
marks_at (bs ∷ bss) zero d h = refl
marks_at (bs ∷ bss) (suc f) d h = marks_at bss f d (omega (arith, h))

pub within_of : (marks : List (List Bool)) (f i : ℕ) → i < length (marks_of marks f) → f < length marks
within_of [] f i h = absurd (omega (arith, h))
within_of (bs ∷ bss) zero i h = omega arith
within_of (bs ∷ bss) (suc f) i h = let l = within_of bss f i h in omega (arith, l)

pub raised_long : (marks : List (List Bool)) (f : ℕ) (bs : List Bool) → length (slice_set marks f bs) ≡ length marks
raised_long [] f bs = refl
raised_long (x ∷ xs) zero bs = refl
raised_long (x ∷ xs) (suc f) bs = ap suc (raised_long xs f bs)

raised_shape : (marks : List (List Bool)) (f block g : ℕ) → length (marks_of (raised marks f block) g) ≡ length (marks_of marks g)
raised_shape [] f block g = refl
raised_shape (bs ∷ bss) zero block zero = set_long bs block true
raised_shape (bs ∷ bss) zero block (suc g) = refl
raised_shape (bs ∷ bss) (suc f) block zero = refl
raised_shape (bs ∷ bss) (suc f) block (suc g) = raised_shape bss f block g

raised_here : (marks : List (List Bool)) (f block : ℕ) → block < length (marks_of marks f) → is_marked_block (raised marks f block) f block ≡ true
raised_here [] f block h = absurd (omega (arith, h))
raised_here (bs ∷ bss) zero block h = set_here bs block h
raised_here (bs ∷ bss) (suc f) block h = raised_here bss f block h

raised_kept : (marks : List (List Bool)) (f block g b : ℕ) → is_marked_block marks g b ≡ true → is_marked_block (raised marks f block) g b ≡ true
raised_kept [] f block g b h = h
raised_kept (bs ∷ bss) zero block zero b h = set_kept bs block b h
raised_kept (bs ∷ bss) zero block (suc g) b h = h
raised_kept (bs ∷ bss) (suc f) block zero b h = h
raised_kept (bs ∷ bss) (suc f) block (suc g) b h = raised_kept bss f block g b h

raised_new : (marks : List (List Bool)) (f block g b : ℕ) → is_marked_block (raised marks f block) g b ≡ true → (is_marked_block marks g b ≡ true) ⊎ ((g ≡ f) × (b ≡ block))
raised_new [] f block g b h = inl h
raised_new (bs ∷ bss) zero block zero b h = elim (set_new bs block b h) [ inl k ↦ inl k | inr e ↦ inr (refl, e) ]
raised_new (bs ∷ bss) zero block (suc g) b h = inl h
raised_new (bs ∷ bss) (suc f) block zero b h = inl h
raised_new (bs ∷ bss) (suc f) block (suc g) b h = elim (raised_new bss f block g b h) [ inl k ↦ inl k | inr e ↦ inr (ap suc e.0, e.1) ]

-- ---- how many are not raised

abbrev pub bare : List Bool → ℕ
bare [] = 0
bare (true ∷ bs) = bare bs
bare (false ∷ bs) = suc (bare bs)

abbrev pub bare_all : List (List Bool) → ℕ
bare_all [] = 0
bare_all (bs ∷ bss) = bare bs + bare_all bss

set_bare : (bs : List Bool) (i : ℕ) → i < length bs → is_marked bs i ≡ false → bare (slice_set bs i true) + 1 ≡ bare bs
set_bare [] i h e = absurd (omega (arith, h))
set_bare (true ∷ bs) zero h e = absurd (false≢true (sym e))
set_bare (false ∷ bs) zero h e = omega arith
set_bare (true ∷ bs) (suc i) h e = set_bare bs i (omega (arith, h)) e
set_bare (false ∷ bs) (suc i) h e = let k = set_bare bs i (omega (arith, h)) e in omega (arith, k)

raised_bare : (marks : List (List Bool)) (f block : ℕ) → block < length (marks_of marks f) → is_marked_block marks f block ≡ false → bare_all (raised marks f block) + 1 ≡ bare_all marks
raised_bare [] f block h e = absurd (omega (arith, h))
raised_bare (bs ∷ bss) zero block h e = let k = set_bare bs block h e in omega (arith, k)
raised_bare (bs ∷ bss) (suc f) block h e = let k = raised_bare bss f block h e in omega (arith, k)

pub record Raised (marks : List (List Bool)) (f block : ℕ) (after : List (List Bool)) : Type 0 where
  pub long : length after ≡ length marks
  pub shape : (g : ℕ) → length (marks_of after g) ≡ length (marks_of marks g)
  pub here : is_marked_block after f block ≡ true
  pub kept : (g b : ℕ) → is_marked_block marks g b ≡ true → is_marked_block after g b ≡ true
  pub new : (g b : ℕ) → is_marked_block after g b ≡ true → (is_marked_block marks g b ≡ true) ⊎ ((g ≡ f) × (b ≡ block))
  pub fewer : bare_all after + 1 ≡ bare_all marks

pub raises : (marks : List (List Bool)) (f block : ℕ) → block < length (marks_of marks f) → is_marked_block marks f block ≡ false → Raised marks f block (raised marks f block)
raises marks f block h e = record {
  long = raised_long marks f (slice_set (marks_of marks f) block true);
  shape = raised_shape marks f block;
  here = raised_here marks f block h;
  kept = raised_kept marks f block;
  new = raised_new marks f block;
  fewer = raised_bare marks f block h e;
}

-- ---- at the start none is raised

none_marked : (n i : ℕ) → is_marked (replicate n false) i ≡ false
none_marked zero i = refl
none_marked (suc n) zero = refl
none_marked (suc n) (suc i) = none_marked n i

none_long : (n : ℕ) → length (replicate n false) ≡ n
none_long zero = refl
none_long (suc n) = ap suc (none_long n)

abbrev pub unmarked : List MidFunction → List (List Bool)
unmarked codes = map (λ code. replicate (length code.blocks) false) codes

pub unmarked_shape : (codes : List MidFunction) (f : ℕ) → length (marks_of (unmarked codes) f) ≡ blocks_of (slice_get codes f)
unmarked_shape [] f = refl
unmarked_shape (code ∷ codes) zero = none_long (length code.blocks)
unmarked_shape (code ∷ codes) (suc f) = unmarked_shape codes f

pub unmarked_none : (codes : List MidFunction) (f i : ℕ) → is_marked_block (unmarked codes) f i ≡ false
unmarked_none [] f i = refl
unmarked_none (code ∷ codes) zero i = none_marked (length code.blocks) i
unmarked_none (code ∷ codes) (suc f) i = unmarked_none codes f i

-- ---- counts

pub before_few : (bs : List Bool) (i : ℕ) → marked_before bs i ≤ i
before_few [] i = omega arith
before_few (b ∷ bs) zero = omega arith
before_few (true ∷ bs) (suc i) = let l = before_few bs i in omega (arith, l)
before_few (false ∷ bs) (suc i) = let l = before_few bs i in omega (arith, l)

pub before_past : (bs : List Bool) (i : ℕ) → length bs ≤ i → marked_before bs i ≡ marked_before bs (length bs)
before_past [] i h = refl
before_past (b ∷ bs) zero h = absurd (omega (arith, h))
before_past (true ∷ bs) (suc i) h = ap suc (before_past bs i (omega (arith, h)))
before_past (false ∷ bs) (suc i) h = before_past bs i (omega (arith, h))

pub before_none : (bs : List Bool) → marked_before bs 0 ≡ 0
before_none [] = refl
before_none (b ∷ bs) = refl

more_at : (bs : List Bool) (i : ℕ) → is_marked bs i ≡ true → marked_before bs (suc i) ≡ suc (marked_before bs i)
more_at [] i h = absurd (false≢true h)
more_at (true ∷ bs) zero h = ap suc (before_none bs)
more_at (false ∷ bs) zero h = absurd (false≢true h)
more_at (true ∷ bs) (suc i) h = ap suc (more_at bs i h)
more_at (false ∷ bs) (suc i) h = more_at bs i h

same_at : (bs : List Bool) (i : ℕ) → is_marked bs i ≡ false → marked_before bs (suc i) ≡ marked_before bs i
same_at [] i h = refl
same_at (true ∷ bs) zero h = absurd (false≢true (sym h))
same_at (false ∷ bs) zero h = before_none bs
same_at (true ∷ bs) (suc i) h = ap suc (same_at bs i h)
same_at (false ∷ bs) (suc i) h = same_at bs i h

pub before_more : (bs : List Bool) (i : ℕ) → is_marked bs i ≡ true → marked_before bs (i + 1) ≡ marked_before bs i + 1
before_more bs i h = let e : i + 1 ≡ suc i = omega arith in let k = more_at bs i h in ap (marked_before bs) e ∙ omega (arith, k)

pub before_same : (bs : List Bool) (i : ℕ) → is_marked bs i ≡ false → marked_before bs (i + 1) ≡ marked_before bs i
before_same bs i h = let e : i + 1 ≡ suc i = omega arith in ap (marked_before bs) e ∙ same_at bs i h

-- ---- as the code reads and writes them

pub past_same : (bs : List Bool) (i n : ℕ) → n ≡ length bs → n ≤ i → nat_lt i n ≡ is_marked bs i
past_same bs i n e h = test i n h ∙ sym (marked_past bs i (omega (arith, e, h)))
  where
    test : (i n : ℕ) → n ≤ i → nat_lt i n ≡ false
    test i n h = grind (arith, nat_tests)

abbrev with_spot : Work → ℕ → ℕ → List Bool → Work
with_spot w f block bs = record { marks = slice_set w.marks f (slice_set bs block true); waiting = w.waiting ++ record { function = f; block = block } ∷ [] }

pub put_new : (f block : ℕ) (w v : Work) (d : List Bool) (is : Bool) → f < length w.marks → is ≡ is_marked (get_or w.marks f d) block → is ≡ false →
    v ≡ with_spot w f block (get_or w.marks f d) → v ≡ put f block w
put_new f block w v d is l h n e = (e ∙ ap (with_spot w f block) (marks_at w.marks f d l)) ∙ by (is_marked_block w.marks f block) (ap (λ x. is_marked x block) (sym (marks_at w.marks f d l)) ∙ sym h ∙ n)
  where
    by : (m : Bool) → m ≡ false → with_spot w f block (marks_of w.marks f) ≡ (if m then w else with_spot w f block (marks_of w.marks f))
    by true k = absurd (false≢true (sym k))
    by false k = refl

pub put_old : (f block : ℕ) (w : Work) (d : List Bool) (is : Bool) → f < length w.marks → is ≡ is_marked (get_or w.marks f d) block → is ≡ true → w ≡ put f block w
put_old f block w d is l h n = by (is_marked_block w.marks f block) (ap (λ x. is_marked x block) (sym (marks_at w.marks f d l)) ∙ sym h ∙ n)
  where
    by : (m : Bool) → m ≡ true → w ≡ (if m then w else with_spot w f block (marks_of w.marks f))
    by true k = refl
    by false k = absurd (false≢true k)

pub pushed_counts : (bs : List Bool) (counts after : List ℕ) (n count : ℕ) → length counts ≡ n → ((i : ℕ) → i < n → get_or counts i 0 ≡ marked_before bs i) → count ≡ marked_before bs n → after ≡ counts ++ count ∷ [] →
    (length after ≡ n + 1) × ((i : ℕ) → i < n + 1 → get_or after i 0 ≡ marked_before bs i)
pushed_counts bs counts after n count long each here e = (ap length e ∙ omega (arith, length-append counts (count ∷ []), long), λ i h. ap (λ xs. get_or xs i 0) e ∙ by i h (cases_lt i n))
  where
    read : (xs : List ℕ) (x i : ℕ) → i < length xs → get_or (xs ++ x ∷ []) i 0 ≡ get_or xs i 0
    read [] x i h = absurd (omega (arith, h))
    read (y ∷ ys) x zero h = refl
    read (y ∷ ys) x (suc i) h = read ys x i (omega (arith, h))

    last : (xs : List ℕ) (x : ℕ) → get_or (xs ++ x ∷ []) (length xs) 0 ≡ x
    last [] x = refl
    last (y ∷ ys) x = last ys x

    by : (i : ℕ) → i < n + 1 → (i < n) ⊎ (n ≤ i) → get_or (counts ++ count ∷ []) i 0 ≡ marked_before bs i
    by i h (inl l) = read counts count i (omega (arith, l, long)) ∙ each i l
    by i h (inr l) = let k : i ≡ length counts = omega (arith, h, l, long) in let m : n ≡ i = omega (arith, h, l) in ap (λ x. get_or (counts ++ count ∷ []) x 0) k ∙ last counts count ∙ here ∙ ap (marked_before bs) m
