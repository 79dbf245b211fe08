-- The windows of a text are in a list that is made by going through its instructions once. The list may hold more: it leaves aside
-- which registers are written before a use, and lists what two checks have in common twice.
use Rattle.std.proofs.Common.{◌≡◌, ◌≤◌, ◌<◌, ℕ, zero, suc, ◌+◌, ◌-◌, ◌*◌, ◌/◌, ◌%◌, arith, ap, refl, sym, ◌∙◌, subst, List, [], ◌∷◌, ◌++◌, length, drop, Bool, true, false, inl, inr, eq-eqb}
use Rattle.std.specs.Prelude.{Some, None, ◌⊎◌, ◌==◌, ◌&&◌, ◌||◌, not, if◌then◌else◌, IsTrue, slice_get}
use Rattle.std.proofs.lemmas.List.{length-append}
use Rattle.mips_isa.specs.declared.instr.Instr.{Instr}
use Rattle.mips_isa.specs.declared.instr.Instr.TheVariants.{Sw, Beq, Bne, Jr, Syscall, Break}
use Rattle.mips_isa.specs.Machine.{reads_of, among}
use Rattle.mips_text.specs.Turns.{IsTextOf}
use Rattle.mips_text.specs.Text.{At, Near, checked, service, result, CheckWindow, Critical, base, operand, target, argument, BranchAt, SkipsReport}
use Rattle.layout_facts.proofs.Few.{In, in_left, in_right}
use Rattle.layout_facts.proofs.Decoded.{Found, found, stands_at}

-- ---- the list

abbrev pub is_report : Instr → Bool
is_report (Break code) = (code == 1) || (code == 2)
is_report i = false

abbrev pub is_check_report : Instr → Bool
is_check_report (Break code) = code == 1
is_check_report i = false

-- The second instruction behind passes a test.
abbrev pub second : (Instr → Bool) → List Instr → Bool
second test [] = false
second test (i ∷ []) = false
second test (i ∷ j ∷ more) = test j

abbrev pub skips : ℕ → List Instr → Bool
skips imm more = (imm == 2) && second is_report more

-- The instruction uses a register critically.
abbrev pub critical : Instr → List Instr → ℕ → Bool
critical (Sw rt rs imm) more r = rs == r
critical (Beq x y imm) more r = not (skips imm more) && ((x == r) || (y == r))
critical (Bne x y imm) more r = not (skips imm more) && ((x == r) || (y == r))
critical (Jr rs) more r = rs == r
critical Syscall more r = r == 4
critical i more r = false

abbrev pub longer : ℕ → Bool → ℕ
longer zero here = if here then 1 else 0
longer (suc m) here = suc (suc m)

-- How far the last critical use among some instructions is.
abbrev pub last : ℕ → ℕ → List Instr → ℕ
last zero r xs = 0
last (suc n) r [] = 0
last (suc n) r (i ∷ more) = longer (last n r more) (critical i more r)

abbrev pub row : ℕ → ℕ → ℕ → List (ℕ × ℕ)
row at r zero = []
row at r (suc n) = (at, r) ∷ row (at + 4) r n

abbrev pub of_check : ℕ → Instr → List Instr → List (ℕ × ℕ)
of_check at (Beq x y imm) more = if (imm == 2) && second is_check_report more then row (at + 4) x (last 4 x more) ++ row (at + 4) y (last 4 y more) else []
of_check at i more = []

abbrev pub first_reads : List Instr → Bool
first_reads [] = false
first_reads (i ∷ more) = among 2 (reads_of i)

abbrev pub of_service : ℕ → Instr → List Instr → List (ℕ × ℕ)
of_service at Syscall more = (at, 2) ∷ (if first_reads more then (at + 4, 2) ∷ [] else [])
of_service at i more = []

abbrev pub nears : ℕ → List Instr → List (ℕ × ℕ)
nears at [] = []
nears at (i ∷ more) = of_check at i more ++ (of_service at i more ++ nears (at + 4) more)

-- ---- how many

abbrev pub checks : Instr → List Instr → ℕ
checks (Beq x y imm) more = if (imm == 2) && second is_check_report more then last 4 x more + last 4 y more else 0
checks i more = 0

abbrev pub services : Instr → List Instr → ℕ
services Syscall more = 1 + (if first_reads more then 1 else 0)
services i more = 0

abbrev pub count : List Instr → ℕ
count [] = 0
count (i ∷ more) = checks i more + services i more + count more

row_length : (at r n : ℕ) → length (row at r n) ≡ n
row_length at r zero = refl
row_length at r (suc n) = ap suc (row_length (at + 4) r n)

check_length : (at : ℕ) (i : Instr) (more : List Instr) → length (of_check at i more) ≡ checks i more
check_length at (Beq x y imm) more = by ((imm == 2) && second is_check_report more)
  where
    by : (z : Bool) → length {A = ℕ × ℕ} (if z then row (at + 4) x (last 4 x more) ++ row (at + 4) y (last 4 y more) else []) ≡ (if z then last 4 x more + last 4 y more else 0)
    by true = length-append (row (at + 4) x (last 4 x more)) (row (at + 4) y (last 4 y more)) ∙ (ap (λ (z : ℕ). z + length (row (at + 4) y (last 4 y more))) (row_length (at + 4) x (last 4 x more)) ∙ ap (λ (z : ℕ). last 4 x more + z) (row_length (at + 4) y (last 4 y more)))
    by false = refl
check_length at i more = refl

service_length : (at : ℕ) (i : Instr) (more : List Instr) → length (of_service at i more) ≡ services i more
service_length at Syscall more = by (first_reads more)
  where
    by : (z : Bool) → length {A = ℕ × ℕ} ((at, 2) ∷ (if z then (at + 4, 2) ∷ [] else [])) ≡ 1 + (if z then 1 else 0)
    by true = refl
    by false = refl
service_length at i more = refl

pub nears_length : (at : ℕ) (xs : List Instr) → length (nears at xs) ≡ count xs
nears_length at [] = refl
nears_length at (i ∷ more) =
    length-append (of_check at i more) (of_service at i more ++ nears (at + 4) more)
    ∙ (ap (λ (z : ℕ). length (of_check at i more) + z) (length-append (of_service at i more) (nears (at + 4) more))
    ∙ sum (length (of_check at i more)) (length (of_service at i more)) (length (nears (at + 4) more)) (checks i more) (services i more) (count more) (check_length at i more) (service_length at i more) (nears_length (at + 4) more))
  where
    sum : (a b c x y z : ℕ) → a ≡ x → b ≡ y → c ≡ z → a + (b + c) ≡ x + y + z
    sum a b c x y z e f g = omega arith

-- ---- places in a list

-- The instruction at a place, and those behind it.
pub record Split (ws : List Instr) (n : ℕ) (i : Instr) : Type 0 where
  pub more : List Instr
  pub is : more ≡ drop (suc n) ws
  pub behind : (k : ℕ) (j : Instr) → slice_get ws (n + suc k) ≡ Some j → slice_get more k ≡ Some j
  pub ahead : (k : ℕ) (j : Instr) → slice_get more k ≡ Some j → slice_get ws (n + suc k) ≡ Some j
  pub kept : (at : ℕ) (v : ℕ × ℕ) → In v (of_check (at + 4 * n) i more ++ of_service (at + 4 * n) i more) → In v (nears at ws)

no_get : (i : Instr) → None ≡ Some i → ⊥
no_get i e = cc

same_get : (w i : Instr) → Some w ≡ Some i → w ≡ i
same_get w i e = cc

pub split : (ws : List Instr) (n : ℕ) (i : Instr) → slice_get ws n ≡ Some i → Split ws n i
split [] n i e = absurd (no_get i e)
split (w ∷ ws) zero i e = subst (Split (w ∷ ws) 0) (same_get w i e) (record {
  more = ws;
  is = refl;
  behind = λ k j s. sym (ap (slice_get (w ∷ ws)) (one k)) ∙ s;
  ahead = λ k j s. ap (slice_get (w ∷ ws)) (one k) ∙ s;
  kept = λ at v h. here at v (subst (λ (z : ℕ). In v (of_check z w ws ++ of_service z w ws)) (none at) h);
})
  where
    one : (k : ℕ) → 0 + suc k ≡ suc k
    one k = omega arith

    none : (at : ℕ) → at + 4 * 0 ≡ at
    none at = omega arith

    either : (v : ℕ × ℕ) (xs ys zs : List (ℕ × ℕ)) → In v (xs ++ ys) → In v (xs ++ (ys ++ zs))
    either v [] ys zs h = in_left v ys zs h
    either v (x ∷ xs) ys zs (inl g) = inl g
    either v (x ∷ xs) ys zs (inr g) = inr (either v xs ys zs g)

    here : (at : ℕ) (v : ℕ × ℕ) → In v (of_check at w ws ++ of_service at w ws) → In v (nears at (w ∷ ws))
    here at v h = either v (of_check at w ws) (of_service at w ws) (nears (at + 4) ws) h
split (w ∷ ws) (suc n) i e =
    let r : Split ws n i = split ws n i e in
    record {
      more = r.more;
      is = r.is;
      behind = λ k j s. r.behind k j (sym (ap (slice_get (w ∷ ws)) (up n k)) ∙ s);
      ahead = λ k j s. ap (slice_get (w ∷ ws)) (up n k) ∙ r.ahead k j s;
      kept = λ at v h. in_right v (of_check at w ws) (of_service at w ws ++ nears (at + 4) ws) (in_right v (of_service at w ws) (nears (at + 4) ws) (r.kept (at + 4) v (subst (λ (z : ℕ). In v (of_check z i r.more ++ of_service z i r.more)) (move at n) h)));
    }
  where
    up : (n k : ℕ) → suc n + suc k ≡ suc (n + suc k)
    up n k = omega arith

    move : (at n : ℕ) → at + 4 * suc n ≡ at + 4 + 4 * n
    move at n = omega arith

-- ---- a use is found

has_row : (at r n i : ℕ) → i < n → In (at + 4 * i, r) (row at r n)
has_row at r zero i h = absurd (no i h)
  where
    no : (n : ℕ) → n < 0 → ⊥
    no n h = omega arith
has_row at r (suc n) zero h = inl (ap (λ (z : ℕ). (z, r)) (none at))
  where
    none : (at : ℕ) → at ≡ at + 4 * 0
    none at = omega arith
has_row at r (suc n) (suc i) h = inr (subst (λ (z : ℕ). In (z, r) (row (at + 4) r n)) (move at i) (has_row (at + 4) r n i (less i n h)))
  where
    move : (at i : ℕ) → at + 4 + 4 * i ≡ at + 4 * suc i
    move at i = omega arith

    less : (a b : ℕ) → suc a < suc b → a < b
    less a b h = omega arith

longer_here : (m : ℕ) → 1 ≤ longer m true
longer_here zero = omega arith
longer_here (suc m) = omega arith

longer_more : (m k : ℕ) (z : Bool) → k + 1 ≤ m → k + 2 ≤ longer m z
longer_more zero k z h = absurd (no k h)
  where
    no : (k : ℕ) → k + 1 ≤ 0 → ⊥
    no k h = omega arith
longer_more (suc m) k z h = omega (arith, h)

-- A use at a place of a list is not farther than the last.
last_reaches : (n r : ℕ) (xs : List Instr) (k : ℕ) (j : Instr) (s : Split xs k j) → slice_get xs k ≡ Some j → critical j (drop (suc k) xs) r ≡ true → k < n → k + 1 ≤ last n r xs
last_reaches zero r xs k j s e c h = absurd (no k h)
  where
    no : (n : ℕ) → n < 0 → ⊥
    no n h = omega arith
last_reaches (suc n) r [] k j s e c h = absurd (no_get j e)
last_reaches (suc n) r (x ∷ xs) zero j s e c h =
    let here : critical x xs r ≡ true = subst (λ (z : Instr). critical z xs r ≡ true) (sym (same_get x j e)) c in
    subst (λ (z : Bool). 0 + 1 ≤ longer (last n r xs) z) (sym here) (one (longer (last n r xs) true) (longer_here (last n r xs)))
  where
    one : (a : ℕ) → 1 ≤ a → 0 + 1 ≤ a
    one a h = omega arith
last_reaches (suc n) r (x ∷ xs) (suc k) j s e c h = two k (longer (last n r xs) (critical x xs r)) (longer_more (last n r xs) k (critical x xs r) (last_reaches n r xs k j (split xs k j e) e c (less k n h)))
  where
    two : (k a : ℕ) → k + 2 ≤ a → suc k + 1 ≤ a
    two k a h = omega arith

    less : (a b : ℕ) → suc a < suc b → a < b
    less a b h = omega arith

second_is : (test : Instr → Bool) (xs : List Instr) (j : Instr) → slice_get xs 1 ≡ Some j → test j ≡ true → second test xs ≡ true
second_is test [] j e t = absurd (no_get j e)
second_is test (i ∷ []) j e t = absurd (no_get j e)
second_is test (i ∷ k ∷ more) j e t = ap test (same_get k j e) ∙ t

is_second : (test : Instr → Bool) (xs : List Instr) → second test xs ≡ true → (j : Instr) × ((slice_get xs 1 ≡ Some j) × (test j ≡ true))
is_second test [] h = absurd (no h)
  where
    no : false ≡ true → ⊥
    no e = cc
is_second test (i ∷ []) h = absurd (no h)
  where
    no : false ≡ true → ⊥
    no e = cc
is_second test (i ∷ j ∷ more) h = (j, (refl, h))

get_drop : (xs : List Instr) (k m : ℕ) → slice_get (drop (suc k) xs) m ≡ slice_get xs (suc (k + m))
get_drop [] k m = refl
get_drop (x ∷ xs) zero m = ap (slice_get xs) (none m)
  where
    none : (m : ℕ) → m ≡ 0 + m
    none m = omega arith
get_drop (x ∷ xs) (suc k) m = get_drop xs k m ∙ ap (slice_get xs) (up k m)
  where
    up : (k m : ℕ) → suc (k + m) ≡ suc k + m
    up k m = omega arith

-- ---- the windows

report_code : (i : Instr) → is_report i ≡ true → (i ≡ Break 1) ⊎ (i ≡ Break 2)
report_code (Break code) h = by (code == 1) (code == 2) refl refl h
  where
    eq : (c k : ℕ) → (c == k) ≡ true → c ≡ k
    eq c k e = grind arith

    by : (x y : Bool) → (code == 1) ≡ x → (code == 2) ≡ y → (x || y) ≡ true → (Break code ≡ Break 1) ⊎ (Break code ≡ Break 2)
    by true y e f h = inl (ap (λ (z : ℕ). Break z) (eq code 1 e))
    by false true e f h = inr (ap (λ (z : ℕ). Break z) (eq code 2 f))
    by false false e f h = absurd (no h)
      where
        no : false ≡ true → ⊥
        no e = cc
report_code i h = absurd (no h)
  where
    no : false ≡ true → ⊥
    no e = cc

-- A critical use in the list.
pub record Use (ws : List Instr) (u r : ℕ) : Type 0 where
  pub place : ℕ
  pub instr : Instr
  pub is : u ≡ 0x00400000 + 4 * place
  pub stands : slice_get ws place ≡ Some instr
  pub uses : critical instr (drop (suc place) ws) r ≡ true

drop_further : (ws : List Instr) (n k : ℕ) → drop (suc (n + suc k)) ws ≡ drop (suc k) (drop (suc n) ws)
drop_further [] n k = refl
drop_further (w ∷ ws) zero k = ap (λ (z : ℕ). drop z ws) (none k)
  where
    none : (k : ℕ) → 0 + suc k ≡ suc k
    none k = omega arith
drop_further (w ∷ ws) (suc n) k = ap (λ (z : ℕ). drop z ws) (up n k) ∙ drop_further ws n k
  where
    up : (n k : ℕ) → suc n + suc k ≡ suc (n + suc k)
    up n k = omega arith

module _ (t : List ℕ) (ws : List Instr) (e : IsTextOf t ws) where
  -- The places of two addresses of the text.
  place_behind : (c u n m k : ℕ) → c ≡ 0x00400000 + 4 * n → u ≡ 0x00400000 + 4 * m → u ≡ c + 4 * k → m ≡ n + k
  place_behind c u n m k e f g = omega arith

  -- A branch that skips no report, in the text, does so in the list.
  no_skip : (u m x y imm : ℕ) (i : Instr) (s : Split ws m i) → u ≡ 0x00400000 + 4 * m → BranchAt t u x y imm → (SkipsReport t u → ⊥) → skips imm s.more ≡ false
  no_skip u m x y imm i s f b n = by (imm == 2) refl (second is_report s.more) refl
    where
      eq : (a b : ℕ) → (a == b) ≡ true → a ≡ b
      eq a b e = grind arith

      eight : (u m : ℕ) → u ≡ 0x00400000 + 4 * m → u + 8 ≡ 0x00400000 + 4 * (m + suc 1)
      eight u m e = omega arith

      skipped : imm ≡ 2 → second is_report s.more ≡ true → SkipsReport t u
      skipped g h =
          let j : (j : Instr) × ((slice_get s.more 1 ≡ Some j) × (is_report j ≡ true)) = is_second is_report s.more h in
          let there : At t (u + 8) j.0 = stands_at t ws (u + 8) (m + suc 1) j.0 e (eight u m f) (s.ahead 1 j.0 j.1.0) in
          elim (report_code j.0 j.1.1) [
            | inl q ↦ inl (record { x = x; y = y; branch = subst (BranchAt t u x y) g b; stop = subst (At t (u + 8)) q there })
            | inr q ↦ inr (record { x = x; y = y; branch = subst (BranchAt t u x y) g b; stop = subst (At t (u + 8)) q there })
          ]

      by : (z : Bool) → (imm == 2) ≡ z → (v : Bool) → second is_report s.more ≡ v → (z && v) ≡ false
      by true g true h = absurd (n (skipped (eq imm 2 g) h))
      by true g false h = refl
      by false g v h = refl

  equal : (r : ℕ) → (r == r) ≡ true
  equal r = eq-eqb r r refl

  either_equal : (r x y : ℕ) → (r ≡ x) ⊎ (r ≡ y) → ((x == r) || (y == r)) ≡ true
  either_equal r x y (inl f) = ap (λ (z : Bool). z || (y == r)) (eq-eqb x r (sym f))
  either_equal r x y (inr f) = ap (λ (z : Bool). (x == r) || z) (eq-eqb y r (sym f)) ∙ last_true (x == r)
    where
      last_true : (z : Bool) → (z || true) ≡ true
      last_true true = refl
      last_true false = refl

  -- A critical use of the text is one in the list.
  use_of : (u r : ℕ) → Critical t u r → Use ws u r
  use_of u r (base rt imm h) =
      let f : Found ws u (Sw rt r imm) = found t ws u (Sw rt r imm) e h in
      record { place = f.place; instr = Sw rt r imm; is = f.is; stands = f.stands; uses = equal r }
  use_of u r (operand x y imm b n o) =
      let f : Found ws u b.instr = found t ws u b.instr e b.at in
      let s : Split ws f.place b.instr = split ws f.place b.instr f.stands in
      let q : skips imm (drop (suc f.place) ws) ≡ false = subst (λ (z : List Instr). skips imm z ≡ false) s.is (no_skip u f.place x y imm b.instr s f.is b n) in
      by f q b.is
    where
      one : (z w : Bool) → z ≡ false → w ≡ true → (not z && w) ≡ true
      one true w f g = absurd (no f)
        where
          no : true ≡ false → ⊥
          no e = cc
      one false w f g = g

      by : (f : Found ws u b.instr) → skips imm (drop (suc f.place) ws) ≡ false → (b.instr ≡ Beq x y imm) ⊎ (b.instr ≡ Bne x y imm) → Use ws u r
      by f q (inl g) = record { place = f.place; instr = Beq x y imm; is = f.is; stands = subst (λ (z : Instr). slice_get ws f.place ≡ Some z) g f.stands; uses = one (skips imm (drop (suc f.place) ws)) ((x == r) || (y == r)) q (either_equal r x y o) }
      by f q (inr g) = record { place = f.place; instr = Bne x y imm; is = f.is; stands = subst (λ (z : Instr). slice_get ws f.place ≡ Some z) g f.stands; uses = one (skips imm (drop (suc f.place) ws)) ((x == r) || (y == r)) q (either_equal r x y o) }
  use_of u r (target h) =
      let f : Found ws u (Jr r) = found t ws u (Jr r) e h in
      record { place = f.place; instr = Jr r; is = f.is; stands = f.stands; uses = equal r }
  use_of u r (argument h g) =
      let f : Found ws u Syscall = found t ws u Syscall e h in
      record { place = f.place; instr = Syscall; is = f.is; stands = f.stands; uses = eq-eqb r 4 g }

  -- The window of a check is in the list.
  of_window : (c x y a r : ℕ) → CheckWindow t c x y a r → In (a, r) (nears 0x00400000 ws)
  of_window c x y a r w =
      let f : Found ws c (Beq x y 2) = found t ws c (Beq x y 2) e w.check in
      let g : Found ws (c + 8) (Break 1) = found t ws (c + 8) (Break 1) e w.report in
      let u : Use ws w.use_at r = use_of w.use_at r w.critical in
      let s : Split ws f.place (Beq x y 2) = split ws f.place (Beq x y 2) f.stands in
      let k : (k : ℕ) × ((u.place ≡ f.place + suc k) × ((k < 4) × ((i : ℕ) × ((a ≡ c + 4 + 4 * i) × (i ≤ k))))) = steps c a w.use_at f.place u.place f.is u.is w.aligned w.from w.upto w.within in
      let report : slice_get s.more 1 ≡ Some (Break 1) = s.behind 1 (Break 1) (subst (λ (z : ℕ). slice_get ws z ≡ Some (Break 1)) (place_behind c (c + 8) f.place g.place (suc 1) f.is g.is (eight c)) g.stands) in
      let use_there : slice_get s.more k.0 ≡ Some u.instr = s.behind k.0 u.instr (subst (λ (z : ℕ). slice_get ws z ≡ Some u.instr) k.1.0 u.stands) in
      let uses : critical u.instr (drop (suc k.0) s.more) r ≡ true = subst (λ (z : List Instr). critical u.instr z r ≡ true) (ap (λ (z : ℕ). drop (suc z) ws) k.1.0 ∙ (drop_further ws f.place k.0 ∙ ap (drop (suc k.0)) (sym s.is))) u.uses in
      let far : k.0 + 1 ≤ last 4 r s.more = last_reaches 4 r s.more k.0 u.instr (split s.more k.0 u.instr use_there) use_there uses k.1.1.0 in
      let here : In (a, r) (row (0x00400000 + 4 * f.place + 4) r (last 4 r s.more)) = subst (λ (z : ℕ). In (z, r) (row (0x00400000 + 4 * f.place + 4) r (last 4 r s.more))) (place c a f.place k.1.1.1.0 f.is k.1.1.1.1.0) (has_row (0x00400000 + 4 * f.place + 4) r (last 4 r s.more) k.1.1.1.0 (less k.1.1.1.0 k.0 (last 4 r s.more) k.1.1.1.1.1 far)) in
      s.kept 0x00400000 (a, r) (in_left (a, r) (of_check (0x00400000 + 4 * f.place) (Beq x y 2) s.more) (of_service (0x00400000 + 4 * f.place) (Beq x y 2) s.more)
      (subst (λ (z : Bool). In (a, r) (if z then row (0x00400000 + 4 * f.place + 4) x (last 4 x s.more) ++ row (0x00400000 + 4 * f.place + 4) y (last 4 y s.more) else [])) (sym (second_is is_check_report s.more (Break 1) report refl)) (side f.place s.more w.one here)))
    where
      eight : (c : ℕ) → c + 8 ≡ c + 4 * suc 1
      eight c = omega arith

      side : (n : ℕ) (more : List Instr) → (r ≡ x) ⊎ (r ≡ y) → In (a, r) (row (0x00400000 + 4 * n + 4) r (last 4 r more)) → In (a, r) (row (0x00400000 + 4 * n + 4) x (last 4 x more) ++ row (0x00400000 + 4 * n + 4) y (last 4 y more))
      side n more (inl f) h = in_left (a, r) (row (0x00400000 + 4 * n + 4) x (last 4 x more)) (row (0x00400000 + 4 * n + 4) y (last 4 y more)) (subst (λ (z : ℕ). In (a, r) (row (0x00400000 + 4 * n + 4) z (last 4 z more))) f h)
      side n more (inr f) h = in_right (a, r) (row (0x00400000 + 4 * n + 4) x (last 4 x more)) (row (0x00400000 + 4 * n + 4) y (last 4 y more)) (subst (λ (z : ℕ). In (a, r) (row (0x00400000 + 4 * n + 4) z (last 4 z more))) f h)

      place : (c a n i : ℕ) → c ≡ 0x00400000 + 4 * n → a ≡ c + 4 + 4 * i → 0x00400000 + 4 * n + 4 + 4 * i ≡ a
      place c a n i e f = omega arith

      less : (i k l : ℕ) → i ≤ k → k + 1 ≤ l → i < l
      less i k l h g = omega arith

      steps : (c a u n m : ℕ) → c ≡ 0x00400000 + 4 * n → u ≡ 0x00400000 + 4 * m → a % 4 ≡ 0 → c + 4 ≤ a → a ≤ u → u ≤ c + 16 → (k : ℕ) × ((m ≡ n + suc k) × ((k < 4) × ((i : ℕ) × ((a ≡ c + 4 + 4 * i) × (i ≤ k)))))
      steps c a u n m e f h k l j = (m - n - 1, (one c a u n m e f k l, (two c a u n m e f k l j, ((a - c - 4) / 4, (three c a n e h k, four c a u n m e f h k l)))))
        where
          one : (c a u n m : ℕ) → c ≡ 0x00400000 + 4 * n → u ≡ 0x00400000 + 4 * m → c + 4 ≤ a → a ≤ u → m ≡ n + suc (m - n - 1)
          one c a u n m e f k l = omega arith

          two : (c a u n m : ℕ) → c ≡ 0x00400000 + 4 * n → u ≡ 0x00400000 + 4 * m → c + 4 ≤ a → a ≤ u → u ≤ c + 16 → m - n - 1 < 4
          two c a u n m e f k l j = omega arith

          three : (c a n : ℕ) → c ≡ 0x00400000 + 4 * n → a % 4 ≡ 0 → c + 4 ≤ a → a ≡ c + 4 + 4 * ((a - c - 4) / 4)
          three c a n e h k = omega arith

          four : (c a u n m : ℕ) → c ≡ 0x00400000 + 4 * n → u ≡ 0x00400000 + 4 * m → a % 4 ≡ 0 → c + 4 ≤ a → a ≤ u → (a - c - 4) / 4 ≤ m - n - 1
          four c a u n m e f h k l = omega arith

  pub listed : (a r : ℕ) → Near t a r → In (a, r) (nears 0x00400000 ws)
  listed a r (checked c x y w) = of_window c x y a r w
  listed a r (service h g) =
      let f : Found ws a Syscall = found t ws a Syscall e h in
      let s : Split ws f.place Syscall = split ws f.place Syscall f.stands in
      s.kept 0x00400000 (a, r) (inl (both a r (0x00400000 + 4 * f.place) f.is g))
    where
      both : (a r b : ℕ) → a ≡ b → r ≡ 2 → ◌≡◌ {A = ℕ × ℕ} (b, 2) (a, r)
      both a r b f g = let pair : ℕ → ℕ → ℕ × ℕ = λ x y. (x, y) in ap (λ (z : ℕ). pair z 2) (sym f) ∙ ap (λ (z : ℕ). pair a z) (sym g)
  listed a r (result b g h q o) =
      let f : Found ws b Syscall = found t ws b Syscall e h in
      let s : Split ws f.place Syscall = split ws f.place Syscall f.stands in
      let j : Found ws a q.instr = found t ws a q.instr e q.at in
      let there : slice_get s.more 0 ≡ Some q.instr = s.behind 0 q.instr (subst (λ (z : ℕ). slice_get ws z ≡ Some q.instr) (place_behind b a f.place j.place (suc 0) f.is j.is (four a b g)) j.stands) in
      s.kept 0x00400000 (a, r) (inr (subst (λ (z : Bool). In {A = ℕ × ℕ} (a, r) (if z then (0x00400000 + 4 * f.place + 4, 2) ∷ [] else [])) (sym (reads s.more q.instr there (true_of (among 2 (reads_of q.instr)) q.reads))) (inl (both a r b (0x00400000 + 4 * f.place) g f.is o))))
    where
      four : (a b : ℕ) → a ≡ b + 4 → a ≡ b + 4 * suc 0
      four a b e = omega arith

      both : (a r b n : ℕ) → a ≡ b + 4 → b ≡ n → r ≡ 2 → ◌≡◌ {A = ℕ × ℕ} (n + 4, 2) (a, r)
      both a r b n f g o = let pair : ℕ → ℕ → ℕ × ℕ = λ x y. (x, y) in ap (λ (z : ℕ). pair (z + 4) 2) (sym g) ∙ (ap (λ (z : ℕ). pair z 2) (sym f) ∙ ap (λ (z : ℕ). pair a z) (sym o))

      reads : (xs : List Instr) (j : Instr) → slice_get xs 0 ≡ Some j → among 2 (reads_of j) ≡ true → first_reads xs ≡ true
      reads [] j e h = absurd (no_get j e)
      reads (x ∷ xs) j e h = ap (λ (z : Instr). among 2 (reads_of z)) (same_get x j e) ∙ h

      true_of : (z : Bool) → IsTrue z → z ≡ true
      true_of true h = refl
      true_of false h = absurd (no h)
        where
          no : IsTrue false → ⊥
          no e = cc
