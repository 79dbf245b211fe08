-- A machine that follows another by stages is the same observed from outside.
use Rattle.std.proofs.Common.{◌≡◌, ◌≢◌, ◌≤◌, ◌<◌, ℕ, zero, suc, ◌+◌, ◌-◌, arith, ap, refl, sym, ◌∙◌, subst, List, [], ◌∷◌, ◌++◌, append_assoc, append-nil, add-zero, add-suc, inl, inr, le_refl, le_trans}
use Rattle.std.specs.Prelude.{Option, Some, None, ◌⊎◌}
use Rattle.hard_runs.specs.Observed.{Prefix, SameObserved}
use Rattle.hard_runs.proofs.Observed.{prefix_reflexive, prefix_transitive}
use Rattle.hard_runs.specs.Stepping.{Stepper, Stands, put, Went, after, go, watch, Leads, Beside, on, over, Stage, Always, Follows, FollowsLaw}

-- Words put out behind others.

put-append : (ws out : List ℕ) (o : Option ℕ) → put (ws ++ out) o ≡ ws ++ put out o
put-append ws out None = refl
put-append ws out (Some w) = append_assoc ws out (w ∷ [])

put-alone : (out : List ℕ) (o : Option ℕ) → put out o ≡ out ++ put [] o
put-alone out None = sym (append-nil out)
put-alone out (Some w) = refl

put_prefix : (out : List ℕ) (o : Option ℕ) → Prefix out (put out o)
put_prefix out None = prefix_reflexive out
put_prefix out (Some w) = (w ∷ [], refl)

-- Laws of runs.

pub grows : {S E : Type 0} (m : Stepper S E) (s : S) (n k : ℕ) → Prefix (go m s n).output (go m s (n + k)).output
grows m s n zero = rw (add-zero n) (prefix_reflexive (go m s n).output)
grows {S} m s n (suc k) =
    let R : Went S = go m s (n + k) in
    rw (add-suc n k) (prefix_transitive (go m s n).output R.output (put R.output (m.step R.state).1) (grows m s n k) (put_prefix R.output (m.step R.state).1))

split_le : (a b : ℕ) → a ≤ b → b ≡ a + (b - a)
split_le a b h = omega arith

pub grows_to : {S E : Type 0} (m : Stepper S E) (s : S) (a b : ℕ) → a ≤ b → Prefix (go m s a).output (go m s b).output
grows_to m s a b h = subst (λ (x : ℕ). Prefix (go m s a).output (go m s x).output) (sym (split_le a b h)) (grows m s a (b - a))

pub stays : {S E : Type 0} (m : Stepper S E) (s : S) (e : E) (n k : ℕ) → Stands m → m.end (go m s n).state ≡ Some e → go m s (n + k) ≡ go m s n
stays m s e n zero st h = rw (add-zero n) refl
stays {S} m s e n (suc k) st h =
    let R : Went S = go m s n in
    let same : go m s (n + k) ≡ R = stays m s e n k st h in
    rw (add-suc n k)
    (ap (λ (x : Went S). after x (m.step x.state)) same ∙ ap (λ (x : S × Option ℕ). after R x) (st R.state e h))

pub stays_to : {S E : Type 0} (m : Stepper S E) (s : S) (e : E) (a b : ℕ) → Stands m → a ≤ b → m.end (go m s a).state ≡ Some e → go m s b ≡ go m s a
stays_to m s e a b st h w = ap (λ (x : ℕ). go m s x) (split_le a b h) ∙ stays m s e a (b - a) st w

-- A run that goes on behind another.
abbrev pub behind : {S : Type 0} → List ℕ → Went S → Went S
behind ws r = record { output = ws ++ r.output; state = r.state }

pub goes_on : {S E : Type 0} (m : Stepper S E) (s : S) (n k : ℕ) → go m s (n + k) ≡ behind (go m s n).output (go m (go m s n).state k)
goes_on {S} m s n zero = rw (add-zero n) (ap (λ (x : List ℕ). let w : Went S = record { output = x; state = (go m s n).state } in w) (sym (append-nil (go m s n).output)))
goes_on {S} m s n (suc k) =
    let R : Went S = go m s n in
    let Q : Went S = go m R.state k in
    rw (add-suc n k)
    (ap (λ (x : Went S). after x (m.step x.state)) (goes_on m s n k) ∙
    ap (λ (x : List ℕ). let w : Went S = record { output = x; state = (m.step Q.state).0 } in w) (put-append R.output Q.output (m.step Q.state).1))

-- A run begins with its first step.
pub begins : {S E : Type 0} (m : Stepper S E) (s : S) (n : ℕ) → go m s (suc n) ≡ behind (put [] (m.step s).1) (go m (m.step s).0 n)
begins {S} m s zero = ap (λ (x : List ℕ). let w : Went S = record { output = x; state = (m.step s).0 } in w) (sym (append-nil (put [] (m.step s).1)))
begins {S} m s (suc n) =
    let Q : Went S = go m (m.step s).0 n in
    ap (λ (x : Went S). after x (m.step x.state)) (begins m s n) ∙
    ap (λ (x : List ℕ). let w : Went S = record { output = x; state = (m.step Q.state).0 } in w) (put-append (put [] (m.step s).1) Q.output (m.step Q.state).1)

-- Quiet steps.

pub leads_on : {S E : Type 0} (m : Stepper S E) (G : S → Type 0) (a b : ℕ) (s t u : S) → Leads m G a s t → Leads m G b t u → Leads m G (a + b) s u
leads_on {S} m G zero b s t u p q = rw (Rattle.std.proofs.Common.zero-add b) (subst (λ (x : S). Leads m G b x u) (sym p) q)
leads_on {S} m G (suc a) b s t u p q = rw (Rattle.std.proofs.Common.suc-add a b) (p.0, leads_on m G a b (m.step s).0 t u p.1 q)

-- Where quiet steps lead, the run stands after as many, with nothing put out.
pub leads_go : {S E : Type 0} (m : Stepper S E) (G : S → Type 0) (k : ℕ) (s t : S) → Leads m G k s t → go m s k ≡ record { output = []; state = t }
leads_go {S} m G zero s t p = ap (λ (x : S). let w : Went S = record { output = []; state = x } in w) p
leads_go {S} m G (suc k) s t p =
    begins m s k ∙
    (ap (λ (o : Option ℕ). behind (put [] o) (go m (m.step s).0 k)) p.0.silent ∙
    ap (λ (x : Went S). behind [] x) (leads_go m G k (m.step s).0 t p.1))

-- In quiet steps each state is good, and no word is put out.
pub record At {S E : Type 0} (m : Stepper S E) (G : S → Type 0) (w : Went S) : Type 0 where
  pub output : w.output ≡ []
  pub open_ : m.end w.state ≡ None
  pub good : G w.state

pub within : {S E : Type 0} (m : Stepper S E) (G : S → Type 0) (k j : ℕ) (s t : S) → Leads m G k s t → j < k → At m G (go m s j)
within m G zero j s t p h = absurd (Rattle.std.proofs.Common.not-suc-le-zero h)
within m G (suc k) zero s t p h = record { output = refl; open_ = p.0.open_; good = p.0.good }
within {S} m G (suc k) (suc j) s t p h =
    let a : At m G (go m (m.step s).0 j) = within m G k j (m.step s).0 t p.1 (Rattle.std.proofs.Common.le_of_suc-le-suc h) in
    let e : go m s (suc j) ≡ behind [] (go m (m.step s).0 j) = begins m s j ∙ ap (λ (o : Option ℕ). behind (put [] o) (go m (m.step s).0 j)) p.0.silent in
    subst (λ (w : Went S). At m G w) (sym e) (record { output = a.output; open_ = a.open_; good = a.good })

-- The same with the state that they lead to.
pub upto : {S E : Type 0} (m : Stepper S E) (G : S → Type 0) (k j : ℕ) (s t : S) → Leads m G k s t → m.end t ≡ None → G t → j ≤ k → At m G (go m s j)
upto {S} m G zero zero s t p o g h = record { output = refl; open_ = subst (λ (x : S). m.end x ≡ None) (sym p) o; good = subst G (sym p) g }
upto m G zero (suc j) s t p o g h = absurd (Rattle.std.proofs.Common.not-suc-le-zero h)
upto m G (suc k) zero s t p o g h = record { output = refl; open_ = p.0.open_; good = p.0.good }
upto {S} m G (suc k) (suc j) s t p o g h =
    let a : At m G (go m (m.step s).0 j) = upto m G k j (m.step s).0 t p.1 o g (Rattle.std.proofs.Common.le_of_suc-le-suc h) in
    let e : go m s (suc j) ≡ behind [] (go m (m.step s).0 j) = begins m s j ∙ ap (λ (o : Option ℕ). behind (put [] o) (go m (m.step s).0 j)) p.0.silent in
    subst (λ (w : Went S). At m G w) (sym e) (record { output = a.output; open_ = a.open_; good = a.good })

-- How far two runs have come side by side: the upper machine at least j steps, or both to one end.
data Where {S T E : Type 0} (low : Stepper S E) (high : Stepper T E) (R : T → S → Type 0) (j a : ℕ) (h : T) (l : S) : Type 0 where
  still : j ≤ a → R h l → Where low high R j a h l
  done : (e : E) → high.end h ≡ Some e → low.end l ≡ Some e → Where low high R j a h l

record Abreast {S T E : Type 0} (low : Stepper S E) (high : Stepper T E) (G : S → Type 0) (R : T → S → Type 0) (h : T) (l : S) (j : ℕ) : Type 0 where
  a : ℕ
  b : ℕ
  level : a ≤ b
  output : (go low l b).output ≡ (go high h a).output
  place : Where low high R j a (go high h a).state (go low l b).state
  so_far : (n : ℕ) → n ≤ b → Prefix (go low l n).output (go high h n).output
  before : (n : ℕ) → n < b → (low.end (go low l n).state ≡ None) × G (go low l n).state

le_cases : (n b : ℕ) → (n ≤ b) ⊎ ((i : ℕ) × (n ≡ b + suc i))
le_cases n b = elim (Rattle.std.proofs.Common.leb n b) as (λ z. Rattle.std.proofs.Common.leb n b ≡ z → (n ≤ b) ⊎ ((i : ℕ) × (n ≡ b + suc i))) [
  | Rattle.std.proofs.Common.true ↦ λ e. inl (grind arith)
  | Rattle.std.proofs.Common.false ↦ λ e. inr (n - suc b, grind arith)
] refl

add_up : (a b m q : ℕ) → a ≤ b → m ≤ q → a + suc m ≤ b + suc q
add_up a b m q h k = omega arith

up_to : (b n q i : ℕ) → n ≡ b + suc i → n ≤ b + suc q → i ≤ q
up_to b n q i e h = omega arith

below : (b n q i : ℕ) → n ≡ b + suc i → n < b + suc q → suc i ≤ q
below b n q i e h = omega arith

later : (a b n i : ℕ) → a ≤ b → n ≡ b + suc i → a ≤ n
later a b n i h e = omega arith

more_far : (j a m : ℕ) → j ≤ a → suc j ≤ a + suc m
more_far j a m h = omega arith

nothing_added : (xs : List ℕ) (o : Option ℕ) → o ≡ None → put xs o ≡ xs
nothing_added xs o e = ap (λ (x : Option ℕ). put xs x) e

-- the lower run at the last step of a stage, and behind it
last_is : {S E : Type 0} (m : Stepper S E) (G : S → Type 0) (l last : S) (q : ℕ) → Leads m G q l last → go m l (suc q) ≡ record { output = put [] (m.step last).1; state = (m.step last).0 }
last_is {S} m G l last q p = ap (λ (x : Went S). after x (m.step x.state)) (leads_go m G q l last p)

stage_level : {S T E : Type 0} (low : Stepper S E) (high : Stepper T E) (G : S → Type 0) (R : T → S → Type 0) (h : T) (l : S) (j a b : ℕ) → a ≤ b → (go low l b).output ≡ (go high h a).output → ((n : ℕ) → n ≤ b → Prefix (go low l n).output (go high h n).output) → ((n : ℕ) → n < b → (low.end (go low l n).state ≡ None) × G (go low l n).state) → j ≤ a → Stage low high G R (go high h a).state (go low l b).state → Abreast low high G R h l (suc j)
stage_level {S} {T} {E} low high G R h l j a b level output so_far before far st =
    let H : Went T = go high h a in
    let L : Went S = go low l b in
    let hi : go high h (a + suc st.more) ≡ behind H.output (go high H.state (suc st.more)) = goes_on high h a (suc st.more) in
    let lo : go low l (b + suc st.quiet) ≡ behind L.output (go low L.state (suc st.quiet)) = goes_on low l b (suc st.quiet) in
    let la : go low L.state (suc st.quiet) ≡ record { output = put [] (low.step st.last).1; state = (low.step st.last).0 } = last_is low G L.state st.last st.quiet st.leads in
    let lo_state : (go low l (b + suc st.quiet)).state ≡ (low.step st.last).0 = ap (λ (x : Went S). x.state) lo ∙ ap (λ (x : Went S). x.state) la in
    let hi_state : (go high h (a + suc st.more)).state ≡ (go high H.state (suc st.more)).state = ap (λ (x : Went T). x.state) hi in
    let same : (go low l (b + suc st.quiet)).output ≡ (go high h (a + suc st.more)).output =
    ap (λ (x : Went S). x.output) lo ∙ (ap (λ (x : Went S). L.output ++ x.output) la ∙ (ap (λ (x : List ℕ). x ++ put [] (low.step st.last).1) output ∙ (ap (λ (x : List ℕ). H.output ++ x) st.output ∙ sym (ap (λ (x : Went T). x.output) hi)))) in
    let inner : (i : ℕ) → i ≤ st.quiet → At low G (go low L.state i) = λ i. upto low G st.quiet i L.state st.last st.leads st.open_ st.good in
    let at_ : (n i : ℕ) → n ≡ b + i → go low l n ≡ behind L.output (go low L.state i) = λ n i e. ap (λ (x : ℕ). go low l x) e ∙ goes_on low l b i in
    record {
      a = a + suc st.more;
      b = b + suc st.quiet;
      level = add_up a b st.more st.quiet level st.fewer;
      output = same;
      place = moved_to low high G R h l j (a + suc st.more) (b + suc st.quiet) (go high H.state (suc st.more)).state (low.step st.last).0 (more_far j a st.more far) hi_state lo_state st.next;
      so_far = λ n k. elim (le_cases n b) as (λ x. Prefix (go low l n).output (go high h n).output) [
        | inl x ↦ so_far n x
        | inr x ↦ elim (cases_le (suc x.0) st.quiet) as (λ y. Prefix (go low l n).output (go high h n).output) [
          | inl y ↦ subst (λ (o : List ℕ). Prefix o (go high h n).output) (sym (ap (λ (w : Went S). w.output) (at_ n (suc x.0) x.1) ∙ (ap (λ (o : List ℕ). L.output ++ o) (inner (suc x.0) y).output ∙ (append-nil L.output ∙ output)))) (grows_to high h a n (later a b n x.0 level x.1))
          | inr y ↦ let e : n ≡ b + suc st.quiet = x.1 ∙ ap (λ (z : ℕ). b + suc z) (le_both x.0 st.quiet (up_to b n st.quiet x.0 x.1 k) y) in
              subst (λ (z : ℕ). Prefix (go low l z).output (go high h z).output) (sym e) (subst (λ (o : List ℕ). Prefix o (go high h (b + suc st.quiet)).output) (sym same) (grows_to high h (a + suc st.more) (b + suc st.quiet) (add_up a b st.more st.quiet level st.fewer)))
        ]
      ];
      before = λ n k. elim (le_cases (suc n) b) as (λ x. (low.end (go low l n).state ≡ None) × G (go low l n).state) [
        | inl x ↦ before n x
        | inr x ↦ let w : At low G (go low L.state x.0) = inner x.0 (less_up b n st.quiet x.0 x.1 k) in
            let e : (go low l n).state ≡ (go low L.state x.0).state = ap (λ (z : Went S). z.state) (at_ n x.0 (pred_eq b n x.0 x.1)) in
            (subst (λ (z : S). low.end z ≡ None) (sym e) w.open_, subst G (sym e) w.good)
      ];
    }
  where
    cases_le : (m n : ℕ) → (m ≤ n) ⊎ (n < m)
    cases_le m n = elim (Rattle.std.proofs.Common.leb m n) as (λ z. Rattle.std.proofs.Common.leb m n ≡ z → (m ≤ n) ⊎ (n < m)) [
      | Rattle.std.proofs.Common.true ↦ λ e. inl (grind arith)
      | Rattle.std.proofs.Common.false ↦ λ e. inr (grind arith)
    ] refl

    le_both : (m n : ℕ) → m ≤ n → n < suc m → m ≡ n
    le_both m n p q = omega arith

    less_up : (b n q i : ℕ) → suc n ≡ b + suc i → n < b + suc q → i ≤ q
    less_up b n q i e h = omega arith

    pred_eq : (b n i : ℕ) → suc n ≡ b + suc i → n ≡ b + i
    pred_eq b n i e = omega arith

    moved_to : {S T E : Type 0} (low : Stepper S E) (high : Stepper T E) (G : S → Type 0) (R : T → S → Type 0) (h : T) (l : S) (j x y : ℕ) (t : T) (s : S) → suc j ≤ x → (go high h x).state ≡ t → (go low l y).state ≡ s → Beside low high R t s → Where low high R (suc j) x (go high h x).state (go low l y).state
    moved_to {S} {T} low high G R h l j x y t s f p q (on r) = still f (subst (λ (z : T). R z (go low l y).state) (sym p) (subst (λ (z : S). R t z) (sym q) r))
    moved_to {S} {T} low high G R h l j x y t s f p q (over e u v) = done e (subst (λ (z : T). high.end z ≡ Some e) (sym p) u) (subst (λ (z : S). low.end z ≡ Some e) (sym q) v)

-- One more stage, wherever the two runs stand.
next_stage : {S T E : Type 0} (low : Stepper S E) (high : Stepper T E) (G : S → Type 0) (R : T → S → Type 0) (h : T) (l : S) (j : ℕ) → Follows low high G R h → Abreast low high G R h l j → Abreast low high G R h l (suc j)
next_stage {S} {T} {E} low high G R h l j f w = by_place w.place
  where
    by_place : Where low high R j w.a (go high h w.a).state (go low l w.b).state → Abreast low high G R h l (suc j)
    by_place (still far r) = stage_level low high G R h l j w.a w.b w.level w.output w.so_far w.before far (f w.a (go low l w.b).state r)
    by_place (done e u v) = record { a = w.a; b = w.b; level = w.level; output = w.output; place = done e u v; so_far = w.so_far; before = w.before }

all_stages : {S T E : Type 0} (low : Stepper S E) (high : Stepper T E) (G : S → Type 0) (R : T → S → Type 0) (h : T) (l : S) → Follows low high G R h → R h l → (j : ℕ) → Abreast low high G R h l j
all_stages low high G R h l f r zero = record {
  a = zero;
  b = zero;
  level = le_refl zero;
  output = refl;
  place = still (le_refl zero) r;
  so_far = λ n k. subst (λ (z : ℕ). Prefix (go low l z).output (go high h z).output) (sym (none_below n k)) (prefix_reflexive []);
  before = λ n k. absurd (Rattle.std.proofs.Common.not-suc-le-zero k);
}
  where
    none_below : (n : ℕ) → n ≤ zero → n ≡ zero
    none_below n k = omega arith
all_stages low high G R h l f r (suc j) = next_stage low high G R h l j f (all_stages low high G R h l f r j)

-- At a place where the two stand beside each other neither has an end.
open_both : {S T E : Type 0} (low : Stepper S E) (high : Stepper T E) (G : S → Type 0) (R : T → S → Type 0) (h : T) (l : S) → Stage low high G R h l → (high.end h ≡ None) × ((low.end l ≡ None) × G l)
open_both {S} low high G R h l st =
    let w : At low G (go low l zero) = upto low G st.quiet zero l st.last st.leads st.open_ st.good (Rattle.std.proofs.Common.zero-le) in
    (st.going, (w.open_, w.good))

none_some : {E : Type 0} (o : Option E) (e : E) → o ≡ None → o ≡ Some e → ⊥
none_some o e p q = cc

some_inj : {E : Type 0} (d : E) (x y : E) → Some x ≡ Some y → x ≡ y
some_inj {E} d x y p = ap (λ (o : Option E). elim o as (λ z. E) [ Some v ↦ v | None ↦ d ]) p

either_le : (m n : ℕ) → (m ≤ n) ⊎ (n < m)
either_le m n = elim (Rattle.std.proofs.Common.leb m n) as (λ z. Rattle.std.proofs.Common.leb m n ≡ z → (m ≤ n) ⊎ (n < m)) [
  | Rattle.std.proofs.Common.true ↦ λ e. inl (grind arith)
  | Rattle.std.proofs.Common.false ↦ λ e. inr (grind arith)
] refl

both_le : (a b n : ℕ) → n ≤ a → a ≤ b → b ≤ n → b ≡ n
both_le a b n p q r = omega arith

module _ {S T E : Type 0} (low : Stepper S E) (high : Stepper T E) (G : S → Type 0) (R : T → S → Type 0) (h : T) (l : S) (sl : Stands low) (sh : Stands high) (f : Follows low high G R h) (r : R h l) where
  sl_done : (n : ℕ) (w : Abreast low high G R h l n) → (e : E) → low.end (go low l w.b).state ≡ Some e → w.b ≤ n → go low l n ≡ go low l w.b
  sl_done n w e v k = stays_to low l e w.b n sl k v

  no_more_by : (n : ℕ) (w : Abreast low high G R h l n) → Where low high R n w.a (go high h w.a).state (go low l w.b).state → (n ≤ w.b) ⊎ (w.b < n) → Prefix (go low l n).output (go high h n).output
  no_more_by n w p (inl k) = w.so_far n k
  no_more_by n w (still far x) (inr k) = w.so_far n (le_trans far w.level)
  no_more_by n w (done e u v) (inr k) =
      subst (λ (z : Went S). Prefix z.output (go high h n).output) (sym (stays_to low l e w.b n sl (Rattle.std.proofs.Common.le_of_lt k) v))
      (subst (λ (z : List ℕ). Prefix z (go high h n).output) (sym w.output) (grows_to high h w.a n (le_trans w.level (Rattle.std.proofs.Common.le_of_lt k))))

  ends_by : (n : ℕ) (e : E) (w : Abreast low high G R h l n) → Where low high R n w.a (go high h w.a).state (go low l w.b).state → (w.b ≤ n) ⊎ (n < w.b) → low.end (go low l n).state ≡ Some e → (high.end (go high h n).state ≡ Some e) × ((go high h n).output ≡ (go low l n).output)
  ends_by n e w p (inr k) x = absurd (none_some (low.end (go low l n).state) e (w.before n k).0 x)
  ends_by n e w (still far y) (inl k) x =
      let st : Stage low high G R (go high h w.a).state (go low l w.b).state = f w.a (go low l w.b).state y in
      let o : low.end (go low l w.b).state ≡ None = (open_both low high G R (go high h w.a).state (go low l w.b).state st).1.0 in
      absurd (none_some (low.end (go low l n).state) e (subst (λ (z : ℕ). low.end (go low l z).state ≡ None) (both_le w.a w.b n far w.level k) o) x)
  ends_by n e w (done d u v) (inl k) x =
      let lo : go low l n ≡ go low l w.b = stays_to low l d w.b n sl k v in
      let hi : go high h n ≡ go high h w.a = stays_to high h d w.a n sh (le_trans w.level k) u in
      let de : Some d ≡ Some e = sym v ∙ (sym (ap (λ (z : Went S). low.end z.state) lo) ∙ x) in
      (ap (λ (z : Went T). high.end z.state) hi ∙ (u ∙ de), ap (λ (z : Went T). z.output) hi ∙ (sym w.output ∙ sym (ap (λ (z : Went S). z.output) lo)))

  comes_by : (n : ℕ) (w : Abreast low high G R h l n) → Where low high R n w.a (go high h w.a).state (go low l w.b).state → (n ≤ w.a) ⊎ (w.a < n) → (m : ℕ) × Prefix (go high h n).output (go low l m).output
  comes_by n w p (inl k) = (w.b, subst (λ (z : List ℕ). Prefix (go high h n).output z) (sym w.output) (grows_to high h n w.a k))
  comes_by n w (still far y) (inr k) = (w.b, subst (λ (z : List ℕ). Prefix (go high h n).output z) (sym w.output) (grows_to high h n w.a far))
  comes_by n w (done d u v) (inr k) = (w.b, subst (λ (z : List ℕ). Prefix (go high h n).output z) (sym w.output) (subst (λ (z : Went T). Prefix z.output (go high h w.a).output) (sym (stays_to high h d w.a n sh (Rattle.std.proofs.Common.le_of_lt k) u)) (prefix_reflexive (go high h w.a).output)))

  finishes_by : (n : ℕ) (e : E) (w : Abreast low high G R h l n) → Where low high R n w.a (go high h w.a).state (go low l w.b).state → high.end (go high h n).state ≡ Some e → (m : ℕ) × ((low.end (go low l m).state ≡ Some e) × ((go low l m).output ≡ (go high h n).output))
  finishes_by n e w (still far y) x =
      let st : Stage low high G R (go high h w.a).state (go low l w.b).state = f w.a (go low l w.b).state y in
      let o : high.end (go high h w.a).state ≡ None = st.going in
      absurd (none_some (high.end (go high h w.a).state) e o (ap (λ (z : Went T). high.end z.state) (stays_to high h e n w.a sh far x) ∙ x))
  finishes_by n e w (done d u v) x = elim (either_le w.a n) as (λ k. (m : ℕ) × ((low.end (go low l m).state ≡ Some e) × ((go low l m).output ≡ (go high h n).output))) [
    | inl k ↦ let hi : go high h n ≡ go high h w.a = stays_to high h d w.a n sh k u in
        let de : Some d ≡ Some e = sym u ∙ (sym (ap (λ (z : Went T). high.end z.state) hi) ∙ x) in
        (w.b, (v ∙ de, w.output ∙ sym (ap (λ (z : Went T). z.output) hi)))
    | inr k ↦ let hi : go high h w.a ≡ go high h n = stays_to high h e n w.a sh (Rattle.std.proofs.Common.le_of_lt k) x in
        let de : Some d ≡ Some e = sym u ∙ (ap (λ (z : Went T). high.end z.state) hi ∙ x) in
        (w.b, (v ∙ de, w.output ∙ ap (λ (z : Went T). z.output) hi))
  ]

  always_by : (n : ℕ) (w : Abreast low high G R h l n) → Where low high R n w.a (go high h w.a).state (go low l w.b).state → (w.b ≤ n) ⊎ (n < w.b) → low.end (go low l n).state ≡ None → G (go low l n).state
  always_by n w p (inr k) x = (w.before n k).1
  always_by n w (still far y) (inl k) x =
      let st : Stage low high G R (go high h w.a).state (go low l w.b).state = f w.a (go low l w.b).state y in
      let g : G (go low l w.b).state = (open_both low high G R (go high h w.a).state (go low l w.b).state st).1.1 in
      subst (λ (z : ℕ). G (go low l z).state) (both_le w.a w.b n far w.level k) g
  always_by n w (done d u v) (inl k) x =
      absurd (none_some (low.end (go low l n).state) d x (ap (λ (z : Went S). low.end z.state) (stays_to low l d w.b n sl k v) ∙ v))

  here : (n : ℕ) → Abreast low high G R h l n
  here n = all_stages low high G R h l f r n

  pub same_by : SameObserved (watch low l) (watch high h)
  same_by = record {
    no_more = λ n. no_more_by n (here n) (here n).place (either_le n (here n).b);
    ends = λ n e x. ends_by n e (here n) (here n).place (either_le (here n).b n) x;
    comes = λ n. comes_by n (here n) (here n).place (either_le n (here n).a);
    finishes = λ n e x. let m : (k : ℕ) × ((low.end (go low l k).state ≡ Some e) × ((go low l k).output ≡ (go high h n).output)) = finishes_by n e (here n) (here n).place x in (m.0, m.1.0, m.1.1);
  }

  pub always_so : Always low l G
  always_so n x = always_by n (here n) (here n).place (either_le (here n).b n) x

pub follows : (S T E : Type 0) → FollowsLaw S T E
follows S T E low high G R h l sl sh f r = (same_by low high G R h l sl sh f r, always_so low high G R h l sl sh f r)
