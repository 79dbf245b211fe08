-- Words whose streams take turns, in the longest runs that pass a test: words of the same sorts do so too, and so do two parts with a
-- word between that ends a run.
use Rattle.std.proofs.Common.{◌≡◌, ◌-◌, ap, refl, sym, ◌∙◌, subst, List, [], ◌∷◌, ◌++◌, length, Bool, true, false, inl, inr}
use Rattle.std.specs.Prelude.{Option, None, ◌⊎◌, ◌&&◌, ◌||◌, IsTrue, is_some, count_by}
use Rattle.std.specs.List.{list_all}
use Rattle.std.proofs.lemmas.List.{append_assoc, append-nil}
use Rattle.mips_isa.specs.declared.instr.Instr.{Instr}
use Rattle.mips_isa.specs.declared.instr.Instr.TheVariants.{Sll, Beq, Bne, Break}
use Rattle.mips_isa.specs.Machine.{is_product}
use Rattle.mips_isa.specs.Locality.{is_move}
use Rattle.mips_text.specs.Turns as turns
use Rattle.mips_text.specs.Turns.{Stream, stream_of, is_nop, is_idle, crosses, units_behind, in_front, TakeTurns, EndsOutside, BeginsOutside, IsRun, TurnedWhere}

no_true : true ≡ false → ⊥
no_true e = cc

-- The tests that a longest run passes, in the weaker and in the stronger form.
abbrev pub weak : Instr → Bool
weak i = is_some (stream_of i) || is_nop i

abbrev pub strong : Instr → Bool
strong i = is_some (stream_of i) || is_idle i

-- A word of a check, or of one with its branch turned round.
abbrev pub may_check : Instr → Bool
may_check (Beq x y imm) = crosses x y
may_check (Bne x y imm) = crosses x y
may_check (Sll rd rt sh) = true
may_check (Break code) = true
may_check i = false

-- ---- words of the same sorts

pub record Like (x y : Instr) : Type 0 where
  pub stream : stream_of x ≡ stream_of y
  pub nop : is_nop x ≡ is_nop y
  pub idle : is_idle x ≡ is_idle y
  pub product : is_product x ≡ is_product y
  pub move : is_move x ≡ is_move y
  pub check : (x ≡ y) ⊎ ((may_check x ≡ false) × (may_check y ≡ false))

abbrev pub AllLike : List Instr → List Instr → Type 0
AllLike [] [] = Unit {0}
AllLike [] (y ∷ ys) = ⊥
AllLike (x ∷ xs) [] = ⊥
AllLike (x ∷ xs) (y ∷ ys) = Like x y × AllLike xs ys

-- A test that is the same of words of the same sorts, and passes no word that is of no stream and touches a register or stops.
pub record IsTest (passes : Instr → Bool) : Type 0 where
  pub same : (x y : Instr) → Like x y → passes x ≡ passes y
  pub ends : (x : Instr) → is_some (stream_of x) ≡ false → is_nop x ≡ false → is_idle x ≡ false → passes x ≡ false

pub weak_test : IsTest weak
weak_test = record {
  same = λ x y h. ap (λ (z : Option Stream). is_some z || is_nop x) h.stream ∙ ap (λ (z : Bool). is_some (stream_of y) || z) h.nop;
  ends = λ x s n i. ap (λ (z : Bool). z || is_nop x) s ∙ n;
}

pub strong_test : IsTest strong
strong_test = record {
  same = λ x y h. ap (λ (z : Option Stream). is_some z || is_idle x) h.stream ∙ ap (λ (z : Bool). is_some (stream_of y) || z) h.idle;
  ends = λ x s n i. ap (λ (z : Bool). z || is_idle x) s ∙ i;
}

like_back : (x y : Instr) → Like x y → Like y x
like_back x y h = record { stream = sym h.stream; nop = sym h.nop; idle = sym h.idle; product = sym h.product; move = sym h.move; check = turned h.check }
  where
    turned : (x ≡ y) ⊎ ((may_check x ≡ false) × (may_check y ≡ false)) → (y ≡ x) ⊎ ((may_check y ≡ false) × (may_check x ≡ false))
    turned (inl e) = inl (sym e)
    turned (inr k) = inr (k.1, k.0)

all_back : (xs ys : List Instr) → AllLike xs ys → AllLike ys xs
all_back [] [] h = tt
all_back [] (y ∷ ys) h = absurd h
all_back (x ∷ xs) [] h = absurd h
all_back (x ∷ xs) (y ∷ ys) h = (like_back x y h.0, all_back xs ys h.1)

-- A list in two parts, like those of another.
record Parted (xs first second : List Instr) : Type 0 where
  front : List Instr
  back : List Instr
  is : xs ≡ front ++ back
  first_like : AllLike front first
  second_like : AllLike back second

parted : (xs first second : List Instr) → AllLike xs (first ++ second) → Parted xs first second
parted xs [] second h = record { front = []; back = xs; is = refl; first_like = tt; second_like = h }
parted [] (y ∷ ys) second h = absurd h
parted (x ∷ xs) (y ∷ ys) second h =
    let r : Parted xs ys second = parted xs ys second h.1 in
    record { front = x ∷ r.front; back = r.back; is = ap (λ (z : List Instr). x ∷ z) r.is; first_like = (h.0, r.first_like); second_like = r.second_like }

units_like : (product : Bool) (xs ys : List Instr) → AllLike xs ys → units_behind product xs ≡ units_behind product ys
units_like product [] [] h = refl
units_like product [] (y ∷ ys) h = absurd h
units_like product (x ∷ xs) [] h = absurd h
units_like product (x ∷ xs) (y ∷ ys) h =
    ap (λ (z : Option Stream). in_front z (product && is_move x) (units_behind (is_product x) xs)) h.0.stream
    ∙ (ap (λ (z : Bool). in_front (stream_of y) (product && z) (units_behind (is_product x) xs)) h.0.move
    ∙ (ap (λ (z : Bool). in_front (stream_of y) (product && is_move y) (units_behind z xs)) h.0.product
    ∙ ap (λ (z : List Stream). in_front (stream_of y) (product && is_move y) z) (units_like (is_product y) xs ys h.1)))

turns_by : (us vs : List Stream) → us ≡ vs → us ≡ turns.in_turns (count_by turns.is_first us) (length us - count_by turns.is_first us) → vs ≡ turns.in_turns (count_by turns.is_first vs) (length vs - count_by turns.is_first vs)
turns_by us vs e h = subst (λ (z : List Stream). z ≡ turns.in_turns (count_by turns.is_first z) (length z - count_by turns.is_first z)) e h

-- ---- words of no stream

abbrev pub AllQuiet : List Instr → Type 0
AllQuiet [] = Unit {0}
AllQuiet (x ∷ xs) = (stream_of x ≡ None) × AllQuiet xs

quiet_right : (xs ys : List Instr) → AllQuiet (xs ++ ys) → AllQuiet ys
quiet_right [] ys h = h
quiet_right (x ∷ xs) ys h = quiet_right xs ys h.1

quiet_left : (xs ys : List Instr) → AllQuiet (xs ++ ys) → AllQuiet xs
quiet_left [] ys h = tt
quiet_left (x ∷ xs) ys h = (h.0, quiet_left xs ys h.1)

no_units : (product : Bool) (xs : List Instr) → AllQuiet xs → units_behind product xs ≡ []
no_units product [] h = refl
no_units product (x ∷ xs) h = ap (λ (z : Option Stream). in_front z (product && is_move x) (units_behind (is_product x) xs)) h.0 ∙ no_units (is_product x) xs h.1

-- ---- parts

-- A list cut in two ways.
data Cut (xs : List Instr) (z : Instr) (ys before rest : List Instr) : Type 0 where
  behind : (more : List Instr) → before ≡ xs ++ z ∷ more → ys ≡ more ++ rest → Cut xs z ys before rest
  ahead : (more : List Instr) → xs ≡ before ++ more → rest ≡ more ++ z ∷ ys → Cut xs z ys before rest

same_head : (x y : Instr) (xs ys : List Instr) → x ∷ xs ≡ y ∷ ys → x ≡ y
same_head x y xs ys e = cc

same_tail : (x y : Instr) (xs ys : List Instr) → x ∷ xs ≡ y ∷ ys → xs ≡ ys
same_tail x y xs ys e = cc

cut : (xs : List Instr) (z : Instr) (ys before rest : List Instr) → xs ++ z ∷ ys ≡ before ++ rest → Cut xs z ys before rest
cut xs z ys [] rest e = ahead xs refl (sym e)
cut [] z ys (b ∷ before) rest e = behind before (ap (λ (w : Instr). w ∷ before) (sym (same_head z b ys (before ++ rest) e))) (same_tail z b ys (before ++ rest) e)
cut (x ∷ xs) z ys (b ∷ before) rest e = by (cut xs z ys before rest (same_tail x b (xs ++ z ∷ ys) (before ++ rest) e))
  where
    same : x ≡ b
    same = same_head x b (xs ++ z ∷ ys) (before ++ rest) e

    by : Cut xs z ys before rest → Cut (x ∷ xs) z ys (b ∷ before) rest
    by (behind more f g) = behind more (ap (λ (w : Instr). w ∷ before) (sym same) ∙ ap (λ (w : List Instr). x ∷ w) f) g
    by (ahead more f g) = ahead more (ap (λ (w : Instr). w ∷ xs) same ∙ ap (λ (w : List Instr). b ∷ w) f) g

-- Nothing, or a word that ends a run and words in which the streams take turns.
pub data Parts (passes : Instr → Bool) (ys : List Instr) : Type 0 where
  nothing : ys ≡ [] → Parts passes ys
  begins : (z : Instr) (more : List Instr) → ys ≡ z ∷ more → passes z ≡ false → TurnedWhere passes more → Parts passes ys

-- ---- under a test

module _ (passes : Instr → Bool) (test : IsTest passes) where
  all_pass : (xs ys : List Instr) → AllLike xs ys → list_all passes xs ≡ list_all passes ys
  all_pass [] [] h = refl
  all_pass [] (y ∷ ys) h = absurd h
  all_pass (x ∷ xs) [] h = absurd h
  all_pass (x ∷ xs) (y ∷ ys) h = ap (λ (z : Bool). z && list_all passes xs) (test.same x y h.0) ∙ ap (λ (z : Bool). passes y && z) (all_pass xs ys h.1)

  ends_like : (xs ys : List Instr) → AllLike xs ys → EndsOutside passes ys → EndsOutside passes xs
  ends_like xs ys h k front i e =
      let r : Parted ys front (i ∷ []) = parted ys front (i ∷ []) (subst (λ (z : List Instr). AllLike ys z) e (all_back xs ys h)) in
      last r.front r.back r.second_like r.is
    where
      last : (before back : List Instr) → AllLike back (i ∷ []) → ys ≡ before ++ back → passes i ≡ false
      last before [] a s = absurd a
      last before (y ∷ []) a s = sym (test.same y i a.0) ∙ k before y s
      last before (y ∷ z ∷ more) a s = absurd a.1

  begins_like : (xs ys : List Instr) → AllLike xs ys → BeginsOutside passes ys → BeginsOutside passes xs
  begins_like xs [] h k i more e = absurd (subst (λ (z : List Instr). AllLike z []) e h)
  begins_like xs (y ∷ ys) h k i more e =
      let a : AllLike (i ∷ more) (y ∷ ys) = subst (λ (z : List Instr). AllLike z (y ∷ ys)) e h in
      test.same i y a.0 ∙ k y ys refl

  pub turns_like : (xs ys : List Instr) → AllLike xs ys → TurnedWhere passes xs → TurnedWhere passes ys
  turns_like xs ys h t before run after e r =
      let p : Parted xs before (run ++ after) = parted xs before (run ++ after) (subst (λ (z : List Instr). AllLike xs z) e h) in
      let q : Parted p.back run after = parted p.back run after p.second_like in
      turns_by (turns.units q.front) (turns.units run) (units_like false q.front run q.first_like) (t p.front q.front q.back (p.is ∙ ap (λ (z : List Instr). p.front ++ z) q.is) (record {
        inside = subst IsTrue (sym (all_pass q.front run q.first_like)) r.inside;
        from = ends_like p.front before p.first_like r.from;
        upto = begins_like q.back after q.second_like r.upto;
      }))

  pub quiet_turns : (xs : List Instr) → AllQuiet xs → TurnedWhere passes xs
  quiet_turns xs h before run after e r =
      let q : AllQuiet run = quiet_left run after (quiet_right before (run ++ after) (subst AllQuiet e h)) in
      turns_by [] (turns.units run) (sym (no_units false run q)) refl

  fails_in : (xs : List Instr) (z : Instr) (ys : List Instr) → passes z ≡ false → IsTrue (list_all passes (xs ++ z ∷ ys)) → ⊥
  fails_in [] z ys f h = no (passes z) (list_all passes ys) f h
    where
      no : (a b : Bool) → a ≡ false → IsTrue (a && b) → ⊥
      no true b e h = no_true e
      no false b e h = no_true (sym h)
  fails_in (x ∷ xs) z ys f h = fails_in xs z ys f (right (passes x) (list_all passes (xs ++ z ∷ ys)) h)
    where
      right : (a b : Bool) → IsTrue (a && b) → IsTrue b
      right true b h = h
      right false b h = absurd (no_true (sym h))

  pub turns_parts : (xs : List Instr) (z : Instr) (ys : List Instr) → passes z ≡ false → TurnedWhere passes xs → TurnedWhere passes ys → TurnedWhere passes (xs ++ z ∷ ys)
  turns_parts xs z ys f t u before run after e r = by (cut xs z ys before (run ++ after) e)
    where
      inner : (more : List Instr) → xs ≡ before ++ more → Cut more z ys run after → TakeTurns run
      inner more g (behind m h k) = absurd (fails_in more z m f (subst (λ (w : List Instr). IsTrue (list_all passes w)) h r.inside))
      inner more g (ahead m h k) = t before run m (g ∙ ap (λ (w : List Instr). before ++ w) h) (record {
        inside = r.inside;
        from = r.from;
        upto = λ i rest q. r.upto i (rest ++ z ∷ ys) (k ∙ ap (λ (w : List Instr). w ++ z ∷ ys) q);
      })

      by : Cut xs z ys before (run ++ after) → TakeTurns run
      by (behind more g h) = u more run after h (record {
        inside = r.inside;
        from = λ front i q. r.from (xs ++ z ∷ front) i (g ∙ (ap (λ (w : List Instr). xs ++ z ∷ w) q ∙ sym (append_assoc xs (z ∷ front) (i ∷ []))));
        upto = r.upto;
      })
      by (ahead more g h) = inner more g (cut more z ys run after (sym h))

  pub turns_before : (xs ys : List Instr) → TurnedWhere passes xs → Parts passes ys → TurnedWhere passes (xs ++ ys)
  turns_before xs ys t (nothing e) = subst (λ (w : List Instr). TurnedWhere passes (xs ++ w)) (sym e) (subst (TurnedWhere passes) (sym (append-nil xs)) t)
  turns_before xs ys t (begins z more e f u) = subst (λ (w : List Instr). TurnedWhere passes (xs ++ w)) (sym e) (turns_parts xs z more f t u)

  pub apart_turns : (ys : List Instr) → Parts passes ys → TurnedWhere passes ys
  apart_turns ys a = turns_before [] ys (quiet_turns [] tt) a
