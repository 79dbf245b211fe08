-- Names in ascending order: each is found where it stands.
use Rattle.std.proofs.Common.{◌≡◌, ℕ, suc, ◌<◌, ◌≤◌, Bool, true, false, List, [], ◌∷◌, ◌++◌, Some, None, refl, ◌∙◌, ◌==◌, if◌then◌else◌, arith}
use Rattle.std.proofs.lemmas.Bool.{eq-eqb, ne_eqb}
use Rattle.lower_rules.specs.Bindings.{GlobalShape, find_shape}
use Rattle.lower_rules.specs.Scoping.{has_variable}
use Rattle.lower_rules.specs.Programs.{Variable, place_of, unsigned_in}

-- each name is at least the first number, above those before it, and below the last number
abbrev pub Ascends : {A : Type 0} → (A → ℕ) → ℕ → List A → ℕ → Type 0
Ascends name lo [] hi = lo ≤ hi
Ascends name lo (x ∷ xs) hi = (lo ≤ name x) × Ascends name (suc (name x)) xs hi

pub ascends_le : {A : Type 0} (name : A → ℕ) (lo : ℕ) (xs : List A) (hi : ℕ) → Ascends name lo xs hi → lo ≤ hi
ascends_le name lo [] hi a = a
ascends_le name lo (x ∷ xs) hi a = omega (arith, a.0, ascends_le name (suc (name x)) xs hi a.1)

pub ascends_from : {A : Type 0} (name : A → ℕ) (lo mid : ℕ) (xs : List A) (hi : ℕ) → lo ≤ mid → Ascends name mid xs hi → Ascends name lo xs hi
ascends_from name lo mid [] hi le a = omega (arith, le, a)
ascends_from name lo mid (x ∷ xs) hi le a = (omega (arith, le, a.0), a.1)

pub ascends_both : {A : Type 0} (name : A → ℕ) (lo : ℕ) (xs : List A) (mid : ℕ) (ys : List A) (hi : ℕ) → Ascends name lo xs mid → Ascends name mid ys hi → Ascends name lo (xs ++ ys) hi
ascends_both name lo [] mid ys hi a b = ascends_from name lo mid ys hi a b
ascends_both name lo (x ∷ xs) mid ys hi a b = (a.0, ascends_both name (suc (name x)) xs mid ys hi a.1 b)

pub ascends_to : {A : Type 0} (name : A → ℕ) (lo : ℕ) (xs : List A) (mid hi : ℕ) → mid ≤ hi → Ascends name lo xs mid → Ascends name lo xs hi
ascends_to name lo [] mid hi le a = omega (arith, le, a)
ascends_to name lo (x ∷ xs) mid hi le a = (a.0, ascends_to name (suc (name x)) xs mid hi le a.1)

-- ---- variables

abbrev pub variable_name : Variable → ℕ
variable_name v = v.name

-- a variable is the first of its name
pub record Held (all : List Variable) (v : Variable) : Type 0 where
  pub variable : has_variable (place_of v.name 0 all) ≡ true
  pub type : unsigned_in v.name all ≡ v.is_unsigned

abbrev pub HeldEach : List Variable → List Variable → Type 0
HeldEach all [] = Unit {0}
HeldEach all (v ∷ vs) = Held all v × HeldEach all vs

pub held_both : (all xs ys : List Variable) → HeldEach all (xs ++ ys) → HeldEach all xs × HeldEach all ys
held_both all [] ys h = (tt, h)
held_both all (x ∷ xs) ys h = let r = held_both all xs ys h.1 in ((h.0, r.0), r.1)

placed_anywhere : (name i j : ℕ) (vs : List Variable) → has_variable (place_of name i vs) ≡ has_variable (place_of name j vs)
placed_anywhere name i j [] = refl
placed_anywhere name i j (v ∷ vs) = at (v.name == name) (placed_anywhere name (suc i) (suc j) vs)
  where
    at : (b : Bool) → has_variable (place_of name (suc i) vs) ≡ has_variable (place_of name (suc j) vs) →
        has_variable (if b then Some i else place_of name (suc i) vs) ≡ has_variable (if b then Some j else place_of name (suc j) vs)
    at true rest = refl
    at false rest = rest

held_behind : (u : Variable) (all vs : List Variable) (lo hi : ℕ) → u.name < lo → Ascends variable_name lo vs hi → HeldEach all vs → HeldEach (u ∷ all) vs
held_behind u all [] lo hi below a h = tt
held_behind u all (v ∷ vs) lo hi below a h =
    let other : (u.name == v.name) ≡ false = ne_eqb u.name v.name (λ e. omega (arith, below, a.0, e)) in
    let held : Held (u ∷ all) v = record {
      variable = rw other (placed_anywhere v.name 1 0 all ∙ h.0.variable);
      type = rw other h.0.type;
    } in
    (held, held_behind u all vs (suc v.name) hi (omega (arith, below, a.0)) a.1 h.1)

pub held_all : (vs : List Variable) (lo hi : ℕ) → Ascends variable_name lo vs hi → HeldEach vs vs
held_all [] lo hi a = tt
held_all (v ∷ vs) lo hi a =
    let same : (v.name == v.name) ≡ true = eq-eqb v.name v.name refl in
    let held : Held (v ∷ vs) v = record { variable = rw same refl; type = rw same refl } in
    (held, held_behind v vs vs (suc v.name) hi (omega arith) a.1 (held_all vs (suc v.name) hi a.1))

pub not_held : (name i : ℕ) (vs : List Variable) (lo hi : ℕ) → name < lo → Ascends variable_name lo vs hi → place_of name i vs ≡ None
not_held name i [] lo hi below a = refl
not_held name i (v ∷ vs) lo hi below a =
    let other : (v.name == name) ≡ false = ne_eqb v.name name (λ e. omega (arith, below, a.0, e)) in
    rw other (not_held name (suc i) vs (suc v.name) hi (omega (arith, below, a.0)) a.1)

-- ---- variables at file scope

abbrev pub shape_name : GlobalShape → ℕ
shape_name g = g.name

-- each is the first of its name
abbrev pub FoundEach : List GlobalShape → List GlobalShape → Type 0
FoundEach all [] = Unit {0}
FoundEach all (g ∷ gs) = (find_shape g.name all ≡ Some g) × FoundEach all gs

pub found_both : (all xs ys : List GlobalShape) → FoundEach all (xs ++ ys) → FoundEach all xs × FoundEach all ys
found_both all [] ys h = (tt, h)
found_both all (x ∷ xs) ys h = let r = found_both all xs ys h.1 in ((h.0, r.0), r.1)

found_behind : (u : GlobalShape) (all gs : List GlobalShape) (lo hi : ℕ) → u.name < lo → Ascends shape_name lo gs hi → FoundEach all gs → FoundEach (u ∷ all) gs
found_behind u all [] lo hi below a h = tt
found_behind u all (g ∷ gs) lo hi below a h =
    let other : (u.name == g.name) ≡ false = ne_eqb u.name g.name (λ e. omega (arith, below, a.0, e)) in
    let found : find_shape g.name (u ∷ all) ≡ Some g = rw other h.0 in
    (found, found_behind u all gs (suc g.name) hi (omega (arith, below, a.0)) a.1 h.1)

pub found_all : (gs : List GlobalShape) (lo hi : ℕ) → Ascends shape_name lo gs hi → FoundEach gs gs
found_all [] lo hi a = tt
found_all (g ∷ gs) lo hi a =
    let same : (g.name == g.name) ≡ true = eq-eqb g.name g.name refl in
    let found : find_shape g.name (g ∷ gs) ≡ Some g = rw same refl in
    (found, found_behind g gs gs (suc g.name) hi (omega arith) a.1 (found_all gs (suc g.name) hi a.1))
