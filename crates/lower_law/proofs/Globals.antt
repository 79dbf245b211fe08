-- Variables at file scope beside the globals of the machine.
use Rattle.std.proofs.Common.{◌≡◌, ℕ, zero, suc, ◌<◌, ◌^◌, Bool, true, false, List, [], ◌∷◌, ◌++◌, map, length, Some, refl, sym, ap, ◌∙◌, if◌then◌else◌, ◌==◌, arith}
use Rattle.std.specs.Prelude.{slice_set, slice_index_or}
use Rattle.std.specs.List.{AllByRecursion}
use Rattle.std.proofs.lemmas.List.{length-set}
use Rattle.c_meaning.specs.Run.{Object, Scalar, Array, Global, find_global, change_global, put_scalar, put_element}
use Rattle.mid_blocks.specs.Run.{global_in}
use Rattle.lower_rules.specs.Bindings.{GlobalShape, find_shape, position}
use Rattle.lower_law.proofs.Machine.{globals_words}
use Rattle.lower_rules.specs.Programs.{object_words, is_array_object, object_unsigned, shape_of}

abbrev pub AreSmall : List ℕ → Type 0
AreSmall words = AllByRecursion (λ w. w < 2 ^ 32) words

abbrev pub AreSmallGlobals : List Global → Type 0
AreSmallGlobals gs = AllByRecursion (λ (g : Global). AreSmall (object_words g.object)) gs

-- ---- what a name at file scope designates

pub record Found (extra : List (List ℕ)) (n : ℕ) (gs : List Global) (g : GlobalShape) : Type 0 where
  pub object : Object
  pub is : find_global n gs ≡ Some object
  pub array_is : g.is_array ≡ is_array_object object
  pub type_is : g.is_unsigned ≡ object_unsigned object
  pub length_is : g.words ≡ length (object_words object)
  pub words_are : global_in (globals_words gs ++ extra) (position n (map shape_of gs)) ≡ object_words object
  pub small : AreSmall (object_words object)

pub found_global : (extra : List (List ℕ)) (n : ℕ) (gs : List Global) (g : GlobalShape) → AreSmallGlobals gs → find_shape n (map shape_of gs) ≡ Some g → Found extra n gs g
found_global extra n [] g small h = cc
found_global extra n (x ∷ gs) g small h = by (found_global extra n gs g small.1) (x.name == n) refl h
  where
    by : (find_shape n (map shape_of gs) ≡ Some g → Found extra n gs g) → (b : Bool) → (x.name == n) ≡ b → (if b then Some (shape_of x) else find_shape n (map shape_of gs)) ≡ Some g → Found extra n (x ∷ gs) g
    by ih true is h' =
        let same : shape_of x ≡ g = cc in
        record {
          object = x.object;
          is = ap (λ (b : Bool). if b then Some x.object else find_global n gs) is;
          array_is = ap (λ (y : GlobalShape). y.is_array) (sym same);
          type_is = ap (λ (y : GlobalShape). y.is_unsigned) (sym same);
          length_is = ap (λ (y : GlobalShape). y.words) (sym same);
          words_are = ap (λ (b : Bool). global_in (object_words x.object ∷ (globals_words gs ++ extra)) (if b then 0 else suc (position n (map shape_of gs)))) is;
          small = small.0;
        }
    by ih false is h' =
        let f = ih h' in
        record {
          object = f.object;
          is = ap (λ (b : Bool). if b then Some x.object else find_global n gs) is ∙ f.is;
          array_is = f.array_is;
          type_is = f.type_is;
          length_is = f.length_is;
          words_are = ap (λ (b : Bool). global_in (object_words x.object ∷ (globals_words gs ++ extra)) (if b then 0 else suc (position n (map shape_of gs)))) is ∙ f.words_are;
          small = f.small;
        }

-- ---- a change of one

-- a change that keeps what kind of object it is
abbrev pub KeepsShape : (Object → Object) → Type 0
KeepsShape f = (n : ℕ) (o : Object) → shape_of (record { name = n; object = f o }) ≡ shape_of (record { name = n; object = o })

pub changed_shapes : (n : ℕ) (f : Object → Object) (gs : List Global) → KeepsShape f → map shape_of (change_global n f gs) ≡ map shape_of gs
changed_shapes n f [] a = refl
changed_shapes n f (x ∷ gs) a = by (changed_shapes n f gs a) (x.name == n)
  where
    by : map shape_of (change_global n f gs) ≡ map shape_of gs → (b : Bool) → map shape_of (if b then record { name = x.name; object = f x.object } ∷ gs else x ∷ change_global n f gs) ≡ shape_of x ∷ map shape_of gs
    by ih true = ap (λ (y : GlobalShape). y ∷ map shape_of gs) (a x.name x.object)
    by ih false = ap (λ ys. shape_of x ∷ ys) ih

pub scalar_keeps : (w : ℕ) → KeepsShape (put_scalar w)
scalar_keeps w n (Scalar v) = refl
scalar_keeps w n (Array u ws) = refl

pub element_keeps : (i w : ℕ) → KeepsShape (put_element i w)
element_keeps i w n (Scalar v) = refl
element_keeps i w n (Array u ws) = ap (λ (m : ℕ). let y : GlobalShape = record { name = n; is_array = true; is_unsigned = u; words = m } in y) (length-set ws i w)

pub changed_words : (extra : List (List ℕ)) (n : ℕ) (f : Object → Object) (o : Object) (gs : List Global) → find_global n gs ≡ Some o → globals_words (change_global n f gs) ++ extra ≡ slice_set (globals_words gs ++ extra) (position n (map shape_of gs)) (object_words (f o))
changed_words extra n f o [] h = cc
changed_words extra n f o (x ∷ gs) h = by (changed_words extra n f o gs) (x.name == n) h
  where
    by : (find_global n gs ≡ Some o → globals_words (change_global n f gs) ++ extra ≡ slice_set (globals_words gs ++ extra) (position n (map shape_of gs)) (object_words (f o))) → (b : Bool) → (if b then Some x.object else find_global n gs) ≡ Some o → globals_words (if b then record { name = x.name; object = f x.object } ∷ gs else x ∷ change_global n f gs) ++ extra ≡ slice_set (object_words x.object ∷ (globals_words gs ++ extra)) (if b then 0 else suc (position n (map shape_of gs))) (object_words (f o))
    by ih true h' = let same : x.object ≡ o = cc in ap (λ y. object_words (f y) ∷ (globals_words gs ++ extra)) same
    by ih false h' = ap (λ ys. object_words x.object ∷ ys) (ih h')

pub changed_small : (n : ℕ) (f : Object → Object) (gs : List Global) → AreSmallGlobals gs → ((o : Object) → AreSmall (object_words o) → AreSmall (object_words (f o))) → AreSmallGlobals (change_global n f gs)
changed_small n f [] small k = tt
changed_small n f (x ∷ gs) small k = by (changed_small n f gs small.1 k) (x.name == n)
  where
    by : AreSmallGlobals (change_global n f gs) → (b : Bool) → AreSmallGlobals (if b then record { name = x.name; object = f x.object } ∷ gs else x ∷ change_global n f gs)
    by ih true = (k x.object small.0, small.1)
    by ih false = (small.0, ih)

-- ---- words of a list

pub small_at : (words : List ℕ) (i : ℕ) → AreSmall words → slice_index_or words i 0 < 2 ^ 32
small_at [] i h = omega arith
small_at (w ∷ words) zero h = h.0
small_at (w ∷ words) (suc i) h = small_at words i h.1

pub small_set : (words : List ℕ) (i w : ℕ) → w < 2 ^ 32 → AreSmall words → AreSmall (slice_set words i w)
small_set [] i w lt h = tt
small_set (x ∷ words) zero w lt h = (lt, h.1)
small_set (x ∷ words) (suc i) w lt h = (h.0, small_set words i w lt h.1)
