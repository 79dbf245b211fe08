-- The scopes of the walk in the body of a function, and the names in force in them where the body is lowered.
use Rattle.std.proofs.Common.{◌≡◌, ℕ, ◌+◌, ◌<◌, ◌≤◌, Bool, true, false, List, [], ◌∷◌, ◌++◌, map, length, Option, Some, None, refl, sym, ap, ◌∙◌, subst, ◌==◌, if◌then◌else◌, arith, length-append}
use Rattle.std.proofs.lemmas.Bool.{eqb-true, ne_eqb}
use Rattle.c_meaning.specs.Run.{without_first}
use Rattle.check_rules.specs.declared.decl.Decl.{Decl}
use Rattle.check_rules.specs.declared.names.Kind.{Kind}
use Rattle.check_rules.specs.declared.names.Kind.TheVariants.{Scalar, Array, Function as FunctionKind}
use Rattle.check_rules.specs.declared.names.Known.{Known}
use Rattle.check_rules.specs.declared.names.Binding.{Binding}
use Rattle.check_rules.specs.Scopes.{Scope, lookup, innermost_known, Walking, in_force, binding, enter_block, entered, opened, closed}
use Rattle.check_rules.specs.Walk.{is_scalar, is_array as is_array_kind, is_function, takes_kind, returns_void_kind}
use Rattle.check_law.proofs.Positions.{some_known}
use Rattle.lower_rules.specs.Bindings.{GlobalShape, Bindings, Callee, find_shape, callee_void, callee_takes}
use Rattle.lower_rules.specs.Scoping.{Scopes, in_scope, in_scopes, with_name, is_word, is_array, local_or_shape, is_variable, is_array_name, has_variable}
use Rattle.lower_rules.specs.Programs.{Variable, place_of, unsigned_in}
use Rattle.lower_checked.proofs.FitExpressions.{Meant}

-- what the names of a function stand for
abbrev pub bindings : List Variable → List GlobalShape → (ℕ → Callee) → Bindings
bindings variables shapes callee = record {
  variable = λ name. place_of name 0 variables;
  local_unsigned = λ name. unsigned_in name variables;
  globals = shapes;
  callee = callee;
}

-- the names of scopes
abbrev pub names_in : Scope → List ℕ
names_in = map (λ (b : Binding). b.name)

abbrev pub scopes_of : List Scope → Scopes
scopes_of = map names_in

-- what a name at file scope stands for in lowering is what its declaration says, and it is no variable of the function
pub record MeantFile (variables : List Variable) (shapes : List GlobalShape) (callee : ℕ → Callee) (known : ℕ → Bool) (file : Scope) : Type 0 where
  pub apart : (n : ℕ) (d : Known) → lookup n file ≡ Some d → place_of n 0 variables ≡ None
  pub scalar : (n : ℕ) (d : Known) → lookup n file ≡ Some d → is_scalar d.kind ≡ true → is_word (find_shape n shapes) ≡ true
  pub array : (n : ℕ) (d : Known) → lookup n file ≡ Some d → is_array_kind d.kind ≡ true → is_array (find_shape n shapes) ≡ true
  pub void : (n : ℕ) (d : Known) → lookup n file ≡ Some d → is_function d.kind ≡ true → known n ≡ true → callee_void (callee n) ≡ returns_void_kind d.kind
  pub takes : (n : ℕ) (d : Known) (count : ℕ) → lookup n file ≡ Some d → known n ≡ true → takes_kind count d.kind ≡ true → callee_takes (callee n) count ≡ true

by_variable : (o : Option ℕ) (local global : Bool) → has_variable o ≡ true → local_or_shape o local global ≡ local
by_variable None local global is = absurd cc
by_variable (Some v) local global is = refl

or_further : (a b : Bool) → b ≡ true → (if a then true else b) ≡ true
or_further true b is = refl
or_further false b is = is

module _ (variables : List Variable) where
  -- a name of a block: of a variable of the function, and below a number
  pub record IsEntered (hi : ℕ) (b : Binding) : Type 0 where
    pub below : b.name < hi
    pub scalar : is_scalar b.known.kind ≡ true
    pub variable : has_variable (place_of b.name 0 variables) ≡ true

  abbrev pub InScope : ℕ → Scope → Type 0
  InScope hi [] = Unit {0}
  InScope hi (b ∷ bs) = IsEntered hi b × InScope hi bs

  abbrev pub InScopes : ℕ → List Scope → Type 0
  InScopes hi [] = Unit {0}
  InScopes hi (s ∷ ss) = InScope hi s × InScopes hi ss

  -- a name that designates a variable of a block
  pub record IsLocal (n : ℕ) (d : Known) : Type 0 where
    pub scalar : is_scalar d.kind ≡ true
    pub variable : has_variable (place_of n 0 variables) ≡ true

  found_scope : (hi n : ℕ) (d : Known) (s : Scope) → InScope hi s → lookup n s ≡ Some d → IsLocal n d × (in_scope n (names_in s) ≡ true)
  found_scope hi n d [] i is = absurd cc
  found_scope hi n d (b ∷ bs) i is = at (b.name == n) refl (λ h. found_scope hi n d bs i.1 h)
    where
      at : (t : Bool) → (b.name == n) ≡ t → (lookup n bs ≡ Some d → IsLocal n d × (in_scope n (names_in bs) ≡ true)) → IsLocal n d × (in_scope n (names_in (b ∷ bs)) ≡ true)
      at true same go =
          let h = rw same at is in
          let k : b.known ≡ d = some_known b.known d h in
          let l : IsLocal n d = record { scalar = subst (λ x. is_scalar x.kind ≡ true) k i.0.scalar; variable = subst (λ x. has_variable (place_of x 0 variables) ≡ true) (eqb-true b.name n same) i.0.variable } in
          (l, rw same refl)
      at false other go =
          let h = rw other at is in
          let r = go h in
          (r.0, rw other r.1)

  pub found_scopes : (hi n : ℕ) (d : Known) (L : List Scope) → InScopes hi L → innermost_known n L ≡ Some d → IsLocal n d × (in_scopes n (scopes_of L) ≡ true)
  found_scopes hi n d [] i is = absurd cc
  found_scopes hi n d (s ∷ ss) i is = at (lookup n s) refl (λ h. found_scopes hi n d ss i.1 h)
    where
      at : (o : Option Known) → lookup n s ≡ o → (innermost_known n ss ≡ Some d → IsLocal n d × (in_scopes n (scopes_of ss) ≡ true)) → IsLocal n d × (in_scopes n (scopes_of (s ∷ ss)) ≡ true)
      at (Some k) found go =
          let h = rw found at is in
          let r = found_scope hi n d s i.0 (found ∙ h) in
          let t = r.1 in
          (r.0, rw t refl)
      at None none go =
          let h = rw none at is in
          let r = go h in
          (r.0, or_further (in_scope n (names_in s)) (in_scopes n (scopes_of ss)) r.1)

  new_scope : (hi n : ℕ) (s : Scope) → hi ≤ n → InScope hi s → in_scope n (names_in s) ≡ false
  new_scope hi n [] le i = refl
  new_scope hi n (b ∷ bs) le i =
      let other : (b.name == n) ≡ false = ne_eqb b.name n (λ e. omega (arith, le, i.0.below, e)) in
      rw other (new_scope hi n bs le i.1)

  pub new_scopes : (hi n : ℕ) (L : List Scope) → hi ≤ n → InScopes hi L → in_scopes n (scopes_of L) ≡ false
  new_scopes hi n [] le i = refl
  new_scopes hi n (s ∷ ss) le i = let t = new_scope hi n s le i.0 in rw t (new_scopes hi n ss le i.1)

  more_scope : (hi hi' : ℕ) (s : Scope) → hi ≤ hi' → InScope hi s → InScope hi' s
  more_scope hi hi' [] le i = tt
  more_scope hi hi' (b ∷ bs) le i = (record { below = omega (arith, le, i.0.below); scalar = i.0.scalar; variable = i.0.variable }, more_scope hi hi' bs le i.1)

  more_scopes : (hi hi' : ℕ) (L : List Scope) → hi ≤ hi' → InScopes hi L → InScopes hi' L
  more_scopes hi hi' [] le i = tt
  more_scopes hi hi' (s ∷ ss) le i = (more_scope hi hi' s le i.0, more_scopes hi hi' ss le i.1)

  entered_scopes : (hi : ℕ) (b : Binding) (L : List Scope) → IsEntered hi b → InScopes hi L → InScopes hi (entered b L)
  entered_scopes hi b [] e i = ((e, tt), tt)
  entered_scopes hi b (s ∷ ss) e i = ((e, i.0), i.1)

  closed_scopes : (hi : ℕ) (L : List Scope) → InScopes hi L → InScopes hi (without_first L)
  closed_scopes hi [] i = tt
  closed_scopes hi (s ∷ ss) i = i.1

  -- the walk is inside of the function
  pub record Inside (file : Scope) (w : Walking) : Type 0 where
    pub same_file : w.file ≡ file
    pub blocks : InScopes (length w.decls) w.blocks

  pub inside_opened : (file : Scope) (w : Walking) → Inside file w → Inside file (opened w)
  inside_opened file w i = record { same_file = i.same_file; blocks = (tt, i.blocks) }

  pub inside_closed : (file : Scope) (w : Walking) → Inside file w → Inside file (closed w)
  inside_closed file w i = record { same_file = i.same_file; blocks = closed_scopes (length w.decls) w.blocks i.blocks }

  pub one_more : (ds : List Decl) (d : Decl) → length (ds ++ d ∷ []) ≡ length ds + 1
  one_more ds d = length-append ds (d ∷ [])

  pub inside_entered : (file : Scope) (n : ℕ) (is_const : Bool) (decl : Decl) (w : Walking) → n ≡ length w.decls → has_variable (place_of n 0 variables) ≡ true → Inside file w → Inside file (enter_block n (Scalar is_const) decl w)
  inside_entered file n is_const decl w is v i =
      let e = one_more w.decls decl in
      record {
        same_file = i.same_file;
        blocks = entered_scopes (length (w.decls ++ decl ∷ [])) (binding n (Scalar is_const) w) w.blocks (record { below = omega (arith, e, is); scalar = refl; variable = v })
            (more_scopes (length w.decls) (length (w.decls ++ decl ∷ [])) w.blocks (omega (arith, e)) i.blocks);
      }

pub scopes_entered : (b : Binding) (L : List Scope) → scopes_of (entered b L) ≡ with_name b.name (scopes_of L)
scopes_entered b [] = refl
scopes_entered b (s ∷ ss) = refl

pub tail_entered : (b : Binding) (L : List Scope) → without_first (entered b L) ≡ without_first L
tail_entered b [] = refl
tail_entered b (s ∷ ss) = refl

-- ---- names in force

scalar_no_array : (k : Kind) → is_scalar k ≡ true → is_array_kind k ≡ true → ⊥
scalar_no_array (Scalar is_const) p q = cc
scalar_no_array (Array is_const) p q = cc
scalar_no_array (FunctionKind ty params) p q = cc

scalar_no_function : (k : Kind) → is_scalar k ≡ true → is_function k ≡ true → ⊥
scalar_no_function (Scalar is_const) p q = cc
scalar_no_function (Array is_const) p q = cc
scalar_no_function (FunctionKind ty params) p q = cc

scalar_takes_none : (count : ℕ) (k : Kind) → is_scalar k ≡ true → takes_kind count k ≡ true → ⊥
scalar_takes_none count (Scalar is_const) p q = cc
scalar_takes_none count (Array is_const) p q = cc
scalar_takes_none count (FunctionKind ty params) p q = cc

module _ (variables : List Variable) (shapes : List GlobalShape) (callee : ℕ → Callee) (known : ℕ → Bool) (file : Scope) (meant : MeantFile variables shapes callee known file) where
  -- a name in force is one of a block, or of the file
  data Whence (w : Walking) (n : ℕ) (d : Known) : Type 0 where
    of_block : IsLocal variables n d → in_scopes n (scopes_of w.blocks) ≡ true → Whence w n d
    of_file : lookup n file ≡ Some d → Whence w n d

  whence : (w : Walking) → Inside variables file w → (n : ℕ) (d : Known) → in_force w n ≡ Some d → Whence w n d
  whence w i n d is = at (innermost_known n w.blocks) refl
    where
      at : (o : Option Known) → innermost_known n w.blocks ≡ o → Whence w n d
      at (Some k) found = let h = rw found at is in let r = found_scopes variables (length w.decls) n d w.blocks i.blocks (found ∙ h) in of_block r.0 r.1
      at None none = let h = rw none at is in of_file (ap (lookup n) (sym i.same_file) ∙ h)

  scalar_meant : (w : Walking) (n : ℕ) (d : Known) → Whence w n d → is_scalar d.kind ≡ true → is_variable (bindings variables shapes callee) (scopes_of w.blocks) n ≡ true
  scalar_meant w n d (of_block l t) such = by_variable (place_of n 0 variables) (in_scopes n (scopes_of w.blocks)) (is_word (find_shape n shapes)) l.variable ∙ t
  scalar_meant w n d (of_file is) such = let v = meant.apart n d is in rw v (meant.scalar n d is such)

  array_meant : (w : Walking) (n : ℕ) (d : Known) → Whence w n d → is_array_kind d.kind ≡ true → is_array_name (bindings variables shapes callee) n ≡ true
  array_meant w n d (of_block l t) such = absurd (scalar_no_array d.kind l.scalar such)
  array_meant w n d (of_file is) such = let v = meant.apart n d is in rw v (meant.array n d is such)

  void_meant : (w : Walking) (n : ℕ) (d : Known) → Whence w n d → is_function d.kind ≡ true → known n ≡ true → callee_void (callee n) ≡ returns_void_kind d.kind
  void_meant w n d (of_block l t) such k = absurd (scalar_no_function d.kind l.scalar such)
  void_meant w n d (of_file is) such k = meant.void n d is such k

  takes_meant : (w : Walking) (n : ℕ) (d : Known) (count : ℕ) → Whence w n d → known n ≡ true → takes_kind count d.kind ≡ true → callee_takes (callee n) count ≡ true
  takes_meant w n d count (of_block l t) k such = absurd (scalar_takes_none count d.kind l.scalar such)
  takes_meant w n d count (of_file is) k such = meant.takes n d count is k such

  pub meant_inside : (w : Walking) → Inside variables file w → Meant (bindings variables shapes callee) known (in_force w) (scopes_of w.blocks)
  meant_inside w i = record {
    scalar = λ n d is such. scalar_meant w n d (whence w i n d is) such;
    array = λ n d is such. array_meant w n d (whence w i n d is) such;
    void = λ n d is such k. void_meant w n d (whence w i n d is) such k;
    takes = λ n d count is k such. takes_meant w n d count (whence w i n d is) k such;
  }
