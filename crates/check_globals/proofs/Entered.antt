-- A variable at file scope whose declaration comes after its length and its initialisers, which are walked the same before it.
use Rattle.std.proofs.Common.{map, ◌≡◌, ℕ, zero, suc, not, ◌&&◌, nat_le, List, [], ◌∷◌, length, is_some, None, Some, Ok, refl, ap, ◌∙◌}
use Rattle.c_syntax.specs.declared.tree.Expr.{Expr}
use Rattle.c_syntax.specs.declared.tree.Shape.{Shape}
use Rattle.c_syntax.specs.declared.tree.Shape.TheVariants as shape
use Rattle.c_syntax.specs.declared.tree.GlobalVar.{GlobalVar}
use Rattle.c_meaning.specs.Meaning.{constant}
use Rattle.check_rules.specs.declared.decl.Decl.{Decl}
use Rattle.check_rules.specs.declared.error.CheckKind.TheVariants.{BadLength}
use Rattle.check_rules.specs.declared.names.Kind.{Kind}
use Rattle.check_rules.specs.Fault.{Walk, ◌>>=◌, ◌>>◌, require}
use Rattle.check_rules.specs.Scopes.{Walking, lookup, enter_file}
use Rattle.check_rules.specs.Walk.{constant_part, walk_initialisers, walk_shape, elements, most_elements, global_decl, kind_of_shape, new_name, walk_global}
use Rattle.check_scopes.specs.Lookup.{named_in_file, declared}
use Rattle.check_globals.specs.Globals.{is_array_shape, decl_of}

-- initialisers are walked the same where the same names are in force
same_initialisers : (room : ℕ) (es : List Expr) (w w' : Walking) → ((e : Expr) → constant_part e w ≡ constant_part e w') → walk_initialisers room es w ≡ walk_initialisers room es w'
same_initialisers room [] w w' same = refl
same_initialisers zero (e ∷ es) w w' same = refl
same_initialisers (suc room) (e ∷ es) w w' same =
    ap (λ m. m >>= (λ x. walk_initialisers room es w >>= (λ es'. Ok (x ∷ es')))) (same e)
    ∙ ap (λ m. constant_part e w' >>= (λ x. m >>= (λ es'. Ok (x ∷ es')))) (same_initialisers room es w w' same)

pub named_initialisers : (room : ℕ) (es : List Expr) (name : ℕ) (kind : Kind) (d : Decl) (w : Walking) → walk_initialisers room es (enter_file name kind d w) ≡ walk_initialisers room es (named_in_file name kind w)
named_initialisers room es name kind d w = same_initialisers room es (enter_file name kind d w) (named_in_file name kind w) (λ e. refl)

pub named_shape : (s : Shape) (name : ℕ) (kind : Kind) (d : Decl) (w : Walking) → walk_shape s (enter_file name kind d w) ≡ walk_shape s (named_in_file name kind w)
named_shape shape.Scalar name kind d w = refl
named_shape (shape.Array None) name kind d w = refl
named_shape (shape.Array (Some e)) name kind d w = refl

decl_of_global : (g : GlobalVar) → global_decl g ≡ decl_of (is_array_shape g.shape) g.ty g.is_const (elements g.shape g.first) (map constant g.first)
decl_of_global g = elim g.shape as (λ s. global_decl (record g { shape = s }) ≡ decl_of (is_array_shape s) g.ty g.is_const (elements s g.first) (map constant g.first)) [
  | shape.Scalar ↦ refl
  | shape.Array length ↦ refl
]

-- the walk of a variable whose name comes into force first and whose declaration comes last
abbrev pub walk_named : GlobalVar → Walking → Walk (GlobalVar × Walking)
walk_named g w = do
  new_name (not (is_some (lookup g.name w.file))) g.at
  let named = named_in_file g.name (kind_of_shape g.is_const g.shape) w
  shape' ← walk_shape g.shape named
  require (nat_le 1 (elements g.shape g.first) && nat_le (elements g.shape g.first) most_elements) BadLength g.at
  first' ← walk_initialisers (elements g.shape g.first) g.first named
  Ok (record g { name = length w.decls; shape = shape'; first = first' }, declared (decl_of (is_array_shape g.shape) g.ty g.is_const (elements g.shape g.first) (map constant g.first)) named)

pub same_walk : (g : GlobalVar) (w : Walking) → walk_global g w ≡ walk_named g w
same_walk g w = rw (decl_of_global g, named_shape g.shape g.name (kind_of_shape g.is_const g.shape) (decl_of (is_array_shape g.shape) g.ty g.is_const (elements g.shape g.first) (map constant g.first)) w, named_initialisers (elements g.shape g.first) g.first g.name (kind_of_shape g.is_const g.shape) (decl_of (is_array_shape g.shape) g.ty g.is_const (elements g.shape g.first) (map constant g.first)) w) refl
