-- What names are known as is what they stand for.
use Rattle.std.proofs.Common.{◌≡◌, ℕ, suc, ◌+◌, ◌==◌, Bool, true, false, if◌then◌else◌, List, [], ◌∷◌, map, refl, ap, ◌∙◌, arith, Some}
use Rattle.lower_rules.specs.Bindings as law
use Rattle.lower_rules.specs.Bindings.{GlobalShape, find_shape, position, global_symbol, local_or_global, shape_unsigned, type_of}
use Rattle.lower_rules.specs.Programs.{place_of, unsigned_in}
use Rattle.lower_expressions.specs.declared.table.Symbol.TheVariants.{Global, Array}
use Rattle.lower_expressions.specs.declared.table.Known.{Known}
use Rattle.lower_expressions.specs.declared.table.Variable.{Variable}
use Rattle.lower_expressions.specs.declared.table.Shape.{Shape}
use Rattle.lower_expressions.specs.declared.table.Table.{Table}
use Rattle.lower_expressions.specs.Names.{symbol_of, variable_of, shape_of, names_of, AreKnown}
use Rattle.lower_names.specs.Stands.{global_known, among_globals, variable_known, among, KnownInside}

-- ---- each name stands for what it is known as

next_number : (k n : ℕ) → suc k + n ≡ k + suc n
next_number k n = omega arith

plus_none : (k : ℕ) → k ≡ k + 0
plus_none k = omega arith

global_symbols : (name k : ℕ) (gs : List Shape) → symbol_of (among_globals name k gs).symbol ≡ global_symbol (find_shape name (map shape_of gs)) (k + position name (map shape_of gs))
global_symbols name k [] = refl
global_symbols name k (g ∷ gs) = here (g.name == name) (global_symbols name (suc k) gs)
  where
    shapes : List GlobalShape
    shapes = map shape_of gs

    one : (b : Bool) → symbol_of (if b then Array k else Global k) ≡ (if b then law.Array (k + 0) else law.Global (k + 0))
    one true = ap law.Array (plus_none k)
    one false = ap law.Global (plus_none k)

    here : (b : Bool) → symbol_of (among_globals name (suc k) gs).symbol ≡ global_symbol (find_shape name (map shape_of gs)) (suc k + position name (map shape_of gs))
        → symbol_of (if b then global_known k g else among_globals name (suc k) gs).symbol ≡ global_symbol (if b then Some (shape_of g) else find_shape name (map shape_of gs)) (k + (if b then 0 else suc (position name (map shape_of gs))))
    here true ih = one g.is_array
    here false ih = ih ∙ ap (λ n. global_symbol (find_shape name (map shape_of gs)) n) (next_number k (position name (map shape_of gs)))

global_types : (name k : ℕ) (gs : List Shape) → (among_globals name k gs).is_unsigned ≡ shape_unsigned (find_shape name (map shape_of gs))
global_types name k [] = refl
global_types name k (g ∷ gs) = here (g.name == name) (global_types name (suc k) gs)
  where
    here : (b : Bool) → (among_globals name (suc k) gs).is_unsigned ≡ shape_unsigned (find_shape name (map shape_of gs))
        → (if b then global_known k g else among_globals name (suc k) gs).is_unsigned ≡ shape_unsigned (if b then Some (shape_of g) else find_shape name (map shape_of gs))
    here true ih = refl
    here false ih = ih

symbols : (name k : ℕ) (vs : List Variable) (other : Known) → symbol_of (among name k vs other).symbol ≡ local_or_global (place_of name k (map variable_of vs)) (symbol_of other.symbol)
symbols name k [] other = refl
symbols name k (v ∷ vs) other = here (v.name == name) (symbols name (suc k) vs other)
  where
    here : (b : Bool) → symbol_of (among name (suc k) vs other).symbol ≡ local_or_global (place_of name (suc k) (map variable_of vs)) (symbol_of other.symbol)
        → symbol_of (if b then variable_known k v else among name (suc k) vs other).symbol ≡ local_or_global (if b then Some k else place_of name (suc k) (map variable_of vs)) (symbol_of other.symbol)
    here true ih = refl
    here false ih = ih

types : (name k : ℕ) (vs : List Variable) (other : Known) → (among name k vs other).is_unsigned ≡ type_of (place_of name k (map variable_of vs)) (unsigned_in name (map variable_of vs)) other.is_unsigned
types name k [] other = refl
types name k (v ∷ vs) other = here (v.name == name) (types name (suc k) vs other)
  where
    here : (b : Bool) → (among name (suc k) vs other).is_unsigned ≡ type_of (place_of name (suc k) (map variable_of vs)) (unsigned_in name (map variable_of vs)) other.is_unsigned
        → (if b then variable_known k v else among name (suc k) vs other).is_unsigned ≡ type_of (if b then Some k else place_of name (suc k) (map variable_of vs)) (if b then v.is_unsigned else unsigned_in name (map variable_of vs)) other.is_unsigned
    here true ih = refl
    here false ih = ih

pub are_known : (t : Table) → KnownInside t.variables.items t.globals.items t.known.items → AreKnown t
unfolding names_of
are_known t inside = record {
  symbols = λ name.
      ap (λ (k : Known). symbol_of k.symbol) (inside name)
      ∙ symbols name 0 t.variables.items (among_globals name 0 t.globals.items)
      ∙ ap (λ s. local_or_global (place_of name 0 (map variable_of t.variables.items)) s) (global_symbols name 0 t.globals.items ∙ ap (λ n. global_symbol (find_shape name (map shape_of t.globals.items)) n) (zero_plus (position name (map shape_of t.globals.items))));
  types = λ name.
      ap (λ (k : Known). k.is_unsigned) (inside name)
      ∙ types name 0 t.variables.items (among_globals name 0 t.globals.items)
      ∙ ap (λ b. type_of (place_of name 0 (map variable_of t.variables.items)) (unsigned_in name (map variable_of t.variables.items)) b) (global_types name 0 t.globals.items);
}
  where
    zero_plus : (n : ℕ) → 0 + n ≡ n
    zero_plus n = omega arith
