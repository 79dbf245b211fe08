-- What names are called as, function by function in the order of their numbers.
use Rattle.std.specs.Prelude.{◌≡◌, ℕ, suc, ◌+◌, Bool, true, false, not, if◌then◌else◌, ◌==◌, List, [], ◌∷◌, ◌++◌, length, filter, slice_index_or}
use Rattle.c_syntax.specs.declared.tree.Function.{Function}
use Rattle.c_syntax.specs.declared.tree.TopItem.{TopItem}
use Rattle.c_meaning.specs.Operators.{is_unsigned_type}
use Rattle.c_meaning.specs.Meaning as meaning
use Rattle.lower_rules.specs.Bindings as law
use Rattle.lower_rules.specs.Bindings.{is_void_type}
use Rattle.c_syntax.specs.Graph.{with_bodies}
use Rattle.lower_rules.specs.Programs.{number_of}
use Rattle.lower_expressions.specs.declared.table.Callee.{Callee}
use Rattle.lower_expressions.specs.declared.table.Callee.TheVariants.{InWord, OutWord, Defined, NoFunction}
use Rattle.lower_expressions.specs.Names.{callee_of}
use Rattle.lower_names.specs.declared.calls.Names.{Names}

abbrev pub picks : Bool → Bool → Bool
picks true is_main = is_main
picks false is_main = not is_main

-- the functions with bodies that are `main`, or that aren't
abbrev pub chosen : Bool → ℕ → List TopItem → List Function
chosen of_main main items = filter (λ f. picks of_main (f.name == main)) (with_bodies items)

abbrev pub defined_as : ℕ → Function → Callee
defined_as number f = Defined number (length f.params) (is_void_type f.ty) (is_unsigned_type f.ty)

-- a name among functions that are numbered from k on
abbrev pub called_in : ℕ → ℕ → List Function → Callee
called_in name k [] = NoFunction
called_in name k (f ∷ fs) = if f.name == name then defined_as k f else called_in name (suc k) fs

-- the second where there is no first
abbrev pub or_called : Callee → Callee → Callee
or_called NoFunction c = c
or_called InWord c = InWord
or_called OutWord c = OutWord
or_called (Defined number arity is_void is_unsigned) c = Defined number arity is_void is_unsigned

-- what a list of callees has of a name
abbrev pub callee_in : List Callee → ℕ → Callee
callee_in callees name = slice_index_or callees name NoFunction

-- functions are noted with numbers from k on, where others may follow
abbrev pub NotesFrom : ℕ → List Function → List Callee → List Callee → Type 0
NotesFrom k fs before after =
    (name : ℕ) (rest : List Function) → or_called (callee_in after name) (called_in name (k + length fs) rest) ≡
    or_called (callee_in before name) (called_in name k (fs ++ rest))

-- the names as the meaning of the language has them
abbrev pub meant : Names → meaning.Names
meant names = record { main = names.main; in_word = names.in_word; out_word = names.out_word }

-- each name is called as the law of lowering has it
abbrev pub AreCallees : meaning.Names → List TopItem → List Callee → Type 0
AreCallees names items callees = (name : ℕ) → callee_of (callee_in callees name) ≡ law.callee_of names items (number_of names items) name
