-- What the names in a function's body stand for where it is lowered.
use Rattle.std.specs.Prelude.{ℕ, suc, Bool, false, if◌then◌else◌, ◌==◌, List, [], ◌∷◌, length, Option, Some, None}
use Rattle.c_syntax.specs.declared.tree.Ty.{Ty}
use Rattle.c_syntax.specs.declared.tree.Ty.TheVariants.{Int, Unsigned, Void}
use Rattle.c_syntax.specs.declared.tree.Function.{Function}
use Rattle.c_syntax.specs.declared.tree.TopItem.{TopItem}
use Rattle.c_meaning.specs.Operators.{is_unsigned_type}
use Rattle.c_syntax.specs.Graph.{function_named}
use Rattle.c_meaning.specs.Meaning.{Names}

-- a variable at file scope: its name, whether it is an array, whether the variable, or the array's elements, are unsigned, and how many words
-- it has
pub record GlobalShape : Type 0 where
  pub name : ℕ
  pub is_array : Bool
  pub is_unsigned : Bool
  pub words : ℕ

-- what a call can name
pub data Callee : Type 0 where
  InWord : Callee
  OutWord : Callee
  -- a function with a body: its number, how many parameters it has, whether it is void, and whether it returns unsigned
  Defined : ℕ → ℕ → Bool → Bool → Callee
  -- no function with a body
  NoFunction : Callee

pub record Bindings : Type 0 where
  -- the variable of each parameter and of each variable of a block, and whether it is unsigned
  pub variable : ℕ → Option ℕ
  pub local_unsigned : ℕ → Bool
  -- the variables at file scope, which are the globals in this order
  pub globals : List GlobalShape
  pub callee : ℕ → Callee

-- what a name stands for: a variable of the function, a global of one word, an array, or nothing
pub data Symbol : Type 0 where
  Local : ℕ → Symbol
  Global : ℕ → Symbol
  Array : ℕ → Symbol
  Nothing : Symbol

abbrev pub find_shape : ℕ → List GlobalShape → Option GlobalShape
find_shape name [] = None
find_shape name (g ∷ gs) = if g.name == name then Some g else find_shape name gs

-- the number of a global: how many stand before it
abbrev pub position : ℕ → List GlobalShape → ℕ
position name [] = 0
position name (g ∷ gs) = if g.name == name then 0 else suc (position name gs)

abbrev pub global_symbol : Option GlobalShape → ℕ → Symbol
global_symbol None number = Nothing
global_symbol (Some g) number = if g.is_array then Array number else Global number

abbrev pub local_or_global : Option ℕ → Symbol → Symbol
local_or_global (Some variable) symbol = Local variable
local_or_global None symbol = symbol

abbrev pub symbol : Bindings → ℕ → Symbol
symbol names name = local_or_global (names.variable name) (global_symbol (find_shape name names.globals) (position name names.globals))

abbrev pub shape_unsigned : Option GlobalShape → Bool
shape_unsigned None = false
shape_unsigned (Some g) = g.is_unsigned

abbrev pub type_of : Option ℕ → Bool → Bool → Bool
type_of (Some variable) local global = local
type_of None local global = global

-- whether the variable, or the array's elements, are unsigned
abbrev pub name_unsigned : Bindings → ℕ → Bool
name_unsigned names name = type_of (names.variable name) (names.local_unsigned name) (shape_unsigned (find_shape name names.globals))

abbrev pub callee_void : Callee → Bool
callee_void InWord = false
callee_void OutWord = Bool.true
callee_void (Defined number arity is_void is_unsigned) = is_void
callee_void NoFunction = false

abbrev pub callee_unsigned : Callee → Bool
callee_unsigned InWord = false
callee_unsigned OutWord = false
callee_unsigned (Defined number arity is_void is_unsigned) = is_unsigned
callee_unsigned NoFunction = false

-- whether it can be called with so many arguments
abbrev pub callee_takes : Callee → ℕ → Bool
callee_takes InWord count = count == 0
callee_takes OutWord count = count == 1
callee_takes (Defined number arity is_void is_unsigned) count = count == arity
callee_takes NoFunction count = false

-- ---- the functions of a program

abbrev pub is_void_type : Ty → Bool
is_void_type Void = Bool.true
is_void_type Int = false
is_void_type Unsigned = false

abbrev pub defined_callee : ℕ → Option Function → Callee
defined_callee number None = NoFunction
defined_callee number (Some f) = Defined number (length f.params) (is_void_type f.ty) (is_unsigned_type f.ty)

-- what a name is called as, where its function, if it has one, has that number
abbrev pub callee_of : Names → List TopItem → (ℕ → ℕ) → ℕ → Callee
callee_of names items number name =
    if name == names.in_word then InWord
    else (if name == names.out_word then OutWord
    else defined_callee (number name) (function_named name items))
