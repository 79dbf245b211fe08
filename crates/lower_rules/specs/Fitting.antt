-- What a program must be to be lowered. Each part can be tested; a checked program is such a one.
use Rattle.std.specs.Prelude.{◌≡◌, ℕ, ◌++◌, Bool, true, false, List, [], ◌∷◌, map, length, Some, None}
use Rattle.std.specs.List.{All}
use Rattle.hard_words.specs.Words.{AreWords}
use Rattle.c_syntax.specs.declared.tree.Param.{Param}
use Rattle.c_syntax.specs.declared.tree.Function.{Function}
use Rattle.c_syntax.specs.declared.tree.TopItem.{TopItem}
use Rattle.c_meaning.specs.Run.{Global}
use Rattle.c_syntax.specs.Graph.{body_of, function_named}
use Rattle.c_meaning.specs.Meaning.{Names, globals}
use Rattle.mid_blocks.specs.Lines.{one_or_none}
use Rattle.lower_rules.specs.Scoping.{fitting_statement, list_fits, are_apart}
use Rattle.lower_rules.specs.Programs.{returns_value, some_of, object_words, bindings_of}

-- the names of parameters, the last first, as their entries stand
abbrev pub param_names : List Param → List ℕ
param_names [] = []
param_names (p ∷ ps) = param_names ps ++ one_or_none p.name

-- whether some `return` of a body has a value
abbrev pub has_value_in : Function → Bool
has_value_in f = some_of (map returns_value (body_of f.body))

-- what the variables at file scope begin with are words
abbrev pub AreWordsAll : List Global → Type 0
AreWordsAll gs = All (λ (g : Global). AreWords (object_words g.object)) gs

-- the statements of a body fit, where its parameters are in force
abbrev pub fits_body : Names → List TopItem → Function → Bool
fits_body names items f =
    list_fits (map (fitting_statement (bindings_of names items f)) (body_of f.body))
    (record { breaks = false; continues = false; returns = has_value_in f }) (param_names f.params ∷ [])

-- each parameter of a function has a name, and no two have one
abbrev pub has_own_params : Function → Bool
has_own_params f = are_apart [] (map (λ (p : Param). p.name) f.params)

pub record Fitting (names : Names) (items : List TopItem) : Type 0 where
  -- `main` has a body and no parameters
  pub main : Function
  pub main_is : function_named names.main items ≡ Some main
  pub no_params : length main.params ≡ 0
  -- the names for reading and writing words have no bodies
  pub no_in_word : function_named names.in_word items ≡ None
  pub no_out_word : function_named names.out_word items ≡ None
  pub params_apart : (name : ℕ) (f : Function) → function_named name items ≡ Some f → has_own_params f ≡ true
  pub body_fits : (name : ℕ) (f : Function) → function_named name items ≡ Some f → fits_body names items f ≡ true
  pub small_globals : AreWordsAll (globals items)
