-- What parts of a function declare and return. It serves private contracts.
use Rattle.std.specs.Prelude.{Bool, List}
use Rattle.c_syntax.specs.declared.tree.Clause.{Clause, fold-Clause}
use Rattle.c_syntax.specs.declared.tree.Param.{Param}
use Rattle.c_meaning.specs.Operators.{is_unsigned_type}
use Rattle.lower_rules.specs.Programs.{Variable, param_variable, declared_step, declared_in_clause, returns_step, returns_in_clause}

-- the variable of a parameter, where it has a name
abbrev pub variable_of_param : Param → List Variable
variable_of_param p = param_variable p.name (is_unsigned_type p.ty)

-- the variables that a clause of a `switch` declares
abbrev pub clause_declares : Clause → List Variable
clause_declares = fold-Clause (List Variable) (List Variable) declared_step declared_in_clause

-- whether some `return` in a clause has a value
abbrev pub clause_returns : Clause → Bool
clause_returns = fold-Clause Bool Bool returns_step returns_in_clause
