-- Which trees can be lowered: each name stands for what its use needs, void calls stand only where nothing needs their value, and jumps only
-- where they lead somewhere. A checked tree is one of these.
use Rattle.std.specs.Prelude.{ℕ, ◌++◌, ◌^◌, Bool, true, false, not, ◌&&◌, if◌then◌else◌, ◌==◌, nat_lt, List, [], ◌∷◌, map, length, Option, Some, None}
use Rattle.c_syntax.specs.declared.tree.Expr.{Expr, fold-Expr}
use Rattle.c_syntax.specs.declared.tree.Expr.TheOpen.{Expr-F}
use Rattle.c_syntax.specs.declared.tree.Local.{Local}
use Rattle.c_syntax.specs.declared.tree.Stmt.{Stmt, fold-Stmt}
use Rattle.c_syntax.specs.declared.tree.Clause.{Clause, fold-Clause}
use Rattle.c_syntax.specs.declared.tree.Stmt.TheOpen.{Stmt-F, Clause-F}
use Rattle.c_meaning.specs.Operators.{is_unsigned_type}
use Rattle.lower_rules.specs.Bindings.{GlobalShape, Bindings, find_shape, callee_void, callee_takes}

-- ---- names in force

-- the names of a scope, and of the scopes in force, the innermost first
abbrev pub in_scope : ℕ → List ℕ → Bool
in_scope name [] = false
in_scope name (n ∷ ns) = if n == name then true else in_scope name ns

-- each parameter has a name, which isn't one of those before it
abbrev pub are_apart : List ℕ → List (Option ℕ) → Bool
are_apart seen [] = true
are_apart seen (None ∷ names) = false
are_apart seen (Some n ∷ names) = not (in_scope n seen) && are_apart (seen ++ n ∷ []) names

abbrev pub Scopes : Type 0
Scopes = List (List ℕ)

abbrev pub in_scopes : ℕ → Scopes → Bool
in_scopes name [] = false
in_scopes name (scope ∷ scopes) = if in_scope name scope then true else in_scopes name scopes

-- a new name in the innermost scope
abbrev pub with_name : ℕ → Scopes → Scopes
with_name name [] = (name ∷ []) ∷ []
with_name name (scope ∷ scopes) = (name ∷ scope) ∷ scopes

abbrev pub is_word : Option GlobalShape → Bool
is_word None = false
is_word (Some g) = not g.is_array

abbrev pub is_array : Option GlobalShape → Bool
is_array None = false
is_array (Some g) = g.is_array

abbrev pub local_or_shape : Option ℕ → Bool → Bool → Bool
local_or_shape (Some variable) local global = local
local_or_shape None local global = global

-- the name stands for a variable of one word, of the function and in force, or at file scope
abbrev pub is_variable : Bindings → Scopes → ℕ → Bool
is_variable names scopes name = local_or_shape (names.variable name) (in_scopes name scopes) (is_word (find_shape name names.globals))

-- the name stands for an array
abbrev pub is_array_name : Bindings → ℕ → Bool
is_array_name names name = local_or_shape (names.variable name) false (is_array (find_shape name names.globals))

-- ---- expressions

pub record Fit : Type 0 where
  pub fits : Scopes → Bool
  pub is_void : Bool
  pub is_place : Bool

-- it fits, and has a value
abbrev pub has_value : Fit → Scopes → Bool
has_value e scopes = not e.is_void && e.fits scopes

abbrev pub have_values : List Fit → Scopes → Bool
have_values [] scopes = true
have_values (e ∷ es) scopes = has_value e scopes && have_values es scopes

-- a value
abbrev pub fit : (Scopes → Bool) → Fit
fit fits = record { fits = fits; is_void = false; is_place = false }

abbrev pub fit_step : Bindings → Expr-F Fit → Fit
fit_step names (Expr-F.Literal word is_unsigned at) = fit (λ scopes. nat_lt word (2 ^ 32))
fit_step names (Expr-F.Name name at) = record (fit (λ scopes. is_variable names scopes name)) { is_place = true }
fit_step names (Expr-F.Index name index at) = record (fit (λ scopes. is_array_name names name && has_value index scopes)) { is_place = true }
fit_step names (Expr-F.Call name args at) =
    record (fit (λ scopes. callee_takes (names.callee name) (length args) && have_values args scopes)) { is_void = callee_void (names.callee name) }
fit_step names (Expr-F.Unary op operand at) = fit (has_value operand)
fit_step names (Expr-F.Binary op left right at) = fit (λ scopes. has_value left scopes && has_value right scopes)
fit_step names (Expr-F.Logic is_and left right at) = fit (λ scopes. has_value left scopes && has_value right scopes)
fit_step names (Expr-F.Choose test a b at) = fit (λ scopes. has_value test scopes && (has_value a scopes && has_value b scopes))
fit_step names (Expr-F.Assign op place right at) = fit (λ scopes. (place.is_place && place.fits scopes) && has_value right scopes)
fit_step names (Expr-F.Bump up before place at) = fit (λ scopes. place.is_place && place.fits scopes)
fit_step names (Expr-F.Comma left right at) = record (fit (λ scopes. left.fits scopes && right.fits scopes)) { is_void = right.is_void }
fit_step names (Expr-F.Paren inner at) = inner

abbrev pub fitting : Bindings → Expr → Fit
fitting names = fold-Expr Fit (fit_step names)

abbrev pub has_value_if : Bindings → Option Expr → Scopes → Bool
has_value_if names None scopes = true
has_value_if names (Some e) scopes = has_value (fitting names e) scopes

abbrev pub fits_if : Bindings → Option Expr → Scopes → Bool
fits_if names None scopes = true
fits_if names (Some e) scopes = (fitting names e).fits scopes

-- ---- statements

-- what may stand around a statement: a loop or a `switch` for `break`, a loop for `continue`, a function that returns values
pub record Around : Type 0 where
  pub breaks : Bool
  pub continues : Bool
  pub returns : Bool

abbrev pub inside_loop : Around → Around
inside_loop around = record around { breaks = true; continues = true }

pub record FitStmt : Type 0 where
  pub fits : Around → Scopes → Bool
  -- the scopes behind it
  pub after : Scopes → Scopes
  pub is_declaration : Bool

abbrev pub fit_statement : (Around → Scopes → Bool) → FitStmt
fit_statement fits = record { fits = fits; after = λ scopes. scopes; is_declaration = false }

-- it fits where a declaration can't stand
abbrev pub fits_alone : FitStmt → Around → Scopes → Bool
fits_alone c around scopes = not c.is_declaration && c.fits around scopes

abbrev pub fits_alone_if : Option FitStmt → Around → Scopes → Bool
fits_alone_if None around scopes = true
fits_alone_if (Some c) around scopes = fits_alone c around scopes

abbrev pub list_fits : List FitStmt → Around → Scopes → Bool
list_fits [] around scopes = true
list_fits (c ∷ cs) around scopes = c.fits around scopes && list_fits cs around (c.after scopes)

abbrev pub list_after : List FitStmt → Scopes → Scopes
list_after [] scopes = scopes
list_after (c ∷ cs) scopes = list_after cs (c.after scopes)

abbrev pub same_type : Bool → Bool → Bool
same_type true b = b
same_type false b = not b

abbrev pub has_variable : Option ℕ → Bool
has_variable None = false
has_variable (Some v) = true

-- a declarator of a name that isn't in force, which has a variable of its type
abbrev pub fit_local : Bindings → Local → FitStmt
fit_local names d = record {
  fits = λ around scopes. (not (in_scopes d.name scopes) && (has_variable (names.variable d.name)
      && same_type (names.local_unsigned d.name) (is_unsigned_type d.ty)))
      && has_value_if names d.first (with_name d.name scopes);
  after = with_name d.name;
  is_declaration = true;
}

abbrev pub value_where_due : Bindings → Option Expr → Around → Scopes → Bool
value_where_due names None around scopes = not around.returns
value_where_due names (Some e) around scopes = around.returns && has_value (fitting names e) scopes

-- the statements of a clause: no declaration stands among them
pub record FitClause : Type 0 where
  pub fits : Around → Scopes → Bool

abbrev pub each_alone : List FitStmt → Around → Scopes → Bool
each_alone [] around scopes = true
each_alone (c ∷ cs) around scopes = fits_alone c around scopes && each_alone cs around scopes

abbrev pub each_clause : List FitClause → Around → Scopes → Bool
each_clause [] around scopes = true
each_clause (c ∷ cs) around scopes = c.fits around scopes && each_clause cs around scopes

abbrev pub inside_switch : Around → Around
inside_switch around = record around { breaks = true }

abbrev pub fit_clause_step : Clause-F FitStmt FitClause → FitClause
fit_clause_step c = record { fits = each_alone c.body }

abbrev pub fit_statement_step : Bindings → Stmt-F FitStmt FitClause → FitStmt
fit_statement_step names Stmt-F.Empty = fit_statement (λ around scopes. true)
fit_statement_step names (Stmt-F.Value e) = fit_statement (λ around scopes. (fitting names e).fits scopes)
fit_statement_step names (Stmt-F.Declare locals) = record {
  fits = list_fits (map (fit_local names) locals);
  after = list_after (map (fit_local names) locals);
  is_declaration = true;
}
fit_statement_step names (Stmt-F.Block body) = fit_statement (λ around scopes. list_fits body around ([] ∷ scopes))
fit_statement_step names (Stmt-F.If test a b) = fit_statement (λ around scopes. has_value (fitting names test) scopes
    && (fits_alone a around scopes && fits_alone_if b around scopes))
fit_statement_step names (Stmt-F.While test body) = fit_statement (λ around scopes. has_value (fitting names test) scopes
    && fits_alone body (inside_loop around) scopes)
fit_statement_step names (Stmt-F.Do body test) = fit_statement (λ around scopes. has_value (fitting names test) scopes
    && fits_alone body (inside_loop around) scopes)
fit_statement_step names (Stmt-F.For first test next body) = fit_statement (λ around scopes.
    (first.fits (record around { breaks = false; continues = false }) ([] ∷ scopes))
    && (has_value_if names test (first.after ([] ∷ scopes))
    && (fits_if names next (first.after ([] ∷ scopes))
    && fits_alone body (inside_loop around) (first.after ([] ∷ scopes)))))
fit_statement_step names (Stmt-F.Switch test clauses) = fit_statement (λ around scopes. has_value (fitting names test) scopes
    && each_clause clauses (inside_switch around) scopes)
fit_statement_step names (Stmt-F.Break at) = fit_statement (λ around scopes. around.breaks)
fit_statement_step names (Stmt-F.Continue at) = fit_statement (λ around scopes. around.continues)
fit_statement_step names (Stmt-F.Return e at) = fit_statement (value_where_due names e)

abbrev pub fitting_statement : Bindings → Stmt → FitStmt
fitting_statement names = fold-Stmt FitStmt FitClause (fit_statement_step names) fit_clause_step

abbrev pub fitting_clause : Bindings → Clause → FitClause
fitting_clause names = fold-Clause FitStmt FitClause (fit_statement_step names) fit_clause_step
