-- The walk of a program: its items in order, in each of them what stands first in the text first. It gives each name the position of its
-- declaration, up to the first fault that it meets (the constraints of ISO/IEC 9899:1999, 6.5 to 6.9; the limits are the project's own).
use Rattle.std.specs.Prelude.{ℕ, zero, suc, Bool, true, false, not, ◌&&◌, ◌||◌, if◌then◌else◌, ◌==◌, nat_le, List, [], ◌∷◌, ◌++◌, map, length, Option, Some}
use Rattle.std.specs.Prelude.{None, is_some, Ok}
use Rattle.c_syntax.specs.declared.tree.Ty.{Ty}
use Rattle.c_syntax.specs.declared.tree.Ty.TheVariants.{Int, Unsigned, Void}
use Rattle.c_syntax.specs.declared.tree.Expr.{Expr, Literal, Name, Index, Call, Unary, Binary, Logic, Choose, Assign, Bump, Comma, Paren, fold-Expr}
use Rattle.c_syntax.specs.declared.tree.Expr.TheOpen.{Expr-F}
use Rattle.c_syntax.specs.declared.tree.Local.{Local}
use Rattle.c_syntax.specs.declared.tree.Stmt.{Stmt, fold-Stmt}
use Rattle.c_syntax.specs.declared.tree.Stmt as stmt
use Rattle.c_syntax.specs.declared.tree.Stmt.TheOpen.{Stmt-F, Clause-F}
use Rattle.c_syntax.specs.declared.tree.Label.{Label}
use Rattle.c_syntax.specs.declared.tree.Label.TheVariants as label
use Rattle.c_syntax.specs.declared.tree.Clause.{Clause, fold-Clause}
use Rattle.c_syntax.specs.declared.tree.Shape.{Shape}
use Rattle.c_syntax.specs.declared.tree.Shape.TheVariants as shape
use Rattle.c_syntax.specs.declared.tree.GlobalVar.{GlobalVar}
use Rattle.c_syntax.specs.declared.tree.Param.{Param}
use Rattle.c_syntax.specs.declared.tree.Function.{Function}
use Rattle.c_syntax.specs.declared.tree.TopItem.{TopItem}
use Rattle.c_syntax.specs.declared.tree.TopItem.TheVariants as item
use Rattle.c_syntax.specs.declared.tree.Program.{Program}
use Rattle.c_meaning.specs.Run.{Outcome, Gives, Ends}
use Rattle.c_syntax.specs.Graph.{has_body, function_named}
use Rattle.c_meaning.specs.Meaning.{expression, no_calls, constant, padded, first_or_zero, Names}
use Rattle.check_rules.specs.declared.error.CheckKind.{CheckKind}
use Rattle.check_rules.specs.declared.error.CheckKind.TheVariants.{NameTwice, PrototypeDiffers, BadLength, NotConstant, TooManyInitialisers, NameUnknown}
use Rattle.check_rules.specs.declared.error.CheckKind.TheVariants.{NotAFunction, NotAnArray, NotScalar, ArgCount, VoidUsed, NotAssignable, BadReturn}
use Rattle.check_rules.specs.declared.error.CheckKind.TheVariants.{BreakOutside, CaseTwice}
use Rattle.check_rules.specs.declared.decl.Decl.{Decl}
use Rattle.check_rules.specs.declared.decl.Decl.TheVariants as decl
use Rattle.std.specs.List.{list_any}
pub use Rattle.check_rules.specs.declared.names.Around.{Around}
use Rattle.check_rules.specs.Fault.{Walk, ◌>>=◌, ◌>>◌, fault, require, refuse}
use Rattle.check_rules.specs.Scopes.{Kind, Scalar, Array, Function as FunctionKind, Known, lookup, Walking, InForce, in_force, enter_file, enter_block, is_new}
use Rattle.check_rules.specs.Scopes.{opened, closed, begun, ended, with_body_of}

-- ---- names

abbrev pub is_scalar : Kind → Bool
is_scalar (Scalar is_const) = true
is_scalar (Array is_const) = false
is_scalar (FunctionKind ty params) = false

abbrev pub is_array : Kind → Bool
is_array (Scalar is_const) = false
is_array (Array is_const) = true
is_array (FunctionKind ty params) = false

abbrev pub is_function : Kind → Bool
is_function (Scalar is_const) = false
is_function (Array is_const) = false
is_function (FunctionKind ty params) = true

-- 6.5.1: the position of a name in force that designates such a thing
abbrev pub used : (Kind → Bool) → CheckKind → ℕ → Option Known → Walk ℕ
used is_such otherwise at None = fault NameUnknown at
used is_such otherwise at (Some d) = require (is_such d.kind) otherwise at >> Ok d.position

-- 6.3.2.1: what a name in force designates can be stored into, unless it is const
abbrev pub is_modifiable_kind : Kind → Bool
is_modifiable_kind (Scalar is_const) = not is_const
is_modifiable_kind (Array is_const) = not is_const
is_modifiable_kind (FunctionKind ty params) = false

abbrev pub is_modifiable_name : Option Known → Bool
is_modifiable_name None = false
is_modifiable_name (Some d) = is_modifiable_kind d.kind

abbrev pub is_void : Ty → Bool
is_void Int = false
is_void Unsigned = false
is_void Void = true

abbrev pub returns_void_kind : Kind → Bool
returns_void_kind (Scalar is_const) = false
returns_void_kind (Array is_const) = false
returns_void_kind (FunctionKind ty params) = is_void ty

abbrev pub returns_void : Option Known → Bool
returns_void None = false
returns_void (Some d) = returns_void_kind d.kind

abbrev pub takes_kind : ℕ → Kind → Bool
takes_kind count (Scalar is_const) = false
takes_kind count (Array is_const) = false
takes_kind count (FunctionKind ty params) = count == length params

-- whether a function in force takes so many arguments
abbrev pub takes : ℕ → Option Known → Bool
takes count None = false
takes count (Some d) = takes_kind count d.kind

-- ---- expressions (6.5)

pub record Walked : Type 0 where
  -- the expression with positions for names, or the first fault in it
  pub walk : InForce → Walk Expr
  -- where it has no value (6.3.2.2): the place of the call of a void function for which it stands
  pub void_call : InForce → Option ℕ
  -- whether it is a place that can be stored into: a name or an indexed name that isn't const, parentheses aside
  pub is_modifiable : InForce → Bool

-- an expression that must have a value
abbrev pub valued : Walked → InForce → Walk Expr
valued e names = do
  e' ← e.walk names
  refuse (e.void_call names) VoidUsed
  Ok e'

-- 6.5.16: the place of an assignment, whose operator stands at this byte
abbrev pub assignable : Walked → ℕ → InForce → Walk Expr
assignable place at names = do
  place' ← valued place names
  require (place.is_modifiable names) NotAssignable at
  Ok place'

-- from left to right
abbrev pub valued_each : List Walked → InForce → Walk (List Expr)
valued_each [] names = Ok []
valued_each (e ∷ es) names = do
  e' ← valued e names
  es' ← valued_each es names
  Ok (e' ∷ es')

-- an expression that has a value and is no place
abbrev pub operation : (InForce → Walk Expr) → Walked
operation walk = record { walk = walk; void_call = λ names. None; is_modifiable = λ names. false }

-- one level of an expression, with what the walk finds of each operand in its place
abbrev pub walk_step : Expr-F Walked → Walked
walk_step (Expr-F.Literal word is_unsigned at) = operation (λ names. Ok (Literal word is_unsigned at))
walk_step (Expr-F.Name name at) = record {
  walk = λ names. do
    position ← used is_scalar NotScalar at (names name)
    Ok (Name position at);
  void_call = λ names. None;
  is_modifiable = λ names. is_modifiable_name (names name);
}
walk_step (Expr-F.Index name index at) = record {
  walk = λ names. do
    position ← used is_array NotAnArray at (names name)
    index' ← valued index names
    Ok (Index position index' at);
  void_call = λ names. None;
  is_modifiable = λ names. is_modifiable_name (names name);
}
walk_step (Expr-F.Call name args at) = record {
  walk = λ names. do
    position ← used is_function NotAFunction at (names name)
    args' ← valued_each args names
    require (takes (length args) (names name)) ArgCount at
    Ok (Call position args' at);
  void_call = λ names. if returns_void (names name) then Some at else None;
  is_modifiable = λ names. false;
}
walk_step (Expr-F.Unary op operand at) = operation (λ names. do
  operand' ← valued operand names
  Ok (Unary op operand' at))
walk_step (Expr-F.Binary op left right at) = operation (λ names. do
  left' ← valued left names
  right' ← valued right names
  Ok (Binary op left' right' at))
walk_step (Expr-F.Logic is_and left right at) = operation (λ names. do
  left' ← valued left names
  right' ← valued right names
  Ok (Logic is_and left' right' at))
walk_step (Expr-F.Choose test a b at) = operation (λ names. do
  test' ← valued test names
  a' ← valued a names
  b' ← valued b names
  Ok (Choose test' a' b' at))
walk_step (Expr-F.Assign op place right at) = operation (λ names. do
  place' ← assignable place at names
  right' ← valued right names
  Ok (Assign op place' right' at))
walk_step (Expr-F.Bump up before place at) = operation (λ names. do
  place' ← assignable place at names
  Ok (Bump up before place' at))
-- 6.5.17: the left operand may be a void call, and where the right one is, the whole has no value
walk_step (Expr-F.Comma left right at) = record {
  walk = λ names. do
    left' ← left.walk names
    right' ← right.walk names
    Ok (Comma left' right' at);
  void_call = right.void_call;
  is_modifiable = λ names. false;
}
walk_step (Expr-F.Paren inner at) = record {
  walk = λ names. do
    inner' ← inner.walk names
    Ok (Paren inner' at);
  void_call = inner.void_call;
  is_modifiable = inner.is_modifiable;
}

abbrev pub walked : Expr → Walked
walked = fold-Expr Walked walk_step

-- an expression that must have a value, in these scopes
abbrev pub with_value : Expr → Walking → Walk Expr
with_value e w = valued (walked e) (in_force w)

-- an expression that may be a void call, in these scopes
abbrev pub any_expression : Expr → Walking → Walk Expr
any_expression e w = (walked e).walk (in_force w)

-- an expression that may be left out
abbrev pub if_there : (Expr → Walking → Walk Expr) → Option Expr → Walking → Walk (Option Expr)
if_there walk None w = Ok None
if_there walk (Some e) w = do
  e' ← walk e w
  Ok (Some e')

-- ---- constant expressions (6.6)

-- the byte at which an expression is shown
abbrev pub place_step : Expr-F ℕ → ℕ
place_step (Expr-F.Literal word is_unsigned at) = at
place_step (Expr-F.Name name at) = at
place_step (Expr-F.Index name index at) = at
place_step (Expr-F.Call name args at) = at
place_step (Expr-F.Unary op operand at) = at
place_step (Expr-F.Binary op left right at) = at
place_step (Expr-F.Logic is_and left right at) = at
place_step (Expr-F.Choose test a b at) = at
place_step (Expr-F.Assign op place right at) = at
place_step (Expr-F.Bump up before place at) = at
place_step (Expr-F.Comma left right at) = at
place_step (Expr-F.Paren inner at) = at

abbrev pub place_of : Expr → ℕ
place_of = fold-Expr ℕ place_step

-- whether an expression has neither a name, nor a call, nor an assignment in it, evaluated or not
abbrev pub is_free_step : Expr-F Bool → Bool
is_free_step (Expr-F.Literal word is_unsigned at) = true
is_free_step (Expr-F.Name name at) = false
is_free_step (Expr-F.Index name index at) = false
is_free_step (Expr-F.Call name args at) = false
is_free_step (Expr-F.Unary op operand at) = operand
is_free_step (Expr-F.Binary op left right at) = left && right
is_free_step (Expr-F.Logic is_and left right at) = left && right
is_free_step (Expr-F.Choose test a b at) = test && (a && b)
is_free_step (Expr-F.Assign op place right at) = false
is_free_step (Expr-F.Bump up before place at) = false
is_free_step (Expr-F.Comma left right at) = left && right
is_free_step (Expr-F.Paren inner at) = inner

abbrev pub is_free : Expr → Bool
is_free = fold-Expr Bool is_free_step

abbrev pub has_result : {A : Type 0} → Outcome A → Bool
has_result (Gives a s) = true
has_result (Ends end output) = false

-- whether evaluating it, where no name means anything, gives a value and no trap
abbrev pub has_constant_value : Expr → Bool
has_constant_value e = has_result ((expression e).value no_calls (record { globals = []; scopes = []; input = []; output = []; fuel = 0; active = 0 }))

-- a length, an initialiser of a variable at file scope, or the value of a `case`
abbrev pub constant_part : Expr → Walking → Walk Expr
constant_part e w = do
  e' ← with_value e w
  require (is_free e && has_constant_value e) NotConstant (place_of e)
  Ok e'

-- whether a number is one of a list
abbrev pub is_among : ℕ → List ℕ → Bool
is_among name ns = list_any (λ n. n == name) ns

-- ---- declarations (6.7)

-- the place of a new name, where the scope doesn't have it yet
abbrev pub new_name : Bool → ℕ → Walk (Unit {0})
new_name is_new at = require is_new NameTwice at

-- a variable of a block or a parameter
abbrev pub variable : Ty → Bool → Decl
variable ty is_const = decl.Scalar ty is_const false 0

-- a declarator's name is in force in its own initialiser
abbrev pub walk_local : Local → Walking → Walk (Local × Walking)
walk_local d w = do
  new_name (is_new d.name w.blocks) d.at
  let w1 = enter_block d.name (Scalar d.is_const) (variable d.ty d.is_const) w
  first' ← if_there with_value d.first w1
  Ok (record d { name = length w.decls; first = first' }, w1)

abbrev pub walk_locals : List Local → Walking → Walk (List Local × Walking)
walk_locals [] w = Ok ([], w)
walk_locals (d ∷ ds) w = do
  (d', w1) ← walk_local d w
  (ds', w2) ← walk_locals ds w1
  Ok (d' ∷ ds', w2)

-- ---- statements (6.8)

-- the labels of a `switch` that have come: the words of the cases, and whether there was a `default`
pub record Labels : Type 0 where
  pub cases : List ℕ
  pub has_default : Bool

abbrev pub looping : Around → Around
looping around = record around { in_loop = true }

abbrev pub switching : Around → Around
switching around = record around { in_switch = true }

abbrev pub StatementWalk : Type 0
StatementWalk = Around → Walking → Walk (Stmt × Walking)

abbrev pub ClauseWalk : Type 0
ClauseWalk = Labels → Around → Walking → Walk (Clause × Labels × Walking)

abbrev pub walk_each : List StatementWalk → Around → Walking → Walk (List Stmt × Walking)
walk_each [] around w = Ok ([], w)
walk_each (c ∷ cs) around w = do
  (c', w1) ← c around w
  (cs', w2) ← walk_each cs around w1
  Ok (c' ∷ cs', w2)

abbrev pub walk_else : Option StatementWalk → Around → Walking → Walk (Option Stmt × Walking)
walk_else None around w = Ok (None, w)
walk_else (Some c) around w = do
  (c', w1) ← c around w
  Ok (Some c', w1)

-- a constant expression with its word
abbrev pub constant_with_word : Expr → Walking → Walk (Expr × ℕ)
constant_with_word e w = do
  e' ← constant_part e w
  Ok (e', constant e)

abbrev pub no_labels : Labels
no_labels = record { cases = []; has_default = false }

-- 6.8.4.2, 3: no two cases of a `switch` have the same word, and at most one label is `default`
abbrev pub walk_label : Label → Labels → Walking → Walk (Label × Labels)
walk_label (label.Case e at) labels w = do
  (e', word) ← constant_with_word e w
  require (not (is_among word labels.cases)) CaseTwice at
  Ok (label.Case e' at, record { cases = labels.cases ++ word ∷ []; has_default = labels.has_default })
walk_label (label.Otherwise at) labels w = do
  require (not labels.has_default) CaseTwice at
  Ok (label.Otherwise at, record { cases = labels.cases; has_default = true })

abbrev pub walk_labels : List Label → Labels → Walking → Walk (List Label × Labels)
walk_labels [] labels w = Ok ([], labels)
walk_labels (l ∷ ls) labels w = do
  (l', labels1) ← walk_label l labels w
  (ls', labels2) ← walk_labels ls labels1 w
  Ok (l' ∷ ls', labels2)

abbrev pub walk_clauses : List ClauseWalk → Labels → Around → Walking → Walk (List Clause × Walking)
walk_clauses [] labels around w = Ok ([], w)
walk_clauses (c ∷ cs) labels around w = do
  (c', labels1, w1) ← c labels around w
  (cs', w2) ← walk_clauses cs labels1 around w1
  Ok (c' ∷ cs', w2)

-- 6.8.6.4: a value where the function isn't void, and none where it is
abbrev pub is_good_return : Ty → Option Expr → Bool
is_good_return ty None = is_void ty
is_good_return ty (Some e) = not (is_void ty)

-- one level of a statement, with the walk of each part in its place
abbrev pub statement_walk_step : Stmt-F StatementWalk ClauseWalk → StatementWalk
statement_walk_step Stmt-F.Empty around w = Ok (stmt.Empty, w)
statement_walk_step (Stmt-F.Value e) around w = do
  e' ← any_expression e w
  Ok (stmt.Value e', w)
statement_walk_step (Stmt-F.Declare locals) around w = do
  (locals', w1) ← walk_locals locals w
  Ok (stmt.Declare locals', w1)
statement_walk_step (Stmt-F.Block body) around w = do
  (body', w1) ← walk_each body around (opened w)
  Ok (stmt.Block body', closed w1)
statement_walk_step (Stmt-F.If test a b) around w = do
  test' ← with_value test w
  (a', w1) ← a around w
  (b', w2) ← walk_else b around w1
  Ok (stmt.If test' a' b', w2)
statement_walk_step (Stmt-F.While test body) around w = do
  test' ← with_value test w
  (body', w1) ← body (looping around) w
  Ok (stmt.While test' body', w1)
statement_walk_step (Stmt-F.Do body test) around w = do
  (body', w1) ← body (looping around) w
  test' ← with_value test w1
  Ok (stmt.Do body' test', w1)
statement_walk_step (Stmt-F.For first test next body) around w = do
  (first', w1) ← first around (opened w)
  test' ← if_there with_value test w1
  next' ← if_there any_expression next w1
  (body', w2) ← body (looping around) w1
  Ok (stmt.For first' test' next' body', closed w2)
statement_walk_step (Stmt-F.Switch test clauses) around w = do
  test' ← with_value test w
  (clauses', w1) ← walk_clauses clauses no_labels (switching around) w
  Ok (stmt.Switch test' clauses', w1)
statement_walk_step (Stmt-F.Break at) around w = do
  require (around.in_loop || around.in_switch) BreakOutside at
  Ok (stmt.Break at, w)
statement_walk_step (Stmt-F.Continue at) around w = do
  require around.in_loop BreakOutside at
  Ok (stmt.Continue at, w)
statement_walk_step (Stmt-F.Return e at) around w = do
  require (is_good_return around.ty e) BadReturn at
  e' ← if_there with_value e w
  Ok (stmt.Return e' at, w)

-- a clause of a `switch`: its labels, and then its statements
abbrev pub clause_walk_step : Clause-F StatementWalk ClauseWalk → ClauseWalk
clause_walk_step c labels around w = do
  (labels', labels1) ← walk_labels c.labels labels w
  (body', w1) ← walk_each c.body around w
  Ok (record { labels = labels'; body = body' }, labels1, w1)

abbrev pub statement_walk : Stmt → StatementWalk
statement_walk = fold-Stmt StatementWalk ClauseWalk statement_walk_step clause_walk_step

abbrev pub clause_walk : Clause → ClauseWalk
clause_walk = fold-Clause StatementWalk ClauseWalk statement_walk_step clause_walk_step

-- ---- variables at file scope (6.9.2)

-- initialisers, of which there may be so many
abbrev pub walk_initialisers : ℕ → List Expr → Walking → Walk (List Expr)
walk_initialisers room [] w = Ok []
walk_initialisers zero (e ∷ es) w = fault TooManyInitialisers (place_of e)
walk_initialisers (suc room) (e ∷ es) w = do
  e' ← constant_part e w
  es' ← walk_initialisers room es w
  Ok (e' ∷ es')

abbrev pub kind_of_shape : Bool → Shape → Kind
kind_of_shape is_const shape.Scalar = Scalar is_const
kind_of_shape is_const (shape.Array length) = Array is_const

abbrev pub walk_shape : Shape → Walking → Walk Shape
walk_shape shape.Scalar w = Ok shape.Scalar
walk_shape (shape.Array length) w = do
  length' ← if_there constant_part length w
  Ok (shape.Array length')

-- 6.7.8, 22: how many elements a variable has; an array without length has as many as initialisers
abbrev pub elements : Shape → List Expr → ℕ
elements shape.Scalar first = 1
elements (shape.Array None) first = length first
elements (shape.Array (Some e)) first = constant e

abbrev pub most_elements : ℕ
most_elements = 32768

abbrev pub global_decl : GlobalVar → Decl
global_decl g = elim g.shape [
  | shape.Scalar ↦ decl.Scalar g.ty g.is_const true (first_or_zero (map constant g.first))
  | shape.Array length ↦ decl.Array g.ty g.is_const (padded (elements g.shape g.first) (map constant g.first))
]

-- the name, the length, the initialisers; the name is in force in both
abbrev pub walk_global : GlobalVar → Walking → Walk (GlobalVar × Walking)
walk_global g w = do
  new_name (not (is_some (lookup g.name w.file))) g.at
  let w1 = enter_file g.name (kind_of_shape g.is_const g.shape) (global_decl g) w
  shape' ← walk_shape g.shape w1
  require (nat_le 1 (elements g.shape g.first) && nat_le (elements g.shape g.first) most_elements) BadLength g.at
  first' ← walk_initialisers (elements g.shape g.first) g.first w1
  Ok (record g { name = length w.decls; shape = shape'; first = first' }, w1)

abbrev pub walk_globals : List GlobalVar → Walking → Walk (List GlobalVar × Walking)
walk_globals [] w = Ok ([], w)
walk_globals (g ∷ gs) w = do
  (g', w1) ← walk_global g w
  (gs', w2) ← walk_globals gs w1
  Ok (g' ∷ gs', w2)

-- ---- functions (6.9.1)

abbrev pub same_type : Ty → Ty → Bool
same_type Int Int = true
same_type Unsigned Unsigned = true
same_type Void Void = true
same_type a b = false

abbrev pub same_types : List Ty → List Ty → Bool
same_types [] [] = true
same_types (a ∷ as') (b ∷ bs) = same_type a b && same_types as' bs
same_types as' bs = false

abbrev pub param_types : List Param → List Ty
param_types params = map (λ p. p.ty) params

abbrev pub function_decl : (ℕ → Bool) → Function → Decl
function_decl has_body_named f = decl.Function f.ty (param_types f.params) (has_body_named f.name)

-- 6.7, 4: a function can be declared again with the same type, number and types of parameters; it has at most one body (6.9, 3)
abbrev pub declared_again_as : Bool → Ty → ℕ → ℕ → List Ty → List ℕ → ℕ → Kind → Walk ℕ
declared_again_as has_body ty name at types bodies position (Scalar is_const) = fault NameTwice at
declared_again_as has_body ty name at types bodies position (Array is_const) = fault NameTwice at
declared_again_as has_body ty name at types bodies position (FunctionKind old params) = do
  require (not (has_body && is_among name bodies)) NameTwice at
  require (same_type old ty && same_types params types) PrototypeDiffers at
  Ok position

abbrev pub declared_again : Function → List ℕ → ℕ → Kind → Walk ℕ
declared_again f = declared_again_as (has_body f.body) f.ty f.name f.at (param_types f.params)

-- the walk after a function's name: where it is new it comes into force
abbrev pub walk_name : (ℕ → Bool) → Function → Option Known → Walking → Walk (ℕ × Walking)
walk_name has_body_named f None w =
    Ok (length w.decls, enter_file f.name (FunctionKind f.ty (param_types f.params)) (function_decl has_body_named f) w)
walk_name has_body_named f (Some d) w = do
  position ← declared_again f w.bodies d.position d.kind
  Ok (position, w)

-- a parameter without a name declares nothing
abbrev pub walk_param : Param → Option ℕ → Walking → Walk (Param × Walking)
walk_param p None w = Ok (p, w)
walk_param p (Some name) w = do
  new_name (is_new name w.blocks) p.at
  Ok (record p { name = Some (length w.decls) }, enter_block name (Scalar p.is_const) (variable p.ty p.is_const) w)

abbrev pub walk_params : List Param → Walking → Walk (List Param × Walking)
walk_params [] w = Ok ([], w)
walk_params (p ∷ ps) w = do
  (p', w1) ← walk_param p p.name w
  (ps', w2) ← walk_params ps w1
  Ok (p' ∷ ps', w2)

abbrev pub in_function : Ty → Around
in_function ty = record { ty = ty; in_loop = false; in_switch = false }

-- the body shares the outermost scope with the parameters
abbrev pub walk_body : Ty → Option (List Stmt) → Walking → Walk (Option (List Stmt) × Walking)
walk_body ty None w = Ok (None, w)
walk_body ty (Some body) w = do
  (body', w1) ← walk_each (map statement_walk body) (in_function ty) w
  Ok (Some body', w1)

-- the body has come, if there is one
abbrev pub with_body : Function → Walking → Walking
with_body f w = if has_body f.body then with_body_of f.name w else w

-- the name, the parameters, the body
abbrev pub walk_function : (ℕ → Bool) → Function → Walking → Walk (Function × Walking)
walk_function has_body_named f w = do
  (position, w1) ← walk_name has_body_named f (lookup f.name w.file) w
  (params', w2) ← walk_params f.params (begun w1)
  (body', w3) ← walk_body f.ty f.body w2
  Ok (record f { name = position; params = params'; body = body' }, with_body f (ended w3))

-- ---- whole programs

abbrev pub walk_item : (ℕ → Bool) → TopItem → Walking → Walk (TopItem × Walking)
walk_item has_body_named (item.Globals gs) w = do
  (gs', w1) ← walk_globals gs w
  Ok (item.Globals gs', w1)
walk_item has_body_named (item.Function f) w = do
  (f', w1) ← walk_function has_body_named f w
  Ok (item.Function f', w1)

abbrev pub walk_items : (ℕ → Bool) → List TopItem → Walking → Walk (List TopItem × Walking)
walk_items has_body_named [] w = Ok ([], w)
walk_items has_body_named (i ∷ is) w = do
  (i', w1) ← walk_item has_body_named i w
  (is', w2) ← walk_items has_body_named is w1
  Ok (i' ∷ is', w2)

-- `int in_word(void)` and `void out_word(int)` are declared before the text, and can have no body in it
abbrev pub first_walking : Names → Walking
first_walking names = record {
  file = record { name = names.out_word; known = record { position = 1; kind = FunctionKind Void (Int ∷ []) } }
      ∷ record { name = names.in_word; known = record { position = 0; kind = FunctionKind Int [] } } ∷ [];
  blocks = [];
  decls = decl.InWord ∷ decl.OutWord ∷ [];
  bodies = names.in_word ∷ names.out_word ∷ [];
}

-- whether some item has the body of a function of this name
abbrev pub has_body_in : List TopItem → ℕ → Bool
has_body_in items name = is_some (function_named name items)

abbrev pub walk_program : Names → Program → Walk (List TopItem × Walking)
walk_program names program = walk_items (has_body_in program.items) program.items (first_walking names)
