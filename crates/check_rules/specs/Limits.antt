-- What is looked at after the walk: that each function called has a body, that there is a `main`, and the limits of the sizes. The limits are the
-- project's own (ISO/IEC 9899:1999, 5.2.4.1).
use Rattle.std.specs.Prelude.{ℕ, zero, suc, ◌+◌, ◌*◌, Bool, true, false, not, ◌&&◌, ◌||◌, if◌then◌else◌, ◌==◌, nat_lt, List, [], ◌∷◌, ◌++◌, map, filter, find}
use Rattle.std.specs.Prelude.{flat_map, sum, length, Option, Some, None, Ok, Err}
use Rattle.c_syntax.specs.declared.tree.Ty.TheVariants.{Int}
use Rattle.c_syntax.specs.declared.tree.Expr.{Expr, fold-Expr}
use Rattle.c_syntax.specs.declared.tree.Expr.TheOpen.{Expr-F}
use Rattle.c_syntax.specs.declared.tree.Local.{Local}
use Rattle.c_syntax.specs.declared.tree.Stmt.{Stmt, fold-Stmt}
use Rattle.c_syntax.specs.declared.tree.Stmt.TheOpen.{Stmt-F, Clause-F}
use Rattle.c_syntax.specs.declared.tree.Label.{Label}
use Rattle.c_syntax.specs.declared.tree.Label.TheVariants as label
use Rattle.c_syntax.specs.declared.tree.Function.{Function}
use Rattle.c_syntax.specs.declared.tree.TopItem.{TopItem}
use Rattle.c_syntax.specs.declared.tree.TopItem.TheVariants as item
use Rattle.c_syntax.specs.declared.tree.Program.{Program}
use Rattle.c_syntax.specs.Sizes.{greatest}
use Rattle.c_syntax.specs.Costs.{function_weight, program_cost}
use Rattle.c_syntax.specs.Graph.{functions, function_named, has_body, body_of, callees, leads, is_recursive}
use Rattle.c_meaning.specs.Meaning.{Names}
use Rattle.check_rules.specs.declared.error.CheckKind.TheVariants.{NoBody, NoMain, FrameTooLarge, TooManyBlocks, StoreTooLarge}
use Rattle.check_rules.specs.declared.decl.Decl.{Decl}
use Rattle.check_rules.specs.Fault.{Fault, Walk, ◌>>=◌, ◌>>◌, require, refuse}
use Rattle.check_rules.specs.Scopes.{Known, lookup}
use Rattle.check_rules.specs.Walk.{same_type, elements, has_body_in, walk_program}

-- ---- calls

-- a call: the name of its function, and the byte of that name
pub record CallSite : Type 0 where
  pub name : ℕ
  pub at : ℕ

abbrev pub joined : {A : Type 0} → List (List A) → List A
joined = flat_map (λ l. l)

abbrev pub of_option : {A B : Type 0} → (A → List B) → Option A → List B
of_option list None = []
of_option list (Some a) = list a

-- the calls in an expression, in the order in which the walk meets their names
abbrev pub calls_step : Expr-F (List CallSite) → List CallSite
calls_step (Expr-F.Literal word is_unsigned at) = []
calls_step (Expr-F.Name name at) = []
calls_step (Expr-F.Index name index at) = index
calls_step (Expr-F.Call name args at) = record { name = name; at = at } ∷ joined args
calls_step (Expr-F.Unary op operand at) = operand
calls_step (Expr-F.Binary op left right at) = left ++ right
calls_step (Expr-F.Logic is_and left right at) = left ++ right
calls_step (Expr-F.Choose test a b at) = test ++ (a ++ b)
calls_step (Expr-F.Assign op place right at) = place ++ right
calls_step (Expr-F.Bump up before place at) = place
calls_step (Expr-F.Comma left right at) = left ++ right
calls_step (Expr-F.Paren inner at) = inner

abbrev pub expression_calls : Expr → List CallSite
expression_calls = fold-Expr (List CallSite) calls_step

abbrev pub local_calls : Local → List CallSite
local_calls d = of_option expression_calls d.first

abbrev pub label_calls : Label → List CallSite
label_calls (label.Case e at) = expression_calls e
label_calls (label.Otherwise at) = []

abbrev pub statement_calls_step : Stmt-F (List CallSite) (List CallSite) → List CallSite
statement_calls_step Stmt-F.Empty = []
statement_calls_step (Stmt-F.Value e) = expression_calls e
statement_calls_step (Stmt-F.Declare locals) = joined (map local_calls locals)
statement_calls_step (Stmt-F.Block body) = joined body
statement_calls_step (Stmt-F.If test a b) = expression_calls test ++ (a ++ of_option (λ l. l) b)
statement_calls_step (Stmt-F.While test body) = expression_calls test ++ body
statement_calls_step (Stmt-F.Do body test) = body ++ expression_calls test
statement_calls_step (Stmt-F.For first test next body) = first ++ (of_option expression_calls test ++ (of_option expression_calls next ++ body))
statement_calls_step (Stmt-F.Switch test clauses) = expression_calls test ++ joined clauses
statement_calls_step (Stmt-F.Break at) = []
statement_calls_step (Stmt-F.Continue at) = []
statement_calls_step (Stmt-F.Return e at) = of_option expression_calls e

abbrev pub clause_calls_step : Clause-F (List CallSite) (List CallSite) → List CallSite
clause_calls_step c = joined (map label_calls c.labels) ++ joined c.body

abbrev pub statement_calls : Stmt → List CallSite
statement_calls = fold-Stmt (List CallSite) (List CallSite) statement_calls_step clause_calls_step

abbrev pub body_calls : Function → List CallSite
body_calls f = joined (map statement_calls (body_of f.body))

-- the functions with bodies, in order
abbrev pub bodies : List TopItem → List Function
bodies items = filter (λ f. has_body f.body) (functions items)

-- ---- calls of functions without body, and `main`

-- a function that is neither there before the text nor has a body in it
abbrev pub lacks_body : Names → List TopItem → CallSite → Bool
lacks_body names items c = not (c.name == names.in_word || (c.name == names.out_word || has_body_in items c.name))

abbrev pub first_without_body : Names → List TopItem → Option ℕ
first_without_body names items = elim (find (lacks_body names items) (flat_map body_calls (bodies items))) [ None ↦ None | Some c ↦ Some c.at ]

-- 5.1.2.2.1: `int main(void)`
abbrev pub is_main : Option Function → Bool
is_main None = false
is_main (Some f) = same_type f.ty Int && (length f.params == 0)

-- ---- the store

abbrev pub weight_named : List TopItem → ℕ → ℕ
weight_named items name = elim (function_named name items) [ None ↦ 0 | Some f ↦ function_weight f ]

-- the weight of a function, and the greatest chain of one that it calls, down to n calls
abbrev pub chain_in : List TopItem → ℕ → ℕ → ℕ
chain_in items zero name = 0
chain_in items (suc n) name = weight_named items name + greatest (map (chain_in items n) (callees items name))

-- where no function reaches itself, no chain has more functions with bodies than there are functions
abbrev pub chain : List TopItem → ℕ → ℕ
chain items name = chain_in items (length (functions items)) name

-- whether calls lead from one function to another
abbrev pub reaches : List TopItem → ℕ → ℕ → Bool
reaches items from to = leads items (length (functions items)) from to

-- the words that the variables at file scope hold
abbrev pub item_pairs : TopItem → ℕ
item_pairs (item.Globals gs) = sum (map (λ g. elements g.shape g.first) gs)
item_pairs (item.Function f) = 0

abbrev pub global_pairs : List TopItem → ℕ
global_pairs items = sum (map item_pairs items)

-- the functions with bodies that `main` reaches, itself among them, which reach themselves or don't
abbrev pub reached : Names → List TopItem → Bool → List Function
reached names items is_deep =
    filter (λ f. (f.name == names.main || reaches items names.main f.name) && (if is_recursive items f.name then is_deep else not is_deep)) (bodies items)

-- where `main` reaches no function that reaches itself, the global words and the chain of `main`; else room for 257 calls of such functions
abbrev pub store_of : Names → List TopItem → List Function → ℕ
store_of names items [] = global_pairs items + chain items names.main
store_of names items (f ∷ fs) =
    global_pairs items + 1 + 257 * greatest (map (λ g. function_weight g + 2) (f ∷ fs)) + sum (map function_weight (reached names items false))

abbrev pub store : Names → Program → ℕ
store names program = store_of names program.items (reached names program.items true)

-- ---- the first fault

abbrev pub most_weight : ℕ
most_weight = 4000

abbrev pub most_cost : ℕ
most_cost = 16000

abbrev pub most_store : ℕ
most_store = 32768

abbrev pub first_too_heavy : List TopItem → Option ℕ
first_too_heavy items = elim (find (λ f. nat_lt most_weight (function_weight f)) (bodies items)) [ None ↦ None | Some f ↦ Some f.at ]

-- what is looked at after the walk, in this order
abbrev pub within_limits : Names → Program → Walk (Unit {0})
within_limits names program = do
  refuse (first_without_body names program.items) NoBody
  require (is_main (function_named names.main program.items)) NoMain 0
  refuse (first_too_heavy program.items) FrameTooLarge
  require (not (nat_lt most_cost (program_cost program))) TooManyBlocks 0
  require (not (nat_lt most_store (store names program))) StoreTooLarge 0

abbrev pub position_or_zero : Option Known → ℕ
position_or_zero None = 0
position_or_zero (Some d) = d.position

-- a program in which each name is the position of its declaration, the declarations, and the position of `main`
pub record Resolved : Type 0 where
  pub program : Program
  pub decls : List Decl
  pub main : ℕ

-- the program with each name resolved, or its first fault
abbrev pub checked : Names → Program → Walk Resolved
checked names program = do
  (items', w) ← walk_program names program
  within_limits names program
  Ok (record { program = record { items = items' }; decls = w.decls; main = position_or_zero (lookup names.main w.file) })

abbrev pub fault_in : {A : Type 0} → Walk A → Option Fault
fault_in (Ok a) = None
fault_in (Err f) = Some f

-- the first fault of a program, or none
abbrev pub first_fault : Names → Program → Option Fault
first_fault names program = fault_in (checked names program)

-- the names of `main`, `in_word` and `out_word` in a program whose names are positions
abbrev pub resolved_names : Resolved → Names
resolved_names c = record { main = c.main; in_word = 0; out_word = 1 }
