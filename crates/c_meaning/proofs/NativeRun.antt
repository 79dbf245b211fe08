-- The meaning of whole programs over any way of folding trees, so that examples compute by the recursions that do.
use Rattle.std.proofs.Common.{◌≡◌, ℕ, zero, suc, Bool, false, ◌||◌, List, [], ◌++◌, map, flat_map, length, Option, Some, None, refl, sym, if◌then◌else◌, ◌==◌}
use Rattle.std.specs.List.{list_any}
use Rattle.c_syntax.specs.declared.tree.Expr.{Expr, fold-Expr}
use Rattle.c_syntax.specs.declared.tree.Expr.TheOpen.{Expr-F}
use Rattle.c_syntax.specs.declared.tree.Local.{Local}
use Rattle.c_syntax.specs.declared.tree.Label.{Label}
use Rattle.c_syntax.specs.declared.tree.Label.TheVariants as label
use Rattle.c_syntax.specs.declared.tree.Stmt.{Stmt, fold-Stmt}
use Rattle.c_syntax.specs.declared.tree.Stmt.TheOpen.{Stmt-F, Clause-F}
use Rattle.c_syntax.specs.declared.tree.Shape.{Shape}
use Rattle.c_syntax.specs.declared.tree.Shape.TheVariants as shape
use Rattle.c_syntax.specs.declared.tree.GlobalVar.{GlobalVar}
use Rattle.c_syntax.specs.declared.tree.Function.{Function}
use Rattle.c_syntax.specs.declared.tree.TopItem.{TopItem}
use Rattle.c_syntax.specs.declared.tree.TopItem.TheVariants as item
use Rattle.c_syntax.specs.declared.tree.Program.{Program}
use Rattle.c_meaning.specs.declared.run.Value.{Value}
use Rattle.c_meaning.specs.declared.run.Flow.{Flow}
use Rattle.c_meaning.specs.declared.run.Flow.TheVariants.{Normal, Breaks, Continues}
use Rattle.c_meaning.specs.declared.run.EvalEnd.TheVariants.{Going}
use Rattle.c_meaning.specs.Operators.{value, is_unsigned_type, is_zero}
use Rattle.c_meaning.specs.Run.{Object, Scalar, Array, Global, Run, ◌>>=◌, ◌>>◌, pure, stop, meaningless, enter, open_call, close_call, counted, spend}
use Rattle.c_syntax.specs.Graph.{functions, function_named, body_of, or_none, expression_calls_step}
use Rattle.c_meaning.specs.Meaning.{Calls, Meaning, expression_step, Statement, in_order, in_scope, initialise, or_nothing, loop, do_loop, test_or_true, next_or_nothing, for_loop, returned, Labelled, switch, returns_unsigned, bound, call_result, Names, call_in_word, call_out_word, no_calls, word_or_zero, padded, first_or_zero, CRan, ran, run_of}
use Rattle.c_meaning.proofs.Native.{native, native_expression, native_statement, native_statement_is}

abbrev FoldExpr : Type 1
FoldExpr = (A : Type 0) → (Expr-F A → A) → Expr → A

abbrev FoldStmt : Type 1
FoldStmt = (A A' : Type 0) → (Stmt-F A A' → A) → (Clause-F A A' → A') → Stmt → A

module _ (fold_e : FoldExpr) (fold_s : FoldStmt) where
  -- ---- the meaning

  abbrev x : Expr → Meaning
  x = fold_e Meaning expression_step

  abbrev value_if_by : Calls → Option Expr → Option (Run Value)
  value_if_by functions None = None
  value_if_by functions (Some e) = Some ((x e).value functions)

  abbrev declare_by : Calls → Local → Run Flow
  declare_by functions d = do
    enter d.name (value 0 (is_unsigned_type d.ty))
    initialise d.name (value_if_by functions d.first)
    pure Normal

  abbrev constant_by : Expr → ℕ
  constant_by e = word_or_zero ((x e).value no_calls (record { globals = []; scopes = []; input = []; output = []; fuel = 0; active = 0 }))

  abbrev label_word_by : Label → Option ℕ
  label_word_by (label.Case e at) = Some (constant_by e)
  label_word_by (label.Otherwise at) = None

  abbrev step_by : Stmt-F Statement Labelled → Statement
  step_by Stmt-F.Empty functions = pure Normal
  step_by (Stmt-F.Value e) functions = (x e).value functions >> pure Normal
  step_by (Stmt-F.Declare locals) functions = in_order (map (declare_by functions) locals)
  step_by (Stmt-F.Block body) functions = in_scope (in_order (map (λ c. c functions) body))
  step_by (Stmt-F.If test a b) functions = (x test).value functions >>= (λ t. if is_zero t then or_nothing b functions else a functions)
  step_by (Stmt-F.While test body) functions = loop ((x test).value functions) (pure tt) (body functions)
  step_by (Stmt-F.Do body test) functions = do_loop ((x test).value functions) (body functions)
  step_by (Stmt-F.For first test next body) functions = in_scope (for_loop (first functions) (test_or_true (value_if_by functions test)) (next_or_nothing (value_if_by functions next)) (body functions))
  step_by (Stmt-F.Switch test clauses) functions = switch ((x test).value functions) clauses functions
  step_by (Stmt-F.Break at) functions = pure Breaks
  step_by (Stmt-F.Continue at) functions = pure Continues
  step_by (Stmt-F.Return e at) functions = returned (value_if_by functions e)

  abbrev clause_by : Clause-F Statement Labelled → Labelled
  clause_by c = record { labels = map label_word_by c.labels; body = λ functions. in_order (map (λ s. s functions) c.body) }

  abbrev statement_by : Stmt → Statement
  statement_by = fold_s Statement Labelled step_by clause_by

  abbrev array_length_by : Option Expr → List ℕ → ℕ
  array_length_by None words = length words
  array_length_by (Some e) words = constant_by e

  abbrev initial_by : Shape → Bool → List ℕ → Object
  initial_by shape.Scalar is_unsigned words = Scalar (value (first_or_zero words) is_unsigned)
  initial_by (shape.Array length) is_unsigned words = Array is_unsigned (padded (array_length_by length words) words)

  abbrev global_by : GlobalVar → Global
  global_by g = record { name = g.name; object = initial_by g.shape (is_unsigned_type g.ty) (map constant_by g.first) }

  abbrev globals_of_by : TopItem → List Global
  globals_of_by (item.Globals gs) = map global_by gs
  globals_of_by (item.Function f) = []

  -- ---- the graph of calls

  abbrev calls_in : Expr → List ℕ
  calls_in = fold_e (List ℕ) expression_calls_step

  abbrev local_calls_by : Local → List ℕ
  local_calls_by d = or_none calls_in d.first

  abbrev label_calls_by : Label → List ℕ
  label_calls_by (label.Case e at) = calls_in e
  label_calls_by (label.Otherwise at) = []

  abbrev calls_step_by : Stmt-F (List ℕ) (List ℕ) → List ℕ
  calls_step_by Stmt-F.Empty = []
  calls_step_by (Stmt-F.Value e) = calls_in e
  calls_step_by (Stmt-F.Declare locals) = flat_map local_calls_by locals
  calls_step_by (Stmt-F.Block body) = flat_map (λ calls. calls) body
  calls_step_by (Stmt-F.If test a b) = calls_in test ++ a ++ or_none (λ calls. calls) b
  calls_step_by (Stmt-F.While test body) = calls_in test ++ body
  calls_step_by (Stmt-F.Do body test) = body ++ calls_in test
  calls_step_by (Stmt-F.For first test next body) = first ++ or_none calls_in test ++ or_none calls_in next ++ body
  calls_step_by (Stmt-F.Switch test clauses) = calls_in test ++ flat_map (λ calls. calls) clauses
  calls_step_by (Stmt-F.Break at) = []
  calls_step_by (Stmt-F.Continue at) = []
  calls_step_by (Stmt-F.Return e at) = or_none calls_in e

  abbrev clause_calls_by : Clause-F (List ℕ) (List ℕ) → List ℕ
  clause_calls_by c = flat_map label_calls_by c.labels ++ flat_map (λ calls. calls) c.body

  abbrev body_calls_by : Option (List Stmt) → List ℕ
  body_calls_by body = flat_map (fold_s (List ℕ) (List ℕ) calls_step_by clause_calls_by) (body_of body)

  abbrev calls_of_by : Option Function → List ℕ
  calls_of_by None = []
  calls_of_by (Some f) = body_calls_by f.body

  abbrev leads_by : List TopItem → ℕ → ℕ → ℕ → Bool
  leads_by items zero from to = false
  leads_by items (suc n) from to = list_any (λ name. name == to || leads_by items n name to) (calls_of_by (function_named from items))

  -- ---- calls and programs

  abbrev in_body_by : Calls → Function → List Value → Run Value
  in_body_by functions f args = do
    scopes ← open_call (bound f.params args)
    flow ← in_order (map (λ c. c functions) (map statement_by (body_of f.body)))
    close_call scopes
    pure (call_result (is_unsigned_type f.ty) flow)

  abbrev enter_by : Calls → Bool → Option Function → List Value → Run Value
  enter_by functions recursive None args = meaningless
  enter_by functions recursive (Some f) args = counted recursive (spend >> in_body_by functions f args)

  abbrev call_by : Names → List TopItem → ℕ → ℕ → List Value → Run Value
  call_by names items zero name args = stop Going
  call_by names items (suc n) name args =
      if name == names.in_word then call_in_word
      else (if name == names.out_word then call_out_word args
      else enter_by (record { is_unsigned = λ f. returns_unsigned (function_named f items); call = call_by names items n }) (leads_by items (length (functions items)) name name) (function_named name items) args)

  abbrev pub run_by : Names → Program → List ℕ → ℕ → CRan
  run_by names program input fuel = ran (call_by names program.items (suc fuel) names.main [] (record { globals = flat_map globals_of_by program.items; scopes = []; input = input; output = []; fuel = fuel; active = 0 }))

-- over the folds they are the definitions
run_by_is : (names : Names) (program : Program) (input : List ℕ) (fuel : ℕ) → run_by fold-Expr fold-Stmt names program input fuel ≡ run_of names program input fuel
run_by_is names program input fuel = refl

-- the run, computed
pub native_run : Names → Program → List ℕ → ℕ → CRan
native_run = run_by native native_statement

pub native_run_is : (names : Names) (program : Program) (input : List ℕ) (fuel : ℕ) → run_of names program input fuel ≡ run_by native native_statement names program input fuel
native_run_is names program input fuel = λ i. run_by (λ A step e. sym (native_expression A step e) i) (λ A A' step step' c. sym (native_statement_is A A' step step' c) i) names program input fuel
