-- What was put out before changes nothing of what a frame does.
use Rattle.std.proofs.Common.{◌≡◌, ℕ, zero, suc, Bool, true, false, not, List, [], ◌∷◌, ◌++◌, map, Option, Some, None, if◌then◌else◌, option_map, refl, sym, ap, subst}
use Rattle.c_meaning.specs.declared.run.Value.{Value}
use Rattle.c_meaning.specs.declared.run.Place.{Place}
use Rattle.c_meaning.specs.declared.run.Place.TheVariants.{Variable, Element}
use Rattle.c_meaning.specs.declared.run.Flow.{Flow}
use Rattle.c_meaning.specs.declared.run.Flow.TheVariants.{Normal, Returns}
use Rattle.c_meaning.specs.declared.run.EvalEnd.TheVariants.{Starved}
use Rattle.c_syntax.specs.declared.tree.Expr.{Expr}
use Rattle.c_syntax.specs.declared.tree.Stmt.{Stmt}
use Rattle.c_syntax.specs.declared.tree.TopItem.{TopItem}
use Rattle.c_meaning.specs.Operators.{value, is_unsigned_type, truth, is_zero, converted, operate, operate_unary, bumped}
use Rattle.c_meaning.specs.Run.{State, Run, ◌>>=◌, pure, read, read_element, write, write_element, check_index, types_now, enter, close_scope, close_call}
use Rattle.c_syntax.specs.Graph.{function_named}
use Rattle.c_meaning.specs.Meaning.{Names, Calls, calls, call_at, returns_unsigned, expression, statement, values, fetch, put_at, store, tested, assign_with, bump, turns, loop, test_or_true, next_or_nothing, value_if, call_result, or_nothing, initialise, declare, in_order, clause, Labelled, Statement, statement_step, clause_step, or_those, from_label, is_label, chosen, after_switch}
use Rattle.c_meaning.specs.Laws.{after_words, with_words}
use Rattle.c_meaning.proofs.Related.{Same, KeptMeaning, kept_expression, kept_statement, on_lift, on_if, on_next, on_after_body, on_turns, on-read, on-read_element, on-check_index, on-write, on-write_element, on-types_now, on-enter, on-close_scope, on-close_call}
use Rattle.c_meaning.proofs.Output.{Adds, adds_kept, output_is_added}
use Rattle.eval_parts.specs.declared.part.Given.{Given}
use Rattle.eval_parts.specs.declared.part.Given.TheVariants as given
use Rattle.eval_parts.specs.declared.part.Loop.{Loop}
use Rattle.eval_parts.specs.declared.part.Loop.TheVariants as a_loop
use Rattle.eval_parts.specs.declared.part.OnPlace.{OnPlace}
use Rattle.eval_parts.specs.declared.part.OnPlace.TheVariants as on_place
use Rattle.eval_parts.specs.declared.part.OnFlow.{OnFlow}
use Rattle.eval_parts.specs.declared.part.OnFlow.TheVariants as on_flow
use Rattle.eval_parts.specs.declared.part.OnValue.{OnValue}
use Rattle.eval_parts.specs.declared.part.OnValue.TheVariants as on_value
use Rattle.std.specs.List.{list_any}
use Rattle.c_syntax.specs.declared.tree.Local.{Local}
use Rattle.c_syntax.specs.declared.tree.Clause.{Clause}
use Rattle.eval_parts.proofs.Folds.{on-clause}
use Rattle.eval_parts.specs.Parts.{with_flow, with_value, arms_type, value_given, flow_given, place_given, test_of, next_of, body_is, body_of, turns_of, loop_of, all_of, with_place}

value_adds : (m : Run Value) → Adds Value m m → Adds Given (value_given m) (value_given m)
value_adds m a = adds_kept.steps.on_then a (λ v. adds_kept.steps.on_pure (given.Value v))

flow_adds : (m : Run Flow) → Adds Flow m m → Adds Given (flow_given m) (flow_given m)
flow_adds m a = adds_kept.steps.on_then a (λ f. adds_kept.steps.on_pure (given.Flow f))

fetch_adds : (p : Place) → Adds Value (fetch p) (fetch p)
fetch_adds (Variable name) = adds_kept.steps.on_variables (read name) (on-read name)
fetch_adds (Element name i) = adds_kept.steps.on_variables (read_element name i) (on-read_element name i)

put_adds : (p : Place) (word : ℕ) → Adds (Unit {0}) (put_at p word) (put_at p word)
put_adds (Variable name) word = adds_kept.steps.on_variables (write name word) (on-write name word)
put_adds (Element name i) word = adds_kept.steps.on_variables (write_element name i word) (on-write_element name i word)

store_adds : (p : Place) (word : ℕ) → Adds Value (store p word) (store p word)
store_adds p word = adds_kept.steps.on_then (fetch_adds p) (λ old. adds_kept.steps.on_then (put_adds p word) (λ u. adds_kept.steps.on_pure (value word old.is_unsigned)))

module _ (names : Names) (items : List TopItem) (level : ℕ) where
  types : ℕ → Bool
  types = λ f. returns_unsigned (function_named f items)

  same : Same Adds adds_kept (call_at names items level) (call_at names items level)
  same name args = record { at = λ words s. (output_is_added names items level words s).of_call name args }

  of_expression : (e : Expr) → Adds Value ((expression e).value (calls names items level)) ((expression e).value (calls names items level))
  of_expression e = record { at = λ words s. (output_is_added names items level words s).of_expression e }

  of_statement : (c : Stmt) → Adds Flow (statement c (calls names items level)) (statement c (calls names items level))
  of_statement c = record { at = λ words s. (output_is_added names items level words s).of_statement c }

  of_test : (l : Loop) → Adds Value (test_of (calls names items level) l) (test_of (calls names items level) l)
  of_test (a_loop.While test body) = of_expression test.now
  of_test (a_loop.For test next body) = there test.now
    where
      there : (e : Option Expr) → Adds Value (test_or_true (value_if (calls names items level) e)) (test_or_true (value_if (calls names items level) e))
      there None = adds_kept.steps.on_pure (truth true)
      there (Some e) = of_expression e

  of_next : (l : Loop) → Adds (Unit {0}) (next_of (calls names items level) l) (next_of (calls names items level) l)
  of_next (a_loop.While test body) = adds_kept.steps.on_pure tt
  of_next (a_loop.For test next body) = there next.now
    where
      there : (e : Option Expr) → Adds (Unit {0}) (next_or_nothing (value_if (calls names items level) e)) (next_or_nothing (value_if (calls names items level) e))
      there None = adds_kept.steps.on_pure tt
      there (Some e) = adds_kept.steps.on_then (of_expression e) (λ v. adds_kept.steps.on_pure tt)

  pub of_turns : (n : ℕ) (l : Loop) → Adds Flow (turns_of (calls names items level) n l) (turns_of (calls names items level) n l)
  of_turns n l = on_turns Adds adds_kept.steps n _ _ _ _ _ _ (of_test l) (of_next l) (of_statement (body_is l))

  pub of_place : (f : OnPlace) (p : Place) → Adds Given (with_place names items level f p) (with_place names items level f p)
  of_place on_place.Fetch p = value_adds _ (fetch_adds p)
  of_place (on_place.Assign None right) p = value_adds _ (adds_kept.steps.on_then (of_expression right.now) (λ v. store_adds p v.word))
  of_place (on_place.Assign (Some op) right) p = value_adds _ (adds_kept.steps.on_then (fetch_adds p) (λ old. adds_kept.steps.on_then (of_expression right.now) (λ v. adds_kept.steps.on_then (on_lift Adds adds_kept (operate op old v)) (λ new. store_adds p new.word))))
  of_place (on_place.Bump up before) p = value_adds _ (adds_kept.steps.on_then (fetch_adds p) (λ old. adds_kept.steps.on_then (store_adds p (bumped up old.word)) (λ new. adds_kept.steps.on_pure (if before then new else old))))

  of_all : (cs : List Stmt) → Adds Flow (all_of (calls names items level) cs) (all_of (calls names items level) cs)
  of_all [] = adds_kept.steps.on_pure Normal
  of_all (c ∷ cs) = adds_kept.steps.on_then (of_statement c) (λ flow. on_next Adds adds_kept flow (of_all cs))

  of_values : (es : List Expr) → Adds (List Value) (values (map (λ e. e.value (calls names items level)) (map expression es))) (values (map (λ e. e.value (calls names items level)) (map expression es)))
  of_values [] = adds_kept.steps.on_pure []
  of_values (e ∷ es) = adds_kept.steps.on_then (of_expression e) (λ v. adds_kept.steps.on_then (of_values es) (λ vs. adds_kept.steps.on_pure (v ∷ vs)))

  of_initialise : (name : ℕ) (e : Option Expr) → Adds (Unit {0}) (initialise name (value_if (calls names items level) e)) (initialise name (value_if (calls names items level) e))
  of_initialise name None = adds_kept.steps.on_pure tt
  of_initialise name (Some e) = adds_kept.steps.on_then (of_expression e) (λ v. adds_kept.steps.on_then (adds_kept.steps.on_variables (write name v.word) (on-write name v.word)) (λ u. adds_kept.steps.on_pure tt))

  of_locals : (ds : List Local) → Adds Flow (in_order (map (declare (calls names items level)) ds)) (in_order (map (declare (calls names items level)) ds))
  of_locals [] = adds_kept.steps.on_pure Normal
  of_locals (d ∷ ds) = adds_kept.steps.on_then (adds_kept.steps.on_then (adds_kept.steps.on_variables (enter d.name (value 0 (is_unsigned_type d.ty))) (on-enter d.name (value 0 (is_unsigned_type d.ty)))) (λ u. adds_kept.steps.on_then (of_initialise d.name d.first) (λ w. adds_kept.steps.on_pure Normal))) (λ flow. on_next Adds adds_kept flow (of_locals ds))

  of_clause : (c : Clause) → Adds Flow ((clause c).body (calls names items level)) ((clause c).body (calls names items level))
  of_clause c = subst (λ (l : Labelled). Adds Flow (l.body (calls names items level)) (l.body (calls names items level))) (sym (on-clause Statement Labelled statement_step clause_step c.labels c.body)) (of_all c.body)

  abbrev AllAdd : List Labelled → Type 0
  AllAdd [] = Unit {0}
  AllAdd (l ∷ ls) = Adds Flow (l.body (calls names items level)) (l.body (calls names items level)) × AllAdd ls

  all_add : (cs : List Clause) → AllAdd (map clause cs)
  all_add [] = tt
  all_add (c ∷ cs) = (of_clause c, all_add cs)

  or_add : (ls others : List Labelled) → AllAdd ls → AllAdd others → AllAdd (or_those ls others)
  or_add [] others a b = b
  or_add (l ∷ ls) others a b = a

  from_add : (w : Option ℕ) (ls : List Labelled) → AllAdd ls → AllAdd (from_label w ls)
  from_add w [] a = tt
  from_add w (l ∷ ls) a = found (list_any (is_label w) l.labels) (from_add w ls a.1)
    where
      found : (b : Bool) → AllAdd (from_label w ls) → AllAdd (if b then l ∷ ls else from_label w ls)
      found true rest = a
      found false rest = rest

  of_labelled : (ls : List Labelled) → AllAdd ls → Adds Flow (in_order (map (λ c. c.body (calls names items level)) ls)) (in_order (map (λ c. c.body (calls names items level)) ls))
  of_labelled [] a = adds_kept.steps.on_pure Normal
  of_labelled (l ∷ ls) a = adds_kept.steps.on_then a.0 (λ flow. on_next Adds adds_kept flow (of_labelled ls a.1))

  of_clauses : (cs : List Clause) → Adds Flow (in_order (map (λ c. c.body (calls names items level)) (map clause cs))) (in_order (map (λ c. c.body (calls names items level)) (map clause cs)))
  of_clauses cs = of_labelled (map clause cs) (all_add cs)

  of_chosen : (word : ℕ) (cs : List Clause) → Adds Flow (in_order (map (λ c. c.body (calls names items level)) (chosen word (map clause cs)))) (in_order (map (λ c. c.body (calls names items level)) (chosen word (map clause cs))))
  of_chosen word cs = of_labelled (chosen word (map clause cs)) (or_add (from_label (Some word) (map clause cs)) (from_label None (map clause cs)) (from_add (Some word) (map clause cs) (all_add cs)) (from_add None (map clause cs) (all_add cs)))

  of_loop : (l : Loop) → Adds Flow (loop_of (calls names items level) l) (loop_of (calls names items level) l)
  of_loop l = adds_kept.on_loop _ _ _ _ _ _ (of_test l) (of_next l) (of_statement (body_is l))

  pub of_flow : (f : OnFlow) (flow : Flow) → Adds Given (with_flow names items level f flow) (with_flow names items level f flow)
  of_flow (on_flow.Stmts cs) flow = flow_adds _ (on_next Adds adds_kept flow (of_all cs.now))
  of_flow (on_flow.Locals ds) flow = flow_adds _ (on_next Adds adds_kept flow (of_locals ds.now))
  of_flow (on_flow.Clauses cs) flow = flow_adds _ (on_next Adds adds_kept flow (of_clauses cs.now))
  of_flow on_flow.CloseScope flow = flow_adds _ (adds_kept.steps.on_then (adds_kept.steps.on_variables close_scope on-close_scope) (λ u. adds_kept.steps.on_pure flow))
  of_flow (on_flow.Loop l) flow = flow_adds _ (on_next Adds adds_kept flow (of_loop l))
  of_flow (on_flow.AfterFirst test body) flow = flow_adds _ (on_after_body Adds adds_kept flow (adds_kept.on_loop _ _ _ _ _ _ (of_expression test.now) (adds_kept.steps.on_pure tt) (of_statement body.now)))
  of_flow (on_flow.AfterTurn left l) flow = flow_adds _ (on_after_body Adds adds_kept flow (adds_kept.steps.on_then (of_next l) (λ u. of_turns left l)))
  of_flow on_flow.EndSwitch flow = flow_adds _ (adds_kept.steps.on_pure (after_switch flow))
  of_flow (on_flow.Leave scopes is_unsigned) flow = value_adds _ (adds_kept.steps.on_then (adds_kept.steps.on_variables (close_call scopes) (on-close_call scopes)) (λ u. adds_kept.steps.on_pure (call_result is_unsigned flow)))

  of_branch : (b : Option Stmt) → Adds Flow (or_nothing (option_map statement b) (calls names items level)) (or_nothing (option_map statement b) (calls names items level))
  of_branch None = adds_kept.steps.on_pure Normal
  of_branch (Some c) = of_statement c

  pub of_value : (f : OnValue) (v : Value) → Adds Given (with_value names items level f v) (with_value names items level f v)
  of_value (on_value.IndexOf name) i = adds_kept.steps.on_then (adds_kept.steps.on_then (adds_kept.steps.on_variables (check_index name i.word) (on-check_index name i.word)) (λ u. adds_kept.steps.on_pure (Element name i.word))) (λ p. adds_kept.steps.on_pure (given.Place p))
  of_value (on_value.Args name others vs) v = value_adds _ (adds_kept.steps.on_then (of_values others.now) (λ ws. same name (vs ++ v ∷ ws)))
  of_value (on_value.Unary op) x = value_adds _ (adds_kept.steps.on_pure (operate_unary op x))
  of_value (on_value.Right op right) x = value_adds _ (adds_kept.steps.on_then (of_expression right.now) (λ y. on_lift Adds adds_kept (operate op x y)))
  of_value (on_value.Operate op x) y = value_adds _ (on_lift Adds adds_kept (operate op x y))
  of_value (on_value.Logic true right) x = value_adds _ (on_if Adds adds_kept (is_zero x) (adds_kept.steps.on_pure (truth false)) (adds_kept.steps.on_then (of_expression right.now) (λ y. adds_kept.steps.on_pure (truth (not (is_zero y))))))
  of_value (on_value.Logic false right) x = value_adds _ (on_if Adds adds_kept (is_zero x) (adds_kept.steps.on_then (of_expression right.now) (λ y. adds_kept.steps.on_pure (truth (not (is_zero y))))) (adds_kept.steps.on_pure (truth true)))
  of_value on_value.Tested x = value_adds _ (adds_kept.steps.on_pure (truth (not (is_zero x))))
  of_value (on_value.Choose a b) t = value_adds _ (adds_kept.steps.on_then (adds_kept.steps.on_variables types_now on-types_now) (λ types. adds_kept.steps.on_then (on_if Adds adds_kept (is_zero t) (of_expression b.now) (of_expression a.now)) (λ v. adds_kept.steps.on_pure (converted (arms_type (calls names items level) a.now b.now types) v))))
  of_value (on_value.Convert is_unsigned) v = value_adds _ (adds_kept.steps.on_pure (converted is_unsigned v))
  of_value (on_value.Store p) v = value_adds _ (store_adds p v.word)
  of_value (on_value.StoreBy op p old) v = value_adds _ (adds_kept.steps.on_then (on_lift Adds adds_kept (operate op old v)) (λ new. store_adds p new.word))
  of_value (on_value.Second right) v = value_adds _ (of_expression right.now)
  of_value (on_value.EndActive before) v = record { at = λ words s. refl }
  of_value on_value.Discard v = flow_adds _ (adds_kept.steps.on_pure Normal)
  of_value (on_value.Initialise name) v = flow_adds _ (adds_kept.steps.on_then (adds_kept.steps.on_variables (write name v.word) (on-write name v.word)) (λ u. adds_kept.steps.on_pure Normal))
  of_value (on_value.If a b) t = flow_adds _ (on_if Adds adds_kept (is_zero t) (of_branch b.now) (of_statement a.now))
  of_value (on_value.Test left l) t = flow_adds _ (on_if Adds adds_kept (is_zero t) (adds_kept.steps.on_pure Normal) (adds_kept.steps.on_then adds_kept.steps.on_spend (λ u. adds_kept.steps.on_then (of_statement (body_is l)) (λ flow. on_after_body Adds adds_kept flow (adds_kept.steps.on_then (of_next l) (λ w. of_turns left l))))))
  of_value (on_value.Next left l) v = flow_adds _ (of_turns left l)
  of_value (on_value.Switch cs) v = flow_adds _ (adds_kept.steps.on_then (of_chosen v.word cs.now) (λ flow. adds_kept.steps.on_pure (after_switch flow)))
  of_value on_value.Return v = flow_adds _ (adds_kept.steps.on_pure (Returns v))
