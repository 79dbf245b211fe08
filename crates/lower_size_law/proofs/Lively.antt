-- How many blocks of a statement can be reached, with how many branches: at most its cost, and one for each clause without a label.
use Rattle.std.proofs.Common.{◌≡◌, ◌≢◌, ℕ, ◌+◌, ◌*◌, ◌≤◌, Bool, true, false, List, [], ◌∷◌, ◌++◌, map, sum, length, Option, Some, None, refl, sym, subst, if◌then◌else◌, arith, length-append}
use Rattle.std.specs.List.{list_any}
use Rattle.std.proofs.lemmas.List.Sums.{sum_by-cons}
use Rattle.c_syntax.specs.declared.tree.Expr.{Expr}
use Rattle.c_syntax.specs.declared.tree.Local.{Local}
use Rattle.c_syntax.specs.declared.tree.Label.{Label}
use Rattle.c_syntax.specs.declared.tree.Label.TheVariants as label
use Rattle.c_syntax.specs.declared.tree.Stmt.{Stmt, roll-Stmt, map-Stmt, ind-Stmt, fold-roll-Stmt}
use Rattle.c_syntax.specs.declared.tree.Clause.{Clause, roll-Clause, map-Clause, fold-roll-Clause}
use Rattle.c_syntax.specs.declared.tree.Stmt.TheOpen.{Stmt-F, Clause-F}
use Rattle.c_syntax.specs.declared.tree.TopItem.{TopItem}
use Rattle.c_syntax.specs.Sizes.{or_zero}
use Rattle.c_meaning.specs.Meaning.{is_label, label_word}
use Rattle.c_syntax.specs.Costs.{call_cost, expression_cost, local_cost, label_cost, statement_cost_step, clause_cost_step, statement_cost, clause_cost}
use Rattle.mid_blocks.specs.declared.code.MidStep.TheVariants.{Constant, Copy}
use Rattle.mid_blocks.specs.declared.code.MidEnd.TheVariants.{Jump, Branch}
use Rattle.mid_blocks.specs.Lines.{Line, Step, End}
use Rattle.lower_rules.specs.Bindings.{Bindings}
use Rattle.lower_rules.specs.Expressions.{LowExpr, low, callee_blocks}
use Rattle.lower_rules.specs.Statements.{Context, LowStmt, in_loop, value_blocks, value_lines, test_blocks, test_lines_if, low_if, list_blocks, list_lines, local_variable, first_lines, low_local, low_list, low_selection, low_while, low_do, low_for, LowClause, low_clause_step, case_count, case_lines, cases_count, cases_lines, block_of, clauses_blocks, clauses_lines, low_switch, low_clause, low_statement_step, low_statement}
use Rattle.c_syntax.specs.Labels.{none_first, unlabelled_step, unlabelled_clause_step, unlabelled, unlabelled_in_clause}
use Rattle.lower_law.proofs.ExpressionSizes.{branches, branches-append, sized}
use Rattle.lower_valid_law.proofs.AimsExpressions.{Not_, aim}
use Rattle.lower_size_law.proofs.Reach.{count, count_no, reach_inside_all, upto, upto_length, Reach, reach_more, reach_none, reach_steps, reach_jump, reach_branch, reach_join, reach_step, reach_inside, reach_seg}

-- the block y is none of those where a context's jumps go
pub record Away (to : Context) (y : ℕ) : Type 0 where
  pub breaks : to.breaks_to ≢ y
  pub continues : to.continues_to ≢ y
  pub returns : to.returns_to ≢ y

abbrev Anywhere : ℕ → Type 0
Anywhere y = Unit {0}

pub record Live (l : LowStmt) (cost : ℕ) : Type 0 where
  pub starts : ℕ → List ℕ
  pub reach : (to : Context) (b : ℕ) → Reach (Away to) b l.blocks (starts b) (l.lines to b)
  pub few : (to : Context) (b : ℕ) → length (starts b) + branches (l.lines to b) ≤ cost

record LiveClause (c : LowClause) (cost : ℕ) : Type 0 where
  pub starts : ℕ → List ℕ
  pub reach : (to : Context) (b : ℕ) → Reach (Away to) b c.body.blocks (starts b) (c.body.lines to b)
  pub few : (to : Context) (b : ℕ) → 1 + 2 * case_count c.labels + length (starts b) + branches (c.body.lines to b) ≤ cost

module _ (items : List TopItem) (names : Bindings) (calls_cost : (name : ℕ) → callee_blocks (names.callee name) ≤ call_cost items name) where
  -- ---- expressions

  value_reach : (e : Expr) (O : ℕ → Type 0) (n t : ℕ) → Reach O n (low names e).blocks (upto n (low names e).blocks) ((low names e).value n t)
  value_reach e O n t = reach_more Anywhere O n _ _ _ (λ y o. tt) (reach_seg Anywhere n (low names e).blocks ((low names e).value n t) (λ y. (aim y names e).value n t))

  test_reach : (e : Expr) (n t h f : ℕ) (nx : Bool) → Reach (λ y. Not_ y h f) n (low names e).condition_blocks (upto n (low names e).condition_blocks) ((low names e).condition n t h f nx)
  test_reach e n t h f nx = reach_seg (λ y. Not_ y h f) n (low names e).condition_blocks ((low names e).condition n t h f nx) (λ y. (aim y names e).test n t h f nx)

  value_few : (e : Expr) (n t : ℕ) → length (upto n (low names e).blocks) + branches ((low names e).value n t) ≤ expression_cost items e
  value_few e n t = omega (arith, upto_length n (low names e).blocks, (sized items names calls_cost e).value_blocks n t)

  test_few : (e : Expr) (n t h f : ℕ) (nx : Bool) → length (upto n (low names e).condition_blocks) + branches ((low names e).condition n t h f nx) ≤ expression_cost items e + 2
  test_few e n t h f nx = omega (arith, upto_length n (low names e).condition_blocks, (sized items names calls_cost e).condition_blocks n t h f nx)

  if_value_reach : (e : Option Expr) (O : ℕ → Type 0) (n t : ℕ) → Reach O n (value_blocks (low_if names e)) (upto n (value_blocks (low_if names e))) (value_lines (low_if names e) n t)
  if_value_reach None O n t = reach_none O n
  if_value_reach (Some e) O n t = value_reach e O n t

  if_test_reach : (e : Option Expr) (n t h f : ℕ) → Reach (λ y. Not_ y h f) n (test_blocks (low_if names e)) (upto n (test_blocks (low_if names e))) (test_lines_if (low_if names e) n t h f)
  if_test_reach None n t h f = reach_none (λ y. Not_ y h f) n
  if_test_reach (Some e) n t h f = test_reach e n t h f true

  if_value_few : (e : Option Expr) (n t : ℕ) → length (upto n (value_blocks (low_if names e))) + branches (value_lines (low_if names e) n t) ≤ or_zero (expression_cost items) e
  if_value_few None n t = omega arith
  if_value_few (Some e) n t = value_few e n t

  if_test_few : (e : Option Expr) (n t h f : ℕ) → length (upto n (test_blocks (low_if names e))) + branches (test_lines_if (low_if names e) n t h f) ≤ or_zero (expression_cost items) e + 2
  if_test_few None n t h f = omega arith
  if_test_few (Some e) n t h f = test_few e n t h f true

  -- ---- declarations

  local_live : (d : Local) → Live (low_local names d) (local_cost items d)
  local_live d = by d.first (local_variable (names.variable d.name))
    where
      by : (o : Option Expr) (v : ℕ) → Live (let l : LowStmt = record { blocks = value_blocks (low_if names o); lines = λ to b. Step (Constant v 0) ∷ first_lines (low_if names o) v b to.free } in l) (or_zero (expression_cost items) o)
      by None v = record { starts = λ b. []; reach = λ to b. reach_steps (Away to) b (Step (Constant v 0) ∷ []) refl; few = λ to b. omega arith }
      by (Some e) v =
          let l : LowExpr = low names e in
          record {
            starts = λ b. upto b l.blocks ++ [];
            reach = λ to b. reach_step (Away to) b l.blocks _ _ _ (reach_join (Away to) b (b + l.blocks) l.blocks 0 l.blocks (upto b l.blocks) [] (l.value b to.free) (Step (Copy v to.free) ∷ []) refl (omega arith) (value_reach e (Away to) b to.free) (reach_steps (Away to) (b + l.blocks) (Step (Copy v to.free) ∷ []) refl));
            few = λ to b. omega (arith, length-append (upto b l.blocks) [], branches-append (l.value b to.free) (Step (Copy v to.free) ∷ []), value_few e b to.free);
          }

  both : (l : LowStmt) (ls : List LowStmt) (m n : ℕ) → Live l m → Live (low_list ls) n → Live (low_list (l ∷ ls)) (m + n)
  both l ls m n p q = record {
    starts = λ b. p.starts b ++ q.starts (b + l.blocks);
    reach = λ to b. reach_join (Away to) b (b + l.blocks) l.blocks (list_blocks ls) (l.blocks + list_blocks ls) (p.starts b) (q.starts (b + l.blocks)) (l.lines to b) _ refl refl (p.reach to b) (q.reach to (b + l.blocks));
    few = λ to b. omega (arith, length-append (p.starts b) (q.starts (b + l.blocks)), branches-append (l.lines to b) (list_lines ls to (b + l.blocks)), p.few to b, q.few to (b + l.blocks));
  }

  none : Live (low_list []) 0
  none = record { starts = λ b. []; reach = λ to b. reach_none (Away to) b; few = λ to b. omega arith }

  locals_live : (ds : List Local) → Live (low_list (map (low_local names) ds)) (sum (map (local_cost items) ds))
  locals_live [] = none
  locals_live (d ∷ ds) = subst (λ n. Live (low_list (map (low_local names) (d ∷ ds))) n) (sym (sum_by-cons (λ n. n) (local_cost items d) (map (local_cost items) ds))) (both (low_local names d) (map (low_local names) ds) (local_cost items d) (sum (map (local_cost items) ds)) (local_live d) (locals_live ds))

  -- ---- one after another

  abbrev LiveOf : Stmt → Type 0
  LiveOf c = Live (low_statement names c) (statement_cost items c + unlabelled c)

  abbrev ClauseOf : Clause → Type 0
  ClauseOf c = LiveClause (low_clause names c) (clause_cost items c + unlabelled_in_clause c)

  abbrev Part : Type 0
  Part = (c : Stmt) × LiveOf c

  abbrev ClausePart : Type 0
  ClausePart = (c : Clause) × ClauseOf c

  abbrev stmts : List Part → List Stmt
  stmts cs = map (λ c. c.0) cs

  abbrev the_clauses : List ClausePart → List Clause
  the_clauses cs = map (λ c. c.0) cs

  list_live : (cs : List Part) → Live (low_list (map (low_statement names) (stmts cs))) (sum (map (statement_cost items) (stmts cs)) + sum (map unlabelled (stmts cs)))
  list_live [] = none
  list_live (c ∷ cs) =
      let m : ℕ = statement_cost items c.0 + unlabelled c.0 in
      let n : ℕ = sum (map (statement_cost items) (stmts cs)) + sum (map unlabelled (stmts cs)) in
      let e : m + n ≡ sum (map (statement_cost items) (stmts (c ∷ cs))) + sum (map unlabelled (stmts (c ∷ cs))) = omega (arith, sum_by-cons (λ k. k) (statement_cost items c.0) (map (statement_cost items) (stmts cs)), sum_by-cons (λ k. k) (unlabelled c.0) (map unlabelled (stmts cs))) in
      subst (λ k. Live (low_list (map (low_statement names) (stmts (c ∷ cs)))) k) e (both (low_statement names c.0) (map (low_statement names) (stmts cs)) m n c.1 (list_live cs))

  -- ---- selection and loops

  if_live : (e : Expr) (l : LowStmt) (n : ℕ) → Live l n → Live (low_selection (low names e) l None) (6 + expression_cost items e + n)
  if_live e l n p =
      let lt : LowExpr = low names e in
      record {
        starts = λ b. (b + lt.condition_blocks) ∷ ((b + lt.condition_blocks + l.blocks + 1) ∷ (upto b lt.condition_blocks ++ (p.starts (b + lt.condition_blocks) ++ [])));
        reach = λ to b.
            let holds : ℕ = b + lt.condition_blocks in let join : ℕ = holds + l.blocks + 1 in
            let m : ℕ = lt.condition_blocks + l.blocks + 1 in
            let O1 : ℕ → Type 0 = λ y. Away to y × (holds ≢ y) in let O2 : ℕ → Type 0 = λ y. O1 y × (join ≢ y) in
            reach_inside (Away to) b m holds _ _ (reach_inside O1 b m join _ _
            (reach_join O2 b holds lt.condition_blocks (l.blocks + 1) m (upto b lt.condition_blocks) _ (lt.condition b to.free holds join true) _ refl (omega arith)
            (reach_more (λ y. Not_ y holds join) O2 b lt.condition_blocks _ _ (λ y o. (o.0.1, o.1)) (test_reach e b to.free holds join true))
            (reach_join O2 holds (holds + l.blocks) l.blocks 1 (l.blocks + 1) (p.starts holds) [] (l.lines to holds) _ refl refl
            (reach_more (Away to) O2 holds l.blocks _ _ (λ y o. o.0.0) (p.reach to holds)) (reach_jump O2 (holds + l.blocks) join (λ y o. o.1)))));
        few = λ to b.
            let holds : ℕ = b + lt.condition_blocks in let join : ℕ = holds + l.blocks + 1 in
            let body : List Line = l.lines to holds in
            omega (
              arith,
              test_few e b to.free holds join true,
              p.few to holds,
              length-append (upto b lt.condition_blocks) (p.starts holds ++ []),
              length-append (p.starts holds) [],
              branches-append (lt.condition b to.free holds join true) (body ++ End (Jump join) ∷ []),
              branches-append body (End (Jump join) ∷ []),
            );
      }

  if_else_live : (e : Expr) (la lb : LowStmt) (m n : ℕ) → Live la m → Live lb n → Live (low_selection (low names e) la (Some lb)) (6 + expression_cost items e + m + n)
  if_else_live e la lb m' n' p q =
      let lt : LowExpr = low names e in
      record {
        starts = λ b.
            let holds : ℕ = b + lt.condition_blocks in let fails : ℕ = holds + la.blocks + 1 in let join : ℕ = fails + lb.blocks + 1 in
            let r : List ℕ = holds ∷ (fails ∷ (join ∷ (upto b lt.condition_blocks ++ (p.starts holds ++ ([] ++ (q.starts fails ++ [])))))) in r;
        reach = λ to b.
            let holds : ℕ = b + lt.condition_blocks in let fails : ℕ = holds + la.blocks + 1 in let join : ℕ = fails + lb.blocks + 1 in
            let m : ℕ = lt.condition_blocks + la.blocks + 1 + lb.blocks + 1 in
            let O1 : ℕ → Type 0 = λ y. Away to y × (holds ≢ y) in let O2 : ℕ → Type 0 = λ y. O1 y × (fails ≢ y) in let O3 : ℕ → Type 0 = λ y. O2 y × (join ≢ y) in
            reach_inside (Away to) b m holds _ _ (reach_inside O1 b m fails _ _ (reach_inside O2 b m join _ _
            (reach_join O3 b holds lt.condition_blocks (la.blocks + (1 + (lb.blocks + 1))) m (upto b lt.condition_blocks) _ (lt.condition b to.free holds fails true) _ refl (omega arith)
            (reach_more (λ y. Not_ y holds fails) O3 b lt.condition_blocks _ _ (λ y o. (o.0.0.1, o.0.1)) (test_reach e b to.free holds fails true))
            (reach_join O3 holds (holds + la.blocks) la.blocks (1 + (lb.blocks + 1)) (la.blocks + (1 + (lb.blocks + 1))) (p.starts holds) _ (la.lines to holds) _ refl refl
            (reach_more (Away to) O3 holds la.blocks _ _ (λ y o. o.0.0.0) (p.reach to holds))
            (reach_join O3 (holds + la.blocks) fails 1 (lb.blocks + 1) (1 + (lb.blocks + 1)) [] _ (End (Jump join) ∷ []) _ refl refl (reach_jump O3 (holds + la.blocks) join (λ y o. o.1))
            (reach_join O3 fails (fails + lb.blocks) lb.blocks 1 (lb.blocks + 1) (q.starts fails) [] (lb.lines to fails) _ refl refl
            (reach_more (Away to) O3 fails lb.blocks _ _ (λ y o. o.0.0.0) (q.reach to fails)) (reach_jump O3 (fails + lb.blocks) join (λ y o. o.1))))))));
        few = λ to b.
            let holds : ℕ = b + lt.condition_blocks in let fails : ℕ = holds + la.blocks + 1 in let join : ℕ = fails + lb.blocks + 1 in
            let in_yes : List Line = la.lines to holds in let in_no : List Line = lb.lines to fails in
            omega (
              arith,
              test_few e b to.free holds fails true,
              p.few to holds,
              q.few to fails,
              length-append (upto b lt.condition_blocks) (p.starts holds ++ ([] ++ (q.starts fails ++ []))),
              length-append (p.starts holds) ([] ++ (q.starts fails ++ [])),
              length-append (q.starts fails) [],
              branches-append (lt.condition b to.free holds fails true) (in_yes ++ (End (Jump join) ∷ (in_no ++ End (Jump join) ∷ []))),
              branches-append in_yes (End (Jump join) ∷ (in_no ++ End (Jump join) ∷ [])),
              branches-append in_no (End (Jump join) ∷ []),
            );
      }

  while_live : (e : Expr) (l : LowStmt) (n : ℕ) → Live l n → Live (low_while (low names e) l) (8 + expression_cost items e + n)
  while_live e l n p =
      let lt : LowExpr = low names e in
      record {
        starts = λ b.
            let head : ℕ = b + 1 in let inside : ℕ = head + lt.condition_blocks in let exit : ℕ = inside + l.blocks + 1 in
            let r : List ℕ = head ∷ (inside ∷ (exit ∷ ([] ++ (upto head lt.condition_blocks ++ (p.starts inside ++ []))))) in r;
        reach = λ to b.
            let head : ℕ = b + 1 in let inside : ℕ = head + lt.condition_blocks in let exit : ℕ = inside + l.blocks + 1 in
            let m : ℕ = 1 + lt.condition_blocks + l.blocks + 1 in
            let to' : Context = in_loop exit head to in
            let O1 : ℕ → Type 0 = λ y. Away to y × (head ≢ y) in let O2 : ℕ → Type 0 = λ y. O1 y × (inside ≢ y) in let O3 : ℕ → Type 0 = λ y. O2 y × (exit ≢ y) in
            reach_inside (Away to) b m head _ _ (reach_inside O1 b m inside _ _ (reach_inside O2 b m exit _ _
            (reach_join O3 b head 1 (lt.condition_blocks + (l.blocks + 1)) m [] _ (End (Jump head) ∷ []) _ refl (omega arith) (reach_jump O3 b head (λ y o. o.0.0.1))
            (reach_join O3 head inside lt.condition_blocks (l.blocks + 1) (lt.condition_blocks + (l.blocks + 1)) (upto head lt.condition_blocks) _ (lt.condition head to.free inside exit true) _ refl refl
            (reach_more (λ y. Not_ y inside exit) O3 head lt.condition_blocks _ _ (λ y o. (o.0.1, o.1)) (test_reach e head to.free inside exit true))
            (reach_join O3 inside (inside + l.blocks) l.blocks 1 (l.blocks + 1) (p.starts inside) [] (l.lines to' inside) _ refl refl
            (reach_more (Away to') O3 inside l.blocks _ _ (λ y o. record { breaks = o.1; continues = o.0.0.1; returns = o.0.0.0.returns }) (p.reach to' inside))
            (reach_jump O3 (inside + l.blocks) head (λ y o. o.0.0.1)))))));
        few = λ to b.
            let head : ℕ = b + 1 in let inside : ℕ = head + lt.condition_blocks in let exit : ℕ = inside + l.blocks + 1 in
            let to' : Context = in_loop exit head to in
            let body : List Line = l.lines to' inside in
            omega (
              arith,
              test_few e head to.free inside exit true,
              p.few to' inside,
              length-append (upto head lt.condition_blocks) (p.starts inside ++ []),
              length-append (p.starts inside) [],
              branches-append (lt.condition head to.free inside exit true) (body ++ End (Jump head) ∷ []),
              branches-append body (End (Jump head) ∷ []),
            );
      }

  do_live : (e : Expr) (l : LowStmt) (n : ℕ) → Live l n → Live (low_do l (low names e)) (8 + n + expression_cost items e)
  do_live e l n p =
      let lt : LowExpr = low names e in
      record {
        starts = λ b.
            let inside : ℕ = b + 1 in let head : ℕ = inside + l.blocks + 1 in let exit : ℕ = head + lt.condition_blocks in
            let r : List ℕ = inside ∷ (head ∷ (exit ∷ ([] ++ (p.starts inside ++ ([] ++ upto head lt.condition_blocks))))) in r;
        reach = λ to b.
            let inside : ℕ = b + 1 in let head : ℕ = inside + l.blocks + 1 in let exit : ℕ = head + lt.condition_blocks in
            let m : ℕ = 1 + l.blocks + 1 + lt.condition_blocks in
            let to' : Context = in_loop exit head to in
            let O1 : ℕ → Type 0 = λ y. Away to y × (inside ≢ y) in let O2 : ℕ → Type 0 = λ y. O1 y × (head ≢ y) in let O3 : ℕ → Type 0 = λ y. O2 y × (exit ≢ y) in
            reach_inside (Away to) b m inside _ _ (reach_inside O1 b m head _ _ (reach_inside O2 b m exit _ _
            (reach_join O3 b inside 1 (l.blocks + (1 + lt.condition_blocks)) m [] _ (End (Jump inside) ∷ []) _ refl (omega arith) (reach_jump O3 b inside (λ y o. o.0.0.1))
            (reach_join O3 inside (inside + l.blocks) l.blocks (1 + lt.condition_blocks) (l.blocks + (1 + lt.condition_blocks)) (p.starts inside) _ (l.lines to' inside) _ refl refl
            (reach_more (Away to') O3 inside l.blocks _ _ (λ y o. record { breaks = o.1; continues = o.0.1; returns = o.0.0.0.returns }) (p.reach to' inside))
            (reach_join O3 (inside + l.blocks) head 1 lt.condition_blocks (1 + lt.condition_blocks) [] (upto head lt.condition_blocks) (End (Jump head) ∷ []) _ refl refl (reach_jump O3 (inside + l.blocks) head (λ y o. o.0.1))
            (reach_more (λ y. Not_ y inside exit) O3 head lt.condition_blocks _ _ (λ y o. (o.0.0.1, o.1)) (test_reach e head to.free inside exit false)))))));
        few = λ to b.
            let inside : ℕ = b + 1 in let head : ℕ = inside + l.blocks + 1 in let exit : ℕ = head + lt.condition_blocks in
            let to' : Context = in_loop exit head to in
            let test : List Line = lt.condition head to.free inside exit false in
            omega (arith, test_few e head to.free inside exit false, p.few to' inside, length-append (p.starts inside) (upto head lt.condition_blocks), branches-append (l.lines to' inside) (End (Jump head) ∷ test));
      }

  for_live : (test next : Option Expr) (l1 l2 : LowStmt) (n1 n2 : ℕ) → Live l1 n1 → Live l2 n2 → Live (low_for l1 (low_if names test) (low_if names next) l2) (8 + n1 + or_zero (expression_cost items) test + or_zero (expression_cost items) next + n2)
  for_live test next l1 l2 n1 n2 p q =
      let tb : ℕ = test_blocks (low_if names test) in let nb : ℕ = value_blocks (low_if names next) in
      record {
        starts = λ b.
            let head : ℕ = b + l1.blocks + 1 in let inside : ℕ = head + tb in let after : ℕ = inside + l2.blocks + 1 in let exit : ℕ = after + nb + 1 in
            let r : List ℕ = head ∷ (inside ∷ (after ∷ (exit ∷ (p.starts b ++ ([] ++ (upto head tb ++ (q.starts inside ++ ([] ++ (upto after nb ++ []))))))))) in r;
        reach = λ to b.
            let head : ℕ = b + l1.blocks + 1 in let inside : ℕ = head + tb in let after : ℕ = inside + l2.blocks + 1 in let exit : ℕ = after + nb + 1 in
            let m : ℕ = l1.blocks + 1 + tb + l2.blocks + 1 + nb + 1 in
            let to' : Context = in_loop exit after to in
            let O1 : ℕ → Type 0 = λ y. Away to y × (head ≢ y) in let O2 : ℕ → Type 0 = λ y. O1 y × (inside ≢ y) in let O3 : ℕ → Type 0 = λ y. O2 y × (after ≢ y) in let O4 : ℕ → Type 0 = λ y. O3 y × (exit ≢ y) in
            reach_inside (Away to) b m head _ _ (reach_inside O1 b m inside _ _ (reach_inside O2 b m after _ _ (reach_inside O3 b m exit _ _
            (reach_join O4 b (b + l1.blocks) l1.blocks (1 + (tb + (l2.blocks + (1 + (nb + 1))))) m (p.starts b) _ (l1.lines to b) _ refl (omega arith) (reach_more (Away to) O4 b l1.blocks _ _ (λ y o. o.0.0.0.0) (p.reach to b))
            (reach_join O4 (b + l1.blocks) head 1 (tb + (l2.blocks + (1 + (nb + 1)))) (1 + (tb + (l2.blocks + (1 + (nb + 1))))) [] _ (End (Jump head) ∷ []) _ refl refl (reach_jump O4 (b + l1.blocks) head (λ y o. o.0.0.0.1))
            (reach_join O4 head inside tb (l2.blocks + (1 + (nb + 1))) (tb + (l2.blocks + (1 + (nb + 1)))) (upto head tb) _ (test_lines_if (low_if names test) head to.free inside exit) _ refl refl
            (reach_more (λ y. Not_ y inside exit) O4 head tb _ _ (λ y o. (o.0.0.1, o.1)) (if_test_reach test head to.free inside exit))
            (reach_join O4 inside (inside + l2.blocks) l2.blocks (1 + (nb + 1)) (l2.blocks + (1 + (nb + 1))) (q.starts inside) _ (l2.lines to' inside) _ refl refl
            (reach_more (Away to') O4 inside l2.blocks _ _ (λ y o. record { breaks = o.1; continues = o.0.1; returns = o.0.0.0.0.returns }) (q.reach to' inside))
            (reach_join O4 (inside + l2.blocks) after 1 (nb + 1) (1 + (nb + 1)) [] _ (End (Jump after) ∷ []) _ refl refl (reach_jump O4 (inside + l2.blocks) after (λ y o. o.0.1))
            (reach_join O4 after (after + nb) nb 1 (nb + 1) (upto after nb) [] (value_lines (low_if names next) after to.free) _ refl refl (if_value_reach next O4 after to.free) (reach_jump O4 (after + nb) head (λ y o. o.0.0.0.1)))))))))));
        few = λ to b.
            let head : ℕ = b + l1.blocks + 1 in let inside : ℕ = head + tb in let after : ℕ = inside + l2.blocks + 1 in let exit : ℕ = after + nb + 1 in
            let to' : Context = in_loop exit after to in
            let first : List Line = l1.lines to b in
            let xs : List Line = test_lines_if (low_if names test) head to.free inside exit in
            let body : List Line = l2.lines to' inside in
            let ns : List Line = value_lines (low_if names next) after to.free in
            let r4 : List Line = ns ++ End (Jump head) ∷ [] in
            let r3 : List Line = body ++ (End (Jump after) ∷ r4) in
            let s3 : List ℕ = upto after nb ++ [] in
            let s2 : List ℕ = q.starts inside ++ ([] ++ s3) in
            let s1 : List ℕ = upto head tb ++ s2 in
            omega (
              arith,
              p.few to b,
              q.few to' inside,
              if_test_few test head to.free inside exit,
              if_value_few next after to.free,
              length-append (p.starts b) ([] ++ s1),
              length-append (upto head tb) s2,
              length-append (q.starts inside) ([] ++ s3),
              length-append (upto after nb) [],
              branches-append first (End (Jump head) ∷ (xs ++ r3)),
              branches-append xs r3,
              branches-append body (End (Jump after) ∷ r4),
              branches-append ns (End (Jump head) ∷ []),
            );
      }

  -- ---- `switch`

  -- the blocks where clauses begin, and the one behind them
  abbrev clause_starts : List LowClause → ℕ → List ℕ
  clause_starts [] at = at ∷ []
  clause_starts (c ∷ cs) at = at ∷ clause_starts cs (at + c.body.blocks + 1)

  first_not : (cs : List LowClause) (at y : ℕ) → count y (clause_starts cs at) ≡ 0 → at ≢ y
  first_not [] at y h = count_no at y (omega (arith, h))
  first_not (c ∷ cs) at y h = count_no at y (omega (arith, h))

  end_not : (cs : List LowClause) (at y : ℕ) → count y (clause_starts cs at) ≡ 0 → at + clauses_blocks cs ≢ y
  end_not [] at y h e = first_not [] at y h (omega (arith, e))
  end_not (c ∷ cs) at y h e = end_not cs (at + c.body.blocks + 1) y (omega (arith, h)) (omega (arith, e))

  target_not : (l : Option ℕ) (cs : List LowClause) (at y : ℕ) → count y (clause_starts cs at) ≡ 0 → block_of l cs at ≢ y
  target_not l [] at y h = first_not [] at y h
  target_not l (c ∷ cs) at y h = by (list_any (is_label l) c.labels) (target_not l cs (at + c.body.blocks + 1) y (omega (arith, h)))
    where
      by : (b : Bool) → block_of l cs (at + c.body.blocks + 1) ≢ y → (let k : ℕ = if b then at else block_of l cs (at + c.body.blocks + 1) in k) ≢ y
      by true later = first_not (c ∷ cs) at y h
      by false later = later

  abbrev case_starts : List (Option ℕ) → ℕ → List ℕ
  case_starts [] n = []
  case_starts (None ∷ ls) n = case_starts ls n
  case_starts (Some word ∷ ls) n = (n + 1) ∷ case_starts ls (n + 1)

  case_length : (ls : List (Option ℕ)) (n : ℕ) → length (case_starts ls n) ≡ case_count ls
  case_length [] n = refl
  case_length (None ∷ ls) n = case_length ls n
  case_length (Some word ∷ ls) n = omega (arith, case_length ls (n + 1))

  case_branches : (ls : List (Option ℕ)) (at t : ℕ) → branches (case_lines ls at t) ≡ case_count ls
  case_branches [] at t = refl
  case_branches (None ∷ ls) at t = case_branches ls at t
  case_branches (Some word ∷ ls) at t = omega (arith, case_branches ls at t)

  case_reach : (ls : List (Option ℕ)) (O : ℕ → Type 0) (n at t : ℕ) → ((y : ℕ) → O y → at ≢ y) → Reach O n (case_count ls) (case_starts ls n) (case_lines ls at t)
  case_reach [] O n at t f = reach_none O n
  case_reach (None ∷ ls) O n at t f = case_reach ls O n at t f
  case_reach (Some word ∷ ls) O n at t f =
      reach_step O n (1 + case_count ls) _ _ _ (reach_step O n (1 + case_count ls) _ _ _
      (reach_join O n (n + 1) 1 (case_count ls) (1 + case_count ls) ((n + 1) ∷ []) (case_starts ls (n + 1)) (End (Branch (t + 1) true at) ∷ []) (case_lines ls at t) refl refl (reach_branch O n (t + 1) at true f) (case_reach ls O (n + 1) at t f)))

  abbrev cases_starts : List LowClause → ℕ → List ℕ
  cases_starts [] n = []
  cases_starts (c ∷ cs) n = case_starts c.labels n ++ cases_starts cs (n + case_count c.labels)

  cases_length : (cs : List LowClause) (n : ℕ) → length (cases_starts cs n) ≡ cases_count cs
  cases_length [] n = refl
  cases_length (c ∷ cs) n = omega (arith, length-append (case_starts c.labels n) (cases_starts cs (n + case_count c.labels)), case_length c.labels n, cases_length cs (n + case_count c.labels))

  cases_branches : (cs : List LowClause) (at t : ℕ) → branches (cases_lines cs at t) ≡ cases_count cs
  cases_branches [] at t = refl
  cases_branches (c ∷ cs) at t = omega (arith, branches-append (case_lines c.labels at t) (cases_lines cs (at + c.body.blocks + 1) t), case_branches c.labels at t, cases_branches cs (at + c.body.blocks + 1) t)

  cases_reach : (cs : List LowClause) (O : ℕ → Type 0) (n at t : ℕ) → ((y : ℕ) → O y → count y (clause_starts cs at) ≡ 0) → Reach O n (cases_count cs) (cases_starts cs n) (cases_lines cs at t)
  cases_reach [] O n at t f = reach_none O n
  cases_reach (c ∷ cs) O n at t f =
      reach_join O n (n + case_count c.labels) (case_count c.labels) (cases_count cs) (case_count c.labels + cases_count cs) (case_starts c.labels n) (cases_starts cs (n + case_count c.labels)) (case_lines c.labels at t) _ refl refl
      (case_reach c.labels O n at t (λ y o. first_not (c ∷ cs) at y (f y o)))
      (cases_reach cs O (n + case_count c.labels) (at + c.body.blocks + 1) t (λ y o. let z = f y o in omega (arith, z)))

  record AllLive (cs : List LowClause) (cost : ℕ) : Type 0 where
    pub starts : ℕ → List ℕ
    pub reach : (to : Context) (at : ℕ) → Reach (λ y. Away to y × (count y (clause_starts cs at) ≡ 0)) at (clauses_blocks cs) (starts at) (clauses_lines cs to at)
    pub few : (to : Context) (at : ℕ) → length (clause_starts cs at) + 2 * cases_count cs + length (starts at) + branches (clauses_lines cs to at) ≤ cost + 1

  clauses_live : (cs : List ClausePart) → AllLive (map (low_clause names) (the_clauses cs)) (sum (map (clause_cost items) (the_clauses cs)) + sum (map unlabelled_in_clause (the_clauses cs)))
  clauses_live [] = record { starts = λ at. []; reach = λ to at. reach_none (λ y. Away to y × (count y (at ∷ []) ≡ 0)) at; few = λ to at. omega arith }
  clauses_live (c ∷ cs) =
      let l : LowClause = low_clause names c.0 in
      let ls : List LowClause = map (low_clause names) (the_clauses cs) in
      let r = clauses_live cs in
      record {
        starts = λ at. let x : List ℕ = c.1.starts at ++ ([] ++ r.starts (at + l.body.blocks + 1)) in x;
        reach = λ to at.
            let next : ℕ = at + l.body.blocks + 1 in
            let O : ℕ → Type 0 = λ y. Away to y × (count y (clause_starts (l ∷ ls) at) ≡ 0) in
            let later : (y : ℕ) → O y → count y (clause_starts ls next) ≡ 0 = λ y o. omega (arith, o.1) in
            reach_join O at (at + l.body.blocks) l.body.blocks (1 + clauses_blocks ls) (l.body.blocks + 1 + clauses_blocks ls) (c.1.starts at) _ (l.body.lines to at) _ refl (omega arith)
            (reach_more (Away to) O at l.body.blocks _ _ (λ y o. o.0) (c.1.reach to at))
            (reach_join O (at + l.body.blocks) next 1 (clauses_blocks ls) (1 + clauses_blocks ls) [] (r.starts next) (End (Jump next) ∷ []) _ refl refl (reach_jump O (at + l.body.blocks) next (λ y o. first_not ls next y (later y o)))
            (reach_more (λ y. Away to y × (count y (clause_starts ls next) ≡ 0)) O next (clauses_blocks ls) _ _ (λ y o. (o.0, later y o)) (r.reach to next)));
        few = λ to at.
            let next : ℕ = at + l.body.blocks + 1 in
            omega (
              arith,
              c.1.few to at,
              r.few to next,
              length-append (c.1.starts at) ([] ++ r.starts next),
              branches-append (l.body.lines to at) (End (Jump next) ∷ clauses_lines ls to next),
              sum_by-cons (λ n. n) (clause_cost items c.0) (map (clause_cost items) (the_clauses cs)),
              sum_by-cons (λ n. n) (unlabelled_in_clause c.0) (map unlabelled_in_clause (the_clauses cs)),
            );
      }

  switch_live : (e : Expr) (cs : List LowClause) (n : ℕ) → AllLive cs n → Live (low_switch (low names e) cs) (6 + expression_cost items e + n)
  switch_live e cs n p =
      let v : LowExpr = low names e in
      record {
        starts = λ b.
            let first : ℕ = b + v.blocks + cases_count cs + 1 in
            let r : List ℕ = clause_starts cs first ++ (upto b v.blocks ++ (cases_starts cs (b + v.blocks) ++ ([] ++ p.starts first))) in r;
        reach = λ to b.
            let at : ℕ = b + v.blocks in
            let j : ℕ = at + cases_count cs in
            let first : ℕ = b + v.blocks + cases_count cs + 1 in
            let m : ℕ = v.blocks + cases_count cs + 1 + clauses_blocks cs in
            let to' : Context = record to { breaks_to = first + clauses_blocks cs } in
            let O : ℕ → Type 0 = λ y. Away to y × (count y (clause_starts cs first) ≡ 0) in
            reach_inside_all (Away to) b m (clause_starts cs first) _ _
            (reach_join O b at v.blocks (cases_count cs + (1 + clauses_blocks cs)) m (upto b v.blocks) _ (v.value b to.free) _ refl (omega arith) (value_reach e O b to.free)
            (reach_join O at j (cases_count cs) (1 + clauses_blocks cs) (cases_count cs + (1 + clauses_blocks cs)) (cases_starts cs at) _ (cases_lines cs first to.free) _ refl refl (cases_reach cs O at first to.free (λ y o. o.1))
            (reach_join O j first 1 (clauses_blocks cs) (1 + clauses_blocks cs) [] (p.starts first) (End (Jump (block_of None cs first)) ∷ []) _ refl refl (reach_jump O j (block_of None cs first) (λ y o. target_not None cs first y o.1))
            (reach_more (λ y. Away to' y × (count y (clause_starts cs first) ≡ 0)) O first (clauses_blocks cs) _ _ (λ y o. (record { breaks = end_not cs first y o.1; continues = o.0.continues; returns = o.0.returns }, o.1)) (p.reach to' first)))));
        few = λ to b.
            let at : ℕ = b + v.blocks in
            let first : ℕ = b + v.blocks + cases_count cs + 1 in
            let to' : Context = record to { breaks_to = first + clauses_blocks cs } in
            let jump : List Line = End (Jump (block_of None cs first)) ∷ clauses_lines cs to' first in
            omega (
              arith,
              value_few e b to.free,
              p.few to' first,
              cases_length cs at,
              cases_branches cs first to.free,
              length-append (clause_starts cs first) (upto b v.blocks ++ (cases_starts cs at ++ ([] ++ p.starts first))),
              length-append (upto b v.blocks) (cases_starts cs at ++ ([] ++ p.starts first)),
              length-append (cases_starts cs at) ([] ++ p.starts first),
              branches-append (v.value b to.free) (cases_lines cs first to.free ++ jump),
              branches-append (cases_lines cs first to.free) jump,
            );
      }

  -- ---- all statements

  more : (l : LowStmt) (m n : ℕ) → m ≤ n → Live l m → Live l n
  more l m n le p = record { starts = p.starts; reach = p.reach; few = λ to b. omega (arith, le, p.few to b) }

  value_live : (e : Expr) → Live (let l : LowStmt = record { blocks = (low names e).blocks; lines = λ to b. (low names e).value b to.free } in l) (expression_cost items e + 0)
  value_live e = record { starts = λ b. upto b (low names e).blocks; reach = λ to b. value_reach e (Away to) b to.free; few = λ to b. omega (arith, value_few e b to.free) }

  return_live : (e : Option Expr) → Live (let l : LowStmt = record { blocks = value_blocks (low_if names e) + 1; lines = λ to b. value_lines (low_if names e) b to.free ++ End (Jump to.returns_to) ∷ [] } in l) (or_zero (expression_cost items) e + 0)
  return_live e =
      let nb : ℕ = value_blocks (low_if names e) in
      record {
        starts = λ b. upto b nb ++ [];
        reach = λ to b. reach_join (Away to) b (b + nb) nb 1 (nb + 1) (upto b nb) [] (value_lines (low_if names e) b to.free) _ refl refl (if_value_reach e (Away to) b to.free) (reach_jump (Away to) (b + nb) to.returns_to (λ y o. o.returns));
        few = λ to b. omega (arith, if_value_few e b to.free, length-append (upto b nb) [], branches-append (value_lines (low_if names e) b to.free) (End (Jump to.returns_to) ∷ []));
      }

  bare : Stmt-F Part ClausePart → Stmt-F Stmt Clause
  bare y = map-Stmt Part ClausePart Stmt Clause (λ c. c.0) (λ c. c.0) y

  bare_clause : Clause-F Part ClausePart → Clause-F Stmt Clause
  bare_clause y = map-Clause Part ClausePart Stmt Clause (λ c. c.0) (λ c. c.0) y

  labels_few : (ls : List Label) → 2 * case_count (map label_word ls) + 2 * length ls ≤ sum (map (label_cost items) ls)
  labels_few [] = omega arith
  labels_few (l ∷ ls) = by l (labels_few ls)
    where
      by : (l' : Label) → 2 * case_count (map label_word ls) + 2 * length ls ≤ sum (map (label_cost items) ls) → 2 * case_count (map label_word (l' ∷ ls)) + 2 * length (l' ∷ ls) ≤ sum (map (label_cost items) (l' ∷ ls))
      by (label.Case e at) rest = omega (arith, rest, sum_by-cons (λ n. n) (label_cost items (label.Case e at)) (map (label_cost items) ls))
      by (label.Otherwise at) rest = omega (arith, rest, sum_by-cons (λ n. n) (label_cost items (label.Otherwise at)) (map (label_cost items) ls))

  some_label : (ls : List Label) → 1 ≤ length ls + none_first ls
  some_label [] = omega arith
  some_label (l ∷ ls) = omega arith

  clause_live : (y : Clause-F Part ClausePart) → LiveClause (low_clause_step (map-Clause Stmt Clause LowStmt LowClause (low_statement names) (low_clause names) (bare_clause y))) (clause_cost_step items (map-Clause Stmt Clause ℕ ℕ (statement_cost items) (clause_cost items) (bare_clause y)) + unlabelled_clause_step (map-Clause Stmt Clause ℕ ℕ unlabelled unlabelled_in_clause (bare_clause y)))
  unfolding bare_clause
  clause_live y = let p = list_live y.body in record { starts = p.starts; reach = p.reach; few = λ to b. omega (arith, p.few to b, labels_few y.labels, some_label y.labels) }

  each_live : (y : Stmt-F Part ClausePart) → Live (low_statement_step names (map-Stmt Stmt Clause LowStmt LowClause (low_statement names) (low_clause names) (bare y))) (statement_cost_step items (map-Stmt Stmt Clause ℕ ℕ (statement_cost items) (clause_cost items) (bare y)) + unlabelled_step (map-Stmt Stmt Clause ℕ ℕ unlabelled unlabelled_in_clause (bare y)))
  unfolding bare
  each_live Stmt-F.Empty = none
  each_live (Stmt-F.Value e) = value_live e
  each_live (Stmt-F.Declare ds) = more _ _ _ (omega arith) (locals_live ds)
  each_live (Stmt-F.Block cs) = list_live cs
  each_live (Stmt-F.If e a None) = more _ _ _ (omega arith) (if_live e (low_statement names a.0) (statement_cost items a.0 + unlabelled a.0) a.1)
  each_live (Stmt-F.If e a (Some c)) = more _ _ _ (omega arith) (if_else_live e (low_statement names a.0) (low_statement names c.0) (statement_cost items a.0 + unlabelled a.0) (statement_cost items c.0 + unlabelled c.0) a.1 c.1)
  each_live (Stmt-F.While e a) = more _ _ _ (omega arith) (while_live e (low_statement names a.0) (statement_cost items a.0 + unlabelled a.0) a.1)
  each_live (Stmt-F.Do a e) = more _ _ _ (omega arith) (do_live e (low_statement names a.0) (statement_cost items a.0 + unlabelled a.0) a.1)
  each_live (Stmt-F.For a test next c) = more _ _ _ (omega arith) (for_live test next (low_statement names a.0) (low_statement names c.0) (statement_cost items a.0 + unlabelled a.0) (statement_cost items c.0 + unlabelled c.0) a.1 c.1)
  each_live (Stmt-F.Switch e cs) = more _ _ _ (omega arith) (switch_live e (map (low_clause names) (the_clauses cs)) (sum (map (clause_cost items) (the_clauses cs)) + sum (map unlabelled_in_clause (the_clauses cs))) (clauses_live cs))
  each_live (Stmt-F.Break at) = record { starts = λ b. []; reach = λ to b. reach_jump (Away to) b to.breaks_to (λ y o. o.breaks); few = λ to b. omega arith }
  each_live (Stmt-F.Continue at) = record { starts = λ b. []; reach = λ to b. reach_jump (Away to) b to.continues_to (λ y o. o.continues); few = λ to b. omega arith }
  each_live (Stmt-F.Return e at) = return_live e

  live : (c : Stmt) → LiveOf c
  unfolding bare bare_clause
  live = ind-Stmt LiveOf ClauseOf
      (λ x y is. subst (λ z. LiveOf (roll-Stmt z)) is
      (rw (fold-roll-Stmt LowStmt LowClause (low_statement_step names) low_clause_step (bare y), fold-roll-Stmt ℕ ℕ (statement_cost_step items) (clause_cost_step items) (bare y), fold-roll-Stmt ℕ ℕ unlabelled_step unlabelled_clause_step (bare y)) (each_live y)))
      (λ x y is. subst (λ z. ClauseOf (roll-Clause z)) is
      (rw (fold-roll-Clause LowStmt LowClause (low_statement_step names) low_clause_step (bare_clause y), fold-roll-Clause ℕ ℕ (statement_cost_step items) (clause_cost_step items) (bare_clause y), fold-roll-Clause ℕ ℕ unlabelled_step unlabelled_clause_step (bare_clause y)) (clause_live y)))

  -- the statements of a body
  pub body_live : (cs : List Stmt) → Live (low_list (map (low_statement names) cs)) (sum (map (statement_cost items) cs) + sum (map unlabelled cs))
  body_live [] = none
  body_live (c ∷ cs) =
      let m : ℕ = statement_cost items c + unlabelled c in
      let n : ℕ = sum (map (statement_cost items) cs) + sum (map unlabelled cs) in
      let e : m + n ≡ sum (map (statement_cost items) (c ∷ cs)) + sum (map unlabelled (c ∷ cs)) = omega (arith, sum_by-cons (λ k. k) (statement_cost items c) (map (statement_cost items) cs), sum_by-cons (λ k. k) (unlabelled c) (map unlabelled cs)) in
      subst (λ k. Live (low_list (map (low_statement names) (c ∷ cs))) k) e (both (low_statement names c) (map (low_statement names) cs) m n (live c) (body_live cs))
