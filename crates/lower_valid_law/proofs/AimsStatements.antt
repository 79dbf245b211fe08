-- Where the jumps of a statement go: into its own blocks or where its context says, and never behind a call of it.
use Rattle.std.proofs.Common.{◌≡◌, ◌≢◌, ◌⊎◌, inl, inr, ℕ, ◌+◌, ◌<◌, ◌≤◌, Bool, true, false, not, List, [], ◌∷◌, ◌++◌, map, Option, Some, None, refl, subst, if◌then◌else◌, ◌==◌, arith}
use Rattle.std.specs.Prelude.{◌&&◌}
use Rattle.std.specs.List.{list_any}
use Rattle.std.proofs.lemmas.Bool.{and_parts, false≢true, eqb-true, eqb-false}
use Rattle.c_syntax.specs.declared.tree.Expr.{Expr}
use Rattle.c_syntax.specs.declared.tree.Local.{Local}
use Rattle.c_syntax.specs.declared.tree.Stmt.{Stmt, roll-Stmt, map-Stmt, ind-Stmt, fold-roll-Stmt}
use Rattle.c_syntax.specs.declared.tree.Clause.{Clause, roll-Clause, map-Clause, fold-roll-Clause}
use Rattle.c_syntax.specs.declared.tree.Stmt.TheOpen.{Stmt-F, Clause-F}
use Rattle.c_meaning.specs.Meaning.{is_label}
use Rattle.mid_blocks.specs.declared.code.MidStep.TheVariants.{Constant, Copy}
use Rattle.mid_blocks.specs.declared.code.MidEnd.TheVariants.{Jump, Branch}
use Rattle.mid_blocks.specs.Lines.{Line, Step, End}
use Rattle.lower_rules.specs.Bindings.{Bindings}
use Rattle.lower_rules.specs.Expressions.{LowExpr, low}
use Rattle.lower_rules.specs.Statements.{Context, LowStmt, in_loop, value_blocks, value_lines, test_blocks, test_lines_if, low_if, list_blocks, list_lines, local_variable, first_lines, low_local, low_list, low_selection, low_while, low_do, low_for, LowClause, low_clause_step, case_count, case_lines, cases_count, cases_lines, block_of, clauses_blocks, clauses_lines, low_switch, low_clause, low_statement_step, low_statement}
use Rattle.lower_rules.specs.Scoping.{Scopes, Around, inside_loop, inside_switch, FitStmt, FitClause, fitting, has_value, has_value_if, fits_if, fits_alone, list_fits, each_alone, each_clause, fit_clause_step, fit_statement_step, fitting_statement, fitting_clause}
use Rattle.lower_valid_law.proofs.Aims.{ends, behind, Seg, seg_more, seg_none, seg_steps, seg_jump, seg_branch, seg_join, seg_step, seg_jump_on, seg_inside, behind_below, behind_first, behind_rest, behind_middle, behind_jump}
use Rattle.lower_valid_law.proofs.AimsExpressions.{Aim, Not_, aim}

-- the block y is none of those where a context's jumps go
pub record Clear (y : ℕ) (around : Around) (to : Context) : Type 0 where
  pub breaks : around.breaks ≡ true → to.breaks_to ≢ y
  pub continues : around.continues ≡ true → to.continues_to ≢ y
  pub returns : to.returns_to ≢ y

module _ (y : ℕ) (names : Bindings) where
  abbrev Any : Type 0
  Any = Unit {0}

  pub record AimLow (l : LowStmt) (around : Around) : Type 0 where
    pub seg : (to : Context) (b : ℕ) → Seg (Clear y around to) y b l.blocks (l.lines to b)

  record ReadyAim (l : LowStmt) (f : FitStmt) : Type 0 where
    pub aim : (around : Around) (scopes : Scopes) → f.fits around scopes ≡ true → AimLow l around

  record ReadyClause (c : LowClause) (f : FitClause) : Type 0 where
    pub aim : (around : Around) (scopes : Scopes) → f.fits around scopes ≡ true → AimLow c.body around

  of : (e : Expr) → Aim y names (low names e)
  of e = aim y names e

  if_value : (e : Option Expr) (n t : ℕ) → Seg Any y n (value_blocks (low_if names e)) (value_lines (low_if names e) n t)
  if_value None n t = seg_none Any y n
  if_value (Some e) n t = (of e).value n t

  if_test : (e : Option Expr) (n t h f : ℕ) → Seg (Not_ y h f) y n (test_blocks (low_if names e)) (test_lines_if (low_if names e) n t h f)
  if_test None n t h f = seg_none (Not_ y h f) y n
  if_test (Some e) n t h f = (of e).test n t h f true

  if_last : (e : Option Expr) (n t h f : ℕ) → y ≡ n + test_blocks (low_if names e) → behind y n (test_lines_if (low_if names e) n t h f) ≡ 0
  if_last None n t h f is = refl
  if_last (Some e) n t h f is = (of e).last n t h f true is

  -- ---- declarations

  local_aim : (d : Local) (O : Type 0) (to : Context) (b : ℕ) → Seg O y b (low_local names d).blocks ((low_local names d).lines to b)
  local_aim d O to b = seg_more Any O y b (low_local names d).blocks ((low_local names d).lines to b) (λ o. tt) (by d.first (local_variable (names.variable d.name)))
    where
      by : (o : Option Expr) (v : ℕ) → Seg Any y b (value_blocks (low_if names o)) (Step (Constant v 0) ∷ first_lines (low_if names o) v b to.free)
      by None v = seg_steps Any y b (Step (Constant v 0) ∷ []) refl
      by (Some e) v =
          let l : LowExpr = low names e in
          seg_step Any y b l.blocks _ _ (seg_join Any y b (b + l.blocks) l.blocks 0 l.blocks (l.value b to.free) (Step (Copy v to.free) ∷ []) refl (omega arith) ((of e).value b to.free) (seg_steps Any y (b + l.blocks) (Step (Copy v to.free) ∷ []) refl))

  locals_aim : (ds : List Local) (O : Type 0) (to : Context) (b : ℕ) → Seg O y b (list_blocks (map (low_local names) ds)) (list_lines (map (low_local names) ds) to b)
  locals_aim [] O to b = seg_none O y b
  locals_aim (d ∷ ds) O to b =
      let l : LowStmt = low_local names d in
      seg_join O y b (b + l.blocks) l.blocks (list_blocks (map (low_local names) ds)) (l.blocks + list_blocks (map (low_local names) ds)) (l.lines to b) _ refl refl (local_aim d O to b) (locals_aim ds O to (b + l.blocks))

  -- ---- one after another

  abbrev AimOf : Stmt → Type 0
  AimOf c = ReadyAim (low_statement names c) (fitting_statement names c)

  abbrev ClauseOf : Clause → Type 0
  ClauseOf c = ReadyClause (low_clause names c) (fitting_clause names c)

  abbrev Part : Type 0
  Part = (c : Stmt) × AimOf c

  abbrev ClausePart : Type 0
  ClausePart = (c : Clause) × ClauseOf c

  abbrev stmts : List Part → List Stmt
  stmts cs = map (λ c. c.0) cs

  abbrev the_clauses : List ClausePart → List Clause
  the_clauses cs = map (λ c. c.0) cs

  both : (l : LowStmt) (ls : List LowStmt) (around : Around) → AimLow l around → AimLow (low_list ls) around → AimLow (low_list (l ∷ ls)) around
  both l ls around p q = record { seg = λ to b. seg_join (Clear y around to) y b (b + l.blocks) l.blocks (list_blocks ls) (l.blocks + list_blocks ls) (l.lines to b) _ refl refl (p.seg to b) (q.seg to (b + l.blocks)) }

  list_aim : (cs : List Part) (around : Around) (scopes : Scopes) → list_fits (map (fitting_statement names) (stmts cs)) around scopes ≡ true → AimLow (low_list (map (low_statement names) (stmts cs))) around
  list_aim [] around scopes h = record { seg = λ to b. seg_none (Clear y around to) y b }
  list_aim (c ∷ cs) around scopes h =
      let f : FitStmt = fitting_statement names c.0 in
      let p = and_parts (f.fits around scopes) (list_fits (map (fitting_statement names) (stmts cs)) around (f.after scopes)) h in
      both (low_statement names c.0) (map (low_statement names) (stmts cs)) around (c.1.aim around scopes p.0) (list_aim cs around (f.after scopes) p.1)

  alone_aim : (cs : List Part) (around : Around) (scopes : Scopes) → each_alone (map (fitting_statement names) (stmts cs)) around scopes ≡ true → AimLow (low_list (map (low_statement names) (stmts cs))) around
  alone_aim [] around scopes h = record { seg = λ to b. seg_none (Clear y around to) y b }
  alone_aim (c ∷ cs) around scopes h =
      let f : FitStmt = fitting_statement names c.0 in
      let p = and_parts (fits_alone f around scopes) (each_alone (map (fitting_statement names) (stmts cs)) around scopes) h in
      let q = and_parts (not f.is_declaration) (f.fits around scopes) p.0 in
      both (low_statement names c.0) (map (low_statement names) (stmts cs)) around (c.1.aim around scopes q.1) (alone_aim cs around scopes p.1)

  alone : (c : Part) (around : Around) (scopes : Scopes) → fits_alone (fitting_statement names c.0) around scopes ≡ true → AimLow (low_statement names c.0) around
  alone c around scopes h = c.1.aim around scopes (and_parts (not (fitting_statement names c.0).is_declaration) ((fitting_statement names c.0).fits around scopes) h).1

  -- ---- selection and loops

  if_aim : (e : Expr) (l : LowStmt) (around : Around) → AimLow l around → AimLow (low_selection (low names e) l None) around
  if_aim e l around p = record {
    seg = λ to b.
        let lt : LowExpr = low names e in
        let holds : ℕ = b + lt.condition_blocks in let join : ℕ = holds + l.blocks + 1 in
        let m : ℕ = lt.condition_blocks + l.blocks + 1 in
        let O : Type 0 = Clear y around to in let O1 : Type 0 = O × (holds ≢ y) in let O2 : Type 0 = O1 × (join ≢ y) in
        let xs : List Line = lt.condition b to.free holds join true in
        let body : List Line = l.lines to holds in
        let rest : List Line = body ++ End (Jump join) ∷ [] in
        let t = (of e).test b to.free holds join true in
        let s = p.seg to holds in
        let all : Seg O2 y b m (xs ++ rest) = seg_join O2 y b holds lt.condition_blocks (l.blocks + 1) m xs rest refl (omega arith)
        (seg_more (Not_ y holds join) O2 y b lt.condition_blocks xs (λ o. (o.0.1, o.1)) t)
        (seg_join O2 y holds (holds + l.blocks) l.blocks 1 (l.blocks + 1) body _ refl refl (seg_more O O2 y holds l.blocks body (λ o. o.0.0) s) (seg_jump O2 y (holds + l.blocks) join (λ o. o.1))) in
        seg_inside O y b m holds (xs ++ rest) (omega (arith, (of e).some)) (omega arith) (λ is. behind_first y b holds lt.condition_blocks xs rest refl t.ends_are is ((of e).last b to.free holds join true is))
        (seg_inside O1 y b m join (xs ++ rest) (omega arith) (omega arith) (λ is. behind_rest y b holds lt.condition_blocks xs rest refl t.ends_are (omega (arith, is)) (behind_jump y holds l.blocks join body s.ends_are is)) all);
  }

  if_else_aim : (e : Expr) (la lb : LowStmt) (around : Around) → AimLow la around → AimLow lb around → AimLow (low_selection (low names e) la (Some lb)) around
  if_else_aim e la lb around p q = record {
    seg = λ to b.
        let lt : LowExpr = low names e in
        let holds : ℕ = b + lt.condition_blocks in let fails : ℕ = holds + la.blocks + 1 in let join : ℕ = fails + lb.blocks + 1 in
        let m : ℕ = lt.condition_blocks + la.blocks + 1 + lb.blocks + 1 in
        let O : Type 0 = Clear y around to in let O1 : Type 0 = O × (holds ≢ y) in let O2 : Type 0 = O1 × (fails ≢ y) in let O3 : Type 0 = O2 × (join ≢ y) in
        let xs : List Line = lt.condition b to.free holds fails true in
        let in_yes : List Line = la.lines to holds in
        let in_no : List Line = lb.lines to fails in
        let tail : List Line = in_no ++ End (Jump join) ∷ [] in
        let rest : List Line = in_yes ++ (End (Jump join) ∷ tail) in
        let t = (of e).test b to.free holds fails true in
        let sa = p.seg to holds in
        let sb = q.seg to fails in
        let all : Seg O3 y b m (xs ++ rest) = seg_join O3 y b holds lt.condition_blocks (la.blocks + (1 + (lb.blocks + 1))) m xs rest refl (omega arith)
        (seg_more (Not_ y holds fails) O3 y b lt.condition_blocks xs (λ o. (o.0.0.1, o.0.1)) t)
        (seg_join O3 y holds (holds + la.blocks) la.blocks (1 + (lb.blocks + 1)) (la.blocks + (1 + (lb.blocks + 1))) in_yes _ refl refl
        (seg_more O O3 y holds la.blocks in_yes (λ o. o.0.0.0) sa)
        (seg_jump_on O3 y (holds + la.blocks) fails (lb.blocks + 1) join tail refl (λ o. o.1)
        (seg_join O3 y fails (fails + lb.blocks) lb.blocks 1 (lb.blocks + 1) in_no _ refl refl (seg_more O O3 y fails lb.blocks in_no (λ o. o.0.0.0) sb) (seg_jump O3 y (fails + lb.blocks) join (λ o. o.1))))) in
        seg_inside O y b m holds (xs ++ rest) (omega (arith, (of e).some)) (omega arith) (λ is. behind_first y b holds lt.condition_blocks xs rest refl t.ends_are is ((of e).last b to.free holds fails true is))
        (seg_inside O1 y b m fails (xs ++ rest) (omega arith) (omega arith) (λ is. behind_rest y b holds lt.condition_blocks xs rest refl t.ends_are (omega (arith, is)) (behind_middle y holds la.blocks join in_yes tail sa.ends_are is))
        (seg_inside O2 y b m join (xs ++ rest) (omega arith) (omega arith) (λ is. behind_rest y b holds lt.condition_blocks xs rest refl t.ends_are (omega (arith, is))
        (behind_rest y holds (holds + la.blocks) la.blocks in_yes (End (Jump join) ∷ tail) refl sa.ends_are (omega (arith, is)) (omega (arith, behind_jump y fails lb.blocks join in_no sb.ends_are is)))) all));
  }

  while_aim : (e : Expr) (l : LowStmt) (around : Around) → AimLow l (inside_loop around) → AimLow (low_while (low names e) l) around
  while_aim e l around p = record {
    seg = λ to b.
        let lt : LowExpr = low names e in
        let head : ℕ = b + 1 in let inside : ℕ = head + lt.condition_blocks in let exit : ℕ = inside + l.blocks + 1 in
        let m : ℕ = 1 + lt.condition_blocks + l.blocks + 1 in
        let to' : Context = in_loop exit head to in
        let O : Type 0 = Clear y around to in let O1 : Type 0 = O × (head ≢ y) in let O2 : Type 0 = O1 × (inside ≢ y) in let O3 : Type 0 = O2 × (exit ≢ y) in
        let xs : List Line = lt.condition head to.free inside exit true in
        let body : List Line = l.lines to' inside in
        let tail : List Line = body ++ End (Jump head) ∷ [] in
        let rest : List Line = xs ++ tail in
        let t = (of e).test head to.free inside exit true in
        let s = p.seg to' inside in
        let all : Seg O3 y b m (End (Jump head) ∷ rest) = seg_join O3 y b head 1 (lt.condition_blocks + (l.blocks + 1)) m (End (Jump head) ∷ []) rest refl (omega arith) (seg_jump O3 y b head (λ o. o.0.0.1))
        (seg_join O3 y head inside lt.condition_blocks (l.blocks + 1) (lt.condition_blocks + (l.blocks + 1)) xs tail refl refl
        (seg_more (Not_ y inside exit) O3 y head lt.condition_blocks xs (λ o. (o.0.1, o.1)) t)
        (seg_join O3 y inside (inside + l.blocks) l.blocks 1 (l.blocks + 1) body _ refl refl
        (seg_more (Clear y (inside_loop around) to') O3 y inside l.blocks body (λ o. record { breaks = λ h. o.1; continues = λ h. o.0.0.1; returns = o.0.0.0.returns }) s)
        (seg_jump O3 y (inside + l.blocks) head (λ o. o.0.0.1)))) in
        seg_inside O y b m head (End (Jump head) ∷ rest) (omega arith) (omega arith) (λ is. omega (arith, behind_below y head rest (omega (arith, is))))
        (seg_inside O1 y b m inside (End (Jump head) ∷ rest) (omega arith) (omega arith) (λ is. omega (arith, behind_first y head inside lt.condition_blocks xs tail refl t.ends_are is ((of e).last head to.free inside exit true is)))
        (seg_inside O2 y b m exit (End (Jump head) ∷ rest) (omega arith) (omega arith) (λ is. omega (arith, behind_rest y head inside lt.condition_blocks xs tail refl t.ends_are (omega (arith, is)) (behind_jump y inside l.blocks head body s.ends_are is))) all));
  }

  do_aim : (e : Expr) (l : LowStmt) (around : Around) → AimLow l (inside_loop around) → AimLow (low_do l (low names e)) around
  do_aim e l around p = record {
    seg = λ to b.
        let lt : LowExpr = low names e in
        let inside : ℕ = b + 1 in let head : ℕ = inside + l.blocks + 1 in let exit : ℕ = head + lt.condition_blocks in
        let m : ℕ = 1 + l.blocks + 1 + lt.condition_blocks in
        let to' : Context = in_loop exit head to in
        let O : Type 0 = Clear y around to in let O1 : Type 0 = O × (inside ≢ y) in let O2 : Type 0 = O1 × (head ≢ y) in let O3 : Type 0 = O2 × (exit ≢ y) in
        let xs : List Line = lt.condition head to.free inside exit false in
        let body : List Line = l.lines to' inside in
        let rest : List Line = body ++ (End (Jump head) ∷ xs) in
        let t = (of e).test head to.free inside exit false in
        let s = p.seg to' inside in
        let all : Seg O3 y b m (End (Jump inside) ∷ rest) = seg_join O3 y b inside 1 (l.blocks + (1 + lt.condition_blocks)) m (End (Jump inside) ∷ []) rest refl (omega arith) (seg_jump O3 y b inside (λ o. o.0.0.1))
        (seg_join O3 y inside (inside + l.blocks) l.blocks (1 + lt.condition_blocks) (l.blocks + (1 + lt.condition_blocks)) body _ refl refl
        (seg_more (Clear y (inside_loop around) to') O3 y inside l.blocks body (λ o. record { breaks = λ h. o.1; continues = λ h. o.0.1; returns = o.0.0.0.returns }) s)
        (seg_jump_on O3 y (inside + l.blocks) head lt.condition_blocks head xs refl (λ o. o.0.1) (seg_more (Not_ y inside exit) O3 y head lt.condition_blocks xs (λ o. (o.0.0.1, o.1)) t))) in
        seg_inside O y b m inside (End (Jump inside) ∷ rest) (omega arith) (omega arith) (λ is. omega (arith, behind_below y inside rest (omega (arith, is))))
        (seg_inside O1 y b m head (End (Jump inside) ∷ rest) (omega arith) (omega arith) (λ is. omega (arith, behind_middle y inside l.blocks head body xs s.ends_are is))
        (seg_inside O2 y b m exit (End (Jump inside) ∷ rest) (omega arith) (omega arith) (λ is. omega (arith, behind_rest y inside (inside + l.blocks) l.blocks body (End (Jump head) ∷ xs) refl s.ends_are (omega (arith, is, (of e).some)) (omega (arith, (of e).last head to.free inside exit false is)))) all));
  }

  for_aim : (test next : Option Expr) (l1 l2 : LowStmt) (around : Around) → AimLow l1 (record around { breaks = false; continues = false }) → AimLow l2 (inside_loop around) → AimLow (low_for l1 (low_if names test) (low_if names next) l2) around
  for_aim test next l1 l2 around p q = record {
    seg = λ to b.
        let tb : ℕ = test_blocks (low_if names test) in let nb : ℕ = value_blocks (low_if names next) in
        let head : ℕ = b + l1.blocks + 1 in let inside : ℕ = head + tb in let after : ℕ = inside + l2.blocks + 1 in let exit : ℕ = after + nb + 1 in
        let m : ℕ = l1.blocks + 1 + tb + l2.blocks + 1 + nb + 1 in
        let to' : Context = in_loop exit after to in
        let O : Type 0 = Clear y around to in let O1 : Type 0 = O × (head ≢ y) in let O2 : Type 0 = O1 × (inside ≢ y) in let O3 : Type 0 = O2 × (after ≢ y) in let O4 : Type 0 = O3 × (exit ≢ y) in
        let first : List Line = l1.lines to b in
        let xs : List Line = test_lines_if (low_if names test) head to.free inside exit in
        let body : List Line = l2.lines to' inside in
        let ns : List Line = value_lines (low_if names next) after to.free in
        let r4 : List Line = ns ++ End (Jump head) ∷ [] in
        let r3 : List Line = body ++ (End (Jump after) ∷ r4) in
        let r2 : List Line = xs ++ r3 in
        let s1 = p.seg to b in
        let t = if_test test head to.free inside exit in
        let s2 = q.seg to' inside in
        let sn = if_value next after to.free in
        let all : Seg O4 y b m (first ++ (End (Jump head) ∷ r2)) = seg_join O4 y b (b + l1.blocks) l1.blocks (1 + (tb + (l2.blocks + (1 + (nb + 1))))) m first _ refl (omega arith)
        (seg_more (Clear y (record around { breaks = false; continues = false }) to) O4 y b l1.blocks first (λ o. record { breaks = λ h. absurd (false≢true h); continues = λ h. absurd (false≢true h); returns = o.0.0.0.0.returns }) s1)
        (seg_jump_on O4 y (b + l1.blocks) head (tb + (l2.blocks + (1 + (nb + 1)))) head r2 refl (λ o. o.0.0.0.1)
        (seg_join O4 y head inside tb (l2.blocks + (1 + (nb + 1))) (tb + (l2.blocks + (1 + (nb + 1)))) xs r3 refl refl (seg_more (Not_ y inside exit) O4 y head tb xs (λ o. (o.0.0.1, o.1)) t)
        (seg_join O4 y inside (inside + l2.blocks) l2.blocks (1 + (nb + 1)) (l2.blocks + (1 + (nb + 1))) body _ refl refl
        (seg_more (Clear y (inside_loop around) to') O4 y inside l2.blocks body (λ o. record { breaks = λ h. o.1; continues = λ h. o.0.1; returns = o.0.0.0.0.returns }) s2)
        (seg_jump_on O4 y (inside + l2.blocks) after (nb + 1) after r4 refl (λ o. o.0.1)
        (seg_join O4 y after (after + nb) nb 1 (nb + 1) ns _ refl refl (seg_more Any O4 y after nb ns (λ o. tt) sn) (seg_jump O4 y (after + nb) head (λ o. o.0.0.0.1))))))) in
        let lines : List Line = first ++ (End (Jump head) ∷ r2) in
        let past_first : head < y → behind y head r2 ≡ 0 → behind y b lines ≡ 0 = λ lt h. behind_rest y b (b + l1.blocks) l1.blocks first (End (Jump head) ∷ r2) refl s1.ends_are (omega (arith, lt)) (omega (arith, h)) in
        seg_inside O y b m head lines (omega arith) (omega arith) (λ is. behind_middle y b l1.blocks head first r2 s1.ends_are is)
        (seg_inside O1 y b m inside lines (omega arith) (omega arith) (λ is. behind_rest y b (b + l1.blocks) l1.blocks first (End (Jump head) ∷ r2) refl s1.ends_are (omega (arith, is)) (omega (arith, behind_first y head inside tb xs r3 refl t.ends_are is (if_last test head to.free inside exit is))))
        (seg_inside O2 y b m after lines (omega arith) (omega arith) (λ is. past_first (omega (arith, is)) (behind_rest y head inside tb xs r3 refl t.ends_are (omega (arith, is)) (behind_middle y inside l2.blocks after body r4 s2.ends_are is)))
        (seg_inside O3 y b m exit lines (omega arith) (omega arith) (λ is. past_first (omega (arith, is)) (behind_rest y head inside tb xs r3 refl t.ends_are (omega (arith, is))
        (behind_rest y inside (inside + l2.blocks) l2.blocks body (End (Jump after) ∷ r4) refl s2.ends_are (omega (arith, is)) (omega (arith, behind_jump y after nb head ns sn.ends_are is))))) all)));
  }

  -- ---- `switch`

  -- y is no block where a clause begins, and not the one behind them
  abbrev NoStart : List LowClause → ℕ → Type 0
  NoStart [] at = at ≢ y
  NoStart (c ∷ cs) at = (at ≢ y) × NoStart cs (at + c.body.blocks + 1)

  no_first : (cs : List LowClause) (at : ℕ) → NoStart cs at → at ≢ y
  no_first [] at n = n
  no_first (c ∷ cs) at n = n.0

  no_end : (cs : List LowClause) (at : ℕ) → NoStart cs at → at + clauses_blocks cs ≢ y
  no_end [] at n h = n (omega (arith, h))
  no_end (c ∷ cs) at n h = no_end cs (at + c.body.blocks + 1) n.1 (omega (arith, h))

  no_target : (l : Option ℕ) (cs : List LowClause) (at : ℕ) → NoStart cs at → block_of l cs at ≢ y
  no_target l [] at n = n
  no_target l (c ∷ cs) at n = by (list_any (is_label l) c.labels) (no_target l cs (at + c.body.blocks + 1) n.1)
    where
      by : (b : Bool) → block_of l cs (at + c.body.blocks + 1) ≢ y → (let k : ℕ = if b then at else block_of l cs (at + c.body.blocks + 1) in k) ≢ y
      by true later = n.0
      by false later = later

  case_seg : (ls : List (Option ℕ)) (O : Type 0) (n at t : ℕ) → (O → at ≢ y) → Seg O y n (case_count ls) (case_lines ls at t)
  case_seg [] O n at t f = seg_none O y n
  case_seg (None ∷ ls) O n at t f = case_seg ls O n at t f
  case_seg (Some word ∷ ls) O n at t f =
      seg_step O y n (1 + case_count ls) _ _ (seg_step O y n (1 + case_count ls) _ _
      (seg_join O y n (n + 1) 1 (case_count ls) (1 + case_count ls) (End (Branch (t + 1) true at) ∷ []) (case_lines ls at t) refl refl (seg_branch O y n (t + 1) at true f) (case_seg ls O (n + 1) at t f)))

  cases_seg : (cs : List LowClause) (O : Type 0) (n at t : ℕ) → (O → NoStart cs at) → Seg O y n (cases_count cs) (cases_lines cs at t)
  cases_seg [] O n at t f = seg_none O y n
  cases_seg (c ∷ cs) O n at t f =
      seg_join O y n (n + case_count c.labels) (case_count c.labels) (cases_count cs) (case_count c.labels + cases_count cs) (case_lines c.labels at t) _ refl refl
      (case_seg c.labels O n at t (λ o. (f o).0)) (cases_seg cs O (n + case_count c.labels) (at + c.body.blocks + 1) t (λ o. (f o).1))

  record AllAim (cs : List LowClause) (around : Around) : Type 1 where
    pub seg : (to : Context) (O : Type 0) (at : ℕ) → (O → Clear y around to) → (O → NoStart cs at) → Seg O y at (clauses_blocks cs) (clauses_lines cs to at)

  clauses_aim : (cs : List ClausePart) (around : Around) (scopes : Scopes) → each_clause (map (fitting_clause names) (the_clauses cs)) around scopes ≡ true → AllAim (map (low_clause names) (the_clauses cs)) around
  clauses_aim [] around scopes h = record { seg = λ to O at f g. seg_none O y at }
  clauses_aim (c ∷ cs) around scopes h =
      let p = and_parts ((fitting_clause names c.0).fits around scopes) (each_clause (map (fitting_clause names) (the_clauses cs)) around scopes) h in
      let l : LowClause = low_clause names c.0 in
      let ls : List LowClause = map (low_clause names) (the_clauses cs) in
      record {
        seg = λ to O at f g.
            let next : ℕ = at + l.body.blocks + 1 in
            seg_join O y at (at + l.body.blocks) l.body.blocks (1 + clauses_blocks ls) (l.body.blocks + 1 + clauses_blocks ls) (l.body.lines to at) _ refl (omega arith)
            (seg_more (Clear y around to) O y at l.body.blocks (l.body.lines to at) f ((c.1.aim around scopes p.0).seg to at))
            (seg_jump_on O y (at + l.body.blocks) next (clauses_blocks ls) next _ refl (λ o. no_first ls next (g o).1) ((clauses_aim cs around scopes p.1).seg to O next f (λ o. (g o).1)));
      }

  -- a block where a clause begins, or behind them, has no call before it
  record IsStart (cs : List LowClause) (to : Context) (at : ℕ) : Type 0 where
    pub from : at ≤ y
    pub up : y ≤ at + clauses_blocks cs
    pub free : behind y at (clauses_lines cs to at) ≡ 0

  abbrev EachEnds : List LowClause → Context → Type 0
  EachEnds [] to = Unit {0}
  EachEnds (c ∷ cs) to = ((at : ℕ) → ends (c.body.lines to at) ≡ c.body.blocks) × EachEnds cs to

  clauses_ends : (cs : List ClausePart) (around : Around) (scopes : Scopes) → each_clause (map (fitting_clause names) (the_clauses cs)) around scopes ≡ true → (to : Context) → EachEnds (map (low_clause names) (the_clauses cs)) to
  clauses_ends [] around scopes h to = tt
  clauses_ends (c ∷ cs) around scopes h to =
      let p = and_parts ((fitting_clause names c.0).fits around scopes) (each_clause (map (fitting_clause names) (the_clauses cs)) around scopes) h in
      (λ at. ((c.1.aim around scopes p.0).seg to at).ends_are, clauses_ends cs around scopes p.1 to)

  start_or_not : (cs : List LowClause) (to : Context) (at : ℕ) → EachEnds cs to → NoStart cs at ⊎ IsStart cs to at
  start_or_not [] to at e = by (at == y) refl
    where
      by : (b : Bool) → (at == y) ≡ b → NoStart [] at ⊎ IsStart [] to at
      by true is = let same : at ≡ y = eqb-true at y is in inr (record { from = omega (arith, same); up = omega (arith, same); free = refl })
      by false is = inl (eqb-false at y is)
  start_or_not (c ∷ cs) to at e = by (at == y) refl (start_or_not cs to (at + c.body.blocks + 1) e.1)
    where
      next : ℕ
      next = at + c.body.blocks + 1

      by : (b : Bool) → (at == y) ≡ b → NoStart cs (at + c.body.blocks + 1) ⊎ IsStart cs to (at + c.body.blocks + 1) → NoStart (c ∷ cs) at ⊎ IsStart (c ∷ cs) to at
      by true is later = let same : at ≡ y = eqb-true at y is in inr (record { from = omega (arith, same); up = omega (arith, same); free = behind_below y at (clauses_lines (c ∷ cs) to at) (omega (arith, same)) })
      by false is (inl n) = inl (eqb-false at y is, n)
      by false is (inr s) = inr (record {
        from = omega (arith, s.from);
        up = omega (arith, s.up);
        free = behind_rest y at (at + c.body.blocks) c.body.blocks (c.body.lines to at) _ refl (e.0 at) (omega (arith, s.from)) (omega (arith, s.free));
      })

  switch_aim : (e : Expr) (cs : List LowClause) (around : Around) → AllAim cs (inside_switch around) → ((to : Context) → EachEnds cs to) → AimLow (low_switch (low names e) cs) around
  switch_aim e cs around p each = record { seg = λ to b. by to b (start_or_not cs (record to { breaks_to = b + (low names e).blocks + cases_count cs + 1 + clauses_blocks cs }) (b + (low names e).blocks + cases_count cs + 1) (each (record to { breaks_to = b + (low names e).blocks + cases_count cs + 1 + clauses_blocks cs }))) }
    where
      all : (to : Context) (b : ℕ) (O : Type 0) → (O → Clear y around to) → (O → NoStart cs (b + (low names e).blocks + cases_count cs + 1)) → Seg O y b ((low names e).blocks + cases_count cs + 1 + clauses_blocks cs) ((low_switch (low names e) cs).lines to b)
      all to b O f g =
          let v : LowExpr = low names e in
          let at : ℕ = b + v.blocks in
          let j : ℕ = at + cases_count cs in
          let first : ℕ = b + v.blocks + cases_count cs + 1 in
          let to' : Context = record to { breaks_to = first + clauses_blocks cs } in
          seg_join O y b at v.blocks (cases_count cs + (1 + clauses_blocks cs)) (v.blocks + cases_count cs + 1 + clauses_blocks cs) (v.value b to.free) _ refl (omega arith)
          (seg_more Any O y b v.blocks (v.value b to.free) (λ o. tt) ((of e).value b to.free))
          (seg_join O y at j (cases_count cs) (1 + clauses_blocks cs) (cases_count cs + (1 + clauses_blocks cs)) (cases_lines cs first to.free) _ refl refl (cases_seg cs O at first to.free g)
          (seg_jump_on O y j first (clauses_blocks cs) (block_of None cs first) _ refl (λ o. no_target None cs first (g o))
          (p.seg to' O first (λ o. let c = f o in record { breaks = λ h. no_end cs first (g o); continues = c.continues; returns = c.returns }) g)))

      by : (to : Context) (b : ℕ) → NoStart cs (b + (low names e).blocks + cases_count cs + 1) ⊎ IsStart cs (record to { breaks_to = b + (low names e).blocks + cases_count cs + 1 + clauses_blocks cs }) (b + (low names e).blocks + cases_count cs + 1) → Seg (Clear y around to) y b ((low names e).blocks + cases_count cs + 1 + clauses_blocks cs) ((low_switch (low names e) cs).lines to b)
      by to b (inl n) = all to b (Clear y around to) (λ o. o) (λ o. n)
      by to b (inr s) =
          let v : LowExpr = low names e in
          let at : ℕ = b + v.blocks in
          let j : ℕ = at + cases_count cs in
          let first : ℕ = b + v.blocks + cases_count cs + 1 in
          let to' : Context = record to { breaks_to = first + clauses_blocks cs } in
          let a = all to b ⊥ (λ o. absurd o) (λ o. absurd o) in
          let cl : List Line = clauses_lines cs to' first in
          let jump : List Line = End (Jump (block_of None cs first)) ∷ cl in
          let case : List Line = cases_lines cs first to.free in
          let in_cases : ends case ≡ cases_count cs = (cases_seg cs ⊥ at first to.free (λ o. absurd o)).ends_are in
          let free : behind y b (v.value b to.free ++ (case ++ jump)) ≡ 0 =
          behind_rest y b at v.blocks (v.value b to.free) (case ++ jump) refl ((of e).value b to.free).ends_are (omega (arith, s.from))
          (behind_rest y at j (cases_count cs) case jump refl in_cases (omega (arith, s.from)) (omega (arith, s.free))) in
          record {
            ends_are = a.ends_are;
            below = λ o le. absurd (omega (arith, le, s.from));
            above = λ o lt. absurd (omega (arith, lt, s.up));
            apart = λ o. omega (arith, free);
          }

  -- ---- all statements

  return_aim : (e : Option Expr) (around : Around) → AimLow (let l : LowStmt = record { blocks = value_blocks (low_if names e) + 1; lines = λ to b. value_lines (low_if names e) b to.free ++ End (Jump to.returns_to) ∷ [] } in l) around
  return_aim e around = record {
    seg = λ to b.
        let nb : ℕ = value_blocks (low_if names e) in
        let O : Type 0 = Clear y around to in
        seg_join O y b (b + nb) nb 1 (nb + 1) (value_lines (low_if names e) b to.free) _ refl refl (seg_more Any O y b nb (value_lines (low_if names e) b to.free) (λ o. tt) (if_value e b to.free)) (seg_jump O y (b + nb) to.returns_to (λ o. o.returns));
  }

  bare : Stmt-F Part ClausePart → Stmt-F Stmt Clause
  bare x = map-Stmt Part ClausePart Stmt Clause (λ c. c.0) (λ c. c.0) x

  bare_clause : Clause-F Part ClausePart → Clause-F Stmt Clause
  bare_clause x = map-Clause Part ClausePart Stmt Clause (λ c. c.0) (λ c. c.0) x

  clause_ready : (x : Clause-F Part ClausePart) → ReadyClause (low_clause_step (map-Clause Stmt Clause LowStmt LowClause (low_statement names) (low_clause names) (bare_clause x))) (fit_clause_step (map-Clause Stmt Clause FitStmt FitClause (fitting_statement names) (fitting_clause names) (bare_clause x)))
  unfolding bare_clause
  clause_ready x = record { aim = λ around scopes h. alone_aim x.body around scopes h }

  abbrev Each : Stmt-F Part ClausePart → Type 0
  Each x = (around : Around) (scopes : Scopes) → (fit_statement_step names (map-Stmt Stmt Clause FitStmt FitClause (fitting_statement names) (fitting_clause names) (bare x))).fits around scopes ≡ true → AimLow (low_statement_step names (map-Stmt Stmt Clause LowStmt LowClause (low_statement names) (low_clause names) (bare x))) around

  each_ready : (x : Stmt-F Part ClausePart) → Each x
  unfolding bare
  each_ready Stmt-F.Empty around scopes h = record { seg = λ to b. seg_none (Clear y around to) y b }
  each_ready (Stmt-F.Value e) around scopes h = record { seg = λ to b. seg_more Any (Clear y around to) y b (low names e).blocks ((low names e).value b to.free) (λ o. tt) ((of e).value b to.free) }
  each_ready (Stmt-F.Declare ds) around scopes h = record { seg = λ to b. locals_aim ds (Clear y around to) to b }
  each_ready (Stmt-F.Block cs) around scopes h = list_aim cs around ([] ∷ scopes) h
  each_ready (Stmt-F.If e a None) around scopes h =
      let p = and_parts (has_value (fitting names e) scopes) (fits_alone (fitting_statement names a.0) around scopes && true) h in
      let q = and_parts (fits_alone (fitting_statement names a.0) around scopes) true p.1 in
      if_aim e (low_statement names a.0) around (alone a around scopes q.0)
  each_ready (Stmt-F.If e a (Some c)) around scopes h =
      let p = and_parts (has_value (fitting names e) scopes) (fits_alone (fitting_statement names a.0) around scopes && fits_alone (fitting_statement names c.0) around scopes) h in
      let q = and_parts (fits_alone (fitting_statement names a.0) around scopes) (fits_alone (fitting_statement names c.0) around scopes) p.1 in
      if_else_aim e (low_statement names a.0) (low_statement names c.0) around (alone a around scopes q.0) (alone c around scopes q.1)
  each_ready (Stmt-F.While e a) around scopes h =
      let p = and_parts (has_value (fitting names e) scopes) (fits_alone (fitting_statement names a.0) (inside_loop around) scopes) h in
      while_aim e (low_statement names a.0) around (alone a (inside_loop around) scopes p.1)
  each_ready (Stmt-F.Do a e) around scopes h =
      let p = and_parts (has_value (fitting names e) scopes) (fits_alone (fitting_statement names a.0) (inside_loop around) scopes) h in
      do_aim e (low_statement names a.0) around (alone a (inside_loop around) scopes p.1)
  each_ready (Stmt-F.For a test next c) around scopes h =
      let f : FitStmt = fitting_statement names a.0 in
      let s : Scopes = f.after ([] ∷ scopes) in
      let p = and_parts (f.fits (record around { breaks = false; continues = false }) ([] ∷ scopes)) (has_value_if names test s && (fits_if names next s && fits_alone (fitting_statement names c.0) (inside_loop around) s)) h in
      let q = and_parts (has_value_if names test s) (fits_if names next s && fits_alone (fitting_statement names c.0) (inside_loop around) s) p.1 in
      let r = and_parts (fits_if names next s) (fits_alone (fitting_statement names c.0) (inside_loop around) s) q.1 in
      for_aim test next (low_statement names a.0) (low_statement names c.0) around (a.1.aim (record around { breaks = false; continues = false }) ([] ∷ scopes) p.0) (alone c (inside_loop around) s r.1)
  each_ready (Stmt-F.Switch e cs) around scopes h =
      let p = and_parts (has_value (fitting names e) scopes) (each_clause (map (fitting_clause names) (the_clauses cs)) (inside_switch around) scopes) h in
      switch_aim e (map (low_clause names) (the_clauses cs)) around (clauses_aim cs (inside_switch around) scopes p.1) (clauses_ends cs (inside_switch around) scopes p.1)
  each_ready (Stmt-F.Break at) around scopes h = record { seg = λ to b. seg_jump (Clear y around to) y b to.breaks_to (λ o. o.breaks h) }
  each_ready (Stmt-F.Continue at) around scopes h = record { seg = λ to b. seg_jump (Clear y around to) y b to.continues_to (λ o. o.continues h) }
  each_ready (Stmt-F.Return e at) around scopes h = return_aim e around

  ready : (c : Stmt) → AimOf c
  unfolding bare bare_clause
  ready = ind-Stmt AimOf ClauseOf
      (λ x z is. subst (λ w. AimOf (roll-Stmt w)) is
      (rw (fold-roll-Stmt LowStmt LowClause (low_statement_step names) low_clause_step (bare z), fold-roll-Stmt FitStmt FitClause (fit_statement_step names) fit_clause_step (bare z)) (record { aim = each_ready z })))
      (λ x z is. subst (λ w. ClauseOf (roll-Clause w)) is
      (rw (fold-roll-Clause LowStmt LowClause (low_statement_step names) low_clause_step (bare_clause z), fold-roll-Clause FitStmt FitClause (fit_statement_step names) fit_clause_step (bare_clause z)) (clause_ready z)))

  -- the statements of a body
  pub body_aim : (cs : List Stmt) (around : Around) (scopes : Scopes) → list_fits (map (fitting_statement names) cs) around scopes ≡ true → AimLow (low_list (map (low_statement names) cs)) around
  body_aim [] around scopes h = record { seg = λ to b. seg_none (Clear y around to) y b }
  body_aim (c ∷ cs) around scopes h =
      let f : FitStmt = fitting_statement names c in
      let p = and_parts (f.fits around scopes) (list_fits (map (fitting_statement names) cs) around (f.after scopes)) h in
      both (low_statement names c) (map (low_statement names) cs) around ((ready c).aim around scopes p.0) (body_aim cs around (f.after scopes) p.1)
