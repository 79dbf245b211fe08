-- How many variables a function declares.
use Rattle.std.proofs.Common.{◌≡◌, ℕ, suc, zero, ◌+◌, ◌<◌, ◌≤◌, List, [], ◌∷◌, map, sum, length, take, get_or, Option, Some, None, refl, subst, ap, ◌∙◌, arith, flat_map}
use Rattle.std.proofs.lemmas.List.{length-append, length-map}
use Rattle.std.proofs.lemmas.List.Sums.{sum_by-cons}
use Rattle.c_syntax.specs.declared.tree.Param.{Param}
use Rattle.c_syntax.specs.declared.tree.Stmt.{Stmt, roll-Stmt, map-Stmt, ind-Stmt, fold-roll-Stmt}
use Rattle.c_syntax.specs.declared.tree.Clause.{Clause, roll-Clause, map-Clause, fold-roll-Clause}
use Rattle.c_syntax.specs.declared.tree.Stmt.TheOpen.{Stmt-F, Clause-F}
use Rattle.c_syntax.specs.declared.tree.Function.{Function}
use Rattle.c_meaning.specs.Operators.{is_unsigned_type}
use Rattle.c_syntax.specs.Graph.{body_of}
use Rattle.c_syntax.specs.Sizes.{greatest}
use Rattle.c_syntax.specs.Costs.{statement_temps, function_weight, statement_locals_step, clause_locals_step, statement_locals, clause_locals}
use Rattle.lower_rules.specs.Programs.{Variable, param_variable, param_variables, declared_step, declared_in_clause, declared, variables_of, free_of}
use Rattle.lower_expressions.specs.declared.table.Variable as emit
use Rattle.lower_expressions.specs.Names.{variable_of}
use Rattle.lower_names.specs.Parts.{variable_of_param, clause_declares}

abbrev CountedOf : Stmt → Type 0
CountedOf c = length (declared c) ≡ statement_locals c

abbrev ClauseOf : Clause → Type 0
ClauseOf c = length (clause_declares c) ≡ clause_locals c

abbrev Part : Type 0
Part = (c : Stmt) × CountedOf c

abbrev ClausePart : Type 0
ClausePart = (c : Clause) × ClauseOf c

abbrev stmts : List Part → List Stmt
stmts cs = map (λ c. c.0) cs

abbrev the_clauses : List ClausePart → List Clause
the_clauses cs = map (λ c. c.0) cs

list_counted : (cs : List Part) → length (flat_map (λ vs. vs) (map declared (stmts cs))) ≡ sum (map statement_locals (stmts cs))
list_counted [] = refl
list_counted (c ∷ cs) =
    omega (arith, length-append (declared c.0) (flat_map (λ vs. vs) (map declared (stmts cs))), c.1, list_counted cs, sum_by-cons (λ n. n) (statement_locals c.0) (map statement_locals (stmts cs)))

clauses_counted : (cs : List ClausePart) → length (flat_map (λ vs. vs) (map clause_declares (the_clauses cs))) ≡ sum (map clause_locals (the_clauses cs))
clauses_counted [] = refl
clauses_counted (c ∷ cs) =
    omega (arith, length-append (clause_declares c.0) (flat_map (λ vs. vs) (map clause_declares (the_clauses cs))), c.1, clauses_counted cs, sum_by-cons (λ n. n) (clause_locals c.0) (map clause_locals (the_clauses cs)))

bare : Stmt-F Part ClausePart → Stmt-F Stmt Clause
bare x = map-Stmt Part ClausePart Stmt Clause (λ c. c.0) (λ c. c.0) x

bare_clause : Clause-F Part ClausePart → Clause-F Stmt Clause
bare_clause x = map-Clause Part ClausePart Stmt Clause (λ c. c.0) (λ c. c.0) x

clause_counted : (x : Clause-F Part ClausePart) → length (declared_in_clause (map-Clause Stmt Clause (List Variable) (List Variable) declared clause_declares (bare_clause x))) ≡ clause_locals_step (map-Clause Stmt Clause ℕ ℕ statement_locals clause_locals (bare_clause x))
unfolding bare_clause
clause_counted x = list_counted x.body

each_counted : (x : Stmt-F Part ClausePart) → length (declared_step (map-Stmt Stmt Clause (List Variable) (List Variable) declared clause_declares (bare x))) ≡ statement_locals_step (map-Stmt Stmt Clause ℕ ℕ statement_locals clause_locals (bare x))
unfolding bare
each_counted Stmt-F.Empty = refl
each_counted (Stmt-F.Value e) = refl
each_counted (Stmt-F.Declare ds) = length-map ds _
each_counted (Stmt-F.Block cs) = list_counted cs
each_counted (Stmt-F.If e a None) = omega (arith, length-append (declared a.0) [], a.1)
each_counted (Stmt-F.If e a (Some c)) = omega (arith, length-append (declared a.0) (declared c.0), a.1, c.1)
each_counted (Stmt-F.While e a) = a.1
each_counted (Stmt-F.Do a e) = a.1
each_counted (Stmt-F.For a test next c) = omega (arith, length-append (declared a.0) (declared c.0), a.1, c.1)
each_counted (Stmt-F.Switch e cs) = clauses_counted cs
each_counted (Stmt-F.Break at) = refl
each_counted (Stmt-F.Continue at) = refl
each_counted (Stmt-F.Return None at) = refl
each_counted (Stmt-F.Return (Some e) at) = refl

counted : (c : Stmt) → CountedOf c
unfolding bare bare_clause
counted = ind-Stmt CountedOf ClauseOf
    (λ x z is. subst (λ w. CountedOf (roll-Stmt w)) is
    (rw (fold-roll-Stmt (List Variable) (List Variable) declared_step declared_in_clause (bare z), fold-roll-Stmt ℕ ℕ statement_locals_step clause_locals_step (bare z)) (each_counted z)))
    (λ x z is. subst (λ w. ClauseOf (roll-Clause w)) is
    (rw (fold-roll-Clause (List Variable) (List Variable) declared_step declared_in_clause (bare_clause z), fold-roll-Clause ℕ ℕ statement_locals_step clause_locals_step (bare_clause z)) (clause_counted z)))

body_counted : (cs : List Stmt) → length (flat_map declared cs) ≡ sum (map statement_locals cs)
body_counted [] = refl
body_counted (c ∷ cs) =
    omega (arith, length-append (declared c) (flat_map declared cs), counted c, body_counted cs, sum_by-cons (λ n. n) (statement_locals c) (map statement_locals cs))

-- those of the parameters with names, and those of the body
pub variables_counted : (f : Function) → length (variables_of f) ≡ length (param_variables f.params) + sum (map statement_locals (body_of f.body))
variables_counted f = omega (arith, length-append (param_variables f.params) (flat_map declared (body_of f.body)), body_counted (body_of f.body))

params_few : (ps : List Param) → length (param_variables ps) ≤ length ps
params_few [] = omega arith
params_few (p ∷ ps) = omega (arith, length-append (param_variable p.name (is_unsigned_type p.ty)) (param_variables ps), one p.name, params_few ps)
  where
    one : (o : Option ℕ) → length (param_variable o (is_unsigned_type p.ty)) ≤ 1
    one None = omega arith
    one (Some n) = omega arith

-- a function weighs more than it has variables and temporaries
pub variables_light : (f : Function) → free_of f + greatest (map statement_temps (body_of f.body)) + 1 ≤ function_weight f
variables_light f = omega (arith, variables_counted f, params_few f.params)

pub length_light : (f : Function) (vs : List emit.Variable) → map variable_of vs ≡ variables_of f → length vs + 1 ≤ function_weight f
length_light f vs e = omega (arith, variables_light f, length-map vs variable_of, ap length e)

-- ---- parameters one after the other

abbrev one_of : Param → ℕ
one_of p = length (param_variable p.name (is_unsigned_type p.ty))

one_more : (ps : List Param) (i : ℕ) (d : Param) → i < length ps → length (param_variables (take (suc i) ps)) ≡ length (param_variables (take i ps)) + one_of (get_or ps i d)
one_more [] i d l = absurd (omega arith)
one_more (q ∷ ps) zero d l = omega (arith, length-append (param_variable q.name (is_unsigned_type q.ty)) [])
one_more (q ∷ ps) (suc i) d l =
    omega (arith, length-append (param_variable q.name (is_unsigned_type q.ty)) (param_variables (take (suc i) ps)), length-append (param_variable q.name (is_unsigned_type q.ty)) (param_variables (take i ps)), one_more ps i d (omega arith))

-- one more parameter is counted
pub param_counted : (ps : List Param) (i : ℕ) (d : Param) (count one : ℕ) → i < length ps → count + length (param_variables (take i ps)) ≡ i → one + length (variable_of_param (get_or ps i d)) ≡ 1 →
    (count + one) + length (param_variables (take (i + 1) ps)) ≡ i + 1
param_counted ps i d count one l before here =
    let h : i + 1 ≡ suc i = omega arith in
    let more = one_more ps i d l in
    let next : length (param_variables (take (i + 1) ps)) ≡ length (param_variables (take i ps)) + one_of (get_or ps i d) = ap (λ n. length (param_variables (take n ps))) h ∙ more in
    omega (arith, next, before, here)
