-- How many variables a body declares, and that one that returns a value needs a temporary.
use Rattle.std.proofs.Common.{◌≡◌, ℕ, ◌+◌, ◌≤◌, max, Bool, true, false, ◌||◌, List, [], ◌∷◌, map, sum, length, Option, Some, None, refl, subst, arith, flat_map}
use Rattle.std.proofs.lemmas.List.{length-append, length-map}
use Rattle.std.proofs.lemmas.List.Sums.{sum_by-cons}
use Rattle.std.proofs.lemmas.Bool.{false≢true}
use Rattle.c_syntax.specs.declared.tree.Param.{Param}
use Rattle.c_syntax.specs.declared.tree.Stmt.{Stmt, roll-Stmt, map-Stmt, ind-Stmt, fold-roll-Stmt}
use Rattle.c_syntax.specs.declared.tree.Clause.{Clause, fold-Clause, roll-Clause, map-Clause, fold-roll-Clause}
use Rattle.c_syntax.specs.declared.tree.Stmt.TheOpen.{Stmt-F, Clause-F}
use Rattle.c_syntax.specs.declared.tree.Function.{Function}
use Rattle.c_meaning.specs.Operators.{is_unsigned_type}
use Rattle.c_syntax.specs.Graph.{body_of}
use Rattle.c_syntax.specs.Sizes.{greatest}
use Rattle.c_syntax.specs.Costs.{statement_temps_step, clause_temps_step, statement_temps, clause_temps, statement_locals_step, clause_locals_step, statement_locals, clause_locals}
use Rattle.lower_rules.specs.Programs.{Variable, param_variable, param_variables, declared_step, declared_in_clause, declared, free_of, some_of, returns_step, returns_in_clause, returns_value}
use Rattle.lower_law.proofs.SomeTemps.{some_temps}

-- ---- both, of a statement

abbrev returns_clause : Clause → Bool
returns_clause = fold-Clause Bool Bool returns_step returns_in_clause

abbrev declared_clause : Clause → List Variable
declared_clause = fold-Clause (List Variable) (List Variable) declared_step declared_in_clause

record Counted (vs : List Variable) (locals : ℕ) (returns : Bool) (most : ℕ) : Type 0 where
  pub declares : length vs ≡ locals
  pub needs : returns ≡ true → 1 ≤ most

or_either : (a b : Bool) (m n : ℕ) → (a ≡ true → 1 ≤ m) → (b ≡ true → 1 ≤ n) → (a || b) ≡ true → 1 ≤ max m n
or_either true b m n f g h = omega (arith, f refl)
or_either false b m n f g h = omega (arith, g h)

abbrev CountedOf : Stmt → Type 0
CountedOf c = Counted (declared c) (statement_locals c) (returns_value c) (statement_temps c)

abbrev ClauseOf : Clause → Type 0
ClauseOf c = Counted (declared_clause c) (clause_locals c) (returns_clause c) (clause_temps c)

abbrev Part : Type 0
Part = (c : Stmt) × CountedOf c

abbrev ClausePart : Type 0
ClausePart = (c : Clause) × ClauseOf c

abbrev stmts : List Part → List Stmt
stmts cs = map (λ c. c.0) cs

abbrev the_clauses : List ClausePart → List Clause
the_clauses cs = map (λ c. c.0) cs

list_counted : (cs : List Part) → Counted (flat_map (λ vs. vs) (map declared (stmts cs))) (sum (map statement_locals (stmts cs))) (some_of (map returns_value (stmts cs))) (greatest (map statement_temps (stmts cs)))
list_counted [] = record { declares = refl; needs = λ h. absurd (false≢true h) }
list_counted (c ∷ cs) =
    let r = list_counted cs in
    let total = sum_by-cons (λ n. n) (statement_locals c.0) (map statement_locals (stmts cs)) in
    record {
      declares = omega (arith, length-append (declared c.0) (flat_map (λ vs. vs) (map declared (stmts cs))), c.1.declares, r.declares, total);
      needs = λ h. or_either (returns_value c.0) (some_of (map returns_value (stmts cs))) (statement_temps c.0) (greatest (map statement_temps (stmts cs))) c.1.needs r.needs h;
    }

clauses_counted : (cs : List ClausePart) → Counted (flat_map (λ vs. vs) (map declared_clause (the_clauses cs))) (sum (map clause_locals (the_clauses cs))) (some_of (map returns_clause (the_clauses cs))) (greatest (map clause_temps (the_clauses cs)))
clauses_counted [] = record { declares = refl; needs = λ h. absurd (false≢true h) }
clauses_counted (c ∷ cs) =
    let r = clauses_counted cs in
    let total = sum_by-cons (λ n. n) (clause_locals c.0) (map clause_locals (the_clauses cs)) in
    record {
      declares = omega (arith, length-append (declared_clause c.0) (flat_map (λ vs. vs) (map declared_clause (the_clauses cs))), c.1.declares, r.declares, total);
      needs = λ h. or_either (returns_clause c.0) (some_of (map returns_clause (the_clauses cs))) (clause_temps c.0) (greatest (map clause_temps (the_clauses cs))) c.1.needs r.needs h;
    }

bare : Stmt-F Part ClausePart → Stmt-F Stmt Clause
bare x = map-Stmt Part ClausePart Stmt Clause (λ c. c.0) (λ c. c.0) x

bare_clause : Clause-F Part ClausePart → Clause-F Stmt Clause
bare_clause x = map-Clause Part ClausePart Stmt Clause (λ c. c.0) (λ c. c.0) x

clause_counted : (x : Clause-F Part ClausePart) → Counted (declared_in_clause (map-Clause Stmt Clause (List Variable) (List Variable) declared declared_clause (bare_clause x))) (clause_locals_step (map-Clause Stmt Clause ℕ ℕ statement_locals clause_locals (bare_clause x))) (returns_in_clause (map-Clause Stmt Clause Bool Bool returns_value returns_clause (bare_clause x))) (clause_temps_step (map-Clause Stmt Clause ℕ ℕ statement_temps clause_temps (bare_clause x)))
unfolding bare_clause
clause_counted x = let r = list_counted x.body in record { declares = r.declares; needs = λ h. omega (arith, r.needs h) }

each_counted : (x : Stmt-F Part ClausePart) → Counted (declared_step (map-Stmt Stmt Clause (List Variable) (List Variable) declared declared_clause (bare x))) (statement_locals_step (map-Stmt Stmt Clause ℕ ℕ statement_locals clause_locals (bare x))) (returns_step (map-Stmt Stmt Clause Bool Bool returns_value returns_clause (bare x))) (statement_temps_step (map-Stmt Stmt Clause ℕ ℕ statement_temps clause_temps (bare x)))
unfolding bare
each_counted Stmt-F.Empty = record { declares = refl; needs = λ h. absurd (false≢true h) }
each_counted (Stmt-F.Value e) = record { declares = refl; needs = λ h. absurd (false≢true h) }
each_counted (Stmt-F.Declare ds) = record { declares = length-map ds _; needs = λ h. absurd (false≢true h) }
each_counted (Stmt-F.Block cs) = list_counted cs
each_counted (Stmt-F.If e a None) = record { declares = omega (arith, length-append (declared a.0) [], a.1.declares); needs = λ h. omega (arith, some_temps e) }
each_counted (Stmt-F.If e a (Some c)) = record { declares = omega (arith, length-append (declared a.0) (declared c.0), a.1.declares, c.1.declares); needs = λ h. omega (arith, some_temps e) }
each_counted (Stmt-F.While e a) = record { declares = a.1.declares; needs = λ h. omega (arith, some_temps e) }
each_counted (Stmt-F.Do a e) = record { declares = a.1.declares; needs = λ h. omega (arith, some_temps e) }
each_counted (Stmt-F.For a test next c) = record {
  declares = omega (arith, length-append (declared a.0) (declared c.0), a.1.declares, c.1.declares);
  needs = λ h. let m : 1 ≤ max (statement_temps a.0) (statement_temps c.0) = or_either (returns_value a.0) (returns_value c.0) (statement_temps a.0) (statement_temps c.0) a.1.needs c.1.needs h in omega (arith, m);
}
each_counted (Stmt-F.Switch e cs) = record { declares = (clauses_counted cs).declares; needs = λ h. omega (arith, some_temps e) }
each_counted (Stmt-F.Break at) = record { declares = refl; needs = λ h. absurd (false≢true h) }
each_counted (Stmt-F.Continue at) = record { declares = refl; needs = λ h. absurd (false≢true h) }
each_counted (Stmt-F.Return None at) = record { declares = refl; needs = λ h. absurd (false≢true h) }
each_counted (Stmt-F.Return (Some e) at) = record { declares = refl; needs = λ h. some_temps e }

counted : (c : Stmt) → CountedOf c
unfolding bare bare_clause
counted = ind-Stmt CountedOf ClauseOf
    (λ x z is. subst (λ w. CountedOf (roll-Stmt w)) is
    (rw (fold-roll-Stmt (List Variable) (List Variable) declared_step declared_in_clause (bare z), fold-roll-Stmt ℕ ℕ statement_locals_step clause_locals_step (bare z), fold-roll-Stmt Bool Bool returns_step returns_in_clause (bare z), fold-roll-Stmt ℕ ℕ statement_temps_step clause_temps_step (bare z)) (each_counted z)))
    (λ x z is. subst (λ w. ClauseOf (roll-Clause w)) is
    (rw (fold-roll-Clause (List Variable) (List Variable) declared_step declared_in_clause (bare_clause z), fold-roll-Clause ℕ ℕ statement_locals_step clause_locals_step (bare_clause z), fold-roll-Clause Bool Bool returns_step returns_in_clause (bare_clause z), fold-roll-Clause ℕ ℕ statement_temps_step clause_temps_step (bare_clause z)) (clause_counted z)))

-- ---- functions

body_counted : (cs : List Stmt) → Counted (flat_map declared cs) (sum (map statement_locals cs)) (some_of (map returns_value cs)) (greatest (map statement_temps cs))
body_counted [] = record { declares = refl; needs = λ h. absurd (false≢true h) }
body_counted (c ∷ cs) =
    let r = body_counted cs in
    let x = counted c in
    let total = sum_by-cons (λ n. n) (statement_locals c) (map statement_locals cs) in
    record {
      declares = omega (arith, length-append (declared c) (flat_map declared cs), x.declares, r.declares, total);
      needs = λ h. or_either (returns_value c) (some_of (map returns_value cs)) (statement_temps c) (greatest (map statement_temps cs)) x.needs r.needs h;
    }

params_few : (ps : List Param) → length (param_variables ps) ≤ length ps
params_few [] = omega arith
params_few (p ∷ ps) = omega (arith, length-append (param_variable p.name (is_unsigned_type p.ty)) (param_variables ps), one p.name, params_few ps)
  where
    one : (o : Option ℕ) → length (param_variable o (is_unsigned_type p.ty)) ≤ 1
    one None = omega arith
    one (Some n) = omega arith

-- the variables of a function are at most its parameters and those of its body
pub free_most : (f : Function) → free_of f ≤ length f.params + sum (map statement_locals (body_of f.body))
free_most f = omega (arith, length-append (param_variables f.params) (flat_map declared (body_of f.body)), params_few f.params, (body_counted (body_of f.body)).declares)

-- a body that returns a value needs a temporary
pub returns_need : (f : Function) → some_of (map returns_value (body_of f.body)) ≡ true → 1 ≤ greatest (map statement_temps (body_of f.body))
returns_need f h = (body_counted (body_of f.body)).needs h
