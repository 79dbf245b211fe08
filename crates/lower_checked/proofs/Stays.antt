-- The walk of a body leaves the names at file scope and the bodies that have come.
use Rattle.std.proofs.Common.{◌≡◌, ℕ, ◌||◌, List, [], ◌∷◌, map, length, Option, Some, None, refl, ◌∙◌, subst}
use Rattle.c_syntax.specs.declared.tree.Ty.{Ty}
use Rattle.c_syntax.specs.declared.tree.Local.{Local}
use Rattle.c_syntax.specs.declared.tree.Param.{Param}
use Rattle.c_syntax.specs.declared.tree.Clause.{Clause, roll-Clause, map-Clause, fold-roll-Clause}
use Rattle.c_syntax.specs.declared.tree.Stmt.{Stmt, roll-Stmt, map-Stmt, ind-Stmt, fold-roll-Stmt}
use Rattle.c_syntax.specs.declared.tree.Stmt as stmt
use Rattle.c_syntax.specs.declared.tree.Stmt.TheOpen.{Stmt-F, Clause-F}
use Rattle.check_rules.specs.declared.error.CheckKind.TheVariants.{BreakOutside, BadReturn}
use Rattle.check_rules.specs.declared.names.Kind.TheVariants.{Scalar}
use Rattle.check_rules.specs.declared.names.Around.{Around}
use Rattle.check_rules.specs.Fault.{Walk, require}
use Rattle.check_rules.specs.Scopes.{Walking, enter_block, is_new, opened, closed}
use Rattle.check_rules.specs.Walk.{with_value, any_expression, if_there, new_name, variable, walk_local, walk_locals, looping, switching, Labels, no_labels, StatementWalk, ClauseWalk, walk_each, walk_else, walk_labels, walk_clauses, is_good_return, statement_walk_step, clause_walk_step, statement_walk, clause_walk, in_function, walk_param, walk_params, walk_body}
use Rattle.check_law.proofs.Yields.{Yields, yields_ok, yields_then, yields_after}

pub record Same (w v : Walking) : Type 0 where
  pub file : v.file ≡ w.file
  pub bodies : v.bodies ≡ w.bodies

pub same_refl : (w : Walking) → Same w w
same_refl w = record { file = refl; bodies = refl }

same_then : (w v u : Walking) → Same w v → Same v u → Same w u
same_then w v u a b = record { file = b.file ∙ a.file; bodies = b.bodies ∙ a.bodies }

-- of a part that gives no scopes nothing is asked
pub anything : {A : Type 0} (m : Walk A) → Yields m (λ a. Unit {0})
anything m = record { if_ok = λ a is. tt }

local_stays : (d : Local) (w : Walking) → Yields (walk_local d w) (λ r. Same w r.1)
local_stays d w =
    let w1 : Walking = enter_block d.name (Scalar d.is_const) (variable d.ty d.is_const) w in
    yields_after {m = new_name (is_new d.name w.blocks) d.at} (λ new. yields_then (anything (if_there with_value d.first w1)) (λ first u. yields_ok (record d { name = length w.decls; first = first }, w1) (record { file = refl; bodies = refl })))

locals_stay : (ds : List Local) (w : Walking) → Yields (walk_locals ds w) (λ r. Same w r.1)
locals_stay [] w = yields_ok ([], w) (same_refl w)
locals_stay (d ∷ ds) w = yields_then (local_stays d w) (λ r1 p. yields_then (locals_stay ds r1.1) (λ r2 q. yields_ok (r1.0 ∷ r2.0, r2.1) (same_then w r1.1 r2.1 p q)))

-- ---- statements

pub record Stays (x : StatementWalk) : Type 0 where
  pub by : (around : Around) (w : Walking) → Yields (x around w) (λ r. Same w r.1)

pub record ClauseStays (y : ClauseWalk) : Type 0 where
  pub by : (labels : Labels) (around : Around) (w : Walking) → Yields (y labels around w) (λ r. Same w r.2)

abbrev Part : Type 0
Part = (c : Stmt) × Stays (statement_walk c)

abbrev ClausePart : Type 0
ClausePart = (c : Clause) × ClauseStays (clause_walk c)

abbrev bare : Stmt-F Part ClausePart → Stmt-F Stmt Clause
bare y = map-Stmt Part ClausePart Stmt Clause (λ c. c.0) (λ c. c.0) y

abbrev bare_clause : Clause-F Part ClausePart → Clause-F Stmt Clause
bare_clause y = map-Clause Part ClausePart Stmt Clause (λ c. c.0) (λ c. c.0) y

each_stays : (cs : List Part) (around : Around) (w : Walking) → Yields (walk_each (map statement_walk (map (λ c. c.0) cs)) around w) (λ r. Same w r.1)
each_stays [] around w = yields_ok ([], w) (same_refl w)
each_stays (c ∷ cs) around w = yields_then (c.1.by around w) (λ r1 p. yields_then (each_stays cs around r1.1) (λ r2 q. yields_ok (r1.0 ∷ r2.0, r2.1) (same_then w r1.1 r2.1 p q)))

clauses_stay : (cs : List ClausePart) (labels : Labels) (around : Around) (w : Walking) → Yields (walk_clauses (map clause_walk (map (λ c. c.0) cs)) labels around w) (λ r. Same w r.1)
clauses_stay [] labels around w = yields_ok ([], w) (same_refl w)
clauses_stay (c ∷ cs) labels around w = yields_then (c.1.by labels around w) (λ r1 p. yields_then (clauses_stay cs r1.1 around r1.2) (λ r2 q. yields_ok (r1.0 ∷ r2.0, r2.1) (same_then w r1.2 r2.1 p q)))

else_stays : (c : Part) (around : Around) (w : Walking) → Yields (walk_else (Some (statement_walk c.0)) around w) (λ r. Same w r.1)
else_stays c around w = yields_then (c.1.by around w) (λ r p. yields_ok (Some r.0, r.1) p)

abbrev S : Stmt-F StatementWalk ClauseWalk → StatementWalk
S = statement_walk_step

abbrev C : Clause-F StatementWalk ClauseWalk → ClauseWalk
C = clause_walk_step

around_same : (w v : Walking) → Same (opened w) v → Same w (closed v)
around_same w v s = record { file = s.file; bodies = s.bodies }

each_statement : (y : Stmt-F Part ClausePart) → Stays (statement_walk_step (map-Stmt Stmt Clause StatementWalk ClauseWalk statement_walk clause_walk (bare y)))
each_statement Stmt-F.Empty = record { by = λ around w. yields_ok (stmt.Empty, w) (same_refl w) }
each_statement (Stmt-F.Value e) = record { by = λ around w. yields_then (anything (any_expression e w)) (λ e' u. yields_ok (stmt.Value e', w) (same_refl w)) }
each_statement (Stmt-F.Declare ds) = record { by = λ around w. yields_then (locals_stay ds w) (λ r p. yields_ok (stmt.Declare r.0, r.1) p) }
each_statement (Stmt-F.Block cs) = record { by = λ around w. yields_then (each_stays cs around (opened w)) (λ r p. yields_ok (stmt.Block r.0, closed r.1) (around_same w r.1 p)) }
each_statement (Stmt-F.If t b None) = record { by = λ around w. yields_then (anything (with_value t w)) (λ t' u. yields_then (b.1.by around w) (λ r p. yields_ok (stmt.If t' r.0 None, r.1) p)) }
each_statement (Stmt-F.If t b (Some c)) = record {
  by = λ around w. yields_then (anything (with_value t w)) (λ t' u. yields_then (b.1.by around w) (λ r1 p. yields_then (else_stays c around r1.1) (λ r2 q. yields_ok (stmt.If t' r1.0 r2.0, r2.1) (same_then w r1.1 r2.1 p q))));
}
each_statement (Stmt-F.While t b) = record { by = λ around w. yields_then (anything (with_value t w)) (λ t' u. yields_then (b.1.by (looping around) w) (λ r p. yields_ok (stmt.While t' r.0, r.1) p)) }
each_statement (Stmt-F.Do b t) = record { by = λ around w. yields_then (b.1.by (looping around) w) (λ r p. yields_then (anything (with_value t r.1)) (λ t' u. yields_ok (stmt.Do r.0 t', r.1) p)) }
each_statement (Stmt-F.For first t next b) = record {
  by = λ around w. yields_then (first.1.by around (opened w)) (λ r1 p.
      yields_then (anything (if_there with_value t r1.1)) (λ t' u.
      yields_then (anything (if_there any_expression next r1.1)) (λ n' v.
      yields_then (b.1.by (looping around) r1.1) (λ r2 q. yields_ok (stmt.For r1.0 t' n' r2.0, closed r2.1) (around_same w r2.1 (same_then (opened w) r1.1 r2.1 p q))))));
}
each_statement (Stmt-F.Switch t cs) = record { by = λ around w. yields_then (anything (with_value t w)) (λ t' u. yields_then (clauses_stay cs no_labels (switching around) w) (λ r p. yields_ok (stmt.Switch t' r.0, r.1) p)) }
each_statement (Stmt-F.Break at) = record { by = λ around w. yields_after {m = require (around.in_loop || around.in_switch) BreakOutside at} (λ ok. yields_ok (stmt.Break at, w) (same_refl w)) }
each_statement (Stmt-F.Continue at) = record { by = λ around w. yields_after {m = require around.in_loop BreakOutside at} (λ ok. yields_ok (stmt.Continue at, w) (same_refl w)) }
each_statement (Stmt-F.Return e at) = record { by = λ around w. yields_after {m = require (is_good_return around.ty e) BadReturn at} (λ ok. yields_then (anything (if_there with_value e w)) (λ e' u. yields_ok (stmt.Return e' at, w) (same_refl w))) }

each_clause : (y : Clause-F Part ClausePart) → ClauseStays (clause_walk_step (map-Clause Stmt Clause StatementWalk ClauseWalk statement_walk clause_walk (bare_clause y)))
each_clause y = record {
  by = λ labels around w. yields_then (anything (walk_labels y.labels labels w)) (λ r1 u. yields_then (each_stays y.body around w) (λ r2 q. yields_ok (record { labels = r1.0; body = r2.0 }, r1.1, r2.1) q));
}

statement_stays : (c : Stmt) → Stays (statement_walk c)
statement_stays = ind-Stmt (λ c. Stays (statement_walk c)) (λ c. ClauseStays (clause_walk c))
    (λ x y is. subst (λ z. Stays (statement_walk (roll-Stmt z))) is (rw (fold-roll-Stmt StatementWalk ClauseWalk S C (bare y)) (each_statement y)))
    (λ x y is. subst (λ z. ClauseStays (clause_walk (roll-Clause z))) is (rw (fold-roll-Clause StatementWalk ClauseWalk S C (bare_clause y)) (each_clause y)))

statements_stay : (cs : List Stmt) (around : Around) (w : Walking) → Yields (walk_each (map statement_walk cs) around w) (λ r. Same w r.1)
statements_stay [] around w = yields_ok ([], w) (same_refl w)
statements_stay (c ∷ cs) around w = yields_then ((statement_stays c).by around w) (λ r1 p. yields_then (statements_stay cs around r1.1) (λ r2 q. yields_ok (r1.0 ∷ r2.0, r2.1) (same_then w r1.1 r2.1 p q)))

pub body_stays : (ty : Ty) (body : Option (List Stmt)) (w : Walking) → Yields (walk_body ty body w) (λ r. Same w r.1)
body_stays ty None w = yields_ok (None, w) (same_refl w)
body_stays ty (Some body) w = yields_then (statements_stay body (in_function ty) w) (λ r p. yields_ok (Some r.0, r.1) p)

-- ---- parameters

param_stays : (p : Param) (o : Option ℕ) (w : Walking) → Yields (walk_param p o w) (λ r. Same w r.1)
param_stays p None w = yields_ok (p, w) (same_refl w)
param_stays p (Some n) w = yields_after {m = new_name (is_new n w.blocks) p.at} (λ new. yields_ok (record p { name = Some (length w.decls) }, enter_block n (Scalar p.is_const) (variable p.ty p.is_const) w) (record { file = refl; bodies = refl }))

pub params_stay : (ps : List Param) (w : Walking) → Yields (walk_params ps w) (λ r. Same w r.1)
params_stay [] w = yields_ok ([], w) (same_refl w)
params_stay (p ∷ ps) w = yields_then (param_stays p p.name w) (λ r1 a. yields_then (params_stay ps r1.1) (λ r2 b. yields_ok (r1.0 ∷ r2.0, r2.1) (same_then w r1.1 r2.1 a b)))
