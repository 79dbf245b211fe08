-- The walk of what the walk gives of a statement: it gives the same, and goes on from the same scopes with positions for names.
use Rattle.std.proofs.Common.{◌≡◌, ℕ, true, not, ◌&&◌, ◌||◌, List, [], ◌∷◌, map, length, Option, Some, None, option_map, Ok, refl, sym, ap, ◌∙◌, subst}
use Rattle.c_syntax.specs.declared.tree.Ty.{Ty}
use Rattle.c_syntax.specs.declared.tree.Expr.{Expr}
use Rattle.c_syntax.specs.declared.tree.Local.{Local}
use Rattle.c_syntax.specs.declared.tree.Label.{Label}
use Rattle.c_syntax.specs.declared.tree.Label.TheVariants as label
use Rattle.c_syntax.specs.declared.tree.Clause.{Clause, roll-Clause, map-Clause, fold-roll-Clause}
use Rattle.c_syntax.specs.declared.tree.Stmt.{Stmt, roll-Stmt, map-Stmt, ind-Stmt, fold-roll-Stmt}
use Rattle.c_syntax.specs.declared.tree.Stmt as stmt
use Rattle.c_syntax.specs.declared.tree.Stmt.TheOpen.{Stmt-F, Clause-F}
use Rattle.c_meaning.specs.Meaning.{constant}
use Rattle.check_rules.specs.declared.error.CheckKind.TheVariants.{NotConstant, CaseTwice, BreakOutside, BadReturn}
use Rattle.check_rules.specs.declared.names.Kind.TheVariants.{Scalar}
use Rattle.check_rules.specs.declared.names.Around.{Around}
use Rattle.check_rules.specs.Fault.{Walk, ◌>>=◌, require}
use Rattle.check_rules.specs.Scopes.{Walking, in_force, enter_block, is_new, opened, closed}
use Rattle.check_rules.specs.Walk.{with_value, any_expression, if_there, place_of, is_free, has_constant_value, constant_part, is_among, new_name, variable, walk_local, walk_locals, looping, switching, Labels, no_labels, StatementWalk, ClauseWalk, walk_each, walk_else, walk_label, walk_labels, walk_clauses, is_good_return, statement_walk_step, clause_walk_step, statement_walk, clause_walk}
use Rattle.check_law.proofs.Yields.{Yields, yields_ok, yields_then, yields_after, required}
use Rattle.check_law.proofs.Unchanged.{constant_unchanged}
use Rattle.check_rules.proofs.Views.{on-Empty, on-Value, on-Declare, on-Block, on-If, on-While, on-Do, on-For, on-Switch, on-Break, on-Continue, on-Return, on-clause}
use Rattle.check_law.proofs.Agrees.{agrees, agrees_value}
use Rattle.check_law.proofs.Placed.{again, Apart, in_force_again, apart_opened, apart_closed, apart_entered, closed_again, enter_block_again, new_again}

-- ---- expressions

pub any_again : (w : Walking) → Apart w → (e : Expr) → Yields (any_expression e w) (λ e'. (bs : List ℕ) → any_expression e' (again bs w) ≡ Ok e')
any_again w a e = record { if_ok = λ e' is bs. ((agrees (in_force w) (in_force (again bs w)) (in_force_again bs w a) e).by.if_ok e' is).walk }

pub value_again : (w : Walking) → Apart w → (e : Expr) → Yields (with_value e w) (λ e'. (bs : List ℕ) → with_value e' (again bs w) ≡ Ok e')
value_again w a e = record { if_ok = λ e' is bs. ((agrees_value (in_force w) (in_force (again bs w)) (in_force_again bs w a) (agrees (in_force w) (in_force (again bs w)) (in_force_again bs w a) e)).if_ok e' is).value }

pub if_again : (walk : Expr → Walking → Walk Expr) (w : Walking) → ((e : Expr) → Yields (walk e w) (λ e'. (bs : List ℕ) → walk e' (again bs w) ≡ Ok e')) → (o : Option Expr) → Yields (if_there walk o w) (λ o'. (bs : List ℕ) → if_there walk o' (again bs w) ≡ Ok o')
if_again walk w each None = yields_ok None (λ bs. refl)
if_again walk w each (Some e) = yields_then (each e) (λ e' h. yields_ok (Some e') (λ bs. let v = h bs in rw v refl))

constant_is : (e : Expr) (W : Walking) → with_value e W ≡ Ok e → (is_free e && has_constant_value e) ≡ true → constant_part e W ≡ Ok e
constant_is e W v t = rw (v, t) refl

-- a constant stays as it is
pub record ConstantAgain (w : Walking) (e e' : Expr) : Type 0 where
  pub same : e' ≡ e
  pub by : (bs : List ℕ) → constant_part e' (again bs w) ≡ Ok e'

constant_passes : (w : Walking) → Apart w → (e : Expr) → Yields (constant_part e w) (λ e'. ((bs : List ℕ) → with_value e' (again bs w) ≡ Ok e') × ((is_free e && has_constant_value e) ≡ true))
constant_passes w a e = yields_then (value_again w a e) (λ e' v. yields_after {m = require (is_free e && has_constant_value e) NotConstant (place_of e)} (λ ok. yields_ok e' (v, required (is_free e && has_constant_value e) NotConstant (place_of e) ok)))

pub constant_again : (w : Walking) → Apart w → (e : Expr) → Yields (constant_part e w) (ConstantAgain w e)
constant_again w a e = record {
  if_ok = λ e' is.
      let p = (constant_unchanged e w).if_ok e' is in
      let q = (constant_passes w a e).if_ok e' is in
      record { same = p; by = λ bs. constant_is e' (again bs w) (q.0 bs) (subst (λ x. (is_free x && has_constant_value x) ≡ true) (sym p) q.1) };
}

-- ---- what goes on

-- what the walk of a part gives, walked again
pub record Again {A : Type 0} (rerun : A → Walking → Walk (A × Walking)) (w : Walking) (r : A × Walking) : Type 0 where
  pub apart : Apart r.1
  pub file : r.1.file ≡ w.file
  pub bodies : r.1.bodies ≡ w.bodies
  pub by : (bs : List ℕ) → rerun r.0 (again bs w) ≡ Ok (r.0, again bs r.1)

abbrev local_is : Local → ℕ → Walking → Option Expr → Walk (Local × Walking)
local_is d p W first = Ok (record d { name = p; first = first }, W)

local_rest : (d : Local) (p : ℕ) (first : Option Expr) (W W' : Walking) → W ≡ W' → if_there with_value first W' ≡ Ok first → (if_there with_value first W >>= local_is d p W) ≡ local_is d p W' first
local_rest d p first W W' e v = subst (λ X. (if_there with_value first X >>= local_is d p X) ≡ local_is d p W' first) (sym e) (rw v refl)

local_again : (d : Local) (w : Walking) → Apart w → Yields (walk_local d w) (Again walk_local w)
local_again d w a =
    let w1 : Walking = enter_block d.name (Scalar d.is_const) (variable d.ty d.is_const) w in
    let a1 : Apart w1 = apart_entered d.name (Scalar d.is_const) (variable d.ty d.is_const) w a in
    yields_after {m = new_name (is_new d.name w.blocks) d.at} (λ new. yields_then (if_again with_value w1 (value_again w1 a1) d.first) (λ first v. yields_ok (record d { name = length w.decls; first = first }, w1) (record {
      apart = a1;
      file = refl;
      bodies = refl;
      by = λ bs.
          let n = new_again w a in
          let r = local_rest d (length w.decls) first (enter_block (length w.decls) (Scalar d.is_const) (variable d.ty d.is_const) (again bs w)) (again bs w1) (enter_block_again bs d.name (Scalar d.is_const) (variable d.ty d.is_const) w) (v bs) in
          rw n r;
    })))

pub locals_again : (ds : List Local) (w : Walking) → Apart w → Yields (walk_locals ds w) (Again walk_locals w)
locals_again [] w a = yields_ok ([], w) (record { apart = a; file = refl; bodies = refl; by = λ bs. refl })
locals_again (d ∷ ds) w a = yields_then (local_again d w a) (λ r1 p. yields_then (locals_again ds r1.1 p.apart) (λ r2 q. yields_ok (r1.0 ∷ r2.0, r2.1) (record {
  apart = q.apart;
  file = q.file ∙ p.file;
  bodies = q.bodies ∙ p.bodies;
  by = λ bs. let u = p.by bs in let v = q.by bs in rw (u, v) refl;
})))

-- ---- labels

pub record LabelAgain {A : Type 0} (rerun : A → Labels → Walking → Walk (A × Labels)) (labels : Labels) (w : Walking) (r : A × Labels) : Type 0 where
  pub by : (bs : List ℕ) → rerun r.0 labels (again bs w) ≡ Ok (r.0, r.1)

label_again : (l : Label) (labels : Labels) (w : Walking) → Apart w → Yields (walk_label l labels w) (LabelAgain walk_label labels w)
label_again (label.Case e at) labels w a = yields_then {P = λ r. ConstantAgain w e r.0 × (r.1 ≡ constant e)} (yields_then (constant_again w a e) (λ e' c. yields_ok (e', constant e) (c, refl))) (λ r c. yields_after {m = require (not (is_among r.1 labels.cases)) CaseTwice at} (λ new. yields_ok _ (record {
  by = λ bs.
      let v = c.0.by bs in
      let k : constant r.0 ≡ r.1 = ap constant c.0.same ∙ sym c.1 in
      let n = required (not (is_among r.1 labels.cases)) CaseTwice at new in
      rw (v, k, n) refl;
})))
label_again (label.Otherwise at) labels w a = yields_after {m = require (not labels.has_default) CaseTwice at} (λ new. yields_ok _ (record { by = λ bs. let n = required (not labels.has_default) CaseTwice at new in rw n refl }))

labels_again : (ls : List Label) (labels : Labels) (w : Walking) → Apart w → Yields (walk_labels ls labels w) (LabelAgain walk_labels labels w)
labels_again [] labels w a = yields_ok ([], labels) (record { by = λ bs. refl })
labels_again (l ∷ ls) labels w a = yields_then (label_again l labels w a) (λ r1 p. yields_then (labels_again ls r1.1 w a) (λ r2 q. yields_ok (r1.0 ∷ r2.0, r2.1) (record { by = λ bs. let u = p.by bs in let v = q.by bs in rw (u, v) refl })))

-- ---- statements

pub record Agains (x : StatementWalk) : Type 0 where
  pub by : (around : Around) (w : Walking) → Apart w → Yields (x around w) (Again (λ c. statement_walk c around) w)

pub record ClauseAgain (labels : Labels) (around : Around) (w : Walking) (r : Clause × Labels × Walking) : Type 0 where
  pub apart : Apart r.2
  pub file : r.2.file ≡ w.file
  pub bodies : r.2.bodies ≡ w.bodies
  pub by : (bs : List ℕ) → clause_walk r.0 labels around (again bs w) ≡ Ok (r.0, r.1, again bs r.2)

pub record AgainsClause (y : ClauseWalk) : Type 0 where
  pub by : (labels : Labels) (around : Around) (w : Walking) → Apart w → Yields (y labels around w) (ClauseAgain labels around w)

abbrev Part : Type 0
Part = (c : Stmt) × Agains (statement_walk c)

abbrev ClausePart : Type 0
ClausePart = (c : Clause) × AgainsClause (clause_walk c)

abbrev bare : Stmt-F Part ClausePart → Stmt-F Stmt Clause
bare y = map-Stmt Part ClausePart Stmt Clause (λ c. c.0) (λ c. c.0) y

abbrev bare_clause : Clause-F Part ClausePart → Clause-F Stmt Clause
bare_clause y = map-Clause Part ClausePart Stmt Clause (λ c. c.0) (λ c. c.0) y

each_again : (cs : List Part) (around : Around) (w : Walking) → Apart w → Yields (walk_each (map statement_walk (map (λ c. c.0) cs)) around w) (Again (λ cs. walk_each (map statement_walk cs) around) w)
each_again [] around w a = yields_ok ([], w) (record { apart = a; file = refl; bodies = refl; by = λ bs. refl })
each_again (c ∷ cs) around w a = yields_then (c.1.by around w a) (λ r1 p. yields_then (each_again cs around r1.1 p.apart) (λ r2 q. yields_ok (r1.0 ∷ r2.0, r2.1) (record {
  apart = q.apart;
  file = q.file ∙ p.file;
  bodies = q.bodies ∙ p.bodies;
  by = λ bs. let u = p.by bs in let v = q.by bs in rw (u, v) refl;
})))

clauses_again : (cs : List ClausePart) (labels : Labels) (around : Around) (w : Walking) → Apart w → Yields (walk_clauses (map clause_walk (map (λ c. c.0) cs)) labels around w) (Again (λ cs. walk_clauses (map clause_walk cs) labels around) w)
clauses_again [] labels around w a = yields_ok ([], w) (record { apart = a; file = refl; bodies = refl; by = λ bs. refl })
clauses_again (c ∷ cs) labels around w a = yields_then (c.1.by labels around w a) (λ r1 p. yields_then (clauses_again cs r1.1 around r1.2 p.apart) (λ r2 q. yields_ok (r1.0 ∷ r2.0, r2.1) (record {
  apart = q.apart;
  file = q.file ∙ p.file;
  bodies = q.bodies ∙ p.bodies;
  by = λ bs. let u = p.by bs in let v = q.by bs in rw (u, v) refl;
})))

-- what stands after `else`
else_again : (c : Part) (around : Around) (w : Walking) → Apart w → Yields (walk_else (Some (statement_walk c.0)) around w) (Again (λ c. walk_else (option_map statement_walk c) around) w)
else_again c around w a = yields_then (c.1.by around w a) (λ r p. yields_ok (Some r.0, r.1) (record { apart = p.apart; file = p.file; bodies = p.bodies; by = λ bs. let u = p.by bs in rw u refl }))

abbrev S : Stmt-F StatementWalk ClauseWalk → StatementWalk
S = statement_walk_step

abbrev C : Clause-F StatementWalk ClauseWalk → ClauseWalk
C = clause_walk_step

-- a statement that leaves the scopes
stays : (c : Stmt) (around : Around) (w : Walking) → Apart w → {x : StatementWalk} → statement_walk c ≡ x → ((bs : List ℕ) → x around (again bs w) ≡ Ok (c, again bs w)) → Again (λ c. statement_walk c around) w (c, w)
stays c around w a {x = x} e h = record { apart = a; file = refl; bodies = refl; by = λ bs. ap (λ f. f around (again bs w)) e ∙ h bs }

each_statement : (y : Stmt-F Part ClausePart) → Agains (statement_walk_step (map-Stmt Stmt Clause StatementWalk ClauseWalk statement_walk clause_walk (bare y)))
each_statement Stmt-F.Empty = record { by = λ around w a. yields_ok (stmt.Empty, w) (stays stmt.Empty around w a (on-Empty StatementWalk ClauseWalk S C) (λ bs. refl)) }
each_statement (Stmt-F.Value e) = record { by = λ around w a. yields_then (any_again w a e) (λ e' v. yields_ok (stmt.Value e', w) (stays (stmt.Value e') around w a (on-Value StatementWalk ClauseWalk S C e') (λ bs. let u = v bs in rw u refl))) }
each_statement (Stmt-F.Declare ds) = record {
  by = λ around w a. yields_then (locals_again ds w a) (λ r p. yields_ok (stmt.Declare r.0, r.1) (record {
    apart = p.apart;
    file = p.file;
    bodies = p.bodies;
    by = λ bs. let u = p.by bs in ap (λ f. f around (again bs w)) (on-Declare StatementWalk ClauseWalk S C r.0) ∙ rw u refl;
  }));
}
each_statement (Stmt-F.Block cs) = record {
  by = λ around w a. yields_then (each_again cs around (opened w) (apart_opened w a)) (λ r p. yields_ok (stmt.Block r.0, closed r.1) (record {
    apart = apart_closed r.1 p.apart;
    file = p.file;
    bodies = p.bodies;
    by = λ bs. let u = p.by bs in let q = closed_again bs r.1 in ap (λ f. f around (again bs w)) (on-Block StatementWalk ClauseWalk S C r.0) ∙ rw (u, q) refl;
  }));
}
each_statement (Stmt-F.If t b None) = record {
  by = λ around w a. yields_then (value_again w a t) (λ t' v. yields_then (b.1.by around w a) (λ r p. yields_ok (stmt.If t' r.0 None, r.1) (record {
    apart = p.apart;
    file = p.file;
    bodies = p.bodies;
    by = λ bs. let x = v bs in let y = p.by bs in ap (λ f. f around (again bs w)) (on-If StatementWalk ClauseWalk S C t' r.0 None) ∙ rw (x, y) refl;
  })));
}
each_statement (Stmt-F.If t b (Some c)) = record {
  by = λ around w a. yields_then (value_again w a t) (λ t' v. yields_then (b.1.by around w a) (λ r1 p. yields_then (else_again c around r1.1 p.apart) (λ r2 q. yields_ok (stmt.If t' r1.0 r2.0, r2.1) (record {
    apart = q.apart;
    file = q.file ∙ p.file;
    bodies = q.bodies ∙ p.bodies;
    by = λ bs. let x = v bs in let y = p.by bs in let z = q.by bs in ap (λ f. f around (again bs w)) (on-If StatementWalk ClauseWalk S C t' r1.0 r2.0) ∙ rw (x, y, z) refl;
  }))));
}
each_statement (Stmt-F.While t b) = record {
  by = λ around w a. yields_then (value_again w a t) (λ t' v. yields_then (b.1.by (looping around) w a) (λ r p. yields_ok (stmt.While t' r.0, r.1) (record {
    apart = p.apart;
    file = p.file;
    bodies = p.bodies;
    by = λ bs. let x = v bs in let y = p.by bs in ap (λ f. f around (again bs w)) (on-While StatementWalk ClauseWalk S C t' r.0) ∙ rw (x, y) refl;
  })));
}
each_statement (Stmt-F.Do b t) = record {
  by = λ around w a. yields_then (b.1.by (looping around) w a) (λ r p. yields_then (value_again r.1 p.apart t) (λ t' v. yields_ok (stmt.Do r.0 t', r.1) (record {
    apart = p.apart;
    file = p.file;
    bodies = p.bodies;
    by = λ bs. let x = v bs in let y = p.by bs in ap (λ f. f around (again bs w)) (on-Do StatementWalk ClauseWalk S C r.0 t') ∙ rw (y, x) refl;
  })));
}
each_statement (Stmt-F.For first t next b) = record {
  by = λ around w a. yields_then (first.1.by around (opened w) (apart_opened w a)) (λ r1 p.
      yields_then (if_again with_value r1.1 (value_again r1.1 p.apart) t) (λ t' u.
      yields_then (if_again any_expression r1.1 (any_again r1.1 p.apart) next) (λ n' v.
      yields_then (b.1.by (looping around) r1.1 p.apart) (λ r2 q. yields_ok (stmt.For r1.0 t' n' r2.0, closed r2.1) (record {
        apart = apart_closed r2.1 q.apart;
        file = q.file ∙ p.file;
        bodies = q.bodies ∙ p.bodies;
        by = λ bs. let x1 = p.by bs in let x2 = u bs in let x3 = v bs in let x4 = q.by bs in let x5 = closed_again bs r2.1 in ap (λ f. f around (again bs w)) (on-For StatementWalk ClauseWalk S C r1.0 t' n' r2.0) ∙ rw (x1, x2, x3, x4, x5) refl;
      })))));
}
each_statement (Stmt-F.Switch t cs) = record {
  by = λ around w a. yields_then (value_again w a t) (λ t' v. yields_then (clauses_again cs no_labels (switching around) w a) (λ r p. yields_ok (stmt.Switch t' r.0, r.1) (record {
    apart = p.apart;
    file = p.file;
    bodies = p.bodies;
    by = λ bs. let x = v bs in let y = p.by bs in ap (λ f. f around (again bs w)) (on-Switch StatementWalk ClauseWalk S C t' r.0) ∙ rw (x, y) refl;
  })));
}
each_statement (Stmt-F.Break at) = record { by = λ around w a. yields_after {m = require (around.in_loop || around.in_switch) BreakOutside at} (λ ok. yields_ok (stmt.Break at, w) (stays (stmt.Break at) around w a (on-Break StatementWalk ClauseWalk S C at) (λ bs. let t = required (around.in_loop || around.in_switch) BreakOutside at ok in rw t refl))) }
each_statement (Stmt-F.Continue at) = record { by = λ around w a. yields_after {m = require around.in_loop BreakOutside at} (λ ok. yields_ok (stmt.Continue at, w) (stays (stmt.Continue at) around w a (on-Continue StatementWalk ClauseWalk S C at) (λ bs. let t = required around.in_loop BreakOutside at ok in rw t refl))) }
each_statement (Stmt-F.Return e at) = record { by = λ around w a. yields_after {m = require (is_good_return around.ty e) BadReturn at} (λ ok. yields_then {P = λ e'. ((bs : List ℕ) → if_there with_value e' (again bs w) ≡ Ok e') × (is_good_return around.ty e' ≡ is_good_return around.ty e)} (record { if_ok = λ e' is. ((if_again with_value w (value_again w a) e).if_ok e' is, (good_again around.ty e w).if_ok e' is) }) (λ e' v. yields_ok (stmt.Return e' at, w) (stays (stmt.Return e' at) around w a (on-Return StatementWalk ClauseWalk S C e' at) (λ bs. let t = v.1 ∙ required (is_good_return around.ty e) BadReturn at ok in let u = v.0 bs in rw (t, u) refl)))) }
  where
    good_again : (ty : Ty) (o : Option Expr) (w : Walking) → Yields (if_there with_value o w) (λ o'. is_good_return ty o' ≡ is_good_return ty o)
    good_again ty None w = yields_ok None refl
    good_again ty (Some e) w = yields_then {P = λ e'. Unit {0}} (record { if_ok = λ e' is. tt }) (λ e' u. yields_ok (Some e') refl)

each_clause : (y : Clause-F Part ClausePart) → AgainsClause (clause_walk_step (map-Clause Stmt Clause StatementWalk ClauseWalk statement_walk clause_walk (bare_clause y)))
each_clause y = record {
  by = λ labels around w a. yields_then (labels_again y.labels labels w a) (λ r1 p. yields_then (each_again y.body around w a) (λ r2 q. yields_ok (record { labels = r1.0; body = r2.0 }, r1.1, r2.1) (record {
    apart = q.apart;
    file = q.file;
    bodies = q.bodies;
    by = λ bs. let u = p.by bs in let v = q.by bs in ap (λ f. f labels around (again bs w)) (on-clause StatementWalk ClauseWalk S C r1.0 r2.0) ∙ rw (u, v) refl;
  })));
}

pub statement_again : (c : Stmt) → Agains (statement_walk c)
statement_again = ind-Stmt (λ c. Agains (statement_walk c)) (λ c. AgainsClause (clause_walk c))
    (λ x y is. subst (λ z. Agains (statement_walk (roll-Stmt z))) is (rw (fold-roll-Stmt StatementWalk ClauseWalk S C (bare y)) (each_statement y)))
    (λ x y is. subst (λ z. AgainsClause (clause_walk (roll-Clause z))) is (rw (fold-roll-Clause StatementWalk ClauseWalk S C (bare_clause y)) (each_clause y)))

-- a body
pub body_again : (cs : List Stmt) (around : Around) (w : Walking) → Apart w → Yields (walk_each (map statement_walk cs) around w) (Again (λ cs. walk_each (map statement_walk cs) around) w)
body_again [] around w a = yields_ok ([], w) (record { apart = a; file = refl; bodies = refl; by = λ bs. refl })
body_again (c ∷ cs) around w a = yields_then ((statement_again c).by around w a) (λ r1 p. yields_then (body_again cs around r1.1 p.apart) (λ r2 q. yields_ok (r1.0 ∷ r2.0, r2.1) (record {
  apart = q.apart;
  file = q.file ∙ p.file;
  bodies = q.bodies ∙ p.bodies;
  by = λ bs. let u = p.by bs in let v = q.by bs in rw (u, v) refl;
})))
