-- The sizes, the form and the costs of what the walk gives of a statement are those of the statement.
use Rattle.std.proofs.Common.{◌≡◌, ℕ, suc, ◌+◌, max, Bool, true, false, not, ◌&&◌, ◌||◌, List, [], ◌∷◌, map, sum, length, Option, Some, None, refl, sym, ap, ◌∙◌, subst, ◌==◌}
use Rattle.c_syntax.specs.declared.tree.Expr.{Expr}
use Rattle.c_syntax.specs.declared.tree.Local.{Local}
use Rattle.c_syntax.specs.declared.tree.Label.{Label}
use Rattle.c_syntax.specs.declared.tree.Label.TheVariants as label
use Rattle.c_syntax.specs.declared.tree.Clause.{Clause, roll-Clause, map-Clause, fold-Clause, fold-roll-Clause}
use Rattle.c_syntax.specs.declared.tree.Stmt.{Stmt, roll-Stmt, map-Stmt, ind-Stmt, fold-Stmt, fold-roll-Stmt}
use Rattle.c_syntax.specs.declared.tree.Stmt as stmt
use Rattle.c_syntax.specs.declared.tree.Stmt.TheOpen.{Stmt-F, Clause-F}
use Rattle.c_syntax.specs.declared.tree.TopItem.{TopItem}
use Rattle.c_meaning.specs.Run.{without_first}
use Rattle.c_syntax.specs.Sizes.{greatest, or_zero, expression_nodes, local_nodes, label_nodes, statement_nodes_step, clause_nodes_step, statement_nodes}
use Rattle.c_syntax.specs.Shaped.{each, Form, is_shaped_local, form_step, clause_form_step, form}
use Rattle.c_syntax.specs.Costs.{temps, local_temps, label_temps, statement_temps_step, clause_temps_step, statement_temps, statement_locals_step, clause_locals_step, statement_locals, call_cost, expression_cost, local_cost, label_cost, statement_cost_step, clause_cost_step, statement_cost}
use Rattle.check_rules.specs.declared.error.CheckKind.TheVariants.{NotConstant, CaseTwice, BreakOutside, BadReturn}
use Rattle.check_rules.specs.declared.names.Kind.{Kind}
use Rattle.check_rules.specs.declared.names.Kind.TheVariants.{Scalar, Array, Function}
use Rattle.check_rules.specs.declared.names.Known.{Known}
use Rattle.check_rules.specs.declared.names.Around.{Around}
use Rattle.check_rules.specs.Fault.{Walk, require}
use Rattle.check_rules.specs.Scopes.{Scope, lookup, innermost_known, Walking, in_force, binding, enter_block, entered, is_new, opened, closed}
use Rattle.check_rules.specs.Walk.{is_scalar, is_function, with_value, any_expression, if_there, place_of, is_free, has_constant_value, constant_part, is_among, new_name, variable, walk_locals, looping, switching, Labels, no_labels, StatementWalk, ClauseWalk, walk_each, walk_label, walk_labels, walk_clauses, is_good_return, statement_walk_step, clause_walk_step, statement_walk, clause_walk}
use Rattle.check_law.proofs.Yields.{Yields, yields_ok, yields_then, yields_after}
use Rattle.check_law.proofs.Holds.{Sub}
use Rattle.check_rules.proofs.Views.{on-Empty, on-Value, on-Declare, on-Block, on-If, on-While, on-Do, on-For, on-Switch, on-Break, on-Continue, on-Return, on-clause}
use Rattle.check_law.proofs.Sizes.{SameSizes, any_sizes, value_sizes}

-- ---- blocks hold scalars

abbrev pub Scalars : Scope → Type 0
Scalars [] = Unit {0}
Scalars (b ∷ bs) = (is_scalar b.known.kind ≡ true) × Scalars bs

abbrev pub AllScalars : List Scope → Type 0
AllScalars [] = Unit {0}
AllScalars (s ∷ ss) = Scalars s × AllScalars ss

scalar_in : (n : ℕ) (d : Known) (s : Scope) → Scalars s → lookup n s ≡ Some d → is_scalar d.kind ≡ true
scalar_in n d [] x is = absurd cc
scalar_in n d (b ∷ bs) x is = at (b.name == n) refl (λ h. scalar_in n d bs x.1 h)
  where
    at : (t : Bool) → (b.name == n) ≡ t → (lookup n bs ≡ Some d → is_scalar d.kind ≡ true) → is_scalar d.kind ≡ true
    at true same go = let h = rw same at is in let q : b.known ≡ d = cc in subst (λ k. is_scalar k.kind ≡ true) q x.0
    at false other go = let h = rw other at is in go h

scalar_inside : (n : ℕ) (d : Known) (L : List Scope) → AllScalars L → innermost_known n L ≡ Some d → is_scalar d.kind ≡ true
scalar_inside n d [] x is = absurd cc
scalar_inside n d (s ∷ ss) x is = at (lookup n s) refl (λ h. scalar_inside n d ss x.1 h)
  where
    at : (o : Option Known) → lookup n s ≡ o → (innermost_known n ss ≡ Some d → is_scalar d.kind ≡ true) → is_scalar d.kind ≡ true
    at (Some k) found go = let h = rw found at is in let q : k ≡ d = cc in subst (λ k. is_scalar k.kind ≡ true) q (scalar_in n k s x.0 found)
    at None none go = let h = rw none at is in go h

both_kinds : (k : Kind) → is_scalar k ≡ true → is_function k ≡ true → ⊥
both_kinds (Scalar is_const) p q = cc
both_kinds (Array is_const) p q = cc
both_kinds (Function ty params) p q = cc

scalars_closed : (L : List Scope) → AllScalars L → AllScalars (without_first L)
scalars_closed [] x = x
scalars_closed (s ∷ ss) x = x.1

pub scalars_entered : (n : ℕ) (is_const : Bool) (w : Walking) (L : List Scope) → AllScalars L → AllScalars (entered (binding n (Scalar is_const) w) L)
scalars_entered n is_const w [] x = ((refl, tt), tt)
scalars_entered n is_const w (s ∷ ss) x = ((refl, x.0), x.1)

-- a function that a statement names is one of the file
function_of_file : (w : Walking) → AllScalars w.blocks → (n : ℕ) (d : Known) → in_force w n ≡ Some d → is_function d.kind ≡ true → lookup n w.file ≡ Some d
function_of_file w x n d is such = at (innermost_known n w.blocks) refl
  where
    at : (o : Option Known) → innermost_known n w.blocks ≡ o → lookup n w.file ≡ Some d
    at (Some k) found = let h = rw found at is in absurd (both_kinds d.kind (scalar_inside n d w.blocks x (found ∙ h)) such)
    at None none = let h = rw none at is in h

module _ (items items' : List TopItem) where
  abbrev Same : Expr → Expr → Type 0
  Same = SameSizes items items'

  -- parts that may be left out
  pub record SameOption (o o' : Option Expr) : Type 0 where
    pub nodes : or_zero expression_nodes o' ≡ or_zero expression_nodes o
    pub temps : or_zero temps o' ≡ or_zero temps o
    pub cost : or_zero (expression_cost items') o' ≡ or_zero (expression_cost items) o

  pub record SameLocals (ds ds' : List Local) : Type 0 where
    pub nodes : map local_nodes ds' ≡ map local_nodes ds
    pub shaped : each is_shaped_local ds' ≡ each is_shaped_local ds
    pub temps : map local_temps ds' ≡ map local_temps ds
    pub count : length ds' ≡ length ds
    pub cost : map (local_cost items') ds' ≡ map (local_cost items) ds

  pub record SameLabels (ls ls' : List Label) : Type 0 where
    pub nodes : map label_nodes ls' ≡ map label_nodes ls
    pub temps : map label_temps ls' ≡ map label_temps ls
    pub cost : map (label_cost items') ls' ≡ map (label_cost items) ls

  -- two folds over statements that agree on what the walk gives
  pub record LikeStatements (A A' : Type 0) (step step' : Stmt-F A A' → A) (cstep cstep' : Clause-F A A' → A') : Type 0 where
    pub on_empty : step' Stmt-F.Empty ≡ step Stmt-F.Empty
    pub on_value : {e e' : Expr} → Same e e' → step' (Stmt-F.Value e') ≡ step (Stmt-F.Value e)
    pub on_declare : {ds ds' : List Local} → SameLocals ds ds' → step' (Stmt-F.Declare ds') ≡ step (Stmt-F.Declare ds)
    pub on_block : (xs : List A) → step' (Stmt-F.Block xs) ≡ step (Stmt-F.Block xs)
    pub on_if : {t t' : Expr} → Same t t' → (a : A) (b : Option A) → step' (Stmt-F.If t' a b) ≡ step (Stmt-F.If t a b)
    pub on_while : {t t' : Expr} → Same t t' → (a : A) → step' (Stmt-F.While t' a) ≡ step (Stmt-F.While t a)
    pub on_do : {t t' : Expr} → Same t t' → (a : A) → step' (Stmt-F.Do a t') ≡ step (Stmt-F.Do a t)
    pub on_for : {t t' n n' : Option Expr} → SameOption t t' → SameOption n n' → (a b : A) → step' (Stmt-F.For a t' n' b) ≡ step (Stmt-F.For a t n b)
    pub on_switch : {t t' : Expr} → Same t t' → (xs : List A') → step' (Stmt-F.Switch t' xs) ≡ step (Stmt-F.Switch t xs)
    pub on_break : (at : ℕ) → step' (Stmt-F.Break at) ≡ step (Stmt-F.Break at)
    pub on_continue : (at : ℕ) → step' (Stmt-F.Continue at) ≡ step (Stmt-F.Continue at)
    pub on_return : {o o' : Option Expr} → SameOption o o' → (at : ℕ) → step' (Stmt-F.Return o' at) ≡ step (Stmt-F.Return o at)
    pub on_clause : {ls ls' : List Label} → SameLabels ls ls' → (xs : List A) → cstep' (record { labels = ls'; body = xs }) ≡ cstep (record { labels = ls; body = xs })

  nodes_like : LikeStatements ℕ ℕ statement_nodes_step statement_nodes_step clause_nodes_step clause_nodes_step
  nodes_like = record {
    on_empty = refl;
    on_value = λ s. let n = s.nodes in rw n refl;
    on_declare = λ s. let n = s.nodes in rw n refl;
    on_block = λ xs. refl;
    on_if = λ s a b. let n = s.nodes in rw n refl;
    on_while = λ s a. let n = s.nodes in rw n refl;
    on_do = λ s a. let n = s.nodes in rw n refl;
    on_for = λ s u a b. let n = s.nodes in let m = u.nodes in rw (n, m) refl;
    on_switch = λ s xs. let n = s.nodes in rw n refl;
    on_break = λ at. refl;
    on_continue = λ at. refl;
    on_return = λ s at. let n = s.nodes in rw n refl;
    on_clause = λ s xs. let n = s.nodes in rw n refl;
  }

  form_like : LikeStatements Form Bool form_step form_step clause_form_step clause_form_step
  form_like = record {
    on_empty = refl;
    on_value = λ s. refl;
    on_declare = λ s. let n = s.shaped in rw n refl;
    on_block = λ xs. refl;
    on_if = λ s a b. refl;
    on_while = λ s a. refl;
    on_do = λ s a. refl;
    on_for = λ s u a b. refl;
    on_switch = λ s xs. refl;
    on_break = λ at. refl;
    on_continue = λ at. refl;
    on_return = λ s at. refl;
    on_clause = λ s xs. refl;
  }

  temps_like : LikeStatements ℕ ℕ statement_temps_step statement_temps_step clause_temps_step clause_temps_step
  temps_like = record {
    on_empty = refl;
    on_value = λ s. ap (λ n. n.temps) s.need;
    on_declare = λ s. ap greatest s.temps;
    on_block = λ xs. refl;
    on_if = λ s a b. ap (λ n. max n.temps (max a (or_zero (λ n. n) b))) s.need;
    on_while = λ s a. ap (λ n. max n.temps a) s.need;
    on_do = λ s a. ap (λ n. max a n.temps) s.need;
    on_for = λ s u a b. let n = s.temps in let m = u.temps in rw (n, m) refl;
    on_switch = λ s xs. ap (λ n. max (max n.temps 2) (greatest xs)) s.need;
    on_break = λ at. refl;
    on_continue = λ at. refl;
    on_return = λ s at. s.temps;
    on_clause = λ s xs. ap (λ n. max (greatest n) (greatest xs)) s.temps;
  }

  locals_like : LikeStatements ℕ ℕ statement_locals_step statement_locals_step clause_locals_step clause_locals_step
  locals_like = record {
    on_empty = refl;
    on_value = λ s. refl;
    on_declare = λ s. s.count;
    on_block = λ xs. refl;
    on_if = λ s a b. refl;
    on_while = λ s a. refl;
    on_do = λ s a. refl;
    on_for = λ s u a b. refl;
    on_switch = λ s xs. refl;
    on_break = λ at. refl;
    on_continue = λ at. refl;
    on_return = λ s at. refl;
    on_clause = λ s xs. refl;
  }

  cost_like : LikeStatements ℕ ℕ (statement_cost_step items) (statement_cost_step items') (clause_cost_step items) (clause_cost_step items')
  cost_like = record {
    on_empty = refl;
    on_value = λ s. s.cost;
    on_declare = λ s. ap sum s.cost;
    on_block = λ xs. refl;
    on_if = λ s a b. let n = s.cost in rw n refl;
    on_while = λ s a. let n = s.cost in rw n refl;
    on_do = λ s a. let n = s.cost in rw n refl;
    on_for = λ s u a b. let n = s.cost in let m = u.cost in rw (n, m) refl;
    on_switch = λ s xs. let n = s.cost in rw n refl;
    on_break = λ at. refl;
    on_continue = λ at. refl;
    on_return = λ s at. s.cost;
    on_clause = λ s xs. let n = s.cost in rw n refl;
  }

  -- ---- bodies

  pub record SameBody (cs cs' : List Stmt) : Type 0 where
    pub nodes : map statement_nodes cs' ≡ map statement_nodes cs
    pub forms : map form cs' ≡ map form cs
    pub temps : map statement_temps cs' ≡ map statement_temps cs
    pub locals : map statement_locals cs' ≡ map statement_locals cs
    pub cost : map (statement_cost items') cs' ≡ map (statement_cost items) cs

  -- ---- parts of statements

  module _ (F : Scope) (calls : (n : ℕ) (d : Known) → lookup n F ≡ Some d → call_cost items' d.position ≡ call_cost items n) where
    calls_in : (w : Walking) → AllScalars w.blocks → Sub w.file F → (n : ℕ) (d : Known) → in_force w n ≡ Some d → is_function d.kind ≡ true → call_cost items' d.position ≡ call_cost items n
    calls_in w x sub n d is such = calls n d (sub.at n d (function_of_file w x n d is such))

    any_same : (w : Walking) → AllScalars w.blocks → Sub w.file F → (e : Expr) → Yields (any_expression e w) (Same e)
    any_same w x sub e = any_sizes (in_force w) items items' (calls_in w x sub) e

    pub value_same : (w : Walking) → AllScalars w.blocks → Sub w.file F → (e : Expr) → Yields (with_value e w) (Same e)
    value_same w x sub e = value_sizes (in_force w) items items' (calls_in w x sub) e

    some_same : (e e' : Expr) → Same e e' → SameOption (Some e) (Some e')
    some_same e e' s = record { nodes = s.nodes; temps = ap (λ n. n.temps) s.need; cost = s.cost }

    if_same : (walk : Expr → Walking → Walk Expr) (w : Walking) → ((e : Expr) → Yields (walk e w) (Same e)) → (o : Option Expr) → Yields (if_there walk o w) (SameOption o)
    if_same walk w each None = yields_ok None (record { nodes = refl; temps = refl; cost = refl })
    if_same walk w each (Some e) = yields_then (each e) (λ e' s. yields_ok (Some e') (some_same e e' s))

    pub constant_same : (w : Walking) → AllScalars w.blocks → Sub w.file F → (e : Expr) → Yields (constant_part e w) (Same e)
    constant_same w x sub e = yields_then (value_same w x sub e) (λ e' s. yields_after {m = require (is_free e && has_constant_value e) NotConstant (place_of e)} (λ ok. yields_ok e' s))

    -- what a part of the walk inside a function leaves as it was
    pub record Inside (w : Walking) (w1 : Walking) : Type 0 where
      pub scalars : AllScalars w1.blocks
      pub file : w1.file ≡ w.file

    inside_sub : {w w1 : Walking} → Inside w w1 → Sub w.file F → Sub w1.file F
    inside_sub i sub = subst (λ x. Sub x F) (sym i.file) sub

    locals_same : (ds : List Local) (w : Walking) → AllScalars w.blocks → Sub w.file F → Yields (walk_locals ds w) (λ r. Inside w r.1 × SameLocals ds r.0)
    locals_same [] w x sub = yields_ok ([], w) (record { scalars = x; file = refl }, record { nodes = refl; shaped = refl; temps = refl; count = refl; cost = refl })
    locals_same (d ∷ ds) w x sub =
        let w1 : Walking = enter_block d.name (Scalar d.is_const) (variable d.ty d.is_const) w in
        let x1 : AllScalars w1.blocks = scalars_entered d.name d.is_const w w.blocks x in
        yields_then {P = λ r. (r.1 ≡ w1) × ((r.0).ty ≡ d.ty) × SameOption d.first (r.0).first}
        (yields_after {m = new_name (is_new d.name w.blocks) d.at} (λ new. yields_then (if_same with_value w1 (value_same w1 x1 sub) d.first) (λ f s. yields_ok (record d { name = length w.decls; first = f }, w1) (refl, refl, s))))
        (λ r1 p. yields_then (locals_same ds r1.1 (subst (λ w. AllScalars w.blocks) (sym p.0) x1) (subst (λ w. Sub w.file F) (sym p.0) sub)) (λ r2 q. yields_ok (r1.0 ∷ r2.0, r2.1)
        (record { scalars = q.0.scalars; file = q.0.file ∙ ap (λ w. w.file) p.0 }, joined d ds r1.0 r2.0 p.1 p.2 q.1)))
      where
        joined : (d : Local) (ds : List Local) (d' : Local) (ds' : List Local) → d'.ty ≡ d.ty → SameOption d.first d'.first → SameLocals ds ds' → SameLocals (d ∷ ds) (d' ∷ ds')
        joined d ds d' ds' t s q =
            let n = s.nodes in let m = s.temps in let c = s.cost in let qn = q.nodes in let qs = q.shaped in let qt = q.temps in let qk = q.count in let qc = q.cost in
            record { nodes = ap (λ n. (1 + n) ∷ map local_nodes ds') n ∙ ap (λ ns. local_nodes d ∷ ns) qn; shaped = rw (t, qs) refl; temps = ap (λ n. n ∷ map local_temps ds') m ∙ ap (λ ns. local_temps d ∷ ns) qt; count = ap (λ k. suc k) qk; cost = ap (λ n. n ∷ map (local_cost items') ds') c ∙ ap (λ ns. local_cost items d ∷ ns) qc }

    labels_same : (ls : List Label) (labels : Labels) (w : Walking) → AllScalars w.blocks → Sub w.file F → Yields (walk_labels ls labels w) (λ r. SameLabels ls r.0)
    labels_same [] labels w x sub = yields_ok ([], labels) (record { nodes = refl; temps = refl; cost = refl })
    labels_same (l ∷ ls) labels w x sub = yields_then (label_same l labels) (λ r1 p. yields_then (labels_same ls r1.1 w x sub) (λ r2 q. yields_ok (r1.0 ∷ r2.0, r2.1) (joined l ls r1.0 r2.0 p q)))
      where
        joined : (l : Label) (ls : List Label) (l' : Label) (ls' : List Label) → (label_nodes l' ≡ label_nodes l) × (label_temps l' ≡ label_temps l) × (label_cost items' l' ≡ label_cost items l) → SameLabels ls ls' → SameLabels (l ∷ ls) (l' ∷ ls')
        joined l ls l' ls' p q =
            let n = p.0 in let m = p.1 in let c = p.2 in let qn = q.nodes in let qt = q.temps in let qc = q.cost in
            record { nodes = ap (λ n. n ∷ map label_nodes ls') n ∙ ap (λ ns. label_nodes l ∷ ns) qn; temps = ap (λ n. n ∷ map label_temps ls') m ∙ ap (λ ns. label_temps l ∷ ns) qt; cost = ap (λ n. n ∷ map (label_cost items') ls') c ∙ ap (λ ns. label_cost items l ∷ ns) qc }

        label_same : (l : Label) (labels : Labels) → Yields (walk_label l labels w) (λ r. (label_nodes r.0 ≡ label_nodes l) × (label_temps r.0 ≡ label_temps l) × (label_cost items' r.0 ≡ label_cost items l))
        label_same (label.Case e at) labels = yields_then {P = λ r. Same e r.0} (yields_then (constant_same w x sub e) (λ e' s. yields_ok _ s)) (λ r s. yields_after {m = require (not (is_among r.1 labels.cases)) CaseTwice at} (λ new. yields_ok _ (ap (λ n. 1 + n) s.nodes, ap (λ n. n.temps) s.need, ap (λ c. 4 + c) s.cost)))
        label_same (label.Otherwise at) labels = yields_after {m = require (not labels.has_default) CaseTwice at} (λ new. yields_ok _ (refl, refl, refl))

    -- ---- one fold over statements

    module _ (A A' : Type 0) (step step' : Stmt-F A A' → A) (cstep cstep' : Clause-F A A' → A') (like : LikeStatements A A' step step' cstep cstep') where
      abbrev old : Stmt → A
      old = fold-Stmt A A' step cstep

      abbrev new : Stmt → A
      new = fold-Stmt A A' step' cstep'

      abbrev old_clause : Clause → A'
      old_clause = fold-Clause A A' step cstep

      abbrev new_clause : Clause → A'
      new_clause = fold-Clause A A' step' cstep'

      pub record Keeps (x : StatementWalk) (a : A) : Type 0 where
        pub by : (around : Around) (w : Walking) → AllScalars w.blocks → Sub w.file F → Yields (x around w) (λ r. Inside w r.1 × (new r.0 ≡ a))

      record KeepsClause (y : ClauseWalk) (a : A') : Type 0 where
        by : (labels : Labels) (around : Around) (w : Walking) → AllScalars w.blocks → Sub w.file F → Yields (y labels around w) (λ r. Inside w r.2 × (new_clause r.0 ≡ a))

      abbrev Part : Type 0
      Part = (c : Stmt) × Keeps (statement_walk c) (old c)

      abbrev ClausePart : Type 0
      ClausePart = (c : Clause) × KeepsClause (clause_walk c) (old_clause c)

      abbrev bare : Stmt-F Part ClausePart → Stmt-F Stmt Clause
      bare y = map-Stmt Part ClausePart Stmt Clause (λ c. c.0) (λ c. c.0) y

      abbrev bare_clause : Clause-F Part ClausePart → Clause-F Stmt Clause
      bare_clause y = map-Clause Part ClausePart Stmt Clause (λ c. c.0) (λ c. c.0) y

      both_kept : {X B : Type 0} (f : X → B) (c' : X) (a : B) (cs' : List X) (as' : List B) → f c' ≡ a → map f cs' ≡ as' → map f (c' ∷ cs') ≡ a ∷ as'
      both_kept f c' a cs' as' p q = ap (λ x. x ∷ map f cs') p ∙ ap (λ xs. a ∷ xs) q

      after : {w w1 w2 : Walking} → Inside w w1 → Inside w1 w2 → Inside w w2
      after p q = record { scalars = q.scalars; file = q.file ∙ p.file }

      at_close : {w w1 : Walking} → Inside (opened w) w1 → Inside w (closed w1)
      at_close {w1 = w1} p = record { scalars = scalars_closed w1.blocks p.scalars; file = p.file }

      keeps_each : (cs : List Part) (around : Around) (w : Walking) → AllScalars w.blocks → Sub w.file F → Yields (walk_each (map statement_walk (map (λ c. c.0) cs)) around w) (λ r. Inside w r.1 × (map new r.0 ≡ map old (map (λ c. c.0) cs)))
      keeps_each [] around w x sub = yields_ok ([], w) (record { scalars = x; file = refl }, refl)
      keeps_each (c ∷ cs) around w x sub = yields_then (c.1.by around w x sub) (λ r1 p. yields_then (keeps_each cs around r1.1 p.0.scalars (inside_sub p.0 sub)) (λ r2 q. yields_ok (r1.0 ∷ r2.0, r2.1) (after p.0 q.0, both_kept new r1.0 (old c.0) r2.0 (map old (map (λ c. c.0) cs)) p.1 q.1)))

      keeps_clauses : (cs : List ClausePart) (labels : Labels) (around : Around) (w : Walking) → AllScalars w.blocks → Sub w.file F → Yields (walk_clauses (map clause_walk (map (λ c. c.0) cs)) labels around w) (λ r. Inside w r.1 × (map new_clause r.0 ≡ map old_clause (map (λ c. c.0) cs)))
      keeps_clauses [] labels around w x sub = yields_ok ([], w) (record { scalars = x; file = refl }, refl)
      keeps_clauses (c ∷ cs) labels around w x sub = yields_then (c.1.by labels around w x sub) (λ r1 p. yields_then (keeps_clauses cs r1.1 around r1.2 p.0.scalars (inside_sub p.0 sub)) (λ r2 q. yields_ok (r1.0 ∷ r2.0, r2.1) (after p.0 q.0, both_kept new_clause r1.0 (old_clause c.0) r2.0 (map old_clause (map (λ c. c.0) cs)) p.1 q.1)))

      each_statement : (y : Stmt-F Part ClausePart) → Keeps (statement_walk_step (map-Stmt Stmt Clause StatementWalk ClauseWalk statement_walk clause_walk (bare y))) (step (map-Stmt Stmt Clause A A' old old_clause (bare y)))
      each_statement Stmt-F.Empty = record { by = λ around w x sub. yields_ok (stmt.Empty, w) (record { scalars = x; file = refl }, on-Empty A A' step' cstep' ∙ like.on_empty) }
      each_statement (Stmt-F.Value e) = record { by = λ around w x sub. yields_then (any_same w x sub e) (λ e' s. yields_ok (stmt.Value e', w) (record { scalars = x; file = refl }, on-Value A A' step' cstep' e' ∙ like.on_value s)) }
      each_statement (Stmt-F.Declare ds) = record { by = λ around w x sub. yields_then (locals_same ds w x sub) (λ r s. yields_ok (stmt.Declare r.0, r.1) (s.0, on-Declare A A' step' cstep' r.0 ∙ like.on_declare s.1)) }
      each_statement (Stmt-F.Block cs) = record { by = λ around w x sub. yields_then (keeps_each cs around (opened w) (tt, x) sub) (λ r p. yields_ok (stmt.Block r.0, closed r.1) (at_close p.0, on-Block A A' step' cstep' r.0 ∙ ap (λ xs. step' (Stmt-F.Block xs)) p.1 ∙ like.on_block (map old (map (λ c. c.0) cs)))) }
      each_statement (Stmt-F.If t b None) = record { by = λ around w x sub. yields_then (value_same w x sub t) (λ t' s. yields_then (b.1.by around w x sub) (λ r p. yields_ok (stmt.If t' r.0 None, r.1) (p.0, on-If A A' step' cstep' t' r.0 None ∙ ap (λ a. step' (Stmt-F.If t' a None)) p.1 ∙ like.on_if s (old b.0) None))) }
      each_statement (Stmt-F.If t b (Some c)) = record {
        by = λ around w x sub. yields_then (value_same w x sub t) (λ t' s. yields_then (b.1.by around w x sub) (λ r1 p. yields_then {P = λ r. (c' : Stmt) × (r.0 ≡ Some c') × Inside r1.1 r.1 × (new c' ≡ old c.0)} (yields_then (c.1.by around r1.1 p.0.scalars (inside_sub p.0 sub)) (λ r q. yields_ok (Some r.0, r.1) (r.0, refl, q.0, q.1))) (λ r2 q. yields_ok (stmt.If t' r1.0 r2.0, r2.1)
            (after p.0 q.2, subst (λ o. new (stmt.If t' r1.0 o) ≡ step (Stmt-F.If t (old b.0) (Some (old c.0)))) (sym q.1) (on-If A A' step' cstep' t' r1.0 (Some q.0) ∙ ap (λ a. step' (Stmt-F.If t' a (Some (new q.0)))) p.1 ∙ ap (λ a. step' (Stmt-F.If t' (old b.0) (Some a))) q.3 ∙ like.on_if s (old b.0) (Some (old c.0)))))));
      }
      each_statement (Stmt-F.While t b) = record { by = λ around w x sub. yields_then (value_same w x sub t) (λ t' s. yields_then (b.1.by (looping around) w x sub) (λ r p. yields_ok (stmt.While t' r.0, r.1) (p.0, on-While A A' step' cstep' t' r.0 ∙ ap (λ a. step' (Stmt-F.While t' a)) p.1 ∙ like.on_while s (old b.0)))) }
      each_statement (Stmt-F.Do b t) = record { by = λ around w x sub. yields_then (b.1.by (looping around) w x sub) (λ r p. yields_then (value_same r.1 p.0.scalars (inside_sub p.0 sub) t) (λ t' s. yields_ok (stmt.Do r.0 t', r.1) (p.0, on-Do A A' step' cstep' r.0 t' ∙ ap (λ a. step' (Stmt-F.Do a t')) p.1 ∙ like.on_do s (old b.0)))) }
      each_statement (Stmt-F.For first t next b) = record {
        by = λ around w x sub. yields_then (first.1.by around (opened w) (tt, x) sub) (λ r1 p. let sub1 = inside_sub p.0 sub in
            yields_then (if_same with_value r1.1 (value_same r1.1 p.0.scalars sub1) t) (λ t' s. yields_then (if_same any_expression r1.1 (any_same r1.1 p.0.scalars sub1) next) (λ n' u. yields_then (b.1.by (looping around) r1.1 p.0.scalars sub1) (λ r2 q. yields_ok (stmt.For r1.0 t' n' r2.0, closed r2.1)
            (at_close (after p.0 q.0), on-For A A' step' cstep' r1.0 t' n' r2.0 ∙ ap (λ a. step' (Stmt-F.For a t' n' (new r2.0))) p.1 ∙ ap (λ a. step' (Stmt-F.For (old first.0) t' n' a)) q.1 ∙ like.on_for s u (old first.0) (old b.0))))));
      }
      each_statement (Stmt-F.Switch t cs) = record { by = λ around w x sub. yields_then (value_same w x sub t) (λ t' s. yields_then (keeps_clauses cs no_labels (switching around) w x sub) (λ r p. yields_ok (stmt.Switch t' r.0, r.1) (p.0, on-Switch A A' step' cstep' t' r.0 ∙ ap (λ xs. step' (Stmt-F.Switch t' xs)) p.1 ∙ like.on_switch s (map old_clause (map (λ c. c.0) cs))))) }
      each_statement (Stmt-F.Break at) = record { by = λ around w x sub. yields_after {m = require (around.in_loop || around.in_switch) BreakOutside at} (λ ok. yields_ok (stmt.Break at, w) (record { scalars = x; file = refl }, on-Break A A' step' cstep' at ∙ like.on_break at)) }
      each_statement (Stmt-F.Continue at) = record { by = λ around w x sub. yields_after {m = require around.in_loop BreakOutside at} (λ ok. yields_ok (stmt.Continue at, w) (record { scalars = x; file = refl }, on-Continue A A' step' cstep' at ∙ like.on_continue at)) }
      each_statement (Stmt-F.Return e at) = record { by = λ around w x sub. yields_after {m = require (is_good_return around.ty e) BadReturn at} (λ ok. yields_then (if_same with_value w (value_same w x sub) e) (λ e' s. yields_ok (stmt.Return e' at, w) (record { scalars = x; file = refl }, on-Return A A' step' cstep' e' at ∙ like.on_return s at))) }

      each_clause : (y : Clause-F Part ClausePart) → KeepsClause (clause_walk_step (map-Clause Stmt Clause StatementWalk ClauseWalk statement_walk clause_walk (bare_clause y))) (cstep (map-Clause Stmt Clause A A' old old_clause (bare_clause y)))
      each_clause y = record { by = λ labels around w x sub. yields_then (labels_same y.labels labels w x sub) (λ r1 s. yields_then (keeps_each y.body around w x sub) (λ r2 p. yields_ok (record { labels = r1.0; body = r2.0 }, r1.1, r2.1) (p.0, on-clause A A' step' cstep' r1.0 r2.0 ∙ ap (λ xs. cstep' (record { labels = r1.0; body = xs })) p.1 ∙ like.on_clause s (map old (map (λ c. c.0) y.body))))) }

      pub keeps : (c : Stmt) → Keeps (statement_walk c) (old c)
      keeps = ind-Stmt (λ c. Keeps (statement_walk c) (old c)) (λ c. KeepsClause (clause_walk c) (old_clause c))
          (λ x y is. subst (λ z. Keeps (statement_walk (roll-Stmt z)) (old (roll-Stmt z))) is (rw (fold-roll-Stmt StatementWalk ClauseWalk statement_walk_step clause_walk_step (bare y), fold-roll-Stmt A A' step cstep (bare y)) (each_statement y)))
          (λ x y is. subst (λ z. KeepsClause (clause_walk (roll-Clause z)) (old_clause (roll-Clause z))) is (rw (fold-roll-Clause StatementWalk ClauseWalk statement_walk_step clause_walk_step (bare_clause y), fold-roll-Clause A A' step cstep (bare_clause y)) (each_clause y)))

      pub keeps_body : (cs : List Stmt) (around : Around) (w : Walking) → AllScalars w.blocks → Sub w.file F → Yields (walk_each (map statement_walk cs) around w) (λ r. map new r.0 ≡ map old cs)
      keeps_body [] around w x sub = yields_ok ([], w) refl
      keeps_body (c ∷ cs) around w x sub = yields_then ((keeps c).by around w x sub) (λ r1 p. yields_then (keeps_body cs around r1.1 p.0.scalars (inside_sub p.0 sub)) (λ r2 q. yields_ok (r1.0 ∷ r2.0, r2.1) (both_kept new r1.0 (old c) r2.0 (map old cs) p.1 q)))

    -- ---- bodies

    pub same_body : (cs : List Stmt) (around : Around) (w : Walking) → AllScalars w.blocks → Sub w.file F → Yields (walk_each (map statement_walk cs) around w) (λ r. SameBody cs r.0)
    same_body cs around w x sub = record {
      if_ok = λ r is. record {
        nodes = (keeps_body ℕ ℕ statement_nodes_step statement_nodes_step clause_nodes_step clause_nodes_step nodes_like cs around w x sub).if_ok r is;
        forms = (keeps_body Form Bool form_step form_step clause_form_step clause_form_step form_like cs around w x sub).if_ok r is;
        temps = (keeps_body ℕ ℕ statement_temps_step statement_temps_step clause_temps_step clause_temps_step temps_like cs around w x sub).if_ok r is;
        locals = (keeps_body ℕ ℕ statement_locals_step statement_locals_step clause_locals_step clause_locals_step locals_like cs around w x sub).if_ok r is;
        cost = (keeps_body ℕ ℕ (statement_cost_step items) (statement_cost_step items') (clause_cost_step items) (clause_cost_step items') cost_like cs around w x sub).if_ok r is;
      };
    }
