-- A statement whose names are positions does the same as the statement with names.
use Rattle.std.proofs.Common.{◌≡◌, ℕ, zero, suc, ◌<◌, Bool, true, false, not, ◌&&◌, List, [], ◌∷◌, ◌++◌, map, flat_map, length, Option, Some, None, refl, sym, ap, ◌∙◌, subst, if◌then◌else◌, ◌==◌, arith, length-append}
use Rattle.std.specs.List.{list_any}
use Rattle.std.proofs.lemmas.Bool.{eq-eqb}
use Rattle.c_meaning.specs.declared.run.Value.{Value}
use Rattle.c_meaning.specs.declared.run.Flow.{Flow}
use Rattle.c_meaning.specs.declared.run.Flow.TheVariants.{Normal, Breaks, Continues, Returns}
use Rattle.c_meaning.specs.declared.run.EvalEnd.TheVariants.{Going}
use Rattle.c_syntax.specs.declared.tree.Expr.{Expr}
use Rattle.c_syntax.specs.declared.tree.Local.{Local}
use Rattle.c_syntax.specs.declared.tree.Clause.{Clause, roll-Clause, map-Clause, fold-Clause, fold-roll-Clause}
use Rattle.c_syntax.specs.declared.tree.Stmt.{Stmt, roll-Stmt, map-Stmt, ind-Stmt, fold-roll-Stmt}
use Rattle.c_syntax.specs.declared.tree.Stmt as stmt
use Rattle.c_syntax.specs.declared.tree.Stmt.TheOpen.{Stmt-F, Clause-F}
use Rattle.c_meaning.specs.Operators.{value, is_unsigned_type, is_zero, truth}
use Rattle.c_meaning.specs.Run.{State, Run, ◌>>=◌, ◌>>◌, pure, or_else, without_first, close_scope}
use Rattle.c_meaning.specs.Meaning.{Calls, expression, Statement, if_normal, in_order, in_scope, value_if, initialise, declare, or_nothing, after_body, turns, loop, do_loop, test_or_true, next_or_nothing, returned, Labelled, is_label, from_label, or_those, label_word, after_switch, switch, statement_step, clause_step, statement, clause}
use Rattle.c_syntax.specs.Graph.{or_none, expression_calls, local_calls, label_calls, statement_calls_step, clause_calls_step, statement_calls, clause_calls}
use Rattle.c_syntax.specs.Shaped.{Form, each, is_substatement, form_step, clause_form_step, form}
use Rattle.check_rules.specs.declared.decl.Decl.{Decl}
use Rattle.check_rules.specs.Fault.{Walk}
use Rattle.check_rules.specs.declared.names.Kind.{Kind}
use Rattle.check_rules.specs.declared.names.Kind.TheVariants.{Scalar, Array, Function}
use Rattle.check_rules.specs.declared.names.Known.{Known}
use Rattle.check_rules.specs.declared.names.Binding.{Binding}
use Rattle.check_rules.specs.Scopes.{InForce, Scope, lookup, innermost_known, Walking, in_force, enter_block, entered, opened, closed}
use Rattle.check_rules.specs.declared.names.Around.{Around}
use Rattle.check_rules.specs.Walk.{is_scalar, is_function, takes_kind, with_value, any_expression, if_there, variable, walk_local, walk_locals, looping, StatementWalk, walk_each, switching, Labels, no_labels, ClauseWalk, walk_clauses, statement_walk_step, clause_walk_step, statement_walk, clause_walk}
use Rattle.check_law.proofs.Yields.{Yields, yields_ok, yields_then, yields_after}
use Rattle.check_law.proofs.Sims.{Alike, Sims, sims_then, Equal, sims_on, sims_if, sims_pure, sims_post}
use Rattle.check_rules.proofs.Views.{on-Empty, on-Value, on-Declare, on-Block, on-If, on-While, on-Do, on-For, on-Switch, on-Break, on-Continue, on-Return, on-clause}
use Rattle.check_law.proofs.Positions.{onto, stacked, Distinct, Below, below_more, not_in_below, distinct_rest, below_rest}
use Rattle.check_law.proofs.ExpressionRuns.{SameCalls, SameAs, of_valued, resolves, sims_write}
use Rattle.check_law.proofs.Unchanged.{and_true, labels_unchanged, labels_uncalled}
use Rattle.check_law.proofs.Calls.{Positions, no_names, both_positions, along_positions, calls_of_value, calls_resolve}
use Rattle.check_law.proofs.Holds.{Holds, Sub, Sound, Whence, whence, of_block, of_file, steps, sims_end, sims_spend, sims_open, sims_close, sims_enter}

-- ---- tests

pub not_true : (a : Bool) → not a ≡ true → a ≡ false
not_true true is = absurd cc
not_true false is = refl

both_kinds : (k : Kind) → is_scalar k ≡ true → is_function k ≡ true → ⊥
both_kinds (Scalar is_const) p q = cc
both_kinds (Array is_const) p q = cc
both_kinds (Function ty params) p q = cc

-- what takes arguments is a function
taking : (n : ℕ) (k : Kind) → takes_kind n k ≡ true → is_function k ≡ true
taking n (Scalar is_const) is = absurd cc
taking n (Array is_const) is = absurd cc
taking n (Function ty params) is = refl

-- ---- the walk keeps its scopes in order

pub sound_opened : (w : Walking) → Sound w → Sound (opened w)
sound_opened w s = record { distinct = s.distinct; below = s.below; variables = s.variables }

closed_positions : (L : List Scope) (ps : List ℕ) → Distinct (stacked L ps) → Distinct (stacked (without_first L) ps)
closed_positions [] ps x = x
closed_positions (s ∷ ss) ps x = distinct_rest s (stacked ss ps) x

closed_below : (n : ℕ) (L : List Scope) (ps : List ℕ) → Below n (stacked L ps) → Below n (stacked (without_first L) ps)
closed_below n [] ps x = x
closed_below n (s ∷ ss) ps x = below_rest n s (stacked ss ps) x

-- the end of a scope, where those outside are as before
pub sound_closed : (w w1 : Walking) → Sound w → Sound w1 → without_first w1.blocks ≡ w.blocks → Sound (closed w1)
sound_closed w w1 s s1 is = record {
  distinct = closed_positions w1.blocks _ s1.distinct;
  below = closed_below (length w1.decls) w1.blocks _ s1.below;
  variables = λ n d found. s.variables n d (subst (λ l. innermost_known n l ≡ Some d) is found);
}

pub entered_known : (n : ℕ) (d : Known) (L : List Scope) → innermost_known n (entered (record { name = n; known = d }) L) ≡ Some d
entered_known n d [] = let same : (n == n) ≡ true = eq-eqb n n refl in rw same refl
entered_known n d (s ∷ ss) = let same : (n == n) ≡ true = eq-eqb n n refl in rw same refl

entered_distinct : (n : ℕ) (d : Known) (L : List Scope) (ps : List ℕ) → Below d.position (stacked L ps) → Distinct (stacked L ps) → Distinct (stacked (entered (record { name = n; known = d }) L) ps)
entered_distinct n d [] ps b x = (not_in_below d.position ps b, x)
entered_distinct n d (s ∷ ss) ps b x = (not_in_below d.position (onto s (stacked ss ps)) b, x)

entered_below : (m n : ℕ) (d : Known) (L : List Scope) (ps : List ℕ) → d.position < m → Below m (stacked L ps) → Below m (stacked (entered (record { name = n; known = d }) L) ps)
entered_below m n d [] ps lt b = (lt, b)
entered_below m n d (s ∷ ss) ps lt b = (lt, b)

entered_variables : (n : ℕ) (d : Known) (L : List Scope) → is_scalar d.kind ≡ true → ((m : ℕ) (e : Known) → innermost_known m L ≡ Some e → is_scalar e.kind ≡ true) → (m : ℕ) (e : Known) → innermost_known m (entered (record { name = n; known = d }) L) ≡ Some e → is_scalar e.kind ≡ true
entered_variables n d [] such old m e is = at (n == m) refl
  where
    at : (b : Bool) → (n == m) ≡ b → is_scalar e.kind ≡ true
    at true same = let h = rw same at is in let q : d ≡ e = cc in subst (λ k. is_scalar k.kind ≡ true) q such
    at false other = let h = rw other at is in absurd cc
entered_variables n d (s ∷ ss) such old m e is = at (n == m) refl
  where
    at : (b : Bool) → (n == m) ≡ b → is_scalar e.kind ≡ true
    at true same = let h = rw same at is in let q : d ≡ e = cc in subst (λ k. is_scalar k.kind ≡ true) q such
    at false other = let h = rw other at is in old m e h

pub one_more : (ds : List Decl) (d : Decl) → length (ds ++ d ∷ []) ≡ suc (length ds)
one_more ds d = omega (arith, length-append ds (d ∷ []))

pub sound_entered : (n : ℕ) (is_const : Bool) (decl : Decl) (w : Walking) → Sound w → Sound (enter_block n (Scalar is_const) decl w)
sound_entered n is_const decl w s =
    let e = one_more w.decls decl in
    record {
      distinct = entered_distinct n _ w.blocks (onto w.file []) s.below s.distinct;
      below = entered_below (length (w.decls ++ decl ∷ [])) n _ w.blocks (onto w.file []) (omega (arith, e)) (below_more (length w.decls) (length (w.decls ++ decl ∷ [])) (stacked w.blocks (onto w.file [])) (omega (arith, e)) s.below);
      variables = entered_variables n _ w.blocks refl s.variables;
    }

same_outer_entered : (b : Binding) (L : List Scope) → without_first (entered b L) ≡ without_first L
same_outer_entered b [] = refl
same_outer_entered b (s ∷ ss) = refl

-- the form of a clause of a `switch`
abbrev pub clause_form : Clause → Bool
clause_form = fold-Clause Form Bool form_step clause_form_step

module _ (F : Scope) (one : Distinct (onto F [])) where
  -- the declarations at file scope
  abbrev pub at_file_scope : InForce
  at_file_scope = λ n. lookup n F

  -- functions that do the same under a name of the file and under its position, whatever the scopes of the caller are
  pub record Related (functions functions' : Calls) : Type 0 where
    pub of_type : (n : ℕ) (d : Known) → lookup n F ≡ Some d → is_function d.kind ≡ true → functions.is_unsigned n ≡ functions'.is_unsigned d.position
    pub of_call : (n : ℕ) (d : Known) → lookup n F ≡ Some d → (args : List Value) → takes_kind (length args) d.kind ≡ true → (L : List Scope) → Sims (Holds F L) (functions.call n args) (functions'.call d.position args) (Equal (Holds F L))

  module _ (w : Walking) (sound : Sound w) (sub : Sub w.file F) where
    in_file : (n : ℕ) (d : Known) → is_function d.kind ≡ true → Whence F one w sound sub n d → lookup n F ≡ Some d
    in_file n d such (of_block is) = absurd (both_kinds d.kind (sound.variables n d is) such)
    in_file n d such (of_file none is) = sub.at n d is

    pub same_calls : (functions functions' : Calls) → Related functions functions' → SameCalls (in_force w) (Holds F w.blocks) (steps F one w sound sub) functions functions'
    same_calls functions functions' r = record {
      of_type = λ n d is such. r.of_type n d (in_file n d such (whence F one w sound sub n d is)) such;
      of_call = λ n d is args takes. r.of_call n d (in_file n d (taking (length args) d.kind takes) (whence F one w sound sub n d is)) args takes w.blocks;
    }

    -- an expression of a statement
    pub record Computes (e e' : Expr) : Type 0 where
      pub by : (functions functions' : Calls) → Related functions functions' → Sims (Holds F w.blocks) ((expression e).value functions) ((expression e').value functions') (Equal (Holds F w.blocks))
      pub calls : Positions at_file_scope (expression_calls e) (expression_calls e')

    computes : (e e' : Expr) → SameAs (in_force w) (Holds F w.blocks) (steps F one w sound sub) (expression e) e' → Positions (in_force w) (expression_calls e) (expression_calls e') → Computes e e'
    computes e e' same calls = record {
      by = λ functions functions' r. same.of_value functions functions' (same_calls functions functions' r);
      calls = along_positions (λ n d such is. in_file n d such (whence F one w sound sub n d is)) calls;
    }

    pub valued_computes : (e : Expr) → Yields (with_value e w) (Computes e)
    valued_computes e =
        let same = of_valued (in_force w) (Holds F w.blocks) (steps F one w sound sub) (resolves (in_force w) (Holds F w.blocks) (steps F one w sound sub) e) in
        let calls = calls_of_value (in_force w) (calls_resolve (in_force w) e) in
        record { if_ok = λ e' is. computes e e' (same.if_ok e' is) (calls.if_ok e' is) }

    pub any_computes : (e : Expr) → Yields (any_expression e w) (Computes e)
    any_computes e =
        let same = (resolves (in_force w) (Holds F w.blocks) (steps F one w sound sub) e).by in
        let calls = (calls_resolve (in_force w) e).by in
        record { if_ok = λ e' is. computes e e' (same.if_ok e' is) (calls.if_ok e' is) }

    -- one that may be left out
    abbrev pub ComputesIf : Option Expr → Option Expr → Type 0
    ComputesIf None None = Unit {0}
    ComputesIf None (Some e') = ⊥
    ComputesIf (Some e) None = ⊥
    ComputesIf (Some e) (Some e') = Computes e e'

    pub calls_if : (o o' : Option Expr) → ComputesIf o o' → Positions at_file_scope (or_none expression_calls o) (or_none expression_calls o')
    calls_if None None c = no_names
    calls_if None (Some e') c = absurd c
    calls_if (Some e) None c = absurd c
    calls_if (Some e) (Some e') c = c.calls

    pub if_computes : (walk : Expr → Walking → Walk Expr) → ((e : Expr) → Yields (walk e w) (Computes e)) → (o : Option Expr) → Yields (if_there walk o w) (ComputesIf o)
    if_computes walk each None = yields_ok None tt
    if_computes walk each (Some e) = yields_then (each e) (λ e' c. yields_ok (Some e') c)

  -- ---- loops

  module _ (L : List Scope) where
    abbrev pub Keeps : {A : Type 0} → Run A → Run A → Type 0
    Keeps {A} m m' = Sims (Holds F L) m m' (Equal (Holds F L))

    sims_after_body : (flow : Flow) {again again' : Run Flow} → Keeps again again' → Keeps (after_body flow again) (after_body flow again')
    sims_after_body Normal p = p
    sims_after_body Continues p = p
    sims_after_body Breaks p = sims_pure Normal
    sims_after_body (Returns v) p = sims_pure (Returns v)

    sims_turns : (n : ℕ) {test test' : Run Value} {next next' : Run (Unit {0})} {body body' : Run Flow} → Keeps test test' → Keeps next next' → Keeps body body' → Keeps (turns n test next body) (turns n test' next' body')
    sims_turns zero t a b = sims_end F Going
    sims_turns (suc n) t a b =
        sims_on t (λ v. sims_if (is_zero v) (sims_pure Normal)
        (sims_on (sims_spend F L) (λ u. sims_on b (λ flow. sims_after_body flow (sims_on a (λ x. sims_turns n t a b))))))

    sims_loop : {test test' : Run Value} {next next' : Run (Unit {0})} {body body' : Run Flow} → Keeps test test' → Keeps next next' → Keeps body body' → Keeps (loop test next body) (loop test' next' body')
    sims_loop {test = test} {test' = test'} {next = next} {next' = next'} {body = body} {body' = body'} t a b = record { by = λ s s' h. subst (λ n. Alike (Equal (Holds F L)) (loop test next body s) (turns (suc n) test' next' body' s')) h.world.fuel ((sims_turns (suc s.fuel) t a b).by s s' h) }

    sims_do : {test test' : Run Value} {body body' : Run Flow} → Keeps test test' → Keeps body body' → Keeps (do_loop test body) (do_loop test' body')
    sims_do t b = sims_on (sims_spend F L) (λ u. sims_on b (λ flow. sims_after_body flow (sims_loop t (sims_pure tt) b)))

  -- ---- statements

  -- from the scopes of w to those of w'
  pub record Does (w w' : Walking) (x x' : Statement) : Type 0 where
    pub by : (functions functions' : Calls) → Related functions functions' → Sims (Holds F w.blocks) (x functions) (x' functions') (Equal (Holds F w'.blocks))

  -- what the walk of a statement gives
  pub record Resolved (f : Form) (w : Walking) (x : Statement) (cs : List ℕ) (r : Stmt × Walking) : Type 0 where
    pub same_file : r.1.file ≡ w.file
    pub sound : Sound r.1
    pub same_blocks : f.is_declaration ≡ false → r.1.blocks ≡ w.blocks
    pub same_outer : without_first r.1.blocks ≡ without_first w.blocks
    pub does : Does w r.1 x (statement r.0)
    pub calls : Positions at_file_scope cs (statement_calls r.0)

  pub record ResolvesStatement (y : StatementWalk) (x : Statement) (f : Form) (cs : List ℕ) : Type 0 where
    pub by : (around : Around) (w : Walking) → Sound w → Sub w.file F → f.is_shaped ≡ true → Yields (y around w) (Resolved f w x cs)

  -- the calls of the statement with positions
  called_in : {cs ps : List ℕ} (c' : Stmt) → statement_calls c' ≡ ps → Positions at_file_scope cs ps → Positions at_file_scope cs (statement_calls c')
  called_in {cs = cs} c' is p = subst (Positions at_file_scope cs) (sym is) p

  -- where nothing is declared
  stays : (f : Form) (w : Walking) (x m : Statement) (cs : List ℕ) (c' : Stmt) → Sound w → statement c' ≡ m → Does w w x m → Positions at_file_scope cs (statement_calls c') → Resolved f w x cs (c', w)
  stays f w x m cs c' sound is does calls = record { same_file = refl; sound = sound; same_blocks = λ no. refl; same_outer = refl; does = subst (Does w w x) (sym is) does; calls = calls }

  sub_file : {a b : Scope} → a ≡ b → Sub b F → Sub a F
  sub_file e s = subst (λ x. Sub x F) (sym e) s

  -- ---- declarations

  abbrev NowNormal : List Scope → Flow → Flow → State → State → Type 0
  NowNormal L flow flow' s s' = (flow ≡ Normal) × (flow' ≡ Normal) × Holds F L s s'

  now_normal : (L : List Scope) → Sims (Holds F L) (pure Normal) (pure Normal) (NowNormal L)
  now_normal L = record { by = λ s s' h. (refl, refl, h) }

  pub record ResolvedLocals (w : Walking) (ds : List Local) (r : List Local × Walking) : Type 0 where
    pub same_file : r.1.file ≡ w.file
    pub sound : Sound r.1
    pub same_outer : without_first r.1.blocks ≡ without_first w.blocks
    pub does : (functions functions' : Calls) → Related functions functions' → Sims (Holds F w.blocks) (in_order (map (declare functions) ds)) (in_order (map (declare functions') r.0)) (NowNormal r.1.blocks)
    pub calls : Positions at_file_scope (flat_map local_calls ds) (flat_map local_calls r.0)

  sims_initialise : (w : Walking) (sound : Sound w) (sub : Sub w.file F) (n : ℕ) (d : Known) → in_force w n ≡ Some d → (o o' : Option Expr) → ComputesIf w sound sub o o' → (functions functions' : Calls) → Related functions functions' → Sims (Holds F w.blocks) (initialise n (value_if functions o)) (initialise d.position (value_if functions' o')) (Equal (Holds F w.blocks))
  sims_initialise w sound sub n d is None None c functions functions' r = sims_pure tt
  sims_initialise w sound sub n d is None (Some e') c functions functions' r = absurd c
  sims_initialise w sound sub n d is (Some e) None c functions functions' r = absurd c
  sims_initialise w sound sub n d is (Some e) (Some e') c functions functions' r = sims_on (c.by functions functions' r) (λ v. sims_on (sims_write (in_force w) (Holds F w.blocks) (steps F one w sound sub) n v.word d is) (λ u. sims_pure tt))

  in_force_entered : (n : ℕ) (k : Kind) (decl : Decl) (w : Walking) → in_force (enter_block n k decl w) n ≡ Some (record { position = length w.decls; kind = k })
  in_force_entered n k decl w = ap (λ o. or_else o (lookup n w.file)) (entered_known n (record { position = length w.decls; kind = k }) w.blocks)

  sims_declare : (w : Walking) (sound : Sound w) (sub : Sub w.file F) (d : Local) (decl : Decl) (first' : Option Expr) →
      ComputesIf (enter_block d.name (Scalar d.is_const) decl w) (sound_entered d.name d.is_const decl w sound) sub d.first first' →
      (functions functions' : Calls) → Related functions functions' → Sims (Holds F w.blocks) (declare functions d) (declare functions' (record d { name = length w.decls; first = first' })) (NowNormal (enter_block d.name (Scalar d.is_const) decl w).blocks)
  sims_declare w sound sub d decl first' c functions functions' r =
      let known : Known = record { position = length w.decls; kind = Scalar d.is_const } in
      let w1 : Walking = enter_block d.name (Scalar d.is_const) decl w in
      sims_then (sims_enter F w.blocks d.name known (value 0 (is_unsigned_type d.ty))) (λ u u'.
      sims_on (sims_initialise w1 (sound_entered d.name d.is_const decl w sound) sub d.name known (in_force_entered d.name (Scalar d.is_const) decl w) d.first first' c functions functions' r) (λ x. now_normal w1.blocks))

  pub record ResolvedLocal (w : Walking) (d : Local) (r : Local × Walking) : Type 0 where
    pub same_file : r.1.file ≡ w.file
    pub sound : Sound r.1
    pub same_outer : without_first r.1.blocks ≡ without_first w.blocks
    pub does : (functions functions' : Calls) → Related functions functions' → Sims (Holds F w.blocks) (declare functions d) (declare functions' r.0) (NowNormal r.1.blocks)
    pub calls : Positions at_file_scope (local_calls d) (local_calls r.0)

  of_local : (d : Local) (w : Walking) → Sound w → Sub w.file F → Yields (walk_local d w) (ResolvedLocal w d)
  of_local d w sound sub =
      let decl : Decl = variable d.ty d.is_const in
      let w1 : Walking = enter_block d.name (Scalar d.is_const) decl w in
      let sound1 : Sound w1 = sound_entered d.name d.is_const decl w sound in
      yields_after (λ new. yields_then (if_computes w1 sound1 sub with_value (valued_computes w1 sound1 sub) d.first) (λ first' c. yields_ok (record d { name = length w.decls; first = first' }, w1) (record {
        same_file = refl;
        sound = sound1;
        same_outer = same_outer_entered _ w.blocks;
        does = sims_declare w sound sub d decl first' c;
        calls = calls_if w1 sound1 sub d.first first' c;
      })))

  -- one after another
  sims_in_turn : {L1 L2 L3 : List Scope} {c c' : Run Flow} (cs cs' : List (Run Flow)) → Sims (Holds F L1) c c' (NowNormal L2) → Sims (Holds F L2) (in_order cs) (in_order cs') (NowNormal L3) → Sims (Holds F L1) (in_order (c ∷ cs)) (in_order (c' ∷ cs')) (NowNormal L3)
  sims_in_turn {L3 = L3} cs cs' p q = sims_then p (λ flow flow'. record { by = λ s s' h. subst (λ x. Alike (NowNormal L3) (if_normal x (in_order cs) s) (if_normal flow' (in_order cs') s')) (sym h.0) (subst (λ x. Alike (NowNormal L3) (in_order cs s) (if_normal x (in_order cs') s')) (sym h.1) (q.by s s' h.2)) })

  of_locals : (ds : List Local) (w : Walking) → Sound w → Sub w.file F → Yields (walk_locals ds w) (ResolvedLocals w ds)
  of_locals [] w sound sub = yields_ok ([], w) (record { same_file = refl; sound = sound; same_outer = refl; does = λ functions functions' r. record { by = λ s s' h. (refl, refl, h) }; calls = no_names })
  of_locals (d ∷ ds) w sound sub =
      yields_then (of_local d w sound sub) (λ r1 ok. yields_then (of_locals ds r1.1 ok.sound (sub_file ok.same_file sub)) (λ r2 rest. yields_ok (r1.0 ∷ r2.0, r2.1) (record {
        same_file = rest.same_file ∙ ok.same_file;
        sound = rest.sound;
        same_outer = rest.same_outer ∙ ok.same_outer;
        does = λ functions functions' r. sims_in_turn (map (declare functions) ds) (map (declare functions') r2.0) (ok.does functions functions' r) (rest.does functions functions' r);
        calls = both_positions ok.calls rest.calls;
      })))

  -- ---- lists of statements

  -- the end of a list: what is in force outside of its scope is as it was
  abbrev pub Left : List Scope → Flow → Flow → State → State → Type 0
  Left L flow flow' s s' = (flow ≡ flow') × ((L' : List Scope) × (without_first L' ≡ without_first L) × Holds F L' s s')

  pub record ResolvedEach (w : Walking) (xs : List Statement) (css : List (List ℕ)) (r : List Stmt × Walking) : Type 0 where
    pub same_file : r.1.file ≡ w.file
    pub sound : Sound r.1
    pub same_outer : without_first r.1.blocks ≡ without_first w.blocks
    pub does : (functions functions' : Calls) → Related functions functions' → Sims (Holds F w.blocks) (in_order (map (λ c. c functions) xs)) (in_order (map (λ c. c functions') (map statement r.0))) (Left w.blocks)
    pub calls : Positions at_file_scope (flat_map (λ calls. calls) css) (flat_map (λ calls. calls) (map statement_calls r.0))

  -- one to one
  pub data Each : List StatementWalk → List Statement → List Form → List (List ℕ) → Type 0 where
    each_none : Each [] [] [] []
    each_also : {y : StatementWalk} {x : Statement} {f : Form} {cs : List ℕ} {ys : List StatementWalk} {xs : List Statement} {fs : List Form} {css : List (List ℕ)} → ResolvesStatement y x f cs → Each ys xs fs css → Each (y ∷ ys) (x ∷ xs) (f ∷ fs) (cs ∷ css)

  after_one : (L1 L2 : List Scope) → without_first L2 ≡ without_first L1 → (flow : Flow) {m m' : Run Flow} → Sims (Holds F L2) m m' (Left L2) → Sims (Holds F L2) (if_normal flow m) (if_normal flow m') (Left L1)
  after_one L1 L2 is Normal p = sims_post p (λ flow flow' s s' h. (h.0, (h.1.0, h.1.1 ∙ is, h.1.2)))
  after_one L1 L2 is Breaks p = record { by = λ s s' h. (refl, (L2, is, h)) }
  after_one L1 L2 is Continues p = record { by = λ s s' h. (refl, (L2, is, h)) }
  after_one L1 L2 is (Returns v) p = record { by = λ s s' h. (refl, (L2, is, h)) }

  pub of_statements : {ys : List StatementWalk} {xs : List Statement} {fs : List Form} {css : List (List ℕ)} → Each ys xs fs css → (around : Around) (w : Walking) → Sound w → Sub w.file F → each (λ f. f.is_shaped) fs ≡ true → Yields (walk_each ys around w) (ResolvedEach w xs css)
  of_statements each_none around w sound sub shaped = yields_ok ([], w) (record { same_file = refl; sound = sound; same_outer = refl; does = λ functions functions' r. record { by = λ s s' h. (refl, (w.blocks, refl, h)) }; calls = no_names })
  of_statements (each_also {f = f} {fs = fs} one' rest) around w sound sub shaped =
      let both = and_true f.is_shaped (each (λ f. f.is_shaped) fs) shaped in
      yields_then (one'.by around w sound sub both.0) (λ r1 ok. yields_then (of_statements rest around r1.1 ok.sound (sub_file ok.same_file sub) both.1) (λ r2 more. yields_ok (r1.0 ∷ r2.0, r2.1) (record {
        same_file = more.same_file ∙ ok.same_file;
        sound = more.sound;
        same_outer = more.same_outer ∙ ok.same_outer;
        does = λ functions functions' r. sims_on (ok.does.by functions functions' r) (λ flow. after_one w.blocks r1.1.blocks ok.same_outer flow (more.does functions functions' r));
        calls = both_positions ok.calls more.calls;
      })))

  -- ---- each statement

  -- along equal scopes
  moved : {A : Type 0} {L1 L2 K1 K2 : List Scope} {m m' : Run A} → L1 ≡ L2 → K1 ≡ K2 → Sims (Holds F L1) m m' (Equal (Holds F K1)) → Sims (Holds F L2) m m' (Equal (Holds F K2))
  moved {L1 = L1} {K2 = K2} {m = m} {m' = m'} p q x = subst (λ L. Sims (Holds F L) m m' (Equal (Holds F K2))) p (subst (λ K. Sims (Holds F L1) m m' (Equal (Holds F K))) q x)

  -- statements none of which declares anything
  pub record ResolvedAll (w : Walking) (xs : List Statement) (css : List (List ℕ)) (r : List Stmt × Walking) : Type 0 where
    pub same_file : r.1.file ≡ w.file
    pub sound : Sound r.1
    pub same_blocks : r.1.blocks ≡ w.blocks
    pub does : (functions functions' : Calls) → Related functions functions' → Keeps w.blocks (in_order (map (λ c. c functions) xs)) (in_order (map (λ c. c functions') (map statement r.0)))
    pub calls : Positions at_file_scope (flat_map (λ calls. calls) css) (flat_map (λ calls. calls) (map statement_calls r.0))

  substatement : (f : Form) → is_substatement f ≡ true → (f.is_declaration ≡ false) × (f.is_shaped ≡ true)
  substatement f is = let x = and_true (not f.is_declaration) f.is_shaped is in (not_true f.is_declaration x.0, x.1)

  keeps_next : (L : List Scope) (flow : Flow) {m m' : Run Flow} → Keeps L m m' → Keeps L (if_normal flow m) (if_normal flow m')
  keeps_next L Normal p = p
  keeps_next L Breaks p = sims_pure Breaks
  keeps_next L Continues p = sims_pure Continues
  keeps_next L (Returns v) p = sims_pure (Returns v)

  of_substatements : {ys : List StatementWalk} {xs : List Statement} {fs : List Form} {css : List (List ℕ)} → Each ys xs fs css → (around : Around) (w : Walking) → Sound w → Sub w.file F → each is_substatement fs ≡ true → Yields (walk_each ys around w) (ResolvedAll w xs css)
  of_substatements each_none around w sound sub shaped = yields_ok ([], w) (record { same_file = refl; sound = sound; same_blocks = refl; does = λ functions functions' r. sims_pure Normal; calls = no_names })
  of_substatements (each_also {f = f} {fs = fs} one' rest) around w sound sub shaped =
      let both = and_true (is_substatement f) (each is_substatement fs) shaped in
      let form = substatement f both.0 in
      yields_then (one'.by around w sound sub form.1) (λ r1 ok. yields_then (of_substatements rest around r1.1 ok.sound (sub_file ok.same_file sub) both.1) (λ r2 more.
      let same = ok.same_blocks form.0 in
      yields_ok (r1.0 ∷ r2.0, r2.1) (record {
        same_file = more.same_file ∙ ok.same_file;
        sound = more.sound;
        same_blocks = more.same_blocks ∙ same;
        does = λ functions functions' r. sims_on (moved refl same (ok.does.by functions functions' r)) (λ flow. keeps_next w.blocks flow (moved same same (more.does functions functions' r)));
        calls = both_positions ok.calls more.calls;
      })))

  -- ---- `switch`

  -- clauses with the same labels, whose statements do the same
  pub record SameLabelled (L : List Scope) (x x' : Labelled) : Type 0 where
    pub labels : x.labels ≡ x'.labels
    pub body : (functions functions' : Calls) → Related functions functions' → Keeps L (x.body functions) (x'.body functions')

  pub data AllLabelled (L : List Scope) : List Labelled → List Labelled → Type 0 where
    no_clause : AllLabelled L [] []
    a_clause : {x x' : Labelled} {xs xs' : List Labelled} → SameLabelled L x x' → AllLabelled L xs xs' → AllLabelled L (x ∷ xs) (x' ∷ xs')

  all_from : (L : List Scope) (l : Option ℕ) {xs xs' : List Labelled} → AllLabelled L xs xs' → AllLabelled L (from_label l xs) (from_label l xs')
  all_from L l no_clause = no_clause
  all_from L l (a_clause {x = x} {x' = x'} {xs = xs} {xs' = xs'} s rest) =
      subst (λ ls. AllLabelled L (from_label l (x ∷ xs)) (if list_any (is_label l) ls then x' ∷ xs' else from_label l xs')) s.labels (at (list_any (is_label l) x.labels) (all_from L l rest))
    where
      at : (b : Bool) → AllLabelled L (from_label l xs) (from_label l xs') → AllLabelled L (if b then x ∷ xs else from_label l xs) (if b then x' ∷ xs' else from_label l xs')
      at true ih = a_clause s rest
      at false ih = ih

  all_or : (L : List Scope) {xs xs' ys ys' : List Labelled} → AllLabelled L xs xs' → AllLabelled L ys ys' → AllLabelled L (or_those xs ys) (or_those xs' ys')
  all_or L no_clause q = q
  all_or L (a_clause s rest) q = a_clause s rest

  sims_clauses : (L : List Scope) {xs xs' : List Labelled} → AllLabelled L xs xs' → (functions functions' : Calls) → Related functions functions' → Keeps L (in_order (map (λ c. c.body functions) xs)) (in_order (map (λ c. c.body functions') xs'))
  sims_clauses L no_clause functions functions' r = sims_pure Normal
  sims_clauses L (a_clause s rest) functions functions' r = sims_on (s.body functions functions' r) (λ flow. keeps_next L flow (sims_clauses L rest functions functions' r))

  sims_switch : (L : List Scope) {xs xs' : List Labelled} → AllLabelled L xs xs' → (functions functions' : Calls) → Related functions functions' → {t t' : Run Value} → Keeps L t t' → Keeps L (switch t xs functions) (switch t' xs' functions')
  sims_switch L all functions functions' r p = sims_on p (λ v. sims_on (sims_clauses L (all_or L (all_from L (Some v.word) all) (all_from L None all)) functions functions' r) (λ flow. sims_pure (after_switch flow)))

  -- what the walk of a clause gives
  pub record ResolvedClause (w : Walking) (x : Labelled) (cs : List ℕ) (r : Clause × Labels × Walking) : Type 0 where
    pub same_file : r.2.file ≡ w.file
    pub sound : Sound r.2
    pub same_blocks : r.2.blocks ≡ w.blocks
    pub same : SameLabelled w.blocks x (clause r.0)
    pub calls : Positions at_file_scope cs (clause_calls r.0)

  pub record ResolvesClause (y : ClauseWalk) (x : Labelled) (f : Bool) (cs : List ℕ) : Type 0 where
    pub by : (labels : Labels) (around : Around) (w : Walking) → Sound w → Sub w.file F → f ≡ true → Yields (y labels around w) (ResolvedClause w x cs)

  pub record ResolvedClauses (w : Walking) (xs : List Labelled) (css : List (List ℕ)) (r : List Clause × Walking) : Type 0 where
    pub same_file : r.1.file ≡ w.file
    pub sound : Sound r.1
    pub same_blocks : r.1.blocks ≡ w.blocks
    pub same : AllLabelled w.blocks xs (map clause r.0)
    pub calls : Positions at_file_scope (flat_map (λ calls. calls) css) (flat_map (λ calls. calls) (map clause_calls r.0))

  abbrev Part : Type 0
  Part = (c : Stmt) × ResolvesStatement (statement_walk c) (statement c) (form c) (statement_calls c)

  abbrev ClausePart : Type 0
  ClausePart = (c : Clause) × ResolvesClause (clause_walk c) (clause c) (clause_form c) (clause_calls c)

  of_parts : (cs : List Part) → Each (map statement_walk (map (λ c. c.0) cs)) (map statement (map (λ c. c.0) cs)) (map form (map (λ c. c.0) cs)) (map statement_calls (map (λ c. c.0) cs))
  of_parts [] = each_none
  of_parts (c ∷ cs) = each_also c.1 (of_parts cs)

  labelled_moved : {L K : List Scope} → L ≡ K → {x x' : Labelled} → SameLabelled L x x' → SameLabelled K x x'
  labelled_moved e {x = x} {x' = x'} s = subst (λ l. SameLabelled l x x') e s

  all_moved : {L K : List Scope} → L ≡ K → {xs xs' : List Labelled} → AllLabelled L xs xs' → AllLabelled K xs xs'
  all_moved e {xs = xs} {xs' = xs'} s = subst (λ l. AllLabelled l xs xs') e s

  of_clauses : (cs : List ClausePart) (labels : Labels) (around : Around) (w : Walking) → Sound w → Sub w.file F → each (λ f. f) (map clause_form (map (λ c. c.0) cs)) ≡ true → Yields (walk_clauses (map clause_walk (map (λ c. c.0) cs)) labels around w) (ResolvedClauses w (map clause (map (λ c. c.0) cs)) (map clause_calls (map (λ c. c.0) cs)))
  of_clauses [] labels around w sound sub shaped = yields_ok ([], w) (record { same_file = refl; sound = sound; same_blocks = refl; same = no_clause; calls = no_names })
  of_clauses (c ∷ cs) labels around w sound sub shaped =
      let both = and_true (clause_form c.0) (each (λ f. f) (map clause_form (map (λ c. c.0) cs))) shaped in
      yields_then (c.1.by labels around w sound sub both.0) (λ r1 ok. yields_then (of_clauses cs r1.1 around r1.2 ok.sound (sub_file ok.same_file sub) both.1) (λ r2 rest. yields_ok (r1.0 ∷ r2.0, r2.1) (record {
        same_file = rest.same_file ∙ ok.same_file;
        sound = rest.sound;
        same_blocks = rest.same_blocks ∙ ok.same_blocks;
        same = a_clause ok.same (all_moved ok.same_blocks rest.same);
        calls = both_positions ok.calls rest.calls;
      })))

  returned_does : (w : Walking) (sound : Sound w) (sub : Sub w.file F) (o o' : Option Expr) → ComputesIf w sound sub o o' → (functions functions' : Calls) → Related functions functions' → Sims (Holds F w.blocks) (returned (value_if functions o)) (returned (value_if functions' o')) (Equal (Holds F w.blocks))
  returned_does w sound sub None None c functions functions' r = sims_pure (Returns (value 0 false))
  returned_does w sound sub None (Some e') c functions functions' r = absurd c
  returned_does w sound sub (Some e) None c functions functions' r = absurd c
  returned_does w sound sub (Some e) (Some e') c functions functions' r = sims_on (c.by functions functions' r) (λ v. sims_pure (Returns v))

  test_does : (w : Walking) (sound : Sound w) (sub : Sub w.file F) (o o' : Option Expr) → ComputesIf w sound sub o o' → (functions functions' : Calls) → Related functions functions' → Sims (Holds F w.blocks) (test_or_true (value_if functions o)) (test_or_true (value_if functions' o')) (Equal (Holds F w.blocks))
  test_does w sound sub None None c functions functions' r = sims_pure (truth true)
  test_does w sound sub None (Some e') c functions functions' r = absurd c
  test_does w sound sub (Some e) None c functions functions' r = absurd c
  test_does w sound sub (Some e) (Some e') c functions functions' r = c.by functions functions' r

  next_does : (w : Walking) (sound : Sound w) (sub : Sub w.file F) (o o' : Option Expr) → ComputesIf w sound sub o o' → (functions functions' : Calls) → Related functions functions' → Sims (Holds F w.blocks) (next_or_nothing (value_if functions o)) (next_or_nothing (value_if functions' o')) (Equal (Holds F w.blocks))
  next_does w sound sub None None c functions functions' r = sims_pure tt
  next_does w sound sub None (Some e') c functions functions' r = absurd c
  next_does w sound sub (Some e) None c functions functions' r = absurd c
  next_does w sound sub (Some e) (Some e') c functions functions' r = sims_on (c.by functions functions' r) (λ v. sims_pure tt)

  -- the end of a scope
  leave_alike : (K : List Scope) (flow flow' : Flow) → flow ≡ flow' → (L' : List Scope) → without_first L' ≡ K → (s s' : State) → Holds F L' s s' → Alike (Equal (Holds F K)) ((close_scope >> pure flow) s) ((close_scope >> pure flow') s')
  leave_alike K flow flow' same L' end s s' h = (sims_then {go = λ u. pure flow} {go' = λ u. pure flow'} {post = Equal (Holds F K)} (sims_close F L') (λ u u'. record { by = λ t t' g. (same, subst (λ l. Holds F l t t') end g) })).by s s' h

  leave_one : (L K : List Scope) → without_first L ≡ K → {m m' : Run Flow} → Sims (Holds F ([] ∷ K)) m m' (Left L) → Sims (Holds F ([] ∷ K)) (m >>= (λ flow. close_scope >> pure flow)) (m' >>= (λ flow. close_scope >> pure flow)) (Equal (Holds F K))
  leave_one L K is p = sims_then p (λ flow flow'. record { by = λ s s' h. leave_alike K flow flow' h.0 h.1.0 (h.1.1 ∙ is) s s' h.1.2 })

  sims_leave : (L K : List Scope) → without_first L ≡ K → {m m' : Run Flow} → Sims (Holds F ([] ∷ K)) m m' (Left L) → Sims (Holds F K) (in_scope m) (in_scope m') (Equal (Holds F K))
  sims_leave L K is p = sims_then (sims_open F K) (λ u u'. leave_one L K is p)

  left_at : (L : List Scope) (flow : Flow) {m m' : Run Flow} → Keeps L m m' → Sims (Holds F L) (if_normal flow m) (if_normal flow m') (Left L)
  left_at L Normal p = sims_post p (λ flow flow' s s' h. (h.0, (L, refl, h.1)))
  left_at L Breaks p = record { by = λ s s' h. (refl, (L, refl, h)) }
  left_at L Continues p = record { by = λ s s' h. (refl, (L, refl, h)) }
  left_at L (Returns v) p = record { by = λ s s' h. (refl, (L, refl, h)) }

  if_does : (w w1 w2 : Walking) (sound : Sound w) (sub : Sub w.file F) → w1.blocks ≡ w.blocks → w2.blocks ≡ w1.blocks → (t t' : Expr) → Computes w sound sub t t' → (a a' : Statement) → Does w w1 a a' → (b b' : Calls → Run Flow) → ((functions functions' : Calls) → Related functions functions' → Sims (Holds F w1.blocks) (b functions) (b' functions') (Equal (Holds F w2.blocks))) →
      (functions functions' : Calls) → Related functions functions' → Sims (Holds F w.blocks) ((expression t).value functions >>= (λ v. if is_zero v then b functions else a functions)) ((expression t').value functions' >>= (λ v. if is_zero v then b' functions' else a' functions')) (Equal (Holds F w2.blocks))
  if_does w w1 w2 sound sub p q t t' c a a' da b b' db functions functions' r =
      sims_on (c.by functions functions' r) (λ v. sims_if (is_zero v) (moved p refl (db functions functions' r)) (moved refl (sym q) (da.by functions functions' r)))

  abbrev bare : Stmt-F Part ClausePart → Stmt-F Stmt Clause
  bare y = map-Stmt Part ClausePart Stmt Clause (λ c. c.0) (λ c. c.0) y

  each_statement : (y : Stmt-F Part ClausePart) → ResolvesStatement (statement_walk_step (map-Stmt Stmt Clause StatementWalk ClauseWalk statement_walk clause_walk (bare y))) (statement_step (map-Stmt Stmt Clause Statement Labelled statement clause (bare y))) (form_step (map-Stmt Stmt Clause Form Bool form clause_form (bare y))) (statement_calls_step (map-Stmt Stmt Clause (List ℕ) (List ℕ) statement_calls clause_calls (bare y)))
  each_statement Stmt-F.Empty = record { by = λ around w sound sub shaped. yields_ok (stmt.Empty, w) (stays _ w _ _ _ stmt.Empty sound (on-Empty Statement Labelled statement_step clause_step) (record { by = λ functions functions' r. sims_pure Normal }) (called_in stmt.Empty (on-Empty (List ℕ) (List ℕ) statement_calls_step clause_calls_step) no_names)) }
  each_statement (Stmt-F.Value e) = record { by = λ around w sound sub shaped. yields_then (any_computes w sound sub e) (λ e' c. yields_ok (stmt.Value e', w) (stays _ w _ _ _ (stmt.Value e') sound (on-Value Statement Labelled statement_step clause_step e') (record { by = λ functions functions' r. sims_on (c.by functions functions' r) (λ v. sims_pure Normal) }) (called_in (stmt.Value e') (on-Value (List ℕ) (List ℕ) statement_calls_step clause_calls_step e') c.calls))) }
  each_statement (Stmt-F.Declare locals) = record {
    by = λ around w sound sub shaped. yields_then (of_locals locals w sound sub) (λ r1 ok. yields_ok (stmt.Declare r1.0, r1.1) (record {
      same_file = ok.same_file;
      sound = ok.sound;
      same_blocks = λ no. absurd cc;
      same_outer = ok.same_outer;
      does = subst (Does w r1.1 _) (sym (on-Declare Statement Labelled statement_step clause_step r1.0)) (record { by = λ functions functions' r. sims_post (ok.does functions functions' r) (λ flow flow' s s' h. (h.0 ∙ sym h.1, h.2)) });
      calls = called_in (stmt.Declare r1.0) (on-Declare (List ℕ) (List ℕ) statement_calls_step clause_calls_step r1.0) ok.calls;
    }));
  }
  each_statement (Stmt-F.Block cs) = record {
    by = λ around w sound sub shaped. yields_then (of_statements (of_parts cs) around (opened w) (sound_opened w sound) sub shaped) (λ r1 ok. yields_ok (stmt.Block r1.0, closed r1.1) (record {
      same_file = ok.same_file;
      sound = sound_closed w r1.1 sound ok.sound ok.same_outer;
      same_blocks = λ no. ok.same_outer;
      same_outer = ap without_first ok.same_outer;
      does = subst (Does w (closed r1.1) _) (sym (on-Block Statement Labelled statement_step clause_step r1.0)) (record { by = λ functions functions' r. moved refl (sym ok.same_outer) (sims_leave ([] ∷ w.blocks) w.blocks refl (ok.does functions functions' r)) });
      calls = called_in (stmt.Block r1.0) (on-Block (List ℕ) (List ℕ) statement_calls_step clause_calls_step r1.0) ok.calls;
    }));
  }
  each_statement (Stmt-F.If t a None) = record {
    by = λ around w sound sub shaped.
        let sa = substatement (form a.0) (and_true (is_substatement (form a.0)) true shaped).0 in
        yields_then (valued_computes w sound sub t) (λ t' c. yields_then (a.1.by around w sound sub sa.1) (λ r1 ok. yields_ok (stmt.If t' r1.0 None, r1.1) (record {
          same_file = ok.same_file;
          sound = ok.sound;
          same_blocks = λ no. ok.same_blocks sa.0;
          same_outer = ok.same_outer;
          does = subst (Does w r1.1 _) (sym (on-If Statement Labelled statement_step clause_step t' r1.0 None)) (record { by = if_does w r1.1 r1.1 sound sub (ok.same_blocks sa.0) refl t t' c (statement a.0) (statement r1.0) ok.does (or_nothing None) (or_nothing None) (λ functions functions' r. sims_pure Normal) });
          calls = called_in (stmt.If t' r1.0 None) (on-If (List ℕ) (List ℕ) statement_calls_step clause_calls_step t' r1.0 None) (both_positions (both_positions c.calls ok.calls) no_names);
        })));
  }
  each_statement (Stmt-F.If t a (Some b)) = record {
    by = λ around w sound sub shaped.
        let both = and_true (is_substatement (form a.0)) (is_substatement (form b.0)) shaped in
        let sa = substatement (form a.0) both.0 in
        let sb = substatement (form b.0) both.1 in
        yields_then (valued_computes w sound sub t) (λ t' c. yields_then (a.1.by around w sound sub sa.1) (λ r1 ok. yields_then (yields_then (b.1.by around r1.1 ok.sound (sub_file ok.same_file sub) sb.1) (λ r2 ok2. yields_ok {P = λ r. (c' : Stmt) × (r.0 ≡ Some c') × Resolved (form b.0) r1.1 (statement b.0) (statement_calls b.0) (c', r.1)} (Some r2.0, r2.1) (r2.0, refl, ok2))) (λ r2 ok2. yields_ok (stmt.If t' r1.0 r2.0, r2.1) (record {
          same_file = ok2.2.same_file ∙ ok.same_file;
          sound = ok2.2.sound;
          same_blocks = λ no. ok2.2.same_blocks sb.0 ∙ ok.same_blocks sa.0;
          same_outer = ok2.2.same_outer ∙ ok.same_outer;
          does = subst (λ o. Does w r2.1 (statement_step (Stmt-F.If t (statement a.0) (Some (statement b.0)))) (statement (stmt.If t' r1.0 o))) (sym ok2.1) (subst (Does w r2.1 _) (sym (on-If Statement Labelled statement_step clause_step t' r1.0 (Some ok2.0))) (record { by = if_does w r1.1 r2.1 sound sub (ok.same_blocks sa.0) (ok2.2.same_blocks sb.0) t t' c (statement a.0) (statement r1.0) ok.does (statement b.0) (statement ok2.0) ok2.2.does.by }));
          calls = subst (λ o. Positions at_file_scope (expression_calls t ++ statement_calls a.0 ++ statement_calls b.0) (statement_calls (stmt.If t' r1.0 o))) (sym ok2.1) (called_in (stmt.If t' r1.0 (Some ok2.0)) (on-If (List ℕ) (List ℕ) statement_calls_step clause_calls_step t' r1.0 (Some ok2.0)) (both_positions (both_positions c.calls ok.calls) ok2.2.calls));
        }))));
  }
  each_statement (Stmt-F.While t b) = record {
    by = λ around w sound sub shaped.
        let sb = substatement (form b.0) shaped in
        yields_then (valued_computes w sound sub t) (λ t' c. yields_then (b.1.by (looping around) w sound sub sb.1) (λ r1 ok. let same = ok.same_blocks sb.0 in yields_ok (stmt.While t' r1.0, r1.1) (record {
          same_file = ok.same_file;
          sound = ok.sound;
          same_blocks = λ no. same;
          same_outer = ok.same_outer;
          does = subst (Does w r1.1 _) (sym (on-While Statement Labelled statement_step clause_step t' r1.0)) (record { by = λ functions functions' r. moved refl (sym same) (sims_loop w.blocks (c.by functions functions' r) (sims_pure tt) (moved refl same (ok.does.by functions functions' r))) });
          calls = called_in (stmt.While t' r1.0) (on-While (List ℕ) (List ℕ) statement_calls_step clause_calls_step t' r1.0) (both_positions c.calls ok.calls);
        })));
  }
  each_statement (Stmt-F.Do b t) = record {
    by = λ around w sound sub shaped.
        let sb = substatement (form b.0) shaped in
        yields_then (b.1.by (looping around) w sound sub sb.1) (λ r1 ok. let same = ok.same_blocks sb.0 in yields_then (valued_computes r1.1 ok.sound (sub_file ok.same_file sub) t) (λ t' c. yields_ok (stmt.Do r1.0 t', r1.1) (record {
          same_file = ok.same_file;
          sound = ok.sound;
          same_blocks = λ no. same;
          same_outer = ok.same_outer;
          does = subst (Does w r1.1 _) (sym (on-Do Statement Labelled statement_step clause_step r1.0 t')) (record { by = λ functions functions' r. moved refl (sym same) (sims_do w.blocks (moved same same (c.by functions functions' r)) (moved refl same (ok.does.by functions functions' r))) });
          calls = called_in (stmt.Do r1.0 t') (on-Do (List ℕ) (List ℕ) statement_calls_step clause_calls_step r1.0 t') (both_positions ok.calls c.calls);
        })));
  }
  each_statement (Stmt-F.For first t next b) = record {
    by = λ around w sound sub shaped.
        let both = and_true ((form first.0).is_clause && (form first.0).is_shaped) (is_substatement (form b.0)) shaped in
        let sf = and_true (form first.0).is_clause (form first.0).is_shaped both.0 in
        let sb = substatement (form b.0) both.1 in
        yields_then (first.1.by around (opened w) (sound_opened w sound) sub sf.1) (λ r1 ok.
        let sub1 : Sub r1.1.file F = sub_file ok.same_file sub in
        yields_then (if_computes r1.1 ok.sound sub1 with_value (valued_computes r1.1 ok.sound sub1) t) (λ t' c.
        yields_then (if_computes r1.1 ok.sound sub1 any_expression (any_computes r1.1 ok.sound sub1) next) (λ n' d.
        yields_then (b.1.by (looping around) r1.1 ok.sound sub1 sb.1) (λ r2 ok2.
        let same = ok2.same_blocks sb.0 in
        let outer : without_first r2.1.blocks ≡ w.blocks = ap without_first same ∙ ok.same_outer in
        yields_ok (stmt.For r1.0 t' n' r2.0, closed r2.1) (record {
          same_file = ok2.same_file ∙ ok.same_file;
          sound = sound_closed w r2.1 sound ok2.sound outer;
          same_blocks = λ no. outer;
          same_outer = ap without_first outer;
          does = subst (Does w (closed r2.1) _) (sym (on-For Statement Labelled statement_step clause_step r1.0 t' n' r2.0)) (record {
            by = λ functions functions' r. moved refl (sym outer) (sims_leave r1.1.blocks w.blocks ok.same_outer
                (sims_on (ok.does.by functions functions' r) (λ flow. left_at r1.1.blocks flow (sims_loop r1.1.blocks (test_does r1.1 ok.sound sub1 t t' c functions functions' r) (next_does r1.1 ok.sound sub1 next n' d functions functions' r) (moved refl same (ok2.does.by functions functions' r))))));
          });
          calls = called_in (stmt.For r1.0 t' n' r2.0) (on-For (List ℕ) (List ℕ) statement_calls_step clause_calls_step r1.0 t' n' r2.0) (both_positions (both_positions (both_positions ok.calls (calls_if r1.1 ok.sound sub1 t t' c)) (calls_if r1.1 ok.sound sub1 next n' d)) ok2.calls);
        })))));
  }
  each_statement (Stmt-F.Switch t cs) = record {
    by = λ around w sound sub shaped.
        yields_then (valued_computes w sound sub t) (λ t' c. yields_then (of_clauses cs no_labels (switching around) w sound sub shaped) (λ r1 ok. yields_ok (stmt.Switch t' r1.0, r1.1) (record {
          same_file = ok.same_file;
          sound = ok.sound;
          same_blocks = λ no. ok.same_blocks;
          same_outer = ap without_first ok.same_blocks;
          does = subst (Does w r1.1 _) (sym (on-Switch Statement Labelled statement_step clause_step t' r1.0)) (record { by = λ functions functions' r. moved refl (sym ok.same_blocks) (sims_switch w.blocks ok.same functions functions' r (c.by functions functions' r)) });
          calls = called_in (stmt.Switch t' r1.0) (on-Switch (List ℕ) (List ℕ) statement_calls_step clause_calls_step t' r1.0) (both_positions c.calls ok.calls);
        })));
  }
  each_statement (Stmt-F.Break at) = record { by = λ around w sound sub shaped. yields_after (λ ok. yields_ok (stmt.Break at, w) (stays _ w _ _ _ (stmt.Break at) sound (on-Break Statement Labelled statement_step clause_step at) (record { by = λ functions functions' r. sims_pure Breaks }) (called_in (stmt.Break at) (on-Break (List ℕ) (List ℕ) statement_calls_step clause_calls_step at) no_names))) }
  each_statement (Stmt-F.Continue at) = record { by = λ around w sound sub shaped. yields_after (λ ok. yields_ok (stmt.Continue at, w) (stays _ w _ _ _ (stmt.Continue at) sound (on-Continue Statement Labelled statement_step clause_step at) (record { by = λ functions functions' r. sims_pure Continues }) (called_in (stmt.Continue at) (on-Continue (List ℕ) (List ℕ) statement_calls_step clause_calls_step at) no_names))) }
  each_statement (Stmt-F.Return e at) = record { by = λ around w sound sub shaped. yields_after (λ ok. yields_then (if_computes w sound sub with_value (valued_computes w sound sub) e) (λ e' c. yields_ok (stmt.Return e' at, w) (stays _ w _ _ _ (stmt.Return e' at) sound (on-Return Statement Labelled statement_step clause_step e' at) (record { by = λ functions functions' r. returned_does w sound sub e e' c functions functions' r }) (called_in (stmt.Return e' at) (on-Return (List ℕ) (List ℕ) statement_calls_step clause_calls_step e' at) (calls_if w sound sub e e' c))))) }

  no_positions : (a b : List ℕ) → a ≡ [] → b ≡ [] → Positions at_file_scope a b
  no_positions a b p q = subst (λ x. Positions at_file_scope x b) (sym p) (subst (Positions at_file_scope []) (sym q) no_names)

  each_clause : (y : Clause-F Part ClausePart) → ResolvesClause (clause_walk_step (map-Clause Stmt Clause StatementWalk ClauseWalk statement_walk clause_walk (map-Clause Part ClausePart Stmt Clause (λ c. c.0) (λ c. c.0) y))) (clause_step (map-Clause Stmt Clause Statement Labelled statement clause (map-Clause Part ClausePart Stmt Clause (λ c. c.0) (λ c. c.0) y))) (clause_form_step (map-Clause Stmt Clause Form Bool form clause_form (map-Clause Part ClausePart Stmt Clause (λ c. c.0) (λ c. c.0) y))) (clause_calls_step (map-Clause Stmt Clause (List ℕ) (List ℕ) statement_calls clause_calls (map-Clause Part ClausePart Stmt Clause (λ c. c.0) (λ c. c.0) y)))
  each_clause y = record {
    by = λ labels around w sound sub shaped.
        yields_then {P = λ r. (r.0 ≡ y.labels) × (flat_map label_calls y.labels ≡ [])} (record { if_ok = λ r is. ((labels_unchanged y.labels labels w).if_ok r is, (labels_uncalled y.labels labels w).if_ok r is) }) (λ r1 kept. yields_then (of_substatements (of_parts y.body) around w sound sub shaped) (λ r2 ok. yields_ok (record { labels = r1.0; body = r2.0 }, r1.1, r2.1) (record {
          same_file = ok.same_file;
          sound = ok.sound;
          same_blocks = ok.same_blocks;
          same = subst (SameLabelled w.blocks (clause_step (map-Clause Stmt Clause Statement Labelled statement clause (map-Clause Part ClausePart Stmt Clause (λ c. c.0) (λ c. c.0) y)))) (sym (on-clause Statement Labelled statement_step clause_step r1.0 r2.0)) (record { labels = ap (map label_word) (sym kept.0); body = ok.does });
          calls = subst (Positions at_file_scope _) (sym (on-clause (List ℕ) (List ℕ) statement_calls_step clause_calls_step r1.0 r2.0)) (both_positions (no_positions (flat_map label_calls y.labels) (flat_map label_calls r1.0) kept.1 (ap (flat_map label_calls) kept.0 ∙ kept.1)) ok.calls);
        })));
  }

  pub resolves_statement : (c : Stmt) → ResolvesStatement (statement_walk c) (statement c) (form c) (statement_calls c)
  resolves_statement = ind-Stmt (λ c. ResolvesStatement (statement_walk c) (statement c) (form c) (statement_calls c)) (λ c. ResolvesClause (clause_walk c) (clause c) (clause_form c) (clause_calls c))
      (λ x y is. subst (λ z. ResolvesStatement (statement_walk (roll-Stmt z)) (statement (roll-Stmt z)) (form (roll-Stmt z)) (statement_calls (roll-Stmt z))) is (whole y))
      (λ x y is. subst (λ z. ResolvesClause (clause_walk (roll-Clause z)) (clause (roll-Clause z)) (clause_form (roll-Clause z)) (clause_calls (roll-Clause z))) is (whole_clause y))
    where
      whole : (y : Stmt-F Part ClausePart) → ResolvesStatement (statement_walk (roll-Stmt (bare y))) (statement (roll-Stmt (bare y))) (form (roll-Stmt (bare y))) (statement_calls (roll-Stmt (bare y)))
      whole y = rw (fold-roll-Stmt StatementWalk ClauseWalk statement_walk_step clause_walk_step (bare y), fold-roll-Stmt Statement Labelled statement_step clause_step (bare y), fold-roll-Stmt Form Bool form_step clause_form_step (bare y), fold-roll-Stmt (List ℕ) (List ℕ) statement_calls_step clause_calls_step (bare y)) (each_statement y)

      whole_clause : (y : Clause-F Part ClausePart) → ResolvesClause (clause_walk (roll-Clause (map-Clause Part ClausePart Stmt Clause (λ c. c.0) (λ c. c.0) y))) (clause (roll-Clause (map-Clause Part ClausePart Stmt Clause (λ c. c.0) (λ c. c.0) y))) (clause_form (roll-Clause (map-Clause Part ClausePart Stmt Clause (λ c. c.0) (λ c. c.0) y))) (clause_calls (roll-Clause (map-Clause Part ClausePart Stmt Clause (λ c. c.0) (λ c. c.0) y)))
      whole_clause y = let z = map-Clause Part ClausePart Stmt Clause (λ c. c.0) (λ c. c.0) y in rw (fold-roll-Clause StatementWalk ClauseWalk statement_walk_step clause_walk_step z, fold-roll-Clause Statement Labelled statement_step clause_step z, fold-roll-Clause Form Bool form_step clause_form_step z, fold-roll-Clause (List ℕ) (List ℕ) statement_calls_step clause_calls_step z) (each_clause y)

  pub of_body : (cs : List Stmt) → Each (map statement_walk cs) (map statement cs) (map form cs) (map statement_calls cs)
  of_body [] = each_none
  of_body (c ∷ cs) = each_also (resolves_statement c) (of_body cs)
