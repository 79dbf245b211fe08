-- Variables at file scope and functions whose names are positions are those with names.
use Rattle.std.proofs.Common.{◌≡◌, ℕ, suc, Bool, true, false, not, ◌&&◌, List, [], ◌∷◌, ◌++◌, map, flat_map, length, Option, Some, None, is_some, refl, sym, ap, ◌∙◌, subst, ◌==◌, arith, append_assoc, append-nil}
use Rattle.std.proofs.lemmas.Bool.{eq-eqb, eqb-true}
use Rattle.c_meaning.specs.declared.run.Value.{Value}
use Rattle.c_meaning.specs.declared.run.Flow.{Flow}
use Rattle.c_syntax.specs.declared.tree.Ty.{Ty}
use Rattle.c_syntax.specs.declared.tree.Ty.TheVariants.{Int, Unsigned, Void}
use Rattle.c_syntax.specs.declared.tree.Stmt.{Stmt}
use Rattle.c_syntax.specs.declared.tree.GlobalVar.{GlobalVar}
use Rattle.c_syntax.specs.declared.tree.Param.{Param}
use Rattle.c_syntax.specs.declared.tree.Function.{Function}
use Rattle.c_meaning.specs.Operators.{is_unsigned_type, converted}
use Rattle.c_meaning.specs.Run.{Entry, Run, ◌>>=◌, ◌>>◌, pure, open_call, close_call}
use Rattle.c_syntax.specs.Graph.{has_body, body_of, statement_calls, body_calls}
use Rattle.c_meaning.specs.Meaning.{Calls, in_order, statement, bind, bound, call_result, in_body, constant, initial}
use Rattle.c_syntax.specs.Shaped.{each, form, is_shaped_statement, is_shaped_body, is_shaped_function, is_shaped_param, has_name}
use Rattle.check_rules.specs.declared.error.CheckKind.TheVariants.{NameTwice, PrototypeDiffers}
use Rattle.check_rules.specs.declared.decl.Decl.{Decl}
use Rattle.check_rules.specs.Fault.{require}
use Rattle.check_rules.specs.declared.names.Kind.{Kind}
use Rattle.check_rules.specs.declared.names.Kind.TheVariants.{Scalar as ScalarKind, Array as ArrayKind, Function as FunctionKind}
use Rattle.check_rules.specs.declared.names.Known.{Known}
use Rattle.check_rules.specs.declared.names.Binding.{Binding}
use Rattle.check_rules.specs.Scopes.{Scope, lookup, innermost_known, Walking, binding, enter_file, enter_block, entered}
use Rattle.check_rules.specs.Walk.{is_scalar, new_name, variable, walk_each, statement_walk, in_function, kind_of_shape, elements, global_decl, walk_global, same_type, same_types, is_among, param_types, function_decl, declared_again, walk_name, walk_param, walk_params, walk_body, with_body, walk_function}
use Rattle.check_law.proofs.Yields.{Yields, yields_ok, yields_err, yields_then, yields_after, required}
use Rattle.check_law.proofs.Sims.{Sims, sims_then, Equal}
use Rattle.check_law.proofs.Positions.{onto, stacked, Distinct, Below, below_more, not_in_below, distinct_rest, below_rest}
use Rattle.check_law.proofs.Cells.{Cell, binding_of, named, placed}
use Rattle.check_law.proofs.Holds.{Frames, Holds, Sub, sub_refl, Sound, sims_open_call, sims_close_call}
use Rattle.check_law.proofs.Unchanged.{and_true, initialisers_unchanged, shape_unchanged}
use Rattle.check_law.proofs.Calls.{Positions, no_names}
use Rattle.check_law.proofs.StatementRuns.{one_more, sound_entered, at_file_scope, Related, Left, ResolvedEach, of_statements, of_body}

-- ---- tests

pub not_there : (o : Option Known) → not (is_some o) ≡ true → o ≡ None
not_there None is = refl
not_there (Some d) is = absurd cc

pub same_type_is : (a b : Ty) → same_type a b ≡ true → a ≡ b
same_type_is Int Int is = refl
same_type_is Int Unsigned is = absurd cc
same_type_is Int Void is = absurd cc
same_type_is Unsigned Int is = absurd cc
same_type_is Unsigned Unsigned is = refl
same_type_is Unsigned Void is = absurd cc
same_type_is Void Int is = absurd cc
same_type_is Void Unsigned is = absurd cc
same_type_is Void Void is = refl

pub same_types_is : (as' bs : List Ty) → same_types as' bs ≡ true → as' ≡ bs
same_types_is [] [] is = refl
same_types_is [] (b ∷ bs) is = absurd cc
same_types_is (a ∷ as') [] is = absurd cc
same_types_is (a ∷ as') (b ∷ bs) is =
    let x = and_true (same_type a b) (same_types as' bs) is in
    let p = same_type_is a b x.0 in
    let q = same_types_is as' bs x.1 in cc

-- ---- the walk at file scope

-- between items no block is open
pub record AtFile (w : Walking) : Type 0 where
  pub sound : Sound w
  pub no_blocks : w.blocks ≡ []

distinct_under : (L : List Scope) (ps : List ℕ) → Distinct (stacked L ps) → Distinct ps
distinct_under [] ps x = x
distinct_under (s ∷ ss) ps x = distinct_under ss ps (distinct_rest s (stacked ss ps) x)

below_under : (n : ℕ) (L : List Scope) (ps : List ℕ) → Below n (stacked L ps) → Below n ps
below_under n [] ps x = x
below_under n (s ∷ ss) ps x = below_under n ss ps (below_rest n s (stacked ss ps) x)

-- the positions of the file differ
pub file_distinct : (w : Walking) → Sound w → Distinct (onto w.file [])
file_distinct w s = distinct_under w.blocks (onto w.file []) s.distinct

-- all blocks end
pub at_file : (w : Walking) (bodies : List ℕ) → Sound w → AtFile (record { file = w.file; blocks = []; decls = w.decls; bodies = bodies })
at_file w bodies s = record { sound = record { distinct = file_distinct w s; below = below_under (length w.decls) w.blocks (onto w.file []) s.below; variables = λ n d is. absurd cc }; no_blocks = refl }

no_variables : (w : Walking) → w.blocks ≡ [] → (n : ℕ) (d : Known) → innermost_known n w.blocks ≡ Some d → is_scalar d.kind ≡ true
no_variables w none n d is = let h = subst (λ L. innermost_known n L ≡ Some d) none is in absurd cc

pub file_entered : (n : ℕ) (k : Kind) (decl : Decl) (w : Walking) → AtFile w → AtFile (enter_file n k decl w)
file_entered n k decl w a =
    let e = one_more w.decls decl in
    let below : Below (length w.decls) (onto w.file []) = below_under (length w.decls) w.blocks (onto w.file []) a.sound.below in
    record {
      sound = record {
        distinct = subst (λ L. Distinct (stacked L (length w.decls ∷ onto w.file []))) (sym a.no_blocks) (not_in_below (length w.decls) (onto w.file []) below, file_distinct w a.sound);
        below = subst (λ L. Below (length (w.decls ++ decl ∷ [])) (stacked L (length w.decls ∷ onto w.file []))) (sym a.no_blocks) (omega (arith, e), below_more (length w.decls) (length (w.decls ++ decl ∷ [])) (onto w.file []) (omega (arith, e)) below);
        variables = no_variables w a.no_blocks;
      };
      no_blocks = a.no_blocks;
    }

pub sub_entered : (b : Binding) (file : Scope) → lookup b.name file ≡ None → Sub file (b ∷ file)
sub_entered b file none = record { at = λ m d is. at m d is (b.name == m) refl }
  where
    at : (m : ℕ) (d : Known) → lookup m file ≡ Some d → (t : Bool) → (b.name == m) ≡ t → lookup m (b ∷ file) ≡ Some d
    at m d is true same = let h : lookup b.name file ≡ Some d = ap (λ n. lookup n file) (eqb-true b.name m same) ∙ is in absurd cc
    at m d is false other = rw other is

pub lookup_entered : (n : ℕ) (d : Known) (file : Scope) → lookup n (record { name = n; known = d } ∷ file) ≡ Some d
lookup_entered n d file = let same : (n == n) ≡ true = eq-eqb n n refl in rw same refl

-- what the walk of an item does to the names at file scope
pub record FileOk (w : Walking) (w1 : Walking) : Type 0 where
  pub at_file : AtFile w1
  pub sub : Sub w.file w1.file

-- ---- variables at file scope

-- the same variable under its name and its position
pub record SameGlobal (F : Scope) (g g' : GlobalVar) : Type 0 where
  pub known : Known
  pub is : lookup g.name F ≡ Some known
  pub at : known.position ≡ g'.name
  pub object : initial g.shape (is_unsigned_type g.ty) (map constant g.first) ≡ initial g'.shape (is_unsigned_type g'.ty) (map constant g'.first)

pub record GlobalOk (w : Walking) (g : GlobalVar) (r : GlobalVar × Walking) : Type 0 where
  pub file : FileOk w r.1
  pub same : (F : Scope) → Distinct (onto F []) → Sub r.1.file F → SameGlobal F g r.0

pub of_global : (g : GlobalVar) (w : Walking) → AtFile w → Yields (walk_global g w) (GlobalOk w g)
of_global g w a =
    let k : Kind = kind_of_shape g.is_const g.shape in
    let w1 : Walking = enter_file g.name k (global_decl g) w in
    let a1 : AtFile w1 = file_entered g.name k (global_decl g) w a in
    yields_after {m = new_name (not (is_some (lookup g.name w.file))) g.at} (λ new.
    yields_then (shape_unchanged g.shape w1) (λ s' p.
    yields_after (λ long.
    yields_then (initialisers_unchanged (elements g.shape g.first) g.first w1) (λ es' q.
    yields_ok (record g { name = length w.decls; shape = s'; first = es' }, w1) (record {
      file = record { at_file = a1; sub = sub_entered _ w.file (not_there (lookup g.name w.file) (required (not (is_some (lookup g.name w.file))) NameTwice g.at new)) };
      same = λ F one sub. record {
        known = record { position = length w.decls; kind = k };
        is = sub.at g.name (record { position = length w.decls; kind = k }) (lookup_entered g.name (record { position = length w.decls; kind = k }) w.file);
        at = refl;
        object = ap (λ x. initial x (is_unsigned_type g.ty) (map constant g.first)) (sym p) ∙ ap (λ xs. initial s' (is_unsigned_type g.ty) (map constant xs)) (sym q);
      };
    })))))

-- ---- parameters

-- the parameters with their arguments, under names and under positions
pub record Binds (s : Scope) (ps ps' : List Param) (w1 : Walking) (args : List Value) : Type 0 where
  pub cells : List Cell
  pub blocks : w1.blocks ≡ (map binding_of cells ++ s) ∷ []
  pub left : bound ps args ≡ map named cells
  pub right : bound ps' args ≡ map placed cells

pub record ParamsOk (w : Walking) (s : Scope) (ps : List Param) (r : List Param × Walking) : Type 0 where
  pub sound : Sound r.1
  pub same_file : r.1.file ≡ w.file
  pub binds : (args : List Value) → length args ≡ length ps → Binds s ps r.0 r.1 args

-- one parameter
pub record ParamOk (w : Walking) (s : Scope) (p : Param) (r : Param × Walking) : Type 0 where
  pub scope : Scope
  pub sound : Sound r.1
  pub same_file : r.1.file ≡ w.file
  pub blocks : r.1.blocks ≡ scope ∷ []
  pub binds : (v : Value) → (cs : List Cell) × (scope ≡ map binding_of cs ++ s) × (bind p.name (is_unsigned_type p.ty) v ≡ map named cs) × (bind (r.0).name (is_unsigned_type (r.0).ty) v ≡ map placed cs)

of_param : (p : Param) (o : Option ℕ) → p.name ≡ o → (w : Walking) (s : Scope) → w.blocks ≡ s ∷ [] → Sound w → Yields (walk_param p o w) (ParamOk w s p)
of_param p None is w s blocks sound = yields_ok (p, w) (record {
  scope = s;
  sound = sound;
  same_file = refl;
  blocks = blocks;
  binds = λ v. ([], refl, ap (λ o. bind o (is_unsigned_type p.ty) v) is, ap (λ o. bind o (is_unsigned_type p.ty) v) is);
})
of_param p (Some n) is w s blocks sound =
    let b : Binding = binding n (ScalarKind p.is_const) w in
    yields_after (λ new. yields_ok (record p { name = Some (length w.decls) }, enter_block n (ScalarKind p.is_const) (variable p.ty p.is_const) w) (record {
      scope = b ∷ s;
      sound = sound_entered n p.is_const (variable p.ty p.is_const) w sound;
      same_file = refl;
      blocks = ap (entered b) blocks;
      binds = λ v. (record { name = n; known = b.known; value = converted (is_unsigned_type p.ty) v } ∷ [], refl, ap (λ o. bind o (is_unsigned_type p.ty) v) is, refl);
    }))

map_both : {A B : Type 0} (f : A → B) (xs ys : List A) → map f (xs ++ ys) ≡ map f xs ++ map f ys
map_both f [] ys = refl
map_both f (x ∷ xs) ys = ap (λ l. f x ∷ l) (map_both f xs ys)

pub of_params : (ps : List Param) (w : Walking) (s : Scope) → w.blocks ≡ s ∷ [] → Sound w → Yields (walk_params ps w) (ParamsOk w s ps)
of_params [] w s blocks sound = yields_ok ([], w) (record { sound = sound; same_file = refl; binds = λ args is. record { cells = []; blocks = blocks; left = refl; right = refl } })
of_params (p ∷ ps) w s blocks sound =
    yields_then (of_param p p.name refl w s blocks sound) (λ r1 ok. yields_then (of_params ps r1.1 ok.scope ok.blocks ok.sound) (λ r2 rest. yields_ok (r1.0 ∷ r2.0, r2.1) (record {
      sound = rest.sound;
      same_file = rest.same_file ∙ ok.same_file;
      binds = binds r1 ok r2 rest;
    })))
  where
    binds : (r1 : Param × Walking) (ok : ParamOk w s p r1) (r2 : List Param × Walking) → ParamsOk r1.1 ok.scope ps r2 → (args : List Value) → length args ≡ suc (length ps) → Binds s (p ∷ ps) (r1.0 ∷ r2.0) r2.1 args
    binds r1 ok r2 rest [] is = absurd (omega (arith, is))
    binds r1 ok r2 rest (v ∷ vs) is =
        let c = ok.binds v in
        let t = rest.binds vs (omega (arith, is)) in
        record {
          cells = t.cells ++ c.0;
          blocks = t.blocks ∙ ap (λ l. (map binding_of t.cells ++ l) ∷ []) c.1 ∙ ap (λ l. l ∷ []) (sym (append_assoc (map binding_of t.cells) (map binding_of c.0) s) ∙ ap (λ l. l ++ s) (sym (map_both binding_of t.cells c.0)));
          left = ap (λ l. l ++ bind p.name (is_unsigned_type p.ty) v) t.left ∙ ap (λ l. map named t.cells ++ l) c.2 ∙ sym (map_both named t.cells c.0);
          right = ap (λ l. l ++ bind (r1.0).name (is_unsigned_type (r1.0).ty) v) t.right ∙ ap (λ l. map placed t.cells ++ l) c.3 ∙ sym (map_both placed t.cells c.0);
        }

-- ---- functions

-- the same function under its name and its position
pub record SameFunction (F : Scope) (f f' : Function) : Type 0 where
  pub known : Known
  pub is : lookup f.name F ≡ Some known
  pub at : known.position ≡ f'.name
  pub kind : known.kind ≡ FunctionKind f.ty (param_types f.params)
  pub same_body : has_body f'.body ≡ has_body f.body
  pub returns : f'.ty ≡ f.ty
  pub calls : Positions (λ n. lookup n F) (body_calls f.body) (body_calls f'.body)
  pub runs : (one : Distinct (onto F [])) (functions functions' : Calls) → Related F one functions functions' → (args : List Value) → length args ≡ length f.params → (L : List Scope) → Sims (Holds F L) (in_body functions f args) (in_body functions' f' args) (Equal (Holds F L))

pub record FunctionOk (w : Walking) (f : Function) (r : Function × Walking) : Type 0 where
  pub file : FileOk w r.1
  pub same : (F : Scope) → Distinct (onto F []) → Sub r.1.file F → SameFunction F f r.0

-- the name
pub record NameOk (w : Walking) (f : Function) (r : ℕ × Walking) : Type 0 where
  pub file : FileOk w r.1
  pub known : Known
  pub is : lookup f.name r.1.file ≡ Some known
  pub at : known.position ≡ r.0
  pub kind : known.kind ≡ FunctionKind f.ty (param_types f.params)

of_again : (f : Function) (bodies : List ℕ) (position : ℕ) (k : Kind) → Yields (declared_again f bodies position k) (λ p. (p ≡ position) × (k ≡ FunctionKind f.ty (param_types f.params)))
of_again f bodies position (ScalarKind is_const) = yields_err _
of_again f bodies position (ArrayKind is_const) = yields_err _
of_again f bodies position (FunctionKind ty params) = yields_after {m = require (not (has_body f.body && is_among f.name bodies)) NameTwice f.at} (λ first. yields_after {m = require (same_type ty f.ty && same_types params (param_types f.params)) PrototypeDiffers f.at} (λ same.
    let x = and_true (same_type ty f.ty) (same_types params (param_types f.params)) (required (same_type ty f.ty && same_types params (param_types f.params)) PrototypeDiffers f.at same) in
    let p = same_type_is ty f.ty x.0 in
    let q = same_types_is params (param_types f.params) x.1 in
    yields_ok position (refl, cc)))

of_name : (has_body_named : ℕ → Bool) (f : Function) (o : Option Known) (w : Walking) → AtFile w → lookup f.name w.file ≡ o → Yields (walk_name has_body_named f o w) (NameOk w f)
of_name has_body_named f None w a is =
    let k : Kind = FunctionKind f.ty (param_types f.params) in
    let w1 : Walking = enter_file f.name k (function_decl has_body_named f) w in
    yields_ok (length w.decls, w1) (record {
      file = record { at_file = file_entered f.name k (function_decl has_body_named f) w a; sub = sub_entered _ w.file is };
      known = record { position = length w.decls; kind = k };
      is = lookup_entered f.name (record { position = length w.decls; kind = k }) w.file;
      at = refl;
      kind = refl;
    })
of_name has_body_named f (Some d) w a is = yields_then (of_again f w.bodies d.position d.kind) (λ position h. yields_ok (position, w) (record {
  file = record { at_file = a; sub = sub_refl w.file };
  known = d;
  is = is;
  at = sym h.0;
  kind = h.1;
}))

each_shaped : (body : List Stmt) → each is_shaped_statement body ≡ true → each (λ f. f.is_shaped) (map form body) ≡ true
each_shaped [] is = refl
each_shaped (c ∷ cs) is =
    let x = and_true (is_shaped_statement c) (each is_shaped_statement cs) is in
    let p = x.0 in
    let q = each_shaped cs x.1 in
    rw (p, q) refl

-- the body
pub record BodyOk (w : Walking) (body : Option (List Stmt)) (r : Option (List Stmt) × Walking) : Type 0 where
  pub sound : Sound r.1
  pub same_file : r.1.file ≡ w.file
  pub same_body : has_body r.0 ≡ has_body body
  pub does : (F : Scope) (one : Distinct (onto F [])) → Sub w.file F → (functions functions' : Calls) → Related F one functions functions' → Sims (Holds F w.blocks) (in_order (map (λ c. c functions) (map statement (body_of body)))) (in_order (map (λ c. c functions') (map statement (body_of r.0)))) (Left F one w.blocks)
  pub calls : (F : Scope) (one : Distinct (onto F [])) → Sub w.file F → Positions (at_file_scope F one) (body_calls body) (body_calls r.0)

flat_both : {A B : Type 0} (f : A → List B) (xs : List A) → flat_map (λ l. l) (map f xs) ≡ flat_map f xs
flat_both f [] = refl
flat_both f (x ∷ xs) = ap (λ l. f x ++ l) (flat_both f xs)

of_walk_body : (ty : Ty) (params : List Param) (body : Option (List Stmt)) (w : Walking) → Sound w → is_shaped_body params body ≡ true → Yields (walk_body ty body w) (BodyOk w body)
of_walk_body ty params None w sound shaped = yields_ok (None, w) (record { sound = sound; same_file = refl; same_body = refl; does = λ F one sub functions functions' r. record { by = λ s s' h. (refl, (w.blocks, refl, h)) }; calls = λ F one sub. no_names })
of_walk_body ty params (Some body) w sound shaped =
    let x = and_true (each (λ p. has_name p.name) params) (each is_shaped_statement body) shaped in
    let own : Yields (walk_each (map statement_walk body) (in_function ty) w) (ResolvedEach w.file (file_distinct w sound) w (map statement body) (map statement_calls body)) = of_statements w.file (file_distinct w sound) (of_body w.file (file_distinct w sound) body) (in_function ty) w sound (sub_refl w.file) (each_shaped body x.1) in
    yields_then {P = λ r. (r.1.file ≡ w.file) × Sound r.1 × ((F : Scope) (one : Distinct (onto F [])) → Sub w.file F → ResolvedEach F one w (map statement body) (map statement_calls body) r)}
    (record { if_ok = λ r is. let g = own.if_ok r is in (g.same_file, g.sound, λ F one sub. (of_statements F one (of_body F one body) (in_function ty) w sound sub (each_shaped body x.1)).if_ok r is) })
    (λ r g. yields_ok (Some r.0, r.1) (record { sound = g.1; same_file = g.0; same_body = refl; does = λ F one sub. (g.2 F one sub).does; calls = λ F one sub. subst (λ x. Positions (at_file_scope F one) x (body_calls (Some r.0))) (flat_both statement_calls body) (subst (Positions (at_file_scope F one) (flat_map (λ calls. calls) (map statement_calls body))) (flat_both statement_calls r.0) (g.2 F one sub).calls) }))

-- the scopes of a call, and what is left at its end
sims_body : (F : Scope) (one : Distinct (onto F [])) (L L' : List Scope) (entries entries' : List Entry) → Frames L' (entries ∷ []) (entries' ∷ []) → (u u' : Bool) → u ≡ u' → (m m' : Run Flow) → Sims (Holds F L') m m' (Left F one L') →
    Sims (Holds F L) (open_call entries >>= (λ scopes. m >>= (λ flow. close_call scopes >> pure (call_result u flow)))) (open_call entries' >>= (λ scopes. m' >>= (λ flow. close_call scopes >> pure (call_result u' flow)))) (Equal (Holds F L))
sims_body F one L L' entries entries' frames u u' same m m' p = sims_then (sims_open_call F L L' entries entries' frames) (λ c c'. record { by = λ s s' h. (body c c' h.0).by s s' h.1 })
  where
    close : (c c' : List (List Entry)) → Frames L c c' → (K : List Scope) (flow flow' : Flow) → flow ≡ flow' → Sims (Holds F K) (close_call c >> pure (call_result u flow)) (close_call c' >> pure (call_result u' flow')) (Equal (Holds F L))
    close c c' f K flow flow' is = sims_then {go = λ x. pure (call_result u flow)} {go' = λ x. pure (call_result u' flow')} {post = Equal (Holds F L)} (sims_close_call F L K c c' f) (λ x x'. record { by = λ s s' h. (ap (λ v. call_result v flow) same ∙ ap (call_result u') is, h) })

    body : (c c' : List (List Entry)) → Frames L c c' → Sims (Holds F L') (m >>= (λ flow. close_call c >> pure (call_result u flow))) (m' >>= (λ flow. close_call c' >> pure (call_result u' flow))) (Equal (Holds F L))
    body c c' f = sims_then {go = λ flow. close_call c >> pure (call_result u flow)} {go' = λ flow. close_call c' >> pure (call_result u' flow)} {post = Equal (Holds F L)} p (λ flow flow'. record { by = λ s s' h. (close c c' f h.1.0 flow flow' h.0).by s s' h.1.2 })

sub_along : {a b F : Scope} → a ≡ b → Sub a F → Sub b F
sub_along {F = F} e s = subst (λ x. Sub x F) e s

file_of_body : (f : Function) (w : Walking) → (with_body f w).file ≡ w.file
file_of_body f w = at (has_body f.body) refl
  where
    at : (b : Bool) → has_body f.body ≡ b → (with_body f w).file ≡ w.file
    at true is = rw is refl
    at false is = rw is refl

at_file_of_body : (f : Function) (w : Walking) → AtFile w → AtFile (with_body f w)
at_file_of_body f w a = at (has_body f.body) refl
  where
    at : (b : Bool) → has_body f.body ≡ b → AtFile (with_body f w)
    at true is = rw is (record { sound = record { distinct = a.sound.distinct; below = a.sound.below; variables = a.sound.variables }; no_blocks = a.no_blocks })
    at false is = rw is a

in_new_block : (w : Walking) → AtFile w → Sound (record w { blocks = [] ∷ [] })
in_new_block w a = record { distinct = file_distinct w a.sound; below = below_under (length w.decls) w.blocks (onto w.file []) a.sound.below; variables = λ n d is. absurd cc }

pub of_function : (has_body_named : ℕ → Bool) (f : Function) (w : Walking) → AtFile w → is_shaped_function f ≡ true → Yields (walk_function has_body_named f w) (FunctionOk w f)
of_function has_body_named f w a shaped =
    let x = and_true (each is_shaped_param f.params) (is_shaped_body f.params f.body) shaped in
    yields_then (of_name has_body_named f (lookup f.name w.file) w a refl) (λ r1 name.
    yields_then (of_params f.params (record r1.1 { blocks = [] ∷ [] }) [] refl (in_new_block r1.1 name.file.at_file)) (λ r2 params.
    yields_then (of_walk_body f.ty f.params f.body r2.1 params.sound x.1) (λ r3 body.
    let w3 : Walking = record r3.1 { blocks = [] } in
    let same : (with_body f w3).file ≡ r1.1.file = file_of_body f w3 ∙ body.same_file ∙ params.same_file in
    yields_ok (record f { name = r1.0; params = r2.0; body = r3.0 }, with_body f w3) (record {
      file = record { at_file = at_file_of_body f w3 (at_file r3.1 r3.1.bodies body.sound); sub = subst (Sub w.file) (sym same) name.file.sub };
      same = λ F one sub. record {
        known = name.known;
        is = sub.at f.name name.known (subst (λ file. lookup f.name file ≡ Some name.known) (sym same) name.is);
        at = name.at;
        kind = name.kind;
        same_body = body.same_body;
        returns = refl;
        calls = body.calls F one (sub_along (file_of_body f w3 ∙ body.same_file) sub);
        runs = λ one' functions functions' r args long L.
            let b = params.binds args long in
            sims_body F one' L r2.1.blocks (bound f.params args) (bound r2.0 args) (record { cells = b.cells ∷ []; scopes = ap (λ l. l ∷ []) (sym (append-nil (map binding_of b.cells))) ∙ sym b.blocks; left = ap (λ e. e ∷ []) b.left; right = ap (λ e. e ∷ []) b.right }) (is_unsigned_type f.ty) (is_unsigned_type f.ty) refl _ _ (body.does F one' (sub_along (file_of_body f w3 ∙ body.same_file) sub) functions functions' r);
      };
    }))))
