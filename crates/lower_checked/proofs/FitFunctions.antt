-- A function that the walk leaves as it is has parameters of their own, and its body fits.
use Rattle.std.proofs.Common.{◌≡◌, ℕ, ◌<◌, ◌≤◌, Bool, true, false, not, ◌&&◌, List, [], ◌∷◌, ◌++◌, map, flat_map, length, Option, Some, None, refl, sym, ap, ◌∙◌, subst, ◌==◌, arith, append_assoc, append-nil}
use Rattle.std.specs.List.{list_all}
use Rattle.std.proofs.lemmas.Bool.{eqb-true, ne_eqb}
use Rattle.c_syntax.specs.declared.tree.Ty.{Ty}
use Rattle.c_syntax.specs.declared.tree.Stmt.{Stmt}
use Rattle.c_syntax.specs.declared.tree.Param.{Param}
use Rattle.c_syntax.specs.declared.tree.Function.{Function}
use Rattle.c_meaning.specs.Operators.{is_unsigned_type}
use Rattle.c_syntax.specs.Graph.{has_body, body_of}
use Rattle.c_syntax.specs.Shaped.{each, form, is_shaped_statement, has_name}
use Rattle.c_syntax.specs.Literals.{all_true, statement_literals}
use Rattle.check_rules.specs.declared.error.CheckKind.TheVariants.{NameTwice, PrototypeDiffers}
use Rattle.check_rules.specs.declared.names.Kind.{Kind}
use Rattle.check_rules.specs.declared.names.Kind.TheVariants.{Scalar, Array, Function as FunctionKind}
use Rattle.check_rules.specs.declared.names.Known.{Known}
use Rattle.check_rules.specs.Fault.{require}
use Rattle.check_rules.specs.Scopes.{Scope, lookup, Walking, binding, enter_file, enter_block, is_new, begun, ended}
use Rattle.check_rules.specs.Limits.{joined, statement_calls}
use Rattle.check_rules.specs.Walk.{is_scalar, is_array as is_array_kind, is_function, takes_kind, returns_void_kind, new_name, variable, is_among, in_function, walk_each, statement_walk, same_type, same_types, param_types, function_decl, declared_again, walk_name, walk_param, walk_params, walk_body, with_body, walk_function}
use Rattle.check_law.proofs.Yields.{Yields, yields_ok, yields_err, yields_then, yields_after, required}
use Rattle.check_law.proofs.Unchanged.{and_true}
use Rattle.check_law.proofs.Holds.{Sub, sub_refl, sub_trans}
use Rattle.check_law.proofs.ItemRuns.{same_type_is, same_types_is, sub_entered, lookup_entered}
use Rattle.mid_blocks.specs.Lines.{one_or_none}
use Rattle.lower_rules.specs.Bindings.{GlobalShape, Callee, NoFunction, find_shape, callee_void, callee_takes}
use Rattle.lower_rules.specs.Scoping.{in_scope, are_apart, is_word, is_array, fitting_statement, list_fits}
use Rattle.lower_rules.specs.Scoping as low
use Rattle.lower_rules.specs.Programs.{Variable, param_variable, param_variables, declared, returns_value, some_of}
use Rattle.lower_rules.specs.Fitting.{param_names, has_own_params}
use Rattle.lower_checked.proofs.Ascends.{Ascends, ascends_both, ascends_le, variable_name, HeldEach, held_both, held_all, not_held}
use Rattle.lower_checked.proofs.FitExpressions.{passes}
use Rattle.lower_checked.proofs.CheckedFitsInside.{bindings, scopes_of, MeantFile, Inside, inside_entered, one_more, scopes_entered}
use Rattle.lower_checked.proofs.FitStatements.{ListFacts, body_fits}
use Rattle.lower_checked.proofs.FitGlobals.{NamesBelow, name_below, names_more, AtFile, at_file_entered, ShownFile}

-- ---- the name

pub record NameFacts (f : Function) (w r : Walking) : Type 0 where
  pub at_file : AtFile w → AtFile r
  pub sub : Sub w.file r.file
  pub from : length w.decls ≤ length r.decls
  pub shown : (shapes : List GlobalShape) → ShownFile shapes w.file → ShownFile shapes r.file
  pub known : Known
  pub is : lookup f.name r.file ≡ Some known
  pub kind : known.kind ≡ FunctionKind f.ty (param_types f.params)
  pub no_in_word : AtFile w → (f.name == 0 && has_body f.body) ≡ false
  pub no_out_word : AtFile w → (f.name == 1 && has_body f.body) ≡ false

-- a name with a body isn't one of those whose bodies have come
record AgainFacts (f : Function) (bodies : List ℕ) (k : Kind) : Type 0 where
  kind : k ≡ FunctionKind f.ty (param_types f.params)
  new_body : (has_body f.body && is_among f.name bodies) ≡ false

not_true : (b : Bool) → not b ≡ true → b ≡ false
not_true true is = absurd cc
not_true false is = refl

again_facts : (f : Function) (bodies : List ℕ) (position : ℕ) (k : Kind) → Yields (declared_again f bodies position k) (λ p. AgainFacts f bodies k)
again_facts f bodies position (Scalar is_const) = yields_err _
again_facts f bodies position (Array is_const) = yields_err _
again_facts f bodies position (FunctionKind ty params) = yields_after {m = require (not (has_body f.body && is_among f.name bodies)) NameTwice f.at} (λ first. yields_after {m = require (same_type ty f.ty && same_types params (param_types f.params)) PrototypeDiffers f.at} (λ same.
    let x = and_true (same_type ty f.ty) (same_types params (param_types f.params)) (required (same_type ty f.ty && same_types params (param_types f.params)) PrototypeDiffers f.at same) in
    let p = same_type_is ty f.ty x.0 in
    let q = same_types_is params (param_types f.params) x.1 in
    yields_ok position (record { kind = cc; new_body = not_true (has_body f.body && is_among f.name bodies) (required (not (has_body f.body && is_among f.name bodies)) NameTwice f.at first) })))

-- a name whose body is there before the text has none in it
no_such_body : (f : Function) (bodies : List ℕ) (n : ℕ) → is_among n bodies ≡ true → (has_body f.body && is_among f.name bodies) ≡ false → (f.name == n && has_body f.body) ≡ false
no_such_body f bodies n among new = at (f.name == n) (has_body f.body) refl refl
  where
    at : (t h : Bool) → (f.name == n) ≡ t → has_body f.body ≡ h → (f.name == n && has_body f.body) ≡ false
    at true true same b =
        let a : is_among f.name bodies ≡ true = subst (λ m. is_among m bodies ≡ true) (sym (eqb-true f.name n same)) among in
        let h = rw (b, a) at new in
        absurd cc
    at true false same b = rw (same, b) refl
    at false h other b = rw other refl

-- a new name is none that is in force
no_such_name : (f : Function) (file : Scope) (n : ℕ) (d : Known) → lookup n file ≡ Some d → lookup f.name file ≡ None → (f.name == n && has_body f.body) ≡ false
no_such_name f file n d is none = at (f.name == n) refl
  where
    at : (t : Bool) → (f.name == n) ≡ t → (f.name == n && has_body f.body) ≡ false
    at true same = let e : lookup f.name file ≡ Some d = subst (λ m. lookup m file ≡ Some d) (sym (eqb-true f.name n same)) is in absurd cc
    at false other = rw other refl

name_fits : (hb : ℕ → Bool) (f : Function) (o : Option Known) (w : Walking) → lookup f.name w.file ≡ o → Yields (walk_name hb f o w) (λ r. r.0 ≡ f.name → NameFacts f w r.1)
name_fits hb f None w none =
    let k : Kind = FunctionKind f.ty (param_types f.params) in
    yields_ok (length w.decls, enter_file f.name k (function_decl hb f) w) (λ is.
    let e = one_more [] w.decls (function_decl hb f) in
    record {
      at_file = λ a. at_file_entered f.name k (function_decl hb f) w (sym is) a;
      sub = sub_entered (binding f.name k w) w.file none;
      from = omega (arith, e);
      shown = λ shapes s. (record { scalar = λ t. absurd cc; array = λ t. absurd cc }, s);
      known = record { position = length w.decls; kind = k };
      is = lookup_entered f.name (record { position = length w.decls; kind = k }) w.file;
      kind = refl;
      no_in_word = λ a. no_such_name f w.file 0 _ a.in_word none;
      no_out_word = λ a. no_such_name f w.file 1 _ a.out_word none;
    })
name_fits hb f (Some d) w found = yields_then (again_facts f w.bodies d.position d.kind) (λ position h. yields_ok (position, w) (λ is. record {
  at_file = λ a. a;
  sub = sub_refl w.file;
  from = omega arith;
  shown = λ shapes s. s;
  known = d;
  is = found;
  kind = h.kind;
  no_in_word = λ a. no_such_body f w.bodies 0 a.in_body h.new_body;
  no_out_word = λ a. no_such_body f w.bodies 1 a.out_body h.new_body;
}))

-- ---- parameters

abbrev AllBelow : ℕ → List ℕ → Type 0
AllBelow hi [] = Unit {0}
AllBelow hi (n ∷ ns) = (n < hi) × AllBelow hi ns

below_one_more : (hi hi' n : ℕ) (ns : List ℕ) → hi ≤ hi' → n < hi' → AllBelow hi ns → AllBelow hi' (ns ++ n ∷ [])
below_one_more hi hi' n [] le lt x = (lt, tt)
below_one_more hi hi' n (m ∷ ns) le lt x = (omega (arith, le, x.0), below_one_more hi hi' n ns le lt x.1)

not_below : (hi n : ℕ) (ns : List ℕ) → hi ≤ n → AllBelow hi ns → in_scope n ns ≡ false
not_below hi n [] le x = refl
not_below hi n (m ∷ ns) le x = let other : (m == n) ≡ false = ne_eqb m n (λ e. omega (arith, le, x.0, e)) in rw other (not_below hi n ns le x.1)

abbrev names_of : List Param → List (Option ℕ)
names_of ps = map (λ (p : Param). p.name) ps

pub record ParamsFacts (ps : List Param) (w r : Walking) : Type 0 where
  pub same_file : r.file ≡ w.file
  pub same_bodies : r.bodies ≡ w.bodies
  pub ascends : Ascends variable_name (length w.decls) (param_variables ps) (length r.decls)
  pub scopes : (s : List ℕ) → scopes_of w.blocks ≡ s ∷ [] → scopes_of r.blocks ≡ (param_names ps ++ s) ∷ []
  pub inside : (variables : List Variable) → HeldEach variables (param_variables ps) → Inside variables w.file w → Inside variables w.file r
  pub apart : (seen : List ℕ) → AllBelow (length w.decls) seen → each (λ (p : Param). has_name p.name) ps ≡ true → are_apart seen (names_of ps) ≡ true

param_first : (p : Param) (ps : List Param) (n : ℕ) (w r : Walking) → p.name ≡ Some n → n ≡ length w.decls → ParamsFacts ps (enter_block n (Scalar p.is_const) (variable p.ty p.is_const) w) r → ParamsFacts (p ∷ ps) w r
param_first p ps n w r is at x =
    let w1 : Walking = enter_block n (Scalar p.is_const) (variable p.ty p.is_const) w in
    let e = one_more [] w.decls (variable p.ty p.is_const) in
    let v : Variable = record { name = n; is_unsigned = is_unsigned_type p.ty } in
    let vs : param_variables (p ∷ ps) ≡ v ∷ param_variables ps = ap (λ o. param_variable o (is_unsigned_type p.ty) ++ param_variables ps) is in
    let ns : param_names (p ∷ ps) ≡ param_names ps ++ n ∷ [] = ap (λ o. param_names ps ++ one_or_none o) is in
    record {
      same_file = x.same_file;
      same_bodies = x.same_bodies;
      ascends = subst (λ l. Ascends variable_name (length w.decls) l (length r.decls)) (sym vs) (ascends_both variable_name (length w.decls) (v ∷ []) (length w1.decls) (param_variables ps) (length r.decls) (omega (arith, at), omega (arith, at, e)) x.ascends);
      scopes = λ s one.
          let z : scopes_of w1.blocks ≡ (n ∷ s) ∷ [] = scopes_entered (binding n (Scalar p.is_const) w) w.blocks ∙ ap (low.with_name n) one in
          x.scopes (n ∷ s) z ∙ ap (λ l. l ∷ []) (sym (append_assoc (param_names ps) (n ∷ []) s) ∙ ap (λ l. l ++ s) (sym ns));
      inside = λ variables held i.
          let h : HeldEach variables (v ∷ param_variables ps) = subst (HeldEach variables) vs held in
          x.inside variables h.1 (inside_entered variables w.file n p.is_const (variable p.ty p.is_const) w at h.0.variable i);
      apart = λ seen below named.
          let t : each (λ (p : Param). has_name p.name) ps ≡ true = (and_true (has_name p.name) (each (λ (p : Param). has_name p.name) ps) named).1 in
          let u : in_scope n seen ≡ false = not_below (length w.decls) n seen (omega (arith, at)) below in
          let rest = x.apart (seen ++ n ∷ []) (below_one_more (length w.decls) (length w1.decls) n seen (omega (arith, e)) (omega (arith, at, e)) below) t in
          rw (is, u) rest;
    }

param_none : (p : Param) (ps : List Param) (w r : Walking) → p.name ≡ None → ParamsFacts ps w r → ParamsFacts (p ∷ ps) w r
param_none p ps w r is x =
    let vs : param_variables (p ∷ ps) ≡ param_variables ps = ap (λ o. param_variable o (is_unsigned_type p.ty) ++ param_variables ps) is in
    let ns : param_names (p ∷ ps) ≡ param_names ps ++ [] = ap (λ o. param_names ps ++ one_or_none o) is in
    record {
      same_file = x.same_file;
      same_bodies = x.same_bodies;
      ascends = subst (λ l. Ascends variable_name (length w.decls) l (length r.decls)) (sym vs) x.ascends;
      scopes = λ s one. x.scopes s one ∙ ap (λ l. (l ++ s) ∷ []) (sym (append-nil (param_names ps)) ∙ sym ns);
      inside = λ variables held i. x.inside variables (subst (HeldEach variables) vs held) i;
      apart = λ seen below named. let t = (and_true (has_name p.name) (each (λ (p : Param). has_name p.name) ps) named).0 in let h : has_name None ≡ true = subst (λ o. has_name o ≡ true) is t in absurd cc;
    }

-- what one parameter declares
data Stepped (p : Param) (w : Walking) (r : Param × Walking) : Type 0 where
  nameless : p.name ≡ None → r.1 ≡ w → Stepped p w r
  named : (n : ℕ) → p.name ≡ Some n → (r.0 ≡ p → n ≡ length w.decls) → r.1 ≡ enter_block n (Scalar p.is_const) (variable p.ty p.is_const) w → Stepped p w r

param_step : (p : Param) (o : Option ℕ) (w : Walking) → p.name ≡ o → Yields (walk_param p o w) (Stepped p w)
param_step p None w is = yields_ok (p, w) (nameless is refl)
param_step p (Some n) w is = yields_after {m = new_name (is_new n w.blocks) p.at} (λ new. yields_ok (record p { name = Some (length w.decls) }, enter_block n (Scalar p.is_const) (variable p.ty p.is_const) w) (named n is (λ same.
    let e : Some (length w.decls) ≡ Some n = ap (λ (z : Param). z.name) same ∙ is in
    cc) refl))

params_from : (p : Param) (ps : List Param) (w : Walking) (r1 : Param × Walking) (r : Walking) → Stepped p w r1 → r1.0 ≡ p → ParamsFacts ps r1.1 r → ParamsFacts (p ∷ ps) w r
params_from p ps w r1 r (nameless is e) same x = param_none p ps w r is (subst (λ z. ParamsFacts ps z r) e x)
params_from p ps w r1 r (named n is at e) same x = param_first p ps n w r is (at same) (subst (λ z. ParamsFacts ps z r) e x)

params_fit : (ps : List Param) (w : Walking) → Yields (walk_params ps w) (λ r. r.0 ≡ ps → ParamsFacts ps w r.1)
params_fit [] w = yields_ok ([], w) (λ is. record { same_file = refl; same_bodies = refl; ascends = omega arith; scopes = λ s one. one; inside = λ variables held i. i; apart = λ seen below named. refl })
params_fit (p ∷ ps) w = yields_then (param_step p p.name w refl) (λ r1 st. yields_then (params_fit ps r1.1) (λ r2 q. yields_ok (r1.0 ∷ r2.0, r2.1) (λ same. params_from p ps w r1 r2.1 st (cc) (q cc))))

-- ---- the body

-- what a name at file scope stands for in lowering is what its declaration says
pub record MeantScope (shapes : List GlobalShape) (callee : ℕ → Callee) (known : ℕ → Bool) (file : Scope) : Type 0 where
  pub scalar : (n : ℕ) (d : Known) → lookup n file ≡ Some d → is_scalar d.kind ≡ true → is_word (find_shape n shapes) ≡ true
  pub array : (n : ℕ) (d : Known) → lookup n file ≡ Some d → is_array_kind d.kind ≡ true → is_array (find_shape n shapes) ≡ true
  pub void : (n : ℕ) (d : Known) → lookup n file ≡ Some d → is_function d.kind ≡ true → known n ≡ true → callee_void (callee n) ≡ returns_void_kind d.kind
  pub takes : (n : ℕ) (d : Known) (count : ℕ) → lookup n file ≡ Some d → known n ≡ true → takes_kind count d.kind ≡ true → callee_takes (callee n) count ≡ true

meant_apart : (variables : List Variable) (shapes : List GlobalShape) (callee : ℕ → Callee) (known : ℕ → Bool) (file F : Scope) (lo hi : ℕ) → Sub file F → MeantScope shapes callee known F → NamesBelow lo file → Ascends variable_name lo variables hi → MeantFile variables shapes callee known file
meant_apart variables shapes callee known file F lo hi sub m below asc = record {
  apart = λ n d is. not_held n 0 variables lo hi (name_below lo n d file below is) asc;
  scalar = λ n d is such. m.scalar n d (sub.at n d is) such;
  array = λ n d is such. m.array n d (sub.at n d is) such;
  void = λ n d is such k. m.void n d (sub.at n d is) such k;
  takes = λ n d count is k such. m.takes n d count (sub.at n d is) k such;
}

-- without names
no_names : MeantFile [] [] (λ n. NoFunction) (λ n. false) []
no_names = record { apart = λ n d is. refl; scalar = λ n d is such. absurd cc; array = λ n d is such. absurd cc; void = λ n d is such k. absurd cc; takes = λ n d count is k such. absurd cc }

flat_map_map : {A B : Type 0} (f : A → List B) (xs : List A) → flat_map (λ l. l) (map f xs) ≡ flat_map f xs
flat_map_map f [] = refl
flat_map_map f (x ∷ xs) = ap (λ l. f x ++ l) (flat_map_map f xs)

all_true_map : {A : Type 0} (f : A → Bool) (xs : List A) → all_true (map f xs) ≡ list_all f xs
all_true_map f [] = refl
all_true_map f (x ∷ xs) = ap (λ l. f x && l) (all_true_map f xs)

forms_map : (cs : List Stmt) → each (λ c. c.is_shaped) (map form cs) ≡ each is_shaped_statement cs
forms_map [] = refl
forms_map (c ∷ cs) = ap (λ l. (form c).is_shaped && l) (forms_map cs)

-- what stands around a body in lowering
abbrev around_body : List Stmt → low.Around
around_body cs = record { breaks = false; continues = false; returns = some_of (map returns_value cs) }

abbrev variables_as : List Param → Option (List Stmt) → List Variable
variables_as params body = param_variables params ++ flat_map declared (body_of body)

-- a body fits where its parameters are in force
abbrev pub BodyFits : List GlobalShape → (ℕ → Callee) → List Param → Option (List Stmt) → Type 0
BodyFits shapes callee params body = list_fits (map (fitting_statement (bindings (variables_as params body) shapes callee)) (body_of body)) (around_body (body_of body)) (param_names params ∷ []) ≡ true

-- what is asked of a body
pub record GoodBody (known : ℕ → Bool) (params : List Param) (body : Option (List Stmt)) : Type 0 where
  pub named : each (λ (p : Param). has_name p.name) params ≡ true
  pub shaped : each is_shaped_statement (body_of body) ≡ true
  pub literals : list_all statement_literals (body_of body) ≡ true
  pub all_known : each (passes known) (joined (map statement_calls (body_of body))) ≡ true

record BodyFacts (params : List Param) (body : Option (List Stmt)) (w1 w2 r : Walking) : Type 0 where
  same_file : r.file ≡ w2.file
  same_bodies : r.bodies ≡ w2.bodies
  from : length w2.decls ≤ length r.decls
  fits : AtFile w1 → ParamsFacts params (begun w1) w2 → (shapes : List GlobalShape) (callee : ℕ → Callee) (known : ℕ → Bool) (F : Scope) → Sub w1.file F → MeantScope shapes callee known F → GoodBody known params body → BodyFits shapes callee params body

-- the facts on the statements of a body, whatever the names stand for
record EachFacts (ty : Ty) (cs : List Stmt) (w r : Walking) : Type 0 where
  facts : (variables : List Variable) (shapes : List GlobalShape) (callee : ℕ → Callee) (known : ℕ → Bool) (file : Scope) (meant : MeantFile variables shapes callee known file) (returning : Bool) → ListFacts variables shapes callee known file meant returning (in_function ty) w r cs

statements_fit : (ty : Ty) (cs : List Stmt) (w : Walking) → Yields (walk_each (map statement_walk cs) (in_function ty) w) (λ r. r.0 ≡ cs → EachFacts ty cs w r.1)
statements_fit ty cs w = record { if_ok = λ r is same. record { facts = λ variables shapes callee known file meant returning. (body_fits variables shapes callee known file meant returning cs (in_function ty) w).if_ok r is same } }

body_fit : (ty : Ty) (params : List Param) (cs : List Stmt) (w1 w2 r : Walking) → EachFacts ty cs w2 r → AtFile w1 → ParamsFacts params (begun w1) w2 → (shapes : List GlobalShape) (callee : ℕ → Callee) (known : ℕ → Bool) (F : Scope) → Sub w1.file F → MeantScope shapes callee known F → GoodBody known params (Some cs) → BodyFits shapes callee params (Some cs)
body_fit ty params cs w1 w2 r x a p shapes callee known F sub m g =
    let V : List Variable = variables_as params (Some cs) in
    let returning : Bool = some_of (map returns_value cs) in
    let flat : flat_map (λ l. l) (map declared cs) ≡ flat_map declared cs = flat_map_map declared cs in
    let y = x.facts [] [] (λ n. NoFunction) (λ n. false) [] no_names returning in
    let asc' : Ascends variable_name (length w2.decls) (flat_map declared cs) (length r.decls) = subst (λ l. Ascends variable_name (length w2.decls) l (length r.decls)) flat y.ascends in
    let asc : Ascends variable_name (length w1.decls) V (length r.decls) = ascends_both variable_name (length w1.decls) (param_variables params) (length w2.decls) (flat_map declared cs) (length r.decls) p.ascends asc' in
    let held = held_both V (param_variables params) (flat_map declared cs) (held_all V (length w1.decls) (length r.decls) asc) in
    let meant : MeantFile V shapes callee known w1.file = meant_apart V shapes callee known w1.file F (length w1.decls) (length r.decls) sub m a.below asc in
    let i1 : Inside V w1.file (begun w1) = record { same_file = refl; blocks = (tt, tt) } in
    let i2 : Inside V w1.file w2 = p.inside V held.0 i1 in
    let z = x.facts V shapes callee known w1.file meant returning in
    let rest = z.rest i2 (record {
      held = subst (HeldEach V) (sym flat) held.1;
      shape = forms_map cs ∙ g.shaped;
      good = record { words = all_true_map statement_literals cs ∙ g.literals; all_known = g.all_known };
      gave = λ t. t;
    }) in
    let scopes : scopes_of w2.blocks ≡ param_names params ∷ [] = p.scopes [] refl ∙ ap (λ l. l ∷ []) (append-nil (param_names params)) in
    subst (λ s. list_fits (map (fitting_statement (bindings V shapes callee)) cs) (around_body cs) s ≡ true) scopes
    (rest.fit (around_body cs) (record { breaks = λ t. absurd cc; continues = λ t. absurd cc; returns = refl; void = λ t. z.no_value t }))

whole_body : (ty : Ty) (params : List Param) (body : Option (List Stmt)) (w1 w2 : Walking) → Yields (walk_body ty body w2) (λ r. r.0 ≡ body → BodyFacts params body w1 w2 r.1)
whole_body ty params None w1 w2 = yields_ok (None, w2) (λ is. record { same_file = refl; same_bodies = refl; from = omega arith; fits = λ a p shapes callee known F sub m g. refl })
whole_body ty params (Some cs) w1 w2 = yields_then (statements_fit ty cs w2) (λ r q. yields_ok (Some r.0, r.1) (λ is.
    let x = q cc in
    let y = x.facts [] [] (λ n. NoFunction) (λ n. false) [] no_names false in
    record {
      same_file = y.same_file;
      same_bodies = y.same_bodies;
      from = ascends_le variable_name (length w2.decls) (flat_map (λ l. l) (map declared cs)) (length (r.1).decls) y.ascends;
      fits = body_fit ty params cs w1 w2 r.1 x;
    }))

-- ---- the function (6.9.1)

pub record FunctionFits (F : Scope) (f : Function) : Type 0 where
  pub known : Known
  pub is : lookup f.name F ≡ Some known
  pub kind : known.kind ≡ FunctionKind f.ty (param_types f.params)
  pub no_in_word : (f.name == 0 && has_body f.body) ≡ false
  pub no_out_word : (f.name == 1 && has_body f.body) ≡ false
  pub own_params : each (λ (p : Param). has_name p.name) f.params ≡ true → has_own_params f ≡ true
  pub fits : (shapes : List GlobalShape) (callee : ℕ → Callee) (known : ℕ → Bool) (F' : Scope) → Sub F F' → MeantScope shapes callee known F' → GoodBody known f.params f.body → BodyFits shapes callee f.params f.body

pub fits_later : (F F' : Scope) (f : Function) → Sub F F' → FunctionFits F f → FunctionFits F' f
fits_later F F' f sub x = record {
  known = x.known;
  is = sub.at f.name x.known x.is;
  kind = x.kind;
  no_in_word = x.no_in_word;
  no_out_word = x.no_out_word;
  own_params = x.own_params;
  fits = λ shapes callee known G within. x.fits shapes callee known G (sub_trans sub within);
}

pub record FunctionFacts (f : Function) (w r : Walking) : Type 0 where
  pub at_file : AtFile w → AtFile r
  pub sub : Sub w.file r.file
  pub from : length w.decls ≤ length r.decls
  pub shown : (shapes : List GlobalShape) → ShownFile shapes w.file → ShownFile shapes r.file
  pub fits : AtFile w → FunctionFits r.file f

among_more : (n m : ℕ) (ns : List ℕ) → is_among n ns ≡ true → is_among n (ns ++ m ∷ []) ≡ true
among_more n m [] is = absurd cc
among_more n m (k ∷ ns) is = at (k == n) refl (λ h. among_more n m ns h)
  where
    at : (t : Bool) → (k == n) ≡ t → (is_among n ns ≡ true → is_among n (ns ++ m ∷ []) ≡ true) → is_among n (k ∷ (ns ++ m ∷ [])) ≡ true
    at true same go = rw same refl
    at false other go = let h = rw other at is in rw other (go h)

at_file_outside : (w r : Walking) → r.file ≡ w.file → r.bodies ≡ w.bodies → length w.decls ≤ length r.decls → AtFile w → AtFile (ended r)
at_file_outside w r file bodies le a = record {
  no_blocks = refl;
  below = subst (NamesBelow (length r.decls)) (sym file) (names_more (length w.decls) (length r.decls) w.file le a.below);
  in_word = ap (lookup 0) file ∙ a.in_word;
  out_word = ap (lookup 1) file ∙ a.out_word;
  in_body = ap (is_among 0) bodies ∙ a.in_body;
  out_body = ap (is_among 1) bodies ∙ a.out_body;
}

at_file_with_body : (f : Function) (w : Walking) → AtFile w → AtFile (with_body f w)
at_file_with_body f w a = at (has_body f.body) refl
  where
    at : (t : Bool) → has_body f.body ≡ t → AtFile (with_body f w)
    at true t = rw t (record { no_blocks = a.no_blocks; below = a.below; in_word = a.in_word; out_word = a.out_word; in_body = among_more 0 f.name w.bodies a.in_body; out_body = among_more 1 f.name w.bodies a.out_body })
    at false t = rw t a

file_after : (f : Function) (w : Walking) → (with_body f w).file ≡ w.file
file_after f w = at (has_body f.body) refl
  where
    at : (t : Bool) → has_body f.body ≡ t → (with_body f w).file ≡ w.file
    at true t = rw t refl
    at false t = rw t refl

decls_after : (f : Function) (w : Walking) → (with_body f w).decls ≡ w.decls
decls_after f w = at (has_body f.body) refl
  where
    at : (t : Bool) → has_body f.body ≡ t → (with_body f w).decls ≡ w.decls
    at true t = rw t refl
    at false t = rw t refl

pub function_fits : (hb : ℕ → Bool) (f : Function) (w : Walking) → Yields (walk_function hb f w) (λ r. r.0 ≡ f → FunctionFacts f w r.1)
function_fits hb f w =
    yields_then (name_fits hb f (lookup f.name w.file) w refl) (λ r1 n'. yields_then (params_fit f.params (begun r1.1)) (λ r2 p'. yields_then (whole_body f.ty f.params f.body r1.1 r2.1) (λ r3 b'.
    yields_ok (record f { name = r1.0; params = r2.0; body = r3.0 }, with_body f (ended r3.1)) (λ is.
    let n = n' (ap (λ (x : Function). x.name) is) in
    let p = p' (ap (λ (x : Function). x.params) is) in
    let b = b' (ap (λ (x : Function). x.body) is) in
    let file : (r3.1).file ≡ (r1.1).file = b.same_file ∙ p.same_file in
    let bodies : (r3.1).bodies ≡ (r1.1).bodies = b.same_bodies ∙ p.same_bodies in
    let le : length (r1.1).decls ≤ length (r2.1).decls = ascends_le variable_name (length (r1.1).decls) (param_variables f.params) (length (r2.1).decls) p.ascends in
    let after : (with_body f (ended r3.1)).file ≡ (r1.1).file = file_after f (ended r3.1) ∙ file in
    let decls : length (with_body f (ended r3.1)).decls ≡ length (r3.1).decls = ap length (decls_after f (ended r3.1)) in
    let le3 : length (r1.1).decls ≤ length (r3.1).decls = omega (arith, le, b.from) in
    record {
      at_file = λ a. at_file_with_body f (ended r3.1) (at_file_outside r1.1 r3.1 file bodies le3 (n.at_file a));
      sub = subst (Sub w.file) (sym after) n.sub;
      from = omega (arith, n.from, le3, decls);
      shown = λ shapes s. subst (ShownFile shapes) (sym after) (n.shown shapes s);
      fits = λ a. subst (λ s. FunctionFits s f) (sym after) (record {
        known = n.known;
        is = n.is;
        kind = n.kind;
        no_in_word = n.no_in_word a;
        no_out_word = n.no_out_word a;
        own_params = λ named. p.apart [] tt named;
        fits = b.fits (n.at_file a) p;
      });
    }))))
