-- The walk of what the walk gives of the items of a program: it gives the same, and goes on from the same names with positions for names.
use Rattle.std.proofs.Common.{◌≡◌, ℕ, zero, suc, Bool, true, false, not, ◌&&◌, List, [], ◌∷◌, ◌++◌, map, length, Option, Some, None, is_some, Ok, refl, sym, ap, ◌∙◌, subst, ◌==◌, nat_le}
use Rattle.c_syntax.specs.declared.tree.Ty.{Ty}
use Rattle.c_syntax.specs.declared.tree.Expr.{Expr}
use Rattle.c_syntax.specs.declared.tree.Stmt.{Stmt}
use Rattle.c_syntax.specs.declared.tree.Shape.{Shape}
use Rattle.c_syntax.specs.declared.tree.Shape.TheVariants as shape
use Rattle.c_syntax.specs.declared.tree.GlobalVar.{GlobalVar}
use Rattle.c_syntax.specs.declared.tree.Param.{Param}
use Rattle.c_syntax.specs.declared.tree.Function.{Function}
use Rattle.c_syntax.specs.declared.tree.TopItem.{TopItem}
use Rattle.c_syntax.specs.declared.tree.TopItem.TheVariants as item
use Rattle.c_syntax.specs.Graph.{has_body}
use Rattle.check_rules.specs.declared.error.CheckKind.TheVariants.{NameTwice, PrototypeDiffers, BadLength}
use Rattle.check_rules.specs.declared.names.Kind.{Kind}
use Rattle.check_rules.specs.declared.names.Kind.TheVariants as kinds
use Rattle.check_rules.specs.declared.names.Known.{Known}
use Rattle.check_rules.specs.Fault.{Walk, ◌>>=◌, ◌>>◌, require}
use Rattle.check_rules.specs.Scopes.{Scope, lookup, Walking, binding, enter_file, enter_block, is_new, begun, ended}
use Rattle.check_rules.specs.Walk.{is_function, constant_part, new_name, variable, in_function, walk_initialisers, kind_of_shape, walk_shape, elements, most_elements, global_decl, walk_global, walk_globals, same_type, same_types, is_among, param_types, function_decl, declared_again, walk_name, walk_param, walk_params, walk_body, with_body, walk_function, walk_item, walk_items}
use Rattle.check_law.proofs.Yields.{Yields, yields_ok, yields_err, yields_then, yields_after, required}
use Rattle.check_law.proofs.Positions.{onto, Distinct}
use Rattle.check_law.proofs.Holds.{Sub, sub_refl, sub_trans}
use Rattle.check_law.proofs.Calls.{Positions, no_names, a_name, both_positions, along_positions}
use Rattle.check_law.proofs.ItemRuns.{not_there, sub_entered, lookup_entered}
use Rattle.check_law.proofs.ProgramRuns.{same_test, any_same}
use Rattle.check_law.proofs.Placed.{placed, again, Apart, found_again, distinct_under, apart_outside, apart_entered, apart_file, enter_block_again, new_again, new_file_again}
use Rattle.check_law.proofs.StatementAgain.{constant_again, Again, body_again}
use Rattle.check_law.proofs.StatementSizes.{AllScalars, scalars_entered, constant_same, SameBody, same_body}
use Rattle.c_syntax.specs.Sizes.{or_zero}
use Rattle.c_syntax.specs.Shaped.{has_name}
use Rattle.c_syntax.specs.Graph.{body_of}
use Rattle.c_syntax.specs.Costs.{call_cost, expression_cost, shape_cost}

-- ---- lengths and initialisers

pub record PartAgain {A : Type 0} (rerun : A → Walking → Walk A) (w : Walking) (a a' : A) : Type 0 where
  pub same : a' ≡ a
  pub by : (bs : List ℕ) → rerun a (again bs w) ≡ Ok a

constant_part_again : (w : Walking) → Apart w → (e : Expr) → Yields (constant_part e w) (PartAgain constant_part w e)
constant_part_again w a e = record { if_ok = λ e' is. let c = (constant_again w a e).if_ok e' is in record { same = c.same; by = λ bs. subst (λ x. constant_part x (again bs w) ≡ Ok x) c.same (c.by bs) } }

shape_again : (s : Shape) (w : Walking) → Apart w → Yields (walk_shape s w) (PartAgain walk_shape w s)
shape_again shape.Scalar w a = yields_ok shape.Scalar (record { same = refl; by = λ bs. refl })
shape_again (shape.Array None) w a = yields_ok (shape.Array None) (record { same = refl; by = λ bs. refl })
shape_again (shape.Array (Some e)) w a = yields_then (yields_then (constant_part_again w a e) (λ e' p. yields_ok {P = λ o. (o ≡ Some e) × ((bs : List ℕ) → constant_part e (again bs w) ≡ Ok e)} (Some e') (ap Some p.same, p.by))) (λ o p. yields_ok (shape.Array o) (record { same = ap shape.Array p.0; by = λ bs. let u = p.1 bs in rw u refl }))

initialisers_again : (room : ℕ) (es : List Expr) (w : Walking) → Apart w → Yields (walk_initialisers room es w) (PartAgain (walk_initialisers room) w es)
initialisers_again room [] w a = yields_ok [] (record { same = refl; by = λ bs. refl })
initialisers_again zero (e ∷ es) w a = yields_err _
initialisers_again (suc room) (e ∷ es) w a = yields_then (constant_part_again w a e) (λ e' p. yields_then (initialisers_again room es w a) (λ es' q. yields_ok (e' ∷ es') (record {
  same = ap (λ x. x ∷ es') p.same ∙ ap (λ xs. e ∷ xs) q.same;
  by = λ bs. let u = p.by bs in let v = q.by bs in rw (u, v) refl;
})))

-- ---- parameters

map_types : (p' p : Param) (ps' ps : List Param) → p'.ty ≡ p.ty → param_types ps' ≡ param_types ps → param_types (p' ∷ ps') ≡ param_types (p ∷ ps)
map_types p' p ps' ps e q = ap (λ t. t ∷ param_types ps') e ∙ ap (λ ts. p.ty ∷ ts) q

abbrev named_param : Param → Walking → Walk (Param × Walking)
named_param p w = walk_param p p.name w

param_again : (p : Param) (o : Option ℕ) → p.name ≡ o → (w : Walking) → Apart w → Yields (walk_param p o w) (λ r. Again named_param w r × ((r.0).ty ≡ p.ty))
param_again p None is w a = yields_ok (p, w) (record { apart = a; file = refl; bodies = refl; by = λ bs. ap (λ o. walk_param p o (again bs w)) is }, refl)
param_again p (Some n) is w a = yields_after {m = new_name (is_new n w.blocks) p.at} (λ new. yields_ok (record p { name = Some (length w.decls) }, enter_block n (kinds.Scalar p.is_const) (variable p.ty p.is_const) w) (
  record {
    apart = apart_entered n (kinds.Scalar p.is_const) (variable p.ty p.is_const) w a;
    file = refl;
    bodies = refl;
    by = λ bs. let f = new_again w a in let e = enter_block_again bs n (kinds.Scalar p.is_const) (variable p.ty p.is_const) w in rw f (ap (entered_param (record p { name = Some (length w.decls) })) e);
  },
  refl,
))
  where
    entered_param : Param → Walking → Walk (Param × Walking)
    entered_param p W = Ok (p, W)

params_again : (ps : List Param) (w : Walking) → Apart w → Yields (walk_params ps w) (λ r. Again walk_params w r × (param_types r.0 ≡ param_types ps))
params_again [] w a = yields_ok ([], w) (record { apart = a; file = refl; bodies = refl; by = λ bs. refl }, refl)
params_again (p ∷ ps) w a = yields_then (param_again p p.name refl w a) (λ r1 u. yields_then (params_again ps r1.1 u.0.apart) (λ r2 v. yields_ok (r1.0 ∷ r2.0, r2.1) (
  record {
    apart = v.0.apart;
    file = v.0.file ∙ u.0.file;
    bodies = v.0.bodies ∙ u.0.bodies;
    by = λ bs. let x = u.0.by bs in let y = v.0.by bs in rw (x, y) refl;
  },
  map_types r1.0 p r2.0 ps u.1 v.1,
)))

whole_body_again : (ty : Ty) (body : Option (List Stmt)) (w : Walking) → Apart w → Yields (walk_body ty body w) (λ r. Again (walk_body ty) w r × (has_body r.0 ≡ has_body body))
whole_body_again ty None w a = yields_ok (None, w) (record { apart = a; file = refl; bodies = refl; by = λ bs. refl }, refl)
whole_body_again ty (Some body) w a = yields_then (body_again body (in_function ty) w a) (λ r p. yields_ok (Some r.0, r.1) (record { apart = p.apart; file = p.file; bodies = p.bodies; by = λ bs. let u = p.by bs in rw u refl }, refl))

-- ---- items

abbrev in_file : Walking → ℕ → Option Known
in_file w = λ n. lookup n w.file

-- lists one to one
pub data Pairs {A : Type 0} (R : A → A → Type 0) : List A → List A → Type 0 where
  no_pair : Pairs R [] []
  a_pair : {a b : A} {as' bs : List A} → R a b → Pairs R as' bs → Pairs R (a ∷ as') (b ∷ bs)

-- an item walked again, with the positions of the functions whose bodies have come
pub record Goes {A : Type 0} (rerun : A → Walking → Walk (A × Walking)) (w : Walking) (r : A × Walking) (bs : List ℕ) : Type 0 where
  pub bodies : List ℕ
  pub positions : Positions (in_file r.1) (r.1).bodies bodies
  pub same : rerun r.0 (again bs w) ≡ Ok (r.0, again bodies r.1)

pub record ItemAgain {A : Type 0} (F : Scope) (R : A → A → Type 0) (rerun : A → Walking → Walk (A × Walking)) (w : Walking) (a : A) (r : A × Walking) : Type 0 where
  pub apart : Apart r.1
  pub no_blocks : (r.1).blocks ≡ []
  pub sub : Sub w.file (r.1).file
  pub like : Sub (r.1).file F → R a r.0
  pub by : Sub (r.1).file F → (bs : List ℕ) → Positions (in_file w) w.bodies bs → Goes rerun w r bs

-- ---- what an item and what the walk gives of it have in common

-- all but the name of a variable at file scope stays
pub record LikeGlobal (items items' : List TopItem) (g g' : GlobalVar) : Type 0 where
  pub ty : g'.ty ≡ g.ty
  pub shape : g'.shape ≡ g.shape
  pub first : g'.first ≡ g.first
  pub shape_cost : shape_cost items' g'.shape ≡ shape_cost items g.shape
  pub first_cost : map (expression_cost items') g'.first ≡ map (expression_cost items) g.first

pub record LikeFunction (F : Scope) (items items' : List TopItem) (f f' : Function) : Type 0 where
  pub known : Known
  pub is : lookup f.name F ≡ Some known
  pub at : known.position ≡ f'.name
  pub ty : f'.ty ≡ f.ty
  pub types : param_types f'.params ≡ param_types f.params
  pub named : map (λ p. has_name p.name) f'.params ≡ map (λ p. has_name p.name) f.params
  pub same_body : has_body f'.body ≡ has_body f.body
  pub content : SameBody items items' (body_of f.body) (body_of f'.body)

pub data LikeItem (F : Scope) (items items' : List TopItem) : TopItem → TopItem → Type 0 where
  like_globals : {gs gs' : List GlobalVar} → Pairs (LikeGlobal items items') gs gs' → LikeItem F items items' (item.Globals gs) (item.Globals gs')
  like_function : {f f' : Function} → LikeFunction F items items' f f' → LikeItem F items items' (item.Function f) (item.Function f')

-- ---- variables at file scope

abbrev long_enough : GlobalVar → Bool
long_enough g = nat_le 1 (elements g.shape g.first) && nat_le (elements g.shape g.first) most_elements

abbrev global_is : GlobalVar → ℕ → Walking → Shape → List Expr → Walk (GlobalVar × Walking)
global_is g p W s f = Ok (record g { name = p; shape = s; first = f }, W)

global_rest : (g : GlobalVar) (p : ℕ) (W : Walking) → walk_shape g.shape W ≡ Ok g.shape → long_enough g ≡ true → walk_initialisers (elements g.shape g.first) g.first W ≡ Ok g.first →
    (walk_shape g.shape W >>= (λ s. require (long_enough g) BadLength g.at >> (walk_initialisers (elements g.shape g.first) g.first W >>= global_is g p W s))) ≡ global_is g p W g.shape g.first
global_rest g p W a b c = rw (a, b, c) refl

abbrev global_again_is : GlobalVar → Walking → Walking → List ℕ → Shape → List Expr → Type 0
global_again_is g w w1 bs s f = walk_global (record g { name = length w.decls; shape = s; first = f }) (again bs w) ≡ Ok (record g { name = length w.decls; shape = s; first = f }, again bs w1)

module _ (F : Scope) (items items' : List TopItem) (calls : (n : ℕ) (d : Known) → lookup n F ≡ Some d → call_cost items' d.position ≡ call_cost items n) where
  same_costs : (room : ℕ) (es : List Expr) (w : Walking) → AllScalars w.blocks → Sub w.file F → Yields (walk_initialisers room es w) (λ es'. map (expression_cost items') es' ≡ map (expression_cost items) es)
  same_costs room [] w x sub = yields_ok [] refl
  same_costs zero (e ∷ es) w x sub = yields_err _
  same_costs (suc room) (e ∷ es) w x sub = yields_then (constant_same items items' F calls w x sub e) (λ e' s. yields_then (same_costs room es w x sub) (λ es' q. yields_ok (e' ∷ es') (ap (λ n. n ∷ map (expression_cost items') es') s.cost ∙ ap (λ ns. expression_cost items e ∷ ns) q)))

  same_shape_cost : (s : Shape) (w : Walking) → AllScalars w.blocks → Sub w.file F → Yields (walk_shape s w) (λ s'. shape_cost items' s' ≡ shape_cost items s)
  same_shape_cost shape.Scalar w x sub = yields_ok shape.Scalar refl
  same_shape_cost (shape.Array None) w x sub = yields_ok (shape.Array None) refl
  same_shape_cost (shape.Array (Some e)) w x sub = yields_then (yields_then (constant_same items items' F calls w x sub e) (λ e' s. yields_ok {P = λ o. or_zero (expression_cost items') o ≡ expression_cost items e} (Some e') s.cost)) (λ o p. yields_ok (shape.Array o) p)

  no_scalars : (w : Walking) → w.blocks ≡ [] → AllScalars w.blocks
  no_scalars w none = subst AllScalars (sym none) tt

  global_again : (g : GlobalVar) (w : Walking) → w.blocks ≡ [] → Apart w → Yields (walk_global g w) (ItemAgain F (LikeGlobal items items') walk_global w g)
  global_again g w none a =
      let k : Kind = kind_of_shape g.is_const g.shape in
      let w1 : Walking = enter_file g.name k (global_decl g) w in
      let a1 : Apart w1 = apart_file g.name k (global_decl g) w none a in
      yields_after {m = new_name (not (is_some (lookup g.name w.file))) g.at} (λ new.
      yields_then {P = λ s'. PartAgain walk_shape w1 g.shape s' × (Sub w1.file F → shape_cost items' s' ≡ shape_cost items g.shape)} (record { if_ok = λ s' is. ((shape_again g.shape w1 a1).if_ok s' is, λ within. (same_shape_cost g.shape w1 (no_scalars w1 none) within).if_ok s' is) }) (λ s' p.
      yields_after {m = require (long_enough g) BadLength g.at} (λ long.
      yields_then {P = λ es'. PartAgain (walk_initialisers (elements g.shape g.first)) w1 g.first es' × (Sub w1.file F → map (expression_cost items') es' ≡ map (expression_cost items) g.first)} (record { if_ok = λ es' is. ((initialisers_again (elements g.shape g.first) g.first w1 a1).if_ok es' is, λ within. (same_costs (elements g.shape g.first) g.first w1 (no_scalars w1 none) within).if_ok es' is) }) (λ es' q.
      let sub : Sub w.file w1.file = sub_entered (binding g.name k w) w.file (not_there (lookup g.name w.file) (required (not (is_some (lookup g.name w.file))) NameTwice g.at new)) in
      yields_ok (record g { name = length w.decls; shape = s'; first = es' }, w1) (record {
        apart = a1;
        no_blocks = none;
        sub = sub;
        like = λ within. record { ty = refl; shape = p.0.same; first = q.0.same; shape_cost = p.1 within; first_cost = q.1 within };
        by = λ within bs positions. record {
          bodies = bs;
          positions = along_positions (λ n d such is. sub.at n d is) positions;
          same =
              let f = new_file_again w a in
              let here : global_again_is g w w1 bs g.shape g.first = rw f (global_rest g (length w.decls) (again bs w1) (p.0.by bs) (required (long_enough g) BadLength g.at long) (q.0.by bs)) in
              subst (λ s. global_again_is g w w1 bs s es') (sym p.0.same) (subst (global_again_is g w w1 bs g.shape) (sym q.0.same) here);
        };
      })))))

  globals_again : (gs : List GlobalVar) (w : Walking) → w.blocks ≡ [] → Apart w → Yields (walk_globals gs w) (ItemAgain F (Pairs (LikeGlobal items items')) walk_globals w gs)
  globals_again [] w none a = yields_ok ([], w) (record { apart = a; no_blocks = none; sub = sub_refl w.file; like = λ within. no_pair; by = λ within bs positions. record { bodies = bs; positions = positions; same = refl } })
  globals_again (g ∷ gs) w none a = yields_then (global_again g w none a) (λ r1 p. yields_then (globals_again gs r1.1 p.no_blocks p.apart) (λ r2 q. yields_ok (r1.0 ∷ r2.0, r2.1) (record {
    apart = q.apart;
    no_blocks = q.no_blocks;
    sub = sub_trans p.sub q.sub;
    like = λ within. a_pair (p.like (sub_trans q.sub within)) (q.like within);
    by = λ within bs positions.
        let x = p.by (sub_trans q.sub within) bs positions in
        let y = q.by within x.bodies x.positions in
        let u = x.same in
        let v = y.same in
        record { bodies = y.bodies; positions = y.positions; same = rw (u, v) refl };
  })))

  -- ---- functions

  params_scalars : (ps : List Param) (w : Walking) → AllScalars w.blocks → Yields (walk_params ps w) (λ r. AllScalars (r.1).blocks × (map (λ p. has_name p.name) r.0 ≡ map (λ p. has_name p.name) ps))
  params_scalars [] w x = yields_ok ([], w) (x, refl)
  params_scalars (p ∷ ps) w x = yields_then (param_scalars p p.name refl w x) (λ r1 u. yields_then (params_scalars ps r1.1 u.0) (λ r2 v. yields_ok (r1.0 ∷ r2.0, r2.1) (v.0, ap (λ b. b ∷ map (λ p. has_name p.name) r2.0) u.1 ∙ ap (λ bs. has_name p.name ∷ bs) v.1)))
    where
      param_scalars : (p : Param) (o : Option ℕ) → p.name ≡ o → (w : Walking) → AllScalars w.blocks → Yields (walk_param p o w) (λ r. AllScalars (r.1).blocks × (has_name (r.0).name ≡ has_name p.name))
      param_scalars p None is w x = yields_ok (p, w) (x, refl)
      param_scalars p (Some n) is w x = yields_after {m = new_name (is_new n w.blocks) p.at} (λ new. yields_ok _ (scalars_entered n p.is_const w w.blocks x, sym (ap has_name is)))

  body_like : (ty : Ty) (body : Option (List Stmt)) (w : Walking) → AllScalars w.blocks → Yields (walk_body ty body w) (λ r. Sub w.file F → SameBody items items' (body_of body) (body_of r.0))
  body_like ty None w x = yields_ok (None, w) (λ sub. record { nodes = refl; forms = refl; temps = refl; locals = refl; cost = refl })
  body_like ty (Some body) w x = yields_then {P = λ r. Sub w.file F → SameBody items items' body r.0} (record { if_ok = λ r is sub. (same_body items items' F calls body (in_function ty) w x sub).if_ok r is }) (λ r p. yields_ok (Some r.0, r.1) p)

  module _ (hb hb' : ℕ → Bool) (agree : (n : ℕ) (d : Known) → lookup n F ≡ Some d → hb n ≡ hb' d.position) where
    record NameAgain (f : Function) (w : Walking) (r : ℕ × Walking) : Type 0 where
      apart : Apart r.1
      no_blocks : (r.1).blocks ≡ []
      sub : Sub w.file (r.1).file
      bodies : (r.1).bodies ≡ w.bodies
      known : Known
      is : lookup f.name (r.1).file ≡ Some known
      at : known.position ≡ r.0
      such : is_function known.kind ≡ true
      by : Sub (r.1).file F → (bs : List ℕ) → Positions (in_file w) w.bodies bs → (f' : Function) → f'.ty ≡ f.ty → f'.at ≡ f.at → f'.name ≡ r.0 → param_types f'.params ≡ param_types f.params → has_body f'.body ≡ has_body f.body →
          walk_name hb' f' (lookup f'.name (map placed w.file)) (again bs w) ≡ Ok (r.0, again bs r.1)

    new_name_again : (f f' : Function) (w : Walking) (bs : List ℕ) → f'.ty ≡ f.ty → f'.name ≡ length w.decls → param_types f'.params ≡ param_types f.params → hb' (length w.decls) ≡ hb f.name →
        walk_name hb' f' None (again bs w) ≡ Ok (length w.decls, again bs (enter_file f.name (kinds.Function f.ty (param_types f.params)) (function_decl hb f) w))
    new_name_again f f' w bs t n p h = rw (t, n, p, h) refl

    again_test : (f f' : Function) (bodies bs : List ℕ) (position : ℕ) (k : Kind) → is_among position bs ≡ is_among f.name bodies → f'.ty ≡ f.ty → f'.at ≡ f.at → f'.name ≡ position → param_types f'.params ≡ param_types f.params → has_body f'.body ≡ has_body f.body →
        declared_again f' bs position k ≡ declared_again f bodies position k
    again_test f f' bodies bs position (kinds.Scalar c) m t a n p b = ap (λ at. declared_scalar c at) a
      where
        declared_scalar : Bool → ℕ → Walk ℕ
        declared_scalar c at = require false NameTwice at >> Ok 0
    again_test f f' bodies bs position (kinds.Array c) m t a n p b = ap (λ at. require false NameTwice at >> Ok 0) a
    again_test f f' bodies bs position (kinds.Function ty params) m t a n p b = rw (t, a, n, p, b, m) refl

    again_name : (f : Function) (bodies : List ℕ) (position : ℕ) (k : Kind) → Yields (declared_again f bodies position k) (λ p. (p ≡ position) × (is_function k ≡ true) × (declared_again f bodies position k ≡ Ok position))
    again_name f bodies position k = record { if_ok = λ p is. same k p is }
      where
        same : (k : Kind) (p : ℕ) → declared_again f bodies position k ≡ Ok p → (p ≡ position) × (is_function k ≡ true) × (declared_again f bodies position k ≡ Ok position)
        same (kinds.Scalar c) p is = absurd cc
        same (kinds.Array c) p is = absurd cc
        same (kinds.Function ty params) p is =
            let q = (yields_after {m = require (not (has_body f.body && is_among f.name bodies)) NameTwice f.at} (λ first. yields_after {m = require (same_type ty f.ty && same_types params (param_types f.params)) PrototypeDiffers f.at} (λ second. yields_ok {P = λ p. p ≡ position} position refl))).if_ok p is in
            (q, refl, is ∙ ap Ok q)

    name_again : (f : Function) (o : Option Known) (w : Walking) → w.blocks ≡ [] → Apart w → lookup f.name w.file ≡ o → Yields (walk_name hb f o w) (NameAgain f w)
    name_again f None w none a is =
        let k : Kind = kinds.Function f.ty (param_types f.params) in
        let d : Known = record { position = length w.decls; kind = k } in
        yields_ok (length w.decls, enter_file f.name k (function_decl hb f) w) (record {
          apart = apart_file f.name k (function_decl hb f) w none a;
          no_blocks = none;
          sub = sub_entered (binding f.name k w) w.file is;
          bodies = refl;
          known = d;
          is = lookup_entered f.name d w.file;
          at = refl;
          such = refl;
          by = λ within bs positions f' t at n p b.
              let free = new_file_again w a in
              ap (λ m. walk_name hb' f' (lookup m (map placed w.file)) (again bs w)) n ∙ ap (λ o. walk_name hb' f' o (again bs w)) free
              ∙ new_name_again f f' w bs t n p (sym (agree f.name d (within.at f.name d (lookup_entered f.name d w.file))));
        })
    name_again f (Some d) w none a is =
        let one : Distinct (onto w.file []) = distinct_under w.blocks (onto w.file []) a.distinct in
        yields_then (again_name f w.bodies d.position d.kind) (λ position h. yields_ok (position, w) (record {
          apart = a;
          no_blocks = none;
          sub = sub_refl w.file;
          bodies = refl;
          known = d;
          is = is;
          at = sym h.0;
          such = h.1;
          by = λ within bs positions f' t at n p b.
              let found = found_again w.file [] f.name d one is in
              let among : is_among d.position bs ≡ is_among f.name w.bodies = sym (any_same w.file one (λ m. m == f.name) (λ m. m == d.position) (λ m e js. same_test w.file one f.name d is m e.position e js refl) positions) in
              let test = again_test f f' w.bodies bs d.position d.kind among t at (n ∙ h.0) p b in
              ap (λ m. walk_name hb' f' (lookup m (map placed w.file)) (again bs w)) (n ∙ h.0) ∙ ap (λ o. walk_name hb' f' o (again bs w)) found
              ∙ ap (λ m. m >>= again_position bs w) (test ∙ h.2) ∙ ap (again_position bs w) (sym h.0);
        }))
      where
        again_position : List ℕ → Walking → ℕ → Walk (ℕ × Walking)
        again_position bs w position = Ok (position, again bs w)

    abbrev function_is : Function → ℕ → List Param → Option (List Stmt) → Function
    function_is f p ps b = record f { name = p; params = ps; body = b }

    -- the body that has come
    come : (f f' : Function) (w w0 w3 : Walking) (bs : List ℕ) (known : Known) → lookup f.name w3.file ≡ Some known → is_function known.kind ≡ true → known.position ≡ f'.name → has_body f'.body ≡ has_body f.body → Positions (in_file w3) w3.bodies bs →
        (bs' : List ℕ) × Positions (in_file (with_body f (ended w3))) (with_body f (ended w3)).bodies bs' × (with_body f' (ended (again bs w3)) ≡ again bs' (with_body f (ended w3)))
    come f f' w w0 w3 bs known is such at b positions = by (has_body f.body) refl
      where
        by : (t : Bool) → has_body f.body ≡ t → (bs' : List ℕ) × Positions (in_file (with_body f (ended w3))) (with_body f (ended w3)).bodies bs' × (with_body f' (ended (again bs w3)) ≡ again bs' (with_body f (ended w3)))
        by true t =
            let t' : has_body f'.body ≡ true = b ∙ t in
            rw t (bs ++ known.position ∷ [], both_positions positions (a_name f.name known is such no_names), rw t' (ap (λ p. record { file = map placed w3.file; blocks = []; decls = w3.decls; bodies = bs ++ p ∷ [] }) (sym at)))
        by false t =
            let t' : has_body f'.body ≡ false = b ∙ t in
            rw t (bs, positions, rw t' refl)

    -- a function walked again
    function_again : (f : Function) (w : Walking) → w.blocks ≡ [] → Apart w → Yields (walk_function hb f w) (ItemAgain F (LikeFunction F items items') (walk_function hb') w f)
    function_again f w none a =
        yields_then (name_again f (lookup f.name w.file) w none a refl) (λ r1 n.
        yields_then {P = λ r2. (Again walk_params (begun r1.1) r2 × (param_types r2.0 ≡ param_types f.params)) × AllScalars (r2.1).blocks × (map (λ p. has_name p.name) r2.0 ≡ map (λ p. has_name p.name) f.params)}
        (record { if_ok = λ r2 is. let x = (params_again f.params (begun r1.1) (apart_outside r1.1 ([] ∷ []) (r1.1).bodies (λ ps. refl) n.apart)).if_ok r2 is in let y = (params_scalars f.params (begun r1.1) (tt, tt)).if_ok r2 is in (x, y.0, y.1) }) (λ r2 p3. let p = p3.0 in
        yields_then {P = λ r3. (Again (walk_body f.ty) r2.1 r3 × (has_body r3.0 ≡ has_body f.body)) × (Sub (r2.1).file F → SameBody items items' (body_of f.body) (body_of r3.0))}
        (record { if_ok = λ r3 is. ((whole_body_again f.ty f.body r2.1 p.0.apart).if_ok r3 is, (body_like f.ty f.body r2.1 p3.1).if_ok r3 is) }) (λ r3 b2. let b = b2.0 in
        let f' : Function = function_is f r1.0 r2.0 r3.0 in
        let file : (r3.1).file ≡ (r1.1).file = b.0.file ∙ p.0.file in
        let bodies : (r3.1).bodies ≡ w.bodies = b.0.bodies ∙ p.0.bodies ∙ n.bodies in
        let sub : Sub w.file (r3.1).file = subst (Sub w.file) (sym file) n.sub in
        yields_ok (f', with_body f (ended r3.1)) (record {
          apart = apart_with_body f (ended r3.1) (apart_outside r3.1 [] (r3.1).bodies (λ ps. refl) b.0.apart);
          no_blocks = no_blocks_after f r3.1;
          sub = subst (Sub w.file) (sym (file_after f r3.1)) sub;
          like = λ within.
              let within3 : Sub (r3.1).file F = subst (λ x. Sub x F) (file_after f r3.1) within in
              let within1 : Sub (r1.1).file F = subst (λ x. Sub x F) file within3 in
              record { known = n.known; is = within1.at f.name n.known n.is; at = n.at; ty = refl; types = p.1; named = p3.2; same_body = b.1; content = b2.1 (subst (λ x. Sub x F) (sym p.0.file) within1) };
          by = λ within bs positions.
              let within3 : Sub (r3.1).file F = subst (λ x. Sub x F) (file_after f r3.1) within in
              let within1 : Sub (r1.1).file F = subst (λ x. Sub x F) file within3 in
              let is3 : lookup f.name (r3.1).file ≡ Some n.known = ap (lookup f.name) file ∙ n.is in
              let old : Positions (in_file r3.1) (r3.1).bodies bs = subst (λ x. Positions (in_file r3.1) x bs) (sym bodies) (along_positions (λ m d such is. sub.at m d is) positions) in
              let c = come f f' w w r3.1 bs n.known is3 n.such n.at b.1 old in
              let x = n.by within1 bs positions f' refl refl refl p.1 b.1 in
              let y = p.0.by bs in
              let z = b.0.by bs in
              let e = c.2 in
              record { bodies = c.0; positions = c.1; same = function_rest f f' bs w r1.1 r2.1 r3.1 c.0 x y z e };
        }))))
      where
        apart_with_body : (f : Function) (w : Walking) → Apart w → Apart (with_body f w)
        apart_with_body f w a = at (has_body f.body) refl
          where
            at : (t : Bool) → has_body f.body ≡ t → Apart (with_body f w)
            at true t = rw t (record { distinct = a.distinct; below = a.below })
            at false t = rw t a

        file_after : (f : Function) (w : Walking) → (with_body f (ended w)).file ≡ w.file
        file_after f w = at (has_body f.body) refl
          where
            at : (t : Bool) → has_body f.body ≡ t → (with_body f (ended w)).file ≡ w.file
            at true t = rw t refl
            at false t = rw t refl

        no_blocks_after : (f : Function) (w : Walking) → (with_body f (ended w)).blocks ≡ []
        no_blocks_after f w = at (has_body f.body) refl
          where
            at : (t : Bool) → has_body f.body ≡ t → (with_body f (ended w)).blocks ≡ []
            at true t = rw t refl
            at false t = rw t refl

        function_rest : (f f' : Function) (bs : List ℕ) (w w1 w2 w3 : Walking) (bs' : List ℕ) →
            walk_name hb' f' (lookup f'.name (map placed w.file)) (again bs w) ≡ Ok (f'.name, again bs w1) →
            walk_params f'.params (again bs (begun w1)) ≡ Ok (f'.params, again bs w2) →
            walk_body f'.ty f'.body (again bs w2) ≡ Ok (f'.body, again bs w3) →
            with_body f' (ended (again bs w3)) ≡ again bs' (with_body f (ended w3)) →
            walk_function hb' f' (again bs w) ≡ Ok (f', again bs' (with_body f (ended w3)))
        function_rest f f' bs w w1 w2 w3 bs' x y z e = rw (x, y, z) (ap (λ W. done f' W) e)
          where
            done : Function → Walking → Walk (Function × Walking)
            done f' W = Ok (f', W)

    item_again : (i : TopItem) (w : Walking) → w.blocks ≡ [] → Apart w → Yields (walk_item hb i w) (ItemAgain F (LikeItem F items items') (walk_item hb') w i)
    item_again (item.Globals gs) w none a = yields_then (globals_again gs w none a) (λ r p. yields_ok (item.Globals r.0, r.1) (record { apart = p.apart; no_blocks = p.no_blocks; sub = p.sub; like = λ within. like_globals (p.like within); by = λ within bs positions. let x = p.by within bs positions in let u = x.same in record { bodies = x.bodies; positions = x.positions; same = rw u refl } }))
    item_again (item.Function f) w none a = yields_then (function_again f w none a) (λ r p. yields_ok (item.Function r.0, r.1) (record { apart = p.apart; no_blocks = p.no_blocks; sub = p.sub; like = λ within. like_function (p.like within); by = λ within bs positions. let x = p.by within bs positions in let u = x.same in record { bodies = x.bodies; positions = x.positions; same = rw u refl } }))

    pub items_again : (is : List TopItem) (w : Walking) → w.blocks ≡ [] → Apart w → Yields (walk_items hb is w) (ItemAgain F (Pairs (LikeItem F items items')) (walk_items hb') w is)
    items_again [] w none a = yields_ok ([], w) (record { apart = a; no_blocks = none; sub = sub_refl w.file; like = λ within. no_pair; by = λ within bs positions. record { bodies = bs; positions = positions; same = refl } })
    items_again (i ∷ is) w none a = yields_then (item_again i w none a) (λ r1 p. yields_then (items_again is r1.1 p.no_blocks p.apart) (λ r2 q. yields_ok (r1.0 ∷ r2.0, r2.1) (record {
      apart = q.apart;
      no_blocks = q.no_blocks;
      sub = sub_trans p.sub q.sub;
      like = λ within. a_pair (p.like (sub_trans q.sub within)) (q.like within);
      by = λ within bs positions.
          let x = p.by (sub_trans q.sub within) bs positions in
          let y = q.by within x.bodies x.positions in
          let u = x.same in
          let v = y.same in
          record { bodies = y.bodies; positions = y.positions; same = rw (u, v) refl };
    })))
