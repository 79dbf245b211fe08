-- The limits of a program whose names are positions are those of the program with names.
use Rattle.std.proofs.Common.{◌≡◌, ℕ, zero, suc, ◌+◌, Bool, true, false, ◌&&◌, List, [], ◌∷◌, ◌++◌, map, sum, filter, find, flat_map, length, Option, Some, None, is_some, refl, sym, ap, ◌∙◌, if◌then◌else◌, ◌==◌}
use Rattle.std.specs.List.{list_any}
use Rattle.std.proofs.lemmas.List.{length-map}
use Rattle.c_syntax.specs.declared.tree.Ty.TheVariants.{Int}
use Rattle.c_syntax.specs.declared.tree.Stmt.{Stmt}
use Rattle.c_syntax.specs.declared.tree.GlobalVar.{GlobalVar}
use Rattle.c_syntax.specs.declared.tree.Param.{Param}
use Rattle.c_syntax.specs.declared.tree.Function.{Function}
use Rattle.c_syntax.specs.declared.tree.TopItem.{TopItem}
use Rattle.c_syntax.specs.Sizes.{greatest, or_zero, global_nodes, body_nodes, function_nodes, item_nodes}
use Rattle.c_syntax.specs.Shaped.{each, is_value_type, is_shaped_global, is_shaped_param, is_shaped_body, is_shaped_function, is_shaped_item, is_shaped_statement, has_name, form}
use Rattle.c_syntax.specs.Costs.{statement_locals, statement_temps, function_weight, expression_cost, body_cost, shape_cost, global_cost, item_cost}
use Rattle.c_syntax.specs.Graph.{functions, function_named, defines, has_body, body_of, body_calls, callees, leads, is_recursive}
use Rattle.check_rules.specs.declared.names.Known.{Known}
use Rattle.check_rules.specs.Scopes.{Scope, lookup}
use Rattle.check_rules.specs.Walk.{same_type, param_types, elements, has_body_in}
use Rattle.check_rules.specs.Limits.{bodies, is_main, weight_named, chain_in, chain, reaches, item_pairs, global_pairs}
use Rattle.check_law.proofs.Positions.{onto, Distinct}
use Rattle.check_law.proofs.Calls.{Positions, no_names, a_name, both_positions}
use Rattle.check_law.proofs.ItemRuns.{SameFunction}
use Rattle.check_law.proofs.ProgramRuns.{SameItems, items_none, items_also, same_globals, same_function, SameNamed, named_none, named_some, same_named, same_test, same_calls, same_leads, same_recursive, same_count}
use Rattle.check_law.proofs.StatementSizes.{SameBody}
use Rattle.check_law.proofs.ItemAgain.{Pairs, no_pair, a_pair, LikeGlobal, LikeFunction, LikeItem, like_globals, like_function}

-- ---- lists one to one

pub map_pairs : {A B : Type 0} {R : A → A → Type 0} (f f' : A → B) → ((a a' : A) → R a a' → f' a' ≡ f a) → {xs ys : List A} → Pairs R xs ys → map f' ys ≡ map f xs
map_pairs f f' same no_pair = refl
map_pairs f f' same (a_pair {a = a} {b = b} {as' = xs} {bs = ys} r rest) = ap (λ x. x ∷ map f' ys) (same a b r) ∙ ap (λ l. f a ∷ l) (map_pairs f f' same rest)

pub each_pairs : {A : Type 0} {R : A → A → Type 0} (t t' : A → Bool) → ((a a' : A) → R a a' → t' a' ≡ t a) → {xs ys : List A} → Pairs R xs ys → each t' ys ≡ each t xs
each_pairs t t' same no_pair = refl
each_pairs t t' same (a_pair {a = a} {b = b} {as' = xs} {bs = ys} r rest) = ap (λ x. x && each t' ys) (same a b r) ∙ ap (λ x. t a && x) (each_pairs t t' same rest)

pub filter_pairs : {A : Type 0} {R : A → A → Type 0} (t t' : A → Bool) → ((a a' : A) → R a a' → t' a' ≡ t a) → {xs ys : List A} → Pairs R xs ys → Pairs R (filter t xs) (filter t' ys)
filter_pairs t t' same no_pair = no_pair
filter_pairs {R = R} t t' same (a_pair {a = a} {b = b} {as' = xs} {bs = ys} r rest) = at (t a) refl (filter_pairs t t' same rest)
  where
    at : (o : Bool) → t a ≡ o → Pairs R (filter t xs) (filter t' ys) → Pairs R (filter t (a ∷ xs)) (filter t' (b ∷ ys))
    at true e go = let e' : t' b ≡ true = same a b r ∙ e in rw (e, e') (a_pair r go)
    at false e go = let e' : t' b ≡ false = same a b r ∙ e in rw (e, e') go

pub find_pairs : {A : Type 0} {R : A → A → Type 0} (t t' : A → Bool) → ((a a' : A) → R a a' → t' a' ≡ t a) → {xs ys : List A} → Pairs R xs ys → find t xs ≡ None → find t' ys ≡ None
find_pairs t t' same no_pair is = refl
find_pairs t t' same (a_pair {a = a} {b = b} {as' = xs} {bs = ys} r rest) is = at (t a) refl (find_pairs t t' same rest)
  where
    at : (o : Bool) → t a ≡ o → (find t xs ≡ None → find t' ys ≡ None) → find t' (b ∷ ys) ≡ None
    at true e go = let h = rw e at is in absurd cc
    at false e go = let h = rw e at is in let e' : t' b ≡ false = same a b r ∙ e in let r = go h in rw (e', r) refl

pub both_pairs : {A : Type 0} {R : A → A → Type 0} {xs ys xs' ys' : List A} → Pairs R xs ys → Pairs R xs' ys' → Pairs R (xs ++ xs') (ys ++ ys')
both_pairs no_pair q = q
both_pairs (a_pair r rest) q = a_pair r (both_pairs rest q)

each_map : {A B : Type 0} (f : A → B) (t : B → Bool) (xs : List A) → each (λ x. t (f x)) xs ≡ each t (map f xs)
each_map f t [] = refl
each_map f t (x ∷ xs) = ap (λ b. t (f x) && b) (each_map f t xs)

count_params : (ps' ps : List Param) → param_types ps' ≡ param_types ps → length ps' ≡ length ps
count_params ps' ps same = sym (length-map ps' (λ p. p.ty)) ∙ ap length same ∙ length-map ps (λ p. p.ty)

abbrev pub weight_or_zero : Option Function → ℕ
weight_or_zero o = elim o [ None ↦ 0 | Some f ↦ function_weight f ]

-- ---- of an item alone

module _ (F : Scope) (items items' : List TopItem) where
  abbrev Global : GlobalVar → GlobalVar → Type 0
  Global = LikeGlobal items items'

  abbrev Fun : Function → Function → Type 0
  Fun = LikeFunction F items items'

  shaped_global : (g g' : GlobalVar) → Global g g' → is_shaped_global g' ≡ is_shaped_global g
  shaped_global g g' l = let t = l.ty in let s = l.shape in let f = l.first in rw (t, s, f) refl

  shaped_body : (ps ps' : List Param) (b b' : Option (List Stmt)) → map (λ p. has_name p.name) ps' ≡ map (λ p. has_name p.name) ps → has_body b' ≡ has_body b → SameBody items items' (body_of b) (body_of b') → is_shaped_body ps' b' ≡ is_shaped_body ps b
  shaped_body ps ps' None None n same c = refl
  shaped_body ps ps' None (Some b') n same c = absurd cc
  shaped_body ps ps' (Some b) None n same c = absurd cc
  shaped_body ps ps' (Some b) (Some b') n same c =
      let p : each (λ p. has_name p.name) ps' ≡ each (λ p. has_name p.name) ps = each_map (λ p. has_name p.name) (λ b. b) ps' ∙ ap (each (λ b. b)) n ∙ sym (each_map (λ p. has_name p.name) (λ b. b) ps) in
      let q : each is_shaped_statement b' ≡ each is_shaped_statement b = each_map form (λ f. f.is_shaped) b' ∙ ap (each (λ f. f.is_shaped)) c.forms ∙ sym (each_map form (λ f. f.is_shaped) b) in
      ap (λ x. x && each is_shaped_statement b') p ∙ ap (λ x. each (λ p. has_name p.name) ps && x) q

  shaped_function : (f f' : Function) → Fun f f' → is_shaped_function f' ≡ is_shaped_function f
  shaped_function f f' l =
      let p : each is_shaped_param f'.params ≡ each is_shaped_param f.params = each_map (λ p. p.ty) is_value_type f'.params ∙ ap (each is_value_type) l.types ∙ sym (each_map (λ p. p.ty) is_value_type f.params) in
      ap (λ x. x && is_shaped_body f'.params f'.body) p ∙ ap (λ x. each is_shaped_param f.params && x) (shaped_body f.params f'.params f.body f'.body l.named l.same_body l.content)

  shaped_item : (i i' : TopItem) → LikeItem F items items' i i' → is_shaped_item i' ≡ is_shaped_item i
  shaped_item _ _ (like_globals gs) = each_pairs is_shaped_global is_shaped_global shaped_global gs
  shaped_item _ _ (like_function {f = f} {f' = f'} l) = shaped_function f f' l

  pub shaped_again : {is is' : List TopItem} → Pairs (LikeItem F items items') is is' → each is_shaped_item is' ≡ each is_shaped_item is
  shaped_again ps = each_pairs is_shaped_item is_shaped_item shaped_item ps

  nodes_global : (g g' : GlobalVar) → Global g g' → global_nodes g' ≡ global_nodes g
  nodes_global g g' l = let s = l.shape in let f = l.first in rw (s, f) refl

  nodes_function : (ps ps' : List Param) (b b' : Option (List Stmt)) → length ps' ≡ length ps → has_body b' ≡ has_body b → SameBody items items' (body_of b) (body_of b') → function_nodes b' ps' ≡ function_nodes b ps
  nodes_function ps ps' None None n same c = ap (λ k. 1 + k) n
  nodes_function ps ps' None (Some b') n same c = absurd cc
  nodes_function ps ps' (Some b) None n same c = absurd cc
  nodes_function ps ps' (Some b) (Some b') n same c = ap (λ k. 6 + k + body_nodes b') n ∙ ap (λ ns. 6 + length ps + sum ns) c.nodes

  nodes_item : (i i' : TopItem) → LikeItem F items items' i i' → item_nodes i' ≡ item_nodes i
  nodes_item _ _ (like_globals gs) = ap (λ ns. 1 + sum ns) (map_pairs global_nodes global_nodes nodes_global gs)
  nodes_item _ _ (like_function {f = f} {f' = f'} l) = nodes_function f.params f'.params f.body f'.body (count_params f'.params f.params l.types) l.same_body l.content

  pub nodes_again : {is is' : List TopItem} → Pairs (LikeItem F items items') is is' → sum (map item_nodes is') ≡ sum (map item_nodes is)
  nodes_again ps = ap sum (map_pairs item_nodes item_nodes nodes_item ps)

  pub same_weight : (f f' : Function) → Fun f f' → function_weight f' ≡ function_weight f
  same_weight f f' l =
      ap (λ n. 1 + n + sum (map statement_locals (body_of f'.body)) + greatest (map statement_temps (body_of f'.body))) (count_params f'.params f.params l.types)
      ∙ ap (λ ns. 1 + length f.params + sum ns + greatest (map statement_temps (body_of f'.body))) l.content.locals
      ∙ ap (λ ns. 1 + length f.params + sum (map statement_locals (body_of f.body)) + greatest ns) l.content.temps

  cost_global : (g g' : GlobalVar) → Global g g' → global_cost items' g' ≡ global_cost items g
  cost_global g g' l = ap (λ n. n + sum (map (expression_cost items') g'.first)) l.shape_cost ∙ ap (λ ns. shape_cost items g.shape + sum ns) l.first_cost

  cost_body : (b b' : Option (List Stmt)) → has_body b' ≡ has_body b → SameBody items items' (body_of b) (body_of b') → or_zero (body_cost items') b' ≡ or_zero (body_cost items) b
  cost_body None None same c = refl
  cost_body None (Some b') same c = absurd cc
  cost_body (Some b) None same c = absurd cc
  cost_body (Some b) (Some b') same c = ap (λ ns. 4 + sum ns) c.cost

  cost_item : (i i' : TopItem) → LikeItem F items items' i i' → item_cost items' i' ≡ item_cost items i
  cost_item _ _ (like_globals gs) = ap sum (map_pairs (global_cost items) (global_cost items') cost_global gs)
  cost_item _ _ (like_function {f = f} {f' = f'} l) = cost_body f.body f'.body l.same_body l.content

  pub cost_again : {is is' : List TopItem} → Pairs (LikeItem F items items') is is' → 2 + sum (map (item_cost items') is') ≡ 2 + sum (map (item_cost items) is)
  cost_again ps = ap (λ ns. 2 + sum ns) (map_pairs (item_cost items) (item_cost items') cost_item ps)

  elements_same : (g g' : GlobalVar) → Global g g' → elements g'.shape g'.first ≡ elements g.shape g.first
  elements_same g g' l = ap (λ s. elements s g'.first) l.shape ∙ ap (elements g.shape) l.first

  pairs_item : (i i' : TopItem) → LikeItem F items items' i i' → item_pairs i' ≡ item_pairs i
  pairs_item _ _ (like_globals gs) = ap sum (map_pairs (λ g. elements g.shape g.first) (λ g. elements g.shape g.first) elements_same gs)
  pairs_item _ _ (like_function l) = refl

  pub pairs_again : {is is' : List TopItem} → Pairs (LikeItem F items items') is is' → global_pairs is' ≡ global_pairs is
  pairs_again ps = ap sum (map_pairs item_pairs item_pairs pairs_item ps)

  pub functions_again : {is is' : List TopItem} → Pairs (LikeItem F items items') is is' → Pairs Fun (functions is) (functions is')
  functions_again no_pair = no_pair
  functions_again (a_pair (like_globals gs) rest) = functions_again rest
  functions_again (a_pair (like_function l) rest) = a_pair l (functions_again rest)

  pub bodies_again : {is is' : List TopItem} → Pairs (LikeItem F items items') is is' → Pairs Fun (bodies is) (bodies is')
  bodies_again ps = filter_pairs (λ f. has_body f.body) (λ f. has_body f.body) (λ f f' l. l.same_body) (functions_again ps)

-- ---- with the functions that a name designates

module _ (F : Scope) (one : Distinct (onto F [])) where
  pub defines_same : {is is' : List TopItem} → SameItems F is is' → (n : ℕ) (d : Known) → lookup n F ≡ Some d → list_any (defines d.position) is' ≡ list_any (defines n) is
  defines_same items_none n d k = refl
  defines_same (items_also (same_globals s) more) n d k = defines_same more n d k
  defines_same (items_also {is = is} {is' = is'} (same_function {f = f} {f' = f'} s) more) n d k =
      let t = same_test F one n d k f.name f'.name s.known s.is s.at in
      let b = s.same_body in
      let r = defines_same more n d k in
      rw (← t, b, r) refl

  pub has_body_same : {is is' : List TopItem} → SameItems F is is' → (n : ℕ) (d : Known) → lookup n F ≡ Some d → has_body_in is n ≡ has_body_in is' d.position
  has_body_same {is = is} {is' = is'} same n d k = at (same_named F one same n d k)
    where
      at : {o o' : Option Function} → SameNamed F one n o o' → is_some o ≡ is_some o'
      at named_none = refl
      at (named_some s e) = refl

  pub sames : {is is' : List TopItem} → SameItems F is is' → Pairs (SameFunction F) (functions is) (functions is')
  sames items_none = no_pair
  sames (items_also (same_globals s) more) = sames more
  sames (items_also (same_function s) more) = a_pair s (sames more)

  pub bodies_same : {is is' : List TopItem} → SameItems F is is' → Pairs (SameFunction F) (bodies is) (bodies is')
  bodies_same same = filter_pairs (λ f. has_body f.body) (λ f. has_body f.body) (λ f f' s. s.same_body) (sames same)

  map_same : {B : Type 0} (f f' : ℕ → B) → ((m : ℕ) (e : Known) → lookup m F ≡ Some e → f' e.position ≡ f m) → {cs cs' : List ℕ} → Positions (λ m. lookup m F) cs cs' → map f' cs' ≡ map f cs
  map_same f f' same no_names = refl
  map_same f f' same (a_name {ns = ns} {ps = ps} m e is such rest) = ap (λ x. x ∷ map f' ps) (same m e is) ∙ ap (λ l. f m ∷ l) (map_same f f' same rest)

  pub each_same : (f f' : ℕ → Bool) → ((m : ℕ) (e : Known) → lookup m F ≡ Some e → f' e.position ≡ f m) → {cs cs' : List ℕ} → Positions (λ m. lookup m F) cs cs' → each f' cs' ≡ each f cs
  each_same f f' same no_names = refl
  each_same f f' same (a_name {ns = ns} {ps = ps} m e is such rest) = ap (λ x. x && each f' ps) (same m e is) ∙ ap (λ x. f m && x) (each_same f f' same rest)

  module _ (items items' : List TopItem) (same : SameItems F items items') (like : Pairs (LikeItem F items items') items items') where
    abbrev R : Function → Function → Type 0
    R = LikeFunction F items items'

    -- the function with a body that a name and its position find
    pub data Found (n : ℕ) : Option Function → Option Function → Type 0 where
      found_none : Found n None None
      found_some : {f f' : Function} → R f f' → Found n (Some f) (Some f')

    found_in : {fs fs' : List Function} → Pairs R fs fs' → (n : ℕ) (d : Known) → lookup n F ≡ Some d → Found n (find (λ f. f.name == n && has_body f.body) fs) (find (λ f. f.name == d.position && has_body f.body) fs')
    found_in no_pair n d k = found_none
    found_in (a_pair {a = f} {b = f'} {as' = fs} {bs = fs'} l rest) n d k =
        let t = same_test F one n d k f.name f'.name l.known l.is l.at in
        let b = l.same_body in
        rw (t, ← b) (at (f'.name == d.position && has_body f'.body) (found_in rest n d k))
      where
        at : (o : Bool) → Found n (find (λ f. f.name == n && has_body f.body) fs) (find (λ f. f.name == d.position && has_body f.body) fs') → Found n (if o then Some f else find (λ f. f.name == n && has_body f.body) fs) (if o then Some f' else find (λ f. f.name == d.position && has_body f.body) fs')
        at true go = found_some l
        at false go = go

    pub found : (n : ℕ) (d : Known) → lookup n F ≡ Some d → Found n (function_named n items) (function_named d.position items')
    found n d k = found_in (functions_again F items items' like) n d k

    pub weight_same : (n : ℕ) (d : Known) → lookup n F ≡ Some d → weight_named items' d.position ≡ weight_named items n
    weight_same n d k = at (function_named n items) (function_named d.position items') (found n d k)
      where
        at : (o o' : Option Function) → Found n o o' → weight_or_zero o' ≡ weight_or_zero o
        at _ _ found_none = refl
        at _ _ (found_some {f = f} {f' = f'} l) = same_weight F items items' f f' l

    pub main_same : (n : ℕ) (d : Known) → lookup n F ≡ Some d → is_main (function_named d.position items') ≡ is_main (function_named n items)
    main_same n d k = at (found n d k)
      where
        at : {o o' : Option Function} → Found n o o' → is_main o' ≡ is_main o
        at found_none = refl
        at (found_some {f = f} {f' = f'} l) = ap (λ t. same_type t Int && (length f'.params == 0)) l.ty ∙ ap (λ c. same_type f.ty Int && (c == 0)) (count_params f'.params f.params l.types)

    chain_same : (level : ℕ) (n : ℕ) (d : Known) → lookup n F ≡ Some d → chain_in items' level d.position ≡ chain_in items level n
    chain_same zero n d k = refl
    chain_same (suc level) n d k =
        ap (λ w. w + greatest (map (chain_in items' level) (callees items' d.position))) (weight_same n d k)
        ∙ ap (λ ns. weight_named items n + greatest ns) (map_same (chain_in items level) (chain_in items' level) (chain_same level) (same_calls F one (same_named F one same n d k)))

    pub whole_chain_same : (n : ℕ) (d : Known) → lookup n F ≡ Some d → chain items' d.position ≡ chain items n
    whole_chain_same n d k = ap (λ c. chain_in items' c d.position) (sym (same_count F one same)) ∙ chain_same (length (functions items)) n d k

    pub reaches_same : (n : ℕ) (d : Known) → lookup n F ≡ Some d → (m : ℕ) (e : Known) → lookup m F ≡ Some e → reaches items' d.position e.position ≡ reaches items n m
    reaches_same n d k m e j = ap (λ c. leads items' c d.position e.position) (sym (same_count F one same)) ∙ sym (same_leads F one same m e j (length (functions items)) n d k)

    pub recursive_same : (n : ℕ) (d : Known) → lookup n F ≡ Some d → is_recursive items' d.position ≡ is_recursive items n
    recursive_same n d k = sym (same_recursive F one same n d k)

    pub calls_same : {fs fs' : List Function} → Pairs (SameFunction F) fs fs' → Positions (λ n. lookup n F) (flat_map (λ f. body_calls f.body) fs) (flat_map (λ f. body_calls f.body) fs')
    calls_same no_pair = no_names
    calls_same (a_pair s rest) = both_positions s.calls (calls_same rest)
