-- A program whose names have been replaced by positions is one that has been checked.
use Rattle.std.proofs.Common.{◌≡◌, ℕ, ◌+◌, ◌*◌, ◌≤◌, Bool, true, false, not, ◌&&◌, ◌||◌, List, [], ◌∷◌, map, sum, find, flat_map, Option, Some, None, Ok, refl, sym, ap, ◌∙◌, subst, if◌then◌else◌, ◌==◌, nat_lt, arith}
use Rattle.c_syntax.specs.declared.tree.Ty.TheVariants.{Int, Void}
use Rattle.c_syntax.specs.declared.tree.Function.{Function}
use Rattle.c_syntax.specs.declared.tree.TopItem.{TopItem}
use Rattle.c_syntax.specs.declared.tree.Program.{Program}
use Rattle.c_syntax.specs.Sizes.{greatest, program_nodes}
use Rattle.c_syntax.specs.Shaped.{each, Shaped}
use Rattle.c_syntax.specs.Costs.{function_weight, call_cost, program_cost}
use Rattle.c_syntax.specs.Graph.{function_named, is_recursive}
use Rattle.c_meaning.specs.Meaning.{Names, source_names}
use Rattle.check_rules.specs.declared.error.CheckKind.{CheckKind}
use Rattle.check_rules.specs.declared.error.CheckKind.TheVariants.{NoBody, NoMain, FrameTooLarge, TooManyBlocks, StoreTooLarge}
use Rattle.check_rules.specs.declared.names.Kind.TheVariants as kinds
use Rattle.check_rules.specs.declared.names.Known.{Known}
use Rattle.check_rules.specs.Fault.{Walk, require, refuse}
use Rattle.check_rules.specs.Scopes.{Scope, lookup, Walking}
use Rattle.check_rules.specs.Walk.{first_walking, walk_program, has_body_in}
use Rattle.check_rules.specs.Limits.{Resolved, CallSite, bodies, lacks_body, first_without_body, is_main, global_pairs, chain, reaches, reached, store_of, store, most_weight, most_cost, most_store, first_too_heavy, within_limits, position_or_zero, checked, fault_in, first_fault, resolved_names}
use Rattle.check_rules.specs.Limits as limits
use Rattle.check_rules.specs.Resolution.{most_nodes, IsChecked}
use Rattle.check_law.proofs.Yields.{Yields, yields_ok, yields_then, yields_after, required}
use Rattle.check_law.proofs.Positions.{onto, Distinct}
use Rattle.check_law.proofs.Holds.{sub_refl}
use Rattle.check_law.proofs.Calls.{no_names, a_name}
use Rattle.check_law.proofs.ItemRuns.{file_distinct}
use Rattle.check_law.proofs.ProgramRuns.{SameItems, ListOk, of_items, first_at_file, main_of, test_of, same_test}
use Rattle.check_law.proofs.Placed.{placed, again, Apart, found_again}
use Rattle.check_law.proofs.ItemAgain.{Pairs, no_pair, a_pair, LikeFunction, LikeItem, items_again}
use Rattle.check_law.proofs.CallSites.{bodies_named, all_pass, none_fails}
use Rattle.check_law.proofs.LimitAgain.{map_pairs, filter_pairs, find_pairs, shaped_again, nodes_again, same_weight, cost_again, pairs_again, bodies_again, defines_same, has_body_same, bodies_same, each_same, main_same, whole_chain_same, reaches_same, recursive_same, calls_same}
use Rattle.check_law.specs.Again.{CheckedAgain, NodesStay}

-- ---- what holds where no limit is passed

refused : (o : Option ℕ) (kind : CheckKind) → refuse o kind ≡ Ok tt → o ≡ None
refused None kind is = refl
refused (Some at) kind is = absurd cc

not_true : (a : Bool) → not a ≡ true → a ≡ false
not_true true is = absurd cc
not_true false is = refl

pub record Within (names : Names) (program : Program) : Type 0 where
  bodies : first_without_body names program.items ≡ None
  pub main : is_main (function_named names.main program.items) ≡ true
  weights : first_too_heavy program.items ≡ None
  cost : nat_lt most_cost (program_cost program) ≡ false
  store : nat_lt most_store (store names program) ≡ false

pub within : (names : Names) (program : Program) → Yields (within_limits names program) (λ u. Within names program)
within names program =
    yields_after {m = refuse (first_without_body names program.items) NoBody} (λ a.
    yields_after {m = require (is_main (function_named names.main program.items)) NoMain 0} (λ b.
    yields_after {m = refuse (first_too_heavy program.items) FrameTooLarge} (λ c.
    yields_after {m = require (not (nat_lt most_cost (program_cost program))) TooManyBlocks 0} (λ d.
    record {
      if_ok = λ u e. record {
        bodies = refused (first_without_body names program.items) NoBody a;
        main = required (is_main (function_named names.main program.items)) NoMain 0 b;
        weights = refused (first_too_heavy program.items) FrameTooLarge c;
        cost = not_true (nat_lt most_cost (program_cost program)) (required (not (nat_lt most_cost (program_cost program))) TooManyBlocks 0 d);
        store = not_true (nat_lt most_store (store names program)) (required (not (nat_lt most_store (store names program))) StoreTooLarge 0 e);
      };
    }))))

within_is : (names : Names) (program : Program) → Within names program → within_limits names program ≡ Ok tt
within_is names program w =
    let a = w.bodies in
    let b = w.main in
    let c = w.weights in
    let d = w.cost in
    let e = w.store in
    rw (a, b, c, d, e) refl

abbrev site_at : Option CallSite → Option ℕ
site_at o = elim o [ None ↦ None | Some c ↦ Some c.at ]

abbrev function_at : Option Function → Option ℕ
function_at o = elim o [ None ↦ None | Some f ↦ Some f.at ]

site_none : (o : Option CallSite) → site_at o ≡ None → o ≡ None
site_none None is = refl
site_none (Some c) is = absurd cc

function_none : (o : Option Function) → function_at o ≡ None → o ≡ None
function_none None is = refl
function_none (Some f) is = absurd cc

-- ---- the limits of the two programs

module _ (F : Scope) (one : Distinct (onto F [])) (items items' : List TopItem) (same : SameItems F items items') (like : Pairs (LikeItem F items items') items items')
    (names : Names) (in_word out_word main : Known) (is_in_word : lookup names.in_word F ≡ Some in_word) (is_out_word : lookup names.out_word F ≡ Some out_word) (is_main_there : lookup names.main F ≡ Some main) (at_0 : in_word.position ≡ 0) (at_1 : out_word.position ≡ 1) where
  abbrev names' : Names
  names' = record { main = main.position; in_word = 0; out_word = 1 }

  abbrev R : Function → Function → Type 0
  R = LikeFunction F items items'

  abbrev fails : ℕ → Bool
  fails n = not (n == names.in_word || (n == names.out_word || has_body_in items n))

  abbrev fails' : ℕ → Bool
  fails' n = not (n == 0 || (n == 1 || has_body_in items' n))

  pass_same : (m : ℕ) (e : Known) → lookup m F ≡ Some e → not (fails' e.position) ≡ not (fails m)
  pass_same m e js =
      let a = test_of F one m e js names.in_word 0 in_word is_in_word at_0 in
      let b = test_of F one m e js names.out_word 1 out_word is_out_word at_1 in
      let c = has_body_same F one same m e js in
      rw (a, b, c) refl

  bodies_again_none : first_without_body names items ≡ None → first_without_body names' items' ≡ None
  bodies_again_none is =
      let none : find (λ c. fails c.name) (flat_map limits.body_calls (bodies items)) ≡ None = site_none (find (λ c. fails c.name) (flat_map limits.body_calls (bodies items))) is in
      let pass = all_pass fails (flat_map limits.body_calls (bodies items)) none in
      let calls = each_same F one (λ n. not (fails n)) (λ n. not (fails' n)) pass_same (calls_same F one items items' same like (bodies_same F one same)) in
      let pass' : each (λ n. not (fails' n)) (map (λ c. c.name) (flat_map limits.body_calls (bodies items'))) ≡ true =
      ap (each (λ n. not (fails' n))) (bodies_named (bodies items')) ∙ calls ∙ sym (ap (each (λ n. not (fails n))) (bodies_named (bodies items))) ∙ pass in
      let none' = none_fails fails' (flat_map limits.body_calls (bodies items')) pass' in
      ap site_at none'

  weights_again_none : first_too_heavy items ≡ None → first_too_heavy items' ≡ None
  weights_again_none is =
      let none = function_none (find (λ f. nat_lt most_weight (function_weight f)) (bodies items)) is in
      let none' = find_pairs (λ f. nat_lt most_weight (function_weight f)) (λ f. nat_lt most_weight (function_weight f)) (λ f f' l. ap (nat_lt most_weight) (same_weight F items items' f f' l)) (bodies_again F items items' like) none in
      ap function_at none'

  abbrev reached_test : Names → List TopItem → Bool → Function → Bool
  reached_test names items is_deep f = (f.name == names.main || reaches items names.main f.name) && (if is_recursive items f.name then is_deep else not is_deep)

  reached_same : (is_deep : Bool) (f f' : Function) → R f f' → reached_test names' items' is_deep f' ≡ reached_test names items is_deep f
  reached_same is_deep f f' l =
      let a = same_test F one names.main main is_main_there f.name f'.name l.known l.is l.at in
      let b : reaches items' main.position f'.name ≡ reaches items names.main f.name = ap (reaches items' main.position) (sym l.at) ∙ reaches_same F one items items' same like names.main main is_main_there f.name l.known l.is in
      let c : is_recursive items' f'.name ≡ is_recursive items f.name = ap (is_recursive items') (sym l.at) ∙ recursive_same F one items items' same like f.name l.known l.is in
      ap (λ x. (x || reaches items' main.position f'.name) && (if is_recursive items' f'.name then is_deep else not is_deep)) (sym a)
      ∙ ap (λ x. (f.name == names.main || x) && (if is_recursive items' f'.name then is_deep else not is_deep)) b
      ∙ ap (λ x. (f.name == names.main || reaches items names.main f.name) && (if x then is_deep else not is_deep)) c

  reached_pairs : (is_deep : Bool) → Pairs R (reached names items is_deep) (reached names' items' is_deep)
  reached_pairs is_deep = filter_pairs (reached_test names items is_deep) (reached_test names' items' is_deep) (reached_same is_deep) (bodies_again F items items' like)

  weight_of_pair : (f f' : Function) → R f f' → function_weight f' ≡ function_weight f
  weight_of_pair = same_weight F items items'

  store_of_same : {fs fs' : List Function} → Pairs R fs fs' → store_of names' items' fs' ≡ store_of names items fs
  store_of_same no_pair = ap (λ n. n + chain items' main.position) (pairs_again F items items' like) ∙ ap (λ n. global_pairs items + n) (whole_chain_same F one items items' same like names.main main is_main_there)
  store_of_same (a_pair {a = f} {b = f'} {as' = fs} {bs = fs'} l rest) =
      let g = pairs_again F items items' like in
      let m = map_pairs {R = R} (λ g. function_weight g + 2) (λ g. function_weight g + 2) (λ f f' l. ap (λ n. n + 2) (weight_of_pair f f' l)) (a_pair l rest) in
      let s = map_pairs {R = R} function_weight function_weight weight_of_pair (reached_pairs false) in
      ap (λ n. n + 1 + 257 * greatest (map (λ g. function_weight g + 2) (f' ∷ fs')) + sum (map function_weight (reached names' items' false))) g
      ∙ ap (λ ns. global_pairs items + 1 + 257 * greatest ns + sum (map function_weight (reached names' items' false))) m
      ∙ ap (λ ns. global_pairs items + 1 + 257 * greatest (map (λ g. function_weight g + 2) (f ∷ fs)) + sum ns) s

  within_again : Within names (record { items = items }) → Within names' (record { items = items' })
  within_again w = record {
    bodies = bodies_again_none w.bodies;
    main = main_same F one items items' same like names.main main is_main_there ∙ w.main;
    weights = weights_again_none w.weights;
    cost = ap (nat_lt most_cost) (cost_again F items items' like) ∙ w.cost;
    store = ap (nat_lt most_store) (store_of_same (reached_pairs true)) ∙ w.store;
  }

-- ---- whole programs

pub first_apart : Apart (first_walking source_names)
first_apart = record {
  distinct = (((λ e. absurd (omega (arith, e))), tt), (tt, tt));
  below = (omega arith, (omega arith, tt));
}

whole : (program : Program) → Shaped program → program_nodes program ≤ most_nodes → (r : List TopItem × Walking) → walk_program source_names program ≡ Ok r → Within source_names program → IsChecked (record { program = record { items = r.0 }; decls = (r.1).decls; main = position_or_zero (lookup 0 (r.1).file) })
whole program shaped few r is limits =
    let ok : ListOk SameItems (first_walking source_names) program.items r = (of_items (has_body_in program.items) program.items (first_walking source_names) first_at_file shaped).if_ok r is in
    let F : Scope = (r.1).file in
    let one : Distinct (onto F []) = file_distinct r.1 ok.file.at_file.sound in
    let same : SameItems F program.items r.0 = ok.same F one (sub_refl F) in
    let calls : (n : ℕ) (d : Known) → lookup n F ≡ Some d → call_cost r.0 d.position ≡ call_cost program.items n = λ n d k. ap (λ b. if b then 1 else 0) (defines_same F one same n d k) in
    let more = (items_again F program.items r.0 calls (has_body_in program.items) (has_body_in r.0) (has_body_same F one same) program.items (first_walking source_names) refl first_apart).if_ok r is in
    let like : Pairs (LikeItem F program.items r.0) program.items r.0 = more.like (sub_refl F) in
    let in_word : Known = record { position = 0; kind = kinds.Function Int [] } in
    let out_word : Known = record { position = 1; kind = kinds.Function Void (Int ∷ []) } in
    let m = main_of F same (function_named 0 program.items) refl limits.main in
    let goes = more.by (sub_refl F) (0 ∷ 1 ∷ []) (a_name 1 in_word refl refl (a_name 2 out_word refl refl no_names)) in
    let w = within_again F one program.items r.0 same like source_names in_word out_word m.known (ok.file.sub.at 1 in_word refl) (ok.file.sub.at 2 out_word refl) m.is refl refl limits in
    let is_positions = checked_is r.0 r.1 goes.bodies m.known.position goes.same (within_is (record { main = m.known.position; in_word = 0; out_word = 1 }) (record { items = r.0 }) w) (ap position_or_zero (found_again F [] 0 m.known one m.is)) in
    let at : position_or_zero (lookup 0 F) ≡ m.known.position = ap position_or_zero m.is in
    subst (λ p. IsChecked (record { program = record { items = r.0 }; decls = (r.1).decls; main = p })) (sym at) (record {
      shaped = shaped_again F program.items r.0 like ∙ shaped;
      few_nodes = subst (λ n. n ≤ most_nodes) (sym (nodes_again F program.items r.0 like)) few;
      faultless = ap fault_in is_positions;
      unchanged = is_positions;
    })
  where
    checked_is : (items : List TopItem) (w : Walking) (bs : List ℕ) (p : ℕ) → walk_program (record { main = p; in_word = 0; out_word = 1 }) (record { items = items }) ≡ Ok (items, again bs w) → within_limits (record { main = p; in_word = 0; out_word = 1 }) (record { items = items }) ≡ Ok tt →
        position_or_zero (lookup p (map placed w.file)) ≡ p → checked (record { main = p; in_word = 0; out_word = 1 }) (record { items = items }) ≡ Ok (record { program = record { items = items }; decls = w.decls; main = p })
    checked_is items w bs p a b c = rw (a, b) (ap (done items w) c)
      where
        done : List TopItem → Walking → ℕ → Walk Resolved
        done items w p = Ok (record { program = record { items = items }; decls = w.decls; main = p })

pub again_checked : CheckedAgain
again_checked program c shaped few is = (yields_then {m = walk_program source_names program} {P = λ r. walk_program source_names program ≡ Ok r} {Q = IsChecked} (record { if_ok = λ r h. h }) (λ r h. yields_after {m = within_limits source_names program} (λ limits. yields_ok _ (whole program shaped few r h ((within source_names program).if_ok tt limits))))).if_ok c is

-- ---- as many nodes

as_many : (program : Program) → Shaped program → (r : List TopItem × Walking) → walk_program source_names program ≡ Ok r → program_nodes (record { items = r.0 }) ≡ program_nodes program
as_many program shaped r is =
    let ok : ListOk SameItems (first_walking source_names) program.items r = (of_items (has_body_in program.items) program.items (first_walking source_names) first_at_file shaped).if_ok r is in
    let F : Scope = (r.1).file in
    let one : Distinct (onto F []) = file_distinct r.1 ok.file.at_file.sound in
    let same : SameItems F program.items r.0 = ok.same F one (sub_refl F) in
    let calls : (n : ℕ) (d : Known) → lookup n F ≡ Some d → call_cost r.0 d.position ≡ call_cost program.items n = λ n d k. ap (λ b. if b then 1 else 0) (defines_same F one same n d k) in
    let more = (items_again F program.items r.0 calls (has_body_in program.items) (has_body_in r.0) (has_body_same F one same) program.items (first_walking source_names) refl first_apart).if_ok r is in
    nodes_again F program.items r.0 (more.like (sub_refl F))

pub nodes_kept : NodesStay
nodes_kept program c shaped is = (yields_then {m = walk_program source_names program} {P = λ r. walk_program source_names program ≡ Ok r} {Q = λ d. program_nodes d.program ≡ program_nodes program} (record { if_ok = λ r h. h }) (λ r h. yields_after {m = within_limits source_names program} (λ limits. yields_ok _ (as_many program shaped r h)))).if_ok c is
