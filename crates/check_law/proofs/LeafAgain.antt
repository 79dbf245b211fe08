-- A light `main` that calls nothing is one where names are positions.
use Rattle.std.proofs.Common.{◌≡◌, ℕ, zero, suc, ◌≤◌, List, [], Option, Some, None, Ok, refl, sym, ap, subst, arith, if◌then◌else◌}
use Rattle.std.specs.Prelude.{Contains}
use Rattle.c_syntax.specs.declared.tree.Function.{Function}
use Rattle.c_syntax.specs.declared.tree.TopItem.{TopItem}
use Rattle.c_syntax.specs.declared.tree.Program.{Program}
use Rattle.c_syntax.specs.Shaped.{Shaped}
use Rattle.c_syntax.specs.Costs.{function_weight, call_cost}
use Rattle.c_syntax.specs.Graph.{function_named, body_calls}
use Rattle.c_meaning.specs.Meaning.{source_names}
use Rattle.check_rules.specs.declared.names.Known.{Known}
use Rattle.check_rules.specs.Scopes.{Scope, lookup, Walking}
use Rattle.check_rules.specs.Walk.{first_walking, walk_program, has_body_in}
use Rattle.check_rules.specs.Limits.{within_limits, position_or_zero, resolved_names}
use Rattle.check_law.proofs.Yields.{yields_ok, yields_then, yields_after}
use Rattle.check_law.proofs.Positions.{onto, Distinct}
use Rattle.check_law.proofs.Holds.{sub_refl}
use Rattle.check_law.proofs.Calls.{Positions, no_names, a_name}
use Rattle.check_law.proofs.ItemRuns.{file_distinct}
use Rattle.check_law.proofs.ProgramRuns.{SameItems, ListOk, of_items, first_at_file, main_of, SameNamed, named_none, named_some, same_named}
use Rattle.check_law.proofs.ItemAgain.{Pairs, LikeItem, items_again}
use Rattle.check_law.proofs.LimitAgain.{weight_or_zero, defines_same, has_body_same, weight_same}
use Rattle.check_law.proofs.ProgramAgain.{Within, within, first_apart}
use Rattle.check_rules.specs.Leaf.{IsLightLeaf}
use Rattle.check_law.specs.Leaf.{StaysLight}

nothing : {n : ℕ} → Contains [] n → ⊥
nothing (k, h, e) = omega (arith, h)

some_is : {A : Type 0} (x y : A) → ◌≡◌ {A = Option A} (Some x) (Some y) → x ≡ y
some_is x y e = cc

module _ (F : Scope) (one : Distinct (onto F [])) (items items' : List TopItem) (same : SameItems F items items') where
  -- a name without a body has none by its position
  no_body : (n : ℕ) (d : Known) → lookup n F ≡ Some d → function_named n items ≡ None → function_named d.position items' ≡ None
  no_body n d k none = at (same_named F one same n d k) none
    where
      at : {o o' : Option Function} → SameNamed F one n o o' → o ≡ None → o' ≡ None
      at named_none e = refl
      at (named_some s named) e = absurd cc

  no_bodies : {cs cs' : List ℕ} → Positions (λ m. lookup m F) cs cs' → ((n : ℕ) → Contains cs n → function_named n items ≡ None) → (p : ℕ) → Contains cs' p → function_named p items' ≡ None
  no_bodies no_names none p there = absurd (nothing there)
  no_bodies (a_name n d is such rest) none p (zero, h, e) = subst (λ q. function_named q items' ≡ None) e (no_body n d is (none n (0, omega arith, refl)))
  no_bodies (a_name n d is such rest) none p (suc k, h, e) = no_bodies rest (λ m c. none m (suc c.0, omega (arith, c.1), c.2)) p (k, omega (arith, h), e)

  -- the function that a name and its position find
  leaf_by : (p : ℕ) (main : Function) {n : ℕ} {o o' : Option Function} → SameNamed F one n o o' → function_named p items' ≡ o' →
      weight_or_zero o' ≡ weight_or_zero o → o ≡ Some main → function_weight main ≤ 9 →
      ((name : ℕ) → Contains (body_calls main.body) name → function_named name items ≡ None) → IsLightLeaf (record { main = p; in_word = 0; out_word = 1 }) (record { items = items' })
  leaf_by p main named_none is weights e light alone = absurd cc
  leaf_by p main (named_some {f = f} {f' = f'} s named) is weights e light alone =
      let q : f ≡ main = some_is f main e in
      let light_f : function_weight f ≤ 9 = subst (λ (g : Function). function_weight g ≤ 9) (sym q) light in
      let alone_f : (name : ℕ) → Contains (body_calls f.body) name → function_named name items ≡ None = λ name c. alone name (subst (λ (g : Function). Contains (body_calls g.body) name) q c) in
      record { main = f'; is_main = is; light = subst (λ (k : ℕ). k ≤ 9) (sym weights) light_f; alone = no_bodies s.calls alone_f }

  leaf_same : Pairs (LikeItem F items items') items items' → (d : Known) → lookup 0 F ≡ Some d → IsLightLeaf source_names (record { items = items }) → IsLightLeaf (record { main = d.position; in_word = 0; out_word = 1 }) (record { items = items' })
  leaf_same like d k leaf = leaf_by d.position leaf.main (same_named F one same 0 d k) refl (weight_same F one items items' same like 0 d k) leaf.is_main leaf.light leaf.alone

whole : (program : Program) → Shaped program → (r : List TopItem × Walking) → walk_program source_names program ≡ Ok r → Within source_names program → IsLightLeaf source_names program →
    IsLightLeaf (record { main = position_or_zero (lookup 0 (r.1).file); in_word = 0; out_word = 1 }) (record { items = r.0 })
whole program shaped r is limits leaf =
    let ok : ListOk SameItems (first_walking source_names) program.items r = (of_items (has_body_in program.items) program.items (first_walking source_names) first_at_file shaped).if_ok r is in
    let F : Scope = (r.1).file in
    let one : Distinct (onto F []) = file_distinct r.1 ok.file.at_file.sound in
    let same : SameItems F program.items r.0 = ok.same F one (sub_refl F) in
    let calls : (n : ℕ) (d : Known) → lookup n F ≡ Some d → call_cost r.0 d.position ≡ call_cost program.items n = λ n d k. ap (λ b. if b then 1 else 0) (defines_same F one same n d k) in
    let more = (items_again F program.items r.0 calls (has_body_in program.items) (has_body_in r.0) (has_body_same F one same) program.items (first_walking source_names) refl first_apart).if_ok r is in
    let m = main_of F same (function_named 0 program.items) refl limits.main in
    subst (λ p. IsLightLeaf (record { main = p; in_word = 0; out_word = 1 }) (record { items = r.0 })) (sym (ap position_or_zero m.is))
    (leaf_same F one program.items r.0 same (more.like (sub_refl F)) m.known m.is leaf)

pub light_again : StaysLight
light_again program c shaped is leaf = (yields_then {m = walk_program source_names program} {P = λ r. walk_program source_names program ≡ Ok r} {Q = λ d. IsLightLeaf (resolved_names d) d.program} (record { if_ok = λ r h. h }) (λ r h. yields_after {m = within_limits source_names program} (λ limits. yields_ok _ (whole program shaped r h ((within source_names program).if_ok tt limits) leaf)))).if_ok c is
