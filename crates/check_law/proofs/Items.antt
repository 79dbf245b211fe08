-- What the walk gives of a program has as many clauses without a label as the program.
use Rattle.std.proofs.Common.{◌≡◌, ℕ, Bool, true, false, List, [], ◌∷◌, map, sum, Option, Some, None, refl, ap, ◌∙◌, subst}
use Rattle.c_syntax.specs.declared.tree.Ty.{Ty}
use Rattle.c_syntax.specs.declared.tree.Stmt.{Stmt}
use Rattle.c_syntax.specs.declared.tree.GlobalVar.{GlobalVar}
use Rattle.c_syntax.specs.declared.tree.Function.{Function}
use Rattle.c_syntax.specs.declared.tree.TopItem.{TopItem}
use Rattle.c_syntax.specs.declared.tree.TopItem.TheVariants as item
use Rattle.c_syntax.specs.declared.tree.Program.{Program}
use Rattle.c_syntax.specs.Graph.{has_body, body_of}
use Rattle.c_meaning.specs.Meaning.{Names, source_names}
use Rattle.check_rules.specs.Scopes.{Walking, lookup, begun, ended}
use Rattle.check_rules.specs.Walk.{walk_globals, walk_name, walk_params, in_function, walk_body, with_body, walk_function, walk_items, first_walking, has_body_in}
use Rattle.check_rules.specs.Limits.{within_limits, checked}
use Rattle.check_law.proofs.Yields.{Yields, yields_ok, yields_then, yields_after}
use Rattle.c_syntax.specs.Labels.{unlabelled, bare_clauses}
use Rattle.c_syntax.specs.Graph.{with_bodies}
use Rattle.check_law.specs.Laws.{StaysLabelled}
use Rattle.check_law.proofs.Statements.{yields_any, body_kept}

record SameBody (b b' : Option (List Stmt)) : Type 0 where
  there : has_body b' ≡ has_body b
  counts : map unlabelled (body_of b') ≡ map unlabelled (body_of b)

whole_body : (ty : Ty) (body : Option (List Stmt)) (w : Walking) → Yields (walk_body ty body w) (λ r. SameBody body r.0)
whole_body ty None w = yields_ok (None, w) (record { there = refl; counts = refl })
whole_body ty (Some body) w = yields_then (body_kept body (in_function ty) w) (λ r p. yields_ok (Some r.0, r.1) (record { there = refl; counts = p }))

function_kept : (hb : ℕ → Bool) (f : Function) (w : Walking) → Yields (walk_function hb f w) (λ r. SameBody f.body (r.0).body)
function_kept hb f w = yields_any (walk_name hb f (lookup f.name w.file) w) (λ r1. yields_any (walk_params f.params (begun r1.1)) (λ r2. yields_then (whole_body f.ty f.body r2.1) (λ r3 p. yields_ok (record f { name = r1.0; params = r2.0; body = r3.0 }, with_body f (ended r3.1)) p)))

joined : (f f' : Function) (is is' : List TopItem) → SameBody f.body f'.body → map bare_clauses (with_bodies is') ≡ map bare_clauses (with_bodies is) →
    map bare_clauses (with_bodies (item.Function f' ∷ is')) ≡ map bare_clauses (with_bodies (item.Function f ∷ is))
joined f f' is is' s rest = by (has_body f.body) refl
  where
    by : (b : Bool) → has_body f.body ≡ b → map bare_clauses (with_bodies (item.Function f' ∷ is')) ≡ map bare_clauses (with_bodies (item.Function f ∷ is))
    by true e = let e' : has_body f'.body ≡ true = s.there ∙ e in rw (e, e') (ap (λ ns. sum ns ∷ map bare_clauses (with_bodies is')) s.counts ∙ ap (λ ns. bare_clauses f ∷ ns) rest)
    by false e = let e' : has_body f'.body ≡ false = s.there ∙ e in rw (e, e') rest

items_kept : (hb : ℕ → Bool) (is : List TopItem) (w : Walking) → Yields (walk_items hb is w) (λ r. map bare_clauses (with_bodies r.0) ≡ map bare_clauses (with_bodies is))
items_kept hb [] w = yields_ok ([], w) refl
items_kept hb (item.Globals gs ∷ is) w =
    yields_then {P = λ r. (gs' : List GlobalVar) × (item.Globals gs' ≡ r.0)} (yields_any (walk_globals gs w) (λ r. yields_ok (item.Globals r.0, r.1) (r.0, refl))) (λ r1 p. yields_then (items_kept hb is r1.1) (λ r2 q. yields_ok (r1.0 ∷ r2.0, r2.1)
    (subst (λ i. map bare_clauses (with_bodies (i ∷ r2.0)) ≡ map bare_clauses (with_bodies is)) p.1 q)))
items_kept hb (item.Function f ∷ is) w =
    yields_then {P = λ r. (f' : Function) × (item.Function f' ≡ r.0) × SameBody f.body f'.body} (yields_then (function_kept hb f w) (λ r s. yields_ok (item.Function r.0, r.1) (r.0, refl, s))) (λ r1 p. yields_then (items_kept hb is r1.1) (λ r2 q. yields_ok (r1.0 ∷ r2.0, r2.1)
    (subst (λ i. map bare_clauses (with_bodies (i ∷ r2.0)) ≡ map bare_clauses (with_bodies (item.Function f ∷ is))) p.1 (joined f p.0 is r2.0 p.2 q))))

-- under any names of `main` and of the two functions of the machine
kept : (names : Names) (program : Program) → Yields (checked names program) (λ c. map bare_clauses (with_bodies c.program.items) ≡ map bare_clauses (with_bodies program.items))
kept names program = yields_then (items_kept (has_body_in program.items) program.items (first_walking names)) (λ r p. yields_after {m = within_limits names program} (λ ok. yields_ok _ p))

pub labels_stay : StaysLabelled
labels_stay program c is none = ap sum ((kept source_names program).if_ok c is) ∙ none
