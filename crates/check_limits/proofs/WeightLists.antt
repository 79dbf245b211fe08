-- Weights under names.
use Rattle.std.proofs.Common.{◌≡◌, ℕ, ◌+◌, ◌-◌, ◌<◌, ◌≤◌, Bool, true, false, not, ◌&&◌, ◌||◌, ◌==◌, eqb, List, [], ◌∷◌, get_or, drop, length, Option, Some, None, refl, sym, ap, ◌∙◌, subst, arith, if◌then◌else◌, cond, is_some}
use Rattle.std.specs.List.{find, flat_map}
use Rattle.std.proofs.lemmas.List.{drop_more}
use Rattle.std.proofs.lemmas.Bool.{eqb-true}
use Rattle.c_syntax.specs.declared.tree.Function.{Function}
use Rattle.c_syntax.specs.declared.tree.TopItem.{TopItem}
use Rattle.c_syntax.specs.Graph.{function_named}
use Rattle.c_syntax.specs.Costs.{function_weight}
use Rattle.c_meaning.specs.Meaning.{source_names}
use Rattle.check_rules.specs.Limits.{CallSite, lacks_body, first_without_body, body_calls, bodies}
use Rattle.check_rules.specs.Walk.{has_body_in}
use Rattle.check_limits.specs.Calls.{capped}
use Rattle.check_limits.specs.Tables.{AreWeights, lacks, first_lacking}

pub weights_from : (items : List TopItem) (item : TopItem) (left : ℕ) (old new : List ℕ) → 0 < left → left ≤ length items → item ≡ get_or items (left - 1) item →
    ((rest : List TopItem) → AreWeights rest old → AreWeights (item ∷ rest) new) → AreWeights (drop left items) old → AreWeights (drop (left - 1) items) new
weights_from items item left old new some within is put h =
    let e : drop (left - 1) items ≡ get_or items (left - 1) item ∷ drop (left - 1 + 1) items = drop_more items (left - 1) item (omega arith) in
    let n : left - 1 + 1 ≡ left = omega arith in
    subst (λ l. AreWeights l new) (sym (e ∙ ap (λ k. get_or items (left - 1) item ∷ drop k items) n ∙ ap (λ i. i ∷ drop left items) (sym is))) (put (drop left items) h)

-- ---- a function with a body has a weight

by_test : {A : Type 0} (a : Bool) → (a ≡ true → A) → (a ≡ false → A) → A
by_test true f g = f refl
by_test false f g = g refl

not_zero : (n : ℕ) → 0 < n → eqb (capped n) 0 ≡ false
not_zero n some = by_test (eqb (capped n) 0) (λ t. absurd (omega (arith, eqb-true (capped n) 0 t, some))) (λ e. e)

weighs : (o : Option Function) → eqb (capped (elim o [ None ↦ 0 | Some f ↦ function_weight f ])) 0 ≡ not (is_some o)
weighs None = refl
weighs (Some f) = not_zero (function_weight f) (omega arith)

none_of : (a b s : Bool) → not (a || (b || s)) ≡ (not a && (not b && not s))
none_of true b s = refl
none_of false true s = refl
none_of false false s = refl

same_test : (items : List TopItem) (w : List ℕ) → AreWeights items w → (c : CallSite) → lacks_body source_names items c ≡ lacks w c.name
same_test items w h c =
    none_of (c.name == 1) (c.name == 2) (has_body_in items c.name)
    ∙ ap (λ s. not (c.name == 1) && (not (c.name == 2) && s)) (sym (ap (λ n. eqb n 0) (h c.name) ∙ weighs (function_named c.name items)))

one_more : (a b : Bool) (c : CallSite) (o : Option CallSite) (p : Option ℕ) → a ≡ b → (elim o [ None ↦ None | Some d ↦ Some d.at ]) ≡ p →
    (elim (cond a (Some c) o) as (λ x. Option ℕ) [ None ↦ None | Some d ↦ Some d.at ]) ≡ (if b then Some c.at else p)
one_more true true c o p e h = refl
one_more true false c o p e h = absurd cc
one_more false true c o p e h = absurd cc
one_more false false c o p e h = h

first_found : (items : List TopItem) (w : List ℕ) → AreWeights items w → (cs : List CallSite) → (elim (find (lacks_body source_names items) cs) [ None ↦ None | Some c ↦ Some c.at ]) ≡ first_lacking w cs
first_found items w h [] = refl
first_found items w h (c ∷ cs) = one_more (lacks_body source_names items c) (lacks w c.name) c (find (lacks_body source_names items) cs) (first_lacking w cs) (same_test items w h c) (first_found items w h cs)

pub first_without : (items : List TopItem) (w : List ℕ) → AreWeights items w → first_without_body source_names items ≡ first_lacking w (flat_map body_calls (bodies items))
first_without items w h = first_found items w h (flat_map body_calls (bodies items))
