-- The first function of a list that passes a test, from the parts of the list.
use Rattle.std.proofs.Common.{◌≡◌, ℕ, ◌+◌, ◌<◌, Bool, true, false, ◌&&◌, ◌==◌, nat_lt, cond, List, [], ◌∷◌, ◌++◌, take, drop, length, get_or, Option, Some, None, refl, sym, ap, ◌∙◌}
use Rattle.std.specs.List.{find}
use Rattle.std.specs.Option.{option_or}
use Rattle.std.proofs.lemmas.List.{take_more, drop_more, take-append-drop}
use Rattle.std.proofs.lemmas.List.Concat.{flat_map-append}
use Rattle.c_syntax.specs.declared.tree.Function.{Function}
use Rattle.c_syntax.specs.declared.tree.TopItem.{TopItem}
use Rattle.c_syntax.specs.Costs.{function_weight}
use Rattle.c_syntax.specs.Graph.{functions, functions_of, has_body, function_named}
use Rattle.check_rules.specs.Limits.{bodies, most_weight, first_too_heavy}
use Rattle.check_limits.proofs.CallSites.{bodies_more}

one_more : {A : Type 0} (b : Bool) (a : A) (l m r : Option A) → l ≡ option_or m r → cond b (Some a) l ≡ option_or (cond b (Some a) m) r
one_more true a l m r e = refl
one_more false a l m r e = e

find_append : {A : Type 0} (p : A → Bool) (xs ys : List A) → find p (xs ++ ys) ≡ option_or (find p xs) (find p ys)
find_append p [] ys = refl
find_append p (x ∷ xs) ys = one_more (p x) x (find p (xs ++ ys)) (find p xs) (find p ys) (find_append p xs ys)

named_append : (name : ℕ) (xs ys : List TopItem) → function_named name (xs ++ ys) ≡ option_or (function_named name xs) (function_named name ys)
named_append name xs ys = ap (find (λ f. f.name == name && has_body f.body)) (flat_map-append functions_of xs ys) ∙ find_append (λ f. f.name == name && has_body f.body) (functions xs) (functions ys)

pub named_not : (name : ℕ) (items : List TopItem) (i : ℕ) (item : TopItem) → i < length items → item ≡ get_or items i item → function_named name (take i items) ≡ None → None ≡ function_named name (item ∷ []) → function_named name (take (i + 1) items) ≡ None
named_not name items i item lt is before none =
    ap (function_named name) (take_more items i item lt ∙ ap (λ x. take i items ++ x ∷ []) (sym is)) ∙ named_append name (take i items) (item ∷ []) ∙ ap (λ o. option_or o (function_named name (item ∷ []))) before ∙ sym none

pub named_found : (name : ℕ) (items : List TopItem) (i : ℕ) (item : TopItem) (f : Function) → i < length items → item ≡ get_or items i item → function_named name (take i items) ≡ None → Some f ≡ function_named name (item ∷ []) → Some f ≡ function_named name items
named_found name items i item f lt is before found =
    sym (ap (function_named name) (sym (take-append-drop i items) ∙ ap (λ l. take i items ++ l) (drop_more items i item lt ∙ ap (λ x. x ∷ drop (i + 1) items) (sym is))) ∙ named_append name (take i items) (item ∷ drop (i + 1) items)
    ∙ ap (λ o. option_or o (function_named name (item ∷ drop (i + 1) items))) before ∙ named_append name (item ∷ []) (drop (i + 1) items) ∙ ap (λ o. option_or o (function_named name (drop (i + 1) items))) (sym found))

-- ---- the first that is too heavy

heavy_or : (a b : Option Function) → (elim (option_or a b) [ None ↦ None | Some f ↦ Some f.at ]) ≡ option_or (elim a [ None ↦ None | Some f ↦ Some f.at ]) (elim b [ None ↦ None | Some f ↦ Some f.at ])
heavy_or None b = refl
heavy_or (Some f) b = refl

pub heavy_more : (items : List TopItem) (i : ℕ) (item : TopItem) (l r o : Option ℕ) → i < length items → item ≡ get_or items i item →
    l ≡ first_too_heavy (take i items) → r ≡ first_too_heavy (item ∷ []) → o ≡ option_or l r → o ≡ first_too_heavy (take (i + 1) items)
heavy_more items i item l r o lt is p q h =
    h ∙ ap (λ a. option_or a r) p ∙ ap (option_or (first_too_heavy (take i items))) q
    ∙ sym (ap (λ fs. elim (find (λ f. nat_lt most_weight (function_weight f)) fs) [ None ↦ None | Some f ↦ Some f.at ]) (bodies_more items i item lt is)
    ∙ ap (λ o. elim o [ None ↦ None | Some f ↦ Some f.at ]) (find_append (λ f. nat_lt most_weight (function_weight f)) (bodies (take i items)) (bodies (item ∷ [])))
    ∙ heavy_or (find (λ f. nat_lt most_weight (function_weight f)) (bodies (take i items))) (find (λ f. nat_lt most_weight (function_weight f)) (bodies (item ∷ []))))
