-- The names of functions with bodies: whether some item defines such a name.
use Rattle.std.proofs.Common.{◌≡◌, ℕ, ◌≤◌, Bool, true, false, cond, ◌&&◌, ◌||◌, ◌==◌, List, [], ◌∷◌, length, take, Option, Some, is_some, refl, sym, ap, ◌∙◌}
use Rattle.std.specs.List.{list_any}
use Rattle.std.proofs.lemmas.List.{take_all}
use Rattle.c_syntax.specs.declared.tree.Function.{Function}
use Rattle.c_syntax.specs.declared.tree.TopItem.{TopItem}
use Rattle.c_syntax.specs.declared.tree.TopItem.TheVariants as item
use Rattle.c_syntax.specs.Graph.{has_body, function_named, defines}
use Rattle.check_rules.specs.Walk.{has_body_in}

first_or : (b : Bool) (f : Function) (o : Option Function) → is_some (cond b (Some f) o) ≡ (b || is_some o)
first_or true f o = refl
first_or false f o = refl

body_defined : (items : List TopItem) (name : ℕ) → list_any (defines name) items ≡ has_body_in items name
body_defined [] name = refl
body_defined (item.Globals gs ∷ is) name = body_defined is name
body_defined (item.Function f ∷ is) name =
    ap (λ b. (f.name == name && has_body f.body) || b) (body_defined is name) ∙ sym (first_or (f.name == name && has_body f.body) f (function_named name is))

-- after the last item
pub all_defined : (items : List TopItem) (n name : ℕ) → length items ≤ n → list_any (defines name) (take n items) ≡ has_body_in items name
all_defined items n name end = ap (list_any (defines name)) (take_all n items end) ∙ body_defined items name
