-- The places of names in a scope.
use Rattle.std.proofs.Common.{Less, Equal, Greater, ◌≡◌, ℕ, zero, suc, ◌<◌, Bool, true, false, cond, List, [], ◌∷◌, ◌++◌, length, reverse, Option, Some, None, option_map, nat_lt, refl, sym, ap, ◌∙◌, if◌then◌else◌, ◌==◌, length-append, arith}
use Rattle.std.proofs.lemmas.List.{reverse-append}
use Rattle.std.proofs.lemmas.Bool.{ne_eqb}
use Rattle.std.specs.BTreeMap.{BTreeMap, get, is_at}
use Rattle.std.specs.List.{slice_get}
use Rattle.std.specs.Ordering.{nat_cmp, is_eq}
use borrow.Author.Tests.{ltb-true}
use Rattle.check_rules.specs.declared.names.Binding.{Binding}
use Rattle.check_rules.specs.Scopes.{lookup}
use Rattle.check_scopes.specs.Lookup.{IsPlace, HasPlaces}

get_before : (bs : List Binding) (b : Binding) (i : ℕ) → i < length bs → slice_get (bs ++ b ∷ []) i ≡ slice_get bs i
get_before [] b i lt = absurd (omega arith)
get_before (x ∷ bs) b zero lt = refl
get_before (x ∷ bs) b (suc i) lt = get_before bs b i (omega arith)

get_last : (bs : List Binding) (b : Binding) → slice_get (bs ++ b ∷ []) (length bs) ≡ Some b
get_last [] b = refl
get_last (x ∷ bs) b = get_last bs b

lookup_push : (n : ℕ) (bs : List Binding) (b : Binding) → lookup n (reverse (bs ++ b ∷ [])) ≡ (if b.name == n then Some b.known else lookup n (reverse bs))
lookup_push n bs b = ap (lookup n) (reverse-append bs (b ∷ []))

same_number : (a b : ℕ) → is_eq (nat_cmp a b) ≡ (a == b)
same_number a b = by (nat_lt a b) refl
  where
    equal : (t : Bool) → is_eq (cond t Equal Greater) ≡ t
    equal true = refl
    equal false = refl

    by : (t : Bool) → nat_lt a b ≡ t → is_eq (cond t Less (cond (a == b) Equal Greater)) ≡ (a == b)
    by true e = sym (ne_eqb a b (λ q. let lt : a < b = ltb-true a b e in omega (arith, q)))
    by false e = equal (a == b)

-- the place of a name after a new binding
pub place_pushed : (n : ℕ) (bs : List Binding) (b : Binding) (old : Option ℕ) → IsPlace n bs old → IsPlace n (bs ++ b ∷ []) (if b.name == n then Some (length bs) else old)
place_pushed n bs b old was = by (b.name == n) (lookup_push n bs b) old was
  where
    by : (same : Bool) → lookup n (reverse (bs ++ b ∷ [])) ≡ cond same (Some b.known) (lookup n (reverse bs)) → (o : Option ℕ) → IsPlace n bs o → IsPlace n (bs ++ b ∷ []) (cond same (Some (length bs)) o)
    by true e o w = (omega (arith, length-append bs (b ∷ [])), ap (option_map (λ (x : Binding). x.known)) (get_last bs b) ∙ sym e)
    by false e None w = e ∙ w
    by false e (Some i) (lt, w) = (omega (arith, lt, length-append bs (b ∷ [])), ap (option_map (λ (x : Binding). x.known)) (get_before bs b i lt) ∙ w ∙ sym e)

-- the places after a new binding
pub places_pushed : (places places' : BTreeMap ℕ ℕ) (bs bs' : List Binding) (b : Binding) (place : ℕ) → HasPlaces places bs → place ≡ length bs → bs' ≡ bs ++ b ∷ [] → ((q : ℕ) → get nat_cmp places' q ≡ cond (is_at (nat_cmp b.name) q) (Some place) (get nat_cmp places q)) → HasPlaces places' bs'
places_pushed places places' bs bs' b place had is pushed updates = λ n.
    let e : get nat_cmp places' n ≡ cond (b.name == n) (Some (length bs)) (get nat_cmp places n) =
    updates n ∙ ap (λ t. cond t (Some place) (get nat_cmp places n)) (same_number b.name n) ∙ ap (λ k. cond (b.name == n) (Some k) (get nat_cmp places n)) is in
    rw (pushed, e) (place_pushed n bs b (get nat_cmp places n) (had n))
