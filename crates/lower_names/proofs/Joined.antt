-- The variables at file scope, declaration by declaration, and how many words an array has.
use Rattle.std.proofs.Common.{◌≡◌, ℕ, zero, suc, ◌<◌, ◌++◌, List, [], ◌∷◌, length, take, map, refl, ap, ◌∙◌, sym, arith, flat_map}
use Rattle.std.proofs.lemmas.List.{map-append}
use Rattle.c_syntax.specs.declared.tree.TopItem.{TopItem}
use Rattle.c_meaning.specs.Run.{Global}
use Rattle.c_meaning.specs.Meaning.{padded, globals, globals_of}
use Rattle.lower_rules.specs.Programs.{object_words, shape_of, shapes}
use Rattle.lower_names.specs.Files.{item_shapes, words_of, item_words}

map_flat : {B : Type 0} (f : Global → B) (xs : List TopItem) → flat_map (λ x. map f (globals_of x)) xs ≡ map f (flat_map globals_of xs)
map_flat f [] = refl
map_flat {B} f (x ∷ xs) = ap (λ (bs : List B). map f (globals_of x) ++ bs) (map_flat f xs) ∙ sym (map-append f (globals_of x) (flat_map globals_of xs))

pub shapes_joined : (items : List TopItem) → flat_map item_shapes items ≡ shapes items
shapes_joined items = map_flat shape_of items

pub words_joined : (items : List TopItem) → flat_map item_words items ≡ map (λ g. object_words g.object) (globals items)
words_joined items = map_flat words_of items

-- ---- padded words

pub padded_length : (n : ℕ) (ws : List ℕ) → length (padded n ws) ≡ n
padded_length zero ws = refl
padded_length (suc n) [] = ap (λ k. suc k) (padded_length n [])
padded_length (suc n) (w ∷ ws) = ap (λ k. suc k) (padded_length n ws)

pub padded_take : (n : ℕ) (ws : List ℕ) → padded n (take n ws) ≡ padded n ws
padded_take zero ws = refl
padded_take (suc n) [] = refl
padded_take (suc n) (w ∷ ws) = ap (λ l. w ∷ l) (padded_take n ws)

pub padded_push : (n : ℕ) (ws : List ℕ) → length ws < n → padded n (ws ++ 0 ∷ []) ≡ padded n ws
padded_push zero ws l = absurd (omega arith)
padded_push (suc n) [] l = refl
padded_push (suc n) (w ∷ ws) l = ap (λ l. w ∷ l) (padded_push n ws (omega arith))

pub padded_all : (n : ℕ) (ws : List ℕ) → length ws ≡ n → ws ≡ padded n ws
padded_all zero [] e = refl
padded_all zero (w ∷ ws) e = absurd (omega arith)
padded_all (suc n) [] e = absurd (omega arith)
padded_all (suc n) (w ∷ ws) e = ap (λ l. w ∷ l) (padded_all n ws (omega arith))
