-- Variables that are written, and those of a call.
use Rattle.std.proofs.Common.{◌≡◌, ◌≢◌, ◌<◌, ℕ, zero, suc, ◌∙◌, ap, refl, arith, List, [], ◌∷◌, ◌++◌, map, length, Option, None, Some, Bool, if◌then◌else◌, ◌==◌, get_or, set, slice_get, get_or-set_same, get_or-set_other}
use Rattle.std.proofs.Math.Path.{fun_ext}
use Rattle.mid_blocks.specs.Run.{Variables, with_word}
use Rattle.test_oracle.specs.Locals.{variables_of}

-- a variable more that has no word
pub padded : (words : List (Option ℕ)) → variables_of (words ++ None ∷ []) ≡ variables_of words
padded words = fun_ext (at words)
  where
    at : (words : List (Option ℕ)) (v : ℕ) → get_or (words ++ None ∷ []) v None ≡ get_or words v None
    at [] zero = refl
    at [] (suc v) = refl
    at (word ∷ words) zero = refl
    at (word ∷ words) (suc v) = at words v

-- a word is put in its place
pub written : (words : List (Option ℕ)) (to word : ℕ) → to < length words → variables_of (set words to (Some word)) ≡ with_word (variables_of words) to word
written words to word small = fun_ext (at words to small)
  where
    at : (words : List (Option ℕ)) (to : ℕ) → to < length words → (v : ℕ) → get_or (set words to (Some word)) v None ≡ with_word (variables_of words) to word v
    at words to small v = grind (arith, get_or-set_same words to (Some word) None small, get_or-set_other words to v (Some word) None)

-- the words of arguments are the parameters
pub parameters : (word : ℕ → ℕ) (args : List ℕ) → variables_of (map (λ arg. Some (word arg)) args) ≡ slice_get (map word args)
parameters word args = fun_ext (at args)
  where
    at : (args : List ℕ) (v : ℕ) → get_or (map (λ arg. Some (word arg)) args) v None ≡ slice_get (map word args) v
    at [] v = refl
    at (arg ∷ args) zero = refl
    at (arg ∷ args) (suc v) = at args v

pub ruleset variable_rules = (padded, written, parameters)
